use borrow.Author.Rules.{rules}
use Rattle.script.specs.Text.{bytes_of}
use Rattle.script.proofs.Texts.{row-two, row-four}
use Rattle.script.proofs.write_record.Goals as goal

pub returns-in-Enters : goal.returns-in-Enters
unfolding bytes_of
returns-in-Enters c = let w = c.write_row.ensures in (rw (c.in-Enters.is, ← row-two) w.0, search rules)

pub returns-in-Takes : goal.returns-in-Takes
unfolding bytes_of
returns-in-Takes c = let w = c.write_row-in-Takes.ensures in (rw (c.in-Takes.is, ← row-four) w.0, search rules)

pub returns-in-Delivers : goal.returns-in-Delivers
unfolding bytes_of
returns-in-Delivers c = let w = c.write_row-in-Delivers.ensures in (rw (c.in-Delivers.is, ← row-four) w.0, search rules)

pub returns-in-Refuses : goal.returns-in-Refuses
unfolding bytes_of
returns-in-Refuses c = let w = c.write_row-in-Refuses.ensures in (rw (c.in-Refuses.is, ← row-two) w.0, search rules)

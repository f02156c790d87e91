-- The paper's script and its whole output.
use mathlib.Core.Path.{◌≡◌, refl}
use mathlib.Core.List.{List, [], ◌∷◌}
use Rattle.base.specs.Choice.{pick, both, either, upd, upd₂, all_below}
use Rattle.base.specs.Quorum.{just, weight, quorum}
use Rattle.base.specs.Transaction.{id_at, next_counter, follows, rising, good_hist, same_txn, same_hist}
use Rattle.base.specs.Record.{E, B, «V», X, Entry}
use Rattle.base.specs.declared.Sizes.{Sizes}
use Rattle.rules.specs.Message.{positive, formed}
use Rattle.rules.specs.Table.{table, cell}
use Rattle.rules.specs.Tree.{run, gate, to_all}
use Rattle.rules.specs.Step.{keeps, on_oracle, on_restart, l1_join, l2_join, l34_join, on_cepoch, beats, l2_count, on_acke, advance, advanced, l3_sync, l4_advance, on_ackld, on_ack, on_newepoch, on_newleader, on_propose, on_commit, receive, on_submit, step}
use Rattle.rules.specs.Cluster.{start, Event, O, D, S, emptied, post, roomy, drops, answer, at, hand, event, after, enters, begun, newly, records, trace}

three : Sizes
three = record { n = 3; room = record { 0 = 16 } }

script : List Event
script = O 0 0 ∷ O 1 0 ∷ O 2 0 ∷ D 1 0 ∷ D 0 1 ∷ D 1 0 ∷ D 0 1 ∷ D 1 0 ∷ S 0 40 ∷ D 0 1 ∷ D 0 1 ∷ D 1 0 ∷ D 0 1 ∷ D 0 2 ∷ D 2 0 ∷ []

forty : Entry
forty = record { ep = 1; ct = 1; vl = 40 }

-- line 1 is N 3
sample : trace three 4 start 2 script ≡ E 0 1 ∷ B 0 forty ∷ «V» 0 forty ∷ «V» 1 forty ∷ X 15 2 ∷ []
unfolding three script forty pick both either upd upd₂ all_below just weight quorum id_at next_counter follows rising good_hist same_txn same_hist positive formed table cell run gate to_all keeps on_oracle on_restart l1_join l2_join l34_join on_cepoch beats l2_count on_acke advance advanced l3_sync l4_advance on_ackld on_ack on_newepoch on_newleader on_propose on_commit receive on_submit step start emptied post roomy drops answer at hand event after enters begun newly records trace
sample = refl

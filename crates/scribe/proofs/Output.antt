-- The whole output of a script: it goes on line by line; and the paper's, from its bytes to its bytes.
use Prim.Native.Nat.{ℕ, suc}
use mathlib.Core.Path.{◌≡◌, refl}
use mathlib.Core.List.{List, [], ◌∷◌, ◌++◌}
use Rattle.base.specs.Choice.{pick, both, either, upd, upd₂, all_below}
use Rattle.base.specs.Quorum.{just, weight, quorum}
use Rattle.base.specs.Transaction.{id_at, next_counter, follows, rising, good_hist, same_txn, same_hist}
use Rattle.base.specs.declared.Sizes.{Sizes}
use Rattle.rules.specs.Message.{positive, formed}
use Rattle.rules.specs.Table.{table, cell}
use Rattle.rules.specs.Tree.{run, gate, to_all}
use Rattle.rules.specs.Step.{keeps, on_oracle, on_restart, l1_join, l2_join, l34_join, on_cepoch, beats, l2_count, on_acke, advance, advanced, l3_sync, l4_advance, on_ackld, on_ack, on_newepoch, on_newleader, on_propose, on_commit, receive, on_submit, step}
use Rattle.rules.specs.Cluster.{Cluster, start, Event, emptied, post, roomy, drops, answer, at, hand, event, after, enters, begun, newly, records, trace}
use Rattle.script.specs.Line.{grow, fields, shift, next, after as digits_after, misled, number, one_number, two_numbers, numbers_of, command_of, line_of}
use Rattle.script.specs.Text.{digits_in, digits, spaced, ending, two, four, header, bytes_of}
use Rattle.scribe.specs.Telling.{text, event_for, output_after, output_of}
use Rattle.scribe.proofs.Notes.{text-append}

-- what `tell` writes for a line, and then what the lines after it leave
pub output-goes-on : (z : Sizes) (depth : ℕ) (c : Cluster) (line : ℕ) (e : Event) (es : List Event)
    → text (trace z depth c line (e ∷ es)) ≡ text (records line (event z depth c e)) ++ text (trace z depth (after (event z depth c e)) (suc line) es)
unfolding trace
output-goes-on z depth c line e es = text-append (records line (event z depth c e)) (trace z depth (after (event z depth c e)) (suc line) es)

-- the paper's script, a line each
pub lines : List (List ℕ)
lines =
    (78 ∷ 32 ∷ 51 ∷ []) ∷ (79 ∷ 32 ∷ 48 ∷ 32 ∷ 48 ∷ []) ∷ (79 ∷ 32 ∷ 49 ∷ 32 ∷ 48 ∷ []) ∷ (79 ∷ 32 ∷ 50 ∷ 32 ∷ 48 ∷ []) ∷
    (68 ∷ 32 ∷ 49 ∷ 32 ∷ 48 ∷ []) ∷ (68 ∷ 32 ∷ 48 ∷ 32 ∷ 49 ∷ []) ∷ (68 ∷ 32 ∷ 49 ∷ 32 ∷ 48 ∷ []) ∷ (68 ∷ 32 ∷ 48 ∷ 32 ∷ 49 ∷ []) ∷
    (68 ∷ 32 ∷ 49 ∷ 32 ∷ 48 ∷ []) ∷ (83 ∷ 32 ∷ 48 ∷ 32 ∷ 52 ∷ 48 ∷ []) ∷ (68 ∷ 32 ∷ 48 ∷ 32 ∷ 49 ∷ []) ∷ (68 ∷ 32 ∷ 48 ∷ 32 ∷ 49 ∷ []) ∷
    (68 ∷ 32 ∷ 49 ∷ 32 ∷ 48 ∷ []) ∷ (68 ∷ 32 ∷ 48 ∷ 32 ∷ 49 ∷ []) ∷ (68 ∷ 32 ∷ 48 ∷ 32 ∷ 50 ∷ []) ∷ (68 ∷ 32 ∷ 50 ∷ 32 ∷ 48 ∷ []) ∷
    []

pub sample-output : output_of lines ≡
    84 ∷ 82 ∷ 67 ∷ 32 ∷ 49 ∷ 32 ∷ 51 ∷ 10 ∷ 69 ∷ 32 ∷ 48 ∷ 32 ∷ 49 ∷ 10 ∷ 66 ∷ 32 ∷ 48 ∷ 32 ∷ 49 ∷ 32 ∷
    49 ∷ 32 ∷ 52 ∷ 48 ∷ 10 ∷ 86 ∷ 32 ∷ 48 ∷ 32 ∷ 49 ∷ 32 ∷ 49 ∷ 32 ∷ 52 ∷ 48 ∷ 10 ∷ 86 ∷ 32 ∷ 49 ∷ 32 ∷
    49 ∷ 32 ∷ 49 ∷ 32 ∷ 52 ∷ 48 ∷ 10 ∷ 88 ∷ 32 ∷ 49 ∷ 53 ∷ 32 ∷ 50 ∷ 10 ∷
    []
unfolding lines text event_for output_after output_of grow fields shift next digits_after misled number one_number two_numbers numbers_of command_of line_of digits_in digits spaced ending two four header bytes_of pick both either upd upd₂ all_below just weight quorum id_at next_counter follows rising good_hist same_txn same_hist positive formed table cell run gate to_all keeps on_oracle on_restart l1_join l2_join l34_join on_cepoch beats l2_count on_acke advance advanced l3_sync l4_advance on_ackld on_ack on_newepoch on_newleader on_propose on_commit receive on_submit step start emptied post roomy drops answer at hand event after enters begun newly records trace
sample-output = refl

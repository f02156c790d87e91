-- The paper's cases P1 to P10, of the definitions: one table, one statement.
use Prim.Native.Nat.{ℕ}
use mathlib.Core.Path.{◌≡◌, refl}
use mathlib.Core.Bool.{true}
use mathlib.Core.List.{List, [], ◌∷◌, map}
use lib.Dec.{leb}
use lib.ListN.{length}
use Rattle.base.specs.Choice.{pick, both, either, upd}
use Rattle.base.specs.Quorum.{nobody, just, weight, quorum}
use Rattle.base.specs.Transaction.{Hist, LAST, ident, id_at, last_id, next_counter, follows, rising, good_hist, same_txn, same_hist}
use Rattle.base.specs.Refusals.{GAP, UNDO, FULL, SPENT}
use Rattle.base.specs.declared.Txn.{Txn}
use Rattle.base.specs.declared.Sizes.{Sizes}
use Rattle.rules.specs.Message.{cepoch, newepoch, acke, newleader, propose, commit, positive, formed}
use Rattle.rules.specs.Server.{Server, Vol, idle, fresh, F1, F2, F4, L1, L2, L4}
use Rattle.rules.specs.Table.{table, cell}
use Rattle.rules.specs.Tree.{Res, refused, taken, run, gate, to_all}
use Rattle.rules.specs.Step.{keeps, l1_join, l2_join, l34_join, on_cepoch, beats, l2_count, on_acke, on_newepoch, on_newleader, on_propose, on_commit, receive, on_submit, message, submit, step}

-- the number of the refusal, 0 if there is none
code : Res → ℕ
code (refused k) = k
code (taken b s out) = 0

next : Res → Server
next (refused k) = fresh
next (taken b s out) = s

sent : Res → ℕ
sent (refused k) = 0
sent (taken b s out) = length out

sizes : ℕ → ℕ → Sizes
sizes n H = record { n = n; room = record { 0 = H } }

txn : ℕ → ℕ → Txn
txn e c = record { id = record { 0 = ident e c }; val = 7 }

-- server 0: leader where it has joined itself, else follower of 1
server : (stage p a d : ℕ) → Hist → Vol → Server
server stage p a d h v = record { dur = record { p = p; a = a; d = d; hist = h }; stage = stage; orc = pick (leb L1 stage) 1 2; vol = v }

leading : (largest a : ℕ) → Hist → Vol
leading g a h = record { joined = upd (just 0) 1 true; acked = just 0; synced = nobody; largest = g; cand_epoch = a; cand_hist = h; counts = λ _. 0 }

-- a message from 1 to server 0 of n with room for 2
hear : ℕ → Server → Rattle.rules.specs.Message.Msg → Res
hear n s m = run (step (sizes n 2) 0 (message 1 m) s)

-- ---- the cases: what the definitions give, and what the paper tells

record Case : Type 0 where
  given : List ℕ
  told : List ℕ

-- the candidate after an ACK-E
candidate : Res → List ℕ
candidate r = code r ∷ (next r).vol.cand_epoch ∷ last_id (next r).vol.cand_hist ∷ []

P1 : Case
P1 = record { given = pick (quorum 4 (upd (just 0) 1 true)) 1 0 ∷ pick (quorum 4 (upd (upd (just 0) 1 true) 2 true)) 1 0 ∷ []; told = 0 ∷ 1 ∷ [] }

P2 : Case
P2 = record { given = candidate (hear 5 (server L2 3 1 0 (txn 1 3 ∷ []) (leading 0 1 (txn 1 3 ∷ []))) (acke 3 2 (txn 1 1 ∷ []))); told = 0 ∷ 2 ∷ ident 1 1 ∷ [] }

-- the values tell the two apart: 7 is the earlier one's
P3 : Case
P3 = record {
  given = map (λ t. t.val) (next (hear 5 (server L2 3 1 0 (txn 1 1 ∷ []) (leading 0 1 (txn 1 1 ∷ []))) (acke 3 1 (record { id = record { 0 = ident 1 1 }; val = 8 } ∷ [])))).vol.cand_hist;
  told = 7 ∷ [];
}

P4 : Case
P4 = record { given = let r = hear 3 (server L1 4294967294 0 0 [] (record { joined = just 0; acked = nobody; synced = nobody; largest = 4294967294; cand_epoch = 0; cand_hist = []; counts = λ _. 0 })) (cepoch 0) in code r ∷ (next r).dur.p ∷ []; told = 0 ∷ LAST ∷ [] }

P5 : Case
P5 = record { given = code (hear 3 (server L1 LAST 0 0 [] (record { joined = just 0; acked = nobody; synced = nobody; largest = LAST; cand_epoch = 0; cand_hist = []; counts = λ _. 0 })) (cepoch 0)) ∷ []; told = SPENT ∷ [] }

P6 : Case
P6 = record { given = let r = hear 3 (server F1 4 0 0 [] idle) (newepoch 4) in code r ∷ (next r).stage ∷ sent r ∷ []; told = 0 ∷ F2 ∷ 0 ∷ [] }

P7 : Case
P7 = record { given = code (hear 3 (server F4 1 1 0 [] idle) (propose 1 2 (txn 1 1))) ∷ []; told = GAP ∷ [] }

P8 : Case
P8 = record { given = code (run (step (sizes 3 2) 0 (submit 5) (server L4 1 1 0 (txn 1 1 ∷ txn 1 2 ∷ []) idle))) ∷ []; told = FULL ∷ [] }

P9 : Case
P9 = record { given = let r = hear 3 (server F4 1 1 2 (txn 1 1 ∷ txn 1 2 ∷ []) idle) (commit 1 1) in code r ∷ (next r).dur.d ∷ length (next r).dur.hist ∷ (next r).stage ∷ sent r ∷ []; told = 0 ∷ 2 ∷ 2 ∷ F4 ∷ 0 ∷ [] }

P10 : Case
P10 = record { given = code (hear 3 (server F2 2 1 2 (txn 1 1 ∷ txn 1 2 ∷ []) idle) (newleader 2 (txn 1 1 ∷ []))) ∷ []; told = UNDO ∷ [] }

cases : List Case
cases = P1 ∷ P2 ∷ P3 ∷ P4 ∷ P5 ∷ P6 ∷ P7 ∷ P8 ∷ P9 ∷ P10 ∷ []

as-told : map (λ c. c.given) cases ≡ map (λ c. c.told) cases
unfolding cases P1 P2 P3 P4 P5 P6 P7 P8 P9 P10 candidate hear leading server txn sizes sent next code pick both either upd just weight quorum id_at next_counter follows rising good_hist same_txn same_hist positive formed table cell run gate to_all keeps l1_join l2_join l34_join on_cepoch beats l2_count on_acke on_newepoch on_newleader on_propose on_commit receive on_submit step
as-told = refl

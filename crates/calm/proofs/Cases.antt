-- The counts, and instances: what is asked can be met.
use Prim.Native.Nat.{ℕ, zero, suc, ◌-◌, ◌*◌, ◌≤◌, ◌<◌}
use native.Mathlib.Omega.{arith}
use mathlib.Core.Path.{◌≡◌, refl, sym, ◌∙◌}
use mathlib.Core.Logic.{◌≢◌, ⊎_elim}
use mathlib.Core.Bool.{Bool, true, not}
use mathlib.Core.List.{List, [], ◌∷◌}
use lib.Dec.{eqb, ltb}
use lib.ListN.{length}
use borrow.Author.Tests.{eq-eqb, ne_eqb, lt-ltb, le-ltb, ltb-true}
use Rattle.base.specs.Choice.{pick, both, either, upd, upd₂, all_below}
use Rattle.base.specs.Quorum.{Set, weight, just, quorum}
use Rattle.base.specs.Transaction.{id_at, next_counter, follows, rising, good_hist, same_txn, same_hist}
use Rattle.base.specs.Refusals.{UNDO}
use Rattle.base.specs.declared.Sizes.{Sizes}
use Rattle.base.proofs.Choice.{eq-or, le-or-lt}
use Rattle.rules.specs.Message.{Msg, formed, positive}
use Rattle.rules.specs.Server.{F4, L4}
use Rattle.rules.specs.Table.{cell, table}
use Rattle.rules.specs.Tree.{run, gate, to_all}
use Rattle.rules.specs.Step.{step, receive, on_oracle, on_cepoch, l1_join, l2_join, l34_join, on_acke, beats, l2_count, on_ackld, l3_sync, l4_advance, advanced, advance, on_ack, on_newepoch, on_newleader, keeps, on_propose, on_commit, on_submit}
use Rattle.rules.specs.Cluster.{Cluster, Event, O, D, S, told, start, emptied, post, roomy, drops, answer, at, hand, event, after, play, is_done}
use Rattle.calm.specs.Calm.{Reached, below, Crew, among, Others, naming, all_done, Lively, Recovered, Round}
use Rattle.calm.proofs.Theorem.{calm_run, quorum-run}

-- ---- every server but x can be named

unfoldable pub rest : ℕ → ℕ → List ℕ
rest zero x = []
rest (suc n) x = pick (eqb n x) (rest n x) (n ∷ rest n x)

ltb-suc : (i n : ℕ) → i ≢ n → ltb i (suc n) ≡ ltb i n
ltb-suc i n ne = ⊎_elim (λ (k : n ≤ i). le-ltb i (suc n) (omega arith) ∙ sym (le-ltb i n k)) (λ (k : i < n). lt-ltb i (suc n) (omega arith) ∙ sym (lt-ltb i n k)) (le-or-lt n i)

pub all_others : (n x : ℕ) → Others (below n) x (rest n x)
unfolding rest among pick both either
all_others zero x i = rw (le-ltb i 0 (omega arith))
all_others (suc n) x i = ⊎_elim
    (λ (a : n ≡ x). rw (eq-eqb n x a) (all_others n x i ∙ ⊎_elim
    (λ (b : i ≡ n). rw (b, le-ltb n n (omega arith), lt-ltb n (suc n) (omega arith), eq-eqb n x a))
    (λ (b : i ≢ n). rw (ltb-suc i n b)) (eq-or i n)))
    (λ (a : n ≢ x). rw (ne_eqb n x a, all_others n x i) (⊎_elim
    (λ (b : i ≡ n). rw (b, eq-eqb n n refl, lt-ltb n (suc n) (omega arith), ne_eqb n x a))
    (λ (b : i ≢ n). rw (ne_eqb i n b, ltb-suc i n b)) (eq-or i n)))
    (eq-or n x)

-- ---- the counts

abbrev of : ℕ → Sizes
of n = record { n = n; room = record { 0 = 16 } }

count-3 : 6 * ((of 3).n - 1) ≡ 12
count-3 = refl

count-7 : 6 * ((of 7).n - 1) ≡ 36
count-7 = refl

-- ---- from fresh servers, where nothing waits

fresh_start : (z : Sizes) (depth : ℕ) → Reached z depth start
unfolding play
fresh_start z depth = record { events = []; played = refl }

module _ (n x : ℕ) (two : 2 ≤ n) (hx : x < n)
    (never : (c : Cluster) → Reached (of n) 4 c → (e : Event) (c' : Cluster) → event (of n) 4 c e ≢ told UNDO c')
    (proper : (c : Cluster) → Reached (of n) 4 c → (f t : ℕ) → f < n → t < n → (m : Msg) (r : List Msg) → c.chan f t ≡ m ∷ r → formed (of n) m ≡ true) where
  fresh-run : (es : List Event) → Lively (of n) 4 (below n) (play (of n) 4 start (naming x (rest n x))) es
      → Round (of n) 4 (below n) start (play (of n) 4 start (naming x (rest n x))) es (6 * (n - 1)) (Recovered (below n) x 1)
  unfolding start
  fresh-run es lively = calm_run (of n) 4 two (omega arith) never proper x hx start (fresh_start (of n) 4) (λ i h. omega arith) (omega arith) (rest n x) (all_others n x) es lively

-- two of three servers, 0 and 1, are a quorum
pair : Crew 3 0 (below 2)
unfolding quorum weight pick
pair = record { inside = λ s e. omega (arith, ltb-true s 2 e); mine = refl; enough = refl }

bare-run : ((c : Cluster) → Reached (of 3) 4 c → (e : Event) (c' : Cluster) → event (of 3) 4 c e ≢ told UNDO c')
    → ((c : Cluster) → Reached (of 3) 4 c → (f t : ℕ) → f < 3 → t < 3 → (m : Msg) (r : List Msg) → c.chan f t ≡ m ∷ r → formed (of 3) m ≡ true)
    → (es : List Event) → Lively (of 3) 4 (below 2) (play (of 3) 4 start (naming 0 (rest 2 0))) es
    → Round (of 3) 4 (below 2) start (play (of 3) 4 start (naming 0 (rest 2 0))) es 6 (Recovered (below 2) 0 1)
unfolding start weight pick
bare-run never proper = quorum-run (of 3) 4 (omega arith) (omega arith) never proper (below 2) 0 pair start (fresh_start (of 3) 4) (λ i h. omega arith) (omega arith) (rest 2 0) (all_others 2 0)

-- ---- the same by computation: deliveries one after the other, each taken

-- of the servers q: nothing waits between them, x is in L4 and all others in F4, and each has delivered k transactions, its whole history
unfoldable settled? : ℕ → Set → ℕ → ℕ → Cluster → Bool
settled? n q x k c =
    both (all_below n (λ a. all_below n (λ b. either (not (both (q a) (q b))) (eqb (length (c.chan a b)) 0))))
    (all_below n (λ i. either (not (q i)) (both (eqb (c.srv i).stage (pick (eqb i x) L4 F4)) (both (eqb (c.srv i).dur.d k) (eqb (length (c.srv i).dur.hist) k)))))

-- all that a run computes with
unfoldable computed : ℕ
unfolding settled? play all_done is_done after event hand at answer drops roomy post emptied start naming run step receive gate cell table to_all formed positive on_oracle on_cepoch l1_join l2_join l34_join on_acke beats l2_count on_ackld l3_sync l4_advance advanced advance on_ack on_newepoch on_newleader keeps on_propose on_commit on_submit quorum weight just pick both either upd upd₂ all_below id_at next_counter follows rising good_hist same_txn same_hist
computed = 0

-- from c: x is named, then deliveries es, each taken, settle q
abbrev Settles : ℕ → Set → ℕ → List ℕ → ℕ → Cluster → List Event → Type 0
Settles n q x fs k c es =
    (all_done (of n) 2 c (naming x fs) ≡ true)
    × (all_done (of n) 2 (play (of n) 2 c (naming x fs)) es ≡ true)
    × (settled? n q x k (play (of n) 2 (play (of n) 2 c (naming x fs)) es) ≡ true)

-- three fresh servers: 12 deliveries
run-3 : List Event
run-3 = D 1 0 ∷ D 2 0 ∷ D 0 1 ∷ D 0 2 ∷ D 1 0 ∷ D 2 0 ∷ D 0 1 ∷ D 0 2 ∷ D 1 0 ∷ D 2 0 ∷ D 0 1 ∷ D 0 2 ∷ []

taken-3 : (length run-3 ≡ 12) × Settles 3 (below 3) 0 (2 ∷ 1 ∷ []) 0 start run-3
unfolding run-3 computed
taken-3 = (refl, (refl, refl, refl))

-- seven: 36
run-7 : List Event
run-7 = D 0 3 ∷ D 1 3 ∷ D 2 3 ∷ D 4 3 ∷ D 5 3 ∷ D 6 3 ∷ D 3 0 ∷ D 3 1 ∷ D 3 2 ∷ D 3 4 ∷ D 3 5 ∷ D 3 6 ∷ D 0 3 ∷ D 1 3 ∷ D 2 3 ∷ D 4 3 ∷ D 5 3 ∷ D 6 3 ∷ D 3 0 ∷ D 3 1 ∷ D 3 2 ∷ D 3 4 ∷ D 3 5 ∷ D 3 6 ∷ D 0 3 ∷ D 1 3 ∷ D 2 3 ∷ D 4 3 ∷ D 5 3 ∷ D 6 3 ∷ D 3 0 ∷ D 3 1 ∷ D 3 2 ∷ D 3 4 ∷ D 3 5 ∷ D 3 6 ∷ []

taken-7 : (length run-7 ≡ 36) × Settles 7 (below 7) 3 (0 ∷ 1 ∷ 2 ∷ 4 ∷ 5 ∷ 6 ∷ []) 0 start run-7
unfolding run-7 computed
taken-7 = (refl, (refl, refl, refl))

-- server 0 was established with 1 and took a submission that no other has; then 1 is named, and hears 0 or 2 first
before : Cluster
before = play (of 3) 2 start (O 0 0 ∷ O 1 0 ∷ O 2 0 ∷ D 1 0 ∷ D 0 1 ∷ D 1 0 ∷ D 0 1 ∷ D 1 0 ∷ S 0 40 ∷ [])

run-0 : List Event
run-0 = D 0 1 ∷ D 2 1 ∷ D 1 0 ∷ D 1 2 ∷ D 0 1 ∷ D 2 1 ∷ D 1 0 ∷ D 1 2 ∷ D 0 1 ∷ D 2 1 ∷ D 1 0 ∷ D 1 2 ∷ []

run-2 : List Event
run-2 = D 2 1 ∷ D 0 1 ∷ D 1 2 ∷ D 1 0 ∷ D 2 1 ∷ D 0 1 ∷ D 1 2 ∷ D 1 0 ∷ D 2 1 ∷ D 0 1 ∷ D 1 2 ∷ D 1 0 ∷ []

taken-0 : (length run-0 ≡ 12) × Settles 3 (below 3) 1 (0 ∷ 2 ∷ []) 1 before run-0
unfolding before run-0 computed
taken-0 = (refl, (refl, refl, refl))

taken-2 : (length run-2 ≡ 12) × Settles 3 (below 3) 1 (2 ∷ 0 ∷ []) 0 before run-2
unfolding before run-2 computed
taken-2 = (refl, (refl, refl, refl))

-- a bare quorum of three: 6 deliveries, and server 2 is silent
run-q : List Event
run-q = D 0 1 ∷ D 1 0 ∷ D 0 1 ∷ D 1 0 ∷ D 0 1 ∷ D 1 0 ∷ []

taken-q : (length run-q ≡ 6) × Settles 3 (below 2) 1 (0 ∷ []) 1 before run-q
unfolding before run-q computed
taken-q = (refl, (refl, refl, refl))

-- a bare quorum of seven: 18 deliveries, and what waits from 6 to 5 goes on waiting
apart-7 : Cluster
apart-7 = play (of 7) 2 start (O 6 5 ∷ [])

run-q7 : List Event
run-q7 = D 0 3 ∷ D 1 3 ∷ D 2 3 ∷ D 3 0 ∷ D 3 1 ∷ D 3 2 ∷ D 0 3 ∷ D 1 3 ∷ D 2 3 ∷ D 3 0 ∷ D 3 1 ∷ D 3 2 ∷ D 0 3 ∷ D 1 3 ∷ D 2 3 ∷ D 3 0 ∷ D 3 1 ∷ D 3 2 ∷ []

taken-q7 : (length run-q7 ≡ 18) × Settles 7 (below 4) 3 (2 ∷ 0 ∷ 1 ∷ []) 0 apart-7 run-q7
    × (length ((play (of 7) 2 (play (of 7) 2 apart-7 (naming 3 (2 ∷ 0 ∷ 1 ∷ []))) run-q7).chan 6 5) ≡ 1)
unfolding apart-7 run-q7 computed
taken-q7 = (refl, (refl, refl, refl), refl)

-- and a submission then: 6 deliveries for three servers
run-s : List Event
run-s = D 0 1 ∷ D 0 2 ∷ D 2 0 ∷ D 1 0 ∷ D 0 2 ∷ D 0 1 ∷ []

taken-s : (length run-s ≡ 6) × (all_done (of 3) 2 (play (of 3) 2 (play (of 3) 2 start (naming 0 (2 ∷ 1 ∷ []))) run-3) (S 0 40 ∷ run-s) ≡ true)
    × (settled? 3 (below 3) 0 1 (play (of 3) 2 (play (of 3) 2 (play (of 3) 2 start (naming 0 (2 ∷ 1 ∷ []))) run-3) (S 0 40 ∷ run-s)) ≡ true)
unfolding run-3 run-s computed
taken-s = (refl, refl, refl)

-- The table and the step agree, for every kind and stage.
use Prim.Native.Nat.{ℕ, ◌-◌, ◌≤◌, ◌<◌}
use mathlib.Core.Path.{◌≡◌, refl}
use mathlib.Core.Logic.{◌≢◌, ⊎_elim}
use mathlib.Core.Bool.{Bool, true, false, not}
use mathlib.Core.List.{List, []}
use native.Mathlib.Omega.{arith}
use lib.Dec.{eqb, leb}
use lib.ListN.{length, get_or, get_or-eq_default}
use borrow.Author.Tests.{leb-true, eq-eqb, ne_eqb}
use Rattle.base.specs.Choice.{both, either, all_below}
use Rattle.base.specs.Refusals.{ROLE, SENDER, PHASE}
use Rattle.base.specs.declared.Sizes.{Sizes}
use Rattle.base.proofs.Choice.{le-or-lt, both_true, implied, all-at}
use Rattle.rules.specs.Message.{Msg, cepoch, newepoch, acke, newleader, ackld, commitld, propose, ack, commit, junk, kind}
use Rattle.rules.specs.Server.{Server}
use Rattle.rules.specs.Table.{TAKEN, table, cell}
use Rattle.rules.specs.Tree.{Tree, Res, refused, run, gate}
use Rattle.rules.specs.Step.{mine, receive}

-- ---- the stages in which each kind is taken

abbrev row : ℕ → List ℕ
row k = get_or table (k - 1) []

-- does row k say TAKEN in the stages lo to hi only?
only-in : ℕ → ℕ → ℕ → ℕ → Bool
only-in k lo hi st = either (not (eqb (get_or (row k) st ROLE) TAKEN)) (both (leb lo st) (leb st hi))

taken_in : (k lo hi : ℕ) → length (row k) ≡ 9 → all_below 9 (only-in k lo hi) ≡ true → (st : ℕ) → cell k st ≡ TAKEN → (lo ≤ st) × (st ≤ hi)
unfolding cell only-in
taken_in k lo hi len all st e = ⊎_elim
    (λ (x : 9 ≤ st). absurd (omega (arith, e, get_or-eq_default (row k) ROLE {n = st} (omega arith))))
    (λ (x : st < 9).
    let b = both_true (leb lo st) (leb st hi) (implied (eqb (get_or (row k) st ROLE) TAKEN) _ (all-at 9 (only-in k lo hi) all st x) (eq-eqb _ _ e)) in
    (leb-true lo st b.0, leb-true st hi b.1))
    (le-or-lt 9 st)

module _ (st : ℕ) where
  pub cepoch-in : cell 1 st ≡ TAKEN → (5 ≤ st) × (st ≤ 8)
  unfolding table all_below only-in both either
  cepoch-in = taken_in 1 5 8 refl refl st

  pub newepoch-in : cell 2 st ≡ TAKEN → (1 ≤ st) × (st ≤ 1)
  unfolding table all_below only-in both either
  newepoch-in = taken_in 2 1 1 refl refl st

  pub acke-in : cell 3 st ≡ TAKEN → (6 ≤ st) × (st ≤ 8)
  unfolding table all_below only-in both either
  acke-in = taken_in 3 6 8 refl refl st

  pub newleader-in : cell 4 st ≡ TAKEN → (2 ≤ st) × (st ≤ 2)
  unfolding table all_below only-in both either
  newleader-in = taken_in 4 2 2 refl refl st

  pub ackld-in : cell 5 st ≡ TAKEN → (7 ≤ st) × (st ≤ 8)
  unfolding table all_below only-in both either
  ackld-in = taken_in 5 7 8 refl refl st

  pub commitld-in : cell 6 st ≡ TAKEN → (3 ≤ st) × (st ≤ 3)
  unfolding table all_below only-in both either
  commitld-in = taken_in 6 3 3 refl refl st

  pub propose-in : cell 7 st ≡ TAKEN → (3 ≤ st) × (st ≤ 4)
  unfolding table all_below only-in both either
  propose-in = taken_in 7 3 4 refl refl st

  pub ack-in : cell 8 st ≡ TAKEN → (8 ≤ st) × (st ≤ 8)
  unfolding table all_below only-in both either
  ack-in = taken_in 8 8 8 refl refl st

  pub commit-in : cell 9 st ≡ TAKEN → (4 ≤ st) × (st ≤ 4)
  unfolding table all_below only-in both either
  commit-in = taken_in 9 4 4 refl refl st

-- ---- the step answers as the table says

-- will the sender do?
abbrev pub hears : Msg → ℕ → Server → Bool
hears (cepoch e) f s = true
hears (newepoch e) f s = mine f s
hears (acke e a h) f s = s.vol.joined f
hears (newleader e h) f s = mine f s
hears (ackld e c) f s = s.vol.joined f
hears (commitld e c) f s = mine f s
hears (propose e k t) f s = mine f s
hears (ack e k) f s = s.vol.joined f
hears (commit e c) f s = mine f s
hears junk f s = true

-- what the cell of a message's kind and a server's stage tells of the answer
pub record Agrees (c : ℕ) (who : Bool) (r : Res) : Type 0 where
  pub role : c ≡ ROLE → r ≡ refused ROLE
  pub sender : c ≢ ROLE → who ≡ false → r ≡ refused SENDER
  pub phase : c ≡ PHASE → who ≡ true → r ≡ refused PHASE

gate-agrees : (k st : ℕ) (who : Bool) (t : Tree) → Agrees (cell k st) who (run (gate k st who t))
unfolding gate run
gate-agrees k st who t = record {
  role = λ e. rw (eq-eqb (cell k st) ROLE e);
  sender = λ n w. rw (ne_eqb (cell k st) ROLE n, w);
  phase = λ e w. rw (e, w);
}

pub agrees : (z : Sizes) (i f : ℕ) (m : Msg) (s : Server) → m ≢ junk → Agrees (cell (kind m) s.stage) (hears m f s) (run (receive z i f m s))
unfolding receive
agrees z i f (cepoch e) s _ = gate-agrees 1 s.stage _ _
agrees z i f (newepoch e) s _ = gate-agrees 2 s.stage _ _
agrees z i f (acke e a h) s _ = gate-agrees 3 s.stage _ _
agrees z i f (newleader e h) s _ = gate-agrees 4 s.stage _ _
agrees z i f (ackld e c) s _ = gate-agrees 5 s.stage _ _
agrees z i f (commitld e c) s _ = gate-agrees 6 s.stage _ _
agrees z i f (propose e k t) s _ = gate-agrees 7 s.stage _ _
agrees z i f (ack e k) s _ = gate-agrees 8 s.stage _ _
agrees z i f (commit e c) s _ = gate-agrees 9 s.stage _ _
agrees z i f junk s n = absurd (n refl)

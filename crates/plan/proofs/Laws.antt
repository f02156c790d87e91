-- One law for each way that a plan is returned.
use Prim.Native.Nat.{ℕ, zero, suc, ◌+◌, ◌≤◌, ◌<◌}
use mathlib.Core.Path.{◌≡◌, refl, sym, ap, ◌∙◌}
use mathlib.Core.Logic.{◌≢◌}
use Rattle.std.specs.Prelude.{Result, Ok, Err}
use mathlib.Core.Bool.{Bool, true, false}
use mathlib.Core.List.{List, [], ◌++◌, append-nil}
use native.Mathlib.Omega.{arith}
use lib.ListN.{get_or, set, replicate}
use Rattle.base.specs.Choice.{both, either, pick, upd}
use Rattle.base.specs.Refusals.{number}
use Rattle.base.specs.declared.Refusal.{Refusal}
use Rattle.base.specs.Quorum.{Set, nobody, just}
use Rattle.base.specs.Transaction.{Hist}
use Rattle.base.specs.declared.Txn.{Txn}
use Rattle.base.specs.declared.Sizes.{Sizes}
use Rattle.rules.specs.declared.State.{State}
use Rattle.rules.specs.Message.{Msg, Send}
use Rattle.rules.specs.Tree.{Tree, Res, refused, taken, run, gate, to_all, only}
use Rattle.rules.specs.Words.{server_with, server_of, txns, has}
use Rattle.rules.proofs.Words.{all_none, all-just, get_set}
use Rattle.plan.specs.declared.Cast.{Cast}
use Rattle.plan.specs.declared.Plan.{Plan}
use Rattle.plan.specs.Plans.{after, nowhere, no_txn, no_cast, plan_of, quiet_of, fine, decode, cast_of, sends, hist_from, cand_from, meaning, Plans}

-- ---- sets of nobody and of one

falses : (n i : ℕ) → get_or (replicate n false) i false ≡ false
falses zero i = refl
falses (suc n) zero = refl
falses (suc n) (suc i) = falses n i

pub none_has : ◌≡◌ {A = Set} (has nowhere) nobody
none_has = λ j i. falses 7 i j

pub just-has : (f : ℕ) → f < 7 → ◌≡◌ {A = Set} (has (set nowhere f true)) (just f)
unfolding just
just-has f h = get_set nowhere false f true h ∙ ap (λ (q : Set). upd q f true) none_has

pub no-cast : (n i : ℕ) (m : Msg) → to_all n i (has nowhere) m ≡ []
no-cast n i m = ap (λ (q : Set). to_all n i q m) none_has ∙ all_none n i m

pub solo-cast : (n i f : ℕ) (m : Msg) → f < 7 → f < n → f ≢ i → to_all n i (has (set nowhere f true)) m ≡ only f m
solo-cast n i f m a b c = ap (λ (q : Set). to_all n i q m) (just-has f a) ∙ all-just n i f m b c

pub cast-none : (n me : ℕ) (l : Hist) (y : Txn) → cast_of n me no_cast l y ≡ []
unfolding cast_of
cast-none n me l y = no-cast n me (decode 1 0 0 l y)

-- ---- what plans mean

module _ (z : Sizes) (s : State) (r : Result Plan Refusal) (h k m : List ℕ) (x : Res) where
  -- a refusal
  pub turned-away : (c : Refusal) → r ≡ Err c → x ≡ refused (number c) → Plans z s r h k m x
  unfolding meaning
  turned-away c e q = rw e (record { means = sym q; fit = tt })

  pub past-gate : {A : Type 0} (g : Result A Refusal) (y : Res) (u : A) → x ≡ after g y → g ≡ Ok u → Plans z s r h k m y → Plans z s r h k m x
  past-gate g y u q w p = record { means = p.means ∙ sym (q ∙ rw w refl); fit = p.fit }

  -- a plan with two casts
  pub answered₂ : (b : Bool) (t : State) (hist cand : ℕ) (y : Txn) (one two : Cast) (hs ks : Hist) (out₁ out₂ : List Send) → r ≡ Ok (plan_of b t hist cand y one two)
      → t.me ≡ s.me → t.len.0 ≤ z.room.0 → t.cand_len.0 ≤ z.room.0 → hist ≤ 3 → (hist ≡ 3 → t.len.0 ≡ s.len.0 + 1) → cand ≤ 2 → (cand ≡ 2 → hist ≡ 0) → (hist ≡ 0 → t.len.0 ≡ s.len.0) → (cand ≡ 0 → t.cand_len.0 ≤ s.cand_len.0)
      → fine one.kind one.x.0 ≡ true → fine two.kind two.x.0 ≡ true
      → hist_from hist t.len.0 y h k m ≡ hs → cand_from cand t.cand_len.0 h k m ≡ ks → cast_of z.n t.me one hs y ≡ out₁ → cast_of z.n t.me two hs y ≡ out₂
      → x ≡ taken b (server_with t hs ks) (out₁ ++ out₂) → Plans z s r h k m x
  unfolding meaning pick sends
  answered₂ b t hist cand y one two hs ks out₁ out₂ e a l v c3 w c2 st sm ls f₁ f₂ i j o₁ o₂ q = rw e (record {
    means = rw (i, j, o₁, o₂) (sym q);
    fit = record { me = a; len = l; cand = v; hist = c3; add = w; copy = c2; stays = st; same = sm; less = ls; one = f₁; two = f₂ };
  })

  -- with one
  pub answered : (b : Bool) (t : State) (hist cand : ℕ) (y : Txn) (one : Cast) (hs ks : Hist) (out : List Send) → r ≡ Ok (plan_of b t hist cand y one no_cast)
      → t.me ≡ s.me → t.len.0 ≤ z.room.0 → t.cand_len.0 ≤ z.room.0 → hist ≤ 3 → (hist ≡ 3 → t.len.0 ≡ s.len.0 + 1) → cand ≤ 2 → (cand ≡ 2 → hist ≡ 0) → (hist ≡ 0 → t.len.0 ≡ s.len.0) → (cand ≡ 0 → t.cand_len.0 ≤ s.cand_len.0)
      → fine one.kind one.x.0 ≡ true
      → hist_from hist t.len.0 y h k m ≡ hs → cand_from cand t.cand_len.0 h k m ≡ ks → cast_of z.n t.me one hs y ≡ out
      → x ≡ taken b (server_with t hs ks) out → Plans z s r h k m x
  unfolding fine both either
  answered b t hist cand y one hs ks out e a l v c3 w c2 st sm ls f i j o q =
      answered₂ b t hist cand y one no_cast hs ks out [] e a l v c3 w c2 st sm ls f refl i j o (cast-none z.n t.me hs y) (q ∙ ap (taken b (server_with t hs ks)) (sym (append-nil out)))

  -- with none, and the history and the candidate where they lay
  pub kept-quiet : (t : State) → r ≡ Ok (quiet_of t) → t.me ≡ s.me → t.len.0 ≤ z.room.0 → t.cand_len.0 ≤ z.room.0 → t.len.0 ≡ s.len.0 → t.cand_len.0 ≤ s.cand_len.0 → x ≡ taken false (server_of t h k) [] → Plans z s r h k m x
  unfolding hist_from cand_from pick fine both either
  kept-quiet t e a l v sm ls q = answered false t 0 0 no_txn no_cast (txns t.len.0 h) (txns t.cand_len.0 k) [] e a l v (omega arith) (λ (w : ◌≡◌ {A = ℕ} 0 3). absurd (omega arith)) (omega arith) (λ _. refl) (λ _. sm) (λ _. ls)
      refl refl refl (cast-none z.n t.me (txns t.len.0 h) no_txn) q

-- ---- a delivery past its gate

-- what the gate answers, whatever comes after it
abbrev pub Gate : {A : Type 0} → ℕ → State → Bool → Result A Refusal → Type 0
Gate kind s who g = (t : Tree) → run (gate kind s.stage who t) ≡ after g (run t)

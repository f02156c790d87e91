-- How many messages a plan sends to a server is read off its two casts.
use Prim.Native.Nat.{ℕ, zero, suc, ◌+◌, ◌≤◌, ◌<◌}
use mathlib.Core.Path.{◌≡◌, refl, sym, ap, ◌∙◌}
use mathlib.Core.Logic.{◌≢◌, ⊎_elim}
use mathlib.Core.Bool.{Bool, true, false, not}
use mathlib.Core.List.{List, [], ◌∷◌, ◌++◌}
use native.Mathlib.Omega.{arith}
use mir.Val.{bool_byte}
use lib.Dec.{eqb, ltb}
use lib.ListN.{length, drop, replicate}
use borrow.Author.Tests.{eq-eqb, ne_eqb, lt-ltb, le-ltb}
use Rattle.std.specs.Prelude.{Result, Ok, Err}
use Rattle.base.specs.Choice.{pick, both}
use Rattle.base.specs.Refusals.{number}
use Rattle.base.specs.declared.Refusal.{Refusal}
use Rattle.base.proofs.Refusals.{number-some, number-one}
use Rattle.base.specs.Quorum.{Set}
use Rattle.base.specs.declared.Sizes.{Sizes}
use Rattle.base.proofs.Choice.{eq-or, le-or-lt, both_true, both-no, both_first}
use Rattle.rules.specs.declared.State.{State}
use Rattle.rules.specs.Message.{Msg, Send}
use Rattle.rules.specs.Server.{good_sizes}
use Rattle.rules.specs.Tree.{to_all}
use Rattle.rules.specs.Words.{has, tab, good_state}
use Rattle.plan.specs.declared.Cast.{Cast}
use Rattle.plan.specs.declared.Plan.{Plan}
use Rattle.plan.specs.Plans.{decode, cast_of, sends, meaning, hist_of}
use Rattle.server.specs.declared.Event.{Event}
use Rattle.server.specs.declared.Forecast.{Forecast}
use Rattle.server.specs.Whole.{answer_of, lent_len, can, load_at, Can, Decides}
use Rattle.server.specs.Foreseen.{sent_to, Preview, seen, foreseen, preview_of, told, seen_of}

sent-append : (j : ℕ) (xs ys : List Send) → sent_to j (xs ++ ys) ≡ sent_to j xs + sent_to j ys
unfolding sent_to
sent-append j [] ys = omega arith
sent-append j (x ∷ xs) ys = omega (arith, sent-append j xs ys)

-- is j another server below n of the set q?
abbrev Goes : ℕ → ℕ → Set → ℕ → Bool
Goes n i q j = both (ltb j n) (both (q j) (not (eqb j i)))

module _ (i : ℕ) (q : Set) (m : Msg) (j : ℕ) where
  last_one : (n : ℕ) (t : Bool) → sent_to j (to_all n i q m ++ pick t (record { to = n; msg = m } ∷ []) []) ≡ sent_to j (to_all n i q m) + pick t (pick (eqb n j) 1 0) 0
  unfolding sent_to pick
  last_one n true = omega (arith, sent-append j (to_all n i q m) (record { to = n; msg = m } ∷ []))
  last_one n false = omega (arith, sent-append j (to_all n i q m) [])

  abbrev Other : ℕ → Bool
  Other n = both (q n) (not (eqb n i))

  none : (b : Bool) → ◌≡◌ {A = ℕ} (pick b 0 0) 0
  unfolding pick
  none true = refl
  none false = refl

  here : (n x : ℕ) → n ≡ j → x ≡ pick (both (ltb j n) (Other j)) 1 0 → x + pick (Other n) (pick (eqb n j) 1 0) 0 ≡ pick (both (ltb j (suc n)) (Other j)) 1 0
  unfolding pick both
  here n x e h =
      let y : x ≡ 0 = h ∙ rw (le-ltb j n (omega arith)) in
      rw (e, eq-eqb j j refl, lt-ltb j (suc j) (omega arith), y) (omega arith)

  there : (n x : ℕ) → n ≢ j → x ≡ pick (both (ltb j n) (Other j)) 1 0 → x + pick (Other n) (pick (eqb n j) 1 0) 0 ≡ pick (both (ltb j (suc n)) (Other j)) 1 0
  unfolding pick
  there n x e h =
      let k : ltb j n ≡ ltb j (suc n) = ⊎_elim (λ (a : n ≤ j). le-ltb j n a ∙ sym (le-ltb j (suc n) (omega arith))) (λ (a : j < n). lt-ltb j n a ∙ sym (lt-ltb j (suc n) (omega arith))) (le-or-lt n j) in
      rw (ne_eqb n j e, ← k) (omega (arith, h, none (Other n)))

  sent-all : (n : ℕ) → sent_to j (to_all n i q m) ≡ pick (Goes n i q j) 1 0
  unfolding to_all sent_to both pick
  sent-all zero = rw (le-ltb j 0 (omega arith))
  sent-all (suc n) = last_one n (Other n) ∙ ⊎_elim (λ (e : n ≡ j). here n _ e (sent-all n)) (λ (e : n ≢ j). there n _ e (sent-all n)) (eq-or n j)

-- the two casts of a plan
told_is : (n me : ℕ) (p q : Set) (a b : Msg) (j : ℕ) → sent_to j (to_all n me p a ++ to_all n me q b) ≡ told n me p q j
unfolding told both pick
told_is n me p q a b j = sent-append j (to_all n me p a) (to_all n me q b) ∙ sum (ltb j n) (p j) (q j) (not (eqb j me)) (sent-all me p a j n) (sent-all me q b j n)
  where
    sum : {x y : ℕ} (l s t o : Bool) → x ≡ pick (both l (both s o)) 1 0 → y ≡ pick (both l (both t o)) 1 0 → x + y ≡ pick (both l o) (pick s 1 0 + pick t 1 0) 0
    sum true true true true e f = omega arith
    sum true true true false e f = omega arith
    sum true true false true e f = omega arith
    sum true true false false e f = omega arith
    sum true false true true e f = omega arith
    sum true false true false e f = omega arith
    sum true false false true e f = omega arith
    sum true false false false e f = omega arith
    sum false true true true e f = omega arith
    sum false true true false e f = omega arith
    sum false true false true e f = omega arith
    sum false true false false e f = omega arith
    sum false false true true e f = omega arith
    sum false false true false e f = omega arith
    sum false false false true e f = omega arith
    sum false false false false e f = omega arith

-- ---- from the rules to the preview

-- what the code foretells of a plan
abbrev pub told_of : Sizes → ℕ → Result Plan Refusal → Result Forecast Refusal
told_of z me (Ok r) = Ok (seen_of z me r)
told_of z me (Err c) = Err c

pub foretold : (z : Sizes) (s : State) (ev : Event) (r : Result Plan Refusal) (h k m : List ℕ) (f : Result Forecast Refusal) → Decides z s ev r h k m → f ≡ told_of z s.me r → foreseen f ≡ seen (answer_of z s ev h k m)
unfolding seen seen_of meaning sends cast_of
foretold z s ev (Ok r) h k m f d x =
    let me : r.state.me ≡ s.me = d.plans.fit.me in
    let said : Cast → Msg = λ y. decode y.kind y.e.0 y.x.0 (hist_of r h k (drop (load_at ev) m)) r.txn in
    let q : tab 7 (λ j. sent_to j (sends z r (hist_of r h k (drop (load_at ev) m)))) ≡ tab 7 (told z.n s.me (has r.one.to) (has r.two.to))
    = ap (tab 7) (λ i j. (told_is z.n r.state.me (has r.one.to) (has r.two.to) (said r.one) (said r.two) j ∙ ap (λ (y : ℕ). told z.n y (has r.one.to) (has r.two.to) j) me) i) in
    sym (sym (ap seen d.plans.means) ∙ ap (λ (l : List ℕ). record { code = 0; empties = r.empties; to = l }) q ∙ sym (ap foreseen x))
foretold z s ev (Err c) h k m f d x = ap foreseen x ∙ ap seen d.plans.means

abbrev pub Not : Preview
Not = record { code = 1; empties = false; to = replicate 7 0 }

module _ (z : Sizes) (s : State) (ev : Event) (h k m : List ℕ) (v : Preview) where
  pub preview-state : (b : Bool) → b ≡ both (good_sizes z) (good_state z s h k) → b ≡ false → v ≡ Not → v ≡ preview_of z s ev h k m
  unfolding preview_of can pick both
  preview-state b e q x = x ∙ rw (both_first (good_sizes z) (good_state z s h k) (lent_len z ev (length m)) (sym e ∙ q))

  pub preview-lent : (b d : Bool) → b ≡ both (good_sizes z) (good_state z s h k) → b ≡ true → d ≡ lent_len z ev (length m) → d ≡ false → v ≡ Not → v ≡ preview_of z s ev h k m
  unfolding preview_of can pick both
  preview-lent b d e q f y x =
      let w = both_true (good_sizes z) (good_state z s h k) (sym e ∙ q) in
      x ∙ rw (w.0, w.1, ← f, y)

  pub preview-can : (r : Result Plan Refusal) (f : Result Forecast Refusal) (b d : Bool) → b ≡ both (good_sizes z) (good_state z s h k) → b ≡ true → d ≡ lent_len z ev (length m) → d ≡ true → Decides z s ev r h k m → f ≡ told_of z s.me r → foreseen f ≡ preview_of z s ev h k m
  unfolding preview_of can pick both
  preview-can r f b d e q g y p x =
      let w = both_true (good_sizes z) (good_state z s h k) (sym e ∙ q) in
      foretold z s ev r h k m f p x ∙ rw (w.0, w.1, ← g, y)

  pub can-of : (b d : Bool) → b ≡ both (good_sizes z) (good_state z s h k) → b ≡ true → d ≡ lent_len z ev (length m) → d ≡ true → Can z s ev h k m
  can-of b d e q f y = let w = both_true (good_sizes z) (good_state z s h k) (sym e ∙ q) in record { sizes = w.0; state = w.1; words = sym f ∙ y }

-- ---- how many go to j

module _ (n me j : ℕ) (p q : Set) where
  pub told-far : n ≤ j → 0 ≡ told n me p q j
  unfolding told pick both
  told-far h = sym (rw (le-ltb j n h))

  pub told-me : j ≡ me → 0 ≡ told n me p q j
  unfolding told pick
  told-me e = sym (rw (both-no (ltb j n) (not (eqb j me)) (rw (eq-eqb j me e))))

  pub told_at : (x : ℕ) (a b : Bool) → j < n → (j ≡ me → ⊥) → p j ≡ a → q j ≡ b → x ≡ pick a 1 0 + pick b 1 0 → x ≡ told n me p q j
  unfolding told pick both
  told_at x a b h e f g y = y ∙ sym (rw (lt-ltb j n h, ne_eqb j me e, f, g))

pub seven : (f : ℕ → ℕ) (x₀ x₁ x₂ x₃ x₄ x₅ x₆ : ℕ) → x₀ ≡ f 0 → x₁ ≡ f 1 → x₂ ≡ f 2 → x₃ ≡ f 3 → x₄ ≡ f 4 → x₅ ≡ f 5 → x₆ ≡ f 6 → x₀ ∷ x₁ ∷ x₂ ∷ x₃ ∷ x₄ ∷ x₅ ∷ x₆ ∷ [] ≡ tab 7 f
unfolding tab
seven f x₀ x₁ x₂ x₃ x₄ x₅ x₆ e₀ e₁ e₂ e₃ e₄ e₅ e₆ = rw (e₀, e₁, e₂, e₃, e₄, e₅, e₆) refl

-- a flag as a byte
pub byte-pick : (b : Bool) → bool_byte b ≡ pick b 1 0
unfolding pick
byte-pick true = refl
byte-pick false = refl

-- ---- two previews that are read alike are equal

pub one-preview : (f g : Result Forecast Refusal) → foreseen f ≡ foreseen g → f ≡ g
one-preview (Ok f) (Ok g) e = λ i. Ok (record { empties = (e i).empties; to = (e i).to })
one-preview (Ok f) (Err d) e = let p = number-some d in let q : 0 ≡ number d = ap (λ (x : Preview). x.code) e in absurd (omega (arith, p, q))
one-preview (Err c) (Ok g) e = let p = number-some c in let q : number c ≡ 0 = ap (λ (x : Preview). x.code) e in absurd (omega (arith, p, q))
one-preview (Err c) (Err d) e = ap Err (number-one c d (ap (λ (x : Preview). x.code) e))

-- What a caller shows to have a plan carried out.
use Prim.Native.Nat.{ℕ, zero, suc, ◌+◌, ◌-◌, ◌*◌, ◌≤◌, ◌<◌}
use mathlib.Core.Path.{◌≡◌, sym, ap, ◌∙◌}
use mathlib.Core.Logic.{◌≢◌, ⊎_elim}
use mathlib.Core.Bool.{Bool, true, false}
use mathlib.Core.List.{List}
use native.Mathlib.Omega.{arith}
use lib.ListN.{length, set}
use Rattle.base.specs.Choice.{pick}
use Rattle.base.specs.Quorum.{Set, weight}
use Rattle.base.specs.Transaction.{Hist}
use Rattle.base.specs.declared.Sizes.{Sizes}
use Rattle.base.proofs.Choice.{eq-or, case}
use Rattle.rules.specs.declared.State.{State}
use Rattle.rules.specs.Message.{junk}
use Rattle.rules.specs.Words.{good_words, has, slot_size}
use Rattle.rules.proofs.Words.{words-good}
use Rattle.plan.specs.declared.Plan.{Plan}
use Rattle.plan.specs.Plans.{nowhere, sends, hist_of, Sized, Fit}
use Rattle.plan.proofs.Laws.{none_has, solo-cast}
use Rattle.hands.specs.Hands.{other, others, Ready}
use Rattle.hands.proofs.Laws.{not-self, not_in, length-all, length-sends}

-- ---- at most six messages

at_most : (b : Bool) → pick b 1 0 ≤ 1
unfolding pick
at_most true = omega arith
at_most false = omega arith

module _ (me : ℕ) (p q : Set) (apart : (j : ℕ) → p j ≡ true → q j ≡ false) where
  at_most_one : (j : ℕ) → pick (other me p j) 1 0 + pick (other me q j) 1 0 ≤ 1
  unfolding pick
  at_most_one j = case (p j)
      (λ e. rw (not_in j me q (apart j e)) (omega (arith, at_most (other me p j))))
      (λ e. rw (not_in j me p e) (omega (arith, at_most (other me q j))))

  apart-le : (n : ℕ) → others n me p + others n me q ≤ n
  unfolding weight
  apart-le zero = omega arith
  apart-le (suc n) = omega (arith, apart-le n, at_most_one n)

  -- sets that are apart have together fewer others than servers
  apart-lt : (n : ℕ) → me < n → others n me p + others n me q < n
  unfolding weight pick
  apart-lt zero h = absurd (omega arith)
  apart-lt (suc n) h = ⊎_elim
      (λ (e : n ≡ me). rw (not-self n me p e, not-self n me q e) (omega (arith, apart-le n)))
      (λ (e : n ≢ me). omega (arith, at_most_one n, apart-lt n (omega (arith, h, e))))
      (eq-or n me)

module _ (z : Sizes) (r : Plan) (x : Hist) where
  -- two casts to sets that are apart
  pub few-apart : z.n ≤ 7 → r.state.me < z.n → ((j : ℕ) → has r.one.to j ≡ true → has r.two.to j ≡ false) → length (sends z r x) ≤ 6
  few-apart a b f = omega (arith, a, length-sends z r x, apart-lt r.state.me (has r.one.to) (has r.two.to) f z.n b)

  -- one cast
  pub few-one : z.n ≤ 7 → r.state.me < z.n → r.two.to ≡ nowhere → length (sends z r x) ≤ 6
  few-one a b e = few-apart a b (λ j _. ap (λ (q : List Bool). has q j) e ∙ ap (λ (q : Set). q j) none_has)

  others-solo : (f : ℕ) → f < 7 → f < z.n → f ≢ r.state.me → others z.n r.state.me (has (set nowhere f true)) ≡ 1
  others-solo f a b c = sym (length-all z.n r.state.me (has (set nowhere f true)) junk) ∙ ap length (solo-cast z.n r.state.me f junk a b c)

  -- two messages to one server
  pub few-solo : (f : ℕ) → f < 7 → f < z.n → f ≢ r.state.me → r.one.to ≡ set nowhere f true → r.two.to ≡ set nowhere f true → length (sends z r x) ≤ 6
  few-solo f a b c p q =
      let u : others z.n r.state.me (has r.one.to) ≡ 1 = rw p (others-solo f a b c) in
      let v : others z.n r.state.me (has r.two.to) ≡ 1 = rw q (others-solo f a b c) in
      omega (arith, length-sends z r x, u, v)

-- ---- a plan that fits, over good words

module _ (z : Sizes) (s : State) (r : Plan) (h k m o : List ℕ) where
  pub ready : Sized z s → Fit z s r → 1 ≤ z.room.0 → good_words z.room.0 s.len.0 h ≡ true → good_words z.room.0 s.cand_len.0 k ≡ true
      → (r.hist ≡ 1 → 2 * r.state.len.0 ≤ length m) → (r.cand ≡ 1 → 2 * r.state.cand_len.0 ≤ length m)
      → 6 * slot_size z.room.0 ≤ length o → length (sends z r (hist_of r h k m)) ≤ 6 → Ready z r s.cand_len.0 h k m o
  ready d f some gh gk told told₂ slots few =
      let a = words-good z.room.0 s.len.0 h gh in
      let b = words-good z.room.0 s.cand_len.0 k gk in
      record {
        servers = d.most;
        some = some;
        order = f.stays;
        one = f.one;
        two = f.two;
        slots = slots;
        few = few;
        hist = record {
          words = a.0;
          most = d.room;
          fits = f.len;
          known = f.hist;
          stays = λ q. rw (f.same q) a.2;
          told = told;
          chosen = λ _. omega (arith, b.0, f.len);
          some = λ q. omega (arith, f.add q);
          free = λ q. let e : r.state.len.0 - 1 ≡ s.len.0 = omega (arith, f.add q) in rw e a.2;
        };
        cand = record {
          words = b.0;
          most = d.room;
          fits = f.cand;
          held = d.cand;
          known = f.copy;
          stays = f.less;
          free = λ _. b.2;
          told = told₂;
          copied = λ _. omega (arith, a.0, f.cand);
        };
      }

-- The oracle events that begin the recovery: none is refused, and after them every one of q is at its first point.
use Prim.Native.Nat.{ℕ, ◌+◌, ◌≤◌, ◌<◌}
use native.Mathlib.Omega.{arith}
use mathlib.Core.Path.{◌≡◌, refl, sym, ap, ◌∙◌, fun_ext}
use mathlib.Core.Logic.{◌≢◌, ◌⊎◌, inl, inr}
use mathlib.Core.Bool.{Bool, true, false, not, false≢true}
use mathlib.Core.List.{List, [], ◌∷◌, ◌++◌, map, append-nil}
use lib.Dec.{eqb, ltb}
use lib.ListN.{length}
use borrow.Author.Tests.{eq-eqb, ne_eqb, lt-ltb, eqb-true}
use Rattle.base.specs.Choice.{pick, both, either, upd}
use Rattle.base.specs.Quorum.{Set, nobody, just}
use Rattle.base.specs.declared.Sizes.{Sizes}
use Rattle.base.proofs.Choice.{eq-or, upd_same, upd_other, both_yes, both-no, either_left, either-right, clash}
use Rattle.base.proofs.Quorum.{quorum-alone}
use Rattle.rules.specs.Message.{Msg, cepoch}
use Rattle.rules.specs.Server.{Server, F1, L1, nil}
use Rattle.rules.specs.Step.{step, on_oracle}
use Rattle.rules.specs.Cluster.{Cluster, O, emptied, post, done, event, after, play, is_done}
use Rattle.calm.specs.Calm.{Crew, among, Others, naming, all_done}
use Rattle.calm.proofs.Laws.{over, sole, pass, one, two, leaf, each, to-each, post-at}
use Rattle.calm.proofs.Effect.{next, turned}
use Rattle.calm.proofs.Engine.{Calm}
use Rattle.calm.proofs.Spread.{spread, spread_at}
use Rattle.calm.proofs.Rounds.{scene}
use Rattle.calm.proofs.Points.{k1, Pt, out, me, a0, is_me, is_in, joins, late, back, fwd, now, in_f, G1, fresh, recovery}

-- x in L1, that was s
abbrev first : ℕ → Server → Server
first x s = record { dur = s.dur; stage = L1; orc = x + 1; vol = record { joined = just x; acked = nobody; synced = nobody; largest = s.dur.p; cand_epoch = 0; cand_hist = []; counts = nil } }

module _ (z : Sizes) (depth x : ℕ) (c₀ : Cluster) where
  -- what waits when those of T have been named
  abbrev mail : Set → ℕ → ℕ → List Msg
  mail T a b = pick (eqb b x) (pick (both (T a) (not (eqb a x))) (cepoch (c₀.srv a).dur.p ∷ []) []) (pick (either (T a) (T b)) [] (c₀.chan a b))

  record Turned (c : Cluster) (T : Set) : Type 0 where
    own : T x ≡ true
    leads : c.srv x ≡ first x (c₀.srv x)
    rest : (i : ℕ) → i ≢ x → c.srv i ≡ pick (T i) (in_f x F1 (c₀.srv i).dur) (c₀.srv i)
    cells : (a b : ℕ) → c.chan a b ≡ mail T a b

  -- x turns to itself
  turned-self : x < z.n → event z depth c₀ (O x x) ≡ done x (c₀.srv x) (first x (c₀.srv x)) false (next z depth c₀ x (first x (c₀.srv x)) (emptied x c₀.chan))
  unfolding emptied post step on_oracle pick either just
  turned-self hx =
      let low : ltb x z.n ≡ true = lt-ltb x z.n hx in
      let self : eqb x x ≡ true = eq-eqb x x refl in
      turned z depth c₀ x x (first x (c₀.srv x)) [] hx (pass low (one self (leaf refl))) (λ b. rw self (omega arith))

  turn-self : x < z.n → Turned (after (event z depth c₀ (O x x))) (λ i. eqb i x) × (is_done (event z depth c₀ (O x x)) ≡ true)
  unfolding after is_done emptied pick both either
  turn-self hx = rw (turned-self hx) (
    record {
      own = eq-eqb x x refl;
      leads = upd_same c₀.srv x (first x (c₀.srv x));
      rest = λ i ix. upd_other c₀.srv x (first x (c₀.srv x)) i ix ∙ rw (ne_eqb i x ix);
      cells = λ a b. same a b (eqb a x) (eqb b x);
    },
    refl,
  )
    where
      same : (a b : ℕ) (t u : Bool) → pick (either t u) [] (c₀.chan a b) ≡ pick u (pick (both t (not t)) (cepoch (c₀.srv a).dur.p ∷ []) []) (pick (either t u) [] (c₀.chan a b))
      same a b true true = refl
      same a b true false = refl
      same a b false true = refl
      same a b false false = refl

  -- f turns to x
  module _ (c : Cluster) (T : Set) (t : Turned c T) (deep : 1 ≤ depth) (hx : x < z.n) (f : ℕ) (hf : f < z.n) (ne : f ≢ x) where
    abbrev sf : Server
    sf = in_f x F1 (c₀.srv f).dur

    abbrev mf : List Msg
    mf = cepoch (c₀.srv f).dur.p ∷ []

    abbrev T' : Set
    T' i = either (eqb i f) (T i)

    dur : (c.srv f).dur ≡ (c₀.srv f).dur
    unfolding pick
    dur = ap (λ (s : Server). s.dur) (t.rest f ne) ∙ go (T f)
      where
        go : (u : Bool) → (pick u sf (c₀.srv f)).dur ≡ (c₀.srv f).dur
        go true = refl
        go false = refl

    mails : (a b : ℕ) → post f (each x mf) (emptied f c.chan) a b ≡ mail T' a b
    unfolding emptied pick both either
    mails a b = post-at f (each x mf) (emptied f c.chan) a b ∙ rw (to-each b x mf) (go (eq-or a f) (eq-or b f) (eq-or b x))
      where
        go : (a ≡ f) ⊎ (a ≢ f) → (b ≡ f) ⊎ (b ≢ f) → (b ≡ x) ⊎ (b ≢ x)
            → pick (either (eqb a f) (eqb b f)) [] (c.chan a b) ++ pick (eqb a f) (pick (eqb b x) mf []) [] ≡ mail T' a b
        go (inl af) v (inl bx) = rw (af, bx, eq-eqb f f refl, eq-eqb x x refl, ne_eqb f x ne)
        go (inl af) v (inr bx) = rw (af, eq-eqb f f refl, ne_eqb b x bx)
        go (inr af) (inl bf) u = rw (bf, ne_eqb a f af, eq-eqb f f refl, ne_eqb f x ne, either-right (T a) true refl)
        go (inr af) (inr bf) u = rw (ne_eqb a f af, ne_eqb b f bf) (append-nil (c.chan a b) ∙ t.cells a b)

    turned-to : event z depth c (O f x) ≡ done f (c.srv f) sf false (next z depth c f sf (post f (each x mf) (emptied f c.chan)))
    unfolding step on_oracle each pick both either
    turned-to =
        let low : ltb x z.n ≡ true = lt-ltb x z.n hx in
        let other : eqb x f ≡ false = ne_eqb x f (λ y. ne (sym y)) in
        turned z depth c f x sf (each x mf) hf (pass low (two other (leaf (rw dur)))) (λ b. rw (mails f b) (short b (eqb b x)))
      where
        short : (b : ℕ) (u : Bool) → length (pick u (pick (both (either (eqb f f) (T f)) (not (eqb f x))) mf []) (pick (either (either (eqb f f) (T f)) (either (eqb b f) (T b))) [] (c₀.chan f b))) ≤ depth
        short b true = rw (eq-eqb f f refl, ne_eqb f x ne) (omega arith)
        short b false = rw (eq-eqb f f refl) (omega arith)

    turn-to : Turned (after (event z depth c (O f x))) T' × (is_done (event z depth c (O f x)) ≡ true)
    unfolding after is_done
    turn-to = rw turned-to (
      record {
        own = either-right (eqb x f) (T x) t.own;
        leads = upd_other c.srv f sf x (λ y. ne (sym y)) ∙ t.leads;
        rest = λ i ix. rest' i ix (eq-or i f);
        cells = mails;
      },
      refl,
    )
      where
        rest' : (i : ℕ) → i ≢ x → (i ≡ f) ⊎ (i ≢ f) → upd c.srv f sf i ≡ pick (either (eqb i f) (T i)) (in_f x F1 (c₀.srv i).dur) (c₀.srv i)
        rest' i ix (inl y) = rw (y, upd_same c.srv f sf, eq-eqb f f refl) (unfold pick either in refl)
        rest' i ix (inr y) = upd_other c.srv f sf i y ∙ t.rest i ix ∙ (unfold either in rw (ne_eqb i f y))

  -- one after the other
  abbrev added : Set → List ℕ → Set
  added T [] = T
  added T (f ∷ fs) = added (λ i. either (eqb i f) (T i)) fs

  turn-all : 1 ≤ depth → x < z.n → (c : Cluster) (T : Set) → Turned c T → (fs : List ℕ) → ((f : ℕ) → among f fs ≡ true → (f < z.n) × (f ≢ x))
      → Turned (play z depth c (map (λ f. O f x) fs)) (added T fs) × (all_done z depth c (map (λ f. O f x) fs) ≡ true)
  unfolding play all_done among
  turn-all deep hx c T t [] low = (t, refl)
  turn-all deep hx c T t (f ∷ fs) low =
      let l = low f (either_left (eqb f f) (among f fs) (eq-eqb f f refl)) in
      let d = turn-to c T t deep hx f l.0 l.1 in
      let r = turn-all deep hx (after (event z depth c (O f x))) (λ i. either (eqb i f) (T i)) d.0 fs (λ g m. low g (either-right (eqb g f) (among g fs) m)) in
      (r.0, both_yes (is_done (event z depth c (O f x))) (all_done z depth (after (event z depth c (O f x))) (map (λ f. O f x) fs)) d.1 r.1)

  added_is : (T : Set) (fs : List ℕ) (i : ℕ) → added T fs i ≡ either (among i fs) (T i)
  unfolding among either
  added_is T [] i = refl
  added_is T (f ∷ fs) i = added_is (λ j. either (eqb j f) (T j)) fs i ∙ swap (eqb i f) (among i fs)
    where
      swap : (t u : Bool) → either u (either t (T i)) ≡ either (either t u) (T i)
      swap true true = refl
      swap true false = refl
      swap false true = refl
      swap false false = refl

  module _ (q : Set) (crew : Crew z.n x q) (two : 2 ≤ z.n) (deep : 2 ≤ depth) (fs : List ℕ) (others : Others q x fs) where
    -- all of q have been named, and no other
    named : added (λ i. eqb i x) fs ≡ q
    unfolding either both
    named = fun_ext (λ i. added_is (λ j. eqb j x) fs i ∙ rw (others i) (go i (eqb i x) refl (q i) refl))
      where
        go : (i : ℕ) (t : Bool) → eqb i x ≡ t → (u : Bool) → q i ≡ u → either (both u (not t)) t ≡ u
        go i true e true f = refl
        go i true e false f = clash (rw (eqb-true i x e) crew.mine) f
        go i false e true f = refl
        go i false e false f = refl

    low : (f : ℕ) → among f fs ≡ true → (f < z.n) × (f ≢ x)
    unfolding both
    low f m = go (q f) refl (eqb f x) refl (sym (others f) ∙ m)
      where
        go : (u : Bool) → q f ≡ u → (t : Bool) → eqb f x ≡ t → both u (not t) ≡ true → (f < z.n) × (f ≢ x)
        go true e true g h = absurd (false≢true h)
        go true e false g h = (crew.inside f e, λ y. clash (eq-eqb f x y) g)
        go false e t g h = absurd (false≢true h)

    turns : Turned (play z depth c₀ (naming x fs)) q × (all_done z depth c₀ (naming x fs) ≡ true)
    unfolding naming play all_done
    turns =
        let hx = crew.inside x crew.mine in
        let a = turn-self hx in
        let b = turn-all (omega arith) hx (after (event z depth c₀ (O x x))) (λ i. eqb i x) a.0 fs low in
        (rw named at b.0, both_yes (is_done (event z depth c₀ (O x x))) (all_done z depth (after (event z depth c₀ (O x x))) (map (λ f. O f x) fs)) a.1 b.1)

    -- the points then
    abbrev pub points : ℕ → Pt k1
    points = spread me a0 out x q

    -- none of these events is refused
    pub naming-taken : all_done z depth c₀ (naming x fs) ≡ true
    naming-taken = turns.1

    pub named-calm : Calm (scene z depth x q crew two deep c₀) (recovery z.n x c₀.srv) (play z depth c₀ (naming x fs)) G1 points
    unfolding pick both either over spread
    named-calm =
        let t = turns.0 in
        record {
          own = λ i. spread_at (λ p. is_me p ≡ eqb i x) me a0 out x q i (λ y. sym (eq-eqb i x y)) (λ y _. sym (ne_eqb i x y)) (λ y _. sym (ne_eqb i x y));
          ins = λ i. spread_at (λ p. is_in p ≡ q i) me a0 out x q i (λ y. rw y (sym crew.mine)) (λ _ e. sym e) (λ _ e. sym e);
          leads = t.leads ∙ rw joined;
          rest = λ i ix. t.rest i ix ∙ spread_at (λ p. pick (q i) (in_f x F1 (c₀.srv i).dur) (c₀.srv i) ≡ now x (fresh x c₀.srv) [] (c₀.srv i) p) me a0 out x q i
              (λ y. absurd (ix y)) (λ _ e. rw e) (λ _ e. rw e);
          cells = λ a b. t.cells a b ∙ same a b (eqb b x) (eq-or a x);
          upto = λ i. spread_at (λ p. late p ≡ true → (c₀.srv i).dur.d ≤ 0) me a0 out x q i (λ _ y. absurd (false≢true y)) (λ _ _ y. absurd (false≢true y)) (λ _ _ y. absurd (false≢true y));
          short = rw joined (quorum-alone z.n x two);
        }
      where
        joined : over joins points ≡ just x
        joined = sole joins x points (λ i. spread_at (λ p. joins p ≡ eqb i x) me a0 out x q i (λ y. sym (eq-eqb i x y)) (λ y _. sym (ne_eqb i x y)) (λ y _. sym (ne_eqb i x y)))

        same : (a b : ℕ) (t : Bool) → (a ≡ x) ⊎ (a ≢ x)
            → pick t (pick (both (q a) (not (eqb a x))) (cepoch (c₀.srv a).dur.p ∷ []) []) (pick (either (q a) (q b)) [] (c₀.chan a b))
            ≡ pick t (back (fresh x c₀.srv) [] (c₀.srv a) (points a)) (pick (eqb a x) (fwd (fresh x c₀.srv) [] (points b)) (pick (either (q a) (q b)) [] (c₀.chan a b)))
        same a b true (inl y) = rw (y, eq-eqb x x refl, both-no (q x) false refl)
        same a b true (inr y) = rw (ne_eqb a x y) (go (q a))
          where
            go : (u : Bool) → pick (both u true) (cepoch (c₀.srv a).dur.p ∷ []) [] ≡ back {k = k1} (fresh x c₀.srv) [] (c₀.srv a) (pick u a0 out)
            go true = refl
            go false = refl
        same a b false (inl y) = rw (y, eq-eqb x x refl, crew.mine) (spread_at (λ p. [] ≡ fwd (fresh x c₀.srv) [] p) me a0 out x q b (λ _. refl) (λ _ _. refl) (λ _ _. refl))
        same a b false (inr y) = rw (ne_eqb a x y)

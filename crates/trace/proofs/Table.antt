-- The laws of the table of epochs: what a walk finds, and that noting a record keeps every walk right.
use Prim.Native.Nat.{ℕ, zero, suc, ◌+◌, ◌-◌, ◌*◌, ◌/◌, ◌%◌, ◌≤◌, ◌<◌}
use mathlib.Core.Path.{◌≡◌, refl, sym, ap, ◌∙◌, subst}
use mathlib.Core.Logic.{◌≢◌, ⊎_elim}
use mathlib.Core.Bool.{true, false}
use mathlib.Core.List.{List}
use native.Mathlib.Omega.{arith}
use lib.Dec.{eqb}
use borrow.Author.Tests.{eqb-true, eq-eqb, ne_eqb}
use Rattle.base.specs.Choice.{pick, either, upd}
use Rattle.base.proofs.Choice.{case, eq-or, either_true, upd_same, upd_other}
use Rattle.trace.specs.Words.{epoch_at, of_epoch, latest_of}
use Rattle.trace.specs.Table.{ends, side, spot, halved, bit_of, key_of, Linked, Deep, Tabled}

-- ---- a walk, step by step

module _ (w : List ℕ) (f : ℕ → ℕ) (e n j rest : ℕ) where
  pub spot-ends : ends w f e j ≡ true → spot w f e (suc n) j rest ≡ 3 * j
  unfolding spot pick
  spot-ends h = rw h

  pub spot-none : ends w f e j ≡ false → f (side j rest) ≡ 0 → spot w f e (suc n) j rest ≡ side j rest
  unfolding spot pick
  spot-none h z = rw (h, eq-eqb (f (side j rest)) 0 z)

  pub spot_on : ends w f e j ≡ false → f (side j rest) ≢ 0 → spot w f e (suc n) j rest ≡ spot w f e n (f (side j rest)) (rest / 2)
  unfolding spot pick
  spot_on h z = rw (h, ne_eqb (f (side j rest)) 0 z)

-- where a walk ends: at the first word of a node, or at a child that is not there
pub record Ended (w : List ℕ) (f : ℕ → ℕ) (e n at : ℕ) : Type 0 where
  pub node : ℕ
  pub low : node < n
  pub part : ℕ
  pub most : part ≤ 2
  pub is : at ≡ 3 * node + part
  pub stop : part ≡ 0 → ends w f e node ≡ true
  pub none : part ≢ 0 → f at ≡ 0

module _ (w : List ℕ) (f : ℕ → ℕ) (e n i : ℕ) (L : Linked f n i) where
  -- more steps than nodes change nothing
  pub spot-more : (m d j rest : ℕ) → j < n → n ≤ j + m → spot w f e (m + d) j rest ≡ spot w f e m j rest
  spot-more zero d j rest l h = absurd (omega arith)
  spot-more (suc m) d j rest l h =
      let x : suc m + d ≡ suc (m + d) = omega arith in
      ap (λ (k : ℕ). spot w f e k j rest) x
      ∙ case (ends w f e j)
      (λ y. spot-ends w f e (m + d) j rest y ∙ sym (spot-ends w f e m j rest y))
      (λ y. ⊎_elim
      (λ (z : f (side j rest) ≡ 0). spot-none w f e (m + d) j rest y z ∙ sym (spot-none w f e m j rest y z))
      (λ (z : f (side j rest) ≢ 0).
      let a : j < f (side j rest) = L.after j (rest % 2) l (omega arith) z in
      let b : f (side j rest) < n = L.below j (rest % 2) l (omega arith) z in
      spot_on w f e (m + d) j rest y z ∙ spot-more m d (f (side j rest)) (rest / 2) b (omega arith) ∙ sym (spot_on w f e m j rest y z))
      (eq-or (f (side j rest)) 0))

  pub ended : (m j rest : ℕ) → j < n → n ≤ j + m → Ended w f e n (spot w f e m j rest)
  ended zero j rest l h = absurd (omega arith)
  ended (suc m) j rest l h =
      case (ends w f e j)
      (λ y. subst (Ended w f e n) (sym (spot-ends w f e m j rest y))
      (record { node = j; low = l; part = 0; most = omega arith; is = omega arith; stop = λ _. y; none = λ z. absurd (z refl) }))
      (λ y. ⊎_elim
      (λ (z : f (side j rest) ≡ 0). subst (Ended w f e n) (sym (spot-none w f e m j rest y z))
      (record { node = j; low = l; part = 1 + rest % 2; most = omega arith; is = omega arith; stop = λ z. absurd (omega arith); none = λ _. z }))
      (λ (z : f (side j rest) ≢ 0).
      let a : j < f (side j rest) = L.after j (rest % 2) l (omega arith) z in
      let b : f (side j rest) < n = L.below j (rest % 2) l (omega arith) z in
      subst (Ended w f e n) (sym (spot_on w f e m j rest y z)) (ended m (f (side j rest)) (rest / 2) b (omega arith)))
      (eq-or (f (side j rest)) 0))

-- ---- how deep a walk goes

-- the epoch e has the bits of node j, as many as that lies deep
abbrev pub Alike : (w : List ℕ) (f : ℕ → ℕ) (n e : ℕ) → Deep w f n → ℕ → Type 0
Alike w f n e D j = (k : ℕ) → k < D.depth j → bit_of k (key_of w f j) ≡ bit_of k e

-- a walk that ends at a child that is not there: it came by the bits of the epoch
pub record Came (w : List ℕ) (f : ℕ → ℕ) (e n at : ℕ) (D : Deep w f n) : Type 0 where
  pub node : ℕ
  pub low : node < n
  pub part : ℕ
  pub most : part ≤ 2
  pub is : at ≡ 3 * node + part
  pub bits : part ≢ 0 → part ≡ 1 + bit_of (D.depth node) e
  pub alike : Alike w f n e D node

module _ (w : List ℕ) (f : ℕ → ℕ) (e n i : ℕ) (L : Linked f n i) (D : Deep w f n) where
  pub alike-root : Alike w f n e D 0
  alike-root k h = absurd (omega (arith, D.root))

  pub rest-on : (j rest : ℕ) → j < n → rest ≡ halved (D.depth j) e → f (side j rest) ≢ 0 → rest / 2 ≡ halved (D.depth (f (side j rest))) e
  unfolding halved
  rest-on j rest l q z = rw (D.down j (rest % 2) l (omega arith) z, ← q)

  pub alike-on : (j rest : ℕ) → j < n → rest ≡ halved (D.depth j) e → f (side j rest) ≢ 0 → Alike w f n e D j → Alike w f n e D (f (side j rest))
  alike-on j rest l q z a k h = ⊎_elim
      (λ (x : k ≡ D.depth j). ap (λ (m : ℕ). bit_of m (key_of w f (f (side j rest)))) x ∙ D.turn j (rest % 2) l (omega arith) z ∙ ap (λ (m : ℕ). m % 2) q ∙ ap (λ (m : ℕ). bit_of m e) (sym x))
      (λ (x : k ≢ D.depth j). let y : k < D.depth j = omega (arith, D.down j (rest % 2) l (omega arith) z) in D.alike j (rest % 2) k l (omega arith) z y ∙ a k y)
      (eq-or k (D.depth j))

  pub came : (m j rest : ℕ) → j < n → n ≤ j + m → rest ≡ halved (D.depth j) e → Alike w f n e D j → Came w f e n (spot w f e m j rest) D
  came zero j rest l h q al = absurd (omega arith)
  came (suc m) j rest l h q al =
      case (ends w f e j)
      (λ y. subst (λ (x : ℕ). Came w f e n x D) (sym (spot-ends w f e m j rest y))
      (record { node = j; low = l; part = 0; most = omega arith; is = omega arith; bits = λ z. absurd (z refl); alike = al }))
      (λ y. ⊎_elim
      (λ (z : f (side j rest) ≡ 0). subst (λ (x : ℕ). Came w f e n x D) (sym (spot-none w f e m j rest y z))
      (record { node = j; low = l; part = 1 + rest % 2; most = omega arith; is = omega arith; bits = λ _. ap (λ (x : ℕ). 1 + x % 2) q; alike = al }))
      (λ (z : f (side j rest) ≢ 0).
      let a : j < f (side j rest) = L.after j (rest % 2) l (omega arith) z in
      let b : f (side j rest) < n = L.below j (rest % 2) l (omega arith) z in
      subst (λ (x : ℕ). Came w f e n x D) (sym (spot_on w f e m j rest y z)) (came m (f (side j rest)) (rest / 2) b (omega arith) (rest-on j rest l q z) (alike-on j rest l q z al)))
      (eq-or (f (side j rest)) 0))

-- numbers whose bits are equal
bits-equal : (d x y : ℕ) → halved d x ≡ halved d y → ((k : ℕ) → k < d → bit_of k x ≡ bit_of k y) → x ≡ y
unfolding halved
bits-equal zero x y h b = h
bits-equal (suc d) x y h b =
    let p : bit_of d x ≡ bit_of d y = b d (omega arith) in
    let q : halved d x ≡ halved d y = omega arith in
    bits-equal d x y q (λ k l. b k (omega arith))

-- m doubled d times
unfoldable doubled : ℕ → ℕ → ℕ
doubled zero m = m
doubled (suc d) m = doubled d (2 * m)

halved-low : (d x m : ℕ) → x < doubled d m → halved d x < m
unfolding halved doubled
halved-low zero x m h = h
halved-low (suc d) x m h = omega (arith, halved-low d x (2 * m) h)

word_low : (x : ℕ) → x < 18446744073709551616 → halved 64 x ≡ 0
unfolding doubled
word_low x h = omega (arith, halved-low 64 x 1 h)

-- at depth 64 a walk ends
pub deep-ends : (w : List ℕ) (f : ℕ → ℕ) (n e j : ℕ) (D : Deep w f n) → D.depth j ≡ 64 → Alike w f n e D j → e < 18446744073709551616 → key_of w f j < 18446744073709551616 → ends w f e j ≡ true
unfolding ends either
deep-ends w f n e j D q a he hk =
    let y : key_of w f j ≡ e = bits-equal 64 (key_of w f j) e (word_low (key_of w f j) hk ∙ sym (word_low e he)) (λ k l. a k (omega arith)) in
    case (eqb (f (3 * j)) 0) (λ z. rw z) (λ z. rw (z, eq-eqb (key_of w f j) e y))

-- ---- record i is noted

module _ (w : List ℕ) (f f' : ℕ → ℕ) (count nodes i : ℕ) (T : Tabled w f count nodes i) (low : i < count) where
  pub fits : nodes ≤ count
  fits = ⊎_elim (λ (z : f 0 ≡ 0). omega (arith, T.bare z)) (λ (z : f 0 ≢ 0). omega (arith, T.few z)) (eq-or (f 0) 0)

  next : nodes ≤ suc i
  next = ⊎_elim (λ (z : f 0 ≡ 0). omega (arith, T.bare z)) (λ (z : f 0 ≢ 0). omega (arith, T.few z)) (eq-or (f 0) 0)

  -- at the first word of node k
  module _ (k : ℕ) (lk : k < nodes) (new : f' (3 * k) ≡ suc i) (old : (m : ℕ) → m ≢ 3 * k → f' m ≡ f m) (deep : Deep w f' nodes) (says : (e : ℕ) → f' (spot w f' e count 0 e) ≡ latest_of w e (suc i)) where
    noted-at : Tabled w f' count nodes (suc i)
    noted-at = record {
      links = record {
        first = λ j l. ⊎_elim
            (λ (q : j ≡ k). rw (q, new) (omega arith))
            (λ (q : j ≢ k). rw (old (3 * j) (λ x. q (omega arith))) (omega (arith, T.links.first j l)))
            (eq-or j k);
        after = λ j b l h z. (let q : f' (3 * j + 1 + b) ≡ f (3 * j + 1 + b) = old (3 * j + 1 + b) (λ x. omega arith) in rw q (T.links.after j b l h (λ x. z (q ∙ x))));
        below = λ j b l h z. (let q : f' (3 * j + 1 + b) ≡ f (3 * j + 1 + b) = old (3 * j + 1 + b) (λ x. omega arith) in rw q (T.links.below j b l h (λ x. z (q ∙ x))));
      };
      deep = deep;
      one = T.one;
      bare = λ z. ⊎_elim
          (λ (q : k ≡ 0). absurd (let y : f' 0 ≡ suc i = (let x : 0 ≡ 3 * k = omega arith in ap f' x ∙ new) in omega arith))
          (λ (q : k ≢ 0). T.bare (sym (old 0 (λ x. q (omega arith))) ∙ z))
          (eq-or k 0);
      few = λ _. next;
      full = λ j a l. ⊎_elim
          (λ (q : j ≡ k). rw (q, new) (omega arith))
          (λ (q : j ≢ k). rw (old (3 * j) (λ x. q (omega arith))) (T.full j a l))
          (eq-or j k);
      rest = λ m a b. old m (λ x. omega arith) ∙ T.rest m a b;
      says = says;
    }

  module _ (kind : (e : ℕ) → of_epoch w i e ≡ eqb (epoch_at w i) e) where
    latest-yes : (e : ℕ) → epoch_at w i ≡ e → latest_of w e (suc i) ≡ suc i
    unfolding latest_of pick
    latest-yes e q = rw (kind e, eq-eqb (epoch_at w i) e q)

    latest-no : (e : ℕ) → epoch_at w i ≢ e → latest_of w e (suc i) ≡ latest_of w e i
    unfolding latest_of pick
    latest-no e q = rw (kind e, ne_eqb (epoch_at w i) e q)

    -- the node of its epoch
    module _ (k : ℕ) (lk : k < nodes) (some : f (3 * k) ≢ 0) (key : epoch_at w (f (3 * k) - 1) ≡ epoch_at w i) (here : spot w f (epoch_at w i) count 0 (epoch_at w i) ≡ 3 * k)
        (new : f' (3 * k) ≡ suc i) (old : (m : ℕ) → m ≢ 3 * k → f' m ≡ f m) where
      ends_same : (e j : ℕ) → ends w f' e j ≡ ends w f e j
      unfolding ends either
      ends_same e j = ⊎_elim
          (λ (q : j ≡ k). let x : suc i - 1 ≡ i = omega arith in let y : suc i ≢ 0 = λ z. omega arith in
          rw (q, new, x, ne_eqb (suc i) 0 y, ne_eqb (f (3 * k)) 0 some, key))
          (λ (q : j ≢ k). rw (old (3 * j) (λ x. q (omega arith))))
          (eq-or j k)

      spot-same : (e m j rest : ℕ) → spot w f' e m j rest ≡ spot w f e m j rest
      unfolding spot pick
      spot-same e zero j rest = refl
      spot-same e (suc m) j rest =
          rw (ends_same e j, old (side j rest) (λ x. omega arith)) (case (ends w f e j) (λ y. rw y) (λ y. rw y (case (eqb (f (side j rest)) 0) (λ z. rw z) (λ z. rw z (spot-same e m (f (side j rest)) (rest / 2))))))

      apart : (e : ℕ) → epoch_at w i ≢ e → spot w f e count 0 e ≢ 3 * k
      unfolding ends
      apart e q h =
          let E = ended w f e nodes i T.links count 0 e T.one (omega (arith, fits)) in
          let p : E.part ≡ 0 = omega (arith, E.is, E.most) in
          let d : E.node ≡ k = omega (arith, E.is, E.most) in
          let y : ends w f e k ≡ true = subst (λ (x : ℕ). ends w f e x ≡ true) d (E.stop p) in
          ⊎_elim
          (λ (z : eqb (f (3 * k)) 0 ≡ true). some (eqb-true (f (3 * k)) 0 z))
          (λ (z : eqb (epoch_at w (f (3 * k) - 1)) e ≡ true). q (sym key ∙ eqb-true (epoch_at w (f (3 * k) - 1)) e z))
          (either_true (eqb (f (3 * k)) 0) (eqb (epoch_at w (f (3 * k) - 1)) e) y)

      same_key : (j : ℕ) → key_of w f' j ≡ key_of w f j
      same_key j = ⊎_elim
          (λ (q : j ≡ k). let x : suc i - 1 ≡ i = omega arith in rw (q, new, x, key))
          (λ (q : j ≢ k). rw (old (3 * j) (λ x. q (omega arith))))
          (eq-or j k)

      same-side : (j b : ℕ) → b < 2 → f' (3 * j + 1 + b) ≡ f (3 * j + 1 + b)
      same-side j b h = old (3 * j + 1 + b) (λ x. omega arith)

      same-deep : Deep w f' nodes
      same-deep = record {
        depth = T.deep.depth;
        root = T.deep.root;
        down = λ j b l h z. ap T.deep.depth (same-side j b h) ∙ T.deep.down j b l h (λ x. z (same-side j b h ∙ x));
        alike = λ j b m l h z y. ap (λ (x : ℕ). bit_of m (key_of w f' x)) (same-side j b h) ∙ ap (bit_of m) (same_key (f (3 * j + 1 + b))) ∙ T.deep.alike j b m l h (λ x. z (same-side j b h ∙ x)) y ∙ ap (bit_of m) (sym (same_key j));
        turn = λ j b l h z. ap (λ (x : ℕ). bit_of (T.deep.depth j) (key_of w f' x)) (same-side j b h) ∙ ap (bit_of (T.deep.depth j)) (same_key (f (3 * j + 1 + b))) ∙ T.deep.turn j b l h (λ x. z (same-side j b h ∙ x));
      }

      pub noted-node : Tabled w f' count nodes (suc i)
      noted-node = noted-at k lk new old same-deep (λ e. ap f' (spot-same e count 0 e) ∙ ⊎_elim
          (λ (q : epoch_at w i ≡ e). subst (λ (x : ℕ). f' (spot w f x count 0 x) ≡ suc i) q (ap f' here ∙ new) ∙ sym (latest-yes e q))
          (λ (q : epoch_at w i ≢ e). old (spot w f e count 0 e) (apart e q) ∙ T.says e ∙ sym (latest-no e q))
          (eq-or (epoch_at w i) e))

    -- the empty root
    module _ (bare : f 0 ≡ 0) (new : f' (3 * 0) ≡ suc i) (old : (m : ℕ) → m ≢ 3 * 0 → f' m ≡ f m) where
      single : nodes ≡ 1
      single = T.bare bare

      no-side : (j b : ℕ) → j < nodes → b < 2 → f' (3 * j + 1 + b) ≡ 0
      no-side j b l h = old (3 * j + 1 + b) (λ x. omega arith) ∙ ⊎_elim
          (λ (z : f (3 * j + 1 + b) ≡ 0). z)
          (λ (z : f (3 * j + 1 + b) ≢ 0). absurd (omega (arith, T.links.after j b l h z, T.links.below j b l h z, single)))
          (eq-or (f (3 * j + 1 + b)) 0)

      no-child : (e : ℕ) → f' (side 0 e) ≡ 0
      no-child e = no-side 0 (e % 2) T.one (omega arith)

      root-deep : Deep w f' nodes
      root-deep = record {
        depth = λ _. 0;
        root = refl;
        down = λ j b l h z. absurd (z (no-side j b l h));
        alike = λ j b m l h z y. absurd (z (no-side j b l h));
        turn = λ j b l h z. absurd (z (no-side j b l h));
      }

      ends-root : (e : ℕ) → ends w f' e 0 ≡ eqb (epoch_at w i) e
      unfolding ends either
      ends-root e = let x : suc i - 1 ≡ i = omega arith in let y : suc i ≢ 0 = λ z. omega arith in rw (new, x, ne_eqb (suc i) 0 y)

      at-root : (e : ℕ) → ends w f e 0 ≡ true
      unfolding ends either
      at-root e = rw (eq-eqb (f (3 * 0)) 0 bare)

      none_yet : (e n : ℕ) → suc n ≡ count → latest_of w e i ≡ 0
      none_yet e n q = sym (T.says e) ∙ ap f (ap (λ (m : ℕ). spot w f e m 0 e) (sym q) ∙ spot-ends w f e n 0 e (at-root e)) ∙ bare

      root-says : (e n : ℕ) → suc n ≡ count → f' (spot w f' e count 0 e) ≡ latest_of w e (suc i)
      root-says e n c = subst (λ (m : ℕ). f' (spot w f' e m 0 e) ≡ latest_of w e (suc i)) c (⊎_elim
          (λ (q : epoch_at w i ≡ e). ap f' (spot-ends w f' e n 0 e (ends-root e ∙ eq-eqb (epoch_at w i) e q)) ∙ new ∙ sym (latest-yes e q))
          (λ (q : epoch_at w i ≢ e). ap f' (spot-none w f' e n 0 e (ends-root e ∙ ne_eqb (epoch_at w i) e q) (no-child e)) ∙ no-child e ∙ sym (none_yet e n c) ∙ sym (latest-no e q))
          (eq-or (epoch_at w i) e))

      pub noted-root : Tabled w f' count nodes (suc i)
      noted-root = noted-at 0 T.one new old root-deep (λ e. let c : suc (count - 1) ≡ count = omega arith in root-says e (count - 1) c)

    -- a new node, at word `at`, where a child was not there
    module _ (at k b : ℕ) (lk : k < nodes) (one : 1 ≤ b) (two : b ≤ 2) (is : at ≡ 3 * k + b) (none : f at ≡ 0) (here : spot w f (epoch_at w i) count 0 (epoch_at w i) ≡ at) (rooted : f 0 ≢ 0)
        (bits : b ≡ 1 + bit_of (T.deep.depth k) (epoch_at w i)) (like : Alike w f nodes (epoch_at w i) T.deep k)
        (child : f' at ≡ nodes) (new : f' (3 * nodes) ≡ suc i) (old : (m : ℕ) → m ≢ at → m ≢ 3 * nodes → f' m ≡ f m) where
      room : nodes ≤ i
      room = T.few rooted

      ends-old : (e j : ℕ) → j < nodes → ends w f' e j ≡ ends w f e j
      unfolding ends
      ends-old e j l = rw (old (3 * j) (λ x. omega arith) (λ x. omega arith))

      ends-new : (e : ℕ) → ends w f' e nodes ≡ eqb (epoch_at w i) e
      unfolding ends either
      ends-new e = let x : suc i - 1 ≡ i = omega arith in let y : suc i ≢ 0 = λ z. omega arith in rw (new, x, ne_eqb (suc i) 0 y)

      leaf : (c : ℕ) → c < 2 → f' (3 * nodes + 1 + c) ≡ 0
      leaf c h = old (3 * nodes + 1 + c) (λ x. omega arith) (λ x. omega arith) ∙ T.rest (3 * nodes + 1 + c) (omega arith) (omega (arith, room))

      -- the walk that comes to the new node
      at_new : (e m rest : ℕ) → f' (spot w f' e (suc m) nodes rest) ≡ pick (eqb (epoch_at w i) e) (suc i) 0
      unfolding pick
      at_new e m rest = case (eqb (epoch_at w i) e)
          (λ y. ap f' (spot-ends w f' e m nodes rest (ends-new e ∙ y)) ∙ new ∙ rw y)
          (λ y. ap f' (spot-none w f' e m nodes rest (ends-new e ∙ y) (leaf (rest % 2) (omega arith))) ∙ leaf (rest % 2) (omega arith) ∙ rw y)

      walked : (e m j rest : ℕ) → j < nodes → suc nodes ≤ j + m
          → f' (spot w f' e m j rest) ≡ pick (eqb (spot w f e m j rest) at) (pick (eqb (epoch_at w i) e) (suc i) 0) (f (spot w f e m j rest))
      unfolding pick
      walked e zero j rest l h = absurd (omega arith)
      walked e (suc m) j rest l h =
          case (ends w f e j)
          (λ y. let s = spot-ends w f e m j rest y in
          let d : 3 * j ≢ at = λ x. omega arith in
          ap f' (spot-ends w f' e m j rest (ends-old e j l ∙ y)) ∙ old (3 * j) d (λ x. omega arith) ∙ rw (s, ne_eqb (3 * j) at d))
          (λ y. ⊎_elim
          (λ (q : side j rest ≡ at).
          let s = spot-none w f e m j rest y (ap f q ∙ none) in
          let g : f' (side j rest) ≡ nodes = ap f' q ∙ child in
          let c : suc (m - 1) ≡ m = omega arith in
          ap f' (spot_on w f' e m j rest (ends-old e j l ∙ y) (λ x. omega (arith, T.one)) ∙ ap (λ (x : ℕ). spot w f' e m x (rest / 2)) g ∙ ap (λ (x : ℕ). spot w f' e x nodes (rest / 2)) (sym c))
          ∙ at_new e (m - 1) (rest / 2) ∙ rw (s, eq-eqb (side j rest) at q))
          (λ (q : side j rest ≢ at).
          let g : f' (side j rest) ≡ f (side j rest) = old (side j rest) q (λ x. omega arith) in
          ⊎_elim
          (λ (z : f (side j rest) ≡ 0).
          let s = spot-none w f e m j rest y z in
          ap f' (spot-none w f' e m j rest (ends-old e j l ∙ y) (g ∙ z)) ∙ g ∙ rw (s, ne_eqb (side j rest) at q))
          (λ (z : f (side j rest) ≢ 0).
          let a : j < f (side j rest) = T.links.after j (rest % 2) l (omega arith) z in
          let b : f (side j rest) < nodes = T.links.below j (rest % 2) l (omega arith) z in
          ap f' (spot_on w f' e m j rest (ends-old e j l ∙ y) (λ x. z (sym g ∙ x)) ∙ ap (λ (x : ℕ). spot w f' e m x (rest / 2)) g)
          ∙ walked e m (f (side j rest)) (rest / 2) b (omega arith) ∙ rw (spot_on w f e m j rest y z))
          (eq-or (f (side j rest)) 0))
          (eq-or (side j rest) at))

      new-says : (e : ℕ) → f' (spot w f' e count 0 e) ≡ latest_of w e (suc i)
      unfolding pick
      new-says e = walked e count 0 e T.one (omega (arith, room)) ∙ ⊎_elim
          (λ (q : epoch_at w i ≡ e).
          let h : spot w f e count 0 e ≡ at = subst (λ (x : ℕ). spot w f x count 0 x ≡ at) q here in
          rw (eq-eqb (spot w f e count 0 e) at h, eq-eqb (epoch_at w i) e q) (sym (latest-yes e q)))
          (λ (q : epoch_at w i ≢ e). rw (ne_eqb (epoch_at w i) e q)
          (case (eqb (spot w f e count 0 e) at)
          (λ y. rw y (sym (latest-no e q ∙ sym (T.says e) ∙ ap f (eqb-true (spot w f e count 0 e) at y) ∙ none)))
          (λ y. rw y (T.says e ∙ sym (latest-no e q)))))
          (eq-or (epoch_at w i) e)

      -- a child of a node is the new one, on that side, or an old one
      by_side : (P : ℕ → Type 0) (j c : ℕ) → j < suc nodes → c < 2 → f' (3 * j + 1 + c) ≢ 0 → (j ≡ k → suc c ≡ b → P nodes)
          → (j < nodes → f (3 * j + 1 + c) ≢ 0 → f (3 * j + 1 + c) < nodes → P (f (3 * j + 1 + c))) → P (f' (3 * j + 1 + c))
      by_side P j c l h z p o = ⊎_elim
          (λ (q : j ≡ nodes). absurd (z (subst (λ (x : ℕ). f' (3 * x + 1 + c) ≡ 0) (sym q) (leaf c h))))
          (λ (q : j ≢ nodes). let d : j < nodes = omega arith in ⊎_elim
          (λ (r : 3 * j + 1 + c ≡ at). subst P (sym (ap f' r ∙ child)) (p (omega arith) (omega arith)))
          (λ (r : 3 * j + 1 + c ≢ at).
          let g : f' (3 * j + 1 + c) ≡ f (3 * j + 1 + c) = old (3 * j + 1 + c) r (λ x. omega arith) in
          let y : f (3 * j + 1 + c) ≢ 0 = λ x. z (g ∙ x) in
          subst P (sym g) (o d y (T.links.below j c d h y)))
          (eq-or (3 * j + 1 + c) at))
          (eq-or j nodes)

      old-key : (j : ℕ) → j < nodes → key_of w f' j ≡ key_of w f j
      old-key j l = rw (old (3 * j) (λ x. omega arith) (λ x. omega arith))

      new-key : key_of w f' nodes ≡ epoch_at w i
      new-key = let x : suc i - 1 ≡ i = omega arith in rw (new, x)

      abbrev new-depth : ℕ → ℕ
      new-depth = upd T.deep.depth nodes (suc (T.deep.depth k))

      old-depth : (j : ℕ) → j < nodes → new-depth j ≡ T.deep.depth j
      old-depth j l = upd_other T.deep.depth nodes (suc (T.deep.depth k)) j (λ x. omega arith)

      new_deep : Deep w f' (suc nodes)
      new_deep = record {
        depth = new-depth;
        root = old-depth 0 T.one ∙ T.deep.root;
        down = λ j c l h z. by_side (λ x. new-depth x ≡ suc (new-depth j)) j c l h z
            (λ p r. upd_same T.deep.depth nodes (suc (T.deep.depth k)) ∙ ap suc (sym (ap new-depth p ∙ old-depth k lk)))
            (λ d y m. old-depth (f (3 * j + 1 + c)) m ∙ T.deep.down j c d h y ∙ ap suc (sym (old-depth j d)));
        alike = λ j c n l h z u. by_side (λ x. bit_of n (key_of w f' x) ≡ bit_of n (key_of w f' j)) j c l h z
            (λ p r. let v : n < T.deep.depth k = omega (arith, ap new-depth p, old-depth k lk) in
            ap (bit_of n) new-key ∙ sym (like n v) ∙ sym (ap (λ (x : ℕ). bit_of n (key_of w f' x)) p ∙ ap (bit_of n) (old-key k lk)))
            (λ d y m. let v : n < T.deep.depth j = omega (arith, old-depth j d) in
            ap (bit_of n) (old-key (f (3 * j + 1 + c)) m) ∙ T.deep.alike j c n d h y v ∙ ap (bit_of n) (sym (old-key j d)));
        turn = λ j c l h z. by_side (λ x. bit_of (new-depth j) (key_of w f' x) ≡ c) j c l h z
            (λ p r. ap (bit_of (new-depth j)) new-key ∙ ap (λ (x : ℕ). bit_of x (epoch_at w i)) (ap new-depth p ∙ old-depth k lk) ∙ omega arith)
            (λ d y m. ap (bit_of (new-depth j)) (old-key (f (3 * j + 1 + c)) m) ∙ ap (λ (x : ℕ). bit_of x (key_of w f (f (3 * j + 1 + c)))) (old-depth j d) ∙ T.deep.turn j c d h y);
      }

      pub noted-new : Tabled w f' count (suc nodes) (suc i)
      noted-new = record {
        links = record {
          first = λ j l. ⊎_elim
              (λ (q : j ≡ nodes). rw (q, new) (omega arith))
              (λ (q : j ≢ nodes). let d : j < nodes = omega arith in rw (old (3 * j) (λ x. omega arith) (λ x. q (omega arith))) (omega (arith, T.links.first j d)))
              (eq-or j nodes);
          after = λ j c l h z. by_side (λ x. j < x) j c l h z (λ p r. omega arith) (λ d y m. T.links.after j c d h y);
          below = λ j c l h z. by_side (λ x. x < suc nodes) j c l h z (λ p r. omega arith) (λ d y m. omega arith);
        };
        deep = new_deep;
        one = omega arith;
        bare = λ z. absurd (rooted (sym (old 0 (λ x. omega arith) (λ x. omega (arith, T.one))) ∙ z));
        few = λ _. omega (arith, room);
        full = λ j a l. ⊎_elim
            (λ (q : j ≡ nodes). rw (q, new) (omega arith))
            (λ (q : j ≢ nodes). let d : j < nodes = omega arith in rw (old (3 * j) (λ x. omega arith) (λ x. q (omega arith))) (T.full j a d))
            (eq-or j nodes);
        rest = λ m a b. old m (λ x. omega arith) (λ x. omega arith) ∙ T.rest m (omega arith) b;
        says = new-says;
      }

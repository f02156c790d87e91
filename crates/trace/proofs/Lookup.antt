-- The table of epochs in the space: one law for each answer of its functions, and the space outside it.
use Prim.Native.Nat.{ℕ, suc, ◌+◌, ◌-◌, ◌*◌, ◌/◌, ◌%◌, ◌≤◌, ◌<◌}
use mathlib.Core.Path.{◌≡◌, refl, sym, ap, ◌∙◌, subst}
use mathlib.Core.Logic.{◌≢◌, ⊎_elim}
use mathlib.Core.Bool.{Bool, true, false}
use mathlib.Core.List.{List, ◌++◌, append_assoc}
use native.Mathlib.Omega.{arith}
use lib.Dec.{eqb, leb}
use lib.ListN.{length, take, drop, get_or, set, replicate, length-append, length-drop, length-replicate, length-set, get_or-replicate, get_or-append}
use lib.Seq.{paste, take_all, length-take-le, take-append-le, take-take, get_or-append-add, get_or-take, get_or-drop, get_or-set_same, get_or-set_other, take-set-le, drop-set-lt, ext_get_or}
use borrow.Author.Tests.{eqb-true, eq-eqb, ne_eqb, leb-true, leb-false}
use Rattle.base.specs.Choice.{pick, both, either}
use Rattle.base.proofs.Choice.{tests, case, eq-or, le-or-lt, either_true}
use Rattle.trace.specs.Words.{WORDS, kind_of, epoch_at, of_epoch, latest_of, laid}
use Rattle.trace.specs.Table.{cell, cleared, ends, side, spot, spot_at, halved, key_of, Linked, Deep, Walkable, Found, Tabled, Noted}
use Rattle.trace.proofs.Table.{spot-ends, spot-none, spot_on, Ended, spot-more, ended, Alike, Came, alike-root, rest-on, alike-on, came, deep-ends, fits, noted-node, noted-root, noted-new}

-- ---- the space, word by word

module _ (g sp : List ℕ) where
  laid-low : (k : ℕ) → k < length g → get_or (laid g sp) k 0 ≡ get_or g k 0
  unfolding laid
  laid-low k h = get_or-append g (drop (length g) sp) 0 k h

  pub laid-high : (k : ℕ) → length g ≤ k → get_or (laid g sp) k 0 ≡ get_or sp k 0
  unfolding laid
  laid-high k h =
      let z : length g + (k - length g) ≡ k = omega arith in
      subst (λ (j : ℕ). get_or (g ++ drop (length g) sp) j 0 ≡ get_or sp j 0) z (get_or-append-add g (drop (length g) sp) (k - length g) 0 ∙ get_or-drop (length g) sp (k - length g) 0)

  pub length-laid : length g ≤ length sp → length (laid g sp) ≡ length sp
  unfolding laid
  length-laid h = length-append g (drop (length g) sp) ∙ omega (arith, length-drop (length g) sp)

module _ (count : ℕ) (sp : List ℕ) (room : 4 * count ≤ length sp) where
  front : length (take count sp) ≡ count
  front = length-take-le count sp (omega arith)

  pub length-cleared : length (cleared count sp) ≡ length sp
  unfolding cleared
  length-cleared =
      length-append (take count sp) (replicate (3 * count) 0 ++ drop (4 * count) sp)
      ∙ omega (arith, front, length-append (replicate (3 * count) 0) (drop (4 * count) sp), length-replicate {A = ℕ} (3 * count) 0, length-drop (4 * count) sp)

  cleared-low : (k : ℕ) → k < count → get_or (cleared count sp) k 0 ≡ get_or sp k 0
  unfolding cleared
  cleared-low k h = get_or-append (take count sp) (replicate (3 * count) 0 ++ drop (4 * count) sp) 0 k (omega (arith, front)) ∙ get_or-take count sp k 0 h

  behind : (m : ℕ) → get_or (cleared count sp) (count + m) 0 ≡ get_or (replicate (3 * count) 0 ++ drop (4 * count) sp) m 0
  unfolding cleared
  behind m = subst (λ (j : ℕ). get_or (take count sp ++ (replicate (3 * count) 0 ++ drop (4 * count) sp)) (j + m) 0 ≡ get_or (replicate (3 * count) 0 ++ drop (4 * count) sp) m 0) front
      (get_or-append-add (take count sp) (replicate (3 * count) 0 ++ drop (4 * count) sp) m 0)

  -- the table is empty
  pub cleared-cell : (m : ℕ) → m < 3 * count → cell (cleared count sp) count m ≡ 0
  cleared-cell m h = behind m ∙ get_or-append (replicate (3 * count) 0) (drop (4 * count) sp) 0 m (omega (arith, length-replicate {A = ℕ} (3 * count) 0)) ∙ get_or-replicate (3 * count) m 0 0 h

  beyond : (m : ℕ) → get_or (cleared count sp) (4 * count + m) 0 ≡ get_or sp (4 * count + m) 0
  beyond m =
      let a : 4 * count + m ≡ count + (3 * count + m) = omega arith in
      ap (λ (j : ℕ). get_or (cleared count sp) j 0) a ∙ behind (3 * count + m)
      ∙ subst (λ (j : ℕ). get_or (replicate (3 * count) 0 ++ drop (4 * count) sp) (j + m) 0 ≡ get_or (drop (4 * count) sp) m 0) (length-replicate {A = ℕ} (3 * count) 0) (get_or-append-add (replicate (3 * count) 0) (drop (4 * count) sp) m 0)
      ∙ get_or-drop (4 * count) sp m 0

  cleared-high : (k : ℕ) → 4 * count ≤ k → get_or (cleared count sp) k 0 ≡ get_or sp k 0
  cleared-high k h = let b : 4 * count + (k - 4 * count) ≡ k = omega arith in subst (λ (j : ℕ). get_or (cleared count sp) j 0 ≡ get_or sp j 0) b (beyond (k - 4 * count))

  -- the words before the table
  pub take-cleared : (k : ℕ) → k ≤ count → take k (cleared count sp) ≡ take k sp
  unfolding cleared
  take-cleared k h = take-append-le k (take count sp) (replicate (3 * count) 0 ++ drop (4 * count) sp) (omega (arith, front)) ∙ take-take k count sp h

  cleared-set : (k v : ℕ) → k < 3 * count → cleared count (set sp (count + k) v) ≡ cleared count sp
  unfolding cleared
  cleared-set k v h = rw (take-set-le count sp (count + k) v (omega arith), drop-set-lt (4 * count) sp (count + k) v (omega arith))

-- two spaces that agree outside the table
cleared-agree : (count : ℕ) (a b : List ℕ) → length a ≡ length b → 4 * count ≤ length a → ((k : ℕ) → k < count → get_or a k 0 ≡ get_or b k 0) → ((k : ℕ) → 4 * count ≤ k → get_or a k 0 ≡ get_or b k 0)
    → cleared count a ≡ cleared count b
cleared-agree count a b l h p q =
    let h' : 4 * count ≤ length b = omega arith in
    ext_get_or 0 (cleared count a) (cleared count b) (length-cleared count a h ∙ l ∙ sym (length-cleared count b h')) (λ k _. ⊎_elim
    (λ (x : count ≤ k). ⊎_elim
    (λ (y : 4 * count ≤ k). cleared-high count a h k y ∙ q k y ∙ sym (cleared-high count b h' k y))
    (λ (y : k < 4 * count). let z : count + (k - count) ≡ k = omega arith in
    subst (λ (j : ℕ). get_or (cleared count a) j 0 ≡ get_or (cleared count b) j 0) z (cleared-cell count a h (k - count) (omega arith) ∙ sym (cleared-cell count b h' (k - count) (omega arith))))
    (le-or-lt (4 * count) k))
    (λ (x : k < count). cleared-low count a h k x ∙ p k x ∙ sym (cleared-low count b h' k x))
    (le-or-lt count k))

module _ (count : ℕ) (sp : List ℕ) (room : 4 * count ≤ length sp) where
  pub cleared-twice : cleared count (cleared count sp) ≡ cleared count sp
  cleared-twice = cleared-agree count (cleared count sp) sp (length-cleared count sp room) (omega (arith, length-cleared count sp room)) (cleared-low count sp room) (cleared-high count sp room)

  pub cleared-laid : (g : List ℕ) → length g ≤ count → cleared count (laid g sp) ≡ laid g (cleared count sp)
  cleared-laid g h =
      let n : length (laid g sp) ≡ length sp = length-laid g sp (omega arith) in
      let m : length (cleared count sp) ≡ length sp = length-cleared count sp room in
      let r : 4 * count ≤ length (laid g sp) = omega arith in
      ext_get_or 0 (cleared count (laid g sp)) (laid g (cleared count sp)) (length-cleared count (laid g sp) r ∙ n ∙ sym (length-laid g (cleared count sp) (omega arith) ∙ m)) (λ k _. ⊎_elim
      (λ (x : count ≤ k). ⊎_elim
      (λ (y : 4 * count ≤ k). cleared-high count (laid g sp) r k y ∙ laid-high g sp k (omega arith) ∙ sym (laid-high g (cleared count sp) k (omega arith) ∙ cleared-high count sp room k y))
      (λ (y : k < 4 * count). let z : count + (k - count) ≡ k = omega arith in
      subst (λ (j : ℕ). get_or (cleared count (laid g sp)) j 0 ≡ get_or (laid g (cleared count sp)) j 0) z
      (cleared-cell count (laid g sp) r (k - count) (omega arith) ∙ sym (laid-high g (cleared count sp) (count + (k - count)) (omega arith) ∙ cleared-cell count sp room (k - count) (omega arith))))
      (le-or-lt (4 * count) k))
      (λ (x : k < count). ⊎_elim
      (λ (y : length g ≤ k). cleared-low count (laid g sp) r k x ∙ laid-high g sp k y ∙ sym (laid-high g (cleared count sp) k y ∙ cleared-low count sp room k x))
      (λ (y : k < length g). cleared-low count (laid g sp) r k x ∙ laid-low g sp k y ∙ sym (laid-low g (cleared count sp) k y))
      (le-or-lt (length g) k))
      (le-or-lt count k))

-- zeros written over the table
pub cleared-paste : (count : ℕ) (sp : List ℕ) → paste sp count (replicate (3 * count) 0) (3 * count) ≡ cleared count sp
unfolding cleared
cleared-paste count sp =
    let e : count + 3 * count ≡ 4 * count = omega arith in
    let l : take {A = ℕ} (3 * count) (replicate (3 * count) 0) ≡ replicate (3 * count) 0 = take_all (3 * count) (replicate (3 * count) 0) (omega (arith, length-replicate {A = ℕ} (3 * count) 0)) in
    rw (l, e) (append_assoc (take count sp) (replicate (3 * count) 0) (drop (4 * count) sp))

-- ---- the table before the first record, and its nodes

module _ (w : List ℕ) (count : ℕ) (sp : List ℕ) (room : 4 * count ≤ length sp) (some : 0 < count) where
  zero-cell : (m : ℕ) → m < 3 * count → cell (cleared count sp) count m ≡ 0
  zero-cell = cleared-cell count sp room

  at-root : (e : ℕ) → ends w (cell (cleared count sp) count) e 0 ≡ true
  unfolding ends either
  at-root e = rw (eq-eqb (cell (cleared count sp) count (3 * 0)) 0 (zero-cell (3 * 0) (omega arith)))

  pub table_empty : Tabled w (cell (cleared count sp) count) count 1 0
  unfolding latest_of
  table_empty = record {
    links = record {
      first = λ j l. omega (arith, zero-cell (3 * j) (omega arith));
      after = λ j b l h z. absurd (z (zero-cell (3 * j + 1 + b) (omega arith)));
      below = λ j b l h z. absurd (z (zero-cell (3 * j + 1 + b) (omega arith)));
    };
    deep = record {
      depth = λ _. 0;
      root = refl;
      down = λ j b l h z. absurd (z (zero-cell (3 * j + 1 + b) (omega arith)));
      alike = λ j b k l h z y. absurd (z (zero-cell (3 * j + 1 + b) (omega arith)));
      turn = λ j b l h z. absurd (z (zero-cell (3 * j + 1 + b) (omega arith)));
    };
    one = omega arith;
    bare = λ _. refl;
    few = λ z. absurd (z (zero-cell 0 (omega arith)));
    full = λ j a b. absurd (omega arith);
    rest = λ k a b. zero-cell k b;
    says = λ e. (let c : suc (count - 1) ≡ count = omega arith in
        subst (λ (n : ℕ). cell (cleared count sp) count (spot w (cell (cleared count sp) count) e n 0 e) ≡ 0) c
        (ap (cell (cleared count sp) count) (spot-ends w (cell (cleared count sp) count) e (count - 1) 0 e (at-root e)) ∙ zero-cell (3 * 0) (omega arith)));
  }

-- all that could be nodes
module _ (w : List ℕ) (f : ℕ → ℕ) (count nodes i : ℕ) (T : Tabled w f count nodes i) (low : i < count) where
  by-node : (P : Type 0) (j b : ℕ) → j < count → b < 2 → f (3 * j + 1 + b) ≢ 0 → (j < nodes → P) → P
  by-node P j b l h z p = ⊎_elim
      (λ (x : nodes ≤ j). absurd (z (T.rest (3 * j + 1 + b) (omega arith) (omega arith))))
      (λ (x : j < nodes). p x)
      (le-or-lt nodes j)

  wide : Linked f count count
  wide = record {
    first = λ j l. ⊎_elim
        (λ (x : nodes ≤ j). omega (arith, T.rest (3 * j) (omega arith) (omega arith)))
        (λ (x : j < nodes). omega (arith, T.links.first j x))
        (le-or-lt nodes j);
    after = λ j b l h z. by-node (j < f (3 * j + 1 + b)) j b l h z (λ x. T.links.after j b x h z);
    below = λ j b l h z. by-node (f (3 * j + 1 + b) < count) j b l h z (λ x. omega (arith, T.links.below j b x h z, fits w f f count nodes i T low));
  }

  wide-deep : Deep w f count
  wide-deep = record {
    depth = T.deep.depth;
    root = T.deep.root;
    down = λ j b l h z. by-node _ j b l h z (λ x. T.deep.down j b x h z);
    alike = λ j b k l h z y. by-node _ j b l h z (λ x. T.deep.alike j b k x h z y);
    turn = λ j b l h z. by-node _ j b l h z (λ x. T.deep.turn j b x h z);
  }

pub walkable : (w sp : List ℕ) (count nodes i : ℕ) → Tabled w (cell sp count) count nodes i → i < count → WORDS * count ≤ length w → 4 * count ≤ length sp → Walkable w sp count
walkable w sp count nodes i T low r m = record { links = wide w (cell sp count) count nodes i T low; deep = wide-deep w (cell sp count) count nodes i T low; recs = r; room = m }

-- ---- a walk

module _ (w : List ℕ) (f : ℕ → ℕ) (count e j rest : ℕ) {x : ℕ} {b : Bool} (L : Linked f count count) (l : j < count) (y : b ≡ ends w f e j) (h : spot w f e (count - j) j rest ≡ x) where
  more : spot w f e (count - j) j rest ≡ spot w f e (suc (count - suc j)) j rest
  more = let z : count - j ≡ suc (count - suc j) = omega arith in ap (λ (n : ℕ). spot w f e n j rest) z

  pub walk_end : b ≡ true → 3 * j ≡ x
  walk_end t = sym (more ∙ spot-ends w f e (count - suc j) j rest (sym y ∙ t)) ∙ h

  pub walk_none : {c : ℕ} → b ≡ false → c ≡ f (side j rest) → c ≡ 0 → side j rest ≡ x
  walk_none t q z = sym (more ∙ spot-none w f e (count - suc j) j rest (sym y ∙ t) (sym q ∙ z)) ∙ h

  pub walk-low : {c : ℕ} → c ≡ f (side j rest) → c ≢ 0 → c < count
  walk-low q z = omega (arith, L.below j (rest % 2) l (omega arith) (λ d. z (q ∙ d)))

  pub walk_up : {c : ℕ} → c ≡ f (side j rest) → c ≢ 0 → j < c
  walk_up q z = omega (arith, L.after j (rest % 2) l (omega arith) (λ d. z (q ∙ d)))

  pub walk-on : {c : ℕ} → b ≡ false → c ≡ f (side j rest) → c ≢ 0 → spot w f e (count - c) c (rest / 2) ≡ x
  walk-on {c} t q z =
      let lo : c < count = walk-low q z in
      let up : j < c = walk_up q z in
      let d : (count - c) + (c - suc j) ≡ count - suc j = omega arith in
      sym (spot-more w f e count count L (count - c) (c - suc j) c (rest / 2) lo (omega arith)) ∙ ap (λ (n : ℕ). spot w f e n c (rest / 2)) d
      ∙ sym (more ∙ spot_on w f e (count - suc j) j rest (sym y ∙ t) (λ r. z (q ∙ r)) ∙ ap (λ (m : ℕ). spot w f e (count - suc j) m (rest / 2)) (sym q)) ∙ h

-- how deep the walk is
abbrev pub Far : (w : List ℕ) (f : ℕ → ℕ) (count e j rest depth : ℕ) → Type 0
Far w f count e j rest depth = (D : Deep w f count) → (D.depth j ≡ depth) × (rest ≡ halved (D.depth j) e) × Alike w f count e D j

pub far-start : (w : List ℕ) (f : ℕ → ℕ) (count e : ℕ) → Linked f count count → Far w f count e 0 e 0
unfolding halved
far-start w f count e L D = (D.root, rw D.root, alike-root w f e count count L D)

module _ (w : List ℕ) (f : ℕ → ℕ) (count e j rest depth : ℕ) (L : Linked f count count) (l : j < count) (F : Far w f count e j rest depth) where
  pub far-on : f (side j rest) ≢ 0 → Far w f count e (f (side j rest)) (rest / 2) (depth + 1)
  far-on z D =
      let t = F D in
      (omega (arith, t.0, D.down j (rest % 2) l (omega arith) z), rest-on w f e count count L D j rest l t.1 z, alike-on w f e count count L D j rest l t.1 z t.2)

  pub far-end : Deep w f count → depth ≡ 64 → e < 18446744073709551616 → key_of w f j < 18446744073709551616 → true ≡ ends w f e j
  far-end D h a b = let t = F D in sym (deep-ends w f count e j D (omega (arith, t.0)) t.2 a b)

module _ (w : List ℕ) (f : ℕ → ℕ) (count i : ℕ) (some : 0 < count) {b : Bool} (q : b ≡ leb (kind_of w i) 2) where
  pub find-other : b ≡ false → Found w f count i 0
  unfolding spot_at pick
  find-other z = record { is = rw (← q, z); low = omega arith }

  pub find-epoch : {e r : ℕ} → Linked f count count → b ≡ true → e ≡ epoch_at w i → r ≡ spot w f e count 0 e → Found w f count i r
  unfolding spot_at pick
  find-epoch {e} {r} L t y z = record { is = rw (← q, ← y, t) z; low = (let E = ended w f e count count L count 0 e some (omega arith) in omega (arith, E.is, E.most, E.low)) }

-- ---- a record is noted

of-kind : (w : List ℕ) (i e : ℕ) → 1 ≤ kind_of w i → kind_of w i ≤ 2 → of_epoch w i e ≡ eqb (epoch_at w i) e
unfolding of_epoch both either
of-kind w i e a b = case (eqb (kind_of w i) 1)
    (λ y. rw y)
    (λ y. rw (y, eq-eqb (kind_of w i) 2 (omega tests)))

of_other : (w : List ℕ) (i e : ℕ) → 2 < kind_of w i → of_epoch w i e ≡ false
unfolding of_epoch both either
of_other w i e h = let a : kind_of w i ≢ 1 = λ z. omega arith in let b : kind_of w i ≢ 2 = λ z. omega arith in rw (ne_eqb (kind_of w i) 1 a, ne_eqb (kind_of w i) 2 b)

latest-other : (w : List ℕ) (i e : ℕ) → 2 < kind_of w i → latest_of w e (suc i) ≡ latest_of w e i
unfolding latest_of pick
latest-other w i e h = rw (of_other w i e h)

module _ (w sp : List ℕ) (count nodes at i : ℕ) (T : Tabled w (cell sp count) count nodes i) (low : i < count) (found : at ≡ spot_at w (cell sp count) count i)
    (one : 1 ≤ kind_of w i) (room : 4 * count ≤ length sp) {b : Bool} (q : b ≡ leb (kind_of w i) 2) where
  pub note-other : b ≡ false → Noted w count i sp nodes sp
  note-other z = record {
    table = record {
      links = record { first = λ j l. omega (arith, T.links.first j l); after = T.links.after; below = T.links.below };
      deep = T.deep;
      one = T.one;
      bare = T.bare;
      few = λ z. omega (arith, T.few z);
      full = T.full;
      rest = T.rest;
      says = λ e. T.says e ∙ sym (latest-other w i e (leb-false (kind_of w i) 2 (sym q ∙ z)));
    };
    kept = refl;
  }

  module _ (h : b ≡ true) (inside : at < 3 * count) where
    here : spot w (cell sp count) (epoch_at w i) count 0 (epoch_at w i) ≡ at
    unfolding spot_at pick
    here = sym (rw (← q, h) at found)

    place : Ended w (cell sp count) (epoch_at w i) nodes at
    place = subst (Ended w (cell sp count) (epoch_at w i) nodes) here
        (ended w (cell sp count) (epoch_at w i) nodes i T.links count 0 (epoch_at w i) T.one (omega (arith, fits w (cell sp count) (cell sp count) count nodes i T low)))

    way : Came w (cell sp count) (epoch_at w i) nodes at T.deep
    unfolding halved
    way = subst (λ (x : ℕ). Came w (cell sp count) (epoch_at w i) nodes x T.deep) here
        (came w (cell sp count) (epoch_at w i) nodes i T.links T.deep count 0 (epoch_at w i) T.one (omega (arith, fits w (cell sp count) (cell sp count) count nodes i T low)) (rw T.deep.root)
        (alike-root w (cell sp count) (epoch_at w i) nodes i T.links T.deep))

    kind : (e : ℕ) → of_epoch w i e ≡ eqb (epoch_at w i) e
    kind e = of-kind w i e one (leb-true (kind_of w i) 2 (sym q ∙ h))

    module _ (z : at % 3 ≡ 0) where
      is : 3 * place.node ≡ at
      is = omega (arith, place.is, place.most)

      stops : ends w (cell sp count) (epoch_at w i) place.node ≡ true
      stops = place.stop (omega (arith, place.is, place.most))

      new : cell (set sp (count + at) (i + 1)) count (3 * place.node) ≡ suc i
      new = ap (cell (set sp (count + at) (i + 1)) count) is ∙ get_or-set_same sp (count + at) (i + 1) 0 (omega (arith, inside)) ∙ omega arith

      old : (m : ℕ) → m ≢ 3 * place.node → cell (set sp (count + at) (i + 1)) count m ≡ cell sp count m
      old m d = get_or-set_other sp (count + at) (count + m) (i + 1) 0 (λ x. d (omega (arith, is)))

      root : cell sp count (3 * place.node) ≡ 0 → place.node ≡ 0
      root x = ⊎_elim
          (λ (y : place.node ≡ 0). y)
          (λ (y : place.node ≢ 0). absurd (omega (arith, T.full place.node (omega arith) place.low)))
          (eq-or place.node 0)

      key : cell sp count (3 * place.node) ≢ 0 → epoch_at w (cell sp count (3 * place.node) - 1) ≡ epoch_at w i
      unfolding ends
      key x = ⊎_elim
          (λ (y : eqb (cell sp count (3 * place.node)) 0 ≡ true). absurd (x (eqb-true (cell sp count (3 * place.node)) 0 y)))
          (λ (y : eqb (epoch_at w (cell sp count (3 * place.node) - 1)) (epoch_at w i) ≡ true). eqb-true (epoch_at w (cell sp count (3 * place.node) - 1)) (epoch_at w i) y)
          (either_true (eqb (cell sp count (3 * place.node)) 0) (eqb (epoch_at w (cell sp count (3 * place.node) - 1)) (epoch_at w i)) stops)

      pub note-node : Noted w count i sp nodes (set sp (count + at) (i + 1))
      note-node = record {
        table = ⊎_elim
            (λ (x : cell sp count (3 * place.node) ≡ 0).
            noted-root w (cell sp count) (cell (set sp (count + at) (i + 1)) count) count nodes i T low kind
            (subst (λ (j : ℕ). cell sp count (3 * j) ≡ 0) (root x) x)
            (subst (λ (j : ℕ). cell (set sp (count + at) (i + 1)) count (3 * j) ≡ suc i) (root x) new)
            (λ m d. old m (λ r. d (omega (arith, root x)))))
            (λ (x : cell sp count (3 * place.node) ≢ 0).
            noted-node w (cell sp count) (cell (set sp (count + at) (i + 1)) count) count nodes i T low kind place.node place.low x (key x) (here ∙ sym is) new old)
            (eq-or (cell sp count (3 * place.node)) 0);
        kept = cleared-set count sp room at (i + 1) inside;
      }

    module _ (z : at % 3 ≢ 0) where
      side-part : 1 ≤ way.part
      side-part = ⊎_elim (λ (y : way.part ≡ 0). absurd (z (omega (arith, way.is)))) (λ (y : way.part ≢ 0). omega arith) (eq-or way.part 0)

      rooted : cell sp count 0 ≢ 0
      unfolding ends either
      rooted y =
          let c : suc (count - 1) ≡ count = omega arith in
          let r : ends w (cell sp count) (epoch_at w i) 0 ≡ true = rw (eq-eqb (cell sp count (3 * 0)) 0 y) in
          let d : at ≡ 3 * 0 = sym here ∙ ap (λ (n : ℕ). spot w (cell sp count) (epoch_at w i) n 0 (epoch_at w i)) (sym c) ∙ spot-ends w (cell sp count) (epoch_at w i) (count - 1) 0 (epoch_at w i) r in
          z (omega arith)

      few : nodes ≤ i
      few = T.few rooted

      pub note-room : nodes < count
      note-room = omega (arith, few)

      pub note-new : Noted w count i sp (nodes + 1) (set (set sp (count + at) nodes) (count + 3 * nodes) (i + 1))
      note-new = record {
        table = subst (λ (n : ℕ). Tabled w (cell (set (set sp (count + at) nodes) (count + 3 * nodes) (i + 1)) count) count n (suc i)) (let y : suc nodes ≡ nodes + 1 = omega arith in y)
            (noted-new w (cell sp count) (cell (set (set sp (count + at) nodes) (count + 3 * nodes) (i + 1)) count) count nodes i T low kind at way.node way.part way.low side-part way.most way.is
            (place.none (λ y. z (omega (arith, place.is)))) here rooted (way.bits (λ y. omega (arith, side-part))) way.alike
            (get_or-set_other (set sp (count + at) nodes) (count + 3 * nodes) (count + at) (i + 1) 0 (λ x. z (omega arith)) ∙ get_or-set_same sp (count + at) nodes 0 (omega (arith, inside)))
            (get_or-set_same (set sp (count + at) nodes) (count + 3 * nodes) (i + 1) 0 (omega (arith, length-set sp (count + at) nodes, note-room)) ∙ omega arith)
            (λ m d c. get_or-set_other (set sp (count + at) nodes) (count + 3 * nodes) (count + m) (i + 1) 0 (λ x. c (omega arith)) ∙ get_or-set_other sp (count + at) (count + m) nodes 0 (λ x. d (omega arith))));
        kept = cleared-set count (set sp (count + at) nodes) (omega (arith, length-set sp (count + at) nodes)) (3 * nodes) (i + 1) (omega (arith, note-room)) ∙ cleared-set count sp room at nodes inside;
      }

-- Lists: counting, being in a list; and standing before in a trace.
use Prim.Native.Nat.{ℕ, zero, suc, ◌+◌, ◌<◌}
use mathlib.Core.Path.{◌≡◌, refl, sym, ap, ◌∙◌}
use mathlib.Core.Logic.{◌⊎◌, inl, inr, ⊎_map}
use mathlib.Core.Bool.{Bool, true, false}
use mathlib.Core.List.{List, [], ◌∷◌, ◌++◌, map, append_assoc}
use native.Mathlib.Omega.{arith}
use lib.ListN.{length, get_or}
use Rattle.base.specs.Choice.{pick}
use Rattle.base.specs.Record.{Rec}
use Rattle.base.proofs.Choice.{case}
use Rattle.rules.proofs.Trees.{All}
use Rattle.ledger.specs.Records.{count, In, Before}

-- ---- counting

module _ {A : Type 0} where
  pub count-append : (f : A → Bool) (l r : List A) → count f (l ++ r) ≡ count f l + count f r
  unfolding count
  count-append f [] r = omega arith
  count-append f (x ∷ l) r = omega (arith, count-append f l r)

  -- one element more
  pub count-pass : (f : A → Bool) (x : A) (l : List A) → f x ≡ true → count f (x ∷ l) ≡ suc (count f l)
  unfolding count pick
  count-pass f x l e = rw e (omega arith)

  pub count-fail : (f : A → Bool) (x : A) (l : List A) → f x ≡ false → count f (x ∷ l) ≡ count f l
  unfolding count pick
  count-fail f x l e = rw e (omega arith)

  -- none passes
  pub count_none : (f : A → Bool) (d : A) (l : List A) → ((j : ℕ) → j < length l → f (get_or l j d) ≡ true → ⊥) → count f l ≡ 0
  unfolding count
  count_none f d [] n = refl
  count_none f d (x ∷ l) n = case (f x) (λ p. absurd (n 0 (omega arith) p))
      (λ q. count-fail f x l q ∙ count_none f d l (λ j k. n (suc j) (omega arith)))

  -- one place alone passes
  pub count-one : (f : A → Bool) (d : A) (l : List A) (k : ℕ) → k < length l → f (get_or l k d) ≡ true → ((j : ℕ) → j < length l → f (get_or l j d) ≡ true → j ≡ k) → count f l ≡ 1
  count-one f d [] k b p only = absurd (omega arith)
  count-one f d (x ∷ l) zero b p only =
      count-pass f x l p ∙ ap suc (count_none f d l (λ j m q. let r : suc j ≡ 0 = only (suc j) (omega arith) q in omega arith))
  count-one f d (x ∷ l) (suc k) b p only = case (f x)
      (λ q. let r : 0 ≡ suc k = only 0 (omega arith) q in absurd (omega arith))
      (λ q. count-fail f x l q ∙ count-one f d l k (omega arith) p (λ j m w. let r : suc j ≡ suc k = only (suc j) (omega arith) w in omega arith))

-- ---- being in a list

module _ {A : Type 0} where
  pub in-append : (x : A) (l r : List A) → In x (l ++ r) → In x l ⊎ In x r
  in-append x [] r m = inr m
  in-append x (y ∷ l) r (inl q) = inl (inl q)
  in-append x (y ∷ l) r (inr m) = ⊎_map (λ (w : In x l). inr w) (λ (w : In x r). w) (in-append x l r m)

  -- in either part
  pub in_left : (x : A) (l r : List A) → In x l → In x (l ++ r)
  in_left x [] r m = absurd m
  in_left x (y ∷ l) r (inl q) = inl q
  in_left x (y ∷ l) r (inr m) = inr (in_left x l r m)

  pub in_right : (x : A) (l r : List A) → In x r → In x (l ++ r)
  in_right x [] r m = m
  in_right x (y ∷ l) r m = inr (in_right x l r m)

  -- the element at a place is there
  pub in-at : (l : List A) (k : ℕ) (d : A) → k < length l → In (get_or l k d) l
  in-at [] k d b = absurd (omega arith)
  in-at (x ∷ l) zero d b = inl refl
  in-at (x ∷ l) (suc k) d b = inr (in-at l k d (omega arith))

  -- the place of what is in a list got from another
  pub in_map : {C : Type 0} (f : A → C) (y : C) (l : List A) (d : A) → In y (map f l) → (k : ℕ) × (k < length l) × (y ≡ f (get_or l k d))
  in_map f y [] d m = absurd m
  in_map f y (x ∷ l) d (inl q) = (0, omega arith, q)
  in_map f y (x ∷ l) d (inr m) = let w = in_map f y l d m in (suc w.0, omega (arith, w.1), w.2)

  -- something that passes is there
  pub in_count : (f : A → Bool) (l : List A) → 0 < count f l → (x : A) × In x l × (f x ≡ true)
  unfolding count
  in_count f [] p = absurd (omega arith)
  in_count f (x ∷ l) p = case (f x) (λ q. (x, inl refl, q))
      (λ q. let w = in_count f l (omega (arith, count-fail f x l q)) in (w.0, inr w.1, w.2))

  -- what is there and passes counts
  pub count-in : (f : A → Bool) (x : A) (l : List A) → In x l → f x ≡ true → 0 < count f l
  count-in f x [] m p = absurd m
  count-in f x (y ∷ l) (inl q) p = omega (arith, count-pass f y l (rw (← q) p))
  count-in f x (y ∷ l) (inr m) p = let w = count-in f x l m p in case (f y) (λ r. omega (arith, count-pass f y l r)) (λ r. omega (arith, count-fail f y l r))

  -- what comes before it and after it
  pub in_split : (x : A) (l : List A) → In x l → (a b : List A) × (l ≡ a ++ (x ∷ b))
  in_split x [] m = absurd m
  in_split x (y ∷ l) (inl q) = ([], l, ap (λ (w : A). w ∷ l) (sym q))
  in_split x (y ∷ l) (inr m) = let w = in_split x l m in (y ∷ w.0, w.1, ap (λ (r : List A). y ∷ r) w.2)

-- what is claimed of all is claimed of it
pub all_in : {A : Type 0} (P : A → Type 0) (x : A) (l : List A) → All P l → In x l → P x
all_in P x [] a m = absurd m
all_in P x (y ∷ l) a (inl q) = rw q a.0
all_in P x (y ∷ l) a (inr m) = all_in P x l a.1 m

-- ---- standing before

-- both are there
pub before-first : (x y : Rec) (l : List Rec) → Before x y l → In x l
before-first x y l b = rw b.splits (in_right x b.front (x ∷ (b.middle ++ (y ∷ b.back))) (inl refl))

pub before-second : (x y : Rec) (l : List Rec) → Before x y l → In y l
before-second x y l b = rw b.splits (in_right y b.front (x ∷ (b.middle ++ (y ∷ b.back))) (inr (in_right y b.middle (y ∷ b.back) (inl refl))))

-- further records change nothing
pub before_more : (x y : Rec) (l r : List Rec) → Before x y l → Before x y (l ++ r)
before_more x y l r b = record {
  front = b.front;
  middle = b.middle;
  back = b.back ++ r;
  splits = rw (b.splits, append_assoc b.front (x ∷ (b.middle ++ (y ∷ b.back))) r, append_assoc b.middle (y ∷ b.back) r);
}

regroup : (x y : Rec) (a b c d : List Rec) → (a ++ (x ∷ b)) ++ (c ++ (y ∷ d)) ≡ a ++ (x ∷ ((b ++ c) ++ (y ∷ d)))
regroup x y a b c d = rw (append_assoc a (x ∷ b) (c ++ (y ∷ d)), append_assoc b c (y ∷ d))

-- the one among earlier records, the other among later
pub before-both : (x y : Rec) (l r : List Rec) → In x l → In y r → Before x y (l ++ r)
before-both x y l r p q =
    let u = in_split x l p in
    let v = in_split y r q in
    record {
      front = u.0;
      middle = u.1 ++ v.0;
      back = v.1;
      splits = ap (λ (w : List Rec). w ++ r) u.2 ∙ ap (λ (w : List Rec). (u.0 ++ (x ∷ u.1)) ++ w) v.2 ∙ regroup x y u.0 u.1 v.0 v.1;
    }

-- Laws of reading: a digit more, and the fields between spaces.
use Prim.Native.Nat.{ℕ, suc, ◌+◌, ◌-◌, ◌≤◌, ◌<◌}
use mathlib.Core.Path.{◌≡◌, refl, sym, ap, ◌∙◌}
use mathlib.Core.Logic.{◌≢◌, ⊎_elim}
use mathlib.Core.List.{List, [], ◌∷◌}
use native.Mathlib.Omega.{arith}
use native.Mathlib.Numerals.{add-one}
use lib.Dec.{eqb}
use lib.ListN.{length, take, drop, get_or, drop_of_length-le, length-drop}
use lib.Seq.{drop-cons, take_all}
use borrow.Author.Tests.{eqb-true, ne_eqb, lt-ltb, le-ltb}
use Rattle.std.specs.Prelude.{Option, Some, None, position}
use Rattle.std.specs.List.{position_or_len}
use Rattle.base.specs.Choice.{pick, both}
use Rattle.base.proofs.Choice.{case, le-or-lt}
use Rattle.script.specs.Line.{grow, fields, shift, next, after, misled, number, one_number, two_numbers, numbers_of, command_of, line_of}
use Rattle.script.specs.declared.Command.{Command}

-- ---- digits

pub after-refused : (l : List ℕ) → after None l ≡ None
unfolding after next
after-refused [] = refl
after-refused (b ∷ l) = after-refused l

pub read-on : (l : List ℕ) (i v w : ℕ) (n x : Option ℕ) → i < length l → n ≡ shift v (get_or l i 0) → n ≡ Some w → after (Some v) (drop i l) ≡ x → after (Some w) (drop (i + 1) l) ≡ x
unfolding after next
read-on l i v w n x h q p e = let z : after (Some v) (drop i l) ≡ after (shift v (get_or l i 0)) (drop (i + 1) l) = rw (add-one i, drop-cons l i 0 h) in rw (← p, q, ← z) e

pub read-stop : (l : List ℕ) (i v : ℕ) (n r x : Option ℕ) → i < length l → n ≡ shift v (get_or l i 0) → n ≡ None → r ≡ None → after (Some v) (drop i l) ≡ x → r ≡ x
unfolding after next
read-stop l i v n r x h q p f e =
    let z : after (Some v) (drop i l) ≡ after (shift v (get_or l i 0)) (drop (i + 1) l) = rw (add-one i, drop-cons l i 0 h) in
    rw f (sym (after-refused (drop (i + 1) l)) ∙ rw (← p, q, ← z) e)

pub read-end : (l : List ℕ) (i v : ℕ) (x : Option ℕ) → length l ≤ i → after (Some v) (drop i l) ≡ x → Some v ≡ x
unfolding after
read-end l i v x h e = sym (rw (drop_of_length-le l {i = i} h)) ∙ e

-- ---- fields

-- how many bytes stand before the first space
abbrev upto : List ℕ → ℕ
upto l = position_or_len (λ b. eqb b 32) l

grow-take : (b n : ℕ) (l : List ℕ) → grow b (take n l ∷ fields (drop (n + 1) l)) ≡ take (1 + n) (b ∷ l) ∷ fields (drop (1 + n + 1) (b ∷ l))
unfolding grow
grow-take b n l = let e : 1 + n ≡ suc n = omega arith in rw (e, add-one n, add-one (suc n))

fields-cut : (l : List ℕ) → upto l < length l → fields l ≡ take (upto l) l ∷ fields (drop (upto l + 1) l)
unfolding fields grow pick
fields-cut [] h = absurd (omega arith)
fields-cut (b ∷ l) h = case (eqb b 32) (λ q. rw q) (λ q. let k : 1 + upto l < suc (length l) = rw q at h in rw (q, fields-cut l (omega arith)) (grow-take b (upto l) l))

fields-last : (l : List ℕ) → length l ≤ upto l → fields l ≡ l ∷ []
unfolding fields grow pick
fields-last [] h = refl
fields-last (b ∷ l) h = case (eqb b 32)
    (λ q. let k : suc (length l) ≤ 0 = rw q at h in absurd (omega arith))
    (λ q. let k : suc (length l) ≤ 1 + upto l = rw q at h in rw (q, fields-last l (omega arith)))

pub fields-alone : (l : List ℕ) → None ≡ position (λ b. eqb b 32) l → fields l ≡ l ∷ []
fields-alone l e = ⊎_elim
    (λ (p : length l ≤ upto l). fields-last l p)
    (λ (p : upto l < length l). let c : None ≡ Some (upto l) = rw (lt-ltb (upto l) (length l) p) at e in cc)
    (le-or-lt (length l) (upto l))

pub fields-split : (l : List ℕ) (i : ℕ) → Some i ≡ position (λ b. eqb b 32) l → fields l ≡ take i l ∷ fields (drop (i + 1) l)
fields-split l i e = ⊎_elim
    (λ (p : length l ≤ upto l). let c : Some i ≡ None = rw (le-ltb (upto l) (length l) p) at e in cc)
    (λ (p : upto l < length l). let c : Some i ≡ Some (upto l) = rw (lt-ltb (upto l) (length l) p) at e in let n : i ≡ upto l = cc in rw n (fields-cut l p))
    (le-or-lt (length l) (upto l))

-- ---- commands

-- a space is no digit
no-digit : (r : Option ℕ) → next r 32 ≡ None
unfolding next shift both pick
no-digit None = refl
no-digit (Some v) = refl

after-space : (r : Option ℕ) (l : List ℕ) → upto l < length l → after r l ≡ None
unfolding after
after-space r [] h = absurd (omega arith)
after-space r (b ∷ l) h = case (eqb b 32)
    (λ q. let e : b ≡ 32 = eqb-true b 32 q in rw (e, no-digit r) (after-refused l))
    (λ q. let k : 1 + upto l < suc (length l) = rw q at h in after-space (next r b) l (omega arith))

number-space : (l : List ℕ) → upto l < length l → number l ≡ None
unfolding number pick
number-space l h = case (misled l) (λ q. rw q) (λ q. rw q (after-space (Some 0) l h))

pub second : (k : ℕ) (x : Option ℕ) → two_numbers k x None ≡ None
unfolding two_numbers
second k None = refl
second k (Some v) = refl

fields-some : (l : List ℕ) → 0 < length (fields l)
fields-some l = ⊎_elim
    (λ (p : length l ≤ upto l). rw (fields-last l p) (omega arith))
    (λ (p : upto l < length l). rw (fields-cut l p) (omega arith))
    (le-or-lt (length l) (upto l))

too_many : (k : ℕ) (x y : List ℕ) (fs : List (List ℕ)) → 0 < length fs → numbers_of k (x ∷ y ∷ fs) ≡ None
unfolding numbers_of
too_many k x y [] h = absurd (omega arith)
too_many k x y (f ∷ fs) h = refl

-- the second number goes on to the end of the line
two-fields : (k : ℕ) (x l : List ℕ) → numbers_of k (x ∷ fields l) ≡ two_numbers k (number x) (number l)
unfolding numbers_of
two-fields k x l = ⊎_elim
    (λ (p : length l ≤ upto l). rw (fields-last l p))
    (λ (p : upto l < length l). rw (fields-cut l p, number-space l p, second k (number x)) (too_many k x (take (upto l) l) (fields (drop (upto l + 1) l)) (fields-some (drop (upto l + 1) l))))
    (le-or-lt (length l) (upto l))

pub none-short : (l : List ℕ) → length l < 2 → None ≡ line_of l
unfolding line_of command_of numbers_of fields grow pick
none-short [] h = refl
none-short (k ∷ []) h = case (eqb k 32) (λ q. rw q) (λ q. rw q)
none-short (k ∷ b ∷ l) h = absurd (omega arith)

wide-kind : (k b : ℕ) (fs : List (List ℕ)) → None ≡ command_of (grow k (grow b fs))
unfolding command_of grow
wide-kind k b [] = refl
wide-kind k b (f ∷ fs) = refl

pub none-wide : (l : List ℕ) → 2 ≤ length l → get_or l 1 0 ≢ 32 → None ≡ line_of l
unfolding line_of command_of fields pick
none-wide [] h n = absurd (omega arith)
none-wide (k ∷ []) h n = absurd (omega arith)
none-wide (k ∷ b ∷ l) h n = rw (ne_eqb b 32 n) (case (eqb k 32) (λ q. rw q) (λ q. rw q (wide-kind k b (fields l))))

none-one : (o : Option ℕ) → None ≡ one_number 32 o
unfolding one_number pick
none-one None = refl
none-one (Some v) = refl

none-two : (o p : Option ℕ) → None ≡ two_numbers 32 o p
unfolding two_numbers pick
none-two None p = refl
none-two (Some v) None = refl
none-two (Some v) (Some w) = refl

none-blank : (fs : List (List ℕ)) → None ≡ numbers_of 32 fs
unfolding numbers_of
none-blank [] = refl
none-blank (x ∷ []) = none-one (number x)
none-blank (x ∷ y ∷ []) = none-two (number x) (number y)
none-blank (x ∷ y ∷ z ∷ fs) = refl

lettered : (k : ℕ) (l : List ℕ) → line_of (k ∷ 32 ∷ l) ≡ numbers_of k (fields l)
unfolding line_of command_of fields grow pick
lettered k l = case (eqb k 32)
    (λ q. let e : k ≡ 32 = eqb-true k 32 q in rw (q, e) (none-blank (fields l)))
    (λ q. rw q)

-- what stands behind the letter and its space
abbrev rest : List ℕ → List ℕ
rest l = take (length l - 2) (drop 2 l)

numbered : (l : List ℕ) → 2 ≤ length l → get_or l 1 0 ≡ 32 → line_of l ≡ numbers_of (get_or l 0 0) (fields (rest l))
numbered [] h e = absurd (omega arith)
numbered (k ∷ []) h e = absurd (omega arith)
numbered (k ∷ b ∷ l) h e = let d : b ≡ 32 = e in rw (d, take_all (suc (suc (length l)) - 2) l (omega arith)) (lettered k l)

module _ (l : List ℕ) (h : 2 ≤ length l) (e : get_or l 1 0 ≡ 32) where
  pub line-one : (s x : Option ℕ) (r : Option Command) → s ≡ position (λ b. eqb b 32) (rest l) → s ≡ None → x ≡ number (rest l) → r ≡ one_number (get_or l 0 0) x → r ≡ line_of l
  unfolding numbers_of
  line-one s x r p n q z = rw (numbered l h e, fields-alone (rest l) (sym n ∙ p), ← q) z

  pub line-two : (s x y : Option ℕ) (r : Option Command) (i : ℕ) → s ≡ position (λ b. eqb b 32) (rest l) → s ≡ Some i
      → x ≡ number (take i (rest l)) → y ≡ number (take (length (rest l) - (i + 1)) (drop (i + 1) (rest l))) → r ≡ two_numbers (get_or l 0 0) x y → r ≡ line_of l
  line-two s x y r i p n q t z =
      let u : y ≡ number (drop (i + 1) (rest l)) = t ∙ ap number (take_all (length (rest l) - (i + 1)) (drop (i + 1) (rest l)) (omega (arith, length-drop (i + 1) (rest l)))) in
      rw (numbered l h e, fields-split (rest l) i (sym n ∙ p), two-fields (get_or l 0 0) (take i (rest l)) (drop (i + 1) (rest l)), ← q, ← u) z

pub one-refused : (k : ℕ) (x : Option ℕ) (r : Option Command) → x ≡ None → r ≡ None → r ≡ one_number k x
unfolding one_number
one-refused k x r e f = rw (e, f)

pub one-read : (k v : ℕ) (x : Option ℕ) (r : Option Command) → x ≡ Some v → r ≡ one_number k (Some v) → r ≡ one_number k x
one-read k v x r e f = rw e f

pub two-refused : (k : ℕ) (x y : Option ℕ) (r : Option Command) → x ≡ None → r ≡ None → r ≡ two_numbers k x y
unfolding two_numbers
two-refused k x y r e f = rw (e, f)

pub two-half : (k : ℕ) (x y : Option ℕ) (r : Option Command) → y ≡ None → r ≡ None → r ≡ two_numbers k x y
two-half k x y r e f = rw (e, f) (sym (second k x))

pub two-read : (k v w : ℕ) (x y : Option ℕ) (r : Option Command) → x ≡ Some v → y ≡ Some w → r ≡ two_numbers k (Some v) (Some w) → r ≡ two_numbers k x y
two-read k v w x y r e g f = rw (e, g) f

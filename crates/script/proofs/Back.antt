-- A number that was written is read back as it was, and nothing else is read as that number.
use Prim.Native.Nat.{ℕ, zero, suc, ◌+◌, ◌-◌, ◌*◌, ◌/◌, ◌%◌, ◌≤◌, ◌<◌}
use mathlib.Core.Path.{◌≡◌, refl, sym, ap, ◌∙◌}
use mathlib.Core.Bool.{Bool, true, false}
use mathlib.Core.List.{List, [], ◌∷◌, ◌++◌, append-nil, append_assoc}
use native.Mathlib.Omega.{arith}
use lib.Dec.{leb, ltb}
use borrow.Author.Tests.{ne_eqb, le-leb, leb-true, eqb-false, ltb-true, ltb-false}
use Rattle.base.specs.Choice.{pick, both}
use Rattle.base.proofs.Choice.{case, both_true, clash}
use Rattle.script.specs.Line.{shift, next, after, misled, number}
use Rattle.script.specs.Text.{digits_in, digits}
use Rattle.std.specs.Prelude.{Option, Some, None}
use Rattle.script.proofs.Lines.{after-refused}
use Rattle.script.proofs.Texts.{step-one, step-more, pow, digits-one, digits_more}

after-append : (a b : List ℕ) (r : Option ℕ) → after r (a ++ b) ≡ after (after r a) b
unfolding after
after-append [] b r = refl
after-append (x ∷ a) b r = after-append a b (next r x)

shift-digit : (v d : ℕ) → d < 10 → 10 * v + d < 18446744073709551616 → shift v (48 + d) ≡ Some (10 * v + d)
unfolding shift both pick
shift-digit v d h k =
    let e : 48 + d - 48 ≡ d = omega arith in
    rw (le-leb 48 (48 + d) (omega arith), le-leb (48 + d) 57 (omega arith), e, le-leb (10 * v + d) 18446744073709551615 (omega arith))

snoc-digit : (v : ℕ) (l : List ℕ) → v < 18446744073709551616 → after (Some 0) l ≡ Some (v / 10) → after (Some 0) (l ++ ((48 + v % 10) ∷ [])) ≡ Some v
unfolding after next
snoc-digit v l h e =
    let m : 10 * (v / 10) + v % 10 ≡ v = omega arith in
    after-append l ((48 + v % 10) ∷ []) (Some 0) ∙ (ap (λ (r : Option ℕ). after r ((48 + v % 10) ∷ [])) e ∙ (shift-digit (v / 10) (v % 10) (omega arith) (omega arith) ∙ ap (λ (k : ℕ). Some k) m))

one-digit : (v : ℕ) → v < 10 → after (Some 0) ((48 + v) ∷ []) ≡ Some v
unfolding after next
one-digit v h = let e : 10 * 0 + v ≡ v = omega arith in shift-digit 0 v h (omega arith) ∙ ap (λ (k : ℕ). Some k) e

value-back : (k v : ℕ) → v < 10 * pow k → v < 18446744073709551616 → after (Some 0) (digits_in (suc k) v) ≡ Some v
value-back zero v h b = let l : v < 10 = omega arith in rw (step-one 0 v l) (one-digit v l)
value-back (suc k) v h b = case (ltb v 10)
    (λ q. let l : v < 10 = ltb-true v 10 q in rw (step-one (suc k) v l) (one-digit v l))
    (λ q. let l : 10 ≤ v = ltb-false v 10 q in let m : v / 10 < 10 * pow k = omega arith in
    rw (step-more (suc k) v l) (snoc-digit v (digits_in (suc k) (v / 10)) b (value-back k (v / 10) m (omega arith))))

-- the first byte is no zero
unfoldable leads : List ℕ → Bool
leads [] = false
leads (b ∷ l) = leb 49 b

leads-append : (a b : List ℕ) → leads a ≡ true → leads (a ++ b) ≡ true
unfolding leads
leads-append [] b e = cc
leads-append (x ∷ a) b e = e

leads-digits : (k v : ℕ) → 1 ≤ v → v < 10 * pow k → leads (digits_in (suc k) v) ≡ true
unfolding leads
leads-digits zero v g h = let l : v < 10 = omega arith in rw (step-one 0 v l) (le-leb 49 (48 + v) (omega arith))
leads-digits (suc k) v g h = case (ltb v 10)
    (λ q. let l : v < 10 = ltb-true v 10 q in rw (step-one (suc k) v l) (le-leb 49 (48 + v) (omega arith)))
    (λ q. let l : 10 ≤ v = ltb-false v 10 q in let m : v / 10 < 10 * pow k = omega arith in
    rw (step-more (suc k) v l) (leads-append (digits_in (suc k) (v / 10)) ((48 + v % 10) ∷ []) (leads-digits k (v / 10) (omega arith) m)))

led : (l : List ℕ) → leads l ≡ true → misled l ≡ false
unfolding leads misled
led [] e = cc
led (b ∷ []) e = refl
led (b ∷ c ∷ l) e = ne_eqb b 48 (λ q. omega (arith, leb-true 49 b e))

single : (b : ℕ) → misled (b ∷ []) ≡ false
unfolding misled
single b = refl

well-led : (v : ℕ) → v < 18446744073709551616 → misled (digits v) ≡ false
unfolding digits
well-led v h = case (ltb v 10)
    (λ q. let l : v < 10 = ltb-true v 10 q in rw (step-one 19 v l) (single (48 + v)))
    (λ q. let l : 10 ≤ v = ltb-false v 10 q in let b : v < 100000000000000000000 = omega arith in led (digits_in 20 v) (leads-digits 19 v (omega arith) b))

-- every number of 64 bits
pub number-back : (v : ℕ) → v < 18446744073709551616 → number (digits v) ≡ Some v
unfolding number pick digits
number-back v h = let b : v < 100000000000000000000 = omega arith in rw (well-led v h) (value-back 19 v b h)

-- ---- and nothing else is read as a number

record Accepted (v b : ℕ) (l : List ℕ) (w : ℕ) : Type 0 where
  low : 48 ≤ b
  high : b ≤ 57
  fits : 10 * v + (b - 48) ≤ 18446744073709551615
  rest : after (Some (10 * v + (b - 48))) l ≡ Some w

accepted : (v b : ℕ) (l : List ℕ) (w : ℕ) → after (shift v b) l ≡ Some w → Accepted v b l w
unfolding shift pick
accepted v b l w e = case (both (both (leb 48 b) (leb b 57)) (leb (10 * v + (b - 48)) 18446744073709551615))
    (λ q. let o = both_true (both (leb 48 b) (leb b 57)) (leb (10 * v + (b - 48)) 18446744073709551615) q in
    let i = both_true (leb 48 b) (leb b 57) o.0 in
    record { low = leb-true 48 b i.0; high = leb-true b 57 i.1; fits = leb-true (10 * v + (b - 48)) 18446744073709551615 o.1; rest = rw q at e })
    (λ q. let f : after None l ≡ Some w = rw q at e in cc (after-refused l))

-- a digit more
grown : (v b : ℕ) → 1 ≤ v → 48 ≤ b → b ≤ 57 → 10 * v + (b - 48) ≤ 18446744073709551615 → digits (10 * v + (b - 48)) ≡ digits v ++ (b ∷ [])
grown v b g l h m =
    let w = 10 * v + (b - 48) in
    let d : w / 10 ≡ v = omega arith in
    let r : 48 + w % 10 ≡ b = omega arith in
    digits_more w (omega arith) (omega arith) ∙ (λ i. digits (d i) ++ (r i ∷ []))

kept : (l : List ℕ) (v w : ℕ) → 1 ≤ v → after (Some v) l ≡ Some w → digits w ≡ digits v ++ l
unfolding after next
kept [] v w g e = let q : v ≡ w = cc in rw q (sym (append-nil (digits w)))
kept (b ∷ l) v w g e =
    let a = accepted v b l w e in
    let low = a.low in
    kept l (10 * v + (b - 48)) w (omega arith) a.rest ∙ (ap (λ (z : List ℕ). z ++ l) (grown v b g a.low a.high a.fits) ∙ append_assoc (digits v) (b ∷ []) l)

first-digit : (b : ℕ) (l : List ℕ) (w : ℕ) → misled (b ∷ l) ≡ false → after (shift 0 b) l ≡ Some w → b ∷ l ≡ digits w
unfolding misled after
first-digit b [] w m e =
    let a = accepted 0 b [] w e in
    let low = a.low in
    let high = a.high in
    let r = a.rest in
    let q : 10 * 0 + (b - 48) ≡ w = cc in
    let t : 48 + w ≡ b = omega arith in
    sym (digits-one w (omega arith) ∙ ap (λ (z : ℕ). z ∷ []) t)
first-digit b (c ∷ l) w m e =
    let a = accepted 0 b (c ∷ l) w e in
    let low = a.low in
    let high = a.high in
    let n = eqb-false b 48 m in
    let v = 10 * 0 + (b - 48) in
    let t : 48 + v ≡ b = omega arith in
    sym (kept (c ∷ l) v w (omega arith) a.rest ∙ ap (λ (z : List ℕ). z ++ (c ∷ l)) (digits-one v (omega arith) ∙ ap (λ (z : ℕ). z ∷ []) t))

whole : (l : List ℕ) (w : ℕ) → misled l ≡ false → after (Some 0) l ≡ Some w → l ≡ digits w
unfolding misled after next
whole [] w m e = clash refl m
whole (b ∷ l) w m e = first-digit b l w m e

pub number-only : (l : List ℕ) (w : ℕ) → number l ≡ Some w → l ≡ digits w
unfolding number pick
number-only l w e = case (misled l)
    (λ q. let f : None ≡ Some w = rw q at e in cc)
    (λ q. whole l w q (rw q at e))

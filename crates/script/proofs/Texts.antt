-- Laws of writing: digits, and bytes put one after the other.
use Prim.Native.Nat.{ℕ, zero, suc, ◌+◌, ◌*◌, ◌/◌, ◌%◌, ◌≤◌, ◌<◌}
use mathlib.Core.Path.{◌≡◌, sym, ap, ◌∙◌}
use mathlib.Core.List.{List, [], ◌∷◌, ◌++◌, append_assoc, append-nil}
use native.Mathlib.Omega.{arith}
use lib.Dec.{ltb}
use lib.ListN.{length, take, drop, set, get_or, length-append, length-set}
use lib.Seq.{set_split, take-suc, take_all}
use borrow.Author.Tests.{lt-ltb, le-ltb, ltb-true, ltb-false}
use native.Mathlib.Numerals.{add-one}
use Rattle.std.specs.List.{flat_map}
use Rattle.std.proofs.lemmas.Grind.{flat_map-append}
use Rattle.base.specs.Choice.{pick}
use Rattle.base.proofs.Choice.{case, pick_at}
use Rattle.rules.proofs.Words.{put-put}
use Rattle.rules.specs.Words.{put}
use Rattle.script.specs.Text.{digits_in, digits, spaced, ending, row, two, four, header, Wrote}

-- ---- digits

pub few : (k v : ℕ) → length (digits_in k v) ≤ k
unfolding digits_in
few zero v = omega arith
few (suc k) v = pick_at (λ (z : List ℕ). length z ≤ suc k) (ltb v 10) ((48 + v) ∷ []) (digits_in k (v / 10) ++ ((48 + v % 10) ∷ []))
    (λ _. omega arith) (λ _. simp length-append (omega (arith, few k (v / 10))))

pub step-one : (k v : ℕ) → v < 10 → digits_in (suc k) v ≡ (48 + v) ∷ []
unfolding digits_in pick
step-one k v h = rw (lt-ltb v 10 h)

pub step-more : (k v : ℕ) → 10 ≤ v → digits_in (suc k) v ≡ digits_in k (v / 10) ++ ((48 + v % 10) ∷ [])
unfolding digits_in pick
step-more k v h = rw (le-ltb v 10 h)

abbrev pub pow : ℕ → ℕ
pow zero = 1
pow (suc k) = 10 * pow k

-- one digit's room more changes nothing
roomy : (k v : ℕ) → v < 10 * pow k → digits_in (suc k) v ≡ digits_in (suc (suc k)) v
roomy zero v h = let l : v < 10 = omega arith in step-one 0 v l ∙ sym (step-one 1 v l)
roomy (suc k) v h = case (ltb v 10)
    (λ q. let l : v < 10 = ltb-true v 10 q in step-one (suc k) v l ∙ sym (step-one (suc (suc k)) v l))
    (λ q. let l : 10 ≤ v = ltb-false v 10 q in let m : v / 10 < 10 * pow k = omega arith in
    step-more (suc k) v l ∙ (ap (λ (z : List ℕ). z ++ ((48 + v % 10) ∷ [])) (roomy k (v / 10) m) ∙ sym (step-more (suc (suc k)) v l)))

pub digits-one : (v : ℕ) → v < 10 → digits v ≡ (48 + v) ∷ []
unfolding digits
digits-one v h = step-one 19 v h

opened : (v : ℕ) → 10 ≤ v → digits v ≡ digits_in 19 (v / 10) ++ ((48 + v % 10) ∷ [])
unfolding digits
opened v g = step-more 19 v g

tenth : (v : ℕ) → v < 18446744073709551616 → digits (v / 10) ≡ digits_in 19 (v / 10)
unfolding digits
tenth v h = let l : v / 10 < 10000000000000000000 = omega arith in sym (roomy 18 (v / 10) l)

pub digits_more : (v : ℕ) → 10 ≤ v → v < 18446744073709551616 → digits v ≡ digits (v / 10) ++ ((48 + v % 10) ∷ [])
digits_more v g h = opened v g ∙ ap (λ (z : List ℕ). z ++ ((48 + v % 10) ∷ [])) (sym (tenth v h))

pub tenth-few : (v : ℕ) → v < 18446744073709551616 → length (digits (v / 10)) ≤ 19
tenth-few v h = rw (tenth v h) (few 19 (v / 10))

-- ---- bytes put

pub wrote_one : (q : List ℕ) (at v : ℕ) → at < length q → Wrote q at (v ∷ []) (at + 1) (set q at v)
unfolding put
wrote_one q at v h = let e : suc at ≡ at + 1 = omega arith in
    record { ends = omega arith; bytes = set_split q at v h ∙ ap (λ (k : ℕ). take at q ++ (v ∷ drop k q)) e ∙ sym (append_assoc (take at q) (v ∷ []) (drop (at + 1) q)) }

pub wrote_then : (q q1 q2 a b : List ℕ) (at e r : ℕ) → at ≤ length q → Wrote q at a e q1 → Wrote q1 e b r q2 → Wrote q at (a ++ b) r q2
wrote_then q q1 q2 a b at e r h x y = record {
  ends = omega (arith, length-append a b, x.ends, y.ends);
  bytes = y.bytes ∙ (ap (λ (z : List ℕ). put z e b) x.bytes ∙ (ap (λ (k : ℕ). put (put q at a) k b) x.ends ∙ put-put q a b at h));
}

-- ---- numbers, fields, lines

pub number-one : (q : List ℕ) (at v : ℕ) → v < 10 → at < length q → Wrote q at (digits v) (at + 1) (set q at (48 + v % 10))
number-one q at v h l = let e : v % 10 ≡ v = omega arith in rw (digits-one v h, e) (wrote_one q at (48 + v) l)

pub number_more : (q q1 : List ℕ) (at e v : ℕ) → 10 ≤ v → v < 18446744073709551616 → at ≤ length q → e < length q1 → Wrote q at (digits (v / 10)) e q1
    → Wrote q at (digits v) (e + 1) (set q1 e (48 + v % 10))
number_more q q1 at e v g h k l w = rw (digits_more v g h) (wrote_then q q1 (set q1 e (48 + v % 10)) (digits (v / 10)) ((48 + v % 10) ∷ []) at e (e + 1) k w (wrote_one q1 e (48 + v % 10) l))

pub field-wrote : (q q2 : List ℕ) (at r v : ℕ) → at < length q → Wrote (set q at 32) (at + 1) (digits v) r q2 → Wrote q at (spaced v) r q2
unfolding spaced
field-wrote q q2 at r v h w = wrote_then q (set q at 32) q2 (32 ∷ []) (digits v) at (at + 1) r (omega arith) (wrote_one q at 32 h) w

-- the first i of the numbers were written after the letter
abbrev pub begun : ℕ → List ℕ → ℕ → List ℕ
begun letter vs i = letter ∷ flat_map spaced (take i vs)

begun-on : (letter : ℕ) (vs : List ℕ) (i : ℕ) → i < length vs → begun letter vs (i + 1) ≡ begun letter vs i ++ spaced (get_or vs i 0)
begun-on letter vs i h = rw (add-one i, take-suc vs i 0 h, flat_map-append spaced (take i vs) (get_or vs i 0 ∷ []), append-nil (spaced (get_or vs i 0)))

module _ (q vs : List ℕ) (at letter : ℕ) (room : at + 2 + 21 * length vs ≤ length q) where
  pub row-on : (q1 q2 : List ℕ) (e r i : ℕ) → i < length vs → Wrote q at (begun letter vs i) e q1 → Wrote q1 e (spaced (get_or vs i 0)) r q2 → Wrote q at (begun letter vs (i + 1)) r q2
  row-on q1 q2 e r i k x y = rw (begun-on letter vs i k) (wrote_then q q1 q2 (begun letter vs i) (spaced (get_or vs i 0)) at e r (omega arith) x y)

  pub row-end : (q1 : List ℕ) (e i : ℕ) → length q1 ≡ length (set q at letter) → e ≤ at + 1 + 21 * i → i ≤ length vs → length vs ≤ i → Wrote q at (begun letter vs i) e q1
      → Wrote q at (row letter vs) (e + 1) (set q1 e 10)
  unfolding row
  row-end q1 e i s m h k x =
      let n : e < length q1 = rw (s, length-set) (omega arith) in
      let y = wrote_then q q1 (set q1 e 10) (begun letter vs i) (10 ∷ []) at e (e + 1) (omega arith) x (wrote_one q1 e 10 n) in
      rw (take_all i vs k) at y

pub row-two : (letter a b : ℕ) → row letter (a ∷ b ∷ []) ≡ two letter a b
unfolding row two ending
row-two letter a b = simp (append-nil, append_assoc)

pub row-four : (letter a b c d : ℕ) → row letter (a ∷ b ∷ c ∷ d ∷ []) ≡ four letter a b c d
unfolding row four ending
row-four letter a b c d = simp (append-nil, append_assoc)

pub header-wrote : (q q3 : List ℕ) (at r m n : ℕ) → at + 2 ≤ length q → m ≡ n → Wrote (set (set q at 84) (at + 1) 82) (at + 2) (row 67 (1 ∷ m ∷ [])) r q3 → Wrote q at (header n) r q3
unfolding header
header-wrote q q3 at r m n h p z =
    let e : at + 1 + 1 ≡ at + 2 = omega arith in
    let q1 = set q at 84 in
    let l : at + 1 < length q1 = simp length-set (omega arith) in
    let y : Wrote q1 (at + 1) (82 ∷ []) (at + 2) (set q1 (at + 1) 82) = rw e at (wrote_one q1 (at + 1) 82 l) in
    wrote_then q q1 q3 (84 ∷ []) (82 ∷ two 67 1 n) at (at + 1) r (omega arith) (wrote_one q at 84 (omega arith))
    (wrote_then q1 (set q1 (at + 1) 82) q3 (82 ∷ []) (two 67 1 n) (at + 1) (at + 2) r (omega arith) y (rw (p, row-two 67 1 n) at z))

-- two answers that both meet the contract are the same
pub only : (q ws q1 q2 : List ℕ) (at r s : ℕ) → Wrote q at ws r q1 → Wrote q at ws s q2 → (r ≡ s) × (q1 ≡ q2)
only q ws q1 q2 at r s x y = (x.ends ∙ sym y.ends, x.bytes ∙ sym y.bytes)

-- Reading and writing are inverse: words and bytes, the record and its words.
use Prim.Native.Nat.{ℕ, zero, suc, ◌+◌, ◌*◌, ◌≤◌, ◌<◌}
use mathlib.Core.Path.{◌≡◌, refl, sym, ap, ◌∙◌}
use mathlib.Core.Bool.{Bool, true, false}
use mathlib.Core.List.{List, [], ◌∷◌, ◌++◌}
use native.Mathlib.Omega.{arith}
use lib.Dec.{eqb, leb}
use lib.ListN.{length, take, drop, get_or, length-take, length-drop, take-append-drop}
use lib.Seq.{take_at, drop_at, drop-drop, take_all, take-suc, get_or-take, get_or-drop}
use borrow.Author.Tests.{leb-true}
use Rattle.base.specs.Choice.{both}
use Rattle.base.proofs.Choice.{both_true}
use Rattle.rules.specs.declared.State.{State}
use Rattle.octets.specs.Bytes.{word_at, words_of, eight, bytes_of, under, BYTE, WORD}
use Rattle.octets.specs.Record.{bit, bits, flags, seven, state_words, state_at, fits}
use Rattle.std.proofs.lemmas.Nat.{le_bytes_8, from_le_bytes-to_le_bytes_8}
use lib.Seq.{length-take-le, take-add}
use Rattle.octets.proofs.Laws.{length-bits, under_of, set-at-one, le-word}

-- ---- words and bytes

whole : (x : ℕ) (b : List ℕ) → x ≤ WORD → word_at (eight x ++ b) 0 ≡ x
whole x b h = sym (le-word (eight x ++ b) (eight x) 0 8 refl refl) ∙ from_le_bytes-to_le_bytes_8 x (omega arith)

-- WORDS TO BYTES AND BACK
pub words_back : (w : List ℕ) → under WORD w ≡ true → words_of (length w) (bytes_of w) ≡ w
unfolding words_of bytes_of under
words_back [] e = refl
words_back (x ∷ w) e =
    let b = both_true (leb x WORD) (under WORD w) e in
    rw (whole x (bytes_of w) (leb-true x WORD b.0), words_back w b.1)

small : (b : List ℕ) → under BYTE b ≡ true → (i : ℕ) → get_or b i 0 < 256
unfolding under
small [] e i = omega arith
small (x ∷ b) e zero = let p = leb-true x BYTE (both_true (leb x BYTE) (under BYTE b) e).0 in omega arith
small (x ∷ b) e (suc i) = small b (both_true (leb x BYTE) (under BYTE b) e).1 i

-- the first k of them, and the rest
parted : (k : ℕ) (b : List ℕ) → under BYTE b ≡ true → (under BYTE (take k b) ≡ true) × (under BYTE (drop k b) ≡ true)
unfolding under both
parted zero b e = (refl, e)
parted (suc k) [] e = (refl, refl)
parted (suc k) (x ∷ b) e =
    let p = both_true (leb x BYTE) (under BYTE b) e in
    let q = parted k b p.1 in (rw (p.0, q.0) refl, q.1)

-- BYTES TO WORDS AND BACK
pub bytes_back : (n : ℕ) (b : List ℕ) → under BYTE b ≡ true → 8 * n ≤ length b → bytes_of (words_of n b) ≡ take (8 * n) b
unfolding words_of bytes_of
bytes_back zero b e h = refl
bytes_back (suc n) b e h =
    let p = parted 8 b e in
    let first : eight (word_at b 0) ≡ take 8 b =
    le_bytes_8 (take 8 b) (word_at b 0) (length-take-le 8 b (omega arith)) (small (take 8 b) p.0) (sym (le-word b (take 8 b) 0 8 refl refl)) in
    let k : 8 * suc n ≡ 8 + 8 * n = omega arith in
    ap (λ (z : List ℕ). z ++ bytes_of (words_of n (drop 8 b))) first
    ∙ ap (λ (z : List ℕ). take 8 b ++ z) (bytes_back n (drop 8 b) p.1 (omega (arith, length-drop 8 b)))
    ∙ sym (take-add 8 (8 * n) b)
    ∙ ap (λ (i : ℕ). take i b) (sym k)

head_tail : (k x : ℕ) (l : List ℕ) → under k (x ∷ l) ≡ true → (x ≤ k) × (under k l ≡ true)
unfolding under
head_tail k x l e = let p = both_true (leb x k) (under k l) e in (leb-true x k p.0, p.1)

-- ---- the record

flags-bits : (q : List Bool) → flags (bits q) ≡ q
unfolding flags bits bit
flags-bits [] = refl
flags-bits (true ∷ q) = ap (λ (z : List Bool). true ∷ z) (flags-bits q)
flags-bits (false ∷ q) = ap (λ (z : List Bool). false ∷ z) (flags-bits q)

-- THE RECORD TO WORDS AND BACK
pub state-back : (s : State) → length s.joined ≡ 7 → length s.acked ≡ 7 → length s.synced ≡ 7 → length s.counts ≡ 7 → state_at (state_words s) ≡ s
unfolding state_at state_words
state-back s lj la ls lc =
    let J = bits s.joined in
    let A = bits s.acked in
    let Y = bits s.synced in
    let C = s.counts in
    let kj : length J ≡ 7 = length-bits s.joined ∙ lj in
    let ka : length A ≡ 7 = length-bits s.acked ∙ la in
    let ks : length Y ≡ 7 = length-bits s.synced ∙ ls in
    let L = J ++ (A ++ (Y ++ C)) in
    let d₁ : drop 7 L ≡ A ++ (Y ++ C) = drop_at J (A ++ (Y ++ C)) 7 kj in
    let d₂ : drop 14 L ≡ Y ++ C = sym (drop-drop 7 7 L) ∙ ap (drop 7) d₁ ∙ drop_at A (Y ++ C) 7 ka in
    let d₃ : drop 21 L ≡ C = sym (drop-drop 7 14 L) ∙ ap (drop 7) d₂ ∙ drop_at Y C 7 ks in
    rw (take_at J (A ++ (Y ++ C)) 7 kj, d₁, d₂, d₃, take_at A (Y ++ C) 7 ka, take_at Y C 7 ks, take_all 7 C (omega arith), flags-bits s.joined, flags-bits s.acked, flags-bits s.synced)

one_bit : (x : ℕ) → x ≤ 1 → bit (eqb x 1) ≡ x
unfolding bit
one_bit zero h = refl
one_bit (suc zero) h = refl
one_bit (suc (suc x)) h = absurd (omega arith)

bits-flags : (l : List ℕ) → under 1 l ≡ true → bits (flags l) ≡ l
unfolding flags bits
bits-flags [] e = refl
bits-flags (x ∷ l) e =
    let p = head_tail 1 x l e in
    rw (bits-flags l p.1) (ap (λ (z : ℕ). z ∷ l) (one_bit x p.0))

-- seven words of a part of twenty-one
third : (w : List ℕ) (k : ℕ) → ((i : ℕ) → i < 21 → get_or w (10 + i) 0 ≤ 1) → k ≤ 14 → 31 ≤ length w → under 1 (seven (10 + k) w) ≡ true
third w k f h l = under_of 1 (seven (10 + k) w) (λ i m.
    let n : length (seven (10 + k) w) ≤ 7 = omega (arith, length-take 7 (drop (10 + k) w)) in
    let e : 10 + k + i ≡ 10 + (k + i) = omega arith in
    rw (get_or-take 7 (drop (10 + k) w) i 0 (omega arith), get_or-drop (10 + k) w i 0, e) (f (k + i) (omega arith)))

ten-at : (w : List ℕ) → 10 ≤ length w
    → take 10 w ≡ get_or w 0 0 ∷ get_or w 1 0 ∷ get_or w 2 0 ∷ get_or w 3 0 ∷ get_or w 4 0 ∷ get_or w 5 0 ∷ get_or w 6 0 ∷ get_or w 7 0 ∷ get_or w 8 0 ∷ get_or w 9 0 ∷ []
ten-at w h =
    let t : (i : ℕ) → i < 10 → take (suc i) w ≡ take i w ++ (get_or w i 0 ∷ []) = λ i m. take-suc w i 0 (omega arith) in
    rw (t 9 (omega arith), t 8 (omega arith), t 7 (omega arith), t 6 (omega arith), t 5 (omega arith), t 4 (omega arith), t 3 (omega arith), t 2 (omega arith), t 1 (omega arith), t 0 (omega arith))

-- WORDS THAT FIT TO THE RECORD AND BACK
pub words-of-state : (w : List ℕ) → length w ≡ 38 → fits w ≡ true → state_words (state_at w) ≡ w
unfolding state_at state_words
words-of-state w l f =
    let o = set-at-one w l f in
    let on : (k : ℕ) → drop (k + 7) w ≡ drop 7 (drop k w) = λ k. sym (drop-drop 7 k w) in
    let join : (k : ℕ) → seven k w ++ drop (k + 7) w ≡ drop k w = λ k. ap (λ (z : List ℕ). seven k w ++ z) (on k) ∙ take-append-drop 7 (drop k w) in
    rw (bits-flags (seven 10 w) (third w 0 o (omega arith) (omega arith)), bits-flags (seven 17 w) (third w 7 o (omega arith) (omega arith)), bits-flags (seven 24 w) (third w 14 o (omega arith) (omega arith)))
    (sym (ap (λ (z : List ℕ). z ++ (seven 10 w ++ (seven 17 w ++ (seven 24 w ++ seven 31 w)))) (ten-at w (omega arith)))
    ∙ ap (λ (z : List ℕ). take 10 w ++ (seven 10 w ++ (seven 17 w ++ (seven 24 w ++ z)))) (take_all 7 (drop 31 w) (omega (arith, length-drop 31 w)))
    ∙ ap (λ (z : List ℕ). take 10 w ++ (seven 10 w ++ (seven 17 w ++ z))) (join 24)
    ∙ ap (λ (z : List ℕ). take 10 w ++ (seven 10 w ++ z)) (join 17)
    ∙ ap (λ (z : List ℕ). take 10 w ++ z) (join 10)
    ∙ take-append-drop 10 w)

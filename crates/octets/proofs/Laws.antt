-- Laws of the loops between bytes and words, and of the record in words.
use Prim.Native.Nat.{ℕ, zero, suc, ◌+◌, ◌-◌, ◌*◌, ◌≤◌, ◌<◌}
use mathlib.Core.Path.{◌≡◌, refl, sym, ap, ◌∙◌}
use mathlib.Core.Bool.{Bool, true, false}
use mathlib.Core.List.{List, [], ◌∷◌, ◌++◌, append_assoc, append-nil}
use native.Mathlib.Omega.{arith}
use native.Mathlib.Numerals.{add-one}
use lib.Dec.{leb}
use lib.ListN.{length, take, drop, get_or, set, length-append, length-drop, take-append-drop}
use lib.Seq.{drop-cons, set_at, append_snoc, take-suc, take_at, drop-drop, drop-append-add, length-take-le, take_all, get_or-drop, get_or-take}
use borrow.Author.Tests.{leb-true, le-leb}
use borrow.Rule.Slice.PartMut.{put_mid}
use Rattle.std.specs.Int.{w64, from_le_bytes, from_bool}
use Rattle.std.specs.List.{AllWithin, HoldsAt}
use Rattle.std.specs.Bool.{MatchBool}
use Rattle.base.specs.Choice.{both}
use Rattle.base.specs.Transaction.{LAST}
use Rattle.base.proofs.Choice.{both_true}
use Rattle.rules.specs.Words.{put}
use Rattle.rules.specs.declared.State.{State}
use Rattle.rules.proofs.Words.{length-put, mid-put}
use Rattle.octets.specs.Bytes.{word_at, words_of, eight, bytes_of, under, BYTE}
use Rattle.octets.specs.Record.{bit, bits, seven, ten_of, state_words, fits}

-- ---- words of bytes

pub length-words : (n : ℕ) (b : List ℕ) → length (words_of n b) ≡ n
unfolding words_of
length-words zero b = refl
length-words (suc n) b = ap suc (length-words n (drop 8 b))

word-drop : (b : List ℕ) (k : ℕ) → word_at (drop k b) 0 ≡ word_at b k
unfolding word_at
word-drop b k = let e : k + 0 ≡ k = omega arith in simp (get_or-drop, e)

pub words_snoc : (n : ℕ) (b : List ℕ) → words_of (n + 1) b ≡ words_of n b ++ (word_at b (8 * n) ∷ [])
unfolding words_of
words_snoc zero b = refl
words_snoc (suc n) b =
    let e : suc n + 1 ≡ suc (n + 1) = omega arith in
    let k : 8 + 8 * n ≡ 8 * suc n = omega arith in
    let a : word_at (drop 8 b) (8 * n) ≡ word_at b (8 * suc n) =
    sym (word-drop (drop 8 b) (8 * n)) ∙ ap (λ (l : List ℕ). word_at l 0) (drop-drop (8 * n) 8 b ∙ ap (λ (i : ℕ). drop i b) k) ∙ word-drop b (8 * suc n) in
    rw e (ap (λ (l : List ℕ). word_at b 0 ∷ l) (words_snoc n (drop 8 b) ∙ ap (λ (x : ℕ). words_of n (drop 8 b) ++ (x ∷ [])) a))

pub load-turn : (b w : List ℕ) (i : ℕ) → i < length w → set (words_of i b ++ drop i w) i (word_at b (8 * i)) ≡ words_of (i + 1) b ++ drop (i + 1) w
load-turn b w i l =
    rw (words_snoc i b, add-one i, drop-cons w i 0 l)
    (set_at (words_of i b) (get_or w i 0) (drop (suc i) w) (word_at b (8 * i)) i (length-words i b)
    ∙ sym (append_snoc (words_of i b) (word_at b (8 * i)) (drop (suc i) w)))

-- a word as the library's, of its eight bytes
pub word-bytes : (b : List ℕ) (k : ℕ)
    → word_at b k ≡ from_le_bytes w64 (get_or b k 0 ∷ get_or b (k + 1) 0 ∷ get_or b (k + 2) 0 ∷ get_or b (k + 3) 0 ∷ get_or b (k + 4) 0 ∷ get_or b (k + 5) 0 ∷ get_or b (k + 6) 0 ∷ get_or b (k + 7) 0 ∷ [])
unfolding word_at
word-bytes b k = omega arith

pub le-word : (b q : List ℕ) (k n : ℕ) → n ≡ 8 → q ≡ take n (drop k b) → from_le_bytes w64 q ≡ word_at b k
le-word b q k n e h =
    let at : (i : ℕ) → i < 8 → get_or q i 0 ≡ get_or b (k + i) 0 = λ i l. rw (h, e, get_or-take 8 (drop k b) i 0 l) (get_or-drop k b i 0) in
    let z : k + 0 ≡ k = omega arith in
    rw (at 0 (omega arith), z, at 1 (omega arith), at 2 (omega arith), at 3 (omega arith), at 4 (omega arith), at 5 (omega arith), at 6 (omega arith), at 7 (omega arith)) (sym (word-bytes b k))

-- ---- bytes of words

bytes-append : (v w : List ℕ) → bytes_of (v ++ w) ≡ bytes_of v ++ bytes_of w
unfolding bytes_of
bytes-append [] w = refl
bytes-append (x ∷ v) w = ap (λ (z : List ℕ). eight x ++ z) (bytes-append v w)

pub length-bytes : (w : List ℕ) → length (bytes_of w) ≡ 8 * length w
unfolding bytes_of
length-bytes [] = refl
length-bytes (x ∷ w) = omega (arith, length-bytes w)

save-put : (w b : List ℕ) (i : ℕ) → i < length w
    → put (bytes_of (take i w) ++ drop (8 * i) b) (8 * i) (eight (get_or w i 0)) ≡ bytes_of (take (i + 1) w) ++ drop (8 * (i + 1)) b
unfolding put bytes_of
save-put w b i l =
    let P = bytes_of (take i w) in
    let D = drop (8 * i) b in
    let x = get_or w i 0 in
    let len_p : length P ≡ 8 * i = length-bytes (take i w) ∙ ap (λ (k : ℕ). 8 * k) (length-take-le i w (omega arith)) in
    let e8 : 8 * i + 8 ≡ 8 * (i + 1) = omega arith in
    let rest : drop (8 * i + 8) (P ++ D) ≡ drop (8 * (i + 1)) b =
    ap (λ (k : ℕ). drop (k + 8) (P ++ D)) (sym len_p) ∙ drop-append-add P D 8 ∙ drop-drop 8 (8 * i) b ∙ ap (λ (k : ℕ). drop k b) e8 in
    let more : bytes_of (take (i + 1) w) ≡ P ++ eight x =
    rw (add-one, take-suc w i 0 l) (bytes-append (take i w) (x ∷ [])) in
    ap (λ (z : List ℕ). z ++ eight x ++ drop (8 * i + 8) (P ++ D)) (take_at P D (8 * i) len_p)
    ∙ ap (λ (z : List ℕ). P ++ eight x ++ z) rest
    ∙ ap (λ (z : List ℕ). z ++ drop (8 * (i + 1)) b) (sym more)

-- a turn: the eight bytes of word i were lent, and came back as y
pub save-turn : (w b c y : List ℕ) (i n : ℕ) → i < length w → n ≡ 8 → c ≡ bytes_of (take i w) ++ drop (8 * i) b → y ≡ eight (get_or w i 0)
    → put_mid (8 * i) n c y ≡ bytes_of (take (i + 1) w) ++ drop (8 * (i + 1)) b
save-turn w b c y i n l e p q =
    mid-put (8 * i) n c y (ap length q ∙ sym e) ∙ rw (p, q) (save-put w b i l)

-- ---- numbers within a bound

pub under_at : (k : ℕ) (l : List ℕ) → under k l ≡ true → (i : ℕ) → i < length l → get_or l i 0 ≤ k
unfolding under
under_at k [] e i h = absurd (omega arith)
under_at k (x ∷ l) e zero h = leb-true x k (both_true (leb x k) (under k l) e).0
under_at k (x ∷ l) e (suc i) h = under_at k l (both_true (leb x k) (under k l) e).1 i (omega arith)

pub under_of : (k : ℕ) (l : List ℕ) → ((i : ℕ) → i < length l → get_or l i 0 ≤ k) → under k l ≡ true
unfolding under both
under_of k [] f = refl
under_of k (x ∷ l) f = rw (le-leb x k (f 0 (omega arith))) (under_of k l (λ i h. f (suc i) (omega arith)))

over : (k : ℕ) (l : List ℕ) (i : ℕ) (b : Bool) → under k l ≡ b → i < length l → k < get_or l i 0 → false ≡ b
over k l i true e m h = absurd (omega (arith, under_at k l e i m))
over k l i false e m h = refl

-- what `all` says
pub under-said : (k : ℕ) (b : Bool) (l : List ℕ) → MatchBool b (AllWithin (λ x. x ≤ k) l 0 (length l)) ((i : ℕ) × (i < length l) × HoldsAt (λ x. k < x) l i) → b ≡ under k l
under-said k true l h = sym (under_of k l (λ i m. h i 0 (omega arith) m))
under-said k false l (i, m, h) = over k l i (under k l) refl m (h 0)

-- a word of a part
pub part_at : (k : ℕ) (w : List ℕ) (at n i : ℕ) → under k (take n (drop at w)) ≡ true → at + n ≤ length w → i < n → get_or w (at + i) 0 ≤ k
part_at k w at n i e h l =
    let m : length (take n (drop at w)) ≡ n = length-take-le n (drop at w) (omega (arith, length-drop at w)) in
    rw (get_or-take n (drop at w) i 0 l, get_or-drop at w i 0) at (under_at k (take n (drop at w)) e i (omega arith))

-- ---- words put one after the other

take_put : (w ys : List ℕ) (at n : ℕ) → at + length ys ≡ n → n ≤ length w → take n (put w at ys) ≡ take at w ++ ys
unfolding put
take_put w ys at n e l =
    let a : length (take at w) ≡ at = length-take-le at w (omega arith) in
    take_at (take at w ++ ys) (drop (at + length ys) w) n (length-append (take at w) ys ∙ omega arith)

pub put-more : (w ys : List ℕ) (at n x : ℕ) → length ys ≡ n → at + n < length w → set (put w at ys) (at + n) x ≡ put w at (ys ++ (x ∷ []))
unfolding put
put-more w ys at n x e l =
    let P = take at w ++ ys in
    let a : length (take at w) ≡ at = length-take-le at w (omega arith) in
    let b : length P ≡ at + n = length-append (take at w) ys ∙ omega arith in
    let c : length (ys ++ (x ∷ [])) ≡ suc n = length-append ys (x ∷ []) ∙ omega arith in
    let k : at + suc n ≡ suc (at + n) = omega arith in
    rw (c, k, e, drop-cons w (at + n) 0 l)
    (set_at P (get_or w (at + n) 0) (drop (suc (at + n)) w) x (at + n) b
    ∙ sym (append_snoc P x (drop (suc (at + n)) w))
    ∙ ap (λ (z : List ℕ). z ++ drop (suc (at + n)) w) (append_assoc (take at w) ys (x ∷ [])))

pub put-none : (w : List ℕ) (at : ℕ) → w ≡ put w at []
unfolding put
put-none w at =
    let e : at + 0 ≡ at = omega arith in
    sym (rw (e, append-nil (take at w)) (take-append-drop at w))

-- ---- sets and counts

pub length-bits : (q : List Bool) → length (bits q) ≡ length q
unfolding bits
length-bits [] = refl
length-bits (b ∷ q) = ap suc (length-bits q)

-- a bit as the library converts it
pub bit-from : (b : Bool) → from_bool b ≡ bit b
unfolding bit
bit-from true = refl
bit-from false = refl

bits-append : (p q : List Bool) → bits (p ++ q) ≡ bits p ++ bits q
unfolding bits
bits-append [] q = refl
bits-append (b ∷ p) q = ap (λ (z : List ℕ). bit b ∷ z) (bits-append p q)

module _ (w₀ w : List ℕ) (at i : ℕ) (h : at + 7 ≤ length w₀) (l : i < 7) where
  pub flags-turn : (q : List Bool) → length q ≡ 7 → w ≡ put w₀ at (bits (take i q)) → set w (at + i) (bit (get_or q i false)) ≡ put w₀ at (bits (take (i + 1) q))
  unfolding bits
  flags-turn q m e =
      let k : length (bits (take i q)) ≡ i = length-bits (take i q) ∙ length-take-le i q (omega arith) in
      rw (e, add-one i, take-suc q i false (omega arith), bits-append (take i q) (get_or q i false ∷ []))
      (put-more w₀ (bits (take i q)) at i (bit (get_or q i false)) k (omega arith))

  pub counts-turn : (q : List ℕ) → length q ≡ 7 → w ≡ put w₀ at (take i q) → set w (at + i) (get_or q i 0) ≡ put w₀ at (take (i + 1) q)
  counts-turn q m e =
      rw (e, add-one i, take-suc q i 0 (omega arith))
      (put-more w₀ (take i q) at i (get_or q i 0) (length-take-le i q (omega arith)) (omega arith))

module _ (w₀ w : List ℕ) (at i : ℕ) (l : i ≡ 7) where
  pub flags-end : (q : List Bool) → length q ≡ 7 → w ≡ put w₀ at (bits (take i q)) → w ≡ put w₀ at (bits q)
  flags-end q m e = e ∙ ap (λ (z : List Bool). put w₀ at (bits z)) (take_all i q (omega arith))

  pub counts_end : (q : List ℕ) → length q ≡ 7 → w ≡ put w₀ at (take i q) → w ≡ put w₀ at q
  counts_end q m e = e ∙ ap (put w₀ at) (take_all i q (omega arith))

-- seven words, one by one
pub seven_at : {A : Type 0} (w : List A) (k : ℕ) (d : A) → k + 7 ≤ length w
    → take 7 (drop k w) ≡ get_or w k d ∷ get_or w (k + 1) d ∷ get_or w (k + 2) d ∷ get_or w (k + 3) d ∷ get_or w (k + 4) d ∷ get_or w (k + 5) d ∷ get_or w (k + 6) d ∷ []
seven_at w k d h =
    let go : (i : ℕ) → k + i < length w → drop (k + i) w ≡ get_or w (k + i) d ∷ drop (k + suc i) w = λ i m. let u : suc (k + i) ≡ k + suc i = omega arith in drop-cons w (k + i) d m ∙ ap (λ (j : ℕ). get_or w (k + i) d ∷ drop j w) u in
    let e : k + 0 ≡ k = omega arith in
    let first : drop k w ≡ get_or w k d ∷ drop (k + 1) w = rw e at (go 0 (omega arith)) in
    rw (first, go 1 (omega arith), go 2 (omega arith), go 3 (omega arith), go 4 (omega arith), go 5 (omega arith), go 6 (omega arith))

pub seven-of : {A : Type 0} (q : List A) (d a₀ a₁ a₂ a₃ a₄ a₅ a₆ : A) → length q ≡ 7
    → get_or q 0 d ≡ a₀ → get_or q 1 d ≡ a₁ → get_or q 2 d ≡ a₂ → get_or q 3 d ≡ a₃ → get_or q 4 d ≡ a₄ → get_or q 5 d ≡ a₅ → get_or q 6 d ≡ a₆
    → q ≡ a₀ ∷ a₁ ∷ a₂ ∷ a₃ ∷ a₄ ∷ a₅ ∷ a₆ ∷ []
seven-of q d a₀ a₁ a₂ a₃ a₄ a₅ a₆ l e₀ e₁ e₂ e₃ e₄ e₅ e₆ =
    sym (take_all 7 q (omega arith)) ∙ seven_at q 0 d (omega arith) ∙ rw (e₀, e₁, e₂, e₃, e₄, e₅, e₆)

-- ---- the record

-- each part of the record, written in its turn
pub written : (s : State) (w w₁ w₂ w₃ w₄ w₅ : List ℕ) → length w ≡ 38
    → length s.joined ≡ 7 → length s.acked ≡ 7 → length s.synced ≡ 7 → length s.counts ≡ 7
    → w₁ ≡ put w 0 (ten_of s) → w₂ ≡ put w₁ 10 (bits s.joined) → w₃ ≡ put w₂ 17 (bits s.acked) → w₄ ≡ put w₃ 24 (bits s.synced) → w₅ ≡ put w₄ 31 s.counts
    → w₅ ≡ state_words s
unfolding state_words
written s w w₁ w₂ w₃ w₄ w₅ l lj la ls lc e₁ e₂ e₃ e₄ e₅ =
    let bj = length-bits s.joined ∙ lj in
    let ba = length-bits s.acked ∙ la in
    let bs = length-bits s.synced ∙ ls in
    let l₁ : length w₁ ≡ 38 = ap length e₁ ∙ length-put w (ten_of s) 0 (omega arith) ∙ l in
    let l₂ : length w₂ ≡ 38 = ap length e₂ ∙ length-put w₁ (bits s.joined) 10 (omega arith) ∙ l₁ in
    let l₃ : length w₃ ≡ 38 = ap length e₃ ∙ length-put w₂ (bits s.acked) 17 (omega arith) ∙ l₂ in
    let l₄ : length w₄ ≡ 38 = ap length e₄ ∙ length-put w₃ (bits s.synced) 24 (omega arith) ∙ l₃ in
    let l₅ : length w₅ ≡ 38 = ap length e₅ ∙ length-put w₄ s.counts 31 (omega arith) ∙ l₄ in
    let t₁ : take 10 w₁ ≡ ten_of s = ap (take 10) e₁ ∙ take_put w (ten_of s) 0 10 refl (omega arith) in
    let t₂ : take 17 w₂ ≡ ten_of s ++ bits s.joined = ap (take 17) e₂ ∙ take_put w₁ (bits s.joined) 10 17 (omega arith) (omega arith) ∙ ap (λ (z : List ℕ). z ++ bits s.joined) t₁ in
    let t₃ : take 24 w₃ ≡ ten_of s ++ bits s.joined ++ bits s.acked = ap (take 24) e₃ ∙ take_put w₂ (bits s.acked) 17 24 (omega arith) (omega arith) ∙ ap (λ (z : List ℕ). z ++ bits s.acked) t₂ in
    let t₄ : take 31 w₄ ≡ ten_of s ++ bits s.joined ++ bits s.acked ++ bits s.synced = ap (take 31) e₄ ∙ take_put w₃ (bits s.synced) 24 31 (omega arith) (omega arith) ∙ ap (λ (z : List ℕ). z ++ bits s.synced) t₃ in
    let t₅ : take 38 w₅ ≡ ten_of s ++ bits s.joined ++ bits s.acked ++ bits s.synced ++ s.counts = ap (take 38) e₅ ∙ take_put w₄ s.counts 31 38 (omega arith) (omega arith) ∙ ap (λ (z : List ℕ). z ++ s.counts) t₄ in
    sym (take_all 38 w₅ (omega arith)) ∙ t₅
    ∙ append_assoc (ten_of s ++ bits s.joined ++ bits s.acked) (bits s.synced) s.counts
    ∙ append_assoc (ten_of s ++ bits s.joined) (bits s.acked) (bits s.synced ++ s.counts)
    ∙ append_assoc (ten_of s) (bits s.joined) (bits s.acked ++ (bits s.synced ++ s.counts))

module _ (w : List ℕ) (l : length w ≡ 38) (f : fits w ≡ true) where
  parts : (under BYTE (take 3 w) ≡ true) × ((under LAST (seven 3 w) ≡ true) × ((under 1 (take 21 (drop 10 w)) ≡ true) × (under LAST (seven 31 w) ≡ true)))
  unfolding fits
  parts =
      let x = both_true (under BYTE (take 3 w)) _ f in
      let y = both_true (under LAST (seven 3 w)) _ x.1 in
      let z = both_true (under 1 (take 21 (drop 10 w))) (under LAST (seven 31 w)) y.1 in
      (x.0, (y.0, (z.0, z.1)))

  pub tiny_at : (i : ℕ) → i < 3 → get_or w i 0 ≤ 255
  tiny_at i h = let e : 0 + i ≡ i = omega arith in rw e at (part_at BYTE w 0 3 i parts.0 (omega arith) h)

  pub narrow_at : (i : ℕ) → 3 ≤ i → i < 10 → get_or w i 0 ≤ LAST
  narrow_at i g h = let e : 3 + (i - 3) ≡ i = omega arith in rw e at (part_at LAST w 3 7 (i - 3) parts.1.0 (omega arith) (omega arith))

  pub set-at-one : (i : ℕ) → i < 21 → get_or w (10 + i) 0 ≤ 1
  set-at-one i h = part_at 1 w 10 21 i parts.1.1.0 (omega arith) h

  pub count_at : (i : ℕ) → i < 7 → get_or w (31 + i) 0 ≤ LAST
  count_at i h = part_at LAST w 31 7 i parts.1.1.1 (omega arith) h

-- each field of a record that fits
pub ruleset fields = (tiny_at, narrow_at, count_at)

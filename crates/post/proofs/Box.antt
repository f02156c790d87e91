-- What the hands wrote into the outbox is read back as it was sent.
use Prim.Native.Nat.{ℕ, suc, ◌+◌, ◌*◌, ◌≤◌, ◌<◌}
use mathlib.Core.Path.{◌≡◌, refl, sym, ap, ◌∙◌}
use mathlib.Core.Bool.{true}
use mathlib.Core.List.{List, [], ◌∷◌}
use native.Mathlib.Omega.{arith}
use lib.ListN.{length, take, drop, get_or}
use lib.Seq.{take-nil, get_or-take, get_or-drop, drop-drop}
use Rattle.base.specs.declared.Sizes.{Sizes}
use Rattle.base.proofs.Choice.{clash}
use Rattle.base.proofs.Good.{good-len}
use Rattle.rules.specs.Message.{Msg, cepoch, newepoch, acke, newleader, ackld, commitld, propose, ack, commit, junk, Send, formed}
use Rattle.rules.specs.Words.{msg_size, slot_size, slot, read_msg, encode, put, boxed, tab}
use Rattle.rules.proofs.Words.{length-hist, length-put, read_back}
use Rattle.rules.proofs.Formed.{acke-says, newleader-says}
use Rattle.rules.proofs.Trees.{All}
use Rattle.rules.proofs.Kept.{Sendable}
use Rattle.ring.proofs.Parts.{tab-same, tab-cons, part-before, part_same, row_below}
use Rattle.post.specs.Posts.{to_at, words_at, send_at, sends_at}
use Rattle.post.proofs.Laws.{slot-box}

-- a message fills its slot
length-encode : (z : Sizes) (m : Msg) → 1 ≤ z.room.0 → formed z m ≡ true → length (encode z.room.0 m) ≡ msg_size z.room.0
unfolding encode formed
length-encode z (cepoch p) s f = let h = length-hist z.room.0 [] (omega arith) in omega arith
length-encode z (newepoch e) s f = let h = length-hist z.room.0 [] (omega arith) in omega arith
length-encode z (acke e a h) s f = let l = length-hist z.room.0 h (good-len z.room.0 a h (acke-says z e a h f).1) in omega arith
length-encode z (newleader e h) s f = let l = length-hist z.room.0 h (good-len z.room.0 e h (newleader-says z e h f)) in omega arith
length-encode z (ackld e c) s f = let h = length-hist z.room.0 [] (omega arith) in omega arith
length-encode z (commitld e c) s f = let h = length-hist z.room.0 [] (omega arith) in omega arith
length-encode z (propose e k t) s f = let h = length-hist z.room.0 (t ∷ []) s in omega arith
length-encode z (ack e k) s f = let h = length-hist z.room.0 [] (omega arith) in omega arith
length-encode z (commit e c) s f = let h = length-hist z.room.0 [] (omega arith) in omega arith
length-encode z junk s f = clash f refl

-- the words of slot k, receiver and message
abbrev box : ℕ → List ℕ → ℕ → List ℕ
box H o k = take (slot_size H) (drop (slot_size H * k) o)

drop-suc : (n : ℕ) (l : List ℕ) → drop 1 (take (suc n) l) ≡ take n (drop 1 l)
drop-suc n [] = sym (take-nil n)
drop-suc n (x ∷ l) = refl

drop-one : (n : ℕ) (l : List ℕ) → drop 1 (take (1 + n) l) ≡ take n (drop 1 l)
drop-one n l = let e : 1 + n ≡ suc n = omega arith in rw e (drop-suc n l)

to-box : (H : ℕ) (o : List ℕ) (k : ℕ) → to_at H o k ≡ get_or (box H o k) 0 0
to-box H o k =
    let e : slot_size H * k + 0 ≡ slot_size H * k = omega arith in
    sym (get_or-take (slot_size H) (drop (slot_size H * k) o) 0 0 (omega arith) ∙ get_or-drop (slot_size H * k) o 0 0 ∙ ap (λ (i : ℕ). get_or o i 0) e)

words-box : (H : ℕ) (o : List ℕ) (k : ℕ) → words_at H o k ≡ drop 1 (box H o k)
words-box H o k = ap (take (msg_size H)) (sym (drop-drop 1 (slot_size H * k) o)) ∙ sym (drop-one (msg_size H) (drop (slot_size H * k) o))

-- a slot as its words say
abbrev told : ℕ → List ℕ → Send
told H w = record { to = get_or w 0 0; msg = read_msg H (drop 1 w) }

send-box : (H : ℕ) (o : List ℕ) (k : ℕ) → send_at H o k ≡ told H (box H o k)
send-box H o k = rw (to-box H o k, words-box H o k)

box-other : (H : ℕ) (o ws : List ℕ) (k j : ℕ) → j < k → length ws ≡ slot_size H → slot_size H * k + slot_size H ≤ length o → send_at H (put o (slot_size H * k) ws) j ≡ send_at H o j
box-other H o ws k j l e f =
    send-box H (put o (slot_size H * k) ws) j
    ∙ ap (told H) (part-before o ws (slot_size H * k) (slot_size H * j) (slot_size H) (row_below (slot_size H) j k l) (omega arith))
    ∙ sym (send-box H o j)

box-same : (z : Sizes) (o : List ℕ) (k : ℕ) (x : Send) → 1 ≤ z.room.0 → formed z x.msg ≡ true → slot_size z.room.0 * k + slot_size z.room.0 ≤ length o
    → send_at z.room.0 (put o (slot_size z.room.0 * k) (slot z.room.0 x)) k ≡ x
box-same z o k x s f l =
    let e : length (slot z.room.0 x) ≡ slot_size z.room.0 = (let h = length-encode z x.msg s f in omega arith) in
    send-box z.room.0 (put o (slot_size z.room.0 * k) (slot z.room.0 x)) k
    ∙ ap (told z.room.0) (part_same o (slot z.room.0 x) (slot_size z.room.0 * k) (slot_size z.room.0) e (omega arith))
    ∙ ap (λ (m : Msg). record { to = x.to; msg = m }) (read_back z s x.msg f)

module _ (z : Sizes) (i : ℕ) (some : 1 ≤ z.room.0) where
  -- slots before the first written stay
  box-low : (o : List ℕ) (k : ℕ) (xs : List Send) (j : ℕ) → All (Sendable z i) xs → k + length xs ≤ 6 → 6 * slot_size z.room.0 ≤ length o → j < k → send_at z.room.0 (boxed z.room.0 o k xs) j ≡ send_at z.room.0 o j
  unfolding boxed
  box-low o k [] j a n l h = refl
  box-low o k (x ∷ xs) j a n l h =
      let e : length (slot z.room.0 x) ≡ slot_size z.room.0 = (let h = length-encode z x.msg some a.0.fine in omega arith) in
      let b = slot-box z.room.0 k (length o) (omega arith) l in
      let c : length (put o (slot_size z.room.0 * k) (slot z.room.0 x)) ≡ length o = length-put o (slot z.room.0 x) (slot_size z.room.0 * k) (omega arith) in
      box-low (put o (slot_size z.room.0 * k) (slot z.room.0 x)) (suc k) xs j a.1 (omega arith) (omega arith) (omega arith)
      ∙ box-other z.room.0 o (slot z.room.0 x) k j h e b

  box-from : (o : List ℕ) (k : ℕ) (xs : List Send) → All (Sendable z i) xs → k + length xs ≤ 6 → 6 * slot_size z.room.0 ≤ length o → tab (length xs) (λ j. send_at z.room.0 (boxed z.room.0 o k xs) (k + j)) ≡ xs
  unfolding boxed tab
  box-from o k [] a n l = refl
  box-from o k (x ∷ xs) a n l =
      let p = put o (slot_size z.room.0 * k) (slot z.room.0 x) in
      let e : length (slot z.room.0 x) ≡ slot_size z.room.0 = (let h = length-encode z x.msg some a.0.fine in omega arith) in
      let b = slot-box z.room.0 k (length o) (omega arith) l in
      let c : length (put o (slot_size z.room.0 * k) (slot z.room.0 x)) ≡ length o = length-put o (slot z.room.0 x) (slot_size z.room.0 * k) (omega arith) in
      let d : k + 0 ≡ k = omega arith in
      let q = boxed z.room.0 (put o (slot_size z.room.0 * k) (slot z.room.0 x)) (suc k) xs in
      tab-cons (length xs) (λ j. send_at z.room.0 q (k + j))
      ∙ ap (λ (y : Send). y ∷ tab (length xs) (λ j. send_at z.room.0 q (k + suc j)))
      (ap (send_at z.room.0 q) d ∙ box-low (put o (slot_size z.room.0 * k) (slot z.room.0 x)) (suc k) xs k a.1 (omega arith) (omega arith) (omega arith) ∙ box-same z o k x some a.0.fine b)
      ∙ ap (λ (ys : List Send). x ∷ ys)
      (tab-same (length xs) (λ j. send_at z.room.0 q (k + suc j)) (λ j. send_at z.room.0 q (suc k + j)) (λ j _. let g : k + suc j ≡ suc k + j = omega arith in ap (send_at z.room.0 q) g)
      ∙ box-from (put o (slot_size z.room.0 * k) (slot z.room.0 x)) (suc k) xs a.1 (omega arith) (omega arith))

  -- the outbox keeps its length
  pub length-boxed : (o : List ℕ) (k : ℕ) (xs : List Send) → All (Sendable z i) xs → k + length xs ≤ 6 → 6 * slot_size z.room.0 ≤ length o → length (boxed z.room.0 o k xs) ≡ length o
  unfolding boxed
  length-boxed o k [] a n l = refl
  length-boxed o k (x ∷ xs) a n l =
      let e : length (slot z.room.0 x) ≡ slot_size z.room.0 = (let h = length-encode z x.msg some a.0.fine in omega arith) in
      let b = slot-box z.room.0 k (length o) (omega arith) l in
      let c : length (put o (slot_size z.room.0 * k) (slot z.room.0 x)) ≡ length o = length-put o (slot z.room.0 x) (slot_size z.room.0 * k) (omega arith) in
      length-boxed (put o (slot_size z.room.0 * k) (slot z.room.0 x)) (suc k) xs a.1 (omega arith) (omega arith) ∙ c

  pub box_read : (o : List ℕ) (xs : List Send) → All (Sendable z i) xs → length xs ≤ 6 → 6 * slot_size z.room.0 ≤ length o → sends_at z.room.0 (boxed z.room.0 o 0 xs) (length xs) ≡ xs
  unfolding sends_at
  box_read o xs a n l = tab-same (length xs) (λ j. send_at z.room.0 (boxed z.room.0 o 0 xs) j) (λ j. send_at z.room.0 (boxed z.room.0 o 0 xs) (0 + j)) (λ j _. let g : j ≡ 0 + j = omega arith in ap (send_at z.room.0 (boxed z.room.0 o 0 xs)) g) ∙ box-from o 0 xs a (omega arith) l

-- What a change of one ring is to the channels.
use Prim.Native.Nat.{ℕ, zero, suc, ◌+◌, ◌-◌, ◌*◌, ◌≤◌, ◌<◌}
use mathlib.Core.Path.{◌≡◌, refl, sym, ap, ◌∙◌, subst}
use mathlib.Core.Logic.{◌≢◌, ◌⊎◌, inl, inr, ⊎_elim}
use mathlib.Core.Bool.{Bool, true, false}
use mathlib.Core.List.{List, [], ◌∷◌, ◌++◌}
use native.Mathlib.Omega.{arith}
use native.Mathlib.Nat.{mul-le-mul_left, mul-le-mul, mul-add}
use native.Mathlib.Numerals.{add-one}
use lib.Dec.{eqb, leb, ltb}
use lib.ListN.{length, take, drop, get_or, set, replicate, length-set, length-take, length-drop}
use lib.Seq.{get_or-set_same, get_or-set_other, length-take-le}
use borrow.Author.Tests.{eqb-true, eqb-false, leb-true, ltb-true, le-leb, lt-ltb, le-ltb}
use borrow.Rule.Slice.PartMut.{put_mid}
use Rattle.std.specs.Prelude.{◌↔◌, IsTrue, EachIndex}
use Rattle.base.specs.Choice.{pick, both, either, upd₂}
use Rattle.base.specs.declared.Sizes.{Sizes}
use Rattle.base.proofs.Choice.{case, clash, both_true, both_yes, both-no, either_true, either-false, pick_at, eq-or, le-or-lt, all-at, all_of, upd₂-at}
use Rattle.rules.specs.Message.{Msg}
use Rattle.rules.specs.Cluster.{Channels, emptied}
use Rattle.rules.specs.Words.{msg_size, read_msg, tab, zeros, put}
use Rattle.rules.proofs.Words.{length-zeros, length-put, mid-put, length-tab}
use Rattle.ring.specs.declared.Rings.{Rings}
use Rattle.ring.specs.Queue.{cell, head, count, wrap, slot_no, slot_words, waiting, chans, queue_size, good_ring, good_rings, Ringed, Chan, longer, shorter, vacant, filled, bare, vacated, bared, Left, Pushed, Popped, Cleared, Parted, Emptied}
use Rattle.ring.proofs.Parts.{tab-same, tab-cons, tab-snoc, part-before, part-after, part_same, row_below, row_in, row_apart, row-eq}

-- ---- places in a ring

pub wrap-yes : (depth k : ℕ) → k < depth → wrap depth k ≡ k
unfolding wrap pick
wrap-yes depth k h = rw (lt-ltb k depth h)

pub wrap-no : (depth k : ℕ) → depth ≤ k → wrap depth k ≡ k - depth
unfolding wrap pick
wrap-no depth k h = rw (le-ltb k depth h)

pub wrap-low : (depth h j : ℕ) → h < depth → j ≤ depth → wrap depth (h + j) < depth
wrap-low depth h j p l = ⊎_elim
    (λ (a : depth ≤ h + j). rw (wrap-no depth (h + j) a) (omega arith))
    (λ (a : h + j < depth). rw (wrap-yes depth (h + j) a) a)
    (le-or-lt depth (h + j))

pub wrap-first : (depth h : ℕ) → h < depth → wrap depth (h + 0) ≡ h
wrap-first depth h p = wrap-yes depth (h + 0) (omega arith) ∙ omega arith

wrap-next : (depth h j : ℕ) → h < depth → j < depth → wrap depth (wrap depth (h + 1) + j) ≡ wrap depth (h + suc j)
wrap-next depth h j p l = ⊎_elim
    (λ (a : depth ≤ h + 1).
    let e : wrap depth (h + 1) ≡ 0 = wrap-no depth (h + 1) a ∙ omega arith in
    ap (λ (i : ℕ). wrap depth (i + j)) e ∙ wrap-yes depth (0 + j) (omega arith) ∙ sym (wrap-no depth (h + suc j) (omega arith) ∙ omega arith))
    (λ (a : h + 1 < depth).
    let e : h + 1 + j ≡ h + suc j = omega arith in
    ap (λ (i : ℕ). wrap depth (i + j)) (wrap-yes depth (h + 1) a) ∙ ap (wrap depth) e)
    (le-or-lt depth (h + 1))

wrap-apart : (depth h i j : ℕ) → h < depth → i < j → j < depth → wrap depth (h + i) ≢ wrap depth (h + j)
wrap-apart depth h i j p l m e = ⊎_elim
    (λ (a : depth ≤ h + i). let x = wrap-no depth (h + i) a in let y = wrap-no depth (h + j) (omega arith) in omega arith)
    (λ (a : h + i < depth). ⊎_elim
    (λ (b : depth ≤ h + j). let x = wrap-yes depth (h + i) a in let y = wrap-no depth (h + j) b in omega arith)
    (λ (b : h + j < depth). let x = wrap-yes depth (h + i) a in let y = wrap-yes depth (h + j) b in omega arith)
    (le-or-lt depth (h + j)))
    (le-or-lt depth (h + i))

-- ---- rings that are well formed

pub ring-at : (depth : ℕ) (r : Rings) (c : ℕ) → good_rings depth r ≡ true → c < 49 → (head r c < depth) × (count r c ≤ depth)
unfolding good_rings good_ring
ring-at depth r c g l =
    let b = both_true (ltb (head r c) depth) (leb (count r c) depth) (all-at 49 (good_ring depth r) g c l) in
    (ltb-true _ _ b.0, leb-true _ _ b.1)

pub rings-of : (depth : ℕ) (r : Rings) → ((c : ℕ) → c < 49 → (head r c < depth) × (count r c ≤ depth)) → good_rings depth r ≡ true
unfolding good_rings good_ring
rings-of depth r f = all_of 49 (good_ring depth r) (λ c l. let p = f c l in both_yes _ _ (lt-ltb _ _ p.0) (le-leb _ _ p.1))

-- where b tells of all heads
pub heads-tell : (depth : ℕ) (r : Rings) (b : Bool) → length r.heads ≡ 49 → IsTrue b ↔ EachIndex r.heads (λ c. head r c < depth) → b ≡ false → b ≡ good_rings depth r
heads-tell depth r b n t f = case (good_rings depth r)
    (λ (g : good_rings depth r ≡ true). clash (t.1 (λ c l. (ring-at depth r c g (omega arith)).0)) f)
    (λ (g : good_rings depth r ≡ false). f ∙ sym g)

-- where all heads are in their range, and b tells of all counts
pub counts-tell : (depth : ℕ) (r : Rings) (b : Bool) → length r.heads ≡ 49 → length r.counts ≡ 49 → EachIndex r.heads (λ c. head r c < depth) → IsTrue b ↔ EachIndex r.counts (λ c. count r c ≤ depth)
    → b ≡ good_rings depth r
counts-tell depth r b n m h t = case b
    (λ (e : b ≡ true). e ∙ sym (rings-of depth r (λ c l. (h c (omega arith), t.0 e c (omega arith)))))
    (λ (e : b ≡ false). case (good_rings depth r)
    (λ (g : good_rings depth r ≡ true). clash (t.1 (λ c l. (ring-at depth r c g (omega arith)).1)) e)
    (λ (g : good_rings depth r ≡ false). e ∙ sym g))

pub square : (n : ℕ) → n ≤ 7 → n * n ≤ 49
square n p = let x : n * n ≤ n * 7 = mul-le-mul_left n p in omega arith

pub cell-low : (z : Sizes) (f t : ℕ) → z.n ≤ 7 → Chan z f t → (cell z.n f t < z.n * z.n) × (cell z.n f t < 49)
cell-low z f t h k =
    let a : cell z.n f t < z.n * z.n = row_in z.n f t z.n k.receiver k.sender in
    let b : z.n * z.n ≤ 49 = square z.n h in
    (a, omega arith)

-- a slot of a ring has its words in the queue
pub slot-in : (z : Sizes) (depth c k : ℕ) → c < z.n * z.n → k < depth → msg_size z.room.0 * (depth * c + k) + msg_size z.room.0 ≤ queue_size z depth
slot-in z depth c k h l = row_below (msg_size z.room.0) (depth * c + k) (depth * (z.n * z.n)) (row_in depth c k (z.n * z.n) l h)

pub ring_in : (z : Sizes) (depth c : ℕ) → c < z.n * z.n → msg_size z.room.0 * (depth * c) + msg_size z.room.0 * depth ≤ queue_size z depth
ring_in z depth c h =
    let M = msg_size z.room.0 in
    let a : msg_size z.room.0 * (depth * c + depth) ≤ queue_size z depth = mul-le-mul_left (msg_size z.room.0) (row_below depth c (z.n * z.n) h) in
    omega (arith, mul-add (msg_size z.room.0) (depth * c) depth)

-- ---- slots after others were written

slot-other : (H s u : ℕ) (q ws : List ℕ) → s ≢ u → length ws ≡ msg_size H → msg_size H * s + msg_size H ≤ length q → slot_words H u (filled H q s ws) ≡ slot_words H u q
slot-other H s u q ws d e l = ⊎_elim
    (λ (p : s ≤ u). let x = row_below (msg_size H) s u (omega arith) in ap (take (msg_size H)) (part-after q ws (msg_size H * s) (msg_size H * u) (omega arith) (omega arith)))
    (λ (p : u < s). let x = row_below (msg_size H) u s p in part-before q ws (msg_size H * s) (msg_size H * u) (msg_size H) x (omega arith))
    (le-or-lt s u)

slot-bare : (H depth c d k : ℕ) (q : List ℕ) → c ≢ d → k < depth → msg_size H * (depth * c) + msg_size H * depth ≤ length q
    → slot_words H (depth * d + k) (bare H depth q c) ≡ slot_words H (depth * d + k) q
slot-bare H depth c d k q n h l =
    let z = length-zeros (msg_size H * depth) in ⊎_elim
    (λ (p : c ≤ d).
    let y : depth * c + depth ≤ depth * d + k = (let x = row_below depth c d (omega arith) in omega arith) in
    let w : msg_size H * (depth * c + depth) ≤ msg_size H * (depth * d + k) = mul-le-mul_left (msg_size H) y in
    ap (take (msg_size H)) (part-after q (zeros (msg_size H * depth)) (msg_size H * (depth * c)) (msg_size H * (depth * d + k)) (omega (arith, mul-add (msg_size H) (depth * c) depth)) (omega arith)))
    (λ (p : d < c).
    let y : depth * d + k < depth * c = (let x = row_below depth d c p in omega arith) in
    part-before q (zeros (msg_size H * depth)) (msg_size H * (depth * c)) (msg_size H * (depth * d + k)) (msg_size H) (row_below (msg_size H) (depth * d + k) (depth * c) y) (omega arith))
    (le-or-lt c d)

-- ---- one ring changed, all others as they were

same-waiting : (H depth : ℕ) (r r' : Rings) (q q' : List ℕ) (c : ℕ) → head r' c ≡ head r c → count r' c ≡ count r c → head r c < depth → count r c ≤ depth
    → ((k : ℕ) → k < depth → slot_words H (depth * c + k) q' ≡ slot_words H (depth * c + k) q) → waiting H depth r' q' c ≡ waiting H depth r q c
unfolding waiting
same-waiting H depth r r' q q' c a b l m e =
    rw (a, b) (tab-same (count r c) (λ j. read_msg H (slot_words H (depth * c + wrap depth (head r c + j)) q')) (λ j. read_msg H (slot_words H (depth * c + wrap depth (head r c + j)) q))
    (λ j p. ap (read_msg H) (e (wrap depth (head r c + j)) (wrap-low depth (head r c) j l (omega arith)))))

pick_same : {A : Type 0} (b : Bool) (x y v : A) → (b ≡ true → x ≡ y) → pick b x v ≡ pick b y v
unfolding pick
pick_same true x y v f = f refl
pick_same false x y v f = refl

pub chan-in : (z : Sizes) (depth : ℕ) (r : Rings) (q : List ℕ) (f t : ℕ) → Chan z f t → chans z depth r q f t ≡ waiting z.room.0 depth r q (cell z.n f t)
unfolding chans pick both
chan-in z depth r q f t h = rw (lt-ltb f z.n h.sender, lt-ltb t z.n h.receiver)

pub record Same (z : Sizes) (depth : ℕ) (r : Rings) (q : List ℕ) (c : ℕ) (r' : Rings) (q' : List ℕ) : Type 0 where
  pub heads : (d : ℕ) → d ≢ c → head r' d ≡ head r d
  pub counts : (d : ℕ) → d ≢ c → count r' d ≡ count r d
  pub slots : (d k : ℕ) → d ≢ c → k < depth → slot_words z.room.0 (depth * d + k) q' ≡ slot_words z.room.0 (depth * d + k) q

other-chan : (z : Sizes) (depth : ℕ) (r r' : Rings) (q q' : List ℕ) (f t a b : ℕ) → Ringed z depth r q → Chan z f t → Same z depth r q (cell z.n f t) r' q'
    → (a ≡ f → b ≢ t) → chans z depth r' q' a b ≡ chans z depth r q a b
unfolding chans
other-chan z depth r r' q q' f t a b g h s d = pick_same (both (ltb a z.n) (ltb b z.n)) _ _ [] (λ e.
    let p = both_true (ltb a z.n) (ltb b z.n) e in
    let k : Chan z a b = record { sender = ltb-true _ _ p.0; receiver = ltb-true _ _ p.1 } in
    let u = ring-at depth r (cell z.n a b) g.rings (cell-low z a b g.few k).1 in
    let n : cell z.n a b ≢ cell z.n f t = (λ x. let y = row-eq z.n a b f t k.receiver h.receiver x in d y.0 y.1) in
    same-waiting z.room.0 depth r r' q q' (cell z.n a b) (s.heads (cell z.n a b) n) (s.counts (cell z.n a b) n) u.0 u.1 (λ i l. s.slots (cell z.n a b) i n l))

one-ring : (z : Sizes) (depth : ℕ) (r r' : Rings) (q q' : List ℕ) (f t : ℕ) → Ringed z depth r q → Chan z f t → Same z depth r q (cell z.n f t) r' q'
    → (v : List Msg) → waiting z.room.0 depth r' q' (cell z.n f t) ≡ v → chans z depth r' q' ≡ upd₂ (chans z depth r q) f t v
one-ring z depth r r' q q' f t g h s v e = λ i a b. at a b i
  where
    at : (a b : ℕ) → chans z depth r' q' a b ≡ upd₂ (chans z depth r q) f t v a b
    at a b = upd₂-at (λ (x : List Msg). chans z depth r' q' a b ≡ x) (chans z depth r q) f t v a b
        (λ p o. rw (p, o) (chan-in z depth r' q' f t h ∙ e))
        (λ d. other-chan z depth r r' q q' f t a b g h s d)

-- ---- a slot written, a ring made bare

same-filled : (z : Sizes) (depth : ℕ) (r r' : Rings) (q : List ℕ) (c i : ℕ) (ws : List ℕ) → length q ≡ queue_size z depth → c < z.n * z.n → i < depth → length ws ≡ msg_size z.room.0
    → ((d : ℕ) → d ≢ c → head r' d ≡ head r d) → ((d : ℕ) → d ≢ c → count r' d ≡ count r d) → Same z depth r q c r' (filled z.room.0 q (depth * c + i) ws)
same-filled z depth r r' q c i ws l b p e hs cs = record {
  heads = hs;
  counts = cs;
  slots = λ d k n o. slot-other z.room.0 (depth * c + i) (depth * d + k) q ws (λ x. row_apart depth d k c i o p n (sym x)) e (let y = slot-in z depth c i b p in omega arith);
}

set_other : (xs : List ℕ) (c v d : ℕ) → d ≢ c → get_or (set xs c v) d 0 ≡ get_or xs d 0
set_other xs c v d n = get_or-set_other xs c d v 0 n

set_same : (xs : List ℕ) (c v : ℕ) → c < length xs → get_or (set xs c v) c 0 ≡ v
set_same xs c v l = get_or-set_same xs c v 0 l

-- heads and counts of a ring changed within their ranges
still-good : (depth : ℕ) (r r' : Rings) (c : ℕ) → good_rings depth r ≡ true → ((d : ℕ) → d ≢ c → head r' d ≡ head r d) → ((d : ℕ) → d ≢ c → count r' d ≡ count r d)
    → head r' c < depth → count r' c ≤ depth → good_rings depth r' ≡ true
still-good depth r r' c g hs cs h k = rings-of depth r' (λ d l. ⊎_elim
    (λ (e : d ≡ c). rw e (h, k))
    (λ (n : d ≢ c). rw (hs d n, cs d n) (ring-at depth r d g l))
    (eq-or d c))

length-filled : (z : Sizes) (depth c i : ℕ) (q ws : List ℕ) → length q ≡ queue_size z depth → c < z.n * z.n → i < depth → length ws ≡ msg_size z.room.0 → length (filled z.room.0 q (depth * c + i) ws) ≡ queue_size z depth
length-filled z depth c i q ws l b p e = length-put q ws (msg_size z.room.0 * (depth * c + i)) (let y = slot-in z depth c i b p in omega arith) ∙ l

-- ---- a message behind the last

push-waiting : (H depth : ℕ) (r : Rings) (q ws : List ℕ) (c : ℕ) → head r c < depth → count r c < depth → c < length r.counts → length ws ≡ msg_size H
    → msg_size H * slot_no depth r c (count r c) + msg_size H ≤ length q
    → waiting H depth (longer c r) (filled H q (slot_no depth r c (count r c)) ws) c ≡ waiting H depth r q c ++ (read_msg H ws ∷ [])
unfolding waiting
push-waiting H depth r q ws c h k l e f =
    let Q = filled H q (slot_no depth r c (count r c)) ws in
    ap (λ (n : ℕ). tab n (λ j. read_msg H (slot_words H (slot_no depth r c j) Q))) (set_same r.counts c (count r c + 1) l)
    ∙ tab-snoc (count r c) (λ j. read_msg H (slot_words H (slot_no depth r c j) Q))
    ∙ ap (λ (m : List Msg). m ++ (read_msg H (slot_words H (slot_no depth r c (count r c)) Q) ∷ []))
    (tab-same (count r c) (λ j. read_msg H (slot_words H (slot_no depth r c j) Q)) (λ j. read_msg H (slot_words H (slot_no depth r c j) q))
    (λ j p. ap (read_msg H) (slot-other H (slot_no depth r c (count r c)) (slot_no depth r c j) q ws (λ x. wrap-apart depth (head r c) j (count r c) h p k (omega arith)) e f)))
    ∙ ap (λ (w : List ℕ). tab (count r c) (λ j. read_msg H (slot_words H (slot_no depth r c j) q)) ++ (read_msg H w ∷ []))
    (part_same q ws (msg_size H * slot_no depth r c (count r c)) (msg_size H) e (omega arith))

pub push-does : (z : Sizes) (depth : ℕ) (r r' : Rings) (q q' : List ℕ) (f t : ℕ) (ws : List ℕ) → Ringed z depth r q → Chan z f t → count r (cell z.n f t) < depth → length ws ≡ msg_size z.room.0
    → r' ≡ longer (cell z.n f t) r → q' ≡ filled z.room.0 q (slot_no depth r (cell z.n f t) (count r (cell z.n f t))) ws → Pushed z depth r q f t ws r' q'
push-does z depth r r' q q' f t ws g h k e a b =
    let c = cell z.n f t in
    let l = cell-low z f t g.few h in
    let u = ring-at depth r (cell z.n f t) g.rings l.1 in
    let lc : cell z.n f t < length r.counts = (let y = g.counts in let v = l.1 in omega arith) in
    let w : wrap depth (head r (cell z.n f t) + count r (cell z.n f t)) < depth = wrap-low depth (head r (cell z.n f t)) (count r (cell z.n f t)) u.0 u.1 in
    let Q = filled z.room.0 q (slot_no depth r (cell z.n f t) (count r (cell z.n f t))) ws in
    let hs : (d : ℕ) → d ≢ cell z.n f t → head (longer (cell z.n f t) r) d ≡ head r d = (λ d n. refl) in
    let cs : (d : ℕ) → d ≢ cell z.n f t → count (longer (cell z.n f t) r) d ≡ count r d = (λ d n. set_other r.counts (cell z.n f t) (count r (cell z.n f t) + 1) d n) in
    let s = same-filled z depth r (longer (cell z.n f t) r) q (cell z.n f t) (wrap depth (head r (cell z.n f t) + count r (cell z.n f t))) ws g.size l.0 w e hs cs in
    let y = slot-in z depth (cell z.n f t) (wrap depth (head r (cell z.n f t) + count r (cell z.n f t))) l.0 w in
    let i = g.size in
    let v = push-waiting z.room.0 depth r q ws (cell z.n f t) u.0 k lc e (omega arith) in
    rw (a, b) record {
      rings = refl;
      words = refl;
      chans = one-ring z depth r (longer (cell z.n f t) r) q Q f t g h s (chans z depth r q f t ++ (read_msg z.room.0 ws ∷ []))
          (v ∙ ap (λ (m : List Msg). m ++ (read_msg z.room.0 ws ∷ [])) (sym (chan-in z depth r q f t h)));
      good = record {
        few = g.few;
        room = g.room;
        some = g.some;
        deep = g.deep;
        size = length-filled z depth (cell z.n f t) (wrap depth (head r (cell z.n f t) + count r (cell z.n f t))) q ws g.size l.0 w e;
        rings = still-good depth r (longer (cell z.n f t) r) (cell z.n f t) g.rings hs cs u.0 (rw (set_same r.counts (cell z.n f t) (count r (cell z.n f t) + 1) lc) (omega arith));
        heads = g.heads;
        counts = simp length-set g.counts;
      };
    }

-- ---- the first taken

pop-waiting : (H depth : ℕ) (r : Rings) (q ws : List ℕ) (c m : ℕ) → head r c < depth → count r c ≤ depth → count r c ≡ suc m → c < length r.heads → c < length r.counts → length ws ≡ msg_size H
    → msg_size H * slot_no depth r c 0 + msg_size H ≤ length q
    → waiting H depth (shorter depth c r) (filled H q (slot_no depth r c 0) ws) c ≡ drop 1 (waiting H depth r q c)
unfolding waiting
pop-waiting H depth r q ws c m h k n lh lc e f =
    let Q = filled H q (slot_no depth r c 0) ws in
    let o : count r c - 1 ≡ m = omega arith in
    ap (λ (i : ℕ). tab i (λ j. read_msg H (slot_words H (slot_no depth (shorter depth c r) c j) Q))) (set_same r.counts c (count r c - 1) lc ∙ o)
    ∙ ap (λ (i : ℕ). tab m (λ j. read_msg H (slot_words H (depth * c + wrap depth (i + j)) Q))) (set_same r.heads c (wrap depth (head r c + 1)) lh)
    ∙ tab-same m (λ j. read_msg H (slot_words H (depth * c + wrap depth (wrap depth (head r c + 1) + j)) Q)) (λ j. read_msg H (slot_words H (slot_no depth r c (suc j)) q))
    (λ j p. ap (λ (i : ℕ). read_msg H (slot_words H (depth * c + i) Q)) (wrap-next depth (head r c) j h (omega arith))
    ∙ ap (read_msg H) (slot-other H (slot_no depth r c 0) (slot_no depth r c (suc j)) q ws (λ x. wrap-apart depth (head r c) 0 (suc j) h (omega arith) (omega arith) (omega arith)) e f))
    ∙ ap (drop 1) (sym (tab-cons m (λ j. read_msg H (slot_words H (slot_no depth r c j) q))))
    ∙ ap (λ (i : ℕ). drop 1 (tab i (λ j. read_msg H (slot_words H (slot_no depth r c j) q)))) (sym n)

pub pop-does : (z : Sizes) (depth : ℕ) (r r' : Rings) (q q' : List ℕ) (f t : ℕ) → Ringed z depth r q → Chan z f t → 1 ≤ count r (cell z.n f t)
    → r' ≡ shorter depth (cell z.n f t) r → q' ≡ filled z.room.0 q (slot_no depth r (cell z.n f t) 0) (zeros (msg_size z.room.0)) → Popped z depth r q f t r' q'
pop-does z depth r r' q q' f t g h k a b =
    let l = cell-low z f t g.few h in
    let u = ring-at depth r (cell z.n f t) g.rings l.1 in
    let lh : cell z.n f t < length r.heads = (let y = g.heads in let v = l.1 in omega arith) in
    let lc : cell z.n f t < length r.counts = (let y = g.counts in let v = l.1 in omega arith) in
    let o = g.some in
    let w : wrap depth (head r (cell z.n f t) + 0) < depth = wrap-low depth (head r (cell z.n f t)) 0 u.0 (omega arith) in
    let e = length-zeros (msg_size z.room.0) in
    let ws = zeros (msg_size z.room.0) in
    let Q = filled z.room.0 q (slot_no depth r (cell z.n f t) 0) (zeros (msg_size z.room.0)) in
    let hs : (d : ℕ) → d ≢ cell z.n f t → head (shorter depth (cell z.n f t) r) d ≡ head r d = (λ d n. set_other r.heads (cell z.n f t) (wrap depth (head r (cell z.n f t) + 1)) d n) in
    let cs : (d : ℕ) → d ≢ cell z.n f t → count (shorter depth (cell z.n f t) r) d ≡ count r d = (λ d n. set_other r.counts (cell z.n f t) (count r (cell z.n f t) - 1) d n) in
    let s = same-filled z depth r (shorter depth (cell z.n f t) r) q (cell z.n f t) (wrap depth (head r (cell z.n f t) + 0)) ws g.size l.0 w e hs cs in
    let y = slot-in z depth (cell z.n f t) (wrap depth (head r (cell z.n f t) + 0)) l.0 w in
    let i = g.size in
    let v = pop-waiting z.room.0 depth r q ws (cell z.n f t) (count r (cell z.n f t) - 1) u.0 u.1 (omega arith) lh lc e (omega arith) in
    rw (a, b) record {
      rings = refl;
      words = refl;
      chans = one-ring z depth r (shorter depth (cell z.n f t) r) q Q f t g h s (drop 1 (chans z depth r q f t)) (v ∙ ap (drop 1) (sym (chan-in z depth r q f t h)));
      good = record {
        few = g.few;
        room = g.room;
        some = g.some;
        deep = g.deep;
        size = length-filled z depth (cell z.n f t) (wrap depth (head r (cell z.n f t) + 0)) q ws g.size l.0 w e;
        rings = still-good depth r (shorter depth (cell z.n f t) r) (cell z.n f t) g.rings hs cs
            (rw (set_same r.heads (cell z.n f t) (wrap depth (head r (cell z.n f t) + 1)) lh) (wrap-low depth (head r (cell z.n f t)) 1 u.0 o))
            (rw (set_same r.counts (cell z.n f t) (count r (cell z.n f t) - 1) lc) (let x = u.1 in omega arith));
        heads = simp length-set g.heads;
        counts = simp length-set g.counts;
      };
    }

first : (H depth : ℕ) (r : Rings) (q : List ℕ) (c m : ℕ) → count r c ≡ suc m → waiting H depth r q c ≡ read_msg H (slot_words H (slot_no depth r c 0) q) ∷ drop 1 (waiting H depth r q c)
unfolding waiting
first H depth r q c m n = rw (n, tab-cons m (λ j. read_msg H (slot_words H (slot_no depth r c j) q)))

-- what waits first in a channel, and what waits behind it
pub front-is : (z : Sizes) (depth : ℕ) (r : Rings) (q : List ℕ) (f t : ℕ) → Chan z f t → 1 ≤ count r (cell z.n f t)
    → chans z depth r q f t ≡ read_msg z.room.0 (slot_words z.room.0 (slot_no depth r (cell z.n f t) 0) q) ∷ drop 1 (chans z depth r q f t)
front-is z depth r q f t h k = rw (chan-in z depth r q f t h) (first z.room.0 depth r q (cell z.n f t) (count r (cell z.n f t) - 1) (omega arith))

-- an empty channel
pub front-none : (z : Sizes) (depth : ℕ) (r : Rings) (q : List ℕ) (f t : ℕ) → Chan z f t → count r (cell z.n f t) ≡ 0 → chans z depth r q f t ≡ []
unfolding waiting tab
front-none z depth r q f t h k = chan-in z depth r q f t h ∙ rw k

pub chan-out : (z : Sizes) (depth : ℕ) (r : Rings) (q : List ℕ) (f t : ℕ) → (z.n ≤ f) ⊎ (z.n ≤ t) → chans z depth r q f t ≡ []
unfolding chans pick both
chan-out z depth r q f t h = ⊎_elim
    (λ (p : z.n ≤ f). rw (le-ltb f z.n p))
    (λ (p : z.n ≤ t). ap (λ (b : Bool). pick b (waiting z.room.0 depth r q (cell z.n f t)) []) (both-no (ltb f z.n) (ltb t z.n) (le-ltb t z.n p)))
    h

-- how many wait
pub chan-count : (z : Sizes) (depth : ℕ) (r : Rings) (q : List ℕ) (f t : ℕ) → Chan z f t → length (chans z depth r q f t) ≡ count r (cell z.n f t)
unfolding waiting
chan-count z depth r q f t h = ap length (chan-in z depth r q f t h) ∙ length-tab (count r (cell z.n f t)) (λ j. read_msg z.room.0 (slot_words z.room.0 (slot_no depth r (cell z.n f t) j) q))

-- ---- a channel emptied

nothing : (H depth : ℕ) (r : Rings) (q : List ℕ) (c : ℕ) → count r c ≡ 0 → waiting H depth r q c ≡ []
unfolding waiting tab
nothing H depth r q c e = ap (λ (n : ℕ). tab n (λ j. read_msg H (slot_words H (slot_no depth r c j) q))) e

pub clear-does : (z : Sizes) (depth : ℕ) (r r' : Rings) (q q' : List ℕ) (f t : ℕ) → Ringed z depth r q → Chan z f t
    → r' ≡ vacant (cell z.n f t) r → q' ≡ bare z.room.0 depth q (cell z.n f t) → Cleared z depth r q f t r' q'
clear-does z depth r r' q q' f t g h a b =
    let l = cell-low z f t g.few h in
    let lh : cell z.n f t < length r.heads = (let y = g.heads in let v = l.1 in omega arith) in
    let lc : cell z.n f t < length r.counts = (let y = g.counts in let v = l.1 in omega arith) in
    let o = g.some in
    let i = g.size in
    let y = ring_in z depth (cell z.n f t) l.0 in
    let e = length-zeros (msg_size z.room.0 * depth) in
    let Q = bare z.room.0 depth q (cell z.n f t) in
    let hs : (d : ℕ) → d ≢ cell z.n f t → head (vacant (cell z.n f t) r) d ≡ head r d = (λ d n. set_other r.heads (cell z.n f t) 0 d n) in
    let cs : (d : ℕ) → d ≢ cell z.n f t → count (vacant (cell z.n f t) r) d ≡ count r d = (λ d n. set_other r.counts (cell z.n f t) 0 d n) in
    let s : Same z depth r q (cell z.n f t) (vacant (cell z.n f t) r) (bare z.room.0 depth q (cell z.n f t)) = record {
      heads = hs;
      counts = cs;
      slots = λ d k n p. slot-bare z.room.0 depth (cell z.n f t) d k q (λ x. n (sym x)) p (omega arith);
    } in
    rw (a, b) record {
      rings = refl;
      words = refl;
      chans = one-ring z depth r (vacant (cell z.n f t) r) q Q f t g h s [] (nothing z.room.0 depth (vacant (cell z.n f t) r) Q (cell z.n f t) (set_same r.counts (cell z.n f t) 0 lc));
      good = record {
        few = g.few;
        room = g.room;
        some = g.some;
        deep = g.deep;
        size = length-put q (zeros (msg_size z.room.0 * depth)) (msg_size z.room.0 * (depth * cell z.n f t)) (omega arith) ∙ i;
        rings = still-good depth r (vacant (cell z.n f t) r) (cell z.n f t) g.rings hs cs
            (rw (set_same r.heads (cell z.n f t) 0 lh) o) (rw (set_same r.counts (cell z.n f t) 0 lc) (omega arith));
        heads = simp length-set g.heads;
        counts = simp length-set g.counts;
      };
    }

-- the channels between i and each server below k
unfoldable pub silent : ℕ → ℕ → Channels → Channels
silent i zero c = c
silent i (suc k) c = upd₂ (upd₂ (silent i k c) i k []) k i []

pub empty-start : (z : Sizes) (depth : ℕ) (r : Rings) (q : List ℕ) (i : ℕ) → Ringed z depth r q
    → Left z depth r q (vacated z.n i 0 r) (bared z.room.0 depth z.n i 0 q) (silent i 0 (chans z depth r q))
unfolding vacated bared silent
empty-start z depth r q i g = record { rings = refl; words = refl; chans = refl; good = g }

pub empty-on : (z : Sizes) (depth : ℕ) (r s t : Rings) (q p o : List ℕ) (i k : ℕ)
    → Left z depth s p (vacated z.n i k r) (bared z.room.0 depth z.n i k q) (silent i k (chans z depth r q)) → Parted z depth s p i k t o
    → Left z depth t o (vacated z.n i (k + 1) r) (bared z.room.0 depth z.n i (k + 1) q) (silent i (k + 1) (chans z depth r q))
unfolding vacated bared silent
empty-on z depth r s t q p o i k a b = rw (add-one k) record {
  rings = b.rings ∙ ap (λ (x : Rings). vacant (cell z.n k i) (vacant (cell z.n i k) x)) a.rings;
  words = b.words ∙ ap (λ (w : List ℕ). bare z.room.0 depth (bare z.room.0 depth w (cell z.n i k)) (cell z.n k i)) a.words;
  chans = b.chans ∙ ap (λ (x : Channels). upd₂ (upd₂ x i k []) k i []) a.chans;
  good = b.good;
}

silent-none : (i k : ℕ) (c : Channels) (f t : ℕ) → c f t ≡ [] → silent i k c f t ≡ []
unfolding silent
silent-none i zero c f t e = e
silent-none i (suc k) c f t e =
    upd₂-at (λ (x : List Msg). x ≡ []) (upd₂ (silent i k c) i k []) k i [] f t (λ _ _. refl)
    (λ _. upd₂-at (λ (x : List Msg). x ≡ []) (silent i k c) i k [] f t (λ _ _. refl) (λ _. silent-none i k c f t e))

silent-from : (i k : ℕ) (c : Channels) (t : ℕ) → t < k → silent i k c i t ≡ []
unfolding silent
silent-from i zero c t l = absurd (omega arith)
silent-from i (suc k) c t l =
    upd₂-at (λ (x : List Msg). x ≡ []) (upd₂ (silent i k c) i k []) k i [] i t (λ _ _. refl)
    (λ _. upd₂-at (λ (x : List Msg). x ≡ []) (silent i k c) i k [] i t (λ _ _. refl) (λ d. let n : t ≢ k = d refl in silent-from i k c t (omega arith)))

silent-to : (i k : ℕ) (c : Channels) (f : ℕ) → f < k → silent i k c f i ≡ []
unfolding silent
silent-to i zero c f l = absurd (omega arith)
silent-to i (suc k) c f l =
    upd₂-at (λ (x : List Msg). x ≡ []) (upd₂ (silent i k c) i k []) k i [] f i (λ _ _. refl)
    (λ d. let n : f ≢ k = (λ e. d e refl) in upd₂-at (λ (x : List Msg). x ≡ []) (silent i k c) i k [] f i (λ _ _. refl) (λ _. silent-to i k c f (omega arith)))

silent-other : (i k : ℕ) (c : Channels) (f t : ℕ) → f ≢ i → t ≢ i → silent i k c f t ≡ c f t
unfolding silent
silent-other i zero c f t a b = refl
silent-other i (suc k) c f t a b =
    upd₂-at (λ (x : List Msg). x ≡ c f t) (upd₂ (silent i k c) i k []) k i [] f t (λ _ e. absurd (b e))
    (λ _. upd₂-at (λ (x : List Msg). x ≡ c f t) (silent i k c) i k [] f t (λ e _. absurd (a e)) (λ _. silent-other i k c f t a b))

silent-at : (n i : ℕ) (c : Channels) → ((f t : ℕ) → (n ≤ f) ⊎ (n ≤ t) → c f t ≡ []) → (f t : ℕ) → silent i n c f t ≡ emptied i c f t
unfolding emptied
silent-at n i c out f t = pick_at (λ (x : List Msg). silent i n c f t ≡ x) (either (eqb f i) (eqb t i)) [] (c f t)
    (λ e. ⊎_elim
    (λ (p : eqb f i ≡ true). let j = eqb-true f i p in rw j (⊎_elim (λ (l : n ≤ t). silent-none i n c i t (out i t (inr l))) (λ (l : t < n). silent-from i n c t l) (le-or-lt n t)))
    (λ (p : eqb t i ≡ true). let j = eqb-true t i p in rw j (⊎_elim (λ (l : n ≤ f). silent-none i n c f i (out f i (inl l))) (λ (l : f < n). silent-to i n c f l) (le-or-lt n f)))
    (either_true (eqb f i) (eqb t i) e))
    (λ e. let b = either-false (eqb f i) (eqb t i) e in silent-other i n c f t (eqb-false f i b.0) (eqb-false t i b.1))

pub empty-does : (z : Sizes) (depth : ℕ) (r s : Rings) (q p : List ℕ) (i k : ℕ) → k ≤ z.n → z.n ≤ k
    → Left z depth s p (vacated z.n i k r) (bared z.room.0 depth z.n i k q) (silent i k (chans z depth r q)) → Emptied z depth r q i s p
empty-does z depth r s q p i k a b l =
    let e : k ≡ z.n = omega arith in
    let l' : Left z depth s p (vacated z.n i z.n r) (bared z.room.0 depth z.n i z.n q) (silent i z.n (chans z depth r q)) = subst (λ (m : ℕ). Left z depth s p (vacated z.n i m r) (bared z.room.0 depth z.n i m q) (silent i m (chans z depth r q))) e l in
    record {
      rings = l'.rings;
      words = l'.words;
      chans = l'.chans ∙ (λ j f t. silent-at z.n i (chans z depth r q) (λ f t. chan-out z depth r q f t) f t j);
      good = l'.good;
    }

-- ---- for the code

pub times : (a b x y : ℕ) → a ≤ x → b ≤ y → a * b ≤ x * y
times a b x y h k = mul-le-mul h k

-- the first words of ws written into a part of q
pub mid-fill : (q s ws : List ℕ) (at size : ℕ) → size ≤ length ws → s ≡ take size ws → put_mid at (at + size - at) q s ≡ put q at (take size ws)
mid-fill q s ws at size h p = mid-put at (at + size - at) q s (ap length p ∙ length-take-le size ws h ∙ omega arith) ∙ ap (put q at) p

zeros-replicate : (n : ℕ) → replicate n 0 ≡ zeros n
unfolding zeros
zeros-replicate zero = refl
zeros-replicate (suc n) = ap (λ (w : List ℕ). 0 ∷ w) (zeros-replicate n)

-- zeros written into a part of q
pub mid-clear : (q s : List ℕ) (at size : ℕ) → at + size ≤ length q → s ≡ replicate (length (take (at + size - at) (drop at q))) 0 → put_mid at (at + size - at) q s ≡ put q at (zeros size)
mid-clear q s at size h k =
    let f : length (take (at + size - at) (drop at q)) ≡ size = simp (length-take, length-drop) (omega arith) in
    let p : s ≡ zeros size = k ∙ zeros-replicate _ ∙ ap zeros f in
    mid-put at (at + size - at) q s (ap length p ∙ length-zeros size ∙ omega arith) ∙ ap (put q at) p

-- a slot and a ring lie in the queue
pub slot-fits : (z : Sizes) (depth : ℕ) (r : Rings) (q : List ℕ) (f t k w at m : ℕ) → Ringed z depth r q → Chan z f t → k ≡ cell z.n f t → w < depth
    → at ≡ msg_size z.room.0 * (depth * k + w) → m ≡ msg_size z.room.0 → at + m ≤ length q
slot-fits z depth r q f t k w at m g h e l a b =
    let c = cell-low z f t g.few h in
    let o : k < z.n * z.n = rw e c.0 in
    rw (a, b, g.size) (slot-in z depth k w o l)

pub front-fits : (z : Sizes) (depth : ℕ) (r : Rings) (q : List ℕ) (f t at m : ℕ) → Ringed z depth r q → Chan z f t
    → at ≡ msg_size z.room.0 * slot_no depth r (cell z.n f t) 0 → m ≡ msg_size z.room.0 → at + m ≤ length q
front-fits z depth r q f t at m g h a b =
    let u = ring-at depth r (cell z.n f t) g.rings (cell-low z f t g.few h).1 in
    slot-fits z depth r q f t (cell z.n f t) (wrap depth (head r (cell z.n f t) + 0)) at m g h refl (wrap-low depth (head r (cell z.n f t)) 0 u.0 (omega arith)) a b

pub ring-fits : (z : Sizes) (depth : ℕ) (r : Rings) (q : List ℕ) (f t k at m : ℕ) → Ringed z depth r q → Chan z f t → k ≡ cell z.n f t
    → at ≡ msg_size z.room.0 * (depth * k + 0) → m ≡ msg_size z.room.0 → at + m * depth ≤ length q
ring-fits z depth r q f t k at m g h e a b =
    let c = cell-low z f t g.few h in
    let o : k < z.n * z.n = rw e c.0 in
    let i : depth * k + 0 ≡ depth * k = omega arith in
    rw (a, b, g.size, i) (ring_in z depth k o)

pub front_at : (z : Sizes) (depth : ℕ) (r : Rings) (f t k at : ℕ) → good_rings depth r ≡ true → k < 49 → k ≡ cell z.n f t → at ≡ msg_size z.room.0 * (depth * k + head r k)
    → at ≡ msg_size z.room.0 * slot_no depth r (cell z.n f t) 0
front_at z depth r f t k at g l e a =
    a ∙ ap (λ (i : ℕ). msg_size z.room.0 * (depth * k + i)) (sym (wrap-first depth (head r k) (ring-at depth r k g l).0)) ∙ ap (λ (c : ℕ). msg_size z.room.0 * slot_no depth r c 0) e

pub pushed : (z : Sizes) (depth : ℕ) (r : Rings) (q q' : List ℕ) (f t : ℕ) (ws : List ℕ) (k w at m : ℕ) → Ringed z depth r q → Chan z f t → count r (cell z.n f t) < depth
    → msg_size z.room.0 ≤ length ws → k ≡ cell z.n f t → w ≡ wrap depth (head r k + count r k) → at ≡ msg_size z.room.0 * (depth * k + w) → m ≡ msg_size z.room.0
    → q' ≡ put q at (take m ws) → Pushed z depth r q f t (take (msg_size z.room.0) ws) (longer k r) q'
pushed z depth r q q' f t ws k w at m g h l o e a b c d =
    let i : at ≡ msg_size z.room.0 * slot_no depth r (cell z.n f t) (count r (cell z.n f t))
    = b ∙ ap (λ (x : ℕ). msg_size z.room.0 * (depth * k + x)) a ∙ ap (λ (x : ℕ). msg_size z.room.0 * slot_no depth r x (count r x)) e in
    push-does z depth r (longer k r) q q' f t (take (msg_size z.room.0) ws) g h l (length-take-le (msg_size z.room.0) ws o) (ap (λ (x : ℕ). longer x r) e)
    (d ∙ ap (λ (x : ℕ). put q x (take m ws)) i ∙ ap (λ (x : ℕ). filled z.room.0 q (slot_no depth r (cell z.n f t) (count r (cell z.n f t))) (take x ws)) c)

pub popped : (z : Sizes) (depth : ℕ) (r : Rings) (q q' : List ℕ) (f t k w at m : ℕ) → Ringed z depth r q → Chan z f t → 1 ≤ count r (cell z.n f t)
    → k ≡ cell z.n f t → w ≡ wrap depth (head r k + 1) → at ≡ msg_size z.room.0 * slot_no depth r (cell z.n f t) 0 → m ≡ msg_size z.room.0
    → q' ≡ put q at (zeros m) → Popped z depth r q f t (record { heads = set r.heads k w; counts = set r.counts k (count r k - 1) }) q'
popped z depth r q q' f t k w at m g h l e a b c d =
    pop-does z depth r (record { heads = set r.heads k w; counts = set r.counts k (count r k - 1) }) q q' f t g h l
    (ap (λ (x : ℕ). record { heads = set r.heads k x; counts = set r.counts k (count r k - 1) }) a ∙ ap (λ (x : ℕ). shorter depth x r) e)
    (d ∙ ap (λ (x : ℕ). put q x (zeros m)) b ∙ ap (λ (x : ℕ). filled z.room.0 q (slot_no depth r (cell z.n f t) 0) (zeros x)) c)

pub cleared : (z : Sizes) (depth : ℕ) (r : Rings) (q q' : List ℕ) (f t k at m : ℕ) → Ringed z depth r q → Chan z f t
    → k ≡ cell z.n f t → at ≡ msg_size z.room.0 * (depth * k + 0) → m ≡ msg_size z.room.0
    → q' ≡ put q at (zeros (m * depth)) → Cleared z depth r q f t (vacant k r) q'
cleared z depth r q q' f t k at m g h e b c d =
    let i : depth * k + 0 ≡ depth * k = omega arith in
    clear-does z depth r (vacant k r) q q' f t g h (ap (λ (x : ℕ). vacant x r) e)
    (d ∙ ap (λ (x : ℕ). put q x (zeros (m * depth))) (b ∙ ap (λ (x : ℕ). msg_size z.room.0 * x) i ∙ ap (λ (x : ℕ). msg_size z.room.0 * (depth * x)) e)
    ∙ ap (λ (x : ℕ). put q (msg_size z.room.0 * (depth * cell z.n f t)) (zeros (x * depth))) c)

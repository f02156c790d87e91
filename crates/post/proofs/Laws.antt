-- What is posted, and that there is room for it.
use Prim.Native.Nat.{ℕ, zero, suc, ◌+◌, ◌-◌, ◌*◌, ◌≤◌, ◌<◌}
use mathlib.Core.Path.{◌≡◌, refl, sym, ap, ◌∙◌, subst}
use mathlib.Core.Bool.{true}
use mathlib.Core.List.{List, [], ◌∷◌, ◌++◌}
use native.Mathlib.Omega.{arith}
use native.Mathlib.Numerals.{add-one}
use native.Mathlib.Nat.{mul-le-mul_left, mul-suc}
use lib.ListN.{length, length-append}
use borrow.Author.Tests.{leb-true}
use Rattle.base.specs.Choice.{upd₂}
use Rattle.base.specs.declared.Sizes.{Sizes}
use Rattle.base.proofs.Choice.{all-at, upd₂-at, upd₂-same}
use Rattle.rules.specs.Message.{Msg, Send}
use Rattle.rules.specs.Cluster.{Channels, post, roomy}
use Rattle.rules.specs.Words.{slot_size, read_msg, tab}
use Rattle.ring.specs.declared.Rings.{Rings}
use Rattle.ring.specs.Queue.{cell, count, slot_no, longer, filled, chans, Chan, Pushed}
use Rattle.ring.proofs.Parts.{tab-snoc}
use Rattle.ring.proofs.Laws.{chan-count}
use Rattle.post.specs.Posts.{to_at, words_at, send_at, sends_at, rungs, ring_of, strewn, Ready, Posted}

pub post-snoc : (i : ℕ) (xs : List Send) (x : Send) (c : Channels) → post i (xs ++ (x ∷ [])) c ≡ upd₂ (post i xs c) i x.to (post i xs c i x.to ++ (x.msg ∷ []))
unfolding post
post-snoc i [] x c = refl
post-snoc i (y ∷ xs) x c = post-snoc i xs x (upd₂ c i y.to (c i y.to ++ (y.msg ∷ [])))

pub sends_snoc : (i H : ℕ) (o : List ℕ) (k : ℕ) (c : Channels)
    → post i (sends_at H o (k + 1)) c ≡ upd₂ (post i (sends_at H o k) c) i (to_at H o k) (post i (sends_at H o k) c i (to_at H o k) ++ (read_msg H (words_at H o k) ∷ []))
unfolding sends_at
sends_snoc i H o k c = ap (λ (xs : List Send). post i xs c) (tab-snoc k (send_at H o)) ∙ post-snoc i (tab k (send_at H o)) (send_at H o k) c

-- what waits only grows
one_more : (i H : ℕ) (o : List ℕ) (k : ℕ) (c : Channels) (f t : ℕ) → length (post i (sends_at H o k) c f t) ≤ length (post i (sends_at H o (k + 1)) c f t)
one_more i H o k c f t = rw (sends_snoc i H o k c)
    (upd₂-at (λ (x : List Msg). length (post i (sends_at H o k) c f t) ≤ length x) (post i (sends_at H o k) c) i (to_at H o k) (post i (sends_at H o k) c i (to_at H o k) ++ (read_msg H (words_at H o k) ∷ [])) f t
    (λ p q. rw (p, q) (omega (arith, length-append (post i (sends_at H o k) c i (to_at H o k)) (read_msg H (words_at H o k) ∷ []))))
    (λ _. omega arith))

more : (i H : ℕ) (o : List ℕ) (k d : ℕ) (c : Channels) (f t : ℕ) → length (post i (sends_at H o k) c f t) ≤ length (post i (sends_at H o (k + d)) c f t)
more i H o k zero c f t = let e : k + 0 ≡ k = omega arith in rw e (omega arith)
more i H o k (suc d) c f t =
    let e : k + suc d ≡ k + d + 1 = omega arith in
    let a = more i H o k d c f t in
    let b = one_more i H o (k + d) c f t in
    rw e (omega arith)

-- one more than wait now, within the depth
pub room_for : (z : Sizes) (depth : ℕ) (i k n : ℕ) (o : List ℕ) (c : Channels) → k < n → to_at z.room.0 o k < z.n → roomy z.n depth i (post i (sends_at z.room.0 o n) c) ≡ true
    → length (post i (sends_at z.room.0 o k) c i (to_at z.room.0 o k)) < depth
unfolding roomy
room_for z depth i k n o c l t e =
    let H = z.room.0 in
    let a : length (post i (sends_at z.room.0 o n) c i (to_at z.room.0 o k)) ≤ depth = leb-true _ _ (all-at z.n _ e (to_at z.room.0 o k) t) in
    let j : k + 1 + (n - (k + 1)) ≡ n = omega arith in
    let b : length (post i (sends_at z.room.0 o (k + 1)) c i (to_at z.room.0 o k)) ≤ length (post i (sends_at z.room.0 o n) c i (to_at z.room.0 o k))
    = subst (λ (m : ℕ). length (post i (sends_at z.room.0 o (k + 1)) c i (to_at z.room.0 o k)) ≤ length (post i (sends_at z.room.0 o m) c i (to_at z.room.0 o k))) j (more i z.room.0 o (k + 1) (n - (k + 1)) c i (to_at z.room.0 o k)) in
    let d : length (post i (sends_at z.room.0 o (k + 1)) c i (to_at z.room.0 o k)) ≡ suc (length (post i (sends_at z.room.0 o k) c i (to_at z.room.0 o k)))
    = rw (sends_snoc i z.room.0 o k c, upd₂-same (post i (sends_at z.room.0 o k) c) i (to_at z.room.0 o k) (post i (sends_at z.room.0 o k) c i (to_at z.room.0 o k) ++ (read_msg z.room.0 (words_at z.room.0 o k) ∷ [])))
    (length-append (post i (sends_at z.room.0 o k) c i (to_at z.room.0 o k)) (read_msg z.room.0 (words_at z.room.0 o k) ∷ []) ∙ omega arith) in
    omega arith

pub post-start : (z : Sizes) (depth : ℕ) (r : Rings) (q : List ℕ) (i : ℕ) (o : List ℕ) (n : ℕ) → Ready z depth r q i o n → Posted z depth r q i o 0 r q
unfolding rungs strewn sends_at post tab
post-start z depth r q i o n g = record { rings = refl; words = refl; chans = refl; good = g.good }

pub post-on : (z : Sizes) (depth : ℕ) (r s t : Rings) (q p w : List ℕ) (i : ℕ) (o : List ℕ) (k : ℕ) → Posted z depth r q i o k s p
    → Pushed z depth s p i (to_at z.room.0 o k) (words_at z.room.0 o k) t w → Posted z depth r q i o (k + 1) t w
unfolding rungs strewn
post-on z depth r s t q p w i o k a b =
    let e : rungs z r i o (k + 1) ≡ longer (ring_of z i o k) (rungs z r i o k) = ap (rungs z r i o) (add-one k) in
    let f : strewn z depth r q i o (k + 1) ≡ filled z.room.0 (strewn z depth r q i o k) (slot_no depth (rungs z r i o k) (ring_of z i o k) (count (rungs z r i o k) (ring_of z i o k))) (words_at z.room.0 o k)
    = ap (strewn z depth r q i o) (add-one k) in
    record {
      rings = b.rings ∙ ap (longer (ring_of z i o k)) a.rings ∙ sym e;
      words = b.words ∙ ap (λ (x : List ℕ). filled z.room.0 x (slot_no depth s (ring_of z i o k) (count s (ring_of z i o k))) (words_at z.room.0 o k)) a.words
          ∙ ap (λ (x : Rings). filled z.room.0 (strewn z depth r q i o k) (slot_no depth x (ring_of z i o k) (count x (ring_of z i o k))) (words_at z.room.0 o k)) a.rings ∙ sym f;
      chans = b.chans ∙ ap (λ (x : Channels). upd₂ x i (to_at z.room.0 o k) (x i (to_at z.room.0 o k) ++ (read_msg z.room.0 (words_at z.room.0 o k) ∷ []))) a.chans ∙ sym (sends_snoc i z.room.0 o k (chans z depth r q));
      good = b.good;
    }

pub post-end : (z : Sizes) (depth : ℕ) (r s : Rings) (q p : List ℕ) (i : ℕ) (o : List ℕ) (k n : ℕ) → k ≤ n → n ≤ k → Posted z depth r q i o k s p → Posted z depth r q i o n s p
post-end z depth r s q p i o k n a b l = let e : k ≡ n = omega arith in subst (λ (m : ℕ). Posted z depth r q i o m s p) e l

pub count_room : (z : Sizes) (depth : ℕ) (r s : Rings) (q p : List ℕ) (i : ℕ) (o : List ℕ) (k n : ℕ) → Ready z depth r q i o n → k < n → Posted z depth r q i o k s p
    → count s (cell z.n i (to_at z.room.0 o k)) < depth
count_room z depth r s q p i o k n g l a =
    let h : Chan z i (to_at z.room.0 o k) = record { sender = g.sender; receiver = g.to k l } in
    let b = room_for z depth i k n o (chans z depth r q) l (g.to k l) g.room in
    let c = chan-count z depth s p i (to_at z.room.0 o k) h in
    let d : length (chans z depth s p i (to_at z.room.0 o k)) ≡ length (post i (sends_at z.room.0 o k) (chans z depth r q) i (to_at z.room.0 o k))
    = ap (λ (x : Channels). length (x i (to_at z.room.0 o k))) a.chans in
    omega arith

-- slot k lies in the outbox
pub slot-box : (H k L : ℕ) → k < 6 → 6 * slot_size H ≤ L → slot_size H * k + slot_size H ≤ L
slot-box H k L h l =
    let a : slot_size H * suc k ≤ slot_size H * 6 = mul-le-mul_left (slot_size H) h in
    omega (arith, mul-suc (slot_size H) k)

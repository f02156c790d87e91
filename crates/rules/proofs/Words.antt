-- Laws of words and what they stand for.
use Prim.Native.Nat.{ℕ, zero, suc, ◌+◌, ◌-◌, ◌*◌, ◌≤◌, ◌<◌}
use mathlib.Core.Path.{◌≡◌, refl, sym, ap, ◌∙◌}
use mathlib.Core.Logic.{◌≢◌, ⊎_elim}
use mathlib.Core.Bool.{true, false}
use mathlib.Core.List.{List, [], ◌∷◌, ◌++◌, append_assoc}
use native.Mathlib.Omega.{arith}
use lib.Dec.{eqb, leb}
use lib.ListN.{length, take, drop, get_or, set, replicate, length-append, length-drop, take-append-drop, get_or-append, get_or-eq_default}
use lib.Seq.{take-suc, take_all, drop-drop, length-take-le, get_or-drop, get_or_at, get_or-set_same, get_or-set_other, sets, sets-eq, take_at, drop_at}
use borrow.Author.Tests.{eqb-true, leb-true, eq-eqb, ne_eqb, le-leb}
use borrow.Rule.Slice.PartMut.{put_mid}
use Rattle.base.specs.Choice.{pick, both, either, upd}
use Rattle.base.specs.Quorum.{nobody, just}
use Rattle.base.specs.Transaction.{Hist, last_id}
use Rattle.base.specs.declared.Txn.{Txn}
use Rattle.base.specs.declared.Sizes.{Sizes}
use Rattle.base.proofs.Choice.{both_true, both_yes, eq-or, le-or-lt, upd_same, upd_other, clash}
use Rattle.base.proofs.History.{last_snoc}
use Rattle.base.proofs.Good.{good-len}
use Rattle.rules.specs.declared.State.{State}
use Rattle.rules.specs.Message.{Msg, cepoch, newepoch, acke, newleader, ackld, commitld, propose, ack, commit, junk, Send, formed}
use Rattle.rules.specs.Server.{Server}
use Rattle.rules.specs.Tree.{to_all, only}
use Rattle.rules.proofs.Formed.{acke-says, newleader-says}
use Rattle.rules.specs.Words.{txns, txn_at, flat, zeros, all_zero, hist_words, msg_words, encode, second, laden, tidy, said, read_msg, server_with, server_of, tab, state_of, good_words, slot, slot_size, put, boxed}

-- ---- transactions

pub length-txns : (n : ℕ) (w : List ℕ) → length (txns n w) ≡ n
unfolding txns
length-txns zero w = refl
length-txns (suc n) w = ap suc (length-txns n (drop 2 w))

pub take-txns : (k n : ℕ) (w : List ℕ) → k ≤ n → take k (txns n w) ≡ txns k w
unfolding txns
take-txns zero n w h = refl
take-txns (suc k) zero w h = absurd (omega arith)
take-txns (suc k) (suc n) w h = ap (λ (z : Hist). txn_at w ∷ z) (take-txns k n (drop 2 w) (omega arith))

pub txns-snoc : (n : ℕ) (w : List ℕ) → txns (n + 1) w ≡ txns n w ++ (txn_at (drop (2 * n) w) ∷ [])
unfolding txns
txns-snoc zero w = refl
txns-snoc (suc n) w =
    let e : suc n + 1 ≡ suc (n + 1) = omega arith in
    let k : 2 + 2 * n ≡ 2 * suc n = omega arith in
    rw e (ap (λ (z : Hist). txn_at w ∷ z) (txns-snoc n (drop 2 w) ∙ ap (λ (z : List ℕ). txns n (drop 2 w) ++ (txn_at z ∷ [])) (drop-drop (2 * n) 2 w ∙ ap (λ (i : ℕ). drop i w) k)))

pub flat-txns : (n : ℕ) (w : List ℕ) → 2 * n ≤ length w → flat (txns n w) ≡ take (2 * n) w
unfolding txns flat
flat-txns zero w h = refl
flat-txns (suc n) [] h = absurd (omega arith)
flat-txns (suc n) (a ∷ []) h = absurd (omega arith)
flat-txns (suc n) (a ∷ b ∷ w) h =
    let e : 2 * suc n ≡ suc (suc (2 * n)) = omega arith in
    rw e (ap (λ (z : List ℕ). a ∷ b ∷ z) (flat-txns n w (omega arith)))

pub flat_append : (x y : Hist) → flat (x ++ y) ≡ flat x ++ flat y
unfolding flat
flat_append [] y = refl
flat_append (t ∷ x) y = ap (λ (z : List ℕ). t.id.0 ∷ t.val ∷ z) (flat_append x y)

pub length-flat : (x : Hist) → length (flat x) ≡ 2 * length x
unfolding flat
length-flat [] = refl
length-flat (t ∷ x) = omega (arith, length-flat x)

pub txns-flat : (h : Hist) (w : List ℕ) → txns (length h) (flat h ++ w) ≡ h
unfolding txns flat
txns-flat [] w = refl
txns-flat (t ∷ h) w = ap (λ (x : Hist). t ∷ x) (txns-flat h w)

-- the last identifier, in its word
pub last-at : (n : ℕ) (w : List ℕ) → n ≢ 0 → last_id (txns n w) ≡ get_or w (2 * (n - 1)) 0
last-at n w h =
    let e : n ≡ n - 1 + 1 = omega (arith, h) in
    let f : 2 * (n - 1) + 0 ≡ 2 * (n - 1) = omega arith in
    ap (λ (k : ℕ). last_id (txns k w)) e ∙ ap last_id (txns-snoc (n - 1) w) ∙ last_snoc (txns (n - 1) w) (txn_at (drop (2 * (n - 1)) w))
    ∙ get_or-drop (2 * (n - 1)) w 0 0 ∙ ap (λ (k : ℕ). get_or w k 0) f

-- ---- zeros

pub length-zeros : (n : ℕ) → length (zeros n) ≡ n
unfolding zeros
length-zeros zero = refl
length-zeros (suc n) = ap suc (length-zeros n)

pub zeros-zero : (n : ℕ) → all_zero (zeros n) ≡ true
unfolding zeros all_zero both
zeros-zero zero = refl
zeros-zero (suc n) = zeros-zero n

pub zero-words : (w : List ℕ) → all_zero w ≡ true → w ≡ zeros (length w)
unfolding all_zero zeros
zero-words [] e = refl
zero-words (x ∷ w) e =
    let b = both_true (eqb x 0) (all_zero w) e in
    let z : x ≡ 0 = eqb-true x 0 b.0 in
    rw z (ap (λ (l : List ℕ). 0 ∷ l) (zero-words w b.1))

-- ---- histories in their words

pub length-hist : (H : ℕ) (x : Hist) → length x ≤ H → length (hist_words H x) ≡ 2 * H
unfolding hist_words
length-hist H x h = length-append (flat x) (zeros (2 * (H - length x))) ∙ omega (arith, length-flat x, length-zeros (2 * (H - length x)))

-- words that are a history followed by zeros
pub as-hist : (H n : ℕ) (w : List ℕ) → n ≤ H → length w ≡ 2 * H → all_zero (drop (2 * n) w) ≡ true → hist_words H (txns n w) ≡ w
unfolding hist_words
as-hist H n w h l z =
    let k : length (drop (2 * n) w) ≡ 2 * (H - n) = omega (arith, length-drop (2 * n) w) in
    ap (λ (i : ℕ). flat (txns n w) ++ zeros (2 * (H - i))) (length-txns n w)
    ∙ ap (λ (x : List ℕ). x ++ zeros (2 * (H - n))) (flat-txns n w (omega arith))
    ∙ ap (λ (i : ℕ). take (2 * n) w ++ zeros i) (sym k)
    ∙ ap (λ (x : List ℕ). take (2 * n) w ++ x) (sym (zero-words (drop (2 * n) w) z))
    ∙ take-append-drop (2 * n) w

-- the first words of w, then zeros: another history
pub copied-hist : (H n : ℕ) (w : List ℕ) → n ≤ H → 2 * n ≤ length w → hist_words H (txns n w) ≡ take (2 * n) w ++ zeros (2 * H - 2 * n)
unfolding hist_words
copied-hist H n w h l =
    let k : 2 * (H - n) ≡ 2 * H - 2 * n = omega arith in
    ap (λ (i : ℕ). flat (txns n w) ++ zeros (2 * (H - i))) (length-txns n w)
    ∙ ap (λ (x : List ℕ). x ++ zeros (2 * (H - n))) (flat-txns n w l)
    ∙ ap (λ (i : ℕ). take (2 * n) w ++ zeros i) k

-- the same history whatever lies past it
pub txns-same : (n : ℕ) (w v : List ℕ) → 2 * n ≤ length w → 2 * n ≤ length v → take (2 * n) w ≡ take (2 * n) v → txns n w ≡ txns n v
unfolding txns
txns-same zero w v h k e = refl
txns-same (suc n) [] v h k e = absurd (omega arith)
txns-same (suc n) (a ∷ []) v h k e = absurd (omega arith)
txns-same (suc n) (a ∷ b ∷ w) [] h k e = absurd (omega arith)
txns-same (suc n) (a ∷ b ∷ w) (x ∷ []) h k e = absurd (omega arith)
txns-same (suc n) (a ∷ b ∷ w) (x ∷ y ∷ v) h k e =
    let q : 2 * suc n ≡ suc (suc (2 * n)) = omega arith in
    let f : a ∷ b ∷ take (2 * n) w ≡ x ∷ y ∷ take (2 * n) v = rw q at e in
    let g : take (2 * n) w ≡ take (2 * n) v = cc in
    let r : txns n w ≡ txns n v = txns-same n w v (omega arith) (omega arith) g in
    cc

-- what the words of a history say
pub words-good : (H n : ℕ) (w : List ℕ) → good_words H n w ≡ true → (length w ≡ 2 * H) × (n ≤ H) × (all_zero (drop (2 * n) w) ≡ true)
unfolding good_words
words-good H n w e =
    let a = both_true (eqb (length w) (2 * H)) _ e in
    let b = both_true (leb n H) (all_zero (drop (2 * n) w)) a.1 in
    (eqb-true _ _ a.0, leb-true _ _ b.0, b.1)

drop-flat : (h : Hist) (w : List ℕ) → drop (2 * length h) (flat h ++ w) ≡ w
drop-flat h w = drop_at (flat h) w (2 * length h) (length-flat h)

-- a history within the room is written to good words
pub hist-good : (H : ℕ) (h : Hist) → length h ≤ H → good_words H (length h) (hist_words H h) ≡ true
unfolding good_words hist_words
hist-good H h l = both_yes _ _ (eq-eqb _ _ (length-hist H h l))
    (both_yes _ _ (le-leb _ _ l) (ap all_zero (drop-flat h (zeros (2 * (H - length h)))) ∙ zeros-zero (2 * (H - length h))))

-- ---- tables of a function's values

module _ {A : Type 0} where
  get_set_at : (xs : List A) (d : A) (f : ℕ) (v : A) → f < length xs → (i : ℕ) → get_or (set xs f v) i d ≡ upd (λ (k : ℕ). get_or xs k d) f v i
  get_set_at xs d f v h i = ⊎_elim
      (λ (e : i ≡ f). rw e (get_or-set_same xs f v d h ∙ sym (upd_same (λ (k : ℕ). get_or xs k d) f v)))
      (λ (n : i ≢ f). get_or-set_other xs f i v d n ∙ sym (upd_other (λ (k : ℕ). get_or xs k d) f v i n))
      (eq-or i f)

  -- a store into an array is a change of the function that it stands for
  pub get_set : (xs : List A) (d : A) (f : ℕ) (v : A) → f < length xs → ◌≡◌ {A = ℕ → A} (λ k. get_or (set xs f v) k d) (upd (λ (k : ℕ). get_or xs k d) f v)
  get_set xs d f v h = λ j i. get_set_at xs d f v h i j

  tab-take : (n : ℕ) (xs : List A) (d : A) → n ≤ length xs → tab n (λ (k : ℕ). get_or xs k d) ≡ take n xs
  unfolding tab
  tab-take zero xs d h = refl
  tab-take (suc n) xs d h = ap (λ (z : List A). z ++ (get_or xs n d ∷ [])) (tab-take n xs d (omega arith)) ∙ sym (take-suc xs n d h)

  pub tab-get : (n : ℕ) (xs : List A) (d : A) → length xs ≡ n → tab n (λ (k : ℕ). get_or xs k d) ≡ xs
  tab-get n xs d h = tab-take n xs d (omega arith) ∙ take_all n xs (omega arith)

  pub length-tab : (n : ℕ) (f : ℕ → A) → length (tab n f) ≡ n
  unfolding tab
  length-tab zero f = refl
  length-tab (suc n) f = omega (arith, length-append (tab n f) (f n ∷ []), length-tab n f)

  pub get-tab : (n : ℕ) (f : ℕ → A) (d : A) (i : ℕ) → i < n → get_or (tab n f) i d ≡ f i
  unfolding tab
  get-tab zero f d i h = absurd (omega arith)
  get-tab (suc n) f d i h = ⊎_elim
      (λ (e : i ≡ n). rw e (get_or_at (tab n f) (f n) [] d n (length-tab n f)))
      (λ (b : i ≢ n). get_or-append (tab n f) (f n ∷ []) d i (omega (arith, length-tab n f)) ∙ get-tab n f d i (omega arith))
      (eq-or i n)

  pub tab-back : (n : ℕ) (f : ℕ → A) (d : A) → ((i : ℕ) → n ≤ i → f i ≡ d) → ◌≡◌ {A = ℕ → A} (λ i. get_or (tab n f) i d) f
  tab-back n f d z = λ j i. at i j
    where
      at : (i : ℕ) → get_or (tab n f) i d ≡ f i
      at i = ⊎_elim (λ (p : n ≤ i). get_or-eq_default (tab n f) d {n = i} (omega (arith, length-tab n f)) ∙ sym (z i p)) (λ (p : i < n). get-tab n f d i p) (le-or-lt n i)

-- ---- the record

-- a record with its arrays is written back as it was
pub state-back : (t : State) (h k : Hist) → length h ≡ t.len.0 → length k ≡ t.cand_len.0
    → length t.joined ≡ 7 → length t.acked ≡ 7 → length t.synced ≡ 7 → length t.counts ≡ 7 → state_of t.me (server_with t h k) ≡ t
unfolding state_of
state-back t h k l1 l2 a b c d =
    rw (l1, l2, tab-get 7 t.joined false a, tab-get 7 t.acked false b, tab-get 7 t.synced false c, tab-get 7 t.counts 0 d)

-- a server whose sets and counts end at seven is read back as it was
pub server-back : (i : ℕ) (s : Server) (H : ℕ) → ((j : ℕ) → 7 ≤ j → s.vol.joined j ≡ false) → ((j : ℕ) → 7 ≤ j → s.vol.acked j ≡ false) → ((j : ℕ) → 7 ≤ j → s.vol.synced j ≡ false)
    → ((j : ℕ) → 7 ≤ j → s.vol.counts j ≡ 0) → server_of (state_of i s) (hist_words H s.dur.hist) (hist_words H s.vol.cand_hist) ≡ s
unfolding state_of hist_words
server-back i s H a b c d =
    rw (
      txns-flat s.dur.hist (zeros (2 * (H - length s.dur.hist))),
      txns-flat s.vol.cand_hist (zeros (2 * (H - length s.vol.cand_hist))),
      tab-back 7 s.vol.joined false a,
      tab-back 7 s.vol.acked false b,
      tab-back 7 s.vol.synced false c,
      tab-back 7 s.vol.counts 0 d,
    )

-- ---- zeros

pub zero-at : (n i : ℕ) → ◌≡◌ {A = ℕ} (get_or (replicate n 0) i 0) 0
zero-at zero i = refl
zero-at (suc n) zero = refl
zero-at (suc n) (suc i) = zero-at n i

-- ---- words put into words

-- stores one after the other
pub put-sets : (q ws : List ℕ) (k : ℕ) → k + length ws ≤ length q → sets q k ws ≡ put q k ws
unfolding put
put-sets q ws k h = sets-eq ws q k h

pub length-put : (q ws : List ℕ) (k : ℕ) → k + length ws ≤ length q → length (put q k ws) ≡ length q
unfolding put
length-put q ws k h = simp (length-append, length-take-le k q (omega arith), length-drop) (omega arith)

pub put-put : (q a b : List ℕ) (at : ℕ) → at ≤ length q → put (put q at a) (at + length a) b ≡ put q at (a ++ b)
unfolding put
put-put q a b at h =
    let n = at + length a in
    let p = take at q ++ a in
    let rest = drop n q in
    let len : length p ≡ n = simp (length-append, length-take-le at q h) in
    let num : n + length b ≡ at + length (a ++ b) = simp length-append (omega arith) in
    let e1 : take n (p ++ rest) ≡ p = take_at p rest n len in
    let e2 : drop (n + length b) (p ++ rest) ≡ drop (at + length (a ++ b)) q =
    sym (drop-drop (length b) n (p ++ rest)) ∙ (ap (drop (length b)) (drop_at p rest n len) ∙ (drop-drop (length b) n q ∙ ap (λ (k : ℕ). drop k q) num)) in
    (λ i. e1 i ++ b ++ e2 i) ∙ ap (λ (x : List ℕ). x ++ drop (at + length (a ++ b)) q) (append_assoc (take at q) a b)

-- a callee was lent the k words from a on, and left ys there
pub mid-put : (a k : ℕ) (xs ys : List ℕ) → length ys ≡ k → put_mid a k xs ys ≡ put xs a ys
unfolding put
mid-put a k xs ys e = rw (← e)
    (ap (λ (z : List ℕ). take a xs ++ (ys ++ z)) (drop-drop (length ys) a xs) ∙ sym (append_assoc (take a xs) ys (drop (a + length ys) xs)))

-- ---- the outbox

pub boxed-snoc : (H : ℕ) (o : List ℕ) (k : ℕ) (xs : List Send) (x : Send) → boxed H o k (xs ++ (x ∷ [])) ≡ put (boxed H o k xs) (slot_size H * (k + length xs)) (slot H x)
unfolding boxed
boxed-snoc H o k [] x = let e : k ≡ k + 0 = omega arith in ap (λ (i : ℕ). put o (slot_size H * i) (slot H x)) e
boxed-snoc H o k (y ∷ xs) x =
    let e : suc k + length xs ≡ k + suc (length xs) = omega arith in
    boxed-snoc H (put o (slot_size H * k) (slot H y)) (suc k) xs x
    ∙ ap (λ (i : ℕ). put (boxed H (put o (slot_size H * k) (slot H y)) (suc k) xs) (slot_size H * i) (slot H x)) e

pub boxed-append : (H : ℕ) (o : List ℕ) (k : ℕ) (xs ys : List Send) → boxed H o k (xs ++ ys) ≡ boxed H (boxed H o k xs) (k + length xs) ys
unfolding boxed
boxed-append H o k [] ys = let e : k ≡ k + 0 = omega arith in ap (λ (i : ℕ). boxed H o i ys) e
boxed-append H o k (x ∷ xs) ys =
    let e : suc k + length xs ≡ k + suc (length xs) = omega arith in
    boxed-append H (put o (slot_size H * k) (slot H x)) (suc k) xs ys
    ∙ ap (λ (i : ℕ). boxed H (boxed H (put o (slot_size H * k) (slot H x)) (suc k) xs) i ys) e

-- ---- to all, to one, to none

pub all_none : (n i : ℕ) (m : Msg) → to_all n i nobody m ≡ []
unfolding to_all both pick
all_none zero i m = refl
all_none (suc n) i m = rw (all_none n i m)

all_past : (n i f : ℕ) (m : Msg) → n ≤ f → to_all n i (just f) m ≡ []
unfolding to_all both pick just
all_past zero i f m h = refl
all_past (suc n) i f m h = let x : n ≢ f = λ e. omega arith in rw (upd_other nobody f true n x, all_past n i f m (omega arith))

pub all-just : (n i f : ℕ) (m : Msg) → f < n → f ≢ i → to_all n i (just f) m ≡ only f m
unfolding to_all both pick just
all-just zero i f m h x = absurd (omega arith)
all-just (suc n) i f m h x = ⊎_elim
    (λ (e : n ≡ f). rw (e, upd_same nobody f true, ne_eqb f i x, all_past f i f m (omega arith)))
    (λ (y : n ≢ f). rw (upd_other nobody f true n y) (rw (all-just n i f m (omega arith) x)))
    (eq-or n f)

-- ---- a message written is read back

module _ (z : Sizes) where
  zero-past : (h : Hist) → all_zero (drop (2 * length h) (hist_words z.room.0 h)) ≡ true
  unfolding hist_words
  zero-past h = ap all_zero (drop-flat h (zeros (2 * (z.room.0 - length h)))) ∙ zeros-zero (2 * (z.room.0 - length h))

  read_history : (h : Hist) → txns (length h) (hist_words z.room.0 h) ≡ h
  unfolding hist_words
  read_history h = txns-flat h (zeros (2 * (z.room.0 - length h)))

  read-txn : (t : Txn) → txn_at (hist_words z.room.0 (t ∷ [])) ≡ t
  unfolding hist_words flat
  read-txn t = refl

  -- the tail of a message: its transactions lie from word 4 on, and zeros past them
  tail : (k e x : ℕ) (h : Hist) → all_zero (drop (4 + 2 * length h) (msg_words z.room.0 k e x h)) ≡ true
  tail k e x h = let q : 4 + 2 * length h ≡ suc (suc (suc (suc (2 * length h)))) = omega arith in rw q (zero-past h)

  pub read_back : 1 ≤ z.room.0 → (m : Msg) → formed z m ≡ true → read_msg z.room.0 (encode z.room.0 m) ≡ m
  unfolding read_msg encode said formed both either pick second laden tidy
  read_back some (cepoch p) f = rw (le-leb 0 z.room.0 (omega arith), zero-past [])
  read_back some (newepoch e) f = rw (le-leb 0 z.room.0 (omega arith), zero-past [])
  read_back some (acke e a h) f =
      rw (le-leb (length h) z.room.0 (good-len z.room.0 a h (acke-says z e a h f).1), tail 3 e a h, read_history h)
  read_back some (newleader e h) f =
      rw (le-leb (length h) z.room.0 (good-len z.room.0 e h (newleader-says z e h f)), tail 4 e 0 h, read_history h)
  read_back some (ackld e c) f = rw (le-leb 0 z.room.0 (omega arith), zero-past [])
  read_back some (commitld e c) f = rw (le-leb 0 z.room.0 (omega arith), zero-past [])
  read_back some (propose e k t) f = rw (le-leb 1 z.room.0 some, tail 7 e k (t ∷ [])) (ap (propose e k) (read-txn t))
  read_back some (ack e k) f = rw (le-leb 0 z.room.0 (omega arith), zero-past [])
  read_back some (commit e c) f = rw (le-leb 0 z.room.0 (omega arith), zero-past [])
  read_back some junk f = clash f refl

-- One law for each return of the hands.
use Prim.Native.Nat.{ℕ, zero, suc, ◌+◌, ◌-◌, ◌*◌, ◌≤◌, ◌<◌}
use mathlib.Core.Path.{◌≡◌, refl, sym, ap, subst, ◌∙◌}
use mathlib.Core.Logic.{◌≢◌, ⊎_elim}
use mathlib.Core.Bool.{Bool, true, false, not}
use mathlib.Core.List.{List, [], ◌∷◌, ◌++◌, append-nil, append_assoc}
use native.Mathlib.Omega.{arith}
use native.Mathlib.Numerals.{add-one}
use native.Mathlib.Nat.{mul-le-mul_left, mul-suc}
use lib.Dec.{eqb, leb}
use lib.ListN.{length, take, drop, set, length-append, length-drop}
use lib.Seq.{length-take-le, take-append_seam, take-take, drop-drop}
use borrow.Author.Tests.{eqb-true, leb-true, eq-eqb, ne_eqb}
use borrow.Rule.Slice.PartMut.{put_mid}
use Rattle.base.specs.Choice.{pick, both, either}
use Rattle.base.specs.Quorum.{Set, weight}
use Rattle.base.specs.Transaction.{Hist}
use Rattle.base.specs.declared.Txn.{Txn}
use Rattle.base.specs.declared.Sizes.{Sizes}
use Rattle.base.proofs.Choice.{clash, eq-or, both_true, both-no, both_yes, pick_at, tests}
use Rattle.rules.specs.Message.{Msg, Send}
use Rattle.rules.specs.Tree.{to_all}
use Rattle.rules.specs.Words.{txns, flat, zeros, all_zero, hist_words, msg_words, encode, has, slot_size, put, boxed}
use Rattle.rules.proofs.Words.{length-txns, txns-flat, length-hist, zero-words, flat_append, flat-txns, as-hist, copied-hist, mid-put, put-sets, boxed-snoc, boxed-append}
use Rattle.plan.specs.declared.Cast.{Cast}
use Rattle.plan.specs.declared.Plan.{Plan}
use Rattle.plan.specs.Plans.{fine, decode, load, cast_of, sends, hist_from, cand_from, hist_of}
use Rattle.hands.specs.Hands.{HistReady, CandReady, other, others, Slots, Sent, Spread, Boxed, CastReady, Ready, Performed}

-- ---- words copied to a place, and zeros after them

pub filled : (d s r w : List ℕ) (at n len : ℕ) → at + n ≤ length d → n ≤ length s → len ≡ n → r ≡ take n s → w ≡ take (at + n) (put_mid at len d r) ++ zeros (length (put_mid at len d r) - (at + n))
    → w ≡ take at d ++ (take n s ++ zeros (length d - (at + n)))
unfolding put
filled d s r w at n len h k j e f =
    let l : length r ≡ n = ap length e ∙ length-take-le n s k in
    let x = take at d ++ r in
    let y = drop (at + length r) d in
    let p : put_mid at len d r ≡ x ++ y = mid-put at len d r (l ∙ sym j) in
    let q : length x ≡ at + n = length-append (take at d) r ∙ omega (arith, l, length-take-le at d (omega arith)) in
    let t : take (at + n) (x ++ y) ≡ x = subst (λ (i : ℕ). take i (x ++ y) ≡ x) q (take-append_seam x y) in
    let u : length (x ++ y) ≡ length d = length-append x y ∙ omega (arith, q, l, length-drop (at + length r) d) in
    f ∙ rw (p, t, u, e, append_assoc)

-- ---- a slot

pub slot-put : (out s : List ℕ) (room n len l at to kind e x : ℕ) (src : List ℕ) → n ≤ room → 2 * n ≤ length src → len ≡ slot_size room → l ≡ slot_size room
    → s ≡ to ∷ kind ∷ e ∷ x ∷ n ∷ (take (2 * n) src ++ zeros (l - (5 + 2 * n))) → put_mid at len out s ≡ put out at (to ∷ msg_words room kind e x (txns n src))
slot-put out s room n len l at to kind e x src h i j k q =
    let w : l - (5 + 2 * n) ≡ 2 * room - 2 * n = omega arith in
    let y : s ≡ to ∷ msg_words room kind e x (txns n src) = q ∙ rw (w, ← copied-hist room n src h i, length-txns n src) in
    let g : length (txns n src) ≤ room = omega (arith, length-txns n src) in
    let m : length s ≡ len = ap length y ∙ omega (arith, length-hist room (txns n src) g) in
    mid-put at len out s m ∙ ap (put out at) y

-- ---- one of a cast

pub not-self : (i me : ℕ) (q : Set) → i ≡ me → other me q i ≡ false
unfolding other
not-self i me q e = both-no (q i) _ (ap not (eq-eqb i me e))

pub not_in : (i me : ℕ) (q : Set) → q i ≡ false → other me q i ≡ false
unfolding other both
not_in i me q e = rw e

is-other : (i me : ℕ) (q : Set) → i ≢ me → q i ≡ true → other me q i ≡ true
unfolding other
is-other i me q n e = both_yes (q i) _ e (ap not (ne_eqb i me n))

fits_in : (S k L : ℕ) → k + 1 ≤ 6 → 6 * S ≤ L → S * k + S ≤ L
fits_in S k L h l = let a : S * suc k ≤ S * 6 = mul-le-mul_left S (omega arith) in omega (arith, mul-suc S k, a)

module _ (H : ℕ) (o : List ℕ) (k i me : ℕ) (q : Set) (ws : List ℕ) where
  pub to-self : i ≡ me → Sent H o k (other me q i) ws o k
  unfolding pick
  to-self e = rw (not-self i me q e) (record { box = refl; count = omega arith })

  pub to_none : q i ≡ false → Sent H o k (other me q i) ws o k
  unfolding pick
  to_none e = rw (not_in i me q e) (record { box = refl; count = omega arith })

  pub to_one : (o' : List ℕ) → i ≢ me → q i ≡ true → o' ≡ put o ((5 + 2 * H) * k) ws → Sent H o k (other me q i) ws o' (k + 1)
  unfolding pick
  to_one o' n e p = let u : 5 + 2 * H ≡ slot_size H = omega arith in rw (is-other i me q n e) (record { box = p ∙ rw u; count = refl })

  -- slot k lies in the outbox
  pub slot-in : i ≢ me → q i ≡ true → Slots H k (pick (other me q i) 1 0) o → (5 + 2 * H) * k + slot_size H ≤ length o
  unfolding pick
  slot-in n e s =
      let u : 5 + 2 * H ≡ slot_size H = omega arith in
      let f : k + 1 ≤ 6 = rw (is-other i me q n e) at s.few in
      rw u (fits_in (slot_size H) k (length o) f s.words)

-- ---- a cast to all others of a set

one-or-none : (b : Bool) (x : Send) → length (pick b (x ∷ []) []) ≡ pick b 1 0
unfolding pick
one-or-none true x = refl
one-or-none false x = refl

pub length-all : (n me : ℕ) (q : Set) (m : Msg) → length (to_all n me q m) ≡ others n me q
unfolding to_all weight other
length-all zero me q m = refl
length-all (suc n) me q m =
    length-append (to_all n me q m) _ ∙ omega (arith, length-all n me q m, one-or-none (other me q n) (record { to = n; msg = m }))

others-up : (n i me : ℕ) (q : Set) → i ≤ n → others i me q ≤ others n me q
unfolding weight
others-up zero i me q h = let e : i ≡ 0 = omega arith in rw e (omega arith)
others-up (suc n) i me q h = ⊎_elim
    (λ (e : i ≡ suc n). rw e (omega arith))
    (λ (e : i ≢ suc n). omega (arith, others-up n i me q (omega arith)))
    (eq-or i (suc n))

-- what a turn asks
pub slots-on : (H k₀ k n i me : ℕ) (q : Set) (o₀ o : List ℕ) → Slots H k₀ (others n me q) o₀ → i < n → k ≡ k₀ + others i me q → length o ≡ length o₀ → Slots H k (pick (other me q i) 1 0) o
unfolding weight
slots-on H k₀ k n i me q o₀ o s h e l =
    let u : others (suc i) me q ≤ others n me q = others-up n (suc i) me q (omega arith) in
    record { most = s.most; words = omega (arith, s.words); few = omega (arith, s.few, u) }

module _ (H : ℕ) (o₀ : List ℕ) (k₀ me : ℕ) (q : Set) (ws : List ℕ) where
  pub spread-start : Spread H o₀ k₀ 0 me q ws o₀ k₀
  unfolding to_all boxed weight
  spread-start = record { box = λ m e. refl; count = omega arith }

  box-on : (i k : ℕ) (o o' : List ℕ) (m : Msg) (b : Bool) → encode H m ≡ ws → o ≡ boxed H o₀ k₀ (to_all i me q m) → k ≡ k₀ + others i me q
      → o' ≡ pick b (put o (slot_size H * k) (i ∷ ws)) o → o' ≡ boxed H o₀ k₀ (to_all i me q m ++ pick b (record { to = i; msg = m } ∷ []) [])
  unfolding pick
  box-on i k o o' m true e p f g =
      let l : k ≡ k₀ + length (to_all i me q m) = omega (arith, f, length-all i me q m) in
      g ∙ rw (p, l, ← e) (sym (boxed-snoc H o₀ k₀ (to_all i me q m) (record { to = i; msg = m })))
  box-on i k o o' m false e p f g = g ∙ rw p (ap (boxed H o₀ k₀) (sym (append-nil (to_all i me q m))))

  pub spread-on : (i k k' : ℕ) (o o' : List ℕ) → Spread H o₀ k₀ i me q ws o k → Sent H o k (other me q i) (i ∷ ws) o' k' → Spread H o₀ k₀ (i + 1) me q ws o' k'
  unfolding to_all weight other
  spread-on i k k' o o' s t = rw (add-one i) (record {
    box = λ m e. box-on i k o o' m (other me q i) e (s.box m e) s.count t.box;
    count = omega (arith, s.count, t.count);
  })

  pub spread_end : (i n k : ℕ) (o : List ℕ) → i ≤ n → n ≤ i → Spread H o₀ k₀ i me q ws o k → Spread H o₀ k₀ n me q ws o k
  spread_end i n k o a b s = let e : i ≡ n = omega arith in rw e at s

-- ---- the load of a cast

nine : (kind x : ℕ) → fine kind x ≡ true → kind ≤ 9
unfolding fine
nine kind x f = let a = both_true (leb 1 kind) _ f in leb-true kind 9 (both_true (leb kind 9) _ a.1).0

pub encoded : (H kind e x : ℕ) (h : Hist) (t : Txn) → fine kind x ≡ true → encode H (decode kind e x h t) ≡ msg_words H kind e x (load kind h t)
unfolding encode decode fine load pick either both
encoded H zero e x h t f = clash f refl
encoded H (suc zero) e x h t f = let z : x ≡ 0 = eqb-true x 0 f in rw z
encoded H (suc (suc zero)) e x h t f = let z : x ≡ 0 = eqb-true x 0 f in rw z
encoded H (suc (suc (suc zero))) e x h t f = refl
encoded H (suc (suc (suc (suc zero)))) e x h t f = let z : x ≡ 0 = eqb-true x 0 f in rw z
encoded H (suc (suc (suc (suc (suc zero))))) e x h t f = refl
encoded H (suc (suc (suc (suc (suc (suc zero)))))) e x h t f = refl
encoded H (suc (suc (suc (suc (suc (suc (suc zero))))))) e x h t f = refl
encoded H (suc (suc (suc (suc (suc (suc (suc (suc zero)))))))) e x h t f = refl
encoded H (suc (suc (suc (suc (suc (suc (suc (suc (suc zero))))))))) e x h t f = refl
encoded H (suc (suc (suc (suc (suc (suc (suc (suc (suc (suc k)))))))))) e x h t f = absurd (omega (arith, nine (suc (suc (suc (suc (suc (suc (suc (suc (suc (suc k)))))))))) x f))

module _ (z : Sizes) (o o' : List ℕ) (k k' me : ℕ) (c : Cast) (h : List ℕ) (len : ℕ) (t : Txn) (r : CastReady z k me c h len o) where
  laden : (l : Hist) → load c.kind (txns len h) t ≡ l → Spread z.room.0 o k z.n me (has c.to) (msg_words z.room.0 c.kind c.e.0 c.x.0 l) o' k'
      → Boxed z.room.0 o k (cast_of z.n me c (txns len h) t) o' k'
  unfolding cast_of
  laden l e s =
      let m = decode c.kind c.e.0 c.x.0 (txns len h) t in
      record {
        box = s.box m (encoded z.room.0 c.kind c.e.0 c.x.0 (txns len h) t r.kind ∙ rw e);
        count = s.count ∙ ap (λ (i : ℕ). k + i) (sym (length-all z.n me (has c.to) m));
      }

  pub with-hist : 3 ≤ c.kind → c.kind ≤ 4 → Spread z.room.0 o k z.n me (has c.to) (msg_words z.room.0 c.kind c.e.0 c.x.0 (txns len h)) o' k'
      → Boxed z.room.0 o k (cast_of z.n me c (txns len h) t) o' k'
  unfolding load pick either
  with-hist a b s = laden (txns len h) (⊎_elim
      (λ (e : c.kind ≡ 3). rw e)
      (λ (n : c.kind ≢ 3). let e : c.kind ≡ 4 = omega arith in rw e)
      (eq-or c.kind 3)) s

  pub with-txn : c.kind ≡ 7 → Spread z.room.0 o k z.n me (has c.to) (msg_words z.room.0 c.kind c.e.0 c.x.0 (txns 1 (t.id.0 ∷ t.val ∷ []))) o' k'
      → Boxed z.room.0 o k (cast_of z.n me c (txns len h) t) o' k'
  unfolding load pick either txns
  with-txn e s = laden (t ∷ []) (rw e) s

  pub with_none : c.kind ≢ 3 → c.kind ≢ 4 → c.kind ≢ 7 → Spread z.room.0 o k z.n me (has c.to) (msg_words z.room.0 c.kind c.e.0 c.x.0 (txns 0 h)) o' k'
      → Boxed z.room.0 o k (cast_of z.n me c (txns len h) t) o' k'
  unfolding load pick either txns
  with_none a b e s = laden [] (rw (ne_eqb c.kind 3 a, ne_eqb c.kind 4 b, ne_eqb c.kind 7 e)) s

-- ---- the history after a step

drop-zeros : (n : ℕ) → drop 2 (zeros (n + 2)) ≡ zeros n
unfolding zeros
drop-zeros n = let e : n + 2 ≡ suc (suc n) = omega arith in rw e

appended : (H l : ℕ) (h : List ℕ) (t : Txn) → length h ≡ 2 * H → l < H → all_zero (drop (2 * l) h) ≡ true → put h (2 * l) (t.id.0 ∷ t.val ∷ []) ≡ hist_words H (txns l h ++ (t ∷ []))
unfolding put hist_words flat
appended H l h t e q z =
    let r : 2 * H - 2 * l ≡ 2 * (H - (l + 1)) + 2 = omega arith in
    let a : drop (2 * l) h ≡ zeros (2 * (H - (l + 1)) + 2) = zero-words (drop (2 * l) h) z ∙ ap zeros (length-drop (2 * l) h ∙ rw e r) in
    let b : drop (2 * l + 2) h ≡ zeros (2 * (H - (l + 1))) = sym (drop-drop 2 (2 * l) h) ∙ ap (drop 2) a ∙ drop-zeros (2 * (H - (l + 1))) in
    let c : length (txns l h ++ (t ∷ [])) ≡ l + 1 = length-append (txns l h) (t ∷ []) ∙ rw (length-txns l h) in
    rw (b, c, flat_append (txns l h) (t ∷ []), flat-txns l h (omega arith))

module _ (H from len : ℕ) (t : Txn) (h k m : List ℕ) (r : HistReady H from len h k m) where
  pub hist-stays : from ≡ 0 → h ≡ hist_words H (hist_from from len t h k m)
  unfolding hist_from pick
  hist-stays z = rw z (sym (as-hist H len h r.fits r.words (r.stays z)))

  pub hist-told : (h' : List ℕ) → from ≡ 1 → h' ≡ take (2 * len) m ++ zeros (length h - 2 * len) → h' ≡ hist_words H (hist_from from len t h k m)
  unfolding hist_from pick
  hist-told h' z q = q ∙ rw (r.words, ← copied-hist H len m r.fits (r.told z), z)

  pub hist-chosen : (h' : List ℕ) → from ≡ 2 → h' ≡ take (2 * len) k ++ zeros (length h - 2 * len) → h' ≡ hist_words H (hist_from from len t h k m)
  unfolding hist_from pick
  hist-chosen h' z q = q ∙ rw (r.words, ← copied-hist H len k r.fits (r.chosen z), z)

  pub hist-longer : from ≡ 3 → set (set h (2 * len - 2) t.id.0) (2 * len - 1) t.val ≡ hist_words H (hist_from from len t h k m)
  unfolding hist_from pick
  hist-longer z =
      let i : 1 ≤ len = r.some z in
      let f : len ≤ H = r.fits in
      let e : length h ≡ 2 * H = r.words in
      let p : 2 * len - 2 ≡ 2 * (len - 1) = omega arith in
      let q : 2 * len - 1 ≡ suc (2 * (len - 1)) = omega arith in
      rw (p, q, z)
      (put-sets h (t.id.0 ∷ t.val ∷ []) (2 * (len - 1)) (omega arith) ∙ appended H (len - 1) h t e (omega arith) (r.free z))

-- ---- the candidate after a step

zeros-append : (a b : ℕ) → zeros a ++ zeros b ≡ zeros (a + b)
unfolding zeros
zeros-append zero b = let e : 0 + b ≡ b = omega arith in rw e
zeros-append (suc a) b = let e : suc a + b ≡ suc (a + b) = omega arith in rw e (ap (λ (x : List ℕ). 0 ∷ x) (zeros-append a b))

module _ (H from len old : ℕ) (h k m : List ℕ) (r : CandReady H from len old h k m) where
  -- the words of the transactions from len to old are cleared
  pub cand-cut : (ys : List ℕ) → from ≡ 0 → ys ≡ take (2 * len) (take (2 * old) k) ++ zeros (length (take (2 * old) k) - 2 * len) → ys ++ drop (2 * old) k ≡ hist_words H (cand_from from len h k m)
  unfolding cand_from pick
  cand-cut ys z q =
      let a : len ≤ old = r.stays z in
      let d : old ≤ H = r.held in
      let e : length k ≡ 2 * H = r.words in
      let u : 2 * old - 2 * len + (2 * H - 2 * old) ≡ 2 * H - 2 * len = omega arith in
      let w : drop (2 * old) k ≡ zeros (2 * H - 2 * old) = zero-words (drop (2 * old) k) (r.free z) ∙ ap zeros (length-drop (2 * old) k ∙ rw e) in
      rw (q, w, take-take (2 * len) (2 * old) k (omega arith), length-take-le (2 * old) k (omega arith), append_assoc, zeros-append (2 * old - 2 * len) (2 * H - 2 * old), u, z)
      (sym (copied-hist H len k r.fits (omega arith)))

  pub cand-told : (k' : List ℕ) → from ≡ 1 → k' ≡ take (2 * len) m ++ zeros (length k - 2 * len) → k' ≡ hist_words H (cand_from from len h k m)
  unfolding cand_from pick
  cand-told k' z q = q ∙ rw (r.words, ← copied-hist H len m r.fits (r.told z), z)

  pub cand-copied : (k' : List ℕ) → from ≡ 2 → k' ≡ take (2 * len) h ++ zeros (length k - 2 * len) → k' ≡ hist_words H (cand_from from len h k m)
  unfolding cand_from pick
  cand-copied k' z q = q ∙ rw (r.words, ← copied-hist H len h r.fits (r.copied z), z)

-- ---- the whole

length_from : (H from len : ℕ) (t : Txn) (h k m : List ℕ) → HistReady H from len h k m → length (hist_from from len t h k m) ≡ len
unfolding hist_from
length_from H from len t h k m r =
    pick_at (λ (x : Hist). length x ≡ len) (eqb from 0) _ _ (λ _. length-txns len h) (λ a.
    pick_at (λ (x : Hist). length x ≡ len) (eqb from 1) _ _ (λ _. length-txns len m) (λ b.
    pick_at (λ (x : Hist). length x ≡ len) (eqb from 2) _ _ (λ _. length-txns len k) (λ c.
    let d : from ≡ 3 = omega (tests, r.known, a, b, c) in
    length-append (txns (len - 1) h) (t ∷ []) ∙ omega (arith, length-txns (len - 1) h, r.some d))))

-- the transactions of the words that were written
read_back : (H n : ℕ) (x : Hist) (w : List ℕ) → length x ≡ n → w ≡ hist_words H x → txns n w ≡ x
unfolding hist_words
read_back H n x w l e = rw (e, ← l) (txns-flat x (zeros (2 * (H - length x))))

cand-same : (from len : ℕ) (h h' k m : List ℕ) → from ≤ 2 → (from ≡ 2 → h' ≡ h) → cand_from from len h' k m ≡ cand_from from len h k m
unfolding cand_from pick
cand-same from len h h' k m b f = ⊎_elim
    (λ (q : from ≡ 0). rw (eq-eqb from 0 q))
    (λ (y : from ≢ 0). ⊎_elim
    (λ (q : from ≡ 1). rw (ne_eqb from 0 y, eq-eqb from 1 q))
    (λ (w : from ≢ 1). let q : from ≡ 2 = omega (arith, b, y, w) in rw (f q))
    (eq-or from 1))
    (eq-or from 0)

length-cast : (n me : ℕ) (c : Cast) (x : Hist) (t : Txn) → length (cast_of n me c x t) ≡ others n me (has c.to)
unfolding cast_of
length-cast n me c x t = length-all n me (has c.to) (decode c.kind c.e.0 c.x.0 x t)

pub length-sends : (z : Sizes) (r : Plan) (x : Hist) → length (sends z r x) ≡ others z.n r.state.me (has r.one.to) + others z.n r.state.me (has r.two.to)
unfolding sends
length-sends z r x =
    length-append (cast_of z.n r.state.me r.one x r.txn) (cast_of z.n r.state.me r.two x r.txn)
    ∙ rw (length-cast z.n r.state.me r.one x r.txn, length-cast z.n r.state.me r.two x r.txn)

-- two casts one after the other
two-casts : (H : ℕ) (o o₁ o₂ : List ℕ) (n₁ n₂ : ℕ) (xs ys : List Send) → Boxed H o 0 xs o₁ n₁ → Boxed H o₁ n₁ ys o₂ n₂ → (o₂ ≡ boxed H o 0 (xs ++ ys)) × (n₂ ≡ length (xs ++ ys))
two-casts H o o₁ o₂ n₁ n₂ xs ys a b =
    (b.box ∙ rw (a.box, a.count) (sym (boxed-append H o 0 xs ys)), omega (arith, a.count, b.count, length-append xs ys))

module _ (z : Sizes) (r : Plan) (old : ℕ) (h k m o h' : List ℕ) (g : Ready z r old h k m o) (e : h' ≡ hist_words z.room.0 (hist_of r h k m)) where
  long : length (hist_of r h k m) ≡ r.state.len.0
  long = length_from z.room.0 r.hist r.state.len.0 r.txn h k m g.hist

  after : txns r.state.len.0 h' ≡ hist_of r h k m
  after = read_back z.room.0 r.state.len.0 (hist_of r h k m) h' long e

  as_long : length h' ≡ 2 * z.room.0
  as_long = ap length e ∙ length-hist z.room.0 (hist_of r h k m) (omega (arith, long, g.hist.fits))

  -- a history that stays is the same words
  same-words : r.hist ≡ 0 → h' ≡ h
  unfolding hist_from pick
  same-words q = e ∙ rw (eq-eqb r.hist 0 q) (as-hist z.room.0 r.state.len.0 h g.hist.fits g.hist.words (g.hist.stays q))

  pub cand-ready : CandReady z.room.0 r.cand r.state.cand_len.0 old h' k m
  cand-ready = let c = g.cand in record {
    words = c.words;
    most = c.most;
    fits = c.fits;
    held = c.held;
    known = c.known;
    stays = c.stays;
    free = c.free;
    told = c.told;
    copied = λ _. omega (arith, as_long, c.fits);
  }

  pub one-ready : CastReady z 0 r.state.me r.one h' r.state.len.0 o
  one-ready = record {
    servers = g.servers;
    some = g.some;
    kind = g.one;
    load = record { fits = g.hist.fits; words = omega (arith, as_long, g.hist.fits) };
    slots = record { most = g.hist.most; words = g.slots; few = omega (arith, g.few, length-sends z r (hist_of r h k m)) };
  }

  pub two_ready : (o₁ : List ℕ) (n₁ : ℕ) → length o₁ ≡ length o → Boxed z.room.0 o 0 (cast_of z.n r.state.me r.one (txns r.state.len.0 h') r.txn) o₁ n₁
      → CastReady z n₁ r.state.me r.two h' r.state.len.0 o₁
  two_ready o₁ n₁ l b = record {
    servers = g.servers;
    some = g.some;
    kind = g.two;
    load = record { fits = g.hist.fits; words = omega (arith, as_long, g.hist.fits) };
    slots = record {
      most = g.hist.most;
      words = omega (arith, l, g.slots);
      few = omega (arith, g.few, length-sends z r (hist_of r h k m), b.count, length-cast z.n r.state.me r.one (txns r.state.len.0 h') r.txn);
    };
  }

  pub performed : (k' o₁ o' : List ℕ) (n₁ n : ℕ) → k' ≡ hist_words z.room.0 (cand_from r.cand r.state.cand_len.0 h' k m)
      → Boxed z.room.0 o 0 (cast_of z.n r.state.me r.one (txns r.state.len.0 h') r.txn) o₁ n₁
      → Boxed z.room.0 o₁ n₁ (cast_of z.n r.state.me r.two (txns r.state.len.0 h') r.txn) o' n
      → Performed z r h k m o n h' k' o'
  unfolding sends
  performed k' o₁ o' n₁ n c a b =
      let a₁ : Boxed z.room.0 o 0 (cast_of z.n r.state.me r.one (hist_of r h k m) r.txn) o₁ n₁ = rw after at a in
      let b₁ : Boxed z.room.0 o₁ n₁ (cast_of z.n r.state.me r.two (hist_of r h k m) r.txn) o' n = rw after at b in
      let t = two-casts z.room.0 o o₁ o' n₁ n _ _ a₁ b₁ in
      record {
        hist = e;
        cand = c ∙ ap (hist_words z.room.0) (cand-same r.cand r.state.cand_len.0 h h' k m g.cand.known (λ q. same-words (g.order q)));
        box = t.0;
        sent = t.1;
      }

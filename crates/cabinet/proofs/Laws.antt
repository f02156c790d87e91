-- Laws of the exported step.
use Prim.Native.Nat.{ℕ, ◌+◌, ◌-◌, ◌*◌, ◌%◌, ◌≤◌, ◌<◌}
use mathlib.Core.Path.{◌≡◌, refl, sym, ap, ◌∙◌}
use mathlib.Core.Logic.{◌≢◌, ⊎_elim}
use mathlib.Core.Bool.{true, false}
use mathlib.Core.List.{List, [], ◌∷◌, ◌++◌, append-nil}
use native.Mathlib.Omega.{arith}
use lib.Dec.{eqb, leb}
use lib.ListN.{length, take, drop, replicate, drop_of_length-le}
use lib.Seq.{take_at, take_all}
use borrow.Author.Tests.{eqb-true, leb-true, eq-eqb, ne_eqb}
use borrow.Rule.Slice.PartMut.{put_mid, same_len_mid}
use Rattle.base.specs.Choice.{pick, both}
use Rattle.base.specs.declared.Sizes.{Sizes}
use Rattle.base.proofs.Choice.{both_true, eq-or}
use Rattle.rules.specs.declared.State.{State}
use Rattle.rules.specs.Words.{put}
use Rattle.octets.specs.Bytes.{words_of, bytes_of}
use Rattle.octets.specs.Record.{state_words, state_at, fits}
use Rattle.octets.proofs.Laws.{length-words, length-bytes, bit-from}
use Rattle.std.specs.Int.{from_bool}
use Rattle.server.specs.declared.Event.{Event}
use Rattle.server.specs.Whole.{step_of, Reply, Does as WordsDo}
use Rattle.cabinet.proofs.Few.{sent-few}
use Rattle.cabinet.specs.Zab.{hist_size, box_size, event_of, lent_words, sized, slotted, sizes, word_step, After, answered, zab_of, Does, Lent, Steps}

-- ---- words lent of an array that holds n words of the bytes b

lent-part : (n : ℕ) (b r H : List ℕ) → H ≡ words_of n b ++ r → take (n - 0) (drop 0 H) ≡ words_of n b
lent-part n b r H e =
    let z : n - 0 ≡ n = omega arith in
    rw (z, e) (take_at (words_of n b) r n (length-words n b))

came-back : (n : ℕ) (H y : List ℕ) → length y ≡ n → take n (put_mid 0 (n - 0) H y) ≡ y
came-back n H y e = take_at y _ n e

came-len : (n : ℕ) (b r H y : List ℕ) → H ≡ words_of n b ++ r → length y ≡ length (take (n - 0) (drop 0 H)) → length y ≡ n
came-len n b r H y e l = l ∙ ap length (lent-part n b r H e) ∙ length-words n b

-- the length of the array after it
pub back_len : (n N : ℕ) (H y : List ℕ) → length H ≡ N → n ≤ N → length y ≡ length (take (n - 0) (drop 0 H)) → length (put_mid 0 (n - 0) H y) ≡ N
back_len n N H y e h l = same_len_mid 0 (n - 0) H y l ∙ e

-- a whole slice was written
whole : (n : ℕ) (b b' H y : List ℕ) → length y ≡ n → length b ≡ 8 * n → b' ≡ bytes_of (take n (put_mid 0 (n - 0) H y)) ++ drop (8 * n) b → b' ≡ bytes_of y
whole n b b' H y l e q = q ∙ rw (came-back n H y l, drop_of_length-le b {i = 8 * n} (omega arith)) (append-nil (bytes_of y))

-- its beginning was
front : (n : ℕ) (b b' H y : List ℕ) → length y ≡ n → b' ≡ bytes_of (take n (put_mid 0 (n - 0) H y)) ++ drop (8 * n) b → b' ≡ put b 0 (bytes_of y)
unfolding put
front n b b' H y l q =
    let e : 8 * n ≡ 0 + length (bytes_of y) = omega (arith, length-bytes y) in
    q ∙ rw (came-back n H y l) (ap (λ (i : ℕ). bytes_of y ++ drop i b) e)

module _ (z : Sizes) (s : State) (ev : Event) (lent n j : ℕ) (h k m o H K M O rh rk rm ro : List ℕ) (a : Reply) (yh yk yo : List ℕ)
    (en : n ≡ hist_size z.room.0) (ej : j ≡ box_size z.room.0)
    (eh : H ≡ words_of n h ++ rh) (ek : K ≡ words_of n k ++ rk) (em : M ≡ words_of lent m ++ rm) (eo : O ≡ words_of j o ++ ro)
    (d : WordsDo (step_of z s ev (take (n - 0) (drop 0 H)) (take (n - 0) (drop 0 K)) (take (lent - 0) (drop 0 M)) (take (j - 0) (drop 0 O))) a yh yk yo) where
  does : WordsDo (word_step z s ev lent h k m o) a yh yk yo
  does = rw (lent-part n h rh H eh, lent-part n k rk K ek, lent-part lent m rm M em, lent-part j o ro O eo, en, ej) at d

  pub step-refused : a.code ≢ 0 → Steps (word_step z s ev lent h k m o) a h k o h k o
  unfolding pick
  step-refused c =
      let w = does in
      let t : eqb (word_step z s ev lent h k m o).code 0 ≡ false = ne_eqb _ 0 (λ q. c (w.code ∙ q)) in
      record { code = w.code; sent = w.sent; empties = w.empties; state = w.state; hist = rw t; cand = rw t; box = rw t }

  pub step-done : (h' k' o' : List ℕ) → a.code ≡ 0 → length h ≡ 8 * n → length k ≡ 8 * n
      → length yh ≡ length (take (n - 0) (drop 0 H)) → length yk ≡ length (take (n - 0) (drop 0 K)) → length yo ≡ length (take (j - 0) (drop 0 O))
      → h' ≡ bytes_of (take n (put_mid 0 (n - 0) H yh)) ++ drop (8 * n) h
      → k' ≡ bytes_of (take n (put_mid 0 (n - 0) K yk)) ++ drop (8 * n) k
      → o' ≡ bytes_of (take j (put_mid 0 (j - 0) O yo)) ++ drop (8 * j) o
      → Steps (word_step z s ev lent h k m o) a h k o h' k' o'
  unfolding pick
  step-done h' k' o' c lh lk vh vk vo qh qk qo =
      let w = does in
      let t : eqb (word_step z s ev lent h k m o).code 0 ≡ true = eq-eqb _ 0 (sym w.code ∙ c) in
      record {
        code = w.code;
        sent = w.sent;
        empties = w.empties;
        state = w.state;
        hist = rw t (whole n h h' H yh (came-len n h rh H yh eh vh) lh qh ∙ ap bytes_of w.hist);
        cand = rw t (whole n k k' K yk (came-len n k rk K yk ek vk) lk qk ∙ ap bytes_of w.cand);
        box = rw t (front j o o' O yo (came-len j o ro O yo eo vo) qo ∙ ap (λ (x : List ℕ). put o 0 (bytes_of x)) w.box);
      }

-- ---- the lengths

pub record Sized (room b h k o t : ℕ) : Type 0 where
  pub most : room ≤ 64
  pub rec : b ≡ 304
  pub hist : h ≡ 8 * hist_size room
  pub cand : k ≡ 8 * hist_size room
  pub box : 8 * box_size room ≤ o
  pub told : t ≡ 2

pub sized-says : (room b h k o t : ℕ) → sized room b h k o t ≡ true → Sized room b h k o t
unfolding sized
sized-says room b h k o t e =
    let p = both_true (leb room 64) _ e in
    let q = both_true (eqb b 304) _ p.1 in
    let r = both_true (eqb h (8 * hist_size room)) _ q.1 in
    let u = both_true (eqb k (8 * hist_size room)) _ r.1 in
    let v = both_true (leb (8 * box_size room) o) _ u.1 in
    let w = both_true (eqb (o % 8) 0) _ v.1 in
    record { most = leb-true room 64 p.0; rec = eqb-true b 304 q.0; hist = eqb-true h _ r.0; cand = eqb-true k _ u.0; box = leb-true _ o v.0; told = eqb-true t 2 w.1 }

lent-few : (event room m : ℕ) → room ≤ 64 → slotted event room m ≡ true → (8 * lent_words event room ≤ m) × (lent_words event room ≤ 132)
unfolding slotted lent_words pick
lent-few event room m h e = ⊎_elim
    (λ (i : event ≡ 3). rw (eq-eqb event 3 i) (let q : m ≡ 8 * (4 + 2 * room) = eqb-true m _ (rw (eq-eqb event 3 i) at e) in (omega arith, omega arith)))
    (λ (i : event ≢ 3). rw (ne_eqb event 3 i) (omega arith, omega arith))
    (eq-or event 3)

-- ---- the step taken or refused, where lengths and record fit

module _ (room event : ℕ) (b h k m o t : List ℕ) (x : sized room (length b) (length h) (length k) (length o) (length t) ≡ true)
    (y : slotted event room (length m) ≡ true) (lent : ℕ) (el : lent ≡ lent_words event room) where
  pub is-lent : Lent room lent h k m o
  is-lent =
      let z = sized-says room _ _ _ _ _ x in
      let f = lent-few event room (length m) z.most y in
      record { most = z.most; hist = z.hist; cand = z.cand; msg = rw el f.0; few = rw el f.1; box = z.box }

  module _ (n who value : ℕ) (w : List ℕ) (ew : w ≡ words_of 38 b ++ drop 38 (replicate 38 0)) (v : fits w ≡ true) (s : State) (es : s ≡ state_at w) (e : Event) (ee : e ≡ event_of event who value)
      (a : Reply) (h' k' o' : List ℕ) (d : Steps (word_step (sizes n room) s e lent h k m o) a h k o h' k' o') where
    past : zab_of n room event who value b h k m o t ≡ answered (word_step (sizes n room) s e lent h k m o) b h k o t
    unfolding zab_of pick both
    past =
        let q : words_of 38 b ≡ w = sym (ew ∙ append-nil (words_of 38 b)) in
        rw (x, y, q, v, ← es, ← ee, ← el)

    -- the count is a byte
    pub count_fits : a.sent < 256
    count_fits = omega (arith, d.sent, sent-few (sizes n room) s e (words_of (hist_size room) h) (words_of (hist_size room) k) (words_of lent m) (words_of (box_size room) o))

    pub refused : a.code ≢ 0 → Does (zab_of n room event who value b h k m o t) a.code b h' k' o' t
    unfolding answered pick
    refused c =
        let u : eqb (word_step (sizes n room) s e lent h k m o).code 0 ≡ false = ne_eqb _ 0 (λ q. c (d.code ∙ q)) in
        rw (past, u) (record { code = d.code; rec = refl; hist = rw u at d.hist; cand = rw u at d.cand; box = rw u at d.box; told = refl })

    pub done : (w' b' t' : List ℕ) (z : ℕ) → a.code ≡ 0 → w' ≡ state_words a.state → length w' ≡ 38 → b' ≡ bytes_of (take 38 w') ++ drop 304 b → z ≡ from_bool a.empties
        → t' ≡ a.sent ∷ z ∷ [] → Does (zab_of n room event who value b h k m o t) 0 b' h' k' o' t'
    unfolding answered pick
    done w' b' t' z c ew' lw eb ez et =
        let i = sized-says room _ _ _ _ _ x in
        let u : eqb (word_step (sizes n room) s e lent h k m o).code 0 ≡ true = eq-eqb _ 0 (sym d.code ∙ c) in
        let r : b' ≡ bytes_of (state_words (word_step (sizes n room) s e lent h k m o).state) =
        eb ∙ rw (drop_of_length-le b {i = 304} (omega arith), take_all 38 w' (omega arith)) (append-nil (bytes_of w')) ∙ ap bytes_of ew' ∙ ap (λ (q : State). bytes_of (state_words q)) d.state in
        rw (past, u) (record {
          code = refl;
          rec = r;
          hist = rw u at d.hist;
          cand = rw u at d.cand;
          box = rw u at d.box;
          told = et ∙ rw (ez, bit-from a.empties, d.sent, d.empties);
        })

-- two results that meet the statement are equal, and so is every byte
pub one-result : (x : After) (r r' : ℕ) (b h k o t b' h' k' o' t' : List ℕ) → Does x r b h k o t → Does x r' b' h' k' o' t'
    → (r ≡ r') × ((b ≡ b') × ((h ≡ h') × ((k ≡ k') × ((o ≡ o') × (t ≡ t')))))
one-result x r r' b h k o t b' h' k' o' t' p q =
    (p.code ∙ sym q.code, (p.rec ∙ sym q.rec, (p.hist ∙ sym q.hist, (p.cand ∙ sym q.cand, (p.box ∙ sym q.box, p.told ∙ sym q.told)))))

-- The cluster's struct in words and back: reading and writing are inverse.
use Prim.Native.Nat.{ℕ, zero, suc, ◌+◌, ◌*◌, ◌≤◌, ◌<◌}
use mathlib.Core.Path.{◌≡◌, refl, sym, ap, ◌∙◌}
use mathlib.Core.Bool.{true}
use mathlib.Core.List.{List, [], ◌∷◌, ◌++◌, append_assoc}
use native.Mathlib.Omega.{arith}
use lib.ListN.{length, take, drop, get_or, length-append, length-drop, take-append-drop}
use lib.Seq.{drop-cons, take_at, drop_at, drop-drop, length-take-le, take_all}
use Rattle.rules.specs.declared.State.{State}
use Rattle.rules.specs.Words.{tab}
use Rattle.rules.proofs.Words.{tab-get}
use Rattle.ring.proofs.Parts.{tab-same}
use Rattle.site.specs.declared.Cluster.{Cluster}
use Rattle.site.specs.Site.{none}
use Rattle.octets.specs.Record.{state_words, state_at}
use Rattle.octets.proofs.Laws.{length-bits}
use Rattle.octets.proofs.Inverse.{state-back, words-of-state}
use Rattle.cabinet.specs.Run.{record_place, record_words, record_fits, ring_words, held_fits, cluster_at, five_of, records_of, held_of}
use Rattle.cabinet.proofs.Runs.{Fit, fit_of, records-snoc}

-- ---- words that fit, read and written again

part-on : (w : List ℕ) (k n m : ℕ) → k + n ≡ m → take n (drop k w) ++ drop m w ≡ drop k w
part-on w k n m e = ap (λ (z : List ℕ). take n (drop k w) ++ z) (ap (λ (j : ℕ). drop j w) (sym e) ∙ sym (drop-drop n k w)) ∙ take-append-drop n (drop k w)

record-size : (w : List ℕ) (i : ℕ) → length w ≡ 369 → i < 7 → length (record_words w i) ≡ 38
record-size w i l m = length-take-le 38 (drop (record_place i) w) (omega (arith, length-drop (record_place i) w))

module _ (w : List ℕ) (x : Fit w) where
  record-again : (i : ℕ) → i < 7 → state_words (state_at (record_words w i)) ≡ record_words w i
  unfolding record_fits
  record-again i m = words-of-state (record_words w i) (record-size w i x.size m) (x.records i m)

  records-again : (n : ℕ) → n ≤ 7 → records_of (tab n (λ i. state_at (record_words w i))) ++ drop (record_place n) w ≡ drop 5 w
  unfolding tab records_of
  records-again zero m = refl
  records-again (suc n) m =
      let f : ℕ → State = λ i. state_at (record_words w i) in
      let p : record_place n + 38 ≡ record_place (suc n) = omega arith in
      ap (λ (z : List ℕ). z ++ drop (record_place (suc n)) w) (records-snoc (tab n f) (f n) ∙ ap (λ (z : List ℕ). records_of (tab n f) ++ z) (record-again n (omega arith)))
      ∙ append_assoc (records_of (tab n f)) (record_words w n) (drop (record_place (suc n)) w)
      ∙ ap (λ (z : List ℕ). records_of (tab n f) ++ z) (part-on w (record_place n) 38 (record_place (suc n)) p)
      ∙ records-again n (omega arith)

  rings-again : ring_words w 271 ++ ring_words w 320 ≡ drop 271 w
  rings-again =
      ap (λ (z : List ℕ). ring_words w 271 ++ z) (take_all 49 (drop 320 w) (omega (arith, length-drop 320 w, x.size)))
      ∙ part-on w 271 49 320 refl

  five-again : get_or w 0 0 ∷ get_or w 1 0 ∷ get_or w 2 0 ∷ get_or w 3 0 ∷ get_or w 4 0 ∷ drop 5 w ≡ w
  five-again =
      let l = x.size in
      let at : (i : ℕ) → i < 369 → get_or w i 0 ∷ drop (suc i) w ≡ drop i w = λ i m. sym (drop-cons w i 0 (omega arith)) in
      ap (λ (z : List ℕ). get_or w 0 0 ∷ get_or w 1 0 ∷ get_or w 2 0 ∷ get_or w 3 0 ∷ z) (at 4 (omega arith))
      ∙ ap (λ (z : List ℕ). get_or w 0 0 ∷ get_or w 1 0 ∷ get_or w 2 0 ∷ z) (at 3 (omega arith))
      ∙ ap (λ (z : List ℕ). get_or w 0 0 ∷ get_or w 1 0 ∷ z) (at 2 (omega arith))
      ∙ ap (λ (z : List ℕ). get_or w 0 0 ∷ z) (at 1 (omega arith))
      ∙ at 0 (omega arith)

-- what was read is written as it was
pub words-of-cluster : (w : List ℕ) → held_fits w ≡ true → held_of (cluster_at w) (get_or w 3 0) (get_or w 4 0) ≡ w
unfolding held_of cluster_at
words-of-cluster w f =
    let x = fit_of w f in
    let S = records_of (tab 7 (λ i. state_at (record_words w i))) in
    let e : S ++ (ring_words w 271 ++ ring_words w 320) ≡ drop 5 w = ap (λ (z : List ℕ). S ++ z) (rings-again w x) ∙ records-again w x 7 (omega arith) in
    ap (λ (z : List ℕ). get_or w 0 0 ∷ get_or w 1 0 ∷ get_or w 2 0 ∷ get_or w 3 0 ∷ get_or w 4 0 ∷ z) e ∙ five-again w x

-- ---- a struct, written and read again

-- its arrays are as long as code has them
pub record Sevens (s : State) : Type 0 where
  pub joined : length s.joined ≡ 7
  pub acked : length s.acked ≡ 7
  pub synced : length s.synced ≡ 7
  pub counts : length s.counts ≡ 7

pub record Full (c : Cluster) : Type 0 where
  pub servers : length c.servers ≡ 7
  pub each : (i : ℕ) → i < 7 → Sevens (get_or c.servers i none)
  pub heads : length c.rings.heads ≡ 49
  pub counts : length c.rings.counts ≡ 49

state-size : (s : State) → Sevens s → length (state_words s) ≡ 38
unfolding state_words
state-size s v =
    simp (length-append, length-bits) (omega (arith, v.joined, v.acked, v.synced, v.counts))

-- the i-th record
record-in : (ss : List State) (rest : List ℕ) (i : ℕ) → ((j : ℕ) → j < length ss → length (state_words (get_or ss j none)) ≡ 38) → i < length ss
    → take 38 (drop (38 * i) (records_of ss ++ rest)) ≡ state_words (get_or ss i none)
unfolding records_of
record-in [] rest i v l = absurd (omega arith)
record-in (s ∷ ss) rest zero v l =
    ap (take 38) (append_assoc (state_words s) (records_of ss) rest) ∙ take_at (state_words s) (records_of ss ++ rest) 38 (v 0 (omega arith))
record-in (s ∷ ss) rest (suc i) v l =
    let e : 38 * suc i ≡ 38 + 38 * i = omega arith in
    ap (take 38) (ap (λ (z : List ℕ). drop (38 * suc i) z) (append_assoc (state_words s) (records_of ss) rest)
    ∙ ap (λ (k : ℕ). drop k (state_words s ++ (records_of ss ++ rest))) e
    ∙ sym (drop-drop (38 * i) 38 (state_words s ++ (records_of ss ++ rest)))
    ∙ ap (drop (38 * i)) (drop_at (state_words s) (records_of ss ++ rest) 38 (v 0 (omega arith))))
    ∙ record-in ss rest i (λ j m. v (suc j) (omega arith)) (omega arith)

records-size : (ss : List State) → ((j : ℕ) → j < length ss → length (state_words (get_or ss j none)) ≡ 38) → length (records_of ss) ≡ 38 * length ss
unfolding records_of
records-size [] v = refl
records-size (s ∷ ss) v = length-append (state_words s) (records_of ss) ∙ omega (arith, v 0 (omega arith), records-size ss (λ j m. v (suc j) (omega arith)))

-- the parts of the words of a struct
module _ (c : Cluster) (met taken : ℕ) (v : Full c) where
  abbrev W : List ℕ
  W = five_of c.sizes c.depth met taken ++ (records_of c.servers ++ (c.rings.heads ++ c.rings.counts))

  each-size : (j : ℕ) → j < length c.servers → length (state_words (get_or c.servers j none)) ≡ 38
  each-size j m = state-size (get_or c.servers j none) (v.each j (omega (arith, v.servers)))

  rings-at : drop 271 W ≡ c.rings.heads ++ c.rings.counts
  rings-at = sym (drop-drop 266 5 W) ∙ drop_at (records_of c.servers) (c.rings.heads ++ c.rings.counts) 266 (records-size c.servers each-size ∙ ap (λ (k : ℕ). 38 * k) v.servers)

  heads-back : ring_words W 271 ≡ c.rings.heads
  heads-back = ap (take 49) rings-at ∙ take_at c.rings.heads c.rings.counts 49 v.heads

  counts-back : ring_words W 320 ≡ c.rings.counts
  counts-back =
      ap (take 49) (sym (drop-drop 49 271 W) ∙ ap (drop 49) rings-at ∙ drop_at c.rings.heads c.rings.counts 49 v.heads)
      ∙ take_all 49 c.rings.counts (omega (arith, v.counts))

  record-back : (i : ℕ) → i < 7 → state_at (record_words W i) ≡ get_or c.servers i none
  record-back i m =
      let s = get_or c.servers i none in
      let u = v.each i m in
      ap (λ (z : List ℕ). state_at (take 38 z)) (sym (drop-drop (38 * i) 5 W))
      ∙ ap state_at (record-in c.servers (c.rings.heads ++ c.rings.counts) i each-size (omega (arith, v.servers)))
      ∙ state-back s u.joined u.acked u.synced u.counts

  servers-back : tab 7 (λ i. state_at (record_words W i)) ≡ c.servers
  servers-back = tab-same 7 (λ i. state_at (record_words W i)) (λ i. get_or c.servers i none) record-back ∙ tab-get 7 c.servers none v.servers

  -- what was written is read as it was
  pub cluster-back : cluster_at (held_of c met taken) ≡ c
  unfolding held_of cluster_at
  cluster-back = λ i. record { sizes = c.sizes; depth = c.depth; servers = servers-back i; rings = record { heads = heads-back i; counts = counts-back i } }

-- The test of room is the paper's: no channel from i would pass its depth.
use Prim.Native.Nat.{ℕ, zero, suc, ◌+◌, ◌≤◌, ◌<◌}
use mathlib.Core.Path.{◌≡◌, refl, sym, ap, ◌∙◌}
use mathlib.Core.Logic.{◌≢◌, ⊎_elim}
use mathlib.Core.Bool.{Bool, true, false, not}
use mathlib.Core.List.{List, [], ◌∷◌, ◌++◌}
use native.Mathlib.Omega.{arith}
use lib.Dec.{eqb, leb}
use lib.ListN.{length, length-append}
use borrow.Author.Tests.{eq-eqb, ne_eqb}
use mir.Val.{bool_byte}
use Rattle.base.specs.Choice.{pick, both, either, all_below, upd₂}
use Rattle.base.specs.Quorum.{Set}
use Rattle.base.specs.declared.Sizes.{Sizes}
use Rattle.base.proofs.Choice.{eq-or, upd₂-same, upd₂-other, both-no}
use Rattle.rules.specs.Message.{Msg, Send}
use Rattle.rules.specs.Tree.{to_all}
use Rattle.rules.specs.Cluster.{Channels, emptied, post, roomy}
use Rattle.rules.specs.Words.{has}
use Rattle.ring.specs.declared.Rings.{Rings}
use Rattle.ring.specs.Queue.{cell, count, good_rings, Chan}
use Rattle.ring.proofs.Laws.{ring-at, cell-low}
use Rattle.post.specs.Room.{hit, due, fits, how_many}

pub many-append : (xs ys : List Send) (t : ℕ) → how_many (xs ++ ys) t ≡ how_many xs t + how_many ys t
unfolding how_many
many-append [] ys t = omega arith
many-append (x ∷ xs) ys t = omega (arith, many-append xs ys t)

pub post-length : (i : ℕ) (xs : List Send) (c : Channels) (t : ℕ) → length (post i xs c i t) ≡ length (c i t) + how_many xs t
unfolding post how_many pick
post-length i [] c t = omega arith
post-length i (x ∷ xs) c t = ⊎_elim
    (λ (e : t ≡ x.to).
    let a = post-length i xs (upd₂ c i x.to (c i x.to ++ (x.msg ∷ []))) t in
    let b : length (upd₂ c i x.to (c i x.to ++ (x.msg ∷ [])) i t) ≡ length (c i t) + 1 = rw (e, upd₂-same c i x.to (c i x.to ++ (x.msg ∷ []))) (length-append (c i x.to) (x.msg ∷ [])) in
    rw (eq-eqb x.to t (sym e)) (omega arith))
    (λ (n : t ≢ x.to).
    let a = post-length i xs (upd₂ c i x.to (c i x.to ++ (x.msg ∷ []))) t in
    let b : length (upd₂ c i x.to (c i x.to ++ (x.msg ∷ [])) i t) ≡ length (c i t) = rw (upd₂-other c i x.to (c i x.to ++ (x.msg ∷ [])) i t n) in
    rw (ne_eqb x.to t (λ e. n (sym e))) (omega arith))
    (eq-or t x.to)

many-one : (b : Bool) (n t : ℕ) (m : Msg) → how_many (pick b (record { to = n; msg = m } ∷ []) []) t ≡ pick (eqb n t) (pick b 1 0) 0
unfolding how_many pick
many-one true n t m = ⊎_elim (λ (e : n ≡ t). rw (eq-eqb n t e)) (λ (d : n ≢ t). rw (ne_eqb n t d)) (eq-or n t)
many-one false n t m = ⊎_elim (λ (e : n ≡ t). rw (eq-eqb n t e)) (λ (d : n ≢ t). rw (ne_eqb n t d)) (eq-or n t)

many-none : (n i : ℕ) (q : Set) (m : Msg) (t : ℕ) → n ≤ t → how_many (to_all n i q m) t ≡ 0
unfolding to_all how_many pick
many-none zero i q m t h = refl
many-none (suc n) i q m t h =
    let d : n ≢ t = (λ e. omega arith) in
    let a = many-none n i q m t (omega arith) in
    let b : how_many (pick (both (q n) (not (eqb n i))) (record { to = n; msg = m } ∷ []) []) t ≡ 0 = many-one (both (q n) (not (eqb n i))) n t m ∙ rw (ne_eqb n t d) in
    many-append (to_all n i q m) (pick (both (q n) (not (eqb n i))) (record { to = n; msg = m } ∷ []) []) t ∙ omega arith

pub many-all : (n i : ℕ) (q : Set) (m : Msg) (t : ℕ) → t < n → how_many (to_all n i q m) t ≡ hit i q t
unfolding to_all hit pick
many-all zero i q m t h = absurd (omega arith)
many-all (suc n) i q m t h = ⊎_elim
    (λ (e : t ≡ n).
    let a = many-none n i q m t (omega arith) in
    let b : how_many (pick (both (q n) (not (eqb n i))) (record { to = n; msg = m } ∷ []) []) t ≡ pick (both (q t) (not (eqb t i))) 1 0
    = many-one (both (q n) (not (eqb n i))) n t m ∙ rw (e, eq-eqb n n refl) in
    many-append (to_all n i q m) (pick (both (q n) (not (eqb n i))) (record { to = n; msg = m } ∷ []) []) t ∙ omega arith)
    (λ (d : t ≢ n).
    let a = many-all n i q m t (omega arith) in
    let b : how_many (pick (both (q n) (not (eqb n i))) (record { to = n; msg = m } ∷ []) []) t ≡ 0 = many-one (both (q n) (not (eqb n i))) n t m ∙ rw (ne_eqb n t (λ e. d (sym e))) in
    many-append (to_all n i q m) (pick (both (q n) (not (eqb n i))) (record { to = n; msg = m } ∷ []) []) t ∙ omega arith)
    (eq-or t n)

pub all_same : (n : ℕ) (f g : ℕ → Bool) → ((t : ℕ) → t < n → f t ≡ g t) → all_below n f ≡ all_below n g
unfolding all_below
all_same zero f g e = refl
all_same (suc n) f g e = rw (e n (omega arith), all_same n f g (λ t l. e t (omega arith)))

pub waits : (i : ℕ) (empties : Bool) (rest : Channels) (t : ℕ) → length (pick empties (emptied i rest) rest i t) ≡ pick empties 0 (length (rest i t))
unfolding pick emptied either
waits i true rest t = rw (eq-eqb i i refl)
waits i false rest t = refl

-- the test before anything is written is the paper's after it
pub fits-roomy : (z : Sizes) (depth : ℕ) (r : Rings) (i : ℕ) (empties : Bool) (one two : List Bool) (rest : Channels) (a b : Msg) → ((t : ℕ) → t < z.n → length (rest i t) ≡ count r (cell z.n i t))
    → fits z depth r i empties one two ≡ roomy z.n depth i (post i (to_all z.n i (has one) a ++ to_all z.n i (has two) b) (pick empties (emptied i rest) rest))
unfolding fits roomy
fits-roomy z depth r i empties one two rest a b w = all_same z.n _ _ (λ t l.
    let xs = to_all z.n i (has one) a in
    let ys = to_all z.n i (has two) b in
    let p = post-length i (to_all z.n i (has one) a ++ to_all z.n i (has two) b) (pick empties (emptied i rest) rest) t in
    let q = many-append (to_all z.n i (has one) a) (to_all z.n i (has two) b) t in
    let u = many-all z.n i (has one) a t l in
    let v = many-all z.n i (has two) b t l in
    let x : length (pick empties (emptied i rest) rest i t) ≡ pick empties 0 (count r (cell z.n i t)) = waits i empties rest t ∙ ap (pick empties 0) (w t l) in
    ap (λ (k : ℕ). leb k depth) (sym (p ∙ rw (q, u, v, x))))

-- ---- for the code

pub hit-in : (i : ℕ) (q : Set) (t : ℕ) → t ≢ i → q t ≡ true → hit i q t ≡ 1
unfolding hit pick both
hit-in i q t n e = rw (e, ne_eqb t i n)

pub hit-out : (i : ℕ) (q : Set) (t : ℕ) → q t ≡ false → hit i q t ≡ 0
unfolding hit pick both
hit-out i q t e = rw e

-- no message to oneself, and one to another of the set
pub hit-self : (i : ℕ) (q : Set) (t k : ℕ) (b : Bool) → t ≡ i → b ≡ not (eqb t i) → k ≡ bool_byte b → (k ≡ hit i q t) × (k ≤ 1)
unfolding hit pick
hit-self i q t k b e f g =
    let o : k ≡ 0 = g ∙ ap bool_byte (f ∙ ap not (eq-eqb t i e)) in
    (o ∙ sym (ap (λ (b : Bool). pick b 1 0) (both-no (q t) (not (eqb t i)) (ap not (eq-eqb t i e)))), omega arith)

pub hit-other : (i : ℕ) (q : Set) (t k : ℕ) (b : Bool) → t ≢ i → b ≡ q t → k ≡ bool_byte b → (k ≡ hit i q t) × (k ≤ 1)
hit-other i q t k true n e g = (g ∙ sym (hit-in i q t n (sym e)), omega arith)
hit-other i q t k false n e g = (g ∙ sym (hit-out i q t (sym e)), omega arith)

pub due-is : (z : Sizes) (r : Rings) (i : ℕ) (empties : Bool) (one two : List Bool) (t w a b : ℕ) → w ≡ pick empties 0 (count r (cell z.n i t)) → a ≡ hit i (has one) t → b ≡ hit i (has two) t
    → w + a + b ≡ due z r i empties one two t
due-is z r i empties one two t w a b e f g = rw (← e, ← f, ← g) (omega arith)

-- what the test of one channel asks, at t below n
pub due-may : (z : Sizes) (depth : ℕ) (r : Rings) (i t : ℕ) → z.n ≤ 7 → depth ≤ 16 → good_rings depth r ≡ true → i < z.n → t < z.n → (z.n ≤ 7) × (Chan z i t × (count r (cell z.n i t) ≤ 16))
due-may z depth r i t n d g h l =
    let k : Chan z i t = record { sender = h; receiver = l } in
    let u = (ring-at depth r (cell z.n i t) g (cell-low z i t n k).1).1 in
    (n, (k, omega arith))

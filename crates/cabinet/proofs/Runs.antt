-- Laws of the exported run: the cluster's struct in words, and one law for each return.
use Prim.Native.Nat.{ℕ, suc, ◌+◌, ◌-◌, ◌*◌, ◌≤◌, ◌<◌}
use mathlib.Core.Path.{◌≡◌, refl, sym, ap, ◌∙◌}
use mathlib.Core.Bool.{Bool, true, false}
use mathlib.Core.List.{List, [], ◌∷◌, ◌++◌, append_assoc, append-nil}
use native.Mathlib.Omega.{arith}
use native.Mathlib.Numerals.{add-one}
use lib.Dec.{eqb, leb}
use lib.ListN.{length, take, drop, get_or, set, length-append, length-drop, drop_of_length-le}
use lib.Seq.{drop-cons, set_at, append_snoc, take-suc, length-take-le, take_all, get_or-drop, get_or-take}
use borrow.Author.Tests.{eqb-true, leb-true}
use borrow.Rule.Slice.PartMut.{put_mid}
use Rattle.std.specs.Bool.{MatchBool}
use Rattle.std.specs.Prelude.{Err}
use Rattle.std.specs.List.{AllWithin, HoldsAt, range_with_len}
use Rattle.std.proofs.lemmas.List.FromFn.{get_or-range_with_len}
use Rattle.base.specs.Choice.{pick, both, all_below}
use Rattle.base.specs.Refusals.{number, code_of, STATE}
use Rattle.base.specs.declared.Refusal.{Refusal}
use Rattle.base.specs.Transaction.{LAST}
use Rattle.base.proofs.Choice.{both_true, clash, case, all-at, all_of}
use Rattle.base.proofs.Refusals.{number-not, code-err}
use Rattle.rules.specs.declared.State.{State}
use Rattle.rules.specs.Cluster.{Event}
use Rattle.rules.specs.Words.{tab, put}
use Rattle.rules.proofs.Words.{mid-put, put-put}
use Rattle.octets.specs.Bytes.{under, BYTE}
use Rattle.octets.specs.Record.{state_words, state_at}
use Rattle.octets.proofs.Laws.{under_of, part_at, put-more, put-none}
use Rattle.site.specs.declared.Cluster.{Cluster}
use Rattle.runs.specs.declared.Ran.{Ran}
use Rattle.site.specs.Site.{Site, site_of, none}
use Rattle.runs.specs.Runs.{events_of, Runs}
use Rattle.cabinet.specs.Zab.{sizes}
use Rattle.cabinet.specs.Run.{record_place, record_words, record_fits, ring_words, held_fits, cluster_at, five_of, records_of, held_of, Finish, halts, ran, may_run, run_of, Finishes}

-- ---- words that fit

pub record-part : (w : List ℕ) (i : ℕ) → take (5 + 38 * i + 38 - (5 + 38 * i)) (drop (5 + 38 * i) w) ≡ record_words w i
record-part w i = let e : 5 + 38 * i + 38 - (5 + 38 * i) ≡ 38 = omega arith in ap (λ (n : ℕ). take n (drop (5 + 38 * i) w)) e

-- what `all` says of the seven records
pub records-said : (w : List ℕ) (b : Bool)
    → MatchBool b (AllWithin (λ i. record_fits w i ≡ true) (range_with_len 0 7) 0 (length (range_with_len 0 7))) ((k : ℕ) × (k < length (range_with_len 0 7)) × HoldsAt (λ i. record_fits w i ≡ false) (range_with_len 0 7) k)
    → b ≡ all_below 7 (record_fits w)
records-said w true h = sym (all_of 7 (record_fits w) (λ i m. let e : get_or (range_with_len 0 7) i 0 ≡ i = omega (arith, get_or-range_with_len 0 7 i 0 m) in rw e at (h i 0 (omega arith) m)))
records-said w false (k, m, h) =
    let e : get_or (range_with_len 0 7) k 0 ≡ k = omega (arith, get_or-range_with_len 0 7 k 0 m) in
    case (all_below 7 (record_fits w)) (λ t. clash (all-at 7 (record_fits w) t k m) (rw e at (h 0))) (λ t. sym t)

-- every word of the struct within its field, as facts
pub record Fit (w : List ℕ) : Type 0 where
  pub size : length w ≡ 369
  pub n : get_or w 0 0 ≤ 255
  pub room : get_or w 1 0 ≤ LAST
  pub depth : get_or w 2 0 ≤ 255
  pub records : (i : ℕ) → i < 7 → record_fits w i ≡ true
  pub heads : under BYTE (ring_words w 271) ≡ true
  pub counts : under BYTE (ring_words w 320) ≡ true

under-part : (w : List ℕ) (at n : ℕ) → at + n ≤ length w → ((i : ℕ) → i < n → get_or w (at + i) 0 ≤ BYTE) → under BYTE (take n (drop at w)) ≡ true
under-part w at n h f =
    let m : length (take n (drop at w)) ≡ n = length-take-le n (drop at w) (omega (arith, length-drop at w)) in
    under_of BYTE (take n (drop at w)) (λ i l. let k : i < n = omega arith in rw (get_or-take n (drop at w) i 0 k, get_or-drop at w i 0) (f i k))

pub fit_of : (w : List ℕ) → held_fits w ≡ true → Fit w
unfolding held_fits
fit_of w e =
    let a = both_true (eqb (length w) 369) _ e in
    let b = both_true (leb (get_or w 0 0) 255) _ a.1 in
    let c = both_true (leb (get_or w 1 0) LAST) _ b.1 in
    let d = both_true (leb (get_or w 2 0) 255) _ c.1 in
    let f = both_true (all_below 7 (record_fits w)) _ d.1 in
    let l : length w ≡ 369 = eqb-true (length w) 369 a.0 in
    let at : (i : ℕ) → i < 98 → get_or w (271 + i) 0 ≤ BYTE = λ i m. part_at BYTE w 271 98 i f.1 (omega arith) m in
    record {
      size = l;
      n = leb-true (get_or w 0 0) 255 b.0;
      room = leb-true (get_or w 1 0) LAST c.0;
      depth = leb-true (get_or w 2 0) 255 d.0;
      records = all-at 7 (record_fits w) f.0;
      heads = under-part w 271 49 (omega arith) (λ i m. at i (omega arith));
      counts = under-part w 320 49 (omega arith) (λ i m. let k : 271 + (49 + i) ≡ 320 + i = omega arith in rw k at (at (49 + i) (omega arith)));
    }

-- ---- a byte of each ring

pub ring-turn : (w z q : List ℕ) (at i x : ℕ) → at + 49 ≤ length w → length z ≡ 49 → i < 49 → q ≡ take i (drop at w) ++ drop i z → x ≡ get_or w (at + i) 0
    → set q i x ≡ take (i + 1) (drop at w) ++ drop (i + 1) z
ring-turn w z q at i x h l m e v =
    let D = drop at w in
    let n : i < length D = omega (arith, length-drop at w) in
    let y : x ≡ get_or D i 0 = v ∙ sym (get_or-drop at w i 0) in
    rw (e, y, add-one i, take-suc D i 0 n, drop-cons z i 0 (omega arith))
    (set_at (take i D) (get_or z i 0) (drop (suc i) z) (get_or D i 0) i (length-take-le i D (omega arith))
    ∙ sym (append_snoc (take i D) (get_or D i 0) (drop (suc i) z)))

pub ring-end : (w z q : List ℕ) (at i : ℕ) → length z ≡ 49 → i ≡ 49 → q ≡ take i (drop at w) ++ drop i z → q ≡ ring_words w at
ring-end w z q at i l m e =
    e ∙ rw (m, drop_of_length-le z {i = 49} (omega arith)) (append-nil (take 49 (drop at w)))

pub ring-put : (w₀ w q : List ℕ) (at i : ℕ) → at + 49 ≤ length w₀ → i < 49 → length q ≡ 49 → w ≡ put w₀ at (take i q) → set w (at + i) (get_or q i 0) ≡ put w₀ at (take (i + 1) q)
ring-put w₀ w q at i h l m e =
    rw (e, add-one i, take-suc q i 0 (omega arith))
    (put-more w₀ (take i q) at i (get_or q i 0) (length-take-le i q (omega arith)) (omega arith))

pub ring-put-end : (w₀ w q : List ℕ) (at i : ℕ) → i ≡ 49 → length q ≡ 49 → w ≡ put w₀ at (take i q) → w ≡ put w₀ at q
ring-put-end w₀ w q at i l m e = e ∙ ap (put w₀ at) (take_all i q (omega arith))

-- ---- words put one after the other

put_next : (q a b : List ℕ) (at n : ℕ) → at ≤ length q → at + length a ≡ n → put (put q at a) n b ≡ put q at (a ++ b)
put_next q a b at n h e = rw (← e) (put-put q a b at h)

pub record-written : (w y : List ℕ) (i : ℕ) (s : State) → length w ≡ 369 → i < 7 → length y ≡ length (take (5 + 38 * i + 38 - (5 + 38 * i)) (drop (5 + 38 * i) w)) → y ≡ state_words s
    → (put_mid (5 + 38 * i) (5 + 38 * i + 38 - (5 + 38 * i)) w y ≡ put w (record_place i) (state_words s)) × (length (state_words s) ≡ 38)
record-written w y i s h l k e =
    let n : 5 + 38 * i + 38 - (5 + 38 * i) ≡ 38 = omega arith in
    let m : length y ≡ 38 = k ∙ ap length (record-part w i) ∙ length-take-le 38 (drop (5 + 38 * i) w) (omega (arith, length-drop (5 + 38 * i) w)) in
    (rw (← e, n) (mid-put (5 + 38 * i) 38 w y m), ap length (sym e) ∙ m)

records-append : (p q : List State) → records_of (p ++ q) ≡ records_of p ++ records_of q
unfolding records_of
records-append [] q = refl
records-append (s ∷ p) q = ap (λ (z : List ℕ). state_words s ++ z) (records-append p q) ∙ sym (append_assoc (state_words s) (records_of p) (records_of q))

pub records-snoc : (p : List State) (s : State) → records_of (p ++ (s ∷ [])) ≡ records_of p ++ state_words s
unfolding records_of
records-snoc p s = records-append p (s ∷ []) ∙ ap (λ (z : List ℕ). records_of p ++ z) (append-nil (state_words s))

-- the first i records stand
pub record Written (w₀ : List ℕ) (ss : List State) (w : List ℕ) (i : ℕ) : Type 0 where
  pub few : i ≤ 7
  pub size : length w ≡ length w₀
  pub words : w ≡ put w₀ 5 (records_of (take i ss))
  pub so_far : length (records_of (take i ss)) ≡ 38 * i

pub records-start : (w : List ℕ) (ss : List State) → Written w ss w 0
unfolding records_of
records-start w ss = record { few = omega arith; size = refl; words = put-none w 5; so_far = refl }

pub records-turn : (w₀ w w' : List ℕ) (ss : List State) (i : ℕ) → length w₀ ≡ 369 → length ss ≡ 7 → i < 7 → Written w₀ ss w i → length w' ≡ length w
    → w' ≡ put w (record_place i) (state_words (get_or ss i none)) → length (state_words (get_or ss i none)) ≡ 38 → Written w₀ ss w' (i + 1)
records-turn w₀ w w' ss i h m l v k e n =
    let s = get_or ss i none in
    let z : records_of (take (i + 1) ss) ≡ records_of (take i ss) ++ state_words s =
    ap (λ (j : ℕ). records_of (take j ss)) (add-one i) ∙ ap records_of (take-suc ss i none (omega arith)) ∙ records-snoc (take i ss) s in
    record {
      few = omega arith;
      size = k ∙ v.size;
      words = e ∙ ap (λ (x : List ℕ). put x (record_place i) (state_words s)) v.words
          ∙ put_next w₀ (records_of (take i ss)) (state_words s) 5 (record_place i) (omega arith) (omega (arith, v.so_far))
          ∙ ap (put w₀ 5) (sym z);
      so_far = ap length z ∙ length-append (records_of (take i ss)) (state_words s) ∙ omega (arith, v.so_far);
    }

pub records-end : (w₀ w : List ℕ) (ss : List State) (i : ℕ) → length ss ≡ 7 → 7 ≤ i → Written w₀ ss w i → (w ≡ put w₀ 5 (records_of ss)) × (length (records_of ss) ≡ 38 * 7)
records-end w₀ w ss i m l v =
    let x : i ≡ 7 = omega (arith, v.few) in
    let t : take i ss ≡ ss = take_all i ss (omega arith) in
    (v.words ∙ ap (λ (z : List State). put w₀ 5 (records_of z)) t, ap (λ (z : List State). length (records_of z)) (sym t) ∙ v.so_far ∙ ap (λ (j : ℕ). 38 * j) x)

-- all of the struct
put_whole : (w x : List ℕ) → length x ≡ length w → put w 0 x ≡ x
unfolding put
put_whole w x e = ap (λ (z : List ℕ). x ++ z) (drop_of_length-le w {i = 0 + length x} (omega arith)) ∙ append-nil x

pub held-written : (c : Cluster) (met taken : ℕ) (w w₁ w₂ w₃ w₄ : List ℕ) → length w ≡ 369 → length c.rings.heads ≡ 49 → length c.rings.counts ≡ 49
    → w₁ ≡ put w 0 (five_of c.sizes c.depth met taken) → (w₂ ≡ put w₁ 5 (records_of c.servers)) × (length (records_of c.servers) ≡ 38 * 7)
    → w₃ ≡ put w₂ 271 c.rings.heads → w₄ ≡ put w₃ 320 c.rings.counts → w₄ ≡ held_of c met taken
unfolding held_of
held-written c met taken w w₁ w₂ w₃ w₄ l lh lc e₁ e₂ e₃ e₄ =
    let F = five_of c.sizes c.depth met taken in
    let S = records_of c.servers in
    let H = c.rings.heads in
    let C = c.rings.counts in
    let n₂ : length (F ++ S) ≡ 271 = length-append F S ∙ omega (arith, e₂.1) in
    let n₃ : length (F ++ S ++ H) ≡ 320 = length-append (F ++ S) H ∙ omega arith in
    let n₄ : length (F ++ S ++ H ++ C) ≡ 369 = length-append (F ++ S ++ H) C ∙ omega arith in
    let a₂ : w₂ ≡ put w 0 (F ++ S) = e₂.0 ∙ ap (λ (z : List ℕ). put z 5 S) e₁ ∙ put_next w F S 0 5 (omega arith) refl in
    let a₃ : w₃ ≡ put w 0 (F ++ S ++ H) = e₃ ∙ ap (λ (z : List ℕ). put z 271 H) a₂ ∙ put_next w (F ++ S) H 0 271 (omega arith) (omega arith) in
    let a₄ : w₄ ≡ put w 0 (F ++ S ++ H ++ C) = e₄ ∙ ap (λ (z : List ℕ). put z 320 C) a₃ ∙ put_next w (F ++ S ++ H) C 0 320 (omega arith) (omega arith) in
    a₄ ∙ put_whole w (F ++ S ++ H ++ C) (n₄ ∙ sym l) ∙ append_assoc (F ++ S) H C ∙ append_assoc F S (H ++ C)

-- ---- the struct read

pub read_all : (w : List ℕ) (ss : List State) (heads counts : List ℕ) (n room depth : ℕ)
    → ss ≡ tab 7 (λ i. state_at (record_words w i)) → heads ≡ ring_words w 271 → counts ≡ ring_words w 320
    → n ≡ get_or w 0 0 → room ≡ get_or w 1 0 → depth ≡ get_or w 2 0
    → ◌≡◌ {A = Cluster} (record { sizes = sizes n room; depth = depth; servers = ss; rings = record { heads = heads; counts = counts } }) (cluster_at w)
unfolding cluster_at
read_all w ss heads counts n room depth ps ph pk pn pr px = λ i. record {
  sizes = sizes (pn i) (pr i);
  depth = px i;
  servers = ps i;
  rings = record { heads = ph i; counts = pk i };
}

-- ---- the run

module _ (w h k q o es : List ℕ) (budget : ℕ) where
  -- where the struct's words fit, the run is refused exactly if the cluster's is
  run-fit : held_fits w ≡ true → run_of w h k q o es budget ≡ pick (may_run (cluster_at w) h k q o es) (ran (cluster_at w) (site_of (cluster_at w) h k q o) (events_of (cluster_at w).sizes es budget)) (halts STATE w h k q o)
  unfolding run_of both
  run-fit f = rw f

  -- what a refused run of the cluster left, and what one that was not refused did
  module _ (c : Cluster) (t : Ran) (h' k' q' o' : List ℕ) where
    halted : (ok : Bool) (x : Finish) (ev : List Event) (why : Refusal) → Runs c ok ev h k q o t h' k' q' o' → t.answer ≡ Err why
        → Finishes (pick ok x (halts STATE w h k q o)) (number why) w h' k' q' o'
    unfolding pick
    halted true x ev why r z = absurd (number-not why (sym (code-err t.answer why z) ∙ r.code))
    halted false x ev why r z = record {
      code = sym (code-err t.answer why z) ∙ r.code;
      held = refl;
      hists = ap (λ (s : Site). s.hists) r.site;
      cands = ap (λ (s : Site). s.cands) r.site;
      queue = ap (λ (s : Site). s.queue) r.site;
      box = ap (λ (s : Site). s.box) r.site;
    }

    went : (ok : Bool) (x : Finish) (ev : List Event) (w' : List ℕ) → Runs c ok ev h k q o t h' k' q' o' → code_of t.answer ≡ 0 → w' ≡ held_of t.cluster t.met t.taken
        → Finishes (pick ok (ran c (site_of c h k q o) ev) x) 0 w' h' k' q' o'
    unfolding ran pick
    went true x ev w' r z e = record {
      code = refl;
      held = e ∙ (λ i. held_of (record { sizes = r.sizes i; depth = r.depth i; servers = (r.site i).servers; rings = (r.site i).rings }) (r.met i) (r.taken i));
      hists = ap (λ (s : Site). s.hists) r.site;
      cands = ap (λ (s : Site). s.cands) r.site;
      queue = ap (λ (s : Site). s.queue) r.site;
      box = ap (λ (s : Site). s.box) r.site;
    }
    went false x ev w' r z e = let y : code_of t.answer ≡ 1 = r.code in absurd (omega arith)

    pub run-refused : (ev : List Event) (why : Refusal) → held_fits w ≡ true → c ≡ cluster_at w → Runs c (may_run c h k q o es) ev h k q o t h' k' q' o' → t.answer ≡ Err why
        → Finishes (run_of w h k q o es budget) (number why) w h' k' q' o'
    run-refused ev why f e r z = rw (run-fit f, ← e) (halted (may_run c h k q o es) _ ev why r z)

    pub run-done : (w' : List ℕ) → held_fits w ≡ true → c ≡ cluster_at w → Runs c (may_run c h k q o es) (events_of c.sizes es budget) h k q o t h' k' q' o' → code_of t.answer ≡ 0
        → w' ≡ held_of t.cluster t.met t.taken → Finishes (run_of w h k q o es budget) 0 w' h' k' q' o'
    run-done w' f e r z x = rw (run-fit f, ← e) (went (may_run c h k q o es) _ (events_of c.sizes es budget) w' r z x)

-- two results that meet the statement are equal, and so is every word
pub one-finish : (x : Finish) (r r' : ℕ) (w h k q o w' h' k' q' o' : List ℕ) → Finishes x r w h k q o → Finishes x r' w' h' k' q' o'
    → (r ≡ r') × ((w ≡ w') × ((h ≡ h') × ((k ≡ k') × ((q ≡ q') × (o ≡ o')))))
one-finish x r r' w h k q o w' h' k' q' o' a b =
    (a.code ∙ sym b.code, (a.held ∙ sym b.held, (a.hists ∙ sym b.hists, (a.cands ∙ sym b.cands, (a.queue ∙ sym b.queue, a.box ∙ sym b.box)))))

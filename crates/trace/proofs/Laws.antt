-- One law for each answer of a record's step.
use Prim.Native.Nat.{ℕ, zero, suc, ◌+◌, ◌-◌, ◌≤◌, ◌<◌, max}
use mathlib.Core.Path.{◌≡◌, refl, sym, ap, ◌∙◌, subst}
use mathlib.Core.Bool.{Bool, true, false, not}
use mathlib.Core.List.{List, [], ◌∷◌, ◌++◌, map, append_assoc}
use native.Mathlib.Omega.{arith}
use lib.Dec.{eqb, leb, ltb}
use lib.ListN.{length, take, drop, get_or, set, length-append, length-map, length-set, take-append-drop}
use lib.Seq.{get_or-take, get_or-set_same, get_or-set_other, take-suc-set, set_split}
use borrow.Author.Tests.{eqb-false, eq-eqb, ne_eqb, le-leb, lt-leb, lt-ltb, le-ltb, leb-true}
use Rattle.base.proofs.Entry.{same_true}
use Rattle.base.specs.Choice.{pick, both, either, upd}
use Rattle.base.specs.Record.{Entry, Rec, E, B, «V», X, same}
use Rattle.base.proofs.Choice.{tests, case, clash, eq-cases, both_true}
use Rattle.trace.specs.Rules.{less, any_e, rule1, rule2, has_e, count_b, any_b, vs, lowest, broken, sound}
use Rattle.trace.specs.Fold.{none, mem, st_of}
use Rattle.trace.specs.Held.{any_v}
use Rattle.trace.specs.Words.{kind_of, who_of, epoch_at, counter_at, entry_at, rec_at, past_at, grown, laid, latest_of}
use Rattle.trace.specs.Step.{Holds, Stepped, Source, inside_of, late_of}
use Rattle.std.specs.Prelude.{Result, Ok, Err, Some}
use Rattle.trace.specs.declared.step.State.{State}
use Rattle.trace.specs.declared.Rule.{Rule}
use Rattle.trace.specs.declared.Rule.TheVariants.{OneE, CountersRun, EarlierB, OneBegins, EarlierEpochs}
use Rattle.trace.specs.Number.{number}
use Rattle.trace.proofs.Exact.{last-is, has-any}
use Rattle.trace.proofs.Four.{at_in}
use Rattle.trace.proofs.Main.{step-inv}
use Rattle.trace.proofs.Records.{rec-e, rec-b, rec-v, rec-x}
use Rattle.trace.proofs.Ruling.{past-length, cnt-is, grown-is, delivered-submitted, last_none, less_none, near, judge-e, judge-b, judge-v, judge-x}

get-map : (f : ℕ → Entry) (m : List ℕ) (k : ℕ) → k < length m → get_or (map f m) k none ≡ f (get_or m k 0)
get-map f [] k h = absurd (omega arith)
get-map f (x ∷ m) zero h = refl
get-map f (x ∷ m) (suc k) h = get-map f m k (omega arith)

-- ---- rule 2

module _ (w : List ℕ) (i : ℕ) (k1 : rule1 (past_at w i) ≡ true) (k2 : rule2 (past_at w i) ≡ true) where
  pub follows-none : 0 ≡ latest_of w (epoch_at w i) i → false ≡ both (has_e (who_of w i) (epoch_at w i) (past_at w i)) (eqb (counter_at w i) (count_b (epoch_at w i) (past_at w i) + 1))
  unfolding both
  follows-none z =
      let y : any_e (epoch_at w i) (past_at w i) ≡ false = (near w (epoch_at w i) i k1 k2).no (sym z) in
      rw (has-any (past_at w i) (who_of w i) (epoch_at w i) y)

  module _ {j x y : ℕ} (last : suc j ≡ latest_of w (epoch_at w i) i) (ex : x ≡ who_of w j) (ey : y ≡ who_of w i) where
    owner : has_e (who_of w i) (epoch_at w i) (past_at w i) ≡ eqb y x
    owner = ((near w (epoch_at w i) i k1 k2).at j (sym last)).own (who_of w i) ∙ rw (← ex, ← ey)

    count : count_b (epoch_at w i) (past_at w i) ≡ pick (eqb (kind_of w j) 1) 0 (counter_at w j)
    count = ((near w (epoch_at w i) i k1 k2).at j (sym last)).cnt

    pub follows-other : (x ≡ y → ⊥) → false ≡ both (has_e (who_of w i) (epoch_at w i) (past_at w i)) (eqb (counter_at w i) (count_b (epoch_at w i) (past_at w i) + 1))
    unfolding both
    follows-other n = rw (owner, ne_eqb y x (λ q. n (sym q)))

    module _ {c : ℕ} (q : x ≡ y) (ec : c ≡ counter_at w i) (one : 1 ≤ counter_at w i) where
      pub follows-e : kind_of w j ≡ 1 → eqb (c - 1) 0 ≡ both (has_e (who_of w i) (epoch_at w i) (past_at w i)) (eqb (counter_at w i) (count_b (epoch_at w i) (past_at w i) + 1))
      unfolding both pick
      follows-e z = rw (owner, eq-eqb y x (sym q), count, eq-eqb (kind_of w j) 1 z, ← ec)
          (case (eqb (c - 1) 0) (λ r. rw r (sym (eq-eqb c (0 + 1) (omega tests)))) (λ r. rw r (sym (ne_eqb c (0 + 1) (λ d. eqb-false (c - 1) 0 r (omega arith))))))

      pub follows-b : {d : ℕ} → (kind_of w j ≡ 1 → ⊥) → d ≡ counter_at w j → eqb d (c - 1) ≡ both (has_e (who_of w i) (epoch_at w i) (past_at w i)) (eqb (counter_at w i) (count_b (epoch_at w i) (past_at w i) + 1))
      unfolding both pick
      follows-b {d} z ed = rw (owner, eq-eqb y x (sym q), count, ne_eqb (kind_of w j) 1 z, ← ec, ← ed)
          (case (eqb d (c - 1)) (λ r. rw r (sym (eq-eqb c (d + 1) (omega tests)))) (λ r. rw r (sym (ne_eqb c (d + 1) (λ e. eqb-false d (c - 1) r (omega arith))))))

-- ---- a V inside the longest

module _ (w : List ℕ) (at i x : ℕ) (s : State) {b : Bool} (e : b ≡ same (entry_at w i) (entry_at w at)) where
  pub inside_on : b ≡ true → ◌≡◌ {A = Result State Rule} (Ok (record { counts = set s.counts x (get_or s.counts x 0 + 1); len = s.len; top = s.top; seen = s.seen })) (inside_of w at i x s)
  unfolding inside_of pick
  inside_on z = rw (← e, z)

  module _ (z : b ≡ false) where
    pub inside-four : any_b (entry_at w i) (past_at w i) ≡ true → ◌≡◌ {A = Result State Rule} (Err OneBegins) (inside_of w at i x s)
    unfolding inside_of pick
    inside-four l = rw (← e, z, l)

    pub inside-three : any_b (entry_at w i) (past_at w i) ≡ false → ◌≡◌ {A = Result State Rule} (Err EarlierB) (inside_of w at i x s)
    unfolding inside_of pick
    inside-three l = rw (← e, z, l)

-- ---- the step

module _ (n : ℕ) (w sp : List ℕ) (i : ℕ) (s : State) (H : Holds n (past_at w i) sp i s) (g : sound n (rec_at w i) ≡ true) where
  stop : (k : Rule) → broken n (rec_at w i ∷ past_at w i) ≡ number k → Stepped n w sp i (Err k) sp
  stop k e = record { rule = sym e; stays = refl }

  laid_same : laid (grown (past_at w i)) sp ≡ sp
  unfolding laid
  laid_same =
      ap (λ (m : List ℕ). m ++ drop (length (grown (past_at w i))) sp) (sym H.laid) ∙ ap (λ (k : ℕ). take s.len sp ++ drop k sp) (sym H.len) ∙ take-append-drop s.len sp

  on : (r : Rec) (t : State) → rec_at w i ≡ r → broken n (r ∷ past_at w i) ≡ 0 → grown (r ∷ past_at w i) ≡ grown (past_at w i) → Holds n (r ∷ past_at w i) sp (suc i) t
      → Stepped n w sp i (Ok t) sp
  on r t q z u h = record {
    rule = sym (ap (λ (x : Rec). broken n (x ∷ past_at w i)) q ∙ z);
    goes = subst (λ (x : Rec). Holds n (x ∷ past_at w i) sp (suc i) t) (sym q) h;
    space = sym (ap (λ (x : Rec). laid (grown (x ∷ past_at w i)) sp) q ∙ ap (λ (m : List ℕ). laid m sp) u ∙ laid_same);
  }

  sound-at : (r : Rec) → rec_at w i ≡ r → sound n r ≡ true
  sound-at r q = subst (λ (x : Rec). sound n x ≡ true) q g

  -- ---- X

  pub x-on : (kind_of w i ≡ 1 → ⊥) → (kind_of w i ≡ 2 → ⊥) → (kind_of w i ≡ 3 → ⊥) → Stepped n w sp i (Ok s) sp
  x-on a b d =
      let z = judge-x n (past_at w i) H.inv (who_of w i) (epoch_at w i) in
      on (X (who_of w i) (epoch_at w i)) s (rec-x w i a b d) z refl
      (record { inv = step-inv n (past_at w i) H.inv (X (who_of w i) (epoch_at w i)) refl z; laid = H.laid; len = H.len; size = H.size; cnt = H.cnt; top = H.top; seen = omega (arith, H.seen) })

  -- ---- E

  module _ (q : kind_of w i ≡ 1) where
    e-rule : broken n (rec_at w i ∷ past_at w i) ≡ pick (any_e (epoch_at w i) (past_at w i)) 1 0
    e-rule = ap (λ (x : Rec). broken n (x ∷ past_at w i)) (rec-e w i q) ∙ judge-e n (past_at w i) H.inv (who_of w i) (epoch_at w i) (sound-at (E (who_of w i) (epoch_at w i)) (rec-e w i q))

    pub e-new : 0 ≡ latest_of w (epoch_at w i) i → Stepped n w sp i (Ok s) sp
    unfolding pick
    e-new u =
        let f : any_e (epoch_at w i) (past_at w i) ≡ false = (near w (epoch_at w i) i H.inv.kept.k1 H.inv.kept.k2).no (sym u) in
        let z : broken n (E (who_of w i) (epoch_at w i) ∷ past_at w i) ≡ 0 = sym (ap (λ (x : Rec). broken n (x ∷ past_at w i)) (rec-e w i q)) ∙ e-rule ∙ rw f in
        on (E (who_of w i) (epoch_at w i)) s (rec-e w i q) z refl
        (record {
          inv = step-inv n (past_at w i) H.inv (E (who_of w i) (epoch_at w i)) (sound-at (E (who_of w i) (epoch_at w i)) (rec-e w i q)) z;
          laid = H.laid;
          len = H.len;
          size = H.size;
          cnt = H.cnt;
          top = H.top;
          seen = omega (arith, H.seen);
        })

    pub e-old : {j : ℕ} → suc j ≡ latest_of w (epoch_at w i) i → Stepped n w sp i (Err OneE) sp
    unfolding pick
    e-old {j} u = stop OneE (e-rule ∙ rw ((near w (epoch_at w i) i H.inv.kept.k1 H.inv.kept.k2).at j (sym u)).any)

  -- ---- the longest

  pub seq-len : length (st_of (past_at w i)).seq ≡ s.len
  seq-len = ap length (sym (grown-is w i)) ∙ length-map (grown (past_at w i)) (entry_at w) ∙ sym H.len

  seq-at : (k : ℕ) → k < s.len → get_or (st_of (past_at w i)).seq k none ≡ entry_at w (get_or sp k 0)
  seq-at k h =
      ap (λ (l : List Entry). get_or l k none) (sym (grown-is w i)) ∙ get-map (entry_at w) (grown (past_at w i)) k (omega (arith, H.len))
      ∙ ap (λ (l : List ℕ). entry_at w (get_or l k 0)) (sym H.laid) ∙ ap (entry_at w) (get_or-take s.len sp k 0 h)

  seq-is : map (entry_at w) (take s.len sp) ≡ (st_of (past_at w i)).seq
  seq-is = ap (map (entry_at w)) H.laid ∙ grown-is w i

  -- how many server x has delivered
  counted : {x : ℕ} → x ≡ who_of w i → x < 7 → (st_of (past_at w i)).cnt (who_of w i) ≡ get_or s.counts x 0
  counted {x} ex x7 = ap (st_of (past_at w i)).cnt (sym ex) ∙ sym (H.cnt x x7)

  -- ---- B

  module _ (q : kind_of w i ≡ 2) {b : Bool}
      (f : rule1 (past_at w i) ≡ true → rule2 (past_at w i) ≡ true → b ≡ both (has_e (who_of w i) (epoch_at w i) (past_at w i)) (eqb (counter_at w i) (count_b (epoch_at w i) (past_at w i) + 1))) where
    b-sound : sound n (B (who_of w i) (entry_at w i)) ≡ true
    b-sound = sound-at (B (who_of w i) (entry_at w i)) (rec-b w i q)

    b-rule : broken n (B (who_of w i) (entry_at w i) ∷ past_at w i)
        ≡ lowest true b true true (either (leb (length (st_of (past_at w i)).seq) ((st_of (past_at w i)).cnt (who_of w i))) (leb (epoch_at w i) (get_or (st_of (past_at w i)).seq ((st_of (past_at w i)).cnt (who_of w i)) none).ep)) true
    b-rule = judge-b n (past_at w i) H.inv (who_of w i) (entry_at w i) b-sound ∙ rw (← f H.inv.kept.k1 H.inv.kept.k2)

    b-told : broken n (rec_at w i ∷ past_at w i) ≡ broken n (B (who_of w i) (entry_at w i) ∷ past_at w i)
    b-told = ap (λ (x : Rec). broken n (x ∷ past_at w i)) (rec-b w i q)

    pub b-two : b ≡ false → Stepped n w sp i (Err CountersRun) sp
    b-two z = stop CountersRun (b-told ∙ b-rule ∙ rw z)

    module _ {x : ℕ} {l : Bool} (yes-b : b ≡ true) (ex : x ≡ who_of w i) (x7 : x < 7)
        (el : l ≡ both (ltb (get_or s.counts x 0) s.len) (ltb (epoch_at w (get_or sp (get_or s.counts x 0) 0)) (epoch_at w i))) where
      five : either (leb (length (st_of (past_at w i)).seq) ((st_of (past_at w i)).cnt (who_of w i))) (leb (epoch_at w i) (get_or (st_of (past_at w i)).seq ((st_of (past_at w i)).cnt (who_of w i)) none).ep) ≡ not l
      unfolding either both
      five = rw (seq-len, counted ex x7, el) (case (ltb (get_or s.counts x 0) s.len)
          (λ u. rw (u, lt-leb s.len (get_or s.counts x 0) (omega tests), seq-at (get_or s.counts x 0) (omega tests)) (flip (epoch_at w i) (epoch_at w (get_or sp (get_or s.counts x 0) 0))))
          (λ u. rw (u, le-leb s.len (get_or s.counts x 0) (omega tests))))
        where
          flip : (a d : ℕ) → leb a d ≡ not (ltb d a)
          flip a d = case (ltb d a) (λ u. rw u (lt-leb a d (omega tests))) (λ u. rw u (le-leb a d (omega tests)))

      b-zero : l ≡ false → broken n (B (who_of w i) (entry_at w i) ∷ past_at w i) ≡ 0
      b-zero z = b-rule ∙ rw (five, z, yes-b)

      pub b-five : l ≡ true → Stepped n w sp i (Err EarlierEpochs) sp
      b-five z = stop EarlierEpochs (b-told ∙ b-rule ∙ rw (five, z, yes-b))

      pub b-on : {h e : ℕ} → l ≡ false → e ≡ epoch_at w i → h ≡ max s.top e
          → Stepped n w sp i (Ok (record { counts = s.counts; len = s.len; top = h; seen = s.seen })) sp
      unfolding pick
      b-on {h} {e} z ee eh =
          on (B (who_of w i) (entry_at w i)) (record { counts = s.counts; len = s.len; top = h; seen = s.seen }) (rec-b w i q) (b-zero z) refl
          (record {
            inv = step-inv n (past_at w i) H.inv (B (who_of w i) (entry_at w i)) b-sound (b-zero z);
            laid = H.laid;
            len = H.len;
            size = H.size;
            cnt = H.cnt;
            top = eh ∙ ap (max s.top) ee ∙ case (leb s.top (epoch_at w i)) (λ p. rw (← H.top, p) (omega tests)) (λ p. rw (← H.top, p) (omega tests));
            seen = omega (arith, H.seen);
          })

  -- ---- V

  module _ (q : kind_of w i ≡ 3) {x : ℕ} (ex : x ≡ who_of w i) (x7 : x < 7) where
    v-sound : sound n («V» (who_of w i) (entry_at w i)) ≡ true
    v-sound = sound-at («V» (who_of w i) (entry_at w i)) (rec-v w i q)

    v-told : broken n (rec_at w i ∷ past_at w i) ≡ broken n («V» (who_of w i) (entry_at w i) ∷ past_at w i)
    v-told = ap (λ (r : Rec). broken n (r ∷ past_at w i)) (rec-v w i q)

    v-epoch : 1 ≤ epoch_at w i
    v-epoch = leb-true 1 (epoch_at w i) (both_true (leb 1 (epoch_at w i)) (leb 1 (counter_at w i)) (both_true (ltb (who_of w i) n) _ v-sound).1).0

    v-rule : broken n («V» (who_of w i) (entry_at w i) ∷ past_at w i)
        ≡ lowest true true (any_b (entry_at w i) (past_at w i)) (either (leb s.len (get_or s.counts x 0)) (same (entry_at w i) (get_or (st_of (past_at w i)).seq (get_or s.counts x 0) none)))
        (either (ltb (get_or s.counts x 0) s.len) (either (leb s.top (epoch_at w i)) (both (not (less ((st_of (past_at w i)).last (who_of w i)) (entry_at w i))) (mem (entry_at w i) (st_of (past_at w i)).seq))))
        (less ((st_of (past_at w i)).last (who_of w i)) (entry_at w i))
    v-rule = judge-v n (past_at w i) H.inv (who_of w i) (entry_at w i) v-sound ∙ rw (seq-len, counted ex x7, ← H.top)

    -- before any V of the server, its last is below every transaction
    v-first : get_or s.counts x 0 ≡ 0 → less ((st_of (past_at w i)).last (who_of w i)) (entry_at w i) ≡ true
    v-first z =
        ap (λ (u : Entry). less u (entry_at w i)) (last-is (past_at w i) (who_of w i) ∙ last_none (past_at w i) (who_of w i) (sym (cnt-is (past_at w i) (who_of w i)) ∙ counted ex x7 ∙ z)) ∙ less_none (entry_at w i) v-epoch

    v-last : (k : ℕ) → get_or s.counts x 0 ≡ suc k → (st_of (past_at w i)).last (who_of w i) ≡ get_or (st_of (past_at w i)).seq k none
    v-last k z = H.inv.seqs.last (who_of w i) k (counted ex x7 ∙ z)

    -- the counts after it
    v-cnt : (y : ℕ) → y < 7 → get_or (set s.counts x (get_or s.counts x 0 + 1)) y 0 ≡ upd (st_of (past_at w i)).cnt (who_of w i) (suc ((st_of (past_at w i)).cnt (who_of w i))) y
    unfolding upd pick
    v-cnt y h = eq-cases (λ (b : Bool). get_or (set s.counts x (get_or s.counts x 0 + 1)) y 0 ≡ pick b (suc ((st_of (past_at w i)).cnt (who_of w i))) ((st_of (past_at w i)).cnt y)) y (who_of w i)
        (λ e. let d : y ≡ x = e ∙ sym ex in rw (d, get_or-set_same s.counts x (get_or s.counts x 0 + 1) 0 (omega (arith, H.size))) (omega (arith, (counted ex x7))))
        (λ e. get_or-set_other s.counts x y (get_or s.counts x 0 + 1) 0 (λ d. e (d ∙ ex)) ∙ H.cnt y h)

    vs-count : length (vs (who_of w i) (past_at w i)) ≡ get_or s.counts x 0
    vs-count = sym (cnt-is (past_at w i) (who_of w i)) ∙ counted ex x7

    -- inside the longest
    module _ (low : get_or s.counts x 0 < s.len) where
      in-grown : grown («V» (who_of w i) (entry_at w i) ∷ past_at w i) ≡ grown (past_at w i)
      unfolding pick
      in-grown = rw (lt-leb (length (grown (past_at w i))) (length (vs (who_of w i) (past_at w i))) (omega (arith, vs-count, H.len)))

      in-zero : same (entry_at w i) (entry_at w (get_or sp (get_or s.counts x 0) 0)) ≡ true → broken n («V» (who_of w i) (entry_at w i) ∷ past_at w i) ≡ 0
      unfolding either
      in-zero e =
          let y : same (entry_at w i) (get_or (st_of (past_at w i)).seq (get_or s.counts x 0) none) ≡ true = rw (seq-at (get_or s.counts x 0) low) e in
          let d : entry_at w i ≡ get_or (st_of (past_at w i)).seq (get_or s.counts x 0) none = same_true (entry_at w i) (get_or (st_of (past_at w i)).seq (get_or s.counts x 0) none) y in
          let v : any_v (entry_at w i) (past_at w i) ≡ true = H.inv.seqs.any (entry_at w i) ∙ ap (λ (u : Entry). mem u (st_of (past_at w i)).seq) d ∙ at_in (st_of (past_at w i)).seq (get_or s.counts x 0) (omega (arith, seq-len)) in
          v-rule ∙ rw (delivered-submitted (past_at w i) (entry_at w i) H.inv.kept.k3 v, lt-leb s.len (get_or s.counts x 0) low, y, lt-ltb (get_or s.counts x 0) s.len low, rises d (get_or s.counts x 0) refl)
        where
          rises : entry_at w i ≡ get_or (st_of (past_at w i)).seq (get_or s.counts x 0) none → (k : ℕ) → get_or s.counts x 0 ≡ k → less ((st_of (past_at w i)).last (who_of w i)) (entry_at w i) ≡ true
          rises d zero z = v-first z
          rises d (suc k) z =
              ap (λ (u : Entry). less u (entry_at w i)) (v-last k z)
              ∙ ap (less (get_or (st_of (past_at w i)).seq k none)) d
              ∙ H.inv.seqs.rise k (get_or s.counts x 0) (omega arith) (omega (arith, seq-len))

      in_three : same (entry_at w i) (entry_at w (get_or sp (get_or s.counts x 0) 0)) ≡ false → broken n («V» (who_of w i) (entry_at w i) ∷ past_at w i) ≡ number (pick (any_b (entry_at w i) (past_at w i)) OneBegins EarlierB)
      unfolding either pick
      in_three e =
          let y : same (entry_at w i) (get_or (st_of (past_at w i)).seq (get_or s.counts x 0) none) ≡ false = rw (seq-at (get_or s.counts x 0) low) e in
          v-rule ∙ rw (lt-leb s.len (get_or s.counts x 0) low, y) (case (any_b (entry_at w i) (past_at w i)) (λ u. rw u) (λ u. rw u))

      pub v-inside : {r : Result State Rule} → r ≡ inside_of w (get_or sp (get_or s.counts x 0) 0) i x s → Stepped n w sp i r sp
      unfolding inside_of pick
      v-inside {r} e = subst (λ (y : Result State Rule). Stepped n w sp i y sp) (sym e) (go (same (entry_at w i) (entry_at w (get_or sp (get_or s.counts x 0) 0))) refl)
        where
          go : (b : Bool) → same (entry_at w i) (entry_at w (get_or sp (get_or s.counts x 0) 0)) ≡ b
              → Stepped n w sp i (pick b (Ok (record { counts = set s.counts x (get_or s.counts x 0 + 1); len = s.len; top = s.top; seen = s.seen })) (Err (pick (any_b (entry_at w i) (past_at w i)) OneBegins EarlierB))) sp
          go true z =
              on («V» (who_of w i) (entry_at w i)) (record { counts = set s.counts x (get_or s.counts x 0 + 1); len = s.len; top = s.top; seen = s.seen }) (rec-v w i q) (in-zero z) in-grown
              (record {
                inv = step-inv n (past_at w i) H.inv («V» (who_of w i) (entry_at w i)) v-sound (in-zero z);
                laid = H.laid ∙ sym in-grown;
                len = H.len ∙ ap length (sym in-grown);
                size = length-set s.counts x (get_or s.counts x 0 + 1) ∙ H.size;
                cnt = v-cnt;
                top = H.top;
                seen = omega (arith, H.seen);
              })
          go false z = stop (pick (any_b (entry_at w i) (past_at w i)) OneBegins EarlierB) (v-told ∙ in_three z)

    -- one that makes the longest longer
    module _ (full : s.len ≤ get_or s.counts x 0) where
      whole : get_or s.counts x 0 ≡ s.len
      whole = omega (arith, H.inv.seqs.len (who_of w i), counted ex x7, seq-len)

      pub v-three : any_b (entry_at w i) (past_at w i) ≡ false → Stepped n w sp i (Err EarlierB) sp
      v-three z = stop EarlierB (v-told ∙ v-rule ∙ rw z)

      top_of : any_b (entry_at w i) (past_at w i) ≡ true → broken n («V» (who_of w i) (entry_at w i) ∷ past_at w i) ≡ late_of w sp i s.len s.top
      unfolding late_of either both pick
      top_of b =
          v-rule ∙ rw (b, le-leb s.len (get_or s.counts x 0) full, le-ltb (get_or s.counts x 0) s.len full, seq-is)
          (mix (less ((st_of (past_at w i)).last (who_of w i)) (entry_at w i)) (pick (eqb s.len 0) true (less (entry_at w (get_or sp (s.len - 1) 0)) (entry_at w i)))
          (leb s.top (epoch_at w i)) (mem (entry_at w i) (st_of (past_at w i)).seq) (up s.len refl))
        where
          up : (m : ℕ) → s.len ≡ m → less ((st_of (past_at w i)).last (who_of w i)) (entry_at w i) ≡ pick (eqb s.len 0) true (less (entry_at w (get_or sp (s.len - 1) 0)) (entry_at w i))
          up zero z = v-first (whole ∙ z) ∙ rw (eq-eqb s.len 0 z)
          up (suc m) z =
              let y : s.len - 1 ≡ m = omega arith in
              let d : s.len ≡ 0 → ⊥ = λ e. omega arith in
              ap (λ (u : Entry). less u (entry_at w i)) (v-last m (whole ∙ z) ∙ seq-at m (omega arith)) ∙ rw (ne_eqb s.len 0 d, y)

          mix : (a b d m : Bool) → a ≡ b → lowest true true true true (either d (both (not a) m)) a ≡ pick b (pick d 0 5) (pick (either d m) 6 5)
          mix true true true m e = refl
          mix true true false m e = refl
          mix false false true m e = refl
          mix false false false true e = refl
          mix false false false false e = refl
          mix true false d m e = clash refl e
          mix false true d m e = clash e refl

      module _ {k : ℕ} (src : Source w i (Some k)) where
        pub v-late : {r : Rule} → number r ≡ late_of w sp i s.len s.top → Stepped n w sp i (Err r) sp
        v-late {r} ev = stop r (v-told ∙ top_of src.1 ∙ sym ev)

        long-grown : grown («V» (who_of w i) (entry_at w i) ∷ past_at w i) ≡ grown (past_at w i) ++ (i ∷ [])
        unfolding pick
        long-grown = rw (le-leb (length (grown (past_at w i))) (length (vs (who_of w i) (past_at w i))) (omega (arith, vs-count, H.len)), past-length w i)

        long-laid : i < length sp → s.len ≤ i → set sp s.len i ≡ laid (grown (past_at w i) ++ (i ∷ [])) sp
        unfolding laid
        long-laid room le =
            let y : length (grown (past_at w i) ++ (i ∷ [])) ≡ suc s.len = omega (arith, length-append (grown (past_at w i)) (i ∷ []), H.len) in
            set_split sp s.len i (omega arith) ∙ rw (y, append_assoc (grown (past_at w i)) (i ∷ []) (drop (suc s.len) sp), H.laid)

        pub v-on : i < length sp → s.len ≤ i → 0 ≡ late_of w sp i s.len s.top
            → Stepped n w sp i (Ok (record { counts = set s.counts x (get_or s.counts x 0 + 1); len = s.len + 1; top = s.top; seen = k })) (set sp s.len i)
        v-on room le z =
            let b : broken n («V» (who_of w i) (entry_at w i) ∷ past_at w i) ≡ 0 = top_of src.1 ∙ sym z in
            let h : Holds n («V» (who_of w i) (entry_at w i) ∷ past_at w i) (set sp s.len i) (suc i) (record { counts = set s.counts x (get_or s.counts x 0 + 1); len = s.len + 1; top = s.top; seen = k })
            = record {
              inv = step-inv n (past_at w i) H.inv («V» (who_of w i) (entry_at w i)) v-sound b;
              laid = (let y : s.len + 1 ≡ suc s.len = omega arith in rw y (take-suc-set sp s.len i (omega arith) ∙ ap (λ (m : List ℕ). m ++ (i ∷ [])) H.laid) ∙ sym long-grown);
              len = (omega (arith, length-append (grown (past_at w i)) (i ∷ []), H.len, ap length long-grown));
              size = length-set s.counts x (get_or s.counts x 0 + 1) ∙ H.size;
              cnt = v-cnt;
              top = H.top;
              seen = omega (arith, src.0);
            } in
            record {
              rule = sym (v-told ∙ b);
              goes = subst (λ (r : Rec). Holds n (r ∷ past_at w i) (set sp s.len i) (suc i) (record { counts = set s.counts x (get_or s.counts x 0 + 1); len = s.len + 1; top = s.top; seen = k })) (sym (rec-v w i q)) h;
              space = long-laid room le ∙ sym (ap (λ (r : Rec). laid (grown (r ∷ past_at w i)) sp) (rec-v w i q) ∙ ap (λ (m : List ℕ). laid m sp) long-grown);
            }

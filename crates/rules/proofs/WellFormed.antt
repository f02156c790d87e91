-- What "well formed" says, clause by clause, as facts; and back.
use Prim.Native.Nat.{ℕ, ◌+◌, ◌≤◌, ◌<◌}
use mathlib.Core.Path.{◌≡◌}
use mathlib.Core.Logic.{◌≢◌, ⊎_elim}
use mathlib.Core.Bool.{true, false, not}
use lib.Dec.{eqb, leb, ltb}
use lib.ListN.{length}
use borrow.Author.Tests.{eqb-true, eqb-false, leb-true, ltb-true, le-leb, lt-leb, lt-ltb, le-ltb, eq-eqb, ne_eqb}
use Rattle.base.specs.Choice.{both, either}
use Rattle.base.specs.Quorum.{Set}
use Rattle.base.specs.Transaction.{LAST, good_hist}
use Rattle.base.specs.declared.Sizes.{Sizes}
use Rattle.base.proofs.Choice.{case, clash, both_true, both_yes, both-no, either_true, either_left, either-right, not_is, is-not, implied, imply, unless, failed, all-at, all_of, le-or-lt}
use Rattle.rules.specs.Server.{Dur, Vol, Server, good_sizes, during, empty, inside, good_dur, good_epochs, good_oracle, good_sets, good_counts, good_largest, good_candidate, well_formed}

-- ---- the facts

pub record Sized (z : Sizes) : Type 0 where
  pub three : 3 ≤ z.n
  pub seven : z.n ≤ 7
  pub some : 1 ≤ z.room.0
  pub room : z.room.0 ≤ 64

pub record Durable (z : Sizes) (u : Dur) : Type 0 where
  pub small : u.p ≤ LAST
  pub order : u.a ≤ u.p
  pub fits : u.d ≤ length u.hist
  pub rules : good_hist z.room.0 u.a u.hist ≡ true

pub record Epochs (st : ℕ) (u : Dur) : Type 0 where
  pub f34 : 3 ≤ st → st ≤ 4 → u.a ≡ u.p
  pub l34 : 7 ≤ st → st ≤ 8 → u.a ≡ u.p
  pub f24 : 2 ≤ st → st ≤ 4 → 1 ≤ u.p
  pub l24 : 6 ≤ st → st ≤ 8 → 1 ≤ u.p

pub record Oracle (z : Sizes) (i st orc : ℕ) : Type 0 where
  pub known : st ≤ 8
  pub look : st ≡ 0 → orc ≡ 0
  pub follow : 1 ≤ st → st ≤ 4 → (1 ≤ orc) × (orc ≤ z.n) × (orc ≢ i + 1)
  pub lead : 5 ≤ st → st ≤ 8 → orc ≡ i + 1

pub record Sets (z : Sizes) (i st : ℕ) (v : Vol) : Type 0 where
  pub low : (t : ℕ) → t < 7 → v.joined t ≡ true → t < z.n
  pub self : 5 ≤ st → st ≤ 8 → v.joined i ≡ true
  pub acked : (t : ℕ) → t < 7 → v.acked t ≡ true → v.joined t ≡ true
  pub synced : (t : ℕ) → t < 7 → v.synced t ≡ true → v.joined t ≡ true
  pub alone : st < 5 → (t : ℕ) → t < 7 → v.joined t ≡ false
  pub unacked : st ≢ 6 → (t : ℕ) → t < 7 → v.acked t ≡ false
  pub unsynced : st < 7 → (t : ℕ) → t < 7 → v.synced t ≡ false

pub record Counts (z : Sizes) (st : ℕ) (u : Dur) (v : Vol) : Type 0 where
  pub held : (t : ℕ) → t < 7 → v.counts t ≤ length u.hist
  pub out : (t : ℕ) → t < 7 → z.n ≤ t → v.counts t ≡ 0
  pub early : st < 7 → (t : ℕ) → t < 7 → v.counts t ≡ 0

pub record Largest (st : ℕ) (u : Dur) (v : Vol) : Type 0 where
  pub small : v.largest ≤ LAST
  pub seen : st ≡ 5 → u.p ≤ v.largest
  pub off : st ≢ 5 → v.largest ≡ 0

pub record Candidate (z : Sizes) (st : ℕ) (u : Dur) (v : Vol) : Type 0 where
  pub young : st ≡ 6 → v.cand_epoch < u.p
  pub rules : good_hist z.room.0 v.cand_epoch v.cand_hist ≡ true
  pub off : st ≢ 6 → (v.cand_epoch ≡ 0) × (length v.cand_hist ≡ 0)

pub record Whole (z : Sizes) (i : ℕ) (s : Server) : Type 0 where
  pub low : i < z.n
  pub dur : Durable z s.dur
  pub epochs : Epochs s.stage s.dur
  pub orc : Oracle z i s.stage s.orc
  pub sets : Sets z i s.stage s.vol
  pub counts : Counts z s.stage s.dur s.vol
  pub largest : Largest s.stage s.dur s.vol
  pub cand : Candidate z s.stage s.dur s.vol

-- ---- stages

during-in : (lo hi st : ℕ) → during lo hi st ≡ true → (lo ≤ st) × (st ≤ hi)
unfolding during
during-in lo hi st e = let b = both_true (leb lo st) (leb st hi) e in (leb-true lo st b.0, leb-true st hi b.1)

in-during : (lo hi st : ℕ) → lo ≤ st → st ≤ hi → during lo hi st ≡ true
unfolding during
in-during lo hi st p q = both_yes (leb lo st) (leb st hi) (le-leb lo st p) (le-leb st hi q)

not-during : (lo hi st : ℕ) → st < lo → during lo hi st ≡ false
unfolding during both
not-during lo hi st p = rw (lt-leb lo st p)

-- ---- sizes

pub sized : (z : Sizes) → good_sizes z ≡ true → Sized z
unfolding good_sizes
sized z e =
    let a = both_true (leb 3 z.n) _ e in
    let b = both_true (leb z.n 7) _ a.1 in
    let c = both_true (leb 1 z.room.0) (leb z.room.0 64) b.1 in
    record { three = leb-true _ _ a.0; seven = leb-true _ _ b.0; some = leb-true _ _ c.0; room = leb-true _ _ c.1 }

-- ---- each clause, both ways

durable : (z : Sizes) (u : Dur) → good_dur z u ≡ true → Durable z u
unfolding good_dur
durable z u e =
    let a = both_true (leb u.p LAST) _ e in
    let b = both_true (leb u.a u.p) _ a.1 in
    let c = both_true (leb u.d (length u.hist)) _ b.1 in
    record { small = leb-true _ _ a.0; order = leb-true _ _ b.0; fits = leb-true _ _ c.0; rules = c.1 }

durable-shown : (z : Sizes) (u : Dur) → Durable z u → good_dur z u ≡ true
unfolding good_dur
durable-shown z u D = both_yes _ _ (le-leb _ _ D.small) (both_yes _ _ (le-leb _ _ D.order) (both_yes _ _ (le-leb _ _ D.fits) D.rules))

epochs : (st : ℕ) (u : Dur) → good_epochs st u ≡ true → Epochs st u
unfolding good_epochs
epochs st u e =
    let a = both_true (either (not (either (during 3 4 st) (during 7 8 st))) (eqb u.a u.p)) (either (not (either (during 2 4 st) (during 6 8 st))) (leb 1 u.p)) e in
    let x : either (during 3 4 st) (during 7 8 st) ≡ true → u.a ≡ u.p = λ h. eqb-true _ _ (implied _ _ a.0 h) in
    let y : either (during 2 4 st) (during 6 8 st) ≡ true → 1 ≤ u.p = λ h. leb-true _ _ (implied _ _ a.1 h) in
    record {
      f34 = λ p q. x (either_left _ _ (in-during 3 4 st p q));
      l34 = λ p q. x (either-right _ _ (in-during 7 8 st p q));
      f24 = λ p q. y (either_left _ _ (in-during 2 4 st p q));
      l24 = λ p q. y (either-right _ _ (in-during 6 8 st p q));
    }

epochs-shown : (st : ℕ) (u : Dur) → Epochs st u → good_epochs st u ≡ true
unfolding good_epochs
epochs-shown st u E = both_yes _ _
    (imply _ _ (λ h. eq-eqb _ _ (⊎_elim (λ x. let d = during-in 3 4 st x in E.f34 d.0 d.1) (λ x. let d = during-in 7 8 st x in E.l34 d.0 d.1) (either_true _ _ h))))
    (imply _ _ (λ h. le-leb _ _ (⊎_elim (λ x. let d = during-in 2 4 st x in E.f24 d.0 d.1) (λ x. let d = during-in 6 8 st x in E.l24 d.0 d.1) (either_true _ _ h))))

oracle : (z : Sizes) (i st orc : ℕ) → good_oracle z i st orc ≡ true → Oracle z i st orc
unfolding good_oracle
oracle z i st orc e =
    let a = both_true (leb st 8) _ e in
    let b = both_true (either (not (eqb st 0)) (eqb orc 0)) _ a.1 in
    let c = both_true (either (not (during 1 4 st)) (both (leb 1 orc) (both (leb orc z.n) (not (eqb orc (i + 1)))))) (either (not (during 5 8 st)) (eqb orc (i + 1))) b.1 in
    record {
      known = leb-true _ _ a.0;
      look = λ q. eqb-true _ _ (implied _ _ b.0 (eq-eqb _ _ q));
      follow = λ p q.
          let f = both_true (leb 1 orc) _ (implied _ _ c.0 (in-during 1 4 st p q)) in
          let g = both_true (leb orc z.n) (not (eqb orc (i + 1))) f.1 in
          (leb-true _ _ f.0, leb-true _ _ g.0, eqb-false orc (i + 1) (not_is _ g.1));
      lead = λ p q. eqb-true _ _ (implied _ _ c.1 (in-during 5 8 st p q));
    }

oracle-shown : (z : Sizes) (i st orc : ℕ) → Oracle z i st orc → good_oracle z i st orc ≡ true
unfolding good_oracle
oracle-shown z i st orc O = both_yes _ _ (le-leb _ _ O.known)
    (both_yes _ _ (imply _ _ (λ h. eq-eqb _ _ (O.look (eqb-true _ _ h))))
    (both_yes _ _
    (imply _ _ (λ h. let d = during-in 1 4 st h in let f = O.follow d.0 d.1 in
    both_yes _ _ (le-leb _ _ f.0) (both_yes _ _ (le-leb _ _ f.1) (is-not _ (ne_eqb _ _ f.2)))))
    (imply _ _ (λ h. let d = during-in 5 8 st h in eq-eqb _ _ (O.lead d.0 d.1)))))

empty-at : (q : Set) → empty q ≡ true → (t : ℕ) → t < 7 → q t ≡ false
unfolding empty
empty-at q e t h = not_is (q t) (all-at 7 (λ s. not (q s)) e t h)

at-empty : (q : Set) → ((t : ℕ) → t < 7 → q t ≡ false) → empty q ≡ true
unfolding empty
at-empty q f = all_of 7 (λ s. not (q s)) (λ t h. is-not (q t) (f t h))

inside-at : (q r : Set) → inside q r ≡ true → (t : ℕ) → t < 7 → q t ≡ true → r t ≡ true
unfolding inside
inside-at q r e t h = implied (q t) (r t) (all-at 7 (λ s. either (not (q s)) (r s)) e t h)

at-inside : (q r : Set) → ((t : ℕ) → t < 7 → q t ≡ true → r t ≡ true) → inside q r ≡ true
unfolding inside
at-inside q r f = all_of 7 (λ s. either (not (q s)) (r s)) (λ t h. imply (q t) (r t) (f t h))

sets : (z : Sizes) (i st : ℕ) (v : Vol) → good_sets z i st v ≡ true → Sets z i st v
unfolding good_sets
sets z i st v e =
    let a = both_true (inside v.joined (λ s. ltb s z.n)) _ e in
    let b = both_true (either (not (during 5 8 st)) (v.joined i)) _ a.1 in
    let c = both_true (inside v.acked v.joined) _ b.1 in
    let d = both_true (inside v.synced v.joined) _ c.1 in
    let f = both_true (either (during 5 8 st) (empty v.joined)) _ d.1 in
    let g = both_true (either (eqb st 6) (empty v.acked)) (either (during 7 8 st) (empty v.synced)) f.1 in
    record {
      low = λ t h j. ltb-true _ _ (inside-at v.joined (λ s. ltb s z.n) a.0 t h j);
      self = λ p q. implied _ _ b.0 (in-during 5 8 st p q);
      acked = inside-at v.acked v.joined c.0;
      synced = inside-at v.synced v.joined d.0;
      alone = λ p. empty-at v.joined (failed _ _ f.0 (not-during 5 8 st p));
      unacked = λ p. empty-at v.acked (failed _ _ g.0 (ne_eqb _ _ p));
      unsynced = λ p. empty-at v.synced (failed _ _ g.1 (not-during 7 8 st p));
    }

sets-shown : (z : Sizes) (i st : ℕ) (v : Vol) → st ≤ 8 → Sets z i st v → good_sets z i st v ≡ true
unfolding good_sets
sets-shown z i st v top S =
    both_yes _ _ (at-inside v.joined (λ s. ltb s z.n) (λ t h j. lt-ltb _ _ (S.low t h j)))
    (both_yes _ _ (imply _ _ (λ h. let d = during-in 5 8 st h in S.self d.0 d.1))
    (both_yes _ _ (at-inside v.acked v.joined S.acked)
    (both_yes _ _ (at-inside v.synced v.joined S.synced)
    (both_yes _ _ (unless _ _ (λ h. at-empty v.joined (S.alone (below 5 h))))
    (both_yes _ _ (unless _ _ (λ h. at-empty v.acked (S.unacked (eqb-false st 6 h))))
    (unless _ _ (λ h. at-empty v.synced (S.unsynced (below 7 h)))))))))
  where
    below : (lo : ℕ) → during lo 8 st ≡ false → st < lo
    below lo h = ⊎_elim (λ (x : lo ≤ st). clash (in-during lo 8 st x top) h) (λ (x : st < lo). x) (le-or-lt lo st)

counts : (z : Sizes) (st : ℕ) (u : Dur) (v : Vol) → good_counts z st u v ≡ true → Counts z st u v
unfolding good_counts
counts z st u v e =
    let at : (t : ℕ) → t < 7 → both (leb (v.counts t) (length u.hist)) (either (both (ltb t z.n) (during 7 8 st)) (eqb (v.counts t) 0)) ≡ true
    = λ t h. all-at 7 (λ s. both (leb (v.counts s) (length u.hist)) (either (both (ltb s z.n) (during 7 8 st)) (eqb (v.counts s) 0))) e t h in
    record {
      held = λ t h. leb-true _ _ (both_true (leb (v.counts t) (length u.hist)) _ (at t h)).0;
      out = λ t h o. eqb-true _ _ (failed _ _ (both_true (leb (v.counts t) (length u.hist)) _ (at t h)).1 (outside t o));
      early = λ p t h. eqb-true _ _ (failed _ _ (both_true (leb (v.counts t) (length u.hist)) _ (at t h)).1 (both-no _ _ (not-during 7 8 st p)));
    }
  where
    outside : (t : ℕ) → z.n ≤ t → both (ltb t z.n) (during 7 8 st) ≡ false
    outside t o = let q : ltb t z.n ≡ false = le-ltb t z.n o in case (both (ltb t z.n) (during 7 8 st)) (λ h. clash (both_true _ _ h).0 q) (λ h. h)

counts-shown : (z : Sizes) (st : ℕ) (u : Dur) (v : Vol) → st ≤ 8 → Counts z st u v → good_counts z st u v ≡ true
unfolding good_counts
counts-shown z st u v top C = all_of 7 (λ s. both (leb (v.counts s) (length u.hist)) (either (both (ltb s z.n) (during 7 8 st)) (eqb (v.counts s) 0)))
    (λ t h. both_yes _ _ (le-leb _ _ (C.held t h)) (unless _ _ (λ n. eq-eqb _ _ (zero-at t h n))))
  where
    zero-at : (t : ℕ) → t < 7 → both (ltb t z.n) (during 7 8 st) ≡ false → v.counts t ≡ 0
    zero-at t h n = ⊎_elim
        (λ (x : z.n ≤ t). C.out t h x)
        (λ (x : t < z.n). ⊎_elim (λ (y : 7 ≤ st). clash (both_yes _ _ (lt-ltb _ _ x) (in-during 7 8 st y top)) n) (λ (y : st < 7). C.early y t h) (le-or-lt 7 st))
        (le-or-lt z.n t)

largest : (st : ℕ) (u : Dur) (v : Vol) → good_largest st u v ≡ true → Largest st u v
unfolding good_largest
largest st u v e =
    let a = both_true (leb v.largest LAST) _ e in
    let b = both_true (either (not (eqb st 5)) (leb u.p v.largest)) (either (eqb st 5) (eqb v.largest 0)) a.1 in
    record {
      small = leb-true _ _ a.0;
      seen = λ q. leb-true _ _ (implied _ _ b.0 (eq-eqb _ _ q));
      off = λ q. eqb-true _ _ (failed _ _ b.1 (ne_eqb _ _ q));
    }

largest-shown : (st : ℕ) (u : Dur) (v : Vol) → Largest st u v → good_largest st u v ≡ true
unfolding good_largest
largest-shown st u v L = both_yes _ _ (le-leb _ _ L.small)
    (both_yes _ _ (imply _ _ (λ h. le-leb _ _ (L.seen (eqb-true _ _ h)))) (unless _ _ (λ h. eq-eqb _ _ (L.off (eqb-false st 5 h)))))

candidate : (z : Sizes) (st : ℕ) (u : Dur) (v : Vol) → good_candidate z st u v ≡ true → Candidate z st u v
unfolding good_candidate
candidate z st u v e =
    let a = both_true (either (not (eqb st 6)) (ltb v.cand_epoch u.p)) _ e in
    let b = both_true (good_hist z.room.0 v.cand_epoch v.cand_hist) _ a.1 in
    record {
      young = λ q. ltb-true _ _ (implied _ _ a.0 (eq-eqb _ _ q));
      rules = b.0;
      off = λ q. let c = both_true (eqb v.cand_epoch 0) (eqb (length v.cand_hist) 0) (failed _ _ b.1 (ne_eqb _ _ q)) in (eqb-true _ _ c.0, eqb-true _ _ c.1);
    }

candidate-shown : (z : Sizes) (st : ℕ) (u : Dur) (v : Vol) → Candidate z st u v → good_candidate z st u v ≡ true
unfolding good_candidate
candidate-shown z st u v C = both_yes _ _ (imply _ _ (λ h. lt-ltb _ _ (C.young (eqb-true _ _ h))))
    (both_yes _ _ C.rules (unless _ _ (λ h. let o = C.off (eqb-false st 6 h) in both_yes _ _ (eq-eqb _ _ o.0) (eq-eqb _ _ o.1))))

-- ---- the whole record

pub whole : (z : Sizes) (i : ℕ) (s : Server) → well_formed z i s ≡ true → Whole z i s
unfolding well_formed
whole z i s e =
    let a = both_true (ltb i z.n) _ e in
    let b = both_true (good_dur z s.dur) _ a.1 in
    let c = both_true (good_epochs s.stage s.dur) _ b.1 in
    let d = both_true (good_oracle z i s.stage s.orc) _ c.1 in
    let f = both_true (good_sets z i s.stage s.vol) _ d.1 in
    let g = both_true (good_counts z s.stage s.dur s.vol) _ f.1 in
    let h = both_true (good_largest s.stage s.dur s.vol) (good_candidate z s.stage s.dur s.vol) g.1 in
    record {
      low = ltb-true _ _ a.0;
      dur = durable z s.dur b.0;
      epochs = epochs s.stage s.dur c.0;
      orc = oracle z i s.stage s.orc d.0;
      sets = sets z i s.stage s.vol f.0;
      counts = counts z s.stage s.dur s.vol g.0;
      largest = largest s.stage s.dur s.vol h.0;
      cand = candidate z s.stage s.dur s.vol h.1;
    }

pub whole-shown : (z : Sizes) (i : ℕ) (s : Server) → Whole z i s → well_formed z i s ≡ true
unfolding well_formed
whole-shown z i s W =
    let top = W.orc.known in
    both_yes _ _ (lt-ltb _ _ W.low)
    (both_yes _ _ (durable-shown z s.dur W.dur)
    (both_yes _ _ (epochs-shown s.stage s.dur W.epochs)
    (both_yes _ _ (oracle-shown z i s.stage s.orc W.orc)
    (both_yes _ _ (sets-shown z i s.stage s.vol top W.sets)
    (both_yes _ _ (counts-shown z s.stage s.dur s.vol top W.counts)
    (both_yes _ _ (largest-shown s.stage s.dur s.vol W.largest) (candidate-shown z s.stage s.dur s.vol W.cand)))))))

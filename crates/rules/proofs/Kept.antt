-- A step from a well-formed record leaves a well-formed record; everything it sends is well formed, to another server, and at most six messages.
use Prim.Native.Nat.{ℕ, zero, suc, ◌+◌, ◌-◌, ◌≤◌, ◌<◌, max}
use mathlib.Core.Path.{◌≡◌, refl, sym, ◌∙◌}
use mathlib.Core.Logic.{◌≢◌, ◌⊎◌, inr, ⊎_elim}
use mathlib.Core.Bool.{Bool, true, false}
use mathlib.Core.List.{List, []}
use native.Mathlib.Omega.{arith}
use lib.Dec.{eqb, ltb}
use lib.ListN.{length, length-append}
use borrow.Author.Tests.{eqb-true, eqb-false}
use Rattle.base.specs.Choice.{pick, upd}
use Rattle.base.specs.Quorum.{Set, nobody}
use Rattle.base.specs.Transaction.{Hist, LAST, ident, epoch_of, last_id, next_counter, good_hist}
use Rattle.base.specs.declared.Txn.{Txn}
use Rattle.base.specs.declared.Sizes.{Sizes}
use Rattle.base.proofs.Choice.{tests, clash, not_is, upd-at, upd_same, pick_at}
use Rattle.base.proofs.Quorum.{just-is, put_is, put_keeps, cut-is}
use Rattle.base.proofs.History.{length-snoc, ident-epoch}
use Rattle.base.proofs.Good.{Follows, good-len, good-up, good-nil, good-last, good-snoc, next-follows, next_small}
use Rattle.rules.specs.Message.{Msg, cepoch, newepoch, acke, newleader, ackld, commitld, propose, ack, commit, junk, Send, formed}
use Rattle.rules.specs.Server.{Dur, Vol, Server, idle, well_formed, good_sizes}
use Rattle.rules.specs.Tree.{taken, run, to_all, only}
use Rattle.rules.specs.Step.{delivered, moved, keeps, on_oracle, on_restart, l1_join, l2_join, l34_join, on_cepoch, l2_count, on_acke, advance, advanced, l3_sync, l4_advance, on_ackld, on_ack, on_newepoch, on_newleader, on_propose, on_commit, receive, submission, on_submit, Input, oracle, restart, message, submit, step}
use Rattle.rules.proofs.Table.{cepoch-in, newepoch-in, newleader-in, ackld-in, commitld-in, propose-in, ack-in, commit-in}
use Rattle.rules.proofs.Trees.{Leaves, run-leaves, gate-leaves, All, all_append, to-all, skips-self, skips-out, few-less, few-less₂}
use Rattle.rules.proofs.WellFormed.{Sized, Durable, Epochs, Oracle, Sets, Counts, Candidate, Whole, whole, whole-shown, sized}
use Rattle.rules.proofs.Formed

-- a well-formed message to another server
pub record Sendable (z : Sizes) (i : ℕ) (x : Send) : Type 0 where
  pub low : x.to < z.n
  pub other : x.to ≢ i
  pub fine : formed z x.msg ≡ true

pub record Kept (z : Sizes) (i : ℕ) (s : Server) (out : List Send) : Type 0 where
  pub srv : Whole z i s
  pub sent : All (Sendable z i) out
  pub few : length out ≤ 6

-- ---- volatile state that is cleared

idle-sets : (z : Sizes) (i st : ℕ) → st < 5 → Sets z i st idle
idle-sets z i st k = record {
  low = λ t h j. clash j refl;
  self = λ p q. absurd (omega arith);
  acked = λ t h j. clash j refl;
  synced = λ t h j. clash j refl;
  alone = λ _ t h. refl;
  unacked = λ _ t h. refl;
  unsynced = λ _ t h. refl;
}

no-counts : (z : Sizes) (st : ℕ) (u : Dur) (v : Vol) → ((t : ℕ) → t < 7 → v.counts t ≡ 0) → Counts z st u v
no-counts z st u v f = record { held = λ t h. omega (arith, f t h); out = λ t h _. f t h; early = λ _ t h. f t h }

no-candidate : (z : Sizes) (st : ℕ) (u : Dur) (v : Vol) → st ≢ 6 → v.cand_epoch ≡ 0 → v.cand_hist ≡ [] → Candidate z st u v
no-candidate z st u v n p q = record { young = λ e. absurd (n e); rules = rw q (good-nil z.room.0 v.cand_epoch); off = λ _. (p, rw q refl) }

-- ---- advance
-- advance stays between d and the length
pub advance-in : (n i : ℕ) (counts : ℕ → ℕ) (d k : ℕ) → (d ≤ advance n i counts d k) × (advance n i counts d k ≤ d + k)
unfolding advance
advance-in n i counts d zero = (omega arith, omega arith)
advance-in n i counts d (suc k) =
    let r = advance-in n i counts d k in
    pick_at (λ (c : ℕ). (d ≤ c) × (c ≤ d + suc k)) _ (d + suc k) (advance n i counts d k) (λ _. (omega arith, omega arith)) (λ _. (r.0, omega (arith, r.1)))

pub advanced-in : (n i : ℕ) (v : Vol) (u : Dur) → u.d ≤ length u.hist → (u.d ≤ advanced n i v u) × (advanced n i v u ≤ length u.hist)
unfolding advanced
advanced-in n i v u h = let r = advance-in n i v.counts u.d (length u.hist - u.d) in (r.0, omega (arith, r.1))

module _ (z : Sizes) (Z : Sized z) (i : ℕ) (s : Server) (W : Whole z i s) where
  -- the length of a history has 32 bits
  len-small : (h : Hist) (a : ℕ) → good_hist z.room.0 a h ≡ true → length h ≤ 64
  len-small h a g = omega (arith, good-len z.room.0 a h g, Z.room)

  hist-small : length s.dur.hist ≤ 64
  hist-small = len-small s.dur.hist s.dur.a W.dur.rules

  alone-ok : (st : ℕ) (orc : ℕ) → st < 5 → Epochs st s.dur → Oracle z i st orc → Whole z i (record { dur = s.dur; stage = st; orc = orc; vol = idle })
  alone-ok st orc k E O = record {
    low = W.low;
    dur = W.dur;
    epochs = E;
    orc = O;
    sets = idle-sets z i st k;
    counts = no-counts z st s.dur idle (λ t h. refl);
    largest = record { small = omega arith; seen = λ e. absurd (omega arith); off = λ _. refl };
    cand = no-candidate z st s.dur idle (omega arith) refl refl;
  }

  -- ---- oracle, restart

  restart-kept : Leaves (λ b t out. Kept z i t out) (on_restart s)
  unfolding on_restart
  restart-kept = record {
    srv = alone-ok 0 0 (omega arith) (record { f34 = λ p. absurd (omega arith); l34 = λ p. absurd (omega arith); f24 = λ p. absurd (omega arith); l24 = λ p. absurd (omega arith) })
        (record { known = omega arith; look = λ _. refl; follow = λ p. absurd (omega arith); lead = λ p. absurd (omega arith) });
    sent = tt;
    few = omega arith;
  }

  oracle-kept : (x : ℕ) → Leaves (λ b t out. Kept z i t out) (on_oracle z i x s)
  unfolding on_oracle
  oracle-kept x lt = (
    λ q. record {
      srv = record {
        low = W.low;
        dur = W.dur;
        epochs = record { f34 = λ p q. absurd (omega arith); l34 = λ p. absurd (omega arith); f24 = λ p q. absurd (omega arith); l24 = λ p. absurd (omega arith) };
        orc = record { known = omega arith; look = λ p. absurd (omega arith); follow = λ p q. absurd (omega arith); lead = λ _ _. refl };
        sets = record {
          low = λ t h j. ⊎_elim (λ (e : t ≡ i). rw e W.low) (λ e. clash e refl) (put_is nobody i t j);
          self = λ _ _. upd_same nobody i true;
          acked = λ t h j. clash j refl;
          synced = λ t h j. clash j refl;
          alone = λ p. absurd (omega arith);
          unacked = λ _ t h. refl;
          unsynced = λ _ t h. refl;
        };
        counts = no-counts z 5 s.dur _ (λ t h. refl);
        largest = record { small = W.dur.small; seen = λ _. omega arith; off = λ n. absurd (n refl) };
        cand = no-candidate z 5 s.dur _ (omega arith) refl refl;
      };
      sent = tt;
      few = omega arith;
    },
    λ q. record {
      srv = alone-ok 1 (x + 1) (omega arith)
          (record { f34 = λ p. absurd (omega arith); l34 = λ p. absurd (omega arith); f24 = λ p. absurd (omega arith); l24 = λ p. absurd (omega arith) })
          (record { known = omega arith; look = λ p. absurd (omega arith); follow = λ _ _. (omega arith, omega tests, λ e. eqb-false x i q (omega arith)); lead = λ p. absurd (omega arith) });
      sent = (record { low = omega tests; other = eqb-false x i q; fine = Formed.cepoch-formed z s.dur.p W.dur.small }, tt);
      few = omega arith;
    },
  )

  -- ---- a follower: only the durable part and the stage change

  follower-ok : (st : ℕ) (u : Dur) → 1 ≤ s.stage → s.stage ≤ 4 → 1 ≤ st → st ≤ 4 → Durable z u → Epochs st u → Whole z i (moved st u s.vol s)
  follower-ok st u p q lo hi D E = record {
    low = W.low;
    dur = D;
    epochs = E;
    orc = record { known = omega arith; look = λ e. absurd (omega arith); follow = λ _ _. W.orc.follow p q; lead = λ e. absurd (omega arith) };
    sets = record {
      low = W.sets.low;
      self = λ e. absurd (omega arith);
      acked = W.sets.acked;
      synced = W.sets.synced;
      alone = λ _. W.sets.alone (omega arith);
      unacked = λ _. W.sets.unacked (omega arith);
      unsynced = λ _. W.sets.unsynced (omega arith);
    };
    counts = no-counts z st u s.vol (W.counts.early (omega arith));
    largest = record { small = W.largest.small; seen = λ e. absurd (omega arith); off = λ _. W.largest.off (omega arith) };
    cand = record { young = λ e. absurd (omega arith); rules = W.cand.rules; off = λ _. W.cand.off (omega arith) };
  }

  -- an answer to f, its oracle
  reply : (f : ℕ) (m : Msg) → f < z.n → f ≢ i → formed z m ≡ true → All (Sendable z i) (only f m)
  reply f m l n g = (record { low = l; other = n; fine = g }, tt)

  module _ (f : ℕ) (fl : f < z.n) (fi : f ≢ i) where
    newepoch-kept : (e : ℕ) → formed z (newepoch e) ≡ true → s.stage ≡ 1 → Leaves (λ b t out. Kept z i t out) (on_newepoch f e s)
    unfolding on_newepoch formed
    newepoch-kept e g st le =
        let x = Formed.positive-says e g in (
          λ q. record {
            srv = follower-ok 2 s.dur (omega arith) (omega arith) (omega arith) (omega arith) W.dur
                (record { f34 = λ p. absurd (omega arith); l34 = λ p. absurd (omega arith); f24 = λ _ _. omega (tests, x.0); l24 = λ p. absurd (omega arith) });
            sent = tt;
            few = omega arith;
          },
          λ q. record {
            srv = follower-ok 2 _ (omega arith) (omega arith) (omega arith) (omega arith)
                (record { small = x.1; order = omega (tests, W.dur.order); fits = W.dur.fits; rules = W.dur.rules })
                (record { f34 = λ p. absurd (omega arith); l34 = λ p. absurd (omega arith); f24 = λ _ _. x.0; l24 = λ p. absurd (omega arith) });
            sent = reply f _ fl fi (Formed.acke-formed z e s.dur.a s.dur.hist x.0 x.1 (omega (tests, W.dur.order)) W.dur.rules);
            few = omega arith;
          },
        )

    newleader-kept : (e : ℕ) (h : Hist) → formed z (newleader e h) ≡ true → s.stage ≡ 2 → Leaves (λ b t out. Kept z i t out) (on_newleader f e h s)
    unfolding on_newleader keeps
    newleader-kept e h g st ep un _ =
        let q : e ≡ s.dur.p = omega tests in
        let r = Formed.newleader-says z e h g in
        let pos : 1 ≤ s.dur.p = W.epochs.f24 (omega arith) (omega arith) in
        record {
          srv = follower-ok 3 _ (omega arith) (omega arith) (omega arith) (omega arith)
              (record { small = W.dur.small; order = omega arith; fits = omega tests; rules = r })
              (record { f34 = λ _ _. q; l34 = λ p. absurd (omega arith); f24 = λ _ _. pos; l24 = λ p. absurd (omega arith) });
          sent = reply f _ fl fi (Formed.ackld-formed z e (length h) (omega arith) (omega (arith, W.dur.small)) (omega (arith, len-small h e r)));
          few = omega arith;
        }

    propose-kept : (e k : ℕ) (t : Txn) → formed z (propose e k t) ≡ true → 3 ≤ s.stage → s.stage ≤ 4 → Leaves (λ b t out. Kept z i t out) (on_propose z f e k t s)
    unfolding on_propose
    propose-kept e k t g lo hi ep pl co ro =
        let q : e ≡ s.dur.p = omega tests in
        let ap : s.dur.a ≡ s.dur.p = W.epochs.f34 lo hi in
        let pos : 1 ≤ s.dur.p = W.epochs.f24 (omega arith) hi in
        let y = Formed.propose-says z e k t g in
        let x : t.id.0 ≡ ident e (next_counter e (last_id s.dur.hist)) = eqb-true _ _ co in
        let small : next_counter e (last_id s.dur.hist) ≤ LAST = omega (arith, y.0) in
        let fo : Follows e (last_id s.dur.hist) (ident e (next_counter e (last_id s.dur.hist))) =
        next-follows e (last_id s.dur.hist) (omega arith) (omega (arith, good-last z.room.0 s.dur.a s.dur.hist W.dur.rules)) small in
        record {
          srv = follower-ok s.stage _ (omega arith) hi (omega arith) hi
              (record {
                small = W.dur.small;
                order = W.dur.order;
                fits = omega (arith, W.dur.fits, length-snoc s.dur.hist t);
                rules = good-snoc z.room.0 s.dur.a s.dur.hist t W.dur.rules (omega tests) (rw (x, ap ∙ sym q) fo);
              })
              (record { f34 = λ _ _. ap; l34 = λ p. absurd (omega arith); f24 = λ _ _. pos; l24 = λ p. absurd (omega arith) });
          sent = reply f _ fl fi (Formed.ack-formed z e k (omega arith) (omega (arith, W.dur.small)) (omega tests) (omega (tests, hist-small)));
          few = omega arith;
        }

    -- COMMIT-LD and COMMIT
    commit-kept : (e c : ℕ) → 3 ≤ s.stage → s.stage ≤ 4 → Leaves (λ b t out. Kept z i t out) (on_commit e c s)
    unfolding on_commit
    commit-kept e c lo hi ep ga =
        let ap : s.dur.a ≡ s.dur.p = W.epochs.f34 lo hi in
        record {
          srv = follower-ok 4 _ (omega arith) hi (omega arith) (omega arith)
              (record { small = W.dur.small; order = W.dur.order; fits = omega (tests, W.dur.fits); rules = W.dur.rules })
              (record { f34 = λ _ _. ap; l34 = λ p. absurd (omega arith); f24 = λ _ _. W.epochs.f24 (omega arith) hi; l24 = λ p. absurd (omega arith) });
          sent = tt;
          few = omega arith;
        }

    -- ---- a leader

    joins-low : (t : ℕ) → t < 7 → upd s.vol.joined f true t ≡ true → t < z.n
    joins-low t h j = ⊎_elim (λ (e : t ≡ f). rw e fl) (W.sets.low t h) (put_is s.vol.joined f t j)

    self-joined : 5 ≤ s.stage → upd s.vol.joined f true i ≡ true
    self-joined p = put_keeps s.vol.joined f i (W.sets.self p W.orc.known)

    orc-lead : (st : ℕ) → 5 ≤ s.stage → 5 ≤ st → st ≤ 8 → Oracle z i st s.orc
    orc-lead st p lo hi = record { known = hi; look = λ e. absurd (omega arith); follow = λ _ e. absurd (omega arith); lead = λ _ _. W.orc.lead p W.orc.known }

    -- a cast to all others of a set inside the servers
    cast : (q : Set) (m : Msg) → formed z m ≡ true → All (Sendable z i) (to_all z.n i q m)
    cast q m g = to-all (Sendable z i) z.n i q m (λ t l n _. record { low = l; other = n; fine = g })

    cast-few : (q : Set) (m : Msg) → length (to_all z.n i q m) ≤ 6
    cast-few q m = omega (arith, few-less i q m z.n i W.low (skips-self i q), Z.seven)

    -- CEPOCH
    l1-kept : (e : ℕ) → e ≤ LAST → s.stage ≡ 5 → Leaves (λ b t out. Kept z i t out) (l1_join z i f e s)
    unfolding l1_join
    l1-kept e small st =
        let seen : s.dur.p ≤ s.vol.largest = W.largest.seen st in
        let low : 5 ≤ s.stage = omega arith in (
          λ qu sp. record {
            srv = record {
              low = W.low;
              dur = record { small = omega tests; order = omega (arith, W.dur.order); fits = W.dur.fits; rules = W.dur.rules };
              epochs = record { f34 = λ _ p. absurd (omega arith); l34 = λ p. absurd (omega arith); f24 = λ _ p. absurd (omega arith); l24 = λ _ _. omega arith };
              orc = orc-lead 6 low (omega arith) (omega arith);
              sets = record {
                low = joins-low;
                self = λ _ _. self-joined low;
                acked = λ t h j. let x : t ≡ i = just-is i t j in rw x (self-joined low);
                synced = λ t h j. clash j (W.sets.unsynced (omega arith) t h);
                alone = λ p. absurd (omega arith);
                unacked = λ n. absurd (n refl);
                unsynced = λ _. W.sets.unsynced (omega arith);
              };
              counts = no-counts z 6 _ _ (W.counts.early (omega arith));
              largest = record { small = omega arith; seen = λ p. absurd (omega arith); off = λ _. refl };
              cand = record { young = λ _. omega (arith, W.dur.order); rules = W.dur.rules; off = λ n. absurd (n refl) };
            };
            sent = cast _ _ (Formed.newepoch-formed z _ (omega arith) (omega tests));
            few = cast-few _ _;
          },
          λ nq. record {
            srv = record {
              low = W.low;
              dur = W.dur;
              epochs = record { f34 = λ _ p. absurd (omega arith); l34 = λ p. absurd (omega arith); f24 = λ _ p. absurd (omega arith); l24 = λ p. absurd (omega arith) };
              orc = orc-lead 5 low (omega arith) (omega arith);
              sets = record {
                low = joins-low;
                self = λ _ _. self-joined low;
                acked = λ t h j. clash j (W.sets.unacked (omega arith) t h);
                synced = λ t h j. clash j (W.sets.unsynced (omega arith) t h);
                alone = λ p. absurd (omega arith);
                unacked = λ _. W.sets.unacked (omega arith);
                unsynced = λ _. W.sets.unsynced (omega arith);
              };
              counts = no-counts z 5 _ _ (W.counts.early (omega arith));
              largest = record { small = omega (arith, W.largest.small); seen = λ _. omega arith; off = λ n. absurd (n refl) };
              cand = record { young = λ p. absurd (omega arith); rules = W.cand.rules; off = λ _. W.cand.off (omega arith) };
            };
            sent = tt;
            few = omega arith;
          },
        )

    -- a leader's sets, with f joined and perhaps no longer synced
    sets-join : (y : Set) → 5 ≤ s.stage → ((t : ℕ) → y t ≡ true → s.vol.synced t ≡ true) → (s.stage < 7 → (t : ℕ) → t < 7 → y t ≡ false)
        → Sets z i s.stage (record { joined = upd s.vol.joined f true; acked = s.vol.acked; synced = y; largest = s.vol.largest; cand_epoch = s.vol.cand_epoch; cand_hist = s.vol.cand_hist; counts = s.vol.counts })
    sets-join y p sub off = record {
      low = joins-low;
      self = λ _ _. self-joined p;
      acked = λ t h j. put_keeps s.vol.joined f t (W.sets.acked t h j);
      synced = λ t h j. put_keeps s.vol.joined f t (W.sets.synced t h (sub t j));
      alone = λ q. absurd (omega arith);
      unacked = W.sets.unacked;
      unsynced = off;
    }

    l2-kept : (e : ℕ) → s.stage ≡ 6 → Leaves (λ b t out. Kept z i t out) (l2_join f e s)
    unfolding l2_join
    l2-kept e st le = record {
      srv = record {
        low = W.low;
        dur = W.dur;
        epochs = W.epochs;
        orc = W.orc;
        sets = sets-join s.vol.synced (omega arith) (λ t j. j) W.sets.unsynced;
        counts = record { held = W.counts.held; out = W.counts.out; early = W.counts.early };
        largest = record { small = W.largest.small; seen = W.largest.seen; off = W.largest.off };
        cand = record { young = W.cand.young; rules = W.cand.rules; off = W.cand.off };
      };
      sent = reply f _ fl fi (Formed.newepoch-formed z s.dur.p (W.epochs.l24 (omega arith) (omega arith)) W.dur.small);
      few = omega arith;
    }

    l34-kept : (e : ℕ) → 7 ≤ s.stage → Leaves (λ b t out. Kept z i t out) (l34_join f e s)
    unfolding l34_join
    l34-kept e st le =
        let pos : 1 ≤ s.dur.p = W.epochs.l24 (omega arith) W.orc.known in
        let ap : s.dur.a ≡ s.dur.p = W.epochs.l34 st W.orc.known in
        record {
          srv = record {
            low = W.low;
            dur = W.dur;
            epochs = W.epochs;
            orc = W.orc;
            sets = sets-join (upd s.vol.synced f false) (omega arith) (λ t j. cut-is s.vol.synced f t j) (λ p. absurd (omega arith));
            counts = record { held = W.counts.held; out = W.counts.out; early = W.counts.early };
            largest = record { small = W.largest.small; seen = W.largest.seen; off = W.largest.off };
            cand = record { young = W.cand.young; rules = W.cand.rules; off = W.cand.off };
          };
          sent = (
            record { low = fl; other = fi; fine = Formed.newepoch-formed z s.dur.p pos W.dur.small },
            (record { low = fl; other = fi; fine = Formed.newleader-formed z s.dur.p s.dur.hist pos W.dur.small (rw ap at W.dur.rules) }, tt),
          );
          few = omega arith;
        }

    cepoch-kept : (e : ℕ) → formed z (cepoch e) ≡ true → (5 ≤ s.stage) × (s.stage ≤ 8) → Leaves (λ b t out. Kept z i t out) (on_cepoch z i f e s)
    unfolding on_cepoch
    cepoch-kept e g st = (λ q. l1-kept e (Formed.cepoch-says z e g) (omega tests), λ n5. (λ q. l2-kept e (omega tests), λ n6. l34-kept e (omega tests)))

    -- ACK-E
    l2-count-kept : (a : ℕ) (h : Hist) → s.stage ≡ 6 → s.vol.joined f ≡ true → a < s.dur.p → good_hist z.room.0 a h ≡ true
        → Leaves (λ b t out. Kept z i t out) (l2_count z i (upd s.vol.acked f true) a h s)
    unfolding l2_count keeps
    l2-count-kept a h st jo yo g =
        let low : 5 ≤ s.stage = omega arith in
        let pos : 1 ≤ s.dur.p = omega arith in
        let good : good_hist z.room.0 s.dur.p h ≡ true = good-up z.room.0 a s.dur.p h (omega arith) g in (
          λ qu un _. record {
            srv = record {
              low = W.low;
              dur = record { small = W.dur.small; order = omega arith; fits = omega tests; rules = good };
              epochs = record { f34 = λ _ p. absurd (omega arith); l34 = λ _ _. refl; f24 = λ _ p. absurd (omega arith); l24 = λ _ _. pos };
              orc = orc-lead 7 low (omega arith) (omega arith);
              sets = record {
                low = W.sets.low;
                self = λ _ _. W.sets.self low (omega arith);
                acked = λ t l j. clash j refl;
                synced = λ t l j. let x : t ≡ i = just-is i t j in rw x (W.sets.self low (omega arith));
                alone = λ p. absurd (omega arith);
                unacked = λ _ t l. refl;
                unsynced = λ p. absurd (omega arith);
              };
              counts = no-counts z 7 _ _ (W.counts.early (omega arith));
              largest = record { small = W.largest.small; seen = λ p. absurd (omega arith); off = λ _. W.largest.off (omega arith) };
              cand = no-candidate z 7 _ _ (omega arith) refl refl;
            };
            sent = cast _ _ (Formed.newleader-formed z s.dur.p h pos W.dur.small good);
            few = cast-few _ _;
          },
          λ nq. record {
            srv = record {
              low = W.low;
              dur = W.dur;
              epochs = record { f34 = λ _ p. absurd (omega arith); l34 = λ p. absurd (omega arith); f24 = λ _ p. absurd (omega arith); l24 = λ _ _. pos };
              orc = orc-lead 6 low (omega arith) (omega arith);
              sets = record {
                low = W.sets.low;
                self = λ _ _. W.sets.self low (omega arith);
                acked = λ t l j. ⊎_elim (λ (e : t ≡ f). rw e jo) (W.sets.acked t l) (put_is s.vol.acked f t j);
                synced = W.sets.synced;
                alone = λ p. absurd (omega arith);
                unacked = λ n. absurd (n refl);
                unsynced = λ _. W.sets.unsynced (omega arith);
              };
              counts = no-counts z 6 _ _ (W.counts.early (omega arith));
              largest = record { small = W.largest.small; seen = λ p. absurd (omega arith); off = λ _. W.largest.off (omega arith) };
              cand = record { young = λ _. yo; rules = g; off = λ n. absurd (n refl) };
            };
            sent = tt;
            few = omega arith;
          },
        )

    acke-kept : (e a : ℕ) (h : Hist) → formed z (acke e a h) ≡ true → s.vol.joined f ≡ true → Leaves (λ b t out. Kept z i t out) (on_acke z i f e a h s)
    unfolding on_acke
    acke-kept e a h g jo _ ep =
        let x = Formed.acke-says z e a h g in (
          λ st. (
            λ _. l2-count-kept a h (omega tests) jo (omega (tests, x.0)) x.1,
            λ _. l2-count-kept s.vol.cand_epoch s.vol.cand_hist (omega tests) jo (W.cand.young (omega tests)) W.cand.rules,
          ),
          λ _. record { srv = W; sent = tt; few = omega arith },
        )

    -- ACK-LD, ACK: a count is raised
    raise-counts : (c st : ℕ) (d : ℕ) → c ≤ length s.dur.hist → 7 ≤ st → (y : Set)
        → Counts z st (delivered d s.dur) (record { joined = s.vol.joined; acked = s.vol.acked; synced = y; largest = s.vol.largest; cand_epoch = s.vol.cand_epoch; cand_hist = s.vol.cand_hist; counts = upd s.vol.counts f (max (s.vol.counts f) c) })
    raise-counts c st d le lo y = record {
      held = λ t h. upd-at (λ (x : ℕ). x ≤ length s.dur.hist) s.vol.counts f (max (s.vol.counts f) c) t (λ e. omega (arith, W.counts.held f (omega (arith, Z.seven)))) (λ _. W.counts.held t h);
      out = λ t h o. upd-at (λ (x : ℕ). x ≡ 0) s.vol.counts f (max (s.vol.counts f) c) t (λ e. absurd (omega arith)) (λ _. W.counts.out t h o);
      early = λ p. absurd (omega arith);
    }

    -- a leader in L3 or L4, with another delivered count, f perhaps synced and its count raised
    lead-ok : (c st d : ℕ) (y : Set) → s.vol.joined f ≡ true → 7 ≤ s.stage → 7 ≤ st → st ≤ 8 → c ≤ length s.dur.hist → d ≤ length s.dur.hist
        → ((t : ℕ) → y t ≡ true → (t ≡ f) ⊎ (s.vol.synced t ≡ true))
        → Whole z i (moved st (delivered d s.dur) (record { joined = s.vol.joined; acked = s.vol.acked; synced = y; largest = s.vol.largest; cand_epoch = s.vol.cand_epoch; cand_hist = s.vol.cand_hist; counts = upd s.vol.counts f (max (s.vol.counts f) c) }) s)
    lead-ok c st d y jo lo p q le fits sub =
        let top : s.stage ≤ 8 = W.orc.known in
        record {
          low = W.low;
          dur = record { small = W.dur.small; order = W.dur.order; fits = fits; rules = W.dur.rules };
          epochs = record { f34 = λ _ e. absurd (omega arith); l34 = λ _ _. W.epochs.l34 lo top; f24 = λ _ e. absurd (omega arith); l24 = λ _ _. W.epochs.l24 (omega arith) top };
          orc = orc-lead st (omega arith) (omega arith) q;
          sets = record {
            low = W.sets.low;
            self = λ _ _. W.sets.self (omega arith) top;
            acked = W.sets.acked;
            synced = λ t h j. ⊎_elim (λ (e : t ≡ f). rw e jo) (W.sets.synced t h) (sub t j);
            alone = λ e. absurd (omega arith);
            unacked = λ _. W.sets.unacked (omega arith);
            unsynced = λ e. absurd (omega arith);
          };
          counts = raise-counts c st d le p y;
          largest = record { small = W.largest.small; seen = λ e. absurd (omega arith); off = λ _. W.largest.off (omega arith) };
          cand = record { young = λ e. absurd (omega arith); rules = W.cand.rules; off = λ _. W.cand.off (omega arith) };
        }

    l3-kept : (c : ℕ) → s.vol.joined f ≡ true → s.stage ≡ 7 → Leaves (λ b t out. Kept z i t out) (l3_sync z i f c s)
    unfolding l3_sync
    l3-kept c jo st ga =
        let pos : 1 ≤ s.dur.p = W.epochs.l24 (omega arith) W.orc.known in (
          λ qu. record {
            srv = lead-ok c 8 (length s.dur.hist) _ jo (omega arith) (omega arith) (omega arith) (omega tests) (omega arith) (put_is s.vol.synced f);
            sent = cast _ _ (Formed.commitld-formed z s.dur.p (length s.dur.hist) pos W.dur.small (omega (arith, hist-small)));
            few = cast-few _ _;
          },
          λ nq. record {
            srv = lead-ok c 7 s.dur.d _ jo (omega arith) (omega arith) (omega arith) (omega tests) W.dur.fits (put_is s.vol.synced f);
            sent = tt;
            few = omega arith;
          },
        )

    -- L4: the commits, then what follows
    l4-kept : (c : ℕ) (y q : Set) (more : ℕ → List Send) → s.vol.joined f ≡ true → s.stage ≡ 8 → c ≤ length s.dur.hist
        → ((t : ℕ) → y t ≡ true → (t ≡ f) ⊎ (s.vol.synced t ≡ true))
        → ((d : ℕ) → d ≤ length s.dur.hist → All (Sendable z i) (more d)) → ((m : Msg) (d : ℕ) → length (to_all z.n i q m) + length (more d) ≤ 6) → ((d : ℕ) → length (more d) ≤ 6)
        → Leaves (λ b t out. Kept z i t out)
        (l4_advance z i (record { joined = s.vol.joined; acked = s.vol.acked; synced = y; largest = s.vol.largest; cand_epoch = s.vol.cand_epoch; cand_hist = s.vol.cand_hist; counts = upd s.vol.counts f (max (s.vol.counts f) c) }) q more s)
    unfolding l4_advance
    l4-kept c y q more jo st le sub ms few₂ few₁ =
        let v : Vol = record { joined = s.vol.joined; acked = s.vol.acked; synced = y; largest = s.vol.largest; cand_epoch = s.vol.cand_epoch; cand_hist = s.vol.cand_hist; counts = upd s.vol.counts f (max (s.vol.counts f) c) } in
        let d = advanced z.n i v s.dur in
        let r = advanced-in z.n i v s.dur W.dur.fits in
        let pos : 1 ≤ s.dur.p = W.epochs.l24 (omega arith) W.orc.known in
        record {
          srv = lead-ok c 8 d y jo (omega arith) (omega arith) (omega arith) le r.1 sub;
          sent = all_append (Sendable z i) (pick (ltb s.dur.d d) (to_all z.n i q (commit s.dur.p d)) []) (more d)
              (pick_at (All (Sendable z i)) (ltb s.dur.d d) (to_all z.n i q (commit s.dur.p d)) [] (λ b. cast q _ (Formed.commit-formed z s.dur.p d pos W.dur.small (omega (tests, b)) (omega (arith, r.1, hist-small)))) (λ _. tt))
              (ms d r.1);
          few = omega (
            arith,
            length-append (pick (ltb s.dur.d d) (to_all z.n i q (commit s.dur.p d)) []) (more d),
            pick_at (λ (l : List Send). length l + length (more d) ≤ 6) (ltb s.dur.d d) (to_all z.n i q (commit s.dur.p d)) [] (λ _. few₂ (commit s.dur.p d) d) (λ _. omega (arith, few₁ d)),
          );
        }

    ackld-kept : (e c : ℕ) → s.vol.joined f ≡ true → (7 ≤ s.stage) × (s.stage ≤ 8) → Leaves (λ b t out. Kept z i t out) (on_ackld z i f e c s)
    unfolding on_ackld
    ackld-kept e c jo st ep =
        let pos : 1 ≤ s.dur.p = W.epochs.l24 (omega arith) W.orc.known in (
          λ q. l3-kept c jo (omega tests),
          λ q ga. l4-kept c (upd s.vol.synced f true) (upd s.vol.synced f false) _ jo (omega tests) (omega tests) (put_is s.vol.synced f)
              (λ d l. reply f _ fl fi (Formed.commitld-formed z s.dur.p d pos W.dur.small (omega (arith, hist-small))))
              (λ m d. omega (arith, few-less₂ i (upd s.vol.synced f false) m z.n f i fl W.low fi (skips-out i (upd s.vol.synced f false) f (upd_same s.vol.synced f false)) (skips-self i (upd s.vol.synced f false)), Z.seven))
              (λ d. omega arith),
        )

    ack-kept : (e k : ℕ) → s.vol.joined f ≡ true → (8 ≤ s.stage) × (s.stage ≤ 8) → Leaves (λ b t out. Kept z i t out) (on_ack z i f e k s)
    unfolding on_ack
    ack-kept e k jo st ep ga =
        l4-kept k s.vol.synced s.vol.synced _ jo (omega arith) (omega tests) (λ t j. inr j) (λ d l. tt) (λ m d. omega (arith, cast-few s.vol.synced m)) (λ d. omega arith)

    receive-kept : (m : Msg) → formed z m ≡ true → Leaves (λ b t out. Kept z i t out) (receive z i f m s)
    unfolding receive
    receive-kept (cepoch e) g = gate-leaves _ 1 s.stage _ _ (λ w c. cepoch-kept e g (cepoch-in s.stage c))
    receive-kept (newepoch e) g = gate-leaves _ 2 s.stage _ _ (λ w c. newepoch-kept e g (omega (arith, newepoch-in s.stage c)))
    receive-kept (acke e a h) g = gate-leaves _ 3 s.stage _ _ (λ w c. acke-kept e a h g w)
    receive-kept (newleader e h) g = gate-leaves _ 4 s.stage _ _ (λ w c. newleader-kept e h g (omega (arith, newleader-in s.stage c)))
    receive-kept (ackld e c) g = gate-leaves _ 5 s.stage _ _ (λ w k. ackld-kept e c w (ackld-in s.stage k))
    receive-kept (commitld e c) g = gate-leaves _ 6 s.stage _ _ (λ w k. let r = commitld-in s.stage k in commit-kept e c (omega arith) (omega arith))
    receive-kept (propose e k t) g = gate-leaves _ 7 s.stage _ _ (λ w c. let r = propose-in s.stage c in propose-kept e k t g r.0 r.1)
    receive-kept (ack e k) g = gate-leaves _ 8 s.stage _ _ (λ w c. ack-kept e k w (ack-in s.stage c))
    receive-kept (commit e c) g = gate-leaves _ 9 s.stage _ _ (λ w k. let r = commit-in s.stage k in commit-kept e c (omega arith) (omega arith))
    receive-kept junk g = tt

  -- ---- submission

  submit-kept : (v : ℕ) → Leaves (λ b t out. Kept z i t out) (on_submit z i v s)
  unfolding on_submit
  submit-kept v st ro la =
      let q : s.stage ≡ 8 = omega tests in
      let top : s.stage ≤ 8 = W.orc.known in
      let ap : s.dur.a ≡ s.dur.p = W.epochs.l34 (omega arith) top in
      let pos : 1 ≤ s.dur.p = W.epochs.l24 (omega arith) top in
      let last = last_id s.dur.hist in
      let below : epoch_of (last_id s.dur.hist) ≤ s.dur.p = omega (arith, good-last z.room.0 s.dur.a s.dur.hist W.dur.rules) in
      let small : next_counter s.dur.p (last_id s.dur.hist) ≤ LAST = next_small s.dur.p (last_id s.dur.hist) (eqb-false (last_id s.dur.hist) (ident s.dur.p LAST) (not_is (eqb (last_id s.dur.hist) (ident s.dur.p LAST)) la)) in
      let fo = next-follows s.dur.p (last_id s.dur.hist) pos below small in
      let t = submission v s.dur in
      record {
        srv = record {
          low = W.low;
          dur = record {
            small = W.dur.small;
            order = W.dur.order;
            fits = omega (arith, W.dur.fits, length-snoc s.dur.hist t);
            rules = good-snoc z.room.0 s.dur.a s.dur.hist t W.dur.rules (omega tests) (rw ap fo);
          };
          epochs = record { f34 = λ _ p. absurd (omega arith); l34 = λ _ _. ap; f24 = λ _ p. absurd (omega arith); l24 = λ _ _. pos };
          orc = record { known = omega arith; look = λ e. absurd (omega arith); follow = λ _ e. absurd (omega arith); lead = λ _ _. W.orc.lead (omega arith) top };
          sets = rw (← q) W.sets;
          counts = record { held = λ t' h. omega (arith, W.counts.held t' h, length-snoc s.dur.hist t); out = W.counts.out; early = λ p. absurd (omega arith) };
          largest = record { small = W.largest.small; seen = λ e. absurd (omega arith); off = λ _. W.largest.off (omega arith) };
          cand = record { young = λ e. absurd (omega arith); rules = W.cand.rules; off = λ _. W.cand.off (omega arith) };
        };
        sent = to-all (Sendable z i) z.n i s.vol.joined _ (λ t' l n _. record {
          low = l;
          other = n;
          fine = Formed.propose-formed z s.dur.p (length s.dur.hist + 1) t pos W.dur.small (omega arith) (omega (arith, hist-small)) (ident-epoch s.dur.p _ (omega (arith, small))) fo.counted;
        });
        few = omega (arith, few-less i s.vol.joined (propose s.dur.p (length s.dur.hist + 1) t) z.n i W.low (skips-self i s.vol.joined), Z.seven);
      }

  pub step-leaves : (e : Input) → Leaves (λ b t out. Kept z i t out) (step z i e s)
  unfolding step
  step-leaves (oracle x) = oracle-kept x
  step-leaves restart = restart-kept
  step-leaves (message f m) = λ l n g. receive-kept f (omega tests) (eqb-false f i (not_is (eqb f i) n)) m g
  step-leaves (submit v) = submit-kept v

-- ---- the law

pub step_kept : (z : Sizes) (i : ℕ) (e : Input) (s : Server) → good_sizes z ≡ true → well_formed z i s ≡ true
    → (b : Bool) (s' : Server) (out : List Send) → run (step z i e s) ≡ taken b s' out
    → (well_formed z i s' ≡ true) × All (Sendable z i) out × (length out ≤ 6)
step_kept z i e s hz hs b s' out q =
    let k : Kept z i s' out = rw q at (run-leaves (λ b t o. Kept z i t o) (step z i e s) (step-leaves z (sized z hz) i s (whole z i s hs) e)) in
    (whole-shown z i s' k.srv, k.sent, k.few)

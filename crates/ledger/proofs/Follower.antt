-- The follower's steps: NEWEPOCH, NEWLEADER, PROPOSE, COMMIT-LD, COMMIT.
use Prim.Native.Nat.{ℕ, suc, ◌≤◌, ◌<◌}
use mathlib.Core.Path.{◌≡◌, refl, ap, ◌∙◌}
use mathlib.Core.Bool.{false}
use mathlib.Core.List.{List, [], ◌∷◌, ◌++◌}
use native.Mathlib.Omega.{arith}
use lib.ListN.{length}
use lib.Seq.{take-append-le}
use Rattle.base.specs.Transaction.{Hist, Begins}
use Rattle.base.specs.declared.Txn.{Txn}
use Rattle.base.specs.declared.Sizes.{Sizes}
use Rattle.base.proofs.Choice.{tests, by_contra, upd_same, upd₂-at, upd₂-same}
use Rattle.base.proofs.History.{pre-len, pre-take, pre-snoc, length-snoc, same-hist}
use Rattle.rules.specs.Message.{newleader, propose, Send}
use Rattle.rules.specs.Server.{Dur, Server, F1, F2, F3, F4, L4}
use Rattle.rules.specs.Step.{promised, keeps, on_newepoch, on_newleader, on_propose, on_commit}
use Rattle.ledger.proofs.Ghost.{Ghost, Good, Grow, Report, Committed}
use Rattle.ledger.proofs.Grow.{promise, promise-grow, promise-good, only-promise, Holdable, hold, hold-grow, hold-good, only-hold}
use Rattle.rules.proofs.Trees.{All}
use Rattle.ledger.proofs.Claims.{MsgOk, Lands, Deliv, DurOk, SrvOk, deliv-up}
use Rattle.ledger.proofs.Done.{SendOk, rests, Done, Ok, low_ok, mid-ok, a-le-p, keep, deliv-keep, deliv-max}

-- i, with the promise p and the delivered count d, comes to hold h of the epoch p
pub record Holds (n : ℕ) (g : Ghost) (i p d : ℕ) (h : Hist) : Type 0 where
  pub prom : g.prom i ≡ p
  pub owned : 0 < g.owner p
  pub above : g.base p ≤ length h
  pub part : Begins h (g.log p)
  pub up : g.ackd p i ≤ suc (length h)
  pub del : Deliv n g p d h

module _ (n : ℕ) (g : Ghost) (G : Good n g) (i p d : ℕ) (h : Hist) (A : Holds n g i p d h) where
  holdable : Holdable g i p (length h)
  holdable = record { prom = A.prom; owned = A.owned; above = A.above; within = pre-len h (g.log p) A.part; up = A.up }

  -- the ghost grows by it
  pub holds-grow : Grow g (hold g i p (length h))
  holds-grow = hold-grow n g G i p (length h) holdable

  -- and stays consistent
  pub holds-good : Good n (hold g i p (length h))
  holds-good = hold-good n g G i p (length h) holdable

  none_above : (e : ℕ) → p < e → g.ackd e i ≡ 0
  none_above e k = let z : g.ackd e i ≤ 0 = by_contra (g.ackd e i) 0 (λ c. omega (arith, A.prom, G.acked e i c)) in omega arith

  -- and the durable part is claimed
  pub holds-dur : DurOk n (hold g i p (length h)) i (record { p = p; a = p; d = d; hist = h })
  unfolding hold
  holds-dur = record {
    prom = A.prom;
    part = A.part;
    held = upd₂-same g.ackd p i (suc (length h));
    none = λ e k. upd₂-at (λ (v : ℕ). v ≡ 0) g.ackd p i (suc (length h)) e i (λ q _. absurd (omega arith)) (λ _. none_above e k);
    del = deliv-up n g (hold g i p (length h)) G holds-grow p d h A.del;
  }

  -- a step that does no more
  pub holds-done : (s s' : Server) (out : List Send) → s'.dur ≡ record { p = p; a = p; d = d; hist = h } → F2 < s'.stage → s'.stage < L4 → s.dur.d ≤ d
      → (DurOk n (hold g i p (length h)) i s'.dur → SrvOk n (hold g i p (length h)) i s') → All (SendOk n (hold g i p (length h)) i) out → Done n false g i s false s' out
  unfolding hold
  holds-done s s' out q k l m c a = record {
    g' = hold g i p (length h);
    good = holds-good;
    grow = holds-grow;
    only = only-hold g i p (length h);
    srv = c (rw q holds-dur);
    quiet = λ _ z. absurd (omega arith);
    more = omega (arith, ap (λ (u : Dur). u.d) q);
    deed = rests (record { unasked = refl; stays = λ z. absurd (omega arith); est = λ _. refl; own = λ _. refl });
    sent = a;
  }

module _ (n : ℕ) (g : Ghost) (G : Good n g) (i : ℕ) (s : Server) (S : SrvOk n g i s) where
  -- ---- a new promise: what i holds stays
  pub promise-dur : (e x : ℕ) → s.dur.p < e → DurOk n (promise g i e x) i (promised e s.dur)
  unfolding promise
  promise-dur e x k = record {
    prom = upd_same g.prom i e;
    part = S.dur.part;
    held = S.dur.held;
    none = S.dur.none;
    del = deliv-up n g (promise g i e x) G (promise-grow n g G i e x (omega (arith, S.dur.prom))) s.dur.a s.dur.d s.dur.hist S.dur.del;
  }

  -- and it is what i reports
  pub promise-report : (e x : ℕ) → s.dur.p < e → Report (promise g i e x) e i s.dur.a s.dur.hist
  promise-report e x k = let u = promise-dur e x k in
      record { old = omega (arith, a-le-p n g G i s S); promised = omega (arith, u.prom); part = u.part; held = u.held; none = λ e₀ p _. u.none e₀ p }

  -- ---- NEWEPOCH
  pub newepoch-ok : (f e : ℕ) → (F1 ≤ s.stage) × (s.stage ≤ F1) → Ok n false g i s (on_newepoch f e s)
  unfolding on_newepoch promise
  newepoch-ok f e st le = (
    λ _. keep n g G i s S _ _ _ (low_ok n g i _ (omega arith) S.dur) (λ _ _. omega arith) (λ z. absurd (omega arith)) (omega arith) tt,
    λ ne.
        let k : g.prom i < e = omega (tests, S.dur.prom) in
        let l : s.dur.p < e = omega (arith, S.dur.prom) in
        record {
          g' = promise g i e f;
          good = promise-good n g G i e f k;
          grow = promise-grow n g G i e f k;
          only = only-promise g i e f;
          srv = low_ok n _ i _ (omega arith) (promise-dur e f l);
          quiet = λ _ _. (omega arith, λ _. refl);
          more = omega arith;
          deed = rests (record { unasked = refl; stays = λ z. absurd (omega arith); est = λ _. refl; own = λ _. refl });
          sent = (((upd₂-same g.vote e i (suc f), promise-report e f l), tt), tt);
        },
  )

  -- ---- NEWLEADER
  pub newleader-ok : (f e : ℕ) (h : Hist) → (F2 ≤ s.stage) × (s.stage ≤ F2) → MsgOk n g f i (newleader e h) → (s.stage ≤ F2 → Lands g i (newleader e h)) → Ok n false g i s (on_newleader f e h s)
  unfolding on_newleader keeps hold
  newleader-ok f e h st m l ep un un' =
      let q : e ≡ s.dur.p = omega tests in
      holds-done n g G i s.dur.p s.dur.d h
      (record {
        prom = S.dur.prom;
        owned = rw q at m.0;
        above = rw q at m.1;
        part = rw q at m.2;
        up = rw q at (l (omega arith));
        del = deliv-keep n g s.dur.a s.dur.p s.dur.d s.dur.hist h S.dur.del (a-le-p n g G i s S) (omega tests) (same-hist _ _ un');
      })
      s _ _ (λ j. record { p = s.dur.p; a = q j; d = s.dur.d; hist = h }) (omega arith) (omega arith) (omega arith) (mid-ok n _ i _ (omega arith) (omega arith) q)
      ((rw (q, upd₂-same g.ackd s.dur.p i (suc (length h))) (omega arith), tt), tt)

  -- ---- PROPOSE
  pub propose-ok : (z : Sizes) (f e k : ℕ) (t : Txn) → (F3 ≤ s.stage) × (s.stage ≤ F4) → MsgOk n g f i (propose e k t) → Ok n false g i s (on_propose z f e k t s)
  unfolding on_propose hold
  propose-ok z f e k t st m ep ga _ _ =
      let ae : s.dur.a ≡ s.dur.p = S.f34 st.0 st.1 in
      let q : e ≡ s.dur.p = omega tests in
      let part : Begins s.dur.hist (g.log s.dur.p) = rw ae at S.dur.part in
      let held : g.ackd s.dur.p i ≡ suc (length s.dur.hist) = rw ae at S.dur.held in
      let y = rw q at (m.1 (length s.dur.hist) (omega tests)) in
      let ln : length (s.dur.hist ++ (t ∷ [])) ≡ suc (length s.dur.hist) = length-snoc s.dur.hist t in
      let fit : s.dur.d ≤ length s.dur.hist = S.dur.del.fits in
      holds-done n g G i s.dur.p s.dur.d (s.dur.hist ++ (t ∷ []))
      (record {
        prom = S.dur.prom;
        owned = rw q at m.0;
        above = omega (arith, G.above s.dur.p i (omega arith));
        part = pre-snoc s.dur.hist (g.log s.dur.p) t part y.0 y.1;
        up = omega arith;
        del = deliv-keep n g s.dur.a s.dur.p s.dur.d s.dur.hist (s.dur.hist ++ (t ∷ [])) S.dur.del (omega arith) (omega arith) (take-append-le s.dur.d s.dur.hist (t ∷ []) fit);
      })
      s _ _ (λ j. record { p = s.dur.p; a = ae j; d = s.dur.d; hist = s.dur.hist ++ (t ∷ []) }) (omega (arith, st.0)) (omega (arith, st.1)) (omega arith)
      (mid-ok n _ i _ st.0 st.1 ae)
      ((rw (q, upd₂-same g.ackd s.dur.p i (suc (length (s.dur.hist ++ (t ∷ []))))) (omega tests), tt), tt)

  -- ---- COMMIT-LD, COMMIT
  pub commit-ok : (e c : ℕ) → (F3 ≤ s.stage) × (s.stage ≤ F4) → Committed n g e c → Ok n false g i s (on_commit e c s)
  unfolding on_commit
  commit-ok e c st m ep ga =
      let pe : s.dur.p ≡ e = omega tests in
      let ap' : s.dur.a ≡ s.dur.p = S.f34 st.0 st.1 in
      keep n g G i s S _ _ _ (mid-ok n g i _ (omega arith) (omega arith) ap' (record {
        prom = S.dur.prom;
        part = S.dur.part;
        held = S.dur.held;
        none = S.dur.none;
        del = deliv-max n g s.dur.a s.dur.d c s.dur.hist e S.dur.del (omega arith) (omega tests) m (pre-take s.dur.hist (g.log e) c (rw (ap' ∙ pe) at S.dur.part) (omega tests));
      }))
      (λ _ z. absurd (omega arith)) (λ z. absurd (omega arith)) (omega arith) tt

-- The leader's steps: CEPOCH, ACK-E (the election), ACK-LD, ACK, a submission.
use Prim.Native.Nat.{ℕ, zero, suc, ◌+◌, ◌-◌, ◌≤◌, ◌<◌, max}
use mathlib.Core.Path.{◌≡◌, refl, sym, ap, subst, ◌∙◌}
use mathlib.Core.Logic.{◌≢◌, ◌⊎◌, inl, inr, ⊎_elim}
use mathlib.Core.Bool.{Bool, true, false}
use mathlib.Core.List.{List, [], ◌∷◌, ◌++◌}
use native.Mathlib.Omega.{arith}
use lib.Dec.{eqb, leb, ltb}
use lib.ListN.{length, take, get_or}
use lib.Seq.{get_or-append_seam, take-append-le}
use Rattle.base.specs.Choice.{pick, both, upd}
use Rattle.base.specs.Quorum.{Set, just, quorum}
use Rattle.base.specs.Transaction.{Hist, none, LAST, ident, epoch_of, counter_of, id_at, last_id, next_counter}
use Rattle.base.specs.declared.Txn.{Txn}
use Rattle.base.specs.declared.Sizes.{Sizes}
use Rattle.base.proofs.Choice.{tests, le-or-lt, clash, both_true, either_true, either-false, not_is, pick_at, upd-at, upd_same, upd₂-same}
use Rattle.base.proofs.Quorum.{Most, just-is, put_is, cut-is}
use Rattle.base.proofs.History.{pre-len, pre-refl, pre-take, length-snoc, rising-pre, id-agree, same-hist}
use Rattle.rules.specs.Message.{acke, newleader, ackld, commitld, propose, ack, commit, Send}
use Rattle.rules.specs.Server.{Vol, Server, L1, L2, L3, L4}
use Rattle.rules.specs.Tree.{to_all}
use Rattle.rules.specs.Step.{accepted, appended, delivered, moved, keeps, l1_join, l2_join, l34_join, on_cepoch, beats, l2_count, on_acke, holders, advance, advanced, l3_sync, l4_advance, on_ackld, on_ack, submission, on_submit}
use Rattle.ledger.proofs.Ghost.{Ghost, Good, Grow, Only, Report, Origin, Committed, own}
use Rattle.ledger.proofs.Candidate.{Below, chosen, chosen-ids, free-epoch, committed-in}
use Rattle.ledger.proofs.Grow.{Extendable, Electable, origin-as, committed-up, promise, promise-grow, promise-good, only-promise, hold, only-hold, extend, extend-grow, extend-good, extend-own, extend-other, only-extend, elect, elect-grow, elect-good, elect-own, only-elect}
use Rattle.ledger.proofs.Grow.{establish, establish-grow, establish-good, only-establish, grow-trans, only-trans}
use Rattle.rules.proofs.Trees.{All, all_append, to-all}
use Rattle.ledger.proofs.Claims.{MsgOk, DurOk, LeadOk, L3Ok, L4Ok, SrvOk, deliv-up, dur-up, lead_up}
use Rattle.ledger.proofs.Done.{SendOk, rests, establishes, appends, Done, Ok, l1-ok, l2-ok, lead-ok, l3-ok, l4-ok, a-le-p, keep, deliv-keep}
use Rattle.ledger.proofs.Follower.{promise-dur, promise-report, Holds, holds-dur, holds-grow, holds-good}

-- ---- pairs

-- the greater pair: the epoch first, then the last identifier
pub beats-true : (a x b y : ℕ) → beats a x b y ≡ true → (b < a) ⊎ ((b ≡ a) × (y < x))
unfolding beats
beats-true a x b y e = ⊎_elim (λ l. inl (omega (tests, l))) (λ r. let w = both_true _ _ r in inr (omega (tests, w.0), omega (tests, w.1))) (either_true _ _ e)

pub beats-false : (a x b y : ℕ) → beats a x b y ≡ false → (a ≤ b) × (a ≡ b → x ≤ y)
unfolding beats both
beats-false a x b y e = let w = either-false (ltb b a) (both (eqb a b) (ltb y x)) e in (omega (tests, w.0), λ q. go (eqb a b) (ltb y x) refl refl w.1 q)
  where
    go : (p r : Bool) → eqb a b ≡ p → ltb y x ≡ r → both p r ≡ false → a ≡ b → x ≤ y
    go true true ep er z q = clash refl z
    go true false ep er z q = omega tests
    go false r ep er z q = absurd (omega tests)

-- an owned epoch's whole log may be sent to anyone as a NEWLEADER
sends-log : (n : ℕ) (g : Ghost) (G : Good n g) (e : ℕ) (h : Hist) (i t : ℕ) → 0 < g.owner e → h ≡ g.log e → SendOk n g i (record { to = t; msg = newleader e h })
sends-log n g G e h i t o w = ((o, rw w (G.based e), rw w (pre-refl (g.log e))), rw w (G.within e t))

-- ---- advance

-- c is where the delivered count went from d, within k: it stayed, or a quorum holds c
pub record Advanced (n i : ℕ) (counts : ℕ → ℕ) (d k c : ℕ) : Type 0 where
  pub low : d ≤ c
  pub high : c ≤ d + k
  pub how : (c ≡ d) ⊎ ((d < c) × (quorum n (holders i counts c) ≡ true))

-- advance does that
pub advance-is : (n i : ℕ) (counts : ℕ → ℕ) (d k : ℕ) → Advanced n i counts d k (advance n i counts d k)
unfolding advance
advance-is n i counts d zero = record { low = omega arith; high = omega arith; how = inl refl }
advance-is n i counts d (suc k) =
    let r = advance-is n i counts d k in
    pick_at (Advanced n i counts d (suc k)) (quorum n (holders i counts (d + suc k))) (d + suc k) (advance n i counts d k)
    (λ e. record { low = omega arith; high = omega arith; how = inr (omega arith, e) })
    (λ _. record { low = r.low; high = omega (arith, r.high); how = r.how })

-- ---- the next identifier of a log

pos-suc : (k : ℕ) → 0 < k → (j : ℕ) × (k ≡ suc j)
pos-suc zero p = absurd (omega arith)
pos-suc (suc j) p = (j, refl)

module _ (n : ℕ) (g : Ghost) (G : Good n g) (e : ℕ) (pos : 0 < e) where
  -- the last identifier is of an earlier epoch, or has the counter that the log's length tells
  last-is : ((length (g.log e) ≡ g.base e) × (last_id (g.log e) < ident e 0)) ⊎ ((g.base e < length (g.log e)) × (last_id (g.log e) ≡ ident e (length (g.log e) - g.base e)))
  last-is = ⊎_elim
      (λ (z : length (g.log e) ≤ g.base e). inl (omega (arith, G.based e), G.low-ids e (length (g.log e)) pos z))
      (λ (z : g.base e < length (g.log e)).
      let k = pos-suc (length (g.log e)) (omega arith) in
      let w : last_id (g.log e) ≡ ident e (suc (k.0 - g.base e)) = ap (id_at (g.log e)) k.1 ∙ G.own-id e k.0 pos (omega (arith, k.1)) (omega (arith, k.1)) in
      inr (z, omega (arith, w, k.1)))
      (le-or-lt (length (g.log e)) (g.base e))

  last-small : last_id (g.log e) < ident (suc e) 0
  last-small = G.ids e (length (g.log e)) (omega arith)

  next-is : next_counter e (last_id (g.log e)) ≡ suc (length (g.log e) - g.base e)
  unfolding next_counter
  next-is = pick_at (λ (v : ℕ). v ≡ suc (length (g.log e) - g.base e)) (eqb (epoch_of (last_id (g.log e))) e) (counter_of (last_id (g.log e)) + 1) 1
      (λ q. ⊎_elim (λ y. absurd (omega (tests, y.1))) (λ y. omega (tests, y.1)) last-is)
      (λ q. ⊎_elim (λ y. omega (arith, y.0)) (λ y. absurd (omega (tests, y.0, y.1, last-small))) last-is)

  next_up : last_id (g.log e) < ident e (suc (length (g.log e) - g.base e))
  next_up = ⊎_elim (λ y. omega (arith, y.1)) (λ y. omega (arith, y.1)) last-is

  next_small : last_id (g.log e) ≢ ident e LAST → ident e (suc (length (g.log e) - g.base e)) < ident (suc e) 0
  next_small m = ⊎_elim (λ y. omega (arith, y.0)) (λ y. omega (arith, y.1, last-small)) last-is

module _ (z : Sizes) (g : Ghost) (G : Good z.n g) (i : ℕ) (s : Server) (S : SrvOk z.n g i s) where
  -- ---- CEPOCH
  l1-join-ok : (f e : ℕ) → s.stage ≡ L1 → Ok z.n false g i s (l1_join z i f e s)
  unfolding l1_join promise
  l1-join-ok f e st = (
    λ qu sp.
        let e' = max s.vol.largest e + 1 in
        let lo : s.dur.p < e' = omega (arith, (S.l1 st).seen) in
        let k : g.prom i < e' = omega (arith, S.dur.prom) in
        let r : Report (promise g i e' i) e' i s.dur.a s.dur.hist = promise-report z.n g G i s S e' i lo in
        record {
          g' = promise g i e' i;
          good = promise-good z.n g G i e' i k;
          grow = promise-grow z.n g G i e' i k;
          only = only-promise g i e' i;
          srv = l2-ok z.n _ i _ refl (promise-dur z.n g G i s S e' i lo) (record {
            young = omega (arith, a-le-p z.n g G i s S);
            new = λ q. omega (arith, G.rules e' i (omega arith) q);
            each = λ t j. let w = just-is i t j in rw w (upd₂-same g.vote e' i (suc i), record { a' = s.dur.a; h' = s.dur.hist; rep = r; first = omega arith; then = λ _. omega arith });
            from = i;
            cand = r;
            blank = (S.l1 st).blank;
          });
          quiet = λ _ w. absurd (omega arith);
          more = omega arith;
          deed = rests (record { unasked = refl; stays = λ w. absurd (omega arith); est = λ _. refl; own = λ _. refl });
          sent = to-all _ z.n i _ _ (λ t _ _ _. (tt, tt));
        },
    λ nq. keep z.n g G i s S _ _ _ (l1-ok z.n g i _ refl S.dur (record { seen = omega (arith, (S.l1 st).seen); blank = (S.l1 st).blank }))
        (λ _ w. absurd (omega arith)) (λ w. absurd (omega arith)) (omega arith) tt,
  )

  l2-join-ok : (f e : ℕ) → s.stage ≡ L2 → Ok z.n false g i s (l2_join f e s)
  unfolding l2_join
  l2-join-ok f e st _ =
      let c = S.l2 st in
      keep z.n g G i s S _ _ _ (l2-ok z.n g i _ st S.dur (record { young = c.young; new = c.new; each = c.each; from = c.from; cand = c.cand; blank = c.blank }))
      (λ _ w. w) (λ w. w) (omega arith) ((tt, tt), tt)

  l34-join-ok : (f e : ℕ) → L3 ≤ s.stage → Ok z.n false g i s (l34_join f e s)
  unfolding l34_join
  l34-join-ok f e st _ =
      let L = S.lead st in
      keep z.n g G i s S _ _ _
      (lead-ok z.n g i _ st S.top S.dur (record { pos = L.pos; now = L.now; mine = L.mine; whole = L.whole; count = L.count })
      (λ q. record { fresh = (S.l3 q).fresh; each = λ t k. (S.l3 q).each t (cut-is s.vol.synced f t k) }) S.l4)
      (λ _ w. w) (λ w. w) (omega arith) ((tt, tt), (sends-log z.n g G s.dur.p s.dur.hist i f (omega (arith, L.mine)) L.whole, tt))

  -- any stage of a leader
  pub cepoch-ok : (f e : ℕ) → (L1 ≤ s.stage) × (s.stage ≤ L4) → Ok z.n false g i s (on_cepoch z i f e s)
  unfolding on_cepoch
  cepoch-ok f e st = (λ q. l1-join-ok f e (omega tests), λ n5. (λ q. l2-join-ok f e (omega tests), λ n6. l34-join-ok f e (omega tests)))

  -- ---- ACK-E: the candidate (ca, ch), which r reported, and those now counted
  module _ (q : Set) (ca : ℕ) (ch : Hist) (st : s.stage ≡ L2) (r : ℕ) (R : Report g s.dur.p r ca ch)
      (each : (t : ℕ) → q t ≡ true → (g.vote s.dur.p t ≡ suc i) × Below g s.dur.p ca ch t) where
    young : s.dur.a < s.dur.p
    young = (S.l2 st).young

    -- they are a quorum: i is elected
    module _ (qu : quorum z.n q ≡ true) (un : s.dur.d ≤ length ch) (un' : take s.dur.d ch ≡ take s.dur.d s.dur.hist) where
      votes : Most z.n (λ t. g.vote s.dur.p t ≡ suc i)
      votes = record { who = q; quo = qu; each = λ t k. (each t k).0 }

      belows : Most z.n (Below g s.dur.p ca ch)
      belows = record { who = q; quo = qu; each = λ t k. (each t k).1 }

      free : g.owner s.dur.p ≡ 0
      free = free-epoch z.n g G s.dur.p i (omega (arith, young)) votes (S.l2 st).new

      small : (k : ℕ) → k ≤ length ch → id_at ch k < ident s.dur.p 0
      small k l = omega (arith, R.old, id-agree k ch (g.log ca) (pre-take ch (g.log ca) k R.part l), G.ids ca k (omega (arith, pre-len ch (g.log ca) R.part)))

      roots : (k : ℕ) → k < length ch → Origin g ch k
      roots k l = origin-as g ch (g.log ca) k (pre-take ch (g.log ca) (suc k) R.part l) (G.origin ca k (omega (arith, pre-len ch (g.log ca) R.part)))

      electable : Electable z.n g i s.dur.p ch
      electable = record {
        free = free;
        mine = omega (arith, S.dur.prom);
        votes = votes;
        up = rising-pre ch (g.log ca) R.part (G.rising ca);
        small = small;
        roots = roots;
        keeps = chosen z.n g G s.dur.p ca ch r R belows;
        keeps-ids = chosen-ids z.n g G s.dur.p ca ch r R belows;
      }

      g₁ : Ghost
      g₁ = elect g i s.dur.p ch

      grow₁ : Grow g g₁
      unfolding g₁
      grow₁ = elect-grow z.n g G i s.dur.p ch electable

      good₁ : Good z.n g₁
      unfolding g₁
      good₁ = elect-good z.n g G i s.dur.p ch electable

      own₁ : (e : ℕ) → own g₁ e ≡ own g e
      unfolding g₁
      own₁ = elect-own z.n g G i s.dur.p ch electable

      only₁ : Only i g g₁
      unfolding g₁
      only₁ = only-elect g i s.dur.p ch free

      log₁ : ch ≡ g₁.log s.dur.p
      unfolding g₁ elect
      log₁ = sym (upd_same g.log s.dur.p ch)

      mine₁ : g₁.owner s.dur.p ≡ suc i
      unfolding g₁ elect
      mine₁ = upd_same g.owner s.dur.p (suc i)

      est₁ : (e : ℕ) → g₁.est e ≡ g.est e
      unfolding g₁ elect
      est₁ e = refl

      -- a new owner's epoch is not established
      fresh₁ : g.est s.dur.p ≡ 0
      fresh₁ = ⊎_elim (λ (y : g.est s.dur.p ≤ 0). omega arith)
          (λ (y : 0 < g.est s.dur.p). absurd (omega (arith, free, (committed-in z.n g G s.dur.p (g.base s.dur.p) (G.settled s.dur.p y)).0))) (le-or-lt (g.est s.dur.p) 0)

      -- and i holds it
      holds₁ : Holds z.n g₁ i s.dur.p s.dur.d ch
      unfolding g₁ elect
      holds₁ = record {
        prom = S.dur.prom;
        owned = omega (arith, upd_same g.owner s.dur.p (suc i));
        above = omega (arith, upd_same g.base s.dur.p (length ch));
        part = rw (upd_same g.log s.dur.p ch) (pre-refl ch);
        up = omega (arith, S.dur.none s.dur.p young);
        del = deliv-up z.n g g₁ G grow₁ s.dur.p s.dur.d ch (deliv-keep z.n g s.dur.a s.dur.p s.dur.d s.dur.hist ch S.dur.del (a-le-p z.n g G i s S) un un');
      }

      elected : (v : Vol) → v.synced ≡ just i → v.counts ≡ s.vol.counts → Done z.n false g i s false (moved L3 (accepted s.dur.p ch s.dur) v s) (to_all z.n i s.vol.joined (newleader s.dur.p ch))
      unfolding hold
      elected v sy co =
          let p = s.dur.p in
          let G₂ = holds-good z.n g₁ good₁ i p s.dur.d ch holds₁ in
          record {
            g' = hold g₁ i p (length ch);
            good = G₂;
            grow = grow-trans g g₁ _ grow₁ (holds-grow z.n g₁ good₁ i p s.dur.d ch holds₁);
            only = only-trans i g g₁ _ grow₁ only₁ (only-hold g₁ i p (length ch));
            srv = l3-ok z.n _ i _ refl (holds-dur z.n g₁ good₁ i p s.dur.d ch holds₁)
                (record { pos = omega (arith, young); now = refl; mine = mine₁; whole = log₁; count = λ t k. absurd (omega (arith, ap (λ (f : ℕ → ℕ). f t) co, (S.l2 st).blank t)) })
                (record { fresh = est₁ p ∙ fresh₁; each = λ t k. rw (just-is i t (rw sy at k), upd₂-same g₁.ackd p i (suc (length ch))) (omega arith) });
            quiet = λ _ w. absurd (omega arith);
            more = omega arith;
            deed = rests (record { unasked = refl; stays = λ w. absurd (omega arith); est = est₁; own = own₁ });
            sent = to-all _ z.n i _ _ (λ t _ _ _. sends-log z.n (hold g₁ i p (length ch)) G₂ p ch i t holds₁.owned log₁);
          }

    l2-count-ok : Ok z.n false g i s (l2_count z i q ca ch s)
    unfolding l2_count keeps
    l2-count-ok = (
      λ qu un un'. elected qu (omega tests) (same-hist _ _ un') _ refl refl,
      λ _. keep z.n g G i s S _ _ _ (l2-ok z.n g i _ refl S.dur (record { young = (S.l2 st).young; new = (S.l2 st).new; each = each; from = r; cand = R; blank = (S.l2 st).blank }))
          (λ _ w. absurd (omega arith)) (λ w. absurd (omega arith)) (omega arith) tt,
    )

  -- a report not above one pair is not above a greater
  below-mono : (e a b : ℕ) (h k : Hist) (t : ℕ) → (a < b) ⊎ ((a ≡ b) × (last_id h < last_id k)) → Below g e a h t → Below g e b k t
  below-mono e a b h k t (inl y) c = record { a' = c.a'; h' = c.h'; rep = c.rep; first = omega (arith, c.first); then = λ q. absurd (omega (arith, c.first)) }
  below-mono e a b h k t (inr y) c = record { a' = c.a'; h' = c.h'; rep = c.rep; first = omega (arith, c.first, y.0); then = λ q. omega (arith, c.then (omega (arith, y.0)), y.1) }

  -- those counted, f with them, whose report (a, h) is the candidate if it beats the one before
  pub counted-won : (st : s.stage ≡ L2) (f a : ℕ) (h : Hist) → MsgOk z.n g f i (acke s.dur.p a h) → beats a (last_id h) s.vol.cand_epoch (last_id s.vol.cand_hist) ≡ true
      → (t : ℕ) → upd s.vol.acked f true t ≡ true → (g.vote s.dur.p t ≡ suc i) × Below g s.dur.p a h t
  counted-won st f a h m be t k = ⊎_elim
      (λ (y : t ≡ f). rw y (m.0, record { a' = a; h' = h; rep = m.1; first = omega arith; then = λ _. omega arith }))
      (λ y. let w = (S.l2 st).each t y in (w.0, below-mono s.dur.p s.vol.cand_epoch a s.vol.cand_hist h t (beats-true a (last_id h) s.vol.cand_epoch (last_id s.vol.cand_hist) be) w.1))
      (put_is s.vol.acked f t k)

  -- or else the one before stays
  pub counted-lost : (st : s.stage ≡ L2) (f a : ℕ) (h : Hist) → MsgOk z.n g f i (acke s.dur.p a h) → beats a (last_id h) s.vol.cand_epoch (last_id s.vol.cand_hist) ≡ false
      → (t : ℕ) → upd s.vol.acked f true t ≡ true → (g.vote s.dur.p t ≡ suc i) × Below g s.dur.p s.vol.cand_epoch s.vol.cand_hist t
  counted-lost st f a h m nb t k =
      let b = beats-false a (last_id h) s.vol.cand_epoch (last_id s.vol.cand_hist) nb in
      ⊎_elim (λ (y : t ≡ f). rw y (m.0, record { a' = a; h' = h; rep = m.1; first = b.0; then = b.1 })) (λ y. (S.l2 st).each t y) (put_is s.vol.acked f t k)

  -- ACK-E
  pub acke-ok : (f e a : ℕ) (h : Hist) → (L2 ≤ s.stage) × (s.stage ≤ L4) → MsgOk z.n g f i (acke e a h) → Ok z.n false g i s (on_acke z i f e a h s)
  unfolding on_acke
  acke-ok f e a h w m _ ep =
      let q : e ≡ s.dur.p = omega tests in
      let m' : MsgOk z.n g f i (acke s.dur.p a h) = rw q at m in (
        λ st₀.
            let st : s.stage ≡ L2 = omega tests in (
              λ be. l2-count-ok (upd s.vol.acked f true) a h st f m'.1 (counted-won st f a h m' be),
              λ nb. l2-count-ok (upd s.vol.acked f true) s.vol.cand_epoch s.vol.cand_hist st (S.l2 st).from (S.l2 st).cand (counted-lost st f a h m' nb),
            ),
        λ _. keep z.n g G i s S false s [] S (λ _ y. y) (λ y. y) (omega arith) tt,
      )

  -- ---- ACK-LD, ACK
  module _ (L : LeadOk g i s.dur s.vol) where
    count-up : (f c : ℕ) → c < g.ackd s.dur.p f → (t : ℕ) → 0 < upd s.vol.counts f (max (s.vol.counts f) c) t → upd s.vol.counts f (max (s.vol.counts f) c) t < g.ackd s.dur.p t
    count-up f c k t = upd-at (λ (v : ℕ). 0 < v → v < g.ackd s.dur.p t) s.vol.counts f (max (s.vol.counts f) c) t
        (λ q _. rw q (⊎_elim (λ (y : s.vol.counts f ≤ c). omega arith) (λ (y : c < s.vol.counts f). omega (arith, L.count f (omega arith))) (le-or-lt (s.vol.counts f) c)))
        (λ _. L.count t)

    lead-vol : (d : ℕ) (v : Vol) → ((t : ℕ) → 0 < v.counts t → v.counts t < g.ackd s.dur.p t) → LeadOk g i (delivered d s.dur) v
    lead-vol d v c = record { pos = L.pos; now = L.now; mine = L.mine; whole = L.whole; count = c }

    -- a new delivered count, of the leader's own epoch
    lead-dur : (c : ℕ) → c ≤ length s.dur.hist → Committed z.n g s.dur.p c → DurOk z.n g i (delivered c s.dur)
    lead-dur c k m = record {
      prom = S.dur.prom;
      part = S.dur.part;
      held = S.dur.held;
      none = S.dur.none;
      del = record { fits = k; safe = λ _. (s.dur.p, omega (arith, L.now), m, ap (take c) L.whole) };
    }

    -- a quorum holds the whole initial history: the epoch is established
    module _ (cm : Committed z.n g s.dur.p (length s.dur.hist)) (K : L3Ok g s.dur s.vol) (st : s.stage ≡ L3) where
      covers : g.base s.dur.p ≤ length s.dur.hist
      covers = rw L.whole (G.based s.dur.p)

      settles : Committed z.n g s.dur.p (g.base s.dur.p)
      settles = record { who = cm.who; quo = cm.quo; each = λ t k. omega (arith, cm.each t k, covers) }

      established : (v : Vol) → ((t : ℕ) → 0 < v.counts t → v.counts t < g.ackd s.dur.p t)
          → Done z.n false g i s false (moved L4 (delivered (length s.dur.hist) s.dur) v s) (to_all z.n i v.synced (commitld s.dur.p (length s.dur.hist)))
      unfolding establish
      established v cu =
          let p = s.dur.p in
          let W = establish-grow z.n g G p settles in
          record {
            g' = establish g p;
            good = establish-good z.n g G p settles;
            grow = W;
            only = only-establish g i p L.mine;
            srv = l4-ok z.n _ i _ refl (dur-up z.n g (establish g p) G W i refl (λ _. refl) _ (lead-dur (length s.dur.hist) (omega arith) cm))
                (lead_up z.n g (establish g p) G W i _ v refl (lead-vol (length s.dur.hist) v cu))
                (record { done = upd_same g.est p 1; safe = cm; all = covers });
            quiet = λ _ w. absurd (omega arith);
            more = S.dur.del.fits;
            deed = establishes (record { unasked = refl; before = omega arith; now = refl; mine = L.mine; fresh = K.fresh; est = λ _. refl; own = λ _. refl });
            sent = to-all _ z.n i _ _ (λ t _ _ _. (cm, tt));
          }

    l3-sync-ok : (f c : ℕ) → s.stage ≡ L3 → c < g.ackd s.dur.p f → Ok z.n false g i s (l3_sync z i f c s)
    unfolding l3_sync
    l3-sync-ok f c st k ga =
        let each : (t : ℕ) → upd s.vol.synced f true t ≡ true → length s.dur.hist < g.ackd s.dur.p t =
        λ t j. ⊎_elim (λ (y : t ≡ f). rw y (omega tests)) (λ y. (S.l3 st).each t y) (put_is s.vol.synced f t j) in (
          λ qu. established (record { who = upd s.vol.synced f true; quo = qu; each = each }) (S.l3 st) st _ (count-up f c k),
          λ _. keep z.n g G i s S _ _ _ (l3-ok z.n g i _ refl S.dur (lead-vol _ _ (count-up f c k)) (record { fresh = (S.l3 st).fresh; each = each }))
              (λ _ w. absurd (omega arith)) (λ w. absurd (omega arith)) (omega arith) tt,
        )

    held-p : g.ackd s.dur.p i ≡ suc (length s.dur.hist)
    held-p = rw L.now at S.dur.held

    l4-advance-ok : (v : Vol) (q : Set) (more : ℕ → List Send) → s.stage ≡ L4 → ((t : ℕ) → 0 < v.counts t → v.counts t < g.ackd s.dur.p t)
        → ((c : ℕ) → Committed z.n g s.dur.p c → All (SendOk z.n g i) (more c)) → Ok z.n false g i s (l4_advance z i v q more s)
    unfolding l4_advance advanced
    l4-advance-ok v q more st cu mo =
        let c = advance z.n i v.counts s.dur.d (length s.dur.hist - s.dur.d) in
        let a : Advanced z.n i v.counts s.dur.d (length s.dur.hist - s.dur.d) c = advance-is z.n i v.counts s.dur.d (length s.dur.hist - s.dur.d) in
        let fit : s.dur.d ≤ length s.dur.hist = S.dur.del.fits in
        let low : c ≤ length s.dur.hist = omega (arith, a.high) in
        let cm : Committed z.n g s.dur.p c =
        ⊎_elim (λ (y : c ≡ s.dur.d). rw y (S.l4 st).safe)
        (λ (y : (s.dur.d < c) × (quorum z.n (holders i v.counts c) ≡ true)).
        record {
          who = holders i v.counts c;
          quo = y.1;
          each = λ t k.
              ⊎_elim (λ (x : eqb t i ≡ true). let w : t ≡ i = omega tests in rw w (omega (arith, held-p)))
              (λ (x : leb c (v.counts t) ≡ true). omega (tests, cu t (omega (tests, y.0)), y.0))
              (either_true (eqb t i) (leb c (v.counts t)) k);
        })
        a.how in
        keep z.n g G i s S _ _ _ (l4-ok z.n g i _ refl (lead-dur c low cm) (lead-vol c v cu) (record { done = (S.l4 st).done; safe = cm; all = omega (arith, (S.l4 st).all, a.low) }))
        (λ _ w. absurd (omega arith)) (λ _. st) a.low
        (all_append (SendOk z.n g i) (pick (ltb s.dur.d c) (to_all z.n i q (commit s.dur.p c)) []) (more c)
        (pick_at (λ (l : List Send). All (SendOk z.n g i) l) (ltb s.dur.d c) (to_all z.n i q (commit s.dur.p c)) []
        (λ _. to-all (SendOk z.n g i) z.n i q (commit s.dur.p c) (λ t _ _ _. (cm, tt))) (λ _. tt))
        (mo c cm))

  -- ACK-LD
  pub ackld-ok : (f e c : ℕ) → (L3 ≤ s.stage) × (s.stage ≤ L4) → MsgOk z.n g f i (ackld e c) → Ok z.n false g i s (on_ackld z i f e c s)
  unfolding on_ackld
  ackld-ok f e c w m ep =
      let q : e ≡ s.dur.p = omega tests in
      let L = S.lead w.0 in (
        λ st. l3-sync-ok L f c (omega tests) (rw q at m),
        λ ns _. l4-advance-ok L _ _ _ (omega (tests, w.0, w.1)) (count-up L f c (rw q at m)) (λ d cm. ((cm, tt), tt)),
      )

  -- ACK
  pub ack-ok : (f e k : ℕ) → (L4 ≤ s.stage) × (s.stage ≤ L4) → MsgOk z.n g f i (ack e k) → Ok z.n false g i s (on_ack z i f e k s)
  unfolding on_ack
  ack-ok f e k w m ep _ =
      let q : e ≡ s.dur.p = omega tests in
      let L = S.lead (omega arith) in
      l4-advance-ok L _ _ _ (omega arith) (count-up L f k (rw q at m)) (λ _ _. tt)

  -- ---- a submission: t is appended to the log of the leader's epoch
  module _ (t : Txn) (L : LeadOk g i s.dur s.vol) (K : L4Ok z.n g s.dur) (st : s.stage ≡ L4)
      (is : t.id.0 ≡ ident s.dur.p (suc (length (g.log s.dur.p) - g.base s.dur.p))) (sm : t.id.0 < ident (suc s.dur.p) 0) where
    extendable : Extendable g s.dur.p t
    extendable = record { pos = L.pos; owned = omega (arith, L.mine); is = is; up = omega (arith, is, next_up z.n g G s.dur.p L.pos); small = sm }

    h⁺ : Hist
    h⁺ = s.dur.hist ++ (t ∷ [])

    g⁺ : Ghost
    g⁺ = extend g s.dur.p t

    grow⁺ : Grow g g⁺
    unfolding g⁺
    grow⁺ = extend-grow z.n g G s.dur.p t extendable

    good⁺ : Good z.n g⁺
    unfolding g⁺
    good⁺ = extend-good z.n g G s.dur.p t extendable

    only⁺ : Only i g g⁺
    unfolding g⁺
    only⁺ = only-extend g i s.dur.p t L.mine

    here⁺ : own g⁺ s.dur.p ≡ own g s.dur.p ++ (t ∷ [])
    unfolding g⁺
    here⁺ = extend-own z.n g G s.dur.p t extendable

    others⁺ : (e : ℕ) → e ≢ s.dur.p → own g⁺ e ≡ own g e
    unfolding g⁺
    others⁺ = extend-other z.n g G s.dur.p t extendable

    est⁺ : (e : ℕ) → g⁺.est e ≡ g.est e
    unfolding g⁺ extend
    est⁺ e = refl

    log⁺ : h⁺ ≡ g⁺.log s.dur.p
    unfolding g⁺ extend h⁺
    log⁺ = ap (λ (l : Hist). l ++ (t ∷ [])) L.whole ∙ sym (upd_same g.log s.dur.p (g.log s.dur.p ++ (t ∷ [])))

    len⁺ : length h⁺ ≡ suc (length s.dur.hist)
    unfolding h⁺
    len⁺ = length-snoc s.dur.hist t

    own⁺ : g⁺.owner s.dur.p ≡ suc i
    unfolding g⁺ extend
    own⁺ = L.mine

    base⁺ : g⁺.base s.dur.p ≤ s.dur.d
    unfolding g⁺ extend
    base⁺ = K.all

    -- and i holds it
    holds⁺ : Holds z.n g⁺ i s.dur.p s.dur.d h⁺
    unfolding g⁺ extend h⁺
    holds⁺ = record {
      prom = S.dur.prom;
      owned = omega (arith, L.mine);
      above = omega (arith, K.all, len⁺, S.dur.del.fits);
      part = rw (← log⁺) (pre-refl h⁺);
      up = omega (arith, rw L.now at S.dur.held, len⁺);
      del = deliv-up z.n g g⁺ G grow⁺ s.dur.p s.dur.d h⁺
          (deliv-keep z.n g s.dur.a s.dur.p s.dur.d s.dur.hist h⁺ S.dur.del (a-le-p z.n g G i s S) (omega (arith, len⁺, S.dur.del.fits)) (take-append-le s.dur.d s.dur.hist (t ∷ []) S.dur.del.fits));
    }

    place⁺ : (j : ℕ) → length s.dur.hist + 1 ≡ suc j → (j < length (g⁺.log s.dur.p)) × (get_or (g⁺.log s.dur.p) j none ≡ t)
    unfolding h⁺
    place⁺ j q = let r : j ≡ length s.dur.hist = omega arith in rw (r, ← log⁺) (omega (arith, len⁺), get_or-append_seam s.dur.hist t [] none)

    submitted : Done z.n true g i s false (moved L4 (appended t s.dur) s.vol s) (to_all z.n i s.vol.joined (propose s.dur.p (length s.dur.hist + 1) t))
    unfolding hold h⁺
    submitted =
        let p = s.dur.p in
        let W = grow-trans g g⁺ _ grow⁺ (holds-grow z.n g⁺ good⁺ i p s.dur.d h⁺ holds⁺) in
        record {
          g' = hold g⁺ i p (length h⁺);
          good = holds-good z.n g⁺ good⁺ i p s.dur.d h⁺ holds⁺;
          grow = W;
          only = only-trans i g g⁺ _ grow⁺ only⁺ (only-hold g⁺ i p (length h⁺));
          srv = l4-ok z.n _ i _ refl (subst (λ (a : ℕ). DurOk z.n (hold g⁺ i p (length h⁺)) i (record { p = s.dur.p; a = a; d = s.dur.d; hist = h⁺ })) (sym L.now)
              (holds-dur z.n g⁺ good⁺ i p s.dur.d h⁺ holds⁺))
              (record { pos = L.pos; now = L.now; mine = own⁺; whole = log⁺; count = λ x k. omega (arith, L.count x k, W.ackd p x) })
              (record { done = est⁺ p ∙ K.done; safe = committed-up z.n g _ G W p s.dur.d K.safe; all = base⁺ });
          quiet = λ _ w. absurd (omega arith);
          more = omega arith;
          deed = appends (record { asks = refl; before = st; t = t; hist = refl; log = sym log⁺; base = base⁺; fits = S.dur.del.fits; epoch = omega (arith, is); mine = L.mine; done = K.done; est = est⁺; here = here⁺; others = others⁺ });
          sent = to-all _ z.n i _ _ (λ x _ _ _. ((holds⁺.owned, place⁺), tt));
        }

  -- a submission
  pub submit-ok : (v : ℕ) → Ok z.n true g i s (on_submit z i v s)
  unfolding on_submit
  submit-ok v st _ fu =
      let L = S.lead (omega tests) in
      let is : ident s.dur.p (next_counter s.dur.p (last_id s.dur.hist)) ≡ ident s.dur.p (suc (length (g.log s.dur.p) - g.base s.dur.p)) =
      ap (ident s.dur.p) (ap (λ (h : Hist). next_counter s.dur.p (last_id h)) L.whole ∙ next-is z.n g G s.dur.p L.pos) in
      let below : last_id (g.log s.dur.p) ≢ ident s.dur.p LAST = rw (← L.whole) (omega (tests, not_is (eqb (last_id s.dur.hist) (ident s.dur.p LAST)) fu)) in
      submitted (submission v s.dur) L (S.l4 (omega tests)) (omega tests) is (omega (arith, is, next_small z.n g G s.dur.p L.pos below))

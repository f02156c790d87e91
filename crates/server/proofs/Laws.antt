-- From the rules to a plan, and from a plan to the whole answer.
use Prim.Native.Nat.{ℕ, zero, suc, ◌+◌, ◌-◌, ◌*◌, ◌≤◌, ◌<◌}
use mathlib.Core.Path.{◌≡◌, refl, sym, ap, subst, ◌∙◌}
use mathlib.Core.Logic.{◌≢◌}
use mathlib.Core.Bool.{Bool, true, false}
use mathlib.Core.List.{List, [], ◌∷◌}
use native.Mathlib.Omega.{arith}
use lib.Dec.{eqb, leb}
use lib.ListN.{length, drop, length-drop, length-append, get_or}
use borrow.Author.Tests.{eq-eqb, ne_eqb, eqb-true, leb-true, le-leb, lt-leb, lt-ltb, le-ltb}
use Rattle.std.specs.Prelude.{Option, Some, None, Result, Ok, Err, IfOk}
use Rattle.base.specs.Choice.{pick, both}
use Rattle.base.specs.Refusals.{number}
use Rattle.base.specs.declared.Refusal.{Refusal}
use Rattle.base.specs.declared.Refusal.TheVariants.{Event as EventR, Message as MessageR}
use Rattle.base.proofs.Refusals.{number-some, number-one}
use Rattle.base.specs.Transaction.{Hist}
use Rattle.base.specs.declared.Epoch.{Epoch}
use Rattle.base.specs.declared.Place.{Place}
use Rattle.base.specs.declared.Txn.{Txn}
use Rattle.base.specs.declared.Sizes.{Sizes}
use Rattle.base.proofs.Choice.{both_true, both_yes, both-no, pick_at, tests, clash}
use Rattle.rules.specs.declared.State.{State}
use Rattle.rules.specs.Message.{Msg, cepoch, newepoch, acke, newleader, ackld, commitld, propose, ack, commit, junk, Send, formed}
use Rattle.rules.specs.Server.{Server, good_sizes, well_formed}
use Rattle.rules.specs.Tree.{Res, refused, taken, run}
use Rattle.rules.specs.Step.{receive, on_oracle, on_restart, on_submit, Input, oracle, restart, message, submit, step}
use Rattle.rules.specs.Words.{txns, all_zero, hist_words, msg_size, slot_size, read_msg, server_with, server_of, state_of, good_words, good_state}
use Rattle.rules.proofs.Trees.{All}
use Rattle.rules.proofs.Kept.{Sendable, step_kept}
use Rattle.rules.proofs.WellFormed.{whole, sized}
use Rattle.rules.proofs.Words.{length-txns, words-good, hist-good, state-back, txns-flat}
use Rattle.plan.specs.declared.Plan.{Plan}
use Rattle.plan.specs.declared.Message.{Message}
use Rattle.plan.specs.declared.Message.TheVariants.{Cepoch, Newepoch, Acke, Newleader, Ackld, Commitld, Propose, Ack, Commit}
use Rattle.plan.specs.Plans.{hist_from, cand_from, hist_of, cand_of, sends, meaning, meant, held, Sized, Fit, Plans}
use Rattle.plan.proofs.Laws.{turned-away}
use Rattle.message.specs.Reads.{well_read, meant_by, Reads}
use Rattle.hands.specs.Hands.{Ready, Performed}
use Rattle.hands.proofs.Ready.{ready}
use Rattle.server.specs.declared.Event.{Event}
use Rattle.server.specs.declared.Event.TheVariants.{Oracle, Restart, Deliver, Submit, Unknown}
use Rattle.server.specs.declared.Answer.{Answer}
use Rattle.server.specs.Whole.{answer_of, lent_len, load_at, can, Can, six, Known, Out, written, step_of, Reply, reply, Does, Loads, Decides, Steps}

-- ---- what is known of well-formed records and words

pub record Facts (z : Sizes) (s : State) (h k : List ℕ) : Type 0 where
  pub most : z.n ≤ 7
  pub some : 1 ≤ z.room.0
  pub room : z.room.0 ≤ 64
  pub me : s.me < z.n
  pub stage : s.stage ≤ 8
  pub d : s.d.0 ≤ s.len.0
  pub hist : (length h ≡ 2 * z.room.0) × (s.len.0 ≤ z.room.0) × (all_zero (drop (2 * s.len.0) h) ≡ true)
  pub cand : (length k ≡ 2 * z.room.0) × (s.cand_len.0 ≤ z.room.0) × (all_zero (drop (2 * s.cand_len.0) k) ≡ true)
  pub formed : well_formed z s.me (server_of s h k) ≡ true

pub facts : (z : Sizes) (s : State) (h k : List ℕ) → good_sizes z ≡ true → good_state z s h k ≡ true → Facts z s h k
unfolding good_state
facts z s h k gz gs =
    let a = both_true (good_words z.room.0 s.len.0 h) _ gs in
    let b = both_true (good_words z.room.0 s.cand_len.0 k) (well_formed z s.me (server_of s h k)) a.1 in
    let w = whole z s.me (server_of s h k) b.1 in
    let y = sized z gz in
    record {
      most = y.seven;
      some = y.some;
      room = y.room;
      me = w.low;
      stage = w.orc.known;
      d = omega (arith, w.dur.fits, length-txns s.len.0 h);
      hist = words-good z.room.0 s.len.0 h a.0;
      cand = words-good z.room.0 s.cand_len.0 k b.0;
      formed = b.1;
    }

pub sized_of : (z : Sizes) (s : State) (h k : List ℕ) → Facts z s h k → length s.joined ≡ 7 → length s.acked ≡ 7 → length s.synced ≡ 7 → length s.counts ≡ 7 → Sized z s
sized_of z s h k f a b c d = record { most = f.most; me = f.me; room = f.room; stage = f.stage; len = f.hist.1; cand = f.cand.1; d = f.d; joined = a; acked = b; synced = c; counts = d }

-- ---- the dispatch on a message

module _ (z : Sizes) (s : State) (r : Result Plan Refusal) (f : ℕ) (h k m : List ℕ) (x : Message) where
  abbrev Says : Msg → Type 0
  Says y = Plans z s r h k m (run (receive z s.me f y (server_of s h k)))

  pub on-cepoch : (e : Epoch) → x ≡ Cepoch e → Says (cepoch e.0) → Says (meant x m)
  unfolding meant
  on-cepoch e q p = rw q p

  pub on-newepoch : (e : Epoch) → x ≡ Newepoch e → Says (newepoch e.0) → Says (meant x m)
  unfolding meant
  on-newepoch e q p = rw q p

  pub on-acke : (e a : Epoch) (n : Place) → x ≡ Acke e a n → Says (acke e.0 a.0 (txns n.0 m)) → Says (meant x m)
  unfolding meant
  on-acke e a n q p = rw q p

  pub on-newleader : (e : Epoch) (n : Place) → x ≡ Newleader e n → Says (newleader e.0 (txns n.0 m)) → Says (meant x m)
  unfolding meant
  on-newleader e n q p = rw q p

  pub on-ackld : (e : Epoch) (n : Place) → x ≡ Ackld e n → Says (ackld e.0 n.0) → Says (meant x m)
  unfolding meant
  on-ackld e n q p = rw q p

  pub on-commitld : (e : Epoch) (n : Place) → x ≡ Commitld e n → Says (commitld e.0 n.0) → Says (meant x m)
  unfolding meant
  on-commitld e n q p = rw q p

  pub on-propose : (e : Epoch) (n : Place) (t : Txn) → x ≡ Propose e n t → Says (propose e.0 n.0 t) → Says (meant x m)
  unfolding meant
  on-propose e n t q p = rw q p

  pub on-ack : (e : Epoch) (n : Place) → x ≡ Ack e n → Says (ack e.0 n.0) → Says (meant x m)
  unfolding meant
  on-ack e n q p = rw q p

  pub on-commit : (e : Epoch) (n : Place) → x ≡ Commit e n → Says (commit e.0 n.0) → Says (meant x m)
  unfolding meant
  on-commit e n q p = rw q p

-- ---- a delivery

heard : (z : Sizes) (i f : ℕ) (x : Msg) (s : Server) → f < z.n → f ≢ i → run (receive z i f (well_read z x) s) ≡ run (step z i (message f x) s)
unfolding step run well_read receive pick
heard z i f x s l n = rw (lt-ltb f z.n l, ne_eqb f i n) (go (formed z x))
  where
    go : (b : Bool) → run (receive z i f (pick b x junk) s) ≡ elim b [ true ↦ run (receive z i f x s) | false ↦ refused 3 ]
    go true = refl
    go false = refl

module _ (z : Sizes) (s : State) (r : Result Plan Refusal) (f : ℕ) (h k m : List ℕ) where
  pub delivery-unknown : z.n ≤ f → r ≡ Err EventR → Plans z s r h k (drop 4 m) (answer_of z s (Deliver f) h k m)
  unfolding answer_of step run
  delivery-unknown l e = turned-away z s r h k (drop 4 m) _ EventR e (rw (le-ltb f z.n l))

  pub delivery-self : f < z.n → f ≡ s.me → r ≡ Err EventR → Plans z s r h k (drop 4 m) (answer_of z s (Deliver f) h k m)
  unfolding answer_of step run
  delivery-self l q e = turned-away z s r h k (drop 4 m) _ EventR e (rw (lt-ltb f z.n l, eq-eqb f s.me q))

  -- a message that is read as x
  read-as : (x : Msg) → f < z.n → (f ≡ s.me → ⊥) → x ≡ well_read z (read_msg z.room.0 m) → Plans z s r h k (drop 4 m) (run (receive z s.me f x (server_of s h k)))
      → Plans z s r h k (drop 4 m) (answer_of z s (Deliver f) h k m)
  unfolding answer_of
  read-as x l n q p = rw (← heard z s.me f (read_msg z.room.0 m) (server_of s h k) l n, ← q) p

  pub delivery-heard : (o : Option Message) (x : Message) → o ≡ Some x → f < z.n → (f ≡ s.me → ⊥) → Reads z m o → Plans z s r h k (drop 4 m) (run (receive z s.me f (meant x (drop 4 m)) (server_of s h k)))
      → Plans z s r h k (drop 4 m) (answer_of z s (Deliver f) h k m)
  delivery-heard o x e l n q p = read-as (meant x (drop 4 m)) l n (ap (λ (y : Option Message). meant_by y (drop 4 m)) (sym e) ∙ q.means) p

  pub delivery-junk : (o : Option Message) → o ≡ None → f < z.n → (f ≡ s.me → ⊥) → Reads z m o → r ≡ Err MessageR → Plans z s r h k (drop 4 m) (answer_of z s (Deliver f) h k m)
  unfolding receive run
  delivery-junk o e l n q x = read-as junk l n (ap (λ (y : Option Message). meant_by y (drop 4 m)) (sym e) ∙ q.means) (turned-away z s r h k (drop 4 m) _ MessageR x refl)

-- ---- what a plan reads of a message that is not there

-- a history that does not hang on the message's words is not read from them
same_len : (n : ℕ) → txns n [] ≡ txns n (1 ∷ []) → n ≡ 0
unfolding txns
same_len zero e = refl
same_len (suc n) e = let y : ◌≡◌ {A = ℕ} 0 1 = ap (λ (l : Hist). (get_or l 0 (record { id = record { 0 = 7 }; val = 0 })).id.0) e in absurd (omega arith)

hist-at : Res → Hist
hist-at (refused c) = []
hist-at (taken b s out) = s.dur.hist

cand-at : Res → Hist
cand-at (refused c) = []
cand-at (taken b s out) = s.vol.cand_hist

module _ (z : Sizes) (s : State) (r : Plan) (h k : List ℕ) (x : Res) (p : (m : List ℕ) → Plans z s (Ok r) h k m x) where
  unread-hist : r.hist ≡ 1 → r.state.len.0 ≡ 0
  unfolding meaning pick hist_from hist-at
  unread-hist q = same_len r.state.len.0
      (let e : hist-at (meaning z (Ok r) h k []) ≡ hist-at (meaning z (Ok r) h k (1 ∷ [])) = ap hist-at ((p []).means ∙ sym (p (1 ∷ [])).means) in rw q at e)

  unread-cand : r.cand ≡ 1 → r.state.cand_len.0 ≡ 0
  unfolding meaning pick cand_from cand-at
  unread-cand q = same_len r.state.cand_len.0
      (let e : cand-at (meaning z (Ok r) h k []) ≡ cand-at (meaning z (Ok r) h k (1 ∷ [])) = ap cand-at ((p []).means ∙ sym (p (1 ∷ [])).means) in rw q at e)

pub unread : (z : Sizes) (s : State) (r : Result Plan Refusal) (h k : List ℕ) (x : Res) → ((m : List ℕ) → Plans z s r h k m x) → (m : List ℕ) → IfOk r (λ q. Loads q m)
unread z s (Ok r) h k x p m = record { hist = λ q. omega (arith, unread-hist z s r h k x p q); cand = λ q. omega (arith, unread-cand z s r h k x p q) }
unread z s (Err c) h k x p m = tt

-- what a well-formed plan reads of the words of a slot is there
slot-loads : (z : Sizes) (s : State) (r : Result Plan Refusal) (h k l m : List ℕ) (x : Res) → Plans z s r h k l x → length m ≡ msg_size z.room.0 → IfOk r (λ q. Loads q (drop 4 m))
slot-loads z s (Ok r) h k l m x p e = record { hist = λ _. omega (arith, length-drop 4 m, p.fit.len); cand = λ _. omega (arith, length-drop 4 m, p.fit.cand) }
slot-loads z s (Err c) h k l m x p e = tt

-- ---- the dispatch on an event

module _ (z : Sizes) (s : State) (r : Result Plan Refusal) (h k m : List ℕ) (ev : Event) where
  pub on-oracle : (x : ℕ) → ev ≡ Oracle x → ((y : List ℕ) → Plans z s r h k y (run (on_oracle z s.me x (server_of s h k)))) → Decides z s ev r h k m
  unfolding answer_of step load_at
  on-oracle x q p = rw q (record { plans = p m; loads = unread z s r h k _ p m })

  pub on-restart : ev ≡ Restart → ((y : List ℕ) → Plans z s r h k y (run (on_restart (server_of s h k)))) → Decides z s ev r h k m
  unfolding answer_of step load_at
  on-restart q p = rw q (record { plans = p m; loads = unread z s r h k _ p m })

  pub on-submit : (v : ℕ) → ev ≡ Submit v → ((y : List ℕ) → Plans z s r h k y (run (on_submit z s.me v (server_of s h k)))) → Decides z s ev r h k m
  unfolding answer_of step load_at
  on-submit v q p = rw q (record { plans = p m; loads = unread z s r h k _ p m })

  pub on-unknown : ev ≡ Unknown → r ≡ Err EventR → Decides z s ev r h k m
  unfolding answer_of load_at
  on-unknown q e = rw q (record { plans = turned-away z s r h k m _ EventR e refl; loads = rw e tt })

  pub on-deliver : (f : ℕ) → ev ≡ Deliver f → Can z s ev h k m → Plans z s r h k (drop 4 m) (answer_of z s (Deliver f) h k m) → Decides z s ev r h k m
  unfolding load_at lent_len
  on-deliver f q c p =
      let w : lent_len z (Deliver f) (length m) ≡ true = rw q at c.words in
      let l : length m ≡ msg_size z.room.0 = eqb-true _ _ w in
      rw q (record { plans = p; loads = slot-loads z s r h k (drop 4 m) m _ p l })

-- ---- a plan carried out

-- events as the rules see them
pub input_of : Sizes → Event → List ℕ → Input
input_of z (Oracle x) m = oracle x
input_of z Restart m = restart
input_of z (Deliver f) m = message f (read_msg z.room.0 m)
input_of z (Submit v) m = submit v
input_of z Unknown m = restart

pub answer-is : (z : Sizes) (s : State) (ev : Event) (h k m : List ℕ) (b : Bool) (t : Server) (out : List Send) → answer_of z s ev h k m ≡ taken b t out → run (step z s.me (input_of z ev m) (server_of s h k)) ≡ taken b t out
unfolding answer_of input_of
answer-is z s (Oracle x) h k m b t out q = q
answer-is z s Restart h k m b t out q = q
answer-is z s (Deliver f) h k m b t out q = q
answer-is z s (Submit v) h k m b t out q = q
answer-is z s Unknown h k m b t out q = let y : ◌≡◌ {A = ℕ} 0 1 = cc in absurd (omega arith)

length-hist-from : (from len : ℕ) (t : Txn) (h k m : List ℕ) → from ≤ 3 → (from ≡ 3 → 1 ≤ len) → length (hist_from from len t h k m) ≡ len
unfolding hist_from
length-hist-from from len t h k m le some = pick_at (λ (l : Hist). length l ≡ len) (eqb from 0) _ _ (λ _. length-txns len h)
    (λ n0. pick_at (λ (l : Hist). length l ≡ len) (eqb from 1) _ _ (λ _. length-txns len m)
    (λ n1. pick_at (λ (l : Hist). length l ≡ len) (eqb from 2) _ _ (λ _. length-txns len k)
    (λ n2. omega (arith, length-append (txns (len - 1) h) (t ∷ []), length-txns (len - 1) h, some (omega tests)))))

length-cand-from : (from len : ℕ) (h k m : List ℕ) → length (cand_from from len h k m) ≡ len
unfolding cand_from
length-cand-from from len h k m = pick_at (λ (l : Hist). length l ≡ len) (eqb from 0) _ _ (λ _. length-txns len k)
    (λ _. pick_at (λ (l : Hist). length l ≡ len) (eqb from 1) _ _ (λ _. length-txns len m) (λ _. length-txns len h))

-- a record with its words written anew stands for the server that was written
serve-back : (z : Sizes) (t : State) (hs ks : Hist) → length hs ≡ t.len.0 → length ks ≡ t.cand_len.0 → server_of t (hist_words z.room.0 hs) (hist_words z.room.0 ks) ≡ server_with t hs ks
unfolding hist_words
serve-back z t hs ks a b = rw (← a, ← b, txns-flat hs _, txns-flat ks _)

module _ (z : Sizes) (s : State) (ev : Event) (r : Plan) (h k m o : List ℕ) (known : Known z s ev h k m o) (dec : Decides z s ev (Ok r) h k m) where
  abbrev load : List ℕ
  load = drop (load_at ev) m

  abbrev hs : Hist
  hs = hist_of r h k (drop (load_at ev) m)

  abbrev ks : Hist
  ks = cand_of r h k (drop (load_at ev) m)

  -- what the rules answered
  answered : answer_of z s ev h k m ≡ taken r.empties (server_with r.state hs ks) (sends z r hs)
  unfolding meaning
  answered = sym dec.plans.means

  fact : Facts z s h k
  fact = facts z s h k known.can.sizes known.can.state

  stays : (well_formed z s.me (server_with r.state hs ks) ≡ true) × All (Sendable z s.me) (sends z r hs) × (length (sends z r hs) ≤ 6)
  stays = step_kept z s.me (input_of z ev m) (server_of s h k) known.can.sizes fact.formed r.empties _ _ (answer-is z s ev h k m r.empties _ _ answered)

  fit : Fit z s r
  fit = dec.plans.fit

  hist-len : length hs ≡ r.state.len.0
  hist-len = length-hist-from r.hist r.state.len.0 r.txn h k load fit.hist (λ e. omega (arith, fit.add e))

  cand-len : length ks ≡ r.state.cand_len.0
  cand-len = length-cand-from r.cand r.state.cand_len.0 h k load

  -- the hands may carry it out
  pub may : length s.joined ≡ 7 → length s.acked ≡ 7 → length s.synced ≡ 7 → length s.counts ≡ 7 → Ready z r s.cand_len.0 h k (drop (load_at ev) m) o
  unfolding good_state six
  may a b d e =
      let g = both_true (good_words z.room.0 s.len.0 h) _ known.can.state in
      let g' = both_true (good_words z.room.0 s.cand_len.0 k) (well_formed z s.me (server_of s h k)) g.1 in
      ready z s r h k load o (sized_of z s h k fact a b d e) fit fact.some g.0 g'.0 dec.loads.hist dec.loads.cand (leb-true _ _ known.box) stays.2

  -- and what they leave is the whole answer, and well formed
  pub carried : (a : Reply) (n : ℕ) (h' k' o' : List ℕ) → length r.state.joined ≡ 7 → length r.state.acked ≡ 7 → length r.state.synced ≡ 7 → length r.state.counts ≡ 7
      → Performed z r h k (drop (load_at ev) m) o n h' k' o' → a ≡ record { code = 0; sent = n; empties = r.empties; state = r.state } → Steps z s ev h k m o a h' k' o'
  unfolding written good_state
  carried a n h' k' o' j1 j2 j3 j4 p e =
      let me : r.state.me ≡ s.me = fit.me in
      let back : state_of s.me (server_with r.state hs ks) ≡ r.state = rw (← me) (state-back r.state hs ks hist-len cand-len j1 j2 j3 j4) in
      let l1 : r.state.len.0 ≤ z.room.0 = fit.len in
      let l2 : r.state.cand_len.0 ≤ z.room.0 = fit.cand in
      record {
        does = rw (answered, e) (record { code = refl; sent = p.sent; empties = refl; state = sym back; hist = p.hist; cand = p.cand; box = p.box });
        kept = rw (e, p.hist, p.cand) (both_yes _ _ (subst (λ (n : ℕ). good_words z.room.0 n (hist_words z.room.0 hs) ≡ true) hist-len (hist-good z.room.0 hs (omega (arith, hist-len))))
            (both_yes _ _ (subst (λ (n : ℕ). good_words z.room.0 n (hist_words z.room.0 ks) ≡ true) cand-len (hist-good z.room.0 ks (omega (arith, cand-len)))) (rw (serve-back z r.state hs ks hist-len cand-len, me) stays.0)));
        took = λ _. record { empties = r.empties; out = sends z r hs; is = rw (e, p.hist, p.cand, serve-back z r.state hs ks hist-len cand-len) answered };
      }

-- ---- a refusal, and STATE

-- a refused plan leaves every word as it was
pub stood : (z : Sizes) (s : State) (ev : Event) (r : Result Plan Refusal) (h k m o : List ℕ) (c : Refusal) (a : Result Answer Refusal) → Known z s ev h k m o → Decides z s ev r h k m → r ≡ Err c → a ≡ Err c → Steps z s ev h k m o (reply s a) h k o
unfolding written meaning
stood z s ev r h k m o c a known dec q e =
    let x : answer_of z s ev h k m ≡ refused (number c) = sym dec.plans.means ∙ rw q refl in
    let some = number-some c in
    rw e (record { does = rw x (record { code = refl; sent = refl; empties = refl; state = refl; hist = refl; cand = refl; box = refl }); kept = known.can.state; took = λ y. absurd (omega (arith, some, y)) })

abbrev pub No : State → Reply
No s = record { code = 1; sent = 0; empties = false; state = s }

not-both : (p q l x : Bool) → both p q ≡ false → both (both p (both q l)) x ≡ false
unfolding both
not-both true true l x e = clash refl e
not-both true false l x e = refl
not-both false q l x e = refl

module _ (z : Sizes) (s : State) (ev : Event) (h k m o : List ℕ) (a : Reply) where
  not-can : a ≡ No s → both (both (good_sizes z) (both (good_state z s h k) (lent_len z ev (length m)))) (six z o) ≡ false → Does (step_of z s ev h k m o) a h k o
  unfolding step_of can pick
  not-can x t = rw (x, t) (record { code = refl; sent = refl; empties = refl; state = refl; hist = refl; cand = refl; box = refl })

  pub state-not : (b : Bool) → b ≡ both (good_sizes z) (good_state z s h k) → b ≡ false → a ≡ No s → Does (step_of z s ev h k m o) a h k o
  state-not b e q x = not-can x (not-both (good_sizes z) (good_state z s h k) (lent_len z ev (length m)) (six z o) (sym e ∙ q))

  pub lent-not : (b d : Bool) → b ≡ both (good_sizes z) (good_state z s h k) → b ≡ true → d ≡ lent_len z ev (length m) → d ≡ false → a ≡ No s → Does (step_of z s ev h k m o) a h k o
  unfolding both
  lent-not b d e q f y x =
      let w = both_true (good_sizes z) (good_state z s h k) (sym e ∙ q) in
      not-can x (rw (w.0, w.1, ← f, y))

  pub box-not : (b d : Bool) → b ≡ both (good_sizes z) (good_state z s h k) → b ≡ true → d ≡ lent_len z ev (length m) → d ≡ true → length o < 6 * (5 + 2 * z.room.0) → a ≡ No s → Does (step_of z s ev h k m o) a h k o
  unfolding six
  box-not b d e q f y l x = not-can x (both-no _ (leb (6 * slot_size z.room.0) (length o)) (lt-leb (6 * slot_size z.room.0) (length o) (omega arith)))

  pub known_of : (b d : Bool) → b ≡ both (good_sizes z) (good_state z s h k) → b ≡ true → d ≡ lent_len z ev (length m) → d ≡ true → 6 * (5 + 2 * z.room.0) ≤ length o → Known z s ev h k m o
  unfolding six
  known_of b d e q f y l =
      let w = both_true (good_sizes z) (good_state z s h k) (sym e ∙ q) in
      record { can = record { sizes = w.0; state = w.1; words = sym f ∙ y }; box = le-leb (6 * slot_size z.room.0) (length o) (omega arith) }

  pub step-does : (h' k' o' : List ℕ) → Known z s ev h k m o → Steps z s ev h k m o a h' k' o' → Does (step_of z s ev h k m o) a h' k' o'
  unfolding step_of can pick both
  step-does h' k' o' w p = rw (w.can.sizes, w.can.state, w.can.words, w.box) p.does

-- ---- two answers that meet the statement are equal

reply-one : (s : State) (a b : Result Answer Refusal) → (reply s a).code ≡ (reply s b).code → (reply s a).sent ≡ (reply s b).sent → (reply s a).empties ≡ (reply s b).empties → (reply s a).state ≡ (reply s b).state → a ≡ b
reply-one s (Ok a) (Ok b) c n e t = λ i. Ok (record { sent = n i; empties = e i; state = t i })
reply-one s (Ok a) (Err b) c n e t = let x = number-some b in absurd (omega (arith, x, c))
reply-one s (Err a) (Ok b) c n e t = let x = number-some a in absurd (omega (arith, x, c))
reply-one s (Err a) (Err b) c n e t = ap Err (number-one a b c)

pub one_answer : (x : Out) (s : State) (a a' : Result Answer Refusal) (h k o h' k' o' : List ℕ) → Does x (reply s a) h k o → Does x (reply s a') h' k' o' → (a ≡ a') × ((h ≡ h') × ((k ≡ k') × (o ≡ o')))
one_answer x s a a' h k o h' k' o' p q = (
  reply-one s a a' (p.code ∙ sym q.code) (p.sent ∙ sym q.sent) (p.empties ∙ sym q.empties) (p.state ∙ sym q.state),
  (p.hist ∙ sym q.hist, (p.cand ∙ sym q.cand, p.box ∙ sym q.box)),
)

-- ---- smaller ones

-- an event that delivers no message reads no words
pub lent-other : (z : Sizes) (ev : Event) (l : ℕ) → ((x : ℕ) → ev ≡ Deliver x → ⊥) → true ≡ lent_len z ev l
unfolding lent_len
lent-other z (Oracle x) l n = refl
lent-other z Restart l n = refl
lent-other z (Deliver f) l n = absurd (n f refl)
lent-other z (Submit v) l n = refl
lent-other z Unknown l n = refl

pub load-other : (ev : Event) → ((x : ℕ) → ev ≡ Deliver x → ⊥) → 0 ≡ load_at ev
unfolding load_at
load-other (Oracle x) n = refl
load-other Restart n = refl
load-other (Deliver f) n = absurd (n f refl)
load-other (Submit v) n = refl
load-other Unknown n = refl

pub held-acke : (x : Message) (e a : Epoch) (n : Place) (H : ℕ) → x ≡ Acke e a n → held x ≤ H → n.0 ≤ H
unfolding held
held-acke x e a n H q l = rw q at l

pub held-newleader : (x : Message) (e : Epoch) (n : Place) (H : ℕ) → x ≡ Newleader e n → held x ≤ H → n.0 ≤ H
unfolding held
held-newleader x e n H q l = rw q at l

-- a delivered message's words
pub reads-ready : (z : Sizes) (s : State) (f : ℕ) (h k m : List ℕ) → Can z s (Deliver f) h k m → (1 ≤ z.room.0) × ((z.room.0 ≤ 64) × (length m ≡ msg_size z.room.0))
unfolding lent_len
reads-ready z s f h k m c = let y = sized z c.sizes in (y.some, (y.room, eqb-true _ _ c.words))

pub load_fits : (z : Sizes) (s : State) (ev : Event) (h k m : List ℕ) → Can z s ev h k m → (load_at ev ≤ length m) × (load_at ev ≤ 4)
unfolding load_at lent_len
load_fits z s (Oracle x) h k m c = (omega arith, omega arith)
load_fits z s Restart h k m c = (omega arith, omega arith)
load_fits z s (Deliver f) h k m c = let l : length m ≡ msg_size z.room.0 = eqb-true _ _ c.words in (omega arith, omega arith)
load_fits z s (Submit v) h k m c = (omega arith, omega arith)
load_fits z s Unknown h k m c = (omega arith, omega arith)

pub can-deliver : (z : Sizes) (s : State) (ev : Event) (f : ℕ) (h k m : List ℕ) → ev ≡ Deliver f → Can z s ev h k m → Can z s (Deliver f) h k m
can-deliver z s ev f h k m q c = rw q at c

pub room_of : (z : Sizes) (s : State) (h k : List ℕ) (b : Bool) → b ≡ both (good_sizes z) (good_state z s h k) → b ≡ true → z.room.0 ≤ 64
room_of z s h k b e q = (sized z (both_true (good_sizes z) (good_state z s h k) (sym e ∙ q)).0).room

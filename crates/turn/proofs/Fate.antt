-- What an event at one server came to: refused, with every word as it was, or taken, with all that the rules leave.
use Prim.Native.Nat.{ℕ, ◌*◌, ◌≤◌, ◌<◌}
use mathlib.Core.Path.{◌≡◌, refl, sym, ap, ◌∙◌, subst}
use mathlib.Core.Logic.{◌≢◌, ◌⊎◌, inl, inr}
use mathlib.Core.Bool.{Bool, true, false}
use mathlib.Core.List.{List}
use native.Mathlib.Omega.{arith}
use lib.ListN.{length}
use borrow.Author.Tests.{le-leb}
use Rattle.base.specs.Choice.{pick}
use Rattle.base.specs.Refusals.{ROOM}
use Rattle.base.specs.declared.Sizes.{Sizes}
use Rattle.base.proofs.Choice.{case}
use Rattle.rules.specs.declared.State.{State}
use Rattle.rules.specs.Message.{Send}
use Rattle.rules.specs.Server.{Server}
use Rattle.rules.specs.Tree.{Res, refused, taken}
use Rattle.rules.specs.Words.{server_of, state_of, hist_words, good_state, put, boxed}
use Rattle.rules.proofs.Trees.{All}
use Rattle.rules.proofs.Kept.{Sendable, step_kept}
use Rattle.ring.specs.declared.Rings.{Rings}
use Rattle.server.specs.declared.Event.{Event}
use Rattle.server.specs.Whole.{Reply, answer_of, lent_len, six, stay, written, Does, Took}
use Rattle.server.proofs.Laws.{facts, input_of, answer-is}
use Rattle.site.specs.Parts.{share, part}
use Rattle.turn.specs.Act.{room_for, acted, Seat, Enacts, acted_at}
use Rattle.site.specs.Site.{Site, record_at, Good}
use Rattle.turn.specs.Events.{asked}
use Rattle.site.proofs.Seats.{part_in, part-back}

-- ---- of an answer x to server s, whose words are h and k

-- a channel would pass its depth
pub record Full (z : Sizes) (depth : ℕ) (r : Rings) (i : ℕ) (x : Res) : Type 0 where
  pub empties : Bool
  pub after : Server
  pub out : List Send
  pub is : x ≡ taken empties after out
  pub full : room_for z depth r i x ≡ false

pub record Stood (z : Sizes) (depth : ℕ) (r : Rings) (i : ℕ) (x : Res) (code : ℕ) : Type 0 where
  pub some : code ≢ 0
  pub why : (x ≡ refused code) ⊎ ((code ≡ ROOM) × Full z depth r i x)

pub record Taken (z : Sizes) (depth : ℕ) (r : Rings) (i : ℕ) (o : List ℕ) (x : Res) (a : Reply) (t : Server) (o' : List ℕ) : Type 0 where
  pub out : List Send
  pub is : x ≡ taken a.empties t out
  pub room : room_for z depth r i x ≡ true
  pub sent : a.sent ≡ length out
  pub state : a.state ≡ state_of i t
  pub box : o' ≡ boxed z.room.0 o 0 out

module _ (z : Sizes) (depth : ℕ) (r : Rings) (s : State) (h k o : List ℕ) (a : Reply) (h' k' o' : List ℕ) where
  stood-words : (x : Res) → Does (acted z depth r s h k o x) a h' k' o' → a.code ≢ 0 → (h' ≡ h) × (k' ≡ k) × (o' ≡ o) × Stood z depth r s.me x a.code
  unfolding acted room_for written pick
  stood-words (refused κ) d n = (d.hist, d.cand, d.box, record { some = n; why = inl (ap refused (sym d.code)) })
  stood-words (taken b t out) d n = case (room_for z depth r s.me (taken b t out))
      (λ (e : room_for z depth r s.me (taken b t out) ≡ true). let y : a.code ≡ 0 = (rw e at d).code in absurd (n y))
      (λ (e : room_for z depth r s.me (taken b t out) ≡ false).
      let y : Does (stay ROOM s h k o) a h' k' o' = rw e at d in
      (y.hist, y.cand, y.box, record { some = n; why = inr (y.code, record { empties = b; after = t; out = out; is = refl; full = e }) }))

  took-words : (x : Res) → Does (acted z depth r s h k o x) a h' k' o' → a.code ≡ 0 → (T : Took x (server_of a.state h' k'))
      → (h' ≡ hist_words z.room.0 (server_of a.state h' k').dur.hist) × (k' ≡ hist_words z.room.0 (server_of a.state h' k').vol.cand_hist) × Taken z depth r s.me o x a (server_of a.state h' k') o'
  unfolding acted written pick
  took-words x d n T =
      let t = server_of a.state h' k' in
      case (room_for z depth r s.me x)
      (λ (e : room_for z depth r s.me x ≡ true).
      let y : Does (written z s h k o (taken T.empties (server_of a.state h' k') T.out)) a h' k' o' = rw (e, T.is) at d in
      (y.hist, y.cand, record { out = T.out; is = T.is ∙ ap (λ (b : Bool). taken b (server_of a.state h' k') T.out) (sym y.empties); room = e; sent = y.sent; state = y.state; box = y.box }))
      (λ (e : room_for z depth r s.me x ≡ false). let y : a.code ≡ ROOM = (rw e at d).code in absurd (omega arith))

-- ---- of an event at server i of a site that is well formed

module _ (z : Sizes) (depth : ℕ) (w : Site) (g : Good z depth w) (i : ℕ) (hi : i < z.n) (ev : Event) (m : List ℕ) where
  abbrev s : State
  s = record_at w.servers i

  pub seat-at : lent_len z ev (length m) ≡ true → Seat z depth w.rings (record_at w.servers i) ev w.hists w.cands m w.box
  unfolding six
  seat-at l = record {
    set = record { few = g.ringed.few; deep = g.ringed.deep; rings = g.ringed.rings; me = rw (g.me i hi) hi };
    known = record { can = record { sizes = g.sizes; state = rw (g.me i hi) (g.state i hi); words = l }; box = le-leb _ _ g.box };
    room = g.ringed.room;
    hists = rw (g.me i hi) (part_in z i z.n (length w.hists) hi g.hists);
    cands = rw (g.me i hi) (part_in z i z.n (length w.cands) hi g.cands);
  }

  module _ (a : Reply) (h' k' o' : List ℕ) (E : Enacts z depth w.rings (record_at w.servers i) ev w.hists w.cands m w.box a h' k' o') where
    abbrev hp : List ℕ
    hp = (acted_at z depth w.rings (record_at w.servers i) ev w.hists w.cands m w.box).hist

    abbrev kp : List ℕ
    kp = (acted_at z depth w.rings (record_at w.servers i) ev w.hists w.cands m w.box).cand

    h-put : h' ≡ put w.hists (share z * i) hp
    h-put = E.hists ∙ ap (λ (j : ℕ). put w.hists (share z * j) hp) (g.me i hi)

    k-put : k' ≡ put w.cands (share z * i) kp
    k-put = E.cands ∙ ap (λ (j : ℕ). put w.cands (share z * j) kp) (g.me i hi)

    pub fate-stood : a.code ≢ 0 → (h' ≡ w.hists) × (k' ≡ w.cands) × (o' ≡ w.box) × Stood z depth w.rings i (asked z w i ev m) a.code
    unfolding asked
    fate-stood n =
        let me = g.me i hi in
        let S = stood-words z depth w.rings s (part z s.me w.hists) (part z s.me w.cands) w.box a hp kp o' _ E.acts.does n in (
          h-put ∙ ap (put w.hists (share z * i)) (S.0 ∙ ap (λ (j : ℕ). part z j w.hists) me) ∙ part-back z i w.hists (part_in z i z.n (length w.hists) hi g.hists),
          k-put ∙ ap (put w.cands (share z * i)) (S.1 ∙ ap (λ (j : ℕ). part z j w.cands) me) ∙ part-back z i w.cands (part_in z i z.n (length w.cands) hi g.cands),
          S.2,
          subst (λ (j : ℕ). Stood z depth w.rings j (answer_of z s ev (part z j w.hists) (part z j w.cands) m) a.code) me S.3,
        )

    -- the server afterwards
    abbrev pub then : Server
    then = server_of a.state hp kp

    pub record Done : Type 0 where
      pub taken : Taken z depth w.rings i w.box (asked z w i ev m) a then o'
      pub hists : h' ≡ put w.hists (share z * i) (hist_words z.room.0 then.dur.hist)
      pub cands : k' ≡ put w.cands (share z * i) (hist_words z.room.0 then.vol.cand_hist)
      pub me : a.state.me ≡ i
      pub kept : good_state z a.state (hist_words z.room.0 then.dur.hist) (hist_words z.room.0 then.vol.cand_hist) ≡ true
      pub stands : server_of a.state (hist_words z.room.0 then.dur.hist) (hist_words z.room.0 then.vol.cand_hist) ≡ then
      pub sent : All (Sendable z i) taken.out
      pub few : length taken.out ≤ 6

    pub fate-taken : a.code ≡ 0 → Done
    unfolding asked state_of
    fate-taken n =
        let me = g.me i hi in
        let S = took-words z depth w.rings s (part z s.me w.hists) (part z s.me w.cands) w.box a hp kp o' _ E.acts.does n (E.acts.took n) in
        let T = S.2 in
        let U : Taken z depth w.rings i w.box (answer_of z s ev (part z i w.hists) (part z i w.cands) m) a then o'
        = subst (λ (j : ℕ). Taken z depth w.rings j w.box (answer_of z s ev (part z j w.hists) (part z j w.cands) m) a then o') me T in
        let F = facts z s (part z i w.hists) (part z i w.cands) g.sizes (g.state i hi) in
        let K = step_kept z s.me (input_of z ev m) (server_of s (part z i w.hists) (part z i w.cands)) g.sizes F.formed a.empties then U.out (answer-is z s ev (part z i w.hists) (part z i w.cands) m a.empties then U.out U.is) in
        record {
          taken = U;
          hists = h-put ∙ ap (put w.hists (share z * i)) S.0;
          cands = k-put ∙ ap (put w.cands (share z * i)) S.1;
          me = ap (λ (t : State). t.me) U.state;
          kept = rw (← S.0, ← S.1) E.acts.kept;
          stands = λ d. server_of a.state (sym S.0 d) (sym S.1 d);
          sent = subst (λ (j : ℕ). All (Sendable z j) U.out) me K.1;
          few = K.2;
        }

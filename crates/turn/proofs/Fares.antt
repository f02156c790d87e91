-- Three ways that an event at one server ends: all stays, the message handed over is dropped, or the event is taken.
use Rattle.std.specs.Prelude.{Result, Ok}
use Rattle.server.specs.Whole.{Reply}
use Rattle.base.specs.declared.Refusal.{Refusal}
use Rattle.base.specs.Refusals.{code_of, ROOM}
use Prim.Native.Nat.{ℕ, zero, suc, ◌+◌, ◌*◌, ◌≤◌, ◌<◌}
use mathlib.Core.Path.{◌≡◌, refl, sym, ap, ◌∙◌, subst}
use mathlib.Core.Logic.{◌≢◌, ⊎_elim}
use mathlib.Core.Bool.{Bool, true, false}
use mathlib.Core.List.{List, [], ◌∷◌, ◌++◌}
use native.Mathlib.Omega.{arith}
use lib.Dec.{eqb, leb}
use lib.ListN.{length, set}
use borrow.Author.Tests.{ne_eqb}
use Rattle.base.specs.Choice.{pick, both, upd}
use Rattle.base.specs.declared.Sizes.{Sizes}
use Rattle.base.proofs.Choice.{clash, eq-or, upd_same}
use Rattle.rules.specs.Message.{Send}
use Rattle.rules.specs.Server.{Server}
use Rattle.rules.specs.Tree.{Res, refused, taken}
use Rattle.rules.specs.Cluster.{Cluster as Servers, Channels, told, done, emptied, post, roomy, drops, answer}
use Rattle.rules.specs.Words.{slot_size, hist_words, tab}
use Rattle.rules.proofs.Trees.{All}
use Rattle.rules.proofs.Kept.{Sendable}
use Rattle.rules.proofs.WellFormed.{sized}
use Rattle.ring.specs.declared.Rings.{Rings}
use Rattle.ring.specs.Queue.{cell, count, chans, Ringed, Left}
use Rattle.post.specs.Posts.{send_at, sends_at}
use Rattle.post.specs.Room.{how_many}
use Rattle.post.proofs.Rooms.{post-length, all_same, waits}
use Rattle.post.proofs.Box.{length-boxed, box_read}
use Rattle.server.specs.declared.Event.{Event}
use Rattle.turn.specs.Act.{room_for, Enacts}
use Rattle.site.specs.Site.{Site, site_of, record_at, server_at, cluster_of, Good}
use Rattle.turn.specs.Events.{After, stays, sent_rings, sent_queue, answered, asked}
use Rattle.turn.specs.Turns.{Ships, Shipped, seat_of, Fared}
use Rattle.site.specs.declared.Cluster.{Cluster}
use Rattle.site.proofs.Seats.{anew, anew-good, anew-servers}
use Rattle.turn.proofs.Fate.{Full, Stood, Done, then, fate-stood, fate-taken}

-- the test of room before anything is written is the rules' after it
pub room_after : (z : Sizes) (depth : ℕ) (r : Rings) (i : ℕ) (rest : Channels) (b : Bool) (t : Server) (out : List Send) → ((j : ℕ) → j < z.n → length (rest i j) ≡ count r (cell z.n i j))
    → room_for z depth r i (taken b t out) ≡ roomy z.n depth i (post i out (pick b (emptied i rest) rest))
unfolding room_for roomy
room_after z depth r i rest b t out row = all_same z.n _ _ (λ j l.
    ap (λ (k : ℕ). leb k depth) (sym (post-length i out (pick b (emptied i rest) rest) j ∙ ap (λ (k : ℕ). k + how_many out j) (waits i b rest j ∙ ap (pick b 0) (row j l)))))

all_split : {A : Type 0} (P : A → Type 0) (l y : List A) → All P (l ++ y) → All P l × All P y
all_split P [] y a = (tt, a)
all_split P (x ∷ l) y a = let b = all_split P l y a.1 in ((a.0, b.0), b.1)

all-tab : {A : Type 0} (P : A → Type 0) (n : ℕ) (f : ℕ → A) → All P (tab n f) → (j : ℕ) → j < n → P (f j)
unfolding tab
all-tab P zero f a j l = absurd (omega arith)
all-tab P (suc n) f a j l =
    let b = all_split P (tab n f) (f n ∷ []) a in
    ⊎_elim (λ (e : j ≡ n). rw e b.1.0) (λ (d : j ≢ n). all-tab P n f b.0 j (omega arith)) (eq-or j n)

module _ (c : Cluster) (h k q o : List ℕ) (g : Good c.sizes c.depth (site_of c h k q o)) (i : ℕ) (hi : i < c.sizes.n) (ev : Event) (m : List ℕ) (r : Rings) (p : List ℕ) (rest : Channels)
    (row : (b : Bool) (t : Server) (out : List Send) → asked c.sizes (site_of c h k q o) i ev m ≡ taken b t out → (j : ℕ) → j < c.sizes.n → length (rest i j) ≡ count c.rings (cell c.sizes.n i j))
    (a : Reply) (h' k' o' : List ℕ) (E : Enacts c.sizes c.depth c.rings (record_at c.servers i) ev h k m o a h' k' o') where
  abbrev z : Sizes
  z = c.sizes

  abbrev w : Site
  w = site_of c h k q o

  abbrev x : Res
  x = asked c.sizes (site_of c h k q o) i ev m

  abbrev was : Servers
  was = cluster_of c.sizes c.depth (site_of c h k q o)

  -- ---- all stays

  module _ (n : a.code ≢ 0)
      (same : pick (drops a.code) (record { servers = c.servers; rings = r; hists = h; cands = k; queue = p; box = o }) w ≡ w)
      (as-was : pick (drops a.code) (record { srv = was.srv; chan = rest }) was ≡ was) where
    stays-words : Stood z c.depth c.rings i x a.code → answered z c.depth w i r p x ≡ stays a.code w
    unfolding answered pick
    stays-words S = ⊎_elim
        (λ (e : x ≡ refused a.code). rw e (ap (stays a.code) same))
        (λ (F : (a.code ≡ ROOM) × Full z c.depth c.rings i x).
        let f : room_for z c.depth c.rings i (taken F.1.empties F.1.after F.1.out) ≡ false = rw F.1.is at F.1.full in
        rw (F.1.is, f, F.0))
        S.why

    stays-rules : Stood z c.depth c.rings i x a.code → (b : Bool) → answer z c.depth was i b rest x ≡ told a.code was
    unfolding answer pick
    stays-rules S b = ⊎_elim
        (λ (e : x ≡ refused a.code). rw e (ap (told a.code) as-was))
        (λ (F : (a.code ≡ ROOM) × Full z c.depth c.rings i x).
        let f : room_for z c.depth c.rings i (taken F.1.empties F.1.after F.1.out) ≡ false = rw F.1.is at F.1.full in
        let y : roomy z.n c.depth i (post i F.1.out (pick F.1.empties (emptied i rest) rest)) ≡ false
        = sym (room_after z c.depth c.rings i rest F.1.empties F.1.after F.1.out (row F.1.empties F.1.after F.1.out F.1.is)) ∙ f in
        rw (F.1.is, y, F.0))
        S.why

    pub fare-stood : (v : Result (Unit {0}) Refusal) → code_of v ≡ a.code → Fared c w i r p rest x (record { answer = v; cluster = c }) h' k' q o'
    unfolding pick
    fare-stood v V =
        let S = fate-stood z c.depth w g i hi ev m a h' k' o' E n in
        let e = stays-words S.3 in
        let y : eqb a.code 0 ≡ false = ne_eqb a.code 0 n in
        rw (S.0, S.1, S.2) (record {
          leaves = record { code = V ∙ ap (λ (u : After). u.code) (sym e); sizes = refl; depth = refl; site = ap (λ (u : After). u.site) (sym e) };
          rules = λ b. rw (V, y) (stays-rules S.3 b);
          good = g;
        })

  -- ---- the message handed over is dropped

  module _ (n : a.code ≢ 0) (d : drops a.code ≡ true) (r' : Rings) (q' : List ℕ) (L : Left z c.depth r' q' r p rest) where
    refuses : Stood z c.depth c.rings i x a.code → x ≡ refused a.code
    unfolding drops both
    refuses S = ⊎_elim
        (λ (e : x ≡ refused a.code). e)
        (λ (F : (a.code ≡ ROOM) × Full z c.depth c.rings i x). let y : drops ROOM ≡ true = rw F.0 at d in clash y refl)
        S.why

    pub fare-dropped : (v : Result (Unit {0}) Refusal) → code_of v ≡ a.code → Fared c w i r p rest x (record { answer = v; cluster = record { sizes = c.sizes; depth = c.depth; servers = c.servers; rings = r' } }) h' k' q' o'
    unfolding pick answered answer cluster_of server_at
    fare-dropped v V =
        let S = fate-stood z c.depth w g i hi ev m a h' k' o' E n in
        let e = refuses S.3 in
        let y : eqb a.code 0 ≡ false = ne_eqb a.code 0 n in
        rw (S.0, S.1, S.2) (record {
          leaves = rw (e, d) (record { code = V; sizes = refl; depth = refl; site = λ j. record { servers = c.servers; rings = L.rings j; hists = h; cands = k; queue = L.words j; box = o } });
          rules = λ b. rw (V, y, e, d) (ap (λ (u : Channels). told a.code (record { srv = server_at z w; chan = u })) (sym L.chans));
          good = record { sizes = g.sizes; deep = g.deep; ringed = L.good; seven = g.seven; hists = g.hists; cands = g.cands; box = g.box; me = g.me; state = g.state };
        })

  -- ---- the event is taken

  module _ (n : a.code ≡ 0) (R : Ringed z c.depth r p) (C : chans z c.depth r p ≡ rest) where
    D : Done z c.depth w g i hi ev m a h' k' o' E
    D = fate-taken z c.depth w g i hi ev m a h' k' o' E n

    abbrev t : Server
    t = then z c.depth w g i hi ev m a h' k' o' E

    some : 1 ≤ z.room.0
    some = (sized z g.sizes).some

    reads : sends_at z.room.0 o' a.sent ≡ D.taken.out
    reads = (λ j. sends_at z.room.0 (D.taken.box j) (D.taken.sent j)) ∙ box_read z i some o D.taken.out D.sent D.few g.box

    box_in : 6 * slot_size z.room.0 ≤ length o'
    box_in =
        let e : length o' ≡ length o = ap length D.taken.box ∙ length-boxed z i some o 0 D.taken.out D.sent (omega (arith, D.few)) g.box in
        subst (λ (l : ℕ). 6 * slot_size z.room.0 ≤ l) (sym e) g.box

    room : roomy z.n c.depth i (post i D.taken.out (pick a.empties (emptied i rest) rest)) ≡ true
    room = sym (room_after z c.depth c.rings i rest a.empties t D.taken.out (row a.empties t D.taken.out D.taken.is)) ∙ (rw D.taken.is at D.taken.room)

    pub fare-ships : Ships z c.depth r p i a.empties o' a.sent
    unfolding sends_at
    fare-ships = record {
      good = R;
      sender = hi;
      box = box_in;
      few = rw D.taken.sent D.few;
      to = λ j l. (all-tab (Sendable z i) a.sent (send_at z.room.0 o') (subst (All (Sendable z i)) (sym reads) D.sent) j l).low;
      room = rw (C, reads) room;
    }

    module _ (r' : Rings) (q' : List ℕ) (L : Shipped z c.depth r p i a.empties o' a.sent r' q') where
      abbrev w' : Site
      w' = site_of (seat_of c i a.state r') h' k' q' o'

      abbrev hw : List ℕ
      hw = hist_words z.room.0 t.dur.hist

      abbrev kw : List ℕ
      kw = hist_words z.room.0 t.vol.cand_hist

      abbrev new : Site
      new = anew z c.depth w g i hi a.state hw kw D.me D.kept r' q' o' L.good box_in

      same-site : w' ≡ new
      same-site = λ j. record { servers = set c.servers i a.state; rings = r'; hists = D.hists j; cands = D.cands j; queue = q'; box = o' }

      servers : server_at z w' ≡ upd (server_at z w) i t
      servers = ap (server_at z) same-site ∙ anew-servers z c.depth w g i hi a.state hw kw D.me D.kept r' q' o' L.good box_in ∙ ap (upd (server_at z w) i) D.stands

      mine : server_at z w' i ≡ t
      mine = ap (λ (f : ℕ → Server). f i) servers ∙ upd_same (server_at z w) i t

      waiting : chans z c.depth r' q' ≡ post i D.taken.out (pick a.empties (emptied i rest) rest)
      waiting = L.chans ∙ ap (λ (u : Channels). post i (sends_at z.room.0 o' a.sent) (pick a.empties (emptied i u) u)) C ∙ ap (λ (u : List Send). post i u (pick a.empties (emptied i rest) rest)) reads

      pub fare-taken : Fared c w i r p rest x (record { answer = Ok tt; cluster = seat_of c i a.state r' }) h' k' q' o'
      unfolding pick answered answer cluster_of
      fare-taken =
          let f : room_for z c.depth c.rings i (taken a.empties t D.taken.out) ≡ true = rw D.taken.is at D.taken.room in
          record {
            leaves = rw (D.taken.is, f) (record {
              code = refl;
              sizes = refl;
              depth = refl;
              site = λ j. record {
                servers = set c.servers i (D.taken.state j);
                rings = (L.rings ∙ (λ d. sent_rings z r i a.empties (D.taken.box d) (D.taken.sent d))) j;
                hists = D.hists j;
                cands = D.cands j;
                queue = (L.words ∙ (λ d. sent_queue z c.depth r p i a.empties (D.taken.box d) (D.taken.sent d))) j;
                box = D.taken.box j;
              };
            });
            rules = λ b. rw (D.taken.is, room) (λ j. done i (server_at z w i) (sym mine j) b (record { srv = sym servers j; chan = sym waiting j }));
            good = subst (Good z c.depth) (sym same-site) (anew-good z c.depth w g i hi a.state hw kw D.me D.kept r' q' o' L.good box_in);
          }

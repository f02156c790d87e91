-- The steps of one server, in the paper's order. i is the server itself, f a message's sender.
use Rattle.std.specs.Prelude.{ℕ, zero, suc, ◌+◌, ◌-◌, max, Bool, true, false, not, List, [], ◌∷◌, ◌++◌, eqb, leb, ltb, length, take}
use Rattle.base.specs.Choice.{pick, both, either, upd}
use Rattle.base.specs.Quorum.{Set, nobody, just, quorum}
use Rattle.base.specs.Transaction.{Hist, LAST, ident, last_id, next_counter, same_hist}
use Rattle.base.specs.Refusals.{EVENT, MESSAGE, ROLE, PHASE, EPOCH, GAP, UNDO, FULL, SPENT}
use Rattle.base.specs.declared.Txn.{Txn}
use Rattle.base.specs.declared.Sizes.{Sizes}
use Rattle.rules.specs.Message.{Msg, cepoch, newepoch, acke, newleader, ackld, commitld, propose, ack, commit, junk, Send, formed}
use Rattle.rules.specs.Server.{Dur, Vol, Server, LOOK, F1, F2, F3, F4, L1, L2, L3, L4, idle}
use Rattle.rules.specs.Tree.{Tree, need, fork, deny, took, gate, to_all, only}

-- ---- a record with one thing changed

abbrev pub promised : ℕ → Dur → Dur
promised e u = record { p = e; a = u.a; d = u.d; hist = u.hist }

abbrev pub accepted : ℕ → Hist → Dur → Dur
accepted e h u = record { p = u.p; a = e; d = u.d; hist = h }

abbrev pub appended : Txn → Dur → Dur
appended t u = record { p = u.p; a = u.a; d = u.d; hist = u.hist ++ (t ∷ []) }

abbrev pub delivered : ℕ → Dur → Dur
delivered d u = record { p = u.p; a = u.a; d = d; hist = u.hist }

abbrev pub moved : ℕ → Dur → Vol → Server → Server
moved stage u v s = record { dur = u; stage = stage; orc = s.orc; vol = v }

abbrev pub joins : ℕ → Vol → Vol
joins f v = record { joined = upd v.joined f true; acked = v.acked; synced = v.synced; largest = v.largest; cand_epoch = v.cand_epoch; cand_hist = v.cand_hist; counts = v.counts }

abbrev pub unsynced : ℕ → Vol → Vol
unsynced f v = record { joined = v.joined; acked = v.acked; synced = upd v.synced f false; largest = v.largest; cand_epoch = v.cand_epoch; cand_hist = v.cand_hist; counts = v.counts }

abbrev pub syncs : ℕ → Vol → Vol
syncs f v = record { joined = v.joined; acked = v.acked; synced = upd v.synced f true; largest = v.largest; cand_epoch = v.cand_epoch; cand_hist = v.cand_hist; counts = v.counts }

abbrev pub raises : ℕ → ℕ → Vol → Vol
raises f c v = record { joined = v.joined; acked = v.acked; synced = v.synced; largest = v.largest; cand_epoch = v.cand_epoch; cand_hist = v.cand_hist; counts = upd v.counts f (max (v.counts f) c) }

abbrev pub sees : ℕ → Vol → Vol
sees e v = record { joined = v.joined; acked = v.acked; synced = v.synced; largest = e; cand_epoch = v.cand_epoch; cand_hist = v.cand_hist; counts = v.counts }

abbrev pub counted : Set → ℕ → Hist → Vol → Vol
counted q a h v = record { joined = v.joined; acked = q; synced = v.synced; largest = v.largest; cand_epoch = a; cand_hist = h; counts = v.counts }

-- a history that does not begin with the d delivered transactions of the old one undoes them
unfoldable pub keeps : Dur → Hist → Tree → Tree
keeps u h t = need (leb u.d (length h)) UNDO (need (same_hist (take u.d h) (take u.d u.hist)) UNDO t)

-- ---- oracle, restart

unfoldable pub on_oracle : Sizes → ℕ → ℕ → Server → Tree
on_oracle z i x s = need (ltb x z.n) EVENT
    (fork (eqb x i)
    (took true (record { dur = s.dur; stage = L1; orc = i + 1; vol = sees s.dur.p (joins i idle) }) [])
    (took true (record { dur = s.dur; stage = F1; orc = x + 1; vol = idle }) (only x (cepoch s.dur.p))))

unfoldable pub on_restart : Server → Tree
on_restart s = took true (record { dur = s.dur; stage = LOOK; orc = 0; vol = idle }) []

-- ---- CEPOCH

-- L1, with f's e among those seen
unfoldable pub l1_join : Sizes → ℕ → ℕ → ℕ → Server → Tree
l1_join z i f e s =
    let m = max s.vol.largest e in
    let v = joins f s.vol in
    fork (quorum z.n v.joined)
    (need (ltb m LAST) SPENT
    (took false (moved L2 (promised (m + 1) s.dur) (counted (just i) s.dur.a s.dur.hist (sees 0 v)) s)
    (to_all z.n i v.joined (newepoch (m + 1)))))
    (took false (moved L1 s.dur (sees m v) s) [])

unfoldable pub l2_join : ℕ → ℕ → Server → Tree
l2_join f e s = need (leb e s.dur.p) EPOCH
    (took false (moved s.stage s.dur (joins f s.vol) s) (only f (newepoch s.dur.p)))

-- L3 and L4
unfoldable pub l34_join : ℕ → ℕ → Server → Tree
l34_join f e s = need (leb e s.dur.p) EPOCH
    (took false (moved s.stage s.dur (unsynced f (joins f s.vol)) s)
    (only f (newepoch s.dur.p) ++ only f (newleader s.dur.p s.dur.hist)))

unfoldable pub on_cepoch : Sizes → ℕ → ℕ → ℕ → Server → Tree
on_cepoch z i f e s = fork (eqb s.stage L1) (l1_join z i f e s) (fork (eqb s.stage L2) (l2_join f e s) (l34_join f e s))

-- ---- ACK-E

-- is the pair (a, x) strictly greater than (b, y)?
unfoldable pub beats : ℕ → ℕ → ℕ → ℕ → Bool
beats a x b y = either (ltb b a) (both (eqb a b) (ltb y x))

-- L2, with those now counted and the candidate that won
unfoldable pub l2_count : Sizes → ℕ → Set → ℕ → Hist → Server → Tree
l2_count z i q a h s =
    fork (quorum z.n q)
    (keeps s.dur h
    (took false (moved L3 (accepted s.dur.p h s.dur) (record { joined = s.vol.joined; acked = nobody; synced = just i; largest = s.vol.largest; cand_epoch = 0; cand_hist = []; counts = s.vol.counts }) s)
    (to_all z.n i s.vol.joined (newleader s.dur.p h))))
    (took false (moved L2 s.dur (counted q a h s.vol) s) [])

unfoldable pub on_acke : Sizes → ℕ → ℕ → ℕ → ℕ → Hist → Server → Tree
on_acke z i f e a h s =
    need (not (both (eqb s.stage L2) (s.vol.acked f))) PHASE
    (need (eqb e s.dur.p) EPOCH
    (fork (eqb s.stage L2)
    (fork (beats a (last_id h) s.vol.cand_epoch (last_id s.vol.cand_hist))
    (l2_count z i (upd s.vol.acked f true) a h s)
    (l2_count z i (upd s.vol.acked f true) s.vol.cand_epoch s.vol.cand_hist s))
    (took false s [])))

-- ---- ACK-LD and ACK

-- who holds c: the leader and every other server whose count is at least c
abbrev pub holders : ℕ → (ℕ → ℕ) → ℕ → Set
holders i counts c s = either (eqb s i) (leb c (counts s))

-- the greatest c from d to d + k held by a quorum; if none, d
unfoldable pub advance : ℕ → ℕ → (ℕ → ℕ) → ℕ → ℕ → ℕ
advance n i counts d zero = d
advance n i counts d (suc k) = pick (quorum n (holders i counts (d + suc k))) (d + suc k) (advance n i counts d k)

unfoldable pub advanced : ℕ → ℕ → Vol → Dur → ℕ
advanced n i v u = advance n i v.counts u.d (length u.hist - u.d)

unfoldable pub l3_sync : Sizes → ℕ → ℕ → ℕ → Server → Tree
l3_sync z i f c s =
    let v = syncs f (raises f c s.vol) in
    need (eqb c (length s.dur.hist)) GAP
    (fork (quorum z.n v.synced)
    (took false (moved L4 (delivered (length s.dur.hist) s.dur) v s)
    (to_all z.n i v.synced (commitld s.dur.p (length s.dur.hist))))
    (took false (moved L3 s.dur v s) []))

-- L4, after a count: advance; if d rose, COMMIT to all others of q; then what follows
unfoldable pub l4_advance : Sizes → ℕ → Vol → Set → (ℕ → List Send) → Server → Tree
l4_advance z i v q more s =
    let d = advanced z.n i v s.dur in
    took false (moved L4 (delivered d s.dur) v s)
    (pick (ltb s.dur.d d) (to_all z.n i q (commit s.dur.p d)) [] ++ more d)

unfoldable pub on_ackld : Sizes → ℕ → ℕ → ℕ → ℕ → Server → Tree
on_ackld z i f e c s =
    need (eqb e s.dur.p) EPOCH
    (fork (eqb s.stage L3)
    (l3_sync z i f c s)
    (need (leb c (length s.dur.hist)) GAP
    (l4_advance z i (syncs f (raises f c s.vol)) (upd s.vol.synced f false) (λ d. only f (commitld s.dur.p d)) s)))

unfoldable pub on_ack : Sizes → ℕ → ℕ → ℕ → ℕ → Server → Tree
on_ack z i f e k s =
    need (eqb e s.dur.p) EPOCH
    (need (leb k (length s.dur.hist)) GAP
    (l4_advance z i (raises f k s.vol) s.vol.synced (λ _. []) s))

-- ---- NEWEPOCH, NEWLEADER, PROPOSE, COMMIT-LD, COMMIT

unfoldable pub on_newepoch : ℕ → ℕ → Server → Tree
on_newepoch f e s =
    need (leb s.dur.p e) EPOCH
    (fork (eqb e s.dur.p)
    (took false (moved F2 s.dur s.vol s) [])
    (took false (moved F2 (promised e s.dur) s.vol s) (only f (acke e s.dur.a s.dur.hist))))

unfoldable pub on_newleader : ℕ → ℕ → Hist → Server → Tree
on_newleader f e h s =
    need (eqb e s.dur.p) EPOCH
    (keeps s.dur h
    (took false (moved F3 (accepted e h s.dur) s.vol s) (only f (ackld e (length h)))))

unfoldable pub on_propose : Sizes → ℕ → ℕ → ℕ → Txn → Server → Tree
on_propose z f e k t s =
    need (eqb e s.dur.p) EPOCH
    (need (eqb k (length s.dur.hist + 1)) GAP
    (need (eqb t.id.0 (ident e (next_counter e (last_id s.dur.hist)))) GAP
    (need (ltb (length s.dur.hist) z.room.0) FULL
    (took false (moved s.stage (appended t s.dur) s.vol s) (only f (ack e k))))))

-- COMMIT-LD and COMMIT
unfoldable pub on_commit : ℕ → ℕ → Server → Tree
on_commit e c s =
    need (eqb e s.dur.p) EPOCH
    (need (leb c (length s.dur.hist)) GAP
    (took false (moved F4 (delivered (max s.dur.d c) s.dur) s.vol s) []))

-- ---- a message, a submission, any event

-- a follower listens to its oracle; a leader hears ACK-E, ACK-LD and ACK of those joined
abbrev pub mine : ℕ → Server → Bool
mine f s = eqb (f + 1) s.orc

unfoldable pub receive : Sizes → ℕ → ℕ → Msg → Server → Tree
receive z i f (cepoch e) s = gate 1 s.stage true (on_cepoch z i f e s)
receive z i f (newepoch e) s = gate 2 s.stage (mine f s) (on_newepoch f e s)
receive z i f (acke e a h) s = gate 3 s.stage (s.vol.joined f) (on_acke z i f e a h s)
receive z i f (newleader e h) s = gate 4 s.stage (mine f s) (on_newleader f e h s)
receive z i f (ackld e c) s = gate 5 s.stage (s.vol.joined f) (on_ackld z i f e c s)
receive z i f (commitld e c) s = gate 6 s.stage (mine f s) (on_commit e c s)
receive z i f (propose e k t) s = gate 7 s.stage (mine f s) (on_propose z f e k t s)
receive z i f (ack e k) s = gate 8 s.stage (s.vol.joined f) (on_ack z i f e k s)
receive z i f (commit e c) s = gate 9 s.stage (mine f s) (on_commit e c s)
receive z i f junk s = deny MESSAGE

-- the next identifier of p, with v
abbrev pub submission : ℕ → Dur → Txn
submission v u = record { id = record { 0 = ident u.p (next_counter u.p (last_id u.hist)) }; val = v }

unfoldable pub on_submit : Sizes → ℕ → ℕ → Server → Tree
on_submit z i v s =
    need (eqb s.stage L4) ROLE
    (need (ltb (length s.dur.hist) z.room.0) FULL
    (need (not (eqb (last_id s.dur.hist) (ident s.dur.p LAST))) FULL
    (took false (moved L4 (appended (submission v s.dur) s.dur) s.vol s)
    (to_all z.n i s.vol.joined (propose s.dur.p (length s.dur.hist + 1) (submission v s.dur))))))

-- what may happen at a server
pub data Input : Type 0 where
  oracle : (x : ℕ) → Input
  restart : Input
  message : (f : ℕ) (m : Msg) → Input
  submit : (v : ℕ) → Input

unfoldable pub step : Sizes → ℕ → Input → Server → Tree
step z i (oracle x) s = on_oracle z i x s
step z i restart s = on_restart s
step z i (message f m) s = need (ltb f z.n) EVENT (need (not (eqb f i)) EVENT (need (formed z m) MESSAGE (receive z i f m s)))
step z i (submit v) s = on_submit z i v s

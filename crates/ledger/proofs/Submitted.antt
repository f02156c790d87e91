-- What lies in a log past its initial history was submitted exactly once; so was what is delivered.
use Prim.Native.Nat.{ℕ, suc, ◌+◌, ◌-◌, ◌≤◌, ◌<◌}
use mathlib.Core.Path.{◌≡◌, refl, sym, ap, ◌∙◌}
use mathlib.Core.Bool.{Bool, true, false}
use mathlib.Core.List.{List, [], ◌∷◌, ◌++◌, map}
use native.Mathlib.Omega.{arith}
use lib.Dec.{eqb}
use lib.ListN.{length, take, get_or, length-take, length-drop, length-map, get_or-map}
use lib.Seq.{take-take, get_or-take, get_or-drop}
use Rattle.base.proofs.Entry.{same_true, same_self}
use Rattle.base.specs.Choice.{pick}
use Rattle.base.specs.Transaction.{Hist, none, ident, id_at}
use Rattle.base.specs.Record.{Rec, E, B, «V», X, Entry, entry, same}
use Rattle.base.proofs.History.{agree-low}
use Rattle.base.proofs.Choice.{tests, passes, case, both_true, both_yes}
use Rattle.rules.specs.Cluster.{Cluster}
use Rattle.ledger.specs.Delivered.{delivered_of}
use Rattle.ledger.specs.Records.{count, is_b, numbered, Submitted, gather, begun_by, begun_in}
use Rattle.ledger.proofs.Ghost.{Ghost, Good, Origin, own}
use Rattle.ledger.proofs.Candidate.{committed-in}
use Rattle.ledger.proofs.Grow.{origin-as}
use Rattle.ledger.proofs.Cluster.{Inv}
use Rattle.ledger.proofs.Lists.{count-one, in-at}
use Rattle.ledger.proofs.Traced.{in-gather, is-begun, Traced}

-- ---- a trace's B records and those of one epoch

-- B records that pass a test which only entries of epoch e pass
begun-count : (f : Entry → Bool) (e : ℕ) → ((t : Entry) → f t ≡ true → t.ep ≡ e) → (tr : List Rec) → count (is_b f) tr ≡ count f (begun_in e tr)
unfolding count is_b gather begun_by pick
begun-count f e o [] = refl
begun-count f e o (E s e' ∷ tr) = omega (arith, begun-count f e o tr)
begun-count f e o («V» s t ∷ tr) = omega (arith, begun-count f e o tr)
begun-count f e o (X line k ∷ tr) = omega (arith, begun-count f e o tr)
begun-count f e o (B s t ∷ tr) = go (eqb t.ep e) refl (begun-count f e o tr)
  where
    go : (b : Bool) → eqb t.ep e ≡ b → count (is_b f) tr ≡ count f (begun_in e tr) → pick (f t) 1 0 + count (is_b f) tr ≡ count f (pick b (t ∷ []) [] ++ begun_in e tr)
    go true q ih = ap (λ (k : ℕ). pick (f t) 1 0 + k) ih
    go false q ih = case (f t) (λ p. let w : t.ep ≡ e = o t p in absurd (omega tests)) (λ p. rw p (omega arith))

-- ---- the tests

numbered_is : (t u : Entry) → numbered t u ≡ true → (u.ep ≡ t.ep) × (u.ct ≡ t.ct)
unfolding numbered
numbered_is t u e = let w = both_true (eqb u.ep t.ep) (eqb u.ct t.ct) e in (omega (tests, w.0), omega (tests, w.1))

numbered-self : (t : Entry) → numbered t t ≡ true
unfolding numbered
numbered-self t = both_yes (eqb t.ep t.ep) (eqb t.ct t.ct) (omega passes) (omega passes)

same-numbered : (t u : Entry) → same t u ≡ true → numbered t u ≡ true
same-numbered t u e = let x = same_true t u e in rw x (numbered-self u)

-- ---- one epoch

-- its B records
unfoldable pub begun_here : Ghost → ℕ → List Entry
begun_here g e = map entry (own g e)

module _ (n : ℕ) (g : Ghost) (G : Good n g) (tr : List Rec) (T : Traced g tr) (e : ℕ) (pos : 0 < e) where
  -- how many
  pub here-length : length (begun_here g e) ≡ length (g.log e) - g.base e
  unfolding begun_here
  here-length = length-map (own g e) entry ∙ length-drop (g.base e) (g.log e)

  -- and what they are
  pub here-at : (j : ℕ) → get_or (begun_here g e) j (entry none) ≡ entry (get_or (g.log e) (g.base e + j) none)
  unfolding begun_here
  here-at j = get_or-map entry (own g e) j none ∙ ap entry (get_or-drop (g.base e) (g.log e) j none)

  -- their counters run 1, 2, 3, ..
  pub here-number : (j : ℕ) → j < length (begun_here g e) → ((get_or (begun_here g e) j (entry none)).ep ≡ e) × ((get_or (begun_here g e) j (entry none)).ct ≡ suc j)
  unfolding id_at
  here-number j l =
      let b : g.base e + j < length (g.log e) = omega (arith, here-length) in
      let i : (get_or (g.log e) (g.base e + j) none).id.0 ≡ ident e (suc (g.base e + j - g.base e)) = G.own-id e (g.base e + j) pos (omega arith) b in
      let s : (get_or (g.log e) (g.base e + j) none).id.0 < ident (suc e) 0 = G.ids e (suc (g.base e + j)) b in
      rw (here-at j) (omega arith, omega arith)

  -- a test that only the number of place j's entry passes, and it does, is passed once
  here-one : (f : Entry → Bool) (j : ℕ) → j < length (begun_here g e) → ((u : Entry) → f u ≡ true → numbered (get_or (begun_here g e) j (entry none)) u ≡ true)
      → f (get_or (begun_here g e) j (entry none)) ≡ true → count (is_b f) tr ≡ 1
  unfolding begun_here
  here-one f j l nu y =
      begun-count f e (λ u p. (numbered_is (get_or (begun_here g e) j (entry none)) u (nu u p)).0 ∙ (here-number j l).0) tr
      ∙ ap (count f) (T.own e)
      ∙ count-one f (entry none) (begun_here g e) j l y
      (λ k m p. omega (arith, (here-number j l).1, (here-number k m).1, (numbered_is (get_or (begun_here g e) j (entry none)) (get_or (begun_here g e) k (entry none)) (nu (get_or (begun_here g e) k (entry none)) p)).1))

  here-once : (j : ℕ) → j < length (begun_here g e) → Submitted tr (get_or (begun_here g e) j (entry none))
  unfolding begun_here
  here-once j l =
      let t = get_or (begun_here g e) j (entry none) in
      let r = in-gather (begun_by e) t tr (rw (T.own e) (in-at (begun_here g e) j (entry none) l)) in
      let w = is-begun e t r.0 r.2 in
      record {
        by = w.0;
        once = here-one (same t) j l (same-numbered t) (same_self t);
        alone = here-one (numbered t) j l (λ _ p. p) (numbered-self t);
        led = T.led w.0 t (rw w.1 at r.1);
      }

  -- what the log of e has past its initial history
  pub own-once : (k : ℕ) → g.base e ≤ k → k < length (g.log e) → Submitted tr (entry (get_or (g.log e) k none))
  own-once k b l =
      let q : g.base e + (k - g.base e) ≡ k = omega arith in
      let w = here-once (k - g.base e) (omega (arith, here-length)) in
      rw (here-at (k - g.base e), q) at w

-- two histories that agree past place k have one transaction there
pub same_at : (k c : ℕ) (x y : Hist) → k < c → take c x ≡ take c y → get_or x k none ≡ get_or y k none
same_at k c x y l q = sym (get_or-take c x k none l) ∙ ap (λ (h : Hist). get_or h k none) q ∙ get_or-take c y k none l

-- what is delivered lies in the log of its own epoch, past the initial history
pub server-origin : (n : ℕ) (c : Cluster) (I : Inv n c) (i k : ℕ) → k < length (delivered_of (c.srv i)) → Origin I.g (delivered_of (c.srv i)) k
server-origin n c I i k l =
    let s = (c.srv i).dur in
    let b : k < s.d = omega (arith, length-take s.d s.hist) in
    let v = (I.srv i).dur.del.safe (omega arith) in
    let w = committed-in n I.g I.good v.0 s.d v.2 in
    origin-as I.g (delivered_of (c.srv i)) (I.g.log v.0) k
    (take-take (suc k) s.d s.hist b ∙ agree-low (suc k) s.d s.hist (I.g.log v.0) b v.3)
    (I.good.origin v.0 k (omega (arith, w.1)))

-- so it was submitted once
pub server-once : (n : ℕ) (c : Cluster) (I : Inv n c) (tr : List Rec) → Traced I.g tr → (i k : ℕ) → k < length (delivered_of (c.srv i)) → Submitted tr (entry (get_or (delivered_of (c.srv i)) k none))
server-once n c I tr T i k l =
    let o = server-origin n c I i k l in
    rw (same_at k (suc k) (delivered_of (c.srv i)) (I.g.log o.ep) (omega arith) o.same) (own-once n I.g I.good tr T o.ep o.pos k o.past o.inside)

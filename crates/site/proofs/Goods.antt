-- A cluster that is well formed: tests and facts.
use Prim.Native.Nat.{ℕ, ◌+◌, ◌-◌, ◌*◌, ◌≤◌}
use mathlib.Core.Path.{◌≡◌, refl, sym, ap, ◌∙◌}
use mathlib.Core.Bool.{Bool, true, false}
use mathlib.Core.List.{List}
use native.Mathlib.Omega.{arith}
use lib.Dec.{eqb, leb}
use lib.ListN.{length, take, drop}
use Rattle.std.specs.Prelude.{◌↔◌, IsTrue}
use borrow.Author.Tests.{eqb-true, leb-true, eq-eqb, le-leb}
use Rattle.base.specs.Choice.{both, all_below}
use Rattle.base.specs.declared.Sizes.{Sizes}
use Rattle.base.proofs.Choice.{clash, case, both_true, both_yes, all-at, all_of}
use Rattle.rules.proofs.WellFormed.{sized}
use Rattle.rules.specs.Server.{good_sizes}
use Rattle.rules.specs.Words.{slot_size, good_state}
use Rattle.ring.specs.Queue.{good_rings, queue_size}
use Rattle.site.specs.Parts.{share, part}
use Rattle.site.specs.Site.{Site, site_of, record_at, good_seat, good_lens, fitting, good_site, Good}
use Rattle.site.specs.declared.Cluster.{Cluster}

-- ---- `a && b`, where a told of x and b of y

pub and-then : (a b x y : Bool) → a ≡ x → a ≡ true → b ≡ y → b ≡ both x y
unfolding both
and-then a b x y e t f = rw (← e, t) f

pub and-else : (a x y : Bool) → a ≡ x → a ≡ false → a ≡ both x y
unfolding both
and-else a x y e f = rw (← e, f)

-- ---- sizes

pub depth-tells : (depth : ℕ) (b : Bool) → IsTrue b ↔ ((2 ≤ depth) × (depth ≤ 16)) → b ≡ both (leb 2 depth) (leb depth 16)
depth-tells depth true h = let p = h.0 refl in sym (both_yes _ _ (le-leb _ _ p.0) (le-leb _ _ p.1))
depth-tells depth false h = case (both (leb 2 depth) (leb depth 16))
    (λ (g : both (leb 2 depth) (leb depth 16) ≡ true). let p = both_true (leb 2 depth) (leb depth 16) g in clash (h.1 (leb-true _ _ p.0, leb-true _ _ p.1)) refl)
    (λ (g : both (leb 2 depth) (leb depth 16) ≡ false). sym g)

pub ranges-facts : (z : Sizes) (depth : ℕ) (b : Bool) → b ≡ both (good_sizes z) (both (leb 2 depth) (leb depth 16)) → b ≡ true → (good_sizes z ≡ true) × ((2 ≤ depth) × (depth ≤ 16))
ranges-facts z depth b e t =
    let x = both_true (good_sizes z) _ (sym e ∙ t) in
    let y = both_true (leb 2 depth) (leb depth 16) x.1 in
    (x.0, (leb-true _ _ y.0, leb-true _ _ y.1))

pub ranges-room : (z : Sizes) (depth : ℕ) (b : Bool) → b ≡ both (good_sizes z) (both (leb 2 depth) (leb depth 16)) → b ≡ true → (z.n ≤ 7) × ((z.room.0 ≤ 64) × (depth ≤ 16))
ranges-room z depth b e t =
    let x = ranges-facts z depth b e t in
    let y = sized z x.0 in
    (y.seven, (y.room, x.1.1))

-- ---- how many words are lent

both-next : (a b c : Bool) → both (both a b) c ≡ both a (both b c)
unfolding both
both-next true b c = refl
both-next false b c = refl

-- two numbers of words told of, then a third, then the last
pub lens-are : (z : Sizes) (depth h k q o : ℕ) (v w b : Bool) → v ≡ both (eqb h (2 * z.room.0 * z.n)) (eqb k (2 * z.room.0 * z.n)) → w ≡ both v (eqb q ((4 + 2 * z.room.0) * (depth * (z.n * z.n))))
    → b ≡ both w (leb (6 * (5 + 2 * z.room.0)) o) → b ≡ good_lens z depth h k q o
unfolding good_lens
lens-are z depth h k q o v w b e f g =
    let s : 6 * (5 + 2 * z.room.0) ≡ 6 * slot_size z.room.0 = omega arith in
    g ∙ rw (f, e, s) (both-next _ _ _ ∙ both-next _ _ _)

pub record Fits (z : Sizes) (depth h k q o : ℕ) : Type 0 where
  pub sizes : good_sizes z ≡ true
  pub lower : 2 ≤ depth
  pub upper : depth ≤ 16
  pub hists : h ≡ share z * z.n
  pub cands : k ≡ share z * z.n
  pub queue : q ≡ queue_size z depth
  pub box : 6 * slot_size z.room.0 ≤ o

pub fit-facts : (z : Sizes) (depth h k q o : ℕ) → fitting z depth h k q o ≡ true → Fits z depth h k q o
unfolding fitting good_lens
fit-facts z depth h k q o e =
    let a = both_true (both (good_sizes z) (both (leb 2 depth) (leb depth 16))) _ e in
    let r = ranges-facts z depth _ refl a.0 in
    let b = both_true (eqb h (share z * z.n)) _ a.1 in
    let c = both_true (eqb k (share z * z.n)) _ b.1 in
    let d = both_true (eqb q (queue_size z depth)) _ c.1 in
    record { sizes = r.0; lower = r.1.0; upper = r.1.1; hists = eqb-true _ _ b.0; cands = eqb-true _ _ c.0; queue = eqb-true _ _ d.0; box = leb-true _ _ d.1 }

pub fit-shown : (z : Sizes) (depth h k q o : ℕ) → Fits z depth h k q o → fitting z depth h k q o ≡ true
unfolding fitting good_lens
fit-shown z depth h k q o f = both_yes _ _
    (both_yes _ _ f.sizes (both_yes _ _ (le-leb _ _ f.lower) (le-leb _ _ f.upper)))
    (both_yes _ _ (eq-eqb _ _ f.hists) (both_yes _ _ (eq-eqb _ _ f.cands) (both_yes _ _ (eq-eqb _ _ f.queue) (le-leb _ _ f.box))))

-- ---- each server's part

pub seat-is : (c : Cluster) (h k : List ℕ) (i l : ℕ) (b : Bool) → good_sizes c.sizes ≡ true → (record_at c.servers i).me ≡ i → l ≡ share c.sizes
    → b ≡ both (good_sizes c.sizes) (good_state c.sizes (record_at c.servers i) (take (l * i + l - l * i) (drop (l * i) h)) (take (l * i + l - l * i) (drop (l * i) k)))
    → (q o : List ℕ) → b ≡ good_seat c.sizes (site_of c h k q o) i
unfolding good_seat both
seat-is c h k i l b g e s f q o =
    let u : l * i + l - l * i ≡ l = omega arith in
    let v : b ≡ good_state c.sizes (record_at c.servers i) (take l (drop (l * i) h)) (take l (drop (l * i) k)) = rw (u, g) at f in
    rw (eq-eqb (record_at c.servers i).me i e) (v ∙ ap (λ (x : ℕ). good_state c.sizes (record_at c.servers i) (take x (drop (x * i) h)) (take x (drop (x * i) k))) s)

-- ---- all

pub site-are : (z : Sizes) (depth : ℕ) (w : Site) (v b : Bool) → v ≡ both (fitting z depth (length w.hists) (length w.cands) (length w.queue) (length w.box)) (good_rings depth w.rings)
    → b ≡ both v (all_below z.n (good_seat z w)) → b ≡ good_site z depth w
unfolding good_site
site-are z depth w v b e f = f ∙ rw e (both-next (fitting z depth (length w.hists) (length w.cands) (length w.queue) (length w.box)) (good_rings depth w.rings) (all_below z.n (good_seat z w)))

seat-facts : (z : Sizes) (w : Site) (i : ℕ) → good_seat z w i ≡ true → ((record_at w.servers i).me ≡ i) × (good_state z (record_at w.servers i) (part z i w.hists) (part z i w.cands) ≡ true)
unfolding good_seat
seat-facts z w i e =
    let b = both_true (eqb (record_at w.servers i).me i) (good_state z (record_at w.servers i) (part z i w.hists) (part z i w.cands)) e in
    (eqb-true _ _ b.0, b.1)

-- what the test of every server asks
pub fit-seats : (z : Sizes) (depth h k q o : ℕ) (b : Bool) → b ≡ fitting z depth h k q o → b ≡ true → (good_sizes z ≡ true) × ((h ≡ share z * z.n) × (k ≡ share z * z.n))
fit-seats z depth h k q o b e t = let f = fit-facts z depth h k q o (sym e ∙ t) in (f.sizes, (f.hists, f.cands))

pub good-facts : (z : Sizes) (depth : ℕ) (w : Site) → length w.servers ≡ 7 → length w.rings.heads ≡ 49 → length w.rings.counts ≡ 49 → good_site z depth w ≡ true → Good z depth w
unfolding good_site
good-facts z depth w seven heads counts e =
    let a = both_true (fitting z depth (length w.hists) (length w.cands) (length w.queue) (length w.box)) _ e in
    let f = fit-facts z depth _ _ _ _ a.0 in
    let s = sized z f.sizes in
    let b = both_true (good_rings depth w.rings) _ a.1 in
    record {
      sizes = f.sizes;
      deep = f.lower;
      ringed = record { few = s.seven; room = s.room; some = (let l = f.lower in omega arith); deep = f.upper; size = f.queue; rings = b.0; heads = heads; counts = counts };
      seven = seven;
      hists = f.hists;
      cands = f.cands;
      box = f.box;
      me = λ i l. (seat-facts z w i (all-at z.n (good_seat z w) b.1 i l)).0;
      state = λ i l. (seat-facts z w i (all-at z.n (good_seat z w) b.1 i l)).1;
    }

-- the same, of a struct and what is lent
pub good-lent : (c : Cluster) (h k q o : List ℕ) (b : Bool) → length c.servers ≡ 7 → length c.rings.heads ≡ 49 → length c.rings.counts ≡ 49
    → b ≡ good_site c.sizes c.depth (site_of c h k q o) → b ≡ true → Good c.sizes c.depth (site_of c h k q o)
good-lent c h k q o b seven heads counts e t = good-facts c.sizes c.depth (site_of c h k q o) seven heads counts (sym e ∙ t)

pub good-shown : (z : Sizes) (depth : ℕ) (w : Site) → Good z depth w → good_site z depth w ≡ true
unfolding good_site good_seat
good-shown z depth w g = both_yes _ _
    (fit-shown z depth _ _ _ _ (record { sizes = g.sizes; lower = g.deep; upper = g.ringed.deep; hists = g.hists; cands = g.cands; queue = g.ringed.size; box = g.box }))
    (both_yes _ _ g.ringed.rings (all_of z.n (good_seat z w) (λ i l. both_yes _ _ (eq-eqb _ _ (g.me i l)) (g.state i l))))

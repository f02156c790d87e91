-- A fresh cluster: what the rules start with, and well formed.
use Rattle.std.specs.Prelude.{Ok, Err}
use Rattle.base.specs.declared.Refusal.TheVariants.{State as StateR}
use Prim.Native.Nat.{ℕ, zero, suc, ◌-◌, ◌*◌, ◌≤◌, ◌<◌}
use mathlib.Core.Path.{◌≡◌, refl, sym, ap, ◌∙◌}
use mathlib.Core.Logic.{inl, inr, ⊎_elim}
use mathlib.Core.Bool.{Bool, true, false}
use mathlib.Core.List.{List, [], ◌∷◌}
use native.Mathlib.Omega.{arith}
use lib.ListN.{length, take, drop}
use borrow.Author.Tests.{lt-ltb, le-ltb}
use Rattle.base.specs.Choice.{pick}
use Rattle.base.specs.declared.Sizes.{Sizes}
use Rattle.base.proofs.Choice.{le-or-lt, both_yes, clash}
use Rattle.rules.proofs.WellFormed.{sized}
use Rattle.rules.specs.declared.State.{State}
use Rattle.rules.specs.Server.{fresh, well_formed}
use Rattle.rules.specs.Cluster.{start}
use Rattle.rules.specs.Words.{zeros, good_words, good_state, server_of, state_of, hist_words, flat, tab}
use Rattle.rules.proofs.Words.{length-zeros, length-tab, get-tab, server-back, hist-good, zero-at}
use Rattle.rules.proofs.Runs.{start-healthy}
use Rattle.ring.specs.Queue.{cell, count, chans}
use Rattle.ring.proofs.Parts.{row_below}
use Rattle.ring.proofs.Laws.{rings-of, front-none, chan-out}
use Rattle.site.specs.Parts.{share, part}
use Rattle.site.specs.Site.{Site, site_of, record_at, none, seated, server_at, cluster_of, Good}
use Rattle.site.specs.declared.Cluster.{Cluster}
use Rattle.site.proofs.Goods.{Fits, fit-facts, good-shown}
use Rattle.cluster.specs.Any.{no_rings, fresh_of, good_fresh, Freshly}

pub fresh-made : (z : Sizes) (depth : ℕ) (a b c d e f g : State) → a ≡ state_of 0 fresh → b ≡ state_of 1 fresh → c ≡ state_of 2 fresh → d ≡ state_of 3 fresh → e ≡ state_of 4 fresh → f ≡ state_of 5 fresh → g ≡ state_of 6 fresh
    → ◌≡◌ {A = Cluster} (record { sizes = z; depth = depth; servers = a ∷ b ∷ c ∷ d ∷ e ∷ f ∷ g ∷ []; rings = no_rings }) (fresh_of z depth)
unfolding tab
fresh-made z depth a b c d e f g p0 p1 p2 p3 p4 p5 p6 = rw (p0, p1, p2, p3, p4, p5, p6)

-- zeros in any part of zeros
drop-zeros : (k n : ℕ) → drop k (zeros n) ≡ zeros (n - k)
unfolding zeros
drop-zeros zero n = let e : n ≡ n - 0 = omega arith in ap zeros e
drop-zeros (suc k) zero = let e : 0 ≡ 0 - suc k = omega arith in ap zeros e
drop-zeros (suc k) (suc n) = let e : n - k ≡ suc n - suc k = omega arith in drop-zeros k n ∙ ap zeros e

take-zeros : (k n : ℕ) → k ≤ n → take k (zeros n) ≡ zeros k
unfolding zeros
take-zeros zero n h = refl
take-zeros (suc k) zero h = absurd (omega arith)
take-zeros (suc k) (suc n) h = ap (λ (w : List ℕ). 0 ∷ w) (take-zeros k n (omega arith))

pub part-zeros : (z : Sizes) (i m : ℕ) → i < z.n → m ≡ share z * z.n → part z i (zeros m) ≡ zeros (share z)
part-zeros z i m l e =
    let a = row_below (share z) i z.n l in
    ap (take (share z)) (drop-zeros (share z * i) m) ∙ take-zeros (share z) (m - share z * i) (omega arith)

-- an empty history in its words
no_words : (H : ℕ) → zeros (2 * H) ≡ hist_words H []
unfolding hist_words flat
no_words H = let e : 2 * H ≡ 2 * (H - 0) = omega arith in ap zeros e

pub fresh-record : (i : ℕ) → i < 7 → record_at (tab 7 (λ j. state_of j fresh)) i ≡ state_of i fresh
fresh-record i l = get-tab 7 (λ j. state_of j fresh) none i l

fresh-server : (z : Sizes) (i : ℕ) → server_of (state_of i fresh) (zeros (share z)) (zeros (share z)) ≡ fresh
fresh-server z i = ap (λ (w : List ℕ). server_of (state_of i fresh) w w) (no_words z.room.0) ∙ server-back i fresh z.room.0 (λ j l. refl) (λ j l. refl) (λ j l. refl) (λ j l. refl)

me-of : (i : ℕ) → (state_of i fresh).me ≡ i
unfolding state_of
me-of i = refl

-- the words of a fresh cluster
abbrev pub fresh_site : Sizes → ℕ → ℕ → ℕ → ℕ → List ℕ → Site
fresh_site z depth h k q o = site_of (fresh_of z depth) (zeros h) (zeros k) (zeros q) o

module _ (z : Sizes) (depth h k q : ℕ) (o : List ℕ) (f : Fits z depth h k q (length o)) where
  fresh-few : z.n ≤ 7
  fresh-few = (sized z f.sizes).seven

  fresh-seat : (i : ℕ) → i < z.n → seated z (fresh_site z depth h k q o) i ≡ fresh
  fresh-seat i l =
      let few = fresh-few in
      ap (λ (s : State). server_of s (part z i (zeros h)) (part z i (zeros k))) (fresh-record i (omega arith))
      ∙ ap (λ (w : List ℕ). server_of (state_of i fresh) w (part z i (zeros k))) (part-zeros z i h l f.hists)
      ∙ ap (λ (w : List ℕ). server_of (state_of i fresh) (zeros (share z)) w) (part-zeros z i k l f.cands)
      ∙ fresh-server z i

  fresh_at : (i : ℕ) → server_at z (fresh_site z depth h k q o) i ≡ fresh
  unfolding server_at pick
  fresh_at i = ⊎_elim
      (λ (p : z.n ≤ i). rw (le-ltb i z.n p))
      (λ (p : i < z.n). rw (lt-ltb i z.n p) (fresh-seat i p))
      (le-or-lt z.n i)

  count-zero : (c : ℕ) → count no_rings c ≡ 0
  count-zero c = zero-at 49 c

  fresh-chan : (a b : ℕ) → chans z depth no_rings (zeros q) a b ≡ []
  fresh-chan a b = ⊎_elim
      (λ (p : z.n ≤ a). chan-out z depth no_rings (zeros q) a b (inl p))
      (λ (p : a < z.n). ⊎_elim
      (λ (r : z.n ≤ b). chan-out z depth no_rings (zeros q) a b (inr r))
      (λ (r : b < z.n). front-none z depth no_rings (zeros q) a b (record { sender = p; receiver = r }) (count-zero (cell z.n a b)))
      (le-or-lt z.n b))
      (le-or-lt z.n a)

  pub fresh-rules : cluster_of z depth (fresh_site z depth h k q o) ≡ start
  unfolding cluster_of start
  fresh-rules = λ i. record { srv = λ j. fresh_at j i; chan = λ a b. fresh-chan a b i }

  fresh-state : (i : ℕ) → i < z.n → good_state z (state_of i fresh) (zeros (share z)) (zeros (share z)) ≡ true
  unfolding good_state state_of start
  fresh-state i l = both_yes _ _ words (both_yes _ _ words formed)
    where
      words : good_words z.room.0 0 (zeros (share z)) ≡ true
      words = ap (good_words z.room.0 0) (no_words z.room.0) ∙ hist-good z.room.0 [] (omega arith)

      formed : well_formed z i (server_of (state_of i fresh) (zeros (share z)) (zeros (share z))) ≡ true
      formed = ap (well_formed z i) (fresh-server z i) ∙ (start-healthy z).srv i l

  pub fresh-good : Good z depth (fresh_site z depth h k q o)
  fresh-good =
      let s = sized z f.sizes in
      let lower = f.lower in
      let upper = f.upper in
      record {
        sizes = f.sizes;
        deep = f.lower;
        ringed = record {
          few = s.seven;
          room = s.room;
          some = omega arith;
          deep = f.upper;
          size = length-zeros q ∙ f.queue;
          rings = rings-of depth no_rings (λ c l. let a = count-zero c in (omega (arith, a), omega (arith, a)));
          heads = refl;
          counts = refl;
        };
        seven = length-tab 7 (λ i. state_of i fresh);
        hists = length-zeros h ∙ f.hists;
        cands = length-zeros k ∙ f.cands;
        box = f.box;
        me = λ i l. ap (λ (x : State). x.me) (fresh-record i (let few = fresh-few in omega arith)) ∙ me-of i;
        state = λ i l.
            ap (λ (x : State). good_state z x (part z i (zeros h)) (part z i (zeros k))) (fresh-record i (let few = fresh-few in omega arith))
            ∙ ap (λ (w : List ℕ). good_state z (state_of i fresh) w (part z i (zeros k))) (part-zeros z i h l f.hists)
            ∙ ap (λ (w : List ℕ). good_state z (state_of i fresh) (zeros (share z)) w) (part-zeros z i k l f.cands)
            ∙ fresh-state i l;
      }

pub fresh-refused : (z : Sizes) (depth : ℕ) (h k q o : List ℕ) (b : Bool) (c : Cluster) → b ≡ good_fresh z depth h k q o → b ≡ false → c ≡ fresh_of z depth
    → Freshly z depth h k q o (record { answer = Err StateR; cluster = c }) h k q
unfolding pick
fresh-refused z depth h k q o b c e f g =
    let t : good_fresh z depth h k q o ≡ false = sym e ∙ f in
    record {
      code = rw t;
      cluster = g;
      hists = rw t;
      cands = rw t;
      queue = rw t;
      rules = λ u. clash u t;
      good = λ u. clash u t;
    }

pub fresh-does : (z : Sizes) (depth : ℕ) (h k q o h' k' q' : List ℕ) (b : Bool) (c : Cluster) → b ≡ good_fresh z depth h k q o → b ≡ true → c ≡ fresh_of z depth
    → h' ≡ zeros (length h - 0) → k' ≡ zeros (length k - 0) → q' ≡ zeros (length q - 0) → Freshly z depth h k q o (record { answer = Ok tt; cluster = c }) h' k' q'
unfolding pick
fresh-does z depth h k q o h' k' q' b c e f g x y v =
    let t : good_fresh z depth h k q o ≡ true = sym e ∙ f in
    let eh : length h - 0 ≡ length h = omega arith in
    let ek : length k - 0 ≡ length k = omega arith in
    let eq : length q - 0 ≡ length q = omega arith in
    let i : h' ≡ zeros (length h) = x ∙ ap zeros eh in
    let j : k' ≡ zeros (length k) = y ∙ ap zeros ek in
    let l : q' ≡ zeros (length q) = v ∙ ap zeros eq in
    let fits = fit-facts z depth (length h) (length k) (length q) (length o) t in
    record {
      code = rw t;
      cluster = g;
      hists = rw t i;
      cands = rw t j;
      queue = rw t l;
      rules = λ _. rw (g, i, j, l) (fresh-rules z depth (length h) (length k) (length q) o fits);
      good = λ _. rw (g, i, j, l) (good-shown z depth _ (fresh-good z depth (length h) (length k) (length q) o fits));
    }

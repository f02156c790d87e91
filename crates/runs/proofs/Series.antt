-- Many events, one after the other: what is left of them, from each on.
use Rattle.std.specs.Prelude.{Result, Ok, Err, is_ok}
use mir.Val.{bool_byte}
use Rattle.base.specs.declared.Refusal.{Refusal}
use Rattle.base.proofs.Refusals.{number-not}
use Rattle.base.specs.Refusals.{number, code_of}
use Prim.Native.Nat.{ℕ, zero, suc, ◌+◌, ◌-◌, ◌*◌, ◌/◌, ◌%◌, ◌≤◌, ◌<◌}
use mathlib.Core.Path.{◌≡◌, refl, sym, ap, ◌∙◌, subst}
use mathlib.Core.Logic.{◌≢◌}
use mathlib.Core.Bool.{Bool, true, false}
use mathlib.Core.List.{List, [], ◌∷◌}
use native.Mathlib.Omega.{arith}
use native.Mathlib.Numerals.{add-one}
use native.Mathlib.Nat.{mod-lt, div-add-mod, div-lt_iff_lt-mul}
use lib.Dec.{eqb, leb}
use lib.ListN.{length, take, get_or}
use lib.Seq.{length-take-le}
use Rattle.std.specs.Prelude.{Option, None, Some, MatchOption}
use Rattle.std.specs.Option.{unwrap_or}
use Rattle.std.specs.List.{AllWithin, HoldsAt}
use Rattle.std.proofs.lemmas.List.{get_or-take}
use borrow.Author.Tests.{eq-eqb, ne_eqb, le-leb, lt-leb, lt-ltb, le-ltb}
use Rattle.base.specs.Choice.{pick, both}
use Rattle.base.specs.declared.Sizes.{Sizes}
use Rattle.base.proofs.Choice.{clash, both_yes, both-no}
use Rattle.rules.proofs.WellFormed.{sized}
use Rattle.rules.specs.Cluster.{Cluster as Servers, Event, event, after, play, is_done}
use Rattle.ring.specs.declared.Rings.{Rings}
use Rattle.ring.specs.Queue.{count, chans, Chan}
use Rattle.ring.proofs.Laws.{chan-count}
use Rattle.site.specs.Site.{Site, site_of, cluster_of, good_site, Good}
use Rattle.site.specs.declared.Cluster.{Cluster}
use Rattle.site.specs.declared.Told.{Told}
use Rattle.site.proofs.Goods.{good-shown}
use Rattle.turn.proofs.Outcomes.{outcome-done, outcome-after}
use Rattle.turn.specs.Events.{meant, event_of}
use Rattle.turn.specs.Turns.{after_of, Turned}
use Rattle.turn.specs.declared.Happening.{Happening}
use Rattle.turn.specs.declared.Happening.TheVariants as happens
use Rattle.runs.specs.Runs.{named, event_at, events_from, within, events_of, played, tally, good_run, On, Does, refused_of, Runs, channel_at, lowest, lowest_ring, easings}
use Rattle.runs.specs.declared.Ran.{Ran}

-- ---- an event in its words

pub read-oracle : (es : List ℕ) (j : ℕ) → get_or es (3 * j) 0 ≡ 1 → (z : Sizes) → meant z (happens.Oracle (get_or es (3 * j + 1) 0) (get_or es (3 * j + 2) 0)) ≡ event_at z es j
unfolding meant event_at named pick
read-oracle es j e z = rw e

pub read-restart : (es : List ℕ) (j : ℕ) → get_or es (3 * j) 0 ≡ 2 → (z : Sizes) → meant z (happens.Restart (get_or es (3 * j + 1) 0)) ≡ event_at z es j
unfolding meant event_at named pick
read-restart es j e z = rw e

pub read-deliver : (es : List ℕ) (j : ℕ) → get_or es (3 * j) 0 ≡ 3 → (z : Sizes) → meant z (happens.Deliver (get_or es (3 * j + 1) 0) (get_or es (3 * j + 2) 0)) ≡ event_at z es j
unfolding meant event_at named pick
read-deliver es j e z = rw e

pub read-submit : (es : List ℕ) (j : ℕ) → get_or es (3 * j) 0 ≡ 4 → (z : Sizes) → meant z (happens.Submit (get_or es (3 * j + 1) 0) (get_or es (3 * j + 2) 0)) ≡ event_at z es j
unfolding meant event_at named pick
read-submit es j e z = rw e

pub read-unknown : (es : List ℕ) (j : ℕ) → get_or es (3 * j) 0 ≢ 1 → get_or es (3 * j) 0 ≢ 2 → get_or es (3 * j) 0 ≢ 3 → get_or es (3 * j) 0 ≢ 4 → (z : Sizes) → meant z happens.Unknown ≡ event_at z es j
unfolding meant event_at named pick
read-unknown es j a b c d z = rw (ne_eqb _ 1 a, ne_eqb _ 2 b, ne_eqb _ 3 c, ne_eqb _ 4 d)

-- ---- one event

-- an answer counts as one where nothing is refused
pub taken-one : (r : Result (Unit {0}) Refusal) → bool_byte (is_ok r) ≡ pick (eqb (code_of r) 0) 1 0
unfolding pick
taken-one (Ok a) = refl
taken-one (Err c) = rw (ne_eqb (number c) 0 (number-not c)) refl

pub one-most : (b : Bool) (n : ℕ) → n ≡ bool_byte b → n ≤ 1
one-most true n e = omega (arith, e)
one-most false n e = omega (arith, e)

pub on-does : (t : Ran) (e : Event) (h k q o : List ℕ) (a : Told) (h' k' q' o' : List ℕ) (x : ℕ) → Turned t.cluster e h k q o a h' k' q' o' → x ≡ pick (eqb (code_of a.answer) 0) 1 0
    → On t e h k q o (record { answer = Ok tt; met = t.met + 1; taken = t.taken + x; cluster = a.cluster }) h' k' q' o'
on-does t e h k q o a h' k' q' o' x d f =
    let z = t.cluster.sizes in
    let depth = t.cluster.depth in
    let w = site_of t.cluster h k q o in
    let p : is_done (event t.cluster.sizes t.cluster.depth (cluster_of t.cluster.sizes t.cluster.depth (site_of t.cluster h k q o)) e) ≡ eqb (code_of a.answer) 0
    = ap is_done d.rules ∙ outcome-done z depth e w (after_of a h' k' q' o') in
    record {
      code = refl;
      met = refl;
      taken = ap (λ (y : ℕ). t.taken + y) (f ∙ ap (λ (b : Bool). pick {A = ℕ} b 1 0) (sym p));
      sizes = d.leaves.sizes;
      depth = d.leaves.depth;
      site = d.leaves.site;
      rules = sym (ap after d.rules ∙ outcome-after z depth e w (after_of a h' k' q' o'));
      good = d.good;
    }

-- ---- on the way: t is what the events before `rest` of all left

pub record Midway (c : Cluster) (all rest : List Event) (h k q o : List ℕ) (t : Ran) (h' k' q' o' : List ℕ) : Type 0 where
  pub code : code_of t.answer ≡ 0
  pub met : t.met + length rest ≡ length all
  pub few : t.taken ≤ t.met
  pub taken : t.taken + tally c.sizes c.depth (cluster_of c.sizes c.depth (site_of t.cluster h' k' q' o')) rest ≡ tally c.sizes c.depth (cluster_of c.sizes c.depth (site_of c h k q o)) all
  pub sizes : t.cluster.sizes ≡ c.sizes
  pub depth : t.cluster.depth ≡ c.depth
  pub site : played c.sizes c.depth (site_of t.cluster h' k' q' o') rest ≡ played c.sizes c.depth (site_of c h k q o) all
  pub rules : play c.sizes c.depth (cluster_of c.sizes c.depth (site_of t.cluster h' k' q' o')) rest ≡ play c.sizes c.depth (cluster_of c.sizes c.depth (site_of c h k q o)) all
  pub good : Good c.sizes c.depth (site_of t.cluster h' k' q' o')

abbrev pub starting : Cluster → Ran
starting c = record { answer = Ok tt; met = 0; taken = 0; cluster = c }

pub mid_start : (c : Cluster) (es : List Event) (h k q o : List ℕ) → Good c.sizes c.depth (site_of c h k q o) → Midway c es es h k q o (starting c) h k q o
mid_start c es h k q o g = record { code = refl; met = omega arith; few = omega arith; taken = omega arith; sizes = refl; depth = refl; site = refl; rules = refl; good = g }

-- what the next event asks
pub mid-good : (c : Cluster) (all rest : List Event) (h k q o : List ℕ) (t : Ran) (h' k' q' o' : List ℕ) → Midway c all rest h k q o t h' k' q' o'
    → Good t.cluster.sizes t.cluster.depth (site_of t.cluster h' k' q' o')
mid-good c all rest h k q o t h' k' q' o' m = rw (m.sizes, m.depth) m.good

at_most_one : (b : Bool) → pick {A = ℕ} b 1 0 ≤ 1
unfolding pick
at_most_one true = omega arith
at_most_one false = omega arith

-- an event, said of the cluster at the beginning
abbrev pub Onward : Sizes → ℕ → Ran → Event → List ℕ → List ℕ → List ℕ → List ℕ → Ran → List ℕ → List ℕ → List ℕ → List ℕ → Type 0
Onward z depth t e h k q o r h' k' q' o' =
    (r.taken ≡ t.taken + pick (is_done (event z depth (cluster_of z depth (site_of t.cluster h k q o)) e)) 1 0)
    × ((site_of r.cluster h' k' q' o' ≡ (event_of z depth (site_of t.cluster h k q o) e).site)
    × ((cluster_of z depth (site_of r.cluster h' k' q' o') ≡ after (event z depth (cluster_of z depth (site_of t.cluster h k q o)) e))
    × Good z depth (site_of r.cluster h' k' q' o')))

onward : (z : Sizes) (depth : ℕ) (t : Ran) (e : Event) (h k q o : List ℕ) (r : Ran) (h' k' q' o' : List ℕ) → t.cluster.sizes ≡ z → t.cluster.depth ≡ depth
    → On t e h k q o r h' k' q' o' → Onward z depth t e h k q o r h' k' q' o'
onward z depth t e h k q o r h' k' q' o' a b x =
    subst (λ (y : ℕ). Onward z y t e h k q o r h' k' q' o') b
    (subst (λ (y : Sizes). Onward y t.cluster.depth t e h k q o r h' k' q' o') a
    (x.taken, (x.site, (x.rules, x.good))))

pub mid-on : (c : Cluster) (all rest : List Event) (e : Event) (h k q o : List ℕ) (t : Ran) (h' k' q' o' : List ℕ) (r : Ran) (h'' k'' q'' o'' : List ℕ)
    → Midway c all (e ∷ rest) h k q o t h' k' q' o' → On t e h' k' q' o' r h'' k'' q'' o'' → Midway c all rest h k q o r h'' k'' q'' o''
unfolding tally played play
mid-on c all rest e h k q o t h' k' q' o' r h'' k'' q'' o'' m x =
    let y = onward c.sizes c.depth t e h' k' q' o' r h'' k'' q'' o'' m.sizes m.depth x in
    let one = at_most_one (is_done (event c.sizes c.depth (cluster_of c.sizes c.depth (site_of t.cluster h' k' q' o')) e)) in
    let met = x.met in
    let few = m.few in
    let sum = m.met in
    let took = y.0 in
    let all-taken = m.taken in
    record {
      code = x.code;
      met = omega arith;
      few = omega arith;
      taken = rw y.1.1.0 (omega arith);
      sizes = x.sizes ∙ m.sizes;
      depth = x.depth ∙ m.depth;
      site = ap (λ (w : Site). played c.sizes c.depth w rest) y.1.0 ∙ m.site;
      rules = ap (λ (w : Servers). play c.sizes c.depth w rest) y.1.1.0 ∙ m.rules;
      good = y.1.1.1;
    }

pub mid-end : (c : Cluster) (all : List Event) (h k q o : List ℕ) (t : Ran) (h' k' q' o' : List ℕ) → Midway c all [] h k q o t h' k' q' o' → Does c all h k q o t h' k' q' o'
unfolding tally played play
mid-end c all h k q o t h' k' q' o' m =
    let met = m.met in
    let took = m.taken in
    record { code = m.code; met = omega arith; taken = omega arith; sizes = m.sizes; depth = m.depth; site = m.site; rules = m.rules; good = m.good }

-- ---- events from words

pub length-events : (z : Sizes) (es : List ℕ) (j n : ℕ) → length (events_from z es j n) ≡ n
unfolding events_from
length-events z es j zero = refl
length-events z es j (suc n) = ap suc (length-events z es (suc j) n)

abbrev pub Reading : Cluster → List ℕ → ℕ → ℕ → List ℕ → List ℕ → List ℕ → List ℕ → Ran → List ℕ → List ℕ → List ℕ → List ℕ → Type 0
Reading c es n j h k q o t h' k' q' o' = Midway c (events_from c.sizes es 0 n) (events_from c.sizes es j (n - j)) h k q o t h' k' q' o'

pub read-start : (c : Cluster) (es : List ℕ) (n : ℕ) (h k q o : List ℕ) → Good c.sizes c.depth (site_of c h k q o) → Reading c es n 0 h k q o (starting c) h k q o
read-start c es n h k q o g =
    let b : n ≡ n - 0 = omega arith in
    subst (λ (i : ℕ). Midway c (events_from c.sizes es 0 n) (events_from c.sizes es 0 i) h k q o (starting c) h k q o) b (mid_start c (events_from c.sizes es 0 n) h k q o g)

pub read-met : (c : Cluster) (es : List ℕ) (n j : ℕ) (h k q o : List ℕ) (t : Ran) (h' k' q' o' : List ℕ) → Reading c es n j h k q o t h' k' q' o' → j ≤ n → t.met ≡ j
read-met c es n j h k q o t h' k' q' o' m l =
    let met = m.met in
    omega (arith, length-events c.sizes es 0 n, length-events c.sizes es j (n - j))

pub read-on : (c : Cluster) (es : List ℕ) (n j : ℕ) (e : Happening) (h k q o : List ℕ) (t : Ran) (h' k' q' o' : List ℕ) (r : Ran) (h'' k'' q'' o'' : List ℕ)
    → Reading c es n j h k q o t h' k' q' o' → j < n → ((z : Sizes) → meant z e ≡ event_at z es j) → On t (meant t.cluster.sizes e) h' k' q' o' r h'' k'' q'' o''
    → Reading c es n (j + 1) h k q o r h'' k'' q'' o''
unfolding events_from
read-on c es n j e h k q o t h' k' q' o' r h'' k'' q'' o'' m l s x =
    let b : n - j ≡ suc (n - (j + 1)) = omega arith in
    let f : events_from c.sizes es j (n - j) ≡ event_at c.sizes es j ∷ events_from c.sizes es (j + 1) (n - (j + 1))
    = ap (events_from c.sizes es j) b ∙ ap (λ (i : ℕ). event_at c.sizes es j ∷ events_from c.sizes es i (n - (j + 1))) (sym (add-one j)) in
    let p : meant t.cluster.sizes e ≡ event_at c.sizes es j = s t.cluster.sizes ∙ ap (λ (z : Sizes). event_at z es j) m.sizes in
    mid-on c (events_from c.sizes es 0 n) (events_from c.sizes es (j + 1) (n - (j + 1))) (event_at c.sizes es j) h k q o t h' k' q' o' r h'' k'' q'' o''
    (subst (λ (rest : List Event). Midway c (events_from c.sizes es 0 n) rest h k q o t h' k' q' o') f m)
    (subst (λ (y : Event). On t y h' k' q' o' r h'' k'' q'' o'') p x)

pub read-end : (c : Cluster) (es : List ℕ) (n j : ℕ) (h k q o : List ℕ) (t : Ran) (h' k' q' o' : List ℕ) → Reading c es n j h k q o t h' k' q' o' → n ≤ j
    → Does c (events_from c.sizes es 0 n) h k q o t h' k' q' o'
unfolding events_from
read-end c es n j h k q o t h' k' q' o' m l =
    let b : n - j ≡ 0 = omega arith in
    mid-end c (events_from c.sizes es 0 n) h k q o t h' k' q' o'
    (subst (λ (i : ℕ). Midway c (events_from c.sizes es 0 n) (events_from c.sizes es j i) h k q o t h' k' q' o') b m)

-- ---- the lowest channel

abbrev pub Lowest : Rings → ℕ → ℕ → Type 0
Lowest r n j = lowest_ring r j (n - j) ≡ lowest_ring r 0 n

pub low-start : (r : Rings) (n : ℕ) → Lowest r n 0
low-start r n = let b : n - 0 ≡ n = omega arith in ap (lowest_ring r 0) b

low_step : (r : Rings) (n j : ℕ) → j < n → lowest_ring r j (n - j) ≡ pick (leb 1 (count r j)) j (lowest_ring r (j + 1) (n - (j + 1)))
unfolding lowest_ring
low_step r n j l =
    let b : n - j ≡ suc (n - (j + 1)) = omega arith in
    ap (lowest_ring r j) b ∙ ap (λ (i : ℕ). pick (leb 1 (count r j)) j (lowest_ring r i (n - (j + 1)))) (sym (add-one j))

pub low-on : (r : Rings) (n j : ℕ) → Lowest r n j → j < n → count r j < 1 → Lowest r n (j + 1)
unfolding pick
low-on r n j m l h = sym (low_step r n j l ∙ rw (lt-leb 1 (count r j) h)) ∙ m

pub low-found : (r : Rings) (n j : ℕ) → Lowest r n j → j < n → 1 ≤ count r j → j ≡ lowest_ring r 0 n
unfolding pick
low-found r n j m l h = sym (low_step r n j l ∙ rw (le-leb 1 (count r j) h)) ∙ m

pub low_end : (r : Rings) (n j : ℕ) → Lowest r n j → n ≤ j → j ≡ lowest_ring r 0 n
unfolding lowest_ring
low_end r n j m l = let b : n - j ≡ 0 = omega arith in sym (ap (lowest_ring r j) b) ∙ m

low-upto : (r : Rings) (n j : ℕ) → j ≤ n → ((k : ℕ) → k < j → count r k < 1) → Lowest r n j
low-upto r n zero l f = low-start r n
low-upto r n (suc j) l f = rw (← add-one j) (low-on r n j (low-upto r n j (omega arith) (λ k h. f k (omega arith))) (omega arith) (f j (omega arith)))

-- what `position` tells of the first n counts
pub low-tells : (r : Rings) (n : ℕ) (i : Option ℕ) → n ≤ length r.counts
    → MatchOption i (AllWithin (λ k. k < 1) (take n r.counts) 0 (length (take n r.counts)))
    (λ j. (j < length (take n r.counts)) × HoldsAt (λ k. 1 ≤ k) (take n r.counts) j × AllWithin (λ k. k < 1) (take n r.counts) 0 j)
    → (unwrap_or i n ≡ lowest_ring r 0 n) × (unwrap_or i n ≤ n)
low-tells r n None l m =
    let e = length-take-le n r.counts l in
    (low_end r n n (low-upto r n n (omega arith) (λ k h. rw (get_or-take n r.counts k 0 h) at (m k 0 (omega arith) (omega arith)))) (omega arith), omega arith)
low-tells r n (Some j) l m =
    let e = length-take-le n r.counts l in
    let h : j < n = omega (arith, m.0) in
    (low-found r n j (low-upto r n j (omega arith) (λ k b. rw (get_or-take n r.counts k 0 (omega arith)) at (m.2 k 0 (omega arith) b))) h (rw (get_or-take n r.counts j 0 h) at (m.1 0)), omega arith)

-- the channel numbered j lies between two servers
pub channel-in : (z : Sizes) (j : ℕ) → 1 ≤ z.n → j < z.n * z.n → Chan z (j / z.n) (j % z.n)
channel-in z j some l = record { sender = (div-lt_iff_lt-mul some).1 l; receiver = mod-lt j some }

-- words and rules find the same one
low_same : (z : Sizes) (depth : ℕ) (w : Site) → 1 ≤ z.n → (j k : ℕ) → j + k ≡ z.n * z.n → lowest z (cluster_of z depth w) j k ≡ lowest_ring w.rings j k
unfolding lowest lowest_ring cluster_of
low_same z depth w some j zero e = refl
low_same z depth w some j (suc k) e =
    let a : length (chans z depth w.rings w.queue (j / z.n) (j % z.n)) ≡ count w.rings j
    = chan-count z depth w.rings w.queue (j / z.n) (j % z.n) (channel-in z j some (omega arith)) ∙ ap (count w.rings) (div-add-mod j z.n) in
    ap (λ (i : ℕ). pick (leb 1 i) j (lowest z (cluster_of z depth w) (suc j) k)) a
    ∙ ap (λ (i : ℕ). pick (leb 1 (count w.rings j)) j i) (low_same z depth w some (suc j) k (omega arith))

pub low-is : (z : Sizes) (depth : ℕ) (w : Site) → Good z depth w → lowest z (cluster_of z depth w) 0 (z.n * z.n) ≡ lowest_ring w.rings 0 (z.n * z.n)
low-is z depth w g = let s = (sized z g.sizes).three in low_same z depth w (omega arith) 0 (z.n * z.n) (omega arith)

-- ---- settling

-- what settling does next
pub ease-more : (z : Sizes) (depth b j : ℕ) (c : Servers) → j ≡ lowest z c 0 (z.n * z.n) → j < z.n * z.n → easings z depth (suc b) c ≡ channel_at z j ∷ easings z depth b (after (event z depth c (channel_at z j)))
unfolding easings pick
ease-more z depth b j c e l =
    rw (← e, lt-ltb j (z.n * z.n) l)

pub ease-none : (z : Sizes) (depth b j : ℕ) (c : Servers) → j ≡ lowest z c 0 (z.n * z.n) → z.n * z.n ≤ j → easings z depth b c ≡ []
unfolding easings pick
ease-none z depth zero j c e l = refl
ease-none z depth (suc b) j c e l =
    rw (← e, le-ltb j (z.n * z.n) l)

abbrev pub Easing : Cluster → ℕ → List ℕ → List ℕ → List ℕ → List ℕ → Ran → List ℕ → List ℕ → List ℕ → List ℕ → Type 0
Easing c budget h k q o t h' k' q' o' =
    Midway c (easings c.sizes c.depth budget (cluster_of c.sizes c.depth (site_of c h k q o)))
    (easings c.sizes c.depth (budget - t.met) (cluster_of c.sizes c.depth (site_of t.cluster h' k' q' o'))) h k q o t h' k' q' o'

pub ease-start : (c : Cluster) (budget : ℕ) (h k q o : List ℕ) → Good c.sizes c.depth (site_of c h k q o) → Easing c budget h k q o (starting c) h k q o
ease-start c budget h k q o g =
    let C = cluster_of c.sizes c.depth (site_of c h k q o) in
    let b : budget ≡ budget - 0 = omega arith in
    subst (λ (i : ℕ). Midway c (easings c.sizes c.depth budget C) (easings c.sizes c.depth i C) h k q o (starting c) h k q o) b
    (mid_start c (easings c.sizes c.depth budget C) h k q o g)

pub ease-on : (c : Cluster) (budget j : ℕ) (h k q o : List ℕ) (t : Ran) (h' k' q' o' : List ℕ) (r : Ran) (h'' k'' q'' o'' : List ℕ)
    → Easing c budget h k q o t h' k' q' o' → t.met < budget → j ≡ lowest_ring t.cluster.rings 0 (c.sizes.n * c.sizes.n) → j < c.sizes.n * c.sizes.n
    → On t (channel_at c.sizes j) h' k' q' o' r h'' k'' q'' o'' → Easing c budget h k q o r h'' k'' q'' o''
ease-on c budget j h k q o t h' k' q' o' r h'' k'' q'' o'' m l e f x =
    let z = c.sizes in
    let depth = c.depth in
    let all = easings c.sizes c.depth budget (cluster_of c.sizes c.depth (site_of c h k q o)) in
    let C = cluster_of c.sizes c.depth (site_of t.cluster h' k' q' o') in
    let met = x.met in
    let b : budget - t.met ≡ suc (budget - r.met) = omega arith in
    let low : j ≡ lowest c.sizes (cluster_of c.sizes c.depth (site_of t.cluster h' k' q' o')) 0 (c.sizes.n * c.sizes.n) = e ∙ sym (low-is z depth (site_of t.cluster h' k' q' o') m.good) in
    let y = onward z depth t (channel_at z j) h' k' q' o' r h'' k'' q'' o'' m.sizes m.depth x in
    let rest : easings c.sizes c.depth (budget - t.met) (cluster_of c.sizes c.depth (site_of t.cluster h' k' q' o'))
    ≡ channel_at c.sizes j ∷ easings c.sizes c.depth (budget - r.met) (cluster_of c.sizes c.depth (site_of r.cluster h'' k'' q'' o''))
    = ap (λ (i : ℕ). easings z depth i C) b ∙ ease-more z depth (budget - r.met) j C low f ∙ ap (λ (d : Servers). channel_at z j ∷ easings z depth (budget - r.met) d) (sym y.1.1.0) in
    mid-on c all (easings z depth (budget - r.met) (cluster_of z depth (site_of r.cluster h'' k'' q'' o''))) (channel_at z j) h k q o t h' k' q' o' r h'' k'' q'' o''
    (subst (λ (es : List Event). Midway c all es h k q o t h' k' q' o') rest m) x

-- the same, as the code names the event
pub ease-next : (c : Cluster) (budget j : ℕ) (y : Sizes) (h k q o : List ℕ) (t : Ran) (h' k' q' o' : List ℕ) (r : Ran) (h'' k'' q'' o'' : List ℕ)
    → Easing c budget h k q o t h' k' q' o' → t.met < budget → j ≡ lowest_ring t.cluster.rings 0 (c.sizes.n * c.sizes.n) → j < c.sizes.n * c.sizes.n
    → On t (meant y (happens.Deliver (j / c.sizes.n) (j % c.sizes.n))) h' k' q' o' r h'' k'' q'' o'' → Easing c budget h k q o r h'' k'' q'' o''
unfolding meant
ease-next c budget j y h k q o t h' k' q' o' r h'' k'' q'' o'' m l e f x = ease-on c budget j h k q o t h' k' q' o' r h'' k'' q'' o'' m l e f x

pub ease-stop : (c : Cluster) (budget j : ℕ) (h k q o : List ℕ) (t : Ran) (h' k' q' o' : List ℕ) → Easing c budget h k q o t h' k' q' o'
    → j ≡ lowest_ring t.cluster.rings 0 (c.sizes.n * c.sizes.n) → c.sizes.n * c.sizes.n ≤ j
    → Does c (easings c.sizes c.depth budget (cluster_of c.sizes c.depth (site_of c h k q o))) h k q o t h' k' q' o'
ease-stop c budget j h k q o t h' k' q' o' m e f =
    let all = easings c.sizes c.depth budget (cluster_of c.sizes c.depth (site_of c h k q o)) in
    let rest = ease-none c.sizes c.depth (budget - t.met) j (cluster_of c.sizes c.depth (site_of t.cluster h' k' q' o')) (e ∙ sym (low-is c.sizes c.depth (site_of t.cluster h' k' q' o') m.good)) f in
    mid-end c all h k q o t h' k' q' o' (subst (λ (es : List Event). Midway c all es h k q o t h' k' q' o') rest m)

ease-zero : (z : Sizes) (depth b : ℕ) (c : Servers) → b ≡ 0 → easings z depth b c ≡ []
unfolding easings
ease-zero z depth b c e = ap (λ (i : ℕ). easings z depth i c) e

pub ease-end : (c : Cluster) (budget : ℕ) (h k q o : List ℕ) (t : Ran) (h' k' q' o' : List ℕ) → Easing c budget h k q o t h' k' q' o' → budget ≤ t.met
    → Does c (easings c.sizes c.depth budget (cluster_of c.sizes c.depth (site_of c h k q o))) h k q o t h' k' q' o'
ease-end c budget h k q o t h' k' q' o' m l =
    let all = easings c.sizes c.depth budget (cluster_of c.sizes c.depth (site_of c h k q o)) in
    let rest = ease-zero c.sizes c.depth (budget - t.met) (cluster_of c.sizes c.depth (site_of t.cluster h' k' q' o')) (omega arith) in
    mid-end c all h k q o t h' k' q' o' (subst (λ (es : List Event). Midway c all es h k q o t h' k' q' o') rest m)

-- ---- any input

pub runs-refused : (c : Cluster) (ok : Bool) (es : List Event) (h k q o : List ℕ) (t : Ran) → ok ≡ false → t ≡ refused_of c → Runs c ok es h k q o t h k q o
unfolding pick
runs-refused c ok es h k q o t n e =
    rw (n, e) record { code = refl; met = refl; taken = refl; sizes = refl; depth = refl; site = refl; rules = λ y. clash y refl; good = λ y. clash y refl }

pub runs-do : (c : Cluster) (ok : Bool) (es : List Event) (h k q o : List ℕ) (t : Ran) (h' k' q' o' : List ℕ) → ok ≡ true → Does c es h k q o t h' k' q' o' → Runs c ok es h k q o t h' k' q' o'
unfolding pick
runs-do c ok es h k q o t h' k' q' o' y d =
    rw y record { code = d.code; met = d.met; taken = d.taken; sizes = d.sizes; depth = d.depth; site = d.site; rules = λ _. d.rules; good = λ _. good-shown c.sizes c.depth _ d.good }

-- settling, where b told whether it is well formed
pub settle-refused : (c : Cluster) (es : List Event) (h k q o : List ℕ) (b : Bool) (t : Ran) → b ≡ good_site c.sizes c.depth (site_of c h k q o) → b ≡ false → t ≡ refused_of c
    → Runs c (good_site c.sizes c.depth (site_of c h k q o)) es h k q o t h k q o
settle-refused c es h k q o b t e n r = runs-refused c (good_site c.sizes c.depth (site_of c h k q o)) es h k q o t (sym e ∙ n) r

pub settle-does : (c : Cluster) (es : List Event) (h k q o : List ℕ) (b : Bool) (t : Ran) (h' k' q' o' : List ℕ) → b ≡ good_site c.sizes c.depth (site_of c h k q o) → b ≡ true
    → Does c es h k q o t h' k' q' o' → Runs c (good_site c.sizes c.depth (site_of c h k q o)) es h k q o t h' k' q' o'
settle-does c es h k q o b t h' k' q' o' e y d = runs-do c (good_site c.sizes c.depth (site_of c h k q o)) es h k q o t h' k' q' o' (sym e ∙ y) d

-- a run

pub run-unsound : (z : Sizes) (depth : ℕ) (w : Site) (es : List ℕ) (b : Bool) → b ≡ good_site z depth w → b ≡ false → good_run z depth w es ≡ false
unfolding good_run both
run-unsound z depth w es b e f = rw (← e, f)

pub run-uneven : (z : Sizes) (depth : ℕ) (w : Site) (es : List ℕ) → length es % 3 ≢ 0 → good_run z depth w es ≡ false
unfolding good_run
run-uneven z depth w es n = both-no (good_site z depth w) (eqb (length es % 3) 0) (ne_eqb (length es % 3) 0 n)

pub run_sound : (z : Sizes) (depth : ℕ) (w : Site) (es : List ℕ) (b : Bool) → b ≡ good_site z depth w → b ≡ true → length es % 3 ≡ 0 → good_run z depth w es ≡ true
unfolding good_run
run_sound z depth w es b e f n = both_yes (good_site z depth w) (eqb (length es % 3) 0) (sym e ∙ f) (eq-eqb (length es % 3) 0 n)

pub within_all : (budget n : ℕ) → n ≤ budget → n ≡ within budget n
unfolding within pick
within_all budget n l = rw (le-leb n budget l)

pub within-budget : (budget n : ℕ) → budget < n → budget ≡ within budget n
unfolding within pick
within-budget budget n l = rw (lt-leb n budget l)

-- as many events as n, of those that the words hold
pub run-does : (c : Cluster) (ok : Bool) (es : List ℕ) (budget n : ℕ) (h k q o : List ℕ) (t : Ran) (h' k' q' o' : List ℕ) → ok ≡ true → n ≡ within budget (length es / 3)
    → Does c (events_from c.sizes es 0 n) h k q o t h' k' q' o' → Runs c ok (events_of c.sizes es budget) h k q o t h' k' q' o'
run-does c ok es budget n h k q o t h' k' q' o' y e d =
    runs-do c ok (events_of c.sizes es budget) h k q o t h' k' q' o' y (subst (λ (i : ℕ). Does c (events_from c.sizes es 0 i) h k q o t h' k' q' o') e d)

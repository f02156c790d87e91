-- The calm run of the code: naming, settling, a submission and settling again, one after the other.
use Rattle.base.specs.Refusals.{code_of, STATE}
use Prim.Native.Nat.{ℕ, ◌≤◌}
use mathlib.Core.Path.{◌≡◌, refl, sym, ap, ◌∙◌, subst}
use mathlib.Core.Bool.{Bool, true, false}
use mathlib.Core.List.{List}
use lib.ListN.{length}
use borrow.Author.Tests.{eqb-true}
use Rattle.base.specs.Choice.{pick, both}
use Rattle.base.specs.declared.Sizes.{Sizes}
use Rattle.base.proofs.Choice.{clash, both_true}
use Rattle.rules.proofs.WellFormed.{sized}
use Rattle.rules.specs.Server.{good_sizes}
use Rattle.rules.specs.Cluster.{Cluster as Servers, Event, S, event, after, play, is_done}
use Rattle.site.specs.Site.{Site, site_of, cluster_of, good_site}
use Rattle.site.specs.declared.Cluster.{Cluster}
use Rattle.site.specs.declared.Told.{Told}
use Rattle.site.proofs.Goods.{fit-facts}
use Rattle.turn.proofs.Outcomes.{outcome-done, outcome-after}
use Rattle.turn.specs.Events.{meant, event_of, whole_event, outcome_of}
use Rattle.turn.specs.declared.Happening.TheVariants as happens
use Rattle.cluster.specs.Any.{Happens}
use Rattle.runs.specs.Runs.{events_of, played, tally, good_run, Runs}
use Rattle.runs.specs.declared.Ran.{Ran}
use Rattle.pledge.specs.Moves.{names, name_words, settling, renamed, regained, submission, finished, settles, turned, rested, begun, ended, Moves, Calms}
use Rattle.pledge.specs.declared.Calmed.{Calmed}
use Rattle.pledge.proofs.Named.{names-are}
use Rattle.pledge.proofs.Motion.{Motion, it-moves}

-- ---- each of the four, said of what is held

-- many events of what is well formed
pub record Gone (z : Sizes) (depth : ℕ) (w : Site) (es : List Event) (n : ℕ) (w' : Site) : Type 0 where
  pub taken : n ≡ tally z depth (cluster_of z depth w) es
  pub site : w' ≡ played z depth w es
  pub rules : cluster_of z depth w' ≡ play z depth (cluster_of z depth w) es
  pub good : good_site z depth w' ≡ true

-- and of anything
pub record Went (z : Sizes) (depth : ℕ) (w : Site) (es : List Event) (n : ℕ) (w' : Site) : Type 0 where
  pub yes : good_site z depth w ≡ true → Gone z depth w es n w'
  pub not : good_site z depth w ≡ false → (n ≡ 0) × (w' ≡ w)

-- an event of what is well formed
pub record Done (z : Sizes) (depth : ℕ) (w : Site) (e : Event) (k : ℕ) (w' : Site) : Type 0 where
  pub code : k ≡ (event_of z depth w e).code
  pub site : w' ≡ (event_of z depth w e).site
  pub rules : event z depth (cluster_of z depth w) e ≡ outcome_of z depth e w (record { code = k; site = w' })
  pub good : good_site z depth w' ≡ true

-- and of anything
pub record Did (z : Sizes) (depth : ℕ) (w : Site) (e : Event) (k : ℕ) (w' : Site) : Type 0 where
  pub yes : good_site z depth w ≡ true → Done z depth w e k w'
  pub not : good_site z depth w ≡ false → (k ≡ STATE) × (w' ≡ w)

-- what a run of events does
went : (c : Cluster) (b : Bool) (es : List Event) (h k q o : List ℕ) (t : Ran) (h' k' q' o' : List ℕ) → Runs c b es h k q o t h' k' q' o'
    → (b ≡ true → Gone c.sizes c.depth (site_of c h k q o) es t.taken (site_of t.cluster h' k' q' o'))
    × (b ≡ false → (t.taken ≡ 0) × (site_of t.cluster h' k' q' o' ≡ site_of c h k q o))
unfolding pick
went c b es h k q o t h' k' q' o' r = (
  λ e. record { taken = r.taken ∙ rw e; site = r.site ∙ rw e; rules = r.rules e; good = r.good e },
  λ e. (r.taken ∙ rw e, r.site ∙ rw e),
)

-- settling, of a cluster of sizes z and depth
pub settle-went : (z : Sizes) (depth : ℕ) (c : Cluster) (h k q o : List ℕ) (t : Ran) (h' k' q' o' : List ℕ) → c.sizes ≡ z → c.depth ≡ depth
    → Runs c (good_site c.sizes c.depth (site_of c h k q o)) (settling c.sizes c.depth (site_of c h k q o)) h k q o t h' k' q' o'
    → Went z depth (site_of c h k q o) (settling z depth (site_of c h k q o)) t.taken (site_of t.cluster h' k' q' o')
settle-went z depth c h k q o t h' k' q' o' a b r =
    let w = site_of c h k q o in
    let w' = site_of t.cluster h' k' q' o' in
    let g = went c (good_site c.sizes c.depth w) (settling c.sizes c.depth w) h k q o t h' k' q' o' r in
    subst (λ (y : ℕ). Went z y w (settling z y w) t.taken w') b
    (subst (λ (y : Sizes). Went y c.depth w (settling y c.depth w) t.taken w') a
    (record { yes = g.0; not = g.1 }))

-- the submission
pub submit-did : (z : Sizes) (depth : ℕ) (c : Cluster) (x v : ℕ) (h k q o : List ℕ) (t : Told) (h' k' q' o' : List ℕ) → c.sizes ≡ z → c.depth ≡ depth
    → Happens c (meant c.sizes (happens.Submit x v)) h k q o t h' k' q' o' → Did z depth (site_of c h k q o) (S x v) (code_of t.answer) (site_of t.cluster h' k' q' o')
unfolding meant whole_event pick
submit-did z depth c x v h k q o t h' k' q' o' a b r =
    let w = site_of c h k q o in
    let w' = site_of t.cluster h' k' q' o' in
    subst (λ (y : ℕ). Did z y w (S x v) (code_of t.answer) w') b
    (subst (λ (y : Sizes). Did y c.depth w (S x v) (code_of t.answer) w') a
    (record {
      yes = λ e. record { code = r.leaves.code ∙ rw e; site = r.leaves.site ∙ rw e; rules = r.rules e; good = r.good e };
      not = λ e. (r.leaves.code ∙ rw e, r.leaves.site ∙ rw e);
    }))

-- sizes and depth of what is well formed
facts : (z : Sizes) (depth : ℕ) (w : Site) → good_site z depth w ≡ true → (good_sizes z ≡ true) × (2 ≤ depth)
unfolding good_site
facts z depth w e =
    let f = fit-facts z depth (length w.hists) (length w.cands) (length w.queue) (length w.box) (both_true _ _ e).0 in
    (f.sizes, f.lower)

-- the naming, from its words
pub naming-went : (c : Cluster) (x : ℕ) (ws h k q o : List ℕ) (t : Ran) (h' k' q' o' : List ℕ) → ws ≡ name_words x
    → Runs c (good_run c.sizes c.depth (site_of c h k q o) ws) (events_of c.sizes ws c.sizes.n) h k q o t h' k' q' o'
    → Went c.sizes c.depth (site_of c h k q o) (names c.sizes x) t.taken (site_of t.cluster h' k' q' o')
unfolding good_run both
naming-went c x ws h k q o t h' k' q' o' p r =
    let z = c.sizes in
    let w = site_of c h k q o in
    let w' = site_of t.cluster h' k' q' o' in
    let s : Runs c (good_run c.sizes c.depth (site_of c h k q o) (name_words x)) (events_of c.sizes (name_words x) c.sizes.n) h k q o t h' k' q' o'
    = subst (λ (y : List ℕ). Runs c (good_run c.sizes c.depth (site_of c h k q o) y) (events_of c.sizes y c.sizes.n) h k q o t h' k' q' o') p r in
    let g = went c _ _ h k q o t h' k' q' o' s in
    record {
      yes = λ e.
          let f = sized z (facts z c.depth w e).0 in
          subst (λ (es : List Event). Gone z c.depth w es t.taken w') (names-are z x f.three f.seven) (g.0 (rw e));
      not = λ e. g.1 (rw e);
    }

-- ---- the four together

module _ (z : Sizes) (depth : ℕ) (w w₁ w₂ w₃ w₄ : Site) (x v : ℕ) (t : Calmed) where
  calm-refused : t.cluster.sizes ≡ z → t.cluster.depth ≡ depth → good_site z depth w ≡ false
      → Went z depth w (names z x) t.named w₁ → Went z depth w₁ (settling z depth w₁) t.first w₂
      → Did z depth w₂ (S x v) (code_of t.answer) w₃ → Went z depth w₃ (settling z depth w₃) t.second w₄ → Calms z depth w x v t w₄
  unfolding pick
  calm-refused s d e a b f g =
      let a' = a.not e in
      let e₁ : good_site z depth w₁ ≡ false = ap (good_site z depth) a'.1 ∙ e in
      let b' = b.not e₁ in
      let e₂ : good_site z depth w₂ ≡ false = ap (good_site z depth) b'.1 ∙ e₁ in
      let f' = f.not e₂ in
      let e₃ : good_site z depth w₃ ≡ false = ap (good_site z depth) f'.1 ∙ e₂ in
      let g' = g.not e₃ in
      record {
        code = f'.0 ∙ rw e refl;
        named = a'.0 ∙ rw e refl;
        first = b'.0 ∙ rw e refl;
        second = g'.0 ∙ rw e refl;
        sizes = s;
        deep = d;
        site = g'.1 ∙ f'.1 ∙ b'.1 ∙ a'.1 ∙ rw e refl;
        good = λ y. clash y e;
        halfway = λ y. clash y e;
        rules = λ y. clash y e;
        moves = λ y. clash y e;
      }

  module _ (a : Gone z depth w (names z x) t.named w₁) (b : Gone z depth w₁ (settling z depth w₁) t.first w₂)
      (f : Done z depth w₂ (S x v) (code_of t.answer) w₃) (g : Gone z depth w₃ (settling z depth w₃) t.second w₄) where
    is-renamed : w₁ ≡ renamed z depth w x
    unfolding renamed
    is-renamed = a.site

    is-regained : w₂ ≡ regained z depth w x
    unfolding regained
    is-regained = b.site ∙ ap (λ (y : Site). played z depth y (settling z depth y)) is-renamed

    is-submitted : w₃ ≡ (submission z depth w x v).site
    unfolding submission
    is-submitted = f.site ∙ ap (λ (y : Site). (event_of z depth y (S x v)).site) is-regained

    told-code : (code_of t.answer) ≡ (submission z depth w x v).code
    unfolding submission
    told-code = f.code ∙ ap (λ (y : Site). (event_of z depth y (S x v)).code) is-regained

    is-finished : w₄ ≡ finished z depth w x v
    unfolding finished
    is-finished = g.site ∙ ap (λ (y : Site). played z depth y (settling z depth y)) is-submitted

    -- the rules' clusters on the way
    to_turned : cluster_of z depth w₁ ≡ turned z depth x (cluster_of z depth w)
    to_turned = a.rules

    to-rested : cluster_of z depth w₂ ≡ rested z depth x (cluster_of z depth w)
    to-rested = b.rules ∙ ap (λ (c : Servers). play z depth c (settles z depth c)) to_turned

    to-begun : cluster_of z depth w₃ ≡ begun z depth x v (cluster_of z depth w)
    to-begun = sym (ap after f.rules ∙ outcome-after z depth (S x v) w₂ (record { code = (code_of t.answer); site = w₃ })) ∙ ap (λ (c : Servers). after (event z depth c (S x v))) to-rested

    to-ended : cluster_of z depth w₄ ≡ ended z depth x v (cluster_of z depth w)
    to-ended = g.rules ∙ ap (λ (c : Servers). play z depth c (settles z depth c)) to-begun

    taken-zero : is_done (event z depth (rested z depth x (cluster_of z depth w)) (S x v)) ≡ true → (code_of t.answer) ≡ 0
    taken-zero e =
        let p : is_done (event z depth (cluster_of z depth w₂) (S x v)) ≡ true = ap (λ (c : Servers). is_done (event z depth c (S x v))) to-rested ∙ e in
        eqb-true (code_of t.answer) 0 (sym (ap is_done f.rules ∙ outcome-done z depth (S x v) w₂ (record { code = (code_of t.answer); site = w₃ })) ∙ p)

    moved : Motion z depth x v (cluster_of z depth w) → Moves z x v (cluster_of z depth w) (rested z depth x (cluster_of z depth w)) (ended z depth x v (cluster_of z depth w)) t
    moved m = record {
      named = a.taken ∙ m.named;
      first = b.taken ∙ ap (λ (c : Servers). tally z depth c (settles z depth c)) to_turned ∙ m.first;
      recovered = m.recovered;
      submitted = λ r. taken-zero (m.submitted r);
      second = λ r. g.taken ∙ ap (λ (c : Servers). tally z depth c (settles z depth c)) to-begun ∙ m.second r;
      delivered = m.delivered;
    }

    moves-on : Motion z depth x v (cluster_of z depth w) → Moves z x v (cluster_of z depth w) (cluster_of z depth (regained z depth w x)) (cluster_of z depth w₄) t
    moves-on m =
        subst (λ (c : Servers). Moves z x v (cluster_of z depth w) c (cluster_of z depth w₄) t) (sym to-rested ∙ ap (cluster_of z depth) is-regained)
        (subst (λ (c : Servers). Moves z x v (cluster_of z depth w) (rested z depth x (cluster_of z depth w)) c t) (sym to-ended) (moved m))

    calm-moves : t.cluster.sizes ≡ z → t.cluster.depth ≡ depth → good_site z depth w ≡ true → Calms z depth w x v t w₄
    unfolding pick
    calm-moves s d e = record {
      code = told-code ∙ rw e refl;
      named = a.taken ∙ rw e refl;
      first = b.taken ∙ ap (λ (y : Site). tally z depth (cluster_of z depth y) (settling z depth y)) is-renamed ∙ rw e refl;
      second = g.taken ∙ ap (λ (y : Site). tally z depth (cluster_of z depth y) (settling z depth y)) is-submitted ∙ rw e refl;
      sizes = s;
      deep = d;
      site = is-finished ∙ rw e refl;
      good = λ _. g.good;
      halfway = λ _. ap (cluster_of z depth) (sym is-regained) ∙ to-rested;
      rules = λ _. to-ended;
      moves = λ y before p l. let k = facts z depth w y in moves-on (it-moves z k.0 depth k.1 before x v (cluster_of z depth w) p l);
    }

  calm-went : t.cluster.sizes ≡ z → t.cluster.depth ≡ depth → Went z depth w (names z x) t.named w₁ → Went z depth w₁ (settling z depth w₁) t.first w₂
      → Did z depth w₂ (S x v) (code_of t.answer) w₃ → Went z depth w₃ (settling z depth w₃) t.second w₄ → Calms z depth w x v t w₄
  calm-went s d a b f g = go (good_site z depth w) refl
    where
      go : (ok : Bool) → good_site z depth w ≡ ok → Calms z depth w x v t w₄
      go true e =
          let a' = a.yes e in
          let b' = b.yes a'.good in
          let f' = f.yes b'.good in
          calm-moves a' b' f' (g.yes f'.good) s d e
      go false e = calm-refused s d e a b f g

-- the function's end
pub calm-does : (c : Cluster) (x v : ℕ) (ws h k q o : List ℕ) (a : Ran) (h₁ k₁ q₁ o₁ : List ℕ) (b : Ran) (h₂ k₂ q₂ o₂ : List ℕ) (s : Told) (h₃ k₃ q₃ o₃ : List ℕ) (d : Ran) (h₄ k₄ q₄ o₄ : List ℕ)
    → ws ≡ name_words x
    → Runs c (good_run c.sizes c.depth (site_of c h k q o) ws) (events_of c.sizes ws c.sizes.n) h k q o a h₁ k₁ q₁ o₁
    → Runs a.cluster (good_site a.cluster.sizes a.cluster.depth (site_of a.cluster h₁ k₁ q₁ o₁)) (settling a.cluster.sizes a.cluster.depth (site_of a.cluster h₁ k₁ q₁ o₁)) h₁ k₁ q₁ o₁ b h₂ k₂ q₂ o₂
    → Happens b.cluster (meant b.cluster.sizes (happens.Submit x v)) h₂ k₂ q₂ o₂ s h₃ k₃ q₃ o₃
    → Runs s.cluster (good_site s.cluster.sizes s.cluster.depth (site_of s.cluster h₃ k₃ q₃ o₃)) (settling s.cluster.sizes s.cluster.depth (site_of s.cluster h₃ k₃ q₃ o₃)) h₃ k₃ q₃ o₃ d h₄ k₄ q₄ o₄
    → Calms c.sizes c.depth (site_of c h k q o) x v (record { answer = s.answer; named = a.taken; first = b.taken; second = d.taken; cluster = d.cluster }) (site_of d.cluster h₄ k₄ q₄ o₄)
calm-does c x v ws h k q o a h₁ k₁ q₁ o₁ b h₂ k₂ q₂ o₂ s h₃ k₃ q₃ o₃ d h₄ k₄ q₄ o₄ p ra rb rs rd =
    let z = c.sizes in
    let depth = c.depth in
    let bz = rb.sizes ∙ ra.sizes in
    let bd = rb.depth ∙ ra.depth in
    let sz = rs.leaves.sizes ∙ bz in
    let sd = rs.leaves.depth ∙ bd in
    calm-went z depth (site_of c h k q o) (site_of a.cluster h₁ k₁ q₁ o₁) (site_of b.cluster h₂ k₂ q₂ o₂) (site_of s.cluster h₃ k₃ q₃ o₃) (site_of d.cluster h₄ k₄ q₄ o₄) x v
    (record { answer = s.answer; named = a.taken; first = b.taken; second = d.taken; cluster = d.cluster })
    (rd.sizes ∙ sz) (rd.depth ∙ sd)
    (naming-went c x ws h k q o a h₁ k₁ q₁ o₁ p ra)
    (settle-went z depth a.cluster h₁ k₁ q₁ o₁ b h₂ k₂ q₂ o₂ ra.sizes ra.depth rb)
    (submit-did z depth b.cluster x v h₂ k₂ q₂ o₂ s h₃ k₃ q₃ o₃ bz bd rs)
    (settle-went z depth s.cluster h₃ k₃ q₃ o₃ d h₄ k₄ q₄ o₄ sz sd rd)

-- Two answers that meet a promise of these functions are equal, and so is every word.
use Rattle.base.proofs.Refusals.{code-one}
use Prim.Native.Nat.{ℕ}
use mathlib.Core.Path.{◌≡◌, sym, ◌∙◌}
use mathlib.Core.List.{List}
use Rattle.base.specs.declared.Sizes.{Sizes}
use Rattle.site.specs.Site.{Site, site_of}
use Rattle.runs.specs.declared.Ran.{Ran}
use Rattle.site.proofs.Alike.{same-cluster, same-words}
use Rattle.pledge.specs.Ledger.{Pledged}
use Rattle.pledge.specs.Moves.{Calms}
use Rattle.pledge.specs.declared.Calmed.{Calmed}

pub one-pledge : (z : Sizes) (depth budget : ℕ) (es h k q o : List ℕ) (t u : Ran) (h' k' q' o' h'' k'' q'' o'' : List ℕ) → Pledged z depth budget es h k q o t h' k' q' o' → Pledged z depth budget es h k q o u h'' k'' q'' o''
    → (t ≡ u) × ((h' ≡ h'') × (k' ≡ k'') × (q' ≡ q'') × (o' ≡ o''))
one-pledge z depth budget es h k q o t u h' k' q' o' h'' k'' q'' o'' a b =
    let d = same-cluster t.cluster u.cluster h' k' q' o' h'' k'' q'' o'' (a.sizes ∙ sym b.sizes) (a.deep ∙ sym b.deep) (a.site ∙ sym b.site) in (
      (λ j. record { answer = code-one _ _ (a.code ∙ sym b.code) j; met = (a.met ∙ sym b.met) j; taken = (a.taken ∙ sym b.taken) j; cluster = d j }),
      same-words t.cluster u.cluster h' k' q' o' h'' k'' q'' o'' (a.sizes ∙ sym b.sizes) (a.deep ∙ sym b.deep) (a.site ∙ sym b.site),
    )

pub one-calm : (z : Sizes) (depth : ℕ) (w : Site) (x v : ℕ) (t u : Calmed) (h' k' q' o' h'' k'' q'' o'' : List ℕ) → Calms z depth w x v t (site_of t.cluster h' k' q' o') → Calms z depth w x v u (site_of u.cluster h'' k'' q'' o'')
    → (t ≡ u) × ((h' ≡ h'') × (k' ≡ k'') × (q' ≡ q'') × (o' ≡ o''))
one-calm z depth w x v t u h' k' q' o' h'' k'' q'' o'' a b =
    let d = same-cluster t.cluster u.cluster h' k' q' o' h'' k'' q'' o'' (a.sizes ∙ sym b.sizes) (a.deep ∙ sym b.deep) (a.site ∙ sym b.site) in (
      (λ j. record { answer = code-one _ _ (a.code ∙ sym b.code) j; named = (a.named ∙ sym b.named) j; first = (a.first ∙ sym b.first) j; second = (a.second ∙ sym b.second) j; cluster = d j }),
      same-words t.cluster u.cluster h' k' q' o' h'' k'' q'' o'' (a.sizes ∙ sym b.sizes) (a.deep ∙ sym b.deep) (a.site ∙ sym b.site),
    )

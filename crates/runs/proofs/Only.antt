-- Two answers that meet the promise of a run are equal, and so is every word.
use Rattle.base.proofs.Refusals.{code-one}
use Prim.Native.Nat.{ℕ}
use mathlib.Core.Path.{◌≡◌, sym, ◌∙◌}
use mathlib.Core.Bool.{Bool}
use mathlib.Core.List.{List}
use Rattle.rules.specs.Cluster.{Event}
use Rattle.runs.specs.Runs.{Runs}
use Rattle.site.proofs.Alike.{same-cluster, same-words}
use Rattle.site.specs.declared.Cluster.{Cluster}
use Rattle.runs.specs.declared.Ran.{Ran}

-- of `run` and of `settle`
pub one-run : (c : Cluster) (ok : Bool) (es : List Event) (h k q o : List ℕ) (t u : Ran) (h' k' q' o' h'' k'' q'' o'' : List ℕ) → Runs c ok es h k q o t h' k' q' o' → Runs c ok es h k q o u h'' k'' q'' o''
    → (t ≡ u) × ((h' ≡ h'') × (k' ≡ k'') × (q' ≡ q'') × (o' ≡ o''))
one-run c ok es h k q o t u h' k' q' o' h'' k'' q'' o'' a b =
    let d = same-cluster t.cluster u.cluster h' k' q' o' h'' k'' q'' o'' (a.sizes ∙ sym b.sizes) (a.depth ∙ sym b.depth) (a.site ∙ sym b.site) in (
      (λ j. record { answer = code-one _ _ (a.code ∙ sym b.code) j; met = (a.met ∙ sym b.met) j; taken = (a.taken ∙ sym b.taken) j; cluster = d j }),
      same-words t.cluster u.cluster h' k' q' o' h'' k'' q'' o'' (a.sizes ∙ sym b.sizes) (a.depth ∙ sym b.depth) (a.site ∙ sym b.site),
    )

-- Two answers that meet a promise of the cluster are equal, and so is every word.
use Rattle.base.proofs.Refusals.{code-one}
use Prim.Native.Nat.{ℕ}
use mathlib.Core.Path.{◌≡◌, sym, ◌∙◌}
use mathlib.Core.List.{List}
use Rattle.base.specs.declared.Sizes.{Sizes}
use Rattle.rules.specs.Cluster.{Event}
use Rattle.cluster.specs.Any.{Happens, Freshly}
use Rattle.turn.proofs.Only.{one_left}
use Rattle.site.specs.declared.Cluster.{Cluster}
use Rattle.site.specs.declared.Told.{Told}

pub one-event : (c : Cluster) (e : Event) (h k q o : List ℕ) (t u : Told) (h' k' q' o' h'' k'' q'' o'' : List ℕ) → Happens c e h k q o t h' k' q' o' → Happens c e h k q o u h'' k'' q'' o''
    → (t ≡ u) × ((h' ≡ h'') × (k' ≡ k'') × (q' ≡ q'') × (o' ≡ o''))
one-event c e h k q o t u h' k' q' o' h'' k'' q'' o'' x y = one_left c _ t u h' k' q' o' h'' k'' q'' o'' x.leaves y.leaves

pub one-fresh : (z : Sizes) (depth : ℕ) (h k q o : List ℕ) (t u : Told) (h' k' q' h'' k'' q'' : List ℕ) → Freshly z depth h k q o t h' k' q' → Freshly z depth h k q o u h'' k'' q''
    → (t ≡ u) × (h' ≡ h'') × (k' ≡ k'') × (q' ≡ q'')
one-fresh z depth h k q o t u h' k' q' h'' k'' q'' a b = (
  (λ j. record { answer = code-one _ _ (a.code ∙ sym b.code) j; cluster = (a.cluster ∙ sym b.cluster) j }),
  a.hists ∙ sym b.hists,
  a.cands ∙ sym b.cands,
  a.queue ∙ sym b.queue,
)

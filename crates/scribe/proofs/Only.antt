-- Two answers that meet the promise of a line are equal, and so is every word and byte.
use Prim.Native.Nat.{ℕ}
use mathlib.Core.Path.{◌≡◌, sym, ◌∙◌}
use mathlib.Core.List.{List}
use Rattle.rules.specs.Cluster.{Event}
use Rattle.site.specs.declared.Cluster.{Cluster}
use Rattle.site.proofs.Alike.{same-cluster, same-words}
use Rattle.scribe.specs.Telling.{Tells}
use Rattle.scribe.specs.declared.Said.{Said}

pub one-telling : (c : Cluster) (line : ℕ) (e : Event) (h k q o b : List ℕ) (r s : Said) (h' k' q' o' b' h'' k'' q'' o'' b'' : List ℕ) → Tells c line e h k q o b r h' k' q' o' b' → Tells c line e h k q o b s h'' k'' q'' o'' b''
    → (r ≡ s) × (b' ≡ b'') × ((h' ≡ h'') × (k' ≡ k'') × (q' ≡ q'') × (o' ≡ o''))
one-telling c line e h k q o b r s h' k' q' o' b' h'' k'' q'' o'' b'' x y =
    let p = x.wrote.ends ∙ sym y.wrote.ends in
    let d = same-cluster r.cluster s.cluster h' k' q' o' h'' k'' q'' o'' (x.sizes ∙ sym y.sizes) (x.depth ∙ sym y.depth) (x.site ∙ sym y.site) in (
      (λ j. record { end = p j; cluster = d j }),
      x.wrote.bytes ∙ sym y.wrote.bytes,
      same-words r.cluster s.cluster h' k' q' o' h'' k'' q'' o'' (x.sizes ∙ sym y.sizes) (x.depth ∙ sym y.depth) (x.site ∙ sym y.site),
    )

-- Two answers that meet the promise of an event are equal, and so is every word.
use Prim.Native.Nat.{ℕ}
use mathlib.Core.Path.{◌≡◌, sym, ◌∙◌}
use mathlib.Core.List.{List}
use Rattle.base.proofs.Refusals.{code-one}
use Rattle.rules.specs.Cluster.{Event}
use Rattle.site.specs.declared.Cluster.{Cluster}
use Rattle.site.specs.declared.Told.{Told}
use Rattle.site.proofs.Alike.{same-cluster, same-words}
use Rattle.turn.specs.Events.{After, Leaves}
use Rattle.turn.specs.Turns.{Turned}

pub one_left : (c : Cluster) (x : After) (t u : Told) (h k q o h' k' q' o' : List ℕ) → Leaves c x t h k q o → Leaves c x u h' k' q' o' → (t ≡ u) × ((h ≡ h') × (k ≡ k') × (q ≡ q') × (o ≡ o'))
one_left c x t u h k q o h' k' q' o' a b =
    let p = a.code ∙ sym b.code in
    let d = same-cluster t.cluster u.cluster h k q o h' k' q' o' (a.sizes ∙ sym b.sizes) (a.depth ∙ sym b.depth) (a.site ∙ sym b.site) in (
      (λ j. record { answer = code-one t.answer u.answer p j; cluster = d j }),
      same-words t.cluster u.cluster h k q o h' k' q' o' (a.sizes ∙ sym b.sizes) (a.depth ∙ sym b.depth) (a.site ∙ sym b.site),
    )

pub one-turn : (c : Cluster) (e : Event) (h k q o : List ℕ) (t u : Told) (h' k' q' o' h'' k'' q'' o'' : List ℕ) → Turned c e h k q o t h' k' q' o' → Turned c e h k q o u h'' k'' q'' o''
    → (t ≡ u) × ((h' ≡ h'') × (k' ≡ k'') × (q' ≡ q'') × (o' ≡ o''))
one-turn c e h k q o t u h' k' q' o' h'' k'' q'' o'' x y = one_left c _ t u h' k' q' o' h'' k'' q'' o'' x.leaves y.leaves

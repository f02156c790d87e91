-- Any event: STATE, or what the turn did.
use Rattle.std.specs.Prelude.{Err}
use Rattle.base.specs.declared.Refusal.TheVariants.{State as StateR}
use Prim.Native.Nat.{ℕ}
use mathlib.Core.Path.{◌≡◌, refl, sym, ◌∙◌}
use mathlib.Core.Bool.{Bool, true, false}
use mathlib.Core.List.{List}
use Rattle.base.specs.Choice.{pick}
use Rattle.base.proofs.Choice.{clash}
use Rattle.rules.specs.Cluster.{Event}
use Rattle.site.specs.Site.{site_of, good_site}
use Rattle.turn.specs.Events.{whole_event}
use Rattle.turn.specs.Turns.{Turned}
use Rattle.cluster.specs.Any.{Happens}
use Rattle.site.specs.declared.Cluster.{Cluster}
use Rattle.site.specs.declared.Told.{Told}
use Rattle.site.proofs.Goods.{good-shown}

pub happens-refused : (c : Cluster) (e : Event) (h k q o : List ℕ) (b : Bool) → b ≡ good_site c.sizes c.depth (site_of c h k q o) → b ≡ false
    → Happens c e h k q o (record { answer = Err StateR; cluster = c }) h k q o
unfolding whole_event pick
happens-refused c e h k q o b x f =
    let n : good_site c.sizes c.depth (site_of c h k q o) ≡ false = sym x ∙ f in
    record { leaves = rw n record { code = refl; sizes = refl; depth = refl; site = refl }; rules = λ t. clash t n; good = λ t. clash t n }

pub happens-does : (c : Cluster) (e : Event) (h k q o : List ℕ) (b : Bool) (t : Told) (h' k' q' o' : List ℕ) → b ≡ good_site c.sizes c.depth (site_of c h k q o) → b ≡ true
    → Turned c e h k q o t h' k' q' o' → Happens c e h k q o t h' k' q' o'
unfolding whole_event pick
happens-does c e h k q o b t h' k' q' o' x f d =
    let y : good_site c.sizes c.depth (site_of c h k q o) ≡ true = sym x ∙ f in
    record { leaves = rw y d.leaves; rules = λ _. d.rules; good = λ _. good-shown c.sizes c.depth (site_of t.cluster h' k' q' o') d.good }

-- The rules' outcome, read off the answer of the code.
use Prim.Native.Nat.{ℕ}
use mathlib.Core.Path.{◌≡◌, refl}
use mathlib.Core.Bool.{Bool, true, false}
use lib.Dec.{eqb}
use Rattle.base.specs.Choice.{pick}
use Rattle.base.specs.declared.Sizes.{Sizes}
use Rattle.rules.specs.Cluster.{Cluster as Servers, Event, told, done, after, is_done}
use Rattle.site.specs.Site.{Site, cluster_of}
use Rattle.turn.specs.Events.{After, outcome_of}

done-is : (b : Bool) (i : ℕ) (s t : _) (a : Bool) (c : Servers) (k : ℕ) (d : Servers) → is_done (pick b (done i s t a c) (told k d)) ≡ b
unfolding is_done pick
done-is true i s t a c k d = refl
done-is false i s t a c k d = refl

after_is : (b : Bool) (i : ℕ) (s t : _) (a : Bool) (c : Servers) (k : ℕ) → after (pick b (done i s t a c) (told k c)) ≡ c
unfolding after pick
after_is true i s t a c k = refl
after_is false i s t a c k = refl

pub outcome-done : (z : Sizes) (depth : ℕ) (e : Event) (w : Site) (x : After) → is_done (outcome_of z depth e w x) ≡ eqb x.code 0
unfolding outcome_of
outcome-done z depth e w x = done-is (eqb x.code 0) _ _ _ _ _ _ _

pub outcome-after : (z : Sizes) (depth : ℕ) (e : Event) (w : Site) (x : After) → after (outcome_of z depth e w x) ≡ cluster_of z depth x.site
unfolding outcome_of
outcome-after z depth e w x = after_is (eqb x.code 0) _ _ _ _ _ _

-- Rule 5 by the greatest epoch alone would be wrong: a V that breaks rule 6 with a transaction delivered before breaks rule 6
-- alone, and with one not delivered before it breaks rule 5.
use Prim.Native.Nat.{ℕ}
use mathlib.Core.Path.{◌≡◌, refl}
use mathlib.Core.Bool.{Bool, true, false}
use mathlib.Core.List.{[], ◌∷◌}
use lib.Dec.{leb, ltb}
use lib.ListN.{length}
use Rattle.base.specs.Choice.{pick, both, either, upd, all_below}
use Rattle.base.specs.Record.{Entry, E, B, «V», same}
use Rattle.trace.specs.Rules.{answer, fit, broken, less, breaks}
use Rattle.trace.specs.Fold.{St, st_of, t5}

abbrev by-epoch : St → ℕ → Entry → Bool
by-epoch S s t = either (ltb (S.cnt s) (length S.seq)) (leb S.top t.ep)

abbrev first : Entry
first = record { ep = 1; ct = 1; vl = 40 }

abbrev second : Entry
second = record { ep = 1; ct = 2; vl = 41 }

abbrev later : Entry
later = record { ep = 2; ct = 1; vl = 42 }

says-broken : by-epoch (st_of (B 0 later ∷ E 0 2 ∷ «V» 0 first ∷ B 0 first ∷ E 0 1 ∷ [])) 0 first ≡ false
unfolding pick both either upd
says-broken = refl

is-kept : t5 (st_of (B 0 later ∷ E 0 2 ∷ «V» 0 first ∷ B 0 first ∷ E 0 1 ∷ [])) («V» 0 first) ≡ true
unfolding same less pick both either upd
is-kept = refl

pub delivered-before : answer 3 (E 0 1 ∷ B 0 first ∷ «V» 0 first ∷ E 0 2 ∷ B 0 later ∷ «V» 0 first ∷ []) ≡ breaks 5 6
unfolding answer fit broken same less pick both either all_below
delivered-before = refl

pub not-before : answer 3 (E 0 1 ∷ B 0 first ∷ B 0 second ∷ «V» 0 second ∷ E 0 2 ∷ B 0 later ∷ «V» 0 first ∷ []) ≡ breaks 6 5
unfolding answer fit broken same less pick both either all_below
not-before = refl

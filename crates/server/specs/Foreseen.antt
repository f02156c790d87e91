-- What an event would be answered, and how many messages would go to whom.
use Rattle.std.specs.Prelude.{ℕ, ◌+◌, false, not, List, [], ◌∷◌, Bool, eqb, ltb, replicate, Result, Ok, Err}
use Rattle.base.specs.Choice.{pick, both}
use Rattle.base.specs.Quorum.{Set}
use Rattle.base.specs.Refusals.{number, STATE}
use Rattle.base.specs.declared.Refusal.{Refusal}
use Rattle.base.specs.declared.Sizes.{Sizes}
use Rattle.rules.specs.declared.State.{State}
use Rattle.rules.specs.Message.{Send}
use Rattle.rules.specs.Tree.{Res, refused, taken}
use Rattle.rules.specs.Words.{has, tab}
use Rattle.plan.specs.declared.Plan.{Plan}
use Rattle.server.specs.declared.Event.{Event}
use Rattle.server.specs.declared.Forecast.{Forecast}
use Rattle.server.specs.Whole.{answer_of, can}

-- how many of these messages go to j
unfoldable pub sent_to : ℕ → List Send → ℕ
sent_to j [] = 0
sent_to j (x ∷ xs) = pick (eqb x.to j) 1 0 + sent_to j xs

-- what an event would be answered: the refusal or 0, whether the channels would be emptied, and how many messages would go to whom
pub record Preview : Type 0 where
  pub code : ℕ
  pub empties : Bool
  pub to : List ℕ

unfoldable pub seen : Res → Preview
seen (refused c) = record { code = c; empties = false; to = replicate 7 0 }
seen (taken b t out) = record { code = 0; empties = b; to = tab 7 (λ j. sent_to j out) }

-- THE PREVIEW: STATE where something lent is not well formed, else what the rules say
unfoldable pub preview_of : Sizes → State → Event → List ℕ → List ℕ → List ℕ → Preview
preview_of z s ev h k m = pick (can z s ev h k m) (seen (answer_of z s ev h k m)) (record { code = STATE; empties = false; to = replicate 7 0 })

-- how many messages of two casts go to j
unfoldable pub told : ℕ → ℕ → Set → Set → ℕ → ℕ
told n me p q j = pick (both (ltb j n) (not (eqb j me))) (pick (p j) 1 0 + pick (q j) 1 0) 0

-- a forecast of the code in these terms
abbrev pub foreseen : Result Forecast Refusal → Preview
foreseen (Ok f) = record { code = 0; empties = f.empties; to = f.to }
foreseen (Err c) = record { code = number c; empties = false; to = replicate 7 0 }

-- a plan's forecast
unfoldable pub seen_of : Sizes → ℕ → Plan → Forecast
seen_of z me r = record { empties = r.empties; to = tab 7 (told z.n me (has r.one.to) (has r.two.to)) }

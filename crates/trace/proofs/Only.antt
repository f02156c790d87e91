-- What `check` promises: it decides the answer and the space after it; a refusal is number 13 and leaves the space as it was;
-- yes is said only of a trace that keeps the six rules, and the record that is named is the first that breaks one.
use Prim.Native.Nat.{ℕ, zero, suc, ◌+◌, ◌*◌}
use mathlib.Core.Path.{◌≡◌, refl, sym, ap, ◌∙◌}
use mathlib.Core.Logic.{◌≢◌}
use mathlib.Core.Bool.{Bool, true, false}
use mathlib.Core.List.{List, []}
use native.Mathlib.Omega.{arith}
use lib.Dec.{eqb, leb}
use lib.ListN.{length}
use Rattle.base.specs.Choice.{pick, both}
use Rattle.trace.specs.Rules.{Answer, keeps, breaks, refuses, fit, answer}
use Rattle.trace.specs.Held.{Kept}
use Rattle.trace.specs.Words.{recs_from, recs_of, past_at, count_of, readable}
use Rattle.trace.specs.Meaning.{meant, refusal, verdict, left, Checked}
use Rattle.trace.specs.Number.{number}
use Rattle.trace.specs.declared.Rule.{Rule}
use Rattle.trace.specs.declared.Rule.TheVariants.{OneE, CountersRun, EarlierB, OneBegins, EarlierEpochs, VsRise}
use Rattle.trace.specs.declared.Verdict.{Verdict}
use Rattle.trace.specs.declared.Verdict.TheVariants.{Keeps, Breaks, Refused}
use Rattle.trace.proofs.Says.{past}
use Rattle.trace.proofs.Whole.{Broke, keeps-all, breaks-first}

-- the rule of a number
rule_at : ℕ → Rule
rule_at k = pick (eqb k 1) OneE (pick (eqb k 2) CountersRun (pick (eqb k 3) EarlierB (pick (eqb k 4) OneBegins (pick (eqb k 5) EarlierEpochs VsRise))))

rule-back : (r : Rule) → rule_at (number r) ≡ r
unfolding rule_at pick
rule-back OneE = refl
rule-back CountersRun = refl
rule-back EarlierB = refl
rule-back OneBegins = refl
rule-back EarlierEpochs = refl
rule-back VsRise = refl

number-one : (r r' : Rule) → number r ≡ number r' → r ≡ r'
number-one r r' e = sym (rule-back r) ∙ ap rule_at e ∙ rule-back r'

meant-one : (a b : Verdict) → meant a ≡ meant b → a ≡ b
meant-one Keeps Keeps e = refl
meant-one Keeps (Breaks k r) e = let z : ◌≡◌ {A = ℕ} 0 1 = cc in absurd (omega arith)
meant-one Keeps Refused e = let z : ◌≡◌ {A = ℕ} 0 1 = cc in absurd (omega arith)
meant-one (Breaks k r) Keeps e = let z : ◌≡◌ {A = ℕ} 0 1 = cc in absurd (omega arith)
meant-one (Breaks k r) (Breaks k' r') e = let d : number r ≡ number r' = cc in let q : r ≡ r' = number-one r r' d in cc
meant-one (Breaks k r) Refused e = let z : ◌≡◌ {A = ℕ} 0 1 = cc in absurd (omega arith)
meant-one Refused Keeps e = let z : ◌≡◌ {A = ℕ} 0 1 = cc in absurd (omega arith)
meant-one Refused (Breaks k r) e = let z : ◌≡◌ {A = ℕ} 0 1 = cc in absurd (omega arith)
meant-one Refused Refused e = refl

module _ (n : ℕ) (w sp : List ℕ) where
  pub only : {r r' : Verdict} {a a' : List ℕ} → Checked n w sp r a → Checked n w sp r' a' → (r ≡ r') × (a ≡ a')
  only {r} {r'} x y = (meant-one r r' (x.says ∙ sym y.says), x.space ∙ sym y.space)

  pub refused-13 : {r : Verdict} {a : List ℕ} → Checked n w sp r a → verdict n w (length sp) ≡ refuses → (refusal r ≡ 13) × (a ≡ sp)
  refused-13 {r} x e = (ap refusal (meant-one r Refused (x.says ∙ e)), x.space ∙ ap (λ (v : Answer). left v w sp) e)

  answered : (v : Answer) → verdict n w (length sp) ≡ v → v ≢ refuses → answer n (recs_of w) ≡ v
  unfolding verdict pick
  answered v e h = go (both (readable w) (leb (4 * count_of w) (length sp))) e
    where
      go : (b : Bool) → pick b (answer n (recs_of w)) refuses ≡ v → answer n (recs_of w) ≡ v
      go true q = q
      go false q = absurd (h (sym q))

  pub yes-keeps : {a : List ℕ} → Checked n w sp Keeps a → (fit n (recs_of w) ≡ true) × Kept n (past [] (recs_of w))
  yes-keeps x = keeps-all n (recs_of w) (answered keeps (sym x.says) (λ e. let z : ◌≡◌ {A = ℕ} 0 1 = cc in omega arith))

  pub named-first : (k : ℕ) (r : Rule) {a : List ℕ} → Checked n w sp (Breaks k r) a → Broke n (recs_of w) k (number r)
  named-first k r x = breaks-first n (recs_of w) k (number r) (answered (breaks k (number r)) (sym x.says) (λ e. let z : ◌≡◌ {A = ℕ} 0 1 = cc in omega arith))

-- the records before record i + k: those before record i, and k more
pub past_of : (w : List ℕ) (k i : ℕ) → past (past_at w i) (recs_from w i k) ≡ past_at w (i + k)
past_of w zero i = let z : i ≡ i + 0 = omega arith in ap (past_at w) z
past_of w (suc k) i = let z : suc i + k ≡ i + suc k = omega arith in past_of w k (suc i) ∙ ap (past_at w) z

-- Bounds of the parts that the program lends.
use Prim.Native.Nat.{ℕ, ◌+◌, ◌≤◌}
use mathlib.Core.Path.{◌≡◌, ap, ◌∙◌}
use mathlib.Core.List.{List}
use native.Mathlib.Omega.{arith}
use lib.ListN.{length, drop, length-append}
use Rattle.rules.specs.Words.{put}
use Rattle.script.specs.Text.{Wrote}

-- what was written lies in what it was written to
pub wrote_in : (b ws b' : List ℕ) (r : ℕ) → Wrote b 0 ws r b' → r ≤ length b'
unfolding put
wrote_in b ws b' r w =
    let e : length b' ≡ length ws + length (drop (0 + length ws) b) = ap length w.bytes ∙ length-append ws (drop (0 + length ws) b) in
    omega (arith, w.ends)

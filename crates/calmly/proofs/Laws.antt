-- The words that are lent fit the sizes.
use Prim.Native.Nat.{ℕ, ◌*◌, ◌≤◌}
use mathlib.Core.Path.{◌≡◌, refl}
use mathlib.Core.Bool.{true}
use native.Mathlib.Omega.{arith}
use native.Mathlib.Nat.{mul-le-mul_left, mul_assoc}
use lib.ListN.{length, take, replicate, length-replicate}
use lib.Seq.{length-take-le}
use borrow.Author.Tests.{le-leb}
use Rattle.base.specs.Choice.{both}
use Rattle.rules.specs.Server.{good_sizes}
use Rattle.site.specs.Site.{fitting}
use Rattle.site.proofs.Goods.{fit-shown}
use Rattle.calmly.specs.Counts.{sizes_of}

-- the words of the channels
pub queue-fits : (n : ℕ) → n ≤ 7 → 24 * n * n ≤ 1176
queue-fits n l = let x : 24 * n * n ≤ 24 * n * 7 = mul-le-mul_left (24 * n) l in omega arith

sizes-good : (n : ℕ) → 3 ≤ n → n ≤ 7 → good_sizes (sizes_of n) ≡ true
unfolding good_sizes both
sizes-good n a b = rw (le-leb 3 n a, le-leb n 7 b) refl

pub words-fit : (n h k q o : ℕ) → 3 ≤ n → n ≤ 7 → h ≡ 8 * n → k ≡ 8 * n → q ≡ 24 * n * n → o ≡ 78 → fitting (sizes_of n) 2 h k q o ≡ true
words-fit n h k q o a b hs ks qs os = fit-shown (sizes_of n) 2 h k q o (record {
  sizes = sizes-good n a b;
  lower = omega arith;
  upper = omega arith;
  hists = omega arith;
  cands = omega arith;
  queue = let e = mul_assoc 24 n n in omega arith;
  box = omega arith;
})

-- how many words are lent, of k zeros from the first on
pub lent : (k m : ℕ) → m ≤ k → length (take m (replicate {A = ℕ} k 0)) ≡ m
lent k m l =
    let e : length (replicate {A = ℕ} k 0) ≡ k = length-replicate k 0 in
    length-take-le m (replicate {A = ℕ} k 0) (omega arith)

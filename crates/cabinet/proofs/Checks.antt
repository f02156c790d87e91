-- Laws of the exported trace checker.
use Prim.Native.Nat.{ℕ, ◌-◌}
use mathlib.Core.Path.{◌≡◌, sym, ◌∙◌}
use mathlib.Core.List.{List, [], ◌∷◌, ◌++◌, append-nil}
use native.Mathlib.Omega.{arith}
use lib.ListN.{length, take, drop, drop_of_length-le}
use lib.Seq.{take_at}
use Rattle.octets.specs.Bytes.{words_of, bytes_of}
use Rattle.octets.proofs.Laws.{length-words}
use Rattle.trace.specs.Meaning.{verdict, meant, Checked}
use Rattle.trace.specs.declared.Verdict.{Verdict}
use Rattle.cabinet.specs.Trace.{Judgement, Judges}

-- a judgement determines the result and what is told
pub only-judgement : (x : Judgement) (r r' : ℕ) (t t' : List ℕ) → Judges x r t → Judges x r' t' → (r ≡ r') × (t ≡ t')
only-judgement x r r' t t' j j' = (j.code ∙ sym j'.code, j.told ∙ sym j'.told)

-- the checker on the words that were loaded
pub checked : (n k : ℕ) (b W z sp sp' : List ℕ) (r : Verdict) → W ≡ words_of k b ++ z → length sp ≡ 4096
    → Checked n (take (k - 0) (drop 0 W)) sp r sp' → meant r ≡ verdict n (words_of k b) 4096
checked n k b W z sp sp' r e l c =
    let z₀ : k - 0 ≡ k = omega arith in
    let p : take (k - 0) (drop 0 W) ≡ words_of k b = rw (z₀, e) (take_at (words_of k b) z k (length-words k b)) in
    rw (p, l) at c.says

-- one word over eight bytes
pub told-word : (x : ℕ) (t t' : List ℕ) → length t ≡ 8 → t' ≡ bytes_of (take 1 (x ∷ [])) ++ drop 8 t → t' ≡ bytes_of (x ∷ [])
told-word x t t' l e = e ∙ rw (drop_of_length-le t {i = 8} (omega arith)) (append-nil (bytes_of (x ∷ [])))

-- A kind read from a number, and the number.
use Prim.Native.Nat.{ℕ}
use mathlib.Core.Path.{◌≡◌, sym}
use mathlib.Core.Logic.{⊎_elim}
use native.Mathlib.Omega.{arith}
use lib.Dec.{eqb}
use borrow.Author.Tests.{ne_eqb}
use denote.Enum.Bare.{sameb}
use Rattle.std.specs.Prelude.{Option, Some, None}
use Rattle.std.specs.Option.{option_eq}
use Rattle.trace.specs.Kinds.{number, Kinded}
use Rattle.trace.specs.declared.words.Kind.{Kind}
use Rattle.trace.specs.declared.words.Kind.TheVariants.{E, B, «V», X}
use Rattle.trace.specs.contracts.words.Kind.{the_type}

-- `==` at a kind that is read, and the number
pub read-eq : (o : Option Kind) (k : Kind) (m : ℕ) → Kinded o m → option_eq (sameb the_type) o (Some k) ≡ eqb m (number k)
read-eq None E m h = sym (ne_eqb m 1 (λ q. ⊎_elim (λ z. omega arith) (λ z. omega arith) h))
read-eq None B m h = sym (ne_eqb m 2 (λ q. ⊎_elim (λ z. omega arith) (λ z. omega arith) h))
read-eq None «V» m h = sym (ne_eqb m 3 (λ q. ⊎_elim (λ z. omega arith) (λ z. omega arith) h))
read-eq None X m h = sym (ne_eqb m 4 (λ q. ⊎_elim (λ z. omega arith) (λ z. omega arith) h))
read-eq (Some E) E m h = rw h
read-eq (Some E) B m h = rw h
read-eq (Some E) «V» m h = rw h
read-eq (Some E) X m h = rw h
read-eq (Some B) E m h = rw h
read-eq (Some B) B m h = rw h
read-eq (Some B) «V» m h = rw h
read-eq (Some B) X m h = rw h
read-eq (Some «V») E m h = rw h
read-eq (Some «V») B m h = rw h
read-eq (Some «V») «V» m h = rw h
read-eq (Some «V») X m h = rw h
read-eq (Some X) E m h = rw h
read-eq (Some X) B m h = rw h
read-eq (Some X) «V» m h = rw h
read-eq (Some X) X m h = rw h

-- the same at a kind
pub kind-eq : (j k : Kind) (m : ℕ) → m ≡ number j → sameb the_type j k ≡ eqb m (number k)
kind-eq j k m h = read-eq (Some j) k m h

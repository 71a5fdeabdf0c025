-- A signed word as the machine reads it back from its bits. Assumes nothing.
use mathlib.Core.Bool.{true, false}
use mathlib.Core.Path.{◌≡◌, refl}
use Prim.Native.Nat.{zero, suc, ◌<◌}
use native.Mathlib.Omega.{arith}
use lib.IntN.{ℤ, pos, negsuc}
use mir.Syntax.{w32, w64}
use mir.Val.{SFits, Fits, to_z, of_z}
use mir.Facts.{to_z-of_z}
use Rattle.clauses.specs.Clauses.{variable_of}
use Rattle.clauses.specs.CnfWords.{is_0}

abbrev pub word : ℤ → ℤ
word z = to_z w32 (of_z w32 z)

variable_below : (z : ℤ) → SFits w32 z → variable_of z < 4294967296
variable_below (pos n) f = omega arith
variable_below (negsuc n) f = omega arith

is_0_by_bits : (z : ℤ) → SFits w32 z → of_z w32 z ≡ 0 → is_0 z ≡ true
is_0_by_bits (pos zero) f e = refl
is_0_by_bits (pos (suc n)) f e = absurd (omega arith)
is_0_by_bits (negsuc n) f e = absurd (omega arith)

pub not_0 : (z : ℤ) → (of_z w32 z ≡ 0 → ⊥) → is_0 z ≡ false
not_0 (pos zero) h = absurd (h refl)
not_0 (pos (suc n)) h = refl
not_0 (negsuc n) h = refl

module _ (z : ℤ) (f : SFits w32 z) where
  pub at_0 : of_z w32 z ≡ 0 → is_0 z ≡ true
  at_0 e = is_0_by_bits z f e

  pub word_is : word z ≡ z
  word_is = to_z-of_z f

  pub variable_fits : Fits w64 (variable_of z)
  variable_fits = omega (arith, variable_below z f)

-- A literal and its negation as the machine reads them back from their bits. Assumes nothing.
use mathlib.Core.Path.{◌≡◌, ◌∙◌}
use native.Mathlib.Omega.{arith}
use lib.IntN.{ℤ, pos, negsuc, ◌-ℤ◌, +ℤ_idl}
use mir.Syntax.{w32}
use mir.Val.{SFits, to_z, of_z}
use Rattle.clauses.specs.Clauses.{negated}
use Rattle.clauses.proofs.Satisfaction.{variable_of_negated}
use Rattle.clauses.proofs.Signs as Signs
use Rattle.encoder.specs.Numbering.{Negatable, LiteralOf}

fits_word : (x : ℤ) → Negatable x → SFits w32 x
fits_word (pos n) h = omega arith
fits_word (negsuc n) h = omega arith

module _ {x : ℤ} (h : Negatable x) where
  pub word_is : to_z w32 (of_z w32 x) ≡ x
  word_is = Signs.word_is x (fits_word x h)

  pub negation_is : to_z w32 (of_z w32 (pos 0 -ℤ x)) ≡ negated x
  negation_is = rw (+ℤ_idl (negated x)) (Signs.word_is (negated x) (fits_word (negated x) (record { fits = rw variable_of_negated h.fits })))

-- A literal that is meant, and its negation.
module _ {meant r : ℤ} (l : LiteralOf meant r) where
  pub literal_passed : to_z w32 (of_z w32 r) ≡ meant
  literal_passed = word_is l.negatable ∙ l.is

  pub literal_turned : to_z w32 (of_z w32 (pos 0 -ℤ to_z w32 (of_z w32 r))) ≡ negated meant
  literal_turned = rw (word_is l.negatable, negation_is l.negatable, l.is)

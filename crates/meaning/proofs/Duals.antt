-- "And" is the dual of "or", and Release of Until. Assumes nothing.
use mathlib.Core.Path.{◌≡◌}
use lib.IntN.{ℤ}
use Rattle.clauses.specs.Clauses.{negated}
use Rattle.clauses.proofs.Satisfaction.{negated_negated}
use Rattle.meaning.specs.Cnf.{or_form, and_form, until_form, release_form}

pub and_is_dual : (x a b : ℤ) → and_form x a b ≡ or_form (negated x) (negated a) (negated b)
and_is_dual x a b = simp negated_negated

pub release_is_dual : (x a b y : ℤ) → release_form x a b y ≡ until_form (negated x) (negated a) (negated b) (negated y)
release_is_dual x a b y = simp negated_negated

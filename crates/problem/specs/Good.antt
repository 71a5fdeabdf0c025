-- What is true of a good problem, of its width and of the numbers of its CNF. Assumes nothing.
use Rattle.std.specs.Prelude.{◌≡◌, ℕ}
use Rattle.meaning.specs.Problem.{Problem, W}
use Rattle.meaning.specs.Proper.{Proper}
use Rattle.counts.specs.declared.Counts.{Counts}
use Rattle.counts.specs.Promise.{counts_of}

pub record Good (p : Problem) (width : ℕ) (n : Counts) : Type 0 where
  pub proper : Proper p
  pub width_is : width ≡ W p
  pub counts_are : n ≡ counts_of p

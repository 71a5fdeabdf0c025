-- What is counted among the nodes. Assumes nothing.
use Rattle.std.specs.Prelude.{◌≡◌, List, length}
use Rattle.answers.specs.Lists.{those}
use Rattle.meaning.specs.Problem.{Node}
use Rattle.meaning.proofs.ClosedForms.{has_equal_form, has_or_form, has_until_form}
use Rattle.problem.specs.declared.count.Forms.{Forms}

-- These are the numbers of the nodes by their form.
pub record FormsOf (xs : List Node) (f : Forms) : Type 0 where
  pub equals_are : f.equals ≡ length (those has_equal_form xs)
  pub ors_are : f.ors ≡ length (those has_or_form xs)
  pub untils_are : f.untils ≡ length (those has_until_form xs)

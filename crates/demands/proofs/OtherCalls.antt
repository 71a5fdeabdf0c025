-- The functions that the calls of document 01 are made of: each has one answer too. Those whose promise is an equation are not named here.
-- Assumes nothing.
use mathlib.Core.{Path.◌≡◌, List.List}
use Prim.Native.Nat.{ℕ}
use lib.{IntN.ℤ}
use Rattle.std.specs.Prelude.{Result, IfOk}
use Rattle.answers.specs.Answers.{Check}
use Rattle.refutation.specs.Promise.{StepsCounted}
use Rattle.problem.specs.declared.Node.{Node}
use Rattle.problem.specs.declared.Refusal.{Refusal}
use Rattle.problem.specs.Promise.{node_read}
use Rattle.problem.specs.CheckParts.{Answers, Joined}
use Rattle.job_file.specs.declared.job.Job.{Job}
use Rattle.job_file.specs.Promise.{JobRead, Prints}

-- The number of a refutation's steps, for v variables and c clauses.
pub steps_unique : (v c : ℕ) (refutation : List ℤ) (r r' : Result ℕ ℕ) → StepsCounted v c refutation r → StepsCounted v c refutation r' → r ≡ r'
steps_unique = Rattle.refutation.proofs.Unique.counted_unique

-- A job file read.
pub job_unique : (bs : List ℕ) (j j' : Result Job ℕ) → JobRead bs j → JobRead bs j' → j ≡ j'
job_unique = Rattle.job_file.proofs.Unique.job_unique

-- Any text that is printed: of a job, of a CNF, of a refusal.
pub printed_unique : (text out : List ℕ) {r r' : Result ℕ ℕ} {p p' : List ℕ} → Prints text out r p → Prints text out r' p' → (r ≡ r') × (p ≡ p')
printed_unique = Rattle.job_file.proofs.Unique.printed_unique

-- The readers of a problem's parts promise equations; of one node:
pub node_unique : (r r' : Node) → node_read r ≡ node_read r' → r ≡ r'
node_unique = Rattle.problem.proofs.Unique.node_unique

-- A part of the check, of a problem's words or of a circuit's; one that hands on what it read, as a circuit's sizes; and two parts joined.
pub part_unique : {ps : List (List Check)} (r r' : Result Unit Refusal) → Answers ps r → Answers ps r' → r ≡ r'
part_unique = Rattle.problem.proofs.Unique.answers_unique

pub value_unique : {A : Type 0} {ps : List (List Check)} (x : A) (r r' : Result A Refusal)
    → Answers ps r → IfOk r (λ y. y ≡ x) → Answers ps r' → IfOk r' (λ y. y ≡ x) → r ≡ r'
value_unique = Rattle.problem.proofs.Unique.value_unique

pub joined_unique : (first second r r' : Result Unit Refusal) → Joined first second r → Joined first second r' → r ≡ r'
joined_unique = Rattle.problem.proofs.Unique.joined_unique

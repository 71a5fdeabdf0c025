-- The finder's order of answers by its parts: the check of the problem, and what comes after it. Assumes nothing.
use mathlib.Core.Path.{◌≡◌}
use mathlib.Core.List.{List, [], ◌∷◌}
use Prim.Native.Nat.{ℕ}
use Rattle.answers.specs.Answers.{first_failing}
use Rattle.meaning.specs.Problem.{problem}
use Rattle.meaning.specs.Calls.{witnesses}
use Rattle.finder.specs.Calls.{finding_checks, first_found, find_witness}
use Rattle.meaning.proofs.Check.{problem_checked, checked_then}

pub find_witness_is : (version : ℕ) (ws : List ℕ) (room : ℕ)
    → find_witness version ws room
    ≡ problem_checked version ws (first_failing (finding_checks (problem version ws) room) (first_found (witnesses (problem version ws))))
unfolding find_witness
find_witness_is version ws room = checked_then version ws (finding_checks (problem version ws) room ∷ []) (first_found (witnesses (problem version ws)))

-- "Prefixes can now get stuck": a problem with a constraint whose CNF can't be satisfied, although a prefix is a witness below the bound. Assumes nothing.
use mathlib.Core.Path.{refl, ap}
use mathlib.Core.Logic.{◌↔◌}
use mathlib.Core.List.Memᴰ
use mathlib.Core.List.{List, [], ◌∷◌}
use Prim.Native.Nat.{zero-le}
use lib.ListN.{get_or}
use Rattle.answers.specs.Answers.{Answer, granted}
use Rattle.clauses.specs.Clauses.{Assignment}
use Rattle.meaning.specs.Problem.{header_words, problem_by, problem}
use Rattle.meaning.specs.Cases.{stuck, stuck_at_0, stuck_at_1, constrained_are_formed}
use Rattle.meaning.specs.Witnesses.{Witness}
use Rattle.meaning.specs.Calls.{WellFormed}
use Rattle.meaning.proofs.Check.{proper_if_well_formed}
use Rattle.pairing.specs.Bounds.{at_bound}
use Rattle.pairing.specs.Pairs.{Model, WitnessAtOrBelow}
use Rattle.pairing.proofs.ListedWitnesses.{listed_is_witness}
use Rattle.pairing.proofs.FirstWitness.{empty_is_unsatisfiable}

pub stuck_formed : WellFormed 2 (stuck 1)
stuck_formed = ap (λ (answers : List Answer). get_or answers 3 (granted 0)) constrained_are_formed

-- At bound 0 the prefix is a witness.
pub stuck_prefix : Witness (at_bound (problem 2 (stuck 1)) 0) (0 ∷ 0 ∷ [])
unfolding header_words problem_by problem
stuck_prefix = (listed_is_witness (problem 2 (stuck 0)) (0 ∷ 0 ∷ [])).0 (rw stuck_at_0 (Memᴰ.head refl))

-- At bound 1 the latch is on, against the constraint.
pub stuck_unsatisfiable : ((a : Assignment) × Model (problem 2 (stuck 1)) a) → ⊥
stuck_unsatisfiable =
    (empty_is_unsatisfiable (problem 2 (stuck 1)) (proper_if_well_formed 2 (stuck 1) stuck_formed)).0 stuck_at_1

-- So with constraints a witness below the bound is not enough: `satisfiable_at_or_below` needs that there are none.
pub not_at_or_below : (((a : Assignment) × Model (problem 2 (stuck 1)) a) ↔ WitnessAtOrBelow (problem 2 (stuck 1))) → ⊥
not_at_or_below same =
    stuck_unsatisfiable (same.1 (record { at = 0; bytes = 0 ∷ 0 ∷ []; within = zero-le; witness = stuck_prefix }))

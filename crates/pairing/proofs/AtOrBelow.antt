-- The CNF can be satisfied exactly if a witness exists at k, and where there are no constraints exactly if one exists at a bound from 0 to k; and what its
-- refutations say. Assumes nothing.
use mathlib.Core.Path.{◌≡◌, refl, sym, ◌∙◌}
use mathlib.Core.Logic.{◌↔◌}
use mathlib.Core.List.{List}
use Prim.Native.Nat.{ℕ, ◌≤◌}
use native.Mathlib.Nat.{le_refl}
use lib.IntN.{ℤ}
use lib.ListN.{length}
use Rattle.answers.specs.Answers.{first_failing, granted}
use Rattle.clauses.specs.Clauses.{Assignment}
use Rattle.clauses.specs.Refutable.{Refutation}
use Rattle.answers.proofs.Answers.{after_if_granted, number_of}
use Rattle.clauses.proofs.Sound.{refuted_clauses}
use Rattle.clauses.proofs.Complete.{refutable}
use Rattle.meaning.specs.Problem.{Problem, problem}
use Rattle.meaning.specs.Proper.{Proper}
use Rattle.meaning.specs.Witnesses.{Witness}
use Rattle.clauses.specs.Refutations.{judge_clauses}
use Rattle.meaning.specs.Cnf.{cnf, variables}
use Rattle.meaning.specs.Calls.{WellFormed, room_checks, judge_refutation}
use Rattle.meaning.proofs.Check.{problem_checked, checked_if_well_formed, well_formed_if_checked, proper_if_well_formed}
use Rattle.meaning.proofs.Calls.{refutation_by_clauses}
use Rattle.meaning.proofs.ShownBy.{none_in_version_1}
use Rattle.meaning.proofs.Ranges.{literals_within}
use Rattle.pairing.specs.Bounds.{at_bound}
use Rattle.pairing.specs.Pairs.{Model, WitnessAtOrBelow}
use Rattle.pairing.specs.Excluded.{Excluded}
use Rattle.pairing.proofs.Longer.{lasso_at_larger, witness_at_larger}
use Rattle.pairing.proofs.PairsOff.{pairs_off}

-- ════════ At the bound ════════

-- "the CNF of k is satisfied exactly by witnesses at k"
pub satisfiable_at_bound : (p : Problem) → Proper p → ((a : Assignment) × Model p a) ↔ ((bs : List ℕ) × Witness p bs)
satisfiable_at_bound p proper =
    let pairs = pairs_off p proper in (
      λ m. (pairs.witness_of m.0, pairs.to_witness m.0 m.1),
      λ w. (pairs.model_of w.0, pairs.to_model w.0 w.1),
    )

-- ════════ At or below the bound ════════

-- A witness at the bound is one at or below it.
at_or_below_if_at : (p : Problem) (bs : List ℕ) → Witness p bs → WitnessAtOrBelow p
at_or_below_if_at p bs w = record { at = p.bound; bytes = bs; within = le_refl p.bound; witness = w }

at_if_at_or_below : (p : Problem) → length p.constraints ≡ 0 → WitnessAtOrBelow p → (bs : List ℕ) × Witness p bs
at_if_at_or_below p none w = witness_at_larger p none w.at p.bound w.within w.bytes w.witness

module _ (p : Problem) (proper : Proper p) where
  -- Without constraints.
  pub satisfiable_at_or_below : length p.constraints ≡ 0 → ((a : Assignment) × Model p a) ↔ WitnessAtOrBelow p
  satisfiable_at_or_below none = (
    λ m. let w = (satisfiable_at_bound p proper).0 m in at_or_below_if_at p w.0 w.1,
    λ w. (satisfiable_at_bound p proper).1 (at_if_at_or_below p none w),
  )

  -- With or without them: a CNF that can't be satisfied leaves no lasso at or below the bound, and no witness at it.
  pub excluded_if_unsatisfiable : (((a : Assignment) × Model p a) → ⊥) → Excluded p
  excluded_if_unsatisfiable unsatisfiable = record {
    lassos = λ j h bs w l is_lasso. let v = lasso_at_larger p j p.bound h bs w l is_lasso in at_k v.0 v.2;
    at_k = at_k;
    unconstrained = λ none j h bs w. let v = witness_at_larger p none j p.bound h bs w in at_k v.0 v.1;
  }
    where
      at_k : (bs : List ℕ) → Witness p bs → ⊥
      at_k bs w = unsatisfiable ((satisfiable_at_bound p proper).1 (bs, w))

-- ════════ Refutations ════════

module _ (version : ℕ) (ws : List ℕ) (refutation : List ℤ) (room m n : ℕ) (yes-said : judge_refutation version ws refutation room m n ≡ granted 0) where
  checked : problem_checked version ws (first_failing (room_checks (problem version ws) room) (judge_clauses (variables (problem version ws)) (cnf (problem version ws)) refutation m n))
      ≡ granted 0
  checked = sym (refutation_by_clauses version ws refutation room m n) ∙ yes-said

  formed_if_refuted : WellFormed version ws
  formed_if_refuted = well_formed_if_checked version ws _ (number_of checked)

  -- The checks of the problem and of the room pass, so the answer is that to the CNF's refutation.
  cnf_refuted : judge_clauses (variables (problem version ws)) (cnf (problem version ws)) refutation m n ≡ granted 0
  cnf_refuted = after_if_granted (room_checks (problem version ws) room) _ refl (sym (checked_if_well_formed version ws _ formed_if_refuted) ∙ checked)

  unsatisfied : (a : Assignment) → Model (problem version ws) a → ⊥
  unsatisfied a model = refuted_clauses (variables (problem version ws)) (cnf (problem version ws)) refutation m n cnf_refuted a model.satisfies

  -- A refutation that is accepted leaves no lasso at or below the bound, and no witness at it; without constraints none at or below it.
  pub problem_refuted : Excluded (problem version ws)
  problem_refuted =
      excluded_if_unsatisfiable (problem version ws) (proper_if_well_formed version ws formed_if_refuted) (λ m. unsatisfied m.0 m.1)

-- Where no witness is at the bound, there is a refutation that is accepted.
pub problem_refutable : (p : Problem) → Proper p → ((bs : List ℕ) → Witness p bs → ⊥) → Refutation (variables p) (cnf p)
problem_refutable p proper none =
    refutable (variables p) (cnf p) (literals_within p proper) (λ a right satisfied.
    let w = (satisfiable_at_bound p proper).0 (a, record { length_right = right; satisfies = satisfied }) in none w.0 w.1)

-- ════════ Version 1 ════════

-- "Version 1 files mean D = 0": what document 01 says of them stands.
without_constraints : (ws : List ℕ) → length (problem 1 ws).constraints ≡ 0
without_constraints ws = rw none_in_version_1

pub satisfiable_in_version_1 : (ws : List ℕ) → WellFormed 1 ws → ((a : Assignment) × Model (problem 1 ws) a) ↔ WitnessAtOrBelow (problem 1 ws)
satisfiable_in_version_1 ws formed = satisfiable_at_or_below (problem 1 ws) (proper_if_well_formed 1 ws formed) (without_constraints ws)

pub refuted_in_version_1 : (ws : List ℕ) (refutation : List ℤ) (room m n : ℕ) → judge_refutation 1 ws refutation room m n ≡ granted 0
    → (j : ℕ) → j ≤ (problem 1 ws).bound → (bs : List ℕ) → Witness (at_bound (problem 1 ws) j) bs → ⊥
refuted_in_version_1 ws refutation room m n yes-said = (problem_refuted 1 ws refutation room m n yes-said).unconstrained (without_constraints ws)

-- What the promise of each call says of its yes: when it comes, and what it means. Assumes nothing.
use mathlib.Core.Path.{◌≡◌, refl, sym, ◌∙◌, ap}
use mathlib.Core.List.{List}
use mathlib.Core.Logic.{◌↔◌}
use Prim.Native.Nat.{ℕ, ◌≤◌, ◌+◌, ◌<◌}
use lib.IntN.{ℤ}
use lib.ListN.{length}
use Rattle.std.specs.Prelude.{Result, Ok, Err}
use Rattle.answers.specs.Answers.{granted}
use Rattle.answers.proofs.Answers.{number_of}
use Rattle.refutation.specs.declared.NotRefuted.{NotRefuted}
use Rattle.refutation.specs.declared.NotRefuted.TheVariants as not-refuted
use Rattle.refutation.specs.Promise.{answer_of, Judged}
use Rattle.meaning.specs.Problem.{Problem, problem, outline, latch}
use Rattle.meaning.specs.Proper.{Proper}
use Rattle.meaning.specs.Runs.{Position, EndlessRun, values}
use Rattle.meaning.specs.Formulas.{formula, Holds}
use Rattle.meaning.specs.Bounded.{prefix, lasso, prefix_value}
use Rattle.meaning.specs.Witnesses.{shape, first_latches, inputs_at, lasso_path, Witness}
use Rattle.meaning.specs.Cnf.{cnf, cnf_words, variables}
use Rattle.meaning.specs.Calls.{WellFormed, judge_bytes, judge_witness}
use Rattle.meaning.proofs.Check.{well_formed_if_checked}
use Rattle.meaning.proofs.Calls.{refutation_by_clauses}
use Rattle.pairing.specs.Excluded.{Excluded}
use Rattle.pairing.proofs.Witnesses.{accepted_is_witness}
use Rattle.pairing.proofs.Judged.{judged_is_witness}
use Rattle.pairing.proofs.Endless.{lasso_true, prefix_true}
use Rattle.problem.specs.declared.ProblemRecord.{ProblemRecord}
use Rattle.problem.specs.declared.Refusal.{Refusal}
use Rattle.problem.specs.Promise as checking
use Rattle.problem.proofs.Unique.{refusal_not_yes}
use Rattle.witness.specs.declared.NotWitness.{NotWitness}
use Rattle.witness.specs.Promise as witnessing
use Rattle.witness.proofs.Unique.{judgement_unique}
use Rattle.checker.specs.declared.Unrefuted.{Unrefuted}
use Rattle.checker.specs.Refutation.{refuted_answer, JudgedAs}
use Rattle.checker.proofs.ProblemRefutation.{judged_as_clauses, clauses_not_16}
use mathlib.Core.Bool.{false}
use Rattle.pairing.proofs.EveryTick.{at_every_tick}

-- ════════ The check ════════

module _ (version : ℕ) (ws : List ℕ) where
  pub check_good : {r : Result ProblemRecord Refusal} → checking.CheckedAs version ws r → ((g : ProblemRecord) × (r ≡ Ok g)) ↔ WellFormed version ws
  check_good {r} c = (λ e. sym c.answered ∙ ap checking.answer_of e.1, λ w. good r (c.answered ∙ w))
    where
      good : (r : Result ProblemRecord Refusal) → checking.answer_of r ≡ granted 0 → (g : ProblemRecord) × (r ≡ Ok g)
      good (Ok g) e = (g, refl)
      good (Err f) e = absurd (refusal_not_yes f (number_of e))

  -- The numbers of the record are those of the CNF itself.
  pub cnf_counted : {r : Result ProblemRecord Refusal} → checking.CheckedAs version ws r
      → ((g : ProblemRecord) × (r ≡ Ok g) × (g.counts ≡ record { variables = variables (problem version ws); clauses = length (cnf (problem version ws)); words = length (cnf_words (problem version ws)) }))
      ↔ WellFormed version ws
  cnf_counted {r} c = (
    λ e. (check_good c).0 (e.0, e.1),
    λ w. let found = (check_good c).1 w in let good = rw found.1 at c in (found.0, found.1, good.counted),
  )

-- ════════ The witness judge ════════

module _ (version : ℕ) (ws bs : List ℕ) {r : Result Unit NotWitness} (answered : witnessing.answer_of r ≡ judge_witness version ws bs) where
  pub accepted_run : (r ≡ Ok tt) ↔ (WellFormed version ws × Witness (problem version ws) bs)
  accepted_run = (
    λ e. (judged_is_witness version ws bs).0 (sym answered ∙ ap witnessing.answer_of e),
    λ w. judgement_unique version ws bs r (Ok tt) answered (sym ((judged_is_witness version ws bs).1 w)),
  )

  bytes_granted : r ≡ Ok tt → judge_bytes (problem version ws) bs ≡ granted 0
  bytes_granted e = (accepted_is_witness (problem version ws) bs).1 (accepted_run.0 e).1

  pub accepted_lasso : r ≡ Ok tt → (l : ℕ) → shape bs ≡ lasso l
      → EndlessRun (problem version ws) (lasso_path (problem version ws) bs l) × Holds (problem version ws) (formula (problem version ws)) (lasso_path (problem version ws) bs l) 0
  accepted_lasso e l = lasso_true (problem version ws) bs l (bytes_granted e)

  pub accepted_prefix : r ≡ Ok tt → shape bs ≡ prefix → (path : ℕ → Position) → EndlessRun (problem version ws) path
      → (path 0).latches ≡ first_latches (problem version ws) bs
      → ((t : ℕ) → t ≤ (problem version ws).bound → (path t).inputs ≡ inputs_at (problem version ws) bs t)
      → Holds (problem version ws) (formula (problem version ws)) path 0
  accepted_prefix e = prefix_true (problem version ws) bs (bytes_granted e)

-- ════════ The judge of a problem's refutation ════════

pub accepted_refutation : {version : ℕ} {ws : List ℕ} {refutation room : List ℤ} {numbers clauses : List ℕ}
    {r : Result Unit Unrefuted} {room' : List ℤ} {numbers' clauses' : List ℕ}
    → JudgedAs version ws refutation room numbers clauses r room' numbers' clauses' → r ≡ Ok tt
    → WellFormed version ws × Excluded (problem version ws)
accepted_refutation {version} {ws} {refutation} {room} {numbers} {clauses} a e =
    let yes = sym (a.answered ∙ refutation_by_clauses version ws refutation (length room) (length numbers) (length clauses)) ∙ ap refuted_answer e in
    (well_formed_if_checked version ws _ (number_of yes), a.excludes e)

-- ════════ 16 never answers for a problem's CNF ════════

pub never_16 : (p : Problem) → Proper p → {refutation : List ℤ} {numbers clauses : List ℕ} {r : Result Unit NotRefuted} {numbers' clauses' : List ℕ}
    → Judged (variables p) (cnf_words p) refutation numbers clauses r numbers' clauses' → (i : ℕ) → r ≡ Err (not-refuted.BadCnf i) → ⊥
never_16 p proper {refutation} {numbers} {clauses} j i e =
    clauses_not_16 (variables p) (cnf p) refutation (length numbers) (length clauses)
    (number_of (sym (judged_as_clauses p proper refutation (length numbers) (length clauses)) ∙ sym j.answered ∙ ap answer_of e))

-- ════════ The record's outline ════════

-- The outline of the check's record is that of the version and the words.
pub record_outlined : {version : ℕ} {ws : List ℕ} {g : ProblemRecord} → checking.CheckedAs version ws (Ok g)
    → checking.outline_of g.outline ≡ outline version ws
record_outlined c = c.outlined.outline_is

-- ════════ Every latch free ════════

-- A yes to a refutation of a problem whose latches are all free says so of every position of its endless runs.
pub refuted_at_every_tick : {version : ℕ} {ws : List ℕ} {refutation room : List ℤ} {numbers clauses : List ℕ}
    {r : Result Unit Unrefuted} {room' : List ℤ} {numbers' clauses' : List ℕ}
    → JudgedAs version ws refutation room numbers clauses r room' numbers' clauses' → r ≡ Ok tt
    → ((i : ℕ) → i < length (problem version ws).latches → (latch (problem version ws) i).reset ≡ 2)
    → (path : ℕ → Position) → EndlessRun (problem version ws) path → (n : ℕ)
    → prefix_value (problem version ws).bound (λ i. values (problem version ws) (path (n + i))) (formula (problem version ws)) 0 ≡ false
refuted_at_every_tick {version} {ws} judged accepted free = at_every_tick (problem version ws) free (accepted_refutation judged accepted).1.at_k

-- 13, 14 and yes of both refutation judges: exactly when they come, and with what place; and Q-4's 13. Assumes nothing.
use mathlib.Core.Path.{◌≡◌, refl, sym, ◌∙◌, ap}
use mathlib.Core.Bool.{true, false}
use mathlib.Core.List.{List, []}
use mathlib.Core.Logic.{◌↔◌}
use Prim.Native.Nat.{ℕ, ◌<◌}
use lib.IntN.{ℤ}
use lib.ListN.{length, get_or}
use Rattle.std.specs.Prelude.{Result, Ok, Err}
use Rattle.answers.specs.Lists.{empty}
use Rattle.answers.specs.Answers.{granted, step_refused, not_closed}
use Rattle.clauses.specs.Clauses.{Clause}
use Rattle.clauses.specs.CnfWords.{clauses_of}
use Rattle.clauses.specs.Refutations.{Step, step, steps_of, both_signs, last_is_empty, judge_steps, judged}
use Rattle.clauses.specs.StepsRefused.{passes, FirstRefused}
use Rattle.clauses.proofs.StepRule.{by_no_hints}
use Rattle.clauses.proofs.StepsAnswered.{AllPass, steps_13, steps_14, steps_yes}
use Rattle.refutation.specs.declared.NotRefuted.{NotRefuted}
use Rattle.refutation.specs.declared.NotRefuted.TheVariants as not-refuted
use Rattle.refutation.specs.Promise.{answer_of, Judged}
use Rattle.refutation.proofs.Unique as cnf-unique
use Rattle.meaning.specs.Problem.{problem}
use Rattle.meaning.specs.Cnf.{cnf}
use Rattle.checker.specs.declared.Unrefuted.{Unrefuted}
use Rattle.checker.specs.declared.Unrefuted.TheVariants as unrefuted
use Rattle.checker.specs.Refutation.{refuted_answer, JudgedAs}
use Rattle.checker.proofs.RefutedUnique as problem-unique
use Rattle.demands.specs.BeforeSteps.{CnfReady, ProblemReady}
use Rattle.demands.proofs.BeforeSteps.{past_cnf, past_problem}

-- ════════ Any answer of the steps ════════

-- A call answers by its steps where it is ready for them.
module _ {A Ready : Type 0} (cs : List Clause) (ss : List Step) where
  by_13 : (i : ℕ) → (A ↔ (Ready × (judge_steps cs ss ≡ step_refused i))) → A ↔ (Ready × FirstRefused cs ss i)
  by_13 i call = (
    λ a. let (ready, e) = call.0 a in (ready, (steps_13 cs ss i).0 e),
    λ h. call.1 (h.0, (steps_13 cs ss i).1 h.1),
  )

  by_14 : (n : ℕ) → (A ↔ (Ready × (judge_steps cs ss ≡ not_closed n))) → A ↔ (Ready × AllPass cs ss × (last_is_empty ss ≡ false) × (n ≡ length ss))
  by_14 n call = (
    λ a. let (ready, e) = call.0 a in let (all, last, is) = (steps_14 cs ss n).0 e in (ready, all, last, is),
    λ h. call.1 (h.0, (steps_14 cs ss n).1 (h.1, h.2, h.3)),
  )

  by_yes : (A ↔ (Ready × (judge_steps cs ss ≡ granted 0))) → A ↔ (Ready × AllPass cs ss × (last_is_empty ss ≡ true))
  by_yes call = (
    λ a. let (ready, e) = call.0 a in let (all, last) = (steps_yes cs ss).0 e in (ready, all, last),
    λ h. call.1 (h.0, (steps_yes cs ss).1 (h.1, h.2)),
  )

-- Q-4: where 13 at i comes exactly with a first refusal there, and the steps before step i pass, it comes for a clause with both signs exactly if it has hints.
signs_refused : {A Ready : Type 0} (cs : List Clause) (ss : List Step) (i : ℕ) → (A ↔ (Ready × FirstRefused cs ss i))
    → Ready → i < length ss → ((j : ℕ) → j < i → passes cs ss j ≡ true) → both_signs (get_or ss i (step [] [])).clause ≡ true
    → A ↔ (empty (get_or ss i (step [] [])).hints ≡ false)
signs_refused cs ss i exactly ready within earlier both = (
  λ a. sym by ∙ (exactly.0 a).1.refused,
  λ h. exactly.1 (ready, record { within = within; refused = by ∙ h; earlier_pass = earlier }),
)
  where
    by : passes cs ss i ≡ empty (get_or ss i (step [] [])).hints
    by = by_no_hints _ (get_or ss i (step [] [])) both

-- ════════ The judge for any CNF ════════

module _ {v : ℕ} {words refutation : List ℤ} {numbers clauses : List ℕ} {r : Result Unit NotRefuted} {numbers' clauses' : List ℕ}
    (call : Judged v words refutation numbers clauses r numbers' clauses') where
  abbrev cs : List Clause
  cs = clauses_of words

  abbrev ss : List Step
  ss = steps_of refutation

  abbrev Ready : Type 0
  Ready = CnfReady v words refutation (length numbers) (length clauses)

  answered : (a : Result Unit NotRefuted) → judged (answer_of a) ≡ true → (r ≡ a) ↔ (Ready × (judge_steps cs ss ≡ answer_of a))
  answered a of_steps =
      let by_steps = past_cnf (answer_of a) of_steps v words refutation (length numbers) (length clauses) in (
        λ e. by_steps.0 (sym call.answered ∙ ap answer_of e),
        λ h. cnf-unique.same_answer r a (call.answered ∙ by_steps.1 h),
      )

  pub refused_13 : (i : ℕ) → (r ≡ Err (not-refuted.StepRefused i)) ↔ (Ready × FirstRefused cs ss i)
  refused_13 i = by_13 cs ss i (answered (Err (not-refuted.StepRefused i)) refl)

  pub refused_14 : (n : ℕ) → (r ≡ Err (not-refuted.NotClosed n))
      ↔ (Ready × ((j : ℕ) → j < length ss → passes cs ss j ≡ true) × (last_is_empty ss ≡ false) × (n ≡ length ss))
  refused_14 n = by_14 cs ss n (answered (Err (not-refuted.NotClosed n)) refl)

  pub accepted_exactly : (r ≡ Ok tt) ↔ (Ready × ((j : ℕ) → j < length ss → passes cs ss j ≡ true) × (last_is_empty ss ≡ true))
  accepted_exactly = by_yes cs ss (answered (Ok tt) refl)

  pub both_signs_refused : Ready → (i : ℕ) → i < length ss → ((j : ℕ) → j < i → passes cs ss j ≡ true)
      → both_signs (get_or ss i (step [] [])).clause ≡ true → (r ≡ Err (not-refuted.StepRefused i)) ↔ (empty (get_or ss i (step [] [])).hints ≡ false)
  both_signs_refused ready i = signs_refused cs ss i (refused_13 i) ready

-- ════════ The judge of a problem's refutation ════════

module _ {version : ℕ} {ws : List ℕ} {refutation room : List ℤ} {numbers clauses : List ℕ} {r : Result Unit Unrefuted} {room' : List ℤ} {numbers' clauses' : List ℕ}
    (call : JudgedAs version ws refutation room numbers clauses r room' numbers' clauses') where
  abbrev problem_cs : List Clause
  problem_cs = cnf (problem version ws)

  abbrev problem_ss : List Step
  problem_ss = steps_of refutation

  abbrev AllReady : Type 0
  AllReady = ProblemReady version ws refutation (length room) (length numbers) (length clauses)

  problem_answered : (a : Result Unit Unrefuted) → judged (refuted_answer a) ≡ true → (r ≡ a) ↔ (AllReady × (judge_steps problem_cs problem_ss ≡ refuted_answer a))
  problem_answered a of_steps =
      let by_steps = past_problem (refuted_answer a) of_steps version ws refutation (length room) (length numbers) (length clauses) in (
        λ e. by_steps.0 (sym call.answered ∙ ap refuted_answer e),
        λ h. problem-unique.same_answer r a (call.answered ∙ by_steps.1 h),
      )

  pub problem_refused_13 : (i : ℕ) → (r ≡ Err (unrefuted.Refutation (not-refuted.StepRefused i))) ↔ (AllReady × FirstRefused problem_cs problem_ss i)
  problem_refused_13 i = by_13 problem_cs problem_ss i (problem_answered (Err (unrefuted.Refutation (not-refuted.StepRefused i))) refl)

  pub problem_refused_14 : (n : ℕ) → (r ≡ Err (unrefuted.Refutation (not-refuted.NotClosed n)))
      ↔ (AllReady × ((j : ℕ) → j < length problem_ss → passes problem_cs problem_ss j ≡ true) × (last_is_empty problem_ss ≡ false) × (n ≡ length problem_ss))
  problem_refused_14 n = by_14 problem_cs problem_ss n (problem_answered (Err (unrefuted.Refutation (not-refuted.NotClosed n))) refl)

  pub problem_accepted_exactly : (r ≡ Ok tt)
      ↔ (AllReady × ((j : ℕ) → j < length problem_ss → passes problem_cs problem_ss j ≡ true) × (last_is_empty problem_ss ≡ true))
  problem_accepted_exactly = by_yes problem_cs problem_ss (problem_answered (Ok tt) refl)

  pub problem_both_signs_refused : AllReady → (i : ℕ) → i < length problem_ss → ((j : ℕ) → j < i → passes problem_cs problem_ss j ≡ true)
      → both_signs (get_or problem_ss i (step [] [])).clause ≡ true → (r ≡ Err (unrefuted.Refutation (not-refuted.StepRefused i))) ↔ (empty (get_or problem_ss i (step [] [])).hints ≡ false)
  problem_both_signs_refused ready i = signs_refused problem_cs problem_ss i (problem_refused_13 i) ready

-- What both refutation judges ask before the steps: 13, 14 and yes come exactly where it is met and the steps give them. Assumes nothing.
use mathlib.Core.Path.{◌≡◌, refl, sym, ◌∙◌}
use mathlib.Core.Bool.{true, not}
use mathlib.Core.List.{List}
use mathlib.Core.Logic.{◌↔◌}
use Prim.Native.Nat.{ℕ, ◌≤◌}
use borrow.Author.Tests.{leb-true, le-leb, not-true}
use lib.Dec.{eqb, lit<}
use lib.IntN.{ℤ}
use lib.ListN.{length}
use Rattle.answers.specs.Lists.{all_of}
use Rattle.answers.specs.Answers.{Answer, answer, Check, first_failing, granted}
use Rattle.answers.proofs.Tests.{both_true, all_of_weaker}
use Rattle.answers.proofs.Answers.{passing, refusing, first_failing_passed, past_checks, all_pass_if_granted}
use Rattle.clauses.specs.Clauses.{Clause}
use Rattle.clauses.specs.CnfWords.{clauses_of, cnf_checks}
use Rattle.clauses.specs.Refutations.{steps_of, refutation_checks, area_checks, numbers_area, clauses_area, judge_steps, judge_clauses, judge_cnf, judged}
use Rattle.clauses.proofs.Judges.{cnf_checks_refusing, refutation_checks_refusing}
use Rattle.clauses.proofs.StepsAnswered as steps
use Rattle.clauses.proofs.StepsAnswered.{WordsPass, other_than_steps}
use Rattle.meaning.specs.Problem.{Problem, problem}
use Rattle.meaning.specs.Cnf.{cnf, cnf_words, variables}
use Rattle.meaning.specs.Calls.{room_checks, judge_refutation}
use Rattle.meaning.proofs.Check.{passes_at, check_numbers, Apart, past_check}
use Rattle.meaning.proofs.Calls.{refutation_by_clauses}
use Rattle.demands.specs.BeforeSteps.{CnfReady, ProblemReady}

-- ════════ 16, 11, 12 and 6 as they are asked ════════

-- Checks let yes through exactly where they pass.
pub yes_through : (cs : List Check) → all_of refusing cs ≡ true → (first_failing cs (granted 0) ≡ granted 0) ↔ (all_of passing cs ≡ true)
yes_through cs r = (all_pass_if_granted cs (granted 0) r, first_failing_passed cs (granted 0))

module _ (v : ℕ) (cs : List Clause) (refutation : List ℤ) (m n : ℕ) where
  abbrev WordsReady : Type 0
  WordsReady =
      (first_failing (refutation_checks v (length cs) refutation) (granted 0) ≡ granted 0)
      × (numbers_area v ≤ m)
      × (clauses_area cs (steps_of refutation) ≤ n)

  words_ready : WordsReady ↔ WordsPass v cs refutation m n
  unfolding area_checks
  words_ready =
      let areas = area_checks v cs (steps_of refutation) m n in
      let right = yes_through (refutation_checks v (length cs) refutation) (refutation_checks_refusing v (length cs) refutation) in (
        λ h. (right.0 h.0, both_true (le-leb _ _ h.1) (both_true (le-leb _ _ h.2) refl)),
        λ p. (right.1 p.0, leb-true _ _ (passes_at areas 0 p.1 (lit< tt)), leb-true _ _ (passes_at areas 1 p.1 (lit< tt))),
      )

-- An answer by another number than 6 comes where the room has the words.
pub past_6 : (x : Answer) → not (eqb 6 x.number) ≡ true → (p : Problem) (room : ℕ) (after : Answer)
    → (first_failing (room_checks p room) after ≡ x) ↔ ((length (cnf_words p) ≤ room) × (after ≡ x))
past_6 x other p room after =
    let one = past_checks x (room_checks p room) after (both_true other refl) in (
      λ e. let (pass, rest) = one.0 e in (leb-true _ _ (passes_at (room_checks p room) 0 pass (lit< tt)), rest),
      λ h. one.1 (both_true (le-leb _ _ h.0) refl, h.1),
    )

-- An answer with a number that the steps give: yes, 13 or 14.
module _ (x : Answer) (of_steps : judged x ≡ true) where
  -- ════════ A bare CNF ════════

  pub past_cnf : (v : ℕ) (words refutation : List ℤ) (m n : ℕ)
      → (judge_cnf v words refutation m n ≡ x) ↔ (CnfReady v words refutation m n × (judge_steps (clauses_of words) (steps_of refutation) ≡ x))
  past_cnf v words refutation m n =
      let past = steps.past_cnf x of_steps v words refutation m n in
      let right = yes_through (cnf_checks v words) (cnf_checks_refusing v words) in
      let later = words_ready v (clauses_of words) refutation m n in (
        λ e.
            let (reached, answered) = past.0 e in
            let w = later.1 reached.1 in
            (record { cnf_right = right.1 reached.0; words_right = w.0; numbers_fit = w.1; clauses_fit = w.2 }, answered),
        λ h.
            let (c, answered) = h in
            past.1 ((right.0 c.cnf_right, later.0 (c.words_right, c.numbers_fit, c.clauses_fit)), answered),
      )

  -- ════════ A problem: 15, 1 to 5 and 6 before 11 and 12 ════════

  module _ (version : ℕ) (ws : List ℕ) where
    abbrev p : Problem
    p = problem version ws

    apart : Apart x.number check_numbers
    apart = all_of_weaker (λ k. not (judged (answer k 0))) _ (λ k e. other_than_steps x of_steps k (not-true _ e)) check_numbers refl

    pub past_problem : (refutation : List ℤ) (room m n : ℕ)
        → (judge_refutation version ws refutation room m n ≡ x)
        ↔ (ProblemReady version ws refutation room m n × (judge_steps (cnf p) (steps_of refutation) ≡ x))
    past_problem refutation room m n =
        let by_check = past_check version ws (first_failing (room_checks p room) (judge_clauses (variables p) (cnf p) refutation m n)) x apart in
        let by_room = past_6 x (other_than_steps x of_steps 6 refl) p room (judge_clauses (variables p) (cnf p) refutation m n) in
        let by_words = steps.past_words x of_steps (variables p) (cnf p) refutation m n in
        let later = words_ready (variables p) (cnf p) refutation m n in
        let is = refutation_by_clauses version ws refutation room m n in (
          λ e.
              let (formed, after_check) = by_check.0 (sym is ∙ e) in
              let (fits, after_6) = by_room.0 after_check in
              let (pass, answered) = by_words.0 after_6 in
              let w = later.1 pass in
              (record { formed = formed; room_fits = fits; words_right = w.0; numbers_fit = w.1; clauses_fit = w.2 }, answered),
          λ h.
              let (c, answered) = h in
              let after_6 = by_words.1 (later.0 (c.words_right, c.numbers_fit, c.clauses_fit), answered) in
              is ∙ by_check.1 (c.formed, by_room.1 (c.room_fits, after_6)),
        )

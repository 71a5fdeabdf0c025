-- One step after another: exactly when a refutation judge answers 13, 14 or yes, and with what place. Assumes nothing.
use mathlib.Core.Path.{◌≡◌, refl, sym, ◌∙◌, ap}
use mathlib.Core.Bool.{Bool, true, false, not}
use mathlib.Core.List.{List, [], ◌∷◌, map, append-nil}
use mathlib.Core.Logic.{◌↔◌, inl, inr}
use mathlib.Core.Option.{some}
use Prim.Native.Nat.{ℕ, zero, suc, ◌+◌, ◌<◌, zero-le, suc-le-suc}
use native.Mathlib.Nat.{le_of_suc-le-suc, not-suc-le-zero, add-zero, zero-add}
use native.Mathlib.Omega.{arith}
use borrow.Author.Tests.{ne_eqb}
use lib.IntN.{ℤ}
use lib.Dec.{eqb}
use lib.ListN.{length, get_or, take, length-append}
use lib.Seq.{get_or-append_seam, append_snoc}
use Rattle.answers.specs.Lists.{all_of}
use Rattle.answers.specs.Answers.{Answer, Check, answer, check, first_failing, granted, step_refused, not_closed}
use Rattle.answers.proofs.Tests.{both_true, first_true, second_true, not_both}
use Rattle.answers.proofs.Answers.{number_of, place_of, passing, number_after, past_checks, one_check}
use Rattle.answers.proofs.NumberedChecks.{checks_from, first_fails}
use Rattle.clauses.specs.Clauses.{Clause}
use Rattle.clauses.specs.CnfWords.{clauses_of, cnf_checks}
use Rattle.clauses.specs.Refutations.{Step, step, steps_of, step_accepted, clause_numbered, with_step, refutation_checks, area_checks, step_checks, closing_checks, last_is_empty, judge_steps, judge_clauses, judge_cnf, judged}
use Rattle.clauses.specs.StepsRefused.{clauses_before, passes, FirstRefused}
use Rattle.clauses.proofs.Lookups.{numbered_some}
use Rattle.clauses.proofs.Judges.{cnf_checks_other, refutation_checks_other, area_checks_other, step_checks_other, cnf_judged, clauses_judged}

-- "adds its clause under its number": to the hints of each step after it step i's clause has the number after the given ones and the i steps before.
pub step_numbered : (cs : List Clause) (ss : List Step) (i j : ℕ) → i < j → i < length ss
    → clause_numbered (clauses_before cs ss j) (suc (length cs + i)) ≡ some (get_or ss i (step [] [])).clause
step_numbered cs ss i zero l k = absurd (not-suc-le-zero l)
step_numbered cs [] i (suc j) l k = absurd (not-suc-le-zero k)
step_numbered cs (s ∷ ss) zero (suc j) l k =
    let there : length cs < length (clauses_before cs (s ∷ ss) (suc j)) = rw length-append (omega arith) in
    rw (add-zero (length cs), numbered_some (clauses_before cs (s ∷ ss) (suc j)) (length cs) there, get_or-append_seam)
step_numbered cs (s ∷ ss) (suc i) (suc j) l k =
    let place : length (with_step cs s) + i ≡ length cs + suc i = rw length-append (omega arith) in
    let later = step_numbered (with_step cs s) ss i j (le_of_suc-le-suc l) (le_of_suc-le-suc k) in
    rw (place, append_snoc cs s.clause (map (λ (t : Step). t.clause) (take j ss))) at later

-- ════════ The checks of steps ════════

-- Every step passes.
abbrev pub AllPass : List Clause → List Step → Type 0
AllPass cs ss = (j : ℕ) → j < length ss → passes cs ss j ≡ true

module _ (cs : List Clause) (s : Step) (ss : List Step) where
  passes_first : passes cs (s ∷ ss) 0 ≡ step_accepted (clause_numbered cs) s
  passes_first = ap (λ (ds : List Clause). step_accepted (clause_numbered ds) s) (append-nil cs)

  -- To the steps after the first its clause is as one of the CNF.
  passes_later : (i : ℕ) → passes (with_step cs s) ss i ≡ passes cs (s ∷ ss) (suc i)
  passes_later i =
      ap (λ (ds : List Clause). step_accepted (clause_numbered ds) (get_or ss i (step [] [])))
      (append_snoc cs s.clause (map (λ (t : Step). t.clause) (take i ss)))

-- Their checks pass exactly where they do,
all_pass_if_checked : (cs : List Clause) (k : ℕ) (ss : List Step) → all_of passing (step_checks cs k ss) ≡ true → AllPass cs ss
all_pass_if_checked cs k [] e j l = absurd (not-suc-le-zero l)
all_pass_if_checked cs k (s ∷ ss) e zero l = passes_first cs s ss ∙ first_true (step_accepted (clause_numbered cs) s) _ e
all_pass_if_checked cs k (s ∷ ss) e (suc j) l =
    sym (passes_later cs s ss j)
    ∙ all_pass_if_checked (with_step cs s) (suc k) ss (second_true (step_accepted (clause_numbered cs) s) _ e) j (le_of_suc-le-suc l)

checked_if_all_pass : (cs : List Clause) (k : ℕ) (ss : List Step) → AllPass cs ss → all_of passing (step_checks cs k ss) ≡ true
checked_if_all_pass cs k [] all = refl
checked_if_all_pass cs k (s ∷ ss) all =
    both_true (sym (passes_first cs s ss) ∙ all 0 (suc-le-suc zero-le))
    (checked_if_all_pass (with_step cs s) (suc k) ss (λ j l. passes_later cs s ss j ∙ all (suc j) (suc-le-suc l)))

-- and are those of a test of their places, counted from k.
checks_by_place : (cs : List Clause) (k : ℕ) (ss : List Step) (t : ℕ → Bool) → ((j : ℕ) → t (k + j) ≡ passes cs ss j)
    → step_checks cs k ss ≡ checks_from t 13 k (length ss)
checks_by_place cs k [] t h = refl
checks_by_place cs k (s ∷ ss) t h =
    let first : t k ≡ step_accepted (clause_numbered cs) s = rw add-zero at (h 0) ∙ passes_first cs s ss in
    rw first
    (ap (λ (later : List Check). check (step_accepted (clause_numbered cs) s) (step_refused k) ∷ later)
    (checks_by_place (with_step cs s) (suc k) ss t from_next))
  where
    from_next : (j : ℕ) → t (suc k + j) ≡ passes (with_step cs s) ss j
    from_next j = let place : suc k + j ≡ k + suc j = omega arith in ap t place ∙ h (suc j) ∙ sym (passes_later cs s ss j)

-- ════════ The answer of the steps ════════

module _ (cs : List Clause) (ss : List Step) where
  -- 14 or yes.
  abbrev ending : Answer
  ending = first_failing (closing_checks ss) (granted 0)

  pub steps_13 : (i : ℕ) → (judge_steps cs ss ≡ step_refused i) ↔ FirstRefused cs ss i
  unfolding judge_steps
  steps_13 i =
      let is = ap (λ (c : List Check). first_failing c ending) (checks_by_place cs 0 ss (passes cs ss) (λ j. ap (passes cs ss) (zero-add j))) in
      let exactly = first_fails (passes cs ss) 13 (length ss) i ending not_13 in (
        λ e. let (within, refused, earlier) = exactly.0 (sym is ∙ e) in record { within = within; refused = refused; earlier_pass = earlier },
        λ f. is ∙ exactly.1 (f.within, f.refused, f.earlier_pass),
      )
    where
      not_13 : ending.number ≡ 13 → ⊥
      not_13 e = let z : ◌≡◌ {A = ℕ} 0 13 = number_after 13 (closing_checks ss) (granted 0) refl e in omega arith

  -- An answer by another number comes where every step passes.
  past_13 : (x : Answer) → not (eqb 13 x.number) ≡ true → (judge_steps cs ss ≡ x) ↔ (AllPass cs ss × (ending ≡ x))
  unfolding judge_steps
  past_13 x other =
      let past = past_checks x (step_checks cs 0 ss) ending (step_checks_other x.number other cs 0 ss) in (
        λ e. (all_pass_if_checked cs 0 ss (past.0 e).0, (past.0 e).1),
        λ h. past.1 (checked_if_all_pass cs 0 ss h.0, h.1),
      )

  pub steps_14 : (n : ℕ) → (judge_steps cs ss ≡ not_closed n) ↔ (AllPass cs ss × (last_is_empty ss ≡ false) × (n ≡ length ss))
  steps_14 n = (
    λ e. let (all, end) = (past_13 (not_closed n) refl).0 e in elim (one_check (last_is_empty ss) (granted 0) (not_closed (length ss)) end) [
      | inl a ↦ absurd (let z : ◌≡◌ {A = ℕ} 0 14 = number_of a.1 in omega arith)
      | inr b ↦ (all, b.0, sym (place_of b.1))
    ],
    λ h. (past_13 (not_closed n) refl).1 (h.0, rw (h.1, h.2)),
  )

  pub steps_yes : (judge_steps cs ss ≡ granted 0) ↔ (AllPass cs ss × (last_is_empty ss ≡ true))
  steps_yes = (
    λ e. let (all, end) = (past_13 (granted 0) refl).0 e in elim (one_check (last_is_empty ss) (granted 0) (not_closed (length ss)) end) [
      | inl a ↦ (all, a.0)
      | inr b ↦ absurd (let z : ◌≡◌ {A = ℕ} 14 0 = number_of b.1 in omega arith)
    ],
    λ h. (past_13 (granted 0) refl).1 (h.0, rw h.1),
  )

-- ════════ Before the steps ════════

-- 11 and 12 pass; and before them 16.
abbrev pub WordsPass : ℕ → List Clause → List ℤ → ℕ → ℕ → Type 0
WordsPass variables cs ws m n =
    (all_of passing (refutation_checks variables (length cs) ws) ≡ true) × (all_of passing (area_checks variables cs (steps_of ws) m n) ≡ true)

abbrev pub Reached : ℕ → List ℤ → List ℤ → ℕ → ℕ → Type 0
Reached variables cnf ws m n = (all_of passing (cnf_checks variables cnf) ≡ true) × WordsPass variables (clauses_of cnf) ws m n

-- An answer with a number that the steps give, yes, 13 or 14, comes exactly where they are reached and give it.
module _ (x : Answer) (of_steps : judged x ≡ true) where
  pub other_than_steps : (n : ℕ) → judged (answer n 0) ≡ false → not (eqb n x.number) ≡ true
  other_than_steps n e = rw (ne_eqb n x.number (λ same. not_both of_steps (rw same at e)))

  pub past_words : (variables : ℕ) (cs : List Clause) (ws : List ℤ) (m n : ℕ)
      → (judge_clauses variables cs ws m n ≡ x) ↔ (WordsPass variables cs ws m n × (judge_steps cs (steps_of ws) ≡ x))
  past_words variables cs ws m n =
      let words = refutation_checks variables (length cs) ws in
      let areas = area_checks variables cs (steps_of ws) m n in
      let steps = judge_steps cs (steps_of ws) in
      let past_11 = past_checks x words (first_failing areas steps) (refutation_checks_other _ (other_than_steps 11 refl) variables (length cs) ws) in
      let past_12 = past_checks x areas steps (area_checks_other _ (other_than_steps 12 refl) variables cs (steps_of ws) m n) in
      let is = clauses_judged variables cs ws m n in (
        λ e.
            let (right, after) = past_11.0 (sym is ∙ e) in
            let (fit, answered) = past_12.0 after in
            ((right, fit), answered),
        λ h. is ∙ past_11.1 (h.0.0, past_12.1 (h.0.1, h.1)),
      )

  pub past_cnf : (variables : ℕ) (cnf ws : List ℤ) (m n : ℕ)
      → (judge_cnf variables cnf ws m n ≡ x) ↔ (Reached variables cnf ws m n × (judge_steps (clauses_of cnf) (steps_of ws) ≡ x))
  past_cnf variables cnf ws m n =
      let past_16 = past_checks x (cnf_checks variables cnf) (judge_clauses variables (clauses_of cnf) ws m n)
      (cnf_checks_other _ (other_than_steps 16 refl) variables cnf) in
      let later = past_words variables (clauses_of cnf) ws m n in
      let is = cnf_judged variables cnf ws m n in (
        λ e.
            let (right, after) = past_16.0 (sym is ∙ e) in
            let (words, answered) = later.0 after in
            ((right, words), answered),
        λ h. is ∙ past_16.1 (h.0.0, later.1 (h.0.1, h.1)),
      )

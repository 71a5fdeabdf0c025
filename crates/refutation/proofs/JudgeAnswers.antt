-- Each outcome of the judge meets its promise. Assumes nothing.
use mathlib.Core.Path.{◌≡◌, refl, sym, ◌∙◌}
use mathlib.Core.List.{List, ◌++◌}
use Prim.Native.Nat.{ℕ, suc, ◌+◌, ◌<◌, ◌≤◌}
use native.Mathlib.Numerals.{add-one}
use native.Mathlib.Omega.{arith}
use borrow.Author.Tests.{le-leb, lt-leb}
use lib.IntN.{ℤ}
use lib.ListN.{length, take, drop, replicate, length-replicate}
use lib.Seq.{length-take-le}
use Rattle.std.specs.Prelude.{Result, Ok, Err, MatchResult}
use Rattle.answers.proofs.Answers.{first_failing_passed, number_of, refused_anyway}
use Rattle.clauses.proofs.Judges.{cnf_counted, steps_counted, steps_judged, cnf_judged, clauses_judged}
use Rattle.answers.specs.Lists.{written}
use Rattle.answers.specs.Answers.{first_failing, granted, bad_cnf, bad_refutation}
use Rattle.clauses.specs.CnfWords.{clauses_of, cnf_checks}
use Rattle.clauses.specs.Refutations.{steps_of, refutation_checks, area_checks, judge_steps, judge_cnf, area_after}
use Rattle.refutation.specs.declared.NotRefuted.{NotRefuted}
use Rattle.refutation.specs.declared.NotRefuted.TheVariants.{BadCnf, BadRefutation, AreaTooSmall}
use Rattle.refutation.specs.Promise.{answer_of, CnfCounted, StepsCounted, Judged}
use Rattle.refutation.specs.Work.{CnfRight, StepsRight}

-- The front of an area cleared: its needed words are 0, and those past them stay.
pub front_cleared : {n : ℕ} {part : List ℕ} (old : List ℕ) → part ≡ replicate (length (take n old)) 0 → n ≤ length old
    → part ++ drop n old ≡ written (replicate n 0) old
front_cleared {n} old e h =
    let long : length (take n old) ≡ n = omega (arith, length-take-le n old h) in
    rw (length-replicate, e, long)

-- ════════ Words that were counted ════════

-- A place of a bad word becomes the refusal; a count stays.
abbrev pub Passed : (ℕ → NotRefuted) → Result ℕ ℕ → Result ℕ NotRefuted → Type 0
Passed refusal r m = MatchResult r (λ n. m ≡ Ok n) (λ i. m ≡ Err (refusal i))

pub refusal_passed : (refusal : ℕ → NotRefuted) (r : Result ℕ ℕ) {m : Result ℕ NotRefuted} {f : NotRefuted} → Passed refusal r m → m ≡ Err f
    → (i : ℕ) × (r ≡ Err i) × (f ≡ refusal i)
refusal_passed refusal (Ok k) p e = cc
refusal_passed refusal (Err i) p e = (i, refl, cc)

pub clauses_right : (variables : ℕ) (cnf : List ℤ) {r : Result ℕ ℕ} {n : ℕ} → CnfCounted variables cnf r → r ≡ Ok n → CnfRight variables cnf × (n ≡ length (clauses_of cnf))
clauses_right variables cnf e r-is = cnf_counted variables cnf (rw r-is at e)

pub steps_right : (variables clauses : ℕ) (ws : List ℤ) {r : Result ℕ ℕ} {n : ℕ} → StepsCounted variables clauses ws r → r ≡ Ok n
    → StepsRight variables clauses ws × (n ≡ length (steps_of ws))
steps_right variables clauses ws e r-is = steps_counted variables clauses ws (rw r-is at e)

-- ════════ The outcomes ════════

module _ (variables : ℕ) (cnf ws : List ℤ) (numbers clauses : List ℕ) where
  abbrev Meets : Result Unit NotRefuted → List ℕ → List ℕ → Type 0
  Meets = Judged variables cnf ws numbers clauses

  -- A refusal that comes before the steps leaves both areas as they are.
  abbrev Refused : NotRefuted → Type 0
  Refused f = Meets (Err f) numbers clauses

  pub refused_16 : {i : ℕ} → bad_cnf i ≡ first_failing (cnf_checks variables cnf) (granted (length (clauses_of cnf))) → Refused (BadCnf i)
  unfolding area_after
  refused_16 e =
      record {
        answered =
            refused_anyway (cnf_checks variables cnf) _ _ e (λ f. let z : 16 ≡ 0 = number_of f in omega arith)
            ∙ sym (cnf_judged variables cnf ws (length numbers) (length clauses));
        numbers_left = refl;
        clauses_left = refl;
      }

  -- The clauses and the steps are as many as were counted.
  module _ (right : CnfRight variables cnf) {c : ℕ} (c-is : c ≡ length (clauses_of cnf)) where
    past_16 : judge_cnf variables cnf ws (length numbers) (length clauses)
        ≡ first_failing (refutation_checks variables c ws)
        (first_failing (area_checks variables (clauses_of cnf) (steps_of ws) (length numbers) (length clauses)) (judge_steps (clauses_of cnf) (steps_of ws)))
    past_16 =
        cnf_judged variables cnf ws (length numbers) (length clauses)
        ∙ first_failing_passed (cnf_checks variables cnf) _ right
        ∙ rw c-is (clauses_judged variables (clauses_of cnf) ws (length numbers) (length clauses))

    pub refused_11 : {i : ℕ} → bad_refutation i ≡ first_failing (refutation_checks variables c ws) (granted (length (steps_of ws))) → Refused (BadRefutation i)
    unfolding area_after
    refused_11 e =
        record {
          answered =
              refused_anyway (refutation_checks variables c ws) _ _ e (λ f. let z : 11 ≡ 0 = number_of f in omega arith)
              ∙ sym past_16;
          numbers_left = refl;
          clauses_left = refl;
        }

    module _ (steps_right : StepsRight variables c ws) {s : ℕ} (s-is : s ≡ length (steps_of ws)) where
      past_11 : judge_cnf variables cnf ws (length numbers) (length clauses)
          ≡ first_failing (area_checks variables (clauses_of cnf) (steps_of ws) (length numbers) (length clauses)) (judge_steps (clauses_of cnf) (steps_of ws))
      past_11 = past_16 ∙ first_failing_passed (refutation_checks variables c ws) _ steps_right

      pub few_numbers : length numbers ≤ variables → Refused (AreaTooSmall (variables + 1))
      unfolding area_checks area_after
      few_numbers h =
          rw (add-one variables)
          (record {
            answered = sym (past_11 ∙ rw (lt-leb (suc variables) (length numbers) (omega arith)));
            numbers_left = refl;
            clauses_left = refl;
          })

      module _ (enough : variables < length numbers) where
        pub few_clauses : length clauses < c + s → Refused (AreaTooSmall (c + s))
        unfolding area_checks area_after
        few_clauses h =
            let short = lt-leb (length (clauses_of cnf) + length (steps_of ws)) (length clauses) (omega arith) in
            rw (c-is, s-is)
            (record {
              answered = sym (past_11 ∙ rw (le-leb (suc variables) (length numbers) enough, short));
              numbers_left = refl;
              clauses_left = refl;
            })

        pub all_judged : c + s ≤ length clauses → (r : Result Unit NotRefuted) {numbers' clauses' : List ℕ}
            → answer_of r ≡ judge_steps (clauses_of cnf) (steps_of ws)
            → numbers' ≡ written (replicate (variables + 1) 0) numbers
            → clauses' ≡ written (replicate (c + s) 0) clauses
            → Meets r numbers' clauses'
        unfolding area_checks area_after
        all_judged h r e n k =
            let long = le-leb (length (clauses_of cnf) + length (steps_of ws)) (length clauses) (omega arith) in
            record {
              answered = e ∙ sym (past_11 ∙ rw (le-leb (suc variables) (length numbers) enough, long));
              numbers_left = rw (e, steps_judged (clauses_of cnf) (steps_of ws)) (rw add-one at n);
              clauses_left = rw (e, steps_judged (clauses_of cnf) (steps_of ws)) (rw (c-is, s-is) at k);
            }

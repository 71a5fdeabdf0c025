-- The whole check from its parts, what its yes says of the outline, and that a refusal stands whatever comes after. Assumes nothing.
use mathlib.Core.Path.{◌≡◌, refl, sym, ◌∙◌, ap}
use mathlib.Core.Bool.{Bool, true, false}
use mathlib.Core.List.{List, [], ◌∷◌}
use Prim.Native.Nat.{ℕ}
use native.Mathlib.Omega.{arith}
use Rattle.answers.specs.Lists.{all_of, joined}
use Rattle.answers.specs.Answers.{Answer, Check, first_failing, granted}
use Rattle.answers.proofs.Answers.{passing, first_failing_joined, number_of, place_of}
use Rattle.meaning.specs.Problem as problems
use Rattle.meaning.specs.Problem.{outline, children, problem_by, problem}
use Rattle.meaning.specs.Check.{header_checks, limit_checks}
use Rattle.meaning.specs.Proper.{InLimits}
use Rattle.meaning.specs.Calls.{WellFormed, outline_parts_with, check_problem}
use Rattle.meaning.proofs.ItemByItem.{all_of_joined}
use Rattle.meaning.proofs.Check.{first_failing_refused, in_limits_if_pass, problem_checked, not_well_formed, proper_if_well_formed, width_of_words}
use Rattle.counts.specs.declared.Counts.{Counts}
use Rattle.counts.specs.Promise.{counts_of}
use Rattle.problem.specs.declared.Outline.{Outline}
use Rattle.problem.specs.declared.ProblemRecord.{ProblemRecord}
use Rattle.problem.specs.declared.Refusal.{Refusal}
use Rattle.std.specs.Prelude.{Result, Ok, Err, ⊤, IsErrAnd}
use Rattle.std.proofs.lemmas.Result.{err_from_is_err_and}
use Rattle.problem.specs.Promise.{refusal_answer, outline_of, problem_in, ProperIn, CountedIn, Outlined, CheckedAs}
use Rattle.problem.specs.CheckParts.{Answers}
use Rattle.problem.proofs.Unique.{refusal_not_yes}
use Rattle.problem.proofs.Answered.{passed_first, refused_first, part_passes, part_refuses}

-- ════════ The outline ════════

proper_if_outlined : {version : ℕ} {ws : List ℕ} {s : Outline} → WellFormed version ws → Outlined version ws s → ProperIn s ws
proper_if_outlined {version} {ws} formed outlined = record {
  proper = rw outlined.problem_is (proper_if_well_formed version ws formed);
  width_is = rw outlined.problem_is (width_of_words version ws ∙ ap (λ o. o.width) (sym outlined.outline_is));
}

-- ════════ The parts ════════

-- Checks that hand on whatever comes after them all pass.
pub passes_if_handed_on : (cs : List Check) → ((after : Answer) → after ≡ first_failing cs after) → all_of passing cs ≡ true
passes_if_handed_on cs hands_on = go (all_of passing cs) refl
  where
    go : (b : Bool) → all_of passing cs ≡ b → b ≡ true
    go true e = refl
    go false e =
        let same = hands_on (granted 0) ∙ first_failing_refused cs (granted 0) (granted 1) e ∙ sym (hands_on (granted 1)) in
        absurd (let places = place_of same in omega arith)

parts_by : (ws : List ℕ) {o o' : problems.Outline} {r : Result ⊤ Refusal} → o ≡ o' → Answers (outline_parts_with children o ws) r → Answers (outline_parts_with children o' ws) r
parts_by ws e a = rw e at a

-- The parts before the outline: the header and its limits.
abbrev pub opening : ℕ → List ℕ → List (List Check)
opening version ws = header_checks version ws ∷ limit_checks version ws ∷ []

module _ (version : ℕ) (ws : List ℕ) where
  pub in_limits_if_passed : Answers (opening version ws) (Ok (tt {0})) → InLimits (outline version ws)
  in_limits_if_passed a =
      let all = passes_if_handed_on (joined (opening version ws)) (λ after. a.answered after ∙ first_failing_joined (opening version ws) after) in
      in_limits_if_pass version ws ((all_of_joined passing (opening version ws)).0 all).1.0

  -- ════════ The whole ════════

  pub refused_by_opening : {f : Refusal} → Answers {A = ⊤} (opening version ws) (Err f) → CheckedAs version ws (Err f)
  unfolding check_problem
  refused_by_opening a = record { answered = (refused_first {B = ⊤} (opening version ws) (outline_parts_with children (outline version ws) ws) a).answered (granted 0); outlined = tt; counted = tt }

  module _ {s : Outline} (passed : Answers (opening version ws) (Ok (tt {0}))) (is : outline_of s ≡ outline version ws) where
    all : {r : Result ⊤ Refusal} → Answers (outline_parts_with children (outline_of s) ws) r → Answers (header_checks version ws ∷ limit_checks version ws ∷ outline_parts_with children (outline version ws) ws) r
    all b = passed_first (opening version ws) (outline_parts_with children (outline version ws) ws) passed (parts_by ws is b)

    pub refused_by_parts : {f : Refusal} → Answers {A = ⊤} (outline_parts_with children (outline_of s) ws) (Err f) → CheckedAs version ws (Err f)
    unfolding check_problem
    refused_by_parts b = record { answered = (all b).answered (granted 0); outlined = tt; counted = tt }

    -- Where all parts pass, the outline shows a proper problem, that of the version and the words.
    module _ (parts : Answers (outline_parts_with children (outline_of s) ws) (Ok (tt {0}))) where
      formed : WellFormed version ws
      unfolding check_problem
      formed = sym ((all parts).answered (granted 0))

      pub outlined_by_parts : Outlined version ws s
      unfolding problem_in problem
      outlined_by_parts = record { outline_is = is; problem_is = ap (λ o. problem_by o ws) is }

      pub proper_by_parts : ProperIn s ws
      proper_by_parts = proper_if_outlined formed outlined_by_parts

      pub good_by_parts : {c : Counts} → c ≡ counts_of (problem_in s ws) → CheckedAs version ws (Ok (record { outline = s; counts = c }))
      good_by_parts e = record {
        answered = sym formed;
        outlined = outlined_by_parts;
        counted = rw outlined_by_parts.problem_is at e;
      }

-- What a `?` returns at a refusal.
pub at_refusal : {version : ℕ} {ws : List ℕ} {r : Result ProblemRecord Refusal} {f : Refusal} → IsErrAnd r (λ e. e ≡ f) → CheckedAs version ws (Err f) → CheckedAs version ws r
at_refusal {r} said a = let p = err_from_is_err_and r said in rw (p.1, p.2) a

-- What `check` goes by.
pub ruleset whole = (at_refusal, part_passes, part_refuses, in_limits_if_passed, refused_by_opening, refused_by_parts, proper_by_parts, good_by_parts)

-- ════════ What a yes says ════════

module _ {version : ℕ} {ws : List ℕ} {g : ProblemRecord} (good : CheckedAs version ws (Ok g)) where
  pub well_formed_if_good : WellFormed version ws
  well_formed_if_good = sym good.answered

  pub proper_if_good : ProperIn g.outline ws
  proper_if_good = proper_if_outlined well_formed_if_good good.outlined

  -- Its numbers are those of the problem that its outline shows.
  pub counted_if_good : CountedIn g ws
  counted_if_good = record { proper_in = proper_if_good; counts_are = rw good.outlined.problem_is good.counted }

-- ════════ What comes after the check ════════

-- A refusal is the answer, whatever would come after the check.
pub refused_whatever : (version : ℕ) (ws : List ℕ) (f : Refusal) (after : Answer) → refusal_answer f ≡ check_problem version ws
    → refusal_answer f ≡ problem_checked version ws after
unfolding check_problem problem_checked
refused_whatever version ws f after e = e ∙ not_well_formed version ws (granted 0) after (λ w. refusal_not_yes f (number_of (e ∙ w)))

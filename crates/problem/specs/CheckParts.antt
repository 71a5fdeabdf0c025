-- What the parts of the check answer, one after another. Assumes nothing.
use Rattle.std.specs.Prelude.{◌≡◌, List, [], ◌∷◌, ◌++◌, ℕ, ◌<◌, ⊤, Result, Ok, Err, IsOk}
use Rattle.answers.specs.Answers.{Answer, Check, first_failing_part}
use Rattle.meaning.specs.Check.{each_below}
use Rattle.problem.specs.declared.Refusal.{Refusal}
use Rattle.problem.specs.Promise.{refusal_answer}

-- A refusal is the answer, whatever would come after it; where all passes, what comes after is.
abbrev pub answer_then : {A : Type 0} → Result A Refusal → Answer → Answer
answer_then (Ok x) after = after
answer_then (Err f) after = refusal_answer f

-- The answer to some parts of the check.
pub record Answers {A : Type 0} (ps : List (List Check)) (r : Result A Refusal) : Type 0 where
  pub answered : (after : Answer) → answer_then r after ≡ first_failing_part ps after

-- Two parts one after the other: the answer to both, and they pass only if both do.
pub record Joined (first second r : Result ⊤ Refusal) : Type 0 where
  pub answers : (xs ys : List (List Check)) → Answers xs first → Answers ys second → Answers (xs ++ ys) r
  pub both_pass : IsOk r → IsOk first × IsOk second

-- The answer to the checks of each number below n, if that is what was answered for each number.
abbrev pub AnswersEach : (ℕ → Result ⊤ Refusal → Type 0) → ℕ → Result ⊤ Refusal → Type 0
AnswersEach said n r =
    (f : ℕ → List Check) → ((i : ℕ) (part : Result ⊤ Refusal) → i < n → said i part → Answers (f i ∷ []) part) → Answers (each_below n f ∷ []) r

-- The judge's promise decides its answer: two answers that meet it are equal. Assumes nothing.
use mathlib.Core.Path.{◌≡◌, refl, sym, ◌∙◌, ap}
use mathlib.Core.List.{List, [], ◌∷◌}
use Prim.Native.Nat.{ℕ}
use lib.ListN.{get_or}
use Rattle.std.specs.Prelude.{Result, Ok, Err, ⊤}
use Rattle.answers.specs.Answers.{Answer}
use Rattle.meaning.specs.Calls.{judge_witness}
use Rattle.problem.specs.declared.Refusal.TheVariants.{BadVersion, BadLength, OutsideLimits, BadReset, BadLiteral, BadNode}
use Rattle.witness.specs.declared.NotWitness.{NotWitness}
use Rattle.witness.specs.declared.NotWitness.TheVariants as answers
use Rattle.witness.specs.Promise.{answer_of}

abbrev yes : ℕ → Result ⊤ NotWitness
yes p = Ok (tt {0})

-- The answer of each number up to the version's; none has number 6 or 11 to 14, and past them only a broken constraint is left.
abbrev by_number : List (ℕ → Result ⊤ NotWitness)
by_number =
    yes
    ∷ (λ p. Err (answers.Problem (BadLength p)))
    ∷ (λ p. Err (answers.Problem (OutsideLimits p)))
    ∷ (λ p. Err (answers.Problem (BadReset p)))
    ∷ (λ p. Err (answers.Problem (BadLiteral p)))
    ∷ (λ p. Err (answers.Problem (BadNode p)))
    ∷ yes
    ∷ (λ p. Err (answers.BadWitness p))
    ∷ (λ p. Err (answers.AgainstReset p))
    ∷ (λ p. Err (answers.OpenLoop p))
    ∷ (λ p. Err answers.FormulaFalse)
    ∷ yes ∷ yes ∷ yes ∷ yes
    ∷ (λ p. Err (answers.Problem BadVersion))
    ∷ []

abbrev answer_back : Answer → Result ⊤ NotWitness
answer_back a = get_or by_number a.number (λ t. Err (answers.ConstraintBroken t)) a.place

answer_back_of : (r : Result ⊤ NotWitness) → answer_back (answer_of r) ≡ r
answer_back_of (Ok x) = refl
answer_back_of (Err (answers.Problem BadVersion)) = refl
answer_back_of (Err (answers.Problem (BadLength n))) = refl
answer_back_of (Err (answers.Problem (OutsideLimits i))) = refl
answer_back_of (Err (answers.Problem (BadReset i))) = refl
answer_back_of (Err (answers.Problem (BadLiteral i))) = refl
answer_back_of (Err (answers.Problem (BadNode i))) = refl
answer_back_of (Err (answers.BadWitness i)) = refl
answer_back_of (Err (answers.AgainstReset i)) = refl
answer_back_of (Err (answers.OpenLoop i)) = refl
answer_back_of (Err (answers.ConstraintBroken t)) = refl
answer_back_of (Err answers.FormulaFalse) = refl

pub judgement_unique : (version : ℕ) (ws bs : List ℕ) (r r' : Result ⊤ NotWitness) → answer_of r ≡ judge_witness version ws bs
    → answer_of r' ≡ judge_witness version ws bs → r ≡ r'
judgement_unique version ws bs r r' e e' = sym (answer_back_of r) ∙ ap answer_back (e ∙ sym e') ∙ answer_back_of r'

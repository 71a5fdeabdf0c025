-- The promise of judging a problem's refutation determines the answer, and every lent buffer. Assumes nothing.
use mathlib.Core.Path.{◌≡◌, refl, sym, ◌∙◌, ap}
use mathlib.Core.List.{List, [], ◌∷◌}
use Prim.Native.Nat.{ℕ}
use lib.IntN.{ℤ}
use lib.ListN.{get_or}
use Rattle.answers.specs.Answers.{Answer}
use Rattle.meaning.specs.Calls.{room_after_judging, numbers_area_after, clauses_area_after}
use Rattle.problem.specs.declared.Refusal.TheVariants.{BadVersion, BadLength, OutsideLimits, BadReset, BadLiteral, BadNode}
use Rattle.std.specs.Prelude.{Result, Ok, Err}
use Rattle.encoder.specs.declared.NotWritten.TheVariants.{Problem, RoomTooSmall}
use Rattle.refutation.specs.declared.NotRefuted.TheVariants.{BadCnf, BadRefutation, AreaTooSmall, StepRefused, NotClosed}
use Rattle.checker.specs.declared.Unrefuted.{Unrefuted}
use Rattle.checker.specs.declared.Unrefuted.TheVariants.{Cnf, Refutation}
use Rattle.checker.specs.Refutation.{refuted_answer, JudgedAs}

abbrev Outcome : Type 0
Outcome = Result Unit Unrefuted

abbrev none : ℕ → Outcome
none p = Ok tt

-- The outcome of each number from 0 to 16; 7 to 10 are a witness's. Past them nothing is left.
abbrev by_number : List (ℕ → Outcome)
by_number =
    none
    ∷ (λ p. Err (Cnf (Problem (BadLength p))))
    ∷ (λ p. Err (Cnf (Problem (OutsideLimits p))))
    ∷ (λ p. Err (Cnf (Problem (BadReset p))))
    ∷ (λ p. Err (Cnf (Problem (BadLiteral p))))
    ∷ (λ p. Err (Cnf (Problem (BadNode p))))
    ∷ (λ p. Err (Cnf (RoomTooSmall p)))
    ∷ none
    ∷ none
    ∷ none
    ∷ none
    ∷ (λ p. Err (Refutation (BadRefutation p)))
    ∷ (λ p. Err (Refutation (AreaTooSmall p)))
    ∷ (λ p. Err (Refutation (StepRefused p)))
    ∷ (λ p. Err (Refutation (NotClosed p)))
    ∷ (λ p. Err (Cnf (Problem BadVersion)))
    ∷ (λ p. Err (Refutation (BadCnf p)))
    ∷ []

abbrev refuted_back : Answer → Outcome
refuted_back a = get_or by_number a.number none a.place

back_of : (r : Outcome) → refuted_back (refuted_answer r) ≡ r
back_of (Ok tt) = refl
back_of (Err (Cnf (Problem BadVersion))) = refl
back_of (Err (Cnf (Problem (BadLength n)))) = refl
back_of (Err (Cnf (Problem (OutsideLimits i)))) = refl
back_of (Err (Cnf (Problem (BadReset i)))) = refl
back_of (Err (Cnf (Problem (BadLiteral i)))) = refl
back_of (Err (Cnf (Problem (BadNode i)))) = refl
back_of (Err (Cnf (RoomTooSmall n))) = refl
back_of (Err (Refutation (BadCnf i))) = refl
back_of (Err (Refutation (BadRefutation i))) = refl
back_of (Err (Refutation (AreaTooSmall n))) = refl
back_of (Err (Refutation (StepRefused i))) = refl
back_of (Err (Refutation (NotClosed n))) = refl

pub same_answer : (r s : Outcome) → refuted_answer r ≡ refuted_answer s → r ≡ s
same_answer r s e = sym (back_of r) ∙ ap refuted_back e ∙ back_of s

module _ {version : ℕ} {ws : List ℕ} {refutation room : List ℤ} {numbers clauses : List ℕ}
    {r s : Outcome} {room₁ room₂ : List ℤ} {numbers₁ clauses₁ numbers₂ clauses₂ : List ℕ}
    (a : JudgedAs version ws refutation room numbers clauses r room₁ numbers₁ clauses₁)
    (b : JudgedAs version ws refutation room numbers clauses s room₂ numbers₂ clauses₂) where
  same : refuted_answer r ≡ refuted_answer s
  same = a.answered ∙ sym b.answered

  pub refuted_unique : (r ≡ s) × (room₁ ≡ room₂) × (numbers₁ ≡ numbers₂) × (clauses₁ ≡ clauses₂)
  refuted_unique = (
    same_answer r s same,
    a.room_left ∙ ap (λ (x : Answer). room_after_judging x version ws room) same ∙ sym b.room_left,
    a.numbers_left ∙ ap (λ (x : Answer). numbers_area_after x version ws numbers) same ∙ sym b.numbers_left,
    a.clauses_left ∙ ap (λ (x : Answer). clauses_area_after x version ws refutation clauses) same ∙ sym b.clauses_left,
  )

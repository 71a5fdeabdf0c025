-- The promises leave no choice: one answer meets them, and one content of the areas. Assumes nothing.
use mathlib.Core.Path.{◌≡◌, refl, sym, ◌∙◌, ap}
use mathlib.Core.Bool.{cond}
use mathlib.Core.List.{List}
use Prim.Native.Nat.{ℕ}
use lib.IntN.{ℤ}
use lib.Dec.{eqb}
use Rattle.answers.specs.Answers.{Answer, bad_refutation}
use Rattle.clauses.specs.CnfWords.{clauses_of}
use Rattle.clauses.specs.Refutations.{steps_of, numbers_area, clauses_area, area_after}
use Rattle.std.specs.Prelude.{Result, Ok, Err}
use Rattle.refutation.specs.declared.NotRefuted.{NotRefuted}
use Rattle.refutation.specs.declared.NotRefuted.TheVariants.{BadCnf, BadRefutation, AreaTooSmall, StepRefused, NotClosed}
use Rattle.refutation.specs.Promise.{answer_of, counted_answer, StepsCounted, Judged}

-- The variant of an answer's number and place.
abbrev variant_of : Answer → Result Unit NotRefuted
variant_of a =
    cond (eqb a.number 16) (Err (BadCnf a.place))
    (cond (eqb a.number 11) (Err (BadRefutation a.place))
    (cond (eqb a.number 12) (Err (AreaTooSmall a.place))
    (cond (eqb a.number 13) (Err (StepRefused a.place)) (cond (eqb a.number 14) (Err (NotClosed a.place)) (Ok tt)))))

answered_back : (r : Result Unit NotRefuted) → variant_of (answer_of r) ≡ r
answered_back (Ok tt) = refl
answered_back (Err (BadCnf i)) = refl
answered_back (Err (BadRefutation i)) = refl
answered_back (Err (AreaTooSmall n)) = refl
answered_back (Err (StepRefused i)) = refl
answered_back (Err (NotClosed n)) = refl

pub same_answer : (r r' : Result Unit NotRefuted) → answer_of r ≡ answer_of r' → r ≡ r'
same_answer r r' e = sym (answered_back r) ∙ ap variant_of e ∙ answered_back r'

module _ {variables : ℕ} {cnf refutation : List ℤ} {numbers clauses : List ℕ} {r r' : Result Unit NotRefuted} {n n' c c' : List ℕ} where
  pub judged_unique : Judged variables cnf refutation numbers clauses r n c → Judged variables cnf refutation numbers clauses r' n' c'
      → (r ≡ r') × (n ≡ n') × (c ≡ c')
  judged_unique p q =
      let e : answer_of r ≡ answer_of r' = p.answered ∙ sym q.answered in (
        same_answer r r' e,
        p.numbers_left ∙ ap (λ (a : Answer). area_after a (numbers_area variables) numbers) e ∙ sym q.numbers_left,
        p.clauses_left
            ∙ ap (λ (a : Answer). area_after a (clauses_area (clauses_of cnf) (steps_of refutation)) clauses) e
            ∙ sym q.clauses_left,
      )

abbrev count_of : Answer → Result ℕ ℕ
count_of a = cond (eqb a.number 0) (Ok a.place) (Err a.place)

counted_back : (r : Result ℕ ℕ) → count_of (counted_answer bad_refutation r) ≡ r
counted_back (Ok n) = refl
counted_back (Err i) = refl

pub counted_unique : (variables clauses : ℕ) (refutation : List ℤ) (r r' : Result ℕ ℕ)
    → StepsCounted variables clauses refutation r → StepsCounted variables clauses refutation r' → r ≡ r'
counted_unique variables clauses refutation r r' p q = sym (counted_back r) ∙ ap count_of (p ∙ sym q) ∙ counted_back r'

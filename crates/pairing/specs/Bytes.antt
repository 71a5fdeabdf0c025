-- The witness that a reading shows, as bytes. Assumes nothing.
use Rattle.std.specs.Prelude.{Bool, true, false, cond, List, [], ◌∷◌, ◌++◌, map, ℕ, suc, eqb, length}
use Rattle.answers.specs.Lists.{numbers, each}
use Rattle.meaning.specs.Problem.{Problem, latch_variable}
use Rattle.meaning.specs.Bounded.{Shape, prefix, lasso}
use Rattle.meaning.specs.Cnf.{positions}
use Rattle.pairing.specs.ModelLaws.{Reading}

-- "0 for a prefix or l + 1": of the first chosen l.
abbrev pub first_chosen : (ℕ → Bool) → List ℕ → ℕ
first_chosen chosen [] = 0
first_chosen chosen (l ∷ ls) = cond (chosen l) (suc l) (first_chosen chosen ls)

-- What a shape chooses: the loop's start, or nothing.
abbrev pub chosen_of : Shape → ℕ → Bool
chosen_of prefix l = false
chosen_of (lasso m) l = eqb l m

abbrev pub bit_byte : Bool → ℕ
bit_byte true = 1
bit_byte false = 0

-- "L latch bytes": the latches at 0.
abbrev pub latch_bytes : Problem → Reading → List ℕ
latch_bytes p r = map (λ i. bit_byte (r.circuit 0 (latch_variable p i))) (numbers 0 (length p.latches))

-- "I bytes for each position"
abbrev pub input_bytes : Problem → Reading → ℕ → List ℕ
input_bytes p r t = map (λ i. bit_byte (r.circuit t (suc i))) (numbers 0 p.inputs)

unfoldable pub bytes_of_reading : Problem → Reading → List ℕ
bytes_of_reading p r = first_chosen r.chosen (positions p) ∷ (latch_bytes p r ++ each (positions p) (input_bytes p r))

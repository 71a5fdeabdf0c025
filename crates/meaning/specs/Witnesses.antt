-- Document 01: a witness as bytes, what makes it one, and the checks 7 to 10 of its judge, with 20 of Q-6 of document 02; byte order, for its Q-3.
-- Assumes nothing.
use Rattle.std.specs.Prelude.{Bool, true, false, ◌&&◌, ◌||◌, List, [], ◌∷◌, ◌++◌, map, ◌≡◌, ℕ, zero, suc, ◌+◌, ◌*◌, ◌≤◌, ◌<◌, leb, ltb, eqb, length, get_or, take, drop}
use Rattle.std.specs.Bool.{beq}
use Rattle.answers.specs.Lists.{numbers, numbered, each}
use Rattle.answers.specs.Answers.{Answer, Check, answer, check, bad_witness, against_reset, open_loop, formula_false}
use Rattle.meaning.specs.Problem.{Problem, latch}
use Rattle.meaning.specs.Runs.{Position, values, next_values, meets_reset, meets_constraints, run_from, StartsRight}
use Rattle.meaning.specs.Formulas.{formula, Holds}
use Rattle.meaning.specs.Bounded.{Shape, prefix, lasso, looped, prefix_value}
use Rattle.meaning.specs.LassoValue.{bounded_value}

-- ════════ The bytes ════════

-- "A witness is bytes: 0 for a prefix or l + 1; L latch bytes; I bytes for each position."
abbrev pub witness_length : Problem → ℕ
witness_length p = 1 + length p.latches + p.inputs * (p.bound + 1)

abbrev pub byte : List ℕ → ℕ → ℕ
byte bs i = get_or bs i 0

abbrev pub shape_of : ℕ → Shape
shape_of zero = prefix
shape_of (suc l) = lasso l

abbrev pub shape : List ℕ → Shape
shape bs = shape_of (byte bs 0)

abbrev pub bits : List ℕ → List Bool
bits bs = map (λ b. eqb b 1) bs

abbrev pub first_latches : Problem → List ℕ → List Bool
first_latches p bs = bits (take (length p.latches) (drop 1 bs))

abbrev pub inputs_at : Problem → List ℕ → ℕ → List Bool
inputs_at p bs t = bits (take p.inputs (drop (1 + length p.latches + p.inputs * t) bs))

-- The run that a witness shows: positions 0..k.
unfoldable pub run : Problem → List ℕ → List Position
run p bs = run_from p (first_latches p bs) (map (inputs_at p bs) (numbers 0 (p.bound + 1)))

abbrev pub position : Problem → List ℕ → ℕ → Position
position p bs t = get_or (run p bs) t (record { inputs = []; latches = [] })

-- The values of the variables at each position.
abbrev pub rows : Problem → List ℕ → ℕ → List Bool
rows p bs t = values p (position p bs t)

-- ════════ What a witness is ════════

-- "A lasso with start l, 0 to k, needs the next values at k to equal the latches at l."
abbrev pub Closes : Problem → List ℕ → ℕ → Type 0
Closes p bs l = next_values p (position p bs p.bound) ≡ (position p bs l).latches

-- The endless path of a lasso.
abbrev pub lasso_path : Problem → List ℕ → ℕ → ℕ → Position
lasso_path p bs l t = position p bs (looped l p.bound t)

-- The bounded meaning: a lasso by its endless path, a prefix by now-and-next with false past k.
abbrev pub Shows : Problem → List ℕ → Shape → Type 0
Shows p bs prefix = prefix_value p.bound (rows p bs) (formula p) 0 ≡ true
Shows p bs (lasso l) = Closes p bs l × Holds p (formula p) (lasso_path p bs l) 0

pub record Witness (p : Problem) (bs : List ℕ) : Type 0 where
  pub length_right : length bs ≡ witness_length p
  pub start_in_range : byte bs 0 ≤ p.bound + 1
  pub bits_in_range : (i : ℕ) → 1 ≤ i → i < length bs → byte bs i ≤ 1
  pub starts_right : StartsRight p (first_latches p bs)
  pub constraints_met : (t : ℕ) → t ≤ p.bound → meets_constraints p (position p bs t) ≡ true
  pub shows : Shows p bs (shape bs)

-- ════════ The judge ════════

-- "Apart from the first, bytes are 0 or 1."
abbrev pub byte_limit : Problem → ℕ → ℕ
byte_limit p zero = p.bound + 1
byte_limit p (suc i) = 1

-- 7: "the length comes first, then the bytes in order".
abbrev pub byte_checks : Problem → List ℕ → List Check
byte_checks p bs =
    check (eqb (length bs) (witness_length p)) (bad_witness (length bs))
    ∷ numbered 0 bs (λ i b. check (leb b (byte_limit p i)) (bad_witness i))

-- 8: the first latch byte against its reset.
abbrev pub reset_checks : Problem → List ℕ → List Check
reset_checks p bs =
    map
    (λ i. check (meets_reset (latch p i).reset (get_or (first_latches p bs) i false)) (against_reset (1 + i)))
    (numbers 0 (length p.latches))

-- 9: the first latch whose next value at k is not its value at l.
abbrev pub loop_checks : Problem → List ℕ → Shape → List Check
loop_checks p bs prefix = []
loop_checks p bs (lasso l) =
    map
    (λ i. check (beq (get_or (next_values p (position p bs p.bound)) i false) (get_or (position p bs l).latches i false)) (open_loop i))
    (numbers 0 (length p.latches))

-- 20: a constraint is false; the first position
abbrev pub constraint_broken : ℕ → Answer
constraint_broken = answer 20

abbrev pub position_checks : Problem → List ℕ → List Check
position_checks p bs = map (λ t. check (meets_constraints p (position p bs t)) (constraint_broken t)) (numbers 0 (p.bound + 1))

-- 10: the formula's value at 0.
abbrev pub formula_checks : Problem → List ℕ → List Check
formula_checks p bs = check (bounded_value (shape bs) p.bound (rows p bs) (formula p) 0) (formula_false 0) ∷ []

-- ════════ All witnesses ════════

-- The lists of n bytes that are 0 or 1, in byte order.
abbrev pub all_bits : ℕ → List (List ℕ)
all_bits zero = [] ∷ []
all_bits (suc n) = map (λ bs. 0 ∷ bs) (all_bits n) ++ map (λ bs. 1 ∷ bs) (all_bits n)

-- The bytes that 7 does not refuse, in byte order.
abbrev pub candidates : Problem → List (List ℕ)
candidates p =
    each (numbers 0 (p.bound + 2)) (λ b. map (λ bs. b ∷ bs) (all_bits (length p.latches + p.inputs * (p.bound + 1))))

-- Byte order: the first byte that differs decides.
abbrev pub at_or_before : List ℕ → List ℕ → Bool
at_or_before [] cs = true
at_or_before (b ∷ bs) [] = false
at_or_before (b ∷ bs) (c ∷ cs) = ltb b c || (eqb b c && at_or_before bs cs)

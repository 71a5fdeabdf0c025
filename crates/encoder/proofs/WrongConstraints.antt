-- CNFs whose constraints are wrong, and the words where each differs from the CNF. Assumes nothing.
use mathlib.Core.Path.{◌≡◌, refl, sym, ◌∙◌, ap}
use mathlib.Core.Bool.{Bool, true, false}
use mathlib.Core.List.{List, [], ◌∷◌, ◌++◌, append_assoc}
use Prim.Native.Nat.{ℕ, zero, suc, ◌+◌, ◌*◌, ◌-◌, ◌/◌, ◌≤◌, ◌<◌}
use native.Mathlib.Nat.{zero-add, add-zero, add-suc, suc-add}
use native.Mathlib.Omega.{arith}
use lib.IntN.{ℤ, pos}
use lib.ListN.{length, get_or, length-append}
use lib.Seq.{get_or-append-add}
use Rattle.answers.specs.Lists.{numbers, each, joined}
use Rattle.clauses.specs.Clauses.{Clause, variable_of}
use Rattle.clauses.specs.CnfWords.{words_of}
use Rattle.clauses.proofs.Satisfaction.{variable_of_negated}
use Rattle.meaning.specs.Problem.{Problem, W, latch_variable, latch, constraint}
use Rattle.meaning.specs.Proper.{Proper}
use Rattle.meaning.specs.Runs.{odd}
use Rattle.meaning.specs.Cnf.{true_literal, false_literal, circuit_variable, signed, literal_at, latch_at, truth_item, gates_item, constraint_unit, constraints_item, reset_unit, resets_item, steps_item, closing_item, selectors_item, nodes_item, formula_item, cnf, cnf_words}
use Rattle.meaning.proofs.Numbers.{numbers_append, each_append}
use Rattle.meaning.proofs.ItemByItem.{words_append}
use Rattle.encoder.specs.ItemParts.{constraints_at, reset_clauses}

-- ════════ The wrong CNFs ════════

-- Items 4 to 8.
abbrev later_items : Problem → List (List Clause)
later_items p = steps_item p ∷ closing_item p ∷ selectors_item p ∷ nodes_item p ∷ formula_item p ∷ []

-- The CNF with these clauses where the constraints' item stands.
abbrev pub with_constraints : Problem → List Clause → List Clause
with_constraints p cs = joined (truth_item ∷ gates_item p ∷ cs ∷ resets_item p ∷ later_items p)

-- The constraints after item 3.
abbrev pub after_resets : Problem → List Clause
after_resets p = joined (truth_item ∷ gates_item p ∷ resets_item p ∷ constraints_item p ∷ later_items p)

-- The constraints only at the positions below n: at position 0 with n = 1, below k with n = k.
abbrev pub at_first_positions : Problem → ℕ → List Clause
at_first_positions p n = with_constraints p (each (numbers 0 n) (constraints_at p))

-- A unit for each pair of numbers, by the first and then by the second.
abbrev units : ℕ → ℕ → (ℕ → ℕ → ℤ) → List Clause
units m n literal = each (numbers 0 m) (λ a. each (numbers 0 n) (λ b. (literal a b ∷ []) ∷ []))

-- By constraint, and then by position.
abbrev pub by_constraint : Problem → List Clause
by_constraint p = with_constraints p (units (length p.constraints) (p.bound + 1) (λ c t. literal_at p t (constraint p c)))

-- At each position over the variables of position 0.
abbrev pub over_position_0 : Problem → List Clause
over_position_0 p = with_constraints p (units (p.bound + 1) (length p.constraints) (λ t c. literal_at p 0 (constraint p c)))

-- Literal 0 gives 1.
abbrev false_turned : ℕ → ℤ → ℤ
false_turned zero y = true_literal
false_turned (suc x) y = y

abbrev pub false_as_true : Problem → List Clause
false_as_true p =
    with_constraints p (units (p.bound + 1) (length p.constraints) (λ t c. false_turned (constraint p c) (literal_at p t (constraint p c))))

-- ════════ Where they differ ════════

true_not_false : true_literal ≡ false_literal → ⊥
true_not_false e = let z : ◌≡◌ {A = ℕ} 0 1 = cc in omega arith

module _ (p : Problem) where
  right : cnf_words p ≡ words_of (with_constraints p (constraints_item p))
  unfolding cnf cnf_words
  right = refl

  -- The words before, of and after the item.
  abbrev later : List ℤ
  later = words_of (joined (resets_item p ∷ later_items p))

  parted : (cs : List Clause) → words_of (with_constraints p cs) ≡ pos 1 ∷ pos 0 ∷ (words_of (gates_item p) ++ (words_of cs ++ later))
  parted cs = rw (words_append (gates_item p), words_append cs)

  length_parted : (cs : List Clause) → length (words_of (with_constraints p cs)) ≡ 2 + length (words_of (gates_item p)) + length (words_of cs) + length later
  length_parted cs = ap length (parted cs) ∙ simp length-append (omega arith)

  -- A position more is a word more at least.
  some_units : (d t : ℕ) → 1 ≤ d → 1 ≤ length (words_of (each (numbers 0 d) (constraint_unit p t)))
  some_units zero t h = absurd (omega arith)
  some_units (suc d) t h = omega arith

  some_positions : (from n : ℕ) → 1 ≤ n → 1 ≤ length p.constraints → 1 ≤ length (words_of (each (numbers from n) (constraints_at p)))
  some_positions from zero h some = absurd (omega arith)
  some_positions from (suc n) h some =
      rw (words_append, length-append) (omega (arith, some_units (length p.constraints) from some))

  positions_parted : (n : ℕ) → n ≤ p.bound → constraints_item p ≡ each (numbers 0 n) (constraints_at p) ++ each (numbers n (p.bound + 1 - n)) (constraints_at p)
  positions_parted n h =
      let all : p.bound + 1 ≡ n + (p.bound + 1 - n) = omega arith in
      ap (λ m. each (numbers 0 m) (constraints_at p)) all ∙ rw (numbers_append 0 n (p.bound + 1 - n), each_append, zero-add)

  pub fewer_words : (n : ℕ) → n ≤ p.bound → 1 ≤ length p.constraints → length (words_of (at_first_positions p n)) < length (cnf_words p)
  fewer_words n h some =
      let below = each (numbers 0 n) (constraints_at p) in
      let left_out = each (numbers n (p.bound + 1 - n)) (constraints_at p) in
      let all : length (words_of (constraints_item p)) ≡ length (words_of below) + length (words_of left_out) =
      ap (λ (cs : List Clause). length (words_of cs)) (positions_parted n h) ∙ rw (words_append, length-append) in
      omega (
        arith,
        ap length right ∙ length_parted (constraints_item p),
        length_parted below,
        some_positions n (p.bound + 1 - n) (omega arith) some,
      )

  -- ════════ The first units ════════

  -- Two words for each unit.
  unit_at : (literal : ℕ → ℤ) (rest : List ℤ) (i n j : ℕ) → j < n
      → get_or (words_of (each (numbers i n) (λ b. (literal b ∷ []) ∷ [])) ++ rest) (2 * j) (pos 0) ≡ literal (i + j)
  unit_at literal rest i zero j h = absurd (omega arith)
  unit_at literal rest i (suc n) zero h = rw add-zero
  unit_at literal rest i (suc n) (suc j) h =
      let twice : 2 * suc j ≡ suc (suc (2 * j)) = omega arith in
      rw (twice, add-suc, ← suc-add) (unit_at literal rest (suc i) n j (omega arith))

  -- Where the unit of number j stands after item 2.
  abbrev place : ℕ → ℕ
  place j = 2 + (length (words_of (gates_item p)) + 2 * j)

  -- Of units by two numbers those of 0 come first.
  first_units : (m n : ℕ) (literal : ℕ → ℕ → ℤ) (j : ℕ) → 1 ≤ m → j < n
      → get_or (words_of (with_constraints p (units m n literal))) (place j) (pos 0) ≡ literal 0 j
  first_units zero n literal j h l = absurd (omega arith)
  first_units (suc m) n literal j h l =
      let suc_suc : place j ≡ suc (suc (length (words_of (gates_item p)) + 2 * j)) = omega arith in
      rw (parted, suc_suc, get_or-append-add, words_append (each (numbers 0 n) (λ b. (literal 0 b ∷ []) ∷ [])), append_assoc) (unit_at (literal 0) _ 0 n j l ∙ rw zero-add)

  kept : (c : ℕ) → c < length p.constraints → get_or (cnf_words p) (place c) (pos 0) ≡ literal_at p 0 (constraint p c)
  kept c l =
      ap (λ ws. get_or ws (place c) (pos 0)) right
      ∙ first_units (p.bound + 1) (length p.constraints) (λ t c. literal_at p t (constraint p c)) c (omega arith) l

  -- A constraint that is literal 0.
  pub false_as_true_differs : (c : ℕ) → c < length p.constraints → constraint p c ≡ 0 → ¬ (words_of (false_as_true p) ≡ cnf_words p)
  false_as_true_differs c l zero-literal e =
      let turned = first_units (p.bound + 1) (length p.constraints) (λ t c. false_turned (constraint p c) (literal_at p t (constraint p c))) c (omega arith) l in
      true_not_false (rw zero-literal at (sym turned ∙ ap (λ ws. get_or ws (place c) (pos 0)) e ∙ kept c l))

  -- ════════ The variables at positions 0 and 1 ════════

  variable_signed : (b : Bool) (x : ℤ) → variable_of (signed b x) ≡ variable_of x
  variable_signed true x = variable_of_negated x
  variable_signed false x = refl

  above_at_1 : (v : ℕ) → 1 ≤ v → W p + 1 < variable_of (circuit_variable p 1 v)
  above_at_1 zero h = absurd (omega arith)
  above_at_1 (suc v) h = omega arith

  at_0 : (v : ℕ) → variable_of (circuit_variable p 0 v) ≡ v + 1
  at_0 zero = omega arith
  at_0 (suc v) = omega arith

  constraint_at_0 : (x : ℕ) → variable_of (literal_at p 0 x) ≡ x / 2 + 1
  constraint_at_0 x = variable_signed (odd x) (circuit_variable p 0 (x / 2)) ∙ at_0 (x / 2)

  -- Two constraints, of which the first is no constant.
  pub by_constraint_differs : Proper p → 1 ≤ p.bound → 2 ≤ length p.constraints → 2 ≤ constraint p 0 → ¬ (words_of (by_constraint p) ≡ cnf_words p)
  by_constraint_differs proper some two varies e =
      let first = constraint p 0 in
      let second = constraint p 1 in
      let turned = first_units (length p.constraints) (p.bound + 1) (λ c t. literal_at p t (constraint p c)) 1 (omega arith) (omega arith) in
      let same : literal_at p 1 first ≡ literal_at p 0 second = sym turned ∙ ap (λ ws. get_or ws (place 1) (pos 0)) e ∙ kept 1 two in
      let in-range = proper.constraints_in_range 1 two in
      omega (
        arith,
        above_at_1 (first / 2) (omega arith),
        sym (variable_signed (odd first) (circuit_variable p 1 (first / 2))) ∙ ap variable_of same ∙ constraint_at_0 second,
      )

  -- A first latch whose reset is 0 or 1: item 3 begins with it.
  reset_first : (r : ℕ) (more rest : List ℤ) (x : ℤ) → r ≤ 1 → variable_of (get_or ((words_of (reset_unit r x) ++ more) ++ rest) 0 (pos 0)) ≡ variable_of x
  reset_first zero more rest x h = variable_of_negated x
  reset_first (suc zero) more rest x h = refl
  reset_first (suc (suc r)) more rest x h = absurd (omega arith)

  resets_first : (l : ℕ) (rest : List ℤ) → 1 ≤ l → (latch p 0).reset ≤ 1
      → variable_of (get_or (words_of (each (numbers 0 l) (reset_clauses p)) ++ rest) 0 (pos 0)) ≡ latch_variable p 0 + 1
  resets_first zero rest h fixed = absurd (omega arith)
  resets_first (suc l) rest h fixed =
      rw words_append (reset_first (latch p 0).reset _ rest (latch_at p 0 0) fixed ∙ at_0 (latch_variable p 0))

  -- .. and a first constraint that is not over it.
  pub after_resets_differs : 1 ≤ length p.latches → (latch p 0).reset ≤ 1 → 1 ≤ length p.constraints → ¬ (constraint p 0 / 2 ≡ latch_variable p 0)
      → ¬ (words_of (after_resets p) ≡ cnf_words p)
  after_resets_differs some fixed constrained other e =
      let suc_suc : place 0 ≡ suc (suc (length (words_of (gates_item p)) + 0)) = omega arith in
      let parts : words_of (after_resets p) ≡ pos 1 ∷ pos 0 ∷ (words_of (gates_item p) ++ (words_of (resets_item p) ++ words_of (joined (constraints_item p ∷ later_items p)))) =
      rw (words_append (gates_item p), words_append (resets_item p)) in
      let moved : variable_of (get_or (words_of (after_resets p)) (place 0) (pos 0)) ≡ latch_variable p 0 + 1 =
      rw (parts, suc_suc, get_or-append-add) (resets_first (length p.latches) _ some fixed) in
      other
      (omega (arith, sym moved ∙ ap (λ ws. variable_of (get_or ws (place 0) (pos 0))) e ∙ ap variable_of (kept 0 constrained) ∙ constraint_at_0 (constraint p 0)))

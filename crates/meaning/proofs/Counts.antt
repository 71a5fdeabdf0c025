-- The CNF's numbers of clauses, words and variables are the closed forms. Assumes nothing.
use mathlib.Core.Path.{◌≡◌, refl, sym, ◌∙◌, ap}
use mathlib.Core.Bool.{Bool, true, false, cond}
use mathlib.Core.List.{List, [], ◌∷◌, ◌++◌, map}
use Prim.Native.Nat.{ℕ, zero, suc, ◌+◌, ◌*◌, ◌-◌, ◌≤◌}
use native.Mathlib.Nat.{zero-add, add-zero, add-suc, suc-add, suc-mul, mul-suc, mul_comm, add-mul, add-sub_cancel}
use native.Mathlib.Omega.{arith}
use lib.IntN.{ℤ}
use lib.Dec.{ltb, leb-suc-suc, leb-suc-zero}
use lib.ListN.{length, get_or, length-append, length-map}
use Rattle.answers.specs.Lists.{numbers, each, those, sum}
use Rattle.clauses.specs.Clauses.{Clause, negated}
use Rattle.clauses.specs.CnfWords.{words_of}
use Rattle.meaning.specs.Problem.{Problem, Latch, Node, latch, node, atom, both, either, next, until, release}
use Rattle.meaning.specs.Cnf.{variables, positions, selector, latch_at, truth_item, gate_clauses, gates_item, constraint_unit, constraints_item, reset_unit, resets_item, steps_item, closing_clauses, closing_item, selectors_item, p_clauses, q_clauses, e_clauses, node_clauses, nodes_item, formula_item, cnf_items, cnf, cnf_words}
use Rattle.meaning.proofs.ClosedForms.{fixed_resets, has_equal_form, has_or_form, has_until_form, tally, pairs, node_count, equal_weight, or_weight, until_weight, selected_weight, values_weight, end_weight, item_totals, variable_count, clause_count, word_count}
use Rattle.meaning.proofs.Numbers.{length_numbers}
use Rattle.meaning.proofs.ItemByItem.{◌∷≡◌, total, total_append, total_by_items}

-- ════════ Pairs ════════

-- The pairs of one number more.
pairs_suc : (n : ℕ) → pairs (suc n) ≡ n + pairs n
pairs_suc zero = refl
pairs_suc (suc n) =
    let one_less : suc n - 1 ≡ n = omega arith in
    let two_less : suc (suc n) - 1 ≡ suc n = omega arith in
    let grown : suc (suc n) * suc n ≡ suc n * n + (suc n + suc n) = mul_comm (suc (suc n)) (suc n) ∙ rw (mul-suc, mul-suc) (omega arith) in
    rw (two_less, one_less, grown) (omega arith)

-- ════════ What clauses weigh, each by its length ════════

abbrev sum_of : {A : Type 0} → (A → ℕ) → List A → ℕ
sum_of h [] = 0
sum_of h (x ∷ xs) = h x + sum_of h xs

total_1 : (cs : List Clause) → total (λ n. 1) cs ≡ length cs
total_1 [] = refl
total_1 (c ∷ cs) = rw (total_1 cs) (omega arith)

total_words : (cs : List Clause) → total suc cs ≡ length (words_of cs)
total_words [] = refl
total_words (c ∷ cs) = simp (length-append, ← total_words cs) (omega arith)

module _ (w : ℕ → ℕ) where
  -- Parts of one total.
  total_each : {A : Type 0} (xs : List A) (f : A → List Clause) (c : ℕ) → ((x : A) → total w (f x) ≡ c) → total w (each xs f) ≡ length xs * c
  total_each [] f c h = omega arith
  total_each (x ∷ xs) f c h = rw (total_append, h x, total_each xs f c h, suc-mul) (omega arith)

  total_numbers : (i n : ℕ) (f : ℕ → List Clause) (c : ℕ) → ((x : ℕ) → total w (f x) ≡ c) → total w (each (numbers i n) f) ≡ n * c
  total_numbers i n f c h = total_each (numbers i n) f c h ∙ rw length_numbers

  -- A part for each place of a list, whose total the element gives.
  total_places : {A : Type 0} (h : A → ℕ) (d : A) (xs : List A) (i : ℕ) (f : ℕ → List Clause)
      → ((n : ℕ) → total w (f (i + n)) ≡ h (get_or xs n d)) → total w (each (numbers i (length xs)) f) ≡ sum_of h xs
  total_places h d [] i f e = refl
  total_places h d (x ∷ xs) i f e =
      rw (total_append, rw add-zero at (e 0), total_places h d xs (suc i) f (λ n. rw (suc-add, ← add-suc) (e (suc n))))

  total_all_places : {A : Type 0} (h : A → ℕ) (d : A) (xs : List A) (f : ℕ → List Clause)
      → ((n : ℕ) → total w (f n) ≡ h (get_or xs n d)) → total w (each (numbers 0 (length xs)) f) ≡ sum_of h xs
  total_all_places h d xs f e = total_places h d xs 0 f (λ n. rw zero-add (e n))

-- ════════ Sums over latches and nodes ════════

-- A weight for each latch whose reset is 0 or 1.
sum_of_resets : (w : ℕ) (xs : List Latch) → sum_of (λ (c : Latch). cond (ltb c.reset 2) w 0) xs ≡ fixed_resets xs * w
sum_of_resets w [] = omega arith
sum_of_resets w (x ∷ xs) = go (ltb x.reset 2) (sum_of_resets w xs)
  where
    go : (b : Bool) → sum_of (λ (c : Latch). cond (ltb c.reset 2) w 0) xs ≡ fixed_resets xs * w
        → cond b w 0 + sum_of (λ (c : Latch). cond (ltb c.reset 2) w 0) xs
        ≡ length (cond b (x ∷ those (λ (c : Latch). ltb c.reset 2) xs) (those (λ (c : Latch). ltb c.reset 2) xs)) * w
    go true e = rw (e, suc-mul) (omega arith)
    go false e = rw e (omega arith)

-- What a node has, by its form.
abbrev by_form : ℕ → ℕ → ℕ → Node → ℕ
by_form a b c (atom x) = a
by_form a b c (both l r) = b
by_form a b c (either l r) = b
by_form a b c (next l) = a
by_form a b c (until l r) = c
by_form a b c (release l r) = c

abbrev forms : ℕ → ℕ → ℕ → List Node → ℕ
forms a b c xs = length (those has_equal_form xs) * a + length (those has_or_form xs) * b + length (those has_until_form xs) * c

sum_of_forms : (a b c : ℕ) (xs : List Node) → sum_of (by_form a b c) xs ≡ forms a b c xs
sum_of_forms a b c [] = omega arith
sum_of_forms a b c (atom x ∷ xs) = rw (sum_of_forms a b c xs, suc-mul) (omega arith)
sum_of_forms a b c (both l r ∷ xs) = rw (sum_of_forms a b c xs, suc-mul) (omega arith)
sum_of_forms a b c (either l r ∷ xs) = rw (sum_of_forms a b c xs, suc-mul) (omega arith)
sum_of_forms a b c (next l ∷ xs) = rw (sum_of_forms a b c xs, suc-mul) (omega arith)
sum_of_forms a b c (until l r ∷ xs) = rw (sum_of_forms a b c xs, suc-mul) (omega arith)
sum_of_forms a b c (release l r ∷ xs) = rw (sum_of_forms a b c xs, suc-mul) (omega arith)

-- Each node has one of the three forms.
pub forms_are_all : (xs : List Node) → length (those has_equal_form xs) + length (those has_or_form xs) + length (those has_until_form xs) ≡ length xs
forms_are_all [] = refl
forms_are_all (atom x ∷ xs) = rw (← forms_are_all xs) (omega arith)
forms_are_all (both a b ∷ xs) = rw (← forms_are_all xs) (omega arith)
forms_are_all (either a b ∷ xs) = rw (← forms_are_all xs) (omega arith)
forms_are_all (next a ∷ xs) = rw (← forms_are_all xs) (omega arith)
forms_are_all (until a b ∷ xs) = rw (← forms_are_all xs) (omega arith)
forms_are_all (release a b ∷ xs) = rw (← forms_are_all xs) (omega arith)

-- ════════ The items ════════

-- A reset that is not 0 or 1.
free_reset : (r : ℕ) → ltb (suc (suc r)) 2 ≡ false
free_reset r = leb-suc-suc (suc (suc r)) 1 ∙ leb-suc-suc (suc r) 0 ∙ leb-suc-zero r

module _ (w : ℕ → ℕ) (p : Problem) where
  truth_total : total w truth_item ≡ w 1
  truth_total = omega arith

  gates_total : total w (gates_item p) ≡ (p.bound + 1) * (length p.gates * or_weight w)
  gates_total =
      total_numbers w 0 (p.bound + 1) _ _
      (λ t. total_numbers w 0 (length p.gates) (gate_clauses p t) (or_weight w) (λ j. omega arith))

  constraints_total : total w (constraints_item p) ≡ (p.bound + 1) * (length p.constraints * w 1)
  constraints_total =
      total_numbers w 0 (p.bound + 1) _ _
      (λ t. total_numbers w 0 (length p.constraints) (constraint_unit p t) (w 1) (λ c. omega arith))

  reset_total : (r : ℕ) (x : ℤ) → total w (reset_unit r x) ≡ cond (ltb r 2) (w 1) 0
  reset_total zero x = omega arith
  reset_total (suc zero) x = omega arith
  reset_total (suc (suc r)) x = rw free_reset

  resets_total : total w (resets_item p) ≡ fixed_resets p.latches * w 1
  resets_total =
      total_all_places w (λ (c : Latch). cond (ltb c.reset 2) (w 1) 0) _ p.latches _ (λ n. reset_total (latch p n).reset (latch_at p 0 n))
      ∙ sum_of_resets (w 1) p.latches

  steps_total : total w (steps_item p) ≡ (p.bound + 1 - 1) * (length p.latches * equal_weight w)
  steps_total =
      total_numbers w 0 p.bound _ _ (λ t. total_numbers w 0 (length p.latches) _ (equal_weight w) (λ i. omega arith))
      ∙ rw add-sub_cancel

  closing_total : total w (closing_item p) ≡ (p.bound + 1) * (length p.latches * selected_weight w)
  closing_total =
      total_numbers w 0 (p.bound + 1) _ _
      (λ l. total_numbers w 0 (length p.latches) (closing_clauses p l) (selected_weight w) (λ i. omega arith))

  -- The clause of two selectors, and the clauses of the n selectors from l on.
  abbrev selector_pair : ℕ → ℕ → List Clause
  selector_pair l m = (negated (selector p l) ∷ negated (selector p m) ∷ []) ∷ []

  abbrev selectors_from : ℕ → ℕ → List Clause
  selectors_from l n = each (numbers l n) (λ l. each (numbers (l + 1) (p.bound - l)) (selector_pair l))

  selector_pairs_total : (l : ℕ) → total w (each (numbers (l + 1) (p.bound - l)) (selector_pair l)) ≡ (p.bound - l) * w 2
  selector_pairs_total l = total_numbers w (l + 1) (p.bound - l) (selector_pair l) (w 2) (λ m. omega arith)

  selectors_from_total : (n l : ℕ) → l + n ≡ p.bound + 1 → total w (selectors_from l n) ≡ pairs n * w 2
  selectors_from_total zero l e = omega arith
  selectors_from_total (suc n) l e =
      let later : total w (selectors_from (suc l) n) ≡ pairs n * w 2 = selectors_from_total n (suc l) (omega arith) in
      let rest : p.bound - l ≡ n = omega arith in
      rw (total_append, selector_pairs_total l, later, rest, pairs_suc, add-mul)

  selectors_total : total w (selectors_item p) ≡ pairs (p.bound + 1) * w 2
  selectors_total = selectors_from_total (p.bound + 1) 0 (omega arith)

  formula_total : total w (formula_item p) ≡ w 1
  formula_total = omega arith

-- ════════ The nodes' item ════════

-- The weight of P and Q at a position, by the node's form.
abbrev form_weight : (ℕ → ℕ) → Node → ℕ
form_weight w = by_form (equal_weight w + equal_weight w) (or_weight w + equal_weight w) (until_weight w + until_weight w)

-- A multiple of each weight, and one weight for each element.
sum_of_multiples : {A : Type 0} (h : A → ℕ) (k r : ℕ) (xs : List A) → sum_of (λ x. k * h x + r) xs ≡ k * sum_of h xs + length xs * r
sum_of_multiples h k r [] = omega arith
sum_of_multiples h k r (x ∷ xs) = rw (sum_of_multiples h k r xs, suc-mul) (omega arith)

module _ (w : ℕ → ℕ) (p : Problem) where
  p_q_total : (n : ℕ) (x : Node) (i : ℕ) → total w (p_clauses p n x i ++ q_clauses p n x i) ≡ form_weight w x
  p_q_total n (atom x) i = omega arith
  p_q_total n (both a b) i = omega arith
  p_q_total n (either a b) i = omega arith
  p_q_total n (next a) i = omega arith
  p_q_total n (until a b) i = omega arith
  p_q_total n (release a b) i = omega arith

  values_total : (n : ℕ) (x : Node) → total w (each (positions p) (λ i. p_clauses p n x i ++ q_clauses p n x i)) ≡ (p.bound + 1) * form_weight w x
  values_total n x = total_numbers w 0 (p.bound + 1) _ (form_weight w x) (p_q_total n x)

  ends_total : (n : ℕ) (x : Node) → total w (each (positions p) (e_clauses p n x)) ≡ (p.bound + 1) * selected_weight w
  ends_total n x = total_numbers w 0 (p.bound + 1) (e_clauses p n x) (selected_weight w) (λ l. omega arith)

  node_total : (n : ℕ) → total w (node_clauses p n) ≡ (p.bound + 1) * form_weight w (node p n) + end_weight w (tally p)
  node_total n =
      rw (total_append, total_append, values_total n (node p n), ends_total n (node p n), length-map, length_numbers) (omega arith)

  nodes_total : total w (nodes_item p) ≡ (p.bound + 1) * values_weight w (tally p) + node_count (tally p) * end_weight w (tally p)
  nodes_total =
      total_all_places w (λ x. (p.bound + 1) * form_weight w x + end_weight w (tally p)) _ p.nodes (node_clauses p) node_total
      ∙ sum_of_multiples (form_weight w) (p.bound + 1) (end_weight w (tally p)) p.nodes
      ∙ rw (sum_of_forms, forms_are_all p.nodes)

-- ════════ The whole ════════

module _ (w : ℕ → ℕ) (p : Problem) where
  totals_are : map (total w) (cnf_items p) ≡ item_totals w (tally p)
  totals_are =
      truth_total w p
      ∷≡ gates_total w p
      ∷≡ constraints_total w p
      ∷≡ resets_total w p
      ∷≡ steps_total w p
      ∷≡ closing_total w p
      ∷≡ selectors_total w p
      ∷≡ nodes_total w p
      ∷≡ formula_total w p
      ∷≡ refl

  cnf_total : total w (cnf p) ≡ sum (item_totals w (tally p))
  cnf_total = total_by_items p w ∙ ap sum totals_are

pub clause_count_is : (p : Problem) → length (cnf p) ≡ clause_count p
unfolding clause_count
clause_count_is p = sym (total_1 (cnf p)) ∙ cnf_total (λ n. 1) p

pub word_count_is : (p : Problem) → length (cnf_words p) ≡ word_count p
unfolding cnf_words word_count
word_count_is p = sym (total_words (cnf p)) ∙ cnf_total suc p

-- The last of some multiples.
pub last_of : (n c : ℕ) → 1 ≤ n → n * c ≡ (n - 1) * c + c
last_of zero c h = omega arith
last_of (suc n) c h =
    let one_less : suc n - 1 ≡ n = omega arith in
    rw (one_less, mul_comm (suc n), mul-suc, mul_comm c)

pub variable_count_is : (p : Problem) → 1 ≤ length p.nodes → variables p ≡ variable_count p
unfolding variables variable_count
variable_count_is p some =
    let for_each : 2 * (p.bound + 1) + 1 ≡ 2 * p.bound + 3 = omega arith in
    rw (forms_are_all p.nodes, for_each, last_of (length p.nodes) (2 * p.bound + 3) some) (omega arith)

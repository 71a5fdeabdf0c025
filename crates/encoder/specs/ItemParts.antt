-- The parts of the CNF's items, as the writers' functions divide them. Assumes nothing.
use Rattle.std.specs.Prelude.{◌≡◌, List, [], ◌∷◌, ◌++◌, ℕ, ◌+◌, ◌-◌, ℤ, length}
use Rattle.answers.specs.Lists.{numbers, each}
use Rattle.clauses.specs.Clauses.{Clause, negated}
use Rattle.meaning.specs.Problem.{Problem, Node, latch, atom, both, either, next, until, release}
use Rattle.meaning.specs.Cnf.{equal_form, or_form, and_form, until_form, release_form, positions, selector, literal_at, left_at, latch_at, next_at, latch_numbers, gate_clauses, constraint_unit, reset_unit, closing_clauses, P, p_clauses, q_clauses, e_clauses}
use Rattle.encoder.specs.declared.forms.OpForm.{OpForm}
use Rattle.encoder.specs.declared.forms.OpForm.TheVariants.{Equal, And, Or, Until, Release}
use Rattle.encoder.specs.Numbering.{Negatable}

-- Item 6: "(-s(l) -s(m))".
abbrev pub excluded_pair : ℤ → ℤ → List Clause
excluded_pair s m = (negated s ∷ negated m ∷ []) ∷ []

-- Items 2, 4 and 5, and the constraints, at one position.
abbrev pub gates_at : Problem → ℕ → List Clause
gates_at p t = each (numbers 0 (length p.gates)) (gate_clauses p t)

abbrev pub constraints_at : Problem → ℕ → List Clause
constraints_at p t = each (numbers 0 (length p.constraints)) (constraint_unit p t)

abbrev pub step_clauses : Problem → ℕ → ℕ → List Clause
step_clauses p t i = equal_form (latch_at p (t + 1) i) (next_at p t i)

abbrev pub steps_at : Problem → ℕ → List Clause
steps_at p t = each (latch_numbers p) (step_clauses p t)

abbrev pub closings_at : Problem → ℕ → List Clause
closings_at p l = each (latch_numbers p) (closing_clauses p l)

-- Item 3 of one latch.
abbrev pub reset_clauses : Problem → ℕ → List Clause
reset_clauses p i = reset_unit (latch p i).reset (latch_at p 0 i)

-- Item 6 of one l.
abbrev pub selectors_after : Problem → ℕ → List Clause
selectors_after p l = each (numbers (l + 1) (p.bound - l)) (λ m. excluded_pair (selector p l) (selector p m))

-- .. and of the selector i places after the next one.
abbrev pub pair_after : Problem → ℕ → ℕ → List Clause
pair_after p l i = excluded_pair (selector p l) (selector p (l + 1 + i))

-- ════════ Item 7 of one node ════════

-- x has the op's form over the children at i; U and R end with y.
abbrev pub form_clauses : Problem → ℤ → Node → ℕ → ℤ → List Clause
form_clauses p x (atom a) i y = equal_form x (literal_at p i a)
form_clauses p x (both a b) i y = and_form x (P p a i) (P p b i)
form_clauses p x (either a b) i y = or_form x (P p a i) (P p b i)
form_clauses p x (next a) i y = equal_form x (P p a (i + 1))
form_clauses p x (until a b) i y = until_form x (left_at p a i) (P p b i) y
form_clauses p x (release a b) i y = release_form x (left_at p a i) (P p b i) y

-- x has a form over literals that are known; Until and Release end with y.
abbrev pub form_over : OpForm → ℤ → ℤ → List Clause
form_over (Equal a) x y = equal_form x a
form_over (And a b) x y = and_form x a b
form_over (Or a b) x y = or_form x a b
form_over (Until a b) x y = until_form x a b y
form_over (Release a b) x y = release_form x a b y

abbrev pub NegatableForm : OpForm → Type 0
NegatableForm (Equal a) = Negatable a
NegatableForm (And a b) = Negatable a × Negatable b
NegatableForm (Or a b) = Negatable a × Negatable b
NegatableForm (Until a b) = Negatable a × Negatable b
NegatableForm (Release a b) = Negatable a × Negatable b

-- The op's form over the children at i.
pub record FormOf (p : Problem) (node : Node) (i : ℕ) (f : OpForm) : Type 0 where
  pub is : (x y : ℤ) → form_over f x y ≡ form_clauses p x node i y
  pub negatable : NegatableForm f

-- P and Q at a position, at all of them, and the clauses of E, of a node x with the number n.
abbrev pub value_clauses : Problem → ℕ → Node → ℕ → List Clause
value_clauses p n x i = p_clauses p n x i ++ q_clauses p n x i

abbrev pub values_of : Problem → ℕ → Node → List Clause
values_of p n x = each (positions p) (value_clauses p n x)

abbrev pub ends_of : Problem → ℕ → Node → List Clause
ends_of p n x = each (positions p) (e_clauses p n x)

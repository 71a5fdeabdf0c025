-- Document 01, "The CNF": the clauses of a problem, items 1 to 8 in order, with the constraints of Q-6 of document 02. Assumes nothing.
use Rattle.std.specs.Prelude.{Bool, true, false, cond, List, [], ◌∷◌, ◌++◌, map, ℕ, zero, suc, ◌+◌, ◌*◌, ◌-◌, ◌/◌, ℤ, pos, leb, length}
use Rattle.answers.specs.Lists.{numbers, each, joined}
use Rattle.clauses.specs.Clauses.{Clause, negated}
use Rattle.clauses.specs.CnfWords.{words_of}
use Rattle.meaning.specs.Problem.{Problem, Left, Node, W, latch_variable, gate_variable, latch, gate, constraint, node, constant, child, atom, both, either, next, until, release}
use Rattle.meaning.specs.Runs.{odd}

-- ════════ Variables ════════

-- "Variable 1 is the constant true."
abbrev pub true_literal : ℤ
true_literal = pos 1

abbrev pub false_literal : ℤ
false_literal = negated true_literal

-- "Circuit variable v at t is 1 + tW + v"; variable 0 is the constant false.
abbrev pub circuit_variable : Problem → ℕ → ℕ → ℤ
circuit_variable p t zero = false_literal
circuit_variable p t (suc v) = pos (1 + t * W p + suc v)

abbrev pub signed : Bool → ℤ → ℤ
signed true x = negated x
signed false x = x

-- A circuit literal at t; "literal 0 is -1 and literal 1 is 1".
abbrev pub literal_at : Problem → ℕ → ℕ → ℤ
literal_at p t x = signed (odd x) (circuit_variable p t (x / 2))

-- "Selector s(l) is (k+1)W + 2 + l."
abbrev pub selector : Problem → ℕ → ℤ
selector p l = pos ((p.bound + 1) * W p + 2 + l)

-- "Node n has P(n,0..k), Q(n,0..k), E(n), from (k+1)(W+1) + 2 + n(2k+3) on."
abbrev pub node_variables : Problem → ℕ → ℕ
node_variables p n = (p.bound + 1) * (W p + 1) + 2 + n * (2 * p.bound + 3)

abbrev pub E : Problem → ℕ → ℤ
E p n = pos (node_variables p n + 2 * (p.bound + 1))

-- "P(n,k+1) is read as E(n)."
abbrev pub P : Problem → ℕ → ℕ → ℤ
P p n i = cond (leb i p.bound) (pos (node_variables p n + i)) (E p n)

-- "Q(n,k+1) is -1 for F and U, 1 for G and R": the end is given.
abbrev pub Q : Problem → ℕ → ℤ → ℕ → ℤ
Q p n end i = cond (leb i p.bound) (pos (node_variables p n + (p.bound + 1) + i)) end

-- "V, the number of variables, is that of E(N-1)."
unfoldable pub variables : Problem → ℕ
variables p = node_variables p (length p.nodes - 1) + 2 * (p.bound + 1)

-- ════════ Forms ════════

-- "x=a: (-x a)(x -a)"
abbrev pub equal_form : ℤ → ℤ → List Clause
equal_form x a = (negated x ∷ a ∷ []) ∷ (x ∷ negated a ∷ []) ∷ []

-- "x=a and b: (-x a)(-x b)(x -a -b)"
abbrev pub and_form : ℤ → ℤ → ℤ → List Clause
and_form x a b = (negated x ∷ a ∷ []) ∷ (negated x ∷ b ∷ []) ∷ (x ∷ negated a ∷ negated b ∷ []) ∷ []

-- "x=a or b: (x -a)(x -b)(-x a b)"
abbrev pub or_form : ℤ → ℤ → ℤ → List Clause
or_form x a b = (x ∷ negated a ∷ []) ∷ (x ∷ negated b ∷ []) ∷ (negated x ∷ a ∷ b ∷ []) ∷ []

-- "Until(x,a,b,y): (x -b)(x -a -y)(-x b a)(-x b y)"
abbrev pub until_form : ℤ → ℤ → ℤ → ℤ → List Clause
until_form x a b y =
    (x ∷ negated b ∷ [])
    ∷ (x ∷ negated a ∷ negated y ∷ [])
    ∷ (negated x ∷ b ∷ a ∷ [])
    ∷ (negated x ∷ b ∷ y ∷ [])
    ∷ []

-- "Release(x,a,b,y): (-x b)(-x a y)(x -b -a)(x -b -y)"
abbrev pub release_form : ℤ → ℤ → ℤ → ℤ → List Clause
release_form x a b y =
    (negated x ∷ b ∷ [])
    ∷ (negated x ∷ a ∷ y ∷ [])
    ∷ (x ∷ negated b ∷ negated a ∷ [])
    ∷ (x ∷ negated b ∷ negated y ∷ [])
    ∷ []

-- Items 5 and 7, x=a where s: "(-s -x a)(-s x -a)"
abbrev pub guarded_form : ℤ → ℤ → ℤ → List Clause
guarded_form s x a = (negated s ∷ negated x ∷ a ∷ []) ∷ (negated s ∷ x ∷ negated a ∷ []) ∷ []

-- ════════ Items 1 to 6: the circuit and the selectors ════════

-- "1. (1)."
abbrev pub truth_item : List Clause
truth_item = (true_literal ∷ []) ∷ []

abbrev pub positions : Problem → List ℕ
positions p = numbers 0 (p.bound + 1)

abbrev pub latch_numbers : Problem → List ℕ
latch_numbers p = numbers 0 (length p.latches)

abbrev pub latch_at : Problem → ℕ → ℕ → ℤ
latch_at p t i = circuit_variable p t (latch_variable p i)

abbrev pub next_at : Problem → ℕ → ℕ → ℤ
next_at p t i = literal_at p t (latch p i).next

abbrev pub gate_clauses : Problem → ℕ → ℕ → List Clause
gate_clauses p t j =
    and_form (circuit_variable p t (gate_variable p j)) (literal_at p t (gate p j).left) (literal_at p t (gate p j).right)

-- "2. Each t, each gate."
abbrev pub gates_item : Problem → List Clause
gates_item p = each (positions p) (λ t. each (numbers 0 (length p.gates)) (gate_clauses p t))

abbrev pub constraint_unit : Problem → ℕ → ℕ → List Clause
constraint_unit p t c = (literal_at p t (constraint p c) ∷ []) ∷ []

-- Q-6: "Their unit clauses stand after item 2, by position, then in order."
abbrev pub constraints_item : Problem → List Clause
constraints_item p = each (positions p) (λ t. each (numbers 0 (length p.constraints)) (constraint_unit p t))

abbrev pub reset_unit : ℕ → ℤ → List Clause
reset_unit zero x = (negated x ∷ []) ∷ []
reset_unit (suc zero) x = (x ∷ []) ∷ []
reset_unit (suc (suc r)) x = []

-- "3. Unit for each latch with reset 0 or 1."
abbrev pub resets_item : Problem → List Clause
resets_item p = each (latch_numbers p) (λ i. reset_unit (latch p i).reset (latch_at p 0 i))

-- "4. t = 0..k-1, each latch: latch at t+1 = next at t."
abbrev pub steps_item : Problem → List Clause
steps_item p = each (numbers 0 p.bound) (λ t. each (latch_numbers p) (λ i. equal_form (latch_at p (t + 1) i) (next_at p t i)))

abbrev pub closing_clauses : Problem → ℕ → ℕ → List Clause
closing_clauses p l i = guarded_form (selector p l) (latch_at p l i) (next_at p p.bound i)

-- "5. Each l, each latch x with next a at k: (-s -x a)(-s x -a)."
abbrev pub closing_item : Problem → List Clause
closing_item p = each (positions p) (λ l. each (latch_numbers p) (closing_clauses p l))

-- "6. l < m, by l then m: (-s(l) -s(m))."
abbrev pub selectors_item : Problem → List Clause
selectors_item p =
    each (positions p) (λ l.
    each (numbers (l + 1) (p.bound - l)) (λ m. (negated (selector p l) ∷ negated (selector p m) ∷ []) ∷ []))

-- ════════ Items 7 and 8: the nodes ════════

-- "F has constant true on the left of U, G constant false on the left of R."
abbrev pub left_at : Problem → Left → ℕ → ℤ
left_at p (constant true) i = true_literal
left_at p (constant false) i = false_literal
left_at p (child c) i = P p c i

-- "P(n,i) has the op's form over the children's P(i); an atom is x=a. Next takes P(child,i+1)."
abbrev pub p_clauses : Problem → ℕ → Node → ℕ → List Clause
p_clauses p n (atom x) i = equal_form (P p n i) (literal_at p i x)
p_clauses p n (both a b) i = and_form (P p n i) (P p a i) (P p b i)
p_clauses p n (either a b) i = or_form (P p n i) (P p a i) (P p b i)
p_clauses p n (next a) i = equal_form (P p n i) (P p a (i + 1))
p_clauses p n (until a b) i = until_form (P p n i) (left_at p a i) (P p b i) (P p n (i + 1))
p_clauses p n (release a b) i = release_form (P p n i) (left_at p a i) (P p b i) (P p n (i + 1))

-- "Q(n,k+1) is -1 for F and U, 1 for G and R"; ops 0 to 3 never read it.
abbrev pub q_end : Node → ℤ
q_end (atom x) = false_literal
q_end (both a b) = false_literal
q_end (either a b) = false_literal
q_end (next a) = false_literal
q_end (until a b) = false_literal
q_end (release a b) = true_literal

abbrev pub q_at : Problem → ℕ → Node → ℕ → ℤ
q_at p n x i = Q p n (q_end x) i

-- "Q(n,i) = P(n,i) for ops 0 to 3; for the others it has the same form with y = Q(n,i+1)"
abbrev pub q_clauses : Problem → ℕ → Node → ℕ → List Clause
q_clauses p n (atom x) i = equal_form (q_at p n (atom x) i) (P p n i)
q_clauses p n (both a b) i = equal_form (q_at p n (both a b) i) (P p n i)
q_clauses p n (either a b) i = equal_form (q_at p n (either a b) i) (P p n i)
q_clauses p n (next a) i = equal_form (q_at p n (next a) i) (P p n i)
q_clauses p n (until a b) i =
    until_form (q_at p n (until a b) i) (left_at p a i) (P p b i) (q_at p n (until a b) (i + 1))
q_clauses p n (release a b) i =
    release_form (q_at p n (release a b) i) (left_at p a i) (P p b i) (q_at p n (release a b) (i + 1))

-- "for each l (-s(l) -E Q(l))(-s(l) E -Q(l))"
abbrev pub e_clauses : Problem → ℕ → Node → ℕ → List Clause
e_clauses p n x l = guarded_form (selector p l) (E p n) (q_at p n x l)

-- "then (-E s(0)..s(k))"
abbrev pub e_closed : Problem → ℕ → Clause
e_closed p n = negated (E p n) ∷ map (selector p) (positions p)

-- "7. Each node: for i = 0..k, P then Q; then .."
abbrev pub node_clauses : Problem → ℕ → List Clause
node_clauses p n =
    each (positions p) (λ i. p_clauses p n (node p n) i ++ q_clauses p n (node p n) i)
    ++ each (positions p) (e_clauses p n (node p n))
    ++ (e_closed p n ∷ [])

abbrev pub nodes_item : Problem → List Clause
nodes_item p = each (numbers 0 (length p.nodes)) (node_clauses p)

-- "8. (P(N-1,0))."
abbrev pub formula_item : Problem → List Clause
formula_item p = (P p (length p.nodes - 1) 0 ∷ []) ∷ []

-- ════════ The whole ════════

-- Items 1 to 8, in order, the constraints after item 2.
abbrev pub cnf_items : Problem → List (List Clause)
cnf_items p =
    truth_item
    ∷ gates_item p
    ∷ constraints_item p
    ∷ resets_item p
    ∷ steps_item p
    ∷ closing_item p
    ∷ selectors_item p
    ∷ nodes_item p
    ∷ formula_item p
    ∷ []

unfoldable pub cnf : Problem → List Clause
cnf p = joined (cnf_items p)

-- "Signed 32-bit words, each clause ended by 0."
unfoldable pub cnf_words : Problem → List ℤ
cnf_words p = words_of (cnf p)

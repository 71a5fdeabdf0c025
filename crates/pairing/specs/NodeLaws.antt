-- What the clauses of item 7 ask of the values of P, Q and E, as equations between Bools. Assumes nothing.
use Rattle.std.specs.Prelude.{Bool, true, false, ◌&&◌, ◌||◌, cond, List, ◌≡◌, ℕ, ◌+◌, ◌≤◌, ◌<◌, leb, length}
use Rattle.meaning.specs.Problem.{Problem, Left, Node, node, constant, child, atom, both, either, next, until, release}
use Rattle.meaning.specs.Proper.{LeftProper}
use Rattle.meaning.specs.Runs.{literal_value}
use Rattle.meaning.specs.Bounded.{Shape, prefix, lasso}

-- "Children are earlier node numbers": `NodeProper` without the range of an atom's literal.
abbrev pub Earlier : ℕ → Node → Type 0
Earlier n (atom x) = Unit
Earlier n (both a b) = (a < n) × (b < n)
Earlier n (either a b) = (a < n) × (b < n)
Earlier n (next a) = a < n
Earlier n (until a b) = LeftProper n a × (b < n)
Earlier n (release a b) = LeftProper n a × (b < n)

-- All that trees, and the laws below, ask of a problem.
pub record ChildrenEarlier (p : Problem) : Type 0 where
  pub earlier : (n : ℕ) → n < length p.nodes → Earlier n (node p n)

-- The value on the left of U and R.
abbrev pub left_value : (ℕ → ℕ → Bool) → Left → ℕ → Bool
left_value P (constant b) i = b
left_value P (child c) i = P c i

-- The value at i + 1, or past k the end.
abbrev pub at_next : ℕ → (ℕ → Bool) → Bool → ℕ → Bool
at_next k f end i = cond (leb (i + 1) k) (f (i + 1)) end

-- The op's value over the children's P at i, where y stands for the node's own next value.
abbrev pub op_value : ℕ → (ℕ → List Bool) → (ℕ → ℕ → Bool) → (ℕ → Bool) → Node → ℕ → Bool → Bool
op_value k rows P E (atom x) i y = literal_value (rows i) x
op_value k rows P E (both a b) i y = P a i && P b i
op_value k rows P E (either a b) i y = P a i || P b i
op_value k rows P E (next a) i y = at_next k (P a) (E a) i
op_value k rows P E (until a b) i y = P b i || (left_value P a i && y)
op_value k rows P E (release a b) i y = P b i && (left_value P a i || y)

-- Q past k: true for R alone. Ops 0 to 3 do not read it.
abbrev pub q_end : Node → Bool
q_end (atom x) = false
q_end (both a b) = false
q_end (either a b) = false
q_end (next a) = false
q_end (until a b) = false
q_end (release a b) = true

-- Q is P for ops 0 to 3; for the others the op's value with Q's own next value, which past k is false for U and true for R.
abbrev pub q_value : ℕ → (ℕ → List Bool) → (ℕ → ℕ → Bool) → (ℕ → Bool) → (ℕ → Bool) → Node → ℕ → ℕ → Bool
q_value k rows P E Q (atom x) n i = P n i
q_value k rows P E Q (both a b) n i = P n i
q_value k rows P E Q (either a b) n i = P n i
q_value k rows P E Q (next a) n i = P n i
q_value k rows P E Q (until a b) n i = op_value k rows P E (until a b) i (at_next k Q false i)
q_value k rows P E Q (release a b) n i = op_value k rows P E (release a b) i (at_next k Q true i)

-- E is Q at the loop's start; without a loop it is false.
abbrev pub e_value : Shape → (ℕ → Bool) → Bool
e_value prefix Q = false
e_value (lasso l) Q = Q l

pub record NodeLaws (p : Problem) (s : Shape) (rows : ℕ → List Bool) (P Q : ℕ → ℕ → Bool) (E : ℕ → Bool) : Type 0 where
  pub p_law : (n i : ℕ) → n < length p.nodes → i ≤ p.bound
      → P n i ≡ op_value p.bound rows P E (node p n) i (at_next p.bound (P n) (E n) i)
  pub q_law : (n i : ℕ) → n < length p.nodes → i ≤ p.bound
      → Q n i ≡ q_value p.bound rows P E (Q n) (node p n) n i
  pub e_law : (n : ℕ) → n < length p.nodes → E n ≡ e_value s (Q n)

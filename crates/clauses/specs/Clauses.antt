-- Clauses, assignments, satisfaction. A literal is a signed number: n for variable n, -n for its negation. Assumes nothing.
use Rattle.std.specs.Prelude.{Bool, true, false, not, ◌&&◌, List, ◌≡◌, ℕ, zero, suc, ℤ, pos, negsuc, neg_ℤ, leb, eqb, get_or}
use Rattle.answers.specs.Lists.{some_of, all_of}

abbrev pub Clause : Type 0
Clause = List ℤ

-- An assignment gives variables 1, 2, .. their values, in this order.
abbrev pub Assignment : Type 0
Assignment = List Bool

-- "a negated literal is a negative number"
abbrev pub negated : ℤ → ℤ
negated = neg_ℤ

-- The word -n.
abbrev pub minus : ℕ → ℤ
minus n = negated (pos n)

-- The size of a word, without its sign.
abbrev pub size : ℤ → ℕ
size (pos n) = n
size (negsuc n) = suc n

-- The number of a literal's variable.
abbrev pub variable_of : ℤ → ℕ
variable_of w = size w

-- The word 0 ends a clause and is no literal; as one it would be false.
abbrev pub literal_true : Assignment → ℤ → Bool
literal_true a (pos zero) = false
literal_true a (pos (suc v)) = get_or a v false
literal_true a (negsuc v) = not (get_or a v false)

abbrev pub clause_true : Assignment → Clause → Bool
clause_true a c = some_of (literal_true a) c

abbrev pub all_true : Assignment → List Clause → Bool
all_true a cs = all_of (clause_true a) cs

-- The assignment makes each clause true.
abbrev pub Satisfies : Assignment → List Clause → Type 0
Satisfies a cs = all_true a cs ≡ true

-- A literal of a CNF with so many variables: not the word 0, and its variable's number at most theirs.
abbrev pub literal_within : ℕ → ℤ → Bool
literal_within variables w = leb 1 (variable_of w) && leb (variable_of w) variables

abbrev pub Within : ℕ → List Clause → Type 0
Within variables cs = all_of (all_of (literal_within variables)) cs ≡ true

-- Two literals are one.
abbrev pub same : ℤ → ℤ → Bool
same (pos m) (pos n) = eqb m n
same (pos m) (negsuc n) = false
same (negsuc m) (pos n) = false
same (negsuc m) (negsuc n) = eqb m n

abbrev pub among : ℤ → List ℤ → Bool
among w ws = some_of (same w) ws

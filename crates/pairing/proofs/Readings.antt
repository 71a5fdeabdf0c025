-- What the literals of the CNF read: the values that the reading of an assignment gives them. Assumes nothing.
use mathlib.Core.Path.{◌≡◌, refl}
use mathlib.Core.Bool.{Bool, true, false}
use Prim.Native.Nat.{ℕ, zero, suc, ◌+◌, ◌*◌, ◌/◌, ◌≤◌, ◌<◌}
use native.Mathlib.Nat.{not-suc-le-zero}
use native.Mathlib.Omega.{arith}
use borrow.Author.Tests.{le-leb}
use lib.IntN.{ℤ, pos}
use lib.Dec.{leb}
use Rattle.clauses.specs.Clauses.{Assignment, literal_true}
use Rattle.meaning.specs.Problem.{Problem, W, Left, constant, child}
use Rattle.meaning.specs.Runs.{odd, literal_value}
use Rattle.meaning.specs.Cnf as Cnf
use Rattle.meaning.specs.Cnf.{true_literal, false_literal, circuit_variable, literal_at, selector, left_at}
use Rattle.meaning.proofs.Numbers.{get_or_map_numbers}
use Rattle.pairing.specs.NodeLaws.{left_value, at_next}
use Rattle.pairing.specs.ModelLaws.{reading, row}
use Rattle.pairing.proofs.Forms.{Reads, literal_reads, negated_reads, signed_reads, cond_reads}

-- ════════ Variables ════════

-- A variable with a number from 1 on reads its own value.
variable_reads : (a : Assignment) (n : ℕ) → 1 ≤ n → Reads a (pos n) (literal_true a (pos n))
variable_reads a zero h = absurd (not-suc-le-zero h)
variable_reads a (suc n) h = literal_reads a (pos (suc n)) refl

module _ (p : Problem) (a : Assignment) where
  pub circuit_reads : (t v : ℕ) → Reads a (circuit_variable p t v) ((reading p a).circuit t v)
  circuit_reads t zero = literal_reads a false_literal refl
  circuit_reads t (suc v) = variable_reads a _ (omega arith)

  pub selector_reads : (l : ℕ) → Reads a (selector p l) ((reading p a).chosen l)
  selector_reads l = variable_reads a _ (omega arith)

  pub e_reads : (n : ℕ) → Reads a (Cnf.E p n) ((reading p a).E n)
  e_reads n = variable_reads a _ (omega arith)

-- ════════ Circuit literals ════════

module _ (p : Problem) (a : Assignment) where
  half_below : (x : ℕ) → x ≤ 2 * W p + 1 → x / 2 < W p + 1
  half_below x h = omega arith

  pub literal_at_reads : (t x : ℕ) → x ≤ 2 * W p + 1 → Reads a (literal_at p t x) (literal_value (row p (reading p a) t) x)
  literal_at_reads t x h =
      rw (get_or_map_numbers ((reading p a).circuit t) (W p + 1) (x / 2) false (half_below x h))
      (signed_reads (odd x) (circuit_reads p a t (x / 2)))

-- ════════ Nodes ════════

module _ (p : Problem) (a : Assignment) where
  pub p_reads : (n i : ℕ) → i ≤ p.bound → Reads a (Cnf.P p n i) ((reading p a).P n i)
  p_reads n i h = rw (le-leb i p.bound h) (variable_reads a _ (omega arith))

  pub p_next_reads : (n i : ℕ) → Reads a (Cnf.P p n (i + 1)) (at_next p.bound ((reading p a).P n) ((reading p a).E n) i)
  p_next_reads n i = cond_reads (leb (i + 1) p.bound) (variable_reads a _ (omega arith)) (e_reads p a n)

  pub q_reads : (n : ℕ) (end : ℤ) (i : ℕ) → i ≤ p.bound → Reads a (Cnf.Q p n end i) ((reading p a).Q n i)
  q_reads n end i h = rw (le-leb i p.bound h) (variable_reads a _ (omega arith))

  pub q_next_reads : (n : ℕ) {end : ℤ} {b : Bool} (i : ℕ) → Reads a end b
      → Reads a (Cnf.Q p n end (i + 1)) (at_next p.bound ((reading p a).Q n) b i)
  q_next_reads n i e = cond_reads (leb (i + 1) p.bound) (variable_reads a _ (omega arith)) e

-- ════════ Constants ════════

module _ (a : Assignment) (truth : literal_true a true_literal ≡ true) where
  pub true_reads : Reads a true_literal true
  true_reads = rw truth at (literal_reads a true_literal refl)

  pub false_reads : Reads a false_literal false
  false_reads = negated_reads true_reads

  -- Variable 0 of the circuit is false at each position.
  pub variable_0_false : (p : Problem) (t : ℕ) → (reading p a).circuit t 0 ≡ false
  variable_0_false p t = false_reads.value

  pub left_reads : (p : Problem) (c : Left) (i : ℕ) → i ≤ p.bound → Reads a (left_at p c i) (left_value (reading p a).P c i)
  left_reads p (constant true) i h = true_reads
  left_reads p (constant false) i h = false_reads
  left_reads p (child c) i h = p_reads p a c i h

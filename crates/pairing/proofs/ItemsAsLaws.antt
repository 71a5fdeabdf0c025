-- Items 1 to 6 and 8 of the CNF, and the constraints, each satisfied exactly where its law of the reading holds. Assumes nothing.
use mathlib.Core.Path.{◌≡◌, refl}
use mathlib.Core.Logic.Iff
use mathlib.Core.Logic.{◌↔◌}
use mathlib.Core.Bool.{Bool, true, false, ◌&&◌}
use mathlib.Core.List.{List, ◌++◌}
use Prim.Native.Nat.{ℕ, zero, suc, ◌+◌, ◌-◌, ◌≤◌, ◌<◌, zero-le}
use native.Mathlib.Omega.{arith}
use lib.IntN.{ℤ}
use lib.ListN.{length}
use Rattle.answers.specs.Lists.{numbers, each}
use Rattle.clauses.specs.Clauses.{Clause, Assignment, clause_true, Satisfies}
use Rattle.clauses.proofs.Satisfaction.{satisfies_append, satisfies_first, satisfies_second}
use Rattle.meaning.specs.Problem.{Problem, latch, gate, constraint, latch_variable, gate_variable}
use Rattle.meaning.specs.Proper.{Proper}
use Rattle.meaning.specs.Runs.{literal_value, gate_value, meets_reset}
use Rattle.meaning.specs.Cnf.{true_literal, next_at, truth_item, gates_item, constraints_item, reset_unit, resets_item, steps_item, closing_item, selectors_item, formula_item}
use Rattle.meaning.proofs.Numbers.{all_of_each_number, all_of_number, all_of_each_below, all_of_below}
use Rattle.pairing.specs.ModelLaws.{reading, row}
use Rattle.pairing.proofs.Forms.{Reads, literal_reads, negated_reads, unit_is, equal_form_is, and_form_is, guarded_form_is, one_false_is}
use Rattle.pairing.proofs.Readings.{circuit_reads, selector_reads, literal_at_reads, p_reads}

-- ════════ Lists of clauses ════════

module _ (a : Assignment) where
  pub append_is : {A B : Type 0} (cs ds : List Clause) → Satisfies a cs ↔ A → Satisfies a ds ↔ B → Satisfies a (cs ++ ds) ↔ (A × B)
  append_is cs ds e f = (
    λ s. (e.0 (satisfies_first a cs ds s), f.0 (satisfies_second a cs ds s)),
    λ h. satisfies_append a cs ds (e.1 h.0) (f.1 h.1),
  )

  module _ (f : ℕ → List Clause) {L : ℕ → Type 0} where
    pub each_below_is : (n : ℕ) → ((i : ℕ) → i < n → Satisfies a (f i) ↔ L i)
        → Satisfies a (each (numbers 0 n) f) ↔ ((i : ℕ) → i < n → L i)
    each_below_is n e = (
      λ s i l. (e i l).0 (all_of_below (clause_true a) f n s i l),
      λ h. all_of_each_below (clause_true a) f n (λ i l. (e i l).1 (h i l)),
    )

    pub each_up_to_is : (k : ℕ) → ((i : ℕ) → i ≤ k → Satisfies a (f i) ↔ L i)
        → Satisfies a (each (numbers 0 (k + 1)) f) ↔ ((i : ℕ) → i ≤ k → L i)
    each_up_to_is k e =
        let b = each_below_is (k + 1) (λ i l. e i (omega arith)) in
        (λ s i l. b.0 s i (omega arith), λ h. b.1 (λ i l. h i (omega arith)))

    pub each_above_is : (l k : ℕ) → ((m : ℕ) → l < m → m ≤ k → Satisfies a (f m) ↔ L m)
        → Satisfies a (each (numbers (l + 1) (k - l)) f) ↔ ((m : ℕ) → l < m → m ≤ k → L m)
    each_above_is l k e = (
      λ s m h b. (e m h b).0 (rw (place m h) at (all_of_number (clause_true a) f (l + 1) (k - l) s (m - (l + 1)) (omega arith))),
      λ h. all_of_each_number (clause_true a) f (l + 1) (k - l) (λ j b.
          let above : l < l + 1 + j = omega arith in
          let within : l + 1 + j ≤ k = omega arith in
          (e (l + 1 + j) above within).1 (h (l + 1 + j) above within)),
    )
      where
        place : (m : ℕ) → l < m → l + 1 + (m - (l + 1)) ≡ m
        place m h = omega arith

-- Of two numbers, each behind its bound or both before the bounds.
numbers_first : {A B : ℕ → Type 0} {L : ℕ → ℕ → Type 0}
    → ((t : ℕ) → A t → (j : ℕ) → B j → L t j) ↔ ((t j : ℕ) → A t → B j → L t j)
numbers_first = (λ h t j x y. h t x j y, λ h t x j y. h t j x y)

-- ════════ The items ════════

module _ (p : Problem) (a : Assignment) where
  -- "1. (1)."
  pub truth_item_is : Satisfies a truth_item ↔ ((reading p a).truth ≡ true)
  truth_item_is = unit_is (literal_reads a true_literal refl)

  -- "2. Each t, each gate."
  pub gates_item_is : Proper p → Satisfies a (gates_item p) ↔ ((t j : ℕ) → t ≤ p.bound → j < length p.gates
      → (reading p a).circuit t (gate_variable p j) ≡ gate_value (row p (reading p a) t) (gate p j))
  gates_item_is proper =
      Iff.trans (each_up_to_is a _ p.bound (λ t h. each_below_is a _ (length p.gates) (λ j l.
      and_form_is (circuit_reads p a t (gate_variable p j))
      (literal_at_reads p a t (gate p j).left (omega (arith, proper.left_below j l)))
      (literal_at_reads p a t (gate p j).right (omega (arith, proper.right_below j l)))))) numbers_first

  -- "Their unit clauses stand after item 2, by position, then in order."
  pub constraints_item_is : Proper p → Satisfies a (constraints_item p) ↔ ((t c : ℕ) → t ≤ p.bound → c < length p.constraints
      → literal_value (row p (reading p a) t) (constraint p c) ≡ true)
  constraints_item_is proper =
      Iff.trans (each_up_to_is a _ p.bound (λ t h. each_below_is a _ (length p.constraints) (λ c l.
      unit_is (literal_at_reads p a t (constraint p c) (proper.constraints_in_range c l))))) numbers_first

  reset_unit_is : (r : ℕ) {x : ℤ} {b : Bool} → Reads a x b → Satisfies a (reset_unit r x) ↔ (meets_reset r b ≡ true)
  reset_unit_is zero rx = unit_is (negated_reads rx)
  reset_unit_is (suc zero) rx = unit_is rx
  reset_unit_is (suc (suc r)) rx = Iff.rfl

  -- "3. Unit for each latch with reset 0 or 1."
  pub resets_item_is : Satisfies a (resets_item p) ↔ ((i : ℕ) → i < length p.latches
      → meets_reset (latch p i).reset ((reading p a).circuit 0 (latch_variable p i)) ≡ true)
  resets_item_is =
      each_below_is a _ (length p.latches) (λ i l. reset_unit_is (latch p i).reset (circuit_reads p a 0 (latch_variable p i)))

  next_reads : Proper p → (t i : ℕ) → i < length p.latches
      → Reads a (next_at p t i) (literal_value (row p (reading p a) t) (latch p i).next)
  next_reads proper t i l = literal_at_reads p a t (latch p i).next (proper.next_in_range i l)

  -- "4. t = 0..k-1, each latch: latch at t+1 = next at t."
  pub steps_item_is : Proper p → Satisfies a (steps_item p) ↔ ((t i : ℕ) → t < p.bound → i < length p.latches
      → (reading p a).circuit (t + 1) (latch_variable p i) ≡ literal_value (row p (reading p a) t) (latch p i).next)
  steps_item_is proper =
      Iff.trans (each_below_is a _ p.bound (λ t h. each_below_is a _ (length p.latches) (λ i l.
      equal_form_is (circuit_reads p a (t + 1) (latch_variable p i)) (next_reads proper t i l)))) numbers_first

  -- "5. Each l, each latch x with next a at k: (-s -x a)(-s x -a)."
  pub closing_item_is : Proper p → Satisfies a (closing_item p)
      ↔ ((l i : ℕ) → l ≤ p.bound → i < length p.latches → (reading p a).chosen l ≡ true
      → (reading p a).circuit l (latch_variable p i) ≡ literal_value (row p (reading p a) p.bound) (latch p i).next)
  closing_item_is proper =
      Iff.trans (each_up_to_is a _ p.bound (λ l h. each_below_is a _ (length p.latches) (λ i b.
      guarded_form_is (selector_reads p a l) (circuit_reads p a l (latch_variable p i)) (next_reads proper p.bound i b)))) numbers_first

  -- "6. l < m, by l then m: (-s(l) -s(m))."
  pub selectors_item_is : Satisfies a (selectors_item p) ↔ ((l m : ℕ) → l < m → m ≤ p.bound
      → (reading p a).chosen l && (reading p a).chosen m ≡ false)
  selectors_item_is =
      let e = each_up_to_is a _ p.bound (λ l h. each_above_is a _ l p.bound (λ m b c.
      one_false_is (selector_reads p a l) (selector_reads p a m))) in
      (λ s l m b c. e.0 s l (omega arith) m b c, λ h. e.1 (λ l b m c d. h l m c d))

  -- "8. (P(N-1,0))."
  pub formula_item_is : Satisfies a (formula_item p) ↔ ((reading p a).P (length p.nodes - 1) 0 ≡ true)
  formula_item_is = unit_is (p_reads p a (length p.nodes - 1) 0 zero-le)

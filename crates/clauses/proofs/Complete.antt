-- A CNF that no assignment satisfies has a refutation: each value of each variable in turn is denied. Assumes nothing.
use mathlib.Core.Path.{◌≡◌, refl, ◌∙◌}
use mathlib.Core.Bool.{Bool, true, false, true≢false}
use mathlib.Core.List.{List, [], ◌∷◌, ◌++◌}
use Prim.Native.Nat.{ℕ, zero, suc, ◌+◌, ◌≤◌, ◌<◌, suc-le-suc}
use native.Mathlib.Nat.{lt_of_lt_of_le}
use native.Mathlib.Omega.{arith}
use lib.ListN.{length, get_or, length-append}
use lib.Seq.{get_or-append_seam}
use Rattle.answers.specs.Lists.{all_of}
use Rattle.clauses.specs.Clauses.{Clause, Assignment, clause_true, all_true, Satisfies, literal_within, Within}
use Rattle.clauses.specs.Refutations.{Step, step}
use Rattle.clauses.specs.Refutable.{Refutation}
use Rattle.answers.proofs.Tests.{false_if_not_true, all_of_at}
use Rattle.clauses.proofs.Derivations.{clauses_after_all, clauses_after_append, Extends, extends_self, extends_twice, extends_after_all, RightStep, RightSteps, right_append, last_empty, refutation_by}
use Rattle.clauses.proofs.Splits.{denials, leaf_right, split_right}

-- ════════ A clause that is false ════════

record FalseClause (a : Assignment) (cs : List Clause) : Type 0 where
  place : ℕ
  there : place < length cs
  is_false : clause_true a (get_or cs place []) ≡ false

false_clause : (a : Assignment) (cs : List Clause) → all_true a cs ≡ false → FalseClause a cs
false_clause a [] e = absurd (true≢false e)
false_clause a (c ∷ cs) e = go (clause_true a c) refl (false_clause a cs)
  where
    go : (b : Bool) → clause_true a c ≡ b → (all_true a cs ≡ false → FalseClause a cs) → FalseClause a (c ∷ cs)
    go true p later = let f = later (rw p at e) in record { place = suc f.place; there = suc-le-suc f.there; is_false = f.is_false }
    go false p later = record { place = 0; there = omega arith; is_false = p }

-- ════════ Steps that end in a clause ════════

record Derived (variables : ℕ) (cs : List Clause) (c : Clause) : Type 0 where
  before : List Step
  last_hints : List ℕ
  right : RightSteps variables cs (before ++ (step c last_hints ∷ []))

module _ {variables : ℕ} {cs : List Clause} {c : Clause} (d : Derived variables cs c) where
  abbrev all_steps : List Step
  all_steps = d.before ++ (step c d.last_hints ∷ [])

  -- The place of the last clause.
  abbrev last_place : ℕ
  last_place = length (clauses_after_all cs d.before)

  last_there : last_place < length (clauses_after_all cs all_steps)
  last_there = rw (clauses_after_append, length-append) (omega arith)

  last_clause : get_or (clauses_after_all cs all_steps) last_place [] ≡ c
  last_clause = rw (clauses_after_append, get_or-append_seam)

-- ════════ Values denied in turn ════════

-- From either value of variable i + 1 denied.
module _ {variables : ℕ} {cs : List Clause} (i : ℕ) (bs : List Bool) (d : Derived variables cs (denials i (false ∷ bs)))
    (e : Derived variables (clauses_after_all cs (all_steps d)) (denials i (true ∷ bs))) where
  after_both : Extends (clauses_after_all cs (all_steps d)) (clauses_after_all (clauses_after_all cs (all_steps d)) (all_steps e))
  after_both = extends_after_all (clauses_after_all cs (all_steps d)) (all_steps e)

  last_step : suc i + length bs ≤ variables
      → RightStep variables (clauses_after_all (clauses_after_all cs (all_steps d)) (all_steps e))
      (step (denials (suc i) bs) (suc (last_place d) ∷ suc (last_place e) ∷ []))
  last_step l =
      split_right variables (clauses_after_all (clauses_after_all cs (all_steps d)) (all_steps e)) i bs (last_place d) (last_place e) l
      (lt_of_lt_of_le (last_there d) after_both.longer) (last_there e)
      (after_both.kept (last_place d) (last_there d) ∙ last_clause d) (last_clause e)

  split : suc i + length bs ≤ variables → Derived variables cs (denials (suc i) bs)
  split l = record {
    before = all_steps d ++ all_steps e;
    last_hints = suc (last_place d) ∷ suc (last_place e) ∷ [];
    right =
        right_append variables cs (all_steps d ++ all_steps e) _
        (right_append variables cs (all_steps d) (all_steps e) d.right e.right)
        (rw (clauses_after_append cs (all_steps d) (all_steps e)) (last_step l, tt));
  }

module _ (variables : ℕ) (formula : List Clause) (within : Within variables formula)
    (unsatisfied : (a : Assignment) → length a ≡ variables → Satisfies a formula → ⊥) where
  leaf : (a : Assignment) → length a ≡ variables → (cs : List Clause) → Extends formula cs → Derived variables cs (denials 0 a)
  leaf a e cs x =
      let f = false_clause a formula (false_if_not_true (all_true a formula) (unsatisfied a e)) in
      let same-clause = x.kept f.place f.there in
      record {
        before = [];
        last_hints = suc f.place ∷ [];
        right = (
          leaf_right variables cs a f.place e (lt_of_lt_of_le f.there x.longer)
              (rw same-clause (all_of_at (all_of (literal_within variables)) formula f.place [] within f.there))
              (rw same-clause f.is_false),
          tt,
        );
      }

  -- Values of variables left + 1, .. are given.
  derived : (left : ℕ) (bs : List Bool) (cs : List Clause) → left + length bs ≡ variables → Extends formula cs
      → Derived variables cs (denials left bs)
  derived zero bs cs l x = leaf bs (omega arith) cs x
  derived (suc i) bs cs l x =
      let d = derived i (false ∷ bs) cs (omega arith) x in
      let y = extends_twice x (extends_after_all cs (all_steps d)) in
      split i bs d (derived i (true ∷ bs) (clauses_after_all cs (all_steps d)) (omega arith) y) (omega arith)

-- ════════ The theorem ════════

pub refutable : (variables : ℕ) (cs : List Clause) → Within variables cs
    → ((a : Assignment) → length a ≡ variables → Satisfies a cs → ⊥) → Refutation variables cs
refutable variables cs within unsatisfied =
    let d = derived variables cs within unsatisfied variables [] cs (omega arith) (extends_self cs) in
    refutation_by variables cs (all_steps d) d.right (last_empty d.before d.last_hints)

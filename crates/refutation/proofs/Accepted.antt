-- The hints of a step, taken in order: what is set true so far, and what the hints that are left come to. Assumes nothing.
use mathlib.Core.Path.{◌≡◌, sym, ◌∙◌, ap}
use mathlib.Core.Bool.{Bool, true, false, not}
use mathlib.Core.List.{List, [], ◌∷◌, map}
use Prim.Native.Nat.{ℕ, suc, ◌+◌, ◌<◌}
use native.Mathlib.Numerals.{add-one}
use native.Mathlib.Omega.{arith}
use borrow.Author.Tests.{not-true, not-false, eq-eqb, ne_eqb}
use lib.IntN.{ℤ, pos}
use lib.Dec.{eqb}
use lib.ListN.{length, drop, length-drop, length-map}
use lib.Seq.{drop-cons}
use Rattle.answers.proofs.Tests.{no_elements}
use Rattle.clauses.proofs.StepRule.{by_no_hints, by_hints}
use Rattle.answers.specs.Lists.{empty}
use Rattle.clauses.specs.Clauses.{negated, variable_of, among}
use Rattle.clauses.specs.Refutations.{Lookup, Outcome, conflict, unit, neither, both_signs, hint_outcome, hints_conflict, step, step_accepted}
use Rattle.refutation.specs.Work.{Values, Marked}
use Rattle.refutation.proofs.ClauseLiterals.{literal_at}
use Rattle.refutation.proofs.KnownClauses.{Unset}

pub marked_on : {variables stamp : ℕ} {a b c : List ℕ} → Marked variables stamp a b → Marked variables stamp b c → Marked variables stamp a c
marked_on m n = record { not_later = n.not_later; past = n.past ∙ m.past }

-- How the area stands where the first i hints of a step are taken.
pub record HintsTaken (variables stamp : ℕ) (named : Lookup) (clause hints : List ℤ) (before area : List ℕ) (i : ℕ) : Type 0 where
  pub marked : Marked variables stamp before area
  pub trues : List ℤ
  pub values : Values variables stamp trues area
  pub left : step_accepted named (step clause (map variable_of hints)) ≡ hints_conflict named trues (map variable_of (drop i hints))

pub both_signs_judged : (named : Lookup) (clause hints : List ℤ) → false ≡ not (both_signs clause)
    → eqb (length hints) 0 ≡ step_accepted named (step clause (map variable_of hints))
both_signs_judged named clause hints e =
    ap (λ (n : ℕ). eqb n 0) (sym (length-map hints variable_of))
    ∙ no_elements (map variable_of hints)
    ∙ sym (by_no_hints named (step clause (map variable_of hints)) (not-false (both_signs clause) (sym e)))

pub none_taken : {variables stamp : ℕ} (named : Lookup) (clause hints : List ℤ) {before area : List ℕ} → true ≡ not (both_signs clause)
    → Marked variables stamp before area → Values variables stamp (map negated clause) area
    → HintsTaken variables stamp named clause hints before area 0
none_taken named clause hints e m vs =
    record {
      marked = m;
      trues = map negated clause;
      values = vs;
      left = by_hints named (step clause (map variable_of hints)) (not-true (both_signs clause) (sym e));
    }

none_left : (hs : List ℤ) (n m : ℕ) → m ≡ n + length hs → eqb n m ≡ empty (map variable_of hs)
none_left [] n m e = eq-eqb n m (omega arith)
none_left (h ∷ hs) n m e = ne_eqb n m (λ f. omega arith)

module _ {variables stamp : ℕ} {named : Lookup} {clause hints : List ℤ} {before area : List ℕ} {i : ℕ} (t : HintsTaken variables stamp named clause hints before area i) where
  module _ (l : i < length hints) where
    abbrev h : ℕ
    h = variable_of (literal_at hints i)

    next : step_accepted named (step clause (map variable_of hints)) ≡ hints_conflict named t.trues (h ∷ map variable_of (drop (suc i) hints))
    next = t.left ∙ rw (drop-cons hints i (pos 0) l)

    -- What the hint's outcome makes of the others.
    by_outcome : {o : Outcome} → o ≡ hint_outcome named t.trues h → step_accepted named (step clause (map variable_of hints))
        ≡ elim o as (λ x. Bool) [
          | conflict ↦ empty (map variable_of (drop (suc i) hints))
          | unit u ↦ hints_conflict named (u ∷ t.trues) (map variable_of (drop (suc i) hints))
          | neither ↦ false
        ]
    by_outcome e =
        next
        ∙ ap (λ (o : Outcome). elim o as (λ x. Bool) [
          | conflict ↦ empty (map variable_of (drop (suc i) hints))
          | unit u ↦ hints_conflict named (u ∷ t.trues) (map variable_of (drop (suc i) hints))
          | neither ↦ false
        ]) (sym e)

    pub at_conflict : conflict ≡ hint_outcome named t.trues h → eqb (i + 1) (length hints) ≡ step_accepted named (step clause (map variable_of hints))
    at_conflict e = none_left (drop (suc i) hints) (i + 1) (length hints) (omega (arith, length-drop (suc i) hints)) ∙ sym (by_outcome e)

    pub at_neither : neither ≡ hint_outcome named t.trues h → false ≡ step_accepted named (step clause (map variable_of hints))
    at_neither e = sym (by_outcome e)

    pub at_unit : {u u' : ℤ} {after : List ℕ} → u' ≡ u → unit u ≡ hint_outcome named t.trues h → Unset variables t.trues u
        → Marked variables stamp area after
        → ((trues : List ℤ) → Values variables stamp trues area → among u' trues ≡ false → among (negated u') trues ≡ false → Values variables stamp (u' ∷ trues) after)
        → HintsTaken variables stamp named clause hints before after (i + 1)
    at_unit {u} w e n m set =
        rw (add-one i)
        (record {
          marked = marked_on t.marked m;
          trues = u ∷ t.trues;
          values = rw w at (set t.trues t.values (rw w n.not_true) (rw w n.not_false));
          left = by_outcome e;
        })

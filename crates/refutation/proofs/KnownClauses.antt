-- The clauses that a step's hints can name, by what is written down of them, and what a hint gives. Assumes nothing.
use mathlib.Core.Path.{◌≡◌, refl, sym, ◌∙◌, ap}
use mathlib.Core.Bool.{false}
use mathlib.Core.List.{List, [], ◌∷◌}
use Prim.Native.Nat.{ℕ, suc, ◌+◌, ◌-◌, ◌<◌, ◌≤◌}
use native.Mathlib.Omega.{arith}
use lib.IntN.{ℤ}
use lib.ListN.{length, get_or, take, length-append, length-map}
use lib.Seq.{length-take-le}
use Rattle.clauses.proofs.Lookups.{numbered_some}
use Rattle.answers.proofs.Tests.{both_true, all_of_at, all_of_member}
use Rattle.clauses.proofs.Signs.{word}
use Rattle.clauses.proofs.StepRule.{unit_open}
use Rattle.answers.specs.Lists.{all_of}
use Rattle.clauses.specs.Clauses.{Clause, negated, variable_of, literal_within, among}
use Rattle.clauses.specs.CnfWords.{clauses_of}
use Rattle.clauses.specs.Refutations.{unit, outcome, clause_numbered, hint_outcome, steps_of}
use Rattle.refutation.specs.Work.{LiteralsWithin, clause_from, step_clauses, known, Standing}
use Rattle.refutation.proofs.ClausePlaces.{place_in_refutation}
use Rattle.refutation.proofs.ClauseLiterals.{LiteralAt, literal_at, within_at, within_at_least, within_at_most}

-- ════════ A unit ════════

-- A unit is one of the clause's literals, with no value yet.
pub record Unset (variables : ℕ) (trues : List ℤ) (u : ℤ) : Type 0 where
  pub inside : LiteralsWithin variables (u ∷ [])
  pub not_true : among u trues ≡ false
  pub not_false : among (negated u) trues ≡ false

pub unit_unset : (variables : ℕ) (trues : List ℤ) (c : Clause) {u : ℤ} → LiteralsWithin variables c → outcome trues c ≡ unit u → Unset variables trues u
unit_unset variables trues c inside e =
    let o = unit_open trues c e in
    record {
      inside = both_true (all_of_member (literal_within variables) o.of_clause inside) refl;
      not_true = o.no_true;
      not_false = o.no_false;
    }

-- ════════ By the places that are written down ════════

module _ {variables : ℕ} {cnf ws : List ℤ} {clauses s : ℕ} {area : List ℕ} (st : Standing variables cnf ws clauses s area) where
  pub steps_length : length (step_clauses ws s) ≡ s
  steps_length = length-map (take s (steps_of ws)) (λ t. t.clause) ∙ length-take-le s (steps_of ws) st.begun

  pub known_length : length (known cnf ws s) ≡ clauses + s
  known_length = length-append (clauses_of cnf) (step_clauses ws s) ∙ omega (arith, steps_length, st.counted)

  -- A hint that names one of them.
  module _ (h : ℕ) (some : 1 ≤ h) (below : h ≤ clauses + s) where
    -- The clause that it names.
    abbrev pub clause_known : Clause
    clause_known = get_or (known cnf ws s) (h - 1) []

    is_known : h ≤ length (known cnf ws s)
    is_known = rw known_length below

    pub hint_in_refutation : clauses < h → (get_or area (h - 1) 0 ≤ length ws) × (clause_from ws (get_or area (h - 1) 0) ≡ clause_known)
    hint_in_refutation past = place_in_refutation (clauses_of cnf) st.of_steps h (omega (arith, st.counted)) is_known

  -- A hint of a step: its number and its clause, as the code has them.
  module _ {hints : List ℤ} {i n : ℕ} (t : LiteralAt (clauses + s) hints i) (read : word (literal_at hints i) ≡ literal_at hints i) (n-is : n ≡ variable_of (word (literal_at hints i))) where
    number : n ≡ variable_of (literal_at hints i)
    number = n-is ∙ ap variable_of read

    pub hint_names : (1 ≤ n) × (n ≤ clauses + s)
    hint_names = rw number (within_at_least (clauses + s) (literal_at hints i) (within_at t), within_at_most (clauses + s) (literal_at hints i) (within_at t))

    module _ {c : Clause} (c-is : c ≡ get_or (known cnf ws s) (n - 1) []) where
      known_at : n - 1 < length (known cnf ws s)
      known_at = omega (arith, hint_names, known_length)

      pub hint_within : LiteralsWithin variables c
      hint_within = rw c-is (all_of_at (all_of (literal_within variables)) (known cnf ws s) (n - 1) [] st.within known_at)

      pub hint_gives : (trues : List ℤ) → outcome trues c ≡ hint_outcome (clause_numbered (known cnf ws s)) trues (variable_of (literal_at hints i))
      hint_gives trues =
          let one_before : n ≡ suc (n - 1) = omega (arith, hint_names) in
          rw c-is
          (sym (ap (hint_outcome (clause_numbered (known cnf ws s)) trues) (sym number ∙ one_before) ∙ rw (numbered_some (known cnf ws s) (n - 1) known_at)))

      pub hint_unset : (trues : List ℤ) {u : ℤ} → unit u ≡ outcome trues c → Unset variables trues u
      hint_unset trues e = unit_unset variables trues c hint_within (sym e)

-- Values that are lazy or wrong do not meet the promise: first whatever the problem and the rows, then for each an input, and what it gives there.
-- Assumes nothing.
use Rattle.std.proofs.Common.{◌≡◌, ℕ, ◌+◌, ◌<◌, Bool, true, false, ◌&&◌, leb, List, [], ◌∷◌, get_or, sym, refl, ap, ◌∙◌, true≢false}
use borrow.Author.Tests.{lt-leb}
use Rattle.answers.specs.Lists.{all_of}
use Rattle.answers.proofs.Tests.{first_true, second_true, not_both}
use Rattle.meaning.specs.Problem.{Problem, problem_by}
use Rattle.meaning.specs.Runs.{literal_value}
use Rattle.problem.specs.declared.Outline.{Outline}
use Rattle.problem.specs.Promise.{problem_in}
use Rattle.values.specs.Tables.{given_width}
use Rattle.values.specs.Values.{gates_put, nodes_fit, rows_fit, value_in}

-- ════════ What it is to break a promise ════════

module _ (p : Problem) where
  -- This row after `gates`, this answer of `meets_constraints`, this value of `formula_value`.
  abbrev pub GatesBreak : List Bool → List Bool → Type 0
  GatesBreak row after = ¬ (after ≡ gates_put p.gates (given_width p) row)

  abbrev pub ConstraintsBreak : List Bool → Bool → Type 0
  ConstraintsBreak row r = ¬ (r ≡ all_of (literal_value row) p.constraints)

  abbrev pub ValueBreaks : ℕ → List Bool → Bool → Type 0
  ValueBreaks first table r = ¬ (r ≡ value_in p first table)

  -- ════════ Whatever the problem ════════

  -- A loop that starts past k: l + 1 is more than k + 1.
  pub start_past_k_breaks : (first : ℕ) (table : List Bool) → p.bound + 1 < first → ValueBreaks first table true
  unfolding value_in
  start_past_k_breaks first table h e =
      let starts = leb first (p.bound + 1) in
      let fit = nodes_fit p && starts in
      let roomy = fit && rows_fit p table in
      not_both (second_true (nodes_fit p) starts (first_true fit (rows_fit p table) (first_true roomy _ (sym e)))) (lt-leb first (p.bound + 1) h)

  -- The first constraint is false, and only those after it are asked.
  pub first_constraint_left_out_breaks : (row : List Bool) (c : ℕ) (cs : List ℕ) → p.constraints ≡ c ∷ cs → literal_value row c ≡ false
      → ConstraintsBreak row true
  first_constraint_left_out_breaks row c cs are off e =
      not_both (first_true (literal_value row c) (all_of (literal_value row) cs) (ap (all_of (literal_value row)) (sym are) ∙ sym e)) off

-- ════════ One input ════════

-- Two inputs, a gate of both, a constraint that the first is on, k = 0, in version 2: 2 0 1 1 0 1, 2 4, 2, 0 6 0
abbrev pub and_words : List ℕ
and_words = 2 ∷ 0 ∷ 1 ∷ 1 ∷ 0 ∷ 1 ∷ 2 ∷ 4 ∷ 2 ∷ 0 ∷ 6 ∷ 0 ∷ []

abbrev pub and_outline : Outline
and_outline = record {
  inputs = 2;
  latches = 0;
  gates = 1;
  constraints = 1;
  written_nodes = 1;
  formula_nodes = 1;
  bound = 0;
  width = 3;
  latches_from = 6;
  gates_from = 6;
  constraints_from = 8;
  nodes_from = 9;
}

abbrev pub and_problem : Problem
and_problem = problem_in and_outline and_words

-- Both are on, and so is the gate: the row as it was.
pub last_gates_left_out_breaks : GatesBreak and_problem (false ∷ true ∷ true ∷ false ∷ []) (false ∷ true ∷ true ∷ false ∷ [])
unfolding problem_in problem_by
last_gates_left_out_breaks e = true≢false (sym (ap (λ bs. get_or bs 3 false) e))

-- The first is off: with its constraint left out there is none to be broken.
pub only_constraint_left_out_breaks : ConstraintsBreak and_problem (false ∷ false ∷ true ∷ false ∷ []) true
unfolding problem_in problem_by
only_constraint_left_out_breaks = first_constraint_left_out_breaks and_problem (false ∷ false ∷ true ∷ false ∷ []) 2 [] refl refl

-- Checks of version 2 that are lazy or wrong do not meet the promise: for each an input, and what it answers there. Assumes nothing.
use mathlib.Core.Path.{◌≡◌, refl}
use mathlib.Core.List.{List, [], ◌∷◌, ◌++◌}
use Prim.Native.Nat.{ℕ, ◌+◌}
use native.Mathlib.Omega.{arith}
use lib.ListN.{replicate}
use Rattle.answers.specs.Limits.{constraints_limit}
use Rattle.meaning.specs.Problem.{header_words, problem_by, problem}
use Rattle.meaning.specs.Cases.{t_constrained}
use Rattle.meaning.specs.Cnf.{variables, cnf, cnf_words}
use Rattle.problem.specs.declared.Outline.{Outline}
use Rattle.problem.specs.declared.ProblemRecord.{ProblemRecord}
use Rattle.problem.specs.declared.Refusal.{Refusal}
use Rattle.problem.specs.declared.Refusal.TheVariants.{BadLength, OutsideLimits, BadLiteral, BadNode}
use Rattle.std.specs.Prelude.{Result, Ok, Err}
use Rattle.problem.specs.Promise.{problem_in}
use Rattle.problem.proofs.Unique.{refusal_not_yes}
use Rattle.problem.proofs.Lazy.{Input, laid_down, Breaks, other, other_number, other_place, T, t_outline, made_up_outline_breaks}

-- Words under version 2, and their record or their refusal.
abbrev good_2 : List ℕ → ProblemRecord → Input
good_2 words g = record { version = 2; words = words; right = Ok g }

abbrev bad_2 : List ℕ → Refusal → Input
bad_2 words f = record { version = 2; words = words; right = Err f }

-- T's header with D, then its latch, some constraints and its node: 0 1 0 1 0 D, 3 0, .., 0 2 0
abbrev t_with_constraints : ℕ → List ℕ → List ℕ
t_with_constraints d constraints = 0 ∷ 1 ∷ 0 ∷ 1 ∷ 0 ∷ d ∷ 3 ∷ 0 ∷ (constraints ++ (0 ∷ 2 ∷ 0 ∷ []))

-- Its outline with so many constraints.
abbrev outline_with : ℕ → Outline
outline_with d = record {
  inputs = 0;
  latches = 1;
  gates = 0;
  constraints = d;
  written_nodes = 1;
  formula_nodes = 1;
  bound = 0;
  width = 1;
  latches_from = 6;
  gates_from = 8;
  constraints_from = 8;
  nodes_from = 8 + d;
}

-- ════════ D ════════

-- T in version 2, without a constraint: it has T's numbers.
abbrev pub t_without : Input
t_without = good_2 (t_with_constraints 0 []) (record { outline = outline_with 0; counts = record { variables = 6; clauses = 12; words = 37 } })

pub no_constraints_refused_breaks : (f : Refusal) → Breaks t_without (Err f)
unfolding laid_down
no_constraints_refused_breaks f = other_number t_without (Err f) refl (refusal_not_yes f)

-- .. with one, which is a clause of two words more.
abbrev pub t_with_one : Input
t_with_one = good_2 t_constrained (record { outline = outline_with 1; counts = record { variables = 6; clauses = 13; words = 39 } })

pub constraints_not_counted_break : (r : Result ProblemRecord Refusal) → ¬ (r ≡ t_with_one.right) → Breaks t_with_one r
unfolding laid_down header_words problem_in problem_by problem variables cnf cnf_words
constraints_not_counted_break r = other t_with_one r refl (record { outline_is = refl; problem_is = refl }) refl

-- One over the limit, and all that D tells of is there.
abbrev pub constraints_over : Input
constraints_over = bad_2 (t_with_constraints (constraints_limit + 1) (replicate (constraints_limit + 1) 0)) (OutsideLimits 5)

pub constraints_limit_too_large_breaks : (g : ProblemRecord) → Breaks constraints_over (Ok g)
unfolding laid_down constraints_limit
constraints_limit_too_large_breaks g = other_number constraints_over (Ok g) refl (λ e. omega arith)

-- At the limit, and the words are cut short.
abbrev pub constraints_at_limit : Input
constraints_at_limit = bad_2 (t_with_constraints constraints_limit []) (BadLength 11)

pub constraints_limit_too_small_breaks : (i : ℕ) → Breaks constraints_at_limit (Err (OutsideLimits i))
unfolding laid_down constraints_limit
constraints_limit_too_small_breaks i = other_number constraints_at_limit (Err (OutsideLimits i)) refl (λ e. omega arith)

-- "In refusal 1 the least length is then 6 words": 0 0 0 0 0, with N outside its limits
abbrev pub five_words : Input
five_words = bad_2 (0 ∷ 0 ∷ 0 ∷ 0 ∷ 0 ∷ []) (BadLength 5)

pub header_of_five_words_breaks : (i : ℕ) → Breaks five_words (Err (OutsideLimits i))
unfolding laid_down
header_of_five_words_breaks i = other_number five_words (Err (OutsideLimits i)) refl (λ e. omega arith)

-- "Version 1 files mean D = 0": T's word 5 is 3, and no D.
pub constraints_in_version_1_break : (g : ProblemRecord) → ¬ (g.outline.constraints ≡ 0) → Breaks T (Ok g)
constraints_in_version_1_break g h = made_up_outline_breaks g (λ e. h (none g e))
  where
    none : (g : ProblemRecord) → g.outline ≡ t_outline → g.outline.constraints ≡ 0
    none g e = λ i. (e i).constraints

-- ════════ The constraints' words ════════

-- T with the constraint 2W + 2 at 8
abbrev pub constraint_over : Input
constraint_over = bad_2 (t_with_constraints 1 (4 ∷ [])) (BadLiteral 8)

pub constraint_past_the_variables_breaks : (g : ProblemRecord) → Breaks constraint_over (Ok g)
unfolding laid_down
constraint_past_the_variables_breaks g = other_number constraint_over (Ok g) refl (λ e. omega arith)

pub made_up_constraint_place_breaks : (i : ℕ) → ¬ (i ≡ 8) → Breaks constraint_over (Err (BadLiteral i))
unfolding laid_down
made_up_constraint_place_breaks i = other_place constraint_over (Err (BadLiteral i)) refl

-- 0 0 0 1 0 1, 2, 8 0 0: the constraint is 2W + 2 at 6, and an op 8 at 7
abbrev pub constraint_and_node : Input
constraint_and_node = bad_2 (0 ∷ 0 ∷ 0 ∷ 1 ∷ 0 ∷ 1 ∷ 2 ∷ 8 ∷ 0 ∷ 0 ∷ []) (BadLiteral 6)

pub nodes_before_constraints_breaks : (i : ℕ) → Breaks constraint_and_node (Err (BadNode i))
unfolding laid_down
nodes_before_constraints_breaks i = other_number constraint_and_node (Err (BadNode i)) refl (λ e. omega arith)

-- 0 0 1 1 0 1, 2 0, 4, 0 0 0: a gate that reads itself at 6, and the constraint 2W + 2 at 8
abbrev pub gate_and_constraint : Input
gate_and_constraint = bad_2 (0 ∷ 0 ∷ 1 ∷ 1 ∷ 0 ∷ 1 ∷ 2 ∷ 0 ∷ 4 ∷ 0 ∷ 0 ∷ 0 ∷ []) (BadLiteral 6)

pub constraints_before_gates_breaks : Breaks gate_and_constraint (Err (BadLiteral 8))
unfolding laid_down
constraints_before_gates_breaks = other_place gate_and_constraint (Err (BadLiteral 8)) refl (λ e. omega arith)

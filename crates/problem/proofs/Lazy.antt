-- Checks of a problem that are lazy or wrong do not meet the promise: for each an input, and what it answers there. Assumes nothing.
use mathlib.Core.Path.{◌≡◌, refl, sym, ◌∙◌}
use mathlib.Core.List.{List, [], ◌∷◌}
use Prim.Native.Nat.{ℕ}
use native.Mathlib.Omega.{arith}
use Rattle.answers.specs.Answers.{Answer}
use Rattle.answers.proofs.Answers.{number_of, place_of}
use Rattle.answers.specs.Limits.{inputs_limit, latches_limit, gates_limit, nodes_limit, bound_limit, constraints_limit}
use Rattle.meaning.specs.Problem.{header_words, problem_by, problem}
use Rattle.meaning.specs.Cases.{t_words, H}
use Rattle.meaning.specs.Cnf.{variables, cnf, cnf_words}
use Rattle.meaning.specs.Calls.{check_problem}
use Rattle.problem.specs.declared.Outline.{Outline}
use Rattle.problem.specs.declared.ProblemRecord.{ProblemRecord}
use Rattle.problem.specs.declared.Refusal.{Refusal}
use Rattle.problem.specs.declared.Refusal.TheVariants.{BadLength, BadReset, BadLiteral, BadNode}
use Rattle.std.specs.Prelude.{Result, Ok, Err}
use Rattle.problem.specs.Promise.{answer_of, problem_in, Outlined, OutlinedBy, CountedBy, CheckedAs}
use Rattle.problem.proofs.Unique.{checked_unique, outline_unique}

-- ════════ What it is to break the promise ════════

-- An input, and the outcome that meets the check's promise for it; each theorem below computes that it does.
pub record Input : Type 0 where
  pub version : ℕ
  pub words : List ℕ
  pub right : Result ProblemRecord Refusal

-- The answer that document 01 lays down.
unfoldable pub laid_down : Input → Answer
unfolding header_words inputs_limit latches_limit gates_limit nodes_limit bound_limit constraints_limit check_problem
laid_down x = check_problem x.version x.words

-- This outcome meets the promise for the input, or does not.
abbrev pub Meets : Input → Result ProblemRecord Refusal → Type 0
Meets x r = CheckedAs x.version x.words r

abbrev pub Breaks : Input → Result ProblemRecord Refusal → Type 0
Breaks x r = ¬ (Meets x r)

-- Whatever is not the right outcome breaks it; so does another number, and another place.
module _ (x : Input) (r : Result ProblemRecord Refusal) (right : answer_of x.right ≡ laid_down x) where
  pub other : OutlinedBy x.version x.words x.right → CountedBy x.version x.words x.right → ¬ (r ≡ x.right) → Breaks x r
  unfolding laid_down
  other outlined counted h m = h (checked_unique x.version x.words r x.right m (record { answered = right; outlined = outlined; counted = counted }))

  pub other_number : ¬ ((answer_of r).number ≡ (answer_of x.right).number) → Breaks x r
  unfolding laid_down
  other_number h m = h (number_of (m.answered ∙ sym right))

  pub other_place : ¬ ((answer_of r).place ≡ (answer_of x.right).place) → Breaks x r
  unfolding laid_down
  other_place h m = h (place_of (m.answered ∙ sym right))

-- Words under version 1, and their record or their refusal.
abbrev pub good : List ℕ → ProblemRecord → Input
good words g = record { version = 1; words = words; right = Ok g }

abbrev pub bad : List ℕ → Refusal → Input
bad words f = record { version = 1; words = words; right = Err f }

-- T's header over one latch and one node: 0 1 0 1 0, next reset, op a b
abbrev pub t_with : ℕ → ℕ → ℕ → ℕ → ℕ → List ℕ
t_with next reset op a b = 0 ∷ 1 ∷ 0 ∷ 1 ∷ 0 ∷ next ∷ reset ∷ op ∷ a ∷ b ∷ []

-- ════════ Refuses all, accepts all, makes an outline up ════════

abbrev pub t_outline : Outline
t_outline = record {
  inputs = 0;
  latches = 1;
  gates = 0;
  constraints = 0;
  written_nodes = 1;
  formula_nodes = 1;
  bound = 0;
  width = 1;
  latches_from = 5;
  gates_from = 7;
  constraints_from = 7;
  nodes_from = 7;
}

abbrev pub t_record : ProblemRecord
t_record = record { outline = t_outline; counts = record { variables = 6; clauses = 12; words = 37 } }

abbrev pub T : Input
T = good t_words t_record

right_outline : Outlined 1 t_words t_outline
unfolding header_words problem_in problem
right_outline = record { outline_is = refl; problem_is = refl }

pub t_meets : Meets T (Ok t_record)
unfolding laid_down header_words problem_in problem_by problem variables cnf cnf_words
t_meets = record { answered = refl; outlined = right_outline; counted = refl }

pub refuses_all_breaks : (r : Result ProblemRecord Refusal) → ¬ (r ≡ Ok t_record) → Breaks T r
refuses_all_breaks r h m = h (checked_unique 1 t_words r (Ok t_record) m t_meets)

pub made_up_outline_breaks : (g : ProblemRecord) → ¬ (g.outline ≡ t_outline) → Breaks T (Ok g)
made_up_outline_breaks g h m = h (outline_unique g.outline t_outline (m.outlined.outline_is ∙ sym right_outline.outline_is))

-- H with 12 R 1 at k = 3: 0 2 4 3 3, 3 0, 11 0, 2 5, 3 4, 7 9, 2 4, 0 12 0, 0 1 0, 7 0 1
abbrev pub h_release : Input
h_release =
    good (H 3 3 (0 ∷ 12 ∷ 0 ∷ 0 ∷ 1 ∷ 0 ∷ 7 ∷ 0 ∷ 1 ∷ []))
    (record {
      outline = record {
        inputs = 0;
        latches = 2;
        gates = 4;
        constraints = 0;
        written_nodes = 3;
        formula_nodes = 3;
        bound = 3;
        width = 6;
        latches_from = 5;
        gates_from = 9;
        constraints_from = 17;
        nodes_from = 17;
      };
      counts = record { variables = 56; clauses = 177; words = 616 };
    })

pub accepts_only_t_breaks : (r : Result ProblemRecord Refusal) → ¬ (r ≡ h_release.right) → Breaks h_release r
unfolding laid_down header_words problem_in problem_by problem variables cnf cnf_words
accepts_only_t_breaks r = other h_release r refl (record { outline_is = refl; problem_is = refl }) refl

-- No words at all
abbrev pub no_words : Input
no_words = bad [] (BadLength 0)

pub accepts_all_breaks : (g : ProblemRecord) → Breaks no_words (Ok g)
unfolding laid_down
accepts_all_breaks g = other_number no_words (Ok g) refl (λ e. omega arith)

-- ════════ A check left out ════════

-- 0 1 0 1 0, 3 0, 0 2: T without its last word
abbrev pub t_cut : Input
t_cut = bad (0 ∷ 1 ∷ 0 ∷ 1 ∷ 0 ∷ 3 ∷ 0 ∷ 0 ∷ 2 ∷ []) (BadLength 9)

-- 0 1 0 1 0, 3 3, 0 2 0: T with a reset of 3
abbrev pub t_reset : Input
t_reset = bad (t_with 3 3 0 2 0) (BadReset 6)

-- 0 1 0 1 0, 4 0, 0 2 0: T with the next literal 2W + 2
abbrev pub t_next : Input
t_next = bad (t_with 4 0 0 2 0) (BadLiteral 5)

-- 0 1 0 1 0, 3 0, 0 4 0: T with the atom 2W + 2
abbrev pub t_atom : Input
t_atom = bad (t_with 3 0 0 4 0) (BadNode 8)

-- 0 1 0 1 0, 3 0, 8 0 0: T with an op that there is not
abbrev pub t_op : Input
t_op = bad (t_with 3 0 8 0 0) (BadNode 7)

-- 0 1 0 1 0, 3 0, 0 2 1: T with b at an atom
abbrev pub t_b : Input
t_b = bad (t_with 3 0 0 2 1) (BadNode 9)

-- 0 1 0 1 0, 3 0, 4 0 0: node 0 is F of node 0
abbrev pub t_itself : Input
t_itself = bad (t_with 3 0 4 0 0) (BadNode 8)

-- 0 0 0 2 0, 0 0 0, 1 0 1: node 1 is 0 and 1
abbrev pub both_itself : Input
both_itself = bad (0 ∷ 0 ∷ 0 ∷ 2 ∷ 0 ∷ 0 ∷ 0 ∷ 0 ∷ 1 ∷ 0 ∷ 1 ∷ []) (BadNode 10)

-- 0 0 0 3 0, 0 0 0, 0 0 0, 5 0 1: b at G, where a second child would be right
abbrev pub g_of_two : Input
g_of_two = bad (0 ∷ 0 ∷ 0 ∷ 3 ∷ 0 ∷ 0 ∷ 0 ∷ 0 ∷ 0 ∷ 0 ∷ 0 ∷ 5 ∷ 0 ∷ 1 ∷ []) (BadNode 13)

-- 0 1 0 1 0, 3 0, 5 2 0: G of node 2, which is not there; as an atom's literal 2 would be right
abbrev pub g_of_none : Input
g_of_none = bad (t_with 3 0 5 2 0) (BadNode 8)

-- 0 0 1 1 0, 2 0, 0 0 0: the gate is variable 1, and its left literal 2
abbrev pub left_itself : Input
left_itself = bad (0 ∷ 0 ∷ 1 ∷ 1 ∷ 0 ∷ 2 ∷ 0 ∷ 0 ∷ 0 ∷ 0 ∷ []) (BadLiteral 5)

-- 0 0 1 1 0, 0 3, 0 0 0: .. its right literal 3
abbrev pub right_itself : Input
right_itself = bad (0 ∷ 0 ∷ 1 ∷ 1 ∷ 0 ∷ 0 ∷ 3 ∷ 0 ∷ 0 ∷ 0 ∷ []) (BadLiteral 6)

-- Each takes its input for a good problem, of whatever record.
module _ (g : ProblemRecord) where
  pub length_not_checked_breaks : Breaks t_cut (Ok g)
  unfolding laid_down
  length_not_checked_breaks = other_number t_cut (Ok g) refl (λ e. omega arith)

  pub reset_not_checked_breaks : Breaks t_reset (Ok g)
  unfolding laid_down
  reset_not_checked_breaks = other_number t_reset (Ok g) refl (λ e. omega arith)

  pub next_past_the_variables_breaks : Breaks t_next (Ok g)
  unfolding laid_down
  next_past_the_variables_breaks = other_number t_next (Ok g) refl (λ e. omega arith)

  pub atom_past_the_variables_breaks : Breaks t_atom (Ok g)
  unfolding laid_down
  atom_past_the_variables_breaks = other_number t_atom (Ok g) refl (λ e. omega arith)

  pub op_8_breaks : Breaks t_op (Ok g)
  unfolding laid_down
  op_8_breaks = other_number t_op (Ok g) refl (λ e. omega arith)

  pub unused_b_breaks : Breaks t_b (Ok g)
  unfolding laid_down
  unused_b_breaks = other_number t_b (Ok g) refl (λ e. omega arith)

  pub g_with_two_children_breaks : Breaks g_of_two (Ok g)
  unfolding laid_down
  g_with_two_children_breaks = other_number g_of_two (Ok g) refl (λ e. omega arith)

  pub g_without_a_child_breaks : Breaks g_of_none (Ok g)
  unfolding laid_down
  g_without_a_child_breaks = other_number g_of_none (Ok g) refl (λ e. omega arith)

  pub node_is_its_own_child_breaks : Breaks t_itself (Ok g)
  unfolding laid_down
  node_is_its_own_child_breaks = other_number t_itself (Ok g) refl (λ e. omega arith)

  pub node_is_its_own_second_child_breaks : Breaks both_itself (Ok g)
  unfolding laid_down
  node_is_its_own_second_child_breaks = other_number both_itself (Ok g) refl (λ e. omega arith)

  pub gate_reads_itself_breaks : Breaks left_itself (Ok g)
  unfolding laid_down
  gate_reads_itself_breaks = other_number left_itself (Ok g) refl (λ e. omega arith)

  pub gate_reads_itself_on_the_right_breaks : Breaks right_itself (Ok g)
  unfolding laid_down
  gate_reads_itself_on_the_right_breaks = other_number right_itself (Ok g) refl (λ e. omega arith)

-- ════════ Places that are made up ════════

module _ (i : ℕ) where
  pub made_up_length_breaks : ¬ (i ≡ 9) → Breaks t_cut (Err (BadLength i))
  unfolding laid_down
  made_up_length_breaks = other_place t_cut (Err (BadLength i)) refl

  pub made_up_reset_place_breaks : ¬ (i ≡ 6) → Breaks t_reset (Err (BadReset i))
  unfolding laid_down
  made_up_reset_place_breaks = other_place t_reset (Err (BadReset i)) refl

  pub made_up_next_place_breaks : ¬ (i ≡ 5) → Breaks t_next (Err (BadLiteral i))
  unfolding laid_down
  made_up_next_place_breaks = other_place t_next (Err (BadLiteral i)) refl

  pub made_up_gate_place_breaks : ¬ (i ≡ 6) → Breaks right_itself (Err (BadLiteral i))
  unfolding laid_down
  made_up_gate_place_breaks = other_place right_itself (Err (BadLiteral i)) refl

  pub made_up_op_place_breaks : ¬ (i ≡ 7) → Breaks t_op (Err (BadNode i))
  unfolding laid_down
  made_up_op_place_breaks = other_place t_op (Err (BadNode i)) refl

  pub made_up_b_place_breaks : ¬ (i ≡ 9) → Breaks t_b (Err (BadNode i))
  unfolding laid_down
  made_up_b_place_breaks = other_place t_b (Err (BadNode i)) refl

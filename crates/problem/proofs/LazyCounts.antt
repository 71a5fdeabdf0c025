-- Checks of a problem that say wrong numbers of the CNF's variables, clauses and words do not meet the promise: first for all words, then for
-- each an input, and what it says there. Assumes nothing.
use mathlib.Core.Path.{◌≡◌, refl, sym, ◌∙◌, ap}
use mathlib.Core.List.{List, [], ◌∷◌}
use Prim.Native.Nat.{ℕ, suc, ◌+◌, ◌*◌, ◌-◌, ◌%◌, ◌^◌, ◌≤◌, ◌<◌}
use native.Mathlib.Nat.{one-le-mul, add-mul, mul-suc, mul-le-mul, mul-le-mul_left, mul-le-mul_right}
use native.Mathlib.Omega.{arith}
use lib.ListN.{length}
use Rattle.answers.specs.Lists.{sum}
use Rattle.answers.specs.Limits.{inputs_limit, latches_limit, gates_limit, nodes_limit, bound_limit}
use Rattle.meaning.specs.Problem.{Problem, header_words, problem_by, problem}
use Rattle.meaning.specs.Cases.{limit_words}
use Rattle.meaning.specs.Cnf.{variables, cnf, cnf_words}
use Rattle.meaning.proofs.Check.{proper_if_well_formed}
use Rattle.meaning.proofs.ClosedForms.{Tally, tally, pairs, node_count, variables_of, or_weight, equal_weight, selected_weight, values_weight, end_weight, item_totals, variable_count, clause_count, word_count}
use Rattle.meaning.proofs.Counts.{forms_are_all, variable_count_is, clause_count_is, word_count_is}
use Rattle.meaning.proofs.AllLimits.{limits_formed, limits_counted}
use Rattle.counts.specs.declared.Counts.{Counts}
use Rattle.counts.specs.Promise.{counts_of}
use Rattle.problem.specs.declared.Outline.{Outline}
use Rattle.problem.specs.declared.ProblemRecord.{ProblemRecord}
use Rattle.std.specs.Prelude.{Ok}
use Rattle.problem.specs.Promise.{problem_in, CheckedAs}
use Rattle.problem.proofs.Formed.{well_formed_if_good}
use Rattle.problem.proofs.Lazy.{Input, laid_down, Meets, Breaks, good, T, t_record, t_meets}

-- ════════ k positions and k + 1 ════════

-- The tally with another number of positions.
abbrev pub with_positions : ℕ → Tally → Tally
with_positions n t = record {
  positions = n;
  width = t.width;
  latches = t.latches;
  fixed = t.fixed;
  gates = t.gates;
  constraints = t.constraints;
  equals = t.equals;
  ors = t.ors;
  untils = t.untils;
}

-- A position more is a selector more at least.
fewer_variables : (n : ℕ) (t : Tally) → variables_of (with_positions n t) < variables_of (with_positions (n + 1) t)
fewer_variables n t =
    let at_nodes : node_count t * (2 * n + 1) ≤ node_count t * (2 * (n + 1) + 1) = mul-le-mul_left (node_count t) (omega arith) in
    omega (arith, add-mul n 1 (t.width + 1))

-- No item gets lighter, and each node's E has two clauses of three literals more.
lighter : (w : ℕ → ℕ) (n : ℕ) (t : Tally) → 1 ≤ w 3 → w (suc n) ≤ w (suc (n + 1)) → 1 ≤ node_count t
    → sum (item_totals w (with_positions n t)) < sum (item_totals w (with_positions (n + 1) t))
lighter w n t weighs grows some =
    let end = end_weight w (with_positions n t) in
    let positions : n ≤ n + 1 = omega arith in
    let before_last : n - 1 ≤ n + 1 - 1 = omega arith in
    let paired : n * (n - 1) ≤ (n + 1) * (n + 1 - 1) = mul-le-mul positions before_last in
    let pairs_grow : pairs n ≤ pairs (n + 1) = omega arith in
    let end_grows : suc end ≤ end_weight w (with_positions (n + 1) t) = omega (arith, add-mul n 1 (selected_weight w)) in
    omega (
      arith,
      mul-le-mul_right (t.gates * or_weight w) positions,
      mul-le-mul_right (t.constraints * w 1) positions,
      mul-le-mul_right (t.latches * equal_weight w) before_last,
      mul-le-mul_right (t.latches * selected_weight w) positions,
      mul-le-mul_right (w 2) pairs_grow,
      mul-le-mul_right (values_weight w t) positions,
      mul-le-mul_left (node_count t) end_grows,
      mul-suc (node_count t) end,
    )

module _ (version : ℕ) (ws : List ℕ) (g : ProblemRecord) where
  abbrev p : Problem
  p = problem version ws

  -- ════════ Other numbers, whatever the words ════════

  pub other_counts_break : ¬ (g.counts ≡ counts_of p) → ¬ (CheckedAs version ws (Ok g))
  other_counts_break h m = h m.counted

  pub other_variables_break : ¬ (g.counts.variables ≡ variables p) → ¬ (CheckedAs version ws (Ok g))
  other_variables_break h = other_counts_break (λ e. h (ap (λ (c : Counts). c.variables) e))

  pub other_clauses_break : ¬ (g.counts.clauses ≡ length (cnf p)) → ¬ (CheckedAs version ws (Ok g))
  other_clauses_break h = other_counts_break (λ e. h (ap (λ (c : Counts). c.clauses) e))

  pub other_words_break : ¬ (g.counts.words ≡ length (cnf_words p)) → ¬ (CheckedAs version ws (Ok g))
  other_words_break h = other_counts_break (λ e. h (ap (λ (c : Counts). c.words) e))

  -- ════════ Words or clauses left out ════════

  -- A yes says that there is a node.
  node_if_good : CheckedAs version ws (Ok g) → 1 ≤ length p.nodes
  node_if_good m = (proper_if_well_formed version ws (well_formed_if_good m)).nodes_some

  -- Item 1 is a clause.
  clause_there : 1 ≤ length (cnf p)
  unfolding cnf
  clause_there = omega arith

  -- The words without the 0 that ends each clause.
  pub zeros_left_out_break : g.counts.words + length (cnf p) ≡ length (cnf_words p) → ¬ (CheckedAs version ws (Ok g))
  zeros_left_out_break without = other_words_break (λ e. omega (arith, clause_there))

  -- The clauses without (-E s(0)..s(k)) of each node, and the words without its k + 3.
  pub closing_clauses_left_out_break : g.counts.clauses + length p.nodes ≡ length (cnf p) → ¬ (CheckedAs version ws (Ok g))
  closing_clauses_left_out_break without m = other_clauses_break (λ e. omega (arith, node_if_good m)) m

  pub closing_words_left_out_break : g.counts.words + length p.nodes * (p.bound + 3) ≡ length (cnf_words p) → ¬ (CheckedAs version ws (Ok g))
  closing_words_left_out_break without m =
      let left_out : 1 ≤ length p.nodes * (p.bound + 3) = one-le-mul (node_if_good m) (omega arith) in
      other_words_break (λ e. omega arith) m

  -- ════════ k as the number of positions ════════

  abbrev over_k : Tally
  over_k = with_positions p.bound (tally p)

  -- Each node has a form.
  form_if_good : CheckedAs version ws (Ok g) → 1 ≤ node_count (tally p)
  form_if_good m = omega (arith, forms_are_all p.nodes, node_if_good m)

  pub variables_over_k_break : g.counts.variables ≡ variables_of over_k → ¬ (CheckedAs version ws (Ok g))
  unfolding variable_count
  variables_over_k_break is m =
      let fewer = fewer_variables p.bound (tally p) in
      other_variables_break (λ e. omega (arith, fewer, variable_count_is p (node_if_good m))) m

  pub clauses_over_k_break : g.counts.clauses ≡ sum (item_totals (λ n. 1) over_k) → ¬ (CheckedAs version ws (Ok g))
  unfolding clause_count
  clauses_over_k_break is m =
      let fewer = lighter (λ n. 1) p.bound (tally p) (omega arith) (omega arith) (form_if_good m) in
      other_clauses_break (λ e. omega (arith, fewer, clause_count_is p)) m

  pub words_over_k_break : g.counts.words ≡ sum (item_totals suc over_k) → ¬ (CheckedAs version ws (Ok g))
  unfolding word_count
  words_over_k_break is m =
      let fewer = lighter suc p.bound (tally p) (omega arith) (omega arith) (form_if_good m) in
      other_words_break (λ e. omega (arith, fewer, word_count_is p)) m

-- The numbers of other words, say of a case in a table, where they differ.
pub counts_of_another_break : (version version' : ℕ) (ws ws' : List ℕ) (g : ProblemRecord) → g.counts ≡ counts_of (problem version' ws')
    → ¬ (counts_of (problem version' ws') ≡ counts_of (problem version ws)) → ¬ (CheckedAs version ws (Ok g))
counts_of_another_break version version' ws ws' g is h = other_counts_break version ws g (λ e. h (sym is ∙ e))

-- ════════ Inputs, and what the promise gives ════════

abbrev pub numbers_of : ℕ → ℕ → ℕ → Counts
numbers_of v c w = record { variables = v; clauses = c; words = w }

-- T at bound 1: 0 1 0 1 1, 3 0, 0 2 0
abbrev pub t_longer : Input
t_longer =
    good (0 ∷ 1 ∷ 0 ∷ 1 ∷ 1 ∷ 3 ∷ 0 ∷ 0 ∷ 2 ∷ 0 ∷ [])
    (record {
      outline = record {
        inputs = 0;
        latches = 1;
        gates = 0;
        constraints = 0;
        written_nodes = 1;
        formula_nodes = 1;
        bound = 1;
        width = 1;
        latches_from = 5;
        gates_from = 7;
        constraints_from = 7;
        nodes_from = 7;
      };
      counts = numbers_of 10 23 75;
    })

pub t_longer_meets : Meets t_longer t_longer.right
unfolding laid_down header_words problem_in problem_by problem variables cnf cnf_words
t_longer_meets = record { answered = refl; outlined = record { outline_is = refl; problem_is = refl }; counted = refl }

-- The words at all limits.
abbrev pub limits_outline : Outline
limits_outline = record {
  inputs = inputs_limit;
  latches = latches_limit;
  gates = gates_limit;
  constraints = 0;
  written_nodes = nodes_limit;
  formula_nodes = nodes_limit;
  bound = bound_limit;
  width = inputs_limit + latches_limit + gates_limit;
  latches_from = 5;
  gates_from = 5 + 2 * latches_limit;
  constraints_from = 5 + 2 * latches_limit + 2 * gates_limit;
  nodes_from = 5 + 2 * latches_limit + 2 * gates_limit;
}

abbrev pub at_limits : Input
at_limits = good limit_words (record { outline = limits_outline; counts = numbers_of 41_057 127_346 437_012 })

pub limits_meets : Meets at_limits at_limits.right
unfolding limit_words header_words problem_in problem inputs_limit latches_limit gates_limit nodes_limit bound_limit
limits_meets = record {
  answered = sym limits_formed;
  outlined = record { outline_is = refl; problem_is = refl };
  counted = rw (limits_counted.0, limits_counted.1, limits_counted.2);
}

-- ════════ Numbers that are made up ════════

-- Of two records that meet the promise each has the numbers of the other.
same_counts : {version : ℕ} {ws : List ℕ} {g right : ProblemRecord} → CheckedAs version ws (Ok right) → CheckedAs version ws (Ok g)
    → g.counts ≡ right.counts
same_counts r m = m.counted ∙ sym r.counted

module _ (g : ProblemRecord) where
  pub made_up_variable_count_breaks : ¬ (g.counts.variables ≡ 6) → Breaks T (Ok g)
  made_up_variable_count_breaks h m = h (ap (λ (c : Counts). c.variables) (same_counts t_meets m))

  pub made_up_clause_count_breaks : ¬ (g.counts.clauses ≡ 12) → Breaks T (Ok g)
  made_up_clause_count_breaks h m = h (ap (λ (c : Counts). c.clauses) (same_counts t_meets m))

  pub made_up_word_count_breaks : ¬ (g.counts.words ≡ 37) → Breaks T (Ok g)
  made_up_word_count_breaks h m = h (ap (λ (c : Counts). c.words) (same_counts t_meets m))

  pub cleared_counts_break : g.counts ≡ numbers_of 0 0 0 → Breaks T (Ok g)
  cleared_counts_break is = made_up_word_count_breaks (λ e. omega (arith, ap (λ (c : Counts). c.words) is))

  -- T's numbers at bound 1, which are those of k positions.
  pub always_counts_t_breaks : g.counts ≡ t_record.counts → Breaks t_longer (Ok g)
  always_counts_t_breaks is m =
      let same : t_record.counts ≡ numbers_of 10 23 75 = sym is ∙ same_counts t_longer_meets m in
      let words : ◌≡◌ {A = ℕ} 37 75 = ap (λ (c : Counts). c.words) same in
      omega arith

  -- ════════ Numbers in 16 bits ════════

  -- 437,012 words cut to 16 bits are 43,796, and 127,346 clauses 61,810; no numbers of 16 bits will do.
  pub counted_in_16_bits_breaks : g.counts.words < 2 ^ 16 → Breaks at_limits (Ok g)
  counted_in_16_bits_breaks h m =
      let words : g.counts.words ≡ 437_012 = ap (λ (c : Counts). c.words) (same_counts limits_meets m) in
      omega arith

  pub cut_count_breaks : g.counts.words ≡ 437_012 % 2 ^ 16 → Breaks at_limits (Ok g)
  cut_count_breaks is = counted_in_16_bits_breaks (omega arith)

  pub clauses_counted_in_16_bits_break : g.counts.clauses < 2 ^ 16 → Breaks at_limits (Ok g)
  clauses_counted_in_16_bits_break h m =
      let clauses : g.counts.clauses ≡ 127_346 = ap (λ (c : Counts). c.clauses) (same_counts limits_meets m) in
      omega arith

  pub cut_clauses_break : g.counts.clauses ≡ 127_346 % 2 ^ 16 → Breaks at_limits (Ok g)
  cut_clauses_break is = clauses_counted_in_16_bits_break (omega arith)

-- The CNF of a problem at all limits has the document's 437,012 words, and 64 for each constraint; there is such a problem, and no CNF of as many
-- constraints is larger. Assumes nothing.
use mathlib.Core.Path.{◌≡◌, refl, sym, ◌∙◌, ap}
use mathlib.Core.Bool.{Bool, true, true≢false}
use mathlib.Core.List.{List, [], ◌∷◌, ◌++◌}
use Prim.Native.Nat.{ℕ, suc, ◌+◌, ◌*◌, ◌-◌, ◌≤◌, ◌<◌}
use native.Mathlib.Nat.{add-sub_of_le, mul-le-mul, mul-le-mul_right}
use native.Mathlib.Omega.{arith}
use borrow.Author.Tests.{le-leb, lt-ltb}
use lib.Dec.{ltb}
use lib.ListN.{length, get_or, replicate, length-replicate, get_or-replicate, get_or-append}
use lib.Seq.{get_or-drop, get_or-append-add}
use Rattle.answers.specs.Lists.{numbers, each, all_of, those, sum}
use Rattle.answers.proofs.Tests.{both_true, all_of_member, those_few}
use Rattle.answers.proofs.Answers.{passing}
use Rattle.answers.specs.Limits.{inputs_limit, latches_limit, gates_limit, nodes_limit, bound_limit, constraints_limit}
use Rattle.meaning.specs.Problem.{Problem, Latch, Node, atom, both, either, next, until, release, latch, node, Outline, header_words, outline, problem_by, problem, word, latch_place, gate_place, node_place, children, constraint_place}
use Rattle.meaning.specs.Check.{largest_literal, gate_limit, largest_reset, latch_checks, gate_checks, node_checks, header_checks, limit_checks, length_checks, constraint_checks, each_below}
use Rattle.meaning.specs.Proper.{NodeProper, Proper}
use Rattle.meaning.specs.Cnf.{variables, cnf, cnf_words}
use Rattle.meaning.specs.Cases.{UntilOrRelease, AtAllLimits, limit_nodes, limit_zeros, limit_words, limit_header, constrained_limit_words}
use Rattle.meaning.specs.Calls.{check_parts, WellFormed}
use Rattle.meaning.proofs.Numbers.{member_of_numbers, all_of_each_below}
use Rattle.meaning.proofs.ShownBy.{latch_by, none_in_version_1, inputs_by, bound_by, latches_by, gates_by, nodes_by}
use Rattle.meaning.proofs.ItemByItem.{◌and◌, all_of_joined}
use Rattle.meaning.proofs.Check.{well_formed_if_all_pass, proper_if_well_formed}
use Rattle.meaning.proofs.ClosedForms.{fixed_resets, has_equal_form, has_or_form, has_until_form, Tally, tally, node_count, variables_of, equal_weight, or_weight, selected_weight, values_weight, end_weight, item_totals, variable_count, clause_count, word_count}
use Rattle.meaning.proofs.Counts.{forms_are_all, variable_count_is, clause_count_is, word_count_is}

-- ════════ Well formed ════════

abbrev o : Outline
o = outline 1 limit_words

limits_zeros : (i : ℕ) → 5 ≤ i → i < node_place o 0 → word limit_words i ≡ 0
unfolding limit_words header_words
limits_zeros i l h =
    ap (word limit_words) (sym (add-sub_of_le l)) ∙ sym (get_or-drop 5 limit_words (i - 5) 0)
    ∙ get_or-append (replicate limit_zeros 0) limit_nodes 0 (i - 5) (rw length-replicate (omega arith))
    ∙ get_or-replicate limit_zeros (i - 5) 0 0 (omega arith)

-- Latches and gates of zeros are in range.
limits_latches : (i : ℕ) → i < o.latches → all_of passing (latch_checks o limit_words i) ≡ true
unfolding header_words
limits_latches i h =
    let at = latch_place o i in
    let next : word limit_words at ≤ largest_literal o = omega (arith, limits_zeros at (omega arith) (omega arith)) in
    let reset : word limit_words (at + 1) ≤ largest_reset = omega (arith, limits_zeros (at + 1) (omega arith) (omega arith)) in
    both_true (le-leb _ _ next) (both_true (le-leb _ _ reset) refl)

limits_gates : (j : ℕ) → j < o.gates → all_of passing (gate_checks o limit_words j) ≡ true
unfolding header_words
limits_gates j h =
    let at = gate_place o j in
    let left : word limit_words at < gate_limit o j = omega (arith, limits_zeros at (omega arith) (omega arith)) in
    let right : word limit_words (at + 1) < gate_limit o j = omega (arith, limits_zeros (at + 1) (omega arith) (omega arith)) in
    both_true (le-leb _ _ left) (both_true (le-leb _ _ right) refl)

limits_nodes : all_of passing (each (numbers 0 o.written_nodes) (node_checks children o limit_words)) ≡ true
unfolding limit_words header_words
limits_nodes = refl

pub limits_formed : WellFormed 1 limit_words
unfolding limit_words header_words inputs_limit latches_limit gates_limit nodes_limit bound_limit constraints_limit
limits_formed =
    well_formed_if_all_pass 1 limit_words
    ((all_of_joined passing (check_parts 1 limit_words)).1
    (refl
    and refl
    and refl
    and all_of_each_below passing (latch_checks o limit_words) o.latches limits_latches
    and all_of_each_below passing (gate_checks o limit_words) o.gates limits_gates
    and refl
    and limits_nodes
    and tt))

-- ════════ At all limits ════════

-- What the test of a node's form says.
until_or_release : (x : Node) → has_until_form x ≡ true → UntilOrRelease x
until_or_release (atom x) e = true≢false (sym e)
until_or_release (both a b) e = true≢false (sym e)
until_or_release (either a b) e = true≢false (sym e)
until_or_release (next a) e = true≢false (sym e)
until_or_release (until a b) e = tt
until_or_release (release a b) e = tt

has_its_form : (x : Node) → UntilOrRelease x → has_until_form x ≡ true
has_its_form (atom x) u = absurd u
has_its_form (both a b) u = absurd u
has_its_form (either a b) u = absurd u
has_its_form (next a) u = absurd u
has_its_form (until a b) u = refl
has_its_form (release a b) u = refl

limits_others : all_of (λ n. has_until_form (node (problem 1 limit_words) n)) (numbers 1 (nodes_limit - 1)) ≡ true
unfolding limit_words header_words problem_by problem nodes_limit
limits_others = refl

limits_reset : (i : ℕ) → i < o.latches → (latch (problem 1 limit_words) i).reset ≡ 0
unfolding header_words problem
limits_reset i h =
    ap (λ (c : Latch). c.reset) (latch_by o limit_words i h)
    ∙ limits_zeros (latch_place o i + 1) (omega arith) (omega arith)

-- There is such a problem.
pub limits_reached : AtAllLimits (problem 1 limit_words)
unfolding limit_words header_words problem_by problem inputs_limit latches_limit gates_limit nodes_limit bound_limit
limits_reached = record {
  inputs_are = refl;
  latches_are = refl;
  resets_fixed = λ i h. omega (arith, limits_reset i h);
  gates_are = refl;
  nodes_are = refl;
  one_atom = (0, refl);
  others = λ n l h. until_or_release (node (problem 1 limit_words) n)
      (all_of_member (λ n. has_until_form (node (problem 1 limit_words) n)) (member_of_numbers 1 (nodes_limit - 1) n l (omega arith)) limits_others);
  bound_is = refl;
}

-- ════════ The figures ════════

-- Where all pass the test, all are counted.
those_all : {A : Type 0} (t : A → Bool) (d : A) (xs : List A) → ((i : ℕ) → i < length xs → t (get_or xs i d) ≡ true) → length (those t xs) ≡ length xs
those_all t d [] h = refl
those_all t d (x ∷ xs) h = rw (h 0 (omega arith), those_all t d xs (λ i l. h (suc i) (omega arith)))

-- The nodes by their form: x=a, "and" and "or", Until and Release.
forms_at_limits : (xs : List Node) (x : ℕ) → length xs ≡ nodes_limit → get_or xs 0 (atom 0) ≡ atom x
    → ((n : ℕ) → 1 ≤ n → n < nodes_limit → UntilOrRelease (get_or xs n (atom 0)))
    → (length (those has_equal_form xs) ≡ 1) × (length (those has_or_form xs) ≡ 0) × (length (those has_until_form xs) ≡ nodes_limit - 1)
unfolding nodes_limit
forms_at_limits [] x l a u = absurd (omega arith)
forms_at_limits (y ∷ xs) x l a u =
    let pass : (n : ℕ) → n < length xs → has_until_form (get_or xs n (atom 0)) ≡ true = λ n h. has_its_form (get_or xs n (atom 0)) (u (suc n) (omega arith) (omega arith)) in
    let all_until : length (those has_until_form xs) ≡ length xs = those_all has_until_form (atom 0) xs pass in
    rw a (omega (arith, forms_are_all xs))

-- With so many constraints.
abbrev limit_tally : ℕ → Tally
limit_tally d = record {
  positions = bound_limit + 1;
  width = inputs_limit + latches_limit + gates_limit;
  latches = latches_limit;
  fixed = latches_limit;
  gates = gates_limit;
  constraints = d;
  equals = 1;
  ors = 0;
  untils = nodes_limit - 1;
}

tally_at_limits : (p : Problem) → AtAllLimits p → tally p ≡ limit_tally (length p.constraints)
tally_at_limits p at =
    let pass : (i : ℕ) → i < length p.latches → ltb (latch p i).reset 2 ≡ true = λ i h. lt-ltb _ _ (at.resets_fixed i (rw at.latches_are at h)) in
    let fixed : fixed_resets p.latches ≡ length p.latches = those_all (λ (c : Latch). ltb c.reset 2) _ p.latches pass in
    let forms = forms_at_limits p.nodes at.one_atom.0 at.nodes_are at.one_atom.1 at.others in
    rw (fixed, forms.0, forms.1, forms.2, at.inputs_are, at.latches_are, at.gates_are, at.bound_is)

-- "At all limits, with every reset fixed and 63 U or R nodes over one atom, the CNF has 437,012 words"; a constraint has two at each of 32 positions.
pub at_all_limits : (p : Problem) → AtAllLimits p → length (cnf_words p) ≡ 437_012 + 64 * length p.constraints
unfolding word_count inputs_limit latches_limit gates_limit nodes_limit bound_limit
at_all_limits p at = word_count_is p ∙ ap (λ (t : Tally). sum (item_totals suc t)) (tally_at_limits p at) ∙ omega arith

-- .. and its variables and clauses.
pub limits_counted : (variables (problem 1 limit_words) ≡ 41_057) × (length (cnf (problem 1 limit_words)) ≡ 127_346) × (length (cnf_words (problem 1 limit_words)) ≡ 437_012)
unfolding variable_count clause_count inputs_limit latches_limit gates_limit nodes_limit bound_limit
limits_counted =
    let p = problem 1 limit_words in
    let is : tally p ≡ limit_tally 0 = tally_at_limits p limits_reached ∙ ap (λ (xs : List ℕ). limit_tally (length xs)) (none_in_version_1 limit_words) in (
      variable_count_is p (proper_if_well_formed 1 limit_words limits_formed).nodes_some ∙ ap variables_of is,
      clause_count_is p ∙ ap (λ (t : Tally). sum (item_totals (λ n. 1) t)) is,
      at_all_limits p limits_reached ∙ rw none_in_version_1,
    )

-- ════════ No CNF is larger ════════

-- Node 0 has no earlier node, so it is an atom.
first_is_atom : (p : Problem) (x : Node) → NodeProper p 0 x → has_equal_form x ≡ true
first_is_atom p (atom x) proper = refl
first_is_atom p (both a b) proper = absurd (omega arith)
first_is_atom p (either a b) proper = absurd (omega arith)
first_is_atom p (next a) proper = absurd (omega arith)
first_is_atom p (until a b) proper = absurd (omega (arith, proper.1))
first_is_atom p (release a b) proper = absurd (omega (arith, proper.1))

-- So one node at least has the form x=a.
some_equal : (xs : List Node) → 1 ≤ length xs → has_equal_form (get_or xs 0 (atom 0)) ≡ true → 1 ≤ length (those has_equal_form xs)
some_equal [] l e = absurd (omega arith)
some_equal (x ∷ xs) l e = rw e (omega arith)

-- Each item grows with what is counted. Until and Release are the heaviest forms, and one node at least has the lightest, x=a.
pub largest_if_proper : (p : Problem) → Proper p → length (cnf_words p) ≤ 437_012 + 64 * length p.constraints
unfolding word_count latches_limit gates_limit nodes_limit bound_limit
largest_if_proper p proper =
    let t = tally p in
    let positions : t.positions ≤ bound_limit + 1 = omega arith in
    let before_last : t.positions - 1 ≤ bound_limit = omega arith in
    let gate : t.gates * or_weight suc ≤ gates_limit * or_weight suc = mul-le-mul_right (or_weight suc) proper.gates_within in
    let step : t.latches * equal_weight suc ≤ latches_limit * equal_weight suc = mul-le-mul_right (equal_weight suc) proper.latches_within in
    let closed : t.latches * selected_weight suc ≤ latches_limit * selected_weight suc = mul-le-mul_right (selected_weight suc) proper.latches_within in
    let fixed : t.fixed ≤ latches_limit = omega (arith, those_few (λ (c : Latch). ltb c.reset 2) p.latches) in
    let paired : t.positions * (t.positions - 1) ≤ (bound_limit + 1) * bound_limit = mul-le-mul positions before_last in
    let one : 1 ≤ t.equals = some_equal p.nodes proper.nodes_some (first_is_atom p (node p 0) (proper.nodes_proper 0 proper.nodes_some)) in
    let all : node_count t ≤ nodes_limit = omega (arith, forms_are_all p.nodes) in
    let value : values_weight suc t ≤ values_weight suc (limit_tally 0) = omega arith in
    let end : end_weight suc t ≤ end_weight suc (limit_tally 0) = omega arith in
    omega (
      arith,
      word_count_is p,
      mul-le-mul positions gate,
      mul-le-mul_right (t.constraints * 2) positions,
      mul-le-mul before_last step,
      mul-le-mul positions closed,
      mul-le-mul positions value,
      mul-le-mul all end,
    )

pub largest_cnf : (version : ℕ) (ws : List ℕ) → WellFormed version ws → length (cnf_words (problem version ws)) ≤ 437_012 + 64 * length (problem version ws).constraints
largest_cnf version ws formed = largest_if_proper (problem version ws) (proper_if_well_formed version ws formed)

-- ════════ With all the constraints ════════

-- The zeros between a header and what comes after them.
zeros_after : (header rest : List ℕ) (n i : ℕ) → length header ≤ i → i < length header + n → word (header ++ (replicate n 0 ++ rest)) i ≡ 0
zeros_after header rest n i l h =
    ap (word (header ++ (replicate n 0 ++ rest))) (sym (add-sub_of_le l))
    ∙ get_or-append-add header (replicate n 0 ++ rest) (i - length header) 0
    ∙ get_or-append (replicate n 0) rest 0 (i - length header) (rw length-replicate (omega arith))
    ∙ get_or-replicate n (i - length header) 0 0 (omega arith)

-- Words of which all between the header and the nodes are zeros.
module _ (version : ℕ) (ws : List ℕ) (zeros : (i : ℕ) → header_words version ≤ i → i < (outline version ws).nodes_from → word ws i ≡ 0) where
  abbrev laid : Outline
  laid = outline version ws

  -- Zeros are in range.
  latches_pass : (i : ℕ) → i < laid.latches → all_of passing (latch_checks laid ws i) ≡ true
  latches_pass i h =
      let at = latch_place laid i in
      let next : word ws at ≤ largest_literal laid = omega (arith, zeros at (omega arith) (omega arith)) in
      let reset : word ws (at + 1) ≤ largest_reset = omega (arith, zeros (at + 1) (omega arith) (omega arith)) in
      both_true (le-leb _ _ next) (both_true (le-leb _ _ reset) refl)

  gates_pass : (j : ℕ) → j < laid.gates → all_of passing (gate_checks laid ws j) ≡ true
  gates_pass j h =
      let at = gate_place laid j in
      let left : word ws at < gate_limit laid j = omega (arith, zeros at (omega arith) (omega arith)) in
      let right : word ws (at + 1) < gate_limit laid j = omega (arith, zeros (at + 1) (omega arith) (omega arith)) in
      both_true (le-leb _ _ left) (both_true (le-leb _ _ right) refl)

  constraints_pass : (c : ℕ) → c < laid.constraints → all_of passing (constraint_checks laid ws c) ≡ true
  constraints_pass c h =
      let at = constraint_place laid c in
      let literal : word ws at ≤ largest_literal laid = omega (arith, zeros at (omega arith) (omega arith)) in
      both_true (le-leb _ _ literal) refl

  -- So they are well formed where the header, the length and the nodes are right.
  formed_if : all_of passing (header_checks version ws) ≡ true → all_of passing (limit_checks version ws) ≡ true → all_of passing (length_checks laid ws) ≡ true
      → all_of passing (each_below laid.written_nodes (node_checks children laid ws)) ≡ true → WellFormed version ws
  formed_if header limits whole nodes =
      well_formed_if_all_pass version ws
      ((all_of_joined passing (check_parts version ws)).1
      (header
      and limits
      and whole
      and all_of_each_below passing (latch_checks laid ws) laid.latches latches_pass
      and all_of_each_below passing (gate_checks laid ws) laid.gates gates_pass
      and all_of_each_below passing (constraint_checks laid ws) laid.constraints constraints_pass
      and nodes
      and tt))

  -- Every reset is fixed.
  fixed_at_0 : (i : ℕ) → i < laid.latches → (latch (problem version ws) i).reset ≡ 0
  unfolding problem
  fixed_at_0 i h = ap (λ (c : Latch). c.reset) (latch_by laid ws i h) ∙ zeros (latch_place laid i + 1) (omega arith) (omega arith)

  -- And their problem is at all limits where the header and the nodes are.
  reached_if : word ws 0 ≡ inputs_limit → word ws 1 ≡ latches_limit → word ws 2 ≡ gates_limit → word ws 3 ≡ nodes_limit → word ws 4 ≡ bound_limit
      → node (problem version ws) 0 ≡ atom 0 → all_of (λ n. has_until_form (node (problem version ws) n)) (numbers 1 (nodes_limit - 1)) ≡ true
      → AtAllLimits (problem version ws)
  unfolding problem
  reached_if inputs latches gates nodes bound first later = record {
    inputs_are = inputs_by laid ws ∙ inputs;
    latches_are = latches_by laid ws ∙ latches;
    resets_fixed = λ i h. omega (arith, fixed_at_0 i (omega arith));
    gates_are = gates_by laid ws ∙ gates;
    nodes_are = nodes_by laid ws ∙ nodes;
    one_atom = (0, first);
    others = λ n l h. until_or_release (node (problem version ws) n)
        (all_of_member (λ n. has_until_form (node (problem version ws) n)) (member_of_numbers 1 (nodes_limit - 1) n l (omega arith)) later);
    bound_is = bound_by laid ws ∙ bound;
  }

constrained_zeros : (i : ℕ) → header_words 2 ≤ i → i < (outline 2 constrained_limit_words).nodes_from → word constrained_limit_words i ≡ 0
unfolding constrained_limit_words header_words inputs_limit latches_limit gates_limit nodes_limit bound_limit constraints_limit
constrained_zeros i l h = zeros_after (limit_header ++ (constraints_limit ∷ [])) limit_nodes (limit_zeros + constraints_limit) i l (omega arith)

pub constrained_limits_formed : WellFormed 2 constrained_limit_words
unfolding constrained_limit_words header_words inputs_limit latches_limit gates_limit nodes_limit bound_limit constraints_limit
constrained_limits_formed = formed_if 2 constrained_limit_words constrained_zeros refl refl refl refl

pub constrained_limits_reached : AtAllLimits (problem 2 constrained_limit_words) × (length (problem 2 constrained_limit_words).constraints ≡ constraints_limit)
unfolding constrained_limit_words header_words problem_by problem inputs_limit latches_limit gates_limit nodes_limit bound_limit constraints_limit
constrained_limits_reached = (reached_if 2 constrained_limit_words constrained_zeros refl refl refl refl refl refl refl, refl)

-- 437,012 words, and 64 for each of 16 constraints.
pub largest_of_all : length (cnf_words (problem 2 constrained_limit_words)) ≡ 438_036
unfolding constraints_limit
largest_of_all = at_all_limits (problem 2 constrained_limit_words) constrained_limits_reached.0 ∙ rw constrained_limits_reached.1

pub no_larger : (version : ℕ) (ws : List ℕ) → WellFormed version ws → length (cnf_words (problem version ws)) ≤ 438_036
unfolding constraints_limit
no_larger version ws formed = omega (arith, largest_cnf version ws formed, (proper_if_well_formed version ws formed).constraints_within)

-- ════════ One node of the lightest form ════════

-- Node 0 of a proper problem has the form x=a.
pub atom_if_proper : (p : Problem) → Proper p → 1 ≤ (tally p).equals
atom_if_proper p proper = some_equal p.nodes proper.nodes_some (first_is_atom p (node p 0) (proper.nodes_proper 0 proper.nodes_some))

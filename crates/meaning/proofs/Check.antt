-- The check says yes exactly where its rules are met, and the problem of such words is proper. Assumes nothing.
use mathlib.Core.Path.{◌≡◌, refl, sym, ◌∙◌}
use mathlib.Core.Logic.{◌↔◌}
use mathlib.Core.Bool.{Bool, true, false, not, true≢false}
use mathlib.Core.List.{List, [], ◌∷◌, ◌++◌}
use Prim.Native.Nat.{ℕ, zero, suc, ◌+◌, ◌*◌, ◌≤◌, ◌<◌, zero-le}
use native.Mathlib.Omega.{arith}
use borrow.Author.Tests.{leb-true, le-leb, ltb-true, lt-ltb, eqb-true, eq-eqb, ne_eqb}
use lib.Dec.{leb, eqb, lit<}
use lib.ListN.{length, get_or}
use Rattle.answers.specs.Lists.{all_of, joined}
use Rattle.answers.specs.Answers.{Answer, Check, check, first_failing, first_failing_part, granted}
use Rattle.answers.proofs.Tests.{both_true, false_if_not_true, all_of_at, first_true, second_true}
use Rattle.answers.proofs.Answers.{passing, refusing, other_than, passed_by_number, first_failing_passed, first_failing_joined, parts_append, all_pass_if_yes, number_of}
use Rattle.meaning.specs.Problem.{Problem, W, Outline, outline, word, constraint_place, node_place, children, node_of, problem_by, problem}
use Rattle.meaning.specs.Check.{largest_literal, first_right, second_right, children_of, header_checks, limit_check, limit_checks, length_checks, latch_checks, gate_checks, constraint_checks, node_checks}
use Rattle.meaning.specs.Proper.{LatchRight, GateRight, FirstRight, SecondRight, NodeRight, InLimits, RulesMet, NodeProper, Proper}
use Rattle.meaning.specs.Calls.{check_parts, check_problem, WellFormed}
use Rattle.meaning.proofs.ItemByItem.{◌and◌, all_of_joined}
use Rattle.meaning.proofs.Numbers.{all_of_each_below, all_of_below}
use Rattle.meaning.proofs.ShownBy.{inputs_by, bound_by, latches_by, gates_by, constraints_by, nodes_by, w_by, latch_by, gate_by, constraint_by, node_by}

-- ════════ Tests and checks in general ════════

-- Where a check fails, what comes after the checks does not matter.
pub first_failing_refused : (cs : List Check) (a b : Answer) → all_of passing cs ≡ false → first_failing cs a ≡ first_failing cs b
first_failing_refused [] a b e = absurd (true≢false e)
first_failing_refused (c ∷ cs) a b e = go c.passes refl (first_failing_refused cs a b)
  where
    go : (x : Bool) → c.passes ≡ x → (all_of passing cs ≡ false → first_failing cs a ≡ first_failing cs b)
        → first_failing (c ∷ cs) a ≡ first_failing (c ∷ cs) b
    go true p later = rw p (later (rw p at e))
    go false p later = rw p

-- Of checks that all pass, that of a number passes.
pub passes_at : (cs : List Check) (k : ℕ) → all_of passing cs ≡ true → k < length cs
    → (get_or cs k (check true (granted 0))).passes ≡ true
passes_at cs k = all_of_at passing cs k (check true (granted 0))

-- ════════ One latch, gate, constraint or node ════════

first_passes : (o : Outline) (n c a : ℕ) → FirstRight o n c a → first_right o n c a ≡ true
first_passes o n zero a r = le-leb _ _ r
first_passes o n (suc c) a r = le-leb _ _ r

first_if_passes : (o : Outline) (n c a : ℕ) → first_right o n c a ≡ true → FirstRight o n c a
first_if_passes o n zero a e = leb-true _ _ e
first_if_passes o n (suc c) a e = leb-true _ _ e

second_passes : (n c b : ℕ) → SecondRight n c b → second_right n c b ≡ true
second_passes n zero b r = eq-eqb b 0 r
second_passes n (suc zero) b r = eq-eqb b 0 r
second_passes n (suc (suc c)) b r = le-leb _ _ r

second_if_passes : (n c b : ℕ) → second_right n c b ≡ true → SecondRight n c b
second_if_passes n zero b e = eqb-true b 0 e
second_if_passes n (suc zero) b e = eqb-true b 0 e
second_if_passes n (suc (suc c)) b e = leb-true _ _ e

module _ (o : Outline) (ws : List ℕ) (i : ℕ) where
  latch_passes : LatchRight o ws i → all_of passing (latch_checks o ws i) ≡ true
  latch_passes r = both_true (le-leb _ _ r.next_in_range) (both_true (le-leb _ _ r.reset_in_range) refl)

  latch_if_passes : all_of passing (latch_checks o ws i) ≡ true → LatchRight o ws i
  latch_if_passes e = record {
    next_in_range = leb-true _ _ (passes_at (latch_checks o ws i) 0 e (lit< tt));
    reset_in_range = leb-true _ _ (passes_at (latch_checks o ws i) 1 e (lit< tt));
  }

  gate_passes : GateRight o ws i → all_of passing (gate_checks o ws i) ≡ true
  gate_passes r = both_true (le-leb _ _ r.left_below) (both_true (le-leb _ _ r.right_below) refl)

  gate_if_passes : all_of passing (gate_checks o ws i) ≡ true → GateRight o ws i
  gate_if_passes e = record {
    left_below = leb-true _ _ (passes_at (gate_checks o ws i) 0 e (lit< tt));
    right_below = leb-true _ _ (passes_at (gate_checks o ws i) 1 e (lit< tt));
  }

  constraint_passes : word ws (constraint_place o i) ≤ largest_literal o → all_of passing (constraint_checks o ws i) ≡ true
  constraint_passes r = both_true (le-leb _ _ r) refl

  constraint_if_passes : all_of passing (constraint_checks o ws i) ≡ true → word ws (constraint_place o i) ≤ largest_literal o
  constraint_if_passes e = leb-true _ _ (passes_at (constraint_checks o ws i) 0 e (lit< tt))

  module _ (table : List ℕ) where
    node_passes : NodeRight table o ws i → all_of passing (node_checks table o ws i) ≡ true
    node_passes r =
        let op = word ws (node_place o i) in
        both_true (le-leb _ _ r.op_known)
        (both_true (first_passes o i (children_of table op) (word ws (node_place o i + 1)) r.first_word)
        (both_true (second_passes i (children_of table op) (word ws (node_place o i + 2)) r.second_word) refl))

    node_if_passes : all_of passing (node_checks table o ws i) ≡ true → NodeRight table o ws i
    node_if_passes e =
        let op = word ws (node_place o i) in
        record {
          op_known = leb-true _ _ (passes_at (node_checks table o ws i) 0 e (lit< tt));
          first_word = first_if_passes o i (children_of table op) (word ws (node_place o i + 1)) (passes_at (node_checks table o ws i) 1 e (lit< tt));
          second_word = second_if_passes i (children_of table op) (word ws (node_place o i + 2)) (passes_at (node_checks table o ws i) 2 e (lit< tt));
        }

-- ════════ All checks ════════

-- The check, and what comes after it.
unfoldable pub problem_checked : ℕ → List ℕ → Answer → Answer
problem_checked version ws after = first_failing_part (check_parts version ws) after

-- A call's order of answers is the check's parts and then its own.
pub checked_then : (version : ℕ) (ws : List ℕ) (ps : List (List Check)) (after : Answer)
    → first_failing_part (check_parts version ws ++ ps) after ≡ problem_checked version ws (first_failing_part ps after)
unfolding problem_checked
checked_then version ws ps after = parts_append (check_parts version ws) ps after

abbrev pub all_checks : ℕ → List ℕ → List Check
all_checks version ws = joined (check_parts version ws)

pub checked_by_all : (version : ℕ) (ws : List ℕ) (after : Answer)
    → problem_checked version ws after ≡ first_failing (all_checks version ws) after
unfolding problem_checked
checked_by_all version ws after = first_failing_joined (check_parts version ws) after

-- The word at a place of the header is within its limits.
limit_passes : (ws : List ℕ) (i least most : ℕ) → least ≤ word ws i → word ws i ≤ most → (limit_check ws i least most).passes ≡ true
limit_passes ws i least most l m = both_true (le-leb _ _ l) (le-leb _ _ m)

module _ (ws : List ℕ) (i least most : ℕ) (e : (limit_check ws i least most).passes ≡ true) where
  least_if_passes : least ≤ word ws i
  least_if_passes = leb-true _ _ (first_true (leb least (word ws i)) (leb (word ws i) most) e)

  most_if_passes : word ws i ≤ most
  most_if_passes = leb-true _ _ (second_true (leb least (word ws i)) (leb (word ws i) most) e)

module _ (version : ℕ) (ws : List ℕ) where
  abbrev o : Outline
  o = outline version ws

  -- The checks of a problem have the numbers 1 to 5 and 15.
  all_checks_other : (k : ℕ) → ((n : ℕ) → 1 ≤ n → n ≤ 15 → n ≡ k → ⊥) → all_of (other_than k) (all_checks version ws) ≡ true
  all_checks_other k other =
      (all_of_joined (other_than k) (check_parts version ws)).1
      (both_true (is 15 (omega arith) (omega arith)) (both_true one refl)
      and both_true two (both_true two (both_true two (both_true two (both_true two (both_true two refl)))))
      and both_true one refl
      and all_of_each_below (other_than k) (latch_checks o ws) o.latches (λ i l. both_true four (both_true (is 3 (omega arith) (omega arith)) refl))
      and all_of_each_below (other_than k) (gate_checks o ws) o.gates (λ j l. both_true four (both_true four refl))
      and all_of_each_below (other_than k) (constraint_checks o ws) o.constraints (λ c l. both_true four refl)
      and all_of_each_below (other_than k) (node_checks children o ws) o.written_nodes (λ n l. both_true five (both_true five (both_true five refl)))
      and tt)
    where
      is : (n : ℕ) → 1 ≤ n → n ≤ 15 → not (eqb n k) ≡ true
      is n l h = rw (ne_eqb n k (other n l h))

      one : not (eqb 1 k) ≡ true
      one = is 1 (omega arith) (omega arith)

      two : not (eqb 2 k) ≡ true
      two = is 2 (omega arith) (omega arith)

      four : not (eqb 4 k) ≡ true
      four = is 4 (omega arith) (omega arith)

      five : not (eqb 5 k) ≡ true
      five = is 5 (omega arith) (omega arith)

  pub all_checks_refusing : all_of refusing (all_checks version ws) ≡ true
  all_checks_refusing = all_checks_other 0 (λ n l h e. omega arith)

  pub all_checks_below : (k : ℕ) → 15 < k → all_of (other_than k) (all_checks version ws) ≡ true
  all_checks_below k over = all_checks_other k (λ n l h e. omega arith)

  pub limits_pass : InLimits o → all_of passing (limit_checks version ws) ≡ true
  limits_pass w =
      both_true (limit_passes ws 0 _ _ zero-le w.inputs_within)
      (both_true (limit_passes ws 1 _ _ zero-le w.latches_within)
      (both_true (limit_passes ws 2 _ _ zero-le w.gates_within)
      (both_true (limit_passes ws 3 _ _ w.nodes_some w.nodes_within)
      (both_true (limit_passes ws 4 _ _ zero-le w.bound_within)
      (both_true (le-leb _ _ w.constraints_within) refl)))))

  pub in_limits_if_pass : all_of passing (limit_checks version ws) ≡ true → InLimits o
  in_limits_if_pass e = record {
    inputs_within = most_if_passes ws 0 _ _ (passes_at (limit_checks version ws) 0 e (lit< tt));
    latches_within = most_if_passes ws 1 _ _ (passes_at (limit_checks version ws) 1 e (lit< tt));
    gates_within = most_if_passes ws 2 _ _ (passes_at (limit_checks version ws) 2 e (lit< tt));
    nodes_some = least_if_passes ws 3 _ _ (passes_at (limit_checks version ws) 3 e (lit< tt));
    nodes_within = most_if_passes ws 3 _ _ (passes_at (limit_checks version ws) 3 e (lit< tt));
    bound_within = most_if_passes ws 4 _ _ (passes_at (limit_checks version ws) 4 e (lit< tt));
    constraints_within = leb-true _ _ (passes_at (limit_checks version ws) 5 e (lit< tt));
  }

  pub all_pass_if_rules_met : RulesMet version ws → all_of passing (all_checks version ws) ≡ true
  all_pass_if_rules_met w =
      (all_of_joined passing (check_parts version ws)).1
      (both_true (lt-ltb _ _ w.version_known) (both_true (le-leb _ _ w.header_there) refl)
      and limits_pass w.in_limits
      and both_true (eq-eqb _ _ w.length_right) refl
      and all_of_each_below passing (latch_checks o ws) o.latches (λ i l. latch_passes o ws i (w.latches_right i l))
      and all_of_each_below passing (gate_checks o ws) o.gates (λ j l. gate_passes o ws j (w.gates_right j l))
      and all_of_each_below passing (constraint_checks o ws) o.constraints (λ c l. constraint_passes o ws c (w.constraints_right c l))
      and all_of_each_below passing (node_checks children o ws) o.written_nodes (λ n l. node_passes o ws n children (w.nodes_right n l))
      and tt)

  pub rules_met_if_all_pass : all_of passing (all_checks version ws) ≡ true → RulesMet version ws
  rules_met_if_all_pass e =
      let parts = (all_of_joined passing (check_parts version ws)).0 e in
      let header = parts.0 in
      let limits = parts.1.0 in
      let lengths = parts.1.1.0 in
      let latches = parts.1.1.1.0 in
      let gates = parts.1.1.1.1.0 in
      let constraints = parts.1.1.1.1.1.0 in
      let nodes = parts.1.1.1.1.1.1.0 in
      record {
        version_known = ltb-true _ _ (passes_at (header_checks version ws) 0 header (lit< tt));
        header_there = leb-true _ _ (passes_at (header_checks version ws) 1 header (lit< tt));
        in_limits = in_limits_if_pass limits;
        length_right = eqb-true _ _ (passes_at (length_checks o ws) 0 lengths (lit< tt));
        latches_right = λ i l. latch_if_passes o ws i (all_of_below passing (latch_checks o ws) o.latches latches i l);
        gates_right = λ j l. gate_if_passes o ws j (all_of_below passing (gate_checks o ws) o.gates gates j l);
        constraints_right = λ c l. constraint_if_passes o ws c (all_of_below passing (constraint_checks o ws) o.constraints constraints c l);
        nodes_right = λ n l. node_if_passes o ws n children (all_of_below passing (node_checks children o ws) o.written_nodes nodes n l);
      }

-- ════════ What the answer says ════════

module _ (version : ℕ) (ws : List ℕ) where
  pub all_pass_if_well_formed : WellFormed version ws → all_of passing (all_checks version ws) ≡ true
  unfolding check_problem
  all_pass_if_well_formed w =
      all_pass_if_yes (all_checks version ws) (granted 0) (all_checks_refusing version ws)
      (number_of (sym (first_failing_joined (check_parts version ws) (granted 0)) ∙ w))

  pub well_formed_if_all_pass : all_of passing (all_checks version ws) ≡ true → WellFormed version ws
  unfolding check_problem
  well_formed_if_all_pass e =
      first_failing_joined (check_parts version ws) (granted 0) ∙ first_failing_passed (all_checks version ws) (granted 0) e

  pub check_yes : WellFormed version ws ↔ RulesMet version ws
  check_yes = (
    λ w. rules_met_if_all_pass version ws (all_pass_if_well_formed w),
    λ r. well_formed_if_all_pass (all_pass_if_rules_met version ws r),
  )

pub checked_if_well_formed : (version : ℕ) (ws : List ℕ) (after : Answer) → WellFormed version ws → problem_checked version ws after ≡ after
checked_if_well_formed version ws after w =
    checked_by_all version ws after
    ∙ first_failing_passed (all_checks version ws) after (all_pass_if_well_formed version ws w)

pub well_formed_if_checked : (version : ℕ) (ws : List ℕ) (after : Answer) → (problem_checked version ws after).number ≡ 0 → WellFormed version ws
well_formed_if_checked version ws after e =
    well_formed_if_all_pass version ws
    (all_pass_if_yes (all_checks version ws) after (all_checks_refusing version ws) (rw checked_by_all at e))

-- A number over 15 comes from what comes after the check.
pub well_formed_if_over : (version : ℕ) (ws : List ℕ) (after : Answer) (k : ℕ) → 15 < k → (problem_checked version ws after).number ≡ k → WellFormed version ws
well_formed_if_over version ws after k over e =
    well_formed_if_all_pass version ws
    (passed_by_number k (all_checks version ws) after (all_checks_below version ws k over) (rw checked_by_all at e))

-- A refusal of the check does not depend on what comes after it.
pub not_well_formed : (version : ℕ) (ws : List ℕ) (a b : Answer) → ¬ WellFormed version ws
    → problem_checked version ws a ≡ problem_checked version ws b
not_well_formed version ws a b n =
    rw (checked_by_all version ws a, checked_by_all version ws b)
    (first_failing_refused (all_checks version ws) a b
    (false_if_not_true (all_of passing (all_checks version ws)) (λ e. n (well_formed_if_all_pass version ws e))))

-- ════════ The problem of well-formed words is proper ════════

-- Each op's shape, over words that are right, is a proper node.
node_of_proper : (p : Problem) (o : Outline) (n op a b : ℕ) → largest_literal o ≡ 2 * W p + 1 → op < length children
    → FirstRight o n (children_of children op) a → SecondRight n (children_of children op) b → NodeProper p n (node_of op a b)
node_of_proper p o n zero a b e l f s = rw e at f
node_of_proper p o n (suc zero) a b e l f s = (f, s)
node_of_proper p o n (suc (suc zero)) a b e l f s = (f, s)
node_of_proper p o n (suc (suc (suc zero))) a b e l f s = f
node_of_proper p o n (suc (suc (suc (suc zero)))) a b e l f s = (tt, f)
node_of_proper p o n (suc (suc (suc (suc (suc zero))))) a b e l f s = (tt, f)
node_of_proper p o n (suc (suc (suc (suc (suc (suc zero)))))) a b e l f s = (f, s)
node_of_proper p o n (suc (suc (suc (suc (suc (suc (suc zero))))))) a b e l f s = (f, s)
node_of_proper p o n (suc (suc (suc (suc (suc (suc (suc (suc op)))))))) a b e l f s = absurd (omega arith)

-- The width of the outline is the problem's.
pub width_of_words : (version : ℕ) (ws : List ℕ) → W (problem version ws) ≡ (outline version ws).width
unfolding problem
width_of_words version ws = w_by (outline version ws) ws

pub proper_if_well_formed : (version : ℕ) (ws : List ℕ) → WellFormed version ws → Proper (problem version ws)
unfolding problem
proper_if_well_formed version ws formed = record {
  inputs_within = rw inputs_by within.inputs_within;
  latches_within = rw latches_by within.latches_within;
  gates_within = rw gates_by within.gates_within;
  nodes_some = rw nodes_by within.nodes_some;
  nodes_within = rw nodes_by within.nodes_within;
  bound_within = rw bound_by within.bound_within;
  constraints_within = rw constraints_by within.constraints_within;
  next_in_range = λ i l. let m = is_latch i l in rw (latch_by o ws i m, w_by) (w.latches_right i m).next_in_range;
  reset_in_range = λ i l. let m = is_latch i l in rw (latch_by o ws i m) (w.latches_right i m).reset_in_range;
  left_below = λ j l. let m = is_gate j l in rw (gate_by o ws j m, latches_by, inputs_by) (w.gates_right j m).left_below;
  right_below = λ j l. let m = is_gate j l in rw (gate_by o ws j m, latches_by, inputs_by) (w.gates_right j m).right_below;
  constraints_in_range = λ c l. let m : c < o.constraints = rw constraints_by at l in rw (constraint_by o ws c m, w_by) (w.constraints_right c m);
  nodes_proper = λ n l.
      let m : n < o.written_nodes = rw nodes_by at l in
      let r = w.nodes_right n m in
      rw (node_by o ws n m)
      (node_of_proper (problem_by o ws) o n _ _ _ (rw w_by) r.op_known r.first_word r.second_word);
}
  where
    o : Outline
    o = outline version ws

    w : RulesMet version ws
    w = (check_yes version ws).0 formed

    within : InLimits o
    within = w.in_limits

    is_latch : (i : ℕ) → i < length (problem_by o ws).latches → i < o.latches
    is_latch i l = rw latches_by at l

    is_gate : (j : ℕ) → j < length (problem_by o ws).gates → j < o.gates
    is_gate j l = rw gates_by at l

-- ════════ An answer by another number ════════

-- The numbers of a problem's checks.
abbrev pub check_numbers : List ℕ
check_numbers = 1 ∷ 2 ∷ 3 ∷ 4 ∷ 5 ∷ 15 ∷ []

-- A number is none of those.
abbrev pub Apart : ℕ → List ℕ → Type 0
Apart k ns = all_of (λ n. not (eqb n k)) ns ≡ true

module _ (version : ℕ) (ws : List ℕ) where
  abbrev laid : Outline
  laid = outline version ws

  pub all_checks_apart : (k : ℕ) → Apart k check_numbers → all_of (other_than k) (all_checks version ws) ≡ true
  all_checks_apart k apart =
      (all_of_joined (other_than k) (check_parts version ws)).1
      (both_true (is 5 (lit< tt)) (both_true one refl)
      and both_true two (both_true two (both_true two (both_true two (both_true two (both_true two refl)))))
      and both_true one refl
      and all_of_each_below (other_than k) (latch_checks laid ws) laid.latches (λ i l. both_true four (both_true (is 2 (lit< tt)) refl))
      and all_of_each_below (other_than k) (gate_checks laid ws) laid.gates (λ j l. both_true four (both_true four refl))
      and all_of_each_below (other_than k) (constraint_checks laid ws) laid.constraints (λ c l. both_true four refl)
      and all_of_each_below (other_than k) (node_checks children laid ws) laid.written_nodes (λ n l. both_true five (both_true five (both_true five refl)))
      and tt)
    where
      is : (i : ℕ) → i < 6 → not (eqb (get_or check_numbers i 0) k) ≡ true
      is i l = all_of_at (λ n. not (eqb n k)) check_numbers i 0 apart l

      one : not (eqb 1 k) ≡ true
      one = is 0 (lit< tt)

      two : not (eqb 2 k) ≡ true
      two = is 1 (lit< tt)

      four : not (eqb 4 k) ≡ true
      four = is 3 (lit< tt)

      five : not (eqb 5 k) ≡ true
      five = is 4 (lit< tt)

-- An answer by a number that the check does not have comes from what comes after it, of well-formed words.
pub well_formed_by_number : (version : ℕ) (ws : List ℕ) (after : Answer) (k : ℕ) → Apart k check_numbers
    → (problem_checked version ws after).number ≡ k → WellFormed version ws
well_formed_by_number version ws after k apart e =
    well_formed_if_all_pass version ws
    (passed_by_number k (all_checks version ws) after (all_checks_apart version ws k apart) (rw checked_by_all at e))

pub past_check : (version : ℕ) (ws : List ℕ) (after x : Answer) → Apart x.number check_numbers
    → (problem_checked version ws after ≡ x) ↔ (WellFormed version ws × (after ≡ x))
past_check version ws after x apart = (
  λ e.
      let formed = well_formed_by_number version ws after x.number apart (number_of e) in
      (formed, sym (checked_if_well_formed version ws after formed) ∙ e),
  λ h. checked_if_well_formed version ws after h.0 ∙ h.1,
)

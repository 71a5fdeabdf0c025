-- The check says yes exactly where its rules are met; what comes after it gives the answer there, and nowhere else. Assumes nothing.
use mathlib.Core.Path.{◌≡◌, refl, sym, ◌∙◌}
use mathlib.Core.Bool.{true, not}
use mathlib.Core.List.{List, [], ◌∷◌, ◌++◌}
use Prim.Native.Nat.{ℕ, ◌≤◌, ◌<◌, zero-le}
use native.Mathlib.Omega.{arith}
use borrow.Author.Tests.{leb-true, le-leb, eqb-true, eq-eqb, ne_eqb}
use lib.Dec.{leb, eqb, lit<}
use lib.ListN.{length}
use Rattle.answers.specs.Lists.{all_of, joined}
use Rattle.answers.specs.Answers.{Answer, Check, first_failing_part, granted}
use Rattle.answers.proofs.Tests.{both_true, second_true}
use Rattle.answers.proofs.Answers.{passing, other_than, passed_by_number, first_failing_passed, first_failing_joined, parts_append, number_of}
use Rattle.meaning.specs.Problem.{word}
use Rattle.meaning.specs.Check.{largest_literal, limit_check, latch_checks, gate_checks}
use Rattle.meaning.specs.Proper.{LatchRight, GateRight}
use Rattle.meaning.proofs.ItemByItem.{◌and◌, all_of_joined}
use Rattle.meaning.proofs.Numbers.{all_of_each_below, all_of_below}
use Rattle.meaning.proofs.Check.{passes_at}
use Rattle.problem.specs.declared.Refusal.{Refusal}
use Rattle.std.specs.Prelude.{Ok, Err, ⊤}
use Rattle.problem.specs.Promise.{refusal_answer}
use Rattle.problem.specs.CheckParts.{Answers}
use Rattle.problem.proofs.Answered.{refused_first}
use Rattle.problem.proofs.Formed.{passes_if_handed_on}
use Rattle.aiger.specs.Circuits.{Sizes, sizes, header_size, circuit, output_place, words_in_all, header_checks, limit_checks, length_checks, output_checks, circuit_parts, check_circuit}
use Rattle.aiger.specs.Reads.{Fitting}

-- All that the check asks of the words.
pub record GoodCircuit (ws : List ℕ) : Type 0 where
  pub header_there : header_size ≤ length ws
  pub fitting : Fitting (sizes ws)
  pub length_right : length ws ≡ words_in_all (sizes ws)
  pub latches_right : (i : ℕ) → i < (sizes ws).latches → LatchRight (circuit (sizes ws)) ws i
  pub gates_right : (j : ℕ) → j < (sizes ws).gates → GateRight (circuit (sizes ws)) ws j
  pub outputs_right : (o : ℕ) → o < (sizes ws).outputs → word ws (output_place (sizes ws) o) ≤ largest_literal (circuit (sizes ws))

-- ════════ The limits ════════

module _ (ws : List ℕ) where
  within : (i most : ℕ) → word ws i ≤ most → (limit_check ws i 0 most).passes ≡ true
  within i most l = both_true (le-leb 0 (word ws i) zero-le) (le-leb _ _ l)

  limits_pass : Fitting (sizes ws) → all_of passing (limit_checks ws) ≡ true
  limits_pass f =
      both_true (within 0 _ f.inputs_within)
      (both_true (within 1 _ f.latches_within) (both_true (within 2 _ f.gates_within) (both_true (within 3 _ f.outputs_within) refl)))

  within_if_pass : (i most : ℕ) → (limit_check ws i 0 most).passes ≡ true → word ws i ≤ most
  within_if_pass i most e = leb-true _ _ (second_true (leb 0 (word ws i)) (leb (word ws i) most) e)

  fitting_if_pass : all_of passing (limit_checks ws) ≡ true → Fitting (sizes ws)
  fitting_if_pass e = record {
    inputs_within = within_if_pass 0 _ (passes_at (limit_checks ws) 0 e (lit< tt));
    latches_within = within_if_pass 1 _ (passes_at (limit_checks ws) 1 e (lit< tt));
    gates_within = within_if_pass 2 _ (passes_at (limit_checks ws) 2 e (lit< tt));
    outputs_within = within_if_pass 3 _ (passes_at (limit_checks ws) 3 e (lit< tt));
  }

  -- A limit that passed.
  pub within_if_passed : {A : Type 0} {x : A} (i most : ℕ) → Answers ((limit_check ws i 0 most ∷ []) ∷ []) (Ok x) → word ws i ≤ most
  within_if_passed i most a =
      let part = limit_check ws i 0 most ∷ [] in
      within_if_pass i most (passes_at part 0 (passes_if_handed_on part (λ after. a.answered after)) (lit< tt))

-- ════════ All checks ════════

module _ (ws : List ℕ) where
  abbrev s : Sizes
  s = sizes ws

  abbrev all_checks : List Check
  all_checks = joined (circuit_parts ws)

  all_pass_if_good : GoodCircuit ws → all_of passing all_checks ≡ true
  all_pass_if_good g =
      (all_of_joined passing (circuit_parts ws)).1
      (both_true (le-leb _ _ g.header_there) refl
      and limits_pass ws g.fitting
      and both_true (eq-eqb _ _ g.length_right) refl
      and all_of_each_below passing (latch_checks (circuit s) ws) s.latches
      (λ i l. let r = g.latches_right i l in both_true (le-leb _ _ r.next_in_range) (both_true (le-leb _ _ r.reset_in_range) refl))
      and all_of_each_below passing (gate_checks (circuit s) ws) s.gates
      (λ j l. let r = g.gates_right j l in both_true (le-leb _ _ r.left_below) (both_true (le-leb _ _ r.right_below) refl))
      and all_of_each_below passing (output_checks s ws) s.outputs (λ o l. both_true (le-leb _ _ (g.outputs_right o l)) refl)
      and tt)

  good_if_all_pass : all_of passing all_checks ≡ true → GoodCircuit ws
  good_if_all_pass e =
      let parts = (all_of_joined passing (circuit_parts ws)).0 e in
      let lengths = parts.1.1.0 in
      let latches = parts.1.1.1.0 in
      let gates = parts.1.1.1.1.0 in
      let outputs = parts.1.1.1.1.1.0 in
      record {
        header_there = leb-true _ _ (passes_at (header_checks ws) 0 parts.0 (lit< tt));
        fitting = fitting_if_pass ws parts.1.0;
        length_right = eqb-true _ _ (passes_at (length_checks s ws) 0 lengths (lit< tt));
        latches_right = λ i l.
            let both = all_of_below passing (latch_checks (circuit s) ws) s.latches latches i l in
            record {
              next_in_range = leb-true _ _ (passes_at (latch_checks (circuit s) ws i) 0 both (lit< tt));
              reset_in_range = leb-true _ _ (passes_at (latch_checks (circuit s) ws i) 1 both (lit< tt));
            };
        gates_right = λ j l.
            let both = all_of_below passing (gate_checks (circuit s) ws) s.gates gates j l in
            record {
              left_below = leb-true _ _ (passes_at (gate_checks (circuit s) ws j) 0 both (lit< tt));
              right_below = leb-true _ _ (passes_at (gate_checks (circuit s) ws j) 1 both (lit< tt));
            };
        outputs_right = λ o l.
            leb-true _ _ (passes_at (output_checks s ws o) 0 (all_of_below passing (output_checks s ws) s.outputs outputs o l) (lit< tt));
      }

  -- They have the numbers 1 to 4.
  all_checks_other : (k : ℕ) → ((n : ℕ) → 1 ≤ n → n ≤ 4 → n ≡ k → ⊥) → all_of (other_than k) all_checks ≡ true
  all_checks_other k other =
      (all_of_joined (other_than k) (circuit_parts ws)).1
      (both_true one refl
      and both_true two (both_true two (both_true two (both_true two refl)))
      and both_true one refl
      and all_of_each_below (other_than k) (latch_checks (circuit s) ws) s.latches (λ i l. both_true four (both_true (is 3 (omega arith) (omega arith)) refl))
      and all_of_each_below (other_than k) (gate_checks (circuit s) ws) s.gates (λ j l. both_true four (both_true four refl))
      and all_of_each_below (other_than k) (output_checks s ws) s.outputs (λ o l. both_true four refl)
      and tt)
    where
      is : (n : ℕ) → 1 ≤ n → n ≤ 4 → not (eqb n k) ≡ true
      is n l h = rw (ne_eqb n k (other n l h))

      one : not (eqb 1 k) ≡ true
      one = is 1 (omega arith) (omega arith)

      two : not (eqb 2 k) ≡ true
      two = is 2 (omega arith) (omega arith)

      four : not (eqb 4 k) ≡ true
      four = is 4 (omega arith) (omega arith)

-- ════════ What the answer says ════════

module _ (ws : List ℕ) where
  -- A number that no check has, as 0 or 27, comes from what comes after the check.
  pub good_by_number : (k : ℕ) (after : Answer) → ((n : ℕ) → 1 ≤ n → n ≤ 4 → n ≡ k → ⊥)
      → (first_failing_part (circuit_parts ws) after).number ≡ k → GoodCircuit ws
  good_by_number k after other e =
      good_if_all_pass ws
      (passed_by_number k (all_checks ws) after (all_checks_other ws k other) (sym (number_of (first_failing_joined (circuit_parts ws) after)) ∙ e))

  pub good_if_granted : check_circuit ws ≡ granted 0 → GoodCircuit ws
  unfolding check_circuit
  good_if_granted e = good_by_number 0 (granted 0) (λ n l h z. omega arith) (number_of e)

  pub good_if_passed : {A : Type 0} {x : A} → Answers (circuit_parts ws) (Ok x) → GoodCircuit ws
  unfolding check_circuit
  good_if_passed a = good_if_granted (sym (a.answered (granted 0)))

  -- What comes after the check gives the answer where the words are good.
  pub handed_on : (after : Answer) → GoodCircuit ws → first_failing_part (circuit_parts ws) after ≡ after
  handed_on after g =
      first_failing_joined (circuit_parts ws) after ∙ first_failing_passed (all_checks ws) after (all_pass_if_good ws g)

  pub granted_if_good : GoodCircuit ws → check_circuit ws ≡ granted 0
  unfolding check_circuit
  granted_if_good = handed_on (granted 0)

  -- The check, and what is checked after it.
  module _ (more : List (List Check)) (after : Answer) where
    pub more_if_good : GoodCircuit ws → first_failing_part (circuit_parts ws ++ more) after ≡ first_failing_part more after
    more_if_good g = parts_append (circuit_parts ws) more after ∙ handed_on (first_failing_part more after) g

    pub refused_whatever : {A : Type 0} {f : Refusal} → Answers {A = A} (circuit_parts ws) (Err f) → first_failing_part (circuit_parts ws ++ more) after ≡ refusal_answer f
    refused_whatever a = sym ((refused_first {B = ⊤} (circuit_parts ws) more a).answered after)

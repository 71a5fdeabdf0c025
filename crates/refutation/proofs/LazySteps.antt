-- Judges that follow a wrong rule for a step do not meet the promise. Each is right but for its rule. Assumes nothing.
use mathlib.Core.Path.{◌≡◌, refl}
use mathlib.Core.Bool.{Bool, true, false, not, cond, ◌||◌}
use mathlib.Core.List.{List, [], ◌∷◌, ◌++◌, map}
use mathlib.Core.Option.{get_or}
use Prim.Native.Nat.{ℕ, suc, ◌+◌}
use native.Mathlib.Omega.{arith}
use lib.IntN.{ℤ, pos}
use lib.Dec.{eqb}
use lib.ListN.{length}
use Rattle.answers.specs.Lists.{all_of, empty}
use Rattle.answers.specs.Answers.{check, first_failing_part, granted, not_closed}
use Rattle.clauses.specs.Clauses.{Clause, minus, negated, same}
use Rattle.clauses.specs.CnfWords.{clauses_of}
use Rattle.clauses.specs.Refutations.{Step, steps_of, both_signs, clause_numbered, not_false, Outcome, conflict, unit, neither, outcome, step_accepted, step_checks, with_step, last_is_empty_after, judge_steps}
use Rattle.refutation.specs.Promise.{answer_of}
use Rattle.std.specs.Prelude.{Result, Ok, Err}
use Rattle.refutation.specs.declared.NotRefuted.{NotRefuted}
use Rattle.refutation.specs.declared.NotRefuted.TheVariants.{StepRefused, NotClosed}
use Rattle.refutation.proofs.Lazy.{Input, Wrong, laid_down, wrong_number, over_t}

-- ════════ Judging by a rule ════════

-- A rule says whether a step passes: from the clauses so far, the step's number, the step, and the steps after it.
abbrev pub Rule : Type 0
Rule = List Clause → ℕ → Step → List Step → Bool

-- How an accepted step's clause joins those so far.
abbrev pub Adding : Type 0
Adding = List Clause → Step → List Clause

-- The steps from number i on; `closed` says whether the clause before them is empty.
abbrev pub steps_by : Adding → Rule → List Clause → ℕ → Bool → List Step → Result Unit NotRefuted
steps_by adds rule cs i closed [] = cond closed (Ok tt) (Err (NotClosed i))
steps_by adds rule cs i closed (s ∷ ss) =
    cond (rule cs i s ss) (steps_by adds rule (adds cs s) (suc i) (empty s.clause) ss) (Err (StepRefused i))

-- What a judge by this rule answers, where the words and the work areas are right.
abbrev pub answer_by : Rule → Input → Result Unit NotRefuted
answer_by rule x = steps_by with_step rule (clauses_of x.cnf) 0 false (steps_of x.refutation)

abbrev pub the_rule : Rule
the_rule cs i s ss = step_accepted (clause_numbered cs) s

answer_cond : (b : Bool) (p q : Result Unit NotRefuted) → answer_of (cond b p q) ≡ cond b (answer_of p) (answer_of q)
answer_cond true p q = refl
answer_cond false p q = refl

-- The checks of steps from number i on, with the closing check after them.
steps_by_rule : (cs : List Clause) (i total : ℕ) (closed : Bool) (s : Step) (ss : List Step) → total ≡ suc i + length ss
    → answer_of (steps_by with_step the_rule cs i closed (s ∷ ss))
    ≡ first_failing_part (step_checks cs i (s ∷ ss) ∷ (check (last_is_empty_after s ss) (not_closed total) ∷ []) ∷ []) (granted 0)
steps_by_rule cs i total closed s [] e =
    let t : total ≡ suc i = omega arith in
    rw (t, answer_cond (step_accepted (clause_numbered cs) s), answer_cond (empty s.clause))
steps_by_rule cs i total closed s (t ∷ ts) e =
    rw (answer_cond (step_accepted (clause_numbered cs) s), steps_by_rule (with_step cs s) (suc i) total (empty s.clause) t ts (omega arith))

-- By the right rule the answer is the one laid down, so a wrong rule is all that is wrong below.
pub the_rule_right : (cs : List Clause) (ss : List Step) → answer_of (steps_by with_step the_rule cs 0 false ss) ≡ judge_steps cs ss
unfolding judge_steps
the_rule_right cs [] = refl
the_rule_right cs (s ∷ ss) = steps_by_rule cs 0 (length (s ∷ ss)) false s ss (omega arith)

-- ════════ Only some steps are judged ════════

abbrev pub first_step_only : Rule
first_step_only cs i s ss = not (eqb i 0) || step_accepted (clause_numbered cs) s

-- T's step 0 2 12 5 0, then 0 0: the empty clause again, with no hint. 13 at 1 is right, and this judge says yes.
abbrev pub second_refused : Input
second_refused = over_t (pos 0 ∷ pos 2 ∷ pos 12 ∷ pos 5 ∷ pos 0 ∷ pos 0 ∷ pos 0 ∷ []) 7 14

pub first_step_only_breaks : Wrong second_refused (answer_by first_step_only second_refused)
unfolding laid_down
first_step_only_breaks = wrong_number second_refused (Ok tt) (λ e. omega arith)

-- 4 0 12 0, then 5 0 0: the clause [4] from clause 12, then [5] with no hint. 13 at 1 is right, and this judge says 14 at 2.
abbrev pub second_refused_open : Input
second_refused_open = over_t (pos 4 ∷ pos 0 ∷ pos 12 ∷ pos 0 ∷ pos 5 ∷ pos 0 ∷ pos 0 ∷ []) 7 14

pub first_step_only_open_breaks : Wrong second_refused_open (answer_by first_step_only second_refused_open)
unfolding laid_down
first_step_only_open_breaks = wrong_number second_refused_open (Err (NotClosed 2)) (λ e. omega arith)

-- Nor does the same judge if it takes the first step for the last, and says 14 at any count.
pub not_closed_for_refused_breaks : (n : ℕ) → Wrong second_refused_open (Err (NotClosed n))
unfolding laid_down
not_closed_for_refused_breaks n = wrong_number second_refused_open (Err (NotClosed n)) (λ e. omega arith)

abbrev pub last_step_only : Rule
last_step_only cs i s ss = not (empty ss) || step_accepted (clause_numbered cs) s

-- 0 12 5 0, which is refused, then 0 2 12 5 0, which passes. 13 at 0 is right, and this judge says yes.
abbrev pub first_refused : Input
first_refused = over_t (pos 0 ∷ pos 12 ∷ pos 5 ∷ pos 0 ∷ pos 0 ∷ pos 2 ∷ pos 12 ∷ pos 5 ∷ pos 0 ∷ []) 7 14

pub last_step_only_breaks : Wrong first_refused (answer_by last_step_only first_refused)
unfolding laid_down
last_step_only_breaks = wrong_number first_refused (Ok tt) (λ e. omega arith)

-- 0 0, then 0 13 0: the empty clause with no hint, then the same from it. 13 at 0 is right, and this judge says yes.
abbrev pub leans_on_refused : Input
leans_on_refused = over_t (pos 0 ∷ pos 0 ∷ pos 0 ∷ pos 13 ∷ pos 0 ∷ []) 7 14

pub leaning_on_refused_breaks : Wrong leans_on_refused (answer_by last_step_only leans_on_refused)
unfolding laid_down
leaning_on_refused_breaks = wrong_number leans_on_refused (Ok tt) (λ e. omega arith)

-- ════════ A wrong rule for the hints ════════

-- Hints taken in order: what a clause gives, what a conflict with these hints after it says, and what no conflict says.
-- A hint that names no clause never comes here: 11 refuses it.
abbrev pub hints_by : (List ℤ → Clause → Outcome) → (List ℕ → Bool) → Bool → List Clause → List ℤ → List ℕ → Bool
hints_by gives at_conflict at_end cs trues [] = at_end
hints_by gives at_conflict at_end cs trues (h ∷ hs) =
    elim (gives trues (get_or (clause_numbered cs h) [])) [
      | conflict ↦ at_conflict hs
      | unit u ↦ hints_by gives at_conflict at_end cs (u ∷ trues) hs
      | neither ↦ false
    ]

-- A clause with both signs is judged as laid down, any other by its hints.
abbrev pub of_hints : (List Clause → List ℤ → List ℕ → Bool) → Rule
of_hints says cs i s ss = cond (both_signs s.clause) (empty s.hints) (says cs (map negated s.clause) s.hints)

-- A conflict passes the step wherever it stands.
abbrev pub any_conflict : Rule
any_conflict = of_hints (hints_by outcome (λ hs. true) false)

-- 0 2 12 5 2 0: the conflict is hint 5, and hint 2 comes after it. 13 at 0 is right, and this judge says yes.
abbrev pub early_conflict : Input
early_conflict = over_t (pos 0 ∷ pos 2 ∷ pos 12 ∷ pos 5 ∷ pos 2 ∷ pos 0 ∷ []) 7 13

pub early_conflict_breaks : Wrong early_conflict (answer_by any_conflict early_conflict)
unfolding laid_down
early_conflict_breaks = wrong_number early_conflict (Ok tt) (λ e. omega arith)

-- The literals that are not false are one literal: a unit, even where that literal is true.
abbrev pub unit_or_true : List ℤ → Outcome
unit_or_true [] = conflict
unit_or_true (u ∷ us) = cond (all_of (same u) us) (unit u) neither

abbrev pub true_is_unit : Rule
true_is_unit = of_hints (hints_by (λ trues c. unit_or_true (not_false trues c)) empty false)

-- 0 2 2 12 5 0: clause 2 is true when its hint comes again. 13 at 0 is right, and this judge says yes.
abbrev pub hint_again : Input
hint_again = over_t (pos 0 ∷ pos 2 ∷ pos 2 ∷ pos 12 ∷ pos 5 ∷ pos 0 ∷ []) 7 13

pub true_hint_breaks : Wrong hint_again (answer_by true_is_unit hint_again)
unfolding laid_down
true_hint_breaks = wrong_number hint_again (Ok tt) (λ e. omega arith)

-- Units are enough, without a conflict.
abbrev pub no_conflict_needed : Rule
no_conflict_needed = of_hints (hints_by outcome empty true)

-- 0 2 12 0: two units and no conflict. 13 at 0 is right, and this judge says yes.
abbrev pub no_conflict : Input
no_conflict = over_t (pos 0 ∷ pos 2 ∷ pos 12 ∷ pos 0 ∷ []) 7 13

pub no_conflict_breaks : Wrong no_conflict (answer_by no_conflict_needed no_conflict)
unfolding laid_down
no_conflict_breaks = wrong_number no_conflict (Ok tt) (λ e. omega arith)

-- A clause that gives nothing is passed over: only the word 0, which is no literal, becomes true.
abbrev pub skipped : Outcome → Outcome
skipped conflict = conflict
skipped (unit u) = unit u
skipped neither = unit (pos 0)

abbrev pub skips_hints : Rule
skips_hints = of_hints (hints_by (λ trues c. skipped (outcome trues c)) empty false)

-- 0 3 2 12 5 0: clause 3, `-3 -2 -2 0`, gives nothing. 13 at 0 is right, and this judge says yes.
abbrev pub idle_hint : Input
idle_hint = over_t (pos 0 ∷ pos 3 ∷ pos 2 ∷ pos 12 ∷ pos 5 ∷ pos 0 ∷ []) 7 13

pub skipped_hint_breaks : Wrong idle_hint (answer_by skips_hints idle_hint)
unfolding laid_down
skipped_hint_breaks = wrong_number idle_hint (Ok tt) (λ e. omega arith)

-- ════════ Another clause under an accepted step's number ════════

-- What a judge that adds clauses so answers.
abbrev pub answer_adding : Adding → Input → Result Unit NotRefuted
answer_adding adds x = steps_by adds the_rule (clauses_of x.cnf) 0 false (steps_of x.refutation)

-- None: the clause of an accepted step is not found under its number.
abbrev pub none_added : Adding
none_added cs s = cs

-- Its hints, as if they were literals.
abbrev pub hints_added : Adding
hints_added cs s = cs ++ (map pos s.hints ∷ [])

-- -4 0 2 5 0, then 0 12 13 0: hint 13 is (-4). Yes is right, and these judges say 13 at 1: none has the number, and (2 5) gives nothing.
abbrev pub names_a_step : Input
names_a_step = over_t (minus 4 ∷ pos 0 ∷ pos 2 ∷ pos 5 ∷ pos 0 ∷ pos 0 ∷ pos 12 ∷ pos 13 ∷ pos 0 ∷ []) 7 14

pub clause_not_added_breaks : Wrong names_a_step (answer_adding none_added names_a_step)
unfolding laid_down
clause_not_added_breaks = wrong_number names_a_step (Err (StepRefused 1)) (λ e. omega arith)

pub hints_for_clause_breaks : Wrong names_a_step (answer_adding hints_added names_a_step)
unfolding laid_down
hints_for_clause_breaks = wrong_number names_a_step (Err (StepRefused 1)) (λ e. omega arith)

-- 1 -1 0 0, then 0 13 0: hint 13 is (1 -1). 13 at 1 is right, and of a step without hints this judge adds the empty clause and says yes.
abbrev pub names_a_trivial_step : Input
names_a_trivial_step = over_t (pos 1 ∷ minus 1 ∷ pos 0 ∷ pos 0 ∷ pos 0 ∷ pos 13 ∷ pos 0 ∷ []) 7 14

pub no_hints_for_clause_breaks : Wrong names_a_trivial_step (answer_adding hints_added names_a_trivial_step)
unfolding laid_down
no_hints_for_clause_breaks = wrong_number names_a_trivial_step (Ok tt) (λ e. omega arith)

-- Judges that follow a wrong rule for a step whose clause has both signs of a variable do not meet the promise. Assumes nothing.
use mathlib.Core.Path.{◌≡◌, sym, ◌∙◌}
use mathlib.Core.Bool.{Bool, true, false, not, cond, ◌&&◌, ◌||◌}
use mathlib.Core.List.{List, [], ◌∷◌, map, Memᴰ}
use mathlib.Core.Option.{some}
use Prim.Native.Nat.{ℕ, ◌<◌}
use native.Mathlib.Omega.{arith}
use lib.IntN.{ℤ, pos}
use lib.Dec.{eqb}
use lib.ListN.{length}
use Rattle.answers.specs.Lists.{all_of, empty}
use Rattle.clauses.specs.Clauses.{Clause, minus, negated, variable_of, among}
use Rattle.clauses.specs.CnfWords.{clauses_of}
use Rattle.clauses.specs.Refutations.{Step, Lookup, steps_of, both_signs, clause_numbered, not_false, Outcome, conflict, unit, neither, hints_conflict, with_step}
use Rattle.clauses.specs.Cases.{t_steps, t_trivial_first, t_trivial_numbered, t_trivial_hinted}
use Rattle.answers.proofs.Tests.{not_both, false_if_not_true}
use Rattle.clauses.proofs.StepRule.{by_no_hints}
use Rattle.clauses.proofs.NeverAHint.{never_a_hint}
use Rattle.clauses.proofs.StepByStep.{step_at, clauses_before, accepted_at, Reached, yes_accepts, open_accepts, refused_at, answered_13}
use Rattle.std.specs.Prelude.{Result, Ok, Err}
use Rattle.refutation.specs.declared.NotRefuted.{NotRefuted}
use Rattle.refutation.specs.declared.NotRefuted.TheVariants.{StepRefused, NotClosed}
use Rattle.refutation.proofs.Unique.{same_answer}
use Rattle.refutation.proofs.Lazy.{Input, Wrong, laid_down, wrong_number, over_t}
use Rattle.refutation.proofs.LazySteps.{Rule, Adding, answer_by, of_hints, hints_by, answer_adding}

-- ════════ For all words ════════

module _ (x : Input) (i : ℕ) where
  abbrev steps : List Step
  steps = steps_of x.refutation

  -- Step i of the refutation, what its hints can name, and whether the rule accepts it.
  abbrev here : Step
  here = step_at steps i

  abbrev named_here : Lookup
  named_here = clause_numbered (clauses_before (clauses_of x.cnf) steps i)

  abbrev accepted_here : ℕ → Bool
  accepted_here = accepted_at (clauses_of x.cnf) steps

  -- Both signs and no hints, and refused: document 01 as it was.
  pub refused_without_hints_breaks : both_signs here.clause ≡ true → empty here.hints ≡ true → Wrong x (Err (StepRefused i))
  refused_without_hints_breaks b e numbers' clauses' j =
      not_both (by_no_hints named_here here b ∙ e) (refused_at x.variables x.cnf x.refutation _ _ i (sym j.answered)).1

  module _ (inside : i < length steps) where
    -- A step that the rule refuses: neither yes nor 14 meets the promise,
    passed_over_breaks : accepted_here i ≡ false → Wrong x (Ok tt) × ((n : ℕ) → Wrong x (Err (NotClosed n)))
    passed_over_breaks refused = (
      λ numbers' clauses' j. not_both (yes_accepts x.variables x.cnf x.refutation _ _ (sym j.answered) i inside) refused,
      λ n numbers' clauses' j. not_both (open_accepts x.variables x.cnf x.refutation _ _ n (sym j.answered) i inside) refused,
    )

    -- and nothing but 13 at it where 16, 11 and 12 pass and the steps before it are accepted.
    pub other_than_13_breaks : Reached x.variables x.cnf x.refutation (length x.numbers) (length x.clauses)
        → ((h : ℕ) → h < i → accepted_here h ≡ true) → accepted_here i ≡ false → (r : Result Unit NotRefuted) → ¬ (r ≡ Err (StepRefused i)) → Wrong x r
    other_than_13_breaks reached before refused r other numbers' clauses' j =
        other (same_answer r (Err (StepRefused i)) (j.answered ∙ answered_13 x.variables x.cnf x.refutation _ _ reached i inside before refused))

    -- Such a step is one with both signs and hints,
    pub refused_with_hints : both_signs here.clause ≡ true → empty here.hints ≡ false → accepted_here i ≡ false
    refused_with_hints b e = by_no_hints named_here here b ∙ e

    pub accepted_with_hints_breaks : both_signs here.clause ≡ true → empty here.hints ≡ false → Wrong x (Ok tt) × ((n : ℕ) → Wrong x (Err (NotClosed n)))
    accepted_with_hints_breaks b e = passed_over_breaks (refused_with_hints b e)

    -- and one with a hint that names a clause with both signs.
    pub refused_by_both_signs : {h : ℕ} → Memᴰ h here.hints → (c : Clause) → named_here h ≡ some c → both_signs c ≡ true → accepted_here i ≡ false
    refused_by_both_signs m c q b = false_if_not_true (accepted_here i) (λ e. not_both b (never_a_hint named_here here e m c q))

    pub accepted_by_both_signs_breaks : {h : ℕ} → Memᴰ h here.hints → (c : Clause) → named_here h ≡ some c → both_signs c ≡ true
        → Wrong x (Ok tt) × ((n : ℕ) → Wrong x (Err (NotClosed n)))
    accepted_by_both_signs_breaks m c q b = passed_over_breaks (refused_by_both_signs m c q b)

-- ════════ By inputs: refused always, accepted always, judged by its hints ════════

-- `1 -1 0 0`, then T's step: yes is right.
abbrev pub trivial_first : Input
trivial_first = over_t t_trivial_first 7 14

-- `1 -1 0 1 0`, then T's step: 13 at 0 is right.
abbrev pub trivial_with_hint : Input
trivial_with_hint = over_t (pos 1 ∷ minus 1 ∷ pos 0 ∷ pos 1 ∷ pos 0 ∷ t_steps) 7 14

-- Refused, whatever its hints. This judge says 13 at 0 to the first.
abbrev pub both_signs_refused : Rule
both_signs_refused cs i s ss = not (both_signs s.clause) && hints_conflict (clause_numbered cs) (map negated s.clause) s.hints

pub both_signs_refused_breaks : Wrong trivial_first (answer_by both_signs_refused trivial_first)
unfolding laid_down
both_signs_refused_breaks = wrong_number trivial_first (Err (StepRefused 0)) (λ e. omega arith)

-- Accepted, whatever its hints. This judge says yes to the second.
abbrev pub both_signs_accepted : Rule
both_signs_accepted cs i s ss = both_signs s.clause || hints_conflict (clause_numbered cs) (map negated s.clause) s.hints

pub both_signs_accepted_breaks : Wrong trivial_with_hint (answer_by both_signs_accepted trivial_with_hint)
unfolding laid_down
both_signs_accepted_breaks = wrong_number trivial_with_hint (Ok tt) (λ e. omega arith)

-- The signs not looked at: 1 is set both ways, and the hint's clause, (1), is the conflict. This judge is wrong on both.
abbrev pub signs_not_looked_at : Rule
signs_not_looked_at cs i s ss = hints_conflict (clause_numbered cs) (map negated s.clause) s.hints

pub signs_not_looked_at_breaks : Wrong trivial_with_hint (answer_by signs_not_looked_at trivial_with_hint)
unfolding laid_down
signs_not_looked_at_breaks = wrong_number trivial_with_hint (Ok tt) (λ e. omega arith)

pub hint_asked_for_breaks : Wrong trivial_first (answer_by signs_not_looked_at trivial_first)
unfolding laid_down
hint_asked_for_breaks = wrong_number trivial_first (Err (StepRefused 0)) (λ e. omega arith)

-- ════════ Its clause not added ════════

-- Later numbers shift: the next step has its number.
abbrev pub left_out : Adding
left_out cs s = cond (both_signs s.clause) cs (with_step cs s)

-- The last step's hint 14 is (-4): yes is right, and for this judge no clause has the number, so it says 13 at 2.
abbrev pub numbered_past_trivial : Input
numbered_past_trivial = over_t t_trivial_numbered 7 15

pub left_out_breaks : Wrong numbered_past_trivial (answer_adding left_out numbered_past_trivial)
unfolding laid_down
left_out_breaks = wrong_number numbered_past_trivial (Err (StepRefused 2)) (λ e. omega arith)

-- With 13, which is (1 -1), for that hint: 13 at 2 is right, and this judge takes it for (-4) and says yes.
abbrev pub hints_at_trivial : Input
hints_at_trivial =
    over_t (
    pos 1 ∷ minus 1 ∷ pos 0 ∷ pos 0
    ∷ minus 4 ∷ pos 0 ∷ pos 2 ∷ pos 5 ∷ pos 0
    ∷ pos 0 ∷ pos 12 ∷ pos 13 ∷ pos 0
    ∷ [])
    7 15

pub shifted_numbers_break : Wrong hints_at_trivial (answer_adding left_out hints_at_trivial)
unfolding laid_down
shifted_numbers_break = wrong_number hints_at_trivial (Ok tt) (λ e. omega arith)

-- ════════ A later hint that names it taken as a unit ════════

-- The literals that are not false compared by their variables, not by their signs.
abbrev pub one_variable : List ℤ → List ℤ → Outcome
one_variable trues [] = conflict
one_variable trues (u ∷ us) = cond (all_of (λ w. eqb (variable_of u) (variable_of w)) us && not (among u trues)) (unit u) neither

abbrev pub unit_by_variable : Rule
unit_by_variable = of_hints (hints_by (λ trues c. one_variable trues (not_false trues c)) empty false)

-- `1 -1 0 0`, then T's step with hint 13 in front: 13 at 1 is right, and this judge sets 1 true and says yes.
abbrev pub trivial_hinted : Input
trivial_hinted = over_t t_trivial_hinted 7 14

pub unit_by_variable_breaks : Wrong trivial_hinted (answer_by unit_by_variable trivial_hinted)
unfolding laid_down
unit_by_variable_breaks = wrong_number trivial_hinted (Ok tt) (λ e. omega arith)

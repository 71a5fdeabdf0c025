-- An accepted step's clause follows from the clauses before it, and an accepted refutation's clauses have no assignment. Assumes nothing.
use mathlib.Core.Path.{◌≡◌, refl, sym, ◌∙◌}
use mathlib.Core.Logic.{◌⊎◌, inl, inr}
use mathlib.Core.Bool.{Bool, true, false, not, cond, ◌&&◌, ◌||◌, false≢true, not-not}
use mathlib.Core.List.Memᴰ
use mathlib.Core.List.{List, [], ◌∷◌, map, Memᴰ}
use mathlib.Core.Option.{Option, none, some}
use Prim.Native.Nat.{ℕ, zero, suc}
use lib.IntN.{ℤ, pos, negsuc}
use lib.ListN.{get_or}
use Rattle.answers.specs.Lists.{all_of, empty}
use Rattle.answers.specs.Answers.{granted}
use Rattle.clauses.specs.Clauses.{Clause, Assignment, Satisfies, literal_true, clause_true, negated, same, among}
use Rattle.clauses.specs.CnfWords.{clauses_of, is_0}
use Rattle.clauses.specs.Refutations.{Step, Lookup, SatisfiesNamed, Outcome, conflict, unit, neither, both_signs, not_false, outcome_of, outcome, outcome_if_any, clause_numbered, hint_outcome, hints_conflict, step_accepted, with_step, step_checks, last_is_empty, judge_steps, judge_clauses, judge_cnf, steps_of}
use Rattle.answers.proofs.Tests.{both_true, first_true, second_true, or_second, not_both, false_if_not_true, all_of_member, all_of_if_member, all_of_map, those_member}
use Rattle.clauses.proofs.Satisfaction.{eq_if_same, member_if_among, not_true_both_ways, satisfies_append, true_literal, false_literal}
use Rattle.clauses.proofs.Lookups.{numbered_satisfied}
use Rattle.clauses.proofs.StepRule.{by_hints, trivially_true}
use Rattle.answers.proofs.Answers.{passing}
use Rattle.clauses.proofs.Judges.{steps_granted, clauses_granted, cnf_granted}

-- ════════ What a hint gives is true ════════

-- What an outcome says of an assignment: a conflict, that there is none; a unit, that its literal is true.
abbrev Holds : Assignment → Outcome → Type 0
Holds a conflict = ⊥
Holds a (unit u) = literal_true a u ≡ true
Holds a neither = Unit

-- What is set true is true; the word 0, which is no literal, may stand among it.
abbrev true_if_literal : Assignment → ℤ → Bool
true_if_literal a w = is_0 w || literal_true a w

not_both_set : (a : Assignment) (w : ℤ) → literal_true a w ≡ true → true_if_literal a (negated w) ≡ true → ⊥
not_both_set a (pos zero) t n = false≢true t
not_both_set a (pos (suc v)) t n = not_true_both_ways a (pos (suc v)) t n
not_both_set a (negsuc v) t n = not_true_both_ways a (negsuc v) t n

module _ (a : Assignment) (trues : List ℤ) (are-true : all_of (true_if_literal a) trues ≡ true) where
  -- A true literal is not false by what is set.
  not_false_if_true : (w : ℤ) → literal_true a w ≡ true → not (among (negated w) trues) ≡ true
  not_false_if_true w t =
      rw (false_if_not_true (among (negated w) trues) (λ m.
      not_both_set a w t (all_of_member (true_if_literal a) (member_if_among (negated w) trues m) are-true)))

  outcome_of_holds : (us : List ℤ) {w : ℤ} → Memᴰ w us → literal_true a w ≡ true → Holds a (outcome_of trues us)
  outcome_of_holds [] m t = Memᴰ.not-nil m
  outcome_of_holds (u ∷ us) {w} m t = go (all_of (same u) us) (not (among u trues)) (Memᴰ.cases_cons m) (λ m'. all_of_member (same u) m')
    where
      go : (b c : Bool) → (w ≡ u) ⊎ Memᴰ w us → (Memᴰ w us → b ≡ true → same u w ≡ true) → Holds a (cond (b && c) (unit u) neither)
      go true true (inl e) All-same = rw e at t
      go true true (inr m') All-same = rw (eq_if_same u w (All-same m' refl)) t
      go true false d All-same = tt
      go false c d All-same = tt

  outcome_holds : (c : Clause) → clause_true a c ≡ true → Holds a (outcome trues c)
  outcome_holds c e =
      let w = true_literal a c e in
      outcome_of_holds (not_false trues c) (those_member _ w.1 (not_false_if_true w.0 w.2)) w.2

  hint_outcome_holds : (named : Lookup) (h : ℕ) → SatisfiesNamed a named → Holds a (hint_outcome named trues h)
  hint_outcome_holds named h s = go (named h) (s h)
    where
      go : (o : Option Clause) → ((c : Clause) → o ≡ some c → clause_true a c ≡ true) → Holds a (outcome_if_any trues o)
      go none t = tt
      go (some c) t = outcome_holds c (t c refl)

-- Where what is set is true, the hints reach no conflict.
no_conflict : (a : Assignment) (named : Lookup) → SatisfiesNamed a named → (hs : List ℕ) (trues : List ℤ)
    → all_of (true_if_literal a) trues ≡ true → hints_conflict named trues hs ≡ false
no_conflict a named s [] trues t = refl
no_conflict a named s (h ∷ hs) trues t =
    go (hint_outcome named trues h) (hint_outcome_holds a trues t named h s)
    (λ u p. no_conflict a named s hs (u ∷ trues) (both_true (or_second (is_0 u) p) t))
  where
    go : (o : Outcome) → Holds a o → ((u : ℤ) → literal_true a u ≡ true → hints_conflict named (u ∷ trues) hs ≡ false)
        → elim o as (λ x. Bool) [ conflict ↦ empty hs | unit u ↦ hints_conflict named (u ∷ trues) hs | neither ↦ false ] ≡ false
    go conflict p later = absurd p
    go (unit u) p later = later u p
    go neither p later = refl

-- ════════ Steps ════════

-- Where a clause is false, its literals' negations are true.
negation_true : (a : Assignment) (w : ℤ) → literal_true a w ≡ false → true_if_literal a (negated w) ≡ true
negation_true a (pos zero) f = refl
negation_true a (pos (suc v)) f = rw f
negation_true a (negsuc v) f = sym (not-not (get_or a v false)) ∙ rw f

negations_true : (a : Assignment) (c : Clause) → clause_true a c ≡ false → all_of (true_if_literal a) (map negated c) ≡ true
negations_true a c f = rw all_of_map (all_of_if_member _ c (λ w m. negation_true a w (false_literal a m f)))

-- An assignment that satisfies the clauses that hints can name satisfies an accepted step's clause.
pub step_sound : (named : Lookup) (s : Step) → step_accepted named s ≡ true → (a : Assignment) → SatisfiesNamed a named → clause_true a s.clause ≡ true
step_sound named s e a sat = go (both_signs s.clause) refl (clause_true a s.clause) refl
  where
    go : (signs : Bool) → both_signs s.clause ≡ signs → (b : Bool) → clause_true a s.clause ≡ b → b ≡ true
    go true p b q = sym q ∙ trivially_true s.clause p a
    go false p true q = refl
    go false p false q =
        absurd (not_both (sym (by_hints named s p) ∙ e)
        (no_conflict a named sat s.hints (map negated s.clause) (negations_true a s.clause q)))

-- The same over the clauses so far.
pub next_sound : (cs : List Clause) (s : Step) → step_accepted (clause_numbered cs) s ≡ true → (a : Assignment) → Satisfies a cs
    → clause_true a s.clause ≡ true
next_sound cs s e a sat = step_sound (clause_numbered cs) s e a (numbered_satisfied a cs sat)

-- The clauses after an accepted step are satisfied too.
pub step_keeps : (cs : List Clause) (s : Step) → step_accepted (clause_numbered cs) s ≡ true → (a : Assignment) → Satisfies a cs
    → Satisfies a (with_step cs s)
step_keeps cs s e a sat = satisfies_append a cs (s.clause ∷ []) sat (both_true (next_sound cs s e a sat) refl)

-- ════════ Refutations ════════

empty_false : (a : Assignment) (c : Clause) → empty c ≡ true → clause_true a c ≡ true → ⊥
empty_false a [] e t = false≢true t
empty_false a (w ∷ c) e t = false≢true e

-- Accepted steps that end in the empty clause leave no assignment.
pub accepted_refute : (cs : List Clause) (i : ℕ) (ss : List Step) → all_of passing (step_checks cs i ss) ≡ true → last_is_empty ss ≡ true
    → (a : Assignment) → Satisfies a cs → ⊥
accepted_refute cs i [] e l a sat = false≢true l
accepted_refute cs i (s ∷ []) e l a sat = empty_false a s.clause l (next_sound cs s (first_true (step_accepted (clause_numbered cs) s) true e) a sat)
accepted_refute cs i (s ∷ t ∷ ss) e l a sat =
    accepted_refute (with_step cs s) (suc i) (t ∷ ss) (second_true (step_accepted (clause_numbered cs) s) _ e) l a
    (step_keeps cs s (first_true (step_accepted (clause_numbered cs) s) _ e) a sat)

-- Clauses whose refutation is accepted have no assignment that satisfies them.
pub refuted : (cs : List Clause) (ss : List Step) → judge_steps cs ss ≡ granted 0 → (a : Assignment) → Satisfies a cs → ⊥
refuted cs ss e = let g = steps_granted cs ss e in accepted_refute cs 0 ss g.0 g.1

pub refuted_clauses : (variables : ℕ) (cs : List Clause) (ws : List ℤ) (m n : ℕ) → judge_clauses variables cs ws m n ≡ granted 0
    → (a : Assignment) → Satisfies a cs → ⊥
refuted_clauses variables cs ws m n e = refuted cs (steps_of ws) (clauses_granted variables cs ws m n e)

pub refuted_cnf : (variables : ℕ) (cnf ws : List ℤ) (m n : ℕ) → judge_cnf variables cnf ws m n ≡ granted 0
    → (a : Assignment) → Satisfies a (clauses_of cnf) → ⊥
refuted_cnf variables cnf ws m n e = refuted_clauses variables (clauses_of cnf) ws m n (cnf_granted variables cnf ws m n e)

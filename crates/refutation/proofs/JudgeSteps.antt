-- The steps judged one after the other: the answer that is left, and how both areas stand. Assumes nothing.
use mathlib.Core.Path.{◌≡◌, refl, sym, ◌∙◌, ap}
use mathlib.Core.Bool.{Bool, true, false}
use mathlib.Core.List.{List, [], ◌∷◌, ◌++◌, map, append_assoc, append-nil}
use Prim.Native.Nat.{ℕ, suc, ◌+◌, ◌<◌, ◌≤◌}
use native.Mathlib.Numerals.{add-one}
use native.Mathlib.Omega.{arith}
use lib.IntN.{ℤ}
use lib.Dec.{eqb}
use lib.ListN.{length, drop, set}
use Rattle.answers.proofs.Tests.{no_elements, both_true, all_of_append}
use Rattle.answers.specs.Lists.{all_of, empty}
use Rattle.answers.specs.Answers.{Answer, check, first_failing_part, granted, step_refused, not_closed}
use Rattle.clauses.specs.Clauses.{Clause, variable_of, literal_within}
use Rattle.clauses.specs.CnfWords.{clauses_of}
use Rattle.clauses.specs.Refutations.{Step, step, steps_of, step_accepted, clause_numbered, with_step, step_checks, last_is_empty_after, judge_steps}
use Rattle.refutation.specs.Work.{LiteralsWithin, Older, Marked, clause_from, step_clauses, known, Standing, StepsRight}
use Rattle.refutation.proofs.ClausePlaces.{places_kept, places_more}
use Rattle.refutation.proofs.KnownClauses.{steps_length}
use Rattle.refutation.proofs.StepWords.{StepAt, past, first_step, step_here, steps_here, step_inside, step_right, step_clauses_more, step_after}

-- ════════ The answer that is left ════════

-- The last clause is empty, where the one before these steps is or is not.
abbrev last_from : Bool → List Step → Bool
last_from closed [] = closed
last_from closed (t ∷ ts) = last_is_empty_after t ts

-- The answer for the steps that are left, from the clauses so far; `total` is the number of all steps.
abbrev pub answer_left : List Clause → ℕ → Bool → ℕ → List Step → Answer
answer_left cs s closed total ss =
    first_failing_part (step_checks cs s ss ∷ (check (last_from closed ss) (not_closed total) ∷ []) ∷ []) (granted 0)

all_left : (cs : List Clause) (ss : List Step) → judge_steps cs ss ≡ answer_left cs 0 false (length ss) ss
unfolding judge_steps
all_left cs [] = refl
all_left cs (s ∷ ss) = refl

last_next : (t : Step) (ts : List Step) → last_is_empty_after t ts ≡ last_from (empty t.clause) ts
last_next t [] = refl
last_next t (u ∷ us) = refl

module _ (cs : List Clause) (s : ℕ) (closed : Bool) (total : ℕ) (t : Step) (ts : List Step) where
  left_refused : step_accepted (clause_numbered cs) t ≡ false → answer_left cs s closed total (t ∷ ts) ≡ step_refused s
  left_refused e = rw e

  left_accepted : step_accepted (clause_numbered cs) t ≡ true
      → answer_left cs s closed total (t ∷ ts) ≡ answer_left (with_step cs t) (suc s) (empty t.clause) total ts
  left_accepted e = rw (e, last_next)

-- ════════ One step more ════════

module _ (cnf : List ℤ) {variables clauses : ℕ} {ws : List ℤ} {s at : ℕ} (p : StepAt variables clauses ws s at) (l : s < length (steps_of ws)) where
  known_more : known cnf ws (s + 1) ≡ known cnf ws s ++ (clause_from ws at ∷ [])
  known_more = rw (step_clauses_more p l, append_assoc)

  standing_more : {area : List ℕ} → Standing variables cnf ws clauses s area → clauses + length (steps_of ws) ≤ length area
      → Standing variables cnf ws clauses (s + 1) (set area (clauses + s) at)
  standing_more {area} st room =
      let place : length (clauses_of cnf) + length (step_clauses ws s) ≡ clauses + s = omega (arith, steps_length st, st.counted) in
      let below : clauses + s < length area = omega arith in
      record {
        counted = st.counted;
        begun = omega arith;
        of_cnf = places_kept st.of_cnf (clauses + s) at (omega (arith, st.counted));
        of_steps = rw (step_clauses_more p l) (rw place at (places_more st.of_steps (rw place below) p.inside));
        within =
            rw (known_more, all_of_append (all_of (literal_within variables)) (known cnf ws s) (clause_from ws at ∷ []))
            (both_true st.within (both_true (step_right p l).0 refl));
      }

-- How the areas stand, and the answer that is left, where so many steps are accepted and the next begins at a place.
pub record Judging (variables : ℕ) (cnf ws : List ℤ) (clauses : ℕ) (values places : List ℕ) (done : ℕ) (closed : Bool) (at : ℕ) : Type 0 where
  pub words : StepAt variables clauses ws done at
  pub standing : Standing variables cnf ws clauses done places
  pub older : Older variables (suc done) values
  pub left : judge_steps (clauses_of cnf) (steps_of ws) ≡ answer_left (known cnf ws done) done closed (length (steps_of ws)) (steps_of (drop at ws))

pub none_judged : {variables : ℕ} {cnf ws : List ℤ} {clauses : ℕ} {values places : List ℕ} → StepsRight variables clauses ws
    → Standing variables cnf ws clauses 0 places → Older variables 1 values → Judging variables cnf ws clauses values places 0 false 0
none_judged {variables} {cnf} {ws} {clauses} right st old =
    record {
      words = first_step variables clauses ws right;
      standing = st;
      older = old;
      left = rw append-nil (all_left (clauses_of cnf) (steps_of ws));
    }

-- A step is left. Its parts are as the code has them.
module _ {variables : ℕ} {cnf ws : List ℤ} {clauses : ℕ} {values places : List ℕ} {done : ℕ} {closed : Bool} {at : ℕ}
    (j : Judging variables cnf ws clauses values places done closed at)
  where
    module _ (l : done < length (steps_of ws)) {clause : List ℤ} (c-is : clause ≡ clause_from ws at) where
      from_is : at + length clause + 1 ≡ past ws at
      from_is = rw c-is

      pub hints_begin : at + length clause + 1 ≤ length ws
      hints_begin = rw from_is (step_inside j.words l).0

      module _ {hints : List ℤ} (h-is : hints ≡ clause_from ws (at + length clause + 1)) where
        abbrev here : Step
        here = step_here j.words l

        abbrev others : List Step
        others = steps_of (drop (past ws (past ws at)) ws)

        hints_is : hints ≡ clause_from ws (past ws at)
        hints_is = h-is ∙ ap (clause_from ws) from_is

        step_is : step clause (map variable_of hints) ≡ here
        step_is = rw (c-is, hints_is)

        end_is : at + length clause + 1 + length hints + 1 ≡ past ws (past ws at)
        end_is = omega (arith, from_is, ap length hints_is)

        pub parts_right : LiteralsWithin variables clause × LiteralsWithin (clauses + done) hints
        parts_right = rw (c-is, hints_is) (step_right j.words l)

        pub step_refusal : false ≡ step_accepted (clause_numbered (known cnf ws done)) (step clause (map variable_of hints))
            → step_refused done ≡ judge_steps (clauses_of cnf) (steps_of ws)
        step_refusal e =
            let no = sym (rw step_is at e) in
            sym (j.left ∙ rw (steps_here j.words l) (left_refused (known cnf ws done) done closed (length (steps_of ws)) here others no))

        pub step_judged : {values' : List ℕ} {empty' : Bool} → clauses + length (steps_of ws) ≤ length places
            → true ≡ step_accepted (clause_numbered (known cnf ws done)) (step clause (map variable_of hints))
            → Marked variables (suc done) values values' → empty' ≡ eqb (length clause) 0
            → Judging variables cnf ws clauses values' (set places (clauses + done) at) (done + 1) empty' (at + length clause + 1 + length hints + 1)
        step_judged room e m none =
            let yes = sym (rw step_is at e) in
            let more : known cnf ws (done + 1) ≡ with_step (known cnf ws done) here = known_more cnf j.words l in
            rw (end_is, none, c-is)
            (record {
              words = step_after j.words l;
              standing = standing_more cnf j.words l j.standing room;
              older = rw (add-one done) m.not_later;
              left =
                  rw (more, add-one done, no_elements)
                  (j.left ∙ rw (steps_here j.words l) (left_accepted (known cnf ws done) done closed (length (steps_of ws)) here others yes));
            })

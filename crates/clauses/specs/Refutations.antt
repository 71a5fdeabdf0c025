-- Document 01, "Refutations", and document 02, Q-4: words read as steps, the rule for one step, and the judge for any CNF. Assumes nothing.
use Rattle.std.specs.Prelude.{Bool, true, false, not, cond, ◌&&◌, ◌||◌, List, [], ◌∷◌, ◌++◌, map, ◌≡◌, ℕ, zero, suc, ◌+◌, ◌/◌, ◌%◌, ℤ, pos, negsuc, leb, ltb, eqb, length, replicate, take}
use Rattle.std.proofs.Math.Option.{Option, none, some}
use Rattle.std.proofs.Math.ListN.{get_elem?}
use Rattle.answers.specs.Lists.{each, numbered, some_of, all_of, those, empty, written}
use Rattle.answers.specs.Answers.{Answer, Check, check, first_failing_part, granted, bad_refutation, area_too_small, step_refused, not_closed}
use Rattle.clauses.specs.Clauses.{Clause, Assignment, clause_true, negated, size, same, among}
use Rattle.clauses.specs.CnfWords.{ended_by_0, clauses_of, ended, is_0, cnf_checks}

-- ════════ Steps ════════

-- "each step is a clause, 0, hints, 0"
pub record Step : Type 0 where
  pub clause : Clause
  pub hints : List ℕ

abbrev pub step : Clause → List ℕ → Step
step c hs = record { clause = c; hints = hs }

-- Words ended by 0, two by two: a step's clause and its hints.
abbrev pub paired : List (List ℤ) → List Step
paired [] = []
paired (c ∷ []) = []
paired (c ∷ hs ∷ rest) = step c (map size hs) ∷ paired rest

abbrev pub steps_of : List ℤ → List Step
steps_of ws = paired (clauses_of ws)

-- The words of steps.
abbrev pub step_words : Step → List ℤ
step_words s = ended_by_0 s.clause ++ ended_by_0 (map pos s.hints)

abbrev pub words_of_steps : List Step → List ℤ
words_of_steps ss = each ss step_words

-- ════════ 11: the words ════════

-- The zeros among words. A step has two, one past its clause and one past its hints.
abbrev pub zeros : List ℤ → ℕ
zeros ws = length (those is_0 ws)

abbrev pub even : ℕ → Bool
even n = eqb (n % 2) 0

-- A hint is an earlier clause: at least 1, and below the step's own number.
abbrev pub earlier : ℕ → ℤ → Bool
earlier own (pos zero) = false
earlier own (pos (suc h)) = ltb (suc h) own
earlier own (negsuc h) = false

-- A word with so many zeros before it. Even: a literal of a step's clause, or the 0 past it; at most V in size. Odd: a hint, or the 0
-- past the hints; "CNF clauses are numbered from 1, steps follow on", so the step's own number is C, the steps before it, and one.
abbrev pub word_right : ℕ → ℕ → ℕ → ℤ → Bool
word_right variables C before w = cond (even before) (leb (size w) variables) (is_0 w || earlier (C + before / 2 + 1) w)

-- Not cut short: there is no word, or the last one is 0; and the zeros are even, two for each step.
abbrev pub whole : List ℤ → Bool
whole ws = ended ws && even (zeros ws)

-- 11: the first bad word, then cut short (the length), for a CNF of V variables and C clauses.
unfoldable pub refutation_checks : ℕ → ℕ → List ℤ → List Check
refutation_checks variables C ws =
    numbered 0 ws (λ i w. check (word_right variables C (zeros (take i ws)) w) (bad_refutation i))
    ++ (check (whole ws) (bad_refutation (length ws)) ∷ [])

-- ════════ The rule for one step ════════

-- What the hints can name: of a number its clause, or none.
abbrev pub Lookup : Type 0
Lookup = ℕ → Option Clause

-- The assignment makes each clause true that has a number.
abbrev pub SatisfiesNamed : Assignment → Lookup → Type 0
SatisfiesNamed a named = (h : ℕ) (c : Clause) → named h ≡ some c → clause_true a c ≡ true

-- "a variable with both signs"; the word 0, its own negation, is no literal and has no sign
abbrev pub both_signs : Clause → Bool
both_signs c = some_of (λ w. not (is_0 w) && among (negated w) c) c

-- What is set so far: the literals that are true. A literal is false where its negation is true.
abbrev pub not_false : List ℤ → Clause → List ℤ
not_false trues c = those (λ w. not (among (negated w) trues)) c

pub data Outcome : Type 0 where
  conflict : Outcome
  unit : ℤ → Outcome
  neither : Outcome

-- "A clause with all literals false is the conflict"; "if its literals that are not false are all one literal, with no value yet"
abbrev pub outcome_of : List ℤ → List ℤ → Outcome
outcome_of trues [] = conflict
outcome_of trues (u ∷ us) = cond (all_of (same u) us && not (among u trues)) (unit u) neither

abbrev pub outcome : List ℤ → Clause → Outcome
outcome trues c = outcome_of trues (not_false trues c)

-- What a hint gives: one that names no clause gives nothing.
abbrev pub outcome_if_any : List ℤ → Option Clause → Outcome
outcome_if_any trues none = neither
outcome_if_any trues (some c) = outcome trues c

abbrev pub hint_outcome : Lookup → List ℤ → ℕ → Outcome
hint_outcome named trues h = outcome_if_any trues (named h)

-- Taking the hints in order: the conflict "must be the last hint"; a unit is set true; "anything else, or no conflict, refuses the step".
abbrev pub hints_conflict : Lookup → List ℤ → List ℕ → Bool
hints_conflict named trues [] = false
hints_conflict named trues (h ∷ hs) =
    elim (hint_outcome named trues h) [
      | conflict ↦ empty hs
      | unit u ↦ hints_conflict named (u ∷ trues) hs
      | neither ↦ false
    ]

-- Document 02, Q-4, of "a step whose clause has a variable with both signs": "accepted if it has no hints", "refused with 13 if it has any".
-- "Otherwise set its literals false and take the hints in order."
unfoldable pub step_accepted : Lookup → Step → Bool
step_accepted named s = cond (both_signs s.clause) (empty s.hints) (hints_conflict named (map negated s.clause) s.hints)

-- ════════ The judge ════════

-- "CNF clauses are numbered from 1, steps follow on": of the clauses so far the one of a number; none has 0 or a number past the last.
abbrev pub clause_numbered : List Clause → Lookup
clause_numbered cs zero = none
clause_numbered cs (suc n) = get_elem? cs n

-- The clauses so far, then the step's.
abbrev pub with_step : List Clause → Step → List Clause
with_step cs s = cs ++ (s.clause ∷ [])

-- 13: the first step that is refused.
abbrev pub step_checks : List Clause → ℕ → List Step → List Check
step_checks cs i [] = []
step_checks cs i (s ∷ ss) = check (step_accepted (clause_numbered cs) s) (step_refused i) ∷ step_checks (with_step cs s) (suc i) ss

abbrev pub last_is_empty_after : Step → List Step → Bool
last_is_empty_after s [] = empty s.clause
last_is_empty_after s (t ∷ ts) = last_is_empty_after t ts

-- "the last clause is empty"; without a step there is none
abbrev pub last_is_empty : List Step → Bool
last_is_empty [] = false
last_is_empty (s ∷ ss) = last_is_empty_after s ss

-- 14: the last clause is not empty (the number of steps).
abbrev pub closing_checks : List Step → List Check
closing_checks ss = check (last_is_empty ss) (not_closed (length ss)) ∷ []

-- "Accepted: every step passes and the last clause is empty."
unfoldable pub judge_steps : List Clause → List Step → Answer
judge_steps cs ss = first_failing_part (step_checks cs 0 ss ∷ closing_checks ss ∷ []) (granted 0)

-- "Work areas, of 64-bit words: one word for each number 0..V, and one for each clause and step."
abbrev pub numbers_area : ℕ → ℕ
numbers_area variables = suc variables

abbrev pub clauses_area : List Clause → List Step → ℕ
clauses_area cs ss = length cs + length ss

-- 12: "the area by numbers 0..V is checked before the area by clauses".
unfoldable pub area_checks : ℕ → List Clause → List Step → ℕ → ℕ → List Check
area_checks variables cs ss by_numbers by_clauses =
    check (leb (numbers_area variables) by_numbers) (area_too_small (numbers_area variables))
    ∷ check (leb (clauses_area cs ss) by_clauses) (area_too_small (clauses_area cs ss))
    ∷ []

-- "For a bare CNF, 16 comes first", then 11, 12, 13, 14; the last two numbers are the lengths of the work areas.
unfoldable pub judge_cnf : ℕ → List ℤ → List ℤ → ℕ → ℕ → Answer
judge_cnf variables cnf ws by_numbers by_clauses =
    let cs = clauses_of cnf in
    let ss = steps_of ws in
    first_failing_part
    (cnf_checks variables cnf
    ∷ refutation_checks variables (length cs) ws
    ∷ area_checks variables cs ss by_numbers by_clauses
    ∷ step_checks cs 0 ss
    ∷ closing_checks ss
    ∷ [])
    (granted 0)

-- 11, 12, 13, 14 for clauses that are given: the part of the judge past 16, which inner contracts cite.
unfoldable pub judge_clauses : ℕ → List Clause → List ℤ → ℕ → ℕ → Answer
judge_clauses variables cs ws by_numbers by_clauses =
    first_failing_part
    (refutation_checks variables (length cs) ws ∷ area_checks variables cs (steps_of ws) by_numbers by_clauses ∷ [])
    (judge_steps cs (steps_of ws))

-- ════════ The work areas after the call ════════

-- The answers at which the steps were judged: yes, 13 and 14.
abbrev pub judged : Answer → Bool
judged a = eqb a.number 0 || eqb a.number 13 || eqb a.number 14

-- "When a refutation judge answers 13, 14 or yes, all the needed work words are 0"; other refusals "change no lent buffer";
-- words past the needed part never change.
unfoldable pub area_after : Answer → ℕ → List ℕ → List ℕ
area_after a needed area = cond (judged a) (written (replicate needed 0) area) area

-- The words of a refutation from the place where a step begins, where 11 passes them. Assumes nothing.
use mathlib.Core.Path.{◌≡◌, refl, sym, ◌∙◌, ap}
use mathlib.Core.Bool.{true, false≢true}
use mathlib.Core.List.{List, [], ◌∷◌, ◌++◌, map, map-append}
use Prim.Native.Nat.{ℕ, zero, suc, ◌+◌, ◌<◌, ◌≤◌}
use native.Mathlib.Decide.{dec_le}
use native.Mathlib.Numerals.{add-one}
use native.Mathlib.Omega.{arith}
use borrow.Author.Tests.{le-leb, ltb-true}
use lib.IntN.{ℤ, pos, negsuc}
use lib.Dec.{leb, ltb}
use lib.ListN.{length, get_or, drop, length-drop, drop_of_length-le}
use lib.Seq.{drop-cons, drop-drop, take-suc}
use Rattle.answers.proofs.Tests.{first_true, second_true, both_true, all_of_first, all_of_second}
use Rattle.answers.proofs.Answers.{passing}
use Rattle.clauses.proofs.WordByWord.{Part, literals, hints, is_literals, other, word_checks, words_right, words_right_is, part_at_end, whole_by_parts, word_by_word}
use Rattle.answers.specs.Answers.{check, bad_refutation}
use Rattle.clauses.specs.Clauses.{variable_of}
use Rattle.clauses.specs.CnfWords.{clauses_of, ended}
use Rattle.clauses.specs.Refutations.{Step, step, steps_of}
use Rattle.refutation.specs.Work.{LiteralsWithin, up_to_0, clause_from, step_clauses, StepsRight}
use Rattle.refutation.proofs.ClausePlaces.{next_clause, ended_inside}

-- ════════ Words by their parts ════════

-- The words past the first 0.
abbrev past_0 : List ℤ → List ℤ
past_0 ws = drop (suc (length (up_to_0 ws))) ws

part_past_0 : (p : Part) (ws : List ℤ) → length (up_to_0 ws) < length ws → part_at_end p ws ≡ part_at_end (other p) (past_0 ws)
part_past_0 p [] h = absurd (omega arith)
part_past_0 p (pos zero ∷ ws) h = refl
part_past_0 p (pos (suc n) ∷ ws) h = part_past_0 p ws (omega arith)
part_past_0 p (negsuc n ∷ ws) h = part_past_0 p ws (omega arith)

module _ (variables : ℕ) where
  -- A literal that is at most V in size, and no 0.
  more_literals : (w : ℤ) (ws : List ℤ) → 1 ≤ variable_of w → leb (variable_of w) variables ≡ true → LiteralsWithin variables ws
      → LiteralsWithin variables (w ∷ ws)
  more_literals w ws some e rest = both_true (both_true (le-leb 1 (variable_of w) some) e) rest

  literals_right : (own : ℕ) (ws : List ℤ) → length (up_to_0 ws) < length ws → words_right variables literals own ws ≡ true
      → LiteralsWithin variables (up_to_0 ws) × (words_right variables hints own (past_0 ws) ≡ true)
  literals_right own [] h e = absurd (omega arith)
  literals_right own (pos zero ∷ ws) h e = (refl, second_true (leb 0 variables) _ e)
  literals_right own (pos (suc n) ∷ ws) h e =
      let r = literals_right own ws (omega arith) (second_true (leb (suc n) variables) _ e) in
      (more_literals (pos (suc n)) (up_to_0 ws) (omega arith) (first_true (leb (suc n) variables) _ e) r.0, r.1)
  literals_right own (negsuc n ∷ ws) h e =
      let r = literals_right own ws (omega arith) (second_true (leb (suc n) variables) _ e) in
      (more_literals (negsuc n) (up_to_0 ws) (omega arith) (first_true (leb (suc n) variables) _ e) r.0, r.1)

  hints_right : (n : ℕ) (ws : List ℤ) → length (up_to_0 ws) < length ws → words_right variables hints (suc n) ws ≡ true
      → LiteralsWithin n (up_to_0 ws) × (words_right variables literals (suc (suc n)) (past_0 ws) ≡ true)
  hints_right n [] h e = absurd (omega arith)
  hints_right n (pos zero ∷ ws) h e = (refl, e)
  hints_right n (pos (suc k) ∷ ws) h e =
      let r = hints_right n ws (omega arith) (second_true (ltb (suc k) (suc n)) _ e) in
      let below = ltb-true (suc k) (suc n) (first_true (ltb (suc k) (suc n)) _ e) in
      (both_true (both_true (le-leb 1 (suc k) (omega arith)) (le-leb (suc k) n (omega arith))) r.0, r.1)
  hints_right n (negsuc k ∷ ws) h e = absurd (false≢true e)

-- ════════ At the place of a step ════════

-- Where the clause that begins at a place ends, past its 0.
abbrev pub past : List ℤ → ℕ → ℕ
past ws i = i + length (clause_from ws i) + 1

module _ (ws : List ℤ) (i : ℕ) where
  past_is : past_0 (drop i ws) ≡ drop (past ws i) ws
  past_is =
      let e : i + suc (length (clause_from ws i)) ≡ past ws i = omega arith in
      drop-drop (suc (length (clause_from ws i))) i ws ∙ rw e

  module _ (h : i + length (clause_from ws i) < length ws) where
    0_inside : length (up_to_0 (drop i ws)) < length (drop i ws)
    0_inside = rw length-drop (omega arith)

    clause_next : clauses_of (drop i ws) ≡ clause_from ws i ∷ clauses_of (drop (past ws i) ws)
    clause_next = rw (add-one (i + length (clause_from ws i))) (next_clause ws i h)

-- The words from a place on, where so many steps stand before it.
pub record StepAt (variables clauses : ℕ) (ws : List ℤ) (s at : ℕ) : Type 0 where
  pub inside : at ≤ length ws
  pub not_cut : ended ws ≡ true
  pub begun : s ≤ length (steps_of ws)
  pub right : words_right variables literals (suc (clauses + s)) (drop at ws) ≡ true
  pub no_part : part_at_end literals (drop at ws) ≡ literals
  pub rest : drop s (steps_of ws) ≡ steps_of (drop at ws)

literals_if : (p : Part) → is_literals p ≡ true → p ≡ literals
literals_if literals e = refl
literals_if hints e = absurd (false≢true e)

pub first_step : (variables clauses : ℕ) (ws : List ℤ) → StepsRight variables clauses ws → StepAt variables clauses ws 0 0
first_step variables clauses ws e =
    let own : suc (clauses + 0) ≡ suc clauses = omega arith in
    let checks = word_checks variables literals (suc clauses) 0 ws in
    let last = check (whole_by_parts ws) (bad_refutation (length ws)) ∷ [] in
    let pass = rw (word_by_word variables clauses ws) at e in
    let all = all_of_first passing checks last pass in
    let entire = first_true (whole_by_parts ws) true (all_of_second passing checks last pass) in
    record {
      inside = omega arith;
      not_cut = first_true (ended ws) (is_literals (part_at_end literals ws)) entire;
      begun = omega arith;
      right = rw own (sym (words_right_is variables literals (suc clauses) 0 ws) ∙ all);
      no_part = literals_if (part_at_end literals ws) (second_true (ended ws) (is_literals (part_at_end literals ws)) entire);
      rest = refl;
    }

module _ {variables clauses : ℕ} {ws : List ℤ} {s at : ℕ} (p : StepAt variables clauses ws s at) where
  module _ (one_left : s < length (steps_of ws)) where
    -- A step that is left has words.
    begins : at < length ws
    begins =
        let none : length ws ≤ at → length (drop s (steps_of ws)) ≡ 0
        = λ h. ap length (p.rest ∙ ap steps_of (drop_of_length-le ws h)) in
        grind (arith, none, length-drop s (steps_of ws))

    abbrev from : ℕ
    from = past ws at

    clause_inside : at + length (clause_from ws at) < length ws
    clause_inside = ended_inside ws at p.not_cut begins

    clause_right : LiteralsWithin variables (clause_from ws at) × (words_right variables hints (suc (clauses + s)) (drop from ws) ≡ true)
    clause_right =
        rw (past_is ws at) at (literals_right variables (suc (clauses + s)) (drop at ws) (0_inside ws at clause_inside) p.right)

    part_hints : part_at_end hints (drop from ws) ≡ literals
    part_hints = rw (← past_is ws at) (sym (part_past_0 literals (drop at ws) (0_inside ws at clause_inside)) ∙ p.no_part)

    -- The hints are not cut short.
    from_below : from < length ws
    from_below = go (dec_le (length ws) from)
      where
        go : Dec (length ws ≤ from) → from < length ws
        go (yes h) = absurd (false≢true (ap is_literals (rw (drop_of_length-le ws h) at part_hints)))
        go (no n) = omega arith

    hints_inside : from + length (clause_from ws from) < length ws
    hints_inside = ended_inside ws from p.not_cut from_below

    hints_known : LiteralsWithin (clauses + s) (clause_from ws from) × (words_right variables literals (suc (suc (clauses + s))) (drop (past ws from) ws) ≡ true)
    hints_known =
        rw (past_is ws from) at (hints_right variables (clauses + s) (drop from ws) (0_inside ws from hints_inside) clause_right.1)

    -- The step that begins here.
    abbrev pub step_here : Step
    step_here = step (clause_from ws at) (map variable_of (clause_from ws from))

    pub steps_here : steps_of (drop at ws) ≡ step_here ∷ steps_of (drop (past ws from) ws)
    steps_here = rw (clause_next ws at clause_inside, clause_next ws from hints_inside)

    pub step_inside : (from ≤ length ws) × (past ws from ≤ length ws)
    step_inside = (omega (arith, from_below), omega (arith, hints_inside))

    pub step_right : LiteralsWithin variables (clause_from ws at) × LiteralsWithin (clauses + s) (clause_from ws from)
    step_right = (clause_right.0, hints_known.0)

    split : get_or (steps_of ws) s (step [] []) ∷ drop (suc s) (steps_of ws) ≡ step_here ∷ steps_of (drop (past ws from) ws)
    split = sym (drop-cons (steps_of ws) s (step [] []) one_left) ∙ p.rest ∙ steps_here

    pub step_clauses_more : step_clauses ws (s + 1) ≡ step_clauses ws s ++ (clause_from ws at ∷ [])
    step_clauses_more =
        let e : get_or (steps_of ws) s (step [] []) ≡ step_here = cc split in
        rw (add-one s, take-suc (steps_of ws) s (step [] []) one_left, map-append, e)

    pub step_after : StepAt variables clauses ws (s + 1) (past ws from)
    step_after =
        let own : suc (clauses + suc s) ≡ suc (suc (clauses + s)) = omega arith in
        rw (add-one s)
        (record {
          inside = step_inside.1;
          not_cut = p.not_cut;
          begun = one_left;
          right = rw own hints_known.1;
          no_part = rw (← past_is ws from) (sym (part_past_0 hints (drop from ws) (0_inside ws from hints_inside)) ∙ part_hints);
          rest = cc split;
        })

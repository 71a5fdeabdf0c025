-- 11 passes exactly the words of right steps: the zeros before a word say the same as the clauses two by two. Assumes nothing.
use mathlib.Core.Path.{◌≡◌, refl, sym, ◌∙◌, ap, ap₂}
use mathlib.Core.Logic.{◌↔◌}
use mathlib.Core.Bool.{Bool, true, ◌&&◌, false≢true, and_assoc}
use mathlib.Core.List.{List, [], ◌∷◌, ◌++◌, map}
use Prim.Native.Nat.{ℕ, zero, suc, ◌+◌, ◌*◌, ◌<◌, zero-le, suc-le-suc}
use native.Mathlib.Nat.{not-suc-le-zero, le_of_suc-le-suc, add-zero}
use native.Mathlib.Omega.{arith}
use borrow.Author.Tests.{le-leb}
use lib.IntN.{ℤ, pos, negsuc}
use lib.Dec.{leb, ltb, leb-zero}
use lib.ListN.{length, get_or}
use Rattle.answers.specs.Lists.{all_of}
use Rattle.answers.specs.Answers.{first_failing, check, granted, bad_refutation}
use Rattle.clauses.specs.Clauses.{Clause, size, literal_within}
use Rattle.clauses.specs.CnfWords.{ended_by_0, words_of, clauses_of, ended}
use Rattle.clauses.specs.Refutations.{Step, step, paired, steps_of, step_words, words_of_steps, zeros, earlier, whole, refutation_checks}
use Rattle.clauses.specs.RightSteps.{StepRight, RightSteps}
use Rattle.answers.proofs.Tests.{both_true, first_true, second_true, all_of_append, all_of_weaker, all_of_if_at}
use Rattle.answers.proofs.Answers.{passing, first_failing_passed, all_pass_if_granted}
use Rattle.clauses.proofs.Judges.{refutation_checks_refusing}
use Rattle.clauses.proofs.WordByWord.{literals, hints, is_literals, part_at_end, word_checks, whole_by_parts, words_right, words_right_is, whole_is, word_by_word}
use Rattle.clauses.proofs.ReadBack.{not_0, NoZeros, within_not_0, words_back, clauses_no_zeros, step_no_zeros, StepsNoZeros, hints_are_not_0, step_first, part_past_clause, steps_back, steps_whole}

-- ════════ 11, without the places of its answers ════════

passing_is : (variables C : ℕ) (ws : List ℤ)
    → all_of passing (refutation_checks variables C ws) ≡ words_right variables literals (suc C) ws && (whole_by_parts ws && true)
passing_is variables C ws =
    ap (all_of passing) (word_by_word variables C ws)
    ∙ all_of_append passing (word_checks variables literals (suc C) 0 ws) (check (whole_by_parts ws) (bad_refutation (length ws)) ∷ [])
    ∙ ap (λ b. b && (whole_by_parts ws && true)) (words_right_is variables literals (suc C) 0 ws)

-- ════════ The words of a clause, and those of hints ════════

module _ (variables : ℕ) where
  clause_words : (own : ℕ) (c : Clause) (ws : List ℤ) → all_of not_0 c ≡ true
      → words_right variables literals own (ended_by_0 c ++ ws) ≡ all_of (literal_within variables) c && words_right variables hints own ws
  clause_words own [] ws z = rw leb-zero
  clause_words own (pos zero ∷ c) ws z = absurd (false≢true z)
  clause_words own (pos (suc n) ∷ c) ws z = rw (le-leb 1 (suc n) (omega arith), clause_words own c ws z, and_assoc (leb (suc n) variables))
  clause_words own (negsuc n ∷ c) ws z = rw (le-leb 1 (suc n) (omega arith), clause_words own c ws z, and_assoc (leb (suc n) variables))

  hint_words : (own : ℕ) (hs ws : List ℤ) → all_of not_0 hs ≡ true
      → words_right variables hints own (ended_by_0 hs ++ ws) ≡ all_of (earlier own) hs && words_right variables literals (suc own) ws
  hint_words own [] ws z = refl
  hint_words own (pos zero ∷ hs) ws z = absurd (false≢true z)
  hint_words own (pos (suc h) ∷ hs) ws z = rw (hint_words own hs ws z, and_assoc (ltb (suc h) own))
  hint_words own (negsuc h ∷ hs) ws z = refl

-- A hint as a number, and as a word.
abbrev hint_right : ℕ → ℕ → Bool
hint_right own h = leb 1 h && ltb h own

hints_earlier : (own : ℕ) (hs : List ℕ) → all_of (earlier own) (map pos hs) ≡ all_of (hint_right own) hs
hints_earlier own [] = refl
hints_earlier own (zero ∷ hs) = refl
hints_earlier own (suc h ∷ hs) = rw (le-leb 1 (suc h) (omega arith), hints_earlier own hs)

-- Hints are written without a sign.
hints_written : (own : ℕ) (hs : List ℤ) → all_of (earlier own) hs ≡ true → map pos (map size hs) ≡ hs
hints_written own [] e = refl
hints_written own (pos zero ∷ hs) e = absurd (false≢true e)
hints_written own (pos (suc h) ∷ hs) e = ap (λ (ks : List ℤ). pos (suc h) ∷ ks) (hints_written own hs (second_true (ltb (suc h) own) _ e))
hints_written own (negsuc h ∷ hs) e = absurd (false≢true e)

-- ════════ Steps, each right, the first with the number `own` ════════

module _ (variables : ℕ) where
  abbrev EachRight : ℕ → List Step → Type 0
  EachRight own ss = (i : ℕ) → i < length ss → StepRight variables (own + i) (get_or ss i (step [] []))

  first_right : (own : ℕ) (s : Step) (ss : List Step) → EachRight own (s ∷ ss) → StepRight variables own s
  first_right own s ss r = rw (add-zero own) at (r 0 (suc-le-suc zero-le))

  later_right : (own : ℕ) (s : Step) (ss : List Step) → EachRight own (s ∷ ss) → EachRight (suc own) ss
  later_right own s ss r i l =
      let number : own + suc i ≡ suc own + i = omega arith in
      rw number at (r (suc i) (suc-le-suc l))

  with_first : (own : ℕ) (s : Step) (ss : List Step) → StepRight variables own s → EachRight (suc own) ss → EachRight own (s ∷ ss)
  with_first own s ss f r zero l = rw (add-zero own) f
  with_first own s ss f r (suc i) l =
      let number : suc own + i ≡ own + suc i = omega arith in
      rw number at (r i (le_of_suc-le-suc l))

  no_zeros_if_right : (own : ℕ) (s : Step) → StepRight variables own s → step_no_zeros s ≡ true
  no_zeros_if_right own s r =
      both_true (all_of_weaker (literal_within variables) not_0 (within_not_0 variables) s.clause r.literals)
      (all_of_weaker (hint_right own) (leb 1) (λ h. first_true (leb 1 h) (ltb h own)) s.hints r.hints)

  no_zeros : (own : ℕ) (ss : List Step) → EachRight own ss → StepsNoZeros ss
  no_zeros own ss r = all_of_if_at step_no_zeros ss (step [] []) (λ i l. no_zeros_if_right (own + i) _ (r i l))

  -- ════════ The words of right steps pass ════════

  words_of_right : (own : ℕ) (ss : List Step) → EachRight own ss → words_right variables literals own (words_of_steps ss) ≡ true
  words_of_right own [] r = refl
  words_of_right own (s ∷ ss) r =
      let f = first_right own s ss r in
      let z = no_zeros_if_right own s f in
      ap (words_right variables literals own) (step_first s (words_of_steps ss))
      ∙ clause_words variables own s.clause _ (first_true (all_of not_0 s.clause) _ z)
      ∙ both_true f.literals
      (hint_words variables own (map pos s.hints) (words_of_steps ss) (hints_are_not_0 s.hints (second_true (all_of not_0 s.clause) _ z))
      ∙ both_true (hints_earlier own s.hints ∙ f.hints) (words_of_right (suc own) ss (later_right own s ss r)))

  -- ════════ Words that pass are those of right steps ════════

  -- Clauses two by two: their words are those of the steps, and each step is right.
  record Read (own : ℕ) (cs : List Clause) : Type 0 where
    written_back : words_of_steps (paired cs) ≡ words_of cs
    each_right : EachRight own (paired cs)

  one_step : (own : ℕ) (c hs : List ℤ) (cs : List Clause) → all_of (literal_within variables) c ≡ true → all_of (earlier own) hs ≡ true
      → Read (suc own) cs → Read own (c ∷ hs ∷ cs)
  one_step own c hs cs l h r = record {
    written_back =
        step_first (step c (map size hs)) (words_of_steps (paired cs))
        ∙ ap₂ (λ (ks ws : List ℤ). ended_by_0 c ++ (ended_by_0 ks ++ ws)) same_hints r.written_back;
    each_right =
        with_first own (step c (map size hs)) (paired cs)
        (record { literals = l; hints = sym (hints_earlier own (map size hs)) ∙ ap (all_of (earlier own)) same_hints ∙ h })
        r.each_right;
  }
    where
      same_hints : map pos (map size hs) ≡ hs
      same_hints = hints_written own hs h

  pairs_read : (own : ℕ) (cs : List Clause) → NoZeros cs → words_right variables literals own (words_of cs) ≡ true
      → is_literals (part_at_end literals (words_of cs)) ≡ true → Read own cs
  pairs_read own [] z e p = record { written_back = refl; each_right = λ i l. absurd (not-suc-le-zero l) }
  pairs_read own (c ∷ []) z e p =
      absurd (false≢true (sym (ap is_literals (part_past_clause literals c [] (first_true (all_of not_0 c) true z))) ∙ p))
  pairs_read own (c ∷ hs ∷ cs) z e p =
      let in_clause = first_true (all_of not_0 c) _ z in
      let z' = second_true (all_of not_0 c) _ z in
      let in_hints = first_true (all_of not_0 hs) _ z' in
      let by_clause = sym (clause_words variables own c _ in_clause) ∙ e in
      let by_hints = sym (hint_words variables own hs (words_of cs) in_hints) ∙ second_true (all_of (literal_within variables) c) _ by_clause in
      one_step own c hs cs (first_true (all_of (literal_within variables) c) _ by_clause) (first_true (all_of (earlier own) hs) _ by_hints)
      (pairs_read (suc own) cs (second_true (all_of not_0 hs) _ z') (second_true (all_of (earlier own) hs) _ by_hints)
      (ap is_literals (sym (part_past_clause literals c _ in_clause ∙ part_past_clause hints hs (words_of cs) in_hints)) ∙ p))

-- ════════ The law ════════

own_number : (C i : ℕ) → suc C + i ≡ C + i + 1
own_number C i = omega arith

module _ (variables C : ℕ) (ws : List ℤ) where
  read_if_passed : words_right variables literals (suc C) ws && (whole_by_parts ws && true) ≡ true → RightSteps variables C ws
  read_if_passed e =
      let all_there = first_true (whole_by_parts ws) true (second_true (words_right variables literals (suc C) ws) _ e) in
      let back = words_back ws (first_true (ended ws) _ all_there) in
      let r = pairs_read variables (suc C) (clauses_of ws) (clauses_no_zeros ws)
      (ap (words_right variables literals (suc C)) back ∙ first_true (words_right variables literals (suc C) ws) _ e)
      (ap (λ vs. is_literals (part_at_end literals vs)) back ∙ second_true (ended ws) _ all_there) in
      record {
        read_back = r.written_back ∙ back;
        each_right = λ i l. rw own_number at (r.each_right i l);
      }

  -- As the induction has it.
  each_from : RightSteps variables C ws → EachRight variables (suc C) (steps_of ws)
  each_from r i l = rw own_number (r.each_right i l)

  passed_if_right : RightSteps variables C ws → words_right variables literals (suc C) ws && (whole_by_parts ws && true) ≡ true
  passed_if_right r =
      both_true (ap (words_right variables literals (suc C)) (sym r.read_back) ∙ words_of_right variables (suc C) (steps_of ws) (each_from r))
      (both_true
      (sym (whole_is ws) ∙ ap whole (sym r.read_back) ∙ steps_whole (steps_of ws) (no_zeros variables (suc C) (steps_of ws) (each_from r)))
      refl)

  -- 11 passes exactly the words of right steps.
  pub steps_read : (first_failing (refutation_checks variables C ws) (granted 0) ≡ granted 0) ↔ RightSteps variables C ws
  steps_read = (
    λ e. read_if_passed (sym (passing_is variables C ws)
        ∙ all_pass_if_granted (refutation_checks variables C ws) (granted 0) (refutation_checks_refusing variables C ws) e),
    λ r. first_failing_passed (refutation_checks variables C ws) (granted 0) (passing_is variables C ws ∙ passed_if_right r),
  )

-- Of any right steps: their words are read as them.
module _ (variables C : ℕ) (ss : List Step) (r : (i : ℕ) → i < length ss → StepRight variables (C + i + 1) (get_or ss i (step [] []))) where
  pub right_steps_back : steps_of (words_of_steps ss) ≡ ss
  right_steps_back = steps_back ss (no_zeros variables (suc C) ss (λ i l. rw own_number (r i l)))

  pub right_steps_right : RightSteps variables C (words_of_steps ss)
  right_steps_right = record { read_back = ap words_of_steps right_steps_back; each_right = rw right_steps_back r }

-- ════════ Two zeros for each step ════════

zeros_past : (c : Clause) (ws : List ℤ) → all_of not_0 c ≡ true → zeros (ended_by_0 c ++ ws) ≡ suc (zeros ws)
zeros_past [] ws z = refl
zeros_past (pos zero ∷ c) ws z = absurd (false≢true z)
zeros_past (pos (suc n) ∷ c) ws z = zeros_past c ws z
zeros_past (negsuc n ∷ c) ws z = zeros_past c ws z

zeros_of_words : (ss : List Step) → StepsNoZeros ss → zeros (words_of_steps ss) ≡ 2 * length ss
zeros_of_words [] z = refl
zeros_of_words (s ∷ ss) z =
    let here = first_true (step_no_zeros s) _ z in
    let in_hints = hints_are_not_0 s.hints (second_true (all_of not_0 s.clause) _ here) in
    let two : zeros (step_words s ++ words_of_steps ss) ≡ suc (suc (zeros (words_of_steps ss))) =
    ap zeros (step_first s (words_of_steps ss))
    ∙ zeros_past s.clause _ (first_true (all_of not_0 s.clause) _ here)
    ∙ ap suc (zeros_past (map pos s.hints) (words_of_steps ss) in_hints) in
    omega (arith, two, zeros_of_words ss (second_true (step_no_zeros s) _ z))

pub zeros_of_steps : (variables C : ℕ) (ws : List ℤ) → first_failing (refutation_checks variables C ws) (granted 0) ≡ granted 0
    → zeros ws ≡ 2 * length (steps_of ws)
zeros_of_steps variables C ws e =
    let r = (steps_read variables C ws).0 e in
    ap zeros (sym r.read_back) ∙ zeros_of_words (steps_of ws) (no_zeros variables (suc C) (steps_of ws) (each_from variables C ws r))

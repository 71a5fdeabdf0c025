-- Words and what they are read as: clauses and steps written as words are read back, and words that are not cut short are written back.
-- Assumes nothing.
use mathlib.Core.Path.{◌≡◌, refl, sym, ◌∙◌, ap}
use mathlib.Core.Bool.{Bool, true, not, ◌&&◌, false≢true}
use mathlib.Core.List.{List, [], ◌∷◌, ◌++◌, map, append_assoc}
use Prim.Native.Nat.{ℕ, zero, suc, ◌≤◌, ◌<◌, zero-le, suc-le-suc}
use native.Mathlib.Nat.{not-suc-le-zero}
use native.Mathlib.Omega.{arith}
use borrow.Author.Tests.{not-true}
use lib.IntN.{ℤ, pos, negsuc}
use lib.Dec.{leb}
use lib.ListN.{length}
use Rattle.answers.specs.Lists.{all_of}
use Rattle.clauses.specs.Clauses.{Clause, size, literal_within, Within}
use Rattle.clauses.specs.CnfWords.{ended_by_0, words_of, in_front, clauses_of, is_0, ended_after, ended}
use Rattle.clauses.specs.Refutations.{Step, paired, steps_of, step_words, words_of_steps, whole}
use Rattle.answers.proofs.Tests.{first_true, second_true, not_both, all_of_weaker}
use Rattle.clauses.proofs.WordByWord.{Part, literals, hints, other, part_at_end, whole_is}

-- ════════ Words that are no 0 ════════

abbrev pub not_0 : ℤ → Bool
not_0 w = not (is_0 w)

-- No literal is the word 0.
abbrev pub NoZeros : List Clause → Type 0
NoZeros cs = all_of (all_of (λ w. not (is_0 w))) cs ≡ true

pub within_not_0 : (variables : ℕ) (w : ℤ) → literal_within variables w ≡ true → not_0 w ≡ true
within_not_0 variables (pos zero) e = e
within_not_0 variables (pos (suc n)) e = refl
within_not_0 variables (negsuc n) e = refl

pub within_no_zeros : (variables : ℕ) (cs : List Clause) → Within variables cs → NoZeros cs
within_no_zeros variables =
    all_of_weaker (all_of (literal_within variables)) (all_of not_0)
    (all_of_weaker (literal_within variables) not_0 (within_not_0 variables))

-- ════════ Clauses read back ════════

clause_back : (c : Clause) (ws : List ℤ) → all_of not_0 c ≡ true → clauses_of (ended_by_0 c ++ ws) ≡ c ∷ clauses_of ws
clause_back [] ws e = refl
clause_back (pos zero ∷ c) ws e = absurd (false≢true e)
clause_back (pos (suc n) ∷ c) ws e = ap (in_front (pos (suc n))) (clause_back c ws e)
clause_back (negsuc n ∷ c) ws e = ap (in_front (negsuc n)) (clause_back c ws e)

pub clauses_back : (cs : List Clause) → NoZeros cs → clauses_of (words_of cs) ≡ cs
clauses_back [] e = refl
clauses_back (c ∷ cs) e =
    clause_back c (words_of cs) (first_true (all_of not_0 c) (all_of (all_of not_0) cs) e)
    ∙ ap (λ (ds : List Clause). c ∷ ds) (clauses_back cs (second_true (all_of not_0 c) (all_of (all_of not_0) cs) e))

-- ════════ Not cut short ════════

ended_after_0 : (ws : List ℤ) → ended_after (pos 0) ws ≡ ended ws
ended_after_0 [] = refl
ended_after_0 (w ∷ ws) = refl

ended_after_clause : (v : ℤ) (c : Clause) (ws : List ℤ) → ended_after v (ended_by_0 c ++ ws) ≡ ended ws
ended_after_clause v [] ws = ended_after_0 ws
ended_after_clause v (w ∷ c) ws = ended_after_clause w c ws

ended_clause : (c : Clause) (ws : List ℤ) → ended (ended_by_0 c ++ ws) ≡ ended ws
ended_clause [] ws = ended_after_0 ws
ended_clause (w ∷ c) ws = ended_after_clause w c ws

pub words_ended : (cs : List Clause) → ended (words_of cs) ≡ true
words_ended [] = refl
words_ended (c ∷ cs) = ended_clause c (words_of cs) ∙ words_ended cs

-- ════════ Words written back ════════

some_in_front : (w : ℤ) (cs : List Clause) → 0 < length (in_front w cs)
some_in_front w [] = suc-le-suc zero-le
some_in_front w (c ∷ cs) = suc-le-suc zero-le

-- Where a word stands, a clause does.
pub some_clause : (w : ℤ) (ws : List ℤ) → 0 < length (clauses_of (w ∷ ws))
some_clause (pos zero) ws = suc-le-suc zero-le
some_clause (pos (suc n)) ws = some_in_front (pos (suc n)) (clauses_of ws)
some_clause (negsuc n) ws = some_in_front (negsuc n) (clauses_of ws)

words_in_front : (w : ℤ) (cs : List Clause) → 0 < length cs → words_of (in_front w cs) ≡ w ∷ words_of cs
words_in_front w [] l = absurd (not-suc-le-zero l)
words_in_front w (c ∷ cs) l = refl

-- A literal, and the words after it.
literal_written_back : (w : ℤ) (ws : List ℤ) → not_0 w ≡ true → ended_after w ws ≡ true
    → (ended ws ≡ true → words_of (clauses_of ws) ≡ ws) → words_of (in_front w (clauses_of ws)) ≡ w ∷ ws
literal_written_back w [] z e below = absurd (not_both e (not-true (is_0 w) z))
literal_written_back w (v ∷ vs) z e below =
    words_in_front w (clauses_of (v ∷ vs)) (some_clause v vs) ∙ ap (λ (us : List ℤ). w ∷ us) (below e)

pub words_back : (ws : List ℤ) → ended ws ≡ true → words_of (clauses_of ws) ≡ ws
words_back [] e = refl
words_back (pos zero ∷ ws) e = ap (λ (us : List ℤ). pos 0 ∷ us) (words_back ws (sym (ended_after_0 ws) ∙ e))
words_back (pos (suc n) ∷ ws) e = literal_written_back (pos (suc n)) ws refl e (words_back ws)
words_back (negsuc n ∷ ws) e = literal_written_back (negsuc n) ws refl e (words_back ws)

no_zeros_in_front : (w : ℤ) (cs : List Clause) → not_0 w ≡ true → NoZeros cs → NoZeros (in_front w cs)
no_zeros_in_front w [] z e = rw z
no_zeros_in_front w (c ∷ cs) z e = rw z e

pub clauses_no_zeros : (ws : List ℤ) → NoZeros (clauses_of ws)
clauses_no_zeros [] = refl
clauses_no_zeros (pos zero ∷ ws) = clauses_no_zeros ws
clauses_no_zeros (pos (suc n) ∷ ws) = no_zeros_in_front (pos (suc n)) (clauses_of ws) refl (clauses_no_zeros ws)
clauses_no_zeros (negsuc n ∷ ws) = no_zeros_in_front (negsuc n) (clauses_of ws) refl (clauses_no_zeros ws)

-- ════════ Steps read back ════════

-- No literal of the step's clause is the word 0, and each hint is at least 1.
abbrev pub step_no_zeros : Step → Bool
step_no_zeros s = all_of not_0 s.clause && all_of (leb 1) s.hints

abbrev pub StepsNoZeros : List Step → Type 0
StepsNoZeros ss = all_of step_no_zeros ss ≡ true

hints_no_zeros : (hs : List ℕ) → all_of (leb 1) hs ≡ true → all_of not_0 (map pos hs) ≡ true
hints_no_zeros [] e = refl
hints_no_zeros (zero ∷ hs) e = absurd (false≢true e)
hints_no_zeros (suc h ∷ hs) e = hints_no_zeros hs (second_true (leb 1 (suc h)) (all_of (leb 1) hs) e)

hints_back : (hs : List ℕ) → map size (map pos hs) ≡ hs
hints_back [] = refl
hints_back (h ∷ hs) = ap (λ (ks : List ℕ). h ∷ ks) (hints_back hs)

-- The words of a step, and those after it.
pub step_first : (s : Step) (ws : List ℤ) → step_words s ++ ws ≡ ended_by_0 s.clause ++ (ended_by_0 (map pos s.hints) ++ ws)
step_first s ws = append_assoc (ended_by_0 s.clause) (ended_by_0 (map pos s.hints)) ws

part_after_clause : (p : Part) (c : Clause) (ws : List ℤ) → all_of not_0 c ≡ true
    → part_at_end p (ended_by_0 c ++ ws) ≡ part_at_end (other p) ws
part_after_clause p [] ws e = refl
part_after_clause p (pos zero ∷ c) ws e = absurd (false≢true e)
part_after_clause p (pos (suc n) ∷ c) ws e = part_after_clause p c ws e
part_after_clause p (negsuc n ∷ c) ws e = part_after_clause p c ws e

module _ (s : Step) (ws : List ℤ) (e : step_no_zeros s ≡ true) where
  clause_no_zeros : all_of not_0 s.clause ≡ true
  clause_no_zeros = first_true (all_of not_0 s.clause) (all_of (leb 1) s.hints) e

  hint_words_no_zeros : all_of not_0 (map pos s.hints) ≡ true
  hint_words_no_zeros = hints_no_zeros s.hints (second_true (all_of not_0 s.clause) (all_of (leb 1) s.hints) e)

  step_back : steps_of (step_words s ++ ws) ≡ s ∷ steps_of ws
  step_back =
      rw (
        step_first s ws,
        clause_back s.clause (ended_by_0 (map pos s.hints) ++ ws) clause_no_zeros,
        clause_back (map pos s.hints) ws hint_words_no_zeros,
        hints_back,
      )

  part_after_step : part_at_end literals (step_words s ++ ws) ≡ part_at_end literals ws
  part_after_step =
      rw (
        step_first s ws,
        part_after_clause literals s.clause (ended_by_0 (map pos s.hints) ++ ws) clause_no_zeros,
        part_after_clause hints (map pos s.hints) ws hint_words_no_zeros,
      )

pub steps_back : (ss : List Step) → StepsNoZeros ss → steps_of (words_of_steps ss) ≡ ss
steps_back [] e = refl
steps_back (s ∷ ss) e =
    step_back s (words_of_steps ss) (first_true (step_no_zeros s) (all_of step_no_zeros ss) e)
    ∙ ap (λ (ts : List Step). s ∷ ts) (steps_back ss (second_true (step_no_zeros s) (all_of step_no_zeros ss) e))

-- ════════ Steps are whole ════════

steps_ended : (ss : List Step) → ended (words_of_steps ss) ≡ true
steps_ended [] = refl
steps_ended (s ∷ ss) =
    rw (
      step_first s (words_of_steps ss),
      ended_clause s.clause (ended_by_0 (map pos s.hints) ++ words_of_steps ss),
      ended_clause (map pos s.hints) (words_of_steps ss),
    )
    (steps_ended ss)

steps_part : (ss : List Step) → StepsNoZeros ss → part_at_end literals (words_of_steps ss) ≡ literals
steps_part [] e = refl
steps_part (s ∷ ss) e =
    part_after_step s (words_of_steps ss) (first_true (step_no_zeros s) (all_of step_no_zeros ss) e)
    ∙ steps_part ss (second_true (step_no_zeros s) (all_of step_no_zeros ss) e)

pub steps_whole : (ss : List Step) → StepsNoZeros ss → whole (words_of_steps ss) ≡ true
steps_whole ss e = rw (whole_is, steps_ended ss, steps_part ss e)

-- ════════ No more clauses or steps than words ════════

front_fewer : (w : ℤ) (cs : List Clause) (n : ℕ) → length cs ≤ n → length (in_front w cs) ≤ suc n
front_fewer w [] n h = omega arith
front_fewer w (c ∷ cs) n h = omega arith

pub clauses_fewer : (ws : List ℤ) → length (clauses_of ws) ≤ length ws
clauses_fewer [] = omega arith
clauses_fewer (pos zero ∷ ws) = omega (arith, clauses_fewer ws)
clauses_fewer (pos (suc n) ∷ ws) = front_fewer (pos (suc n)) (clauses_of ws) (length ws) (clauses_fewer ws)
clauses_fewer (negsuc n ∷ ws) = front_fewer (negsuc n) (clauses_of ws) (length ws) (clauses_fewer ws)

paired_fewer : (cs : List Clause) → length (paired cs) ≤ length cs
paired_fewer [] = omega arith
paired_fewer (c ∷ []) = omega arith
paired_fewer (c ∷ d ∷ cs) = omega (arith, paired_fewer cs)

pub steps_fewer : (ws : List ℤ) → length (steps_of ws) ≤ length ws
steps_fewer ws = omega (arith, clauses_fewer ws, paired_fewer (clauses_of ws))

-- ════════ For other files ════════

pub hints_are_not_0 : (hs : List ℕ) → all_of (leb 1) hs ≡ true → all_of not_0 (map pos hs) ≡ true
hints_are_not_0 = hints_no_zeros

pub part_past_clause : (p : Part) (c : Clause) (ws : List ℤ) → all_of not_0 c ≡ true
    → part_at_end p (ended_by_0 c ++ ws) ≡ part_at_end (other p) ws
part_past_clause = part_after_clause

-- CNF writers whose constraints are wrong do not meet the promise: first whatever the words, then for one input, whatever they answer.
-- Assumes nothing.
use mathlib.Core.Path.{◌≡◌, refl, sym, ◌∙◌, ap}
use mathlib.Core.List.{List, [], ◌∷◌}
use Prim.Native.Nat.{ℕ, ◌/◌, ◌≤◌, ◌<◌}
use native.Mathlib.Omega.{arith}
use lib.IntN.{ℤ, pos}
use lib.ListN.{length, replicate, take}
use lib.Seq.{take_at}
use Rattle.std.specs.Prelude.{Result, Ok}
use Rattle.answers.specs.Lists.{written}
use Rattle.clauses.specs.Clauses.{Clause}
use Rattle.clauses.specs.CnfWords.{words_of}
use Rattle.meaning.specs.Problem.{Problem, latch_variable, latch, constraint, header_words, problem_by, problem}
use Rattle.meaning.specs.Cnf.{variables, cnf, cnf_words}
use Rattle.meaning.specs.Calls.{WellFormed, room_after_writing}
use Rattle.meaning.proofs.Check.{proper_if_well_formed}
use Rattle.counts.specs.declared.Counts.{Counts}
use Rattle.problem.proofs.LazyCounts.{numbers_of}
use Rattle.encoder.specs.declared.NotWritten.{NotWritten}
use Rattle.encoder.specs.Promise.{EncodedAs}
use Rattle.encoder.proofs.WrongConstraints.{after_resets, at_first_positions, by_constraint, over_position_0, false_as_true, after_resets_differs, fewer_words, by_constraint_differs, false_as_true_differs}
use Rattle.encoder.proofs.Lazy.{Input, Meets, Breaks, laid_down, meets, other_word_breaks}

-- ════════ Whatever the words ════════

module _ (version : ℕ) (ws : List ℕ) (before : List ℤ) (n : Counts) where
  abbrev p : Problem
  p = problem version ws

  -- A writer that leaves these clauses, and says how many words they have, does not meet the promise.
  abbrev WritingBreaks : List Clause → Type 0
  WritingBreaks cs = n.words ≡ length (words_of cs) → ¬ (EncodedAs version ws before (Ok n) (written (words_of cs) before))

  pub other_clauses_break : (cs : List Clause) → ¬ (words_of cs ≡ cnf_words p) → WritingBreaks cs
  unfolding room_after_writing
  other_clauses_break cs h said m =
      let xs = words_of cs in
      let as_long : length (cnf_words p) ≡ length xs = sym (ap (λ (c : Counts). c.words) m.numbered) ∙ said in
      h (sym (take_at xs _ (length xs) refl) ∙ ap (take (length xs)) m.room_after ∙ take_at (cnf_words p) _ (length xs) as_long)

  -- The constraints after item 3, where the first latch's reset is 0 or 1 and the first constraint is not over it.
  pub after_resets_breaks : 1 ≤ length p.latches → (latch p 0).reset ≤ 1 → 1 ≤ length p.constraints → ¬ (constraint p 0 / 2 ≡ latch_variable p 0)
      → WritingBreaks (after_resets p)
  after_resets_breaks some fixed constrained other =
      other_clauses_break (after_resets p) (after_resets_differs p some fixed constrained other)

  -- The constraints at the first m positions only.
  pub at_first_positions_breaks : (m : ℕ) → m ≤ p.bound → 1 ≤ length p.constraints → WritingBreaks (at_first_positions p m)
  at_first_positions_breaks m h some =
      other_clauses_break (at_first_positions p m) (λ e. omega (arith, fewer_words p m h some, ap length e))

  pub only_at_0_breaks : 1 ≤ p.bound → 1 ≤ length p.constraints → WritingBreaks (at_first_positions p 1)
  only_at_0_breaks = at_first_positions_breaks 1

  pub only_below_k_breaks : 1 ≤ length p.constraints → WritingBreaks (at_first_positions p p.bound)
  only_below_k_breaks = at_first_positions_breaks p.bound (omega arith)

  -- By constraint and then by position, where there are two of each and the first constraint is no constant.
  pub by_constraint_breaks : WellFormed version ws → 1 ≤ p.bound → 2 ≤ length p.constraints → 2 ≤ constraint p 0 → WritingBreaks (by_constraint p)
  by_constraint_breaks formed some two varies =
      other_clauses_break (by_constraint p) (by_constraint_differs p (proper_if_well_formed version ws formed) some two varies)

  -- Literal 0 gives 1, where a constraint is literal 0.
  pub false_as_true_breaks : (c : ℕ) → c < length p.constraints → constraint p c ≡ 0 → WritingBreaks (false_as_true p)
  false_as_true_breaks c l is = other_clauses_break (false_as_true p) (false_as_true_differs p c l is)

-- ════════ One input ════════

-- T at bound 2 in version 2, with the constraints that the latch is off, and false: 0 1 0 1 2 2, 3 0, 3, 0, 0 2 0. Its CNF has 128 words.
abbrev pub c_words : List ℕ
c_words = 0 ∷ 1 ∷ 0 ∷ 1 ∷ 2 ∷ 2 ∷ 3 ∷ 0 ∷ 3 ∷ 0 ∷ 0 ∷ 2 ∷ 0 ∷ []

abbrev pub C : Input
C = record { version = 2; words = c_words; room = replicate 128 (pos 9) }

abbrev pub c_numbers : Counts
c_numbers = numbers_of 14 41 128

-- It begins (1), (-2) (-1), (-3) (-1), (-4) (-1), and then item 3, (-2).
pub c_meets : Meets C (Ok c_numbers) (written (cnf_words (problem 2 c_words)) (replicate 128 (pos 9)))
unfolding laid_down header_words problem_by problem variables cnf cnf_words room_after_writing
c_meets = meets C (Ok c_numbers) refl refl

module _ (r : Result Counts NotWritten) where
  -- These clauses in the room, from its start on.
  abbrev LeavingBreaks : List Clause → Type 0
  LeavingBreaks cs = Breaks C r (written (words_of cs) (replicate 128 (pos 9)))

  -- Word 4 is -1, and here the unit of the first constraint.
  pub c_after_resets_breaks : LeavingBreaks (after_resets (problem 2 c_words))
  unfolding header_words problem_by problem cnf cnf_words
  c_after_resets_breaks = other_word_breaks c_meets 4 (λ e. let z : ◌≡◌ {A = ℕ} 1 0 = cc in omega arith)

  -- Words 6 and 10 are -3 and -4, and here the reset's -2.
  pub c_only_at_0_breaks : LeavingBreaks (at_first_positions (problem 2 c_words) 1)
  unfolding header_words problem_by problem cnf cnf_words
  c_only_at_0_breaks = other_word_breaks c_meets 6 (λ e. let z : ◌≡◌ {A = ℕ} 1 2 = cc in omega arith)

  pub c_only_below_k_breaks : LeavingBreaks (at_first_positions (problem 2 c_words) 2)
  unfolding header_words problem_by problem cnf cnf_words
  c_only_below_k_breaks = other_word_breaks c_meets 10 (λ e. let z : ◌≡◌ {A = ℕ} 1 3 = cc in omega arith)

  -- Word 6 is -3, and here the latch's -2 again.
  pub c_over_position_0_breaks : LeavingBreaks (over_position_0 (problem 2 c_words))
  unfolding header_words problem_by problem cnf cnf_words
  c_over_position_0_breaks = other_word_breaks c_meets 6 (λ e. let z : ◌≡◌ {A = ℕ} 1 2 = cc in omega arith)

  -- Word 4 is -1, and here -3, and 1.
  pub c_by_constraint_breaks : LeavingBreaks (by_constraint (problem 2 c_words))
  unfolding header_words problem_by problem cnf cnf_words
  c_by_constraint_breaks = other_word_breaks c_meets 4 (λ e. let z : ◌≡◌ {A = ℕ} 2 0 = cc in omega arith)

  pub c_false_as_true_breaks : LeavingBreaks (false_as_true (problem 2 c_words))
  unfolding header_words problem_by problem cnf cnf_words
  c_false_as_true_breaks = other_word_breaks c_meets 4 (λ e. let z : ◌≡◌ {A = ℕ} 0 1 = cc in omega arith)

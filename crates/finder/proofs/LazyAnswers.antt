-- Finders that are lazy, count wrongly or spoil the room break the promise: for each an input, what meets the promise there, and what they give.
-- Assumes nothing.
use Rattle.std.proofs.Common.{Result, Ok, Err}
use mathlib.Core.Path.{◌≡◌, refl, sym}
use mathlib.Core.Bool.{true}
use mathlib.Core.List.{List, [], ◌∷◌, ◌++◌}
use Prim.Native.Nat.{ℕ, ◌+◌, ◌*◌, ◌^◌}
use native.Mathlib.Nat.{one-le-pow}
use native.Mathlib.Omega.{arith}
use lib.ListN.{length, replicate, get_or}
use Rattle.answers.specs.Lists.{numbers, each}
use Rattle.answers.specs.Answers.{Answer}
use Rattle.answers.specs.Limits.{inputs_limit, latches_limit, gates_limit, nodes_limit, bound_limit, constraints_limit, search_limit}
use Rattle.meaning.specs.Problem as problems
use Rattle.meaning.specs.Problem.{header_words, problem_by, problem}
use Rattle.meaning.specs.Proper.{Proper}
use Rattle.meaning.specs.Runs.{values, next_values, meets_constraints}
use Rattle.meaning.specs.Formulas.{formula}
use Rattle.meaning.specs.Witnesses.{run}
use Rattle.finder.specs.Calls.{open_bytes, find_witness, room_after_finding}
use Rattle.meaning.specs.Calls.{accepted, WellFormed, check_problem, judge_bytes, witnesses}
use Rattle.meaning.specs.Cases.{t_words}
use Rattle.meaning.proofs.Check.{proper_if_well_formed}
use Rattle.problem.specs.declared.Refusal.TheVariants.{BadVersion, BadReset, BadNode}
use Rattle.finder.specs.declared.NotFound.{NotFound}
use Rattle.finder.specs.declared.NotFound.TheVariants.{Problem, TooMuchOpen, RoomTooSmall, NoneExists}
use Rattle.finder.specs.Runs.{run_bytes}
use Rattle.finder.specs.Search.{IsBest}
use Rattle.finder.proofs.FirstFound.{best_is_first}
use Rattle.finder.proofs.FoundCases.{h_finally}
use Rattle.finder.proofs.Lazy.{Input, Meets, Breaks, other_answer_breaks, other_room_breaks, other_byte_breaks}

-- ════════ What the promise gives ════════

-- Words of version 1, and a room of so many bytes, each 7.
abbrev pub over : List ℕ → ℕ → Input
over ws n = record { version = 1; words = ws; room = replicate n 7 }

-- The answer that documents 01 and 02 lay down, and the room after an answer.
unfoldable pub laid_down : Input → Answer
unfolding header_words inputs_limit latches_limit gates_limit nodes_limit bound_limit constraints_limit search_limit problem_by problem values next_values meets_constraints formula run judge_bytes witnesses find_witness
laid_down x = find_witness x.version x.words (length x.room)

unfoldable pub room_left : Input → Answer → List ℕ
unfolding header_words problem_by problem values next_values meets_constraints formula run judge_bytes witnesses room_after_finding
room_left x a = room_after_finding a x.version x.words x.room

-- The outcomes that are told apart below.
pub none_not_found : {n : ℕ} → ¬ (◌≡◌ {A = Result ℕ NotFound} (Err NoneExists) (Ok n))
none_not_found e = let z : ◌≡◌ {A = ℕ} 0 1 = cc in omega arith

pub found_not_none : {n : ℕ} → ¬ (◌≡◌ {A = Result ℕ NotFound} (Ok n) (Err NoneExists))
found_not_none e = none_not_found (sym e)

none_not_small : {n : ℕ} → ¬ (◌≡◌ {A = Result ℕ NotFound} (Err NoneExists) (Err (RoomTooSmall n)))
none_not_small e = let z : ◌≡◌ {A = ℕ} 0 1 = cc in omega arith

found_not_small : {m n : ℕ} → ¬ (◌≡◌ {A = Result ℕ NotFound} (Ok m) (Err (RoomTooSmall n)))
found_not_small e = let z : ◌≡◌ {A = ℕ} 0 1 = cc in omega arith

small_not_open : {m n : ℕ} → ¬ (◌≡◌ {A = Result ℕ NotFound} (Err (RoomTooSmall m)) (Err (TooMuchOpen n)))
small_not_open e = let z : ◌≡◌ {A = ℕ} 0 1 = cc in omega arith

-- ════════ Lazy answers ════════

-- H with F 12 at k = 3, of which the witnesses are 0 0 0 and 1 0 0; the room has a byte more.
abbrev pub h_full : Input
h_full = over (h_finally 3) 4

pub h_full_meets : Meets h_full (Ok 3) (0 ∷ 0 ∷ 0 ∷ 7 ∷ [])
unfolding laid_down room_left
h_full_meets = record { answered = refl; room_after = refl }

-- H with F 12 at k = 2, of which there is none.
abbrev pub h_short : Input
h_short = over (h_finally 2) 4

pub h_short_meets : Meets h_short (Err NoneExists) (7 ∷ 7 ∷ 7 ∷ 7 ∷ [])
unfolding laid_down room_left
h_short_meets = record { answered = refl; room_after = refl }

module _ (after : List ℕ) where
  -- None, whatever the words say.
  pub says_none_always_breaks : Breaks h_full (Err NoneExists) after
  says_none_always_breaks = other_answer_breaks h_full_meets none_not_found

  -- Any refusal, whatever the words say.
  pub refuses_all_breaks : (r : Result ℕ NotFound) → ¬ (r ≡ Ok 3) → Breaks h_full r after
  refuses_all_breaks r = other_answer_breaks h_full_meets

  -- Found, whatever the words say.
  pub says_found_always_breaks : (n : ℕ) → Breaks h_short (Ok n) after
  says_found_always_breaks n = other_answer_breaks h_short_meets found_not_none

  -- The place at 0 is the length.
  pub place_left_out_breaks : Breaks h_full (Ok 0) after
  place_left_out_breaks = other_answer_breaks h_full_meets (λ e. let z : ◌≡◌ {A = ℕ} 0 3 = cc in omega arith)

module _ (r : Result ℕ NotFound) where
  -- The other witness of the two.
  pub finds_the_last_breaks : Breaks h_full r (1 ∷ 0 ∷ 0 ∷ 7 ∷ [])
  finds_the_last_breaks = other_byte_breaks h_full_meets 0 (λ e. omega arith)

  -- Anything but the first, and then what the room held.
  pub finds_another_breaks : (after : List ℕ) → ¬ (after ≡ 0 ∷ 0 ∷ 0 ∷ 7 ∷ []) → Breaks h_full r after
  finds_another_breaks after = other_room_breaks h_full_meets

  -- ════════ The room ════════

  -- 0 is answered, and the room stays.
  pub witness_not_written_breaks : Breaks h_full r (7 ∷ 7 ∷ 7 ∷ 7 ∷ [])
  witness_not_written_breaks = other_byte_breaks h_full_meets 0 (λ e. omega arith)

  -- Byte 3 is past the witness.
  pub written_past_breaks : (after : List ℕ) → ¬ (get_or after 3 0 ≡ 7) → Breaks h_full r after
  written_past_breaks after = other_byte_breaks h_full_meets 3

  -- The room is set to 0 before the search, or after it.
  pub cleared_on_none_breaks : Breaks h_short r (0 ∷ 0 ∷ 0 ∷ 0 ∷ [])
  cleared_on_none_breaks = other_byte_breaks h_short_meets 0 (λ e. omega arith)

  -- A candidate that was tried stands there.
  pub written_on_none_breaks : (after : List ℕ) → ¬ (after ≡ 7 ∷ 7 ∷ 7 ∷ 7 ∷ []) → Breaks h_short r after
  written_on_none_breaks after = other_room_breaks h_short_meets

-- ════════ 18 ════════

-- H with F 12 at k = 3, and a byte of room too few
abbrev pub h_full_narrow : Input
h_full_narrow = over (h_finally 3) 2

pub h_full_narrow_meets : Meets h_full_narrow (Err (RoomTooSmall 3)) (7 ∷ 7 ∷ [])
unfolding laid_down room_left
h_full_narrow_meets = record { answered = refl; room_after = refl }

-- The same at k = 2
abbrev pub h_short_narrow : Input
h_short_narrow = over (h_finally 2) 2

pub h_short_narrow_meets : Meets h_short_narrow (Err (RoomTooSmall 3)) (7 ∷ 7 ∷ [])
unfolding laid_down room_left
h_short_narrow_meets = record { answered = refl; room_after = refl }

module _ (after : List ℕ) where
  -- The room is not checked.
  pub narrow_room_accepted_breaks : (n : ℕ) → Breaks h_full_narrow (Ok n) after
  narrow_room_accepted_breaks n = other_answer_breaks h_full_narrow_meets found_not_small

  -- 18 comes after the search, which finds none.
  pub searched_before_room_breaks : Breaks h_short_narrow (Err NoneExists) after
  searched_before_room_breaks = other_answer_breaks h_short_narrow_meets none_not_small

  -- The bytes that lack instead of those that are needed.
  pub missing_bytes_breaks : Breaks h_full_narrow (Err (RoomTooSmall 1)) after
  missing_bytes_breaks = other_answer_breaks h_full_narrow_meets (λ e. let z : ◌≡◌ {A = ℕ} 1 3 = cc in omega arith)

-- What there is room for is written before 18.
pub written_at_18_breaks : (r : Result ℕ NotFound) → Breaks h_full_narrow r (0 ∷ 0 ∷ [])
written_at_18_breaks r = other_byte_breaks h_full_narrow_meets 0 (λ e. omega arith)

-- ════════ 17 ════════

-- n latches that are free, then one that starts at 1 and stays so, and an atom: 0 n+1 0 1 0, n times 0 2, 2n+2 1, 0 atom 0
abbrev open_latches : ℕ → ℕ → List ℕ
open_latches n atom = 0 ∷ (n + 1) ∷ 0 ∷ 1 ∷ 0 ∷ (each (numbers 0 n) (λ i. 0 ∷ 2 ∷ []) ++ ((2 * n + 2) ∷ 1 ∷ 0 ∷ atom ∷ 0 ∷ []))

-- Of 18 latches 17 are free, and there is no room.
abbrev pub seventeen_open : Input
seventeen_open = over (open_latches 17 36) 0

pub seventeen_open_meets : Meets seventeen_open (Err (TooMuchOpen 17)) []
unfolding laid_down room_left
seventeen_open_meets = record { answered = refl; room_after = refl }

-- The same with room for the witness.
abbrev pub seventeen_open_wide : Input
seventeen_open_wide = over (open_latches 17 36) 19

pub seventeen_open_wide_meets : Meets seventeen_open_wide (Err (TooMuchOpen 17)) (replicate 19 7)
unfolding laid_down room_left
seventeen_open_wide_meets = record { answered = refl; room_after = refl }

-- The same with an atom that is no literal, at word 42.
abbrev pub seventeen_open_bad : Input
seventeen_open_bad = over (open_latches 17 38) 0

pub seventeen_open_bad_meets : Meets seventeen_open_bad (Err (Problem (BadNode 42))) []
unfolding laid_down room_left
seventeen_open_bad_meets = record { answered = refl; room_after = refl }

module _ (after : List ℕ) where
  -- 18 before 17.
  pub room_before_17_breaks : Breaks seventeen_open (Err (RoomTooSmall 19)) after
  room_before_17_breaks = other_answer_breaks seventeen_open_meets small_not_open

  -- 17 with the fixed reset counted.
  pub fixed_reset_in_the_sum_breaks : Breaks seventeen_open (Err (TooMuchOpen 18)) after
  fixed_reset_in_the_sum_breaks = other_answer_breaks seventeen_open_meets (λ e. let z : ◌≡◌ {A = ℕ} 18 17 = cc in omega arith)

  -- 17 is left out, or its limit is higher.
  pub seventeen_accepted_breaks : (r : Result ℕ NotFound) → ¬ (r ≡ Err (TooMuchOpen 17)) → Breaks seventeen_open_wide r after
  seventeen_accepted_breaks r = other_answer_breaks seventeen_open_wide_meets

  -- 17 before the problem's own checks.
  pub open_before_problem_breaks : (n : ℕ) → Breaks seventeen_open_bad (Err (TooMuchOpen n)) after
  open_before_problem_breaks n = other_answer_breaks seventeen_open_bad_meets (λ e. let z : ◌≡◌ {A = ℕ} 0 1 = cc in omega arith)

-- The witness is written although 17 is answered.
pub written_at_17_breaks : (r : Result ℕ NotFound) → Breaks seventeen_open_wide r (0 ∷ (replicate 17 0 ++ (1 ∷ [])))
written_at_17_breaks r = other_byte_breaks seventeen_open_wide_meets 0 (λ e. omega arith)

-- Of 17 latches 16 are free; the first witness is 0, 16 times 0, 1.
abbrev pub sixteen_open : Input
sixteen_open = over (open_latches 16 34) 18

sixteen_open_formed : WellFormed 1 sixteen_open.words
unfolding header_words inputs_limit latches_limit gates_limit nodes_limit bound_limit constraints_limit check_problem
sixteen_open_formed = refl

-- Its candidates are too many to be computed, but the first run that meets the resets is a witness as a prefix.
first_of_all : (p : problems.Problem) → Proper p → accepted p (0 ∷ run_bytes p 0) ≡ true → (rest : List (List ℕ)) × (witnesses p ≡ (0 ∷ run_bytes p 0) ∷ rest)
first_of_all p proper e = best_is_first proper {best = record { first = 0; run = 0 }} best
  where
    best : IsBest p (2 ^ open_bytes p) (record { first = 0; run = 0 })
    best = record {
      within = omega arith;
      none_lower = λ m l b q. absurd (omega arith);
      is_one = e;
      run_there = one-le-pow (open_bytes p) 2 (omega arith);
      none_before = λ m l. absurd (omega arith);
    }

sixteen_open_first : (rest : List (List ℕ)) × (witnesses (problem 1 sixteen_open.words) ≡ (0 ∷ (replicate 16 0 ++ (1 ∷ []))) ∷ rest)
unfolding header_words problem_by problem values next_values meets_constraints formula run judge_bytes run_bytes
sixteen_open_first = first_of_all (problem 1 sixteen_open.words) (proper_if_well_formed 1 sixteen_open.words sixteen_open_formed) refl

pub sixteen_open_meets : Meets sixteen_open (Ok 18) (0 ∷ (replicate 16 0 ++ (1 ∷ [])))
unfolding header_words inputs_limit latches_limit gates_limit nodes_limit bound_limit constraints_limit search_limit problem_by problem find_witness room_after_finding
sixteen_open_meets = record { answered = rw sixteen_open_first.1; room_after = rw sixteen_open_first.1 }

-- The fixed reset counted, so that 17 are open.
pub fixed_reset_refused_breaks : (after : List ℕ) → Breaks sixteen_open (Err (TooMuchOpen 17)) after
fixed_reset_refused_breaks after = other_answer_breaks sixteen_open_meets (λ e. let z : ◌≡◌ {A = ℕ} 0 1 = cc in omega arith)

-- ════════ The problem's check ════════

-- T with a reset of 3, at word 6: 0 1 0 1 0, 3 3, 0 2 0
abbrev pub t_bad : Input
t_bad = over (0 ∷ 1 ∷ 0 ∷ 1 ∷ 0 ∷ 3 ∷ 3 ∷ 0 ∷ 2 ∷ 0 ∷ []) 2

pub t_bad_meets : Meets t_bad (Err (Problem (BadReset 6))) (7 ∷ 7 ∷ [])
unfolding laid_down room_left
t_bad_meets = record { answered = refl; room_after = refl }

-- T, told as version 9
abbrev pub t_other_version : Input
t_other_version = record { version = 9; words = t_words; room = [] }

pub t_other_version_meets : Meets t_other_version (Err (Problem BadVersion)) []
unfolding laid_down room_left
t_other_version_meets = record { answered = refl; room_after = refl }

module _ (r : Result ℕ NotFound) (after : List ℕ) where
  -- The problem is not checked.
  pub bad_problem_searched_breaks : ¬ (r ≡ Err (Problem (BadReset 6))) → Breaks t_bad r after
  bad_problem_searched_breaks = other_answer_breaks t_bad_meets

  -- The room is written before the problem is checked.
  pub written_at_bad_problem_breaks : ¬ (after ≡ 7 ∷ 7 ∷ []) → Breaks t_bad r after
  written_at_bad_problem_breaks = other_room_breaks t_bad_meets

  -- The version is not checked.
  pub takes_any_version_breaks : ¬ (r ≡ Err (Problem BadVersion)) → Breaks t_other_version r after
  takes_any_version_breaks = other_answer_breaks t_other_version_meets

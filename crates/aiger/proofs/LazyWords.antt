-- Writers that are lazy, write other lines or spoil the room break the promise: for each words, what meets the promise there, and what they give.
-- Assumes nothing.
use mathlib.Core.Path.{◌≡◌, refl}
use mathlib.Core.List.{List, [], ◌∷◌, ◌++◌}
use Prim.Native.Nat.{ℕ}
use native.Mathlib.Omega.{arith}
use lib.ListN.{get_or, replicate}
use Rattle.answers.specs.Answers.{Answer}
use Rattle.text.specs.Numbers.{bytes_of, decimal}
use Rattle.answers.specs.Limits.{inputs_limit, latches_limit, gates_limit, outputs_limit}
use Rattle.problem.specs.declared.Refusal.TheVariants.{BadReset, BadLiteral}
use Rattle.std.specs.Prelude.{Result, Ok, Err}
use Rattle.aiger.specs.declared.NotDone.{NotDone}
use Rattle.aiger.specs.declared.NotDone.TheVariants.{Circuit, RoomTooSmall}
use Rattle.aiger.specs.Texts.{circuit_text}
use Rattle.aiger.specs.Calls.{write_answer, room_after_writing}
use Rattle.aiger.specs.Cases.{sample, sample_text}
use Rattle.aiger.proofs.Lazy.{Call, Breaks, writing, other_number, other_place, other_word}

-- ════════ What the promise gives ════════

-- A room of so many bytes, each 7.
abbrev into : ℕ → List ℕ → Call
into n ws = writing ws (replicate n 7)

-- The answer that document 02 lays down, and the room after an answer.
unfoldable pub laid_down : List ℕ → ℕ → Answer
unfolding decimal inputs_limit latches_limit gates_limit outputs_limit circuit_text write_answer
laid_down ws room = write_answer ws room

unfoldable pub room_left : Answer → List ℕ → List ℕ → List ℕ
unfolding decimal circuit_text room_after_writing
room_left a ws room = room_after_writing a ws room

-- ════════ Lazy answers ════════

abbrev pub whole : Call
whole = into 30 sample

pub whole_meets : whole.Meets (Ok 30) sample_text
unfolding laid_down room_left
whole_meets = record { answered = refl; room_after = refl }

-- A circuit of nothing.
abbrev pub empty : Call
empty = into 30 (0 ∷ 0 ∷ 0 ∷ 0 ∷ [])

pub empty_meets : empty.Meets (Ok 14) (bytes_of "aag 0 0 0 0 0\n" ++ replicate 16 7)
unfolding laid_down room_left
empty_meets = record { answered = refl; room_after = refl }

module _ (r : Result ℕ NotDone) where
  -- 0 is answered, and the room stays.
  pub nothing_written_breaks : Breaks whole r (replicate 30 7)
  nothing_written_breaks = other_word whole whole_meets 0 (λ e. omega arith)

  -- The text of the sample, whatever the words say.
  pub always_the_sample_breaks : Breaks empty r sample_text
  always_the_sample_breaks = other_word empty empty_meets 4 (λ e. omega arith)

-- The place at 0 is the bytes written.
pub bytes_not_counted_breaks : (after : List ℕ) → Breaks whole (Ok 0) after
bytes_not_counted_breaks after = other_place whole whole_meets (λ e. omega arith)

-- ════════ The lines ════════

module _ (r : Result ℕ NotDone) where
  -- The output before the latch, and the gate before the output, as the words have them.
  pub outputs_written_first_breaks : Breaks whole r (bytes_of "aag 3 1 1 1 1\n2\n6\n4 2 4\n6 2 4\n")
  outputs_written_first_breaks = other_word whole whole_meets 16 (λ e. omega arith)

  pub gates_before_outputs_breaks : Breaks whole r (bytes_of "aag 3 1 1 1 1\n2\n4 2 4\n6 2 4\n6\n")
  gates_before_outputs_breaks = other_word whole whole_meets 23 (λ e. omega arith)

  -- The reset 2 as it stands in the words.
  pub reset_2_written_breaks : Breaks whole r (bytes_of "aag 3 1 1 1 1\n2\n4 2 2\n6\n6 2 4\n")
  reset_2_written_breaks = other_word whole whole_meets 20 (λ e. omega arith)

-- A latch that starts at 0: the reset is left out.
abbrev pub from_0 : Call
from_0 = into 20 (0 ∷ 1 ∷ 0 ∷ 0 ∷ 3 ∷ 0 ∷ [])

pub from_0_meets : from_0.Meets (Ok 18) (bytes_of "aag 1 0 1 0 0\n2 3\n" ++ (7 ∷ 7 ∷ []))
unfolding laid_down room_left
from_0_meets = record { answered = refl; room_after = refl }

pub reset_0_written_breaks : (r : Result ℕ NotDone) → Breaks from_0 r (bytes_of "aag 1 0 1 0 0\n2 3 0\n")
reset_0_written_breaks r = other_word from_0 from_0_meets 17 (λ e. omega arith)

-- ════════ The room ════════

-- A byte of room too few.
abbrev pub narrow : Call
narrow = into 29 sample

pub narrow_meets : narrow.Meets (Err (RoomTooSmall 30)) (replicate 29 7)
unfolding laid_down room_left
narrow_meets = record { answered = refl; room_after = refl }

-- What there is room for, or its beginning, is written before 27.
pub written_at_27_breaks : (r : Result ℕ NotDone) (after : List ℕ) → get_or after 0 0 ≡ 97 → Breaks narrow r after
written_at_27_breaks r after k = other_word narrow narrow_meets 0 (λ e. omega arith)

-- The bytes that lack instead of those that are needed.
pub missing_bytes_breaks : (after : List ℕ) → Breaks narrow (Err (RoomTooSmall 1)) after
missing_bytes_breaks after = other_place narrow narrow_meets (λ e. omega arith)

-- ════════ Bad words ════════

-- A latch's reset is 3, and there is no room.
abbrev pub reset_3 : Call
reset_3 = into 0 (0 ∷ 1 ∷ 0 ∷ 0 ∷ 3 ∷ 3 ∷ [])

pub reset_3_meets : reset_3.Meets (Err (Circuit (BadReset 5))) []
unfolding laid_down room_left
reset_3_meets = record { answered = refl; room_after = refl }

-- An output is 2W + 2.
abbrev pub output_2 : Call
output_2 = into 30 (0 ∷ 0 ∷ 0 ∷ 1 ∷ 2 ∷ [])

pub output_2_meets : output_2.Meets (Err (Circuit (BadLiteral 4))) (replicate 30 7)
unfolding laid_down room_left
output_2_meets = record { answered = refl; room_after = refl }

module _ (after : List ℕ) where
  -- 27 before 3, and 4 for 3.
  pub room_before_words_breaks : (n : ℕ) → Breaks reset_3 (Err (RoomTooSmall n)) after
  room_before_words_breaks n = other_number reset_3 reset_3_meets (λ e. omega arith)

  pub reset_with_4_breaks : (i : ℕ) → Breaks reset_3 (Err (Circuit (BadLiteral i))) after
  reset_with_4_breaks i = other_number reset_3 reset_3_meets (λ e. omega arith)

  -- The outputs are not checked.
  pub output_passed_breaks : (n : ℕ) → Breaks output_2 (Ok n) after
  output_passed_breaks n = other_number output_2 output_2_meets (λ e. omega arith)

-- Readers that are lazy, judge in another order or spoil the room break the promise: for each a text, what meets the promise there, and what they give.
-- Assumes nothing.
use mathlib.Core.Path.{◌≡◌, refl, ◌∙◌, ap}
use mathlib.Core.List.{List, [], ◌∷◌, ◌++◌}
use Prim.Native.Nat.{ℕ, ◌+◌, ◌-◌, ◌≤◌}
use native.Mathlib.Omega.{arith}
use lib.ListN.{length, get_or, replicate, length-append, length-replicate}
use Rattle.answers.specs.Answers.{Answer}
use Rattle.text.specs.Numbers.{bytes_of, decimal, is_number}
use Rattle.answers.specs.Limits.{largest_number, longest_text, inputs_limit, latches_limit, gates_limit, outputs_limit}
use Rattle.std.specs.Prelude.{Result, Ok, Err}
use Rattle.aiger.specs.declared.NotDone.{NotDone}
use Rattle.aiger.specs.declared.NotDone.TheVariants.{BadText, RoomTooSmall}
use Rattle.aiger.specs.Texts.{circuit_read}
use Rattle.aiger.specs.Calls.{read_answer, room_after_reading}
use Rattle.aiger.specs.Cases.{sample, sample_text}
use Rattle.aiger.specs.Reads.{FoundWords}
use Rattle.aiger.proofs.ReadLaws.{answer_long, answer_done}
use Rattle.aiger.proofs.Lazy.{Call, Breaks, reading, other_outcome, other_number, other_place, other_word}

-- ════════ What the promise gives ════════

-- A room of so many words, each 7.
abbrev into : ℕ → List ℕ → Call
into n text = reading text (replicate n 7)

-- The answer that document 02 lays down, and the room after an answer.
unfoldable pub laid_down : List ℕ → ℕ → Answer
unfolding is_number decimal largest_number longest_text inputs_limit latches_limit gates_limit outputs_limit circuit_read read_answer
laid_down text room = read_answer text room

unfoldable pub room_left : Answer → List ℕ → List ℕ → List ℕ
unfolding is_number decimal largest_number inputs_limit latches_limit gates_limit outputs_limit circuit_read room_after_reading
room_left a text room = room_after_reading a text room

-- ════════ Lazy answers ════════

-- The sample, with a word of room to spare.
abbrev pub whole : Call
whole = into 10 sample_text

pub whole_meets : whole.Meets (Ok 9) (sample ++ (7 ∷ []))
unfolding laid_down room_left
whole_meets = record { answered = refl; room_after = refl }

-- No text.
abbrev pub nothing : Call
nothing = into 10 []

pub nothing_meets : nothing.Meets (Err (BadText 0)) (replicate 10 7)
unfolding laid_down room_left
nothing_meets = record { answered = refl; room_after = refl }

module _ (after : List ℕ) where
  -- 19, whatever the text says.
  pub says_19_always_breaks : (p : ℕ) → Breaks whole (Err (BadText p)) after
  says_19_always_breaks p = other_number whole whole_meets (λ e. omega arith)

  -- 0, whatever the text says.
  pub says_0_always_breaks : (n : ℕ) → Breaks nothing (Ok n) after
  says_0_always_breaks n = other_number nothing nothing_meets (λ e. omega arith)

  -- The place at 0 is the words written.
  pub words_not_counted_breaks : Breaks whole (Ok 0) after
  words_not_counted_breaks = other_place whole whole_meets (λ e. omega arith)

module _ (r : Result ℕ NotDone) where
  -- 0 is answered, and the room stays.
  pub words_not_written_breaks : Breaks whole r (replicate 10 7)
  words_not_written_breaks = other_word whole whole_meets 0 (λ e. omega arith)

  -- Word 9 is past the circuit's.
  pub written_past_breaks : (after : List ℕ) → ¬ (get_or after 9 0 ≡ 7) → Breaks whole r after
  written_past_breaks after = other_word whole whole_meets 9

  -- ════════ The words ════════

  -- The free latch's reset, word 5, is 2: not its own literal, 4, nor 0.
  pub own_literal_kept_breaks : (after : List ℕ) → get_or after 5 0 ≡ 4 → Breaks whole r after
  own_literal_kept_breaks after k = other_word whole whole_meets 5 (λ e. omega arith)

  pub free_read_as_0_breaks : (after : List ℕ) → get_or after 5 0 ≡ 0 → Breaks whole r after
  free_read_as_0_breaks after k = other_word whole whole_meets 5 (λ e. omega arith)

  -- The output before the gate, as the text has them.
  pub outputs_before_gates_breaks : Breaks whole r (1 ∷ 1 ∷ 1 ∷ 1 ∷ 2 ∷ 2 ∷ 6 ∷ 2 ∷ 4 ∷ 7 ∷ [])
  outputs_before_gates_breaks = other_word whole whole_meets 6 (λ e. omega arith)

-- One output and no gate: the words are I, L, A, O.
abbrev pub one_output : Call
one_output = into 5 (bytes_of "aag 0 0 0 1 0\n1\n")

pub one_output_meets : one_output.Meets (Ok 5) (0 ∷ 0 ∷ 0 ∷ 1 ∷ 1 ∷ [])
unfolding laid_down room_left
one_output_meets = record { answered = refl; room_after = refl }

-- The sizes as the header has them.
pub sizes_not_turned_breaks : (r : Result ℕ NotDone) → Breaks one_output r (0 ∷ 0 ∷ 1 ∷ 0 ∷ 1 ∷ [])
sizes_not_turned_breaks r = other_word one_output one_output_meets 2 (λ e. omega arith)

-- ════════ Leading zeros ════════

abbrev pub zero_in_header : Call
zero_in_header = into 10 (bytes_of "aag 01 1 0 0 0\n2\n")

pub zero_in_header_meets : zero_in_header.Meets (Err (BadText 4)) (replicate 10 7)
unfolding laid_down room_left
zero_in_header_meets = record { answered = refl; room_after = refl }

abbrev pub zero_in_line : Call
zero_in_line = into 10 (bytes_of "aag 1 1 0 0 0\n02\n")

pub zero_in_line_meets : zero_in_line.Meets (Err (BadText 14)) (replicate 10 7)
unfolding laid_down room_left
zero_in_line_meets = record { answered = refl; room_after = refl }

module _ (after : List ℕ) where
  pub zero_in_header_read_breaks : Breaks zero_in_header (Ok 4) after
  zero_in_header_read_breaks = other_number zero_in_header zero_in_header_meets (λ e. omega arith)

  pub zero_in_line_read_breaks : Breaks zero_in_line (Ok 4) after
  zero_in_line_read_breaks = other_number zero_in_line zero_in_line_meets (λ e. omega arith)

  -- A place that is made up: that of the line before, or of the digit after the zero.
  pub made_up_place_breaks : (p : ℕ) → ¬ (p ≡ 14) → Breaks zero_in_line (Err (BadText p)) after
  made_up_place_breaks p = other_place zero_in_line zero_in_line_meets

-- ════════ The order of lines ════════

-- The output's line before the latch's.
abbrev pub output_first : Call
output_first = into 10 (bytes_of "aag 3 1 1 1 1\n2\n6\n4 2 4\n6 2 4\n")

pub output_first_meets : output_first.Meets (Err (BadText 16)) (replicate 10 7)
unfolding laid_down room_left
output_first_meets = record { answered = refl; room_after = refl }

pub outputs_read_first_breaks : (after : List ℕ) (r : Result ℕ NotDone) → ¬ (r ≡ Err (BadText 16)) → Breaks output_first r after
outputs_read_first_breaks after r = other_outcome output_first output_first_meets

-- ════════ M ════════

-- I is over its limit, and M, before it, is not the sum.
abbrev pub many_inputs : Call
many_inputs = into 10 (bytes_of "aag 9999 99 0 0 0\n")

pub many_inputs_meets : many_inputs.Meets (Err (BadText 9)) (replicate 10 7)
unfolding laid_down room_left
many_inputs_meets = record { answered = refl; room_after = refl }

-- M is not the sum, and what follows A, at 13, is no newline.
abbrev pub both_wrong : Call
both_wrong = into 10 (bytes_of "aag 1 0 0 0 0 0\n")

pub both_wrong_meets : both_wrong.Meets (Err (BadText 4)) (replicate 10 7)
unfolding laid_down room_left
both_wrong_meets = record { answered = refl; room_after = refl }

-- M is not the sum, and all else is right.
abbrev pub variable_left_out : Call
variable_left_out = into 10 (bytes_of "aag 1 0 0 0 0\n")

pub variable_left_out_meets : variable_left_out.Meets (Err (BadText 4)) (replicate 10 7)
unfolding laid_down room_left
variable_left_out_meets = record { answered = refl; room_after = refl }

module _ (after : List ℕ) where
  pub variables_judged_first_breaks : Breaks many_inputs (Err (BadText 4)) after
  variables_judged_first_breaks = other_place many_inputs many_inputs_meets (λ e. omega arith)

  pub variables_judged_last_breaks : Breaks both_wrong (Err (BadText 13)) after
  variables_judged_last_breaks = other_place both_wrong both_wrong_meets (λ e. omega arith)

  pub variables_not_judged_breaks : (n : ℕ) → Breaks variable_left_out (Ok n) after
  variables_not_judged_breaks n = other_number variable_left_out variable_left_out_meets (λ e. omega arith)

-- ════════ The room ════════

-- The sample, and a word of room too few.
abbrev pub narrow : Call
narrow = into 8 sample_text

pub narrow_meets : narrow.Meets (Err (RoomTooSmall 9)) (replicate 8 7)
unfolding laid_down room_left
narrow_meets = record { answered = refl; room_after = refl }

-- A fault, and no room.
abbrev pub no_room : Call
no_room = into 0 (bytes_of "aag 1 1 0 0 0\n02\n")

pub no_room_meets : no_room.Meets (Err (BadText 14)) []
unfolding laid_down room_left
no_room_meets = record { answered = refl; room_after = refl }

-- What there is room for is written before 27.
pub written_at_27_breaks : (r : Result ℕ NotDone) → Breaks narrow r (1 ∷ 1 ∷ 1 ∷ 1 ∷ 2 ∷ 2 ∷ 2 ∷ 4 ∷ [])
written_at_27_breaks r = other_word narrow narrow_meets 0 (λ e. omega arith)

module _ (after : List ℕ) where
  -- The words that lack instead of those that are needed.
  pub missing_words_breaks : Breaks narrow (Err (RoomTooSmall 1)) after
  missing_words_breaks = other_place narrow narrow_meets (λ e. omega arith)

  -- 27 before 19.
  pub room_before_text_breaks : (n : ℕ) → Breaks no_room (Err (RoomTooSmall n)) after
  room_before_text_breaks n = other_number no_room no_room_meets (λ e. omega arith)

-- ════════ The end of the text ════════

-- A comment after the last line.
abbrev pub commented : Call
commented = into 9 (sample_text ++ bytes_of "c\nboth on\n")

pub commented_meets : commented.Meets (Ok 9) sample
unfolding laid_down room_left
commented_meets = record { answered = refl; room_after = refl }

-- The last line's newline left out.
abbrev pub not_ended : Call
not_ended = into 4 (bytes_of "aag 1 1 0 0 0\n2")

pub not_ended_meets : not_ended.Meets (Err (BadText 15)) (replicate 4 7)
unfolding laid_down room_left
not_ended_meets = record { answered = refl; room_after = refl }

module _ (after : List ℕ) where
  -- The text is read up to its end, and what follows the last line, at 30, is a fault.
  pub comment_refused_breaks : Breaks commented (Err (BadText 30)) after
  comment_refused_breaks = other_number commented commented_meets (λ e. omega arith)

  -- The text's end taken for a line's.
  pub not_ended_read_breaks : Breaks not_ended (Ok 4) after
  not_ended_read_breaks = other_number not_ended not_ended_meets (λ e. omega arith)

-- ════════ The text's length ════════

-- The sample, and so many bytes after it.
abbrev followed_by : ℕ → List ℕ
followed_by n = sample_text ++ replicate n 99

sample_found : (n : ℕ) → FoundWords (circuit_read (followed_by n)) sample
unfolding is_number decimal largest_number inputs_limit latches_limit gates_limit outputs_limit circuit_read
sample_found n = record { ended_at = 30; unread = replicate n 99; found_is = refl }

length_followed : (n : ℕ) → length (followed_by n) ≡ 30 + n
length_followed n = length-append sample_text (replicate n 99) ∙ ap (λ (k : ℕ). 30 + k) (length-replicate n 99)

room_for_more : 30 ≤ longest_text
unfolding longest_text
room_for_more = omega arith

-- As long as a text may be.
abbrev pub longest : Call
longest = into 9 (followed_by (longest_text - 30))

pub longest_meets : longest.Meets (Ok 9) sample
longest_meets =
    answer_done (followed_by (longest_text - 30)) (replicate 9 7) (sample_found (longest_text - 30))
    (omega (arith, length_followed (longest_text - 30), room_for_more)) refl (omega arith) refl

-- A byte too many.
abbrev pub too_long : ℕ → Call
too_long room = into room (followed_by (longest_text - 29))

pub too_long_meets : (room : ℕ) → (too_long room).Meets (Err (BadText longest_text)) (replicate room 7)
too_long_meets room =
    answer_long (followed_by (longest_text - 29)) (replicate room 7) (sample_found (longest_text - 29))
    (omega (arith, length_followed (longest_text - 29), room_for_more))

module _ (after : List ℕ) where
  -- A byte too few is allowed.
  pub longest_refused_breaks : (p : ℕ) → Breaks longest (Err (BadText p)) after
  longest_refused_breaks p = other_number longest longest_meets (λ e. omega arith)

  -- The length is not looked at.
  pub too_long_read_breaks : (n : ℕ) → Breaks (too_long 9) (Ok n) after
  too_long_read_breaks n = other_number (too_long 9) (too_long_meets 9) (λ e. omega arith)

  -- Another place: the length, or where the lines end.
  pub too_long_elsewhere_breaks : (p : ℕ) → ¬ (p ≡ longest_text) → Breaks (too_long 9) (Err (BadText p)) after
  too_long_elsewhere_breaks p = other_place (too_long 9) (too_long_meets 9)

  -- 27 before it.
  pub room_before_length_breaks : (n : ℕ) → Breaks (too_long 0) (Err (RoomTooSmall n)) after
  room_before_length_breaks n = other_number (too_long 0) (too_long_meets 0) (λ e. omega arith)

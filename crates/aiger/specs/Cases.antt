-- Document 02, Q-5, and its readings: worked cases, by computing. Assumes nothing.
use Rattle.std.specs.Prelude.{◌≡◌, refl, List, [], ◌∷◌, ◌++◌, ℕ}
use Rattle.answers.specs.Answers.{Answer, granted, output_room_too_small}
use Rattle.text.specs.Numbers.{bytes_of, decimal, is_number}
use Rattle.answers.specs.Limits.{largest_number, longest_text, inputs_limit, latches_limit, gates_limit, outputs_limit}
use Rattle.aiger.specs.Calls.{bad_text, read_answer}
use Rattle.aiger.specs.Texts.{circuit_text, circuit_read}

-- An input and a free latch that holds what the input said last; one output, which says that both are on.
abbrev pub sample : List ℕ
sample = 1 ∷ 1 ∷ 1 ∷ 1 ∷ 2 ∷ 2 ∷ 2 ∷ 4 ∷ 6 ∷ []

abbrev pub sample_text : List ℕ
sample_text = bytes_of "aag 3 1 1 1 1\n2\n4 2 4\n6\n6 2 4\n"

pub sample_written : circuit_text sample ≡ sample_text
unfolding circuit_text decimal
sample_written = refl

-- The answer to a text, with room for nine words.
unfoldable pub answer_to : List ℕ → Answer
unfolding read_answer circuit_read is_number decimal largest_number longest_text inputs_limit latches_limit gates_limit outputs_limit
answer_to text = read_answer text 9

-- ════════ Good texts ════════

pub sample_read : answer_to sample_text ≡ granted 9
unfolding answer_to
sample_read = refl

pub with_a_comment : answer_to (sample_text ++ bytes_of "i0 on\nc\nas it was sent") ≡ granted 9
unfolding answer_to
with_a_comment = refl

pub no_circuit : answer_to (bytes_of "aag 0 0 0 0 0\n") ≡ granted 4
unfolding answer_to
no_circuit = refl

-- Ten words are needed.
pub too_many : answer_to (bytes_of "aag 3 0 3 0 0\n2 0\n4 0 1\n6 0 0\n") ≡ output_room_too_small 10
unfolding answer_to
too_many = refl

-- ════════ Faults ════════

-- "`aag 3 99` is 19 at 6, `aag 3 1` is 19 at 7, an empty text 19 at 0, `aa` 19 at 0."
pub over_its_limit : answer_to (bytes_of "aag 3 99") ≡ bad_text 6
unfolding answer_to
over_its_limit = refl

pub cut_short : answer_to (bytes_of "aag 3 1") ≡ bad_text 7
unfolding answer_to
cut_short = refl

pub empty_text : answer_to [] ≡ bad_text 0
unfolding answer_to
empty_text = refl

pub another_word : answer_to (bytes_of "aa") ≡ bad_text 0
unfolding answer_to
another_word = refl

-- M's value after the sizes, and before what follows A.
pub size_before_variables : answer_to (bytes_of "aag 9 99 0 0 0") ≡ bad_text 6
unfolding answer_to
size_before_variables = refl

pub variables_before_the_end : answer_to (bytes_of "aag 9 1 0 0 0 0") ≡ bad_text 4
unfolding answer_to
variables_before_the_end = refl

-- A later header's field; a carriage return; two spaces; a space at a latch line's end; no last newline.
pub more_fields : answer_to (bytes_of "aag 1 1 0 0 0 1\n2\n") ≡ bad_text 13
unfolding answer_to
more_fields = refl

pub carriage_return : answer_to (bytes_of "aag 1 1 0 0 0\r\n2\r\n") ≡ bad_text 12
unfolding answer_to
carriage_return = refl

pub two_spaces : answer_to (bytes_of "aag  1 1 0 0 0\n2\n") ≡ bad_text 4
unfolding answer_to
two_spaces = refl

pub space_at_the_end : answer_to (bytes_of "aag 1 0 1 0 0\n2 0 \n") ≡ bad_text 18
unfolding answer_to
space_at_the_end = refl

pub no_last_newline : answer_to (bytes_of "aag 1 1 0 0 0\n2") ≡ bad_text 15
unfolding answer_to
no_last_newline = refl

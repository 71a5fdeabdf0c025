-- Document 02, Q-5: the whole answer of reading and of writing a circuit's text, and the room after it. Assumes nothing.
use Rattle.std.specs.Prelude.{cond, List, [], ◌∷◌, ◌++◌, ℕ, leb, eqb, length}
use Rattle.answers.specs.Lists.{written}
use Rattle.answers.specs.Answers.{Answer, Check, answer, check, first_failing, first_failing_part, granted, output_room_too_small}
use Rattle.answers.specs.Limits.{longest_text}
use Rattle.text.specs.Readings.{Reading, found, fault}
use Rattle.aiger.specs.Circuits.{circuit_parts}
use Rattle.aiger.specs.Texts.{circuit_text, circuit_read}

-- 19: AIGER text; the fault's first byte, or the length
abbrev pub bad_text : ℕ → Answer
bad_text = answer 19

-- "If the text is good but the room for words or for text is too small, that is refusal 27, place the words or bytes needed."
abbrev pub room_check : ℕ → ℕ → Check
room_check needed room = check (leb needed room) (output_room_too_small needed)

-- ════════ Read ════════

-- "A text has at most 2,147,483,647 bytes; one more is a fault at that byte": of a text whose lines are good.
abbrev pub length_check : List ℕ → Check
length_check text = check (leb (length text) longest_text) (bad_text longest_text)

abbrev pub answer_to : List ℕ → ℕ → Reading → Answer
answer_to text room (found ws p t) = first_failing (length_check text ∷ room_check (length ws) room ∷ []) (granted (length ws))
answer_to text room (fault p) = bad_text p

unfoldable pub read_answer : List ℕ → ℕ → Answer
read_answer text room = answer_to text room (circuit_read text)

abbrev pub words_found : Reading → List ℕ
words_found (found ws p t) = ws
words_found (fault p) = []

-- At yes the room holds the words and then what it held; at a refusal it is unchanged.
unfoldable pub room_after_reading : Answer → List ℕ → List ℕ → List ℕ
room_after_reading a text room = cond (eqb a.number 0) (written (words_found (circuit_read text)) room) room

-- ════════ Write ════════

unfoldable pub write_answer : List ℕ → ℕ → Answer
write_answer ws room =
    first_failing_part (circuit_parts ws ++ ((room_check (length (circuit_text ws)) room ∷ []) ∷ [])) (granted (length (circuit_text ws)))

unfoldable pub room_after_writing : Answer → List ℕ → List ℕ → List ℕ
room_after_writing a ws room = cond (eqb a.number 0) (written (circuit_text ws) room) room

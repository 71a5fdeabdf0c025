-- The text of a CNF given as flat words. Assumes nothing.
use Rattle.std.specs.Prelude.{cond, List, ◌++◌, ℕ, ◌+◌, ◌*◌, ℤ, take, Result, Ok, Err}
use Rattle.answers.specs.Lists.{each}
use Rattle.clauses.specs.CnfWords.{is_0}
use Rattle.text.specs.Numbers.{bytes_of, decimal, signed_decimal}
use Rattle.answers.specs.Limits.{program_room}
use Rattle.job_file.specs.JobFile.{header_line, refusal_line}
use Rattle.counts.specs.declared.Counts.{Counts}
use Rattle.encoder.specs.declared.NotWritten.{NotWritten}
use Rattle.encoder.specs.Promise.{not_written_answer}

-- The word 0 ends its line; after another word comes a space.
abbrev pub word_text : ℤ → List ℕ
word_text w = cond (is_0 w) (bytes_of "0\n") (signed_decimal w ++ bytes_of " ")

abbrev pub words_text : List ℤ → List ℕ
words_text ws = each ws word_text

unfoldable pub flat_text : ℕ → ℕ → List ℤ → List ℕ
flat_text v c ws = header_line v c ++ words_text ws

-- A line of two numbers, as the header's and a refusal's.
abbrev pub line_of : List ℕ → ℕ → List ℕ → ℕ → List ℕ
line_of opening first between second = opening ++ decimal first ++ between ++ decimal second ++ bytes_of "\n"

-- What is printed by the outcome of writing: the text of the CNF's numbers and of the words that were written to the room, or the refusal's line.
abbrev pub encoded_text : Result Counts NotWritten → List ℤ → List ℕ
encoded_text (Ok n) room = flat_text n.variables n.clauses (take n.words room)
encoded_text (Err e) room = refusal_line (not_written_answer e)

-- Bytes enough for every text of the program: 12 for each of its CNF words (a sign, ten digits, a space), and 28 for the header (8 of its
-- own, ten digits for each of its numbers).
unfoldable pub text_limit : ℕ
text_limit = 12 * program_room + 28

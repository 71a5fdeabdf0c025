-- Document 01, "Job file and program", with version 2 of Q-6 of document 02: the bytes of a job (15), the CNF's text, and what the program prints.
-- Assumes nothing.
use Rattle.std.specs.Prelude.{true, false, ◌&&◌, List, [], ◌∷◌, ◌++◌, map, ℕ, ◌+◌, ◌*◌, ◌-◌, ◌/◌, ◌%◌, leb, ltb, eqb, length, get_or, take, drop}
use Rattle.answers.specs.Lists.{numbers, each}
use Rattle.answers.specs.Answers.{Answer, Check, check, first_failing_part, granted, bad_job}
use Rattle.clauses.specs.Clauses.{Clause}
use Rattle.text.specs.Numbers.{bytes_of, decimal, signed_decimal}
use Rattle.answers.specs.Limits.{job_limit, program_room}
use Rattle.meaning.specs.Problem.{Problem, header_words, problem}
use Rattle.meaning.specs.Cnf.{cnf, cnf_words, variables}
use Rattle.meaning.specs.Calls.{writing_parts}

-- ════════ The job file ════════

-- "all big-endian"
abbrev pub big_endian_after : ℕ → List ℕ → ℕ
big_endian_after n [] = n
big_endian_after n (b ∷ bs) = big_endian_after (256 * n + b) bs

abbrev pub number_at : List ℕ → ℕ → ℕ
number_at bs i = big_endian_after 0 (take 4 (drop i bs))

-- "Version byte 1, a four-byte length of the rest, then the words"; "Version byte 2: .."
abbrev pub job_header : ℕ
job_header = 5

abbrev pub job_version : List ℕ → ℕ
job_version bs = get_or bs 0 0

abbrev pub job_length : List ℕ → ℕ
job_length bs = number_at bs 1

unfoldable pub job_words : List ℕ → List ℕ
job_words bs = map (λ i. number_at bs (job_header + 4 * i)) (numbers 0 ((length bs - job_header) / 4))

-- "Refusal 15: more bytes (place 16,384), under 5 (place the length), version (0), length wrong or not a multiple of 4 (1), in this
-- order."
unfoldable pub job_checks : List ℕ → List Check
job_checks bs =
    check (leb (length bs) job_limit) (bad_job job_limit)
    ∷ check (leb job_header (length bs)) (bad_job (length bs))
    ∷ check (ltb 0 (header_words (job_version bs))) (bad_job 0)
    ∷ check (eqb (job_length bs) (length bs - job_header) && eqb (job_length bs % 4) 0) (bad_job 1)
    ∷ []

-- ════════ Texts ════════

-- One clause a line, one space between words, 0 at each line's end.
abbrev pub clause_line : Clause → List ℕ
clause_line c = each c (λ w. signed_decimal w ++ bytes_of " ") ++ bytes_of "0\n"

-- `p cnf V C`
abbrev pub header_line : ℕ → ℕ → List ℕ
header_line v c = bytes_of "p cnf " ++ decimal v ++ bytes_of " " ++ decimal c ++ bytes_of "\n"

unfoldable pub cnf_text : ℕ → List Clause → List ℕ
cnf_text v cs = header_line v (length cs) ++ each cs clause_line

-- "A refusal prints its number and place, as `refused 15 at 0`, and a newline."
unfoldable pub refusal_line : Answer → List ℕ
refusal_line a = bytes_of "refused " ++ decimal a.number ++ bytes_of " at " ++ decimal a.place ++ bytes_of "\n"

-- ════════ The program ════════

-- The problem of a job.
abbrev pub job_problem : List ℕ → Problem
job_problem bs = problem (job_version bs) (job_words bs)

-- The answer to a job: 15 of its bytes, then as of writing the CNF, 15, 1 to 6, or yes.
unfoldable pub job_answer : List ℕ → Answer
job_answer bs =
    first_failing_part (job_checks bs ∷ writing_parts (job_version bs) (job_words bs) program_room) (granted (length (cnf_words (job_problem bs))))

-- What the program prints for its standard input.
unfoldable pub printed : List ℕ → List ℕ
printed bs =
    elim (eqb (job_answer bs).number 0) [
      | true ↦ cnf_text (variables (job_problem bs)) (cnf (job_problem bs))
      | false ↦ refusal_line (job_answer bs)
    ]

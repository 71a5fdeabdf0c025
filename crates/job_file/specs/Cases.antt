-- Document 01's case T as a job file, and what the program prints for it, by computing. Assumes nothing.
use Rattle.std.specs.Prelude.{List, [], ◌∷◌, ◌++◌, ◌≡◌, refl, ℕ}
use Rattle.answers.specs.Lists.{each}
use Rattle.answers.specs.Limits.{inputs_limit, latches_limit, gates_limit, nodes_limit, bound_limit, constraints_limit, job_limit, program_room}
use Rattle.meaning.specs.Problem.{header_words, problem_by, problem}
use Rattle.meaning.specs.Cnf.{variables, cnf, cnf_words}
use Rattle.meaning.specs.Cases.{t_words}
use Rattle.text.specs.Numbers.{bytes_of, decimal}
use Rattle.job_file.specs.JobFile.{job_words, job_checks, cnf_text, refusal_line, job_answer, printed}

-- "file starts 01 00 00 00 28"
abbrev pub t_file : List ℕ
t_file = 1 ∷ 0 ∷ 0 ∷ 0 ∷ 40 ∷ each t_words (λ w. 0 ∷ 0 ∷ 0 ∷ w ∷ [])

abbrev pub t_text : List ℕ
t_text =
    bytes_of "p cnf 6 12\n"
    ++ bytes_of "1 0\n"
    ++ bytes_of "-2 0\n"
    ++ bytes_of "-3 -2 -2 0\n"
    ++ bytes_of "-3 2 2 0\n"
    ++ bytes_of "-4 2 0\n"
    ++ bytes_of "4 -2 0\n"
    ++ bytes_of "-5 4 0\n"
    ++ bytes_of "5 -4 0\n"
    ++ bytes_of "-3 -6 5 0\n"
    ++ bytes_of "-3 6 -5 0\n"
    ++ bytes_of "-6 3 0\n"
    ++ bytes_of "4 0\n"

pub t_is_printed : printed t_file ≡ t_text
unfolding header_words problem_by problem cnf cnf_words variables inputs_limit latches_limit gates_limit nodes_limit bound_limit constraints_limit job_limit program_room job_words job_checks decimal cnf_text refusal_line job_answer printed
t_is_printed = refl

-- "refused 15 at 0": a file of another version.
pub other_version_is_refused : printed (9 ∷ 0 ∷ 0 ∷ 0 ∷ 0 ∷ []) ≡ bytes_of "refused 15 at 0\n"
unfolding header_words job_limit job_checks decimal refusal_line job_answer printed
other_version_is_refused = refl

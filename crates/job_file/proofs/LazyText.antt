-- Readers and printers that are lazy or make their answers up do not meet the promise: for each an input, and what it answers there.
-- Assumes nothing.
use Rattle.std.proofs.Common.{Result, Ok, Err}
use mathlib.Core.Path.{◌≡◌, refl, sym, ◌∙◌, ap}
use mathlib.Core.List.{List, [], ◌∷◌}
use Prim.Native.Nat.{ℕ, ◌^◌, ◌≤◌, ◌<◌}
use native.Mathlib.Omega.{arith}
use lib.IntN.{ℤ, pos}
use lib.ListN.{length, get_or, drop, replicate, length-append, get_or-append}
use Rattle.answers.specs.Answers.{answer, first_failing, granted, bad_job}
use Rattle.answers.proofs.Answers.{number_of, place_of}
use Rattle.clauses.specs.Clauses.{minus}
use Rattle.text.specs.Numbers.{decimal}
use Rattle.answers.specs.Limits.{inputs_limit, latches_limit, gates_limit, nodes_limit, bound_limit, constraints_limit, job_limit, program_room}
use Rattle.meaning.specs.Problem.{header_words, problem_by, problem}
use Rattle.meaning.specs.Cnf.{variables, cnf, cnf_words}
use Rattle.job_file.specs.JobFile.{job_words, job_checks, header_line, cnf_text, refusal_line, job_answer, printed}
use Rattle.job_file.specs.Cases.{t_file, t_text}
use Rattle.job_file.specs.declared.job.Job.{Job}
use Rattle.job_file.specs.Text.{words_text, flat_text}
use Rattle.job_file.specs.Promise.{words_room, JobRead, Prints}
use Rattle.job_file.proofs.Prints.{written_whole, short_without_room}
use Rattle.job_file.proofs.TextLengths.{length_header}

-- ════════ A job file read ════════

abbrev pub other_version : List ℕ
other_version = 9 ∷ 0 ∷ 0 ∷ 0 ∷ 0 ∷ []

other_version_answer : first_failing (job_checks other_version) (granted 0) ≡ bad_job 0
unfolding job_checks job_limit header_words
other_version_answer = refl

t_answer : first_failing (job_checks t_file) (granted 0) ≡ granted 0
unfolding job_checks job_limit header_words
t_answer = refl

pub made_up_place_breaks : (p : ℕ) → ¬ (p ≡ 0) → ¬ (JobRead other_version (Err p))
made_up_place_breaks p h r = h (place_of (r.answered ∙ other_version_answer))

pub other_version_read_breaks : (j : Job) → ¬ (JobRead other_version (Ok j))
other_version_read_breaks j r = let z : ◌≡◌ {A = ℕ} 0 15 = number_of (r.answered ∙ other_version_answer) in omega arith

pub refuses_all_breaks : (p : ℕ) → ¬ (JobRead t_file (Err p))
refuses_all_breaks p r = let z : ◌≡◌ {A = ℕ} 15 0 = number_of (r.answered ∙ t_answer) in omega arith

-- Case T has ten words.
pub words_left_out_breaks : (j : Job) → ¬ (j.count ≡ 10) → ¬ (JobRead t_file (Ok j))
unfolding job_words
words_left_out_breaks j h r = h r.job.counted

-- Whatever the bytes: each word of a job that is read is its number.
pub other_word_breaks : (bs : List ℕ) (j : Job) (i : ℕ) → i < length (job_words bs) → ¬ (get_or j.words i 0 ≡ get_or (job_words bs) i 0)
    → ¬ (JobRead bs (Ok j))
other_word_breaks bs j i l h r =
    let ws = job_words bs in
    h (ap (λ ns. get_or ns i 0) r.job.words ∙ get_or-append ws (drop (length ws) (replicate words_room 0)) 0 i l)

-- T's word 1, 00 00 00 01, is 1: the other way round it is 2^24. Its length, 00 00 00 28, so read would be refused.
pub little_endian_breaks : (j : Job) → get_or j.words 1 0 ≡ 2 ^ 24 → ¬ (JobRead t_file (Ok j))
unfolding job_words
little_endian_breaks j is = other_word_breaks t_file j 1 (omega arith) (λ f. let z : ◌≡◌ {A = ℕ} 16_777_216 1 = sym is ∙ f in omega arith)

-- ════════ A text ════════

pub nothing_written_breaks : (v c : ℕ) (ws : List ℤ) (out left : List ℕ) → ¬ (Prints (flat_text v c ws) out (Ok 0) left)
unfolding flat_text
nothing_written_breaks v c ws out left p =
    omega (arith, (written_whole p).0, length_header v c, length-append (header_line v c) (words_text ws))

pub short_with_room_breaks : (text out left : List ℕ) (n : ℕ) → length text ≤ length out → ¬ (Prints text out (Err n) left)
short_with_room_breaks text out left n h p = omega (arith, short_without_room p)

-- The text of case T for a CNF of no clauses.
pub always_t_breaks : (out left : List ℕ) → ¬ (Prints (flat_text 0 0 []) out (Ok (length t_text)) left)
unfolding flat_text decimal
always_t_breaks out left p = omega (arith, (written_whole p).0)

-- `refused 14 at 0` for answer 15 at 0.
pub other_number_breaks : (r : Result ℕ ℕ) → ¬ (Prints (refusal_line (answer 15 0)) (replicate 16 0) r (refusal_line (answer 14 0)))
unfolding refusal_line decimal
other_number_breaks r p = let z : ◌≡◌ {A = ℕ} 52 53 = ap (λ (bs : List ℕ). get_or bs 9 0) p.left in omega arith

-- `p cnf 12 6` for 6 variables and 12 clauses: byte 6 is the variables' 6.
pub header_turned_round_breaks : (r : Result ℕ ℕ) → ¬ (Prints (flat_text 6 12 []) (replicate 11 0) r (flat_text 12 6 []))
unfolding flat_text decimal
header_turned_round_breaks r p = let z : ◌≡◌ {A = ℕ} 49 54 = ap (λ (bs : List ℕ). get_or bs 6 0) p.left in omega arith

-- The clause (-2) after `p cnf 2 1`: byte 10 is its sign, and here anything else, as `02`, or `2`.
pub minus_left_out_breaks : (r : Result ℕ ℕ) (left : List ℕ) → ¬ (get_or left 10 0 ≡ 45) → ¬ (Prints (flat_text 2 1 (minus 2 ∷ pos 0 ∷ [])) (replicate 15 0) r left)
unfolding flat_text decimal
minus_left_out_breaks r left h p = h (ap (λ (bs : List ℕ). get_or bs 10 0) p.left)

-- ════════ A job printed ════════

-- One text for case T and for a job of another version.
pub same_for_all_breaks : (n : ℕ) (out left : List ℕ) → ¬ (Prints (printed t_file) out (Ok n) left × Prints (printed other_version) out (Ok n) left)
unfolding header_words problem_by problem cnf cnf_words variables inputs_limit latches_limit gates_limit nodes_limit bound_limit constraints_limit job_limit program_room job_words job_checks decimal cnf_text refusal_line job_answer printed
same_for_all_breaks n out left (p, q) =
    let z : length t_text ≡ 16 = sym (written_whole p).0 ∙ (written_whole q).0 in
    omega arith

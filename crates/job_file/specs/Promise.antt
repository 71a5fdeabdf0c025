-- The promises of the crate's public functions, and its results as the answers of document 01. Assumes nothing.
use Rattle.std.specs.Prelude.{◌≡◌, cond, List, map, ℕ, ◌+◌, ◌*◌, ◌/◌, min, leb, length, replicate, Result, Ok, Err}
use Rattle.answers.specs.Lists.{numbers, written}
use Rattle.answers.specs.Answers.{Answer, first_failing, granted, bad_job}
use Rattle.text.specs.Promise.{largest_size}
use Rattle.answers.specs.Limits.{job_limit}
use Rattle.job_file.specs.JobFile.{job_header, job_version, job_words, job_checks, number_at}
use Rattle.job_file.specs.declared.job.Job.{Job}

-- ════════ A job file read ════════

-- Document 01's number and place of each outcome; an error is the place of 15.
abbrev pub job_answered : {T : Type 0} → Result T ℕ → Answer
job_answered (Ok _) = granted 0
job_answered (Err p) = bad_job p

-- The first n words after the header.
abbrev pub words_from : List ℕ → ℕ → List ℕ
words_from bs n = map (λ i. number_at bs (job_header + 4 * i)) (numbers 0 n)

-- Every job that is not refused has fewer words than this.
unfoldable pub words_room : ℕ
words_room = job_limit / 4

-- The version and the words of the bytes. Past its words a job holds 0.
pub record JobOf (bs : List ℕ) (j : Job) : Type 0 where
  pub version : j.version ≡ job_version bs
  pub counted : j.count ≡ length (job_words bs)
  pub words : j.words ≡ written (job_words bs) (replicate words_room 0)

abbrev pub JobIfRead : List ℕ → Result Job ℕ → Type 0
JobIfRead bs (Ok j) = JobOf bs j
JobIfRead bs (Err p) = Unit

pub record JobRead (bs : List ℕ) (r : Result Job ℕ) : Type 0 where
  pub answered : job_answered r ≡ first_failing (job_checks bs) (granted 0)
  pub job : JobIfRead bs r

-- ════════ A text printed into a buffer ════════

-- The text of 2^60 words and more can be longer than the largest size, and is then said to need so many bytes.
abbrev pub size : List ℕ → ℕ
size text = min (length text) largest_size

-- The bytes of a text that was written, or those that it needs.
abbrev pub answered_for : List ℕ → List ℕ → Result ℕ ℕ
answered_for text out = cond (leb (length text) (length out)) (Ok (length text)) (Err (size text))

abbrev pub left_by : List ℕ → List ℕ → List ℕ
left_by text out = cond (leb (length text) (length out)) (written text out) out

-- Where the text fits it is written, and what stands past it stays; else nothing changes.
pub record Prints (text out : List ℕ) (r : Result ℕ ℕ) (out' : List ℕ) : Type 0 where
  pub answered : r ≡ answered_for text out
  pub left : out' ≡ left_by text out

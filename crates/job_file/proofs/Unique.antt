-- Each promise of the crate determines the answer, and every lent buffer. Assumes nothing.
use Rattle.std.proofs.Common.{Result, Ok, Err}
use mathlib.Core.Path.{◌≡◌, sym, ◌∙◌, ap}
use mathlib.Core.List.{List}
use Prim.Native.Nat.{ℕ}
use native.Mathlib.Omega.{arith}
use lib.ListN.{take}
use lib.Seq.{take-append_seam}
use Rattle.answers.proofs.Answers.{number_of, place_of}
use Rattle.job_file.specs.declared.job.Job.{Job}
use Rattle.job_file.specs.JobFile.{job_words}
use Rattle.job_file.specs.Promise.{JobOf, JobRead, Prints}

-- ════════ A job file read ════════

abbrev job_by : ℕ → ℕ → List ℕ → Job
job_by v n ws = record { version = v; count = n; words = ws }

same_job : (bs : List ℕ) (j k : Job) → JobOf bs j → JobOf bs k → j ≡ k
same_job bs j k p q =
    ap (λ x. job_by x j.count j.words) (p.version ∙ sym q.version)
    ∙ ap (λ x. job_by k.version x j.words) (p.counted ∙ sym q.counted)
    ∙ ap (job_by k.version k.count) (p.words ∙ sym q.words)

pub job_unique : (bs : List ℕ) (j k : Result Job ℕ) → JobRead bs j → JobRead bs k → j ≡ k
job_unique bs (Ok j) (Ok k) p q = ap Ok (same_job bs j k p.job q.job)
job_unique bs (Ok j) (Err m) p q = let z : ◌≡◌ {A = ℕ} 0 15 = number_of (p.answered ∙ sym q.answered) in absurd (omega arith)
job_unique bs (Err n) (Ok k) p q = let z : ◌≡◌ {A = ℕ} 15 0 = number_of (p.answered ∙ sym q.answered) in absurd (omega arith)
job_unique bs (Err n) (Err m) p q = ap Err (place_of (p.answered ∙ sym q.answered))

-- The words by their count are those of the job.
pub words_by_count : (bs : List ℕ) (j : Job) → JobOf bs j → take j.count j.words ≡ job_words bs
words_by_count bs j p = rw (p.counted, p.words) (take-append_seam (job_words bs) _)

-- ════════ A text printed ════════

-- Of a CNF's text and of a refusal's line.
pub printed_unique : (text out : List ℕ) {r s : Result ℕ ℕ} {p q : List ℕ} → Prints text out r p → Prints text out s q → (r ≡ s) × (p ≡ q)
printed_unique text out a b = (a.answered ∙ sym b.answered, a.left ∙ sym b.left)

-- What the program answers. Assumes nothing.
use Rattle.std.specs.Prelude.{List, [], ℕ, take, Result, Ok, Err, Option, Some, ◌≡◌}
use Rattle.std.specs.Io.KnownBytes.{Appends}
use Rattle.job_file.specs.JobFile.{printed}
use Rattle.print_cnf.specs.declared.Unanswered.{Unanswered}
use Rattle.print_cnf.specs.declared.Unanswered.TheVariants.{Unread, Unwritten}

-- By what was read of the input: the text of the job file, or no byte where a read failed.
abbrev pub answered : {E : Type 0} → Result ℕ E → List ℕ → List ℕ
answered (Ok n) input = printed (take n input)
answered (Err _) input = []

-- Where the bytes of the input are known, what is printed is said by all of them, and is all that is printed. Where it cannot be read nothing is
-- printed; of what a write that fails has printed nothing is said.
abbrev pub AnsweredWhole : Option (List ℕ) → Option (List ℕ) → Option (List ℕ) → Result Unit Unanswered → Type 0
AnsweredWhole input before after (Ok _) = (all : List ℕ) → input ≡ Some all → Appends before after (printed all)
AnsweredWhole input before after (Err Unread) = after ≡ before
AnsweredWhole input before after (Err Unwritten) = Unit

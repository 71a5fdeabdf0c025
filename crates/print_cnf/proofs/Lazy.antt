-- Programs that print nothing, too much, or something after a failed read do not meet the promise of `answer`. Assumes nothing.
use mathlib.Core.Path.{◌≡◌, refl, sym, ◌∙◌, ap}
use mathlib.Core.Bool.{Bool, true, false}
use mathlib.Core.List.{List}
use Prim.Native.Nat.{ℕ, ◌≤◌, ◌<◌}
use native.Mathlib.Omega.{arith}
use Rattle.std.specs.Prelude.{Result, Ok, Err}
use lib.Dec.{eqb}
use lib.ListN.{length, take}
use lib.Seq.{length-take-le}
use Rattle.answers.specs.Limits.{program_room}
use Rattle.job_file.specs.JobFile.{cnf_text, refusal_line, job_answer, printed}
use Rattle.job_file.specs.Cases.{t_file, t_text, t_is_printed}
use Rattle.job_file.specs.Text.{text_limit}
use Rattle.print_cnf.specs.Answered.{answered}

-- So many bytes of a buffer are not what is to be printed.
abbrev pub Breaks : {E : Type 0} → Result ℕ E → List ℕ → ℕ → List ℕ → Type 0
Breaks got input n out = ¬ ((n ≤ length out) × (take n out ≡ answered got input))

-- Whatever was read: another number of bytes.
pub other_length_breaks : {E : Type 0} (got : Result ℕ E) (input : List ℕ) (n : ℕ) (out : List ℕ) → ¬ (n ≡ length (answered got input)) → Breaks got input n out
other_length_breaks got input n out h (within, is) = h (sym (length-take-le n out within) ∙ ap length is)

-- A byte, or more, after a failed read.
pub printed_after_failure_breaks : {E : Type 0} (e : E) (input : List ℕ) (n : ℕ) (out : List ℕ) → 0 < n → Breaks (Err e) input n out
printed_after_failure_breaks e input n out some = other_length_breaks (Err e) input n out (λ same. omega arith)

-- No byte of a job: its text and its refusal's line have one at least.
some_byte : (bs : List ℕ) → 0 < length (printed bs)
unfolding printed cnf_text refusal_line
some_byte bs = go (eqb (job_answer bs).number 0) refl
  where
    go : (b : Bool) → eqb (job_answer bs).number 0 ≡ b → 0 < length (printed bs)
    go true e = rw (e, length) (omega arith)
    go false e = rw (e, length) (omega arith)

pub nothing_printed_breaks : (E : Type 0) (n : ℕ) (input out : List ℕ) → Breaks {E = E} (Ok n) input 0 out
nothing_printed_breaks E n input out = other_length_breaks {E = E} (Ok n) input 0 out (λ e. omega (arith, some_byte (take n input)))

-- The whole buffer for case T.
pub whole_room_printed_breaks : (E : Type 0) (out : List ℕ) → Breaks {E = E} (Ok (length t_file)) t_file text_limit out
unfolding text_limit program_room
whole_room_printed_breaks E out =
    other_length_breaks {E = E} (Ok (length t_file)) t_file text_limit out
    (λ e. let z : text_limit ≡ length t_text = e ∙ ap length t_is_printed in omega arith)

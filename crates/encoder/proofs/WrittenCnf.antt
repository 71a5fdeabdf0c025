-- What writing means: the CNF is written exactly where the words are well formed and the room has its words. Assumes nothing.
use mathlib.Core.Path.{◌≡◌, refl, sym, ◌∙◌, ap}
use mathlib.Core.Bool.{true}
use mathlib.Core.List.{List}
use Prim.Native.Nat.{ℕ, ◌≤◌}
use borrow.Author.Tests.{leb-true, le-leb}
use lib.IntN.{ℤ}
use lib.Dec.{leb}
use lib.ListN.{length}
use Rattle.std.specs.Prelude.{Result, Ok, Err}
use Rattle.answers.specs.Lists.{written}
use Rattle.answers.specs.Answers.{granted}
use Rattle.answers.proofs.Tests.{first_true}
use Rattle.answers.proofs.Answers.{number_of, all_pass_if_granted}
use Rattle.meaning.specs.Problem.{Problem, problem}
use Rattle.meaning.specs.Cnf.{cnf_words}
use Rattle.meaning.specs.Calls.{WellFormed, room_checks, write_cnf, room_after_writing}
use Rattle.meaning.proofs.Check.{checked_if_well_formed, well_formed_if_checked}
use Rattle.meaning.proofs.Calls.{write_cnf_is}
use Rattle.counts.specs.declared.Counts.{Counts}
use Rattle.counts.specs.Promise.{counts_of}
use Rattle.encoder.specs.declared.NotWritten.{NotWritten}
use Rattle.encoder.specs.declared.NotWritten.TheVariants as not-written
use Rattle.encoder.specs.Promise.{EncodedAs, answer_of, not_written_answer}
use Rattle.encoder.specs.Writing.{RoomAnswered}
use Rattle.problem.proofs.Unique.{refusal_not_yes}
use native.Mathlib.Omega.{arith}
use Rattle.encoder.proofs.Unique.{encoded_unique}

module _ (version : ℕ) (ws : List ℕ) (before : List ℤ) where
  granted_if_room : WellFormed version ws → length (cnf_words (problem version ws)) ≤ length before
      → write_cnf version ws (length before) ≡ granted (length (cnf_words (problem version ws)))
  granted_if_room w fits =
      write_cnf_is version ws (length before)
      ∙ checked_if_well_formed version ws _ w
      ∙ rw (le-leb (length (cnf_words (problem version ws))) (length before) fits)

  room_if_granted : {n : ℕ} → write_cnf version ws (length before) ≡ granted n
      → WellFormed version ws × (length (cnf_words (problem version ws)) ≤ length before)
  room_if_granted e =
      let checked = sym (write_cnf_is version ws (length before)) ∙ e in
      let w = well_formed_if_checked version ws _ (number_of checked) in
      let passes = all_pass_if_granted (room_checks (problem version ws) (length before)) _ refl (sym (checked_if_well_formed version ws _ w) ∙ checked) in
      (w, leb-true _ _ (first_true (leb (length (cnf_words (problem version ws))) (length before)) true passes))

  module _ {r : Result Counts NotWritten} {after : List ℤ} (written_as : EncodedAs version ws before r after) where
    pub cnf_written : WellFormed version ws → length (cnf_words (problem version ws)) ≤ length before
        → (r ≡ Ok (counts_of (problem version ws))) × (after ≡ written (cnf_words (problem version ws)) before)
    unfolding room_after_writing
    cnf_written w fits =
        encoded_unique version ws before r (Ok _) after _ written_as
        (record { answered = sym (granted_if_room w fits); room_after = refl; numbered = refl })

    pub written_only : {n : Counts} → r ≡ Ok n → WellFormed version ws × (length (cnf_words (problem version ws)) ≤ length before)
    written_only e = room_if_granted (sym written_as.answered ∙ ap answer_of e)

refused_not_yes : (e : NotWritten) → (not_written_answer e).number ≡ 0 → ⊥
refused_not_yes (not-written.Problem f) e = refusal_not_yes f e
refused_not_yes (not-written.RoomTooSmall n) e = absurd (omega (arith, e))

-- Of a good problem the CNF is written where there is room.
pub problem_written : {p : Problem} {before after : List ℤ} (r : Result Counts NotWritten) → RoomAnswered p before r after → length (cnf_words p) ≤ length before
    → (r ≡ Ok (counts_of p)) × (after ≡ written (cnf_words p) before)
problem_written (Ok n) said fits = (ap Ok said.numbered, said.room_after)
problem_written {p} {before} (Err e) said fits =
    let long = le-leb (length (cnf_words p)) (length before) fits in
    absurd (refused_not_yes e (number_of (rw long at said.answered)))

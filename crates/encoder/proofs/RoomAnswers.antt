-- What writing answers: the check's refusal, or what the room's length asks for, with the room after it. Assumes nothing.
use mathlib.Core.Path.{◌≡◌, refl, sym, ◌∙◌, ap}
use mathlib.Core.List.{List}
use Prim.Native.Nat.{ℕ, ◌<◌, ◌≤◌}
use native.Mathlib.Nat.{zero-add}
use borrow.Author.Tests.{le-leb, lt-leb, ne_eqb}
use lib.IntN.{ℤ}
use lib.ListN.{length}
use Rattle.std.specs.Prelude.{Result, Ok, Err}
use Rattle.answers.specs.Answers.{granted, room_too_small}
use Rattle.clauses.specs.CnfWords.{words_of}
use Rattle.meaning.specs.Problem as problems
use Rattle.meaning.specs.Cnf.{cnf, cnf_words}
use Rattle.meaning.specs.Calls.{WellFormed, check_problem, room_after_writing}
use Rattle.meaning.proofs.Check.{checked_if_well_formed}
use Rattle.meaning.proofs.Calls.{write_cnf_is}
use Rattle.counts.specs.declared.Counts.{Counts}
use Rattle.counts.specs.Promise.{counts_of}
use Rattle.problem.specs.declared.Refusal.{Refusal}
use Rattle.problem.specs.Promise.{refusal_answer}
use Rattle.problem.proofs.Unique.{refusal_not_yes}
use Rattle.problem.proofs.Formed.{refused_whatever}
use Rattle.encoder.specs.declared.NotWritten.{NotWritten}
use Rattle.encoder.specs.declared.NotWritten.TheVariants.{Problem, RoomTooSmall}
use Rattle.encoder.specs.Promise.{EncodedAs}
use Rattle.encoder.specs.Writing.{Room, Wrote, RoomAnswered}

-- ════════ The check ════════

module _ {version : ℕ} {ws : List ℕ} where
  pub encoded_if_good : {p : problems.Problem} → WellFormed version ws × (p ≡ problems.problem version ws)
      → {before after : List ℤ} {r : Result Counts NotWritten} → RoomAnswered p before r after → EncodedAs version ws before r after
  unfolding room_after_writing
  encoded_if_good good {before} a =
      let answer = rw good.1 at a in
      record {
        answered = answer.answered ∙ sym (write_cnf_is version ws (length before) ∙ checked_if_well_formed version ws _ good.0);
        room_after = answer.room_after;
        numbered = answer.numbered;
      }

  pub encoded_if_refused : {f : Refusal} → refusal_answer f ≡ check_problem version ws → (before : List ℤ) → EncodedAs version ws before (Err (Problem f)) before
  unfolding room_after_writing
  encoded_if_refused {f} refused before = record {
    answered = refused_whatever version ws f _ refused ∙ sym (write_cnf_is version ws (length before));
    room_after = rw (ne_eqb (refusal_answer f).number 0 (refusal_not_yes f));
    numbered = tt;
  }

-- ════════ The room ════════

module _ (p : problems.Problem) {before : List ℤ} where
  pub room_suffices : {n : ℕ} → n ≡ length (cnf_words p) → n ≤ length before → Room 0 (cnf p) before
  unfolding cnf_words
  room_suffices e h = record { fits = rw (zero-add, ← e) h }

  pub too_small : {n : ℕ} → n ≡ length (cnf_words p) → length before < n → RoomAnswered p before (Err (RoomTooSmall n)) before
  too_small e h = record {
    answered = rw (lt-leb (length (cnf_words p)) (length before) (rw e at h)) (ap room_too_small e);
    room_after = refl;
    numbered = tt;
  }

  -- The numbers of the problem are those of what was written.
  pub all_written : {n : Counts} → n ≡ counts_of p → {after : List ℤ} {r : ℕ} → Wrote 0 (words_of (cnf p)) before after r → RoomAnswered p before (Ok n) after
  unfolding cnf_words
  all_written counted w = record {
    answered = rw (le-leb (length (words_of (cnf p))) (length before) (rw zero-add at w.fits)) (ap (λ (c : Counts). granted c.words) counted);
    room_after = w.holds ∙ rw zero-add;
    numbered = counted;
  }

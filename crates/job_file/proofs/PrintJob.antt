-- What is printed for a job, by the answer to its bytes and to its words, for `print_job`. Assumes nothing.
use Rattle.std.proofs.Common.{Ok, Err}
use mathlib.Core.Path.{◌≡◌, refl, sym, ◌∙◌, ap}
use mathlib.Core.Bool.{Bool, true, false, cond}
use mathlib.Core.List.{List}
use Prim.Native.Nat.{ℕ}
use native.Mathlib.Omega.{arith}
use borrow.Author.Tests.{eq-eqb, ne_eqb}
use lib.Dec.{eqb}
use lib.IntN.{ℤ, pos}
use lib.ListN.{take, replicate, length-replicate}
use Rattle.answers.specs.Answers.{Answer, first_failing, granted, bad_job}
use Rattle.answers.proofs.Answers.{first_failing_passed, all_pass_if_granted, refused_anyway, number_of}
use Rattle.answers.specs.Limits.{program_room}
use Rattle.meaning.specs.Problem.{problem}
use Rattle.meaning.specs.Cnf.{cnf, variables}
use Rattle.meaning.specs.Calls.{write_cnf}
use Rattle.job_file.specs.JobFile.{job_words, job_checks, job_answer, job_problem, cnf_text, refusal_line, printed}
use Rattle.meaning.proofs.Check.{proper_if_well_formed}
use Rattle.job_file.proofs.JobOrder.{job_answer_is}
use Rattle.problem.proofs.Unique.{refusal_not_yes}
use Rattle.std.specs.Prelude.{Result, Ok, Err}
use Rattle.counts.specs.declared.Counts.{Counts}
use Rattle.encoder.specs.declared.NotWritten.{NotWritten}
use Rattle.encoder.specs.declared.NotWritten.TheVariants.{Problem, RoomTooSmall}
use Rattle.encoder.specs.Promise.{answer_of, EncodedAs}
use Rattle.job_file.specs.declared.job.Job.{Job}
use Rattle.job_file.specs.Text.{flat_text, encoded_text}
use Rattle.job_file.specs.Promise.{JobRead}
use Rattle.job_file.proofs.JobChecks.{job_checks_refusing}
use Rattle.job_file.proofs.FlatText.{text_of_cnf}
use Rattle.job_file.proofs.Unique.{words_by_count}
use Rattle.job_file.proofs.WriteCnf.{well_if_written, cnf_there}

module _ (bs : List ℕ) where
  -- ════════ The text by the answer ════════

  text_by_test : (b : Bool) → eqb (job_answer bs).number 0 ≡ b
      → printed bs ≡ cond b (cnf_text (variables (job_problem bs)) (cnf (job_problem bs))) (refusal_line (job_answer bs))
  unfolding printed
  text_by_test true e = rw (printed, e)
  text_by_test false e = rw (printed, e)

  pub text_if_refused : {a : Answer} → (a.number ≡ 0 → ⊥) → a ≡ job_answer bs → printed bs ≡ refusal_line a
  text_if_refused n e = text_by_test false (ne_eqb _ 0 (λ z. n (number_of e ∙ z))) ∙ ap refusal_line (sym e)

  pub text_if_yes : (job_answer bs).number ≡ 0 → printed bs ≡ cnf_text (variables (job_problem bs)) (cnf (job_problem bs))
  text_if_yes e = text_by_test true (eq-eqb _ 0 e)

  -- A refusal of the bytes is the job's.
  pub text_if_bad : {a : Answer} → (a.number ≡ 0 → ⊥) → a ≡ first_failing (job_checks bs) (granted 0) → printed bs ≡ refusal_line a
  text_if_bad n e = text_if_refused n (refused_anyway (job_checks bs) (granted 0) _ e (λ z. n (number_of z)) ∙ sym (job_answer_is bs))

  -- ════════ A job that was read ════════

  -- The place of 15.
  pub text_if_bad_job : {p : ℕ} → JobRead bs (Err p) → refusal_line (bad_job p) ≡ printed bs
  text_if_bad_job read = sym (text_if_bad (λ z. omega arith) read.answered)

  module _ (j : Job) (read : JobRead bs (Ok j)) where
    abbrev words : List ℕ
    words = take j.count j.words

    words_are : words ≡ job_words bs
    words_are = words_by_count bs j read.job

    answer_is : write_cnf j.version words program_room ≡ job_answer bs
    answer_is =
        rw (read.job.version, words_are)
        (sym
        (job_answer_is bs
        ∙ first_failing_passed (job_checks bs) _ (all_pass_if_granted (job_checks bs) (granted 0) (job_checks_refusing bs) (sym read.answered))))

    abbrev Encodes : Result Counts NotWritten → List ℤ → Type 0
    Encodes = EncodedAs j.version words (replicate program_room (pos 0))

    answered : {r : Result Counts NotWritten} {after : List ℤ} → Encodes r after → answer_of r ≡ job_answer bs
    answered e = rw length-replicate at e.answered ∙ answer_is

    -- The numbers that writing handed on head the words that it wrote.
    text_if_written : {n : Counts} {after : List ℤ} → Encodes (Ok n) after → flat_text n.variables n.clauses (take n.words after) ≡ printed bs
    text_if_written e =
        let well = well_if_written j.version words program_room (number_of (answer_is ∙ sym (answered e))) in
        let variables_are = ap (λ (c : Counts). c.variables) e.numbered in
        let clauses_are = ap (λ (c : Counts). c.clauses) e.numbered in
        rw (variables_are, clauses_are, cnf_there j.version words e refl)
        (text_of_cnf (problem j.version words) (proper_if_well_formed j.version words well)
        ∙ rw (read.job.version, words_are) (sym (text_if_yes (number_of (sym (answered e))))))

    pub text_if_encoded : {r : Result Counts NotWritten} {after : List ℤ} → Encodes r after → encoded_text r after ≡ printed bs
    text_if_encoded {r} {after} e = go r e
      where
        go : (r : Result Counts NotWritten) → Encodes r after → encoded_text r after ≡ printed bs
        go (Ok n) e = text_if_written e
        go (Err (Problem f)) e = sym (text_if_refused (refusal_not_yes f) (answered e))
        go (Err (RoomTooSmall n)) e = sym (text_if_refused (λ z. omega arith) (answered e))

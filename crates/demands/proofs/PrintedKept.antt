-- What the program prints of every file whose version byte is not 2 is what it printed before constraints: of version 1 the same text, and of any other byte
-- the same refusal. Assumes nothing.
use mathlib.Core.Path.{◌≡◌, refl, sym, ◌∙◌, ap}
use mathlib.Core.Bool.{Bool, true, false, cond}
use mathlib.Core.List.{List}
use Prim.Native.Nat.{ℕ}
use borrow.Author.Tests.{eqb-true, eqb-false, ne_eqb}
use lib.Dec.{eqb, ltb, lit<}
use Rattle.std.specs.Prelude.{Result}
use Rattle.answers.specs.Lists.{all_of}
use Rattle.answers.specs.Answers.{Answer, Check, first_failing}
use Rattle.answers.specs.Limits.{program_room}
use Rattle.answers.proofs.Tests.{not_both, false_if_not_true}
use Rattle.answers.proofs.Answers.{passing, all_pass_if_yes}
use Rattle.clauses.specs.Clauses.{Clause}
use Rattle.meaning.specs.Problem.{header_words, problem}
use Rattle.meaning.specs.Cnf.{variables, cnf}
use Rattle.meaning.specs.Calls.{write_cnf}
use Rattle.meaning.proofs.Check.{first_failing_refused, passes_at}
use Rattle.job_file.specs.JobFile.{job_version, job_words, job_problem, job_checks, job_answer, cnf_text, refusal_line, printed}
use Rattle.job_file.specs.Promise.{Prints}
use Rattle.job_file.proofs.JobOrder.{job_answer_is}
use Rattle.job_file.proofs.PrintJob.{text_if_refused}
use Rattle.demands.specs.VersionOne.{write_cnf_in_01, job_checks_in_01, job_answer_in_01, printed_in_01}
use Rattle.demands.proofs.VersionOneKept.{problem_in_version_1, cnf_in_version_1, writing_in_version_1}

-- Of the versions but 2, 1 alone is known.
known_as_before : (version : ℕ) → (version ≡ 2 → ⊥) → ltb 0 (header_words version) ≡ eqb version 1
unfolding header_words
known_as_before version not_2 = rw (ne_eqb version 2 not_2) (by_test (eqb version 1))
  where
    by_test : (is_1 : Bool) → ltb 0 (cond is_1 5 0) ≡ is_1
    by_test true = refl
    by_test false = refl

-- What is printed at an answer, of so many variables and clauses.
abbrev print_by : Answer → ℕ → List Clause → List ℕ
print_by a v cs =
    elim (eqb a.number 0) [
      | true ↦ cnf_text v cs
      | false ↦ refusal_line a
    ]

module _ (bs : List ℕ) (not_2 : job_version bs ≡ 2 → ⊥) where
  -- So 15 is asked as it was.
  checks_kept : job_checks bs ≡ job_checks_in_01 bs
  unfolding job_checks job_checks_in_01
  checks_kept = rw (known_as_before (job_version bs) not_2)

  -- Of version 1 the answer is kept, and the text by it.
  module _ (is_1 : job_version bs ≡ 1) where
    answer_in_version_1 : job_answer bs ≡ job_answer_in_01 bs
    unfolding job_answer_in_01 write_cnf_in_01
    answer_in_version_1 =
        job_answer_is bs
        ∙ ap (λ (version : ℕ). first_failing (job_checks bs) (write_cnf version (job_words bs) program_room)) is_1
        ∙ ap (first_failing (job_checks bs)) (writing_in_version_1 (job_words bs) program_room)
        ∙ ap (λ (cs : List Check). first_failing cs (write_cnf_in_01 (job_words bs) program_room)) checks_kept

    problem_is : job_problem bs ≡ problem 1 (job_words bs)
    problem_is = ap (λ (version : ℕ). problem version (job_words bs)) is_1

    text_kept : printed bs ≡ printed_in_01 bs
    unfolding printed printed_in_01
    text_kept i =
        print_by
        (answer_in_version_1 i)
        (variables ((problem_is ∙ problem_in_version_1 (job_words bs)) i))
        ((ap cnf problem_is ∙ cnf_in_version_1 (job_words bs)) i)

  -- A version byte that is neither 1 nor 2: 15 answered before the words were looked at, and does.
  module _ (not_1 : job_version bs ≡ 1 → ⊥) where
    one_fails : all_of passing (job_checks_in_01 bs) ≡ false
    unfolding job_checks_in_01
    one_fails = false_if_not_true (all_of passing (job_checks_in_01 bs)) (λ all. not_1 (eqb-true _ 1 (passes_at (job_checks_in_01 bs) 2 all (lit< tt))))

    answer_kept : job_answer bs ≡ job_answer_in_01 bs
    unfolding job_answer_in_01 write_cnf_in_01
    answer_kept =
        job_answer_is bs
        ∙ ap (λ (cs : List Check). first_failing cs (write_cnf (job_version bs) (job_words bs) program_room)) checks_kept
        ∙ first_failing_refused (job_checks_in_01 bs) _ (write_cnf_in_01 (job_words bs) program_room) one_fails

    refused_before : (job_answer_in_01 bs).number ≡ 0 → ⊥
    unfolding job_answer_in_01 write_cnf_in_01 job_checks_in_01
    refused_before e = not_both (all_pass_if_yes (job_checks_in_01 bs) (write_cnf_in_01 (job_words bs) program_room) refl e) one_fails

    line_before : printed_in_01 bs ≡ refusal_line (job_answer_in_01 bs)
    unfolding printed_in_01
    line_before = rw (printed_in_01, ne_eqb _ 0 refused_before)

    refusal_kept : printed bs ≡ printed_in_01 bs
    refusal_kept = text_if_refused bs refused_before (sym answer_kept) ∙ sym line_before

  pub printed_kept : printed bs ≡ printed_in_01 bs
  printed_kept = by_version (eqb (job_version bs) 1) refl
    where
      by_version : (is_1 : Bool) → eqb (job_version bs) 1 ≡ is_1 → printed bs ≡ printed_in_01 bs
      by_version true e = text_kept (eqb-true _ 1 e)
      by_version false e = refusal_kept (eqb-false _ 1 e)

  pub print_kept : {out : List ℕ} {r : Result ℕ ℕ} {out' : List ℕ} → Prints (printed bs) out r out' → Prints (printed_in_01 bs) out r out'
  print_kept = rw printed_kept (λ c. c)

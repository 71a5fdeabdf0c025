-- One byte more than a job file may have is as good as all of them. Assumes nothing.
use Rattle.std.proofs.Common.{◌≡◌, ◌<◌, ◌≤◌, ℕ, ◌+◌, List, [], ◌++◌, length, take, Option, None, Some, refl, sym, ap, ◌∙◌, arith, length-append, append-nil, true, false, leb, ltb, eqb, Bool, Result, Ok, Err}
use Rattle.std.specs.Io.KnownBytes.{Consumes, IsAtEnd, Appends}
use lib.Seq.{length-take-le}
use Rattle.answers.specs.Answers.{Answer, bad_job}
use Rattle.answers.specs.Limits.{job_limit}
use Rattle.reading.specs.Filled.{Filled}
use Rattle.reading.specs.Known.{AllGiven}
use Rattle.print_cnf.specs.Answered.{answered}
use Rattle.job_file.specs.JobFile.{job_answer, job_checks, printed, refusal_line}

longer : (n m : ℕ) → n < m → leb m n ≡ false
longer n m h = grind (arith)

too_long : (bs : List ℕ) → job_limit < length bs → job_answer bs ≡ bad_job job_limit
unfolding job_answer job_checks
too_long bs h = let e = longer job_limit (length bs) h in rw e

refused_too_long : (bs : List ℕ) → job_limit < length bs → printed bs ≡ refusal_line (bad_job job_limit)
unfolding printed
refused_too_long bs h =
    let other : eqb (job_answer bs).number 0 ≡ false = ap (λ (a : Answer). eqb a.number 0) (too_long bs h) in
    rw (other, printed) (ap refusal_line (too_long bs h))

-- What was read is printed as all would be: it is all, or there is too much of either.
pub printed_as_all : (all : List ℕ) (after : Option (List ℕ)) (n : ℕ) (buf : List ℕ)
    → Consumes (Some all) after (take n buf) → (n < length buf → IsAtEnd after) → n ≤ length buf → length buf ≡ job_limit + 1
    → printed (take n buf) ≡ printed all
printed_as_all all None n buf c e within room = absurd c
printed_as_all all (Some ys) n buf c e within room = by_room (ltb n (length buf)) refl
  where
    by_room : (b : Bool) → ltb n (length buf) ≡ b → printed (take n buf) ≡ printed all
    by_room true t =
        let less : n < length buf = grind (arith) in
        let none : ys ≡ [] = e less in
        sym (ap printed (c ∙ ap (λ (r : List ℕ). take n buf ++ r) none ∙ append-nil (take n buf)))
    by_room false f =
        let full : length buf ≤ n = grind (arith) in
        let long : length (take n buf) ≡ n = length-take-le n buf within in
        let longer_still : length all ≡ length (take n buf) + length ys = ap length c ∙ length-append (take n buf) ys in
        refused_too_long (take n buf) (omega arith) ∙ sym (refused_too_long all (omega arith))

-- What was written for what was read is what is printed for all of the input.
pub whole_printed : {E : Type 0} (input left before after : Option (List ℕ)) (first buf text : List ℕ) (got : Result ℕ E)
    → Filled first got buf → AllGiven input left got buf → length buf ≡ job_limit + 1 → ((e : E) → ¬ (got ≡ Err e)) → text ≡ answered got buf
    → Appends before after text → (all : List ℕ) → input ≡ Some all → Appends before after (printed all)
whole_printed input left before after first buf text (Ok n) filled given room read is wrote all e =
    let same = printed_as_all all left n buf (rw e at given.0) given.1 filled.0 room in
    rw (← same, ← is) wrote
whole_printed input left before after first buf text (Err x) filled given room read is wrote all e = absurd (read x refl)

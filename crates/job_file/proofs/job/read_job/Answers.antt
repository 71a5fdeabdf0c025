use Rattle.std.proofs.Common.{◌≡◌, ◌-◌, ◌/◌, ◌≤◌, ℕ, length, arith, sym, ap, ◌∙◌, take, drop, ◌++◌, replicate}
use Rattle.std.proofs.Math.Seq.{length-take-le}
use Rattle.std.proofs.Math.ListN.{length-replicate}
use Rattle.answers.specs.Limits.{job_limit}
use Rattle.job_file.specs.JobFile.{job_words}
use Rattle.job_file.specs.Promise.{words_room, words_from}
use Rattle.job_file.proofs.ReadWords.{length_words}
use Rattle.job_file.proofs.job.read_job.Goals as goal

room : (n : ℕ) → n ≤ 4096 → n ≤ length {A = ℕ} (replicate 4096 0)
room n h = omega (arith, length-replicate {A = ℕ} 4096 0)

pub slice_bounds-words-end : goal.slice_bounds-words-end
unfolding job_limit
slice_bounds-words-end c = omega (arith, c.in_ok-checked.ensures.good)

pub slice_bounds-read_words-end : goal.slice_bounds-read_words-end
unfolding job_limit
slice_bounds-read_words-end c =
    sym (length-take-le ((length c.args.bytes.now - 5) / 4) (replicate 4096 0) (room _ (omega (arith, c.in_ok-checked.ensures.good))))

pub returns : goal.returns
unfolding job_limit words_room job_words
returns c =
    let bs = c.args.bytes.now in
    let n : ℕ = (length bs - 5) / 4 in
    let count : length (take n (replicate 4096 0)) ≡ n = length-take-le n (replicate 4096 0) (room n (omega (arith, c.in_ok-checked.ensures.good))) in
    let read : c.read_words.new.out ≡ words_from bs n = c.read_words.ensures ∙ ap (words_from bs) count in
    record {
      answered = c.in_ok-checked.ensures.answered;
      job = record {
        version = c.from.ensures;
        counted = sym (length_words bs n);
        words = rw read (ap (λ k. words_from bs n ++ drop k (replicate 4096 0)) (sym (length_words bs n)));
      };
    }

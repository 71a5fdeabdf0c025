use Rattle.std.proofs.Common.{◌≡◌, take}
use Rattle.job_file.specs.Promise.{words_from}
use Rattle.job_file.proofs.job.read_words.Given as goal

abbrev pub invariant-loop-i : goal.invariant-loop-i
invariant-loop-i l = take l.i l.out ≡ words_from l.bytes l.i

-- The size of the text of the words so far.
use Rattle.std.proofs.Common.{◌≡◌, take}
use Rattle.job_file.specs.Text.{words_text}
use Rattle.job_file.specs.Promise.{size}
use Rattle.job_file.proofs.texts.words_size.Given as goal

abbrev pub invariant-loop-w : goal.invariant-loop-w
invariant-loop-w l = l.bytes ≡ size (words_text (take l.w-index l.cnf))

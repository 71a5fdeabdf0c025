-- The text of the words so far is put.
use Rattle.std.proofs.Common.{take}
use Rattle.text.proofs.Buffers.{Put}
use Rattle.job_file.specs.Text.{words_text}
use Rattle.job_file.proofs.texts.put_words.Given as goal

abbrev pub invariant-loop-w : goal.invariant-loop-w
invariant-loop-w l = Put (words_text (take l.w-index l.cnf)) l.at l.initial.out l.next l.out

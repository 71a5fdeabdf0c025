use Rattle.std.proofs.Common.{sym, ◌∙◌, arith}
use Rattle.std.proofs.lemmas.List.{take_more_set}
use Rattle.job_file.proofs.ReadWords.{words_more}
use Rattle.job_file.proofs.job.read_words.Goals as goal

pub loop-i-preserved : goal.loop-i-preserved
loop-i-preserved c =
    let l = c.loop-i in
    take_more_set l.out l.i c.number.result (omega arith) ∙ rw (l.invariant, c.number.ensures) (sym (words_more c.args.bytes.now l.i))

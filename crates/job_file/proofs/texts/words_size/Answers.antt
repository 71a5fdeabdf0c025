use Rattle.std.proofs.Common.{◌∙◌, pos, get_or, rules}
use mir.Syntax.{w32}
use mir.Val.{SFits}
use Rattle.clauses.proofs.Signs.{word_is}
use Rattle.job_file.proofs.WordsText.{size_more}
use Rattle.job_file.proofs.texts.words_size.Goals as goal

pub loop-w-preserved : goal.loop-w-preserved
loop-w-preserved c =
    let l = c.loop-w in
    let cnf = c.args.cnf.now in
    let fits : SFits w32 (get_or cnf l.w-index (pos 0)) = search rules in
    c.sum-bytes.ensures
    ∙ size_more cnf l.w-index c.loop-w-test.true l.bytes c.word_size.result l.invariant (rw (word_is (get_or cnf l.w-index (pos 0)) fits) at c.word_size.ensures)

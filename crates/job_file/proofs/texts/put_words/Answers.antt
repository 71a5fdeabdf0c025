use Rattle.std.proofs.Common.{pos, get_or, rules}
use mir.Syntax.{w32}
use mir.Val.{SFits}
use Rattle.clauses.proofs.Signs.{word_is}
use Rattle.job_file.proofs.WordsText.{room_for_word, put_next_word}
use Rattle.job_file.proofs.texts.put_words.Goals as goal

pub put_word-next-requires : goal.put_word-next-requires
put_word-next-requires c =
    let l = c.loop-w in
    let cnf = c.args.cnf.now in
    let fits : SFits w32 (get_or cnf l.w-index (pos 0)) = search rules in
    rw (word_is (get_or cnf l.w-index (pos 0)) fits) (room_for_word cnf l.w-index c.loop-w-test.true c.requires l.invariant)

pub loop-w-preserved : goal.loop-w-preserved
loop-w-preserved c =
    let l = c.loop-w in
    let cnf = c.args.cnf.now in
    let fits : SFits w32 (get_or cnf l.w-index (pos 0)) = search rules in
    put_next_word cnf l.w-index c.loop-w-test.true c.requires l.invariant (rw (word_is (get_or cnf l.w-index (pos 0)) fits) at c.put_word-next.ensures)

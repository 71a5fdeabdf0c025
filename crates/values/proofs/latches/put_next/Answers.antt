-- Each turn puts one next value. Assumes nothing.
use Rattle.std.proofs.Common.{◌≡◌, ◌<◌, length, get_or, false, sym, ◌∙◌, ap, arith}
use Rattle.std.proofs.lemmas.List.{take_more, take_more_set}
use Rattle.pairing.proofs.Rows.{next_by_row}
use Rattle.meaning.specs.Runs.{literal_value}
use Rattle.problem.specs.Promise.{problem_in}
use Rattle.problem.proofs.Outlines.{shows}
use Rattle.values.specs.Tables.{next_in}
use Rattle.values.proofs.RowLaws.{length_next_in}
use Rattle.values.proofs.latches.put_next.Goals as goal

pub loop-i-preserved : goal.loop-i-preserved
loop-i-preserved c =
    let l = c.loop-i in
    let i = l.i in
    let p = problem_in c.args.s c.args.words.now in
    let z = shows c.args.s c.args.words.now in
    let within : i < length p.latches = omega arith in
    let there : i < length (next_in p c.args.row.now) = rw length_next_in within in
    let is : c.literal.result ≡ get_or (next_in p c.args.row.now) i false =
    c.literal.ensures ∙ ap (literal_value c.args.row.now) c.next_literal.ensures ∙ sym (next_by_row p c.args.row.now i within) in
    take_more_set l.room i c.literal.result (omega arith) ∙ rw (l.invariant, is) (sym (take_more _ i false there))

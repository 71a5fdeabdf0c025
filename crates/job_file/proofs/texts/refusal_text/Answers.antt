use Rattle.std.proofs.Common.{◌≤◌, length, arith}
use Rattle.answers.specs.Table.{row_of}
use Rattle.job_file.specs.JobFile.{refusal_line}
use Rattle.job_file.proofs.Prints.{prints_bytes}
use Rattle.job_file.proofs.texts.refusal_text.Goals as goal

pub put_line-requires : goal.put_line-requires
unfolding refusal_line
put_line-requires c = omega (arith, c.refusal_size-needed.ensures, c.if-out-needed.false)

pub returns : goal.returns
unfolding refusal_line
returns c =
    let fits : length (refusal_line (row_of c.args.a)) ≤ length c.args.out.now = omega (arith, c.refusal_size-needed.ensures, c.if-out-needed.false) in
    prints_bytes fits c.put_line.ensures

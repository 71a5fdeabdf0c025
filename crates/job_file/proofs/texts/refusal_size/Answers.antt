use Rattle.std.proofs.Common.{arith}
use Rattle.job_file.proofs.TextLengths.{length_refusal}
use Rattle.job_file.proofs.texts.refusal_size.Goals as goal

pub returns : goal.returns
returns c = omega (arith, length_refusal c.args.a.number c.args.a.place)

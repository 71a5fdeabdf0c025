-- What was read is all of the input, or there is too much of either; its text is what was written.
use Rattle.std.proofs.Common.{◌≡◌, ◌+◌, length, arith}
use Rattle.answers.specs.Limits.{job_limit}
use Rattle.print_cnf.proofs.WholeInput.{whole_printed}
use Rattle.print_cnf.proofs.run.Goals as goal

pub returns-in-Ok : goal.returns-in-Ok
unfolding job_limit
returns-in-Ok g c =
    let room : length c.read_all-got.new.buf ≡ job_limit + 1 = omega arith in
    whole_printed _ _ _ _ _ _ _ _ c.read_all-got.ensures.filled c.read_all-got.ensures.given room c.in_default.not-Err c.answer-length.ensures.1 c.in-Ok.ensures.bytes

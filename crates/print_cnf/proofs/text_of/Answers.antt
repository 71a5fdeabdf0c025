-- The room holds every text, so that no answer is short.
use Rattle.std.proofs.Common.{rules}
use Rattle.answers.specs.Limits.{program_room}
use Rattle.job_file.specs.Text.{text_limit}
use Rattle.job_file.proofs.TextRoom.{never_short}
use Rattle.print_cnf.proofs.text_of.Goals as goal

pub returns-in-Err : goal.returns-in-Err
unfolding text_limit program_room
returns-in-Err c = absurd (never_short _ (search rules) c.in-Err.ensures)

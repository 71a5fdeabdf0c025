use Rattle.std.proofs.Common.{ap, ◌∙◌}
use Rattle.answers.specs.Limits.{program_room}
use Rattle.job_file.specs.JobFile.{refusal_line}
use Rattle.job_file.proofs.Prints.{prints_as}
use Rattle.job_file.proofs.PrintJob.{text_if_bad_job, text_if_encoded}
use Rattle.job_file.proofs.WriteCnf.{within_room}
use Rattle.job_file.proofs.print.print_job.Goals as goal

pub print_encoded-requires : goal.print_encoded-requires
print_encoded-requires c = within_room _ _ c.write_cnf-encoded.ensures

pub returns-in-Err : goal.returns-in-Err
returns-in-Err c = prints_as (ap refusal_line c.new.ensures ∙ text_if_bad_job c.args.bytes.now c.in-Err.ensures) c.refusal_text.ensures

pub returns-in-Ok : goal.returns-in-Ok
unfolding program_room
returns-in-Ok c = prints_as (text_if_encoded c.args.bytes.now c.in-Ok.job c.in-Ok.ensures c.write_cnf-encoded.ensures) c.print_encoded.ensures

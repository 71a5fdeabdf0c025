use Rattle.std.proofs.Common.{arith}
use Rattle.std.proofs.lemmas.Bool.Decides.{nat_tests}
use Rattle.answers.specs.Limits.{job_limit}
use Rattle.job_file.specs.JobFile.{job_checks}
use Rattle.job_file.proofs.job.checked.Goals as goal

pub returns-then-bytes-gt-JOB_LIMIT-clause-answered : goal.returns-then-bytes-gt-JOB_LIMIT-clause-answered
unfolding job_checks job_limit
returns-then-bytes-gt-JOB_LIMIT-clause-answered c = grind (arith, nat_tests)

pub returns-then-bytes-lt-JOB_HEADER-clause-answered : goal.returns-then-bytes-lt-JOB_HEADER-clause-answered
unfolding job_checks job_limit
returns-then-bytes-lt-JOB_HEADER-clause-answered c = grind (arith, nat_tests)

pub returns-then-not-known_version-clause-answered : goal.returns-then-not-known_version-clause-answered
unfolding job_checks job_limit
returns-then-not-known_version-clause-answered c = grind (arith, nat_tests)

pub returns-then-rest-bytes-clause-answered : goal.returns-then-rest-bytes-clause-answered
unfolding job_checks job_limit
returns-then-rest-bytes-clause-answered c = grind (arith, nat_tests)

pub returns-then-rest-ne0-clause-answered : goal.returns-then-rest-ne0-clause-answered
unfolding job_checks job_limit
returns-then-rest-ne0-clause-answered c = grind (arith, nat_tests)

pub returns-clause-answered : goal.returns-clause-answered
unfolding job_checks job_limit
returns-clause-answered c = grind (arith, nat_tests)

pub returns-clause-good : goal.returns-clause-good
unfolding job_limit
returns-clause-good c = omega arith

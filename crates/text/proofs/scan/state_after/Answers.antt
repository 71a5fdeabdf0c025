use Rattle.std.proofs.Common.{arith}
use Rattle.std.proofs.lemmas.Bool.Decides.{nat_tests}
use Rattle.answers.specs.Limits.{largest_number}
use Rattle.text.specs.Promise.{state_after}
use Rattle.text.proofs.scan.state_after.Goals as goal

pub returns-then-is_ascii_digit-state : goal.returns-then-is_ascii_digit-state
unfolding state_after largest_number
returns-then-is_ascii_digit-state c = grind (arith, nat_tests)

use Rattle.std.proofs.Common.{arith}
use Rattle.text.proofs.Decimals.{length_few, length_by_power}
use Rattle.text.proofs.put.digits.Goals as goal

pub returns-then-n-lt10000-clause-is : goal.returns-then-n-lt10000-clause-is
returns-then-n-lt10000-clause-is c = omega (arith, length_few _ c.if-n-lt10000.true)

pub returns-clause-is : goal.returns-clause-is
returns-clause-is c = omega (arith, length_by_power _ _ c.ilog10.ensures.power_le c.ilog10.ensures.next_power_gt)

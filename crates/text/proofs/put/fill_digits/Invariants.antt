-- What is left of the number stands in front of the digits that are filled in.
use Rattle.std.proofs.Common.{◌≡◌, ◌++◌, drop, length}
use Rattle.text.specs.Numbers.{decimal}
use Rattle.text.proofs.put.fill_digits.Given as goal

abbrev pub invariant-loop-i : goal.invariant-loop-i
invariant-loop-i l = record {
  rest_length : length (decimal l.rest) ≡ l.i;
  rest_first : decimal l.rest ++ drop l.i l.out ≡ decimal l.n;
}

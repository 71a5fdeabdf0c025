use Rattle.std.proofs.Common.{◌≡◌, ◌++◌, ◌+◌, ◌-◌, ◌/◌, ◌%◌, ◌<◌, ◌≤◌, List, ℕ, length, set, drop, arith, append_assoc, ◌∙◌}
use Rattle.std.proofs.lemmas.List.{drop-set}
use Rattle.text.specs.Numbers.{digit, decimal}
use Rattle.text.proofs.Decimals.{decimal_one, decimal_more, length_more, some_digit, digit_if_one, large_if_more}
use Rattle.text.proofs.put.fill_digits.Goals as goal

last_digit_set : (rest i : ℕ) (out all : List ℕ) → 10 ≤ rest → i < length out → decimal rest ++ drop (i + 1) out ≡ all
    → decimal (rest / 10) ++ drop i (set out i (digit (rest % 10))) ≡ all
last_digit_set rest i out all m h e = rw drop-set (rw (decimal_more rest m, append_assoc) at e)

first_digit_set : (rest : ℕ) (out all : List ℕ) → rest < 10 → 0 < length out → decimal rest ++ drop 1 out ≡ all → set out 0 (digit rest) ≡ all
first_digit_set rest out all l h e = drop-set out 0 (digit rest) h ∙ (rw (decimal_one rest l) at e)

pub loop-i-preserved : goal.loop-i-preserved
loop-i-preserved c =
    let l = c.loop-i in
    let more : 10 ≤ l.rest = large_if_more l.rest (omega arith) in
    let from : l.i ≡ l.i - 1 + 1 = omega arith in
    record {
      rest_length = omega (arith, length_more l.rest more);
      rest_first = last_digit_set l.rest (l.i - 1) l.out _ more (omega arith) (rw from at l.invariant.rest_first);
    }

pub overflow_cast-out-2 : goal.overflow_cast-out-2
overflow_cast-out-2 c = omega (arith, digit_if_one c.loop-i.rest)

pub overflow_add-out-2 : goal.overflow_add-out-2
overflow_add-out-2 c = omega (arith, digit_if_one c.loop-i.rest)

pub bounds-out-0 : goal.bounds-out-0
bounds-out-0 c = omega (arith, some_digit c.args.n)

pub returns : goal.returns
returns c =
    let l = c.loop-i in
    let one : l.i ≡ 1 = omega (arith, some_digit l.rest) in
    first_digit_set l.rest l.out _ (digit_if_one l.rest (omega arith)) (omega (arith, some_digit c.args.n)) (rw one at l.invariant.rest_first)

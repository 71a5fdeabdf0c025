use Rattle.std.proofs.Common.{◌≡◌, [], ◌∷◌, ◌++◌, ◌+◌, ◌-◌, ◌<◌, length, arith}
use borrow.Rule.Slice.PartMut.{put_mid}
use Rattle.std.proofs.Math.ListN.{length-append}
use Rattle.text.specs.Numbers.{decimal}
use Rattle.text.proofs.Buffers.{Put, put_closed, puts_there}
use Rattle.text.proofs.put.put_ended.Goals as goal

pub returns-then-next-out : goal.returns-then-next-out
returns-then-next-out c =
    let a = c.args in
    let out = a.out.now in
    let longer = length-append (decimal a.n) (a.byte ∷ []) in
    let gap : c.sum-end.result - a.at ≡ length (decimal a.n) = omega arith in
    let fits : a.at + length (decimal a.n) < length out = omega arith in
    let put : Put (decimal a.n) a.at out c.sum-end.result (put_mid a.at (c.sum-end.result - a.at) out c.fill_digits.new.out) = record { after = omega arith; held = rw (c.fill_digits.ensures, gap) } in
    puts_there (decimal a.n ++ (a.byte ∷ [])) a.at out (omega arith) (omega arith) (put_closed fits put a.byte).held

-- The next literal, and a reset that is not 0: 1, or the own literal. Assumes nothing.
use native.Mathlib.Omega.{arith}
use borrow.Author.Tests.{eq-eqb, ne_eqb}
use Rattle.aiger.proofs.LaidTexts.{nothing_laid, laid_put}
use Rattle.aiger.proofs.write.next_and_reset.Goals as goal

pub returns-then-reset-eq1 : goal.returns-then-reset-eq1
returns-then-reset-eq1 c =
    let none = nothing_laid {at = c.args.at} {o = c.args.out.now} (omega arith) (omega arith) in
    let put = laid_put none c.put_ended-parted.auto.out c.put_ended-parted.ensures in
    rw (ne_eqb c.args.reset 0 c.if-reset-eq0.false, eq-eqb c.args.reset 1 c.if-reset-eq1.true)
    (laid_put put c.put_ended-then-reset-eq1.auto.out c.put_ended-then-reset-eq1.ensures).lays

pub returns : goal.returns
returns c =
    let none = nothing_laid {at = c.args.at} {o = c.args.out.now} (omega arith) (omega arith) in
    let put = laid_put none c.put_ended-parted.auto.out c.put_ended-parted.ensures in
    rw (ne_eqb c.args.reset 0 c.if-reset-eq0.false, ne_eqb c.args.reset 1 c.if-reset-eq1.false)
    (laid_put put c.put_ended-2.auto.out c.put_ended-2.ensures).lays

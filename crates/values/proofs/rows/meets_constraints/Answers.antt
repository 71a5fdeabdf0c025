-- `all` asks each constraint by its number. Assumes nothing.
use Rattle.std.proofs.Common.{rules, refl, arith}
use borrow.Author.Tests.{tests}
use Rattle.std.proofs.lemmas.Iterator.{cases_from_all, YieldsList-from_range}
use Rattle.meaning.specs.Runs.{literal_value}
use Rattle.values.proofs.Ranges.{Passes, Fails, all_in_range}
use Rattle.values.proofs.rows.meets_constraints.Goals as goal

pub returns : goal.returns
returns c =
    let value = literal_value c.args.row.now in
    let cs = c.args.p.now.constraints in
    all_in_range value cs 1 c.all.result c.constraints.result c.constraints.ensures
    (cases_from_all _ _ _ (Passes value cs 1) (Fails value cs 1) c.all.ensures.ran
    (YieldsList-from_range 0 c.constraints.result c.constraints.result refl (omega arith))
    (λ x q k. search (rules, tests)) (λ x q k. search (rules, tests)))

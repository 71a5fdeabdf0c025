-- `find` tries the first bytes in rising order. Assumes nothing.
use Rattle.std.proofs.Common.{◌≡◌, ℕ, Bool, true, false, rules}
use borrow.Author.Tests.{tests}
use Rattle.std.proofs.lemmas.Iterator.{first_from_Range}
use Rattle.finder.specs.Search.{judged}
use Rattle.finder.proofs.ShownRuns.{lowest_of}
use Rattle.finder.proofs.first.lowest.Goals as goal

pub returns : goal.returns
returns c m shown =
    let test : ℕ → Bool = λ b. judged c.args.p.now c.args.run.now c.args.table.now b in
    lowest_of shown c.requires c.find.result
    (first_from_Range _ _ _ c.find.result (λ b. test b ≡ true) (λ b. test b ≡ false) c.find.ensures.ran
    (λ x q k. search (rules, tests)) (λ x q k. search (rules, tests)))

use Rattle.std.proofs.Common.{◌≡◌, true, suc, sym, ◌∙◌, arith}
use Rattle.std.proofs.lemmas.Bool.Decides.{nat_tests}
use Rattle.meaning.proofs.ClosedForms.{Tally}
use Rattle.counts.specs.Few.{Few}
use Rattle.counts.specs.Promise.{tally_of, few}
use Rattle.counts.proofs.total.counts.Goals as goal

few_told : (t : Tally) → few t ≡ true → Few t
few_told t e = grind (arith, nat_tests)

pub variables_in-requires : goal.variables_in-requires
variables_in-requires c = few_told (tally_of c.args.t) (sym c.is_few.ensures ∙ c.if-is_few.true)

pub total_in-requires : goal.total_in-requires
total_in-requires c = (few_told (tally_of c.args.t) (sym c.is_few.ensures ∙ c.if-is_few.true), omega arith)

pub total_in-requires-then-is_few : goal.total_in-requires-then-is_few
total_in-requires-then-is_few c = (few_told (tally_of c.args.t) (sym c.is_few.ensures ∙ c.if-is_few.true), omega arith)

pub returns-then-is_few : goal.returns-then-is_few
returns-then-is_few c =
    let passed : few (tally_of c.args.t) ≡ true = sym c.is_few.ensures ∙ c.if-is_few.true in
    let clauses = c.total_in.ensures (λ n. 1) (λ n. omega arith) in
    let words = c.total_in-then-is_few.ensures suc (λ n. omega arith) in
    rw (passed, c.variables_in.ensures, clauses, words)

-- `all` asks each node by its number. Assumes nothing.
use Rattle.std.proofs.Common.{ℕ, Bool, rules, refl, ◌∙◌, ap, arith}
use Rattle.std.proofs.lemmas.Iterator.{YieldsList-from_range}
use Rattle.std.proofs.lemmas.Iterator.Search.{all_from_yields_List}
use Rattle.answers.specs.Lists.{numbers, all_of}
use Rattle.meaning.specs.Problem.{node}
use Rattle.values.specs.Values.{earlier}
use Rattle.values.proofs.Fits.{all_in_range}
use Rattle.values.proofs.nodes.all_earlier.Goals as goal

pub returns : goal.returns
returns c =
    let test : ℕ → Bool = λ n. earlier n (node c.args.p.now n) in
    all_from_yields_List test _ _ c.all.result c.all.ensures.ran (YieldsList-from_range 0 c.nodes.result c.nodes.result refl (omega arith))
    (λ x b q k. search rules)
    ∙ all_in_range test 0 c.nodes.result
    ∙ ap (λ n. all_of test (numbers 0 n)) c.nodes.ensures

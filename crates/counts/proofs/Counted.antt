-- What is counted in a proper problem is few, and its closed forms are the numbers of its CNF. Assumes nothing.
use mathlib.Core.Path.{◌≡◌}
use mathlib.Core.Bool.{true}
use Prim.Native.Nat.{◌<◌}
use native.Mathlib.Omega.{arith}
use borrow.Author.Tests.{lt-ltb}
use lib.Dec.{ltb}
use Rattle.answers.proofs.Tests.{both_true, those_few}
use Rattle.answers.specs.Limits.{inputs_limit, latches_limit, gates_limit, nodes_limit, bound_limit, constraints_limit}
use Rattle.meaning.specs.Problem.{Problem, Latch}
use Rattle.meaning.specs.Proper.{Proper}
use Rattle.meaning.proofs.ClosedForms.{tally, variable_count, clause_count, word_count}
use Rattle.meaning.proofs.Counts.{forms_are_all, variable_count_is, clause_count_is, word_count_is}
use Rattle.counts.specs.Promise.{few, too_many, counts_of, counts_by}

few_if_proper : (p : Problem) → Proper p → few (tally p) ≡ true
unfolding inputs_limit latches_limit gates_limit nodes_limit bound_limit constraints_limit
few_if_proper p proper =
    let t = tally p in
    let fixed = those_few (λ (c : Latch). ltb c.reset 2) p.latches in
    let forms = forms_are_all p.nodes in
    let some : ltb 0 t.positions ≡ true = lt-ltb 0 t.positions (omega arith) in
    let positions_few : t.positions < too_many = omega (arith, proper.bound_within) in
    let width_few : t.width < too_many = omega (arith, proper.inputs_within, proper.latches_within, proper.gates_within) in
    let latches_few : t.latches < too_many = omega (arith, proper.latches_within) in
    let fixed_few : t.fixed < too_many = omega (arith, fixed, proper.latches_within) in
    let gates_few : t.gates < too_many = omega (arith, proper.gates_within) in
    let constraints_few : t.constraints < too_many = omega (arith, proper.constraints_within) in
    let equals_few : t.equals < too_many = omega (arith, forms, proper.nodes_within) in
    let ors_few : t.ors < too_many = omega (arith, forms, proper.nodes_within) in
    let untils_few : t.untils < too_many = omega (arith, forms, proper.nodes_within) in
    let to-width = both_true (both_true some (lt-ltb _ _ positions_few)) (lt-ltb _ _ width_few) in
    let to-fixed = both_true (both_true to-width (lt-ltb _ _ latches_few)) (lt-ltb _ _ fixed_few) in
    let to-constraints = both_true (both_true to-fixed (lt-ltb _ _ gates_few)) (lt-ltb _ _ constraints_few) in
    let to-equals = both_true to-constraints (lt-ltb _ _ equals_few) in
    both_true (both_true to-equals (lt-ltb _ _ ors_few)) (lt-ltb _ _ untils_few)

-- The numbers by the closed forms are those of the CNF itself.
pub closed_forms_are : (p : Problem) → Proper p → counts_by (tally p) ≡ counts_of p
unfolding variable_count clause_count word_count
closed_forms_are p proper =
    rw (few_if_proper p proper, variable_count_is p proper.nodes_some, clause_count_is p, word_count_is p)

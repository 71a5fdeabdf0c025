-- The words of a CNF are those of its items, one after the other. Assumes nothing.
use mathlib.Core.Path.{◌≡◌, ◌∙◌, ap}
use mathlib.Core.List.{◌++◌}
use Prim.Native.Nat.{◌+◌}
use native.Mathlib.Omega.{arith}
use lib.ListN.{length, length-append}
use Rattle.clauses.specs.CnfWords.{words_of}
use Rattle.meaning.specs.Problem.{Problem}
use Rattle.meaning.specs.Cnf.{truth_item, gates_item, constraints_item, resets_item, steps_item, closing_item, selectors_item, nodes_item, formula_item, cnf_items, cnf}
use Rattle.meaning.proofs.ItemByItem.{words_joined}

module _ (p : Problem) where
  pub cnf_parted : words_of (cnf p) ≡ words_of truth_item ++ (words_of (gates_item p) ++ (words_of (constraints_item p) ++ (words_of (resets_item p) ++ (words_of (steps_item p) ++ (words_of (closing_item p) ++ (words_of (selectors_item p) ++ (words_of (nodes_item p) ++ words_of (formula_item p))))))))
  unfolding cnf
  cnf_parted = words_joined (cnf_items p)

  pub cnf_length : length (words_of (cnf p)) ≡ 2 + length (words_of (gates_item p)) + length (words_of (constraints_item p)) + length (words_of (resets_item p)) + length (words_of (steps_item p)) + length (words_of (closing_item p)) + length (words_of (selectors_item p)) + length (words_of (nodes_item p)) + 2
  cnf_length = ap length cnf_parted ∙ simp length-append (omega arith)

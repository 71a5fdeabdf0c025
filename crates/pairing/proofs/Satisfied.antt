-- An assignment satisfies a problem's CNF exactly where its reading obeys the model's laws. Assumes nothing.
use mathlib.Core.Logic.{◌↔◌}
use Rattle.clauses.specs.Clauses.{Assignment, Satisfies}
use Rattle.meaning.specs.Problem.{Problem}
use Rattle.meaning.specs.Proper.{Proper}
use Rattle.meaning.specs.Cnf.{cnf}
use Rattle.meaning.proofs.ItemByItem.{◌and◌, satisfied_by_items}
use Rattle.pairing.specs.ModelLaws.{ModelLaws, reading}
use Rattle.pairing.proofs.ItemsAsLaws.{truth_item_is, gates_item_is, constraints_item_is, resets_item_is, steps_item_is, closing_item_is, selectors_item_is, formula_item_is}
use Rattle.pairing.proofs.NodeItem.{nodes_item_is}

module _ (p : Problem) (proper : Proper p) (a : Assignment) where
  laws_if_satisfied : Satisfies a (cnf p) → ModelLaws p (reading p a)
  laws_if_satisfied sat =
      let (truth, later) = (satisfied_by_items p a).0 sat in
      let (gates, later) = later in
      let (constraints, later) = later in
      let (resets, later) = later in
      let (steps, later) = later in
      let (closing, later) = later in
      let (selectors, later) = later in
      let (nodes, later) = later in
      let (formula, later) = later in
      let truth_law = (truth_item_is p a).0 truth in
      let node_laws = (nodes_item_is p a proper truth_law).0 nodes in
      record {
        truth_law = truth_law;
        gate_law = (gates_item_is p a proper).0 gates;
        constraint_law = (constraints_item_is p a proper).0 constraints;
        reset_law = (resets_item_is p a).0 resets;
        step_law = (steps_item_is p a proper).0 steps;
        closing_law = (closing_item_is p a proper).0 closing;
        single_law = (selectors_item_is p a).0 selectors;
        p_law = λ n i l. (node_laws n l).p_law i;
        q_law = λ n i l. (node_laws n l).q_law i;
        e_chosen_law = λ n m l. (node_laws n l).e_chosen_law m;
        e_closed_law = λ n l. (node_laws n l).e_closed_law;
        formula_law = (formula_item_is p a).0 formula;
      }

  satisfied_if_laws : ModelLaws p (reading p a) → Satisfies a (cnf p)
  satisfied_if_laws m =
      (satisfied_by_items p a).1 (
      (truth_item_is p a).1 m.truth_law
      and (gates_item_is p a proper).1 m.gate_law
      and (constraints_item_is p a proper).1 m.constraint_law
      and (resets_item_is p a).1 m.reset_law
      and (steps_item_is p a proper).1 m.step_law
      and (closing_item_is p a proper).1 m.closing_law
      and (selectors_item_is p a).1 m.single_law
      and (nodes_item_is p a proper m.truth_law).1 (λ n l. record {
        p_law = λ i. m.p_law n i l;
        q_law = λ i. m.q_law n i l;
        e_chosen_law = λ i. m.e_chosen_law n i l;
        e_closed_law = m.e_closed_law n l;
      })
      and (formula_item_is p a).1 m.formula_law
      and tt
      )

pub satisfied_is_laws : (p : Problem) → Proper p → (a : Assignment) → Satisfies a (cnf p) ↔ ModelLaws p (reading p a)
satisfied_is_laws p proper a = (laws_if_satisfied p proper a, satisfied_if_laws p proper a)

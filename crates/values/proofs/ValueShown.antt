-- Over the table of a run the value is the bounded meaning of the formula: nodes and rows fit, and the literals of atoms have their values in the
-- table. Assumes nothing.
use Rattle.std.proofs.Common.{◌≡◌, ℕ, ◌+◌, ◌≤◌, Bool, List, sym, refl, ◌∙◌, arith}
use Rattle.meaning.specs.Problem.{Problem}
use Rattle.meaning.specs.Proper.{Proper}
use Rattle.meaning.specs.Formulas.{formula}
use Rattle.meaning.specs.LassoValue.{bounded_value}
use Rattle.meaning.specs.Witnesses.{position, rows, shape_of}
use Rattle.pairing.proofs.Trees.{children_earlier}
use Rattle.pairing.proofs.Gates.{values_zero_false}
use Rattle.pairing.proofs.NodeValues.{ZeroFalse, start_within}
use Rattle.pairing.proofs.SameNodes.{formula_same}
use Rattle.values.specs.Tables.{row_in, RowsRight}
use Rattle.values.specs.Nodes.{NodesFit}
use Rattle.values.specs.Values.{value_in}
use Rattle.values.proofs.RowLaws.{literal_in_row}
use Rattle.values.proofs.Fits.{nodes_fit_if, rows_fit_if, value_if_fit}

module _ {p : Problem} (proper : Proper p) {bs : List ℕ} {table : List Bool} (right : RowsRight p bs (p.bound + 1) table) where
  nodes_there : NodesFit p
  nodes_there = record {
    nodes_some = proper.nodes_some;
    nodes_within = proper.nodes_within;
    bound_within = proper.bound_within;
    children = children_earlier proper;
  }

  -- Literal 0 is variable 0.
  zero_false : ZeroFalse p.bound (row_in table)
  zero_false t h = literal_in_row right {t = t} (omega arith) 0 (omega arith) ∙ values_zero_false p (position p bs) t

  -- Of a problem that is proper, over the rows of a run.
  pub value_shown : (first : ℕ) → first ≤ p.bound + 1
      → value_in p first table ≡ bounded_value (shape_of first) p.bound (rows p bs) (formula p) 0
  value_shown first h =
      sym (value_if_fit p first table (nodes_fit_if p nodes_there) h (rows_fit_if p table right.room zero_false) refl refl)
      ∙ formula_same (children_earlier proper) proper.nodes_some (shape_of first) (start_within p first h) (row_in table) (rows p bs)
      zero_false (λ t q. values_zero_false p (position p bs) t)
      (λ n t l q x e. literal_in_row right {t = t} (omega arith) x (rw e at (proper.nodes_proper n l)))

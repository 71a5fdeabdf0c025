-- The table of values: a row for each position of a run. Assumes nothing.
use Rattle.std.specs.Prelude.{◌≡◌, ℕ, suc, ◌+◌, ◌*◌, ◌<◌, Bool, false, Option, Some, None, List, map, length, take, drop, slice_index_or}
use Rattle.answers.specs.Limits.{inputs_limit, latches_limit, gates_limit, bound_limit}
use Rattle.meaning.specs.Problem.{Problem, Latch, W}
use Rattle.meaning.specs.Runs.{literal_value}
use Rattle.meaning.specs.Bounded.{Shape, prefix, lasso}
use Rattle.meaning.specs.Witnesses.{rows}

-- ════════ The table of rows ════════

-- A row has a value for each of the variables 0..W, whatever W is.
unfoldable pub row_width : ℕ
row_width = suc (inputs_limit + latches_limit + gates_limit)

-- A table has a row for each position.
abbrev pub rows_room : ℕ
rows_room = suc bound_limit * row_width

-- The row of a position.
abbrev pub row_in : List Bool → ℕ → List Bool
row_in table t = take row_width (drop (t * row_width) table)

-- How many values of a row stand before its gates: false, the inputs, the latches.
abbrev pub given_width : Problem → ℕ
given_width p = 1 + p.inputs + length p.latches

-- Where a run's loop starts, if it has one, gives its shape.
abbrev pub shape_at : Option ℕ → Shape
shape_at None = prefix
shape_at (Some l) = lasso l

-- A node's row has a value for each position.
abbrev pub at_position : List Bool → ℕ → Bool
at_position row i = slice_index_or row i false

-- The latches' next values by a row.
abbrev pub next_in : Problem → List Bool → List Bool
next_in p row = map (λ (c : Latch). literal_value row c.next) p.latches

-- The first n rows are the values of the run's first n positions.
pub record RowsRight (p : Problem) (bs : List ℕ) (n : ℕ) (table : List Bool) : Type 0 where
  pub room : length table ≡ rows_room
  pub right : (t : ℕ) → t < n → take (W p + 1) (row_in table t) ≡ rows p bs t

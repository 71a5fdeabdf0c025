-- The table of the run that a witness shows, row by row. Assumes nothing.
use Rattle.std.specs.Prelude.{Bool, List, ◌≡◌, ℕ, ◌+◌, ◌*◌, ◌<◌, ◌≤◌, length, take}
use Rattle.meaning.specs.Problem.{Problem, W}
use Rattle.meaning.specs.Witnesses.{witness_length, byte, rows}
use Rattle.values.specs.Tables.{row_width, row_in, RowsRight}

-- The witness has its length, position t is one of its run, and the row is one of the table.
pub record RowReady (p : Problem) (bs : List ℕ) (t : ℕ) (row : List Bool) : Type 0 where
  pub long : length bs ≡ witness_length p
  pub within : t ≤ p.bound
  pub row_long : length row ≡ row_width

-- The rows of the positions before t.
pub record RowsBefore (p : Problem) (bs : List ℕ) (t : ℕ) (before : List Bool) : Type 0 where
  pub room : length before ≡ t * row_width
  pub right : (u : ℕ) → u < t → take (W p + 1) (row_in before u) ≡ rows p bs u

-- A witness whose length and first byte are right, with the table of its run.
pub record RunShown (p : Problem) (bs : List ℕ) (table : List Bool) : Type 0 where
  pub long : length bs ≡ witness_length p
  pub start_within : byte bs 0 ≤ p.bound + 1
  pub right : RowsRight p bs (p.bound + 1) table

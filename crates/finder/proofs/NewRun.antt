-- A new table of a run holds one. Assumes nothing.
use Rattle.finder.specs.declared.run.TheConstants.{GIVEN}
use Rattle.values.specs.declared.rows.TheConstants.{POSITIONS}
use mathlib.Core.Bool.{false}
use mathlib.Core.List.{[]}
use mathlib.Core.Path.{◌∙◌, ap}
use lib.ListN.{length, replicate, length-replicate, get_or-replicate}
use Rattle.finder.specs.Runs.{Held}

pub held_new : Held (replicate POSITIONS (replicate GIVEN false))
held_new = record {
  rows_there = length-replicate POSITIONS (replicate GIVEN false);
  bits_there = λ t h. ap length (get_or-replicate POSITIONS t (replicate GIVEN false) [] h) ∙ length-replicate GIVEN false;
}

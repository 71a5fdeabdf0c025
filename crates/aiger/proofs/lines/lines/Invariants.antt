-- Before each turn the lines passed are read. Assumes nothing.
use mathlib.Core.List.{map}
use Rattle.std.proofs.Common.{◌≡◌, ◌*◌, length, Ok}
use Rattle.answers.specs.Lists.{numbers}
use Rattle.text.specs.Readings.{in_turn}
use Rattle.aiger.specs.Reads.{due_of, Keeps}
use Rattle.aiger.proofs.lines.lines.Given as goal

abbrev pub invariant-loop-i : goal.invariant-loop-i
invariant-loop-i l =
    Keeps (2 * l.i) (in_turn (map (due_of l.kind l.s) (numbers 0 l.i))) l.text l.fn.before l.fn.table (Ok l.now) l.table
    × (length l.table ≡ length l.fn.table)

-- What the inner functions of writing promise: texts one after another. Assumes nothing.
use Rattle.std.specs.Prelude.{List, ◌≡◌, ℕ, ◌+◌, ◌≤◌, min, length}
use Rattle.text.specs.Promise.{largest_size, placed}
use Rattle.aiger.specs.Circuits as circuits
use Rattle.aiger.specs.Texts.{input_line, latch_line, output_line, gate_line}
use Rattle.aiger.specs.declared.sizes.Kind.{Kind}
use Rattle.aiger.specs.declared.sizes.Kind.TheVariants.{Input, Latch, Output, Gate}

abbrev pub line_of : Kind → circuits.Sizes → List ℕ → ℕ → List ℕ
line_of Input s ws i = input_line i
line_of Latch s ws i = latch_line s ws i
line_of Output s ws i = output_line s ws i
line_of Gate s ws i = gate_line s ws i

-- The place after the text; where it fits it is put.
pub record Lays (text : List ℕ) (at : ℕ) (old : List ℕ) (next : ℕ) (new : List ℕ) : Type 0 where
  pub after : next ≡ min (at + length text) largest_size
  pub held : at + length text ≤ length old → new ≡ placed text at old

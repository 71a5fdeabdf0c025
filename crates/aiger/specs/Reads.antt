-- What the inner functions of reading promise: each goes on from where the one before it came to. Assumes nothing.
use Rattle.std.specs.Prelude.{Bool, cond, List, [], ◌∷◌, map, ◌≡◌, ℕ, ◌+◌, ◌*◌, ◌≤◌, take, drop, set, Result, Ok, Err, IfOk}
use Rattle.answers.specs.Lists.{numbers}
use Rattle.text.specs.Readings.{Reading, found, fault, Reader, and_then, number}
use Rattle.answers.specs.Limits.{inputs_limit, latches_limit, gates_limit, outputs_limit}
use Rattle.aiger.specs.Circuits as circuits
use Rattle.aiger.specs.Texts.{input_due, latch_due, output_due, gate_due}
use Rattle.aiger.specs.declared.due.Reached.{Reached}
use Rattle.aiger.specs.declared.sizes.Kind.{Kind}
use Rattle.aiger.specs.declared.sizes.Kind.TheVariants.{Input, Latch, Output, Gate}

-- ════════ Sizes and kinds ════════

-- The sizes are within the limits.
pub record Fitting (s : circuits.Sizes) : Type 0 where
  pub inputs_within : s.inputs ≤ inputs_limit
  pub latches_within : s.latches ≤ latches_limit
  pub gates_within : s.gates ≤ gates_limit
  pub outputs_within : s.outputs ≤ outputs_limit

-- How many lines there are of a kind, and what is due in each.
abbrev pub count_of : Kind → circuits.Sizes → ℕ
count_of Input s = s.inputs
count_of Latch s = s.latches
count_of Output s = s.outputs
count_of Gate s = s.gates

abbrev pub due_of : Kind → circuits.Sizes → ℕ → Reader
due_of Input s = input_due
due_of Latch s = latch_due s
due_of Output s = output_due s
due_of Gate s = gate_due s

abbrev pub lines_of : Kind → circuits.Sizes → List Reader
lines_of kind s = map (due_of kind s) (numbers 0 (count_of kind s))

-- ════════ How far a text was read ════════

-- The numbers kept are the first ones of the table.
abbrev pub reached : List ℕ → Result Reached ℕ → List ℕ → Reading
reached text (Ok r) table = found (take r.filled table) r.place (drop r.place text)
reached text (Err p) table = fault p

abbrev pub at_start : Reached
at_start = record { place = 0; filled = 0 }

-- A reader went on, and kept nothing.
pub record Passes (reader : Reader) (text : List ℕ) (before : Reached) (after : Result Reached ℕ) : Type 0 where
  pub reads : (table : List ℕ) → reached text after table ≡ and_then (reached text (Ok before) table) reader
  pub filled_is : IfOk after (λ r. r.filled ≡ before.filled)

-- A reader went on, and kept so many numbers at most.
pub record Keeps (most : ℕ) (reader : Reader) (text : List ℕ) (before : Reached) (table : List ℕ) (after : Result Reached ℕ) (table' : List ℕ) : Type 0 where
  pub reads : reached text after table' ≡ and_then (reached text (Ok before) table) reader
  pub filled_within : IfOk after (λ r. r.filled ≤ before.filled + most)

-- A number that stands at a place, with where it ends: found by each test that it passes.
abbrev pub number_in : List ℕ → ℕ → Result (ℕ × ℕ) ℕ → (ℕ → Bool) → Reading
number_in text at (Ok w) right = cond (right w.0) (found (w.0 ∷ []) w.1 (drop w.1 text)) (fault at)
number_in text at (Err p) right = fault p

pub record NumberAt (text : List ℕ) (at : ℕ) (r : Result (ℕ × ℕ) ℕ) : Type 0 where
  pub reads : (right : ℕ → Bool) → number right at (drop at text) ≡ number_in text at r right

-- One number more is kept, in the table's next place.
pub record KeptAs (before : Reached) (n place : ℕ) (table : List ℕ) (after : Reached) (table' : List ℕ) : Type 0 where
  pub place_is : after.place ≡ place
  pub filled_is : after.filled ≡ before.filled + 1
  pub table_is : table' ≡ set table before.filled n

-- Something was found, and these are its words.
pub record FoundWords (r : Reading) (ws : List ℕ) : Type 0 where
  pub ended_at : ℕ
  pub unread : List ℕ
  pub found_is : r ≡ found ws ended_at unread

-- ════════ The lines judged ════════

-- How many numbers the lines keep.
abbrev pub numbers_kept : circuits.Sizes → ℕ
numbers_kept s = 2 * s.latches + s.outputs + 2 * s.gates

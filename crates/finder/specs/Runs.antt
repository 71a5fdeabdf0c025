-- The runs of a problem by their numbers, in byte order, and the tables that hold one. Assumes nothing.
use Rattle.finder.specs.declared.run.TheConstants.{GIVEN}
use Rattle.values.specs.declared.rows.TheConstants.{POSITIONS}
use Rattle.std.specs.Prelude.{Bool, true, false, List, [], ◌∷◌, ◌++◌, map, ◌≡◌, ℕ, zero, suc, ◌+◌, ◌*◌, ◌/◌, ◌%◌, ◌^◌, ◌<◌, ◌≤◌, eqb, length, get_or, replicate}
use Rattle.meaning.specs.Problem.{Problem, Latch}
use Rattle.meaning.specs.Proper.{Proper}
use Rattle.meaning.specs.Runs.{meets_constraints}
use Rattle.meaning.specs.Witnesses.{byte, position}
use Rattle.values.specs.Tables.{RowsRight}

-- ════════ The bytes of a run ════════

-- What fixes each byte after the first: a latch's reset; an input is free.
abbrev pub resets : Problem → List ℕ
resets p = map (λ (c : Latch). c.reset) p.latches

abbrev pub slots : Problem → List ℕ
slots p = resets p ++ replicate (p.inputs * (p.bound + 1)) 2

-- How many of them are free.
abbrev pub free_in : List ℕ → ℕ
free_in [] = 0
free_in (zero ∷ rs) = free_in rs
free_in (suc zero ∷ rs) = free_in rs
free_in (suc (suc r) ∷ rs) = suc (free_in rs)

-- The binary digit of a number that has so many digits below it.
abbrev pub digit : ℕ → ℕ → ℕ
digit m j = (m / 2 ^ j) % 2

-- The free ones are the digits of the run's number, the last one lowest, so that the runs in the order of their numbers are in byte order.
abbrev pub bytes_by : List ℕ → ℕ → List ℕ
bytes_by [] m = []
bytes_by (zero ∷ rs) m = 0 ∷ bytes_by rs m
bytes_by (suc zero ∷ rs) m = 1 ∷ bytes_by rs m
bytes_by (suc (suc r) ∷ rs) m = digit m (free_in rs) ∷ bytes_by rs m

unfoldable pub run_bytes : Problem → ℕ → List ℕ
run_bytes p m = bytes_by (slots p) m

-- A bit as a witness's byte.
abbrev pub byte_of : Bool → ℕ
byte_of false = 0
byte_of true = 1

-- ════════ The table of a run ════════

-- The bit at a place of a position's row: input i, or latch i behind the inputs.
abbrev pub bit : List (List Bool) → ℕ → ℕ → Bool
bit run t i = get_or (get_or run t []) i false

-- A table has a row for each position, and a row a bit for each input and then for each latch, however many there are. Behind a reference an array
-- tells a proof its own length and not that of its rows.
pub record Held (run : List (List Bool)) : Type 0 where
  pub rows_there : length run ≡ POSITIONS
  pub bits_there : (t : ℕ) → t < POSITIONS → length (get_or run t []) ≡ GIVEN

-- The inputs of every position, and the latches of the first, are those of run m.
pub record Filled (p : Problem) (m : ℕ) (run : List (List Bool)) : Type 0 where
  pub held : Held run
  pub inputs_right : (t i : ℕ) → t ≤ p.bound → i < p.inputs
      → bit run t i ≡ eqb (byte (run_bytes p m) (length p.latches + p.inputs * t + i)) 1
  pub latches_right : (i : ℕ) → i < length p.latches → bit run 0 (p.inputs + i) ≡ eqb (byte (run_bytes p m) i) 1

-- The first n positions of run m of a proper problem meet the constraints, and stand in the run's table and in that of the values.
pub record Shown (p : Problem) (m n : ℕ) (run : List (List Bool)) (table : List Bool) : Type 0 where
  pub proper : Proper p
  pub held : Held run
  pub values_right : RowsRight p (0 ∷ run_bytes p m) n table
  pub latches_right : (t i : ℕ) → t < n → i < length p.latches
      → bit run t (p.inputs + i) ≡ get_or (position p (0 ∷ run_bytes p m) t).latches i false
  pub constraints_met : (t : ℕ) → t < n → meets_constraints p (position p (0 ∷ run_bytes p m) t) ≡ true

-- A position of run m breaks a constraint.
pub record Broken (p : Problem) (m : ℕ) : Type 0 where
  pub at : ℕ
  pub within : at ≤ p.bound
  pub broken : meets_constraints p (position p (0 ∷ run_bytes p m) at) ≡ false

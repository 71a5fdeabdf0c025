-- What the search has found so far. Assumes nothing.
use Rattle.std.specs.Prelude.{Bool, true, false, ◌&&◌, Option, Some, None, List, [], ◌∷◌, ◌≡◌, ℕ, zero, suc, ◌+◌, ◌<◌, ◌≤◌, length, slice_index_or}
use Rattle.answers.specs.Lists.{numbers, all_of}
use Rattle.meaning.specs.Problem.{Problem}
use Rattle.meaning.specs.Calls.{accepted}
use Rattle.finder.specs.declared.search.Best.{Best}
use Rattle.values.specs.Tables.{row_in}
use Rattle.values.specs.Values.{closed_at, value_in}
use Rattle.finder.specs.Runs.{run_bytes}

-- The loop of a first byte, "0 for a prefix or l + 1", is closed: the next values by the last row are the latches at l.
abbrev pub closed_by : Problem → List (List Bool) → List Bool → ℕ → Bool
closed_by p run table zero = true
closed_by p run table (suc l) = all_of (closed_at p (row_in table p.bound) (slice_index_or run l []) p.inputs) (numbers 0 (length p.latches))

-- What the judge says of a run in its tables, with a first byte.
abbrev pub judged : Problem → List (List Bool) → List Bool → ℕ → Bool
judged p run table first = closed_by p run table first && value_in p first table

-- No first byte below a limit makes a run a witness.
abbrev pub NoneBelow : Problem → List ℕ → ℕ → Type 0
NoneBelow p run limit = (b : ℕ) → b < limit → accepted p (b ∷ run) ≡ false

-- It is the lowest, and below the limit.
pub record IsLowest (p : Problem) (run : List ℕ) (limit first : ℕ) : Type 0 where
  pub below : first < limit
  pub none_lower : NoneBelow p run first
  pub is_one : accepted p (first ∷ run) ≡ true

-- The lowest first byte below a limit with which a run is a witness, if there is one.
abbrev pub Lowest : Problem → List ℕ → ℕ → Option ℕ → Type 0
Lowest p run limit None = NoneBelow p run limit
Lowest p run limit (Some first) = IsLowest p run limit first

-- Of the first n runs, the lowest first byte that makes one a witness, and the first run that has it.
pub record IsBest (p : Problem) (n : ℕ) (best : Best) : Type 0 where
  pub within : best.first ≤ p.bound + 1
  pub none_lower : (m : ℕ) → m < n → NoneBelow p (run_bytes p m) best.first
  pub is_one : accepted p (best.first ∷ run_bytes p best.run) ≡ true
  pub run_there : best.run < n
  pub none_before : (m : ℕ) → m < best.run → accepted p (best.first ∷ run_bytes p m) ≡ false

-- The best of the first n runs, if there is one; a first byte is at most k + 1.
abbrev pub BestOf : Problem → ℕ → Option Best → Type 0
BestOf p n None = (m : ℕ) → m < n → NoneBelow p (run_bytes p m) (p.bound + 2)
BestOf p n (Some best) = IsBest p n best

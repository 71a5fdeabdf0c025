-- What the crate's functions promise: a word read byte by byte, and a text put into a lent buffer. Assumes nothing.
use Rattle.std.specs.Prelude.{◌≡◌, Bool, cond, not, ◌&&◌, List, ◌++◌, ℕ, suc, ◌+◌, ◌*◌, ◌-◌, ◌^◌, min, leb, ltb, eqb, length, take, drop}
use Rattle.answers.specs.Lists.{empty, written}
use Rattle.answers.specs.Limits.{largest_number}
use Rattle.text.specs.Numbers.{value, is_number}
use Rattle.text.specs.Readings.{word_of}
use Rattle.text.specs.declared.scan.Word.{Word}

-- ════════ A word, byte by byte ════════

-- The state of a word so far is one number: 0 of no byte, 1 more than the number that it is, or `no_number`.
abbrev pub no_number : ℕ
no_number = largest_number + 2

unfoldable pub scanned : List ℕ → ℕ
scanned bytes = cond (empty bytes) 0 (cond (is_number bytes) (suc (value bytes)) no_number)

abbrev pub is_digit : ℕ → Bool
is_digit b = leb 48 b && leb b 57

-- The number with one more digit.
abbrev pub longer : ℕ → ℕ → ℕ
longer state b = 10 * (state - 1) + (b - 48)

-- The state after one more byte. After 0 itself (the state 1), and after what is no number, comes no digit.
unfoldable pub state_after : ℕ → ℕ → ℕ
state_after state b =
    cond (is_digit b && not (eqb state 1) && ltb state no_number && leb (longer state b) largest_number) (suc (longer state b)) no_number

-- The word that stands at a place: its state, and where it ends.
pub record WordAt (text : List ℕ) (at : ℕ) (r : Word) : Type 0 where
  pub state_is : r.state ≡ scanned (word_of (drop at text))
  pub end_is : r.end ≡ at + length (word_of (drop at text))

-- ════════ A text in a buffer ════════

-- A text from a place on; what stands before and after it stays.
abbrev pub placed : List ℕ → ℕ → List ℕ → List ℕ
placed text at old = take at old ++ written text (drop at old)

-- The largest number of a `usize`: a place past it is said to be there.
abbrev pub largest_size : ℕ
largest_size = 2 ^ 64 - 1

-- The place after the text; where it fits it is put, else nothing changes.
pub record Puts (text : List ℕ) (at : ℕ) (old : List ℕ) (next : ℕ) (new : List ℕ) : Type 0 where
  pub after : next ≡ min (at + length text) largest_size
  pub held : new ≡ cond (leb (at + length text) (length old)) (placed text at old) old

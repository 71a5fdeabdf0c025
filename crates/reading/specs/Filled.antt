-- What a reading says of its buffer. Of the bytes that were read nothing can be said. Assumes nothing.
use Rattle.std.specs.Prelude.{ℕ, ◌+◌, ◌≤◌, ◌≡◌, List, length, drop, Result, Ok, Err}
use Rattle.std.proofs.Math.Seq.{paste}

-- No more bytes than were lent.
abbrev pub Within : {E : Type 0} → ℕ → Result ℕ E → Type 0
Within most (Ok n) = n ≤ most
Within most (Err _) = Unit

-- One read that came by way of a chunk: its bytes stand from a place on, and all others stay as they were.
abbrev pub Put : {E : Type 0} → ℕ → List ℕ → List ℕ → Result ℕ E → List ℕ → Type 0
Put at before chunk (Ok n) after = (n ≤ length chunk) × (at + n ≤ length before) × (after ≡ paste before at chunk n)
Put at before chunk (Err _) after = after ≡ before

-- The whole reading: the bytes past those that were read stay as they were.
abbrev pub Filled : {E : Type 0} → List ℕ → Result ℕ E → List ℕ → Type 0
Filled before (Ok n) after = (n ≤ length after) × (drop n after ≡ drop n before)
Filled before (Err _) after = Unit

-- What a reading says of a reader whose bytes are known, as those of a slice are; of any other it says nothing. Assumes nothing.
use Rattle.std.specs.Prelude.{ℕ, ◌<◌, ◌≡◌, List, length, take, Option, Result, Ok, Err}
use Rattle.std.specs.Io.KnownBytes.{Consumes, Keeps, IsAtEnd}

-- One read that was lent so many bytes: it has given those that it answers, and none only at the end or where none was lent.
abbrev pub Given : {E : Type 0} → Option (List ℕ) → Option (List ℕ) → Result ℕ E → ℕ → List ℕ → Type 0
Given before after (Ok n) most part = Consumes before after (take n part) × (n ≡ 0 → 0 < most → IsAtEnd after)
Given before after (Err _) most part = Keeps before after

-- The whole reading: it has given those that it answers, and fewer than fit only at the end. One that failed has lost some.
abbrev pub AllGiven : {E : Type 0} → Option (List ℕ) → Option (List ℕ) → Result ℕ E → List ℕ → Type 0
AllGiven before after (Ok n) buf = Consumes before after (take n buf) × (n < length buf → IsAtEnd after)
AllGiven before after (Err _) buf = (lost : List ℕ) × Consumes before after lost

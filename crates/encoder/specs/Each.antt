-- What a closure has to do that writes the clauses of one number. Assumes nothing.
use Rattle.std.specs.Prelude.{List, ℕ, ◌<◌, ℤ}
use Rattle.std.specs.Fn.{Shared}
use denote.Ref.{MutBor}
use Rattle.clauses.specs.Clauses.{Clause}
use Rattle.clauses.specs.CnfWords.{words_of}
use Rattle.encoder.specs.Writing.{Room, Wrote}

-- f may be called at each number below n where there is room for its clauses g, and writes them.
abbrev pub WritesEach : {F : Type 0} → Shared F (MutBor (List ℤ) × (ℕ × (ℕ × Unit {0}))) (ℕ × (MutBor (List ℤ) × Unit {0})) → F → ℕ → (ℕ → List Clause) → Type 0
WritesEach call f n g =
    (room : MutBor (List ℤ)) (at i : ℕ) → i < n → Room at (g i) room.now
    → call.pre f (room, (at, (i, tt)))
    × ((r : ℕ) (left : MutBor (List ℤ)) → call.post f (room, (at, (i, tt))) (r, (left, tt)) → Wrote at (words_of (g i)) room.now left.now r)

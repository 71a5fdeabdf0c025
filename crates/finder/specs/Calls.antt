-- Document 02, Q-3: the whole answer of finding a witness, and the witness room after it. Assumes nothing.
use Rattle.std.specs.Prelude.{Bool, cond, List, [], ◌∷◌, ◌++◌, ℕ, ◌+◌, ◌*◌, leb, eqb, length}
use Rattle.answers.specs.Lists.{those, written}
use Rattle.answers.specs.Answers.{Answer, Check, answer, check, first_failing_part, granted}
use Rattle.answers.specs.Limits.{search_limit}
use Rattle.meaning.specs.Problem.{Problem, Latch, problem}
use Rattle.meaning.specs.Witnesses.{witness_length}
use Rattle.meaning.specs.Calls.{check_parts, witnesses}

-- 17: more than 16 bytes are open; how many are
abbrev pub too_much_open : ℕ → Answer
too_much_open = answer 17

-- 18: witness room too small; the bytes needed
abbrev pub witness_room_too_small : ℕ → Answer
witness_room_too_small = answer 18

-- 29: no witness exists; 0
abbrev pub none_exists : ℕ → Answer
none_exists = answer 29

-- "2 for free"
abbrev pub is_free : Latch → Bool
is_free c = eqb c.reset 2

-- "free resets plus I(k+1)": the bytes after the first that no reset fixes.
abbrev pub open_bytes : Problem → ℕ
open_bytes p = length (those is_free p.latches) + p.inputs * (p.bound + 1)

-- "otherwise, after 1 to 5, refusal 17", then 18, "before the search".
abbrev pub finding_checks : Problem → ℕ → List Check
finding_checks p room =
    check (leb (open_bytes p) search_limit) (too_much_open (open_bytes p))
    ∷ check (leb (witness_length p) room) (witness_room_too_small (witness_length p))
    ∷ []

-- "the first witness in byte order (0, place its length)", or "none exists (29, place 0)".
abbrev pub first_found : List (List ℕ) → Answer
first_found [] = none_exists 0
first_found (bs ∷ rest) = granted (length bs)

unfoldable pub find_witness : ℕ → List ℕ → ℕ → Answer
find_witness version ws room =
    first_failing_part (check_parts version ws ++ (finding_checks (problem version ws) room ∷ [])) (first_found (witnesses (problem version ws)))

-- At 0 the witness room holds the first witness and then what it held; "untouched on none", and at a refusal.
abbrev pub with_first : List (List ℕ) → List ℕ → List ℕ
with_first [] room = room
with_first (bs ∷ rest) room = written bs room

unfoldable pub room_after_finding : Answer → ℕ → List ℕ → List ℕ → List ℕ
room_after_finding a version ws room = cond (eqb a.number 0) (with_first (witnesses (problem version ws)) room) room

-- The CNF placed in the front of an area: no step is accepted yet. Assumes nothing.
use mathlib.Core.Path.{◌≡◌}
use mathlib.Core.List.{List, ◌++◌, append-nil}
use Prim.Native.Nat.{ℕ, ◌+◌, ◌<◌}
use native.Mathlib.Omega.{arith}
use lib.IntN.{ℤ}
use lib.ListN.{length, get_or, length-append, get_or-append}
use Rattle.clauses.specs.Clauses.{Clause, Within}
use Rattle.clauses.specs.CnfWords.{clauses_of}
use Rattle.refutation.specs.Work.{Places, Standing}

-- Words behind them keep the places.
places_in_front : {words : List ℤ} {cs : List Clause} {part : List ℕ} (rest : List ℕ) → Places words 0 cs part → Places words 0 cs (part ++ rest)
places_in_front {words} {cs} {part} rest p =
    let e : (n : ℕ) → n < length cs → get_or (part ++ rest) (0 + n) 0 ≡ get_or part (0 + n) 0
    = λ n h. get_or-append part rest 0 (0 + n) (omega (arith, p.fits)) in
    record {
      fits = omega (arith, p.fits, length-append part rest);
      inside = λ n h. rw (e n h) (p.inside n h);
      found = λ n h. rw (e n h) (p.found n h);
    }

pub standing_start : {variables : ℕ} {cnf ws : List ℤ} {clauses : ℕ} {part : List ℕ} (rest : List ℕ) → clauses ≡ length (clauses_of cnf)
    → Within variables (clauses_of cnf) → Places cnf 0 (clauses_of cnf) part → Standing variables cnf ws clauses 0 (part ++ rest)
standing_start {cnf = cnf} {part = part} rest counted within p =
    record {
      counted = counted;
      begun = omega arith;
      of_cnf = places_in_front rest p;
      of_steps = record { fits = omega (arith, p.fits, length-append part rest); inside = λ n h. absurd (omega arith); found = λ n h. absurd (omega arith) };
      within = rw append-nil within;
    }

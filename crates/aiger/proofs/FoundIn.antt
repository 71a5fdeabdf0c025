-- A reader that finds the same numbers in a text whatever stands after it; such readers in turn find what each does. Assumes nothing.
use mathlib.Core.Path.{◌≡◌, ◌∙◌, ap}
use mathlib.Core.Bool.{Bool, true}
use mathlib.Core.List.{List, [], ◌∷◌, ◌++◌, map, append_assoc}
use Prim.Native.Nat.{ℕ, zero, suc, ◌+◌, ◌≤◌, ◌<◌}
use native.Mathlib.Nat.{add-zero}
use native.Mathlib.Omega.{arith}
use lib.Dec.{eqb}
use lib.ListN.{length, length-append}
use Rattle.answers.specs.Lists.{numbers, each}
use Rattle.text.specs.Numbers.{decimal}
use Rattle.answers.specs.Limits.{largest_number}
use Rattle.text.specs.Readings.{parts, word_of, Reading, found, Reader, ahead, and_then, in_turn, mark, number}
use Rattle.text.proofs.ReadingLaws.{in_turn_append}
use Rattle.text.proofs.NumberLaws.{decimal_value, decimal_is_number, word_of_decimal, past_decimal}
use Rattle.aiger.specs.Texts.{ended}

abbrev pub FoundIn : Reader → List ℕ → List ℕ → Type 0
FoundIn r text ns = (p : ℕ) (rest : List ℕ) → r p (text ++ rest) ≡ found ns (p + length text) rest

-- ════════ In turn ════════

-- Readers in turn, so that a part is known by the readers, the text and the numbers that it names.
pub record AllFoundIn (rs : List Reader) (text ns : List ℕ) : Type 0 where
  pub finds : FoundIn (in_turn rs) text ns

pub found_joined : {rs qs : List Reader} {s t ns ms : List ℕ} → AllFoundIn rs s ns → AllFoundIn qs t ms → AllFoundIn (rs ++ qs) (s ++ t) (ns ++ ms)
found_joined {rs} {qs} {s} {t} {ns} {ms} f g =
    record {
      finds = λ p rest.
          let first : in_turn rs p ((s ++ t) ++ rest) ≡ found ns (p + length s) (t ++ rest) = rw (append_assoc s t rest) (f.finds p (t ++ rest)) in
          let place : p + length s + length t ≡ p + length (s ++ t) = rw (length-append s t) (omega arith) in
          in_turn_append rs qs p ((s ++ t) ++ rest)
          ∙ ap (λ (r : Reading). and_then r (in_turn qs)) first
          ∙ ap (ahead ns) (g.finds (p + length s) rest)
          ∙ ap (λ (q : ℕ). found (ns ++ ms) q rest) place;
    }

-- A line's readers, and so on for each number from i on.
module _ (f : ℕ → Reader) (line kept : ℕ → List ℕ) where
  found_each : (i n : ℕ) → ((j : ℕ) → i ≤ j → j < i + n → FoundIn (f j) (line j) (kept j))
      → FoundIn (in_turn (map f (numbers i n))) (each (numbers i n) line) (each (numbers i n) kept)
  found_each i zero h p rest = rw add-zero
  found_each i (suc n) h p rest =
      let text = each (numbers (suc i) n) line in
      let first : f i p ((line i ++ text) ++ rest) ≡ found (kept i) (p + length (line i)) (text ++ rest) =
      rw (append_assoc (line i) text rest) (h i (omega arith) (omega arith) p (text ++ rest)) in
      let place : p + length (line i) + length text ≡ p + length (line i ++ text) = rw (length-append (line i) text) (omega arith) in
      ap (λ (r : Reading). and_then r (in_turn (map f (numbers (suc i) n)))) first
      ∙ ap (ahead (kept i)) (found_each (suc i) n (λ j l g. h j (omega arith) (omega arith)) (p + length (line i)) rest)
      ∙ ap (λ (q : ℕ). found (kept i ++ each (numbers (suc i) n) kept) q rest) place

  pub found_lines : (n : ℕ) → ((j : ℕ) → j < n → FoundIn (f j) (line j) (kept j))
      → AllFoundIn (map f (numbers 0 n)) (each (numbers 0 n) line) (each (numbers 0 n) kept)
  found_lines n h = record { finds = found_each 0 n (λ j l g. h j (omega arith)) }

-- ════════ A number and what ends it ════════

module _ (right : ℕ → Bool) (n : ℕ) (small : n ≤ largest_number) (passes : right n ≡ true) where
  pub number_found : (p b : ℕ) (rest : List ℕ) → parts b ≡ true → number right p (decimal n ++ b ∷ rest) ≡ found (n ∷ []) (p + length (decimal n)) (b ∷ rest)
  number_found p b rest h =
      let parted : word_of (b ∷ rest) ≡ [] = rw h in
      rw (word_of_decimal (b ∷ rest) parted n, past_decimal (b ∷ rest) parted n, decimal_is_number n small, decimal_value n, passes)

  pub number_ended : (b : ℕ) → parts b ≡ true → eqb b b ≡ true → AllFoundIn (number right ∷ mark b ∷ []) (ended n b) (n ∷ [])
  number_ended b h e = record {
    finds = λ p rest.
        let text : ended n b ++ rest ≡ decimal n ++ b ∷ rest = append_assoc (decimal n) (b ∷ []) rest in
        let place : suc (p + length (decimal n)) ≡ p + length (ended n b) = rw (length-append (decimal n) (b ∷ [])) (omega arith) in
        rw (text, number_found p b rest h, e, place);
  }

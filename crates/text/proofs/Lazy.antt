-- Writers and readers of numbers that are lazy or wrong do not meet the promise: first for all texts, then for each an input, and what it gives there.
-- Assumes nothing.
use mathlib.Core.Path.{◌≡◌, refl, sym, ◌∙◌, ap}
use mathlib.Core.Bool.{true, false}
use mathlib.Core.List.{List, [], ◌∷◌}
use Prim.Native.Nat.{ℕ, ◌+◌, ◌≤◌, ◌<◌}
use native.Mathlib.Omega.{arith}
use borrow.Author.Tests.{le-leb}
use lib.ListN.{length, get_or, take, drop, get_or-append}
use lib.Seq.{length-take-le, get_or-append-add}
use Rattle.answers.specs.Limits.{largest_number}
use Rattle.answers.proofs.Tests.{false_if_not_true}
use Rattle.text.specs.Numbers.{bytes_of, decimal, is_number}
use Rattle.text.specs.Readings.{word_of}
use Rattle.text.specs.Promise.{no_number, scanned, WordAt, placed, Puts}
use Rattle.text.specs.declared.scan.Word.{Word}
use Rattle.text.proofs.NumberLaws.{number_printed}

-- ════════ A text that is put ════════

-- Whatever text, where it fits, be it to the last byte of the buffer.
module _ (text : List ℕ) (at : ℕ) (old : List ℕ) (next : ℕ) (fits : at + length text ≤ length old) where
  pub other_bytes_break : (new : List ℕ) → ¬ (new ≡ placed text at old) → ¬ (Puts text at old next new)
  other_bytes_break new h p = h (rw (le-leb (at + length text) (length old) fits) at p.held)

  -- One byte of it is another.
  pub other_byte_breaks : (new : List ℕ) (i : ℕ) → i < length text → ¬ (get_or new (at + i) 0 ≡ get_or text i 0) → ¬ (Puts text at old next new)
  other_byte_breaks new i l h =
      let before : length (take at old) ≡ at = length-take-le at old (omega arith) in
      let there : get_or (placed text at old) (at + i) 0 ≡ get_or text i 0 =
      ap (λ n. get_or (placed text at old) (n + i) 0) (sym before) ∙ get_or-append-add (take at old) _ i 0 ∙ get_or-append text _ 0 i l in
      other_bytes_break new (λ e. h (ap (λ bs. get_or bs (at + i) 0) e ∙ there))

  -- It is left out.
  pub fitting_left_out_breaks : ¬ (old ≡ placed text at old) → ¬ (Puts text at old next old)
  fitting_left_out_breaks = other_bytes_break old

-- 11 for 10: each digit but the first is one more.
pub digit_wrong_breaks : (next : ℕ) → ¬ (Puts (decimal 10) 0 (7 ∷ 7 ∷ []) next (bytes_of "11"))
unfolding decimal
digit_wrong_breaks next p = let z : ◌≡◌ {A = ℕ} 49 48 = ap (λ (bs : List ℕ). get_or bs 1 0) p.held in omega arith

-- 10 into two bytes, which stay.
pub just_fitting_left_out_breaks : (next : ℕ) → ¬ (Puts (decimal 10) 0 (7 ∷ 7 ∷ []) next (7 ∷ 7 ∷ []))
unfolding decimal
just_fitting_left_out_breaks next p = let z : ◌≡◌ {A = ℕ} 7 49 = ap (λ (bs : List ℕ). get_or bs 0 0) p.held in omega arith

-- ════════ A word that is read ════════

-- 0 in front of a number is no number: what it is worth is printed without.
zero_in_front : (w : List ℕ) → is_number w ≡ true → is_number (48 ∷ w) ≡ false
zero_in_front w e =
    false_if_not_true (is_number (48 ∷ w))
    (λ f. let same : 48 ∷ w ≡ w = number_printed (48 ∷ w) f ∙ sym (number_printed w e) in omega (arith, ap length same))

-- Anything but no number, wherever such a word stands.
pub zero_in_front_read_breaks : (text : List ℕ) (at : ℕ) (w : List ℕ) → is_number w ≡ true → word_of (drop at text) ≡ 48 ∷ w
    → (r : Word) → ¬ (r.state ≡ no_number) → ¬ (WordAt text at r)
unfolding scanned
zero_in_front_read_breaks text at w e there r h m = h (m.state_is ∙ (rw (there, zero_in_front w e)))

-- 01 for 1.
pub leading_zero_read_breaks : (r : Word) → r.state ≡ 2 → ¬ (WordAt (bytes_of "01") 0 r)
unfolding is_number decimal largest_number
leading_zero_read_breaks r is = zero_in_front_read_breaks (bytes_of "01") 0 (bytes_of "1") refl refl r (λ e. omega arith)

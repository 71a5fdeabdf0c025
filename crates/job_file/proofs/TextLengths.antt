-- How long the texts are, so that a caller can lend room enough. Assumes nothing.
use mathlib.Core.Path.{◌≡◌}
use mathlib.Core.List.{List, [], ◌∷◌}
use Prim.Native.Nat.{ℕ, zero, suc, ◌+◌, ◌*◌, ◌^◌, ◌≤◌, ◌<◌, zero-le, suc-le-suc}
use native.Mathlib.Omega.{arith}
use lib.IntN.{ℤ, pos, negsuc}
use lib.ListN.{length, get_or, length-append}
use mir.Syntax.{w32}
use mir.Val.{SFits}
use Rattle.answers.specs.Answers.{answer}
use Rattle.text.specs.Numbers.{bytes_of, decimal}
use Rattle.text.proofs.Decimals.{length_within}
use Rattle.job_file.specs.JobFile.{header_line, refusal_line}
use Rattle.job_file.specs.Text.{word_text, words_text, flat_text}

pub length_header : (v c : ℕ) → length (header_line v c) ≡ length (decimal v) + length (decimal c) + 8
length_header v c = simp length-append (omega arith)

pub length_refusal : (n p : ℕ) → length (refusal_line (answer n p)) ≡ length (decimal n) + length (decimal p) + 13
unfolding refusal_line
length_refusal n p = simp length-append (omega arith)

-- Each word is one of 32 bits.
abbrev pub All32Bits : List ℤ → Type 0
All32Bits ws = (i : ℕ) → i < length ws → SFits w32 (get_or ws i (pos 0))

-- Eleven characters for the least word, and one after them.
word_within : (w : ℤ) → SFits w32 w → length (word_text w) ≤ 12
word_within (pos zero) f = omega arith
word_within (pos (suc n)) f = omega (arith, length_within 9 (suc n) (omega arith), length-append (decimal (suc n)) (bytes_of " "))
word_within (negsuc n) f = omega (arith, length_within 9 (suc n) (omega arith), length-append (decimal (suc n)) (bytes_of " "))

words_within : (ws : List ℤ) → All32Bits ws → length (words_text ws) ≤ 12 * length ws
words_within [] f = omega arith
words_within (w ∷ ws) f =
    let one = word_within w (f 0 (suc-le-suc zero-le)) in
    let others = words_within ws (λ i h. f (suc i) (suc-le-suc h)) in
    omega (arith, length-append (word_text w) (words_text ws))

module _ (v c : ℕ) (ws : List ℤ) (hv : v < 2 ^ 32) (hc : c < 2 ^ 32) (f : All32Bits ws) where
  pub flat_within : length (flat_text v c ws) ≤ 12 * length ws + 28
  unfolding flat_text
  flat_within =
      let dv = length_within 9 v (omega arith) in
      let dc = length_within 9 c (omega arith) in
      omega (arith, words_within ws f, length_header v c, length-append (header_line v c) (words_text ws))

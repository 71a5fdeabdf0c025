-- The text of CNF words, one word more, for `words_size` and `put_words`. Assumes nothing.
use mathlib.Core.Path.{◌≡◌, sym, ◌∙◌, ap}
use mathlib.Core.List.{List, [], ◌∷◌, ◌++◌, append-nil}
use Prim.Native.Nat.{ℕ, ◌+◌, ◌≤◌, ◌<◌, min}
use native.Mathlib.Numerals.{add-one}
use native.Mathlib.Omega.{arith}
use lib.IntN.{ℤ, pos}
use lib.ListN.{length, get_or, take, drop, length-append, take-append-drop}
use lib.Seq.{take-suc}
use Rattle.text.specs.Promise.{largest_size}
use Rattle.text.proofs.Buffers.{Put, put_then, put_length}
use Rattle.meaning.proofs.Numbers.{each_append}
use Rattle.job_file.specs.Text.{word_text, words_text}
use Rattle.job_file.specs.Promise.{size}

module _ (ws : List ℤ) (i : ℕ) (h : i < length ws) where
  words_text_more : words_text (take (i + 1) ws) ≡ words_text (take i ws) ++ word_text (get_or ws i (pos 0))
  words_text_more =
      let more : take (i + 1) ws ≡ take i ws ++ (get_or ws i (pos 0) ∷ []) = rw (add-one, take-suc ws i (pos 0) h) in
      ap words_text more
      ∙ each_append (take i ws) (get_or ws i (pos 0) ∷ []) word_text
      ∙ ap (λ (t : List ℕ). words_text (take i ws) ++ t) (append-nil (word_text (get_or ws i (pos 0))))

  length_words_more : length (words_text (take (i + 1) ws)) ≡ length (words_text (take i ws)) + length (word_text (get_or ws i (pos 0)))
  length_words_more = ap length words_text_more ∙ length-append (words_text (take i ws)) (word_text (get_or ws i (pos 0)))

  pub size_more : (n k : ℕ) → n ≡ size (words_text (take i ws)) → k ≡ length (word_text (get_or ws i (pos 0)))
      → min (n + k) largest_size ≡ size (words_text (take (i + 1) ws))
  size_more n k e f = omega (arith, length_words_more)

  length_words_within : length (words_text (take (i + 1) ws)) ≤ length (words_text ws)
  length_words_within =
      let split : words_text ws ≡ words_text (take (i + 1) ws) ++ words_text (drop (i + 1) ws) =
      ap words_text (sym (take-append-drop (i + 1) ws)) ∙ each_append (take (i + 1) ws) (drop (i + 1) ws) word_text in
      omega (arith, ap length split, length-append (words_text (take (i + 1) ws)) (words_text (drop (i + 1) ws)))

  module _ {at n : ℕ} {o p : List ℕ} (fits : at + length (words_text ws) ≤ length o) (so_far : Put (words_text (take i ws)) at o n p) where
    room_before : at + length (words_text (take i ws)) ≤ length o
    room_before = omega (arith, length_words_more, length_words_within)

    pub room_for_word : n + length (word_text (get_or ws i (pos 0))) ≤ length p
    room_for_word = omega (arith, length_words_more, length_words_within, put_length room_before so_far, so_far.after)

    pub put_next_word : {m : ℕ} {q : List ℕ} → Put (word_text (get_or ws i (pos 0))) n p m q → Put (words_text (take (i + 1) ws)) at o m q
    put_next_word next = rw words_text_more (put_then room_before so_far next)

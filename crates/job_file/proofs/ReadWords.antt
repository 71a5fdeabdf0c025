-- Laws of a job file's words, for `read_words`: one word more. Assumes nothing.
use mathlib.Core.Path.{◌≡◌, ◌∙◌, ap}
use mathlib.Core.List.{List, [], ◌∷◌, ◌++◌, map, map-append}
use Prim.Native.Nat.{ℕ, ◌+◌, ◌*◌}
use native.Mathlib.Nat.{zero-add}
use native.Mathlib.Numerals.{add-one}
use lib.ListN.{length}
use Rattle.answers.specs.Lists.{numbers}
use Rattle.job_file.specs.JobFile.{number_at, job_header}
use Rattle.meaning.proofs.Numbers.{numbers_suc, length_map_numbers}
use Rattle.job_file.specs.Promise.{words_from}

pub words_more : (bs : List ℕ) (i : ℕ) → words_from bs (i + 1) ≡ words_from bs i ++ (number_at bs (job_header + 4 * i) ∷ [])
words_more bs i =
    let word : ℕ → ℕ = λ j. number_at bs (job_header + 4 * j) in
    ap (words_from bs) (add-one i) ∙ ap (map word) (numbers_suc 0 i) ∙ map-append word (numbers 0 i) ((0 + i) ∷ []) ∙ rw zero-add

pub length_words : (bs : List ℕ) (n : ℕ) → length (words_from bs n) ≡ n
length_words bs n = length_map_numbers (λ i. number_at bs (job_header + 4 * i)) 0 n

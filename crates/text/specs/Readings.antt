-- Document 01, of the texts that later requests read: "one space parts two words, a newline ends each line .. ; a fault's place is the first byte,
-- from the start of the text, of the word, space or line end that is wrong, and the length where the text is cut short." Assumes nothing.
use Rattle.std.specs.Prelude.{Bool, cond, ◌&&◌, ◌||◌, List, [], ◌∷◌, ◌++◌, ℕ, suc, ◌+◌, leb, eqb, length}
use Rattle.text.specs.Numbers.{same, value, is_number}

-- ════════ Words ════════

abbrev pub space_byte : ℕ
space_byte = 32

abbrev pub newline_byte : ℕ
newline_byte = 10

abbrev pub parts : ℕ → Bool
parts b = eqb b space_byte || eqb b newline_byte

-- The word that a text begins with: what stands up to the next space, newline or the end. It is empty where one of these stands.
abbrev pub word_of : List ℕ → List ℕ
word_of [] = []
word_of (b ∷ bs) = cond (parts b) [] (b ∷ word_of bs)

-- What stands after that word.
abbrev pub past_word : List ℕ → List ℕ
past_word [] = []
past_word (b ∷ bs) = cond (parts b) (b ∷ bs) (past_word bs)

-- ════════ From the left ════════

-- What a reader finds: the numbers that it keeps, the place after what it read, and the text that is left; or the place of the fault.
pub data Reading : Type 0 where
  found : List ℕ → ℕ → List ℕ → Reading
  fault : ℕ → Reading

-- A reader starts at a place, with the text that is left there.
abbrev pub Reader : Type 0
Reader = ℕ → List ℕ → Reading

abbrev pub ahead : List ℕ → Reading → Reading
ahead ns (found ms p t) = found (ns ++ ms) p t
ahead ns (fault p) = fault p

-- What comes after is read from where the first came to; a fault ends it.
abbrev pub and_then : Reading → Reader → Reading
and_then (found ns p t) r = ahead ns (r p t)
and_then (fault p) r = fault p

abbrev pub in_turn : List Reader → Reader
in_turn [] p t = found [] p t
in_turn (r ∷ rs) p t = and_then (r p t) (in_turn rs)

-- ════════ What is due ════════

-- Each of these stands at the place, or the place is that of the fault: the first byte of what stands there, or the length at the text's end.

-- A byte: a space between two words, or the newline that ends a line.
abbrev pub mark : ℕ → Reader
mark b p [] = fault p
mark b p (c ∷ t) = cond (eqb c b) (found [] (suc p) t) (fault p)

abbrev pub space : Reader
space = mark space_byte

abbrev pub newline : Reader
newline = mark newline_byte

-- A word that is told.
abbrev pub told : List ℕ → Reader
told w p t = cond (same (word_of t) w) (found [] (p + length w) (past_word t)) (fault p)

-- A number that passes a test.
abbrev pub number : (ℕ → Bool) → Reader
number right p t =
    cond (is_number (word_of t) && right (value (word_of t)))
    (found (value (word_of t) ∷ []) (p + length (word_of t)) (past_word t))
    (fault p)

abbrev pub at_most : ℕ → Reader
at_most m = number (λ n. leb n m)

-- A number that is known beforehand is not kept.
abbrev pub unkept : Reading → Reading
unkept (found ns p t) = found [] p t
unkept (fault p) = fault p

abbrev pub exactly : ℕ → Reader
exactly m p t = unkept (number (λ n. eqb n m) p t)

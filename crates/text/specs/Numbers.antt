-- Document 01: the bytes of texts and of decimal numbers, as they are printed and as they are read. Assumes nothing.
use Rattle.std.specs.Prelude.{Bool, true, false, ◌&&◌, List, [], ◌∷◌, ◌++◌, ℕ, zero, suc, ◌+◌, ◌*◌, ◌-◌, ◌/◌, ◌%◌, leb, ltb, eqb, ℤ, pos, negsuc}
use Prim.Native.Char.{code}
use Prim.Native.String.{String, [] as no_text, ◌∷◌ as ◌then◌}
use Rattle.answers.specs.Limits.{largest_number}

-- ════════ Out ════════

-- The bytes of a text whose characters are all below 128.
abbrev pub bytes_of : String → List ℕ
bytes_of no_text = []
bytes_of (c then cs) = code c ∷ bytes_of cs

abbrev pub digit : ℕ → ℕ
digit d = 48 + d

-- A number's decimal digits. The first argument only bounds the recursion: it allows one digit more than it says.
abbrev pub digits_within : ℕ → ℕ → List ℕ
digits_within zero n = digit (n % 10) ∷ []
digits_within (suc m) n =
    elim (ltb n 10) [
      | true ↦ digit n ∷ []
      | false ↦ digits_within m (n / 10) ++ (digit (n % 10) ∷ [])
    ]

unfoldable pub decimal : ℕ → List ℕ
decimal n = digits_within n n

abbrev pub signed_decimal : ℤ → List ℕ
signed_decimal (pos n) = decimal n
signed_decimal (negsuc n) = bytes_of "-" ++ decimal (suc n)

-- ════════ In ════════

-- What digits are worth, each ten times the one after it.
abbrev pub value_after : ℕ → List ℕ → ℕ
value_after n [] = n
value_after n (b ∷ bs) = value_after (10 * n + (b - 48)) bs

abbrev pub value : List ℕ → ℕ
value bytes = value_after 0 bytes

abbrev pub same : List ℕ → List ℕ → Bool
same [] [] = true
same [] (y ∷ ys) = false
same (x ∷ xs) [] = false
same (x ∷ xs) (y ∷ ys) = eqb x y && same xs ys

-- "numbers have no leading zeros": a word is a number if it is what that number is printed as.
unfoldable pub is_number : List ℕ → Bool
is_number bytes = same bytes (decimal (value bytes)) && leb (value bytes) largest_number

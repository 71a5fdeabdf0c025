-- 11's checks as words are read one by one: the part of a step in which a word stands, and the step's own number, in place of the zeros
-- before it. Assumes nothing.
use mathlib.Core.Path.{◌≡◌, refl, sym, ap, ap₂, ◌∙◌}
use mathlib.Core.Bool.{Bool, true, false, not, cond, ◌&&◌, ◌||◌}
use mathlib.Core.List.{List, [], ◌∷◌, ◌++◌, append_assoc}
use Prim.Native.Nat.{ℕ, zero, suc, ◌+◌, ◌/◌, ◌%◌}
use native.Mathlib.Nat.{zero-add, add-zero}
use native.Mathlib.Numerals.{add-one}
use native.Mathlib.Omega.{arith}
use borrow.Author.Tests.{eqb-true, eqb-false, ne_eqb, eq-eqb}
use lib.IntN.{ℤ, pos, negsuc}
use lib.Dec.{leb}
use lib.ListN.{length, take, length-append}
use lib.Seq.{take-append_seam}
use Rattle.answers.specs.Lists.{all_of, numbered}
use Rattle.answers.specs.Answers.{Check, check, bad_refutation}
use Rattle.clauses.specs.Clauses.{size}
use Rattle.clauses.specs.CnfWords.{is_0, ended}
use Rattle.clauses.specs.Refutations.{zeros, even, earlier, word_right, whole, refutation_checks}
use Rattle.answers.proofs.Answers.{passing}

-- ════════ Part by part ════════

-- The part of a step in which a word stands.
pub data Part : Type 0 where
  literals hints : Part

abbrev pub is_literals : Part → Bool
is_literals literals = true
is_literals hints = false

abbrev pub other : Part → Part
other literals = hints
other hints = literals

-- A 0 ends the part.
abbrev pub part_after : Part → ℤ → Part
part_after p w = cond (is_0 w) (other p) p

-- The number of the step in which the next word stands.
abbrev pub own_after : Part → ℕ → ℤ → ℕ
own_after literals own w = own
own_after hints own w = cond (is_0 w) (suc own) own

-- A literal is at most V in size; a hint is an earlier clause.
abbrev pub right_in : ℕ → Part → ℕ → ℤ → Bool
right_in variables literals own w = leb (size w) variables
right_in variables hints own w = is_0 w || earlier own w

abbrev pub word_checks : ℕ → Part → ℕ → ℕ → List ℤ → List Check
word_checks variables p own i [] = []
word_checks variables p own i (w ∷ ws) =
    check (right_in variables p own w) (bad_refutation i)
    ∷ word_checks variables (part_after p w) (own_after p own w) (suc i) ws

-- The part in which a word after all of these would stand.
abbrev pub part_at_end : Part → List ℤ → Part
part_at_end p [] = p
part_at_end p (w ∷ ws) = part_at_end (part_after p w) ws

-- Not cut short: no step is begun and not ended.
abbrev pub whole_by_parts : List ℤ → Bool
whole_by_parts ws = ended ws && is_literals (part_at_end literals ws)

-- What 11 asks of each word, without the places of its answers.
abbrev pub words_right : ℕ → Part → ℕ → List ℤ → Bool
words_right variables p own [] = true
words_right variables p own (w ∷ ws) =
    right_in variables p own w && words_right variables (part_after p w) (own_after p own w) ws

pub words_right_is : (variables : ℕ) (p : Part) (own i : ℕ) (ws : List ℤ)
    → all_of passing (word_checks variables p own i ws) ≡ words_right variables p own ws
words_right_is variables p own i [] = refl
words_right_is variables p own i (w ∷ ws) = rw (words_right_is variables (part_after p w) (own_after p own w) (suc i) ws)

-- ════════ The part by the zeros before it ════════

abbrev part_at : ℕ → Part
part_at n = cond (even n) literals hints

abbrev own_at : ℕ → ℕ → ℕ
own_at C n = C + n / 2 + 1

-- The zeros before the next word.
abbrev next : ℕ → Bool → ℕ
next n zero? = cond zero? (suc n) n

even_next : (n : ℕ) → even (suc n) ≡ not (even n)
even_next n = go (even n) refl
  where
    go : (b : Bool) → even n ≡ b → even (suc n) ≡ not b
    go true e = let h = eqb-true (n % 2) 0 e in ne_eqb (suc n % 2) 0 (λ f. omega arith)
    go false e = let h = eqb-false (n % 2) 0 e in eq-eqb (suc n % 2) 0 (omega arith)

part_next : (n : ℕ) (zero? : Bool) → cond zero? (other (part_at n)) (part_at n) ≡ part_at (next n zero?)
part_next n true = rw even_next (go (even n))
  where
    go : (b : Bool) → other (cond b literals hints) ≡ cond (not b) literals hints
    go true = refl
    go false = refl
part_next n false = refl

own_next : (C n : ℕ) (w : ℤ) → own_after (part_at n) (own_at C n) w ≡ own_at C (next n (is_0 w))
own_next C n w = go (even n) refl
  where
    of_literals : even n ≡ true → (zero? : Bool) → own_at C n ≡ own_at C (next n zero?)
    of_literals e true = let h = eqb-true (n % 2) 0 e in omega arith
    of_literals e false = refl

    of_hints : even n ≡ false → (zero? : Bool) → cond zero? (suc (own_at C n)) (own_at C n) ≡ own_at C (next n zero?)
    of_hints e true = let h = eqb-false (n % 2) 0 e in omega arith
    of_hints e false = refl

    go : (b : Bool) → even n ≡ b → own_after (cond b literals hints) (own_at C n) w ≡ own_at C (next n (is_0 w))
    go true e = of_literals e (is_0 w)
    go false e = of_hints e (is_0 w)

right_by_zeros : (variables C n : ℕ) (w : ℤ) → word_right variables C n w ≡ right_in variables (part_at n) (own_at C n) w
right_by_zeros variables C n w = go (even n)
  where
    go : (b : Bool) → cond b (leb (size w) variables) (is_0 w || earlier (own_at C n) w) ≡ right_in variables (cond b literals hints) (own_at C n) w
    go true = refl
    go false = refl

suc_next : (n : ℕ) (zero? : Bool) → suc (next n zero?) ≡ next (suc n) zero?
suc_next n true = refl
suc_next n false = refl

zeros_one : (w : ℤ) → zeros (w ∷ []) ≡ next 0 (is_0 w)
zeros_one (pos zero) = refl
zeros_one (pos (suc n)) = refl
zeros_one (negsuc n) = refl

zeros_last : (ps : List ℤ) (w : ℤ) → zeros (ps ++ (w ∷ [])) ≡ next (zeros ps) (is_0 w)
zeros_last [] w = zeros_one w
zeros_last (pos zero ∷ ps) w = ap suc (zeros_last ps w) ∙ suc_next (zeros ps) (is_0 w)
zeros_last (pos (suc n) ∷ ps) w = zeros_last ps w
zeros_last (negsuc n ∷ ps) w = zeros_last ps w

-- ════════ All words ════════

module _ (variables C : ℕ) where
  abbrev check_in : List ℤ → ℕ → ℤ → Check
  check_in all i w = check (word_right variables C (zeros (take i all)) w) (bad_refutation i)

  -- The words `ws` from place i on, past the words `ps` with n zeros.
  checks_from : (all ps ws : List ℤ) (i n : ℕ) → all ≡ ps ++ ws → i ≡ length ps → n ≡ zeros ps
      → numbered i ws (check_in all) ≡ word_checks variables (part_at n) (own_at C n) i ws
  checks_from all ps [] i n a l z = refl
  checks_from all ps (w ∷ ws) i n a l z =
      ap₂ ◌∷◌ here
      (checks_from all (ps ++ (w ∷ [])) ws (suc i) (next n (is_0 w)) (a ∙ sym (append_assoc ps (w ∷ []) ws))
      (ap suc l ∙ sym (length-append ps (w ∷ []) ∙ add-one (length ps)))
      (rw z (sym (zeros_last ps w)))
      ∙ rw (part_next n (is_0 w), own_next C n w))
    where
      here : check_in all i w ≡ check (right_in variables (part_at n) (own_at C n) w) (bad_refutation i)
      here = rw (l, a, take-append_seam, z) (ap (λ b. check b (bad_refutation (length ps))) (right_by_zeros variables C (zeros ps) w))

at_end : (n : ℕ) (ws : List ℤ) → is_literals (part_at_end (part_at n) ws) ≡ even (n + zeros ws)
at_end n [] = rw add-zero (go (even n))
  where
    go : (b : Bool) → is_literals (cond b literals hints) ≡ b
    go true = refl
    go false = refl
at_end n (w ∷ ws) = rw (part_next n (is_0 w)) (at_end (next n (is_0 w)) ws ∙ ap even (zero_counted w))
  where
    zero_counted : (w : ℤ) → next n (is_0 w) + zeros ws ≡ n + zeros (w ∷ ws)
    zero_counted (pos zero) = omega arith
    zero_counted (pos (suc m)) = refl
    zero_counted (negsuc m) = refl

pub whole_is : (ws : List ℤ) → whole ws ≡ whole_by_parts ws
whole_is ws = ap (λ b. ended ws && b) (sym (at_end 0 ws ∙ ap even (zero-add (zeros ws))))

-- 11's checks, part by part.
pub word_by_word : (variables C : ℕ) (ws : List ℤ)
    → refutation_checks variables C ws
    ≡ word_checks variables literals (suc C) 0 ws ++ (check (whole_by_parts ws) (bad_refutation (length ws)) ∷ [])
unfolding refutation_checks
word_by_word variables C ws =
    let own : suc C ≡ own_at C 0 = omega arith in
    rw (checks_from variables C ws [] ws 0 0 refl refl refl, whole_is, own)

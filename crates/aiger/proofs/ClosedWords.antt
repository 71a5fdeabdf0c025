-- A byte that parts words is read by itself; a word is closed before the end of the text and before such a byte. Assumes nothing.
use mathlib.Core.Path.{◌≡◌, refl, ap}
use mathlib.Core.Bool.{Bool, true, false, cond, ◌&&◌, false≢true}
use mathlib.Core.List.{List, [], ◌∷◌, ◌++◌, map}
use Prim.Native.Nat.{ℕ, suc, ◌+◌}
use native.Mathlib.Omega.{arith}
use borrow.Author.Tests.{eqb-true}
use lib.Dec.{eqb}
use lib.ListN.{length}
use Rattle.answers.proofs.Tests.{second_true}
use Rattle.text.specs.Numbers.{same, value, is_number}
use Rattle.text.specs.Readings.{parts, word_of, past_word, Reading, found, fault, Reader, in_turn, mark, told, number, unkept, exactly}
use Rattle.aiger.specs.Texts.{kept_as, as_reset, is_reset, reset_word}
use Rattle.aiger.proofs.Closed.{ReadAs, Closed, finds, Needs, anything, needs_nothing, closed_by, kept, keeping, closed_keeping, closed_then, needs_then}

-- ════════ A byte ════════

pub closed_mark : (b : ℕ) → Closed anything (mark b)
closed_mark b p [] = tt
closed_mark b p (c ∷ t) = go (eqb c b) refl
  where
    go : (x : Bool) → eqb c b ≡ x → ReadAs anything (mark b) p (c ∷ t) (cond x (found [] (suc p) t) (fault p))
    go true e =
        record {
          part = c ∷ [];
          text_is = refl;
          place_is = omega arith;
          again = λ at rest h. let place : suc at ≡ at + length (c ∷ []) = omega arith in rw (e, place);
        }
    go false e = tt

pub needs_mark : (test : List ℕ → Bool) (b : ℕ) → ((t : List ℕ) → test (b ∷ t) ≡ true) → Needs test (mark b)
needs_mark test b h p [] f = absurd (false≢true f)
needs_mark test b h p (c ∷ t) f = go (eqb c b) refl f
  where
    go : (x : Bool) → eqb c b ≡ x → finds (cond x (found [] (suc p) t) (fault p)) ≡ true → test (c ∷ t) ≡ true
    go true e f = rw (eqb-true c b e) (h t)
    go false e f = absurd (false≢true f)

-- ════════ A word ════════

-- A word ends here.
abbrev pub ends : List ℕ → Bool
ends [] = true
ends (b ∷ t) = parts b

pub word_and_rest : (t : List ℕ) → t ≡ word_of t ++ past_word t
word_and_rest [] = refl
word_and_rest (b ∷ t) = go (parts b) (word_and_rest t)
  where
    go : (x : Bool) → t ≡ word_of t ++ past_word t → b ∷ t ≡ cond x [] (b ∷ word_of t) ++ cond x (b ∷ t) (past_word t)
    go true e = refl
    go false e = ap (λ (u : List ℕ). b ∷ u) e

no_word : (t : List ℕ) → ends t ≡ true → word_of t ≡ []
no_word [] h = refl
no_word (b ∷ t) h = rw h

past_no_word : (t : List ℕ) → ends t ≡ true → past_word t ≡ t
past_no_word [] h = refl
past_no_word (b ∷ t) h = rw h

module _ (rest : List ℕ) (h : ends rest ≡ true) where
  pub word_again : (t : List ℕ) → word_of (word_of t ++ rest) ≡ word_of t
  word_again [] = no_word rest h
  word_again (b ∷ t) = go (parts b) refl (word_again t)
    where
      go : (x : Bool) → parts b ≡ x → word_of (word_of t ++ rest) ≡ word_of t
          → word_of (cond x [] (b ∷ word_of t) ++ rest) ≡ cond x [] (b ∷ word_of t)
      go true e w = no_word rest h
      go false e w = rw e (ap (λ (u : List ℕ). b ∷ u) w)

  pub past_again : (t : List ℕ) → past_word (word_of t ++ rest) ≡ rest
  past_again [] = past_no_word rest h
  past_again (b ∷ t) = go (parts b) refl (past_again t)
    where
      go : (x : Bool) → parts b ≡ x → past_word (word_of t ++ rest) ≡ rest → past_word (cond x [] (b ∷ word_of t) ++ rest) ≡ rest
      go true e w = past_no_word rest h
      go false e w = rw e w

-- ════════ Readers of a word ════════

module _ (good : List ℕ → Bool) (kept_of : List ℕ → List ℕ) where
  abbrev by_word : Reader
  by_word p t = cond (good (word_of t)) (found (kept_of (word_of t)) (p + length (word_of t)) (past_word t)) (fault p)

  closed_by_word : Closed ends by_word
  closed_by_word p t = go (good (word_of t)) refl
    where
      go : (x : Bool) → good (word_of t) ≡ x
          → ReadAs ends by_word p t (cond x (found (kept_of (word_of t)) (p + length (word_of t)) (past_word t)) (fault p))
      go true e =
          record {
            part = word_of t;
            text_is = word_and_rest t;
            place_is = refl;
            again = λ at rest h. rw (word_again rest h t, past_again rest h t, e);
          }
      go false e = tt

pub closed_number : (right : ℕ → Bool) → Closed ends (number right)
closed_number right = closed_by_word (λ (w : List ℕ). is_number w && right (value w)) (λ (w : List ℕ). value w ∷ [])

same_length : (u w : List ℕ) → same u w ≡ true → length u ≡ length w
same_length [] [] e = refl
same_length [] (y ∷ w) e = absurd (false≢true e)
same_length (x ∷ u) [] e = absurd (false≢true e)
same_length (x ∷ u) (y ∷ w) e = ap suc (same_length u w (second_true (eqb x y) (same u w) e))

pub closed_told : (w : List ℕ) → Closed ends (told w)
closed_told w = closed_by (by_word is_it nothing) (told w) (λ p t. go p t (same (word_of t) w) refl) ends (closed_by_word is_it nothing)
  where
    is_it : List ℕ → Bool
    is_it u = same u w

    nothing : List ℕ → List ℕ
    nothing u = []

    go : (p : ℕ) (t : List ℕ) (x : Bool) → same (word_of t) w ≡ x
        → cond x (found [] (p + length (word_of t)) (past_word t)) (fault p) ≡ cond x (found [] (p + length w) (past_word t)) (fault p)
    go p t true e = rw (same_length (word_of t) w e)
    go p t false e = refl

pub closed_exactly : (m : ℕ) → Closed ends (exactly m)
closed_exactly m =
    closed_by (keeping nothing (number is_it)) (exactly m) (λ p t. go (number is_it p t)) ends
    (closed_keeping nothing (number is_it) ends (closed_number is_it))
  where
    is_it : ℕ → Bool
    is_it n = eqb n m

    nothing : List ℕ → List ℕ
    nothing ns = []

    go : (x : Reading) → kept nothing x ≡ unkept x
    go (found ns p t) = refl
    go (fault p) = refl

pub closed_reset_word : (own : ℕ) → Closed ends (reset_word own)
closed_reset_word own =
    closed_by (keeping (map (as_reset own)) (number (is_reset own))) (reset_word own) (λ p t. go (number (is_reset own) p t)) ends
    (closed_keeping (map (as_reset own)) (number (is_reset own)) ends (closed_number (is_reset own)))
  where
    go : (x : Reading) → kept (map (as_reset own)) x ≡ kept_as (as_reset own) x
    go (found ns p t) = refl
    go (fault p) = refl

-- ════════ A word and the byte after it ════════

module _ (before : List ℕ → Bool) (b : ℕ) (h : parts b ≡ true) (rs : List Reader) where
  pub closed_from_mark : Closed before (in_turn rs) → Closed before (in_turn (mark b ∷ rs))
  closed_from_mark c = closed_then anything before (mark b) (in_turn rs) (closed_mark b) c (needs_nothing (in_turn rs))

  pub needs_from_mark : Needs ends (in_turn (mark b ∷ rs))
  needs_from_mark = needs_then ends (mark b) (in_turn rs) (needs_mark ends b (λ t. h))

  pub closed_word_then : (r : Reader) → Closed ends r → Closed before (in_turn rs) → Closed before (in_turn (r ∷ mark b ∷ rs))
  closed_word_then r c d = closed_then ends before r (in_turn (mark b ∷ rs)) c (closed_from_mark d) needs_from_mark

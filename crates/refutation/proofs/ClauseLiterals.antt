-- The literals of a clause: their signs, their variables within V, and their places. Assumes nothing.
use mathlib.Core.Bool.{true, false, and-eq-true_iff}
use mathlib.Core.Path.{◌≡◌, refl, sym, ◌∙◌}
use mathlib.Core.List.{List, [], ◌∷◌, ◌++◌}
use Prim.Native.Nat.{ℕ, zero, suc, ◌+◌, ◌<◌, ◌≤◌}
use native.Mathlib.Nat.{not-suc-le-zero}
use native.Mathlib.Numerals.{add-one}
use borrow.Author.Tests.{leb-true}
use lib.IntN.{ℤ, pos, negsuc}
use lib.Dec.{eqb, leb, eqb-zero-suc, eqb-suc-zero, eqb-suc-suc}
use lib.ListN.{length, get_or, take}
use lib.Seq.{take-suc}
use Rattle.answers.proofs.Tests.{all_of_at}
use Rattle.clauses.proofs.Satisfaction.{variable_of_negated}
use Rattle.clauses.specs.Clauses.{negated, variable_of, literal_within, same}
use Rattle.refutation.specs.Work.{LiteralsWithin}

eqb_sym : (m n : ℕ) → eqb m n ≡ eqb n m
eqb_sym zero zero = refl
eqb_sym zero (suc n) = eqb-zero-suc n ∙ sym (eqb-suc-zero n)
eqb_sym (suc m) zero = eqb-suc-zero m ∙ sym (eqb-zero-suc m)
eqb_sym (suc m) (suc n) = eqb-suc-suc m n ∙ eqb_sym m n ∙ sym (eqb-suc-suc n m)

pub same_sym : (x y : ℤ) → same x y ≡ same y x
same_sym (pos m) (pos n) = eqb_sym m n
same_sym (pos m) (negsuc n) = refl
same_sym (negsuc m) (pos n) = refl
same_sym (negsuc m) (negsuc n) = eqb_sym m n

pub other_sign : (w : ℤ) → 0 < variable_of w → same w (negated w) ≡ false
other_sign (pos zero) l = absurd (not-suc-le-zero l)
other_sign (pos (suc n)) l = refl
other_sign (negsuc n) l = refl

module _ (variables : ℕ) (w : ℤ) (h : literal_within variables w ≡ true) where
  pub within_at_least : 0 < variable_of w
  within_at_least = leb-true 1 (variable_of w) ((and-eq-true_iff (leb 1 (variable_of w)) (leb (variable_of w) variables)).0 h).0

  pub within_at_most : variable_of w ≤ variables
  within_at_most = leb-true (variable_of w) variables ((and-eq-true_iff (leb 1 (variable_of w)) (leb (variable_of w) variables)).0 h).1

  pub within_negated : literal_within variables (negated w) ≡ true
  within_negated = rw (variable_of_negated w) h

abbrev pub literal_at : List ℤ → ℕ → ℤ
literal_at clause i = get_or clause i (pos 0)

-- A place of a clause whose literals are within.
pub record LiteralAt (variables : ℕ) (clause : List ℤ) (i : ℕ) : Type 0 where
  pub inside : LiteralsWithin variables clause
  pub below : i < length clause

module _ {variables : ℕ} {clause : List ℤ} {i : ℕ} (t : LiteralAt variables clause i) where
  pub within_at : literal_within variables (literal_at clause i) ≡ true
  within_at = all_of_at (literal_within variables) clause i (pos 0) t.inside t.below

  pub take_more : take (i + 1) clause ≡ take i clause ++ (literal_at clause i ∷ [])
  take_more = rw (add-one i) (take-suc clause i (pos 0) t.below)

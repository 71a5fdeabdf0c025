-- Laws of literals and of satisfaction. Assumes nothing.
use mathlib.Core.Path.{◌≡◌, refl, sym, ◌∙◌, ap}
use mathlib.Core.Logic.{◌⊎◌, inl, inr}
use mathlib.Core.Bool.{true, false, not, false≢true, true≢false, not-not}
use mathlib.Core.List.Memᴰ
use mathlib.Core.List.{List, [], ◌∷◌, ◌++◌, map, Memᴰ}
use Prim.Native.Nat.{zero, suc}
use borrow.Author.Tests.{not-true, eqb-true}
use lib.IntN.{ℤ, pos, negsuc, neg_ℤ-neg_ℤ}
use lib.ListN.{get_or}
use Rattle.clauses.specs.Clauses.{Clause, Assignment, negated, variable_of, literal_true, clause_true, Satisfies, same, among}
use Rattle.clauses.specs.CnfWords.{is_0}
use Rattle.answers.proofs.Tests.{eqb_self, some_of_member, some_of_witness, not_both, all_of_append, both_true, all_of_first, all_of_second, none_of_member}

-- ════════ Literals ════════

pub same_self : (w : ℤ) → same w w ≡ true
same_self (pos n) = eqb_self n
same_self (negsuc n) = eqb_self n

pub eq_if_same : (w v : ℤ) → same w v ≡ true → w ≡ v
eq_if_same (pos m) (pos n) e = ap pos (eqb-true m n e)
eq_if_same (pos m) (negsuc n) e = absurd (false≢true e)
eq_if_same (negsuc m) (pos n) e = absurd (false≢true e)
eq_if_same (negsuc m) (negsuc n) e = ap negsuc (eqb-true m n e)

pub among_if_member : {w : ℤ} {ws : List ℤ} → Memᴰ w ws → among w ws ≡ true
among_if_member {w} m = some_of_member (same w) m (same_self w)

pub member_if_among : (w : ℤ) (ws : List ℤ) → among w ws ≡ true → Memᴰ w ws
member_if_among w ws e = let v = some_of_witness (same w) ws e in Memᴰ.cast (eq_if_same w v.0 v.2) v.1

pub negated_negated : (w : ℤ) → negated (negated w) ≡ w
negated_negated = neg_ℤ-neg_ℤ

pub member_of_negated : (w : ℤ) (c : Clause) → Memᴰ w (map negated c) → Memᴰ (negated w) c
member_of_negated w [] m = absurd (Memᴰ.not-nil m)
member_of_negated w (v ∷ c) m = go (Memᴰ.cases_cons m) (member_of_negated w c)
  where
    go : (w ≡ negated v) ⊎ Memᴰ w (map negated c) → (Memᴰ w (map negated c) → Memᴰ (negated w) c)
        → Memᴰ (negated w) (v ∷ c)
    go (inl p) later = Memᴰ.head (ap negated p ∙ negated_negated v)
    go (inr m') later = Memᴰ.tail (later m')

pub variable_of_negated : (w : ℤ) → variable_of (negated w) ≡ variable_of w
variable_of_negated (pos zero) = refl
variable_of_negated (pos (suc n)) = refl
variable_of_negated (negsuc n) = refl

module _ (a : Assignment) where
  pub literal_true_negated : (w : ℤ) → is_0 w ≡ false → literal_true a (negated w) ≡ not (literal_true a w)
  literal_true_negated (pos zero) e = absurd (true≢false e)
  literal_true_negated (pos (suc n)) e = refl
  literal_true_negated (negsuc n) e = sym (not-not (get_or a n false))

  -- A literal and its negation are not both true; the word 0 neither.
  pub not_true_both_ways : (w : ℤ) → literal_true a w ≡ true → literal_true a (negated w) ≡ true → ⊥
  not_true_both_ways (pos zero) p q = false≢true p
  not_true_both_ways (pos (suc n)) p q = not_both p (not-true (get_or a n false) q)
  not_true_both_ways (negsuc n) p q = not_both q (not-true (get_or a n false) p)

-- ════════ Satisfaction ════════

module _ (a : Assignment) where
  pub satisfies_append : (cs ds : List Clause) → Satisfies a cs → Satisfies a ds → Satisfies a (cs ++ ds)
  satisfies_append cs ds p q = all_of_append (clause_true a) cs ds ∙ both_true p q

  pub satisfies_first : (cs ds : List Clause) → Satisfies a (cs ++ ds) → Satisfies a cs
  satisfies_first = all_of_first (clause_true a)

  pub satisfies_second : (cs ds : List Clause) → Satisfies a (cs ++ ds) → Satisfies a ds
  satisfies_second = all_of_second (clause_true a)

  -- Of a true clause some literal is true.
  pub true_literal : (c : Clause) → clause_true a c ≡ true → (w : ℤ) × Memᴰ w c × (literal_true a w ≡ true)
  true_literal = some_of_witness (literal_true a)

  pub false_literal : {w : ℤ} {c : Clause} → Memᴰ w c → clause_true a c ≡ false → literal_true a w ≡ false
  false_literal = none_of_member (literal_true a)

-- A literal set true in the area by numbers: what the area says of each literal after it. Assumes nothing.
use mathlib.Core.Bool.{true, false}
use mathlib.Core.Path.{◌≡◌, refl, sym, ap, subst}
use mathlib.Core.Logic.{◌≢◌, ⊎_elim, ◌⊎◌, inl, inr}
use mathlib.Core.List.{List, ◌∷◌}
use Prim.Native.Nat.{ℕ, zero, suc, ◌+◌, ◌*◌, ◌<◌, ◌≤◌}
use native.Mathlib.Nat.{not-suc-le-zero, suc_inj}
use native.Mathlib.Decide.{ℕ_discrete}
use native.Mathlib.Omega.{arith}
use borrow.Author.Tests.{eq-eqb, ne_eqb}
use lib.IntN.{ℤ, pos, negsuc}
use lib.Dec.{eqb}
use lib.ListN.{length, get_or, set, length-set}
use lib.Seq.{get_or-set_same, get_or-set_other, drop-set-lt}
use Rattle.answers.proofs.Tests.{false_if_not_true}
use Rattle.clauses.proofs.Satisfaction.{same_self, eq_if_same, variable_of_negated}
use Rattle.clauses.specs.Clauses.{negated, variable_of, literal_within, same, among}
use Rattle.refutation.specs.Work.{mark_of, cell, Older, Values, Marked}
use Rattle.refutation.proofs.ClauseLiterals.{same_sym, other_sign, within_at_least, within_at_most}

-- Two literals of one variable are one, or each the other's negation.
one_variable : (x w : ℤ) → variable_of x ≡ variable_of w → 0 < variable_of w → (x ≡ w) ⊎ (x ≡ negated w)
one_variable (pos m) (pos n) e l = inl (ap pos e)
one_variable (pos m) (negsuc n) e l = inr (ap pos e)
one_variable (negsuc m) (pos zero) e l = absurd (not-suc-le-zero l)
one_variable (negsuc m) (pos (suc n)) e l = inr (ap negsuc (suc_inj e))
one_variable (negsuc m) (negsuc n) e l = inl (ap negsuc (suc_inj e))

other_mark : (stamp : ℕ) (w : ℤ) → 0 < variable_of w → eqb (mark_of stamp w) (mark_of stamp (negated w)) ≡ false
other_mark stamp (pos zero) l = absurd (not-suc-le-zero l)
other_mark stamp (pos (suc n)) l = ne_eqb (2 * stamp + 1) (2 * stamp) (λ e. omega arith)
other_mark stamp (negsuc n) l = ne_eqb (2 * stamp) (2 * stamp + 1) (λ e. omega arith)

mark_below : (stamp : ℕ) (w : ℤ) → mark_of stamp w < 2 * suc stamp
mark_below stamp (pos n) = omega arith
mark_below stamp (negsuc n) = omega arith

-- The area after a literal is set true.
abbrev pub with_true : ℕ → ℤ → List ℕ → List ℕ
with_true stamp w area = set area (variable_of w) (mark_of stamp w)

module _ (variables stamp : ℕ) (w : ℤ) (area : List ℕ) (inside : literal_within variables w ≡ true) (room : variables < length area) where
  fits_area : variable_of w < length area
  fits_area = omega (arith, within_at_most variables w inside)

  pub marked_true : Older variables (suc stamp) area → Marked variables stamp area (with_true stamp w area)
  marked_true old =
      record {
        not_later =
            record {
              room = rw length-set room;
              older = λ v l. go v l (ℕ_discrete v (variable_of w));
            };
        past = drop-set-lt (suc variables) area (variable_of w) (mark_of stamp w) (omega (arith, within_at_most variables w inside));
      }
    where
      go : (v : ℕ) → v ≤ variables → Dec (v ≡ variable_of w) → get_or (with_true stamp w area) v 0 < 2 * suc stamp
      go v l (yes e) = rw (e, get_or-set_same area (variable_of w) (mark_of stamp w) 0 fits_area) (mark_below stamp w)
      go v l (no n) = rw (get_or-set_other area (variable_of w) v (mark_of stamp w) 0 n) (old.older v l)

  module _ (trues : List ℤ) (vs : Values variables stamp trues area) (unset : among (negated w) trues ≡ false) where
    Said : ℤ → Type 0
    Said x = eqb (cell (with_true stamp w area) x) (mark_of stamp x) ≡ among x (w ∷ trues)

    said_own : Said w
    unfolding Said
    said_own = rw (get_or-set_same area (variable_of w) (mark_of stamp w) 0 fits_area, same_self w) (eq-eqb (mark_of stamp w) (mark_of stamp w) refl)

    said_negated : Said (negated w)
    unfolding Said
    said_negated =
        rw (variable_of_negated w, get_or-set_same area (variable_of w) (mark_of stamp w) 0 fits_area, same_sym (negated w) w, other_sign w (within_at_least variables w inside), unset)
        (other_mark stamp w (within_at_least variables w inside))

    said_other : (x : ℤ) → literal_within variables x ≡ true → variable_of x ≢ variable_of w → Said x
    unfolding Said
    said_other x h n =
        rw (get_or-set_other area (variable_of w) (variable_of x) (mark_of stamp w) 0 n, false_if_not_true (same x w) (λ e. n (ap variable_of (eq_if_same x w e))))
        (vs.said x h)

    pub values_true : Values variables stamp (w ∷ trues) (with_true stamp w area)
    unfolding Said
    values_true = record { said = λ x h. go x h (ℕ_discrete (variable_of x) (variable_of w)) }
      where
        go : (x : ℤ) → literal_within variables x ≡ true → Dec (variable_of x ≡ variable_of w) → Said x
        go x h (yes e) =
            ⊎_elim (λ q. subst Said (sym q) said_own) (λ q. subst Said (sym q) said_negated) (one_variable x w e (within_at_least variables w inside))
        go x h (no n) = said_other x h n

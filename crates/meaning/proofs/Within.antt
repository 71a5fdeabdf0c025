-- Literals of the variables 1 to v, and the forms over them. Assumes nothing.
use mathlib.Core.Path.{◌≡◌, refl, sym, subst}
use mathlib.Core.Bool.{Bool, true, false}
use mathlib.Core.List.{List, [], ◌∷◌, ◌++◌}
use Prim.Native.Nat.{ℕ, ◌≤◌}
use borrow.Author.Tests.{le-leb}
use lib.IntN.{ℤ, pos}
use Rattle.answers.specs.Lists.{all_of}
use Rattle.clauses.specs.Clauses.{Clause, negated, literal_within, Within}
use Rattle.answers.proofs.Tests.{both_true, all_of_append}
use Rattle.clauses.proofs.Satisfaction.{variable_of_negated}
use Rattle.meaning.specs.Cnf.{signed, equal_form, or_form, and_form, until_form, release_form, guarded_form}
use Rattle.meaning.proofs.Duals.{and_is_dual, release_is_dual}

-- ════════ Literals ════════

-- A literal of one of the variables 1 to v.
pub record Fits (v : ℕ) (x : ℤ) : Type 0 where
  pub within : literal_within v x ≡ true

module _ {v : ℕ} where
  pub pos_fits : {n : ℕ} → 1 ≤ n → n ≤ v → Fits v (pos n)
  pos_fits {n} low high = record { within = both_true (le-leb 1 n low) (le-leb n v high) }

  pub negated_fits : {x : ℤ} → Fits v x → Fits v (negated x)
  negated_fits {x} h = record { within = rw variable_of_negated h.within }

  pub signed_fits : (b : Bool) {x : ℤ} → Fits v x → Fits v (signed b x)
  signed_fits true h = negated_fits h
  signed_fits false h = h

-- ════════ Clauses and forms ════════

abbrev pub clause_within : ℕ → Clause → Bool
clause_within v = all_of (literal_within v)

module _ {v : ℕ} where
  pub unit_within : {x : ℤ} → Fits v x → Within v ((x ∷ []) ∷ [])
  unit_within h = both_true (both_true h.within refl) refl

  pub two_fit : {x y : ℤ} → Fits v x → Fits v y → clause_within v (x ∷ y ∷ []) ≡ true
  two_fit hx hy = both_true hx.within (both_true hy.within refl)

  pub three_fit : {x y z : ℤ} → Fits v x → Fits v y → Fits v z → clause_within v (x ∷ y ∷ z ∷ []) ≡ true
  three_fit hx hy hz = both_true hx.within (two_fit hy hz)

  pub equal_form_within : {x a : ℤ} → Fits v x → Fits v a → Within v (equal_form x a)
  equal_form_within hx ha = both_true (two_fit (negated_fits hx) ha) (both_true (two_fit hx (negated_fits ha)) refl)

  pub or_form_within : {x a b : ℤ} → Fits v x → Fits v a → Fits v b → Within v (or_form x a b)
  or_form_within hx ha hb =
      both_true (two_fit hx (negated_fits ha))
      (both_true (two_fit hx (negated_fits hb)) (both_true (three_fit (negated_fits hx) ha hb) refl))

  pub and_form_within : {x a b : ℤ} → Fits v x → Fits v a → Fits v b → Within v (and_form x a b)
  and_form_within {x} {a} {b} hx ha hb =
      subst (Within v) (sym (and_is_dual x a b)) (or_form_within (negated_fits hx) (negated_fits ha) (negated_fits hb))

  pub until_form_within : {x a b y : ℤ} → Fits v x → Fits v a → Fits v b → Fits v y → Within v (until_form x a b y)
  until_form_within hx ha hb hy =
      both_true (two_fit hx (negated_fits hb))
      (both_true (three_fit hx (negated_fits ha) (negated_fits hy))
      (both_true (three_fit (negated_fits hx) hb ha) (both_true (three_fit (negated_fits hx) hb hy) refl)))

  pub release_form_within : {x a b y : ℤ} → Fits v x → Fits v a → Fits v b → Fits v y → Within v (release_form x a b y)
  release_form_within {x} {a} {b} {y} hx ha hb hy =
      subst (Within v) (sym (release_is_dual x a b y))
      (until_form_within (negated_fits hx) (negated_fits ha) (negated_fits hb) (negated_fits hy))

  -- The two clauses that a selector turns on.
  pub selected_within : {s x a : ℤ} → Fits v s → Fits v x → Fits v a → Within v (guarded_form s x a)
  selected_within hs hx ha =
      both_true (three_fit (negated_fits hs) (negated_fits hx) ha)
      (both_true (three_fit (negated_fits hs) hx (negated_fits ha)) refl)

pub within_append : (v : ℕ) (cs ds : List Clause) → Within v cs → Within v ds → Within v (cs ++ ds)
within_append v cs ds hc hd = rw all_of_append (both_true hc hd)

-- An assignment of any length, cut or filled up to V values: it makes true the same clauses over V variables. Assumes nothing.
use mathlib.Core.Path.{◌≡◌, refl, ◌∙◌, ap, ap₂}
use mathlib.Core.Bool.{true, false, not, ◌&&◌, ◌||◌, false≢true}
use mathlib.Core.List.{List, [], ◌∷◌}
use Prim.Native.Nat.{ℕ, zero, suc, ◌<◌}
use native.Mathlib.Nat.{not-suc-le-zero, le_of_suc-le-suc}
use borrow.Author.Tests.{leb-true}
use lib.IntN.{ℤ, pos, negsuc}
use lib.Dec.{leb}
use lib.ListN.{length, get_or}
use Rattle.answers.specs.Lists.{all_of}
use Rattle.clauses.specs.Clauses.{Clause, Assignment, literal_true, clause_true, all_true, Satisfies, literal_within, Within}
use Rattle.answers.proofs.Tests.{first_true, second_true}

-- The values of variables 1 to v; those that the assignment does not give are false.
abbrev pub fitted : ℕ → Assignment → Assignment
fitted zero a = []
fitted (suc v) [] = false ∷ fitted v []
fitted (suc v) (b ∷ a) = b ∷ fitted v a

pub fitted_length : (v : ℕ) (a : Assignment) → length (fitted v a) ≡ v
fitted_length zero a = refl
fitted_length (suc v) [] = ap suc (fitted_length v [])
fitted_length (suc v) (b ∷ a) = ap suc (fitted_length v a)

-- No variable up to v changes its value.
value_kept : (v : ℕ) (a : Assignment) (i : ℕ) → i < v → get_or (fitted v a) i false ≡ get_or a i false
value_kept zero a i l = absurd (not-suc-le-zero l)
value_kept (suc v) [] zero l = refl
value_kept (suc v) [] (suc i) l = value_kept v [] i (le_of_suc-le-suc l)
value_kept (suc v) (b ∷ a) zero l = refl
value_kept (suc v) (b ∷ a) (suc i) l = value_kept v a i (le_of_suc-le-suc l)

module _ (v : ℕ) (a : Assignment) where
  literal_kept : (w : ℤ) → literal_within v w ≡ true → literal_true (fitted v a) w ≡ literal_true a w
  literal_kept (pos zero) e = absurd (false≢true e)
  literal_kept (pos (suc n)) e = value_kept v a n (leb-true (suc n) v (second_true (leb 1 (suc n)) (leb (suc n) v) e))
  literal_kept (negsuc n) e = ap not (value_kept v a n (leb-true (suc n) v (second_true (leb 1 (suc n)) (leb (suc n) v) e)))

  clause_kept : (c : Clause) → all_of (literal_within v) c ≡ true → clause_true (fitted v a) c ≡ clause_true a c
  clause_kept [] e = refl
  clause_kept (w ∷ c) e =
      ap₂ ◌||◌ (literal_kept w (first_true (literal_within v w) (all_of (literal_within v) c) e))
      (clause_kept c (second_true (literal_within v w) (all_of (literal_within v) c) e))

  -- Clauses over v variables are as true as they were.
  pub all_kept : (cs : List Clause) → Within v cs → all_true (fitted v a) cs ≡ all_true a cs
  all_kept [] e = refl
  all_kept (c ∷ cs) e =
      ap₂ ◌&&◌ (clause_kept c (first_true (all_of (literal_within v) c) (all_of (all_of (literal_within v)) cs) e))
      (all_kept cs (second_true (all_of (literal_within v) c) (all_of (all_of (literal_within v)) cs) e))

pub fitted_satisfies : (v : ℕ) (cs : List Clause) (a : Assignment) → Within v cs → Satisfies a cs → Satisfies (fitted v a) cs
fitted_satisfies v cs a within s = all_kept v a cs within ∙ s

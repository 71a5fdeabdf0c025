-- The judge's promise can be met, at an input for each kind of answer. Assumes nothing.
use mathlib.Core.Path.{refl}
use mathlib.Core.List.{List, ◌∷◌, []}
use Prim.Native.Nat.{ℕ}
use lib.ListN.{replicate}
use Rattle.clauses.specs.Refutations.{area_after}
use Rattle.refutation.specs.Promise.{Judged}
use Rattle.std.specs.Prelude.{Result, Ok, Err}
use Rattle.refutation.specs.declared.NotRefuted.{NotRefuted}
use Rattle.refutation.specs.declared.NotRefuted.TheVariants.{BadCnf, BadRefutation, AreaTooSmall, StepRefused, NotClosed}
use Rattle.refutation.proofs.Lazy.{Input, laid_down, T, t_other, t_open, bad_hint, few_numbers, bad_cnf_literal}
use Rattle.refutation.proofs.LazyAreas.{t_roomy}

abbrev pub Meets : Input → Result Unit NotRefuted → List ℕ → List ℕ → Type 0
Meets x r numbers' clauses' = Judged x.variables x.cnf x.refutation x.numbers x.clauses r numbers' clauses'

pub yes_meets : Meets T (Ok tt) (replicate 7 0) (replicate 13 0)
unfolding laid_down area_after
yes_meets = record { answered = refl; numbers_left = refl; clauses_left = refl }

-- The words past the needed part stay.
pub roomy_yes_meets : Meets t_roomy (Ok tt) (0 ∷ 0 ∷ 0 ∷ 0 ∷ 0 ∷ 0 ∷ 0 ∷ 9 ∷ 9 ∷ []) (0 ∷ 0 ∷ 0 ∷ 0 ∷ 0 ∷ 0 ∷ 0 ∷ 0 ∷ 0 ∷ 0 ∷ 0 ∷ 0 ∷ 0 ∷ 9 ∷ 9 ∷ [])
unfolding laid_down area_after
roomy_yes_meets = record { answered = refl; numbers_left = refl; clauses_left = refl }

pub refused_step_meets : Meets t_other (Err (StepRefused 0)) (replicate 7 0) (replicate 13 0)
unfolding laid_down area_after
refused_step_meets = record { answered = refl; numbers_left = refl; clauses_left = refl }

pub not_closed_meets : Meets t_open (Err (NotClosed 1)) (replicate 7 0) (replicate 13 0)
unfolding laid_down area_after
not_closed_meets = record { answered = refl; numbers_left = refl; clauses_left = refl }

pub bad_word_meets : Meets bad_hint (Err (BadRefutation 2)) (replicate 7 9) (replicate 13 9)
unfolding laid_down area_after
bad_word_meets = record { answered = refl; numbers_left = refl; clauses_left = refl }

pub small_area_meets : Meets few_numbers (Err (AreaTooSmall 7)) (replicate 6 9) (replicate 13 9)
unfolding laid_down area_after
small_area_meets = record { answered = refl; numbers_left = refl; clauses_left = refl }

pub bad_cnf_meets : Meets bad_cnf_literal (Err (BadCnf 2)) (replicate 7 9) (replicate 13 9)
unfolding laid_down area_after
bad_cnf_meets = record { answered = refl; numbers_left = refl; clauses_left = refl }

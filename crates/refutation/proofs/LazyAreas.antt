-- Judges that leave a work word behind, or change a buffer that they must not, do not meet the promise. Assumes nothing.
use mathlib.Core.Path.{◌≡◌, refl, ap, sym, ◌∙◌}
use mathlib.Core.Bool.{true, false}
use mathlib.Core.List.{List, ◌++◌}
use Prim.Native.Nat.{ℕ, ◌+◌, ◌-◌, ◌<◌, ◌≤◌}
use native.Mathlib.Omega.{arith}
use lib.ListN.{length, get_or, drop, replicate, length-replicate, get_or-replicate, get_or-append}
use lib.Seq.{get_or-append-add, get_or-drop}
use Rattle.answers.specs.Answers.{Answer}
use Rattle.clauses.specs.CnfWords.{clauses_of}
use Rattle.clauses.specs.Refutations.{steps_of, numbers_area, clauses_area, judged, area_after}
use Rattle.clauses.specs.Cases.{t_steps, t_other_steps}
use Rattle.refutation.specs.Promise.{answer_of}
use Rattle.std.specs.Prelude.{Result}
use Rattle.refutation.specs.declared.NotRefuted.{NotRefuted}
use Rattle.refutation.proofs.Lazy.{Input, Breaks, laid_down, over_t, T, t_other, t_open, bad_hint, few_numbers, few_clauses, bad_cnf_literal}

-- ════════ An area after the call ════════

module _ (a : Answer) (needed : ℕ) (area : List ℕ) where
  cleared : judged a ≡ true → (i : ℕ) → i < needed → get_or (area_after a needed area) i 0 ≡ 0
  unfolding area_after
  cleared e i h =
      let l : i < length (replicate {A = ℕ} needed 0) = omega (arith, length-replicate {A = ℕ} needed 0) in
      rw (e, get_or-append, get_or-replicate)

  kept : judged a ≡ true → (i : ℕ) → needed ≤ i → get_or (area_after a needed area) i 0 ≡ get_or area i 0
  unfolding area_after
  kept e i h =
      let z : List ℕ = replicate needed 0 in
      let p : i ≡ length z + (i - needed) = omega (arith, length-replicate {A = ℕ} needed 0) in
      rw e (ap (λ k. get_or (z ++ drop (length z) area) k 0) p ∙ get_or-append-add z _ _ 0 ∙ get_or-drop (length z) area _ 0 ∙ ap (λ k. get_or area k 0) (sym p))

  untouched : judged a ≡ false → area_after a needed area ≡ area
  unfolding area_after
  untouched e = rw e

-- ════════ Any input at which the steps are judged: yes, 13, 14 ════════

module _ (x : Input) (e : judged (laid_down x) ≡ true) (r : Result Unit NotRefuted) (numbers' clauses' : List ℕ) (i : ℕ) where
  pub number_word_left_breaks : i < numbers_area x.variables → ¬ (get_or numbers' i 0 ≡ 0) → Breaks x r numbers' clauses'
  unfolding laid_down
  number_word_left_breaks h w j =
      w (ap (λ l. get_or l i 0) j.numbers_left ∙ cleared (answer_of r) _ _ (ap judged j.answered ∙ e) i h)

  pub clause_word_left_breaks : i < clauses_area (clauses_of x.cnf) (steps_of x.refutation) → ¬ (get_or clauses' i 0 ≡ 0)
      → Breaks x r numbers' clauses'
  unfolding laid_down
  clause_word_left_breaks h w j =
      w (ap (λ l. get_or l i 0) j.clauses_left ∙ cleared (answer_of r) _ _ (ap judged j.answered ∙ e) i h)

  pub number_word_past_breaks : numbers_area x.variables ≤ i → ¬ (get_or numbers' i 0 ≡ get_or x.numbers i 0) → Breaks x r numbers' clauses'
  unfolding laid_down
  number_word_past_breaks h w j =
      w (ap (λ l. get_or l i 0) j.numbers_left ∙ kept (answer_of r) _ _ (ap judged j.answered ∙ e) i h)

  pub clause_word_past_breaks : clauses_area (clauses_of x.cnf) (steps_of x.refutation) ≤ i → ¬ (get_or clauses' i 0 ≡ get_or x.clauses i 0)
      → Breaks x r numbers' clauses'
  unfolding laid_down
  clause_word_past_breaks h w j =
      w (ap (λ l. get_or l i 0) j.clauses_left ∙ kept (answer_of r) _ _ (ap judged j.answered ∙ e) i h)

-- ════════ Any input at which they are not: 11, 12, 16 ════════

module _ (x : Input) (e : judged (laid_down x) ≡ false) (r : Result Unit NotRefuted) (numbers' clauses' : List ℕ) where
  pub numbers_changed_breaks : ¬ (numbers' ≡ x.numbers) → Breaks x r numbers' clauses'
  unfolding laid_down
  numbers_changed_breaks w j = w (j.numbers_left ∙ untouched (answer_of r) _ _ (ap judged j.answered ∙ e))

  pub clauses_changed_breaks : ¬ (clauses' ≡ x.clauses) → Breaks x r numbers' clauses'
  unfolding laid_down
  clauses_changed_breaks w j = w (j.clauses_left ∙ untouched (answer_of r) _ _ (ap judged j.answered ∙ e))

-- ════════ A work word left behind, at T and the like ════════

-- The judge gives any answer, and leaves any areas; T needs 7 and 13 words.
module _ (r : Result Unit NotRefuted) (numbers' clauses' : List ℕ) (i : ℕ) where
  pub number_left_at_yes_breaks : i < 7 → ¬ (get_or numbers' i 0 ≡ 0) → Breaks T r numbers' clauses'
  unfolding laid_down
  number_left_at_yes_breaks = number_word_left_breaks T refl r numbers' clauses' i

  pub clause_left_at_yes_breaks : i < 13 → ¬ (get_or clauses' i 0 ≡ 0) → Breaks T r numbers' clauses'
  unfolding laid_down
  clause_left_at_yes_breaks = clause_word_left_breaks T refl r numbers' clauses' i

  pub number_left_at_refused_step_breaks : i < 7 → ¬ (get_or numbers' i 0 ≡ 0) → Breaks t_other r numbers' clauses'
  unfolding laid_down
  number_left_at_refused_step_breaks = number_word_left_breaks t_other refl r numbers' clauses' i

  pub clause_left_at_refused_step_breaks : i < 13 → ¬ (get_or clauses' i 0 ≡ 0) → Breaks t_other r numbers' clauses'
  unfolding laid_down
  clause_left_at_refused_step_breaks = clause_word_left_breaks t_other refl r numbers' clauses' i

  pub number_left_at_not_closed_breaks : i < 7 → ¬ (get_or numbers' i 0 ≡ 0) → Breaks t_open r numbers' clauses'
  unfolding laid_down
  number_left_at_not_closed_breaks = number_word_left_breaks t_open refl r numbers' clauses' i

  pub clause_left_at_not_closed_breaks : i < 13 → ¬ (get_or clauses' i 0 ≡ 0) → Breaks t_open r numbers' clauses'
  unfolding laid_down
  clause_left_at_not_closed_breaks = clause_word_left_breaks t_open refl r numbers' clauses' i

-- T, and T's other refutation, with two words more in each area.
abbrev pub t_roomy : Input
t_roomy = over_t t_steps 9 15

abbrev pub t_other_roomy : Input
t_other_roomy = over_t t_other_steps 9 15

module _ (r : Result Unit NotRefuted) (numbers' clauses' : List ℕ) (i : ℕ) where
  pub number_past_at_yes_breaks : 7 ≤ i → i < 9 → ¬ (get_or numbers' i 0 ≡ 9) → Breaks t_roomy r numbers' clauses'
  unfolding laid_down
  number_past_at_yes_breaks h l w =
      number_word_past_breaks t_roomy refl r numbers' clauses' i h (λ p. w (p ∙ get_or-replicate 9 i 9 0 l))

  pub clause_past_at_yes_breaks : 13 ≤ i → i < 15 → ¬ (get_or clauses' i 0 ≡ 9) → Breaks t_roomy r numbers' clauses'
  unfolding laid_down
  clause_past_at_yes_breaks h l w =
      clause_word_past_breaks t_roomy refl r numbers' clauses' i h (λ p. w (p ∙ get_or-replicate 15 i 9 0 l))

  pub number_past_at_refused_step_breaks : 7 ≤ i → i < 9 → ¬ (get_or numbers' i 0 ≡ 9) → Breaks t_other_roomy r numbers' clauses'
  unfolding laid_down
  number_past_at_refused_step_breaks h l w =
      number_word_past_breaks t_other_roomy refl r numbers' clauses' i h (λ p. w (p ∙ get_or-replicate 9 i 9 0 l))

  pub clause_past_at_refused_step_breaks : 13 ≤ i → i < 15 → ¬ (get_or clauses' i 0 ≡ 9) → Breaks t_other_roomy r numbers' clauses'
  unfolding laid_down
  clause_past_at_refused_step_breaks h l w =
      clause_word_past_breaks t_other_roomy refl r numbers' clauses' i h (λ p. w (p ∙ get_or-replicate 15 i 9 0 l))

-- ════════ A buffer changed at 11, 12 or 16 ════════

module _ (r : Result Unit NotRefuted) (numbers' clauses' : List ℕ) where
  pub numbers_changed_at_bad_word_breaks : ¬ (numbers' ≡ bad_hint.numbers) → Breaks bad_hint r numbers' clauses'
  unfolding laid_down
  numbers_changed_at_bad_word_breaks = numbers_changed_breaks bad_hint refl r numbers' clauses'

  pub clauses_changed_at_bad_word_breaks : ¬ (clauses' ≡ bad_hint.clauses) → Breaks bad_hint r numbers' clauses'
  unfolding laid_down
  clauses_changed_at_bad_word_breaks = clauses_changed_breaks bad_hint refl r numbers' clauses'

  pub numbers_changed_at_small_area_breaks : ¬ (numbers' ≡ few_clauses.numbers) → Breaks few_clauses r numbers' clauses'
  unfolding laid_down
  numbers_changed_at_small_area_breaks = numbers_changed_breaks few_clauses refl r numbers' clauses'

  pub clauses_changed_at_small_area_breaks : ¬ (clauses' ≡ few_numbers.clauses) → Breaks few_numbers r numbers' clauses'
  unfolding laid_down
  clauses_changed_at_small_area_breaks = clauses_changed_breaks few_numbers refl r numbers' clauses'

  pub numbers_changed_at_bad_cnf_breaks : ¬ (numbers' ≡ bad_cnf_literal.numbers) → Breaks bad_cnf_literal r numbers' clauses'
  unfolding laid_down
  numbers_changed_at_bad_cnf_breaks = numbers_changed_breaks bad_cnf_literal refl r numbers' clauses'

  pub clauses_changed_at_bad_cnf_breaks : ¬ (clauses' ≡ bad_cnf_literal.clauses) → Breaks bad_cnf_literal r numbers' clauses'
  unfolding laid_down
  clauses_changed_at_bad_cnf_breaks = clauses_changed_breaks bad_cnf_literal refl r numbers' clauses'

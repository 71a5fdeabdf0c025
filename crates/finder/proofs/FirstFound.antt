-- The best of all runs is the first witness, and where no run is one there is none. Assumes nothing.
use Rattle.std.proofs.Common.{None}
use mathlib.Core.Path.{◌≡◌, refl, sym, ◌∙◌, ap, fun_ext}
use mathlib.Core.Bool.{Bool, true, false, cond}
use mathlib.Core.List.{List, [], ◌∷◌, ◌++◌, map, map-map}
use Prim.Native.Nat.{ℕ, zero, suc, ◌+◌, ◌*◌, ◌^◌, ◌-◌, ◌<◌, zero-le, suc-le-suc}
use native.Mathlib.Nat.{zero-add, add-zero, suc-add, add-suc}
use native.Mathlib.Omega.{arith}
use lib.Dec.{eqb}
use lib.ListN.{length, get_or, replicate, length-map, length-append, length-replicate, get_or-map}
use Rattle.answers.specs.Lists.{numbers, each, those}
use Rattle.answers.proofs.Tests.{both_true, not_both, those_append}
use Rattle.meaning.specs.Problem.{Problem, Latch}
use Rattle.meaning.specs.Proper.{Proper}
use Rattle.meaning.specs.Runs.{meets_reset}
use Rattle.meaning.specs.Witnesses.{all_bits}
use Rattle.finder.specs.Calls.{open_bytes}
use Rattle.meaning.specs.Calls.{accepted, witnesses}
use Rattle.meaning.proofs.Numbers.{numbers_append, each_append}
use Rattle.finder.specs.declared.search.Best.{Best}
use Rattle.finder.specs.Runs.{resets, slots, bytes_by, run_bytes}
use Rattle.finder.specs.Search.{IsBest, BestOf}
use Rattle.finder.proofs.Accepted.{accepted_meets}
use Rattle.finder.proofs.InOrder.{meets, those_map, runs_in_order, open_is_free}

-- ════════ The first of many lists ════════

module _ {B : Type 0} (f : ℕ → List B) where
  none_of_each : (i n : ℕ) → ((j : ℕ) → j < n → f (i + j) ≡ []) → each (numbers i n) f ≡ []
  none_of_each i zero h = refl
  none_of_each i (suc n) h =
      rw (rw add-zero at (h 0 (suc-le-suc zero-le)))
      (none_of_each (suc i) n (λ j l. rw (suc-add, ← add-suc) (h (suc j) (suc-le-suc l))))

  first_of_each : {n : ℕ} (m : ℕ) {x : B} {xs : List B} → m < n → ((j : ℕ) → j < m → f j ≡ []) → f m ≡ x ∷ xs
      → (rest : List B) × (each (numbers 0 n) f ≡ x ∷ rest)
  first_of_each {n} m {x} {xs} l before e =
      let parts : n ≡ m + suc (n - suc m) = omega arith in (
        xs ++ each (numbers (suc m) (n - suc m)) f,
        ap (λ k. each (numbers 0 k) f) parts
            ∙ rw (numbers_append 0 m (suc (n - suc m)), each_append, none_of_each 0 m (λ j q. rw zero-add (before j q)), zero-add, e),
      )

module _ {A B : Type 0} (t : B → Bool) where
  those_each : (xs : List A) (f : A → List B) → those t (each xs f) ≡ each xs (λ x. those t (f x))
  those_each [] f = refl
  those_each (x ∷ xs) f = those_append t (f x) (each xs f) ∙ rw (those_each xs f)

  -- Each element by itself.
  one_by_one : (g : A → B) (xs : List A) → those t (map g xs) ≡ each xs (λ x. cond (t (g x)) (g x ∷ []) [])
  one_by_one g [] = refl
  one_by_one g (x ∷ xs) = rw (one_by_one g xs) (go (t (g x)) _)
    where
      go : (b : Bool) (ys : List B) → cond b (g x ∷ ys) ys ≡ cond b (g x ∷ []) [] ++ ys
      go true ys = refl
      go false ys = refl

-- Where a test that all of them pass was made before, those that pass are the same.
those_among : {A : Type 0} (f g : A → Bool) → ((x : A) → f x ≡ true → g x ≡ true) → (xs : List A) → those f xs ≡ those f (those g xs)
those_among f g h [] = refl
those_among {A} f g h (x ∷ xs) = go (f x) (g x) refl refl (those_among f g h xs)
  where
    go : (a b : Bool) → f x ≡ a → g x ≡ b → those f xs ≡ those f (those g xs)
        → cond a (x ∷ those f xs) (those f xs) ≡ those f (cond b (x ∷ those g xs) (those g xs))
    go true true p q e = rw p (ap (λ l. x ∷ l) e)
    go true false p q e = absurd (not_both (h x p) q)
    go false true p q e = rw p e
    go false false p q e = e

-- ════════ Only what meets the resets is accepted ════════

meets_inputs : (n : ℕ) (bs : List ℕ) → meets (replicate n 2) bs ≡ true
meets_inputs zero bs = refl
meets_inputs (suc n) [] = refl
meets_inputs (suc n) (b ∷ bs) = meets_inputs n bs

meets_joined : (rs : List ℕ) (n : ℕ) (bs : List ℕ) → ((i : ℕ) → i < length rs → meets_reset (get_or rs i 2) (eqb (get_or bs i 0) 1) ≡ true)
    → meets (rs ++ replicate n 2) bs ≡ true
meets_joined [] n bs h = meets_inputs n bs
meets_joined (r ∷ rs) n [] h = refl
meets_joined (r ∷ rs) n (b ∷ bs) h =
    both_true (h 0 (suc-le-suc zero-le)) (meets_joined rs n bs (λ i l. h (suc i) (suc-le-suc l)))

module _ (p : Problem) where
  meets_if_accepted : (b : ℕ) (xs : List ℕ) → accepted p (b ∷ xs) ≡ true → meets (slots p) xs ≡ true
  meets_if_accepted b xs e = meets_joined (resets p) (p.inputs * (p.bound + 1)) xs (λ i l.
      rw (get_or-map (λ (c : Latch). c.reset) p.latches i (record { next = 0; reset = 2 }))
      (accepted_meets p b xs e i (rw length-map at l)))

  slots_long : length (slots p) ≡ length p.latches + p.inputs * (p.bound + 1)
  slots_long = simp (length-append, length-map, length-replicate)

-- ════════ The witnesses by first byte and run ════════

-- The bytes, where the judge accepts them.
abbrev one_if : Problem → List ℕ → List (List ℕ)
one_if p bs = cond (accepted p bs) (bs ∷ []) []

-- The numbers of all runs.
abbrev all_runs : Problem → List ℕ
all_runs p = numbers 0 (2 ^ open_bytes p)

-- The witnesses with a first byte.
abbrev with_byte : Problem → ℕ → List (List ℕ)
with_byte p b = each (all_runs p) (λ m. one_if p (b ∷ run_bytes p m))

module _ {p : Problem} (good : Proper p) where
  in_order : those (meets (slots p)) (all_bits (length (slots p))) ≡ map (run_bytes p) (all_runs p)
  unfolding run_bytes
  in_order = runs_in_order (slots p) ∙ ap (λ n. map (bytes_by (slots p)) (numbers 0 (2 ^ n))) (sym (open_is_free good))

  byte_by_runs : (b : ℕ) → those (accepted p) (map (λ bs. b ∷ bs) (all_bits (length p.latches + p.inputs * (p.bound + 1)))) ≡ with_byte p b
  byte_by_runs b =
      ap (λ n. those (accepted p) (map (λ bs. b ∷ bs) (all_bits n))) (sym (slots_long p))
      ∙ those_map (accepted p) (λ bs. b ∷ bs) (all_bits (length (slots p)))
      ∙ ap (map (λ bs. b ∷ bs))
      (those_among (λ bs. accepted p (b ∷ bs)) (meets (slots p)) (meets_if_accepted p b) (all_bits (length (slots p)))
      ∙ ap (those (λ bs. accepted p (b ∷ bs))) in_order)
      ∙ sym (those_map (accepted p) (λ bs. b ∷ bs) (map (run_bytes p) (all_runs p)))
      ∙ ap (those (accepted p)) (map-map (λ bs. b ∷ bs) (run_bytes p) (all_runs p))
      ∙ one_by_one (accepted p) (λ m. b ∷ run_bytes p m) (all_runs p)

  by_runs : witnesses p ≡ each (numbers 0 (p.bound + 2)) (with_byte p)
  unfolding witnesses
  by_runs =
      those_each (accepted p) (numbers 0 (p.bound + 2)) (λ b. map (λ bs. b ∷ bs) (all_bits (length p.latches + p.inputs * (p.bound + 1))))
      ∙ ap (each (numbers 0 (p.bound + 2))) (fun_ext byte_by_runs)

-- ════════ The best ════════

module _ {p : Problem} (good : Proper p) where
  -- A first byte that makes no run a witness.
  none_with : (b : ℕ) → ((m : ℕ) → m < 2 ^ open_bytes p → accepted p (b ∷ run_bytes p m) ≡ false) → with_byte p b ≡ []
  none_with b none = none_of_each (λ m. one_if p (b ∷ run_bytes p m)) 0 (2 ^ open_bytes p) (λ m q. rw (zero-add, none m q))

  pub best_is_first : {best : Best} → IsBest p (2 ^ open_bytes p) best
      → (rest : List (List ℕ)) × (witnesses p ≡ (best.first ∷ run_bytes p best.run) ∷ rest)
  best_is_first {best} found =
      let one : one_if p (best.first ∷ run_bytes p best.run) ≡ (best.first ∷ run_bytes p best.run) ∷ [] = rw found.is_one in
      let run = first_of_each (λ m. one_if p (best.first ∷ run_bytes p m)) best.run found.run_there (λ m l. rw (found.none_before m l)) one in
      let within : best.first < p.bound + 2 = omega (arith, found.within) in
      let first = first_of_each (with_byte p) best.first within (λ b l. none_with b (λ m q. found.none_lower m q b l)) run.1 in
      (first.0, by_runs good ∙ first.1)

  pub best_is_none : BestOf p (2 ^ open_bytes p) None → witnesses p ≡ []
  best_is_none none =
      by_runs good ∙ none_of_each (with_byte p) 0 (p.bound + 2) (λ b l. rw zero-add (none_with b (λ m q. none m q b l)))

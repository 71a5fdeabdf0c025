-- The list of witnesses has exactly the witnesses, each once. Assumes nothing.
use mathlib.Core.Path.{◌≡◌, refl, sym, ◌∙◌, ap}
use mathlib.Core.Logic.{◌⊎◌, inl, inr, ◌↔◌}
use mathlib.Core.Bool.{Bool, true, false, cond}
use mathlib.Core.List.Memᴰ
use mathlib.Core.List.{List, [], ◌∷◌, ◌++◌, map, Memᴰ}
use Prim.Native.Nat.{ℕ, zero, suc, ◌+◌, ◌*◌, ◌<◌, ◌≤◌, zero-le, suc-le-suc}
use native.Mathlib.Nat.{le_of_suc-le-suc, not-suc-le-zero}
use native.Mathlib.Omega.{arith}
use borrow.Author.Tests.{eqb-true}
use lib.ListN.{length, get_or, drop}
use Rattle.answers.specs.Lists.{numbers, each, those}
use Rattle.answers.specs.Answers.{granted}
use Rattle.answers.proofs.Tests.{all_of_member, those_member, those_pass, of_those}
use Rattle.answers.proofs.Answers.{all_pass_if_yes, first_failing_passed, number_of}
use Rattle.meaning.specs.Problem.{Problem}
use Rattle.meaning.specs.Witnesses.{byte, Witness, all_bits, candidates}
use Rattle.meaning.specs.Calls.{judge_bytes, accepted, witnesses}
use Rattle.meaning.proofs.Numbers.{member_of_numbers, numbers_bounds}
use Rattle.pairing.specs.Bounds.{Once}
use Rattle.pairing.proofs.Witnesses.{all_checks, judged_by_all, all_checks_refusing, accepted_is_witness}

-- ════════ The judge's yes ════════

granted_if_yes : (p : Problem) (bs : List ℕ) → (judge_bytes p bs).number ≡ 0 → judge_bytes p bs ≡ granted 0
granted_if_yes p bs e =
    let yes = number_of (sym (judged_by_all p bs)) ∙ e in
    judged_by_all p bs ∙ first_failing_passed (all_checks p bs) (granted 0) (all_pass_if_yes (all_checks p bs) (granted 0) (all_checks_refusing p bs) yes)

-- ════════ Members ════════

module _ {A B : Type 0} (f : A → List B) where
  each_member : {x : A} {xs : List A} {y : B} → Memᴰ x xs → Memᴰ y (f x) → Memᴰ y (each xs f)
  each_member {x} {y} (Memᴰ.head {x = z} {xs = zs} e) m = Memᴰ.append_left (each zs f) (rw e at m)
  each_member (Memᴰ.tail {x = z} m') m = Memᴰ.append_right (f z) (each_member m' m)

  pub of_each : {y : B} (xs : List A) → Memᴰ y (each xs f) → (x : A) × Memᴰ x xs × Memᴰ y (f x)
  of_each [] m = absurd (Memᴰ.not-nil m)
  of_each {y} (x ∷ xs) m = go (Memᴰ.append_cases (f x) m) (λ (q : Memᴰ y (each xs f)). of_each xs q)
    where
      go : Memᴰ y (f x) ⊎ Memᴰ y (each xs f) → (Memᴰ y (each xs f) → (z : A) × Memᴰ z xs × Memᴰ y (f z))
          → (z : A) × Memᴰ z (x ∷ xs) × Memᴰ y (f z)
      go (inl q) later = (x, Memᴰ.head refl, q)
      go (inr q) later = let w = later q in (w.0, Memᴰ.tail w.1, w.2)

-- Bytes of the right length that are 0 or 1 are among all bits.
bits_listed : (n : ℕ) (bs : List ℕ) → length bs ≡ n → ((i : ℕ) → i < length bs → byte bs i ≤ 1) → Memᴰ bs (all_bits n)
bits_listed zero [] e h = Memᴰ.head refl
bits_listed zero (b ∷ bs) e h = absurd (omega arith)
bits_listed (suc n) [] e h = absurd (omega arith)
bits_listed (suc n) (b ∷ bs) e h = go b (h 0 (suc-le-suc zero-le)) (bits_listed n bs (omega arith) (λ i l. h (suc i) (suc-le-suc l)))
  where
    go : (c : ℕ) → c ≤ 1 → Memᴰ bs (all_bits n) → Memᴰ (c ∷ bs) (all_bits (suc n))
    go zero l m = Memᴰ.append_left _ (Memᴰ.map (λ (ds : List ℕ). 0 ∷ ds) m)
    go (suc zero) l m = Memᴰ.append_right (map (λ ds. 0 ∷ ds) (all_bits n)) (Memᴰ.map (λ (ds : List ℕ). 1 ∷ ds) m)
    go (suc (suc c)) l m = absurd (omega arith)

-- ════════ The list has exactly the witnesses ════════

-- How many bytes come after the first.
abbrev pub after_first : Problem → ℕ
after_first p = length p.latches + p.inputs * (p.bound + 1)

module _ (p : Problem) where
  candidate_if_witness : (bs : List ℕ) → Witness p bs → Memᴰ bs (candidates p)
  candidate_if_witness [] w = absurd (omega (arith, w.length_right))
  candidate_if_witness (b ∷ bs) w =
      each_member (λ c. map (λ ds. c ∷ ds) (all_bits (after_first p)))
      (member_of_numbers 0 (p.bound + 2) b zero-le (omega (arith, w.start_in_range)))
      (Memᴰ.map (λ (ds : List ℕ). b ∷ ds) (bits_listed (after_first p) bs (omega (arith, w.length_right))
      (λ i h. w.bits_in_range (suc i) (suc-le-suc zero-le) (suc-le-suc h))))

  -- The list has exactly the witnesses.
  pub listed_is_witness : (bs : List ℕ) → Memᴰ bs (witnesses p) ↔ Witness p bs
  unfolding witnesses
  listed_is_witness bs = (
    λ m. (accepted_is_witness p bs).0 (granted_if_yes p bs (eqb-true _ 0 (all_of_member _ m (those_pass _ (candidates p))))),
    λ w. those_member _ (candidate_if_witness bs w) (rw ((accepted_is_witness p bs).1 w)),
  )

-- ════════ No element twice ════════

-- No element is among those after it.
abbrev Apart : {A : Type 0} → List A → Type 0
Apart [] = Unit
Apart (x ∷ xs) = (Memᴰ x xs → ⊥) × Apart xs

module _ {A : Type 0} where
  get_or_member : (xs : List A) (i : ℕ) (d : A) → i < length xs → Memᴰ (get_or xs i d) xs
  get_or_member [] i d h = absurd (not-suc-le-zero h)
  get_or_member (x ∷ xs) zero d h = Memᴰ.head refl
  get_or_member (x ∷ xs) (suc i) d h = Memᴰ.tail (get_or_member xs i d (le_of_suc-le-suc h))

  apart_append : (xs ys : List A) → Apart xs → Apart ys → ((x : A) → Memᴰ x xs → Memᴰ x ys → ⊥) → Apart (xs ++ ys)
  apart_append [] ys a b none = b
  apart_append (x ∷ xs) ys a b none =
      (λ m. go (Memᴰ.append_cases xs m), apart_append xs ys a.1 b (λ y m n. none y (Memᴰ.tail m) n))
    where
      go : Memᴰ x xs ⊎ Memᴰ x ys → ⊥
      go (inl m) = a.0 m
      go (inr m) = none x (Memᴰ.head refl) m

  apart_those : (f : A → Bool) (xs : List A) → Apart xs → Apart (those f xs)
  apart_those f [] a = tt
  apart_those f (x ∷ xs) a = go (f x) (apart_those f xs a.1)
    where
      go : (b : Bool) → Apart (those f xs) → Apart (cond b (x ∷ those f xs) (those f xs))
      go true rest = (λ m. a.0 (of_those f xs m), rest)
      go false rest = rest

module _ {A B : Type 0} where
  apart_map : (f : A → B) → ((x y : A) → f x ≡ f y → x ≡ y) → (xs : List A) → Apart xs → Apart (map f xs)
  apart_map f inj [] a = tt
  apart_map f inj (x ∷ xs) a =
      (λ m. let w = Memᴰ.of_map f xs m in a.0 (Memᴰ.cast (sym (inj w.0 x w.2)) w.1), apart_map f inj xs a.1)

  apart_each : (f : A → List B) (xs : List A) → Apart xs → ((x : A) → Apart (f x))
      → ((x y : A) (z : B) → Memᴰ z (f x) → Memᴰ z (f y) → x ≡ y) → Apart (each xs f)
  apart_each f [] a parts split = tt
  apart_each f (x ∷ xs) a parts split =
      apart_append (f x) (each xs f) (parts x) (apart_each f xs a.1 parts split) (λ z m n.
      let w = of_each f xs n in a.0 (Memᴰ.cast (split x w.0 z m w.2) w.1))

once_if_apart : (xs : List (List ℕ)) → Apart xs → Once xs
once_if_apart [] a i j h l e = not-suc-le-zero l
once_if_apart (x ∷ xs) a i zero h l e = not-suc-le-zero h
once_if_apart (x ∷ xs) a zero (suc j) h l e = a.0 (Memᴰ.cast e (get_or_member xs j [] (le_of_suc-le-suc l)))
once_if_apart (x ∷ xs) a (suc i) (suc j) h l e = once_if_apart xs a.1 i j (le_of_suc-le-suc h) (le_of_suc-le-suc l) e

-- ════════ The list has each once ════════

apart_numbers : (i n : ℕ) → Apart (numbers i n)
apart_numbers i zero = tt
apart_numbers i (suc n) = (λ m. omega (arith, (numbers_bounds (suc i) n m).0), apart_numbers (suc i) n)

cons_same : (b c : ℕ) (bs cs : List ℕ) → ◌≡◌ {A = List ℕ} (b ∷ bs) (c ∷ cs) → (b ≡ c) × (bs ≡ cs)
cons_same b c bs cs e = (ap (λ ds. byte ds 0) e, ap (drop 1) e)

-- What is made with a first byte shows it.
first_byte : (b : ℕ) {ds : List ℕ} (xs : List (List ℕ)) → Memᴰ ds (map (λ bs. b ∷ bs) xs) → byte ds 0 ≡ b
first_byte b xs m = let w = Memᴰ.of_map (λ bs. b ∷ bs) xs m in ap (λ ds. byte ds 0) (sym w.2)

apart_cons : (b : ℕ) (xs : List (List ℕ)) → Apart xs → Apart (map (λ bs. b ∷ bs) xs)
apart_cons b = apart_map (λ bs. b ∷ bs) (λ bs cs e. (cons_same b b bs cs e).1)

apart_bits : (n : ℕ) → Apart (all_bits n)
apart_bits zero = (λ m. Memᴰ.not-nil m, tt)
apart_bits (suc n) =
    apart_append (map (λ bs. 0 ∷ bs) (all_bits n)) (map (λ bs. 1 ∷ bs) (all_bits n))
    (apart_cons 0 (all_bits n) (apart_bits n)) (apart_cons 1 (all_bits n) (apart_bits n)) (λ ds m q.
    omega (arith, first_byte 0 (all_bits n) m, first_byte 1 (all_bits n) q))

module _ (p : Problem) where
  apart_candidates : Apart (candidates p)
  apart_candidates =
      apart_each _ (numbers 0 (p.bound + 2)) (apart_numbers 0 (p.bound + 2)) (λ b. apart_cons b (all_bits (after_first p)) (apart_bits (after_first p)))
      (λ b c ds m q. sym (first_byte b (all_bits (after_first p)) m) ∙ first_byte c (all_bits (after_first p)) q)

  -- No witness stands twice in it.
  pub listed_once : Once (witnesses p)
  unfolding witnesses
  listed_once = once_if_apart (witnesses p) (apart_those (accepted p) (candidates p) apart_candidates)

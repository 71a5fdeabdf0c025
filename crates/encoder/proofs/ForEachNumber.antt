-- Words and clauses that a loop writes for each number from 0 on. Assumes nothing.
use mathlib.Core.Path.{◌≡◌, refl, sym, ◌∙◌, ap}
use mathlib.Core.List.{List, [], ◌∷◌, ◌++◌, map, append-nil}
use Prim.Native.Nat.{ℕ, zero, suc, ◌+◌, ◌-◌, ◌≤◌, ◌<◌}
use native.Mathlib.Nat.{zero-add, add-zero, add-suc}
use native.Mathlib.Numerals.{add-one}
use native.Mathlib.Omega.{arith}
use lib.IntN.{ℤ}
use lib.ListN.{length, length-append}
use Rattle.answers.specs.Lists.{numbers, each}
use Rattle.clauses.specs.Clauses.{Clause}
use Rattle.clauses.specs.CnfWords.{words_of}
use Rattle.meaning.proofs.Numbers.{numbers_append, numbers_suc, each_append}
use Rattle.meaning.proofs.ItemByItem.{words_append}
use Rattle.encoder.specs.Writing.{Wrote, Room}
use Rattle.encoder.proofs.OneAfterAnother.{wrote_none, wrote_then, wrote_length}

-- ════════ The words of the first numbers ════════

-- Numbers from another than 0 on are counted from 0.
module _ {B : Type 0} (f : ℕ → List B) (from : ℕ) where
  shifted : (i n : ℕ) → each (numbers (from + i) n) f ≡ each (numbers i n) (λ k. f (from + k))
  shifted i zero = refl
  shifted i (suc n) = rw (← add-suc) (ap (λ l. f (from + i) ++ l) (shifted (suc i) n))

  pub from_0 : (n : ℕ) → each (numbers from n) f ≡ each (numbers 0 n) (λ k. f (from + k))
  from_0 n = ap (λ k. each (numbers k n) f) (sym (add-zero from)) ∙ shifted 0 n

abbrev pub first_of : (ℕ → List ℤ) → ℕ → List ℤ
first_of f n = each (numbers 0 n) f

module _ (f : ℕ → List ℤ) where
  first_suc : (n : ℕ) → first_of f (suc n) ≡ first_of f n ++ f n
  first_suc n = ap (λ ks. each ks f) (numbers_suc 0 n) ∙ rw (each_append, zero-add, append-nil)

  first_add : (m n : ℕ) → first_of f (m + n) ≡ first_of f m ++ each (numbers m n) f
  first_add m n = rw (numbers_append 0 m n, each_append, zero-add)

  -- The words of fewer numbers are not longer.
  shorter : {m n : ℕ} → m ≤ n → length (first_of f m) ≤ length (first_of f n)
  shorter {m} {n} h =
      let all : n ≡ m + (n - m) = omega arith in
      let e : length (first_of f n) ≡ length (first_of f m) + length (each (numbers m (n - m)) f) = ap (λ k. length (first_of f k)) all ∙ rw (first_add, length-append) in
      omega arith

-- One word for each.
pub singles : {A B : Type 0} (f : A → B) (xs : List A) → map f xs ≡ each xs (λ x. f x ∷ [])
singles f [] = refl
singles f (x ∷ xs) = ap (λ l. f x ∷ l) (singles f xs)

-- ════════ A loop ════════

-- Of n numbers' words, for which there is room, those of the numbers below i are written.
pub record Upto (f : ℕ → List ℤ) (n at : ℕ) (before after : List ℤ) (i next : ℕ) : Type 0 where
  pub fits : at + length (first_of f n) ≤ length before
  pub wrote : Wrote at (first_of f i) before after next

module _ {f : ℕ → List ℤ} {n at : ℕ} {before : List ℤ} where
  pub upto_none : at + length (first_of f n) ≤ length before → Upto f n at before before 0 at
  upto_none h = record { fits = h; wrote = wrote_none at before (omega arith) }

  module _ {after : List ℤ} {i next : ℕ} (to : Upto f n at before after i next) where
    -- There is room for the next number's words.
    pub upto_room : i < n → next + length (f i) ≤ length after
    upto_room l =
        let e = to.wrote.ends in
        let h = to.fits in
        let longer = ap length (first_suc f i) ∙ length-append (first_of f i) (f i) in
        omega (arith, shorter f l, wrote_length to.wrote)

    -- Those words are written too.
    pub upto_more : {after' : List ℤ} {next' : ℕ} → Wrote next (f i) after after' next' → Upto f n at before after' (i + 1) next'
    upto_more second = record { fits = to.fits; wrote = rw (add-one, first_suc) (wrote_then to.wrote second) }

    pub upto_all : n ≡ i → Wrote at (first_of f n) before after next
    upto_all e = rw e to.wrote

-- ════════ Clauses ════════

words_of_each : {A : Type 0} (xs : List A) (f : A → List Clause) → words_of (each xs f) ≡ each xs (λ x. words_of (f x))
words_of_each [] f = refl
words_of_each (x ∷ xs) f = rw (words_append, words_of_each xs f)

-- Of n numbers' clauses those of the numbers below i are written.
pub record Clauses (f : ℕ → List Clause) (n at : ℕ) (before after : List ℤ) (i next : ℕ) : Type 0 where
  pub to : Upto (λ i. words_of (f i)) n at before after i next

pub clauses_none : {f : ℕ → List Clause} {n at : ℕ} {before : List ℤ} → Room at (each (numbers 0 n) f) before → Clauses f n at before before 0 at
clauses_none h = record { to = upto_none (rw words_of_each at h.fits) }

module _ {f : ℕ → List Clause} {n at : ℕ} {before after : List ℤ} {i next : ℕ} (done : Clauses f n at before after i next) where
  pub clauses_room : i < n → Room next (f i) after
  clauses_room l = record { fits = upto_room done.to l }

  pub clauses_more : {after' : List ℤ} {next' : ℕ} → Wrote next (words_of (f i)) after after' next' → Clauses f n at before after' (i + 1) next'
  clauses_more second = record { to = upto_more done.to second }

  pub clauses_all : n ≡ i → Wrote at (words_of (each (numbers 0 n) f)) before after next
  clauses_all e = rw words_of_each (upto_all done.to e)

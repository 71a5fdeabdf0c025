-- One check after another: what is left of checks of which some passed, and the checks of numbers. Assumes nothing.
use mathlib.Core.Path.{◌≡◌, refl, sym, ◌∙◌}
use mathlib.Core.Bool.{true, false}
use mathlib.Core.List.{List, [], ◌∷◌, ◌++◌, map}
use Prim.Native.Nat.{ℕ, zero, suc, ◌+◌, ◌-◌, ◌<◌, ◌≤◌}
use native.Mathlib.Numerals.{add-one}
use native.Mathlib.Omega.{arith}
use Rattle.std.specs.Prelude.{Result, Ok, Err, ⊤}
use Rattle.std.specs.Result.{IsErrAnd}
use Rattle.std.proofs.lemmas.Result.{err_from_is_err_and}
use Rattle.answers.specs.Lists.{numbers}
use Rattle.answers.specs.Answers.{Answer, Check, first_failing}
use Rattle.answers.proofs.Answers.{first_failing_append}
use Rattle.witness.specs.declared.NotWitness.{NotWitness}
use Rattle.witness.specs.Promise.{not_witness_answer, AnsweredBy}

-- ════════ One check after another ════════

-- The checks before the rest passed.
pub record PassedUpTo (cs rest : List Check) : Type 0 where
  pub same : (after : Answer) → first_failing cs after ≡ first_failing rest after

pub none_yet : {cs : List Check} → PassedUpTo cs cs
none_yet = record { same = λ after. refl }

module _ {cs rest : List Check} (to : PassedUpTo cs rest) where
  pub pass_one : {c : Check} {rest' : List Check} → rest ≡ c ∷ rest' → c.passes ≡ true → PassedUpTo cs rest'
  pass_one is e = record { same = λ after. to.same after ∙ rw (is, e) }

  pub fail_one : {c : Check} {rest' : List Check} {f : NotWitness} → rest ≡ c ∷ rest' → c.passes ≡ false → not_witness_answer f ≡ c.otherwise
      → AnsweredBy cs (Err f)
  fail_one is e refused = record { answered = λ after. refused ∙ sym (to.same after ∙ rw (is, e)) }

  pub pass_all : rest ≡ [] → AnsweredBy cs (Ok (tt {0}))
  pass_all is = record { answered = λ after. sym (to.same after ∙ rw is) }

pub after_one : {c : Check} {rest : List Check} {r : Result ⊤ NotWitness} → c.passes ≡ true → AnsweredBy rest r → AnsweredBy (c ∷ rest) r
after_one e a = record { answered = λ after. a.answered after ∙ rw e }

-- ════════ The checks of numbers, and of numbered elements ════════

module _ (f : ℕ → Check) (n : ℕ) where
  abbrev pub from_number : ℕ → List Check
  from_number i = map f (numbers i (n - i))

  pub number_none : PassedUpTo (map f (numbers 0 n)) (from_number 0)
  number_none = record { same = λ after. let e : n - 0 ≡ n = omega arith in rw e }

  pub number_first : (i : ℕ) → i < n → from_number i ≡ f i ∷ from_number (i + 1)
  number_first i l = let e : n - i ≡ suc (n - (i + 1)) = omega arith in rw (e, add-one i)

  pub numbers_end : (i : ℕ) → n ≤ i → from_number i ≡ []
  numbers_end i l = let e : n - i ≡ 0 = omega arith in rw e

  -- The numbers before one pass.
  pub passed_before : (i : ℕ) → i ≤ n → ((j : ℕ) → j < i → (f j).passes ≡ true) → PassedUpTo (map f (numbers 0 n)) (from_number i)
  passed_before zero l passed = number_none
  passed_before (suc i) l passed =
      rw (add-one i) at
      (pass_one (passed_before i (omega arith) (λ j h. passed j (omega arith))) (number_first i l) (passed i (omega arith)))

-- ════════ One part after another ════════

module _ (xs ys : List Check) where
  pub part_refuses : {f : NotWitness} → AnsweredBy xs (Err f) → AnsweredBy (xs ++ ys) (Err f)
  part_refuses a = record { answered = λ after. a.answered (first_failing ys after) ∙ sym (first_failing_append xs ys after) }

  pub part_passes : {r : Result ⊤ NotWitness} → AnsweredBy xs (Ok (tt {0})) → AnsweredBy ys r → AnsweredBy (xs ++ ys) r
  part_passes a b = record {
    answered = λ after. b.answered after ∙ a.answered (first_failing ys after) ∙ sym (first_failing_append xs ys after);
  }

-- What a `?` returns at a refusal.
pub at_refusal : {cs : List Check} {r : Result ⊤ NotWitness} {f : NotWitness} → IsErrAnd r (λ e. e ≡ f) → AnsweredBy cs (Err f) → AnsweredBy cs r
at_refusal {r} said a = let p = err_from_is_err_and r said in rw (p.1, p.2) a

-- Laws of what the parts of the check answer: checks one after another, parts one after another, and a loop over numbers. Assumes nothing.
use mathlib.Core.Path.{◌≡◌, refl, sym, ◌∙◌}
use mathlib.Core.Bool.{Bool, true, false, false≢true}
use mathlib.Core.List.{List, [], ◌∷◌, ◌++◌, map}
use Prim.Native.Nat.{ℕ, suc, ◌+◌, ◌-◌, ◌≤◌, ◌<◌}
use native.Mathlib.Numerals.{add-one}
use native.Mathlib.Omega.{arith}
use Rattle.std.specs.Prelude.{Result, Ok, Err, ⊤}
use Rattle.std.specs.Result.{result_and, IsErrAnd}
use Rattle.std.proofs.lemmas.Result.{err_from_is_err_and}
use Rattle.answers.specs.Lists.{numbers, each}
use Rattle.answers.specs.Answers.{Answer, Check, check, first_failing, first_failing_part}
use Rattle.answers.proofs.Answers.{first_failing_append, parts_append}
use Rattle.meaning.specs.Check.{each_below}
use Rattle.problem.specs.declared.Refusal.{Refusal}
use Rattle.problem.specs.Promise.{refusal_answer}
use Rattle.problem.specs.CheckParts.{Answers, Joined}

-- ════════ One check after another ════════

-- What answers for some parts also does under another name.
pub answers_by : {A : Type 0} {ps : List (List Check)} {r r' : Result A Refusal} → r ≡ r' → Answers ps r → Answers ps r'
answers_by e a = rw e at a

-- Of a part whose checks are these, the first passes: the others are left.
module _ {A : Type 0} {a : Answer} {cs : List Check} {b : Bool} where
  pub pass : {r : Result A Refusal} → b ≡ true → Answers (cs ∷ []) r → Answers ((check b a ∷ cs) ∷ []) r
  pass e rest = record { answered = λ after. rest.answered after ∙ rw e }

  pub fail : {f : Refusal} → b ≡ false → refusal_answer f ≡ a → Answers {A = A} ((check b a ∷ cs) ∷ []) (Err f)
  fail e is = record { answered = λ after. is ∙ rw e }

pub all_pass : {A : Type 0} {x : A} → Answers ([] ∷ []) (Ok x)
all_pass = record { answered = λ after. refl }

-- ════════ One part after another ════════

module _ {A B : Type 0} (xs ys : List (List Check)) where
  -- After a pass the later parts give the answer; after a refusal they do not matter.
  pub passed_first : {x : A} {r : Result B Refusal} → Answers xs (Ok x) → Answers ys r → Answers (xs ++ ys) r
  passed_first a b = record { answered = λ after. b.answered after ∙ a.answered (first_failing_part ys after) ∙ sym (parts_append xs ys after) }

  pub refused_first : {f : Refusal} → Answers {A = A} xs (Err f) → Answers {A = B} (xs ++ ys) (Err f)
  refused_first a = record { answered = λ after. a.answered (first_failing_part ys after) ∙ sym (parts_append xs ys after) }

-- A `?` between two parts joins them.
pub joined : (first second : Result ⊤ Refusal) → Joined first second (result_and first second)
joined (Ok x) second = record { answers = λ xs ys a b. passed_first xs ys a b; both_pass = λ e. (refl, e) }
joined (Err f) second = record { answers = λ xs ys a b. refused_first xs ys a; both_pass = λ e. absurd (false≢true e) }

-- Two parts as one.
pub one_part : (xs ys : List Check) {A : Type 0} {r : Result A Refusal} → Answers (xs ∷ ys ∷ []) r → Answers ((xs ++ ys) ∷ []) r
one_part xs ys a = record { answered = λ after. a.answered after ∙ sym (first_failing_append xs ys after) }

-- What a `?` returns at a refusal.
pub at_refusal : {A : Type 0} {ps : List (List Check)} {r : Result A Refusal} {f : Refusal} → IsErrAnd r (λ e. e ≡ f) → Answers {A = A} ps (Err f) → Answers ps r
at_refusal {r} said a = let p = err_from_is_err_and r said in rw (p.1, p.2) a

-- A part of several, and a check of a part: it passes and the others are left, or it refuses.
module _ {A B : Type 0} {p : List Check} {ps : List (List Check)} where
  pub part_passes : {x : A} {r : Result B Refusal} → Answers (p ∷ []) (Ok x) → Answers ps r → Answers (p ∷ ps) r
  part_passes = passed_first (p ∷ []) ps

  pub part_refuses : {f : Refusal} → Answers {A = A} (p ∷ []) (Err f) → Answers {A = B} (p ∷ ps) (Err f)
  part_refuses = refused_first (p ∷ []) ps

module _ {A B : Type 0} {c : Check} {cs : List Check} where
  pub check_passes : {x : A} {r : Result B Refusal} → Answers ((c ∷ []) ∷ []) (Ok x) → Answers (cs ∷ []) r → Answers ((c ∷ cs) ∷ []) r
  check_passes a b = one_part (c ∷ []) cs (part_passes a b)

  pub check_refuses : {f : Refusal} → Answers {A = A} ((c ∷ []) ∷ []) (Err f) → Answers {A = B} ((c ∷ cs) ∷ []) (Err f)
  check_refuses a = one_part (c ∷ []) cs (part_refuses a)

-- A check of a part and those left, joined by `then`.
pub checks_joined : {c : Check} {cs : List Check} {first second r : Result ⊤ Refusal}
    → Joined first second r → Answers ((c ∷ []) ∷ []) first → Answers (cs ∷ []) second → Answers ((c ∷ cs) ∷ []) r
checks_joined {c} {cs} j a b = one_part (c ∷ []) cs (j.answers ((c ∷ []) ∷ []) (cs ∷ []) a b)

-- What a part goes by, one check after another.
pub ruleset one_by_one = (at_refusal, check_passes, check_refuses, checks_joined, pass, fail, all_pass)

-- Checks, each of them a part, as one.
each_alone : (cs : List Check) (after : Answer) → first_failing_part (map (λ (c : Check). c ∷ []) cs) after ≡ first_failing cs after
each_alone [] after = refl
each_alone (c ∷ cs) after = rw (each_alone cs after)

pub as_one : (cs : List Check) {A : Type 0} {r : Result A Refusal} → Answers (map (λ (c : Check). c ∷ []) cs) r → Answers (cs ∷ []) r
as_one cs a = record { answered = λ after. a.answered after ∙ each_alone cs after }

-- ════════ A loop over numbers ════════

-- Before i all checks passed: what answers those from i on answers all.
pub record PassedTo (f : ℕ → List Check) (n i : ℕ) : Type 0 where
  pub within : i ≤ n
  pub rest : (r : Result ⊤ Refusal) → Answers (each (numbers i (n - i)) f ∷ []) r → Answers (each_below n f ∷ []) r

module _ {f : ℕ → List Check} {n : ℕ} where
  pub passed_none : PassedTo f n 0
  passed_none = record {
    within = omega arith;
    rest = λ r a. let e : n - 0 ≡ n = omega arith in rw e at a;
  }

  module _ {i : ℕ} (to : PassedTo f n i) where
    one_more : i < n → each (numbers i (n - i)) f ≡ f i ++ each (numbers (i + 1) (n - (i + 1))) f
    one_more l = let e : n - i ≡ suc (n - (i + 1)) = omega arith in rw (e, add-one i)

    pub passed_more : {x : ⊤} → i < n → Answers (f i ∷ []) (Ok x) → PassedTo f n (i + 1)
    passed_more l a = record {
      within = omega arith;
      rest = λ r b. to.rest r (rw (one_more l) (one_part (f i) _ (passed_first (f i ∷ []) _ a b)));
    }

    pub refused_at : {g : Refusal} → i < n → Answers {A = ⊤} (f i ∷ []) (Err g) → Answers {A = ⊤} (each_below n f ∷ []) (Err g)
    refused_at {g} l a = to.rest (Err g) (rw (one_more l) (one_part (f i) _ (refused_first (f i ∷ []) _ a)))

    pub passed_all : n ≤ i → Answers (each_below n f ∷ []) (Ok (tt {0}))
    passed_all l = to.rest (Ok (tt {0})) (let none : n - i ≡ 0 = omega arith in rw none all_pass)

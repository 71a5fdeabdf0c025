-- Laws of answers and of the order of checks: what an answer says of the checks before it. Assumes nothing.
use mathlib.Core.Path.{◌≡◌, refl, sym, ◌∙◌, ap}
use mathlib.Core.Bool.{Bool, true, false, not, cond}
use mathlib.Core.List.{List, [], ◌∷◌, ◌++◌}
use mathlib.Core.Logic.{◌↔◌, ◌⊎◌, inl, inr}
use Prim.Native.Nat.{ℕ, suc}
use borrow.Author.Tests.{eqb-false, not-true}
use lib.Dec.{eqb}
use Rattle.answers.specs.Lists.{all_of, numbered, joined}
use Rattle.answers.specs.Answers.{Answer, Check, answer, check, first_failing, first_failing_part, granted}
use Rattle.answers.proofs.Tests.{both_true, first_true, second_true}

-- ════════ Answers ════════

pub number_of : {a b : Answer} → a ≡ b → a.number ≡ b.number
number_of e = ap (λ (x : Answer). x.number) e

pub place_of : {a b : Answer} → a ≡ b → a.place ≡ b.place
place_of e = ap (λ (x : Answer). x.place) e

-- ════════ The order of checks ════════

-- The check passes.
abbrev pub passing : Check → Bool
passing c = c.passes

-- Where the check fails, the answer has another number than k; refusing, it is not yes.
abbrev pub other_than : ℕ → Check → Bool
other_than k c = not (eqb c.otherwise.number k)

abbrev pub refusing : Check → Bool
refusing = other_than 0

pub first_failing_append : (xs ys : List Check) (after : Answer) → first_failing (xs ++ ys) after ≡ first_failing xs (first_failing ys after)
first_failing_append [] ys after = refl
first_failing_append (c ∷ xs) ys after = rw (first_failing_append xs ys after)

pub first_failing_passed : (cs : List Check) (after : Answer) → all_of passing cs ≡ true → first_failing cs after ≡ after
first_failing_passed [] after e = refl
first_failing_passed (c ∷ cs) after e =
    rw (first_true c.passes (all_of passing cs) e) (first_failing_passed cs after (second_true c.passes (all_of passing cs) e))

-- An answer with a number that no check gives comes from checks that all pass.
pub passed_by_number : (k : ℕ) (cs : List Check) (after : Answer) → all_of (other_than k) cs ≡ true
    → (first_failing cs after).number ≡ k → all_of passing cs ≡ true
passed_by_number k [] after o e = refl
passed_by_number k (c ∷ cs) after o e =
    go c.passes refl (passed_by_number k cs after (second_true (other_than k c) (all_of (other_than k) cs) o)) e
  where
    go : (b : Bool) → c.passes ≡ b → ((first_failing cs after).number ≡ k → all_of passing cs ≡ true)
        → (cond b (first_failing cs after) c.otherwise).number ≡ k → all_of passing (c ∷ cs) ≡ true
    go true p later e' = both_true p (later e')
    go false p later e' = absurd (eqb-false _ k (not-true _ (first_true (other_than k c) (all_of (other_than k) cs) o)) e')

-- And what comes after them has the number.
pub number_after : (k : ℕ) (cs : List Check) (after : Answer) → all_of (other_than k) cs ≡ true → (first_failing cs after).number ≡ k → after.number ≡ k
number_after k cs after o e = sym (number_of (first_failing_passed cs after (passed_by_number k cs after o e))) ∙ e

pub after_by_number : (k : ℕ) (cs : List Check) (after : Answer) {p : ℕ} → all_of (other_than k) cs ≡ true
    → first_failing cs after ≡ answer k p → after ≡ answer k p
after_by_number k cs after o e = sym (first_failing_passed cs after (passed_by_number k cs after o (number_of e))) ∙ e

-- An answer of yes comes from checks that all pass.
pub all_pass_if_yes : (cs : List Check) (after : Answer) → all_of refusing cs ≡ true
    → (first_failing cs after).number ≡ 0 → all_of passing cs ≡ true
all_pass_if_yes = passed_by_number 0

pub all_pass_if_granted : (cs : List Check) (after : Answer) {p : ℕ} → all_of refusing cs ≡ true
    → first_failing cs after ≡ granted p → all_of passing cs ≡ true
all_pass_if_granted cs after r e = all_pass_if_yes cs after r (number_of e)

-- And it is the answer of what comes after them.
pub after_if_granted : (cs : List Check) (after : Answer) {p : ℕ} → all_of refusing cs ≡ true
    → first_failing cs after ≡ granted p → after ≡ granted p
after_if_granted = after_by_number 0

-- A refusal does not depend on what comes after the checks.
pub refused_anyway : (cs : List Check) (a b : Answer) {x : Answer} → x ≡ first_failing cs a → (x ≡ a → ⊥) → x ≡ first_failing cs b
refused_anyway [] a b e n = absurd (n e)
refused_anyway (c ∷ cs) a b {x} e n = go c.passes e (λ f. refused_anyway cs a b f n)
  where
    go : (t : Bool) → x ≡ cond t (first_failing cs a) c.otherwise → (x ≡ first_failing cs a → x ≡ first_failing cs b)
        → x ≡ cond t (first_failing cs b) c.otherwise
    go true f later = later f
    go false f later = f

-- ════════ Checks in parts, any number of them ════════

pub first_failing_joined : (ps : List (List Check)) (after : Answer) → first_failing_part ps after ≡ first_failing (joined ps) after
first_failing_joined [] after = refl
first_failing_joined (p ∷ ps) after = ap (first_failing p) (first_failing_joined ps after) ∙ sym (first_failing_append p (joined ps) after)

pub parts_append : (ps qs : List (List Check)) (after : Answer)
    → first_failing_part (ps ++ qs) after ≡ first_failing_part ps (first_failing_part qs after)
parts_append [] qs after = refl
parts_append (p ∷ ps) qs after = ap (first_failing p) (parts_append ps qs after)

-- Numbered elements that are checked by one test pass where each passes it.
pub numbered_passing : {A : Type 0} (t : A → Bool) (a : ℕ → Answer) (i : ℕ) (xs : List A)
    → all_of passing (numbered i xs (λ j x. check (t x) (a j))) ≡ all_of t xs
numbered_passing t a i [] = refl
numbered_passing t a i (x ∷ xs) = rw (numbered_passing t a (suc i) xs)

-- An answer by its number comes past checks of other numbers exactly where they pass and what comes after them gives it.
pub past_checks : (x : Answer) (cs : List Check) (after : Answer) → all_of (other_than x.number) cs ≡ true
    → (first_failing cs after ≡ x) ↔ ((all_of passing cs ≡ true) × (after ≡ x))
past_checks x cs after o = (
  λ e. let pass = passed_by_number x.number cs after o (number_of e) in (pass, sym (first_failing_passed cs after pass) ∙ e),
  λ h. first_failing_passed cs after h.0 ∙ h.1,
)

-- Either a check passes, and the answer is that of what comes after it, or it is its refusal.
pub one_check : {x : Answer} (b : Bool) (after refusal : Answer) → cond b after refusal ≡ x → ((b ≡ true) × (after ≡ x)) ⊎ ((b ≡ false) × (refusal ≡ x))
one_check true after refusal e = inl (refl, e)
one_check false after refusal e = inr (refl, e)

-- Each form of clauses is satisfied exactly where an equation between its literals' values holds. Assumes nothing.
use mathlib.Core.Path.{◌≡◌, refl, sym, ◌∙◌, ap, subst}
use mathlib.Core.Logic.Iff
use mathlib.Core.Logic.{◌↔◌}
use mathlib.Core.Bool.{Bool, true, false, not, ◌&&◌, ◌||◌, cond, beq, not-not, and-true, or-false, false≢true}
use mathlib.Core.List.{List, [], ◌∷◌, map}
use lib.IntN.{ℤ}
use Rattle.answers.specs.Lists.{some_of}
use Rattle.clauses.specs.Clauses.{Clause, Assignment, negated, literal_true, Satisfies}
use Rattle.clauses.specs.CnfWords.{is_0}
use Rattle.clauses.proofs.Satisfaction.{negated_negated, literal_true_negated}
use Rattle.answers.proofs.Tests.{some_of_map}
use Rattle.meaning.specs.Runs.{turned}
use Rattle.meaning.specs.Cnf.{signed, equal_form, or_form, and_form, until_form, release_form, guarded_form}
use Rattle.meaning.proofs.Duals.{and_is_dual, release_is_dual}

-- ════════ What a literal reads ════════

-- The literal has this value, and its negation the other: it is not the word 0.
pub record Reads (a : Assignment) (x : ℤ) (b : Bool) : Type 0 where
  pub value : literal_true a x ≡ b
  pub negation : literal_true a (negated x) ≡ not b

pub literal_reads : (a : Assignment) (x : ℤ) → is_0 x ≡ false → Reads a x (literal_true a x)
literal_reads a x e = record { value = refl; negation = literal_true_negated a x e }

module _ {a : Assignment} where
  pub negated_reads : {x : ℤ} {p : Bool} → Reads a x p → Reads a (negated x) (not p)
  negated_reads {x} {p} r = record { value = r.negation; negation = rw (negated_negated x, not-not p) r.value }

  pub signed_reads : (b : Bool) {x : ℤ} {p : Bool} → Reads a x p → Reads a (signed b x) (turned b p)
  signed_reads true r = negated_reads r
  signed_reads false r = r

  pub cond_reads : (b : Bool) {x y : ℤ} {p q : Bool} → Reads a x p → Reads a y q → Reads a (cond b x y) (cond b p q)
  cond_reads true r s = r
  cond_reads false r s = s

-- ════════ Equations between Bools ════════

pub beq_is : (p q : Bool) → (beq p q ≡ true) ↔ (p ≡ q)
beq_is true true = (λ e. refl, λ e. refl)
beq_is true false = (λ e. sym e, λ e. sym e)
beq_is false true = (λ e. e, λ e. e)
beq_is false false = (λ e. refl, λ e. refl)

-- A test that is that of an equation.
tests : {t p q : Bool} → t ≡ beq p q → (t ≡ true) ↔ (p ≡ q)
tests {p} {q} e = rw e (beq_is p q)

not_same : {p q : Bool} → not p ≡ not q → p ≡ q
not_same {p} {q} e = sym (not-not p) ∙ ap not e ∙ not-not q

not_and : (q r : Bool) → not (q && r) ≡ not q || not r
not_and true r = refl
not_and false r = refl

not_or : (q r : Bool) → not (q || r) ≡ not q && not r
not_or true r = refl
not_or false r = refl

-- An equation between Bools is that of their negations.
dual : {p q r : Bool} → not q ≡ r → (not p ≡ r) ↔ (p ≡ q)
dual d = (λ e. not_same (e ∙ sym d), λ e. rw e d)

-- What holds where a test does.
true_where : (c d : Bool) → (not c || d ≡ true) ↔ (c ≡ true → d ≡ true)
true_where true d = (λ e c. e, λ h. h refl)
true_where false d = (λ e c. absurd (false≢true c), λ h. refl)

or_in_front : (c t u : Bool) → (not c || t) && ((not c || u) && true) ≡ not c || (t && (u && true))
or_in_front true t u = refl
or_in_front false t u = refl

under : {A B C : Type 0} → A ↔ B → (C → A) ↔ (C → B)
under e = (λ h c. e.0 (h c), λ h c. e.1 (h c))

-- ════════ The forms of gates and nodes ════════

module _ {a : Assignment} where
  pub unit_is : {x : ℤ} {p : Bool} → Reads a x p → Satisfies a ((x ∷ []) ∷ []) ↔ (p ≡ true)
  unit_is rx = rw (rx.value, or-false, and-true) Iff.rfl

  pub equal_form_is : {x y : ℤ} {p q : Bool} → Reads a x p → Reads a y q → Satisfies a (equal_form x y) ↔ (p ≡ q)
  equal_form_is {p} {q} rx ry = rw (rx.value, rx.negation, ry.value, ry.negation) (tests (test p q))
    where
      test : (p q : Bool) → (not p || (q || false)) && ((p || (not q || false)) && true) ≡ beq p q
      test true true = refl
      test true false = refl
      test false true = refl
      test false false = refl

  pub or_form_is : {x y z : ℤ} {p q r : Bool} → Reads a x p → Reads a y q → Reads a z r
      → Satisfies a (or_form x y z) ↔ (p ≡ (q || r))
  or_form_is {p} {q} {r} rx ry rz =
      rw (rx.value, rx.negation, ry.value, ry.negation, rz.value, rz.negation) (tests (test p q r))
    where
      test : (p q r : Bool)
          → (p || (not q || false)) && ((p || (not r || false)) && ((not p || (q || (r || false))) && true)) ≡ beq p (q || r)
      test true true r = refl
      test true false true = refl
      test true false false = refl
      test false true r = refl
      test false false true = refl
      test false false false = refl

  pub until_form_is : {x y z w : ℤ} {p q r s : Bool} → Reads a x p → Reads a y q → Reads a z r → Reads a w s
      → Satisfies a (until_form x y z w) ↔ (p ≡ (r || (q && s)))
  until_form_is {p} {q} {r} {s} rx ry rz rw' =
      rw (rx.value, rx.negation, ry.value, ry.negation, rz.value, rz.negation, rw'.value, rw'.negation) (tests (test p q r s))
    where
      test : (p q r s : Bool)
          → (p || (not r || false))
          && ((p || (not q || (not s || false))) && ((not p || (r || (q || false))) && ((not p || (r || (s || false))) && true)))
          ≡ beq p (r || (q && s))
      test true q true s = refl
      test true true false true = refl
      test true true false false = refl
      test true false false s = refl
      test false q true s = refl
      test false true false true = refl
      test false true false false = refl
      test false false false s = refl

  -- The duals.
  pub and_form_is : {x y z : ℤ} {p q r : Bool} → Reads a x p → Reads a y q → Reads a z r
      → Satisfies a (and_form x y z) ↔ (p ≡ (q && r))
  and_form_is {x} {y} {z} {p} {q} {r} rx ry rz =
      subst (λ (cs : List Clause). Satisfies a cs ↔ (p ≡ (q && r))) (sym (and_is_dual x y z))
      (Iff.trans (or_form_is (negated_reads rx) (negated_reads ry) (negated_reads rz)) (dual (not_and q r)))

  pub release_form_is : {x y z w : ℤ} {p q r s : Bool} → Reads a x p → Reads a y q → Reads a z r → Reads a w s
      → Satisfies a (release_form x y z w) ↔ (p ≡ (r && (q || s)))
  release_form_is {x} {y} {z} {w} {p} {q} {r} {s} rx ry rz rw' =
      subst (λ (cs : List Clause). Satisfies a cs ↔ (p ≡ (r && (q || s)))) (sym (release_is_dual x y z w))
      (Iff.trans (until_form_is (negated_reads rx) (negated_reads ry) (negated_reads rz) (negated_reads rw'))
      (dual (rw (not_and r (q || s), not_or q s))))

-- ════════ The clauses of the selectors ════════

module _ {a : Assignment} where
  pub guarded_form_is : {s x y : ℤ} {c p q : Bool} → Reads a s c → Reads a x p → Reads a y q
      → Satisfies a (guarded_form s x y) ↔ (c ≡ true → p ≡ q)
  guarded_form_is {c} rs rx ry = rw (rs.negation, or_in_front) (Iff.trans (true_where c _) (under (equal_form_is rx ry)))

  pub one_false_is : {s t : ℤ} {c d : Bool} → Reads a s c → Reads a t d
      → Satisfies a ((negated s ∷ negated t ∷ []) ∷ []) ↔ (c && d ≡ false)
  one_false_is {c} {d} rs rt = rw (rs.negation, rt.negation) (test c d)
    where
      test : (c d : Bool) → ((not c || (not d || false)) && true ≡ true) ↔ (c && d ≡ false)
      test true true = (λ e. sym e, λ e. sym e)
      test true false = (λ e. refl, λ e. refl)
      test false d = (λ e. refl, λ e. refl)

  -- Where the literal is true, one of the others is.
  pub some_where_is : {B : Type 0} {x : ℤ} {c : Bool} (f : B → ℤ) (bs : List B) → Reads a x c
      → Satisfies a ((negated x ∷ map f bs) ∷ []) ↔ (c ≡ true → some_of (λ b. literal_true a (f b)) bs ≡ true)
  some_where_is {c} f bs rx = rw (rx.negation, some_of_map (literal_true a) f bs, and-true) (true_where c _)

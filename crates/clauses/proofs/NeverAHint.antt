-- A clause with both signs of a variable serves no step: no hint of an accepted step names it. Assumes nothing.
use mathlib.Core.Path.{◌≡◌, refl, sym, ◌∙◌, ap}
use mathlib.Core.Logic.{◌⊎◌, inl, inr}
use mathlib.Core.Bool.{Bool, true, false, not, false≢true, true≢false}
use mathlib.Core.List.Memᴰ
use mathlib.Core.List.{List, [], ◌∷◌, map, Memᴰ}
use mathlib.Core.Option.{Option, none, some}
use Prim.Native.Nat.{ℕ, zero, suc}
use native.Mathlib.Omega.{arith}
use lib.IntN.{ℤ, pos, negsuc, pos-ne-negsuc}
use Rattle.answers.specs.Lists.{all_of, empty}
use Rattle.clauses.specs.Clauses.{Clause, negated, same, among}
use Rattle.clauses.specs.CnfWords.{is_0}
use Rattle.clauses.specs.Refutations.{Step, Lookup, Outcome, conflict, unit, neither, both_signs, not_false, outcome_of, outcome, outcome_if_any, hint_outcome, hints_conflict, step_accepted}
use Rattle.answers.proofs.Tests.{not_both, false_if_not_true, all_of_member, those_member}
use Rattle.clauses.proofs.Satisfaction.{eq_if_same, among_if_member, member_if_among, member_of_negated, negated_negated}
use Rattle.clauses.proofs.StepRule.{by_no_hints, by_hints, Clash, clash, both_signs_if, unit_open}

-- ════════ What is set has one sign ════════

no_own_negation : (w : ℤ) → is_0 w ≡ false → negated w ≡ w → ⊥
no_own_negation (pos zero) z e = true≢false z
no_own_negation (pos (suc n)) z e = pos-ne-negsuc (suc n) n (sym e)
no_own_negation (negsuc n) z e = pos-ne-negsuc (suc n) n e

-- Of what is set true no variable has both signs.
abbrev OneSign : List ℤ → Type 0
OneSign trues = (w : ℤ) → is_0 w ≡ false → Memᴰ w trues → Memᴰ (negated w) trues → ⊥

one_sign_first : (c : Clause) → both_signs c ≡ false → OneSign (map negated c)
one_sign_first c e w z m n =
    not_both (both_signs_if c w z (Memᴰ.cast (sym (negated_negated w)) (member_of_negated (negated w) c n)) (member_of_negated w c m)) e

one_sign_more : (u : ℤ) (trues : List ℤ) → among (negated u) trues ≡ false → OneSign trues → OneSign (u ∷ trues)
one_sign_more u trues f one w z m n = go (Memᴰ.cases_cons m) (Memᴰ.cases_cons n)
  where
    go : (w ≡ u) ⊎ Memᴰ w trues → (negated w ≡ u) ⊎ Memᴰ (negated w) trues → ⊥
    go (inl p) (inl q) = no_own_negation w z (q ∙ sym p)
    go (inl p) (inr n') = not_both (among_if_member (Memᴰ.cast (ap negated (sym p)) n')) f
    go (inr m') (inl q) = not_both (among_if_member (Memᴰ.cast (ap negated (sym q) ∙ negated_negated w) m')) f
    go (inr m') (inr n') = one w z m' n'

-- ════════ A clause with both signs gives nothing ════════

-- One of the two literals is true, or both have no value: the clause is neither unit nor conflict.
module _ (trues : List ℤ) (one : OneSign trues) (c : Clause) (k : Clash c) where
  abbrev w : ℤ
  w = k.literal

  -- Not false where its negation is not true.
  left_over : {v : ℤ} → Memᴰ v c → among (negated v) trues ≡ false → Memᴰ v (not_false trues c)
  left_over m f = those_member (λ v. not (among (negated v) trues)) m (ap not f)

  both_false : among (negated w) trues ≡ true → among (negated (negated w)) trues ≡ true → ⊥
  both_false p q =
      one w k.no_0 (Memᴰ.cast (sym (negated_negated w)) (member_if_among (negated (negated w)) trues q)) (member_if_among (negated w) trues p)

  -- A literal that is left over is the one that a unit would set.
  same_as_unit : (u : ℤ) (us : List ℤ) (v : ℤ) → all_of (same u) us ≡ true → Memᴰ v (u ∷ us) → u ≡ v
  same_as_unit u us v a m = go (Memᴰ.cases_cons m)
    where
      go : (v ≡ u) ⊎ Memᴰ v us → u ≡ v
      go (inl p) = sym p
      go (inr m') = eq_if_same u v (all_of_member (same u) m' a)

  no_conflict : not_false trues c ≡ [] → ⊥
  no_conflict e = go (among (negated w) trues) refl (among (negated (negated w)) trues) refl
    where
      go : (a : Bool) → among (negated w) trues ≡ a → (b : Bool) → among (negated (negated w)) trues ≡ b → ⊥
      go true p true q = both_false p q
      go false p b q = Memᴰ.not-nil (rw e at (left_over k.there p))
      go true p false q = Memᴰ.not-nil (rw e at (left_over k.other q))

  no_unit : (u : ℤ) (us : List ℤ) → not_false trues c ≡ u ∷ us → all_of (same u) us ≡ true → among u trues ≡ false → ⊥
  no_unit u us e a f = go (among (negated w) trues) refl (among (negated (negated w)) trues) refl
    where
      is : {v : ℤ} → Memᴰ v (not_false trues c) → u ≡ v
      is {v} m = same_as_unit u us v a (rw e at m)

      go : (x : Bool) → among (negated w) trues ≡ x → (y : Bool) → among (negated (negated w)) trues ≡ y → ⊥
      go true p true q = both_false p q
      go false p false q = no_own_negation w k.no_0 (sym (is (left_over k.other q)) ∙ is (left_over k.there p))
      go true p false q = not_both (rw (← is (left_over k.other q)) at p) f
      go false p true q = not_both (rw (negated_negated w, ← is (left_over k.there p)) at q) f

  gives_nothing : outcome trues c ≡ neither
  gives_nothing = go (not_false trues c) refl
    where
      go : (us : List ℤ) → not_false trues c ≡ us → outcome_of trues us ≡ neither
      go [] e = absurd (no_conflict e)
      go (u ∷ us) e = by (all_of (same u) us) refl (among u trues) refl
        where
          by : (a : Bool) → all_of (same u) us ≡ a → (b : Bool) → among u trues ≡ b → outcome_of trues (u ∷ us) ≡ neither
          by true p false q = absurd (no_unit u us e p q)
          by true p true q = rw (p, q)
          by false p b q = rw p

-- ════════ Hints of an accepted step ════════

none_of_empty : {A : Type 0} (xs : List A) → empty xs ≡ true → {x : A} → Memᴰ x xs → ⊥
none_of_empty [] e m = Memᴰ.not-nil m
none_of_empty (x ∷ xs) e m = false≢true e

module _ (named : Lookup) where
  unit_no_false : (trues : List ℤ) (o : Option Clause) (u : ℤ) → outcome_if_any trues o ≡ unit u → among (negated u) trues ≡ false
  unit_no_false trues none u e = absurd (let z : ◌≡◌ {A = ℕ} 0 1 = cc in omega arith)
  unit_no_false trues (some c) u e = (unit_open trues c e).no_false

  -- What a hint gives that names such a clause.
  gives : (trues : List ℤ) → OneSign trues → (h : ℕ) (c : Clause) → named h ≡ some c → both_signs c ≡ true → hint_outcome named trues h ≡ neither
  gives trues one h c q b = ap (outcome_if_any trues) q ∙ gives_nothing trues one c (clash c b)

  hints_one_sign : (hs : List ℕ) (trues : List ℤ) → OneSign trues → hints_conflict named trues hs ≡ true
      → {h : ℕ} → Memᴰ h hs → (c : Clause) → named h ≡ some c → both_signs c ≡ true → ⊥
  hints_one_sign [] trues one e m c q b = Memᴰ.not-nil m
  hints_one_sign (g ∷ hs) trues one e {h} m c q b =
      go (hint_outcome named trues g) refl (λ p. gives trues one g c (ap named (sym p) ∙ q) b) e (Memᴰ.cases_cons m)
      (λ u f r m'. hints_one_sign hs (u ∷ trues) (one_sign_more u trues (unit_no_false trues (named g) u f) one) r m' c q b)
    where
      go : (o : Outcome) → hint_outcome named trues g ≡ o → (h ≡ g → hint_outcome named trues g ≡ neither)
          → elim o as (λ x. Bool) [ conflict ↦ empty hs | unit u ↦ hints_conflict named (u ∷ trues) hs | neither ↦ false ] ≡ true
          → (h ≡ g) ⊎ Memᴰ h hs
          → ((u : ℤ) → hint_outcome named trues g ≡ unit u → hints_conflict named (u ∷ trues) hs ≡ true → Memᴰ h hs → ⊥) → ⊥
      go conflict f n r (inl p) later = let z : conflict ≡ neither = sym f ∙ n p in let y : ◌≡◌ {A = ℕ} 0 1 = cc in omega arith
      go conflict f n r (inr m') later = none_of_empty hs r m'
      go (unit u) f n r (inl p) later = let z : unit u ≡ neither = sym f ∙ n p in let y : ◌≡◌ {A = ℕ} 0 1 = cc in omega arith
      go (unit u) f n r (inr m') later = later u f r m'
      go neither f n r d later = false≢true r

  -- No hint of an accepted step names a clause with both signs of a variable.
  pub never_a_hint : (s : Step) → step_accepted named s ≡ true → {h : ℕ} → Memᴰ h s.hints → (c : Clause) → named h ≡ some c → both_signs c ≡ false
  never_a_hint s e {h} m c q = go (both_signs s.clause) refl
    where
      go : (signs : Bool) → both_signs s.clause ≡ signs → both_signs c ≡ false
      go true p = absurd (none_of_empty s.hints (sym (by_no_hints named s p) ∙ e) m)
      go false p =
          false_if_not_true (both_signs c)
          (hints_one_sign s.hints (map negated s.clause) (one_sign_first s.clause p) (sym (by_hints named s p) ∙ e) m c q)

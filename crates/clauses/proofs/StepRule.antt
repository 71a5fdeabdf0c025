-- The rule for one step: its two ways, what both signs of a variable make of a clause, and what a unit is. Assumes nothing.
use mathlib.Core.Path.{◌≡◌, refl, ◌∙◌, ap}
use mathlib.Core.Bool.{Bool, true, false, not, cond, ◌&&◌}
use mathlib.Core.List.{List, [], ◌∷◌, map, Memᴰ}
use Prim.Native.Nat.{ℕ}
use native.Mathlib.Omega.{arith}
use borrow.Author.Tests.{not-true}
use lib.IntN.{ℤ}
use Rattle.answers.specs.Lists.{all_of, empty}
use Rattle.clauses.specs.Clauses.{Clause, Assignment, literal_true, clause_true, negated, same, among}
use Rattle.clauses.specs.CnfWords.{is_0}
use Rattle.clauses.specs.Refutations.{Step, Lookup, unit, neither, both_signs, not_false, outcome_of, outcome, hints_conflict, step_accepted}
use Rattle.answers.proofs.Tests.{first_true, second_true, both_true, some_of_member, some_of_witness, of_those, those_pass}
use Rattle.clauses.proofs.Satisfaction.{among_if_member, member_if_among, literal_true_negated}

-- ════════ The two ways ════════

module _ (named : Lookup) (s : Step) where
  -- Both signs of a variable: accepted exactly if there are no hints.
  pub by_no_hints : both_signs s.clause ≡ true → step_accepted named s ≡ empty s.hints
  unfolding step_accepted
  by_no_hints e = rw e

  -- No variable with both signs: the literals are set false, and the hints taken in order.
  pub by_hints : both_signs s.clause ≡ false → step_accepted named s ≡ hints_conflict named (map negated s.clause) s.hints
  unfolding step_accepted
  by_hints e = rw e

-- ════════ A clause with both signs of a variable ════════

module _ (c : Clause) where
  -- A literal of it whose negation is one too.
  pub record Clash : Type 0 where
    pub literal : ℤ
    pub no_0 : is_0 literal ≡ false
    pub there : Memᴰ literal c
    pub other : Memᴰ (negated literal) c

  pub clash : both_signs c ≡ true → Clash
  clash e =
      let v = some_of_witness (λ w. not (is_0 w) && among (negated w) c) c e in
      record {
        literal = v.0;
        no_0 = not-true (is_0 v.0) (first_true (not (is_0 v.0)) (among (negated v.0) c) v.2);
        there = v.1;
        other = member_if_among (negated v.0) c (second_true (not (is_0 v.0)) (among (negated v.0) c) v.2);
      }

  pub both_signs_if : (w : ℤ) → is_0 w ≡ false → Memᴰ w c → Memᴰ (negated w) c → both_signs c ≡ true
  both_signs_if w z m n = some_of_member (λ v. not (is_0 v) && among (negated v) c) m (both_true (ap not z) (among_if_member n))

  -- It is the constant true: whatever value its variable has, one of the two literals is true.
  pub trivially_true : both_signs c ≡ true → (a : Assignment) → clause_true a c ≡ true
  trivially_true e a = go (literal_true a k.literal) refl
    where
      k : Clash
      k = clash e

      go : (b : Bool) → literal_true a k.literal ≡ b → clause_true a c ≡ true
      go true p = some_of_member (literal_true a) k.there p
      go false p = some_of_member (literal_true a) k.other (literal_true_negated a k.literal k.no_0 ∙ ap not p)

-- ════════ What a unit is ════════

pub is_unit : (b : Bool) (u x : ℤ) → cond b (unit u) neither ≡ unit x → (b ≡ true) × (u ≡ x)
is_unit true u x e = (refl, cc)
is_unit false u x e = absurd (let z : ◌≡◌ {A = ℕ} 0 1 = cc in omega arith)

-- One of the clause's literals, with no value yet.
pub record Open (trues : List ℤ) (c : Clause) (u : ℤ) : Type 0 where
  pub of_clause : Memᴰ u c
  pub no_true : among u trues ≡ false
  pub no_false : among (negated u) trues ≡ false

module _ (trues : List ℤ) where
  abbrev is_not_false : ℤ → Bool
  is_not_false w = not (among (negated w) trues)

  pub unit_open : (c : Clause) {u : ℤ} → outcome trues c ≡ unit u → Open trues c u
  unit_open c {u} e = go (not_false trues c) (λ w m. of_those is_not_false c m) (those_pass is_not_false c) e
    where
      go : (us : List ℤ) → ((w : ℤ) → Memᴰ w us → Memᴰ w c) → all_of is_not_false us ≡ true → outcome_of trues us ≡ unit u
          → Open trues c u
      go [] from pass f = absurd (let z : ◌≡◌ {A = ℕ} 0 1 = cc in omega arith)
      go (v ∷ vs) from pass f =
          let is = is_unit (all_of (same v) vs && not (among v trues)) v u f in
          rw (← is.1)
          (record {
            of_clause = from v (Memᴰ.head refl);
            no_true = not-true (among v trues) (second_true (all_of (same v) vs) (not (among v trues)) is.0);
            no_false = not-true (among (negated v) trues) (first_true (is_not_false v) (all_of is_not_false vs) pass);
          })

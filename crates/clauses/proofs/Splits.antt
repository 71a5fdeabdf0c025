-- The clause that denies values of variables, and when the rule accepts it. Assumes nothing.
use mathlib.Core.Path.{◌≡◌, refl, sym, ◌∙◌, ap}
use mathlib.Core.Logic.{◌⊎◌, inl, inr}
use mathlib.Core.Bool.{Bool, true, false, not, false≢true, not-not}
use mathlib.Core.List.Memᴰ
use mathlib.Core.List.{List, [], ◌∷◌, map, Memᴰ}
use Prim.Native.Nat.{ℕ, zero, suc, ◌+◌, ◌≤◌, ◌<◌}
use native.Mathlib.Nat.{le_refl, not-suc-le-zero, le_of_suc-le-suc, add-zero, zero-add}
use native.Mathlib.Omega.{arith}
use borrow.Author.Tests.{leb-true, le-leb}
use lib.IntN.{ℤ, pos, negsuc, pos-ne-negsuc}
use lib.Dec.{leb}
use lib.ListN.{length, get_or}
use Rattle.answers.specs.Lists.{all_of}
use Rattle.clauses.specs.Clauses.{Clause, Assignment, negated, variable_of, literal_true, clause_true, literal_within, among}
use Rattle.clauses.specs.Refutations.{step, both_signs, not_false, unit, outcome_of, outcome, hint_outcome, hints_conflict, clause_numbered}
use Rattle.answers.proofs.Tests.{both_true, second_true, false_if_not_true, all_of_member}
use Rattle.clauses.proofs.Satisfaction.{among_if_member, member_if_among, member_of_negated, false_literal, variable_of_negated}
use Rattle.clauses.proofs.Lookups.{numbered_some}
use Rattle.clauses.proofs.StepRule.{by_hints, clash}
use Rattle.clauses.proofs.Derivations.{names_one_of, RightStep}

-- ════════ The clause that denies values ════════

-- The literal over variable i + 1 that this value makes false.
abbrev pub denial : ℕ → Bool → ℤ
denial i true = negsuc i
denial i false = pos (suc i)

-- The literals that values of variables i + 1, i + 2, .. make false.
abbrev pub denials : ℕ → List Bool → Clause
denials i [] = []
denials i (b ∷ bs) = denial i b ∷ denials (suc i) bs

variable_of_denial : (i : ℕ) (b : Bool) → variable_of (denial i b) ≡ suc i
variable_of_denial i true = refl
variable_of_denial i false = refl

denials_above : (i : ℕ) (bs : List Bool) {w : ℤ} → Memᴰ w (denials i bs) → i < variable_of w
denials_above i [] m = absurd (Memᴰ.not-nil m)
denials_above i (b ∷ bs) {w} m = go (Memᴰ.cases_cons m) (λ m'. denials_above (suc i) bs m')
  where
    go : (w ≡ denial i b) ⊎ Memᴰ w (denials (suc i) bs) → (Memᴰ w (denials (suc i) bs) → suc i < variable_of w)
        → i < variable_of w
    go (inl p) above = rw (p, variable_of_denial i b) (omega arith)
    go (inr m') above = let l = above m' in omega arith

pub denials_within : (variables i : ℕ) (bs : List Bool) → i + length bs ≤ variables
    → all_of (literal_within variables) (denials i bs) ≡ true
denials_within variables i [] l = refl
denials_within variables i (b ∷ bs) l =
    rw (variable_of_denial i b, le-leb 1 (suc i) (omega arith), le-leb (suc i) variables (omega arith))
    (denials_within variables (suc i) bs (omega arith))

-- ════════ No variable with both signs ════════

negated_denial : (i : ℕ) (b : Bool) → negated (denial i b) ≡ denial i b → ⊥
negated_denial i true p = pos-ne-negsuc (suc i) i p
negated_denial i false p = pos-ne-negsuc (suc i) i (sym p)

not_both_ways : (i : ℕ) (bs : List Bool) (w : ℤ) → Memᴰ w (denials i bs) → Memᴰ (negated w) (denials i bs) → ⊥
not_both_ways i [] w m n = Memᴰ.not-nil m
not_both_ways i (b ∷ bs) w m n = go (Memᴰ.cases_cons m) (Memᴰ.cases_cons n) (not_both_ways (suc i) bs w)
  where
    go : (w ≡ denial i b) ⊎ Memᴰ w (denials (suc i) bs) → (negated w ≡ denial i b) ⊎ Memᴰ (negated w) (denials (suc i) bs)
        → (Memᴰ w (denials (suc i) bs) → Memᴰ (negated w) (denials (suc i) bs) → ⊥) → ⊥
    go (inl p) (inl q) later = negated_denial i b (ap negated (sym p) ∙ q)
    go (inl p) (inr n') later =
        let l = denials_above (suc i) bs n' in
        let e : variable_of (negated w) ≡ suc i = variable_of_negated w ∙ ap variable_of p ∙ variable_of_denial i b in
        omega arith
    go (inr m') (inl q) later =
        let l = denials_above (suc i) bs m' in
        let e : variable_of w ≡ suc i = sym (variable_of_negated w) ∙ ap variable_of q ∙ variable_of_denial i b in
        omega arith
    go (inr m') (inr n') later = later m' n'

denials_one_sign : (i : ℕ) (bs : List Bool) → both_signs (denials i bs) ≡ false
denials_one_sign i bs = false_if_not_true (both_signs (denials i bs)) both
  where
    both : both_signs (denials i bs) ≡ true → ⊥
    both e = let k = clash (denials i bs) e in not_both_ways i bs k.literal k.there k.other

-- ════════ Literals that are not false ════════

none_not_false : (trues : List ℤ) (c : Clause) → ((w : ℤ) → Memᴰ w c → Memᴰ (negated w) trues) → not_false trues c ≡ []
none_not_false trues [] h = refl
none_not_false trues (w ∷ c) h =
    rw (among_if_member (h w (Memᴰ.head refl))) (none_not_false trues c (λ v m. h v (Memᴰ.tail m)))

self_denied : (c : Clause) → not_false (map negated c) c ≡ []
self_denied c = none_not_false (map negated c) c (λ w m. Memᴰ.map negated m)

-- A variable before those of the values has no value yet.
no_value_yet : (i : ℕ) (bs : List Bool) (w : ℤ) → variable_of w ≤ i → among w (map negated (denials i bs)) ≡ false
no_value_yet i bs w l = false_if_not_true (among w (map negated (denials i bs))) set
  where
    set : among w (map negated (denials i bs)) ≡ true → ⊥
    set e =
        let m = denials_above i bs (member_of_negated w (denials i bs) (member_if_among w (map negated (denials i bs)) e)) in
        omega (arith, variable_of_negated w)

-- ════════ Hints ════════

module _ (cs : List Clause) (trues : List ℤ) (n : ℕ) (l : n < length cs) where
  names_clause : names_one_of (length cs) (suc n) ≡ true
  names_clause = both_true (le-leb 1 (suc n) (omega arith)) (le-leb (suc n) (length cs) l)

  hint_taken : hint_outcome (clause_numbered cs) trues (suc n) ≡ outcome trues (get_or cs n [])
  hint_taken = rw (numbered_some cs n l)

  conflict_at : not_false trues (get_or cs n []) ≡ [] → hints_conflict (clause_numbered cs) trues (suc n ∷ []) ≡ true
  conflict_at e = rw (hint_taken ∙ ap (outcome_of trues) e, hints_conflict)

  unit_at : (u : ℤ) (hs : List ℕ) → not_false trues (get_or cs n []) ≡ u ∷ [] → among u trues ≡ false
      → hints_conflict (clause_numbered cs) trues (suc n ∷ hs) ≡ hints_conflict (clause_numbered cs) (u ∷ trues) hs
  unit_at u hs e f =
      let g : hint_outcome (clause_numbered cs) trues (suc n) ≡ unit u = hint_taken ∙ ap (outcome_of trues) e ∙ rw f in
      rw (g, hints_conflict)

-- ════════ The rule accepts denials ════════

-- The literal that the value of a variable makes false is one of the denials.
value_denied : (i v : ℕ) (bs : List Bool) → v < length bs → Memᴰ (denial (i + v) (get_or bs v false)) (denials i bs)
value_denied i v [] l = absurd (not-suc-le-zero l)
value_denied i zero (b ∷ bs) l = Memᴰ.head (ap (λ (k : ℕ). denial k b) (add-zero i))
value_denied i (suc v) (b ∷ bs) l =
    Memᴰ.tail (Memᴰ.cast (ap (λ (k : ℕ). denial k (get_or bs v false)) (omega arith)) (value_denied (suc i) v bs (le_of_suc-le-suc l)))

false_literal_denied : (a : Assignment) (w : ℤ) → literal_within (length a) w ≡ true → literal_true a w ≡ false → Memᴰ w (denials 0 a)
false_literal_denied a (pos zero) e f = absurd (false≢true e)
false_literal_denied a (pos (suc v)) e f =
    let m = value_denied 0 v a (leb-true (suc v) (length a) (second_true (leb 1 (suc v)) (leb (suc v) (length a)) e)) in
    rw (zero-add, f) at m
false_literal_denied a (negsuc v) e f =
    let m = value_denied 0 v a (leb-true (suc v) (length a) (second_true (leb 1 (suc v)) (leb (suc v) (length a)) e)) in
    rw (zero-add, sym (not-not (get_or a v false)) ∙ ap not f) at m

module _ (variables : ℕ) (cs : List Clause) where
  -- All values given, and a clause that is false under them.
  pub leaf_right : (a : Assignment) (n : ℕ) → length a ≡ variables → n < length cs → all_of (literal_within variables) (get_or cs n []) ≡ true
      → clause_true a (get_or cs n []) ≡ false → RightStep variables cs (step (denials 0 a) (suc n ∷ []))
  leaf_right a n e l w f = record {
    accepted = by_hints (clause_numbered cs) _ (denials_one_sign 0 a) ∙ conflict_at cs (map negated (denials 0 a)) n l all_false;
    within = denials_within variables 0 a (omega arith);
    earlier = both_true (names_clause cs [] n l) refl;
  }
    where
      denied : (v : ℤ) → Memᴰ v (get_or cs n []) → Memᴰ v (denials 0 a)
      denied v m = false_literal_denied a v (all_of_member (literal_within (length a)) m (rw (← e) at w)) (false_literal a m f)

      all_false : not_false (map negated (denials 0 a)) (get_or cs n []) ≡ []
      all_false = none_not_false (map negated (denials 0 a)) (get_or cs n []) (λ v m. Memᴰ.map negated (denied v m))

  -- The two clauses that deny either value of variable i + 1 too.
  pub split_right : (i : ℕ) (bs : List Bool) (m n : ℕ) → suc i + length bs ≤ variables → m < length cs → n < length cs
      → get_or cs m [] ≡ denials i (false ∷ bs) → get_or cs n [] ≡ denials i (true ∷ bs)
      → RightStep variables cs (step (denials (suc i) bs) (suc m ∷ suc n ∷ []))
  split_right i bs m n l lm ln p q = record {
    accepted = by_hints (clause_numbered cs) _ (denials_one_sign (suc i) bs) ∙ first_hint ∙ second_hint;
    within = denials_within variables (suc i) bs l;
    earlier = both_true (names_clause cs [] m lm) (both_true (names_clause cs [] n ln) refl);
  }
    where
      trues : List ℤ
      trues = map negated (denials (suc i) bs)

      one_left : not_false trues (get_or cs m []) ≡ pos (suc i) ∷ []
      one_left = rw (p, no_value_yet (suc i) bs (negsuc i) (le_refl (suc i)), self_denied (denials (suc i) bs))

      first_hint : hints_conflict (clause_numbered cs) trues (suc m ∷ suc n ∷ []) ≡ hints_conflict (clause_numbered cs) (pos (suc i) ∷ trues) (suc n ∷ [])
      first_hint =
          unit_at cs trues m lm (pos (suc i)) (suc n ∷ []) one_left (no_value_yet (suc i) bs (pos (suc i)) (le_refl (suc i)))

      second_hint : hints_conflict (clause_numbered cs) (pos (suc i) ∷ trues) (suc n ∷ []) ≡ true
      second_hint = conflict_at cs (pos (suc i) ∷ trues) n ln (rw q (self_denied (denials i (true ∷ bs))))

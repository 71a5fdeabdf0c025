-- A step's clause set false in the area by numbers, and clauses in which a variable has both signs. Assumes nothing.
use mathlib.Core.Bool.{Bool, true, false, not, ◌&&◌, ◌||◌, or-true, or-false, or_comm}
use mathlib.Core.Path.{◌≡◌, refl, sym, ap, ap₂, ◌∙◌, fun_ext}
use mathlib.Core.List.{List, [], ◌∷◌, ◌++◌, map, map-append}
use Prim.Native.Nat.{ℕ, zero, suc, ◌+◌, ◌<◌}
use native.Mathlib.Omega.{arith}
use borrow.Author.Tests.{eq-eqb, ne_eqb, eqb-true, eqb-false}
use lib.IntN.{ℤ, pos, negsuc, neg_ℤ-neg_ℤ}
use lib.Dec.{eqb, eqb-zero-suc, eqb-suc-zero, eqb-suc-suc}
use lib.ListN.{set, take, drop, take-append-drop}
use Rattle.answers.proofs.Tests.{both_true, first_true, second_true, some_of_append, some_of_map}
use Rattle.clauses.proofs.Satisfaction.{variable_of_negated}
use Rattle.clauses.proofs.Signs.{word}
use Rattle.answers.specs.Lists.{some_of}
use Rattle.clauses.specs.Clauses.{negated, variable_of, literal_within, same, among}
use Rattle.clauses.specs.CnfWords.{is_0}
use Rattle.clauses.specs.Refutations.{both_signs}
use Rattle.refutation.specs.Work.{mark_of, cell, Values, Marked}
use Rattle.refutation.proofs.ClauseLiterals.{LiteralAt, literal_at, same_sym, other_sign, within_at, within_at_least, within_negated, take_more}
use Rattle.refutation.proofs.SetTrue.{marked_true, values_true}

-- ════════ Tests on lists ════════

module _ {A : Type 0} where
  some_or : (f g : A → Bool) (xs : List A) → some_of (λ x. f x || g x) xs ≡ (some_of f xs || some_of g xs)
  some_or f g [] = refl
  some_or f g (x ∷ xs) = rw (some_or f g xs) (or_swap (f x) (g x) (some_of f xs) (some_of g xs))
    where
      or_swap : (a b c d : Bool) → ((a || b) || (c || d)) ≡ ((a || c) || (b || d))
      or_swap true b c d = refl
      or_swap false true true d = refl
      or_swap false true false d = refl
      or_swap false false c d = refl

  some_more : (f g : A → Bool) → ((x : A) → f x ≡ true → g x ≡ true) → (xs : List A) → some_of f xs ≡ true → some_of g xs ≡ true
  some_more f g h [] e = e
  some_more f g h (x ∷ xs) e = go (f x) refl e (some_more f g h xs)
    where
      go : (b : Bool) → f x ≡ b → (b || some_of f xs) ≡ true → (some_of f xs ≡ true → some_of g xs ≡ true) → (g x || some_of g xs) ≡ true
      go true q e' rest = rw (h x q) refl
      go false q e' rest = rw (rest e') (or-true (g x))

-- ════════ Clauses with both signs of a variable ════════

same_negated : (x y : ℤ) → same (negated x) y ≡ same x (negated y)
same_negated (pos zero) (pos zero) = refl
same_negated (pos zero) (pos (suc n)) = eqb-zero-suc n
same_negated (pos zero) (negsuc n) = sym (eqb-zero-suc n)
same_negated (pos (suc m)) (pos zero) = sym (eqb-suc-zero m)
same_negated (pos (suc m)) (pos (suc n)) = refl
same_negated (pos (suc m)) (negsuc n) = sym (eqb-suc-suc m n)
same_negated (negsuc m) (pos zero) = eqb-suc-zero m
same_negated (negsuc m) (pos (suc n)) = eqb-suc-suc m n
same_negated (negsuc m) (negsuc n) = refl

literal_not_0 : (w : ℤ) → 0 < variable_of w → is_0 w ≡ false
literal_not_0 (pos zero) l = absurd (omega arith)
literal_not_0 (pos (suc n)) l = refl
literal_not_0 (negsuc n) l = refl

not_same_0 : (w : ℤ) → 0 < variable_of w → same w (pos 0) ≡ false
not_same_0 (pos zero) l = absurd (omega arith)
not_same_0 (pos (suc n)) l = eqb-suc-zero n
not_same_0 (negsuc n) l = refl

-- The literal has its negation among these.
abbrev clashes_in : List ℤ → ℤ → Bool
clashes_in p x = not (is_0 x) && among (negated x) p

-- The last literal of a clause clashes where its negation stands before it.
module _ (w : ℤ) (p : List ℤ) (l : 0 < variable_of w) where
  among_more : (x : ℤ) → among (negated x) (p ++ (w ∷ [])) ≡ (among (negated x) p || same w (negated x))
  among_more x = some_of_append (same (negated x)) p (w ∷ []) ∙ ap (λ b. among (negated x) p || b) (or-false (same (negated x) w) ∙ same_sym (negated x) w)

  clashes_more : (x : ℤ) → clashes_in (p ++ (w ∷ [])) x ≡ (clashes_in p x || same w (negated x))
  clashes_more (pos zero) = sym (not_same_0 w l)
  clashes_more (pos (suc n)) = among_more (pos (suc n))
  clashes_more (negsuc n) = among_more (negsuc n)

  turned : some_of (λ x. same w (negated x)) p ≡ among w (map negated p)
  turned = sym (some_of_map (same w) negated p)

  clash_before : some_of (clashes_in (p ++ (w ∷ []))) p ≡ (both_signs p || among w (map negated p))
  clash_before =
      ap (λ f. some_of f p) (fun_ext clashes_more) ∙ some_or (clashes_in p) (λ x. same w (negated x)) p ∙ ap (λ b. both_signs p || b) turned

  own_clash : clashes_in (p ++ (w ∷ [])) w ≡ among w (map negated p)
  own_clash =
      clashes_more w ∙ rw (literal_not_0 w l, other_sign w l, or-false (among (negated w) p)) (ap (λ f. some_of f p) (fun_ext (same_negated w)) ∙ turned)

  both_signs_more : both_signs (p ++ (w ∷ [])) ≡ (both_signs p || among w (map negated p))
  both_signs_more =
      some_of_append (clashes_in (p ++ (w ∷ []))) p (w ∷ [])
      ∙ ap₂ (λ a b. a || (b || false)) clash_before own_clash
      ∙ tidy (both_signs p) (among w (map negated p))
    where
      tidy : (a b : Bool) → ((a || b) || (b || false)) ≡ (a || b)
      tidy true b = refl
      tidy false true = refl
      tidy false false = refl

both_signs_longer : (p q : List ℤ) → both_signs p ≡ true → both_signs (p ++ q) ≡ true
both_signs_longer p q e =
    some_of_append (clashes_in (p ++ q)) p q
    ∙ ap (λ b. b || some_of (clashes_in (p ++ q)) q) (some_more (clashes_in p) (clashes_in (p ++ q)) more p e)
  where
    more : (x : ℤ) → clashes_in p x ≡ true → clashes_in (p ++ q) x ≡ true
    more x h =
        let here = second_true (not (is_0 x)) (among (negated x) p) h in
        both_true (first_true (not (is_0 x)) (among (negated x) p) h)
        (some_of_append (same (negated x)) p q ∙ ap (λ b. b || among (negated x) q) here)

-- ════════ set_false ════════

values_swap : (variables stamp : ℕ) (w : ℤ) (trues : List ℤ) (area : List ℕ) → Values variables stamp (w ∷ trues) area → Values variables stamp (trues ++ (w ∷ [])) area
values_swap variables stamp w trues area vs =
    record { said = λ x h. vs.said x h ∙ or_comm (same x w) (among x trues) ∙ ap (λ b. among x trues || b) (sym (or-false (same x w))) ∙ sym (some_of_append (same x) trues (w ∷ [])) }

-- How the area stands after the literals of p are set false.
pub record SetFalse (variables stamp : ℕ) (before : List ℕ) (p : List ℤ) (area : List ℕ) : Type 0 where
  pub marked : Marked variables stamp before area
  pub values : Values variables stamp (map negated p) area
  pub one_sign : both_signs p ≡ false

module _ (variables stamp : ℕ) (before area : List ℕ) (p : List ℤ) (w : ℤ) (inside : literal_within variables w ≡ true) (sf : SetFalse variables stamp before p area) where
  module _ (differs : cell area w ≡ mark_of stamp w → ⊥) where
    not_true_yet : among w (map negated p) ≡ false
    not_true_yet = sym (sf.values.said w inside) ∙ ne_eqb (cell area w) (mark_of stamp w) differs

    set_false_more : SetFalse variables stamp before (p ++ (w ∷ [])) (set area (variable_of w) (mark_of stamp (negated w)))
    set_false_more =
        let room = sf.marked.not_later.room in
        let inside' = within_negated variables w inside in
        let m : Marked variables stamp area (set area (variable_of w) (mark_of stamp (negated w))) =
        rw (variable_of_negated w) at (marked_true variables stamp (negated w) area inside' room sf.marked.not_later) in
        let vs : Values variables stamp (negated w ∷ map negated p) (set area (variable_of w) (mark_of stamp (negated w))) =
        rw (variable_of_negated w) at (values_true variables stamp (negated w) area inside' room (map negated p) sf.values (rw (neg_ℤ-neg_ℤ w) not_true_yet)) in
        record {
          marked = record { not_later = m.not_later; past = m.past ∙ sf.marked.past };
          values = rw (map-append negated p (w ∷ [])) (values_swap variables stamp (negated w) (map negated p) _ vs);
          one_sign = both_signs_more w p (within_at_least variables w inside) ∙ rw (sf.one_sign, not_true_yet) refl;
        }

  set_false_clash : cell area w ≡ mark_of stamp w → both_signs (p ++ (w ∷ [])) ≡ true
  set_false_clash e =
      both_signs_more w p (within_at_least variables w inside)
      ∙ rw (← sf.values.said w inside, eq-eqb (cell area w) (mark_of stamp w) e) (or-true (both_signs p))

-- The literal of a place, read back from its bits.
module _ {variables stamp : ℕ} {clause : List ℤ} {before area : List ℕ} {i : ℕ} (t : LiteralAt variables clause i)
    (sf : SetFalse variables stamp before (take i clause) area) (w-is : word (literal_at clause i) ≡ literal_at clause i)
  where
    abbrev w : ℤ
    w = word (literal_at clause i)

    pub set_false_turn : {v m : ℕ} → eqb (cell area w) (mark_of stamp w) ≡ false → v ≡ variable_of w → m ≡ mark_of stamp (negated w)
        → SetFalse variables stamp before (take (i + 1) clause) (set area v m)
    set_false_turn e v-is m-is =
        rw (take_more t, v-is, m-is, w-is)
        (set_false_more variables stamp before area (take i clause) (literal_at clause i) (within_at t) sf (eqb-false _ _ (rw w-is at e)))

    pub set_false_stop : eqb (cell area w) (mark_of stamp w) ≡ true → false ≡ not (both_signs clause)
    set_false_stop e =
        let clash = set_false_clash variables stamp before area (take i clause) (literal_at clause i) (within_at t) sf (eqb-true _ _ (rw w-is at e)) in
        let both : both_signs clause ≡ true =
        rw (← take-append-drop (i + 1) clause, take_more t) (both_signs_longer (take i clause ++ (literal_at clause i ∷ [])) (drop (i + 1) clause) clash) in
        rw both

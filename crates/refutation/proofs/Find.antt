-- What the literals of a clause give, taken one by one. Assumes nothing.
use mathlib.Core.Bool.{Bool, true, false, not, ◌&&◌, cond, and-false, and-eq-true_iff}
use mathlib.Core.Path.{◌≡◌, refl, sym, ap, ◌∙◌}
use mathlib.Core.List.{List, [], ◌∷◌, ◌++◌}
use Prim.Native.Nat.{ℕ, suc, ◌+◌}
use lib.IntN.{ℤ, pos}
use lib.Dec.{eqb}
use lib.ListN.{take, drop}
use lib.Seq.{split_at}
use mir.Syntax.{w32}
use mir.Val.{to_z, of_z}
use Rattle.std.specs.Prelude.{Option, Some, None, unwrap_or}
use Rattle.answers.proofs.Tests.{false_if_not_true, all_of_append, those_append}
use Rattle.clauses.proofs.Satisfaction.{same_self, eq_if_same, variable_of_negated}
use Rattle.clauses.proofs.Signs.{word}
use Rattle.clauses.proofs.StepRule.{is_unit}
use Rattle.answers.specs.Lists.{all_of}
use Rattle.clauses.specs.Clauses.{negated, same, among}
use Rattle.clauses.specs.Refutations.{Outcome, conflict, unit, neither, not_false, outcome_of, outcome}
use Rattle.refutation.specs.Work.{mark_of, cell, Values}
use Rattle.refutation.proofs.ClauseLiterals.{LiteralAt, literal_at, within_at, within_negated, take_more}

-- A list with a first literal never gives the conflict.
no_conflict : (b : Bool) (u : ℤ) → cond b (unit u) neither ≡ conflict → ⊥
no_conflict true u e = cc
no_conflict false u e = cc

module _ (trues : List ℤ) where
  other_neither : (u w : ℤ) (us ms : List ℤ) → same u w ≡ false → outcome_of trues ((u ∷ us) ++ (w ∷ ms)) ≡ neither
  other_neither u w us ms e = rw (all_of_append (same u) us (w ∷ ms), e, and-false (all_of (same u) us))

  true_neither : (w : ℤ) (ns ms : List ℤ) → among w trues ≡ true → outcome_of trues (ns ++ (w ∷ ms)) ≡ neither
  true_neither w [] ms h = rw (h, and-false (all_of (same w) ms))
  true_neither w (u ∷ us) ms h = go (same u w) refl
    where
      go : (b : Bool) → same u w ≡ b → outcome_of trues ((u ∷ us) ++ (w ∷ ms)) ≡ neither
      go true e = rw (eq_if_same u w e, h, and-false (all_of (same w) (us ++ (w ∷ ms))))
      go false e = other_neither u w us ms e

  unit_first : (w : ℤ) (ns : List ℤ) → among w trues ≡ false → outcome_of trues ns ≡ conflict → outcome_of trues (ns ++ (w ∷ [])) ≡ unit w
  unit_first w [] h e = rw h
  unit_first w (u ∷ us) h e = absurd (no_conflict (all_of (same u) us && not (among u trues)) u e)

  unit_again : (w : ℤ) (ns : List ℤ) → outcome_of trues ns ≡ unit w → outcome_of trues (ns ++ (w ∷ [])) ≡ unit w
  unit_again w [] e = cc
  unit_again w (u ∷ us) e =
      let is = is_unit (all_of (same u) us && not (among u trues)) u w e in
      let both = (and-eq-true_iff (all_of (same u) us) (not (among u trues))).0 is.0 in
      rw (all_of_append (same u) us (w ∷ []), both.0, both.1, ← is.1, same_self u)

  unit_other : (w x : ℤ) (ns ms : List ℤ) → outcome_of trues ns ≡ unit x → (x ≡ w → ⊥) → outcome_of trues (ns ++ (w ∷ ms)) ≡ neither
  unit_other w x [] ms e n = cc
  unit_other w x (u ∷ us) ms e n =
      let is = is_unit (all_of (same u) us && not (among u trues)) u x e in
      other_neither u w us ms (false_if_not_true (same u w) (λ q. n (sym is.1 ∙ eq_if_same u w q)))

  outcome_kept : (p q : List ℤ) (w : ℤ) → among (negated w) trues ≡ false → outcome trues (p ++ (w ∷ q)) ≡ outcome_of trues (not_false trues p ++ (w ∷ not_false trues q))
  outcome_kept p q w h = rw (those_append (λ x. not (among (negated x) trues)) p (w ∷ q), h)

-- What the literals so far give, by the one that is not false.
abbrev pub so_far : Option ℤ → Outcome
so_far None = conflict
so_far (Some u) = unit u

pub record LiteralsGive (variables stamp : ℕ) (area : List ℕ) (p : List ℤ) (u : Option ℤ) : Type 0 where
  pub gives : (trues : List ℤ) → Values variables stamp trues area → outcome trues p ≡ so_far u

-- The literal of a place, read back from its bits.
module _ {variables stamp : ℕ} {clause : List ℤ} {area : List ℕ} {i : ℕ} {u : Option ℤ} (t : LiteralAt variables clause i)
    (g : LiteralsGive variables stamp area (take i clause) u) (w-is : word (literal_at clause i) ≡ literal_at clause i)
  where
    abbrev w : ℤ
    w = literal_at clause i

    abbrev as_read : ℤ
    as_read = word w

    false_said : (trues : List ℤ) → Values variables stamp trues area → eqb (cell area w) (mark_of stamp (negated w)) ≡ among (negated w) trues
    false_said trues vs = rw (variable_of_negated w) at (vs.said (negated w) (within_negated variables w (within_at t)))

    module _ (kept : eqb (cell area as_read) (mark_of stamp (negated as_read)) ≡ false) where
      kept_here : (trues : List ℤ) → Values variables stamp trues area → among (negated w) trues ≡ false
      kept_here trues vs = sym (false_said trues vs) ∙ rw w-is at kept

      whole : (trues : List ℤ) → Values variables stamp trues area → outcome trues clause ≡ outcome_of trues (not_false trues (take i clause) ++ (w ∷ not_false trues (drop (suc i) clause)))
      whole trues vs =
          ap (outcome trues) (split_at clause i (pos 0) t.below) ∙ outcome_kept trues (take i clause) (drop (suc i) clause) w (kept_here trues vs)

      pub find_true : eqb (cell area as_read) (mark_of stamp as_read) ≡ true → (trues : List ℤ) → Values variables stamp trues area → neither ≡ outcome trues clause
      find_true e trues vs =
          let here = rw w-is at e in
          sym (whole trues vs ∙ true_neither trues w (not_false trues (take i clause)) (not_false trues (drop (suc i) clause)) (sym (vs.said w (within_at t)) ∙ here))

      one_more : ((trues : List ℤ) → Values variables stamp trues area → outcome_of trues (not_false trues (take i clause) ++ (w ∷ [])) ≡ unit w)
          → LiteralsGive variables stamp area (take (i + 1) clause) (Some as_read)
      one_more is =
          rw (take_more t, w-is)
          (record { gives = λ trues vs. outcome_kept trues (take i clause) [] w (kept_here trues vs) ∙ is trues vs })

      -- The unit so far, or the literal itself where there is none.
      module _ {r : ℤ} (r-is : r ≡ unwrap_or u as_read) where
        pub find_other : (of_z w32 r ≡ of_z w32 w → ⊥) → (trues : List ℤ) → Values variables stamp trues area → neither ≡ outcome trues clause
        find_other differs trues vs = go u refl r-is
          where
            go : (v : Option ℤ) → u ≡ v → r ≡ unwrap_or v as_read → neither ≡ outcome trues clause
            go None z e = absurd (differs (ap (of_z w32) (e ∙ w-is)))
            go (Some x) z e =
                sym (whole trues vs
                ∙ unit_other trues w x (not_false trues (take i clause)) (not_false trues (drop (suc i) clause)) (g.gives trues vs ∙ ap so_far z)
                (λ q. differs (ap (of_z w32) (e ∙ q))))

        pub find_kept : eqb (cell area as_read) (mark_of stamp as_read) ≡ false → word r ≡ r → of_z w32 r ≡ of_z w32 w
            → LiteralsGive variables stamp area (take (i + 1) clause) (Some as_read)
        find_kept unset read same = one_more (λ trues vs. go trues vs u refl r-is)
          where
            go : (trues : List ℤ) → Values variables stamp trues area → (v : Option ℤ) → u ≡ v → r ≡ unwrap_or v as_read
                → outcome_of trues (not_false trues (take i clause) ++ (w ∷ [])) ≡ unit w
            go trues vs None z e =
                unit_first trues w (not_false trues (take i clause)) (sym (vs.said w (within_at t)) ∙ rw w-is at unset) (g.gives trues vs ∙ ap so_far z)
            go trues vs (Some x) z e =
                unit_again trues w (not_false trues (take i clause)) (g.gives trues vs ∙ ap so_far z ∙ ap unit (sym e ∙ sym read ∙ ap (to_z w32) same ∙ w-is))

-- "Here a prefix may be shown of any run; whether a witness exists is the same." Assumes nothing.
use mathlib.Core.Path.{◌≡◌, refl, sym, ◌∙◌, ap, fun_ext}
use mathlib.Core.Logic.{◌⊎◌, inl, inr, ◌↔◌}
use mathlib.Core.Bool.{Bool, true, false, false≢true}
use mathlib.Core.List.{List, [], ◌∷◌, map}
use Prim.Native.Nat.{ℕ, zero, suc, ◌+◌, ◌*◌, ◌<◌, ◌≤◌, suc-le-suc}
use native.Mathlib.Nat.{not-suc-le-zero, le_of_suc-le-suc}
use native.Mathlib.Omega.{arith}
use lib.ListN.{length, get_or, take, drop}
use Rattle.answers.specs.Lists.{numbers, all_of}
use Rattle.answers.proofs.Tests.{not_both}
use Rattle.answers.proofs.Answers.{passing}
use Rattle.meaning.specs.Problem.{Problem}
use Rattle.meaning.specs.Runs.{Position, values, next_values, meets_constraints, run_from}
use Rattle.meaning.specs.Formulas.{formula}
use Rattle.meaning.specs.Bounded.{Shape, prefix, lasso}
use Rattle.meaning.specs.Witnesses.{byte, bits, first_latches, inputs_at, run, position, rows, Closes, Shows, Witness, loop_checks}
use Rattle.pairing.specs.WithoutLoop.{StrictWitness}
use Rattle.pairing.proofs.UntilOnLassos.{first_or_none, looped_early}
use Rattle.pairing.proofs.Meaning.{prefix_value_true}
use Rattle.pairing.proofs.Witnesses.{closes_if_passes, passes_if_closes}

-- ════════ The first byte has no part in the run ════════

module _ (p : Problem) (b c : ℕ) (bs : List ℕ) where
  same_inputs : (t : ℕ) → inputs_at p (b ∷ bs) t ≡ inputs_at p (c ∷ bs) t
  same_inputs t =
      let start : 1 + length p.latches + p.inputs * t ≡ suc (length p.latches + p.inputs * t) = omega arith in
      let same : take p.inputs (drop (1 + length p.latches + p.inputs * t) (b ∷ bs))
      ≡ take p.inputs (drop (1 + length p.latches + p.inputs * t) (c ∷ bs)) = rw start refl in
      ap bits same

  same_run : run p (b ∷ bs) ≡ run p (c ∷ bs)
  unfolding run
  same_run = ap (λ row. run_from p (first_latches p (c ∷ bs)) (map row (numbers 0 (p.bound + 1)))) (fun_ext same_inputs)

  same_position : (t : ℕ) → position p (b ∷ bs) t ≡ position p (c ∷ bs) t
  same_position t = ap (λ ps. get_or ps t (record { inputs = []; latches = [] })) same_run

  closes_too : (l : ℕ) → Closes p (b ∷ bs) l → Closes p (c ∷ bs) l
  closes_too l closes =
      ap (next_values p) (sym (same_position p.bound)) ∙ closes ∙ ap (λ (x : Position). x.latches) (same_position l)

-- ════════ A prefix whose run closes ════════

-- The same bytes as a lasso: what is true of the prefix is true on its endless path.
as_lasso : (p : Problem) (b : ℕ) (bs : List ℕ) → Witness p (b ∷ bs) → Shows p (b ∷ bs) prefix → (l : ℕ) → l ≤ p.bound
    → Closes p (b ∷ bs) l → Witness p (suc l ∷ bs)
as_lasso p b bs w shown l fits closes = record {
  length_right = w.length_right;
  start_in_range = omega arith;
  bits_in_range = bits_too;
  starts_right = w.starts_right;
  constraints_met = λ t h. ap (meets_constraints p) (sym (same_position p b (suc l) bs t)) ∙ w.constraints_met t h;
  shows = (
    closes_too p b (suc l) bs l closes,
    prefix_value_true p.bound (rows p (b ∷ bs)) _
        (λ t h. rw (looped_early l p.bound t h) (ap (values p) (sym (same_position p b (suc l) bs t)))) (formula p) 0 shown,
  );
}
  where
    bits_too : (i : ℕ) → 1 ≤ i → i < length (suc l ∷ bs) → byte (suc l ∷ bs) i ≤ 1
    bits_too zero h q = absurd (not-suc-le-zero h)
    bits_too (suc i) h q = w.bits_in_range (suc i) h q

-- ════════ Whether a witness exists is the same ════════

abbrev is_lasso : Shape → Bool
is_lasso prefix = false
is_lasso (lasso l) = true

strict_lasso : (p : Problem) (l : ℕ) (bs : List ℕ) → Witness p (suc l ∷ bs) → StrictWitness p (suc l ∷ bs)
strict_lasso p l bs w = record { witness = w; no_loop = λ e. absurd (false≢true (sym (ap is_lasso e))) }

module _ (p : Problem) where
  strict : (bs : List ℕ) → Witness p bs → (cs : List ℕ) × StrictWitness p cs
  strict [] w = absurd (omega (arith, w.length_right))
  strict (suc l ∷ bs) w = (suc l ∷ bs, strict_lasso p l bs w)
  strict (zero ∷ bs) w = go (first_or_none closing (suc p.bound))
    where
      closing : ℕ → Bool
      closing l = all_of passing (loop_checks p (0 ∷ bs) (lasso l))

      go : ((l : ℕ) → l < suc p.bound → closing l ≡ false)
          ⊎ ((l : ℕ) × (l < suc p.bound) × (closing l ≡ true) × ((m : ℕ) → m < l → closing m ≡ false))
          → (cs : List ℕ) × StrictWitness p cs
      go (inl none) = (
        0 ∷ bs,
        record { witness = w; no_loop = λ e l h closes. not_both (passes_if_closes p (0 ∷ bs) l closes) (none l (suc-le-suc h)) },
      )
      go (inr v) =
          let fits : v.0 ≤ p.bound = le_of_suc-le-suc v.1 in
          let closes : Closes p (0 ∷ bs) v.0 = closes_if_passes p (0 ∷ bs) v.0 w.length_right fits v.2 in
          (suc v.0 ∷ bs, strict_lasso p v.0 bs (as_lasso p 0 bs w w.shows v.0 fits closes))

  pub as_document_000 : ((bs : List ℕ) × Witness p bs) ↔ ((bs : List ℕ) × StrictWitness p bs)
  as_document_000 = (λ w. strict w.0 w.1, λ w. (w.0, w.1.witness))

-- What a reading chooses, and the shape of its bytes. Assumes nothing.
use mathlib.Core.Path.{◌≡◌, refl, sym, ◌∙◌}
use mathlib.Core.Logic.{◌⊎◌, inl, inr}
use mathlib.Core.Bool.{Bool, true, false, ◌&&◌}
use Prim.Native.Nat.{ℕ, ◌+◌, ◌≤◌, ◌<◌, zero-le}
use native.Mathlib.Nat.{eq-or-lt_of_le}
use native.Mathlib.Decide.{dec_le}
use native.Mathlib.Omega.{arith}
use borrow.Author.Tests.{eqb-true, ne_eqb}
use lib.Dec.{eqb}
use Rattle.answers.specs.Lists.{some_of}
use Rattle.answers.proofs.Tests.{both_true, first_true, second_true, not_both, false_if_not_true, eqb_self, some_of_member, some_of_witness}
use Rattle.meaning.specs.Problem.{Problem}
use Rattle.meaning.specs.Bounded.{Shape, prefix, lasso}
use Rattle.meaning.specs.Witnesses.{shape}
use Rattle.meaning.specs.Cnf.{positions}
use Rattle.meaning.proofs.Numbers.{member_of_numbers, numbers_bounds}
use Rattle.pairing.specs.NodeLaws.{e_value}
use Rattle.pairing.specs.ModelLaws.{Reading}
use Rattle.pairing.specs.Bytes.{chosen_of, bytes_of_reading}
use Rattle.pairing.proofs.NodeValues.{StartWithin}
use Rattle.pairing.proofs.Bytes.{bytes_prefix, bytes_lasso}
use Rattle.pairing.proofs.UntilOnLassos.{first_or_none}

-- From 0 to k what is chosen is what the shape chooses.
abbrev pub Chooses : Problem → (ℕ → Bool) → Shape → Type 0
Chooses p chosen s = (l : ℕ) → l ≤ p.bound → chosen l ≡ chosen_of s l

-- A shape chooses at most one.
pub chosen_once : (s : Shape) (l m : ℕ) → l < m → chosen_of s l && chosen_of s m ≡ false
chosen_once prefix l m h = refl
chosen_once (lasso n) l m h = false_if_not_true _ (λ e.
    let left : l ≡ n = eqb-true l n (first_true (eqb l n) _ e) in
    let right : m ≡ n = eqb-true m n (second_true (eqb l n) _ e) in
    omega arith)

-- ════════ The shape of a reading's bytes ════════

module _ (p : Problem) (r : Reading) (single : (l m : ℕ) → l < m → m ≤ p.bound → r.chosen l && r.chosen m ≡ false) where
  -- Where the first is chosen, and no two, no other is.
  only_first : (m : ℕ) → m ≤ p.bound → r.chosen m ≡ true → ((l : ℕ) → l < m → r.chosen l ≡ false) → Chooses p r.chosen (lasso m)
  only_first m k c before l h = go (dec_le m l)
    where
      go : Dec (m ≤ l) → r.chosen l ≡ eqb l m
      go (no n) = before l (omega arith) ∙ sym (ne_eqb l m (λ e. n (omega arith)))
      go (yes q) = at (eq-or-lt_of_le q)
        where
          at : (m ≡ l) ⊎ (m < l) → r.chosen l ≡ eqb l m
          at (inl e) = rw (← e) (c ∙ sym (eqb_self m))
          at (inr q') =
              false_if_not_true (r.chosen l) (λ e. not_both (both_true c e) (single m l q' h))
              ∙ sym (ne_eqb l m (λ e. omega arith))

  pub bytes_choose : Chooses p r.chosen (shape (bytes_of_reading p r))
  bytes_choose = go (first_or_none r.chosen (p.bound + 1))
    where
      go : ((l : ℕ) → l < p.bound + 1 → r.chosen l ≡ false)
          ⊎ ((l : ℕ) × (l < p.bound + 1) × (r.chosen l ≡ true) × ((m : ℕ) → m < l → r.chosen m ≡ false))
          → Chooses p r.chosen (shape (bytes_of_reading p r))
      go (inl none) =
          let none' : (l : ℕ) → l ≤ p.bound → r.chosen l ≡ false = λ l h. none l (omega arith) in
          rw (bytes_prefix p r none') none'
      go (inr w) =
          let within : w.0 ≤ p.bound = omega arith in
          rw (bytes_lasso p r w.0 within w.2 w.3) (only_first w.0 within w.2 w.3)

-- ════════ The end of a node ════════

-- Of one node's end and second pass: its law by the shape, and its clauses' by what is chosen.
module _ (p : Problem) (chosen Q : ℕ → Bool) (e : Bool) where
  pub end_by_shape : (s : Shape) → StartWithin s p → Chooses p chosen s → ((l : ℕ) → l ≤ p.bound → chosen l ≡ true → e ≡ Q l)
      → (e ≡ true → some_of chosen (positions p) ≡ true) → e ≡ e_value s Q
  end_by_shape prefix w same at-chosen closed = false_if_not_true e (λ q.
      let c = some_of_witness chosen (positions p) (closed q) in
      not_both c.2 (same c.0 (omega (arith, (numbers_bounds 0 (p.bound + 1) c.1).1))))
  end_by_shape (lasso l) w same at-chosen closed = at-chosen l w (same l w ∙ eqb_self l)

  pub end_at_chosen : (s : Shape) → Chooses p chosen s → e ≡ e_value s Q → (l : ℕ) → l ≤ p.bound → chosen l ≡ true → e ≡ Q l
  end_at_chosen prefix same law l h c = absurd (not_both c (same l h))
  end_at_chosen (lasso m) same law l h c = rw (eqb-true l m (sym (same l h) ∙ c)) law

  pub end_closed : (s : Shape) → StartWithin s p → Chooses p chosen s → e ≡ e_value s Q → e ≡ true
      → some_of chosen (positions p) ≡ true
  end_closed prefix w same law q = absurd (not_both q law)
  end_closed (lasso m) w same law q =
      some_of_member chosen (member_of_numbers 0 (p.bound + 1) m zero-le (omega arith)) (same m w ∙ eqb_self m)

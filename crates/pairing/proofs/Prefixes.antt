-- The bounded meaning on a prefix: past k it is false, U and R unfold as now-and-next and look at 0..k, G is never true; only
-- the rows of 0..k count. Assumes nothing.
use mathlib.Core.Path.{◌≡◌, refl, sym, ◌∙◌, ap, ap₂, subst, fun_ext}
use mathlib.Core.Logic.{◌⊎◌, inl, inr, ◌↔◌}
use mathlib.Core.Bool.{Bool, true, false, ◌&&◌, ◌||◌, and-or_distrib_left}
use mathlib.Core.List.{List, []}
use Prim.Native.Nat.{ℕ, zero, suc, ◌+◌, ◌-◌, ◌<◌, ◌≤◌}
use native.Mathlib.Nat.{le_refl, eq-or-lt_of_le}
use native.Mathlib.Decide.{dec_le}
use native.Mathlib.Omega.{arith}
use borrow.Author.Tests.{leb-true, le-leb, lt-leb}
use lib.Dec.{leb}
use lib.ListN.{length, get_or}
use Rattle.answers.proofs.Tests.{both_true, first_true, second_true, not_both, false_if_not_true}
use Rattle.meaning.specs.Problem as Nodes
use Rattle.meaning.specs.Problem.{Problem, constant, node}
use Rattle.meaning.specs.Proper.{Proper}
use Rattle.meaning.specs.Runs.{literal_value}
use Rattle.meaning.specs.Formulas.{Formula, atom, both, either, next, until, release, formula, tree_of, trees_after}
use Rattle.meaning.specs.Bounded.{prefix, up_to, until_for, release_for, prefix_value}
use Rattle.meaning.specs.Witnesses.{shape, position, rows, Shows, Witness}
use Rattle.pairing.proofs.UntilOnLassos.{until_found, until_if_found}
use Rattle.pairing.proofs.Trees.{tree, children_earlier, tree_unfolds, formula_is}
use Rattle.pairing.proofs.Gates.{values_zero_false}

-- ════════ Past k, and to k ════════

module _ (k : ℕ) (i : ℕ) where
  pub up_to_inside : (b : Bool) → i ≤ k → up_to k i b ≡ b
  up_to_inside b h = rw (le-leb i k h)

  up_to_past : (b : Bool) → k < i → up_to k i b ≡ false
  up_to_past b h = rw (lt-leb i k h)

-- "values past k are false", of every formula.
pub past_k_false : (k : ℕ) (rows : ℕ → List Bool) (f : Formula) (i : ℕ) → k < i → prefix_value k rows f i ≡ false
past_k_false k rows (atom x) i h = up_to_past k i _ h
past_k_false k rows (both f g) i h = up_to_past k i _ h
past_k_false k rows (either f g) i h = up_to_past k i _ h
past_k_false k rows (next f) i h = up_to_past k i _ h
past_k_false k rows (until f g) i h = let none : suc k - i ≡ 0 = omega arith in rw none refl
past_k_false k rows (release f g) i h = let none : suc k - i ≡ 0 = omega arith in rw none refl

pub true_to_k : (k : ℕ) (rows : ℕ → List Bool) (f : Formula) (i : ℕ) → prefix_value k rows f i ≡ true → i ≤ k
true_to_k k rows f i e = go (dec_le i k)
  where
    go : Dec (i ≤ k) → i ≤ k
    go (yes h) = h
    go (no h) = absurd (not_both e (past_k_false k rows f i (omega arith)))

-- "at i ≤ k .. U, R unfold as now-and-next"
module _ (k : ℕ) (rows : ℕ → List Bool) (f g : Formula) (i : ℕ) (h : i ≤ k) where
  one_more : suc (suc k - suc i) ≡ suc k - i
  one_more = omega arith

  pub until_unfolds : prefix_value k rows (until f g) i
      ≡ prefix_value k rows g i || (prefix_value k rows f i && prefix_value k rows (until f g) (suc i))
  until_unfolds =
      subst (λ (n : ℕ). until_for (prefix_value k rows f) (prefix_value k rows g) n i
      ≡ prefix_value k rows g i || (prefix_value k rows f i && prefix_value k rows (until f g) (suc i))) one_more refl

  pub release_unfolds : prefix_value k rows (release f g) i
      ≡ prefix_value k rows g i && (prefix_value k rows f i || prefix_value k rows (release f g) (suc i))
  release_unfolds =
      subst (λ (n : ℕ). release_for (prefix_value k rows f) (prefix_value k rows g) n i
      ≡ prefix_value k rows g i && (prefix_value k rows f i || prefix_value k rows (release f g) (suc i))) one_more refl

-- ════════ U and R over positions ════════

-- R is U of g and of both.
release_by_until : (f g : ℕ → Bool) (n i : ℕ) → release_for f g n i ≡ until_for g (λ m. g m && f m) n i
release_by_until f g zero i = refl
release_by_until f g (suc n) i = rw (release_by_until f g n (suc i), and-or_distrib_left (g i))

-- The unfolding to k is true exactly if g comes at a position to k, with f before.
module _ (f g : ℕ → Bool) (k i : ℕ) where
  to_k : until_for f g (suc k - i) i ≡ true → (j : ℕ) × (i ≤ j) × (j ≤ k) × (g j ≡ true) × ((m : ℕ) → i ≤ m → m < j → f m ≡ true)
  to_k e =
      let w = until_found f g (suc k - i) i e in (
        i + w.0,
        omega arith,
        omega arith,
        w.2.0,
        λ m h q.
            let there : i + (m - i) ≡ m = omega arith in
            rw there at (w.2.1 (m - i) (omega arith)),
      )

  if_to_k : (j : ℕ) → i ≤ j → j ≤ k → g j ≡ true → ((m : ℕ) → i ≤ m → m < j → f m ≡ true) → until_for f g (suc k - i) i ≡ true
  if_to_k j h q p before =
      let there : i + (j - i) ≡ j = omega arith in
      until_if_found f g (suc k - i) i (j - i) (omega arith) (rw there p, λ m l. before (i + m) (omega arith) (omega arith))

-- U on a prefix: g comes at a position to k, with f before.
pub until_on_prefix : (k : ℕ) (rows : ℕ → List Bool) (f g : Formula) (i : ℕ)
    → (prefix_value k rows (until f g) i ≡ true)
    ↔ ((j : ℕ) × (i ≤ j) × (j ≤ k) × (prefix_value k rows g j ≡ true) × ((m : ℕ) → i ≤ m → m < j → prefix_value k rows f m ≡ true))
until_on_prefix k rows f g i = (
  to_k (prefix_value k rows f) (prefix_value k rows g) k i,
  λ w. if_to_k (prefix_value k rows f) (prefix_value k rows g) k i w.0 w.1 w.2 w.3 w.4,
)

-- R on a prefix: f comes at a position to k, with g up to it.
pub release_on_prefix : (k : ℕ) (rows : ℕ → List Bool) (f g : Formula) (i : ℕ)
    → (prefix_value k rows (release f g) i ≡ true)
    ↔ ((j : ℕ) × (i ≤ j) × (j ≤ k) × (prefix_value k rows f j ≡ true) × ((m : ℕ) → i ≤ m → m ≤ j → prefix_value k rows g m ≡ true))
release_on_prefix k rows f g i = (to, from)
  where
    on_left : ℕ → Bool
    on_left = prefix_value k rows f

    on_right : ℕ → Bool
    on_right = prefix_value k rows g

    to : release_for on_left on_right (suc k - i) i ≡ true
        → (j : ℕ) × (i ≤ j) × (j ≤ k) × (on_left j ≡ true) × ((m : ℕ) → i ≤ m → m ≤ j → on_right m ≡ true)
    to e =
        let w = to_k on_right (λ m. on_right m && on_left m) k i (sym (release_by_until on_left on_right (suc k - i) i) ∙ e) in
        (w.0, w.1, w.2, second_true (on_right w.0) _ w.3, λ m h q. upto w.0 w.3 w.4 m h (eq-or-lt_of_le q))
      where
        upto : (j : ℕ) → on_right j && on_left j ≡ true → ((m : ℕ) → i ≤ m → m < j → on_right m ≡ true)
            → (m : ℕ) → i ≤ m → (m ≡ j) ⊎ (m < j) → on_right m ≡ true
        upto j p before m h (inl e) = rw e (first_true (on_right j) _ p)
        upto j p before m h (inr q) = before m h q

    from : (j : ℕ) × (i ≤ j) × (j ≤ k) × (on_left j ≡ true) × ((m : ℕ) → i ≤ m → m ≤ j → on_right m ≡ true)
        → release_for on_left on_right (suc k - i) i ≡ true
    from w =
        release_by_until on_left on_right (suc k - i) i
        ∙ if_to_k on_right (λ m. on_right m && on_left m) k i w.0 w.1 w.2
        (both_true (w.4 w.0 w.1 (le_refl w.0)) w.3) (λ m h q. w.4 m h (omega arith))

-- ════════ G ════════

-- "So G is never true of a prefix": variable 0 is false, and G is R with it on the left.
pub g_never_on_prefix : (k : ℕ) (rows : ℕ → List Bool) → ((t : ℕ) → get_or (rows t) 0 false ≡ false) → (g : Formula) (i : ℕ)
    → prefix_value k rows (release (atom 0) g) i ≡ false
g_never_on_prefix k rows zero_false g i = false_if_not_true _ (λ e.
    let w = (release_on_prefix k rows (atom 0) g i).0 e in
    not_both (second_true (leb w.0 k) (literal_value (rows w.0) 0) w.3) (zero_false w.0))

-- So of every run: G of no formula is true at any position of a prefix.
pub g_never_of_run : (p : Problem) (bs : List ℕ) (g : Formula) (i : ℕ) → prefix_value p.bound (rows p bs) (release (atom 0) g) i ≡ false
g_never_of_run p bs = g_never_on_prefix p.bound (rows p bs) (values_zero_false p (position p bs))

-- A problem whose formula is G has no prefix as a witness.
pub g_never_shown : (p : Problem) → Proper p → (a : ℕ) → node p (length p.nodes - 1) ≡ Nodes.release (constant false) a
    → (bs : List ℕ) → Witness p bs → shape bs ≡ prefix → ⊥
g_never_shown p proper a is-G bs w is-prefix =
    let some = proper.nodes_some in
    let shown : Shows p bs prefix = rw is-prefix at w.shows in
    let g_is : formula p ≡ release (atom 0) (tree p a) =
    formula_is p ∙ tree_unfolds (children_earlier proper) (length p.nodes - 1) (omega arith) ∙ ap (tree_of (trees_after [] p.nodes)) is-G in
    not_both (rw g_is at shown) (g_never_of_run p bs (tree p a) 0)

-- ════════ A prefix looks at its own positions ════════

module _ (k : ℕ) (rows rows' : ℕ → List Bool) (agree : (t : ℕ) → t ≤ k → rows t ≡ rows' t) where
  -- Rows that agree on 0..k give one value of the prefix.
  pub prefix_value_agrees : (f : Formula) (i : ℕ) → prefix_value k rows f i ≡ prefix_value k rows' f i
  prefix_value_agrees (atom x) i = go (leb i k) refl
    where
      go : (b : Bool) → leb i k ≡ b → b && literal_value (rows i) x ≡ b && literal_value (rows' i) x
      go true e = rw (agree i (leb-true i k e))
      go false e = refl
  prefix_value_agrees (both f g) i = rw (prefix_value_agrees f i, prefix_value_agrees g i)
  prefix_value_agrees (either f g) i = rw (prefix_value_agrees f i, prefix_value_agrees g i)
  prefix_value_agrees (next f) i = rw (prefix_value_agrees f (suc i))
  prefix_value_agrees (until f g) i =
      ap₂ (λ a b. until_for a b (suc k - i) i) (fun_ext (prefix_value_agrees f)) (fun_ext (prefix_value_agrees g))
  prefix_value_agrees (release f g) i =
      ap₂ (λ a b. release_for a b (suc k - i) i) (fun_ext (prefix_value_agrees f)) (fun_ext (prefix_value_agrees g))

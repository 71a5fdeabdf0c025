-- The bounded meaning against the meaning on endless paths. Assumes nothing.
use mathlib.Core.Path.{◌≡◌}
use mathlib.Core.Logic.{◌⊎◌, inl, inr, ◌↔◌, ⊎_map}
use mathlib.Core.Bool.{Bool, true, ◌&&◌, ◌||◌}
use mathlib.Core.List.{List}
use Prim.Native.Nat.{ℕ, suc, ◌+◌, ◌-◌, ◌<◌, ◌≤◌}
use native.Mathlib.Decide.{dec_le}
use native.Mathlib.Omega.{arith}
use borrow.Author.Tests.{leb-true, le-leb}
use lib.Dec.{leb}
use Rattle.answers.proofs.Tests.{both_true, first_true, second_true, one_true, or_first, or_second}
use Rattle.meaning.specs.Formulas.{Formula, True, atom, both, either, next, until, release}
use Rattle.meaning.specs.Bounded.{looped, up_to, prefix_value}
use Rattle.meaning.specs.LassoValue.{loop_value}
use Rattle.pairing.proofs.UntilOnLassos.{until_round, until_if_round, release_round, release_if_round}
use Rattle.pairing.proofs.Prefixes.{true_to_k, until_on_prefix, release_on_prefix}

-- ════════ A lasso ════════

module _ (l k : ℕ) (fits : l ≤ k) (rows : ℕ → List Bool) where
  -- The formula's value at a position that the endless path comes to.
  abbrev value : Formula → ℕ → Bool
  value = loop_value l k rows

  true_if_value : (f : Formula) (t : ℕ) → loop_value l k rows f (looped l k t) ≡ true → True f (λ s. rows (looped l k s)) t
  true_if_value (atom x) t e = e
  true_if_value (both f g) t e =
      (true_if_value f t (first_true (value f (looped l k t)) _ e), true_if_value g t (second_true (value f (looped l k t)) _ e))
  true_if_value (either f g) t e = ⊎_map (true_if_value f t) (true_if_value g t) (one_true (value f (looped l k t)) _ e)
  true_if_value (next f) t e = true_if_value f (suc t) e
  true_if_value (until f g) t e =
      let w = until_round l k fits (value f) (value g) t e in
      (w.0, true_if_value g (t + w.0) w.1.0, λ m h. true_if_value f (t + m) (w.1.1 m h))
  true_if_value (release f g) t e = λ j.
      ⊎_map (true_if_value g (t + j)) (λ w. (w.0, w.1, true_if_value f (t + w.0) w.2))
      (release_round l k fits (value f) (value g) t e j)

  value_if_true : (f : Formula) (t : ℕ) → True f (λ s. rows (looped l k s)) t → loop_value l k rows f (looped l k t) ≡ true
  value_if_true (atom x) t v = v
  value_if_true (both f g) t v = both_true (value_if_true f t v.0) (value_if_true g t v.1)
  value_if_true (either f g) t (inl v) = or_first _ (value_if_true f t v)
  value_if_true (either f g) t (inr v) = or_second (value f (looped l k t)) (value_if_true g t v)
  value_if_true (next f) t v = value_if_true f (suc t) v
  value_if_true (until f g) t v =
      until_if_round l k fits (value f) (value g) t v.0 (value_if_true g (t + v.0) v.1, λ m h. value_if_true f (t + m) (v.2 m h))
  value_if_true (release f g) t v =
      release_if_round l k fits (value f) (value g) t (λ j.
      ⊎_map (value_if_true g (t + j)) (λ w. (w.0, w.1, value_if_true f (t + w.0) w.2)) (v j))

  -- Round a loop the value computed is the meaning on the endless path.
  pub lasso_value : (f : Formula) (t : ℕ) → (loop_value l k rows f (looped l k t) ≡ true) ↔ True f (λ s. rows (looped l k s)) t
  lasso_value f t = (true_if_value f t, value_if_true f t)

-- ════════ A prefix ════════

-- What is true of a prefix is true of every endless path that begins with it.
module _ (k : ℕ) (rows path : ℕ → List Bool) (agree : (t : ℕ) → t ≤ k → path t ≡ rows t) where
  pub prefix_value_true : (f : Formula) (i : ℕ) → prefix_value k rows f i ≡ true → True f path i
  prefix_value_true (atom x) i e = rw (agree i (true_to_k k rows (atom x) i e)) (second_true (leb i k) _ e)
  prefix_value_true (both f g) i e =
      let v : prefix_value k rows f i && prefix_value k rows g i ≡ true = second_true (leb i k) _ e in
      (prefix_value_true f i (first_true (prefix_value k rows f i) _ v), prefix_value_true g i (second_true (prefix_value k rows f i) _ v))
  prefix_value_true (either f g) i e =
      ⊎_map (prefix_value_true f i) (prefix_value_true g i) (one_true (prefix_value k rows f i) _ (second_true (leb i k) _ e))
  prefix_value_true (next f) i e = prefix_value_true f (suc i) (second_true (leb i k) _ e)
  prefix_value_true (until f g) i e =
      let w = (until_on_prefix k rows f g i).0 e in
      let there : i + (w.0 - i) ≡ w.0 = omega arith in
      (w.0 - i, rw there (prefix_value_true g w.0 w.3), λ m q. prefix_value_true f (i + m) (w.4 (i + m) (omega arith) (omega arith)))
  prefix_value_true (release f g) i e =
      let w = (release_on_prefix k rows f g i).0 e in
      released w.0 w.1 (prefix_value_true f w.0 w.3) (λ m h q. prefix_value_true g m (w.4 m h q))
    where
      released : (j : ℕ) → i ≤ j → True f path j → ((m : ℕ) → i ≤ m → m ≤ j → True g path m) → True (release f g) path i
      released j h on_left on_right m = go (dec_le (i + m) j)
        where
          go : Dec (i + m ≤ j) → True g path (i + m) ⊎ ((n : ℕ) × (n < m) × True f path (i + n))
          go (yes c) = inl (on_right (i + m) (omega arith) c)
          go (no c) = let there : i + (j - i) ≡ j = omega arith in inr (j - i, omega arith, rw there on_left)

-- What is true of a prefix stays true of a longer one.
module _ (k : ℕ) (rows : ℕ → List Bool) where
  longer_to : (i : ℕ) {a b : Bool} → up_to k i a ≡ true → (a ≡ true → b ≡ true) → up_to (suc k) i b ≡ true
  longer_to i {a} e stays =
      let inside : i ≤ k = leb-true i k (first_true (leb i k) a e) in
      both_true (le-leb i (suc k) (omega arith)) (stays (second_true (leb i k) a e))

  pub longer_prefix : (f : Formula) (i : ℕ) → prefix_value k rows f i ≡ true → prefix_value (suc k) rows f i ≡ true
  longer_prefix (atom x) i e = longer_to i e (λ v. v)
  longer_prefix (both f g) i e = longer_to i e (λ v.
      both_true (longer_prefix f i (first_true (prefix_value k rows f i) _ v)) (longer_prefix g i (second_true (prefix_value k rows f i) _ v)))
  longer_prefix (either f g) i e = longer_to i e (λ v. go (one_true (prefix_value k rows f i) _ v) (longer_prefix f i) (longer_prefix g i))
    where
      go : {a b c d : Bool} → (a ≡ true) ⊎ (b ≡ true) → (a ≡ true → c ≡ true) → (b ≡ true → d ≡ true) → c || d ≡ true
      go {d} (inl p) left right = or_first d (left p)
      go {c} (inr p) left right = or_second c (right p)
  longer_prefix (next f) i e = longer_to i e (longer_prefix f (suc i))
  longer_prefix (until f g) i e =
      let w = (until_on_prefix k rows f g i).0 e in
      (until_on_prefix (suc k) rows f g i).1
      (w.0, w.1, omega arith, longer_prefix g w.0 w.3, λ m h q. longer_prefix f m (w.4 m h q))
  longer_prefix (release f g) i e =
      let w = (release_on_prefix k rows f g i).0 e in
      (release_on_prefix (suc k) rows f g i).1
      (w.0, w.1, omega arith, longer_prefix f w.0 w.3, λ m h q. longer_prefix g m (w.4 m h q))

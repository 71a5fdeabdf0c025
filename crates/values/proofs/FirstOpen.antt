-- The first number whose test fails, and the length of a witness within the limits. Assumes nothing.
use Rattle.std.proofs.Common.{◌≡◌, ℕ, zero, suc, ◌+◌, ◌-◌, ◌*◌, ◌^◌, ◌<◌, ◌≤◌, min, Bool, true, false, cond, not, List, length, get_or, take, drop, refl, sym, ap, ◌∙◌, suc-le-suc, zero-le, le_of_suc-le-suc, not-suc-le-zero, mod-eq_of_lt, mul-le-mul, arith, length-take, length-drop, get_or-take, get_or-drop, Option, Some, None, MatchOption}
use native.Mathlib.Decide.{dec_lt}
use lib.ListN.{get_or-eq_default}
use Rattle.std.specs.Bool.{beq}
use Rattle.meaning.specs.Problem.{Problem, latch}
use Rattle.meaning.specs.Runs.{literal_value}
use Rattle.answers.specs.Lists.{numbers, all_of}
use Rattle.answers.specs.Limits.{inputs_limit, latches_limit, bound_limit}
use Rattle.meaning.specs.Witnesses.{witness_length}
use Rattle.values.specs.Values.{first_not, closed_at, first_open, length_of}
use Rattle.values.proofs.Fits.{one_fails, none_fails}

-- ════════ The first that fails ════════

-- Those before a number pass, and it fails where it is one of n.
pub record FirstNot (f : ℕ → Bool) (n r : ℕ) : Type 0 where
  pub within : r ≤ n
  pub passed : (j : ℕ) → j < r → f j ≡ true
  pub fails : r < n → f r ≡ false

pub first_is : (f : ℕ → Bool) (n r : ℕ) → FirstNot f n r → r ≡ first_not f n
first_is f zero r x = omega (arith, x.within)
first_is f (suc n) zero x = let e : f zero ≡ false = x.fails (suc-le-suc zero-le) in rw e
first_is f (suc n) (suc r) x =
    let e : f zero ≡ true = x.passed zero (suc-le-suc zero-le) in
    rw e (ap suc (first_is (λ i. f (suc i)) n r (record {
      within = le_of_suc-le-suc x.within;
      passed = λ j h. x.passed (suc j) (suc-le-suc h);
      fails = λ h. x.fails (suc-le-suc h);
    })))

the_first : (f : ℕ → Bool) (n : ℕ) → FirstNot f n (first_not f n)
the_first f zero = record { within = zero-le; passed = λ j h. absurd (not-suc-le-zero h); fails = λ h. absurd (not-suc-le-zero h) }
the_first f (suc n) = by (f zero) refl (the_first (λ i. f (suc i)) n)
  where
    by : (b : Bool) → f zero ≡ b → FirstNot (λ i. f (suc i)) n (first_not (λ i. f (suc i)) n)
        → FirstNot f (suc n) (cond b (suc (first_not (λ i. f (suc i)) n)) zero)
    by false e later = record { within = zero-le; passed = λ j h. absurd (not-suc-le-zero h); fails = λ h. e }
    by true e later = record {
      within = suc-le-suc later.within;
      passed = before;
      fails = λ h. later.fails (le_of_suc-le-suc h);
    }
      where
        before : (j : ℕ) → j < suc (first_not (λ i. f (suc i)) n) → f j ≡ true
        before zero h = e
        before (suc j) h = later.passed j (le_of_suc-le-suc h)

module _ (f : ℕ → Bool) (n : ℕ) {r : ℕ} (is : r ≡ first_not f n) where
  pub by_first : FirstNot f n r
  by_first = rw is (the_first f n)

  -- None fails exactly where the answer is how many there are.
  pub all_if_none : r ≡ n → true ≡ all_of f (numbers 0 n)
  all_if_none e = none_fails f n {i = r} (omega arith) by_first.passed

  pub not_if_one : (r ≡ n → ⊥) → false ≡ all_of f (numbers 0 n)
  not_if_one d = let l : r < n = omega (arith, by_first.within) in one_fails f n l (by_first.fails l)

-- ════════ The first latch that is open ════════

-- The part of a list from a place on is asked by numbers of its own.
part_has : (l : List Bool) (at i : ℕ) {k : ℕ} → k ≡ min at (length l) → get_or (take (length l - k) (drop k l)) (0 + i) false ≡ get_or l (at + i) false
part_has l at i {k} e = by (dec_lt (at + i) (length l))
  where
    by : Dec (at + i < length l) → get_or (take (length l - k) (drop k l)) (0 + i) false ≡ get_or l (at + i) false
    by (yes h) =
        let same : k + (0 + i) ≡ at + i = omega arith in
        get_or-take (length l - k) (drop k l) (0 + i) false (omega arith) ∙ get_or-drop k l (0 + i) false ∙ ap (λ (j : ℕ). get_or l j false) same
    by (no h) =
        get_or-eq_default (take (length l - k) (drop k l)) false (simp (length-take, length-drop) (omega arith))
        ∙ sym (get_or-eq_default l false (omega arith))

-- Where the opposite of a test is b, the test is the opposite of b.
turned : {x b : Bool} → not x ≡ b → x ≡ not b
turned {x = true} e = ap not e
turned {x = false} e = ap not e

-- A truth value equals false exactly where it does not hold.
beq_false : (v : Bool) → beq v false ≡ not v
beq_false true = refl
beq_false false = refl

module _ (p : Problem) (row there : List Bool) (at : ℕ) {k : ℕ} (from : k ≡ min at (length there)) where
  -- In the part from the place on.
  abbrev pub closed_in_part : ℕ → Bool
  closed_in_part = closed_at p row (take (length there - k) (drop k there)) 0

  -- A latch that is closed in the part is closed in the list, and one that is open is open.
  pub same_closed : (i : ℕ) {b : Bool} → closed_in_part i ≡ b → closed_at p row there at i ≡ b
  same_closed i e = rw (part_has there at i from) at e

  -- The same from the list to the part.
  pub part_closed : (i : ℕ) {b : Bool} → closed_at p row there at i ≡ b → closed_in_part i ≡ b
  part_closed i e = rw (part_has there at i from) e

  pub first_found : (n : ℕ) → n ≡ length p.latches → (r : Option ℕ)
      → MatchOption r ((i : ℕ) → 0 ≤ i → i < n → closed_in_part i ≡ true)
      (λ i. (0 ≤ i) × (i < n) × (closed_in_part i ≡ false) × ((j : ℕ) → 0 ≤ j → j < i → closed_in_part j ≡ true))
      → MatchOption r (first_open p row there at ≡ length p.latches) (λ i. (i ≡ first_open p row there at) × (i < length p.latches))
  unfolding first_open
  first_found n e None all =
      sym (first_is (closed_at p row there at) (length p.latches) (length p.latches) (record {
        within = omega arith;
        passed = λ j h. same_closed j (all j zero-le (omega arith));
        fails = λ h. absurd (omega arith);
      }))
  first_found n e (Some i) one = (
    first_is (closed_at p row there at) (length p.latches) i (record {
      within = omega (arith, one.1);
      passed = λ j h. same_closed j (one.3 j zero-le h);
      fails = λ h. same_closed i one.2;
    }),
    omega (arith, one.1),
  )

  -- A latch's next value.
  abbrev pub value_of : ℕ → Bool
  value_of i = literal_value row (latch p i).next

  -- A test of a latch's next value against what a cut of the part has for it says whether the latch is closed.
  pub tested : (m i : ℕ) {v b : Bool} → i < length (take m (take (length there - k) (drop k there)))
      → v ≡ value_of i
      → not (beq v (get_or (take m (take (length there - k) (drop k there))) i false)) ≡ b
      → closed_in_part i ≡ not b
  tested m i h e t =
      let cut = get_or-take m (take (length there - k) (drop k there)) i false (omega (arith, length-take {A = Bool})) in
      let same : 0 + i ≡ i = omega arith in
      rw same (turned (rw (e, cut) at t))

  -- Past the part's end a latch is closed where its next value is false.
  past_part : {i : ℕ} → length (take (length there - k) (drop k there)) ≤ i → {v : Bool} → value_of i ≡ v → closed_in_part i ≡ not v
  past_part {i} h {v} e =
      let none : get_or (take (length there - k) (drop k there)) (0 + i) false ≡ false = get_or-eq_default _ false {n = 0 + i} (omega arith) in
      rw (e, none) (beq_false v)

  -- Where the latches below m are closed and the part ends at m, or no latch is left there, the first from m on whose next value is true is the first open one.
  pub found_past : {m n : ℕ} → ((j : ℕ) → j < m → closed_at p row there at j ≡ true)
      → (m < n → length (take (length there - k) (drop k there)) ≤ m)
      → n ≡ length p.latches
      → (r : Option ℕ)
      → MatchOption r ((i : ℕ) → m ≤ i → i < n → value_of i ≡ false)
      (λ i. (m ≤ i) × (i < n) × (value_of i ≡ true) × ((j : ℕ) → m ≤ j → j < i → value_of j ≡ false))
      → MatchOption r (first_open p row there at ≡ length p.latches) (λ i. (i ≡ first_open p row there at) × (i < length p.latches))
  found_past {m} {n} below past e r found = first_found n e r (wide r found)
    where
      closed : (j : ℕ) → (m ≤ j → value_of j ≡ false) → j < n → closed_in_part j ≡ true
      closed j v h = by (dec_lt j m)
        where
          by : Dec (j < m) → closed_in_part j ≡ true
          by (yes l) = part_closed j (below j l)
          by (no l) = past_part (let t = past (omega arith) in omega arith) (v (omega arith))

      wide : (r : Option ℕ)
          → MatchOption r ((i : ℕ) → m ≤ i → i < n → value_of i ≡ false)
          (λ i. (m ≤ i) × (i < n) × (value_of i ≡ true) × ((j : ℕ) → m ≤ j → j < i → value_of j ≡ false))
          → MatchOption r ((i : ℕ) → 0 ≤ i → i < n → closed_in_part i ≡ true)
          (λ i. (0 ≤ i) × (i < n) × (closed_in_part i ≡ false) × ((j : ℕ) → 0 ≤ j → j < i → closed_in_part j ≡ true))
      wide None all = λ i z h. closed i (λ l. all i l h) h
      wide (Some i) one = (
        zero-le,
        one.1,
        past_part (let t = past (omega (arith, one.0, one.1)) in omega (arith, one.0)) one.2,
        λ j z h. closed j (λ l. one.3 j l h) (omega (arith, one.1)),
      )

-- ════════ The length of a witness ════════

pub length_is : (p : Problem) → p.inputs ≤ inputs_limit → length p.latches ≤ latches_limit → p.bound ≤ bound_limit → length_of p ≡ witness_length p
unfolding inputs_limit latches_limit bound_limit length_of
length_is p i l b =
    let positions : p.bound + 1 ≤ bound_limit + 1 = omega arith in
    let few : p.inputs * (p.bound + 1) ≤ inputs_limit * (bound_limit + 1) = mul-le-mul i positions in
    mod-eq_of_lt {n = 1 + (length p.latches + p.inputs * (p.bound + 1))} {m = 2 ^ 64} (omega arith) ∙ omega arith

-- A lasso at bound k gives one at bound k + 1, and so at every larger bound; a prefix does where there are no constraints that stop it. Assumes nothing.
use mathlib.Core.Path.{◌≡◌, refl, sym, ◌∙◌, ap, subst, fun_ext}
use mathlib.Core.Logic.{◌⊎◌, inl, inr}
use mathlib.Core.Bool.{Bool, true}
use mathlib.Core.List.{List, ◌∷◌, ◌++◌}
use Prim.Native.Nat.{ℕ, zero, suc, ◌+◌, ◌-◌, ◌*◌, ◌<◌, ◌≤◌, zero-le, suc-le-suc}
use native.Mathlib.Nat.{le_refl, le_of_suc-le-suc, not-suc-le-zero, eq-or-lt_of_le, mul-suc, mul-le-mul_left}
use native.Mathlib.Decide.{dec_le}
use native.Mathlib.Numerals.{add-one, one-add}
use native.Mathlib.Omega.{arith}
use lib.ListN.{length, take, drop, replicate, length-append, length-take, length-drop, length-replicate, get_or-replicate, get_or-append}
use lib.Seq.{take-append-le, drop-append-le, take_all, drop_at, drop-drop, get_or-take, get_or-drop, get_or-append-add}
use Rattle.meaning.specs.Problem.{Problem}
use Rattle.meaning.specs.Runs.{Position, values, next_values, meets_constraints}
use Rattle.meaning.specs.Formulas.{formula, Holds, True}
use Rattle.meaning.specs.Bounded.{prefix, lasso, looped}
use Rattle.meaning.specs.Witnesses.{witness_length, byte, shape_of, shape, bits, first_latches, inputs_at, position, rows, Closes, lasso_path, Shows, Witness}
use Rattle.pairing.specs.Bounds.{at_bound}
use Rattle.pairing.proofs.UntilOnLassos.{after_cases, looped_within}
use Rattle.pairing.proofs.Prefixes.{prefix_value_agrees}
use Rattle.pairing.proofs.Meaning.{longer_prefix}
use Rattle.pairing.proofs.Endless.{same_position}
use Rattle.pairing.proofs.NodeValues.{StartWithin, start_within}
use Rattle.pairing.proofs.Runs.{position_first, position_inputs, position_next, unconstrained_meets}

-- ════════ One position more ════════

-- The bound has no part in the circuit, in the constraints or in the formula.
module _ (k : ℕ) (p : Problem) where
  same_values : (x : Position) → values (at_bound p k) x ≡ values p x
  unfolding values
  same_values x = refl

  same_next : (x : Position) → next_values (at_bound p k) x ≡ next_values p x
  unfolding next_values values
  same_next x = refl

  same_constraints : (x : Position) → meets_constraints (at_bound p k) x ≡ meets_constraints p x
  unfolding meets_constraints values
  same_constraints x = refl

  same_formula : formula (at_bound p k) ≡ formula p
  unfolding formula
  same_formula = refl

-- The bytes with another first one, and with more at their end.
abbrev lengthened : ℕ → List ℕ → List ℕ → List ℕ
lengthened b bs more = b ∷ (drop 1 bs ++ more)

-- The input bytes of a position.
abbrev bytes_at : Problem → List ℕ → ℕ → List ℕ
bytes_at p bs t = take p.inputs (drop (1 + length p.latches + p.inputs * t) bs)

module _ (p : Problem) (bs : List ℕ) (right : length bs ≡ witness_length p) (b : ℕ) (more : List ℕ) (fits : length more ≡ p.inputs) where
  abbrev q : Problem
  q = at_bound p (suc p.bound)

  abbrev cs : List ℕ
  cs = lengthened b bs more

  after_first : length (drop 1 bs) ≡ length p.latches + p.inputs * (p.bound + 1)
  after_first = rw length-drop (omega arith)

  longer_length : length cs ≡ witness_length q
  longer_length = rw length-append (omega (arith, after_first, fits, mul-suc p.inputs (p.bound + 1)))

  longer_first_latches : first_latches q cs ≡ first_latches p bs
  longer_first_latches = rw (take-append-le (length p.latches) (drop 1 bs) more (omega (arith, after_first)))

  longer_inputs : (t : ℕ) → t ≤ p.bound → inputs_at q cs t ≡ inputs_at p bs t
  longer_inputs t h =
      let start : 1 + length p.latches + p.inputs * t ≡ suc (length p.latches + p.inputs * t) = omega arith in
      let room : p.inputs * suc t ≤ p.inputs * (p.bound + 1) = mul-le-mul_left p.inputs (omega arith) in
      let there : length p.latches + p.inputs * t + p.inputs ≤ length (drop 1 bs) = omega (arith, after_first, mul-suc p.inputs t) in
      let enough : p.inputs ≤ length (drop (length p.latches + p.inputs * t) (drop 1 bs)) = rw length-drop (omega arith) in
      let begun : length p.latches + p.inputs * t ≤ length (drop 1 bs) = omega arith in
      let same : bytes_at p cs t ≡ bytes_at p bs t =
      rw (start, drop-append-le (length p.latches + p.inputs * t) (drop 1 bs) more, take-append-le p.inputs _ more, drop-drop, one-add) in
      ap bits same

  longer_inputs_last : inputs_at q cs (suc p.bound) ≡ bits more
  longer_inputs_last =
      let start : 1 + length p.latches + p.inputs * suc p.bound ≡ suc (length p.latches + p.inputs * (p.bound + 1)) =
      rw (← add-one p.bound) (omega arith) in
      let same : bytes_at p cs (suc p.bound) ≡ more =
      rw (start, drop_at (drop 1 bs) more (length p.latches + p.inputs * (p.bound + 1)) after_first)
      (take_all p.inputs more (omega (arith, fits))) in
      ap bits same

  longer_position : (t : ℕ) → t ≤ p.bound → position q cs t ≡ position p bs t
  longer_position zero h =
      same_position _ _ (position_inputs q cs 0 zero-le ∙ longer_inputs 0 h ∙ sym (position_inputs p bs 0 h))
      (position_first q cs ∙ longer_first_latches ∙ sym (position_first p bs))
  longer_position (suc t) h =
      same_position _ _
      (position_inputs q cs (suc t) (omega arith) ∙ longer_inputs (suc t) h ∙ sym (position_inputs p bs (suc t) h))
      (position_next q cs t (omega arith) ∙ ap (next_values q) (longer_position t (omega arith))
      ∙ same_next (suc p.bound) p (position p bs t) ∙ sym (position_next p bs t h))

  longer_bits : ((i : ℕ) → 1 ≤ i → i < length bs → byte bs i ≤ 1) → ((i : ℕ) → i < length more → byte more i ≤ 1)
      → (i : ℕ) → 1 ≤ i → i < length cs → byte cs i ≤ 1
  longer_bits old new zero h l = absurd (not-suc-le-zero h)
  longer_bits old new (suc i) h l = go (dec_le (suc i) (length (drop 1 bs)))
    where
      go : Dec (suc i ≤ length (drop 1 bs)) → byte (drop 1 bs ++ more) i ≤ 1
      go (yes in-old) =
          rw (get_or-append (drop 1 bs) more 0 i in-old, get_or-drop 1 bs i 0)
          (old (1 + i) (omega arith) (omega (arith, length-drop 1 bs)))
      go (no in-new) =
          let there : i ≡ length (drop 1 bs) + (i - length (drop 1 bs)) = omega arith in
          rw (there, get_or-append-add) (new (i - length (drop 1 bs)) (omega (arith, length-append (drop 1 bs) more)))

  longer_meets : ((t : ℕ) → t ≤ p.bound → meets_constraints p (position p bs t) ≡ true)
      → meets_constraints p (position q cs (suc p.bound)) ≡ true
      → (t : ℕ) → t ≤ suc p.bound → meets_constraints q (position q cs t) ≡ true
  longer_meets old last t h = same_constraints (suc p.bound) p (position q cs t) ∙ go (eq-or-lt_of_le h)
    where
      go : (t ≡ suc p.bound) ⊎ (t < suc p.bound) → meets_constraints p (position q cs t) ≡ true
      go (inl e) = rw e last
      go (inr l) = let h : t ≤ p.bound = le_of_suc-le-suc l in ap (meets_constraints p) (longer_position t h) ∙ old t h

  -- Where the more bytes are inputs, the last position meets the constraints and the formula is shown, the longer bytes are a witness.
  longer_from : Witness p bs → b ≤ p.bound + 2 → ((i : ℕ) → i < length more → byte more i ≤ 1)
      → meets_constraints p (position q cs (suc p.bound)) ≡ true → Shows q cs (shape_of b) → Witness q cs
  longer_from w start new last shown = record {
    length_right = longer_length;
    start_in_range = omega arith;
    bits_in_range = longer_bits w.bits_in_range new;
    starts_right = rw longer_first_latches w.starts_right;
    constraints_met = longer_meets w.constraints_met last;
    shows = shown;
  }

-- ════════ A prefix, longer ════════

module _ (p : Problem) (bs : List ℕ) (w : Witness p bs) where
  -- Without constraints a prefix goes on with any inputs.
  longer_prefix_witness : length p.constraints ≡ 0 → Shows p bs prefix → (cs : List ℕ) × Witness (at_bound p (suc p.bound)) cs
  longer_prefix_witness none shown = (
    cs',
    longer_from p bs w.length_right 0 zeros fits w zero-le
        (λ i h. rw (get_or-replicate {A = ℕ} p.inputs i 0 0 (omega (arith, fits))) zero-le)
        (unconstrained_meets p none _)
        (longer_prefix p.bound (rows q' cs') (formula q') 0
        (prefix_value_agrees p.bound (rows q' cs') (rows p bs) agree (formula q') 0 ∙ rw same_formula shown)),
  )
    where
      zeros : List ℕ
      zeros = replicate p.inputs 0

      fits : length zeros ≡ p.inputs
      fits = length-replicate p.inputs 0

      q' : Problem
      q' = at_bound p (suc p.bound)

      cs' : List ℕ
      cs' = lengthened 0 bs zeros

      agree : (t : ℕ) → t ≤ p.bound → rows q' cs' t ≡ rows p bs t
      agree t h = same_values (suc p.bound) p (position q' cs' t) ∙ ap (values p) (longer_position p bs w.length_right 0 zeros fits t h)

-- ════════ A lasso, round once more ════════

-- A place of the longer lasso's path against that of the shorter's: the same, or k + 1 against l.
abbrev SamePlace : ℕ → ℕ → ℕ → ℕ → Type 0
SamePlace l k i j = (i ≡ j) ⊎ ((i ≡ suc k) × (j ≡ l))

module _ (l k : ℕ) where
  same_place_after : (i j a c : ℕ) → j ≤ k → SamePlace l k i j
      → ((i ≡ suc k) × (a ≡ suc l)) ⊎ ((i < suc k) × (a ≡ suc i))
      → ((j ≡ k) × (c ≡ l)) ⊎ ((j < k) × (c ≡ suc j))
      → SamePlace l k a c
  same_place_after i j a c h (inl e) (inl x) y = absurd (omega arith)
  same_place_after i j a c h (inl e) (inr x) (inl y) = inr (omega arith, omega arith)
  same_place_after i j a c h (inl e) (inr x) (inr y) = inl (omega arith)
  same_place_after i j a c h (inr e) (inl x) (inl y) = inr (omega arith, omega arith)
  same_place_after i j a c h (inr e) (inl x) (inr y) = inl (omega arith)
  same_place_after i j a c h (inr e) (inr x) y = absurd (omega arith)

  looped_longer : l ≤ k → (t : ℕ) → SamePlace l k (looped (suc l) (suc k) t) (looped l k t)
  looped_longer fits zero = inl refl
  looped_longer fits (suc t) =
      let within = looped_within l k fits t in
      same_place_after (looped (suc l) (suc k) t) (looped l k t) _ _ within (looped_longer fits t)
      (after_cases (suc l) (suc k) (looped (suc l) (suc k) t) (looped_within (suc l) (suc k) (suc-le-suc fits) t))
      (after_cases l k (looped l k t) within)

module _ (p : Problem) (bs : List ℕ) (w : Witness p bs) (l : ℕ) (fits : l ≤ p.bound) (closes : Closes p bs l) where
  abbrev lasso_longer : Problem
  lasso_longer = at_bound p (suc p.bound)

  -- The inputs of l once more.
  abbrev lasso_bytes : List ℕ
  lasso_bytes = lengthened (suc (suc l)) bs (bytes_at p bs l)

  again_room : 1 + length p.latches + p.inputs * l + p.inputs ≤ length bs
  again_room =
      let room : p.inputs * suc l ≤ p.inputs * (p.bound + 1) = mul-le-mul_left p.inputs (omega arith) in
      omega (arith, w.length_right, mul-suc p.inputs l)

  again_length : length (bytes_at p bs l) ≡ p.inputs
  again_length = rw (length-take, length-drop) (omega (arith, again_room))

  again_bits : (i : ℕ) → i < length (bytes_at p bs l) → byte (bytes_at p bs l) i ≤ 1
  again_bits i h =
      rw (
        get_or-take p.inputs (drop (1 + length p.latches + p.inputs * l) bs) i 0 (omega (arith, again_length)),
        get_or-drop (1 + length p.latches + p.inputs * l) bs i 0,
      )
      (w.bits_in_range (1 + length p.latches + p.inputs * l + i) (omega arith) (omega (arith, again_length, again_room)))

  to_k : (t : ℕ) → t ≤ p.bound → position lasso_longer lasso_bytes t ≡ position p bs t
  to_k = longer_position p bs w.length_right (suc (suc l)) (bytes_at p bs l) again_length

  -- Position k + 1 is position l.
  at_last : position lasso_longer lasso_bytes (suc p.bound) ≡ position p bs l
  at_last =
      same_position _ _
      (position_inputs lasso_longer lasso_bytes (suc p.bound) (le_refl _)
      ∙ longer_inputs_last p bs w.length_right (suc (suc l)) (bytes_at p bs l) again_length ∙ sym (position_inputs p bs l fits))
      (position_next lasso_longer lasso_bytes p.bound (le_refl _)
      ∙ ap (next_values lasso_longer) (to_k p.bound (le_refl _)) ∙ same_next (suc p.bound) p (position p bs p.bound) ∙ closes)

  longer_closes : Closes lasso_longer lasso_bytes (suc l)
  longer_closes =
      ap (next_values lasso_longer) (at_last ∙ sym (to_k l fits)) ∙ sym (position_next lasso_longer lasso_bytes l (suc-le-suc fits))

  -- The endless path is the same.
  longer_path : (t : ℕ) → lasso_path lasso_longer lasso_bytes (suc l) t ≡ lasso_path p bs l t
  longer_path t = go _ _ (looped_longer l p.bound fits t) (looped_within l p.bound fits t)
    where
      go : (i j : ℕ) → SamePlace l p.bound i j → j ≤ p.bound → position lasso_longer lasso_bytes i ≡ position p bs j
      go i j (inl e) h = rw e (to_k j h)
      go i j (inr e) h = rw (e.0, e.1) at_last

  longer_lasso_witness : Holds p (formula p) (lasso_path p bs l) 0 → Witness lasso_longer lasso_bytes
  longer_lasso_witness holds =
      longer_from p bs w.length_right (suc (suc l)) (bytes_at p bs l) again_length w (omega arith) again_bits
      (ap (meets_constraints p) at_last ∙ w.constraints_met l fits) (
        longer_closes,
        rw same_formula (subst (λ (path : ℕ → List Bool). True (formula p) path 0) (fun_ext same_row) holds),
      )
    where
      same_row : (t : ℕ) → values p (lasso_path p bs l t) ≡ values lasso_longer (lasso_path lasso_longer lasso_bytes (suc l) t)
      same_row t = ap (values p) (sym (longer_path t)) ∙ sym (same_values (suc p.bound) p _)

-- ════════ Larger bounds ════════

-- A witness that is a lasso.
abbrev LassoWitness : Problem → List ℕ → Type 0
LassoWitness p bs = (l : ℕ) × Witness p bs × (shape bs ≡ lasso l)

-- What each bound hands on to the next, every larger bound has.
module _ (p : Problem) (At : Problem → List ℕ → Type 0)
    (longer : (k : ℕ) (bs : List ℕ) → At (at_bound p k) bs → (cs : List ℕ) × At (at_bound p (suc k)) cs) where
  at_larger : (j k : ℕ) → j ≤ k → (bs : List ℕ) → At (at_bound p j) bs → (cs : List ℕ) × At (at_bound p k) cs
  at_larger j zero h bs w = (bs, let same : j ≡ 0 = omega arith in rw same at w)
  at_larger j (suc k) h bs w = go (eq-or-lt_of_le h) (λ q. at_larger j k q bs w)
    where
      go : (j ≡ suc k) ⊎ (j < suc k) → (j ≤ k → (cs : List ℕ) × At (at_bound p k) cs) → (cs : List ℕ) × At (at_bound p (suc k)) cs
      go (inl e) earlier = (bs, rw e at w)
      go (inr q) earlier = let v = earlier (le_of_suc-le-suc q) in longer k v.0 v.1

-- A lasso at bound k gives one at k + 1: the step from k to k + 1 copies position l, which meets the constraints.
longer_lasso : (p : Problem) (bs : List ℕ) → LassoWitness p bs → (cs : List ℕ) × LassoWitness (at_bound p (suc p.bound)) cs
longer_lasso p bs (l, w, is_lasso) =
    let fits : StartWithin (lasso l) p = rw is_lasso at (start_within p (byte bs 0) w.start_in_range) in
    let shown : Shows p bs (lasso l) = rw is_lasso at w.shows in
    (lasso_bytes p bs w l fits shown.0, (suc l, longer_lasso_witness p bs w l fits shown.0 shown.1, refl))

-- And so at every larger bound.
pub lasso_at_larger : (p : Problem) (j k : ℕ) → j ≤ k → (bs : List ℕ) → Witness (at_bound p j) bs → (l : ℕ) → shape bs ≡ lasso l
    → (cs : List ℕ) × (m : ℕ) × Witness (at_bound p k) cs × (shape cs ≡ lasso m)
lasso_at_larger p j k h bs w l is_lasso =
    let v = at_larger p LassoWitness (λ i. longer_lasso (at_bound p i)) j k h bs (l, w, is_lasso) in
    (v.0, v.1.0, v.1.1, v.1.2)

-- Without constraints any witness at bound k gives one at k + 1.
longer_witness : (p : Problem) → length p.constraints ≡ 0 → (bs : List ℕ) → Witness p bs → (cs : List ℕ) × Witness (at_bound p (suc p.bound)) cs
longer_witness p none bs w = go (byte bs 0) refl w.shows
  where
    go : (b : ℕ) → byte bs 0 ≡ b → Shows p bs (shape_of b) → (cs : List ℕ) × Witness (at_bound p (suc p.bound)) cs
    go zero e shown = longer_prefix_witness p bs w none shown
    go (suc l) e shown = let v = longer_lasso p bs (l, w, ap shape_of e) in (v.0, v.1.1)

-- And so at every larger bound.
pub witness_at_larger : (p : Problem) → length p.constraints ≡ 0 → (j k : ℕ) → j ≤ k → (bs : List ℕ) → Witness (at_bound p j) bs
    → (cs : List ℕ) × Witness (at_bound p k) cs
witness_at_larger p none = at_larger p Witness (λ k. longer_witness (at_bound p k) none)

-- The values at a position: inputs, latches, and each gate by its literals; and nothing else has these. Assumes nothing.
use mathlib.Core.Path.{◌≡◌, refl, sym, ◌∙◌, ap, ap₂}
use mathlib.Core.Logic.{◌⊎◌, inl, inr}
use mathlib.Core.Bool.{Bool, false, ◌&&◌}
use mathlib.Core.List.{List, [], ◌∷◌, ◌++◌}
use Prim.Native.Nat.{ℕ, zero, suc, ◌+◌, ◌*◌, ◌/◌, ◌-◌, ◌<◌, zero-le, suc-le-suc}
use native.Mathlib.Nat.{le_of_suc-le-suc, not-suc-le-zero, add-zero, eq-or-lt_of_le}
use native.Mathlib.Decide.{dec_lt}
use native.Mathlib.Omega.{arith}
use lib.ListN.{length, get_or, length-append, get_or-append}
use lib.Seq.{get_or-append-add, get_or-append_seam, ext_get_or}
use Rattle.meaning.specs.Problem.{Problem, Gate, W, latch_variable, gate_variable, gate}
use Rattle.meaning.specs.Proper.{Proper}
use Rattle.meaning.specs.Runs.{Position, turned, odd, literal_value, gate_value, with_gates, values}

-- ════════ Literals ════════

-- Lists that agree at a literal's variable give it the same value.
pub same_literal : (vs ws : List Bool) (x : ℕ) → get_or vs (x / 2) false ≡ get_or ws (x / 2) false → literal_value vs x ≡ literal_value ws x
same_literal vs ws x e = ap (turned (odd x)) e

pub same_gate : (vs ws : List Bool) (g : Gate) (n : ℕ) → ((v : ℕ) → v < n → get_or vs v false ≡ get_or ws v false)
    → g.left < 2 * n → g.right < 2 * n → gate_value vs g ≡ gate_value ws g
same_gate vs ws g n same l r =
    ap₂ ◌&&◌ (same_literal vs ws g.left (same _ (omega arith))) (same_literal vs ws g.right (same _ (omega arith)))

-- ════════ A list of gates ════════

abbrev gate_in : List Gate → ℕ → Gate
gate_in gs j = get_or gs j (record { left = 0; right = 0 })

-- Each gate's literals are of variables before it, where the first gate's variable is n.
record Earlier (gs : List Gate) (n : ℕ) : Type 0 where
  left_earlier : (j : ℕ) → j < length gs → (gate_in gs j).left < 2 * (n + j)
  right_earlier : (j : ℕ) → j < length gs → (gate_in gs j).right < 2 * (n + j)

length_one_more : (vs : List Bool) (b : Bool) → length (vs ++ (b ∷ [])) ≡ suc (length vs)
length_one_more vs b = simp length-append (omega arith)

length_with_gates : (gs : List Gate) (vs : List Bool) → length (with_gates gs vs) ≡ length vs + length gs
length_with_gates [] vs = sym (add-zero (length vs))
length_with_gates (g ∷ gs) vs = length_with_gates gs _ ∙ simp length-append (omega arith)

-- The values that are there stay.
with_gates_before : (gs : List Gate) (vs : List Bool) (v : ℕ) → v < length vs → get_or (with_gates gs vs) v false ≡ get_or vs v false
with_gates_before [] vs v h = refl
with_gates_before (g ∷ gs) vs v h =
    with_gates_before gs _ v (simp length-append (omega arith)) ∙ get_or-append vs _ false v h

-- The gates after the first begin one variable later.
earlier_rest : (g : Gate) (gs : List Gate) (vs : List Bool) (b : Bool) → Earlier (g ∷ gs) (length vs) → Earlier gs (length (vs ++ (b ∷ [])))
earlier_rest g gs vs b e = rw length_one_more (record {
  left_earlier = λ j h. omega (arith, e.left_earlier (suc j) (suc-le-suc h));
  right_earlier = λ j h. omega (arith, e.right_earlier (suc j) (suc-le-suc h));
})

-- The first gate has the same value over any list that agrees on the variables before it.
same_first_gate : (g : Gate) (gs : List Gate) (vs ws : List Bool) → Earlier (g ∷ gs) (length vs)
    → ((v : ℕ) → v < length vs → get_or ws v false ≡ get_or vs v false) → gate_value ws g ≡ gate_value vs g
same_first_gate g gs vs ws e same =
    same_gate ws vs g (length vs) same
    (omega (arith, e.left_earlier 0 (suc-le-suc zero-le))) (omega (arith, e.right_earlier 0 (suc-le-suc zero-le)))

with_gates_gate : (gs : List Gate) (vs : List Bool) → Earlier gs (length vs) → (j : ℕ) → j < length gs
    → get_or (with_gates gs vs) (length vs + j) false ≡ gate_value (with_gates gs vs) (gate_in gs j)
with_gates_gate [] vs e j h = absurd (not-suc-le-zero h)
with_gates_gate (g ∷ gs) vs e zero h =
    rw add-zero
    (with_gates_before gs _ (length vs) (omega (arith, length_one_more vs (gate_value vs g)))
    ∙ get_or-append_seam vs (gate_value vs g) [] false
    ∙ sym (same_first_gate g gs vs (with_gates (g ∷ gs) vs) e (with_gates_before (g ∷ gs) vs)))
with_gates_gate (g ∷ gs) vs e (suc j) h =
    let place : length (vs ++ (gate_value vs g ∷ [])) + j ≡ length vs + suc j = omega (arith, length_one_more vs (gate_value vs g)) in
    rw (← place) (with_gates_gate gs _ (earlier_rest g gs vs (gate_value vs g) e) j (le_of_suc-le-suc h))

-- Values as long that agree before the gates, and at each gate with its literals, are these.
with_gates_unique : (gs : List Gate) (vs ws : List Bool) → Earlier gs (length vs) → length ws ≡ length vs + length gs
    → ((v : ℕ) → v < length vs → get_or ws v false ≡ get_or vs v false)
    → ((j : ℕ) → j < length gs → get_or ws (length vs + j) false ≡ gate_value ws (gate_in gs j)) → ws ≡ with_gates gs vs
with_gates_unique [] vs ws e n same gates = ext_get_or false ws vs (omega arith) (λ v h. same v (omega arith))
with_gates_unique (g ∷ gs) vs ws e n same gates =
    let more : length and_first ≡ suc (length vs) = length_one_more vs (gate_value vs g) in
    with_gates_unique gs and_first ws (earlier_rest g gs vs _ e) (omega arith)
    (λ v h. agrees v (eq-or-lt_of_le {n = v} {m = length vs} (omega arith)))
    (λ j h.
    let place : length and_first + j ≡ length vs + suc j = omega arith in
    rw place (gates (suc j) (suc-le-suc h)))
  where
    and_first : List Bool
    and_first = vs ++ (gate_value vs g ∷ [])

    agrees : (v : ℕ) → (v ≡ length vs) ⊎ (v < length vs) → get_or ws v false ≡ get_or and_first v false
    agrees v (inl q) =
        rw (q, get_or-append_seam)
        (rw add-zero at (gates 0 (suc-le-suc zero-le)) ∙ same_first_gate g gs vs ws e same)
    agrees v (inr h) = same v h ∙ sym (get_or-append vs _ false v h)

-- ════════ The values at a position ════════

-- The values before the gates.
abbrev given : Position → List Bool
given x = false ∷ (x.inputs ++ x.latches)

-- Variable 0 is false at each position: gates are added behind the values, so the first stays.
pub values_zero_false : (p : Problem) (path : ℕ → Position) (t : ℕ) → get_or (values p (path t)) 0 false ≡ false
unfolding values
values_zero_false p path t = with_gates_before p.gates (given (path t)) 0 (suc-le-suc zero-le)

module _ (p : Problem) (x : Position) (inputs_there : length x.inputs ≡ p.inputs)
    (latches_there : length x.latches ≡ length p.latches) where
  given_length : length (given x) ≡ p.inputs + length p.latches + 1
  given_length = simp length-append (omega arith)

  given_input : (i : ℕ) → i < p.inputs → get_or (given x) (suc i) false ≡ get_or x.inputs i false
  given_input i h = get_or-append x.inputs x.latches false i (omega arith)

  given_latch : (i : ℕ) → get_or (given x) (latch_variable p i) false ≡ get_or x.latches i false
  given_latch i =
      let place : latch_variable p i ≡ suc (length x.inputs + i) = omega arith in
      rw place (get_or-append-add x.inputs x.latches i false)

  pub values_length : length (values p x) ≡ W p + 1
  unfolding values
  values_length = length_with_gates p.gates (given x) ∙ omega (arith, given_length)

  pub values_input : (i : ℕ) → i < p.inputs → get_or (values p x) (suc i) false ≡ get_or x.inputs i false
  unfolding values
  values_input i h = with_gates_before p.gates (given x) (suc i) (omega (arith, given_length)) ∙ given_input i h

  pub values_latch : (i : ℕ) → i < length p.latches → get_or (values p x) (latch_variable p i) false ≡ get_or x.latches i false
  unfolding values
  values_latch i h = with_gates_before p.gates (given x) (latch_variable p i) (omega (arith, given_length)) ∙ given_latch i

  module _ (c : Proper p) where
    earlier : Earlier p.gates (length (given x))
    earlier = rw given_length (record {
      left_earlier = λ j h. omega (arith, c.left_below j h);
      right_earlier = λ j h. omega (arith, c.right_below j h);
    })

    gate_place : (j : ℕ) → gate_variable p j ≡ length (given x) + j
    gate_place j = omega (arith, given_length)

    pub values_gate : (j : ℕ) → j < length p.gates → get_or (values p x) (gate_variable p j) false ≡ gate_value (values p x) (gate p j)
    unfolding values
    values_gate j h = rw gate_place (with_gates_gate p.gates (given x) earlier j h)

    -- Values as long that agree with the position, and at each gate with its literals, are these.
    pub values_unique : (vs : List Bool) → length vs ≡ W p + 1 → get_or vs 0 false ≡ false
        → ((i : ℕ) → i < p.inputs → get_or vs (suc i) false ≡ get_or x.inputs i false)
        → ((i : ℕ) → i < length p.latches → get_or vs (latch_variable p i) false ≡ get_or x.latches i false)
        → ((j : ℕ) → j < length p.gates → get_or vs (gate_variable p j) false ≡ gate_value vs (gate p j)) → vs ≡ values p x
    unfolding values
    values_unique vs n none inputs latches gates =
        with_gates_unique p.gates (given x) vs earlier (omega (arith, given_length))
        agrees (λ j h. rw (← gate_place j) (gates j h))
      where
        agrees_after : (i : ℕ) → i < p.inputs + length p.latches → Dec (i < p.inputs)
            → get_or vs (suc i) false ≡ get_or (given x) (suc i) false
        agrees_after i h (yes q) = inputs i q ∙ sym (given_input i q)
        agrees_after i h (no q) =
            let place : suc i ≡ latch_variable p (i - p.inputs) = omega arith in
            rw place (latches (i - p.inputs) (omega arith) ∙ sym (given_latch (i - p.inputs)))

        agrees : (v : ℕ) → v < length (given x) → get_or vs v false ≡ get_or (given x) v false
        agrees zero h = none
        agrees (suc i) h = agrees_after i (omega (arith, given_length)) (dec_lt i p.inputs)

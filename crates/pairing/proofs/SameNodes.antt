-- The laws of the node variables look at the tables only at the nodes and positions there are, and at the rows only for the literals of atoms.
-- Assumes nothing.
use mathlib.Core.Path.{◌≡◌, refl, sym, ◌∙◌, ap}
use mathlib.Core.Bool.{Bool, true, false}
use mathlib.Core.List.{List}
use Prim.Native.Nat.{ℕ, ◌-◌, ◌≤◌, ◌<◌, zero-le}
use native.Mathlib.Omega.{arith}
use lib.ListN.{length}
use Rattle.meaning.specs.Problem.{Problem, Node, node, atom, both, either, next, until, release}
use Rattle.meaning.specs.Formulas.{formula}
use Rattle.meaning.specs.Bounded.{Shape}
use Rattle.meaning.specs.LassoValue.{bounded_value}
use Rattle.pairing.specs.NodeLaws.{ChildrenEarlier, NodeLaws, at_next, op_value, q_value}
use Rattle.pairing.proofs.NextValues.{at_next_same}
use Rattle.pairing.proofs.NodeValues.{StartWithin, ZeroFalse, SameAtom, p_of, q_of, e_of, op_same, e_same, node_laws, node_laws_determine}
use Rattle.pairing.proofs.Trees.{formula_is}

module _ {p : Problem} (children : ChildrenEarlier p) (rows rows' : ℕ → List Bool) {P Q P' Q' : ℕ → ℕ → Bool} {E E' : ℕ → Bool}
    (same-atoms : (n i : ℕ) → n < length p.nodes → i ≤ p.bound → SameAtom rows rows' (node p n) i)
    (same-P : (n i : ℕ) → n < length p.nodes → i ≤ p.bound → P n i ≡ P' n i)
    (same-Q : (n i : ℕ) → n < length p.nodes → i ≤ p.bound → Q n i ≡ Q' n i)
    (same-E : (n : ℕ) → n < length p.nodes → E n ≡ E' n) where
  -- The op's value, with next values that are the same.
  op_at_next : (n i : ℕ) → n < length p.nodes → i ≤ p.bound → (f g : ℕ → Bool) (e e' : Bool)
      → ((j : ℕ) → j ≤ p.bound → f j ≡ g j) → e ≡ e'
      → op_value p.bound rows P E (node p n) i (at_next p.bound f e i) ≡ op_value p.bound rows' P' E' (node p n) i (at_next p.bound g e' i)
  op_at_next n i l h f g e e' same q =
      op_same p.bound rows rows' P P' E E' n (λ m j r. same-P m j (omega arith)) (λ m r. same-E m (omega arith))
      (node p n) (children.earlier n l) i h (same-atoms n i l h) _
      ∙ ap (op_value p.bound rows' P' E' (node p n) i) (at_next_same p.bound f g e e' same q i)

  q_same : (n i : ℕ) → n < length p.nodes → i ≤ p.bound → (x : Node)
      → ((e : Bool) → op_value p.bound rows P E x i (at_next p.bound (Q n) e i) ≡ op_value p.bound rows' P' E' x i (at_next p.bound (Q' n) e i))
      → q_value p.bound rows P E (Q n) x n i ≡ q_value p.bound rows' P' E' (Q' n) x n i
  q_same n i l h (atom x) op = same-P n i l h
  q_same n i l h (both a b) op = same-P n i l h
  q_same n i l h (either a b) op = same-P n i l h
  q_same n i l h (next a) op = same-P n i l h
  q_same n i l h (until a b) op = op false
  q_same n i l h (release a b) op = op true

  -- Tables that are the same there satisfy the same laws.
  pub node_laws_same : {s : Shape} → StartWithin s p → NodeLaws p s rows P Q E → NodeLaws p s rows' P' Q' E'
  node_laws_same {s} w laws = record {
    p_law = λ n i l h.
        sym (same-P n i l h) ∙ laws.p_law n i l h
        ∙ op_at_next n i l h (P n) (P' n) (E n) (E' n) (λ j r. same-P n j l r) (same-E n l);
    q_law = λ n i l h.
        sym (same-Q n i l h) ∙ laws.q_law n i l h
        ∙ q_same n i l h (node p n) (λ e. op_at_next n i l h (Q n) (Q' n) e e (λ j r. same-Q n j l r) refl);
    e_law = λ n l. sym (same-E n l) ∙ laws.e_law n l ∙ e_same p s w (Q n) (Q' n) (λ j r. same-Q n j l r);
  }

-- So the formula has the same value over rows that give the literals of atoms the same values up to k.
pub formula_same : {p : Problem} → ChildrenEarlier p → 1 ≤ length p.nodes → (s : Shape) → StartWithin s p → (rows rows' : ℕ → List Bool)
    → ZeroFalse p.bound rows → ZeroFalse p.bound rows'
    → ((n i : ℕ) → n < length p.nodes → i ≤ p.bound → SameAtom rows rows' (node p n) i)
    → bounded_value s p.bound rows (formula p) 0 ≡ bounded_value s p.bound rows' (formula p) 0
formula_same {p} children some s w rows rows' zero_false zero-false' same =
    let laws : NodeLaws p s rows' (p_of p s rows) (q_of p s rows) (e_of p s rows) =
    node_laws_same children rows rows' same (λ n i l h. refl) (λ n i l h. refl) (λ n l. refl) w (node_laws children s w rows zero_false) in
    rw (formula_is p)
    (node_laws_determine children w laws (node_laws children s w rows' zero-false') (length p.nodes - 1) 0 (omega arith) zero-le).0

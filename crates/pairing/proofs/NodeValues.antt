-- The bounded meaning satisfies the laws of the node variables, and these leave no other values. Assumes nothing.
use mathlib.Core.Path.{◌≡◌, refl, sym, ◌∙◌, ap, subst}
use mathlib.Core.Logic.{◌⊎◌, inl, inr}
use mathlib.Core.Bool.{Bool, true, false, ◌&&◌, ◌||◌}
use mathlib.Core.List.{List, []}
use Prim.Native.Nat.{ℕ, zero, suc, ◌-◌, ◌≤◌, ◌<◌, zero-le, ◌+◌}
use native.Mathlib.Nat.{le_refl, eq-or-lt_of_le, le_of_suc-le-suc}
use native.Mathlib.Omega.{arith}
use lib.ListN.{length, get_or}
use Rattle.answers.specs.Lists.{numbers}
use Rattle.meaning.specs.Problem.{Problem, Left, Node, node, constant, child, atom, both, either, next, until, release}
use Rattle.meaning.specs.Proper.{LeftProper}
use Rattle.meaning.specs.Runs.{literal_value}
use Rattle.meaning.specs.Formulas.{Formula, left_tree, tree_of, trees_after}
use Rattle.meaning.specs.Bounded.{Shape, prefix, lasso, after, prefix_value}
use Rattle.meaning.specs.LassoValue.{onward, until_over, release_over, loop_value, bounded_value}
use Rattle.meaning.specs.Witnesses.{shape_of}
use Rattle.pairing.specs.NodeLaws.{Earlier, ChildrenEarlier, NodeLaws, left_value, at_next, op_value, q_end, q_value, e_value}
use Rattle.pairing.proofs.Trees.{tree, tree_unfolds}
use Rattle.pairing.proofs.Prefixes.{up_to_inside, past_k_false, until_unfolds, release_unfolds}
use Rattle.pairing.proofs.NextValues.{at_next_inside, at_next_last, at_next_is, at_next_same, same_going_down, until_to_last, release_to_last, until_left_same, release_left_same}
use Rattle.pairing.proofs.Unrolled.{until_unrolled, until_once_round, release_unrolled, release_once_round}
use Rattle.pairing.proofs.UntilOnLassos.{after_last, after_inside}

-- The loop starts at 0 to k.
abbrev pub StartWithin : Shape → Problem → Type 0
StartWithin prefix p = Unit
StartWithin (lasso l) p = l ≤ p.bound

pub start_within : (p : Problem) (b : ℕ) → b ≤ p.bound + 1 → StartWithin (shape_of b) p
start_within p zero h = tt
start_within p (suc l) h = omega arith

-- Variable 0 is false at each position of the run.
abbrev pub ZeroFalse : ℕ → (ℕ → List Bool) → Type 0
ZeroFalse k rows = (i : ℕ) → i ≤ k → get_or (rows i) 0 false ≡ false

-- ════════ One op, on a lasso ════════

module _ (l k : ℕ) (fits : l ≤ k) where
  next_law : (f : ℕ → Bool) (i : ℕ) → i ≤ k → f (after l k i) ≡ at_next k f (f l) i
  next_law f i h = go (eq-or-lt_of_le h)
    where
      go : (i ≡ k) ⊎ (i < k) → f (after l k i) ≡ at_next k f (f l) i
      go (inl q) = rw (q, at_next_last k f (f l), after_last l k)
      go (inr h') = rw (at_next_inside k f (f l) i h', after_inside l k i h')

  until_law : (f g : ℕ → Bool) (i : ℕ) → i ≤ k
      → let u : ℕ → Bool = λ j. until_over f g false (onward l k (suc k) j) in
      u i ≡ g i || (f i && at_next k u (u l) i)
  until_law f g i h =
      let round : Bool = until_over f g false (numbers l (suc k - l)) in
      until_unrolled f g l k fits i h
      ∙ until_to_last k f g round i h
      ∙ ap (λ y. g i || (f i && y))
      (at_next_same k _ (λ j. until_over f g false (onward l k (suc k) j)) round _
      (λ j h'. sym (until_unrolled f g l k fits j h')) (sym (until_once_round f g l k fits)) i)

  release_law : (f g : ℕ → Bool) (i : ℕ) → i ≤ k
      → let r : ℕ → Bool = λ j. release_over f g true (onward l k (suc k) j) in
      r i ≡ g i && (f i || at_next k r (r l) i)
  release_law f g i h =
      let round : Bool = release_over f g true (numbers l (suc k - l)) in
      release_unrolled f g l k fits i h
      ∙ release_to_last k f g round i h
      ∙ ap (λ y. g i && (f i || y))
      (at_next_same k _ (λ j. release_over f g true (onward l k (suc k) j)) round _
      (λ j h'. sym (release_unrolled f g l k fits j h')) (sym (release_once_round f g l k fits)) i)

-- ════════ The tables ════════

module _ (p : Problem) (s : Shape) (rows : ℕ → List Bool) where
  abbrev pub p_of : ℕ → ℕ → Bool
  p_of n i = bounded_value s p.bound rows (tree p n) i

  -- The second pass of a node: to k, where U ends false and R true.
  abbrev pub q_over : Node → ℕ → ℕ → Bool
  q_over (atom x) n i = p_of n i
  q_over (both a b) n i = p_of n i
  q_over (either a b) n i = p_of n i
  q_over (next a) n i = p_of n i
  q_over (until a b) n i = until_over (left_value p_of a) (p_of b) false (numbers i (suc p.bound - i))
  q_over (release a b) n i = release_over (left_value p_of a) (p_of b) true (numbers i (suc p.bound - i))

  abbrev pub q_of : ℕ → ℕ → Bool
  q_of n i = q_over (node p n) n i

  -- False on a prefix, the value at the start on a lasso.
  abbrev pub e_of : ℕ → Bool
  e_of n = e_value s (p_of n)

-- ════════ The tables satisfy the laws ════════

module _ (p : Problem) (rows : ℕ → List Bool) where
  second_law : (s : Shape) (x : Node) (n i : ℕ) → i ≤ p.bound
      → q_over p s rows x n i ≡ q_value p.bound rows (p_of p s rows) (e_of p s rows) (q_over p s rows x n) x n i
  second_law s (atom x) n i h = refl
  second_law s (both a b) n i h = refl
  second_law s (either a b) n i h = refl
  second_law s (next a) n i h = refl
  second_law s (until a b) n i h = until_to_last p.bound (left_value (p_of p s rows) a) (p_of p s rows b) false i h
  second_law s (release a b) n i h = release_to_last p.bound (left_value (p_of p s rows) a) (p_of p s rows b) true i h

module _ (p : Problem) (rows : ℕ → List Bool) (zero_false : ZeroFalse p.bound rows) where
  abbrev left_in : Left → Formula
  left_in a = left_tree (trees_after [] p.nodes) a

  -- A constant on the left is the literal 1 or 0, up to k.
  left_on_prefix : (a : Left) (i : ℕ) → i ≤ p.bound → prefix_value p.bound rows (left_in a) i ≡ left_value (p_of p prefix rows) a i
  left_on_prefix (constant true) i h = up_to_inside p.bound i _ h ∙ rw (zero_false i h)
  left_on_prefix (constant false) i h = up_to_inside p.bound i _ h ∙ zero_false i h
  left_on_prefix (child c) i h = refl

  left_on_lasso : (l : ℕ) (a : Left) (i : ℕ) → i ≤ p.bound
      → loop_value l p.bound rows (left_in a) i ≡ left_value (p_of p (lasso l) rows) a i
  left_on_lasso l (constant true) i h = rw (zero_false i h)
  left_on_lasso l (constant false) i h = zero_false i h
  left_on_lasso l (child c) i h = refl

  -- On a prefix the next value past k is false.
  next_on_prefix : (f : Formula) (i : ℕ) → i ≤ p.bound
      → prefix_value p.bound rows f (suc i) ≡ at_next p.bound (prefix_value p.bound rows f) false i
  next_on_prefix f = at_next_is p.bound (prefix_value p.bound rows f) false (past_k_false p.bound rows f (suc p.bound) (le_refl _))

  abbrev TreeLaw : Shape → Node → Type 0
  TreeLaw s x =
      let f : ℕ → Bool = bounded_value s p.bound rows (tree_of (trees_after [] p.nodes) x) in
      (i : ℕ) → i ≤ p.bound → f i ≡ op_value p.bound rows (p_of p s rows) (e_of p s rows) x i (at_next p.bound f (e_value s f) i)

  prefix_law : (x : Node) → TreeLaw prefix x
  prefix_law (atom x) i h = up_to_inside p.bound i _ h
  prefix_law (both a b) i h = up_to_inside p.bound i _ h
  prefix_law (either a b) i h = up_to_inside p.bound i _ h
  prefix_law (next a) i h = up_to_inside p.bound i _ h ∙ next_on_prefix (tree p a) i h
  prefix_law (until a b) i h =
      rw (← left_on_prefix a i h, ← next_on_prefix (tree_of (trees_after [] p.nodes) (until a b)) i h) (until_unfolds p.bound rows (left_in a) (tree p b) i h)
  prefix_law (release a b) i h =
      rw (← left_on_prefix a i h, ← next_on_prefix (tree_of (trees_after [] p.nodes) (release a b)) i h) (release_unfolds p.bound rows (left_in a) (tree p b) i h)

  loop_law : (l : ℕ) → l ≤ p.bound → (x : Node) → TreeLaw (lasso l) x
  loop_law l w (atom x) i h = refl
  loop_law l w (both a b) i h = refl
  loop_law l w (either a b) i h = refl
  loop_law l w (next a) i h = next_law l p.bound w (p_of p (lasso l) rows a) i h
  loop_law l w (until a b) i h = rw (← left_on_lasso l a i h) (until_law l p.bound w (loop_value l p.bound rows (left_in a)) (p_of p (lasso l) rows b) i h)
  loop_law l w (release a b) i h = rw (← left_on_lasso l a i h) (release_law l p.bound w (loop_value l p.bound rows (left_in a)) (p_of p (lasso l) rows b) i h)

  tree_law : (s : Shape) → StartWithin s p → (x : Node) → TreeLaw s x
  tree_law prefix w = prefix_law
  tree_law (lasso l) w = loop_law l w

  -- At the loop's start both passes agree.
  start_law : (l : ℕ) → l ≤ p.bound → (x : Node) (n : ℕ) → tree p n ≡ tree_of (trees_after [] p.nodes) x
      → p_of p (lasso l) rows n l ≡ q_over p (lasso l) rows x n l
  start_law l w (atom x) n e = refl
  start_law l w (both a b) n e = refl
  start_law l w (either a b) n e = refl
  start_law l w (next a) n e = refl
  start_law l w (until a b) n e =
      ap (λ t. loop_value l p.bound rows t l) e
      ∙ until_once_round (loop_value l p.bound rows (left_in a)) (p_of p (lasso l) rows b) l p.bound w
      ∙ until_left_same p.bound (loop_value l p.bound rows (left_in a)) (left_value (p_of p (lasso l) rows) a) (p_of p (lasso l) rows b) false
      (left_on_lasso l a) l w
  start_law l w (release a b) n e =
      ap (λ t. loop_value l p.bound rows t l) e
      ∙ release_once_round (loop_value l p.bound rows (left_in a)) (p_of p (lasso l) rows b) l p.bound w
      ∙ release_left_same p.bound (loop_value l p.bound rows (left_in a)) (left_value (p_of p (lasso l) rows) a) (p_of p (lasso l) rows b) true
      (left_on_lasso l a) l w

  end_law : (s : Shape) → StartWithin s p → (x : Node) (n : ℕ) → tree p n ≡ tree_of (trees_after [] p.nodes) x
      → e_of p s rows n ≡ e_value s (q_over p s rows x n)
  end_law prefix w x n e = refl
  end_law (lasso l) w x n e = start_law l w x n e

-- The bounded meaning satisfies the laws.
pub node_laws : {p : Problem} → ChildrenEarlier p → (s : Shape) → StartWithin s p → (rows : ℕ → List Bool) → ZeroFalse p.bound rows
    → NodeLaws p s rows (p_of p s rows) (q_of p s rows) (e_of p s rows)
node_laws {p} children s w rows zero_false = record {
  p_law = λ n i m h.
      subst (λ (t : Formula).
      let f : ℕ → Bool = bounded_value s p.bound rows t in
      f i ≡ op_value p.bound rows (p_of p s rows) (e_of p s rows) (node p n) i (at_next p.bound f (e_value s f) i))
      (sym (tree_unfolds children n m)) (tree_law p rows zero_false s w (node p n) i h);
  q_law = λ n i m h. second_law p rows s (node p n) n i h;
  e_law = λ n m. end_law p rows zero_false s w (node p n) n (tree_unfolds children n m);
}

-- ════════ The laws leave no other values ════════

-- Q unfolds by its node's op too: ops 0 to 3 do not read their own next value.
pub q_by_op : (k : ℕ) (rows : ℕ → List Bool) (P : ℕ → ℕ → Bool) (E Q : ℕ → Bool) (x : Node) (n i : ℕ) (y : Bool)
    → P n i ≡ op_value k rows P E x i y → q_value k rows P E Q x n i ≡ op_value k rows P E x i (at_next k Q (q_end x) i)
q_by_op k rows P E Q (atom x) n i y r = r
q_by_op k rows P E Q (both a b) n i y r = r
q_by_op k rows P E Q (either a b) n i y r = r
q_by_op k rows P E Q (next a) n i y r = r
q_by_op k rows P E Q (until a b) n i y r = refl
q_by_op k rows P E Q (release a b) n i y r = refl

pub e_same : (p : Problem) (s : Shape) → StartWithin s p → (f g : ℕ → Bool) → ((i : ℕ) → i ≤ p.bound → f i ≡ g i) → e_value s f ≡ e_value s g
e_same p prefix w f g same = refl
e_same p (lasso l) w f g same = same l w

-- The rows give an atom's literal the same value; of another op nothing is asked.
abbrev pub SameAtom : (ℕ → List Bool) → (ℕ → List Bool) → Node → ℕ → Type 0
SameAtom rows rows' x i = (a : ℕ) → x ≡ atom a → literal_value (rows i) a ≡ literal_value (rows' i) a

-- Where an atom's literal is the same, and P and E of the nodes before n, node n's op has the same value.
module _ (k : ℕ) (rows rows' : ℕ → List Bool) (P P' : ℕ → ℕ → Bool) (E E' : ℕ → Bool) (n : ℕ)
    (same-P : (m i : ℕ) → m < n → i ≤ k → P m i ≡ P' m i) (same-E : (m : ℕ) → m < n → E m ≡ E' m) where
  left_same : (a : Left) → LeftProper n a → (i : ℕ) → i ≤ k → left_value P a i ≡ left_value P' a i
  left_same (constant b) l i h = refl
  left_same (child c) l i h = same-P c i l h

  pub op_same : (x : Node) → Earlier n x → (i : ℕ) → i ≤ k → SameAtom rows rows' x i → (y : Bool)
      → op_value k rows P E x i y ≡ op_value k rows' P' E' x i y
  op_same (atom x) l i h same y = same x refl
  op_same (both a b) l i h same y = rw (same-P a i l.0 h, same-P b i l.1 h)
  op_same (either a b) l i h same y = rw (same-P a i l.0 h, same-P b i l.1 h)
  op_same (next a) l i h same y = at_next_same k (P a) (P' a) (E a) (E' a) (λ j q. same-P a j l q) (same-E a l) i
  op_same (until a b) l i h same y = rw (left_same a l.0 i h, same-P b i l.1 h)
  op_same (release a b) l i h same y = rw (left_same a l.0 i h, same-P b i l.1 h)

module _ (p : Problem) (rows : ℕ → List Bool) (P Q P' Q' : ℕ → ℕ → Bool) (E E' : ℕ → Bool) where
  abbrev SameAt : ℕ → Type 0
  SameAt n = (i : ℕ) → i ≤ p.bound → (P n i ≡ P' n i) × (Q n i ≡ Q' n i) × (E n ≡ E' n)

  abbrev SameBefore : ℕ → Type 0
  SameBefore n = (m : ℕ) → m < n → SameAt m

  module _ (s : Shape) (children : ChildrenEarlier p) (w : StartWithin s p) (laws : NodeLaws p s rows P Q E) (laws' : NodeLaws p s rows P' Q' E') where
    same_node : (n : ℕ) → n < length p.nodes → SameBefore n → SameAt n
    same_node n m before i h = (p_same i h, q_same i h, e_end)
      where
        step : ℕ → Bool → Bool
        step = op_value p.bound rows P E (node p n)

        other : (j : ℕ) → j ≤ p.bound → (y : Bool) → op_value p.bound rows P' E' (node p n) j y ≡ step j y
        other j r y =
            sym (op_same p.bound rows rows P P' E E' n (λ c t q h'. (before c q t h').0) (λ c q. (before c q 0 zero-le).2)
            (node p n) (children.earlier n m) j r (λ a e. refl) y)

        q_same : (j : ℕ) → j ≤ p.bound → Q n j ≡ Q' n j
        q_same =
            same_going_down p.bound step (Q n) (Q' n) (q_end (node p n)) (q_end (node p n)) refl
            (λ j r. laws.q_law n j m r ∙ q_by_op p.bound rows P E (Q n) (node p n) n j _ (laws.p_law n j m r))
            (λ j r. laws'.q_law n j m r ∙ q_by_op p.bound rows P' E' (Q' n) (node p n) n j _ (laws'.p_law n j m r) ∙ other j r _)

        e_end : E n ≡ E' n
        e_end = laws.e_law n m ∙ e_same p s w (Q n) (Q' n) q_same ∙ sym (laws'.e_law n m)

        p_same : (j : ℕ) → j ≤ p.bound → P n j ≡ P' n j
        p_same =
            same_going_down p.bound step (P n) (P' n) (E n) (E' n) e_end
            (λ j r. laws.p_law n j m r) (λ j r. laws'.p_law n j m r ∙ other j r _)

    same_before : (n : ℕ) → n ≤ length p.nodes → SameBefore n
    same_before zero l m r = absurd (omega arith)
    same_before (suc n) l m r = go (eq-or-lt_of_le (le_of_suc-le-suc r)) (same_before n (omega arith))
      where
        go : (m ≡ n) ⊎ (m < n) → SameBefore n → SameAt m
        go (inl e) before = rw e (same_node n l before)
        go (inr r') before = before m r'

-- Any two tables that satisfy the laws are the same.
pub node_laws_determine : {p : Problem} {s : Shape} {rows : ℕ → List Bool} {P Q P' Q' : ℕ → ℕ → Bool} {E E' : ℕ → Bool}
    → ChildrenEarlier p → StartWithin s p → NodeLaws p s rows P Q E → NodeLaws p s rows P' Q' E'
    → (n i : ℕ) → n < length p.nodes → i ≤ p.bound → (P n i ≡ P' n i) × (Q n i ≡ Q' n i) × (E n ≡ E' n)
node_laws_determine {p} {s} {rows} {P} {Q} {P'} {Q'} {E} {E'} children w laws laws' n i l h =
    same_before p rows P Q P' Q' E E' s children w laws laws' (suc n) l n (omega arith) i h

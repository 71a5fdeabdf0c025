-- A node's tree is its op over the trees of its children. Assumes nothing.
use mathlib.Core.Path.{◌≡◌, refl, sym, ◌∙◌}
use mathlib.Core.Bool.{true, false}
use mathlib.Core.List.{List, [], ◌∷◌, ◌++◌}
use Prim.Native.Nat.{ℕ, zero, suc, ◌+◌, ◌-◌, ◌<◌}
use native.Mathlib.Nat.{not-suc-le-zero, le_of_suc-le-suc}
use native.Mathlib.Omega.{arith}
use lib.ListN.{length, get_or, length-append, get_or-append}
use lib.Seq.{get_or_at}
use Rattle.meaning.specs.Problem as Nodes
use Rattle.meaning.specs.Problem.{Problem, Left, Node, constant, child, node}
use Rattle.meaning.specs.Proper.{LeftProper, NodeProper, Proper}
use Rattle.meaning.specs.Formulas.{Formula, atom, left_tree, tree_of, trees_after, formula}
use Rattle.pairing.specs.NodeLaws.{Earlier, ChildrenEarlier}

abbrev pub tree : Problem → ℕ → Formula
tree p n = get_or (trees_after [] p.nodes) n (atom 0)

-- ════════ Earlier nodes ════════

-- A proper node's children are earlier.
earlier_if_proper : (p : Problem) (n : ℕ) (x : Node) → NodeProper p n x → Earlier n x
earlier_if_proper p n (Nodes.atom x) l = tt
earlier_if_proper p n (Nodes.both a b) l = l
earlier_if_proper p n (Nodes.either a b) l = l
earlier_if_proper p n (Nodes.next a) l = l
earlier_if_proper p n (Nodes.until a b) l = l
earlier_if_proper p n (Nodes.release a b) l = l

pub children_earlier : {p : Problem} → Proper p → ChildrenEarlier p
children_earlier {p} proper = record { earlier = λ n l. earlier_if_proper p n (node p n) (proper.nodes_proper n l) }

-- ════════ Trees that stand stay ════════

-- The trees of the nodes below n are the same in both lists.
abbrev SameBelow : ℕ → List Formula → List Formula → Type 0
SameBelow n ts us = (c : ℕ) → c < n → get_or ts c (atom 0) ≡ get_or us c (atom 0)

trees_stay : (ts : List Formula) (ns : List Node) → SameBelow (length ts) (trees_after ts ns) ts
trees_stay ts [] c l = refl
trees_stay ts (x ∷ ns) c l =
    let m : c < length (ts ++ (tree_of ts x ∷ [])) = simp length-append (omega arith) in
    trees_stay (ts ++ (tree_of ts x ∷ [])) ns c m ∙ get_or-append ts _ (atom 0) c l

module _ (n : ℕ) (ts us : List Formula) (same : SameBelow n ts us) where
  left_tree_same : (a : Left) → LeftProper n a → left_tree ts a ≡ left_tree us a
  left_tree_same (constant true) l = refl
  left_tree_same (constant false) l = refl
  left_tree_same (child c) l = same c l

  tree_of_same : (x : Node) → Earlier n x → tree_of ts x ≡ tree_of us x
  tree_of_same (Nodes.atom x) l = refl
  tree_of_same (Nodes.both a b) l = rw (same a l.0, same b l.1)
  tree_of_same (Nodes.either a b) l = rw (same a l.0, same b l.1)
  tree_of_same (Nodes.next a) l = rw (same a l)
  tree_of_same (Nodes.until a b) l = rw (left_tree_same a l.0, same b l.1)
  tree_of_same (Nodes.release a b) l = rw (left_tree_same a l.0, same b l.1)

-- ════════ Trees unfold ════════

-- Of nodes that follow so many trees, the one at j has number n.
unfolds_after : (ts : List Formula) (ns : List Node) (j n : ℕ) → length ts + j ≡ n → j < length ns
    → Earlier n (get_or ns j (Nodes.atom 0)) → get_or (trees_after ts ns) n (atom 0) ≡ tree_of (trees_after ts ns) (get_or ns j (Nodes.atom 0))
unfolds_after ts [] j n e l r = absurd (not-suc-le-zero l)
unfolds_after ts (x ∷ ns) zero n e l r =
    let us : List Formula = ts ++ (tree_of ts x ∷ []) in
    let there : n < length us = simp length-append (omega arith) in
    let same : SameBelow n ts (trees_after us ns) = λ c m. sym (trees_stay ts (x ∷ ns) c (omega arith)) in
    trees_stay us ns n there ∙ get_or_at ts (tree_of ts x) [] (atom 0) n (omega arith) ∙ tree_of_same n ts (trees_after us ns) same x r
unfolds_after ts (x ∷ ns) (suc j) n e l r =
    unfolds_after (ts ++ (tree_of ts x ∷ [])) ns j n (simp length-append (omega arith)) (le_of_suc-le-suc l) r

pub tree_unfolds : {p : Problem} → ChildrenEarlier p → (n : ℕ) → n < length p.nodes → tree p n ≡ tree_of (trees_after [] p.nodes) (node p n)
tree_unfolds {p} children n l = unfolds_after [] p.nodes n n (omega arith) l (children.earlier n l)

-- ════════ The formula ════════

-- "The last node is the formula."
pub formula_is : (p : Problem) → formula p ≡ tree p (length p.nodes - 1)
unfolding formula
formula_is p = refl

-- Document 01, "the usual LTL meaning", on an endless path; nodes as trees. Assumes nothing.
use Rattle.std.specs.Prelude.{Bool, true, false, List, [], ◌∷◌, ◌++◌, ◌⊎◌, ◌≡◌, ℕ, suc, ◌+◌, ◌-◌, ◌<◌, length, get_or}
use Rattle.meaning.specs.Problem as Nodes
use Rattle.meaning.specs.Problem.{Problem, Left, Node, constant, child}
use Rattle.meaning.specs.Runs.{Position, literal_value, values}

pub data Formula : Type 0 where
  atom : ℕ → Formula
  both : Formula → Formula → Formula
  either : Formula → Formula → Formula
  next : Formula → Formula
  until : Formula → Formula → Formula
  release : Formula → Formula → Formula

-- The formula is true at position i of an endless path, given by the values of the variables at each position.
abbrev pub True : Formula → (ℕ → List Bool) → ℕ → Type 0
True (atom x) path i = literal_value (path i) x ≡ true
True (both f g) path i = True f path i × True g path i
True (either f g) path i = True f path i ⊎ True g path i
True (next f) path i = True f path (suc i)
True (until f g) path i = (j : ℕ) × True g path (i + j) × ((m : ℕ) → m < j → True f path (i + m))
True (release f g) path i = (j : ℕ) → True g path (i + j) ⊎ ((m : ℕ) × (m < j) × True f path (i + m))

-- The formula is true at position i of an endless run of the circuit.
abbrev pub Holds : Problem → Formula → (ℕ → Position) → ℕ → Type 0
Holds p f path i = True f (λ t. values p (path t)) i

-- ════════ Nodes as trees ════════

-- "F has constant true on the left of U, G constant false on the left of R": literals 1 and 0.
abbrev pub left_tree : List Formula → Left → Formula
left_tree ts (constant true) = atom 1
left_tree ts (constant false) = atom 0
left_tree ts (child c) = get_or ts c (atom 0)

-- A node's tree, over those of the earlier nodes.
abbrev pub tree_of : List Formula → Node → Formula
tree_of ts (Nodes.atom x) = atom x
tree_of ts (Nodes.both a b) = both (get_or ts a (atom 0)) (get_or ts b (atom 0))
tree_of ts (Nodes.either a b) = either (get_or ts a (atom 0)) (get_or ts b (atom 0))
tree_of ts (Nodes.next a) = next (get_or ts a (atom 0))
tree_of ts (Nodes.until a b) = until (left_tree ts a) (get_or ts b (atom 0))
tree_of ts (Nodes.release a b) = release (left_tree ts a) (get_or ts b (atom 0))

-- "Children are earlier node numbers": each node's tree follows those before it.
abbrev pub trees_after : List Formula → List Node → List Formula
trees_after ts [] = ts
trees_after ts (n ∷ ns) = trees_after (ts ++ (tree_of ts n ∷ [])) ns

-- "The last node is the formula."
unfoldable pub formula : Problem → Formula
formula p = get_or (trees_after [] p.nodes) (length p.nodes - 1) (atom 0)

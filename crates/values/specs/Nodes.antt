-- The nodes' table: a row of values for each node, one for each position of a run. Assumes nothing.
use Rattle.std.specs.Prelude.{◌≡◌, ℕ, ◌<◌, ◌≤◌, Bool, true, false, List, [], length, slice_index_or}
use Rattle.answers.specs.Limits.{nodes_limit, bound_limit}
use Rattle.meaning.specs.Problem.{Problem, Node, atom, both, either, next, until, release}
use Rattle.pairing.specs.NodeLaws.{ChildrenEarlier, at_next, op_value, q_end, e_value}
use Rattle.pairing.proofs.NodeValues.{StartWithin, ZeroFalse, p_of}
use Rattle.values.specs.declared.run.Run.{Run}
use Rattle.values.specs.Tables.{row_in, at_position, shape_at}

-- ════════ The values of nodes ════════

-- P of node n at position i, by the nodes' rows.
abbrev pub at_node : List (List Bool) → ℕ → ℕ → Bool
at_node t n = at_position (slice_index_or t n [])

-- An op's value over the rows of earlier nodes, where y is the node's own next value.
abbrev pub op_in : Run → List (List Bool) → Node → ℕ → Bool → Bool
op_in run below x i y = op_value run.last (row_in run.table.now) (at_node below) (λ n. e_value (shape_at run.start) (at_node below n)) x i y

-- Each position's value is the op's, over the next one's or past the last the end.
pub record ByOp (run : Run) (below : List (List Bool)) (x : Node) (end : Bool) (f : ℕ → Bool) : Type 0 where
  pub values : (i : ℕ) → i ≤ run.last → f i ≡ op_in run below x i (at_next run.last f end i)

-- U and R alone go by the node's own next value.
abbrev pub goes_on : Node → Bool
goes_on (atom x) = false
goes_on (both a b) = false
goes_on (either a b) = false
goes_on (next a) = false
goes_on (until a b) = true
goes_on (release a b) = true

-- E of an op that goes on: that of whatever has the values of Q.
pub record EndOf (run : Run) (below : List (List Bool)) (x : Node) (end : Bool) : Type 0 where
  pub found : goes_on x ≡ true → (Q : ℕ → Bool) → ByOp run below x (q_end x) Q → end ≡ e_value (shape_at run.start) Q

-- ════════ A problem ════════

-- What the passes over the nodes ask of it: nodes and positions within their limits, and each child an earlier node.
pub record NodesFit (p : Problem) : Type 0 where
  pub nodes_some : 1 ≤ length p.nodes
  pub nodes_within : length p.nodes ≤ nodes_limit
  pub bound_within : p.bound ≤ bound_limit
  pub children : ChildrenEarlier p

-- .. and of a run; that its rows are those of a witness is left to whoever wants the value to mean something.
pub record Ready (p : Problem) (run : Run) : Type 0 where
  pub fit : NodesFit p
  pub last_is : run.last ≡ p.bound
  pub start_within : StartWithin (shape_at run.start) p
  pub zero_false : ZeroFalse p.bound (row_in run.table.now)

-- Node n's row is its bounded meaning.
pub record RowOf (p : Problem) (run : Run) (n : ℕ) (row : List Bool) : Type 0 where
  pub right : (i : ℕ) → i ≤ p.bound → at_position row i ≡ p_of p (shape_at run.start) (row_in run.table.now) n i

-- Node n is next: those before it have their rows.
pub record NodeReady (p : Problem) (run : Run) (n : ℕ) (below : List (List Bool)) : Type 0 where
  pub ready : Ready p run
  pub next_is : n ≡ length below
  pub there : n < length p.nodes
  pub rows_before : (m : ℕ) → m < n → RowOf p run m (slice_index_or below m [])

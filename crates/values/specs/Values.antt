-- What anyone may ask for: the gates of a row, the latch that leaves a loop open, the length of a witness, and the formula's value over a
-- table of rows, whatever stands in the words and in the table. Assumes nothing.
use Rattle.std.specs.Prelude.{ℕ, zero, suc, ◌+◌, ◌*◌, ◌%◌, ◌^◌, Bool, true, false, cond, not, ◌&&◌, List, [], ◌∷◌, length, ◌==◌, nat_le, nat_lt, slice_index_or, slice_set}
use Rattle.std.specs.Bool.{beq}
use Rattle.answers.specs.Lists.{numbers, all_of}
use Rattle.answers.specs.Limits.{nodes_limit, bound_limit}
use Rattle.meaning.specs.Problem.{Problem, Gate, latch, Left, Node, node, constant, child, atom, both, either, next, until, release}
use Rattle.meaning.specs.Runs.{gate_value, literal_value}
use Rattle.meaning.specs.Formulas.{formula}
use Rattle.meaning.specs.LassoValue.{bounded_value}
use Rattle.meaning.specs.Witnesses.{shape_of}
use Rattle.values.specs.Tables.{row_in, rows_room}

-- The values of gates put into a row from a place on, each over the row so far; those past the row's end are left out.
abbrev pub gates_put : List Gate → ℕ → List Bool → List Bool
gates_put [] at row = row
gates_put (g ∷ gs) at row = gates_put gs (suc at) (slice_set row at (gate_value row g))

-- ════════ The latches ════════

-- The first of n numbers whose test fails, n where none does.
abbrev pub first_not : (ℕ → Bool) → ℕ → ℕ
first_not f zero = zero
first_not f (suc n) = cond (f zero) (suc (first_not (λ i. f (suc i)) n)) zero

-- Whether a latch's next value by a row is what another has for it, where the latches' places there begin with one.
abbrev pub closed_at : Problem → List Bool → List Bool → ℕ → ℕ → Bool
closed_at p row there at i = beq (literal_value row (latch p i).next) (slice_index_or there (at + i) false)

-- The first latch of which that is not so.
unfoldable pub first_open : Problem → List Bool → List Bool → ℕ → ℕ
first_open p row there at = first_not (closed_at p row there at) (length p.latches)

-- ════════ The bytes ════════

-- How many bytes a witness has, as a number of eight bytes.
unfoldable pub length_of : Problem → ℕ
length_of p = (1 + (length p.latches + p.inputs * (p.bound + 1))) % 2 ^ 64

-- ════════ The formula ════════

-- Whether a node's children are nodes before n.
abbrev pub left_earlier : ℕ → Left → Bool
left_earlier n (constant b) = true
left_earlier n (child c) = nat_lt c n

abbrev pub earlier : ℕ → Node → Bool
earlier n (atom x) = true
earlier n (both a b) = nat_lt a n && nat_lt b n
earlier n (either a b) = nat_lt a n && nat_lt b n
earlier n (next a) = nat_lt a n
earlier n (until a b) = left_earlier n a && nat_lt b n
earlier n (release a b) = left_earlier n a && nat_lt b n

-- Nodes and positions are within their limits, and each child is an earlier node.
abbrev pub nodes_fit : Problem → Bool
nodes_fit p =
    nat_le 1 (length p.nodes)
    && nat_le (length p.nodes) nodes_limit
    && nat_le p.bound bound_limit
    && all_of (λ n. earlier n (node p n)) (numbers 0 (length p.nodes))

-- The table has a row for each position, and variable 0 is false in those of the run.
abbrev pub rows_fit : Problem → List Bool → Bool
rows_fit p table =
    (length table == rows_room) && all_of (λ t. not (slice_index_or (row_in table t) 0 false)) (numbers 0 (p.bound + 1))

-- The formula's value at position 0 over the rows of a table, for a first byte, "0 for a prefix or l + 1"; false where these do not fit.
unfoldable pub value_in : Problem → ℕ → List Bool → Bool
value_in p first table =
    nodes_fit p
    && nat_le first (p.bound + 1)
    && rows_fit p table
    && bounded_value (shape_of first) p.bound (row_in table) (formula p) 0

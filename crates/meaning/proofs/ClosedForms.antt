-- The numbers of variables, clauses and words of a problem's CNF, in closed form. Nobody has to believe them: they are proved equal to those
-- of the CNF itself, V for a problem with a node (`variable_count_is`, `clause_count_is`, `word_count_is` of proofs/Counts), and of the promises only
-- that of `counts::total::counts`, below the check, names them. Assumes nothing.
use mathlib.Core.Bool.{Bool, true, false}
use mathlib.Core.List.{List, [], ◌∷◌}
use Prim.Native.Nat.{ℕ, suc, ◌+◌, ◌*◌, ◌-◌, ◌/◌}
use lib.Dec.{ltb}
use lib.ListN.{length}
use Rattle.answers.specs.Lists.{those, sum}
use Rattle.meaning.specs.Problem.{Problem, Latch, Node, W, atom, both, either, next, until, release}

-- ════════ What is counted in the problem ════════

-- The latches with reset 0 or 1.
abbrev pub fixed_resets : List Latch → ℕ
fixed_resets cs = length (those (λ (c : Latch). ltb c.reset 2) cs)

-- The nodes by their form: x=a (ops 0 and 3), "and" and "or" (1 and 2), Until and Release (4 to 7).
abbrev pub has_equal_form : Node → Bool
has_equal_form (atom x) = true
has_equal_form (both a b) = false
has_equal_form (either a b) = false
has_equal_form (next a) = true
has_equal_form (until a b) = false
has_equal_form (release a b) = false

abbrev pub has_or_form : Node → Bool
has_or_form (atom x) = false
has_or_form (both a b) = true
has_or_form (either a b) = true
has_or_form (next a) = false
has_or_form (until a b) = false
has_or_form (release a b) = false

abbrev pub has_until_form : Node → Bool
has_until_form (atom x) = false
has_until_form (both a b) = false
has_until_form (either a b) = false
has_until_form (next a) = false
has_until_form (until a b) = true
has_until_form (release a b) = true

pub record Tally : Type 0 where
  pub positions : ℕ
  pub width : ℕ
  pub latches : ℕ
  pub fixed : ℕ
  pub gates : ℕ
  pub constraints : ℕ
  pub equals : ℕ
  pub ors : ℕ
  pub untils : ℕ

abbrev pub tally : Problem → Tally
tally p = record {
  positions = p.bound + 1;
  width = W p;
  latches = length p.latches;
  fixed = fixed_resets p.latches;
  gates = length p.gates;
  constraints = length p.constraints;
  equals = length (those has_equal_form p.nodes);
  ors = length (those has_or_form p.nodes);
  untils = length (those has_until_form p.nodes);
}

-- ════════ The closed forms ════════

-- The pairs l < m of so many numbers.
abbrev pub pairs : ℕ → ℕ
pairs n = n * (n - 1) / 2

abbrev pub node_count : Tally → ℕ
node_count t = t.equals + t.ors + t.untils

-- V: 1, then W variables and a selector for each position, then 2k + 3 for each node.
abbrev pub variables_of : Tally → ℕ
variables_of t = 1 + t.positions * (t.width + 1) + node_count t * (2 * t.positions + 1)

-- A form weighs what its clauses weigh, and a clause of n literals w n: x=a; "and" and "or"; Until and Release; the two clauses of a selector.
abbrev pub equal_weight : (ℕ → ℕ) → ℕ
equal_weight w = 2 * w 2

abbrev pub or_weight : (ℕ → ℕ) → ℕ
or_weight w = 2 * w 2 + w 3

abbrev pub until_weight : (ℕ → ℕ) → ℕ
until_weight w = w 2 + 3 * w 3

abbrev pub selected_weight : (ℕ → ℕ) → ℕ
selected_weight w = 2 * w 3

-- A node's P and Q at one position, over all nodes: ops 0 to 3 have Q=P.
abbrev pub values_weight : (ℕ → ℕ) → Tally → ℕ
values_weight w t =
    t.equals * (equal_weight w + equal_weight w)
    + t.ors * (or_weight w + equal_weight w)
    + t.untils * (until_weight w + until_weight w)

-- A node's E: two clauses for each position, and (-E s(0)..s(k)).
abbrev pub end_weight : (ℕ → ℕ) → Tally → ℕ
end_weight w t = t.positions * selected_weight w + w (suc t.positions)

-- What items 1 to 8 weigh, in order, the constraints after item 2.
abbrev pub item_totals : (ℕ → ℕ) → Tally → List ℕ
item_totals w t =
    w 1
    ∷ t.positions * (t.gates * or_weight w)
    ∷ t.positions * (t.constraints * w 1)
    ∷ t.fixed * w 1
    ∷ (t.positions - 1) * (t.latches * equal_weight w)
    ∷ t.positions * (t.latches * selected_weight w)
    ∷ pairs t.positions * w 2
    ∷ (t.positions * values_weight w t + node_count t * end_weight w t)
    ∷ w 1
    ∷ []

unfoldable pub variable_count : Problem → ℕ
variable_count p = variables_of (tally p)

-- Each clause is one.
unfoldable pub clause_count : Problem → ℕ
clause_count p = sum (item_totals (λ n. 1) (tally p))

-- A clause of n literals is n + 1 words.
unfoldable pub word_count : Problem → ℕ
word_count p = sum (item_totals suc (tally p))

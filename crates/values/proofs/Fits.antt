-- The tests that stand before the formula's value: what they say, and what they leave of the value. Assumes nothing.
use Rattle.std.proofs.Common.{◌≡◌, ℕ, zero, suc, ◌+◌, ◌-◌, ◌*◌, ◌<◌, ◌≤◌, Bool, true, false, Option, Some, None, not, ◌&&◌, eqb, ltb, leb, List, length, get_or, drop, sym, refl, ap, ◌∙◌, add-zero, add-one, arith, get_or-drop, get_or-take, ltb-true, lt-ltb, eq-eqb, eqb-true, le-leb, leb-true}
use borrow.Author.Tests.{lt-leb, not-true}
use Rattle.std.specs.Option.{ForSome, SomeIff}
use Rattle.std.specs.List.{list_all, range_with_len}
use Rattle.answers.specs.Lists.{numbers, all_of}
use Rattle.answers.proofs.Tests.{both_true, first_true, second_true, not_both, false_if_not_true, all_of_at, all_of_if_at}
use Rattle.answers.specs.Limits.{inputs_limit, latches_limit, gates_limit, nodes_limit, bound_limit}
use Rattle.meaning.specs.Problem.{Problem, Left, Node, node, constant, child, atom, both, either, next, until, release}
use Rattle.meaning.specs.Proper.{LeftProper}
use Rattle.meaning.specs.Formulas.{formula}
use Rattle.meaning.specs.Bounded.{Shape}
use Rattle.meaning.specs.LassoValue.{bounded_value}
use Rattle.meaning.specs.Witnesses.{shape_of}
use Rattle.meaning.proofs.Numbers.{all_of_numbers, all_of_numbers_if}
use Rattle.pairing.specs.NodeLaws.{Earlier}
use Rattle.pairing.proofs.NodeValues.{StartWithin, ZeroFalse}
use Rattle.values.specs.declared.run.Run.{Run}
use Rattle.values.specs.Tables.{row_width, rows_room, row_in, shape_at}
use Rattle.values.specs.Nodes.{NodesFit, Ready}
use Rattle.values.specs.Values.{left_earlier, earlier, nodes_fit, rows_fit, value_in}

-- ════════ A loop over tests ════════

module _ (f : ℕ → Bool) (n : ℕ) {i : ℕ} where
  pub one_fails : i < n → f i ≡ false → false ≡ all_of f (numbers 0 n)
  one_fails l e = sym (false_if_not_true (all_of f (numbers 0 n)) (λ all. not_both (all_of_numbers f n all i l) e))

  pub none_fails : n ≤ i → ((j : ℕ) → j < i → f j ≡ true) → true ≡ all_of f (numbers 0 n)
  none_fails l passed = sym (all_of_numbers_if f n (λ j h. passed j (omega arith)))

module _ {A : Type 0} (f : A → Bool) (xs : List A) (d : A) {i : ℕ} where
  pub one_element_fails : i < length xs → f (get_or xs i d) ≡ false → false ≡ all_of f xs
  one_element_fails l e = sym (false_if_not_true (all_of f xs) (λ all. not_both (all_of_at f xs i d all l) e))

  pub no_element_fails : length xs ≤ i → ((j : ℕ) → j < i → f (get_or xs j d) ≡ true) → true ≡ all_of f xs
  no_element_fails l passed = sym (all_of_if_at f xs d (λ j h. passed j (omega arith)))

-- A range's numbers, one after another.
pub all_in_range : (f : ℕ → Bool) (i n : ℕ) → list_all f (range_with_len i n) ≡ all_of f (numbers i n)
all_in_range f i zero = refl
all_in_range f i (suc n) = rw (add-one, all_in_range f (suc i) n)

-- ════════ Nodes ════════

module _ (n : ℕ) where
  left_says : (a : Left) → left_earlier n a ≡ true → LeftProper n a
  left_says (constant b) e = tt
  left_says (child c) e = ltb-true c n e

  left_if : (a : Left) → LeftProper n a → left_earlier n a ≡ true
  left_if (constant b) l = refl
  left_if (child c) l = lt-ltb c n l

  two_say : (a b : ℕ) → ltb a n && ltb b n ≡ true → (a < n) × (b < n)
  two_say a b e = (ltb-true a n (first_true (ltb a n) (ltb b n) e), ltb-true b n (second_true (ltb a n) (ltb b n) e))

  left_two_say : (a : Left) (b : ℕ) → left_earlier n a && ltb b n ≡ true → LeftProper n a × (b < n)
  left_two_say a b e =
      (left_says a (first_true (left_earlier n a) (ltb b n) e), ltb-true b n (second_true (left_earlier n a) (ltb b n) e))

  earlier_says : (x : Node) → earlier n x ≡ true → Earlier n x
  earlier_says (atom x) e = tt
  earlier_says (both a b) e = two_say a b e
  earlier_says (either a b) e = two_say a b e
  earlier_says (next a) e = ltb-true a n e
  earlier_says (until a b) e = left_two_say a b e
  earlier_says (release a b) e = left_two_say a b e

  earlier_if : (x : Node) → Earlier n x → earlier n x ≡ true
  earlier_if (atom x) l = refl
  earlier_if (both a b) l = both_true (lt-ltb a n l.0) (lt-ltb b n l.1)
  earlier_if (either a b) l = both_true (lt-ltb a n l.0) (lt-ltb b n l.1)
  earlier_if (next a) l = lt-ltb a n l
  earlier_if (until a b) l = both_true (left_if a l.0) (lt-ltb b n l.1)
  earlier_if (release a b) l = both_true (left_if a l.0) (lt-ltb b n l.1)

module _ (p : Problem) where
  abbrev earlier_at : ℕ → Bool
  earlier_at n = earlier n (node p n)

  abbrev ordered : Bool
  ordered = all_of earlier_at (numbers 0 (length p.nodes))

  abbrev some : Bool
  some = leb 1 (length p.nodes)

  abbrev few : Bool
  few = leb (length p.nodes) nodes_limit

  abbrev short : Bool
  short = leb p.bound bound_limit

  pub nodes_fit_says : nodes_fit p ≡ true → NodesFit p
  nodes_fit_says e =
      let limits = first_true (some && few && short) ordered e in
      let nodes = first_true (some && few) short limits in
      let children = second_true (some && few && short) ordered e in
      record {
        nodes_some = leb-true 1 _ (first_true some few nodes);
        nodes_within = leb-true _ _ (second_true some few nodes);
        bound_within = leb-true _ _ (second_true (some && few) short limits);
        children = record { earlier = λ n l. earlier_says n (node p n) (all_of_numbers earlier_at (length p.nodes) children n l) };
      }

  pub nodes_fit_if : NodesFit p → nodes_fit p ≡ true
  nodes_fit_if fit =
      both_true
      (both_true (both_true (le-leb _ _ fit.nodes_some) (le-leb _ _ fit.nodes_within)) (le-leb _ _ fit.bound_within))
      (all_of_numbers_if earlier_at (length p.nodes) (λ n l. earlier_if n (node p n) (fit.children.earlier n l)))

-- ════════ Rows ════════

-- Variable 0 stands first in its row.
pub zero_in_row : (table : List Bool) (t : ℕ) → get_or (row_in table t) 0 false ≡ get_or table (t * row_width) false
unfolding row_width inputs_limit latches_limit gates_limit
zero_in_row table t =
    get_or-take row_width (drop (t * row_width) table) 0 false (omega arith)
    ∙ get_or-drop (t * row_width) table 0 false
    ∙ rw add-zero

module _ (p : Problem) (table : List Bool) where
  abbrev roomy : Bool
  roomy = eqb (length table) rows_room

  abbrev zero_at : ℕ → Bool
  zero_at t = not (get_or (row_in table t) 0 false)

  abbrev zeros : Bool
  zeros = all_of zero_at (numbers 0 (p.bound + 1))

  pub rows_fit_says : rows_fit p table ≡ true → (length table ≡ rows_room) × ZeroFalse p.bound (row_in table)
  rows_fit_says e = (
    eqb-true _ _ (first_true roomy zeros e),
    λ t h. not-true _ (all_of_numbers zero_at (p.bound + 1) (second_true roomy zeros e) t (omega arith)),
  )

  pub rows_fit_if : length table ≡ rows_room → ZeroFalse p.bound (row_in table) → rows_fit p table ≡ true
  rows_fit_if room zero_false =
      both_true (eq-eqb _ _ room) (all_of_numbers_if zero_at (p.bound + 1) (λ t h. ap not (zero_false t (omega arith))))

-- ════════ The value ════════

module _ (p : Problem) (first : ℕ) (table : List Bool) where
  pub value_unless_nodes : nodes_fit p ≡ false → false ≡ value_in p first table
  unfolding value_in
  value_unless_nodes e = rw e

  module _ (nodes : nodes_fit p ≡ true) where
    pub value_unless_first : p.bound + 1 < first → false ≡ value_in p first table
    unfolding value_in
    value_unless_first h = rw (nodes, lt-leb first (p.bound + 1) h)

    module _ (h : first ≤ p.bound + 1) where
      pub value_unless_rows : rows_fit p table ≡ false → false ≡ value_in p first table
      unfolding value_in
      value_unless_rows e = rw (nodes, le-leb first (p.bound + 1) h, e)

      pub value_if_fit : rows_fit p table ≡ true → {s : Shape} → shape_of first ≡ s → {r : Bool}
          → r ≡ bounded_value s p.bound (row_in table) (formula p) 0 → r ≡ value_in p first table
      unfolding value_in
      value_if_fit e Shape-is r-is = rw (nodes, le-leb first (p.bound + 1) h, e, Shape-is) r-is

-- What the tests leave is what the passes ask.
pub ready_if_fit : (p : Problem) (run : Run) → run.last ≡ p.bound → nodes_fit p ≡ true → rows_fit p run.table.now ≡ true → Ready p run
ready_if_fit p run last_is nodes rows = record {
  fit = nodes_fit_says p nodes;
  last_is = last_is;
  start_within = go run.start (rw last_is at run.start_within);
  zero_false = (rows_fit_says p run.table.now rows).1;
}
  where
    go : (start : Option ℕ) → ForSome start (λ l. l ≤ p.bound) → StartWithin (shape_at start) p
    go None h = tt
    go (Some l) h = h l refl

-- ════════ The first byte ════════

pub shape_given : (start : Option ℕ) (b : ℕ) → SomeIff start (1 ≤ b) (b - 1) → shape_of b ≡ shape_at start
shape_given None zero given = refl
shape_given None (suc b) given = absurd (given (omega arith))
shape_given (Some l) zero given = absurd (omega (arith, given.0))
shape_given (Some l) (suc b) given = let e : l ≡ b = omega (arith, given.1) in rw e

pub start_given : (start : Option ℕ) {b last : ℕ} → SomeIff start (1 ≤ b) (b - 1) → b ≤ last + 1 → ForSome start (λ l. l ≤ last)
start_given None given within l e = cc
start_given (Some l') given within l e = let same : l' ≡ l = cc in omega (arith, given.0, given.1)

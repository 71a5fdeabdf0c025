-- A pass over a node from the last position down, the end that a pass for Q finds, and the row that the pass for P gives. Assumes nothing.
use Rattle.std.proofs.Common.{◌≡◌, ℕ, ◌+◌, ◌-◌, ◌<◌, ◌≤◌, Bool, true, false, ◌⊎◌, Option, Some, None, List, length, set, sym, refl, ap, ◌∙◌, inl, inr, true≢false, eq-or-lt_of_le, arith, get_or-set_other, get_or-set_same}
use Rattle.std.specs.Option.{ForSome}
use Rattle.meaning.specs.Problem.{Problem, Node, node, atom, both, either, next, until, release}
use Rattle.meaning.specs.Formulas.{formula}
use Rattle.meaning.specs.LassoValue.{bounded_value}
use Rattle.pairing.specs.NodeLaws.{NodeLaws, at_next, op_value, q_end, e_value}
use Rattle.pairing.proofs.NextValues.{at_next_stays, same_going_down}
use Rattle.pairing.proofs.NodeValues.{p_of, q_of, e_of, q_by_op, e_same, op_same, node_laws}
use Rattle.pairing.proofs.Trees.{formula_is}
use Rattle.values.specs.declared.run.Run.{Run}
use Rattle.values.specs.Tables.{row_in, at_position, shape_at}
use Rattle.values.specs.Nodes.{at_node, op_in, ByOp, goes_on, EndOf, RowOf, Ready, NodeReady}

-- ════════ A pass ════════

-- The positions after i have their values, and y is the one at the next, or past the last the end.
pub record Passing (run : Run) (below : List (List Bool)) (x : Node) (end : Bool) (row : List Bool) (y : Bool) (i : ℕ) : Type 0 where
  pub after : (j : ℕ) → i < j → j ≤ run.last → at_position row j ≡ op_in run below x j (at_next run.last (at_position row) end j)
  pub next_is : y ≡ at_next run.last (at_position row) end i

-- .. and so has the position i, once it is written.
pub one_more : {run : Run} {below : List (List Bool)} {x : Node} {end : Bool} {row : List Bool} {y v : Bool} {i : ℕ}
    → Passing run below x end row y i → i < length row → v ≡ op_in run below x i y
    → (j : ℕ) → i ≤ j → j ≤ run.last → at_position (set row i v) j ≡ op_in run below x j (at_next run.last (at_position (set row i v)) end j)
one_more {run} {below} {x} {end} {row} {y} {v} {i} passing room v_is j l h = go (eq-or-lt_of_le l)
  where
    after : (j : ℕ) → i < j → at_position (set row i v) j ≡ at_position row j
    after j h = get_or-set_other row i j v false (omega arith)

    next_same : (j : ℕ) → i ≤ j → at_next run.last (at_position row) end j ≡ at_next run.last (at_position (set row i v)) end j
    next_same j l = at_next_stays run.last (at_position row) (at_position (set row i v)) end end j (λ h. sym (after (j + 1) (omega arith))) refl

    go : (i ≡ j) ⊎ (i < j) → at_position (set row i v) j ≡ op_in run below x j (at_next run.last (at_position (set row i v)) end j)
    go (inl e) =
        rw (← e)
        (get_or-set_same row i v false room
        ∙ v_is
        ∙ ap (op_in run below x i) (passing.next_is ∙ next_same i (omega arith)))
    go (inr h') = after j h' ∙ passing.after j h' h ∙ ap (op_in run below x j) (next_same j l)

-- ════════ The end ════════

-- A loop's start is a position.
e_agrees : (start : Option ℕ) (last : ℕ) → ForSome start (λ l. l ≤ last) → (f g : ℕ → Bool) → ((i : ℕ) → i ≤ last → f i ≡ g i)
    → e_value (shape_at start) f ≡ e_value (shape_at start) g
e_agrees None last within f g same = refl
e_agrees (Some l) last within f g same = same l (within l refl)

-- By a pass for Q, whose row is the only one that satisfies Q's law.
pub end_found : {run : Run} {below : List (List Bool)} {x : Node} {f : ℕ → Bool} {a b : Bool} → a ≡ q_end x → ByOp run below x a f
    → b ≡ e_value (shape_at run.start) f → EndOf run below x b
end_found {run} {below} {x} {f} {a} a_is wrote b_is = record {
  found = λ goes Q law.
      b_is
      ∙ e_agrees run.start run.last run.start_within f Q
      (same_going_down run.last (op_in run below x) f Q a (q_end x) a_is wrote.values law.values);
}

-- ════════ The rows of the nodes below ════════

-- Ops 0 to 3 do not read the node's own next value.
unread : (k : ℕ) (rows : ℕ → List Bool) (P : ℕ → ℕ → Bool) (E : ℕ → Bool) (x : Node) (i : ℕ) (y z : Bool) → goes_on x ≡ false
    → op_value k rows P E x i y ≡ op_value k rows P E x i z
unread k rows P E (atom x) i y z e = refl
unread k rows P E (both a b) i y z e = refl
unread k rows P E (either a b) i y z e = refl
unread k rows P E (next a) i y z e = refl
unread k rows P E (until a b) i y z e = absurd (true≢false e)
unread k rows P E (release a b) i y z e = absurd (true≢false e)

module _ {p : Problem} {run : Run} {n : ℕ} {below : List (List Bool)} (given : NodeReady p run n below) where
  abbrev P : ℕ → ℕ → Bool
  P = p_of p (shape_at run.start) (row_in run.table.now)

  abbrev E : ℕ → Bool
  E = e_of p (shape_at run.start) (row_in run.table.now)

  abbrev Q : ℕ → Bool
  Q = q_of p (shape_at run.start) (row_in run.table.now) n

  abbrev step : ℕ → Bool → Bool
  step = op_value p.bound (row_in run.table.now) P E (node p n)

  known : NodeLaws p (shape_at run.start) (row_in run.table.now) P (q_of p (shape_at run.start) (row_in run.table.now)) E
  known = node_laws given.ready.fit.children (shape_at run.start) given.ready.start_within (row_in run.table.now) given.ready.zero_false

  -- Over the rows of the nodes below, the op's value is that of the bounded meaning.
  op_is : (i : ℕ) → i ≤ p.bound → (f : ℕ → Bool) (end : Bool)
      → op_in run below (node p n) i (at_next run.last f end i) ≡ step i (at_next p.bound f end i)
  op_is i h f end =
      rw given.ready.last_is
      (op_same p.bound (row_in run.table.now) (row_in run.table.now) (at_node below) P
      (λ c. e_value (shape_at run.start) (at_node below c)) E n (λ c j l q. (given.rows_before c l).right j q)
      (λ c l. e_same p (shape_at run.start) given.ready.start_within (at_node below c) (P c) (given.rows_before c l).right)
      (node p n) (given.ready.fit.children.earlier n given.there) i h (λ a e. refl) _)

  module _ {x : Node} {end : Bool} (x_is : x ≡ node p n) (ended : EndOf run below x end) where
    -- Q of the bounded meaning satisfies Q's law.
    e_is : goes_on (node p n) ≡ true → end ≡ E n
    e_is goes = (rw x_is at ended).found goes Q (record { values = λ i h. q_law i (rw given.ready.last_is at h) }) ∙ sym (known.e_law n given.there)
      where
        q_law : (i : ℕ) → i ≤ p.bound → Q i ≡ op_in run below (node p n) i (at_next run.last Q (q_end (node p n)) i)
        q_law i h =
            known.q_law n i given.there h
            ∙ q_by_op p.bound (row_in run.table.now) P E Q (node p n) n i _ (known.p_law n i given.there h)
            ∙ sym (op_is i h Q _)

    p_ends : (i : ℕ) → i ≤ p.bound → P n i ≡ step i (at_next p.bound (P n) end i)
    p_ends i h = known.p_law n i given.there h ∙ go (goes_on (node p n)) refl
      where
        go : (b : Bool) → goes_on (node p n) ≡ b → step i (at_next p.bound (P n) (E n) i) ≡ step i (at_next p.bound (P n) end i)
        go true e = ap (λ y. step i (at_next p.bound (P n) y i)) (sym (e_is e))
        go false e = unread p.bound (row_in run.table.now) P E (node p n) i _ _ e

    -- The node was read, its end found, and its row written.
    pub row_is : (row : List Bool) → ByOp run below x end (at_position row) → RowOf p run n row
    row_is row wrote = record {
      right =
          same_going_down p.bound step (at_position row) (P n) end end refl
          (λ i h. (rw x_is at wrote).values i (rw given.ready.last_is h) ∙ op_is i h (at_position row) end) p_ends;
    }

-- ════════ The formula ════════

-- "The last node is the formula."
pub formula_from : {p : Problem} {run : Run} {r : Bool} → Ready p run → r ≡ p_of p (shape_at run.start) (row_in run.table.now) (length p.nodes - 1) 0
    → r ≡ bounded_value (shape_at run.start) p.bound (row_in run.table.now) (formula p) 0
formula_from {p} {run} ready last =
    last ∙ ap (λ f. bounded_value (shape_at run.start) p.bound (row_in run.table.now) f 0) (sym (formula_is p))

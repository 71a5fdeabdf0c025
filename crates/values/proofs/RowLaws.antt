-- Laws of a table of rows: what a store leaves as it was, and the next values and the constraints of a row. Assumes nothing.
use Rattle.std.proofs.Common.{◌≡◌, ℕ, zero, suc, ◌+◌, ◌-◌, ◌*◌, ◌/◌, ◌<◌, ◌≤◌, Bool, false, ◌&&◌, ◌⊎◌, List, [], ◌∷◌, ◌++◌, length, get_or, take, drop, sym, refl, ap, ◌∙◌, ap₂, inl, inr, suc-le-suc, zero-le, mul-le-mul_right, suc-add, eq-or-lt_of_le, zero-add, arith, length-take-le, get_or-take, take-take, take_at, ext_get_or, drop_at}
use lib.ListN.{length-map}
use lib.Seq.{take-nil}
use Rattle.answers.specs.Lists.{all_of}
use Rattle.answers.specs.Limits.{inputs_limit, latches_limit, gates_limit, bound_limit}
use Rattle.meaning.specs.Problem.{Problem, Latch, W, latch, constraint}
use Rattle.meaning.specs.Proper.{Proper}
use Rattle.meaning.specs.Runs.{literal_value, next_values, meets_constraints}
use Rattle.meaning.specs.Witnesses.{position, rows}
use Rattle.pairing.proofs.Gates.{same_literal}
use Rattle.pairing.proofs.Rows.{next_by_row}
use Rattle.values.specs.Tables.{RowsRight, row_width, row_in, next_in}

-- ════════ Lists ════════

module _ {A : Type 0} where
  -- A part is the end of a beginning.
  pub part_of_take : (n m : ℕ) (l : List A) → take m (drop n l) ≡ drop n (take (n + m) l)
  part_of_take zero m l = rw zero-add
  part_of_take (suc n) m [] = rw (suc-add, take-nil)
  part_of_take (suc n) m (x ∷ l) = rw suc-add (part_of_take n m l)

  pub same_beginning : (m n : ℕ) (l l' : List A) → m ≤ n → take n l' ≡ take n l → take m l' ≡ take m l
  same_beginning m n l l' h e = sym (take-take m n l' h) ∙ ap (take m) e ∙ take-take m n l h

  -- What is put after the first n leaves them.
  pub beginning_stays : (n m : ℕ) (l l' xs : List A) → n ≤ length l → take (n + m) l' ≡ take n l ++ xs → take n l' ≡ take n l
  beginning_stays n m l l' xs h e =
      let long : length (take n l) ≡ n = length-take-le n l h in
      sym (take-take n (n + m) l' (omega arith)) ∙ ap (take n) e ∙ take_at (take n l) xs n long

  -- And what is put there stands there.
  pub put_there : (n m : ℕ) (l l' xs : List A) → n ≤ length l → take (n + m) l' ≡ take n l ++ xs → take m (drop n l') ≡ xs
  put_there n m l l' xs h e = part_of_take n m l' ∙ ap (drop n) e ∙ drop_at (take n l) xs n (length-take-le n l h)

  -- Tests that agree on each element agree on the list.
  pub all_of_same : (f g : A → Bool) (xs : List A) (d : A) → ((i : ℕ) → i < length xs → f (get_or xs i d) ≡ g (get_or xs i d)) → all_of f xs ≡ all_of g xs
  all_of_same f g [] d h = refl
  all_of_same f g (x ∷ xs) d h = ap₂ ◌&&◌ (h 0 (suc-le-suc zero-le)) (all_of_same f g xs d (λ i l. h (suc i) (suc-le-suc l)))

-- ════════ Rows ════════

-- How many values the part of the table has that is lent for a row.
pub lent : (from : ℕ) → (from + row_width) - from ≡ row_width
lent from = omega arith

-- A row depends on the table up to its end.
pub row_kept : (t n : ℕ) (table table' : List Bool) → (t + 1) * row_width ≤ n → take n table' ≡ take n table → row_in table' t ≡ row_in table t
unfolding inputs_limit latches_limit gates_limit row_width
row_kept t n table table' h e =
    part_of_take (t * row_width) row_width table'
    ∙ ap (drop (t * row_width)) (same_beginning (t * row_width + row_width) n table table' (omega arith) e)
    ∙ sym (part_of_take (t * row_width) row_width table)

pub length_next_in : (p : Problem) (row : List Bool) → length (next_in p row) ≡ length p.latches
length_next_in p row = length-map p.latches (λ (c : Latch). literal_value row c.next)

-- ════════ Rows that are right ════════

pub wide_enough : {p : Problem} → Proper p → W p + 1 ≤ row_width
unfolding inputs_limit latches_limit gates_limit row_width
wide_enough proper = omega arith

-- A row whose values are those of a position, as far as the problem has variables.
module _ (p : Problem) (bs : List ℕ) (t : ℕ) (row : List Bool) (right : take (W p + 1) row ≡ rows p bs t) where
  literal_as : (x : ℕ) → x ≤ 2 * W p + 1 → literal_value row x ≡ literal_value (rows p bs t) x
  literal_as x l =
      same_literal row (rows p bs t) x
      (sym (get_or-take (W p + 1) row (x / 2) false (omega arith)) ∙ ap (λ (vs : List Bool). get_or vs (x / 2) false) right)

  -- The next values by the row are those at the position.
  pub next_are : Proper p → next_in p row ≡ next_values p (position p bs t)
  unfolding next_values
  next_are proper =
      ext_get_or false (next_in p row) (next_in p (rows p bs t)) (length_next_in p row ∙ sym (length_next_in p (rows p bs t)))
      (λ i q.
      let q' : i < length p.latches = rw length_next_in at q in
      next_by_row p row i q' ∙ literal_as (latch p i).next (proper.next_in_range i q') ∙ sym (next_by_row p (rows p bs t) i q'))

module _ {p : Problem} {bs : List ℕ} {n : ℕ} {table : List Bool} (right : RowsRight p bs n table) where
  -- Rows stay right where the table changes only after them.
  pub rows_kept : {table' : List Bool} → length table' ≡ length table → take (n * row_width) table' ≡ take (n * row_width) table
      → RowsRight p bs n table'
  rows_kept {table'} long e = record {
    room = long ∙ right.room;
    right = λ t h.
        rw (row_kept t (n * row_width) table table' (mul-le-mul_right {m = t + 1} {n = n} row_width (omega arith)) e) (right.right t h);
  }

  -- A literal of the problem's variables has its value in the row.
  pub literal_in_row : {t : ℕ} → t < n → (x : ℕ) → x ≤ 2 * W p + 1 → literal_value (row_in table t) x ≡ literal_value (rows p bs t) x
  literal_in_row {t} h x l = literal_as p bs t (row_in table t) (right.right t h) x l

  module _ (proper : Proper p) {t : ℕ} (h : t < n) where
    pub next_value_in : (i : ℕ) → i < length p.latches
        → literal_value (row_in table t) (latch p i).next ≡ get_or (next_values p (position p bs t)) i false
    unfolding next_values
    next_value_in i q = literal_in_row h (latch p i).next (proper.next_in_range i q) ∙ sym (next_by_row p (rows p bs t) i q)

    -- The row meets the constraints exactly where the position does.
    pub constraints_in_row : all_of (literal_value (row_in table t)) p.constraints ≡ meets_constraints p (position p bs t)
    unfolding meets_constraints
    constraints_in_row =
        all_of_same (literal_value (row_in table t)) (literal_value (rows p bs t)) p.constraints 1
        (λ c q. literal_in_row h (constraint p c) (proper.constraints_in_range c q))

  -- One row more.
  pub one_more_row : Proper p → {table' : List Bool} → length table' ≡ length table → n ≤ bound_limit
      → take (n * row_width + (W p + 1)) table' ≡ take (n * row_width) table ++ rows p bs n → RowsRight p bs (n + 1) table'
  one_more_row proper {table'} long h e = record {
    room = long ∙ right.room;
    right = λ t q. row t (eq-or-lt_of_le {n = t} {m = n} (omega arith));
  }
    where
      fits : n * row_width ≤ length table
      fits = rw right.room (mul-le-mul_right {m = n} {n = suc bound_limit} row_width (omega arith))

      before : RowsRight p bs n table'
      before = rows_kept long (beginning_stays (n * row_width) (W p + 1) table table' _ fits e)

      row : (t : ℕ) → (t ≡ n) ⊎ (t < n) → take (W p + 1) (row_in table' t) ≡ rows p bs t
      row t (inl q) =
          rw q
          (take-take (W p + 1) row_width (drop (n * row_width) table') (wide_enough proper)
          ∙ put_there (n * row_width) (W p + 1) table table' (rows p bs n) fits e)
      row t (inr q) = before.right t q

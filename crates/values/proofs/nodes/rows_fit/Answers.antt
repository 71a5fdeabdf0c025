-- `all` asks variable 0 of each row. Assumes nothing.
use Rattle.std.proofs.Common.{◌≡◌, ℕ, ◌+◌, Bool, false, not, rules, refl, ◌∙◌, arith, get_or, length, nat_eq, ne_eqb}
use Rattle.std.proofs.lemmas.Iterator.{YieldsList-from_range}
use Rattle.std.proofs.lemmas.Iterator.Search.{all_from_yields_List}
use Rattle.answers.specs.Lists.{numbers, all_of}
use Rattle.answers.specs.Limits.{inputs_limit, latches_limit, gates_limit, bound_limit}
use Rattle.values.specs.Tables.{row_width, row_in}
use Rattle.values.proofs.Fits.{all_in_range, zero_in_row}
use Rattle.values.proofs.nodes.rows_fit.Goals as goal

pub returns-then-table-eq-ROWS : goal.returns-then-table-eq-ROWS
unfolding row_width inputs_limit latches_limit gates_limit bound_limit
returns-then-table-eq-ROWS c =
    let test : ℕ → Bool = λ t. not (get_or (row_in c.args.table.now t) 0 false) in
    let positions : ℕ = c.bound.result + 1 in
    let zeros : c.all.result ≡ all_of test (numbers 0 positions) =
    all_from_yields_List test _ _ c.all.result c.all.ensures.ran (YieldsList-from_range 0 positions positions refl (omega arith))
    (λ x b q k. rw (zero_in_row c.args.table.now x) (search rules))
    ∙ all_in_range test 0 positions in
    rw (c.if-table-eq-ROWS.true, ← c.bound.ensures) zeros

pub returns-else-table-eq-ROWS : goal.returns-else-table-eq-ROWS
unfolding row_width inputs_limit latches_limit gates_limit bound_limit
returns-else-table-eq-ROWS c =
    let other : nat_eq (length c.args.table.now) 36896 ≡ false = ne_eqb _ _ c.if-table-eq-ROWS.false in
    rw other

-- The table has the numbers of the header, and then those of the lines. Assumes nothing.
use mathlib.Core.Path.{sym, ◌∙◌}
use native.Mathlib.Omega.{arith}
use lib.ListN.{length, drop}
use Rattle.aiger.specs.Texts.{sizes_read}
use Rattle.aiger.proofs.DueLaws.{exit}
use Rattle.aiger.proofs.ReadLaws.{header_read, read_opening_fault, lines_fault, lines_found, header_fits, lines_fit, kept_fit}
use Rattle.aiger.proofs.read.judge.Goals as goal

pub opening-requires : goal.opening-requires
opening-requires c = header_fits _ c.requires

pub returns-in_err-opened : goal.returns-in_err-opened
returns-in_err-opened c = rw (exit c.from_residual.ensures.1) (read_opening_fault c.args.text.now (sym c.in_err-opened.ensures))

-- The header's five numbers stand in the table.
pub bounds-table-1 : goal.bounds-table-1
bounds-table-1 c = omega (arith, header_fits _ c.requires, c.opening.auto.table)

pub bounds-table-2 : goal.bounds-table-2
bounds-table-2 c = omega (arith, header_fits _ c.requires, c.opening.auto.table)

pub bounds-table-4 : goal.bounds-table-4
bounds-table-4 c = omega (arith, header_fits _ c.requires, c.opening.auto.table)

pub bounds-table-3 : goal.bounds-table-3
bounds-table-3 c = omega (arith, header_fits _ c.requires, c.opening.auto.table)

pub invariant_of-s : goal.invariant_of-s
invariant_of-s c = (header_read c.args.text.now c.opening.new.table c.in_ok-opened.opened c.in_ok-opened.ensures).fitting

pub returns-then-table-width : goal.returns-then-table-width
returns-then-table-width c =
    let header = header_read c.args.text.now c.opening.new.table c.in_ok-opened.opened c.in_ok-opened.ensures in
    header.other_variable (λ q. c.if-table-width.true (q ∙ sym c.width.ensures))

pub all_lines-requires : goal.all_lines-requires
all_lines-requires c =
    let table = c.opening.new.table in
    let header = header_read c.args.text.now table c.in_ok-opened.opened c.in_ok-opened.ensures in
    omega (arith, lines_fit (sizes_read table) (length table) header.fitting (omega (arith, c.requires, c.opening.auto.table)))

pub returns-in_err-all_lines : goal.returns-in_err-all_lines
returns-in_err-all_lines c =
    let text = c.args.text.now in
    let table = c.opening.new.table in
    let from = c.in_ok-opened.opened.place in
    let header = header_read text table c.in_ok-opened.opened c.in_ok-opened.ensures in
    rw (exit c.from_residual-in_err-all_lines.ensures.1)
    (header.after_header (c.if-table-width.false ∙ c.width.ensures)
    ∙ lines_fault text (sizes_read table) from (drop from text) c.all_lines.new.table c.in_err-all_lines.ensures)

pub returns : goal.returns
returns c =
    let text = c.args.text.now in
    let table = c.opening.new.table in
    let from = c.in_ok-opened.opened.place in
    let header = header_read text table c.in_ok-opened.opened c.in_ok-opened.ensures in
    let fits = kept_fit (sizes_read table) (length table) header.fitting (omega (arith, c.requires, c.opening.auto.table)) in (
      omega (arith, fits, c.all_lines.auto.table),
      record {
        ended_at = c.in_ok-all_lines.field-0.place;
        unread = drop c.in_ok-all_lines.field-0.place text;
        found_is =
            header.after_header (c.if-table-width.false ∙ c.width.ensures)
            ∙ lines_found text (sizes_read table) from (drop from text) c.all_lines.new.table c.in_ok-all_lines.field-0 c.in_ok-all_lines.ensures;
      },
    )

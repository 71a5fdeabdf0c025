-- The header, the latches, the gates and the outputs, one after another. Assumes nothing.
use mathlib.Core.Path.{◌≡◌, subst}
use lib.ListN.{take}
use Rattle.answers.specs.Lists.{written}
use Rattle.aiger.specs.Texts.{in_order}
use Rattle.aiger.specs.Reads.{numbers_kept}
use Rattle.aiger.proofs.Delivered.{put_by, delivered}
use Rattle.aiger.specs.contracts.sizes.Sizes.{the_view as sizes_in}
use Rattle.aiger.proofs.read.deliver.Goals as goal

pub returns : goal.returns
returns c =
    subst (λ s. c.copy.new.room ≡ written (in_order s (take (numbers_kept s) c.args.table.now)) c.args.room.now) c.s.view_is
    (delivered (sizes_in c.s.inside) c.args.table.now c.args.room.now (rw (← c.s.view_is) at c.requires.0) (rw (← c.s.view_is) at c.requires.1)
    (put_by c.copy-header_end.ensures)
    (put_by c.copy-latches_end.ensures)
    (put_by c.copy-gates_end.ensures)
    (put_by c.copy.ensures))

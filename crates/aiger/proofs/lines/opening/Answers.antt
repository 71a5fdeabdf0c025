-- The name, then five sizes. Assumes nothing.
use mathlib.Core.List.{List, [], ◌∷◌}
use Prim.Native.Nat.{ℕ}
use Rattle.answers.specs.Limits.{largest_number, inputs_limit, latches_limit, gates_limit, outputs_limit}
use Rattle.text.specs.Readings.{Reader, space, at_most}
use Rattle.aiger.proofs.DueLaws.{exit}
use Rattle.aiger.proofs.LinesLaws.{passed, followed, ends, all_followed, all_end, from_start}
use Rattle.aiger.proofs.lines.opening.Goals as goal

-- What is due for a size.
abbrev size : ℕ → List Reader
size most = space ∷ at_most most ∷ []

pub returns-in_err-name : goal.returns-in_err-name
returns-in_err-name c = rw (exit c.from_residual.ensures.1) (from_start {t = c.args.table.now} (ends _ (passed c.in_err-name.ensures)))

pub returns-in_err-m : goal.returns-in_err-m
unfolding largest_number inputs_limit latches_limit outputs_limit gates_limit
returns-in_err-m c =
    rw (exit c.from_residual-in_err-m.ensures.1)
    (from_start (followed (passed c.in_ok-name.ensures) (all_end _ (size largest_number) c.in_err-m.ensures)))

pub returns-in_err-inputs : goal.returns-in_err-inputs
unfolding largest_number inputs_limit latches_limit outputs_limit gates_limit
returns-in_err-inputs c =
    rw (exit c.from_residual-in_err-inputs.ensures.1)
    (from_start (followed (passed c.in_ok-name.ensures)
    (all_followed (size largest_number) c.in_ok-m.ensures (all_end _ (size inputs_limit) c.in_err-inputs.ensures))))

pub returns-in_err-latches : goal.returns-in_err-latches
unfolding largest_number inputs_limit latches_limit outputs_limit gates_limit
returns-in_err-latches c =
    rw (exit c.from_residual-in_err-latches.ensures.1)
    (from_start (followed (passed c.in_ok-name.ensures)
    (all_followed (size largest_number) c.in_ok-m.ensures
    (all_followed (size inputs_limit) c.in_ok-inputs.ensures (all_end _ (size latches_limit) c.in_err-latches.ensures)))))

pub returns-in_err-outputs : goal.returns-in_err-outputs
unfolding largest_number inputs_limit latches_limit outputs_limit gates_limit
returns-in_err-outputs c =
    rw (exit c.from_residual-in_err-outputs.ensures.1)
    (from_start (followed (passed c.in_ok-name.ensures)
    (all_followed (size largest_number) c.in_ok-m.ensures
    (all_followed (size inputs_limit) c.in_ok-inputs.ensures
    (all_followed (size latches_limit) c.in_ok-latches.ensures (all_end _ (size outputs_limit) c.in_err-outputs.ensures))))))

pub returns : goal.returns
unfolding largest_number inputs_limit latches_limit outputs_limit gates_limit
returns c =
    from_start
    (followed (passed c.in_ok-name.ensures)
    (all_followed (size largest_number) c.in_ok-m.ensures
    (all_followed (size inputs_limit) c.in_ok-inputs.ensures
    (all_followed (size latches_limit) c.in_ok-latches.ensures
    (all_followed (size outputs_limit) c.in_ok-outputs.ensures c.spaced-5.ensures)))))

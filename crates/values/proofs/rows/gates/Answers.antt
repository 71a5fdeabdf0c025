-- Each turn puts one gate, and the turns end where the gates or the row do. Assumes nothing.
use Rattle.std.proofs.Common.{◌≡◌, ◌+◌, ◌*◌, ◌/◌, arith, ◌∙◌, sym, ap, length, List, ℕ}
use Rattle.meaning.specs.Problem.{Problem}
use Rattle.problem.specs.declared.Outline.{Outline}
use Rattle.problem.specs.Promise.{problem_in}
use Rattle.problem.proofs.Outlines.{shows}
use Rattle.values.specs.declared.rows.TheConstants.{TOGETHER}
use Rattle.values.proofs.RowGates.{no_gates, one_gate, all_gates}
use Rattle.values.proofs.rows.gates.Goals as goal

-- The outline's number of gates is the problem's.
gates_are : {p : Problem} (s : Outline) (ws : List ℕ) → problem_in s ws ≡ p → length p.gates ≡ s.gates
gates_are s ws e = sym (ap (λ (q : Problem). length q.gates) e) ∙ (shows s ws).gates_are

pub loop-turn-init : goal.loop-turn-init
loop-turn-init c = no_gates

pub loop-j-init : goal.loop-j-init
loop-j-init c = c.loop-turn.invariant

pub gate-requires : goal.gate-requires
gate-requires c =
    let same = gates_are c.parts.result.1 c.parts.result.0.now c.parts.ensures in
    omega (arith, same)

pub loop-j-preserved : goal.loop-j-preserved
loop-j-preserved c =
    let same = gates_are c.parts.result.1 c.parts.result.0.now c.parts.ensures in
    one_gate c.loop-j.invariant (omega (arith, same)) (cc (c.gate.ensures, c.parts.ensures, c.gates_at-at.ensures))

pub loop-turn-preserved : goal.loop-turn-preserved
loop-turn-preserved c =
    let end : c.loop-j.j ≡ (c.loop-turn.turn + 1) * TOGETHER = omega arith in
    rw end at c.loop-j.invariant

pub loop-k-init : goal.loop-k-init
loop-k-init c =
    let end : c.loop-turn.turn ≡ c.min-count.result / TOGETHER = omega arith in
    rw end at c.loop-turn.invariant

pub gate-requires-in-loop-k : goal.gate-requires-in-loop-k
gate-requires-in-loop-k c =
    let same = gates_are c.parts.result.1 c.parts.result.0.now c.parts.ensures in
    omega (arith, same)

pub loop-k-preserved : goal.loop-k-preserved
loop-k-preserved c = one_gate c.loop-k.invariant (omega arith) (cc (c.gate-in-loop-k.ensures, c.parts.ensures, c.gates_at-at.ensures))

pub returns : goal.returns
returns c = all_gates c.loop-k.invariant (omega arith)

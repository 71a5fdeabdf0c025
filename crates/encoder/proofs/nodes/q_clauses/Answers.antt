-- Q(n,i) has the form of U or R, which ends with Q(n,i+1), or is P(n,i). Assumes nothing.
use Rattle.encoder.proofs.MachineLiterals.{literal_passed}
use Rattle.encoder.proofs.OpForms.{q_has_form, q_is_p}
use Rattle.encoder.proofs.nodes.q_clauses.Goals as goal

pub returns-in-Until : goal.returns-in-Until
returns-in-Until c =
    rw (q_has_form c.args.n c.args.node c.in-Until.is c.requires.2)
    (rw (literal_passed c.q_at-x.ensures, literal_passed c.q_at-y.ensures) at c.form.ensures)

pub returns-in_default : goal.returns-in_default
returns-in_default c =
    rw (q_is_p c.args.p.now c.args.n c.args.i c.args.node c.in_default.not-Until c.in_default.not-Release)
    (rw (literal_passed c.q_at-x.ensures, literal_passed c.p_literal.ensures) at c.equal_form.ensures)

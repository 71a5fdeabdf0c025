-- What P's and Q's words are together. Assumes nothing.
use Rattle.encoder.proofs.OneAfterAnother.{clauses_then}
use Rattle.encoder.proofs.OpForms.{p_by_form}
use Rattle.encoder.proofs.nodes.value.Goals as goal

pub returns : goal.returns
returns c =
    rw (p_by_form c.args.n c.form_at-f.ensures) (clauses_then _ _ c.p_clauses-next.ensures c.q_clauses.ensures)

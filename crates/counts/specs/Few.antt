-- What is few: the fact that the test of specs/Promise.antt finds. Assumes nothing.
use Rattle.std.specs.Prelude.{◌≤◌, ◌<◌}
use Rattle.meaning.proofs.ClosedForms as forms
use Rattle.counts.specs.Promise.{too_many}

pub record Few (t : forms.Tally) : Type 0 where
  pub positions_some : 1 ≤ t.positions
  pub positions_few : t.positions < too_many
  pub width_few : t.width < too_many
  pub latches_few : t.latches < too_many
  pub fixed_few : t.fixed < too_many
  pub gates_few : t.gates < too_many
  pub constraints_few : t.constraints < too_many
  pub equals_few : t.equals < too_many
  pub ors_few : t.ors < too_many
  pub untils_few : t.untils < too_many

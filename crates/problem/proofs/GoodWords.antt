-- What an outline shows in words that the check passes is a good problem, by the check's record. Assumes nothing.
use Rattle.std.proofs.Common.{sym, ℕ, List}
use Rattle.problem.specs.declared.ProblemRecord.{ProblemRecord}
use Rattle.std.specs.Prelude.{Ok}
use Rattle.problem.specs.Promise.{CheckedAs, problem_in}
use Rattle.problem.specs.Good as good
use Rattle.problem.proofs.Formed.{counted_if_good}

pub good_if_checked : {version : ℕ} {ws : List ℕ} (g : ProblemRecord) → CheckedAs version ws (Ok g) → good.Good (problem_in g.outline ws) g.outline.width g.counts
good_if_checked g said = record {
  proper = (counted_if_good said).proper_in.proper;
  width_is = sym (counted_if_good said).proper_in.width_is;
  counts_are = (counted_if_good said).counts_are;
}

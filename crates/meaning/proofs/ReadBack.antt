-- A problem's CNF, read back from its words. Assumes nothing.
use mathlib.Core.Path.{◌≡◌}
use Rattle.clauses.specs.CnfWords.{clauses_of}
use Rattle.clauses.proofs.ReadBack.{clauses_back, within_no_zeros}
use Rattle.meaning.specs.Problem.{Problem}
use Rattle.meaning.specs.Proper.{Proper}
use Rattle.meaning.specs.Cnf.{cnf, cnf_words, variables}
use Rattle.meaning.proofs.Ranges.{literals_within}

pub cnf_read_back : (p : Problem) → Proper p → clauses_of (cnf_words p) ≡ cnf p
unfolding cnf_words
cnf_read_back p proper = clauses_back (cnf p) (within_no_zeros (variables p) (cnf p) (literals_within p proper))

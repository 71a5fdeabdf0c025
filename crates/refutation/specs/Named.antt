-- What the hints of a step can name, where a step is judged. Assumes nothing.
use Rattle.std.specs.Prelude.{List}
use Rattle.clauses.specs.Clauses.{Clause}
use Rattle.refutation.specs.Work.{known}
use Rattle.refutation.specs.declared.places.Known.{Known}

-- The clauses by their numbers: those of the CNF, and of the steps that are done.
abbrev pub named : Known → List Clause
named k = known k.words.cnf.now k.words.refutation.now k.done

-- Before each turn the clauses of the numbers below `i` are written. Assumes nothing.
use Rattle.std.proofs.Common.{ℕ, List}
use Rattle.answers.specs.Lists.{numbers, each}
use Rattle.clauses.specs.Clauses.{Clause}
use Rattle.encoder.specs.Writing.{Room}
use Rattle.encoder.specs.Each.{WritesEach}
use Rattle.encoder.proofs.ForEachNumber.{Clauses}
use Rattle.encoder.proofs.each.each.Given as goal

abbrev pub invariant-loop-i : goal.invariant-loop-i
invariant-loop-i g l = (h : ℕ → List Clause) → WritesEach g.F.Fn l.fn.f l.n h → Room l.at (each (numbers 0 l.n) h) l.fn.room → Clauses h l.n l.at l.fn.room l.room l.i l.next

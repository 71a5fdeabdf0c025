-- Before each turn the lines passed are laid. Assumes nothing.
use Rattle.answers.specs.Lists.{numbers, each}
use Rattle.aiger.specs.Writes.{line_of}
use Rattle.aiger.proofs.LaidTexts.{Laid}
use Rattle.aiger.proofs.write.lines.Given as goal

abbrev pub invariant-loop-i : goal.invariant-loop-i
invariant-loop-i l = Laid (each (numbers 0 l.i) (line_of l.kind l.s l.words)) l.fn.at l.fn.out l.next l.out

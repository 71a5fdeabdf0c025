-- Before each turn the selectors below `l` are written. Assumes nothing.
use Rattle.std.proofs.Common.{◌+◌, [], ◌∷◌}
use Rattle.meaning.specs.Cnf.{selector}
use Rattle.encoder.proofs.ForEachNumber.{Upto}
use Rattle.encoder.proofs.nodes.selector_words.Given as goal

abbrev pub invariant-loop-l : goal.invariant-loop-l
invariant-loop-l l = Upto (λ m. selector l.p m ∷ []) (l.p.bound + 1) l.at l.fn.room l.room l.l l.next

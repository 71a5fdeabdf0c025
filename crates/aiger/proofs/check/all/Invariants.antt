-- Before each turn the numbers passed are checked. Assumes nothing.
use Rattle.std.proofs.Common.{List, ℕ, [], ◌∷◌, ◌<◌}
use Rattle.std.specs.Prelude.{Result, ⊤}
use Rattle.answers.specs.Answers.{Check}
use Rattle.problem.specs.declared.Refusal.{Refusal}
use Rattle.problem.specs.CheckParts.{Answers}
use Rattle.problem.proofs.Answered.{PassedTo}
use Rattle.aiger.proofs.check.all.Given as goal

abbrev pub invariant-loop-i : goal.invariant-loop-i
invariant-loop-i g l =
    (f : ℕ → List Check) → ((i : ℕ) (part : Result ⊤ Refusal) → i < l.fn.n → goal.F-post g l.fn.part i part → Answers (f i ∷ []) part) → PassedTo f l.fn.n l.i

-- The best of the runs before m, and what is to be below it.
use Rattle.std.proofs.Common.{◌≡◌, ℕ, ◌+◌, Option, Some, None}
use Rattle.meaning.specs.Problem.{Problem}
use Rattle.finder.specs.declared.search.Best.{Best}
use Rattle.finder.specs.Runs.{Held}
use Rattle.finder.specs.Search.{BestOf}
use Rattle.finder.proofs.search.search.Given as goal

abbrev pub limit_of : Problem → Option Best → ℕ
limit_of p None = p.bound + 2
limit_of p (Some best) = best.first

abbrev pub invariant-loop-m : goal.invariant-loop-m
invariant-loop-m l = (l.limit ≡ limit_of l.p l.best) × BestOf l.p l.m l.best × Held l.run

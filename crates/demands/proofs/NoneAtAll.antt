-- The finder's none says that no assignment of any length satisfies the CNF: one that did, cut or filled up to V values, would too. Assumes nothing.
use mathlib.Core.Path.{◌≡◌}
use mathlib.Core.List.{List}
use mathlib.Core.Logic.{◌↔◌}
use Prim.Native.Nat.{ℕ}
use lib.ListN.{length}
use Rattle.std.specs.Prelude.{Result, Err}
use Rattle.clauses.specs.Clauses.{Assignment, Satisfies}
use Rattle.clauses.proofs.AnyLength.{fitted, fitted_length, fitted_satisfies}
use Rattle.meaning.specs.Problem.{problem}
use Rattle.meaning.specs.Cnf.{cnf, variables}
use Rattle.meaning.specs.Calls.{WellFormed}
use Rattle.meaning.proofs.Check.{proper_if_well_formed}
use Rattle.meaning.proofs.Ranges.{literals_within}
use Rattle.finder.specs.declared.NotFound.{NotFound}
use Rattle.finder.specs.declared.NotFound.TheVariants as not-found
use Rattle.finder.specs.Promise.{FoundAs, Searched}
use Rattle.finder.proofs.Means as means

pub none_unsatisfiable : (version : ℕ) (ws room : List ℕ) {r : Result ℕ NotFound} {after : List ℕ} → FoundAs version ws room r after
    → WellFormed version ws → Searched (problem version ws) (length room)
    → (r ≡ Err not-found.NoneExists) ↔ ((a : Assignment) → Satisfies a (cnf (problem version ws)) → ⊥)
none_unsatisfiable version ws room call formed searched =
    let p = problem version ws in
    let within = literals_within p (proper_if_well_formed version ws formed) in
    let models = means.none_unsatisfiable version ws room call formed searched in (
      λ e a satisfied. models.0 e (
        fitted (variables p) a,
        record {
          length_right = fitted_length (variables p) a;
          satisfies = fitted_satisfies (variables p) (cnf p) a within satisfied;
        },
      ),
      λ none. models.1 (λ m. none m.0 m.1.satisfies),
    )

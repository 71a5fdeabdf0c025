-- A yes of the judge: no assignment satisfies the CNF. Assumes nothing.
use mathlib.Core.Path.{◌≡◌, sym, ◌∙◌, ap}
use mathlib.Core.List.{List}
use Prim.Native.Nat.{ℕ}
use lib.IntN.{ℤ}
use lib.ListN.{length}
use Rattle.clauses.proofs.Sound.{refuted_cnf}
use Rattle.clauses.specs.Clauses.{Assignment, Satisfies}
use Rattle.clauses.specs.CnfWords.{clauses_of}
use Rattle.std.specs.Prelude.{Result, Ok}
use Rattle.refutation.specs.declared.NotRefuted.{NotRefuted}
use Rattle.refutation.specs.Promise.{answer_of, Judged}

pub judged_refuted : {variables : ℕ} {cnf refutation : List ℤ} {numbers clauses : List ℕ} {r : Result Unit NotRefuted} {numbers' clauses' : List ℕ}
    → Judged variables cnf refutation numbers clauses r numbers' clauses' → r ≡ Ok tt
    → (a : Assignment) → Satisfies a (clauses_of cnf) → ⊥
judged_refuted {variables} {cnf} {refutation} {numbers} {clauses} j e =
    refuted_cnf variables cnf refutation (length numbers) (length clauses) (sym j.answered ∙ ap answer_of e)

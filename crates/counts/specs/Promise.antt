-- The numbers of a problem's CNF, and what counting promises of them. Assumes nothing.
use Rattle.std.specs.Prelude.{Bool, cond, ◌&&◌, ℕ, suc, ltb, length}
use Rattle.answers.specs.Lists.{sum}
use Rattle.meaning.specs.Problem.{Problem}
use Rattle.meaning.specs.Cnf.{variables, cnf, cnf_words}
use Rattle.meaning.proofs.ClosedForms as forms
use Rattle.meaning.proofs.ClosedForms.{variables_of, item_totals}
use Rattle.counts.specs.declared.Counts.{Counts}
use Rattle.counts.specs.declared.Tally.{Tally}

-- The variables, the clauses and the words of a problem's CNF.
abbrev pub counts_of : Problem → Counts
counts_of p = record { variables = variables p; clauses = length (cnf p); words = length (cnf_words p) }

-- ════════ By what is counted in the problem ════════

abbrev pub tally_of : Tally → forms.Tally
tally_of t = record {
  positions = t.positions;
  width = t.width;
  latches = t.latches;
  fixed = t.fixed;
  gates = t.gates;
  constraints = t.constraints;
  equals = t.equals;
  ors = t.ors;
  untils = t.untils;
}

-- A position at least, and each number below too many.
abbrev pub too_many : ℕ
too_many = 65536

abbrev pub few : forms.Tally → Bool
few t =
    ltb 0 t.positions
    && ltb t.positions too_many
    && ltb t.width too_many
    && ltb t.latches too_many
    && ltb t.fixed too_many
    && ltb t.gates too_many
    && ltb t.constraints too_many
    && ltb t.equals too_many
    && ltb t.ors too_many
    && ltb t.untils too_many

-- The closed forms; 0s where too much is counted, or no position.
abbrev pub counts_by : forms.Tally → Counts
counts_by t =
    cond (few t)
    (record { variables = variables_of t; clauses = sum (item_totals (λ n. 1) t); words = sum (item_totals suc t) })
    (record { variables = 0; clauses = 0; words = 0 })

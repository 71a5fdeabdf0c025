-- Document 01, "The CNF": "signed 32-bit words, each clause ended by 0"; and answer 16. Assumes nothing.
use Rattle.std.specs.Prelude.{Bool, true, false, List, [], ◌∷◌, ◌++◌, ℕ, zero, suc, ℤ, pos, negsuc, leb, length}
use Rattle.answers.specs.Lists.{each, numbered}
use Rattle.answers.specs.Limits.{variables_limit}
use Rattle.answers.specs.Answers.{Check, check, bad_cnf}
use Rattle.clauses.specs.Clauses.{Clause, size}

-- The words of clauses: each clause's literals, then 0.
abbrev pub ended_by_0 : Clause → List ℤ
ended_by_0 c = c ++ (pos 0 ∷ [])

abbrev pub words_of : List Clause → List ℤ
words_of cs = each cs ended_by_0

-- A literal in front of the first clause; where there is none yet, it begins one.
abbrev pub in_front : ℤ → List Clause → List Clause
in_front w [] = (w ∷ []) ∷ []
in_front w (c ∷ cs) = (w ∷ c) ∷ cs

-- Words read as clauses.
abbrev pub clauses_of : List ℤ → List Clause
clauses_of [] = []
clauses_of (pos zero ∷ ws) = [] ∷ clauses_of ws
clauses_of (pos (suc n) ∷ ws) = in_front (pos (suc n)) (clauses_of ws)
clauses_of (negsuc n ∷ ws) = in_front (negsuc n) (clauses_of ws)

abbrev pub is_0 : ℤ → Bool
is_0 (pos zero) = true
is_0 (pos (suc n)) = false
is_0 (negsuc n) = false

-- Not cut short: there is no word, or the last one is 0.
abbrev pub ended_after : ℤ → List ℤ → Bool
ended_after w [] = is_0 w
ended_after w (v ∷ vs) = ended_after v vs

abbrev pub ended : List ℤ → Bool
ended [] = true
ended (w ∷ ws) = ended_after w ws

-- 16: V over the limit (0), then the first literal over V (its word), then cut short (the length).
unfoldable pub cnf_checks : ℕ → List ℤ → List Check
cnf_checks variables ws =
    check (leb variables variables_limit) (bad_cnf 0)
    ∷ numbered 0 ws (λ i w. check (leb (size w) variables) (bad_cnf i))
    ++ (check (ended ws) (bad_cnf (length ws)) ∷ [])

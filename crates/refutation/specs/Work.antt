-- How the work areas stand while steps are judged. Assumes nothing.
use Rattle.std.specs.Prelude.{true, ◌≡◌, List, [], ◌∷◌, ◌++◌, map, ℕ, zero, suc, ◌+◌, ◌*◌, ◌<◌, ◌≤◌, ℤ, pos, negsuc, eqb, length, get_or, take, drop}
use Rattle.answers.specs.Lists.{all_of}
use Rattle.clauses.specs.Clauses.{Clause, Within, variable_of, literal_within, among}
use Rattle.clauses.specs.CnfWords.{clauses_of, cnf_checks}
use Rattle.clauses.specs.Refutations.{Outcome, conflict, unit, neither, steps_of, refutation_checks}
use Rattle.refutation.specs.declared.values.Found.{Found}
use Rattle.refutation.specs.declared.values.Found.TheVariants.{Conflict, Unit, Neither}

-- ════════ Values by numbers ════════

-- Stamps are below it, so that twice a stamp and one more fits a word: 2⁶².
abbrev pub stamps_limit : ℕ
stamps_limit = 4611686018427387904

-- What the word of a variable holds where the literal is true at a stamp: twice the stamp, and one more for a positive literal.
abbrev pub mark_of : ℕ → ℤ → ℕ
mark_of stamp (pos n) = 2 * stamp + 1
mark_of stamp (negsuc n) = 2 * stamp

abbrev pub cell : List ℕ → ℤ → ℕ
cell area w = get_or area (variable_of w) 0

abbrev pub LiteralsWithin : ℕ → List ℤ → Type 0
LiteralsWithin variables ws = all_of (literal_within variables) ws ≡ true

-- No word of a variable is of this stamp or a later one.
pub record Older (variables stamp : ℕ) (area : List ℕ) : Type 0 where
  pub room : variables < length area
  pub older : (v : ℕ) → v ≤ variables → get_or area v 0 < 2 * stamp

-- The area says of each literal whether it is among those that are set true.
pub record Values (variables stamp : ℕ) (trues : List ℤ) (area : List ℕ) : Type 0 where
  pub said : (w : ℤ) → literal_within variables w ≡ true → eqb (cell area w) (mark_of stamp w) ≡ among w trues

-- Only the words of variables may have changed, and no word is of a later stamp.
pub record Marked (variables stamp : ℕ) (before after : List ℕ) : Type 0 where
  pub not_later : Older variables (suc stamp) after
  pub past : drop (suc variables) after ≡ drop (suc variables) before

abbrev pub outcome_found : Found → Outcome
outcome_found Conflict = conflict
outcome_found (Unit u) = unit u
outcome_found Neither = neither

-- ════════ Places by clauses ════════

-- The words up to the first 0.
abbrev pub up_to_0 : List ℤ → List ℤ
up_to_0 [] = []
up_to_0 (pos zero ∷ ws) = []
up_to_0 (pos (suc n) ∷ ws) = pos (suc n) ∷ up_to_0 ws
up_to_0 (negsuc n ∷ ws) = negsuc n ∷ up_to_0 ws

-- The clause that begins at a place.
abbrev pub clause_from : List ℤ → ℕ → Clause
clause_from ws i = up_to_0 (drop i ws)

-- From `first` on the area holds, for each of these clauses, the place in the words where it begins.
pub record Places (words : List ℤ) (first : ℕ) (cs : List Clause) (area : List ℕ) : Type 0 where
  pub fits : first + length cs ≤ length area
  pub inside : (n : ℕ) → n < length cs → get_or area (first + n) 0 ≤ length words
  pub found : (n : ℕ) → n < length cs → clause_from words (get_or area (first + n) 0) ≡ get_or cs n []

-- ════════ Steps ════════

-- The clauses that a step's hints can name: those of the CNF, and of the steps before it.
abbrev pub step_clauses : List ℤ → ℕ → List Clause
step_clauses ws s = map (λ t. t.clause) (take s (steps_of ws))

abbrev pub known : List ℤ → List ℤ → ℕ → List Clause
known cnf ws s = clauses_of cnf ++ step_clauses ws s

-- How the area by clauses stands where so many steps are accepted: it has the place of each clause that is known.
pub record Standing (variables : ℕ) (cnf ws : List ℤ) (clauses s : ℕ) (area : List ℕ) : Type 0 where
  pub counted : clauses ≡ length (clauses_of cnf)
  pub begun : s ≤ length (steps_of ws)
  pub of_cnf : Places cnf 0 (clauses_of cnf) area
  pub of_steps : Places ws (length (clauses_of cnf)) (step_clauses ws s) area
  pub within : Within variables (known cnf ws s)

-- 16 passes the words of the CNF, and 11 those of the refutation.
abbrev pub CnfRight : ℕ → List ℤ → Type 0
CnfRight variables cnf = all_of (λ c. c.passes) (cnf_checks variables cnf) ≡ true

abbrev pub StepsRight : ℕ → ℕ → List ℤ → Type 0
StepsRight variables clauses ws = all_of (λ c. c.passes) (refutation_checks variables clauses ws) ≡ true

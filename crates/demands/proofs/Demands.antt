-- The page to trust: the three demands as theorems of the calls of document 01 and of Q-3 and Q-5 of document 02, with the rule of its Q-4 and the
-- constraints of its Q-6, each stated in full and proved by the theorem that it names.
-- That a call keeps the promise that a theorem asks for is its `ensures`, in crates/*/src; what is to be believed besides is the definitions that
-- the statements name (docs/PROMISES.md lists both). Assumes nothing.
use mathlib.Core.{Path.◌≡◌, List.List, List.[], List.◌∷◌, List.◌++◌, List.map, List.Memᴰ, Option.some, Logic.◌↔◌, Logic.◌⊎◌}
use mathlib.Core.Bool.{Bool, true, false, ◌&&◌, ◌||◌}
use Prim.Native.Nat.{ℕ, suc, ◌+◌, ◌*◌, ◌-◌, ◌^◌, ◌≤◌, ◌<◌}
use lib.{IntN.ℤ, IntN.pos, ListN.length, ListN.get_or, ListN.take}
use Rattle.std.specs.Prelude.{Result, Ok, Err}
use Rattle.answers.specs.Lists.{written, each, empty, joined}
use Rattle.answers.specs.Limits.{variables_limit, search_limit, longest_text}
use Rattle.answers.specs.Answers.{Answer, granted, first_failing, first_failing_part}
use Rattle.clauses.specs.Clauses.{Clause, Assignment, negated, size, clause_true, Satisfies, Within}
use Rattle.clauses.specs.CnfWords.{clauses_of, cnf_checks}
use Rattle.clauses.specs.Refutations.{Step, steps_of, refutation_checks, Lookup, SatisfiesNamed, both_signs, hints_conflict, step_accepted, judge_steps, numbers_area, clauses_area}
use Rattle.clauses.specs.Refutable.{Refutation, WordsFit, AcceptedWords}
use Rattle.refutation.specs.declared.NotRefuted.{NotRefuted}
use Rattle.refutation.specs.declared.NotRefuted.TheVariants as not-refuted
use Rattle.refutation.specs.Promise.{Judged}
use Rattle.meaning.specs.Problem as problems
use Rattle.meaning.specs.Problem.{Problem, problem, node}
use Rattle.meaning.specs.Runs.{Position, StartsRight, meets_constraints, EndlessRun}
use Rattle.meaning.specs.Formulas.{Formula, atom, until, release, formula, Holds}
use Rattle.meaning.specs.Bounded.{prefix, lasso, prefix_value}
use Rattle.meaning.specs.Witnesses as witnesses
use Rattle.meaning.specs.Witnesses.{witness_length, at_or_before, byte, shape, first_latches, inputs_at, position, Closes, lasso_path, Witness}
use Rattle.finder.specs.Calls.{open_bytes}
use Rattle.meaning.specs.Cnf.{cnf, cnf_words, variables}
use Rattle.meaning.specs.Calls.{check_parts, WellFormed, judge_bytes, judge_witness, judge_refutation}
use Rattle.meaning.specs.VersionOne.{check_before, items_before, witness_parts_before}
use Rattle.job_file.specs.JobFile.{job_version, job_words, job_problem, job_answer, header_line, clause_line, printed}
use Rattle.meaning.specs.Cases.{Case, thirteen_cases, stuck, AtAllLimits, limit_words}
use Rattle.meaning.proofs.Check.{proper_if_well_formed}
use Rattle.pairing.specs.Bounds.{at_bound, Counted}
use Rattle.pairing.specs.Pairs.{Model, PairsOff, WitnessAtOrBelow}
use Rattle.pairing.specs.WithoutLoop.{StrictWitness}
use Rattle.pairing.specs.Excluded.{Excluded}
use Rattle.pairing.specs.Refutable.{AcceptedRefutation}
use Rattle.counts.specs.declared.Counts.{Counts}
use Rattle.counts.specs.Promise.{counts_of}
use Rattle.problem.specs.declared.ProblemRecord.{ProblemRecord}
use Rattle.problem.specs.declared.Refusal.{Refusal}
use Rattle.problem.specs.Promise.{CheckedAs}
use Rattle.encoder.specs.declared.NotWritten.{NotWritten}
use Rattle.encoder.specs.declared.NotWritten.TheVariants as not-written
use Rattle.encoder.specs.Promise.{EncodedAs}
use Rattle.witness.specs.declared.NotWitness.{NotWitness}
use Rattle.witness.specs.Promise.{answer_of}
use Rattle.finder.specs.declared.NotFound.{NotFound}
use Rattle.finder.specs.declared.NotFound.TheVariants as not-found
use Rattle.finder.specs.Promise.{FoundAs, Searched}
use Rattle.job_file.specs.Promise.{Prints}
use Rattle.text.specs.Readings.{found}
use Rattle.aiger.specs.declared.NotDone.{NotDone}
use Rattle.aiger.specs.Circuits.{check_circuit}
use Rattle.aiger.specs.Texts.{circuit_text, circuit_read}
use Rattle.aiger.specs.Calls.{words_found}
use Rattle.aiger.specs.Promise as texts
use Rattle.checker.specs.declared.Unrefuted.{Unrefuted}
use Rattle.checker.specs.declared.Unrefuted.TheVariants as unrefuted
use Rattle.checker.specs.Refutation.{JudgedAs}

-- ════════ Demand 1 ════════

-- "Any words, of any length, get an answer, and the call ends": no public function has a `requires`, and each is proved to return. "Bad
-- input gets the number and place of the table, by the fixed order of checks", and "lent buffers are left as the table says": each call's
-- promise gives its answer and every lent buffer after it, so two outcomes that meet it are equal. The check of a problem:
pub checked_unique : (version : ℕ) (ws : List ℕ) (r r' : Result ProblemRecord Refusal) → CheckedAs version ws r → CheckedAs version ws r' → r ≡ r'
checked_unique = Rattle.problem.proofs.Unique.checked_unique

-- The CNF writer.
pub encoded_unique : (version : ℕ) (ws : List ℕ) (before : List ℤ) (r r' : Result Counts NotWritten) (after after' : List ℤ)
    → EncodedAs version ws before r after → EncodedAs version ws before r' after' → (r ≡ r') × (after ≡ after')
encoded_unique = Rattle.encoder.proofs.Unique.encoded_unique

-- The witness judge, which changes no buffer.
pub judgement_unique : (version : ℕ) (ws bs : List ℕ) (r r' : Result Unit NotWitness)
    → answer_of r ≡ judge_witness version ws bs → answer_of r' ≡ judge_witness version ws bs → r ≡ r'
judgement_unique = Rattle.witness.proofs.Unique.judgement_unique

-- The finder, with the witness room.
pub found_unique : {version : ℕ} {ws before : List ℕ} {r r' : Result ℕ NotFound} {after after' : List ℕ}
    → FoundAs version ws before r after → FoundAs version ws before r' after' → (r ≡ r') × (after ≡ after')
found_unique = Rattle.finder.proofs.Unique.found_unique

-- The refutation judge for any CNF, of v variables, with both work areas.
pub judged_unique : {v : ℕ} {cnf refutation : List ℤ} {numbers clauses : List ℕ} {r r' : Result Unit NotRefuted} {n n' c c' : List ℕ}
    → Judged v cnf refutation numbers clauses r n c → Judged v cnf refutation numbers clauses r' n' c' → (r ≡ r') × (n ≡ n') × (c ≡ c')
judged_unique = Rattle.refutation.proofs.Unique.judged_unique

-- The judge of a problem's refutation, with the CNF room and both work areas.
pub refuted_unique : {version : ℕ} {ws : List ℕ} {refutation room : List ℤ} {numbers clauses : List ℕ}
    {r r' : Result Unit Unrefuted} {room₁ room₂ : List ℤ} {n n' c c' : List ℕ}
    → JudgedAs version ws refutation room numbers clauses r room₁ n c → JudgedAs version ws refutation room numbers clauses r' room₂ n' c'
    → (r ≡ r') × (room₁ ≡ room₂) × (n ≡ n') × (c ≡ c')
refuted_unique = Rattle.checker.proofs.RefutedUnique.refuted_unique

-- What the program prints for a job: `printed` of its bytes where it fits.
pub job_printed : (bs out : List ℕ) {r r' : Result ℕ ℕ} {p p' : List ℕ} → Prints (printed bs) out r p → Prints (printed bs) out r' p' → (r ≡ r') × (p ≡ p')
job_printed bs = Rattle.job_file.proofs.Unique.printed_unique (printed bs)

-- Words are well formed where `check_problem` says yes; of the call, where it answers a record, whose outline by its promise is theirs, and whose numbers are those of their CNF.
pub check_good : (version : ℕ) (ws : List ℕ) {r : Result ProblemRecord Refusal} → CheckedAs version ws r → ((g : ProblemRecord) × (r ≡ Ok g)) ↔ WellFormed version ws
check_good = Rattle.demands.proofs.CallsMean.check_good

-- ════════ Demand 2 ════════

-- "The CNF is word for word the one laid down": of well-formed words, where there is room; what stood past it stays.
pub cnf_written : (version : ℕ) (ws : List ℕ) (before : List ℤ) {r : Result Counts NotWritten} {after : List ℤ} → EncodedAs version ws before r after
    → WellFormed version ws → length (cnf_words (problem version ws)) ≤ length before
    → (r ≡ Ok (counts_of (problem version ws))) × (after ≡ written (cnf_words (problem version ws)) before)
cnf_written = Rattle.encoder.proofs.WrittenCnf.cnf_written

-- It is written of no other words, and into no smaller room.
pub written_only : (version : ℕ) (ws : List ℕ) (before : List ℤ) {r : Result Counts NotWritten} {after : List ℤ} → EncodedAs version ws before r after
    → {n : Counts} → r ≡ Ok n → WellFormed version ws × (length (cnf_words (problem version ws)) ≤ length before)
written_only = Rattle.encoder.proofs.WrittenCnf.written_only

-- Its numbers of variables, clauses and words, which the record of the check has.
pub cnf_counted : (version : ℕ) (ws : List ℕ) {r : Result ProblemRecord Refusal} → CheckedAs version ws r
    → ((g : ProblemRecord) × (r ≡ Ok g) × (g.counts ≡ record { variables = variables (problem version ws); clauses = length (cnf (problem version ws)); words = length (cnf_words (problem version ws)) }))
    ↔ WellFormed version ws
cnf_counted = Rattle.demands.proofs.CallsMean.cnf_counted

-- "The text header, refusal 6 and refusal 12 rest on them": by the numbers of the record, when the CNF writer answers 6, with what place, and when yes.
module _ {version : ℕ} {ws : List ℕ} {g : ProblemRecord} (good : CheckedAs version ws (Ok g)) where
  pub room_by_record : {before after : List ℤ} {r : Result Counts NotWritten} → EncodedAs version ws before r after
      → (n : ℕ) → (r ≡ Err (not-written.RoomTooSmall n)) ↔ ((length before < g.counts.words) × (n ≡ g.counts.words))
  room_by_record = Rattle.demands.proofs.ByRecord.room_by_record good

  pub written_by_record : {before after : List ℤ} {r : Result Counts NotWritten} → EncodedAs version ws before r after → (r ≡ Ok g.counts) ↔ (g.counts.words ≤ length before)
  written_by_record = Rattle.demands.proofs.ByRecord.written_by_record good

  -- The judge of a problem's refutation: 6, then 12 where 6 and 11 pass, of the area by numbers before the area by clauses.
  module _ {refutation room : List ℤ} {numbers clauses : List ℕ} {r : Result Unit Unrefuted} {room' : List ℤ} {numbers' clauses' : List ℕ}
      (judged : JudgedAs version ws refutation room numbers clauses r room' numbers' clauses') (n : ℕ) where
    pub judge_room_by_record : (r ≡ Err (unrefuted.Cnf (not-written.RoomTooSmall n))) ↔ ((length room < g.counts.words) × (n ≡ g.counts.words))
    judge_room_by_record = Rattle.demands.proofs.ByRecord.judge_room_by_record good judged n

    pub area_by_record : (r ≡ Err (unrefuted.Refutation (not-refuted.AreaTooSmall n)))
        ↔ ((g.counts.words ≤ length room) × (first_failing (refutation_checks g.counts.variables g.counts.clauses refutation) (granted 0) ≡ granted 0)
        × (((length numbers < g.counts.variables + 1) × (n ≡ g.counts.variables + 1))
        ⊎ ((g.counts.variables + 1 ≤ length numbers)
        × (length clauses < g.counts.clauses + length (steps_of refutation)) × (n ≡ g.counts.clauses + length (steps_of refutation)))))
    area_by_record = Rattle.demands.proofs.ByRecord.area_by_record good judged n

-- What the program prints at yes: a header with the record's variables and clauses, then the clauses, one a line.
pub header_by_record : (bs : List ℕ) {g : ProblemRecord} → CheckedAs (job_version bs) (job_words bs) (Ok g) → (job_answer bs).number ≡ 0
    → printed bs ≡ header_line g.counts.variables g.counts.clauses ++ each (cnf (job_problem bs)) clause_line
header_by_record = Rattle.demands.proofs.ByRecord.header_by_record

-- What a solver reads in these words are the clauses that the theorems below speak of.
pub cnf_read_back : (version : ℕ) (ws : List ℕ) → WellFormed version ws → clauses_of (cnf_words (problem version ws)) ≡ cnf (problem version ws)
cnf_read_back version ws formed = Rattle.meaning.proofs.ReadBack.cnf_read_back (problem version ws) (proper_if_well_formed version ws formed)

-- "At all limits, with every reset fixed and 63 U or R nodes over one atom, the CNF has 437,012 words": each such problem's, and 64 more for each
-- constraint. There is one without constraints, and no CNF of as many constraints has more.
pub at_all_limits : (p : Problem) → AtAllLimits p → length (cnf_words p) ≡ 437_012 + 64 * length p.constraints
at_all_limits = Rattle.meaning.proofs.AllLimits.at_all_limits

pub limits_reached : WellFormed 1 limit_words × AtAllLimits (problem 1 limit_words)
limits_reached = (Rattle.meaning.proofs.AllLimits.limits_formed, Rattle.meaning.proofs.AllLimits.limits_reached)

pub largest_cnf : (version : ℕ) (ws : List ℕ) → WellFormed version ws → length (cnf_words (problem version ws)) ≤ 437_012 + 64 * length (problem version ws).constraints
largest_cnf = Rattle.meaning.proofs.AllLimits.largest_cnf

-- "A run is accepted exactly if it is a witness by the bounded meaning of LTL": of the bytes, of words and bytes, and of the call.
pub accepted_is_witness : (p : Problem) (bs : List ℕ) → (judge_bytes p bs ≡ granted 0) ↔ Witness p bs
accepted_is_witness = Rattle.pairing.proofs.Witnesses.accepted_is_witness

pub judged_is_witness : (version : ℕ) (ws bs : List ℕ) → (judge_witness version ws bs ≡ granted 0) ↔ (WellFormed version ws × Witness (problem version ws) bs)
judged_is_witness = Rattle.pairing.proofs.Judged.judged_is_witness

pub accepted_run : (version : ℕ) (ws bs : List ℕ) {r : Result Unit NotWitness} → answer_of r ≡ judge_witness version ws bs
    → (r ≡ Ok tt) ↔ (WellFormed version ws × Witness (problem version ws) bs)
accepted_run = Rattle.demands.proofs.CallsMean.accepted_run

-- "An accepted lasso makes the formula true on its endless path", which is a run of the circuit that meets the constraints at every position; of the
-- call too; and conversely.
pub lasso_true : (p : Problem) (bs : List ℕ) (l : ℕ) → judge_bytes p bs ≡ granted 0 → shape bs ≡ lasso l
    → EndlessRun p (lasso_path p bs l) × Holds p (formula p) (lasso_path p bs l) 0
lasso_true = Rattle.pairing.proofs.Endless.lasso_true

pub accepted_lasso : (version : ℕ) (ws bs : List ℕ) {r : Result Unit NotWitness} → answer_of r ≡ judge_witness version ws bs → r ≡ Ok tt
    → (l : ℕ) → shape bs ≡ lasso l
    → EndlessRun (problem version ws) (lasso_path (problem version ws) bs l) × Holds (problem version ws) (formula (problem version ws)) (lasso_path (problem version ws) bs l) 0
accepted_lasso = Rattle.demands.proofs.CallsMean.accepted_lasso

pub lasso_accepted : (p : Problem) (bs : List ℕ) (l : ℕ) → length bs ≡ witness_length p → byte bs 0 ≤ p.bound + 1
    → ((i : ℕ) → 1 ≤ i → i < length bs → byte bs i ≤ 1) → StartsRight p (first_latches p bs)
    → ((t : ℕ) → t ≤ p.bound → meets_constraints p (position p bs t) ≡ true)
    → shape bs ≡ lasso l → Closes p bs l → Holds p (formula p) (lasso_path p bs l) 0 → judge_bytes p bs ≡ granted 0
lasso_accepted = Rattle.pairing.proofs.Endless.lasso_accepted

-- "An accepted prefix on every endless run of the circuit that begins so"; and of the call.
pub prefix_true : (p : Problem) (bs : List ℕ) → judge_bytes p bs ≡ granted 0 → shape bs ≡ prefix
    → (path : ℕ → Position) → EndlessRun p path → (path 0).latches ≡ first_latches p bs
    → ((t : ℕ) → t ≤ p.bound → (path t).inputs ≡ inputs_at p bs t) → Holds p (formula p) path 0
prefix_true = Rattle.pairing.proofs.Endless.prefix_true

pub accepted_prefix : (version : ℕ) (ws bs : List ℕ) {r : Result Unit NotWitness} → answer_of r ≡ judge_witness version ws bs → r ≡ Ok tt
    → shape bs ≡ prefix → (path : ℕ → Position) → EndlessRun (problem version ws) path → (path 0).latches ≡ first_latches (problem version ws) bs
    → ((t : ℕ) → t ≤ (problem version ws).bound → (path t).inputs ≡ inputs_at (problem version ws) bs t) → Holds (problem version ws) (formula (problem version ws)) path 0
accepted_prefix = Rattle.demands.proofs.CallsMean.accepted_prefix

-- The meaning on a prefix: "values past k are false", of every formula; "at i ≤ k F, G, U, R unfold as now-and-next".
module _ (k : ℕ) (rows : ℕ → List Bool) where
  pub past_k_false : (f : Formula) (i : ℕ) → k < i → prefix_value k rows f i ≡ false
  past_k_false = Rattle.pairing.proofs.Prefixes.past_k_false k rows

  module _ (f g : Formula) (i : ℕ) where
    pub until_unfolds : i ≤ k → prefix_value k rows (until f g) i ≡ prefix_value k rows g i || (prefix_value k rows f i && prefix_value k rows (until f g) (suc i))
    until_unfolds = Rattle.pairing.proofs.Prefixes.until_unfolds k rows f g i

    pub release_unfolds : i ≤ k → prefix_value k rows (release f g) i ≡ prefix_value k rows g i && (prefix_value k rows f i || prefix_value k rows (release f g) (suc i))
    release_unfolds = Rattle.pairing.proofs.Prefixes.release_unfolds k rows f g i

    -- In words: U is g at a position from i to k with f before it; R is f at such a position with g up to it.
    pub until_on_prefix : (prefix_value k rows (until f g) i ≡ true)
        ↔ ((j : ℕ) × (i ≤ j) × (j ≤ k) × (prefix_value k rows g j ≡ true) × ((m : ℕ) → i ≤ m → m < j → prefix_value k rows f m ≡ true))
    until_on_prefix = Rattle.pairing.proofs.Prefixes.until_on_prefix k rows f g i

    pub release_on_prefix : (prefix_value k rows (release f g) i ≡ true)
        ↔ ((j : ℕ) × (i ≤ j) × (j ≤ k) × (prefix_value k rows f j ≡ true) × ((m : ℕ) → i ≤ m → m ≤ j → prefix_value k rows g m ≡ true))
    release_on_prefix = Rattle.pairing.proofs.Prefixes.release_on_prefix k rows f g i

-- "So G is never true of a prefix": of no formula, at no position of a run; and where the last node is G of another, no witness is a prefix.
pub g_never_of_run : (p : Problem) (bs : List ℕ) (g : Formula) (i : ℕ) → prefix_value p.bound (witnesses.rows p bs) (release (atom 0) g) i ≡ false
g_never_of_run = Rattle.pairing.proofs.Prefixes.g_never_of_run

pub g_never_shown : (version : ℕ) (ws : List ℕ) → WellFormed version ws → (a : ℕ)
    → node (problem version ws) (length (problem version ws).nodes - 1) ≡ problems.release (problems.constant false) a
    → (bs : List ℕ) → Witness (problem version ws) bs → shape bs ≡ prefix → ⊥
g_never_shown version ws formed = Rattle.pairing.proofs.Prefixes.g_never_shown (problem version ws) (proper_if_well_formed version ws formed)

-- "Document 000 reads a path without a loop only if no loop closes. Here a prefix may be shown of any run; whether a witness exists is the same."
pub as_document_000 : (p : Problem) → ((bs : List ℕ) × Witness p bs) ↔ ((bs : List ℕ) × StrictWitness p bs)
as_document_000 = Rattle.pairing.proofs.WithoutLoop.as_document_000

-- "The thirteen marked cases": each is well formed and has as many witnesses as the table says.
pub thirteen : (c : Case) → Memᴰ c thirteen_cases → WellFormed 1 c.words × Counted (problem 1 c.words) c.count
thirteen = Rattle.pairing.proofs.Thirteen.thirteen

-- ════════ Demand 3 ════════

-- "The CNF can be satisfied exactly if a witness exists at a bound from 0 to k": where there are no constraints, as in every problem of version 1.
pub satisfiable_at_or_below : (version : ℕ) (ws : List ℕ) → WellFormed version ws → length (problem version ws).constraints ≡ 0
    → ((a : Assignment) × Model (problem version ws) a) ↔ WitnessAtOrBelow (problem version ws)
satisfiable_at_or_below version ws formed = Rattle.pairing.proofs.AtOrBelow.satisfiable_at_or_below (problem version ws) (proper_if_well_formed version ws formed)

-- Document 02, Q-6: "Prefixes can now get stuck, so where D is not 0, the CNF of k is satisfied exactly by witnesses at k": for any D.
pub satisfiable_at_bound : (version : ℕ) (ws : List ℕ) → WellFormed version ws
    → ((a : Assignment) × Model (problem version ws) a) ↔ ((bs : List ℕ) × Witness (problem version ws) bs)
satisfiable_at_bound version ws formed = Rattle.pairing.proofs.AtOrBelow.satisfiable_at_bound (problem version ws) (proper_if_well_formed version ws formed)

-- Why not more: a problem with one constraint, whose CNF cannot be satisfied at bound 1, although a prefix is its witness at bound 0.
pub stuck_prefix : WellFormed 2 (stuck 1) × Witness (at_bound (problem 2 (stuck 1)) 0) (0 ∷ 0 ∷ []) × (((a : Assignment) × Model (problem 2 (stuck 1)) a) → ⊥)
stuck_prefix = (Rattle.pairing.proofs.Stuck.stuck_formed, Rattle.pairing.proofs.Stuck.stuck_prefix, Rattle.pairing.proofs.Stuck.stuck_unsatisfiable)

-- "Witnesses at k and satisfying assignments pair off one to one."
pub pairs_off : (version : ℕ) (ws : List ℕ) → WellFormed version ws → PairsOff (problem version ws)
pairs_off version ws formed = Rattle.pairing.proofs.PairsOff.pairs_off (problem version ws) (proper_if_well_formed version ws formed)

-- An accepted step's clause follows from those that its hints can name.
pub step_sound : (named : Lookup) (s : Step) → step_accepted named s ≡ true → (a : Assignment) → SatisfiesNamed a named → clause_true a s.clause ≡ true
step_sound = Rattle.clauses.proofs.Sound.step_sound

-- Document 02, Q-4: a clause with both signs of a variable is the constant true. Its step is accepted exactly if it has no hints, and every other step by
-- its hints; and no hint of an accepted step names such a clause.
pub trivially_true : (c : Clause) → both_signs c ≡ true → (a : Assignment) → clause_true a c ≡ true
trivially_true = Rattle.clauses.proofs.StepRule.trivially_true

pub trivial_step : (named : Lookup) (s : Step) → both_signs s.clause ≡ true → step_accepted named s ≡ empty s.hints
trivial_step = Rattle.clauses.proofs.StepRule.by_no_hints

pub other_step : (named : Lookup) (s : Step) → both_signs s.clause ≡ false → step_accepted named s ≡ hints_conflict named (map negated s.clause) s.hints
other_step = Rattle.clauses.proofs.StepRule.by_hints

pub never_a_hint : (named : Lookup) (s : Step) → step_accepted named s ≡ true → {h : ℕ} → Memᴰ h s.hints → (c : Clause) → named h ≡ some c → both_signs c ≡ false
never_a_hint = Rattle.clauses.proofs.NeverAHint.never_a_hint

-- "An accepted refutation leaves a CNF no satisfying assignment, whoever wrote it"; and of the call.
pub refuted : (cs : List Clause) (ss : List Step) → judge_steps cs ss ≡ granted 0 → (a : Assignment) → Satisfies a cs → ⊥
refuted = Rattle.clauses.proofs.Sound.refuted

pub judged_refuted : {v : ℕ} {cnf refutation : List ℤ} {numbers clauses : List ℕ} {r : Result Unit NotRefuted} {numbers' clauses' : List ℕ}
    → Judged v cnf refutation numbers clauses r numbers' clauses' → r ≡ Ok tt → (a : Assignment) → Satisfies a (clauses_of cnf) → ⊥
judged_refuted = Rattle.refutation.proofs.Refuted.judged_refuted

-- Of a problem's CNF "a refutation excludes lassos at all bounds to k but prefixes at k only", and where there are no constraints "every witness at every
-- bound 0 to k": the fields of `Excluded`; and of the call.
pub problem_refuted : (version : ℕ) (ws : List ℕ) (refutation : List ℤ) (room m n : ℕ) → judge_refutation version ws refutation room m n ≡ granted 0
    → Excluded (problem version ws)
problem_refuted = Rattle.pairing.proofs.AtOrBelow.problem_refuted

pub accepted_refutation : {version : ℕ} {ws : List ℕ} {refutation room : List ℤ} {numbers clauses : List ℕ}
    {r : Result Unit Unrefuted} {room' : List ℤ} {numbers' clauses' : List ℕ}
    → JudgedAs version ws refutation room numbers clauses r room' numbers' clauses' → r ≡ Ok tt
    → WellFormed version ws × Excluded (problem version ws)
accepted_refutation = Rattle.demands.proofs.CallsMean.accepted_refutation

-- "If there is none, some list of steps that the rule accepts exists": for any CNF, and for a problem's, if there is no witness at k.
pub refutable : (v : ℕ) (cs : List Clause) → Within v cs → ((a : Assignment) → length a ≡ v → Satisfies a cs → ⊥) → Refutation v cs
refutable = Rattle.clauses.proofs.Complete.refutable

pub problem_refutable : (version : ℕ) (ws : List ℕ) → WellFormed version ws → ((bs : List ℕ) → Witness (problem version ws) bs → ⊥)
    → Refutation (variables (problem version ws)) (cnf (problem version ws))
problem_refutable version ws formed = Rattle.pairing.proofs.AtOrBelow.problem_refutable (problem version ws) (proper_if_well_formed version ws formed)

-- And there are words that the judges accept, wherever they are lent the room that these need: the judge for any CNF that 16 passes,
pub refutable_judged : (v : ℕ) (cnf : List ℤ) → first_failing (cnf_checks v cnf) (granted 0) ≡ granted 0
    → ((a : Assignment) → length a ≡ v → Satisfies a (clauses_of cnf) → ⊥)
    → (a : AcceptedWords v cnf)
    × ((numbers clauses : List ℕ) (r : Result Unit NotRefuted) (numbers' clauses' : List ℕ)
    → numbers_area v ≤ length numbers → clauses_area (clauses_of cnf) (steps_of a.words) ≤ length clauses
    → Judged v cnf a.words numbers clauses r numbers' clauses' → r ≡ Ok tt)
refutable_judged = Rattle.refutation.proofs.Refutable.refutable_judged

-- and the judge of a problem's refutation.
pub refutable_call : (version : ℕ) (ws : List ℕ) → WellFormed version ws → ((bs : List ℕ) → Witness (problem version ws) bs → ⊥)
    → (a : AcceptedRefutation version ws)
    × ((room : List ℤ) (numbers clauses : List ℕ) (r : Result Unit Unrefuted) (room' : List ℤ) (numbers' clauses' : List ℕ)
    → length (cnf_words (problem version ws)) ≤ length room → numbers_area (variables (problem version ws)) ≤ length numbers
    → clauses_area (cnf (problem version ws)) (steps_of a.words) ≤ length clauses
    → JudgedAs version ws a.words room numbers clauses r room' numbers' clauses' → r ≡ Ok tt)
refutable_call = Rattle.demands.proofs.Refutable.refutable_call

-- A call can be handed them where each fits a word of 32 bits. By `WordsFit`, which both records hold, it does where V is below 2^31 and so are the
-- clauses and steps together. (Nothing is said of how many steps they have.)
pub words_below : (v : ℕ) (cs : List Clause) (words : List ℤ) → WordsFit v cs words → v < 2 ^ 31 → length cs + length (steps_of words) < 2 ^ 31
    → (i : ℕ) → i < length words → size (get_or words i (pos 0)) < 2 ^ 31
words_below = Rattle.clauses.proofs.WordSizes.words_below

-- The judge for any CNF serves every problem's: its variables are within the limit, and 16 never answers.
pub variables_fit : (version : ℕ) (ws : List ℕ) → WellFormed version ws → variables (problem version ws) ≤ variables_limit
variables_fit version ws formed = Rattle.meaning.proofs.Ranges.variables_fit (problem version ws) (proper_if_well_formed version ws formed)

pub never_16 : (version : ℕ) (ws : List ℕ) → WellFormed version ws → {refutation : List ℤ} {numbers clauses : List ℕ} {r : Result Unit NotRefuted} {numbers' clauses' : List ℕ}
    → Judged (variables (problem version ws)) (cnf_words (problem version ws)) refutation numbers clauses r numbers' clauses' → (i : ℕ) → r ≡ Err (not-refuted.BadCnf i) → ⊥
never_16 version ws formed = Rattle.demands.proofs.CallsMean.never_16 (problem version ws) (proper_if_well_formed version ws formed)

-- ════════ Document 02, Q-3: the finder ════════

module _ (version : ℕ) (ws room : List ℕ) {r : Result ℕ NotFound} {after : List ℕ} (call : FoundAs version ws room r after) where
  -- "list the first witness in byte order (0, place its length)": what the room then holds is a witness, and each witness is at or after it.
  pub found_first : {n : ℕ} → r ≡ Ok n
      → WellFormed version ws × Searched (problem version ws) (length room) × (n ≡ witness_length (problem version ws))
      × ((bs : List ℕ) × (after ≡ written bs room) × Witness (problem version ws) bs × ((cs : List ℕ) → Witness (problem version ws) cs → at_or_before bs cs ≡ true))
  found_first = Rattle.finder.proofs.Means.found_first version ws room call

  -- Where there is a witness one is found, given that 1 to 5, 17 and 18 pass.
  pub found_if_any : WellFormed version ws → Searched (problem version ws) (length room)
      → (bs : List ℕ) → Witness (problem version ws) bs → r ≡ Ok (witness_length (problem version ws))
  found_if_any = Rattle.finder.proofs.Means.found_if_any version ws room call

  -- "Its none is proved equal to the CNF can't be satisfied": given the same.
  pub none_unsatisfiable : WellFormed version ws → Searched (problem version ws) (length room)
      → (r ≡ Err not-found.NoneExists) ↔ (((a : Assignment) × Model (problem version ws) a) → ⊥)
  none_unsatisfiable = Rattle.finder.proofs.Means.none_unsatisfiable version ws room call

  -- So it excludes what a refutation does.
  pub none_excludes : r ≡ Err not-found.NoneExists → WellFormed version ws × Searched (problem version ws) (length room)
      × Excluded (problem version ws)
  none_excludes = Rattle.finder.proofs.Means.none_excludes version ws room call

  -- "otherwise, after 1 to 5, refusal 17, place that sum"; "room too small is refusal 18, place the bytes needed, after 17".
  pub refused_17 : (n : ℕ) → (r ≡ Err (not-found.TooMuchOpen n))
      ↔ (WellFormed version ws × (search_limit < open_bytes (problem version ws)) × (n ≡ open_bytes (problem version ws)))
  refused_17 = Rattle.finder.proofs.Means.too_much_open_if version ws room call

  pub refused_18 : (n : ℕ) → (r ≡ Err (not-found.RoomTooSmall n))
      ↔ (WellFormed version ws × (open_bytes (problem version ws) ≤ search_limit) × (length room < witness_length (problem version ws)) × (n ≡ witness_length (problem version ws)))
  refused_18 = Rattle.finder.proofs.Means.room_too_small_if version ws room call

-- ════════ Document 02, Q-5: circuits in AIGER text ════════

-- The reader, with the word room, and the writer, with the text room: one outcome each.
pub read_unique : {text before : List ℕ} {r r' : Result ℕ NotDone} {after after' : List ℕ}
    → texts.ReadAs text before r after → texts.ReadAs text before r' after' → (r ≡ r') × (after ≡ after')
read_unique = Rattle.aiger.proofs.Unique.read_unique

pub written_unique : {ws before : List ℕ} {r r' : Result ℕ NotDone} {after after' : List ℕ}
    → texts.WrittenAs ws before r after → texts.WrittenAs ws before r' after' → (r ≡ r') × (after ≡ after')
written_unique = Rattle.aiger.proofs.Unique.written_unique

-- "Every circuit written is read back the same", whatever stands after its text; and of the calls.
pub written_read : (ws : List ℕ) → check_circuit ws ≡ granted 0 → (rest : List ℕ) → circuit_read (circuit_text ws ++ rest) ≡ found ws (length (circuit_text ws)) rest
written_read = Rattle.aiger.proofs.RoundTrips.written_read

pub call_written_read : {ws out out' room room' : List ℕ} {r q : Result ℕ NotDone} → texts.WrittenAs ws out r out' → (texts.answer_of r).number ≡ 0
    → texts.ReadAs (take (texts.answer_of r).place out') room q room' → length ws ≤ length room → (texts.answer_of q ≡ granted (length ws)) × (room' ≡ written ws room)
call_written_read w at_0 = Rattle.aiger.proofs.RoundTrips.call_written_read w at_0

-- "every accepted file, written again, has one normal text": its words pass 1 to 4, their text reads as the same words, and writing those gives it again.
pub read_written : (text ws : List ℕ) (p : ℕ) (left : List ℕ) → circuit_read text ≡ found ws p left
    → (check_circuit ws ≡ granted 0) × (circuit_read (circuit_text ws) ≡ found ws (length (circuit_text ws)) []) × (circuit_text (words_found (circuit_read (circuit_text ws))) ≡ circuit_text ws)
read_written text ws p left e = let again = Rattle.aiger.proofs.RoundTrips.read_written text ws p left e in (again.good, again.same_words, again.same_text)

-- Two accepted texts have the same normal text exactly if they read alike.
pub one_normal_text : (text text' ws ws' : List ℕ) (p p' : ℕ) (left left' : List ℕ) → circuit_read text ≡ found ws p left → circuit_read text' ≡ found ws' p' left'
    → (circuit_text ws ≡ circuit_text ws') ↔ (ws ≡ ws')
one_normal_text = Rattle.aiger.proofs.RoundTrips.one_normal_text

-- Of the calls: what was read, written into a room that has the bytes.
pub call_read_written : {text room room' out out' : List ℕ} {q r : Result ℕ NotDone} → texts.ReadAs text room q room' → (texts.answer_of q).number ≡ 0
    → texts.WrittenAs (take (texts.answer_of q).place room') out r out' → length (circuit_text (words_found (circuit_read text))) ≤ length out
    → (texts.answer_of r ≡ granted (length (circuit_text (words_found (circuit_read text))))) × (out' ≡ written (circuit_text (words_found (circuit_read text))) out)
call_read_written p at_0 = Rattle.aiger.proofs.RoundTrips.call_read_written p at_0

-- "all after the last line the header counts" is unread: with anything else there the words are the same, and the call's outcome and room.
module _ (text ws : List ℕ) (p : ℕ) (left : List ℕ) (e : circuit_read text ≡ found ws p left) where
  pub unread : (text ≡ take p text ++ left) × ((rest : List ℕ) → circuit_read (take p text ++ rest) ≡ found ws p rest)
  unread = Rattle.aiger.proofs.Unread.unread text ws p left e

  pub call_unread : (rest room after : List ℕ) (r : Result ℕ NotDone) → length text ≤ longest_text → length (take p text ++ rest) ≤ longest_text
      → texts.ReadAs text room r after → texts.ReadAs (take p text ++ rest) room r after
  call_unread = Rattle.aiger.proofs.RoundTrips.call_unread text ws p left e

-- ════════ Document 02, Q-6: version 1 ════════

-- "Version 1 files mean D = 0 and keep every answer": the check, whatever comes after it, the CNF and the judge of a witness are those of document 01; all
-- calls are made of these. And demand 3 says what it said.
pub none_in_version_1 : (ws : List ℕ) → (problem 1 ws).constraints ≡ []
none_in_version_1 = Rattle.meaning.proofs.ShownBy.none_in_version_1

pub check_in_version_1 : (ws : List ℕ) (after : Answer) → first_failing_part (check_parts 1 ws) after ≡ first_failing_part (check_before ws) after
check_in_version_1 = Rattle.meaning.proofs.VersionOne.check_in_version_1

pub cnf_in_version_1 : (ws : List ℕ) → cnf (problem 1 ws) ≡ joined (items_before (problem 1 ws))
cnf_in_version_1 = Rattle.meaning.proofs.VersionOne.cnf_in_version_1

pub judged_in_version_1 : (ws bs : List ℕ) → judge_bytes (problem 1 ws) bs ≡ first_failing_part (witness_parts_before (problem 1 ws) bs) (granted 0)
judged_in_version_1 = Rattle.meaning.proofs.VersionOne.judged_in_version_1

pub judge_in_version_1 : (ws bs : List ℕ) → judge_witness 1 ws bs ≡ first_failing_part (check_before ws ++ witness_parts_before (problem 1 ws) bs) (granted 0)
judge_in_version_1 = Rattle.meaning.proofs.VersionOne.judge_in_version_1

pub satisfiable_in_version_1 : (ws : List ℕ) → WellFormed 1 ws → ((a : Assignment) × Model (problem 1 ws) a) ↔ WitnessAtOrBelow (problem 1 ws)
satisfiable_in_version_1 = Rattle.pairing.proofs.AtOrBelow.satisfiable_in_version_1

pub refuted_in_version_1 : (ws : List ℕ) (refutation : List ℤ) (room m n : ℕ) → judge_refutation 1 ws refutation room m n ≡ granted 0
    → (j : ℕ) → j ≤ (problem 1 ws).bound → (bs : List ℕ) → Witness (at_bound (problem 1 ws) j) bs → ⊥
refuted_in_version_1 = Rattle.pairing.proofs.AtOrBelow.refuted_in_version_1

-- Beside the page of Demands: what is proved further of the three demands. Lent buffers after each call, the largest CNF of all, the words of a refutation,
-- and what a refutation says where every latch is free.
-- Each theorem is stated in full, and is proved by the one that it names. Sentences in quotes are those of documents 01 and 02. Assumes nothing.
use mathlib.Core.{Path.◌≡◌, List.List, Logic.◌↔◌, Logic.◌≢◌}
use mathlib.Core.Bool.{true, false}
use Prim.Native.Nat.{ℕ, ◌≤◌, ◌<◌, suc, ◌+◌, ◌*◌}
use lib.{IntN.ℤ, ListN.length, ListN.take, ListN.replicate}
use Rattle.std.specs.Prelude.{Result, Ok}
use Rattle.clauses.specs.CnfWords.{clauses_of}
use Rattle.clauses.specs.Refutations.{steps_of, judged, numbers_area, clauses_area, zeros, refutation_checks}
use Rattle.refutation.specs.declared.NotRefuted.{NotRefuted}
use Rattle.refutation.specs.Promise.{answer_of as refutation_answer, Judged}
use Rattle.meaning.specs.Problem.{problem, outline, Problem, latch}
use Rattle.meaning.specs.Witnesses.{witness_length, Witness}
use Rattle.meaning.specs.Cnf.{cnf, cnf_words, variables}
use Rattle.meaning.specs.Calls.{WellFormed}
use Rattle.counts.specs.declared.Counts.{Counts}
use Rattle.problem.specs.declared.ProblemRecord.{ProblemRecord}
use Rattle.problem.specs.Promise.{outline_of, CheckedAs}
use Rattle.encoder.specs.declared.NotWritten.{NotWritten}
use Rattle.encoder.specs.Promise.{answer_of as encoded_answer, EncodedAs}
use Rattle.finder.specs.declared.NotFound.{NotFound}
use Rattle.finder.specs.Promise.{answer_of as finding_answer, FoundAs}
use Rattle.job_file.specs.JobFile.{printed}
use Rattle.job_file.specs.Promise.{Prints}
use Rattle.aiger.specs.declared.NotDone.{NotDone}
use Rattle.aiger.specs.Texts.{circuit_text, circuit_read}
use Rattle.aiger.specs.Calls.{words_found}
use Rattle.aiger.specs.Promise.{answer_of as circuit_answer, ReadAs, WrittenAs}
use Rattle.checker.specs.declared.Unrefuted.{Unrefuted}
use Rattle.checker.specs.Refutation.{refuted_answer, JudgedAs}
use Rattle.demands.specs.Buffers.{KeptPast}
use Rattle.answers.specs.Limits.{constraints_limit}
use Rattle.answers.specs.Answers.{granted, first_failing}
use Rattle.meaning.specs.Runs.{Position, EndlessRun, literal_value, values}
use Rattle.meaning.specs.Formulas.{Formula, atom, until, formula, both, next}
use Rattle.meaning.specs.Bounded.{prefix_value}
use Rattle.meaning.specs.Cases.{AtAllLimits, constrained_limit_words}
use Rattle.job_file.specs.Text.{text_limit}
use Rattle.clauses.specs.RightSteps.{RightSteps}

-- ════════ The check ════════

-- The outline of the check's record is that of the words.
pub record_outlined : {version : ℕ} {ws : List ℕ} {g : ProblemRecord} → CheckedAs version ws (Ok g) → outline_of g.outline ≡ outline version ws
record_outlined = Rattle.demands.proofs.CallsMean.record_outlined

-- ════════ Lent buffers ════════

-- "Refusals .. change no lent buffer"; "words and bytes past the written or needed part never change". The check and the witness judge are lent none
-- to write.

-- The CNF writer: unchanged at a refusal, the CNF at a yes, and past its words never changed.
pub encoded_buffers : {version : ℕ} {ws : List ℕ} {before : List ℤ} {r : Result Counts NotWritten} {after : List ℤ} → EncodedAs version ws before r after
    → ((encoded_answer r).number ≢ 0 → after ≡ before)
    × ((encoded_answer r).number ≡ 0 → take (length (cnf_words (problem version ws))) after ≡ cnf_words (problem version ws))
    × KeptPast (length (cnf_words (problem version ws))) before after
encoded_buffers = Rattle.demands.proofs.Buffers.encoded_buffers

-- The finder; what the room holds at a yes is `found_first` of Demands.
pub found_buffers : {version : ℕ} {ws before : List ℕ} {r : Result ℕ NotFound} {after : List ℕ} → FoundAs version ws before r after
    → ((finding_answer r).number ≢ 0 → after ≡ before) × KeptPast (witness_length (problem version ws)) before after
found_buffers = Rattle.demands.proofs.Buffers.found_buffers

-- The refutation judge for any CNF: at 0, 13 and 14 "all the needed work words are 0", at every other answer both areas are unchanged.
pub judged_buffers : {v : ℕ} {bare refutation : List ℤ} {numbers clauses : List ℕ} {r : Result Unit NotRefuted} {numbers' clauses' : List ℕ}
    → Judged v bare refutation numbers clauses r numbers' clauses'
    → (judged (refutation_answer r) ≡ false → (numbers' ≡ numbers) × (clauses' ≡ clauses))
    × (judged (refutation_answer r) ≡ true
    → (take (numbers_area v) numbers' ≡ replicate (numbers_area v) 0)
    × (take (clauses_area (clauses_of bare) (steps_of refutation)) clauses' ≡ replicate (clauses_area (clauses_of bare) (steps_of refutation)) 0))
    × KeptPast (numbers_area v) numbers numbers'
    × KeptPast (clauses_area (clauses_of bare) (steps_of refutation)) clauses clauses'
judged_buffers = Rattle.demands.proofs.Buffers.judged_buffers

-- The judge of a problem's refutation: the same, and at 0, 13 and 14 "the CNF room holds the CNF".
pub problem_judged_buffers : {version : ℕ} {ws : List ℕ} {refutation room : List ℤ} {numbers clauses : List ℕ}
    {r : Result Unit Unrefuted} {room' : List ℤ} {numbers' clauses' : List ℕ}
    → JudgedAs version ws refutation room numbers clauses r room' numbers' clauses'
    → (judged (refuted_answer r) ≡ false → (room' ≡ room) × (numbers' ≡ numbers) × (clauses' ≡ clauses))
    × (judged (refuted_answer r) ≡ true
    → (take (length (cnf_words (problem version ws))) room' ≡ cnf_words (problem version ws))
    × (take (numbers_area (variables (problem version ws))) numbers' ≡ replicate (numbers_area (variables (problem version ws))) 0)
    × (take (clauses_area (cnf (problem version ws)) (steps_of refutation)) clauses' ≡ replicate (clauses_area (cnf (problem version ws)) (steps_of refutation)) 0))
    × KeptPast (length (cnf_words (problem version ws))) room room'
    × KeptPast (numbers_area (variables (problem version ws))) numbers numbers'
    × KeptPast (clauses_area (cnf (problem version ws)) (steps_of refutation)) clauses clauses'
problem_judged_buffers = Rattle.demands.proofs.Buffers.problem_judged_buffers

-- The reader of a circuit's text, and its writer.
pub read_buffers : {text before : List ℕ} {r : Result ℕ NotDone} {after : List ℕ} → ReadAs text before r after
    → ((circuit_answer r).number ≢ 0 → after ≡ before)
    × ((circuit_answer r).number ≡ 0 → take (length (words_found (circuit_read text))) after ≡ words_found (circuit_read text))
    × KeptPast (length (words_found (circuit_read text))) before after
read_buffers = Rattle.demands.proofs.Buffers.read_buffers

pub written_buffers : {ws before : List ℕ} {r : Result ℕ NotDone} {after : List ℕ} → WrittenAs ws before r after
    → ((circuit_answer r).number ≢ 0 → after ≡ before)
    × ((circuit_answer r).number ≡ 0 → take (length (circuit_text ws)) after ≡ circuit_text ws)
    × KeptPast (length (circuit_text ws)) before after
written_buffers = Rattle.demands.proofs.Buffers.written_buffers

-- What is printed: the text where it fits, else nothing.
pub printed_buffers : {text out : List ℕ} {r : Result ℕ ℕ} {out' : List ℕ} → Prints text out r out'
    → (length out < length text → out' ≡ out) × (length text ≤ length out → take (length text) out' ≡ text) × KeptPast (length text) out out'
printed_buffers = Rattle.demands.proofs.Buffers.printed_buffers

-- The buffer of `print_cnf` has `text_limit` bytes, and so room for every text.
pub printed_fits : (bs : List ℕ) → length (printed bs) ≤ text_limit
printed_fits = Rattle.job_file.proofs.TextRoom.printed_fits

-- ════════ The largest CNF ════════

-- Words with 16 constraints reach 438,036 words, and no CNF has more.
pub constrained_limits_reached : WellFormed 2 constrained_limit_words × AtAllLimits (problem 2 constrained_limit_words)
    × (length (problem 2 constrained_limit_words).constraints ≡ constraints_limit) × (length (cnf_words (problem 2 constrained_limit_words)) ≡ 438_036)
constrained_limits_reached =
    let reached = Rattle.meaning.proofs.AllLimits.constrained_limits_reached in
    (Rattle.meaning.proofs.AllLimits.constrained_limits_formed, reached.0, reached.1, Rattle.meaning.proofs.AllLimits.largest_of_all)

pub no_larger : (version : ℕ) (ws : List ℕ) → WellFormed version ws → length (cnf_words (problem version ws)) ≤ 438_036
no_larger = Rattle.meaning.proofs.AllLimits.no_larger

-- ════════ Refutations ════════

-- Refutation words are read by pairs of clauses (`steps_of`), and checked by the zeros before each word (11). Both agree: 11 passes exactly if the words are
-- those of the steps that are read, each with literals of V variables and hints at earlier clauses; and there are two zeros for each step.
pub steps_read : (v C : ℕ) (ws : List ℤ) → (first_failing (refutation_checks v C ws) (granted 0) ≡ granted 0) ↔ RightSteps v C ws
steps_read = Rattle.clauses.proofs.StepsRead.steps_read

pub zeros_of_steps : (v C : ℕ) (ws : List ℤ) → first_failing (refutation_checks v C ws) (granted 0) ≡ granted 0
    → zeros ws ≡ 2 * length (steps_of ws)
zeros_of_steps = Rattle.clauses.proofs.StepsRead.zeros_of_steps

-- Where every latch may start at any value, what an accepted refutation says of the first k + 1 positions holds of any k + 1 positions in a row, however
-- late, of every endless run; of the fault F (x and X y), y never comes right after x.
pub refuted_at_every_tick : {version : ℕ} {ws : List ℕ} {refutation room : List ℤ} {numbers clauses : List ℕ}
    {r : Result Unit Unrefuted} {room' : List ℤ} {numbers' clauses' : List ℕ}
    → JudgedAs version ws refutation room numbers clauses r room' numbers' clauses' → r ≡ Ok tt
    → ((i : ℕ) → i < length (problem version ws).latches → (latch (problem version ws) i).reset ≡ 2)
    → (path : ℕ → Position) → EndlessRun (problem version ws) path → (n : ℕ)
    → prefix_value (problem version ws).bound (λ i. values (problem version ws) (path (n + i))) (formula (problem version ws)) 0 ≡ false
refuted_at_every_tick = Rattle.demands.proofs.CallsMean.refuted_at_every_tick

pub never_one_then_other : (p : Problem) → ((i : ℕ) → i < length p.latches → (latch p i).reset ≡ 2) → ((bs : List ℕ) → Witness p bs → ⊥)
    → (path : ℕ → Position) → EndlessRun p path → (n x y : ℕ) (f : Formula) → formula p ≡ until f (both (atom x) (next (atom y))) → 1 ≤ p.bound
    → literal_value (values p (path n)) x ≡ true → literal_value (values p (path (suc n))) y ≡ true → ⊥
never_one_then_other = Rattle.pairing.proofs.EveryTick.never_one_then_other

-- Judges of a problem's refutation that are lazy or make their answers up do not meet the promise: for each an input, what the promise
-- gives there, and what they give. Assumes nothing.
use mathlib.Core.Path.{◌≡◌, refl, sym, ◌∙◌, ap}
use mathlib.Core.List.{List, [], ◌∷◌}
use Prim.Native.Nat.{ℕ}
use native.Mathlib.Omega.{arith}
use lib.IntN.{ℤ, pos}
use lib.ListN.{length, replicate, get_or}
use Rattle.answers.specs.Lists.{written}
use Rattle.answers.specs.Answers.{Answer}
use Rattle.clauses.specs.Cases.{t_cnf, t_steps, t_other_steps}
use Rattle.clauses.specs.Clauses.{variable_of}
use Rattle.clauses.specs.Refutations.{refutation_checks, area_checks, step_accepted, area_after}
use Rattle.answers.specs.Limits.{inputs_limit, latches_limit, gates_limit, nodes_limit, bound_limit, constraints_limit}
use Rattle.meaning.specs.Problem.{header_words, problem_by, problem}
use Rattle.meaning.specs.Cnf.{cnf, cnf_words, variables}
use Rattle.meaning.specs.Cases.{t_words}
use Rattle.meaning.specs.Calls.{judge_refutation, room_after_judging, numbers_area_after, clauses_area_after}
use Rattle.pairing.proofs.AtOrBelow.{problem_refuted}
use Rattle.problem.specs.declared.Refusal.TheVariants.{BadVersion}
use Rattle.std.specs.Prelude.{Result, Ok, Err}
use Rattle.encoder.specs.declared.NotWritten.TheVariants.{Problem, RoomTooSmall}
use Rattle.refutation.specs.declared.NotRefuted.TheVariants.{BadRefutation, AreaTooSmall, StepRefused}
use Rattle.checker.specs.declared.Unrefuted.{Unrefuted}
use Rattle.checker.specs.declared.Unrefuted.TheVariants.{Cnf, Refutation}
use Rattle.checker.specs.Refutation.{refuted_answer, JudgedAs}
use Rattle.checker.proofs.RefutedUnique.{refuted_unique}

-- ════════ What it is to break the promise ════════

abbrev pub Outcome : Type 0
Outcome = Result Unit Unrefuted

pub record Input : Type 0 where
  pub version : ℕ
  pub words : List ℕ
  pub refutation : List ℤ
  pub room : List ℤ
  pub numbers : List ℕ
  pub clauses : List ℕ

abbrev pub Meets : Input → Outcome → List ℤ → List ℕ → List ℕ → Type 0
Meets x = JudgedAs x.version x.words x.refutation x.room x.numbers x.clauses

-- This answer, with these buffers after it, does not meet the promise for the input.
abbrev pub Breaks : Input → Outcome → List ℤ → List ℕ → List ℕ → Type 0
Breaks x r room' numbers' clauses' = ¬ (Meets x r room' numbers' clauses')

-- Of an answer and buffers that meet the promise each is the only one.
module _ {x : Input} {r s : Outcome} {room₁ room₂ : List ℤ} {numbers₁ clauses₁ numbers₂ clauses₂ : List ℕ} (m : Meets x r room₁ numbers₁ clauses₁) where
  pub other_answer_breaks : ¬ (s ≡ r) → Breaks x s room₂ numbers₂ clauses₂
  other_answer_breaks h j = h (refuted_unique j m).0

  pub other_room_breaks : ¬ (room₂ ≡ room₁) → Breaks x s room₂ numbers₂ clauses₂
  other_room_breaks h j = h (refuted_unique j m).1

  pub other_numbers_breaks : ¬ (numbers₂ ≡ numbers₁) → Breaks x s room₂ numbers₂ clauses₂
  other_numbers_breaks h j = h (refuted_unique j m).2

  pub other_clauses_breaks : ¬ (clauses₂ ≡ clauses₁) → Breaks x s room₂ numbers₂ clauses₂
  other_clauses_breaks h j = h (refuted_unique j m).3

-- ════════ Inputs ════════

-- Words, a refutation, and buffers of so many words, each 9.
abbrev over : List ℕ → List ℤ → ℕ → ℕ → ℕ → Input
over ws refutation room m n =
    record { version = 1; words = ws; refutation = refutation; room = replicate room (pos 9); numbers = replicate m 9; clauses = replicate n 9 }

-- 0 2 13 0: hint 13 is the step itself, at word 2
abbrev bad_hint : List ℤ
bad_hint = pos 0 ∷ pos 2 ∷ pos 13 ∷ pos 0 ∷ []

-- The CNF of T is 37 words of 6 variables and 12 clauses.
abbrev pub T : Input
T = over t_words t_steps 37 7 13

abbrev pub t_other : Input
t_other = over t_words t_other_steps 37 7 13

abbrev pub t_bad : Input
t_bad = over t_words bad_hint 37 7 13

-- A word of room too few, and words that 11 refuses besides.
abbrev pub t_short : Input
t_short = over t_words bad_hint 36 7 13

abbrev pub t_few : Input
t_few = over t_words t_steps 37 7 12

-- A word by numbers too few.
abbrev pub t_few_numbers : Input
t_few_numbers = over t_words t_steps 37 6 13

-- Areas of one length, of which each has room for either.
abbrev pub t_even : Input
t_even = over t_words t_steps 37 13 13

-- 0 1 0: T's clause 1 is (1), and no conflict. Of these words read as a CNF clause 1 is empty.
abbrev pub t_by_itself : Input
t_by_itself = over t_words (pos 0 ∷ pos 1 ∷ pos 0 ∷ []) 37 7 13

-- Another version.
abbrev pub t_unknown : Input
t_unknown = record { version = 9; words = t_words; refutation = t_steps; room = []; numbers = []; clauses = [] }

-- T at bound 1: 75 words, 10 variables and 23 clauses.
abbrev t_longer_words : List ℕ
t_longer_words = 0 ∷ 1 ∷ 0 ∷ 1 ∷ 1 ∷ 3 ∷ 0 ∷ 0 ∷ 2 ∷ 0 ∷ []

abbrev pub t_longer : Input
t_longer = over t_longer_words t_steps 75 11 24

-- ════════ What the promise gives ════════

-- The answer that documents 01 and 02 lay down.
unfoldable laid_down : Input → Answer
unfolding header_words problem_by problem cnf cnf_words variables inputs_limit latches_limit gates_limit nodes_limit bound_limit constraints_limit judge_refutation refutation_checks area_checks step_accepted
laid_down x = judge_refutation x.version x.words x.refutation (length x.room) (length x.numbers) (length x.clauses)

module _ (x : Input) (r : Outcome) (e : refuted_answer r ≡ laid_down x) where
  meets : Meets x r (room_after_judging (refuted_answer r) x.version x.words x.room) (numbers_area_after (refuted_answer r) x.version x.words x.numbers)
      (clauses_area_after (refuted_answer r) x.version x.words x.refutation x.clauses)
  unfolding laid_down
  meets = record {
    answered = e;
    room_left = refl;
    numbers_left = refl;
    clauses_left = refl;
    excludes = λ yes. problem_refuted x.version x.words x.refutation (length x.room) (length x.numbers) (length x.clauses)
        (sym e ∙ ap refuted_answer yes);
  }

pub yes_meets : Meets T (Ok tt) t_cnf (replicate 7 0) (replicate 13 0)
unfolding laid_down header_words problem_by problem cnf cnf_words variables room_after_judging numbers_area_after clauses_area_after area_after
yes_meets = meets T (Ok tt) refl

pub refused_step_meets : Meets t_other (Err (Refutation (StepRefused 0))) t_cnf (replicate 7 0) (replicate 13 0)
unfolding laid_down header_words problem_by problem cnf cnf_words variables room_after_judging numbers_area_after clauses_area_after area_after
refused_step_meets = meets t_other (Err (Refutation (StepRefused 0))) refl

pub bad_word_meets : Meets t_bad (Err (Refutation (BadRefutation 2))) (replicate 37 (pos 9)) (replicate 7 9) (replicate 13 9)
unfolding laid_down room_after_judging numbers_area_after clauses_area_after area_after
bad_word_meets = meets t_bad (Err (Refutation (BadRefutation 2))) refl

pub small_room_meets : Meets t_short (Err (Cnf (RoomTooSmall 37))) (replicate 36 (pos 9)) (replicate 7 9) (replicate 13 9)
unfolding laid_down room_after_judging numbers_area_after clauses_area_after area_after
small_room_meets = meets t_short (Err (Cnf (RoomTooSmall 37))) refl

pub small_area_meets : Meets t_few (Err (Refutation (AreaTooSmall 13))) (replicate 37 (pos 9)) (replicate 7 9) (replicate 12 9)
unfolding laid_down room_after_judging numbers_area_after clauses_area_after area_after
small_area_meets = meets t_few (Err (Refutation (AreaTooSmall 13))) refl

pub few_numbers_meets : Meets t_few_numbers (Err (Refutation (AreaTooSmall 7))) (replicate 37 (pos 9)) (replicate 6 9) (replicate 13 9)
unfolding laid_down room_after_judging numbers_area_after clauses_area_after area_after
few_numbers_meets = meets t_few_numbers (Err (Refutation (AreaTooSmall 7))) refl

pub even_areas_meet : Meets t_even (Ok tt) t_cnf (written (replicate 7 0) (replicate 13 9)) (replicate 13 0)
unfolding laid_down header_words problem_by problem cnf cnf_words variables room_after_judging numbers_area_after clauses_area_after area_after
even_areas_meet = meets t_even (Ok tt) refl

pub other_version_meets : Meets t_unknown (Err (Cnf (Problem BadVersion))) [] [] []
unfolding laid_down room_after_judging numbers_area_after clauses_area_after area_after
other_version_meets = meets t_unknown (Err (Cnf (Problem BadVersion))) refl

-- ════════ Answers ════════

module _ (r : Outcome) (room' : List ℤ) (numbers' clauses' : List ℕ) where
  pub refuses_all_breaks : ¬ (r ≡ (Ok tt)) → Breaks T r room' numbers' clauses'
  refuses_all_breaks = other_answer_breaks yes_meets

  pub accepts_all_breaks : Breaks t_other (Ok tt) room' numbers' clauses'
  accepts_all_breaks = other_answer_breaks refused_step_meets (λ e. let z : ◌≡◌ {A = ℕ} 0 1 = cc in omega arith)

  pub made_up_step_breaks : (i : ℕ) → ¬ (i ≡ 0) → Breaks t_other (Err (Refutation (StepRefused i))) room' numbers' clauses'
  made_up_step_breaks i h = other_answer_breaks refused_step_meets (λ e. h (cc))

  pub made_up_need_breaks : (n : ℕ) → ¬ (n ≡ 37) → Breaks t_short (Err (Cnf (RoomTooSmall n))) room' numbers' clauses'
  made_up_need_breaks n h = other_answer_breaks small_room_meets (λ e. h (cc))

  -- 6 comes before 11.
  pub words_before_room_breaks : (i : ℕ) → Breaks t_short (Err (Refutation (BadRefutation i))) room' numbers' clauses'
  words_before_room_breaks i = other_answer_breaks small_room_meets (λ e. let z : ◌≡◌ {A = ℕ} 0 1 = cc in omega arith)

  pub takes_any_version_breaks : ¬ (r ≡ Err (Cnf (Problem BadVersion))) → Breaks t_unknown r room' numbers' clauses'
  takes_any_version_breaks = other_answer_breaks other_version_meets

  -- T's refutation is right at bound 0; a judge that takes the CNF of bound 0 says yes at bound 1 too.
  pub other_bound_breaks : Breaks t_longer (Ok tt) room' numbers' clauses'
  unfolding laid_down
  other_bound_breaks = other_answer_breaks (meets t_longer (Err (Refutation (StepRefused 0))) refl) (λ e. let z : ◌≡◌ {A = ℕ} 0 1 = cc in omega arith)

  -- The refutation judged against itself: yes to what is 13 at 0.
  pub other_clauses_judged_breaks : Breaks t_by_itself (Ok tt) room' numbers' clauses'
  unfolding laid_down
  other_clauses_judged_breaks = other_answer_breaks (meets t_by_itself (Err (Refutation (StepRefused 0))) refl) (λ e. let z : ◌≡◌ {A = ℕ} 0 1 = cc in omega arith)

  -- A word by numbers for each of 1..V, and none for 0.
  pub made_up_numbers_need_breaks : (n : ℕ) → ¬ (n ≡ 7) → Breaks t_few_numbers (Err (Refutation (AreaTooSmall n))) room' numbers' clauses'
  made_up_numbers_need_breaks n h = other_answer_breaks few_numbers_meets (λ e. h (cc))

-- ════════ Buffers ════════

-- The first word of a room tells 9 from T's CNF.
first_word : List ℤ → ℕ
first_word ws = variable_of (get_or ws 0 (pos 0))

module _ (r : Outcome) (numbers' clauses' : List ℕ) where
  pub unwritten_at_refused_step_breaks : Breaks t_other r t_other.room numbers' clauses'
  unfolding first_word
  unwritten_at_refused_step_breaks = other_room_breaks refused_step_meets (λ e. let z : ◌≡◌ {A = ℕ} 9 1 = ap first_word e in omega arith)

  pub written_before_words_breaks : Breaks t_bad r t_cnf numbers' clauses'
  unfolding first_word
  written_before_words_breaks = other_room_breaks bad_word_meets (λ e. let z : ◌≡◌ {A = ℕ} 1 9 = ap first_word e in omega arith)

  pub written_before_areas_breaks : Breaks t_few r t_cnf numbers' clauses'
  unfolding first_word
  written_before_areas_breaks = other_room_breaks small_area_meets (λ e. let z : ◌≡◌ {A = ℕ} 1 9 = ap first_word e in omega arith)

  -- As where 6 words by numbers are taken for enough.
  pub numbers_one_word_short_breaks : Breaks t_few_numbers r t_cnf numbers' clauses'
  unfolding first_word
  numbers_one_word_short_breaks = other_room_breaks few_numbers_meets (λ e. let z : ◌≡◌ {A = ℕ} 1 9 = ap first_word e in omega arith)

-- Each area is left as the other should be.
pub areas_exchanged_breaks : (r : Outcome) (room' : List ℤ) → Breaks t_even r room' (replicate 13 0) (written (replicate 7 0) (replicate 13 9))
areas_exchanged_breaks r room' =
    other_numbers_breaks even_areas_meet (λ e. let z : ◌≡◌ {A = ℕ} 0 9 = ap (λ (ns : List ℕ). get_or ns 7 0) e in omega arith)

-- A work word that is not 0, at any place, after yes and after 13.
module _ (r : Outcome) (room' : List ℤ) (numbers' clauses' : List ℕ) where
  pub number_left_breaks : ¬ (numbers' ≡ replicate 7 0) → Breaks T r room' numbers' clauses'
  number_left_breaks = other_numbers_breaks yes_meets

  pub clause_left_breaks : ¬ (clauses' ≡ replicate 13 0) → Breaks T r room' numbers' clauses'
  clause_left_breaks = other_clauses_breaks yes_meets

  pub number_left_at_refused_step_breaks : ¬ (numbers' ≡ replicate 7 0) → Breaks t_other r room' numbers' clauses'
  number_left_at_refused_step_breaks = other_numbers_breaks refused_step_meets

  pub clause_left_at_refused_step_breaks : ¬ (clauses' ≡ replicate 13 0) → Breaks t_other r room' numbers' clauses'
  clause_left_at_refused_step_breaks = other_clauses_breaks refused_step_meets

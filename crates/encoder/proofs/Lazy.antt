-- CNF writers that are lazy or wrong do not meet the promise: for each an input, what the promise gives there, and what they give.
-- Assumes nothing.
use mathlib.Core.Path.{◌≡◌, refl, sym, ◌∙◌, ap}
use mathlib.Core.List.{List, [], ◌∷◌}
use Prim.Native.Nat.{ℕ, ◌≤◌, ◌<◌}
use native.Mathlib.Omega.{arith}
use borrow.Author.Tests.{le-leb, lt-leb}
use lib.IntN.{ℤ, pos}
use lib.ListN.{length, replicate, get_or, drop, length-replicate, get_or-replicate, get_or-append}
use Rattle.std.specs.Prelude.{Result, Ok, Err, IfOk}
use Rattle.answers.specs.Lists.{written}
use Rattle.clauses.specs.Cases.{t_cnf}
use Rattle.clauses.specs.Clauses.{negated}
use Rattle.answers.specs.Answers.{Answer}
use Rattle.answers.specs.Limits.{inputs_limit, latches_limit, gates_limit, nodes_limit, bound_limit, constraints_limit}
use Rattle.meaning.specs.Problem.{header_words, problem_by, problem}
use Rattle.meaning.specs.Cnf.{true_literal, false_literal, variables, cnf, cnf_words}
use Rattle.meaning.specs.Calls.{write_cnf, room_after_writing}
use Rattle.meaning.specs.Cases.{t_words}
use Rattle.counts.specs.declared.Counts.{Counts}
use Rattle.counts.specs.Promise.{counts_of}
use Rattle.problem.proofs.LazyCounts.{numbers_of}
use Rattle.problem.specs.declared.Refusal.TheVariants.{BadVersion, BadLiteral}
use Rattle.encoder.specs.declared.NotWritten.{NotWritten}
use Rattle.encoder.specs.declared.NotWritten.TheVariants.{Problem, RoomTooSmall}
use Rattle.encoder.specs.Promise.{answer_of, EncodedAs}
use Rattle.encoder.proofs.Unique.{encoded_unique}

-- ════════ What it is to break the promise ════════

pub record Input : Type 0 where
  pub version : ℕ
  pub words : List ℕ
  pub room : List ℤ

abbrev pub Meets : Input → Result Counts NotWritten → List ℤ → Type 0
Meets x = EncodedAs x.version x.words x.room

-- This answer, with this room after it, does not meet the promise for the input.
abbrev pub Breaks : Input → Result Counts NotWritten → List ℤ → Type 0
Breaks x r after = ¬ (Meets x r after)

-- Of an answer and a room that meet the promise each is the only one.
module _ {x : Input} {r s : Result Counts NotWritten} {right after : List ℤ} (m : Meets x r right) where
  pub other_answer_breaks : ¬ (s ≡ r) → Breaks x s after
  other_answer_breaks h j = h (encoded_unique x.version x.words x.room s r after right j m).0

  pub other_room_breaks : ¬ (after ≡ right) → Breaks x s after
  other_room_breaks h j = h (encoded_unique x.version x.words x.room s r after right j m).1

  -- So is each word of the room.
  pub other_word_breaks : (i : ℕ) → ¬ (get_or after i (pos 0) ≡ get_or right i (pos 0)) → Breaks x s after
  other_word_breaks i h = other_room_breaks (λ e. h (ap (λ ws. get_or ws i (pos 0)) e))

-- ════════ Inputs ════════

-- Words under the known version, and a room of so many words, each 9.
abbrev pub over : List ℕ → ℕ → Input
over ws n = record { version = 1; words = ws; room = replicate n (pos 9) }

-- T with the atom 3: 0 1 0 1 0, 3 0, 0 3 0. Its CNF has as many words as T's, 37.
abbrev pub t_negated : Input
t_negated = over (0 ∷ 1 ∷ 0 ∷ 1 ∷ 0 ∷ 3 ∷ 0 ∷ 0 ∷ 3 ∷ 0 ∷ []) 37

-- T at bound 1: 0 1 0 1 1, 3 0, 0 2 0. Its CNF has 75 words.
abbrev pub t_longer_words : List ℕ
t_longer_words = 0 ∷ 1 ∷ 0 ∷ 1 ∷ 1 ∷ 3 ∷ 0 ∷ 0 ∷ 2 ∷ 0 ∷ []

abbrev pub t_longer : ℕ → Input
t_longer = over t_longer_words

-- T with the next literal 4, at word 5: 0 1 0 1 0, 4 0, 0 2 0. Literals are at most 3.
abbrev pub t_bad_words : List ℕ
t_bad_words = 0 ∷ 1 ∷ 0 ∷ 1 ∷ 0 ∷ 4 ∷ 0 ∷ 0 ∷ 2 ∷ 0 ∷ []

abbrev pub t_bad : ℕ → Input
t_bad = over t_bad_words

-- Another version.
abbrev pub t_unknown : Input
t_unknown = record { version = 9; words = t_words; room = replicate 37 (pos 9) }

-- G 2 with one input, k = 0: 1 0 0 2 0, 0 2 0, 5 0 0
abbrev pub G : Input
G = over (1 ∷ 0 ∷ 0 ∷ 2 ∷ 0 ∷ 0 ∷ 2 ∷ 0 ∷ 5 ∷ 0 ∷ 0 ∷ []) 68

abbrev minus : ℕ → ℤ
minus n = negated (pos n)

-- The CNF of G with y for Q(1,1), which is 1.
abbrev pub g_ended_with : ℤ → List ℤ
g_ended_with y =
    pos 1 ∷ pos 0
    ∷ minus 4 ∷ pos 2 ∷ pos 0
    ∷ pos 4 ∷ minus 2 ∷ pos 0
    ∷ minus 5 ∷ pos 4 ∷ pos 0
    ∷ pos 5 ∷ minus 4 ∷ pos 0
    ∷ minus 3 ∷ minus 6 ∷ pos 5 ∷ pos 0
    ∷ minus 3 ∷ pos 6 ∷ minus 5 ∷ pos 0
    ∷ minus 6 ∷ pos 3 ∷ pos 0
    ∷ minus 7 ∷ pos 4 ∷ pos 0
    ∷ minus 7 ∷ minus 1 ∷ pos 9 ∷ pos 0
    ∷ pos 7 ∷ minus 4 ∷ pos 1 ∷ pos 0
    ∷ pos 7 ∷ minus 4 ∷ minus 9 ∷ pos 0
    ∷ minus 8 ∷ pos 4 ∷ pos 0
    ∷ minus 8 ∷ minus 1 ∷ y ∷ pos 0
    ∷ pos 8 ∷ minus 4 ∷ pos 1 ∷ pos 0
    ∷ pos 8 ∷ minus 4 ∷ negated y ∷ pos 0
    ∷ minus 3 ∷ minus 9 ∷ pos 8 ∷ pos 0
    ∷ minus 3 ∷ pos 9 ∷ minus 8 ∷ pos 0
    ∷ minus 9 ∷ pos 3 ∷ pos 0
    ∷ pos 7 ∷ pos 0
    ∷ []

-- ════════ What the promise gives ════════

-- The answer that document 01 lays down.
unfoldable pub laid_down : Input → Answer
unfolding header_words problem_by problem cnf cnf_words inputs_limit latches_limit gates_limit nodes_limit bound_limit constraints_limit write_cnf
laid_down x = write_cnf x.version x.words (length x.room)

pub meets : (x : Input) (r : Result Counts NotWritten) → answer_of r ≡ laid_down x → IfOk r (λ n. n ≡ counts_of (problem x.version x.words))
    → Meets x r (room_after_writing (answer_of r) x.version x.words x.room)
unfolding laid_down
meets x r e n = record { answered = e; room_after = refl; numbered = n }

-- The numbers of T, of T at bound 1 and of G.
abbrev pub t_numbers : Counts
t_numbers = numbers_of 6 12 37

abbrev pub t_longer_numbers : Counts
t_longer_numbers = numbers_of 10 23 75

abbrev pub g_numbers : Counts
g_numbers = numbers_of 9 20 68

-- T's CNF has 37 words: a room of 37 words or more, and one of fewer.
pub written_meets : (n : ℕ) → 37 ≤ n → Meets (over t_words n) (Ok t_numbers) (written t_cnf (replicate n (pos 9)))
unfolding laid_down header_words problem_by problem variables cnf cnf_words room_after_writing
written_meets n h = meets (over t_words n) (Ok t_numbers) (rw (length-replicate n (pos 9), le-leb 37 n h)) refl

pub small_room_meets : (n : ℕ) → n < 37 → Meets (over t_words n) (Err (RoomTooSmall 37)) (replicate n (pos 9))
unfolding laid_down room_after_writing
small_room_meets n h = meets (over t_words n) (Err (RoomTooSmall 37)) (rw (length-replicate n (pos 9), lt-leb 37 n h)) tt

pub bad_problem_meets : (n : ℕ) → Meets (t_bad n) (Err (Problem (BadLiteral 5))) (replicate n (pos 9))
unfolding laid_down room_after_writing
bad_problem_meets n = meets (t_bad n) (Err (Problem (BadLiteral 5))) refl tt

pub other_version_meets : Meets t_unknown (Err (Problem BadVersion)) (replicate 37 (pos 9))
unfolding laid_down room_after_writing
other_version_meets = meets t_unknown (Err (Problem BadVersion)) refl tt

pub g_meets : Meets G (Ok g_numbers) (g_ended_with true_literal)
unfolding laid_down header_words problem_by problem variables cnf cnf_words room_after_writing
g_meets = meets G (Ok g_numbers) refl refl

-- ════════ Answers ════════

module _ (r : Result Counts NotWritten) (after : List ℤ) where
  -- Any other answer to T, in a room that has 37 words.
  pub refuses_all_breaks : (n : ℕ) → 37 ≤ n → ¬ (r ≡ Ok t_numbers) → Breaks (over t_words n) r after
  refuses_all_breaks n h = other_answer_breaks (written_meets n h)

  pub takes_any_version_breaks : ¬ (r ≡ Err (Problem BadVersion)) → Breaks t_unknown r after
  takes_any_version_breaks = other_answer_breaks other_version_meets

module _ (after : List ℤ) where
  -- Other numbers, other words needed, and another bad word.
  pub made_up_numbers_break : (n : Counts) → ¬ (n ≡ t_numbers) → Breaks (over t_words 37) (Ok n) after
  made_up_numbers_break n h = other_answer_breaks (written_meets 37 (omega arith)) (λ e. h (cc))

  pub made_up_need_breaks : (n : ℕ) → ¬ (n ≡ 37) → Breaks (over t_words 36) (Err (RoomTooSmall n)) after
  made_up_need_breaks n h = other_answer_breaks (small_room_meets 36 (omega arith)) (λ e. h (cc))

  pub made_up_place_breaks : (i : ℕ) → ¬ (i ≡ 5) → Breaks (t_bad 37) (Err (Problem (BadLiteral i))) after
  made_up_place_breaks i h = other_answer_breaks (bad_problem_meets 37) (λ e. h (cc))

  -- The room is too small for the CNF of a bad problem: 1 to 5 come before 6.
  pub room_before_problem_breaks : (n : ℕ) → Breaks (t_bad 0) (Err (RoomTooSmall n)) after
  room_before_problem_breaks n = other_answer_breaks (bad_problem_meets 0) (λ e. let z : ◌≡◌ {A = ℕ} 0 1 = cc in omega arith)

  -- A room of 36 words is too small, and one of 37 is not.
  pub room_one_short_accepted_breaks : (n : Counts) → Breaks (over t_words 36) (Ok n) after
  room_one_short_accepted_breaks n =
      other_answer_breaks (small_room_meets 36 (omega arith)) (λ e. let z : ◌≡◌ {A = ℕ} 0 1 = cc in omega arith)

  pub room_as_needed_refused_breaks : (n : ℕ) → Breaks (over t_words 37) (Err (RoomTooSmall n)) after
  room_as_needed_refused_breaks n =
      other_answer_breaks (written_meets 37 (omega arith)) (λ e. let z : ◌≡◌ {A = ℕ} 0 1 = cc in omega arith)

  -- Bound 1 counted as one position: the numbers of bound 0.
  pub k_as_positions_counted_breaks : (n : Counts) → n.words ≡ 37 → Breaks (t_longer 75) (Ok n) after
  unfolding laid_down header_words problem_by problem variables cnf cnf_words
  k_as_positions_counted_breaks n is =
      other_answer_breaks (meets (t_longer 75) (Ok t_longer_numbers) refl refl)
      (λ e. let z : n ≡ t_longer_numbers = cc in let words : n.words ≡ 75 = ap (λ (c : Counts). c.words) z in omega arith)

  pub k_as_positions_needed_breaks : Breaks (t_longer 36) (Err (RoomTooSmall 37)) after
  unfolding laid_down
  k_as_positions_needed_breaks =
      other_answer_breaks (meets (t_longer 36) (Err (RoomTooSmall 75)) refl tt) (λ e. let z : ◌≡◌ {A = ℕ} 37 75 = cc in omega arith)

-- ════════ The room ════════

-- The room as it was, whatever the answer.
pub writes_nothing_breaks : (n : ℕ) → 37 ≤ n → (r : Result Counts NotWritten) → Breaks (over t_words n) r (replicate n (pos 9))
writes_nothing_breaks n h r =
    other_word_breaks (written_meets n h) 0
    (rw (get_or-replicate n 0 (pos 9) (pos 0) (omega arith)) (λ e. let z : ◌≡◌ {A = ℕ} 9 1 = cc in omega arith))

module _ (r : Result Counts NotWritten) where
  -- Word 13 is the atom's literal, 2 in T and -2 here.
  pub always_writes_t_breaks : Breaks t_negated r t_cnf
  unfolding laid_down header_words problem_by problem variables cnf cnf_words room_after_writing
  always_writes_t_breaks =
      other_word_breaks (meets t_negated (Ok t_numbers) refl refl) 13 (λ e. let z : ◌≡◌ {A = ℕ} 0 1 = cc in omega arith)

  -- The CNF of bound 0 at bound 1: word 6 is -2 there, and here the 0 of a step's clause.
  pub k_as_positions_breaks : Breaks (t_longer 75) r (written t_cnf (replicate 75 (pos 9)))
  unfolding laid_down header_words problem_by problem variables cnf cnf_words room_after_writing
  k_as_positions_breaks =
      other_word_breaks (meets (t_longer 75) (Ok t_longer_numbers) refl refl) 6 (λ e. let z : ◌≡◌ {A = ℕ} 0 1 = cc in omega arith)

  -- Word 45 is Q(1,1) in the second clause of Q(1,0).
  pub g_ended_with_false_breaks : Breaks G r (g_ended_with false_literal)
  g_ended_with_false_breaks = other_word_breaks g_meets 45 (λ e. let z : ◌≡◌ {A = ℕ} 0 1 = cc in omega arith)

-- Whatever the words: at yes each word of the CNF stands in its place.
module _ (x : Input) (n : Counts) (after : List ℤ) where
  pub other_cnf_word_breaks : (i : ℕ) → i < length (cnf_words (problem x.version x.words))
      → ¬ (get_or after i (pos 0) ≡ get_or (cnf_words (problem x.version x.words)) i (pos 0)) → Breaks x (Ok n) after
  unfolding room_after_writing
  other_cnf_word_breaks i l h j =
      let ws = cnf_words (problem x.version x.words) in
      h (ap (λ ws. get_or ws i (pos 0)) j.room_after ∙ get_or-append ws (drop (length ws) x.room) (pos 0) i l)

  -- The first clause is (1), and here another.
  pub first_clause_negated_breaks : get_or after 0 (pos 0) ≡ minus 1 → Breaks x (Ok n) after
  unfolding cnf cnf_words
  first_clause_negated_breaks is = other_cnf_word_breaks 0 (omega arith) (λ e. let z : ◌≡◌ {A = ℕ} 1 0 = cc in omega arith)

  -- The word after it is the 0 that ends it, and here what the room held, as where each word is written two places on.
  pub word_left_out_breaks : get_or after 1 (pos 0) ≡ get_or x.room 1 (pos 0) → ¬ (get_or x.room 1 (pos 0) ≡ pos 0) → Breaks x (Ok n) after
  unfolding cnf cnf_words
  word_left_out_breaks is other = other_cnf_word_breaks 1 (omega arith) (λ e. other (sym is ∙ e))

module _ (r : Result Counts NotWritten) (after : List ℤ) where
  -- Word 37 is the first one past the CNF.
  pub written_past_breaks : ¬ (get_or after 37 (pos 0) ≡ pos 9) → Breaks (over t_words 38) r after
  written_past_breaks = other_word_breaks (written_meets 38 (omega arith)) 37

  -- Refused by 6, and by 4.
  pub room_written_at_refusal_breaks : ¬ (after ≡ replicate 36 (pos 9)) → Breaks (over t_words 36) r after
  room_written_at_refusal_breaks = other_room_breaks (small_room_meets 36 (omega arith))

  pub room_written_at_bad_problem_breaks : ¬ (after ≡ replicate 37 (pos 9)) → Breaks (t_bad 37) r after
  room_written_at_bad_problem_breaks = other_room_breaks (bad_problem_meets 37)

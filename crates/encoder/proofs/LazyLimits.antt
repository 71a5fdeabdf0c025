-- CNF writers that hold the number of words in 16 bits do not meet the promise, at all limits. Assumes nothing.
use mathlib.Core.Path.{◌≡◌, sym, ◌∙◌}
use mathlib.Core.List.{List}
use Prim.Native.Nat.{ℕ, ◌%◌, ◌^◌, ◌<◌}
use native.Mathlib.Omega.{arith}
use lib.IntN.{ℤ, pos}
use lib.ListN.{length, replicate, length-replicate}
use Rattle.std.specs.Prelude.{Ok, Err}
use Rattle.meaning.specs.Problem.{problem}
use Rattle.meaning.specs.Cnf.{cnf_words}
use Rattle.meaning.specs.Calls.{room_after_writing}
use Rattle.meaning.specs.Cases.{limit_words}
use Rattle.meaning.proofs.Check.{checked_if_well_formed}
use Rattle.meaning.proofs.Calls.{write_cnf_is}
use Rattle.meaning.proofs.AllLimits.{limits_formed, limits_counted}
use Rattle.counts.specs.declared.Counts.{Counts}
use Rattle.encoder.specs.declared.NotWritten.TheVariants.{RoomTooSmall}
use Rattle.encoder.proofs.RoomAnswers.{too_small}
use Rattle.encoder.proofs.Lazy.{Meets, Breaks, over, other_answer_breaks}

-- A room of fewer words.
pub limits_small_room_meets : (n : ℕ) → n < 437_012 → Meets (over limit_words n) (Err (RoomTooSmall 437_012)) (replicate n (pos 9))
unfolding room_after_writing
limits_small_room_meets n h =
    let words_are : 437_012 ≡ length (cnf_words (problem 1 limit_words)) = sym limits_counted.2 in
    let small = too_small (problem 1 limit_words) {before = replicate n (pos 9)} words_are (rw length-replicate h) in
    record {
      answered = small.answered ∙ sym (write_cnf_is 1 limit_words (length (replicate n (pos 9))) ∙ checked_if_well_formed 1 limit_words _ limits_formed);
      room_after = small.room_after;
      numbered = tt;
    }

-- ════════ The number of words in 16 bits ════════

-- 437,012 cut to 16 bits is 43,796; no number of 16 bits will do.
module _ (after : List ℤ) where
  -- The answer at a room that is too small, of m words.
  pub count_in_16_bits_breaks : (n m : ℕ) → n < 2 ^ 16 → m < 437_012 → Breaks (over limit_words m) (Err (RoomTooSmall n)) after
  count_in_16_bits_breaks n m l h = other_answer_breaks (limits_small_room_meets m h) (λ e. let z : n ≡ 437_012 = cc in omega arith)

  pub cut_need_breaks : Breaks (over limit_words 0) (Err (RoomTooSmall (437_012 % 2 ^ 16))) after
  cut_need_breaks = count_in_16_bits_breaks 43_796 0 (omega arith) (omega arith)

  -- A room of 43,796 words is too small, and the count that was cut says that it suffices.
  pub cut_room_accepted_breaks : (n : Counts) → Breaks (over limit_words 43_796) (Ok n) after
  cut_room_accepted_breaks n =
      other_answer_breaks (limits_small_room_meets 43_796 (omega arith)) (λ e. let z : ◌≡◌ {A = ℕ} 0 1 = cc in omega arith)

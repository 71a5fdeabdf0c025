-- Readers and writers that are lazy or wrong do not meet the promise, whatever the text or the words are; LazyTexts and LazyWords have inputs where
-- it shows. Assumes nothing.
use mathlib.Core.Path.{◌≡◌, refl, sym, ◌∙◌, ap}
use mathlib.Core.Bool.{Bool, true, false, cond}
use mathlib.Core.List.{List, [], ◌∷◌, ◌++◌}
use Prim.Native.Nat.{ℕ, ◌≤◌, ◌<◌}
use native.Mathlib.Omega.{arith}
use borrow.Author.Tests.{le-leb, lt-leb, ne_eqb}
use lib.Dec.{leb}
use lib.ListN.{length, get_or, take}
use Rattle.answers.specs.Lists.{written}
use Rattle.answers.specs.Answers.{Answer, Check, first_failing_part, granted, output_room_too_small}
use Rattle.answers.proofs.Answers.{number_of, place_of, parts_append}
use Rattle.answers.specs.Limits.{longest_text}
use Rattle.text.specs.Readings.{found, fault}
use Rattle.problem.specs.declared.Refusal.TheVariants.{BadVersion, BadNode}
use Rattle.problem.specs.Promise.{refusal_answer}
use Rattle.problem.proofs.Unique.{refusal_not_yes}
use Rattle.std.specs.Prelude.{Result, Ok, Err}
use Rattle.aiger.specs.declared.NotDone.{NotDone}
use Rattle.aiger.specs.declared.NotDone.TheVariants.{BadText, Circuit, RoomTooSmall}
use Rattle.aiger.specs.Circuits.{circuit_parts}
use Rattle.aiger.specs.Texts.{circuit_text, circuit_read}
use Rattle.aiger.specs.Calls.{room_check, read_answer, room_after_reading, write_answer, room_after_writing}
use Rattle.aiger.specs.Promise.{answer_of, ReadAs, WrittenAs}
use Rattle.aiger.proofs.CheckedCircuit.{good_by_number, more_if_good}
use Rattle.aiger.proofs.Unique.{same_outcome, read_unique, written_unique}
use Rattle.aiger.proofs.Unread.{read_without_rest}

-- ════════ What it is to break a promise ════════

-- A call: what it promises of its outcome and of the room after it, of which each is the only one.
pub record Call : Type 1 where
  pub Meets : Result ℕ NotDone → List ℕ → Type 0
  pub decides : (r r' : Result ℕ NotDone) (after after' : List ℕ) → Meets r after → Meets r' after' → (r ≡ r') × (after ≡ after')

-- This outcome, with this room after it, does not meet the promise.
abbrev pub Breaks : Call → Result ℕ NotDone → List ℕ → Type 0
Breaks x r after = ¬ (x.Meets r after)

-- A text, or words, and the room before the call.
abbrev pub reading : List ℕ → List ℕ → Call
reading text room = record { Meets = ReadAs text room; decides = λ r r' after after'. read_unique }

abbrev pub writing : List ℕ → List ℕ → Call
writing ws room = record { Meets = WrittenAs ws room; decides = λ r r' after after'. written_unique }

module _ (x : Call) {r : Result ℕ NotDone} {right : List ℕ} (m : x.Meets r right) {s : Result ℕ NotDone} {after : List ℕ} where
  pub other_outcome : ¬ (s ≡ r) → Breaks x s after
  other_outcome h j = h (x.decides s r after right j m).0

  pub other_number : ¬ ((answer_of s).number ≡ (answer_of r).number) → Breaks x s after
  other_number h = other_outcome (λ e. h (number_of (ap answer_of e)))

  pub other_place : ¬ ((answer_of s).place ≡ (answer_of r).place) → Breaks x s after
  other_place h = other_outcome (λ e. h (place_of (ap answer_of e)))

  pub other_room : ¬ (after ≡ right) → Breaks x s after
  other_room h j = h (x.decides s r after right j m).1

  -- Each word of the room, or byte, is the only one.
  pub other_word : (i : ℕ) → ¬ (get_or after i 0 ≡ get_or right i 0) → Breaks x s after
  other_word i h = other_room (λ e. h (ap (λ ws. get_or ws i 0) e))

-- ════════ Reading, for all texts ════════

module _ (text room : List ℕ) (r : Result ℕ NotDone) (after : List ℕ) where
  -- Anything but 19 with the place of the fault.
  pub fault_passed_breaks : {p : ℕ} → circuit_read text ≡ fault p → ¬ (r ≡ Err (BadText p)) → Breaks (reading text room) r after
  unfolding read_answer
  fault_passed_breaks {p} e h j = h (same_outcome (j.answered ∙ (rw e)))

  module _ {ws left : List ℕ} {p : ℕ} (e : circuit_read text ≡ found ws p left) (short : length text ≤ longest_text) where
    -- Anything but 0 with the words, although they fit: 19 for what is no fault, or 27.
    pub good_refused_breaks : length ws ≤ length room → ¬ (r ≡ Ok (length ws)) → Breaks (reading text room) r after
    unfolding read_answer
    good_refused_breaks fits h j =
        h (same_outcome (j.answered ∙ (rw (e, le-leb (length text) longest_text short, le-leb (length ws) (length room) fits))))

    -- Anything but 27 with the words needed, although they do not fit.
    pub small_room_passed_breaks : length room < length ws → ¬ (r ≡ Err (RoomTooSmall (length ws))) → Breaks (reading text room) r after
    unfolding read_answer
    small_room_passed_breaks small h j =
        h (same_outcome (j.answered ∙ (rw (e, le-leb (length text) longest_text short, lt-leb (length ws) (length room) small))))

    -- What stands after the last line is looked at: the answer goes by it.
    pub rest_looked_at_breaks : ReadAs text room r after → (rest : List ℕ) → length (take p text ++ rest) ≤ longest_text
        → (s : Result ℕ NotDone) → ¬ (s ≡ r) → (other : List ℕ) → Breaks (reading (take p text ++ rest) room) s other
    rest_looked_at_breaks m rest shorter s h other j =
        let same = (read_without_rest text ws p left e rest (length room) short shorter).0 in
        h (same_outcome (j.answered ∙ same ∙ sym m.answered))

  module _ {ws left : List ℕ} {p : ℕ} (e : circuit_read text ≡ found ws p left) (long : longest_text < length text) where
    -- The one outcome where the lines are good and the text is too long, whatever the room.
    pub long_text_refused : ReadAs text room r after → r ≡ Err (BadText longest_text)
    unfolding read_answer
    long_text_refused j = same_outcome (j.answered ∙ (rw (e, lt-leb (length text) longest_text long)))

    -- Anything else: 0 with the words, 27, or 19 with another place.
    pub long_text_passed_breaks : ¬ (r ≡ Err (BadText longest_text)) → Breaks (reading text room) r after
    long_text_passed_breaks h j = h (long_text_refused j)

  -- At 0 anything but the words and then what the room held.
  pub other_words_breaks : {ws left : List ℕ} {p n : ℕ} → circuit_read text ≡ found ws p left → r ≡ Ok n → ¬ (after ≡ written ws room)
      → Breaks (reading text room) r after
  unfolding room_after_reading
  other_words_breaks {ws} {left} {p} {n} e d h j = h (rw (d, e) at j.room_after)

-- ════════ Writing, for all words ════════

-- At 0 anything but the text and then what the room held.
pub other_text_breaks : (ws room after : List ℕ) (n : ℕ) → ¬ (after ≡ written (circuit_text ws) room) → Breaks (writing ws room) (Ok n) after
unfolding room_after_writing
other_text_breaks ws room after n h j = h j.room_after

-- Writing answers 0 to 4 or 27.
module _ (ws : List ℕ) (room : ℕ) where
  abbrev more : List (List Check)
  more = (room_check (length (circuit_text ws)) room ∷ []) ∷ []

  abbrev at_yes : Answer
  at_yes = granted (length (circuit_text ws))

  by_room : (k : ℕ) → 4 < k → (k ≡ 27 → ⊥) → (b : Bool) → (cond b at_yes (output_room_too_small (length (circuit_text ws)))).number ≡ k → ⊥
  by_room k over other true e = omega arith
  by_room k over other false e = other (sym e)

  no_other_number : (k : ℕ) → 4 < k → (k ≡ 27 → ⊥) → (write_answer ws room).number ≡ k → ⊥
  unfolding write_answer
  no_other_number k over other e =
      let by_parts = sym (number_of (parts_append (circuit_parts ws) more at_yes)) ∙ e in
      let good = good_by_number ws k (first_failing_part more at_yes) (λ n l h z. omega arith) by_parts in
      by_room k over other (leb (length (circuit_text ws)) room) (sym (number_of (more_if_good ws more at_yes good)) ∙ e)

-- 15, or 5: a circuit has neither a version nor nodes.
module _ (ws room after : List ℕ) where
  pub version_refused_breaks : Breaks (writing ws room) (Err (Circuit BadVersion)) after
  version_refused_breaks j = no_other_number ws (length room) 15 (omega arith) (λ e. omega arith) (sym (number_of j.answered))

  pub node_refused_breaks : (i : ℕ) → Breaks (writing ws room) (Err (Circuit (BadNode i))) after
  node_refused_breaks i j = no_other_number ws (length room) 5 (omega arith) (λ e. omega arith) (sym (number_of j.answered))

-- ════════ The room at a refusal ════════

-- It is changed.
module _ (given room after : List ℕ) (changed : ¬ (after ≡ room)) where
  pub changed_by_reading_breaks : (r : Result ℕ NotDone) → ((n : ℕ) → ¬ (r ≡ Ok n)) → Breaks (reading given room) r after
  unfolding room_after_reading
  changed_by_reading_breaks (Ok n) h j = h n refl
  changed_by_reading_breaks (Err (BadText p)) h j = changed j.room_after
  changed_by_reading_breaks (Err (Circuit f)) h j = changed (j.room_after ∙ rw (ne_eqb (refusal_answer f).number 0 (refusal_not_yes f)))
  changed_by_reading_breaks (Err (RoomTooSmall n)) h j = changed j.room_after

  pub changed_by_writing_breaks : (r : Result ℕ NotDone) → ((n : ℕ) → ¬ (r ≡ Ok n)) → Breaks (writing given room) r after
  unfolding room_after_writing
  changed_by_writing_breaks (Ok n) h j = h n refl
  changed_by_writing_breaks (Err (BadText p)) h j = changed j.room_after
  changed_by_writing_breaks (Err (Circuit f)) h j = changed (j.room_after ∙ rw (ne_eqb (refusal_answer f).number 0 (refusal_not_yes f)))
  changed_by_writing_breaks (Err (RoomTooSmall n)) h j = changed j.room_after

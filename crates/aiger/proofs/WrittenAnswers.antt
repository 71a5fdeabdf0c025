-- What writing answers: the check's refusal, the bytes needed, or those written. Assumes nothing.
use mathlib.Core.Path.{◌≡◌, refl, sym, ◌∙◌, ap}
use mathlib.Core.Bool.{true, false, cond}
use mathlib.Core.List.{List, [], ◌∷◌}
use Prim.Native.Nat.{ℕ, ◌≤◌, ◌<◌}
use native.Mathlib.Omega.{arith}
use borrow.Author.Tests.{le-leb, lt-leb, ne_eqb}
use lib.Dec.{leb, eqb}
use lib.ListN.{length}
use Rattle.answers.specs.Answers.{Check, granted, Answer, first_failing_part, output_room_too_small}
use Rattle.answers.specs.Limits.{longest_text}
use Rattle.problem.specs.declared.Refusal.{Refusal}
use Rattle.std.specs.Prelude.{Ok, Err}
use Rattle.problem.specs.Promise.{refusal_answer}
use Rattle.problem.specs.CheckParts.{Answers}
use Rattle.problem.proofs.Unique.{refusal_not_yes}
use Rattle.aiger.specs.declared.NotDone.TheVariants.{Circuit, RoomTooSmall}
use Rattle.aiger.specs.Circuits.{Sizes, sizes, circuit_parts}
use Rattle.aiger.specs.Texts.{sized_text, circuit_text}
use Rattle.aiger.specs.Calls.{room_check, write_answer, room_after_writing}
use Rattle.aiger.specs.Promise.{answer_of, WrittenAs}
use Rattle.aiger.specs.Writes.{Lays}
use Rattle.aiger.proofs.CheckedCircuit.{GoodCircuit, more_if_good, refused_whatever, good_by_number}
use Rattle.aiger.proofs.TextLengths.{text_within}
use Rattle.answers.proofs.Answers.{number_of, parts_append}

-- What is checked after the words.
abbrev room_part : List ℕ → List ℕ → List (List Check)
room_part ws room = (room_check (length (circuit_text ws)) (length room) ∷ []) ∷ []

-- ════════ A refusal by the check ════════

module _ (ws room : List ℕ) {A : Type 0} {f : Refusal} (a : Answers {A = A} (circuit_parts ws) (Err f)) where
  pub refused : WrittenAs ws room (Err (Circuit f)) room
  unfolding write_answer room_after_writing
  refused =
      let no : eqb (refusal_answer f).number 0 ≡ false = ne_eqb _ 0 (refusal_not_yes f) in
      record {
        answered = sym (refused_whatever ws (room_part ws room) (granted (length (circuit_text ws))) a);
        room_after = rw no;
      }

-- ════════ Words that are good ════════

module _ {ws : List ℕ} (good : GoodCircuit ws) {s : Sizes} (e : s ≡ sizes ws) where
  as_circuit : {o p : List ℕ} {n : ℕ} → Lays (sized_text s ws) 0 o n p → Lays (circuit_text ws) 0 o n p
  unfolding circuit_text
  as_circuit a = rw e at a

  length_told : {o p : List ℕ} {n : ℕ} → Lays (sized_text s ws) 0 o n p → n ≡ length (circuit_text ws)
  unfolding longest_text
  length_told a = omega (arith, (as_circuit a).after, text_within ws good)

  module _ (room : List ℕ) {n : ℕ} {o p : List ℕ} (measured : Lays (sized_text s ws) 0 o n p) where
    pub short : length room < n → WrittenAs ws room (Err (RoomTooSmall n)) room
    unfolding write_answer room_after_writing
    short h =
        let long : leb (length (circuit_text ws)) (length room) ≡ false = lt-leb (length (circuit_text ws)) (length room) (omega (arith, length_told measured)) in
        record {
          answered =
              ap (λ k. answer_of (Err (RoomTooSmall k))) (length_told measured)
              ∙ sym (more_if_good ws (room_part ws room) (granted (length (circuit_text ws))) good ∙ rw long);
          room_after = refl;
        }

    pub done : n ≤ length room → {m : ℕ} {after : List ℕ} → Lays (sized_text s ws) 0 room m after → WrittenAs ws room (Ok n) after
    unfolding write_answer room_after_writing
    done h a =
        let told = length_told measured in
        let fits : leb (length (circuit_text ws)) (length room) ≡ true = le-leb (length (circuit_text ws)) (length room) (omega arith) in
        record {
          answered =
              ap (λ k. answer_of (Ok k)) told
              ∙ sym (more_if_good ws (room_part ws room) (granted (length (circuit_text ws))) good ∙ rw fits);
          room_after = (as_circuit a).held (omega arith);
        }

-- ════════ An answer by its number ════════

module _ (ws : List ℕ) (room : ℕ) where
  abbrev room_checked : List (List Check)
  room_checked = (room_check (length (circuit_text ws)) room ∷ []) ∷ []

  -- A number that no check of the words has comes from the room.
  pub good_at : (k : ℕ) → ((n : ℕ) → 1 ≤ n → n ≤ 4 → n ≡ k → ⊥) → (write_answer ws room).number ≡ k → GoodCircuit ws
  unfolding write_answer
  good_at k other e =
      good_by_number ws k (first_failing_part room_checked (granted (length (circuit_text ws)))) other
      (sym (number_of (parts_append (circuit_parts ws) room_checked (granted (length (circuit_text ws))))) ∙ e)

  abbrev pub room_answer : Answer
  room_answer = cond (leb (length (circuit_text ws)) room) (granted (length (circuit_text ws))) (output_room_too_small (length (circuit_text ws)))

  pub good_answer : GoodCircuit ws → write_answer ws room ≡ room_answer
  unfolding write_answer
  good_answer good = more_if_good ws room_checked (granted (length (circuit_text ws))) good

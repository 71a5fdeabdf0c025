-- Written and read, read and written: over the definitions, and over what the two calls promise. Assumes nothing.
use mathlib.Core.Path.{◌≡◌, refl, sym, ◌∙◌, ap}
use mathlib.Core.Bool.{Bool, true, false, cond}
use mathlib.Core.Logic.{◌↔◌}
use mathlib.Core.List.{List, [], ◌∷◌, ◌++◌, append-nil}
use Prim.Native.Nat.{ℕ, ◌≤◌}
use native.Mathlib.Omega.{arith}
use borrow.Author.Tests.{le-leb}
use lib.Dec.{leb}
use lib.ListN.{length, take, drop}
use lib.Seq.{take_at}
use Rattle.answers.specs.Lists.{written}
use Rattle.answers.specs.Answers.{Answer, first_failing_part, granted, output_room_too_small}
use Rattle.answers.proofs.Answers.{number_of, parts_append}
use Rattle.answers.specs.Limits.{longest_text}
use Rattle.text.specs.Readings.{Reading, found, fault}
use Rattle.aiger.specs.Calls.{bad_text, room_check, answer_to, words_found, read_answer, room_after_reading, write_answer, room_after_writing}
use Rattle.std.specs.Prelude.{Result}
use Rattle.aiger.specs.declared.NotDone.{NotDone}
use Rattle.aiger.specs.Circuits.{circuit_parts, check_circuit}
use Rattle.aiger.specs.Texts.{circuit_text, circuit_read}
use Rattle.aiger.specs.Promise.{answer_of, ReadAs, WrittenAs}
use Rattle.aiger.proofs.CheckedCircuit.{GoodCircuit, good_if_granted, granted_if_good, more_if_good, good_by_number}
use Rattle.aiger.proofs.TextLengths.{text_within}
use Rattle.aiger.proofs.WrittenRead as texts
use Rattle.aiger.proofs.GoodWords.{read_good}
use Rattle.aiger.proofs.Unread.{read_without_rest}

-- ════════ The definitions ════════

-- "Every circuit written is read back the same", whatever stands after it.
pub written_read : (ws : List ℕ) → check_circuit ws ≡ granted 0 → (rest : List ℕ)
    → circuit_read (circuit_text ws ++ rest) ≡ found ws (length (circuit_text ws)) rest
written_read ws accepted rest = texts.written_read ws (good_if_granted ws accepted) rest

-- Read and written: the words of an accepted text are good, their text reads as the same words, and writing those gives that text again.
pub record ReadAgain (ws : List ℕ) : Type 0 where
  pub good : check_circuit ws ≡ granted 0
  pub same_words : circuit_read (circuit_text ws) ≡ found ws (length (circuit_text ws)) []
  pub same_text : circuit_text (words_found (circuit_read (circuit_text ws))) ≡ circuit_text ws

pub read_written : (text ws : List ℕ) (p : ℕ) (left : List ℕ) → circuit_read text ≡ found ws p left → ReadAgain ws
read_written text ws p left e =
    let accepted = granted_if_good ws (read_good text ws p left e) in
    let again : circuit_read (circuit_text ws) ≡ found ws (length (circuit_text ws)) [] =
    ap circuit_read (sym (append-nil (circuit_text ws))) ∙ written_read ws accepted [] in
    record { good = accepted; same_words = again; same_text = ap (λ (r : Reading). circuit_text (words_found r)) again }

-- "every accepted file, written again, has one normal text": two accepted texts have the same exactly if they read alike.
pub one_normal_text : (text text' ws ws' : List ℕ) (p p' : ℕ) (left left' : List ℕ) → circuit_read text ≡ found ws p left
    → circuit_read text' ≡ found ws' p' left' → (circuit_text ws ≡ circuit_text ws') ↔ (ws ≡ ws')
one_normal_text text text' ws ws' p p' left left' e e' =
    let again = (read_written text ws p left e).same_words in
    let again' = (read_written text' ws' p' left' e').same_words in
    (λ same. ap words_found (sym again ∙ ap circuit_read same ∙ again'), λ same. ap circuit_text same)

-- ════════ The calls ════════

-- What is left to check of good words: the room.
abbrev pub needed : List ℕ → ℕ
needed ws = length (circuit_text ws)

abbrev pub after_check : List ℕ → ℕ → Answer
after_check ws room = first_failing_part ((room_check (needed ws) room ∷ []) ∷ []) (granted (needed ws))

written_good : (ws : List ℕ) (room : ℕ) → (write_answer ws room).number ≡ 0 → GoodCircuit ws
unfolding write_answer
written_good ws room e =
    let parted : write_answer ws room ≡ first_failing_part (circuit_parts ws) (after_check ws room) =
    parts_append (circuit_parts ws) ((room_check (needed ws) room ∷ []) ∷ []) (granted (needed ws)) in
    good_by_number ws 0 (after_check ws room) (λ n l h z. omega arith) (number_of (sym parted) ∙ e)

good_written : (ws : List ℕ) (room : ℕ) → GoodCircuit ws → write_answer ws room ≡ after_check ws room
unfolding write_answer
good_written ws room good = more_if_good ws ((room_check (needed ws) room ∷ []) ∷ []) (granted (needed ws)) good

-- At 0 the room holds the text, and the place is its length.
written_at_0 : (ws : List ℕ) (room : ℕ) → (write_answer ws room).number ≡ 0 → write_answer ws room ≡ granted (needed ws)
written_at_0 ws room e =
    let is = good_written ws room (written_good ws room e) in
    is ∙ go (leb (needed ws) room) (number_of (sym is) ∙ e)
  where
    go : (b : Bool) → (cond b (granted (needed ws)) (output_room_too_small (needed ws))).number ≡ 0
        → cond b (granted (needed ws)) (output_room_too_small (needed ws)) ≡ granted (needed ws)
    go true z = refl
    go false z = absurd (omega arith)

module _ {ws out out' : List ℕ} {r : Result ℕ NotDone} (w : WrittenAs ws out r out') (at_0 : (answer_of r).number ≡ 0) where
  answer_is : answer_of r ≡ granted (needed ws)
  answer_is = w.answered ∙ written_at_0 ws (length out) (number_of (sym w.answered) ∙ at_0)

  text_written : take (answer_of r).place out' ≡ circuit_text ws
  unfolding room_after_writing
  text_written =
      let place : (answer_of r).place ≡ needed ws = ap (λ (a : Answer). a.place) answer_is in
      let held : out' ≡ written (circuit_text ws) out = w.room_after ∙ rw at_0 in
      rw (place, held) (take_at (circuit_text ws) (drop (needed ws) out) (needed ws) refl)

  -- What was written, read into a room that has the words, gives them.
  pub call_written_read : {room room' : List ℕ} {q : Result ℕ NotDone} → ReadAs (take (answer_of r).place out') room q room' → length ws ≤ length room
      → (answer_of q ≡ granted (length ws)) × (room' ≡ written ws room)
  unfolding read_answer room_after_reading
  call_written_read {room} {room'} {q} p fits =
      let good = written_good ws (length out) (number_of (sym w.answered) ∙ at_0) in
      let again : circuit_read (circuit_text ws) ≡ found ws (needed ws) [] =
      ap circuit_read (sym (append-nil (circuit_text ws))) ∙ texts.written_read ws good [] in
      let short : leb (needed ws) longest_text ≡ true = le-leb (needed ws) longest_text (text_within ws good) in
      let roomy : leb (length ws) (length room) ≡ true = le-leb (length ws) (length room) fits in
      let by-text = rw text_written at p in
      let answered : answer_of q ≡ granted (length ws) = by-text.answered ∙ rw (again, short, roomy) in
      let held : room' ≡ written ws room = by-text.room_after ∙ rw (again, answered) in
      (answered, held)

-- A text that was read without fault: the room holds its words, and the place is their number.
record WordsRead (text room room' : List ℕ) (q : Result ℕ NotDone) : Type 0 where
  pub good : GoodCircuit (words_found (circuit_read text))
  pub words_held : take (answer_of q).place room' ≡ words_found (circuit_read text)

module _ {text room room' : List ℕ} {q : Result ℕ NotDone} (p : ReadAs text room q room') (at_0 : (answer_of q).number ≡ 0) where
  read_at_0 : (r : Reading) → circuit_read text ≡ r → answer_of q ≡ answer_to text (length room) r → room' ≡ written (words_found r) room
      → WordsRead text room room' q
  read_at_0 (fault f) e a h = absurd (omega (arith, at_0, number_of a))
  read_at_0 (found ws n left) e a h =
      let place : (answer_of q).place ≡ length ws = ap (λ (x : Answer). x.place) (a ∙ go (leb (length text) longest_text) (leb (length ws) (length room)) (number_of (sym a) ∙ at_0)) in
      record {
        good = rw e (read_good text ws n left e);
        words_held = rw (place, h, e) (take_at ws (drop (length ws) room) (length ws) refl);
      }
    where
      go : (b c : Bool) → (cond b (cond c (granted (length ws)) (output_room_too_small (length ws))) (bad_text longest_text)).number ≡ 0
          → cond b (cond c (granted (length ws)) (output_room_too_small (length ws))) (bad_text longest_text) ≡ granted (length ws)
      go true true z = refl
      go true false z = absurd (omega arith)
      go false c z = absurd (omega arith)

  was_read : WordsRead text room room' q
  unfolding read_answer room_after_reading
  was_read = read_at_0 (circuit_read text) refl p.answered (p.room_after ∙ rw at_0)

  -- What was read is never refused by 1 to 4: the writer answers 0, or 27 where the room is too small.
  pub call_read_answered : {out out' : List ℕ} {r : Result ℕ NotDone} → WrittenAs (take (answer_of q).place room') out r out'
      → answer_of r ≡ after_check (words_found (circuit_read text)) (length out)
  call_read_answered {out} {out'} {r} w =
      let ws = words_found (circuit_read text) in
      let by_words : WrittenAs ws out r out' = rw was_read.words_held at w in
      by_words.answered ∙ good_written ws (length out) was_read.good

  -- What was read, written into a room that has the bytes, gives the text of those words.
  pub call_read_written : {out out' : List ℕ} {r : Result ℕ NotDone} → WrittenAs (take (answer_of q).place room') out r out'
      → needed (words_found (circuit_read text)) ≤ length out
      → (answer_of r ≡ granted (needed (words_found (circuit_read text)))) × (out' ≡ written (circuit_text (words_found (circuit_read text))) out)
  unfolding room_after_writing
  call_read_written {out} {out'} {r} w fits =
      let ws = words_found (circuit_read text) in
      let by_words : WrittenAs ws out r out' = rw was_read.words_held at w in
      let roomy : leb (needed ws) (length out) ≡ true = le-leb (needed ws) (length out) fits in
      let answered : answer_of r ≡ granted (needed ws) = by_words.answered ∙ good_written ws (length out) was_read.good ∙ rw roomy in
      let held : out' ≡ written (circuit_text ws) out = by_words.room_after ∙ rw answered in
      (answered, held)

-- ════════ What stands after the last line ════════

-- "symbol lines and comments, that is all after the last line the header counts, are skipped unread": of the call, the same outcome and the same room after it.
module _ (text ws : List ℕ) (p : ℕ) (left : List ℕ) (e : circuit_read text ≡ found ws p left) where
  pub call_unread : (rest room after : List ℕ) (r : Result ℕ NotDone) → length text ≤ longest_text → length (take p text ++ rest) ≤ longest_text
      → ReadAs text room r after → ReadAs (take p text ++ rest) room r after
  unfolding room_after_reading
  call_unread rest room after r short shorter m =
      let same = read_without_rest text ws p left e rest (length room) short shorter in
      record { answered = m.answered ∙ sym same.0; room_after = m.room_after ∙ rw same.1 }

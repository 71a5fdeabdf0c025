-- Document 02, Q-5: all after the last line that the header counts is unread, so that a text reads the same whatever stands there. Assumes nothing.
use mathlib.Core.Path.{◌≡◌, refl, sym, ◌∙◌, ap}
use mathlib.Core.Bool.{Bool, true, false, cond, false≢true}
use mathlib.Core.List.{List, [], ◌∷◌, ◌++◌}
use Prim.Native.Nat.{ℕ, ◌≤◌}
use native.Mathlib.Nat.{zero-add}
use borrow.Author.Tests.{le-leb}
use lib.Dec.{eqb}
use lib.ListN.{length, take}
use Rattle.answers.specs.Limits.{longest_text}
use Rattle.text.specs.Readings.{Reading, found, fault, Reader, in_turn}
use Rattle.meaning.specs.Problem.{word}
use Rattle.aiger.specs.Circuits.{Sizes}
use Rattle.aiger.specs.Texts.{largest_variable, opening, lines_due, sizes_read, in_order, ordered, variable_place, after_opening, circuit_read}
use Rattle.aiger.specs.Calls.{read_answer, words_found}
use Rattle.aiger.proofs.Closed.{Read, ReadAs, Closed, Needs, anything, closed_by, kept, keeping, closed_keeping, needs_keeping, followed, both, closed_both}
use Rattle.aiger.proofs.ClosedWords.{ends}
use Rattle.aiger.proofs.ClosedLines.{closed_lines, needs_lines, closed_opening}

-- ════════ The whole text ════════

abbrev in_words : Sizes → Reader
in_words s = keeping (in_order s) (in_turn (lines_due s))

abbrev judged : Bool → Reader → Reader
judged b r p t = cond b (r p t) (fault variable_place)

closed_judged : (b : Bool) (r : Reader) → Closed anything r → Closed anything (judged b r)
closed_judged true r c = c
closed_judged false r c = λ p t. tt

needs_judged : (b : Bool) (r : Reader) → Needs ends r → Needs ends (judged b r)
needs_judged true r n = n
needs_judged false r n = λ p t f. absurd (false≢true f)

abbrev variables_right : List ℕ → Bool
variables_right ns = eqb (word ns 0) (largest_variable (sizes_read ns))

abbrev after_header : List ℕ → Reader
after_header ns = judged (variables_right ns) (in_words (sizes_read ns))

closed_after_header : (ns : List ℕ) → Closed anything (after_header ns)
closed_after_header ns =
    let s = sizes_read ns in
    closed_judged (variables_right ns) (in_words s) (closed_keeping (in_order s) (in_turn (lines_due s)) anything (closed_lines s))

needs_after_header : (ns : List ℕ) → Needs ends (after_header ns)
needs_after_header ns =
    let s = sizes_read ns in
    needs_judged (variables_right ns) (in_words s) (needs_keeping (in_order s) (in_turn (lines_due s)) ends (needs_lines s))

kept_is_ordered : (s : Sizes) (x : Reading) → kept (in_order s) x ≡ ordered s x
kept_is_ordered s (found ns p t) = refl
kept_is_ordered s (fault p) = refl

after_header_is : (x : Reading) → followed x after_header ≡ after_opening x
after_header_is (found ns p t) =
    let s = sizes_read ns in
    ap (λ (x : Reading). cond (variables_right ns) x (fault variable_place)) (kept_is_ordered s (in_turn (lines_due s) p t))
after_header_is (fault p) = refl

abbrev whole : Reader
whole p t = after_opening (in_turn opening p t)

closed_whole : Closed anything whole
closed_whole =
    closed_by (both ends anything (in_turn opening) after_header) whole (λ p t. after_header_is (in_turn opening p t)) anything
    (closed_both ends anything (in_turn opening) after_header closed_opening closed_after_header needs_after_header)

-- ════════ What is unread ════════

take_part : (part left : List ℕ) → take (length part) (part ++ left) ≡ part
take_part [] left = refl
take_part (b ∷ part) left = ap (λ (u : List ℕ). b ∷ u) (take_part part left)

closed_circuit : (text : List ℕ) → ReadAs anything whole 0 text (circuit_read text)
unfolding circuit_read
closed_circuit text = closed_whole 0 text

whole_is : (text : List ℕ) → circuit_read text ≡ whole 0 text
unfolding circuit_read
whole_is text = refl

module _ (text ws : List ℕ) (p : ℕ) (left : List ℕ) where
  read_part : circuit_read text ≡ found ws p left → Read anything whole 0 text ws p left
  read_part e = rw e at (closed_circuit text)

  part_taken : (k : Read anything whole 0 text ws p left) → take p text ≡ k.part
  part_taken k =
      let place : p ≡ length k.part = k.place_is ∙ zero-add (length k.part) in
      ap (λ (n : ℕ). take n text) place
      ∙ ap (take (length k.part)) k.text_is
      ∙ take_part k.part left

  pub unread : circuit_read text ≡ found ws p left
      → (text ≡ take p text ++ left) × ((rest : List ℕ) → circuit_read (take p text ++ rest) ≡ found ws p rest)
  unread e = (first, second)
    where
      k : Read anything whole 0 text ws p left
      k = read_part e

      first : text ≡ take p text ++ left
      first = k.text_is ∙ ap (λ (u : List ℕ). u ++ left) (sym (part_taken k))

      second : (rest : List ℕ) → circuit_read (take p text ++ rest) ≡ found ws p rest
      second rest =
          ap (λ (u : List ℕ). circuit_read (u ++ rest)) (part_taken k)
          ∙ whole_is (k.part ++ rest)
          ∙ k.again 0 rest refl
          ∙ ap (λ (n : ℕ). found ws n rest) (sym k.place_is)

  -- The call's answer and words are those of any other text with the same lines, as far as its length goes.
  pub read_without_rest : circuit_read text ≡ found ws p left → (rest : List ℕ) (room : ℕ) → length text ≤ longest_text
      → length (take p text ++ rest) ≤ longest_text
      → (read_answer (take p text ++ rest) room ≡ read_answer text room)
      × (words_found (circuit_read (take p text ++ rest)) ≡ words_found (circuit_read text))
  unfolding read_answer
  read_without_rest e rest room short shorter =
      let other = (unread e).1 rest in
      (rw (e, other, le-leb (length text) longest_text short, le-leb (length (take p text ++ rest)) longest_text shorter), rw (e, other))

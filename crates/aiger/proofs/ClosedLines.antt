-- The header up to A is closed before the end of a word, and the lines after it before anything: they begin with the end of the header's line.
-- Assumes nothing.
use mathlib.Core.Path.{◌≡◌, refl, sym}
use mathlib.Core.Bool.{Bool, true, not}
use mathlib.Core.List.{List, [], ◌∷◌, ◌++◌, map}
use Prim.Native.Nat.{ℕ}
use lib.Dec.{ltb, leb}
use Rattle.answers.specs.Lists.{numbers}
use Rattle.text.specs.Numbers.{bytes_of}
use Rattle.answers.specs.Limits.{largest_number, inputs_limit, latches_limit, gates_limit, outputs_limit}
use Rattle.text.specs.Readings.{space_byte, newline_byte, Reader, ahead, in_turn, space, newline, told, at_most, exactly}
use Rattle.text.proofs.ReadingLaws.{in_turn_one}
use Rattle.meaning.specs.Check.{largest_literal}
use Rattle.aiger.specs.Circuits.{Sizes, circuit}
use Rattle.aiger.specs.Texts.{input_literal, latch_literal, gate_literal, opening, input_due, begins_with, reset_word, reset_due, latch_due, output_due, below, gate_due, lines_due}
use Rattle.aiger.proofs.Closed.{Closed, Needs, anything, closed_by, needs_by, keeping, closed_keeping, needs_keeping, closed_either, needs_either, ahead_is_kept, closed_then, needs_then, closed_none, closed_one, closed_joined, closed_each}
use Rattle.aiger.proofs.ClosedWords.{closed_mark, needs_mark, ends, closed_number, closed_told, closed_exactly, closed_reset_word, closed_from_mark, needs_from_mark, closed_word_then}

-- ════════ A word and what ends it ════════

after_space : (before : List ℕ → Bool) (r : Reader) (rs : List Reader) → Closed ends r → Closed before (in_turn rs)
    → Closed before (in_turn (r ∷ space ∷ rs))
after_space before r rs c d = closed_word_then before space_byte refl rs r c d

line_end : (r : Reader) → Closed ends r → Closed anything (in_turn (r ∷ newline ∷ []))
line_end r c = closed_word_then anything newline_byte refl [] r c (closed_none anything)

-- ════════ The lines ════════

closed_at_most : (m : ℕ) → Closed ends (at_most m)
closed_at_most m = closed_number (λ n. leb n m)

closed_input : (i : ℕ) → Closed anything (input_due i)
closed_input i = line_end (exactly (input_literal i)) (closed_exactly (input_literal i))

module _ (own : ℕ) where
  abbrev no_reset : Reader
  no_reset p t = ahead (0 ∷ []) (newline p t)

  abbrev some_reset : Reader
  some_reset = in_turn (space ∷ reset_word own ∷ newline ∷ [])

  abbrev zero_kept : List ℕ → List ℕ
  zero_kept ms = (0 ∷ []) ++ ms

  no_reset_is : (p : ℕ) (t : List ℕ) → keeping zero_kept newline p t ≡ no_reset p t
  no_reset_is p t = ahead_is_kept (0 ∷ []) (newline p t)

  closed_no_reset : Closed anything no_reset
  closed_no_reset =
      closed_by (keeping zero_kept newline) no_reset no_reset_is anything (closed_keeping zero_kept newline anything (closed_mark newline_byte))

  needs_no_reset : (test : List ℕ → Bool) → ((t : List ℕ) → test (newline_byte ∷ t) ≡ true) → Needs test no_reset
  needs_no_reset test h =
      needs_by (keeping zero_kept newline) no_reset no_reset_is test (needs_keeping zero_kept newline test (needs_mark test newline_byte h))

  closed_some_reset : Closed anything some_reset
  closed_some_reset =
      closed_from_mark anything space_byte refl (reset_word own ∷ newline ∷ []) (line_end (reset_word own) (closed_reset_word own))

  needs_some_reset : (test : List ℕ → Bool) → ((t : List ℕ) → test (space_byte ∷ t) ≡ true) → Needs test some_reset
  needs_some_reset test h = needs_then test space (in_turn (reset_word own ∷ newline ∷ [])) (needs_mark test space_byte h)

  closed_reset : Closed anything (reset_due own)
  closed_reset =
      closed_either anything (begins_with newline_byte) no_reset some_reset closed_no_reset closed_some_reset
      (needs_no_reset (begins_with newline_byte) (λ t. refl)) (needs_some_reset (λ t. not (begins_with newline_byte t)) (λ t. refl))

  needs_reset : Needs ends (reset_due own)
  needs_reset =
      needs_either (begins_with newline_byte) ends no_reset some_reset (needs_no_reset ends (λ t. refl)) (needs_some_reset ends (λ t. refl))

module _ (s : Sizes) where
  closed_latch : (i : ℕ) → Closed anything (latch_due s i)
  closed_latch i =
      let own = latch_literal s i in
      let next = at_most (largest_literal (circuit s)) in
      after_space anything (exactly own) (next ∷ reset_due own ∷ []) (closed_exactly own)
      (closed_then ends anything next (in_turn (reset_due own ∷ [])) (closed_at_most (largest_literal (circuit s)))
      (closed_one anything (reset_due own) (closed_reset own))
      (needs_by (reset_due own) (in_turn (reset_due own ∷ [])) (λ p t. sym (in_turn_one (reset_due own) p t)) ends (needs_reset own)))

  closed_output : (o : ℕ) → Closed anything (output_due s o)
  closed_output o = line_end (at_most (largest_literal (circuit s))) (closed_at_most (largest_literal (circuit s)))

  closed_gate : (j : ℕ) → Closed anything (gate_due s j)
  closed_gate j =
      let own = gate_literal s j in
      let smaller = closed_number (λ n. ltb n own) in
      after_space anything (exactly own) (below own ∷ space ∷ below own ∷ newline ∷ []) (closed_exactly own)
      (after_space anything (below own) (below own ∷ newline ∷ []) smaller (line_end (below own) smaller))

  abbrev inputs_due : List Reader
  inputs_due = map input_due (numbers 0 s.inputs)

  abbrev latches_due : List Reader
  latches_due = map (latch_due s) (numbers 0 s.latches)

  abbrev outputs_due : List Reader
  outputs_due = map (output_due s) (numbers 0 s.outputs)

  abbrev gates_due : List Reader
  gates_due = map (gate_due s) (numbers 0 s.gates)

  pub closed_lines : Closed anything (in_turn (lines_due s))
  closed_lines =
      closed_from_mark anything newline_byte refl (inputs_due ++ latches_due ++ outputs_due ++ gates_due)
      (closed_joined anything (inputs_due ++ latches_due ++ outputs_due) gates_due
      (closed_joined anything (inputs_due ++ latches_due) outputs_due
      (closed_joined anything inputs_due latches_due (closed_each input_due closed_input (numbers 0 s.inputs))
      (closed_each (latch_due s) closed_latch (numbers 0 s.latches)))
      (closed_each (output_due s) closed_output (numbers 0 s.outputs)))
      (closed_each (gate_due s) closed_gate (numbers 0 s.gates)))

  pub needs_lines : Needs ends (in_turn (lines_due s))
  needs_lines = needs_from_mark anything newline_byte refl (inputs_due ++ latches_due ++ outputs_due ++ gates_due)

-- ════════ The header ════════

-- Numbers with a space between two of them.
abbrev spaced : ℕ → List ℕ → List Reader
spaced m [] = at_most m ∷ []
spaced m (k ∷ ms) = at_most m ∷ space ∷ spaced k ms

closed_spaced : (m : ℕ) (ms : List ℕ) → Closed ends (in_turn (spaced m ms))
closed_spaced m [] = closed_one ends (at_most m) (closed_at_most m)
closed_spaced m (k ∷ ms) = after_space ends (at_most m) (spaced k ms) (closed_at_most m) (closed_spaced k ms)

pub closed_opening : Closed ends (in_turn opening)
closed_opening =
    let limits = inputs_limit ∷ latches_limit ∷ outputs_limit ∷ gates_limit ∷ [] in
    after_space ends (told (bytes_of "aag")) (spaced largest_number limits) (closed_told (bytes_of "aag")) (closed_spaced largest_number limits)

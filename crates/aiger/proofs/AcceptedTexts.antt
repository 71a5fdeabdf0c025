-- `accepted_texts`: a text is accepted exactly if it is the normal text, in which a reset of 0 may be told, and anything after it. Assumes nothing.
use mathlib.Core.Path.{◌≡◌, refl, sym, ◌∙◌, ap}
use mathlib.Core.Logic.{◌↔◌}
use mathlib.Core.Bool.{Bool, true, false, cond}
use mathlib.Core.List.{List, [], ◌∷◌, ◌++◌, append_assoc}
use Prim.Native.Nat.{ℕ, ◌+◌, ◌≤◌}
use native.Mathlib.Omega.{arith}
use borrow.Author.Tests.{leb-true, le-leb}
use lib.Dec.{leb}
use lib.ListN.{length, length-append}
use lib.Seq.{take_all}
use Rattle.answers.specs.Lists.{written}
use Rattle.answers.specs.Answers.{granted, output_room_too_small}
use Rattle.answers.specs.Limits.{largest_number, longest_text, inputs_limit, latches_limit, gates_limit, outputs_limit}
use Rattle.answers.proofs.Answers.{number_of, place_of}
use Rattle.answers.proofs.Tests.{eqb_self}
use Rattle.text.specs.Numbers.{bytes_of, decimal}
use Rattle.text.specs.Readings.{space_byte, word_of, Reading, found, fault, in_turn}
use Rattle.meaning.specs.Problem.{word}
use Rattle.aiger.specs.Circuits.{Sizes, sizes, check_circuit}
use Rattle.aiger.specs.Texts.{largest_variable, ended, circuit_text, opening, lines_due, sizes_read, in_order, after_opening, circuit_read}
use Rattle.aiger.specs.Accepted.{text_telling}
use Rattle.std.specs.Prelude.{Result, Ok}
use Rattle.aiger.specs.declared.NotDone.{NotDone}
use Rattle.aiger.specs.Calls.{bad_text, room_after_reading}
use Rattle.aiger.specs.Promise.{answer_of, ReadAs}
use Rattle.aiger.proofs.CheckedCircuit.{GoodCircuit, good_if_granted, granted_if_good}
use Rattle.aiger.proofs.KeptNumbers.{opening_kept, lines_kept}
use Rattle.aiger.proofs.WordsInOrder.{ones, words_are}
use Rattle.aiger.proofs.GoodWords.{HeaderRead, header_read, read_good}
use Rattle.aiger.proofs.Unique.{same_outcome}
use Rattle.aiger.proofs.Refused.{read_by}
use Rattle.aiger.proofs.Exact.{place_in, NoChoice, ExactBefore, exact_by, exact_joined}
use Rattle.aiger.proofs.ExactWords.{exact_number, exact_told, exact_ended}
use Rattle.aiger.proofs.ExactLines.{at_most_ended, small, lines_telling, exact_lines_due, numbers_back}

-- ════════ The header ════════

-- `aag M I L O`, and the space before A.
abbrev front_text : ℕ → ℕ → ℕ → ℕ → List ℕ
front_text m i l o = bytes_of "aag " ++ ended m space_byte ++ ended i space_byte ++ ended l space_byte ++ ended o space_byte

limits_small : (inputs_limit ≤ largest_number) × (latches_limit ≤ largest_number) × (outputs_limit ≤ largest_number) × (gates_limit ≤ largest_number)
unfolding inputs_limit latches_limit gates_limit outputs_limit largest_number
limits_small = (omega arith, omega arith, omega arith, omega arith)

module _ (m i l o a : ℕ) (hm : m ≤ largest_number) (hi : i ≤ inputs_limit) (hl : l ≤ latches_limit) (ho : o ≤ outputs_limit) (ha : a ≤ gates_limit) where
  exact_opening : ExactBefore (λ rest. word_of rest ≡ []) NoChoice opening (λ c. front_text m i l o ++ decimal a) (m ∷ i ∷ l ∷ o ∷ a ∷ [])
  exact_opening =
      let to_aag = exact_ended (exact_told (bytes_of "aag") refl) space_byte refl in
      let to_m = exact_joined to_aag (at_most_ended m space_byte refl largest_number hm (omega arith)) in
      let to_i = exact_joined to_m (at_most_ended i space_byte refl inputs_limit hi limits_small.0) in
      let to_l = exact_joined to_i (at_most_ended l space_byte refl latches_limit hl limits_small.1) in
      let to_o = exact_joined to_l (at_most_ended o space_byte refl outputs_limit ho limits_small.2) in
      let to_a = exact_joined to_o (exact_number (λ k. leb k gates_limit) a (omega (arith, limits_small.3)) (le-leb a gates_limit ha)) in
      exact_by to_a (λ c. front_text m i l o ++ decimal a) (λ c. ((((((tt, tt), tt), tt), tt), tt), refl)) (λ c. (tt, refl))

-- ════════ The text is read ════════

module _ (ws : List ℕ) (good : GoodCircuit ws) where
  abbrev s : Sizes
  s = sizes ws

  abbrev head_text : List ℕ
  head_text = front_text (largest_variable s) s.inputs s.latches s.outputs ++ decimal s.gates

  text_parted : (chosen : ℕ → Bool) → text_telling chosen ws ≡ head_text ++ lines_telling ws good chosen
  unfolding text_telling
  text_parted chosen = simp append_assoc

  telling_read : (chosen : ℕ → Bool) (rest : List ℕ)
      → circuit_read (text_telling chosen ws ++ rest) ≡ found ws (length (text_telling chosen ws)) rest
  unfolding circuit_read
  telling_read chosen rest =
      let lines = lines_telling ws good chosen in
      let fits = good.fitting in
      let text : text_telling chosen ws ++ rest ≡ head_text ++ (lines ++ rest) = rw (text_parted chosen) (append_assoc head_text lines rest) in
      let opened : in_turn opening 0 (text_telling chosen ws ++ rest)
      ≡ found (largest_variable s ∷ s.inputs ∷ s.latches ∷ s.outputs ∷ s.gates ∷ []) (0 + length head_text) (lines ++ rest) =
      rw text
      ((exact_opening (largest_variable s) s.inputs s.latches s.outputs s.gates (omega (arith, small ws good)) fits.inputs_within
      fits.latches_within fits.outputs_within fits.gates_within).reads tt 0 (lines ++ rest) refl) in
      let place : 0 + length head_text + length lines ≡ length (text_telling chosen ws) =
      rw (text_parted chosen, length-append head_text lines) (omega arith) in
      ap after_opening opened
      ∙ rw (eqb_self (largest_variable s), (exact_lines_due ws good).reads chosen (0 + length head_text) rest tt, words_are ws good.length_right, place)

-- ════════ What was read is such a text ════════

five_are : (hs : List ℕ) → length hs ≡ 5 → hs ≡ word hs 0 ∷ word hs 1 ∷ word hs 2 ∷ word hs 3 ∷ word hs 4 ∷ []
five_are hs h = sym (ones hs 0 5 (omega arith) ∙ take_all 5 hs (omega arith))

module _ (text hs : List ℕ) (q : ℕ) (u : List ℕ) (header_is : in_turn opening 0 text ≡ found hs q u) where
  -- The text up to A's word.
  head_stands : word hs 0 ≡ largest_variable (sizes_read hs)
      → text ≡ (front_text (largest_variable (sizes_read hs)) (word hs 1) (word hs 2) (word hs 3) ++ decimal (word hs 4)) ++ u
  head_stands m =
      let h = opening_kept 0 text header_is in
      let numbers = ap (λ (l : List ℕ). found l q u) (five_are hs h.five) in
      ((exact_opening (word hs 0) (word hs 1) (word hs 2) (word hs 3) (word hs 4) h.variables_within h.inputs_within h.latches_within
      h.outputs_within h.gates_within).stands 0 text q u (header_is ∙ numbers)).1
      ∙ ap (λ (k : ℕ). (front_text k (word hs 1) (word hs 2) (word hs 3) ++ decimal (word hs 4)) ++ u) m

  in_order_stands : word hs 0 ≡ largest_variable (sizes_read hs) → (ns : List ℕ) (p : ℕ) (left : List ℕ)
      → in_turn (lines_due (sizes_read hs)) q u ≡ found ns p left → GoodCircuit (in_order (sizes_read hs) ns)
      → (chosen : ℕ → Bool) × (text ≡ text_telling chosen (in_order (sizes_read hs) ns) ++ left)
  in_order_stands m ns p left lines_are good =
      let ws = in_order (sizes_read hs) ns in
      let back = numbers_back (sizes_read hs) ns (lines_kept (sizes_read hs) q u lines_are) in
      let lines = (exact_lines_due ws good).stands q u p left (lines_are ∙ ap (λ (l : List ℕ). found l p left) (sym back)) in
      let chosen = lines.0 in (
        chosen,
        head_stands m
            ∙ ap (λ (v : List ℕ). head_text ws good ++ v) lines.1
            ∙ sym (append_assoc (head_text ws good) (lines_telling ws good chosen) left)
            ∙ ap (λ (v : List ℕ). v ++ left) (sym (text_parted ws good chosen)),
      )

by_header : (text ws : List ℕ) (p : ℕ) (left : List ℕ) → GoodCircuit ws → HeaderRead (in_turn opening 0 text) ws p left
    → (chosen : ℕ → Bool) × (text ≡ text_telling chosen ws ++ left)
by_header text ws p left good d =
    let made : ws ≡ in_order (sizes_read d.header) d.kept = d.words_made in
    rw made
    (in_order_stands text d.header d.place d.rest d.header_is d.variables_are d.kept p left d.lines_are (rw made at good))

telling_stands : (text ws : List ℕ) (p : ℕ) (left : List ℕ) → circuit_read text ≡ found ws p left
    → (chosen : ℕ → Bool) × (text ≡ text_telling chosen ws ++ left)
unfolding circuit_read
telling_stands text ws p left e =
    by_header text ws p left (read_good text ws p left e) (header_read (in_turn opening 0 text) ws p left e)

-- ════════ The texts that are accepted ════════

-- The normal text is the one in which no reset of 0 is told.
pub normal_text : (ws : List ℕ) → text_telling (λ i. false) ws ≡ circuit_text ws
unfolding text_telling circuit_text
normal_text ws = refl

-- A text is read without fault as these words exactly if they are good, and it is their text, with a reset of 0 told of some latches, and then what is left.
pub accepted_texts : (text ws : List ℕ) (p : ℕ) (left : List ℕ)
    → (circuit_read text ≡ found ws p left)
    ↔ ((check_circuit ws ≡ granted 0)
    × ((told : ℕ → Bool) × (text ≡ text_telling told ws ++ left) × (p ≡ length (text_telling told ws))))
accepted_texts text ws p left = (forth, back)
  where
    forth : circuit_read text ≡ found ws p left
        → (check_circuit ws ≡ granted 0) × ((told : ℕ → Bool) × (text ≡ text_telling told ws ++ left) × (p ≡ length (text_telling told ws)))
    forth e =
        let good = read_good text ws p left e in
        let one = telling_stands text ws p left e in
        let again = sym e ∙ ap circuit_read one.1 ∙ telling_read ws good one.0 left in
        (granted_if_good ws good, (one.0, one.1, ap place_in again))

    back : (check_circuit ws ≡ granted 0) × ((told : ℕ → Bool) × (text ≡ text_telling told ws ++ left) × (p ≡ length (text_telling told ws)))
        → circuit_read text ≡ found ws p left
    back (accepted, (chosen, is, place)) =
        ap circuit_read is ∙ telling_read ws (good_if_granted ws accepted) chosen left ∙ ap (λ (n : ℕ). found ws n left) (sym place)

-- At 0 the room holds the words that were found, and then what it held.
held_at_0 : {text before after ws left : List ℕ} {r : Result ℕ NotDone} {n q : ℕ} → ReadAs text before r after → circuit_read text ≡ found ws q left
    → answer_of r ≡ granted n → after ≡ written ws before
unfolding room_after_reading
held_at_0 a e h = a.room_after ∙ rw (h, e)

-- The text is such a one and not too long, the room has place for its words, and then holds them and what it held past them.
abbrev AcceptedInto : List ℕ → List ℕ → List ℕ → ℕ → Type 0
AcceptedInto text before after n =
    (ws : List ℕ) × (told : ℕ → Bool) × (left : List ℕ) × (check_circuit ws ≡ granted 0) × (text ≡ text_telling told ws ++ left)
    × (length text ≤ longest_text) × (length ws ≤ length before) × (n ≡ length ws) × (after ≡ written ws before)

-- Of the call: it answers 0 exactly for such texts, where they are not too long and the room has place for their words; it holds them, and then what it held.
pub read_accepted : {text before after : List ℕ} {r : Result ℕ NotDone} → ReadAs text before r after → (n : ℕ)
    → (r ≡ Ok n)
    ↔ ((ws : List ℕ) × (told : ℕ → Bool) × (left : List ℕ) × (check_circuit ws ≡ granted 0) × (text ≡ text_telling told ws ++ left)
    × (length text ≤ longest_text) × (length ws ≤ length before) × (n ≡ length ws) × (after ≡ written ws before))
read_accepted {text} {before} {after} {r} a n = (λ e. by (circuit_read text) refl (ap answer_of e), back)
  where
    by : (x : Reading) → circuit_read text ≡ x → answer_of r ≡ granted n → AcceptedInto text before after n
    by (fault q) e h = absurd (omega (arith, number_of (sym (read_by a e) ∙ h)))
    by (found ws q left) e h =
        let is = (accepted_texts text ws q left).0 e in
        let fits = go (leb (length text) longest_text) refl (leb (length ws) (length before)) refl (sym (read_by a e) ∙ h) in
        (ws, is.1.0, left, is.0, is.1.1, fits.0, fits.1, fits.2, held_at_0 a e h)
      where
        go : (b : Bool) → leb (length text) longest_text ≡ b → (c : Bool) → leb (length ws) (length before) ≡ c
            → cond b (cond c (granted (length ws)) (output_room_too_small (length ws))) (bad_text longest_text) ≡ granted n
            → (length text ≤ longest_text) × (length ws ≤ length before) × (n ≡ length ws)
        go true f true k g = (leb-true (length text) longest_text f, leb-true (length ws) (length before) k, sym (place_of g))
        go true f false k g = absurd (omega (arith, number_of g))
        go false f c k g = absurd (omega (arith, number_of g))

    back : AcceptedInto text before after n → r ≡ Ok n
    back (ws, chosen, left, accepted, is, short, roomy, count, room_is) =
        let found_is = (accepted_texts text ws (length (text_telling chosen ws)) left).1 (accepted, (chosen, is, refl)) in
        same_outcome (read_by a found_is ∙ rw (le-leb (length text) longest_text short, le-leb (length ws) (length before) roomy, count))

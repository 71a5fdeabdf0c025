-- Document 02, Q-5: exactly when reading and writing answer 19 and 27, and with what place. Assumes nothing.
use mathlib.Core.Path.{◌≡◌, refl, sym, ◌∙◌, ap}
use mathlib.Core.Logic.{◌↔◌, ◌⊎◌, inl, inr}
use mathlib.Core.Bool.{Bool, true, false, cond}
use mathlib.Core.List.{List}
use Prim.Native.Nat.{ℕ, ◌≤◌, ◌<◌}
use native.Mathlib.Omega.{arith}
use borrow.Author.Tests.{leb-true, leb-false, le-leb, lt-leb}
use lib.Dec.{leb}
use lib.ListN.{length}
use Rattle.answers.specs.Answers.{granted, output_room_too_small}
use Rattle.answers.proofs.Answers.{number_of, place_of}
use Rattle.answers.specs.Limits.{longest_text}
use Rattle.text.specs.Readings.{Reading, found, fault}
use Rattle.std.specs.Prelude.{Result, Err}
use Rattle.aiger.specs.declared.NotDone.{NotDone}
use Rattle.aiger.specs.declared.NotDone.TheVariants.{BadText, RoomTooSmall}
use Rattle.aiger.specs.Circuits.{check_circuit}
use Rattle.aiger.specs.Texts.{circuit_text, circuit_read}
use Rattle.aiger.specs.Calls.{bad_text, answer_to, read_answer}
use Rattle.aiger.specs.Promise.{answer_of, ReadAs, WrittenAs}
use Rattle.aiger.proofs.CheckedCircuit.{GoodCircuit, good_if_granted, granted_if_good}
use Rattle.aiger.proofs.Unique.{same_outcome}
use Rattle.aiger.proofs.WrittenAnswers.{good_at, room_answer, good_answer}

-- ════════ Reading ════════

module _ {text before after : List ℕ} {r : Result ℕ NotDone} (a : ReadAs text before r after) where
  -- The answer, once it is known what was found.
  pub read_by : {x : Reading} → circuit_read text ≡ x → answer_of r ≡ answer_to text (length before) x
  unfolding read_answer
  read_by e = a.answered ∙ ap (answer_to text (length before)) e

  abbrev Told : ℕ → Type 0
  Told p =
      (circuit_read text ≡ fault p)
      ⊎ (((ws : List ℕ) × (q : ℕ) × (left : List ℕ) × (circuit_read text ≡ found ws q left)) × (longest_text < length text) × (p ≡ longest_text))

  abbrev Short : ℕ → Type 0
  Short n =
      (ws : List ℕ) × (q : ℕ) × (left : List ℕ) × (circuit_read text ≡ found ws q left) × (length text ≤ longest_text) × (length before < length ws)
      × (n ≡ length ws)

  -- 19: the place of the fault; or the longest length, where the lines are good and the text is longer.
  pub refused_19 : (p : ℕ) → (r ≡ Err (BadText p))
      ↔ ((circuit_read text ≡ fault p)
      ⊎ (((ws : List ℕ) × (q : ℕ) × (left : List ℕ) × (circuit_read text ≡ found ws q left)) × (longest_text < length text) × (p ≡ longest_text)))
  refused_19 p = (λ e. by (circuit_read text) refl (ap answer_of e), back)
    where
      by : (x : Reading) → circuit_read text ≡ x → answer_of r ≡ bad_text p → Told p
      by (fault q) e h = inl (e ∙ ap fault (sym (place_of (read_by e)) ∙ place_of h))
      by (found ws q left) e h = go (leb (length text) longest_text) refl (leb (length ws) (length before)) (sym (read_by e) ∙ h)
        where
          go : (b : Bool) → leb (length text) longest_text ≡ b → (c : Bool)
              → cond b (cond c (granted (length ws)) (output_room_too_small (length ws))) (bad_text longest_text) ≡ bad_text p → Told p
          go true f true g = absurd (omega (arith, number_of g))
          go true f false g = absurd (omega (arith, number_of g))
          go false f c g = inr ((ws, q, left, e), leb-false (length text) longest_text f, sym (place_of g))

      back : Told p → r ≡ Err (BadText p)
      back (inl e) = same_outcome (read_by e)
      back (inr (w, long, is)) = same_outcome (read_by w.3 ∙ rw (lt-leb (length text) longest_text long, is))

  -- 27: the text is good, and not too long, and the room has fewer words than were read.
  pub read_refused_27 : (n : ℕ) → (r ≡ Err (RoomTooSmall n))
      ↔ ((ws : List ℕ) × (q : ℕ) × (left : List ℕ) × (circuit_read text ≡ found ws q left) × (length text ≤ longest_text) × (length before < length ws)
      × (n ≡ length ws))
  read_refused_27 n = (λ e. by (circuit_read text) refl (ap answer_of e), back)
    where
      by : (x : Reading) → circuit_read text ≡ x → answer_of r ≡ output_room_too_small n → Short n
      by (fault q) e h = absurd (omega (arith, number_of (sym (read_by e) ∙ h)))
      by (found ws q left) e h = go (leb (length text) longest_text) refl (leb (length ws) (length before)) refl (sym (read_by e) ∙ h)
        where
          go : (b : Bool) → leb (length text) longest_text ≡ b → (c : Bool) → leb (length ws) (length before) ≡ c
              → cond b (cond c (granted (length ws)) (output_room_too_small (length ws))) (bad_text longest_text) ≡ output_room_too_small n → Short n
          go true f true k g = absurd (omega (arith, number_of g))
          go true f false k g =
              (ws, q, left, e, leb-true (length text) longest_text f, leb-false (length ws) (length before) k, sym (place_of g))
          go false f c k g = absurd (omega (arith, number_of g))

      back : Short n → r ≡ Err (RoomTooSmall n)
      back (ws, q, left, e, short, small, is) =
          same_outcome (read_by e ∙ rw (le-leb (length text) longest_text short, lt-leb (length ws) (length before) small, is))

-- ════════ Writing ════════

module _ {ws before after : List ℕ} {r : Result ℕ NotDone} (a : WrittenAs ws before r after) where
  abbrev bytes : ℕ
  bytes = length (circuit_text ws)

  by_room : (k : ℕ) → ((n : ℕ) → 1 ≤ n → n ≤ 4 → n ≡ k → ⊥) → (answer_of r).number ≡ k
      → GoodCircuit ws × (answer_of r ≡ room_answer ws (length before))
  by_room k other e =
      let good = good_at ws (length before) k other (sym (number_of a.answered) ∙ e) in
      (good, a.answered ∙ good_answer ws (length before) good)

  -- 27: the words are good, and the room has fewer bytes than their text.
  pub write_refused_27 : (n : ℕ) → (r ≡ Err (RoomTooSmall n))
      ↔ ((check_circuit ws ≡ granted 0) × (length before < length (circuit_text ws)) × (n ≡ length (circuit_text ws)))
  write_refused_27 n = (forth, back)
    where
      go : (b : Bool) → leb bytes (length before) ≡ b → cond b (granted bytes) (output_room_too_small bytes) ≡ output_room_too_small n
          → (length before < bytes) × (n ≡ bytes)
      go true f g = absurd (omega (arith, number_of g))
      go false f g = (leb-false bytes (length before) f, sym (place_of g))

      forth : r ≡ Err (RoomTooSmall n) → (check_circuit ws ≡ granted 0) × (length before < bytes) × (n ≡ bytes)
      forth e =
          let is : answer_of r ≡ output_room_too_small n = ap answer_of e in
          let told = by_room 27 (λ m l h z. omega arith) (number_of is) in
          let small = go (leb bytes (length before)) refl (sym told.1 ∙ is) in
          (granted_if_good ws told.0, small.0, small.1)

      back : (check_circuit ws ≡ granted 0) × (length before < bytes) × (n ≡ bytes) → r ≡ Err (RoomTooSmall n)
      back (checked, small, is) =
          same_outcome (a.answered ∙ good_answer ws (length before) (good_if_granted ws checked) ∙ rw (lt-leb bytes (length before) small, is))

  -- 19 is for texts that are read.
  pub write_never_19 : (p : ℕ) → r ≡ Err (BadText p) → ⊥
  write_never_19 p e =
      let is : (answer_of r).number ≡ 19 = number_of (ap answer_of e) in
      go (leb bytes (length before)) (sym (number_of (by_room 19 (λ m l h z. omega arith) is).1) ∙ is)
    where
      go : (b : Bool) → (cond b (granted bytes) (output_room_too_small bytes)).number ≡ 19 → ⊥
      go true z = omega arith
      go false z = omega arith

-- A latch's next literal and its reset, read exactly where they stand: a reset of 0 may be told or left out. Assumes nothing.
use mathlib.Core.Path.{◌≡◌, refl, sym, ◌∙◌, ap}
use mathlib.Core.Logic.{◌⊎◌, inl, inr}
use mathlib.Core.Bool.{Bool, true, false, cond, ◌&&◌, ◌||◌}
use mathlib.Core.List.{List, [], ◌∷◌, ◌++◌, map, append_assoc}
use Prim.Native.Nat.{ℕ, zero, suc, ◌+◌, ◌≤◌, ◌<◌}
use native.Mathlib.Omega.{arith}
use borrow.Author.Tests.{eqb-true, ne_eqb, le-leb}
use lib.Dec.{eqb, leb}
use lib.ListN.{length}
use Rattle.answers.specs.Limits.{largest_number}
use Rattle.answers.proofs.Tests.{one_true, eqb_self}
use Rattle.text.specs.Numbers.{decimal}
use Rattle.text.specs.Readings.{space_byte, newline_byte, word_of, Reading, found, fault, ahead, in_turn, space, newline, number, at_most}
use Rattle.meaning.specs.Check.{largest_reset}
use Rattle.aiger.specs.Texts.{ended, reset_text, begins_with, is_reset, as_reset, kept_as, reset_word, reset_due}
use Rattle.aiger.specs.Accepted.{next_text_telling}
use Rattle.aiger.proofs.Exact.{numbers_in, left_in, not_found, after_ahead, NoChoice, Exact, exact_by, exact_one, exact_then, exact_joined}
use Rattle.aiger.proofs.ExactWords.{mark_stands, exact_mark, ExactWord, number_stands, head_is, number_reads, exact_number, exact_ended}

-- ════════ The word of a reset ════════

-- The number that tells a reset: 0, 1, or the latch's own literal for a free one.
abbrev told_as : ℕ → ℕ → ℕ
told_as own r = cond (eqb r 0) 0 (reset_text own r)

kept_stands : (f : ℕ → ℕ) (x : Reading) (ms : List ℕ) (q : ℕ) (left : List ℕ) → kept_as f x ≡ found ms q left
    → (ns : List ℕ) × (o : ℕ) × (x ≡ found ns o left) × (ms ≡ map f ns)
kept_stands f (found ns o t) ms q left e = (ns, o, ap (found ns o) (ap left_in e), sym (ap numbers_in e))
kept_stands f (fault o) ms q left e = absurd (not_found e)

module _ (own : ℕ) (small : own ≤ largest_number) (two : 2 ≤ own) where
  not_own : (m : ℕ) → m < 2 → eqb m own ≡ false
  not_own m h = ne_eqb m own (λ e. omega arith)

  told_small : (r : ℕ) → told_as own r ≤ largest_number
  told_small r = go (eqb r 0) (eqb r 1)
    where
      go : (a b : Bool) → cond a 0 (cond b 1 own) ≤ largest_number
      go true b = omega arith
      go false true = omega arith
      go false false = small

  told_right : (r : ℕ) → r ≤ largest_reset → (is_reset own (told_as own r) ≡ true) × (as_reset own (told_as own r) ≡ r)
  told_right zero h = (refl, rw (not_own 0 (omega arith)))
  told_right (suc zero) h = (refl, rw (not_own 1 (omega arith)))
  told_right (suc (suc zero)) h = (rw (ne_eqb own 0 (λ e. omega arith), ne_eqb own 1 (λ e. omega arith), eqb_self own), rw (eqb_self own))
  told_right (suc (suc (suc r))) h = absurd (omega arith)

  -- No other number tells it.
  told_back : (n : ℕ) → is_reset own n ≡ true → told_as own (as_reset own n) ≡ n
  told_back n e = by (one_true (eqb n 0 || eqb n 1) (eqb n own) e)
    where
      fixed : (eqb n 0 ≡ true) ⊎ (eqb n 1 ≡ true) → told_as own (as_reset own n) ≡ n
      fixed (inl z) = let is = eqb-true n 0 z in rw (is, not_own 0 (omega arith))
      fixed (inr o) = let is = eqb-true n 1 o in rw (is, not_own 1 (omega arith))

      by : (eqb n 0 || eqb n 1 ≡ true) ⊎ (eqb n own ≡ true) → told_as own (as_reset own n) ≡ n
      by (inl f) = fixed (one_true (eqb n 0) (eqb n 1) f)
      by (inr f) = let is : n ≡ own = eqb-true n own f in rw f (sym is)

  reset_stands : (p : ℕ) (t ms : List ℕ) (q : ℕ) (left : List ℕ) → reset_word own p t ≡ found ms q left
      → (n : ℕ) × (ms ≡ as_reset own n ∷ []) × (is_reset own n ≡ true) × (t ≡ decimal n ++ left)
  reset_stands p t ms q left e =
      let under = kept_stands (as_reset own) (number (is_reset own) p t) ms q left e in
      let one = number_stands (is_reset own) p t under.0 under.1 left under.2 in
      (one.0, under.3 ∙ ap (map (as_reset own)) one.1, one.2, one.3)

  exact_reset_word : (r : ℕ) → r ≤ largest_reset → ExactWord (reset_word own) (decimal (told_as own r)) (r ∷ [])
  exact_reset_word r h =
      exact_one
      (λ c p rest f.
      ap (kept_as (as_reset own)) (number_reads (is_reset own) (told_as own r) (told_small r) (told_right r h).0 p rest f)
      ∙ ap (λ (k : ℕ). found (k ∷ []) (p + length (decimal (told_as own r))) rest) (told_right r h).1)
      (λ p t ms q left e. ap length (reset_stands p t ms q left e).1)
      (λ p t q left e.
      let one = reset_stands p t (r ∷ []) q left e in
      let is : told_as own r ≡ one.0 = ap (told_as own) (head_is one.1) ∙ told_back one.0 one.2 in
      (tt, one.3 ∙ ap (λ (n : ℕ). decimal n ++ left) (sym is)))

  -- ════════ The end of a latch's line ════════

  -- What stands after the next literal.
  abbrev reset_end : Bool → ℕ → List ℕ
  reset_end chosen r =
      cond (chosen && eqb r 0) (space_byte ∷ ended 0 newline_byte) (cond (eqb r 0) (newline_byte ∷ []) (space_byte ∷ ended (reset_text own r) newline_byte))

  end_told : (r : ℕ) → reset_end true r ≡ space_byte ∷ ended (told_as own r) newline_byte
  end_told r = go (eqb r 0)
    where
      go : (b : Bool) → cond b (space_byte ∷ ended 0 newline_byte) (cond b (newline_byte ∷ []) (space_byte ∷ ended (reset_text own r) newline_byte))
          ≡ space_byte ∷ ended (cond b 0 (reset_text own r)) newline_byte
      go true = refl
      go false = refl

  end_no_word : (r : ℕ) (chosen : Bool) (rest : List ℕ) → word_of (reset_end chosen r ++ rest) ≡ []
  end_no_word r chosen rest = go (chosen && eqb r 0) (eqb r 0)
    where
      go : (a b : Bool)
          → word_of (cond a (space_byte ∷ ended 0 newline_byte) (cond b (newline_byte ∷ []) (space_byte ∷ ended (reset_text own r) newline_byte)) ++ rest) ≡ []
      go true b = refl
      go false true = refl
      go false false = refl

  abbrev EndRead : List ℕ → ℕ → Type 0
  EndRead end r = (p : ℕ) (rest : List ℕ) → reset_due own p (end ++ rest) ≡ found (r ∷ []) (p + length end) rest

  none_read : EndRead (newline_byte ∷ []) 0
  none_read p rest = let place : suc p ≡ p + 1 = omega arith in rw place

  module _ (r : ℕ) (h : r ≤ largest_reset) where
    exact_some : Exact (NoChoice × NoChoice) (space ∷ reset_word own ∷ newline ∷ []) (λ c. space_byte ∷ ended (told_as own r) newline_byte) (r ∷ [])
    exact_some = exact_joined (exact_mark space_byte) (exact_ended (exact_reset_word r h) newline_byte refl)

    some_read : EndRead (space_byte ∷ ended (told_as own r) newline_byte) r
    some_read p rest = exact_some.reads (tt, tt) p rest tt

    end_read : (chosen : Bool) → EndRead (reset_end chosen r) r
    end_read true = rw (end_told r) some_read
    end_read false = go (eqb r 0) refl
      where
        go : (b : Bool) → eqb r 0 ≡ b → EndRead (cond b (newline_byte ∷ []) (space_byte ∷ ended (reset_text own r) newline_byte)) r
        go true f = let is : r ≡ 0 = eqb-true r 0 f in rw is none_read
        go false f = rw f at some_read

    end_stands : (p : ℕ) (t : List ℕ) (q : ℕ) (left : List ℕ) → reset_due own p t ≡ found (r ∷ []) q left → (c : Bool) × (t ≡ reset_end c r ++ left)
    end_stands p t q left e = go (begins_with newline_byte t) e
      where
        go : (b : Bool) → cond b (ahead (0 ∷ []) (newline p t)) (in_turn (space ∷ reset_word own ∷ newline ∷ []) p t) ≡ found (r ∷ []) q left
            → (c : Bool) × (t ≡ reset_end c r ++ left)
        go true g =
            let after = after_ahead (0 ∷ []) (newline p t) g in
            let is : r ≡ 0 = head_is after.2 in
            (false, rw is (mark_stands newline_byte p t after.0 q left after.1).1)
        go false g = (true, (exact_some.stands p t q left g).1 ∙ ap (λ (u : List ℕ). u ++ left) (sym (end_told r)))

    end_count : (p : ℕ) (t ms : List ℕ) (q : ℕ) (left : List ℕ) → reset_due own p t ≡ found ms q left → length ms ≡ 1
    end_count p t ms q left e = go (begins_with newline_byte t) e
      where
        go : (b : Bool) → cond b (ahead (0 ∷ []) (newline p t)) (in_turn (space ∷ reset_word own ∷ newline ∷ []) p t) ≡ found ms q left → length ms ≡ 1
        go true g =
            let after = after_ahead (0 ∷ []) (newline p t) g in
            ap length after.2 ∙ ap (λ (ks : List ℕ). suc (length ks)) (mark_stands newline_byte p t after.0 q left after.1).0
        go false g = exact_some.count p t ms q left g

    exact_end : Exact Bool (reset_due own ∷ []) (λ c. reset_end c r) (r ∷ [])
    exact_end = exact_one (λ c p rest f. end_read c p rest) end_count end_stands

    -- ════════ The next literal and the reset ════════

    next_and_end : (next : ℕ) (chosen : Bool) → decimal next ++ reset_end chosen r ≡ next_text_telling chosen own next r
    next_and_end next chosen = go (chosen && eqb r 0) (eqb r 0) (ended 0 newline_byte) (ended (reset_text own r) newline_byte)
      where
        go : (a b : Bool) (x y : List ℕ) → decimal next ++ cond a (space_byte ∷ x) (cond b (newline_byte ∷ []) (space_byte ∷ y))
            ≡ cond a (ended next space_byte ++ x) (cond b (ended next newline_byte) (ended next space_byte ++ y))
        go true b x y = sym (append_assoc (decimal next) (space_byte ∷ []) x)
        go false true x y = refl
        go false false x y = sym (append_assoc (decimal next) (space_byte ∷ []) y)

    pub exact_next : (next most : ℕ) → next ≤ most → most ≤ largest_number
        → Exact Bool (at_most most ∷ reset_due own ∷ []) (λ c. next_text_telling c own next r) (next ∷ r ∷ [])
    exact_next next most within most_small =
        exact_by (exact_then (exact_number (λ k. leb k most) next (omega arith) (le-leb next most within)) exact_end (λ c rest f. end_no_word r c rest))
        (λ c. next_text_telling c own next r) (λ c. ((tt, c), next_and_end next c)) (λ c. (c.1, next_and_end next c.1))

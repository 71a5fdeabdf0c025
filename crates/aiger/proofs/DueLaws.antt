-- Laws of what is due in a text: what each reader finds at a place, by the tests that the code makes there. Assumes nothing.
use mathlib.Core.Path.{◌≡◌, refl, sym, ◌∙◌, ap}
use mathlib.Core.Bool.{true, false, cond, ◌||◌, or-true}
use mathlib.Core.Logic.{◌⊎◌, ⊎_elim}
use mathlib.Core.List.{List, [], ◌∷◌, append-nil}
use Prim.Native.Nat.{ℕ, zero, suc, ◌+◌, ◌-◌, ◌≤◌, ◌<◌}
use native.Mathlib.Numerals.{add-one}
use native.Mathlib.Omega.{arith}
use borrow.Author.Tests.{eq-eqb, ne_eqb, le-leb, lt-leb}
use lib.Dec.{leb, eqb}
use lib.ListN.{length, take, drop}
use lib.Seq.{drop-drop, drop-append_seam, take-suc-set}
use Rattle.text.specs.Numbers.{value, is_number}
use Rattle.text.specs.Readings.{word_of, past_word, newline_byte, found, fault, Reader, in_turn, mark, space, newline, at_most, unkept, exactly}
use Rattle.text.specs.Promise.{no_number, WordAt}
use Rattle.text.proofs.NumberLaws.{word_and_past}
use Rattle.text.proofs.StateLaws.{Scanned, as_none, as_number, as_other, scanned_as, scanned_suc}
use Rattle.aiger.specs.Texts.{begins_with, is_reset, as_reset, kept_as, reset_word, reset_due}
use Rattle.std.specs.Prelude.{Result, Ok, Err}
use Rattle.std.specs.Result.{IsErrAnd}
use Rattle.std.proofs.lemmas.Result.{err_from_is_err_and}
use Rattle.aiger.specs.Reads.{KeptAs, NumberAt, Passes, Keeps}
use Rattle.aiger.specs.declared.due.Reached.{Reached}
use Rattle.text.specs.declared.scan.Word.{Word}

-- ════════ Going on ════════

module _ {reader : Reader} {text : List ℕ} {before : Reached} where
  -- The reader goes on at the place: to another place,
  pub passes_on : {place : ℕ} → reader before.place (drop before.place text) ≡ found [] place (drop place text)
      → Passes reader text before (Ok (record { place = place; filled = before.filled }))
  passes_on f = record { reads = λ table. rw (f, append-nil (take before.filled table)); filled_is = refl }

  pub keeps_on : {table table' : List ℕ} {after : Reached} {n place : ℕ} → before.filled < length table
      → KeptAs before n place table after table'
      → reader before.place (drop before.place text) ≡ found (n ∷ []) place (drop place text)
      → Keeps 1 reader text before table (Ok after) table'
  keeps_on {table} {table'} {after} {n} {place} l k f =
      record {
        reads = rw (f, k.table_is, k.place_is, k.filled_is, add-one before.filled, take-suc-set table before.filled n l);
        filled_within = omega arith;
      }

  -- or to a fault there.
  pub passes_not : {p : ℕ} → reader before.place (drop before.place text) ≡ fault p → Passes reader text before (Err p)
  passes_not f = record { reads = λ table. rw f; filled_is = tt }

  pub keeps_not : {most p : ℕ} {table : List ℕ} → reader before.place (drop before.place text) ≡ fault p
      → Keeps most reader text before table (Err p) table
  keeps_not f = record { reads = rw f; filled_within = tt }

-- ════════ A byte ════════

mark_is : (b p : ℕ) (t : List ℕ) → mark b p t ≡ cond (begins_with b t) (found [] (suc p) (drop 1 t)) (fault p)
mark_is b p [] = refl
mark_is b p (c ∷ t) = refl

module _ (text : List ℕ) (p b : ℕ) where
  pub mark_found : begins_with b (drop p text) ≡ true → mark b p (drop p text) ≡ found [] (p + 1) (drop (p + 1) text)
  mark_found e = rw (mark_is b p (drop p text), e, drop-drop 1 p text, add-one p)

-- ════════ A number ════════

abbrev word_from : ℕ → List ℕ → List ℕ
word_from p text = word_of (drop p text)

past_drop : (t : List ℕ) → drop (length (word_of t)) t ≡ past_word t
past_drop t = ap (drop (length (word_of t))) (sym (word_and_past t)) ∙ drop-append_seam (word_of t) (past_word t)

module _ (text : List ℕ) (p : ℕ) (w : Word) (is : WordAt text p w) where
  past_at : past_word (drop p text) ≡ drop w.end text
  past_at =
      sym (past_drop (drop p text))
      ∙ drop-drop (length (word_from p text)) p text
      ∙ ap (λ (e : ℕ). drop e text) (sym is.end_is)

  none_there : is_number (word_from p text) ≡ false → NumberAt text p (Err p)
  none_there e = record { reads = λ right. rw e }

  pub no_number_there : (w.state ≡ 0) ⊎ (no_number ≤ w.state) → NumberAt text p (Err p)
  no_number_there h = go (scanned_as (word_from p text))
    where
      go : Scanned (word_from p text) → NumberAt text p (Err p)
      go (as_none q z n) = none_there n
      go (as_number n l z) =
          let s : w.state ≡ suc (value (word_from p text)) = is.state_is ∙ z in
          ⊎_elim (λ a. absurd (omega arith)) (λ a. absurd (omega arith)) h
      go (as_other n z) = none_there n

  pub number_there : 1 ≤ w.state → w.state < no_number → NumberAt text p (Ok (w.state - 1, w.end))
  number_there low high =
      let s : w.state ≡ suc (w.state - 1) = omega arith in
      let read = scanned_suc (word_from p text) (w.state - 1) (sym is.state_is ∙ s) (omega arith) in
      record { reads = λ right. rw (read.0, read.1, past_at, ← is.end_is) }

-- ════════ Numbers that are asked for ════════

is_reset_own : (own n : ℕ) → n ≡ own → is_reset own n ≡ true
is_reset_own own n e = rw (eq-eqb n own e) (or-true (eqb n 0 || eqb n 1))

is_reset_few : (own n : ℕ) → n ≤ 1 → is_reset own n ≡ true
is_reset_few own zero h = refl
is_reset_few own (suc zero) h = refl
is_reset_few own (suc (suc n)) h = absurd (omega arith)

module _ (m : ℕ) {text : List ℕ} {before : Reached} where
  pub exactly_none : {p : ℕ} → NumberAt text before.place (Err p) → Passes (exactly m) text before (Err p)
  exactly_none h = passes_not (ap unkept (h.reads (λ n. eqb n m)))

  pub at_most_none : {p : ℕ} {table : List ℕ} → NumberAt text before.place (Err p) → Keeps 1 (at_most m) text before table (Err p) table
  at_most_none h = keeps_not (h.reads (λ n. leb n m))

  pub reset_none : {p : ℕ} {table : List ℕ} → NumberAt text before.place (Err p) → Keeps 1 (reset_word m) text before table (Err p) table
  reset_none h = keeps_not (ap (kept_as (as_reset m)) (h.reads (is_reset m)))

  module _ {n q : ℕ} (h : NumberAt text before.place (Ok (n, q))) where
    pub exactly_found : n ≡ m → Passes (exactly m) text before (Ok (record { place = q; filled = before.filled }))
    exactly_found e = passes_on (rw (h.reads (λ k. eqb k m), eq-eqb n m e))

    pub exactly_wrong : (n ≡ m → ⊥) → Passes (exactly m) text before (Err before.place)
    exactly_wrong e = passes_not (rw (h.reads (λ k. eqb k m), ne_eqb n m e))

    pub at_most_wrong : {table : List ℕ} → m < n → Keeps 1 (at_most m) text before table (Err before.place) table
    at_most_wrong e = keeps_not (rw (h.reads (λ k. leb k m), lt-leb n m e))

    pub at_most_found : {table table' : List ℕ} {after : Reached} → before.filled < length table → n ≤ m → KeptAs before n q table after table'
        → Keeps 1 (at_most m) text before table (Ok after) table'
    at_most_found room e kept = keeps_on room kept (rw (h.reads (λ k. leb k m), le-leb n m e))

    -- A reset is 0, 1 or the latch's own literal.
    pub reset_wrong : {table : List ℕ} → (n ≡ m → ⊥) → 1 < n → Keeps 1 (reset_word m) text before table (Err before.place) table
    reset_wrong e l =
        keeps_not (rw (h.reads (is_reset m), ne_eqb n m e, ne_eqb n 0 (λ z. omega arith), ne_eqb n 1 (λ z. omega arith)))

    pub reset_found : {table table' : List ℕ} {after : Reached} → before.filled < length table → (n ≡ m) ⊎ (n ≤ 1)
        → KeptAs before (as_reset m n) q table after table'
        → Keeps 1 (reset_word m) text before table (Ok after) table'
    reset_found room e kept =
        keeps_on room kept (rw (h.reads (is_reset m), ⊎_elim (is_reset_own m n) (is_reset_few m n) e))

-- What the exit of a `?` returns.
pub exit : {T E : Type 0} {r : Result T E} {e : E} → IsErrAnd r (λ y. y ≡ e) → r ≡ Err e
exit {r = r} h = let p = err_from_is_err_and r h in rw (← p.2) p.1

-- ════════ The end of a latch's line ════════

pub newline_kept : (own : ℕ) {text table table' : List ℕ} {before after : Reached} → before.filled < length table
    → begins_with newline_byte (drop before.place text) ≡ true
    → KeptAs before 0 (before.place + 1) table after table'
    → Keeps 1 (reset_due own) text before table (Ok after) table'
newline_kept own {text} {before = before} room e kept = keeps_on room kept (rw (e, mark_found text before.place newline_byte e))

-- A space, the reset and the newline, one after another.
pub reset_told : (own : ℕ) {n : ℕ} {text table table' : List ℕ} {before : Reached} {after : Result Reached ℕ}
    → begins_with newline_byte (drop before.place text) ≡ false
    → Keeps n (in_turn (space ∷ reset_word own ∷ newline ∷ [])) text before table after table'
    → Keeps n (reset_due own) text before table after table'
reset_told own b all = record { reads = rw b all.reads; filled_within = all.filled_within }

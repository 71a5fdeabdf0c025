-- What a circuit's text reads as, by how far its header and its lines were read, and the answer and the room by that. Assumes nothing.
use mathlib.Core.Path.{◌≡◌, refl, sym, ◌∙◌, ap}
use mathlib.Core.Bool.{true, false}
use mathlib.Core.List.{List, []}
use Prim.Native.Nat.{ℕ, ◌+◌, ◌*◌, ◌≤◌, ◌<◌}
use native.Mathlib.Omega.{arith}
use borrow.Author.Tests.{le-leb, lt-leb, eq-eqb, ne_eqb}
use lib.Dec.{leb, eqb}
use lib.ListN.{length, take, drop, length-take, take-append-drop}
use lib.Seq.{length-take-le, take-append_seam, get_or-take}
use Rattle.answers.specs.Lists.{written}
use Rattle.answers.specs.Limits.{longest_text, inputs_limit, latches_limit, outputs_limit, gates_limit}
use Rattle.text.specs.Readings.{found, fault, and_then, in_turn}
use Rattle.text.proofs.ReadingLaws.{ahead_none}
use Rattle.meaning.specs.Problem.{word}
use Rattle.aiger.specs.Circuits.{Sizes, words_in_all}
use Rattle.aiger.specs.Texts.{opening, lines_due, sizes_read, largest_variable, variable_place, in_order, ordered, after_opening, circuit_read}
use Rattle.aiger.specs.Calls.{read_answer, room_after_reading}
use Rattle.aiger.specs.Promise.{ReadAs}
use Rattle.aiger.specs.Reads.{Fitting, reached, FoundWords, numbers_kept}
use Rattle.aiger.specs.declared.NotDone.TheVariants.{BadText, RoomTooSmall}
use Rattle.aiger.specs.declared.due.Reached.{Reached}
use Rattle.std.specs.Prelude.{Result, Ok, Err, MatchResult}
use Rattle.std.specs.Result.{IsErrAnd}
use Rattle.aiger.specs.declared.NotDone.{NotDone}
use Rattle.aiger.proofs.KeptNumbers.{Opened, opening_kept, lines_kept, in_order_length}

-- ════════ What a text reads as ════════

module _ (text : List ℕ) where
  pub read_opening_fault : {p : ℕ} → in_turn opening 0 text ≡ fault p → circuit_read text ≡ fault p
  unfolding circuit_read
  read_opening_fault e = ap after_opening e

  module _ {ns : List ℕ} {p : ℕ} {t : List ℕ} (e : in_turn opening 0 text ≡ found ns p t) where
    -- M is another number.
    pub read_other_variable : (word ns 0 ≡ largest_variable (sizes_read ns) → ⊥) → circuit_read text ≡ fault variable_place
    unfolding circuit_read
    read_other_variable h =
        let other : eqb (word ns 0) (largest_variable (sizes_read ns)) ≡ false = ne_eqb _ _ h in
        ap after_opening e ∙ rw other

    pub read_after_opening : word ns 0 ≡ largest_variable (sizes_read ns)
        → circuit_read text ≡ ordered (sizes_read ns) (in_turn (lines_due (sizes_read ns)) p t)
    unfolding circuit_read
    read_after_opening h =
        let same : eqb (word ns 0) (largest_variable (sizes_read ns)) ≡ true = eq-eqb _ _ h in
        ap after_opening e ∙ rw same

-- ════════ The header in the table ════════

take_by_length : (n k : ℕ) (l : List ℕ) → length (take n l) ≡ k → take n l ≡ take k l
take_by_length n k l e =
    sym (take-append_seam (take n l) (drop n l)) ∙ ap (take (length (take n l))) (take-append-drop n l) ∙ rw e

-- The table's first words are the header's numbers.
module _ (table : List ℕ) (filled : ℕ) (o : Opened (take filled table)) where
  word_kept : (i : ℕ) → i < 5 → word (take filled table) i ≡ word table i
  word_kept i h =
      let five = o.five in
      let shorter = length-take filled table in
      get_or-take filled table i 0 (omega arith)

  pub sizes_kept : sizes_read (take filled table) ≡ sizes_read table
  sizes_kept = rw (word_kept 1 (omega arith), word_kept 2 (omega arith), word_kept 3 (omega arith), word_kept 4 (omega arith))

  pub fitting_kept : Fitting (sizes_read table)
  fitting_kept = record {
    inputs_within = rw (word_kept 1 (omega arith)) at o.inputs_within;
    latches_within = rw (word_kept 2 (omega arith)) at o.latches_within;
    gates_within = rw (word_kept 4 (omega arith)) at o.gates_within;
    outputs_within = rw (word_kept 3 (omega arith)) at o.outputs_within;
  }

-- The header was read into a table, up to a place.
pub record HeaderRead (text table : List ℕ) (place : ℕ) : Type 0 where
  pub fitting : Fitting (sizes_read table)
  pub other_variable : (word table 0 ≡ largest_variable (sizes_read table) → ⊥) → circuit_read text ≡ fault variable_place
  pub after_header : word table 0 ≡ largest_variable (sizes_read table)
      → circuit_read text ≡ ordered (sizes_read table) (in_turn (lines_due (sizes_read table)) place (drop place text))

pub header_read : (text table : List ℕ) (r : Reached) → reached text (Ok r) table ≡ in_turn opening 0 text → HeaderRead text table r.place
header_read text table r e =
    let is = sym e in
    let o = opening_kept 0 text is in
    let first = word_kept table r.filled o 0 (omega arith) in
    let sizes = sizes_kept table r.filled o in
    record {
      fitting = fitting_kept table r.filled o;
      other_variable = λ h. read_other_variable text is (λ q. h (sym first ∙ q ∙ ap largest_variable sizes));
      after_header = λ q.
          read_after_opening text is (first ∙ q ∙ ap largest_variable (sym sizes))
          ∙ ap (λ (s : Sizes). ordered s (in_turn (lines_due s) r.place (drop r.place text))) sizes;
    }

-- ════════ The lines in the table ════════

module _ (text : List ℕ) (s : Sizes) (p : ℕ) (t table : List ℕ) where
  lines_read : (r : Result Reached ℕ) → reached text r table ≡ and_then (found [] p t) (in_turn (lines_due s)) → in_turn (lines_due s) p t ≡ reached text r table
  lines_read r e = sym (e ∙ ahead_none (in_turn (lines_due s) p t))

  pub lines_fault : {q : ℕ} → reached text (Err q) table ≡ and_then (found [] p t) (in_turn (lines_due s)) → ordered s (in_turn (lines_due s) p t) ≡ fault q
  lines_fault {q} e = ap (ordered s) (lines_read (Err q) e)

  -- The table's first words are the numbers kept.
  pub lines_found : (r : Reached) → reached text (Ok r) table ≡ and_then (found [] p t) (in_turn (lines_due s))
      → ordered s (in_turn (lines_due s) p t) ≡ found (in_order s (take (numbers_kept s) table)) r.place (drop r.place text)
  lines_found r e =
      let is = lines_read (Ok r) e in
      let kept = take_by_length r.filled (numbers_kept s) table (lines_kept s p t is) in
      ap (ordered s) is ∙ ap (λ (ns : List ℕ). found (in_order s ns) r.place (drop r.place text)) kept

-- ════════ The judgement, where its fault becomes a refusal ════════

abbrev pub Judged : List ℕ → List ℕ → Result Sizes ℕ → Type 0
Judged text table r =
    MatchResult r (λ s. (numbers_kept s ≤ length table) × FoundWords (circuit_read text) (in_order s (take (numbers_kept s) table)))
    (λ p. circuit_read text ≡ fault p)

-- What `map_err` made of it.
abbrev pub Turned : Result Sizes ℕ → Result Sizes NotDone → Type 0
Turned r q = MatchResult r (λ s. q ≡ Ok s) (λ p. IsErrAnd q (λ f. f ≡ BadText p))

module _ (text table : List ℕ) where
  pub judged_good : (r : Result Sizes ℕ) {s : Sizes} → Judged text table r → Turned r (Ok s)
      → (numbers_kept s ≤ length table) × FoundWords (circuit_read text) (in_order s (take (numbers_kept s) table))
  judged_good (Ok s) {s = s'} j t = let e : s' ≡ s = cc in rw e j
  judged_good (Err p) j t = absurd t

  pub judged_wrong : (r : Result Sizes ℕ) {f : NotDone} → Judged text table r → Turned r (Err f) → (p : ℕ) × (circuit_read text ≡ fault p) × (f ≡ BadText p)
  judged_wrong (Ok s) j t = absurd cc
  judged_wrong (Err p) j t = (p, j, t)

-- How many words it is.
pub words_counted : (s : Sizes) (table : List ℕ) → numbers_kept s ≤ length table → words_in_all s ≡ length (in_order s (take (numbers_kept s) table))
words_counted s table h = sym (in_order_length s (take (numbers_kept s) table) (length-take-le (numbers_kept s) table h))

-- ════════ The table's length ════════

-- Room for the numbers of any circuit's lines, with two for each.
abbrev pub Table : ℕ → Type 0
Table n = 2 * (inputs_limit + latches_limit + outputs_limit + gates_limit) ≤ n

pub header_fits : (n : ℕ) → Table n → 5 ≤ n
unfolding inputs_limit latches_limit outputs_limit gates_limit
header_fits n h = omega arith

module _ (s : Sizes) (n : ℕ) (f : Fitting s) (h : Table n) where
  pub lines_fit : 2 * (s.inputs + s.latches + s.outputs + s.gates) ≤ n
  lines_fit = omega arith

  pub kept_fit : numbers_kept s ≤ n
  kept_fit = omega arith

-- ════════ The answer and the room ════════

module _ (text room : List ℕ) where
  pub answer_fault : {p : ℕ} → circuit_read text ≡ fault p → ReadAs text room (Err (BadText p)) room
  unfolding read_answer room_after_reading
  answer_fault e = record { answered = rw e; room_after = refl }

  module _ {ws : List ℕ} (w : FoundWords (circuit_read text) ws) where
    pub answer_long : longest_text < length text → ReadAs text room (Err (BadText longest_text)) room
    unfolding read_answer room_after_reading
    answer_long h =
        let long : leb (length text) longest_text ≡ false = lt-leb _ _ h in
        record { answered = rw (w.found_is, long); room_after = refl }

    module _ (fits : length text ≤ longest_text) where
      short : leb (length text) longest_text ≡ true
      short = le-leb _ _ fits

      pub answer_room : {n : ℕ} → n ≡ length ws → length room < n → ReadAs text room (Err (RoomTooSmall n)) room
      unfolding read_answer room_after_reading
      answer_room {n} e h =
          let small : leb (length ws) (length room) ≡ false = lt-leb (length ws) (length room) (omega arith) in
          record { answered = rw (w.found_is, short, small, e); room_after = refl }

      pub answer_done : {n : ℕ} {after : List ℕ} → n ≡ length ws → n ≤ length room → after ≡ written ws room → ReadAs text room (Ok n) after
      unfolding read_answer room_after_reading
      answer_done {n} {after} e h a =
          let large : leb (length ws) (length room) ≡ true = le-leb (length ws) (length room) (omega arith) in
          record { answered = rw (w.found_is, short, large, e); room_after = rw w.found_is a }

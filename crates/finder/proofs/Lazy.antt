-- Finders that are lazy or wrong do not meet the promise, whatever the words are; LazyAnswers, LazyRuns and LazyConstraints have inputs where it shows.
-- Assumes nothing.
use Rattle.std.proofs.Common.{Result, Ok, Err}
use mathlib.Core.Path.{◌≡◌, refl, ap}
use mathlib.Core.Bool.{Bool, true, false, cond}
use mathlib.Core.List.{List, [], ◌∷◌}
use Prim.Native.Nat.{ℕ, zero, suc, ◌+◌, ◌*◌, ◌≤◌, ◌<◌}
use native.Mathlib.Nat.{mul-add, mul-one}
use native.Mathlib.Omega.{arith}
use borrow.Author.Tests.{leb-true, leb-false, ne_eqb}
use lib.Dec.{leb}
use lib.ListN.{length, get_or, take, drop}
use lib.Seq.{take_at, drop_at}
use Rattle.answers.specs.Lists.{those, written}
use Rattle.clauses.specs.Clauses.{Assignment}
use Rattle.answers.proofs.Tests.{those_few, not_both}
use Rattle.answers.specs.Limits.{search_limit}
use Rattle.meaning.specs.Problem as problems
use Rattle.meaning.specs.Runs.{meets_constraints}
use Rattle.meaning.specs.Witnesses.{witness_length, at_or_before, position, Witness}
use Rattle.finder.specs.Calls.{is_free, open_bytes, room_after_finding}
use Rattle.meaning.specs.Calls.{WellFormed, witnesses}
use Rattle.meaning.proofs.Check.{proper_if_well_formed}
use Rattle.pairing.specs.Pairs.{Model}
use Rattle.pairing.proofs.FirstWitness.{first_witness, none_if_empty, empty_if_none, empty_is_unsatisfiable}
use Rattle.problem.specs.declared.Refusal.{Refusal}
use Rattle.problem.proofs.Unique.{refusal_not_yes}
use Rattle.finder.specs.declared.NotFound.{NotFound}
use Rattle.finder.specs.declared.NotFound.TheVariants.{Problem, TooMuchOpen, RoomTooSmall, NoneExists}
use Rattle.finder.specs.Promise.{FoundAs, Searched}
use Rattle.finder.proofs.Unique.{found_unique}
use Rattle.finder.proofs.Means.{too_much_open_if, room_too_small_if, found_first, none_unsatisfiable, none_excludes, found_if_any}

-- ════════ What it is to break the promise ════════

pub record Input : Type 0 where
  pub version : ℕ
  pub words : List ℕ
  pub room : List ℕ

abbrev pub Meets : Input → Result ℕ NotFound → List ℕ → Type 0
Meets x = FoundAs x.version x.words x.room

-- This answer, with this room after it, does not meet the promise for the input.
abbrev pub Breaks : Input → Result ℕ NotFound → List ℕ → Type 0
Breaks x r after = ¬ (Meets x r after)

-- Of an answer and a room that meet the promise each is the only one.
module _ {x : Input} {r s : Result ℕ NotFound} {right after : List ℕ} (m : Meets x r right) where
  pub other_answer_breaks : ¬ (s ≡ r) → Breaks x s after
  other_answer_breaks h j = h (found_unique j m).0

  pub other_room_breaks : ¬ (after ≡ right) → Breaks x s after
  other_room_breaks h j = h (found_unique j m).1

  -- So is each byte of the room.
  pub other_byte_breaks : (i : ℕ) → ¬ (get_or after i 0 ≡ get_or right i 0) → Breaks x s after
  other_byte_breaks i h = other_room_breaks (λ e. h (ap (λ bs. get_or bs i 0) e))

-- ════════ What the words say ════════

abbrev pub in_words : Input → problems.Problem
in_words x = problems.problem x.version x.words

-- 15 and 1 to 5 pass.
abbrev pub Formed : Input → Type 0
Formed x = WellFormed x.version x.words

-- 17 and 18 pass.
abbrev pub Reached : Input → Type 0
Reached x = Searched (in_words x) (length x.room)

-- How many resets there are, fixed ones too, plus I(k+1).
abbrev pub with_fixed : problems.Problem → ℕ
with_fixed p = length p.latches + p.inputs * (p.bound + 1)

one_fails : {A : Type 0} (f : A → Bool) (xs : List A) (d : A) (i : ℕ) → i < length xs → f (get_or xs i d) ≡ false → length (those f xs) < length xs
one_fails f [] d i l e = omega arith
one_fails f (y ∷ xs) d zero l e = rw e (omega (arith, those_few f xs))
one_fails {A} f (y ∷ xs) d (suc i) l e = go (f y) (one_fails f xs d i (omega arith) e)
  where
    go : (b : Bool) → length (those f xs) < length xs → length (cond b (y ∷ those f xs) (those f xs)) < length (y ∷ xs)
    go true h = omega arith
    go false h = omega arith

fewer_open : (p : problems.Problem) (i : ℕ) → i < length p.latches → (problems.latch p i).reset < 2 → open_bytes p < with_fixed p
fewer_open p i l fixed =
    omega (arith, one_fails is_free p.latches _ i l (ne_eqb (problems.latch p i).reset 2 (omega arith)))

-- The open bytes, and the bytes of a witness, by k positions instead of k + 1.
abbrev pub open_by_k : problems.Problem → ℕ
open_by_k p = length (those is_free p.latches) + p.inputs * p.bound

abbrev pub length_by_k : problems.Problem → ℕ
length_by_k p = 1 + length p.latches + p.inputs * p.bound

more_positions : (p : problems.Problem) → p.inputs * (p.bound + 1) ≡ p.inputs * p.bound + p.inputs
more_positions p = rw (mul-add, mul-one)

-- ════════ For all words ════════

module _ (x : Input) (after : List ℕ) where
  abbrev p : problems.Problem
  p = in_words x

  -- Anything but 0 with the length, although a witness exists.
  pub other_than_found_breaks : Formed x → Reached x → (bs : List ℕ) → Witness p bs → (r : Result ℕ NotFound) → ¬ (r ≡ Ok (witness_length p)) → Breaks x r after
  other_than_found_breaks formed reached bs w r h j = h (found_if_any x.version x.words x.room j formed reached bs w)

  -- None, although a witness exists.
  pub none_although_one_exists_breaks : Formed x → Reached x → (bs : List ℕ) → Witness p bs → Breaks x (Err NoneExists) after
  none_although_one_exists_breaks formed reached bs w =
      other_than_found_breaks formed reached bs w (Err NoneExists) (λ e. let z : ◌≡◌ {A = ℕ} 0 1 = cc in omega arith)

  -- None, although the CNF can be satisfied.
  pub none_although_satisfiable_breaks : Formed x → Reached x → (a : Assignment) → Model p a → Breaks x (Err NoneExists) after
  none_although_satisfiable_breaks formed reached a m j =
      (none_unsatisfiable x.version x.words x.room j formed reached).0 refl (a, m)

  -- Found, although none exists.
  pub found_although_none_breaks : ((bs : List ℕ) → ¬ (Witness p bs)) → (n : ℕ) → Breaks x (Ok n) after
  found_although_none_breaks none n j =
      let found = (found_first x.version x.words x.room j refl).3 in
      none found.0 found.2

  -- Anything but none, although none exists.
  pub other_than_none_breaks : Formed x → Reached x → ((bs : List ℕ) → ¬ (Witness p bs)) → (r : Result ℕ NotFound) → ¬ (r ≡ (Err NoneExists)) → Breaks x r after
  other_than_none_breaks formed reached none r h j =
      let unsatisfiable = (empty_is_unsatisfiable p (proper_if_well_formed x.version x.words formed)).0 (empty_if_none p none) in
      h ((none_unsatisfiable x.version x.words x.room j formed reached).1 unsatisfiable)

  -- 17 although at most 16 bytes are open, as where fixed resets are counted.
  pub few_open_refused_breaks : open_bytes p ≤ search_limit → (n : ℕ) → Breaks x (Err (TooMuchOpen n)) after
  few_open_refused_breaks few n j = omega (arith, ((too_much_open_if x.version x.words x.room j n).0 refl).1)

  -- 17 with another sum.
  pub made_up_sum_breaks : (n : ℕ) → ¬ (n ≡ open_bytes p) → Breaks x (Err (TooMuchOpen n)) after
  made_up_sum_breaks n h j = h ((too_much_open_if x.version x.words x.room j n).0 refl).2

  -- 17 with the fixed resets in the sum.
  pub fixed_resets_counted_breaks : (i : ℕ) → i < length p.latches → (problems.latch p i).reset < 2 → Breaks x (Err (TooMuchOpen (with_fixed p))) after
  fixed_resets_counted_breaks i l fixed = made_up_sum_breaks _ (λ e. omega (arith, fewer_open p i l fixed))

  -- 17 with the inputs of k positions in the sum.
  pub sum_by_k_breaks : 0 < p.inputs → Breaks x (Err (TooMuchOpen (open_by_k p))) after
  sum_by_k_breaks some = made_up_sum_breaks _ (λ e. omega (arith, more_positions p))

  -- Anything but 17 with the sum, although more than 16 are open.
  pub much_open_accepted_breaks : Formed x → search_limit < open_bytes p → (r : Result ℕ NotFound) → ¬ (r ≡ Err (TooMuchOpen (open_bytes p))) → Breaks x r after
  much_open_accepted_breaks formed much r h j = h ((too_much_open_if x.version x.words x.room j _).1 (formed, much, refl))

  -- 18 before 17.
  pub room_before_open_breaks : search_limit < open_bytes p → (n : ℕ) → Breaks x (Err (RoomTooSmall n)) after
  room_before_open_breaks much n j = omega (arith, ((room_too_small_if x.version x.words x.room j n).0 refl).1)

  -- 18 although the room is large enough.
  pub large_room_refused_breaks : witness_length p ≤ length x.room → (n : ℕ) → Breaks x (Err (RoomTooSmall n)) after
  large_room_refused_breaks fits n j = omega (arith, ((room_too_small_if x.version x.words x.room j n).0 refl).2)

  -- 18 with another number of bytes.
  pub made_up_need_breaks : (n : ℕ) → ¬ (n ≡ witness_length p) → Breaks x (Err (RoomTooSmall n)) after
  made_up_need_breaks n h j = h ((room_too_small_if x.version x.words x.room j n).0 refl).3

  -- 18 with the bytes of k positions.
  pub need_by_k_breaks : 0 < p.inputs → Breaks x (Err (RoomTooSmall (length_by_k p))) after
  need_by_k_breaks some = made_up_need_breaks _ (λ e. omega (arith, more_positions p))

  -- Anything but 18 with the bytes needed, although the room is too small.
  pub small_room_accepted_breaks : Formed x → open_bytes p ≤ search_limit → length x.room < witness_length p → (r : Result ℕ NotFound)
      → ¬ (r ≡ Err (RoomTooSmall (witness_length p))) → Breaks x r after
  small_room_accepted_breaks formed few small r h j = h ((room_too_small_if x.version x.words x.room j _).1 (formed, few, small, refl))

  -- 0 with another length.
  pub made_up_length_breaks : (n : ℕ) → ¬ (n ≡ witness_length p) → Breaks x (Ok n) after
  made_up_length_breaks n h j = h (found_first x.version x.words x.room j refl).2

  -- 0 with the length left out.
  pub length_left_out_breaks : Breaks x (Ok 0) after
  length_left_out_breaks = made_up_length_breaks 0 (λ e. omega arith)

  -- 0 with the length of k positions.
  pub length_by_k_breaks : 0 < p.inputs → Breaks x (Ok (length_by_k p)) after
  length_by_k_breaks some = made_up_length_breaks _ (λ e. omega (arith, more_positions p))

  -- A refusal of the problem, although 15 and 1 to 5 pass.
  pub well_formed_refused_breaks : Formed x → (f : Refusal) → Breaks x (Err (Problem f)) after
  well_formed_refused_breaks formed f j = go (leb (open_bytes p) search_limit) (leb (witness_length p) (length x.room)) (witnesses p) refl refl refl
    where
      go : (a b : Bool) (bss : List (List ℕ)) → leb (open_bytes p) search_limit ≡ a → leb (witness_length p) (length x.room) ≡ b → witnesses p ≡ bss → ⊥
      go false b bss few fits e =
          much_open_accepted_breaks formed (leb-false _ _ few) (Err (Problem f)) (λ q. let z : ◌≡◌ {A = ℕ} 0 1 = cc in omega arith) j
      go true false bss few fits e =
          small_room_accepted_breaks formed (leb-true _ _ few) (leb-false _ _ fits) (Err (Problem f)) (λ q. let z : ◌≡◌ {A = ℕ} 0 1 = cc in omega arith) j
      go true true [] few fits e =
          other_than_none_breaks formed (record { few_open = leb-true _ _ few; fits = leb-true _ _ fits }) (none_if_empty p e) (Err (Problem f))
          (λ q. let z : ◌≡◌ {A = ℕ} 0 1 = cc in omega arith) j
      go true true (bs ∷ rest) few fits e =
          other_than_found_breaks formed (record { few_open = leb-true _ _ few; fits = leb-true _ _ fits }) bs (first_witness p e).0 (Err (Problem f))
          (λ q. let z : ◌≡◌ {A = ℕ} 0 1 = cc in omega arith) j

  -- Anything but such a refusal, although one of them does not pass.
  pub check_left_out_breaks : ¬ (Formed x) → (r : Result ℕ NotFound) → ((f : Refusal) → ¬ (r ≡ Err (Problem f))) → Breaks x r after
  check_left_out_breaks n (Ok k) h j = n (found_first x.version x.words x.room j refl).0
  check_left_out_breaks n (Err (Problem f)) h j = h f refl
  check_left_out_breaks n (Err (TooMuchOpen k)) h j = n ((too_much_open_if x.version x.words x.room j k).0 refl).0
  check_left_out_breaks n (Err (RoomTooSmall k)) h j = n ((room_too_small_if x.version x.words x.room j k).0 refl).0
  check_left_out_breaks n (Err NoneExists) h j = n (none_excludes x.version x.words x.room j refl).0

  -- ════════ The room at 0 ════════

  -- What stands in it: the first witness, and then what stood there before.
  room_at_0 : {n : ℕ} → Meets x (Ok n) after
      → Witness p (take (witness_length p) after)
      × ((cs : List ℕ) → Witness p cs → at_or_before (take (witness_length p) after) cs ≡ true)
      × (drop (witness_length p) after ≡ drop (witness_length p) x.room)
  room_at_0 j =
      let found = (found_first x.version x.words x.room j refl).3 in
      let long = found.2.length_right in
      let past = drop (length found.0) x.room in
      rw (found.1, take_at found.0 past (witness_length p) long, drop_at found.0 past (witness_length p) long, long) (found.2, found.3, refl)

  -- No witness stands there, as where it was not written.
  pub no_witness_written_breaks : ¬ (Witness p (take (witness_length p) after)) → (n : ℕ) → Breaks x (Ok n) after
  no_witness_written_breaks h n j = h (room_at_0 j).0

  -- One stands there that breaks a constraint at a position, be it the first, the last or another.
  pub broken_constraint_written_breaks : (t : ℕ) → t ≤ p.bound → meets_constraints p (position p (take (witness_length p) after) t) ≡ false → (n : ℕ)
      → Breaks x (Ok n) after
  broken_constraint_written_breaks t l broken n j = not_both ((room_at_0 j).0.constraints_met t l) broken

  -- One stands there before which another comes: the last one, or the first by another order.
  pub later_witness_breaks : (cs : List ℕ) → Witness p cs → at_or_before (take (witness_length p) after) cs ≡ false → (n : ℕ) → Breaks x (Ok n) after
  later_witness_breaks cs w later n j = not_both ((room_at_0 j).1 cs w) later

  -- Anything but the first of the list and then what stood there.
  pub other_than_the_first_breaks : (cs : List ℕ) (rest : List (List ℕ)) → witnesses p ≡ cs ∷ rest → ¬ (after ≡ written cs x.room) → (n : ℕ)
      → Breaks x (Ok n) after
  unfolding room_after_finding
  other_than_the_first_breaks cs rest e h n j = h (rw e at j.room_after)

  -- What stands past the witness is changed.
  pub changed_past_the_witness_breaks : ¬ (drop (witness_length p) after ≡ drop (witness_length p) x.room) → (n : ℕ) → Breaks x (Ok n) after
  changed_past_the_witness_breaks h n j = h (room_at_0 j).2

-- ════════ The room where nothing is found ════════

-- It is changed: at 29, 17, 18 or a refusal of the problem.
pub changed_room_breaks : (x : Input) (r : Result ℕ NotFound) → ((n : ℕ) → ¬ (r ≡ Ok n)) → (after : List ℕ) → ¬ (after ≡ x.room) → Breaks x r after
unfolding room_after_finding
changed_room_breaks x (Ok n) h after changed j = h n refl
changed_room_breaks x (Err (Problem f)) h after changed j = changed (rw (ne_eqb _ 0 (refusal_not_yes f)) at j.room_after)
changed_room_breaks x (Err (TooMuchOpen n)) h after changed j = changed j.room_after
changed_room_breaks x (Err (RoomTooSmall n)) h after changed j = changed j.room_after
changed_room_breaks x (Err NoneExists) h after changed j = changed j.room_after

-- What the finder's answers mean: when each comes, and what a witness found or none says. Assumes nothing.
use Rattle.std.proofs.Common.{Result, Ok, Err}
use mathlib.Core.Path.{◌≡◌, refl, sym, ◌∙◌, ap}
use mathlib.Core.Bool.{Bool, true, false, cond}
use mathlib.Core.List.{List, [], ◌∷◌}
use mathlib.Core.Logic.{◌↔◌, ◌⊎◌, inl, inr}
use Prim.Native.Nat.{ℕ, ◌≤◌, ◌<◌}
use native.Mathlib.Omega.{arith}
use borrow.Author.Tests.{leb-true, leb-false, le-leb, lt-leb}
use lib.Dec.{leb, lit<}
use lib.ListN.{length}
use Rattle.answers.specs.Lists.{written}
use Rattle.clauses.specs.Clauses.{Assignment}
use Rattle.answers.specs.Answers.{Answer, first_failing, granted}
use Rattle.answers.proofs.Answers.{number_of, place_of}
use Rattle.answers.specs.Limits.{search_limit}
use Rattle.finder.specs.Calls.{too_much_open, witness_room_too_small, none_exists, open_bytes, finding_checks, first_found, room_after_finding}
use Rattle.meaning.specs.Problem.{Problem, problem}
use Rattle.meaning.specs.Witnesses.{witness_length, at_or_before, Witness}
use Rattle.meaning.specs.Calls.{WellFormed, witnesses}
use Rattle.meaning.proofs.Check.{problem_checked, checked_if_well_formed, well_formed_if_checked, well_formed_if_over, proper_if_well_formed}
use Rattle.finder.proofs.FindingOrder.{find_witness_is}
use Rattle.pairing.specs.Excluded.{Excluded}
use Rattle.pairing.specs.Pairs.{Model}
use Rattle.pairing.proofs.FirstWitness.{first_witness, none_if_empty, empty_is_unsatisfiable, empty_excludes}
use Rattle.finder.specs.declared.NotFound.{NotFound}
use Rattle.finder.specs.declared.NotFound.TheVariants.{TooMuchOpen, RoomTooSmall, NoneExists}
use Rattle.finder.specs.Promise.{answer_of, FoundAs, Searched}
use Rattle.finder.proofs.Unique.{same_outcome}

-- ════════ 17, 18, and what the list of witnesses says ════════

one_check : {x : Answer} (b : Bool) (after refusal : Answer) → cond b after refusal ≡ x → ((b ≡ true) × (after ≡ x)) ⊎ ((b ≡ false) × (refusal ≡ x))
one_check true after refusal e = inl (refl, e)
one_check false after refusal e = inr (refl, e)

module _ (p : Problem) (room : ℕ) (after : Answer) where
  searched_then : Searched p room → first_failing (finding_checks p room) after ≡ after
  searched_then s = rw (le-leb (open_bytes p) search_limit s.few_open, le-leb (witness_length p) room s.fits)

  -- An answer that is neither 17 nor 18 comes from a search.
  searched_if : {x : Answer} → first_failing (finding_checks p room) after ≡ x → (x.number ≡ 17 → ⊥) → (x.number ≡ 18 → ⊥) → Searched p room
  searched_if e n m = elim (one_check (leb (open_bytes p) search_limit) _ _ e) [
    | inl a ↦ elim (one_check (leb (witness_length p) room) _ _ a.1) [
      | inl b ↦ record { few_open = leb-true _ _ a.0; fits = leb-true _ _ b.0 }
      | inr b ↦ absurd (m (number_of (sym b.1)))
    ]
    | inr a ↦ absurd (n (number_of (sym a.1)))
  ]

abbrev Listed : Problem → ℕ → Type 0
Listed p n = (bs : List ℕ) × (rest : List (List ℕ)) × (witnesses p ≡ bs ∷ rest) × (n ≡ length bs)

-- Of the list of witnesses: it has a first, or it is empty.
first_if_found : (p : Problem) {n : ℕ} → first_found (witnesses p) ≡ granted n → Listed p n
first_if_found p {n} e = go (witnesses p) refl e
  where
    go : (xs : List (List ℕ)) → witnesses p ≡ xs → first_found xs ≡ granted n → Listed p n
    go [] q f = absurd (omega (arith, number_of f))
    go (bs ∷ rest) q f = (bs, rest, q, sym (place_of f))

none_if_none : (p : Problem) → first_found (witnesses p) ≡ none_exists 0 → witnesses p ≡ []
none_if_none p e = go (witnesses p) e
  where
    go : (xs : List (List ℕ)) → first_found xs ≡ none_exists 0 → xs ≡ []
    go [] f = refl
    go (bs ∷ rest) f = absurd (omega (arith, number_of f))

-- It is neither 17 nor 18.
found_number : (xs : List (List ℕ)) → ((first_found xs).number ≡ 0) ⊎ ((first_found xs).number ≡ 29)
found_number [] = inr refl
found_number (bs ∷ rest) = inl refl

found_not : (xs : List (List ℕ)) (k : ℕ) → 0 < k → k < 29 → (first_found xs).number ≡ k → ⊥
found_not xs k some below e = elim (found_number xs) [
  | inl q ↦ omega arith
  | inr q ↦ omega arith
]

-- The room where one was found.
room_found : (version : ℕ) (ws room : List ℕ) (a : Answer) {bs : List ℕ} {rest : List (List ℕ)} → a.number ≡ 0 → witnesses (problem version ws) ≡ bs ∷ rest
    → room_after_finding a version ws room ≡ written bs room
unfolding room_after_finding
room_found version ws room a zero listed = rw (zero, listed)

-- ════════ The call ════════

module _ (version : ℕ) (ws room : List ℕ) {r : Result ℕ NotFound} {after : List ℕ} (call : FoundAs version ws room r after) where
  abbrev p : Problem
  p = problem version ws

  abbrev search_answer : Answer
  search_answer = first_failing (finding_checks p (length room)) (first_found (witnesses p))

  checked : answer_of r ≡ problem_checked version ws search_answer
  checked = call.answered ∙ find_witness_is version ws (length room)

  answered : WellFormed version ws → answer_of r ≡ search_answer
  answered formed = checked ∙ checked_if_well_formed version ws search_answer formed

  formed_if_over : (k : ℕ) → 15 < k → (answer_of r).number ≡ k → WellFormed version ws
  formed_if_over k over e = well_formed_if_over version ws search_answer k over (number_of (sym checked) ∙ e)

  -- 17 exactly where more than 16 bytes are open, 18 where the room is too small then.
  pub too_much_open_if : (n : ℕ) → (r ≡ Err (TooMuchOpen n)) ↔ (WellFormed version ws × (search_limit < open_bytes p) × (n ≡ open_bytes p))
  too_much_open_if n = (λ e. there (ap answer_of e), λ h. same_outcome (answered h.0 ∙ rw (lt-leb (open_bytes p) search_limit h.1, h.2)))
    where
      there : answer_of r ≡ too_much_open n → WellFormed version ws × (search_limit < open_bytes p) × (n ≡ open_bytes p)
      there e =
          let formed = formed_if_over 17 (lit< tt) (number_of e) in
          elim (one_check (leb (open_bytes p) search_limit) _ _ (sym (answered formed) ∙ e)) [
            | inl a ↦ elim (one_check (leb (witness_length p) (length room)) _ _ a.1) [
              | inl b ↦ absurd (found_not (witnesses p) 17 (lit< tt) (lit< tt) (number_of b.1))
              | inr b ↦ absurd (omega (arith, number_of b.1))
            ]
            | inr a ↦ (formed, leb-false _ _ a.0, sym (place_of a.1))
          ]

  pub room_too_small_if : (n : ℕ) → (r ≡ Err (RoomTooSmall n))
      ↔ (WellFormed version ws × (open_bytes p ≤ search_limit) × (length room < witness_length p) × (n ≡ witness_length p))
  room_too_small_if n = (
    λ e. there (ap answer_of e),
    λ h. same_outcome (answered h.0 ∙ rw (le-leb (open_bytes p) search_limit h.1, lt-leb (witness_length p) (length room) h.2, h.3)),
  )
    where
      there : answer_of r ≡ witness_room_too_small n
          → WellFormed version ws × (open_bytes p ≤ search_limit) × (length room < witness_length p) × (n ≡ witness_length p)
      there e =
          let formed = formed_if_over 18 (lit< tt) (number_of e) in
          elim (one_check (leb (open_bytes p) search_limit) _ _ (sym (answered formed) ∙ e)) [
            | inl a ↦ elim (one_check (leb (witness_length p) (length room)) _ _ a.1) [
              | inl b ↦ absurd (found_not (witnesses p) 18 (lit< tt) (lit< tt) (number_of b.1))
              | inr b ↦ (formed, leb-true _ _ a.0, leb-false _ _ b.0, sym (place_of b.1))
            ]
            | inr a ↦ absurd (omega (arith, number_of a.1))
          ]

  -- The witness found is a witness, and each witness is at or after it.
  pub found_first : {n : ℕ} → r ≡ Ok n
      → WellFormed version ws × Searched p (length room) × (n ≡ witness_length p)
      × ((bs : List ℕ) × (after ≡ written bs room) × Witness p bs × ((cs : List ℕ) → Witness p cs → at_or_before bs cs ≡ true))
  found_first {n} e =
      let formed = well_formed_if_checked version ws search_answer (number_of (sym checked ∙ ap answer_of e)) in
      let search : search_answer ≡ granted n = sym (answered formed) ∙ ap answer_of e in
      let searched = searched_if p (length room) _ search (λ q. omega arith) (λ q. omega arith) in
      let listed = first_if_found p (sym (searched_then p (length room) _ searched) ∙ search) in
      let first = first_witness p listed.2 in (
        formed,
        searched,
        listed.3 ∙ first.0.length_right,
        (listed.0, call.room_after ∙ room_found version ws room (answer_of r) (number_of (ap answer_of e)) listed.2, first.0, first.1),
      )

  -- None exactly where the CNF cannot be satisfied, given that the search comes to be.
  pub none_unsatisfiable : WellFormed version ws → Searched p (length room) → (r ≡ (Err NoneExists)) ↔ (((a : Assignment) × Model p a) → ⊥)
  none_unsatisfiable formed searched =
      let unsatisfiable = empty_is_unsatisfiable p (proper_if_well_formed version ws formed) in
      let search : answer_of r ≡ first_found (witnesses p) = answered formed ∙ searched_then p (length room) _ searched in (
        λ e. unsatisfiable.0 (none_if_none p (sym search ∙ ap answer_of e)),
        λ none. same_outcome (search ∙ rw (unsatisfiable.1 none)),
      )

  -- And then there is no lasso at any bound from 0 to k and no prefix at k, and without constraints no witness at any of these bounds.
  pub none_excludes : r ≡ (Err NoneExists) → WellFormed version ws × Searched p (length room) × Excluded p
  none_excludes e =
      let formed = formed_if_over 29 (lit< tt) (number_of (ap answer_of e)) in
      let search : search_answer ≡ none_exists 0 = sym (answered formed) ∙ ap answer_of e in
      let searched = searched_if p (length room) _ search (λ q. omega arith) (λ q. omega arith) in (
        formed,
        searched,
        empty_excludes p (proper_if_well_formed version ws formed) (none_if_none p (sym (searched_then p (length room) _ searched) ∙ search)),
      )

  -- Where a witness exists, one is found.
  pub found_if_any : WellFormed version ws → Searched p (length room) → (bs : List ℕ) → Witness p bs → r ≡ Ok (witness_length p)
  found_if_any formed searched bs w = go (witnesses p) refl
    where
      go : (xs : List (List ℕ)) → witnesses p ≡ xs → r ≡ Ok (witness_length p)
      go [] q = absurd (none_if_empty p q bs w)
      go (cs ∷ rest) q =
          same_outcome (answered formed ∙ searched_then p (length room) _ searched ∙ rw (q, ← (first_witness p q).0.length_right))

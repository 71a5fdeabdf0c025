-- Clauses by the places where they begin. Assumes nothing.
use mathlib.Core.Path.{◌≡◌, refl, sym, ◌∙◌, ap}
use mathlib.Core.Bool.{Bool, true, false, cond, false≢true}
use mathlib.Core.List.{List, [], ◌∷◌, ◌++◌}
use Prim.Native.Nat.{ℕ, zero, suc, ◌+◌, ◌-◌, ◌<◌, ◌≤◌}
use native.Mathlib.Omega.{arith}
use borrow.Author.Count.{below_more}
use borrow.Author.Tests.{ltb-false}
use lib.Dec.{ltb}
use lib.IntN.{ℤ, pos, negsuc}
use lib.ListN.{length, get_or, take, drop, set, length-set, length-drop, length-append, get_or-append}
use lib.Seq.{take_all, drop-drop, drop-nil, get_or-set_same, get_or-set_other, get_or-append_seam, get_or-append-add}
use Rattle.std.specs.Prelude.{Some, None}
use Rattle.std.specs.List.{position, position_or_len}
use Rattle.clauses.specs.Clauses.{Clause}
use Rattle.clauses.specs.CnfWords.{clauses_of, in_front, is_0, ended, ended_after}
use Rattle.refutation.specs.Work.{up_to_0, clause_from, Places}

-- ════════ Clauses one by one ════════

-- Of words with a 0 among them: the first clause, and those of the words past its 0.
first_clause : (ws : List ℤ) → length (up_to_0 ws) < length ws
    → clauses_of ws ≡ up_to_0 ws ∷ clauses_of (drop (suc (length (up_to_0 ws))) ws)
first_clause [] h = absurd (omega arith)
first_clause (pos zero ∷ ws) h = refl
first_clause (pos (suc n) ∷ ws) h = ap (in_front (pos (suc n))) (first_clause ws (omega arith))
first_clause (negsuc n ∷ ws) h = ap (in_front (negsuc n)) (first_clause ws (omega arith))

-- The same at a place: a 0 stands after it where the clause that begins there ends before the words do.
pub next_clause : (ws : List ℤ) (i : ℕ) → i + length (clause_from ws i) < length ws
    → clauses_of (drop i ws) ≡ clause_from ws i ∷ clauses_of (drop (suc (i + length (clause_from ws i))) ws)
next_clause ws i h =
    let past : suc (i + length (clause_from ws i)) ≡ i + suc (length (clause_from ws i)) = omega arith in
    rw (past, ← drop-drop (suc (length (clause_from ws i))) i ws) (first_clause (drop i ws) (rw length-drop (omega arith)))

ends_in_0 : (ws : List ℤ) (w : ℤ) → ended_after w ws ≡ true → length (up_to_0 (w ∷ ws)) < length (w ∷ ws)
ends_in_0 [] (pos zero) e = omega arith
ends_in_0 [] (pos (suc n)) e = absurd (false≢true e)
ends_in_0 [] (negsuc n) e = absurd (false≢true e)
ends_in_0 (v ∷ vs) (pos zero) e = omega arith
ends_in_0 (v ∷ vs) (pos (suc n)) e = omega (arith, ends_in_0 vs v e)
ends_in_0 (v ∷ vs) (negsuc n) e = omega (arith, ends_in_0 vs v e)

has_0 : (ws : List ℤ) → ended ws ≡ true → 0 < length ws → length (up_to_0 ws) < length ws
has_0 [] e h = absurd (omega arith)
has_0 (w ∷ ws) e h = ends_in_0 ws w e

ended_drop : (i : ℕ) (ws : List ℤ) → ended ws ≡ true → ended (drop i ws) ≡ true
ended_drop zero ws e = e
ended_drop (suc i) [] e = refl
ended_drop (suc i) (w ∷ []) e = ap ended (drop-nil i)
ended_drop (suc i) (w ∷ v ∷ vs) e = ended_drop i (v ∷ vs) e

-- In words that are not cut short a 0 stands after each place.
pub ended_inside : (ws : List ℤ) (i : ℕ) → ended ws ≡ true → i < length ws → i + length (clause_from ws i) < length ws
ended_inside ws i e h =
    omega (arith, has_0 (drop i ws) (ended_drop i ws e) (rw length-drop (omega arith)), length-drop i ws)

one_more : (ws : List ℤ) → 1 + position_or_len is_0 ws ≡ suc (position_or_len is_0 ws)
one_more ws = omega arith

-- The first 0 ends the first clause; without one all words are its.
up_to_first_0 : (ws : List ℤ) → up_to_0 ws ≡ take (position_or_len is_0 ws) ws
up_to_first_0 [] = refl
up_to_first_0 (pos zero ∷ ws) = refl
up_to_first_0 (pos (suc n) ∷ ws) = rw (one_more ws) (ap (λ (c : Clause). pos (suc n) ∷ c) (up_to_first_0 ws))
up_to_first_0 (negsuc n ∷ ws) = rw (one_more ws) (ap (λ (c : Clause). negsuc n ∷ c) (up_to_first_0 ws))

to_first_0 : (ws : List ℤ) (n : ℕ) → position is_0 ws ≡ Some n → take n ws ≡ up_to_0 ws
to_first_0 ws n e = go (ltb (position_or_len is_0 ws) (length ws)) e
  where
    go : (b : Bool) → cond b (Some (position_or_len is_0 ws)) None ≡ Some n → take n ws ≡ up_to_0 ws
    go true e = let q : position_or_len is_0 ws ≡ n = cc in rw (← q) (sym (up_to_first_0 ws))
    go false e = cc

to_the_end : (ws : List ℤ) → position is_0 ws ≡ None → ws ≡ up_to_0 ws
to_the_end ws e = go (ltb (position_or_len is_0 ws) (length ws)) refl e
  where
    go : (b : Bool) → ltb (position_or_len is_0 ws) (length ws) ≡ b → cond b (Some (position_or_len is_0 ws)) None ≡ None → ws ≡ up_to_0 ws
    go true h e = cc
    go false h e = sym (up_to_first_0 ws ∙ take_all (position_or_len is_0 ws) ws (ltb-false _ _ h))

-- The clause that begins at a place, from the part of the words that begins there.
module _ (ws : List ℤ) (i : ℕ) (h : i ≤ length ws) where
  part_is : take (length ws - i) (drop i ws) ≡ drop i ws
  part_is = take_all (length ws - i) (drop i ws) (omega (arith, length-drop i ws))

  pub clause_to_0 : {n : ℕ} → position is_0 (take (length ws - i) (drop i ws)) ≡ Some n → take n (take (length ws - i) (drop i ws)) ≡ clause_from ws i
  clause_to_0 {n} e = rw part_is (to_first_0 (drop i ws) n (rw part_is at e))

  pub clause_to_end : position is_0 (take (length ws - i) (drop i ws)) ≡ None → take (length ws - i) (drop i ws) ≡ clause_from ws i
  clause_to_end e = rw part_is (to_the_end (drop i ws) (rw part_is at e))

-- ════════ Places ════════

-- A word that is written past the places keeps them.
pub places_kept : {words : List ℤ} {first : ℕ} {cs : List Clause} {area : List ℕ} → Places words first cs area → (j x : ℕ) → first + length cs ≤ j
    → Places words first cs (set area j x)
places_kept {first = first} {cs} {area} p j x past =
    let e : (n : ℕ) → n < length cs → get_or (set area j x) (first + n) 0 ≡ get_or area (first + n) 0
    = λ n h. get_or-set_other area j (first + n) x 0 (λ f. omega arith) in
    record {
      fits = rw length-set p.fits;
      inside = λ n h. rw (e n h) (p.inside n h);
      found = λ n h. rw (e n h) (p.found n h);
    }

-- One clause more, at the place that is written.
pub places_more : {words : List ℤ} {first : ℕ} {cs : List Clause} {area : List ℕ} {i : ℕ}
    → Places words first cs area → first + length cs < length area → i ≤ length words
    → Places words first (cs ++ (clause_from words i ∷ [])) (set area (first + length cs) i)
places_more {words} {first} {cs} {area} {i} p room h =
    let at = first + length cs in
    let more = cs ++ (clause_from words i ∷ []) in
    let place : ℕ → ℕ = λ n. get_or (set area at i) (first + n) 0 in
    let kept = places_kept p at i (omega arith) in
    let here : place (length cs) ≡ i = get_or-set_same area at i 0 room in
    let known : (n : ℕ) → n < length cs → clause_from words (place n) ≡ get_or more n []
    = λ n l. kept.found n l ∙ sym (get_or-append cs _ [] n l) in
    let new : clause_from words (place (length cs)) ≡ get_or more (length cs) []
    = ap (clause_from words) here ∙ sym (get_or-append_seam cs _ [] []) in
    record {
      fits = simp (length-set, length-append) (omega arith);
      inside = λ n l. below_more (λ n. place n ≤ length words) _ kept.inside (rw here h) n (rw length-append at l);
      found = λ n l. below_more (λ n. clause_from words (place n) ≡ get_or more n []) _ known new n (rw length-append at l);
    }

-- The clauses of the refutation stand after those of the CNF: one of them by its number.
pub place_in_refutation : {refutation : List ℤ} (cs : List Clause) {ds : List Clause} {area : List ℕ} → Places refutation (length cs) ds area
    → (h : ℕ) → length cs < h → h ≤ length (cs ++ ds)
    → (get_or area (h - 1) 0 ≤ length refutation) × (clause_from refutation (get_or area (h - 1) 0) ≡ get_or (cs ++ ds) (h - 1) [])
place_in_refutation {refutation} cs {ds} {area} q h past known =
    let n = h - suc (length cs) in
    let e : length cs + n ≡ h - 1 = omega arith in
    let below : n < length ds = omega (arith, length-append cs ds) in (
      rw e at (q.inside n below),
      rw e at (q.found n below) ∙ sym (rw (← e) (get_or-append-add cs ds n [])),
    )

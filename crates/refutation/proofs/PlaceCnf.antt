-- Where the clauses of words begin, written down one after the other. Assumes nothing.
use mathlib.Core.Path.{◌≡◌, ◌∙◌, ap}
use mathlib.Core.Bool.{true}
use mathlib.Core.List.{List, [], ◌∷◌}
use Prim.Native.Nat.{ℕ, suc, ◌+◌, ◌<◌, ◌≤◌}
use native.Mathlib.Omega.{arith}
use native.Mathlib.Numerals.{add-one}
use lib.IntN.{ℤ}
use lib.ListN.{length, get_or, take, drop, set, length-drop, drop_of_length-le}
use lib.Seq.{drop-cons, take-suc, length-take-le}
use Rattle.clauses.specs.CnfWords.{clauses_of, ended}
use Rattle.refutation.specs.Work.{clause_from, Places}
use Rattle.refutation.proofs.ClausePlaces.{next_clause, ended_inside, places_more}

-- How the area stands when n clauses are placed and the next begins at i.
pub record ClausesPlaced (words : List ℤ) (i n : ℕ) (area : List ℕ) : Type 0 where
  pub within : i ≤ length words
  pub known : n ≤ length (clauses_of words)
  pub rest : drop n (clauses_of words) ≡ clauses_of (drop i words)
  pub places : Places words 0 (take n (clauses_of words)) area

module _ {words : List ℤ} {i n : ℕ} {area : List ℕ} (p : ClausesPlaced words i n area) (whole : ended words ≡ true) (more : n < length (clauses_of words)) where
  -- A clause that is left has words.
  words_left : i < length words
  words_left =
      let none : length words ≤ i → length (drop n (clauses_of words)) ≡ 0
      = λ h. ap length (p.rest ∙ ap clauses_of (drop_of_length-le words h)) in
      grind (arith, none, length-drop n (clauses_of words))

  next : drop n (clauses_of words) ≡ clause_from words i ∷ clauses_of (drop (suc (i + length (clause_from words i))) words)
  next = p.rest ∙ next_clause words i (ended_inside words i whole words_left)

  pub placed_more : {clause : List ℤ} → clause ≡ clause_from words i → n < length area
      → ClausesPlaced words (i + (length clause + 1)) (n + 1) (set area n i)
  placed_more {clause} is room =
      let cs = clauses_of words in
      let e = drop-cons cs n [] more in
      let l : 0 + length (take n cs) ≡ n = omega (arith, length-take-le n cs p.known) in
      let here : get_or cs n [] ≡ clause_from words i = cc (e, next) in
      let there : drop (suc n) cs ≡ clauses_of (drop (suc (i + length (clause_from words i))) words) = cc (e, next) in
      let past : i + (length clause + 1) ≡ suc (i + length (clause_from words i)) = omega (arith, ap length is) in
      rw (past, add-one n)
      record {
        within = ended_inside words i whole words_left;
        known = more;
        rest = there;
        places = rw (take-suc cs n [] more, here) (rw l at (places_more p.places (rw l room) p.within));
      }

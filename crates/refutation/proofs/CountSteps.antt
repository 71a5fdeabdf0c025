-- The words of a refutation, read one by one: the steps so far, whether a word stands among hints, and whether a step is begun. Assumes nothing.
use mathlib.Core.Bool.{Bool, true, false, not, cond, ◌&&◌}
use mathlib.Core.Path.{◌≡◌, refl, sym, ap, ◌∙◌}
use mathlib.Core.List.{List, [], ◌∷◌, ◌++◌}
use Prim.Native.Nat.{ℕ, zero, suc, ◌+◌}
use native.Mathlib.Nat.{add-zero}
use native.Mathlib.Omega.{arith}
use lib.IntN.{ℤ}
use lib.ListN.{length}
use Rattle.answers.proofs.Tests.{first_true}
use Rattle.clauses.proofs.WordByWord.{Part, literals, hints, is_literals, other, part_after, own_after, right_in, word_checks, part_at_end, whole_by_parts, word_by_word}
use Rattle.answers.specs.Answers.{Answer, check, first_failing, granted, bad_refutation}
use Rattle.clauses.specs.Clauses.{Clause}
use Rattle.clauses.specs.CnfWords.{clauses_of, is_0, ended_after}
use Rattle.clauses.specs.Refutations.{paired, steps_of, refutation_checks}
use Rattle.refutation.proofs.Scan.{Reader, answer_from}
use Rattle.refutation.proofs.CountClauses.{clauses_next}

pub record Tally : Type 0 where
  pub steps : ℕ
  pub hinting : Bool
  pub begun : Bool

abbrev pub tally : ℕ → Bool → Bool → Tally
tally n h o = record { steps = n; hinting = h; begun = o }

-- The second 0 of a step ends it; the first one leaves it begun.
abbrev at_0 : Tally → Tally
at_0 t = tally (cond t.hinting (suc t.steps) t.steps) (not t.hinting) (not t.hinting)

abbrev at_other : Tally → Tally
at_other t = tally t.steps t.hinting true

abbrev pub tally_after : Bool → Tally → Tally
tally_after zero? t = cond zero? (at_0 t) (at_other t)

abbrev pub part_of : Bool → Part
part_of h = cond h hints literals

abbrev pub reader : ℕ → ℕ → Reader
reader variables clauses = record {
  State = Tally;
  right = λ t w. right_in variables (part_of t.hinting) (suc (clauses + t.steps)) w;
  after = λ t w. tally_after (is_0 w) t;
  cut_short = λ t. t.begun;
  count = λ t. t.steps;
  bad = bad_refutation;
}

-- ════════ One word more ════════

part_next : (b : Bool) (s : ℕ) (h o : Bool) → cond b (other (part_of h)) (part_of h) ≡ part_of (tally_after b (tally s h o)).hinting
part_next true s true o = refl
part_next true s false o = refl
part_next false s h o = refl

own_hints : (b : Bool) (clauses s : ℕ) (o : Bool) → cond b (suc (suc (clauses + s))) (suc (clauses + s)) ≡ suc (clauses + (tally_after b (tally s true o)).steps)
own_hints true clauses s o = omega arith
own_hints false clauses s o = refl

own_literals : (b : Bool) (clauses s : ℕ) (o : Bool) → suc (clauses + s) ≡ suc (clauses + (tally_after b (tally s false o)).steps)
own_literals true clauses s o = refl
own_literals false clauses s o = refl

own_next : (clauses s : ℕ) (h o : Bool) (w : ℤ) → own_after (part_of h) (suc (clauses + s)) w ≡ suc (clauses + (tally_after (is_0 w) (tally s h o)).steps)
own_next clauses s true o w = own_hints (is_0 w) clauses s o
own_next clauses s false o w = own_literals (is_0 w) clauses s o

-- No step is begun and not ended, where these words come after a tally.
abbrev whole_from : Bool → Bool → List ℤ → Bool
whole_from h o [] = not o
whole_from h o (w ∷ ws) = ended_after w ws && is_literals (part_at_end (part_after (part_of h) w) ws)

whole_last : (b : Bool) (s : ℕ) (h o : Bool) → b && is_literals (cond b (other (part_of h)) (part_of h)) ≡ not (tally_after b (tally s h o)).begun
whole_last true s true o = refl
whole_last true s false o = refl
whole_last false s h o = refl

whole_next : (s : ℕ) (h o : Bool) (w : ℤ) (ws : List ℤ) → whole_from h o (w ∷ ws) ≡ whole_from (tally_after (is_0 w) (tally s h o)).hinting (tally_after (is_0 w) (tally s h o)).begun ws
whole_next s h o w [] = whole_last (is_0 w) s h o
whole_next s h o w (v ∷ vs) = rw (part_next (is_0 w) s h o)

-- The steps that so many parts end, where the first of them is hints or literals.
abbrev halves : ℕ → ℕ
halves zero = 0
halves (suc zero) = 0
halves (suc (suc n)) = suc (halves n)

abbrev ends : Bool → ℕ → ℕ
ends h n = halves (cond h (suc n) n)

paired_length : (cs : List Clause) → length (paired cs) ≡ halves (length cs)
paired_length [] = refl
paired_length (c ∷ []) = refl
paired_length (c ∷ d ∷ cs) = ap suc (paired_length cs)

ends_next : (b : Bool) (s : ℕ) (h o : Bool) (n : ℕ) → s + ends h (cond b (suc n) n) ≡ (tally_after b (tally s h o)).steps + ends (tally_after b (tally s h o)).hinting n
ends_next true s true o n = omega arith
ends_next true s false o n = refl
ends_next false s h o n = refl

-- ════════ All words ════════

module _ (variables clauses : ℕ) where
  -- The checks of the words from a place on, then the one for cut short, whose place and whose count of steps are those of all the words.
  abbrev checked : Part → ℕ → ℕ → List ℤ → Bool → ℕ → ℕ → Answer
  checked p own i ws e place total =
      first_failing (word_checks variables p own i ws ++ (check e (bad_refutation place) ∷ [])) (granted total)

  checked_is : (s : ℕ) (h o : Bool) (p : Part) (own i : ℕ) (ws : List ℤ) (e : Bool) (place total : ℕ) → p ≡ part_of h → own ≡ suc (clauses + s) → e ≡ whole_from h o ws → place ≡ i + length ws → (e ≡ true → total ≡ s + ends h (length (clauses_of ws))) → checked p own i ws e place total ≡ answer_from (reader variables clauses) (tally s h o) i ws
  checked_is s h true p own i [] e place total a b c d t = rw (c, d, add-zero)
  checked_is s true false p own i [] e place total a b c d t = rw (c, t c, add-zero)
  checked_is s false false p own i [] e place total a b c d t = rw (c, t c, add-zero)
  checked_is s h o p own i (w ∷ ws) e place total a b c d t =
      let u = tally_after (is_0 w) (tally s h o) in
      rw (a, b)
      (ap (λ x. cond (right_in variables (part_of h) (suc (clauses + s)) w) x (bad_refutation i))
      (checked_is u.steps u.hinting u.begun (part_after (part_of h) w) (own_after (part_of h) (suc (clauses + s)) w) (suc i) ws e place total
      (part_next (is_0 w) s h o)
      (own_next clauses s h o w)
      (c ∙ whole_next s h o w ws)
      (omega arith)
      (λ y. t y ∙ ap (λ n. s + ends h n) (clauses_next w ws (first_true (ended_after w ws) _ (sym c ∙ y))) ∙ ends_next (is_0 w) s h o (length (clauses_of ws)))))

  pub read_refutation : (ws : List ℤ) → first_failing (refutation_checks variables clauses ws) (granted (length (steps_of ws))) ≡ answer_from (reader variables clauses) (tally 0 false false) 0 ws
  read_refutation ws =
      rw word_by_word
      (checked_is 0 false false literals (suc clauses) 0 ws (whole_by_parts ws) (length ws) (length (steps_of ws)) refl (omega arith) (start ws) (omega arith)
      (λ _. omega (arith, paired_length (clauses_of ws))))
    where
      start : (ws : List ℤ) → whole_by_parts ws ≡ whole_from false false ws
      start [] = refl
      start (w ∷ ws) = refl

-- The words and bytes of a circuit's text, read exactly where they stand: a byte, a number, the byte after it. Assumes nothing.
use mathlib.Core.Path.{◌≡◌, refl, sym, ◌∙◌, ap}
use mathlib.Core.Bool.{Bool, true, false, cond, ◌&&◌}
use mathlib.Core.List.{List, [], ◌∷◌, ◌++◌}
use Prim.Native.Nat.{ℕ, suc, ◌+◌, ◌≤◌}
use native.Mathlib.Omega.{arith}
use borrow.Author.Tests.{eqb-true}
use lib.Dec.{eqb}
use lib.ListN.{length}
use Rattle.answers.specs.Limits.{largest_number}
use Rattle.answers.proofs.Tests.{first_true, second_true, eqb_self}
use Rattle.text.specs.Numbers.{decimal, value, same, is_number}
use Rattle.text.specs.Readings.{parts, word_of, past_word, Reading, found, fault, Reader, mark, told, number, unkept, exactly}
use Rattle.text.proofs.NumberLaws.{same_self, same_true, decimal_value, decimal_is_number, number_printed, one_word, word_of_joined, past_joined, word_of_decimal, past_decimal, word_and_past}
use Rattle.meaning.specs.Problem.{word}
use Rattle.aiger.proofs.Exact.{numbers_in, left_in, not_found, NoChoice, ExactBefore, Exact, exact_by, exact_one, exact_then}

-- ════════ A byte ════════

pub mark_stands : (b p : ℕ) (t ns : List ℕ) (q : ℕ) (left : List ℕ) → mark b p t ≡ found ns q left → (ns ≡ []) × (t ≡ b ∷ left)
mark_stands b p [] ns q left e = absurd (not_found e)
mark_stands b p (c ∷ t) ns q left e = go (eqb c b) refl e
  where
    go : (x : Bool) → eqb c b ≡ x → cond x (found [] (suc p) t) (fault p) ≡ found ns q left → (ns ≡ []) × (c ∷ t ≡ b ∷ left)
    go true f g = (sym (ap numbers_in g), ap (λ (x : ℕ). x ∷ t) (eqb-true c b f) ∙ ap (λ (u : List ℕ). b ∷ u) (ap left_in g))
    go false f g = absurd (not_found g)

pub exact_mark : (b : ℕ) → Exact NoChoice (mark b ∷ []) (λ c. b ∷ []) []
exact_mark b =
    exact_one (λ c p rest h. let place : suc p ≡ p + 1 = omega arith in rw (eqb_self b, place))
    (λ p t ms q left e. ap length (mark_stands b p t ms q left e).0) (λ p t q left e. (tt, (mark_stands b p t [] q left e).1))

-- ════════ A word ════════

-- A word that is read as these numbers, before anything that begins with no word, and no other.
abbrev pub ExactWord : Reader → List ℕ → List ℕ → Type 0
ExactWord r w = ExactBefore (λ rest. word_of rest ≡ []) NoChoice (r ∷ []) (λ c. w)

-- The number that was found, whatever it is.
pub number_stands : (right : ℕ → Bool) (p : ℕ) (t ns : List ℕ) (q : ℕ) (left : List ℕ) → number right p t ≡ found ns q left
    → (n : ℕ) × (ns ≡ n ∷ []) × (right n ≡ true) × (t ≡ decimal n ++ left)
number_stands right p t ns q left e = go (is_number (word_of t) && right (value (word_of t))) refl e
  where
    go : (b : Bool) → is_number (word_of t) && right (value (word_of t)) ≡ b
        → cond b (found (value (word_of t) ∷ []) (p + length (word_of t)) (past_word t)) (fault p) ≡ found ns q left
        → (n : ℕ) × (ns ≡ n ∷ []) × (right n ≡ true) × (t ≡ decimal n ++ left)
    go true f g =
        let w = word_of t in
        let printed = number_printed w (first_true (is_number w) (right (value w)) f) in (
          value w,
          sym (ap numbers_in g),
          second_true (is_number w) (right (value w)) f,
          sym (word_and_past t) ∙ ap (λ (u : List ℕ). u ++ past_word t) printed ∙ ap (λ (u : List ℕ). decimal (value w) ++ u) (ap left_in g),
        )
    go false f g = absurd (not_found g)

pub head_is : {n m : ℕ} {ns ms : List ℕ} → n ∷ ns ≡ m ∷ ms → n ≡ m
head_is e = ap (λ (l : List ℕ). word l 0) e

module _ (right : ℕ → Bool) (n : ℕ) (small : n ≤ largest_number) (passes : right n ≡ true) where
  pub number_reads : (p : ℕ) (rest : List ℕ) → word_of rest ≡ [] → number right p (decimal n ++ rest) ≡ found (n ∷ []) (p + length (decimal n)) rest
  number_reads p rest h = rw (word_of_decimal rest h n, past_decimal rest h n, decimal_is_number n small, decimal_value n, passes)

  pub exact_number : ExactWord (number right) (decimal n) (n ∷ [])
  exact_number =
      exact_one (λ c. number_reads) (λ p t ms q left e. ap length (number_stands right p t ms q left e).1)
      (λ p t q left e.
      let one = number_stands right p t (n ∷ []) q left e in
      (tt, one.3 ∙ ap (λ (m : ℕ). decimal m ++ left) (sym (head_is one.1))))

unkept_stands : (x : Reading) (ms : List ℕ) (q : ℕ) (left : List ℕ) → unkept x ≡ found ms q left
    → (ms ≡ []) × ((ns : List ℕ) × (o : ℕ) × (x ≡ found ns o left))
unkept_stands (found ns o t) ms q left e = (sym (ap numbers_in e), (ns, o, ap (found ns o) (ap left_in e)))
unkept_stands (fault o) ms q left e = absurd (not_found e)

pub exact_exactly : (m : ℕ) → m ≤ largest_number → ExactWord (exactly m) (decimal m) []
exact_exactly m small =
    exact_one (λ c p rest h. ap unkept (number_reads (λ n. eqb n m) m small (eqb_self m) p rest h))
    (λ p t ms q left e. ap length (unkept_stands (number (λ n. eqb n m) p t) ms q left e).0)
    (λ p t q left e.
    let under = (unkept_stands (number (λ n. eqb n m) p t) [] q left e).1 in
    let one = number_stands (λ n. eqb n m) p t under.0 under.1 left under.2 in
    (tt, one.3 ∙ ap (λ (n : ℕ). decimal n ++ left) (eqb-true one.0 m one.2)))

pub exact_told : (w : List ℕ) → one_word w ≡ true → ExactWord (told w) w []
exact_told w h =
    exact_one (λ c p rest f. rw (word_of_joined rest f w h, past_joined rest f w h, same_self w))
    (λ p t ms q left e. ap length (stand p t ms q left e).0) (λ p t q left e. (tt, (stand p t [] q left e).1))
  where
    stand : (p : ℕ) (t ms : List ℕ) (q : ℕ) (left : List ℕ) → told w p t ≡ found ms q left → (ms ≡ []) × (t ≡ w ++ left)
    stand p t ms q left e = go (same (word_of t) w) refl e
      where
        go : (b : Bool) → same (word_of t) w ≡ b → cond b (found [] (p + length w) (past_word t)) (fault p) ≡ found ms q left
            → (ms ≡ []) × (t ≡ w ++ left)
        go true f g = (
          sym (ap numbers_in g),
          sym (word_and_past t) ∙ ap (λ (u : List ℕ). u ++ past_word t) (same_true (word_of t) w f) ∙ ap (λ (u : List ℕ). w ++ u) (ap left_in g),
        )
        go false f g = absurd (not_found g)

-- A word and the byte that ends it.
pub exact_ended : {r : Reader} {w ns : List ℕ} → ExactWord r w ns → (b : ℕ) → parts b ≡ true → Exact NoChoice (r ∷ mark b ∷ []) (λ c. w ++ (b ∷ [])) (ns ++ [])
exact_ended {w = w} f b h =
    exact_by (exact_then f (exact_mark b) (λ c rest k. rw h)) (λ c. w ++ (b ∷ [])) (λ c. ((tt, tt), refl)) (λ c. (tt, refl))

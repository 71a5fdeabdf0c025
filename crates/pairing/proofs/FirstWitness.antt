-- The list of witnesses is in byte order, so its first is the first of all; it is empty exactly where the CNF cannot be satisfied.
-- Assumes nothing.
use mathlib.Core.Path.{◌≡◌, refl}
use mathlib.Core.Logic.{◌⊎◌, inl, inr, ◌↔◌}
use mathlib.Core.Bool.{Bool, true, false, cond}
use mathlib.Core.List.Memᴰ
use mathlib.Core.List.{List, [], ◌∷◌, ◌++◌, map, Memᴰ}
use Prim.Native.Nat.{ℕ, zero, suc, ◌+◌, ◌<◌}
use native.Mathlib.Omega.{arith}
use borrow.Author.Tests.{lt-ltb}
use lib.Dec.{ltb}
use Rattle.answers.specs.Lists.{numbers, each, those}
use Rattle.clauses.specs.Clauses.{Assignment}
use Rattle.answers.proofs.Tests.{both_true, or_second, eqb_self, of_those}
use Rattle.meaning.specs.Problem.{Problem}
use Rattle.meaning.specs.Proper.{Proper}
use Rattle.meaning.specs.Witnesses.{Witness, all_bits, candidates, at_or_before}
use Rattle.meaning.specs.Calls.{accepted, witnesses}
use Rattle.meaning.proofs.Numbers.{numbers_bounds}
use Rattle.pairing.specs.Pairs.{Model}
use Rattle.pairing.specs.Excluded.{Excluded}
use Rattle.pairing.proofs.ListedWitnesses.{of_each, after_first, listed_is_witness}
use Rattle.pairing.proofs.AtOrBelow.{satisfiable_at_bound, excluded_if_unsatisfiable}

-- ════════ Byte order ════════

same_first : (b : ℕ) (bs cs : List ℕ) → at_or_before bs cs ≡ true → at_or_before (b ∷ bs) (b ∷ cs) ≡ true
same_first b bs cs e = or_second (ltb b b) (both_true (eqb_self b) e)

lower_first : (b c : ℕ) (bs cs : List ℕ) → b < c → at_or_before (b ∷ bs) (c ∷ cs) ≡ true
lower_first b c bs cs l = rw (lt-ltb b c l)

at_itself : (bs : List ℕ) → at_or_before bs bs ≡ true
at_itself [] = refl
at_itself (b ∷ bs) = same_first b bs bs (at_itself bs)

-- Each is at or before those after it.
abbrev InOrder : List (List ℕ) → Type 0
InOrder [] = Unit
InOrder (bs ∷ rest) = ((cs : List ℕ) → Memᴰ cs rest → at_or_before bs cs ≡ true) × InOrder rest

in_order_append : (xs ys : List (List ℕ)) → InOrder xs → InOrder ys
    → ((bs cs : List ℕ) → Memᴰ bs xs → Memᴰ cs ys → at_or_before bs cs ≡ true) → InOrder (xs ++ ys)
in_order_append [] ys a b across = b
in_order_append (bs ∷ xs) ys a b across =
    (λ cs m. go cs (Memᴰ.append_cases xs m), in_order_append xs ys a.1 b (λ ds cs m n. across ds cs (Memᴰ.tail m) n))
  where
    go : (cs : List ℕ) → Memᴰ cs xs ⊎ Memᴰ cs ys → at_or_before bs cs ≡ true
    go cs (inl m) = a.0 cs m
    go cs (inr m) = across bs cs (Memᴰ.head refl) m

in_order_those : (f : List ℕ → Bool) (xs : List (List ℕ)) → InOrder xs → InOrder (those f xs)
in_order_those f [] a = tt
in_order_those f (bs ∷ xs) a = go (f bs) (in_order_those f xs a.1)
  where
    go : (b : Bool) → InOrder (those f xs) → InOrder (cond b (bs ∷ those f xs) (those f xs))
    go true rest = (λ cs m. a.0 cs (of_those f xs m), rest)
    go false rest = rest

-- With one first byte before each they are in order as before, and with a lower one they come first.
abbrev with : ℕ → List (List ℕ) → List (List ℕ)
with b xs = map (λ bs. b ∷ bs) xs

in_order_with : (b : ℕ) (xs : List (List ℕ)) → InOrder xs → InOrder (with b xs)
in_order_with b [] a = tt
in_order_with b (bs ∷ xs) a = (λ cs m. go cs (Memᴰ.of_map (λ ds. b ∷ ds) xs m), in_order_with b xs a.1)
  where
    go : (cs : List ℕ) → (ds : List ℕ) × Memᴰ ds xs × (b ∷ ds ≡ cs) → at_or_before (b ∷ bs) cs ≡ true
    go cs w = rw (← w.2) (same_first b bs w.0 (a.0 w.0 w.1))

lower_with : (b c : ℕ) (xs ys : List (List ℕ)) → b < c → (bs cs : List ℕ) → Memᴰ bs (with b xs) → Memᴰ cs (with c ys)
    → at_or_before bs cs ≡ true
lower_with b c xs ys l bs cs m n =
    let v = Memᴰ.of_map (λ ds. b ∷ ds) xs m in
    let w = Memᴰ.of_map (λ ds. c ∷ ds) ys n in
    rw (← v.2, ← w.2) (lower_first b c v.0 w.0 l)

bits_in_order : (n : ℕ) → InOrder (all_bits n)
bits_in_order zero = (λ cs m. absurd (Memᴰ.not-nil m), tt)
bits_in_order (suc n) =
    in_order_append (with 0 (all_bits n)) (with 1 (all_bits n)) (in_order_with 0 (all_bits n) (bits_in_order n))
    (in_order_with 1 (all_bits n) (bits_in_order n)) (lower_with 0 1 (all_bits n) (all_bits n) (omega arith))

each_in_order : (xs : List (List ℕ)) → InOrder xs → (i n : ℕ) → InOrder (each (numbers i n) (λ b. with b xs))
each_in_order xs a i zero = tt
each_in_order xs a i (suc n) =
    in_order_append (with i xs) (each (numbers (suc i) n) (λ b. with b xs)) (in_order_with i xs a) (each_in_order xs a (suc i) n)
    (λ bs cs m q. let w = of_each (λ b. with b xs) (numbers (suc i) n) q in
    lower_with i w.0 xs xs (numbers_bounds (suc i) n w.1).0 bs cs m w.2)

-- ════════ The first of all ════════

module _ (p : Problem) where
  witnesses_in_order : InOrder (witnesses p)
  unfolding witnesses
  witnesses_in_order =
      in_order_those (accepted p) (candidates p)
      (each_in_order (all_bits (after_first p)) (bits_in_order (after_first p)) 0 (p.bound + 2))

  -- The first of the list is a witness, and each witness is at or after it.
  pub first_witness : {bs : List ℕ} {rest : List (List ℕ)} → witnesses p ≡ bs ∷ rest
      → Witness p bs × ((cs : List ℕ) → Witness p cs → at_or_before bs cs ≡ true)
  first_witness {bs} {rest} e = (
    (listed_is_witness p bs).0 (rw e (Memᴰ.head refl)),
    λ cs w. go cs (rw e at ((listed_is_witness p cs).1 w)) (rw e at witnesses_in_order),
  )
    where
      go : (cs : List ℕ) → Memᴰ cs (bs ∷ rest) → InOrder (bs ∷ rest) → at_or_before bs cs ≡ true
      go cs (Memᴰ.head q) a = rw q (at_itself bs)
      go cs (Memᴰ.tail m) a = a.0 cs m

  -- An empty list: no witness.
  pub none_if_empty : witnesses p ≡ [] → (bs : List ℕ) → Witness p bs → ⊥
  none_if_empty e bs w = Memᴰ.not-nil (rw e at ((listed_is_witness p bs).1 w))

  pub empty_if_none : ((bs : List ℕ) → Witness p bs → ⊥) → witnesses p ≡ []
  empty_if_none none = go (witnesses p) (λ bs m. none bs ((listed_is_witness p bs).0 m))
    where
      go : (xs : List (List ℕ)) → ((bs : List ℕ) → Memᴰ bs xs → ⊥) → xs ≡ []
      go [] h = refl
      go (bs ∷ rest) h = absurd (h bs (Memᴰ.head refl))

module _ (p : Problem) (proper : Proper p) where
  -- "none" is "the CNF can't be satisfied".
  pub empty_is_unsatisfiable : (witnesses p ≡ []) ↔ (((a : Assignment) × Model p a) → ⊥)
  empty_is_unsatisfiable = (
    λ e m. let w = (satisfiable_at_bound p proper).0 m in none_if_empty p e w.0 w.1,
    λ none. empty_if_none p (λ bs w. none ((satisfiable_at_bound p proper).1 (bs, w))),
  )

  -- So it excludes what a refutation does.
  pub empty_excludes : witnesses p ≡ [] → Excluded p
  empty_excludes e = excluded_if_unsatisfiable p proper (empty_is_unsatisfiable.0 e)

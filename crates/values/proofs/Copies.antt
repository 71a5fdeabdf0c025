-- Values put into a list from a place on, one store a turn; those past its end are left out. Assumes nothing.
use Rattle.std.proofs.Common.{◌≡◌, ℕ, suc, ◌+◌, ◌-◌, ◌<◌, ◌≤◌, min, Bool, false, eqb, List, [], ◌∷◌, ◌++◌, length, get_or, take, drop, set, sym, refl, ◌∙◌, add-one, arith, length-append, length-drop, length-set, drop_of_length-le, length-take, length-take-le, get_or-drop, drop-cons, get_or-take, take_at, take-take, ap}
use native.Mathlib.Decide.{dec_le}
use borrow.Rule.Slice.PartMut.{put_mid}
use lib.ListN.{length-map, get_or-map}
use lib.Seq.{sets, sets-eq, set_out, take-nil}
use Rattle.std.proofs.lemmas.List.{take_min}
use Rattle.std.proofs.lemmas.Slice.{put_mid-paste}
use Rattle.meaning.specs.Witnesses.{bits}

-- ════════ Stores ════════

-- Past the end nothing is put.
pub sets_out : (l : List Bool) (at : ℕ) (xs : List Bool) → length l ≤ at → sets l at xs ≡ l
sets_out l at [] h = refl
sets_out l at (x ∷ xs) h = rw (set_out l at x h) (sets_out l (suc at) xs (omega arith))

-- Those that have room are all that is put.
sets_first : (l : List Bool) (at : ℕ) (xs : List Bool) → sets l at xs ≡ sets l at (take (length l - at) xs)
sets_first l at [] = rw take-nil
sets_first l at (x ∷ xs) = by_room (sets_first (set l at x) (suc at) xs) (dec_le (length l) at)
  where
    by_room : sets (set l at x) (suc at) xs ≡ sets (set l at x) (suc at) (take (length (set l at x) - suc at) xs) → Dec (length l ≤ at)
        → sets l at (x ∷ xs) ≡ sets l at (take (length l - at) (x ∷ xs))
    by_room later (yes h) = sets_out l at (x ∷ xs) h ∙ sym (sets_out l at (take (length l - at) (x ∷ xs)) h)
    by_room later (no h) = let one : length l - at ≡ suc (length l - suc at) = omega arith in rw one (rw length-set at later)

-- They are what a copy puts in the middle.
pub put_in_middle : (l : List Bool) (at : ℕ) (xs : List Bool) (n k : ℕ) {ys : List Bool} → at ≤ length l → n ≡ min (length l - at) (length xs) → k ≡ n
    → ys ≡ take n xs → put_mid at k l ys ≡ sets l at xs
put_in_middle l at xs n k {ys} h e same is =
    let first : take (length l - at) xs ≡ take n xs = sym (take_min (length l - at) xs) ∙ ap (λ (m : ℕ). take m xs) (sym e) in
    let long : length (take n xs) ≡ n = length-take-le n xs (omega arith) in
    put_mid-paste at k l ys (take n xs) n is (sym same) (sym long)
    ∙ rw (take-take n n xs (omega arith)) (sym (sets_first l at xs ∙ rw first (sets-eq (take n xs) l at (omega (arith, long)) ∙ rw long refl)))

-- Where all have room they stand there, after what stood before.
pub sets_there : (l : List Bool) (at : ℕ) (xs : List Bool) {n : ℕ} → length xs ≡ n → at + n ≤ length l → take (at + n) (sets l at xs) ≡ take at l ++ xs
sets_there l at xs {n} e h =
    let room : at + length xs ≤ length l = omega arith in
    let before : length (take at l) ≡ at = length-take-le at l (omega arith) in
    rw (sets-eq xs l at room) (take_at (take at l ++ xs) (drop (at + length xs) l) (at + n) (simp (length-append, before) (omega arith)))

-- ════════ One after another ════════

-- The first i of xs are put: those after them make of the list what all make of the list before.
pub record PutTo (xs : List Bool) (at : ℕ) (l₀ : List Bool) (i : ℕ) (l : List Bool) : Type 0 where
  pub long : length l ≡ length l₀
  pub rest : sets l (at + i) (drop i xs) ≡ sets l₀ at xs

module _ {xs : List Bool} {at : ℕ} {l₀ : List Bool} where
  pub none_put : PutTo xs at l₀ 0 l₀
  none_put = record { long = refl; rest = let e : at + 0 ≡ at = omega arith in rw e }

  module _ {i : ℕ} {l : List Bool} (to : PutTo xs at l₀ i l) where
    pub one_put : i < length xs → {b : Bool} → b ≡ get_or xs i false → {l' : List Bool} → l' ≡ set l (at + i) b → PutTo xs at l₀ (i + 1) l'
    one_put h {b} e put = record {
      long = rw put (simp length-set to.long);
      rest =
          let next : at + (i + 1) ≡ suc (at + i) = omega arith in
          rw (put, e, next, add-one i) (rw (drop-cons xs i false h) at to.rest);
    }

    -- Those that have room are all that change something.
    pub all_put : min (length xs) (length l₀ - at) ≤ i → l ≡ sets l₀ at xs
    all_put e = by_room (dec_le (length xs) i) ∙ to.rest
      where
        by_room : Dec (length xs ≤ i) → l ≡ sets l (at + i) (drop i xs)
        by_room (yes h) = let none : drop i xs ≡ [] = drop_of_length-le xs {i = i} h in rw none
        by_room (no h) = sym (sets_out l (at + i) (drop i xs) (omega (arith, to.long)))

-- ════════ Bytes as values ════════

module _ (bs : List ℕ) (from count : ℕ) (room : from + count ≤ length bs) where
  pub length_bits : length (bits (take count (drop from bs))) ≡ count
  length_bits = simp (length-map, length-take, length-drop) (omega arith)

  pub bit_at : (i : ℕ) → i < count → eqb (get_or bs (from + i) 0) 1 ≡ get_or (bits (take count (drop from bs))) i false
  bit_at i l = sym (get_or-map (λ b. eqb b 1) (take count (drop from bs)) i 0 ∙ rw (get_or-take, get_or-drop))

-- Laws of a list with a piece put at a place: what stands before and after the piece stays. Assumes nothing.
use mathlib.Core.Path.{◌≡◌, sym, ◌∙◌, ap}
use mathlib.Core.List.{List, [], ◌∷◌, ◌++◌, append_assoc}
use Prim.Native.Nat.{ℕ, ◌+◌, ◌≤◌, ◌<◌}
use native.Mathlib.Nat.{add-zero, add_assoc}
use native.Mathlib.Numerals.{add-one}
use native.Mathlib.Omega.{arith}
use lib.ListN.{length, take, drop, set, take-append-drop, length-append, length-drop}
use lib.Seq.{length-take-le, take_at, drop-append-add, drop-drop, set_split}

module _ {A : Type 0} where
  abbrev pub put_at : List A → ℕ → List A → List A
  put_at piece at old = take at old ++ (piece ++ drop (at + length piece) old)

  pub put_at_none : (at : ℕ) (o : List A) → put_at [] at o ≡ o
  put_at_none at o = rw (add-zero, take-append-drop)

  pub put_at_one : (x : A) (at : ℕ) (o : List A) → at < length o → set o at x ≡ put_at (x ∷ []) at o
  put_at_one x at o h = rw add-one (set_split o at x h)

  module _ (s : List A) (at : ℕ) (o : List A) (h : at + length s ≤ length o) where
    -- What was there before, and the piece.
    front : List A
    front = take at o ++ s

    front_length : length front ≡ at + length s
    unfolding front
    front_length = rw (length-append, length-take-le at o (omega arith))

    split : put_at s at o ≡ front ++ drop (at + length s) o
    unfolding front
    split = sym (append_assoc (take at o) s (drop (at + length s) o))

    pub put_at_length : length (put_at s at o) ≡ length o
    put_at_length = ap length split ∙ simp (length-append, length-drop, front_length) (omega arith)

    rest_after : (n : ℕ) → drop (at + length s + n) (put_at s at o) ≡ drop (at + length s + n) o
    rest_after n =
        ap (drop (at + length s + n)) split
        ∙ ap (λ (k : ℕ). drop (k + n) (front ++ drop (at + length s) o)) (sym front_length)
        ∙ drop-append-add front (drop (at + length s) o) n
        ∙ drop-drop n (at + length s) o

    -- One piece, and after it another.
    pub put_at_then : (t : List A) → put_at t (at + length s) (put_at s at o) ≡ put_at (s ++ t) at o
    unfolding front
    put_at_then t =
        let front_after : take (at + length s) (put_at s at o) ≡ front =
        ap (take (at + length s)) split ∙ take_at front (drop (at + length s) o) (at + length s) front_length in
        rw (front_after, rest_after (length t), length-append, append_assoc (take at o), append_assoc s, add_assoc)

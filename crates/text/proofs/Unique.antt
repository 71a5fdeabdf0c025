-- The promise of a text that is put determines the answer and the lent buffer. Assumes nothing.
use mathlib.Core.Path.{◌≡◌, sym, ◌∙◌}
use mathlib.Core.List.{List}
use Prim.Native.Nat.{ℕ}
use Rattle.text.specs.Promise.{Puts}

pub puts_unique : (text : List ℕ) (at : ℕ) (out : List ℕ) {n m : ℕ} {p q : List ℕ} → Puts text at out n p → Puts text at out m q → (n ≡ m) × (p ≡ q)
puts_unique text at out a b = (a.after ∙ sym b.after, a.held ∙ sym b.held)

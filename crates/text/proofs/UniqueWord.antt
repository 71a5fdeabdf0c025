-- The promise of a word at a place determines the answer. Assumes nothing.
use mathlib.Core.Path.{◌≡◌, sym, ◌∙◌, ap}
use mathlib.Core.List.{List}
use Prim.Native.Nat.{ℕ}
use Rattle.text.specs.Promise.{WordAt}
use Rattle.text.specs.declared.scan.Word.{Word}

abbrev word_of_fields : ℕ → ℕ → Word
word_of_fields s e = record { state = s; end = e }

pub word_unique : (text : List ℕ) (at : ℕ) (v w : Word) → WordAt text at v → WordAt text at w → v ≡ w
word_unique text at v w p q =
    ap (λ x. word_of_fields x v.end) (p.state_is ∙ sym q.state_is)
    ∙ ap (word_of_fields w.state) (p.end_is ∙ sym q.end_is)

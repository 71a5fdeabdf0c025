-- What is asked of the numbers of a list's elements, one after another, is asked of the elements. Assumes nothing.
use Rattle.std.proofs.Common.{◌≡◌, ℕ, ◌<◌, Bool, true, false, List, length, get_or, zero-add, arith}
use Rattle.std.specs.Bool.{MatchBool}
use Rattle.std.specs.List.{range_with_len, AllWithin, HoldsAt}
use Rattle.std.proofs.lemmas.List.FromFn.{length-range_with_len, get_or-range_with_len}
use Rattle.answers.specs.Lists.{all_of}
use Rattle.values.proofs.Fits.{one_element_fails, no_element_fails}

module _ {A : Type 0} (f : A → Bool) (xs : List A) (d : A) where
  abbrev pub Passes : ℕ → Type 0
  Passes i = f (get_or xs i d) ≡ true

  abbrev pub Fails : ℕ → Type 0
  Fails i = f (get_or xs i d) ≡ false

  pub all_in_range : (r : Bool) (n : ℕ) → n ≡ length xs
      → MatchBool r (AllWithin Passes (range_with_len 0 n) 0 (length (range_with_len 0 n)))
      ((k : ℕ) × (k < length (range_with_len 0 n)) × HoldsAt Fails (range_with_len 0 n) k)
      → r ≡ all_of f xs
  all_in_range true n e all =
      no_element_fails f xs d {i = n} (omega arith)
      (λ j h. let l : j < length (range_with_len 0 n) = rw length-range_with_len h in
      rw (get_or-range_with_len 0 n j 0 h, zero-add) at (all j 0 (omega arith) l))
  all_in_range false n e one =
      let l : one.0 < n = rw length-range_with_len at one.1 in
      one_element_fails f xs d {i = one.0} (omega arith) (rw (get_or-range_with_len 0 n one.0 0 l, zero-add) at (one.2 0))

-- The form of a node by its op. Assumes nothing.
use mathlib.Core.Path.{◌≡◌, refl}
use mathlib.Core.Bool.{Bool, true, false, not, ◌&&◌}
use Prim.Native.Nat.{ℕ, zero, suc}
use native.Mathlib.Omega.{arith}
use borrow.Author.Tests.{le-ltb}
use lib.Dec.{ltb}
use Rattle.meaning.specs.Problem.{node_of}
use Rattle.meaning.proofs.ClosedForms.{has_equal_form, has_or_form, has_until_form}

-- Ops 1 and 2, and 4 to 7.
abbrev pub or_op : ℕ → Bool
or_op op = ltb 0 op && ltb op 3

abbrev pub until_op : ℕ → Bool
until_op op = ltb 3 op && ltb op 8

pub record ByOp (op a b : ℕ) : Type 0 where
  pub equal_is : has_equal_form (node_of op a b) ≡ not (or_op op) && not (until_op op)
  pub or_is : has_or_form (node_of op a b) ≡ or_op op
  pub until_is : has_until_form (node_of op a b) ≡ until_op op

second_false : (b : Bool) → b && false ≡ false
second_false true = refl
second_false false = refl

pub by_op : (op a b : ℕ) → ByOp op a b
by_op zero a b = record { equal_is = refl; or_is = refl; until_is = refl }
by_op (suc zero) a b = record { equal_is = refl; or_is = refl; until_is = refl }
by_op (suc (suc zero)) a b = record { equal_is = refl; or_is = refl; until_is = refl }
by_op (suc (suc (suc zero))) a b = record { equal_is = refl; or_is = refl; until_is = refl }
by_op (suc (suc (suc (suc zero)))) a b = record { equal_is = refl; or_is = refl; until_is = refl }
by_op (suc (suc (suc (suc (suc zero))))) a b = record { equal_is = refl; or_is = refl; until_is = refl }
by_op (suc (suc (suc (suc (suc (suc zero)))))) a b = record { equal_is = refl; or_is = refl; until_is = refl }
by_op (suc (suc (suc (suc (suc (suc (suc zero))))))) a b = record { equal_is = refl; or_is = refl; until_is = refl }
by_op (suc (suc (suc (suc (suc (suc (suc (suc op)))))))) a b =
    let n = suc (suc (suc (suc (suc (suc (suc (suc op))))))) in
    let no_or : or_op n ≡ false = rw (le-ltb n 3 (omega arith)) (second_false (ltb 0 n)) in
    let no_until : until_op n ≡ false = rw (le-ltb n 8 (omega arith)) (second_false (ltb 3 n)) in
    record { equal_is = rw (no_or, no_until); or_is = rw no_or; until_is = rw no_until }

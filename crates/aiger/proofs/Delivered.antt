-- A circuit's words, put part after part from a table in which the outputs stand before the gates. Assumes nothing.
use mathlib.Core.Path.{◌≡◌, sym}
use mathlib.Core.List.{List, [], ◌∷◌, ◌++◌}
use Prim.Native.Nat.{ℕ, ◌+◌, ◌*◌, ◌-◌, ◌≤◌}
use native.Mathlib.Omega.{arith}
use lib.ListN.{length, take, drop, length-append}
use lib.Seq.{take-take, take-add, length-take-le, drop_at}
use Rattle.answers.specs.Lists.{written}
use Rattle.text.specs.Promise.{placed}
use Rattle.text.proofs.Buffers.{Put, put_then}
use Rattle.aiger.specs.Circuits.{Sizes, words_in_all}
use Rattle.aiger.specs.Texts.{in_order}
use Rattle.aiger.specs.Reads.{numbers_kept}
use Rattle.aiger.proofs.KeptNumbers.{in_order_length}

pub put_by : {words : List ℕ} {at : ℕ} {old : List ℕ} {next : ℕ} {new : List ℕ} → (next ≡ at + length words) × (new ≡ placed words at old)
    → Put words at old next new
put_by e = record { after = e.0; held = e.1 }

-- A part of the first elements.
drop_of_take : (m k n : ℕ) (l : List ℕ) → n ≡ m + k → n ≤ length l → drop m (take n l) ≡ take k (drop m l)
drop_of_take m k n l e h =
    let front : length (take m l) ≡ m = length-take-le m l (omega arith) in
    rw (e, take-add m k l) (drop_at (take m l) (take k (drop m l)) m front)

module _ (s : Sizes) (table room : List ℕ) (kept : numbers_kept s ≤ length table) (fits : words_in_all s ≤ length room) where
  abbrev outputs_from : ℕ
  outputs_from = 2 * s.latches

  abbrev gates_from : ℕ
  gates_from = 2 * s.latches + s.outputs

  abbrev numbers : List ℕ
  numbers = take (numbers_kept s) table

  latches_are : take (outputs_from - 0) table ≡ take outputs_from numbers
  latches_are =
      let all : outputs_from - 0 ≡ outputs_from = omega arith in
      let within : outputs_from ≤ numbers_kept s = omega arith in
      rw all (sym (take-take outputs_from (numbers_kept s) table within))

  gates_are : take (numbers_kept s - gates_from) (drop gates_from table) ≡ drop gates_from numbers
  gates_are =
      let rest : numbers_kept s - gates_from ≡ 2 * s.gates = omega arith in
      rw rest (sym (drop_of_take gates_from (2 * s.gates) (numbers_kept s) table (omega arith) kept))

  outputs_are : take (gates_from - outputs_from) (drop outputs_from table) ≡ take s.outputs (drop outputs_from numbers)
  outputs_are =
      let count : gates_from - outputs_from ≡ s.outputs = omega arith in
      let rest = drop_of_take outputs_from (s.outputs + 2 * s.gates) (numbers_kept s) table (omega arith) kept in
      let within : s.outputs ≤ s.outputs + 2 * s.gates = omega arith in
      rw (count, rest) (sym (take-take s.outputs (s.outputs + 2 * s.gates) (drop outputs_from table) within))

  pub delivered : {a b c d : ℕ} {o p q r : List ℕ} → Put (s.inputs ∷ s.latches ∷ s.gates ∷ s.outputs ∷ []) 0 room a o
      → Put (take (outputs_from - 0) table) a o b p
      → Put (take (numbers_kept s - gates_from) (drop gates_from table)) b p c q
      → Put (take (gates_from - outputs_from) (drop outputs_from table)) c q d r
      → r ≡ written (in_order s numbers) room
  delivered header latches gates outputs =
      let opened = s.inputs ∷ s.latches ∷ s.gates ∷ s.outputs ∷ [] in
      let to_latches = opened ++ take outputs_from numbers in
      let to-gates = to_latches ++ drop gates_from numbers in
      let whole = in_order_length s numbers (length-take-le (numbers_kept s) table kept) in
      let first = length-append opened (take outputs_from numbers) in
      let second = length-append to_latches (drop gates_from numbers) in
      let third = length-append to-gates (take s.outputs (drop outputs_from numbers)) in
      let by-latches = put_then (omega arith) header (rw latches_are at latches) in
      let by-gates = put_then (omega arith) by-latches (rw gates_are at gates) in
      (put_then (omega arith) by-gates (rw outputs_are at outputs)).held

-- Models of a problem's CNF and its witnesses pair off. Assumes nothing.
use mathlib.Core.Path.{◌≡◌, refl, sym, ◌∙◌}
use mathlib.Core.Bool.{false}
use mathlib.Core.List.{List}
use Prim.Native.Nat.{ℕ}
use Rattle.clauses.specs.Clauses.{Assignment}
use Rattle.meaning.specs.Problem.{Problem}
use Rattle.meaning.specs.Proper.{Proper}
use Rattle.meaning.specs.Witnesses.{Witness}
use Rattle.pairing.specs.ModelLaws.{Reading, ModelLaws, reading}
use Rattle.pairing.specs.Layout.{layout, Agree}
use Rattle.pairing.specs.Bytes.{bytes_of_reading}
use Rattle.pairing.specs.Pairs.{Model, PairsOff}
use Rattle.pairing.proofs.Readings.{variable_0_false}
use Rattle.pairing.proofs.Layouts.{layout_length, layout_reads, same_layout, layout_of_reading}
use Rattle.pairing.proofs.Satisfied.{satisfied_is_laws}
use Rattle.pairing.proofs.Bytes.{bytes_back}
use Rattle.pairing.proofs.Rows.{rows_first_latches, rows_inputs}
use Rattle.pairing.proofs.WitnessReading.{witness_reading, same_circuit, witness_keeps_laws, model_agrees, bytes_witness}

-- ════════ From models ════════

module _ (p : Problem) (proper : Proper p) (a : Assignment) (m : Model p a) where
  laws_of_model : ModelLaws p (reading p a)
  laws_of_model = (satisfied_is_laws p proper a).0 m.satisfies

  pub witness_of_model : Witness p (bytes_of_reading p (reading p a))
  witness_of_model = bytes_witness p proper (reading p a) laws_of_model (variable_0_false a laws_of_model.truth_law p)

  model_comes_back : layout p (witness_reading p (bytes_of_reading p (reading p a))) ≡ a
  model_comes_back =
      sym (same_layout (model_agrees p proper (reading p a) laws_of_model (variable_0_false a laws_of_model.truth_law p)))
      ∙ layout_of_reading p a proper.nodes_some m.length_right

-- ════════ From witnesses ════════

-- The reading of the assignment that a witness gives.
abbrev read_again : Problem → List ℕ → Reading
read_again p bs = reading p (layout p (witness_reading p bs))

module _ (p : Problem) (proper : Proper p) (bs : List ℕ) (w : Witness p bs) where
  agrees : Agree p (read_again p bs) (witness_reading p bs)
  agrees = layout_reads p (witness_reading p bs)

  variable_0 : (t : ℕ) → (read_again p bs).circuit t 0 ≡ false
  variable_0 = variable_0_false (layout p (witness_reading p bs)) agrees.truth p

  pub model_of_witness : Model p (layout p (witness_reading p bs))
  model_of_witness = record {
    length_right = layout_length p (witness_reading p bs) proper.nodes_some;
    satisfies =
        (satisfied_is_laws p proper (layout p (witness_reading p bs))).1
        (witness_keeps_laws p proper bs w (read_again p bs) agrees variable_0);
  }

  witness_comes_back : bytes_of_reading p (read_again p bs) ≡ bs
  witness_comes_back =
      let same = same_circuit p proper bs w (read_again p bs) agrees variable_0 in
      bytes_back p (read_again p bs) bs w.length_right w.start_in_range w.bits_in_range agrees.chosen
      (rows_first_latches p bs w.length_right (read_again p bs) same)
      (rows_inputs p bs w.length_right (read_again p bs) same)

-- ════════ They pair off ════════

pub pairs_off : (p : Problem) → Proper p → PairsOff p
pairs_off p proper = record {
  witness_of = λ a. bytes_of_reading p (reading p a);
  model_of = λ bs. layout p (witness_reading p bs);
  to_witness = witness_of_model p proper;
  to_model = model_of_witness p proper;
  model_again = model_comes_back p proper;
  witness_again = witness_comes_back p proper;
  reads_off = λ a. refl;
}

-- The judge of words and bytes says yes exactly to well-formed words with a witness of their problem. Assumes nothing.
use mathlib.Core.Path.{◌≡◌, sym, ◌∙◌}
use mathlib.Core.Logic.{◌↔◌}
use mathlib.Core.List.{List}
use Prim.Native.Nat.{ℕ}
use Rattle.answers.specs.Answers.{granted}
use Rattle.answers.proofs.Answers.{number_of}
use Rattle.meaning.specs.Problem.{problem}
use Rattle.meaning.specs.Witnesses.{Witness}
use Rattle.meaning.specs.Calls.{WellFormed, judge_bytes, judge_witness}
use Rattle.meaning.proofs.Check.{checked_if_well_formed, well_formed_if_checked}
use Rattle.meaning.proofs.Calls.{judge_witness_is}
use Rattle.pairing.proofs.Witnesses.{accepted_is_witness}

module _ (version : ℕ) (ws bs : List ℕ) where
  judged_forth : judge_witness version ws bs ≡ granted 0 → WellFormed version ws × Witness (problem version ws) bs
  judged_forth e =
      let checked = sym (judge_witness_is version ws bs) ∙ e in
      let formed = well_formed_if_checked version ws (judge_bytes (problem version ws) bs) (number_of checked) in
      (formed, (accepted_is_witness (problem version ws) bs).0 (sym (checked_if_well_formed version ws (judge_bytes (problem version ws) bs) formed) ∙ checked))

  judged_back : WellFormed version ws × Witness (problem version ws) bs → judge_witness version ws bs ≡ granted 0
  judged_back w =
      judge_witness_is version ws bs
      ∙ checked_if_well_formed version ws (judge_bytes (problem version ws) bs) w.0
      ∙ (accepted_is_witness (problem version ws) bs).1 w.1

  pub judged_is_witness : (judge_witness version ws bs ≡ granted 0) ↔ (WellFormed version ws × Witness (problem version ws) bs)
  judged_is_witness = (judged_forth, judged_back)

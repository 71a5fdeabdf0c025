-- What a yes of writing says of the words and of the room. Assumes nothing.
use mathlib.Core.Path.{◌≡◌, refl, sym, ◌∙◌}
use mathlib.Core.Bool.{Bool, true, false, cond}
use mathlib.Core.List.{List}
use Prim.Native.Nat.{ℕ, ◌≤◌}
use native.Mathlib.Omega.{arith}
use borrow.Author.Tests.{leb-true}
use lib.Dec.{leb}
use lib.IntN.{ℤ}
use lib.ListN.{length, take, drop, length-append}
use lib.Seq.{take_at}
use Rattle.answers.specs.Lists.{written}
use Rattle.answers.specs.Answers.{granted, room_too_small}
use Rattle.answers.proofs.Answers.{number_of, place_of}
use Rattle.meaning.specs.Problem.{problem}
use Rattle.meaning.specs.Cnf.{cnf_words}
use Rattle.meaning.specs.Calls.{WellFormed, write_cnf, room_after_writing}
use Rattle.meaning.proofs.Check.{well_formed_if_checked, checked_if_well_formed}
use Rattle.meaning.proofs.Calls.{write_cnf_is}
use Rattle.std.specs.Prelude.{Result}
use Rattle.counts.specs.declared.Counts.{Counts}
use Rattle.encoder.specs.declared.NotWritten.{NotWritten}
use Rattle.encoder.specs.Promise.{answer_of, EncodedAs}

module _ (version : ℕ) (ws : List ℕ) where
  abbrev pub needed : ℕ
  needed = length (cnf_words (problem version ws))

  -- ════════ The answer ════════

  module _ (room : ℕ) (yes : (write_cnf version ws room).number ≡ 0) where
    pub well_if_written : WellFormed version ws
    well_if_written = well_formed_if_checked version ws _ (number_of (sym (write_cnf_is version ws room)) ∙ yes)

    pub fits_if_written : ((write_cnf version ws room).place ≡ needed) × (needed ≤ room)
    fits_if_written = go (leb needed room) refl (write_cnf_is version ws room ∙ checked_if_well_formed version ws _ well_if_written)
      where
        go : (b : Bool) → leb needed room ≡ b → write_cnf version ws room ≡ cond b (granted needed) (room_too_small needed)
            → ((write_cnf version ws room).place ≡ needed) × (needed ≤ room)
        go true p e = (place_of e, leb-true needed room p)
        go false p e = let z : ◌≡◌ {A = ℕ} 6 0 = sym (number_of e) ∙ yes in absurd (omega arith)

  -- ════════ The room ════════

  module _ {before after : List ℤ} {r : Result Counts NotWritten} (e : EncodedAs version ws before r after) (yes : (answer_of r).number ≡ 0) where
    fits : ((write_cnf version ws (length before)).place ≡ needed) × (needed ≤ length before)
    fits = fits_if_written (length before) (number_of (sym e.answered) ∙ yes)

    place_is : (answer_of r).place ≡ needed
    place_is = place_of e.answered ∙ fits.0

    holds : after ≡ written (cnf_words (problem version ws)) before
    unfolding room_after_writing
    holds = e.room_after ∙ rw yes

    pub within_room : (answer_of r).place ≤ length after
    within_room = rw holds (omega (arith, place_is, length-append (cnf_words (problem version ws)) (drop needed before)))

    pub cnf_there : take (answer_of r).place after ≡ cnf_words (problem version ws)
    cnf_there = rw holds (take_at (cnf_words (problem version ws)) (drop needed before) (answer_of r).place (sym place_is))

-- The promise of writing decides its answer, and what the room holds after it. Assumes nothing.
use mathlib.Core.Path.{◌≡◌, sym, ◌∙◌, ap}
use mathlib.Core.List.{List}
use Prim.Native.Nat.{ℕ}
use native.Mathlib.Omega.{arith}
use lib.IntN.{ℤ}
use Rattle.std.specs.Prelude.{Result, Ok, Err, IfOk}
use Rattle.answers.specs.Answers.{Answer}
use Rattle.answers.proofs.Answers.{number_of, place_of}
use Rattle.meaning.specs.Problem as problems
use Rattle.meaning.specs.Calls.{room_after_writing}
use Rattle.counts.specs.declared.Counts.{Counts}
use Rattle.counts.specs.Promise.{counts_of}
use Rattle.problem.specs.declared.Refusal.{Refusal}
use Rattle.problem.specs.declared.Refusal.TheVariants.{BadVersion, BadLength, OutsideLimits, BadReset, BadLiteral, BadNode}
use Rattle.problem.specs.Promise.{refusal_answer}
use Rattle.problem.proofs.Unique.{refusal_unique, refusal_not_yes}
use Rattle.encoder.specs.declared.NotWritten.{NotWritten}
use Rattle.encoder.specs.declared.NotWritten.TheVariants.{Problem, RoomTooSmall}
use Rattle.encoder.specs.Promise.{not_written_answer, answer_of, EncodedAs}

-- No refusal of a problem has the number of a room too small.
refusal_not_room : (f : Refusal) → (refusal_answer f).number ≡ 6 → ⊥
refusal_not_room BadVersion e = omega arith
refusal_not_room (BadLength n) e = omega arith
refusal_not_room (OutsideLimits i) e = omega arith
refusal_not_room (BadReset i) e = omega arith
refusal_not_room (BadLiteral i) e = omega arith
refusal_not_room (BadNode i) e = omega arith

same_refusal : (e e' : NotWritten) → not_written_answer e ≡ not_written_answer e' → e ≡ e'
same_refusal (Problem f) (Problem f') s = ap Problem (refusal_unique f f' s)
same_refusal (Problem f) (RoomTooSmall n) s = absurd (refusal_not_room f (number_of s))
same_refusal (RoomTooSmall n) (Problem f) s = absurd (refusal_not_room f (number_of (sym s)))
same_refusal (RoomTooSmall n) (RoomTooSmall n') s = ap RoomTooSmall (place_of s)

-- No refusal has the number of a yes.
not_written_not_yes : (e : NotWritten) → (not_written_answer e).number ≡ 0 → ⊥
not_written_not_yes (Problem f) s = refusal_not_yes f s
not_written_not_yes (RoomTooSmall n) s = absurd (omega arith)

same_outcome : (p : problems.Problem) (r r' : Result Counts NotWritten) → IfOk r (λ n. n ≡ counts_of p) → IfOk r' (λ n. n ≡ counts_of p) → answer_of r ≡ answer_of r' → r ≡ r'
same_outcome p (Ok n) (Ok n') c c' s = ap Ok (c ∙ sym c')
same_outcome p (Ok n) (Err e) c c' s = absurd (not_written_not_yes e (number_of (sym s)))
same_outcome p (Err e) (Ok n) c c' s = absurd (not_written_not_yes e (number_of s))
same_outcome p (Err e) (Err e') c c' s = ap Err (same_refusal e e' s)

pub encoded_unique : (version : ℕ) (ws : List ℕ) (before : List ℤ) (r r' : Result Counts NotWritten) (after after' : List ℤ)
    → EncodedAs version ws before r after → EncodedAs version ws before r' after' → ((r ≡ r') × (after ≡ after'))
encoded_unique version ws before r r' after after' a a' =
    let same = a.answered ∙ sym a'.answered in (
      same_outcome (problems.problem version ws) r r' a.numbered a'.numbered same,
      a.room_after ∙ ap (λ (x : Answer). room_after_writing x version ws before) same ∙ sym a'.room_after,
    )

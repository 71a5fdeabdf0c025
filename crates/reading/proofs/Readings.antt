-- What one more read leaves of a reading's buffer and of its reader. Assumes nothing.
use Rattle.std.proofs.Common.{◌≡◌, ℕ, ◌+◌, ◌≤◌, List, ◌++◌, length, take, drop, Option, arith, sym, ap, ◌∙◌, subst}
use Rattle.std.proofs.Math.Seq.{length-paste, drop-drop}
use Rattle.std.proofs.lemmas.List.Edits.{take-paste, drop-paste}
use Rattle.std.proofs.KnownBytes.{Consumes-trans}
use Rattle.std.specs.Io.KnownBytes.{Consumes}
use Rattle.std.proofs.Math.Seq.{paste}

-- What a read that did not fail says of the buffer.
abbrev pub Came : ℕ → List ℕ → List ℕ → ℕ → List ℕ → Type 0
Came at before chunk n after = (n ≤ length chunk) × (at + n ≤ length before) × (after ≡ paste before at chunk n)

-- The bytes past those that were read are as they were before all reads.
pub past_more : (done n : ℕ) (first before chunk after : List ℕ) → drop done before ≡ drop done first → Came done before chunk n after
    → (done + n ≤ length after) × (drop (done + n) after ≡ drop (done + n) first)
past_more done n first before chunk after same (in_chunk, fits, e) =
    let kept = length-paste before done chunk n fits in_chunk in
    let past = drop-paste before done chunk n (omega arith) in_chunk in
    rw e (omega arith, past ∙ sym (drop-drop n done before) ∙ ap (drop n) same ∙ drop-drop n done first)

-- The bytes that were read are those that the reader gave.
pub given_more : (done n : ℕ) (at_first now next : Option (List ℕ)) (before chunk after : List ℕ)
    → Consumes at_first now (take done before) → Consumes now next (take n chunk) → Came done before chunk n after
    → Consumes at_first next (take (done + n) after)
given_more done n at_first now next before chunk after earlier more (in_chunk, fits, e) =
    let joined : take (done + n) after ≡ take done before ++ take n chunk = ap (take (done + n)) e ∙ take-paste before done chunk n (omega arith) in_chunk in
    subst (Consumes at_first next) (sym joined) (Consumes-trans at_first now next _ _ earlier more)

-- Laws of the promise `Prints`: a text that is too long, one that is put, and what an answer says of the text. Assumes nothing.
use Rattle.std.proofs.Common.{Result, Ok, Err}
use mathlib.Core.Path.{◌≡◌, refl, ap}
use mathlib.Core.Bool.{Bool, true, false, cond}
use mathlib.Core.List.{List}
use Prim.Native.Nat.{ℕ, ◌≤◌, ◌<◌}
use native.Mathlib.Omega.{arith}
use borrow.Author.Tests.{leb-false, le-leb, lt-leb}
use lib.Dec.{leb}
use lib.ListN.{length}
use Rattle.answers.specs.Lists.{written}
use Rattle.text.proofs.Buffers.{Put}
use Rattle.job_file.specs.Promise.{size, Prints}

-- What is printed is another name of the text.
pub prints_as : {text same out : List ℕ} {r : Result ℕ ℕ} {left : List ℕ} → text ≡ same → Prints text out r left → Prints same out r left
prints_as e p = rw (← e) p

-- ════════ The promise kept ════════

pub prints_short : (text out : List ℕ) (n : ℕ) → n ≡ size text → length out < n → Prints text out (Err n) out
prints_short text out n e h =
    let long : leb (length text) (length out) ≡ false = lt-leb (length text) (length out) (omega arith) in
    record { answered = rw long (ap Err e); left = rw long }

pub prints_bytes : {text out : List ℕ} {n : ℕ} {out' : List ℕ} → length text ≤ length out → Put text 0 out n out'
    → Prints text out (Ok n) out'
prints_bytes {text} {out} {n} {out'} h a =
    let fits : leb (length text) (length out) ≡ true = le-leb _ _ h in
    let all : n ≡ length text = omega (arith, a.after) in
    record { answered = rw fits (ap Ok all); left = rw fits a.held }

-- ════════ What it says ════════

-- The bytes that were written are those of the text.
pub written_whole : {text out : List ℕ} {n : ℕ} {out' : List ℕ} → Prints text out (Ok n) out' → (n ≡ length text) × (out' ≡ written text out)
written_whole {text} {out} {n} {out'} p = go (leb (length text) (length out)) p.answered p.left
  where
    go : (b : Bool) → Ok n ≡ cond b (Ok (length text)) (Err (size text)) → out' ≡ cond b (written text out) out
        → (n ≡ length text) × (out' ≡ written text out)
    go true e f = ((cc), f)
    go false e f = absurd (cc)

pub short_without_room : {text out : List ℕ} {n : ℕ} {out' : List ℕ} → Prints text out (Err n) out' → length out < length text
short_without_room {text} {out} {n} {out'} p = go (leb (length text) (length out)) refl p.answered
  where
    go : (b : Bool) → leb (length text) (length out) ≡ b → Err n ≡ cond b (Ok (length text)) (Err (size text)) → length out < length text
    go true l e = absurd (cc)
    go false l e = leb-false (length text) (length out) l

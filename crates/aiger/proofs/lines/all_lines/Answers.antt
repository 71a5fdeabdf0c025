-- The end of the header's line, then the lines of each kind; a fault among them is the whole's. Assumes nothing.
use mathlib.Core.List.{List, [], ◌∷◌, ◌++◌}
use Prim.Native.Nat.{ℕ}
use Rattle.std.proofs.Common.{Err}
use Rattle.text.specs.Readings.{Reader, in_turn, newline}
use Rattle.aiger.specs.Circuits.{Sizes}
use Rattle.aiger.specs.Texts.{lines_due}
use Rattle.aiger.specs.Reads.{lines_of, Keeps}
use Rattle.aiger.specs.declared.due.Reached.{Reached}
use Rattle.aiger.specs.declared.sizes.Kind.TheVariants.{Input, Latch, Output, Gate}
use Rattle.aiger.proofs.DueLaws.{exit}
use Rattle.aiger.proofs.LinesLaws.{passed, lasts, joined, among_end}
use Rattle.aiger.proofs.lines.all_lines.Goals as goal

abbrev opening : List Reader
opening = newline ∷ []

abbrev to_inputs : Sizes → List Reader
to_inputs s = opening ++ lines_of Input s

abbrev to_latches : Sizes → List Reader
to_latches s = to_inputs s ++ lines_of Latch s

abbrev to_outputs : Sizes → List Reader
to_outputs s = to_latches s ++ lines_of Output s

module _ (s : Sizes) {n p : ℕ} {text t t' : List ℕ} {r : Reached} where
  after_outputs : Keeps n (in_turn (to_outputs s)) text r t (Err p) t' → Keeps 0 (in_turn (lines_due s)) text r t (Err p) t'
  after_outputs k = among_end (to_outputs s) (lines_of Gate s) k

  after_latches : Keeps n (in_turn (to_latches s)) text r t (Err p) t' → Keeps 0 (in_turn (lines_due s)) text r t (Err p) t'
  after_latches k = among_end (to_outputs s) (lines_of Gate s) (among_end (to_latches s) (lines_of Output s) k)

  after_inputs : Keeps n (in_turn (to_inputs s)) text r t (Err p) t' → Keeps 0 (in_turn (lines_due s)) text r t (Err p) t'
  after_inputs k =
      among_end (to_outputs s) (lines_of Gate s)
      (among_end (to_latches s) (lines_of Output s) (among_end (to_inputs s) (lines_of Latch s) k))

pub returns-in_err-opened : goal.returns-in_err-opened
returns-in_err-opened c =
    let s = c.args.s in
    rw (exit c.from_residual.ensures.1)
    (after_inputs s (among_end opening (lines_of Input s) (lasts (passed {t = c.args.table.now} c.in_err-opened.ensures)))).reads

pub returns-in_err-inputs : goal.returns-in_err-inputs
returns-in_err-inputs c =
    let s = c.args.s in
    rw (exit c.from_residual-in_err-inputs.ensures.1)
    (after_inputs s (joined opening (lines_of Input s) (lasts (passed c.in_ok-opened.ensures)) c.in_err-inputs.ensures)).reads

pub returns-in_err-latches : goal.returns-in_err-latches
returns-in_err-latches c =
    let s = c.args.s in
    rw (exit c.from_residual-in_err-latches.ensures.1)
    (after_latches s
    (joined (to_inputs s) (lines_of Latch s)
    (joined opening (lines_of Input s) (lasts (passed c.in_ok-opened.ensures)) c.in_ok-inputs.ensures)
    c.in_err-latches.ensures)).reads

pub returns-in_err-outputs : goal.returns-in_err-outputs
returns-in_err-outputs c =
    let s = c.args.s in
    rw (exit c.from_residual-in_err-outputs.ensures.1)
    (after_outputs s
    (joined (to_latches s) (lines_of Output s)
    (joined (to_inputs s) (lines_of Latch s)
    (joined opening (lines_of Input s) (lasts (passed c.in_ok-opened.ensures)) c.in_ok-inputs.ensures)
    c.in_ok-latches.ensures)
    c.in_err-outputs.ensures)).reads

pub returns : goal.returns
returns c =
    let s = c.args.s in
    let all =
    joined (to_outputs s) (lines_of Gate s)
    (joined (to_latches s) (lines_of Output s)
    (joined (to_inputs s) (lines_of Latch s)
    (joined opening (lines_of Input s) (lasts (passed c.in_ok-opened.ensures)) c.in_ok-inputs.ensures)
    c.in_ok-latches.ensures)
    c.in_ok-outputs.ensures)
    c.lines-4.ensures in
    all.reads

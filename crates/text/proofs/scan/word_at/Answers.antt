use Rattle.std.proofs.Common.{◌≡◌, [], ◌∷◌, ap, ◌+◌, ◌<◌, List, ℕ, false, drop, length, get_or, add-one, drop-cons, arith, sym, ◌∙◌, refl}
use Rattle.text.specs.Readings.{parts, word_of}
use Rattle.text.proofs.ByteByByte.{states_after, scanned_from}
use Rattle.text.proofs.StateLaws.{scanned_none}
use Rattle.text.proofs.scan.word_at.Goals as goal

-- The word at a byte that parts no words begins with it.
word_from : (text : List ℕ) (end : ℕ) → end < length text → parts (get_or text end 0) ≡ false
    → word_of (drop end text) ≡ get_or text end 0 ∷ word_of (drop (end + 1) text)
word_from text end h e = rw (drop-cons text end 0 h, e, add-one end)

pub loop-end-init : goal.loop-end-init
loop-end-init c =
    let word = word_of (drop c.args.at c.args.text.now) in
    record { state_is = sym (scanned_from [] word ∙ ap (λ s. states_after s word) scanned_none); end_is = refl }

pub loop-end-preserved : goal.loop-end-preserved
loop-end-preserved c =
    let l = c.loop-end in
    let more = word_from c.args.text.now l.end c.loop-end-test.true (sym c.is_parting.ensures ∙ c.if-is_parting.false) in
    record {
      state_is = rw c.state_after-state.ensures (rw more at l.invariant.state_is);
      end_is = omega (arith, rw more at l.invariant.end_is);
    }

-- A free latch takes the next digit, a fixed one its reset. Assumes nothing.
use Rattle.std.proofs.Common.{◌≡◌, ℕ, ◌+◌, ◌-◌, ◌<◌, ◌≤◌, List, length, sym, ◌∙◌, ap, get_or, arith}
use Rattle.answers.specs.Limits.{inputs_limit, latches_limit}
use Rattle.meaning.specs.Problem.{Problem, latch, latch_place, word}
use Rattle.problem.specs.declared.Outline.{Outline}
use Rattle.problem.specs.Promise.{outline_of, problem_in}
use Rattle.problem.proofs.Outlines.{shows, reset_read}
use Rattle.finder.specs.Runs.{resets}
use Rattle.finder.proofs.Digits.{length_resets, reset_of}
use Rattle.finder.proofs.FirstLatches.{free_latch, fixed_latch}
use Rattle.finder.proofs.run.latches_by.Goals as goal

-- The word after a latch's first is its reset.
reset_is : {p : Problem} (s : Outline) (ws : List ℕ) (i : ℕ) {at x : ℕ} → problem_in s ws ≡ p → i < length p.latches
    → at ≡ latch_place (outline_of s) i → x ≡ word ws (at + 1) → x ≡ (latch p i).reset
reset_is s ws i same l place read =
    let few : i < s.latches = omega (arith, ap (λ (q : Problem). length q.latches) same, (shows s ws).latches_are) in
    read ∙ ap (λ n. word ws (n + 1)) place ∙ reset_read s ws i few ∙ ap (λ (q : Problem). (latch q i).reset) same

pub loop-i-preserved-then-reset-eq-FREE : goal.loop-i-preserved-then-reset-eq-FREE
unfolding inputs_limit latches_limit
loop-i-preserved-then-reset-eq-FREE c =
    let p = c.args.p.now in
    let i = c.loop-i.i - 1 in
    let same = c.parts.ensures ∙ c.shown.ensures.is in
    let is = reset_is c.parts.result.1 c.parts.result.0.now i same (omega arith) c.latch_place.ensures c.word_at-reset.ensures in
    let read : get_or (resets p) i 2 ≡ 2 = reset_of p i ∙ sym is ∙ c.if-reset-eq-FREE.true in
    rw c.inputs.ensures.is (free_latch c.loop-i.invariant (omega (arith, length_resets p, c.shown.ensures.proper.inputs_within, c.shown.ensures.proper.latches_within)) i (omega arith) read)

pub loop-i-preserved : goal.loop-i-preserved
unfolding inputs_limit latches_limit
loop-i-preserved c =
    let p = c.args.p.now in
    let i = c.loop-i.i - 1 in
    let same = c.parts.ensures ∙ c.shown.ensures.is in
    let is = reset_is c.parts.result.1 c.parts.result.0.now i same (omega arith) c.latch_place.ensures c.word_at-reset.ensures in
    let read : c.word_at-reset.result ≡ get_or (resets p) i 2 = is ∙ sym (reset_of p i) in
    let small : (latch p i).reset ≤ 2 = c.shown.ensures.proper.reset_in_range i (omega arith) in
    rw c.inputs.ensures.is
    (fixed_latch c.loop-i.invariant (omega (arith, length_resets p, c.shown.ensures.proper.inputs_within, c.shown.ensures.proper.latches_within)) i (omega arith) read (omega (arith, read, reset_of p i, small, c.if-reset-eq-FREE.false)))

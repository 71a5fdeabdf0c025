-- Each turn asks one latch of the part of the other row from the place on; past that part `find` asks those that are left. Assumes nothing.
use Rattle.std.proofs.Common.{rules, ◌≡◌, length, refl, sym, ◌∙◌, ap, true, false, Bool, ℕ, List, Some, zero-le, arith, length-take}
use borrow.Author.Tests.{tests}
use borrow.Author.Count.{below_more}
use Rattle.std.proofs.lemmas.Iterator.{first_from_Range}
use Rattle.meaning.specs.Problem.{Problem, latch}
use Rattle.meaning.specs.Runs.{literal_value}
use Rattle.problem.specs.declared.Outline.{Outline}
use Rattle.problem.specs.Promise.{problem_in}
use Rattle.problem.proofs.Outlines.{shows}
use Rattle.values.specs.Values.{closed_at}
use Rattle.values.proofs.FirstOpen.{value_of, same_closed, part_closed, tested, first_found, found_past}
use Rattle.values.proofs.latches.first_open.Goals as goal

-- The outline's number of latches is the problem's.
latches_are : {p : Problem} (s : Outline) (ws : List ℕ) → problem_in s ws ≡ p → length p.latches ≡ s.latches
latches_are s ws e = sym (ap (λ (q : Problem). length q.latches) e) ∙ (shows s ws).latches_are

-- What a turn computes is the latch's next value.
value_is : {p : Problem} (row : List Bool) (s : Outline) (ws : List ℕ) (i : ℕ) {x : ℕ} {v : Bool} → problem_in s ws ≡ p
    → x ≡ (latch (problem_in s ws) i).next → v ≡ literal_value row x → v ≡ literal_value row (latch p i).next
value_is row s ws i same next value = value ∙ ap (literal_value row) (next ∙ ap (λ (q : Problem). (latch q i).next) same)

pub returns-then-literal-value : goal.returns-then-literal-value
returns-then-literal-value c =
    let p = c.args.p.now in
    let row = c.args.row.now in
    let there = c.args.there.now in
    let i = c.loop-i.i in
    let from = c.min.ensures in
    let few = latches_are c.parts.result.1 c.parts.result.0.now c.parts.ensures in
    let value = value_is row c.parts.result.1 c.parts.result.0.now i c.parts.ensures c.next_literal.ensures c.literal.ensures in
    let fails = tested p row there c.args.at from _ i c.loop-i-test.true value c.if-literal-value.true in
    first_found p row there c.args.at from (length p.latches) refl (Some i)
    (zero-le, omega (arith, length-take {A = Bool}), fails, λ j z h. part_closed p row there c.args.at from j (c.loop-i.invariant j h))

pub loop-i-preserved : goal.loop-i-preserved
loop-i-preserved c =
    let p = c.args.p.now in
    let row = c.args.row.now in
    let there = c.args.there.now in
    let i = c.loop-i.i in
    let from = c.min.ensures in
    let value = value_is row c.parts.result.1 c.parts.result.0.now i c.parts.ensures c.next_literal.ensures c.literal.ensures in
    let passes = tested p row there c.args.at from _ i c.loop-i-test.true value c.if-literal-value.false in
    below_more (λ j. closed_at p row there c.args.at j ≡ true) i c.loop-i.invariant (same_closed p row there c.args.at from i passes)

pub returns : goal.returns
returns c =
    let p = c.args.p.now in
    let row = c.args.row.now in
    let there = c.args.there.now in
    let from = c.min.ensures in
    let few = latches_are c.parts.result.1 c.parts.result.0.now c.parts.ensures in
    let value = value_of p row there c.args.at from in
    found_past p row there c.args.at from (λ j h. c.loop-i.invariant j (omega (arith, length-take {A = Bool}))) (λ h. omega arith) c.latches.ensures c.find.result
    (first_from_Range _ _ _ c.find.result (λ i. value i ≡ true) (λ i. value i ≡ false) c.find.ensures.ran
    (λ x q k. search (rules, tests)) (λ x q k. search (rules, tests)))

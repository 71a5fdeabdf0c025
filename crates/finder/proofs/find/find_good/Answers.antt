-- 17, 18, or what the search answers. Assumes nothing.
use Rattle.std.proofs.Common.{◌∙◌, arith}
use Rattle.answers.specs.Limits.{search_limit}
use Rattle.values.proofs.FirstOpen.{length_is}
use Rattle.finder.proofs.FirstFound.{best_is_first, best_is_none}
use Rattle.finder.proofs.FinderAnswers.{all_runs, too_much, too_small, searched, none_found, one_found}
use Rattle.finder.proofs.find.find_good.Goals as goal

pub returns-then-bits-gt-SEARCH_LIMIT : goal.returns-then-bits-gt-SEARCH_LIMIT
unfolding search_limit
returns-then-bits-gt-SEARCH_LIMIT c = too_much c.args.p.now c.open_bytes-bits.ensures c.if-bits-gt-SEARCH_LIMIT.true

pub returns-then-room-needed : goal.returns-then-room-needed
unfolding search_limit
returns-then-room-needed c =
    let needed = (rw c.shown.ensures.is at c.witness_length-needed.ensures) ∙ length_is _ c.shown.ensures.proper.inputs_within c.shown.ensures.proper.latches_within c.shown.ensures.proper.bound_within in
    too_small c.args.p.now c.open_bytes-bits.ensures c.if-bits-gt-SEARCH_LIMIT.false needed c.if-room-needed.true

pub returns-in_default : goal.returns-in_default
unfolding search_limit
returns-in_default c =
    let needed = (rw c.shown.ensures.is at c.witness_length-needed.ensures) ∙ length_is _ c.shown.ensures.proper.inputs_within c.shown.ensures.proper.latches_within c.shown.ensures.proper.bound_within in
    let runs = all_runs c.open_bytes-bits.ensures c.if-bits-gt-SEARCH_LIMIT.false in
    let none = none_found c.args.p.now c.args.room.now (best_is_none c.shown.ensures.proper (rw (c.held.ensures.is, runs) at c.in_default.ensures)) in
    searched c.args.p.now c.open_bytes-bits.ensures c.if-bits-gt-SEARCH_LIMIT.false needed c.if-room-needed.false none.0 none.1

pub write-requires : goal.write-requires
write-requires c =
    let needed = (rw c.shown.ensures.is at c.witness_length-needed.ensures) ∙ length_is _ c.shown.ensures.proper.inputs_within c.shown.ensures.proper.latches_within c.shown.ensures.proper.bound_within in
    ((rw c.held.ensures.is at c.in-Some.ensures).within, omega (arith, needed, c.if-room-needed.false))

pub returns : goal.returns
unfolding search_limit
returns c =
    let needed = (rw c.shown.ensures.is at c.witness_length-needed.ensures) ∙ length_is _ c.shown.ensures.proper.inputs_within c.shown.ensures.proper.latches_within c.shown.ensures.proper.bound_within in
    let runs = all_runs c.open_bytes-bits.ensures c.if-bits-gt-SEARCH_LIMIT.false in
    let first = best_is_first c.shown.ensures.proper (rw (c.held.ensures.is, runs) at c.in-Some.ensures) in
    let one = one_found c.args.p.now c.args.room.now first.1 needed c.write.ensures in
    searched c.args.p.now c.open_bytes-bits.ensures c.if-bits-gt-SEARCH_LIMIT.false needed c.if-room-needed.false one.0 one.1

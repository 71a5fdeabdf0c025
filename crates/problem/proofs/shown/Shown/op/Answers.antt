-- The first word of a node is its op, with those at the next two places; past the end the node is an atom. Assumes nothing.
use Rattle.std.proofs.Common.{sym, ◌∙◌, ap, ◌+◌}
use Rattle.meaning.specs.Problem.{word, node_place, node}
use Rattle.problem.specs.Promise.{outline_of}
use Rattle.problem.proofs.Outlines.{node_words_read, nodes_past}
use Rattle.problem.proofs.shown.Shown.op.Goals as goal

pub returns-then-n-self : goal.returns-then-n-self
returns-then-n-self c =
    let s = c.self.inside.outline in
    let ws = c.self.inside.words.now in
    let n = c.args.n in
    let at = node_place (outline_of s) n in (
      word ws (at + 1),
      word ws (at + 2),
      rw (c.word_at.ensures, c.node_place.ensures) (node_words_read s ws n c.if-n-self.true ∙ ap (λ p. node p n) c.self.view_is),
    )

pub returns-else-n-self : goal.returns-else-n-self
returns-else-n-self c =
    let n = c.args.n in
    (0, 0, sym (nodes_past c.self.inside.outline c.self.inside.words.now n c.if-n-self.false) ∙ ap (λ p. node p n) c.self.view_is)

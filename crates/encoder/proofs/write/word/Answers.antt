-- One word stored. Assumes nothing.
use mir.Facts.{to_z-of_z}
use Rattle.encoder.proofs.OneAfterAnother.{wrote_word}
use Rattle.encoder.proofs.write.word.Goals as goal

pub returns : goal.returns
returns c = rw (to_z-of_z c.ranges.w) (wrote_word _ _ _ c.requires)

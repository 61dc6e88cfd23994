use Rattle.std.proofs.Common.{refl}
use Rattle.er_binary.specs.Inner.Decoders.{all_blocks, still, to_note}
use Rattle.er_binary.specs.Texts.{access_lines}
use Rattle.er_binary.proofs.decoder.Decoder.new.Goals as goal

pub returns-clause-text : goal.returns-clause-text
unfolding still all_blocks access_lines
returns-clause-text c = λ bytes. rw (c.in_ok-from_slice.ensures.items, c.new.ensures) refl

pub returns-clause-touches : goal.returns-clause-touches
unfolding to_note all_blocks
returns-clause-touches c = λ bytes. rw (c.new.ensures, c.new-3.ensures.none, c.new-3.ensures.line) refl

-- What was merged was written.
use Rattle.std.proofs.Common.{refl, rules}
use Rattle.eraser.proofs.merging.write_merged.Goals as goal

pub returns-in-Ok-write_text-clause-merged : goal.returns-in-Ok-write_text-clause-merged
returns-in-Ok-write_text-clause-merged g c = (c.in-Ok.merged, c.in-Ok.ensures, c.in-Ok-write_text.ensures.bytes c.in-Ok.merged.text.items refl, search rules)

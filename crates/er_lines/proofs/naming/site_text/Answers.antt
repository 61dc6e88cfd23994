-- The bytes of a site are ASCII, and so a text.
use Rattle.er_lines.proofs.ByteLemmas.{ascii_text, site_ascii}
use Rattle.er_lines.proofs.naming.site_text.Goals as goal

pub from_utf8_unchecked-requires : goal.from_utf8_unchecked-requires
from_utf8_unchecked-requires c = ascii_text c.args.word.now (site_ascii c.args.word.now c.requires)

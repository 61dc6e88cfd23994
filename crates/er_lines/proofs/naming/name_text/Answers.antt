-- Name bytes are bytes of sites too.
use Rattle.er_lines.proofs.ByteLemmas.{name_printed}
use Rattle.er_lines.proofs.naming.name_text.Goals as goal

pub site_text-requires : goal.site_text-requires
site_text-requires c = name_printed c.args.word.now c.requires

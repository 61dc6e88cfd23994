-- The bytes of a site are printable.
use Rattle.std.proofs.Common.{◌≡◌, true, rules}
use Rattle.er_text.specs.Naming.{is_site_word}
use Rattle.er_text.proofs.SiteLemmas.{site_parts}
use Rattle.er_text.proofs.parsing.site_of.Goals as goal

pub site_text-requires : goal.site_text-requires
site_text-requires c =
    let site : is_site_word c.args.version c.args.word.now ≡ true = search rules in
    (site_parts c.args.version c.args.word.now site).printed

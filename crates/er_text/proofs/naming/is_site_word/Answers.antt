-- A name is the name of a site in each version.
use Rattle.std.proofs.Common.{◌≡◌, true, sym, ◌∙◌, rules}
use Rattle.er_lines.specs.Naming.{is_name}
use Rattle.er_text.proofs.SiteLemmas.{name_word}
use Rattle.er_text.proofs.naming.is_site_word.Goals as goal

pub returns-then-is_name : goal.returns-then-is_name
returns-then-is_name c =
    let named : is_name c.args.word.now ≡ true = search rules in
    c.is_name.ensures ∙ named ∙ sym (name_word c.args.version c.args.word.now named)

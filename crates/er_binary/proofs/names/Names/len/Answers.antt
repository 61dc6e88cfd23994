use Rattle.std.proofs.Common.{◌≡◌, length, sym, ap, ◌∙◌, rules}
use Rattle.er_binary.proofs.NameLemmas.{length_cut}
use Rattle.er_binary.proofs.names.Names.len.Goals as goal

pub returns : goal.returns
returns c =
    let len : c.len.result ≡ length c.self.inside.spans.items = search rules in
    len ∙ sym (length_cut c.self.inside.bytes.items c.self.inside.spans.items) ∙ ap length c.self.view_is

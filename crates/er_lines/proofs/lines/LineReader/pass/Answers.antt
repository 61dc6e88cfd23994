use Rattle.std.proofs.Common.{◌≡◌, ap, arith}
use Rattle.er_lines.specs.Places.{Place}
use Rattle.er_lines.proofs.lines.LineReader.pass.Goals as goal

pub width-width-requires : goal.width-width-requires
width-width-requires c =
    let within = c.requires.within in
    let limit : c.self.inside.limit ≡ c.args.self.now.limit = ap (λ (p : Place). p.limit) c.self.view_is in
    let most = c.self.invariant in
    omega (arith, within, limit, most.0)

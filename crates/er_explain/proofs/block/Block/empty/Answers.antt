use Rattle.std.proofs.Common.{◌&&◌, nat_le}
use Rattle.er_explain.proofs.BlockLemmas.{emptied_books}
use Rattle.er_explain.proofs.block.Block.empty.Goals as goal

pub returns : goal.returns
returns g c =
    emptied_books c.self.inside.places c.remove_between.new.places c.self.inside.books.items c.remove_between.new.books.items c.args.self.now (λ i. nat_le c.args.lo i && nat_le i c.args.hi) c.self.view_is
    c.remove_between.ensures.books

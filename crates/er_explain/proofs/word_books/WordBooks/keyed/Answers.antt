use Rattle.er_explain.proofs.BlockLemmas.{no_blocks}
use Rattle.er_explain.proofs.word_books.WordBooks.keyed.Goals as goal

pub returns : goal.returns
returns g c = no_blocks c.with_hasher.result.entries c.with_hasher.ensures.empty

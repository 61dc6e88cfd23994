use Rattle.er_explain.proofs.SettledLemmas.{settled-book}
use Rattle.er_explain.proofs.laws.a_kept_state_keeps_the_book.Goals as goal

pub returns : goal.returns
returns c = settled-book

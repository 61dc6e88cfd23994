use Rattle.er_parts.proofs.Pages.{pages-make}
use Rattle.er_parts.proofs.laws.pages_of_the_lines_make_the_whole.Goals as goal

pub returns : goal.returns
returns c = pages-make

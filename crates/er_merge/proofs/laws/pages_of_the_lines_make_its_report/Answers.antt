use Rattle.er_merge.proofs.TracePages.{pages_make_report}
use Rattle.er_merge.proofs.laws.pages_of_the_lines_make_its_report.Goals as goal

pub returns : goal.returns
returns c = λ d parts about texts made explain are merges. (merges.2.pages.0, pages_make_report d parts about texts are made merges explain)

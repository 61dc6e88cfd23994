use Rattle.eraser.proofs.MergedLemmas.{whole_written}
use Rattle.eraser.proofs.merging.merged_pages_report_the_whole.Goals as goal

pub returns : goal.returns
returns g c = λ d limit replay touches bytes merges output. whole_written g.R.File.Read.remaining d limit replay touches bytes merges output

use Rattle.er_merge.proofs.ReportLemmas.{text_read}
use Rattle.er_merge.proofs.laws.a_report_is_read_back.Goals as goal

pub returns : goal.returns
returns c = text_read

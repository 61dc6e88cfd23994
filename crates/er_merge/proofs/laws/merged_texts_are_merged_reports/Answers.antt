use Rattle.er_merge.proofs.ReportLemmas.{merged_races, merged_text}
use Rattle.er_merge.proofs.laws.merged_texts_are_merged_reports.Goals as goal

pub returns : goal.returns
returns c = λ names reports texts made plain are follow so. (merged_text names reports texts made plain are follow so, merged_races names reports texts made plain are so)

use Rattle.er_merge.proofs.TraceFaults.{memory_alone}
use Rattle.er_merge.proofs.TraceMerged.{trace_merged}
use Rattle.er_merge.proofs.laws.parts_of_a_trace_make_its_report.Goals as goal

pub returns-clause-text : goal.returns-clause-text
returns-clause-text c = λ d parts about texts made are merges. trace_merged d parts about texts are made merges

pub returns-clause-merged : goal.returns-clause-merged
returns-clause-merged c = λ d parts about texts fault are merges. memory_alone d parts about texts are fault merges

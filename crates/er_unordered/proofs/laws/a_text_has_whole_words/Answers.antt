use Rattle.std.proofs.Common.{ap}
use Rattle.er_batch.proofs.TouchLemmas.{nothing}
use Rattle.er_unordered.proofs.TextLemmas.{report-whole}
use Rattle.er_unordered.specs.Reports.{bytes_by}
use Rattle.er_unordered.proofs.laws.a_text_has_whole_words.Goals as goal

pub returns-clause-whole : goal.returns-clause-whole
returns-clause-whole c = λ lines k. ap bytes_by (nothing _)

pub returns-clause-report : goal.returns-clause-report
returns-clause-report c = report-whole

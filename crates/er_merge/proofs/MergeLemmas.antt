-- The one report, by what its pieces are.
use Rattle.std.proofs.Common.{◌≡◌, ◌++◌, ◌∙◌, List, None, ap, flat_map}
use Rattle.er_print.specs.Printed.{end_text}
use Rattle.er_report.specs.Report.{Summary, told}
use Rattle.er_merge.specs.Merging.{Fails, GivesText, IsGap, IsMerged, Refuses, entry_text, kind_of, number_of_parts, other_in, places_of, sums_of}
use Rattle.er_merge.specs.declared.faults.MergeFault.{MergeFault}
use Rattle.er_merge.specs.declared.faults.MergeFault.TheVariants as merging
use Rattle.er_merge.specs.declared.merging.Merged.{Merged}
use Rattle.er_merge.specs.declared.parts.PartReport.{PartReport}

pub merged_so : (parts : List PartReport) (merged : Merged) → other_in parts ≡ None → IsGap (number_of_parts parts) (places_of parts) None → told merged.counts ≡ sums_of parts
    → GivesText parts merged.counts merged.text.items merged.pages → IsMerged parts merged
merged_so parts merged like each sums text = record {
  like = like;
  each = each;
  entries = text.entries;
  order = text.order;
  text = text.is ∙ ap (λ (s : Summary). flat_map entry_text text.entries ++ end_text (kind_of parts) s) sums;
  counts = sums;
  pages = text.pages;
}

-- what keeps the sums from being made is why there is no report
pub sums_fail : (parts : List PartReport) (fault : MergeFault) → other_in parts ≡ None → IsGap (number_of_parts parts) (places_of parts) None → Fails parts fault → Refuses parts fault
sums_fail parts (merging.Line n line fault) like each wrong = wrong
sums_fail parts (merging.Other n) like each wrong = absurd wrong
sums_fail parts (merging.Twice n) like each wrong = absurd wrong
sums_fail parts (merging.Missing n) like each wrong = absurd wrong
sums_fail parts merging.CountsTooLarge like each wrong = (like, each, wrong)
sums_fail parts merging.Memory like each wrong = tt

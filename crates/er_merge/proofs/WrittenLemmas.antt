-- What is written of all parts of a trace is merged into what is printed for its report.
use Rattle.std.proofs.Common.{◌≡◌, ℕ, zero, suc, ◌+◌, ◌<◌, ◌≤◌, ◌==◌, cond, List, map, Result, Ok, Err, ◌∙◌, arith}
use Rattle.std.specs.List.{All, range_with_len}
use Rattle.std.specs.List.Sorted.{IsPermutation}
use Rattle.std.specs.Prelude.{MatchResult}
use Rattle.std.proofs.lemmas.List.Elements.{All-cons, All-nil, All-weaker}
use Rattle.std.proofs.lemmas.List.Sorted.{All-permutation, sum_by-IsPermutation}
use Rattle.er_parts.specs.Merged.{HasEachPart}
use Rattle.er_parts.proofs.Whole.{each-in-turn}
use Rattle.er_print.specs.Printed.{report_text}
use Rattle.er_text.specs.Trace.{IsTrace}
use Rattle.er_merge.specs.Headings.{about_text}
use Rattle.er_merge.specs.Merging.{Merges}
use Rattle.er_merge.specs.Traces.{AreTextsOfParts, Divided, IsCountable, IsHeadingOf, IsTextOfPart, whole_report, written_part}
use Rattle.er_merge.specs.declared.faults.MergeFault.{MergeFault}
use Rattle.er_merge.specs.declared.faults.MergeFault.TheVariants.{Memory}
use Rattle.er_merge.specs.declared.headings.PartHeading.{PartHeading}
use Rattle.er_merge.specs.declared.merging.Merged.{Merged}
use Rattle.er_merge.proofs.HeadingLemmas.{part_written}
use Rattle.er_merge.proofs.TraceFaults.{memory_alone}
use Rattle.er_merge.proofs.TraceMerged.{trace_merged}

abbrev IsAmong : ℕ → ℕ → ℕ → Type 0
IsAmong a n i = (a ≤ i) × (i < a + n)

range_among : (a n : ℕ) → All (IsAmong a n) (range_with_len a n)
range_among a zero = All-nil (IsAmong a zero)
range_among a (suc n) =
    All-cons (IsAmong a (suc n)) a (range_with_len (a + 1) n) (omega arith, omega arith)
    (All-weaker (IsAmong (a + 1) n) (IsAmong a (suc n)) (λ i is. let low = is.0 in let high = is.1 in (omega (arith, low), omega (arith, high))) (range_with_len (a + 1) n) (range_among (a + 1) n))

each_of : (count : ℕ) (parts : List ℕ) → IsPermutation (range_with_len 1 count) parts → HasEachPart count parts
each_of count parts same = λ i first last. sum_by-IsPermutation (λ part. cond (i == part) 1 0) (range_with_len 1 count) parts same ∙ each-in-turn count i first last

module _ (d : Divided) (limit : ℕ) (heading : PartHeading) (parts : List ℕ) (trace : IsTrace d.text limit d.trace) (counted : IsCountable d) (is : IsHeadingOf d heading) (some : 1 ≤ d.count)
    (same : IsPermutation (range_with_len 1 d.count) parts) where
  texts_so : AreTextsOfParts d parts (λ (i : ℕ). about_text heading) (written_part d heading)
  texts_so = record {
    limit = limit;
    trace = trace;
    counted = counted;
    some = some;
    each = each_of d.count parts same;
    printed = All-permutation (λ (i : ℕ). IsTextOfPart d i (about_text heading) (written_part d heading i)) (range_with_len 1 d.count) parts same
        (All-weaker (IsAmong 1 d.count) (λ (i : ℕ). IsTextOfPart d i (about_text heading) (written_part d heading i))
        (λ i among. let low = among.0 in let high = among.1 in part_written d heading i is low (omega (arith, high))) (range_with_len 1 d.count) (range_among 1 d.count));
  }

  pub written_merged : (result : Result Merged MergeFault) → Merges (map (written_part d heading) parts) result
      → MatchResult result (λ made. (made.text.items ≡ report_text d.trace.names (whole_report d)) × (made.counts.races ≡ (whole_report d).races)) (λ fault. fault ≡ Memory)
  written_merged (Ok made) merges = trace_merged d parts (λ (i : ℕ). about_text heading) (written_part d heading) texts_so made merges
  written_merged (Err fault) merges = memory_alone d parts (about_text heading) (written_part d heading) texts_so fault merges

-- What `eraser merge` leaves of the reports that it has read.
use Rattle.std.specs.Prelude.{◌≡◌, ℕ, cond, false, map, nat_lt, IsSomeAnd, List, Option, Some, Result, Ok, Err}
use Rattle.std.specs.Io.KnownBytes.{Appends}
use Rattle.er_exit.specs.declared.faults.Fault.{Fault}
use Rattle.er_exit.specs.declared.faults.Fault.TheVariants.{Merging}
use Rattle.er_lines.specs.declared.ready.Touch.{Touch}
use Rattle.er_merge.specs.Merging.{Merges}
use Rattle.er_merge.specs.Traces.{AreTextsOfParts, Divided, whole_report}
use Rattle.er_merge.specs.declared.merging.Merged.{Merged}
use Rattle.er_report.specs.Report.{told}
use Rattle.er_report.specs.declared.reports.Analysis.TheVariants.{Lockset}
use Rattle.er_request.specs.declared.request.Replay.{Replay}
use Rattle.er_rules.specs.Rules.{ask_facts}
use Rattle.er_text.specs.Trace.{IsTrace}
use Rattle.eraser.specs.Replays.{IsOutput}

-- the one report was written, and the status says whether it has races; or the reports can't be merged
abbrev pub WritesMerged : List (List ℕ) → Option (List ℕ) → Option (List ℕ) → Result ℕ Fault → Type 0
WritesMerged texts old new (Ok status) =
    (merged : Merged) × Merges texts (Ok merged) × Appends old new merged.text.items × (status ≡ cond (nat_lt 0 merged.counts.races) 1 0)
WritesMerged texts old new (Err (Merging fault)) = Merges texts (Err fault)
WritesMerged texts old new (Err fault) = Unit {0}

-- nothing that was asked for has changed but the part of the trace, and what its report counts
abbrev pub Stays : Replay → Replay → Type 0
Stays old new =
    (new.suppressions ≡ old.suppressions) × (new.write_rules ≡ old.write_rules) × (new.unused_rules ≡ old.unused_rules) × (new.max_races ≡ old.max_races)
    × (new.trace ≡ old.trace) × (new.reports ≡ old.reports) × (new.analysis ≡ old.analysis) × (new.form ≡ old.form) × (new.source ≡ old.source)
    × (new.explain ≡ old.explain) × (new.strict ≡ old.strict) × (new.until_fault ≡ old.until_fault) × (new.progress ≡ old.progress) × (new.hints ≡ old.hints)
    × (new.shards ≡ old.shards) × (new.workers ≡ old.workers) × (new.byte_limit ≡ old.byte_limit) × (new.binary_limit ≡ old.binary_limit)

-- some texts make one report, the pages of its lines are replayed, and these are its counts. That these are the texts of the reports' files isn't shown
abbrev pub IsMergedFor : Replay → Type 0
IsMergedFor replay =
    (texts : List (List ℕ)) × (merged : Merged) × Merges texts (Ok merged) × (replay.part ≡ Some merged.pages) × (replay.counts ≡ Some merged.counts)

-- the replay has the pages and the counts of the merged texts of all parts of this trace, under rules that ask for nothing that the trace says of the program
pub record IsMergedReplay (d : Divided) (limit : ℕ) (replay : Replay) : Type 0 where
  pub parts : List ℕ
  pub about : ℕ → List ℕ
  pub texts : ℕ → List ℕ
  pub made : Merged
  pub are : AreTextsOfParts d parts about texts
  pub merged : Merges (map texts parts) (Ok made)
  pub part : replay.part ≡ Some made.pages
  pub counts : replay.counts ≡ Some made.counts
  pub analysis : replay.analysis ≡ Lockset
  pub trace : IsTrace d.text limit d.trace
  pub no_facts : ask_facts d.rules ≡ false

-- what such a replay writes is the form of a report that says what the report of the whole trace says
abbrev pub MergedIsWhole : {F : Type 0} → (F → Option (List ℕ)) → Type 0
MergedIsWhole remaining = (d : Divided) (limit : ℕ) (replay : Replay) (touches : Option (List Touch)) (bytes : List ℕ) → IsMergedReplay d limit replay
    → (output : IsOutput remaining replay d.text touches limit d.rules bytes) → IsSomeAnd output.found.lockset (λ report. told report ≡ whole_report (record d { explain = replay.explain }))

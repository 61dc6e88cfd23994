-- From the parts of a replay to the whole: what was read, what its run came to, and what was written of it.
use Rattle.std.proofs.Common.{◌≡◌, ◌==◌, ◌||◌, ℕ, nat_lt, Bool, true, false, cond, List, Option, Some, None, Result, Ok, Err, IfSome, IfOk, IfErr, IsFalse, is_some, refl, ap, subst, ◌∙◌, take}
use Rattle.std.specs.Io.KnownBytes.{Appends, Keeps}
use Rattle.er_batch.specs.declared.verdict.Verdict.{Verdict}
use Rattle.er_batch.specs.declared.verdict.Verdict.TheVariants as verdict
use Rattle.er_event.specs.declared.steps.Step.{Step}
use Rattle.er_journal.specs.declared.answers.Stopped.{Stopped}
use Rattle.er_batch.specs.Runs.{IsPartOf}
use Rattle.er_lines.specs.declared.ready.Touch.{Touch}
use Rattle.er_parts.specs.Given.{given_by}
use Rattle.er_parts.specs.Parts.{PartView}
use Rattle.er_print.specs.Printed.{report_text}
use Rattle.er_print.specs.declared.report.WriteFault.TheVariants as writing
use Rattle.er_report.specs.Report.{told as summary, Summary, report_of}
use Rattle.er_report.specs.declared.report.Report.{Report}
use Rattle.er_report.specs.declared.reports.Analysis.TheVariants.{Lockset}
use Rattle.er_report.specs.declared.reports.Reports.{Reports}
use Rattle.er_rules.specs.Rules.{Target}
use Rattle.er_run.specs.Faults.{FailsBy, IsFaultOfText}
use Rattle.er_run.specs.Inner.Written.{WritesFound}
use Rattle.er_run.specs.Replays.{IsBegun, IsFailed, IsReplayed, WritesNothing, is_stopped, verdict_of}
use Rattle.er_run.specs.Reports.{AreReportsOfText, IsReportOfRun, has_races, is_unstopped, is_verdict_of, report_with, stop_in, verdict_by}
use Rattle.er_run.specs.declared.fault.RunFault.{RunFault}
use Rattle.er_run.specs.declared.fault.RunFault.TheVariants.{Read, Write, Replay, Beyond, Memory, Damaged}
use Rattle.er_text.specs.Ending.{lost_told}
use Rattle.er_lines.specs.declared.faults.ReadFault.TheVariants as reading
use Rattle.er_trace.specs.Names.{NameTable}
use Rattle.er_trace.specs.Trace.{Recording}

-- what a part gives of a report has its races and its stop
cond-same : {X : Type 0} (f : Summary → X) (b : Bool) (s t : Summary) → f t ≡ f s → f (cond b s t) ≡ f s
cond-same f true s t same = refl
cond-same f false s t same = same

given-verdict : (part : Option PartView) (steps : List Step) (s : Summary) → (let given : Summary = given_by part steps s in verdict_by given.stop (nat_lt 0 given.races)) ≡ verdict_by s.stop (nat_lt 0 s.races)
given-verdict None steps s = refl
given-verdict (Some part) steps s = cond-same (λ (t : Summary). verdict_by t.stop (nat_lt 0 t.races)) (part.index == 1) s _ refl

-- the verdict by the report's numbers
verdict_from : (part : Option PartView) (lost : Option ℕ) (recording : Recording) (rules : List Target) (explain : Bool) (stop : Option Stopped) (s : Summary)
    → s ≡ report_with part lost recording rules explain stop → verdict_by s.stop (nat_lt 0 s.races) ≡ verdict_of recording rules explain stop
verdict_from part lost recording rules explain None s says =
    ap (λ (t : Summary). verdict_by t.stop (nat_lt 0 t.races)) says ∙ given-verdict part recording.steps (report_of recording rules explain None)
verdict_from part lost recording rules explain (Some stop) s says =
    ap (λ (t : Summary). verdict_by t.stop (nat_lt 0 t.races)) says ∙ given-verdict part recording.steps (report_of recording rules explain (Some stop))

-- the report of the lockset rule alone, of a text
module _ (part : Option PartView) (limit : ℕ) (rules : List Target) (explain : Bool) (old new : Option (List ℕ)) (names : NameTable) (text : List ℕ) (recording : Recording) (trace : IsPartOf part text limit recording) (same : names ≡ recording.names) where
  written-of : (count : List ℕ → List ℕ) (report : Report) → (is : IsReportOfRun part (is_unstopped part Lockset) (lost_told text) recording rules explain report) → Appends old new (count (report_text names (summary report)))
      → Appends old new (count (report_text recording.names (report_with part (lost_told text) recording rules explain is.stop)))
  written-of count report is written =
      subst (λ (s : Summary). Appends old new (count (report_text recording.names s))) is.says
      (subst (λ (n : NameTable). Appends old new (count (report_text n (summary report)))) same written)

  -- was written
  whole : (report unordered : Option Report) (verdict : Verdict) → is_some report ≡ true → is_some unordered ≡ false → IfSome report (λ one. IsReportOfRun part (is_unstopped part Lockset) (lost_told text) recording rules explain one)
      → verdict ≡ verdict_by (stop_in report) (has_races unordered || has_races report) → IfSome report (λ one. Appends old new (report_text names (summary one)))
      → IsReplayed part text limit rules explain old new verdict
  whole None unordered verdict one none is says written = absurd (cc)
  whole (Some report) (Some other) verdict one none is says written = absurd (cc)
  whole (Some report) None verdict one none is says written = record {
    recording = recording;
    stop = is.stop;
    run = record { trace = trace; within = is.within; cause = is.cause };
    written = written-of (λ (bytes : List ℕ). bytes) report is written;
    verdict = says ∙ verdict_from part (lost_told text) recording rules explain is.stop (summary report) is.says;
  }

  -- or a beginning of it
  begun : (report : Option Report) → is_some report ≡ true → IfSome report (λ one. IsReportOfRun part (is_unstopped part Lockset) (lost_told text) recording rules explain one)
      → IfSome report (λ one. (n : ℕ) × Appends old new (take n (report_text names (summary one)))) → IsBegun part text limit rules explain old new
  begun None one is written = absurd (cc)
  begun (Some report) one is written = record {
    recording = recording;
    stop = is.stop;
    count = written.0;
    run = record { trace = trace; within = is.within; cause = is.cause };
    written = written-of (λ (bytes : List ℕ). take written.0 bytes) report is written.1;
  }

module _ (touches : Option (List Touch)) (part : Option PartView) (told : Option (List ℕ)) (limit : ℕ) (rules : List Target) (explain : Bool) (old new : Option (List ℕ)) (names : NameTable) (reports : Reports) (one : is_some reports.lockset ≡ true)
    (are : IfSome told (λ text. AreReportsOfText part Lockset text touches limit rules explain names reports)) where
  whole-by : (o : Option (List ℕ)) (verdict : Verdict) → is_some reports.unordered ≡ false → IfSome o (λ text. AreReportsOfText part Lockset text touches limit rules explain names reports)
      → verdict ≡ is_verdict_of reports → IfSome reports.lockset (λ report. Appends old new (report_text names (summary report))) → IfSome o (λ text. IsReplayed part text limit rules explain old new verdict)
  whole-by None verdict none is says written = tt
  whole-by (Some text) verdict none is says written =
      whole part limit rules explain old new names text is.recording is.trace is.names reports.lockset reports.unordered verdict one none is.lockset says written

  pub whole-of : (result : Result Verdict RunFault) → is_some reports.unordered ≡ false → IfOk result (λ verdict. verdict ≡ is_verdict_of reports)
      → IfSome reports.lockset (λ report. WritesFound old new (report_text names (summary report)) result) → IfOk result (λ verdict. IfSome told (λ text. IsReplayed part text limit rules explain old new verdict))
  whole-of (Ok verdict) none says written = whole-by told verdict none are says written
  whole-of (Err why) none says written = tt

  begun-by : (o : Option (List ℕ)) → IfSome o (λ text. AreReportsOfText part Lockset text touches limit rules explain names reports)
      → IfSome reports.lockset (λ report. (n : ℕ) × Appends old new (take n (report_text names (summary report)))) → IfSome o (λ text. IsBegun part text limit rules explain old new)
  begun-by None is written = tt
  begun-by (Some text) is written = begun part limit rules explain old new names text is.recording is.trace is.names reports.lockset one is.lockset written

  -- a text of which nothing was written is of no report
  unwritten-text : (report : Option Report) → is_some report ≡ true → IfSome report (λ _. ⊥) → ⊥
  unwritten-text None one never = cc
  unwritten-text (Some report) one never = never

  pub failed-of : (result : Result Verdict RunFault) → IfSome reports.lockset (λ report. WritesFound old new (report_text names (summary report)) result) → IsFailed part told limit rules explain old new result
  failed-of (Ok verdict) written = tt
  failed-of (Err (Read fault)) written = absurd (unwritten-text reports.lockset one written)
  failed-of (Err (Replay fault)) written = absurd (unwritten-text reports.lockset one written)
  failed-of (Err (Beyond beyond)) written = absurd (unwritten-text reports.lockset one written)
  failed-of (Err Memory) written = absurd (unwritten-text reports.lockset one written)
  failed-of (Err (Damaged damage)) written = absurd (unwritten-text reports.lockset one written)
  failed-of (Err (Write writing.Memory)) written = tt
  failed-of (Err (Write writing.Write)) written = begun-by told are written

-- or nothing
nothing-by : (old new : Option (List ℕ)) (text : List ℕ) (result : Result Verdict RunFault) → WritesFound old new text result → IfErr result (WritesNothing old new)
nothing-by old new text (Ok verdict) written = tt
nothing-by old new text (Err (Read fault)) written = absurd written
nothing-by old new text (Err (Replay fault)) written = absurd written
nothing-by old new text (Err (Beyond beyond)) written = absurd written
nothing-by old new text (Err Memory) written = absurd written
nothing-by old new text (Err (Damaged damage)) written = absurd written
nothing-by old new text (Err (Write writing.Memory)) written = written
nothing-by old new text (Err (Write writing.Write)) written = tt

pub nothing : (old new : Option (List ℕ)) (names : NameTable) (report : Option Report) (result : Result Verdict RunFault) → is_some report ≡ true
    → IfSome report (λ one. WritesFound old new (report_text names (summary one)) result) → IfErr result (WritesNothing old new)
nothing old new names None result one written = absurd (cc)
nothing old new names (Some report) result one written = nothing-by old new (report_text names (summary report)) result written

-- a fault before a byte was written
pub unwritten : (part : Option PartView) (told : Option (List ℕ)) (limit : ℕ) (rules : List Target) (explain : Bool) (old new : Option (List ℕ)) (why : RunFault) → IsFaultOfText part Lockset told limit why
    → IsFailed part told limit rules explain old new (Err why)
unwritten part told limit rules explain old new (Read fault) is = is
unwritten part told limit rules explain old new (Write fault) is = absurd is
unwritten part told limit rules explain old new (Replay fault) is = is
unwritten part told limit rules explain old new (Beyond beyond) is = is
unwritten part told limit rules explain old new Memory is = is
unwritten part told limit rules explain old new (Damaged damage) is = is

keeps : (old : Option (List ℕ)) → Keeps old old
keeps None = tt
keeps (Some bytes) = refl

pub untouched : (part : Option PartView) (told old : Option (List ℕ)) (limit : ℕ) (why : RunFault) → IsFaultOfText part Lockset told limit why → WritesNothing old old why
untouched part told old limit (Read fault) is = keeps old
untouched part told old limit (Write fault) is = absurd is
untouched part told old limit (Replay fault) is = keeps old
untouched part told old limit (Beyond beyond) is = keeps old
untouched part told old limit Memory is = keeps old
untouched part told old limit (Damaged damage) is = keeps old

-- which of the two failed is told by the fault alone
pub fails-again : (X Y : Type 0) (read written : Bool) (why : RunFault) → FailsBy {X = X} read written (Err why) → FailsBy {X = Y} read written (Err why)
fails-again X Y read written (Read (reading.Text fault)) by = by
fails-again X Y read written (Read reading.Memory) by = by
fails-again X Y read written (Read reading.Read) by = by
fails-again X Y read written (Write writing.Memory) by = by
fails-again X Y read written (Write writing.Write) by = by
fails-again X Y read written (Replay fault) by = by
fails-again X Y read written (Beyond beyond) by = by
fails-again X Y read written Memory by = by
fails-again X Y read written (Damaged damage) by = by

whole_by : (b : Bool) → IsFalse (is_stopped (cond b verdict.Races verdict.Clean))
whole_by true = refl
whole_by false = refl

-- a report without a stop is of a replay that didn't stop
not_stopped : (report : Option Report) (races : Bool) → IfSome report (λ one. one.stop ≡ None) → IsFalse (is_stopped (verdict_by (stop_in report) races))
not_stopped None races none = whole_by races
not_stopped (Some report) races none = rw none (whole_by races)

pub whole-verdict : (reports : Reports) (result : Result Verdict RunFault) → IfSome reports.lockset (λ report. report.stop ≡ None) → IfOk result (λ verdict. verdict ≡ is_verdict_of reports)
    → IfOk result (λ verdict. IsFalse (is_stopped verdict))
whole-verdict reports (Ok verdict) none says = rw says (not_stopped reports.lockset (has_races reports.unordered || has_races reports.lockset) none)
whole-verdict reports (Err why) none says = tt

-- How a replay ends.
use Rattle.std.proofs.Common.{◌≡◌, ◌≢◌, ◌∙◌, ◌++◌, ℕ, Bool, true, false, cond, nat_lt, is_some, IsFalse, inl, inr, List, [], append-nil, take, Option, Some, None, IsSome, IfSome, IfOk, IfErr, Result, Ok, Err, codes, refl, sym, ap, subst}
use Rattle.std.specs.Io.KnownBytes.{Appends, Keeps}
use Rattle.er_batch.specs.Runs.{IsRunOf}
use Rattle.er_binary.specs.Meaning.{meant}
use Rattle.er_exit.specs.Parts.{IsHeading}
use Rattle.er_exit.specs.Writes.{LeavesOutput}
use Rattle.er_exit.specs.declared.faults.Fault.{Fault}
use Rattle.er_exit.specs.declared.faults.Fault.TheVariants as fault
use Rattle.er_forms.specs.Forms.{IsForm}
use Rattle.er_journal.specs.declared.answers.Stopped.{Stopped}
use Rattle.er_parts.specs.Parts.{PartView}
use Rattle.er_print.specs.Printed.{report_text, reports_text}
use Rattle.er_report.specs.Report.{Summary, told}
use Rattle.er_report.specs.Reports.{asks_locks, asks_order}
use Rattle.er_report.specs.declared.report.Report.{Report}
use Rattle.er_report.specs.declared.reports.Analysis.{Analysis}
use Rattle.er_report.specs.declared.reports.Analysis.TheVariants.{Lockset}
use Rattle.er_report.specs.declared.reports.Form.{Form}
use Rattle.er_report.specs.declared.reports.Reports.{Reports}
use Rattle.er_request.specs.Words.{IsUsual, usual_limit}
use Rattle.er_request.specs.declared.request.Replay.{Replay}
use Rattle.er_rules.specs.Rules.{Target}
use Rattle.er_run.specs.Faults.{IsFaultOfText, IsNoDamage, IsOfReading}
use Rattle.er_run.specs.Replays.{IsBegun, output_of, verdict_of}
use Rattle.er_run.specs.Reports.{AreReportsOfText, IsOrderOfText, IsReportOfRun, is_verdict_of, report_with, verdict_by}
use Rattle.er_run.specs.declared.fault.RunFault.{RunFault}
use Rattle.er_run.specs.declared.fault.RunFault.TheVariants as running
use Rattle.er_text.specs.Ending.{IsEndingOf, lost_told}
use Rattle.er_lines.specs.declared.faults.ReadFault.TheVariants as reading
use Rattle.er_lines.specs.declared.ready.Touch.{Touch}
use Rattle.er_trace.specs.Names.{NameTable}
use Rattle.er_trace.specs.Trace.{Recording}
use Rattle.er_triage.specs.First.{KeepFirst}
use Rattle.eraser.specs.Faults.{replay_fault}
use Rattle.eraser.specs.Replays.{AreCounted, EndsAs, EndsUsually, FailsAs, FailsCut, IsEndOf, IsFoundFault, IsOutput, IsUsualFault, MayLack, MayLackRaces, LeavesUsually, OfTrace, OfTraceFile, ReplaysTo, UnderRules, headed_part, limit_of, touched_in, unordered_of}
use Rattle.eraser.specs.declared.replaying.Ended.{Ended}
use Rattle.eraser.specs.declared.until.Cut.{Cut}

-- The usual replay

there : (o : Option Report) → is_some o ≡ true → (report : Report) × (o ≡ Some report)
there None none = cc
there (Some report) some = (report, refl)

not_there : (o : Option Report) → is_some o ≡ false → o ≡ None
not_there None none = refl
not_there (Some report) some = cc

-- the text of the one report
text_alone : (names : NameTable) (reports : Reports) (report : Report) → reports.lockset ≡ Some report → reports.unordered ≡ None → reports_text names reports ≡ report_text names (told report)
unfolding reports_text
text_alone names reports report one none = rw (one, none) (append-nil (report_text names (told report)))

-- and its verdict
verdict_alone : (reports : Reports) (report : Report) → reports.lockset ≡ Some report → reports.unordered ≡ None → is_verdict_of reports ≡ verdict_by report.stop (nat_lt 0 report.races)
verdict_alone reports report one none = rw (one, none) refl

verdict_from : (lost : Option ℕ) (r : Recording) (stop : Option Stopped) (s : Summary) → s ≡ report_with None lost r [] false stop → verdict_by s.stop (nat_lt 0 s.races) ≡ verdict_of r [] false stop
verdict_from lost r None s says = ap (λ (t : Summary). verdict_by t.stop (nat_lt 0 t.races)) says
verdict_from lost r (Some stop) s says = ap (λ (t : Summary). verdict_by t.stop (nat_lt 0 t.races)) says

no_order : (has_order : Bool) (reports : Reports) → reports.unordered ≡ None → unordered_of has_order reports ≡ 0
no_order true reports none = refl
no_order false reports none = rw none refl

-- the report of the lockset rule is alone, and it is that of a run of the text
record IsAlone (text : List ℕ) (found left : Reports) (bytes : List ℕ) : Type 0 where
  pub recording : Recording
  pub report : Report
  pub stop : Option Stopped
  pub one : left.lockset ≡ Some report
  pub none : left.unordered ≡ None
  pub none_found : found.unordered ≡ None
  pub run : IsRunOf None text usual_limit recording stop
  pub says : told report ≡ report_with None (lost_told text) recording [] false stop
  pub bytes_are : bytes ≡ output_of None text recording [] false stop

-- without rules none asks for facts
no_race_lacks : (replay : Replay) (raced found : Reports) → MayLackRaces replay [] raced found → raced ≡ found
no_race_lacks replay raced found (inl same) = same
no_race_lacks replay raced found (inr (asks, again, left)) = absurd (cc)

nothing_lacks : (replay : Replay) (raced found : Reports) → replay.counts ≡ None → MayLack replay [] raced found → raced ≡ found
nothing_lacks replay raced found none (lacking, lacks, counted) =
    no_race_lacks replay raced lacking lacks ∙ subst (λ (counts : Option Report). AreCounted counts lacking found) none counted

-- and no part has a first line
no_part : (replay : Replay) → IsUsual replay → headed_part replay ≡ None
no_part replay usual = ap (λ (counts : Option Report). cond (is_some counts) None replay.part) usual.counts ∙ usual.part

alone : {F : Type 0} (remaining : F → Option (List ℕ)) (replay : Replay) (text bytes : List ℕ) (touches : Option (List Touch)) (output : IsOutput remaining replay text touches replay.byte_limit [] bytes) → IsUsual replay → IsAlone text output.found output.left bytes
alone remaining replay text bytes touches output usual = with_report (there output.found.lockset (output.locks ∙ ap asks_locks usual.analysis))
  where
    reports : AreReportsOfText None Lockset text touches usual_limit [] false output.names output.found
    reports =
        subst (λ (r : Reports). AreReportsOfText None Lockset text touches usual_limit [] false output.names r) (nothing_lacks replay output.raced output.found usual.counts output.facts)
        (subst (λ (a : Analysis). AreReportsOfText None a text touches usual_limit [] false output.names output.raced) usual.analysis
        (subst (λ (limit : ℕ). AreReportsOfText None replay.analysis text touches limit [] false output.names output.raced) usual.limit
        (subst (λ (explain : Bool). AreReportsOfText None replay.analysis text touches replay.byte_limit [] explain output.names output.raced) usual.explain
        (subst (λ (part : Option PartView). AreReportsOfText part replay.analysis text touches replay.byte_limit [] replay.explain output.names output.raced) usual.part output.reports))))

    first : KeepFirst None output.found output.left
    first = subst (λ (m : Option ℕ). KeepFirst m output.found output.left) usual.max_races output.first

    none : output.found.unordered ≡ None
    none = not_there output.found.unordered (output.order ∙ ap asks_order usual.analysis)

    headless : output.shown.heading ≡ []
    headless = subst (λ (part : Option PartView). IsHeading part replay.explain output.shown.heading) (no_part replay usual) output.shown.headed

    form : bytes ≡ reports_text output.names output.left
    form = output.shown.says ∙ ap (λ (heading : List ℕ). heading ++ output.shown.body) headless
        ∙ subst (λ (form : Form). IsForm form output.names output.shown.table [] output.shown.excerpts output.left output.shown.body) usual.form output.shown.form

    with_run : (report : Report) → output.found.lockset ≡ Some report → IsReportOfRun None false (lost_told text) reports.recording [] false report → IsAlone text output.found output.left bytes
    with_run report one is = record {
      recording = reports.recording;
      report = report;
      stop = is.stop;
      one = first.lockset ∙ one;
      none = first.unordered ∙ none;
      none_found = none;
      run = record { trace = reports.trace; within = is.within; cause = is.cause };
      says = is.says;
      bytes_are = form ∙ text_alone output.names output.left report (first.lockset ∙ one) (first.unordered ∙ none) ∙ ap (λ (names : NameTable). report_text names (told report)) reports.names
          ∙ ap (λ (s : Summary). report_text reports.recording.names s) is.says;
    }

    with_report : (report : Report) × (output.found.lockset ≡ Some report) → IsAlone text output.found output.left bytes
    with_report (report, one) = with_run report one (subst (λ (o : Option Report). IfSome o (λ r. IsReportOfRun None false (lost_told text) reports.recording [] false r)) one reports.lockset)

pub usual-ends : {F : Type 0} {touches : Option (List Touch)} (remaining : F → Option (List ℕ)) (replay : Replay) (text : List ℕ) (old new : Option (List ℕ)) (ended : Ended) → IsUsual replay → EndsAs remaining replay text touches replay.byte_limit [] old new ended
    → ReplaysTo text old new ended.status × (IsEndingOf text ended.ending × (ended.unordered ≡ 0))
usual-ends remaining replay text old new ended usual ends =
    let left : IsAlone text ends.output.found ends.output.left ends.bytes = alone remaining replay text ends.bytes _ ends.output usual in (
      (
        is_verdict_of ends.output.left,
        record {
          recording = left.recording;
          stop = left.stop;
          run = left.run;
          written = subst (λ (bytes : List ℕ). Appends old new bytes) left.bytes_are ends.written;
          verdict = verdict_alone ends.output.left left.report left.one left.none ∙ verdict_from (lost_told text) left.recording left.stop (told left.report) left.says;
        },
        ends.status,
      ),
      (ends.ending, counted ends.output.found ends.order left.none_found),
    )
  where
    counted : (reports : Reports) → (has_order : Bool) × (IsOrderOfText replay.part replay.analysis text replay.byte_limit has_order × (ended.unordered ≡ unordered_of has_order reports)) → reports.unordered ≡ None
        → ended.unordered ≡ 0
    counted reports (has_order, (says, count)) none = count ∙ no_order has_order reports none

-- a fault of such a replay
found_usually : (replay : Replay) (text : List ℕ) (found : RunFault) → IsUsual replay → IsFaultOfText replay.part replay.analysis (Some text) replay.byte_limit found → IsOfReading found → (IsFalse replay.strict → IsNoDamage found)
    → IsUsualFault text (replay_fault found)
found_usually replay text found usual cause from lenient =
    by_case found (subst (λ (limit : ℕ). IsFaultOfText replay.part replay.analysis (Some text) limit found) usual.limit cause) from (lenient usual.strict)
  where
    by_case : (found : RunFault) → IsFaultOfText replay.part replay.analysis (Some text) usual_limit found → IsOfReading found → IsNoDamage found → IsUsualFault text (replay_fault found)
    by_case (running.Read (reading.Text f)) is read whole = is
    by_case (running.Read reading.Memory) is read whole = tt
    by_case (running.Read reading.Read) is read whole = tt
    by_case (running.Write f) is read whole = absurd read
    by_case (running.Replay f) is read whole = absurd read
    by_case (running.Beyond limit) is read whole = absurd read
    by_case running.Memory is read whole = tt
    by_case (running.Damaged damage) is read whole = absurd whole

no_file : {A B : Type 0} (path : Option A) → path ≡ None → IsSome path → B
no_file None none some = cc
no_file (Some file) none some = cc

pub usual-fails : {F : Type 0} (remaining : F → Option (List ℕ)) (replay : Replay) (text : List ℕ) (touches : Option (List Touch)) (old new : Option (List ℕ)) (why : Fault) → IsUsual replay → FailsAs remaining replay text touches replay.byte_limit [] old new why → IsUsualFault text why × LeavesUsually text old new why
usual-fails remaining replay text touches old new why usual fails = by_case why fails
  where
    other : (why : Fault) → IsFoundFault replay text replay.byte_limit why × Keeps old new → IsUsualFault text why × Keeps old new
    other why (is, keeps) = (subst (λ (w : Fault). IsUsualFault text w) (sym is.says) (found_usually replay text is.found usual is.cause (is.alone usual.workers usual.part usual.analysis) is.lenient), keeps)

    begun : (bytes : List ℕ) × IsOutput remaining replay text touches replay.byte_limit [] bytes × ((n : ℕ) × Appends old new (take n bytes)) → IsBegun None text usual_limit [] false old new
    begun (bytes, output, (n, appended)) =
        let left : IsAlone text output.found output.left bytes = alone remaining replay text bytes _ output usual in
        record { recording = left.recording; stop = left.stop; count = n; run = left.run; written = subst (λ (b : List ℕ). Appends old new (take n b)) left.bytes_are appended }

    by_case : (why : Fault) → FailsAs remaining replay text touches replay.byte_limit [] old new why → IsUsualFault text why × LeavesUsually text old new why
    by_case fault.Write fails = (tt, begun fails)
    by_case fault.WriteRules (some, rest) = no_file replay.write_rules usual.write_rules some
    by_case fault.Memory keeps = (tt, keeps)
    by_case fault.NoFile (some, rest) = no_file (headed_part replay) (no_part replay usual) some
    by_case fault.Arguments fails = other fault.Arguments fails
    by_case (fault.Text f) fails = other (fault.Text f) fails
    by_case (fault.Suppressions file f) fails = other (fault.Suppressions file f) fails
    by_case (fault.Damaged damage) fails = other (fault.Damaged damage) fails
    by_case (fault.NoStep line) fails = other (fault.NoStep line) fails
    by_case fault.TableFull fails = other fault.TableFull fails
    by_case (fault.Beyond limit) fails = other (fault.Beyond limit) fails
    by_case fault.OpenTrace fails = other fault.OpenTrace fails
    by_case (fault.OpenSuppressions file) fails = other (fault.OpenSuppressions file) fails
    by_case fault.Read fails = other fault.Read fails
    by_case (fault.ReadSuppressions file) fails = other (fault.ReadSuppressions file) fails
    by_case (fault.Refused refusal) fails = other (fault.Refused refusal) fails
    by_case fault.WorkerNotStarted fails = other fault.WorkerNotStarted fails
    by_case fault.WorkerLost fails = other fault.WorkerLost fails
    by_case (fault.Unsettled why) fails = other (fault.Unsettled why) fails
    by_case (fault.Merging why) fails = other (fault.Merging why) fails
    by_case (fault.OpenReport n) fails = other (fault.OpenReport n) fails
    by_case (fault.ReadReport n) fails = other (fault.ReadReport n) fails

-- what holds of the text, if it is known
pub for-text : {P Q : List ℕ → Type 0} (told : Option (List ℕ)) → ((text : List ℕ) → P text → Q text) → IfSome told P → IfSome told Q
for-text None f is = tt
for-text (Some text) f is = f text is

-- before its notes or its fault are written
pub usually : {F : Type 0} (touches others : Option (List Touch)) (remaining : F → Option (List ℕ)) (replay : Replay) (told old new : Option (List ℕ)) (read written : Bool) (rules : List Target) (result : Result Ended Cut) → IsUsual replay → rules ≡ []
    → IfOk result (λ ended. IfSome told (λ text. EndsAs remaining replay text touches replay.byte_limit rules old new ended))
    → IfErr result (λ cut. IfSome told (λ text. FailsAs remaining replay text others replay.byte_limit rules old new cut.fault))
    → IfOk result (IsEndOf replay) → IfErr result (λ cut. (cut.notes.items ≡ []) × (cut.damage ≡ None))
    → FailsCut read written result → IfSome told (λ text. EndsUsually text read written old new result)
usually touches others remaining replay None old new read written rules result usual none ends fails end whole failed = tt
usually touches others remaining replay (Some text) old new read written rules (Ok ended) usual none ends fails end whole failed =
    all (usual-ends remaining replay text old new ended usual (subst (λ (r : List Target). EndsAs remaining replay text touches replay.byte_limit r old new ended) none ends))
  where
    all : ReplaysTo text old new ended.status × (IsEndingOf text ended.ending × (ended.unordered ≡ 0)) → EndsUsually text read written old new (Ok ended)
    all (replays, (ending, count)) = (failed, (replays, (ending, (count, end.silent usual.unused_rules usual.max_races))))
usually touches others remaining replay (Some text) old new read written rules (Err cut) usual none ends fails end whole failed =
    all (usual-fails remaining replay text others old new cut.fault usual (subst (λ (r : List Target). FailsAs remaining replay text others replay.byte_limit r old new cut.fault) none fails))
  where
    all : IsUsualFault text cut.fault × LeavesUsually text old new cut.fault → EndsUsually text read written old new (Err cut)
    all (cause, leaves) = (failed, (cause, (leaves, whole)))

-- what is known of the standard input and of a file, under these rules
pub under-rules : {F : Type 0} (remaining : F → Option (List ℕ)) (replay : Replay) (told : Option (List ℕ)) (touches : Option (List Touch)) (rules : List Target)
    (Is : List Target → Ended → List ℕ → Option (List Touch) → ℕ → Type 0) (result : Result Ended Cut) → (replay.suppressions.items ≡ [] → rules ≡ [])
    → (replay.trace.now ≡ codes "-" → IfOk result (λ ended. IfSome told (λ text. Is rules ended text touches replay.byte_limit)))
    → (replay.trace.now ≢ codes "-" → IfOk result (λ ended. OfTraceFile remaining replay (Is rules ended)))
    → IfOk result (λ ended. UnderRules replay (λ r. OfTrace remaining replay told touches (Is r ended)))
under-rules remaining replay told touches rules Is (Ok ended) none input file = (rules, none, (input, file))
under-rules remaining replay told touches rules Is (Err why) none input file = tt

keeps_itself : (output : Option (List ℕ)) → Keeps output output
keeps_itself None = tt
keeps_itself (Some bytes) = refl

-- a read failed before anything was replayed
pub unread-fails : {F : Type 0} (remaining : F → Option (List ℕ)) (replay : Replay) (rules : List Target) (output : Option (List ℕ)) (file : F)
    → OfTraceFile remaining replay (λ text touches limit. FailsAs remaining replay text touches limit rules output output fault.Read)
unread-fails remaining replay rules output file = (file, by_case (remaining file))
  where
    by_case : (known : Option (List ℕ)) → IfSome known (λ bytes. (own : Bool) × FailsAs remaining replay (meant bytes) (touched_in replay bytes) (limit_of replay own) rules output output fault.Read)
    by_case None = tt
    by_case (Some bytes) = (false, (record { found = running.Read reading.Read; says = refl; cause = tt; lenient = λ _. tt; alone = λ _ _ _. tt }, keeps_itself output))

-- what wrote nothing leaves the output so, whatever its fault is
pub leaves_itself : (output : Option (List ℕ)) (why : Fault) → LeavesOutput output output why
leaves_itself output fault.Write = tt
leaves_itself output fault.WriteRules = tt
leaves_itself output fault.Arguments = keeps_itself output
leaves_itself output (fault.Text f) = keeps_itself output
leaves_itself output (fault.Suppressions file f) = keeps_itself output
leaves_itself output (fault.Damaged damage) = keeps_itself output
leaves_itself output (fault.NoStep line) = keeps_itself output
leaves_itself output fault.Memory = keeps_itself output
leaves_itself output fault.TableFull = keeps_itself output
leaves_itself output (fault.Beyond limit) = keeps_itself output
leaves_itself output fault.OpenTrace = keeps_itself output
leaves_itself output fault.NoFile = keeps_itself output
leaves_itself output (fault.OpenSuppressions file) = keeps_itself output
leaves_itself output fault.Read = keeps_itself output
leaves_itself output (fault.ReadSuppressions file) = keeps_itself output
leaves_itself output (fault.Refused refusal) = keeps_itself output
leaves_itself output fault.WorkerNotStarted = keeps_itself output
leaves_itself output fault.WorkerLost = keeps_itself output
leaves_itself output (fault.Unsettled why) = keeps_itself output
leaves_itself output (fault.Merging why) = keeps_itself output
leaves_itself output (fault.OpenReport n) = keeps_itself output
leaves_itself output (fault.ReadReport n) = keeps_itself output

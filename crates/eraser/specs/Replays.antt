-- What a replay leaves, and its exit status.
use Rattle.std.specs.Prelude.{◌≡◌, ◌≢◌, ◌≤◌, ◌⊎◌, ◌&&◌, ◌++◌, ℕ, Bool, true, false, not, cond, List, [], length, ◌-◌, take, codes, Option, Some, None, IsSome, IsSomeAnd, is_some, IfSome, IsFalse, Result, Ok, Err}
use Rattle.std.specs.Io.KnownBytes.{Appends, Keeps}
use Rattle.std.specs.Str.{bytes_eq}
use Rattle.er_batch.specs.declared.options.Options.{Options}
use Rattle.er_batch.specs.declared.verdict.Verdict.{Verdict}
use Rattle.er_batch.specs.declared.verdict.Verdict.TheVariants.{Clean, Races, Stopped}
use Rattle.er_binary.specs.Meaning.{meant, touches as touches_said}
use Rattle.er_exit.specs.Lines.{fault_line}
use Rattle.er_exit.specs.Parts.{IsHeading}
use Rattle.er_exit.specs.Statuses.{fault_status}
use Rattle.er_exit.specs.Writes.{GetsLine}
use Rattle.er_exit.specs.declared.faults.Fault.{Fault}
use Rattle.er_exit.specs.declared.faults.Fault.TheVariants as fault
use Rattle.er_forms.specs.Forms.{IsForm}
use Rattle.er_forms.specs.declared.excerpts.Excerpt.{Excerpt}
use Rattle.er_lines.specs.declared.ready.Touch.{Touch}
use Rattle.er_parts.specs.Parts.{PartView}
use Rattle.er_places.specs.Places.{ArePlaces, PlaceTable, place_at}
use Rattle.er_places.specs.Wanted.{are_asked}
use Rattle.er_report.specs.declared.report.Report.{Report}
use Rattle.er_report.specs.declared.reports.Analysis.TheVariants.{Lockset}
use Rattle.er_report.specs.declared.reports.Form.{Form}
use Rattle.er_report.specs.declared.reports.Form.TheVariants as form
use Rattle.er_report.specs.declared.reports.Reports.{Reports}
use Rattle.er_request.specs.declared.request.Replay.{Replay}
use Rattle.er_request.specs.Words.{usual_limit}
use Rattle.er_rules.specs.Rules.{Target, ask_facts}
use Rattle.er_run.specs.Faults.{IsFaultOfText, IsNoDamage, IsOfReading}
use Rattle.er_run.specs.Replays.{IsBegun, IsReplayed}
use Rattle.er_report.specs.Reports.{asks_locks, asks_order}
use Rattle.er_run.specs.Reports.{AreReportsOfText, IsOrderOfText, is_verdict_of}
use Rattle.er_run.specs.declared.fault.RunFault.{RunFault}
use Rattle.er_text.specs.Ending.{IsEndingOf}
use Rattle.er_text.specs.Trace.{IsFault}
use Rattle.er_text.specs.declared.endings.Ending.{Ending}
use Rattle.er_trace.specs.Names.{NameTable}
use Rattle.er_triage.specs.Facts.{AreLeft}
use Rattle.er_triage.specs.First.{KeepFirst}
use Rattle.er_triage.specs.Known.{lines_of}
use Rattle.er_triage.specs.Notes.{AreNotes, notes_text}
use Rattle.eraser.specs.Faults.{replay_fault}
use Rattle.eraser.specs.Files.{OfFile}
use Rattle.eraser.specs.Notes.{AddsNotesOn}
use Rattle.eraser.specs.declared.replaying.Ended.{Ended}
use Rattle.eraser.specs.declared.until.Cut.{Cut}

-- behind a replay: no race is printed, some race is, or the replay stopped for want of room
abbrev pub verdict_status : Verdict → ℕ
verdict_status Clean = 0
verdict_status Races = 1
verdict_status Stopped = 3

-- the forms that tell where accesses stood
abbrev pub tells_places : Form → Bool
tells_places form.Text = false
tells_places form.BySite = true
tells_places form.Json = true
tells_places form.Sarif = true
tells_places form.Html = true

-- the trace may be a file that is read whole
abbrev pub reads_again : Replay → Bool
reads_again replay = not replay.until_fault && not (bytes_eq replay.trace.now (codes "-"))

-- places are shown, and it may
abbrev pub shows_places : Replay → Bool
shows_places replay = replay.explain && tells_places replay.form && reads_again replay

-- the reports are as they were, or rules that ask for it took races by what the trace says of the program. Of what it says this shows nothing
abbrev pub MayLackRaces : Replay → List Target → Reports → Reports → Type 0
MayLackRaces replay rules reports left =
    (reports ≡ left) ⊎ ((ask_facts rules ≡ true) × (reads_again replay ≡ true) × ((table : PlaceTable) × AreLeft table rules reports left))

-- the report with the counts of steps and of races that rules took of this one
abbrev pub IsCounted : Report → Report → Report → Type 0
IsCounted counts old new =
    (new.rule_counts.items ≡ counts.rule_counts.items)
    × (new ≡ record old { rule_counts = new.rule_counts; steps = counts.steps; suppressed = counts.suppressed })

-- so it is of a report that may not be there
abbrev pub IsCountedIf : Report → Option Report → Option Report → Type 0
IsCountedIf counts None new = new ≡ None
IsCountedIf counts (Some old) new = IsSomeAnd new (IsCounted counts old)

-- so it is of the lockset rule's report, if the reports of all parts are merged and these are their counts
abbrev pub AreCounted : Option Report → Reports → Reports → Type 0
AreCounted None old new = old ≡ new
AreCounted (Some counts) old new = (new.unordered ≡ old.unordered) × IsCountedIf counts old.lockset new.lockset

-- and then the counts are those of all parts, if their reports are merged
abbrev pub MayLack : Replay → List Target → Reports → Reports → Type 0
MayLack replay rules reports left = (lacking : Reports) × MayLackRaces replay rules reports lacking × AreCounted replay.counts lacking left

-- the part whose report has a first line: none if the reports of all parts are merged
abbrev pub headed_part : Replay → Option PartView
headed_part replay = cond (is_some replay.counts) None replay.part

-- no place is known
abbrev pub HasNoPlace : PlaceTable → Type 0
HasNoPlace table = (line : ℕ) → place_at table line ≡ None

-- they are those of the accesses that the reports' reasons name, as the definitions give them of the text that some file means
abbrev pub ArePlacesIn : {F : Type 0} → (F → Option (List ℕ)) → ℕ → Reports → PlaceTable → Type 0
ArePlacesIn remaining limit reports table = OfFile remaining (λ bytes. ArePlaces (are_asked reports) (meant bytes) limit table)

-- so it is, if places are shown; or none is known. Of the standard input none is. This doesn't show that the trace was read again
abbrev pub MayHavePlaces : {F : Type 0} → (F → Option (List ℕ)) → Replay → ℕ → Reports → PlaceTable → Type 0
MayHavePlaces remaining replay limit reports table = HasNoPlace table ⊎ ((shows_places replay ≡ true) × ArePlacesIn remaining limit reports table)

-- these bytes are the form of these reports that is asked for, behind its heading, under these names and rules, with lines of source files only if a folder is given
pub record AreShown {F : Type 0} (remaining : F → Option (List ℕ)) (replay : Replay) (limit : ℕ) (names : NameTable) (rules : List Target) (reports : Reports) (bytes : List ℕ) : Type 0 where
  pub table : PlaceTable
  pub excerpts : List Excerpt
  pub places : MayHavePlaces remaining replay limit reports table
  pub sources : replay.source ≡ None → excerpts ≡ []
  pub heading : List ℕ
  pub body : List ℕ
  pub headed : IsHeading (headed_part replay) replay.explain heading
  pub form : IsForm replay.form names table rules excerpts reports body
  pub says : bytes ≡ heading ++ body

-- these bytes are the form that is asked for of the reports of a text of at most so many bytes, or of a part of its trace, by this analysis and these rules, with the lines of the first races alone if their number is limited
pub record IsOutput {F : Type 0} (remaining : F → Option (List ℕ)) (replay : Replay) (text : List ℕ) (touches : Option (List Touch)) (limit : ℕ) (rules : List Target) (bytes : List ℕ) : Type 0 where
  pub names : NameTable
  pub raced : Reports
  pub found : Reports
  pub left : Reports
  pub reports : AreReportsOfText replay.part replay.analysis text touches limit rules replay.explain names raced
  pub facts : MayLack replay rules raced found
  pub locks : is_some found.lockset ≡ asks_locks replay.analysis
  pub order : is_some found.unordered ≡ asks_order replay.analysis
  pub first : KeepFirst replay.max_races found left
  pub shown : AreShown remaining replay limit names rules left bytes

-- how many accesses and reuses a report by happens-before has
abbrev pub races_in : Option Report → ℕ
races_in None = 0
races_in (Some report) = report.races

-- the same if nothing orders the threads, and else 0
abbrev pub unordered_of : Bool → Reports → ℕ
unordered_of has_order reports = cond has_order 0 (races_in reports.unordered)

-- what a replay leaves that ends so: the whole output, the status of its verdict, and what is noted
pub record EndsAs {F : Type 0} (remaining : F → Option (List ℕ)) (replay : Replay) (text : List ℕ) (touches : Option (List Touch)) (limit : ℕ) (rules : List Target) (old new : Option (List ℕ)) (ended : Ended) : Type 0 where
  pub bytes : List ℕ
  pub output : IsOutput remaining replay text touches limit rules bytes
  pub written : Appends old new bytes
  pub status : ended.status ≡ verdict_status (is_verdict_of output.left)
  pub ending : IsEndingOf text ended.ending
  pub order : (has_order : Bool) × (IsOrderOfText replay.part replay.analysis text limit has_order × (ended.unordered ≡ unordered_of has_order output.found))
  pub notes : ended.notes.items ≡ notes_text replay.unused_rules output.found rules (length (lines_of output.found) - length (lines_of output.left))

-- how each replay ends that has no fault: its notes are those of some reports, and there are none if none were asked for; by locks alone nothing is counted as unordered
pub record IsEndOf (replay : Replay) (ended : Ended) : Type 0 where
  pub status : (ended.status ≤ 4) × (ended.status ≢ 2)
  pub notes : AreNotes ended.notes.items
  pub silent : replay.unused_rules ≡ false → replay.max_races ≡ None → ended.notes.items ≡ []
  pub locks : asks_order replay.analysis ≡ false → ended.unordered ≡ 0

-- the fault of a replay, before a byte is written
pub record IsFoundFault (replay : Replay) (text : List ℕ) (limit : ℕ) (why : Fault) : Type 0 where
  pub found : RunFault
  pub says : why ≡ replay_fault found
  pub cause : IsFaultOfText replay.part replay.analysis (Some text) limit found
  pub lenient : IsFalse replay.strict → IsNoDamage found
  pub alone : replay.workers ≡ 1 → replay.part ≡ None → replay.analysis ≡ Lockset → IsOfReading found

-- why a replay has a fault, and what it leaves: a beginning of the output if a write failed, all of it if only the file of rules is missing, and else nothing; a part of the standard input can't be replayed
abbrev pub FailsAs : {F : Type 0} → (F → Option (List ℕ)) → Replay → List ℕ → Option (List Touch) → ℕ → List Target → Option (List ℕ) → Option (List ℕ) → Fault → Type 0
FailsAs remaining replay text touches limit rules old new fault.Write = (bytes : List ℕ) × IsOutput remaining replay text touches limit rules bytes × ((n : ℕ) × Appends old new (take n bytes))
FailsAs remaining replay text touches limit rules old new fault.WriteRules = IsSome replay.write_rules × ((bytes : List ℕ) × IsOutput remaining replay text touches limit rules bytes × Appends old new bytes)
FailsAs remaining replay text touches limit rules old new fault.Memory = Keeps old new
FailsAs remaining replay text touches limit rules old new fault.NoFile = IsSome (headed_part replay) × Keeps old new
FailsAs remaining replay text touches limit rules old new other = IsFoundFault replay text limit other × Keeps old new

-- the reader has failed exactly if this is a failed read, and the output exactly if it is a failed write
abbrev pub FailsFor : Bool → Bool → Fault → Type 0
FailsFor read written fault.Read = (read ≡ true) × (written ≡ false)
FailsFor read written fault.Write = (read ≡ false) × (written ≡ true)
FailsFor read written other = (read ≡ false) × (written ≡ false)

-- so it is of a fault, and without one neither has failed
abbrev pub FailsBy : {X : Type 0} → Bool → Bool → Result X Fault → Type 0
FailsBy read written (Ok x) = (read ≡ false) × (written ≡ false)
FailsBy read written (Err why) = FailsFor read written why

-- the same of a replay that was cut off
abbrev pub FailsCut : {X : Type 0} → Bool → Bool → Result X Cut → Type 0
FailsCut read written (Ok x) = (read ≡ false) × (written ≡ false)
FailsCut read written (Err cut) = FailsFor read written cut.fault

-- but for its limit of bytes a replay is run by these options as it is asked for
pub record AreOptionsOf (replay : Replay) (options : Options) : Type 0 where
  pub explain : options.explain ≡ replay.explain
  pub strict : options.strict ≡ replay.strict
  pub workers : options.workers ≡ replay.workers
  pub part : options.part ≡ replay.part

-- and what comes before its report is what is asked for
pub record IsRunAs (replay : Replay) (options : Options) (heading : List ℕ) : Type 0 where
  pub run : AreOptionsOf replay options
  pub headed : IsHeading (headed_part replay) replay.explain heading

-- how many bytes the text may have: as many as is asked for, or for a binary trace that is given by its path as many as it has of its own
abbrev pub limit_of : Replay → Bool → ℕ
limit_of replay has_own = cond has_own replay.binary_limit replay.byte_limit

-- what the accesses touch of a trace that has these bytes, if their order is asked for: else each counts as touching its whole word
abbrev pub touched_in : Replay → List ℕ → Option (List Touch)
touched_in replay bytes = Some (cond (asks_order replay.analysis) (touches_said bytes) [])

-- so it is of the text that some file means, of what its accesses touch, and of its limit. That it has its own only if it is binary isn't shown
abbrev pub OfTraceFile : {F : Type 0} → (F → Option (List ℕ)) → Replay → (List ℕ → Option (List Touch) → ℕ → Type 0) → Type 0
OfTraceFile remaining replay Is = OfFile remaining (λ bytes. (has_own : Bool) × Is (meant bytes) (touched_in replay bytes) (limit_of replay has_own))

-- so it is of the standard input, whose text and touches these are, if it is what the path of the trace names, and else of some file
abbrev pub OfTrace : {F : Type 0} → (F → Option (List ℕ)) → Replay → Option (List ℕ) → Option (List Touch) → (List ℕ → Option (List Touch) → ℕ → Type 0) → Type 0
OfTrace remaining replay told touches Is =
    (replay.trace.now ≡ codes "-" → IfSome told (λ text. Is text touches replay.byte_limit)) × (replay.trace.now ≢ codes "-" → OfTraceFile remaining replay Is)

-- so it is under some rules: under none, if no file of rules is named. Of what such files say this shows nothing
abbrev pub UnderRules : Replay → (List Target → Type 0) → Type 0
UnderRules replay Is = (rules : List Target) × (replay.suppressions.items ≡ [] → rules ≡ []) × Is rules

-- A replay of the standard input with no option

-- the whole report of the text was written, and the status is that of its verdict
abbrev pub ReplaysTo : List ℕ → Option (List ℕ) → Option (List ℕ) → ℕ → Type 0
ReplaysTo text old new status = (verdict : Verdict) × IsReplayed None text usual_limit [] false old new verdict × (status ≡ verdict_status verdict)

-- why there is no report: the text's first fault, or what no text decides
abbrev pub IsUsualFault : List ℕ → Fault → Type 0
IsUsualFault text (fault.Text why) = IsFault text usual_limit why
IsUsualFault text fault.Memory = Unit {0}
IsUsualFault text fault.Read = Unit {0}
IsUsualFault text fault.Write = Unit {0}
IsUsualFault text other = ⊥

-- what the output has then: a beginning of the report if a write failed, and else nothing
abbrev pub LeavesUsually : List ℕ → Option (List ℕ) → Option (List ℕ) → Fault → Type 0
LeavesUsually text old new fault.Write = IsBegun None text usual_limit [] false old new
LeavesUsually text old new other = Keeps old new

-- before its notes or its fault are written: the whole report of the text, or why there is none
abbrev pub EndsUsually : List ℕ → Bool → Bool → Option (List ℕ) → Option (List ℕ) → Result Ended Cut → Type 0
EndsUsually text read written old new (Ok ended) = ((read ≡ false) × (written ≡ false)) × (ReplaysTo text old new ended.status × (IsEndingOf text ended.ending × ((ended.unordered ≡ 0) × (ended.notes.items ≡ []))))
EndsUsually text read written old new (Err cut) = FailsFor read written cut.fault × (IsUsualFault text cut.fault × (LeavesUsually text old new cut.fault × ((cut.notes.items ≡ []) × (cut.damage ≡ None))))

-- the errors got the notes on the text alone
abbrev pub GetsNotesOn : Bool → List ℕ → Option (List ℕ) → Option (List ℕ) → Bool → Type 0
GetsNotesOn people text old new failed = (ending : Ending) × IsEndingOf text ending × AddsNotesOn people ending 0 [] old new failed

-- the output got the whole report and the errors the notes on the text; the status says whether the report has a race (1) or stops for want of room (3); neither the input nor the output has failed
pub record HasReported (people : Bool) (text : List ℕ) (read written : Bool) (old new : Option (List ℕ)) (errors_old errors_new : Option (List ℕ)) (failed : Bool) (status : ℕ) : Type 0 where
  pub unfailed : (read ≡ false) × (written ≡ false)
  pub report : ReplaysTo text old new status
  pub notes : GetsNotesOn people text errors_old errors_new failed

-- it has a fault, whose status it ends with, and the input or the output has failed if and only if the fault says so; unless it is for people the errors got the line of the fault alone
pub record HasFailed (people : Bool) (text : List ℕ) (read written : Bool) (old new : Option (List ℕ)) (errors_old errors_new : Option (List ℕ)) (failed : Bool) (status : ℕ) : Type 0 where
  pub why : Fault
  pub cause : IsUsualFault text why
  pub device : FailsFor read written why
  pub ends : status ≡ fault_status why
  pub output : LeavesUsually text old new why
  pub line : people ≡ false → GetsLine errors_old errors_new (fault_line why) failed

-- what it leaves on the output and the errors, and its exit status
abbrev pub ComesTo : Bool → List ℕ → Bool → Bool → Option (List ℕ) → Option (List ℕ) → Option (List ℕ) → Option (List ℕ) → Bool → ℕ → Type 0
ComesTo people text read written old new errors_old errors_new failed status =
    HasReported people text read written old new errors_old errors_new failed status ⊎ HasFailed people text read written old new errors_old errors_new failed status

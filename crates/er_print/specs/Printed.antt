-- The bytes of a report: each word here is the text of one thing, and a line ends with its LF.
use Rattle.std.specs.Prelude.{ℕ, ◌+◌, ◌-◌, ◌*◌, Bool, cond, nat_lt, List, [], ◌∷◌, ◌++◌, flat_map, Option, Some, None, codes, decimal}
use Rattle.er_trace.specs.Names.{NameTable}
use Rattle.er_event.specs.Refusal.{text_of, refusal_of}
use Rattle.er_event.specs.declared.refusals.NoRoom.{NoRoom}
use Rattle.er_event.specs.declared.steps.Event.{Event}
use Rattle.er_event.specs.declared.steps.Event.TheVariants.{Acquire, Release, Access, Reuse, IgnoreOn, IgnoreOff, Show, Level, Sync}
use Rattle.er_event.specs.declared.steps.Sync.TheVariants.{Start, Join, Signal, Await}
use Rattle.er_event.specs.declared.steps.Kind.{Kind}
use Rattle.er_event.specs.declared.steps.Kind.TheVariants as kind
use Rattle.er_event.specs.declared.steps.Mode.TheVariants as mode
use Rattle.er_event.specs.declared.steps.WordState.{WordState}
use Rattle.er_event.specs.declared.steps.WordState.TheVariants.{Virgin, Exclusive, Shared, SharedModified}
use Rattle.er_trace.specs.Trace.{Recording}
use Rattle.er_journal.specs.declared.answers.Stopped.{Stopped}
use Rattle.er_lines.specs.Number.{hex_digits}
use Rattle.er_report.specs.Report.{Summary, report_of, told}
use Rattle.er_report.specs.Lines.{LineView, RaceView, RacedView, RefusedView, ShownView}
use Rattle.er_report.specs.declared.report.Because.{Because}
use Rattle.er_report.specs.declared.report.Deed.{Deed}
use Rattle.er_report.specs.declared.report.Deed.TheVariants as deed
use Rattle.er_report.specs.declared.report.Label.{Label}
use Rattle.er_report.specs.declared.report.Report.{Report}
use Rattle.er_report.specs.declared.reports.Reports.{Reports}
use Rattle.er_rules.specs.Rules.{Target}
use Rattle.er_print.specs.Styles.{label_in, lock_in, locks_in, named_site, site_in}
use Rattle.er_print.specs.declared.lines.ReportKind.{ReportKind}
use Rattle.er_print.specs.declared.lines.ReportKind.TheVariants.{Lockset, Unordered}
use Rattle.er_print.specs.declared.styles.Style.TheVariants as style
pub use Rattle.er_print.specs.Styles.{name_at}
pub use Rattle.er_report.specs.Lines.{RacedView, line_view}
pub use Rattle.er_report.specs.Names.{HasEventNames, HasLockNames, HasNames, HasRaceNames, HasReasonNames, HasStateNames}
pub use Rattle.er_report.specs.Report.{told}
pub use Rattle.er_report.specs.Reports.{HaveNames}

-- the address of a word's first byte
abbrev pub address_text : ℕ → List ℕ
address_text word = codes "0x" ++ hex_digits 12 (4 * word)

-- a site in a text for people
abbrev pub site_text : NameTable → ℕ → List ℕ
site_text names site = site_in style.Plain names site

-- a lock in a text for people
abbrev pub lock_text : NameTable → ℕ → List ℕ
lock_text names lock = lock_in style.Plain names lock

-- a set of locks in a text for people
abbrev pub locks_text : NameTable → List ℕ → List ℕ
locks_text names locks = locks_in style.Plain names locks

-- the verb of an access
abbrev pub kind_text : Kind → List ℕ
kind_text kind.Read = codes "read"
kind_text kind.Write = codes "write"

-- the verb of what a thread asked for
abbrev pub event_verb : Event → List ℕ
event_verb (Acquire lock mode.Write) = codes "lock"
event_verb (Acquire lock mode.Read) = codes "rlock"
event_verb (Release lock mode.Write) = codes "unlock"
event_verb (Release lock mode.Read) = codes "runlock"
event_verb IgnoreOn = codes "ignore-on"
event_verb IgnoreOff = codes "ignore-off"
event_verb (Access kind word site) = kind_text kind
event_verb (Reuse range) = codes "reuse"
event_verb (Show word) = codes "show"
event_verb (Level level) = codes "level"
event_verb (Sync (Start thread)) = codes "start"
event_verb (Sync (Join thread)) = codes "join"
event_verb (Sync (Signal object)) = codes "signal"
event_verb (Sync (Await object)) = codes "await"

-- what a thread asked for: the verb, and the lock of a lock event. Events that are never refused are their verbs alone
abbrev pub event_text : NameTable → Event → List ℕ
event_text names (Acquire lock mode) = event_verb (Acquire lock mode) ++ codes " " ++ lock_text names lock
event_text names (Release lock mode) = event_verb (Release lock mode) ++ codes " " ++ lock_text names lock
event_text names event = event_verb event

-- the candidate locks of a word
abbrev pub candidates_text : NameTable → List ℕ → List ℕ
candidates_text names locks = codes ", candidates " ++ locks_text names locks

-- the state of a word
abbrev pub state_text : NameTable → WordState → List ℕ
state_text names Virgin = codes "virgin"
state_text names (Exclusive thread) = codes "exclusive " ++ name_at names.threads thread
state_text names (Shared locks) = codes "shared" ++ candidates_text names locks
state_text names (SharedModified locks) = codes "shared-modified" ++ candidates_text names locks

-- what a line that tells of a line of the trace begins with
abbrev pub place_text : ℕ → List ℕ
place_text number = codes "line " ++ decimal number ++ codes ": "

-- what an access has to do with a race, in a text for people
abbrev pub label_text : NameTable → Label → List ℕ
label_text names label = label_in style.Plain names label

-- one of a race's reasons, on a line of its own
abbrev pub reason_text : NameTable → Because → List ℕ
reason_text names because =
    codes "  " ++ label_text names because.label ++ codes ": line " ++ decimal because.line ++ codes ", "
    ++ name_at names.threads because.thread ++ codes " " ++ kind_text because.kind ++ 10 ∷ []

-- how many bytes the words from lo to hi have
abbrev pub bytes_between : ℕ → ℕ → ℕ
bytes_between lo hi = (hi - lo + 1) * 4

-- what a thread did that is a race: it accessed a word, at a site, with these locks, or gave back so many bytes, and where, if that has a name
abbrev pub deed_text : NameTable → RaceView → Deed → List ℕ
deed_text names race (deed.Access kind word) =
    name_at names.threads race.thread ++ codes " " ++ kind_text kind ++ codes " " ++ address_text word ++ codes " at " ++ site_text names race.site
    ++ codes ", holds " ++ locks_text names race.held ++ 10 ∷ []
deed_text names race (deed.Reuse range) =
    name_at names.threads race.thread ++ codes " reuse " ++ address_text range.lo ++ codes " " ++ decimal (bytes_between range.lo range.hi)
    ++ named_site style.Plain names (codes " at ") race.site ++ 10 ∷ []

-- what a report calls a race
abbrev pub race_label : ReportKind → List ℕ
race_label Lockset = codes "race: "
race_label Unordered = codes "unordered: "

-- a line; that of a race has the lines of its reasons below it
abbrev pub line_text : ReportKind → NameTable → LineView → List ℕ
line_text of names (RacedView race) = place_text race.line ++ race_label of ++ deed_text names race race.deed ++ flat_map (reason_text names) race.explained
line_text of names (RefusedView number step refusal) =
    place_text number ++ codes "refused: " ++ name_at names.threads step.thread ++ codes " "
    ++ event_text names step.event ++ codes ": " ++ text_of refusal ++ 10 ∷ []
line_text of names (ShownView number word state) =
    place_text number ++ codes "state " ++ address_text word ++ codes ": " ++ state_text names state ++ 10 ∷ []

-- where the run stopped, if it did
abbrev pub stop_text : Option (ℕ × NoRoom) → List ℕ
stop_text None = []
stop_text (Some stop) = place_text stop.0 ++ codes "stopped: " ++ text_of (refusal_of stop.1) ++ 10 ∷ []

-- how many races the rule of this number took
abbrev pub count_text : ℕ → ℕ → List ℕ
count_text number count = codes "suppression " ++ decimal number ++ codes ": " ++ decimal count ++ 10 ∷ []

-- a line for each rule, of which the first has this number
abbrev pub counts_text : ℕ → List ℕ → List ℕ
counts_text number [] = []
counts_text number (count ∷ counts) = count_text number count ++ counts_text (number + 1) counts

-- how many events were lost, between these two texts, if some were
unfoldable pub lost_text : List ℕ → List ℕ → Option ℕ → List ℕ
lost_text before after None = []
lost_text before after (Some n) = cond (nat_lt 0 n) (before ++ decimal n ++ after) []

-- what the totals call races
abbrev pub races_label : ReportKind → List ℕ
races_label Lockset = codes ", races "
races_label Unordered = codes ", unordered "

-- the line of the totals
abbrev pub totals_text : ReportKind → Summary → List ℕ
totals_text of s =
    codes "steps " ++ decimal s.steps ++ races_label of ++ decimal s.races ++ codes ", suppressed " ++ decimal s.suppressed
    ++ codes ", refused " ++ decimal s.refused ++ lost_text (codes ", lost ") [] s.lost ++ 10 ∷ []

-- what a report ends with
abbrev pub end_text : ReportKind → Summary → List ℕ
end_text of s = stop_text s.stop ++ counts_text 1 s.rule_counts ++ totals_text of s

-- the whole text of a report
unfoldable pub text_of_report : ReportKind → NameTable → Summary → List ℕ
text_of_report of names s = flat_map (line_text of names) s.lines ++ end_text of s

-- and of one of the lockset rule
abbrev pub report_text : NameTable → Summary → List ℕ
report_text names s = text_of_report Lockset names s

-- the text of a report, if it is there
abbrev pub text_if_there : ReportKind → NameTable → Option Report → List ℕ
text_if_there of names None = []
text_if_there of names (Some report) = text_of_report of names (told report)

-- the texts of the reports that there are
unfoldable pub reports_text : NameTable → Reports → List ℕ
reports_text names reports = text_if_there Lockset names reports.lockset ++ text_if_there Unordered names reports.unordered

-- the text of the report of a run of the recording's steps under these rules, with reasons or without, which stopped so or not at all
abbrev pub output_of : Recording → List Target → Bool → Option Stopped → List ℕ
output_of r rules explain stop = report_text r.names (report_of r rules explain stop)

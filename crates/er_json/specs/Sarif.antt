-- The SARIF of reports: a result for each site and kind of race, one for each reuse without a site, and one for each rule that takes races.
use Rattle.std.specs.Prelude.{ℕ, zero, suc, ◌+◌, ◌==◌, cond, List, [], ◌∷◌, ◌++◌, flat_map, take, drop, length, max, count_by, slice_get, Option, Some, None, codes, decimal}
use Rattle.er_event.specs.Lockset.{has}
use Rattle.er_event.specs.declared.steps.Kind.TheVariants as kind
use Rattle.er_json.specs.Document.{list_member, rows_text, sign_if}
use Rattle.er_places.specs.Names.{call_function, function_of}
use Rattle.er_places.specs.Places.{PlaceTable, call_name}
pub use Rattle.er_places.specs.Places.{HasPlaceNames, calls_of}
pub use Rattle.er_places.specs.Reasons.{race_place, reason_place}
use Rattle.er_places.specs.declared.places.Place.{Place}
use Rattle.er_print.specs.Printed.{address_text, bytes_between, kind_text, lost_text, name_at, site_text}
use Rattle.er_print.specs.Styles.{escaped_text, label_in, lock_in, locks_in, string_text, thread_in}
pub use Rattle.er_print.specs.Values.{values_text}
use Rattle.er_print.specs.declared.styles.Style.TheVariants as style
use Rattle.er_report.specs.Lines.{RaceView, line_view, race_of}
pub use Rattle.er_report.specs.Names.{HasLockName, HasLockNames, HasNames, HasRaceNames, HasReasonNames}
pub use Rattle.er_report.specs.Reports.{HaveNames}
use Rattle.er_report.specs.declared.report.Because.{Because}
use Rattle.er_report.specs.declared.report.Deed.{Deed}
use Rattle.er_report.specs.declared.report.Deed.TheVariants as deed
use Rattle.er_report.specs.declared.report.Line.{Line}
use Rattle.er_report.specs.declared.report.Line.TheVariants.{Race, Reused, Refused, Shown}
use Rattle.er_report.specs.declared.report.Report.{Report}
use Rattle.er_report.specs.declared.reports.Reports.{Reports}
use Rattle.er_rules.specs.Rules.{Target, AtSite, AtSites, AtWords, AtFact}
use Rattle.er_json.specs.Places.{file_end}
use Rattle.er_json.specs.Uris.{uri_byte}
use Rattle.er_print.specs.declared.lines.ReportKind.{ReportKind}
use Rattle.er_print.specs.declared.lines.ReportKind.TheVariants.{Lockset, Unordered}
use Rattle.er_sites.specs.Table.{reads_at, reuses_at, writes_at}
use Rattle.er_sites.specs.Text.{did_text, subject_text}
use Rattle.er_trace.specs.Names.{NameTable}
use Rattle.er_triage.specs.Texts.{target_text}

-- what a thread did that is a race, as a verb
abbrev pub verb_of : Deed → List ℕ
verb_of (deed.Access kind word) = kind_text kind
verb_of (deed.Reuse range) = codes "reuse"

-- what a thread did that is a race, in words, with what raced
abbrev pub deed_words : PlaceTable → ℕ → Deed → List ℕ
deed_words table number (deed.Access kind word) = did_text kind ++ subject_text style.InString table number word ++ (codes " the word at " ++ address_text word)
deed_words table number (deed.Reuse range) = codes " gave back " ++ decimal (bytes_between range.lo range.hi) ++ codes " bytes at " ++ address_text range.lo

-- what the results of a run begin with: the front of a rule
abbrev pub rule_front : ReportKind → List ℕ
rule_front Lockset = codes "{\"ruleId\":\"race/"
rule_front Unordered = codes "{\"ruleId\":\"unordered/"

-- why its races are races
abbrev pub cause_words : ReportKind → List ℕ
cause_words Lockset = codes ", and no lock protects it"
cause_words Unordered = codes ", and nothing orders this after an earlier access"

-- a function between these, if it is known
unfoldable pub function_text : List ℕ → List ℕ → List ℕ → List ℕ
function_text before [] behind = []
function_text before (byte ∷ name) behind = before ++ codes "{\"fullyQualifiedName\":" ++ string_text (byte ∷ name) ++ codes ",\"kind\":\"function\"}" ++ behind

-- the file and the line of a site that ends with a line: the file ends at the colon
unfoldable pub file_member : List ℕ → ℕ → List ℕ
file_member site n =
    codes "{\"physicalLocation\":{\"artifactLocation\":{\"uri\":\"" ++ flat_map uri_byte (take n site) ++ codes "\"},\"region\":{\"startLine\":" ++ drop (n + 1) site ++ codes "}}"

-- another site is a name
abbrev pub place_by : List ℕ → List ℕ → Option ℕ → List ℕ
place_by site function None =
    codes "{\"logicalLocations\":[{\"fullyQualifiedName\":" ++ string_text site ++ codes "}" ++ function_text (codes ",") function [] ++ codes "]"
place_by site function (Some n) = file_member site n ++ function_text (codes ",\"logicalLocations\":[") function (codes "]")

-- a location with this site and this function, which is left open
unfoldable pub open_location : List ℕ → List ℕ → List ℕ
open_location site function = place_by site function (file_end site)

-- the one location of a result
unfoldable pub location_member : List ℕ → List ℕ
location_member site = codes ",\"locations\":[" ++ open_location site [] ++ codes "}]"

-- who did what there, and what it has to do with the race
unfoldable pub sentence_words : NameTable → Because → List ℕ
sentence_words names because =
    codes "\"message\":{\"text\":\"" ++ label_in style.InString names because.label ++ codes ": " ++ thread_in style.InString names because.thread ++ codes " "
    ++ kind_text because.kind ++ codes " on line " ++ decimal because.line ++ codes " of the trace"

-- a lock that is held only to read is marked
abbrev pub mode_words : List ℕ → ℕ → List ℕ
mode_words writes lock = cond (has writes lock) [] (codes " (to read)")

-- a lock behind a space
abbrev pub lock_words : NameTable → List ℕ → ℕ → List ℕ
lock_words names writes lock = codes " " ++ lock_in style.InString names lock ++ mode_words writes lock

-- the locks that a thread held, of which these to write
abbrev pub locks_words : NameTable → List ℕ → List ℕ → List ℕ
locks_words names writes [] = codes " no lock"
locks_words names writes (lock ∷ locks) = values_text (lock_words names writes) (lock ∷ locks)

-- the locks that the thread of an access held, if that is known
unfoldable pub holding_words : NameTable → Option Place → List ℕ
holding_words names None = []
holding_words names (Some place) = codes ", holding" ++ locks_words names place.write_held place.held

-- where an access in this function stood: the missing site is left out
abbrev pub opening_of : NameTable → List ℕ → ℕ → List ℕ
opening_of names function zero = codes "{"
opening_of names function (suc n) = open_location (name_at names.sites n) function ++ codes ","

-- where an access stood, as far as that is known
abbrev pub opening_text : PlaceTable → Option Place → List ℕ
opening_text table None = codes "{"
opening_text table (Some place) = opening_of table.names (function_of table (Some place)) place.site

-- one of a race's reasons as a location: where its access stood, what it has to do with the race, and which locks its thread held
unfoldable pub reason_location : NameTable → PlaceTable → Because → List ℕ
reason_location names table because =
    opening_text table (reason_place table because) ++ sentence_words names because ++ holding_words table.names (reason_place table because) ++ codes "\"}}"

-- what is wrong, and how often; then comes where
unfoldable pub front_text : ReportKind → NameTable → PlaceTable → RaceView → ℕ → List ℕ
front_text of names table race count =
    rule_front of ++ verb_of race.deed ++ codes "\",\"level\":\"error\",\"message\":{\"text\":\"" ++ thread_in style.InString names race.thread ++ deed_words table race.line race.deed
    ++ (cause_words of ++ codes "\"},\"occurrenceCount\":" ++ decimal count ++ codes ",\"locations\":[")

-- where a race is: at its site, or a reuse without one at the address of its first byte
abbrev pub race_site : NameTable → ℕ → Deed → List ℕ
race_site names zero (deed.Reuse range) = address_text range.lo
race_site names (suc n) (deed.Reuse range) = site_text names (suc n)
race_site names site (deed.Access kind word) = site_text names site

-- that, and a fingerprint that is the same in each run; then come the accesses that make the first race
unfoldable pub place_text : List ℕ → List ℕ → Deed → List ℕ
place_text site function deed =
    open_location site function ++ (codes "}],\"partialFingerprints\":{\"siteAndKind/v1\":\"" ++ escaped_text site ++ codes " " ++ verb_of deed ++ codes "\"},\"relatedLocations\":[")

-- a frame of a stack is at this site, in this function
unfoldable pub frame_text : List ℕ → List ℕ → List ℕ
frame_text site function = codes "{\"location\":" ++ open_location site function ++ codes "}}"

-- the frame of a call, behind a comma
abbrev pub call_frame : PlaceTable → ℕ → List ℕ
call_frame table call = codes "," ++ frame_text (call_name table call) (call_function table call)

-- behind a comma, the stack of an access: its line, its site, and these calls that led there. Without a call it has none
unfoldable pub stack_text : PlaceTable → Place → List ℕ → List ℕ
stack_text table place [] = []
stack_text table place (call ∷ calls) =
    codes ",{\"message\":{\"text\":\"line " ++ decimal place.line ++ codes " of the trace\"},\"frames\":[" ++ frame_text (site_text table.names place.site) (function_of table (Some place))
    ++ flat_map (call_frame table) (call ∷ calls) ++ codes "]}"

-- the stack of an access, if its place is known
abbrev pub stack_if : PlaceTable → Option Place → List ℕ
stack_if table None = []
stack_if table (Some place) = stack_text table place (calls_of table (Some place))

-- the stack of a reason, unless it is the race itself, which is on this line
abbrev pub reason_stack : PlaceTable → ℕ → Because → List ℕ
reason_stack table number because = cond (because.line == number) [] (stack_if table (reason_place table because))

-- the stack of a race's access, and those of its reasons
abbrev pub stacks_text : PlaceTable → RaceView → List ℕ
stacks_text table race = stack_if table (race_place table race) ++ flat_map (reason_stack table race.line) race.explained

-- these stacks, if there are some
abbrev pub stacks_member : List ℕ → List ℕ
stacks_member stacks = list_member (codes ",\"stacks\":[") stacks

-- how it came about, the calls that led there, the line of the first race, and the locks that its thread held
unfoldable pub back_text : NameTable → PlaceTable → RaceView → List ℕ
back_text names table race =
    values_text (reason_location names table) race.explained ++ codes "]" ++ stacks_member (stacks_text table race)
    ++ (codes ",\"properties\":{\"line\":" ++ decimal race.line ++ codes ",\"held\":" ++ locks_in style.Json names race.held ++ codes "}}")

-- a result: so many races here, and the first of them
unfoldable pub result_text : ReportKind → NameTable → PlaceTable → RaceView → ℕ → List ℕ
result_text of names table race count =
    front_text of names table race count ++ place_text (race_site names race.site race.deed) (function_of table (race_place table race)) race.deed ++ back_text names table race

-- how many of the lines are races of the line's site and kind; a reuse without a site is like none
abbrev pub races_like : List Line → Line → ℕ
races_like lines (Race kind.Read thread site number word details) = count_by (reads_at site) lines
races_like lines (Race kind.Write thread site number word details) = count_by (writes_at site) lines
races_like lines (Reused thread zero number range details) = 0
races_like lines (Reused thread (suc site) number range details) = count_by (reuses_at (suc site)) lines
races_like lines (Refused refusal step number) = 0
races_like lines (Shown number word state) = 0

-- a race has a result if none like it came before, and there are so many like it in all; one that is like none counts as one
abbrev pub results_if : ReportKind → NameTable → PlaceTable → ℕ → ℕ → Option RaceView → List (List ℕ)
results_if of names table before count None = []
results_if of names table before count (Some race) = cond (before == 0) (result_text of names table race (max count 1) ∷ []) []

-- the result of a line, if it is the first race of its site and kind
abbrev pub results_of : ReportKind → NameTable → PlaceTable → ℕ → ℕ → Line → List (List ℕ)
results_of of names table before count line = results_if of names table before count (race_of (line_view line))

-- the result of the line at position n
abbrev pub results_at : ReportKind → NameTable → PlaceTable → List Line → ℕ → Option Line → List (List ℕ)
results_at of names table lines n None = []
results_at of names table lines n (Some line) = results_of of names table (races_like (take n lines) line) (races_like lines line) line

-- the results of the first n lines
unfoldable pub results_below : ReportKind → NameTable → PlaceTable → List Line → ℕ → List (List ℕ)
results_below of names table lines zero = []
results_below of names table lines (suc n) = results_below of names table lines n ++ results_at of names table lines n (slice_get lines n)

-- the rule of this text, which takes races, and how many
unfoldable pub taken_text : ReportKind → List ℕ → ℕ → List ℕ
taken_text of rule count =
    rule_front of ++ codes "suppressed\",\"level\":\"error\",\"message\":{\"text\":\"Races that a rule takes: " ++ escaped_text rule
    ++ codes "\"},\"occurrenceCount\":" ++ decimal count

-- where the races that a rule takes are, if it is for one site that has a name
abbrev pub target_location : Target → List ℕ
target_location (AtSite (Some name)) = location_member name
target_location (AtSite None) = []
target_location (AtSites pattern) = []
target_location (AtFact kind pattern) = []
target_location (AtWords words) = []

-- that races count as suppressed, by the rule of this text and number; the fingerprint is the same in each run
unfoldable pub suppression_text : List ℕ → ℕ → List ℕ
suppression_text rule number =
    codes ",\"partialFingerprints\":{\"rule/v1\":\"" ++ escaped_text rule ++ codes "\"},\"suppressions\":[{\"kind\":\"external\",\"justification\":\"rule " ++ decimal number ++ codes "\"}]}"

-- the result of a rule that takes races
unfoldable pub suppressed_text : ReportKind → ℕ → ℕ → Target → List ℕ
suppressed_text of number count target = taken_text of (target_text target) count ++ target_location target ++ suppression_text (target_text target) number

-- a rule has a result if it takes a race
abbrev pub suppressed_of : ReportKind → ℕ → Option ℕ → Target → List (List ℕ)
suppressed_of of number None target = []
suppressed_of of number (Some count) target = cond (count == 0) [] (suppressed_text of number count target ∷ [])

-- the result of the rule at position k
abbrev pub suppressed_at : ReportKind → List ℕ → ℕ → Option Target → List (List ℕ)
suppressed_at of counts k None = []
suppressed_at of counts k (Some target) = suppressed_of of (k + 1) (slice_get counts k) target

-- the results of the first n rules, by how many races each rule takes; rules are numbered from 1
unfoldable pub suppressed_below : ReportKind → List ℕ → List Target → ℕ → List (List ℕ)
suppressed_below of counts targets zero = []
suppressed_below of counts targets (suc n) = suppressed_below of counts targets n ++ suppressed_at of counts n (slice_get targets n)

-- the results of the lines, and behind them those of the rules
abbrev pub all_results : ReportKind → NameTable → PlaceTable → List Line → List ℕ → List Target → List (List ℕ)
all_results of names table lines counts targets = results_below of names table lines (length lines) ++ suppressed_below of counts targets (length targets)

-- the rules by which results go; the run by happens-before has a name, by which code hosts keep it apart
abbrev pub rules_text : ReportKind → List ℕ
rules_text Lockset = codes "{\"id\":\"race/read\",\"shortDescription\":{\"text\":\"A read that no lock protects\"}},{\"id\":\"race/write\",\"shortDescription\":{\"text\":\"A write that no lock protects\"}},{\"id\":\"race/suppressed\",\"shortDescription\":{\"text\":\"Races that a rule of suppressions takes\"}}]}}"
rules_text Unordered = codes "{\"id\":\"unordered/read\",\"shortDescription\":{\"text\":\"A read that nothing orders after an earlier write\"}},{\"id\":\"unordered/write\",\"shortDescription\":{\"text\":\"A write that nothing orders after an earlier access\"}},{\"id\":\"unordered/reuse\",\"shortDescription\":{\"text\":\"A reuse of memory that nothing orders after an earlier access\"}},{\"id\":\"unordered/suppressed\",\"shortDescription\":{\"text\":\"Races that a rule of suppressions takes\"}}]}},\n\"automationDetails\":{\"id\":\"happens-before/\"}"

-- what stands before the results
unfoldable pub start_text : ReportKind → List ℕ
start_text of = codes "{\n\"tool\":{\"driver\":{\"name\":\"eraser\",\"rules\":[" ++ rules_text of ++ codes ",\n\"results\":["

-- what stands before the number of lost events
abbrev pub before_lost : List ℕ
before_lost = codes ",\n\"invocations\":[{\"executionSuccessful\":true,\"toolExecutionNotifications\":[{\"level\":\"warning\",\"message\":{\"text\":\""

-- what stands behind the number of lost events
abbrev pub after_lost : List ℕ
after_lost = codes " events were lost: the report is of a part of the run\"}}]}]"

-- what stands after the results
unfoldable pub end_text : Option ℕ → List ℕ
end_text lost = codes "]" ++ lost_text before_lost after_lost lost ++ codes "}"

-- the run of a report; each reason says where its access was, as far as this table knows
unfoldable pub run_text : ReportKind → NameTable → PlaceTable → List Target → Report → List ℕ
run_text of names table targets r =
    start_text of ++ rows_text (all_results of names table r.lines.items r.rule_counts.items targets) ++ end_text r.lost

-- the run of a report, if there is one
abbrev pub run_if : ReportKind → NameTable → PlaceTable → List Target → Option Report → List ℕ
run_if of names table targets None = []
run_if of names table targets (Some r) = run_text of names table targets r

-- the whole log
unfoldable pub sarif_reports : NameTable → PlaceTable → List Target → Reports → List ℕ
sarif_reports names table targets reports =
    codes "{\"$schema\":\"https://json.schemastore.org/sarif-2.1.0.json\",\n\"version\":\"2.1.0\",\n\"runs\":[" ++ run_if Lockset names table targets reports.lockset
    ++ sign_if reports (codes ",") ++ run_if Unordered names table targets reports.unordered ++ codes "]}\n"

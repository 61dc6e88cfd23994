-- The JSON of reports: each word here is the text of one value.
use Rattle.std.specs.Prelude.{ℕ, ◌*◌, ◌-◌, ◌^◌, nat_lt, Bool, true, false, cond, not, ◌&&◌, ◌||◌, is_some, List, [], ◌∷◌, ◌++◌, flat_map, filter, Option, Some, None, codes, decimal}
use Rattle.std.specs.List.{list_any}
use Rattle.er_event.specs.Lockset.{has}
use Rattle.er_event.specs.Refusal.{text_of, refusal_of}
use Rattle.er_event.specs.declared.refusals.NoRoom.{NoRoom}
use Rattle.er_event.specs.declared.refusals.Refusal.{Refusal}
use Rattle.er_event.specs.declared.steps.Event.{Event}
use Rattle.er_event.specs.declared.steps.Event.TheVariants.{Acquire, Release}
use Rattle.er_event.specs.declared.steps.Step.{Step}
use Rattle.er_event.specs.declared.steps.WordState.{WordState}
use Rattle.er_event.specs.declared.steps.WordState.TheVariants.{Virgin, Exclusive, Shared, SharedModified}
use Rattle.er_places.specs.Names.{birth_of, block_of, call_function, function_of, start_of, variable_of}
use Rattle.er_places.specs.Places.{PlaceTable, call_name}
use Rattle.er_places.specs.declared.facts.Block.{Block}
use Rattle.er_places.specs.declared.facts.Birth.{Birth}
use Rattle.er_places.specs.declared.facts.Start.{Start}
use Rattle.er_places.specs.declared.facts.Variable.{Variable}
pub use Rattle.er_places.specs.Places.{HasPlaceNames, calls_of}
pub use Rattle.er_places.specs.Reasons.{race_place, reason_place}
use Rattle.er_places.specs.declared.places.Place.{Place}
use Rattle.er_print.specs.Printed.{address_text, bytes_between, event_verb, kind_text, lost_text, name_at}
use Rattle.er_print.specs.Styles.{lock_in, locks_in, named_site, site_in, string_text, thread_in}
use Rattle.er_print.specs.Values.{array_text}
pub use Rattle.er_print.specs.Values.{values_text}
use Rattle.er_print.specs.declared.styles.Style.TheVariants as style
use Rattle.er_report.specs.Lines.{LineView, RaceView, RacedView, RefusedView, ShownView}
use Rattle.er_report.specs.Report.{Summary}
pub use Rattle.er_report.specs.Lines.{line_view}
pub use Rattle.er_report.specs.Names.{HasEventNames, HasLabelName, HasLockNames, HasNames, HasRaceNames, HasReasonNames, HasStateNames}
pub use Rattle.er_report.specs.Report.{told}
pub use Rattle.er_report.specs.Reports.{HaveNames}
use Rattle.er_report.specs.declared.report.Because.{Because}
use Rattle.er_report.specs.declared.report.Deed.{Deed}
use Rattle.er_report.specs.declared.report.Deed.TheVariants as deed
use Rattle.er_report.specs.declared.report.Label.{Label}
use Rattle.er_report.specs.declared.report.Label.TheVariants as label
use Rattle.er_report.specs.declared.report.Report.{Report}
use Rattle.er_report.specs.declared.reports.Reports.{Reports}
use Rattle.er_sites.specs.Mentions.{each_once, view_mentions}
use Rattle.er_sites.specs.declared.mentions.Mention.{Mention}
use Rattle.er_sites.specs.declared.mentions.Mention.TheVariants as mention
use Rattle.er_trace.specs.Names.{NameTable}

-- objects on lines of their own, with commas between them
abbrev pub rows_text : List (List ℕ) → List ℕ
rows_text [] = []
rows_text (row ∷ rows) = 10 ∷ row ++ flat_map (λ next. 44 ∷ 10 ∷ next) rows

-- what it has to do with a race, and the lock that does not cover it
unfoldable pub label_member : NameTable → Label → List ℕ
label_member names label.First = codes "first\",\"lock\":null"
label_member names label.Joined = codes "joined\",\"lock\":null"
label_member names label.Write = codes "write\",\"lock\":null"
label_member names (label.Uncovered lock) = codes "not covering\",\"lock\":" ++ lock_in style.Json names lock
label_member names label.Unordered = codes "unordered with\",\"lock\":null"

-- a lock is not among those that are held to write
abbrev pub is_held_to_read : List ℕ → ℕ → Bool
is_held_to_read writes lock = not (has writes lock)

-- where an access stood, and which locks its thread held, and which of them only to read
unfoldable pub place_member : NameTable → Place → List ℕ
place_member names place =
    codes ",\"site\":" ++ site_in style.Json names place.site ++ codes ",\"held\":" ++ locks_in style.Json names place.held
    ++ codes ",\"held_to_read\":" ++ locks_in style.Json names (filter (is_held_to_read place.write_held) place.held)

-- where a call stands
abbrev pub call_text : PlaceTable → ℕ → List ℕ
call_text table call = string_text (call_name table call)

-- these calls, if there are some
abbrev pub calls_member : PlaceTable → List ℕ → List ℕ
calls_member table [] = []
calls_member table (call ∷ calls) = codes ",\"calls\":" ++ array_text (call_text table) (call ∷ calls)

-- the name is known: it has a byte
abbrev pub is_known : List ℕ → Bool
is_known [] = false
is_known (byte ∷ name) = true

-- a name, null if it isn't known
abbrev pub name_value : List ℕ → List ℕ
name_value [] = codes "null"
name_value (byte ∷ name) = string_text (byte ∷ name)

-- the function that a call is in, behind a comma
abbrev pub function_item : PlaceTable → ℕ → List ℕ
function_item table call = codes "," ++ name_value (call_function table call)

-- the function that the access at a place is in, and those of the calls that led there
abbrev pub functions_text : PlaceTable → Option Place → List ℕ
functions_text table place =
    codes ",\"functions\":[" ++ name_value (function_of table place) ++ flat_map (function_item table) (calls_of table place) ++ codes "]"

-- the functions of an access and its calls, if one of them is known
abbrev pub functions_member : PlaceTable → Option Place → List ℕ
functions_member table place =
    cond (is_known (function_of table place) || list_any (λ (call : ℕ). is_known (call_function table call)) (calls_of table place)) (functions_text table place) []

-- the place of an access, the calls that led there and the functions, if that is known
abbrev pub place_if : PlaceTable → Option Place → List ℕ
place_if table None = []
place_if table (Some place) = place_member table.names place ++ calls_member table (calls_of table (Some place)) ++ functions_member table (Some place)

-- one of a race's reasons: who did what, what it has to do with the race, and where; the lines of a trace count from 1
unfoldable pub reason_text : NameTable → PlaceTable → Because → List ℕ
reason_text names table because =
    codes "{\"line\":" ++ decimal because.line ++ codes ",\"thread\":" ++ thread_in style.Json names because.thread
    ++ codes ",\"kind\":\"" ++ kind_text because.kind ++ codes "\",\"label\":\"" ++ label_member names because.label ++ place_if table (reason_place table because) ++ codes "}"

-- who did what to which word, or gave back which bytes, where, and which locks it held; the missing site of a reuse is left out
abbrev pub race_front : NameTable → RaceView → Deed → List ℕ
race_front names race (deed.Access kind word) =
    codes "{\"line\":" ++ decimal race.line ++ codes ",\"thread\":" ++ thread_in style.Json names race.thread ++ codes ",\"kind\":\"" ++ kind_text kind
    ++ codes "\",\"address\":\"" ++ address_text word ++ codes "\",\"site\":" ++ site_in style.Json names race.site
    ++ codes ",\"held\":" ++ locks_in style.Json names race.held ++ codes ",\"reasons\":["
race_front names race (deed.Reuse range) =
    codes "{\"line\":" ++ decimal race.line ++ codes ",\"thread\":" ++ thread_in style.Json names race.thread ++ codes ",\"reuse\":\"" ++ address_text range.lo
    ++ codes "\",\"bytes\":" ++ decimal (bytes_between range.lo range.hi)
    ++ named_site style.Json names (codes ",\"site\":") race.site ++ codes ",\"held\":" ++ locks_in style.Json names race.held ++ codes ",\"reasons\":["

-- where the block was allocated, and the end of the member that `subject_by` begins
abbrev pub taken_at : PlaceTable → Option ℕ → List ℕ
taken_at table None = codes ",\"site\":null}"
taken_at table (Some place) = codes ",\"site\":" ++ string_text (call_name table place) ++ codes "}"

-- the variable that a word is in, else the block that it was in, and how far in the word begins, if one of them is known
abbrev pub subject_by : PlaceTable → ℕ → Option Variable → Option Block → List ℕ
subject_by table word (Some variable) block =
    codes ",\"variable\":{\"name\":" ++ string_text variable.name.items ++ codes ",\"offset\":" ++ decimal (4 * word - variable.extent.address) ++ codes "}"
subject_by table word None (Some block) =
    codes ",\"block\":{\"size\":" ++ decimal block.extent.size ++ codes ",\"offset\":" ++ decimal (4 * word - block.extent.address)
    ++ taken_at table block.place
subject_by table word None None = []

-- what raced, if that is known; a reuse has nothing
unfoldable pub subject_member : PlaceTable → ℕ → Deed → List ℕ
subject_member table number (deed.Access kind word) = subject_by table word (variable_of table word) (block_of table number word)
subject_member table number (deed.Reuse range) = []

-- why it is a race, what led to its access, and what raced
abbrev pub reasons_end : NameTable → PlaceTable → RaceView → List ℕ
reasons_end names table race =
    values_text (reason_text names table) race.explained ++ codes "]" ++ calls_member table (calls_of table (race_place table race))
    ++ functions_member table (race_place table race) ++ subject_member table race.line race.deed ++ codes "}"

-- the lock of a lock event; any other has none
abbrev pub event_lock : NameTable → Event → List ℕ
event_lock names (Acquire lock mode) = lock_in style.Json names lock
event_lock names (Release lock mode) = lock_in style.Json names lock
event_lock names event = codes "null"

-- a refused step as an object: who asked for what, and why it was refused
unfoldable pub refused_text : NameTable → ℕ → Step → Refusal → List ℕ
refused_text names number step refusal =
    codes "{\"line\":" ++ decimal number ++ codes ",\"thread\":" ++ thread_in style.Json names step.thread ++ codes ",\"event\":\"" ++ event_verb step.event
    ++ codes "\",\"lock\":" ++ event_lock names step.event ++ codes ",\"why\":\"" ++ text_of refusal ++ codes "\"}"

-- the state of a word; that of several threads has a candidate set
unfoldable pub state_member : NameTable → WordState → List ℕ
state_member names Virgin = codes "virgin\",\"owner\":null,\"candidates\":null}"
state_member names (Exclusive thread) = codes "exclusive\",\"owner\":" ++ thread_in style.Json names thread ++ codes ",\"candidates\":null}"
state_member names (Shared locks) = codes "shared\",\"owner\":null,\"candidates\":" ++ locks_in style.Json names locks ++ codes "}"
state_member names (SharedModified locks) = codes "shared-modified\",\"owner\":null,\"candidates\":" ++ locks_in style.Json names locks ++ codes "}"

-- the object of a line
abbrev pub row_text : NameTable → PlaceTable → LineView → List ℕ
row_text names table (RacedView race) = race_front names race race.deed ++ reasons_end names table race
row_text names table (RefusedView number step refusal) = refused_text names number step refusal
row_text names table (ShownView number word state) =
    codes "{\"line\":" ++ decimal number ++ codes ",\"address\":\"" ++ address_text word ++ codes "\",\"state\":\"" ++ state_member names state

-- the line tells a race
abbrev pub is_race : LineView → Bool
is_race (RacedView race) = true
is_race (RefusedView number step refusal) = false
is_race (ShownView number word state) = false

-- the line tells of a refused step
abbrev pub is_refused : LineView → Bool
is_refused (RacedView race) = false
is_refused (RefusedView number step refusal) = true
is_refused (ShownView number word state) = false

-- the line tells the state of a word
abbrev pub is_shown : LineView → Bool
is_shown (RacedView race) = false
is_shown (RefusedView number step refusal) = false
is_shown (ShownView number word state) = true

-- the object of a line that passes
abbrev pub rows_if : (LineView → Bool) → NameTable → PlaceTable → LineView → List (List ℕ)
rows_if test names table line = cond (test line) (row_text names table line ∷ []) []

-- where the run stopped, or null; this closes the lists
unfoldable pub stop_member : Option (ℕ × NoRoom) → List ℕ
stop_member None = codes "],\n\"stop\":null"
stop_member (Some stop) = codes "],\n\"stop\":{\"line\":" ++ decimal stop.0 ++ codes ",\"why\":\"" ++ text_of (refusal_of stop.1) ++ codes "\"}"

-- how many races each rule took
unfoldable pub counts_member : List ℕ → List ℕ
counts_member counts = codes ",\n\"suppressions\":[" ++ values_text decimal counts ++ codes "]"

-- the totals, with the lost events, if some were; this closes the document
unfoldable pub totals_member : Summary → List ℕ
totals_member s =
    codes ",\n\"totals\":{\"steps\":" ++ decimal s.steps ++ codes ",\"races\":" ++ decimal s.races ++ codes ",\"suppressed\":" ++ decimal s.suppressed
    ++ codes ",\"refused\":" ++ decimal s.refused ++ lost_text (codes ",\"lost\":") [] s.lost ++ codes "}}\n"

-- the lists of a document, each in the order of the report, and the first behind this heading
unfoldable pub lists_text : List ℕ → NameTable → PlaceTable → List LineView → List ℕ
lists_text heading names table lines =
    heading ++ rows_text (flat_map (rows_if is_race names table) lines)
    ++ codes "],\n\"refused\":[" ++ rows_text (flat_map (rows_if is_refused names table) lines)
    ++ codes "],\n\"shown\":[" ++ rows_text (flat_map (rows_if is_shown names table) lines)

-- a thread of this name was started at this place, behind a comma, if that is known
abbrev pub started_row : NameTable → PlaceTable → ℕ → List ℕ → Option ℕ → List ℕ
started_row names table thread name None = []
started_row names table thread name (Some place) =
    codes ",\n{\"thread\":" ++ thread_in style.Json names thread ++ codes ",\"name\":" ++ name_value name
    ++ (codes ",\"site\":" ++ string_text (call_name table place) ++ codes "}")

-- what is known of how it began
abbrev pub began_row : NameTable → PlaceTable → ℕ → Option Start → List ℕ
began_row names table thread None = []
began_row names table thread (Some start) = started_row names table thread start.name.items start.place

-- where the thread of a number was started, if that is known
abbrev pub thread_row : NameTable → PlaceTable → ℕ → List ℕ
thread_row names table thread = began_row names table thread (start_of table (name_at names.threads thread))

-- whether a call created a lock, or else was the first that acquired it
abbrev pub created_text : Bool → List ℕ
created_text true = codes ",\"created\":true}"
created_text false = codes ",\"created\":false}"

-- where the life of a lock began, if that is known
abbrev pub born_row : PlaceTable → ℕ → Option Birth → List ℕ
born_row table lock None = []
born_row table lock (Some birth) =
    codes ",\n{\"lock\":" ++ lock_in style.Json table.names lock ++ codes ",\"site\":" ++ string_text (call_name table birth.place) ++ created_text birth.is_created

-- where the life of the lock of a number began, if that is known
abbrev pub birth_row : PlaceTable → ℕ → List ℕ
birth_row table lock = born_row table lock (birth_of table lock)

-- what is known of a number; no thread has one of 2^30 or more
abbrev pub mention_row : Mention → NameTable → PlaceTable → ℕ → List ℕ
mention_row mention.Threads names table thread = cond (nat_lt thread (2 ^ 30)) (thread_row names table thread) []
mention_row mention.Locks names table lock = birth_row table lock

-- items behind this heading, if there are some: the first has no comma
abbrev pub list_member : List ℕ → List ℕ → List ℕ
list_member heading [] = []
list_member heading (comma ∷ items) = heading ++ items ++ codes "]"

-- the heading of threads, or of locks
abbrev pub mention_title : Mention → List ℕ
mention_title mention.Threads = codes ",\n\"threads\":["
mention_title mention.Locks = codes ",\n\"locks\":["

-- where the threads of these races were started, or where the lives of their locks began, each once
unfoldable pub mentions_member : Mention → NameTable → PlaceTable → List LineView → List ℕ
mentions_member of names table lines = list_member (mention_title of) (flat_map (mention_row of names table) (each_once (flat_map (view_mentions of table) lines)))

-- the document of a report
unfoldable pub document_text : List ℕ → NameTable → PlaceTable → Summary → List ℕ
document_text heading names table s =
    lists_text heading names table s.lines ++ stop_member s.stop ++ counts_member s.rule_counts ++ mentions_member mention.Threads names table s.lines
    ++ mentions_member mention.Locks names table s.lines ++ totals_member s

-- the document of a report, if there is one
abbrev pub document_if : List ℕ → NameTable → PlaceTable → Option Report → List ℕ
document_if heading names table None = []
document_if heading names table (Some report) = document_text heading names table (told report)

-- what the document of the lockset rule begins with
abbrev pub lockset_heading : List ℕ
lockset_heading = codes "{\"format\":1,\n\"races\":["

-- what the document by happens-before begins with: it names its analysis
abbrev pub order_heading : List ℕ
order_heading = codes "{\"format\":1,\"analysis\":\"happens-before\",\n\"races\":["

-- a sign that stands around or between the texts of two reports, if there are two
abbrev pub sign_if : Reports → List ℕ → List ℕ
sign_if reports sign = cond (is_some reports.lockset && is_some reports.unordered) sign []

-- the document of each report; each reason says where its access was, as far as this table knows
unfoldable pub json_reports : NameTable → PlaceTable → Reports → List ℕ
json_reports names table reports =
    sign_if reports (codes "[\n") ++ document_if lockset_heading names table reports.lockset
    ++ sign_if reports (codes ",\n") ++ document_if order_heading names table reports.unordered ++ sign_if reports (codes "]\n")

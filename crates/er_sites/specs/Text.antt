-- The text for people: a table of the sites with races, a race of each site in sentences, and the reuses.
use Rattle.std.specs.Prelude.{ℕ, zero, suc, ◌*◌, ◌-◌, ◌==◌, ◌&&◌, ◌||◌, not, Bool, true, false, cond, List, [], ◌∷◌, ◌++◌, length, drop, take, flat_map, min, reverse, option_and_then, Option, Some, None, codes, decimal, slice_get}
use Rattle.std.specs.List.{list_any, find}
use Rattle.er_event.specs.Lockset.{has}
use Rattle.er_event.specs.Refusal.{text_of}
use Rattle.er_event.specs.declared.addresses.PageRange.{PageRange}
use Rattle.er_event.specs.declared.steps.Kind.{Kind}
use Rattle.er_event.specs.declared.steps.Kind.TheVariants as kind
use Rattle.er_trace.specs.Names.{NameTable}
use Rattle.er_places.specs.Names.{block_of, call_function, function_of, variable_of}
use Rattle.er_places.specs.declared.facts.Block.{Block}
use Rattle.er_places.specs.declared.facts.Variable.{Variable}
use Rattle.er_places.specs.Places.{PlaceTable, call_name}
use Rattle.er_places.specs.Reasons.{race_place}
pub use Rattle.er_places.specs.Places.{calls_of}
pub use Rattle.er_places.specs.Places.{HasPlaceNames}
pub use Rattle.er_places.specs.Reasons.{reason_place}
use Rattle.er_places.specs.declared.places.Place.{Place}
use Rattle.er_print.specs.Printed.{name_at, address_text, bytes_between}
use Rattle.er_print.specs.Styles.{lock_in, name_in, short, site_in, thread_in}
use Rattle.er_print.specs.declared.styles.Style.{Style}
use Rattle.er_print.specs.declared.styles.Style.TheVariants as style
use Rattle.er_report.specs.Lines.{LineView, RaceView, RacedView, RefusedView, ShownView}
pub use Rattle.er_report.specs.Lines.{line_view, race_of}
pub use Rattle.er_report.specs.Names.{HasLockName, HasLockNames, HasNames, HasRaceNames, HasReasonNames}
use Rattle.er_report.specs.declared.report.Because.{Because}
use Rattle.er_report.specs.declared.report.Deed.{Deed}
use Rattle.er_report.specs.declared.report.Deed.TheVariants as deed
use Rattle.er_report.specs.declared.report.Label.{Label}
use Rattle.er_report.specs.declared.report.Label.TheVariants as label
use Rattle.er_report.specs.declared.report.Line.{Line}
use Rattle.er_report.specs.declared.report.Line.TheVariants.{Race, Reused, Refused, Shown}
use Rattle.er_sites.specs.Table.{races_of}
use Rattle.er_sites.specs.declared.row.SiteRow.{SiteRow}

-- a site in so many bytes at most; sites count from 1, and the missing one is a dash
abbrev pub site_within : ℕ → NameTable → ℕ → List ℕ
site_within most names zero = codes "-"
site_within most names (suc n) = short most (name_at names.sites n)

-- a number, and spaces up to the next column
abbrev pub column_text : ℕ → List ℕ
column_text n = decimal n ++ drop (min (length (decimal n)) 10) (codes "          ")

-- what the races of a row do, and spaces up to the next column
abbrev pub kinds_text : ℕ → ℕ → ℕ → List ℕ
kinds_text zero zero reuses = codes "reuse       "
kinds_text zero (suc l) zero = codes "write       "
kinds_text zero (suc l) (suc m) = codes "write reuse "
kinds_text (suc k) zero zero = codes "read        "
kinds_text (suc k) zero (suc m) = codes "read reuse  "
kinds_text (suc k) (suc l) zero = codes "read write  "
kinds_text (suc k) (suc l) (suc m) = codes "all three   "

-- the row of a site in the table
abbrev pub row_text : NameTable → SiteRow → List ℕ
row_text names row =
    column_text (races_of row) ++ kinds_text row.reads row.writes row.reuses ++ column_text row.threads ++ column_text row.locks
    ++ (site_in style.Short names row.site ++ codes "\n")

-- what an access did
abbrev pub did_text : Kind → List ℕ
did_text kind.Read = codes " read"
did_text kind.Write = codes " wrote"

-- the line of the trace
abbrev pub line_text : ℕ → List ℕ
line_text number = codes " (line " ++ decimal number ++ codes ")\n"

-- if this reason is the race itself, the lock did not protect it: the reason names the lock, or is the second thread's first access, which
-- is a race only if no lock protects it
abbrev pub is_failed : ℕ → Label → Bool
is_failed lock label.First = false
is_failed lock label.Joined = true
is_failed lock label.Write = false
is_failed lock (label.Uncovered other) = other == lock
is_failed lock label.Unordered = false

-- it says that some lock did not protect an access
abbrev pub is_uncovered : Label → Bool
is_uncovered label.First = false
is_uncovered label.Joined = false
is_uncovered label.Write = false
is_uncovered (label.Uncovered lock) = true
is_uncovered label.Unordered = false

-- the reason shows that this lock did not protect the race on that line
abbrev pub is_without : ℕ → ℕ → Because → Bool
is_without number lock because = is_failed lock because.label && because.line == number

-- the access at this place didn't hold the lock to write
abbrev pub is_weak_at : Option Place → ℕ → Bool
is_weak_at None lock = false
is_weak_at (Some place) lock = not (has place.write_held lock)

-- a lock that isn't held to write at the place of the race is held only to read, and so is one that is held and does not protect
abbrev pub is_weak : RaceView → Option Place → ℕ → Bool
is_weak race own lock = is_weak_at own lock || list_any (is_without race.line lock) race.explained

-- what marks a lock that was held only to read
abbrev pub mode_text : Bool → List ℕ
mode_text only_to_read = cond only_to_read (codes ", but only to read") []

-- a lock that the thread of a race held
abbrev pub held_text : NameTable → RaceView → Option Place → ℕ → List ℕ
held_text names race own lock =
    codes "  " ++ thread_in style.Short names race.thread ++ codes " held " ++ lock_in style.Short names lock ++ mode_text (is_weak race own lock) ++ codes "\n"

-- these locks that it held, or that it held none
abbrev pub holds_text : NameTable → RaceView → Option Place → List ℕ → List ℕ
holds_text names race own [] = codes "  " ++ thread_in style.Short names race.thread ++ codes " held no lock\n"
holds_text names race own (lock ∷ locks) = flat_map (held_text names race own) (lock ∷ locks)

-- what an access has to do with a race: it was early, it was made without a lock, or nothing orders it
abbrev pub story_text : NameTable → ℕ → Kind → Label → List ℕ
story_text names thread kind label.First = thread_in style.Short names thread ++ codes " used it first: it" ++ did_text kind ++ codes " it"
story_text names thread kind label.Joined = thread_in style.Short names thread ++ codes " was the second: it" ++ did_text kind ++ codes " it"
story_text names thread kind label.Write = thread_in style.Short names thread ++ codes " has written it since then"
story_text names thread kind (label.Uncovered lock) =
    lock_in style.Short names lock ++ codes " did not protect it when " ++ thread_in style.Short names thread ++ did_text kind ++ codes " it"
story_text names thread kind label.Unordered = codes "nothing orders this before it: " ++ thread_in style.Short names thread ++ did_text kind ++ codes " it"

-- a lock that the thread of a reason held, if these are held to write
abbrev pub kept_text : NameTable → List ℕ → ℕ → List ℕ
kept_text names writes lock = codes "    holding " ++ lock_in style.Short names lock ++ mode_text (not (has writes lock)) ++ codes "\n"

-- the site of an access, and that its thread held no lock if it held none; the missing site is left out
abbrev pub at_text : NameTable → ℕ → Bool → List ℕ
at_text names zero true = codes "    holding no lock\n"
at_text names zero false = []
at_text names (suc n) true = codes "    at " ++ site_in style.Short names (suc n) ++ codes ", holding no lock\n"
at_text names (suc n) false = codes "    at " ++ site_in style.Short names (suc n) ++ codes "\n"

-- a name behind this text and before that; one that isn't known is empty
abbrev pub known_text : Style → List ℕ → List ℕ → List ℕ → List ℕ
known_text style before [] behind = []
known_text style before (byte ∷ name) behind = before ++ name_in style 72 (byte ∷ name) ++ behind

-- where a call that led to an access stands, and in which function
abbrev pub call_text : PlaceTable → ℕ → List ℕ
call_text table call = (codes "    called at " ++ short 72 (call_name table call)) ++ known_text style.Short (codes " in ") (call_function table call) [] ++ codes "\n"

-- how many calls are left out
abbrev pub more_calls : ℕ → List ℕ
more_calls zero = []
more_calls (suc n) = codes "    .. and " ++ decimal (suc n) ++ codes " more\n"

-- the first 8 of these calls, innermost first
unfoldable pub called_text : PlaceTable → List ℕ → List ℕ
called_text table calls = flat_map (call_text table) (take 8 calls) ++ more_calls (length calls - 8)

-- the function that an access is in, and the calls that led there
abbrev pub led_text : PlaceTable → Option Place → List ℕ
led_text table place = known_text style.Short (codes "    in ") (function_of table place) (codes "\n") ++ called_text table (calls_of table place)

-- where an access stood, what led there, and the locks that its thread held
abbrev pub stood_text : PlaceTable → Place → List ℕ
stood_text table place =
    at_text table.names place.site (length place.held == 0) ++ led_text table (Some place) ++ flat_map (kept_text table.names place.write_held) place.held

-- where an access stood and what its thread held, if that is known
abbrev pub stood_if : PlaceTable → Option Place → List ℕ
stood_if table None = []
stood_if table (Some place) = stood_text table place

-- where the access of a reason stood, unless it is the race itself, which is on this line
abbrev pub where_text : PlaceTable → ℕ → Because → List ℕ
where_text table number because = cond (because.line == number) [] (stood_if table (reason_place table because))

-- one of the reasons of the race on this line
abbrev pub reason_text : NameTable → PlaceTable → ℕ → Because → List ℕ
reason_text names table number because =
    codes "  " ++ story_text names because.thread because.kind because.label ++ line_text because.line ++ where_text table number because

-- what follows from the reasons of the lockset rule
abbrev pub no_common_lock : List ℕ
no_common_lock = codes "  So no lock protected all accesses from the second thread's first one on" ++ 10 ∷ []

-- what follows from reasons of which the first has this label: of an unordered access nothing more
abbrev pub so_by : Label → List ℕ
so_by label.First = no_common_lock
so_by label.Joined = no_common_lock
so_by label.Write = no_common_lock
so_by (label.Uncovered lock) = no_common_lock
so_by label.Unordered = []

-- what follows from all reasons, if they are known
abbrev pub so_text : List Because → List ℕ
so_text [] = []
so_text (because ∷ more) = so_by because.label

-- a lock that had covered the word did not protect this access, which is the race on this line
abbrev pub lacks_lock : ℕ → Because → Bool
lacks_lock number because = is_uncovered because.label && because.line == number

-- a race may be with this access: if it lacks a lock, with any but itself, and else with one of another thread
abbrev pub may_meet : Bool → RaceView → Because → Bool
may_meet lacks race because = not (cond lacks (because.line == race.line) (because.thread == race.thread))

-- two sites in one line
unfoldable pub pair_text : NameTable → NameTable → ℕ → ℕ → List ℕ
pair_text names others site other = site_within 57 names site ++ codes " and " ++ site_within 57 others other

-- the last reason whose access a race may be with
abbrev pub met : RaceView → Option Because
met race = find (may_meet (list_any (lacks_lock race.line) race.explained) race) (reverse race.explained)

-- the site of a race, and that of the access which it is with, if that is known and another one
abbrev pub met_text : NameTable → NameTable → ℕ → Option Place → List ℕ
met_text names others site None = site_in style.Short names site
met_text names others site (Some place) = cond (place.site == 0 || place.site == site) (site_in style.Short names site) (pair_text names others site place.site)

-- behind an empty line
abbrev pub title_text : NameTable → PlaceTable → RaceView → List ℕ
title_text names table race = 10 ∷ [] ++ met_text names table.names race.site (option_and_then (reason_place table) (met race)) ++ 58 ∷ 10 ∷ []

-- a number that isn't 0, behind a sign
abbrev pub plus_text : ℕ → List ℕ
plus_text zero = []
plus_text (suc n) = codes "+" ++ decimal (suc n)

-- the variable that has a word, and how far in the word begins
unfoldable pub variable_text : Style → ℕ → Variable → List ℕ
variable_text style word variable = codes " " ++ name_in style 72 variable.name.items ++ plus_text (4 * word - variable.extent.address) ++ codes ","

-- the end of what `block_text` begins, and where the block was allocated, if that is known
abbrev pub from_text : Style → PlaceTable → Option ℕ → List ℕ
from_text style table None = codes " bytes,"
from_text style table (Some place) = codes " bytes allocated at " ++ name_in style 72 (call_name table place) ++ codes ","

-- how far in which block a word begins
unfoldable pub block_text : Style → PlaceTable → ℕ → Block → List ℕ
block_text style table word block =
    (codes " byte " ++ decimal (4 * word - block.extent.address) ++ codes " of a block of " ++ decimal block.extent.size) ++ from_text style table block.place

-- the variable, else the block, if one of them is known
abbrev pub subject_by : Style → PlaceTable → ℕ → Option Variable → Option Block → List ℕ
subject_by style table word (Some variable) block = variable_text style word variable
subject_by style table word None (Some block) = block_text style table word block
subject_by style table word None None = []

-- what is known of a race's word
unfoldable pub subject_text : Style → PlaceTable → ℕ → ℕ → List ℕ
subject_text style table line word = subject_by style table word (variable_of table word) (block_of table line word)

-- the access of a race
unfoldable pub head_text : NameTable → PlaceTable → RaceView → Kind → ℕ → List ℕ
head_text names table race kind word =
    codes "  " ++ thread_in style.Short names race.thread ++ did_text kind ++ subject_text style.Short table race.line word
    ++ (codes " the word at " ++ address_text word ++ codes " (line " ++ decimal race.line ++ codes ")\n")

-- a race in sentences: its access, what led to it, its locks and its reasons
abbrev pub access_story : NameTable → PlaceTable → RaceView → Kind → ℕ → List ℕ
access_story names table race kind word =
    head_text names table race kind word ++ led_text table (race_place table race)
    ++ holds_text names race (race_place table race) race.held ++ flat_map (reason_text names table race.line) race.explained ++ so_text race.explained

-- who gave back how much memory
abbrev pub given_back_text : NameTable → RaceView → PageRange → List ℕ
given_back_text names race range =
    codes "  " ++ thread_in style.Short names race.thread ++ codes " gave back " ++ decimal (bytes_between range.lo range.hi) ++ codes " bytes (line " ++ decimal race.line ++ codes ")\n"

-- a reuse in sentences, and why it is a race
unfoldable pub reuse_text : NameTable → PlaceTable → RaceView → PageRange → List ℕ
reuse_text names table race range = given_back_text names race range ++ flat_map (reason_text names table race.line) race.explained

-- what the thread of a race did, in sentences
abbrev pub deed_text : NameTable → PlaceTable → RaceView → Deed → List ℕ
deed_text names table race (deed.Access kind word) = access_story names table race kind word
deed_text names table race (deed.Reuse range) = reuse_text names table race range

-- under the site of the race; other lines have no race
abbrev pub example_text : NameTable → PlaceTable → Option RaceView → List ℕ
example_text names table None = []
example_text names table (Some race) = title_text names table race ++ deed_text names table race race.deed

-- a reuse without a site in sentences, under the address of its first byte
abbrev pub lone_text : NameTable → PlaceTable → RaceView → ℕ → Deed → List ℕ
lone_text names table race zero (deed.Reuse range) = address_text range.lo ++ codes ":\n" ++ reuse_text names table race range ++ 10 ∷ []
lone_text names table race site did = []

-- a race in sentences, if it is a reuse without a site
abbrev pub reuse_story : NameTable → PlaceTable → Option RaceView → List ℕ
reuse_story names table None = []
reuse_story names table (Some race) = lone_text names table race race.site race.deed

-- the line tells of a reuse that races
abbrev pub is_reused : Line → Bool
is_reused (Race kind thread site number word details) = false
is_reused (Reused thread site number range details) = true
is_reused (Refused refusal step number) = false
is_reused (Shown number word state) = false

-- the example of a row, among the lines of the report
abbrev pub example_of : NameTable → PlaceTable → Option Line → List ℕ
example_of names table None = []
example_of names table (Some line) = example_text names table (race_of (line_view line))

-- the table below the heads of its columns, an example of each of its rows, and an empty line; without rows nothing
abbrev pub rows_text : NameTable → PlaceTable → List Line → List SiteRow → List ℕ
rows_text names table lines [] = []
rows_text names table lines (row ∷ rows) =
    codes "words     kinds       threads   locks     site\n" ++ flat_map (row_text names) (row ∷ rows)
    ++ flat_map (λ (row : SiteRow). example_of names table (slice_get lines row.example)) (row ∷ rows) ++ codes "\n"

-- the line of a refused step, and why it was refused
abbrev pub refusal_text : LineView → List ℕ
refusal_text (RacedView race) = []
refusal_text (RefusedView number step refusal) = codes "first refused: line " ++ decimal number ++ codes ": " ++ text_of refusal ++ 10 ∷ []
refusal_text (ShownView number word state) = []

-- the line tells of a refused step
abbrev pub is_refused : Line → Bool
is_refused (Race kind thread site number word details) = false
is_refused (Reused thread site number range details) = false
is_refused (Refused refusal step number) = true
is_refused (Shown number word state) = false

-- the line of the first refused step of a report, if there is one
abbrev pub refused_text : Option Line → List ℕ
refused_text None = []
refused_text (Some line) = refusal_text (line_view line)

-- The threads and the locks that races mention, each once: where these threads were started, and where the lives of these locks began.
use Rattle.std.specs.Prelude.{ℕ, zero, Bool, true, false, List, [], ◌∷◌, ◌++◌, ◌<◌, ◌^◌, cond, flat_map, length, nat_eq, nat_lt, slice_get, Option, Some, None, codes}
use Rattle.er_places.specs.Names.{birth_of, start_of}
use Rattle.er_places.specs.Places.{PlaceTable, call_name}
use Rattle.er_places.specs.Reasons.{race_place, reason_place}
use Rattle.er_places.specs.declared.facts.Birth.{Birth}
use Rattle.er_places.specs.declared.facts.Start.{Start}
use Rattle.er_places.specs.declared.places.Place.{Place}
use Rattle.er_print.specs.Printed.{name_at}
use Rattle.er_print.specs.Styles.{lock_in, short, thread_in}
use Rattle.er_print.specs.declared.styles.Style.TheVariants as style
use Rattle.er_report.specs.Lines.{LineView, RaceView, line_view, race_of}
use Rattle.er_report.specs.Names.{HasLockName}
use Rattle.er_report.specs.declared.report.Because.{Because}
use Rattle.er_report.specs.declared.report.Deed.{Deed}
use Rattle.er_report.specs.declared.report.Deed.TheVariants as deed
use Rattle.er_report.specs.declared.report.Line.{Line}
use Rattle.er_sites.specs.Text.{known_text}
use Rattle.er_sites.specs.declared.mentions.Mention.{Mention}
use Rattle.er_sites.specs.declared.mentions.Mention.TheVariants as mention
use Rattle.er_sites.specs.declared.row.SiteRow.{SiteRow}
use Rattle.er_trace.specs.Names.{NameTable}
use Rattle.indexmap.specs.IndexSet.{insert_all}

-- the locks that a thread held at a place
abbrev pub held_at : Option Place → List ℕ
held_at None = []
held_at (Some place) = place.held

-- an access mentions its thread, or the locks that this held there
abbrev pub access_mentions : Mention → ℕ → Option Place → List ℕ
access_mentions mention.Threads thread place = thread ∷ []
access_mentions mention.Locks thread place = held_at place

-- a race mentions what its own access does, and then what those of its reasons do
abbrev pub race_mentions : Mention → PlaceTable → Option RaceView → List ℕ
race_mentions of table None = []
race_mentions of table (Some race) =
    access_mentions of race.thread (race_place table race) ++ flat_map (λ (because : Because). access_mentions of because.thread (reason_place table because)) race.explained

-- what a line mentions, as contracts see it
abbrev pub view_mentions : Mention → PlaceTable → LineView → List ℕ
view_mentions of table view = race_mentions of table (race_of view)

-- what a line mentions
abbrev pub line_mentions : Mention → PlaceTable → Line → List ℕ
line_mentions of table line = view_mentions of table (line_view line)

-- what the example of a row mentions
abbrev pub row_mentions : Mention → PlaceTable → Option Line → List ℕ
row_mentions of table None = []
row_mentions of table (Some line) = line_mentions of table line

-- what the example of a row mentions, by its place among the lines
abbrev pub example_mentions : Mention → PlaceTable → List Line → SiteRow → List ℕ
example_mentions of table lines row = row_mentions of table (slice_get lines row.example)

-- what a race mentions, if it is a reuse without a site
abbrev pub lone_mentions : Mention → PlaceTable → RaceView → ℕ → Deed → List ℕ
lone_mentions of table race zero (deed.Reuse range) = race_mentions of table (Some race)
lone_mentions of table race site did = []

-- what a race mentions, if there is one and it is a reuse without a site
abbrev pub reuse_mentions : Mention → PlaceTable → Option RaceView → List ℕ
reuse_mentions of table None = []
reuse_mentions of table (Some race) = lone_mentions of table race race.site race.deed

-- each of these numbers once, where it stands first
abbrev pub each_once : List ℕ → List ℕ
each_once numbers = insert_all nat_eq [] numbers

-- a thread is named by the report, and a lock by the places
abbrev pub HasMentionName : Mention → NameTable → PlaceTable → ℕ → Type 0
HasMentionName mention.Threads names table thread = thread < length names.threads
HasMentionName mention.Locks names table lock = HasLockName table.names lock

-- a thread of this name was started at this place, if that is known
abbrev pub started_text : NameTable → PlaceTable → ℕ → List ℕ → Option ℕ → List ℕ
started_text names table thread name None = []
started_text names table thread name (Some place) =
    codes "  " ++ thread_in style.Short names thread ++ known_text style.Short (codes " \"") name (codes "\"")
    ++ (codes " was started at " ++ short 72 (call_name table place) ++ codes "\n")

-- how it began, if that is known
abbrev pub began_text : NameTable → PlaceTable → ℕ → Option Start → List ℕ
began_text names table thread None = []
began_text names table thread (Some start) = started_text names table thread start.name.items start.place

-- where the thread of a number was started, if that is known
abbrev pub start_text : NameTable → PlaceTable → ℕ → List ℕ
start_text names table thread = began_text names table thread (start_of table (name_at names.threads thread))

-- whether the life of a lock began with the call that created it, or else with the first one that acquired it
abbrev pub began_words : Bool → List ℕ
began_words true = codes " was created at "
began_words false = codes " was first taken at "

-- where the life of a lock began, if that is known
abbrev pub born_text : PlaceTable → ℕ → Option Birth → List ℕ
born_text table lock None = []
born_text table lock (Some birth) = codes "  " ++ lock_in style.Short table.names lock ++ began_words birth.is_created ++ short 72 (call_name table birth.place) ++ codes "\n"

-- where the life of the lock of a number began, if that is known
abbrev pub birth_text : PlaceTable → ℕ → List ℕ
birth_text table lock = born_text table lock (birth_of table lock)

-- what is known of a number; no thread has one of 2^30 or more
abbrev pub mention_text : Mention → NameTable → PlaceTable → ℕ → List ℕ
mention_text mention.Threads names table thread = cond (nat_lt thread (2 ^ 30)) (start_text names table thread) []
mention_text mention.Locks names table lock = birth_text table lock

-- lines below this heading and above an empty line, if there are some
abbrev pub headed : List ℕ → List ℕ → List ℕ
headed title [] = []
headed title (byte ∷ bytes) = title ++ (byte ∷ bytes) ++ codes "\n"

-- the heading of threads, or of locks
abbrev pub mention_title : Mention → List ℕ
mention_title mention.Threads = codes "threads:\n"
mention_title mention.Locks = codes "locks:\n"

-- where these threads were started, or where the lives of these locks began, each once
unfoldable pub mentions_text : Mention → NameTable → PlaceTable → List ℕ → List ℕ
mentions_text of names table numbers = headed (mention_title of) (flat_map (mention_text of names table) (each_once numbers))

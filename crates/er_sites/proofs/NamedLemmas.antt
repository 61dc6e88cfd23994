-- The threads and the locks that a text mentions have names.
use Rattle.std.proofs.Common.{◌≡◌, ◌<◌, ◌∙◌, ℕ, zero, suc, Bool, true, false, All, List, [], ◌++◌, cond, length, flat_map, get_or, slice_get, unwrap_or, Option, None, Some, IfSome, refl, sym, ap, subst}
use Rattle.std.proofs.lemmas.Option.{slice_get_within, unwrap_or-slice_get}
use Rattle.std.proofs.lemmas.List.Elements.{All-append, All-cons, All-nil}
use Rattle.er_event.specs.declared.steps.Kind.{Kind}
use Rattle.er_places.specs.Places.{HasPlaceNames, PlaceTable, place_at}
use Rattle.er_places.specs.Reasons.{access_place, deed_place, fits, if_fits, race_place, reason_place}
use Rattle.er_places.specs.declared.places.Place.{Place}
use Rattle.er_report.specs.Lines.{RaceView, line_view, race_of}
use Rattle.er_report.specs.Names.{HasLockName, HasNames, HasRaceNames}
use Rattle.er_report.specs.Reports.{HaveNames}
use Rattle.er_report.specs.declared.report.Because.{Because}
use Rattle.er_report.specs.declared.report.Deed.{Deed}
use Rattle.er_report.specs.declared.report.Deed.TheVariants as deed
use Rattle.er_report.specs.declared.report.Line.{Line}
use Rattle.er_report.specs.declared.report.Line.TheVariants.{Race, Reused, Refused, Shown}
use Rattle.er_report.specs.declared.reports.Reports.{Reports}
use Rattle.er_sites.proofs.MentionLemmas.{all_flat, all_kept}
use Rattle.er_sites.proofs.SiteLemmas.{lines_named}
use Rattle.er_sites.specs.Mentions.{HasMentionName, access_mentions, each_once, example_mentions, held_at, line_mentions, lone_mentions, race_mentions, reuse_mentions, row_mentions}
use Rattle.er_sites.specs.Sites.{lines_of, told_mentions}
use Rattle.er_sites.specs.declared.mentions.Mention.{Mention}
use Rattle.er_sites.specs.declared.mentions.Mention.TheVariants as mention
use Rattle.er_sites.specs.declared.row.SiteRow.{SiteRow}
use Rattle.er_trace.specs.Names.{NameTable}

-- the places of a table have names
abbrev ArePlaced : PlaceTable → Type 0
ArePlaced table = (line : ℕ) → IfSome (place_at table line) (HasPlaceNames table.names)

one_named : (names : NameTable) (place : Place) (b : Bool) → HasPlaceNames names place → All (HasLockName names) (held_at (cond b (Some place) None))
one_named names place true named = named.held
one_named names place false named = All-nil (HasLockName names)

held_named : (names : NameTable) (thread : ℕ) (kind : Kind) (found : Option Place) → IfSome found (HasPlaceNames names) → All (HasLockName names) (held_at (if_fits thread kind found))
held_named names thread kind None named = All-nil (HasLockName names)
held_named names thread kind (Some place) named = one_named names place (fits thread kind place) named

access_named : (of : Mention) (names : NameTable) (table : PlaceTable) (line thread : ℕ) (kind : Kind) → ArePlaced table → thread < length names.threads
    → All (HasMentionName of names table) (access_mentions of thread (access_place table line thread kind))
access_named mention.Threads names table line thread kind placed named =
    All-cons (HasMentionName mention.Threads names table) thread [] named (All-nil (HasMentionName mention.Threads names table))
access_named mention.Locks names table line thread kind placed named = held_named table.names thread kind (place_at table line) (placed line)

no_place : (of : Mention) (names : NameTable) (table : PlaceTable) (thread : ℕ) → thread < length names.threads → All (HasMentionName of names table) (access_mentions of thread None)
no_place mention.Threads names table thread named = All-cons (HasMentionName mention.Threads names table) thread [] named (All-nil (HasMentionName mention.Threads names table))
no_place mention.Locks names table thread named = All-nil (HasMentionName mention.Locks names table)

own_named : (of : Mention) (names : NameTable) (table : PlaceTable) (race : RaceView) (did : Deed) → ArePlaced table → race.thread < length names.threads
    → All (HasMentionName of names table) (access_mentions of race.thread (deed_place table race did))
own_named of names table race (deed.Access kind word) placed named = access_named of names table race.line race.thread kind placed named
own_named of names table race (deed.Reuse range) placed named = no_place of names table race.thread named

race_named : (of : Mention) (names : NameTable) (table : PlaceTable) (race : RaceView) → ArePlaced table → HasRaceNames names race
    → All (HasMentionName of names table) (race_mentions of table (Some race))
race_named of names table race placed named =
    All-append (HasMentionName of names table) (access_mentions of race.thread (race_place table race)) _ (own_named of names table race race.deed placed named.thread)
    (all_flat (HasMentionName of names table) (λ (because : Because). access_mentions of because.thread (reason_place table because)) race.explained
    (λ k d h. access_named of names table (get_or race.explained k d).line (get_or race.explained k d).thread (get_or race.explained k d).kind placed (named.explained k d h).0))

line_named : (of : Mention) (names : NameTable) (table : PlaceTable) (line : Line) → ArePlaced table → HasNames names line → All (HasMentionName of names table) (line_mentions of table line)
line_named of names table (Race kind thread site number word details) placed named = race_named of names table _ placed named
line_named of names table (Reused thread site number range details) placed named = race_named of names table _ placed named
line_named of names table (Refused refusal step number) placed named = All-nil (HasMentionName of names table)
line_named of names table (Shown number word state) placed named = All-nil (HasMentionName of names table)

lone_named : (of : Mention) (names : NameTable) (table : PlaceTable) (race : RaceView) (site : ℕ) (did : Deed) → ArePlaced table → HasRaceNames names race
    → All (HasMentionName of names table) (lone_mentions of table race site did)
lone_named of names table race zero (deed.Reuse range) placed named = race_named of names table race placed named
lone_named of names table race (suc site) (deed.Reuse range) placed named = All-nil (HasMentionName of names table)
lone_named of names table race zero (deed.Access kind word) placed named = All-nil (HasMentionName of names table)
lone_named of names table race (suc site) (deed.Access kind word) placed named = All-nil (HasMentionName of names table)

reuse_named : (of : Mention) (names : NameTable) (table : PlaceTable) (line : Line) → ArePlaced table → HasNames names line
    → All (HasMentionName of names table) (reuse_mentions of table (race_of (line_view line)))
reuse_named of names table (Race kind thread site number word details) placed named = lone_named of names table _ site (deed.Access kind word) placed named
reuse_named of names table (Reused thread site number range details) placed named = lone_named of names table _ site (deed.Reuse range.value) placed named
reuse_named of names table (Refused refusal step number) placed named = All-nil (HasMentionName of names table)
reuse_named of names table (Shown number word state) placed named = All-nil (HasMentionName of names table)

row_named : (of : Mention) (names : NameTable) (table : PlaceTable) (lines : List Line) (place : ℕ) → ArePlaced table → All (HasNames names) lines
    → All (HasMentionName of names table) (row_mentions of table (slice_get lines place))
row_named of names table lines place placed named = by (slice_get lines place) refl
  where
    by : (found : Option Line) → slice_get lines place ≡ found → All (HasMentionName of names table) (row_mentions of table found)
    by None is = All-nil (HasMentionName of names table)
    by (Some line) is =
        line_named of names table line placed (subst (HasNames names) (sym (unwrap_or-slice_get lines place line) ∙ ap (λ (o : Option Line). unwrap_or o line) is) (named place line (slice_get_within lines place line is)))

examples_named : (of : Mention) (names : NameTable) (table : PlaceTable) (lines : List Line) (rows : List SiteRow) → ArePlaced table → All (HasNames names) lines
    → All (HasMentionName of names table) (flat_map (example_mentions of table lines) rows)
examples_named of names table lines rows placed named = all_flat (HasMentionName of names table) (example_mentions of table lines) rows (λ k d h. row_named of names table lines _ placed named)

-- so have those that are put
pub told_named : (of : Mention) (names : NameTable) (table : PlaceTable) (reports : Reports) (first others : List SiteRow) → ArePlaced table → HaveNames names reports
    → All (HasMentionName of names table) (each_once (told_mentions of table reports first others))
told_named of names table reports first others placed named =
    let P : ℕ → Type 0 = HasMentionName of names table in
    let unordered : All (HasNames names) (lines_of reports.unordered) = lines_named names reports.unordered named.unordered in
    let lockset : All (HasNames names) (lines_of reports.lockset) = lines_named names reports.lockset named.lockset in
    all_kept P [] (told_mentions of table reports first others) (All-nil P)
    (All-append P (flat_map (example_mentions of table (lines_of reports.unordered)) first ++ flat_map (λ (line : Line). reuse_mentions of table (race_of (line_view line))) (lines_of reports.unordered)) _
    (All-append P (flat_map (example_mentions of table (lines_of reports.unordered)) first) _ (examples_named of names table (lines_of reports.unordered) first placed unordered)
    (all_flat P (λ (line : Line). reuse_mentions of table (race_of (line_view line))) (lines_of reports.unordered) (λ k d h. reuse_named of names table _ placed (unordered k d h))))
    (examples_named of names table (lines_of reports.lockset) others placed lockset))

-- and those of some lines
pub lines_named_once : (of : Mention) (names : NameTable) (table : PlaceTable) (lines : List Line) → ArePlaced table → All (HasNames names) lines
    → All (HasMentionName of names table) (each_once (flat_map (line_mentions of table) lines))
lines_named_once of names table lines placed named =
    all_kept (HasMentionName of names table) [] (flat_map (line_mentions of table) lines) (All-nil (HasMentionName of names table))
    (all_flat (HasMentionName of names table) (line_mentions of table) lines (λ k d h. line_named of names table _ placed (named k d h)))

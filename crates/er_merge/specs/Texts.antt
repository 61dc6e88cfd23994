-- The lines of a report of the lockset rule, by what the report holds.
use Rattle.std.specs.Prelude.{◌≡◌, ◌⊎◌, ℕ, ◌+◌, ◌^◌, ◌<◌, nat_le, true, false, not, All, Contains, List, [], ◌∷◌, ◌++◌, flat_map, length, map, take, Option, Some, None}
use Rattle.std.specs.List.{list_all, position_or_len}
use Rattle.er_event.specs.declared.steps.Event.{Event}
use Rattle.er_event.specs.declared.steps.Event.TheVariants.{Acquire, Release, Access, Reuse, IgnoreOn, IgnoreOff, Show, Level, Sync}
use Rattle.er_event.specs.declared.steps.WordState.{WordState}
use Rattle.er_event.specs.declared.steps.WordState.TheVariants.{Virgin, Exclusive, Shared, SharedModified}
use Rattle.er_lines.specs.Lines.{Line, has_bytes, is_end, is_gap, lines_of}
use Rattle.er_merge.specs.Lines.{address_in}
use Rattle.er_merge.specs.Parts.{ContentView, EntryView, HeadingView, heading_in}
use Rattle.er_merge.specs.declared.lines.Place.{Place}
use Rattle.er_merge.specs.declared.lines.Totals.{Totals}
use Rattle.er_parts.specs.Merged.{deed_word, line_number, line_word}
use Rattle.er_print.specs.Printed.{bytes_between, line_text, name_at, report_text}
use Rattle.er_print.specs.declared.lines.ReportKind.TheVariants.{Lockset}
use Rattle.er_report.specs.Lines.{LineView, RacedView, RefusedView, ShownView}
use Rattle.er_report.specs.Report.{Summary}
use Rattle.er_report.specs.declared.report.Because.{Because}
use Rattle.er_report.specs.declared.report.Deed.{Deed}
use Rattle.er_report.specs.declared.report.Deed.TheVariants as deed
use Rattle.er_report.specs.declared.report.Label.{Label}
use Rattle.er_report.specs.declared.report.Label.TheVariants as label
use Rattle.er_trace.specs.Names.{NameTable}

-- the address that is read of what is printed for a line
abbrev pub address_of : NameTable → LineView → ℕ
address_of names line = let text = line_text Lockset names line in address_in (take (position_or_len is_end text) text)

-- where a line belongs
abbrev pub place_of : NameTable → LineView → Place
place_of names line = record { line = line_number line; address = address_of names line }

-- what is printed for it, line by line
abbrev pub entries_of : NameTable → LineView → List EntryView
entries_of names line = map (λ (part : Line). record { place = place_of names line; text = part.bytes }) (lines_of (line_text Lockset names line))

-- among lines of one number the addresses are in the order of the words
abbrev pub AddressesFollow : NameTable → List LineView → Type 0
AddressesFollow names lines = (a b : LineView) → Contains lines a → Contains lines b → line_number a ≡ line_number b
    → nat_le (address_of names a) (address_of names b) ≡ nat_le (line_word a) (line_word b)

-- how many events a report says were lost
abbrev pub lost_number : Option ℕ → ℕ
lost_number None = 0
lost_number (Some n) = n

-- what the totals of a report of the lockset rule say
abbrev pub totals_of : Summary → Totals
totals_of s = record { unordered = false; steps = s.steps; races = s.races; suppressed = s.suppressed; refused = s.refused; lost = lost_number s.lost }

-- what a report says, as it is read
abbrev pub content_of : NameTable → Summary → ContentView
content_of names s = record { entries = flat_map (entries_of names) s.lines; counts = s.rule_counts; totals = totals_of s }

-- the counts of a report that ran to its end fit in 64 bits
pub record CountsFit (s : Summary) : Type 0 where
  pub ended : s.stop ≡ None
  pub rules : 1 + length s.rule_counts < 2 ^ 64
  pub counts : All (λ (count : ℕ). count < 2 ^ 64) s.rule_counts
  pub steps : s.steps < 2 ^ 64
  pub races : s.races < 2 ^ 64
  pub suppressed : s.suppressed < 2 ^ 64
  pub refused : s.refused < 2 ^ 64
  pub lost : lost_number s.lost < 2 ^ 64

-- no name has an LF
pub record HasPlainNames (names : NameTable) : Type 0 where
  pub threads : list_all (list_all (λ byte. not (is_end byte))) names.threads ≡ true
  pub locks : list_all (list_all (λ byte. not (is_end byte))) names.locks ≡ true
  pub sites : list_all (list_all (λ byte. not (is_end byte))) names.sites ≡ true

-- the number fits in 64 bits
abbrev pub Fits : ℕ → Type 0
Fits n = n < 2 ^ 64

-- the numbers that are printed for what a thread did fit in 64 bits
abbrev pub DeedFits : Deed → Type 0
DeedFits (deed.Access kind word) = Unit {0}
DeedFits (deed.Reuse range) = Fits (bytes_between range.lo range.hi)

-- the numbers that are printed for what an access has to do with a race fit in 64 bits
abbrev pub LabelFits : Label → Type 0
LabelFits label.First = Unit {0}
LabelFits label.Joined = Unit {0}
LabelFits label.Write = Unit {0}
LabelFits (label.Uncovered lock) = Fits lock
LabelFits label.Unordered = Unit {0}

-- the numbers that are printed for a reason fit in 64 bits
abbrev pub ReasonFits : Because → Type 0
ReasonFits because = Fits because.line × LabelFits because.label

-- the numbers that are printed for an event fit in 64 bits
abbrev pub EventFits : Event → Type 0
EventFits (Acquire lock mode) = Fits lock
EventFits (Release lock mode) = Fits lock
EventFits (Access kind word site) = Unit {0}
EventFits (Reuse range) = Unit {0}
EventFits IgnoreOn = Unit {0}
EventFits IgnoreOff = Unit {0}
EventFits (Show word) = Unit {0}
EventFits (Level level) = Unit {0}
EventFits (Sync sync) = Unit {0}

-- the numbers that are printed for the state of a word fit in 64 bits
abbrev pub StateFits : WordState → Type 0
StateFits Virgin = Unit {0}
StateFits (Exclusive thread) = Unit {0}
StateFits (Shared locks) = All Fits locks
StateFits (SharedModified locks) = All Fits locks

-- the numbers that are printed for a line fit in 64 bits
abbrev pub LineFits : LineView → Type 0
LineFits (RacedView race) = Fits race.line × DeedFits race.deed × All Fits race.held × All ReasonFits race.explained
LineFits (RefusedView number step refusal) = Fits number × EventFits step.event
LineFits (ShownView number word state) = Fits number × StateFits state

-- a first line, and then what is printed for this report
pub record IsPartText (names : NameTable) (s : Summary) (text : List ℕ) : Type 0 where
  pub heading : HeadingView
  pub line : List ℕ
  pub one : list_all (λ byte. not (is_end byte)) line ≡ true
  pub says : heading_in line ≡ Some heading
  pub is : text ≡ line ++ 10 ∷ report_text names s
  pub lines : All LineFits s.lines
  pub counts : CountsFit s

-- one such text for each report
abbrev pub ArePartTexts : NameTable → List Summary → List (List ℕ) → Type 0
ArePartTexts names [] [] = Unit {0}
ArePartTexts names [] (text ∷ texts) = ⊥
ArePartTexts names (s ∷ reports) [] = ⊥
ArePartTexts names (s ∷ reports) (text ∷ texts) = IsPartText names s text × ArePartTexts names reports texts

-- the lines of all reports
abbrev pub all_lines : List Summary → List LineView
all_lines reports = flat_map (λ (report : Summary). report.lines) reports

-- a race of a word that has an address, by a thread whose name is one word
abbrev pub IsRaceOfWord : NameTable → LineView → Type 0
IsRaceOfWord names (RacedView race) =
    (has_bytes (name_at names.threads race.thread) ≡ true) × (list_all (λ byte. not (is_gap byte)) (name_at names.threads race.thread) ≡ true) × (deed_word race.deed < 2 ^ 46)
IsRaceOfWord names (RefusedView number step refusal) = ⊥
IsRaceOfWord names (ShownView number word state) = ⊥

-- two lines of one number are such races, or the same
abbrev pub RacesAloneShare : NameTable → List LineView → Type 0
RacesAloneShare names lines = (a b : LineView) → Contains lines a → Contains lines b → line_number a ≡ line_number b → (IsRaceOfWord names a × IsRaceOfWord names b) ⊎ (a ≡ b)

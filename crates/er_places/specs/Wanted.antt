-- The lines of a trace that a report asks about.
use Rattle.std.specs.Prelude.{ℕ, zero, suc, nat_eq, ◌&&◌, ◌||◌, not, Bool, true, false, List, take, length, slice_get, Option, Some, None}
use Rattle.std.specs.List.{list_any}
use Rattle.er_event.specs.declared.steps.Kind.{Kind}
use Rattle.er_event.specs.declared.steps.Kind.TheVariants as kind
use Rattle.er_report.specs.Lines.{reasons_in}
use Rattle.er_report.specs.declared.report.Because.{Because}
use Rattle.er_report.specs.declared.report.Line.{Line}
use Rattle.er_report.specs.declared.report.Line.TheVariants.{Race, Reused, Refused, Shown}
use Rattle.er_report.specs.declared.report.Report.{Report}
use Rattle.er_report.specs.declared.reports.Reports.{Reports}

-- the line is among these
abbrev pub is_wanted : List ℕ → ℕ → Bool
is_wanted wanted line = list_any (nat_eq line) wanted

-- the kinds are equal
abbrev pub same_kind : Kind → Kind → Bool
same_kind kind.Read kind.Read = true
same_kind kind.Write kind.Write = true
same_kind kind.Read kind.Write = false
same_kind kind.Write kind.Read = false

-- the line is a race of this kind at this site
abbrev pub is_race_at : ℕ → Kind → Line → Bool
is_race_at s k (Race kind thread site number word details) = nat_eq site s && same_kind kind k
is_race_at s k (Reused thread site number range details) = false
is_race_at s k (Refused refusal step number) = false
is_race_at s k (Shown number word state) = false

-- one of these reasons names this line of the trace
abbrev pub name_line : List Because → ℕ → Bool
name_line reasons line = list_any (λ (because : Because). nat_eq because.line line) reasons

-- a race asks about its own line and those that its reasons name, unless one of its site and kind is known; a reuse asks about the lines that its
-- reasons name
abbrev pub asks_unless : (ℕ → Kind → Bool) → ℕ → Line → Bool
asks_unless known line (Race kind thread site number word details) = not (known site kind) && (nat_eq number line || name_line (reasons_in details) line)
asks_unless known line (Reused thread site number range details) = name_line (reasons_in details) line
asks_unless known line (Refused refusal step number) = false
asks_unless known line (Shown number word state) = false

-- behind these lines the first race of each site and kind asks
abbrev pub asks : List Line → ℕ → Line → Bool
asks before line told = asks_unless (λ (s : ℕ) (k : Kind). list_any (is_race_at s k) before) line told

-- the same of what stands behind these lines; past the list's end there is nothing
abbrev pub asks_of : List Line → ℕ → Option Line → Bool
asks_of before line None = false
asks_of before line (Some told) = asks before line told

-- one of the first n lines asks about this line of the trace
unfoldable pub asked_below : List Line → ℕ → ℕ → Bool
asked_below lines line zero = false
asked_below lines line (suc n) = asked_below lines line n || asks_of (take n lines) line (slice_get lines n)

-- one of these lines asks about this line of the trace
abbrev pub is_asked : List Line → ℕ → Bool
is_asked lines line = asked_below lines line (length lines)

-- there is a report, and one of its lines asks about this line of the trace
abbrev pub asked_in : Option Report → ℕ → Bool
asked_in None line = false
asked_in (Some report) line = is_asked report.lines.items line

-- a line of one of the reports does
abbrev pub are_asked : Reports → ℕ → Bool
are_asked reports line = asked_in reports.lockset line || asked_in reports.unordered line

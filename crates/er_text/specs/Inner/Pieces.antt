-- Lines that are read apart from those before them. Of public clauses those of pieces alone cite it.
use Rattle.std.specs.Prelude.{◌≡◌, ℕ, ◌+◌, ◌-◌, ◌≤◌, true, List, [], ◌∷◌, Ok, length, take, drop, Option, Some, None}
use Rattle.er_trace.specs.Trace.{Recording}
use Rattle.er_text.specs.declared.endings.Lost.{Lost}
use Rattle.er_text.specs.declared.verbs.Version.{Version}
use Rattle.er_text.specs.declared.stages.Stage.TheVariants.{Events}
use Rattle.er_lines.specs.Lines.{Line, lines_of}
use Rattle.er_text.specs.Inner.Traces.{at_line, plain_at}

-- lines of a text of this version, each with its LF and in its limit, of which the first has this number. They lead from one recording to another,
-- and the line behind them has that number; behind each of them event lines may follow, and no thread is idle
abbrev pub AreRead : Version → List Line → ℕ → Recording → ℕ → Recording → Type 0
AreRead v [] n r m t = (n ≡ m) × (r ≡ t)
AreRead v (line ∷ lines) n r m t =
    (line.ended ≡ true) × (length line.bytes ≤ 1024)
    × (s : Recording) × (plain_at (at_line n (Events v) [] r) n line.bytes ≡ Ok (at_line (n + 1) (Events v) [] s)) × AreRead v lines (n + 1) s m t

-- a line of this number stands in front of these bytes, takes so many with its LF, and leads from one recording to another
pub record IsReadInFront (v : Version) (n : ℕ) (bytes : List ℕ) (width : ℕ) (r s : Recording) : Type 0 where
  pub lines : lines_of bytes ≡ record { bytes = take (width - 1) bytes; ended = true } ∷ lines_of (drop width bytes)
  pub short : length (take (width - 1) bytes) ≤ 1024
  pub read : plain_at (at_line n (Events v) [] r) n (take (width - 1) bytes) ≡ Ok (at_line (n + 1) (Events v) [] s)

-- what the last comment says behind lines that were read apart, the first of which has this number: what theirs says, or the one before them
abbrev pub comment_behind : ℕ → Option Lost → Option Lost → Option Lost
comment_behind number last None = last
comment_behind number last (Some lost) = Some (record { line = number + lost.line; events = lost.events })

-- How a text ends: with an LF or without, a text 3 with the line `end` or without, and with a comment that says that events are lost, or another.
use Rattle.std.specs.Prelude.{◌≡◌, ℕ, ◌&&◌, suc, Bool, true, false, not, List, [], ◌∷◌, length, codes, Option, Some, None, unwrap_or, nat_lt, if◌then◌else◌}
use Rattle.std.specs.Option.{is_some}
use Rattle.std.specs.Str.{bytes_eq}
use Rattle.er_text.specs.declared.endings.Ending.{Ending}
use Rattle.er_text.specs.declared.endings.Lost.{Lost}
use Rattle.er_text.specs.declared.stages.Stage.{Stage}
use Rattle.er_text.specs.declared.stages.Stage.TheVariants.{Front, Events, Ended}
use Rattle.er_lines.specs.FirstFault.{known_after}
use Rattle.er_lines.specs.Lines.{Placed, placed, is_comment, before_space, behind_space}
use Rattle.er_lines.specs.Number.{value_in}
use Rattle.er_text.specs.Places.{Reached}
use Rattle.er_text.specs.Trace.{nothing_known, known_past}
use Rattle.er_text.specs.Verbs.{is_third}

-- the last of these lines lacks its LF; if there is none, this says whether the one before does
abbrev pub is_cut_after : Bool → List Placed → Bool
is_cut_after cut [] = cut
is_cut_after cut (p ∷ ps) = is_cut_after (not p.line.ended) ps

-- the last line of the text lacks its LF
abbrev pub is_cut : List ℕ → Bool
is_cut text = is_cut_after false (placed text)

-- behind `# incomplete:`, these bytes are `M events, N lost`, and this is N; it is 0 if they are others
abbrev pub lost_behind : List ℕ → ℕ
lost_behind bytes =
    let events = behind_space bytes in
    let lost = behind_space events in
    if is_some (value_in 10 (before_space bytes)) && bytes_eq (before_space events) (codes "events,") && bytes_eq (behind_space lost) (codes "lost")
    then unwrap_or (value_in 10 (before_space lost)) 0 else 0

-- how many events are lost by this comment: N if it is `# incomplete: M events, N lost`, and else 0
abbrev pub lost_in : List ℕ → ℕ
lost_in bytes =
    let word = behind_space bytes in
    if bytes_eq (before_space bytes) (codes "#") && bytes_eq (before_space word) (codes "incomplete:") then lost_behind (behind_space word) else 0

-- what the last comment says once this line is past, by what the one before it says
abbrev pub comment_past : Option Lost → ℕ → List ℕ → Option Lost
comment_past last number bytes = if is_comment bytes then Some (record { line = number; events = lost_in bytes }) else last

-- what the last comment of these lines says; if there is none, this is what the one before says
abbrev pub comment_after : Option Lost → List Placed → Option Lost
comment_after last [] = last
comment_after last (p ∷ ps) = comment_after (comment_past last p.number p.line.bytes) ps

-- it says that some events are lost
abbrev pub if_any_lost : Option Lost → Option Lost
if_any_lost None = None
if_any_lost (Some lost) = if nat_lt 0 lost.events then Some lost else None

-- the last comment of the text says that so many events are lost, and stands in that line
abbrev pub lost_of : List ℕ → Option Lost
lost_of text = if_any_lost (comment_after None (placed text))

-- how far the text has come at its end
abbrev pub last_stage : List ℕ → Stage
last_stage text = (known_after known_past nothing_known (placed text)).stage

-- a text 3 that has not come to its line `end`
abbrev pub lacks_end : Stage → Bool
lacks_end Front = false
lacks_end (Events version) = is_third version
lacks_end Ended = false

-- the text is a text 3 without a line `end`
abbrev pub is_open : List ℕ → Bool
is_open text = lacks_end (last_stage text)

-- a text 3, which alone comes to a line `end`
abbrev pub is_of_third : Stage → Bool
is_of_third Front = false
is_of_third (Events version) = is_third version
is_of_third Ended = true

-- the text is a text 3
abbrev pub is_text_3 : List ℕ → Bool
is_text_3 text = is_of_third (last_stage text)

-- how many events are lost, in a text 3
abbrev pub lost_if : Bool → Option Lost → Option ℕ
lost_if third None = None
lost_if third (Some lost) = if third then Some lost.events else None

-- how many events a text 3 says are lost; of another text nothing is said
abbrev pub lost_told : List ℕ → Option ℕ
lost_told text = lost_if (is_text_3 text) (lost_of text)

-- how many lines the text has
abbrev pub line_count : List ℕ → ℕ
line_count text = length (placed text)

-- a reader at the end of a text knows how it ends
pub record KnowsEnd (text : List ℕ) (reader : Reached) : Type 0 where
  pub lines : reader.place.number ≡ suc (line_count text)
  pub cut : reader.tail.cut ≡ is_cut text
  pub comment : if_any_lost reader.tail.comment ≡ lost_of text
  pub stage : reader.stage ≡ last_stage text

-- the text ends so
pub record IsEndingOf (text : List ℕ) (ending : Ending) : Type 0 where
  pub lines : ending.lines ≡ line_count text
  pub cut : ending.is_cut ≡ is_cut text
  pub third : ending.is_text_3 ≡ is_text_3 text
  pub open_end : ending.is_open ≡ is_open text
  pub lost : ending.lost ≡ lost_of text

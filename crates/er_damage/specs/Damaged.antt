-- The damage of a trace, by its steps and by how its text ends.
use Rattle.std.specs.Prelude.{ℕ, ◌≡◌, ◌||◌, Bool, cond, List, length, Option, Some, None, is_some}
use Rattle.er_text.specs.Ending.{is_cut, is_open, line_count, lost_of}
use Rattle.er_text.specs.Trace.{IsTrace}
use Rattle.er_trace.specs.Trace.{Recording}
use Rattle.er_damage.specs.declared.damage.Damage.{Damage}
use Rattle.er_damage.specs.Damage.{IsRefusedAt, IsHeldTwiceAt, IsFirstLine}

-- the last line of the text, where the test holds
abbrev pub last_line_if : Bool → List ℕ → Option ℕ
last_line_if test text = cond test (Some (line_count text)) None

-- the damage of a text: its first refused step, the first step by which a lock is held twice, its last line if that has no LF or a text 3 has no end, and the last comment if it says that events are lost
pub record IsDamageOf (text : List ℕ) (limit : ℕ) (damage : Damage) : Type 0 where
  pub recording : Recording
  pub trace : IsTrace text limit recording
  pub refused : IsFirstLine (IsRefusedAt recording.steps) recording.lines (length recording.steps) damage.refused
  pub held_twice : IsFirstLine (IsHeldTwiceAt recording.steps) recording.lines (length recording.steps) damage.held_twice
  pub no_line_feed : damage.no_line_feed ≡ last_line_if (is_cut text) text
  pub no_end : damage.no_end ≡ last_line_if (is_open text) text
  pub lost : damage.lost ≡ lost_of text

-- there is some
abbrev pub has_damage : Damage → Bool
has_damage damage =
    is_some damage.refused || is_some damage.held_twice || is_some damage.no_line_feed || is_some damage.no_end
    || is_some damage.lost

-- there is none
abbrev pub no_damage : Damage
no_damage = record { refused = None; held_twice = None; no_line_feed = None; no_end = None; lost = None }

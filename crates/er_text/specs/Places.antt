-- How far a reader has come in a text.
use Rattle.std.specs.Prelude.{Bool, false, List, Option, None}
use Rattle.er_text.specs.declared.endings.Lost.{Lost}
use Rattle.er_text.specs.declared.stages.Stage.{Stage}
use Rattle.er_lines.specs.Places.{Place}

-- how the lines before end: whether the last lacks its LF, and what the last comment says
pub record Tail : Type 0 where
  pub cut : Bool
  pub comment : Option Lost

-- no line is before
abbrev pub no_tail : Tail
no_tail = record { cut = false; comment = None }

-- the place, how far the text has come, which threads, by number, are named in lines before and don't act there, and how these lines end
pub record Reached : Type 0 where
  pub place : Place
  pub stage : Stage
  pub idle : List Bool
  pub tail : Tail

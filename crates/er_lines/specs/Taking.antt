-- Lines that a reader of lines takes before they are text.
use Rattle.std.specs.Prelude.{◌≡◌, ℕ, zero, suc, ◌+◌, ◌<◌, true, List, ◌∷◌, ◌++◌, Option, Some, None, length}
use Rattle.std.specs.Io.KnownBytes.{Keeps}
use Rattle.er_lines.specs.Lending.{LineThen, lines_left, limit_fault}
use Rattle.er_lines.specs.Lines.{Placed}
use Rattle.er_lines.specs.Places.{Place}
use Rattle.er_lines.specs.Ready.{is_ready, operand_name, operands_text, ready_text, thread_name, verb_text}
use Rattle.er_lines.specs.declared.ready.NameKind.{NameKind}
use Rattle.er_lines.specs.declared.ready.ReadyLine.{ReadyLine}
use Rattle.er_lines.specs.declared.ready.ReadyVerb.{ReadyVerb}

-- the bytes of a ready line, without its LF
abbrev pub ready_bytes : ReadyVerb → ℕ → List ℕ → List ℕ → List ℕ
ready_bytes v address thread name = (thread ++ 32 ∷ verb_text v) ++ operands_text v address name

-- the line, at a place
abbrev pub ready_placed : Place → ReadyVerb → ℕ → List ℕ → List ℕ → Placed
ready_placed at v address thread name = record { number = at.number; start = at.start; line = record { bytes = ready_bytes v address thread name; ended = true } }

-- past a line of so many bytes that was never read ahead
abbrev pub past_unread : Place → ℕ → Place
past_unread at width = record at { number = at.number + 1; start = at.start + width }

-- the line was next, is right and within the limit, and is passed over
pub record TakesLine (old new : Place) (before behind : Option (List ℕ)) (v : ReadyVerb) (address : ℕ) (thread name : List ℕ) : Type 0 where
  pub right : is_ready v address thread name ≡ true
  pub first : LineThen (lines_left old before) (ready_placed old v address thread name) (lines_left new behind)
  pub fits : limit_fault old.limit (ready_placed old v address thread name) ≡ None
  pub some : old.start < new.start
  pub past : new ≡ past_unread old (length (ready_text v address thread name))

-- the lines of so many words were next, one behind the other
abbrev pub TakesLines : Place → Place → Option (List ℕ) → Option (List ℕ) → ReadyVerb → ℕ → List ℕ → List ℕ → ℕ → Type 0
TakesLines old new before behind v address thread name zero = (new ≡ old) × Keeps before behind
TakesLines old new before behind v address thread name (suc n) =
    (mid : Place) × (between : Option (List ℕ)) × TakesLine old mid before between v address thread name × TakesLines mid new between behind v (address + 4) thread name n

-- lines were taken, or nothing changed
abbrev pub TakesReady : Place → Place → Option (List ℕ) → Option (List ℕ) → (NameKind → ℕ → List ℕ) → Option ReadyLine → Type 0
TakesReady old new before behind names None = (new ≡ old) × Keeps before behind
TakesReady old new before behind names (Some line) = TakesLines old new before behind line.verb line.address (thread_name names line) (operand_name names line) line.count

-- What is noted of a binary trace beside its text.
use Rattle.std.specs.Prelude.{◌≡◌, ◌<◌, ◌==◌, ℕ, cond, count_by, drop, length, min, nat_eq, ◌+◌, ◌-◌, ◌/◌, ◌^◌, ◌&&◌, nat_le, not, Bool, List, [], option_map, vec_items, unwrap_or, if◌then◌else◌}
use Rattle.std.specs.Global.{Vec}
use Rattle.std.specs.BTreeMap.{is_at}
use Rattle.std.specs.List.{list_any}
use Rattle.std.specs.Map.{lookup}
use Rattle.std.specs.Ordering.{nat_cmp}
use Rattle.er_binary.specs.Nodes.{way_to}
use Rattle.er_binary.specs.declared.state.State.{State}
use Rattle.er_places.specs.declared.facts.Birth.{Birth}
use Rattle.er_places.specs.declared.facts.Block.{Block}
use Rattle.er_places.specs.declared.facts.Extent.{Extent}
use Rattle.er_places.specs.declared.facts.Facts.{Facts}
use Rattle.er_places.specs.declared.facts.Start.{Start}
use Rattle.er_places.specs.declared.facts.Variable.{Variable}

-- by line the places that led to its event, as numbers, and the block that it touched, by word the variable, by name the thread and the lock, by place the
-- function, and the names of places
pub record FactTable : Type 0 where
  pub ways : List (ℕ × Vec ℕ)
  pub blocks : List (ℕ × Block)
  pub variables : List (ℕ × Variable)
  pub threads : List (Vec ℕ × Start)
  pub locks : List (Vec ℕ × Birth)
  pub functions : List (ℕ × Vec ℕ)
  pub places : List (List ℕ)

-- what was noted
abbrev pub table_of : Facts → FactTable
table_of f = record { ways = f.ways.entries; blocks = f.blocks.entries; variables = f.variables.entries; threads = f.threads.entries; locks = f.locks.entries; functions = f.functions.entries; places = f.places }

-- the names of places alone are known
abbrev pub known_places : List (List ℕ) → FactTable
known_places names = record { ways = []; blocks = []; variables = []; threads = []; locks = []; functions = []; places = names }

-- whether what was noted is told: no memory was refused
abbrev pub is_told : Facts → Bool
is_told f = not f.failed

-- what is told of what was noted, with the names of places
abbrev pub told : Facts → List (List ℕ) → FactTable
told f names = cond (is_told f) (record (table_of f) { places = names }) (known_places names)

-- the lines of which what led to their events is asked
abbrev pub lines_asked : Facts → List ℕ
lines_asked f = vec_items f.wanted

-- the words of which the variable is asked
abbrev pub words_asked : Facts → List ℕ
words_asked f = vec_items f.words

-- the word is not before that of the first byte, and not behind that of the last one
abbrev pub has_word : Extent → ℕ → Bool
has_word e word = nat_le (e.address / 4) word && nat_le word ((e.address + e.size - 1) / 4)

-- the place of the event on a line, and of the calls that led there, as numbers
abbrev pub way_on : FactTable → ℕ → List ℕ
way_on facts line = unwrap_or (option_map vec_items (lookup (is_at (nat_cmp line)) facts.ways)) []

-- the function that a place is in
abbrev pub function_in : FactTable → ℕ → List ℕ
function_in facts place = unwrap_or (option_map vec_items (lookup (is_at (nat_cmp place)) facts.functions)) []

-- how many lines there are behind more text, up to 2^64 - 1
abbrev pub lines_behind : ℕ → List ℕ → ℕ
lines_behind lines text = min (lines + count_by (λ byte. byte == 10) text) (2 ^ 64 - 1)

-- no line was read yet, and nothing was noted
abbrev pub IsFresh : Facts → Type 0
IsFresh f = (f.met ≡ 0) × (f.lines ≡ 1) × (table_of f ≡ known_places [])

-- a line is one of the wanted ones that were not met yet
abbrev pub is_left : Facts → ℕ → Bool
is_left f line = list_any (nat_eq line) (drop f.met (lines_asked f))

-- what is kept for a line once the wanted ones up to line `lines` are met: the calls that led to the node, or what was kept before
abbrev pub way_behind : Facts → ℕ → State → ℕ → List ℕ
way_behind f lines state line = if is_left f line && nat_le line lines then way_to state.nodes state.node else way_on (table_of f) line

-- what a record with this text changed: if a wanted line is left, its lines are counted, and the wanted ones that came are met, and no other
pub record HasNoted (before : Facts) (text : List ℕ) (state : State) (after : Facts) : Type 0 where
  pub lines : before.met < length (lines_asked before) → after.lines ≡ lines_behind before.lines text
  pub ways : (line : ℕ) → way_on (table_of after) line ≡ way_behind before after.lines state line
  pub left : (line : ℕ) → is_left after line ≡ (is_left before line && not (nat_le line after.lines))
  pub wanted : after.wanted ≡ before.wanted

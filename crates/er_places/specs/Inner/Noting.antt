-- The wanted lines that were made, and where the lives of locks began.
use Rattle.std.specs.Prelude.{◌≡◌, ℕ, ◌==◌, ◌&&◌, Bool, List, Option, None, Some, cond, drop, length, nat_le, nat_lt, option_map, slice_get, take, vec_items, if◌then◌else◌}
use Rattle.std.specs.BTreeMap.{is_at}
use Rattle.std.specs.Cmp.Lexicographic.{slice_cmp}
use Rattle.std.specs.Global.{Vec}
use Rattle.std.specs.Map.{lookup}
use Rattle.std.specs.Ordering.{nat_cmp}
use Rattle.std.specs.Str.{bytes_eq}
use Rattle.er_binary.specs.Nodes.{place_of}
use Rattle.er_binary.specs.Numbers.{name_at, number}
use Rattle.er_binary.specs.declared.state.State.{State}
use Rattle.er_places.specs.declared.facts.Birth.{Birth}
use Rattle.er_places.specs.declared.facts.Facts.{Facts}

-- a line, if it is among the first so many
abbrev pub if_made : ℕ → Option ℕ → Option ℕ
if_made lines None = None
if_made lines (Some line) = if nat_le line lines then Some line else None

-- the next wanted line, if it is made
abbrev pub next_made : Facts → Option ℕ
next_made facts = if_made facts.lines (slice_get (vec_items facts.wanted) facts.met)

-- nothing changed of the lines
pub record SameLines (before after : Facts) : Type 0 where
  pub wanted : after.wanted ≡ before.wanted
  pub met : after.met ≡ before.met
  pub lines : after.lines ≡ before.lines
  pub ways : after.ways ≡ before.ways

-- the body of a record has the form of one of a lock, and names a lock and a node that are there
abbrev pub tells_lock : State → List ℕ → Bool
tells_lock state body =
    (nat_le 14 (length body) && nat_le (length body) 15) && (nat_lt (number (take 4 body)) (length state.locks) && nat_le (number (take 4 (drop 10 body))) (length state.nodes))

-- a lock, and where its life began
abbrev pub born_at : ℕ → Bool → ℕ → ℕ × Birth
born_at lock is_created place = (lock, record { place = place; is_created = is_created })

-- what the body says, if it has the form and the place is known
abbrev pub birth_by : State → List ℕ → Option (ℕ × Birth)
birth_by state body =
    if tells_lock state body then option_map (born_at (number (take 4 body)) (length body == 14)) (place_of state.nodes (number (take 4 (drop 10 body)))) else None

-- where the life of the lock of a name began, as far as it was noted
abbrev pub birth_in : Facts → Vec ℕ → Option Birth
birth_in f name = lookup (is_at (λ key. slice_cmp nat_cmp (vec_items name) (vec_items key))) f.locks.entries

-- where the life of the lock of a name began, behind one more record: of several of one lock the last counts
abbrev pub birth_behind : State → Option (ℕ × Birth) → List ℕ → Option Birth → Option Birth
birth_behind state None name before = before
birth_behind state (Some born) name before = cond (bytes_eq (name_at state.locks born.0) name) (Some born.1) before

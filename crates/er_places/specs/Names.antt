-- The names of what raced: functions, variables, blocks of memory, threads and locks.
use Rattle.std.specs.Prelude.{ℕ, cond, List, [], ◌∷◌, Option, None, Some, slice_get, vec_items}
use Rattle.std.specs.BTreeMap.{is_at}
use Rattle.std.specs.Cmp.Lexicographic.{slice_cmp}
use Rattle.std.specs.Map.{lookup}
use Rattle.std.specs.Ordering.{nat_cmp}
use Rattle.er_event.specs.Lockset.{is_level_lock}
pub use Rattle.er_places.specs.Facts.{has_word}
use Rattle.er_places.specs.Facts.{function_in}
use Rattle.er_places.specs.declared.facts.Birth.{Birth}
use Rattle.er_places.specs.declared.facts.Block.{Block}
use Rattle.er_places.specs.declared.facts.Start.{Start}
use Rattle.er_places.specs.declared.facts.Variable.{Variable}
use Rattle.er_places.specs.Places.{PlaceTable}
pub use Rattle.er_places.specs.Places.{way_of}
use Rattle.er_places.specs.declared.places.Place.{Place}

-- the name of the function that the call of a number is in, and no bytes if it isn't known
unfoldable pub call_function : PlaceTable → ℕ → List ℕ
call_function table call = function_in table.facts call

-- the name of the function that the first of these places is in
abbrev pub function_at : PlaceTable → List ℕ → List ℕ
function_at table [] = []
function_at table (own ∷ calls) = call_function table own

-- the name of the function that a place is in
unfoldable pub function_of : PlaceTable → Option Place → List ℕ
function_of table place = function_at table (way_of table place)

-- what is kept for a word, if it has the word
abbrev pub variable_if : ℕ → Option Variable → Option Variable
variable_if word None = None
variable_if word (Some variable) = cond (has_word variable.extent word) (Some variable) None

-- the variable that has a word
unfoldable pub variable_of : PlaceTable → ℕ → Option Variable
variable_of table word = variable_if word (lookup (is_at (nat_cmp word)) table.facts.variables)

-- what is kept for a line, if it has the word
abbrev pub block_if : ℕ → Option Block → Option Block
block_if word None = None
block_if word (Some block) = cond (has_word block.extent word) (Some block) None

-- the block that the access on a line touched in a word
unfoldable pub block_of : PlaceTable → ℕ → ℕ → Option Block
block_of table line word = block_if word (lookup (is_at (nat_cmp line)) table.facts.blocks)

-- how the thread of a name began
unfoldable pub start_of : PlaceTable → List ℕ → Option Start
start_of table thread = lookup (is_at (λ key. slice_cmp nat_cmp thread (vec_items key))) table.facts.threads

-- where the life of the lock of a name began
abbrev pub birth_named : PlaceTable → Option (List ℕ) → Option Birth
birth_named table None = None
birth_named table (Some name) = lookup (is_at (λ key. slice_cmp nat_cmp name (vec_items key))) table.facts.locks

-- where the life of the lock of a number began; of the lock of a level nothing is known
unfoldable pub birth_of : PlaceTable → ℕ → Option Birth
birth_of table lock = cond (is_level_lock lock) None (birth_named table (slice_get table.names.locks lock))

-- What a step that isn't refused may find no room for.
use Rattle.std.specs.Prelude.{ℕ, ◌==◌, nat_lt, Bool, true, false, not, ◌&&◌}
use Rattle.er_event.specs.declared.refusals.Refusal.{Refusal}
use Rattle.er_event.specs.declared.refusals.Refusal.TheVariants.{TableFull, OutOfMemory}
use Rattle.er_event.specs.declared.steps.Event.{Event}
use Rattle.er_event.specs.declared.steps.Event.TheVariants.{Acquire, Release, Access, Reuse, IgnoreOn, IgnoreOff, Show, Level, Sync}
use Rattle.er_event.specs.declared.steps.WordState.{WordState}
use Rattle.er_event.specs.declared.steps.WordState.TheVariants.{Virgin, Exclusive, Shared, SharedModified}
use Rattle.er_model.specs.Holdings.{Holdings}
use Rattle.er_shadow.specs.Shadows.{needs_set}

-- the event reads or writes a word
abbrev pub is_access : Event → Bool
is_access (Access kind w site) = true
is_access _ = false

-- an access in this state takes no room, since thread t alone has accessed the word
abbrev pub is_own : WordState → ℕ → Bool
is_own (Exclusive u) t = u == t
is_own Virgin t = false
is_own (Shared candidates) t = false
is_own (SharedModified candidates) t = false

-- what takes a lock, opens a bracket, sets a level or shows a word may want memory; what gives up a lock, closes a bracket, reuses
-- words or orders threads wants none (an access is looked at by itself)
abbrev pub wants_memory : Event → Bool
wants_memory (Acquire l m) = true
wants_memory IgnoreOn = true
wants_memory (Level n) = true
wants_memory (Show w) = true
wants_memory (Release l m) = false
wants_memory IgnoreOff = false
wants_memory (Reuse range) = false
wants_memory (Access kind w site) = false
wants_memory (Sync sync) = false

-- the refusal says that there is no memory
abbrev pub is_no_memory : Refusal → Bool
is_no_memory OutOfMemory = true
is_no_memory _ = false

-- an access by thread t, which counts, may find the table full where the word's state needs a set, and no memory where others
-- than t may have accessed the word, or nobody has
abbrev pub access_may_want : WordState → ℕ → Refusal → Bool
access_may_want state t TableFull = needs_set state t
access_may_want state t OutOfMemory = not (is_own state t)
access_may_want state t _ = false

-- what an event of thread t may find no room for, by its holdings and the words' states; an access in a bracket wants nothing
abbrev pub may_want : Holdings → (ℕ → WordState) → ℕ → Event → Refusal → Bool
may_want h states t (Access kind w site) why = not (nat_lt 0 h.depth) && access_may_want (states w) t why
may_want h states t event why = wants_memory event && is_no_memory why

-- the event asks the table for a set: an access that counts, of a word whose state needs one
abbrev pub asks_by : Holdings → (ℕ → WordState) → ℕ → Event → Bool
asks_by h states t (Access kind w site) = not (nat_lt 0 h.depth) && needs_set (states w) t
asks_by h states t _ = false

-- The text of a story, line by line.
use Rattle.std.specs.Prelude.{ℕ, Bool, cond, List, [], ◌∷◌, ◌++◌, flat_map, Option, Some, None, Result, Ok, Err, codes, decimal}
use Rattle.er_event.specs.Lockset.{has}
use Rattle.er_event.specs.Refusal.{text_of}
use Rattle.er_event.specs.declared.refusals.Refusal.{Refusal}
use Rattle.er_event.specs.declared.steps.Event.{Event}
use Rattle.er_event.specs.declared.steps.Event.TheVariants.{Acquire, Release, Access, Reuse, IgnoreOn, IgnoreOff, Show, Level, Sync}
use Rattle.er_event.specs.declared.steps.Reply.{Reply}
use Rattle.er_event.specs.declared.steps.Reply.TheVariants.{Done, Quiet, Race, Ignored, State}
use Rattle.er_event.specs.declared.steps.WordState.{WordState}
use Rattle.er_event.specs.declared.steps.WordState.TheVariants.{Virgin, Exclusive, Shared, SharedModified}
use Rattle.er_model.specs.Words.{is_empty}
use Rattle.er_print.specs.Printed.{name_at, address_text, event_text, kind_text, lock_text, site_text, state_text}
use Rattle.er_story.specs.Story.{empties}
use Rattle.er_story.specs.Tale.{WordTale}
use Rattle.er_story.specs.declared.story.Story.{Story}
use Rattle.er_story.specs.declared.story.Turn.{Turn}
use Rattle.er_trace.specs.Names.{NameTable}

-- a lock that is held only to read is marked
abbrev pub mode_text : Bool → List ℕ
mode_text writes = cond writes [] (codes " (to read)")

-- a lock that a thread holds, with its mark
abbrev pub held_text : NameTable → List ℕ → ℕ → List ℕ
held_text names writes lock = 32 ∷ lock_text names lock ++ mode_text (has writes lock)

-- the locks that a thread holds, of which these are held to write
abbrev pub holding_text : NameTable → List ℕ → List ℕ → List ℕ
holding_text names writes [] = codes ", holding none"
holding_text names writes (lock ∷ locks) = codes ", holding" ++ flat_map (held_text names writes) (lock ∷ locks)

-- what a step did, and to which word
abbrev pub deed_text : NameTable → Event → List ℕ
deed_text names (Access kind word site) = kind_text kind ++ codes " " ++ address_text word ++ codes " at " ++ site_text names site
deed_text names (Show word) = codes "show " ++ address_text word
deed_text names (Acquire lock mode) = event_text names (Acquire lock mode)
deed_text names (Release lock mode) = event_text names (Release lock mode)
deed_text names (Reuse range) = event_text names (Reuse range)
deed_text names IgnoreOn = event_text names IgnoreOn
deed_text names IgnoreOff = event_text names IgnoreOff
deed_text names (Level level) = event_text names (Level level)
deed_text names (Sync sync) = event_text names (Sync sync)

-- whose step it is
abbrev pub step_front : NameTable → Story → List ℕ
step_front names s = codes "line " ++ decimal s.line ++ codes ": " ++ name_at names.threads s.step.thread ++ codes " "

-- the step
abbrev pub step_text : NameTable → Story → List ℕ
step_text names s = step_front names s ++ deed_text names s.step.event ++ holding_text names s.write_held s.held ++ 10 ∷ []

-- why an access that leaves its word in this state is no race
abbrev pub quiet_text : WordState → List ℕ
quiet_text Virgin = codes "no race"
quiet_text (Exclusive t) = codes "no race: no second thread has used the word"
quiet_text (Shared locks) = codes "no race: the word has not been written since a second thread came"
quiet_text (SharedModified locks) =
    cond (is_empty locks) (codes "no race: the word was reported by an earlier access")
    (codes "no race: a candidate was held at each access since a second thread came")

-- why an access is no race, by what is told of its word
abbrev pub no_race_text : Option WordTale → List ℕ
no_race_text None = codes "no race"
no_race_text (Some tale) = quiet_text tale.after

-- the answer
abbrev pub answer_text : Option WordTale → Result Reply Refusal → List ℕ
answer_text tale (Ok Done) = codes "done"
answer_text tale (Ok Quiet) = no_race_text tale
answer_text tale (Ok Race) = codes "race: the word was written, and no lock was held at each access since a second thread came"
answer_text tale (Ok Ignored) = codes "not counted: the thread ignores its accesses"
answer_text tale (Ok (State state)) = codes "shown"
answer_text tale (Err why) = codes "refused: " ++ text_of why

-- an access that emptied the candidate set is marked
abbrev pub emptied_text : Bool → List ℕ
emptied_text emptied = cond emptied (codes ": this access left no candidate") []

-- an earlier access that changed the word's state: its number, its line, and what its thread did
abbrev pub turn_front : NameTable → Turn → List ℕ
turn_front names turn =
    codes "  access " ++ decimal turn.number ++ codes ": line " ++ decimal turn.place.line ++ codes ", " ++ name_at names.threads turn.place.thread ++ codes " "
    ++ kind_text turn.place.kind ++ codes " at " ++ site_text names turn.place.site

-- the same with its thread's locks, and what it made of the word
abbrev pub turn_text : NameTable → Turn → List ℕ
turn_text names turn =
    turn_front names turn ++ holding_text names turn.place.write_held turn.place.held ++ codes ": " ++ state_text names turn.state ++ emptied_text turn.emptied ++ 10 ∷ []

-- the word before the step and after it, and how many accesses counted before the step, since the word's last reuse
abbrev pub change_text : NameTable → WordTale → List ℕ
change_text names tale =
    codes "before: " ++ state_text names tale.before ++ codes "\nafter: " ++ state_text names tale.after
    ++ emptied_text (empties tale.before tale.after) ++ codes "\nearlier accesses: " ++ decimal tale.accesses ++ 10 ∷ []

-- what is told of a word: its change, and the accesses that changed its state; nothing, if the step has no word
abbrev pub word_text : NameTable → Option WordTale → List ℕ
word_text names None = []
word_text names (Some tale) = change_text names tale ++ flat_map (turn_text names) tale.turns

-- the whole text
unfoldable pub story_text : NameTable → Story → List ℕ
story_text names s = step_text names s ++ codes "answer: " ++ answer_text s.word s.answer ++ 10 ∷ [] ++ word_text names s.word

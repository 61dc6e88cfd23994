-- What the handles that a call is given become, and which number it returns.
use Rattle.std.specs.Prelude.{ℕ, ◌≡◌, ◌<◌, ◌≤◌, ◌+◌, ◌-◌, ◌*◌, ◌^◌, ◌⊎◌, ◌≢◌, Bool, true, false, IsTrue, cond, List, [], ◌∷◌, ◌++◌, length, take, drop, Option, Some, None}
use Rattle.er_event.specs.Span.{Span, parts_of}
use Rattle.er_event.specs.declared.refusals.Refusal.{Refusal}
use Rattle.er_event.specs.declared.refusals.Refusal.TheVariants.{OutOfMemory, TableFull}
use Rattle.er_event.specs.declared.steps.Event.{Event}
use Rattle.er_event.specs.declared.steps.Event.TheVariants as event
use Rattle.er_event.specs.declared.steps.Kind.{Kind}
use Rattle.er_event.specs.declared.steps.Kind.TheVariants.{Read as reading, Write as writing}
use Rattle.er_event.specs.declared.steps.Mode.{Mode}
use Rattle.er_event.specs.declared.steps.Mode.TheVariants.{Read as read_mode, Write as write_mode}
use Rattle.er_event.specs.declared.steps.WordState.{WordState}
use Rattle.er_event.specs.declared.steps.WordState.TheVariants as words
use Rattle.er_held.specs.Held.{takes_memory}
use Rattle.er_model.specs.Following.{locks_for}
use Rattle.er_model.specs.Holdings.{refused_by, changed_by}
use Rattle.er_model.specs.Parts.{FitsEnd, IsLegal}
use Rattle.er_model.specs.Words.{Counted}
use Rattle.er_online.specs.Spans.{IsSpanned, resets}
use Rattle.er_online.specs.Taken.{HasSameStates, access_of, notes_of, reply_of, state_now}
use Rattle.er_online.specs.declared.calls.ShardCall.{ShardCall}
use Rattle.er_seat.specs.Seats.{done, holdings_of, with_call}
use Rattle.er_settle.specs.Seats.{SeatList}
use Rattle.er_shadow.specs.Shadows.{needs_set}
use Rattle.er_journal.specs.Journals.{IsLegalJournal, journal_state}
use Rattle.eraser_c.specs.Owned.{Value}
use Rattle.eraser_c.specs.Statuses.{number_of}
use Rattle.eraser_c.specs.declared.kept.Kept.TheVariants.{Shard, Thread as thread_of, Journal, Seat}
use Rattle.eraser_c.specs.declared.status.Status.{Status}
use Rattle.eraser_c.specs.declared.status.Status.TheVariants.{Quiet, Race, Ignored, Refused, EmptyHandle, WrongHandle, Virgin, Exclusive, Shared, SharedModified}
use Rattle.eraser_c.specs.declared.threads.Thread.{Thread}

-- what a shard took, with the locks that covered each call
abbrev pub Calls : Type 0
Calls = List (ShardCall × List ℕ)

-- the kind of an access that a bool of C says: true writes
abbrev pub kind_of : Bool → Kind
kind_of writes = cond writes writing reading

-- the mode of a lock that a bool of C says: true is write mode
abbrev pub mode_of : Bool → Mode
mode_of writes = cond writes write_mode read_mode

-- the handle leads to what was asked for, or all is as it was, since there is no memory
abbrev pub IsMade : Option Value → Option Value → Value → ℕ → Type 0
IsMade before after made number = ((after ≡ Some made) × (number ≡ number_of Quiet)) ⊎ ((after ≡ before) × (number ≡ number_of (Refused OutOfMemory)))

-- the thread after an event that is accepted
abbrev pub after_event : Thread → Event → Thread
after_event t event = record { number = t.number; held = changed_by t.held event }

-- what the definitions refuse changes nothing; what they accept is done, unless it takes memory and there is none
abbrev pub IsFollowedUnless : Option Refusal → Thread → Thread → Event → ℕ → Type 0
IsFollowedUnless (Some why) before after event number = (after ≡ before) × (number ≡ number_of (Refused why))
IsFollowedUnless None before after event number =
    ((after ≡ after_event before event) × (number ≡ number_of Quiet))
    ⊎ ((takes_memory event ≢ false) × ((after ≡ before) × (number ≡ number_of (Refused OutOfMemory))))

-- a thread follows one event as the definitions say
abbrev pub IsFollowed : Thread → Thread → Event → ℕ → Type 0
IsFollowed before after event number = IsFollowedUnless (refused_by before.held event) before after event number

-- the event is no access, no reuse, no show and no order event
abbrev pub changes_thread : Event → Bool
changes_thread (event.Access kind word site) = false
changes_thread (event.Reuse range) = false
changes_thread (event.Show word) = false
changes_thread (event.Sync sync) = false
changes_thread _ = true

-- the event gives up a lock or closes a bracket
abbrev pub gives_back : Event → Bool
gives_back (event.Release lock mode) = true
gives_back event.IgnoreOff = true
gives_back _ = false

-- what the definitions refuse isn't listed; what they accept is, unless there is no memory, which nothing that gives back wants
abbrev pub IsListedUnless : Option Refusal → SeatList → SeatList → Event → ℕ → Type 0
IsListedUnless (Some why) before after event number = (after ≡ before) × (number ≡ number_of (Refused why))
IsListedUnless None before after event number =
    ((after ≡ with_call before (done event)) × (number ≡ number_of Quiet))
    ⊎ ((gives_back event ≢ true) × ((after ≡ before) × (number ≡ number_of (Refused OutOfMemory))))

-- a seat follows one event, and lists it
abbrev pub IsListed : SeatList → SeatList → Event → ℕ → Type 0
IsListed before after event number = IsListedUnless (refused_by (holdings_of before) event) before after event number

-- the thread or the seat of a handle follows one event
abbrev pub IsChanged : Option Value → Option Value → Event → ℕ → Type 0
IsChanged None after event number = (after ≡ None) × (number ≡ number_of EmptyHandle)
IsChanged (Some (Shard calls)) after event number = (after ≡ Some (Shard calls)) × (number ≡ number_of WrongHandle)
IsChanged (Some (Journal shard)) after event number = (after ≡ Some (Journal shard)) × (number ≡ number_of WrongHandle)
IsChanged (Some (Seat before)) after event number = (s : SeatList) × ((after ≡ Some (Seat s)) × IsListed before s event number)
IsChanged (Some (thread_of before)) after event number =
    (t : Thread) × ((after ≡ Some (thread_of t)) × IsFollowed before t event number)

-- these locks, as far as there is room, with what was behind them, and how many they are
pub record AreCopied (held was locks : List ℕ) (count number : ℕ) : Type 0 where
  pub first : (n : ℕ) → n ≤ length held → n ≤ length locks → take n locks ≡ take n held
  pub rest : drop (length held) locks ≡ drop (length held) was
  pub size : length locks ≡ length was
  pub counted : count ≡ length held
  pub quiet : number ≡ number_of Quiet

-- the locks that the thread of a handle holds; without a thread nothing is written
abbrev pub IsHeld : Option Value → List ℕ → List ℕ → ℕ → ℕ → ℕ → Type 0
IsHeld None was locks counted count number = (locks ≡ was) × ((count ≡ counted) × (number ≡ number_of EmptyHandle))
IsHeld (Some (Shard calls)) was locks counted count number = (locks ≡ was) × ((count ≡ counted) × (number ≡ number_of WrongHandle))
IsHeld (Some (Journal shard)) was locks counted count number = (locks ≡ was) × ((count ≡ counted) × (number ≡ number_of WrongHandle))
IsHeld (Some (thread_of t)) was locks counted count number = AreCopied t.held.held was locks count number
IsHeld (Some (Seat s)) was locks counted count number = AreCopied (holdings_of s).held was locks count number

-- the status of an access that was a race, or of one that was none
abbrev pub race_if : Bool → Status
race_if race = cond race Race Quiet

-- the list has this access more, and its answer is the one that the definitions give of the list before it
pub record IsTaken (before after : Calls) (t : Thread) (kind : Kind) (word : ℕ) (race : Bool) : Type 0 where
  pub list : after ≡ before ++ (access_of t.number kind word race, locks_for t.held kind) ∷ []
  pub answer : FitsEnd (notes_of before) (Counted t.number kind word (locks_for t.held kind)) (reply_of (access_of t.number kind word race))

-- a refusal that more room could have avoided
abbrev pub IsNoRoom : ℕ → Type 0
IsNoRoom number = (number ≡ number_of (Refused OutOfMemory)) ⊎ (number ≡ number_of (Refused TableFull))

-- a refusal for want of memory, or for want of a place for a set of locks where one is needed
abbrev pub IsNoRoomFor : Bool → ℕ → Type 0
IsNoRoomFor needs number = (number ≡ number_of (Refused OutOfMemory)) ⊎ ((number ≡ number_of (Refused TableFull)) × IsTrue needs)

-- an access is taken and answered, or it is refused and the list is as it was
unfoldable pub IsAccessed : Thread → Kind → ℕ → Calls → Calls → ℕ → Type 0
IsAccessed t kind word before after number =
    ((race : Bool) × (IsTaken before after t kind word race × (number ≡ number_of (race_if race)))) ⊎ ((after ≡ before) × IsNoRoomFor (needs_set (state_now before word) t.number) number)

-- the address of a word that was found, or the greatest number
abbrev pub address_of : Option ℕ → ℕ
address_of None = 2 ^ 64 - 1
address_of (Some word) = 4 * word

-- race if a word was found, or else quiet
abbrev pub race_of : Option ℕ → Status
race_of None = Quiet
race_of (Some word) = Race

-- each word of the run is accessed, or one finds no room and those before it are; there is no place for a set of locks only if that word needs one
abbrev pub IsSpanTaken : Thread → Kind → Span → Calls → Calls → Option ℕ → ℕ → Type 0
IsSpanTaken t kind span before after found number =
    (IsSpanned before after t.number kind (locks_for t.held kind) span.first (span.last + 1 - span.first) found × (number ≡ number_of (race_of found)))
    ⊎ ((taken : ℕ) × ((span.first + taken < span.last + 1) × (IsSpanned before after t.number kind (locks_for t.held kind) span.first taken found × IsNoRoomFor (needs_set (state_now after (span.first + taken)) t.number) number)))

-- each answer of the list is the one that the definitions give, and each word of the run is accessed, or one finds no room and those before it are
pub record IsSpanAccessed (t : Thread) (kind : Kind) (span : Span) (before after : Calls) (found : Option ℕ) (number : ℕ) : Type 0 where
  pub legal : IsLegal (notes_of after)
  pub taken : IsSpanTaken t kind span before after found number

-- the words of the run are accessed, and `first` has the address of the first one that was a race
abbrev pub IsSpanFound : Thread → Kind → Span → ℕ → Calls → Calls → ℕ → Type 0
IsSpanFound t kind span first before after number = (found : Option ℕ) × ((first ≡ address_of found) × IsSpanAccessed t kind span before after found number)

-- where a word is named, the status says that it is a race, or that a later one found no room
abbrev pub NamesRace : ℕ → ℕ → Type 0
NamesRace first number = (first ≡ address_of None) ⊎ ((number ≡ number_of Race) ⊎ IsNoRoom number)

-- no access was a race, and each word of the handle's shard has the state that it had
pub record LeavesStates (before after : Option Value) (number : ℕ) : Type 0 where
  pub was : Calls
  pub now : Calls
  pub from : before ≡ Some (Shard was)
  pub to : after ≡ Some (Shard now)
  pub same : HasSameStates was now
  pub quiet : number ≡ number_of Quiet

-- what a call asks of the shard of a handle, if it leads to one
abbrev pub OfShard : (Calls → Calls → ℕ → Type 0) → Option Value → Option Value → ℕ → Type 0
OfShard P None after number = (after ≡ None) × (number ≡ number_of EmptyHandle)
OfShard P (Some (thread_of t)) after number = (after ≡ Some (thread_of t)) × (number ≡ number_of WrongHandle)
OfShard P (Some (Journal shard)) after number = (after ≡ Some (Journal shard)) × (number ≡ number_of WrongHandle)
OfShard P (Some (Seat s)) after number = (after ≡ Some (Seat s)) × (number ≡ number_of WrongHandle)
OfShard P (Some (Shard before)) after number = (calls : Calls) × ((after ≡ Some (Shard calls)) × P before calls number)

-- accesses of a thread that ignores them change nothing
pub record UnlessIgnoring (t : Thread) (before after : Calls) (number : ℕ) (P : Type 0) : Type 0 where
  pub ignored : 0 < t.held.depth → (after ≡ before) × (number ≡ number_of Ignored)
  pub counted : t.held.depth ≡ 0 → P

-- the shard's list has a reuse of each page of the run more, and so its words are virgin
abbrev pub IsReset : Span → Calls → Calls → ℕ → Type 0
IsReset span before after number = (after ≡ before ++ resets (parts_of span)) × (number ≡ number_of Quiet)

-- the status that says a word's state
abbrev pub status_of_state : WordState → Status
status_of_state words.Virgin = Virgin
status_of_state (words.Exclusive t) = Exclusive
status_of_state (words.Shared candidates) = Shared
status_of_state (words.SharedModified candidates) = SharedModified

-- the number says this state, or that there is no memory
abbrev pub IsStatus : WordState → ℕ → Type 0
IsStatus state number = (number ≡ number_of (status_of_state state)) ⊎ (number ≡ number_of (Refused OutOfMemory))

-- the state that the definitions give of the list, or there is no memory; the list is as it was, and each of its answers is the definitions'
abbrev pub IsState : ℕ → Calls → Calls → ℕ → Type 0
IsState word before after number =
    (after ≡ before) × (IsLegal (notes_of before) × IsStatus (state_now before word) number)

-- the number says the state that the definitions give of what the handle's shard took, with a journal or without
abbrev pub IsStateOf : ℕ → Option Value → Option Value → ℕ → Type 0
IsStateOf word (Some (Journal shard)) after number =
    (after ≡ Some (Journal shard)) × (IsLegalJournal shard.journal × IsStatus (journal_state shard.journal word) number)
IsStateOf word (Some (Shard calls)) after number = OfShard (λ before after number. IsState word before after number) (Some (Shard calls)) after number
IsStateOf word (Some (thread_of t)) after number = (after ≡ Some (thread_of t)) × (number ≡ number_of WrongHandle)
IsStateOf word (Some (Seat s)) after number = (after ≡ Some (Seat s)) × (number ≡ number_of WrongHandle)
IsStateOf word None after number = (after ≡ None) × (number ≡ number_of EmptyHandle)

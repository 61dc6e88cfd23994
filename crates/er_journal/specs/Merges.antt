-- When a list of steps with replies is a merge of seats' calls and of shards' journals.
use Rattle.std.specs.Prelude.{ℕ, zero, suc, ◌≡◌, ◌<◌, ◌/◌, ◌%◌, ◌==◌, Bool, true, false, cond, List, [], ◌∷◌, ◌++◌, length, map, slice_get, slice_index_or, Option, Some, None, Ok, filter_map, nat_lt}
use Rattle.er_event.specs.declared.steps.Event.{Event}
use Rattle.er_event.specs.declared.steps.Event.TheVariants.{Access}
use Rattle.er_event.specs.declared.steps.Reply.{Reply}
use Rattle.er_event.specs.declared.steps.Reply.TheVariants.{Done}
use Rattle.er_event.specs.declared.steps.Step.{Step}
use Rattle.er_journal.specs.Entries.{Call, Stamp, What, Access as Stamped, Reset, Entry}
use Rattle.er_model.specs.Words.{Mark, Counted, Reused, Shown, Nothing}
use Rattle.er_model.specs.Holdings.{Holdings, holdings_at}
use Rattle.er_model.specs.Answers.{reading_of, answer}
use Rattle.er_model.specs.Locality.{events_of, steps_by, is_own_call}
use Rattle.er_model.specs.Parts.{part_of}
use Rattle.er_journal.specs.Journals.{notes_of}

-- the shard of a word: its page's number modulo the number of shards
abbrev pub shard_of : ℕ → ℕ → ℕ
shard_of shards w = (w / 1024) % shards

-- the mark is on words of shard i
abbrev pub is_in_shard : ℕ → ℕ → Mark → Bool
is_in_shard shards i (Counted t kind w cover) = shard_of shards w == i
is_in_shard shards i (Reused range) = shard_of shards range.lo == i
is_in_shard shards i (Shown w) = shard_of shards w == i
is_in_shard shards i Nothing = false

-- the reply at a position
abbrev pub reply_at : List Reply → ℕ → Reply
reply_at replies k = slice_index_or replies k Done

-- the reply, where the step is the thread's
abbrev pub reply_by : ℕ → Option Step → Reply → List Reply
reply_by t None reply = []
reply_by t (Some step) reply = cond (step.thread == t) (reply ∷ []) []

-- the replies to the thread's steps before point n, in order
unfoldable pub replies_of : List Step → List Reply → ℕ → ℕ → List Reply
replies_of steps replies t zero = []
replies_of steps replies t (suc n) = replies_of steps replies t n ++ reply_by t (slice_get steps n) (reply_at replies n)

-- the events of the calls, in order
abbrev pub events_in : List Call → List Event
events_in calls = map (λ call. call.event) calls

-- the replies of the calls, in order
abbrev pub replies_in : List Call → List Reply
replies_in calls = map (λ call. call.reply) calls

-- a counted access is stamped with its thread's locks, those in any mode and those in write mode
abbrev pub stamp_by : Holdings → ℕ → Event → List Stamp
stamp_by h t (Access kind w site) = cond (nat_lt 0 h.depth) [] (record { thread = t; word = w; kind = kind; site = site; held = h.held; write_held = h.write_held } ∷ [])
stamp_by h t _ = []

-- past the list's end there is nothing to stamp
abbrev pub stamp_of : List Step → ℕ → Option Step → List Stamp
stamp_of steps k None = []
stamp_of steps k (Some step) = stamp_by (holdings_at steps step.thread k) step.thread step.event

-- the stamps of the counted accesses of shard i before point n, in order
unfoldable pub stamps_of : ℕ → ℕ → List Step → ℕ → List Stamp
stamps_of shards i steps zero = []
stamps_of shards i steps (suc n) = stamps_of shards i steps n ++ cond (is_in_shard shards i (reading_of steps n)) (stamp_of steps n (slice_get steps n)) []

-- the stamp of what an entry records: an access has one, a reuse has none
abbrev pub stamp_in : What → Option Stamp
stamp_in (Stamped stamp) = Some stamp
stamp_in (Reset range) = None

-- the stamps of a journal, in order
abbrev pub stamps_in : List Entry → List Stamp
stamps_in entries = filter_map (λ entry. stamp_in entry.what) entries

-- past the list's end there is no thread
abbrev pub thread_in : Option Step → List ℕ
thread_in None = []
thread_in (Some step) = step.thread ∷ []

-- the threads of the counted accesses and the reuses of shard i before point n, and of its shows, in order
unfoldable pub threads_of : ℕ → ℕ → List Step → ℕ → List ℕ
threads_of shards i steps zero = []
threads_of shards i steps (suc n) = threads_of shards i steps n ++ cond (is_in_shard shards i (reading_of steps n)) (thread_in (slice_get steps n)) []

-- the threads of a journal's entries, in order
abbrev pub threads_in : List Entry → List ℕ
threads_in entries = map (λ entry. entry.thread) entries

-- each thread's steps, with their replies, are its seat's calls, and each shard's part is its journal, in order
pub record IsMerge (shards : ℕ) (steps : List Step) (replies : List Reply) (calls : ℕ → List Call) (journals : ℕ → List Entry) : Type 0 where
  pub lengths : length replies ≡ length steps
  pub events : (t : ℕ) → events_of steps t (length steps) ≡ events_in (calls t)
  pub answers : (t : ℕ) → replies_of steps replies t (length steps) ≡ replies_in (calls t)
  pub parts : (i : ℕ) → i < shards → part_of (is_in_shard shards i) (reading_of steps) (reply_at replies) (length steps) ≡ notes_of (journals i)
  pub stamps : (i : ℕ) → i < shards → stamps_of shards i steps (length steps) ≡ stamps_in (journals i)
  pub threads : (i : ℕ) → i < shards → threads_of shards i steps (length steps) ≡ threads_in (journals i)

-- each call that stands in no journal has the reply that the seat's own list gives
abbrev pub IsLegalSeat : ℕ → List Call → Type 0
IsLegalSeat t calls =
    (j : ℕ) (call : Call) → slice_get calls j ≡ Some call → is_own_call (holdings_at (steps_by t (events_in calls)) t j) call.event ≡ true →
    answer (steps_by t (events_in calls)) j ≡ Ok call.reply

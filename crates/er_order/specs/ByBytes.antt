-- Accesses of some bytes of their words: two that have no byte in common make no race, whatever their order.
use Rattle.std.specs.Prelude.{ℕ, zero, suc, not, nat_le, Bool, ◌&&◌, ◌||◌, cond, List, [], ◌∷◌, is_some, slice_get, Option, Some, None, Result, Ok}
use Rattle.er_event.specs.declared.addresses.PageRange.{PageRange}
use Rattle.er_event.specs.declared.refusals.Refusal.{Refusal}
use Rattle.er_event.specs.declared.steps.Event.{Event}
use Rattle.er_event.specs.declared.steps.Event.TheVariants.{Access, Reuse}
use Rattle.er_event.specs.declared.steps.Reply.{Reply}
use Rattle.er_event.specs.declared.steps.Reply.TheVariants.{Done, Quiet, Race, Ignored}
use Rattle.er_event.specs.declared.steps.Step.{Step}
use Rattle.er_model.specs.Search.{least_below}
use Rattle.er_model.specs.Words.{Reading, era, counted_from, is_within}
use Rattle.er_model.specs.Threads.{is_ignoring, refusal, accepted}
use Rattle.er_model.specs.Answers.{answer_unless, reading_of}
use Rattle.er_order.specs.Order.{acts_of, happens_before}
use Rattle.er_order.specs.Races.{Order, had_race, is_reported, last_use, reuse_reply}
use Rattle.er_order.specs.Reasons.{last_unordered, use_of}
use Rattle.er_order.specs.declared.bytes.Bytes.{Bytes}

-- the bytes of its word that each position touches
abbrev pub Touched : Type 0
Touched = ℕ → Bytes

-- all bytes of a word
abbrev pub whole : Bytes
whole = record { first = 0; last = 3 }

-- the two have a byte in common
abbrev pub meet : Bytes → Bytes → Bool
meet a b = nat_le a.first b.last && nat_le b.first a.last

-- one comes before another in order, or the two have no byte in common and need no order
unfoldable pub by_bytes : Touched → Order → Order
by_bytes touched order j k = order j k || not (meet (touched j) (touched k))

-- an access of the era, of whatever bytes, doesn't come in order before position k, and no access of the era was a race by its bytes
unfoldable pub is_in_use_by_bytes : Touched → Order → Reading → ℕ → ℕ → Bool
is_in_use_by_bytes touched order r w k = is_some (last_use order r w k) && not (had_race (by_bytes touched order) r w k)

-- the lowest word of the range that is in use so
unfoldable pub word_in_use_by_bytes : Touched → Order → Reading → ℕ → PageRange → Option ℕ
word_in_use_by_bytes touched order r k range = least_below (suc range.hi) (λ w. is_within w range && is_in_use_by_bytes touched order r w k)

-- the reply by bytes to an event at position k, if it isn't refused
unfoldable pub reply_by_bytes : Touched → List Step → ℕ → ℕ → Event → Reply
reply_by_bytes touched steps k t (Access kind w site) = cond (is_ignoring (accepted steps k) t) Ignored (cond (is_reported (by_bytes touched (happens_before (acts_of steps))) (reading_of steps) w k) Race Quiet)
reply_by_bytes touched steps k t (Reuse range) = cond (is_ignoring (accepted steps k) t) Done (reuse_reply (word_in_use_by_bytes touched (happens_before (acts_of steps)) (reading_of steps) k range))
reply_by_bytes touched steps k t event = Done

-- the answer by bytes to what stands at a position
abbrev pub answer_to_by_bytes : Touched → List Step → ℕ → Option Step → Result Reply Refusal
answer_to_by_bytes touched steps k None = Ok Done
answer_to_by_bytes touched steps k (Some step) = answer_unless (refusal (accepted steps k) step.thread step.event) (reply_by_bytes touched steps k step.thread step.event)

-- the answer by bytes to the step at position k
unfoldable pub answer_by_bytes : Touched → List Step → ℕ → Result Reply Refusal
answer_by_bytes touched steps k = answer_to_by_bytes touched steps k (slice_get steps k)

-- the access that an event at position k is unordered with by bytes: the last one, if there are several
abbrev pub unordered_by_bytes_of : Touched → List Step → ℕ → Event → Option ℕ
unordered_by_bytes_of touched steps k (Access kind w site) = last_unordered (by_bytes touched (happens_before (acts_of steps))) (reading_of steps) w k
unordered_by_bytes_of touched steps k (Reuse range) = use_of steps k (word_in_use_by_bytes touched (happens_before (acts_of steps)) (reading_of steps) k range)
unordered_by_bytes_of touched steps k event = None

-- the access that the step at position k, if there is one, is unordered with by bytes
abbrev pub unordered_by_bytes_in : Touched → List Step → ℕ → Option Step → Option ℕ
unordered_by_bytes_in touched steps k None = None
unordered_by_bytes_in touched steps k (Some step) = unordered_by_bytes_of touched steps k step.event

-- the access that position k of the list is unordered with by bytes
unfoldable pub unordered_by_bytes : Touched → List Step → ℕ → Option ℕ
unordered_by_bytes touched steps k = unordered_by_bytes_in touched steps k (slice_get steps k)

-- the counted accesses of the word from the start on, the last one first
unfoldable pub accesses_from : Reading → ℕ → ℕ → ℕ → List ℕ
accesses_from r w start zero = []
accesses_from r w start (suc n) = cond (counted_from r w start n) (n ∷ accesses_from r w start n) (accesses_from r w start n)

-- the counted accesses of the word in its era at point n, the last one first
unfoldable pub accesses : Reading → ℕ → ℕ → List ℕ
accesses r w n = accesses_from r w (era r w n) n

-- The race by happens-before: two accesses of a word, one of them a write, of which neither happens before the other; or an access of a word
-- and a reuse of it.
use Rattle.std.specs.Prelude.{ℕ, zero, suc, not, Bool, false, ◌&&◌, ◌||◌, cond, List, [], ◌∷◌, ◌++◌, filter, is_some, length, slice_get, Option, Some, None, Result, Ok}
use Rattle.er_event.specs.declared.steps.Event.{Event}
use Rattle.er_event.specs.declared.steps.Event.TheVariants.{Access, Reuse}
use Rattle.er_event.specs.declared.addresses.PageRange.{PageRange}
use Rattle.er_event.specs.declared.refusals.Refusal.{Refusal}
use Rattle.er_event.specs.declared.steps.Reply.{Reply}
use Rattle.er_event.specs.declared.steps.Reply.TheVariants.{Done, Quiet, Race, Ignored}
use Rattle.er_model.specs.Search.{some_below, every_below, least_below, greatest_below}
use Rattle.er_model.specs.Words.{Reading, counts, writes, era, counted_from, is_within}
use Rattle.er_model.specs.Threads.{is_ignoring, refusal, accepted}
use Rattle.er_model.specs.Answers.{answer_unless, reading_of}
use Rattle.er_event.specs.declared.steps.Step.{Step}
use Rattle.er_order.specs.Order.{acts_of, happens_before}

-- whether one position comes before another in order
abbrev pub Order : Type 0
Order = ℕ → ℕ → Bool

-- both are counted accesses of the word, j in the era of k, and one at least is a write
unfoldable pub conflicts : Reading → ℕ → ℕ → ℕ → Bool
conflicts r w j k = counted_from r w (era r w (suc k)) j && (counts (r k) w && (writes (r j) || writes (r k)))

-- an earlier access conflicts with position k, and doesn't come before it in order
unfoldable pub is_race : Order → Reading → ℕ → ℕ → Bool
is_race order r w k = some_below k (λ j. conflicts r w j k && not (order j k))

-- some access of the era at point n is such a race
unfoldable pub had_race : Order → Reading → ℕ → ℕ → Bool
had_race order r w n = some_below n (λ j. counted_from r w (era r w n) j && is_race order r w j)

-- position k is a race, and no earlier access of its era is one
unfoldable pub is_reported : Order → Reading → ℕ → ℕ → Bool
is_reported order r w k = is_race order r w k && every_below k (λ j. not (counted_from r w (era r w (suc k)) j && is_race order r w j))

-- the last counted access of the word's era that doesn't come in order before position k
unfoldable pub last_use : Order → Reading → ℕ → ℕ → Option ℕ
last_use order r w k = greatest_below k (λ j. counted_from r w (era r w k) j && not (order j k))

-- the word is in use: an access of its era doesn't come in order before position k, and no access of the era was a race
unfoldable pub is_in_use : Order → Reading → ℕ → ℕ → Bool
is_in_use order r w k = is_some (last_use order r w k) && not (had_race order r w k)

-- the lowest word of the range that is in use
unfoldable pub word_in_use : Order → Reading → ℕ → PageRange → Option ℕ
word_in_use order r k range = least_below (suc range.hi) (λ w. is_within w range && is_in_use order r w k)

-- the reply to a reuse of which this word is in use
abbrev pub reuse_reply : Option ℕ → Reply
reuse_reply None = Done
reuse_reply (Some w) = Race

-- the reply to an event at position k, if it isn't refused; a show is done, since a word's state is the lockset rule's
unfoldable pub order_reply : List Step → ℕ → ℕ → Event → Reply
order_reply steps k t (Access kind w site) = cond (is_ignoring (accepted steps k) t) Ignored (cond (is_reported (happens_before (acts_of steps)) (reading_of steps) w k) Race Quiet)
order_reply steps k t (Reuse range) = cond (is_ignoring (accepted steps k) t) Done (reuse_reply (word_in_use (happens_before (acts_of steps)) (reading_of steps) k range))
order_reply steps k t event = Done

-- the answer to what stands at a position
abbrev pub order_answer_to : List Step → ℕ → Option Step → Result Reply Refusal
order_answer_to steps k None = Ok Done
order_answer_to steps k (Some step) = answer_unless (refusal (accepted steps k) step.thread step.event) (order_reply steps k step.thread step.event)

-- the answer by happens-before to the step at position k
unfoldable pub order_answer : List Step → ℕ → Result Reply Refusal
order_answer steps k = order_answer_to steps k (slice_get steps k)

-- the answers to the first n steps
unfoldable pub order_answers_below : List Step → ℕ → List (Result Reply Refusal)
order_answers_below steps zero = []
order_answers_below steps (suc n) = order_answers_below steps n ++ order_answer steps n ∷ []

-- the answers to the whole list
abbrev pub order_answers : List Step → List (Result Reply Refusal)
order_answers steps = order_answers_below steps (length steps)

-- position k doesn't come in order after this one
abbrev pub is_apart : Order → Option ℕ → ℕ → Bool
is_apart order None k = false
is_apart order (Some j) k = not (order j k)

-- where the era's last counted write stands
unfoldable pub last_write : Reading → ℕ → ℕ → Option ℕ
last_write r w n = greatest_below n (λ k. counted_from r w (era r w n) k && writes (r k))

-- one past the write, or the era's start
abbrev pub past_write : ℕ → Option ℕ → ℕ
past_write start None = start
past_write start (Some k) = suc k

-- the reads from the start on, less those that come in order before a later one of them
unfoldable pub latest_from : Order → Reading → ℕ → ℕ → ℕ → List ℕ
latest_from order r w start zero = []
latest_from order r w start (suc n) = cond (counted_from r w start n && not (writes (r n))) (n ∷ filter (λ j. not (order j n)) (latest_from order r w start n)) (latest_from order r w start n)

-- the latest reads since the era's last write
unfoldable pub latest_reads : Order → Reading → ℕ → ℕ → List ℕ
latest_reads order r w n = latest_from order r w (past_write (era r w n) (last_write r w n)) n

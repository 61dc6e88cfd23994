-- The lists of steps that a machine stands for, and what one more step makes of it.
use Rattle.std.specs.Prelude.{ℕ, suc, ◌≡◌, ◌&&◌, nat_lt, Bool, true, false, cond, List, [], ◌∷◌, ◌++◌, length, is_some, Option, Some, None}
use Rattle.er_event.specs.declared.addresses.PageRange.{PageRange}
use Rattle.er_event.specs.declared.steps.Event.{Event}
use Rattle.er_event.specs.declared.steps.Event.TheVariants.{Access, Reuse, Show, IgnoreOn, IgnoreOff, Level}
use Rattle.er_event.specs.declared.steps.Reply.{Reply}
use Rattle.er_event.specs.declared.steps.Reply.TheVariants.{Done, Quiet, Race, Ignored}
use Rattle.er_event.specs.declared.steps.Step.{Step}
use Rattle.er_model.specs.Search.{least_below}
use Rattle.er_model.specs.Words.{is_within}
use Rattle.er_model.specs.Holdings.{Holdings, refused_by, after_step, holdings_at}
use Rattle.er_model.specs.Answers.{answer_unless}
use Rattle.er_model.specs.Following.{marked}
use Rattle.er_held.specs.ThreadLocks.{holding_among}
use Rattle.er_order.specs.Clocks.{OfThread, clocks_at}
use Rattle.er_order.specs.Order.{acts_of}
use Rattle.er_order.specs.Races.{reuse_reply}
use Rattle.er_order.specs.Following.{act_by}
use Rattle.er_order.specs.ByBytes.{Touched}
use Rattle.er_order.specs.declared.bytes.Bytes.{Bytes}
use Rattle.er_clock.specs.Crowding.{IsBeyond, crowds}
use Rattle.er_clock.specs.Standing.{ClockMaps, counts, SameCounts, Moves, StandsForClocksOf}
use Rattle.er_clock.specs.declared.clock.Limit.{Limit}
use Rattle.er_epochs.specs.Known.{Known, finds, query_of, reuse_query}
use Rattle.er_epochs.specs.Standing.{FollowsBytes, IsKnownMoved}
use Rattle.er_epochs.specs.Words.{AllWords, known_among}
use Rattle.er_unordered.specs.declared.machine.OrderAnswer.{OrderAnswer}

-- the threads that took something, with their holdings; the clocks; and what is kept of the words
pub record Ordered (A : Type 0) : Type 0 where
  pub holders : List (ℕ × Holdings)
  pub clocks : ClockMaps
  pub words : AllWords A

-- thread t's holdings
abbrev pub holding : {A : Type 0} → Ordered A → ℕ → Holdings
holding machine t = holding_among machine.holders t

-- thread t's clock
abbrev pub clock_of : {A : Type 0} → Ordered A → ℕ → ℕ → ℕ
clock_of machine t u = counts machine.clocks (OfThread t) u

-- what is known of word w
abbrev pub known_in : {A : Type 0} → Ordered A → ℕ → Known A
known_in machine w = known_among machine.words w

-- its holdings and its clocks are those at the end of the list, and what it knows serves as what the list says, where these are the tags of
-- the positions and the bytes that they touch
pub record Stands {A : Type 0} (tags : ℕ → A) (touched : Touched) (machine : Ordered A) (steps : List Step) : Type 0 where
  pub held : (t : ℕ) → holding machine t ≡ holdings_at steps t (length steps)
  pub clocks : StandsForClocksOf machine.clocks steps
  pub words : FollowsBytes tags touched machine.words steps

-- the event finds room always: an access inside a bracket, a reuse, a show, and the end of a bracket
abbrev pub wants_nothing : Holdings → Event → Bool
wants_nothing h (Access kind w site) = nat_lt 0 h.depth
wants_nothing h (Reuse range) = true
wants_nothing h (Show w) = true
wants_nothing h IgnoreOff = true
wants_nothing h _ = false

-- the step may be beyond the limit of the clocks
abbrev pub IsBeyondBy : {A : Type 0} → Ordered A → Step → Limit → Type 0
IsBeyondBy machine step limit = IsBeyond limit (counts machine.clocks) (act_by (holding machine step.thread) step)

-- a step that comes after the list may be beyond the limit of the clocks
abbrev pub IsBeyondAfter : List Step → Step → Limit → Type 0
IsBeyondAfter steps step limit = IsBeyond limit (clocks_at (acts_of steps) (length steps)) (acts_of (steps ++ step ∷ []) (length steps))

-- the step does to the order what clocks have no room for
abbrev pub is_crowding : {A : Type 0} → Ordered A → Step → Bool
is_crowding machine step = crowds (act_by (holding machine step.thread) step)

-- a step that comes after the list does to the order what clocks have no room for
abbrev pub crowds_after : List Step → Step → Bool
crowds_after steps step = crowds (acts_of (steps ++ step ∷ []) (length steps))

-- they are what the step, for which there is room, makes of those before, or what may be known after it, where these are its bytes and its tag
pub record Changes {A : Type 0} (before : Ordered A) (step : Step) (bytes : Bytes) (tag : A) (after : Ordered A) : Type 0 where
  pub held : (t : ℕ) → holding after t ≡ after_step (holding before t) t step
  pub clocks : Moves before.clocks (act_by (holding before step.thread) step) after.clocks
  pub room : is_crowding before step ≡ false
  pub words : (w : ℕ) → IsKnownMoved (clock_of before step.thread) tag bytes (known_in before w) w (marked (holding before step.thread) step.thread step.event) (known_in after w)

-- the machine has kept what it had
pub record IsSame {A : Type 0} (before after : Ordered A) : Type 0 where
  pub held : (t : ℕ) → holding after t ≡ holding before t
  pub clocks : SameCounts before.clocks after.clocks
  pub words : (w : ℕ) → known_in after w ≡ known_in before w

-- the lowest word of the range that is in use, where a thread with this clock reuses it
abbrev pub word_used : {A : Type 0} → (ℕ → ℕ) → (ℕ → Known A) → PageRange → Option ℕ
word_used clock known range = least_below (suc range.hi) (λ w. is_within w range && is_some (finds clock (known w) reuse_query))

-- the tag of the use of a word that was found
abbrev pub use_found : {A : Type 0} → (ℕ → ℕ) → (ℕ → Known A) → Option ℕ → Option A
use_found clock known None = None
use_found clock known (Some w) = finds clock (known w) reuse_query

-- the reply to an event of these bytes that isn't refused, by these
abbrev pub reply_by : {A : Type 0} → Holdings → (ℕ → ℕ) → (ℕ → Known A) → Bytes → Event → Reply
reply_by h clock known bytes (Access kind w site) = cond (nat_lt 0 h.depth) Ignored (cond (is_some (finds clock (known w) (query_of kind bytes))) Race Quiet)
reply_by h clock known bytes (Reuse range) = cond (nat_lt 0 h.depth) Done (reuse_reply (word_used clock known range))
reply_by h clock known bytes _ = Done

-- the tag of the access that a race names
abbrev pub rival_by : {A : Type 0} → Holdings → (ℕ → ℕ) → (ℕ → Known A) → Bytes → Event → Option A
rival_by h clock known bytes (Access kind w site) = cond (nat_lt 0 h.depth) None (finds clock (known w) (query_of kind bytes))
rival_by h clock known bytes (Reuse range) = cond (nat_lt 0 h.depth) None (use_found clock known (word_used clock known range))
rival_by h clock known bytes _ = None

-- what a step is answered
abbrev pub answered_by : {A : Type 0} → Ordered A → Step → Bytes → OrderAnswer A
answered_by machine step bytes = record {
  reply = answer_unless (refused_by (holding machine step.thread) step.event) (reply_by (holding machine step.thread) (clock_of machine step.thread) (known_in machine) bytes step.event);
  rival = rival_by (holding machine step.thread) (clock_of machine step.thread) (known_in machine) bytes step.event;
}

-- the event changes what its thread holds, and nothing else
abbrev pub holds_alone : Event → Bool
holds_alone IgnoreOn = true
holds_alone IgnoreOff = true
holds_alone (Level level) = true
holds_alone _ = false

-- the event is neither an access nor a reuse, so it is no race
abbrev pub names_none : Event → Bool
names_none (Access kind w site) = false
names_none (Reuse range) = false
names_none _ = true

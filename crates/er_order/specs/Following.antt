-- What is kept of a word for happens-before, and what an access makes of it.
use Rattle.std.specs.Prelude.{ℕ, ◌==◌, not, Bool, false, ◌&&◌, ◌||◌, cond, List, [], ◌∷◌, filter, map, Option, Some, None}
use Rattle.std.specs.List.{list_any}
use Rattle.er_event.specs.declared.steps.Kind.{Kind}
use Rattle.er_event.specs.declared.steps.Kind.TheVariants.{Read as reading, Write as writing}
use Rattle.er_model.specs.Words.{Mark, Counted, Reused, Shown, Nothing, Reading, thread_of, is_writing, is_within}
use Rattle.er_model.specs.Holdings.{Holdings, refused_by}
use Rattle.er_model.specs.Answers.{reading_of}
use Rattle.er_event.specs.declared.steps.Step.{Step}
use Rattle.er_order.specs.Order.{Act, Acts, act_unless, acts_of, happens_before}
use Rattle.er_order.specs.Clocks.{Epoch, own_count, covers}
use Rattle.er_order.specs.Races.{had_race, last_write, latest_reads}

-- what the step of a thread with these holdings does to the order
abbrev pub act_by : Holdings → Step → Option Act
act_by h step = act_unless (refused_by h step.event) step

-- of the era, the epochs of the last write and of the latest reads since; or that a race was reported in it
pub data Kept : Type 0 where
  Seen : (write : Option Epoch) → (reads : List Epoch) → Kept
  Reported : Kept

-- what is kept of a word with no access in its era
abbrev pub fresh : Kept
fresh = Seen None []

-- the epoch of the access at position k
abbrev pub epoch_of : Acts → Reading → ℕ → Epoch
epoch_of acts r k = (thread_of (r k), own_count acts k (thread_of (r k)))

-- the epoch of the last write, if there is one
abbrev pub write_epoch : Acts → Reading → Option ℕ → Option Epoch
write_epoch acts r None = None
write_epoch acts r (Some k) = Some (epoch_of acts r k)

-- what the whole list says that is kept
unfoldable pub kept : Acts → Reading → ℕ → ℕ → Kept
kept acts r w n = cond (had_race (happens_before acts) r w n) Reported (Seen (write_epoch acts r (last_write r w n)) (map (epoch_of acts r) (latest_reads (happens_before acts) r w n)))

-- what is kept after the first n steps of a list
abbrev pub kept_at : List Step → ℕ → ℕ → Kept
kept_at steps w n = kept (acts_of steps) (reading_of steps) w n

-- the clock doesn't cover the epoch: its access doesn't happen before what the clock's thread does now
abbrev pub is_unordered : (ℕ → ℕ) → Epoch → Bool
is_unordered clock epoch = not (covers clock epoch)

-- the clock doesn't cover the last write, if there is one
abbrev pub write_is_unordered : (ℕ → ℕ) → Option Epoch → Bool
write_is_unordered clock None = false
write_is_unordered clock (Some epoch) = is_unordered clock epoch

-- an access of this kind, by a thread whose clock this is, is a race with the write or with a read
abbrev pub races_with : (ℕ → ℕ) → Option Epoch → List Epoch → Kind → Bool
races_with clock write reads kind = write_is_unordered clock write || (is_writing kind && list_any (is_unordered clock) reads)

-- the access's epoch in the place of those that the clock covers
abbrev pub seen_by : (ℕ → ℕ) → Option Epoch → List Epoch → ℕ → Kind → Kept
seen_by clock write reads t reading = Seen write ((t, clock t) ∷ filter (is_unordered clock) reads)
seen_by clock write reads t writing = Seen (Some (t, clock t)) []

-- what is kept after an access by thread t, whose clock this is
abbrev pub kept_by : (ℕ → ℕ) → Kept → ℕ → Kind → Kept
kept_by clock Reported t kind = Reported
kept_by clock (Seen write reads) t kind = cond (races_with clock write reads kind) Reported (seen_by clock write reads t kind)

-- what is kept of word w after a position that is this to the words
abbrev pub kept_moved : (ℕ → ℕ) → Kept → ℕ → Mark → Kept
kept_moved clock before w (Counted t kind word cover) = cond (word == w) (kept_by clock before t kind) before
kept_moved clock before w (Reused range) = cond (is_within w range) fresh before
kept_moved clock before w (Shown word) = before
kept_moved clock before w Nothing = before

use Rattle.std.proofs.Common.{rules, ◌≡◌, ap, ℕ, Option, Some}
use Rattle.er_event.specs.Span.{Span}
use Rattle.er_event.specs.declared.steps.Kind.{Kind}
use Rattle.eraser_c.specs.Accesses.{IsSpanAccess}
use Rattle.eraser_c.specs.Answers.{IsSpanFound, OfShard, UnlessIgnoring, Calls}
use Rattle.er_settle.specs.Seats.{SeatList}
use Rattle.er_shard.specs.Journaled.{Journaled}
use Rattle.eraser_c.specs.Owned.{Value}
use Rattle.eraser_c.specs.Statuses.{number_of}
use Rattle.eraser_c.specs.declared.kept.Kept.TheVariants.{Shard, Thread as thread_of, Journal, Seat}
use Rattle.eraser_c.specs.declared.status.Status.TheVariants.{WrongHandle}
use Rattle.eraser_c.specs.declared.threads.Thread.{Thread}
use Rattle.eraser_c.proofs.shards.access_span.Goals.{in-Thread, in-Shard, in-Journal, in-Seat}
use Rattle.eraser_c.proofs.shards.access_span.Goals as goal

-- the handle leads to a thread
by-thread : (v : Option Value) (t : Thread) → v ≡ Some (thread_of t) → (kind : Kind) (span : Span) (first : ℕ) (before after : Option Value) (number : ℕ)
    → OfShard (λ before after number. UnlessIgnoring t before after number (IsSpanFound t kind span first before after number)) before after number
    → IsSpanAccess v kind span first before after number
by-thread v t is kind span first before after number done = rw is done

-- the handle leads to a shard
by-shard : (v : Option Value) (calls : Calls) → v ≡ Some (Shard calls) → (kind : Kind) (span : Span) (first : ℕ) (before after : Option Value) (number : ℕ)
    → after ≡ before → number ≡ number_of WrongHandle → IsSpanAccess v kind span first before after number
by-shard v calls is kind span first before after number same told = rw is (same, told)

-- the handle leads to a shard with a journal
by-journal : (v : Option Value) (shard : Journaled) → v ≡ Some (Journal shard) → (kind : Kind) (span : Span) (first : ℕ) (before after : Option Value) (number : ℕ)
    → after ≡ before → number ≡ number_of WrongHandle → IsSpanAccess v kind span first before after number
by-journal v shard is kind span first before after number same told = rw is (same, told)

-- the handle leads to a seat
by-seat : (v : Option Value) (seat : SeatList) → v ≡ Some (Seat seat) → (kind : Kind) (span : Span) (first : ℕ) (before after : Option Value) (number : ℕ)
    → after ≡ before → number ≡ number_of WrongHandle → IsSpanAccess v kind span first before after number
by-seat v seat is kind span first before after number same told = rw is (same, told)

pub returns-clause-answered : goal.returns-clause-answered
returns-clause-answered c = elim c.match-deref.branch [
  | in-Thread w ↦ (
      let is : c.args.thread.now.kept_box.kept ≡ Some (thread_of w.in-Thread.thread) = search rules in
      rw (w.shard-is, w.answer-is) (by-thread _ _ is _ _ _ _ _ _ w.span_by-answer.ensures.answered))
  | in-Shard w ↦ (
      let is : c.args.thread.now.kept_box.kept ≡ Some (Shard w.in-Shard.field-0) = search rules in
      by-shard _ _ is _ _ _ _ _ _ (ap (λ s. s.kept_box.kept) w.shard-is) (search rules))
  | in-Journal w ↦ (
      let is : c.args.thread.now.kept_box.kept ≡ Some (Journal w.in-Journal.field-0) = search rules in
      by-journal _ _ is _ _ _ _ _ _ (ap (λ s. s.kept_box.kept) w.shard-is) (search rules))
  | in-Seat w ↦ (
      let is : c.args.thread.now.kept_box.kept ≡ Some (Seat w.in-Seat.field-0) = search rules in
      by-seat _ _ is _ _ _ _ _ _ (ap (λ s. s.kept_box.kept) w.shard-is) (search rules))
]

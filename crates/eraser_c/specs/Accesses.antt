-- What an access of the thread of one handle does to the shard of another.
use Rattle.std.specs.Prelude.{ℕ, ◌≡◌, Option, Some, None}
use Rattle.er_event.specs.Span.{Span}
use Rattle.er_event.specs.declared.steps.Kind.{Kind}
use Rattle.eraser_c.specs.Answers.{IsAccessed, IsSpanFound, OfShard, UnlessIgnoring}
use Rattle.eraser_c.specs.Owned.{Value}
use Rattle.eraser_c.specs.Statuses.{number_of}
use Rattle.eraser_c.specs.declared.kept.Kept.TheVariants.{Shard, Thread as thread_of, Journal, Seat}
use Rattle.eraser_c.specs.declared.status.Status.TheVariants.{EmptyHandle, WrongHandle}

-- an access of one word
abbrev pub IsAccess : Option Value → Kind → ℕ → Option Value → Option Value → ℕ → Type 0
IsAccess None kind word before after number = (after ≡ before) × (number ≡ number_of EmptyHandle)
IsAccess (Some (Shard calls)) kind word before after number = (after ≡ before) × (number ≡ number_of WrongHandle)
IsAccess (Some (Journal shard)) kind word before after number = (after ≡ before) × (number ≡ number_of WrongHandle)
IsAccess (Some (Seat seat)) kind word before after number = (after ≡ before) × (number ≡ number_of WrongHandle)
IsAccess (Some (thread_of t)) kind word before after number =
    OfShard (λ before after number. UnlessIgnoring t before after number (IsAccessed t kind word before after number)) before after number

-- an access of each word of a run; `first` is what says where the first race is
abbrev pub IsSpanAccess : Option Value → Kind → Span → ℕ → Option Value → Option Value → ℕ → Type 0
IsSpanAccess None kind span first before after number = (after ≡ before) × (number ≡ number_of EmptyHandle)
IsSpanAccess (Some (Shard calls)) kind span first before after number = (after ≡ before) × (number ≡ number_of WrongHandle)
IsSpanAccess (Some (Journal shard)) kind span first before after number = (after ≡ before) × (number ≡ number_of WrongHandle)
IsSpanAccess (Some (Seat seat)) kind span first before after number = (after ≡ before) × (number ≡ number_of WrongHandle)
IsSpanAccess (Some (thread_of t)) kind span first before after number =
    OfShard (λ before after number. UnlessIgnoring t before after number (IsSpanFound t kind span first before after number)) before after number

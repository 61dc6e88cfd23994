-- The locks that cover an access, and how far a pass over a list of steps has come.
use Rattle.std.specs.Prelude.{◌≡◌, ℕ, nat_lt, cond, List, Option, Some, None}
use Rattle.er_event.specs.declared.steps.Event.{Event}
use Rattle.er_event.specs.declared.steps.Event.TheVariants.{Access}
use Rattle.er_event.specs.declared.steps.Step.{Step}
use Rattle.er_held.specs.ThreadLocks.{held_by}
use Rattle.er_event.specs.declared.steps.WordState.TheVariants.{Virgin}
use Rattle.er_model.specs.Answers.{reading_of, state_at}
use Rattle.er_model.specs.Following.{locks_for}
use Rattle.er_model.specs.Holdings.{Holdings, holdings_at}
use Rattle.er_model.specs.Words.{Mark, Counted, Reused, Shown, Nothing}
use Rattle.er_explain.specs.Book.{Book}
use Rattle.er_explain.specs.Books.{book_at}

-- the locks that cover an access, if it counts
abbrev pub cover_by : Holdings → Event → Option (List ℕ)
cover_by h (Access kind w site) = cond (nat_lt 0 h.depth) None (Some (locks_for h kind))
cover_by h _ = None

-- these are the locks that cover the access of the step at position k, if it counts
abbrev pub CoversAt : List Step → ℕ → Step → Option (List ℕ) → Type 0
CoversAt steps k step cover = cover ≡ cover_by (holdings_at steps step.thread k) step.event

-- what is so to the words is an access that counts, and this holds of its word
abbrev pub CountsWhere : Mark → (ℕ → Type 0) → Type 0
CountsWhere (Counted t kind word cover) P = P word
CountsWhere (Reused range) P = ⊥
CountsWhere (Shown word) P = ⊥
CountsWhere Nothing P = ⊥

-- the step at position k is the first access that counts of its word since its last reuse
abbrev pub BeginsAt : List Step → ℕ → Type 0
BeginsAt steps k = CountsWhere (reading_of steps k) (λ w. state_at steps w k ≡ Virgin)

-- what each thread holds after the first k steps
abbrev pub AreHeldAt : List Step → List Holdings → ℕ → Type 0
AreHeldAt steps threads k = (t : ℕ) → held_by threads t ≡ holdings_at steps t k

-- the book of a word, and what each thread holds, after the first k steps
pub record HasFollowed (steps : List Step) (w : ℕ) (threads : List Holdings) (b : Book ℕ) (k : ℕ) : Type 0 where
  pub held : AreHeldAt steps threads k
  pub book : b ≡ book_at (reading_of steps) w k

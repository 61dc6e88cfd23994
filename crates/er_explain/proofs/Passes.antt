-- A pass over a list of steps goes on by one step.
use Rattle.std.proofs.Common.{◌≡◌, ◌∙◌, ℕ, ◌+◌, List, [], slice_get, Some, add-one, sym, ap}
use Rattle.er_event.specs.declared.steps.Step.{Step}
use Rattle.er_held.specs.ThreadLocks.{held_by}
use Rattle.er_model.proofs.AnswersLemmas.{reading-step}
use Rattle.er_model.proofs.Threads.{holdings-step}
use Rattle.er_model.proofs.Prefixes.{holdings-empty}
use Rattle.er_model.specs.Answers.{reading_of}
use Rattle.er_model.specs.Following.{marked}
use Rattle.er_model.specs.Threads.{accepted}
use Rattle.er_model.specs.Holdings.{Holdings, after_step, holdings_at}
use Rattle.er_explain.proofs.BookSteps.{book-step, book-start}
use Rattle.er_explain.specs.Books.{book_after, book_at}
use Rattle.er_explain.specs.Following.{AreHeldAt, HasFollowed}
use Rattle.er_explain.specs.Book.{Book, Untouched}

pub held-start : (steps : List Step) (threads : List Holdings) → threads ≡ [] → AreHeldAt steps threads 0
unfolding accepted
held-start steps threads none t = ap (λ (all : List Holdings). held_by all t) none ∙ sym (holdings-empty t)

pub held-next : (steps : List Step) (k : ℕ) (step : Step) (before after : List Holdings) → slice_get steps k ≡ Some step → AreHeldAt steps before k
    → ((t : ℕ) → held_by after t ≡ after_step (held_by before t) t step) → AreHeldAt steps after (k + 1)
held-next steps k step before after is held follows t =
    follows t
    ∙ ap (λ (h : Holdings). after_step h t step) (held t)
    ∙ sym (holdings-step steps k step t is)
    ∙ ap (holdings_at steps t) (sym (add-one k))

-- what a step is to the words, by what its thread holds
pub mark-held : (steps : List Step) (k : ℕ) (step : Step) (threads : List Holdings) → slice_get steps k ≡ Some step → AreHeldAt steps threads k
    → marked (held_by threads step.thread) step.thread step.event ≡ reading_of steps k
mark-held steps k step threads is held = rw (held step.thread) (sym (reading-step steps k step is))

pub book-next : (steps : List Step) (w k : ℕ) (step : Step) (threads : List Holdings) (before after : Book ℕ) → slice_get steps k ≡ Some step → AreHeldAt steps threads k
    → before ≡ book_at (reading_of steps) w k → after ≡ book_after before w k (marked (held_by threads step.thread) step.thread step.event)
    → after ≡ book_at (reading_of steps) w (k + 1)
book-next steps w k step threads before after is held known follows =
    follows
    ∙ ap (book_after before w k) (mark-held steps k step threads is held)
    ∙ ap (λ (b : Book ℕ). book_after b w k (reading_of steps k)) known
    ∙ sym (book-step (reading_of steps) w k)
    ∙ ap (book_at (reading_of steps) w) (sym (add-one k))

pub followed-start : (steps : List Step) (w : ℕ) (threads : List Holdings) → threads ≡ [] → HasFollowed steps w threads Untouched 0
followed-start steps w threads none = record { held = held-start steps threads none; book = sym (book-start (reading_of steps) w) }

pub followed-next : (steps : List Step) (w k : ℕ) (step : Step) (threads later : List Holdings) (before after : Book ℕ) → slice_get steps k ≡ Some step
    → HasFollowed steps w threads before k → after ≡ book_after before w k (marked (held_by threads step.thread) step.thread step.event)
    → ((t : ℕ) → held_by later t ≡ after_step (held_by threads t) t step) → HasFollowed steps w later after (k + 1)
followed-next steps w k step threads later before after is so_far follows held =
    record {
      held = held-next steps k step threads later is so_far.held held;
      book = book-next steps w k step threads before after is so_far.held so_far.book follows;
    }

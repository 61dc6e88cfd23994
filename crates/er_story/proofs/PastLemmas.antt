-- What a pass keeps of a word goes on by one step.
use Rattle.std.proofs.Common.{◌≡◌, ◌∙◌, ◌≤◌, ◌+◌, ◌==◌, ◌&&◌, ℕ, zero, suc, nat_lt, Bool, true, false, not, cond, List, [], ◌++◌, append-nil, slice_get, slice_index, Some, refl, sym, ap, add-one, arith}
use Rattle.std.proofs.lemmas.Bool.{le-leb, lt-leb}
use Rattle.er_event.specs.declared.addresses.PageRange.{PageRange}
use Rattle.er_event.specs.declared.steps.Event.{Event}
use Rattle.er_event.specs.declared.steps.Event.TheVariants.{Acquire, Release, Access, Reuse, IgnoreOn, IgnoreOff, Show, Level, Sync}
use Rattle.er_event.specs.declared.steps.Kind.{Kind}
use Rattle.er_event.specs.declared.steps.Step.{Step}
use Rattle.er_event.specs.declared.steps.WordState.{WordState}
use Rattle.er_held.specs.ThreadLocks.{held_by}
use Rattle.er_explain.specs.Following.{AreHeldAt}
use Rattle.er_model.proofs.AnswersLemmas.{reading-step, state-step}
use Rattle.er_model.proofs.Prefixes.{state-start}
use Rattle.er_model.proofs.Words.{era-kept, era-reused, era-below, state-reused, state-untouched}
use Rattle.er_model.specs.Answers.{reading_of, state_at}
use Rattle.er_model.specs.Holdings.{Holdings, holdings_at}
use Rattle.er_model.specs.Words.{reuses, counts, era, is_within}
use Rattle.er_story.specs.Inner.Past.{PastView, fresh, gone_to, accessed, past_after, past_at}
use Rattle.er_story.specs.Story.{counted_since, turns_since, turn_at, same_state}
use Rattle.er_trace.specs.Trace.{Recording}

-- there is nothing before the start
none-counted : (steps : List Step) (w start n : ℕ) → n ≤ start → counted_since steps w start n ≡ 0
unfolding counted_since
none-counted steps w start zero before = refl
none-counted steps w start (suc n) before = rw (none-counted steps w start n (omega arith), lt-leb start n (omega arith)) refl

none-turned : (r : Recording) (w start n : ℕ) → n ≤ start → turns_since r w start n ≡ []
unfolding turns_since
none-turned r w start zero before = refl
none-turned r w start (suc n) before = rw (none-turned r w start n (omega arith), lt-leb start n (omega arith)) refl

one-more : (a n : ℕ) (b : Bool) → a ≤ n → a + cond b 1 0 ≤ suc n
one-more a n true few = omega arith
one-more a n false few = omega arith

-- no more accesses than positions
few-counted : (steps : List Step) (w start n : ℕ) → counted_since steps w start n ≤ n
unfolding counted_since
few-counted steps w start zero = omega arith
few-counted steps w start (suc n) = one-more (counted_since steps w start n) n _ (few-counted steps w start n)

pub few-accesses : (r : Recording) (w n : ℕ) (p : PastView) → p ≡ past_at r w n → p.accesses ≤ n
unfolding past_at
few-accesses r w n p is = rw is (few-counted r.steps w (era (reading_of r.steps) w n) n)

-- one more position, at the start or after it
counted-more : (steps : List Step) (w start n : ℕ) → start ≤ n
    → counted_since steps w start (suc n) ≡ counted_since steps w start n + cond (counts (reading_of steps n) w) 1 0
unfolding counted_since
counted-more steps w start n below = rw (le-leb start n below) refl

turned-more : (r : Recording) (w start n : ℕ) → start ≤ n
    → turns_since r w start (suc n)
    ≡ turns_since r w start n
    ++ cond (counts (reading_of r.steps n) w && not (same_state (state_at r.steps w n) (state_at r.steps w (suc n))))
    (turn_at r w (counted_since r.steps w start n + 1) n (slice_get r.steps n)) []
unfolding turns_since
turned-more r w start n below = rw (le-leb start n below) refl

module _ (r : Recording) (w n : ℕ) where
  module _ (kept : reuses (reading_of r.steps n) w ≡ false) where
    counted-step : counted_since r.steps w (era (reading_of r.steps) w (suc n)) (suc n)
        ≡ counted_since r.steps w (era (reading_of r.steps) w n) n + cond (counts (reading_of r.steps n) w) 1 0
    counted-step =
        ap (λ (start : ℕ). counted_since r.steps w start (suc n)) (era-kept (reading_of r.steps) w n kept)
        ∙ counted-more r.steps w (era (reading_of r.steps) w n) n (era-below (reading_of r.steps) w n)

    turns-step : turns_since r w (era (reading_of r.steps) w (suc n)) (suc n)
        ≡ turns_since r w (era (reading_of r.steps) w n) n
        ++ cond (counts (reading_of r.steps n) w && not (same_state (state_at r.steps w n) (state_at r.steps w (suc n))))
        (turn_at r w (counted_since r.steps w (era (reading_of r.steps) w n) n + 1) n (slice_get r.steps n)) []
    turns-step =
        ap (λ (start : ℕ). turns_since r w start (suc n)) (era-kept (reading_of r.steps) w n kept)
        ∙ turned-more r w (era (reading_of r.steps) w n) n (era-below (reading_of r.steps) w n)

    -- a step that is no access of the word
    quiet-past : counts (reading_of r.steps n) w ≡ false → past_at r w (suc n) ≡ past_at r w n
    unfolding past_at
    quiet-past quiet =
        let same_count : counted_since r.steps w (era (reading_of r.steps) w (suc n)) (suc n) ≡ counted_since r.steps w (era (reading_of r.steps) w n) n =
        counted-step ∙ rw quiet (omega arith) in
        let same_turns : turns_since r w (era (reading_of r.steps) w (suc n)) (suc n) ≡ turns_since r w (era (reading_of r.steps) w n) n =
        turns-step ∙ rw quiet (append-nil _) in
        λ i. record { state = state-untouched (reading_of r.steps) w n kept quiet i; accesses = same_count i; turns = same_turns i }

    -- an access that counts
    counted-past : (t : ℕ) (kind : Kind) (word site : ℕ) → slice_get r.steps n ≡ Some (record { thread = t; event = Access kind word site })
        → counts (reading_of r.steps n) w ≡ true
        → past_at r w (suc n) ≡ gone_to (past_at r w n) (state_at r.steps w (suc n)) (holdings_at r.steps t n) (slice_index r.lines n) t kind site
    unfolding past_at
    counted-past t kind word site is counted =
        let more : counted_since r.steps w (era (reading_of r.steps) w (suc n)) (suc n) ≡ counted_since r.steps w (era (reading_of r.steps) w n) n + 1 =
        counted-step ∙ rw counted refl in
        let more_turns = turns-step ∙ rw (counted, is) refl in
        λ i. record { state = state_at r.steps w (suc n); accesses = more i; turns = more_turns i }

  -- a reuse
  reused-past : reuses (reading_of r.steps n) w ≡ true → past_at r w (suc n) ≡ fresh
  unfolding past_at
  reused-past reused =
      let none : counted_since r.steps w (era (reading_of r.steps) w (suc n)) (suc n) ≡ 0 =
      ap (λ (start : ℕ). counted_since r.steps w start (suc n)) (era-reused (reading_of r.steps) w n reused) ∙ none-counted r.steps w (suc n) (suc n) (omega arith) in
      let no_turns : turns_since r w (era (reading_of r.steps) w (suc n)) (suc n) ≡ [] =
      ap (λ (start : ℕ). turns_since r w start (suc n)) (era-reused (reading_of r.steps) w n reused) ∙ none-turned r w (suc n) (suc n) (omega arith) in
      λ i. record { state = state-reused (reading_of r.steps) w n reused i; accesses = none i; turns = no_turns i }

  access-step : (t : ℕ) (kind : Kind) (word site : ℕ) → slice_get r.steps n ≡ Some (record { thread = t; event = Access kind word site })
      → (ignoring mine : Bool) → nat_lt 0 (holdings_at r.steps t n).depth ≡ ignoring → (word == w) ≡ mine
      → past_at r w (suc n)
      ≡ cond ignoring (past_at r w n) (cond mine (accessed (past_at r w n) (holdings_at r.steps t n) (slice_index r.lines n) t kind site) (past_at r w n))
  unfolding reuses counts past_at
  access-step t kind word site is true mine ignores own =
      quiet-past (rw (reading-step r.steps n _ is, ignores) refl) (rw (reading-step r.steps n _ is, ignores) refl)
  access-step t kind word site is false false ignores own =
      quiet-past (rw (reading-step r.steps n _ is, ignores) refl) (rw (reading-step r.steps n _ is, ignores, own) refl)
  access-step t kind word site is false true ignores own =
      counted-past (rw (reading-step r.steps n _ is, ignores) refl) t kind word site is (rw (reading-step r.steps n _ is, ignores, own) refl)
      ∙ ap (λ (after : WordState). gone_to (past_at r w n) after (holdings_at r.steps t n) (slice_index r.lines n) t kind site)
      (state-step r.steps n _ w is ∙ rw (ignores, own) refl)

  reuse-step : (t : ℕ) (range : PageRange) → slice_get r.steps n ≡ Some (record { thread = t; event = Reuse range })
      → (mine : Bool) → is_within w range ≡ mine → past_at r w (suc n) ≡ cond mine fresh (past_at r w n)
  unfolding reuses counts
  reuse-step t range is true own = reused-past (rw (reading-step r.steps n _ is, own) refl)
  reuse-step t range is false own = quiet-past (rw (reading-step r.steps n _ is, own) refl) (rw (reading-step r.steps n _ is) refl)

  event-step : (t : ℕ) (e : Event) → slice_get r.steps n ≡ Some (record { thread = t; event = e })
      → past_at r w (suc n) ≡ past_after (past_at r w n) w (slice_index r.lines n) (holdings_at r.steps t n) t e
  unfolding reuses counts
  event-step t (Access kind word site) is = access-step t kind word site is (nat_lt 0 (holdings_at r.steps t n).depth) (word == w) refl refl
  event-step t (Reuse range) is = reuse-step t range is (is_within w range) refl
  event-step t (Acquire l m) is = quiet-past (rw (reading-step r.steps n _ is) refl) (rw (reading-step r.steps n _ is) refl)
  event-step t (Release l m) is = quiet-past (rw (reading-step r.steps n _ is) refl) (rw (reading-step r.steps n _ is) refl)
  event-step t IgnoreOn is = quiet-past (rw (reading-step r.steps n _ is) refl) (rw (reading-step r.steps n _ is) refl)
  event-step t IgnoreOff is = quiet-past (rw (reading-step r.steps n _ is) refl) (rw (reading-step r.steps n _ is) refl)
  event-step t (Show word) is = quiet-past (rw (reading-step r.steps n _ is) refl) (rw (reading-step r.steps n _ is) refl)
  event-step t (Level l) is = quiet-past (rw (reading-step r.steps n _ is) refl) (rw (reading-step r.steps n _ is) refl)
  event-step t (Sync sync) is = quiet-past (rw (reading-step r.steps n _ is) refl) (rw (reading-step r.steps n _ is) refl)

pub past-start : (r : Recording) (w : ℕ) (p : PastView) → p ≡ fresh → p ≡ past_at r w 0
unfolding past_at counted_since turns_since
past-start r w p is = is ∙ sym (λ i. record { state = state-start (reading_of r.steps) w i; accesses = 0; turns = [] })

pub past-next : (r : Recording) (w k : ℕ) (step : Step) (threads : List Holdings) (before after : PastView) → slice_get r.steps k ≡ Some step → AreHeldAt r.steps threads k
    → before ≡ past_at r w k → after ≡ past_after before w (slice_index r.lines k) (held_by threads step.thread) step.thread step.event
    → after ≡ past_at r w (k + 1)
past-next r w k step threads before after is held known follows =
    follows
    ∙ ap (λ (h : Holdings). past_after before w (slice_index r.lines k) h step.thread step.event) (held step.thread)
    ∙ ap (λ (p : PastView). past_after p w (slice_index r.lines k) (holdings_at r.steps step.thread k) step.thread step.event) known
    ∙ sym (event-step r w k step.thread step.event is)
    ∙ ap (past_at r w) (sym (add-one k))

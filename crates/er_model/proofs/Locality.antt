-- What a thread holds depends on its own events alone, and a word's state on the marks that touch it alone.
use Rattle.std.proofs.Common.{◌≡◌, ℕ, zero, suc, ◌==◌, Bool, true, false, cond, List, [], ◌∷◌, ◌++◌, append-nil, slice_get, Option, Some, None, refl, ap, sym, ◌∙◌}
use Rattle.std.proofs.lemmas.Bool.{or_parts, eq-eqb}
use Rattle.er_event.specs.declared.steps.Event.{Event}
use Rattle.er_event.specs.declared.steps.Event.TheVariants.{Acquire, Release, Access, Reuse, IgnoreOn, IgnoreOff, Show, Level, Sync}
use Rattle.er_event.specs.declared.steps.Step.{Step}
use Rattle.er_event.specs.declared.steps.WordState.{WordState}
use Rattle.er_event.specs.declared.steps.WordState.TheVariants.{Virgin}
use Rattle.er_model.specs.Words.{Mark, Counted, Reused, Shown, Nothing, Reading, reuses, counts, is_within, state}
use Rattle.er_model.specs.Table.{moved}
use Rattle.er_event.specs.Lockset.{locks_from}
use Rattle.er_model.specs.Threads.{accepted, acquired_locks, acquired_to_write, level_from, level_of, held, write_held, depth, named}
use Rattle.er_model.specs.Holdings.{Holdings, holdings, holdings_at, changed_unless, refused_by}
use Rattle.er_model.specs.Answers.{reading_of, state_at, answer, answer_unless}
use Rattle.er_model.specs.Following.{replied}
use Rattle.er_model.specs.Locality.{event_by, events_of, touches, marks_on, is_about}
use Rattle.er_model.proofs.Threads.{holdings-step, accepted-past_end}
use Rattle.er_model.proofs.AnswersLemmas.{state-moved, answer-step}
use Rattle.er_model.proofs.Prefixes.{state-start}

-- a word's state after a list of marks
replay : ℕ → WordState → List Mark → WordState
replay w before [] = before
replay w before (mark ∷ marks) = replay w (moved before w mark) marks

replay-append : (w : ℕ) (before : WordState) (xs ys : List Mark) → replay w before (xs ++ ys) ≡ replay w (replay w before xs) ys
unfolding replay
replay-append w before [] ys = refl
replay-append w before (x ∷ xs) ys = replay-append w (moved before w x) xs ys

-- a mark that doesn't touch the word leaves its state
moved-apart : (before : WordState) (w : ℕ) (mark : Mark) → touches mark w ≡ false → moved before w mark ≡ before
unfolding reuses counts
moved-apart before w (Counted t kind word cover) apart = rw (or_parts false (word == w) apart).1 refl
moved-apart before w (Reused range) apart = rw (or_parts (is_within w range) false apart).0 refl
moved-apart before w (Shown word) apart = refl
moved-apart before w Nothing apart = refl

module _ (r : Reading) (w : ℕ) where
  replay_by : (n : ℕ) (b : Bool) → touches (r n) w ≡ b → state r w n ≡ replay w Virgin (marks_on r w n) →
      state r w (suc n) ≡ replay w Virgin (marks_on r w n ++ cond b (r n ∷ []) [])
  unfolding replay
  replay_by n true touched before =
      state-moved r w n
      ∙ rw (replay-append w Virgin (marks_on r w n) (r n ∷ []), before) refl
  replay_by n false apart before =
      state-moved r w n
      ∙ rw (append-nil (marks_on r w n), moved-apart (state r w n) w (r n) apart) before

  state-replay : (n : ℕ) → state r w n ≡ replay w Virgin (marks_on r w n)
  unfolding marks_on replay
  state-replay zero = state-start r w
  state-replay (suc n) = replay_by n (touches (r n) w) refl (state-replay n)

-- a word's state is the same wherever the marks that touch it are
pub state-local : (r s : Reading) (w m n : ℕ) → marks_on r w m ≡ marks_on s w n → state r w m ≡ state s w n
state-local r s w m n same = state-replay r w m ∙ rw same (sym (state-replay s w n))

-- a thread's holdings after a list of its events
followed : Holdings → List Event → Holdings
followed h [] = h
followed h (e ∷ es) = followed (changed_unless (refused_by h e) h e) es

followed-append : (h : Holdings) (xs ys : List Event) → followed h (xs ++ ys) ≡ followed (followed h xs) ys
unfolding followed
followed-append h [] ys = refl
followed-append h (x ∷ xs) ys = followed-append (changed_unless (refused_by h x) h x) xs ys

empty_hands : Holdings
empty_hands = holdings [] 0

start_is : (steps : List Step) (t : ℕ) → holdings_at steps t 0 ≡ empty_hands
unfolding accepted empty_hands acquired_locks acquired_to_write locks_from level_from level_of held write_held depth named holdings
start_is steps t = refl

module _ (steps : List Step) (t : ℕ) where
  followed_own : (n : ℕ) (s : Step) (b : Bool) → slice_get steps n ≡ Some s → (s.thread == t) ≡ b → holdings_at steps t n ≡ followed empty_hands (events_of steps t n) →
      holdings_at steps t (suc n) ≡ followed empty_hands (events_of steps t n ++ cond b (s.event ∷ []) [])
  unfolding followed
  followed_own n s true is own before =
      holdings-step steps n s t is
      ∙ rw (followed-append empty_hands (events_of steps t n) (s.event ∷ []), own, before) refl
  followed_own n s false is other before =
      holdings-step steps n s t is
      ∙ rw (append-nil (events_of steps t n), other) before

  followed_by : (n : ℕ) (o : Option Step) → slice_get steps n ≡ o → holdings_at steps t n ≡ followed empty_hands (events_of steps t n) →
      holdings_at steps t (suc n) ≡ followed empty_hands (events_of steps t n ++ event_by t o)
  followed_by n None is before = rw (accepted-past_end steps n is, append-nil (events_of steps t n)) before
  followed_by n (Some s) is before = followed_own n s (s.thread == t) is refl before

  holdings-followed : (n : ℕ) → holdings_at steps t n ≡ followed empty_hands (events_of steps t n)
  unfolding events_of followed
  holdings-followed zero = start_is steps t
  holdings-followed (suc n) = followed_by n (slice_get steps n) refl (holdings-followed n)

-- a thread's holdings are the same wherever its own events are
pub holdings-local : (steps others : List Step) (t m n : ℕ) → events_of steps t m ≡ events_of others t n → holdings_at steps t m ≡ holdings_at others t n
holdings-local steps others t m n same = holdings-followed steps t m ∙ rw same (sym (holdings-followed others t n))

-- a reply asks for the state of the event's word alone
replied-about : (h : Holdings) (f g : ℕ → WordState) (t : ℕ) (e : Event) → ((w : ℕ) → is_about e w ≡ true → f w ≡ g w) → replied h f t e ≡ replied h g t e
replied-about h f g t (Access kind w site) same = rw (same w (eq-eqb w w refl)) refl
replied-about h f g t (Show w) same = rw (same w (eq-eqb w w refl)) refl
replied-about h f g t (Acquire l m) same = refl
replied-about h f g t (Release l m) same = refl
replied-about h f g t (Reuse range) same = refl
replied-about h f g t IgnoreOn same = refl
replied-about h f g t IgnoreOff same = refl
replied-about h f g t (Level n) same = refl
replied-about h f g t (Sync sync) same = refl

-- an answer depends on the thread's own events before it, and on the marks before it that touch its word
pub answer-local : (steps others : List Step) (j k : ℕ) (s : Step) → slice_get steps j ≡ Some s → slice_get others k ≡ Some s →
    events_of steps s.thread j ≡ events_of others s.thread k →
    ((w : ℕ) → is_about s.event w ≡ true → marks_on (reading_of steps) w j ≡ marks_on (reading_of others) w k) →
    answer steps j ≡ answer others k
answer-local steps others j k s here there events marks =
    answer-step steps j s here
    ∙ rw (holdings-local steps others s.thread j k events)
    (ap (answer_unless (refused_by (holdings_at others s.thread k) s.event))
    (replied-about (holdings_at others s.thread k) (λ w. state_at steps w j) (λ w. state_at others w k) s.thread s.event
    (λ w about. state-local (reading_of steps) (reading_of others) w j k (marks w about))))
    ∙ sym (answer-step others k s there)

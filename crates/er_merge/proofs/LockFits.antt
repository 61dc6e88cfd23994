-- The locks that threads hold, that cover accesses and that states tell of have numbers of 64 bits, if those that steps take have.
use Rattle.std.proofs.Common.{◌≡◌, ℕ, zero, suc, ◌+◌, ◌<◌, ◌≤◌, ◌^◌, ◌==◌, Bool, true, false, cond, nat_lt, List, [], ◌∷◌, slice_get, Option, Some, None, refl, arith}
use Rattle.std.specs.List.{All}
use Rattle.std.proofs.lemmas.List.Elements.{All-append, All-cons, All-filter, All-head, All-nil, All-tail}
use Rattle.er_event.specs.Lockset.{level_lock, level_locks, locks_from, with_lock}
use Rattle.er_event.specs.declared.refusals.Refusal.{Refusal}
use Rattle.er_event.specs.declared.steps.Event.{Event}
use Rattle.er_event.specs.declared.steps.Event.TheVariants.{Acquire, Release, Access, Reuse, IgnoreOn, IgnoreOff, Show, Level, Sync}
use Rattle.er_event.specs.declared.steps.Kind.TheVariants.{Read as reading, Write as writing}
use Rattle.er_event.specs.declared.steps.Step.{Step}
use Rattle.er_event.specs.declared.steps.WordState.TheVariants.{Shared, SharedModified}
use Rattle.er_model.specs.Answers.{mark, mark_of, reading_of, state_at}
use Rattle.er_model.specs.Threads.{accepted, accepted_of, acquired, acquired_any, acquired_locks, acquired_to_write, held, is_ignoring, kept_unless, level_after, level_from, level_of, lock_named, named, refusal, write_held}
use Rattle.er_event.specs.declared.steps.Mode.TheVariants as mode
use Rattle.er_model.specs.Words.{Counted, Nothing, Reading, candidates, candidates_from, cover_of, covers_from, first, join, state, state_from, written}
use Rattle.er_merge.specs.Texts.{Fits, StateFits}
use Rattle.er_merge.proofs.TraceSteps.{StepFits}

abbrev pub IsGood : Step → Type 0
IsGood step = StepFits step.event

-- the locks that steps take
put_fits : (l : ℕ) (locks : List ℕ) → Fits l → All Fits locks → All Fits (with_lock l locks)
unfolding with_lock
put_fits l [] new others = All-cons Fits l [] new others
put_fits l (x ∷ xs) new others =
    let one : Fits x = All-head Fits x xs others in
    let rest : All Fits xs = All-tail Fits x xs others in
    elim (nat_lt l x) as (λ b. All Fits (cond b (l ∷ x ∷ xs) (cond (l == x) (x ∷ xs) (x ∷ with_lock l xs)))) [
      | true ↦ All-cons Fits l (x ∷ xs) new others
      | false ↦ elim (l == x) as (λ b. All Fits (cond b (x ∷ xs) (x ∷ with_lock l xs))) [
        | true ↦ others
        | false ↦ All-cons Fits x (with_lock l xs) one (put_fits l xs new rest)
      ]
    ]

taken_fits : (e : Event) (locks : List ℕ) → StepFits e → All Fits locks → All Fits (lock_named e locks)
taken_fits (Acquire l m) locks new others = put_fits l locks new others
taken_fits (Release l m) locks new others = others
taken_fits (Access kind w site) locks new others = others
taken_fits (Reuse range) locks new others = others
taken_fits IgnoreOn locks new others = others
taken_fits IgnoreOff locks new others = others
taken_fits (Show w) locks new others = others
taken_fits (Level n) locks new others = others
taken_fits (Sync sync) locks new others = others

named_fits : (past : List Step) → All IsGood past → All Fits (named past)
unfolding named
named_fits [] good = All-nil Fits
named_fits (step ∷ past) good = taken_fits step.event (named past) (All-head IsGood step past good) (named_fits past (All-tail IsGood step past good))

-- the locks of levels
after_fits : (n : ℕ) (e : Event) → n ≤ 31 → StepFits e → level_after n e ≤ 31
after_fits n (Acquire l m) low new = low
after_fits n (Release l m) low new = low
after_fits n (Access kind w site) low new = low
after_fits n (Reuse range) low new = low
after_fits n IgnoreOn low new = low
after_fits n IgnoreOff low new = low
after_fits n (Show w) low new = low
after_fits n (Level m) low new = new
after_fits n (Sync sync) low new = low

level_fits : (n : ℕ) (past : List Step) (t : ℕ) → n ≤ 31 → All IsGood past → level_from n past t ≤ 31
unfolding level_from
level_fits n [] t low good = low
level_fits n (step ∷ past) t low good =
    let new = after_fits n step.event low (All-head IsGood step past good) in
    let next : cond (step.thread == t) (level_after n step.event) n ≤ 31 = elim (step.thread == t) as (λ b. cond b (level_after n step.event) n ≤ 31) [ true ↦ new | false ↦ low ] in
    level_fits (cond (step.thread == t) (level_after n step.event) n) past t next (All-tail IsGood step past good)

from_fits : (l n : ℕ) → l + n < 2 ^ 64 → All Fits (locks_from l n)
unfolding locks_from
from_fits l zero small = All-nil Fits
from_fits l (suc n) small = All-cons Fits l (locks_from (suc l) n) (omega (arith, small)) (from_fits (suc l) n (omega (arith, small)))

levels_fit : (n : ℕ) → n ≤ 31 → All Fits (level_locks n)
levels_fit n low = from_fits (level_lock 1) n (omega (arith, low))

-- what a thread holds
pub held_fits : (past : List Step) (t : ℕ) → All IsGood past → All Fits (held past t)
unfolding held acquired_locks level_of
held_fits past t good =
    All-append Fits (acquired_locks past t) (level_locks (level_of past t)) (All-filter (acquired_any past t) Fits (named past) (named_fits past good))
    (levels_fit (level_of past t) (level_fits 0 past t (omega arith) good))

written_fits : (past : List Step) (t : ℕ) → All IsGood past → All Fits (write_held past t)
unfolding write_held acquired_to_write level_of
written_fits past t good =
    All-append Fits (acquired_to_write past t) (level_locks (level_of past t)) (All-filter (λ l. acquired past t l mode.Write) Fits (named past) (named_fits past good))
    (levels_fit (level_of past t) (level_fits 0 past t (omega arith) good))

-- which locks cover an access
mark_fits : (past : List Step) (t : ℕ) (e : Event) → All IsGood past → All Fits (cover_of (mark past t e))
unfolding cover_of mark
mark_fits past t (Access reading w site) good =
    elim (is_ignoring past t) as (λ b. All Fits (cover_of (cond b Nothing (Counted t reading w (held past t))))) [ true ↦ All-nil Fits | false ↦ held_fits past t good ]
mark_fits past t (Access writing w site) good =
    elim (is_ignoring past t) as (λ b. All Fits (cover_of (cond b Nothing (Counted t writing w (write_held past t))))) [ true ↦ All-nil Fits | false ↦ written_fits past t good ]
mark_fits past t e good = All-nil Fits

marked_fits : (past : List Step) (o : Option Step) → All IsGood past → All Fits (cover_of (mark_of past o))
unfolding cover_of
marked_fits past None good = All-nil Fits
marked_fits past (Some step) good = mark_fits past step.thread step.event good

kept_fits : (o : Option Refusal) (step : Step) → IsGood step → All IsGood (kept_unless o step)
kept_fits None step good = All-cons IsGood step [] good (All-nil IsGood)
kept_fits (Some why) step good = All-nil IsGood

one_fits : (past : List Step) (o : Option Step) → ((s : Step) → o ≡ Some s → IsGood s) → All IsGood (accepted_of past o)
one_fits past None good = All-nil IsGood
one_fits past (Some step) good = kept_fits (refusal past step.thread step.event) step (good step refl)

-- a word's state, by what covers its accesses
candidates_fit : (r : Reading) (w n : ℕ) (o : Option ℕ) → ((j : ℕ) → All Fits (cover_of (r j))) → All Fits (candidates_from r w n o)
candidates_fit r w n None covers = All-nil Fits
candidates_fit r w n (Some j) covers = All-filter (covers_from r w n j) Fits (cover_of (r j)) (covers j)

state_by : (r : Reading) (w n : ℕ) (f j : Option ℕ) → All Fits (candidates r w n) → StateFits (state_from r w n f j)
state_by r w n None j fit = tt
state_by r w n (Some f) None fit = tt
state_by r w n (Some f) (Some j) fit = both (written r w n)
  where
    both : (b : Bool) → StateFits (cond b (SharedModified (candidates r w n)) (Shared (candidates r w n)))
    both true = fit
    both false = fit

module _ (steps : List Step) (good : (k : ℕ) (s : Step) → slice_get steps k ≡ Some s → IsGood s) where
  pub accepted_fits : (n : ℕ) → All IsGood (accepted steps n)
  unfolding accepted
  accepted_fits zero = All-nil IsGood
  accepted_fits (suc n) = All-append IsGood (accepted steps n) (accepted_of (accepted steps n) (slice_get steps n)) (accepted_fits n) (one_fits (accepted steps n) (slice_get steps n) (good n))

  pub cover_fits : (j : ℕ) → All Fits (cover_of (reading_of steps j))
  unfolding reading_of
  cover_fits j = marked_fits (accepted steps j) (slice_get steps j) (accepted_fits j)

  pub state_fits : (w n : ℕ) → StateFits (state_at steps w n)
  unfolding state candidates
  state_fits w n =
      let r : Reading = reading_of steps in
      state_by r w n (first r w n) (join r w n) (candidates_fit r w n (join r w n) cover_fits)

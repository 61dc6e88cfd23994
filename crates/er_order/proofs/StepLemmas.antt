-- What a list of steps is to order and to words, step by step.
use Rattle.std.proofs.Common.{◌≡◌, ℕ, zero, suc, ◌<◌, ◌≤◌, max, Bool, true, false, cond, nat_le, List, [], ◌∷◌, ◌++◌, length, slice_get, Option, Some, None, refl, ap, ◌∙◌, arith}
use Rattle.std.proofs.Math.Path.{fun_ext}
use Rattle.er_event.proofs.Lists.{get_front, get_last}
use Rattle.er_event.specs.declared.steps.Event.{Event}
use Rattle.er_event.specs.declared.steps.Event.TheVariants.{Acquire, Release, Access, Reuse, IgnoreOn, IgnoreOff, Show, Level, Sync}
use Rattle.er_event.specs.declared.steps.Kind.{Kind}
use Rattle.er_event.specs.declared.steps.Kind.TheVariants.{Read as reading, Write as writing}
use Rattle.er_event.specs.declared.steps.Step.{Step}
use Rattle.er_model.specs.Words.{Counted, Nothing, Reading, counts, thread_of}
use Rattle.er_model.specs.Threads.{refusal, accepted, is_ignoring, held, write_held}
use Rattle.er_model.specs.Answers.{mark, reading_of}
use Rattle.er_model.proofs.Threads.{refusal_at}
use Rattle.er_model.proofs.Prefixes.{accepted-front, holdings-front}
use Rattle.er_model.specs.Holdings.{holdings_at}
use Rattle.er_order.specs.Order.{Acts, Local, act_unless, act_after, acts_of, happens_before}
use Rattle.er_order.specs.Clocks.{Keeper, OfThread, seen, clocks_after, clocks_at, own_count}
use Rattle.er_order.specs.Following.{act_by}
use Rattle.er_order.proofs.Clocks.{clocks-decide}

-- the counted positions of the reading are steps that order no other thread
abbrev pub Agree : Acts → Reading → Type 0
Agree acts r = (k w : ℕ) → counts (r k) w ≡ true → acts k ≡ Some (record { thread = thread_of (r k); sync = Local })

-- of two counted positions, the clock of the later one decides
pub decided : (acts : Acts) (r : Reading) (agree : Agree acts r) (w k v t : ℕ) → v < k → counts (r v) w ≡ true → acts k ≡ Some (record { thread = t; sync = Local }) →
    happens_before acts v k ≡ nat_le (own_count acts v (thread_of (r v))) (clocks_at acts k (OfThread t) (thread_of (r v)))
unfolding seen
decided acts r agree w k v t below counted is =
    let all : max (clocks_at acts k (OfThread t) (thread_of (r v))) 0 ≡ clocks_at acts k (OfThread t) (thread_of (r v)) = omega arith in
    clocks-decide acts v (record { thread = thread_of (r v); sync = Local }) (agree v w counted) k (record { thread = t; sync = Local }) below is
    ∙ rw all refl

-- an access that counts is never refused
agree_access : (past : List Step) (w t word : ℕ) (kind : Kind) (cover : List ℕ) (b : Bool) → is_ignoring past t ≡ b →
    counts (cond b Nothing (Counted t kind word cover)) w ≡ true → thread_of (cond b Nothing (Counted t kind word cover)) ≡ t
unfolding counts thread_of
agree_access past w t word kind cover true ignores counted = cc
agree_access past w t word kind cover false heeds counted = refl

agree_event : (past : List Step) (w t : ℕ) (e : Event) → counts (mark past t e) w ≡ true →
    act_unless (refusal past t e) (record { thread = t; event = e }) ≡ Some (record { thread = thread_of (mark past t e); sync = Local })
unfolding mark refusal counts
agree_event past w t (Access kind word site) counted =
    let same = agree_access past w t word kind (cover_here kind) (is_ignoring past t) refl counted in
    rw same refl
  where
    cover_here : Kind → List ℕ
    cover_here reading = held past t
    cover_here writing = write_held past t
agree_event past w t (Acquire l m) counted = cc
agree_event past w t (Release l m) counted = cc
agree_event past w t (Reuse range) counted = cc
agree_event past w t IgnoreOn counted = cc
agree_event past w t IgnoreOff counted = cc
agree_event past w t (Show word) counted = cc
agree_event past w t (Level n) counted = cc
agree_event past w t (Sync sync) counted = cc

agree_at : (steps : List Step) (k w : ℕ) (o : Option Step) → slice_get steps k ≡ o → counts (reading_of steps k) w ≡ true →
    acts_of steps k ≡ Some (record { thread = thread_of (reading_of steps k); sync = Local })
unfolding reading_of acts_of counts
agree_at steps k w None is counted = let never : false ≡ true = rw is at counted in cc
agree_at steps k w (Some s) is counted =
    let counted' : counts (mark (accepted steps k) s.thread s.event) w ≡ true = rw is at counted in
    rw is (agree_event (accepted steps k) w s.thread s.event counted')

pub agree-steps : (steps : List Step) → Agree (acts_of steps) (reading_of steps)
agree-steps steps k w counted = agree_at steps k w (slice_get steps k) refl counted

module _ (steps : List Step) (k : ℕ) (s : Step) (is : slice_get steps k ≡ Some s) where
  pub act-step : acts_of steps k ≡ act_by (holdings_at steps s.thread k) s
  unfolding acts_of
  act-step = rw (is, refusal_at steps k s.thread s.event) refl

  pub clocks-step : (c : Keeper) (u : ℕ) → clocks_at (acts_of steps) (suc k) c u ≡ clocks_after (clocks_at (acts_of steps) k) (act_by (holdings_at steps s.thread k) s) c u
  unfolding clocks_at
  clocks-step c u = rw act-step refl

pub some-at : {A : Type 0} (xs : List A) (k : ℕ) → k < length xs → (x : A) × (slice_get xs k ≡ Some x)
some-at [] k below = absurd (omega arith)
some-at (x ∷ xs) zero below = (x, refl)
some-at (x ∷ xs) (suc k) below = some-at xs k (omega arith)

-- later steps change nothing at an earlier point
module _ (steps more : List Step) where
  pub held-front : (t n : ℕ) → n ≤ length steps → holdings_at (steps ++ more) t n ≡ holdings_at steps t n
  held-front t n below = holdings-front steps more t n below

  past-front : (k : ℕ) → k ≤ length steps → accepted (steps ++ more) k ≡ accepted steps k
  past-front k below = accepted-front steps more k below

  after-front : (k : ℕ) (o : Option Step) → k ≤ length steps → act_after (steps ++ more) k o ≡ act_after steps k o
  after-front k None below = refl
  after-front k (Some s) below = ap (λ past. act_unless (refusal past s.thread s.event) s) (past-front k below)

  pub acts-front : (k : ℕ) → k < length steps → acts_of (steps ++ more) k ≡ acts_of steps k
  unfolding acts_of
  acts-front k below = ap (act_after (steps ++ more) k) (get_front steps more k below) ∙ after-front k (slice_get steps k) (omega arith)

  pub clocks-front : (n : ℕ) → n ≤ length steps → clocks_at (acts_of (steps ++ more)) n ≡ clocks_at (acts_of steps) n
  unfolding clocks_at
  clocks-front zero below = refl
  clocks-front (suc n) below =
      fun_ext (λ c. fun_ext (λ u. rw (clocks-front n (omega arith), acts-front n (omega arith)) refl))

pub clocks-grow : (steps : List Step) (s : Step) (c : Keeper) (u : ℕ) → clocks_at (acts_of (steps ++ s ∷ [])) (suc (length steps)) c u ≡
    clocks_after (clocks_at (acts_of steps) (length steps)) (act_by (holdings_at steps s.thread (length steps)) s) c u
clocks-grow steps s c u =
    clocks-step (steps ++ s ∷ []) (length steps) s (get_last steps s) c u
    ∙ rw (clocks-front steps (s ∷ []) (length steps) (omega arith), held-front steps (s ∷ []) s.thread (length steps) (omega arith)) refl

-- What an access that the check has come to is to the words, by whether its thread has a bracket open.
use Rattle.std.proofs.Common.{◌≡◌, ℕ, cond, nat_lt, not, suc, Bool, true, false, List, [], slice_get, Some, refl, sym, ◌∙◌}
use Rattle.std.proofs.lemmas.Bool.{eq-eqb}
use Rattle.er_event.specs.declared.steps.Event.{Event}
use Rattle.er_event.specs.declared.steps.Event.TheVariants.{Access}
use Rattle.er_event.specs.declared.steps.Kind.{Kind}
use Rattle.er_event.specs.declared.steps.Step.{Step}
use Rattle.er_held.specs.ThreadLocks.{held_by}
use Rattle.er_model.specs.Words.{Mark, Counted, Nothing, counts, thread_of, is_writing, writes, cover_of}
use Rattle.er_model.specs.Threads.{accepted}
use Rattle.er_model.specs.Holdings.{Holdings, after_step, holdings_at}
use Rattle.er_model.specs.Answers.{reading_of}
use Rattle.er_model.proofs.AnswersLemmas.{reading-step}
use Rattle.er_model.proofs.Prefixes.{holdings-empty}
use Rattle.er_model.proofs.Threads.{holdings-step}
use Rattle.er_model.specs.Following.{locks_for, marked}
use Rattle.er_check.specs.Claims.{accessed}

-- by the bracket, for an access of the word
module _ (t : ℕ) (kind : Kind) (w : ℕ) (cover : List ℕ) where
  abbrev at : Bool → Mark
  at ignoring = cond ignoring Nothing (Counted t kind w cover)

  counts-by : (b : Bool) → not b ≡ counts (at b) w
  unfolding counts
  counts-by true = refl
  counts-by false = rw (eq-eqb w w refl) refl

  thread-by : (b : Bool) → counts (at b) w ≡ true → thread_of (at b) ≡ t
  unfolding counts thread_of
  thread-by true counted = cc
  thread-by false counted = refl

  writes-by : (b : Bool) → counts (at b) w ≡ true → writes (at b) ≡ is_writing kind
  unfolding counts writes
  writes-by true counted = cc
  writes-by false counted = refl

  cover-by : (b : Bool) → counts (at b) w ≡ true → cover_of (at b) ≡ cover
  unfolding counts cover_of
  cover-by true counted = cc
  cover-by false counted = refl

module _ (h : Holdings) (t : ℕ) (kind : Kind) (w : ℕ) where
  abbrev ignoring : Bool
  ignoring = nat_lt 0 h.depth

  abbrev cover : List ℕ
  cover = locks_for h kind

  pub accessed-counts : not ignoring ≡ counts (accessed h t kind w) w
  unfolding accessed
  accessed-counts = counts-by t kind w cover ignoring

  pub accessed-thread : counts (accessed h t kind w) w ≡ true → thread_of (accessed h t kind w) ≡ t
  unfolding accessed
  accessed-thread counted = thread-by t kind w cover ignoring counted

  pub accessed-writes : counts (accessed h t kind w) w ≡ true → writes (accessed h t kind w) ≡ is_writing kind
  unfolding accessed
  accessed-writes counted = writes-by t kind w cover ignoring counted

  pub accessed-cover : counts (accessed h t kind w) w ≡ true → cover_of (accessed h t kind w) ≡ cover
  unfolding accessed
  accessed-cover counted = cover-by t kind w cover ignoring counted

-- a step that accesses the word
pub accessed-marked : (h : Holdings) (t : ℕ) (kind : Kind) (w word site : ℕ) (e : Event) → e ≡ Access kind word site → word ≡ w →
    marked h t e ≡ accessed h t kind w
unfolding accessed
accessed-marked h t kind w word site e is same = rw (is, same) refl

-- what the threads hold before each step
pub held-start : (steps : List Step) (t : ℕ) → held_by [] t ≡ holdings_at steps t 0
unfolding accepted
held-start steps t = sym (holdings-empty t)

module _ (threads : List Holdings) (steps : List Step) (i : ℕ) (held : (t : ℕ) → held_by threads t ≡ holdings_at steps t i) (s : Step) (is : slice_get steps i ≡ Some s) where
  pub held-next : (after : List Holdings) → ((t : ℕ) → held_by after t ≡ after_step (held_by threads t) t s) → (n t : ℕ) → n ≡ suc i → held_by after t ≡ holdings_at steps t n
  held-next after follows n t next = follows t ∙ (rw (held t, next) (sym (holdings-step steps i s t is)))

  pub step-marked : reading_of steps i ≡ marked (held_by threads s.thread) s.thread s.event
  step-marked = reading-step steps i s is ∙ rw (held s.thread) refl

-- What follows a list of steps follows the longer list after one more step.
use Rattle.std.proofs.Common.{◌≡◌, ℕ, Bool, true, false, cond, nat_lt, List}
use Rattle.er_event.specs.declared.steps.Event.{Event}
use Rattle.er_event.specs.declared.steps.Event.TheVariants.{Acquire, Release, Access, Reuse, IgnoreOn, IgnoreOff, Show, Level, Sync}
use Rattle.er_event.specs.declared.steps.Kind.{Kind}
use Rattle.er_model.specs.Words.{Counted, Nothing}
use Rattle.er_model.specs.Holdings.{Holdings}
use Rattle.er_model.specs.Following.{locks_for, marked}

-- a counted access is of the step's thread
pub own-thread : (h : Holdings) (t : ℕ) (e : Event) (u : ℕ) (kind : Kind) (word : ℕ) (cover : List ℕ) → marked h t e ≡ Counted u kind word cover → u ≡ t
own-thread h t (Access kind w site) u kind2 word cover is = by (nat_lt 0 h.depth) is
  where
    by : (b : Bool) → cond b Nothing (Counted t kind w (locks_for h kind)) ≡ Counted u kind2 word cover → u ≡ t
    by true is = cc
    by false is = cc
own-thread h t (Acquire l m) u kind word cover is = cc
own-thread h t (Release l m) u kind word cover is = cc
own-thread h t (Reuse range) u kind word cover is = cc
own-thread h t IgnoreOn u kind word cover is = cc
own-thread h t IgnoreOff u kind word cover is = cc
own-thread h t (Show v) u kind word cover is = cc
own-thread h t (Level n) u kind word cover is = cc
own-thread h t (Sync sync) u kind word cover is = cc

-- One thread's holdings among all, as the map of threads is read and written.
use Rattle.std.proofs.Common.{◌≡◌, ◌∙◌, ℕ, Bool, true, false, ◌&&◌, cond, List, Some, Result, Ok, Err, IfErr, IsErrAnd, IsOk, IsOkUnless, IsTrue, refl, ap, eqb}
use Rattle.std.proofs.lemmas.Bool.{false≢true}
use Rattle.std.specs.Map.{lookup}
use Rattle.er_event.specs.declared.refusals.Refusal.{Refusal}
use Rattle.er_event.specs.declared.refusals.Refusal.TheVariants.{OutOfMemory}
use Rattle.er_event.specs.declared.steps.Event.{Event}
use Rattle.er_event.specs.declared.steps.Event.TheVariants.{Acquire, Release, Access, Reuse, IgnoreOn, IgnoreOff, Show, Level, Sync}
use Rattle.er_held.specs.Held.{takes_memory}
use Rattle.er_held.specs.ThreadLocks.{changes_holdings}
use Rattle.er_held.specs.ThreadLocks.{holding_among}
use Rattle.er_held.proofs.MapLemmas.{holding_written}
use Rattle.er_model.specs.Holdings.{Holdings}
use Rattle.er_replay.specs.Wants.{wants_memory, is_no_memory}
use borrow.Author.Tests.{eqb-true}

-- an error that a `?` hands on
pub err_from : {T E : Type 0} (r : Result T E) (G P : E → Type 0) → IsErrAnd r G → ((e : E) → G e → P e) → IfErr r P
err_from (Ok v) G P is f = tt
err_from (Err e) G P is f = f e is

-- what is written is what was there
pub holding_rewritten : (threads more : List (ℕ × Holdings)) (thread : ℕ) (h : Holdings) → h ≡ holding_among threads thread →
    ((q : ℕ) → lookup (eqb q) more ≡ cond (eqb thread q) (Some h) (lookup (eqb q) threads)) →
    (t : ℕ) → holding_among more t ≡ holding_among threads t
holding_rewritten threads more thread h is written t = holding_written threads more thread h written t ∙ by (eqb thread t) refl
  where
    by : (b : Bool) → eqb thread t ≡ b → cond b h (holding_among threads t) ≡ holding_among threads t
    by true e = is ∙ ap (λ u. holding_among threads u) (eqb-true thread t e)
    by false e = refl

-- the only want that an accepted change may have is one of memory, and only where it may take some
pub no_memory : {A : Type 0} (event : Event) (r : Result A Refusal) → IsTrue (changes_holdings event) → IsOkUnless r OutOfMemory →
    (takes_memory event ≡ false → IsOk r) → IfErr r (λ why. IsTrue (wants_memory event && is_no_memory why))
no_memory event (Ok v) changes only free = tt
no_memory (Acquire lock mode) (Err why) changes only free = ap is_no_memory only
no_memory (Release lock mode) (Err why) changes only free = absurd (false≢true (free refl))
no_memory IgnoreOn (Err why) changes only free = ap is_no_memory only
no_memory IgnoreOff (Err why) changes only free = absurd (false≢true (free refl))
no_memory (Level n) (Err why) changes only free = ap is_no_memory only
no_memory (Access kind word site) (Err why) changes only free = absurd (false≢true changes)
no_memory (Reuse range) (Err why) changes only free = absurd (false≢true changes)
no_memory (Show word) (Err why) changes only free = absurd (false≢true changes)
no_memory (Sync sync) (Err why) changes only free = absurd (false≢true changes)

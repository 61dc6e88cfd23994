-- A step that found no room isn't refused by the definitions, and may want that room by what they say of the list.
use Rattle.std.proofs.Common.{◌≡◌, ℕ, Bool, true, false, cond, List, Option, Some, None, Result, Err, IfErr, IsTrue, refl, ap, sym, ◌∙◌}
use Rattle.std.proofs.Math.Path.{fun_ext}
use Rattle.er_event.specs.Lockset.{has, is_level_lock}
use Rattle.er_event.specs.Refusal.{refusal_of}
use Rattle.er_event.specs.declared.refusals.NoRoom.{NoRoom}
use Rattle.er_event.specs.declared.refusals.NoRoom.TheVariants as room
use Rattle.er_event.specs.declared.refusals.Refusal.{Refusal}
use Rattle.er_event.specs.declared.steps.Event.{Event}
use Rattle.er_event.specs.declared.steps.Event.TheVariants.{Acquire, Release, Access, Reuse, IgnoreOn, IgnoreOff, Show, Level, Sync}
use Rattle.er_event.specs.declared.steps.Mode.TheVariants.{Read, Write}
use Rattle.er_event.specs.declared.steps.Reply.{Reply}
use Rattle.er_event.specs.declared.steps.Step.{Step}
use Rattle.er_event.specs.declared.steps.WordState.{WordState}
use Rattle.er_model.specs.Following.{StandsFor}
use Rattle.er_model.specs.Holdings.{Holdings, refused_by}
use Rattle.er_model.specs.Threads.{refusal_if}
use Rattle.er_model.proofs.Prefixes.{stands-answer}
use Rattle.er_replay.specs.Standing.{is_no_room}
use Rattle.er_replay.specs.Stops.{MayLack}
use Rattle.er_replay.specs.Wants.{may_want}

-- a refusal for want of room
names_room : Option Refusal → Bool
names_room None = false
names_room (Some why) = is_no_room why

unnamed-cond : (b : Bool) (x y : Option Refusal) → names_room x ≡ false → names_room y ≡ false → names_room (cond b x y) ≡ false
unnamed-cond true x y p q = p
unnamed-cond false x y p q = q

unnamed-if : (b : Bool) (why : Refusal) → is_no_room why ≡ false → names_room (refusal_if b why) ≡ false
unfolding names_room
unnamed-if true why p = p
unnamed-if false why p = refl

-- the definitions refuse no event for want of room
unnamed : (h : Holdings) (event : Event) → names_room (refused_by h event) ≡ false
unfolding names_room
unnamed h (Acquire l m) = unnamed-cond (is_level_lock l) _ _ refl (unnamed-cond (has h.held l) _ _ refl (unnamed-if _ _ refl))
unnamed h (Release l Write) = unnamed-cond (is_level_lock l) _ _ refl (unnamed-cond (has h.write_held l) _ _ refl (unnamed-cond (has h.held l) _ _ refl refl))
unnamed h (Release l Read) = unnamed-cond (is_level_lock l) _ _ refl (unnamed-cond (has h.write_held l) _ _ refl (unnamed-cond (has h.held l) _ _ refl refl))
unnamed h IgnoreOn = unnamed-if _ _ refl
unnamed h IgnoreOff = unnamed-if _ _ refl
unnamed h (Access kind w site) = refl
unnamed h (Reuse range) = refl
unnamed h (Show w) = refl
unnamed h (Level n) = refl
unnamed h (Sync sync) = refl

named : (cause : NoRoom) → is_no_room (refusal_of cause) ≡ true
named room.JournalFull = refl
named room.TableFull = refl
named room.OutOfMemory = refl

module _ (h : Holdings) (event : Event) (cause : NoRoom) (result : Result Reply Refusal) (is : result ≡ Err (refusal_of cause))
    (refused : (why : Refusal) → refused_by h event ≡ Some why → result ≡ Err why) where
  unrefused-by : (o : Option Refusal) → refused_by h event ≡ o → refused_by h event ≡ None
  unfolding names_room
  unrefused-by None so = so
  unrefused-by (Some why) so =
      let same = refused why so in
      let why_is : why ≡ refusal_of cause = cc in
      let clash : false ≡ true = sym (unnamed h event) ∙ ap names_room so ∙ ap is_no_room why_is ∙ named cause in
      cc

  unrefused : refused_by h event ≡ None
  unrefused = unrefused-by (refused_by h event) refl

-- what the machine finds at the step is what the definitions say at the list's end
pub lacks : (holding : ℕ → Holdings) (states : ℕ → WordState) (past : List Step) (step : Step) (cause : NoRoom) (result : Result Reply Refusal) →
    StandsFor holding states past → result ≡ Err (refusal_of cause) →
    ((why : Refusal) → refused_by (holding step.thread) step.event ≡ Some why → result ≡ Err why) →
    (refused_by (holding step.thread) step.event ≡ None → IfErr result (λ why. IsTrue (may_want (holding step.thread) states step.thread step.event why))) →
    MayLack past step cause
lacks holding states past step cause result stands is refused room =
    let none = unrefused (holding step.thread) step.event cause result is refused in
    (rw (stands-answer holding states past step stands, none) refl, rw (← stands.0 step.thread, ← fun_ext stands.1) (rw is at (room none)))

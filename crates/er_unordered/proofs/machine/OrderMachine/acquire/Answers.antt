use Rattle.std.proofs.Common.{◌≡◌, ℕ, IsTrue, None, refl}
use Rattle.er_event.specs.Lockset.{has}
use Rattle.er_event.specs.declared.steps.Event.TheVariants.{Acquire}
use Rattle.er_model.specs.Holdings.{Holdings, refused_by}
use Rattle.er_clock.proofs.Outcomes.{surely}
use Rattle.er_unordered.specs.Standing.{Ordered, holding}
use Rattle.er_unordered.proofs.HoldingLemmas.{may_give_back, undone}
use Rattle.er_unordered.proofs.StandingLemmas.{changes, has_room}
use Rattle.er_unordered.proofs.machine.OrderMachine.acquire.Goals as goal

-- what one thread's holdings keep, in other words for them
held_within : {h other : Holdings} → h ≡ other → ((l : ℕ) → IsTrue (has h.write_held l) → IsTrue (has h.held l)) → (l : ℕ) → IsTrue (has other.write_held l) → IsTrue (has other.held l)
held_within same within = rw (← same) within

pub change-requires-in-Err-clause-accepted : goal.change-requires-in-Err-clause-accepted
change-requires-in-Err-clause-accepted g c =
    let before : Ordered g.row.A.Denot = record { holders = c.self.inside.holders; clocks = c.self.inside.clocks; words = c.self.inside.words } in
    let accepted : refused_by (holding before c.args.thread) (Acquire c.args.lock c.args.mode) ≡ None = rw (← c.self.view_is) at c.requires in
    may_give_back c.self.inside.holders c.change.new.holders c.args.thread c.args.lock c.args.mode c.in_ok-change.ensures.ok (held_within c.get-held.ensures.found c.get-held.ensures.within) accepted

pub returns-in-Ok-clause-changes : goal.returns-in-Ok-clause-changes
returns-in-Ok-clause-changes g c bytes tag =
    let before : Ordered g.row.A.Denot = record { holders = c.self.inside.holders; clocks = c.self.inside.clocks; words = c.self.inside.words } in
    let accepted : refused_by (holding before c.args.thread) (Acquire c.args.lock c.args.mode) ≡ None = rw (← c.self.view_is) at c.requires in
    rw (← c.self.view_is)
    (changes before (record { holders = c.change.new.holders; clocks = c.follow.new.self; words = c.self.inside.words }) bytes tag c.args.thread (Acquire c.args.lock c.args.mode) accepted
    c.in_ok-change.ensures.ok c.in-Ok.ensures.moves (has_room _ _ c.in-Ok.ensures.crowded) (λ v. refl))

pub returns-in-Err-clause-same : goal.returns-in-Err-clause-same
returns-in-Err-clause-same g c =
    let before : Ordered g.row.A.Denot = record { holders = c.self.inside.holders; clocks = c.self.inside.clocks; words = c.self.inside.words } in
    let accepted : refused_by (holding before c.args.thread) (Acquire c.args.lock c.args.mode) ≡ None = rw (← c.self.view_is) at c.requires in
    rw (← c.self.view_is)
    (record {
      held = undone c.self.inside.holders c.change.new.holders c.args.thread c.args.lock c.args.mode c.in_ok-change.ensures.ok (held_within c.get-held.ensures.found c.get-held.ensures.within) accepted c.change-in-Err.new.holders
          (surely c.change-in-Err.result _ (c.change-in-Err.ensures.free refl) c.change-in-Err.ensures.ok);
      clocks = c.in-Err.ensures.err;
      words = λ w. refl;
    })

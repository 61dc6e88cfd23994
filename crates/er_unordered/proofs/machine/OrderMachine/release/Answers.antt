use Rattle.std.proofs.Common.{◌≡◌, None, refl, sym, subst}
use Rattle.er_event.specs.declared.steps.Event.TheVariants.{Release}
use Rattle.er_model.specs.Holdings.{refused_by}
use Rattle.er_clock.proofs.Outcomes.{surely}
use Rattle.er_unordered.specs.Standing.{Ordered, holding}
use Rattle.er_unordered.proofs.StandingLemmas.{changes, has_room}
use Rattle.er_unordered.proofs.machine.OrderMachine.release.Goals as goal

pub returns-clause-changes : goal.returns-clause-changes
returns-clause-changes g c bytes tag =
    let before : Ordered g.row.A.Denot = record { holders = c.self.inside.holders; clocks = c.self.inside.clocks; words = c.self.inside.words } in
    let accepted : refused_by (holding before c.args.thread) (Release c.args.lock c.args.mode) ≡ None =
    subst (λ (m : Ordered g.row.A.Denot). refused_by (holding m c.args.thread) (Release c.args.lock c.args.mode) ≡ None) (sym c.self.view_is) c.requires in
    rw (← c.self.view_is)
    (changes before (record { holders = c.change.new.holders; clocks = c.follow.new.self; words = c.self.inside.words }) bytes tag c.args.thread (Release c.args.lock c.args.mode) accepted
    (surely c.change.result _ (c.change.ensures.free refl) c.change.ensures.ok) c.in_ok-follow.ensures.moves (has_room _ _ c.in_ok-follow.ensures.crowded) (λ v. refl))

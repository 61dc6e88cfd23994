use Rattle.std.proofs.Common.{◌≡◌, None, true, refl, ap, sym, subst, rules}
use Rattle.er_clock.proofs.Outcomes.{on_both}
use Rattle.er_clock.specs.Crowding.{crowds_by}
use Rattle.er_epochs.specs.Standing.{IsKnownMoved}
use Rattle.er_event.specs.declared.steps.Event.TheVariants.{Show, Sync}
use Rattle.er_model.specs.Words.{Mark}
use Rattle.er_model.specs.Holdings.{refused_by}
use Rattle.er_order.specs.Order.{Local, sync_of}
use Rattle.er_unordered.specs.Standing.{Ordered, holding, clock_of, known_in, holds_alone}
use Rattle.er_unordered.proofs.StandingLemmas.{changes, held_same, clocks_same, has_room, holds-local, holds-nothing}
use Rattle.er_unordered.proofs.machine.OrderMachine.accept.Goals as goal

pub returns-in-Show-clause-changes : goal.returns-in-Show-clause-changes
returns-in-Show-clause-changes g c bytes tag =
    rw c.in-Show.is
    (changes c.args.self.now c.args.self.now bytes tag c.args.thread (Show c.in-Show.field-0) refl (held_same c.args.self.now c.args.thread) (clocks_same c.args.self.now.clocks c.args.thread Local refl) refl (λ w. refl))

pub returns-in_ok-change-in-IgnoreOn-clause-changes : goal.returns-in_ok-change-in-IgnoreOn-clause-changes
returns-in_ok-change-in-IgnoreOn-clause-changes g c bytes tag =
    let before : Ordered g.row.A.Denot = record { holders = c.self.inside.holders; clocks = c.self.inside.clocks; words = c.self.inside.words } in
    let accepted : refused_by (holding before c.args.thread) c.args.event ≡ None = rw (← c.self.view_is) at c.requires.accepted in
    let alone : holds_alone c.args.event ≡ true = search rules in
    rw (← c.self.view_is)
    (changes before (record { holders = c.change.new.holders; clocks = c.self.inside.clocks; words = c.self.inside.words }) bytes tag c.args.thread c.args.event accepted
    c.in_ok-change-in-IgnoreOn.ensures.ok (clocks_same c.self.inside.clocks c.args.thread (sync_of c.args.event) (holds-local c.args.event alone))
    (ap (crowds_by c.args.thread) (holds-local c.args.event alone))
    (λ v. subst (λ (m : Mark). IsKnownMoved (clock_of before c.args.thread) tag bytes (known_in before v) v m (known_in before v)) (sym (holds-nothing (holding before c.args.thread) c.args.thread c.args.event alone)) refl))

pub returns-in-Sync-clause-changes : goal.returns-in-Sync-clause-changes
returns-in-Sync-clause-changes g c bytes tag =
    let before : Ordered g.row.A.Denot = record { holders = c.self-in-Sync.inside.holders; clocks = c.self-in-Sync.inside.clocks; words = c.self-in-Sync.inside.words } in
    rw (c.in-Sync.is, ← c.self-in-Sync.view_is)
    (on_both c.follow.result _ _ _ c.follow.ensures.moves (has_room c.follow.result _ c.follow.ensures.crowded) (λ moves room.
    changes before (record { holders = c.self-in-Sync.inside.holders; clocks = c.follow.new.self; words = c.self-in-Sync.inside.words }) bytes tag c.args.thread (Sync c.in-Sync.sync) refl
    (held_same before c.args.thread) moves room (λ w. refl)))

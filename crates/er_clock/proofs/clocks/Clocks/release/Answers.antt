use Rattle.std.proofs.Common.{◌∙◌, sym}
use Rattle.er_clock.proofs.Notes.{know_given, know_kept}
use Rattle.er_clock.proofs.Outcomes.{on_both, both_ways}
use Rattle.er_clock.proofs.Standing.{gives-read, gives-written}
use Rattle.er_clock.specs.contracts.clocks.Clocks.{the_view}
use Rattle.er_clock.proofs.clocks.Clocks.release.Goals as goal

pub returns-in-Read-clause-ok : goal.returns-in-Read-clause-ok
returns-in-Read-clause-ok c =
    rw (← c.self.view_is, c.in-Read.is)
    (on_both c.give.result _ _ _ c.give.ensures.ok c.give.ensures.given (λ ticked given.
    gives-read (the_view c.self.inside) c.give.new.self c.args.thread ticked c.args.lock c.give.new.clocks (rw c.number.ensures at given)))

pub returns-in-Write-clause-ok : goal.returns-in-Write-clause-ok
returns-in-Write-clause-ok c =
    rw (← c.self.view_is, c.in-Write.is)
    (on_both c.give-in-Write.result _ _ _ c.give-in-Write.ensures.ok c.give-in-Write.ensures.given (λ ticked given.
    gives-written (the_view c.self.inside) c.give-in-Write.new.self c.args.thread ticked c.args.lock c.give-in-Write.new.clocks (rw c.number-in-Write-4.ensures at given)))

pub invariant_of-self-in-Write : goal.invariant_of-self-in-Write
invariant_of-self-in-Write c =
    both_ways c.give-in-Write.result _ _ _ _ _ c.give-in-Write.ensures.given c.give-in-Write.ensures.ok c.give-in-Write.ensures.kept c.give-in-Write.ensures.err
    (λ given ticked.
    know_given c.self.inside.threads c.give-in-Write.new.self c.self.inside.written c.give-in-Write.new.clocks c.self.inside.takers c.forget.new.self
    c.number-in-Write-4.result c.number-in-Write-3.result c.args.thread (c.number-in-Write-3.ensures ∙ sym c.number-in-Write-4.ensures) given ticked c.forget.ensures c.self.invariant)
    (λ is same.
    know_kept c.self.inside.threads c.give-in-Write.new.self c.self.inside.written c.give-in-Write.new.clocks c.self.inside.takers c.forget.new.self
    c.number-in-Write-3.result is same c.forget.ensures c.self.invariant)

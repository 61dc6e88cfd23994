use Rattle.std.proofs.Common.{Some, ap, sym, ◌∙◌}
use Rattle.er_held.specs.ThreadLocks.{holding_among}
use Rattle.er_held.proofs.MapLemmas.{holding_found, holding_absent}
use Rattle.er_keys.proofs.MapLemmas.{entry_found}
use Rattle.er_replay.proofs.threads.Threads.get.Goals as goal

pub returns-in-Some-clause-found : goal.returns-in-Some-clause-found
returns-in-Some-clause-found c =
    let key = c.in-Some.ensures.key ∙ ap Some (c.from-key.ensures ∙ c.number.ensures.value) in
    holding_found c.self.inside.held.entries c.args.thread c.index-held.result.now (entry_found c.self.inside.held c.in-Some.index c.args.thread c.index-held.result.now c.in-Some.ensures.unique key c.index-held.ensures)
    ∙ ap (λ threads. holding_among threads c.args.thread) c.self.view_is

pub returns-in-None-clause-found : goal.returns-in-None-clause-found
returns-in-None-clause-found c =
    let key = c.from-key.ensures ∙ c.number.ensures.value in
    c.self.invariant ∙ holding_absent c.self.inside.held.entries c.args.thread (rw key at (sym c.in-None.ensures.none))
    ∙ ap (λ threads. holding_among threads c.args.thread) c.self.view_is

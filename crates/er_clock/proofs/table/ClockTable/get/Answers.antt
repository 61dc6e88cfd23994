use Rattle.std.proofs.Common.{ap, sym, ◌∙◌}
use Rattle.er_clock.specs.Clock.{count_in}
use Rattle.er_clock.specs.Table.{known_by}
use Rattle.er_keys.proofs.MapLemmas.{entry_found}
use Rattle.er_clock.proofs.TableLemmas.{clock_found, count_absent}
use Rattle.er_clock.proofs.table.ClockTable.get.Goals as goal

pub returns-in-Some : goal.returns-in-Some
returns-in-Some c u =
    ap (λ counts. count_in counts u)
    (clock_found c.self.inside.clocks.entries c.args.number c.index.result.now (entry_found c.self.inside.clocks c.in-Some.index c.args.number c.index.result.now c.in-Some.ensures.unique c.in-Some.ensures.key c.index.ensures))
    ∙ ap (λ clocks. known_by clocks c.args.number u) c.self.view_is

pub returns-in-None : goal.returns-in-None
returns-in-None c u =
    c.self.invariant u ∙ sym (count_absent c.self.inside.clocks.entries c.args.number (sym c.in-None.ensures.none) u)
    ∙ ap (λ clocks. known_by clocks c.args.number u) c.self.view_is

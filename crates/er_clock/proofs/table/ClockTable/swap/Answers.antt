use Rattle.std.proofs.Common.{◌≡◌, ◌∙◌, ap, sym, arith}
use Rattle.er_clock.specs.Clock.{count_in}
use Rattle.er_clock.specs.Table.{known_by}
use Rattle.er_keys.proofs.MapLemmas.{entry_put}
use Rattle.er_clock.proofs.TableLemmas.{count_absent, count_written}
use Rattle.er_clock.proofs.table.ClockTable.swap.Goals as goal

pub returns-in-Some : goal.returns-in-Some
returns-in-Some c =
    rw (← c.self.view_is)
    (count_written (λ u x. count_in c.args.other.now u) c.self.inside.clocks.entries _ c.args.number c.swap.new.x
    (entry_put c.self.inside.clocks c.in-Some.index c.args.number c.index_mut.result.now c.in-Some.ensures.unique c.in-Some.ensures.key c.index_mut.ensures.value c.swap.new.x)
    (λ u. ap (λ counts. count_in counts u) c.swap.ensures.x_after))

pub returns-in-None : goal.returns-in-None
returns-in-None c n u =
    let zero : known_by c.args.self.now c.args.number c.requires.0 ≡ 0 =
    ap (λ clocks. known_by clocks c.args.number c.requires.0) (sym c.self.view_is) ∙ count_absent c.self.inside.clocks.entries c.args.number (sym c.in-None.ensures.none) c.requires.0 in
    let some = c.requires.1 in
    absurd (omega (arith, zero, some))

use Rattle.std.proofs.Common.{◌≡◌, ◌∙◌, ℕ, max, nat_eq, cond, Some, slice_get, ap, sym, arith}
use Rattle.std.specs.Map.{lookup}
use Rattle.indexmap.specs.IndexMap.{values, with_value_at}
use Rattle.er_event.proofs.Results.{on_ok, on_err}
use Rattle.er_clock.specs.Clock.{Counts, count_in}
use Rattle.er_clock.specs.Table.{known_by}
use Rattle.er_keys.proofs.MapLemmas.{entry_found, entry_put}
use Rattle.er_clock.proofs.TableLemmas.{clock_found, count_absent, count_written, count_rewritten}
use Rattle.er_clock.proofs.table.ClockTable.join.Goals as goal
use Rattle.er_clock.proofs.table.ClockTable.join.Goals.{In-Some}

module _ (c : In-Some) (was : Counts) (is : slice_get (values c.self.inside.clocks) c.in-Some.index ≡ Some was) where
  -- the clock that stands there is the number's
  here : was ≡ Rattle.er_clock.specs.Table.clock_at c.self.inside.clocks.entries c.args.number
  here = clock_found c.self.inside.clocks.entries c.args.number was (entry_found c.self.inside.clocks c.in-Some.index c.args.number was c.in-Some.ensures.unique c.in-Some.ensures.key is)

  put : (w : Counts) (q : ℕ) → lookup (nat_eq q) (with_value_at c.self.inside.clocks c.in-Some.index w).entries ≡ cond (nat_eq c.args.number q) (Some w) (lookup (nat_eq q) c.self.inside.clocks.entries)
  put = entry_put c.self.inside.clocks c.in-Some.index c.args.number was c.in-Some.ensures.unique c.in-Some.ensures.key is

pub take-requires : goal.take-requires
take-requires c covered u =
    let some = (goal.at.take-requires c).In-Some in
    let same : count_in c.index_mut-clock.result.now u ≡ known_by c.args.self.now c.args.number u =
    ap (λ counts. count_in counts u) (here some c.index_mut-clock.result.now c.index_mut-clock.ensures.value) ∙ ap (λ clocks. known_by clocks c.args.number u) c.self.view_is in
    let less = c.requires covered u in
    omega (arith, same, less)

pub returns-in-Some-clause-ok : goal.returns-in-Some-clause-ok
returns-in-Some-clause-ok c =
    let some = (goal.at.returns-in-Some-clause-ok c).In-Some in
    let was = c.index_mut-clock.result.now in
    let is = c.index_mut-clock.ensures.value in
    rw (← c.self.view_is)
    (on_ok c.take.result _ _ c.take.ensures.ok (λ new.
    count_written (λ u x. max x (count_in c.args.other.now u)) c.self.inside.clocks.entries _ c.args.number c.take.new.clock (put some was is c.take.new.clock)
    (λ u. new u ∙ ap (λ counts. max (count_in counts u) (count_in c.args.other.now u)) (here some was is))))

pub returns-in-Some-clause-err : goal.returns-in-Some-clause-err
returns-in-Some-clause-err c =
    let some = (goal.at.returns-in-Some-clause-err c).In-Some in
    let was = c.index_mut-clock.result.now in
    let is = c.index_mut-clock.ensures.value in
    rw (← c.self.view_is)
    (on_err c.take.result _ _ c.take.ensures.err (λ new.
    count_rewritten c.self.inside.clocks.entries _ c.args.number c.take.new.clock (put some was is c.take.new.clock)
    (λ u. new u ∙ ap (λ counts. count_in counts u) (here some was is))))

pub returns-in_ok-insert-in-None-clause-ok : goal.returns-in_ok-insert-in-None-clause-ok
returns-in_ok-insert-in-None-clause-ok c =
    let none = count_absent c.self.inside.clocks.entries c.args.number (sym c.in-None.ensures.none) in
    rw (← c.self.view_is)
    (count_written (λ u x. max x (count_in c.args.other.now u)) c.self.inside.clocks.entries _ c.args.number c.join.new.self c.in_ok-insert-in-None.ensures.updates.0
    (λ u. c.in_ok-join-in-None.ensures.ok u ∙ ap (λ x. max x (count_in c.args.other.now u)) (c.new-clock.ensures u ∙ sym (none u))))

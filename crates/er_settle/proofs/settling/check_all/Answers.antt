use Rattle.std.proofs.Common.{refl}
use Rattle.er_settle.specs.Faults.{IsFirst}
use Rattle.er_settle.specs.Inner.Checks.{AreChecked}
use Rattle.er_settle.proofs.FirstLemmas.{ungiven_first, unplaced_first, unlike_first, all_paired, all_turn, unanswered_first, settled, handed_on}
use Rattle.er_settle.proofs.settling.check_all.Goals as goal

pub returns-in_err-groups-clause-first : goal.returns-in_err-groups-clause-first
returns-in_err-groups-clause-first c =
    let l : AreChecked c.args.name c.args.opened c.args.seats.now c.args.journals.now c.in_ok-index.index c.in_ok-order.order.items = record {
      own = c.if-not-are_of_detector.ensures.0 refl;
      once = c.in_ok-index.ensures.once;
      all = c.if-not-are_complete.ensures.0 refl;
      ordered = (c.if-not-lists_rise.ensures.rise.0 refl, c.in_ok-order.ensures.rise);
      legal = record { lists = c.if-not-lists_rise.ensures.legal refl; legal = c.in_ok-order.ensures.legal };
      places = c.in_ok-index.ensures.index;
      rises = c.in_ok-order.ensures.order;
    } in
    handed_on c.from_residual-in_err-groups.result c.in_err-groups.field-0.0 (IsFirst c.args.name c.args.opened c.args.seats.now c.args.journals.now) c.from_residual-in_err-groups.ensures.1
    (ungiven_first c.args.name c.args.opened c.args.seats.now c.args.journals.now c.in_ok-order.order.items l.rises l.own l.once l.all l.ordered _ c.in_err-groups.field-0.0 c.as_slice-order.ensures.value c.in_err-groups.ensures.fault)

pub returns-then-not-all_in_place-clause-first : goal.returns-then-not-all_in_place-clause-first
returns-then-not-all_in_place-clause-first c =
    let l : AreChecked c.args.name c.args.opened c.args.seats.now c.args.journals.now c.in_ok-index.index c.in_ok-order.order.items = record {
      own = c.if-not-are_of_detector.ensures.0 refl;
      once = c.in_ok-index.ensures.once;
      all = c.if-not-are_complete.ensures.0 refl;
      ordered = (c.if-not-lists_rise.ensures.rise.0 refl, c.in_ok-order.ensures.rise);
      legal = record { lists = c.if-not-lists_rise.ensures.legal refl; legal = c.in_ok-order.ensures.legal };
      places = c.in_ok-index.ensures.index;
      rises = c.in_ok-order.ensures.order;
    } in
    unplaced_first c.args.name c.args.opened c.args.seats.now c.args.journals.now c.in_ok-order.order.items l.rises l.own l.once l.all l.ordered c.as_slice-order.result.now c.as_slice-order.ensures.value (λ all. let e = c.if-not-all_in_place.ensures.1 all in cc)

pub returns-then-not-all_matched-clause-first : goal.returns-then-not-all_matched-clause-first
returns-then-not-all_matched-clause-first c =
    let l : AreChecked c.args.name c.args.opened c.args.seats.now c.args.journals.now c.in_ok-index.index c.in_ok-order.order.items = record {
      own = c.if-not-are_of_detector.ensures.0 refl;
      once = c.in_ok-index.ensures.once;
      all = c.if-not-are_complete.ensures.0 refl;
      ordered = (c.if-not-lists_rise.ensures.rise.0 refl, c.in_ok-order.ensures.rise);
      legal = record { lists = c.if-not-lists_rise.ensures.legal refl; legal = c.in_ok-order.ensures.legal };
      places = c.in_ok-index.ensures.index;
      rises = c.in_ok-order.ensures.order;
    } in
    unlike_first c.args.name c.args.opened c.args.seats.now c.args.journals.now c.in_ok-order.order.items l.rises l.own l.once l.all l.ordered c.as_slice-order.result.now c.as_slice-order.ensures.value (λ all. let e = c.if-not-all_matched.ensures.1 all in cc)

pub returns-then-not-is_answered-clause-first : goal.returns-then-not-is_answered-clause-first
returns-then-not-is_answered-clause-first c =
    let l : AreChecked c.args.name c.args.opened c.args.seats.now c.args.journals.now c.in_ok-index.index c.in_ok-order.order.items = record {
      own = c.if-not-are_of_detector.ensures.0 refl;
      once = c.in_ok-index.ensures.once;
      all = c.if-not-are_complete.ensures.0 refl;
      ordered = (c.if-not-lists_rise.ensures.rise.0 refl, c.in_ok-order.ensures.rise);
      legal = record { lists = c.if-not-lists_rise.ensures.legal refl; legal = c.in_ok-order.ensures.legal };
      places = c.in_ok-index.ensures.index;
      rises = c.in_ok-order.ensures.order;
    } in
    let order = c.in_ok-order.order.items in
    let slice = c.as_slice-order.result.now in
    let same = c.as_slice-order.ensures.value in
    unanswered_first c.args.name c.args.opened c.args.seats.now c.args.journals.now order slice l.rises same
    (all_turn c.args.seats.now c.args.journals.now order slice slice slice same same same c.in_ok-groups.ensures.given (c.if-not-all_in_place.ensures.0 refl) (c.if-not-all_matched.ensures.0 refl)) l.own l.once l.all l.ordered
    (all_paired c.args.seats.now c.args.journals.now order slice slice slice l.rises same same same c.in_ok-groups.ensures.given (c.if-not-all_in_place.ensures.0 refl) (c.if-not-all_matched.ensures.0 refl))
    (λ all. let e = c.in_ok-is_answered.ensures.1 all in let no = c.if-not-is_answered.true in cc)

pub returns-clause-settled : goal.returns-clause-settled
returns-clause-settled c =
    let l : AreChecked c.args.name c.args.opened c.args.seats.now c.args.journals.now c.in_ok-index.index c.in_ok-order.order.items = record {
      own = c.if-not-are_of_detector.ensures.0 refl;
      once = c.in_ok-index.ensures.once;
      all = c.if-not-are_complete.ensures.0 refl;
      ordered = (c.if-not-lists_rise.ensures.rise.0 refl, c.in_ok-order.ensures.rise);
      legal = record { lists = c.if-not-lists_rise.ensures.legal refl; legal = c.in_ok-order.ensures.legal };
      places = c.in_ok-index.ensures.index;
      rises = c.in_ok-order.ensures.order;
    } in
    let order = c.in_ok-order.order.items in
    let slice = c.as_slice-order.result.now in
    let same = c.as_slice-order.ensures.value in
    settled c.args.name c.args.opened c.args.seats.now c.args.journals.now order slice l.rises same
    (all_turn c.args.seats.now c.args.journals.now order slice slice slice same same same c.in_ok-groups.ensures.given (c.if-not-all_in_place.ensures.0 refl) (c.if-not-all_matched.ensures.0 refl)) l.own l.once l.all l.ordered
    (all_paired c.args.seats.now c.args.journals.now order slice slice slice l.rises same same same c.in_ok-groups.ensures.given (c.if-not-all_in_place.ensures.0 refl) (c.if-not-all_matched.ensures.0 refl))
    (c.in_ok-is_answered.ensures.0 (c.if-not-is_answered.false))

pub returns-clause-checked : goal.returns-clause-checked
returns-clause-checked c = record {
  own = c.if-not-are_of_detector.ensures.0 refl;
  once = c.in_ok-index.ensures.once;
  all = c.if-not-are_complete.ensures.0 refl;
  ordered = (c.if-not-lists_rise.ensures.rise.0 refl, c.in_ok-order.ensures.rise);
  legal = record { lists = c.if-not-lists_rise.ensures.legal refl; legal = c.in_ok-order.ensures.legal };
  places = c.in_ok-index.ensures.index;
  rises = c.in_ok-order.ensures.order;
}

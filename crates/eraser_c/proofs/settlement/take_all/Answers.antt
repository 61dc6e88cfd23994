-- What the next handle leads to is taken.
use Rattle.std.proofs.Common.{◌≡◌, ◌<◌, length, ◌∙◌, arith, rules}
use Rattle.std.proofs.lemmas.List.{length-set}
use Rattle.eraser_c.proofs.SettlementLemmas.{behind_of, rest-next, take-next}
use Rattle.eraser_c.proofs.settlement.take_all.Goals as goal

pub loop-i-preserved : goal.loop-i-preserved
loop-i-preserved c =
    let within : c.loop-i.i < length c.args.handles.now = omega (arith, c.loop-i-test.true) in
    let was = c.index-handles-i.result in
    let kept : c.replace.result.kept_box.kept ≡ was.kept_box.kept = search rules in
    let is = behind_of (λ boxed. boxed.value) c.into_box.result _ c.into_box.ensures.some c.into_box.ensures.none ∙ kept in
    record {
      size = length-set c.loop-i.handles c.loop-i.i c.replace.new.dest ∙ c.loop-i.invariant.size;
      room = search rules;
      count = search rules;
      taken = take-next c.loop-i.handles c.args.handles.now c.loop-i.i was c.loop-i.invariant.size within c.loop-i.invariant.rest (λ boxed. boxed.value) c.loop-i.taken.items c.push_reserved.new.self.items c.into_box.result
          c.index-handles-i.is is c.loop-i.invariant.taken c.push_reserved.ensures.items;
      rest = rest-next c.loop-i.handles c.args.handles.now c.loop-i.i was c.loop-i.invariant.size within c.loop-i.invariant.rest c.replace.new.dest;
    }

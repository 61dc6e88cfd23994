use Rattle.std.proofs.Common.{◌≡◌, true, ◌∙◌, rules}
use Rattle.std.specs.List.{list_all}
use Rattle.er_trace.specs.Names.{is_plain_byte}
use Rattle.er_trace.specs.Inner.Recent.{bytes_of}
use Rattle.er_trace.proofs.FirstLemmas.{distinct_after}
use Rattle.er_trace.proofs.RecentLemmas.{knows_new, right_after}
use Rattle.er_trace.proofs.names.CachedNames.number.Goals as goal

pub invariant_of-self-then-are_plain : goal.invariant_of-self-then-are_plain
invariant_of-self-then-are_plain c =
    let done = c.in_ok-number.ensures in
    let bytes : bytes_of c.in-Some.short ≡ c.args.name.now = c.in-Some.ensures.bytes ∙ c.as_bytes.ensures.value in
    let plain : list_all is_plain_byte c.args.name.now ≡ true = search rules in
    let right = right_after c.number.result c.self.inside.list c.number.new.self c.args.name.now c.self.inside.recent c.self.inside.leading (c.self.invariant.0, c.self.invariant.1) c.number.ensures.ok c.number.ensures.err in
    let known = knows_new c.self.inside.list c.number.new.self c.args.name.now (bytes_of c.in-Some.short) c.in_ok-number.number done.ok bytes done.number done.within plain in (
      c.remember.ensures c.number.new.self right.0 known,
      right.1,
      distinct_after c.number.result c.self.inside.list c.number.new.self c.args.name.now c.self.invariant.2 c.number.ensures.ok c.number.ensures.err,
    )

pub invariant_of-self-2 : goal.invariant_of-self-2
invariant_of-self-2 c =
    let right = right_after c.number-2.result c.self.inside.list c.number-2.new.self c.args.name.now c.self.inside.recent c.self.inside.leading (c.self.invariant.0, c.self.invariant.1) c.number-2.ensures.ok c.number-2.ensures.err in
    (right.0, right.1, distinct_after c.number-2.result c.self.inside.list c.number-2.new.self c.args.name.now c.self.invariant.2 c.number-2.ensures.ok c.number-2.ensures.err)

use Rattle.std.proofs.Common.{◌≡◌, ◌∙◌, ◌+◌, ℕ, max, length, get_or, ap, ap₂, arith}
use Rattle.er_clock.specs.Clock.{count_in_part}
use Rattle.er_clock.proofs.Parts.{all_joined, one_more_joined, part_or, pushed_length, read_or}
use Rattle.er_clock.proofs.rows.joined_parts.Goals as goal

pub loop-at-preserved : goal.loop-at-preserved
loop-at-preserved g c =
    let before = c.loop-at.invariant.0 in
    let len = pushed_length c.loop-at.all.items c.in_ok-joined.joined in (
      ap length c.in_ok-push.ensures.items ∙ len ∙ ap (λ n. n + 1) before,
      rw c.in_ok-push.ensures.items
          (one_more_joined g.P.Part.counts c.loop-at.at c.args.parts.now c.args.others.now c.loop-at.all.items c.in_ok-joined.joined before c.loop-at.invariant.1 here),
    )
  where
    one : c.unwrap_or-one.result.now ≡ get_or c.args.parts.now c.loop-at.at c.in_ok-empty.empty
    one = ap (λ p. p.now) c.unwrap_or-one.ensures ∙ read_or c.get.result _ ∙ c.get.ensures.lookup.4 (omega arith) c.in_ok-empty.empty

    other : c.unwrap_or-other.result.now ≡ get_or c.args.others.now c.loop-at.at c.in_ok-empty.empty
    other = ap (λ p. p.now) c.unwrap_or-other.ensures ∙ read_or c.get-in-loop-at.result _ ∙ c.get-in-loop-at.ensures.lookup.4 (omega arith) c.in_ok-empty.empty

    here : (o : ℕ) → g.P.Part.counts c.in_ok-joined.joined o ≡ max (count_in_part g.P.Part.counts c.args.parts.now c.loop-at.at o) (count_in_part g.P.Part.counts c.args.others.now c.loop-at.at o)
    here o =
        c.in_ok-joined.ensures o
        ∙ ap₂ max
        (ap (λ p. g.P.Part.counts p o) one ∙ part_or g.P.Part.counts c.args.parts.now c.loop-at.at o c.in_ok-empty.empty (c.in_ok-empty.ensures o))
        (ap (λ p. g.P.Part.counts p o) other ∙ part_or g.P.Part.counts c.args.others.now c.loop-at.at o c.in_ok-empty.empty (c.in_ok-empty.ensures o))

pub returns-clause-all : goal.returns-clause-all
returns-clause-all g c =
    let one = c.max-len.ensures in
    let two = c.max.ensures in
    let end = c.loop-at-test.false in
    all_joined g.P.Part.counts c.loop-at.at c.args.parts.now c.args.others.now c.loop-at.all.items c.loop-at.invariant.0 (omega (arith, one, two, end)) (omega (arith, one, two, end)) c.loop-at.invariant.1

use Rattle.std.proofs.Common.{◌≡◌, ◌∙◌, ◌+◌, ◌<◌, ◌/◌, ◌%◌, ℕ, max, cond, length, get_or, ap, arith}
use Rattle.er_clock.specs.Clock.{count_in_part, count_in_row}
use Rattle.er_clock.proofs.Parts.{if_ok, same_place, ticked_part}
use Rattle.er_clock.proofs.rows.RowPart.ticked.Goals as goal

pub returns : goal.returns
returns g c =
    if_ok c.of.result _ _ c.of.ensures (λ row is at.
    ap (λ parts. count_in_row g.P.Part.counts g.P.Part.WIDTH parts at) is
    ∙ rw c.WIDTH.ensures
    (ticked_part g.P.Part.counts (c.args.place / g.P.Part.WIDTH) (c.args.place % g.P.Part.WIDTH) c.index.result.now c.in_ok-part.part c.args.self.now c.in_ok-parts.parts.items same
    within read (rw (← c.WIDTH-2.ensures) c.in_ok-part.ensures) (at / g.P.Part.WIDTH) (at % g.P.Part.WIDTH))
    ∙ ap (λ d. count_in_row g.P.Part.counts g.P.Part.WIDTH c.args.self.now at + cond d 1 0) (same_place g.P.Part.WIDTH c.args.place at g.met.P.Part.is_wide))
  where
    within : c.args.place / g.P.Part.WIDTH < length c.in_ok-parts.parts.items
    within = rw (← c.WIDTH.ensures) (let room = c.in_ok-parts.ensures.least in let done : c.args.place / c.WIDTH.result < length c.in_ok-parts.parts.items = omega (arith, room) in done)

    read : c.index.result.now ≡ get_or c.in_ok-parts.parts.items (c.args.place / g.P.Part.WIDTH) c.index.result.now
    read = rw (← c.WIDTH.ensures) c.index.ensures

    same : (b i : ℕ) → count_in_part g.P.Part.counts c.in_ok-parts.parts.items b i ≡ count_in_part g.P.Part.counts c.args.self.now b i
    same b i =
        let all = c.in_ok-parts.ensures.all b i in
        let none : max (count_in_part g.P.Part.counts c.parts.result.now b i) 0 ≡ count_in_part g.P.Part.counts c.parts.result.now b i = omega arith in
        all ∙ none ∙ ap (λ parts. count_in_part g.P.Part.counts parts b i) c.parts.ensures

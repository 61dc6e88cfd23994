use Rattle.std.proofs.Common.{◌≡◌, ℕ, ◌∙◌, ◌+◌, ◌/◌, ◌≤◌, Option, Some, IfSome, ap, sym, subst, arith}
use Rattle.std.specs.Option.{option_map}
use Rattle.er_clock.specs.Counts.{count_by}
use Rattle.er_epochs.specs.Words.{known_among}
use Rattle.er_epochs.proofs.Blocks.{reset-start, reset-next, reset-end}
use Rattle.er_epochs.proofs.Lowest.{use_found, IsLowestBelow, all_or, found_or, lowest_start, lowest_next, lowest_end, named_before}
use Rattle.er_epochs.proofs.words.OrderWords.reset.Goals as goal

pub loop-number-init : goal.loop-number-init
loop-number-init g c = record {
  reset = reset-start c.args.self.now c.args.range c.block-first.result c.block-first.ensures.value;
  in_use = lowest_start c.args.self.now c.args.range (count_by c.args.clock.now) c.block-first.result c.block-first.ensures.value;
  named = tt;
}

pub loop-number-preserved : goal.loop-number-preserved
loop-number-preserved g c = record {
  reset =
      reset-next c.args.self.now c.loop-number.self c.empty-next.new.self c.args.range c.loop-number.number c.first_in.result c.last_in.result c.first_in.ensures c.last_in.ensures.place
      c.loop-number.invariant.reset c.empty-next.ensures.reset;
  in_use =
      subst (λ (found : Option ℕ). IsLowestBelow c.args.self.now c.args.range (count_by c.args.clock.now) (c.loop-number.number + 1) found)
      (sym (ap (option_map (λ (found : ℕ × g.row.A.Denot). found.0)) c.or-found.ensures ∙ found_or c.loop-number.found c.empty-next.result))
      (lowest_next c.args.self.now c.loop-number.self c.args.range (count_by c.args.clock.now) c.loop-number.number c.first_in.result c.last_in.result c.loop-number.invariant.reset
      (option_map (λ (found : ℕ × g.row.A.Denot). found.0) c.loop-number.found) (option_map (λ (found : ℕ × g.row.A.Denot). found.0) c.empty-next.result) c.first_in.ensures c.last_in.ensures.place c.loop-number.invariant.in_use c.empty-next.ensures.in_use);
  named =
      subst (λ (o : Option (ℕ × g.row.A.Denot)). IfSome o (λ found. Some found.1 ≡ use_found (count_by c.args.clock.now) (known_among c.args.self.now found.0))) (sym c.or-found.ensures)
      (all_or (λ found. Some found.1 ≡ use_found (count_by c.args.clock.now) (known_among c.args.self.now found.0)) c.loop-number.found c.empty-next.result c.loop-number.invariant.named
      (named_before c.args.self.now c.loop-number.self c.args.range (count_by c.args.clock.now) c.loop-number.number c.first_in.result c.last_in.result c.loop-number.invariant.reset
      c.empty-next.result c.empty-next.ensures.in_use c.empty-next.ensures.named));
}

pub returns : goal.returns
returns g c =
    let past : c.args.range.hi / 32 + 1 ≤ c.loop-number.number = (let end = c.block-last.ensures.value in omega (arith, end, c.loop-number-test.false)) in
    record {
      reset = reset-end c.args.self.now c.loop-number.self c.args.range c.loop-number.number past c.loop-number.invariant.reset;
      in_use = lowest_end c.args.self.now c.args.range (count_by c.args.clock.now) c.loop-number.number (option_map (λ (found : ℕ × g.row.A.Denot). found.0) c.loop-number.found) past c.loop-number.invariant.in_use;
      named = c.loop-number.invariant.named;
    }

use Rattle.std.proofs.Common.{◌≡◌, ◌+◌, ◌<◌, ◌^◌, ℕ, get_or, ap, subst, sym, ◌∙◌, rules}
use Rattle.std.proofs.lemmas.List.{length-set}
use Rattle.er_trace.proofs.InPlaceLemmas.{same_read, rest_still, front_on}
use Rattle.er_trace.proofs.appending.count_behind.Goals as goal

pub overflow_add-lines : goal.overflow_add-lines
overflow_add-lines c =
    let old = c.loop-at.invariant in
    let same : get_or c.loop-at.lines c.loop-at.at 0 ≡ get_or c.args.lines.now c.loop-at.at 0 = same_read c.args.lines.now c.loop-at.lines c.loop-at.at old.len c.loop-at-test.true old.rest 0 in
    let fits : c.args.before + get_or c.args.lines.now c.loop-at.at 0 < 2 ^ 64 = c.requires c.loop-at.at 0 c.loop-at-test.true in
    let sum : c.args.before + get_or c.loop-at.lines c.loop-at.at 0 < 2 ^ 64 = subst (λ (n : ℕ). c.args.before + n < 2 ^ 64) (sym same) fits in
    search rules

pub loop-at-preserved : goal.loop-at-preserved
loop-at-preserved c =
    let old = c.loop-at.invariant in
    let xs = c.args.lines.now in
    let ys = c.loop-at.lines in
    let y : ℕ = c.args.before + get_or ys c.loop-at.at 0 in
    record {
      len = length-set ys c.loop-at.at y ∙ old.len;
      done = front_on xs ys c.loop-at.at old.len c.loop-at-test.true old.rest (λ (line : ℕ). c.args.before + line) y 0 old.done
          (ap (λ (n : ℕ). c.args.before + n) (same_read xs ys c.loop-at.at old.len c.loop-at-test.true old.rest 0));
      rest = rest_still xs ys c.loop-at.at old.len c.loop-at-test.true old.rest y;
    }

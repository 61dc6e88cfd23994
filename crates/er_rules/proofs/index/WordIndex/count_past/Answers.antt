-- Each turn skips what an entry stands for, or nothing.
use Rattle.std.proofs.Common.{◌∙◌, ◌≤◌, [], take, refl, ap, subst, arith}
use Rattle.er_rules.specs.declared.index.Entry.{Entry}
use Rattle.er_rules.specs.Inner.Index.{first_of}
use Rattle.er_rules.specs.Inner.Reach.{end_at}
use Rattle.er_rules.proofs.IndexLemmas.{first_of-none, skipped}
use Rattle.er_rules.proofs.index.WordIndex.count_past.Goals as goal
use Rattle.er_rules.proofs.index.WordIndex.count_past.Goals.{then-width-count+then-entry-past+then-end_at-hi, then-width-count+else-entry-past, else-width-count}

pub loop-width-init : goal.loop-width-init
loop-width-init c = record { within = omega arith; none = first_of-none [] c.args.lo c.args.hi refl }

pub loop-width-preserved : goal.loop-width-preserved
loop-width-preserved c = elim c.if-width-count.branch [
  | then-width-count+then-entry-past+then-end_at-hi w ↦
      let items = c.args.self.now.entries.items in
      let past = c.loop-width.past in
      let width = c.loop-width.width in
      let d = w.index-entry.result.now in
      let short : end_at d.reach c.args.lo ≤ c.args.hi = omega (arith, w.end_at.ensures, w.if-end_at-hi.true) in
      record {
        within = omega (arith, w.past-is, w.if-width-count.true, c.len-count.ensures);
        none = ap (λ n. first_of (take n items) c.args.lo c.args.hi) w.past-is
            ∙ skipped items past width c.args.lo c.args.hi d c.args.self.now.reaches (omega (arith, w.if-width-count.true, c.len-count.ensures, c.loop-width.invariant.within)) c.loop-width-test.true
            (subst (λ (x : Entry). x.start ≤ past) w.index-entry.ensures w.if-entry-past.true) (subst (λ (x : Entry). end_at x.reach c.args.lo ≤ c.args.hi) w.index-entry.ensures short) c.loop-width.invariant.none;
      }
  | then-width-count+else-entry-past w ↦
      record { within = omega (arith, w.past-is, c.loop-width.invariant.within); none = ap (λ n. first_of (take n c.args.self.now.entries.items) c.args.lo c.args.hi) w.past-is ∙ c.loop-width.invariant.none }
  | else-width-count w ↦
      record { within = omega (arith, w.past-is, c.loop-width.invariant.within); none = ap (λ n. first_of (take n c.args.self.now.entries.items) c.args.lo c.args.hi) w.past-is ∙ c.loop-width.invariant.none }
]

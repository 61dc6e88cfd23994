use Rattle.std.proofs.Common.{◌≡◌, ◌∙◌, true, false, Some, sym, ap, subst, arith}
use Rattle.er_rules.specs.declared.index.Entry.{Entry}
use Rattle.er_rules.specs.Targets.{span_of}
use Rattle.er_rules.specs.Inner.Index.{has_both}
use Rattle.er_rules.proofs.IndexLemmas.{first_of-found, first_of-more, both_true, first_false, second_false}
use Rattle.er_rules.proofs.index.WordIndex.rule_of.Goals as goal
use Rattle.er_rules.proofs.index.WordIndex.rule_of.Goals.{else-contains-via-then-contains+else-contains-2, else-contains-via-else-contains}

pub returns-then-contains-2 : goal.returns-then-contains-2
returns-then-contains-2 c =
    let items = c.args.self.now.entries.items in
    let d = c.index-entry.result.now in
    let has : has_both (Some (span_of d.words)) c.args.lo c.args.hi ≡ true = both_true _ _ (sym c.contains.ensures ∙ c.if-contains.true) (sym c.contains-then-contains.ensures ∙ c.if-contains-2.true) in
    ap (λ (x : Entry). Some x.rule) c.index-entry.ensures
    ∙ first_of-found items c.loop-past.past c.args.lo c.args.hi d (omega (arith, c.loop-past-test.true, c.len.ensures)) c.loop-past.invariant.none
    (subst (λ (x : Entry). has_both (Some (span_of x.words)) c.args.lo c.args.hi ≡ true) c.index-entry.ensures has)

pub loop-past-preserved : goal.loop-past-preserved
loop-past-preserved c =
    let items = c.args.self.now.entries.items in
    let d = c.index-entry.result.now in
    let lacks : has_both (Some (span_of d.words)) c.args.lo c.args.hi ≡ false = elim c.else-contains.branch [
      | else-contains-via-then-contains+else-contains-2 w ↦ second_false _ _ (sym w.contains-then-contains.ensures ∙ w.if-contains-2.false)
      | else-contains-via-else-contains w ↦ first_false _ _ (sym c.contains.ensures ∙ w.if-contains.false)
    ] in
    record {
      within = omega (arith, c.loop-past-test.true, c.len.ensures);
      none = first_of-more items c.loop-past.past c.args.lo c.args.hi d (omega (arith, c.loop-past-test.true, c.len.ensures)) c.loop-past.invariant.none
          (subst (λ (x : Entry). has_both (Some (span_of x.words)) c.args.lo c.args.hi ≡ false) c.index-entry.ensures lacks);
    }

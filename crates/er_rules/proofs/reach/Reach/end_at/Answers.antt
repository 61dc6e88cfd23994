use Rattle.std.proofs.Common.{rules, ◌≡◌, ◌∙◌, true, false, nat_le, sym, ap, subst, arith}
use Rattle.std.specs.List.Sorted.{IsPartitionPoint}
use Rattle.std.proofs.lemmas.List.Sorted.{IsPartitionPoint-from_clause, IsPartitionedBy-leb}
use borrow.Author.Tests.{leb-true, leb-false}
use Rattle.er_rules.specs.declared.reach.Border.{Border}
use Rattle.er_rules.specs.Inner.Reach.{AreInOrder, end_at, no_border}
use Rattle.er_rules.proofs.ReachLemmas.{end_at-before_all, end_at-last}
use Rattle.er_rules.proofs.reach.Reach.end_at.Goals as goal

pub returns-then-count-eq0 : goal.returns-then-count-eq0
returns-then-count-eq0 c =
    let borders = c.as_slice-borders.result.now in
    let in_order : AreInOrder borders = subst AreInOrder (sym c.as_slice-borders.ensures.value) c.self.invariant in
    let point : IsPartitionPoint (λ (b : Border). nat_le b.word c.args.word ≡ true) (λ (b : Border). nat_le b.word c.args.word ≡ false) borders c.partition_point-count.result =
    IsPartitionPoint-from_clause (λ b. nat_le b.word c.args.word) _ _ c.partition_point-count.ensures.partitioned (IsPartitionedBy-leb (λ (b : Border). b.word) _ _ in_order) (λ x b f'. search rules) in
    sym (ap (λ bs. end_at bs c.args.word) (sym (c.as_slice-borders.ensures.value ∙ c.self.view_is))
    ∙ end_at-before_all borders c.args.word c.partition_point-count.result c.if-count-eq0.true (λ k from within. leb-false _ _ (point.1 k no_border from within)))

pub returns-else-count-eq0 : goal.returns-else-count-eq0
returns-else-count-eq0 c =
    let borders = c.as_slice-borders.result.now in
    let in_order : AreInOrder borders = subst AreInOrder (sym c.as_slice-borders.ensures.value) c.self.invariant in
    let point : IsPartitionPoint (λ (b : Border). nat_le b.word c.args.word ≡ true) (λ (b : Border). nat_le b.word c.args.word ≡ false) borders c.partition_point-count.result =
    IsPartitionPoint-from_clause (λ b. nat_le b.word c.args.word) _ _ c.partition_point-count.ensures.partitioned (IsPartitionedBy-leb (λ (b : Border). b.word) _ _ in_order) (λ x b f'. search rules) in
    end_at-last borders c.args.word c.partition_point-count.result (omega arith) c.partition_point-count.ensures.bound
    (λ k within. leb-true _ _ (point.0 k no_border (omega arith) within)) (λ k from within. leb-false _ _ (point.1 k no_border from within))
    ∙ ap (λ bs. end_at bs c.args.word) (c.as_slice-borders.ensures.value ∙ c.self.view_is)

-- The set is among the others, or comes behind them.
use Rattle.std.proofs.Common.{◌≢◌, ◌∙◌, ◌≤◌, true≢false, [], ◌∷◌, ◌++◌, length, length-append, refl, ap, sym, subst, arith}
use Rattle.er_table.specs.Sets.{AreDistinct, most_sets}
use Rattle.er_table.specs.Numbers.{numbered}
use Rattle.er_table.proofs.KnownLemmas.{IsNumbered-as, IsNumbered-new}
use Rattle.er_table.proofs.SetsLemmas.{AreDistinct-push}
use Rattle.er_table.proofs.NumbersLemmas.{absent_from_others, present_from_others, set_at-found, within-found}
use Rattle.er_table.proofs.numbers.Numbers.number_of.Goals as goal

pub returns-in-Ok-clause-numbered : goal.returns-in-Ok-clause-numbered
returns-in-Ok-clause-numbered g c =
    let some : c.args.set.now ≢ [] = λ none. true≢false (sym (c.is_empty.ensures.1 none) ∙ c.if-is_empty.false) in
    let kept = g.S.Store.kept c.self.inside.others in
    let there = present_from_others kept c.args.self.now c.self.view_is c.in-Ok.place c.args.set.now c.in-Ok.ensures.within c.in-Ok.ensures.found in
    IsNumbered-as _ _ _ there (within-found kept c.args.self.now c.self.view_is c.in-Ok.place c.in-Ok.ensures.within) (set_at-found kept c.args.self.now c.self.view_is c.in-Ok.place c.args.set.now c.in-Ok.ensures.found)
    (λ none. absurd (some none)) (λ zero. absurd (omega (arith, zero)))

pub invariant_of-self-in-Err-2 : goal.invariant_of-self-in-Err-2
invariant_of-self-in-Err-2 g c =
    let some : c.args.set.now ≢ [] = λ none. true≢false (sym (c.is_empty.ensures.1 none) ∙ c.if-is_empty.false) in
    let kept = g.S.Store.kept c.self.inside.others in
    let absent = absent_from_others kept (numbered kept) refl c.args.set.now some c.in-Err-2.ensures.none in
    let added = c.in_ok-push-in-Err-2.ensures.ok in
    let limit = c.in_ok-push-in-Err-2.ensures.limit in
    let longer = length-append kept (c.args.set.now ∷ []) in
    let same = ap length c.self.view_is in
    let more = ap length added in
    record {
      distinct = subst AreDistinct (sym (ap numbered added)) (AreDistinct-push (numbered kept) c.args.set.now c.self.invariant.distinct absent);
      within = omega (arith, more, longer, same, limit, c.max_sets.ensures, c.has_all.ensures.not_all c.if-has_all.false);
      small = subst (λ n. n ≤ most_sets) (sym limit) c.self.invariant.small;
    }

pub returns-in_ok-push-in-Err-2-clause-numbered : goal.returns-in_ok-push-in-Err-2-clause-numbered
returns-in_ok-push-in-Err-2-clause-numbered g c =
    let some : c.args.set.now ≢ [] = λ none. true≢false (sym (c.is_empty.ensures.1 none) ∙ c.if-is_empty.false) in
    let kept = g.S.Store.kept c.self.inside.others in
    let absent = absent_from_others kept c.args.self.now c.self.view_is c.args.set.now some c.in-Err-2.ensures.none in
    let added = ap numbered c.in_ok-push-in-Err-2.ensures.ok ∙ ap (λ sets. sets ++ c.args.set.now ∷ []) c.self.view_is in
    let same = ap length c.self.view_is in
    IsNumbered-new c.args.self.now _ c.args.set.now _ absent some (omega arith) added (omega (arith, same))

use Rattle.std.proofs.Common.{◌∙◌, sym}
use Rattle.std.specs.HashMap.{get}
use Rattle.std.proofs.lemmas.Result.{IfOk-at_ok}
use Rattle.er_table.specs.Known.{same_pair}
use Rattle.er_table.proofs.KnownLemmas.{KeepsNumbers-from_result, RemembersMeets-more, RemembersMeets-insert, IsMeet-new}
use Rattle.er_table.proofs.known.number_anew.Goals as goal

pub returns-then-len-ge-MOST_REMEMBERED-clause-kept : goal.returns-then-len-ge-MOST_REMEMBERED-clause-kept
returns-then-len-ge-MOST_REMEMBERED-clause-kept g c =
    KeepsNumbers-from_result _ _ _ _ c.number_of_meet.ensures.ok c.number_of_meet.ensures.err

pub returns-then-len-ge-MOST_REMEMBERED-clause-right : goal.returns-then-len-ge-MOST_REMEMBERED-clause-right
returns-then-len-ge-MOST_REMEMBERED-clause-right g c =
    RemembersMeets-more _ _ (get same_pair c.args.meets.now) (KeepsNumbers-from_result _ _ _ _ c.number_of_meet.ensures.ok c.number_of_meet.ensures.err) c.requires.right

pub returns-in_err-reserve-clause-right : goal.returns-in_err-reserve-clause-right
returns-in_err-reserve-clause-right g c = λ pair n found. c.requires.right pair n (sym (c.reserve.ensures.entries.2 pair) ∙ found)

pub returns-in_err-number-clause-kept : goal.returns-in_err-number-clause-kept
returns-in_err-number-clause-kept g c =
    KeepsNumbers-from_result _ _ _ _ c.number_of_meet-2.ensures.ok c.number_of_meet-2.ensures.err

pub returns-in_err-number-clause-right : goal.returns-in_err-number-clause-right
returns-in_err-number-clause-right g c =
    RemembersMeets-more _ _ (get same_pair c.reserve.new.self) (KeepsNumbers-from_result _ _ _ _ c.number_of_meet-2.ensures.ok c.number_of_meet-2.ensures.err)
    (λ pair n found. c.requires.right pair n (sym (c.reserve.ensures.entries.2 pair) ∙ found))

pub returns-clause-kept : goal.returns-clause-kept
returns-clause-kept g c =
    KeepsNumbers-from_result _ _ _ _ c.number_of_meet-2.ensures.ok c.number_of_meet-2.ensures.err

pub returns-clause-right : goal.returns-clause-right
returns-clause-right g c =
    let keeps = KeepsNumbers-from_result _ _ _ _ c.number_of_meet-2.ensures.ok c.number_of_meet-2.ensures.err in
    let number = c.in_ok-number.ensures in
    RemembersMeets-insert _ (get same_pair c.reserve.new.self) _ _ c.in_ok-number.number
    (IsMeet-new _ _ _ _ keeps c.requires.first c.requires.second number.number number.names number.empty number.only_empty)
    (IfOk-at_ok _ c.unwrap.ensures c.insert-inserted.ensures.updates).0
    (RemembersMeets-more _ _ (get same_pair c.reserve.new.self) keeps (λ pair n found. c.requires.right pair n (sym (c.reserve.ensures.entries.2 pair) ∙ found)))

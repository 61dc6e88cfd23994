use Rattle.std.proofs.Common.{ap}
use Rattle.std.proofs.lemmas.Result.{IfOk-at_ok}
use Rattle.std.specs.Map.{keys_of}
use Rattle.indexmap.specs.IndexMap.{keys}
use Rattle.er_table.proofs.SetsLemmas.{keys-added}
use Rattle.er_table.proofs.book.append.Goals as goal

pub returns-clause-ok : goal.returns-clause-ok
returns-clause-ok g c =
    keys-added c.reserve.new.self c.insert.new.self (keys c.args.places.now) _ _ _ (ap keys_of c.reserve.ensures.entries) c.in_ok-copy.ensures.ok c.requires
    (IfOk-at_ok _ c.unwrap.ensures c.insert.ensures.entries)

use Rattle.er_order.specs.Parts.{Part}
use Rattle.er_order.proofs.Parts.{part-noted, parts-grow, parts-noted}
use Rattle.er_order.proofs.bytes.what_is_of_no_use_may_go.Goals as goal

pub returns-clause-noted : goal.returns-clause-noted
returns-clause-noted c = part-noted (λ (part : Part). part)

pub returns-clause-grows : goal.returns-clause-grows
returns-clause-grows c = parts-grow (λ (part : Part). part)

pub returns-clause-accessed : goal.returns-clause-accessed
returns-clause-accessed c = λ steps step t access stored all after now. parts-noted (λ (part : Part). part) steps step t access now stored all after

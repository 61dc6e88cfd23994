use Rattle.er_order.proofs.Order.{happens_before-leads, happens_before-chain, happens_before-least, happens_before-below}
use Rattle.er_order.proofs.laws.order_is_by_chains.Goals as goal

pub returns-clause-leads : goal.returns-clause-leads
returns-clause-leads c = happens_before-leads

pub returns-clause-chain : goal.returns-clause-chain
returns-clause-chain c = happens_before-chain

pub returns-clause-least : goal.returns-clause-least
returns-clause-least c = happens_before-least

pub returns-clause-earlier : goal.returns-clause-earlier
returns-clause-earlier c = happens_before-below

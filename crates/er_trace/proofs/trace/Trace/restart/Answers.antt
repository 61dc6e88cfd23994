use Rattle.er_trace.proofs.FirstLemmas.{has_begun}
use Rattle.er_trace.proofs.trace.Trace.restart.Goals as goal

pub returns-clause-known : goal.returns-clause-known
returns-clause-known c = has_begun c.args.others.now c.self.inside.names c.follow.new.self c.follow.ensures

-- A batch goes on behind the steps that are forgotten, and with the last one they are the text's.
use Rattle.std.proofs.Common.{sym, subst}
use Rattle.er_device.specs.Device.{inner_of}
use Rattle.er_places.proofs.TextLemmas.{come-enough, come-part, come-whole}
use Rattle.er_places.specs.Inner.Following.{HasCome}
use Rattle.er_places.specs.Wanted.{is_wanted}
use Rattle.er_trace.specs.Trace.{Recording}
use Rattle.er_places.proofs.finding.Finder.turn.Goals as goal

pub returns-in-End-clause-ended : goal.returns-in-End-clause-ended
returns-in-End-clause-ended g c = λ told state last.
    come-whole (is_wanted c.args.wanted.now.keys) told c.args.self.now.lines c.next_batch.new.self (g.D.Read.remaining (inner_of c.args.reader.now)) (g.D.Read.remaining (inner_of c.next_batch.new.reader)) c.args.self.now.trace
    c.next_batch.new.trace c.in_ok-batch.batch c.args.self.now.follower c.follow.new.self state c.in_ok-batch.ensures.told c.in_ok-batch.ensures.grows.names c.follow.ensures.level c.follow.ensures.named
    (c.in_ok-follow.ensures.stands state.past state.lines state.even state.stands) c.in-End.is c.in_ok-batch.ensures.limit

pub returns-else-has_all-clause-come : goal.returns-else-has_all-clause-come
returns-else-has_all-clause-come g c = λ told state more.
    subst (λ (t : Recording). HasCome (is_wanted c.args.wanted.now.keys) told (g.D.Read.remaining (inner_of c.next_batch.new.reader)) c.next_batch.new.self t c.follow.new.self) (sym c.clear.ensures)
    (come-part (is_wanted c.args.wanted.now.keys) told c.args.self.now.lines c.next_batch.new.self (g.D.Read.remaining (inner_of c.args.reader.now)) (g.D.Read.remaining (inner_of c.next_batch.new.reader)) c.args.self.now.trace
    c.next_batch.new.trace c.in_ok-batch.batch c.args.self.now.follower c.follow.new.self state c.in_ok-batch.ensures.told c.in_ok-batch.ensures.grows.names c.follow.ensures.level c.follow.ensures.named
    (c.in_ok-follow.ensures.stands state.past state.lines state.even state.stands) c.in-More.is)

pub returns-then-has_all-clause-ended : goal.returns-then-has_all-clause-ended
returns-then-has_all-clause-ended g c = λ told state last.
    come-enough (is_wanted c.args.wanted.now.keys) told c.args.self.now.lines c.next_batch.new.self (g.D.Read.remaining (inner_of c.args.reader.now)) (g.D.Read.remaining (inner_of c.next_batch.new.reader)) c.args.self.now.trace
    c.next_batch.new.trace c.in_ok-batch.batch c.args.self.now.follower c.follow.new.self state c.in_ok-batch.ensures.told c.in_ok-batch.ensures.grows.names c.follow.ensures.level c.follow.ensures.named
    (c.in_ok-follow.ensures.stands state.past state.lines state.even state.stands) c.in-More.is c.in_ok-batch.ensures.limit (c.has_all.ensures c.if-has_all.true)

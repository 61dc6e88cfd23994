-- What the window shows is the next line of what is left.
use Rattle.std.proofs.Common.{◌≤◌, ◌<◌, Err, length, subst, arith}
use Rattle.er_device.specs.Device.{inner_of}
use Rattle.er_lines.specs.declared.lines.FrontLine.{FrontLine}
use Rattle.er_lines.specs.Places.{Place}
use Rattle.er_lines.specs.Inner.Windows.{items}
use Rattle.er_lines.specs.Lending.{lines_left, Finds}
use Rattle.er_lines.proofs.LendingLemmas.{whole_first, last_first, long_first, first_found}
use Rattle.er_lines.proofs.lines.LineReader.find.Goals as goal

pub returns-in-Long-clause-found : goal.returns-in-Long-clause-found
returns-in-Long-clause-found g c =
    let front = rw c.in-Long.is at c.in_ok-find.ensures.front in
    let at : Place = record { limit = c.self.inside.limit; number = c.self.inside.number; start = c.self.inside.start; ahead = items c.find.new.self } in
    let known = g.R.Read.remaining (inner_of c.find.new.reader) in
    let P : Place → Type 0 = λ p. Finds (lines_left p (g.R.Read.remaining (inner_of c.args.reader.now))) at known (Err c.fault_at.result) in
    subst P c.self.view_is (rw c.fault_at.ensures (long_first at _ known c.in_ok-find.ensures.same front))

pub returns-in-Whole-clause-found : goal.returns-in-Whole-clause-found
returns-in-Whole-clause-found g c =
    let front = rw c.in-Whole.is at c.in_ok-find.ensures.front in
    let at : Place = record { limit = c.self.inside.limit; number = c.self.inside.number; start = c.self.inside.start; ahead = items c.find.new.self } in
    let known = g.R.Read.remaining (inner_of c.find.new.reader) in
    let line : FrontLine = record { len = c.in-Whole.len; breaks = 1 } in
    let fits : c.in-Whole.len ≤ length at.ahead = omega (arith, front.1) in
    let P : Place → Type 0 = λ p. Finds (lines_left p (g.R.Read.remaining (inner_of c.args.reader.now))) at known c.within.result in
    subst P c.self.view_is (first_found at line _ known c.within.result front.2 fits (whole_first at _ known c.in-Whole.len c.in_ok-find.ensures.same front.0 front.1) c.within.ensures)

pub returns-in-Last-clause-found : goal.returns-in-Last-clause-found
returns-in-Last-clause-found g c =
    let front = rw c.in-Last.is at c.in_ok-find.ensures.front in
    let at : Place = record { limit = c.self.inside.limit; number = c.self.inside.number; start = c.self.inside.start; ahead = items c.find.new.self } in
    let known = g.R.Read.remaining (inner_of c.find.new.reader) in
    let line : FrontLine = record { len = c.in-Last.len; breaks = 0 } in
    let fits : c.in-Last.len ≤ length at.ahead = omega (arith, front.1) in
    let some : 0 < c.in-Last.len = omega (arith, c.in-Last.len-test.1) in
    let P : Place → Type 0 = λ p. Finds (lines_left p (g.R.Read.remaining (inner_of c.args.reader.now))) at known c.within-in-Last.result in
    subst P c.self.view_is (first_found at line _ known c.within-in-Last.result front.2 fits (last_first at _ known c.in-Last.len c.in_ok-find.ensures.same front.3 front.0 front.1 some) c.within-in-Last.ensures)

-- What the step's brief answer says, the whole one says, but for a show that finds no memory, which changes nothing.
use Rattle.std.proofs.Common.{◌∙◌}
use Rattle.er_replay.specs.Standing.{holding, states}
use Rattle.er_replay.proofs.BriefLemmas.{answers, brief-room, full-table, if_err, refused, show-no-access, shows, show-wants, whole}
use Rattle.er_replay.proofs.machine.MachineIn.step.Goals as goal

pub returns-clause-answer : goal.returns-clause-answer
returns-clause-answer g c past stands room =
    let e = c.args.step.event in
    whole (states c.take-brief.new.self) e c.take-brief.result.0 c.in_full.result c.in_full.ensures room
    ∙ c.take-brief.ensures.answer past stands (brief-room (states c.take-brief.new.self) e c.take-brief.result.0 c.in_full.result c.in_full.ensures room)

pub returns-clause-goes_on : goal.returns-clause-goes_on
returns-clause-goes_on g c past stands room =
    c.take-brief.ensures.goes_on past stands (brief-room (states c.take-brief.new.self) c.args.step.event c.take-brief.result.0 c.in_full.result c.in_full.ensures room)

pub returns-clause-err : goal.returns-clause-err
returns-clause-err g c past stands =
    if_err (states c.take-brief.new.self) c.args.step.event c.take-brief.result.0 c.in_full.result c.in_full.ensures _ (c.take-brief.ensures.err past stands)
    (λ shown. c.take-brief.ensures.still (c.take-brief.ensures.shows shown) past stands)

pub returns-clause-refused : goal.returns-clause-refused
returns-clause-refused g c why so =
    refused (states c.take-brief.new.self) c.args.step.event c.take-brief.result.0 c.in_full.result c.in_full.ensures why (c.take-brief.ensures.refused why so)

pub returns-clause-room : goal.returns-clause-room
returns-clause-room g c none =
    if_err (states c.take-brief.new.self) c.args.step.event c.take-brief.result.0 c.in_full.result c.in_full.ensures _ (c.take-brief.ensures.room none)
    (λ shown. show-wants (holding c.args.self.now c.args.step.thread) (states c.args.self.now) c.args.step.thread c.args.step.event (c.take-brief.ensures.shows shown))

pub returns-clause-table_full : goal.returns-clause-table_full
returns-clause-table_full g c full =
    c.take-brief.ensures.table_full (full-table (states c.take-brief.new.self) c.args.step.event c.take-brief.result.0 c.in_full.result c.in_full.ensures full)

pub returns-clause-ignored : goal.returns-clause-ignored
returns-clause-ignored g c deep access =
    answers (states c.take-brief.new.self) c.args.step.event c.take-brief.result.0 c.in_full.result c.in_full.ensures (c.take-brief.ensures.ignored deep access)
    (λ shown. let never = show-no-access c.args.step.event (c.take-brief.ensures.shows shown) in cc)

pub returns-clause-shows : goal.returns-clause-shows
returns-clause-shows g c state =
    c.take-brief.ensures.shows (shows (states c.take-brief.new.self) c.args.step.event c.take-brief.result.0 c.in_full.result c.in_full.ensures state)

pub returns-clause-answered : goal.returns-clause-answered
returns-clause-answered g c room =
    let e = c.args.step.event in
    whole (states c.take-brief.new.self) e c.take-brief.result.0 c.in_full.result c.in_full.ensures room
    ∙ c.take-brief.ensures.answered (brief-room (states c.take-brief.new.self) e c.take-brief.result.0 c.in_full.result c.in_full.ensures room)

pub returns-clause-holdings : goal.returns-clause-holdings
returns-clause-holdings g c room =
    c.take-brief.ensures.holdings (brief-room (states c.take-brief.new.self) c.args.step.event c.take-brief.result.0 c.in_full.result c.in_full.ensures room)

pub returns-clause-states : goal.returns-clause-states
returns-clause-states g c room =
    c.take-brief.ensures.states (brief-room (states c.take-brief.new.self) c.args.step.event c.take-brief.result.0 c.in_full.result c.in_full.ensures room)

-- Lines that were read ahead, or else the next one.
use Rattle.er_device.specs.Device.{inner_of}
use Rattle.er_text.proofs.GrowthLemmas.{grows_on}
use Rattle.er_text.proofs.KnownLemmas.{right_on}
use Rattle.er_text.proofs.reading.TraceReader.next_lines.Goals as goal

pub returns-then-count-gt0-clause-right : goal.returns-then-count-gt0-clause-right
returns-then-count-gt0-clause-right g c = right_on (g.S.Shortcut.names_of (inner_of c.args.reader.now)) c.args.trace.now.names c.read_ahead.new.trace.names c.args.numbers.now c.in_ok-count.ensures.grows.names c.requires.right

pub next_line-requires-clause-right : goal.next_line-requires-clause-right
next_line-requires-clause-right g c = right_on (g.S.Shortcut.names_of (inner_of c.args.reader.now)) c.args.trace.now.names c.read_ahead.new.trace.names c.args.numbers.now c.in_ok-count.ensures.grows.names c.requires.right

pub returns-clause-grows : goal.returns-clause-grows
returns-clause-grows g c = grows_on _ _ _ c.in_ok-count.ensures.grows c.in_ok-more.ensures.grows

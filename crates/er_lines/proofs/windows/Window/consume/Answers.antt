use Rattle.er_lines.proofs.WindowLemmas.{passed_over}
use Rattle.er_lines.proofs.windows.Window.consume.Goals as goal

pub returns : goal.returns
returns c = let w = c.args.self.now in passed_over w.bytes.items w.start w.end c.args.count c.requires

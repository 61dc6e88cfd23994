use Rattle.std.proofs.Common.{◌≡◌, ◌+◌, ◌-◌, ◌≤◌, ℕ, List, [], Option, IfSome, false}
use Rattle.er_batch.specs.Analysts.{Asked}
use Rattle.er_batch.specs.Inner.Passes.{HasCome, StandsFor, Tells}
use Rattle.er_reading.specs.Chunks.{AreFormed}
use Rattle.er_device.specs.Device.{inner_of, has_failed, taken_of}
use Rattle.er_lines.specs.Lending.{taken_by}
use Rattle.er_lines.specs.declared.ready.Touch.{Touch}
use Rattle.er_batch.proofs.passes.Pass.run.Given as goal

-- what a turn wants, and that it goes on from where the pass began
abbrev pub invariant-loop-watcher : goal.invariant-loop-watcher
invariant-loop-watcher g l = record {
  part : l.self.part ≡ l.fn.self.part;
  unfailed : has_failed l.reader ≡ false;
  limit : l.self.lines.place.limit ≡ l.fn.self.lines.place.limit;
  taken : taken_of l.reader + taken_by l.fn.self.lines.place ≤ taken_of l.fn.reader + taken_by l.self.lines.place;
  tells : (all : List Touch) → Tells all l.fn.self.touches.items (g.S.Shortcut.touches (inner_of l.fn.reader)) l.fn.self.from 0 → Tells all l.self.touches.items (g.S.Shortcut.touches (inner_of l.reader)) l.self.from 0;
  come : (asked : Asked) (told : Option (List ℕ)) → IfSome asked.touches (λ all. Tells all l.fn.self.touches.items (g.S.Shortcut.touches (inner_of l.fn.reader)) l.fn.self.from 0) → HasCome (StandsFor l.fn.self.part (λ r. g.A.Analyst.stands l.fn.self.analyst asked r []) l.fn.self.of_pages) told (g.D.Read.remaining (inner_of l.fn.reader)) l.fn.self.lines l.fn.self.trace l.fn.self.last.items
      → HasCome (StandsFor l.self.part (λ r. g.A.Analyst.stands l.self.analyst asked r []) l.self.of_pages) told (g.D.Read.remaining (inner_of l.reader)) l.self.lines l.self.trace l.self.last.items;
  formed : AreFormed l.self.trace.names l.self.last.items;
}

abbrev pub decreases-loop-watcher : goal.decreases-loop-watcher
decreases-loop-watcher g l = l.self.lines.place.limit - l.self.lines.place.start

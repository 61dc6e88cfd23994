use Rattle.std.proofs.Common.{◌≡◌, ◌+◌, ◌-◌, ◌≤◌, ℕ, List, Option, false}
use Rattle.er_device.specs.Device.{inner_of, has_failed, taken_of}
use Rattle.er_lines.specs.Lending.{taken_by}
use Rattle.er_places.specs.Inner.Following.{HasCome}
use Rattle.er_places.specs.Wanted.{is_wanted}
use Rattle.er_places.proofs.finding.Finder.run.Given as goal

-- what a turn wants, and that it goes on from where the reading began
abbrev pub invariant-loop : goal.invariant-loop
invariant-loop g l = record {
  unfailed : has_failed l.reader ≡ false;
  limit : l.self.lines.place.limit ≡ l.fn.self.lines.place.limit;
  taken : taken_of l.reader + taken_by l.fn.self.lines.place ≤ taken_of l.fn.reader + taken_by l.self.lines.place;
  come : (told : Option (List ℕ)) → HasCome (is_wanted l.wanted.keys) told (g.D.Read.remaining (inner_of l.fn.reader)) l.fn.self.lines l.fn.self.trace l.fn.self.follower
      → HasCome (is_wanted l.wanted.keys) told (g.D.Read.remaining (inner_of l.reader)) l.self.lines l.self.trace l.self.follower;
}

abbrev pub decreases-loop : goal.decreases-loop
decreases-loop g l = l.self.lines.place.limit - l.self.lines.place.start

-- The sites of the races so far, and the lines that these ask about.
use Rattle.std.proofs.Common.{◌≡◌, ℕ, ◌||◌, take}
use Rattle.std.specs.List.{list_any}
use Rattle.er_event.specs.declared.steps.Kind.{Kind}
use Rattle.er_places.specs.Inner.Sites.{has_site}
use Rattle.er_places.specs.Wanted.{asked_below, is_race_at, is_wanted}
use Rattle.er_places.proofs.wanted.Wanted.add_report.Given as goal

abbrev pub invariant-loop-line : goal.invariant-loop-line
invariant-loop-line l = record {
  sites : (s : ℕ) (k : Kind) → has_site l.sites.keys s k ≡ list_any (is_race_at s k) (take l.line-index l.line-items);
  lines : (line : ℕ) → is_wanted l.self.lines.keys line ≡ (is_wanted l.fn.self.lines.keys line || asked_below l.line-items line l.line-index);
}

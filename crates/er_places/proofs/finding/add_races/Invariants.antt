-- The races of the lines so far were added.
use Rattle.std.proofs.Common.{◌≡◌, ℕ, ◌||◌, take}
use Rattle.std.specs.List.{list_any}
use Rattle.er_places.specs.Races.{accesses, is_on, tells_race}
use Rattle.er_places.specs.Wanted.{is_wanted}
use Rattle.er_places.proofs.finding.add_races.Given as goal

abbrev pub invariant-loop-line : goal.invariant-loop-line
invariant-loop-line l = record {
  lines : (number : ℕ) → is_wanted l.lines.items number ≡ (is_wanted l.fn.lines.items number || list_any (tells_race (is_on number)) (take l.line-index l.line-items));
  words : (word : ℕ) → is_wanted l.words.items word ≡ (is_wanted l.fn.words.items word || list_any (tells_race (accesses word)) (take l.line-index l.line-items));
}

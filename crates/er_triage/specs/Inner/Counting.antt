-- The known races once one more line was gone over.
use Rattle.std.specs.Prelude.{ℕ, ◌+◌, ◌-◌, ◌^◌, min, List, [], ◌∷◌, ◌++◌, map, slice_get, slice_set, Option, Some, None}
use Rattle.std.specs.List.{fold}
use Rattle.er_report.specs.declared.report.Line.{Line}
use Rattle.er_trace.specs.Names.{NameTable}
use Rattle.er_triage.specs.Known.{known_target, race_of, rule_of}
use Rattle.er_triage.specs.declared.known.KnownRace.{KnownRace}

-- its rule takes one race more
abbrev pub one_more : KnownRace → KnownRace
one_more race = record race { races = min (race.races + 1) (2 ^ 64 - 1) }

-- the rule in this place takes one race more
abbrev pub with_one_more : List KnownRace → ℕ → Option KnownRace → List KnownRace
with_one_more known place None = known
with_one_more known place (Some race) = slice_set known place (one_more race)

-- the rule in this place takes the race, or none does
abbrev pub with_race_at : Option ℕ → List KnownRace → KnownRace → List KnownRace
with_race_at None known race = known ++ race ∷ []
with_race_at (Some place) known race = with_one_more known place (slice_get known place)

-- the known races with another, if there is one
abbrev pub with_race : NameTable → List KnownRace → Option KnownRace → List KnownRace
with_race names known None = known
with_race names known (Some race) = with_race_at (rule_of names (map (known_target names) known) race.deed race.site) known race

-- the known races behind these lines
abbrev pub with_races : NameTable → List KnownRace → List Line → List KnownRace
with_races names known lines = fold (λ known line. with_race names known (race_of line)) known lines

-- A list of races that grows by a journal's entries that pass the test lists races alone.
use Rattle.std.proofs.Common.{◌≡◌, List, ◌++◌, filter, true, refl}
use Rattle.std.specs.List.{All}
use Rattle.std.proofs.lemmas.List.Elements.{All-append, All-same, All-weaker, filter_passes}
use Rattle.er_event.specs.declared.steps.Reply.{Reply}
use Rattle.er_event.specs.declared.steps.Reply.TheVariants.{Done, Quiet, Race, Ignored, State}
use Rattle.er_journal.specs.Entries.{Entry}
use Rattle.er_settle.specs.Runs.{answers_race}
use Rattle.er_detector.specs.Races.{is_race, IsRace}

race-told : (reply : Reply) → answers_race reply ≡ true → reply ≡ Race
race-told Race told = refl
race-told Done told = cc
race-told Quiet told = cc
race-told Ignored told = cc
race-told (State s) told = cc

pub races-added : (races now journal : List Entry) → All IsRace races → now ≡ races ++ filter is_race journal → All IsRace now
races-added races now journal all grown =
    All-same IsRace now (races ++ filter is_race journal) grown
    (All-append IsRace races (filter is_race journal) all
    (All-weaker (λ entry. is_race entry ≡ true) IsRace (λ entry told. race-told entry.reply told) (filter is_race journal) (filter_passes is_race journal)))

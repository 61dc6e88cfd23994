use Rattle.std.proofs.Common.{◌≡◌, ◌++◌, take, flat_map, codes}
use Rattle.er_triage.specs.Texts.{known_text}
use Rattle.er_triage.proofs.texts.known_races_text.Given as goal

abbrev pub invariant-loop-race : goal.invariant-loop-race
invariant-loop-race l =
    l.text.items ≡ codes "# Known races, written by eraser replay --write-rules\n" ++ flat_map (known_text l.names) (take l.race-index l.known)

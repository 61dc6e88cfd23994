use Rattle.std.proofs.Common.{◌≡◌, ◌<◌, IfSome}
use Rattle.er_json.specs.Places.{colon_below}
use Rattle.er_json.proofs.locations.last_colon.Given as goal

abbrev pub invariant-loop-place : goal.invariant-loop-place
invariant-loop-place l = record {
  within : IfSome l.found (λ place. place < l.place);
  found : l.found ≡ colon_below l.name l.place;
}

-- The pairs in front of the rest are fed.
use Rattle.std.proofs.Common.{◌≡◌, length}
use Rattle.std.specs.List.{fold}
use Rattle.er_event.specs.Lockset.{hashed}
use Rattle.er_event.proofs.locks.LocksetHash.hash.Given as goal

abbrev pub invariant-loop-pair : goal.invariant-loop-pair
invariant-loop-pair g l = record { same : fold g.H.Hasher.write l.state (hashed l.rest) ≡ fold g.H.Hasher.write l.fn.state (hashed l.self) }

abbrev pub decreases-loop-pair : goal.decreases-loop-pair
decreases-loop-pair g l = length l.rest

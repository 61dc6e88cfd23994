use Rattle.er_places.proofs.PlaceLemmas.{stands-start}
use Rattle.er_places.specs.Wanted.{is_wanted}
use Rattle.er_places.proofs.follower.Follower.new.Goals as goal

pub returns : goal.returns
returns c = λ wanted. stands-start (is_wanted wanted) _ c.new.ensures c.with_hasher.ensures.empty

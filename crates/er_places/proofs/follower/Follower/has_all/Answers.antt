-- All wanted lines were looked at.
use Rattle.std.proofs.Common.{◌∙◌, ℕ, sym, subst, is_some, IsSome}
use Rattle.er_places.proofs.PlaceLemmas.{passed}
use Rattle.er_places.specs.Inner.Following.{Followed}
use Rattle.er_places.specs.Places.{place_in}
use Rattle.er_places.proofs.follower.Follower.has_all.Goals as goal

pub returns-then-len : goal.returns-then-len
returns-then-len c = λ yes line wanted.
    subst (λ (f : Followed). IsSome (place_in f.places line)) c.self.view_is
    (passed (λ (l : ℕ). is_some (place_in c.self.inside.places.entries l)) c.args.wanted.now.keys line (sym c.are_in.ensures ∙ yes) wanted)

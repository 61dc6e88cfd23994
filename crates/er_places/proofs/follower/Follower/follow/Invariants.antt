-- The follower stands for the steps so far.
use Rattle.std.proofs.Common.{◌≡◌, ◌++◌, ℕ, List, length, take}
use Rattle.er_event.specs.declared.steps.Step.{Step}
use Rattle.er_places.specs.Inner.Following.{HasFollowed}
use Rattle.er_places.specs.Wanted.{is_wanted}
use Rattle.er_places.proofs.follower.Follower.follow.Given as goal

abbrev pub invariant-loop-k : goal.invariant-loop-k
invariant-loop-k l = (past : List Step) (numbers : List ℕ) → length numbers ≡ length past → HasFollowed (is_wanted l.wanted.keys) l.fn.self past numbers
    → HasFollowed (is_wanted l.wanted.keys) l.self (past ++ take l.k l.steps) (numbers ++ take l.k l.lines)

-- The words in front of the rest are taken.
use Rattle.std.proofs.Common.{◌≡◌, length}
use Rattle.er_merge.specs.Headings.{digest_after}
use Rattle.er_merge.proofs.headings.digest_after.Given as goal

abbrev pub invariant-loop-word : goal.invariant-loop-word
invariant-loop-word l = record { same : digest_after l.sum l.rest ≡ digest_after l.digest l.bytes }

abbrev pub decreases-loop-word : goal.decreases-loop-word
decreases-loop-word l = length l.rest

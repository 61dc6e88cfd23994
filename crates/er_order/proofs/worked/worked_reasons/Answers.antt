use Rattle.std.proofs.Common.{refl}
use Rattle.er_model.specs.Search.{some_below, least_below, greatest_below}
use Rattle.er_model.specs.Words.{reuses, counts, thread_of, writes, era}
use Rattle.er_event.specs.Lockset.{with_lock, locks_from}
use Rattle.er_model.specs.Threads.{acquires, releases, acquired, level_from, level_of, holds, named, acquired_locks, acquired_to_write, held, write_held, depth, refusal, accepted}
use Rattle.er_model.specs.Answers.{mark, reading_of}
use Rattle.er_order.specs.Order.{leads, reached, happens_before, acts_of}
use Rattle.er_order.specs.Races.{conflicts, is_race, had_race, last_use, is_in_use, word_in_use}
use Rattle.er_order.specs.Reasons.{last_unordered, unordered_with}
use Rattle.er_order.specs.Examples.{chain, double_checked, no_lock, one_reader_joined, other_reader_joined, queue, reuse_between, reuse_joined, reuse_of_three, two_readers}
use Rattle.er_order.proofs.worked.worked_reasons.Goals as goal

pub returns-clause-no_lock : goal.returns-clause-no_lock
unfolding no_lock unordered_with last_unordered conflicts leads reached happens_before acts_of reuses counts thread_of writes era acquires releases acquired level_from level_of holds with_lock named acquired_locks acquired_to_write locks_from held write_held depth refusal accepted mark reading_of greatest_below
returns-clause-no_lock c = refl

pub returns-clause-queue : goal.returns-clause-queue
unfolding queue unordered_with last_unordered conflicts leads reached happens_before acts_of reuses counts thread_of writes era acquires releases acquired level_from level_of holds with_lock named acquired_locks acquired_to_write locks_from held write_held depth refusal accepted mark reading_of greatest_below
returns-clause-queue c = refl

pub returns-clause-chain : goal.returns-clause-chain
unfolding chain unordered_with last_unordered conflicts leads reached happens_before acts_of reuses counts thread_of writes era acquires releases acquired level_from level_of holds with_lock named acquired_locks acquired_to_write locks_from held write_held depth refusal accepted mark reading_of greatest_below
returns-clause-chain c = refl

pub returns-clause-one_reader_joined : goal.returns-clause-one_reader_joined
unfolding one_reader_joined unordered_with last_unordered conflicts leads reached happens_before acts_of reuses counts thread_of writes era acquires releases acquired level_from level_of holds with_lock named acquired_locks acquired_to_write locks_from held write_held depth refusal accepted mark reading_of greatest_below
returns-clause-one_reader_joined c = refl

pub returns-clause-other_reader_joined : goal.returns-clause-other_reader_joined
unfolding other_reader_joined unordered_with last_unordered conflicts leads reached happens_before acts_of reuses counts thread_of writes era acquires releases acquired level_from level_of holds with_lock named acquired_locks acquired_to_write locks_from held write_held depth refusal accepted mark reading_of greatest_below
returns-clause-other_reader_joined c = refl

pub returns-clause-two_readers : goal.returns-clause-two_readers
unfolding two_readers unordered_with last_unordered conflicts leads reached happens_before acts_of reuses counts thread_of writes era acquires releases acquired level_from level_of holds with_lock named acquired_locks acquired_to_write locks_from held write_held depth refusal accepted mark reading_of greatest_below
returns-clause-two_readers c = refl

pub returns-clause-double_checked : goal.returns-clause-double_checked
unfolding double_checked unordered_with last_unordered conflicts leads reached happens_before acts_of reuses counts thread_of writes era acquires releases acquired level_from level_of holds with_lock named acquired_locks acquired_to_write locks_from held write_held depth refusal accepted mark reading_of greatest_below
returns-clause-double_checked c = refl

pub returns-clause-reuse_between : goal.returns-clause-reuse_between
unfolding reuse_between unordered_with last_unordered conflicts leads reached happens_before acts_of reuses counts thread_of writes era acquires releases acquired level_from level_of holds with_lock named acquired_locks acquired_to_write locks_from held write_held depth refusal accepted mark reading_of greatest_below
returns-clause-reuse_between c = refl

pub returns-clause-reuse_itself : goal.returns-clause-reuse_itself
unfolding reuse_between unordered_with last_unordered conflicts leads reached happens_before acts_of reuses counts thread_of writes era acquires releases acquired level_from level_of holds with_lock named acquired_locks acquired_to_write locks_from held write_held depth refusal accepted mark reading_of greatest_below last_use is_in_use word_in_use had_race is_race least_below some_below
returns-clause-reuse_itself c = refl

pub returns-clause-reuse_joined : goal.returns-clause-reuse_joined
unfolding reuse_joined unordered_with last_unordered conflicts leads reached happens_before acts_of reuses counts thread_of writes era acquires releases acquired level_from level_of holds with_lock named acquired_locks acquired_to_write locks_from held write_held depth refusal accepted mark reading_of greatest_below last_use is_in_use word_in_use had_race is_race least_below some_below
returns-clause-reuse_joined c = refl

pub returns-clause-reuse_of_three : goal.returns-clause-reuse_of_three
unfolding reuse_of_three unordered_with last_unordered conflicts leads reached happens_before acts_of reuses counts thread_of writes era acquires releases acquired level_from level_of holds with_lock named acquired_locks acquired_to_write locks_from held write_held depth refusal accepted mark reading_of greatest_below last_use is_in_use word_in_use had_race is_race least_below some_below
returns-clause-reuse_of_three c = refl

use Rattle.std.proofs.Common.{refl}
use Rattle.er_model.specs.Search.{some_below, every_below, least_below, greatest_below}
use Rattle.er_model.specs.Words.{reuses, counts, thread_of, writes, cover_of, era, first, join, candidates, written, racy, reported, state}
use Rattle.er_event.specs.Lockset.{with_lock, locks_from}
use Rattle.er_model.specs.Threads.{acquires, releases, acquired, level_from, level_of, holds, named, acquired_locks, acquired_to_write, held, write_held, depth, refusal, accepted}
use Rattle.er_model.specs.Answers.{mark, reading_of, reply, answer, answers_below}
use Rattle.er_order.specs.Order.{leads, reached, happens_before, acts_of}
use Rattle.er_order.specs.Races.{conflicts, is_race, had_race, is_reported, last_use, is_in_use, word_in_use, order_reply, order_answer, order_answers_below}
use Rattle.er_order.specs.Examples.{awaited_early, bracket, chain, double_checked, double_checked_in_order, joined_late, levels, locked_later, no_lock, one_reader_joined, only_read, queue, read_and_write_locks, read_locks, readers_joined, refused_release, reuse_between, reuse_joined, reuse_too_early, reuse_locked, reuse_after_race, reuse_in_bracket, reuse_of_three, rounds, semaphore, too_early, two_holders}
use Rattle.er_order.proofs.worked.worked_races.Goals as goal

pub returns-clause-queue : goal.returns-clause-queue
unfolding queue conflicts is_race is_reported order_reply order_answer order_answers_below leads reached happens_before acts_of reuses counts thread_of writes cover_of era acquires releases acquired level_from level_of holds with_lock named acquired_locks acquired_to_write locks_from held write_held depth refusal accepted mark reading_of reply some_below every_below greatest_below
returns-clause-queue c = refl

pub returns-clause-queue_by_locks : goal.returns-clause-queue_by_locks
unfolding queue first join candidates written racy reported state answer answers_below least_below reuses counts thread_of writes cover_of era acquires releases acquired level_from level_of holds with_lock named acquired_locks acquired_to_write locks_from held write_held depth refusal accepted mark reading_of reply some_below every_below greatest_below
returns-clause-queue_by_locks c = refl

pub returns-clause-locked_later : goal.returns-clause-locked_later
unfolding locked_later conflicts is_race is_reported order_reply order_answer order_answers_below leads reached happens_before acts_of reuses counts thread_of writes cover_of era acquires releases acquired level_from level_of holds with_lock named acquired_locks acquired_to_write locks_from held write_held depth refusal accepted mark reading_of reply some_below every_below greatest_below
returns-clause-locked_later c = refl

pub returns-clause-locked_later_by_locks : goal.returns-clause-locked_later_by_locks
unfolding locked_later first join candidates written racy reported state answer answers_below least_below reuses counts thread_of writes cover_of era acquires releases acquired level_from level_of holds with_lock named acquired_locks acquired_to_write locks_from held write_held depth refusal accepted mark reading_of reply some_below every_below greatest_below
returns-clause-locked_later_by_locks c = refl

pub returns-clause-no_lock : goal.returns-clause-no_lock
unfolding no_lock conflicts is_race is_reported order_reply order_answer order_answers_below leads reached happens_before acts_of reuses counts thread_of writes cover_of era acquires releases acquired level_from level_of holds with_lock named acquired_locks acquired_to_write locks_from held write_held depth refusal accepted mark reading_of reply some_below every_below greatest_below
returns-clause-no_lock c = refl

pub returns-clause-too_early : goal.returns-clause-too_early
unfolding too_early conflicts is_race is_reported order_reply order_answer order_answers_below leads reached happens_before acts_of reuses counts thread_of writes cover_of era acquires releases acquired level_from level_of holds with_lock named acquired_locks acquired_to_write locks_from held write_held depth refusal accepted mark reading_of reply some_below every_below greatest_below
returns-clause-too_early c = refl

pub returns-clause-chain : goal.returns-clause-chain
unfolding chain conflicts is_race is_reported order_reply order_answer order_answers_below leads reached happens_before acts_of reuses counts thread_of writes cover_of era acquires releases acquired level_from level_of holds with_lock named acquired_locks acquired_to_write locks_from held write_held depth refusal accepted mark reading_of reply some_below every_below greatest_below
returns-clause-chain c = refl

pub returns-clause-readers_joined : goal.returns-clause-readers_joined
unfolding readers_joined conflicts is_race is_reported order_reply order_answer order_answers_below leads reached happens_before acts_of reuses counts thread_of writes cover_of era acquires releases acquired level_from level_of holds with_lock named acquired_locks acquired_to_write locks_from held write_held depth refusal accepted mark reading_of reply some_below every_below greatest_below
returns-clause-readers_joined c = refl

pub returns-clause-one_reader_joined : goal.returns-clause-one_reader_joined
unfolding one_reader_joined conflicts is_race is_reported order_reply order_answer order_answers_below leads reached happens_before acts_of reuses counts thread_of writes cover_of era acquires releases acquired level_from level_of holds with_lock named acquired_locks acquired_to_write locks_from held write_held depth refusal accepted mark reading_of reply some_below every_below greatest_below
returns-clause-one_reader_joined c = refl

pub returns-clause-only_read : goal.returns-clause-only_read
unfolding only_read conflicts is_race is_reported order_reply order_answer order_answers_below leads reached happens_before acts_of reuses counts thread_of writes cover_of era acquires releases acquired level_from level_of holds with_lock named acquired_locks acquired_to_write locks_from held write_held depth refusal accepted mark reading_of reply some_below every_below greatest_below
returns-clause-only_read c = refl

pub returns-clause-rounds : goal.returns-clause-rounds
unfolding rounds conflicts is_race is_reported order_reply order_answer order_answers_below leads reached happens_before acts_of reuses counts thread_of writes cover_of era acquires releases acquired level_from level_of holds with_lock named acquired_locks acquired_to_write locks_from held write_held depth refusal accepted mark reading_of reply some_below every_below greatest_below
returns-clause-rounds c = refl

pub returns-clause-joined_late : goal.returns-clause-joined_late
unfolding joined_late conflicts is_race is_reported order_reply order_answer order_answers_below leads reached happens_before acts_of reuses counts thread_of writes cover_of era acquires releases acquired level_from level_of holds with_lock named acquired_locks acquired_to_write locks_from held write_held depth refusal accepted mark reading_of reply some_below every_below greatest_below
returns-clause-joined_late c = refl

pub returns-clause-semaphore : goal.returns-clause-semaphore
unfolding semaphore conflicts is_race is_reported order_reply order_answer order_answers_below leads reached happens_before acts_of reuses counts thread_of writes cover_of era acquires releases acquired level_from level_of holds with_lock named acquired_locks acquired_to_write locks_from held write_held depth refusal accepted mark reading_of reply some_below every_below greatest_below
returns-clause-semaphore c = refl

pub returns-clause-awaited_early : goal.returns-clause-awaited_early
unfolding awaited_early conflicts is_race is_reported order_reply order_answer order_answers_below leads reached happens_before acts_of reuses counts thread_of writes cover_of era acquires releases acquired level_from level_of holds with_lock named acquired_locks acquired_to_write locks_from held write_held depth refusal accepted mark reading_of reply some_below every_below greatest_below
returns-clause-awaited_early c = refl

pub returns-clause-read_locks : goal.returns-clause-read_locks
unfolding read_locks conflicts is_race is_reported order_reply order_answer order_answers_below leads reached happens_before acts_of reuses counts thread_of writes cover_of era acquires releases acquired level_from level_of holds with_lock named acquired_locks acquired_to_write locks_from held write_held depth refusal accepted mark reading_of reply some_below every_below greatest_below
returns-clause-read_locks c = refl

pub returns-clause-read_and_write_locks : goal.returns-clause-read_and_write_locks
unfolding read_and_write_locks conflicts is_race is_reported order_reply order_answer order_answers_below leads reached happens_before acts_of reuses counts thread_of writes cover_of era acquires releases acquired level_from level_of holds with_lock named acquired_locks acquired_to_write locks_from held write_held depth refusal accepted mark reading_of reply some_below every_below greatest_below
returns-clause-read_and_write_locks c = refl

pub returns-clause-double_checked : goal.returns-clause-double_checked
unfolding double_checked conflicts is_race is_reported order_reply order_answer order_answers_below leads reached happens_before acts_of reuses counts thread_of writes cover_of era acquires releases acquired level_from level_of holds with_lock named acquired_locks acquired_to_write locks_from held write_held depth refusal accepted mark reading_of reply some_below every_below greatest_below
returns-clause-double_checked c = refl

pub returns-clause-double_checked_in_order : goal.returns-clause-double_checked_in_order
unfolding double_checked_in_order conflicts is_race is_reported order_reply order_answer order_answers_below leads reached happens_before acts_of reuses counts thread_of writes cover_of era acquires releases acquired level_from level_of holds with_lock named acquired_locks acquired_to_write locks_from held write_held depth refusal accepted mark reading_of reply some_below every_below greatest_below
returns-clause-double_checked_in_order c = refl

pub returns-clause-reuse_between : goal.returns-clause-reuse_between
unfolding reuse_between conflicts is_race is_reported order_reply order_answer order_answers_below leads reached happens_before acts_of reuses counts thread_of writes cover_of era acquires releases acquired level_from level_of holds with_lock named acquired_locks acquired_to_write locks_from held write_held depth refusal accepted mark reading_of reply some_below every_below greatest_below last_use is_in_use word_in_use had_race least_below
returns-clause-reuse_between c = refl

pub returns-clause-refused_release : goal.returns-clause-refused_release
unfolding refused_release conflicts is_race is_reported order_reply order_answer order_answers_below leads reached happens_before acts_of reuses counts thread_of writes cover_of era acquires releases acquired level_from level_of holds with_lock named acquired_locks acquired_to_write locks_from held write_held depth refusal accepted mark reading_of reply some_below every_below greatest_below
returns-clause-refused_release c = refl

pub returns-clause-two_holders : goal.returns-clause-two_holders
unfolding two_holders conflicts is_race is_reported order_reply order_answer order_answers_below leads reached happens_before acts_of reuses counts thread_of writes cover_of era acquires releases acquired level_from level_of holds with_lock named acquired_locks acquired_to_write locks_from held write_held depth refusal accepted mark reading_of reply some_below every_below greatest_below
returns-clause-two_holders c = refl

pub returns-clause-levels : goal.returns-clause-levels
unfolding levels conflicts is_race is_reported order_reply order_answer order_answers_below leads reached happens_before acts_of reuses counts thread_of writes cover_of era acquires releases acquired level_from level_of holds with_lock named acquired_locks acquired_to_write locks_from held write_held depth refusal accepted mark reading_of reply some_below every_below greatest_below
returns-clause-levels c = refl

pub returns-clause-bracket : goal.returns-clause-bracket
unfolding bracket conflicts is_race is_reported order_reply order_answer order_answers_below leads reached happens_before acts_of reuses counts thread_of writes cover_of era acquires releases acquired level_from level_of holds with_lock named acquired_locks acquired_to_write locks_from held write_held depth refusal accepted mark reading_of reply some_below every_below greatest_below
returns-clause-bracket c = refl

pub returns-clause-reuse_joined : goal.returns-clause-reuse_joined
unfolding reuse_joined conflicts is_race is_reported order_reply order_answer order_answers_below leads reached happens_before acts_of reuses counts thread_of writes cover_of era acquires releases acquired level_from level_of holds with_lock named acquired_locks acquired_to_write locks_from held write_held depth refusal accepted mark reading_of reply some_below every_below greatest_below last_use is_in_use word_in_use had_race least_below
returns-clause-reuse_joined c = refl

pub returns-clause-reuse_too_early : goal.returns-clause-reuse_too_early
unfolding reuse_too_early conflicts is_race is_reported order_reply order_answer order_answers_below leads reached happens_before acts_of reuses counts thread_of writes cover_of era acquires releases acquired level_from level_of holds with_lock named acquired_locks acquired_to_write locks_from held write_held depth refusal accepted mark reading_of reply some_below every_below greatest_below last_use is_in_use word_in_use had_race least_below
returns-clause-reuse_too_early c = refl

pub returns-clause-reuse_locked : goal.returns-clause-reuse_locked
unfolding reuse_locked conflicts is_race is_reported order_reply order_answer order_answers_below leads reached happens_before acts_of reuses counts thread_of writes cover_of era acquires releases acquired level_from level_of holds with_lock named acquired_locks acquired_to_write locks_from held write_held depth refusal accepted mark reading_of reply some_below every_below greatest_below last_use is_in_use word_in_use had_race least_below
returns-clause-reuse_locked c = refl

pub returns-clause-reuse_after_race : goal.returns-clause-reuse_after_race
unfolding reuse_after_race conflicts is_race is_reported order_reply order_answer order_answers_below leads reached happens_before acts_of reuses counts thread_of writes cover_of era acquires releases acquired level_from level_of holds with_lock named acquired_locks acquired_to_write locks_from held write_held depth refusal accepted mark reading_of reply some_below every_below greatest_below last_use is_in_use word_in_use had_race least_below
returns-clause-reuse_after_race c = refl

pub returns-clause-reuse_in_bracket : goal.returns-clause-reuse_in_bracket
unfolding reuse_in_bracket conflicts is_race is_reported order_reply order_answer order_answers_below leads reached happens_before acts_of reuses counts thread_of writes cover_of era acquires releases acquired level_from level_of holds with_lock named acquired_locks acquired_to_write locks_from held write_held depth refusal accepted mark reading_of reply some_below every_below greatest_below last_use is_in_use word_in_use had_race least_below
returns-clause-reuse_in_bracket c = refl

pub returns-clause-reuse_of_three : goal.returns-clause-reuse_of_three
unfolding reuse_of_three conflicts is_race is_reported order_reply order_answer order_answers_below leads reached happens_before acts_of reuses counts thread_of writes cover_of era acquires releases acquired level_from level_of holds with_lock named acquired_locks acquired_to_write locks_from held write_held depth refusal accepted mark reading_of reply some_below every_below greatest_below last_use is_in_use word_in_use had_race least_below
returns-clause-reuse_of_three c = refl

pub returns-clause-reuse_between_by_locks : goal.returns-clause-reuse_between_by_locks
unfolding reuse_between first join candidates written racy reported state answer answers_below least_below reuses counts thread_of writes cover_of era acquires releases acquired level_from level_of holds with_lock named acquired_locks acquired_to_write locks_from held write_held depth refusal accepted mark reading_of reply some_below every_below greatest_below
returns-clause-reuse_between_by_locks c = refl

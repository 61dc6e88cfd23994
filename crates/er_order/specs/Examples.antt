-- Short lists of steps, to see what happens-before answers.
use Rattle.std.specs.Prelude.{ℕ, refl, List, [], ◌∷◌}
use Rattle.std.proofs.Common.{lit≤}
use Rattle.er_event.specs.declared.addresses.PageRange.{PageRange}
use Rattle.er_event.specs.declared.steps.Event.TheVariants.{Acquire, Release, Access, Reuse, Level, IgnoreOn, IgnoreOff, Sync}
use Rattle.er_event.specs.declared.steps.Kind.TheVariants.{Read as reading}
use Rattle.er_event.specs.declared.steps.Mode.TheVariants.{Read}
use Rattle.er_event.specs.declared.steps.Sync.TheVariants.{Start, Join, Signal, Await}
use Rattle.er_model.specs.Examples.{one_word, does, writes_at, writes_word, reads_word, takes, gives}
use Rattle.er_event.specs.declared.steps.Step.{Step}

-- thread t reads word w
abbrev pub reads_at : ℕ → ℕ → Step
reads_at t w = does t (Access reading w 0)

-- thread t acquires lock l in read mode
abbrev pub takes_to_read : ℕ → ℕ → Step
takes_to_read t l = does t (Acquire l Read)

-- thread t releases lock l from read mode
abbrev pub gives_read : ℕ → ℕ → Step
gives_read t l = does t (Release l Read)

-- thread 1 fills the word and puts it into a queue under lock 7; thread 2 takes it out under the lock and writes it
unfoldable pub queue : List Step
queue = writes_word 1 ∷ takes 1 7 ∷ gives 1 7 ∷ takes 2 7 ∷ gives 2 7 ∷ writes_word 2 ∷ []

-- the same with no lock
unfoldable pub no_lock : List Step
no_lock = writes_word 1 ∷ writes_word 2 ∷ []

-- the second thread takes the lock before the first one gives it up
unfoldable pub too_early : List Step
too_early = writes_word 1 ∷ takes 2 7 ∷ gives 2 7 ∷ takes 1 7 ∷ gives 1 7 ∷ writes_word 2 ∷ []

-- over three threads by two locks, and then a write by the first, which nothing orders after the third's
unfoldable pub chain : List Step
chain = writes_word 1 ∷ takes 1 7 ∷ gives 1 7 ∷ takes 2 7 ∷ takes 2 8 ∷ gives 2 8 ∷ takes 3 8 ∷ writes_word 3 ∷ writes_word 1 ∷ []

-- two readers, both joined before the next write
unfoldable pub readers_joined : List Step
readers_joined = writes_word 1 ∷ does 1 (Sync (Start 2)) ∷ does 1 (Sync (Start 3)) ∷ reads_word 2 ∷ reads_word 3 ∷ does 1 (Sync (Join 2)) ∷ does 1 (Sync (Join 3)) ∷ writes_word 1 ∷ []

-- two readers, of which one only is joined before the write
unfoldable pub one_reader_joined : List Step
one_reader_joined = writes_word 1 ∷ does 1 (Sync (Start 2)) ∷ does 1 (Sync (Start 3)) ∷ reads_word 2 ∷ reads_word 3 ∷ does 1 (Sync (Join 2)) ∷ writes_word 1 ∷ []

-- the same if the earlier reader isn't joined
unfoldable pub other_reader_joined : List Step
other_reader_joined = writes_word 1 ∷ does 1 (Sync (Start 2)) ∷ does 1 (Sync (Start 3)) ∷ reads_word 2 ∷ reads_word 3 ∷ does 1 (Sync (Join 3)) ∷ writes_word 1 ∷ []

-- two readers, and a write that comes after neither in order
unfoldable pub two_readers : List Step
two_readers = reads_word 1 ∷ reads_word 2 ∷ writes_word 3 ∷ []

-- read by two threads and written by none
unfoldable pub only_read : List Step
only_read = reads_word 1 ∷ reads_word 2 ∷ reads_word 1 ∷ []

-- thread 1 starts another, which writes, and joins it before it writes itself, twice
unfoldable pub rounds : List Step
rounds = writes_word 1 ∷ does 1 (Sync (Start 2)) ∷ writes_word 2 ∷ does 1 (Sync (Join 2)) ∷ writes_word 1 ∷ does 1 (Sync (Start 3)) ∷ writes_word 3 ∷ does 1 (Sync (Join 3)) ∷ writes_word 1 ∷ []

-- it writes before it joins the other
unfoldable pub joined_late : List Step
joined_late = writes_word 1 ∷ does 1 (Sync (Start 2)) ∷ writes_word 2 ∷ writes_word 1 ∷ does 1 (Sync (Join 2)) ∷ []

-- a semaphore: signalled after the write, awaited before the next one
unfoldable pub semaphore : List Step
semaphore = writes_word 1 ∷ does 1 (Sync (Signal 5)) ∷ does 2 (Sync (Await 5)) ∷ writes_word 2 ∷ []

-- awaited before it was signalled
unfoldable pub awaited_early : List Step
awaited_early = writes_word 1 ∷ does 2 (Sync (Await 5)) ∷ does 1 (Sync (Signal 5)) ∷ writes_word 2 ∷ []

-- two holders of a lock in read mode aren't in order
unfoldable pub read_locks : List Step
read_locks = takes_to_read 1 7 ∷ writes_word 1 ∷ gives_read 1 7 ∷ takes_to_read 2 7 ∷ writes_word 2 ∷ []

-- a release in read mode happens before an acquire to write, and a release to write before an acquire in read mode
unfoldable pub read_and_write_locks : List Step
read_and_write_locks = takes_to_read 1 7 ∷ reads_word 1 ∷ gives_read 1 7 ∷ takes 2 7 ∷ writes_word 2 ∷ gives 2 7 ∷ takes_to_read 1 7 ∷ reads_word 1 ∷ []

-- thread 1 fills the word and raises a flag that is a counted word too; thread 2 reads the flag with no lock, and then the word
unfoldable pub double_checked : List Step
double_checked = takes 1 7 ∷ writes_word 1 ∷ writes_at 1 1025 ∷ gives 1 7 ∷ reads_at 2 1025 ∷ reads_word 2 ∷ []

-- the same if the flag is stored to signal and loaded to await
unfoldable pub double_checked_in_order : List Step
double_checked_in_order = takes 1 7 ∷ writes_word 1 ∷ does 1 (Sync (Signal 5)) ∷ gives 1 7 ∷ does 2 (Sync (Await 5)) ∷ reads_word 2 ∷ []

-- a reuse by a second thread, which nothing orders after the first one's write; in the new era a race, reported once
unfoldable pub reuse_between : List Step
reuse_between = writes_word 1 ∷ does 2 (Reuse one_word) ∷ writes_word 2 ∷ writes_word 1 ∷ writes_word 2 ∷ []

-- thread 2 is joined before its word is given back
unfoldable pub reuse_joined : List Step
reuse_joined = does 1 (Sync (Start 2)) ∷ writes_word 2 ∷ does 1 (Sync (Join 2)) ∷ does 1 (Reuse one_word) ∷ writes_word 1 ∷ []

-- and it isn't
unfoldable pub reuse_too_early : List Step
reuse_too_early = does 1 (Sync (Start 2)) ∷ reads_word 2 ∷ does 1 (Reuse one_word) ∷ does 1 (Sync (Join 2)) ∷ does 1 (Reuse one_word) ∷ []

-- a reuse under the lock that the access was made under
unfoldable pub reuse_locked : List Step
reuse_locked = takes 1 7 ∷ writes_word 1 ∷ gives 1 7 ∷ takes 2 7 ∷ does 2 (Reuse one_word) ∷ gives 2 7 ∷ []

-- a reuse of an era that had a race, and another one of no access
unfoldable pub reuse_after_race : List Step
reuse_after_race = writes_word 1 ∷ writes_word 2 ∷ does 3 (Reuse one_word) ∷ does 2 (Reuse one_word) ∷ []

-- a reuse in a bracket
unfoldable pub reuse_in_bracket : List Step
reuse_in_bracket = writes_word 1 ∷ does 2 IgnoreOn ∷ does 2 (Reuse one_word) ∷ does 2 IgnoreOff ∷ writes_word 2 ∷ []

-- a range of three words
abbrev pub three_words : PageRange
three_words = record { lo = 1024; hi = 1026; ordered = lit≤ tt; one_page = refl }

-- of the three words, the first is the thread's own and the others are in use
unfoldable pub reuse_of_three : List Step
reuse_of_three = writes_word 1 ∷ writes_at 2 1026 ∷ reads_at 2 1025 ∷ reads_at 3 1025 ∷ does 1 (Reuse three_words) ∷ writes_at 2 1026 ∷ []

-- a release that is refused
unfoldable pub refused_release : List Step
refused_release = writes_word 1 ∷ gives 1 7 ∷ takes 2 7 ∷ writes_word 2 ∷ []

-- two holders of a lock: what each of them did before its release happens before the next acquire
unfoldable pub two_holders : List Step
two_holders = takes 1 7 ∷ takes 2 7 ∷ writes_word 1 ∷ gives 1 7 ∷ gives 2 7 ∷ takes 3 7 ∷ writes_word 3 ∷ []

-- both at the same interrupt level
unfoldable pub levels : List Step
levels = does 1 (Level 2) ∷ writes_word 1 ∷ does 1 (Level 0) ∷ does 2 (Level 2) ∷ writes_word 2 ∷ []

-- an access inside an ignore bracket isn't counted
unfoldable pub bracket : List Step
bracket = writes_word 1 ∷ does 2 IgnoreOn ∷ writes_word 2 ∷ does 2 IgnoreOff ∷ writes_word 1 ∷ []

-- written with no lock, and then by a second thread under one: by locks alone that is no race yet
unfoldable pub locked_later : List Step
locked_later = writes_word 1 ∷ takes 2 7 ∷ writes_word 2 ∷ gives 2 7 ∷ []

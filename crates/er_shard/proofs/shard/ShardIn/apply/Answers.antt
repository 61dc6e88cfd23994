-- The words move as the stamp says, and their reply fits the journal's end.
use Rattle.std.proofs.Common.{refl, ap, ◌≡◌, ◌∙◌, ℕ, rules}
use Rattle.er_journal.specs.Entries.{Access}
use Rattle.er_journal.specs.Journals.{mark_of_what, stamped}
use Rattle.er_model.specs.Table.{moved, reports, advanced}
use Rattle.er_shadow.specs.Shadows.{states}
use Rattle.er_shadow.specs.Replies.{reply_if}
use Rattle.er_shard.specs.Journaled.{entry_of}
use Rattle.er_shard.proofs.Growing.{replay-grows, access-fits, race_or_quiet}
use Rattle.er_shard.proofs.shard.ShardIn.apply.Goals as goal
use Rattle.er_shard.proofs.shard.ShardIn.apply.Goals.{in-Some, in-None+in_ok-is_race-in-None}

pub invariant_of-self-2 : goal.invariant_of-self-2
invariant_of-self-2 g c =
    let stamp = c.args.stamp in
    let same : c.match-quick.self-inside.journal.items ≡ c.self.inside.journal.items = elim c.match-quick.branch [ in-Some w ↦ search rules | in-None+in_ok-is_race-in-None w ↦ search rules ] in
    let moves : (x : ℕ) → states c.match-quick.self-inside.words x ≡ moved (states c.self.inside.words x) x (mark_of_what (Access stamp)) = elim c.match-quick.branch [ in-Some w ↦ search rules | in-None+in_ok-is_race-in-None w ↦ search rules ] in
    let raced : c.match-quick.is_race ≡ reports (states c.self.inside.words stamp.word) (advanced (states c.self.inside.words stamp.word) stamp.thread stamp.kind (stamped stamp stamp.kind)) = elim c.match-quick.branch [ in-Some w ↦ search rules | in-None+in_ok-is_race-in-None w ↦ search rules ] in
    let replied = c.of_access-reply.ensures ∙ ap reply_if raced in
    let limit : c.match-quick.self-inside.limit ≡ c.self.inside.limit = elim c.match-quick.branch [ in-Some w ↦ search rules | in-None+in_ok-is_race-in-None w ↦ search rules ] in
    let grown = rw (same, c.access.ensures) at c.push_reserved.ensures.items in
    rw limit (replay-grows c.self.inside.journal.items _ _ _ _ (entry_of c.args.ticket stamp.thread (Access stamp) c.of_access-reply.result) c.self.invariant grown c.in_ok-reserve_entry.ensures.below refl
    (access-fits c.self.inside.journal.items _ _ stamp c.of_access-reply.result c.self.invariant replied) moves)

pub returns-clause-race_or_quiet : goal.returns-clause-race_or_quiet
returns-clause-race_or_quiet g c = race_or_quiet _ _ c.of_access-reply.ensures

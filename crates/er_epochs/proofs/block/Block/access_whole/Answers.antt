use Rattle.std.proofs.Common.{◌∙◌, map, ap, sym}
use Rattle.er_clock.specs.Counts.{count_by}
use Rattle.er_epochs.specs.Epochs.{is_raced, stored_by, tagged}
use Rattle.er_epochs.specs.Words.{BlockWords, list_of, said, stored_beside, word_at}
use Rattle.er_epochs.proofs.FoundLemmas.{quiet_found}
use Rattle.er_epochs.proofs.Noted.{stored_exactly}
use Rattle.er_epochs.proofs.block.Block.access_whole.Goals as goal

pub returns-in-Some-clause-ok : goal.returns-in-Some-clause-ok
returns-in-Some-clause-ok g c =
    stored_exactly (count_by c.args.clock.now) (stored_beside c.args.lists.now c.args.number (word_at c.args.self.now.words c.args.place)) (stored_beside c.args.lists.now c.args.number (word_at (map said c.put_tags.new.words.items) c.args.place))
    (tagged c.args.clock.now.0 (count_by c.args.clock.now c.args.clock.now.0) c.args.tag) c.args.kind
    (ap (λ w. stored_beside c.args.lists.now c.args.number w) (c.put_tags.ensures.here c.get-word.result c.get-word.ensures.there c.in-Some.ensures.same)
    ∙ (c.in-Some.ensures.kept (list_of c.args.lists.now c.args.number)
    ∙ ap (λ w. stored_by (count_by c.args.clock.now) (stored_beside c.args.lists.now c.args.number w) (tagged c.args.clock.now.0 (count_by c.args.clock.now c.args.clock.now.0) c.args.tag) c.args.kind)
    (c.get-word.ensures.said ∙ ap (λ (block : BlockWords g.row.A.Denot). word_at block.words c.args.place) c.self.view_is)))

pub returns-in-Some-clause-found : goal.returns-in-Some-clause-found
returns-in-Some-clause-found g c =
    quiet_found (count_by c.args.clock.now) (stored_beside c.args.lists.now c.args.number (word_at c.args.self.now.words c.args.place)) c.args.kind
    (ap (λ w. is_raced (count_by c.args.clock.now) (stored_beside c.args.lists.now c.args.number w) c.args.kind) (sym (c.get-word.ensures.said ∙ ap (λ (block : BlockWords g.row.A.Denot). word_at block.words c.args.place) c.self.view_is))
    ∙ c.in-Some.ensures.quiet (list_of c.args.lists.now c.args.number))

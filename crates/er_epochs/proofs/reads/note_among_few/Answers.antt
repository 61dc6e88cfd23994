use Rattle.std.proofs.Common.{◌≡◌, ◌∷◌, ◌++◌, ◌∙◌, [], filter, if◌then◌else◌, IsOk, ap, ap₂, rules, tests, arith}
use Rattle.er_clock.specs.Counts.{count_by}
use Rattle.er_epochs.specs.Epochs.{is_apart}
use Rattle.er_epochs.proofs.Epochs.{retained}
use Rattle.er_epochs.proofs.reads.note_among_few.Goals as goal

pub returns-clause-ok : goal.returns-clause-ok
returns-clause-ok g c =
    let room : IsOk c.push-noted.result = c.push-noted.ensures.succeeds (omega (arith, c.in_ok-reserve.ensures.ok, c.retain.ensures.bound, c.retain.ensures.capacity)) in
    let kept : c.retain.new.self.items ≡ filter (is_apart (count_by c.args.clock.now)) c.reserve.new.self.items =
    retained _ (is_apart (count_by c.args.clock.now)) _ (λ x b q k. search (rules, tests)) _ _ c.retain.ensures.filtered in
    let noted : c.push-noted.new.self.items ≡ c.retain.new.self.items ++ c.access_by.result ∷ [] =
    c.push-noted.ensures.items ∙ ap (λ b. if◌then◌else◌ b (c.retain.new.self.items ++ c.access_by.result ∷ []) c.retain.new.self.items) room in
    noted
    ∙ ap₂ (λ rest last. rest ++ last ∷ [])
    (kept ∙ ap (filter (is_apart (count_by c.args.clock.now))) c.reserve.ensures.items)
    c.access_by.ensures

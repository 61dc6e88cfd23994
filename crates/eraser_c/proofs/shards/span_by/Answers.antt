use Rattle.std.proofs.Common.{rules, ◌≡◌, ◌∙◌, true, ap, sym, true≢false}
use Rattle.eraser_c.specs.Statuses.{number_of}
use Rattle.eraser_c.proofs.shards.span_by.Goals.{in-Shard, in-Thread}
use Rattle.eraser_c.proofs.shards.span_by.Goals as goal

pub returns-clause-settled : goal.returns-clause-settled
returns-clause-settled c = elim c.match-deref_mut.branch [
  | in-Shard w ↦ (λ yes.
      let told : w.take_span-answer.result.is_settled ≡ true = ap (λ a. a.is_settled) (sym w.answer-is) ∙ yes in
      record {
        was = w.in-Shard.shard;
        now = w.take_span-answer.new.shard;
        from = search rules;
        to = search rules;
        same = w.take_span-answer.ensures.settled told;
        quiet = ap (λ a. number_of a.status) w.answer-is ∙ ap number_of (w.take_span-answer.ensures.quiet told);
      })
  | in-Thread w ↦ (λ yes. absurd (true≢false (sym yes ∙ (ap (λ a. a.is_settled) w.answer-is ∙ w.without_race-answer.ensures.unsettled))))
]

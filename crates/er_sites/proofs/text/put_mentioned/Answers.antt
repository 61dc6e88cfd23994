-- What the three lists mention has names, and each number is put once.
use Rattle.std.proofs.Common.{◌∙◌, ◌++◌, ℕ, All, List, [], flat_map, sym, ap, subst}
use Rattle.std.proofs.lemmas.Result.{on_ok_weaker}
use Rattle.er_sites.proofs.NamedLemmas.{told_named}
use Rattle.er_sites.proofs.MentionLemmas.{insert_three}
use Rattle.er_report.specs.Lines.{line_view, race_of}
use Rattle.er_report.specs.declared.report.Line.{Line}
use Rattle.er_sites.specs.Sites.{lines_of}
use Rattle.er_sites.specs.Mentions.{HasMentionName, example_mentions, headed, mention_text, mention_title, mentions_text, reuse_mentions}
use Rattle.er_sites.proofs.text.put_mentioned.Goals as goal

pub put_mentions-requires : goal.put_mentions-requires
put_mentions-requires c =
    let kept = insert_three [] _ _ _ (flat_map (example_mentions c.args.of c.args.legend.now.places.now (lines_of c.args.reports.now.unordered)) c.args.first.now) (flat_map (λ (line : Line). reuse_mentions c.args.of c.args.legend.now.places.now (race_of (line_view line))) (lines_of c.args.reports.now.unordered))
    (flat_map (example_mentions c.args.of c.args.legend.now.places.now (lines_of c.args.reports.now.lockset)) c.args.others.now) (rw (c.new-numbers.ensures.empty, c.lines_or-unordered.ensures) at c.in_ok-add_examples.ensures)
    (rw c.lines_or-unordered.ensures at c.in_ok-add_reuses.ensures) (rw c.lines_or-lockset.ensures at c.in_ok-add_examples-2.ensures) in
    subst (All (HasMentionName c.args.of c.args.legend.now.names.now c.args.legend.now.places.now)) (sym (c.as_slice.ensures.keys ∙ kept))
    (told_named c.args.of c.args.legend.now.names.now c.args.legend.now.places.now c.args.reports.now c.args.first.now c.args.others.now c.are_named.ensures c.requires)

pub returns : goal.returns
unfolding mentions_text
returns c =
    let kept = insert_three [] _ _ _ (flat_map (example_mentions c.args.of c.args.legend.now.places.now (lines_of c.args.reports.now.unordered)) c.args.first.now) (flat_map (λ (line : Line). reuse_mentions c.args.of c.args.legend.now.places.now (race_of (line_view line))) (lines_of c.args.reports.now.unordered))
    (flat_map (example_mentions c.args.of c.args.legend.now.places.now (lines_of c.args.reports.now.lockset)) c.args.others.now) (rw (c.new-numbers.ensures.empty, c.lines_or-unordered.ensures) at c.in_ok-add_examples.ensures)
    (rw c.lines_or-unordered.ensures at c.in_ok-add_reuses.ensures) (rw c.lines_or-lockset.ensures at c.in_ok-add_examples-2.ensures) in
    let text = mention_text c.args.of c.args.legend.now.names.now c.args.legend.now.places.now in
    let starts = c.deref.ensures.value ∙ c.in_ok-put_mentions.ensures ∙ ap (λ (line : List ℕ). line ++ flat_map text c.as_slice.result.now) c.new-lines.ensures.items
    ∙ ap (flat_map text) (c.as_slice.ensures.keys ∙ kept) in
    on_ok_weaker c.put_headed.result (λ put. put ∙ ap (λ (title : List ℕ). c.args.out.now.items ++ headed title c.deref.result.now) c.mention_title.ensures
    ∙ ap (λ (lines : List ℕ). c.args.out.now.items ++ headed (mention_title c.args.of) lines) starts) c.put_headed.ensures

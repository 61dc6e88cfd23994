-- All lines were added, and what they mention has names.
use Rattle.std.proofs.Common.{◌∙◌, All, List, flat_map, sym, subst, ap}
use Rattle.std.proofs.lemmas.List.{take_all}
use Rattle.er_report.specs.declared.report.Line.{Line}
use Rattle.er_sites.proofs.NamedLemmas.{lines_named_once}
use Rattle.er_sites.proofs.MentionLemmas.{views_of}
use Rattle.er_sites.specs.Mentions.{HasMentionName, each_once, line_mentions}
use Rattle.er_sites.proofs.mentions.mentioned_in.Goals as goal

pub returns-clause-keys : goal.returns-clause-keys
returns-clause-keys c =
    c.loop-line.invariant ∙ ap (λ (all : List Line). each_once (flat_map (line_mentions c.args.of c.args.places.now) all)) (take_all c.loop-line.line-index c.args.lines.now c.loop-line-test.false) ∙ ap each_once (views_of c.args.of c.args.places.now c.args.lines.now)

pub returns-clause-named : goal.returns-clause-named
returns-clause-named c names named =
    subst (All (HasMentionName c.args.of names c.args.places.now))
    (sym (c.loop-line.invariant ∙ ap (λ (all : List Line). each_once (flat_map (line_mentions c.args.of c.args.places.now) all)) (take_all c.loop-line.line-index c.args.lines.now c.loop-line-test.false)))
    (lines_named_once c.args.of names c.args.places.now c.args.lines.now c.are_named.ensures named)

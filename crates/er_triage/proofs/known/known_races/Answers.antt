-- The races of one report behind those of the other are the races of both.
use Rattle.std.proofs.Common.{◌≡◌, ◌<◌, ◌++◌, ◌^◌, ◌∙◌, [], ap, sym, subst, List, All, length, map, rules, arith, length-append}
use Rattle.std.proofs.lemmas.List.Sums.{fold-append}
use Rattle.er_report.specs.declared.report.Line.{Line}
use Rattle.er_rules.specs.Rules.{Target}
use Rattle.er_trace.specs.Names.{NameTable}
use Rattle.er_triage.specs.Known.{AreCounts, IsTaken, known_target, lines_in, lines_of, race_of, rules_of}
use Rattle.er_triage.specs.Inner.Counting.{with_race, with_races}
use Rattle.er_triage.specs.declared.known.KnownRace.{KnownRace}
use Rattle.er_triage.proofs.CountLemmas.{all_counted, all_rules}
use Rattle.er_triage.proofs.KnownLemmas.{all_taken}
use Rattle.er_triage.proofs.known.known_races.Goals as goal

-- what is added in two parts
both : (names : NameTable) (first second one two : List Line) (none some all : List KnownRace) → none ≡ [] → one ≡ first → two ≡ second
    → some ≡ with_races names none one → all ≡ with_races names some two → all ≡ with_races names [] (first ++ second)
both names first second one two none some all start same other some_is all_is =
    all_is ∙ ap (λ (lines : List Line). with_races names some lines) other
    ∙ ap (λ (known : List KnownRace). with_races names known second) (some_is ∙ ap (λ (known : List KnownRace). with_races names known one) start ∙ ap (with_races names []) same)
    ∙ sym (fold-append (λ (known : List KnownRace) (line : Line). with_race names known (race_of line)) [] first second)

whole : (names : NameTable) (lines : List Line) (known : List KnownRace) → known ≡ with_races names [] lines → map (known_target names) known ≡ rules_of names lines
whole names lines known is = ap (map (known_target names)) is ∙ all_rules names lines []

pub returns-clause-rules : goal.returns-clause-rules
returns-clause-rules c =
    let start : c.new-known.result.items ≡ [] = search rules in
    whole c.args.names.now (lines_of c.args.reports.now) _
    (both c.args.names.now (lines_in c.args.reports.now.lockset) (lines_in c.args.reports.now.unordered) c.lines_in.result.now c.lines_in-2.result.now _ _ _
    start c.lines_in.ensures.lines c.lines_in-2.ensures.lines c.in_ok-add_lines.ensures.counted c.in_ok-add_lines-2.ensures.counted)

pub returns-clause-taken : goal.returns-clause-taken
returns-clause-taken c =
    let lines : List Line = lines_of c.args.reports.now in
    subst (λ (rules : List Target). All (IsTaken c.args.names.now rules) lines) (sym (returns-clause-rules c)) (all_taken c.args.names.now lines)

pub returns-clause-counted : goal.returns-clause-counted
returns-clause-counted c =
    let lines : List Line = lines_of c.args.reports.now in
    let few : length lines < 2 ^ 64 =
    omega (arith, length-append (lines_in c.args.reports.now.lockset) (lines_in c.args.reports.now.unordered), c.lines_in.ensures.few, c.lines_in-2.ensures.few) in
    let start : c.new-known.result.items ≡ [] = search rules in
    subst (λ (known : List KnownRace). AreCounts c.args.names.now lines known)
    (sym (both c.args.names.now (lines_in c.args.reports.now.lockset) (lines_in c.args.reports.now.unordered) c.lines_in.result.now c.lines_in-2.result.now _ _ _
    start c.lines_in.ensures.lines c.lines_in-2.ensures.lines c.in_ok-add_lines.ensures.counted c.in_ok-add_lines-2.ensures.counted))
    (all_counted c.args.names.now lines few)

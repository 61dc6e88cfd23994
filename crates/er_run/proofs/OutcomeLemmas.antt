-- What a replay comes to before a byte is written: reports that were built of the text's steps, or a fault.
use Rattle.std.proofs.Common.{◌≡◌, ◌∙◌, ◌==◌, ◌<◌, ◌^◌, ℕ, Bool, true, false, not, cond, List, [], ◌∷◌, length, map, Option, Some, None, IfSome, IsFalse, Ok, Err, is_some, refl, sym, ap, subst, arith}
use Rattle.std.proofs.Math.Nat.{min-eq_left}
use Rattle.std.proofs.lemmas.List.Elements.{All-filter}
use Rattle.std.proofs.lemmas.List.Sums.{count_by-le-length}
use Rattle.std.specs.List.{All, count_by, filter}
use Rattle.er_batch.specs.Analysts.{Asked, HasCounted}
use Rattle.er_batch.specs.Runs.{IsPartOf}
use Rattle.er_damage.specs.Damaged.{IsDamageOf, no_damage}
use Rattle.er_event.specs.declared.steps.Step.{Step}
use Rattle.er_journal.specs.declared.answers.Stopped.{Stopped}
use Rattle.er_parts.specs.Given.{given_by, is_refusal}
use Rattle.er_parts.specs.Parts.{PartView, is_of_page}
use Rattle.er_report.specs.Lines.{LineView, line_view}
use Rattle.er_report.specs.Names.{HasNames}
use Rattle.er_report.specs.Report.{told as summary, Summary, answered_steps, report_of, stop_line}
use Rattle.er_report.specs.declared.report.Line.{Line}
use Rattle.er_report.specs.declared.report.Report.{Report}
use Rattle.er_report.specs.declared.reports.Reports.{Reports}
use Rattle.er_rules.specs.Rules.{Target}
use Rattle.er_run.specs.Faults.{IsFaultOfText, IsNoDamage}
use Rattle.er_run.specs.Inner.Outcomes.{AreBuilt, IsGivenIf, IsGivenOf, IsOutcomeOf, is_later, is_own}
use Rattle.er_run.specs.Reports.{AreReportsOfText, IsOrderOfText, IsReportOfRun, is_unstopped, report_with, unordered_with}
use Rattle.er_run.specs.declared.fault.RunFault.{RunFault}
use Rattle.er_text.specs.Ending.{IsEndingOf, is_text_3, lost_if, lost_told}
use Rattle.er_text.specs.declared.endings.Ending.{Ending}
use Rattle.er_text.specs.declared.endings.Lost.{Lost}
use Rattle.er_trace.specs.Names.{NameTable}
use Rattle.er_trace.specs.Trace.{Recording}
use Rattle.er_lines.specs.declared.ready.Touch.{Touch}
use Rattle.er_unordered.specs.Reports.{touched_by, unordered_report}
use Rattle.er_run.proofs.PassLemmas.{part-unstopped}

-- the lines that tell of no refused step
own-line : (b : Bool) (line : Line) (lines : List Line) (views : List LineView) → map line_view lines ≡ views → map line_view (cond b (line ∷ lines) lines) ≡ cond b (line_view line ∷ views) views
own-line true line lines views same = ap (λ (others : List LineView). line_view line ∷ others) same
own-line false line lines views same = same

own-lines : (lines : List Line) → map line_view (filter is_own lines) ≡ filter (λ line. not (is_refusal line)) (map line_view lines)
own-lines [] = refl
own-lines (line ∷ lines) = own-line (is_own line) line (filter is_own lines) (filter (λ line. not (is_refusal line)) (map line_view lines)) (own-lines lines)

-- the report of the steps of a later part, without what it says of the steps of no page
abbrev own : List Step → Summary → Summary
own steps s = record s { lines = filter (λ line. not (is_refusal line)) s.lines; steps = count_by is_of_page steps; refused = 0 }

given-by : (b : Bool) (steps : List Step) (s : Summary) → (not b ≡ false → cond b s (own steps s) ≡ s) × (not b ≡ true → cond b s (own steps s) ≡ own steps s)
given-by true steps s = (λ first. refl, λ later. absurd (cc))
given-by false steps s = (λ first. absurd (cc), λ later. refl)

given : (part : Option PartView) (steps : List Step) (s : Summary) → (is_later part ≡ false → given_by part steps s ≡ s) × (is_later part ≡ true → given_by part steps s ≡ own steps s)
given None steps s = (λ first. refl, λ later. absurd (cc))
given (Some part) steps s = given-by (part.index == 1) steps s

later-some : (part : Option PartView) → is_later part ≡ true → is_some part ≡ true
later-some None later = later
later-some (Some part) later = refl

-- all steps of pages of a later part were counted
counted-all : (part : Option PartView) (of_pages : ℕ) (steps : List Step) → is_later part ≡ true → HasCounted part of_pages steps → length steps < 2 ^ 64 → of_pages ≡ count_by is_of_page steps
counted-all None of_pages steps later counted few = absurd (cc)
counted-all (Some part) of_pages steps later counted few = counted ∙ min-eq_left (omega (arith, count_by-le-length is_of_page steps, few))

-- what a part gives of a report, as the definitions say it
module _ (part : Option PartView) (of_pages : ℕ) (lost : Option ℕ) (old new : Report) (is : IsGivenOf (is_later part) of_pages lost old new) where
  says-given : (steps : List Step) (s : Summary) → HasCounted part of_pages steps → summary old ≡ s → (is_some part ≡ true → s.steps ≡ length steps)
      → summary new ≡ record (given_by part steps s) { lost = lost }
  says-given steps s counted says long = by (is_later part) refl
    where
      by : (b : Bool) → is_later part ≡ b → summary new ≡ record (given_by part steps s) { lost = lost }
      by false first = ap summary (is.whole first) ∙ ap (λ (t : Summary). record t { lost = lost }) (says ∙ sym ((given part steps s).0 first))
      by true later =
          let mine = is.own later in
          let same : old.steps ≡ length steps = ap (λ (t : Summary). t.steps) says ∙ long (later-some part later) in
          ap summary mine.others
          ∙ ap (λ (items : List Line). record (summary old) { lines = map line_view items; steps = of_pages; refused = 0; lost = lost }) mine.lines
          ∙ ap (λ (lines : List LineView). record (summary old) { lines = lines; steps = of_pages; refused = 0; lost = lost }) (own-lines old.lines.items)
          ∙ ap (λ (n : ℕ). record (own steps (summary old)) { steps = n; lost = lost }) (counted-all part of_pages steps later counted (subst (λ (n : ℕ). n < 2 ^ 64) same mine.few))
          ∙ ap (λ (t : Summary). record (own steps t) { lost = lost }) says ∙ ap (λ (t : Summary). record t { lost = lost }) (sym ((given part steps s).1 later))

  names-given : (names : NameTable) → All (HasNames names) old.lines.items → All (HasNames names) new.lines.items
  names-given names named = by (is_later part) refl
    where
      by : (b : Bool) → is_later part ≡ b → All (HasNames names) new.lines.items
      by false first = subst (λ (x : Report). All (HasNames names) x.lines.items) (sym (is.whole first)) named
      by true later = subst (All (HasNames names)) (sym (is.own later).lines) (All-filter is_own (HasNames names) old.lines.items named)

stop-given : (later : Bool) (of_pages : ℕ) (lost : Option ℕ) (old new : Report) → IsGivenOf later of_pages lost old new → new.stop ≡ old.stop
stop-given false of_pages lost old new is = ap (λ (x : Report). x.stop) (is.whole refl)
stop-given true of_pages lost old new is = ap (λ (x : Report). x.stop) (is.own refl).others

-- and of a report that may be there
module _ (part : Option PartView) (of_pages : ℕ) (lost : Option ℕ) where
  still-there : (o p : Option Report) → IsGivenIf (is_later part) of_pages lost o p → is_some p ≡ is_some o
  still-there None None is = refl
  still-there (Some old) (Some new) is = refl
  still-there None (Some new) is = absurd is
  still-there (Some old) None is = absurd is

  still-named : (names : NameTable) (o p : Option Report) → IsGivenIf (is_later part) of_pages lost o p → IfSome o (λ one. All (HasNames names) one.lines.items) → IfSome p (λ one. All (HasNames names) one.lines.items)
  still-named names None None is named = tt
  still-named names (Some old) (Some new) is named = names-given part of_pages lost old new is names named
  still-named names None (Some new) is named = absurd is
  still-named names (Some old) None is named = tt

  run-given : (unstopped : Bool) (told : Option ℕ) (r : Recording) (rules : List Target) (explain : Bool) (o p : Option Report) → lost ≡ told → (is_some part ≡ true → unstopped ≡ true)
      → HasCounted part of_pages r.steps → IsGivenIf (is_later part) of_pages lost o p → IfSome o (λ one. IsReportOfRun None unstopped None r rules explain one)
      → IfSome p (λ one. IsReportOfRun part unstopped told r rules explain one)
  run-given unstopped told r rules explain None None same whole counted is says = tt
  run-given unstopped told r rules explain None (Some new) same whole counted is says = absurd is
  run-given unstopped told r rules explain (Some old) None same whole counted is says = tt
  run-given unstopped told r rules explain (Some old) (Some new) same whole counted is says = record {
    stop = says.stop;
    within = says.within;
    cause = says.cause;
    whole = says.whole;
    says = says-given part of_pages lost old new is r.steps (report_of r rules explain says.stop) counted says.says (λ some. ap (λ (o : Option Stopped). length (answered_steps r.steps o)) (says.whole (whole some)))
        ∙ ap (λ (l : Option ℕ). report_with part l r rules explain says.stop) same;
  }

  order-given : (told : Option ℕ) (r : Recording) (touches : Option (List Touch)) (rules : List Target) (explain : Bool) (o p : Option Report) → lost ≡ told → HasCounted part of_pages r.steps → IsGivenIf (is_later part) of_pages lost o p
      → IfSome o (λ one. IfSome touches (λ all. summary one ≡ unordered_report r (touched_by all r.lines) rules explain))
      → IfSome p (λ one. IfSome touches (λ all. summary one ≡ unordered_with part told r (touched_by all r.lines) rules explain))
  order-given told r touches rules explain None None same counted is says = tt
  order-given told r touches rules explain None (Some new) same counted is says = absurd is
  order-given told r touches rules explain (Some old) None same counted is says = tt
  order-given told r None rules explain (Some old) (Some new) same counted is says = tt
  order-given told r (Some all) rules explain (Some old) (Some new) same counted is says =
      says-given part of_pages lost old new is r.steps (unordered_report r (touched_by all r.lines) rules explain) counted says (λ some. refl)
      ∙ ap (λ (l : Option ℕ). unordered_with part l r (touched_by all r.lines) rules explain) same

  pub unstopped : (r : Recording) (rules : List Target) (explain : Bool) (o p : Option Report) → IsGivenIf (is_later part) of_pages lost o p → IfSome o (λ one. IsReportOfRun None true None r rules explain one)
      → IfSome p (λ one. one.stop ≡ None)
  unstopped r rules explain None None is says = tt
  unstopped r rules explain None (Some new) is says = absurd is
  unstopped r rules explain (Some old) None is says = tt
  unstopped r rules explain (Some old) (Some new) is says = stop-given (is_later part) of_pages lost old new is ∙ ap (λ (s : Summary). s.stop) says.says ∙ ap (stop_line r) (says.whole refl)

pub still-whole : (later : Bool) (of_pages : ℕ) (lost : Option ℕ) (o p : Option Report) → IsGivenIf later of_pages lost o p → IfSome o (λ one. one.stop ≡ None) → IfSome p (λ one. one.stop ≡ None)
still-whole later of_pages lost None None is none = tt
still-whole later of_pages lost None (Some new) is none = absurd is
still-whole later of_pages lost (Some old) None is none = tt
still-whole later of_pages lost (Some old) (Some new) is none = stop-given later of_pages lost old new is ∙ none

-- the number of lost events is what the text says
lost-of : (told : Option (List ℕ)) (ending : Ending) → IfSome told (λ text. IsEndingOf text ending) → IfSome told (λ text. lost_if ending.is_text_3 ending.lost ≡ lost_told text)
lost-of None ending is = tt
lost-of (Some text) ending is = ap (λ (b : Bool). lost_if b ending.lost) is.third ∙ ap (λ (l : Option Lost). lost_if (is_text_3 text) l) is.lost

-- the reports of the text
module _ (part : Option PartView) (of_pages : ℕ) (told : Option (List ℕ)) (limit : ℕ) (asked : Asked) (r : Recording) (read : IfSome told (λ text. IsPartOf part text limit r)) (counted : HasCounted part of_pages r.steps)
    (reports : Reports) (has : Bool) (built : AreBuilt part asked r reports has) (trace : Recording) (names : trace.names ≡ r.names) (ending : Ending) (ends : IfSome told (λ text. IsEndingOf text ending))
    (left : Reports) where
  abbrev lost : Option ℕ
  lost = lost_if ending.is_text_3 ending.lost

  module _ (lockset : IsGivenIf (is_later part) of_pages lost reports.lockset left.lockset) (unordered : IsGivenIf (is_later part) of_pages lost reports.unordered left.unordered) where
    reports-by : (o : Option (List ℕ)) → IfSome o (λ text. IsPartOf part text limit r) → IfSome o (λ text. lost ≡ lost_told text)
        → IfSome o (λ text. AreReportsOfText part asked.analysis text asked.touches limit asked.rules asked.explain trace.names left)
    reports-by None read is = tt
    reports-by (Some text) read is = record {
      recording = r;
      trace = read;
      names = names;
      lockset = run-given part of_pages lost (is_unstopped part asked.analysis) (lost_told text) r asked.rules asked.explain reports.lockset left.lockset is (part-unstopped part asked.analysis) counted lockset built.lockset.says;
      unordered = order-given part of_pages lost (lost_told text) r asked.touches asked.rules asked.explain reports.unordered left.unordered is counted unordered built.unordered.says;
    }

    order-by : (o : Option (List ℕ)) → IfSome o (λ text. IsPartOf part text limit r) → IfSome o (λ text. IsOrderOfText part asked.analysis text limit has)
    order-by None read = tt
    order-by (Some text) read = record { recording = r; trace = read; says = built.unordered.order }

    pub outcome-of : (asked.strict ≡ true → IfSome told (λ text. IsDamageOf text limit no_damage))
        → IsOutcomeOf part told limit asked (Ok (record { reports = left; trace = trace; ending = ending; has_order = has }))
    outcome-of clean = record {
      reports = reports-by told read (lost-of told ending ends);
      there = (still-there part of_pages lost reports.lockset left.lockset lockset ∙ built.lockset.there, still-there part of_pages lost reports.unordered left.unordered unordered ∙ built.unordered.there);
      named = rw names (record {
        lockset = still-named part of_pages lost r.names reports.lockset left.lockset lockset built.lockset.names;
        unordered = still-named part of_pages lost r.names reports.unordered left.unordered unordered built.unordered.names;
      });
      whole = λ whole.
          unstopped part of_pages lost r asked.rules asked.explain reports.lockset left.lockset lockset
          (subst (λ (b : Bool). IfSome reports.lockset (λ one. IsReportOfRun None b None r asked.rules asked.explain one)) whole built.lockset.says);
      ending = ends;
      order = order-by told read;
      fault = tt;
      undamaged = λ strict. clean strict;
      lenient = λ lenient. tt;
    }

-- or a fault
pub failed-outcome : (part : Option PartView) (told : Option (List ℕ)) (limit : ℕ) (asked : Asked) (why : RunFault) → IsFaultOfText part asked.analysis told limit why → (IsFalse asked.strict → IsNoDamage why)
    → IsOutcomeOf part told limit asked (Err why)
failed-outcome part told limit asked why is lenient = record {
  reports = tt;
  there = tt;
  named = tt;
  whole = λ orders. tt;
  ending = tt;
  order = tt;
  fault = is;
  undamaged = λ strict. tt;
  lenient = lenient;
}

-- A report that grows by each step is the one that the definitions give of the steps so far.
use Rattle.std.proofs.Common.{◌≡◌, ◌<◌, ◌≤◌, ◌^◌, ◌+◌, ℕ, zero, suc, Bool, true, false, cond, List, [], ◌∷◌, ◌++◌, ◌&&◌, length, map, take, drop, replicate, slice_get, slice_index, Option, Some, None, is_some, is_none, Result, Ok, Err, IfSome, IsTrue, refl, sym, ap, subst, ◌∙◌, arith, below_more, add-one}
use Rattle.std.proofs.lemmas.Option.{slice_get_within, get_or_from_slice_get}
use Rattle.std.proofs.lemmas.List.{take-append-drop, length-take, append-nil, length-replicate}
use Rattle.std.proofs.Math.Bool.{and-true}
use Rattle.std.proofs.Common.{length-append, get_or}
use Rattle.std.proofs.Math.Seq.{get_or-append_seam}
use Rattle.std.proofs.lemmas.List.{get_or_append_left}
use Rattle.er_event.specs.declared.refusals.Refusal.{Refusal}
use Rattle.er_event.specs.declared.steps.Reply.{Reply}
use Rattle.er_event.specs.declared.steps.Step.{Step}
use Rattle.std.specs.List.{All}
use Rattle.std.proofs.lemmas.List.Elements.{All-same, All-nil, All-cons, All-head, All-tail}
use Rattle.er_trace.specs.Trace.{Recording, IsNamed, HasSiteName as IsSite}
use Rattle.er_event.specs.declared.refusals.NoRoom.{NoRoom}
use Rattle.er_report.specs.Lines.{LineView, line_view}
use Rattle.er_journal.specs.declared.answers.Stopped.{Stopped}
use Rattle.er_model.specs.Answers.{answer, answers, answers_below}
use Rattle.er_model.specs.Holdings.{Holdings, holdings, holdings_at}
use Rattle.er_model.specs.Threads.{accepted, held}
use Rattle.er_model.proofs.Prefixes.{answers-front}
use Rattle.er_explain.specs.Racing.{is_race, places_below}
use Rattle.er_report.specs.Names.{HasNames, HasReasonNames, HasViewNames, HaveStateNames}
use Rattle.er_report.specs.declared.report.Because.{Because}
use Rattle.er_report.specs.declared.report.Line.{Line}
use Rattle.er_report.proofs.NamedLemmas.{named_lines, named_reasons, named_states}
use Rattle.er_report.specs.Builder.{Built, report_below, report_below_by, IsBuilt, IsBuiltBy, IsExplained, IsReported, IsStepAt, IsStepBy}
use Rattle.er_report.proofs.KeptLemmas.{told-by}
use Rattle.er_report.specs.Inner.Explained.{lines_kept}
use Rattle.er_report.specs.Inner.Adding.{empty_report, with_answer, IsCounted, HasRoom}
use Rattle.er_report.specs.Kept.{Kept, Follows}
use Rattle.er_report.specs.Report.{Answering, Summary, answer_line, reply_line, line_of, line_at, lines_below, lines_by, no_reasons, reasons_if, is_refused, is_printed_by, rule_count, count_below, answer_matching_rule, matching_rule_by, answered_steps, stop_line, report_of, report_by}
use Rattle.er_report.proofs.CountLemmas.{no_counts, same_counts, counts_more, one_more-most, length-one_more}
use Rattle.er_rules.specs.Rules.{Target}
use Rattle.er_trace.specs.Names.{NameTable}
use Rattle.er_event.specs.declared.steps.Event.{Event}
use Rattle.er_event.specs.declared.steps.Event.TheVariants.{Access, Reuse}
use Rattle.er_event.specs.declared.steps.Reply.TheVariants.{Race, Done, Quiet, Ignored, State}
use Rattle.std.specs.List.{range_with_len}

-- lists of answers
pub length_answers : (steps : List Step) (n : ℕ) → length (answers_below steps n) ≡ n
unfolding answers_below
length_answers steps zero = refl
length_answers steps (suc n) = length-append (answers_below steps n) (answer steps n ∷ []) ∙ (let e : length (answers_below steps n) ≡ n = length_answers steps n in omega arith)

answer_in : (steps : List Step) (n k : ℕ) (d : Result Reply Refusal) → k < n → get_or (answers_below steps n) k d ≡ answer steps k
unfolding answers_below
answer_in steps zero k d below = absurd (omega arith)
answer_in steps (suc n) k d below =
    let front : List (Result Reply Refusal) = answers_below steps n in
    let whole : length front ≡ n = length_answers steps n in
    below_more (λ (j : ℕ). get_or (front ++ answer steps n ∷ []) j d ≡ answer steps j) n
    (λ j h. get_or_append_left front (answer steps n ∷ []) d j (omega arith) ∙ answer_in steps n j d h)
    (subst (λ (j : ℕ). get_or (front ++ answer steps n ∷ []) j d ≡ answer steps n) whole (get_or-append_seam front (answer steps n) [] d))
    k (omega arith)

pub answer_known : (steps : List Step) (n k : ℕ) (a : Result Reply Refusal) → slice_get (answers_below steps n) k ≡ Some a → a ≡ answer steps k
answer_known steps n k a is =
    let front : List (Result Reply Refusal) = answers_below steps n in
    let here : k < length front = slice_get_within front k a is in
    let whole : length front ≡ n = length_answers steps n in
    sym (get_or_from_slice_get front k a a is) ∙ answer_in steps n k a (omega arith)

-- the answered steps are the front of all
pub answered_front : (steps : List Step) (stop : Option Stopped) → answers (answered_steps steps stop) ≡ answers_below steps (length (answered_steps steps stop))
answered_front steps None = refl
answered_front steps (Some stop) =
    let front : List Step = take stop.at steps in
    sym (answers-front front (drop stop.at steps) (length front) (omega arith))
    ∙ ap (λ (whole : List Step). answers_below whole (length front)) (take-append-drop stop.at steps)

pub answered_within : (steps : List Step) (stop : Option Stopped) → length (answered_steps steps stop) ≤ length steps
answered_within steps None = omega arith
answered_within steps (Some stop) = omega (arith, length-take stop.at steps)

-- reports by their parts
pub same_summary : (k l : List LineView) (o p : Option (ℕ × NoRoom)) (a b : List ℕ) (m n q r s t u v : ℕ) → k ≡ l → o ≡ p → a ≡ b → m ≡ n → q ≡ r → s ≡ t → u ≡ v
    → (let one : Summary = record { lines = k; stop = o; rule_counts = a; steps = m; races = q; suppressed = s; refused = u; lost = None } in
    let two : Summary = record { lines = l; stop = p; rule_counts = b; steps = n; races = r; suppressed = t; refused = v; lost = None } in
    one ≡ two)
same_summary k l o p a b m n q r s t u v ek eo ea em eq es eu = cc

report-start : (a : Answering) (r : Recording) (rules : List Target) → report_below_by a r rules 0 ≡ empty_report (length rules)
unfolding report_below_by lines_by count_below
report-start a r rules =
    same_summary _ _ _ _ _ _ _ _ _ _ _ _ _ _ refl refl (no_counts (rule_count a r rules 0) (λ i. refl) 0 (length rules)) refl refl refl refl

-- locks matter to a race alone
same_reply : (number line_site : ℕ) (a b : List ℕ) (t : ℕ) (event : Event) (reply : Reply) → is_race (Ok reply) ≡ false
    → reply_line number line_site a [] t event reply ≡ reply_line number line_site b [] t event reply
same_reply number line_site a b t (Access kind word site) Race none = cc
same_reply number line_site a b t (Reuse range) Race none = cc
same_reply number line_site a b t event reply none = refl

same_line : (number line_site : ℕ) (locks known : List ℕ) (step : Step) (given : Result Reply Refusal) → (IsTrue (is_race given) → locks ≡ known)
    → answer_line number line_site locks [] step given ≡ answer_line number line_site known [] step given
same_line number line_site locks known step (Ok Race) same = ap (λ (held : List ℕ). reply_line number line_site held [] step.thread step.event Race) (same refl)
same_line number line_site locks known step (Ok Done) same = same_reply number line_site locks known step.thread step.event Done refl
same_line number line_site locks known step (Ok Quiet) same = same_reply number line_site locks known step.thread step.event Quiet refl
same_line number line_site locks known step (Ok Ignored) same = same_reply number line_site locks known step.thread step.event Ignored refl
same_line number line_site locks known step (Ok (State state)) same = same_reply number line_site locks known step.thread step.event (State state) refl
same_line number line_site locks known step (Err why) same = refl

-- what a rule takes is a race
taken_race : (rules : List Target) (names : NameTable) (line_site : ℕ) (event : Event) (a : Result Reply Refusal) (i : ℕ)
    → answer_matching_rule rules names line_site event a ≡ Some i → (is_race a ≡ true) × (is_refused a ≡ false)
taken_race rules names line_site event (Ok Race) i taken = (refl, refl)
taken_race rules names line_site event (Ok Done) i taken = absurd (cc)
taken_race rules names line_site event (Ok Quiet) i taken = absurd (cc)
taken_race rules names line_site event (Ok Ignored) i taken = absurd (cc)
taken_race rules names line_site event (Ok (State state)) i taken = absurd (cc)
taken_race rules names line_site event (Err refusal) i taken = absurd (cc)

-- one step of a recording
module _ (a : Answering) (r : Recording) (rules : List Target) (k : ℕ) (names : NameTable) (number line_site : ℕ) (step : Step) (given : Result Reply Refusal) (locks : List ℕ)
    (at : IsStepBy a r k names number line_site step given locks) where
  line-here : answer_line number line_site locks [] step given ≡ line_at a no_reasons r k
  unfolding line_at
  line-here =
      same_line number line_site locks (held (accepted r.steps k) step.thread) step given at.locked
      ∙ ap (λ (n : ℕ). answer_line n line_site (held (accepted r.steps k) step.thread) [] step given) at.line
      ∙ ap (λ (s : ℕ). answer_line (slice_index r.lines k) s (held (accepted r.steps k) step.thread) [] step given) at.site
      ∙ ap (answer_line (slice_index r.lines k) (slice_index r.sites k) (held (accepted r.steps k) step.thread) [] step) at.answered
      ∙ ap (line_of a no_reasons r k) (sym at.here)

  rule-here : answer_matching_rule rules names line_site step.event given ≡ matching_rule_by a r rules k
  unfolding matching_rule_by
  rule-here = rw (at.here, at.named, at.site, at.answered) refl

  -- one step more, by what becomes of its race
  more-by : (o : Option ℕ) → matching_rule_by a r rules k ≡ o → with_answer (report_below_by a r rules k) number line_site locks step given o ≡ report_below_by a r rules (suc k)
  unfolding report_below_by lines_by count_below
  more-by None taken =
      same_summary _ _ _ _ _ _ _ _ _ _ _ _ _ _
      (rw taken (ap (λ (more : List LineView). lines_by a no_reasons r rules k ++ more) line-here))
      refl
      (same_counts (rule_count a r rules k) (rule_count a r rules (suc k)) (λ i. rw taken (omega arith)) (range_with_len 0 (length rules)))
      (add-one k)
      (rw (taken, and-true (is_race (a k)), at.answered) refl)
      (rw taken (omega arith))
      (rw at.answered refl)
  more-by (Some i) taken =
      let race : (is_race given ≡ true) × (is_refused given ≡ false) = taken_race rules names line_site step.event given i (rule-here ∙ taken) in
      let known : (is_race (a k) ≡ true) × (is_refused (a k) ≡ false) = rw at.answered at race in
      same_summary _ _ _ _ _ _ _ _ _ _ _ _ _ _
      (rw taken (sym (append-nil (lines_by a no_reasons r rules k))))
      refl
      (counts_more (rule_count a r rules k) (length rules) (rule_count a r rules (suc k)) i (λ j. rw taken refl))
      (add-one k)
      (rw (taken, known.0) (omega arith))
      (rw taken refl)
      (rw known.1 (omega arith))

  more : with_answer (report_below_by a r rules k) number line_site locks step given (answer_matching_rule rules names line_site step.event given) ≡ report_below_by a r rules (k + 1)
  more = ap (with_answer (report_below_by a r rules k) number line_site locks step given) rule-here ∙ more-by (matching_rule_by a r rules k) refl ∙ ap (report_below_by a r rules) (sym (add-one k))

  -- and the position of its race
  race-here : places_below (is_printed_by a r rules) k ++ cond (is_race given && is_none (answer_matching_rule rules names line_site step.event given)) (k ∷ []) []
      ≡ places_below (is_printed_by a r rules) (k + 1)
  unfolding places_below
  race-here = rw (add-one k, rule-here, at.answered) refl

-- how many steps a report is of
pub report-steps : (a : Answering) (r : Recording) (rules : List Target) (k : ℕ) → (report_below_by a r rules k).steps ≡ k
unfolding report_below_by
report-steps a r rules k = refl

-- a builder before any step, and after one more
pub built-start : (builder : Built) (n : ℕ) → builder.report ≡ empty_report n → n ≡ length builder.rules → builder.races ≡ [] → (a : Answering) (r : Recording) → IsBuiltBy a builder r 0
unfolding places_below
built-start builder n empty known none a r =
    record {
      report = empty ∙ ap empty_report known ∙ sym (report-start a r builder.rules);
      races = none;
    }

pub built-next : (a : Answering) (before after : Built) (r : Recording) (k : ℕ) (names : NameTable) (number line_site : ℕ) (step : Step) (given : Result Reply Refusal) (locks : List ℕ)
    → IsBuiltBy a before r k → IsStepBy a r k names number line_site step given locks → after.rules ≡ before.rules
    → after.report ≡ with_answer before.report number line_site locks step given (answer_matching_rule before.rules names line_site step.event given)
    → after.races ≡ before.races ++ cond (is_race given && is_none (answer_matching_rule before.rules names line_site step.event given)) (before.report.steps ∷ []) []
    → IsBuiltBy a after r (k + 1)
built-next a before after r k names number line_site step given locks built at kept added placed =
    let count : before.report.steps ≡ k = ap (λ (s : Summary). s.steps) built.report ∙ report-steps a r before.rules k in
    let rule : Option ℕ = answer_matching_rule before.rules names line_site step.event given in
    let printed : Bool = is_race given && is_none rule in
    record {
      report =
          added
          ∙ ap (λ (s : Summary). with_answer s number line_site locks step given rule) built.report
          ∙ more a r before.rules k names number line_site step given locks at
          ∙ ap (λ (rules : List Target). report_below_by a r rules (k + 1)) (sym kept);
      races =
          placed
          ∙ ap (λ (n : ℕ). before.races ++ cond printed (n ∷ []) []) count
          ∙ ap (λ (places : List ℕ). places ++ cond printed (k ∷ []) []) built.races
          ∙ race-here a r before.rules k names number line_site step given locks at
          ∙ ap (λ (rules : List Target). places_below (is_printed_by a r rules) (k + 1)) (sym kept);
    }

-- counts stay within those of the steps
pub counted-start : (n rules : ℕ) (s : Summary) → s ≡ empty_report n → n ≡ rules → IsCounted s rules
counted-start n rules s empty known = subst (λ (t : Summary). IsCounted t rules) (sym empty) (rw known (record {
  races = omega arith;
  suppressed = omega arith;
  refused = omega arith;
  rule_counts = λ i. none rules i;
  one_each = length-replicate rules 0;
}))
  where
    none : (n i : ℕ) → slice_index (replicate n 0) i ≤ 0
    none zero i = omega arith
    none (suc n) zero = omega arith
    none (suc n) (suc i) = none n i

pub counted-next : (s : Summary) (rules number line_site : ℕ) (locks : List ℕ) (step : Step) (given : Result Reply Refusal) (o : Option ℕ)
    → IsCounted s rules → IsCounted (with_answer s number line_site locks step given o) rules
counted-next s rules number line_site locks step given None counted =
    record {
      races = bump (is_race given) s.races counted.races;
      suppressed = omega (arith, counted.suppressed);
      refused = bump (is_refused given) s.refused counted.refused;
      rule_counts = λ i. (let low : slice_index s.rule_counts i ≤ s.steps = counted.rule_counts i in omega arith);
      one_each = counted.one_each;
    }
  where
    bump : (b : Bool) (n : ℕ) → n ≤ s.steps → n + cond b 1 0 ≤ s.steps + 1
    bump true n low = omega arith
    bump false n low = omega arith
counted-next s rules number line_site locks step given (Some j) counted =
    record {
      races = omega (arith, counted.races);
      suppressed = omega (arith, counted.suppressed);
      refused = omega (arith, counted.refused);
      rule_counts = λ i. one_more-most s.rule_counts s.steps j counted.rule_counts i;
      one_each = length-one_more s.rule_counts j ∙ counted.one_each;
    }

pub counted-room : (s : Summary) (rules : ℕ) → IsCounted s rules → s.steps + 1 < 2 ^ 64 → HasRoom s
counted-room s rules counted small =
    record { steps = small; races = counted.races; suppressed = counted.suppressed; refused = counted.refused; rule_counts = counted.rule_counts }

-- at the end of the answered steps
pub built-end : (a : Answering) (builder : Built) (r : Recording) (stop : Option Stopped) (o : Option (ℕ × NoRoom)) → IsBuiltBy a builder r (length (answered_steps r.steps stop))
    → o ≡ stop_line r stop → record builder.report { stop = o } ≡ report_by a no_reasons r builder.rules stop
unfolding report_below_by
built-end a builder r stop o built stopped =
    ap (λ (t : Summary). record t { stop = o }) built.report
    ∙ ap (λ (p : Option (ℕ × NoRoom)). record (report_below_by a r builder.rules (length (answered_steps r.steps stop))) { stop = p }) stopped

pub built-lines : (a : Answering) (builder : Built) (r : Recording) (n : ℕ) → IsBuiltBy a builder r n → builder.report.lines ≡ lines_by a no_reasons r builder.rules n
unfolding report_below_by
built-lines a builder r n built = ap (λ (s : Summary). s.lines) built.report

-- the lines with reasons, if they are asked for
pub explained-lines : (builder : Built) (r : Recording) (n : ℕ) (lines : List LineView) → IsReported builder r n
    → lines ≡ lines_kept builder.kept builder.report.lines → lines ≡ lines_below r builder.rules (is_some builder.kept) n
unfolding IsBuilt
explained-lines builder r n lines reported are = told-by r builder.rules n builder.kept lines builder.report.lines (built-lines (answer r.steps) builder r n reported.built) reported.explained are

pub explained-end : (builder : Built) (r : Recording) (stop : Option Stopped) (lines : List LineView) (o : Option (ℕ × NoRoom))
    → IsReported builder r (length (answered_steps r.steps stop)) → o ≡ stop_line r stop
    → lines ≡ lines_kept builder.kept builder.report.lines
    → record builder.report { lines = lines; stop = o } ≡ report_of r builder.rules (is_some builder.kept) stop
unfolding report_below_by IsBuilt
explained-end builder r stop lines o reported stopped are =
    let n : ℕ = length (answered_steps r.steps stop) in
    ap (λ (t : Summary). record t { lines = lines; stop = o }) reported.built.report
    ∙ ap (λ (all : List LineView). record (report_below r builder.rules n) { lines = all; stop = o }) (explained-lines builder r n lines reported are)
    ∙ ap (λ (p : Option (ℕ × NoRoom)). record (report_below r builder.rules n) { lines = lines_below r builder.rules (is_some builder.kept) n; stop = p }) stopped

-- the names of what the lines tell are the names of the lines
lines_named : (names : NameTable) (lines : List Line) → All (HasViewNames names) (map line_view lines) → All (HasNames names) lines
lines_named names [] all = All-nil (HasNames names)
lines_named names (line ∷ lines) all =
    All-cons (HasNames names) line lines (All-head (HasViewNames names) (line_view line) (map line_view lines) all)
    (lines_named names lines (All-tail (HasViewNames names) (line_view line) (map line_view lines) all))

pub report-named : (a : Answering) (reasons : ℕ → List Because) (r : Recording) (rules : List Target) (n : ℕ) (lines : List Line) → map line_view lines ≡ lines_by a reasons r rules n
    → All (IsNamed r.names) r.steps → All (IsSite r.names) r.sites → HaveStateNames r.names a → ((k : ℕ) → All (HasReasonNames r.names) (reasons k)) → All (HasNames r.names) lines
report-named a reasons r rules n lines are all sites states because =
    lines_named r.names lines (All-same (HasViewNames r.names) (map line_view lines) (lines_by a reasons r rules n) are (named_lines r all sites a reasons states because rules n))

-- by the lockset rule, whose states and reasons have their names
pub report-named-at : (r : Recording) (rules : List Target) (explain : Bool) (n : ℕ) (lines : List Line) → map line_view lines ≡ lines_below r rules explain n
    → All (IsNamed r.names) r.steps → All (IsSite r.names) r.sites → All (HasNames r.names) lines
report-named-at r rules explain n lines are all sites =
    report-named (answer r.steps) (reasons_if explain r) r rules n lines are all sites (named_states r all) (named_reasons r all explain)

pub built-steps : (a : Answering) (builder : Built) (r : Recording) (n : ℕ) → IsBuiltBy a builder r n → builder.report.steps ≡ n
built-steps a builder r n built = ap (λ (s : Summary). s.steps) built.report ∙ report-steps a r builder.rules n

-- a step that was answered
pub step-answered : (r : Recording) (stop : Option Stopped) (k : ℕ) (names : NameTable) (number line_site : ℕ) (step : Step) (given : Result Reply Refusal) (locks : List ℕ) (h : Holdings)
    (known : List (Result Reply Refusal)) → known ≡ answers (answered_steps r.steps stop) → slice_get known k ≡ Some given → slice_get r.steps k ≡ Some step
    → number ≡ slice_index r.lines k → line_site ≡ slice_index r.sites k → names ≡ r.names → (IsTrue (is_race given) → locks ≡ h.held) → h ≡ holdings_at r.steps step.thread k
    → IsStepAt r k names number line_site step given locks
unfolding holdings
step-answered r stop k names number line_site step given locks h known answered given_is here line site named locked held =
    let n : ℕ = length (answered_steps r.steps stop) in
    let all : known ≡ answers_below r.steps n = answered ∙ answered_front r.steps stop in
    record {
      here = here;
      line = line;
      site = site;
      named = named;
      answered = answer_known r.steps n k given (rw all at given_is);
      locked = λ race. locked race ∙ ap (λ (h : Holdings). h.held) held;
    }

pub answers_are : (r : Recording) (stop : Option Stopped) (known : List (Result Reply Refusal)) → known ≡ answers (answered_steps r.steps stop)
    → length known ≡ length (answered_steps r.steps stop)
answers_are r stop known e =
    ap (λ (all : List (Result Reply Refusal)). length all) e ∙ length_answers (answered_steps r.steps stop) (length (answered_steps r.steps stop))

-- what is kept stays that of the steps so far, if the builder keeps it
pub still-explained : (before after : Built) (r : Recording) (k : ℕ) → after.rules ≡ before.rules → after.kept ≡ before.kept → IsExplained before r k → IsExplained after r k
still-explained before after r k rules kept explained =
    subst (λ (o : Option Kept). IfSome o (λ held. Follows held r after.rules k)) (sym kept)
    (subst (λ (known : List Target). IfSome before.kept (λ held. Follows held r known k)) (sym rules) explained)

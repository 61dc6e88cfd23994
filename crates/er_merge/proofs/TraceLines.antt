-- The lines of the report of a trace: their numbers have 64 bits, and no two of them are of one line of the text.
use Rattle.std.proofs.Common.{◌≡◌, ℕ, zero, suc, Bool, true, false, cond, nat_le, List, [], ◌∷◌, flat_map, length, map, slice_get, slice_index, Option, Some, None, Result, Ok, Err, is_some, refl, sym, ap, subst, ◌∙◌, inl, inr, arith}
use Rattle.std.specs.List.{All}
use Rattle.std.proofs.lemmas.Bool.{cases_lt}
use Rattle.std.proofs.lemmas.Bool.Decides.{nat_tests}
use Rattle.std.proofs.lemmas.List.Elements.{All-append, All-cons, All-contains, All-head, All-nil, All-tail}
use Rattle.er_event.specs.declared.refusals.Refusal.{Refusal}
use Rattle.er_event.specs.declared.steps.Event.{Event}
use Rattle.er_event.specs.declared.steps.Event.TheVariants.{Acquire, Release, Access, Reuse, IgnoreOn, IgnoreOff, Show, Level, Sync}
use Rattle.er_event.specs.declared.steps.Reply.{Reply}
use Rattle.er_event.specs.declared.steps.Reply.TheVariants.{Done, Race, State}
use Rattle.er_event.specs.declared.steps.Step.{Step}
use Rattle.er_event.specs.declared.steps.WordState.{WordState}
use Rattle.er_explain.specs.Explaining.{explanation_at, explanation_by, explanation_of, explanation_where, found}
use Rattle.er_model.specs.Answers.{answer, answer_to, answer_unless, reading_of, reply, state_at}
use Rattle.er_model.specs.Explanations.{first_uncovered, first_write, word_of}
use Rattle.er_model.specs.Threads.{accepted, held, refusal}
use Rattle.er_model.specs.Words.{Reading, cover_of, first, join}
use Rattle.er_parts.specs.Merged.{deed_word, line_number, line_word}
use Rattle.er_parts.specs.Ordered.{event_word}
use Rattle.er_report.specs.Lines.{LineView, RacedView, RefusedView, ShownView}
use Rattle.er_report.specs.Reasons.{access_reason, reason_at, reasons_by, reasons_of, step_reason}
use Rattle.er_report.specs.Report.{answer_line, line_at, line_of, lines_by, matching_rule_by, reasons_if, reply_line}
use Rattle.er_report.specs.declared.report.Because.{Because}
use Rattle.er_report.specs.declared.report.Label.{Label}
use Rattle.er_report.specs.declared.report.Label.TheVariants as label
use Rattle.er_rules.specs.Rules.{Target}
use Rattle.er_text.specs.Trace.{IsTrace}
use Rattle.er_trace.specs.Names.{NameTable}
use Rattle.er_trace.specs.Trace.{Recording}
use Rattle.er_merge.specs.Texts.{AddressesFollow, EventFits, Fits, LabelFits, LineFits, ReasonFits, StateFits, address_of}
use Rattle.er_merge.proofs.LockFits.{accepted_fits, cover_fits, held_fits, state_fits}
use Rattle.er_merge.proofs.TraceSteps.{IsReuse, StepFits, line_fits, step_fits, steps_alone}

-- the line tells what this thread did
abbrev pub Tells : ℕ → Event → LineView → Type 0
Tells t e (RacedView race) = (race.thread ≡ t) × (deed_word race.deed ≡ event_word e)
Tells t e (RefusedView number step refusal) = Unit {0}
Tells t e (ShownView number word state) = word ≡ event_word e

-- a step's line: it has at most one, which fits; a reuse has none
abbrev Given : ℕ → ℕ → Event → List LineView → Type 0
Given n t e [] = Unit {0}
Given n t e (line ∷ []) = (line_number line ≡ n) × LineFits line × (IsReuse e → ⊥) × Tells t e line
Given n t e (line ∷ other ∷ lines) = ⊥

event_fits : (e : Event) → StepFits e → EventFits e
event_fits (Acquire l m) fit = fit
event_fits (Release l m) fit = fit
event_fits (Access kind w site) fit = tt
event_fits (Reuse range) fit = tt
event_fits IgnoreOn fit = tt
event_fits IgnoreOff fit = tt
event_fits (Show w) fit = tt
event_fits (Level n) fit = tt
event_fits (Sync sync) fit = tt

-- what is answered of a reuse and of a show
record AnswersSo (shown : ℕ → WordState) (e : Event) (a : Result Reply Refusal) : Type 0 where
  reuse : IsReuse e → a ≡ Ok Done
  show : (w : ℕ) → e ≡ Show w → a ≡ Ok (State (shown w))

given_reply : (n ls t : ℕ) (locks : List ℕ) (reasons : List Because) (shown : ℕ → WordState) (e : Event) (reply : Reply) → Fits n → All Fits locks → All ReasonFits reasons → ((w : ℕ) → StateFits (shown w))
    → AnswersSo shown e (Ok reply) → Given n t e (reply_line n ls locks reasons t e reply)
given_reply n ls t locks reasons shown (Access kind w site) Race fit held because states so = (refl, (fit, tt, held, because), (λ is. let clash = is.1 in cc), (refl, refl))
given_reply n ls t locks reasons shown (Reuse range) Race fit held because states so = absurd (let clash = so.reuse (range, refl) in cc)
given_reply n ls t locks reasons shown (Show w) (State state) fit held because states so =
    let is = so.show w refl in
    let same : shown w ≡ state = cc in
    (refl, (fit, subst StateFits same (states w)), (λ is. let clash = is.1 in cc), refl)
given_reply n ls t locks reasons shown e reply fit held because states so = tt

given_answer : (n ls : ℕ) (locks : List ℕ) (reasons : List Because) (shown : ℕ → WordState) (step : Step) (a : Result Reply Refusal) → Fits n → All Fits locks → All ReasonFits reasons → ((w : ℕ) → StateFits (shown w))
    → StepFits step.event → AnswersSo shown step.event a → Given n step.thread step.event (answer_line n ls locks reasons step a)
given_answer n ls locks reasons shown step (Ok reply) fit held because states good so = given_reply n ls step.thread locks reasons shown step.event reply fit held because states so
given_answer n ls locks reasons shown step (Err why) fit held because states good so = (refl, (fit, event_fits step.event good), (λ is. let clash = so.reuse is in cc), tt)

given_unless : (n t : ℕ) (e : Event) (b : Bool) (lines : List LineView) → Given n t e lines → Given n t e (cond b [] lines)
given_unless n t e true lines given = tt
given_unless n t e false lines given = given

-- the answer to a step, by what it is
answer_is : (steps : List Step) (k : ℕ) (step : Step) → slice_get steps k ≡ Some step
    → answer steps k ≡ answer_unless (refusal (accepted steps k) step.thread step.event) (reply steps k step.thread step.event)
unfolding answer
answer_is steps k step is = ap (answer_to steps k) is

answer_of : (steps : List Step) (k : ℕ) (step : Step) (e : Event) → slice_get steps k ≡ Some step → step.event ≡ e
    → answer steps k ≡ answer_unless (refusal (accepted steps k) step.thread e) (reply steps k step.thread e)
answer_of steps k step e is same =
    answer_is steps k step is ∙ ap (λ (x : Event). answer_unless (refusal (accepted steps k) step.thread x) (reply steps k step.thread x)) same

answers_so : (steps : List Step) (k : ℕ) (step : Step) → slice_get steps k ≡ Some step → AnswersSo (λ w. state_at steps w k) step.event (answer steps k)
unfolding refusal reply
answers_so steps k step is = record {
  reuse = λ reuse. answer_of steps k step (Reuse reuse.0) is reuse.1;
  show = λ w same. answer_of steps k step (Show w) is same;
}

module _ (text : List ℕ) (limit : ℕ) (t : Recording) (is : IsTrace text limit t) (short : Fits (length text)) where
  good : (k : ℕ) (s : Step) → slice_get t.steps k ≡ Some s → StepFits s.event
  good = step_fits text limit t is short

  -- the reasons of a race

  access_fits : (name : Label) (number thread : ℕ) (e : Event) → Fits number → LabelFits name → All ReasonFits (access_reason name number thread e)
  access_fits name number thread (Access kind w site) fit lock = All-cons ReasonFits _ [] (fit, lock) (All-nil ReasonFits)
  access_fits name number thread e fit lock = All-nil ReasonFits

  reason_by : (name : Label) (i : ℕ) (o : Option Step) → slice_get t.steps i ≡ o → LabelFits name → All ReasonFits (step_reason name (slice_index t.lines i) o)
  reason_by name i None there lock = All-nil ReasonFits
  reason_by name i (Some step) there lock = access_fits name (slice_index t.lines i) step.thread step.event (line_fits text limit t is short i step there) lock

  reason_fits : (name : Label) (i : ℕ) → LabelFits name → All ReasonFits (reason_at t name i)
  reason_fits name i lock = reason_by name i (slice_get t.steps i) refl lock

  pairs_fit : (at : ℕ → ℕ) (ls : List ℕ) → All Fits ls → All ReasonFits (flat_map (λ pair. reason_at t (label.Uncovered pair.0) pair.1) (map {B = ℕ × ℕ} (λ l. (l, at l)) ls))
  pairs_fit at [] locks = All-nil ReasonFits
  pairs_fit at (l ∷ ls) locks =
      All-append ReasonFits (reason_at t (label.Uncovered l) (at l)) _ (reason_fits (label.Uncovered l) (at l) (All-head Fits l ls locks)) (pairs_fit at ls (All-tail Fits l ls locks))

  explained_fits : (w n j : ℕ) → All ReasonFits (reasons_of t (explanation_by (reading_of t.steps) w n j))
  unfolding reasons_of explanation_by
  explained_fits w n j =
      let s : Reading = reading_of t.steps in
      All-append ReasonFits _ _
      (All-append ReasonFits _ _
      (All-append ReasonFits _ _ (reason_fits label.First (found (first s w n)) tt) (reason_fits label.Joined j tt))
      (reason_fits label.Write (found (first_write s w n j)) tt))
      (pairs_fit (λ l. found (first_uncovered s w n j l)) (cover_of (s j)) (cover_fits t.steps good j))

  where_fits : (k : ℕ) (a : Result Reply Refusal) → All ReasonFits (reasons_by t (explanation_where t.steps k a))
  unfolding explanation_of
  where_fits k (Ok Race) =
      let w : ℕ = found (word_of (slice_get t.steps k)) in
      explained_fits w (suc k) (found (join (reading_of t.steps) w (suc k)))
  where_fits k a = All-nil ReasonFits

  reasons_fit : (explain : Bool) (k : ℕ) → All ReasonFits (reasons_if explain t k)
  unfolding explanation_at
  reasons_fit true k = where_fits k (answer t.steps k)
  reasons_fit false k = All-nil ReasonFits

  module _ (rules : List Target) (explain : Bool) where
    -- what a report has of the step at position k
    abbrev pub piece : ℕ → List LineView
    piece k = cond (is_some (matching_rule_by (answer t.steps) t rules k)) [] (line_at (answer t.steps) (reasons_if explain t) t k)

    piece_of : (k : ℕ) (step : Step) → slice_get t.steps k ≡ Some step → Given (slice_index t.lines k) step.thread step.event (line_of (answer t.steps) (reasons_if explain t) t k (Some step))
    piece_of k step there =
        given_answer (slice_index t.lines k) (slice_index t.sites k) (held (accepted t.steps k) step.thread) (reasons_if explain t k) (λ w. state_at t.steps w k) step (answer t.steps k)
        (line_fits text limit t is short k step there) (held_fits (accepted t.steps k) step.thread (accepted_fits t.steps good k)) (reasons_fit explain k)
        (λ w. state_fits t.steps good w k) (good k step there) (answers_so t.steps k step there)

    -- a line of the report, with the step that it tells of
    pub record IsLine (line : LineView) : Type 0 where
      pub at : ℕ
      pub step : Step
      pub there : slice_get t.steps at ≡ Some step
      pub alone : piece at ≡ line ∷ []
      pub number : line_number line ≡ slice_index t.lines at
      pub fits : LineFits line
      pub no_reuse : IsReuse step.event → ⊥
      pub tells : Tells step.thread step.event line

    lines_given : (k : ℕ) (step : Step) (lines : List LineView) → slice_get t.steps k ≡ Some step → piece k ≡ lines → Given (slice_index t.lines k) step.thread step.event lines → All IsLine lines
    lines_given k step [] there same given = All-nil IsLine
    lines_given k step (line ∷ []) there same given =
        All-cons IsLine line [] (record { at = k; step = step; there = there; alone = same; number = given.0; fits = given.1; no_reuse = given.2; tells = given.3 }) (All-nil IsLine)
    lines_given k step (line ∷ other ∷ lines) there same given = absurd given

    piece_by : (k : ℕ) (o : Option Step) → slice_get t.steps k ≡ o → All IsLine (piece k)
    unfolding line_at
    piece_by k None past = subst (λ (o : Option Step). All IsLine (cond (is_some (matching_rule_by (answer t.steps) t rules k)) [] (line_of (answer t.steps) (reasons_if explain t) t k o))) (sym past)
        (no_lines (is_some (matching_rule_by (answer t.steps) t rules k)))
      where
        no_lines : (b : Bool) → All IsLine (cond b [] [])
        no_lines true = All-nil IsLine
        no_lines false = All-nil IsLine
    piece_by k (Some step) there =
        let given : Given (slice_index t.lines k) step.thread step.event (piece k) =
        subst (λ (o : Option Step). Given (slice_index t.lines k) step.thread step.event (cond (is_some (matching_rule_by (answer t.steps) t rules k)) [] (line_of (answer t.steps) (reasons_if explain t) t k o))) (sym there)
        (given_unless (slice_index t.lines k) step.thread step.event (is_some (matching_rule_by (answer t.steps) t rules k)) (line_of (answer t.steps) (reasons_if explain t) t k (Some step)) (piece_of k step there)) in
        lines_given k step (piece k) there refl given

    pub all_lines_given : (n : ℕ) → All IsLine (lines_by (answer t.steps) (reasons_if explain t) t rules n)
    unfolding lines_by
    all_lines_given zero = All-nil IsLine
    all_lines_given (suc n) =
        All-append IsLine (lines_by (answer t.steps) (reasons_if explain t) t rules n) (piece n) (all_lines_given n) (piece_by n (slice_get t.steps n) refl)

    -- two lines of one number are one
    one_line : (a b : LineView) → IsLine a → IsLine b → line_number a ≡ line_number b → a ≡ b
    one_line a b first second same =
        let lines : slice_index t.lines first.at ≡ slice_index t.lines second.at = sym first.number ∙ same ∙ second.number in
        elim (cases_lt first.at second.at) [
          | inl less ↦ absurd (first.no_reuse (steps_alone text limit t is first.at second.at first.step second.step less first.there second.there lines).0)
          | inr most ↦ elim (cases_lt second.at first.at) [
            | inl more ↦ absurd (second.no_reuse (steps_alone text limit t is second.at first.at second.step first.step more second.there first.there (sym lines)).0)
            | inr least ↦
                let place : first.at ≡ second.at = omega (arith, most, least) in
                let both : a ∷ [] ≡ b ∷ [] = sym first.alone ∙ ap piece place ∙ second.alone in cc
          ]
        ]

    alike : (names : NameTable) (a b : LineView) → a ≡ b → nat_le (address_of names a) (address_of names b) ≡ nat_le (line_word a) (line_word b)
    alike names a b same = subst (λ (c : LineView). nat_le (address_of names a) (address_of names c) ≡ nat_le (line_word a) (line_word c)) same (grind (arith, nat_tests))

    pub lines_follow : (names : NameTable) (lines : List LineView) → All IsLine lines → AddressesFollow names lines
    lines_follow names lines all a b first second same =
        alike names a b (one_line a b (All-contains IsLine lines a all first) (All-contains IsLine lines b all second) same)

    pub lines_fit : (lines : List LineView) → All IsLine lines → All LineFits lines
    lines_fit lines all = λ k d within. (all k d within).fits

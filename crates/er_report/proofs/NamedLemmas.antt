-- Each number in a report has a name where the recording's steps have names. By the laws that a thread follows its holdings and a
-- word its state: step by step, every lock that a thread holds or that a word's state tells of was taken by a step, or is a level's.
use Rattle.std.proofs.Common.{◌≡◌, ◌<◌, ◌==◌, ℕ, zero, suc, Bool, true, false, cond, not, nat_lt, List, [], ◌∷◌, length, map, flat_map, slice_get, slice_index, Option, Some, None, is_some, Result, Ok, Err, refl, sym, subst, ◌∙◌, arith}
use Rattle.std.specs.List.{All}
use Rattle.std.proofs.lemmas.Bool.Decides.{nat_tests}
use Rattle.std.proofs.lemmas.Option.{slice_get_within, get_or_from_slice_get}
use Rattle.std.proofs.lemmas.List.Elements.{All-nil, All-cons, All-head, All-tail, All-append, All-filter}
use Rattle.er_event.specs.Lockset.{with_lock, without_lock, meet, is_level_lock, locks_from, level_locks}
use Rattle.er_trace.specs.Names.{NameTable}
use Rattle.er_trace.specs.Trace.{IsNamed, HasSiteName as IsSite, HasNames as HasNumbersNamed}
use Rattle.er_event.specs.declared.steps.Event.{Event}
use Rattle.er_event.specs.declared.steps.Event.TheVariants.{Acquire, Release, Access, Reuse, IgnoreOn, IgnoreOff, Show, Level, Sync}
use Rattle.er_event.specs.declared.steps.Kind.{Kind}
use Rattle.er_event.specs.declared.steps.Kind.TheVariants.{Read as reading, Write as writing}
use Rattle.er_event.specs.declared.steps.Mode.TheVariants.{Read, Write}
use Rattle.er_event.specs.declared.steps.Step.{Step}
use Rattle.er_event.specs.declared.steps.WordState.{WordState}
use Rattle.er_event.specs.declared.steps.WordState.TheVariants.{Virgin, Exclusive, Shared, SharedModified}
use Rattle.er_event.specs.declared.refusals.Refusal.{Refusal}
use Rattle.er_model.specs.Holdings.{Holdings, acquired_among, at_level, refused_by, changed_by, changed_unless, after_step, holdings_at}
use Rattle.er_model.specs.Table.{advanced, moved, shared_by, reports}
use Rattle.er_trace.specs.Trace.{Recording}
use Rattle.er_event.specs.declared.steps.Reply.{Reply}
use Rattle.er_event.specs.declared.steps.Reply.TheVariants.{Done, Race, Quiet, Ignored, State}
use Rattle.er_model.specs.Answers.{answer, answer_unless, mark, mark_of, state_at, reading_of}
use Rattle.er_model.specs.Explanations.{first_write, first_uncovered, word_of}
use Rattle.er_model.specs.Following.{marked, locks_for, replied}
use Rattle.er_model.specs.Threads.{accepted, held, write_held, is_ignoring}
use Rattle.er_model.specs.Holdings.{holdings}
use Rattle.er_model.specs.Words.{Reading, Counted, Nothing, is_within, cover_of, first, join}
use Rattle.er_model.proofs.Threads.{holdings-step, accepted-past_end}
use Rattle.er_model.proofs.AnswersLemmas.{state-step, state-moved, answer-step}
use Rattle.er_model.proofs.Prefixes.{holdings-empty, state-start}
use Rattle.er_report.specs.Names.{HasLockName, HasLockNames, HasStateNames, HasEventNames, HasSiteName, HasLabelName, HasReasonNames, HasViewNames, HaveStateNames}
use Rattle.er_report.specs.Report.{Answering, reply_line, answer_line, line_of, line_at, lines_by, matching_rule_by, reasons_if}
use Rattle.er_rules.specs.Rules.{Target}
use Rattle.er_report.specs.Lines.{RefusedView, ShownView}
use Rattle.er_report.specs.Reasons.{access_reason, step_reason, reason_at, reasons_of, reasons_by}
use Rattle.er_report.specs.declared.report.Because.{Because}
use Rattle.er_report.specs.declared.report.Label.{Label}
use Rattle.er_report.specs.declared.report.Label.TheVariants as label
use Rattle.er_explain.specs.Explaining.{found, explanation_by, explanation_of, explanation_where, explanation_at}

module _ (names : NameTable) where
  -- lists of locks
  named_with : (lock : ℕ) (locks : List ℕ) → HasLockName names lock → HasLockNames names locks → HasLockNames names (with_lock lock locks)
  unfolding with_lock
  named_with lock [] new others = All-cons (HasLockName names) lock [] new others
  named_with lock (x ∷ xs) new others =
      let P : List ℕ → Type 0 = HasLockNames names in
      let first : HasLockName names x = All-head (HasLockName names) x xs others in
      let rest : HasLockNames names xs = All-tail (HasLockName names) x xs others in
      elim (nat_lt lock x) as (λ b. P (cond b (lock ∷ x ∷ xs) (cond (lock == x) (x ∷ xs) (x ∷ with_lock lock xs)))) [
        | true ↦ All-cons (HasLockName names) lock (x ∷ xs) new others
        | false ↦ elim (lock == x) as (λ b. P (cond b (x ∷ xs) (x ∷ with_lock lock xs))) [
          | true ↦ others
          | false ↦ All-cons (HasLockName names) x (with_lock lock xs) first (named_with lock xs new rest)
        ]
      ]

  named_without : (lock : ℕ) (locks : List ℕ) → HasLockNames names locks → HasLockNames names (without_lock lock locks)
  unfolding without_lock
  named_without lock locks all = All-filter (λ x. not (lock == x)) (HasLockName names) locks all

  named_meet : (xs ys : List ℕ) → HasLockNames names xs → HasLockNames names (meet xs ys)
  unfolding meet
  named_meet xs ys all = All-filter _ (HasLockName names) xs all

  above_levels : (lock : ℕ) → 4294967264 < lock → HasLockName names lock
  above_levels lock above = λ plain. absurd (grind (arith, nat_tests))

  named_from : (lock n : ℕ) → 4294967264 < lock → HasLockNames names (locks_from lock n)
  unfolding locks_from
  named_from lock zero above = All-nil (HasLockName names)
  named_from lock (suc n) above =
      All-cons (HasLockName names) lock (locks_from (suc lock) n) (above_levels lock above) (named_from (suc lock) n (omega arith))

  named_at_level : (n : ℕ) (locks : List ℕ) → HasLockNames names locks → HasLockNames names (at_level n locks)
  unfolding acquired_among
  named_at_level n locks all =
      All-append (HasLockName names) (acquired_among locks) (level_locks n)
      (All-filter (λ l. not (is_level_lock l)) (HasLockName names) locks all) (named_from 4294967265 n (omega arith))

  -- what one thread holds
  pub record HasHoldings (h : Holdings) : Type 0 where
    pub any : HasLockNames names h.held
    pub write : HasLockNames names h.write_held

  named_changed : (h : Holdings) (e : Event) → HasNumbersNamed names e → HasHoldings h → HasHoldings (changed_by h e)
  named_changed h (Acquire l Read) new old = record { any = named_with l h.held (λ _. new) old.any; write = old.write }
  named_changed h (Acquire l Write) new old = record { any = named_with l h.held (λ _. new) old.any; write = named_with l h.write_held (λ _. new) old.write }
  named_changed h (Release l m) new old = record { any = named_without l h.held old.any; write = named_without l h.write_held old.write }
  named_changed h IgnoreOn new old = record { any = old.any; write = old.write }
  named_changed h IgnoreOff new old = record { any = old.any; write = old.write }
  named_changed h (Level n) new old = record { any = named_at_level n h.held old.any; write = named_at_level n h.write_held old.write }
  named_changed h (Sync sync) new old = old
  named_changed h (Access kind w site) new old = old
  named_changed h (Reuse range) new old = old
  named_changed h (Show w) new old = old

  named_unless : (o : Option Refusal) (h : Holdings) (e : Event) → HasNumbersNamed names e → HasHoldings h → HasHoldings (changed_unless o h e)
  named_unless None h e new old = named_changed h e new old
  named_unless (Some why) h e new old = old

  named_after : (h : Holdings) (t : ℕ) (step : Step) → IsNamed names step → HasHoldings h → HasHoldings (after_step h t step)
  named_after h t step new old =
      elim (step.thread == t) as (λ b. HasHoldings (cond b (changed_unless (refused_by h step.event) h step.event) h)) [
        | true ↦ named_unless (refused_by h step.event) h step.event new.event old
        | false ↦ old
      ]

  -- what is known of one word
  named_shared : (kind : Kind) (locks : List ℕ) → HasLockNames names locks → HasStateNames names (shared_by kind locks)
  named_shared reading locks all = all
  named_shared writing locks all = all

  named_advanced : (before : WordState) (t : ℕ) (kind : Kind) (locks : List ℕ) → t < length names.threads → HasLockNames names locks
      → HasStateNames names before → HasStateNames names (advanced before t kind locks)
  named_advanced Virgin t kind locks own all old = own
  named_advanced (Exclusive u) t kind locks own all old =
      elim (u == t) as (λ b. HasStateNames names (cond b (Exclusive u) (shared_by kind locks))) [
        | true ↦ old
        | false ↦ named_shared kind locks all
      ]
  named_advanced (Shared both) t kind locks own all old = named_shared kind (meet both locks) (named_meet both locks old)
  named_advanced (SharedModified both) t kind locks own all old = named_meet both locks old

  named_locks_for : (h : Holdings) (kind : Kind) → HasHoldings h → HasLockNames names (locks_for h kind)
  named_locks_for h reading all = all.any
  named_locks_for h writing all = all.write

  named_moved : (h : Holdings) (before : WordState) (w t : ℕ) (e : Event) → t < length names.threads → HasHoldings h
      → HasStateNames names before → HasStateNames names (moved before w (marked h t e))
  named_moved h before w t (Access kind word site) own all old =
      elim (nat_lt 0 h.depth) as (λ b. HasStateNames names (moved before w (cond b Nothing (Counted t kind word (locks_for h kind))))) [
        | true ↦ old
        | false ↦ elim (word == w) as (λ b. HasStateNames names (cond b (advanced before t kind (locks_for h kind)) before)) [
          | true ↦ named_advanced before t kind (locks_for h kind) own (named_locks_for h kind all) old
          | false ↦ old
        ]
      ]
  named_moved h before w t (Reuse range) own all old =
      elim (is_within w range) as (λ b. HasStateNames names (cond b Virgin before)) [ true ↦ tt | false ↦ old ]
  named_moved h before w t (Acquire l m) own all old = old
  named_moved h before w t (Release l m) own all old = old
  named_moved h before w t IgnoreOn own all old = old
  named_moved h before w t IgnoreOff own all old = old
  named_moved h before w t (Show word) own all old = old
  named_moved h before w t (Level n) own all old = old
  named_moved h before w t (Sync sync) own all old = old

  -- a line
  named_reply : (number line_site : ℕ) (locks : List ℕ) (reasons : List Because) (t : ℕ) (e : Event) (reply : Reply) → t < length names.threads → HasNumbersNamed names e → IsSite names line_site
      → HasLockNames names locks → All (HasReasonNames names) reasons → ((state : WordState) → reply ≡ State state → HasStateNames names state)
      → All (HasViewNames names) (reply_line number line_site locks reasons t e reply)
  named_reply number line_site locks reasons t (Access kind w site) Race own new at all because shown =
      All-cons (HasViewNames names) _ [] (record { thread = own; site = new; held = all; explained = because }) (All-nil (HasViewNames names))
  named_reply number line_site locks reasons t (Reuse range) Race own new at all because shown =
      All-cons (HasViewNames names) _ [] (record { thread = own; site = at; held = all; explained = because }) (All-nil (HasViewNames names))
  named_reply number line_site locks reasons t (Show w) (State state) own new at all because shown =
      All-cons (HasViewNames names) (ShownView number w state) [] (shown state refl) (All-nil (HasViewNames names))
  named_reply number line_site locks reasons t e reply own new at all because shown = All-nil (HasViewNames names)

  pub named_event : (e : Event) → HasNumbersNamed names e → HasEventNames names e
  named_event (Acquire l m) new = λ _. new
  named_event (Release l m) new = λ _. new
  named_event (Access kind w site) new = tt
  named_event (Reuse range) new = tt
  named_event IgnoreOn new = tt
  named_event IgnoreOff new = tt
  named_event (Show w) new = tt
  named_event (Level n) new = tt
  named_event (Sync sync) new = tt

  named_answer : (number line_site : ℕ) (locks : List ℕ) (reasons : List Because) (step : Step) (given : Result Reply Refusal) → IsNamed names step → IsSite names line_site
      → HasLockNames names locks → All (HasReasonNames names) reasons → ((state : WordState) → given ≡ Ok (State state) → HasStateNames names state)
      → All (HasViewNames names) (answer_line number line_site locks reasons step given)
  named_answer number line_site locks reasons step (Ok reply) new at all because shown =
      named_reply number line_site locks reasons step.thread step.event reply new.thread new.event at all because (λ state is. shown state (cc))
  named_answer number line_site locks reasons step (Err why) new at all because shown =
      All-cons (HasViewNames names) (RefusedView number step why) [] (new.thread, named_event step.event new.event) (All-nil (HasViewNames names))

  -- the state that a show is answered with by the lockset rule
  no_state : (b c : Bool) (state : WordState) → cond b Ignored (cond c Race Quiet) ≡ State state → ⊥
  no_state true c state is = cc
  no_state false true state is = cc
  no_state false false state is = cc

  named_replied : (h : Holdings) (states : ℕ → WordState) (t : ℕ) (e : Event) → ((w : ℕ) → HasStateNames names (states w)) → (state : WordState) → replied h states t e ≡ State state
      → HasStateNames names state
  named_replied h states t (Show w) shown state is = (let same : states w ≡ state = cc in subst (HasStateNames names) same (shown w))
  named_replied h states t (Access kind w site) shown state is =
      absurd (no_state (nat_lt 0 h.depth) (reports (states w) (advanced (states w) t kind (locks_for h kind))) state is)
  named_replied h states t e shown state is = absurd (cc)

  named_shown : (h : Holdings) (states : ℕ → WordState) (t : ℕ) (e : Event) (o : Option Refusal) → ((w : ℕ) → HasStateNames names (states w)) → (state : WordState)
      → answer_unless o (replied h states t e) ≡ Ok (State state) → HasStateNames names state
  named_shown h states t e None shown state is = named_replied h states t e shown state (cc)
  named_shown h states t e (Some why) shown state is = absurd (cc)

  -- at each point of the list
  module _ (steps : List Step) (all : All (IsNamed names) steps) where
    pub named_step : (n : ℕ) (step : Step) → slice_get steps n ≡ Some step → IsNamed names step
    named_step n step is = subst (IsNamed names) (get_or_from_slice_get steps n step step is) (all n step (slice_get_within steps n step is))

    named_holdings_by : (n t : ℕ) (o : Option Step) → slice_get steps n ≡ o → HasHoldings (holdings_at steps t n) → HasHoldings (holdings_at steps t (suc n))
    named_holdings_by n t None is old = rw (accepted-past_end steps n is) old
    named_holdings_by n t (Some step) is old = rw (holdings-step steps n step t is) (named_after (holdings_at steps t n) t step (named_step n step is) old)

    pub named_holdings : (n t : ℕ) → HasHoldings (holdings_at steps t n)
    unfolding accepted
    named_holdings zero t = rw (holdings-empty t) (record { any = All-nil (HasLockName names); write = All-nil (HasLockName names) })
    named_holdings (suc n) t = named_holdings_by n t (slice_get steps n) refl (named_holdings n t)

    named_state_by : (n w : ℕ) (o : Option Step) → slice_get steps n ≡ o → HasStateNames names (state_at steps w n) → HasStateNames names (state_at steps w (suc n))
    unfolding reading_of
    named_state_by n w None is old = rw (state-moved (reading_of steps) w n, is) old
    named_state_by n w (Some step) is old =
        rw (state-step steps n step w is)
        (named_moved (holdings_at steps step.thread n) (state_at steps w n) w step.thread step.event (named_step n step is).thread (named_holdings n step.thread) old)

    pub named_state : (n w : ℕ) → HasStateNames names (state_at steps w n)
    named_state zero w = rw (state-start (reading_of steps) w) tt
    named_state (suc n) w = named_state_by n w (slice_get steps n) refl (named_state n w)

-- the site of each access has its name
site_in : (names : NameTable) (e : Event) → HasNumbersNamed names e → HasSiteName names e
site_in names (Access kind w site) new = new
site_in names (Acquire l m) new = tt
site_in names (Release l m) new = tt
site_in names (Reuse range) new = tt
site_in names IgnoreOn new = tt
site_in names IgnoreOff new = tt
site_in names (Show w) new = tt
site_in names (Level n) new = tt
site_in names (Sync sync) new = tt

pub site_named : (names : NameTable) (steps : List Step) → All (IsNamed names) steps → (k : ℕ) (step : Step) → slice_get steps k ≡ Some step
    → HasSiteName names step.event
site_named names steps all k step is = site_in names step.event (named_step names steps all k step is).event

-- the site of each line has its name
pub line_site_named : (names : NameTable) (sites : List ℕ) → All (IsSite names) sites → (k : ℕ) → IsSite names (slice_index sites k)
line_site_named names [] all k = omega arith
line_site_named names (site ∷ sites) all zero = All-head (IsSite names) site sites all
line_site_named names (site ∷ sites) all (suc k) = line_site_named names sites (All-tail (IsSite names) site sites all) k

module _ (r : Recording) (all : All (IsNamed r.names) r.steps) where
  -- the locks that cover an access
  named_mark : (j t : ℕ) (e : Event) → HasLockNames r.names (cover_of (mark (accepted r.steps j) t e))
  unfolding cover_of mark holdings
  named_mark j t (Access reading w site) =
      elim (is_ignoring (accepted r.steps j) t) as (λ b. HasLockNames r.names (cover_of (cond b Nothing (Counted t reading w (held (accepted r.steps j) t))))) [
        | true ↦ All-nil (HasLockName r.names)
        | false ↦ (named_holdings r.names r.steps all j t).any
      ]
  named_mark j t (Access writing w site) =
      elim (is_ignoring (accepted r.steps j) t) as (λ b. HasLockNames r.names (cover_of (cond b Nothing (Counted t writing w (write_held (accepted r.steps j) t))))) [
        | true ↦ All-nil (HasLockName r.names)
        | false ↦ (named_holdings r.names r.steps all j t).write
      ]
  named_mark j t e = All-nil (HasLockName r.names)

  named_cover_by : (j : ℕ) (o : Option Step) → HasLockNames r.names (cover_of (mark_of (accepted r.steps j) o))
  unfolding cover_of
  named_cover_by j None = All-nil (HasLockName r.names)
  named_cover_by j (Some step) = named_mark j step.thread step.event

  named_cover : (j : ℕ) → HasLockNames r.names (cover_of (reading_of r.steps j))
  unfolding reading_of
  named_cover j = named_cover_by j (slice_get r.steps j)

  -- the reasons of a race
  named_access : (name : Label) (number : ℕ) (step : Step) (e : Event) → step.thread < length r.names.threads → HasLabelName r.names name
      → All (HasReasonNames r.names) (access_reason name number step.thread e)
  named_access name number step (Access kind w site) own lock =
      All-cons (HasReasonNames r.names) (record { label = name; line = number; thread = step.thread; kind = kind }) [] (own, lock) (All-nil (HasReasonNames r.names))
  named_access name number step e own lock = All-nil (HasReasonNames r.names)

  named_reason_by : (name : Label) (i : ℕ) (o : Option Step) → slice_get r.steps i ≡ o → HasLabelName r.names name
      → All (HasReasonNames r.names) (step_reason name (slice_index r.lines i) o)
  named_reason_by name i None is lock = All-nil (HasReasonNames r.names)
  named_reason_by name i (Some step) is lock = named_access name (slice_index r.lines i) step step.event (named_step r.names r.steps all i step is).thread lock

  named_reason : (name : Label) (i : ℕ) → HasLabelName r.names name → All (HasReasonNames r.names) (reason_at r name i)
  named_reason name i lock = named_reason_by name i (slice_get r.steps i) refl lock

  named_pairs : (at : ℕ → ℕ) (ls : List ℕ) → HasLockNames r.names ls
      → All (HasReasonNames r.names) (flat_map (λ pair. reason_at r (label.Uncovered pair.0) pair.1) (map {B = ℕ × ℕ} (λ l. (l, at l)) ls))
  named_pairs at [] locks = All-nil (HasReasonNames r.names)
  named_pairs at (l ∷ ls) locks =
      All-append (HasReasonNames r.names) (reason_at r (label.Uncovered l) (at l)) _
      (named_reason (label.Uncovered l) (at l) (All-head (HasLockName r.names) l ls locks))
      (named_pairs at ls (All-tail (HasLockName r.names) l ls locks))

  named_explained : (w n j : ℕ) → All (HasReasonNames r.names) (reasons_of r (explanation_by (reading_of r.steps) w n j))
  unfolding reasons_of explanation_by
  named_explained w n j =
      let s : Reading = reading_of r.steps in
      All-append (HasReasonNames r.names) _ _
      (All-append (HasReasonNames r.names) _ _
      (All-append (HasReasonNames r.names) _ _ (named_reason label.First (found (first s w n)) tt) (named_reason label.Joined j tt))
      (named_reason label.Write (found (first_write s w n j)) tt))
      (named_pairs (λ l. found (first_uncovered s w n j l)) (cover_of (s j)) (named_cover j))

  named_where : (k : ℕ) (a : Result Reply Refusal) → All (HasReasonNames r.names) (reasons_by r (explanation_where r.steps k a))
  unfolding explanation_of
  named_where k (Ok Race) =
      let w : ℕ = found (word_of (slice_get r.steps k)) in
      named_explained w (suc k) (found (join (reading_of r.steps) w (suc k)))
  named_where k a = All-nil (HasReasonNames r.names)

  pub named_reasons : (explain : Bool) (k : ℕ) → All (HasReasonNames r.names) (reasons_if explain r k)
  unfolding explanation_at
  named_reasons true k = named_where k (answer r.steps k)
  named_reasons false k = All-nil (HasReasonNames r.names)

  -- the state of an answer
  named_states_by : (k : ℕ) (o : Option Step) → slice_get r.steps k ≡ o → (state : WordState) → answer r.steps k ≡ Ok (State state) → HasStateNames r.names state
  unfolding answer
  named_states_by k None none state given = (let done : Ok Done ≡ Ok (State state) = rw none at given in absurd (cc))
  named_states_by k (Some step) here state given =
      let h : Holdings = holdings_at r.steps step.thread k in
      named_shown r.names h (λ w. state_at r.steps w k) step.thread step.event (refused_by h step.event) (named_state r.names r.steps all k) state
      (sym (answer-step r.steps k step here) ∙ given)

  pub named_states : HaveStateNames r.names (answer r.steps)
  named_states k state given = named_states_by k (slice_get r.steps k) refl state given

  -- each line that the definitions give has its names, if states and reasons have
  module _ (sites : All (IsSite r.names) r.sites) (a : Answering) (reasons : ℕ → List Because) (states : HaveStateNames r.names a) (because : (k : ℕ) → All (HasReasonNames r.names) (reasons k)) where
    named_line_by : (k : ℕ) (o : Option Step) → slice_get r.steps k ≡ o → All (HasViewNames r.names) (line_of a reasons r k o)
    unfolding holdings
    named_line_by k None is = All-nil (HasViewNames r.names)
    named_line_by k (Some step) is =
        named_answer r.names (slice_index r.lines k) (slice_index r.sites k) (held (accepted r.steps k) step.thread) (reasons k) step (a k)
        (named_step r.names r.steps all k step is) (line_site_named r.names r.sites sites k) (named_holdings r.names r.steps all k step.thread).any (because k) (states k)

    pub named_lines : (rules : List Target) (n : ℕ) → All (HasViewNames r.names) (lines_by a reasons r rules n)
    unfolding lines_by line_at
    named_lines rules zero = All-nil (HasViewNames r.names)
    named_lines rules (suc n) =
        All-append (HasViewNames r.names) (lines_by a reasons r rules n) (cond (is_some (matching_rule_by a r rules n)) [] (line_at a reasons r n)) (named_lines rules n)
        (elim (is_some (matching_rule_by a r rules n)) as (λ b. All (HasViewNames r.names) (cond b [] (line_at a reasons r n))) [
          | true ↦ All-nil (HasViewNames r.names)
          | false ↦ named_line_by n (slice_get r.steps n) refl
        ])

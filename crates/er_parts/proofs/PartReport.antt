-- The report of a part, by the positions of the whole list.
use Rattle.std.proofs.Common.{◌≡◌, ℕ, zero, suc, ◌+◌, ◌==◌, Bool, true, false, cond, not, ◌&&◌, List, [], ◌∷◌, ◌++◌, append-nil, count_by, filter, is_none, is_some, length, map, slice_get, slice_index, Option, Some, None, Result, Ok, Err, refl, sym, ap, ◌∙◌, arith, add-zero}
use Rattle.std.specs.List.{range_with_len}
use Rattle.std.proofs.lemmas.Bool.{and_right}
use Rattle.std.proofs.lemmas.List.Elements.{filter-append}
use Rattle.std.proofs.lemmas.List.Sums.{sum_by-cons}
use Rattle.er_event.specs.declared.refusals.Refusal.{Refusal}
use Rattle.er_event.specs.declared.steps.Event.{Event}
use Rattle.er_event.specs.declared.steps.Event.TheVariants.{Acquire, Release, Access, Reuse, IgnoreOn, IgnoreOff, Show, Level, Sync}
use Rattle.er_event.specs.declared.steps.Reply.{Reply}
use Rattle.er_event.specs.declared.steps.Reply.TheVariants.{Done, Quiet, Race, Ignored, State}
use Rattle.er_event.specs.declared.steps.Step.{Step}
use Rattle.er_explain.specs.Racing.{is_race}
use Rattle.er_model.specs.Answers.{answer, answer_unless, reply}
use Rattle.er_model.specs.Holdings.{holdings}
use Rattle.er_model.specs.Threads.{accepted, held, refusal}
use Rattle.er_report.specs.Lines.{LineView}
use Rattle.er_report.specs.Report.{Summary, answer_line, answer_matching_rule, count_below, event_matching_rule, is_printed, is_refused, is_rule, line_at, line_of, lines_by, matching_rule_at, matching_rule_by, matching_rule_of, reasons_if, reply_line, report_of, rule_count}
use Rattle.er_report.specs.declared.report.Because.{Because}
use Rattle.er_rules.specs.Rules.{Target}
use Rattle.er_trace.specs.Trace.{Recording}
use Rattle.er_parts.specs.Given.{is_refusal, part_report}
use Rattle.er_parts.specs.Parts.{PartView, has_page, is_of_page, kept, kept_beside, page_in, takes, takes_page}
use Rattle.er_parts.proofs.LocalLemmas.{cond-same}
use Rattle.er_parts.proofs.Places.{beside-at, kept-at, place, place-end, place-left, place-past, place-start, place-taken, same-answer, same-holdings}

-- the step is of use to the part
unfoldable pub taken : PartView → Option Step → Bool
taken part None = false
taken part (Some s) = takes part s

-- the part reports what has this page, or none
unfoldable pub owns : PartView → Option ℕ → Bool
owns part None = part.index == 1
owns part (Some page) = has_page part page

unfoldable pub belongs : PartView → Option Step → Bool
belongs part None = false
belongs part (Some s) = owns part (page_in s.event)

-- what the positions below n give, joined
unfoldable pub pieces : (ℕ → List LineView) → ℕ → List LineView
pieces f zero = []
pieces f (suc n) = pieces f n ++ f n

pub pieces-same : (f g : ℕ → List LineView) (n : ℕ) → ((k : ℕ) → f k ≡ g k) → pieces f n ≡ pieces g n
unfolding pieces
pieces-same f g zero same = refl
pieces-same f g (suc n) same = ap (λ xs. xs ++ f n) (pieces-same f g n same) ∙ ap (λ ys. pieces g n ++ ys) (same n)

filter-pieces : (test : LineView → Bool) (f : ℕ → List LineView) (n : ℕ) → filter test (pieces f n) ≡ pieces (λ k. filter test (f k)) n
unfolding pieces
filter-pieces test f zero = refl
filter-pieces test f (suc n) = filter-append test (pieces f n) (f n) ∙ ap (λ xs. xs ++ filter test (f n)) (filter-pieces test f n)

pub count-same : (f g : ℕ → Bool) (n : ℕ) → ((k : ℕ) → f k ≡ g k) → count_below f n ≡ count_below g n
unfolding count_below
count-same f g zero same = refl
count-same f g (suc n) same = ap (λ m. m + cond (f n) 1 0) (count-same f g n same) ∙ ap (λ b. count_below g n + cond b 1 0) (same n)

count-none : (f : ℕ → Bool) (n : ℕ) → ((k : ℕ) → f k ≡ false) → count_below f n ≡ 0
unfolding count_below
count-none f zero none = refl
count-none f (suc n) none = ap (λ b. count_below f n + cond b 1 0) (none n) ∙ add-zero (count_below f n) ∙ count-none f n none

pub count-all : (n : ℕ) → count_below (λ k. true) n ≡ n
unfolding count_below
count-all zero = refl
count-all (suc n) = ap (λ m. m + 1) (count-all n) ∙ omega arith

count-front : (f : ℕ → Bool) (n : ℕ) → count_below f (suc n) ≡ cond (f 0) 1 0 + count_below (λ k. f (suc k)) n
unfolding count_below
count-front f zero = omega arith
count-front f (suc n) = ap (λ m. m + cond (f (suc n)) 1 0) (count-front f n) ∙ omega arith

-- an option's value passes the test
passes : (Step → Bool) → Option Step → Bool
passes test None = false
passes test (Some s) = test s

count-list : (test : Step → Bool) (steps : List Step) → count_by test steps ≡ count_below (λ k. passes test (slice_get steps k)) (length steps)
unfolding count_below passes
count-list test [] = refl
count-list test (s ∷ steps) =
    sum_by-cons (λ s. cond (test s) 1 0) s steps
    ∙ ap (λ m. cond (test s) 1 0 + m) (count-list test steps)
    ∙ sym (count-front (λ k. passes test (slice_get (s ∷ steps) k)) (length steps))

-- the part's positions that pass are the whole list's positions that are of use and pass
module _ (part : PartView) (steps : List Step) (f g : ℕ → Bool)
    (same : (k : ℕ) (s : Step) → slice_get steps k ≡ Some s → takes part s ≡ true → f (place part steps k) ≡ g k) where
  count-by : (n : ℕ) (s : Step) (b : Bool) → slice_get steps n ≡ Some s → takes part s ≡ b
      → count_below f (place part steps n) ≡ count_below (λ k. taken part (slice_get steps k) && g k) n
      → count_below f (place part steps (suc n)) ≡ count_below (λ k. taken part (slice_get steps k) && g k) n + cond (b && g n) 1 0
  unfolding count_below
  count-by n s true is useful before =
      ap (count_below f) (place-taken part steps n s is useful)
      ∙ ap (λ m. m + cond (f (place part steps n)) 1 0) before
      ∙ ap (λ b. count_below (λ k. taken part (slice_get steps k) && g k) n + cond b 1 0) (same n s is useful)
  count-by n s false is useful before =
      ap (count_below f) (place-left part steps n s is useful) ∙ before ∙ sym (add-zero (count_below (λ k. taken part (slice_get steps k) && g k) n))

  count-at : (n : ℕ) (o : Option Step) → slice_get steps n ≡ o
      → count_below f (place part steps n) ≡ count_below (λ k. taken part (slice_get steps k) && g k) n
      → count_below f (place part steps (suc n)) ≡ count_below (λ k. taken part (slice_get steps k) && g k) n + cond (taken part o && g n) 1 0
  unfolding taken
  count-at n None is before =
      ap (count_below f) (place-past part steps n is) ∙ before ∙ sym (add-zero (count_below (λ k. taken part (slice_get steps k) && g k) n))
  count-at n (Some s) is before = count-by n s (takes part s) is refl before

  count-part : (n : ℕ) → count_below f (place part steps n) ≡ count_below (λ k. taken part (slice_get steps k) && g k) n
  unfolding count_below
  count-part zero = ap (count_below f) (place-start part steps)
  count-part (suc n) = count-at n (slice_get steps n) refl (count-part n)

  pub count-kept : count_below f (length (filter (takes part) steps)) ≡ count_below (λ k. taken part (slice_get steps k) && g k) (length steps)
  count-kept = ap (count_below f) (sym (place-end part steps)) ∙ count-part (length steps)

-- the first part reports what is of use to it
first-by : (part : PartView) (o : Option ℕ) → (part.index == 1) ≡ true → takes_page part o ≡ owns part o
unfolding owns
first-by part None first = sym first
first-by part (Some page) first = refl

first-owns : (part : PartView) (o : Option Step) → (part.index == 1) ≡ true → taken part o ≡ belongs part o
unfolding taken belongs takes
first-owns part None first = refl
first-owns part (Some s) first = first-by part (page_in s.event) first

-- another part what is of one of its pages
other-by : (part : PartView) (o : Option ℕ) → (part.index == 1) ≡ false → (takes_page part o && is_some o) ≡ owns part o
unfolding owns
other-by part None other = sym other
other-by part (Some page) other = by (has_page part page)
  where
    by : (b : Bool) → (b && true) ≡ b
    by true = refl
    by false = refl

other-owns : (part : PartView) (o : Option Step) → (part.index == 1) ≡ false → (taken part o && passes is_of_page o) ≡ belongs part o
unfolding taken belongs takes passes is_of_page
other-owns part None other = refl
other-owns part (Some s) other = other-by part (page_in s.event) other

-- what no step of no page passes is the same of both
agree-by : (part : PartView) (o : Option ℕ) (g : Bool) → (o ≡ None → g ≡ false) → (takes_page part o && g) ≡ (owns part o && g)
unfolding owns
agree-by part None g never = never refl ∙ sym (and_right (part.index == 1) g (never refl))
agree-by part (Some page) g never = refl

agree : (part : PartView) (o : Option Step) (g : Bool) → ((s : Step) → o ≡ Some s → page_in s.event ≡ None → g ≡ false)
    → (taken part o && g) ≡ (belongs part o && g)
unfolding taken belongs takes
agree part None g never = refl
agree part (Some s) g never = agree-by part (page_in s.event) g (never s refl)

-- a step of no page is no race, and no rule takes it
done-by : (o : Option Refusal) → is_race (answer_unless o Done) ≡ false
done-by None = refl
done-by (Some why) = refl

no-race-by : (steps : List Step) (k t : ℕ) (e : Event) (o : Option Refusal) → page_in e ≡ None → is_race (answer_unless o (reply steps k t e)) ≡ false
unfolding reply
no-race-by steps k t (Acquire l m) o none = done-by o
no-race-by steps k t (Release l m) o none = done-by o
no-race-by steps k t (Access kind w site) o none = cc
no-race-by steps k t (Reuse range) o none = cc
no-race-by steps k t IgnoreOn o none = done-by o
no-race-by steps k t IgnoreOff o none = done-by o
no-race-by steps k t (Show w) o none = cc
no-race-by steps k t (Level n) o none = done-by o
no-race-by steps k t (Sync sync) o none = done-by o

no-race : (steps : List Step) (k : ℕ) (s : Step) → slice_get steps k ≡ Some s → page_in s.event ≡ None → is_race (answer steps k) ≡ false
unfolding answer
no-race steps k s is none = rw is (no-race-by steps k s.thread s.event (refusal (accepted steps k) s.thread s.event) none)

no-rule : (r : Recording) (rules : List Target) (k : ℕ) (s : Step) → slice_get r.steps k ≡ Some s → page_in s.event ≡ None
    → matching_rule_at r rules k ≡ None
unfolding matching_rule_by
no-rule r rules k s is none =
    ap (matching_rule_of (answer r.steps) r rules k) is
    ∙ ap (λ b. cond b (event_matching_rule rules r.names (slice_index r.sites k) s.event) None) (no-race r.steps k s is none)

-- a step of a page is not refused
paged-by : (steps : List Step) (k t : ℕ) (e : Event) (past : List Step) (page : ℕ) → page_in e ≡ Some page
    → answer_unless (refusal past t e) (reply steps k t e) ≡ Ok (reply steps k t e)
unfolding refusal
paged-by steps k t (Acquire l m) past page is = cc
paged-by steps k t (Release l m) past page is = cc
paged-by steps k t (Access kind w site) past page is = refl
paged-by steps k t (Reuse range) past page is = refl
paged-by steps k t IgnoreOn past page is = cc
paged-by steps k t IgnoreOff past page is = cc
paged-by steps k t (Show w) past page is = refl
paged-by steps k t (Level n) past page is = cc
paged-by steps k t (Sync sync) past page is = cc

pub paged-answer : (steps : List Step) (k : ℕ) (s : Step) (page : ℕ) → slice_get steps k ≡ Some s → page_in s.event ≡ Some page
    → answer steps k ≡ Ok (reply steps k s.thread s.event)
unfolding answer
paged-answer steps k s page is on = rw is (paged-by steps k s.thread s.event (accepted steps k) page on)

-- the lines of a step of no page tell of a refusal, those of another step never
unpaged-reply : (number ls t : ℕ) (locks : List ℕ) (reasons : List Because) (e : Event) (reply : Reply) → page_in e ≡ None
    → reply_line number ls locks reasons t e reply ≡ []
unpaged-reply number ls t locks reasons (Acquire l m) reply none = refl
unpaged-reply number ls t locks reasons (Release l m) reply none = refl
unpaged-reply number ls t locks reasons (Access kind w site) reply none = cc
unpaged-reply number ls t locks reasons (Reuse range) reply none = cc
unpaged-reply number ls t locks reasons IgnoreOn reply none = refl
unpaged-reply number ls t locks reasons IgnoreOff reply none = refl
unpaged-reply number ls t locks reasons (Show w) reply none = cc
unpaged-reply number ls t locks reasons (Level n) reply none = refl
unpaged-reply number ls t locks reasons (Sync sync) reply none = refl

abbrev pub tells_no_refusal : LineView → Bool
tells_no_refusal line = not (is_refusal line)

unpaged-line : (number ls : ℕ) (locks : List ℕ) (reasons : List Because) (s : Step) (a : Result Reply Refusal) → page_in s.event ≡ None
    → filter tells_no_refusal (answer_line number ls locks reasons s a) ≡ []
unpaged-line number ls locks reasons s (Ok reply) none =
    ap (filter tells_no_refusal) (unpaged-reply number ls s.thread locks reasons s.event reply none)
unpaged-line number ls locks reasons s (Err why) none = refl

paged-line : (number ls t : ℕ) (locks : List ℕ) (reasons : List Because) (e : Event) (reply : Reply)
    → filter tells_no_refusal (reply_line number ls locks reasons t e reply) ≡ reply_line number ls locks reasons t e reply
paged-line number ls t locks reasons (Access kind w site) Race = refl
paged-line number ls t locks reasons (Access kind w site) Done = refl
paged-line number ls t locks reasons (Access kind w site) Quiet = refl
paged-line number ls t locks reasons (Access kind w site) Ignored = refl
paged-line number ls t locks reasons (Access kind w site) (State state) = refl
paged-line number ls t locks reasons (Reuse range) Race = refl
paged-line number ls t locks reasons (Reuse range) Done = refl
paged-line number ls t locks reasons (Reuse range) Quiet = refl
paged-line number ls t locks reasons (Reuse range) Ignored = refl
paged-line number ls t locks reasons (Reuse range) (State state) = refl
paged-line number ls t locks reasons (Show w) Race = refl
paged-line number ls t locks reasons (Show w) Done = refl
paged-line number ls t locks reasons (Show w) Quiet = refl
paged-line number ls t locks reasons (Show w) Ignored = refl
paged-line number ls t locks reasons (Show w) (State state) = refl
paged-line number ls t locks reasons (Acquire l m) reply = refl
paged-line number ls t locks reasons (Release l m) reply = refl
paged-line number ls t locks reasons IgnoreOn reply = refl
paged-line number ls t locks reasons IgnoreOff reply = refl
paged-line number ls t locks reasons (Level n) reply = refl
paged-line number ls t locks reasons (Sync sync) reply = refl

-- the lines of the step at position k, but for a race that a rule takes
abbrev pub item : Recording → List Target → Bool → ℕ → List LineView
item r rules explain k = cond (is_some (matching_rule_at r rules k)) [] (line_at (answer r.steps) (reasons_if explain r) r k)

filter-cond : (test : LineView → Bool) (b : Bool) (xs ys : List LineView) → filter test xs ≡ ys → filter test (cond b [] xs) ≡ cond b [] ys
filter-cond test true xs ys e = refl
filter-cond test false xs ys e = e

module _ (r : Recording) (rules : List Target) (explain : Bool) (k : ℕ) (s : Step) (is : slice_get r.steps k ≡ Some s) where
  pub line-is : line_at (answer r.steps) (reasons_if explain r) r k
      ≡ answer_line (slice_index r.lines k) (slice_index r.sites k) (held (accepted r.steps k) s.thread) (reasons_if explain r k) s (answer r.steps k)
  unfolding line_at
  line-is = ap (line_of (answer r.steps) (reasons_if explain r) r k) is

  unpaged-item : page_in s.event ≡ None → filter tells_no_refusal (item r rules explain k) ≡ []
  unpaged-item none =
      filter-cond tells_no_refusal (is_some (matching_rule_at r rules k)) (line_at (answer r.steps) (reasons_if explain r) r k) []
      (ap (filter tells_no_refusal) line-is
      ∙ unpaged-line (slice_index r.lines k) (slice_index r.sites k) (held (accepted r.steps k) s.thread) (reasons_if explain r k) s (answer r.steps k) none)
      ∙ cond-same (is_some (matching_rule_at r rules k)) []

  pub paged-line-is : (page : ℕ) → page_in s.event ≡ Some page → line_at (answer r.steps) (reasons_if explain r) r k
      ≡ reply_line (slice_index r.lines k) (slice_index r.sites k) (held (accepted r.steps k) s.thread) (reasons_if explain r k) s.thread s.event
      (reply r.steps k s.thread s.event)
  paged-line-is page on =
      line-is
      ∙ ap (answer_line (slice_index r.lines k) (slice_index r.sites k) (held (accepted r.steps k) s.thread) (reasons_if explain r k) s)
      (paged-answer r.steps k s page is on)

  paged-item : (page : ℕ) → page_in s.event ≡ Some page → filter tells_no_refusal (item r rules explain k) ≡ item r rules explain k
  paged-item page on =
      filter-cond tells_no_refusal (is_some (matching_rule_at r rules k)) (line_at (answer r.steps) (reasons_if explain r) r k)
      (line_at (answer r.steps) (reasons_if explain r) r k)
      (ap (filter tells_no_refusal) (paged-line-is page on)
      ∙ paged-line (slice_index r.lines k) (slice_index r.sites k) s.thread (held (accepted r.steps k) s.thread) (reasons_if explain r k) s.event
      (reply r.steps k s.thread s.event)
      ∙ sym (paged-line-is page on))

filter-none : (test : LineView → Bool) (b : Bool) (xs : List LineView) → filter test xs ≡ [] → filter test (cond b xs []) ≡ []
filter-none test true xs e = e
filter-none test false xs e = refl

filter-all : (test : LineView → Bool) (b : Bool) (xs : List LineView) → filter test xs ≡ xs → filter test (cond b xs []) ≡ cond b xs []
filter-all test true xs e = e
filter-all test false xs e = refl

-- what another part than the first gives of the lines of a step
module _ (part : PartView) (r : Recording) (rules : List Target) (explain : Bool) (k : ℕ) (other : (part.index == 1) ≡ false) where
  other-item-by : (s : Step) (o : Option ℕ) → slice_get r.steps k ≡ Some s → page_in s.event ≡ o
      → filter tells_no_refusal (cond (takes_page part o) (item r rules explain k) []) ≡ cond (owns part o) (item r rules explain k) []
  unfolding owns
  other-item-by s None is on =
      unpaged-item r rules explain k s is on ∙ ap (λ b. cond b (item r rules explain k) []) (sym other)
  other-item-by s (Some page) is on =
      filter-all tells_no_refusal (has_page part page) (item r rules explain k) (paged-item r rules explain k s is page on)

  other-item-at : (o : Option Step) → slice_get r.steps k ≡ o
      → filter tells_no_refusal (cond (taken part o) (item r rules explain k) []) ≡ cond (belongs part o) (item r rules explain k) []
  unfolding taken belongs takes
  other-item-at None is = refl
  other-item-at (Some s) is = other-item-by s (page_in s.event) is refl

  refused-by : (s : Step) (o : Option ℕ) → slice_get r.steps k ≡ Some s → page_in s.event ≡ o → (owns part o && is_refused (answer r.steps k)) ≡ false
  unfolding owns
  refused-by s None is on = ap (λ b. b && is_refused (answer r.steps k)) other
  refused-by s (Some page) is on =
      and_right (has_page part page) (is_refused (answer r.steps k)) (ap is_refused (paged-answer r.steps k s page is on))

  other-refused : (o : Option Step) → slice_get r.steps k ≡ o → (belongs part o && is_refused (answer r.steps k)) ≡ false
  unfolding belongs
  other-refused None is = refl
  other-refused (Some s) is = refused-by s (page_in s.event) is refl

module _ (part : PartView) (r : Recording) (rules : List Target) (explain : Bool) where
  -- the reasons are the same
  unfoldable pub SameReasons : Type 0
  SameReasons = (k : ℕ) (s : Step) → slice_get r.steps k ≡ Some s → takes part s ≡ true
      → reasons_if explain (kept (Some part) r) (place part r.steps k) ≡ reasons_if explain r k

  module _ (k : ℕ) (s : Step) (is : slice_get r.steps k ≡ Some s) (useful : takes part s ≡ true) where
    rule-same : matching_rule_at (kept (Some part) r) rules (place part r.steps k) ≡ matching_rule_at r rules k
    unfolding matching_rule_by
    rule-same =
        ap (matching_rule_of (answer (filter (takes part) r.steps)) (kept (Some part) r) rules (place part r.steps k)) (kept-at part r.steps k s is useful)
        ∙ ap (λ site. answer_matching_rule rules r.names site s.event (answer (filter (takes part) r.steps) (place part r.steps k)))
        (beside-at part r.steps r.sites k s is useful)
        ∙ ap (answer_matching_rule rules r.names (slice_index r.sites k) s.event) (same-answer part r.steps k s is useful)
        ∙ sym (ap (matching_rule_of (answer r.steps) r rules k) is)

    held-same : held (accepted (filter (takes part) r.steps) (place part r.steps k)) s.thread ≡ held (accepted r.steps k) s.thread
    unfolding holdings
    held-same = ap (λ h. h.held) (same-holdings part r.steps s.thread k)

    line-same : SameReasons
        → line_at (answer (filter (takes part) r.steps)) (reasons_if explain (kept (Some part) r)) (kept (Some part) r) (place part r.steps k)
        ≡ line_at (answer r.steps) (reasons_if explain r) r k
    unfolding SameReasons
    line-same why =
        line-is (kept (Some part) r) rules explain (place part r.steps k) s (kept-at part r.steps k s is useful)
        ∙ ap (λ number. answer_line number (slice_index (kept_beside part r.steps r.sites) (place part r.steps k))
        (held (accepted (filter (takes part) r.steps) (place part r.steps k)) s.thread) (reasons_if explain (kept (Some part) r) (place part r.steps k)) s
        (answer (filter (takes part) r.steps) (place part r.steps k))) (beside-at part r.steps r.lines k s is useful)
        ∙ ap (λ site. answer_line (slice_index r.lines k) site
        (held (accepted (filter (takes part) r.steps) (place part r.steps k)) s.thread) (reasons_if explain (kept (Some part) r) (place part r.steps k)) s
        (answer (filter (takes part) r.steps) (place part r.steps k))) (beside-at part r.steps r.sites k s is useful)
        ∙ ap (λ locks. answer_line (slice_index r.lines k) (slice_index r.sites k) locks (reasons_if explain (kept (Some part) r) (place part r.steps k)) s
        (answer (filter (takes part) r.steps) (place part r.steps k))) held-same
        ∙ ap (λ reasons. answer_line (slice_index r.lines k) (slice_index r.sites k) (held (accepted r.steps k) s.thread) reasons s
        (answer (filter (takes part) r.steps) (place part r.steps k))) (why k s is useful)
        ∙ ap (answer_line (slice_index r.lines k) (slice_index r.sites k) (held (accepted r.steps k) s.thread) (reasons_if explain r k) s)
        (same-answer part r.steps k s is useful)
        ∙ sym (line-is r rules explain k s is)

    item-same : SameReasons → item (kept (Some part) r) rules explain (place part r.steps k) ≡ item r rules explain k
    item-same why =
        ap (λ rule. cond (is_some rule) [] (line_at (answer (filter (takes part) r.steps)) (reasons_if explain (kept (Some part) r)) (kept (Some part) r)
        (place part r.steps k))) rule-same
        ∙ ap (λ lines. cond (is_some (matching_rule_at r rules k)) [] lines) (line-same why)

  mine : ℕ → List LineView
  mine n = lines_by (answer (filter (takes part) r.steps)) (reasons_if explain (kept (Some part) r)) (kept (Some part) r) rules n

  useful : ℕ → List LineView
  useful k = cond (taken part (slice_get r.steps k)) (item r rules explain k) []

  lines-from : SameReasons → (n : ℕ) (s : Step) (b : Bool) → slice_get r.steps n ≡ Some s → takes part s ≡ b
      → mine (place part r.steps n) ≡ pieces useful n → mine (place part r.steps (suc n)) ≡ pieces useful n ++ cond b (item r rules explain n) []
  unfolding mine lines_by
  lines-from why n s true is of_use before =
      ap mine (place-taken part r.steps n s is of_use)
      ∙ ap (λ lines. lines ++ item (kept (Some part) r) rules explain (place part r.steps n)) before
      ∙ ap (λ lines. pieces useful n ++ lines) (item-same n s is of_use why)
  lines-from why n s false is of_use before =
      ap mine (place-left part r.steps n s is of_use) ∙ before ∙ sym (append-nil (pieces useful n))

  lines-at : SameReasons → (n : ℕ) (o : Option Step) → slice_get r.steps n ≡ o
      → mine (place part r.steps n) ≡ pieces useful n → mine (place part r.steps (suc n)) ≡ pieces useful n ++ cond (taken part o) (item r rules explain n) []
  unfolding taken
  lines-at why n None is before = ap mine (place-past part r.steps n is) ∙ before ∙ sym (append-nil (pieces useful n))
  lines-at why n (Some s) is before = lines-from why n s (takes part s) is refl before

  lines-part : SameReasons → (n : ℕ) → mine (place part r.steps n) ≡ pieces useful n
  unfolding mine lines_by pieces useful
  lines-part why zero = ap mine (place-start part r.steps)
  lines-part why (suc n) = lines-at why n (slice_get r.steps n) refl (lines-part why n)

  -- the lines that the part gives
  unfoldable pub owned : ℕ → List LineView
  owned k = cond (belongs part (slice_get r.steps k)) (item r rules explain k) []

  given-lines : (b : Bool) → (part.index == 1) ≡ b
      → cond b (pieces useful (length r.steps)) (filter tells_no_refusal (pieces useful (length r.steps))) ≡ pieces owned (length r.steps)
  unfolding useful owned
  given-lines true first =
      pieces-same useful owned (length r.steps)
      (λ k. ap (λ b. cond b (item r rules explain k) []) (first-owns part (slice_get r.steps k) first))
  given-lines false other =
      filter-pieces tells_no_refusal useful (length r.steps)
      ∙ pieces-same (λ k. filter tells_no_refusal (useful k)) owned (length r.steps)
      (λ k. other-item-at part r rules explain k other (slice_get r.steps k) refl)

  mine-end : SameReasons → mine (length (filter (takes part) r.steps)) ≡ pieces useful (length r.steps)
  mine-end why = ap mine (sym (place-end part r.steps)) ∙ lines-part why (length r.steps)

-- a part's report, by whether it is the first one
abbrev given_so : Bool → List Step → Summary → Summary
given_so b steps report = cond b report (record report { lines = filter (λ line. not (is_refusal line)) report.lines; steps = count_by is_of_page steps; refused = 0 })

so-lines : (b : Bool) (steps : List Step) (report : Summary) → (given_so b steps report).lines ≡ cond b report.lines (filter (λ line. not (is_refusal line)) report.lines)
so-lines true steps report = refl
so-lines false steps report = refl

so-races : (b : Bool) (steps : List Step) (report : Summary) → (given_so b steps report).races ≡ report.races
so-races true steps report = refl
so-races false steps report = refl

so-suppressed : (b : Bool) (steps : List Step) (report : Summary) → (given_so b steps report).suppressed ≡ report.suppressed
so-suppressed true steps report = refl
so-suppressed false steps report = refl

so-rule_counts : (b : Bool) (steps : List Step) (report : Summary) → (given_so b steps report).rule_counts ≡ report.rule_counts
so-rule_counts true steps report = refl
so-rule_counts false steps report = refl

so-stop : (b : Bool) (steps : List Step) (report : Summary) → (given_so b steps report).stop ≡ report.stop
so-stop true steps report = refl
so-stop false steps report = refl

so-lost : (b : Bool) (steps : List Step) (report : Summary) → (given_so b steps report).lost ≡ report.lost
so-lost true steps report = refl
so-lost false steps report = refl

so-steps : (b : Bool) (steps : List Step) (report : Summary) → (given_so b steps report).steps ≡ cond b report.steps (count_by is_of_page steps)
so-steps true steps report = refl
so-steps false steps report = refl

so-refused : (b : Bool) (steps : List Step) (report : Summary) → (given_so b steps report).refused ≡ cond b report.refused 0
so-refused true steps report = refl
so-refused false steps report = refl

and-true : (b : Bool) → (b && true) ≡ b
and-true true = refl
and-true false = refl

module _ (part : PartView) (r : Recording) (rules : List Target) (explain : Bool) where
  abbrev its_report : Summary
  its_report = report_of (kept (Some part) r) rules explain None

  abbrev its_steps : List Step
  its_steps = filter (takes part) r.steps

  pub part-lines : SameReasons part r rules explain → (part_report (Some part) r rules explain).lines ≡ pieces (owned part r rules explain) (length r.steps)
  unfolding mine
  part-lines why =
      so-lines (part.index == 1) its_steps its_report
      ∙ ap (λ lines. cond (part.index == 1) lines (filter (λ line. not (is_refusal line)) lines)) (mine-end part r rules explain why)
      ∙ given-lines part r rules explain (part.index == 1) refl

  -- a count of positions of which no step of no page is one
  paged-count : (f g : ℕ → Bool)
      → ((k : ℕ) (s : Step) → slice_get r.steps k ≡ Some s → takes part s ≡ true → f (place part r.steps k) ≡ g k)
      → ((k : ℕ) (s : Step) → slice_get r.steps k ≡ Some s → page_in s.event ≡ None → g k ≡ false)
      → count_below f (length (filter (takes part) r.steps)) ≡ count_below (λ k. belongs part (slice_get r.steps k) && g k) (length r.steps)
  paged-count f g same never =
      count-kept part r.steps f g same
      ∙ count-same (λ k. taken part (slice_get r.steps k) && g k) (λ k. belongs part (slice_get r.steps k) && g k) (length r.steps)
      (λ k. agree part (slice_get r.steps k) (g k) (λ s is none. never k s is none))

  pub part-races : (part_report (Some part) r rules explain).races
      ≡ count_below (λ k. belongs part (slice_get r.steps k) && is_printed r rules k) (length r.steps)
  part-races =
      so-races (part.index == 1) its_steps its_report
      ∙ paged-count (is_printed (kept (Some part) r) rules) (is_printed r rules)
      (λ k s is useful.
      ap (λ a. is_race a && is_none (matching_rule_at (kept (Some part) r) rules (place part r.steps k))) (same-answer part r.steps k s is useful)
      ∙ ap (λ rule. is_race (answer r.steps k) && is_none rule) (rule-same part r rules explain k s is useful))
      (λ k s is none. ap (λ b. b && is_none (matching_rule_at r rules k)) (no-race r.steps k s is none))

  pub part-suppressed : (part_report (Some part) r rules explain).suppressed
      ≡ count_below (λ k. belongs part (slice_get r.steps k) && is_some (matching_rule_at r rules k)) (length r.steps)
  part-suppressed =
      so-suppressed (part.index == 1) its_steps its_report
      ∙ paged-count (λ k. is_some (matching_rule_at (kept (Some part) r) rules k)) (λ k. is_some (matching_rule_at r rules k))
      (λ k s is useful. ap (λ rule. is_some rule) (rule-same part r rules explain k s is useful))
      (λ k s is none. ap (λ rule. is_some rule) (no-rule r rules k s is none))

  pub part-rule : (i : ℕ) → rule_count (answer its_steps) (kept (Some part) r) rules (length its_steps) i
      ≡ count_below (λ k. belongs part (slice_get r.steps k) && is_rule i (matching_rule_at r rules k)) (length r.steps)
  part-rule i =
      paged-count (λ k. is_rule i (matching_rule_at (kept (Some part) r) rules k)) (λ k. is_rule i (matching_rule_at r rules k))
      (λ k s is useful. ap (is_rule i) (rule-same part r rules explain k s is useful))
      (λ k s is none. ap (is_rule i) (no-rule r rules k s is none))

  pub part-rule_counts : (part_report (Some part) r rules explain).rule_counts
      ≡ map (rule_count (answer its_steps) (kept (Some part) r) rules (length its_steps)) (range_with_len 0 (length rules))
  part-rule_counts = so-rule_counts (part.index == 1) its_steps its_report

  pub part-stop : (part_report (Some part) r rules explain).stop ≡ None
  part-stop = so-stop (part.index == 1) its_steps its_report

  pub part-lost : (part_report (Some part) r rules explain).lost ≡ None
  part-lost = so-lost (part.index == 1) its_steps its_report

  refused-so : (b : Bool) → (part.index == 1) ≡ b → cond b (count_below (λ k. is_refused (answer its_steps k)) (length its_steps)) 0
      ≡ count_below (λ k. belongs part (slice_get r.steps k) && is_refused (answer r.steps k)) (length r.steps)
  refused-so true first =
      count-kept part r.steps (λ k. is_refused (answer its_steps k)) (λ k. is_refused (answer r.steps k))
      (λ k s is useful. ap is_refused (same-answer part r.steps k s is useful))
      ∙ count-same (λ k. taken part (slice_get r.steps k) && is_refused (answer r.steps k))
      (λ k. belongs part (slice_get r.steps k) && is_refused (answer r.steps k)) (length r.steps)
      (λ k. ap (λ b. b && is_refused (answer r.steps k)) (first-owns part (slice_get r.steps k) first))
  refused-so false other =
      sym (count-none (λ k. belongs part (slice_get r.steps k) && is_refused (answer r.steps k)) (length r.steps)
      (λ k. other-refused part r rules explain k other (slice_get r.steps k) refl))

  pub part-refused : (part_report (Some part) r rules explain).refused
      ≡ count_below (λ k. belongs part (slice_get r.steps k) && is_refused (answer r.steps k)) (length r.steps)
  part-refused = so-refused (part.index == 1) its_steps its_report ∙ refused-so (part.index == 1) refl

  passes-same : (k : ℕ) (s : Step) → slice_get r.steps k ≡ Some s → takes part s ≡ true
      → passes is_of_page (slice_get its_steps (place part r.steps k)) ≡ passes is_of_page (slice_get r.steps k)
  passes-same k s is useful = ap (passes is_of_page) (kept-at part r.steps k s is useful ∙ sym is)

  steps-so : (b : Bool) → (part.index == 1) ≡ b → cond b (length its_steps) (count_by is_of_page its_steps)
      ≡ count_below (λ k. belongs part (slice_get r.steps k) && true) (length r.steps)
  steps-so true first =
      sym (count-all (length its_steps))
      ∙ count-kept part r.steps (λ k. true) (λ k. true) (λ k s is useful. refl)
      ∙ count-same (λ k. taken part (slice_get r.steps k) && true) (λ k. belongs part (slice_get r.steps k) && true) (length r.steps)
      (λ k. ap (λ b. b && true) (first-owns part (slice_get r.steps k) first))
  steps-so false other =
      count-list is_of_page its_steps
      ∙ count-kept part r.steps (λ k. passes is_of_page (slice_get its_steps k)) (λ k. passes is_of_page (slice_get r.steps k)) passes-same
      ∙ count-same (λ k. taken part (slice_get r.steps k) && passes is_of_page (slice_get r.steps k)) (λ k. belongs part (slice_get r.steps k) && true)
      (length r.steps) (λ k. other-owns part (slice_get r.steps k) other ∙ sym (and-true (belongs part (slice_get r.steps k))))

  pub part-steps : (part_report (Some part) r rules explain).steps ≡ count_below (λ k. belongs part (slice_get r.steps k) && true) (length r.steps)
  part-steps = so-steps (part.index == 1) its_steps its_report ∙ steps-so (part.index == 1) refl

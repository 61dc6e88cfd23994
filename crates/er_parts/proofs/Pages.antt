-- A first part that has the page of each line of the whole report gives these lines, these races and these refusals.
use Rattle.std.proofs.Common.{◌≡◌, ℕ, zero, suc, ◌+◌, ◌/◌, ◌<◌, ◌==◌, All, Bool, true, false, cond, ◌&&◌, List, [], ◌∷◌, ◌++◌, is_none, is_some, length, slice_get, slice_index, Option, Some, None, Result, Ok, refl, sym, ap, ◌∙◌, subst, arith}
use Rattle.std.proofs.lemmas.Bool.{and_right, eq-eqb, eqb-true}
use Rattle.std.proofs.lemmas.List.Elements.{All-cons, All-head, All-nil, All-tail}
use Rattle.er_event.specs.declared.refusals.Refusal.{Refusal}
use Rattle.er_event.specs.declared.steps.Event.{Event}
use Rattle.er_event.specs.declared.steps.Event.TheVariants.{Acquire, Release, Access, Reuse, IgnoreOn, IgnoreOff, Show, Level, Sync}
use Rattle.er_event.specs.declared.refusals.NoRoom.{NoRoom}
use Rattle.er_event.specs.declared.steps.Kind.{Kind}
use Rattle.er_event.specs.declared.steps.Reply.{Reply}
use Rattle.er_event.specs.declared.steps.Reply.TheVariants.{Done, Quiet, Race, Ignored, State}
use Rattle.er_event.specs.declared.steps.Step.{Step}
use Rattle.er_explain.specs.Racing.{is_race}
use Rattle.er_model.specs.Answers.{answer, reply}
use Rattle.er_model.specs.Threads.{accepted, held}
use Rattle.er_report.specs.Lines.{LineView}
use Rattle.er_report.specs.Report.{Summary, count_below, is_printed, is_refused, line_at, matching_rule_at, reasons_if, reply_line, report_of}
use Rattle.er_report.specs.declared.report.Because.{Because}
use Rattle.er_rules.specs.Rules.{Target}
use Rattle.er_trace.specs.Trace.{Recording}
use Rattle.er_parts.specs.Given.{HasPages, counted_as, line_page, part_report}
use Rattle.er_parts.specs.Parts.{PartView, has_page, page_in, takes_page}
use Rattle.er_parts.proofs.PartReport.{belongs, item, owned, owns, paged-answer, paged-line-is, part-lines, part-lost, part-races, part-refused, part-stop, pieces}
use Rattle.er_parts.proofs.Reasons.{same-reasons}
use Rattle.er_parts.proofs.Whole.{item-pieces, within}

-- of what all of two lists joined are, each list is
all-front : (P : LineView → Type 0) (xs ys : List LineView) → All P (xs ++ ys) → All P xs
all-front P [] ys all = All-nil P
all-front P (x ∷ xs) ys all = All-cons P x xs (All-head P x (xs ++ ys) all) (all-front P xs ys (All-tail P x (xs ++ ys) all))

all-back : (P : LineView → Type 0) (xs ys : List LineView) → All P (xs ++ ys) → All P ys
all-back P [] ys all = all
all-back P (x ∷ xs) ys all = all-back P xs ys (All-tail P x (xs ++ ys) all)

below-next : (k n : ℕ) → k < suc n → (k == n) ≡ false → k < n
below-next k n below other = grind (arith, below, other)

all-piece : (P : LineView → Type 0) (f : ℕ → List LineView) (n k : ℕ) → All P (pieces f n) → k < n → All P (f k)
unfolding pieces
all-piece P f zero k all below = absurd (omega (arith, below))
all-piece P f (suc n) k all below = by (k == n) refl (λ below. all-piece P f n k (all-front P (pieces f n) (f n) all) below)
  where
    by : (b : Bool) → (k == n) ≡ b → (k < n → All P (f k)) → All P (f k)
    by true is earlier = subst (λ m. All P (f m)) (sym (eqb-true k n is)) (all-back P (pieces f n) (f n) all)
    by false is earlier = earlier (below-next k n below is)

-- the same at each place below n
pieces-below : (f g : ℕ → List LineView) (n : ℕ) → ((k : ℕ) → k < n → f k ≡ g k) → pieces f n ≡ pieces g n
unfolding pieces
pieces-below f g zero same = refl
pieces-below f g (suc n) same =
    ap (λ xs. xs ++ f n) (pieces-below f g n (λ k below. same k (omega (arith, below)))) ∙ ap (λ ys. pieces g n ++ ys) (same n (omega arith))

count-below : (f g : ℕ → Bool) (n : ℕ) → ((k : ℕ) → k < n → f k ≡ g k) → count_below f n ≡ count_below g n
unfolding count_below
count-below f g zero same = refl
count-below f g (suc n) same =
    ap (λ m. m + cond (f n) 1 0) (count-below f g n (λ k below. same k (omega (arith, below)))) ∙ ap (λ b. count_below g n + cond b 1 0) (same n (omega arith))

-- the part has the page of the line
Has : PartView → LineView → Type 0
Has part line = takes_page part (line_page line) ≡ true

not-both : (b : Bool) → b ≡ true → b ≡ false → ⊥
not-both b is left = cc

-- so a step of another page has no line
no-reply : (part : PartView) (number ls t : ℕ) (locks : List ℕ) (told reasons : List Because) (e : Event) (answer : Reply) → takes_page part (page_in e) ≡ false
    → All (Has part) (reply_line number ls locks told t e answer) → reply_line number ls locks reasons t e answer ≡ []
unfolding Has
no-reply part number ls t locks told reasons (Access kind w site) Race left all = absurd (not-both (has_page part (w / 1024)) (All-head (Has part) _ [] all) left)
no-reply part number ls t locks told reasons (Access kind w site) Done left all = refl
no-reply part number ls t locks told reasons (Access kind w site) Quiet left all = refl
no-reply part number ls t locks told reasons (Access kind w site) Ignored left all = refl
no-reply part number ls t locks told reasons (Access kind w site) (State state) left all = refl
no-reply part number ls t locks told reasons (Reuse range) Race left all = absurd (not-both (has_page part (range.lo / 1024)) (All-head (Has part) _ [] all) left)
no-reply part number ls t locks told reasons (Reuse range) Done left all = refl
no-reply part number ls t locks told reasons (Reuse range) Quiet left all = refl
no-reply part number ls t locks told reasons (Reuse range) Ignored left all = refl
no-reply part number ls t locks told reasons (Reuse range) (State state) left all = refl
no-reply part number ls t locks told reasons (Show w) (State state) left all = absurd (not-both (has_page part (w / 1024)) (All-head (Has part) _ [] all) left)
no-reply part number ls t locks told reasons (Show w) Race left all = refl
no-reply part number ls t locks told reasons (Show w) Done left all = refl
no-reply part number ls t locks told reasons (Show w) Quiet left all = refl
no-reply part number ls t locks told reasons (Show w) Ignored left all = refl
no-reply part number ls t locks told reasons (Acquire l m) answer left all = refl
no-reply part number ls t locks told reasons (Release l m) answer left all = refl
no-reply part number ls t locks told reasons IgnoreOn answer left all = refl
no-reply part number ls t locks told reasons IgnoreOff answer left all = refl
no-reply part number ls t locks told reasons (Level n) answer left all = refl
no-reply part number ls t locks told reasons (Sync sync) answer left all = refl

-- and a race has one
raced-access : (number ls t w site : ℕ) (locks : List ℕ) (reasons : List Because) (kind : Kind) (a : Reply)
    → reply_line number ls locks reasons t (Access kind w site) a ≡ [] → is_race (Ok a) ≡ false
raced-access number ls t w site locks reasons kind Race none = cc
raced-access number ls t w site locks reasons kind Done none = refl
raced-access number ls t w site locks reasons kind Quiet none = refl
raced-access number ls t w site locks reasons kind Ignored none = refl
raced-access number ls t w site locks reasons kind (State state) none = refl

no-race-line : (steps : List Step) (k number ls t : ℕ) (locks : List ℕ) (reasons : List Because) (e : Event)
    → reply_line number ls locks reasons t e (reply steps k t e) ≡ [] → is_race (Ok (reply steps k t e)) ≡ false
unfolding reply
no-race-line steps k number ls t locks reasons (Access kind w site) none = raced-access number ls t w site locks reasons kind (reply steps k t (Access kind w site)) none
no-race-line steps k number ls t locks reasons (Reuse range) none = refl
no-race-line steps k number ls t locks reasons (Show w) none = refl
no-race-line steps k number ls t locks reasons (Acquire l m) none = refl
no-race-line steps k number ls t locks reasons (Release l m) none = refl
no-race-line steps k number ls t locks reasons IgnoreOn none = refl
no-race-line steps k number ls t locks reasons IgnoreOff none = refl
no-race-line steps k number ls t locks reasons (Level n) none = refl
no-race-line steps k number ls t locks reasons (Sync sync) none = refl

-- a line that a rule may take
none-by : (P : LineView → Type 0) (o : Option ℕ) (told lines : List LineView) → All P (cond (is_some o) [] told) → (All P told → lines ≡ []) → cond (is_some o) [] lines ≡ []
none-by P None told lines all none = none all
none-by P (Some rule) told lines all none = refl

unprinted-by : (a : Result Reply Refusal) (o : Option ℕ) (lines : List LineView) → cond (is_some o) [] lines ≡ [] → (lines ≡ [] → is_race a ≡ false) → (is_race a && is_none o) ≡ false
unprinted-by a None lines none unraced = ap (λ b. b && true) (unraced none)
unprinted-by a (Some rule) lines none unraced = and_right (is_race a) false refl

module _ (part : PartView) (r : Recording) (rules : List Target) (explain told : Bool) (first : part.index ≡ 1) (has : HasPages part (report_of r rules told None).lines) where
  has-item : (k : ℕ) → k < length r.steps → All (Has part) (item r rules told k)
  unfolding Has
  has-item k below =
      all-piece (Has part) (item r rules told) (length r.steps) k (subst (All (Has part)) (item-pieces r rules told (length r.steps)) has) below

  module _ (k : ℕ) (s : Step) (below : k < length r.steps) (is : slice_get r.steps k ≡ Some s) where
    no-item : (page : ℕ) → page_in s.event ≡ Some page → has_page part page ≡ false → item r rules explain k ≡ []
    no-item page on left =
        none-by (Has part) (matching_rule_at r rules k) (line_at (answer r.steps) (reasons_if told r) r k) (line_at (answer r.steps) (reasons_if explain r) r k)
        (has-item k below)
        (λ all. paged-line-is r rules explain k s is page on
        ∙ no-reply part (slice_index r.lines k) (slice_index r.sites k) s.thread (held (accepted r.steps k) s.thread) (reasons_if told r k) (reasons_if explain r k)
        s.event (reply r.steps k s.thread s.event) (ap (takes_page part) on ∙ left) (subst (All (Has part)) (paged-line-is r rules told k s is page on) all))

    unprinted : (page : ℕ) → page_in s.event ≡ Some page → has_page part page ≡ false → is_printed r rules k ≡ false
    unprinted page on left =
        unprinted-by (answer r.steps k) (matching_rule_at r rules k) (line_at (answer r.steps) (reasons_if explain r) r k) (no-item page on left)
        (λ none. ap is_race (paged-answer r.steps k s page is on)
        ∙ no-race-line r.steps k (slice_index r.lines k) (slice_index r.sites k) s.thread (held (accepted r.steps k) s.thread) (reasons_if explain r k) s.event
        (sym (paged-line-is r rules explain k s is page on) ∙ none))

    unrefused : (page : ℕ) → page_in s.event ≡ Some page → is_refused (answer r.steps k) ≡ false
    unrefused page on = ap is_refused (paged-answer r.steps k s page is on)

    -- what a step of no page has, the part has
    by-page : (A : Type 0) (here there : A) (o : Option ℕ) → page_in s.event ≡ o
        → ((page : ℕ) → page_in s.event ≡ Some page → has_page part page ≡ false → there ≡ here) → cond (owns part o) here there ≡ here
    unfolding owns
    by-page A here there None on same = ap (λ b. cond b here there) (eq-eqb part.index 1 first)
    by-page A here there (Some page) on same = by (has_page part page) refl
      where
        by : (b : Bool) → has_page part page ≡ b → cond b here there ≡ here
        by true mine = refl
        by false left = same page on left

  by-step : (A : Type 0) (here there : A) (k : ℕ) (o : Option Step) → k < length r.steps → slice_get r.steps k ≡ o
      → ((s : Step) (page : ℕ) → slice_get r.steps k ≡ Some s → page_in s.event ≡ Some page → has_page part page ≡ false → there ≡ here) → cond (belongs part o) here there ≡ here
  unfolding belongs
  by-step A here there k None below is same = absurd (within r.steps k below is)
  by-step A here there k (Some s) below is same = by-page k s below is A here there (page_in s.event) refl (λ page on left. same s page is on left)

  and-cond : (b c : Bool) → (b && c) ≡ cond b c false
  and-cond true c = refl
  and-cond false c = refl

  same-lines : (part_report (Some part) r rules explain).lines ≡ (report_of r rules explain None).lines
  unfolding owned
  same-lines =
      part-lines part r rules explain (same-reasons part r rules explain)
      ∙ pieces-below (owned part r rules explain) (item r rules explain) (length r.steps)
      (λ k below. by-step (List LineView) (item r rules explain k) [] k (slice_get r.steps k) below refl
      (λ s page is on left. sym (no-item k s below is page on left)))
      ∙ sym (item-pieces r rules explain (length r.steps))

  counted : (test : ℕ → Bool) → ((k : ℕ) (s : Step) (page : ℕ) → k < length r.steps → slice_get r.steps k ≡ Some s → page_in s.event ≡ Some page → has_page part page ≡ false → test k ≡ false)
      → count_below (λ k. belongs part (slice_get r.steps k) && test k) (length r.steps) ≡ count_below test (length r.steps)
  counted test none =
      count-below (λ k. belongs part (slice_get r.steps k) && test k) test (length r.steps)
      (λ k below. and-cond (belongs part (slice_get r.steps k)) (test k)
      ∙ by-step Bool (test k) false k (slice_get r.steps k) below refl (λ s page is on left. sym (none k s page below is on left)))

  abbrev with_told : List LineView → Option (ℕ × NoRoom) → ℕ → ℕ → Option ℕ → Summary
  with_told lines stop races refused lost =
      record {
        lines = lines;
        stop = stop;
        rule_counts = (report_of r rules explain None).rule_counts;
        steps = (report_of r rules explain None).steps;
        races = races;
        suppressed = (report_of r rules explain None).suppressed;
        refused = refused;
        lost = lost;
      }

  abbrev its : Summary
  its = part_report (Some part) r rules explain

  abbrev whole : Summary
  whole = report_of r rules explain None

  pub pages-make : counted_as (report_of r rules told None) its ≡ whole
  pages-make =
      ap (λ lines. with_told lines its.stop its.races its.refused its.lost) same-lines
      ∙ ap (λ stop. with_told whole.lines stop its.races its.refused its.lost) (part-stop part r rules explain)
      ∙ ap (λ races. with_told whole.lines None races its.refused its.lost)
      (part-races part r rules explain ∙ counted (is_printed r rules) (λ k s page below is on left. unprinted k s below is page on left))
      ∙ ap (λ refused. with_told whole.lines None whole.races refused its.lost)
      (part-refused part r rules explain ∙ counted (λ k. is_refused (answer r.steps k)) (λ k s page below is on left. unrefused k s below is page on))
      ∙ ap (λ lost. with_told whole.lines None whole.races whole.refused lost) (part-lost part r rules explain)

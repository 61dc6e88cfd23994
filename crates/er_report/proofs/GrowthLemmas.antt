-- The report of the first steps doesn't change if more steps and names come behind them.
use Rattle.std.proofs.Common.{◌≡◌, ◌<◌, ◌≤◌, ℕ, zero, suc, Bool, cond, List, [], ◌∷◌, ◌++◌, IfSome, length, slice_get, slice_index, Option, Some, None, is_some, refl, sym, ap, ◌∙◌, arith}
use Rattle.std.specs.List.{range_with_len}
use Rattle.std.proofs.lemmas.List.{get_or_append_left}
use Rattle.std.proofs.lemmas.Option.{slice_get-get_or}
use Rattle.er_event.proofs.Lists.{get_front}
use Rattle.er_event.specs.declared.steps.Event.{Event}
use Rattle.er_event.specs.declared.steps.Event.TheVariants.{Acquire, Release, Access, Reuse, IgnoreOn, IgnoreOff, Show, Level, Sync}
use Rattle.er_event.specs.declared.steps.Step.{Step}
use Rattle.er_explain.specs.Racing.{is_race, places_below}
use Rattle.er_model.specs.Answers.{answer}
use Rattle.er_model.specs.Threads.{accepted, held}
use Rattle.er_model.proofs.Prefixes.{accepted-front, answer-front}
use Rattle.er_explain.proofs.NamingLemmas.{named-agree}
use Rattle.er_model.specs.Answers.{mark_of, reading_of}
use Rattle.er_model.specs.Explanations.{word_of}
use Rattle.er_model.specs.Holdings.{holdings}
use Rattle.er_report.specs.Builder.{Built, IsBuilt, IsBuiltBy, IsReported, GoesOn, report_below_by}
use Rattle.er_report.specs.Kept.{Kept, Follows, access_at, line_access, line_book, told_below, word_reasons}
use Rattle.er_report.specs.Report.{Answering, answer_matching_rule, answer_line, event_matching_rule, site_name, matching_rule_of, matching_rule_by, line_of, line_at, lines_by, no_reasons, count_below, rule_count, is_printed_by, is_refused, is_rule}
use Rattle.er_report.proofs.BuilderLemmas.{same_summary}
use Rattle.er_report.proofs.CountLemmas.{same_counts}
use Rattle.er_report.proofs.NamedLemmas.{site_named, line_site_named}
use Rattle.er_report.specs.Names.{HasSiteName}
use Rattle.er_rules.specs.Rules.{Target, matching_rule, matching_reuse_rule}
use Rattle.er_trace.specs.Trace.{Recording}

-- counts and places below n, by tests that agree there
count-agree : (f g : ℕ → Bool) (n : ℕ) → ((k : ℕ) → k < n → f k ≡ g k) → count_below f n ≡ count_below g n
unfolding count_below
count-agree f g zero same = refl
count-agree f g (suc n) same = rw (same n (omega arith), count-agree f g n (λ k below. same k (omega arith))) refl

places-agree : (f g : ℕ → Bool) (n : ℕ) → ((k : ℕ) → k < n → f k ≡ g k) → places_below f n ≡ places_below g n
unfolding places_below
places-agree f g zero same = refl
places-agree f g (suc n) same = rw (same n (omega arith), places-agree f g n (λ k below. same k (omega arith))) refl

module _ (before after : Recording) (rules : List Target) (on : GoesOn before after) where
  -- a site that has a name keeps it
  site-by : (n : ℕ) (o : Option (List ℕ)) → slice_get before.names.sites n ≡ o → n < length before.names.sites → slice_get before.names.sites n ≡ slice_get after.names.sites n
  site-by n None is within = absurd (let found = sym is ∙ slice_get-get_or before.names.sites n [] within in cc)
  site-by n (Some name) is within = is ∙ sym (on.sites n name is)

  site-same : (site : ℕ) → site ≤ length before.names.sites → site_name before.names site ≡ site_name after.names site
  site-same zero within = refl
  site-same (suc n) within = site-by n (slice_get before.names.sites n) refl (omega arith)

  event-same : (line_site : ℕ) (event : Event) → line_site ≤ length before.names.sites → HasSiteName before.names event
      → event_matching_rule rules before.names line_site event ≡ event_matching_rule rules after.names line_site event
  event-same line_site (Access kind word site) at named = ap (λ (name : Option (List ℕ)). matching_rule rules name word) (site-same site named)
  event-same line_site (Acquire l m) at named = refl
  event-same line_site (Release l m) at named = refl
  event-same line_site (Reuse range) at named = ap (λ (name : Option (List ℕ)). matching_reuse_rule rules name range.lo range.hi) (site-same line_site at)
  event-same line_site IgnoreOn at named = refl
  event-same line_site IgnoreOff at named = refl
  event-same line_site (Show w) at named = refl
  event-same line_site (Level n) at named = refl
  event-same line_site (Sync sync) at named = refl

  step-there : (k : ℕ) → k < length before.steps → slice_get after.steps k ≡ slice_get before.steps k
  step-there k below = ap (λ (steps : List Step). slice_get steps k) on.steps ∙ get_front before.steps on.more k below

  accepted-there : (k : ℕ) → k ≤ length before.steps → accepted after.steps k ≡ accepted before.steps k
  accepted-there k below = ap (λ (steps : List Step). accepted steps k) on.steps ∙ accepted-front before.steps on.more k below

  number-there : (k : ℕ) → k < length before.steps → slice_index after.lines k ≡ slice_index before.lines k
  number-there k below = ap (λ (lines : List ℕ). slice_index lines k) on.lines ∙ get_or_append_left before.lines on.others 0 k (let long : length before.lines ≡ length before.steps = on.long in omega arith)

  line_site-there : (k : ℕ) → k < length before.steps → slice_index after.sites k ≡ slice_index before.sites k
  line_site-there k below =
      ap (λ (sites : List ℕ). slice_index sites k) on.places ∙ get_or_append_left before.sites on.other_sites 0 k (let long : length before.sites ≡ length before.steps = on.one_each in omega arith)

-- answers that agree below n give the same report
module _ (before after : Recording) (rules : List Target) (on : GoesOn before after) (a b : Answering) (n : ℕ) (within : n ≤ length before.steps)
    (same : (k : ℕ) → k < n → a k ≡ b k) where
  matching_rule-by : (k : ℕ) (o : Option Step) → slice_get before.steps k ≡ o → k < n → matching_rule_of a before rules k o ≡ matching_rule_of b after rules k o
  matching_rule-by k None is below = refl
  matching_rule-by k (Some step) is below =
      ap (λ (o : Option ℕ). cond (is_race (a k)) o None)
      (event-same before after rules on (slice_index before.sites k) step.event (line_site_named before.names before.sites on.known k) (site_named before.names before.steps on.named k step is))
      ∙ ap (λ (s : ℕ). answer_matching_rule rules after.names s step.event (a k)) (sym (line_site-there before after rules on k (omega arith)))
      ∙ ap (answer_matching_rule rules after.names (slice_index after.sites k) step.event) (same k below)

  matching_rule-same : (k : ℕ) → k < n → matching_rule_by a before rules k ≡ matching_rule_by b after rules k
  unfolding matching_rule_by
  matching_rule-same k below =
      matching_rule-by k (slice_get before.steps k) refl below ∙ ap (matching_rule_of b after rules k) (sym (step-there before after rules on k (omega arith)))

  line-by : (k : ℕ) (o : Option Step) → k < n → line_of a no_reasons before k o ≡ line_of b no_reasons after k o
  line-by k None below = refl
  line-by k (Some step) below =
      ap (λ (n : ℕ). answer_line n (slice_index before.sites k) (held (accepted before.steps k) step.thread) [] step (a k)) (sym (number-there before after rules on k (omega arith)))
      ∙ ap (λ (s : ℕ). answer_line (slice_index after.lines k) s (held (accepted before.steps k) step.thread) [] step (a k)) (sym (line_site-there before after rules on k (omega arith)))
      ∙ ap (λ (past : List Step). answer_line (slice_index after.lines k) (slice_index after.sites k) (held past step.thread) [] step (a k)) (sym (accepted-there before after rules on k (omega arith)))
      ∙ ap (answer_line (slice_index after.lines k) (slice_index after.sites k) (held (accepted after.steps k) step.thread) [] step) (same k below)

  line-same : (k : ℕ) → k < n → line_at a no_reasons before k ≡ line_at b no_reasons after k
  unfolding line_at
  line-same k below = line-by k (slice_get before.steps k) below ∙ ap (line_of b no_reasons after k) (sym (step-there before after rules on k (omega arith)))

  lines-same : (m : ℕ) → m ≤ n → lines_by a no_reasons before rules m ≡ lines_by b no_reasons after rules m
  unfolding lines_by
  lines-same zero low = refl
  lines-same (suc m) low = rw (lines-same m (omega arith), matching_rule-same m (omega arith), line-same m (omega arith)) refl

  printed-same : (k : ℕ) → k < n → is_printed_by a before rules k ≡ is_printed_by b after rules k
  printed-same k below = rw (matching_rule-same k below, same k below) refl

  report-same : report_below_by a before rules n ≡ report_below_by b after rules n
  unfolding report_below_by
  report-same =
      same_summary _ _ _ _ _ _ _ _ _ _ _ _ _ _
      (lines-same n (omega arith))
      refl
      (same_counts (rule_count a before rules n) (rule_count b after rules n)
      (λ i. count-agree _ _ n (λ k below. ap (is_rule i) (matching_rule-same k below))) (range_with_len 0 (length rules)))
      refl
      (count-agree _ _ n (λ k below. printed-same k below))
      (count-agree _ _ n (λ k below. ap (λ (o : Option ℕ). is_some o) (matching_rule-same k below)))
      (count-agree _ _ n (λ k below. ap is_refused (same k below)))

pub goes-on-by : (a b : Answering) (builder : Built) (before after : Recording) (n : ℕ) → GoesOn before after → n ≤ length before.steps → ((k : ℕ) → k < n → a k ≡ b k)
    → IsBuiltBy a builder before n → IsBuiltBy b builder after n
goes-on-by a b builder before after n on within same built =
    record {
      report = built.report ∙ report-same before after builder.rules on a b n within same;
      races = built.races ∙ places-agree _ _ n (λ k below. printed-same before after builder.rules on a b n within same k below);
    }

-- and those of the lockset rule do
answer-there : (before after : Recording) → GoesOn before after → (k : ℕ) → k < length before.steps → answer before.steps k ≡ answer after.steps k
answer-there before after on k below = sym (ap (λ (steps : List Step). answer steps k) on.steps ∙ answer-front before.steps on.more k below)

pub goes-on : (builder : Built) (before after : Recording) (n : ℕ) → GoesOn before after → n ≤ length before.steps → IsBuilt builder before n → IsBuilt builder after n
unfolding IsBuilt
goes-on builder before after n on within built =
    goes-on-by (answer before.steps) (answer after.steps) builder before after n on within (λ k below. answer-there before after on k (omega arith)) built

-- what is kept for reasons
module _ (before after : Recording) (rules : List Target) (on : GoesOn before after) where
  access-same : (k : ℕ) → k < length before.steps → access_at before k ≡ access_at after k
  unfolding access_at
  access-same k below = λ i. line_access (sym (number-there before after rules on k below) i) (sym (step-there before after rules on k below) i)

  reading-same : (k : ℕ) → k < length before.steps → reading_of before.steps k ≡ reading_of after.steps k
  unfolding reading_of
  reading-same k below = λ i. mark_of (sym (accepted-there before after rules on k (omega arith)) i) (sym (step-there before after rules on k below) i)

  book-same : (n w : ℕ) → n ≤ length before.steps → line_book before n w ≡ line_book after n w
  book-same n w within =
      named-agree (access_at before) (access_at after) (reading_of before.steps) (reading_of after.steps) w n
      (λ k below. access-same k (omega arith)) (λ k below. reading-same k (omega arith))

  told-same : (n : ℕ) → n ≤ length before.steps → told_below before rules n ≡ told_below after rules n
  unfolding told_below
  told-same zero within = refl
  told-same (suc n) within =
      let so_far = told-same n (omega arith) in
      let printed = printed-same before after rules on (answer before.steps) (answer after.steps) (suc n) within (λ k below. answer-there before after on k (omega arith)) n (omega arith) in
      let step = step-there before after rules on n (omega arith) in
      λ i. so_far i ++ cond (printed i) (word_reasons (λ w. book-same (suc n) w within i) (word_of (sym step i)) ∷ []) []

  follows-on : (kept : Kept) (n : ℕ) → n ≤ length before.steps → Follows kept before rules n → Follows kept after rules n
  unfolding holdings
  follows-on kept n within follows =
      record {
        books = λ w. follows.books w ∙ book-same n w within;
        told = follows.told ∙ told-same n within;
      }

explained-by : (o : Option Kept) (before after : Recording) (rules : List Target) (n : ℕ) → GoesOn before after → n ≤ length before.steps
    → IfSome o (λ kept. Follows kept before rules n) → IfSome o (λ kept. Follows kept after rules n)
explained-by None before after rules n on within explained = tt
explained-by (Some kept) before after rules n on within explained = follows-on before after rules on kept n within explained

pub reported-on : (builder : Built) (before after : Recording) (n : ℕ) → GoesOn before after → n ≤ length before.steps → IsReported builder before n → IsReported builder after n
reported-on builder before after n on within reported =
    record {
      built = goes-on builder before after n on within reported.built;
      explained = explained-by builder.kept before after builder.rules n on within reported.explained;
    }

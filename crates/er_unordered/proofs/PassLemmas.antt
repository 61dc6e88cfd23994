-- A replay that forgets its steps is one over all of them: a batch goes on behind what was answered, and the names may have grown.
use Rattle.std.proofs.Common.{◌≡◌, ◌+◌, ◌∙◌, ℕ, suc, add-one, nat_lt, Bool, true, false, cond, is_none, List, [], ◌∷◌, ◌++◌, append-nil, length, length-append, take, slice_get, slice_index, Option, Some, Result, Ok, Err, refl, sym, ap, ap₂, subst, arith}
use Rattle.std.specs.List.{All}
use Rattle.std.specs.Option.{option_map}
use Rattle.std.proofs.lemmas.Bool.{and_parts}
use Rattle.std.proofs.lemmas.Bool.Decides.{nat_tests}
use Rattle.std.proofs.Math.Seq.{take-append_seam, take-length}
use Rattle.std.proofs.lemmas.List.Elements.{All-append}
use Rattle.er_report.specs.Report.{Answering, Summary, count_below, is_printed_by, matching_rule_by, may_race_at}
use Rattle.er_report.specs.declared.report.Because.{Because}
use Rattle.er_rules.specs.Rules.{Target}
use Rattle.er_event.specs.declared.refusals.Refusal.{Refusal}
use Rattle.er_event.specs.declared.steps.Reply.{Reply}
use Rattle.er_event.specs.declared.steps.Reply.TheVariants.{Done, Quiet, Race, Ignored, State}
use Rattle.er_event.specs.declared.steps.Step.{Step}
use Rattle.er_report.proofs.GrowthLemmas.{goes-on-by}
use Rattle.er_explain.proofs.RaceLemmas.{race-is}
use Rattle.er_explain.specs.Racing.{is_race, places_below}
use Rattle.er_model.specs.Holdings.{holdings_end}
use Rattle.er_order.specs.ByBytes.{Touched, answer_by_bytes, unordered_by_bytes}
use Rattle.er_report.specs.Builder.{ArePlainBy, Built, IsBuiltBy, IsStepBy, GoesOn, is_plain, report_below_by}
use Rattle.er_reading.proofs.NamedLemmas.{all-known, all-named}
use Rattle.er_text.specs.Batches.{joined}
use Rattle.er_text.specs.Named.{KeepsNames}
use Rattle.er_trace.specs.Names.{NameTable}
use Rattle.er_trace.specs.Trace.{Recording, IsNamed, HasSiteName}
use Rattle.er_batch.proofs.StepLemmas.{past-next}
use Rattle.er_unordered.proofs.AnswerLemmas.{bytes-here, locks-here, long, with-here}
use Rattle.er_unordered.proofs.BytesLemmas.{answer-stays, races-told}
use Rattle.er_unordered.proofs.ReasonLemmas.{tag-there, told-next, told-stays}
use Rattle.er_unordered.proofs.StandingLemmas.{stands-tags}
use Rattle.er_unordered.specs.Answered.{HasAnswered, HasComeTo, recorded}
use Rattle.er_unordered.specs.Tags.{tag_at, told_at}
use Rattle.er_unordered.specs.Standing.{Ordered, Stands}

-- a batch of steps behind those that are past
module _ {A : Type 0} (touched : Touched) (tag_of : ℕ → Option Step → A) (told_of : Option A → List (List Because)) (past : List Step) (lines sites : List ℕ) (names : NameTable) (trace : Recording) (kept : KeepsNames names trace.names)
    (known : All (IsNamed trace.names) trace.steps) (even : length trace.lines ≡ length trace.steps)
    (seen : All (HasSiteName trace.names) trace.sites) (level : length trace.sites ≡ length trace.steps)
    (old : Ordered A) (oldest : Built) (before : List (List Because)) (run : HasAnswered touched tag_of told_of old oldest before (recorded past lines sites names)) where
  abbrev after : Recording
  after = joined past lines sites trace

  on : GoesOn (recorded past lines sites names) after
  on = record {
    named = run.named;
    long = run.long;
    one_each = run.one_each;
    known = run.seen;
    more = trace.steps;
    others = trace.lines;
    other_sites = trace.sites;
    steps = refl;
    lines = refl;
    places = refl;
    sites = kept.sites;
  }

  -- what is past was answered, and its answers stay
  pub start : HasComeTo touched tag_of told_of old oldest before after (length past)
  start =
      record {
        stands = subst (Stands (tag_at tag_of after) touched old) (sym (take-append_seam past trace.steps))
            (stands-tags (tag_at tag_of (recorded past lines sites names)) (tag_at tag_of after) touched old past (λ k below. tag-there touched (recorded past lines sites names) after on tag_of told_of k below)
            (subst (Stands (tag_at tag_of (recorded past lines sites names)) touched old) (take-length past) run.come.stands));
        built = goes-on-by (answer_by_bytes touched past) (answer_by_bytes touched (past ++ trace.steps)) oldest (recorded past lines sites names) after (length past) on (omega arith)
            (λ k below. sym (answer-stays touched past trace.steps k below)) run.come.built;
        reasons = run.come.reasons ∙ told-stays touched (recorded past lines sites names) after on tag_of told_of oldest.races _ run.come.built.races;
      }

  -- and at the end of the batch all is answered
  pub whole : (machine : Ordered A) (builder : Built) (told : List (List Because)) → HasComeTo touched tag_of told_of machine builder told after (length past + length trace.steps) → HasAnswered touched tag_of told_of machine builder told after
  whole machine builder told come =
      record {
        come = subst (λ (n : ℕ). HasComeTo touched tag_of told_of machine builder told after n) (sym (length-append past trace.steps)) come;
        named = All-append (IsNamed trace.names) past trace.steps (all-named names trace.names kept past run.named) known;
        long = (let a : length lines ≡ length past = run.long in omega (arith, length-append lines trace.lines, length-append past trace.steps, even));
        seen = All-append (HasSiteName trace.names) sites trace.sites (all-known names trace.names kept sites run.seen) seen;
        one_each = (let a : length sites ≡ length past = run.one_each in omega (arith, length-append sites trace.sites, length-append past trace.steps, level));
      }

-- one step more
module _ {A : Type 0} (touched : Touched) (tag_of : ℕ → Option Step → A) (told_of : Option A → List (List Because)) (machine next : Ordered A) (builder : Built) (told : List (List Because)) (r : Recording) (n : ℕ) (step : Step)
    (here : slice_get r.steps n ≡ Some step) (come : HasComeTo touched tag_of told_of machine builder told r n)
    (given : Result Reply Refusal) (rival : Option A) (number : ℕ) (line : number ≡ slice_index r.lines n)
    (answer : (past : List Step) (tags : ℕ → A) → Stands tags touched machine past → length past ≡ n → given ≡ answer_by_bytes touched (past ++ step ∷ []) (length past))
    (named : (past : List Step) (tags : ℕ → A) → Stands tags touched machine past → length past ≡ n → given ≡ Ok Race → rival ≡ option_map tags (unordered_by_bytes touched (past ++ step ∷ []) (length past)))
    (goes_on : (past : List Step) (tags : ℕ → A) → Stands tags touched machine past → length past ≡ n → tags (length past) ≡ tag_of number (Some step) → Stands tags touched next (past ++ step ∷ [])) where
  known : given ≡ answer_by_bytes touched r.steps n
  known = answer (take n r.steps) (tag_at tag_of r) come.stands (long r.steps n step here) ∙ bytes-here r.steps n step here touched

  tag_here : tag_at tag_of r (length (take n r.steps)) ≡ tag_of number (Some step)
  unfolding tag_at
  tag_here = ap (λ (k : ℕ). tag_of (slice_index r.lines k) (slice_get r.steps k)) (long r.steps n step here) ∙ ap₂ tag_of (sym line) here

  stands : Stands (tag_at tag_of r) touched next (take (n + 1) r.steps)
  stands = subst (Stands (tag_at tag_of r) touched next) (past-next r.steps n step here) (goes_on (take n r.steps) (tag_at tag_of r) come.stands (long r.steps n step here) tag_here)

  pub plain-here : is_plain given ≡ true → ArePlainBy (answer_by_bytes touched r.steps) n 1
  plain-here plain i low high =
      let same : n ≡ i = omega (arith, low, high) in
      subst (λ (k : ℕ). is_plain (answer_by_bytes touched r.steps k) ≡ true) same (ap is_plain (sym known) ∙ plain)

  pub step-here : (names : NameTable) (site : ℕ) (locks : List ℕ) → site ≡ slice_index r.sites n → names ≡ r.names → ((past : List Step) (tags : ℕ → A) → Stands tags touched next past → locks ≡ (holdings_end past step.thread).held)
      → IsStepBy (answer_by_bytes touched r.steps) r n names number site step given locks
  step-here names site locks at listed locked =
      record {
        here = here;
        line = line;
        site = at;
        named = listed;
        answered = known;
        locked = λ race. locked (take n r.steps ++ step ∷ []) (tag_at tag_of r) (goes_on (take n r.steps) (tag_at tag_of r) come.stands (long r.steps n step here) tag_here)
            ∙ locks-here r.steps n step here (λ none. races-told touched r.steps n (sym known ∙ race-is given race) (ap may_race_at here ∙ none)) step.thread;
      }

  -- the access that it names is that of the definitions
  rival-here : given ≡ Ok Race → rival ≡ option_map (tag_at tag_of r) (unordered_by_bytes touched r.steps n)
  rival-here race = named (take n r.steps) (tag_at tag_of r) come.stands (long r.steps n step here) race ∙ ap (option_map (tag_at tag_of r)) (with-here r.steps n step here touched)

  abbrev printed : Bool
  printed = is_printed_by (answer_by_bytes touched r.steps) r builder.rules n

  told_step : cond printed (told_of rival) [] ≡ cond printed (told_of (option_map (tag_at tag_of r) (unordered_by_bytes touched r.steps n))) []
  told_step = by printed refl
    where
      by : (b : Bool) → printed ≡ b → cond b (told_of rival) [] ≡ cond b (told_of (option_map (tag_at tag_of r) (unordered_by_bytes touched r.steps n))) []
      by true is = ap told_of (rival-here (known ∙ race-is (answer_by_bytes touched r.steps n) (and_parts (is_race (answer_by_bytes touched r.steps n)) (is_none (matching_rule_by (answer_by_bytes touched r.steps) r builder.rules n)) is).0))
      by false is = refl

  pub come-to : (new : Built) (now : List (List Because)) → IsBuiltBy (answer_by_bytes touched r.steps) new r (n + 1) → new.rules ≡ builder.rules → now ≡ told ++ cond printed (told_of rival) []
      → HasComeTo touched tag_of told_of next new now r (n + 1)
  come-to new now built rules is = record {
    stands = stands;
    built = built;
    reasons = is ∙ ap₂ (λ a b. a ++ b) (come.reasons ∙ ap (told_at tag_of told_of touched r) come.built.races) told_step
        ∙ sym (told-next (λ k. told_of (option_map (tag_at tag_of r) (unordered_by_bytes touched r.steps k))) (is_printed_by (answer_by_bytes touched r.steps) r builder.rules) n)
        ∙ sym (ap (told_at tag_of told_of touched r) (built.races ∙ ap (λ (l : List Target). places_below (is_printed_by (answer_by_bytes touched r.steps) r l) (n + 1)) rules));
  }

  -- of what is plain nothing is told
  pub told-plain : is_plain given ≡ true → told ≡ told ++ cond printed (told_of rival) []
  told-plain plain = sym (append-nil told) ∙ ap (λ more. told ++ more) (by given known plain)
    where
      by : (g : Result Reply Refusal) → g ≡ answer_by_bytes touched r.steps n → is_plain g ≡ true → [] ≡ cond printed (told_of rival) []
      by (Ok Done) is plain = rw (← is) refl
      by (Ok Quiet) is plain = rw (← is) refl
      by (Ok Ignored) is plain = rw (← is) refl
      by (Ok Race) is plain = cc
      by (Ok (State s)) is plain = cc
      by (Err why) is plain = cc

-- a race is printed exactly if there is one printed race more
count-more : (b : Bool) (n : ℕ) → nat_lt n (n + cond b 1 0) ≡ b
count-more true n = grind (arith, nat_tests)
count-more false n = grind (arith, nat_tests)

races-of : (a : Answering) (builder : Built) (r : Recording) (n : ℕ) → IsBuiltBy a builder r n → builder.report.races ≡ count_below (is_printed_by a r builder.rules) n
unfolding report_below_by
races-of a builder r n built = ap (λ (s : Summary). s.races) built.report

next-count : (test : ℕ → Bool) (k : ℕ) → nat_lt (count_below test k) (count_below test (suc k)) ≡ test k
unfolding count_below
next-count test k = count-more (test k) (count_below test k)

pub printed-here : (a : Answering) (before after : Built) (r : Recording) (k : ℕ) → IsBuiltBy a before r k → IsBuiltBy a after r (k + 1) → after.rules ≡ before.rules
    → nat_lt before.report.races after.report.races ≡ is_printed_by a r before.rules k
printed-here a before after r k built next rules =
    ap₂ nat_lt (races-of a before r k built) (races-of a after r (k + 1) next ∙ ap₂ (λ (l : List Target) (n : ℕ). count_below (is_printed_by a r l) n) rules (add-one k))
    ∙ next-count (is_printed_by a r before.rules) k

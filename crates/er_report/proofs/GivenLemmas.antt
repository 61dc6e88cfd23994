-- The lines of races get given reasons one after another, since each race that is printed has its own.
use Rattle.std.proofs.Common.{◌≡◌, ℕ, zero, suc, Bool, true, false, cond, List, [], ◌∷◌, ◌++◌, map, slice_get, slice_index, Option, Some, None, is_some, Result, Ok, Err, IsFalse, length, refl, sym, ap, subst, ◌∙◌, append_assoc}
use Rattle.std.proofs.Math.Bool.{and-true, and-false}
use Rattle.std.proofs.lemmas.List.{append-nil, map-append}
use Rattle.er_event.specs.declared.refusals.Refusal.{Refusal}
use Rattle.er_event.specs.declared.steps.Event.{Event}
use Rattle.er_event.specs.declared.steps.Event.TheVariants.{Acquire, Release, Access, Reuse, IgnoreOn, IgnoreOff, Show, Level, Sync}
use Rattle.er_event.specs.declared.steps.Reply.{Reply}
use Rattle.er_event.specs.declared.steps.Reply.TheVariants.{Race, Done, Quiet, Ignored, State}
use Rattle.er_event.specs.declared.steps.Step.{Step}
use Rattle.er_trace.specs.Trace.{Recording}
use Rattle.er_explain.specs.Racing.{is_race, places_below}
use Rattle.er_model.specs.Threads.{accepted, held}
use Rattle.er_report.specs.Builder.{Built, IsBuiltBy, report_below_by}
use Rattle.er_report.specs.Inner.Explained.{line_told, told_left, with_told}
use Rattle.er_report.specs.Lines.{LineView}
use Rattle.er_report.specs.Report.{Answering, RacesHaveLines, Summary, answer_line, reply_line, line_at, lines_by, is_printed_by, matching_rule_by, may_race, may_race_at, no_reasons, report_by, answered_steps}
use Rattle.er_report.specs.declared.report.Because.{Because}
use Rattle.er_report.proofs.BuilderLemmas.{built-lines}
use Rattle.er_rules.specs.Rules.{Target}

-- the reasons that these lines leave
unfoldable left_told : List (List Because) → List LineView → List (List Because)
left_told told [] = told
left_told told (line ∷ lines) = left_told (told_left told line) lines

-- lines one after another
with-append : (told : List (List Because)) (xs ys : List LineView) → with_told told (xs ++ ys) ≡ with_told told xs ++ with_told (left_told told xs) ys
unfolding with_told left_told
with-append told [] ys = refl
with-append told (x ∷ xs) ys = ap (λ (rest : List LineView). line_told told x ∷ rest) (with-append (told_left told x) xs ys)

left-append : (told : List (List Because)) (xs ys : List LineView) → left_told told (xs ++ ys) ≡ left_told (left_told told xs) ys
unfolding left_told
left-append told [] ys = refl
left-append told (x ∷ xs) ys = left-append (told_left told x) xs ys

-- with these reasons, and whatever comes behind them, the lines get theirs, and no others are used up
record Gains (found : List (List Because)) (plain explained : List LineView) : Type 0 where
  pub lines : (more : List (List Because)) → with_told (found ++ more) plain ≡ explained
  pub left : (more : List (List Because)) → left_told (found ++ more) plain ≡ more

gains-nil : Gains [] [] []
unfolding with_told left_told
gains-nil = record { lines = λ more. refl; left = λ more. refl }

gains-append : (f g : List (List Because)) (p q e d : List LineView) → Gains f p e → Gains g q d → Gains (f ++ g) (p ++ q) (e ++ d)
gains-append f g p q e d first second =
    record {
      lines = λ more.
          ap (λ (told : List (List Because)). with_told told (p ++ q)) (append_assoc f g more)
          ∙ with-append (f ++ (g ++ more)) p q
          ∙ ap (λ (lines : List LineView). lines ++ with_told (left_told (f ++ (g ++ more)) p) q) (first.lines (g ++ more))
          ∙ ap (λ (told : List (List Because)). e ++ with_told told q) (first.left (g ++ more))
          ∙ ap (λ (lines : List LineView). e ++ lines) (second.lines more);
      left = λ more.
          ap (λ (told : List (List Because)). left_told told (p ++ q)) (append_assoc f g more)
          ∙ left-append (f ++ (g ++ more)) p q
          ∙ ap (λ (told : List (List Because)). left_told told q) (first.left (g ++ more))
          ∙ second.left more;
    }

-- the line of a reply
quiet-gains : (number line_site : ℕ) (locks : List ℕ) (reasons : List Because) (t : ℕ) (event : Event) (reply : Reply) → IsFalse (is_race (Ok reply))
    → Gains [] (reply_line number line_site locks [] t event reply) (reply_line number line_site locks reasons t event reply)
unfolding with_told left_told
quiet-gains number line_site locks reasons t (Access kind w site) Race none = absurd (cc)
quiet-gains number line_site locks reasons t (Reuse range) Race none = absurd (cc)
quiet-gains number line_site locks reasons t (Show w) (State state) none = record { lines = λ more. refl; left = λ more. refl }
quiet-gains number line_site locks reasons t event reply none = record { lines = λ more. refl; left = λ more. refl }

race-gains : (number line_site : ℕ) (locks : List ℕ) (reasons : List Because) (t : ℕ) (event : Event) → (may_race event ≡ false → ⊥)
    → Gains (reasons ∷ []) (reply_line number line_site locks [] t event Race) (reply_line number line_site locks reasons t event Race)
unfolding with_told left_told
race-gains number line_site locks reasons t (Access kind w site) accesses = record { lines = λ more. refl; left = λ more. refl }
race-gains number line_site locks reasons t (Acquire l m) accesses = absurd (accesses refl)
race-gains number line_site locks reasons t (Release l m) accesses = absurd (accesses refl)
race-gains number line_site locks reasons t (Reuse range) accesses = record { lines = λ more. refl; left = λ more. refl }
race-gains number line_site locks reasons t IgnoreOn accesses = absurd (accesses refl)
race-gains number line_site locks reasons t IgnoreOff accesses = absurd (accesses refl)
race-gains number line_site locks reasons t (Show w) accesses = absurd (accesses refl)
race-gains number line_site locks reasons t (Level n) accesses = absurd (accesses refl)
race-gains number line_site locks reasons t (Sync sync) accesses = absurd (accesses refl)

answer-gains : (number line_site : ℕ) (locks : List ℕ) (reasons : List Because) (step : Step) (given : Result Reply Refusal) → (given ≡ Ok Race → may_race step.event ≡ false → ⊥)
    → Gains (cond (is_race given) (reasons ∷ []) []) (answer_line number line_site locks [] step given) (answer_line number line_site locks reasons step given)
unfolding with_told left_told
answer-gains number line_site locks reasons step (Ok Race) accesses = race-gains number line_site locks reasons step.thread step.event (accesses refl)
answer-gains number line_site locks reasons step (Ok Done) accesses = quiet-gains number line_site locks reasons step.thread step.event Done refl
answer-gains number line_site locks reasons step (Ok Quiet) accesses = quiet-gains number line_site locks reasons step.thread step.event Quiet refl
answer-gains number line_site locks reasons step (Ok Ignored) accesses = quiet-gains number line_site locks reasons step.thread step.event Ignored refl
answer-gains number line_site locks reasons step (Ok (State state)) accesses = quiet-gains number line_site locks reasons step.thread step.event (State state) refl
answer-gains number line_site locks reasons step (Err why) accesses = record { lines = λ more. refl; left = λ more. refl }

-- past the list's end there is no race
nothing-gains : (reasons : List Because) (given : Result Reply Refusal) → (given ≡ Ok Race → ⊥) → Gains (cond (is_race given) (reasons ∷ []) []) [] []
nothing-gains reasons (Ok Race) none = absurd (none refl)
nothing-gains reasons (Ok Done) none = gains-nil
nothing-gains reasons (Ok Quiet) none = gains-nil
nothing-gains reasons (Ok Ignored) none = gains-nil
nothing-gains reasons (Ok (State state)) none = gains-nil
nothing-gains reasons (Err why) none = gains-nil

module _ (a : Answering) (why : ℕ → List Because) (r : Recording) (accesses : RacesHaveLines a r.steps) where
  line-gains-by : (k : ℕ) (o : Option Step) → slice_get r.steps k ≡ o → Gains (cond (is_race (a k)) (why k ∷ []) []) (line_at a no_reasons r k) (line_at a why r k)
  unfolding line_at
  line-gains-by k None none =
      let unraced : a k ≡ Ok Race → ⊥ = λ race. accesses k race (ap may_race_at none) in
      rw none (nothing-gains (why k) (a k) unraced)
  line-gains-by k (Some step) here =
      rw here
      (answer-gains (slice_index r.lines k) (slice_index r.sites k) (held (accepted r.steps k) step.thread) (why k) step (a k)
      (λ race other. accesses k race (ap may_race_at here ∙ other)))

  line-gains : (k : ℕ) → Gains (cond (is_race (a k)) (why k ∷ []) []) (line_at a no_reasons r k) (line_at a why r k)
  line-gains k = line-gains-by k (slice_get r.steps k) refl

  last-gains : (rules : List Target) (n : ℕ) (o : Option ℕ) → matching_rule_by a r rules n ≡ o
      → Gains (map why (cond (is_printed_by a r rules n) (n ∷ []) [])) (cond (is_some (matching_rule_by a r rules n)) [] (line_at a no_reasons r n)) (cond (is_some (matching_rule_by a r rules n)) [] (line_at a why r n))
  last-gains rules n None taken = rw (taken, and-true (is_race (a n))) (subst (λ (found : List (List Because)). Gains found (line_at a no_reasons r n) (line_at a why r n)) (one (is_race (a n))) (line-gains n))
    where
      one : (b : Bool) → cond b (why n ∷ []) [] ≡ map why (cond b (n ∷ []) [])
      one true = refl
      one false = refl
  last-gains rules n (Some i) taken = rw (taken, and-false (is_race (a n))) gains-nil

  lines-gain : (rules : List Target) (n : ℕ) → Gains (map why (places_below (is_printed_by a r rules) n)) (lines_by a no_reasons r rules n) (lines_by a why r rules n)
  unfolding lines_by places_below
  lines-gain rules zero = gains-nil
  lines-gain rules (suc n) =
      rw (map-append why (places_below (is_printed_by a r rules) n) (cond (is_printed_by a r rules n) (n ∷ []) []))
      (gains-append (map why (places_below (is_printed_by a r rules) n)) _ (lines_by a no_reasons r rules n) _ (lines_by a why r rules n) _ (lines-gain rules n) (last-gains rules n (matching_rule_by a r rules n) refl))

  lines-given : (rules : List Target) (n : ℕ) → with_told (map why (places_below (is_printed_by a r rules) n)) (lines_by a no_reasons r rules n) ≡ lines_by a why r rules n
  lines-given rules n =
      ap (λ (told : List (List Because)). with_told told (lines_by a no_reasons r rules n)) (sym (append-nil (map why (places_below (is_printed_by a r rules) n))))
      ∙ (lines-gain rules n).lines []

  -- the lines of a builder get the reasons that are given
  pub given-lines : (builder : Built) (n : ℕ) (told : List (List Because)) (lines : List LineView) → IsBuiltBy a builder r n → told ≡ map why builder.races
      → lines ≡ with_told told builder.report.lines → lines ≡ lines_by a why r builder.rules n
  given-lines builder n told lines built given are =
      are
      ∙ ap (λ (t : List (List Because)). with_told t builder.report.lines) (given ∙ ap (map why) built.races)
      ∙ ap (with_told (map why (places_below (is_printed_by a r builder.rules) n))) (built-lines a builder r n built)
      ∙ lines-given builder.rules n

  pub given-end : (builder : Built) (told : List (List Because)) (lines : List LineView) → IsBuiltBy a builder r (length (answered_steps r.steps None)) → told ≡ map why builder.races
      → lines ≡ with_told told builder.report.lines → record builder.report { lines = lines; stop = None } ≡ report_by a why r builder.rules None
  unfolding report_below_by
  given-end builder told lines built given are =
      let n : ℕ = length (answered_steps r.steps None) in
      ap (λ (t : Summary). record t { lines = lines; stop = None }) built.report
      ∙ ap (λ (all : List LineView). record (report_below_by a r builder.rules n) { lines = all; stop = None }) (given-lines builder n told lines built given are)

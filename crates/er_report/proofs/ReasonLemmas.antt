-- The lines of races get the reasons of their explanations one after another, since each such race has one explanation.
use Rattle.std.proofs.Common.{◌≡◌, ℕ, zero, suc, ◌≤◌, Bool, true, false, cond, List, [], ◌∷◌, ◌++◌, length, take, drop, set, slice_get, slice_index, get_or, Option, Some, None, is_some, Result, Ok, Err, IsFalse, ◌+◌, ◌<◌, refl, sym, ap, ◌∙◌, arith, append_assoc, add-one}
use Rattle.std.specs.Option.{option_to_list}
use Rattle.std.proofs.Math.Bool.{and-true, and-false}
use Rattle.std.proofs.Math.Seq.{drop-cons}
use Rattle.std.proofs.lemmas.Grind.{flat_map-append}
use Rattle.std.proofs.lemmas.List.{append-nil, take_all, take_more_set, drop_all, drop-set-lt}
use Rattle.er_event.specs.declared.refusals.Refusal.{Refusal}
use Rattle.er_event.specs.declared.steps.Event.{Event}
use Rattle.er_event.specs.declared.steps.Event.TheVariants.{Acquire, Release, Access, Reuse, IgnoreOn, IgnoreOff, Show, Level, Sync}
use Rattle.er_event.specs.declared.steps.Reply.{Reply}
use Rattle.er_event.specs.declared.steps.Reply.TheVariants.{Race, Done, Quiet, Ignored, State}
use Rattle.er_event.specs.declared.steps.Step.{Step}
use Rattle.er_trace.specs.Trace.{Recording}
use Rattle.er_explain.proofs.RaceLemmas.{explained-here, explanations_at}
use Rattle.er_explain.proofs.FoundLemmas.{no-word, unraced-at}
use Rattle.er_explain.specs.Explaining.{explanation_where, explanation_at}
use Rattle.er_explain.specs.Racing.{is_race, places_below}
use Rattle.er_model.specs.Answers.{answer}
use Rattle.er_model.specs.Explanations.{Explanation, word_in, word_of}
use Rattle.er_model.specs.Threads.{accepted, held}
use Rattle.er_report.specs.Inner.Explained.{line_with, left_after, with_reasons, left_by, line_told, told_left, with_told}
use Rattle.er_report.specs.Lines.{LineView}
use Rattle.er_report.specs.Reasons.{reasons_of, reasons_by}
use Rattle.er_report.specs.Report.{answer_line, reply_line, line_at, lines_below, lines_by, is_printed, matching_rule_at, reasons_if}
use Rattle.er_report.specs.declared.report.Because.{Because}
use Rattle.er_rules.specs.Rules.{Target}

-- lines one after another
with-append : (r : Recording) (es : List Explanation) (xs ys : List LineView) → with_reasons r es (xs ++ ys) ≡ with_reasons r es xs ++ with_reasons r (left_by es xs) ys
unfolding with_reasons left_by
with-append r es [] ys = refl
with-append r es (x ∷ xs) ys = ap (λ (rest : List LineView). line_with r es x ∷ rest) (with-append r (left_after es x) xs ys)

left-append : (es : List Explanation) (xs ys : List LineView) → left_by es (xs ++ ys) ≡ left_by (left_by es xs) ys
unfolding left_by
left-append es [] ys = refl
left-append es (x ∷ xs) ys = left-append (left_after es x) xs ys

-- with these explanations, and whatever comes behind them, the lines get their reasons, and no other explanation is used up
record Gains (r : Recording) (found : List Explanation) (plain explained : List LineView) : Type 0 where
  pub lines : (more : List Explanation) → with_reasons r (found ++ more) plain ≡ explained
  pub left : (more : List Explanation) → left_by (found ++ more) plain ≡ more

gains-nil : (r : Recording) → Gains r [] [] []
unfolding with_reasons left_by
gains-nil r = record { lines = λ more. refl; left = λ more. refl }

gains-append : (r : Recording) (f g : List Explanation) (p q e d : List LineView) → Gains r f p e → Gains r g q d → Gains r (f ++ g) (p ++ q) (e ++ d)
gains-append r f g p q e d first second =
    record {
      lines = λ more.
          ap (λ (es : List Explanation). with_reasons r es (p ++ q)) (append_assoc f g more)
          ∙ with-append r (f ++ (g ++ more)) p q
          ∙ ap (λ (lines : List LineView). lines ++ with_reasons r (left_by (f ++ (g ++ more)) p) q) (first.lines (g ++ more))
          ∙ ap (λ (es : List Explanation). e ++ with_reasons r es q) (first.left (g ++ more))
          ∙ ap (λ (lines : List LineView). e ++ lines) (second.lines more);
      left = λ more.
          ap (λ (es : List Explanation). left_by es (p ++ q)) (append_assoc f g more)
          ∙ left-append (f ++ (g ++ more)) p q
          ∙ ap (λ (es : List Explanation). left_by es q) (first.left (g ++ more))
          ∙ second.left more;
    }

-- the line of a reply
quiet-gains : (r : Recording) (number line_site : ℕ) (locks : List ℕ) (t : ℕ) (event : Event) (reply : Reply) → IsFalse (is_race (Ok reply))
    → Gains r [] (reply_line number line_site locks [] t event reply) (reply_line number line_site locks [] t event reply)
unfolding with_reasons left_by
quiet-gains r number line_site locks t (Access kind w site) Race none = absurd (cc)
quiet-gains r number line_site locks t (Reuse range) Race none = absurd (cc)
quiet-gains r number line_site locks t (Show w) (State state) none = record { lines = λ more. refl; left = λ more. refl }
quiet-gains r number line_site locks t event reply none = record { lines = λ more. refl; left = λ more. refl }

race-gains : (r : Recording) (number line_site : ℕ) (locks : List ℕ) (t : ℕ) (event : Event) (e : Explanation) → (word_in event ≡ None → ⊥)
    → Gains r (e ∷ []) (reply_line number line_site locks [] t event Race) (reply_line number line_site locks (reasons_of r e) t event Race)
unfolding with_reasons left_by
race-gains r number line_site locks t (Access kind w site) e accesses = record { lines = λ more. refl; left = λ more. refl }
race-gains r number line_site locks t (Acquire l m) e accesses = absurd (accesses refl)
race-gains r number line_site locks t (Release l m) e accesses = absurd (accesses refl)
race-gains r number line_site locks t (Reuse range) e accesses = absurd (accesses refl)
race-gains r number line_site locks t IgnoreOn e accesses = absurd (accesses refl)
race-gains r number line_site locks t IgnoreOff e accesses = absurd (accesses refl)
race-gains r number line_site locks t (Show w) e accesses = absurd (accesses refl)
race-gains r number line_site locks t (Level n) e accesses = absurd (accesses refl)
race-gains r number line_site locks t (Sync sync) e accesses = absurd (accesses refl)

answer-gains : (r : Recording) (number line_site : ℕ) (locks : List ℕ) (step : Step) (k : ℕ) (a : Result Reply Refusal) → (a ≡ Ok Race → word_in step.event ≡ None → ⊥)
    → Gains r (option_to_list (explanation_where r.steps k a)) (answer_line number line_site locks [] step a) (answer_line number line_site locks (reasons_by r (explanation_where r.steps k a)) step a)
unfolding with_reasons left_by
answer-gains r number line_site locks step k (Ok Race) accesses = race-gains r number line_site locks step.thread step.event _ (accesses refl)
answer-gains r number line_site locks step k (Ok Done) accesses = quiet-gains r number line_site locks step.thread step.event Done refl
answer-gains r number line_site locks step k (Ok Quiet) accesses = quiet-gains r number line_site locks step.thread step.event Quiet refl
answer-gains r number line_site locks step k (Ok Ignored) accesses = quiet-gains r number line_site locks step.thread step.event Ignored refl
answer-gains r number line_site locks step k (Ok (State state)) accesses = quiet-gains r number line_site locks step.thread step.event (State state) refl
answer-gains r number line_site locks step k (Err why) accesses = record { lines = λ more. refl; left = λ more. refl }

-- the line of a step, with reasons or without
abbrev lockset_line : Recording → Bool → ℕ → List LineView
lockset_line r explain k = line_at (answer r.steps) (reasons_if explain r) r k

line-gains-by : (r : Recording) (k : ℕ) (o : Option Step) → slice_get r.steps k ≡ o → Gains r (option_to_list (explanation_at r.steps k)) (lockset_line r false k) (lockset_line r true k)
unfolding line_at explanation_at
line-gains-by r k None none =
    let unexplained : explanation_at r.steps k ≡ None = unraced-at r.steps k (no-word r.steps k (ap word_of none)) in
    rw (none, unexplained) (gains-nil r)
line-gains-by r k (Some step) here =
    rw here
    (answer-gains r (slice_index r.lines k) (slice_index r.sites k) (held (accepted r.steps k) step.thread) step k (answer r.steps k)
    (λ race other. no-word r.steps k (ap word_of here ∙ other) race))

line-gains : (r : Recording) (k : ℕ) → Gains r (option_to_list (explanation_at r.steps k)) (lockset_line r false k) (lockset_line r true k)
line-gains r k = line-gains-by r k (slice_get r.steps k) refl

-- the lines of the first n steps
abbrev pub found_below : Recording → List Target → ℕ → List Explanation
found_below r rules n = explanations_at r.steps (places_below (is_printed r rules) n)

last-gains : (r : Recording) (rules : List Target) (n : ℕ) (o : Option ℕ) → matching_rule_at r rules n ≡ o
    → Gains r (explanations_at r.steps (cond (is_printed r rules n) (n ∷ []) [])) (cond (is_some (matching_rule_at r rules n)) [] (lockset_line r false n)) (cond (is_some (matching_rule_at r rules n)) [] (lockset_line r true n))
last-gains r rules n None taken = rw (taken, and-true (is_race (answer r.steps n)), explained-here r.steps n) (line-gains r n)
last-gains r rules n (Some i) taken = rw (taken, and-false (is_race (answer r.steps n))) (gains-nil r)

lines-gain : (r : Recording) (rules : List Target) (n : ℕ) → Gains r (found_below r rules n) (lines_below r rules false n) (lines_below r rules true n)
unfolding lines_by places_below
lines-gain r rules zero = gains-nil r
lines-gain r rules (suc n) =
    let split : found_below r rules (suc n) ≡ found_below r rules n ++ explanations_at r.steps (cond (is_printed r rules n) (n ∷ []) []) =
    flat_map-append (λ (k : ℕ). option_to_list (explanation_at r.steps k)) (places_below (is_printed r rules) n) (cond (is_printed r rules n) (n ∷ []) []) in
    rw split
    (gains-append r (found_below r rules n) _ (lines_below r rules false n) _ (lines_below r rules true n) _ (lines-gain r rules n) (last-gains r rules n (matching_rule_at r rules n) refl))

pub lines-explained : (r : Recording) (rules : List Target) (n : ℕ) → with_reasons r (found_below r rules n) (lines_below r rules false n) ≡ lines_below r rules true n
lines-explained r rules n =
    ap (λ (es : List Explanation). with_reasons r es (lines_below r rules false n)) (sym (append-nil (found_below r rules n)))
    ∙ (lines-gain r rules n).lines []

-- one line after another gets its reasons
pub explained-next : (lines : List LineView) (i : ℕ) (line : LineView) (told : List (List Because)) → i < length lines → line ≡ get_or lines i line
    → take i lines ++ with_told told (drop i lines)
    ≡ take (i + 1) (set lines i (line_told told line)) ++ with_told (told_left told line) (drop (i + 1) (set lines i (line_told told line)))
unfolding with_told
explained-next lines i line told within is =
    let rest : drop i lines ≡ line ∷ drop (i + 1) lines = drop-cons lines i line within ∙ rw (← is, add-one i) refl in
    let same : drop (i + 1) (set lines i (line_told told line)) ≡ drop (i + 1) lines = drop-set-lt (i + 1) lines i (line_told told line) (omega arith) in
    rw (rest, take_more_set lines i (line_told told line) within, same, append_assoc (take i lines) (line_told told line ∷ []) (with_told (told_left told line) (drop (i + 1) lines))) refl

pub explained-end : (lines : List LineView) (i : ℕ) (told : List (List Because)) → length lines ≤ i → take i lines ++ with_told told (drop i lines) ≡ lines
unfolding with_told
explained-end lines i told past = rw (drop_all i lines past, take_all i lines past, append-nil lines) refl

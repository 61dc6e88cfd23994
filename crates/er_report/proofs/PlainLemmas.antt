-- Steps that a report counts and says nothing else of, and that leave no reason behind.
use Rattle.std.proofs.Common.{◌≡◌, ◌+◌, ℕ, zero, suc, true, false, List, [], length, slice_get, Option, Some, None, is_some, IfSome, IsTrue, Result, Ok, Err, refl, sym, ap, subst, ◌∙◌, arith}
use Rattle.std.proofs.lemmas.List.{append-nil}
use Rattle.std.specs.List.{range_with_len}
use Rattle.er_event.specs.declared.refusals.Refusal.{Refusal}
use Rattle.er_event.specs.declared.steps.Event.{Event}
use Rattle.er_event.specs.declared.steps.Event.TheVariants.{Access, Reuse, Show}
use Rattle.er_event.specs.declared.steps.Reply.{Reply}
use Rattle.er_event.specs.declared.steps.Reply.TheVariants.{Done, Quiet, Race, Ignored, State}
use Rattle.er_event.specs.declared.steps.Step.{Step}
use Rattle.er_explain.proofs.SettledLemmas.{settled-book}
use Rattle.er_explain.specs.Naming.{named_book}
use Rattle.er_explain.specs.Racing.{is_race, places_below}
use Rattle.er_model.specs.Answers.{answer, reading_of}
use Rattle.er_report.proofs.BuilderLemmas.{same_summary}
use Rattle.er_report.proofs.CountLemmas.{same_counts}
use Rattle.er_report.specs.Builder.{Built, ArePlain, ArePlainBy, IsBuilt, IsBuiltBy, IsReported, KeepsState, KeepStates, is_plain, report_below_by}
use Rattle.er_report.specs.Kept.{Kept, Follows, access_at, told_below}
use Rattle.er_report.specs.Report.{Answering, Summary, answer_line, count_below, is_printed_by, is_refused, line_of, line_at, lines_by, matching_rule_of, matching_rule_by, no_reasons, reply_line, rule_count}
use Rattle.er_rules.specs.Rules.{Target}
use Rattle.er_trace.specs.Trace.{Recording}

-- a plain answer is no race, no refusal, and has no line
plain-race : (a : Result Reply Refusal) → is_plain a ≡ true → is_race a ≡ false
plain-race (Ok Done) plain = refl
plain-race (Ok Quiet) plain = refl
plain-race (Ok Ignored) plain = refl
plain-race (Ok Race) plain = cc
plain-race (Ok (State state)) plain = refl
plain-race (Err why) plain = refl

plain-refused : (a : Result Reply Refusal) → is_plain a ≡ true → is_refused a ≡ false
plain-refused (Ok reply) plain = refl
plain-refused (Err why) plain = cc

plain-reply : (number line_site : ℕ) (locks : List ℕ) (t : ℕ) (event : Event) (reply : Reply) → is_plain (Ok reply) ≡ true → reply_line number line_site locks [] t event reply ≡ []
plain-reply number line_site locks t (Access kind word site) Race plain = cc
plain-reply number line_site locks t (Reuse range) Race plain = cc
plain-reply number line_site locks t (Show word) (State state) plain = cc
plain-reply number line_site locks t event reply plain = refl

plain-answer : (number line_site : ℕ) (locks : List ℕ) (step : Step) (a : Result Reply Refusal) → is_plain a ≡ true → answer_line number line_site locks [] step a ≡ []
plain-answer number line_site locks step (Ok reply) plain = plain-reply number line_site locks step.thread step.event reply plain
plain-answer number line_site locks step (Err why) plain = cc

-- one step that is answered so
module _ (a : Answering) (r : Recording) (rules : List Target) (k : ℕ) (plain : is_plain (a k) ≡ true) where
  no-race : is_race (a k) ≡ false
  no-race = plain-race (a k) plain

  no-rule_of : (o : Option Step) → matching_rule_of a r rules k o ≡ None
  no-rule_of None = refl
  no-rule_of (Some step) = rw no-race refl

  no-rule : matching_rule_by a r rules k ≡ None
  unfolding matching_rule_by
  no-rule = no-rule_of (slice_get r.steps k)

  no-line_of : (o : Option Step) → line_of a no_reasons r k o ≡ []
  no-line_of None = refl
  no-line_of (Some step) = plain-answer _ _ _ step (a k) plain

  no-line : line_at a no_reasons r k ≡ []
  unfolding line_at
  no-line = no-line_of (slice_get r.steps k)

  plain-report : report_below_by a r rules (suc k) ≡ record (report_below_by a r rules k) { steps = suc k }
  unfolding report_below_by lines_by count_below
  plain-report =
      same_summary _ _ _ _ _ _ _ _ _ _ _ _ _ _
      (rw (no-rule, no-line) (append-nil (lines_by a no_reasons r rules k)))
      refl
      (sym (same_counts (rule_count a r rules k) (rule_count a r rules (suc k)) (λ i. rw no-rule (omega arith)) (range_with_len 0 (length rules))))
      refl
      (rw no-race (omega arith))
      (rw no-rule (omega arith))
      (rw (plain-refused (a k) plain) (omega arith))

  plain-places : places_below (is_printed_by a r rules) (suc k) ≡ places_below (is_printed_by a r rules) k
  unfolding places_below
  plain-places = rw no-race (append-nil (places_below (is_printed_by a r rules) k))

-- and so many
plain-reports : (a : Answering) (r : Recording) (rules : List Target) (k n : ℕ) → ArePlainBy a k n → report_below_by a r rules (k + n) ≡ record (report_below_by a r rules k) { steps = k + n }
unfolding report_below_by
plain-reports a r rules k zero plain = let same : k ≡ k + zero = omega arith in rw (← same) refl
plain-reports a r rules k (suc n) plain =
    let next : suc (k + n) ≡ k + suc n = omega arith in
    let so_far : report_below_by a r rules (k + n) ≡ record (report_below_by a r rules k) { steps = k + n } = plain-reports a r rules k n (λ i from to. plain i from (omega arith)) in
    subst (λ (m : ℕ). report_below_by a r rules m ≡ record (report_below_by a r rules k) { steps = m }) next
    (plain-report a r rules (k + n) (plain (k + n) (omega arith) (omega arith)) ∙ ap (λ (s : Summary). record s { steps = suc (k + n) }) so_far)

plain-positions : (a : Answering) (r : Recording) (rules : List Target) (k n : ℕ) → ArePlainBy a k n → places_below (is_printed_by a r rules) (k + n) ≡ places_below (is_printed_by a r rules) k
plain-positions a r rules k zero plain = let same : k ≡ k + zero = omega arith in rw (← same) refl
plain-positions a r rules k (suc n) plain =
    let next : suc (k + n) ≡ k + suc n = omega arith in
    subst (λ (m : ℕ). places_below (is_printed_by a r rules) m ≡ places_below (is_printed_by a r rules) k) next
    (plain-places a r rules (k + n) (plain (k + n) (omega arith) (omega arith)) ∙ plain-positions a r rules k n (λ i from to. plain i from (omega arith)))

pub built-plain : (a : Answering) (before after : Built) (r : Recording) (k n : ℕ) → IsBuiltBy a before r k → ArePlainBy a k n → after.rules ≡ before.rules
    → after.report ≡ record before.report { steps = before.report.steps + n } → after.races ≡ before.races → IsBuiltBy a after r (k + n)
unfolding report_below_by
built-plain a before after r k n built plain kept counted same =
    record {
      report =
          counted
          ∙ ap (λ (s : Summary). record s { steps = s.steps + n }) built.report
          ∙ sym (plain-reports a r before.rules k n plain)
          ∙ ap (λ (rules : List Target). report_below_by a r rules (k + n)) (sym kept);
      races =
          same
          ∙ built.races
          ∙ sym (plain-positions a r before.rules k n plain)
          ∙ ap (λ (rules : List Target). places_below (is_printed_by a r rules) (k + n)) (sym kept);
    }

-- a plain step that leaves every word's state as it was leaves no reason behind
settled-kept : (kept : Kept) (r : Recording) (rules : List Target) (k : ℕ) → is_plain (answer r.steps k) ≡ true → KeepsState r.steps k → Follows kept r rules k → Follows kept r rules (suc k)
unfolding told_below
settled-kept kept r rules k plain keep follows =
    record {
      books = λ w. follows.books w ∙ ap (named_book (access_at r)) (sym (settled-book (reading_of r.steps) w k (keep w)));
      told = rw (plain-race (answer r.steps k) plain) (follows.told ∙ sym (append-nil (told_below r rules k)));
    }

settled-follows : (kept : Kept) (r : Recording) (rules : List Target) (k n : ℕ) → ArePlain r.steps k n → KeepStates r.steps k n → Follows kept r rules k → Follows kept r rules (k + n)
settled-follows kept r rules k zero plain keep follows = let same : k ≡ k + zero = omega arith in subst (λ (m : ℕ). Follows kept r rules m) same follows
settled-follows kept r rules k (suc n) plain keep follows =
    let next : suc (k + n) ≡ k + suc n = omega arith in
    let so_far : Follows kept r rules (k + n) = settled-follows kept r rules k n (λ i from to. plain i from (omega arith)) (λ i from to. keep i from (omega arith)) follows in
    subst (λ (m : ℕ). Follows kept r rules m) next (settled-kept kept r rules (k + n) (plain (k + n) (omega arith) (omega arith)) (keep (k + n) (omega arith) (omega arith)) so_far)

settled-by : (o : Option Kept) (r : Recording) (rules : List Target) (k n : ℕ) → ArePlain r.steps k n → (IsTrue (is_some o) → KeepStates r.steps k n)
    → IfSome o (λ kept. Follows kept r rules k) → IfSome o (λ kept. Follows kept r rules (k + n))
settled-by None r rules k n plain keep explained = tt
settled-by (Some kept) r rules k n plain keep explained = settled-follows kept r rules k n plain (keep refl) explained

-- a report of plain steps, which leave no reason behind if reasons are wanted
pub reported-plain : (before after : Built) (r : Recording) (k n : ℕ) → IsReported before r k → ArePlain r.steps k n → (IsTrue (is_some before.kept) → KeepStates r.steps k n)
    → after.rules ≡ before.rules → after.kept ≡ before.kept → IsBuilt after r (k + n) → IsReported after r (k + n)
reported-plain before after r k n reported plain keep rules kept built =
    record {
      built = built;
      explained =
          subst (λ (o : Option Kept). IfSome o (λ held. Follows held r after.rules (k + n))) (sym kept)
          (subst (λ (known : List Target). IfSome before.kept (λ held. Follows held r known (k + n))) (sym rules)
          (settled-by before.kept r before.rules k n plain keep reported.explained));
    }

-- Each race of a rule is counted once among the rules; and what an explanation names are accesses, so none of its reasons is left out.
use Rattle.std.proofs.Common.{◌≡◌, ℕ, zero, suc, ◌+◌, ◌<◌, ◌≤◌, ◌==◌, Bool, true, false, ◌&&◌, not, nat_le, cond, List, [], ◌∷◌, ◌++◌, length, map, flat_map, slice_get, slice_index, Option, Some, None, is_some, is_none, Result, Ok, Err, All, refl, ap, ◌∙◌, arith}
use Rattle.std.specs.List.{range_with_len, sum, sum_by}
use Rattle.std.proofs.lemmas.List.Sums.{sum-map, sum_by-cons}
use Rattle.std.proofs.lemmas.Bool.{cases_eq, eq-eqb, eqb-true, ne_eqb, and_parts}
use Rattle.std.proofs.lemmas.List.{map-append}
use Rattle.std.proofs.lemmas.List.Elements.{All-nil, All-cons, All-head, All-tail}
use Rattle.std.proofs.lemmas.List.Quantifiers.{position-Some}
use Rattle.er_event.specs.declared.refusals.Refusal.{Refusal}
use Rattle.er_event.specs.declared.steps.Event.{Event}
use Rattle.er_event.specs.declared.steps.Event.TheVariants.{Access}
use Rattle.er_event.specs.declared.steps.Reply.{Reply}
use Rattle.er_event.specs.declared.steps.Reply.TheVariants.{Race, Done, Quiet, Ignored, State}
use Rattle.er_event.specs.declared.steps.Step.{Step}
use Rattle.er_trace.specs.Names.{NameTable}
use Rattle.er_trace.specs.Trace.{Recording}
use Rattle.er_event.specs.declared.steps.Event.TheVariants.{Reuse, Show}
use Rattle.er_event.specs.declared.steps.Kind.{Kind}
use Rattle.er_event.specs.Lockset.{has}
use Rattle.er_explain.specs.Explaining.{explanation_at}
use Rattle.er_explain.proofs.Explained.{explained-at}
use Rattle.er_model.specs.Answers.{covering, mark, mark_of, reading_of}
use Rattle.er_model.specs.Explanations.{Explanation, ExplainsAccess, first_write, first_uncovered}
use Rattle.er_model.specs.Search.{least_below}
use Rattle.er_model.specs.Threads.{accepted, is_ignoring}
use Rattle.er_model.specs.Words.{Reading, Counted, Nothing, counts, cover_of, counted_from, era, first, writes}
use Rattle.er_model.proofs.Meaning.{join-counted}
use Rattle.er_model.proofs.Search.{least_below-Some}
use Rattle.er_report.specs.Reasons.{reason_at, reasons_of, reasons_by, reasons_at}
use Rattle.er_report.specs.declared.report.Because.{Because}
use Rattle.er_report.specs.declared.report.Label.{Label}
use Rattle.er_report.specs.declared.report.Label.TheVariants as label
use Rattle.er_explain.specs.Racing.{is_race}
use Rattle.er_report.specs.Report.{Answering, event_matching_rule, answer_matching_rule, matching_rule_of, matching_rule_by, is_printed_by, is_rule, rule_count, rule_counts, count_below}
use Rattle.er_rules.specs.Rules.{Target, AtWords}
use Rattle.std.proofs.Common.{inl, inr}

-- sums over lists of counts
sum_none : (f : ℕ → ℕ) → ((i : ℕ) → f i ≡ 0) → (xs : List ℕ) → sum_by f xs ≡ 0
sum_none f none [] = refl
sum_none f none (x ∷ xs) = (let here : f x ≡ 0 = none x in let rest : sum_by f xs ≡ 0 = sum_none f none xs in omega (arith, sum_by-cons f x xs))

sum_both : (f g h : ℕ → ℕ) → ((i : ℕ) → f i ≡ g i + h i) → (xs : List ℕ) → sum_by f xs ≡ sum_by g xs + sum_by h xs
sum_both f g h both [] = refl
sum_both f g h both (x ∷ xs) =
    let here : f x ≡ g x + h x = both x in
    let rest : sum_by f xs ≡ sum_by g xs + sum_by h xs = sum_both f g h both xs in
    omega (arith, sum_by-cons f x xs, sum_by-cons g x xs, sum_by-cons h x xs)

abbrev one_at : ℕ → ℕ → ℕ
one_at j i = cond (i == j) 1 0

sum_before : (j a n : ℕ) → j < a → sum_by (one_at j) (range_with_len a n) ≡ 0
sum_before j a zero before = refl
sum_before j a (suc n) before =
    let here : one_at j a ≡ 0 = ap (λ b. cond b 1 0) (ne_eqb a j (omega arith)) in
    let rest : sum_by (one_at j) (range_with_len (a + 1) n) ≡ 0 = sum_before j (a + 1) n (omega arith) in
    omega (arith, sum_by-cons (one_at j) a (range_with_len (a + 1) n))

sum_one : (j a n : ℕ) → a ≤ j → j < a + n → sum_by (one_at j) (range_with_len a n) ≡ 1
sum_one j a zero low high = absurd (omega arith)
sum_one j a (suc n) low high =
    elim (cases_eq a j) [
      | inl same ↦
          (let here : one_at j a ≡ 1 = ap (λ b. cond b 1 0) (eq-eqb a j same) in
          let rest : sum_by (one_at j) (range_with_len (a + 1) n) ≡ 0 = sum_before j (a + 1) n (omega arith) in
          omega (arith, sum_by-cons (one_at j) a (range_with_len (a + 1) n)))
      | inr other ↦
          (let here : one_at j a ≡ 0 = ap (λ b. cond b 1 0) (ne_eqb a j other) in
          let rest : sum_by (one_at j) (range_with_len (a + 1) n) ≡ 1 = sum_one j (a + 1) n (omega arith) (omega arith) in
          omega (arith, sum_by-cons (one_at j) a (range_with_len (a + 1) n)))
    ]

-- a rule that takes a race is one of the rules
answer_within : (rules : List Target) (names : NameTable) (line_site : ℕ) (event : Event) (a : Result Reply Refusal) (j : ℕ) → answer_matching_rule rules names line_site event a ≡ Some j → j < length rules
answer_within rules names line_site event (Ok Race) j taken = no_other event taken
  where
    no_other : (e : Event) → event_matching_rule rules names line_site e ≡ Some j → j < length rules
    no_other (Access kind w site) taken = (position-Some _ rules j (AtWords None) taken).0
    no_other (Reuse range) taken = (position-Some _ rules j (AtWords None) taken).0
    no_other e taken = absurd (cc)
answer_within rules names line_site event (Ok Done) j taken = absurd (cc)
answer_within rules names line_site event (Ok Quiet) j taken = absurd (cc)
answer_within rules names line_site event (Ok Ignored) j taken = absurd (cc)
answer_within rules names line_site event (Ok (State state)) j taken = absurd (cc)
answer_within rules names line_site event (Err why) j taken = absurd (cc)

matching_rule_within_by : (a : Answering) (r : Recording) (rules : List Target) (k : ℕ) (o : Option Step) (j : ℕ) → matching_rule_of a r rules k o ≡ Some j → j < length rules
matching_rule_within_by a r rules k None j taken = absurd (cc)
matching_rule_within_by a r rules k (Some step) j taken = answer_within rules r.names (slice_index r.sites k) step.event (a k) j taken

matching_rule_within : (a : Answering) (r : Recording) (rules : List Target) (k j : ℕ) → matching_rule_by a r rules k ≡ Some j → j < length rules
unfolding matching_rule_by
matching_rule_within a r rules k j taken = matching_rule_within_by a r rules k (slice_get r.steps k) j taken

rule_once : (o : Option ℕ) (n : ℕ) → ((j : ℕ) → o ≡ Some j → j < n) → sum_by (λ i. cond (is_rule i o) 1 0) (range_with_len 0 n) ≡ cond (is_some o) 1 0
rule_once None n within = sum_none (λ i. 0) (λ i. refl) (range_with_len 0 n)
rule_once (Some j) n within = sum_one j 0 n (omega arith) (let below : j < n = within j refl in omega arith)

rules-sum : (a : Answering) (r : Recording) (rules : List Target) (n : ℕ) → sum_by (rule_count a r rules n) (range_with_len 0 (length rules)) ≡ count_below (λ k. is_some (matching_rule_by a r rules k)) n
unfolding count_below
rules-sum a r rules zero = sum_none (rule_count a r rules 0) (λ i. refl) (range_with_len 0 (length rules))
rules-sum a r rules (suc n) =
    let all : List ℕ = range_with_len 0 (length rules) in
    let before : sum_by (rule_count a r rules n) all ≡ count_below (λ k. is_some (matching_rule_by a r rules k)) n = rules-sum a r rules n in
    let once : sum_by (λ i. cond (is_rule i (matching_rule_by a r rules n)) 1 0) all ≡ cond (is_some (matching_rule_by a r rules n)) 1 0 =
    rule_once (matching_rule_by a r rules n) (length rules) (λ j taken. matching_rule_within a r rules n j taken) in
    sum_both (rule_count a r rules (suc n)) (rule_count a r rules n) (λ i. cond (is_rule i (matching_rule_by a r rules n)) 1 0) (λ i. refl) all
    ∙ rw (before, once) refl

pub counts-sum : (a : Answering) (r : Recording) (rules : List Target) (n : ℕ) → sum (rule_counts a r rules n) ≡ count_below (λ k. is_some (matching_rule_by a r rules k)) n
counts-sum a r rules n = sum-map (rule_count a r rules n) (range_with_len 0 (length rules)) ∙ rules-sum a r rules n

-- a race is printed or taken, and nothing else is
taken_race : (rules : List Target) (names : NameTable) (line_site : ℕ) (event : Event) (a : Result Reply Refusal) → is_race a ≡ false → answer_matching_rule rules names line_site event a ≡ None
taken_race rules names line_site event a none = rw none refl

race_once : (race : Bool) (o : Option ℕ) → (race ≡ false → o ≡ None) → cond (race && is_none o) 1 0 + cond (is_some o) 1 0 ≡ cond {A = ℕ} race 1 0
race_once true None none = refl
race_once true (Some j) none = refl
race_once false None none = refl
race_once false (Some j) none = (let never : Some j ≡ None = none refl in cc)

not_taken_by : (a : Answering) (r : Recording) (rules : List Target) (k : ℕ) (o : Option Step) → is_race (a k) ≡ false → matching_rule_of a r rules k o ≡ None
not_taken_by a r rules k None none = refl
not_taken_by a r rules k (Some step) none = taken_race rules r.names (slice_index r.sites k) step.event (a k) none

not_taken : (a : Answering) (r : Recording) (rules : List Target) (k : ℕ) → is_race (a k) ≡ false → matching_rule_by a r rules k ≡ None
unfolding matching_rule_by
not_taken a r rules k none = not_taken_by a r rules k (slice_get r.steps k) none

pub races-sum : (a : Answering) (r : Recording) (rules : List Target) (n : ℕ)
    → count_below (is_printed_by a r rules) n + count_below (λ k. is_some (matching_rule_by a r rules k)) n ≡ count_below (λ k. is_race (a k)) n
unfolding count_below
races-sum a r rules zero = refl
races-sum a r rules (suc n) =
    let before : count_below (is_printed_by a r rules) n + count_below (λ k. is_some (matching_rule_by a r rules k)) n ≡ count_below (λ k. is_race (a k)) n = races-sum a r rules n in
    let here : cond (is_race (a n) && is_none (matching_rule_by a r rules n)) 1 0 + cond (is_some (matching_rule_by a r rules n)) 1 0 ≡ cond {A = ℕ} (is_race (a n)) 1 0 =
    race_once (is_race (a n)) (matching_rule_by a r rules n) (not_taken a r rules n) in
    omega arith

-- a counted access is an access, which has a reason
counted-event : (past : List Step) (t w : ℕ) (e : Event) → counts (mark past t e) w ≡ true → (kind : Kind) × (site : ℕ) × (e ≡ Access kind w site)
unfolding counts mark
counted-event past t w (Access kind word site) counted =
    elim (is_ignoring past t) as (λ b. counts (cond b Nothing (Counted t kind word (covering past t kind))) w ≡ true → (k : Kind) × (s : ℕ) × (Access kind word site ≡ Access k w s)) [
      | true ↦ λ e. absurd (cc)
      | false ↦ λ e. (kind, site, ap (λ (v : ℕ). Access kind v site) (eqb-true word w e))
    ] counted
counted-event past t w (Reuse range) counted = absurd (cc)
counted-event past t w (Show word) counted = absurd (cc)
counted-event past t w e counted = absurd (cc)

pub counted-step : (steps : List Step) (w i : ℕ) (o : Option Step) → counts (mark_of (accepted steps i) o) w ≡ true
    → (step : Step) × (kind : Kind) × (site : ℕ) × (o ≡ Some step) × (step.event ≡ Access kind w site)
unfolding counts
counted-step steps w i None counted = absurd (cc)
counted-step steps w i (Some step) counted =
    let access = counted-event (accepted steps i) step.thread w step.event counted in
    (step, access.0, access.1, refl, access.2)

label-there : (r : Recording) (w i : ℕ) (name : Label) → counts (reading_of r.steps i) w ≡ true → map (λ b. b.label) (reason_at r name i) ≡ name ∷ []
unfolding reading_of
label-there r w i name counted =
    let found = counted-step r.steps w i (slice_get r.steps i) counted in
    rw (found.3, found.4) refl

labels-there : (r : Recording) (w : ℕ) (pairs : List (ℕ × ℕ)) → All (λ pair. counts (reading_of r.steps pair.1) w ≡ true) pairs
    → map (λ b. b.label) (flat_map (λ pair. reason_at r (label.Uncovered pair.0) pair.1) pairs) ≡ map (λ pair. label.Uncovered pair.0) pairs
labels-there r w [] all = refl
labels-there r w (pair ∷ pairs) all =
    map-append (λ (b : Because). b.label) (reason_at r (label.Uncovered pair.0) pair.1) (flat_map (λ p. reason_at r (label.Uncovered p.0) p.1) pairs)
    ∙ rw (
      label-there r w pair.1 (label.Uncovered pair.0) (All-head (λ p. counts (reading_of r.steps p.1) w ≡ true) pair pairs all),
      labels-there r w pairs (All-tail (λ p. counts (reading_of r.steps p.1) w ≡ true) pair pairs all),
    ) refl

-- what the searches find is counted
pub least-counted : (r : Reading) (w n start i : ℕ) (test : ℕ → Bool) → least_below n (λ k. counted_from r w start k && test k) ≡ Some i → counts (r i) w ≡ true
least-counted r w n start i test is =
    let found = least_below-Some n (λ k. counted_from r w start k && test k) i is in
    (and_parts (nat_le start i) (counts (r i) w) (and_parts (counted_from r w start i) (test i) found.1).0).1

pub uncovered-counted : (r : Reading) (w k j : ℕ) (pairs : List (ℕ × ℕ)) → All (λ pair. first_uncovered r w (suc k) j pair.0 ≡ Some pair.1) pairs
    → All (λ pair. counts (r pair.1) w ≡ true) pairs
unfolding first_uncovered
uncovered-counted r w k j [] all = All-nil (λ pair. counts (r pair.1) w ≡ true)
uncovered-counted r w k j (pair ∷ pairs) all =
    let Found : ℕ × ℕ → Type 0 = λ p. first_uncovered r w (suc k) j p.0 ≡ Some p.1 in
    All-cons (λ p. counts (r p.1) w ≡ true) pair pairs (least-counted r w (suc k) (suc j) pair.1 (λ i. not (has (cover_of (r i)) pair.0)) (All-head Found pair pairs all))
    (uncovered-counted r w k j pairs (All-tail Found pair pairs all))

labels-explained : (r : Recording) (w k : ℕ) (e : Explanation) → ExplainsAccess (reading_of r.steps) w e k
    → map (λ b. b.label) (reasons_of r e) ≡ label.First ∷ label.Joined ∷ label.Write ∷ map (λ pair. label.Uncovered pair.0) e.uncovered
unfolding reasons_of first first_write
labels-explained r w k e is =
    let s : Reading = reading_of r.steps in
    let first_one = least_below-Some (suc k) (counted_from s w (era s w (suc k))) e.first is.is_first in
    let joining = join-counted s w (suc k) e.join is.is_join in
    let f : Because → Label = λ b. b.label in
    let a : List Because = reason_at r label.First e.first in
    let b : List Because = reason_at r label.Joined e.join in
    let c : List Because = reason_at r label.Write e.write in
    let rest : List Because = flat_map (λ pair. reason_at r (label.Uncovered pair.0) pair.1) e.uncovered in
    map-append f (a ++ b ++ c) rest
    ∙ rw (
      map-append f (a ++ b) c,
      map-append f a b,
      label-there r w e.first label.First (and_parts (nat_le (era s w (suc k)) e.first) (counts (s e.first) w) first_one.1).1,
      label-there r w e.join label.Joined (and_parts (nat_le (era s w (suc k)) e.join) (counts (s e.join) w) joining.1).1,
      label-there r w e.write label.Write (least-counted s w (suc k) e.join e.write (λ i. writes (s i)) is.is_write),
      labels-there r w e.uncovered (uncovered-counted s w k e.join e.uncovered is.uncovers),
    ) refl

pub labels-at : (r : Recording) (k : ℕ) (e : Explanation) → explanation_at r.steps k ≡ Some e
    → map (λ b. b.label) (reasons_at r k) ≡ label.First ∷ label.Joined ∷ label.Write ∷ map (λ pair. label.Uncovered pair.0) e.uncovered
labels-at r k e is =
    let explained = (explained-at r.steps k e is).0 in
    ap (λ o. map (λ (b : Because). b.label) (reasons_by r o)) is ∙ labels-explained r explained.0 k e explained.2

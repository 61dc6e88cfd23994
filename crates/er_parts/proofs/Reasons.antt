-- The accesses that explain a race are of its word, so they are the same among the part's steps as among all.
use Rattle.std.proofs.Common.{◌≡◌, ℕ, zero, suc, ◌+◌, ◌-◌, ◌<◌, ◌≤◌, ◌==◌, Bool, true, false, cond, not, ◌&&◌, nat_le, nat_lt, List, [], ◌∷◌, ◌++◌, All, filter, flat_map, map, option_map, slice_get, slice_index, Option, Some, None, Result, Ok, Err, refl, sym, ap, ◌∙◌, arith}
use Rattle.std.proofs.lemmas.Bool.{and_parts, and_right, le-leb, leb-false, leb-true, lt-leb}
use Rattle.std.proofs.lemmas.List.Elements.{All-head, All-tail}
use Rattle.er_event.specs.declared.refusals.Refusal.{Refusal}
use Rattle.er_event.specs.declared.steps.Event.{Event}
use Rattle.er_event.specs.declared.steps.Event.TheVariants.{Acquire, Release, Access, Reuse, IgnoreOn, IgnoreOff, Show, Level, Sync}
use Rattle.er_event.specs.declared.steps.Reply.{Reply}
use Rattle.er_event.specs.declared.steps.Reply.TheVariants.{Done, Quiet, Race, Ignored, State}
use Rattle.er_event.specs.declared.steps.Step.{Step}
use Rattle.er_event.specs.Lockset.{IsRising, has}
use Rattle.er_event.specs.Span.{page_of}
use Rattle.er_explain.specs.Explaining.{explanation_at, explanation_by, explanation_of, explanation_where, found}
use Rattle.er_explain.proofs.Explained.{listed-cover, race-explanation}
use Rattle.er_model.specs.Answers.{answer, reading_of}
use Rattle.er_model.specs.Explanations.{Explanation, ExplainsAccess, first_uncovered, first_write, locks_listed, word_in, word_of}
use Rattle.er_model.specs.Following.{locks_for, marked}
use Rattle.er_model.specs.Holdings.{Holdings, holdings_at}
use Rattle.er_model.specs.Search.{greatest_below, least_below, or_next}
use Rattle.er_model.specs.Words.{Counted, Mark, Nothing, counted_from, counts, cover_of, era, first, first_other_than, join, one_past, reuses, thread_of, writes}
use Rattle.er_model.proofs.AnswersLemmas.{reading-step}
use Rattle.er_model.proofs.Explanations.{rising-cover}
use Rattle.er_model.proofs.Meaning.{join-counted}
use Rattle.er_model.proofs.Search.{least_below-Some}
use Rattle.er_report.specs.Reasons.{reason_at, reasons_at, reasons_by, reasons_of, step_reason}
use Rattle.er_report.specs.declared.report.Because.{Because}
use Rattle.er_report.specs.declared.report.Label.{Label}
use Rattle.er_report.specs.declared.report.Label.TheVariants as label
use Rattle.er_rules.specs.Rules.{Target}
use Rattle.er_trace.specs.Trace.{Recording}
use Rattle.er_parts.specs.Parts.{PartView, has_page, kept, kept_beside, page_in, takes, takes_page}
use Rattle.er_parts.proofs.PartReport.{SameReasons, taken}
use Rattle.er_parts.proofs.Places.{beside-at, kept-at, page-apart, place, place-left, place-past, place-start, place-taken, range-apart, reading-past, same-answer, same-mark}

-- a step that is of no use touches no word of the part
counts-apart : (part : PartView) (h : Holdings) (t w : ℕ) (e : Event) → has_page part (page_of w) ≡ true → takes_page part (page_in e) ≡ false
    → counts (marked h t e) w ≡ false
unfolding counts
counts-apart part h t w (Acquire l m) ours left = refl
counts-apart part h t w (Release l m) ours left = refl
counts-apart part h t w (Access kind word site) ours left = by (nat_lt 0 h.depth)
  where
    by : (b : Bool) → counts (cond b Nothing (Counted t kind word (locks_for h kind))) w ≡ false
    by true = refl
    by false = page-apart part w word ours left
counts-apart part h t w (Reuse range) ours left = refl
counts-apart part h t w IgnoreOn ours left = refl
counts-apart part h t w IgnoreOff ours left = refl
counts-apart part h t w (Show word) ours left = refl
counts-apart part h t w (Level n) ours left = refl
counts-apart part h t w (Sync sync) ours left = refl

reuses-apart : (part : PartView) (h : Holdings) (t w : ℕ) (e : Event) → has_page part (page_of w) ≡ true → takes_page part (page_in e) ≡ false
    → reuses (marked h t e) w ≡ false
unfolding reuses
reuses-apart part h t w (Acquire l m) ours left = refl
reuses-apart part h t w (Release l m) ours left = refl
reuses-apart part h t w (Access kind word site) ours left = by (nat_lt 0 h.depth)
  where
    by : (b : Bool) → reuses (cond b Nothing (Counted t kind word (locks_for h kind))) w ≡ false
    by true = refl
    by false = refl
reuses-apart part h t w (Reuse range) ours left = range-apart part w range ours left
reuses-apart part h t w IgnoreOn ours left = refl
reuses-apart part h t w IgnoreOff ours left = refl
reuses-apart part h t w (Show word) ours left = refl
reuses-apart part h t w (Level n) ours left = refl
reuses-apart part h t w (Sync sync) ours left = refl

-- a pair with its position moved, and a lock with what was found for it
abbrev moved_pair : (ℕ → ℕ) → ℕ × ℕ → ℕ × ℕ
moved_pair place_of pair = (pair.0, place_of pair.1)

abbrev found_pair : (ℕ → Option ℕ) → ℕ → ℕ × ℕ
found_pair f l = (l, found (f l))

abbrev pair_reason : Recording → ℕ × ℕ → List Because
pair_reason r pair = reason_at r (label.Uncovered pair.0) pair.1

-- where a search ends that passes over the steps that are of no use
module _ (part : PartView) (steps : List Step) where
  -- the step at this position is of use
  IsUseful : ℕ → Type 0
  IsUseful k = (s : Step) × (slice_get steps k ≡ Some s) × (takes part s ≡ true)

  -- the second test passes only steps that are of use, and these as the first test does at their places
  record IsTheSame (f g : ℕ → Bool) : Type 0 where
    useful : (k : ℕ) → IsUseful k → f (place part steps k) ≡ g k
    never : (k : ℕ) (o : Option Step) → slice_get steps k ≡ o → taken part o ≡ false → g k ≡ false

  or_next-place : (o : Option ℕ) (b : Bool) (n : ℕ) → or_next (option_map (place part steps) o) b (place part steps n) ≡ option_map (place part steps) (or_next o b n)
  or_next-place None true n = refl
  or_next-place None false n = refl
  or_next-place (Some k) b n = refl

  or_next-same : (o : Option ℕ) (n : ℕ) → or_next o false n ≡ o
  or_next-same None n = refl
  or_next-same (Some k) n = refl

  least-by : (f g : ℕ → Bool) → IsTheSame f g → (n : ℕ) (s : Step) (b : Bool) → slice_get steps n ≡ Some s → takes part s ≡ b
      → least_below (place part steps n) f ≡ option_map (place part steps) (least_below n g)
      → least_below (place part steps (suc n)) f ≡ option_map (place part steps) (or_next (least_below n g) (g n) n)
  unfolding least_below IsUseful taken
  least-by f g same n s true is of_use before =
      ap (λ n. least_below n f) (place-taken part steps n s is of_use)
      ∙ ap (λ o. or_next o (f (place part steps n)) (place part steps n)) before
      ∙ ap (λ b. or_next (option_map (place part steps) (least_below n g)) b (place part steps n)) (same.useful n (s, is, of_use))
      ∙ or_next-place (least_below n g) (g n) n
  least-by f g same n s false is of_use before =
      ap (λ n. least_below n f) (place-left part steps n s is of_use)
      ∙ before
      ∙ sym (ap (λ b. option_map (place part steps) (or_next (least_below n g) b n)) (same.never n (Some s) is of_use)
      ∙ ap (option_map (place part steps)) (or_next-same (least_below n g) n))

  least-at : (f g : ℕ → Bool) → IsTheSame f g → (n : ℕ) (o : Option Step) → slice_get steps n ≡ o
      → least_below (place part steps n) f ≡ option_map (place part steps) (least_below n g)
      → least_below (place part steps (suc n)) f ≡ option_map (place part steps) (or_next (least_below n g) (g n) n)
  unfolding taken
  least-at f g same n None is before =
      ap (λ n. least_below n f) (place-past part steps n is)
      ∙ before
      ∙ sym (ap (λ b. option_map (place part steps) (or_next (least_below n g) b n)) (same.never n None is refl)
      ∙ ap (option_map (place part steps)) (or_next-same (least_below n g) n))
  least-at f g same n (Some s) is before = least-by f g same n s (takes part s) is refl before

  least-place : (f g : ℕ → Bool) → IsTheSame f g → (n : ℕ) → least_below (place part steps n) f ≡ option_map (place part steps) (least_below n g)
  unfolding least_below
  least-place f g same zero = ap (λ n. least_below n f) (place-start part steps)
  least-place f g same (suc n) = least-at f g same n (slice_get steps n) refl (least-place f g same n)

  cond-place : (b : Bool) (n : ℕ) (o : Option ℕ) → cond b (Some (place part steps n)) (option_map (place part steps) o) ≡ option_map (place part steps) (cond b (Some n) o)
  cond-place true n o = refl
  cond-place false n o = refl

  greatest-by : (f g : ℕ → Bool) → IsTheSame f g → (n : ℕ) (s : Step) (b : Bool) → slice_get steps n ≡ Some s → takes part s ≡ b
      → greatest_below (place part steps n) f ≡ option_map (place part steps) (greatest_below n g)
      → greatest_below (place part steps (suc n)) f ≡ option_map (place part steps) (cond (g n) (Some n) (greatest_below n g))
  unfolding greatest_below IsUseful taken
  greatest-by f g same n s true is of_use before =
      ap (λ n. greatest_below n f) (place-taken part steps n s is of_use)
      ∙ ap (λ o. cond (f (place part steps n)) (Some (place part steps n)) o) before
      ∙ ap (λ b. cond b (Some (place part steps n)) (option_map (place part steps) (greatest_below n g))) (same.useful n (s, is, of_use))
      ∙ cond-place (g n) n (greatest_below n g)
  greatest-by f g same n s false is of_use before =
      ap (λ n. greatest_below n f) (place-left part steps n s is of_use)
      ∙ before
      ∙ sym (ap (λ b. option_map (place part steps) (cond b (Some n) (greatest_below n g))) (same.never n (Some s) is of_use))

  greatest-at : (f g : ℕ → Bool) → IsTheSame f g → (n : ℕ) (o : Option Step) → slice_get steps n ≡ o
      → greatest_below (place part steps n) f ≡ option_map (place part steps) (greatest_below n g)
      → greatest_below (place part steps (suc n)) f ≡ option_map (place part steps) (cond (g n) (Some n) (greatest_below n g))
  unfolding taken
  greatest-at f g same n None is before =
      ap (λ n. greatest_below n f) (place-past part steps n is)
      ∙ before
      ∙ sym (ap (λ b. option_map (place part steps) (cond b (Some n) (greatest_below n g))) (same.never n None is refl))
  greatest-at f g same n (Some s) is before = greatest-by f g same n s (takes part s) is refl before

  greatest-place : (f g : ℕ → Bool) → IsTheSame f g → (n : ℕ) → greatest_below (place part steps n) f ≡ option_map (place part steps) (greatest_below n g)
  unfolding greatest_below
  greatest-place f g same zero = ap (λ n. greatest_below n f) (place-start part steps)
  greatest-place f g same (suc n) = greatest-at f g same n (slice_get steps n) refl (greatest-place f g same n)

  -- places keep the order
  place-rises : (j n : ℕ) → place part steps j ≤ place part steps (j + n)
  place-rises j zero = let same : j + 0 ≡ j = omega arith in rw same (omega arith)
  place-rises j (suc n) = by (slice_get steps (j + n)) refl (place-rises j n)
    where
      step-by : (s : Step) (b : Bool) → slice_get steps (j + n) ≡ Some s → takes part s ≡ b → place part steps j ≤ place part steps (j + n)
          → place part steps j ≤ place part steps (suc (j + n))
      step-by s true is of_use before = omega (arith, place-taken part steps (j + n) s is of_use, before)
      step-by s false is of_use before = omega (arith, place-left part steps (j + n) s is of_use, before)

      by : (o : Option Step) → slice_get steps (j + n) ≡ o → place part steps j ≤ place part steps (j + n) → place part steps j ≤ place part steps (j + suc n)
      by None is before = let same : j + suc n ≡ suc (j + n) = omega arith in rw same (omega (arith, place-past part steps (j + n) is, before))
      by (Some s) is before = let same : j + suc n ≡ suc (j + n) = omega arith in rw same (step-by s (takes part s) is refl before)

  place-mono : (j k : ℕ) → j ≤ k → place part steps j ≤ place part steps k
  place-mono j k below =
      let same : j + (k - j) ≡ k = omega (arith, below) in
      rw same at (place-rises j (k - j))

  start-same : (start k : ℕ) → IsUseful k → nat_le (place part steps start) (place part steps k) ≡ nat_le start k
  unfolding IsUseful
  start-same start k of_use = by (nat_le start k) refl
    where
      by : (b : Bool) → nat_le start k ≡ b → nat_le (place part steps start) (place part steps k) ≡ b
      by true is = le-leb (place part steps start) (place part steps k) (place-mono start k (leb-true start k is))
      by false is =
          let above : k < start = leb-false start k is in
          let next : place part steps (suc k) ≤ place part steps start = place-mono (suc k) start (omega (arith, above)) in
          lt-leb (place part steps start) (place part steps k) (omega (arith, place-taken part steps k of_use.0 of_use.1 of_use.2, next))

  -- what the searches of a word of the part find
  module _ (w : ℕ) (ours : has_page part (page_of w) ≡ true) where
    mark-same : (k : ℕ) → IsUseful k → reading_of (filter (takes part) steps) (place part steps k) ≡ reading_of steps k
    unfolding IsUseful
    mark-same k of_use = same-mark part steps k of_use.0 of_use.1 of_use.2

    not-counted : (k : ℕ) (o : Option Step) → slice_get steps k ≡ o → taken part o ≡ false → counts (reading_of steps k) w ≡ false
    unfolding counts taken takes
    not-counted k None is left = ap (λ mark. counts mark w) (reading-past steps k is)
    not-counted k (Some s) is left =
        ap (λ mark. counts mark w) (reading-step steps k s is) ∙ counts-apart part (holdings_at steps s.thread k) s.thread w s.event ours left

    not-reused : (k : ℕ) (o : Option Step) → slice_get steps k ≡ o → taken part o ≡ false → reuses (reading_of steps k) w ≡ false
    unfolding reuses taken takes
    not-reused k None is left = ap (λ mark. reuses mark w) (reading-past steps k is)
    not-reused k (Some s) is left =
        ap (λ mark. reuses mark w) (reading-step steps k s is) ∙ reuses-apart part (holdings_at steps s.thread k) s.thread w s.event ours left

    useful-by : (test : ℕ → Bool) → ((k : ℕ) (o : Option Step) → slice_get steps k ≡ o → taken part o ≡ false → test k ≡ false)
        → (k : ℕ) (o : Option Step) (b : Bool) → slice_get steps k ≡ o → taken part o ≡ b → test k ≡ true → IsUseful k
    unfolding IsUseful taken
    useful-by test never k None true is of_use passes = cc
    useful-by test never k (Some s) true is of_use passes = (s, is, of_use)
    useful-by test never k o false is left passes = let none = never k o is left in let impossible : true ≡ false = sym passes ∙ none in cc

    counted-useful : (k : ℕ) → counts (reading_of steps k) w ≡ true → IsUseful k
    counted-useful k counted =
        useful-by (λ k. counts (reading_of steps k) w) not-counted k (slice_get steps k) (taken part (slice_get steps k)) refl refl counted

    reused-useful : (k : ℕ) → reuses (reading_of steps k) w ≡ true → IsUseful k
    reused-useful k reused =
        useful-by (λ k. reuses (reading_of steps k) w) not-reused k (slice_get steps k) (taken part (slice_get steps k)) refl refl reused

    greatest-passes : (n : ℕ) (test : ℕ → Bool) (k : ℕ) → greatest_below n test ≡ Some k → test k ≡ true
    unfolding greatest_below
    greatest-passes zero test k is = cc
    greatest-passes (suc n) test k is = by (test n) refl is (λ is. greatest-passes n test k is)
      where
        by : (b : Bool) → test n ≡ b → cond b (Some n) (greatest_below n test) ≡ Some k → (greatest_below n test ≡ Some k → test k ≡ true) → test k ≡ true
        by true passes is rest = let same : n ≡ k = cc in ap test (sym same) ∙ passes
        by false passes is rest = rest is

    past-place : (o : Option ℕ) → ((k : ℕ) → o ≡ Some k → IsUseful k) → one_past (option_map (place part steps) o) ≡ place part steps (one_past o)
    unfolding IsUseful
    past-place None each = sym (place-start part steps)
    past-place (Some k) each = let of_use = each k refl in sym (place-taken part steps k of_use.0 of_use.1 of_use.2)

    era-place : (n : ℕ) → era (reading_of (filter (takes part) steps)) w (place part steps n) ≡ place part steps (era (reading_of steps) w n)
    unfolding era
    era-place n =
        ap one_past (greatest-place (λ k. reuses (reading_of (filter (takes part) steps) k) w) (λ k. reuses (reading_of steps k) w)
        (record { useful = λ k of_use. ap (λ mark. reuses mark w) (mark-same k of_use); never = not-reused }) n)
        ∙ past-place (greatest_below n (λ k. reuses (reading_of steps k) w))
        (λ k is. reused-useful k (greatest-passes n (λ k. reuses (reading_of steps k) w) k is))

    -- a counted access from a start on that passes a test of its mark
    counted-same : (start k : ℕ) → IsUseful k
        → counted_from (reading_of (filter (takes part) steps)) w (place part steps start) (place part steps k) ≡ counted_from (reading_of steps) w start k
    counted-same start k of_use =
        ap (λ b. b && counts (reading_of (filter (takes part) steps) (place part steps k)) w) (start-same start k of_use)
        ∙ ap (λ mark. nat_le start k && counts mark w) (mark-same k of_use)

    counted-never : (start k : ℕ) (o : Option Step) → slice_get steps k ≡ o → taken part o ≡ false → counted_from (reading_of steps) w start k ≡ false
    counted-never start k o is left = and_right (nat_le start k) (counts (reading_of steps k) w) (not-counted k o is left)

    search-same : (test : Mark → Bool) (start : ℕ)
        → IsTheSame (λ k. counted_from (reading_of (filter (takes part) steps)) w (place part steps start) k && test (reading_of (filter (takes part) steps) k))
        (λ k. counted_from (reading_of steps) w start k && test (reading_of steps k))
    search-same test start =
        record {
          useful = λ k of_use.
              ap (λ b. b && test (reading_of (filter (takes part) steps) (place part steps k))) (counted-same start k of_use)
              ∙ ap (λ mark. counted_from (reading_of steps) w start k && test mark) (mark-same k of_use);
          never = λ k o is left. ap (λ b. b && test (reading_of steps k)) (counted-never start k o is left);
        }

    first-place : (n : ℕ) → first (reading_of (filter (takes part) steps)) w (place part steps n) ≡ option_map (place part steps) (first (reading_of steps) w n)
    unfolding first
    first-place n =
        ap (λ start. least_below (place part steps n) (counted_from (reading_of (filter (takes part) steps)) w start)) (era-place n)
        ∙ least-place (counted_from (reading_of (filter (takes part) steps)) w (place part steps (era (reading_of steps) w n)))
        (counted_from (reading_of steps) w (era (reading_of steps) w n))
        (record { useful = λ k of_use. counted-same (era (reading_of steps) w n) k of_use; never = λ k o is left. counted-never (era (reading_of steps) w n) k o is left }) n

    found-useful : (test : ℕ → Bool) (start n j : ℕ) → least_below n (λ k. counted_from (reading_of steps) w start k && test k) ≡ Some j → IsUseful j
    found-useful test start n j is =
        let passes = least_below-Some n (λ k. counted_from (reading_of steps) w start k && test k) j is in
        let counted = and_parts (counted_from (reading_of steps) w start j) (test j) passes.1 in
        counted-useful j (and_parts (nat_le start j) (counts (reading_of steps j) w) counted.0).1

    first-useful : (n f : ℕ) → first (reading_of steps) w n ≡ Some f → IsUseful f
    unfolding first
    first-useful n f is =
        let passes = least_below-Some n (counted_from (reading_of steps) w (era (reading_of steps) w n)) f is in
        counted-useful f (and_parts (nat_le (era (reading_of steps) w n) f) (counts (reading_of steps f) w) passes.1).1

    join-by : (n : ℕ) (o : Option ℕ) → first (reading_of steps) w n ≡ o
        → first_other_than (reading_of (filter (takes part) steps)) w (place part steps n) (option_map (place part steps) o)
        ≡ option_map (place part steps) (first_other_than (reading_of steps) w n o)
    join-by n None is = refl
    join-by n (Some f) is =
        ap (λ start. least_below (place part steps n) (λ k. counted_from (reading_of (filter (takes part) steps)) w start k
        && not (thread_of (reading_of (filter (takes part) steps) (place part steps f)) == thread_of (reading_of (filter (takes part) steps) k)))) (era-place n)
        ∙ ap (λ mark. least_below (place part steps n) (λ k. counted_from (reading_of (filter (takes part) steps)) w (place part steps (era (reading_of steps) w n)) k
        && not (thread_of mark == thread_of (reading_of (filter (takes part) steps) k)))) (mark-same f (first-useful n f is))
        ∙ least-place
        (λ k. counted_from (reading_of (filter (takes part) steps)) w (place part steps (era (reading_of steps) w n)) k
        && not (thread_of (reading_of steps f) == thread_of (reading_of (filter (takes part) steps) k)))
        (λ k. counted_from (reading_of steps) w (era (reading_of steps) w n) k && not (thread_of (reading_of steps f) == thread_of (reading_of steps k)))
        (search-same (λ mark. not (thread_of (reading_of steps f) == thread_of mark)) (era (reading_of steps) w n)) n

    join-place : (n : ℕ) → join (reading_of (filter (takes part) steps)) w (place part steps n) ≡ option_map (place part steps) (join (reading_of steps) w n)
    unfolding join
    join-place n =
        ap (first_other_than (reading_of (filter (takes part) steps)) w (place part steps n)) (first-place n)
        ∙ join-by n (first (reading_of steps) w n) refl

    join-useful : (n j : ℕ) → join (reading_of steps) w n ≡ Some j → IsUseful j
    join-useful n j is = let here = join-counted (reading_of steps) w n j is in
        counted-useful j (and_parts (nat_le (era (reading_of steps) w n) j) (counts (reading_of steps j) w) here.1).1

    write-place : (n j : ℕ) → first_write (reading_of (filter (takes part) steps)) w (place part steps n) (place part steps j)
        ≡ option_map (place part steps) (first_write (reading_of steps) w n j)
    unfolding first_write
    write-place n j =
        least-place
        (λ k. counted_from (reading_of (filter (takes part) steps)) w (place part steps j) k && writes (reading_of (filter (takes part) steps) k))
        (λ k. counted_from (reading_of steps) w j k && writes (reading_of steps k)) (search-same writes j) n

    write-useful : (n j i : ℕ) → first_write (reading_of steps) w n j ≡ Some i → IsUseful i
    unfolding first_write
    write-useful n j i is = found-useful (λ k. writes (reading_of steps k)) j n i is

    uncovered-place : (n j l : ℕ) → IsUseful j → first_uncovered (reading_of (filter (takes part) steps)) w (place part steps n) (place part steps j) l
        ≡ option_map (place part steps) (first_uncovered (reading_of steps) w n j l)
    unfolding first_uncovered IsUseful
    uncovered-place n j l of_use =
        ap (λ start. least_below (place part steps n) (λ k. counted_from (reading_of (filter (takes part) steps)) w start k
        && not (has (cover_of (reading_of (filter (takes part) steps) k)) l))) (sym (place-taken part steps j of_use.0 of_use.1 of_use.2))
        ∙ least-place
        (λ k. counted_from (reading_of (filter (takes part) steps)) w (place part steps (suc j)) k
        && not (has (cover_of (reading_of (filter (takes part) steps) k)) l))
        (λ k. counted_from (reading_of steps) w (suc j) k && not (has (cover_of (reading_of steps k)) l))
        (search-same (λ mark. not (has (cover_of mark) l)) (suc j)) n

    uncovered-useful : (n j l i : ℕ) → first_uncovered (reading_of steps) w n j l ≡ Some i → IsUseful i
    unfolding first_uncovered
    uncovered-useful n j l i is = found-useful (λ k. not (has (cover_of (reading_of steps k)) l)) (suc j) n i is

  -- an explanation by the places of its accesses among the part's steps
  pub moved_to : Explanation → Explanation
  moved_to e =
      record {
        first = place part steps e.first;
        join = place part steps e.join;
        write = place part steps e.write;
        uncovered = map (moved_pair (place part steps)) e.uncovered;
      }

-- pairs that are each what a search found, by the places that the other search finds
pairs-placed : (place_of : ℕ → ℕ) (f g : ℕ → Option ℕ) (xs : List (ℕ × ℕ)) → ((l : ℕ) → f l ≡ option_map place_of (g l)) → All (λ x. g x.0 ≡ Some x.1) xs
    → map (found_pair f) (locks_listed xs) ≡ map (moved_pair place_of) xs
pairs-placed place_of f g [] same all = refl
pairs-placed place_of f g (x ∷ xs) same all =
    let here : found (f x.0) ≡ place_of x.1 = ap found (same x.0 ∙ ap (option_map place_of) (All-head (λ y. g y.0 ≡ Some y.1) x xs all)) in
    let rest : map (found_pair f) (locks_listed xs) ≡ map (moved_pair place_of) xs =
    pairs-placed place_of f g xs same (All-tail (λ y. g y.0 ≡ Some y.1) x xs all) in
    λ i. (x.0, here i) ∷ rest i

module _ (part : PartView) (steps : List Step) where
  explanation-by : (w k : ℕ) (e : Explanation) → has_page part (page_of w) ≡ true → IsUseful part steps k → ExplainsAccess (reading_of steps) w e k
      → IsRising (locks_listed e.uncovered) → explanation_of (reading_of (filter (takes part) steps)) w (place part steps k) ≡ moved_to part steps e
  unfolding explanation_of explanation_by IsUseful moved_to
  explanation-by w k e ours of_use is up =
      let next : place part steps (suc k) ≡ suc (place part steps k) = place-taken part steps k of_use.0 of_use.1 of_use.2 in
      let same_first : found (first (reading_of (filter (takes part) steps)) w (place part steps (suc k))) ≡ place part steps e.first =
      ap found (first-place part steps w ours (suc k) ∙ ap (option_map (place part steps)) is.is_first) in
      let same_join : found (join (reading_of (filter (takes part) steps)) w (place part steps (suc k))) ≡ place part steps e.join =
      ap found (join-place part steps w ours (suc k) ∙ ap (option_map (place part steps)) is.is_join) in
      let same_write : found (first_write (reading_of (filter (takes part) steps)) w (place part steps (suc k)) (place part steps e.join)) ≡ place part steps e.write =
      ap found (write-place part steps w ours (suc k) e.join ∙ ap (option_map (place part steps)) is.is_write) in
      let joined = join-useful part steps w ours (suc k) e.join is.is_join in
      let covered : cover_of (reading_of (filter (takes part) steps) (place part steps e.join)) ≡ locks_listed e.uncovered =
      ap cover_of (mark-same part steps w ours e.join joined) ∙ sym (listed-cover (reading_of steps) w k e (rising-cover steps) is up) in
      let pairs : map (found_pair (first_uncovered (reading_of (filter (takes part) steps)) w (place part steps (suc k)) (place part steps e.join)))
      (cover_of (reading_of (filter (takes part) steps) (place part steps e.join))) ≡ map (moved_pair (place part steps)) e.uncovered =
      ap (map (found_pair (first_uncovered (reading_of (filter (takes part) steps)) w (place part steps (suc k)) (place part steps e.join)))) covered
      ∙ pairs-placed (place part steps) (first_uncovered (reading_of (filter (takes part) steps)) w (place part steps (suc k)) (place part steps e.join))
      (first_uncovered (reading_of steps) w (suc k) e.join) e.uncovered (λ l. uncovered-place part steps w ours (suc k) e.join l joined) is.uncovers in
      ap (λ n. explanation_by (reading_of (filter (takes part) steps)) w n (found (join (reading_of (filter (takes part) steps)) w n))) (sym next)
      ∙ ap (explanation_by (reading_of (filter (takes part) steps)) w (place part steps (suc k))) same_join
      ∙ (λ i. record { first = same_first i; join = place part steps e.join; write = same_write i; uncovered = pairs i })

-- a race's word is one of the part's
word-ours : (part : PartView) (e : Event) (w : ℕ) → takes_page part (page_in e) ≡ true → word_in e ≡ Some w → has_page part (page_of w) ≡ true
word-ours part (Access kind word site) w ours is = let same : word ≡ w = cc in ap (λ w. has_page part (page_of w)) (sym same) ∙ ours
word-ours part (Acquire l m) w ours is = cc
word-ours part (Release l m) w ours is = cc
word-ours part (Reuse range) w ours is = cc
word-ours part IgnoreOn w ours is = cc
word-ours part IgnoreOff w ours is = cc
word-ours part (Show word) w ours is = cc
word-ours part (Level n) w ours is = cc
word-ours part (Sync sync) w ours is = cc

module _ (part : PartView) (r : Recording) where
  reason-same : (name : Label) (i : ℕ) → IsUseful part r.steps i → reason_at (kept (Some part) r) name (place part r.steps i) ≡ reason_at r name i
  unfolding IsUseful
  reason-same name i of_use =
      ap (step_reason name (slice_index (kept_beside part r.steps r.lines) (place part r.steps i))) (kept-at part r.steps i of_use.0 of_use.1 of_use.2)
      ∙ ap (λ number. step_reason name number (Some of_use.0)) (beside-at part r.steps r.lines i of_use.0 of_use.1 of_use.2)
      ∙ ap (step_reason name (slice_index r.lines i)) (sym of_use.1)

  pairs-same : (g : ℕ → Option ℕ) (xs : List (ℕ × ℕ)) → ((l i : ℕ) → g l ≡ Some i → IsUseful part r.steps i) → All (λ x. g x.0 ≡ Some x.1) xs
      → flat_map (pair_reason (kept (Some part) r)) (map (moved_pair (place part r.steps)) xs)
      ≡ flat_map (pair_reason r) xs
  pairs-same g [] each all = refl
  pairs-same g (x ∷ xs) each all =
      ap (λ first. first ++ flat_map (pair_reason (kept (Some part) r)) (map (moved_pair (place part r.steps)) xs))
      (reason-same (label.Uncovered x.0) x.1 (each x.0 x.1 (All-head (λ y. g y.0 ≡ Some y.1) x xs all)))
      ∙ ap (λ rest. reason_at r (label.Uncovered x.0) x.1 ++ rest) (pairs-same g xs each (All-tail (λ y. g y.0 ≡ Some y.1) x xs all))

  reasons-moved : (w k : ℕ) (e : Explanation) → has_page part (page_of w) ≡ true → ExplainsAccess (reading_of r.steps) w e k
      → reasons_of (kept (Some part) r) (moved_to part r.steps e) ≡ reasons_of r e
  unfolding reasons_of moved_to
  reasons-moved w k e ours is =
      let pairs = pairs-same (first_uncovered (reading_of r.steps) w (suc k) e.join) e.uncovered
      (λ l i found. uncovered-useful part r.steps w ours (suc k) e.join l i found) is.uncovers in
      ap (λ first. first ++ reason_at (kept (Some part) r) label.Joined (place part r.steps e.join)
      ++ reason_at (kept (Some part) r) label.Write (place part r.steps e.write)
      ++ flat_map (pair_reason (kept (Some part) r)) (map (moved_pair (place part r.steps)) e.uncovered))
      (reason-same label.First e.first (first-useful part r.steps w ours (suc k) e.first is.is_first))
      ∙ ap (λ joined. reason_at r label.First e.first ++ joined ++ reason_at (kept (Some part) r) label.Write (place part r.steps e.write)
      ++ flat_map (pair_reason (kept (Some part) r)) (map (moved_pair (place part r.steps)) e.uncovered))
      (reason-same label.Joined e.join (join-useful part r.steps w ours (suc k) e.join is.is_join))
      ∙ ap (λ write. reason_at r label.First e.first ++ reason_at r label.Joined e.join ++ write
      ++ flat_map (pair_reason (kept (Some part) r)) (map (moved_pair (place part r.steps)) e.uncovered))
      (reason-same label.Write e.write (write-useful part r.steps w ours (suc k) e.join e.write is.is_write))
      ∙ ap (λ uncovered. reason_at r label.First e.first ++ reason_at r label.Joined e.join ++ reason_at r label.Write e.write ++ uncovered) pairs

  race-reasons : (k : ℕ) (s : Step) → slice_get r.steps k ≡ Some s → takes part s ≡ true → answer r.steps k ≡ Ok Race
      → reasons_at (kept (Some part) r) (place part r.steps k) ≡ reasons_at r k
  unfolding explanation_at takes IsUseful
  race-reasons k s is of_use race =
      let known = race-explanation r.steps k race in
      let w = known.2.0 in
      let word : word_in s.event ≡ Some w = ap word_of (sym is) ∙ known.2.1 in
      let ours = word-ours part s.event w of_use word in
      ap (λ o. reasons_by (kept (Some part) r) (explanation_where (filter (takes part) r.steps) (place part r.steps k) o)) (same-answer part r.steps k s is of_use ∙ race)
      ∙ ap (λ o. reasons_of (kept (Some part) r) (explanation_of (reading_of (filter (takes part) r.steps)) (found (word_of o)) (place part r.steps k)))
      (kept-at part r.steps k s is of_use)
      ∙ ap (λ o. reasons_of (kept (Some part) r) (explanation_of (reading_of (filter (takes part) r.steps)) (found o) (place part r.steps k))) word
      ∙ ap (reasons_of (kept (Some part) r)) (explanation-by part r.steps w k known.0 ours (s, is, of_use) known.2.2 known.3)
      ∙ reasons-moved w k known.0 ours known.2.2
      ∙ ap (reasons_by r) (sym known.1)

  -- what is no race has no reasons
  unreasoned : (k : ℕ) (s : Step) (a : Result Reply Refusal) → slice_get r.steps k ≡ Some s → takes part s ≡ true → answer r.steps k ≡ a
      → ((steps : List Step) (n : ℕ) → explanation_where steps n a ≡ None) → reasons_at (kept (Some part) r) (place part r.steps k) ≡ reasons_at r k
  unfolding explanation_at
  unreasoned k s a is of_use known none =
      ap (λ a. reasons_by (kept (Some part) r) (explanation_where (filter (takes part) r.steps) (place part r.steps k) a)) (same-answer part r.steps k s is of_use ∙ known)
      ∙ ap (reasons_by (kept (Some part) r)) (none (filter (takes part) r.steps) (place part r.steps k))
      ∙ ap (reasons_by r) (sym (ap (explanation_where r.steps k) known ∙ none r.steps k))

  reasons-by : (k : ℕ) (s : Step) (a : Result Reply Refusal) → slice_get r.steps k ≡ Some s → takes part s ≡ true → answer r.steps k ≡ a
      → reasons_at (kept (Some part) r) (place part r.steps k) ≡ reasons_at r k
  reasons-by k s (Ok Race) is of_use known = race-reasons k s is of_use known
  reasons-by k s (Ok Done) is of_use known = unreasoned k s (Ok Done) is of_use known (λ steps n. refl)
  reasons-by k s (Ok Quiet) is of_use known = unreasoned k s (Ok Quiet) is of_use known (λ steps n. refl)
  reasons-by k s (Ok Ignored) is of_use known = unreasoned k s (Ok Ignored) is of_use known (λ steps n. refl)
  reasons-by k s (Ok (State state)) is of_use known = unreasoned k s (Ok (State state)) is of_use known (λ steps n. refl)
  reasons-by k s (Err why) is of_use known = unreasoned k s (Err why) is of_use known (λ steps n. refl)

-- each reason is the same
pub same-reasons : (part : PartView) (r : Recording) (rules : List Target) (explain : Bool) → SameReasons part r rules explain
unfolding SameReasons
same-reasons part r rules true = λ k s is of_use. reasons-by part r k s (answer r.steps k) is of_use refl
same-reasons part r rules false = λ k s is of_use. refl

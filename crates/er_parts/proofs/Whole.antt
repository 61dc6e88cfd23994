-- The reports of all parts make the report of the whole recording: each position is of one part, and the lines come in the order of their positions.
use Rattle.std.proofs.Common.{append-nil, zero-add, ◌≡◌, ℕ, zero, suc, ◌+◌, ◌%◌, ◌<◌, ◌≤◌, ◌⊎◌, ◌==◌, Bool, true, false, cond, ◌&&◌, ◌||◌, nat_lt, nat_le, List, [], ◌∷◌, ◌++◌, count_by, flat_map, is_some, length, map, slice_get, slice_index, sum, sum_by, Option, Some, None, Result, Ok, Err, refl, sym, ap, ◌∙◌, arith, mod-lt, ⊎_elim}
use Rattle.std.specs.List.{range_with_len}
use Rattle.std.proofs.lemmas.Bool.{and_from, and_left, eq-eqb, eqb-false, eqb-true, le-leb, le-ltb, lt-leb, lt-ltb, ne_eqb, or_from, or_left, or_right, and_right}
use Rattle.std.proofs.lemmas.List.Folds.{flat_map-map}
use Rattle.std.proofs.lemmas.List.Sums.{sum_by-cons}
use Rattle.er_event.specs.declared.refusals.Refusal.{Refusal}
use Rattle.er_event.specs.declared.steps.Event.{Event}
use Rattle.er_event.specs.declared.steps.Event.TheVariants.{Acquire, Release, Access, Reuse, IgnoreOn, IgnoreOff, Show, Level, Sync}
use Rattle.er_event.specs.declared.steps.Reply.{Reply}
use Rattle.er_event.specs.declared.steps.Reply.TheVariants.{Done, Quiet, Race, Ignored, State}
use Rattle.er_event.specs.declared.steps.Step.{Step}
use Rattle.er_model.specs.Answers.{answer, reply}
use Rattle.er_model.specs.Threads.{accepted, held}
use Rattle.er_report.specs.Lines.{LineView}
use Rattle.er_report.specs.Report.{Summary, answer_line, count_below, is_printed, is_refused, is_rule, line_at, lines_by, matching_rule_at, reasons_if, reply_line, report_of, rule_count}
use Rattle.er_report.specs.declared.report.Because.{Because}
use Rattle.er_rules.specs.Rules.{Target}
use Rattle.er_trace.specs.Trace.{Recording}
use Rattle.er_parts.specs.Given.{part_report}
use Rattle.er_parts.specs.Merged.{HasEachPart, in_order, line_number, line_word, lost_in, may_precede, merged, rules_in}
use Rattle.er_parts.specs.Ordered.{IsOrdered, event_word}
use Rattle.er_parts.specs.Parts.{page_in, part_at}
use Rattle.er_parts.proofs.Merging.{Behind, behind-append, dealt-count, dealt-order, flat-none, flat-same, once-in, sum-same, undealt}
use Rattle.er_parts.proofs.PartReport.{SameReasons, belongs, count-all, item, line-is, owned, owns, paged-line-is, part-lines, part-lost, part-races, part-refused, part-rule, part-rule_counts, part-steps, part-suppressed, pieces}

-- each step is of just one part
eq-swap : (a b : ℕ) → (a == b) ≡ (b == a)
eq-swap a b = by (a == b) refl
  where
    by : (c : Bool) → (a == b) ≡ c → c ≡ (b == a)
    by true is = sym (eq-eqb b a (sym (eqb-true a b is)))
    by false is = sym (ne_eqb b a (λ same. eqb-false a b is (sym same)))

owned-once : (n : ℕ) (parts : List ℕ) (o : Option ℕ) → HasEachPart n parts → 1 ≤ n → count_by (λ i. owns (part_at n i) o) parts ≡ 1
unfolding owns
owned-once n parts None each some =
    sum-same (λ i. cond (i == 1) 1 0) (λ i. cond (1 == i) 1 0) parts (λ i. ap (λ b. cond b 1 0) (eq-swap i 1)) ∙ each 1 (omega arith) some
owned-once n parts (Some page) each some =
    let below : page % n < n = mod-lt page (omega (arith, some)) in
    each (page % n + 1) (omega arith) (omega (arith, below))

pub within : (steps : List Step) (k : ℕ) → k < length steps → slice_get steps k ≡ None → ⊥
within [] k below none = absurd (omega (arith, below))
within (s ∷ steps) zero below none = cc
within (s ∷ steps) (suc k) below none = within steps k (omega (arith, below)) none

belongs-once : (n : ℕ) (parts : List ℕ) (steps : List Step) (k : ℕ) (o : Option Step) → HasEachPart n parts → 1 ≤ n → k < length steps → slice_get steps k ≡ o
    → count_by (λ i. belongs (part_at n i) o) parts ≡ 1
unfolding belongs
belongs-once n parts steps k None each some below is = absurd (within steps k below is)
belongs-once n parts steps k (Some s) each some below is = owned-once n parts (page_in s.event) each some

-- lines of the line of this number, and of this word
Keyed : ℕ → ℕ → List LineView → Type 0
Keyed n w [] = Unit {0}
Keyed n w (y ∷ ys) = (line_number y ≡ n) × ((line_word y ≡ w) × Keyed n w ys)

keyed-cond : (n w : ℕ) (b : Bool) (ys : List LineView) → Keyed n w ys → Keyed n w (cond b [] ys)
unfolding Keyed
keyed-cond n w true ys keyed = tt
keyed-cond n w false ys keyed = keyed

keyed-reply : (number ls t : ℕ) (locks : List ℕ) (reasons : List Because) (e : Event) (reply : Reply)
    → Keyed number (event_word e) (reply_line number ls locks reasons t e reply)
unfolding Keyed
keyed-reply number ls t locks reasons (Access kind w site) Race = (refl, (refl, tt))
keyed-reply number ls t locks reasons (Access kind w site) Done = tt
keyed-reply number ls t locks reasons (Access kind w site) Quiet = tt
keyed-reply number ls t locks reasons (Access kind w site) Ignored = tt
keyed-reply number ls t locks reasons (Access kind w site) (State state) = tt
keyed-reply number ls t locks reasons (Reuse range) Race = (refl, (refl, tt))
keyed-reply number ls t locks reasons (Reuse range) Done = tt
keyed-reply number ls t locks reasons (Reuse range) Quiet = tt
keyed-reply number ls t locks reasons (Reuse range) Ignored = tt
keyed-reply number ls t locks reasons (Reuse range) (State state) = tt
keyed-reply number ls t locks reasons (Show w) Race = tt
keyed-reply number ls t locks reasons (Show w) Done = tt
keyed-reply number ls t locks reasons (Show w) Quiet = tt
keyed-reply number ls t locks reasons (Show w) Ignored = tt
keyed-reply number ls t locks reasons (Show w) (State state) = (refl, (refl, tt))
keyed-reply number ls t locks reasons (Acquire l m) reply = tt
keyed-reply number ls t locks reasons (Release l m) reply = tt
keyed-reply number ls t locks reasons IgnoreOn reply = tt
keyed-reply number ls t locks reasons IgnoreOff reply = tt
keyed-reply number ls t locks reasons (Level n) reply = tt
keyed-reply number ls t locks reasons (Sync sync) reply = tt

no-word : (e : Event) → page_in e ≡ None → 0 ≡ event_word e
no-word (Acquire l m) none = refl
no-word (Release l m) none = refl
no-word (Access kind w site) none = cc
no-word (Reuse range) none = cc
no-word IgnoreOn none = refl
no-word IgnoreOff none = refl
no-word (Show w) none = cc
no-word (Level n) none = refl
no-word (Sync sync) none = refl

keyed-line : (number ls : ℕ) (locks : List ℕ) (reasons : List Because) (s : Step) (a : Result Reply Refusal) → page_in s.event ≡ None
    → Keyed number (event_word s.event) (answer_line number ls locks reasons s a)
unfolding Keyed
keyed-line number ls locks reasons s (Ok reply) none = keyed-reply number ls s.thread locks reasons s.event reply
keyed-line number ls locks reasons s (Err why) none = (refl, (no-word s.event none, tt))

-- a step has one line at most
IsShort : List LineView → Type 0
IsShort [] = Unit {0}
IsShort (y ∷ []) = Unit {0}
IsShort (y ∷ z ∷ ys) = ⊥

short-cond : (b : Bool) (ys : List LineView) → IsShort ys → IsShort (cond b [] ys)
unfolding IsShort
short-cond true ys short = tt
short-cond false ys short = short

short-reply : (number ls t : ℕ) (locks : List ℕ) (reasons : List Because) (e : Event) (reply : Reply)
    → IsShort (reply_line number ls locks reasons t e reply)
unfolding IsShort
short-reply number ls t locks reasons (Access kind w site) Race = tt
short-reply number ls t locks reasons (Access kind w site) Done = tt
short-reply number ls t locks reasons (Access kind w site) Quiet = tt
short-reply number ls t locks reasons (Access kind w site) Ignored = tt
short-reply number ls t locks reasons (Access kind w site) (State state) = tt
short-reply number ls t locks reasons (Reuse range) Race = tt
short-reply number ls t locks reasons (Reuse range) Done = tt
short-reply number ls t locks reasons (Reuse range) Quiet = tt
short-reply number ls t locks reasons (Reuse range) Ignored = tt
short-reply number ls t locks reasons (Reuse range) (State state) = tt
short-reply number ls t locks reasons (Show w) Race = tt
short-reply number ls t locks reasons (Show w) Done = tt
short-reply number ls t locks reasons (Show w) Quiet = tt
short-reply number ls t locks reasons (Show w) Ignored = tt
short-reply number ls t locks reasons (Show w) (State state) = tt
short-reply number ls t locks reasons (Acquire l m) reply = tt
short-reply number ls t locks reasons (Release l m) reply = tt
short-reply number ls t locks reasons IgnoreOn reply = tt
short-reply number ls t locks reasons IgnoreOff reply = tt
short-reply number ls t locks reasons (Level n) reply = tt
short-reply number ls t locks reasons (Sync sync) reply = tt

short-line : (number ls : ℕ) (locks : List ℕ) (reasons : List Because) (s : Step) (a : Result Reply Refusal)
    → IsShort (answer_line number ls locks reasons s a)
unfolding IsShort
short-line number ls locks reasons s (Ok reply) = short-reply number ls s.thread locks reasons s.event reply
short-line number ls locks reasons s (Err why) = tt

-- by the keys
IsLess : ℕ → ℕ → ℕ → ℕ → Type 0
IsLess m v n w = (m < n) ⊎ ((m ≡ n) × (v < w))

not-precede : (n w m v : ℕ) → IsLess m v n w → (nat_lt n m || (n == m && nat_le w v)) ≡ false
unfolding IsLess
not-precede n w m v less =
    ⊎_elim
    (λ below. or_from (nat_lt n m) (n == m && nat_le w v) (le-ltb n m (omega (arith, below)))
    (and_left (n == m) (nat_le w v) (ne_eqb n m (λ same. absurd (omega (arith, below, same))))))
    (λ same. or_from (nat_lt n m) (n == m && nat_le w v) (le-ltb n m (let e : m ≡ n = same.0 in omega (arith, e)))
    (and_right (n == m) (nat_le w v) (lt-leb w v same.1)))
    less

precede : (n w m v : ℕ) → IsLess m v n w → (nat_lt m n || (m == n && nat_le v w)) ≡ true
unfolding IsLess
precede n w m v less =
    ⊎_elim
    (λ below. or_left (nat_lt m n) (m == n && nat_le v w) (lt-ltb m n below))
    (λ same. or_right (nat_lt m n) (m == n && nat_le v w)
    (and_from (m == n) (nat_le v w) (eq-eqb m n same.0) (le-leb v w (let below : v < w = same.1 in omega (arith, below)))))
    less

behind-keyed : (x : LineView) (n w m v : ℕ) (ys : List LineView) → line_number x ≡ n → line_word x ≡ w → Keyed m v ys → IsLess m v n w → Behind x ys
unfolding Keyed Behind may_precede
behind-keyed x n w m v [] number word keyed less = tt
behind-keyed x n w m v (y ∷ ys) number word keyed less = (
  record { after = rw (number, word, keyed.0, keyed.1.0) (not-precede n w m v less); before = rw (number, word, keyed.0, keyed.1.0) (precede n w m v less) },
  behind-keyed x n w m v ys number word keyed.1.1 less,
)

behind-pieces : (x : LineView) (f : ℕ → List LineView) (n : ℕ) → ((k : ℕ) → k < n → Behind x (f k)) → Behind x (pieces f n)
unfolding pieces Behind
behind-pieces x f zero each = tt
behind-pieces x f (suc n) each = behind-append x (pieces f n) (f n) (behind-pieces x f n (λ k below. each k (omega (arith, below)))) (each n (omega arith))

behind-cond : (x : LineView) (b : Bool) (ys : List LineView) → Behind x ys → Behind x (cond b ys [])
unfolding Behind
behind-cond x true ys behind = behind
behind-cond x false ys behind = tt

module _ (r : Recording) (rules : List Target) (explain : Bool) where
  item-keyed : (k : ℕ) (s : Step) → slice_get r.steps k ≡ Some s → Keyed (slice_index r.lines k) (event_word s.event) (item r rules explain k)
  item-keyed k s is =
      keyed-cond (slice_index r.lines k) (event_word s.event) (is_some (matching_rule_at r rules k)) (line_at (answer r.steps) (reasons_if explain r) r k)
      (by (page_in s.event) refl)
    where
      by : (o : Option ℕ) → page_in s.event ≡ o → Keyed (slice_index r.lines k) (event_word s.event) (line_at (answer r.steps) (reasons_if explain r) r k)
      by None none = rw (line-is r rules explain k s is)
          (keyed-line (slice_index r.lines k) (slice_index r.sites k) (held (accepted r.steps k) s.thread) (reasons_if explain r k) s (answer r.steps k) none)
      by (Some page) on = rw (paged-line-is r rules explain k s is page on)
          (keyed-reply (slice_index r.lines k) (slice_index r.sites k) s.thread (held (accepted r.steps k) s.thread) (reasons_if explain r k) s.event
          (reply r.steps k s.thread s.event))

  item-short : (k : ℕ) (s : Step) → slice_get r.steps k ≡ Some s → IsShort (item r rules explain k)
  item-short k s is =
      short-cond (is_some (matching_rule_at r rules k)) (line_at (answer r.steps) (reasons_if explain r) r k)
      (rw (line-is r rules explain k s is)
      (short-line (slice_index r.lines k) (slice_index r.sites k) (held (accepted r.steps k) s.thread) (reasons_if explain r k) s (answer r.steps k)))

  pub item-pieces : (n : ℕ) → lines_by (answer r.steps) (reasons_if explain r) r rules n ≡ pieces (item r rules explain) n
  unfolding lines_by pieces
  item-pieces zero = refl
  item-pieces (suc n) = ap (λ lines. lines ++ item r rules explain n) (item-pieces n)

  -- a line of the step at position m belongs behind those of the steps before it
  behind-earlier : IsOrdered r → (m k : ℕ) (o : Option Step) (s : Step) (x : LineView) → k < m → m < length r.steps → slice_get r.steps k ≡ o
      → slice_get r.steps m ≡ Some s → Keyed (slice_index r.lines m) (event_word s.event) (x ∷ []) → Behind x (item r rules explain k)
  unfolding Keyed IsLess
  behind-earlier ordered m k None s x earlier below before is keyed =
      absurd (within r.steps k (omega (arith, earlier, below)) before)
  behind-earlier ordered m k (Some a) s x earlier below before is keyed =
      behind-keyed x (slice_index r.lines m) (event_word s.event) (slice_index r.lines k) (event_word a.event) (item r rules explain k) keyed.0 keyed.1.0
      (item-keyed k a before) (ordered k m a s earlier before is)

-- a position of the table of counts
index-range : (f : ℕ → ℕ) (a n j : ℕ) → j < n → slice_index (map f (range_with_len a n)) j ≡ f (a + j)
index-range f a zero j below = absurd (omega (arith, below))
index-range f a (suc n) zero below = ap f (omega arith)
index-range f a (suc n) (suc j) below = index-range f (a + 1) n j (omega (arith, below)) ∙ ap f (omega arith)

index-first : (f : ℕ → ℕ) (n j : ℕ) → j < n → slice_index (map f (range_with_len 0 n)) j ≡ f j
index-first f n j below = index-range f 0 n j below ∙ ap f (zero-add j)

long-range : (f : ℕ → ℕ) (a n : ℕ) → length (map f (range_with_len a n)) ≡ n
long-range f a zero = refl
long-range f a (suc n) = ap suc (long-range f (a + 1) n)

map-range : (f g : ℕ → ℕ) (a n : ℕ) → ((j : ℕ) → j < a + n → f j ≡ g j) → map f (range_with_len a n) ≡ map g (range_with_len a n)
map-range f g a zero same = refl
map-range f g a (suc n) same =
    ap (λ m. m ∷ map f (range_with_len (a + 1) n)) (same a (omega arith))
    ∙ ap (λ ms. g a ∷ ms) (map-range f g (a + 1) n (λ j below. same j (omega (arith, below))))

sum-field : (field : Summary → ℕ) (reports : ℕ → Summary) (value : ℕ → ℕ) (is : List ℕ) → ((i : ℕ) → field (reports i) ≡ value i)
    → sum (map field (map reports is)) ≡ sum_by value is
sum-field field reports value [] same = refl
sum-field field reports value (i ∷ is) same =
    sum_by-cons (λ n. n) (field (reports i)) (map field (map reports is))
    ∙ ap (λ n. n + sum (map field (map reports is))) (same i)
    ∙ ap (λ n. value i + n) (sum-field field reports value is same)
    ∙ sym (sum_by-cons value i is)

-- what the first report says
rules-first : (r : Recording) (rules : List Target) (explain : Bool) (n : ℕ) (parts : List ℕ) → HasEachPart n parts → 1 ≤ n
    → rules_in (map (λ i. part_report (Some (part_at n i)) r rules explain) parts) ≡ length rules
rules-first r rules explain n [] each some = absurd (omega (arith, each 1 (omega arith) some))
rules-first r rules explain n (i ∷ parts) each some = ap length (part-rule_counts (part_at n i) r rules explain) ∙ long-range _ 0 (length rules)

lost-first : (r : Recording) (rules : List Target) (explain : Bool) (n : ℕ) (parts : List ℕ)
    → lost_in (map (λ i. part_report (Some (part_at n i)) r rules explain) parts) ≡ None
lost-first r rules explain n [] = refl
lost-first r rules explain n (i ∷ parts) = part-lost (part_at n i) r rules explain

abbrev told_so : List LineView → List ℕ → ℕ → ℕ → ℕ → ℕ → Option ℕ → Summary
told_so lines counts steps races suppressed refused lost =
    record {
      lines = lines;
      stop = None;
      rule_counts = counts;
      steps = steps;
      races = races;
      suppressed = suppressed;
      refused = refused;
      lost = lost;
    }

module _ (r : Recording) (rules : List Target) (explain : Bool) (n : ℕ) (parts : List ℕ) (each : HasEachPart n parts) (some : 1 ≤ n) where
  abbrev is_of : ℕ → ℕ → Bool
  is_of i k = belongs (part_at n i) (slice_get r.steps k)

  abbrev reports : ℕ → Summary
  reports i = part_report (Some (part_at n i)) r rules explain

  of-one : (k : ℕ) → k < length r.steps → count_by (λ i. is_of i k) parts ≡ 1
  of-one k below = belongs-once n parts r.steps k (slice_get r.steps k) each some below refl

  -- the parts' counts add up
  counts-add : (field : Summary → ℕ) (test : ℕ → Bool) → ((i : ℕ) → field (reports i) ≡ count_below (λ k. is_of i k && test k) (length r.steps))
      → sum (map field (map reports parts)) ≡ count_below test (length r.steps)
  counts-add field test same =
      sum-field field reports (λ i. count_below (λ k. is_of i k && test k) (length r.steps)) parts same
      ∙ dealt-count is_of test parts (length r.steps) of-one

  -- the lines that each part gives of the first m steps
  abbrev dealt : ℕ → ℕ → List LineView
  dealt m i = pieces (owned (part_at n i) r rules explain) m

  lines-next : IsOrdered r → (m : ℕ) (s : Step) (xs : List LineView) → m < length r.steps → slice_get r.steps m ≡ Some s → item r rules explain m ≡ xs
      → Keyed (slice_index r.lines m) (event_word s.event) xs → IsShort xs
      → in_order (flat_map (λ i. dealt m i) parts) ≡ pieces (item r rules explain) m
      → in_order (flat_map (λ i. dealt m i ++ cond (is_of i m) xs []) parts) ≡ pieces (item r rules explain) m ++ xs
  unfolding owned IsShort
  lines-next ordered m s [] below is known keyed short before =
      ap in_order (undealt (λ i. is_of i m) (λ i. dealt m i) parts) ∙ before ∙ sym (append-nil (pieces (item r rules explain) m))
  lines-next ordered m s (x ∷ []) below is known keyed short before =
      dealt-order x (λ i. is_of i m) (λ i. dealt m i) parts (of-one m below)
      (λ i. behind-pieces x (owned (part_at n i) r rules explain) m
      (λ k earlier. behind-cond x (is_of i k) (item r rules explain k)
      (behind-earlier r rules explain ordered m k (slice_get r.steps k) s x earlier below refl is keyed)))
      ∙ ap (λ lines. lines ++ x ∷ []) before
  lines-next ordered m s (x ∷ y ∷ ys) below is known keyed short before = absurd short

  lines-from : IsOrdered r → (m : ℕ) (o : Option Step) → m < length r.steps → slice_get r.steps m ≡ o
      → in_order (flat_map (λ i. dealt m i) parts) ≡ pieces (item r rules explain) m
      → in_order (flat_map (λ i. dealt m i ++ cond (is_of i m) (item r rules explain m) []) parts)
      ≡ pieces (item r rules explain) m ++ item r rules explain m
  lines-from ordered m None below is before = absurd (within r.steps m below is)
  lines-from ordered m (Some s) below is before =
      lines-next ordered m s (item r rules explain m) below is refl (item-keyed r rules explain m s is) (item-short r rules explain m s is) before

  lines-order : IsOrdered r → (m : ℕ) → m ≤ length r.steps → in_order (flat_map (λ i. dealt m i) parts) ≡ pieces (item r rules explain) m
  unfolding pieces owned in_order
  lines-order ordered zero below = ap in_order (flat-none parts)
  lines-order ordered (suc m) below =
      lines-from ordered m (slice_get r.steps m) (omega (arith, below)) refl (lines-order ordered m (omega (arith, below)))

  lines-merge : IsOrdered r → ((i : ℕ) → SameReasons (part_at n i) r rules explain)
      → in_order (flat_map (λ report. report.lines) (map reports parts)) ≡ lines_by (answer r.steps) (reasons_if explain r) r rules (length r.steps)
  lines-merge ordered why =
      ap in_order (flat_map-map (λ report. report.lines) reports parts
      ∙ flat-same (λ i. (reports i).lines) (λ i. dealt (length r.steps) i) parts (λ i. part-lines (part_at n i) r rules explain (why i)))
      ∙ lines-order ordered (length r.steps) (omega arith)
      ∙ sym (item-pieces r rules explain (length r.steps))

  rule-at : (j : ℕ) → j < length rules → sum (map (λ report. slice_index report.rule_counts j) (map reports parts))
      ≡ rule_count (answer r.steps) r rules (length r.steps) j
  rule-at j below =
      counts-add (λ report. slice_index report.rule_counts j) (λ k. is_rule j (matching_rule_at r rules k))
      (λ i. ap (λ counts. slice_index counts j) (part-rule_counts (part_at n i) r rules explain)
      ∙ index-first _ (length rules) j below
      ∙ part-rule (part_at n i) r rules explain j)

  rules-add : map (λ j. sum (map (λ report. slice_index report.rule_counts j) (map reports parts))) (range_with_len 0 (rules_in (map reports parts)))
      ≡ map (rule_count (answer r.steps) r rules (length r.steps)) (range_with_len 0 (length rules))
  rules-add =
      ap (λ m. map (λ j. sum (map (λ report. slice_index report.rule_counts j) (map reports parts))) (range_with_len 0 m))
      (rules-first r rules explain n parts each some)
      ∙ map-range (λ j. sum (map (λ report. slice_index report.rule_counts j) (map reports parts)))
      (rule_count (answer r.steps) r rules (length r.steps)) 0 (length rules) (λ j below. rule-at j (omega (arith, below)))

  steps-add : sum (map (λ report. report.steps) (map reports parts)) ≡ length r.steps
  steps-add =
      counts-add (λ report. report.steps) (λ k. true) (λ i. part-steps (part_at n i) r rules explain) ∙ count-all (length r.steps)

  races-add : sum (map (λ report. report.races) (map reports parts)) ≡ count_below (is_printed r rules) (length r.steps)
  races-add = counts-add (λ report. report.races) (is_printed r rules) (λ i. part-races (part_at n i) r rules explain)

  suppressed-add : sum (map (λ report. report.suppressed) (map reports parts))
      ≡ count_below (λ k. is_some (matching_rule_at r rules k)) (length r.steps)
  suppressed-add =
      counts-add (λ report. report.suppressed) (λ k. is_some (matching_rule_at r rules k)) (λ i. part-suppressed (part_at n i) r rules explain)

  refused-add : sum (map (λ report. report.refused) (map reports parts)) ≡ count_below (λ k. is_refused (answer r.steps k)) (length r.steps)
  refused-add = counts-add (λ report. report.refused) (λ k. is_refused (answer r.steps k)) (λ i. part-refused (part_at n i) r rules explain)

  pub merged-is : IsOrdered r → ((i : ℕ) → SameReasons (part_at n i) r rules explain)
      → merged (map (λ i. part_report (Some (part_at n i)) r rules explain) parts) ≡ report_of r rules explain None
  merged-is ordered why =
      ap (λ lines. told_so lines (map (λ j. sum (map (λ report. slice_index report.rule_counts j) (map reports parts)))
      (range_with_len 0 (rules_in (map reports parts)))) (sum (map (λ report. report.steps) (map reports parts)))
      (sum (map (λ report. report.races) (map reports parts))) (sum (map (λ report. report.suppressed) (map reports parts)))
      (sum (map (λ report. report.refused) (map reports parts))) (lost_in (map reports parts))) (lines-merge ordered why)
      ∙ ap (λ counts. told_so (lines_by (answer r.steps) (reasons_if explain r) r rules (length r.steps)) counts
      (sum (map (λ report. report.steps) (map reports parts))) (sum (map (λ report. report.races) (map reports parts)))
      (sum (map (λ report. report.suppressed) (map reports parts))) (sum (map (λ report. report.refused) (map reports parts)))
      (lost_in (map reports parts))) rules-add
      ∙ ap (λ steps. told_so (lines_by (answer r.steps) (reasons_if explain r) r rules (length r.steps))
      (map (rule_count (answer r.steps) r rules (length r.steps)) (range_with_len 0 (length rules))) steps
      (sum (map (λ report. report.races) (map reports parts))) (sum (map (λ report. report.suppressed) (map reports parts)))
      (sum (map (λ report. report.refused) (map reports parts))) (lost_in (map reports parts))) steps-add
      ∙ ap (λ races. told_so (lines_by (answer r.steps) (reasons_if explain r) r rules (length r.steps))
      (map (rule_count (answer r.steps) r rules (length r.steps)) (range_with_len 0 (length rules))) (length r.steps) races
      (sum (map (λ report. report.suppressed) (map reports parts))) (sum (map (λ report. report.refused) (map reports parts)))
      (lost_in (map reports parts))) races-add
      ∙ ap (λ suppressed. told_so (lines_by (answer r.steps) (reasons_if explain r) r rules (length r.steps))
      (map (rule_count (answer r.steps) r rules (length r.steps)) (range_with_len 0 (length rules))) (length r.steps)
      (count_below (is_printed r rules) (length r.steps)) suppressed (sum (map (λ report. report.refused) (map reports parts)))
      (lost_in (map reports parts))) suppressed-add
      ∙ ap (λ refused. told_so (lines_by (answer r.steps) (reasons_if explain r) r rules (length r.steps))
      (map (rule_count (answer r.steps) r rules (length r.steps)) (range_with_len 0 (length rules))) (length r.steps)
      (count_below (is_printed r rules) (length r.steps)) (count_below (λ k. is_some (matching_rule_at r rules k)) (length r.steps)) refused
      (lost_in (map reports parts))) refused-add
      ∙ ap (λ lost. told_so (lines_by (answer r.steps) (reasons_if explain r) r rules (length r.steps))
      (map (rule_count (answer r.steps) r rules (length r.steps)) (range_with_len 0 (length rules))) (length r.steps)
      (count_below (is_printed r rules) (length r.steps)) (count_below (λ k. is_some (matching_rule_at r rules k)) (length r.steps))
      (count_below (λ k. is_refused (answer r.steps k)) (length r.steps)) lost) (lost-first r rules explain n parts)

-- the parts in turn
pub each-in-turn : (n : ℕ) → HasEachPart n (range_with_len 1 n)
each-in-turn n = λ i first last. once-in i 1 n first (omega (arith, last))

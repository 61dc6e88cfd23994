-- What is kept of the steps tells the reasons that the definitions give.
use Rattle.std.proofs.Common.{◌≡◌, ◌+◌, ℕ, zero, suc, nat_lt, Bool, true, false, cond, List, [], ◌∷◌, ◌++◌, ◌&&◌, All, length, map, flat_map, drop, slice_get, slice_index, Option, Some, None, is_some, is_none, IfSome, refl, sym, ap, subst, ◌∙◌, arith, add-one, length-append}
use Rattle.std.specs.Option.{option_to_list}
use Rattle.std.proofs.lemmas.Bool.{and_parts}
use Rattle.std.proofs.lemmas.Bool.Decides.{nat_tests}
use Rattle.std.proofs.lemmas.Grind.{flat_map-append}
use Rattle.std.proofs.lemmas.List.{append-nil, map-append}
use Rattle.std.proofs.lemmas.List.Elements.{All-head, All-tail}
use Rattle.er_event.specs.declared.refusals.Refusal.{Refusal}
use Rattle.er_event.specs.declared.steps.Reply.{Reply}
use Rattle.er_event.specs.declared.steps.Reply.TheVariants.{Done, Quiet, Race, Ignored, State}
use Rattle.er_event.specs.declared.steps.WordState.TheVariants.{Virgin}
use Rattle.er_event.specs.declared.steps.Step.{Step}
use Rattle.std.specs.Prelude.{Result, Ok, Err}
use Rattle.er_explain.proofs.Explained.{explained-at}
use Rattle.er_explain.proofs.FoundLemmas.{race-told}
use Rattle.er_explain.proofs.NamingLemmas.{named-follows, named-start}
use Rattle.er_explain.proofs.RaceLemmas.{explanations_at, race-is}
use Rattle.er_explain.proofs.SettledLemmas.{virgin-book}
use Rattle.er_explain.specs.Book.{Book, Untouched}
use Rattle.er_explain.specs.Books.{book_after, joining_of}
use Rattle.er_explain.specs.Explaining.{explanation_at}
use Rattle.er_explain.specs.Following.{BeginsAt, CountsWhere}
use Rattle.er_explain.specs.Joined.{Joining}
use Rattle.er_explain.specs.Naming.{named_pair, named_joining, named_book}
use Rattle.er_explain.specs.Racing.{is_race, places_below}
use Rattle.er_explain.specs.WordBooks.{Blocks, book_in, joining_in}
use Rattle.er_explain.specs.declared.book.Pair.{Pair}
use Rattle.er_model.proofs.AnswersLemmas.{reading-step}
use Rattle.er_model.proofs.Explanations.{race-rising}
use Rattle.er_model.proofs.Meaning.{join-counted}
use Rattle.er_model.proofs.Search.{least_below-Some}
use Rattle.er_model.specs.Answers.{answer, reading_of, state_at}
use Rattle.er_model.specs.Explanations.{Explanation, ExplainsAccess, first_write, word_in, word_of}
use Rattle.er_model.specs.Following.{marked}
use Rattle.er_model.specs.Holdings.{holdings_at}
use Rattle.er_model.specs.Words.{Mark, Counted, Reused, Shown, Nothing, Reading, counts, writes, era, first, counted_from}
use Rattle.std.specs.Prelude.{nat_le}
use Rattle.er_report.proofs.LawLemmas.{counted-step, least-counted, uncovered-counted}
use Rattle.er_report.proofs.ReasonLemmas.{found_below, lines-explained}
use Rattle.er_report.specs.Builder.{is_plain}
use Rattle.er_report.specs.Inner.Explained.{line_with, left_after, with_reasons, line_told, told_left, with_told, lines_kept}
use Rattle.er_report.specs.Kept.{LineAccess, Kept, Follows, access_at, told_access, told_found, joining_reasons, found_reasons, word_reasons, line_access, line_book, told_below}
use Rattle.er_report.specs.Lines.{LineView, RacedView, RefusedView, ShownView}
use Rattle.er_report.specs.Reasons.{reason_at, reasons_of}
use Rattle.er_report.specs.Report.{is_printed, lines_below, matching_rule_at}
use Rattle.er_report.specs.declared.report.Because.{Because}
use Rattle.er_report.specs.declared.report.Label.{Label}
use Rattle.er_report.specs.declared.report.Label.TheVariants as label
use Rattle.er_rules.specs.Rules.{Target}
use Rattle.er_trace.specs.Trace.{Recording}

-- an access that counts is told by its line
reason-there : (r : Recording) (w i : ℕ) (name : Label) → counts (reading_of r.steps i) w ≡ true → reason_at r name i ≡ told_access name (access_at r i) ∷ []
unfolding reading_of access_at
reason-there r w i name counted =
    let found = counted-step r.steps w i (slice_get r.steps i) counted in
    rw (found.3, found.4) refl

pairs-there : (r : Recording) (w : ℕ) (pairs : List (ℕ × ℕ)) → All (λ pair. counts (reading_of r.steps pair.1) w ≡ true) pairs
    → flat_map (λ (pair : Pair LineAccess). told_found (label.Uncovered pair.lock) pair.at) (map (named_pair (access_at r)) (map {B = Pair ℕ} (λ pair. record { lock = pair.0; at = Some pair.1 }) pairs))
    ≡ flat_map (λ pair. reason_at r (label.Uncovered pair.0) pair.1) pairs
pairs-there r w [] all = refl
pairs-there r w (pair ∷ pairs) all =
    let here = reason-there r w pair.1 (label.Uncovered pair.0) (All-head (λ p. counts (reading_of r.steps p.1) w ≡ true) pair pairs all) in
    let rest = pairs-there r w pairs (All-tail (λ p. counts (reading_of r.steps p.1) w ≡ true) pair pairs all) in
    λ i. sym here i ++ rest i

reasons-there : (r : Recording) (w k : ℕ) (e : Explanation) → ExplainsAccess (reading_of r.steps) w e k → joining_reasons (named_joining (access_at r) (joining_of e)) ≡ reasons_of r e
unfolding joining_reasons reasons_of first first_write
reasons-there r w k e is =
    let s : Reading = reading_of r.steps in
    let first_one = least_below-Some (suc k) (counted_from s w (era s w (suc k))) e.first is.is_first in
    let joining = join-counted s w (suc k) e.join is.is_join in
    let a = reason-there r w e.first label.First (and_parts (nat_le (era s w (suc k)) e.first) (counts (s e.first) w) first_one.1).1 in
    let b = reason-there r w e.join label.Joined (and_parts (nat_le (era s w (suc k)) e.join) (counts (s e.join) w) joining.1).1 in
    let c = reason-there r w e.write label.Write (least-counted s w (suc k) e.join e.write (λ i. writes (s i)) is.is_write) in
    let rest = pairs-there r w e.uncovered (uncovered-counted s w k e.join e.uncovered is.uncovers) in
    λ i. ((sym a i ++ sym b i) ++ sym c i) ++ rest i

-- the reasons of a race, as the book of its word tells them
race-reasons : (r : Recording) (n : ℕ) → answer r.steps n ≡ Ok Race
    → word_reasons (line_book r (suc n)) (word_of (slice_get r.steps n)) ∷ [] ≡ map (reasons_of r) (explanations_at r.steps (n ∷ []))
race-reasons r n race =
    let known = race-rising r.steps n race in
    let w : ℕ = known.1.0 in
    let told = race-told r.steps n w known.1.1 race in
    let e : Explanation = told.0 in
    let shown = (explained-at r.steps n e told.1).0 in
    let by_book : word_reasons (line_book r (suc n)) (word_of (slice_get r.steps n)) ≡ reasons_of r e =
    ap (word_reasons (line_book r (suc n))) known.1.1
    ∙ ap (λ (b : Book ℕ). found_reasons (joining_in (named_book (access_at r) b))) told.2
    ∙ reasons-there r shown.0 n e shown.2 in
    ap (λ (reasons : List Because). reasons ∷ []) by_book
    ∙ sym (ap (map (reasons_of r)) (append-nil (option_to_list (explanation_at r.steps n)) ∙ ap (λ (o : Option Explanation). option_to_list o) told.1))

first-true : (a b : Bool) → (a && b) ≡ true → a ≡ true
first-true true b both = refl
first-true false b both = both

last-told : (r : Recording) (rules : List Target) (n : ℕ) (b : Bool) → is_printed r rules n ≡ b
    → cond b (word_reasons (line_book r (suc n)) (word_of (slice_get r.steps n)) ∷ []) [] ≡ map (reasons_of r) (explanations_at r.steps (cond b (n ∷ []) []))
last-told r rules n true is = race-reasons r n (race-is (answer r.steps n) (first-true (is_race (answer r.steps n)) (is_none (matching_rule_at r rules n)) is))
last-told r rules n false is = refl

told-explained : (r : Recording) (rules : List Target) (n : ℕ) → told_below r rules n ≡ map (reasons_of r) (found_below r rules n)
unfolding told_below places_below
told-explained r rules zero = refl
told-explained r rules (suc n) =
    let places : List ℕ = places_below (is_printed r rules) n in
    let last : List ℕ = cond (is_printed r rules n) (n ∷ []) [] in
    let split : explanations_at r.steps (places ++ last) ≡ explanations_at r.steps places ++ explanations_at r.steps last =
    flat_map-append (λ (k : ℕ). option_to_list (explanation_at r.steps k)) places last in
    (λ i. told-explained r rules n i ++ last-told r rules n (is_printed r rules n) refl i)
    ∙ sym (map-append (reasons_of r) (explanations_at r.steps places) (explanations_at r.steps last))
    ∙ sym (ap (map (reasons_of r)) split)

-- lines that get these reasons one after another
drop-map : (r : Recording) (es : List Explanation) → map (reasons_of r) (drop 1 es) ≡ drop 1 (map (reasons_of r) es)
drop-map r [] = refl
drop-map r (e ∷ es) = refl

same-line : (r : Recording) (es : List Explanation) (line : LineView) → line_with r es line ≡ line_told (map (reasons_of r) es) line
same-line r [] (RacedView race) = refl
same-line r (e ∷ es) (RacedView race) = refl
same-line r es (RefusedView number step refusal) = refl
same-line r es (ShownView number word state) = refl

same-left : (r : Recording) (es : List Explanation) (line : LineView) → map (reasons_of r) (left_after es line) ≡ told_left (map (reasons_of r) es) line
same-left r es (RacedView race) = drop-map r es
same-left r es (RefusedView number step refusal) = refl
same-left r es (ShownView number word state) = refl

told-lines : (r : Recording) (es : List Explanation) (lines : List LineView) → with_reasons r es lines ≡ with_told (map (reasons_of r) es) lines
unfolding with_reasons with_told
told-lines r es [] = refl
told-lines r es (line ∷ lines) =
    let rest : with_reasons r (left_after es line) lines ≡ with_told (told_left (map (reasons_of r) es) line) lines =
    told-lines r (left_after es line) lines ∙ ap (λ (told : List (List Because)). with_told told lines) (same-left r es line) in
    λ i. same-line r es line i ∷ rest i

pub lines-told : (r : Recording) (rules : List Target) (n : ℕ) → with_told (told_below r rules n) (lines_below r rules false n) ≡ lines_below r rules true n
lines-told r rules n =
    ap (λ (told : List (List Because)). with_told told (lines_below r rules false n)) (told-explained r rules n)
    ∙ sym (told-lines r (found_below r rules n) (lines_below r rules false n))
    ∙ lines-explained r rules n

-- a printed race that has no reasons yet is the last step
length-told : (r : Recording) (rules : List Target) (n : ℕ) → length (told_below r rules n) ≡ length (places_below (is_printed r rules) n)
unfolding told_below places_below
length-told r rules zero = refl
length-told r rules (suc n) =
    let so_far : length (told_below r rules n) ≡ length (places_below (is_printed r rules) n) = length-told r rules n in
    length-append (told_below r rules n) (cond (is_printed r rules n) (word_reasons (line_book r (suc n)) (word_of (slice_get r.steps n)) ∷ []) [])
    ∙ ((λ i. so_far i + ones (is_printed r rules n) i) ∙ sym (length-append (places_below (is_printed r rules) n) (cond (is_printed r rules n) (n ∷ []) [])))
  where
    ones : (b : Bool) → length (cond b (word_reasons (line_book r (suc n)) (word_of (slice_get r.steps n)) ∷ []) []) ≡ length (cond b (n ∷ []) [])
    ones true = refl
    ones false = refl

one-more : (n m : ℕ) (b : Bool) → m ≡ n + cond b 1 0 → nat_lt n m ≡ b
one-more n m true is = grind (arith, nat_tests)
one-more n m false is = grind (arith, nat_tests)

pub is-printed : (r : Recording) (rules : List Target) (k told races : ℕ) → told ≡ length (told_below r rules k) → races ≡ length (places_below (is_printed r rules) (k + 1))
    → nat_lt told races ≡ is_printed r rules k
unfolding places_below
is-printed r rules k told races so_far now =
    one-more told races (is_printed r rules k)
    (now ∙ ap (λ (n : ℕ). length (places_below (is_printed r rules) n)) (add-one k)
    ∙ length-append (places_below (is_printed r rules) k) (cond (is_printed r rules k) (k ∷ []) [])
    ∙ (λ i. sym (so_far ∙ length-told r rules k) i + one (is_printed r rules k) i))
  where
    one : (b : Bool) → length (cond b (k ∷ []) []) ≡ cond b 1 0
    one true = refl
    one false = refl

-- before any step, and after one more
pub follows-start : (books : Blocks LineAccess) (told : List (List Because)) → ((w : ℕ) → book_in books w ≡ Untouched) → told ≡ []
    → (r : Recording) (rules : List Target) → Follows (record { books = books; told = told }) r rules 0
unfolding told_below
follows-start books told empty nothing r rules =
    record {
      books = λ w. empty w ∙ sym (named-start (access_at r) (reading_of r.steps) w);
      told = nothing;
    }

pub follows-next : (before after : Kept) (r : Recording) (rules : List Target) (k line : ℕ) (step : Step) (printed : Bool) (books : Blocks LineAccess)
    → Follows before r rules k → slice_get r.steps k ≡ Some step → line ≡ slice_index r.lines k → printed ≡ is_printed r rules k
    → ((w : ℕ) → book_in books w ≡ book_after (book_in before.books w) w (line_access line (Some step)) (marked (holdings_at r.steps step.thread k) step.thread step.event))
    → after.books ≡ books
    → after.told ≡ before.told ++ cond printed (word_reasons (book_in books) (word_in step.event) ∷ []) []
    → Follows after r rules (k + 1)
unfolding access_at told_below
follows-next before after r rules k line step printed books so_far here number is goes same tells =
    let access : line_access line (Some step) ≡ access_at r k = λ i. line_access (number i) (sym here i) in
    let book : (w : ℕ) → book_in books w ≡ line_book r (k + 1) w =
    λ w.
    named-follows (access_at r) r.steps w k (marked (holdings_at r.steps step.thread k) step.thread step.event) (book_in before.books w) (book_in books w)
    (sym (reading-step r.steps k step here)) (so_far.books w)
    (goes w ∙ ap (λ (a : LineAccess). book_after (book_in before.books w) w a (marked (holdings_at r.steps step.thread k) step.thread step.event)) access) in
    record {
      books = λ w. ap (λ (all : Blocks LineAccess). book_in all w) same ∙ book w;
      told =
          tells
          ∙ (λ i. so_far.told i ++ cond (is i) (word_reasons (λ w. book w i) (ap word_of (sym here) i) ∷ []) [])
          ∙ next (sym (add-one k));
    }
  where
    next : {n : ℕ} → suc k ≡ n → told_below r rules k ++ cond (is_printed r rules k) (word_reasons (line_book r n) (word_of (slice_get r.steps k)) ∷ []) [] ≡ told_below r rules n
    next e = subst (λ (n : ℕ). told_below r rules k ++ cond (is_printed r rules k) (word_reasons (line_book r n) (word_of (slice_get r.steps k)) ∷ []) [] ≡ told_below r rules n) e refl

-- after the first access of its word, which is no race: the word was virgin, and so its book was empty
pub begins-next : (before after : Kept) (r : Recording) (rules : List Target) (k line : ℕ) (step : Step) (books : Blocks LineAccess)
    → Follows before r rules k → slice_get r.steps k ≡ Some step → line ≡ slice_index r.lines k → is_printed r rules k ≡ false → BeginsAt r.steps k
    → (CountsWhere (marked (holdings_at r.steps step.thread k) step.thread step.event) (λ w. book_in before.books w ≡ Untouched)
    → (w : ℕ) → book_in books w ≡ book_after (book_in before.books w) w (line_access line (Some step)) (marked (holdings_at r.steps step.thread k) step.thread step.event))
    → after.books ≡ books → after.told ≡ before.told → Follows after r rules (k + 1)
begins-next before after r rules k line step books so_far here number unprinted begins goes same tells =
    follows-next before after r rules k line step false books so_far here number (sym unprinted)
    (goes (subst (λ (m : Mark). CountsWhere m (λ w. book_in before.books w ≡ Untouched)) (reading-step r.steps k step here) (empty (reading_of r.steps k) begins)))
    same (tells ∙ sym (append-nil before.told))
  where
    empty : (m : Mark) → CountsWhere m (λ w. state_at r.steps w k ≡ Virgin) → CountsWhere m (λ w. book_in before.books w ≡ Untouched)
    empty (Counted t kind word cover) virgin = so_far.books word ∙ ap (named_book (access_at r)) (virgin-book (reading_of r.steps) word k virgin)
    empty (Reused range) never = never
    empty (Shown word) never = never
    empty Nothing never = never

-- a step that has no line is not printed
plain-no-race : (a : Result Reply Refusal) → is_plain a ≡ true → is_race a ≡ false
plain-no-race (Ok Done) plain = refl
plain-no-race (Ok Quiet) plain = refl
plain-no-race (Ok Ignored) plain = refl
plain-no-race (Ok Race) plain = cc
plain-no-race (Ok (State state)) plain = cc
plain-no-race (Err why) plain = refl

pub plain-unprinted : (r : Recording) (rules : List Target) (k : ℕ) → is_plain (answer r.steps k) ≡ true → is_printed r rules k ≡ false
plain-unprinted r rules k plain = ap (λ b. b && is_none (matching_rule_at r rules k)) (plain-no-race (answer r.steps k) plain)

-- the reasons of a joining, put one after another
pub all-told : (j : Joining LineAccess) (a b : LineAccess) (w : Option LineAccess) (ps : List (Pair LineAccess)) (none one two three all : List Because) → a ≡ j.first → b ≡ j.join → w ≡ j.write
    → ps ≡ j.pairs → none ≡ [] → one ≡ none ++ told_found label.First (Some a) → two ≡ one ++ told_found label.Joined (Some b) → three ≡ two ++ told_found label.Write w
    → all ≡ three ++ flat_map (λ (pair : Pair LineAccess). told_found (label.Uncovered pair.lock) pair.at) ps → all ≡ joining_reasons j
unfolding joining_reasons
all-told j a b w ps none one two three all first join write pairs empty put_first put_join put_write put_pairs =
    put_pairs
    ∙ (λ i. put_write i ++ flat_map (λ (pair : Pair LineAccess). told_found (label.Uncovered pair.lock) pair.at) (pairs i))
    ∙ (λ i. (put_join i ++ told_found label.Write (write i)) ++ flat_map (λ (pair : Pair LineAccess). told_found (label.Uncovered pair.lock) pair.at) j.pairs)
    ∙ (λ i. ((put_first i ++ told_found label.Joined (Some (join i))) ++ told_found label.Write j.write) ++ flat_map (λ (pair : Pair LineAccess). told_found (label.Uncovered pair.lock) pair.at) j.pairs)
    ∙ (λ i. (((empty i ++ told_found label.First (Some (first i))) ++ told_found label.Joined (Some j.join)) ++ told_found label.Write j.write) ++ flat_map (λ (pair : Pair LineAccess). told_found (label.Uncovered pair.lock) pair.at) j.pairs)

-- the lines with the reasons that were kept, or without
pub told-by : (r : Recording) (rules : List Target) (n : ℕ) (o : Option Kept) (lines plain : List LineView) → plain ≡ lines_below r rules false n
    → IfSome o (λ kept. Follows kept r rules n) → lines ≡ lines_kept o plain → lines ≡ lines_below r rules (is_some o) n
told-by r rules n None lines plain same follows are = are ∙ same
told-by r rules n (Some kept) lines plain same follows are = are ∙ (λ i. with_told (follows.told i) (same i)) ∙ lines-told r rules n

-- Where the steps of a part stand in the whole list, and that these see there what they see in the list of the part's steps alone.
use Rattle.std.proofs.Common.{◌≡◌, ℕ, zero, suc, ◌==◌, Bool, true, false, cond, nat_le, List, [], ◌∷◌, filter, length, slice_get, slice_index, Option, Some, None, refl, sym, ap, ◌∙◌}
use Rattle.std.proofs.lemmas.Bool.{and_parts, eqb-true, leb-true}
use Rattle.er_event.specs.declared.addresses.PageRange.{PageRange}
use Rattle.er_event.specs.declared.steps.Step.{Step}
use Rattle.er_event.specs.Span.{page_of}
use Rattle.er_model.specs.Answers.{reading_of, state_at, answer}
use Rattle.er_model.specs.Following.{answered, marked, state_after}
use Rattle.er_model.specs.Holdings.{after_step, holdings, holdings_at}
use Rattle.er_model.specs.Table.{moved}
use Rattle.er_model.specs.Threads.{accepted}
use Rattle.er_model.specs.Words.{Nothing, is_within}
use Rattle.er_model.proofs.AnswersLemmas.{answer-step, reading-step, state-moved, state-step}
use Rattle.er_model.proofs.Prefixes.{state-start}
use Rattle.er_model.proofs.Threads.{accepted-past_end, holdings-step}
use Rattle.er_parts.proofs.LocalLemmas.{idle, one-page, other-event, own-event}
use Rattle.er_parts.specs.Parts.{PartView, has_page, kept_beside, takes}

-- how many of the first n steps are of use to the part
unfoldable pub place : PartView → List Step → ℕ → ℕ
place part [] n = 0
place part (s ∷ steps) zero = 0
place part (s ∷ steps) (suc n) = cond (takes part s) (suc (place part steps n)) (place part steps n)

pub place-start : (part : PartView) (steps : List Step) → place part steps 0 ≡ 0
unfolding place
place-start part [] = refl
place-start part (s ∷ steps) = refl

more-by : (b : Bool) (m n : ℕ) → m ≡ suc n → cond b (suc m) m ≡ suc (cond b (suc n) n)
more-by true m n e = ap suc e
more-by false m n e = e

-- one more, if the next step is of use
pub place-taken : (part : PartView) (steps : List Step) (n : ℕ) (s : Step) → slice_get steps n ≡ Some s → takes part s ≡ true
    → place part steps (suc n) ≡ suc (place part steps n)
unfolding place
place-taken part [] n s is taken = cc
place-taken part (x ∷ steps) zero s is taken =
    let same : x ≡ s = cc in
    ap (λ b. cond b (suc (place part steps 0)) (place part steps 0)) (ap (takes part) same ∙ taken) ∙ ap suc (place-start part steps)
place-taken part (x ∷ steps) (suc n) s is taken =
    more-by (takes part x) (place part steps (suc n)) (place part steps n) (place-taken part steps n s is taken)

same-by : (b : Bool) (m n : ℕ) → m ≡ n → cond b (suc m) m ≡ cond b (suc n) n
same-by b m n e = rw e refl

-- the same, if it isn't
pub place-left : (part : PartView) (steps : List Step) (n : ℕ) (s : Step) → slice_get steps n ≡ Some s → takes part s ≡ false
    → place part steps (suc n) ≡ place part steps n
unfolding place
place-left part [] n s is left = cc
place-left part (x ∷ steps) zero s is left =
    let same : x ≡ s = cc in
    ap (λ b. cond b (suc (place part steps 0)) (place part steps 0)) (ap (takes part) same ∙ left) ∙ place-start part steps
place-left part (x ∷ steps) (suc n) s is left =
    same-by (takes part x) (place part steps (suc n)) (place part steps n) (place-left part steps n s is left)

-- and the same behind the last step
pub place-past : (part : PartView) (steps : List Step) (n : ℕ) → slice_get steps n ≡ None → place part steps (suc n) ≡ place part steps n
unfolding place
place-past part [] n is = refl
place-past part (x ∷ steps) zero is = cc
place-past part (x ∷ steps) (suc n) is = same-by (takes part x) (place part steps (suc n)) (place part steps n) (place-past part steps n is)

long-by : (b : Bool) (x : Step) (xs : List Step) (n : ℕ) → n ≡ length xs → cond b (suc n) n ≡ length (cond b (x ∷ xs) xs)
long-by true x xs n e = ap suc e
long-by false x xs n e = e

pub place-end : (part : PartView) (steps : List Step) → place part steps (length steps) ≡ length (filter (takes part) steps)
unfolding place
place-end part [] = refl
place-end part (x ∷ steps) = long-by (takes part x) x (filter (takes part) steps) (place part steps (length steps)) (place-end part steps)

get-by : {A : Type 0} (b : Bool) (x : A) (xs : List A) (n : ℕ) → slice_get (cond b (x ∷ xs) xs) (cond b (suc n) n) ≡ slice_get xs n
get-by true x xs n = refl
get-by false x xs n = refl

get-first : {A : Type 0} (b : Bool) (x : A) (xs : List A) (n : ℕ) → b ≡ true → slice_get (cond b (x ∷ xs) xs) 0 ≡ Some x
get-first true x xs n is = refl
get-first false x xs n is = cc

-- there stands the step in the part's list
pub kept-at : (part : PartView) (steps : List Step) (n : ℕ) (s : Step) → slice_get steps n ≡ Some s → takes part s ≡ true
    → slice_get (filter (takes part) steps) (place part steps n) ≡ Some s
unfolding place
kept-at part [] n s is taken = cc
kept-at part (x ∷ steps) zero s is taken =
    let same : x ≡ s = cc in
    get-first (takes part x) x (filter (takes part) steps) 0 (ap (takes part) same ∙ taken) ∙ is
kept-at part (x ∷ steps) (suc n) s is taken =
    get-by (takes part x) x (filter (takes part) steps) (place part steps n) ∙ kept-at part steps n s is taken

index-by : (b : Bool) (x : ℕ) (xs : List ℕ) (n : ℕ) → slice_index (cond b (x ∷ xs) xs) (cond b (suc n) n) ≡ slice_index xs n
index-by true x xs n = refl
index-by false x xs n = refl

index-first : (b : Bool) (x : ℕ) (xs : List ℕ) → b ≡ true → slice_index (cond b (x ∷ xs) xs) 0 ≡ x
index-first true x xs is = refl
index-first false x xs is = cc

-- and what stands beside it
pub beside-at : (part : PartView) (steps : List Step) (xs : List ℕ) (n : ℕ) (s : Step) → slice_get steps n ≡ Some s → takes part s ≡ true
    → slice_index (kept_beside part steps xs) (place part steps n) ≡ slice_index xs n
unfolding place kept_beside
beside-at part [] xs n s is taken = cc
beside-at part (x ∷ steps) [] n s is taken = refl
beside-at part (x ∷ steps) (a ∷ xs) zero s is taken =
    let same : x ≡ s = cc in index-first (takes part x) a (kept_beside part steps xs) (ap (takes part) same ∙ taken)
beside-at part (x ∷ steps) (a ∷ xs) (suc n) s is taken =
    index-by (takes part x) a (kept_beside part steps xs) (place part steps n) ∙ beside-at part steps xs n s is taken

-- what is of another page than those of the part
pub page-apart : (part : PartView) (w word : ℕ) → has_page part (page_of w) ≡ true → has_page part (page_of word) ≡ false → (word == w) ≡ false
page-apart part w word ours apart = by (word == w) refl
  where
    by : (b : Bool) → (word == w) ≡ b → b ≡ false
    by false is = refl
    by true is = let same : word ≡ w = eqb-true word w is in let never : true ≡ false = sym ours ∙ ap (λ w. has_page part (page_of w)) (sym same) ∙ apart in cc

pub range-apart : (part : PartView) (w : ℕ) (range : PageRange) → has_page part (page_of w) ≡ true → has_page part (page_of range.lo) ≡ false
    → is_within w range ≡ false
range-apart part w range ours apart = by (is_within w range) refl
  where
    by : (b : Bool) → is_within w range ≡ b → b ≡ false
    by false is = refl
    by true is =
        let both = and_parts (nat_le range.lo w) (nat_le w range.hi) is in
        let same : page_of w ≡ page_of range.lo = one-page range.lo range.hi w (leb-true range.lo w both.0) (leb-true w range.hi both.1) range.one_page in
        let never : true ≡ false = sym ours ∙ ap (has_page part) same ∙ apart in cc

pub reading-past : (steps : List Step) (n : ℕ) → slice_get steps n ≡ None → reading_of steps n ≡ Nothing
unfolding reading_of
reading-past steps n is = rw is refl

module _ (part : PartView) (steps : List Step) where
  ours : List Step
  ours = filter (takes part) steps

  holdings-by : (t n : ℕ) (s : Step) (b : Bool) → slice_get steps n ≡ Some s → takes part s ≡ b
      → holdings_at ours t (place part steps n) ≡ holdings_at steps t n → holdings_at ours t (place part steps (suc n)) ≡ holdings_at steps t (suc n)
  unfolding ours
  holdings-by t n s true is taken before =
      ap (λ n. holdings_at ours t n) (place-taken part steps n s is taken)
      ∙ holdings-step ours (place part steps n) s t (kept-at part steps n s is taken)
      ∙ ap (λ h. after_step h t s) before
      ∙ sym (holdings-step steps n s t is)
  holdings-by t n s false is left before =
      ap (λ n. holdings_at ours t n) (place-left part steps n s is left)
      ∙ before
      ∙ sym (holdings-step steps n s t is ∙ idle part (holdings_at steps t n) t s left)

  holdings-at : (t n : ℕ) (o : Option Step) → slice_get steps n ≡ o
      → holdings_at ours t (place part steps n) ≡ holdings_at steps t n → holdings_at ours t (place part steps (suc n)) ≡ holdings_at steps t (suc n)
  holdings-at t n None is before =
      ap (λ n. holdings_at ours t n) (place-past part steps n is) ∙ before ∙ ap (λ past. holdings past t) (sym (accepted-past_end steps n is))
  holdings-at t n (Some s) is before = holdings-by t n s (takes part s) is refl before

  -- each thread holds the same
  pub same-holdings : (t n : ℕ) → holdings_at (filter (takes part) steps) t (place part steps n) ≡ holdings_at steps t n
  unfolding ours accepted
  same-holdings t zero = ap (λ n. holdings_at ours t n) (place-start part steps)
  same-holdings t (suc n) = holdings-at t n (slice_get steps n) refl (same-holdings t n)

  state-by : (w n : ℕ) (s : Step) (b : Bool) → has_page part (page_of w) ≡ true → slice_get steps n ≡ Some s → takes part s ≡ b
      → state_at ours w (place part steps n) ≡ state_at steps w n → state_at ours w (place part steps (suc n)) ≡ state_at steps w (suc n)
  unfolding ours takes
  state-by w n s true page is taken before =
      ap (state_at ours w) (place-taken part steps n s is taken)
      ∙ state-step ours (place part steps n) s w (kept-at part steps n s is taken)
      ∙ ap (λ h. state_after h (state_at ours w (place part steps n)) w s) (same-holdings s.thread n)
      ∙ ap (λ before. state_after (holdings_at steps s.thread n) before w s) before
      ∙ sym (state-step steps n s w is)
  state-by w n s false page is left before =
      ap (state_at ours w) (place-left part steps n s is left)
      ∙ before
      ∙ sym (state-step steps n s w is ∙ other-event part (holdings_at steps s.thread n) (state_at steps w n) w s.thread s.event left page)

  state-at : (w n : ℕ) (o : Option Step) → has_page part (page_of w) ≡ true → slice_get steps n ≡ o
      → state_at ours w (place part steps n) ≡ state_at steps w n → state_at ours w (place part steps (suc n)) ≡ state_at steps w (suc n)
  state-at w n None page is before =
      ap (state_at ours w) (place-past part steps n is)
      ∙ before
      ∙ sym (state-moved (reading_of steps) w n ∙ ap (moved (state_at steps w n) w) (reading-past steps n is))
  state-at w n (Some s) page is before = state-by w n s (takes part s) page is refl before

  -- each word of the part is in the same state
  pub same-state : (w n : ℕ) → has_page part (page_of w) ≡ true → state_at (filter (takes part) steps) w (place part steps n) ≡ state_at steps w n
  unfolding ours
  same-state w zero page =
      ap (state_at ours w) (place-start part steps) ∙ state-start (reading_of ours) w ∙ sym (state-start (reading_of steps) w)
  same-state w (suc n) page = state-at w n (slice_get steps n) page refl (same-state w n page)

  -- each of the part's steps means the same to the words
  pub same-mark : (n : ℕ) (s : Step) → slice_get steps n ≡ Some s → takes part s ≡ true
      → reading_of (filter (takes part) steps) (place part steps n) ≡ reading_of steps n
  same-mark n s is taken =
      reading-step (filter (takes part) steps) (place part steps n) s (kept-at part steps n s is taken)
      ∙ ap (λ h. marked h s.thread s.event) (same-holdings s.thread n)
      ∙ sym (reading-step steps n s is)

  -- and has the same answer
  pub same-answer : (n : ℕ) (s : Step) → slice_get steps n ≡ Some s → takes part s ≡ true
      → answer (filter (takes part) steps) (place part steps n) ≡ answer steps n
  unfolding takes
  same-answer n s is taken =
      answer-step (filter (takes part) steps) (place part steps n) s (kept-at part steps n s is taken)
      ∙ ap (λ h. answered h (λ w. state_at (filter (takes part) steps) w (place part steps n)) s) (same-holdings s.thread n)
      ∙ own-event part (holdings_at steps s.thread n) (λ w. state_at (filter (takes part) steps) w (place part steps n)) (λ w. state_at steps w n)
      s.thread s.event taken (λ w page. same-state w n page)
      ∙ sym (answer-step steps n s is)

-- What is told of races is their reasons, and stays if more steps and names come behind them.
use Rattle.std.proofs.Common.{◌≡◌, ◌<◌, ◌+◌, ◌∙◌, ℕ, zero, suc, add-one, Bool, true, false, cond, List, [], ◌∷◌, ◌++◌, append-nil, length, map, flat_map, slice_get, slice_index, Option, Some, None, refl, sym, ap, ap₂, arith}
use Rattle.std.specs.List.{All}
use Rattle.std.specs.Option.{option_map, option_to_list}
use Rattle.std.proofs.lemmas.Grind.{flat_map-append}
use Rattle.std.proofs.lemmas.List.{get_or_append_left}
use Rattle.std.proofs.lemmas.List.Elements.{All-nil, All-cons}
use Rattle.er_event.proofs.Lists.{get_front}
use Rattle.er_event.specs.declared.steps.Event.{Event}
use Rattle.er_event.specs.declared.steps.Event.TheVariants.{Acquire, Release, Access, Reuse, IgnoreOn, IgnoreOff, Show, Level, Sync}
use Rattle.er_event.specs.declared.steps.Step.{Step}
use Rattle.er_explain.specs.Racing.{places_below}
use Rattle.er_model.specs.Explanations.{word_in, word_of}
use Rattle.er_order.specs.ByBytes.{Touched, unordered_by_bytes}
use Rattle.er_report.proofs.NamedLemmas.{named_step}
use Rattle.er_report.specs.Builder.{GoesOn}
use Rattle.er_report.specs.Names.{HasReasonNames}
use Rattle.er_report.specs.Reasons.{access_reason, step_reason}
use Rattle.er_report.specs.declared.report.Because.{Because}
use Rattle.er_report.specs.declared.report.Label.TheVariants as label
use Rattle.er_trace.specs.Trace.{Recording, IsNamed}
use Rattle.er_unordered.proofs.BytesLemmas.{is-earlier, unordered-stays}
use Rattle.er_unordered.specs.Tags.{line_reason, one_told, tag_at, told_at}
use Rattle.er_unordered.specs.Reasons.{order_reasons, reasons_with}

-- an access is told on its line
module _ (number : ℕ) where
  event-told : (t : ℕ) (e : Event) (w : ℕ) → word_in e ≡ Some w
      → access_reason label.Unordered number t e ≡ line_reason number (Some (record { thread = t; event = e })) ∷ []
  event-told t (Access kind v site) w is = refl
  event-told t (Acquire l m) w is = cc
  event-told t (Release l m) w is = cc
  event-told t (Reuse range) w is = cc
  event-told t IgnoreOn w is = cc
  event-told t IgnoreOff w is = cc
  event-told t (Show v) w is = cc
  event-told t (Level n) w is = cc
  event-told t (Sync sync) w is = cc

  step-told : (o : Option Step) (w : ℕ) → word_of o ≡ Some w → step_reason label.Unordered number o ≡ line_reason number o ∷ []
  step-told None w is = cc
  step-told (Some step) w is = event-told step.thread step.event w is

module _ (touched : Touched) (r : Recording) (k : ℕ) where
  told-by : (o : Option ℕ) → ((j : ℕ) → o ≡ Some j → (w : ℕ) × (word_of (slice_get r.steps j) ≡ Some w))
      → option_to_list (option_map (tag_at line_reason r) o) ≡ reasons_with r o
  unfolding tag_at
  told-by None known = refl
  told-by (Some j) known = let word = known j refl in sym (step-told (slice_index r.lines j) (slice_get r.steps j) word.0 word.1)

  reason-told : option_to_list (option_map (tag_at line_reason r) (unordered_by_bytes touched r.steps k)) ≡ order_reasons touched r k
  unfolding order_reasons
  reason-told =
      told-by (unordered_by_bytes touched r.steps k)
      (λ j is. let found = is-earlier touched r.steps k j is in (found.0, found.1))

-- what is told of the races is their reasons
pub reasons-told : (touched : Touched) (r : Recording) (races : List ℕ) → told_at line_reason one_told touched r races ≡ map (order_reasons touched r) races
reasons-told touched r [] = refl
reasons-told touched r (k ∷ races) = ap₂ (λ (reasons : List Because) (rest : List (List Because)). reasons ∷ rest) (reason-told touched r k) (reasons-told touched r races)

-- what is told of one position more
pub told-next : (f : ℕ → List (List Because)) (test : ℕ → Bool) (k : ℕ) → flat_map f (places_below test (k + 1)) ≡ flat_map f (places_below test k) ++ cond (test k) (f k) []
unfolding places_below
told-next f test k = ap (λ n. flat_map f (places_below test n)) (add-one k) ∙ next
  where
    one : (b : Bool) → flat_map f (cond b (k ∷ []) []) ≡ cond b (f k) []
    one true = append-nil (f k)
    one false = refl

    next : flat_map f (places_below test (suc k)) ≡ flat_map f (places_below test k) ++ cond (test k) (f k) []
    next = flat_map-append f (places_below test k) (cond (test k) (k ∷ []) []) ∙ ap (λ last. flat_map f (places_below test k) ++ last) (one (test k))

-- what agrees at each place below n is told the same
places-told : (f g : ℕ → List (List Because)) (test : ℕ → Bool) (n : ℕ) → ((k : ℕ) → k < n → f k ≡ g k) → flat_map f (places_below test n) ≡ flat_map g (places_below test n)
unfolding places_below
places-told f g test zero same = refl
places-told f g test (suc n) same =
    flat_map-append f (places_below test n) (cond (test n) (n ∷ []) [])
    ∙ ap₂ (λ a b. a ++ b) (places-told f g test n (λ k below. same k (omega arith))) (last (test n))
    ∙ sym (flat_map-append g (places_below test n) (cond (test n) (n ∷ []) []))
  where
    last : (b : Bool) → flat_map f (cond b (n ∷ []) []) ≡ flat_map g (cond b (n ∷ []) [])
    last true = ap (λ reasons. reasons ++ []) (same n (omega arith))
    last false = refl

-- more steps and names
module _ (touched : Touched) (before after : Recording) (on : GoesOn before after) where
  step-there : (k : ℕ) → k < length before.steps → slice_get after.steps k ≡ slice_get before.steps k
  step-there k below = ap (λ (steps : List Step). slice_get steps k) on.steps ∙ get_front before.steps on.more k below

  number-there : (k : ℕ) → k < length before.steps → slice_index after.lines k ≡ slice_index before.lines k
  number-there k below =
      ap (λ (lines : List ℕ). slice_index lines k) on.lines
      ∙ get_or_append_left before.lines on.others 0 k (let even : length before.lines ≡ length before.steps = on.long in omega arith)

  with-there : (k : ℕ) → k < length before.steps → unordered_by_bytes touched after.steps k ≡ unordered_by_bytes touched before.steps k
  with-there k below = ap (λ (steps : List Step). unordered_by_bytes touched steps k) on.steps ∙ unordered-stays touched before.steps on.more k below

  module _ {A : Type 0} (tag_of : ℕ → Option Step → A) (told_of : Option A → List (List Because)) where
    pub tag-there : (k : ℕ) → k < length before.steps → tag_at tag_of after k ≡ tag_at tag_of before k
    unfolding tag_at
    tag-there k below = ap₂ tag_of (number-there k below) (step-there k below)

    found-there : (o : Option ℕ) → ((j : ℕ) → o ≡ Some j → j < length before.steps) → option_map (tag_at tag_of after) o ≡ option_map (tag_at tag_of before) o
    found-there None below = refl
    found-there (Some j) below = ap Some (tag-there j (below j refl))

    told-there : (k : ℕ) → k < length before.steps
        → told_of (option_map (tag_at tag_of before) (unordered_by_bytes touched before.steps k)) ≡ told_of (option_map (tag_at tag_of after) (unordered_by_bytes touched after.steps k))
    told-there k below =
        ap told_of
        (sym (found-there (unordered_by_bytes touched before.steps k) (λ j is. let earlier : j < k = (is-earlier touched before.steps k j is).2 in omega arith))
        ∙ ap (option_map (tag_at tag_of after)) (sym (with-there k below)))

    pub told-stays : (races : List ℕ) (test : ℕ → Bool) → races ≡ places_below test (length before.steps) → told_at tag_of told_of touched before races ≡ told_at tag_of told_of touched after races
    told-stays races test is =
        ap (told_at tag_of told_of touched before) is
        ∙ places-told (λ k. told_of (option_map (tag_at tag_of before) (unordered_by_bytes touched before.steps k))) (λ k. told_of (option_map (tag_at tag_of after) (unordered_by_bytes touched after.steps k))) test (length before.steps) told-there
        ∙ ap (told_at tag_of told_of touched after) (sym is)

-- each reason has its names
module _ (r : Recording) (named : All (IsNamed r.names) r.steps) where
  event-named : (number t : ℕ) (e : Event) → t < length r.names.threads → All (HasReasonNames r.names) (access_reason label.Unordered number t e)
  event-named number t (Access kind w site) within = All-cons (HasReasonNames r.names) _ [] (within, tt) (All-nil (HasReasonNames r.names))
  event-named number t (Acquire l m) within = All-nil (HasReasonNames r.names)
  event-named number t (Release l m) within = All-nil (HasReasonNames r.names)
  event-named number t (Reuse range) within = All-nil (HasReasonNames r.names)
  event-named number t IgnoreOn within = All-nil (HasReasonNames r.names)
  event-named number t IgnoreOff within = All-nil (HasReasonNames r.names)
  event-named number t (Show w) within = All-nil (HasReasonNames r.names)
  event-named number t (Level n) within = All-nil (HasReasonNames r.names)
  event-named number t (Sync sync) within = All-nil (HasReasonNames r.names)

  step-named : (number j : ℕ) (o : Option Step) → slice_get r.steps j ≡ o → All (HasReasonNames r.names) (step_reason label.Unordered number o)
  step-named number j None is = All-nil (HasReasonNames r.names)
  step-named number j (Some step) is = event-named number step.thread step.event (named_step r.names r.steps named j step is).thread

  reasons-named-by : (o : Option ℕ) → All (HasReasonNames r.names) (reasons_with r o)
  reasons-named-by None = All-nil (HasReasonNames r.names)
  reasons-named-by (Some j) = step-named (slice_index r.lines j) j (slice_get r.steps j) refl

  pub reasons-named : (touched : Touched) (k : ℕ) → All (HasReasonNames r.names) (order_reasons touched r k)
  unfolding order_reasons
  reasons-named touched k = reasons-named-by (unordered_by_bytes touched r.steps k)

-- Steps that come later change nothing of what an access or a reuse is unordered with.
use Rattle.std.proofs.Common.{◌≡◌, ℕ, zero, suc, ◌<◌, Bool, true, ◌&&◌, ◌||◌, ◌==◌, not, cond, is_some, nat_lt, List, [], ◌∷◌, ◌++◌, length, slice_get, Option, Some, None, refl, ap, ap₂, ◌∙◌, arith}
use Rattle.std.proofs.lemmas.Bool.{eq-eqb, or_left, or_right}
use Rattle.std.specs.List.{list_any}
use Rattle.er_event.specs.Lockset.{has}
use Rattle.er_event.specs.declared.addresses.PageRange.{PageRange}
use Rattle.er_event.specs.declared.steps.Event.{Event}
use Rattle.er_event.specs.declared.steps.Event.TheVariants.{Acquire, Release, Access, Reuse, IgnoreOn, IgnoreOff, Show, Level, Sync}
use Rattle.er_event.specs.declared.steps.Step.{Step}
use Rattle.er_event.proofs.Lists.{get_front}
use Rattle.er_model.specs.Words.{Reading, reuses, era, counted_from, is_within, one_past}
use Rattle.er_model.specs.Answers.{reading_of}
use Rattle.er_model.proofs.Search.{some_below-agree, least_below-agree}
use Rattle.er_model.proofs.Prefixes.{reading-front}
use Rattle.er_order.specs.Order.{Acts, acts_of, leads_from, with_next, reached, happens_before}
use Rattle.er_order.specs.Races.{Order, conflicts, is_race, had_race, last_use, is_in_use, word_in_use}
use Rattle.er_order.specs.Reasons.{last_unordered, use_of, unordered_by, unordered_in, unordered_with}
use Rattle.er_order.proofs.Order.{reached-below}
use Rattle.er_order.proofs.Searches.{greatest-agree}
use Rattle.er_order.proofs.StepLemmas.{acts-front}

any-agree : (p q : ℕ → Bool) (xs : List ℕ) → ((i : ℕ) → has xs i ≡ true → p i ≡ q i) → list_any p xs ≡ list_any q xs
any-agree p q [] same = refl
any-agree p q (x ∷ xs) same =
    ap₂ (λ a b. a || b) (same x (or_left (x == x) (has xs x) (eq-eqb x x refl))) (any-agree p q xs (λ i member. same i (or_right (x == i) (has xs i) member)))

-- acts that agree up to a position are in the same order there
module _ (acts others : Acts) (j : ℕ) where
  reached-agree : (n : ℕ) → ((i : ℕ) → i < n → acts i ≡ others i) → reached acts j n ≡ reached others j n
  unfolding reached
  reached-agree zero same = refl
  reached-agree (suc n) same =
      ap (λ xs. with_next acts j n xs) (reached-agree n (λ i below. same i (omega arith)))
      ∙ ap (λ b. cond (n == j || b) (n ∷ reached others j n) (reached others j n))
      (any-agree (λ i. leads_from (acts i) (acts n)) (λ i. leads_from (others i) (others n)) (reached others j n)
      (λ i member. ap₂ leads_from (same i (let low = reached-below others j n i member in omega arith)) (same n (omega arith))))

  pub order-agree : (k : ℕ) → ((i : ℕ) → i < suc k → acts i ≡ others i) → happens_before acts j k ≡ happens_before others j k
  unfolding happens_before
  order-agree k same = ap (λ xs. nat_lt j k && has xs k) (reached-agree (suc k) same)

-- readings that agree up to a position have the same conflicts there
module _ (r s : Reading) (w : ℕ) where
  pub era-agree : (n : ℕ) → ((i : ℕ) → i < n → r i ≡ s i) → era r w n ≡ era s w n
  unfolding era
  era-agree n same = ap one_past (greatest-agree n (λ k. reuses (r k) w) (λ k. reuses (s k) w) (λ k below. ap (λ mark. reuses mark w) (same k below)))

  pub conflicts-agree : (j k : ℕ) → ((i : ℕ) → i < suc k → r i ≡ s i) → j < k → conflicts r w j k ≡ conflicts s w j k
  unfolding conflicts
  conflicts-agree j k same below = rw (era-agree (suc k) same, same j (omega arith), same k (omega arith)) refl

  last-agree : (one two : Order) (k : ℕ) → ((i : ℕ) → i < suc k → r i ≡ s i) → ((j : ℕ) → j < k → one j k ≡ two j k) → last_unordered one r w k ≡ last_unordered two s w k
  unfolding last_unordered
  last-agree one two k same orders =
      greatest-agree k (λ j. conflicts r w j k && not (one j k)) (λ j. conflicts s w j k && not (two j k))
      (λ j below. ap₂ (λ a b. a && not b) (conflicts-agree j k same below) (orders j below))

  use-agree : (one two : Order) (k : ℕ) → ((i : ℕ) → i < k → r i ≡ s i) → ((j : ℕ) → j < k → one j k ≡ two j k) → last_use one r w k ≡ last_use two s w k
  unfolding last_use
  use-agree one two k same orders =
      greatest-agree k (λ j. counted_from r w (era r w k) j && not (one j k)) (λ j. counted_from s w (era s w k) j && not (two j k))
      (λ j below. ap₂ (λ a b. a && not b) (rw (era-agree k same, same j below) refl) (orders j below))

  race_agree : (one two : Order) (k : ℕ) → ((i : ℕ) → i < suc k → r i ≡ s i) → ((j : ℕ) → j < k → one j k ≡ two j k) → is_race one r w k ≡ is_race two s w k
  unfolding is_race
  race_agree one two k same orders =
      some_below-agree k (λ j. conflicts r w j k && not (one j k)) (λ j. conflicts s w j k && not (two j k))
      (λ j below. ap₂ (λ a b. a && not b) (conflicts-agree j k same below) (orders j below))

  pub had-agree : (one two : Order) (n : ℕ) → ((i : ℕ) → i < n → r i ≡ s i) → ((i j : ℕ) → i < j → j < n → one i j ≡ two i j) → had_race one r w n ≡ had_race two s w n
  unfolding had_race
  had-agree one two n same orders =
      some_below-agree n (λ j. counted_from r w (era r w n) j && is_race one r w j) (λ j. counted_from s w (era s w n) j && is_race two s w j)
      (λ j below. ap₂ (λ a b. a && b) (rw (era-agree n same, same j below) refl)
      (race_agree one two j (λ i low. same i (omega arith)) (λ i low. orders i j low below)))

-- the order and the reading below a later list's earlier position
module _ (steps more : List Step) (k : ℕ) (below : k < length steps) where
  abbrev hb_long : Order
  hb_long = happens_before (acts_of (steps ++ more))

  abbrev hb_short : Order
  hb_short = happens_before (acts_of steps)

  same_reading : (i : ℕ) → i < suc k → reading_of (steps ++ more) i ≡ reading_of steps i
  same_reading i low = reading-front steps more i (omega arith)

  same_order : (j : ℕ) → j < k → hb_long j k ≡ hb_short j k
  same_order j low = order-agree (acts_of (steps ++ more)) (acts_of steps) j k (λ i under. acts-front steps more i (omega arith))

  same_last : (w : ℕ) → last_unordered hb_long (reading_of (steps ++ more)) w k ≡ last_unordered hb_short (reading_of steps) w k
  same_last w = last-agree (reading_of (steps ++ more)) (reading_of steps) w hb_long hb_short k same_reading same_order

  same_use : (w : ℕ) → last_use hb_long (reading_of (steps ++ more)) w k ≡ last_use hb_short (reading_of steps) w k
  same_use w = use-agree (reading_of (steps ++ more)) (reading_of steps) w hb_long hb_short k (λ i low. same_reading i (omega arith)) same_order

  same_had : (w : ℕ) → had_race hb_long (reading_of (steps ++ more)) w k ≡ had_race hb_short (reading_of steps) w k
  same_had w =
      had-agree (reading_of (steps ++ more)) (reading_of steps) w hb_long hb_short k (λ i low. same_reading i (omega arith))
      (λ i j low high. order-agree (acts_of (steps ++ more)) (acts_of steps) i j (λ x under. acts-front steps more x (omega arith)))

  pub same-in-use : (range : PageRange) → word_in_use hb_long (reading_of (steps ++ more)) k range ≡ word_in_use hb_short (reading_of steps) k range
  unfolding word_in_use is_in_use
  same-in-use range =
      least_below-agree (suc range.hi) (λ w. is_within w range && (is_some (last_use hb_long (reading_of (steps ++ more)) w k) && not (had_race hb_long (reading_of (steps ++ more)) w k)))
      (λ w. is_within w range && (is_some (last_use hb_short (reading_of steps) w k) && not (had_race hb_short (reading_of steps) w k)))
      (λ w low. ap₂ (λ (o : Option ℕ) b. is_within w range && (is_some o && not b)) (same_use w) (same_had w))

  same_use_of : (o : Option ℕ) → use_of (steps ++ more) k o ≡ use_of steps k o
  same_use_of None = refl
  same_use_of (Some w) = same_use w

  same_event : (e : Event) → unordered_by (steps ++ more) k e ≡ unordered_by steps k e
  same_event (Access kind w site) = same_last w
  same_event (Reuse range) = ap (use_of (steps ++ more) k) (same-in-use range) ∙ same_use_of (word_in_use hb_short (reading_of steps) k range)
  same_event (Acquire l m) = refl
  same_event (Release l m) = refl
  same_event IgnoreOn = refl
  same_event IgnoreOff = refl
  same_event (Show w) = refl
  same_event (Level n) = refl
  same_event (Sync sync) = refl

  same_step : (o : Option Step) → unordered_in (steps ++ more) k o ≡ unordered_in steps k o
  same_step None = refl
  same_step (Some s) = same_event s.event

  pub unordered-stays : unordered_with (steps ++ more) k ≡ unordered_with steps k
  unfolding unordered_with
  unordered-stays = ap (unordered_in (steps ++ more) k) (get_front steps more k below) ∙ same_step (slice_get steps k)

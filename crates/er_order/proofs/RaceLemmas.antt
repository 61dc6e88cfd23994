-- Whether an access is unordered with a conflicting one follows from the last write and the latest reads, while its era had no race.
use Rattle.std.proofs.Common.{◌≡◌, ℕ, zero, suc, ◌<◌, ◌≤◌, Bool, true, false, ◌&&◌, ◌||◌, ◌==◌, not, cond, nat_le, [], ◌∷◌, filter, Option, Some, None, refl, sym, ◌∙◌, arith, ⊎_elim, inl, inr, ◌⊎◌}
use Rattle.std.proofs.lemmas.Bool.{le-leb, leb-true, eq-eqb, or_left, or_right, or_cases, and_parts, and_from, both_ways, not-true, not_from_false, false_from_ne_true}
use Rattle.std.specs.List.{list_any}
use Rattle.er_event.specs.Lockset.{has}
use Rattle.er_event.proofs.LocksetLemmas.{has-filtered}
use Rattle.er_model.specs.Search.{some_below, greatest_below}
use Rattle.er_model.specs.Words.{Mark, Counted, Reused, Shown, Nothing, Reading, reuses, counts, writes, era, counted_from}
use Rattle.er_model.proofs.Search.{below_or_at}
use Rattle.er_model.proofs.Meaning.{some_below-found, some_below-from}
use Rattle.er_model.proofs.Words.{era-kept, era-reused}
use Rattle.er_order.specs.Races.{Order, is_apart, conflicts, is_race, had_race, last_write, past_write, latest_from, latest_reads}
use Rattle.er_order.proofs.Order.{any-found, any-from, next-cases}
use Rattle.er_order.proofs.Clocks.{equal_Bool}
use Rattle.er_order.proofs.Searches.{greatest-Some}

pub not-reused : (mark : Mark) (w : ℕ) → counts mark w ≡ true → reuses mark w ≡ false
unfolding counts reuses
not-reused (Counted t kind word cover) w e = refl
not-reused (Reused range) w e = cc
not-reused (Shown word) w e = cc
not-reused Nothing w e = cc

-- an era's points have its start
era_by : (r : Reading) (w m n : ℕ) (b : Bool) → reuses (r n) w ≡ b → m ≤ n → era r w (suc n) ≤ m → (era r w n ≤ m → era r w m ≡ era r w n) → era r w m ≡ era r w (suc n)
era_by r w m n true reused low start rest = let at = era-reused r w n reused in absurd (omega arith)
era_by r w m n false kept low start rest = let at = era-kept r w n kept in rest (rw (← at) start) ∙ sym at

pub era-within : (r : Reading) (w m n : ℕ) → m ≤ n → era r w n ≤ m → era r w m ≡ era r w n
era-within r w m zero low start = let same : m ≡ 0 = omega arith in rw same refl
era-within r w m (suc n) low start =
    ⊎_elim
    (λ below. era_by r w m n (reuses (r n) w) refl (omega arith) start (λ start'. era-within r w m n (omega arith) start'))
    (λ same. rw same refl)
    (below_or_at m (suc n) (omega arith))

-- the greatest search finds something where something passes
greatest_there_by : (n k : ℕ) (p : ℕ → Bool) (b : Bool) → p n ≡ b → k < suc n → p k ≡ true → (k < n → (i : ℕ) × (greatest_below n p ≡ Some i) × (k ≤ i)) → (i : ℕ) × (cond (p n) (Some n) (greatest_below n p) ≡ Some i) × (k ≤ i)
greatest_there_by n k p true passes below e rest = (n, rw passes refl, omega arith)
greatest_there_by n k p false fails below e rest =
    ⊎_elim (λ low. let found = rest low in (found.0, rw fails found.1, found.2)) (λ same. absurd (both_ways (p n) fails (rw same at e))) (below_or_at k n below)

pub greatest-there : (n k : ℕ) (p : ℕ → Bool) → k < n → p k ≡ true → (i : ℕ) × (greatest_below n p ≡ Some i) × (k ≤ i)
unfolding greatest_below
greatest-there zero k p below e = absurd (omega arith)
greatest-there (suc n) k p below e = greatest_there_by n k p (p n) refl below e (λ low. greatest-there n k p low e)

module _ (order : Order) (r : Reading) (w : ℕ) where
  -- a race, by its parts
  abbrev pub IsRace : ℕ → Type 0
  IsRace k = (j : ℕ) × (j < k) × (counted_from r w (era r w (suc k)) j ≡ true) × (counts (r k) w ≡ true) × ((writes (r j) || writes (r k)) ≡ true) × (order j k ≡ false)

  pub race-found : (k : ℕ) → is_race order r w k ≡ true → IsRace k
  unfolding is_race conflicts
  race-found k e =
      let found = some_below-found k (λ j. (counted_from r w (era r w (suc k)) j && (counts (r k) w && (writes (r j) || writes (r k)))) && not (order j k)) e in
      let outer = and_parts (counted_from r w (era r w (suc k)) found.0 && (counts (r k) w && (writes (r found.0) || writes (r k)))) (not (order found.0 k)) found.2 in
      let parts = and_parts (counted_from r w (era r w (suc k)) found.0) (counts (r k) w && (writes (r found.0) || writes (r k))) outer.0 in
      let inner = and_parts (counts (r k) w) (writes (r found.0) || writes (r k)) parts.1 in
      (found.0, found.1, parts.0, inner.0, inner.1, not-true (order found.0 k) outer.1)

  pub race-from : (k : ℕ) → IsRace k → is_race order r w k ≡ true
  unfolding is_race conflicts
  race-from k (j, below, counted, here, wrote, apart) =
      some_below-from k (λ j. (counted_from r w (era r w (suc k)) j && (counts (r k) w && (writes (r j) || writes (r k)))) && not (order j k)) j below
      (and_from (counted_from r w (era r w (suc k)) j && (counts (r k) w && (writes (r j) || writes (r k)))) (not (order j k))
      (and_from (counted_from r w (era r w (suc k)) j) (counts (r k) w && (writes (r j) || writes (r k))) counted
      (and_from (counts (r k) w) (writes (r j) || writes (r k)) here wrote))
      (not_from_false (order j k) apart))

  -- the latest reads
  pub latest_cases : (start n i : ℕ) → has (latest_from order r w start (suc n)) i ≡ true →
      ((n ≡ i) × ((counted_from r w start n && not (writes (r n))) ≡ true)) ⊎ (has (latest_from order r w start n) i ≡ true)
  unfolding latest_from
  latest_cases start n i e = by (counted_from r w start n && not (writes (r n))) refl e
    where
      by : (b : Bool) → (counted_from r w start n && not (writes (r n))) ≡ b →
          has (cond b (n ∷ filter (λ j. not (order j n)) (latest_from order r w start n)) (latest_from order r w start n)) i ≡ true →
          ((n ≡ i) × ((counted_from r w start n && not (writes (r n))) ≡ true)) ⊎ (has (latest_from order r w start n) i ≡ true)
      by true is member =
          ⊎_elim
          (λ here. inl (here.0, is))
          (λ there. inr (and_parts (not (order i n)) (has (latest_from order r w start n) i) (sym (has-filtered (λ j. not (order j n)) (latest_from order r w start n) i) ∙ there)).1)
          (next-cases true n i (filter (λ j. not (order j n)) (latest_from order r w start n)) member)
      by false is member = inr member

  pub latest-in : (start n i : ℕ) → has (latest_from order r w start n) i ≡ true → (i < n) × (counted_from r w start i ≡ true)
  unfolding latest_from
  latest-in start zero i e = cc
  latest-in start (suc n) i e =
      ⊎_elim
      (λ here. (omega (arith, here.0), rw (← here.0) (and_parts (counted_from r w start n) (not (writes (r n))) here.1).0))
      (λ there. let low = latest-in start n i there in (omega (arith, low.0), low.1))
      (latest_cases start n i e)

  pub latest-empty : (start n : ℕ) → n ≤ start → latest_from order r w start n ≡ []
  unfolding latest_from
  latest-empty start zero low = refl
  latest-empty start (suc n) low =
      rw (false_from_ne_true (nat_le start n) (λ e. let above = leb-true start n e in absurd (omega arith)))
      (latest-empty start n (omega arith))

  abbrev IsCovered : ℕ → ℕ → ℕ → Type 0
  IsCovered start n j = (p : ℕ) × (has (latest_from order r w start n) p ≡ true) × ((p ≡ j) ⊎ (order j p ≡ true))

  module _ (chain : (i j k : ℕ) → order i j ≡ true → order j k ≡ true → order i k ≡ true) where
    -- what was covered stays so
    covered_on : (start n j : ℕ) (b : Bool) → (counted_from r w start n && not (writes (r n))) ≡ b → IsCovered start n j → IsCovered start (suc n) j
    unfolding latest_from
    covered_on start n j false other (p, member, before) = (p, rw other member, before)
    covered_on start n j true is (p, member, before) = by (order p n) refl
      where
        by : (b : Bool) → order p n ≡ b → IsCovered start (suc n) j
        by false apart = (
          p,
          rw is (or_right (n == p) (has (filter (λ j. not (order j n)) (latest_from order r w start n)) p)
              (has-filtered (λ j. not (order j n)) (latest_from order r w start n) p ∙ and_from (not (order p n)) (has (latest_from order r w start n) p) (not_from_false (order p n) apart) member)),
          before,
        )
        by true later = (
          n,
          rw is (or_left (n == n) (has (filter (λ j. not (order j n)) (latest_from order r w start n)) n) (eq-eqb n n refl)),
          inr (⊎_elim (λ same. rw (← same) later) (λ first. chain j p n first later) before),
        )

    covered : (start n j : ℕ) → j < n → counted_from r w start j ≡ true → writes (r j) ≡ false → IsCovered start n j
    unfolding latest_from
    covered start zero j below counted read = absurd (omega arith)
    covered start (suc n) j below counted read =
        ⊎_elim
        (λ low. covered_on start n j (counted_from r w start n && not (writes (r n))) refl (covered start n j low counted read))
        (λ same. let is : (counted_from r w start n && not (writes (r n))) ≡ true = rw (← same) (and_from (counted_from r w start j) (not (writes (r j))) counted (not_from_false (writes (r j)) read)) in
        (n, rw is (or_left (n == n) (has (filter (λ j. not (order j n)) (latest_from order r w start n)) n) (eq-eqb n n refl)), inl (sym same)))
        (below_or_at j n below)

    module _ (k : ℕ) (here : counts (r k) w ≡ true) (none : had_race order r w k ≡ false) where
      abbrev start : ℕ
      start = era r w k

      pub start_at : era r w (suc k) ≡ start
      start_at = era-kept r w k (not-reused (r k) w here)

      -- an earlier access of the era isn't a race
      no_race : (v : ℕ) → v < k → counted_from r w start v ≡ true → is_race order r w v ≡ true → ⊥
      unfolding had_race
      no_race v below counted race =
          both_ways (some_below k (λ j. counted_from r w start j && is_race order r w j)) none
          (some_below-from k (λ j. counted_from r w start j && is_race order r w j) v below (and_from (counted_from r w start v) (is_race order r w v) counted race))

      -- so an access comes in order before a later write
      pub before_write : (j v : ℕ) → j < v → v < k → counted_from r w start j ≡ true → counted_from r w start v ≡ true → writes (r v) ≡ true → (b : Bool) → order j v ≡ b → order j v ≡ true
      before_write j v low below at_j at_v wrote true is = is
      before_write j v low below at_j at_v wrote false apart =
          let parts = and_parts (nat_le start v) (counts (r v) w) at_v in
          let above = leb-true start v parts.0 in
          let same : era r w (suc v) ≡ start = era-within r w (suc v) k (omega arith) (omega arith) in
          absurd (no_race v below at_v (race-from v (j, low, rw same at_j, parts.1, or_right (writes (r j)) (writes (r v)) wrote, apart)))

      -- what is apart from k leaves apart what comes after it
      pub later_apart : (j p : ℕ) → order j k ≡ false → (p ≡ j) ⊎ (order j p ≡ true) → order p k ≡ false
      later_apart j p apart (inl same) = rw same apart
      later_apart j p apart (inr first) = false_from_ne_true (order p k) (λ second. both_ways (order j k) apart (chain j p k first second))

      abbrev finds : Bool
      finds = is_apart order (last_write r w k) k || (writes (r k) && list_any (λ j. not (order j k)) (latest_reads order r w k))

      by_write : (v : ℕ) → last_write r w k ≡ Some v → order v k ≡ false → finds ≡ true
      by_write v is apart = or_left (is_apart order (last_write r w k) k) (writes (r k) && list_any (λ j. not (order j k)) (latest_reads order r w k)) (rw is (not_from_false (order v k) apart))

      abbrev write_test : ℕ → Bool
      write_test i = counted_from r w start i && writes (r i)

      pub found_write : (v : ℕ) → last_write r w k ≡ Some v → (v < k) × (counted_from r w start v ≡ true) × (writes (r v) ≡ true)
      unfolding last_write
      found_write v is =
          let found = greatest-Some k v write_test is in
          let parts = and_parts (counted_from r w start v) (writes (r v)) found.1 in
          (found.0, parts.0, parts.1)

      pub write_there : (j : ℕ) → j < k → counted_from r w start j ≡ true → writes (r j) ≡ true → (v : ℕ) × (last_write r w k ≡ Some v) × (j ≤ v)
      unfolding last_write
      write_there j below counted wrote = greatest-there k j write_test below (and_from (counted_from r w start j) (writes (r j)) counted wrote)

      -- the write at j or a later one
      from_write : (j : ℕ) → j < k → counted_from r w start j ≡ true → writes (r j) ≡ true → order j k ≡ false → finds ≡ true
      from_write j below counted wrote apart =
          let there = write_there j below counted wrote in
          let found = found_write there.0 there.1 in
          by_write there.0 there.1
          (later_apart j there.0 apart
          (⊎_elim
          (λ low. inr (before_write j there.0 low found.0 counted found.1 found.2 (order j there.0) refl))
          (λ same. inl (sym same))
          (below_or_at j there.0 (let above = there.2 in omega arith))))

      -- a read since the last write, or the write after it
      by_read : (s j : ℕ) → past_write start (last_write r w k) ≡ s → s ≤ j → j < k → counts (r j) w ≡ true → writes (r j) ≡ false → writes (r k) ≡ true → order j k ≡ false → finds ≡ true
      unfolding latest_reads
      by_read s j is low below counted read wrote apart =
          let cover = covered s k j below (and_from (nat_le s j) (counts (r j) w) (le-leb s j low) counted) read in
          or_right (is_apart order (last_write r w k) k) (writes (r k) && list_any (λ j. not (order j k)) (latest_from order r w (past_write start (last_write r w k)) k))
          (and_from (writes (r k)) (list_any (λ j. not (order j k)) (latest_from order r w (past_write start (last_write r w k)) k)) wrote
          (rw is (any-from (λ j. not (order j k)) (latest_from order r w s k) cover.0 cover.1 (not_from_false (order cover.0 k) (later_apart j cover.0 apart cover.2)))))

      from_read : (o : Option ℕ) → last_write r w k ≡ o → (j : ℕ) → j < k → counted_from r w start j ≡ true → writes (r j) ≡ false → writes (r k) ≡ true → order j k ≡ false → finds ≡ true
      from_read None is j below counted read wrote apart =
          let parts = and_parts (nat_le start j) (counts (r j) w) counted in
          by_read start j (rw is refl) (leb-true start j parts.0) below parts.1 read wrote apart
      from_read (Some v) is j below counted read wrote apart =
          let parts = and_parts (nat_le start j) (counts (r j) w) counted in
          let found = found_write v is in
          ⊎_elim
          (λ low. by_write v is (later_apart j v apart (⊎_elim (λ less. inr (before_write j v less found.0 counted found.1 found.2 (order j v) refl)) (λ same. inl (sym same)) (below_or_at j v low))))
          (λ above. by_read (suc v) j (rw is refl) above below parts.1 read wrote apart)
          (sides j v)
        where
          sides : (j v : ℕ) → (j < suc v) ⊎ (suc v ≤ j)
          sides j v = grind arith

      race_finds : is_race order r w k ≡ true → finds ≡ true
      race_finds e =
          let found = race-found k e in
          by found.0 found.1 (rw (← start_at) found.2) found.4 found.5 (writes (r found.0)) refl
        where
          by : (j : ℕ) → j < k → counted_from r w start j ≡ true → (writes (r j) || writes (r k)) ≡ true → order j k ≡ false → (b : Bool) → writes (r j) ≡ b → finds ≡ true
          by j below counted either apart true wrote = from_write j below counted wrote apart
          by j below counted either apart false read = from_read (last_write r w k) refl j below counted read (⊎_elim (λ wrote. absurd (both_ways (writes (r j)) read wrote)) (λ wrote. wrote) (or_cases (writes (r j)) (writes (r k)) either)) apart

      -- and the other way round
      pub write_race : (o : Option ℕ) → last_write r w k ≡ o → is_apart order o k ≡ true → is_race order r w k ≡ true
      write_race None is e = cc
      write_race (Some v) is e =
          let found = found_write v is in
          race-from k (v, found.0, rw start_at found.1, here, or_left (writes (r v)) (writes (r k)) found.2, not-true (order v k) e)

      pub past_above : (o : Option ℕ) → last_write r w k ≡ o → start ≤ past_write start o
      past_above None is = omega arith
      past_above (Some v) is = let found = found_write v is in let above = leb-true start v (and_parts (nat_le start v) (counts (r v) w) found.1).0 in omega arith

      read_race : writes (r k) ≡ true → list_any (λ j. not (order j k)) (latest_reads order r w k) ≡ true → is_race order r w k ≡ true
      unfolding latest_reads
      read_race wrote e =
          let some = any-found (λ j. not (order j k)) (latest_from order r w (past_write start (last_write r w k)) k) e in
          let found = latest-in (past_write start (last_write r w k)) k some.0 some.1 in
          let parts = and_parts (nat_le (past_write start (last_write r w k)) some.0) (counts (r some.0) w) found.1 in
          let low = past_above (last_write r w k) refl in
          let above = leb-true (past_write start (last_write r w k)) some.0 parts.0 in
          race-from k (some.0, found.0, rw start_at (and_from (nat_le start some.0) (counts (r some.0) w) (le-leb start some.0 (omega arith)) parts.1), here, or_right (writes (r some.0)) (writes (r k)) wrote, not-true (order some.0 k) some.2)

      finds_race : finds ≡ true → is_race order r w k ≡ true
      finds_race e =
          ⊎_elim
          (λ late. write_race (last_write r w k) refl late)
          (λ more. let parts = and_parts (writes (r k)) (list_any (λ j. not (order j k)) (latest_reads order r w k)) more in read_race parts.0 parts.1)
          (or_cases (is_apart order (last_write r w k) k) (writes (r k) && list_any (λ j. not (order j k)) (latest_reads order r w k)) e)

      pub race-finds : is_race order r w k ≡ finds
      race-finds = equal_Bool (is_race order r w k) finds race_finds finds_race

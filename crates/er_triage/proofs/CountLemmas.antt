-- A race more is counted at its rule, and no other count changes.
use Rattle.std.proofs.Common.{◌≡◌, ◌<◌, ◌≤◌, ◌+◌, ◌^◌, ◌∙◌, ◌==◌, ◌⊎◌, inl, inr, ℕ, zero, suc, Bool, true, false, cond, not, nat_lt, nat_eq, is_some, IfSome, IsSome, IsSomeAnd, List, [], ◌∷◌, ◌++◌, length, map, position, count_by, slice_get, slice_set, slice_index_or, get_or, Option, Some, None, All, refl, sym, ap, subst, append_assoc, append-nil, zero-add, arith}
use Rattle.std.specs.List.{find, fold, position_or_len}
use Rattle.std.specs.Option.{option_or}
use Rattle.std.proofs.Math.Seq.{map-set_same}
use Rattle.std.proofs.lemmas.Bool.Decides.{nat_tests}
use Rattle.std.proofs.lemmas.List.{length_push, length-map, map-append}
use Rattle.std.proofs.lemmas.List.Folds.{position_or_len_push, find-append}
use Rattle.std.proofs.lemmas.List.Sums.{prefix_len-le-length, count_by-le-length, fold_push, sum_by_push, sum_by-cons}
use Rattle.std.proofs.lemmas.Option.{get_or_from_slice_get, slice_get_within, slice_get-get_or}
use Rattle.er_report.specs.Report.{is_rule}
use Rattle.er_report.specs.declared.report.Line.{Line}
use Rattle.er_report.specs.declared.report.Line.TheVariants.{Race, Reused, Refused, Shown}
use Rattle.er_rules.specs.Rules.{Target}
use Rattle.er_trace.specs.Names.{NameTable}
use Rattle.er_triage.specs.Known.{first_rule, known_target, race_of, rule_of, rules_of, takes_race, with_rule, IsTaken, is_taken_by, IsCountAt, AreCounts}
use Rattle.er_triage.specs.Inner.Counting.{one_more, with_one_more, with_race, with_race_at, with_races}
use Rattle.er_triage.specs.declared.known.KnownRace.{KnownRace}
use Rattle.er_triage.proofs.KnownLemmas.{all_taken, own}

module _ {X : Type 0} where
  pushed_at : (xs : List X) (y : X) (i : ℕ) (z : X) → slice_get (xs ++ y ∷ []) i ≡ Some z → (slice_get xs i ≡ Some z) ⊎ ((i ≡ length xs) × (y ≡ z))
  pushed_at [] y zero z is = inr (refl, cc)
  pushed_at [] y (suc i) z is = absurd (cc)
  pushed_at (x ∷ xs) y zero z is = inl is
  pushed_at (x ∷ xs) y (suc i) z is = by (pushed_at xs y i z is)
    where
      by : (slice_get xs i ≡ Some z) ⊎ ((i ≡ length xs) × (y ≡ z)) → (slice_get xs i ≡ Some z) ⊎ ((suc i ≡ suc (length xs)) × (y ≡ z))
      by (inl old) = inl old
      by (inr new) = inr (ap suc new.0, new.1)

  set_at : (xs : List X) (i : ℕ) (y : X) (j : ℕ) (z : X) → slice_get (slice_set xs i y) j ≡ Some z → ((j ≡ i) × (y ≡ z)) ⊎ ((slice_get xs j ≡ Some z) × ((j ≡ i) → ⊥))
  set_at [] i y j z is = absurd (cc)
  set_at (x ∷ xs) zero y zero z is = inl (refl, cc)
  set_at (x ∷ xs) zero y (suc j) z is = inr (is, λ same. absurd (omega arith))
  set_at (x ∷ xs) (suc i) y zero z is = inr (is, λ same. absurd (omega arith))
  set_at (x ∷ xs) (suc i) y (suc j) z is = by (set_at xs i y j z is)
    where
      by : ((j ≡ i) × (y ≡ z)) ⊎ ((slice_get xs j ≡ Some z) × ((j ≡ i) → ⊥)) → ((suc j ≡ suc i) × (y ≡ z)) ⊎ ((slice_get xs j ≡ Some z) × ((suc j ≡ suc i) → ⊥))
      by (inl here) = inl (ap suc here.0, here.1)
      by (inr other) = inr (other.0, λ same. other.1 (omega arith))

module _ {X : Type 0} (p : X → Bool) where
  none_counted : (xs : List X) → All (λ x. p x ≡ false) xs → (count_by p xs ≡ 0) × (find p xs ≡ None)
  none_counted [] none = (refl, refl)
  none_counted (x ∷ xs) none =
      let here : p x ≡ false = none 0 x (omega arith) in
      let rest : (count_by p xs ≡ 0) × (find p xs ≡ None) = none_counted xs (λ k d h. none (suc k) d (omega arith)) in
      (sum_by-cons (λ x. cond (p x) 1 0) x xs ∙ ap (λ (b : Bool). cond {A = ℕ} b 1 0 + count_by p xs) here ∙ zero-add (count_by p xs) ∙ rest.0, ap (λ b. cond b (Some x) (find p xs)) here ∙ rest.1)

  -- the first that passes stays where it is
  place_stays : (xs : List X) (y : X) (i : ℕ) → position p xs ≡ Some i → position p (xs ++ y ∷ []) ≡ Some i
  place_stays xs y i = by (nat_lt (position_or_len p xs) (length xs)) refl
    where
      by : (b : Bool) → nat_lt (position_or_len p xs) (length xs) ≡ b → cond b (Some (position_or_len p xs)) None ≡ Some i → position p (xs ++ y ∷ []) ≡ Some i
      by true e is =
          let other : nat_eq (position_or_len p xs) (length xs) ≡ false = grind (arith, nat_tests) in
          let same : position_or_len p (xs ++ y ∷ []) ≡ position_or_len p xs = position_or_len_push p xs y ∙ ap (λ b. cond b (length xs + cond (p y) 0 1) (position_or_len p xs)) other in
          let low : nat_lt (position_or_len p xs) (length (xs ++ y ∷ [])) ≡ true = grind (arith, nat_tests, length_push) in
          ap (λ n. cond (nat_lt n (length (xs ++ y ∷ []))) (Some n) None) same ∙ ap (λ b. cond b (Some (position_or_len p xs)) None) low ∙ is
      by false e is = absurd (cc)

  place_new : (xs : List X) (y : X) → position p xs ≡ None → p y ≡ true → position p (xs ++ y ∷ []) ≡ Some (length xs)
  place_new xs y = by (nat_lt (position_or_len p xs) (length xs)) refl
    where
      by : (b : Bool) → nat_lt (position_or_len p xs) (length xs) ≡ b → cond b (Some (position_or_len p xs)) None ≡ None → p y ≡ true → position p (xs ++ y ∷ []) ≡ Some (length xs)
      by true e none passes = absurd (cc)
      by false e none passes =
          let most : position_or_len p xs ≤ length xs = prefix_len-le-length (λ (x : X). not (p x)) xs in
          let all : nat_eq (position_or_len p xs) (length xs) ≡ true = grind (arith, nat_tests) in
          let new : position_or_len p (xs ++ y ∷ []) ≡ length xs + 0 = position_or_len_push p xs y ∙ ap (λ b. cond b (length xs + cond (p y) 0 1) (position_or_len p xs)) all ∙ ap (λ b. length xs + cond b 0 1) passes in
          let same : position_or_len p (xs ++ y ∷ []) ≡ length xs = omega (arith, new) in
          let low : nat_lt (length xs) (length (xs ++ y ∷ [])) ≡ true = grind (arith, nat_tests, length_push) in
          ap (λ n. cond (nat_lt n (length (xs ++ y ∷ []))) (Some n) None) same ∙ ap (λ b. cond b (Some (length xs)) None) low

  place_below : (xs : List X) (i : ℕ) → position p xs ≡ Some i → i < length xs
  place_below xs i = by (nat_lt (position_or_len p xs) (length xs)) refl
    where
      by : (b : Bool) → nat_lt (position_or_len p xs) (length xs) ≡ b → cond b (Some (position_or_len p xs)) None ≡ Some i → i < length xs
      by true e is = let same : position_or_len p xs ≡ i = cc in grind (arith, nat_tests)
      by false e is = absurd (cc)

  kept : (o r : Option X) (P : X → Type 0) → IsSomeAnd o P → IsSomeAnd (option_or o r) P
  kept None r P h = absurd h
  kept (Some x) r P h = h

  first_stays : (xs : List X) (y : X) (P : X → Type 0) → IsSomeAnd (find p xs) P → IsSomeAnd (find p (xs ++ y ∷ [])) P
  first_stays xs y P h = subst (λ (o : Option X). IsSomeAnd o P) (sym (find-append p xs (y ∷ []))) (kept (find p xs) (find p (y ∷ [])) P h)

module _ {X : Type 0} (p q : X → Bool) where
  same_counts : (xs : List X) → All (λ x. p x ≡ q x) xs → (count_by p xs ≡ count_by q xs) × (find p xs ≡ find q xs)
  same_counts [] same = (refl, refl)
  same_counts (x ∷ xs) same =
      let here : p x ≡ q x = same 0 x (omega arith) in
      let rest : (count_by p xs ≡ count_by q xs) × (find p xs ≡ find q xs) = same_counts xs (λ k d h. same (suc k) d (omega arith)) in (
        sum_by-cons (λ x. cond (p x) 1 0) x xs ∙ ap (λ b. cond b 1 0 + count_by p xs) here ∙ ap (λ n. cond (q x) 1 0 + n) rest.0 ∙ sym (sum_by-cons (λ x. cond (q x) 1 0) x xs),
        ap (λ b. cond b (Some x) (find p xs)) here ∙ ap (λ o. cond (q x) (Some x) o) rest.1,
      )

-- the line is that of the race
abbrev IsRaceOf : KnownRace → Line → Type 0
IsRaceOf race line = race_of line ≡ Some (record race { races = 1 })

abbrev Counts : (Line → Bool) → List Line → KnownRace → Type 0
Counts p lines race = (race.races ≡ count_by p lines) × IsSomeAnd (find p lines) (IsRaceOf race)

-- another line changes nothing
passed_over : (p q : Line → Bool) (lines : List Line) (line : Line) (race : KnownRace) → All (λ l. p l ≡ q l) lines → q line ≡ false
    → Counts p lines race → Counts q (lines ++ line ∷ []) race
passed_over p q lines line race same fails counts =
    let sames : (count_by p lines ≡ count_by q lines) × (find p lines ≡ find q lines) = same_counts p q lines same in
    let pushed : count_by q (lines ++ line ∷ []) ≡ count_by q lines + cond {A = ℕ} (q line) 1 0 = sum_by_push (λ (l : Line). cond {A = ℕ} (q l) 1 0) lines line in
    let nothing : cond {A = ℕ} (q line) 1 0 ≡ 0 = ap (λ (b : Bool). cond {A = ℕ} b 1 0) fails in (
      omega (arith, counts.0, sames.0),
      first_stays q lines line (IsRaceOf race) (subst (λ (o : Option Line). IsSomeAnd o (IsRaceOf race)) sames.1 counts.1),
    )

-- a race more of its rule is one more
counted_more : (p : Line → Bool) (lines : List Line) (line : Line) (race : KnownRace) → p line ≡ true → length lines + 1 < 2 ^ 64
    → Counts p lines race → Counts p (lines ++ line ∷ []) (one_more race)
counted_more p lines line race passes few counts =
    let pushed : count_by p (lines ++ line ∷ []) ≡ count_by p lines + cond {A = ℕ} (p line) 1 0 = sum_by_push (λ (l : Line). cond {A = ℕ} (p l) 1 0) lines line in
    let one : cond {A = ℕ} (p line) 1 0 ≡ 1 = ap (λ (b : Bool). cond {A = ℕ} b 1 0) passes in
    (omega (arith, counts.0, count_by-le-length p lines), first_stays p lines line (IsRaceOf race) counts.1)

-- the first race of a new rule
counted_first : (p : Line → Bool) (lines : List Line) (line : Line) (race : KnownRace) → All (λ l. p l ≡ false) lines → p line ≡ true → race.races ≡ 1
    → IsRaceOf race line → Counts p (lines ++ line ∷ []) race
counted_first p lines line race others passes one is =
    let none : (count_by p lines ≡ 0) × (find p lines ≡ None) = none_counted p lines others in
    let pushed : count_by p (lines ++ line ∷ []) ≡ count_by p lines + cond {A = ℕ} (p line) 1 0 = sum_by_push (λ (l : Line). cond {A = ℕ} (p l) 1 0) lines line in
    let here : cond {A = ℕ} (p line) 1 0 ≡ 1 = ap (λ (b : Bool). cond {A = ℕ} b 1 0) passes in
    let found : find p (lines ++ line ∷ []) ≡ Some line = find-append p lines (line ∷ []) ∙ ap (λ o. option_or o (find p (line ∷ []))) none.1 ∙ ap (λ b. cond b (Some line) None) passes in
    (omega (arith, none.0), subst (λ (o : Option Line). IsSomeAnd o (IsRaceOf race)) (sym found) is)

module _ (names : NameTable) where
  -- a line that is no race of these rules
  skipped : (known : List KnownRace) (lines : List Line) (line : Line) → ((place : ℕ) → is_taken_by names (map (known_target names) known) place line ≡ false)
      → AreCounts names lines known → AreCounts names (lines ++ line ∷ []) known
  skipped known lines line other counted place race is =
      let p : Line → Bool = is_taken_by names (map (known_target names) known) place in
      let old : IsCountAt names (map (known_target names) known) lines place race = counted place race is in
      let new : Counts p (lines ++ line ∷ []) race = passed_over p p lines line race (λ k d h. refl) (other place) (old.races, old.first) in
      record { races = new.0; first = new.1 }

  -- a rule more behind the others takes nothing from them
  same_rule : (rules : List Target) (r : Target) (place : ℕ) (l : Line) → IsTaken names rules l → is_taken_by names rules place l ≡ is_taken_by names (rules ++ r ∷ []) place l
  same_rule rules r place l = of (race_of l)
    where
      of : (o : Option KnownRace) → IfSome o (λ race. IsSome (rule_of names rules race.deed race.site)) → is_rule place (first_rule names rules o) ≡ is_rule place (first_rule names (rules ++ r ∷ []) o)
      of None taken = refl
      of (Some race) taken = by (rule_of names rules race.deed race.site) refl taken
        where
          by : (o : Option ℕ) → rule_of names rules race.deed race.site ≡ o → IsSome o → is_rule place (rule_of names rules race.deed race.site) ≡ is_rule place (rule_of names (rules ++ r ∷ []) race.deed race.site)
          by None e some = absurd (cc)
          by (Some i) e some = ap (is_rule place) e ∙ sym (ap (is_rule place) (place_stays (takes_race names race.deed race.site) rules r i e))

  -- and has none of theirs
  not_new : (rules : List Target) (l : Line) → IsTaken names rules l → is_taken_by names rules (length rules) l ≡ false
  not_new rules l = of (race_of l)
    where
      of : (o : Option KnownRace) → IfSome o (λ race. IsSome (rule_of names rules race.deed race.site)) → is_rule (length rules) (first_rule names rules o) ≡ false
      of None taken = refl
      of (Some race) taken = by (rule_of names rules race.deed race.site) refl taken
        where
          by : (o : Option ℕ) → rule_of names rules race.deed race.site ≡ o → IsSome o → is_rule (length rules) (rule_of names rules race.deed race.site) ≡ false
          by None e some = absurd (cc)
          by (Some i) e some =
              let below : i < length rules = place_below (takes_race names race.deed race.site) rules i e in
              let other : (length rules == i) ≡ false = grind (arith, nat_tests) in
              ap (is_rule (length rules)) e ∙ other

  -- a race that no rule takes has a rule of its own
  added : (known : List KnownRace) (lines : List Line) (line : Line) (race : KnownRace) (r : Target) → known_target names race ≡ r
      → All (IsTaken names (map (known_target names) known)) lines → AreCounts names lines known
      → is_taken_by names (map (known_target names) known ++ r ∷ []) (length known) line ≡ true
      → ((place : ℕ) → place < length known → is_taken_by names (map (known_target names) known ++ r ∷ []) place line ≡ false)
      → race.races ≡ 1 → IsRaceOf race line → AreCounts names (lines ++ line ∷ []) (known ++ race ∷ [])
  added known lines line race r target taken counted own others one first place other is =
      let rules : List Target = map (known_target names) known in
      let all : map (known_target names) (known ++ race ∷ []) ≡ rules ++ r ∷ [] =
      map-append (known_target names) known (race ∷ []) ∙ ap (λ (t : Target). rules ++ t ∷ []) target in
      let size : length rules ≡ length known = length-map known (known_target names) in
      subst (λ (now : List Target). IsCountAt names now (lines ++ line ∷ []) place other) (sym all) (by rules size (pushed_at known race place other is))
    where
      by : (rules : List Target) → length rules ≡ length known → (slice_get known place ≡ Some other) ⊎ ((place ≡ length known) × (race ≡ other))
          → IsCountAt names (map (known_target names) known ++ r ∷ []) (lines ++ line ∷ []) place other
      by rules size (inl old) =
          let before : IsCountAt names (map (known_target names) known) lines place other = counted place other old in
          let new : Counts (is_taken_by names (map (known_target names) known ++ r ∷ []) place) (lines ++ line ∷ []) other =
          passed_over (is_taken_by names (map (known_target names) known) place) (is_taken_by names (map (known_target names) known ++ r ∷ []) place) lines line other
          (λ k d h. same_rule (map (known_target names) known) r place (slice_index_or lines k d) (taken k d h)) (others place (slice_get_within known place other old)) (before.races, before.first) in
          record { races = new.0; first = new.1 }
      by rules size (inr here) =
          let own_rules : List Target = map (known_target names) known in
          let at : length own_rules ≡ length known = length-map known (known_target names) in
          let new : Counts (is_taken_by names (own_rules ++ r ∷ []) (length known)) (lines ++ line ∷ []) race =
          counted_first (is_taken_by names (own_rules ++ r ∷ []) (length known)) lines line race
          (λ k d h. sym (same_rule own_rules r (length known) (slice_index_or lines k d) (taken k d h))
          ∙ ap (λ (n : ℕ). is_taken_by names own_rules n (slice_index_or lines k d)) (sym at) ∙ not_new own_rules (slice_index_or lines k d) (taken k d h))
          own one first in
          let whole : IsCountAt names (own_rules ++ r ∷ []) (lines ++ line ∷ []) (length known) race = record { races = new.0; first = new.1 } in
          subst (λ (k : KnownRace). IsCountAt names (own_rules ++ r ∷ []) (lines ++ line ∷ []) place k) here.1
          (subst (λ (n : ℕ). IsCountAt names (own_rules ++ r ∷ []) (lines ++ line ∷ []) n race) (sym here.0) whole)

  -- a race that a rule takes is one more of that rule
  counted_at : (known : List KnownRace) (lines : List Line) (line : Line) (at : ℕ) (race : KnownRace) → slice_get known at ≡ Some race → length lines + 1 < 2 ^ 64
      → AreCounts names lines known → ((place : ℕ) → is_taken_by names (map (known_target names) known) place line ≡ (place == at))
      → AreCounts names (lines ++ line ∷ []) (slice_set known at (one_more race))
  counted_at known lines line at race found few counted taken place other is =
      let same : map (known_target names) (slice_set known at (one_more race)) ≡ map (known_target names) known =
      map-set_same (known_target names) known at (one_more race) race (ap (known_target names) (sym (get_or_from_slice_get known at race race found))) in
      subst (λ (now : List Target). IsCountAt names now (lines ++ line ∷ []) place other) (sym same) (by (set_at known at (one_more race) place other is))
    where
      by : ((place ≡ at) × (one_more race ≡ other)) ⊎ ((slice_get known place ≡ Some other) × ((place ≡ at) → ⊥))
          → IsCountAt names (map (known_target names) known) (lines ++ line ∷ []) place other
      by (inl here) =
          let rules : List Target = map (known_target names) known in
          let own : (at == at) ≡ true = grind (arith, nat_tests) in
          let old : IsCountAt names rules lines at race = counted at race found in
          let new : Counts (is_taken_by names rules at) (lines ++ line ∷ []) (one_more race) =
          counted_more (is_taken_by names rules at) lines line race (taken at ∙ own) few (old.races, old.first) in
          let whole : IsCountAt names rules (lines ++ line ∷ []) at (one_more race) = record { races = new.0; first = new.1 } in
          subst (λ (k : KnownRace). IsCountAt names rules (lines ++ line ∷ []) place k) here.1
          (subst (λ (n : ℕ). IsCountAt names rules (lines ++ line ∷ []) n (one_more race)) (sym here.0) whole)
      by (inr others) =
          let rules : List Target = map (known_target names) known in
          let not_own : (place == at) ≡ false = grind (arith, nat_tests, others.1) in
          let old : IsCountAt names rules lines place other = counted place other others.0 in
          let new : Counts (is_taken_by names rules place) (lines ++ line ∷ []) other =
          passed_over (is_taken_by names rules place) (is_taken_by names rules place) lines line other (λ k d h. refl) (taken place ∙ not_own) (old.races, old.first) in
          record { races = new.0; first = new.1 }

-- the race of a line counts itself alone
abbrev races_in : Option KnownRace → ℕ
races_in None = 1
races_in (Some race) = race.races

alone : (line : Line) → races_in (race_of line) ≡ 1
alone (Race kind thread site number word details) = refl
alone (Reused thread site number range details) = refl
alone (Refused refusal step number) = refl
alone (Shown number word state) = refl

-- a race more is counted at its rule, and the counts of the others stay
counted_on : (names : NameTable) (known : List KnownRace) (lines : List Line) (line : Line)
    → All (IsTaken names (map (known_target names) known)) lines → length lines + 1 < 2 ^ 64 → AreCounts names lines known
    → AreCounts names (lines ++ line ∷ []) (with_race names known (race_of line))
counted_on names known lines line taken few counted = of (race_of line) refl
  where
    of : (o : Option KnownRace) → race_of line ≡ o → AreCounts names (lines ++ line ∷ []) (with_race names known o)
    of None e = skipped names known lines line (λ place. ap (λ (o : Option KnownRace). is_rule place (first_rule names (map (known_target names) known) o)) e) counted
    of (Some race) e = by (rule_of names (map (known_target names) known) race.deed race.site) refl
      where
        at_rules : (rules : List Target) (place : ℕ) (o : Option ℕ) → rule_of names rules race.deed race.site ≡ o → is_taken_by names rules place line ≡ is_rule place o
        at_rules rules place o is = ap (λ (r : Option KnownRace). is_rule place (first_rule names rules r)) e ∙ ap (is_rule place) is

        by : (o : Option ℕ) → rule_of names (map (known_target names) known) race.deed race.site ≡ o → AreCounts names (lines ++ line ∷ []) (with_race_at o known race)
        by None none =
            let rules : List Target = map (known_target names) known in
            let r : Target = known_target names race in
            let size : length rules ≡ length known = length-map known (known_target names) in
            let here : rule_of names (rules ++ r ∷ []) race.deed race.site ≡ Some (length known) = place_new (takes_race names race.deed race.site) rules r none (own names race.deed race.site) ∙ ap Some size in
            let at : (length known == length known) ≡ true = grind (arith, nat_tests) in
            let one : race.races ≡ 1 = sym (ap races_in e) ∙ alone line in
            added names known lines line race r refl taken counted (at_rules (rules ++ r ∷ []) (length known) (Some (length known)) here ∙ at)
            (λ place low. let other : (place == length known) ≡ false = grind (arith, nat_tests, low) in at_rules (rules ++ r ∷ []) place (Some (length known)) here ∙ other)
            one (e ∙ ap (λ (n : ℕ). Some (record race { races = n })) one)
        by (Some at) some =
            let rules : List Target = map (known_target names) known in
            let size : length rules ≡ length known = length-map known (known_target names) in
            let low : at < length known = omega (arith, place_below (takes_race names race.deed race.site) rules at some) in
            let found : slice_get known at ≡ Some (get_or known at race) = slice_get-get_or known at race low in
            subst (λ (o : Option KnownRace). AreCounts names (lines ++ line ∷ []) (with_one_more known at o)) (sym found)
            (counted_at names known lines line at (get_or known at race) found few counted (λ place. at_rules rules place (Some at) some))

-- the rules of the known races, with another and with those of some lines
one_rule : (names : NameTable) (known : List KnownRace) (o : Option KnownRace) → map (known_target names) (with_race names known o) ≡ with_rule names (map (known_target names) known) o
one_rule names known None = refl
one_rule names known (Some race) = by (rule_of names (map (known_target names) known) race.deed race.site)
  where
    same : (place : ℕ) (o : Option KnownRace) → slice_get known place ≡ o → map (known_target names) (with_one_more known place o) ≡ map (known_target names) known
    same place None e = refl
    same place (Some other) e = map-set_same (known_target names) known place (one_more other) other (ap (known_target names) (sym (get_or_from_slice_get known place other other e)))

    by : (o : Option ℕ) → map (known_target names) (with_race_at o known race) ≡ cond (is_some o) (map (known_target names) known) (map (known_target names) known ++ known_target names race ∷ [])
    by None = map-append (known_target names) known (race ∷ [])
    by (Some place) = same place (slice_get known place) refl

pub all_rules : (names : NameTable) (lines : List Line) (known : List KnownRace)
    → map (known_target names) (with_races names known lines) ≡ fold (λ (rules : List Target) (line : Line). with_rule names rules (race_of line)) (map (known_target names) known) lines
all_rules names [] known = refl
all_rules names (line ∷ lines) known =
    all_rules names lines (with_race names known (race_of line))
    ∙ ap (λ (rules : List Target). fold (λ (rules : List Target) (line : Line). with_rule names rules (race_of line)) rules lines) (one_rule names known (race_of line))

-- the races of some lines behind others
counted_behind : (names : NameTable) (lines before : List Line) (known : List KnownRace) → map (known_target names) known ≡ rules_of names before
    → length before + length lines < 2 ^ 64 → AreCounts names before known → AreCounts names (before ++ lines) (with_races names known lines)
counted_behind names [] before known rules few counted = subst (λ (all : List Line). AreCounts names all known) (sym (append-nil before)) counted
counted_behind names (line ∷ lines) before known rules few counted =
    let taken : All (IsTaken names (map (known_target names) known)) before = subst (λ (rules : List Target). All (IsTaken names rules) before) (sym rules) (all_taken names before) in
    let more : map (known_target names) (with_race names known (race_of line)) ≡ rules_of names (before ++ line ∷ []) =
    one_rule names known (race_of line) ∙ ap (λ (rules : List Target). with_rule names rules (race_of line)) rules
    ∙ sym (fold_push (λ (rules : List Target) (line : Line). with_rule names rules (race_of line)) [] before line) in
    subst (λ (all : List Line). AreCounts names all (with_races names (with_race names known (race_of line)) lines)) (append_assoc before (line ∷ []) lines)
    (counted_behind names lines (before ++ line ∷ []) (with_race names known (race_of line)) more (omega (arith, length_push before line))
    (counted_on names known before line taken (omega arith) counted))

pub all_counted : (names : NameTable) (lines : List Line) → length lines < 2 ^ 64 → AreCounts names lines (with_races names [] lines)
all_counted names lines few = counted_behind names lines [] [] refl (omega arith) (λ place race is. absurd (cc))

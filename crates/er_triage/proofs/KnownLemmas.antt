-- The rules of the races of some lines take each of them: a rule stays, so what it takes stays taken.
use Rattle.std.proofs.Common.{◌≡◌, ◌<◌, ◌≤◌, ◌+◌, ℕ, zero, suc, Bool, true, false, cond, not, nat_lt, nat_eq, is_some, IfSome, IsSome, List, [], ◌∷◌, ◌++◌, length, position, slice_index_or, Option, Some, None, All, refl, arith}
use Rattle.std.specs.List.{fold, position_or_len}
use Rattle.std.proofs.lemmas.Bool.Decides.{nat_tests}
use Rattle.std.proofs.lemmas.List.{length_push}
use Rattle.std.proofs.lemmas.List.Folds.{position_or_len_push}
use Rattle.std.proofs.lemmas.List.Sums.{prefix_len-le-length}
use Rattle.std.proofs.lemmas.Slice.Eq.{bytes_eq-Decides}
use Rattle.er_report.specs.Report.{site_name}
use Rattle.er_report.specs.declared.report.Deed.{Deed}
use Rattle.er_report.specs.declared.report.Deed.TheVariants.{Access, Reuse}
use Rattle.er_report.specs.declared.report.Line.{Line}
use Rattle.er_rules.specs.Rules.{Target, takes, takes_reuse}
use Rattle.er_trace.specs.Names.{NameTable}
use Rattle.er_triage.specs.Known.{known_target, race_of, race_target, rule_of, rules_of, takes_race, target_at, with_rule, IsTaken}
use Rattle.er_triage.specs.declared.known.KnownRace.{KnownRace}

module _ {X : Type 0} (p : X → Bool) where
  within : (xs : List X) → position_or_len p xs < length xs → IsSome (position p xs)
  within xs h = let t : nat_lt (position_or_len p xs) (length xs) ≡ true = grind (arith, nat_tests) in rw t refl

  found : (xs : List X) → IsSome (position p xs) → position_or_len p xs < length xs
  found xs = by (nat_lt (position_or_len p xs) (length xs)) refl
    where
      by : (b : Bool) → nat_lt (position_or_len p xs) (length xs) ≡ b → is_some (cond b (Some (position_or_len p xs)) None) ≡ true → position_or_len p xs < length xs
      by true e h = grind (arith, nat_tests)
      by false e h = cc

  pushed : (xs : List X) (y : X) → position_or_len p (xs ++ y ∷ []) ≡ cond (nat_eq (position_or_len p xs) (length xs)) (length xs + cond (p y) 0 1) (position_or_len p xs)
  pushed xs y = position_or_len_push p xs y

  -- one that passes behind the others, or one among them
  by_last : (xs : List X) (y : X) → p y ≡ true → IsSome (position p (xs ++ y ∷ []))
  by_last xs y passes = within (xs ++ y ∷ []) (rw (length_push xs y, pushed xs y, passes) (by (nat_eq (position_or_len p xs) (length xs))))
    where
      by : (b : Bool) → cond b (length xs + 0) (position_or_len p xs) < length xs + 1
      by true = omega arith
      by false = omega (arith, prefix_len-le-length (λ (x : X). not (p x)) xs)

  by_others : (xs : List X) (y : X) → IsSome (position p xs) → IsSome (position p (xs ++ y ∷ []))
  by_others xs y some = within (xs ++ y ∷ []) (rw (length_push xs y, pushed xs y) (by (nat_eq (position_or_len p xs) (length xs)) refl))
    where
      by : (b : Bool) → nat_eq (position_or_len p xs) (length xs) ≡ b → cond b (length xs + cond (p y) 0 1) (position_or_len p xs) < length xs + 1
      by true e = let low : position_or_len p xs < length xs = found xs some in absurd (grind (arith, nat_tests))
      by false e = omega (arith, found xs some)

-- a race is taken by its own rule
own_access : (site : Option (List ℕ)) (word : ℕ) → takes (target_at site word word) site word ≡ true
own_access None word = grind (arith, nat_tests)
own_access (Some name) word = grind (arith, bytes_eq-Decides)

own_reuse : (site : Option (List ℕ)) (lo hi : ℕ) → lo ≤ hi → takes_reuse (target_at site lo hi) site lo hi ≡ true
own_reuse None lo hi ordered = grind (arith, nat_tests, ordered)
own_reuse (Some name) lo hi ordered = grind (arith, bytes_eq-Decides)

pub own : (names : NameTable) (what : Deed) (site : ℕ) → takes_race names what site (race_target names what site) ≡ true
own names (Access kind word) site = own_access (site_name names site) word
own names (Reuse range) site = own_reuse (site_name names site) range.lo range.hi range.ordered

module _ (names : NameTable) where
  -- if there is a race, one of the rules takes it
  abbrev Takes : List Target → Option KnownRace → Type 0
  Takes rules o = IfSome o (λ race. IsSome (rule_of names rules race.deed race.site))

  -- a rule more takes no race away
  more : (rules : List Target) (t : Target) (o : Option KnownRace) → Takes rules o → Takes (rules ++ t ∷ []) o
  more rules t None taken = tt
  more rules t (Some race) taken = by_others (takes_race names race.deed race.site) rules t taken

  stays : (rules : List Target) (o other : Option KnownRace) → Takes rules o → Takes (with_rule names rules other) o
  stays rules o None taken = taken
  stays rules o (Some race) taken = by (is_some (rule_of names rules race.deed race.site))
    where
      by : (b : Bool) → Takes (cond b rules (rules ++ known_target names race ∷ [])) o
      by true = taken
      by false = more rules (known_target names race) o taken

  stays_all : (lines : List Line) (rules : List Target) (o : Option KnownRace) → Takes rules o
      → Takes (fold (λ (rules : List Target) (line : Line). with_rule names rules (race_of line)) rules lines) o
  stays_all [] rules o taken = taken
  stays_all (other ∷ lines) rules o taken = stays_all lines (with_rule names rules (race_of other)) o (stays rules o (race_of other) taken)

  -- and a race is taken once it was gone over
  now : (rules : List Target) (o : Option KnownRace) → Takes (with_rule names rules o) o
  now rules None = tt
  now rules (Some race) = by (is_some (rule_of names rules race.deed race.site)) refl
    where
      by : (b : Bool) → is_some (rule_of names rules race.deed race.site) ≡ b → IsSome (rule_of names (cond b rules (rules ++ known_target names race ∷ [])) race.deed race.site)
      by true e = e
      by false e = by_last (takes_race names race.deed race.site) rules (known_target names race) (own names race.deed race.site)

  all_from : (lines : List Line) (rules : List Target) (k : ℕ) (d : Line) → k < length lines
      → IsTaken names (fold (λ (rules : List Target) (line : Line). with_rule names rules (race_of line)) rules lines) (slice_index_or lines k d)
  all_from [] rules k d h = absurd (omega arith)
  all_from (line ∷ lines) rules zero d h = stays_all lines (with_rule names rules (race_of line)) (race_of line) (now rules (race_of line))
  all_from (line ∷ lines) rules (suc k) d h = all_from lines (with_rule names rules (race_of line)) k d (omega arith)

  pub all_taken : (lines : List Line) → All (IsTaken names (rules_of names lines)) lines
  all_taken lines = all_from lines []

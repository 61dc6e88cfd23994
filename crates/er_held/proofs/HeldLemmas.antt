-- How a thread's two sets of locks keep their shape as locks come and go and as the level changes.
use Rattle.std.proofs.Common.{◌≡◌, ℕ, zero, suc, ◌+◌, ◌-◌, ◌<◌, ◌≤◌, Bool, true, false, not, ◌&&◌, ◌||◌, cond, ◌==◌, nat_lt, List, [], ◌∷◌, ◌++◌, filter, length, take, drop, refl, ap, sym, ◌∙◌, arith}
use Rattle.std.proofs.lemmas.Bool.Decides.{nat_tests}
use Rattle.std.proofs.lemmas.Bool.{eqb-true, eq-eqb, or_left, or_right}
use Rattle.std.proofs.lemmas.List.Folds.{list_any-append}
use Rattle.std.specs.List.Sorted.{IsStrictlyIncreasing}
use Rattle.er_event.specs.Lockset.{has, with_lock, without_lock, level_lock, is_level_lock, level_locks, locks_from}
use Rattle.er_event.proofs.LocksetLemmas.{same-rising, has-with_lock, rising-with_lock, has-filtered, increasing_from_rising, rising-filter, without_absent}
use Rattle.er_model.specs.Holdings.{acquired_among, at_level}
use Rattle.er_model.proofs.Levels.{among-levels, rising-levels, level-rise, level-lower, level-room, level-counted, level-stays, level-insert, level-remove, among_plain}
use Rattle.er_event.proofs.Bools.{itself, first_false, second_false, and_known}
use Rattle.er_event.proofs.Lists.{length_filter}
use Rattle.er_held.specs.Inner.Holding.{EndsInLevel, IsHolding}

-- no lock at all
pub holding-nothing : (any write : List ℕ) (level : ℕ) → any ≡ [] → write ≡ [] → level ≡ 0 → IsHolding any write level
unfolding acquired_among locks_from
holding-nothing any write level none none' lowest =
    let empty : EndsInLevel 0 [] = record { rises = tt; ends = refl } in
    rw (none, none', lowest) (record { any = empty; write = empty; within = λ l there. there; few = omega arith; limit = omega arith })

-- a list with a lock more
length-with_cases : (l x : ℕ) (xs : List ℕ) (a b : Bool) → nat_lt l x ≡ a → (l == x) ≡ b → length (with_lock l xs) ≤ suc (length xs) →
    length (cond (nat_lt l x) (l ∷ x ∷ xs) (cond (l == x) (x ∷ xs) (x ∷ with_lock l xs))) ≤ suc (suc (length xs))
length-with_cases l x xs true b less e rest = rw less (omega arith)
length-with_cases l x xs false true less same rest = rw (less, same) (omega arith)
length-with_cases l x xs false false less other rest = rw (less, other) (omega arith)

length-with_lock : (l : ℕ) (xs : List ℕ) → length (with_lock l xs) ≤ suc (length xs)
unfolding with_lock
length-with_lock l [] = omega arith
length-with_lock l (x ∷ xs) = length-with_cases l x xs (nat_lt l x) (l == x) refl refl (length-with_lock l xs)

-- a lock that was not there is put in and taken out again
turned : (l x : ℕ) (b : Bool) → (l == x) ≡ b → (x == l) ≡ false → b ≡ false
turned l x true same other = let is : l ≡ x = eqb-true l x same in let me : (x == l) ≡ true = eq-eqb x l (sym is) in sym me ∙ other
turned l x false e other = refl

without-with_cases : (l x : ℕ) (xs : List ℕ) (a b : Bool) → nat_lt l x ≡ a → (l == x) ≡ b → b ≡ false →
    filter (λ y. not (l == y)) xs ≡ xs → filter (λ y. not (l == y)) (with_lock l xs) ≡ xs →
    filter (λ y. not (l == y)) (cond (nat_lt l x) (l ∷ x ∷ xs) (cond (l == x) (x ∷ xs) (x ∷ with_lock l xs))) ≡ x ∷ xs
without-with_cases l x xs a true less same apart all rest = cc
without-with_cases l x xs true false less other apart all rest = rw (less, itself l, other, all) refl
without-with_cases l x xs false false less other apart all rest = rw (less, other) (rw (other, rest) refl)

pub without-with_lock : (l : ℕ) (xs : List ℕ) → has xs l ≡ false → without_lock l (with_lock l xs) ≡ xs
unfolding with_lock without_lock
without-with_lock l [] absent = rw (itself l) refl
without-with_lock l (x ∷ xs) absent =
    without-with_cases l x xs (nat_lt l x) (l == x) refl refl (turned l x (l == x) refl (first_false (x == l) (has xs l) absent))
    (without_absent xs l (second_false (x == l) (has xs l) absent)) (without-with_lock l xs (second_false (x == l) (has xs l) absent))

-- one of the two sets, with a lock more or less
ends-insert : (level l : ℕ) (locks : List ℕ) → is_level_lock l ≡ false → EndsInLevel level locks → EndsInLevel level (with_lock l locks)
ends-insert level l locks plain it = record { rises = rising-with_lock l locks it.rises; ends = level-insert l level locks plain it.ends }

ends-remove : (level l : ℕ) (locks : List ℕ) → is_level_lock l ≡ false → EndsInLevel level locks → EndsInLevel level (without_lock l locks)
unfolding without_lock
ends-remove level l locks plain it = record { rises = rising-filter (λ x. not (l == x)) locks it.rises; ends = level-remove l level locks plain it.ends }

not_less : (m n : ℕ) → nat_lt m n ≡ false → n ≤ m
not_less m n e = grind (arith, nat_tests)

-- a filter that keeps as many as there are keeps all
filter_whole : (p : ℕ → Bool) (xs : List ℕ) → length xs ≤ length (filter p xs) → filter p xs ≡ xs
filter_whole p [] long = refl
filter_whole p (x ∷ xs) long = by (p x) (filter_whole p xs) long
  where
    by : (b : Bool) → (length xs ≤ length (filter p xs) → filter p xs ≡ xs) → suc (length xs) ≤ length (cond b (x ∷ filter p xs) (filter p xs)) → cond b (x ∷ filter p xs) (filter p xs) ≡ x ∷ xs
    by true rest more = ap (λ ys. x ∷ ys) (rest (omega arith))
    by false rest more = let few = length_filter p xs in absurd (omega (arith, few, more))

-- how many locks are acquired
module _ (any write : List ℕ) (level : ℕ) (it : IsHolding any write level) where
  pub holding-room : level ≤ length any
  holding-room = level-room any level it.any.ends

  pub holding-counted : length (acquired_among any) ≡ length any - level
  holding-counted = level-counted any level it.any.ends

  pub holding-length : length any ≤ 95
  holding-length = let few = it.few in let limit = it.limit in omega (arith, holding-counted, few, limit)

  pub write_room : level ≤ length write
  write_room = level-room write level it.write.ends

  -- the write-held locks are some of the held ones, and all if they are as many
  part : write ≡ filter (has write) any
  part = same-rising write (filter (has write) any) it.write.rises (rising-filter (has write) any it.any.rises)
      (λ l. sym (has-filtered (has write) any l ∙ and_known (has write l) (has any l) (it.within l)))

  pub fewer : length write ≤ length any
  fewer = rw part (length_filter (has write) any)

  pub apart : cond (nat_lt (length write) (length any)) write any ≡ write
  apart = by (nat_lt (length write) (length any)) refl
    where
      by : (b : Bool) → nat_lt (length write) (length any) ≡ b → cond b write any ≡ write
      by true e = refl
      by false e =
          let many : length any ≤ length write = not_less (length write) (length any) e in
          let whole : filter (has write) any ≡ any = filter_whole (has write) any (rw part at many) in
          sym (part ∙ whole)

-- a lock more
module _ (any write : List ℕ) (level l : ℕ) (it : IsHolding any write level) (plain : is_level_lock l ≡ false) where
  few-insert : length (acquired_among any) < 64 → length (acquired_among (with_lock l any)) ≤ 64
  few-insert room =
      let longer = level-counted (with_lock l any) level (ends-insert level l any plain it.any).ends in
      omega (arith, longer, length-with_lock l any, holding-counted any write level it, holding-room any write level it)

  pub holding-insert : length (acquired_among any) < 64 → IsHolding (with_lock l any) write level
  holding-insert room = record {
    any = ends-insert level l any plain it.any;
    write = it.write;
    within = λ k there. has-with_lock l any k ∙ or_right (l == k) (has any k) (it.within k there);
    few = few-insert room;
    limit = it.limit;
  }

  pub holding-insert_both : length (acquired_among any) < 64 → IsHolding (with_lock l any) (with_lock l write) level
  holding-insert_both room = record {
    any = ends-insert level l any plain it.any;
    write = ends-insert level l write plain it.write;
    within = λ k there. has-with_lock l any k ∙ either (l == k) (has write k) (has any k) (it.within k) (sym (has-with_lock l write k) ∙ there);
    few = few-insert room;
    limit = it.limit;
  }
    where
      either : (a b c : Bool) → (b ≡ true → c ≡ true) → (a || b) ≡ true → (a || c) ≡ true
      either true b c f e = refl
      either false b c f e = f e

  -- or less
  pub holding-remove : IsHolding (without_lock l any) (without_lock l write) level
  unfolding without_lock
  holding-remove = record {
    any = ends-remove level l any plain it.any;
    write = ends-remove level l write plain it.write;
    within = λ k there. has-filtered (λ x. not (l == x)) any k ∙ both (not (l == k)) (has write k) (has any k) (it.within k) (sym (has-filtered (λ x. not (l == x)) write k) ∙ there);
    few = let shorter = level-counted (without_lock l any) level (ends-remove level l any plain it.any).ends in
        let few = it.few in
        omega (arith, shorter, length_filter (λ x. not (l == x)) any, holding-counted any write level it, holding-room any write level it);
    limit = it.limit;
  }
    where
      both : (a b c : Bool) → (b ≡ true → c ≡ true) → (a && b) ≡ true → (a && c) ≡ true
      both true b c f e = f e
      both false b c f e = e

-- another level
ends-level : (level n : ℕ) (locks : List ℕ) → EndsInLevel level locks → EndsInLevel n (at_level n locks)
unfolding acquired_among
ends-level level n locks it = record {
  rises = rising-levels (acquired_among locks) n (among_plain locks) (rising-filter (λ l. not (is_level_lock l)) locks it.rises);
  ends = level-stays locks n;
}

has-level : (n : ℕ) (locks : List ℕ) (k : ℕ) → has (at_level n locks) k ≡ ((not (is_level_lock k) && has locks k) || has (level_locks n) k)
unfolding acquired_among
has-level n locks k =
    list_any-append (λ x. x == k) (acquired_among locks) (level_locks n) ∙ ap (λ b. b || has (level_locks n) k) (has-filtered (λ l. not (is_level_lock l)) locks k)

pub holding-level : (any write : List ℕ) (level n : ℕ) → IsHolding any write level → n ≤ 31 → IsHolding (at_level n any) (at_level n write) n
holding-level any write level n it low = record {
  any = ends-level level n any it.any;
  write = ends-level level n write it.write;
  within = λ k there. has-level n any k ∙ part (not (is_level_lock k)) (has write k) (has any k) (has (level_locks n) k) (it.within k) (sym (has-level n write k) ∙ there);
  few = rw (among-levels (acquired_among any) n (among_plain any)) it.few;
  limit = low;
}
  where
    part : (a b c d : Bool) → (b ≡ true → c ≡ true) → ((a && b) || d) ≡ true → ((a && c) || d) ≡ true
    part a b c true f e = or_right (a && c) true refl
    part true true c false f e = or_left c false (f refl)
    part true false c false f e = cc
    part false b c false f e = e

-- a higher level's locks go behind those that are there
pub level-joined : (level n : ℕ) (locks more : List ℕ) → EndsInLevel level locks → level ≤ n → more ≡ locks_from (level_lock (suc level)) (n - level) → locks ++ more ≡ at_level n locks
level-joined level n locks more it above are = rw are (sym (level-rise locks level n it.ends above))

pub level-increasing : (level n : ℕ) (locks more : List ℕ) → EndsInLevel level locks → level ≤ n → more ≡ locks_from (level_lock (suc level)) (n - level) → IsStrictlyIncreasing (locks ++ more)
level-increasing level n locks more it above are = rw (level-joined level n locks more it above are) (increasing_from_rising (at_level n locks) (ends-level level n locks it).rises)

-- a lower level's list is the front of the list
pub level-cut : (level n : ℕ) (locks left : List ℕ) (size fewer : ℕ) → EndsInLevel level locks → n ≤ level → size ≡ length locks → fewer ≡ level - n → left ≡ take (size - fewer) locks → left ≡ at_level n locks
level-cut level n locks left size fewer it below all less is = is ∙ rw (all, less) (sym (level-lower locks level n it.ends below))

-- the first level locks, one by one
pub locks-last : (l n : ℕ) → locks_from l (suc n) ≡ locks_from l n ++ (l + n) ∷ []
unfolding locks_from
locks-last l zero = let here : l + zero ≡ l = omega arith in rw here refl
locks-last l (suc n) = let next : l + suc n ≡ suc l + n = omega arith in rw next (ap (λ xs. l ∷ xs) (locks-last (suc l) n))

-- a part of them
drop-locks : (l k n : ℕ) → drop k (locks_from l (k + n)) ≡ locks_from (l + k) n
unfolding locks_from
drop-locks l zero n = let all : zero + n ≡ n = omega arith in let here : l + zero ≡ l = omega arith in rw (all, here) refl
drop-locks l (suc k) n = let more : suc k + n ≡ suc (k + n) = omega arith in let next : l + suc k ≡ suc l + k = omega arith in rw (more, next) (drop-locks (suc l) k n)

take-locks : (l k n : ℕ) → take k (locks_from l (k + n)) ≡ locks_from l k
unfolding locks_from
take-locks l zero n = refl
take-locks l (suc k) n = let more : suc k + n ≡ suc (k + n) = omega arith in rw more (ap (λ xs. l ∷ xs) (take-locks (suc l) k n))

locks-part : (level n : ℕ) → level ≤ n → n ≤ 31 → take (n - level) (drop level (level_locks 31)) ≡ locks_from (level_lock (suc level)) (n - level)
locks-part level n above low =
    let size : level + ((n - level) + (31 - n)) ≡ 31 = omega arith in
    let first : level_lock 1 + level ≡ level_lock (suc level) = omega arith in
    let rest : drop level (level_locks 31) ≡ locks_from (level_lock (suc level)) ((n - level) + (31 - n)) =
    rw (size, first) at (drop-locks (level_lock 1) level ((n - level) + (31 - n))) in
    rw rest (take-locks (level_lock (suc level)) (n - level) (31 - n))

-- the slice of them between two levels
pub locks-between : (level n : ℕ) (locks : List ℕ) (from to : ℕ) → locks ≡ level_locks 31 → from ≡ level → to ≡ n → level ≤ n → n ≤ 31 →
    take (to - from) (drop from locks) ≡ locks_from (level_lock (suc level)) (n - level)
locks-between level n locks from to all low high above limit = rw (all, low, high) (locks-part level n above limit)

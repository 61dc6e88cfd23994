-- The unusual answers of all workers come into one list, the least first.
use Rattle.std.proofs.Common.{◌≡◌, ℕ, zero, suc, ◌+◌, ◌<◌, ◌≤◌, List, [], ◌∷◌, ◌++◌, length, map, set, drop, get_or, slice_get, Option, Some, None, IfSome, MatchOption, refl, ap, sym, subst, ◌∙◌, arith, ⊎_elim, ◌⊎◌, inl, inr}
use Rattle.std.specs.Option.{option_to_list}
use Rattle.er_event.proofs.Lists.{get_front, get_last, length_push}
use Rattle.er_model.proofs.Parts.{in_range}
use Rattle.er_model.proofs.Search.{below_or_at}
use Rattle.er_parallel.specs.Crews.{Rise}
use Rattle.er_parallel.specs.Inner.Merging.{AreApart, AreMerged, HasHead, HasItem, IsIn, IsLeastHead, IsLesserHead, IsTaken, NoHeadBelow, count_found, machines_of}
use Rattle.er_parallel.specs.declared.worker.Unusual.{Unusual}
use Rattle.er_parallel.specs.declared.worker.Worker.{Worker}

some_same : {A : Type 0} (x y : A) → Some x ≡ Some y → x ≡ y
some_same x y e = cc

-- the least head among the first n workers
abbrev pub IsLeastSoFar : ℕ → List Worker → Option (ℕ × ℕ) → Type 0
IsLeastSoFar n workers known = MatchOption known (NoHeadBelow n workers) (λ p. IsLeastHead n workers p.0 p.1)

one_more : (n i : ℕ) → i < n + 1 → (i < n) ⊎ (i ≡ n)
one_more n i below = below_or_at i n (omega (arith, below))

-- two heads of one worker are at one position
same_head : (workers : List Worker) (i j a b : ℕ) → i ≡ j → HasHead workers i a → HasHead workers j b → a ≡ b
same_head workers i j a b same one other =
    let worker : one.worker ≡ other.worker = some_same one.worker other.worker (sym one.there ∙ (ap (slice_get workers) same ∙ other.there)) in
    let lists : one.item ∷ one.rest ≡ other.item ∷ other.rest = sym one.is ∙ (ap (λ (w : Worker). w.found.items) worker ∙ other.is) in
    let items : one.item ≡ other.item = cc in
    sym one.is_at ∙ (ap (λ (u : Unusual). u.at) items ∙ other.is_at)

module _ (workers : List Worker) (n : ℕ) where
  -- a worker without an item
  pub head-none : (known : Option (ℕ × ℕ)) → ((at : ℕ) → HasHead workers n at → ⊥) → IsLeastSoFar n workers known → IsLeastSoFar (n + 1) workers known
  head-none None bare none = λ i at below head. ⊎_elim (λ low. none i at low head) (λ same. bare at (subst (λ (k : ℕ). HasHead workers k at) same head)) (one_more n i below)
  head-none (Some p) bare least = record {
    head = least.head;
    least = λ i at below head. ⊎_elim (λ low. least.least i at low head) (λ same. absurd (bare at (subst (λ (k : ℕ). HasHead workers k at) same head))) (one_more n i below);
  }

  -- a worker with one
  module _ (at : ℕ) (here : HasHead workers n at) where
    at_here : (i a : ℕ) → i ≡ n → HasHead workers i a → at ≡ a
    at_here i a same head = same_head workers n i at a (sym same) here head

    next_least : (known : Option (ℕ × ℕ)) → IfSome known (λ k. at ≤ k.1) → IsLeastSoFar n workers known → IsLeastHead (n + 1) workers n at
    next_least None low none = record {
      head = here;
      least = λ i a below head. ⊎_elim (λ early. absurd (none i a early head)) (λ same. omega (arith, at_here i a same head)) (one_more n i below);
    }
    next_least (Some p) low least = record {
      head = here;
      least = λ i a below head. ⊎_elim (λ early. omega (arith, low, least.least i a early head)) (λ same. omega (arith, at_here i a same head)) (one_more n i below);
    }

    still_least : (p : ℕ × ℕ) → p.1 ≤ at → IsLeastHead n workers p.0 p.1 → IsLeastHead (n + 1) workers p.0 p.1
    still_least p low least = record {
      head = least.head;
      least = λ i a below head. ⊎_elim (λ early. least.least i a early head) (λ same. omega (arith, low, at_here i a same head)) (one_more n i below);
    }

    pub head-next : (known : Option (ℕ × ℕ)) (given : ℕ × ℕ) → IsLesserHead known (n, at) given → IsLeastSoFar n workers known → IsLeastHead (n + 1) workers given.0 given.1
    head-next known given (inl (is, low)) least = rw is (next_least known low least)
    head-next known given (inr (is, low)) least = still_least given low (rw is at least)

-- the first item of a worker's list
pub head-at : (workers : List Worker) (n : ℕ) (worker : Worker) (x : Unusual) → slice_get workers n ≡ Some worker → 0 < length worker.found.items → x ≡ get_or worker.found.items 0 x → HasHead workers n x.at
head-at workers n worker x there some first = by worker.found.items refl some first
  where
    by : (items : List Unusual) → worker.found.items ≡ items → 0 < length items → x ≡ get_or items 0 x → HasHead workers n x.at
    by [] are some first = absurd (omega (arith, some))
    by (y ∷ rest) are some first = record { worker = worker; there = there; item = y; rest = rest; is = are; is_at = ap (λ (u : Unusual). u.at) (sym first) }

pub head-bare : (workers : List Worker) (n : ℕ) (worker : Worker) → slice_get workers n ≡ Some worker → length worker.found.items ≤ 0 → (at : ℕ) → HasHead workers n at → ⊥
head-bare workers n worker there none at head =
    let same : head.worker ≡ worker = some_same head.worker worker (sym head.there ∙ there) in
    let are : worker.found.items ≡ head.item ∷ head.rest = sym (ap (λ (w : Worker). w.found.items) same) ∙ head.is in
    omega (arith, none, ap length are)

-- it is taken out
pub taken-by : (workers : List Worker) (index at : ℕ) (worker now : Worker) (result : Option Unusual) → slice_get workers index ≡ Some worker → IsLeastHead (length workers) workers index at →
    worker.found.items ≡ option_to_list result ++ now.found.items → now.found.items ≡ drop 1 worker.found.items → now.machine ≡ worker.machine →
    MatchOption result ((set workers index now ≡ workers) × NoHeadBelow (length workers) workers) (λ item. IsTaken workers item (set workers index now))
taken-by workers index at worker now result there least items rest machine = by result items
  where
    are : worker.found.items ≡ least.head.item ∷ least.head.rest
    are =
        let same : least.head.worker ≡ worker = some_same least.head.worker worker (sym least.head.there ∙ there) in
        sym (ap (λ (w : Worker). w.found.items) same) ∙ least.head.is

    longer : (list : List Unusual) (x : Unusual) (later : List Unusual) → list ≡ x ∷ later → list ≡ drop 1 list → ⊥
    longer list x later is same =
        let long = ap length is in
        let moved : list ≡ later = same ∙ ap (λ (l : List Unusual). drop 1 l) is in
        let short = ap length moved in
        omega (arith, long, short)

    by : (o : Option Unusual) → worker.found.items ≡ option_to_list o ++ now.found.items →
        MatchOption o ((set workers index now ≡ workers) × NoHeadBelow (length workers) workers) (λ item. IsTaken workers item (set workers index now))
    by None is = absurd (longer worker.found.items least.head.item least.head.rest are (is ∙ rest))
    by (Some item) is =
        let heads : least.head.item ∷ least.head.rest ≡ item ∷ now.found.items = sym are ∙ is in
        let first : least.head.item ≡ item = cc in
        let same : item.at ≡ at = ap (λ (u : Unusual). u.at) (sym first) ∙ least.head.is_at in
        record {
          index = index;
          was = worker;
          now = now;
          there = there;
          after_is = refl;
          found = is;
          machine = machine;
          least = λ j other head. (let low = least.least j other (in_range workers j head.worker head.there) head in omega (arith, same, low));
        }

-- what a list has after its first
in_rest : (item one : Unusual) (rest : List Unusual) → IsIn rest one → IsIn (item ∷ rest) one
in_rest item one rest is = record { place = suc is.place; there = is.there }

in_first : (item : Unusual) (rest : List Unusual) → IsIn (item ∷ rest) item
in_first item rest = record { place = 0; there = refl }

in_either : (item one : Unusual) (rest : List Unusual) (place : ℕ) → slice_get (item ∷ rest) place ≡ Some one → (one ≡ item) ⊎ IsIn rest one
in_either item one rest zero is = inl (some_same one item (sym is))
in_either item one rest (suc place) is = inr (record { place = place; there = is })

rest_rises : (item : Unusual) (rest : List Unusual) → Rise (item ∷ rest) → Rise rest
rest_rises item rest rise = λ i j one other less first second. rise (suc i) (suc j) one other (omega (arith, less)) first second

first_low : (item one : Unusual) (rest : List Unusual) → Rise (item ∷ rest) → IsIn rest one → item.at < one.at
first_low item one rest rise is = rise 0 (suc is.place) item one (omega arith) refl is.there

-- a list that gets a last
in_before : (items : List Unusual) (x one : Unusual) → IsIn items one → IsIn (items ++ x ∷ []) one
in_before items x one is = record { place = is.place; there = get_front items (x ∷ []) is.place (in_range items is.place one is.there) ∙ is.there }

in_last : (items : List Unusual) (x : Unusual) → IsIn (items ++ x ∷ []) x
in_last items x = record { place = length items; there = get_last items x }

old_or_last : (items : List Unusual) (x : Unusual) (j : ℕ) (one : Unusual) → slice_get (items ++ x ∷ []) j ≡ Some one → ((j < length items) × (slice_get items j ≡ Some one)) ⊎ ((j ≡ length items) × (one ≡ x))
old_or_last items x j one is = ⊎_elim
    (λ low. inl (low, sym (get_front items (x ∷ []) j low) ∙ is))
    (λ end. inr (end, some_same one x (sym is ∙ (ap (slice_get (items ++ x ∷ [])) end ∙ get_last items x))))
    (below_or_at j (length items) (omega (arith, in_range (items ++ x ∷ []) j one is, length_push items x)))

rises_more : (items : List Unusual) (x : Unusual) → Rise items → ((one : Unusual) → IsIn items one → one.at < x.at) → Rise (items ++ x ∷ [])
rises_more items x rise low = λ i j one other less first second. ⊎_elim
    (λ new. ⊎_elim (λ old. rise i j one other less old.1 new.1) (λ end. absurd (omega (arith, end.0, new.0, less))) (old_or_last items x i one first))
    (λ new. ⊎_elim (λ old. rw new.1 (low one (record { place = i; there = old.1 }))) (λ end. absurd (omega (arith, end.0, new.0, less))) (old_or_last items x i one first))
    (old_or_last items x j other second)

-- a write changes one place
set_same : {A : Type 0} (xs : List A) (i : ℕ) (x y : A) → slice_get xs i ≡ Some y → slice_get (set xs i x) i ≡ Some x
set_same [] i x y there = cc
set_same (z ∷ zs) zero x y there = refl
set_same (z ∷ zs) (suc i) x y there = set_same zs i x y there

set_either : {A : Type 0} (xs : List A) (i k : ℕ) (x y : A) → slice_get (set xs i x) k ≡ Some y → ((i ≡ k) × (y ≡ x)) ⊎ (slice_get xs k ≡ Some y)
set_either [] i k x y is = inr is
set_either (z ∷ zs) zero zero x y is = inl (refl, some_same y x (sym is))
set_either (z ∷ zs) zero (suc k) x y is = inr is
set_either (z ∷ zs) (suc i) zero x y is = inr is
set_either (z ∷ zs) (suc i) (suc k) x y is = ⊎_elim (λ here. inl (ap suc here.0, here.1)) (λ old. inr old) (set_either zs i k x y is)

set_old : {A : Type 0} (xs : List A) (i k : ℕ) (x y : A) → slice_get xs k ≡ Some y → (i ≡ k) ⊎ (slice_get (set xs i x) k ≡ Some y)
set_old [] i k x y is = inr is
set_old (z ∷ zs) zero zero x y is = inl refl
set_old (z ∷ zs) zero (suc k) x y is = inr is
set_old (z ∷ zs) (suc i) zero x y is = inr is
set_old (z ∷ zs) (suc i) (suc k) x y is = ⊎_elim (λ here. inl (ap suc here)) (λ old. inr old) (set_old zs i k x y is)

map_set : {A B : Type 0} (f : A → B) (xs : List A) (i : ℕ) (x y : A) → slice_get xs i ≡ Some y → f x ≡ f y → map f (set xs i x) ≡ map f xs
map_set f [] i x y there same = refl
map_set f (z ∷ zs) zero x y there same =
    let here : z ≡ y = some_same z y there in
    rw (same, here) refl
map_set f (z ∷ zs) (suc i) x y there same = ap (λ rest. f z ∷ rest) (map_set f zs i x y there same)

count_set : (workers : List Worker) (i : ℕ) (was now : Worker) → slice_get workers i ≡ Some was → length was.found.items ≡ suc (length now.found.items) →
    count_found (set workers i now) < count_found workers
count_set [] i was now there less = cc
count_set (w ∷ ws) zero was now there less =
    let here : w ≡ was = some_same w was there in
    rw here (omega (arith, less))
count_set (w ∷ ws) (suc i) was now there less = let rest = count_set ws i was now there less in omega (arith, rest)

module _ (before : List Worker) (item : Unusual) (after : List Worker) (taken : IsTaken before item after) where
  pub taken-machines : machines_of after ≡ machines_of before
  taken-machines = rw taken.after_is (map_set (λ (w : Worker). w.machine) before taken.index taken.now taken.was taken.there taken.machine)

  pub taken-count : count_found after < count_found before
  taken-count = rw taken.after_is (count_set before taken.index taken.was taken.now taken.there (ap length taken.found))

  -- worker i after it
  after_either : (i : ℕ) (worker : Worker) → slice_get after i ≡ Some worker → ((taken.index ≡ i) × (worker ≡ taken.now)) ⊎ (slice_get before i ≡ Some worker)
  after_either i worker is = set_either before taken.index i taken.now worker (rw taken.after_is at is)

  has_been : (i : ℕ) (one : Unusual) → HasItem after i one → HasItem before i one
  has_been i one has = ⊎_elim
      (λ here. record {
        worker = taken.was;
        there = rw here.0 at taken.there;
        has = rw taken.found (in_rest item one taken.now.found.items (rw here.1 at has.has));
      })
      (λ old. record { worker = has.worker; there = old; has = has.has })
      (after_either i has.worker has.there)

  had_item : HasItem before taken.index item
  had_item = record { worker = taken.was; there = taken.there; has = rw taken.found (in_first item taken.now.found.items) }

  still_has : (i : ℕ) (one : Unusual) → HasItem before i one → (one ≡ item) ⊎ HasItem after i one
  still_has i one has = ⊎_elim
      (λ here.
      let same : has.worker ≡ taken.was = some_same has.worker taken.was (sym has.there ∙ (ap (slice_get before) (sym here) ∙ taken.there)) in
      ⊎_elim
      (λ first. inl first)
      (λ rest. inr (record {
        worker = taken.now;
        there = rw (taken.after_is, ← here) (set_same before taken.index taken.now taken.was taken.there);
        has = rest;
      }))
      (in_either item one taken.now.found.items has.has.place (rw (same, taken.found) at has.has.there)))
      (λ old. inr (record { worker = has.worker; there = rw taken.after_is old; has = has.has }))
      (set_old before taken.index i taken.now has.worker has.there)

  module _ (apart : AreApart before) where
    was_rises : Rise (item ∷ taken.now.found.items)
    was_rises = rw taken.found at (apart.rise taken.index taken.was taken.there)

    pub taken-apart : AreApart after
    taken-apart = record {
      rise = λ i worker is. ⊎_elim
          (λ here. rw here.1 (rest_rises item taken.now.found.items was_rises))
          (λ old. apart.rise i worker old)
          (after_either i worker is);
      apart = λ i j one other first second same. apart.apart i j one other (has_been i one first) (has_been j other second) same;
    }

    -- a worker's head is not after its items
    head_of : (i : ℕ) (worker : Worker) (one : Unusual) (items : List Unusual) (place : ℕ) → slice_get before i ≡ Some worker → worker.found.items ≡ items → slice_get items place ≡ Some one → item.at ≤ one.at
    head_of i worker one [] place there are is = cc
    head_of i worker one (x ∷ rest) place there are is =
        let low : item.at ≤ x.at = taken.least i x.at (record { worker = worker; there = there; item = x; rest = rest; is = are; is_at = refl }) in
        let rise : Rise (x ∷ rest) = rw are at (apart.rise i worker there) in
        ⊎_elim
        (λ first. rw first low)
        (λ later. let high = first_low x one rest rise later in omega (arith, low, high))
        (in_either x one rest place is)

    -- each item that is left is after it
    pub taken-low : (i : ℕ) (one : Unusual) → HasItem after i one → item.at < one.at
    taken-low i one has = ⊎_elim
        (λ here. first_low item one taken.now.found.items was_rises (rw here.1 at has.has))
        (λ old. ⊎_elim
        (λ less. less)
        (λ same.
        let index : taken.index ≡ i = apart.apart taken.index i item one had_item (record { worker = has.worker; there = old; has = has.has }) same in
        let now_there : slice_get after i ≡ Some taken.now = rw (taken.after_is, ← index) (set_same before taken.index taken.now taken.was taken.there) in
        let is_now : has.worker ≡ taken.now = some_same has.worker taken.now (sym has.there ∙ now_there) in
        absurd (let low = first_low item one taken.now.found.items was_rises (rw is_now at has.has) in omega (arith, low, same)))
        (low_or_same (head_of i has.worker one has.worker.found.items has.has.place old refl has.has.there)))
        (after_either i has.worker has.there)
      where
        low_or_same : item.at ≤ one.at → (item.at < one.at) ⊎ (item.at ≡ one.at)
        low_or_same low = below_or_at item.at one.at (omega (arith, low))

-- no item is merged where it begins
pub merged-none : (before : List Worker) → AreApart before → AreMerged before before []
merged-none before apart = record {
  rise = λ i j one other less first second. cc;
  low = λ i one other is has. absurd (nothing one is);
  still = apart;
  had = λ item is. absurd (nothing item is);
  have = λ i item has. has;
  all = λ i item has. inr has;
}
  where
    nothing : (one : Unusual) → IsIn [] one → ⊥
    nothing one is = let e = is.there in cc

-- one item more
pub merged-more : (first before after : List Worker) (items : List Unusual) (item : Unusual) → IsTaken before item after → AreMerged first before items → AreMerged first after (items ++ item ∷ [])
merged-more first before after items item taken merged = record {
  rise = rises_more items item merged.rise (λ one is. merged.low taken.index one item is (had_item before item after taken));
  low = λ i one other is has. ⊎_elim
      (λ old. merged.low i one other (record { place = is.place; there = old.1 }) (has_been before item after taken i other has))
      (λ last. rw last.1 (taken-low before item after taken merged.still i other has))
      (old_or_last items item is.place one is.there);
  still = taken-apart before item after taken merged.still;
  had = λ one is. ⊎_elim
      (λ old. merged.had one (record { place = is.place; there = old.1 }))
      (λ last. (taken.index, rw last.1 (merged.have taken.index item (had_item before item after taken))))
      (old_or_last items item is.place one is.there);
  have = λ i one has. merged.have i one (has_been before item after taken i one has);
  all = λ i one has. ⊎_elim
      (λ is. inl (in_before items item one is))
      (λ old. ⊎_elim (λ same. inl (rw same (in_last items item))) (λ left. inr left) (still_has before item after taken i one old))
      (merged.all i one has);
}

-- A step comes before another in order exactly where the other one's clock knows its own_count.
use Rattle.std.proofs.Common.{◌≡◌, ℕ, zero, suc, ◌<◌, ◌≤◌, Bool, true, false, ◌&&◌, ◌==◌, nat_le, Option, Some, None, refl, sym, ◌∙◌, arith, ⊎_elim, inl, inr, ◌⊎◌, ◌↔◌}
use Rattle.std.proofs.lemmas.Bool.{le-leb, leb-true, eq-eqb, eqb-true, eqb-false, or_left, or_right, or_cases, and_from, and_left}
use Rattle.er_event.specs.declared.steps.Mode.{Mode}
use Rattle.er_event.specs.declared.steps.Mode.TheVariants.{Read, Write}
use Rattle.er_event.specs.Lockset.{has}
use Rattle.er_model.proofs.Search.{below_or_at}
use Rattle.er_order.specs.Order.{Effect, Acquired, Released, Started, Joined, Signalled, Awaited, Local, Act, Acts, starts, joins, leads, leads_from, reached, happens_before}
use Rattle.er_order.specs.Clocks.{Keeper, OfThread, OfReleases, OfObject, Clocks, is_own, gives_up, signals, gives, publishes, flows, found, seen, raised, clocks_after, clocks_at, own_count}
use Rattle.er_order.proofs.Order.{reached-self, reached-next, reached-last, reached-from, happens_before-from, happens_before-parts}
use Rattle.er_order.proofs.Keepers.{link-from, link-leads, own-leads, seen-found, found-seen}

pub equal_Bool : (x y : Bool) → (x ≡ true → y ≡ true) → (y ≡ true → x ≡ true) → x ≡ y
equal_Bool true true f g = refl
equal_Bool false false f g = refl
equal_Bool true false f g = let never = f refl in cc
equal_Bool false true f g = let never = g refl in cc

-- the raised number
pub raised-more : (g f : Bool) (x y : ℕ) → x ≤ raised g f x y
raised-more true true x y = omega arith
raised-more true false x y = omega arith
raised-more false true x y = omega arith
raised-more false false x y = omega arith

pub raised-seen : (g f : Bool) (x y : ℕ) → g ≡ true → y ≤ raised g f x y
raised-seen true true x y e = omega arith
raised-seen true false x y e = omega arith
raised-seen false f x y e = cc

raised-flows : (g f : Bool) (x y : ℕ) → f ≡ true → x < raised g f x y
raised-flows true true x y e = omega arith
raised-flows false true x y e = omega arith
raised-flows g false x y e = cc

pub raised-kept : (g f : Bool) (x y : ℕ) → g ≡ false → f ≡ false → raised g f x y ≡ x
raised-kept false false x y e h = omega arith
raised-kept true f x y e h = cc
raised-kept false true x y e h = cc

pub raised-or : (g f : Bool) (x y z : ℕ) → g ≡ true → f ≡ false → z ≤ raised g f x y → (z ≤ x) ⊎ (z ≤ y)
raised-or true false x y z e h low = grind arith
raised-or false f x y z e h low = cc
raised-or true true x y z e h low = cc

-- no other keeper knows a thread's own number
abbrev IsAhead : Clocks → Type 0
IsAhead clocks = (c : Keeper) (u : ℕ) → is_own c u ≡ false → clocks c u < clocks (OfThread u) u

module _ (clocks : Clocks) (ahead : IsAhead clocks) (u : ℕ) where
  runs_low : (v : ℕ) (b : Bool) → (v == u) ≡ b → clocks (OfThread v) u ≤ clocks (OfThread u) u
  runs_low v true same = let here : v ≡ u = eqb-true v u same in rw here (omega arith)
  runs_low v false other = let below = ahead (OfThread v) u other in omega arith

  found_low : (d : Effect) → found clocks d u ≤ clocks (OfThread u) u
  found_low (Acquired lock Read) = let a = ahead (OfReleases lock Write) u refl in omega arith
  found_low (Acquired lock Write) = let a = ahead (OfReleases lock Write) u refl in let b = ahead (OfReleases lock Read) u refl in omega arith
  found_low (Joined thread) = runs_low thread (thread == u) refl
  found_low (Awaited object) = let a = ahead (OfObject object) u refl in omega arith
  found_low (Released lock mode) = omega arith
  found_low (Started thread) = omega arith
  found_low (Signalled object) = omega arith
  found_low Local = omega arith

  found_below : (d : Effect) → joins d u ≡ false → found clocks d u < clocks (OfThread u) u
  found_below (Acquired lock Read) e = ahead (OfReleases lock Write) u refl
  found_below (Acquired lock Write) e = let a = ahead (OfReleases lock Write) u refl in let b = ahead (OfReleases lock Read) u refl in omega arith
  found_below (Joined thread) e = ahead (OfThread thread) u e
  found_below (Awaited object) e = ahead (OfObject object) u refl
  found_below (Released lock mode) e = let a = ahead (OfObject 0) u refl in omega arith
  found_below (Started thread) e = let a = ahead (OfObject 0) u refl in omega arith
  found_below (Signalled object) e = let a = ahead (OfObject 0) u refl in omega arith
  found_below Local e = let a = ahead (OfObject 0) u refl in omega arith

-- a step that gives to another keeper hands out
starts_out : (d : Effect) (u : ℕ) → starts d u ≡ true → publishes d ≡ true
starts_out (Started thread) u e = refl
starts_out (Acquired lock mode) u e = cc
starts_out (Released lock mode) u e = cc
starts_out (Joined thread) u e = cc
starts_out (Signalled object) u e = cc
starts_out (Awaited object) u e = cc
starts_out Local u e = cc

frees_out : (d : Effect) (l : ℕ) (m : Mode) → gives_up d l m ≡ true → publishes d ≡ true
frees_out (Released lock mode) l m e = refl
frees_out (Acquired lock mode) l m e = cc
frees_out (Started thread) l m e = cc
frees_out (Joined thread) l m e = cc
frees_out (Signalled object) l m e = cc
frees_out (Awaited object) l m e = cc
frees_out Local l m e = cc

sends_out : (d : Effect) (x : ℕ) → signals d x ≡ true → publishes d ≡ true
sends_out (Signalled object) x e = refl
sends_out (Acquired lock mode) x e = cc
sends_out (Released lock mode) x e = cc
sends_out (Started thread) x e = cc
sends_out (Joined thread) x e = cc
sends_out (Awaited object) x e = cc
sends_out Local x e = cc

gives_out : (a : Act) (c : Keeper) → gives a c ≡ true → is_own c a.thread ≡ false → publishes a.sync ≡ true
unfolding gives
gives_out a (OfThread t) g other =
    ⊎_elim
    (λ own. let same : a.thread ≡ t = eqb-true a.thread t own in absurd (eqb-false t a.thread other (sym same)))
    (λ begun. starts_out a.sync t begun)
    (or_cases (a.thread == t) (starts a.sync t) g)
gives_out a (OfReleases l m) g other = frees_out a.sync l m g
gives_out a (OfObject x) g other = sends_out a.sync x g

-- one step keeps threads ahead
module _ (clocks : Clocks) (ahead : IsAhead clocks) (a : Act) where
  abbrev next : Clocks
  next c u = clocks_after clocks (Some a) c u

  own_flows : (u : ℕ) → flows a u ≡ true → clocks (OfThread u) u < next (OfThread u) u
  own_flows u e = raised-flows (gives a (OfThread u)) (is_own (OfThread u) u && flows a u) (clocks (OfThread u) u) (seen clocks a u) (and_from (u == u) (flows a u) (eq-eqb u u refl) e)

  own_more : (u : ℕ) → clocks (OfThread u) u ≤ next (OfThread u) u
  own_more u = raised-more (gives a (OfThread u)) (is_own (OfThread u) u && flows a u) (clocks (OfThread u) u) (seen clocks a u)

  flows_own : (c : Keeper) (u : ℕ) → a.thread ≡ u → gives a c ≡ true → is_own c u ≡ false → flows a u ≡ true
  unfolding flows
  flows_own c u same g other =
      or_left (a.thread == u && publishes a.sync) (joins a.sync u)
      (and_from (a.thread == u) (publishes a.sync) (eq-eqb a.thread u same) (gives_out a c g (rw same other)))

  flows_join : (u : ℕ) → joins a.sync u ≡ true → flows a u ≡ true
  unfolding flows
  flows_join u e = or_right (a.thread == u && publishes a.sync) (joins a.sync u) e

  seen_own : (u : ℕ) → a.thread ≡ u → seen clocks a u ≤ clocks (OfThread u) u
  unfolding seen
  seen_own u same = let low = found_low clocks ahead u a.sync in rw same (omega arith)

  seen_other : (u : ℕ) → (a.thread == u) ≡ false → (b : Bool) → joins a.sync u ≡ b → seen clocks a u < next (OfThread u) u
  unfolding seen
  seen_other u other true joined =
      let low = found_low clocks ahead u a.sync in
      let one = ahead (OfThread a.thread) u other in
      let more = own_flows u (flows_join u joined) in
      omega arith
  seen_other u other false apart =
      let low = found_below clocks ahead u a.sync apart in
      let one = ahead (OfThread a.thread) u other in
      let more = own_more u in
      omega arith

  seen_below : (c : Keeper) (u : ℕ) → gives a c ≡ true → is_own c u ≡ false → (b : Bool) → (a.thread == u) ≡ b → seen clocks a u < next (OfThread u) u
  seen_below c u g other true own =
      let same : a.thread ≡ u = eqb-true a.thread u own in
      let low = seen_own u same in
      let more = own_flows u (flows_own c u same g other) in
      omega arith
  seen_below c u g other false apart = seen_other u apart (joins a.sync u) refl

  ahead_by : (c : Keeper) (u : ℕ) (b : Bool) → gives a c ≡ b → is_own c u ≡ false → next c u < next (OfThread u) u
  ahead_by c u true g other =
      let low = seen_below c u g other (a.thread == u) refl in
      let before = ahead c u other in
      let more = own_more u in
      ⊎_elim
      (λ x. omega arith)
      (λ y. omega arith)
      (raised-or (gives a c) (is_own c u && flows a u) (clocks c u) (seen clocks a u) (next c u) g (and_left (is_own c u) (flows a u) other) (omega arith))
  ahead_by c u false g other =
      let same = raised-kept (gives a c) (is_own c u && flows a u) (clocks c u) (seen clocks a u) g (and_left (is_own c u) (flows a u) other) in
      let before = ahead c u other in
      let more = own_more u in
      omega arith

  pub ahead-next : IsAhead next
  ahead-next c u other = ahead_by c u (gives a c) refl other

ahead_option : (clocks : Clocks) → IsAhead clocks → (o : Option Act) → IsAhead (clocks_after clocks o)
ahead_option clocks ahead None = ahead
ahead_option clocks ahead (Some a) = ahead-next clocks ahead a

pub ahead-at : (acts : Acts) (n : ℕ) → IsAhead (clocks_at acts n)
unfolding clocks_at
ahead-at acts zero c u other = rw (other, eq-eqb u u refl) (omega arith)
ahead-at acts (suc n) c u other = ahead_option (clocks_at acts n) (ahead-at acts n) (acts n) c u other

-- what knows a own_count: a keeper to which j or a later position of its chains gave
module _ (acts : Acts) (j : ℕ) (a : Act) (here : acts j ≡ Some a) where
  abbrev Reaches : ℕ → Keeper → Type 0
  Reaches n c = (i : ℕ) × (i < n) × (has (reached acts j (suc i)) i ≡ true) × (b : Act) × (acts i ≡ Some b) × (gives b c ≡ true)

  abbrev Knows : ℕ → Keeper → Type 0
  Knows n c = (own_count acts j a.thread ≤ clocks_at acts n c a.thread) ↔ Reaches n c

  later : (n : ℕ) (c : Keeper) → Reaches n c → Reaches (suc n) c
  later n c found = (found.0, omega (arith, found.1), found.2, found.3, found.4, found.5)

  some_same : (k : ℕ) (b c : Act) → acts k ≡ Some b → acts k ≡ Some c → b ≡ c
  some_same k b c is at = some_injective b c (sym is ∙ at)
    where
      some_injective : (x y : Act) → Some x ≡ Some y → x ≡ y
      some_injective x y e = cc

  own_count-some : 0 < own_count acts j a.thread
  unfolding own_count
  own_count-some = let below = ahead-at acts j (OfObject 0) a.thread refl in omega arith

  -- the act of a position that leads on
  leader : (m k : ℕ) (b : Act) → acts k ≡ Some b → leads_from (acts m) (acts k) ≡ true → (o : Option Act) → acts m ≡ o → (d : Act) × (acts m ≡ Some d) × (leads d b ≡ true)
  leader m k b is led None at = let never : false ≡ true = rw at at led in cc
  leader m k b is led (Some d) at = let leads_on : leads_from (Some d) (Some b) ≡ true = rw is at (rw at at led) in (d, at, leads_on)

  module _ (k : ℕ) (b : Act) (is : acts k ≡ Some b) (below : j < k) (knows : (c : Keeper) → Knows k c) where
    led_from : (m : ℕ) (d : Act) → acts m ≡ Some d → leads d b ≡ true → leads_from (acts m) (acts k) ≡ true
    led_from m d at led = rw (at, is) led

    known_by : (same : Bool) → (a.thread == b.thread) ≡ same → own_count acts j a.thread ≤ seen (clocks_at acts k) b a.thread → happens_before acts j k ≡ true
    known_by true own low =
        happens_before-from acts j k below (reached-next acts j j k (reached-self acts j) below (led_from j a here (own-leads a b (eqb-true a.thread b.thread own))))
    known_by false other low =
        let at = seen-found (clocks_at acts k) a.thread (own_count acts j a.thread) b own_count-some low in
        let from = (knows at.0).0 at.2 in
        happens_before-from acts j k below
        (reached-next acts j from.0 k from.2 from.1 (led_from from.0 from.3 from.4 (link-leads from.3 b at.0 from.5 at.1)))

    pub known-happens_before : own_count acts j a.thread ≤ seen (clocks_at acts k) b a.thread → happens_before acts j k ≡ true
    known-happens_before low = known_by (a.thread == b.thread) refl low

    pub happens_before-known : happens_before acts j k ≡ true → own_count acts j a.thread ≤ seen (clocks_at acts k) b a.thread
    happens_before-known e =
        let at = reached-last acts j k below (happens_before-parts acts j k e).1 in
        let from = leader at.0 k b is at.3 (acts at.0) refl in
        let link = link-from from.0 b from.2 in
        found-seen (clocks_at acts k) a.thread (own_count acts j a.thread) b link.0 link.2
        ((knows link.0).1 (at.0, at.1, at.2, from.0, from.1, link.1))

  -- at a point after position n, whose step is b
  module _ (n : ℕ) (b : Act) (is : acts n ≡ Some b) (c : Keeper) where
    abbrev given : Bool
    given = gives b c

    abbrev flowed : Bool
    flowed = is_own c a.thread && flows b a.thread

    abbrev old : ℕ
    old = clocks_at acts n c a.thread

    abbrev known : ℕ
    known = seen (clocks_at acts n) b a.thread

    clock_next : clocks_at acts (suc n) c a.thread ≡ raised given flowed old known
    unfolding clocks_at
    clock_next = rw is refl

    own_keeper : is_own c a.thread ≡ true → gives a c ≡ true
    own_keeper own = own_gives c own
      where
        own_gives : (c : Keeper) → is_own c a.thread ≡ true → gives a c ≡ true
        own_gives (OfThread t) own = unfold gives in or_left (a.thread == t) (starts a.sync t) (eq-eqb a.thread t (sym (eqb-true t a.thread own)))
        own_gives (OfReleases l m) own = cc
        own_gives (OfObject x) own = cc

    -- an earlier position
    module _ (below : j < n) (knows : (d : Keeper) → Knows n d) where
      earlier_gave : given ≡ true → (own_count acts j a.thread ≤ old) ⊎ (own_count acts j a.thread ≤ known) → Reaches (suc n) c
      earlier_gave g (inl low) = later n c ((knows c).0 low)
      earlier_gave g (inr low) =
          (n, omega arith, (happens_before-parts acts j n (known-happens_before n b is below knows low)).1, b, is, g)

      earlier_known : (own g : Bool) → is_own c a.thread ≡ own → given ≡ g → own_count acts j a.thread ≤ clocks_at acts (suc n) c a.thread → Reaches (suc n) c
      earlier_known true g own gave low = (j, omega arith, reached-self acts j, a, here, own_keeper own)
      earlier_known false true other gave low =
          earlier_gave gave (raised-or given flowed old known (own_count acts j a.thread) gave (and_left (is_own c a.thread) (flows b a.thread) other) (rw clock_next at low))
      earlier_known false false other kept low =
          let same = raised-kept given flowed old known kept (and_left (is_own c a.thread) (flows b a.thread) other) in
          let raised_low : own_count acts j a.thread ≤ raised given flowed old known = rw clock_next at low in
          later n c ((knows c).0 (omega arith))

      earlier_reaches : (i : ℕ) → (i < n) ⊎ (i ≡ n) → has (reached acts j (suc i)) i ≡ true → (d : Act) → acts i ≡ Some d → gives d c ≡ true → own_count acts j a.thread ≤ clocks_at acts (suc n) c a.thread
      earlier_reaches i (inl before) at d act g =
          let low = (knows c).1 (i, before, at, d, act, g) in
          let more = raised-more given flowed old known in
          rw clock_next (omega arith)
      earlier_reaches i (inr same) at d act g =
          let at' : has (reached acts j (suc n)) n ≡ true = rw same at at in
          let low = happens_before-known n b is below knows (happens_before-from acts j n below at') in
          let this : d ≡ b = some_same n d b (rw same at act) is in
          let more = raised-seen given flowed old known (rw this at g) in
          rw clock_next (omega arith)

      earlier : Knows (suc n) c
      earlier = (
        (λ low. earlier_known (is_own c a.thread) given refl refl low),
        (λ found. earlier_reaches found.0 (below_or_at found.0 n found.1) found.2 found.3 found.4 found.5),
      )

  -- position j itself
  module _ (c : Keeper) where
    abbrev flowed_here : Bool
    flowed_here = is_own c a.thread && flows a a.thread

    clock_here : clocks_at acts (suc j) c a.thread ≡ raised (gives a c) flowed_here (clocks_at acts j c a.thread) (seen (clocks_at acts j) a a.thread)
    clock_here = clock_next j a here c

    here_reaches : gives a c ≡ true → Reaches (suc j) c
    here_reaches g = (j, omega arith, reached-self acts j, a, here, g)

    here_known : (own g : Bool) → is_own c a.thread ≡ own → gives a c ≡ g → own_count acts j a.thread ≤ clocks_at acts (suc j) c a.thread → Reaches (suc j) c
    unfolding own_count
    here_known own true is gave low = here_reaches gave
    here_known true false own kept low = here_reaches (own_keeper j a here c own)
    here_known false false other kept low =
        let same = raised-kept (gives a c) flowed_here (clocks_at acts j c a.thread) (seen (clocks_at acts j) a a.thread) kept (and_left (is_own c a.thread) (flows a a.thread) other) in
        let below = ahead-at acts j c a.thread other in
        let raised_low : clocks_at acts j (OfThread a.thread) a.thread ≤ raised (gives a c) flowed_here (clocks_at acts j c a.thread) (seen (clocks_at acts j) a a.thread) = rw clock_here at low in
        absurd (omega arith)

    here_from : Reaches (suc j) c → own_count acts j a.thread ≤ clocks_at acts (suc j) c a.thread
    unfolding own_count seen
    here_from found =
        let low = reached-from acts j found.0 found.2 in
        let same : found.0 ≡ j = omega (arith, found.1) in
        let this : found.3 ≡ a = some_same j found.3 a (rw same at found.4) here in
        let more = raised-seen (gives a c) flowed_here (clocks_at acts j c a.thread) (seen (clocks_at acts j) a a.thread) (rw this at found.5) in
        rw clock_here (omega arith)

    at_itself : Knows (suc j) c
    at_itself = (
      (λ low. here_known (is_own c a.thread) (gives a c) refl refl low),
      here_from,
    )

  -- at a point whose step is refused
  refused : (n : ℕ) → acts n ≡ None → j < n → (c : Keeper) → Knows n c → Knows (suc n) c
  unfolding clocks_at
  refused n none below c knows = (
    (λ low. let low' : own_count acts j a.thread ≤ clocks_at acts n c a.thread = rw none at low in later n c (knows.0 low')),
    (λ found. ⊎_elim
        (λ before. rw none (knows.1 (found.0, before, found.2, found.3, found.4, found.5)))
        (λ same. let never : None ≡ Some found.3 = rw none at (rw same at found.4) in cc)
        (below_or_at found.0 n found.1)),
  )

  knows_by : (n : ℕ) → (j < n) ⊎ (j ≡ n) → (o : Option Act) → acts n ≡ o → (j < n → (c : Keeper) → Knows n c) → (c : Keeper) → Knows (suc n) c
  knows_by n (inl below) None is rest c = refused n is below c (rest below c)
  knows_by n (inl below) (Some b) is rest c = earlier n b is c below (rest below)
  knows_by n (inr same) o is rest c = rw (← same) (at_itself c)

  pub knows-at : (n : ℕ) → j < n → (c : Keeper) → Knows n c
  knows-at zero below c = absurd (omega arith)
  knows-at (suc n) below c = knows_by n (below_or_at j n below) (acts n) refl (λ low d. knows-at n low d) c

  pub clocks-decide : (k : ℕ) (b : Act) → j < k → acts k ≡ Some b → happens_before acts j k ≡ nat_le (own_count acts j a.thread) (seen (clocks_at acts k) b a.thread)
  clocks-decide k b below is =
      equal_Bool (happens_before acts j k) (nat_le (own_count acts j a.thread) (seen (clocks_at acts k) b a.thread))
      (λ e. le-leb (own_count acts j a.thread) (seen (clocks_at acts k) b a.thread) (happens_before-known k b is below (λ c. knows-at k below c) e))
      (λ e. known-happens_before k b is below (λ c. knows-at k below c) (leb-true (own_count acts j a.thread) (seen (clocks_at acts k) b a.thread) e))

-- A step leads to a later one exactly where it gives to a keeper from which the later one takes.
use Rattle.std.proofs.Common.{◌≡◌, ℕ, ◌<◌, ◌≤◌, max, Bool, true, ◌&&◌, ◌||◌, not, ◌==◌, refl, sym, ◌∙◌, arith, ⊎_elim, ◌⊎◌}
use Rattle.std.proofs.lemmas.Bool.{eq-eqb, eqb-true, or_left, or_right, or_cases, and_parts, and_from}
use Rattle.er_event.specs.declared.steps.Mode.{Mode}
use Rattle.er_event.specs.declared.steps.Mode.TheVariants.{Read, Write}
use Rattle.er_model.specs.Threads.{same_mode}
use Rattle.er_order.specs.Order.{Effect, Acquired, Released, Started, Joined, Signalled, Awaited, Local, Act, takes, awaits, starts, joins, synchronizes, leads}
use Rattle.er_order.specs.Clocks.{Keeper, OfThread, OfReleases, OfObject, Clocks, gives_up, signals, gives, found, seen}

-- the keepers from which a step takes
abbrev pub finds : Act → Keeper → Bool
finds b (OfThread t) = b.thread == t || joins b.sync t
finds b (OfReleases l m) = takes b.sync l m
finds b (OfObject x) = awaits b.sync x

abbrev pub doing : ℕ → Effect → Act
doing t d = record { thread = t; sync = d }

same_self : (m : Mode) → same_mode m m ≡ true
same_self Read = refl
same_self Write = refl

same-mode : (m n : Mode) → same_mode m n ≡ true → m ≡ n
same-mode Read Read e = refl
same-mode Write Write e = refl
same-mode Read Write e = cc
same-mode Write Read e = cc

abbrev pub IsLink : Act → Act → Type 0
IsLink a b = (c : Keeper) × (gives a c ≡ true) × (finds b c ≡ true)

hands_link : (t : ℕ) (d : Effect) (b : Act) → synchronizes d b.sync ≡ true → IsLink (doing t d) b
unfolding gives
hands_link t (Released lock mode) b e = (OfReleases lock mode, and_from (lock == lock) (same_mode mode mode) (eq-eqb lock lock refl) (same_self mode), e)
hands_link t (Signalled object) b e = (OfObject object, eq-eqb object object refl, e)
hands_link t (Started thread) b e = (OfThread thread, or_right (t == thread) (thread == thread) (eq-eqb thread thread refl), or_right (b.thread == thread) (joins b.sync thread) e)
hands_link t (Acquired lock mode) b e = cc
hands_link t (Joined thread) b e = cc
hands_link t (Awaited object) b e = cc
hands_link t Local b e = cc

pub link-from : (a b : Act) → leads a b ≡ true → IsLink a b
unfolding leads gives
link-from a b e =
    ⊎_elim
    (λ own. (OfThread b.thread, or_left (a.thread == b.thread) (starts a.sync b.thread) own, or_left (b.thread == b.thread) (joins b.sync b.thread) (eq-eqb b.thread b.thread refl)))
    (λ rest.
    ⊎_elim
    (λ begun. (OfThread b.thread, or_right (a.thread == b.thread) (starts a.sync b.thread) begun, or_left (b.thread == b.thread) (joins b.sync b.thread) (eq-eqb b.thread b.thread refl)))
    (λ more.
    ⊎_elim
    (λ joined. (OfThread a.thread, or_left (a.thread == a.thread) (starts a.sync a.thread) (eq-eqb a.thread a.thread refl), or_right (b.thread == a.thread) (joins b.sync a.thread) joined))
    (λ handed. hands_link a.thread a.sync b handed)
    (or_cases (joins b.sync a.thread) (synchronizes a.sync b.sync) more))
    (or_cases (starts a.sync b.thread) (joins b.sync a.thread || synchronizes a.sync b.sync) rest))
    (or_cases (a.thread == b.thread) (starts a.sync b.thread || (joins b.sync a.thread || synchronizes a.sync b.sync)) e)

-- and the other way round
starts_joins : (d e : Effect) (u : ℕ) → starts d u ≡ true → joins e u ≡ true → synchronizes d e ≡ true
starts_joins (Started thread) e u s j = let same : thread ≡ u = eqb-true thread u s in rw same j
starts_joins (Released lock mode) e u s j = cc
starts_joins (Signalled object) e u s j = cc
starts_joins (Acquired lock mode) e u s j = cc
starts_joins (Joined thread) e u s j = cc
starts_joins (Awaited object) e u s j = cc
starts_joins Local e u s j = cc

frees_takes : (d e : Effect) (l : ℕ) (m : Mode) → gives_up d l m ≡ true → takes e l m ≡ true → synchronizes d e ≡ true
frees_takes (Released lock mode) e l m f t =
    let parts = and_parts (lock == l) (same_mode mode m) f in
    let same : lock ≡ l = eqb-true lock l parts.0 in
    let modes : mode ≡ m = same-mode mode m parts.1 in
    rw (same, modes) t
frees_takes (Started thread) e l m f t = cc
frees_takes (Signalled object) e l m f t = cc
frees_takes (Acquired lock mode) e l m f t = cc
frees_takes (Joined thread) e l m f t = cc
frees_takes (Awaited object) e l m f t = cc
frees_takes Local e l m f t = cc

sends_awaits : (d e : Effect) (x : ℕ) → signals d x ≡ true → awaits e x ≡ true → synchronizes d e ≡ true
sends_awaits (Signalled object) e x s a = let same : object ≡ x = eqb-true object x s in rw same a
sends_awaits (Started thread) e x s a = cc
sends_awaits (Released lock mode) e x s a = cc
sends_awaits (Acquired lock mode) e x s a = cc
sends_awaits (Joined thread) e x s a = cc
sends_awaits (Awaited object) e x s a = cc
sends_awaits Local e x s a = cc

module _ (a b : Act) where
  by_own : a.thread ≡ b.thread → leads a b ≡ true
  unfolding leads
  by_own same = or_left (a.thread == b.thread) (starts a.sync b.thread || (joins b.sync a.thread || synchronizes a.sync b.sync)) (eq-eqb a.thread b.thread same)

  by_start : starts a.sync b.thread ≡ true → leads a b ≡ true
  unfolding leads
  by_start e = or_right (a.thread == b.thread) (starts a.sync b.thread || (joins b.sync a.thread || synchronizes a.sync b.sync)) (or_left (starts a.sync b.thread) (joins b.sync a.thread || synchronizes a.sync b.sync) e)

  by_join : joins b.sync a.thread ≡ true → leads a b ≡ true
  unfolding leads
  by_join e =
      or_right (a.thread == b.thread) (starts a.sync b.thread || (joins b.sync a.thread || synchronizes a.sync b.sync))
      (or_right (starts a.sync b.thread) (joins b.sync a.thread || synchronizes a.sync b.sync) (or_left (joins b.sync a.thread) (synchronizes a.sync b.sync) e))

  by_hand : synchronizes a.sync b.sync ≡ true → leads a b ≡ true
  unfolding leads
  by_hand e =
      or_right (a.thread == b.thread) (starts a.sync b.thread || (joins b.sync a.thread || synchronizes a.sync b.sync))
      (or_right (starts a.sync b.thread) (joins b.sync a.thread || synchronizes a.sync b.sync) (or_right (joins b.sync a.thread) (synchronizes a.sync b.sync) e))

  pub own-leads : a.thread ≡ b.thread → leads a b ≡ true
  own-leads same = by_own same

  runs_leads : (u : ℕ) → (a.thread == u || starts a.sync u) ≡ true → (b.thread == u || joins b.sync u) ≡ true → leads a b ≡ true
  runs_leads u g f =
      ⊎_elim
      (λ mine. let same_a : a.thread ≡ u = eqb-true a.thread u mine in
      ⊎_elim
      (λ own. by_own (same_a ∙ sym (eqb-true b.thread u own)))
      (λ joined. by_join (rw same_a joined))
      (or_cases (b.thread == u) (joins b.sync u) f))
      (λ begun.
      ⊎_elim
      (λ own. let same_b : b.thread ≡ u = eqb-true b.thread u own in by_start (rw same_b begun))
      (λ joined. by_hand (starts_joins a.sync b.sync u begun joined))
      (or_cases (b.thread == u) (joins b.sync u) f))
      (or_cases (a.thread == u) (starts a.sync u) g)

  pub link-leads : (c : Keeper) → gives a c ≡ true → finds b c ≡ true → leads a b ≡ true
  unfolding gives
  link-leads (OfThread u) g f = runs_leads u g f
  link-leads (OfReleases l m) g f = by_hand (frees_takes a.sync b.sync l m g f)
  link-leads (OfObject x) g f = by_hand (sends_awaits a.sync b.sync x g f)

-- what a step knows, it finds at some keeper
module _ (clocks : Clocks) (t x : ℕ) where
  abbrev pub IsFound : Act → Type 0
  IsFound b = (c : Keeper) × (finds b c ≡ true) × (x ≤ clocks c t)

  or_less : (y z : ℕ) → x ≤ max y z → (x ≤ y) ⊎ (x ≤ z)
  or_less y z e = grind arith

  found_at : (u : ℕ) (d : Effect) → 0 < x → x ≤ found clocks d t → IsFound (doing u d)
  found_at u (Acquired lock Read) some e = (OfReleases lock Write, and_from (lock == lock) true (eq-eqb lock lock refl) refl, e)
  found_at u (Acquired lock Write) some e =
      ⊎_elim
      (λ wrote. (OfReleases lock Write, and_from (lock == lock) true (eq-eqb lock lock refl) refl, wrote))
      (λ read. (OfReleases lock Read, and_from (lock == lock) true (eq-eqb lock lock refl) refl, read))
      (or_less (clocks (OfReleases lock Write) t) (clocks (OfReleases lock Read) t) e)
  found_at u (Joined thread) some e = (OfThread thread, or_right (u == thread) (thread == thread) (eq-eqb thread thread refl), e)
  found_at u (Awaited object) some e = (OfObject object, eq-eqb object object refl, e)
  found_at u (Released lock mode) some e = absurd (omega arith)
  found_at u (Started thread) some e = absurd (omega arith)
  found_at u (Signalled object) some e = absurd (omega arith)
  found_at u Local some e = absurd (omega arith)

  pub seen-found : (b : Act) → 0 < x → x ≤ seen clocks b t → IsFound b
  unfolding seen
  seen-found b some e =
      ⊎_elim
      (λ own. (OfThread b.thread, or_left (b.thread == b.thread) (joins b.sync b.thread) (eq-eqb b.thread b.thread refl), own))
      (λ other. found_at b.thread b.sync some other)
      (or_less (clocks (OfThread b.thread) t) (found clocks b.sync t) e)

  joins_found : (d : Effect) (u : ℕ) → joins d u ≡ true → x ≤ clocks (OfThread u) t → x ≤ found clocks d t
  joins_found (Joined thread) u j e = let same : thread ≡ u = eqb-true thread u j in rw same e
  joins_found (Acquired lock mode) u j e = cc
  joins_found (Released lock mode) u j e = cc
  joins_found (Started thread) u j e = cc
  joins_found (Signalled object) u j e = cc
  joins_found (Awaited object) u j e = cc
  joins_found Local u j e = cc

  takes_lock : (lock l : ℕ) (mode m : Mode) → lock ≡ l → not (same_mode mode Read && same_mode m Read) ≡ true → x ≤ clocks (OfReleases l m) t → x ≤ found clocks (Acquired lock mode) t
  takes_lock lock l Read Write same ok e = rw same e
  takes_lock lock l Read Read same ok e = cc
  takes_lock lock l Write Write same ok e = rw same (omega arith)
  takes_lock lock l Write Read same ok e = rw same (omega arith)

  takes_found : (d : Effect) (l : ℕ) (m : Mode) → takes d l m ≡ true → x ≤ clocks (OfReleases l m) t → x ≤ found clocks d t
  takes_found (Acquired lock mode) l m j e =
      let parts = and_parts (lock == l) (not (same_mode mode Read && same_mode m Read)) j in
      takes_lock lock l mode m (eqb-true lock l parts.0) parts.1 e
  takes_found (Joined thread) l m j e = cc
  takes_found (Released lock mode) l m j e = cc
  takes_found (Started thread) l m j e = cc
  takes_found (Signalled object) l m j e = cc
  takes_found (Awaited object) l m j e = cc
  takes_found Local l m j e = cc

  awaits_found : (d : Effect) (o : ℕ) → awaits d o ≡ true → x ≤ clocks (OfObject o) t → x ≤ found clocks d t
  awaits_found (Awaited object) o j e = let same : object ≡ o = eqb-true object o j in rw same e
  awaits_found (Acquired lock mode) o j e = cc
  awaits_found (Joined thread) o j e = cc
  awaits_found (Released lock mode) o j e = cc
  awaits_found (Started thread) o j e = cc
  awaits_found (Signalled object) o j e = cc
  awaits_found Local o j e = cc

  own_seen : (b : Act) (u : ℕ) → b.thread ≡ u → x ≤ clocks (OfThread u) t → x ≤ seen clocks b t
  unfolding seen
  own_seen b u same e = let mine : x ≤ clocks (OfThread b.thread) t = rw same e in omega arith

  other_seen : (b : Act) → x ≤ found clocks b.sync t → x ≤ seen clocks b t
  unfolding seen
  other_seen b e = omega arith

  pub found-seen : (b : Act) (c : Keeper) → finds b c ≡ true → x ≤ clocks c t → x ≤ seen clocks b t
  found-seen b (OfThread u) f e =
      ⊎_elim
      (λ own. own_seen b u (eqb-true b.thread u own) e)
      (λ joined. other_seen b (joins_found b.sync u joined e))
      (or_cases (b.thread == u) (joins b.sync u) f)
  found-seen b (OfReleases l m) f e = other_seen b (takes_found b.sync l m f e)
  found-seen b (OfObject o) f e = other_seen b (awaits_found b.sync o f e)

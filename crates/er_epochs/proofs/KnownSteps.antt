-- What is known of a word by its touches follows from what was known, by the clock of the accessing thread, and what serves as it goes on so.
use Rattle.std.proofs.Common.{◌≡◌, ℕ, zero, suc, ◌<◌, ◌≤◌, Bool, true, false, ◌&&◌, ◌||◌, ◌==◌, not, cond, nat_le, nat_lt, List, [], ◌∷◌, ◌++◌, length, map, is_some, slice_get, Option, Some, None, refl, ap, ap₂, sym, subst, ◌∙◌, arith, ⊎_elim}
use Rattle.std.proofs.lemmas.Bool.{eq-eqb, eqb-true, and_parts}
use Rattle.std.specs.Bool.{MatchBool}
use Rattle.std.specs.List.{find}
use Rattle.std.specs.Option.{option_map}
use Rattle.er_event.specs.Lockset.{has}
use Rattle.er_event.specs.declared.addresses.PageRange.{PageRange}
use Rattle.er_event.specs.declared.steps.Event.{Event}
use Rattle.er_event.specs.declared.steps.Event.TheVariants.{Acquire, Release, Access, Reuse, IgnoreOn, IgnoreOff, Show, Level, Sync}
use Rattle.er_event.specs.declared.steps.Kind.{Kind}
use Rattle.er_event.specs.declared.steps.Kind.TheVariants.{Read as reading, Write as writing}
use Rattle.er_event.specs.declared.steps.Step.{Step}
use Rattle.er_event.proofs.Lists.{get_front, get_last, length_push}
use Rattle.er_model.specs.Search.{some_below}
use Rattle.er_model.specs.Words.{Mark, Counted, Reused, Shown, Nothing, Reading, reuses, counts, thread_of, writes, era, counted_from, is_writing, is_within}
use Rattle.er_model.specs.Holdings.{Holdings, holdings_at}
use Rattle.er_model.specs.Answers.{reading_of}
use Rattle.er_model.specs.Following.{locks_for, marked}
use Rattle.er_order.specs.ByBytes.{Touched, meet, by_bytes, accesses, accesses_from, is_in_use_by_bytes}
use Rattle.er_order.specs.Clocks.{OfThread, clocks_at, own_count}
use Rattle.er_order.specs.Order.{Acts, Local, acts_of, happens_before}
use Rattle.er_order.specs.Following.{is_unordered}
use Rattle.er_order.specs.Parts.{Query, hits, first_hit, IsPartNoted}
use Rattle.er_order.specs.Races.{Order, is_race, had_race, is_reported, last_use}
use Rattle.er_order.specs.Reasons.{last_unordered}
use Rattle.er_order.specs.declared.bytes.Bytes.{Bytes}
use Rattle.er_order.proofs.ByBytes.{unordered-listed, race-listed, use-listed, listed-access, listed-reuse, listed-other}
use Rattle.er_order.proofs.Following.{had-step, had_reused, or_none, mark-step, reported-had}
use Rattle.er_order.proofs.Order.{next-cases}
use Rattle.er_order.proofs.Parts.{parts-here, parts-grow, parts-noted, parts-itself}
use Rattle.er_order.proofs.RaceLemmas.{not-reused}
use Rattle.er_order.proofs.StepLemmas.{Agree, agree-steps, some-at, held-front, clocks-front}
use Rattle.er_epochs.specs.declared.reads.Tagged.{Tagged}
use Rattle.er_epochs.specs.declared.byte_accesses.ByteAccess.{ByteAccess}
use Rattle.er_epochs.specs.Epochs.{tagged, pair_of}
use Rattle.er_epochs.specs.Known.{Known, Since, Raced, part_of, query_of, finds, IsKnownBy, reuse_query}
use Rattle.er_epochs.specs.Standing.{byte_access_at, kind_of, known, known_at, ServesAs, FollowsBytes, IsKnownMoved}
use Rattle.er_epochs.specs.Words.{AllWords, known_among}
use Rattle.er_epochs.specs.Standing.{access_at}
use Rattle.er_epochs.proofs.FollowLemmas.{own-thread}
use Rattle.er_epochs.proofs.ReasonLemmas.{find-mapped}
use Rattle.er_epochs.proofs.StepLemmas.{apart-known}

-- what is known after this access, if all accesses are kept
abbrev pub known_by : {A : Type 0} → (ℕ → ℕ) → Known A → ByteAccess A → Known A
known_by clock Raced touch = Raced
known_by clock (Since list) touch = cond (is_some (first_hit part_of clock (query_of touch.kind touch.bytes) list)) Raced (Since (touch ∷ list))

-- after a position that is this to the words, by a thread whose clock this is, with this tag and these bytes
abbrev pub known_moved : {A : Type 0} → (ℕ → ℕ) → A → Bytes → Known A → ℕ → Mark → Known A
known_moved clock a bytes before w (Counted t kind word cover) = cond (word == w) (known_by clock before (record { access = tagged t (clock t) a; kind = kind; bytes = bytes })) before
known_moved clock a bytes before w (Reused range) = cond (is_within w range) (Since []) before
known_moved clock a bytes before w (Shown word) = before
known_moved clock a bytes before w Nothing = before

-- listed accesses stand below the point and are counted
accesses_in : (r : Reading) (w start n j : ℕ) → has (accesses_from r w start n) j ≡ true → (j < n) × (counts (r j) w ≡ true)
unfolding accesses_from
accesses_in r w start zero j member = cc
accesses_in r w start (suc n) j member = by (counted_from r w start n) refl member (accesses_in r w start n j)
  where
    by : (b : Bool) → counted_from r w start n ≡ b → has (cond b (n ∷ accesses_from r w start n) (accesses_from r w start n)) j ≡ true
        → (has (accesses_from r w start n) j ≡ true → (j < n) × (counts (r j) w ≡ true)) → (j < suc n) × (counts (r j) w ≡ true)
    by b is member rest =
        ⊎_elim
        (λ here. (omega (arith, here.0), subst (λ (i : ℕ). counts (r i) w ≡ true) here.0 (and_parts (nat_le start n) (counts (r n) w) (is ∙ here.1)).1))
        (λ there. let low = rest there in (omega (arith, low.0), low.1))
        (next-cases b n j (accesses_from r w start n) member)

writes_kind : (b : Bool) → is_writing (cond b writing reading) ≡ b
writes_kind true = refl
writes_kind false = refl

kind_is : (kind : Kind) → cond (is_writing kind) writing reading ≡ kind
kind_is reading = refl
kind_is writing = refl

some_map : {X Y : Type 0} (f : X → Y) (o : Option X) → is_some o ≡ is_some (option_map f o)
some_map f None = refl
some_map f (Some x) = refl

unless_had : {A : Type 0} (tags : ℕ → A) (had : Bool) (o : Option ℕ) → (is_some o && not had) ≡ is_some (cond had None (option_map tags o))
unless_had tags true None = refl
unless_had tags true (Some j) = refl
unless_had tags false None = refl
unless_had tags false (Some j) = refl

module _ {A : Type 0} (acts : Acts) (r : Reading) (agree : Agree acts r) (tags : ℕ → A) (touched : Touched) (w k : ℕ) where
  abbrev order : Order
  order = by_bytes touched (happens_before acts)

  abbrev at : ℕ → ByteAccess A
  at = byte_access_at acts r tags touched

  tag_at : (o : Option ℕ) → option_map (λ one. one.access.tag) (option_map at o) ≡ option_map tags o
  tag_at None = refl
  tag_at (Some j) = refl

  -- a reuse by thread t
  module _ (t : ℕ) (acted : acts k ≡ Some (record { thread = t; sync = Local })) where
    abbrev now : ℕ → ℕ
    now = clocks_at acts k (OfThread t)

    any_write : (kind : Kind) (b : Bool) → ((is_writing kind || true) && (true && b)) ≡ b
    any_write reading b = refl
    any_write writing b = refl

    use_hit : (j : ℕ) → has (accesses r w k) j ≡ true → not (happens_before acts j k) ≡ hits now reuse_query (part_of (at j))
    unfolding accesses
    use_hit j member =
        let found = accesses_in r w (era r w k) k j member in
        apart-known acts r agree tags w j k t found.0 found.1 acted ∙ sym (any_write (kind_of (r j)) (is_unordered now (pair_of (access_at acts r tags j))))

    pub use-found : finds now (known acts r tags touched w k) reuse_query ≡ cond (had_race order r w k) None (option_map tags (last_use (happens_before acts) r w k))
    unfolding known
    use-found = by (had_race order r w k)
      where
        by : (had : Bool) → finds now (cond had Raced (Since (map at (accesses r w k)))) reuse_query ≡ cond had None (option_map tags (last_use (happens_before acts) r w k))
        by true = refl
        by false =
            ap (option_map (λ one. one.access.tag)) (find-mapped (λ j. not (happens_before acts j k)) (λ touch. hits now reuse_query (part_of touch)) at (accesses r w k) use_hit)
            ∙ tag_at (find (λ j. not (happens_before acts j k)) (accesses r w k))
            ∙ ap (option_map tags) (sym (use-listed r w (happens_before acts) k))

    pub use-known : is_in_use_by_bytes touched (happens_before acts) r w k ≡ is_some (finds now (known acts r tags touched w k) reuse_query)
    unfolding is_in_use_by_bytes
    use-known = unless_had tags (had_race order r w k) (last_use (happens_before acts) r w k) ∙ ap is_some (sym use-found)

  module _ (t : ℕ) (kind : Kind) (cover : List ℕ) (is : r k ≡ Counted t kind w cover) where
    abbrev clock : ℕ → ℕ
    clock = clocks_at acts k (OfThread t)

    abbrev query : Query
    query = query_of kind (touched k)

    counted : counts (r k) w ≡ true
    unfolding counts
    counted = rw is (eq-eqb w w refl)

    wrote : writes (r k) ≡ is_writing kind
    unfolding writes
    wrote = rw is refl

    threads : thread_of (r k) ≡ t
    unfolding thread_of
    threads = rw is refl

    named_here : access_at acts r tags k ≡ tagged t (clock t) (tags k)
    unfolding own_count
    named_here = ap (λ u. tagged u (clocks_at acts k (OfThread u) u) (tags k)) threads

    touch_here : at k ≡ record { access = tagged t (clock t) (tags k); kind = kind; bytes = touched k }
    touch_here =
        ap₂ (λ (access : Tagged A) (kind : Kind). record { access = access; kind = kind; bytes = touched k }) named_here
        (ap (λ b. cond b writing reading) wrote ∙ kind_is kind)

    abbrev passes : ℕ → Bool
    passes j = (writes (r j) || writes (r k)) && (meet (touched j) (touched k) && not (happens_before acts j k))

    passes_hit : (j : ℕ) → has (accesses r w k) j ≡ true → passes j ≡ hits clock query (part_of (at j))
    unfolding accesses
    passes_hit j member =
        let found = accesses_in r w (era r w k) k j member in
        ap₂ (λ wrote apart. wrote && (meet (touched j) (touched k) && apart))
        (ap₂ (λ one two. one || two) (sym (writes_kind (writes (r j)))) wrote)
        (apart-known acts r agree tags w j k t found.0 found.1 (agree k w counted ∙ ap (λ u. Some (record { thread = u; sync = Local })) threads))

    race_hit : is_race order r w k ≡ is_some (first_hit part_of clock query (map at (accesses r w k)))
    race_hit =
        race-listed r w order k
        ∙ ap is_some (unordered-listed r w (happens_before acts) k touched counted)
        ∙ some_map at (find passes (accesses r w k))
        ∙ ap is_some (sym (find-mapped passes (λ touch. hits clock query (part_of touch)) at (accesses r w k) passes_hit))

    -- what is found is the last access that it is unordered with, and it is reported if there is one
    pub access-found : finds clock (known acts r tags touched w k) query ≡ cond (had_race order r w k) None (option_map tags (last_unordered order r w k))
    unfolding known
    access-found = by (had_race order r w k)
      where
        by : (had : Bool) → finds clock (cond had Raced (Since (map at (accesses r w k)))) query ≡ cond had None (option_map tags (last_unordered order r w k))
        by true = refl
        by false =
            ap (option_map (λ one. one.access.tag)) (find-mapped passes (λ touch. hits clock query (part_of touch)) at (accesses r w k) passes_hit)
            ∙ tag_at (find passes (accesses r w k))
            ∙ ap (option_map tags) (sym (unordered-listed r w (happens_before acts) k touched counted))

    pub access-reported : is_reported order r w k ≡ is_some (finds clock (known acts r tags touched w k) query)
    access-reported =
        reported-had order r w k (not-reused (r k) w counted)
        ∙ ap (λ b. b && not (had_race order r w k)) (race-listed r w order k)
        ∙ unless_had tags (had_race order r w k) (last_unordered order r w k)
        ∙ ap is_some (sym access-found)

    abbrev touch : ByteAccess A
    touch = record { access = tagged t (clock t) (tags k); kind = kind; bytes = touched k }

    access_known : known acts r tags touched w (suc k) ≡ known_by clock (known acts r tags touched w k) (record { access = tagged t (clock t) (tags k); kind = kind; bytes = touched k })
    unfolding known
    access_known =
        ap₂ (λ b list. cond b Raced (Since list))
        (had-step order r w k (not-reused (r k) w counted) ∙ ap₂ (λ here race. had_race order r w k || (here && race)) counted race_hit)
        (ap (map at) (listed-access r w k counted) ∙ ap (λ touch. touch ∷ map at (accesses r w k)) touch_here)
        ∙ by (had_race order r w k)
      where
        by : (had : Bool) → cond (had || is_some (first_hit part_of clock query (map at (accesses r w k)))) Raced (Since (touch ∷ map at (accesses r w k)))
            ≡ known_by clock (cond had Raced (Since (map at (accesses r w k)))) touch
        by true = refl
        by false = refl

  other_known : reuses (r k) w ≡ false → counts (r k) w ≡ false → known acts r tags touched w (suc k) ≡ known acts r tags touched w k
  unfolding known
  other_known stays quiet =
      ap₂ (λ b list. cond b Raced (Since list))
      (had-step order r w k stays ∙ ap (λ here. had_race order r w k || (here && is_race order r w k)) quiet ∙ or_none (had_race order r w k))
      (ap (map at) (listed-other r w k quiet stays))

  reuse_known : reuses (r k) w ≡ true → known acts r tags touched w (suc k) ≡ Since []
  unfolding known
  reuse_known reused = ap₂ (λ b list. cond b Raced (Since list)) (had_reused order r w k reused) (ap (map at) (listed-reuse r w k reused))

  moved_access : (t word : ℕ) (kind : Kind) (cover : List ℕ) (b : Bool) → r k ≡ Counted t kind word cover → (word == w) ≡ b →
      known acts r tags touched w (suc k) ≡ cond b (known_by (clocks_at acts k (OfThread t)) (known acts r tags touched w k) (record { access = tagged t (clocks_at acts k (OfThread t) t) (tags k); kind = kind; bytes = touched k })) (known acts r tags touched w k)
  unfolding reuses counts
  moved_access t word kind cover false is other = other_known (rw is refl) (rw is other)
  moved_access t word kind cover true is same = access_known t kind cover (is ∙ ap (λ v. Counted t kind v cover) (eqb-true word w same))

  moved_reuse : (range : PageRange) (b : Bool) → r k ≡ Reused range → is_within w range ≡ b → known acts r tags touched w (suc k) ≡ cond b (Since []) (known acts r tags touched w k)
  unfolding reuses counts
  moved_reuse range false is outside = other_known (rw is outside) (rw is refl)
  moved_reuse range true is within = reuse_known (rw is within)

  moved_mark : (mark : Mark) → r k ≡ mark → known acts r tags touched w (suc k) ≡ known_moved (clocks_at acts k (OfThread (thread_of mark))) (tags k) (touched k) (known acts r tags touched w k) w mark
  unfolding reuses counts thread_of
  moved_mark (Counted t kind word cover) is = moved_access t word kind cover (word == w) is refl
  moved_mark (Reused range) is = moved_reuse range (is_within w range) is refl
  moved_mark (Shown word) is = other_known (rw is refl) (rw is refl)
  moved_mark Nothing is = other_known (rw is refl) (rw is refl)

-- a list of steps
module _ {A : Type 0} (steps : List Step) (k : ℕ) (s : Step) (is : slice_get steps k ≡ Some s) where
  same_clock : (clock other : ℕ → ℕ) (a : A) (bytes : Bytes) (before : Known A) (w : ℕ) (h : Holdings) (e : Event) → (thread_of (marked h s.thread e) ≡ s.thread → clock ≡ other) →
      known_moved clock a bytes before w (marked h s.thread e) ≡ known_moved other a bytes before w (marked h s.thread e)
  unfolding thread_of
  same_clock clock other a bytes before w h (Access kind word site) same = by (nat_lt 0 h.depth) same
    where
      by : (b : Bool) → (thread_of (cond b Nothing (Counted s.thread kind word (locks_for h kind))) ≡ s.thread → clock ≡ other) →
          known_moved clock a bytes before w (cond b Nothing (Counted s.thread kind word (locks_for h kind))) ≡ known_moved other a bytes before w (cond b Nothing (Counted s.thread kind word (locks_for h kind)))
      by true same = refl
      by false same = ap (λ (c : ℕ → ℕ). known_moved c a bytes before w (Counted s.thread kind word (locks_for h kind))) (same refl)
  same_clock clock other a bytes before w h (Acquire l m) same = refl
  same_clock clock other a bytes before w h (Release l m) same = refl
  same_clock clock other a bytes before w h (Reuse range) same = refl
  same_clock clock other a bytes before w h IgnoreOn same = refl
  same_clock clock other a bytes before w h IgnoreOff same = refl
  same_clock clock other a bytes before w h (Show word) same = refl
  same_clock clock other a bytes before w h (Level n) same = refl
  same_clock clock other a bytes before w h (Sync sync) same = refl

  pub known-step : (tags : ℕ → A) (touched : Touched) (w : ℕ) → known_at tags touched steps w (suc k) ≡
      known_moved (clocks_at (acts_of steps) k (OfThread s.thread)) (tags k) (touched k) (known_at tags touched steps w k) w (marked (holdings_at steps s.thread k) s.thread s.event)
  known-step tags touched w =
      moved_mark (acts_of steps) (reading_of steps) (agree-steps steps) tags touched w k (reading_of steps k) refl
      ∙ ap (λ mark. known_moved (clocks_at (acts_of steps) k (OfThread (thread_of mark))) (tags k) (touched k) (known_at tags touched steps w k) w mark) (mark-step steps k s is)
      ∙ same_clock (clocks_at (acts_of steps) k (OfThread (thread_of (marked (holdings_at steps s.thread k) s.thread s.event)))) (clocks_at (acts_of steps) k (OfThread s.thread)) (tags k) (touched k) (known_at tags touched steps w k) w (holdings_at steps s.thread k) s.event
      (λ same. ap (λ t. clocks_at (acts_of steps) k (OfThread t)) same)

pub known-none : {A : Type 0} (acts : Acts) (r : Reading) (tags : ℕ → A) (touched : Touched) (w : ℕ) → known acts r tags touched w zero ≡ Since []
unfolding known had_race some_below accesses accesses_from
known-none acts r tags touched w = refl

-- later steps change nothing at an earlier point
module _ {A : Type 0} (steps rest : List Step) (tags more : ℕ → A) (touched others : Touched) where
  pub known-front : (w n : ℕ) → n ≤ length steps → ((k : ℕ) → k < n → more k ≡ tags k) → ((k : ℕ) → k < n → others k ≡ touched k)
      → known_at more others (steps ++ rest) w n ≡ known_at tags touched steps w n
  known-front w zero below same alike = known-none (acts_of (steps ++ rest)) (reading_of (steps ++ rest)) more others w ∙ sym (known-none (acts_of steps) (reading_of steps) tags touched w)
  known-front w (suc n) below same alike =
      let at = some-at steps n (omega arith) in
      known-step (steps ++ rest) n at.0 (get_front steps rest n (omega arith) ∙ at.1) more others w
      ∙ rw (
        held-front steps rest at.0.thread n (omega arith),
        clocks-front steps rest n (omega arith),
        same n (omega arith),
        alike n (omega arith),
        known-front w n (omega arith) (λ k low. same k (omega arith)) (λ k low. alike k (omega arith)),
      )
      (sym (known-step steps n at.0 at.1 tags touched w))

-- what serves as what is wanted finds the same
pub serves-finds : {A : Type 0} (steps : List Step) (t : ℕ) (stored wanted : Known A) (query : Query) → ServesAs steps stored wanted
    → finds (clocks_at (acts_of steps) (length steps) (OfThread t)) stored query ≡ finds (clocks_at (acts_of steps) (length steps) (OfThread t)) wanted query
serves-finds steps t Raced wanted query is = ap (λ k. finds (clocks_at (acts_of steps) (length steps) (OfThread t)) k query) (sym is)
serves-finds steps t (Since stored) wanted query (all, is, like) =
    ap (option_map (λ one. one.access.tag)) (parts-here part_of steps stored all t query like)
    ∙ ap (λ k. finds (clocks_at (acts_of steps) (length steps) (OfThread t)) k query) (sym is)

module _ (steps : List Step) (s : Step) where
  abbrev grown : List Step
  grown = steps ++ s ∷ []

  abbrev own : ℕ → ℕ
  own = clocks_at (acts_of steps) (length steps) (OfThread s.thread)

  serves_kept : {A : Type 0} (stored wanted : Known A) → ServesAs steps stored wanted → ServesAs grown stored wanted
  serves_kept Raced wanted is = is
  serves_kept (Since stored) wanted (all, is, like) = (all, is, parts-grow part_of steps s stored all like)

  serves_access : {A : Type 0} (stored wanted after : Known A) (touch : ByteAccess A) → pair_of touch.access ≡ (s.thread, own s.thread) → ServesAs steps stored wanted → IsKnownBy own stored touch after → ServesAs grown after (known_by own wanted touch)
  serves_access Raced wanted after touch now is told = rw (told, is) refl
  serves_access {A = A} (Since stored) wanted after touch now (all, is, like) known =
      rw is (by (is_some (first_hit part_of own (query_of touch.kind touch.bytes) stored)) refl (ap is_some (sym (parts-here part_of steps stored all s.thread (query_of touch.kind touch.bytes) like))) known)
    where
      by : (b : Bool) → is_some (first_hit part_of own (query_of touch.kind touch.bytes) stored) ≡ b
          → is_some (first_hit part_of own (query_of touch.kind touch.bytes) all) ≡ is_some (first_hit part_of own (query_of touch.kind touch.bytes) stored)
          → MatchBool b (after ≡ Raced) ((noted : List (ByteAccess A)) × (after ≡ Since noted) × IsPartNoted part_of own stored touch noted)
          → ServesAs grown after (cond (is_some (first_hit part_of own (query_of touch.kind touch.bytes) all)) Raced (Since (touch ∷ all)))
      by true here there told = rw (told, there ∙ here) refl
      by false here there (noted, same, kept) = rw (same, there ∙ here) (touch ∷ all, refl, parts-noted part_of steps s s.thread touch now stored all noted like kept)

  module _ {A : Type 0} (a : A) (bytes : Bytes) (w : ℕ) (stored wanted after : Known A) (serves : ServesAs steps stored wanted) where
    by_word : (kind : Kind) (b : Bool) → MatchBool b (IsKnownBy own stored (record { access = tagged s.thread (own s.thread) a; kind = kind; bytes = bytes }) after) (after ≡ stored)
        → ServesAs grown after (cond b (known_by own wanted (record { access = tagged s.thread (own s.thread) a; kind = kind; bytes = bytes })) wanted)
    by_word kind true is = serves_access stored wanted after (record { access = tagged s.thread (own s.thread) a; kind = kind; bytes = bytes }) refl serves is
    by_word kind false is = rw is (serves_kept stored wanted serves)

    by_range : (b : Bool) → after ≡ cond b (Since []) stored → ServesAs grown after (cond b (Since []) wanted)
    by_range true is = rw is ([], refl, parts-itself part_of grown [])
    by_range false is = rw is (serves_kept stored wanted serves)

    pub serves-on : (mark : Mark) → ((t : ℕ) (kind : Kind) (word : ℕ) (cover : List ℕ) → mark ≡ Counted t kind word cover → t ≡ s.thread)
        → IsKnownMoved own a bytes stored w mark after → ServesAs grown after (known_moved own a bytes wanted w mark)
    serves-on (Counted t kind word cover) thread is = by t (thread t kind word cover refl) is
      where
        by : (t : ℕ) → t ≡ s.thread → MatchBool (word == w) (IsKnownBy own stored (record { access = tagged t (own t) a; kind = kind; bytes = bytes }) after) (after ≡ stored)
            → ServesAs grown after (cond (word == w) (known_by own wanted (record { access = tagged t (own t) a; kind = kind; bytes = bytes })) wanted)
        by t same is = rw same (by_word kind (word == w) (rw same at is))
    serves-on (Reused range) thread is = by_range (is_within w range) is
    serves-on (Shown word) thread is = rw is (serves_kept stored wanted serves)
    serves-on Nothing thread is = rw is (serves_kept stored wanted serves)

-- no step yet
pub follows-none : {A : Type 0} (words : AllWords A) (tags : ℕ → A) (touched : Touched) → ((w : ℕ) → known_among words w ≡ Since []) → FollowsBytes tags touched words []
follows-none words tags touched none w =
    subst (λ (k : Known _). ServesAs [] k (known_at tags touched [] w 0)) (sym (none w))
    ([], known-none (acts_of []) (reading_of []) tags touched w, parts-itself part_of [] [])

-- one step more
module _ {A : Type 0} (past : List Step) (s : Step) (tags : ℕ → A) (touched : Touched) (old new : AllWords A) (tag : A) (bytes : Bytes) where
  pub follows-bytes : FollowsBytes tags touched old past → tags (length past) ≡ tag → touched (length past) ≡ bytes
      → ((w : ℕ) → IsKnownMoved (clocks_at (acts_of past) (length past) (OfThread s.thread)) tag bytes (known_among old w) w (marked (holdings_at past s.thread (length past)) s.thread s.event) (known_among new w))
      → FollowsBytes tags touched new (past ++ s ∷ [])
  follows-bytes follows last own moved w =
      subst (λ (wanted : Known A). ServesAs (past ++ s ∷ []) (known_among new w) wanted) (sym step)
      (serves-on past s tag bytes w (known_among old w) (known_at tags touched past w (length past)) (known_among new w) (follows w)
      (marked (holdings_at past s.thread (length past)) s.thread s.event) (own-thread (holdings_at past s.thread (length past)) s.thread s.event) (moved w))
    where
      step : known_at tags touched (past ++ s ∷ []) w (length (past ++ s ∷ []))
          ≡ known_moved (clocks_at (acts_of past) (length past) (OfThread s.thread)) tag bytes (known_at tags touched past w (length past)) w (marked (holdings_at past s.thread (length past)) s.thread s.event)
      step =
          ap (λ n. known_at tags touched (past ++ s ∷ []) w n) (length_push past s)
          ∙ (known-step (past ++ s ∷ []) (length past) s (get_last past s) tags touched w
          ∙ rw (
            held-front past (s ∷ []) s.thread (length past) (omega arith),
            clocks-front past (s ∷ []) (length past) (omega arith),
            last,
            own,
            known-front past (s ∷ []) tags tags touched touched w (length past) (omega arith) (λ k low. refl) (λ k low. refl),
          ) refl)

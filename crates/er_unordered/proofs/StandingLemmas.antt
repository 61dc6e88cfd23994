-- What one event makes of a machine, and of the list that it stands for.
use Rattle.std.proofs.Common.{◌≡◌, ◌<◌, ◌≤◌, ◌&&◌, ℕ, zero, suc, nat_le, Bool, true, false, nat_eq, nat_lt, ◌==◌, cond, List, [], ◌∷◌, ◌++◌, length, is_some, Option, Some, None, IfSome, Ok, refl, ap, ap₂, sym, subst, ◌∙◌, arith, Result, Err, IfOk, OnOk, IsOk, IsErrOf, ◌↔◌, ⊎_elim}
use Rattle.std.proofs.Math.Path.{fun_ext}
use Rattle.std.specs.Bool.{MatchBool}
use Rattle.std.specs.Option.{option_map}
use Rattle.std.proofs.lemmas.Bool.{eqb-true, and_parts, both_ways, leb-true}
use Rattle.er_event.specs.declared.addresses.PageRange.{PageRange}
use Rattle.er_event.specs.declared.refusals.Refusal.{Refusal}
use Rattle.er_event.specs.declared.steps.Event.{Event}
use Rattle.er_event.specs.declared.steps.Event.TheVariants.{Acquire, Release, Access, Reuse, IgnoreOn, IgnoreOff, Show, Level, Sync}
use Rattle.er_event.specs.declared.steps.Kind.{Kind}
use Rattle.er_event.proofs.Lists.{length_push, get_last}
use Rattle.er_event.specs.declared.steps.Reply.{Reply}
use Rattle.er_event.specs.declared.steps.Reply.TheVariants.{Done, Quiet, Race, Ignored}
use Rattle.er_event.specs.declared.steps.Step.{Step}
use Rattle.er_model.specs.Search.{least_below}
use Rattle.er_model.specs.Words.{Nothing, is_within}
use Rattle.er_model.proofs.Search.{below_or_at, least_below-Some}
use Rattle.er_model.specs.Following.{marked}
use Rattle.er_model.specs.Holdings.{Holdings, refused_by, changed_by, changed_unless, after_step, holdings_at}
use Rattle.er_model.specs.Answers.{answer_unless}
use Rattle.er_model.proofs.Prefixes.{holdings-grow, holdings-empty}
use Rattle.er_explain.specs.Racing.{is_race}
use Rattle.er_order.specs.Order.{Act, Effect, Local, sync_of, act_unless, acts_of}
use Rattle.er_order.specs.Clocks.{Clocks, OfThread, clocks_after, clocks_at}
use Rattle.er_order.specs.Races.{reuse_reply}
use Rattle.er_order.specs.ByBytes.{Touched, answer_by_bytes, unordered_by_bytes}
use Rattle.er_order.specs.declared.bytes.Bytes.{Bytes}
use Rattle.er_order.proofs.Searches.{least-there}
use Rattle.er_order.specs.Following.{act_by}
use Rattle.er_order.proofs.ClockSteps.{local}
use Rattle.er_order.proofs.StepLemmas.{act-step, clocks-grow, held-front}
use Rattle.er_held.specs.Held.{nothing_held}
use Rattle.er_clock.specs.Clock.{Counts}
use Rattle.er_clock.specs.Counts.{count_by}
use Rattle.er_clock.specs.declared.clock.NoTick.{NoTick}
use Rattle.er_clock.specs.declared.clock.NoTick.TheVariants.{Beyond}
use Rattle.er_clock.specs.declared.clock.Limit.{Limit}
use Rattle.er_clock.specs.declared.clock.Limit.TheVariants.{Threads}
use Rattle.er_clock.specs.Crowding.{IsBeyond, crowds, crowds_by}
use Rattle.er_clock.specs.Standing.{ClockMaps, counts, Moves, StandsForClocksOf}
use Rattle.er_epochs.specs.Epochs.{tagged}
use Rattle.er_epochs.specs.Known.{Known, IsKnownBy, finds, query_of, reuse_query}
use Rattle.er_epochs.specs.Standing.{FollowsBytes, IsKnownMoved, ServesAs, known_at}
use Rattle.er_epochs.specs.Words.{AllWords, known_among}
use Rattle.er_epochs.specs.Words.{IsLowest}
use Rattle.er_epochs.proofs.KnownAnswers.{access-answered, access-named, reuse-answered, reuse-named, other-answered}
use Rattle.er_epochs.proofs.KnownSteps.{follows-bytes, known-front}
use Rattle.er_unordered.specs.declared.machine.OrderAnswer.{OrderAnswer}
use Rattle.er_unordered.specs.Standing.{Ordered, holding, clock_of, known_in, Stands, Changes, IsBeyondBy, IsBeyondAfter, is_crowding, crowds_after, answered_by, holds_alone, names_none, reply_by, rival_by, use_found, word_used}

-- an accepted event
module _ {A : Type 0} (before after : Ordered A) (bytes : Bytes) (tag : A) (t : ℕ) (e : Event) (accepted : refused_by (holding before t) e ≡ None) where
  held_changed : (u : ℕ) (b : Bool) → nat_eq t u ≡ b →
      cond b (changed_by (holding before t) e) (holding before u) ≡ cond b (changed_unless (refused_by (holding before u) e) (holding before u) e) (holding before u)
  held_changed u true same =
      ap (λ o. changed_unless o (holding before t) e) (sym accepted)
      ∙ ap (λ v. changed_unless (refused_by (holding before v) e) (holding before v) e) (eqb-true t u same)
  held_changed u false same = refl

  pub changes : ((u : ℕ) → holding after u ≡ cond (nat_eq t u) (changed_by (holding before t) e) (holding before u)) →
      Moves before.clocks (Some (record { thread = t; sync = sync_of e })) after.clocks →
      crowds_by t (sync_of e) ≡ false →
      ((w : ℕ) → IsKnownMoved (clock_of before t) tag bytes (known_in before w) w (marked (holding before t) t e) (known_in after w)) →
      Changes before (record { thread = t; event = e }) bytes tag after
  changes held moves room words =
      record {
        held = λ u. held u ∙ held_changed u (nat_eq t u) refl;
        clocks = λ k u. moves k u ∙ ap (λ o. clocks_after (counts before.clocks) (act_unless o (record { thread = t; event = e })) k u) (sym accepted);
        room = ap (λ o. crowds (act_unless o (record { thread = t; event = e }))) accepted ∙ room;
        words = words;
      }

-- what holds nothing else leaves the holdings
pub held_same : {A : Type 0} (before : Ordered A) (t u : ℕ) → holding before u ≡ cond (nat_eq t u) (holding before t) (holding before u)
held_same before t u = by (nat_eq t u) refl
  where
    by : (b : Bool) → nat_eq t u ≡ b → holding before u ≡ cond b (holding before t) (holding before u)
    by true same = ap (holding before) (sym (eqb-true t u same))
    by false same = refl

-- an event that orders nothing leaves the clocks
pub clocks_same : (maps : ClockMaps) (t : ℕ) (s : Effect) → s ≡ Local → Moves maps (Some (record { thread = t; sync = s })) maps
clocks_same maps t s is k u = sym (local (counts maps) t u k) ∙ ap (λ sync. clocks_after (counts maps) (Some (record { thread = t; sync = sync })) k u) (sym is)

-- brackets and levels
pub holds-local : (e : Event) → holds_alone e ≡ true → sync_of e ≡ Local
holds-local IgnoreOn is = refl
holds-local IgnoreOff is = refl
holds-local (Level n) is = refl
holds-local (Acquire l m) is = cc
holds-local (Release l m) is = cc
holds-local (Access kind w site) is = cc
holds-local (Reuse range) is = cc
holds-local (Show w) is = cc
holds-local (Sync sync) is = cc

pub holds-nothing : (h : Holdings) (t : ℕ) (e : Event) → holds_alone e ≡ true → marked h t e ≡ Nothing
holds-nothing h t IgnoreOn is = refl
holds-nothing h t IgnoreOff is = refl
holds-nothing h t (Level n) is = refl
holds-nothing h t (Acquire l m) is = cc
holds-nothing h t (Release l m) is = cc
holds-nothing h t (Access kind w site) is = cc
holds-nothing h t (Reuse range) is = cc
holds-nothing h t (Show w) is = cc
holds-nothing h t (Sync sync) is = cc

-- an access that isn't counted
pub ignored : {A : Type 0} (before : Ordered A) (bytes : Bytes) (tag : A) (t w : ℕ) (kind : Kind) → nat_lt 0 (holding before t).depth ≡ true →
    Changes before (record { thread = t; event = Access kind w 0 }) bytes tag before
ignored before bytes tag t w kind ignores =
    changes before before bytes tag t (Access kind w 0) refl (held_same before t) (clocks_same before.clocks t Local refl) refl (λ v. rw ignores refl)

-- one that is
pub accessed : {A : Type 0} (before : Ordered A) (words : AllWords A) (bytes : Bytes) (tag : A) (t w : ℕ) (kind : Kind) (clock : ℕ × Counts) → nat_lt 0 (holding before t).depth ≡ false →
    clock.0 ≡ t → ((u : ℕ) → count_by clock u ≡ clock_of before t u) →
    IsKnownBy (count_by clock) (known_in before w) (record { access = tagged clock.0 (count_by clock clock.0) tag; kind = kind; bytes = bytes }) (known_among words w) → ((v : ℕ) → (w == v) ≡ false → known_among words v ≡ known_in before v) →
    Changes before (record { thread = t; event = Access kind w 0 }) bytes tag (record { holders = before.holders; clocks = before.clocks; words = words })
accessed {A} before words bytes tag t w kind clock heeds thread same known others =
    changes before (record { holders = before.holders; clocks = before.clocks; words = words }) bytes tag t (Access kind w 0) refl (held_same before t) (clocks_same before.clocks t Local refl) refl
    (λ v. rw heeds (by v (w == v) refl))
  where
    all : count_by clock ≡ clock_of before t
    all = fun_ext same

    known_here : IsKnownBy (clock_of before t) (known_in before w) (record { access = tagged t (clock_of before t t) tag; kind = kind; bytes = bytes }) (known_among words w)
    known_here =
        subst (λ (counts : ℕ → ℕ). IsKnownBy counts (known_in before w) (record { access = tagged t (counts t) tag; kind = kind; bytes = bytes }) (known_among words w)) all
        (subst (λ (u : ℕ). IsKnownBy (count_by clock) (known_in before w) (record { access = tagged u (count_by clock u) tag; kind = kind; bytes = bytes }) (known_among words w)) thread known)

    by : (v : ℕ) (b : Bool) → (w == v) ≡ b
        → MatchBool b (IsKnownBy (clock_of before t) (known_in before v) (record { access = tagged t (clock_of before t t) tag; kind = kind; bytes = bytes }) (known_among words v)) (known_among words v ≡ known_in before v)
    by v true here =
        subst (λ (v : ℕ). IsKnownBy (clock_of before t) (known_in before v) (record { access = tagged t (clock_of before t t) tag; kind = kind; bytes = bytes }) (known_among words v)) (eqb-true w v here) known_here
    by v false there = others v there

-- what is neither an access nor a reuse is no race
never-race : {A : Type 0} (before : Ordered A) (step : Step) (bytes : Bytes) → names_none step.event ≡ true → (answered_by before step bytes).reply ≡ Ok Race → ⊥
never-race before step bytes none race = by step.event none race
  where
    done : (o : Option Refusal) → answer_unless o Done ≡ Ok Race → ⊥
    done None same = cc
    done (Some why) same = cc

    by : (e : Event) → names_none e ≡ true → answer_unless (refused_by (holding before step.thread) e) (reply_by (holding before step.thread) (clock_of before step.thread) (known_in before) bytes e) ≡ Ok Race → ⊥
    by (Access kind w site) none race = cc
    by (Acquire l m) none race = done (refused_by (holding before step.thread) (Acquire l m)) race
    by (Release l m) none race = done (refused_by (holding before step.thread) (Release l m)) race
    by (Reuse range) none race = cc
    by IgnoreOn none race = done (refused_by (holding before step.thread) IgnoreOn) race
    by IgnoreOff none race = done (refused_by (holding before step.thread) IgnoreOff) race
    by (Show w) none race = done (refused_by (holding before step.thread) (Show w)) race
    by (Level n) none race = done (refused_by (holding before step.thread) (Level n)) race
    by (Sync sync) none race = done (refused_by (holding before step.thread) (Sync sync)) race

-- a race names an access, and nothing else does
pub names-race : {A : Type 0} (before : Ordered A) (step : Step) (bytes : Bytes) → is_some (answered_by before step bytes).rival ≡ is_race (answered_by before step bytes).reply
names-race {A} before step bytes = by step.event
  where
    done : (o : Option Refusal) → false ≡ is_race (answer_unless o Done)
    done None = refl
    done (Some why) = refl

    reported : (b : Bool) → b ≡ is_race (Ok (cond b Race Quiet))
    reported true = refl
    reported false = refl

    accessed_by : (b : Bool) (o : Option A) → is_some (cond b None o) ≡ is_race (Ok (cond b Ignored (cond (is_some o) Race Quiet)))
    accessed_by true o = refl
    accessed_by false o = reported (is_some o)

    used_by : (range : PageRange) (b : Bool) (o : Option ℕ) → word_used (clock_of before step.thread) (known_in before) range ≡ o
        → is_some (cond b None (use_found (clock_of before step.thread) (known_in before) o)) ≡ is_race (Ok (cond b Done (reuse_reply o)))
    used_by range true o is = refl
    used_by range false None is = refl
    used_by range false (Some w) is =
        (and_parts (is_within w range) (is_some (finds (clock_of before step.thread) (known_in before w) reuse_query))
        (least_below-Some (suc range.hi) (λ v. is_within v range && is_some (finds (clock_of before step.thread) (known_in before v) reuse_query)) w is).1).1

    by : (e : Event) → is_some (rival_by (holding before step.thread) (clock_of before step.thread) (known_in before) bytes e)
        ≡ is_race (answer_unless (refused_by (holding before step.thread) e) (reply_by (holding before step.thread) (clock_of before step.thread) (known_in before) bytes e))
    by (Access kind w site) = accessed_by (nat_lt 0 (holding before step.thread).depth) (finds (clock_of before step.thread) (known_in before w) (query_of kind bytes))
    by (Acquire l m) = done (refused_by (holding before step.thread) (Acquire l m))
    by (Release l m) = done (refused_by (holding before step.thread) (Release l m))
    by (Reuse range) = used_by range (nat_lt 0 (holding before step.thread).depth) (word_used (clock_of before step.thread) (known_in before) range) refl
    by IgnoreOn = done (refused_by (holding before step.thread) IgnoreOn)
    by IgnoreOff = done (refused_by (holding before step.thread) IgnoreOff)
    by (Show w) = done (refused_by (holding before step.thread) (Show w))
    by (Level n) = done (refused_by (holding before step.thread) (Level n))
    by (Sync sync) = done (refused_by (holding before step.thread) (Sync sync))

-- the answer to an access that is counted
pub answered-access : {A : Type 0} (before : Ordered A) (t w : ℕ) (kind : Kind) (bytes : Bytes) (clock : ℕ → ℕ) (found : Option A) → nat_lt 0 (holding before t).depth ≡ false → clock ≡ clock_of before t
    → found ≡ finds clock (known_in before w) (query_of kind bytes)
    → (answer : OrderAnswer A) → answer ≡ record { reply = Ok (cond (is_some found) Race Quiet); rival = found } → answer ≡ answered_by before (record { thread = t; event = Access kind w 0 }) bytes
answered-access {A} before t w kind bytes clock found heeds same is answer so =
    let here : found ≡ finds (clock_of before t) (known_in before w) (query_of kind bytes) = is ∙ ap (λ (c : ℕ → ℕ). finds c (known_in before w) (query_of kind bytes)) same in
    rw heeds (so ∙ ap (λ (o : Option A). record { reply = Ok (cond (is_some o) Race Quiet); rival = o }) here)

-- and what is found of a reuse's word
pub use-named : {A : Type 0} (clock : ℕ → ℕ) (known : ℕ → Known A) (o : Option (ℕ × A)) → IfSome o (λ found. Some found.1 ≡ finds clock (known found.0) reuse_query)
    → option_map (λ (found : ℕ × A). found.1) o ≡ use_found clock known (option_map (λ (found : ℕ × A). found.0) o)
use-named clock known None named = refl
use-named clock known (Some found) named = named

-- a machine that stands for a list stands for the longer one
module _ {A : Type 0} (tags : ℕ → A) (touched : Touched) (before : Ordered A) (past : List Step) (step : Step) (stands : Stands tags touched before past) where
  clocks_are : counts before.clocks ≡ clocks_at (acts_of past) (length past)
  clocks_are = fun_ext (λ k. fun_ext (λ u. stands.clocks k u))

  abbrev own : ℕ → ℕ
  own = clocks_at (acts_of past) (length past) (OfThread step.thread)

  clock_is : clock_of before step.thread ≡ own
  clock_is = ap (λ (clocks : Clocks). clocks (OfThread step.thread)) clocks_are

  held_is : holding before step.thread ≡ holdings_at past step.thread (length past)
  held_is = stands.held step.thread

  pub stands-on : (bytes : Bytes) (tag : A) (after : Ordered A) → tags (length past) ≡ tag → touched (length past) ≡ bytes → Changes before step bytes tag after → Stands tags touched after (past ++ step ∷ [])
  stands-on bytes tag after last own_bytes changed =
      record {
        held = λ t. changed.held t ∙ ap (λ h. after_step h t step) (stands.held t) ∙ sym (holdings-grow past step t);
        clocks = λ k u. changed.clocks k u
            ∙ ap₂ (λ clocks h. clocks_after clocks (act_by h step) k u) clocks_are held_is
            ∙ sym (clocks-grow past step k u) ∙ ap (λ n. clocks_at (acts_of (past ++ step ∷ [])) n k u) (sym (length_push past step));
        words = follows-bytes past step tags touched before.words after.words tag bytes stands.words last own_bytes
            (λ w. subst (λ (clock : ℕ → ℕ). IsKnownMoved clock tag bytes (known_in before w) w (marked (holdings_at past step.thread (length past)) step.thread step.event) (known_in after w)) clock_is
            (subst (λ (h : Holdings). IsKnownMoved (clock_of before step.thread) tag bytes (known_in before w) w (marked h step.thread step.event) (known_in after w)) held_is (changed.words w)));
      }

  module _ (bytes : Bytes) (here : touched (length past) ≡ bytes) where
    abbrev answer : Event → Result Reply Refusal
    answer e = answer_unless (refused_by (holding before step.thread) e) (reply_by (holding before step.thread) (clock_of before step.thread) (known_in before) bytes e)

    -- what is found of an access
    abbrev hit : ℕ → Kind → Option A
    hit w kind = finds own (known_in before w) (query_of kind (touched (length past)))

    hit_is : (w : ℕ) (kind : Kind) → finds (clock_of before step.thread) (known_in before w) (query_of kind bytes) ≡ hit w kind
    hit_is w kind = ap₂ (λ (clock : ℕ → ℕ) b. finds clock (known_in before w) (query_of kind b)) clock_is (sym here)

    -- and the lowest word in use
    abbrev lowest : PageRange → Option ℕ
    lowest range = least_below (suc range.hi) (λ w. is_within w range && is_some (finds own (known_in before w) reuse_query))

    used_is : (range : PageRange) → word_used (clock_of before step.thread) (known_in before) range ≡ lowest range
    used_is range = ap (λ (clock : ℕ → ℕ). word_used clock (known_in before) range) clock_is

    access-answer : (w site : ℕ) (kind : Kind) → step.event ≡ Access kind w site → (answered_by before step bytes).reply ≡ answer_by_bytes touched (past ++ step ∷ []) (length past)
    access-answer w site kind event =
        ap answer event
        ∙ ap₂ (λ (h : Holdings) o. answer_unless (refused_by h (Access kind w site)) (cond (nat_lt 0 h.depth) Ignored (cond (is_some o) Race Quiet))) held_is (hit_is w kind)
        ∙ ap (λ (e : Event). answer_unless (refused_by (holdings_at past step.thread (length past)) e) (cond (nat_lt 0 (holdings_at past step.thread (length past)).depth) Ignored (cond (is_some (hit w kind)) Race Quiet))) (sym event)
        ∙ sym (access-answered past step tags touched before.words stands.words w site kind event)

    reuse-answer : (range : PageRange) → step.event ≡ Reuse range → (answered_by before step bytes).reply ≡ answer_by_bytes touched (past ++ step ∷ []) (length past)
    reuse-answer range event =
        ap answer event
        ∙ ap₂ (λ (h : Holdings) o. answer_unless (refused_by h (Reuse range)) (cond (nat_lt 0 h.depth) Done (reuse_reply o))) held_is (used_is range)
        ∙ ap (λ (e : Event). answer_unless (refused_by (holdings_at past step.thread (length past)) e) (cond (nat_lt 0 (holdings_at past step.thread (length past)).depth) Done (reuse_reply (lowest range)))) (sym event)
        ∙ sym (reuse-answered past step tags touched before.words stands.words range event)

    -- what isn't an access or a reuse is done, unless it is refused
    other-answer : (e : Event) → step.event ≡ e → names_none e ≡ true → (answered_by before step bytes).reply ≡ answer_by_bytes touched (past ++ step ∷ []) (length past)
    other-answer e event none =
        ap₂ (λ h r. answer_unless (refused_by h step.event) r) (stands.held step.thread ∙ sym (held-front past (step ∷ []) step.thread (length past) (omega arith))) (reply_done step.event (ap names_none event ∙ none))
        ∙ sym (other-answered touched (past ++ step ∷ []) (length past) step (get_last past step)
        (λ w site kind same. let clash = sym (ap names_none (sym event ∙ same)) ∙ none in cc) (λ range same. let clash = sym (ap names_none (sym event ∙ same)) ∙ none in cc))
      where
        reply_done : (e : Event) → names_none e ≡ true → reply_by (holding before step.thread) (clock_of before step.thread) (known_in before) bytes e ≡ Done
        reply_done (Access kind w site) none = cc
        reply_done (Acquire l m) none = refl
        reply_done (Release l m) none = refl
        reply_done (Reuse range) none = cc
        reply_done IgnoreOn none = refl
        reply_done IgnoreOff none = refl
        reply_done (Show w) none = refl
        reply_done (Level n) none = refl
        reply_done (Sync sync) none = refl

    answer-by : (e : Event) → step.event ≡ e → (answered_by before step bytes).reply ≡ answer_by_bytes touched (past ++ step ∷ []) (length past)
    answer-by (Access kind w site) is = access-answer w site kind is
    answer-by (Acquire l m) is = other-answer (Acquire l m) is refl
    answer-by (Release l m) is = other-answer (Release l m) is refl
    answer-by (Reuse range) is = reuse-answer range is
    answer-by IgnoreOn is = other-answer IgnoreOn is refl
    answer-by IgnoreOff is = other-answer IgnoreOff is refl
    answer-by (Level n) is = other-answer (Level n) is refl
    answer-by (Show w) is = other-answer (Show w) is refl
    answer-by (Sync sync) is = other-answer (Sync sync) is refl

    pub answer-stands : (answered_by before step bytes).reply ≡ answer_by_bytes touched (past ++ step ∷ []) (length past)
    answer-stands = answer-by step.event refl

    -- a race names the access that it is unordered with
    abbrev rival_at : Event → Option A
    rival_at e = rival_by (holding before step.thread) (clock_of before step.thread) (known_in before) bytes e

    rival-access : (w site : ℕ) (kind : Kind) → step.event ≡ Access kind w site → (answered_by before step bytes).reply ≡ Ok Race
        → (answered_by before step bytes).rival ≡ option_map tags (unordered_by_bytes touched (past ++ step ∷ []) (length past))
    rival-access w site kind event answered =
        ap rival_at event ∙ by (nat_lt 0 (holding before step.thread).depth) refl (finds (clock_of before step.thread) (known_in before w) (query_of kind bytes)) refl (sym (ap answer event) ∙ answered)
      where
        by : (b : Bool) → nat_lt 0 (holding before step.thread).depth ≡ b → (o : Option A) → finds (clock_of before step.thread) (known_in before w) (query_of kind bytes) ≡ o
            → answer_unless (refused_by (holding before step.thread) (Access kind w site)) (cond b Ignored (cond (is_some o) Race Quiet)) ≡ Ok Race → cond b None o ≡ option_map tags (unordered_by_bytes touched (past ++ step ∷ []) (length past))
        by true ignores o found is = cc
        by false heeds None found is = cc
        by false heeds (Some a) found is =
            sym found ∙ hit_is w kind
            ∙ access-named past step tags touched before.words stands.words w site kind event (sym (ap (λ (h : Holdings). nat_lt 0 h.depth) held_is) ∙ heeds) (ap is_some (sym (hit_is w kind) ∙ found))

    rival-reuse : (range : PageRange) → step.event ≡ Reuse range → (answered_by before step bytes).reply ≡ Ok Race
        → (answered_by before step bytes).rival ≡ option_map tags (unordered_by_bytes touched (past ++ step ∷ []) (length past))
    rival-reuse range event answered =
        ap rival_at event ∙ by (nat_lt 0 (holding before step.thread).depth) (word_used (clock_of before step.thread) (known_in before) range) refl (sym (ap answer event) ∙ answered)
      where
        by : (b : Bool) (o : Option ℕ) → word_used (clock_of before step.thread) (known_in before) range ≡ o → answer_unless (refused_by (holding before step.thread) (Reuse range)) (cond b Done (reuse_reply o)) ≡ Ok Race
            → cond b None (use_found (clock_of before step.thread) (known_in before) o) ≡ option_map tags (unordered_by_bytes touched (past ++ step ∷ []) (length past))
        by true o used is = cc
        by false None used is = cc
        by false (Some w) used is =
            ap (λ (clock : ℕ → ℕ). finds clock (known_in before w) reuse_query) clock_is
            ∙ reuse-named past step tags touched before.words stands.words range event w (sym (used_is range) ∙ used)
            (and_parts (is_within w range) (is_some (finds own (known_in before w) reuse_query))
            (least_below-Some (suc range.hi) (λ v. is_within v range && is_some (finds own (known_in before v) reuse_query)) w (sym (used_is range) ∙ used)).1).1

    rival-by : (e : Event) → step.event ≡ e → (answered_by before step bytes).reply ≡ Ok Race → (answered_by before step bytes).rival ≡ option_map tags (unordered_by_bytes touched (past ++ step ∷ []) (length past))
    rival-by (Access kind w site) is answered = rival-access w site kind is answered
    rival-by (Reuse range) is answered = rival-reuse range is answered
    rival-by (Acquire l m) is answered = absurd (never-race before step bytes (ap names_none is) answered)
    rival-by (Release l m) is answered = absurd (never-race before step bytes (ap names_none is) answered)
    rival-by IgnoreOn is answered = absurd (never-race before step bytes (ap names_none is) answered)
    rival-by IgnoreOff is answered = absurd (never-race before step bytes (ap names_none is) answered)
    rival-by (Level n) is answered = absurd (never-race before step bytes (ap names_none is) answered)
    rival-by (Show w) is answered = absurd (never-race before step bytes (ap names_none is) answered)
    rival-by (Sync sync) is answered = absurd (never-race before step bytes (ap names_none is) answered)

    pub rival-stands : (answered_by before step bytes).reply ≡ Ok Race → (answered_by before step bytes).rival ≡ option_map tags (unordered_by_bytes touched (past ++ step ∷ []) (length past))
    rival-stands race = rival-by step.event refl race

-- the lowest number that passes is what the search finds
lowest-none : (n : ℕ) (p : ℕ → Bool) → ((k : ℕ) → p k ≡ false) → least_below n p ≡ None
unfolding least_below
lowest-none zero p none = refl
lowest-none (suc n) p none = rw (lowest-none n p none, none n) refl

lowest-one : (n m : ℕ) (p : ℕ → Bool) → p m ≡ true → ((k : ℕ) → k < m → p k ≡ false) → m < n → least_below n p ≡ Some m
lowest-one n m p passes first below =
    let there = least-there n m p below passes in
    there.1 ∙ ap Some (same there.0 (least_below-Some n p there.0 there.1).1 there.2)
  where
    same : (i : ℕ) → p i ≡ true → i ≤ m → i ≡ m
    same i here low = ⊎_elim (λ less. absurd (both_ways (p i) (first i less) here)) (λ equal. equal) (below_or_at i m (omega arith))

pub lowest-is : (n : ℕ) (p : ℕ → Bool) (o : Option ℕ) → IsLowest p o → ((k : ℕ) → p k ≡ true → k < n) → least_below n p ≡ o
lowest-is n p None none within = lowest-none n p none
lowest-is n p (Some m) lowest within = lowest-one n m p lowest.0 lowest.1 (within m lowest.0)

pub in-range : (w : ℕ) (range : PageRange) (b : Bool) → (is_within w range && b) ≡ true → w < suc range.hi
in-range w range b passes =
    let parts = and_parts (is_within w range) b passes in
    let high = leb-true w range.hi (and_parts (nat_le range.lo w) (nat_le w range.hi) parts.0).1 in
    omega arith

-- the act of a step, by what the machine holds and behind the list that it stands for
act-same : {A : Type 0} (tags : ℕ → A) (touched : Touched) (before : Ordered A) (past : List Step) (step : Step) → Stands tags touched before past → act_by (holding before step.thread) step ≡ acts_of (past ++ step ∷ []) (length past)
act-same tags touched before past step stands =
    ap (λ h. act_by h step) (stands.held step.thread ∙ sym (held-front past (step ∷ []) step.thread (length past) (omega arith)))
    ∙ sym (act-step (past ++ step ∷ []) (length past) step (get_last past step))

-- what may be beyond a limit before a step is so after the list
pub beyond-after : {A : Type 0} (tags : ℕ → A) (touched : Touched) (before : Ordered A) (past : List Step) (step : Step) → Stands tags touched before past → (limit : Limit) → IsBeyondBy before step limit → IsBeyondAfter past step limit
beyond-after tags touched before past step stands limit is =
    subst (λ (o : Option Act). IsBeyond limit (clocks_at (acts_of past) (length past)) o) (act-same tags touched before past step stands)
    (subst (λ (clocks : Clocks). IsBeyond limit clocks (act_by (holding before step.thread) step)) (fun_ext (λ k. fun_ext (λ u. stands.clocks k u))) is)

pub room-after : {A : Type 0} (tags : ℕ → A) (touched : Touched) (before : Ordered A) (past : List Step) (step : Step) → Stands tags touched before past → is_crowding before step ≡ false → crowds_after past step ≡ false
room-after tags touched before past step stands room = ap crowds (sym (act-same tags touched before past step stands)) ∙ room

-- what isn't refused for a crowd has room
pub has_room : {T : Type 0} (r : Result T NoTick) (b : Bool) → (IsErrOf r (Beyond Threads) ↔ (b ≡ true)) → OnOk r (b ≡ false)
has_room (Ok v) true crowded = let never = crowded.1 refl in cc
has_room (Ok v) false crowded = refl
has_room (Err e) b crowded = tt

-- and a fact of what is answered
pub once_ok : {T E : Type 0} (r : Result T E) (P Q : Type 0) → OnOk r P → (P → Q) → IsOk r → Q
once_ok (Ok v) P Q p f ok = f p
once_ok (Err e) P Q p f ok = cc

-- before any step
pub stands-start : {A : Type 0} (machine : Ordered A) → ((t : ℕ) → holding machine t ≡ nothing_held) → StandsForClocksOf machine.clocks [] → ((tags : ℕ → A) (touched : Touched) → FollowsBytes tags touched machine.words [])
    → (tags : ℕ → A) (touched : Touched) → Stands tags touched machine []
stands-start machine nothing clocks follows tags touched = record { held = λ t. nothing t ∙ sym (holdings-empty t); clocks = clocks; words = follows tags touched }

-- with other tags that agree with these
pub stands-tags : {A : Type 0} (tags more : ℕ → A) (touched : Touched) (machine : Ordered A) (steps : List Step) → ((k : ℕ) → k < length steps → more k ≡ tags k) → Stands tags touched machine steps → Stands more touched machine steps
stands-tags {A} tags more touched machine steps same stands = record {
  held = stands.held;
  clocks = stands.clocks;
  words = λ w. subst (λ (wanted : Known A). ServesAs steps (known_in machine w) wanted) (others w) (stands.words w);
}
  where
    others : (w : ℕ) → known_at tags touched steps w (length steps) ≡ known_at more touched steps w (length steps)
    others w =
        sym (known-front steps [] tags tags touched touched w (length steps) (omega arith) (λ k low. refl) (λ k low. refl))
        ∙ known-front steps [] more tags touched touched w (length steps) (omega arith) (λ k low. sym (same k low)) (λ k low. refl)

-- what holds of a reply
pub if_ok : {T E : Type 0} (r : Result T E) (P Q : T → Type 0) → IfOk r P → ((v : T) → P v → Q v) → IfOk r Q
if_ok (Ok v) P Q p f = f v p
if_ok (Err e) P Q p f = tt

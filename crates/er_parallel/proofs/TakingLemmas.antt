-- A worker that has gone one step further in a batch.
use Rattle.std.proofs.Common.{IsTrue, IsFalse, OnOk, ◌≡◌, ℕ, zero, suc, ◌+◌, ◌-◌, ◌%◌, ◌<◌, ◌≤◌, ◌==◌, Bool, true, false, cond, List, [], ◌∷◌, ◌++◌, length, slice_get, Option, Some, None, Result, Ok, Err, refl, ap, sym, subst, ◌∙◌, arith, ⊎_elim, ◌⊎◌, inl, inr}
use Rattle.std.proofs.lemmas.List.{length-append}
use Rattle.std.proofs.lemmas.Nat.{mod_below}
use Rattle.std.proofs.lemmas.Option.{same_Some}
use Rattle.er_event.specs.Refusal.{refusal_of}
use Rattle.er_event.specs.declared.refusals.NoRoom.{NoRoom}
use Rattle.er_event.specs.declared.refusals.NoRoom.TheVariants.{TableFull}
use Rattle.er_event.specs.declared.refusals.Refusal.{Refusal}
use Rattle.er_event.specs.declared.refusals.Refusal.TheVariants as refusal
use Rattle.er_event.specs.declared.steps.Event.{Event}
use Rattle.er_event.specs.declared.steps.Event.TheVariants.{Acquire, Release, Access, Reuse, IgnoreOn, IgnoreOff, Show, Level, Sync}
use Rattle.er_event.specs.declared.steps.Mode.TheVariants.{Read, Write}
use Rattle.er_event.specs.declared.steps.Reply.{Reply}
use Rattle.er_event.specs.declared.steps.Reply.TheVariants.{Race, Done, Quiet, Ignored}
use Rattle.er_event.specs.declared.steps.Step.{Step}
use Rattle.er_event.specs.declared.steps.WordState.{WordState}
use Rattle.er_event.proofs.Lists.{get_front, get_last, get_behind, length_push}
use Rattle.er_journal.specs.Merges.{shard_of}
use Rattle.er_model.specs.Answers.{state_at, answer, answer_unless}
use Rattle.er_model.specs.Following.{answered, replied, state_after}
use Rattle.er_model.specs.Holdings.{Holdings, holdings, holdings_at, after_step, changed_unless, refused_by}
use Rattle.er_model.specs.Threads.{accepted, held}
use Rattle.er_model.proofs.AnswersLemmas.{answer-step, state-step}
use Rattle.er_model.proofs.Parts.{in_range}
use Rattle.er_model.proofs.Prefixes.{holdings-front, state-front}
use Rattle.er_model.proofs.Search.{below_or_at}
use Rattle.er_model.proofs.Threads.{holdings-step}
use Rattle.er_parallel.specs.Crews.{IsAmong, IsAnswered, HasFollowed, LeavesWord}
use Rattle.er_parallel.specs.Faults.{AsksForSet}
use Rattle.er_parallel.specs.Usual.{usual}
use Rattle.er_parallel.specs.Inner.Taking.{AreIdle, HasCome, HasDone, IsFoundSoFar, IsIdle, IsKept, IsOwn, IsPassed}
use Rattle.er_parallel.specs.Tasks.{shard_for, worker_for}
use Rattle.er_parallel.specs.declared.worker.Share.{Share}
use Rattle.er_parallel.specs.declared.worker.Unusual.{Unusual}
use Rattle.er_parallel.proofs.FollowingLemmas.{apart, replied-same, asks-same}
use Rattle.er_replay.specs.Standing.{Replayed, found_no_room, holding, in_full, states}
use Rattle.er_replay.specs.declared.machine.Brief.{Brief}
use Rattle.er_replay.specs.declared.machine.Brief.TheVariants as brief
use Rattle.er_replay.specs.Wants.{asks_by, is_access}

-- only an access is a race, so that its thread's holdings stay
no_race : (o : Option Refusal) → answer_unless o Done ≡ Ok Race → ⊥
no_race None is = cc
no_race (Some why) is = cc

race_keeps : (h : Holdings) (words : ℕ → WordState) (t : ℕ) (e : Event) → answer_unless (refused_by h e) (replied h words t e) ≡ Ok Race → changed_unless (refused_by h e) h e ≡ h
race_keeps h words t (Access kind w site) is = refl
race_keeps h words t (Reuse range) is = refl
race_keeps h words t (Show w) is = refl
race_keeps h words t (Acquire l m) is = absurd (no_race (refused_by h (Acquire l m)) is)
race_keeps h words t (Release l Read) is = absurd (no_race (refused_by h (Release l Read)) is)
race_keeps h words t (Release l Write) is = absurd (no_race (refused_by h (Release l Write)) is)
race_keeps h words t IgnoreOn is = absurd (no_race (refused_by h IgnoreOn) is)
race_keeps h words t IgnoreOff is = absurd (no_race (refused_by h IgnoreOff) is)
race_keeps h words t (Level n) is = absurd (no_race (refused_by h (Level n)) is)
race_keeps h words t (Sync sync) is = absurd (no_race (refused_by h (Sync sync)) is)

same_either : (b : Bool) (x h : Holdings) → x ≡ h → cond b x h ≡ h
same_either true x h is = is
same_either false x h is = refl

held_of : (past : List Step) (t : ℕ) → (holdings past t).held ≡ held past t
unfolding holdings
held_of past t = refl

-- such a machine's step asks for a set as the list says
asks_for_set : (all : List Step) (shards worker workers k : ℕ) (step : Step) (before : Replayed) → slice_get all k ≡ Some step → ((t : ℕ) → holding before t ≡ holdings_at all t k) →
    ((w : ℕ) → shard_of shards w % workers ≡ worker → states before w ≡ state_at all w k) → worker_for shards workers step.event ≡ worker →
    asks_by (holding before step.thread) (states before) step.thread step.event ≡ true → AsksForSet all
asks_for_set all shards worker workers k step before is held_so words mine asks = record {
  at = k;
  step = step;
  there = is;
  asks = rw (← held_so step.thread) (sym (asks-same shards workers worker step.thread (holding before step.thread) (states before) (λ w. state_at all w k) words step.event mine) ∙ asks);
}

-- what a step makes of a machine that has the holdings and the states of its own shards' words
module _ (all : List Step) (shards worker workers k : ℕ) (step : Step) (is : slice_get all k ≡ Some step) (before after : Replayed)
    (held_so : (t : ℕ) → holding before t ≡ holdings_at all t k) (words : (w : ℕ) → shard_of shards w % workers ≡ worker → states before w ≡ state_at all w k)
    (follows : (t : ℕ) → holding after t ≡ after_step (holding before t) t step) where
  held_next : (t : ℕ) → holding after t ≡ holdings_at all t (suc k)
  held_next t = follows t ∙ (ap (λ (h : Holdings). after_step h t step) (held_so t) ∙ sym (holdings-step all k step t is))

  words_passed : (worker_for shards workers step.event ≡ worker → ⊥) → ((w : ℕ) → states after w ≡ states before w) → (w : ℕ) → shard_of shards w % workers ≡ worker → states after w ≡ state_at all w (suc k)
  words_passed other same w own =
      same w ∙ (words w own
      ∙ (sym (apart shards workers worker w step.thread (holdings_at all step.thread k) (state_at all w k) own step.event other) ∙ sym (state-step all k step w is)))

  words_taken : ((w : ℕ) → states after w ≡ state_after (holding before step.thread) (states before w) w step) → (w : ℕ) → shard_of shards w % workers ≡ worker → states after w ≡ state_at all w (suc k)
  words_taken moves w own =
      moves w
      ∙ (ap (λ (h : Holdings). state_after h (states before w) w step) (held_so step.thread)
      ∙ (ap (λ (s : WordState). state_after (holdings_at all step.thread k) s w step) (words w own) ∙ sym (state-step all k step w is)))

  module _ (mine : worker_for shards workers step.event ≡ worker) where
    answer_taken : (a : Result Reply Refusal) → a ≡ answered (holding before step.thread) (states before) step → a ≡ answer all k
    answer_taken a given =
        given
        ∙ (ap (λ (h : Holdings). answered h (states before) step) (held_so step.thread)
        ∙ (ap (answer_unless (refused_by (holdings_at all step.thread k) step.event))
        (replied-same shards workers worker step.thread (holdings_at all step.thread k) (states before) (λ w. state_at all w k) words step.event mine)
        ∙ sym (answer-step all k step is)))

  held_at_race : (a : Result Reply Refusal) → a ≡ answered (holding before step.thread) (states before) step → a ≡ Ok Race → (holding after step.thread).held ≡ held (accepted all k) step.thread
  held_at_race a given race =
      ap (λ (h : Holdings). h.held)
      (follows step.thread
      ∙ (same_either (step.thread == step.thread) (changed_unless (refused_by (holding before step.thread) step.event) (holding before step.thread) step.event) (holding before step.thread)
      (race_keeps (holding before step.thread) (states before) step.thread step.event (sym given ∙ race))
      ∙ held_so step.thread))
      ∙ held_of (accepted all k) step.thread

some_same : {A : Type 0} (x y : A) → Some x ≡ Some y → x ≡ y
some_same x y e = cc

-- a want of room by its cause
pub full-answer : (r : Result Reply Refusal) (cause : NoRoom) → r ≡ Err (refusal_of cause) → cause ≡ TableFull → r ≡ Err refusal.TableFull
full-answer r cause is full = is ∙ ap (λ (c : NoRoom). Err (refusal_of c)) full

-- a longer list has the earlier items
among_more : (items : List Unusual) (x : Unusual) (k : ℕ) → IsAmong items k → IsAmong (items ++ x ∷ []) k
among_more items x k was = record { index = was.index; item = was.item; there = get_front items (x ∷ []) was.index (in_range items was.index was.item was.there) ∙ was.there; at = was.at }

module _ (past : List Step) (batch : List Step) (share : Share) (n : ℕ) (step : Step) (there : slice_get batch n ≡ Some step) (items : List Unusual) (far : IsFoundSoFar n past batch share items) where
  -- one step more, which has its usual answer or isn't the worker's
  found_still : (IsOwn share step.event → answer (past ++ batch) (length past + n) ≡ usual step.event) →
      (IsOwn share step.event → IsTrue share.noting → LeavesWord (past ++ batch) (length past + n) step.event) → IsFoundSoFar (n + 1) past batch share items
  found_still usually leaves = record {
    found = far.found;
    below = λ j item at. (let low = far.below j item at in omega arith);
    whole = λ k other below at own. ⊎_elim
        (λ low. far.whole k other low at own)
        (λ here.
        let same : step ≡ other = some_same step other (sym there ∙ (ap (slice_get batch) (sym here) ∙ at)) in
        inl (ap (λ i. answer (past ++ batch) (length past + i)) here
        ∙ (usually (ap (λ (s : Step). worker_for share.shards share.workers s.event) same ∙ own) ∙ ap (λ (s : Step). usual s.event) same)))
        (below_or_at k n (omega (arith, below)));
    noted = λ k other below at own noting. ⊎_elim
        (λ low. far.noted k other low at own noting)
        (λ here.
        let same : step ≡ other = some_same step other (sym there ∙ (ap (slice_get batch) (sym here) ∙ at)) in
        let left = leaves (ap (λ (s : Step). worker_for share.shards share.workers s.event) same ∙ own) noting in
        inl (subst (λ (i : ℕ). LeavesWord (past ++ batch) (length past + i) other.event) (sym here) (subst (λ (s : Step). LeavesWord (past ++ batch) (length past + n) s.event) same left)))
        (below_or_at k n (omega (arith, below)));
  }

  -- one step more, whose answer is put down
  module _ (x : Unusual) (at : x.at ≡ n) (right : IsAnswered past batch x) (mine : IsOwn share step.event) where
    abbrev more : List Unusual
    more = items ++ x ∷ []

    old_or_new : (j : ℕ) (item : Unusual) → slice_get more j ≡ Some item → ((j < length items) × (slice_get items j ≡ Some item)) ⊎ ((j ≡ length items) × (item ≡ x))
    old_or_new j item is = ⊎_elim
        (λ low. inl (low, sym (get_front items (x ∷ []) j low) ∙ is))
        (λ end. inr (end, some_same item x (sym is ∙ (ap (slice_get more) end ∙ get_last items x))))
        (below_or_at j (length items) (omega (arith, in_range more j item is, length_push items x)))

    rises : (i j : ℕ) (one other : Unusual) → i < j → slice_get more i ≡ Some one → slice_get more j ≡ Some other → one.at < other.at
    rises i j one other less first second = ⊎_elim
        (λ new. ⊎_elim
        (λ old. far.found.rise i j one other less old.1 new.1)
        (λ end. absurd (omega (arith, end.0, new.0, less)))
        (old_or_new i one first))
        (λ new. ⊎_elim
        (λ old. rw (new.1, at) (far.below i one old.1))
        (λ end. absurd (omega (arith, end.0, new.0, less)))
        (old_or_new i one first))
        (old_or_new j other second)

    found_more : IsFoundSoFar (n + 1) past batch share more
    found_more = record {
      found = record {
        rise = rises;
        right = λ j item is. ⊎_elim (λ old. far.found.right j item old.1) (λ new. rw new.1 right) (old_or_new j item is);
        owned = λ j item s is here. ⊎_elim
            (λ old. far.found.owned j item s old.1 here)
            (λ new.
            let same : step ≡ s = some_same step s (sym there ∙ (ap (slice_get batch) (sym (ap (λ (u : Unusual). u.at) new.1 ∙ at)) ∙ here)) in
            subst (λ (s : Step). IsOwn share s.event) same mine)
            (old_or_new j item is);
      };
      below = λ j item is. ⊎_elim (λ old. let low = far.below j item old.1 in omega arith) (λ new. let last = ap (λ (u : Unusual). u.at) new.1 ∙ at in omega arith) (old_or_new j item is);
      whole = λ k other below is own. ⊎_elim
          (λ low. ⊎_elim (λ usually. inl usually) (λ was. inr (among_more items x k was)) (far.whole k other low is own))
          (λ here. inr (record { index = length items; item = x; there = get_last items x; at = at ∙ sym here }))
          (below_or_at k n (omega (arith, below)));
      noted = λ k other below is own noting. ⊎_elim
          (λ low. ⊎_elim (λ leaves. inl leaves) (λ was. inr (among_more items x k was)) (far.noted k other low is own noting))
          (λ here. inr (record { index = length items; item = x; there = get_last items x; at = at ∙ sym here }))
          (below_or_at k n (omega (arith, below)));
    }

add_one_more : (o n : ℕ) → suc (o + n) ≡ o + (n + 1)
add_one_more o n = omega arith

next_place : (o n : ℕ) → o + (n + 1) ≡ o + n + 1
next_place o n = omega arith

-- an access of a word of its own that leaves each word's state as it was
leaves-word : (all : List Step) (shards workers worker k : ℕ) (event : Event) (before after : ℕ → WordState) → ((w : ℕ) → shard_of shards w % workers ≡ worker → before w ≡ state_at all w k) →
    ((w : ℕ) → shard_of shards w % workers ≡ worker → after w ≡ state_at all w (k + 1)) → worker_for shards workers event ≡ worker → (IsTrue (is_access event) → (w : ℕ) → after w ≡ before w) →
    LeavesWord all k event
leaves-word all shards workers worker k (Access kind w site) before after was is mine same = sym (is w mine) ∙ (same refl w ∙ was w mine)
leaves-word all shards workers worker k (Acquire l m) before after was is mine same = tt
leaves-word all shards workers worker k (Release l m) before after was is mine same = tt
leaves-word all shards workers worker k (Reuse range) before after was is mine same = tt
leaves-word all shards workers worker k IgnoreOn before after was is mine same = tt
leaves-word all shards workers worker k IgnoreOff before after was is mine same = tt
leaves-word all shards workers worker k (Show w) before after was is mine same = tt
leaves-word all shards workers worker k (Level n) before after was is mine same = tt
leaves-word all shards workers worker k (Sync sync) before after was is mine same = tt

-- where a batch begins
pub come-none : (past : List Step) (batch : List Step) (share : Share) (items : List Unusual) (machine : Replayed) → items ≡ [] → HasFollowed share.shards share.workers share.worker past machine → HasCome 0 past batch share items machine
come-none past batch share items machine none follows =
    let start : length past ≡ length past + 0 = omega arith in
    record {
      held = λ t. subst (λ (k : ℕ). holding machine t ≡ holdings_at (past ++ batch) t k) start (follows.holdings t ∙ sym (holdings-front past batch t (length past) (omega arith)));
      words = λ w own. subst (λ (k : ℕ). states machine w ≡ state_at (past ++ batch) w k) start (follows.words w own ∙ sym (state-front past batch w (length past) (omega arith)));
      found = rw none (record {
        found = record { rise = λ i j one other less first second. cc; right = λ j item is. cc; owned = λ j item s is here. cc };
        below = λ j item is. cc;
        whole = λ k step below is own. absurd (omega arith);
        noted = λ k step below is own noting. absurd (omega arith);
      });
    }

-- where it ends
pub come-end : (past : List Step) (batch : List Step) (share : Share) (items : List Unusual) (machine : Replayed) (n : ℕ) → n ≡ length batch → HasCome n past batch share items machine → HasDone past batch share items machine
come-end past batch share items machine n end come =
    let last : length past + n ≡ length (past ++ batch) = omega (arith, end, length-append past batch) in
    record {
      followed = record {
        holdings = λ t. subst (λ (k : ℕ). holding machine t ≡ holdings_at (past ++ batch) t k) last (come.held t);
        words = λ w own. subst (λ (k : ℕ). states machine w ≡ state_at (past ++ batch) w k) last (come.words w own);
      };
      found = subst (λ (k : ℕ). IsFoundSoFar k past batch share items) end come.found;
    }

module _ (past : List Step) (batch : List Step) (share : Share) (n : ℕ) (step : Step) (there : slice_get batch n ≡ Some step) (items : List Unusual) (before after : Replayed) (come : HasCome n past batch share items before) where
  placed : slice_get (past ++ batch) (length past + n) ≡ Some step
  placed = get_behind past batch n (length past + n) refl ∙ there

  -- it may ask for a set
  pub come-asks : IsOwn share step.event → asks_by (holding before step.thread) (states before) step.thread step.event ≡ true → AsksForSet (past ++ batch)
  come-asks mine asks = asks_for_set (past ++ batch) share.shards share.worker share.workers (length past + n) step before placed come.held come.words mine asks

  module _ (follows : (t : ℕ) → holding after t ≡ after_step (holding before t) t step) where
    held_now : (t : ℕ) → holding after t ≡ holdings_at (past ++ batch) t (length past + (n + 1))
    held_now t = rw (← add_one_more (length past) n) (held_next (past ++ batch) share.shards share.worker share.workers (length past + n) step placed before after come.held come.words follows t)

    -- a step that another worker answers
    pub come-past : (IsOwn share step.event → ⊥) → ((w : ℕ) → states after w ≡ states before w) → HasCome (n + 1) past batch share items after
    come-past other same = record {
      held = held_now;
      words = λ w own. rw (← add_one_more (length past) n)
          (words_passed (past ++ batch) share.shards share.worker share.workers (length past + n) step placed before after come.held come.words follows other same w own);
      found = found_still past batch share n step there items come.found (λ mine. absurd (other mine)) (λ mine. absurd (other mine));
    }

    module _ (mine : IsOwn share step.event) (a : Result Reply Refusal) (given : a ≡ answered (holding before step.thread) (states before) step)
        (moves : (w : ℕ) → states after w ≡ state_after (holding before step.thread) (states before w) w step) where
      words_now : (w : ℕ) → shard_of share.shards w % share.workers ≡ share.worker → states after w ≡ state_at (past ++ batch) w (length past + (n + 1))
      words_now w own = rw (← add_one_more (length past) n)
          (words_taken (past ++ batch) share.shards share.worker share.workers (length past + n) step placed before after come.held come.words follows moves w own)

      answer_now : a ≡ answer (past ++ batch) (length past + n)
      answer_now = answer_taken (past ++ batch) share.shards share.worker share.workers (length past + n) step placed before after come.held come.words follows mine a given

      -- what a step that is one of its own and isn't noted leaves as it is
      leaves_now : (IsTrue (is_access step.event) → (w : ℕ) → states after w ≡ states before w) → LeavesWord (past ++ batch) (length past + n) step.event
      leaves_now same = leaves-word (past ++ batch) share.shards share.workers share.worker (length past + n) step.event (states before) (states after) come.words
          (λ w own. words_now w own ∙ ap (λ (i : ℕ). state_at (past ++ batch) w i) (next_place (length past) n)) mine same

      -- a step of its own with its usual answer
      pub come-usual : a ≡ usual step.event → (IsTrue share.noting → IsTrue (is_access step.event) → (w : ℕ) → states after w ≡ states before w) → HasCome (n + 1) past batch share items after
      come-usual usually same = record { held = held_now; words = words_now; found = found_still past batch share n step there items come.found (λ _. sym answer_now ∙ usually) (λ _ noting. leaves_now (same noting)) }

      -- a step of its own whose answer is put down
      pub come-found : (locks : List ℕ) (more : List Unusual) → (a ≡ Ok Race → locks ≡ (holding after step.thread).held) → more ≡ items ++ record { at = n; answer = a; held = locks } ∷ [] → HasCome (n + 1) past batch share more after
      come-found locks more locked is = record {
        held = held_now;
        words = words_now;
        found = rw is (found_more past batch share n step there items come.found (record { at = n; answer = a; held = locks }) refl
            (record {
              step = step;
              there = there;
              answered = answer_now;
              locked = λ race. locked race
                  ∙ held_at_race (past ++ batch) share.shards share.worker share.workers (length past + n) step placed before after come.held come.words follows a given race;
            }) mine);
      }

  -- the same where the answer may not be kept, or finds no room
  pub come-kept : {A Room : Type 0} → IsOwn share step.event → (a : Result Reply Refusal) (kept : Result A NoRoom) (kept_items : List Unusual) → OnOk kept Room
      → OnOk kept (IsKept n a (holding after step.thread).held items kept_items)
      → (Room → (t : ℕ) → holding after t ≡ after_step (holding before t) t step)
      → (Room → a ≡ answered (holding before step.thread) (states before) step)
      → (Room → (w : ℕ) → states after w ≡ state_after (holding before step.thread) (states before w) w step)
      → OnOk kept (HasCome (n + 1) past batch share kept_items after)
  come-kept mine a (Ok done) kept_items room is follows given moves = come-found (follows room) mine a (given room) (moves room) is.locks kept_items is.locked is.items
  come-kept mine a (Err why) kept_items room is follows given moves = tt

-- an access leaves its thread's holdings as they are
access_keeps : (h : Holdings) (e : Event) → is_access e ≡ true → changed_unless (refused_by h e) h e ≡ h
access_keeps h (Access kind w site) is = refl
access_keeps h (Acquire l m) is = cc
access_keeps h (Release l m) is = cc
access_keeps h (Reuse range) is = cc
access_keeps h IgnoreOn is = cc
access_keeps h IgnoreOff is = cc
access_keeps h (Show w) is = cc
access_keeps h (Level n) is = cc
access_keeps h (Sync sync) is = cc

-- a worker that has come so far has come past an access that another worker answers
come-idle : (past batch : List Step) (share : Share) (n : ℕ) (step : Step) → slice_get batch n ≡ Some step → (items : List Unusual) (machine : Replayed) → IsIdle share step.event →
    HasCome n past batch share items machine → HasCome (n + 1) past batch share items machine
come-idle past batch share n step there items machine idle come =
    come-past past batch share n step there items machine machine come
    (λ t. sym (same_either (step.thread == t) (changed_unless (refused_by (holding machine t) step.event) (holding machine t) step.event) (holding machine t) (access_keeps (holding machine t) step.event idle.0)))
    idle.1 (λ w. refl)

-- a position within a list has an element
some_within : {X : Type 0} (xs : List X) (k : ℕ) → k < length xs → (x : X) × (slice_get xs k ≡ Some x)
some_within [] k below = absurd (omega arith)
some_within (x ∷ xs) zero below = (x, refl)
some_within (x ∷ xs) (suc k) below = some_within xs k (omega arith)

-- and past several
come-more : (past batch : List Step) (share : Share) (from more : ℕ) (items : List Unusual) (machine : Replayed) → from + more ≤ length batch → AreIdle share from (from + more) batch →
    HasCome from past batch share items machine → HasCome (from + more) past batch share items machine
come-more past batch share from zero items machine within idle come = subst (λ (k : ℕ). HasCome k past batch share items machine) (omega arith) come
come-more past batch share from (suc more) items machine within idle come =
    let (step, there) = some_within batch (from + more) (omega (arith, within)) in
    let one_more : from + more + 1 ≡ from + suc more = omega arith in
    subst (λ (k : ℕ). HasCome k past batch share items machine) one_more
    (come-idle past batch share (from + more) step there items machine (idle (from + more) step (omega arith) (omega arith) there)
    (come-more past batch share from more items machine (omega (arith, within)) (λ k s low high is. idle k s low (omega (arith, high)) is) come))

pub come-to : (past batch : List Step) (share : Share) (from to : ℕ) (items : List Unusual) (machine : Replayed) → from ≤ to → to ≤ length batch → AreIdle share from to batch →
    HasCome from past batch share items machine → HasCome to past batch share items machine
come-to past batch share from to items machine behind within idle come =
    let parts : from + (to - from) ≡ to = omega (arith, behind) in
    subst (λ (k : ℕ). HasCome k past batch share items machine) parts
    (come-more past batch share from (to - from) items machine (omega (arith, behind, within)) (λ k s low high is. idle k s low (omega (arith, high, behind)) is) come)

-- one more that another worker answers
pub idle-on : (share : Share) (from at : ℕ) (batch : List Step) (step : Step) → slice_get batch at ≡ Some step → IsIdle share step.event → AreIdle share from at batch → AreIdle share from (at + 1) batch
idle-on share from at batch step there last idle = λ k other low high is.
    ⊎_elim (λ below. idle k other low below is)
    (λ same. subst (λ (s : Step). IsIdle share s.event) (same_Some step other (sym there ∙ rw (← same) is)) last)
    (below_or_at k at (omega (arith, high)))

-- an access alone is quiet, and is never done
no_done : (ignores reported : Bool) → Ok Done ≡ answer_unless None (cond ignores Ignored (cond reported Race Quiet)) → ⊥
no_done true reported is = cc
no_done false true is = cc
no_done false false is = cc

no_quiet : (o : Option Refusal) → Ok Quiet ≡ answer_unless o Done → ⊥
no_quiet None is = cc
no_quiet (Some why) is = cc

done_access : (h : Holdings) (words : ℕ → WordState) (t : ℕ) (e : Event) → Ok Done ≡ answer_unless (refused_by h e) (replied h words t e) → is_access e ≡ false
done_access h words t (Access kind w site) is = absurd (no_done _ _ is)
done_access h words t (Acquire l m) is = refl
done_access h words t (Release l m) is = refl
done_access h words t (Reuse range) is = refl
done_access h words t IgnoreOn is = refl
done_access h words t IgnoreOff is = refl
done_access h words t (Show w) is = refl
done_access h words t (Level n) is = refl
done_access h words t (Sync sync) is = refl

quiet_access : (h : Holdings) (words : ℕ → WordState) (t : ℕ) (e : Event) → Ok Quiet ≡ answer_unless (refused_by h e) (replied h words t e) → is_access e ≡ true
quiet_access h words t (Access kind w site) is = refl
quiet_access h words t (Reuse range) is = cc
quiet_access h words t (Show w) is = cc
quiet_access h words t (Acquire l m) is = absurd (no_quiet (refused_by h (Acquire l m)) is)
quiet_access h words t (Release l Read) is = absurd (no_quiet (refused_by h (Release l Read)) is)
quiet_access h words t (Release l Write) is = absurd (no_quiet (refused_by h (Release l Write)) is)
quiet_access h words t IgnoreOn is = absurd (no_quiet (refused_by h IgnoreOn) is)
quiet_access h words t IgnoreOff is = absurd (no_quiet (refused_by h IgnoreOff) is)
quiet_access h words t (Level n) is = absurd (no_quiet (refused_by h (Level n)) is)
quiet_access h words t (Sync sync) is = absurd (no_quiet (refused_by h (Sync sync)) is)

-- a brief answer that isn't kept is the usual one
module _ (h : Holdings) (words now : ℕ → WordState) (t : ℕ) (e : Event) (b : Result Brief Refusal) (noting changed : Bool) (passed : IsPassed b noting changed) where
  pub passed-room : IsFalse (found_no_room b)
  passed-room = ⊎_elim (λ done. ap found_no_room done) (λ quiet. ⊎_elim (λ plain. ap found_no_room plain) (λ first. ap found_no_room first) quiet.0) passed

  is_quiet : (b ≡ Ok brief.Quiet) ⊎ (b ≡ Ok brief.First) → in_full now e b ≡ Ok Quiet
  is_quiet = ⊎_elim (λ plain. ap (in_full now e) plain) (λ first. ap (in_full now e) first)

  module _ (given : in_full now e b ≡ answer_unless (refused_by h e) (replied h words t e)) where
    pub passed-usual : in_full now e b ≡ usual e
    passed-usual = ⊎_elim
        (λ done. ap (in_full now e) done ∙ ap (λ (access : Bool). Ok (cond access Quiet Done)) (sym (done_access h words t e (sym (ap (in_full now e) done) ∙ given))))
        (λ quiet. is_quiet quiet.0 ∙ ap (λ (access : Bool). Ok (cond access Quiet Done)) (sym (quiet_access h words t e (sym (is_quiet quiet.0) ∙ given))))
        passed

    pub passed-same : IsTrue noting → IsTrue (is_access e) → changed ≡ false
    passed-same notes access = ⊎_elim
        (λ done. let never : false ≡ true = sym (done_access h words t e (sym (ap (in_full now e) done) ∙ given)) ∙ access in cc)
        (λ quiet. quiet.1 notes)
        passed

-- the only worker answers all steps
below_one : (a b w : ℕ) → w ≡ 1 → a < w → b < w → a ≡ b
below_one a b w one less below = omega (arith, one, less, below)

pub all-own : (share : Share) (event : Event) → share.workers ≡ 1 → share.worker < share.workers → IsOwn share event
all-own share event one below =
    below_one (shard_for share.shards event % share.workers) share.worker share.workers one (mod_below (shard_for share.shards event) share.workers (omega (arith, one))) below

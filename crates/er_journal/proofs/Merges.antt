-- In a merge of legal journals and seats each reply is the one that the whole list gives.
use Rattle.std.proofs.Common.{◌≡◌, ℕ, zero, suc, ◌/◌, ◌%◌, ◌<◌, ◌≤◌, ◌==◌, nat_le, Bool, true, false, cond, List, [], ◌∷◌, ◌++◌, append-nil, append_assoc, length, slice_get, Option, Some, None, Ok, refl, ap, sym, ◌∙◌, arith, ⊎_elim}
use Rattle.std.proofs.lemmas.Bool.{eq-eqb, eqb-true, or_cases, and_parts, leb-true}
use Rattle.er_event.specs.declared.steps.Event.{Event}
use Rattle.er_event.specs.declared.steps.Event.TheVariants.{Acquire, Release, Access, Reuse, IgnoreOn, IgnoreOff, Show, Level, Sync}
use Rattle.er_event.specs.declared.addresses.PageRange.{PageRange}
use Rattle.er_event.specs.declared.steps.Reply.{Reply}
use Rattle.er_event.specs.declared.steps.Step.{Step}
use Rattle.er_journal.specs.Entries.{Call}
use Rattle.er_journal.specs.Entries.{Entry}
use Rattle.er_model.specs.Words.{Mark, Counted, Reused, Shown, Nothing, reuses, counts, is_within}
use Rattle.er_model.specs.Threads.{refusal}
use Rattle.er_model.specs.Holdings.{holdings, holdings_at}
use Rattle.er_model.specs.Answers.{reading_of, state_end, reply, answer}
use Rattle.er_model.specs.Following.{locks_for}
use Rattle.er_model.specs.Locality.{touches, event_by, events_of, steps_by, is_own_call}
use Rattle.er_model.specs.Parts.{Noted, part_of, IsLegal}
use Rattle.er_journal.specs.Journals.{IsLegalJournal, journal_state}
use Rattle.er_journal.specs.Merges.{shard_of, is_in_shard, reply_at, reply_by, replies_of, events_in, replies_in, IsMerge, IsLegalSeat}
use Rattle.er_model.proofs.Search.{below_or_at}
use Rattle.er_model.proofs.AnswersLemmas.{reading-step}
use Rattle.er_model.proofs.Locality.{holdings-local}
use Rattle.er_model.proofs.Parts.{in_range, state-part, reply-part, reuse-part, show-part}
use Rattle.er_event.proofs.Lists.{get_front, get_last, length_push}
use Rattle.er_model.proofs.Seats.{answer-own, events-front, events-within, events-mine}

-- what touches a word is in the word's shard
same_shard : (shards w : ℕ) (range : PageRange) → is_within w range ≡ true → shard_of shards range.lo ≡ shard_of shards w
same_shard shards w range within =
    let parts = and_parts (nat_le range.lo w) (nat_le w range.hi) within in
    let low : range.lo ≤ w = leb-true range.lo w parts.0 in
    let high : w ≤ range.hi = leb-true w range.hi parts.1 in
    let page : range.lo / 1024 ≡ range.hi / 1024 = range.one_page in
    let same : range.lo / 1024 ≡ w / 1024 = omega arith in
    ap (λ p. p % shards) same

pub touch_shard : (shards w : ℕ) (mark : Mark) → touches mark w ≡ true → is_in_shard shards (shard_of shards w) mark ≡ true
unfolding reuses counts
touch_shard shards w (Counted t kind word cover) touched =
    eq-eqb (shard_of shards word) (shard_of shards w) (ap (shard_of shards) (eqb-true word w touched))
touch_shard shards w (Reused range) touched =
    eq-eqb (shard_of shards range.lo) (shard_of shards w) (same_shard shards w range (⊎_elim (λ within. within) (λ never. cc) (or_cases (is_within w range) false touched)))
touch_shard shards w (Shown word) touched = cc
touch_shard shards w Nothing touched = cc

-- a seat's call at a place of its events and replies
call_at : (calls : List Call) (j : ℕ) (e : Event) (given : Reply) → slice_get (events_in calls) j ≡ Some e → slice_get (replies_in calls) j ≡ Some given →
    (call : Call) × (slice_get calls j ≡ Some call) × (call.event ≡ e) × (call.reply ≡ given)
call_at [] j e given is gives = cc
call_at (call ∷ calls) zero e given is gives = (call, refl, cc, cc)
call_at (call ∷ calls) (suc j) e given is gives = call_at calls j e given is gives

module _ (steps : List Step) (replies : List Reply) (t : ℕ) where
  replies-mine : (k : ℕ) (s : Step) → slice_get steps k ≡ Some s → (s.thread == t) ≡ true → replies_of steps replies t (suc k) ≡ replies_of steps replies t k ++ reply_at replies k ∷ []
  unfolding replies_of
  replies-mine k s is own = rw (is, own) refl

  replies-front : (k n : ℕ) → k ≤ n → (rest : List Reply) × (replies_of steps replies t n ≡ replies_of steps replies t k ++ rest)
  unfolding replies_of
  replies-front k zero below = let same : k ≡ 0 = omega arith in ([], rw same refl)
  replies-front k (suc n) below =
      ⊎_elim
      (λ before.
      let front = replies-front k n (omega arith) in
      (front.0 ++ reply_by t (slice_get steps n) (reply_at replies n), rw front.1 (rw append_assoc refl)))
      (λ here. ([], rw here (sym (append-nil (replies_of steps replies t (suc n))))))
      (below_or_at k (suc n) (omega arith))

  -- as many replies as events
  as_many_by : (n : ℕ) (o : Option Step) → slice_get steps n ≡ o → length (replies_of steps replies t n) ≡ length (events_of steps t n) →
      length (replies_of steps replies t n ++ reply_by t o (reply_at replies n)) ≡ length (events_of steps t n ++ event_by t o)
  as_many_by n None is before = rw (append-nil (replies_of steps replies t n), append-nil (events_of steps t n)) before
  as_many_by n (Some s) is before = own (s.thread == t)
    where
      own : (b : Bool) → length (replies_of steps replies t n ++ cond b (reply_at replies n ∷ []) []) ≡ length (events_of steps t n ++ cond b (s.event ∷ []) [])
      own true = rw (length_push (replies_of steps replies t n) (reply_at replies n), length_push (events_of steps t n) s.event) (ap suc before)
      own false = rw (append-nil (replies_of steps replies t n), append-nil (events_of steps t n)) before

  as_many : (n : ℕ) → length (replies_of steps replies t n) ≡ length (events_of steps t n)
  unfolding replies_of events_of
  as_many zero = refl
  as_many (suc n) = as_many_by n (slice_get steps n) refl (as_many n)

  reply-place : (k n : ℕ) (s : Step) → k < n → slice_get steps k ≡ Some s → (s.thread == t) ≡ true → slice_get (replies_of steps replies t n) (length (events_of steps t k)) ≡ Some (reply_at replies k)
  reply-place k n s below is own =
      let front = replies-front (suc k) n (omega arith) in
      let xs = replies_of steps replies t k in
      rw (front.1, replies-mine k s is own, sym (as_many k))
      (get_front (xs ++ reply_at replies k ∷ []) front.0 (length xs) (omega (arith, length_push xs (reply_at replies k))) ∙ get_last xs (reply_at replies k))

event-place : (steps : List Step) (t k n : ℕ) (s : Step) → k < n → slice_get steps k ≡ Some s → (s.thread == t) ≡ true → slice_get (events_of steps t n) (length (events_of steps t k)) ≡ Some s.event
event-place steps t k n s below is own =
    let front = events-front steps t (suc k) n (omega arith) in
    let xs = events_of steps t k in
    rw (front.1, events-mine steps t k s is own)
    (get_front (xs ++ s.event ∷ []) front.0 (length xs) (omega (arith, length_push xs s.event)) ∙ get_last xs s.event)

module _ (shards : ℕ) (steps : List Step) (replies : List Reply) (calls : ℕ → List Call) (journals : ℕ → List Entry)
    (some_shard : 0 < shards) (merge : IsMerge shards steps replies calls journals) where
  abbrev part : ℕ → List Noted
  part w = part_of (is_in_shard shards (shard_of shards w)) (reading_of steps) (reply_at replies) (length steps)

  in_range_of : (w : ℕ) → shard_of shards w < shards
  in_range_of w = omega arith

  kept_all : (w k : ℕ) → k < length steps → touches (reading_of steps k) w ≡ true → is_in_shard shards (shard_of shards w) (reading_of steps k) ≡ true
  kept_all w k below touched = touch_shard shards w (reading_of steps k) touched

  -- each word's state by its shard's journal is its state by the whole list
  pub merge-state : (w : ℕ) → journal_state (journals (shard_of shards w)) w ≡ state_end steps w
  merge-state w =
      rw (sym (merge.parts (shard_of shards w) (in_range_of w)))
      (state-part (is_in_shard shards (shard_of shards w)) (reading_of steps) (reply_at replies) w (length steps) (kept_all w))

  module _ (journals_legal : (i : ℕ) → i < shards → IsLegalJournal (journals i)) (seats_legal : (t : ℕ) → IsLegalSeat t (calls t)) where
    part_legal : (w : ℕ) → IsLegal (part w)
    part_legal w = rw (merge.parts (shard_of shards w) (in_range_of w)) (journals_legal (shard_of shards w) (in_range_of w))

    -- a call that stands in no journal
    own_reply : (k : ℕ) (s : Step) → slice_get steps k ≡ Some s → is_own_call (holdings_at steps s.thread k) s.event ≡ true → answer steps k ≡ Ok (reply_at replies k)
    own_reply k s is own =
        let t = s.thread in
        let below = in_range steps k s is in
        let mine = eq-eqb t t refl in
        let place = length (events_of steps t k) in
        let call = call_at (calls t) place s.event (reply_at replies k)
        (rw (merge.events t) at (event-place steps t k (length steps) s below is mine))
        (rw (merge.answers t) at (reply-place steps replies t k (length steps) s below is mine)) in
        let local : holdings_at (steps_by t (events_in (calls t))) t place ≡ holdings_at steps t k =
        rw (merge.events t) at (holdings-local (steps_by t (events_of steps t (length steps))) steps t place k (events-within steps t k (length steps) (omega arith))) in
        let given = seats_legal t place call.0 call.1 (rw (local, call.2) own) in
        sym (rw (merge.events t) at (answer-own steps k (length steps) s below is own)) ∙ given ∙ ap Ok call.3

    -- a counted access, a reuse or a show
    word_reply : (k : ℕ) (s : Step) (e : Event) → slice_get steps k ≡ Some s → s.event ≡ e → is_own_call (holdings_at steps s.thread k) e ≡ false → answer steps k ≡ Ok (reply_at replies k)
    unfolding answer refusal reply holdings
    word_reply k s (Access kind w site) is event word =
        let h = holdings_at steps s.thread k in
        let mark : reading_of steps k ≡ Counted s.thread kind w (locks_for h kind) = reading-step steps k s is ∙ rw (event, word) refl in
        let given = reply-part (is_in_shard shards (shard_of shards w)) (reading_of steps) (reply_at replies) w k (length steps) s.thread kind (locks_for h kind) (in_range steps k s is) mark (kept_all w) (part_legal w) in
        rw (is, event, word, given) refl
    word_reply k s (Show w) is event word =
        let mark : reading_of steps k ≡ Shown w = reading-step steps k s is ∙ rw event refl in
        let given = show-part (is_in_shard shards (shard_of shards w)) (reading_of steps) (reply_at replies) k (length steps) w (in_range steps k s is) mark (rw mark (eq-eqb (shard_of shards w) (shard_of shards w) refl)) (kept_all w) (part_legal w) in
        rw (is, event, given) refl
    word_reply k s (Acquire l m) is event word = cc
    word_reply k s (Release l m) is event word = cc
    word_reply k s (Reuse range) is event word =
        let mark : reading_of steps k ≡ Reused range = reading-step steps k s is ∙ rw event refl in
        let given = reuse-part (is_in_shard shards (shard_of shards range.lo)) (reading_of steps) (reply_at replies) k (length steps) range (in_range steps k s is) mark (rw mark (eq-eqb (shard_of shards range.lo) (shard_of shards range.lo) refl)) (part_legal range.lo) in
        rw (is, event, given) refl
    word_reply k s IgnoreOn is event word = cc
    word_reply k s IgnoreOff is event word = cc
    word_reply k s (Level n) is event word = cc
    word_reply k s (Sync sync) is event word = cc

    reply_by_kind : (k : ℕ) (s : Step) → slice_get steps k ≡ Some s → (b : Bool) → is_own_call (holdings_at steps s.thread k) s.event ≡ b → answer steps k ≡ Ok (reply_at replies k)
    reply_by_kind k s is true own = own_reply k s is own
    reply_by_kind k s is false word = word_reply k s s.event is refl word

    -- every reply in the merge is the one that the whole list gives
    pub merge-reply : (k : ℕ) (s : Step) → slice_get steps k ≡ Some s → answer steps k ≡ Ok (reply_at replies k)
    merge-reply k s is = reply_by_kind k s is (is_own_call (holdings_at steps s.thread k) s.event) refl

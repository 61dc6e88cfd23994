-- The turns, read as a list of steps, are a merge: a turn without a ticket is nothing to the words, and one with a ticket is what its entry is.
use Rattle.std.proofs.Common.{◌≡◌, ℕ, ◌+◌, ◌<◌, ◌≤◌, List, [], ◌∷◌, ◌++◌, Bool, true, false, cond, not, length, length-append, append-nil, take, drop, refl, sym, ap, ◌∙◌, arith, zero, suc, inl, inr}
use Rattle.std.specs.Prelude.{slice_get, Some, Option, ◌==◌, nat_lt}
use Rattle.std.specs.Option.{is_some}
use Rattle.std.proofs.lemmas.Bool.{eq-eqb}
use Rattle.std.proofs.lemmas.List.{map-append, length-map, take-append-drop}
use Rattle.std.proofs.lemmas.List.Elements.{filter_map-append}
use Rattle.std.proofs.lemmas.Option.{slice_get_within, get_or_from_slice_get, slice_get-get_or}
use Rattle.er_event.specs.declared.steps.Event.{Event}
use Rattle.er_event.specs.declared.steps.Event.TheVariants as event
use Rattle.er_event.specs.declared.steps.Kind.{Kind}
use Rattle.er_event.specs.declared.steps.Kind.TheVariants.{Read as reading, Write as writing}
use Rattle.er_event.specs.declared.steps.Reply.{Reply}
use Rattle.er_event.specs.declared.steps.Reply.TheVariants.{Done}
use Rattle.er_event.specs.declared.steps.Step.{Step}
use Rattle.er_journal.specs.Entries.{Call, Entry, Stamp, What, Access, Reset, event_of}
use Rattle.er_model.specs.Words.{Counted, Nothing}
use Rattle.er_model.specs.Holdings.{Holdings, holdings_at}
use Rattle.er_model.specs.Answers.{reading_of}
use Rattle.er_model.specs.Following.{locks_for, marked}
use Rattle.er_model.specs.Locality.{events_of, steps_by, is_own_call}
use Rattle.er_model.specs.Parts.{Noted, part_of}
use Rattle.er_journal.specs.Journals.{IsLegalJournal, stamped, mark_of_what, note_of, notes_of}
use Rattle.er_journal.specs.Merges.{is_in_shard, reply_at, replies_of, events_in, replies_in, stamp_by, stamps_of, stamp_in, stamps_in, threads_of, threads_in, IsMerge, IsLegalSeat}
use Rattle.er_model.proofs.AnswersLemmas.{reading-step}
use Rattle.er_model.proofs.Locality.{holdings-local}
use Rattle.er_model.proofs.Seats.{events-within}
use Rattle.er_settle.specs.Seats.{SeatList, holdings_by, calls_by}
use Rattle.er_settle.specs.Faults.{AreDistinct, AreAnswered, IsAlike, place_of}
use Rattle.er_settle.specs.Inner.JournalOrder.{EntryAt, IsOrder, entries_at}
use Rattle.er_settle.specs.Inner.EntryMatches.{AreInTurn}
use Rattle.er_settle.specs.Inner.CallOrder.{ticketed_turns, entry_turns}
use Rattle.er_settle.specs.Inner.SeatChecks.{AreSeatLists, AreLegalJournals}
use Rattle.er_settle.specs.Runs.{TurnShown, calls_of, steps_of, replies_to, journal_at}
use Rattle.er_settle.proofs.ListLemmas.{take_next, all_taken}
use Rattle.er_settle.proofs.OrderLemmas.{get_below, mapped, entries_at-push}
use Rattle.er_settle.proofs.PairLemmas.{to_map, in_journal}
use Rattle.er_settle.proofs.TurnLemmas.{drop_next, calls_both, asked_both}
use Rattle.er_settle.proofs.RestLemmas.{calls_given, given_or}

abbrev Key : Type 0
Key = Option ℕ × Event

-- What an event is to the words.

marked_own : (h : Holdings) (t : ℕ) (e : Event) → is_own_call h e ≡ true → marked h t e ≡ Nothing
marked_own h t (event.Access kind w site) own = rw own refl
marked_own h t (event.Reuse range) own = absurd (cc)
marked_own h t (event.Show w) own = absurd (cc)
marked_own h t (event.Acquire l m) own = refl
marked_own h t (event.Release l m) own = refl
marked_own h t event.IgnoreOn own = refl
marked_own h t event.IgnoreOff own = refl
marked_own h t (event.Level n) own = refl
marked_own h t (event.Sync sync) own = refl

abbrev made : Holdings → ℕ → ℕ → Kind → ℕ → Stamp
made h t w kind site = record { thread = t; word = w; kind = kind; site = site; held = h.held; write_held = h.write_held }

locks_same : (h : Holdings) (t w site : ℕ) (kind kinds : Kind) → locks_for h kind ≡ stamped (made h t w kinds site) kind
locks_same h t w site reading kinds = refl
locks_same h t w site writing kinds = refl

one_stamp : (a b : Stamp) → a ∷ [] ≡ b ∷ [] → a ≡ b
one_stamp a b same = cc

counted_by : (h : Holdings) (t : ℕ) (stamp : Stamp) (b : Bool) → cond b [] (made h t stamp.word stamp.kind stamp.site ∷ []) ≡ stamp ∷ [] →
    cond b Nothing (Counted t stamp.kind stamp.word (locks_for h stamp.kind)) ≡ Counted stamp.thread stamp.kind stamp.word (stamped stamp stamp.kind)
counted_by h t stamp true same = absurd (cc)
counted_by h t stamp false same =
    ap (λ (locks : List ℕ). Counted t stamp.kind stamp.word locks) (locks_same h t stamp.word stamp.site stamp.kind stamp.kind)
    ∙ ap (λ (x : Stamp). Counted x.thread x.kind x.word (stamped x x.kind)) (one_stamp (made h t stamp.word stamp.kind stamp.site) stamp same)

marked_pair : (h : Holdings) (t : ℕ) (e : Entry) (what : What) → e.what ≡ what → stamp_by h t (event_of what) ≡ stamps_in (e ∷ []) → marked h t (event_of what) ≡ mark_of_what what
marked_pair h t e (Access stamp) is same = counted_by h t stamp (nat_lt 0 h.depth) (rw is at same)
marked_pair h t e (Reset range) is same = refl

in_shard_is : (shards i : ℕ) (what : What) → is_in_shard shards i (mark_of_what what) ≡ (place_of shards what == i)
in_shard_is shards i (Access stamp) = refl
in_shard_is shards i (Reset range) = refl

-- Places.

at_seam : {A : Type 0} (xs : List A) (y : A) (ys : List A) → slice_get (xs ++ y ∷ ys) (length xs) ≡ Some y
at_seam [] y ys = refl
at_seam (x ∷ xs) y ys = at_seam xs y ys

whole_at : (turns : List TurnShown) (k : ℕ) (a : TurnShown) → slice_get turns k ≡ Some a → turns ≡ take k turns ++ a ∷ drop (k + 1) turns
whole_at turns k a h = sym (take-append-drop k turns) ∙ ap (λ (xs : List TurnShown). take k turns ++ xs) (drop_next turns k a h)

own_one : (t : ℕ) (a : TurnShown) (turns : List TurnShown) (b : Bool) → (a.thread == t) ≡ b → calls_of t (a ∷ turns) ≡ cond b (a.call ∷ calls_of t turns) (calls_of t turns)
own_one t a turns true is = rw is refl
own_one t a turns false is = rw is refl

asked_one : (a : TurnShown) (turns : List TurnShown) (b : Bool) → is_some a.call.ticket ≡ b → ticketed_turns (a ∷ turns) ≡ cond b ((a.thread, (a.call.ticket, a.call.event)) ∷ ticketed_turns turns) (ticketed_turns turns)
asked_one a turns true is = rw is refl
asked_one a turns false is = rw is refl

not_false : (b : Bool) → false ≡ not b → b ≡ true
not_false true h = refl
not_false false h = absurd (cc)

suc_is : (k : ℕ) → suc k ≡ k + 1
suc_is k = omega arith

module _ (turns : List TurnShown) where
  step_at : (k : ℕ) (a : TurnShown) → slice_get turns k ≡ Some a → slice_get (steps_of turns) k ≡ Some (record { thread = a.thread; event = a.call.event })
  step_at k a h = to_map (λ (x : TurnShown). record { thread = x.thread; event = x.call.event }) turns k a h

  reply_is : (k : ℕ) (a : TurnShown) → slice_get turns k ≡ Some a → reply_at (replies_to turns) k ≡ a.call.reply
  reply_is k a h = get_or_from_slice_get (replies_to turns) k a.call.reply Done (to_map (λ (x : TurnShown). x.call.reply) turns k a h)

  events_one : (t : ℕ) (a : TurnShown) (b : Bool) → (a.thread == t) ≡ b → cond b (a.call.event ∷ []) [] ≡ events_in (cond b (a.call ∷ []) [])
  events_one t a true is = refl
  events_one t a false is = refl

  replies_one : (t : ℕ) (a : TurnShown) (b : Bool) → (a.thread == t) ≡ b → cond b (a.call.reply ∷ []) [] ≡ replies_in (cond b (a.call ∷ []) [])
  replies_one t a true is = refl
  replies_one t a false is = refl

  front_calls : (t k : ℕ) (a : TurnShown) → slice_get turns k ≡ Some a → calls_of t (take (suc k) turns) ≡ calls_of t (take k turns) ++ cond (a.thread == t) (a.call ∷ []) []
  front_calls t k a h =
      rw (suc_is k) (ap (calls_of t) (take_next turns k a h) ∙ (calls_both t (take k turns) (a ∷ []) ∙ ap (λ (xs : List Call). calls_of t (take k turns) ++ xs) (own_one t a [] (a.thread == t) refl)))

  -- a thread's events and replies among the steps
  events_front : (t k : ℕ) → k ≤ length turns → events_of (steps_of turns) t k ≡ events_in (calls_of t (take k turns))
  unfolding events_of
  events_front t zero low = refl
  events_front t (suc k) low =
      let a = get_below turns k (omega (arith, low)) in
      rw (step_at k a.0 a.1, front_calls t k a.0 a.1)
      (ap (λ (xs : List Event). xs ++ cond (a.0.thread == t) (a.0.call.event ∷ []) []) (events_front t k (omega (arith, low)))
      ∙ (ap (λ (xs : List Event). events_in (calls_of t (take k turns)) ++ xs) (events_one t a.0 (a.0.thread == t) refl)
      ∙ sym (map-append (λ (x : Call). x.event) (calls_of t (take k turns)) (cond (a.0.thread == t) (a.0.call ∷ []) []))))

  replies_front : (t k : ℕ) → k ≤ length turns → replies_of (steps_of turns) (replies_to turns) t k ≡ replies_in (calls_of t (take k turns))
  unfolding replies_of
  replies_front t zero low = refl
  replies_front t (suc k) low =
      let a = get_below turns k (omega (arith, low)) in
      rw (step_at k a.0 a.1, front_calls t k a.0 a.1, reply_is k a.0 a.1)
      (ap (λ (xs : List Reply). xs ++ cond (a.0.thread == t) (a.0.call.reply ∷ []) []) (replies_front t k (omega (arith, low)))
      ∙ (ap (λ (xs : List Reply). replies_in (calls_of t (take k turns)) ++ xs) (replies_one t a.0 (a.0.thread == t) refl)
      ∙ sym (map-append (λ (x : Call). x.reply) (calls_of t (take k turns)) (cond (a.0.thread == t) (a.0.call ∷ []) []))))

  whole_events : (t : ℕ) → events_of (steps_of turns) t (length turns) ≡ events_in (calls_of t turns)
  whole_events t = events_front t (length turns) (omega arith) ∙ ap (λ (xs : List TurnShown). events_in (calls_of t xs)) (all_taken turns (length turns) (omega arith))

  whole_replies : (t : ℕ) → replies_of (steps_of turns) (replies_to turns) t (length turns) ≡ replies_in (calls_of t turns)
  whole_replies t = replies_front t (length turns) (omega arith) ∙ ap (λ (xs : List TurnShown). replies_in (calls_of t xs)) (all_taken turns (length turns) (omega arith))

  -- what a thread holds at a position, by its own list
  held_at : (t k : ℕ) → k ≤ length turns → holdings_at (steps_of turns) t k ≡ holdings_by t (calls_of t turns) (length (calls_of t (take k turns)))
  held_at t k low =
      let count : length (events_of (steps_of turns) t k) ≡ length (calls_of t (take k turns)) = ap length (events_front t k low) ∙ length-map (calls_of t (take k turns)) (λ (x : Call). x.event) in
      holdings-local (steps_of turns) (steps_by t (events_in (calls_of t turns))) t k (length (calls_of t (take k turns)))
      (sym (rw (whole_events t, count) at (events-within (steps_of turns) t k (length turns) low)))

  call_at : (k : ℕ) (a : TurnShown) → slice_get turns k ≡ Some a → slice_get (calls_of a.thread turns) (length (calls_of a.thread (take k turns))) ≡ Some a.call
  call_at k a h =
      let split : calls_of a.thread turns ≡ calls_of a.thread (take k turns) ++ a.call ∷ calls_of a.thread (drop (k + 1) turns) =
      ap (calls_of a.thread) (whole_at turns k a h) ∙ (calls_both a.thread (take k turns) (a ∷ drop (k + 1) turns)
      ∙ ap (λ (xs : List Call). calls_of a.thread (take k turns) ++ xs) (own_one a.thread a (drop (k + 1) turns) true (eq-eqb a.thread a.thread refl))) in
      rw split (at_seam (calls_of a.thread (take k turns)) a.call (calls_of a.thread (drop (k + 1) turns)))

  asked_at : (k : ℕ) (a : TurnShown) → slice_get turns k ≡ Some a → is_some a.call.ticket ≡ true → slice_get (ticketed_turns turns) (length (ticketed_turns (take k turns))) ≡ Some (a.thread, (a.call.ticket, a.call.event))
  asked_at k a h some =
      let split : ticketed_turns turns ≡ ticketed_turns (take k turns) ++ (a.thread, (a.call.ticket, a.call.event)) ∷ ticketed_turns (drop (k + 1) turns) =
      ap ticketed_turns (whole_at turns k a h) ∙ (asked_both (take k turns) (a ∷ drop (k + 1) turns)
      ∙ ap (λ (xs : List (ℕ × Key)). ticketed_turns (take k turns) ++ xs) (asked_one a (drop (k + 1) turns) true some)) in
      rw split (at_seam (ticketed_turns (take k turns)) (a.thread, (a.call.ticket, a.call.event)) (ticketed_turns (drop (k + 1) turns)))

  asked_front : (k : ℕ) (a : TurnShown) (b : Bool) → slice_get turns k ≡ Some a → is_some a.call.ticket ≡ b → ticketed_turns (take (suc k) turns) ≡ ticketed_turns (take k turns) ++ cond b ((a.thread, (a.call.ticket, a.call.event)) ∷ []) []
  asked_front k a b h is =
      rw (suc_is k) (ap ticketed_turns (take_next turns k a h) ∙ (asked_both (take k turns) (a ∷ []) ∙ ap (λ (xs : List (ℕ × Key)). ticketed_turns (take k turns) ++ xs) (asked_one a [] b is)))

  more_asked : (k : ℕ) (a : TurnShown) → slice_get turns k ≡ Some a → is_some a.call.ticket ≡ true → length (ticketed_turns (take (suc k) turns)) ≡ length (ticketed_turns (take k turns)) + 1
  more_asked k a h is = ap length (asked_front k a true h is) ∙ length-append (ticketed_turns (take k turns)) ((a.thread, (a.call.ticket, a.call.event)) ∷ [])

  none_asked : (k : ℕ) (a : TurnShown) → slice_get turns k ≡ Some a → is_some a.call.ticket ≡ false → length (ticketed_turns (take (suc k) turns)) ≡ length (ticketed_turns (take k turns))
  none_asked k a h is = ap length (asked_front k a false h is ∙ append-nil (ticketed_turns (take k turns)))

module _ (seats : List SeatList) (journals : List (List Entry)) (order : List EntryAt) (turns : List TurnShown) (is : IsOrder journals order) (turn : AreInTurn seats journals order) (answered : AreAnswered seats journals)
    (legal : AreSeatLists seats) (once : AreDistinct seats) (calls : (t : ℕ) → calls_of t turns ≡ calls_by seats t) (told : ticketed_turns turns ≡ entry_turns order) where
  abbrev steps : List Step
  steps = steps_of turns

  -- the seat of a turn's thread, whose list has the turn's calls
  seat_of : (k : ℕ) (a : TurnShown) → slice_get turns k ≡ Some a → (i : ℕ) × (s : SeatList) × (slice_get seats i ≡ Some s) × (s.thread ≡ a.thread) × (s.calls ≡ calls_of a.thread turns)
  seat_of k a h = elim (given_or seats a.thread) [
    | inl w ↦ (w.0, w.1, w.2, w.3, sym (calls a.thread ∙ (ap (calls_by seats) (sym w.3) ∙ calls_given seats w.0 w.1 once w.2)))
    | inr w ↦ absurd (let there = call_at turns k a h in let gone = rw (calls a.thread ∙ w.1) at there in cc)
  ]

  -- that call in the seat's list, and what the seat holds at it
  seat_at : (k : ℕ) (a : TurnShown) → slice_get turns k ≡ Some a → (i : ℕ) × (s : SeatList) × (j : ℕ) × (slice_get seats i ≡ Some s) × (slice_get s.calls j ≡ Some a.call) × (s.thread ≡ a.thread) × (holdings_at steps a.thread k ≡ holdings_by s.thread s.calls j)
  seat_at k a h =
      let s = seat_of k a h in
      let low : k ≤ length turns = (let w = slice_get_within turns k a h in omega (arith, w)) in
      (s.0, s.1, length (calls_of a.thread (take k turns)), s.2, rw s.4 (call_at turns k a h), s.3, rw (s.4, s.3) (held_at turns a.thread k low))

  -- a turn without a ticket is nothing to the words
  nothing_at : (k : ℕ) (a : TurnShown) → slice_get turns k ≡ Some a → is_some a.call.ticket ≡ false → reading_of steps k ≡ Nothing
  nothing_at k a h none =
      let s = seat_at k a h in
      let own = not_false (is_own_call (holdings_by s.1.thread s.1.calls s.2) a.call.event) (sym none ∙ (legal s.0 s.1 s.3).tickets s.2 a.call s.4) in
      reading-step steps k (record { thread = a.thread; event = a.call.event }) (step_at turns k a h) ∙ marked_own (holdings_at steps a.thread k) a.thread a.call.event (rw s.6 own)

  -- a turn with a ticket is what its entry is
  entry_at : (k : ℕ) (a : TurnShown) → slice_get turns k ≡ Some a → is_some a.call.ticket ≡ true →
      (d : EntryAt) × (slice_get order (length (ticketed_turns (take k turns))) ≡ Some d) × (reading_of steps k ≡ mark_of_what d.entry.what) × (a.call.reply ≡ d.entry.reply) × (stamp_by (holdings_at steps a.thread k) a.thread a.call.event ≡ stamps_in (d.entry ∷ [])) × (place_of (length journals) d.entry.what ≡ d.place) × (d.entry.thread ≡ a.thread)
  entry_at k a h some =
      let s = seat_at k a h in
      let x = mapped {B = ℕ × Key} (λ (d : EntryAt). (d.entry.thread, (Some d.entry.ticket, event_of d.entry.what))) order (length (ticketed_turns (take k turns))) (a.thread, (a.call.ticket, a.call.event)) (rw told at (asked_at turns k a h some)) in
      let thread : x.0.entry.thread ≡ a.thread = ap (λ (w : ℕ × Key). w.0) x.2 in
      let ticket : a.call.ticket ≡ Some x.0.entry.ticket = ap (λ (w : ℕ × Key). w.1.0) (sym x.2) in
      let event : a.call.event ≡ event_of x.0.entry.what = ap (λ (w : ℕ × Key). w.1.1) (sym x.2) in
      let place = turn.placed (length (ticketed_turns (take k turns))) x.0 x.1 in
      let z = in_journal journals order (length (ticketed_turns (take k turns))) x.0 is x.1 in
      let alike : IsAlike (holdings_by s.1.thread s.1.calls s.2) s.1.thread a.call x.0.entry =
      answered s.0 s.1 s.2 a.call x.0.place z.0 x.0.entry (s.3, s.4) z.1 (record { ticket = ticket; thread = s.5 ∙ sym thread; event = event; place = place }) in
      let stamp : stamp_by (holdings_at steps a.thread k) a.thread a.call.event ≡ stamps_in (x.0.entry ∷ []) =
      ap (λ (held : Holdings). stamp_by held a.thread a.call.event) s.6 ∙ (ap (λ (t : ℕ). stamp_by (holdings_by s.1.thread s.1.calls s.2) t a.call.event) (sym s.5) ∙ alike.stamp) in (
        x.0,
        x.1,
        reading-step steps k (record { thread = a.thread; event = a.call.event }) (step_at turns k a h) ∙ (ap (marked (holdings_at steps a.thread k) a.thread) event
            ∙ marked_pair (holdings_at steps a.thread k) a.thread x.0.entry x.0.entry.what refl (ap (λ (e : Event). stamp_by (holdings_at steps a.thread k) a.thread e) (sym event) ∙ stamp)),
        sym alike.reply,
        stamp,
        place,
        thread,
      )

  module _ (i : ℕ) where
    abbrev shards : ℕ
    shards = length journals

    one_entry : (d : EntryAt) (b : Bool) → (d.place == i) ≡ b → entries_at i (d ∷ []) ≡ cond b (d.entry ∷ []) []
    one_entry d true own = rw own refl
    one_entry d false own = rw own refl

    front_entries : (m : ℕ) (d : EntryAt) → slice_get order m ≡ Some d → entries_at i (take (m + 1) order) ≡ entries_at i (take m order) ++ cond (d.place == i) (d.entry ∷ []) []
    front_entries m d h = ap (entries_at i) (take_next order m d h) ∙ (entries_at-push i (take m order) d ∙ ap (λ (es : List Entry). entries_at i (take m order) ++ es) (one_entry d (d.place == i) refl))

    one_note : (d : EntryAt) (b : Bool) → cond b (note_of d.entry ∷ []) [] ≡ notes_of (cond b (d.entry ∷ []) [])
    one_note d true = refl
    one_note d false = refl

    one_stamps : (d : EntryAt) (b : Bool) → cond b (stamps_in (d.entry ∷ [])) [] ≡ stamps_in (cond b (d.entry ∷ []) [])
    one_stamps d true = refl
    one_stamps d false = refl

    keeps_is : (k : ℕ) (d : EntryAt) → reading_of steps k ≡ mark_of_what d.entry.what → place_of shards d.entry.what ≡ d.place → is_in_shard shards i (reading_of steps k) ≡ (d.place == i)
    keeps_is k d mark place = ap (is_in_shard shards i) mark ∙ (in_shard_is shards i d.entry.what ∙ ap (λ (p : ℕ). p == i) place)

    parts_by : (k : ℕ) (a : TurnShown) (b : Bool) → slice_get turns k ≡ Some a → is_some a.call.ticket ≡ b →
        part_of (is_in_shard shards i) (reading_of steps) (reply_at (replies_to turns)) k ≡ notes_of (entries_at i (take (length (ticketed_turns (take k turns))) order)) →
        part_of (is_in_shard shards i) (reading_of steps) (reply_at (replies_to turns)) (suc k) ≡ notes_of (entries_at i (take (length (ticketed_turns (take (suc k) turns))) order))
    unfolding part_of
    parts_by k a false h none before =
        rw (nothing_at k a h none, none_asked turns k a h none) (append-nil (part_of (is_in_shard shards i) (reading_of steps) (reply_at (replies_to turns)) k) ∙ before)
    parts_by k a true h some before =
        let e = entry_at k a h some in
        let m = length (ticketed_turns (take k turns)) in
        rw (keeps_is k e.0 e.2 e.5, e.2, reply_is turns k a h ∙ e.3, more_asked turns k a h some, front_entries m e.0 e.1)
        (ap (λ (xs : List Noted). xs ++ cond (e.0.place == i) (note_of e.0.entry ∷ []) []) before
        ∙ (ap (λ (xs : List Noted). notes_of (entries_at i (take m order)) ++ xs) (one_note e.0 (e.0.place == i))
        ∙ sym (map-append note_of (entries_at i (take m order)) (cond (e.0.place == i) (e.0.entry ∷ []) []))))

    parts_front : (k : ℕ) → k ≤ length turns → part_of (is_in_shard shards i) (reading_of steps) (reply_at (replies_to turns)) k ≡ notes_of (entries_at i (take (length (ticketed_turns (take k turns))) order))
    unfolding part_of
    parts_front zero low = refl
    parts_front (suc k) low = let a = get_below turns k (omega (arith, low)) in parts_by k a.0 (is_some a.0.call.ticket) a.1 refl (parts_front k (omega (arith, low)))

    stamps_by : (k : ℕ) (a : TurnShown) (b : Bool) → slice_get turns k ≡ Some a → is_some a.call.ticket ≡ b →
        stamps_of shards i steps k ≡ stamps_in (entries_at i (take (length (ticketed_turns (take k turns))) order)) →
        stamps_of shards i steps (suc k) ≡ stamps_in (entries_at i (take (length (ticketed_turns (take (suc k) turns))) order))
    unfolding stamps_of
    stamps_by k a false h none before =
        rw (nothing_at k a h none, none_asked turns k a h none) (append-nil (stamps_of shards i steps k) ∙ before)
    stamps_by k a true h some before =
        let e = entry_at k a h some in
        let m = length (ticketed_turns (take k turns)) in
        rw (keeps_is k e.0 e.2 e.5, step_at turns k a h, e.4, more_asked turns k a h some, front_entries m e.0 e.1)
        (ap (λ (xs : List Stamp). xs ++ cond (e.0.place == i) (stamps_in (e.0.entry ∷ [])) []) before
        ∙ (ap (λ (xs : List Stamp). stamps_in (entries_at i (take m order)) ++ xs) (one_stamps e.0 (e.0.place == i))
        ∙ sym (filter_map-append (λ (x : Entry). stamp_in x.what) (entries_at i (take m order)) (cond (e.0.place == i) (e.0.entry ∷ []) []))))

    stamps_front : (k : ℕ) → k ≤ length turns → stamps_of shards i steps k ≡ stamps_in (entries_at i (take (length (ticketed_turns (take k turns))) order))
    unfolding stamps_of
    stamps_front zero low = refl
    stamps_front (suc k) low = let a = get_below turns k (omega (arith, low)) in stamps_by k a.0 (is_some a.0.call.ticket) a.1 refl (stamps_front k (omega (arith, low)))

    one_thread : (d : EntryAt) (b : Bool) → cond b (d.entry.thread ∷ []) [] ≡ threads_in (cond b (d.entry ∷ []) [])
    one_thread d true = refl
    one_thread d false = refl

    threads_by : (k : ℕ) (a : TurnShown) (b : Bool) → slice_get turns k ≡ Some a → is_some a.call.ticket ≡ b →
        threads_of shards i steps k ≡ threads_in (entries_at i (take (length (ticketed_turns (take k turns))) order)) →
        threads_of shards i steps (suc k) ≡ threads_in (entries_at i (take (length (ticketed_turns (take (suc k) turns))) order))
    unfolding threads_of
    threads_by k a false h none before =
        rw (nothing_at k a h none, none_asked turns k a h none) (append-nil (threads_of shards i steps k) ∙ before)
    threads_by k a true h some before =
        let e = entry_at k a h some in
        let m = length (ticketed_turns (take k turns)) in
        rw (keeps_is k e.0 e.2 e.5, step_at turns k a h, more_asked turns k a h some, front_entries m e.0 e.1)
        (ap (λ (xs : List ℕ). xs ++ cond (e.0.place == i) (a.thread ∷ []) []) before
        ∙ (ap (λ (t : ℕ). threads_in (entries_at i (take m order)) ++ cond (e.0.place == i) (t ∷ []) []) (sym e.6)
        ∙ (ap (λ (xs : List ℕ). threads_in (entries_at i (take m order)) ++ xs) (one_thread e.0 (e.0.place == i))
        ∙ sym (map-append (λ (x : Entry). x.thread) (entries_at i (take m order)) (cond (e.0.place == i) (e.0.entry ∷ []) [])))))

    threads_front : (k : ℕ) → k ≤ length turns → threads_of shards i steps k ≡ threads_in (entries_at i (take (length (ticketed_turns (take k turns))) order))
    unfolding threads_of
    threads_front zero low = refl
    threads_front (suc k) low = let a = get_below turns k (omega (arith, low)) in threads_by k a.0 (is_some a.0.call.ticket) a.1 refl (threads_front k (omega (arith, low)))

    all_entries : i < length journals → entries_at i (take (length (ticketed_turns (take (length turns) turns))) order) ≡ journal_at journals i
    all_entries inside =
        let j = get_below journals i inside in
        let count : length (ticketed_turns (take (length turns) turns)) ≡ length order =
        ap (λ (xs : List TurnShown). length (ticketed_turns xs)) (all_taken turns (length turns) (omega arith)) ∙ (ap length told ∙ length-map {B = ℕ × Key} order (λ (d : EntryAt). (d.entry.thread, (Some d.entry.ticket, event_of d.entry.what)))) in
        rw count (ap (entries_at i) (all_taken order (length order) (omega arith)) ∙ (is.entries i j.0 j.1 ∙ sym (get_or_from_slice_get journals i j.0 [] j.1)))

  steps_count : length steps ≡ length turns
  steps_count = length-map turns (λ (a : TurnShown). record { thread = a.thread; event = a.call.event })

  pub turns-merge : IsMerge (length journals) (steps_of turns) (replies_to turns) (calls_by seats) (journal_at journals)
  turns-merge = record {
    lengths = length-map turns (λ (a : TurnShown). a.call.reply) ∙ sym steps_count;
    events = λ t. rw steps_count (whole_events turns t ∙ ap events_in (calls t));
    answers = λ t. rw steps_count (whole_replies turns t ∙ ap replies_in (calls t));
    parts = λ i inside. rw steps_count (parts_front i (length turns) (omega arith) ∙ ap notes_of (all_entries i inside));
    stamps = λ i inside. rw steps_count (stamps_front i (length turns) (omega arith) ∙ ap stamps_in (all_entries i inside));
    threads = λ i inside. rw steps_count (threads_front i (length turns) (omega arith) ∙ ap threads_in (all_entries i inside));
  }

-- each thread's calls are those that a seat can have
pub seats-legal : (seats : List SeatList) → AreSeatLists seats → AreDistinct seats → (t : ℕ) → IsLegalSeat t (calls_by seats t)
seats-legal seats legal once t = elim (given_or seats t) [
  | inl w ↦ rw (← w.3, calls_given seats w.0 w.1 once w.2) (legal w.0 w.1 w.2).replies
  | inr w ↦ rw w.1 (λ j call h own. absurd (cc))
]

-- and each journal
pub journals-legal : (journals : List (List Entry)) → AreLegalJournals journals → (i : ℕ) → i < length journals → IsLegalJournal (journal_at journals i)
journals-legal journals legal i below = legal i (journal_at journals i) (slice_get-get_or journals i [] below)

-- the same, as the code has it
pub run-merge : (seats : List SeatList) (journals : List (List Entry)) (order slice : List EntryAt) (turns list : List TurnShown) (steps : List Step) (replies : List Reply) → IsOrder journals order → AreInTurn seats journals order → AreAnswered seats journals → AreSeatLists seats → AreDistinct seats →
    ((t : ℕ) → calls_of t turns ≡ calls_by seats t) → ticketed_turns turns ≡ entry_turns slice → slice ≡ order → list ≡ turns → steps ≡ steps_of list → replies ≡ replies_to list → IsMerge (length journals) steps replies (calls_by seats) (journal_at journals)
run-merge seats journals order slice turns list steps replies is turn answered legal once calls told same listed stepped replied =
    rw (stepped, replied, listed) (turns-merge seats journals order turns is turn answered legal once calls (told ∙ ap entry_turns same))

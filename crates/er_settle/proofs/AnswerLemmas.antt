-- A call with a ticket meets the entry of its place in its thread's group, so the two are a pair.
use Rattle.std.proofs.Common.{◌≡◌, ℕ, ◌+◌, ◌<◌, List, [], ◌∷◌, true, false, length, length-append, get_or, take, refl, sym, ap, ◌∙◌, arith, suc, inl, inr}
use Rattle.std.specs.Prelude.{slice_get, Some, None, Option, ◌==◌}
use Rattle.std.specs.Option.{is_some}
use Rattle.std.proofs.lemmas.Bool.{eqb-true, eq-eqb, cases_order}
use Rattle.std.proofs.lemmas.Option.{slice_get_within, slice_get_read}
use Rattle.er_event.specs.declared.steps.Event.{Event}
use Rattle.er_journal.specs.Entries.{Call, Entry, event_of}
use Rattle.er_model.specs.Threads.{accepted}
use Rattle.er_model.specs.Holdings.{Holdings, changed_unless, refused_by, after_step}
use Rattle.er_model.specs.Locality.{steps_by}
use Rattle.er_journal.specs.Merges.{events_in}
use Rattle.er_model.proofs.Threads.{holdings-step}
use Rattle.er_model.proofs.Prefixes.{holdings-empty}
use Rattle.er_held.specs.Held.{nothing_held}
use Rattle.er_settle.specs.Seats.{SeatList, holdings_by}
use Rattle.er_settle.specs.Faults.{IsAlike, IsAnswered, AreAnswered, Not}
use Rattle.er_settle.specs.Inner.JournalOrder.{EntryAt, entries_by, IsOrder}
use Rattle.er_settle.specs.Inner.EntryMatches.{ticketed_calls, ticketed_entries, AllAgree, AreInTurn, AreGrouped}
use Rattle.er_settle.specs.Inner.ReplyMatches.{AreAlikeBelow, AreAlike, AllAlike}
use Rattle.er_settle.proofs.OrderLemmas.{in_filter, in_place, one_ticket, mapped}
use Rattle.er_settle.proofs.PairLemmas.{asks_at, ticketed_calls-skip, ticketed_calls-more, some_ticket, is_some_true, to_map, in_journal}

-- What a thread holds as its own list goes by.

pub step_at : (t : ℕ) (calls : List Call) (k : ℕ) (c : Call) → slice_get calls k ≡ Some c → slice_get (steps_by t (events_in calls)) k ≡ Some (record { thread = t; event = c.event })
step_at t calls k c here = to_map (λ (e : Event). record { thread = t; event = e }) (events_in calls) k c.event (to_map (λ (x : Call). x.event) calls k c here)

pub holdings-start : (t : ℕ) (calls : List Call) → holdings_by t calls 0 ≡ nothing_held
unfolding accepted
holdings-start t calls = holdings-empty t

own_step : (h : Holdings) (t : ℕ) (e : Event) → after_step h t (record { thread = t; event = e }) ≡ changed_unless (refused_by h e) h e
own_step h t e = rw (eq-eqb t t refl) refl

pub holdings-next : (t : ℕ) (calls : List Call) (k : ℕ) (c : Call) → slice_get calls k ≡ Some c →
    holdings_by t calls (k + 1) ≡ changed_unless (refused_by (holdings_by t calls k) c.event) (holdings_by t calls k) c.event
holdings-next t calls k c here =
    let n : k + 1 ≡ suc k = omega arith in
    rw n (holdings-step (steps_by t (events_in calls)) k (record { thread = t; event = c.event }) t (step_at t calls k c here) ∙ own_step (holdings_by t calls k) t c.event)

-- The entry that a call meets.

pub met : (calls : List Call) (group : List EntryAt) (k : ℕ) (c : Call) → ticketed_calls calls ≡ ticketed_entries group → slice_get calls k ≡ Some c → is_some c.ticket ≡ true →
    (d : EntryAt) × (slice_get group (length (ticketed_calls (take k calls))) ≡ Some d) × (c.ticket ≡ Some d.entry.ticket) × (c.event ≡ event_of d.entry.what)
met calls group k c same here some =
    let t = some_ticket c.ticket some in
    let asked : slice_get (ticketed_calls calls) (length (ticketed_calls (take k calls))) ≡ Some (c.ticket, c.event) = asks_at calls k t.0 c here t.1 in
    let x = mapped {B = Option ℕ × Event} (λ (d : EntryAt). (Some d.entry.ticket, event_of d.entry.what)) group (length (ticketed_calls (take k calls))) (c.ticket, c.event) (rw same at asked) in
    (x.0, x.1, ap (λ (w : Option ℕ × Event). w.0) (sym x.2), ap (λ (w : Option ℕ × Event). w.1) (sym x.2))

one_of : (o : Option EntryAt) (d e : EntryAt) → o ≡ Some d → o ≡ Some e → d ≡ e
one_of o d e first second = let both : Some d ≡ Some e = sym first ∙ second in cc

pub met-event : (calls : List Call) (group : List EntryAt) (k : ℕ) (c : Call) (d : EntryAt) → ticketed_calls calls ≡ ticketed_entries group → slice_get calls k ≡ Some c → is_some c.ticket ≡ true → slice_get group (length (ticketed_calls (take k calls))) ≡ Some d →
    c.event ≡ event_of d.entry.what
met-event calls group k c d same here some there =
    let m = met calls group k c same here some in
    m.3 ∙ ap (λ (x : EntryAt). event_of x.entry.what) (one_of (slice_get group (length (ticketed_calls (take k calls)))) m.0 d m.1 there)

pub met-within : (calls : List Call) (group : List EntryAt) (k : ℕ) (c : Call) → ticketed_calls calls ≡ ticketed_entries group → slice_get calls k ≡ Some c → is_some c.ticket ≡ true → length (ticketed_calls (take k calls)) < length group
met-within calls group k c same here some = let m = met calls group k c same here some in slice_get_within group (length (ticketed_calls (take k calls))) m.0 m.1

-- One more call.

no_ticket : (o : Option ℕ) → is_some o ≡ false → o ≡ None
no_ticket None h = refl
no_ticket (Some t) h = absurd (cc)

one_call : (calls : List Call) (j k : ℕ) (c d : Call) → j ≡ k → slice_get calls j ≡ Some c → slice_get calls k ≡ Some d → c ≡ d
one_call calls j k c d same hc hd = let both : Some c ≡ Some d = sym hc ∙ (ap (slice_get calls) same ∙ hd) in cc

module _ (s : SeatList) (group : List EntryAt) (k : ℕ) (c : Call) (here : slice_get s.calls k ≡ Some c) (old : AreAlikeBelow k s group) where
  pub alike-skip : is_some c.ticket ≡ false → AreAlikeBelow (k + 1) s group
  alike-skip bare = let none = no_ticket c.ticket bare in record {
    each = λ j x d below h some there. elim (cases_order j k) [
      | inl same ↦ absurd (let e = one_call s.calls j k x c same h here in let gone : x.ticket ≡ None = ap (λ (y : Call). y.ticket) e ∙ none in let has = rw gone at some in cc)
      | inr other ↦ elim other [ inl less ↦ old.each j x d less h some there | inr more ↦ absurd (omega arith) ]
    ];
  }

  pub alike-more : (d : EntryAt) → slice_get group (length (ticketed_calls (take k s.calls))) ≡ Some d → IsAnswered s k c d.entry → AreAlikeBelow (k + 1) s group
  alike-more d next alike = record {
    each = λ j x e below h some there. elim (cases_order j k) [
      | inl same ↦ (
          let call : x ≡ c = one_call s.calls j k x c same h here in
          let entry : e ≡ d = one_of (slice_get group (length (ticketed_calls (take k s.calls)))) e d (rw same at there) next in
          rw (same, call, entry) alike)
      | inr other ↦ elim other [ inl less ↦ old.each j x e less h some there | inr more ↦ absurd (omega arith) ]
    ];
  }

pub not-alike : (s : SeatList) (group : List EntryAt) (k : ℕ) (c : Call) (d : EntryAt) (t : ℕ) (h : Holdings) (e : Entry) → slice_get s.calls k ≡ Some c → is_some c.ticket ≡ true → slice_get group (length (ticketed_calls (take k s.calls))) ≡ Some d → t ≡ s.thread → h ≡ holdings_by s.thread s.calls k → e ≡ d.entry → Not (IsAlike h t c e) → Not (AreAlike s group)
not-alike s group k c d t h e here some there thread held entry other all = other (rw (thread, held, entry) (all.each k c d (slice_get_within s.calls k c here) here some there))

pub alike-none : (s : SeatList) (group : List EntryAt) → AreAlikeBelow 0 s group
alike-none s group = record { each = λ j c d below h some there. absurd (omega arith) }

pub some-count : (calls : List Call) (k : ℕ) (c : Call) (at : ℕ) → slice_get calls k ≡ Some c → is_some c.ticket ≡ true → at ≡ length (ticketed_calls (take k calls)) → at + 1 ≡ length (ticketed_calls (take (k + 1) calls))
some-count calls k c at here some is =
    let t = some_ticket c.ticket some in
    rw (ticketed_calls-more calls k t.0 c here t.1) (let e = length-append (ticketed_calls (take k calls)) ((c.ticket, c.event) ∷ []) in omega (arith, e, is))

pub none-count : (calls : List Call) (k : ℕ) (c : Call) (at : ℕ) → slice_get calls k ≡ Some c → is_some c.ticket ≡ false → at ≡ length (ticketed_calls (take k calls)) → at ≡ length (ticketed_calls (take (k + 1) calls))
none-count calls k c at here none is = rw (ticketed_calls-skip calls k c here (no_ticket c.ticket none)) is

pub group-read : (seats : List SeatList) (order : List EntryAt) (groups : List (List EntryAt)) (k : ℕ) (s : SeatList) (group : List EntryAt) → AreGrouped seats order groups → slice_get seats k ≡ Some s → group ≡ get_or groups k group → group ≡ entries_by s.thread order
group-read seats order groups k s group dealt here is =
    let there = dealt.each k s here in
    let within = slice_get_within groups k (entries_by s.thread order) there in
    let got : slice_get groups k ≡ Some group = slice_get_read groups (length groups) k group refl within is in
    let both : Some group ≡ Some (entries_by s.thread order) = sym got ∙ there in
    cc

-- Pairs are answered alike exactly where calls and the entries that they meet are.

module _ (seats : List SeatList) (journals : List (List Entry)) (order : List EntryAt) (is : IsOrder journals order) where
  pub alike-answered : AllAgree seats order → AllAlike seats order → AreAnswered seats journals
  alike-answered agree alike i s j c p k e call entry pair =
      let some : is_some c.ticket ≡ true = is_some_true c.ticket e.ticket pair.ticket in
      let m = met s.calls (entries_by s.thread order) j c (agree i s call.0) call.1 some in
      let a = in_place journals order p k e is entry in
      let b = in_filter (λ (x : EntryAt). x.entry.thread == s.thread) order (length (ticketed_calls (take j s.calls))) m.0 m.1 in
      let tickets : Some m.0.entry.ticket ≡ Some a.1.entry.ticket = sym m.2 ∙ (pair.ticket ∙ ap (λ (x : Entry). Some x.ticket) (sym a.4)) in
      let one : m.0 ≡ a.1 = one_ticket order b.0 a.0 m.0 a.1 is.rise b.1 a.2 (let t : m.0.entry.ticket ≡ a.1.entry.ticket = cc in t) in
      let whole : m.0.entry ≡ e = ap (λ (x : EntryAt). x.entry) one ∙ a.4 in
      rw (← whole) ((alike i s call.0).each j c m.0 (slice_get_within s.calls j c call.1) call.1 some m.1)

  pub answered-alike : AreInTurn seats journals order → AreAnswered seats journals → AllAlike seats order
  answered-alike turn answered i s seat = record {
    each = λ j c d below call some there.
        let m = met s.calls (entries_by s.thread order) j c (turn.turn i s seat) call some in
        let one : m.0 ≡ d = one_of (slice_get (entries_by s.thread order) (length (ticketed_calls (take j s.calls)))) m.0 d m.1 there in
        let b = in_filter (λ (x : EntryAt). x.entry.thread == s.thread) order (length (ticketed_calls (take j s.calls))) d there in
        let z = in_journal journals order b.0 d is b.1 in
        answered i s j c d.place z.0 d.entry (seat, call) z.1 (record {
          ticket = m.2 ∙ ap (λ (x : EntryAt). Some x.entry.ticket) one;
          thread = sym (eqb-true d.entry.thread s.thread b.2);
          event = m.3 ∙ ap (λ (x : EntryAt). event_of x.entry.what) one;
          place = turn.placed b.0 d b.1;
        });
  }

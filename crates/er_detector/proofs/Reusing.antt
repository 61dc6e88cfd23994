-- A reuse that has done one page more.
use Rattle.std.proofs.Common.{◌≡◌, ◌∙◌, ℕ, ◌+◌, List, [], ◌∷◌, ◌++◌, refl, sym, ap, append_assoc, append-nil}
use Rattle.std.specs.Prelude.{IsSome}
use Rattle.std.proofs.Math.Numerals.{add-one}
use Rattle.std.proofs.lemmas.List.{map-append}
use Rattle.std.proofs.lemmas.List.Elements.{All-nil, All-push}
use Rattle.er_event.specs.declared.addresses.PageRange.{PageRange}
use Rattle.er_event.specs.declared.steps.Event.{Event}
use Rattle.er_event.specs.declared.steps.Event.TheVariants.{Reuse}
use Rattle.er_event.specs.declared.steps.Reply.TheVariants.{Done}
use Rattle.er_event.specs.Span.{Span, part_of, parts_below}
use Rattle.er_journal.specs.Entries.{Call}
use Rattle.er_settle.specs.Seats.{SeatList}
use Rattle.er_seat.specs.Seats.{with_call, ticketed}
use Rattle.er_detector.specs.Calls.{IsReused, HasReused}

-- before the first page
pub reused-none : (seat : SeatList) (span : Span) → HasReused seat seat (parts_below span 0)
unfolding parts_below
reused-none seat span = record {
  more = [];
  grown = ap (λ (calls : List Call). record seat { calls = calls }) (sym (append-nil seat.calls));
  events = refl;
  done = All-nil (λ call. (call.reply ≡ Done) × IsSome call.ticket);
}

-- and after one page more
pub reused-more : (seat mid next : SeatList) (span : Span) (n ticket : ℕ) → HasReused seat mid (parts_below span n) → IsReused mid next (part_of span n) ticket
    → HasReused seat next (parts_below span (n + 1))
unfolding parts_below with_call
reused-more seat mid next span n ticket far grown = rw add-one
    (let call = ticketed (Reuse (part_of span n)) ticket Done in
    record {
      more = far.more ++ call ∷ [];
      grown = grown ∙ (ap (λ (s : SeatList). record s { calls = s.calls ++ call ∷ [] }) far.grown
          ∙ ap (λ (calls : List Call). record seat { calls = calls }) (append_assoc seat.calls far.more (call ∷ [])));
      events = map-append (λ (c : Call). c.event) far.more (call ∷ [])
          ∙ (ap (λ (es : List Event). es ++ Reuse (part_of span n) ∷ []) far.events ∙ sym (map-append Reuse (parts_below span n) (part_of span n ∷ [])));
      done = All-push (λ c. (c.reply ≡ Done) × IsSome c.ticket) far.more call far.done (refl, refl);
    })

-- the seat stays whose it is
pub reused-name : (seat next : SeatList) (parts : List PageRange) → HasReused seat next parts → next.name ≡ seat.name
reused-name seat next parts reused = ap (λ (s : SeatList). s.name) reused.grown

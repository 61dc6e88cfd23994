-- A seat that made calls, and then some more.
use Rattle.std.proofs.Common.{inl, inr, ◌≡◌, ◌∙◌, ℕ, ◌<◌, List, [], ◌∷◌, ◌++◌, refl, sym, ap, arith, append_assoc, append-nil, take, get_or, length, ◌+◌}
use Rattle.std.specs.Prelude.{Result, Ok, Err, IfOk, OnOk}
use Rattle.std.proofs.lemmas.Bool.{cases_lt}
use Rattle.std.proofs.lemmas.List.{map-append, take_more}
use Rattle.er_event.specs.declared.steps.Event.{Event}
use Rattle.er_journal.specs.Entries.{Call}
use Rattle.er_journal.specs.Merges.{events_in}
use Rattle.er_event.specs.declared.refusals.Refusal.{Refusal}
use Rattle.er_event.specs.declared.steps.Event.TheVariants.{Access}
use Rattle.er_event.specs.declared.steps.Kind.{Kind}
use Rattle.er_event.specs.declared.steps.Reply.{Reply}
use Rattle.er_settle.specs.Seats.{SeatList}
use Rattle.er_seat.specs.Seats.{with_call, holdings_of, ticketed, ignored}
use Rattle.er_detector.specs.Calls.{IsListed, IsIgnored}
use Rattle.er_load.specs.declared.runner.Action.{Action}
use Rattle.er_load.specs.Inner.Progress.{HasMade}
use Rattle.er_load.specs.Inner.Scripts.{events_by, events_in_all}
use Rattle.er_event.proofs.Results.{on_ok}
use Rattle.er_load.proofs.ScriptLemmas.{events-push}

-- no call
pub made-none : (seat : SeatList) → HasMade seat seat []
made-none seat = record { name = refl; thread = refl; events = sym (append-nil (events_in seat.calls)) }

-- these calls
pub made-calls : (seat next : SeatList) (more : List Call) (es : List Event) → next ≡ record seat { calls = seat.calls ++ more } → events_in more ≡ es → HasMade seat next es
made-calls seat next more es grown are = record {
  name = ap (λ (s : SeatList). s.name) grown;
  thread = ap (λ (s : SeatList). s.thread) grown;
  events = ap (λ (s : SeatList). events_in s.calls) grown ∙ (map-append (λ (c : Call). c.event) seat.calls more ∙ ap (λ (fs : List Event). events_in seat.calls ++ fs) are);
}

-- one call
pub made-call : (seat next : SeatList) (call : Call) (e : Event) → next ≡ with_call seat call → call.event ≡ e → HasMade seat next (e ∷ [])
unfolding with_call
made-call seat next call e grown is = made-calls seat next (call ∷ []) (e ∷ []) grown (ap (λ (f : Event). f ∷ []) is)

-- some calls, and then some more
pub made-more : (seat mid next : SeatList) (es fs : List Event) → HasMade seat mid es → HasMade mid next fs → HasMade seat next (es ++ fs)
made-more seat mid next es fs far then = record {
  name = then.name ∙ far.name;
  thread = then.thread ∙ far.thread;
  events = then.events ∙ (ap (λ (gs : List Event). gs ++ fs) far.events ∙ append_assoc (events_in seat.calls) es fs);
}

-- one call, where it was accepted
pub ok-made : {T : Type 0} (r : Result T Refusal) (seat next : SeatList) (call : Call) (e : Event) → OnOk r (next ≡ with_call seat call) → call.event ≡ e → OnOk r (HasMade seat next (e ∷ []))
ok-made r seat next call e ok is = on_ok r _ _ ok (λ grown. made-call seat next call e grown is)

-- an access, counted or in a bracket
pub accessed : (r : Result Reply Refusal) (seat next : SeatList) (word : ℕ) (kind : Kind)
    → ((holdings_of seat).depth ≡ 0 → IfOk r (λ reply. (ticket : ℕ) × IsListed seat next word kind 0 ticket reply))
    → (0 < (holdings_of seat).depth → OnOk r (IsIgnored seat next word kind 0)) → OnOk r (HasMade seat next (Access kind word 0 ∷ []))
accessed (Ok reply) seat next word kind counted listed = elim (cases_lt 0 (holdings_of seat).depth) [
  | inl deep ↦ made-call seat next (ignored (Access kind word 0)) (Access kind word 0) (listed deep) refl
  | inr none ↦ (let there = counted (omega arith) in made-call seat next (ticketed (Access kind word 0) there.0 reply) (Access kind word 0) there.1 refl)
]
accessed (Err e) seat next word kind counted listed = tt

-- the calls of a script so far, and of one action more
pub scripted-none : (seat : SeatList) → HasMade seat seat (events_in_all [])
unfolding events_in_all
scripted-none seat = made-none seat

pub scripted-more : (seat mid next : SeatList) (script : List Action) (k : ℕ) (d x : Action) → HasMade seat mid (events_in_all (take k script)) → k < length script → x ≡ get_or script k d → HasMade mid next (events_by x)
    → HasMade seat next (events_in_all (take (k + 1) script))
scripted-more seat mid next script k d x far below is made =
    let more : take (k + 1) script ≡ take k script ++ x ∷ [] = take_more script k d below ∙ ap (λ (y : Action). take k script ++ y ∷ []) (sym is) in
    let all : events_in_all (take (k + 1) script) ≡ events_in_all (take k script) ++ events_by x = ap events_in_all more ∙ events-push (take k script) x in
    rw all (made-more seat mid next (events_in_all (take k script)) (events_by x) far made)

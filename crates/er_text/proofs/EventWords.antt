-- The words that every event line begins with.
use Rattle.std.proofs.Common.{◌≡◌, ℕ, Bool, true, false, ◌&&◌, List, codes, refl}
use Rattle.std.specs.Str.{bytes_eq}
use Rattle.er_event.specs.declared.steps.Kind.TheVariants as kind
use Rattle.er_event.specs.declared.steps.Mode.TheVariants as mode
use Rattle.er_text.specs.declared.verbs.Version.{Version}
use Rattle.er_lines.specs.Lines.{has_bytes, word_at}
use Rattle.er_text.specs.Verbs.{is_third}
use Rattle.er_text.specs.Events.{Operation, Acquires, Releases, Accesses, Reuses, IgnoresOn, IgnoresOff, Shows, Levels, Starts, Joins, Signals, Awaits}
use Rattle.er_text.specs.Trace.{IsOperation, is_end}

-- the first two words of an event line
pub event_words : (v : Version) (ws : List (List ℕ)) (t : List ℕ) (d : Operation) → IsOperation v ws t d → (word_at 0 ws ≡ t) × (has_bytes (word_at 1 ws) ≡ true)
event_words v ws t (Acquires lock mode.Write) is = rw is.0 (refl, refl)
event_words v ws t (Acquires lock mode.Read) is = rw is.0 (refl, refl)
event_words v ws t (Releases lock mode.Write) is = rw is.0 (refl, refl)
event_words v ws t (Releases lock mode.Read) is = rw is.0 (refl, refl)
event_words v ws t (Accesses kind.Read w site) is = rw is.3 (refl, refl)
event_words v ws t (Accesses kind.Write w site) is = rw is.3 (refl, refl)
event_words v ws t (Reuses run site) is = rw is.5 (refl, refl)
event_words v ws t IgnoresOn is = rw is (refl, refl)
event_words v ws t IgnoresOff is = rw is (refl, refl)
event_words v ws t (Shows w) is = rw is.2 (refl, refl)
event_words v ws t (Levels n) is = rw is.1 (refl, refl)
event_words v ws t (Starts other) is = rw is.0 (refl, refl)
event_words v ws t (Joins other) is = rw is.0 (refl, refl)
event_words v ws t (Signals object) is = rw is.0 (refl, refl)
event_words v ws t (Awaits object) is = rw is.0 (refl, refl)

no_end : (third ended : Bool) → (third && ended && false) ≡ false
no_end true true = refl
no_end true false = refl
no_end false ended = refl

-- an event line is not the line `end`
pub not_end : (v : Version) (ws : List (List ℕ)) (t : List ℕ) (d : Operation) → IsOperation v ws t d → is_end v ws ≡ false
not_end v ws t d is = let some = (event_words v ws t d is).1 in rw some (no_end (is_third v) (bytes_eq (word_at 0 ws) (codes "end")))

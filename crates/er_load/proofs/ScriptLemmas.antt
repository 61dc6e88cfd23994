-- The events of a script that grows.
use Rattle.std.proofs.Common.{◌≡◌, ◌∙◌, ℕ, ◌+◌, List, [], ◌∷◌, ◌++◌, refl, sym, ap, append_assoc, append-nil}
use Rattle.std.proofs.Math.Numerals.{add-one}
use Rattle.er_event.specs.declared.steps.Event.{Event}
use Rattle.er_event.specs.declared.steps.Kind.{Kind}
use Rattle.er_load.specs.declared.runner.Action.{Action}
use Rattle.er_load.specs.declared.runner.Action.TheVariants.{Access}
use Rattle.er_load.specs.Inner.Scripts.{events_by, events_in_all}
use Rattle.er_load.specs.Workloads.{times, each_word, access}

pub events-append : (xs ys : List Action) → events_in_all (xs ++ ys) ≡ events_in_all xs ++ events_in_all ys
unfolding events_in_all
events-append [] ys = refl
events-append (x ∷ xs) ys = ap (λ (es : List Event). events_by x ++ es) (events-append xs ys) ∙ sym (append_assoc (events_by x) (events_in_all xs) (events_in_all ys))

one-event : (x : Action) → events_in_all (x ∷ []) ≡ events_by x
unfolding events_in_all
one-event x = append-nil (events_by x)

pub events-push : (xs : List Action) (x : Action) → events_in_all (xs ++ x ∷ []) ≡ events_in_all xs ++ events_by x
events-push xs x = events-append xs (x ∷ []) ∙ ap (λ (es : List Event). events_in_all xs ++ es) (one-event x)

pub times-none : (es round : List Event) → es ≡ es ++ times 0 round
unfolding times
times-none es round = sym (append-nil es)

pub times-more : (old mid now round : List Action) (n : ℕ) → events_in_all mid ≡ events_in_all old ++ times n (events_in_all round) → now ≡ mid ++ round
    → events_in_all now ≡ events_in_all old ++ times (n + 1) (events_in_all round)
unfolding times
times-more old mid now round n far grown = rw add-one
    (ap events_in_all grown ∙ (events-append mid round ∙ (ap (λ (es : List Event). es ++ events_in_all round) far ∙ append_assoc (events_in_all old) (times n (events_in_all round)) (events_in_all round))))

pub words-none : (es : List Event) (kind : Kind) (first : ℕ) → es ≡ es ++ each_word kind first 0
unfolding each_word
words-none es kind first = sym (append-nil es)

pub words-more : (old mid now : List Action) (kind : Kind) (first n : ℕ) → events_in_all mid ≡ events_in_all old ++ each_word kind first n → now ≡ mid ++ Access kind (first + n) ∷ []
    → events_in_all now ≡ events_in_all old ++ each_word kind first (n + 1)
unfolding each_word
words-more old mid now kind first n far grown = rw add-one
    (ap events_in_all grown ∙ (events-push mid (Access kind (first + n)) ∙ (ap (λ (es : List Event). es ++ access kind (first + n) ∷ []) far ∙ append_assoc (events_in_all old) (each_word kind first n) (access kind (first + n) ∷ []))))

-- a script that begins with nothing
pub from-none : (none script : List Action) (es : List Event) → none ≡ [] → events_in_all script ≡ events_in_all none ++ es → events_in_all script ≡ es
unfolding events_in_all
from-none none script es empty grown = grown ∙ ap (λ (xs : List Action). events_in_all xs ++ es) empty

-- a script that grows and then ends with one action
pub and-one : (old mid now : List Action) (x : Action) (es : List Event) → events_in_all mid ≡ events_in_all old ++ es → now ≡ mid ++ x ∷ [] → events_in_all now ≡ events_in_all old ++ (es ++ events_by x)
and-one old mid now x es grown is =
    ap events_in_all is ∙ (events-push mid x ∙ (ap (λ (fs : List Event). fs ++ events_by x) grown ∙ append_assoc (events_in_all old) es (events_by x)))

-- or grows between two
pub around : (old one mid now : List Action) (x y : Action) (es : List Event) → one ≡ old ++ x ∷ [] → events_in_all mid ≡ events_in_all one ++ es → now ≡ mid ++ y ∷ []
    → events_in_all now ≡ events_in_all old ++ (events_by x ++ (es ++ events_by y))
around old one mid now x y es first grown last =
    let begun : events_in_all one ≡ events_in_all old ++ events_by x = ap events_in_all first ∙ events-push old x in
    and-one one mid now y es grown last ∙ (ap (λ (fs : List Event). fs ++ (es ++ events_by y)) begun ∙ append_assoc (events_in_all old) (events_by x) (es ++ events_by y))

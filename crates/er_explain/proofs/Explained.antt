-- The explanation by the searches is the one that the model's law finds.
use Rattle.std.proofs.Common.{◌≡◌, ℕ, suc, List, [], ◌∷◌, All, map, slice_get, Option, Some, None, Result, Ok, Err, refl, sym, ◌∙◌, ap, Bool, true, false, cond}
use Rattle.std.proofs.lemmas.List.Elements.{All-head, All-tail}
use Rattle.er_event.proofs.LocksetLemmas.{same-rising}
use Rattle.er_event.specs.Lockset.{IsRising, has}
use Rattle.er_event.specs.declared.refusals.Refusal.{Refusal}
use Rattle.er_event.specs.declared.steps.Reply.{Reply}
use Rattle.er_event.specs.declared.steps.Reply.TheVariants.{Done, Quiet, Race, Ignored, State}
use Rattle.er_event.specs.declared.steps.Step.{Step}
use Rattle.er_model.specs.Answers.{answer, reading_of}
use Rattle.er_model.specs.Explanations.{Explanation, first_write, first_uncovered, locks_listed, ExplainsAccess, Explains, word_of}
use Rattle.er_model.specs.Words.{Reading, cover_of, first, join}
use Rattle.er_model.proofs.Explanations.{listed-rising, race-rising, rising-cover}
use Rattle.er_explain.specs.Explaining.{found, explanation_by, explanation_of, explanation_where, explanation_at}

-- pairs that are each what a search found are those searches
pairs-found : (f : ℕ → Option ℕ) (xs : List (ℕ × ℕ)) → All (λ x. f x.0 ≡ Some x.1) xs → map (λ l. (l, found (f l))) (locks_listed xs) ≡ xs
pairs-found f [] all = refl
pairs-found f (x ∷ xs) all =
    let here : found (f x.0) ≡ x.1 = ap found (All-head (λ y. f y.0 ≡ Some y.1) x xs all) in
    let rest : map (λ l. (l, found (f l))) (locks_listed xs) ≡ xs = pairs-found f xs (All-tail (λ y. f y.0 ≡ Some y.1) x xs all) in
    λ i. (x.0, here i) ∷ rest i

counted-same : (a b : Bool) → cond a 1 0 ≡ cond {A = ℕ} b 1 0 → a ≡ b
counted-same true true e = refl
counted-same true false e = cc
counted-same false true e = cc
counted-same false false e = refl

-- an explanation whose locks rise lists those of the joining
pub listed-cover : (r : Reading) (w k : ℕ) (e : Explanation) → ((i : ℕ) → IsRising (cover_of (r i))) → ExplainsAccess r w e k → IsRising (locks_listed e.uncovered) →
    locks_listed e.uncovered ≡ cover_of (r e.join)
listed-cover r w k e rises is up =
    same-rising (locks_listed e.uncovered) (cover_of (r e.join)) up (rises e.join)
    (λ l. counted-same (has (locks_listed e.uncovered) l) (has (cover_of (r e.join)) l) (sym (listed-rising e.uncovered l up) ∙ is.each_once l))

pub explanation-is : (r : Reading) (w k : ℕ) (e : Explanation) → ((i : ℕ) → IsRising (cover_of (r i))) → ExplainsAccess r w e k → IsRising (locks_listed e.uncovered) →
    explanation_of r w k ≡ e
unfolding explanation_of explanation_by
explanation-is r w k e rises is up =
    let same_first : found (first r w (suc k)) ≡ e.first = ap found is.is_first in
    let same_join : found (join r w (suc k)) ≡ e.join = ap found is.is_join in
    let same_write : found (first_write r w (suc k) e.join) ≡ e.write = ap found is.is_write in
    let locks : locks_listed e.uncovered ≡ cover_of (r e.join) = listed-cover r w k e rises is up in
    let pairs : map (λ l. (l, found (first_uncovered r w (suc k) e.join l))) (cover_of (r e.join)) ≡ e.uncovered =
    rw locks at (pairs-found (first_uncovered r w (suc k) e.join) e.uncovered is.uncovers) in
    rw same_join (λ i. record { first = same_first i; join = e.join; write = same_write i; uncovered = pairs i })

found-word : (o : Option ℕ) (w : ℕ) → o ≡ Some w → found o ≡ w
found-word o w is = ap found is

-- the explanation of a step that is answered with a race
pub race-explanation : (steps : List Step) (k : ℕ) → answer steps k ≡ Ok Race → (e : Explanation) × (explanation_at steps k ≡ Some e) × Explains steps e k × IsRising (locks_listed e.uncovered)
unfolding explanation_at
race-explanation steps k race =
    let known = race-rising steps k race in
    let w = known.1.0 in
    let word : found (word_of (slice_get steps k)) ≡ w = found-word (word_of (slice_get steps k)) w known.1.1 in
    (known.0, rw (race, word) (ap Some (explanation-is (reading_of steps) w k known.0 (rising-cover steps) known.1.2 known.2)), known.1, known.2)

-- a step with an explanation is a race
where-race : (steps : List Step) (k : ℕ) (a : Result Reply Refusal) (e : Explanation) → explanation_where steps k a ≡ Some e → a ≡ Ok Race
where-race steps k (Ok Race) e is = refl
where-race steps k (Ok Done) e is = cc
where-race steps k (Ok Quiet) e is = cc
where-race steps k (Ok Ignored) e is = cc
where-race steps k (Ok (State state)) e is = cc
where-race steps k (Err why) e is = cc

some-same : (e f : Explanation) → Some e ≡ Some f → e ≡ f
some-same e f is = cc

pub explained-at : (steps : List Step) (k : ℕ) (e : Explanation) → explanation_at steps k ≡ Some e → Explains steps e k × IsRising (locks_listed e.uncovered)
explained-at steps k e is =
    let known = race-explanation steps k (where-race steps k (answer steps k) e (unfold explanation_at in is)) in
    let same : known.0 ≡ e = some-same known.0 e (sym known.1 ∙ is) in
    (rw same at known.2, rw same at known.3)

pub unexplained-at : (steps : List Step) (k : ℕ) → explanation_at steps k ≡ None → answer steps k ≡ Ok Race → ⊥
unexplained-at steps k none race =
    let known = race-explanation steps k race in
    let never : None ≡ Some known.0 = sym none ∙ known.1 in cc

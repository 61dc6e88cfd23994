-- A thread's own list says of its locks and its own calls what the whole list says.
use Rattle.std.proofs.Common.{◌≡◌, ℕ, zero, suc, ◌<◌, ◌≤◌, ◌==◌, Bool, true, false, cond, List, [], ◌∷◌, ◌++◌, append-nil, append_assoc, length, slice_get, Option, Some, None, refl, ap, sym, ◌∙◌, arith, ⊎_elim}
use Rattle.std.proofs.lemmas.Bool.{eq-eqb}
use Rattle.er_event.specs.declared.steps.Event.{Event}
use Rattle.er_event.specs.declared.steps.Event.TheVariants.{Acquire, Release, Access, Reuse, IgnoreOn, IgnoreOff, Show, Level, Sync}
use Rattle.er_event.specs.declared.steps.Step.{Step}
use Rattle.er_event.specs.declared.steps.WordState.{WordState}
use Rattle.er_model.specs.Holdings.{Holdings, holdings_at, holdings_end, refused_by}
use Rattle.er_model.specs.Answers.{answer, answer_unless, state_at}
use Rattle.er_model.specs.Following.{replied}
use Rattle.er_model.specs.Locality.{event_by, events_of, steps_by, is_own_call}
use Rattle.er_model.proofs.Search.{below_or_at}
use Rattle.er_model.proofs.AnswersLemmas.{answer-step}
use Rattle.er_model.proofs.Locality.{holdings-local}
use Rattle.er_event.proofs.Lists.{get_front, length_push}

map-more : (t : ℕ) (xs ys : List Event) → steps_by t (xs ++ ys) ≡ steps_by t xs ++ steps_by t ys
map-more t [] ys = refl
map-more t (x ∷ xs) ys = rw (map-more t xs ys) refl

length-by : (t : ℕ) (xs : List Event) → length (steps_by t xs) ≡ length xs
length-by t [] = refl
length-by t (x ∷ xs) = ap suc (length-by t xs)

by_before : (t : ℕ) (xs ys : List Event) (k : ℕ) → k < length xs → slice_get (steps_by t (xs ++ ys)) k ≡ slice_get (steps_by t xs) k
by_before t xs ys k below = rw (map-more t xs ys) (get_front (steps_by t xs) (steps_by t ys) k (omega (arith, length-by t xs)))

by_last : (t : ℕ) (xs : List Event) (e : Event) → slice_get (steps_by t (xs ++ e ∷ [])) (length xs) ≡ Some (record { thread = t; event = e })
by_last t [] e = refl
by_last t (x ∷ xs) e = by_last t xs e

events-agree : (steps others : List Step) (t n : ℕ) → ((k : ℕ) → k < n → slice_get steps k ≡ slice_get others k) → events_of steps t n ≡ events_of others t n
unfolding events_of
events-agree steps others t zero same = refl
events-agree steps others t (suc n) same = rw (events-agree steps others t n (λ k below. same k (omega arith)), same n (omega arith)) refl

module _ (steps : List Step) (t : ℕ) where
  pub events-mine : (k : ℕ) (s : Step) → slice_get steps k ≡ Some s → (s.thread == t) ≡ true → events_of steps t (suc k) ≡ events_of steps t k ++ s.event ∷ []
  unfolding events_of
  events-mine k s is own = rw (is, own) refl

  pub events-front : (k n : ℕ) → k ≤ n → (rest : List Event) × (events_of steps t n ≡ events_of steps t k ++ rest)
  unfolding events_of
  events-front k zero below = let same : k ≡ 0 = omega arith in ([], rw same refl)
  events-front k (suc n) below =
      ⊎_elim
      (λ before.
      let front = events-front k n (omega arith) in
      (front.0 ++ event_by t (slice_get steps n), rw front.1 (rw append_assoc refl)))
      (λ here. ([], rw here (sym (append-nil (events_of steps t (suc n))))))
      (below_or_at k (suc n) (omega arith))

  -- the events of a list of the thread's own events are these events
  itself_own : (k : ℕ) (s : Step) (b : Bool) → slice_get steps k ≡ Some s → (s.thread == t) ≡ b →
      events_of (steps_by t (events_of steps t k)) t (length (events_of steps t k)) ≡ events_of steps t k →
      events_of (steps_by t (events_of steps t k ++ cond b (s.event ∷ []) [])) t (length (events_of steps t k ++ cond b (s.event ∷ []) [])) ≡ events_of steps t k ++ cond b (s.event ∷ []) []
  unfolding events_of
  itself_own k s true is mine before =
      let xs = events_of steps t k in
      rw (length_push xs s.event)
      (rw (events-agree (steps_by t (xs ++ s.event ∷ [])) (steps_by t xs) t (length xs) (λ i low. by_before t xs (s.event ∷ []) i low), before, by_last t xs s.event)
      (rw (eq-eqb t t refl) refl))
  itself_own k s false is other before = rw (append-nil (events_of steps t k)) before

  itself_by : (k : ℕ) (o : Option Step) → slice_get steps k ≡ o →
      events_of (steps_by t (events_of steps t k)) t (length (events_of steps t k)) ≡ events_of steps t k →
      events_of (steps_by t (events_of steps t k ++ event_by t o)) t (length (events_of steps t k ++ event_by t o)) ≡ events_of steps t k ++ event_by t o
  itself_by k None is before = rw (append-nil (events_of steps t k)) before
  itself_by k (Some s) is before = itself_own k s (s.thread == t) is refl before

  events-itself : (k : ℕ) → events_of (steps_by t (events_of steps t k)) t (length (events_of steps t k)) ≡ events_of steps t k
  unfolding events_of
  events-itself zero = refl
  events-itself (suc k) = itself_by k (slice_get steps k) refl (events-itself k)

  pub events-within : (k n : ℕ) → k ≤ n → events_of (steps_by t (events_of steps t n)) t (length (events_of steps t k)) ≡ events_of steps t k
  events-within k n below =
      let front = events-front k n below in
      let xs = events_of steps t k in
      rw front.1
      (events-agree (steps_by t (xs ++ front.0)) (steps_by t xs) t (length xs) (λ i low. by_before t xs front.0 i low) ∙ events-itself k)

  pub holdings-own_list : (n : ℕ) → holdings_end (steps_by t (events_of steps t n)) t ≡ holdings_at steps t n
  holdings-own_list n =
      rw (length-by t (events_of steps t n))
      (holdings-local (steps_by t (events_of steps t n)) steps t (length (events_of steps t n)) n (events-itself n))

replied-own : (h : Holdings) (f g : ℕ → WordState) (t : ℕ) (e : Event) → is_own_call h e ≡ true → replied h f t e ≡ replied h g t e
replied-own h f g t (Access kind w site) own = rw own refl
replied-own h f g t (Show w) own = cc
replied-own h f g t (Acquire l m) own = refl
replied-own h f g t (Release l m) own = refl
replied-own h f g t (Reuse range) own = cc
replied-own h f g t IgnoreOn own = refl
replied-own h f g t IgnoreOff own = refl
replied-own h f g t (Level n) own = refl
replied-own h f g t (Sync sync) own = refl

-- a call that asks for no word is answered in the thread's own list as in the whole
pub answer-own : (steps : List Step) (k n : ℕ) (s : Step) → k < n → slice_get steps k ≡ Some s → is_own_call (holdings_at steps s.thread k) s.event ≡ true →
    answer (steps_by s.thread (events_of steps s.thread n)) (length (events_of steps s.thread k)) ≡ answer steps k
answer-own steps k n s below is own =
    let t = s.thread in
    let mine = steps_by t (events_of steps t n) in
    let place = length (events_of steps t k) in
    let front = events-front steps t (suc k) n (omega arith) in
    let xs = events_of steps t k in
    let there : slice_get mine place ≡ Some s =
    rw (front.1, events-mine steps t k s is (eq-eqb t t refl))
    (by_before t (xs ++ s.event ∷ []) front.0 (length xs) (omega (arith, length_push xs s.event)) ∙ by_last t xs s.event) in
    answer-step mine place s there
    ∙ rw (holdings-local mine steps t place k (events-within steps t k n (omega arith)))
    (ap (answer_unless (refused_by (holdings_at steps t k) s.event))
    (replied-own (holdings_at steps t k) (λ w. state_at mine w place) (λ w. state_at steps w k) t s.event own))
    ∙ sym (answer-step steps k s is)

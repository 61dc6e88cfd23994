-- Unusual answers that are put in their places among the usual ones: in the end each place has its answer.
use Rattle.std.proofs.Common.{◌≡◌, ℕ, zero, suc, ◌+◌, ◌<◌, List, [], ◌∷◌, ◌++◌, length, slice_get, set, Some, Result, refl, ap, sym, subst, ◌∙◌, arith, ⊎_elim, ◌⊎◌, inl, inr}
use Rattle.std.specs.Option.{option_map}
use Rattle.std.proofs.lemmas.List.{length-map}
use Rattle.std.proofs.lemmas.Option.{slice_get-map}
use Rattle.er_event.specs.declared.refusals.Refusal.{Refusal}
use Rattle.er_event.specs.declared.steps.Reply.{Reply}
use Rattle.er_event.specs.declared.steps.Step.{Step}
use Rattle.er_model.specs.Answers.{answer, answers}
use Rattle.er_model.proofs.Parts.{in_range}
use Rattle.er_model.proofs.Runs.{answers-length, answers-get}
use Rattle.er_parallel.specs.Crews.{AreUnusual, IsAmong, IsAnswered}
use Rattle.er_parallel.specs.Inner.Gathering.{AreRightBut, IsRight}
use Rattle.er_parallel.specs.Usual.{usual, usual_answers}
use Rattle.er_parallel.specs.declared.worker.Unusual.{Unusual}

abbrev Given : Type 0
Given = List (Result Reply Refusal)

pub get_some : {A : Type 0} (xs : List A) (k : ℕ) → k < length xs → (x : A) × (slice_get xs k ≡ Some x)
get_some [] k below = absurd (omega arith)
get_some (x ∷ xs) zero below = (x, refl)
get_some (x ∷ xs) (suc k) below = get_some xs k (omega arith)

-- a write changes one place
get_set_same : {A : Type 0} (xs : List A) (i : ℕ) (x : A) → i < length xs → slice_get (set xs i x) i ≡ Some x
get_set_same [] i x below = absurd (omega arith)
get_set_same (y ∷ ys) zero x below = refl
get_set_same (y ∷ ys) (suc i) x below = get_set_same ys i x (omega arith)

get_set : {A : Type 0} (xs : List A) (i k : ℕ) (x : A) → (slice_get (set xs i x) k ≡ slice_get xs k) ⊎ (i ≡ k)
get_set [] i k x = inl refl
get_set (y ∷ ys) zero zero x = inr refl
get_set (y ∷ ys) zero (suc k) x = inl refl
get_set (y ∷ ys) (suc i) zero x = inl refl
get_set (y ∷ ys) (suc i) (suc k) x = ⊎_elim (λ same. inl same) (λ here. inr (ap suc here)) (get_set ys i k x)

length_set : {A : Type 0} (xs : List A) (i : ℕ) (x : A) → length (set xs i x) ≡ length xs
length_set [] i x = refl
length_set (y ∷ ys) zero x = refl
length_set (y ∷ ys) (suc i) x = ap suc (length_set ys i x)

list_ext : {A : Type 0} (xs ys : List A) → length xs ≡ length ys → ((k : ℕ) → k < length ys → slice_get xs k ≡ slice_get ys k) → xs ≡ ys
list_ext [] [] same each = refl
list_ext [] (y ∷ ys) same each = absurd (omega arith)
list_ext (x ∷ xs) [] same each = absurd (omega arith)
list_ext {A = A} (x ∷ xs) (y ∷ ys) same each =
    let first : Some x ≡ Some y = each 0 (omega arith) in
    let heads : x ≡ y = cc in
    let tails : xs ≡ ys = list_ext xs ys (omega arith) (λ k below. each (suc k) (omega arith)) in
    rw (heads, tails) refl

-- the answer to a batch that nothing comes before
first_answer : (steps : List Step) (k : ℕ) → answer ([] ++ steps) (length {A = Step} [] + k) ≡ answer steps k
first_answer steps k = let same : 0 + k ≡ k = omega arith in ap (answer steps) same

-- before any item is put
pub right-usual : (steps : List Step) (items : List Unusual) → AreUnusual [] steps items → AreRightBut steps (usual_answers steps) items
right-usual steps items unusual = record {
  size = length-map steps (λ (step : Step). usual step.event);
  right = λ k below. by k (get_some steps k below);
  each = λ j item is. unusual.right j item is;
}
  where
    by : (k : ℕ) → (s : Step) × (slice_get steps k ≡ Some s) → IsRight steps (usual_answers steps) k ⊎ IsAmong items k
    by k (s, at) = ⊎_elim
        (λ usually. inl (slice_get-map (λ (step : Step). usual step.event) steps k ∙ (ap (option_map (λ (step : Step). usual step.event)) at ∙ ap Some (sym (sym (first_answer steps k) ∙ usually)))))
        (λ among. inr among) (unusual.others k s at)

-- the first of the items is put
pub item-within : (steps : List Step) (old : Given) (item : Unusual) (items : List Unusual) → AreRightBut steps old (item ∷ items) → item.at < length old
item-within steps old item items far = let first : IsAnswered [] steps item = far.each 0 item refl in rw far.size (in_range steps item.at first.step first.there)

module _ (steps : List Step) (old new : Given) (item : Unusual) (items : List Unusual) (far : AreRightBut steps old (item ∷ items)) (written : new ≡ set old item.at item.answer) where
  first : IsAnswered [] steps item
  first = far.each 0 item refl

  here_right : IsRight steps new item.at
  here_right = rw written (get_set_same old item.at item.answer (item-within steps old item items far) ∙ ap Some (first.answered ∙ first_answer steps item.at))

  still_right : (k : ℕ) → IsRight steps old k → IsRight steps new k
  still_right k right = ⊎_elim (λ same. ap (λ (xs : Given). slice_get xs k) written ∙ (same ∙ right)) (λ here. subst (IsRight steps new) here here_right) (get_set old item.at k item.answer)

  some_same : {A : Type 0} (x y : A) → Some x ≡ Some y → x ≡ y
  some_same x y e = cc

  among : (k i : ℕ) (other : Unusual) → slice_get (item ∷ items) i ≡ Some other → other.at ≡ k → IsRight steps new k ⊎ IsAmong items k
  among k zero other is at = inl (subst (IsRight steps new) (ap (λ (u : Unusual). u.at) (some_same item other is) ∙ at) here_right)
  among k (suc i) other is at = inr (record { index = i; item = other; there = is; at = at })

  pub right-next : AreRightBut steps new items
  right-next = record {
    size = ap length written ∙ (length_set old item.at item.answer ∙ far.size);
    right = λ k below. ⊎_elim (λ right. inl (still_right k right)) (λ still. among k still.index still.item still.there still.at) (far.right k below);
    each = λ j other is. far.each (suc j) other is;
  }

-- all items are put
pub right-all : (steps : List Step) (given : Given) (items : List Unusual) → length items ≡ 0 → AreRightBut steps given items → given ≡ answers steps
right-all steps given (item ∷ items) none far = absurd (omega (arith, none))
right-all steps given [] none far =
    list_ext given (answers steps) (omega (arith, far.size, answers-length steps (length steps)))
    (λ k below. let low : k < length steps = omega (arith, below, answers-length steps (length steps)) in right k low ∙ sym (answers-get steps (length steps) k low))
  where
    right : (k : ℕ) → k < length steps → IsRight steps given k
    right k below = ⊎_elim (λ is. is) (λ still. absurd (nowhere still.index still.item still.there)) (far.right k below)
      where
        nowhere : (i : ℕ) (other : Unusual) → slice_get [] i ≡ Some other → ⊥
        nowhere i other is = cc

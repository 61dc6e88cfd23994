-- A run's accesses and reuses, one word or page at a time.
use Rattle.std.proofs.Common.{◌≡◌, ◌∙◌, ◌+◌, ℕ, suc, add-one, Bool, true, false, List, [], ◌∷◌, ◌++◌, length, Option, Some, None, refl, sym, ap, subst, arith}
use Rattle.std.proofs.lemmas.List.{map-append, length-append, append_assoc, append-nil}
use Rattle.er_event.specs.declared.steps.Kind.{Kind}
use Rattle.er_event.specs.Span.{Span, parts_below, part_of}
use Rattle.er_online.specs.declared.calls.ShardCall.{ShardCall}
use Rattle.er_online.specs.Spans.{accesses, first_race, found_next, reset_call, resets, IsSpanned}
use Rattle.er_online.specs.Taken.{access_of}

next : (word n : ℕ) → word + 1 + n ≡ word + suc n
next word n = omega arith

same : (word : ℕ) → word ≡ word + 0
same word = omega arith

-- the accesses with one answer more
accesses-more : (thread : ℕ) (kind : Kind) (cover : List ℕ) (word : ℕ) (races : List Bool) (race : Bool)
    → accesses thread kind cover word (races ++ race ∷ []) ≡ accesses thread kind cover word races ++ (access_of thread kind (word + length races) race, cover) ∷ []
unfolding accesses
accesses-more thread kind cover word [] race = ap (λ w. (access_of thread kind w race, cover) ∷ []) (same word)
accesses-more thread kind cover word (first ∷ races) race =
    ap (λ calls. (access_of thread kind word first, cover) ∷ calls)
    (accesses-more thread kind cover (word + 1) races race
    ∙ ap (λ w. accesses thread kind cover (word + 1) races ++ (access_of thread kind w race, cover) ∷ []) (next word (length races)))

-- the first race with one answer more
first_race-more : (word : ℕ) (races : List Bool) (race : Bool) → first_race word (races ++ race ∷ []) ≡ found_next (first_race word races) (word + length races) race
unfolding first_race
first_race-more word [] true = ap (λ w. Some w) (same word)
first_race-more word [] false = refl
first_race-more word (true ∷ races) race = refl
first_race-more word (false ∷ races) race =
    first_race-more (word + 1) races race ∙ ap (λ w. found_next (first_race (word + 1) races) w race) (next word (length races))

-- no word is taken yet
pub spanned-none : (calls : List (ShardCall × List ℕ)) (thread : ℕ) (kind : Kind) (cover : List ℕ) (word : ℕ) → IsSpanned calls calls thread kind cover word 0 None
unfolding accesses first_race
spanned-none calls thread kind cover word = record { races = []; size = refl; list = sym (append-nil calls); first = refl }

-- one word more is taken
pub spanned-more : (before now after : List (ShardCall × List ℕ)) (thread : ℕ) (kind : Kind) (cover : List ℕ) (word count : ℕ) (found : Option ℕ) (race : Bool)
    → IsSpanned before now thread kind cover word count found
    → after ≡ now ++ (access_of thread kind (word + count) race, cover) ∷ []
    → IsSpanned before after thread kind cover word (count + 1) (found_next found (word + count) race)
spanned-more before now after thread kind cover word count found race was is =
    let last = λ (n : ℕ). (access_of thread kind (word + n) race, cover) ∷ [] in
    record {
      races = was.races ++ race ∷ [];
      size = length-append was.races (race ∷ []) ∙ ap (λ n. n + 1) was.size;
      list = is ∙ (ap (λ calls. calls ++ last count) was.list
          ∙ (append_assoc before (accesses thread kind cover word was.races) (last count)
          ∙ ap (λ calls. before ++ calls)
          (ap (λ n. accesses thread kind cover word was.races ++ last n) (sym was.size) ∙ sym (accesses-more thread kind cover word was.races race))));
      first = ap (λ f. found_next f (word + count) race) was.first
          ∙ (ap (λ n. found_next (first_race word was.races) (word + n) race) (sym was.size) ∙ sym (first_race-more word was.races race));
    }

-- one page more is reused
reset-last : (before now after : List (ShardCall × List ℕ)) (words : Span) (n : ℕ) → now ≡ before ++ resets (parts_below words n)
    → after ≡ now ++ reset_call (part_of words n) ∷ [] → after ≡ before ++ resets (parts_below words (suc n))
unfolding parts_below
reset-last before now after words n was is =
    is ∙ (ap (λ calls. calls ++ reset_call (part_of words n) ∷ []) was
    ∙ (append_assoc before (resets (parts_below words n)) (reset_call (part_of words n) ∷ [])
    ∙ ap (λ calls. before ++ calls) (sym (map-append reset_call (parts_below words n) (part_of words n ∷ [])))))

pub resets-more : (before now after : List (ShardCall × List ℕ)) (words : Span) (n : ℕ) → now ≡ before ++ resets (parts_below words n)
    → after ≡ now ++ reset_call (part_of words n) ∷ [] → after ≡ before ++ resets (parts_below words (n + 1))
resets-more before now after words n was is = subst (λ m. after ≡ before ++ resets (parts_below words m)) (sym (add-one n)) (reset-last before now after words n was is)

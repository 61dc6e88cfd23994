-- A book has found all that an explanation needs, the last of it at a position, exactly where the access there is a race.
use Rattle.std.proofs.Common.{◌≡◌, ℕ, suc, ◌+◌, List, [], ◌∷◌, All, map, slice_get, Option, Some, None, IfSome, IsNone, Result, Ok, Err, add-one, refl, sym, ◌∙◌, ap, drop}
use Rattle.std.proofs.lemmas.List.Elements.{All-nil, All-cons, All-head, All-tail}
use Rattle.er_event.specs.Lockset.{IsRising}
use Rattle.er_event.specs.declared.refusals.Refusal.{Refusal}
use Rattle.er_event.specs.declared.steps.Reply.{Reply}
use Rattle.er_event.specs.declared.steps.Reply.TheVariants.{Done, Quiet, Race, Ignored, State}
use Rattle.er_event.specs.declared.steps.Step.{Step}
use Rattle.er_model.specs.Answers.{answer, reading_of}
use Rattle.er_model.specs.Explanations.{Explanation, first_write, first_uncovered, locks_listed, latest, ExplainsAccess, Explains, word_of}
use Rattle.er_model.specs.Words.{Reading, cover_of, first, join}
use Rattle.er_model.proofs.Explanations.{listed-rising, race-rising, explained-race, explains-unique, rising-cover, access-explained}
use Rattle.er_explain.proofs.BookLemmas.{placed, first_lock}
use Rattle.er_explain.proofs.Explained.{listed-cover, race-explanation, explained-at, unexplained-at}
use Rattle.er_explain.specs.Books.{joining_at, book_by, book_at, joining_of}
use Rattle.er_explain.specs.Explaining.{explanation_where, explanation_at}
use Rattle.er_explain.specs.Joined.{Joining}
use Rattle.er_explain.specs.Book.{Book, Joined}
use Rattle.er_explain.specs.declared.book.Pair.{Pair}

-- a lock with what a search found for it
abbrev searched : (ℕ → Option ℕ) → ℕ → Pair ℕ
searched f l = record { lock = l; at = f l }

-- pairs that the searches of a joining's locks found
pairs-all : (f : ℕ → Option ℕ) (ls : List ℕ) (xs : List (ℕ × ℕ)) → map (searched f) ls ≡ map placed xs → All (λ x. f x.0 ≡ Some x.1) xs × (locks_listed xs ≡ ls)
pairs-all f [] [] e = (All-nil (λ x. f x.0 ≡ Some x.1), refl)
pairs-all f [] (x ∷ xs) e = cc
pairs-all f (l ∷ ls) [] e = cc
pairs-all f (l ∷ ls) (x ∷ xs) e =
    let lock : l ≡ x.0 = ap (λ (ps : List (Pair ℕ)). first_lock ps) e in
    let at : f l ≡ Some x.1 = first-searched (searched f l) (placed x) (map (searched f) ls) (map placed xs) e in
    let rest = pairs-all f ls xs (ap (λ (ps : List (Pair ℕ)). drop 1 ps) e) in
    (All-cons (λ y. f y.0 ≡ Some y.1) x xs (rw lock at at) rest.0, λ i. sym lock i ∷ rest.1 i)
  where
    first-searched : (p q : Pair ℕ) (ps qs : List (Pair ℕ)) → p ∷ ps ≡ q ∷ qs → p.at ≡ q.at
    first-searched p q ps qs same = cc

all-pairs : (f : ℕ → Option ℕ) (xs : List (ℕ × ℕ)) → All (λ x. f x.0 ≡ Some x.1) xs → map (searched f) (locks_listed xs) ≡ map placed xs
all-pairs f [] all = refl
all-pairs f (x ∷ xs) all =
    let here : f x.0 ≡ Some x.1 = All-head (λ y. f y.0 ≡ Some y.1) x xs all in
    let rest = all-pairs f xs (All-tail (λ y. f y.0 ≡ Some y.1) x xs all) in
    λ i. record { lock = x.0; at = here i } ∷ rest i

joined-same : (j k : Joining ℕ) → Joined j ≡ Joined k → j ≡ k
joined-same j k e = cc

-- the searches of a book that tells an explanation
record IsSearched (r : Reading) (w n : ℕ) (e : Explanation) : Type 0 where
  pub is_first : first r w n ≡ Some e.first
  pub is_join : join r w n ≡ Some e.join
  pub joining : joining_at r w n e.first e.join ≡ joining_of e

searched-by : (r : Reading) (w n : ℕ) (e : Explanation) (f j : Option ℕ) → first r w n ≡ f → join r w n ≡ j → book_by r w n f j ≡ Joined (joining_of e) → IsSearched r w n e
searched-by r w n e None j is here told = cc
searched-by r w n e (Some f) None is here told = cc
searched-by r w n e (Some f) (Some j) is here told =
    let all : joining_at r w n f j ≡ joining_of e = joined-same (joining_at r w n f j) (joining_of e) told in
    let same_first : f ≡ e.first = ap (λ (k : Joining ℕ). k.first) all in
    let same_join : j ≡ e.join = ap (λ (k : Joining ℕ). k.join) all in
    record {
      is_first = is ∙ ap Some same_first;
      is_join = here ∙ ap Some same_join;
      joining = rw (same_first, same_join) at all;
    }

searched-at : (r : Reading) (w n : ℕ) (e : Explanation) → book_at r w n ≡ Joined (joining_of e) → IsSearched r w n e
unfolding book_at
searched-at r w n e told = searched-by r w n e (first r w n) (join r w n) refl refl told

module _ (r : Reading) (w k : ℕ) (e : Explanation) where
  pub told-access : ((i : ℕ) → IsRising (cover_of (r i))) → book_at r w (suc k) ≡ Joined (joining_of e) → latest e.write e.uncovered ≡ k → ExplainsAccess r w e k × IsRising (locks_listed e.uncovered)
  told-access rises told ends =
      let at = searched-at r w (suc k) e told in
      let pairs = pairs-all (first_uncovered r w (suc k) e.join) (cover_of (r e.join)) e.uncovered (ap (λ (j : Joining ℕ). j.pairs) at.joining) in
      let up : IsRising (locks_listed e.uncovered) = rw pairs.1 (rises e.join) in (
        record {
          is_first = at.is_first;
          is_join = at.is_join;
          is_write = ap (λ (j : Joining ℕ). j.write) at.joining;
          each_once = λ l. rw pairs.1 at (listed-rising e.uncovered l up);
          uncovers = pairs.0;
          ends_at = ends;
        },
        up,
      )

  pub access-told : ((i : ℕ) → IsRising (cover_of (r i))) → ExplainsAccess r w e k → IsRising (locks_listed e.uncovered) → book_at r w (suc k) ≡ Joined (joining_of e)
  unfolding book_at
  access-told rises is up =
      let locks : locks_listed e.uncovered ≡ cover_of (r e.join) = listed-cover r w k e rises is up in
      let wrote : first_write r w (suc k) e.join ≡ Some e.write = is.is_write in
      let pairs : map (searched (first_uncovered r w (suc k) e.join)) (cover_of (r e.join)) ≡ map placed e.uncovered =
      rw locks at (all-pairs (first_uncovered r w (suc k) e.join) e.uncovered is.uncovers) in
      rw (is.is_first, is.is_join) (λ i. Joined (record { first = e.first; join = e.join; write = wrote i; pairs = pairs i }))

-- the same of a step of a list
module _ (steps : List Step) (k w : ℕ) (accesses : word_of (slice_get steps k) ≡ Some w) where
  pub told-explains : (e : Explanation) → book_at (reading_of steps) w (suc k) ≡ Joined (joining_of e) → latest e.write e.uncovered ≡ k → Explains steps e k × IsRising (locks_listed e.uncovered)
  told-explains e told ends =
      let both = told-access (reading_of steps) w k e (rising-cover steps) told ends in
      ((w, accesses, both.0), both.1)

  pub told-at : (e : Explanation) → book_at (reading_of steps) w (suc k) ≡ Joined (joining_of e) → latest e.write e.uncovered ≡ k → explanation_at steps k ≡ Some e
  told-at e told ends =
      let both = told-explains e told ends in
      let known = race-explanation steps k (explained-race steps k e both.0) in
      known.1 ∙ ap Some (explains-unique steps k known.0 e known.2 both.0 known.3 both.1)

  pub race-told : answer steps k ≡ Ok Race → (e : Explanation) × (explanation_at steps k ≡ Some e) × (book_at (reading_of steps) w (suc k) ≡ Joined (joining_of e)) × (latest e.write e.uncovered ≡ k)
  race-told race =
      let known = race-explanation steps k race in
      let is = access-explained steps k w known.0 accesses known.2 in
      (known.0, known.1, access-told (reading_of steps) w k known.0 (rising-cover steps) is known.3, is.ends_at)

-- a step that accesses no word is no race
pub no-word : (steps : List Step) (k : ℕ) → word_of (slice_get steps k) ≡ None → answer steps k ≡ Ok Race → ⊥
no-word steps k none race =
    let known = race-rising steps k race in
    let never : None ≡ Some known.1.0 = sym none ∙ known.1.1 in cc

-- a step that is no race has no explanation
unraced : (steps : List Step) (k : ℕ) (a : Result Reply Refusal) → (a ≡ Ok Race → ⊥) → explanation_where steps k a ≡ None
unraced steps k (Ok Race) other = absurd (other refl)
unraced steps k (Ok Done) other = refl
unraced steps k (Ok Quiet) other = refl
unraced steps k (Ok Ignored) other = refl
unraced steps k (Ok (State state)) other = refl
unraced steps k (Err why) other = refl

pub unraced-at : (steps : List Step) (k : ℕ) → (answer steps k ≡ Ok Race → ⊥) → explanation_at steps k ≡ None
unfolding explanation_at
unraced-at steps k other = unraced steps k (answer steps k) other

-- what is found so is the step's explanation
module _ (steps : List Step) (k w : ℕ) (accesses : word_of (slice_get steps k) ≡ Some w) (b : Book ℕ) (known : b ≡ book_at (reading_of steps) w (k + 1)) where
  at-next : b ≡ book_at (reading_of steps) w (suc k)
  at-next = known ∙ ap (book_at (reading_of steps) w) (add-one k)

  pub found-at : (o : Option Explanation) → ((e : Explanation) → (o ≡ Some e → (b ≡ Joined (joining_of e)) × (latest e.write e.uncovered ≡ k)) × ((b ≡ Joined (joining_of e)) × (latest e.write e.uncovered ≡ k) → o ≡ Some e))
      → o ≡ explanation_at steps k
  found-at (Some e) tells =
      let told = (tells e).0 refl in
      sym (told-at steps k w accesses e (sym at-next ∙ told.0) told.1)
  found-at None tells =
      sym (unraced-at steps k
      (λ race.
      let told = race-told steps k w accesses race in
      let never : None ≡ Some told.0 = (tells told.0).1 (at-next ∙ told.2, told.3) in cc))

-- no access, no explanation
pub unfound-at : (steps : List Step) (k : ℕ) → word_of (slice_get steps k) ≡ None → None ≡ explanation_at steps k
unfound-at steps k none = sym (unraced-at steps k (no-word steps k none))

-- so it explains the step, or the step is no race
pub found-explains : (steps : List Step) (k : ℕ) (o : Option Explanation) → o ≡ explanation_at steps k → IfSome o (λ e. Explains steps e k × IsRising (locks_listed e.uncovered))
found-explains steps k None is = tt
found-explains steps k (Some e) is = explained-at steps k e (sym is)

pub found-none : (steps : List Step) (k : ℕ) (o : Option Explanation) → o ≡ explanation_at steps k → IsNone o → answer steps k ≡ Ok Race → ⊥
found-none steps k None is none race = unexplained-at steps k (sym is) race
found-none steps k (Some e) is none race = cc

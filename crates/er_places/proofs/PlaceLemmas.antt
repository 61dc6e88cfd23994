-- A pass that stands for some steps stands for one more: the places on earlier lines stay, and the step's own comes in front.
use Rattle.std.proofs.Common.{◌≡◌, ℕ, zero, suc, ◌+◌, ◌<◌, ◌≤◌, ◌==◌, ◌&&◌, Bool, true, false, cond, List, [], ◌∷◌, ◌++◌, append_assoc, get_or, take, length, slice_get, slice_index, Option, Some, None, is_some, eqb, ◌||◌, add-zero, add-suc, refl, ap, sym, ◌∙◌, subst, arith}
use Rattle.std.proofs.Math.ListN.{get_or-append}
use Rattle.std.proofs.Math.Seq.{get_or-append_seam}
use Rattle.std.specs.List.{list_all, list_any}
use Rattle.std.proofs.lemmas.Bool.{eqb-true}
use Rattle.std.proofs.lemmas.List.{length-append, length-take-le, take_more}
use Rattle.er_event.proofs.Lists.{get_front, get_last, length_push}
use Rattle.er_event.specs.declared.steps.Step.{Step}
use Rattle.er_held.specs.ThreadLocks.{held_by}
use Rattle.er_model.proofs.Prefixes.{holdings-front, holdings-grow, holdings-empty}
use Rattle.er_model.specs.Holdings.{Holdings, after_step, holdings_at, holdings_end}
use Rattle.er_places.specs.Inner.Following.{Followed, Follows, HasAll, HasFollowed}
use Rattle.er_places.specs.Places.{or_else, place_below, place_by, place_in, place_of}
use Rattle.er_places.specs.declared.places.Place.{Place}

-- steps that come later change no earlier place
module _ (steps more : List Step) (lines others : List ℕ) where
  of-front : (n : ℕ) (o : Option Step) → n < length steps → n < length lines → place_of (steps ++ more) (lines ++ others) n o ≡ place_of steps lines n o
  of-front n None within under = refl
  of-front n (Some step) within under =
      ap (λ (h : Holdings). place_by h (slice_index (lines ++ others) n) step.thread step.event) (holdings-front steps more step.thread n (omega arith))
      ∙ ap (λ (line : ℕ). place_by (holdings_at steps step.thread n) line step.thread step.event) (get_or-append lines others 0 n under)

  place-front : (l n : ℕ) → n ≤ length steps → n ≤ length lines → place_below (steps ++ more) (lines ++ others) l n ≡ place_below steps lines l n
  unfolding place_below
  place-front l zero within under = refl
  place-front l (suc n) within under =
      let before : place_below (steps ++ more) (lines ++ others) l n ≡ place_below steps lines l n = place-front l n (omega arith) (omega arith) in
      let here : place_of (steps ++ more) (lines ++ others) n (slice_get (steps ++ more) n) ≡ place_of steps lines n (slice_get steps n) =
      ap (place_of (steps ++ more) (lines ++ others) n) (get_front steps more n (omega arith)) ∙ of-front n (slice_get steps n) (omega arith) (omega arith) in
      ap (λ (line : ℕ). cond (line == l) (or_else (place_below (steps ++ more) (lines ++ others) l n) (place_of (steps ++ more) (lines ++ others) n (slice_get (steps ++ more) n))) (place_below (steps ++ more) (lines ++ others) l n))
      (get_or-append lines others 0 n (omega arith))
      ∙ ap (λ (o : Option Place). cond (slice_index lines n == l) (or_else (place_below (steps ++ more) (lines ++ others) l n) o) (place_below (steps ++ more) (lines ++ others) l n)) here
      ∙ ap (λ (o : Option Place). cond (slice_index lines n == l) (or_else o (place_of steps lines n (slice_get steps n))) o) before

-- a wanted line is a wanted one
mix-by : (here same there : Bool) → (same ≡ true → here ≡ there) → (new below : Option Place)
    → cond (here && same) (or_else (cond there below None) new) (cond there below None) ≡ cond there (cond same (or_else below new) below) None
mix-by true true true agree new below = refl
mix-by true true false agree new below = absurd (let clash = agree refl in cc)
mix-by true false true agree new below = refl
mix-by true false false agree new below = refl
mix-by false true true agree new below = absurd (let clash = agree refl in cc)
mix-by false true false agree new below = refl
mix-by false false true agree new below = refl
mix-by false false false agree new below = refl

mix : (wants : ℕ → Bool) (line l : ℕ) (new below : Option Place)
    → cond (wants line && (line == l)) (or_else (cond (wants l) below None) new) (cond (wants l) below None) ≡ cond (wants l) (cond (line == l) (or_else below new) below) None
mix wants line l new below = mix-by (wants line) (line == l) (wants l) (λ same. ap wants (eqb-true line l same)) new below

-- one step more
module _ (past : List Step) (lines : List ℕ) (step : Step) (line : ℕ) (even : length lines ≡ length past) where
  place-grow : (l : ℕ) → place_below (past ++ step ∷ []) (lines ++ line ∷ []) l (length (past ++ step ∷ []))
      ≡ cond (line == l) (or_else (place_below past lines l (length past)) (place_by (holdings_end past step.thread) line step.thread step.event)) (place_below past lines l (length past))
  unfolding place_below
  place-grow l =
      let before : place_below (past ++ step ∷ []) (lines ++ line ∷ []) l (length past) ≡ place_below past lines l (length past) =
      place-front past (step ∷ []) lines (line ∷ []) l (length past) (omega arith) (omega arith) in
      let number : slice_index (lines ++ line ∷ []) (length past) ≡ line = ap (slice_index (lines ++ line ∷ [])) (sym even) ∙ get_or-append_seam lines line [] 0 in
      let here : place_of (past ++ step ∷ []) (lines ++ line ∷ []) (length past) (slice_get (past ++ step ∷ []) (length past)) ≡ place_by (holdings_end past step.thread) line step.thread step.event =
      ap (place_of (past ++ step ∷ []) (lines ++ line ∷ []) (length past)) (get_last past step)
      ∙ ap (λ (h : Holdings). place_by h (slice_index (lines ++ line ∷ []) (length past)) step.thread step.event) (holdings-front past (step ∷ []) step.thread (length past) (omega arith))
      ∙ ap (λ (n : ℕ). place_by (holdings_end past step.thread) n step.thread step.event) number in
      ap (place_below (past ++ step ∷ []) (lines ++ line ∷ []) l) (length_push past step)
      ∙ ap (λ (n : ℕ). cond (n == l) (or_else (place_below (past ++ step ∷ []) (lines ++ line ∷ []) l (length past)) (place_of (past ++ step ∷ []) (lines ++ line ∷ []) (length past) (slice_get (past ++ step ∷ []) (length past)))) (place_below (past ++ step ∷ []) (lines ++ line ∷ []) l (length past))) number
      ∙ ap (λ (o : Option Place). cond (line == l) (or_else (place_below (past ++ step ∷ []) (lines ++ line ∷ []) l (length past)) o) (place_below (past ++ step ∷ []) (lines ++ line ∷ []) l (length past))) here
      ∙ ap (λ (o : Option Place). cond (line == l) (or_else o (place_by (holdings_end past step.thread) line step.thread step.event)) o) before

  stands-on : (wants : ℕ → Bool) (before after : Followed) → HasFollowed wants before past lines → Follows wants before step line after
      → HasFollowed wants after (past ++ step ∷ []) (lines ++ line ∷ [])
  stands-on wants before after stands follows =
      record {
        threads = λ t. follows.threads t ∙ ap (λ (h : Holdings). after_step h t step) (stands.threads t) ∙ sym (holdings-grow past step t);
        places = λ l. follows.places l
            ∙ ap (λ (h : Holdings). cond (wants line && (line == l)) (or_else (place_in before.places l) (place_by h line step.thread step.event)) (place_in before.places l)) (stands.threads step.thread)
            ∙ ap (λ (o : Option Place). cond (wants line && (line == l)) (or_else o (place_by (holdings_end past step.thread) line step.thread step.event)) o) (stands.places l)
            ∙ mix wants line l (place_by (holdings_end past step.thread) line step.thread step.event) (place_below past lines l (length past))
            ∙ ap (λ (o : Option Place). cond (wants l) o None) (sym (place-grow l));
      }

-- before any step
cond-none : (b : Bool) (o : Option Place) → o ≡ cond b o o
cond-none true o = refl
cond-none false o = refl

pub stands-start : (wants : ℕ → Bool) (seen : Followed) → seen.threads ≡ [] → seen.places ≡ [] → HasFollowed wants seen [] []
unfolding place_below
stands-start wants seen threads places =
    record {
      threads = λ t. ap (λ (all : List Holdings). held_by all t) threads ∙ sym (holdings-empty t);
      places = λ l. ap (λ (all : List (ℕ × Place)). place_in all l) places ∙ cond-none (wants l) None;
    }

-- one step more of a batch
pub stands-more : (wants : ℕ → Bool) (before after : Followed) (past steps : List Step) (numbers lines : List ℕ) (k : ℕ) (step : Step) → length numbers ≡ length past → length lines ≡ length steps
    → k < length steps → step ≡ get_or steps k step → HasFollowed wants before (past ++ take k steps) (numbers ++ take k lines) → Follows wants before step (get_or lines k 0) after
    → HasFollowed wants after (past ++ take (k + 1) steps) (numbers ++ take (k + 1) lines)
stands-more wants before after past steps numbers lines k step even level below is stands follows =
    let line : ℕ = get_or lines k 0 in
    let in_lines : k < length lines = omega arith in
    let steps_are : (past ++ take k steps) ++ step ∷ [] ≡ past ++ take (k + 1) steps =
    append_assoc past (take k steps) (step ∷ []) ∙ ap (λ xs. past ++ xs) (sym (take_more steps k step below ∙ ap (λ x. take k steps ++ x ∷ []) (sym is))) in
    let lines_are : (numbers ++ take k lines) ++ line ∷ [] ≡ numbers ++ take (k + 1) lines =
    append_assoc numbers (take k lines) (line ∷ []) ∙ ap (λ xs. numbers ++ xs) (sym (take_more lines k 0 in_lines)) in
    let long : length (past ++ take k steps) ≡ length past + k = omega (arith, length-append past (take k steps), length-take-le k steps (omega arith)) in
    let many : length (numbers ++ take k lines) ≡ length numbers + k = omega (arith, length-append numbers (take k lines), length-take-le k lines (omega arith)) in
    subst (λ xs. HasFollowed wants after xs (numbers ++ take (k + 1) lines)) steps_are
    (subst (λ xs. HasFollowed wants after ((past ++ take k steps) ++ step ∷ []) xs) lines_are
    (stands-on (past ++ take k steps) (numbers ++ take k lines) step line (omega arith) wants before after stands follows))

-- a place that was found stays
cond-same : (b : Bool) (o : Option Place) → cond b o o ≡ o
cond-same true o = refl
cond-same false o = refl

one-found : (steps : List Step) (lines : List ℕ) (l n : ℕ) (place : Place) → place_below steps lines l n ≡ Some place → place_below steps lines l (suc n) ≡ Some place
unfolding place_below
one-found steps lines l n place found = rw found (cond-same (slice_index lines n == l) (Some place))

still-found : (steps : List Step) (lines : List ℕ) (l n k : ℕ) (place : Place) → place_below steps lines l n ≡ Some place → place_below steps lines l (n + k) ≡ Some place
still-found steps lines l n zero place found = rw add-zero found
still-found steps lines l n (suc k) place found = rw add-suc (one-found steps lines l (n + k) place (still-found steps lines l n k place found))

-- so if each wanted line has its place, later steps change nothing
module _ (wants : ℕ → Bool) (seen : Followed) (past more : List Step) (lines others : List ℕ) (even : length lines ≡ length past) (stands : HasFollowed wants seen past lines)
    (has : HasAll wants seen.places) where
  found-by : (l : ℕ) (b : Bool) (o : Option Place) → wants l ≡ b → place_in seen.places l ≡ o
      → place_in seen.places l ≡ cond (wants l) (place_below (past ++ more) (lines ++ others) l (length (past ++ more))) None
  found-by l false o unwanted is = rw unwanted (rw unwanted at (stands.places l))
  found-by l true None wanted is = absurd (let none : is_some (place_in seen.places l) ≡ true = has l wanted in let clash = sym none ∙ ap (λ (o : Option Place). is_some o) is in cc)
  found-by l true (Some place) wanted is =
      let so_far : place_below past lines l (length past) ≡ Some place = sym (rw wanted at (stands.places l)) ∙ is in
      let front : place_below (past ++ more) (lines ++ others) l (length past) ≡ Some place = place-front past more lines others l (length past) (omega arith) (omega arith) ∙ so_far in
      rw wanted (is ∙ sym (ap (place_below (past ++ more) (lines ++ others) l) (length-append past more) ∙ still-found (past ++ more) (lines ++ others) l (length past) (length more) place front))

  pub found-all : (l : ℕ) → place_in seen.places l ≡ cond (wants l) (place_below (past ++ more) (lines ++ others) l (length (past ++ more))) None
  found-all l = found-by l (wants l) (place_in seen.places l) refl refl

-- a wanted line is in a list that is passed whole
passed-by : (test : ℕ → Bool) (w : ℕ) (wanted : List ℕ) (line : ℕ) (here same : Bool) → (list_all test wanted ≡ true → list_any (eqb line) wanted ≡ true → test line ≡ true)
    → test w ≡ here → eqb line w ≡ same → (here && list_all test wanted) ≡ true → (same || list_any (eqb line) wanted) ≡ true → test line ≡ true
passed-by test w wanted line true true more is equal all some = ap test (eqb-true line w equal) ∙ is
passed-by test w wanted line true false more is equal all some = more all some
passed-by test w wanted line false same more is equal all some = absurd (cc)

pub passed : (test : ℕ → Bool) (wanted : List ℕ) (line : ℕ) → list_all test wanted ≡ true → list_any (eqb line) wanted ≡ true → test line ≡ true
passed test [] line all some = absurd (cc)
passed test (w ∷ wanted) line all some = passed-by test w wanted line (test w) (eqb line w) (passed test wanted line) refl refl all some

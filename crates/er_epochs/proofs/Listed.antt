-- The lists of words: one is made, goes on, or goes.
use Rattle.std.proofs.Common.{◌≡◌, ◌∙◌, ℕ, nat_eq, true, false, cond, List, [], Some, Result, Ok, Err, IfOk, sym, ap, subst, arith}
use Rattle.std.proofs.lemmas.Bool.Decides.{nat_tests}
use Rattle.std.specs.Map.{lookup}
use Rattle.std.specs.Option.{unwrap_or}
use Rattle.er_epochs.proofs.Maps.{Puts}
use Rattle.er_epochs.specs.declared.reads.Tagged.{Tagged}
use Rattle.er_epochs.specs.Epochs.{Stored}
use Rattle.er_epochs.specs.Words.{Said, WordLists, list_of, stored_with, stored_beside}

module _ {A : Type 0} where
  -- a list that is found
  pub list_found : (lists : WordLists A) (n : ℕ) (reads : List (Tagged A)) → Some reads ≡ lookup (nat_eq n) lists → reads ≡ list_of lists n
  list_found lists n reads found = ap (λ o. unwrap_or o []) found

  -- one that is put beside a word
  pub list_put : (old new : WordLists A) (n : ℕ) (reads : List (Tagged A)) → Puts old new n reads → list_of new n ≡ reads
  list_put old new n reads puts = ap (λ o. unwrap_or o []) (puts n) ∙ ap (λ b. unwrap_or (cond b (Some reads) (lookup (nat_eq n) old)) []) here
    where
      here : nat_eq n n ≡ true
      here = grind (arith, nat_tests)

  -- and the others
  pub list_others : (old new : WordLists A) (n : ℕ) (reads : List (Tagged A)) → Puts old new n reads → (w : ℕ) → nat_eq n w ≡ false → list_of new w ≡ list_of old w
  list_others old new n reads puts w apart = ap (λ o. unwrap_or o []) (puts w) ∙ ap (λ b. unwrap_or (cond b (Some reads) (lookup (nat_eq w) old)) []) apart

  -- a word goes on with its list
  pub goes_on : (old new : WordLists A) (n : ℕ) (before after : List (Tagged A)) (word next : Said A) (R : Stored A → Stored A → Type 0)
      → before ≡ list_of old n → list_of new n ≡ after → R (stored_with word before) (stored_with next after) → R (stored_beside old n word) (stored_beside new n next)
  goes_on old new n before after word next R was is on =
      subst (λ (reads : List (Tagged A)). R (stored_beside old n word) (stored_with next reads)) (sym is) (subst (λ (reads : List (Tagged A)). R (stored_with word reads) (stored_with next after)) was on)

-- what follows from a fact about the value
pub if_ok : {T E : Type 0} (r : Result T E) (P Q : T → Type 0) → IfOk r P → ((v : T) → P v → Q v) → IfOk r Q
if_ok (Ok v) P Q p f = f v p
if_ok (Err e) P Q p f = tt

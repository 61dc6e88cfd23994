-- Numbers of threads or of locks that are added, each once.
use Rattle.std.proofs.Common.{◌≡◌, ◌+◌, ◌<◌, ◌∙◌, ℕ, nat_eq, Bool, true, false, All, cond, List, [], ◌∷◌, ◌++◌, length, take, get_or, flat_map, map, slice_get, unwrap_or, Option, Some, refl, sym, ap}
use Rattle.std.proofs.lemmas.Option.{unwrap_or-slice_get}
use Rattle.er_print.specs.Styles.{name_at}
use Rattle.std.specs.List.{list_any}
use Rattle.std.proofs.lemmas.Grind.{flat_map-append}
use Rattle.std.proofs.lemmas.List.{append-nil, take_more}
use Rattle.std.proofs.lemmas.List.Elements.{All-append, All-cons, All-head, All-nil, All-tail}
use Rattle.std.proofs.lemmas.List.Sums.{fold-append}
use Rattle.er_report.specs.Lines.{line_view}
use Rattle.er_report.specs.declared.report.Line.{Line}
use Rattle.er_places.specs.Places.{PlaceTable}
use Rattle.er_sites.specs.Mentions.{line_mentions, view_mentions}
use Rattle.er_sites.specs.declared.mentions.Mention.{Mention}
use Rattle.indexmap.specs.IndexSet.{insert_all, insert_key}

-- the name of a number
pub name_found : (names : List (List ℕ)) (n : ℕ) (name : List ℕ) → slice_get names n ≡ Some name → name ≡ name_at names n
name_found names n name is = sym (sym (unwrap_or-slice_get names n []) ∙ ap (λ (found : Option (List ℕ)). unwrap_or found []) is)

-- the numbers of one thing more
pub insert_next : {X : Type 0} (f : X → List ℕ) (xs : List X) (k : ℕ) (d x : X) (old before after : List ℕ) → k < length xs → x ≡ get_or xs k d
    → before ≡ insert_all nat_eq old (flat_map f (take k xs)) → after ≡ insert_all nat_eq before (f x) → after ≡ insert_all nat_eq old (flat_map f (take (k + 1) xs))
insert_next {X} f xs k d x old before after within is so_far put =
    let next : flat_map f (take (k + 1) xs) ≡ flat_map f (take k xs) ++ f x = rw (take_more xs k d within, ← is) (simp (flat_map-append, append-nil)) in
    put ∙ ap (λ (keys : List ℕ). insert_all nat_eq keys (f x)) so_far ∙ sym (fold-append (insert_key nat_eq) old (flat_map f (take k xs)) (f x))
    ∙ ap (insert_all nat_eq old) (sym next)

-- two lists of numbers, one after another
pub insert_two : (old a b r s : List ℕ) → a ≡ insert_all nat_eq old r → b ≡ insert_all nat_eq a s → b ≡ insert_all nat_eq old (r ++ s)
insert_two old a b r s first second = second ∙ ap (λ (keys : List ℕ). insert_all nat_eq keys s) first ∙ sym (fold-append (insert_key nat_eq) old r s)

-- three lists
pub insert_three : (old a b c r s t : List ℕ) → a ≡ insert_all nat_eq old r → b ≡ insert_all nat_eq a s → c ≡ insert_all nat_eq b t → c ≡ insert_all nat_eq old (r ++ s ++ t)
insert_three old a b c r s t first second third =
    third ∙ ap (λ (keys : List ℕ). insert_all nat_eq keys t) (second ∙ ap (λ (keys : List ℕ). insert_all nat_eq keys s) first)
    ∙ ap (λ (keys : List ℕ). insert_all nat_eq keys t) (sym (fold-append (insert_key nat_eq) old r s)) ∙ sym (fold-append (insert_key nat_eq) old (r ++ s) t)

-- what some lines mention
pub views_of : (of : Mention) (table : PlaceTable) (lines : List Line) → flat_map (line_mentions of table) lines ≡ flat_map (view_mentions of table) (map line_view lines)
views_of of table [] = refl
views_of of table (line ∷ lines) = ap (λ (rest : List ℕ). line_mentions of table line ++ rest) (views_of of table lines)

-- what holds of all numbers holds of those that are kept
one_kept : (P : ℕ → Type 0) (old : List ℕ) (x : ℕ) (b : Bool) → All P old → P x → All P (cond b old (old ++ x ∷ []))
one_kept P old x true all here = all
one_kept P old x false all here = All-append P old (x ∷ []) all (All-cons P x [] here (All-nil P))

pub all_kept : (P : ℕ → Type 0) (old xs : List ℕ) → All P old → All P xs → All P (insert_all nat_eq old xs)
all_kept P old [] all more = all
all_kept P old (x ∷ xs) all more = all_kept P (insert_key nat_eq old x) xs (one_kept P old x (list_any (nat_eq x) old) all (All-head P x xs more)) (All-tail P x xs more)

-- and what holds of the numbers of each thing holds of all
pub all_flat : {X : Type 0} (P : ℕ → Type 0) (f : X → List ℕ) (xs : List X) → All (λ (x : X). All P (f x)) xs → All P (flat_map f xs)
all_flat P f [] each = All-nil P
all_flat {X} P f (x ∷ xs) each = All-append P (f x) (flat_map f xs) (All-head (λ (x : X). All P (f x)) x xs each) (all_flat P f xs (All-tail (λ (x : X). All P (f x)) x xs each))

-- A joining that has found all that an explanation needs.
use Rattle.std.proofs.Common.{◌≡◌, ℕ, List, [], ◌∷◌, map, slice_get, option_map, drop, Option, Some, None, refl, sym, ◌∙◌, ap}
use Rattle.std.proofs.lemmas.Option.{slice_get-map}
use Rattle.er_model.specs.Explanations.{Explanation}
use Rattle.er_explain.specs.declared.book.Pair.{Pair}
use Rattle.er_journal.specs.declared.explanations.Uncovered.{Uncovered}
use Rattle.er_explain.specs.Books.{joining_of}
use Rattle.er_explain.specs.Joined.{Joining}

-- a pair that has its position
abbrev pub placed : ℕ × ℕ → Pair ℕ
placed pair = record { lock = pair.0; at = Some pair.1 }

-- what an explanation keeps of it
abbrev pub kept : Uncovered → ℕ × ℕ
kept u = (u.lock, u.at)

pub placed-kept : (us : List Uncovered) → map (λ u. record { lock = u.lock; at = Some u.at }) us ≡ map placed (map kept us)
placed-kept [] = refl
placed-kept (u ∷ us) = ap (λ (rest : List (Pair ℕ)). placed (kept u) ∷ rest) (placed-kept us)

abbrev pub position : Option ℕ → ℕ
position None = 0
position (Some k) = k

abbrev pub first_lock : List (Pair ℕ) → ℕ
first_lock [] = 0
first_lock (p ∷ ps) = p.lock

abbrev pub first_at : List (Pair ℕ) → ℕ
first_at [] = 0
first_at (p ∷ ps) = position p.at

placed-injective : (xs ys : List (ℕ × ℕ)) → map placed xs ≡ map placed ys → xs ≡ ys
placed-injective [] [] e = refl
placed-injective [] (y ∷ ys) e = cc
placed-injective (x ∷ xs) [] e = cc
placed-injective (x ∷ xs) (y ∷ ys) e =
    let lock : x.0 ≡ y.0 = ap (λ (ps : List (Pair ℕ)). first_lock ps) e in
    let at : x.1 ≡ y.1 = ap (λ (ps : List (Pair ℕ)). first_at ps) e in
    let rest : map placed xs ≡ map placed ys = ap (λ (ps : List (Pair ℕ)). drop 1 ps) e in
    let tail = placed-injective xs ys rest in
    λ i. (lock i, at i) ∷ tail i

-- a joining is that of one explanation at most
pub joining-injective : (e f : Explanation) → joining_of e ≡ joining_of f → e ≡ f
joining-injective e f same =
    let same_first : e.first ≡ f.first = ap (λ (j : Joining ℕ). j.first) same in
    let same_join : e.join ≡ f.join = ap (λ (j : Joining ℕ). j.join) same in
    let same_write : e.write ≡ f.write = ap (λ (j : Joining ℕ). position j.write) same in
    let pairs : e.uncovered ≡ f.uncovered = placed-injective e.uncovered f.uncovered (ap (λ (j : Joining ℕ). j.pairs) same) in
    λ i. record { first = same_first i; join = same_join i; write = same_write i; uncovered = pairs i }

abbrev at_of : Option (Pair ℕ) → Option ℕ
at_of None = None
at_of (Some q) = q.at

-- nor one with a lock whose access isn't found
pub unplaced : (j : Joining ℕ) (e : Explanation) (i : ℕ) (p : Pair ℕ) → slice_get j.pairs i ≡ Some p → p.at ≡ None → j ≡ joining_of e → ⊥
unplaced j e i p here none is =
    by (slice_get e.uncovered i)
    (sym (slice_get-map placed e.uncovered i) ∙ ap (λ (k : Joining ℕ). slice_get k.pairs i) (sym is) ∙ here)
  where
    by : (o : Option (ℕ × ℕ)) → option_map placed o ≡ Some p → ⊥
    by None found = cc
    by (Some x) found =
        let same : Some x.1 ≡ p.at = ap at_of found in
        let never : Some x.1 ≡ None = same ∙ none in cc

-- what is told where all is found
pub told-joining : (j : Joining ℕ) (first join write : ℕ) (us : List Uncovered)
    → j ≡ record { first = first; join = join; write = Some write; pairs = map (λ u. record { lock = u.lock; at = Some u.at }) us }
    → (e : Explanation) → let told : Explanation = record { first = first; join = join; write = write; uncovered = map kept us } in
    (Some told ≡ Some e → j ≡ joining_of e) × (j ≡ joining_of e → Some told ≡ Some e)
told-joining j first join write us is e =
    let told : Explanation = record { first = first; join = join; write = write; uncovered = map kept us } in
    let all : j ≡ joining_of told = is ∙ (λ i. record { first = first; join = join; write = Some write; pairs = placed-kept us i }) in (
      (λ same. all ∙ ap joining_of (some-same told e same)),
      (λ same. ap Some (joining-injective told e (sym all ∙ same))),
    )
  where
    some-same : (e f : Explanation) → Some e ≡ Some f → e ≡ f
    some-same e f same = cc

-- and where the access of a lock isn't found
pub untold-pair : (j : Joining ℕ) (i : ℕ) (p : Pair ℕ) → slice_get j.pairs i ≡ Some p → p.at ≡ None
    → (e : Explanation) → (None ≡ Some e → j ≡ joining_of e) × (j ≡ joining_of e → None ≡ Some e)
untold-pair j i p here none e = ((λ never. cc), (λ is. absurd (unplaced j e i p here none is)))

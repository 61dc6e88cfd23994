-- Lines put in order are what a stable sort makes of their entries.
use Rattle.std.proofs.Common.{◌≡◌, Bool, true, false, not, cond, List, [], ◌∷◌, ◌++◌, flat_map, filter, refl, sym, ap, ◌∙◌, subst}
use Rattle.std.specs.Cmp.{IsStrictWeakOrder}
use Rattle.std.specs.List.Sorted.{ties}
use Rattle.std.proofs.lemmas.Bool.{and_parts}
use Rattle.std.proofs.lemmas.List.Elements.{filter-append}
use Rattle.er_parts.specs.Merged.{in_order, may_precede, put}
use Rattle.er_report.specs.Lines.{LineView}
use Rattle.er_merge.proofs.SortLemmas.{NoneBelow, Rises, dropped, kept, not_below}

-- what follows is of this rank
abbrev pub HaveRank : {X K : Type 0} → (X → K) → K → List X → Type 0
HaveRank key rank [] = Unit {0}
HaveRank key rank (x ∷ xs) = (key x ≡ rank) × HaveRank key rank xs

-- none of them is below this rank
abbrev AtLeast : {X K : Type 0} → (K → K → Bool) → (X → K) → K → List X → Type 0
AtLeast lt key rank [] = Unit {0}
AtLeast lt key rank (x ∷ xs) = (lt (key x) rank ≡ false) × AtLeast lt key rank xs

-- a line may precede those behind it as their ranks say
abbrev pub FitsAll : {K : Type 0} → (K → K → Bool) → (LineView → K) → LineView → List LineView → Type 0
FitsAll lt rank line [] = Unit {0}
FitsAll lt rank line (other ∷ lines) = (may_precede line other ≡ not (lt (rank other) (rank line))) × FitsAll lt rank line lines

abbrev pub Fits : {K : Type 0} → (K → K → Bool) → (LineView → K) → List LineView → Type 0
Fits lt rank [] = Unit {0}
Fits lt rank (line ∷ lines) = FitsAll lt rank line lines × Fits lt rank lines

fits_put : {K : Type 0} (lt : K → K → Bool) (rank : LineView → K) (a line : LineView) (lines : List LineView) → FitsAll lt rank a (line ∷ lines) → FitsAll lt rank a (put line lines)
unfolding put
fits_put lt rank a line [] fits = fits
fits_put lt rank a line (other ∷ lines) fits =
    let rest : FitsAll lt rank a (put line lines) = fits_put lt rank a line lines (fits.0, fits.1.1) in
    elim (may_precede line other) as (λ b. FitsAll lt rank a (cond b (line ∷ other ∷ lines) (other ∷ put line lines))) [ true ↦ fits | false ↦ (fits.1.0, rest) ]

fits_order : {K : Type 0} (lt : K → K → Bool) (rank : LineView → K) (a : LineView) (lines : List LineView) → FitsAll lt rank a lines → FitsAll lt rank a (in_order lines)
unfolding in_order
fits_order lt rank a [] fits = tt
fits_order lt rank a (line ∷ lines) fits = fits_put lt rank a line (in_order lines) (fits.0, fits_order lt rank a lines fits.1)

-- order of the lines

further : {K : Type 0} (lt : K → K → Bool) → IsStrictWeakOrder lt → (rank : LineView → K) (a b : LineView) (lines : List LineView) → lt (rank b) (rank a) ≡ false
    → NoneBelow (λ x y. lt (rank x) (rank y)) b lines → NoneBelow (λ x y. lt (rank x) (rank y)) a lines
further lt o rank a b [] low none = tt
further lt o rank a b (line ∷ lines) low none = (o.chain (rank line) (rank b) (rank a) none.0 low, further lt o rank a b lines low none.1)

none_put : {K : Type 0} (lt : K → K → Bool) (rank : LineView → K) (a line : LineView) (lines : List LineView) → lt (rank line) (rank a) ≡ false
    → NoneBelow (λ x y. lt (rank x) (rank y)) a lines → NoneBelow (λ x y. lt (rank x) (rank y)) a (put line lines)
unfolding put
none_put lt rank a line [] low none = (low, tt)
none_put lt rank a line (other ∷ lines) low none =
    let rest = none_put lt rank a line lines low none.1 in
    elim (may_precede line other) as (λ b. NoneBelow (λ x y. lt (rank x) (rank y)) a (cond b (line ∷ other ∷ lines) (other ∷ put line lines))) [ true ↦ (low, none) | false ↦ (none.0, rest) ]

not_so : (b : Bool) → true ≡ not b → b ≡ false
not_so true e = absurd (cc)
not_so false e = refl

is_so : (b : Bool) → false ≡ not b → b ≡ true
is_so true e = refl
is_so false e = absurd (cc)

rises_put : {K : Type 0} (lt : K → K → Bool) → IsStrictWeakOrder lt → (rank : LineView → K) (line : LineView) (lines : List LineView) → FitsAll lt rank line lines
    → Rises (λ x y. lt (rank x) (rank y)) lines → Rises (λ x y. lt (rank x) (rank y)) (put line lines)
unfolding put
rises_put lt o rank line [] fits up = (tt, tt)
rises_put lt o rank line (other ∷ lines) fits up =
    let rest = rises_put lt o rank line lines fits.1 up.1 in
    elim (may_precede line other) as (λ b. b ≡ not (lt (rank other) (rank line)) → Rises (λ x y. lt (rank x) (rank y)) (cond b (line ∷ other ∷ lines) (other ∷ put line lines))) [
      | true ↦ λ e. let low = not_so (lt (rank other) (rank line)) e in ((low, further lt o rank line other lines low up.0), up)
      | false ↦ λ e. let high = o.one_way (rank other) (rank line) (is_so (lt (rank other) (rank line)) e) in (none_put lt rank other line lines high up.0, rest)
    ] fits.0

rises_order : {K : Type 0} (lt : K → K → Bool) → IsStrictWeakOrder lt → (rank : LineView → K) (lines : List LineView) → Fits lt rank lines → Rises (λ x y. lt (rank x) (rank y)) (in_order lines)
unfolding in_order
rises_order lt o rank [] fits = tt
rises_order lt o rank (line ∷ lines) fits = rises_put lt o rank line (in_order lines) (fits_order lt rank line lines fits.0) (rises_order lt o rank lines fits.1)

-- order of their entries

at_least_all : {X K : Type 0} (lt : K → K → Bool) (key : X → K) (low rank : K) (xs rest : List X) → HaveRank key rank xs → lt rank low ≡ false → AtLeast lt key low rest → AtLeast lt key low (xs ++ rest)
at_least_all lt key low rank [] rest have le more = more
at_least_all lt key low rank (x ∷ xs) rest have le more = (subst (λ k. lt k low ≡ false) (sym have.0) le, at_least_all lt key low rank xs rest have.1 le more)

at_least_lines : {X K : Type 0} (lt : K → K → Bool) (key : X → K) (rank : LineView → K) (es : LineView → List X) → ((line : LineView) → HaveRank key (rank line) (es line)) → (a : LineView) (lines : List LineView)
    → NoneBelow (λ x y. lt (rank x) (rank y)) a lines → AtLeast lt key (rank a) (flat_map es lines)
at_least_lines lt key rank es have a [] none = tt
at_least_lines lt key rank es have a (line ∷ lines) none = at_least_all lt key (rank a) (rank line) (es line) (flat_map es lines) (have line) none.0 (at_least_lines lt key rank es have a lines none.1)

none_of : {X K : Type 0} (lt : K → K → Bool) (key : X → K) (rank : K) (x : X) (xs : List X) → key x ≡ rank → AtLeast lt key rank xs → NoneBelow (λ x y. lt (key x) (key y)) x xs
none_of lt key rank x [] is least = tt
none_of lt key rank x (y ∷ ys) is least = (subst (λ k. lt (key y) k ≡ false) (sym is) least.0, none_of lt key rank x ys is least.1)

rises_front : {X K : Type 0} (lt : K → K → Bool) → IsStrictWeakOrder lt → (key : X → K) (rank : K) (xs rest : List X) → HaveRank key rank xs → AtLeast lt key rank rest
    → Rises (λ x y. lt (key x) (key y)) rest → Rises (λ x y. lt (key x) (key y)) (xs ++ rest)
rises_front lt o key rank [] rest have least up = up
rises_front lt o key rank (x ∷ xs) rest have least up =
    (none_of lt key rank x (xs ++ rest) have.0 (at_least_all lt key rank rank xs rest have.1 (not_below lt o rank (lt rank rank) refl) least), rises_front lt o key rank xs rest have.1 least up)

rises_lines : {X K : Type 0} (lt : K → K → Bool) → IsStrictWeakOrder lt → (key : X → K) (rank : LineView → K) (es : LineView → List X) → ((line : LineView) → HaveRank key (rank line) (es line)) → (lines : List LineView)
    → Rises (λ x y. lt (rank x) (rank y)) lines → Rises (λ x y. lt (key x) (key y)) (flat_map es lines)
rises_lines lt o key rank es have [] up = tt
rises_lines lt o key rank es have (line ∷ lines) up =
    rises_front lt o key (rank line) (es line) (flat_map es lines) (have line) (at_least_lines lt key rank es have line lines up.0) (rises_lines lt o key rank es have lines up.1)

-- the entries of lines in order are in order
pub entries_rise : {X K : Type 0} (lt : K → K → Bool) → IsStrictWeakOrder lt → (key : X → K) (rank : LineView → K) (es : LineView → List X) → ((line : LineView) → HaveRank key (rank line) (es line)) → (lines : List LineView)
    → Fits lt rank lines → Rises (λ x y. lt (key x) (key y)) (flat_map es (in_order lines))
entries_rise lt o key rank es have lines fits = rises_lines lt o key rank es have (in_order lines) (rises_order lt o rank lines fits)

-- which entries tie

class_step : {X K : Type 0} (lt : K → K → Bool) (key : X → K) (k rank : K) (x : X) (xs : List X) (b : Bool) → key x ≡ rank → ties lt k rank ≡ b
    → filter (λ y. ties lt k (key y)) xs ≡ cond (ties lt k rank) xs [] → filter (λ y. ties lt k (key y)) (x ∷ xs) ≡ cond (ties lt k rank) (x ∷ xs) []
class_step lt key k rank x xs true is e more =
    kept (λ y. ties lt k (key y)) x xs (ap (ties lt k) is ∙ e) ∙ ap (λ ys. x ∷ ys) (more ∙ ap (λ b. cond b xs []) e) ∙ ap (λ b. cond b (x ∷ xs) []) (sym e)
class_step lt key k rank x xs false is e more =
    dropped (λ y. ties lt k (key y)) x xs (ap (ties lt k) is ∙ e) ∙ more ∙ ap (λ b. cond b xs []) e ∙ ap (λ b. cond b (x ∷ xs) []) (sym e)

none_cond : {X : Type 0} (b : Bool) (none : List X) → none ≡ cond b none none
none_cond true none = refl
none_cond false none = refl

class_of : {X K : Type 0} (lt : K → K → Bool) (key : X → K) (k rank : K) (xs : List X) → HaveRank key rank xs → filter (λ y. ties lt k (key y)) xs ≡ cond (ties lt k rank) xs []
class_of lt key k rank [] have = none_cond (ties lt k rank) []
class_of lt key k rank (x ∷ xs) have = class_step lt key k rank x xs (ties lt k rank) have.0 refl (class_of lt key k rank xs have.1)

-- one of the two is empty
exchange : {X : Type 0} (a b : Bool) (xs ys rest : List X) → (a ≡ true → b ≡ true → ⊥) → cond a xs [] ++ (cond b ys [] ++ rest) ≡ cond b ys [] ++ (cond a xs [] ++ rest)
exchange true true xs ys rest never = absurd (never refl refl)
exchange true false xs ys rest never = refl
exchange false b xs ys rest never = refl

not_true : (b : Bool) → not b ≡ true → b ≡ false
not_true true e = absurd (cc)
not_true false e = refl

-- what ties with one of the two does not tie with the other
apart : {K : Type 0} (lt : K → K → Bool) → IsStrictWeakOrder lt → (k a b : K) → lt a b ≡ true → ties lt k a ≡ true → ties lt k b ≡ true → ⊥
apart lt o k a b below left right =
    let p = and_parts (not (lt k a)) (not (lt a k)) left in
    let q = and_parts (not (lt k b)) (not (lt b k)) right in
    let same : lt a b ≡ false = o.chain a k b (not_true (lt a k) p.1) (not_true (lt k b) q.0) in
    let clash : true ≡ false = sym below ∙ same in absurd (cc)

class_put : {X K : Type 0} (lt : K → K → Bool) → IsStrictWeakOrder lt → (key : X → K) (rank : LineView → K) (es : LineView → List X) → ((line : LineView) → HaveRank key (rank line) (es line)) → (k : K) (line : LineView) (lines : List LineView)
    → FitsAll lt rank line lines → filter (λ y. ties lt k (key y)) (flat_map es (put line lines)) ≡ filter (λ y. ties lt k (key y)) (es line ++ flat_map es lines)
unfolding put
class_put lt o key rank es have k line [] fits = refl
class_put {X = X} lt o key rank es have k line (other ∷ lines) fits =
    let c : X → Bool = λ y. ties lt k (key y) in
    let more = class_put lt o key rank es have k line lines fits.1 in
    elim (may_precede line other) as (λ b. b ≡ not (lt (rank other) (rank line)) → filter c (flat_map es (cond b (line ∷ other ∷ lines) (other ∷ put line lines))) ≡ filter c (es line ++ (es other ++ flat_map es lines))) [
      | true ↦ λ e. refl
      | false ↦ λ e.
          let below = is_so (lt (rank other) (rank line)) e in
          let one = class_of lt key k (rank line) (es line) (have line) in
          let two = class_of lt key k (rank other) (es other) (have other) in
          filter-append c (es other) (flat_map es (put line lines))
          ∙ ap (λ xs. filter c (es other) ++ xs) (more ∙ filter-append c (es line) (flat_map es lines))
          ∙ ap (λ xs. xs ++ (filter c (es line) ++ filter c (flat_map es lines))) two ∙ ap (λ xs. cond (ties lt k (rank other)) (es other) [] ++ (xs ++ filter c (flat_map es lines))) one
          ∙ exchange (ties lt k (rank other)) (ties lt k (rank line)) (es other) (es line) (filter c (flat_map es lines)) (apart lt o k (rank other) (rank line) below)
          ∙ ap (λ xs. cond (ties lt k (rank line)) (es line) [] ++ (xs ++ filter c (flat_map es lines))) (sym two)
          ∙ ap (λ xs. xs ++ (filter c (es other) ++ filter c (flat_map es lines))) (sym one)
          ∙ ap (λ xs. filter c (es line) ++ xs) (sym (filter-append c (es other) (flat_map es lines)))
          ∙ sym (filter-append c (es line) (es other ++ flat_map es lines))
    ] fits.0

-- and those that tie keep their order
pub entries_keep : {X K : Type 0} (lt : K → K → Bool) → IsStrictWeakOrder lt → (key : X → K) (rank : LineView → K) (es : LineView → List X) → ((line : LineView) → HaveRank key (rank line) (es line)) → (k : K) (lines : List LineView)
    → Fits lt rank lines → filter (λ y. ties lt k (key y)) (flat_map es (in_order lines)) ≡ filter (λ y. ties lt k (key y)) (flat_map es lines)
unfolding in_order
entries_keep lt o key rank es have k [] fits = refl
entries_keep {X = X} lt o key rank es have k (line ∷ lines) fits =
    let c : X → Bool = λ y. ties lt k (key y) in
    class_put lt o key rank es have k line (in_order lines) (fits_order lt rank line lines fits.0)
    ∙ filter-append c (es line) (flat_map es (in_order lines))
    ∙ ap (λ xs. filter c (es line) ++ xs) (entries_keep lt o key rank es have k lines fits.1)
    ∙ sym (filter-append c (es line) (flat_map es lines))

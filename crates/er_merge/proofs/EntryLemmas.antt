-- The entries of parts in their order are those of the parts' lines in their order.
use Rattle.std.proofs.Common.{◌≡◌, ℕ, suc, ◌==◌, Bool, true, false, not, ◌&&◌, ◌||◌, List, [], ◌∷◌, map, flat_map, filter, nat_lt, nat_le, refl, sym, ap, ◌∙◌, subst, inl, inr, arith}
use Rattle.std.specs.Cmp.{IsStrictWeakOrder}
use Rattle.std.specs.List.{Contains}
use Rattle.std.specs.List.Sorted.{ties}
use Rattle.std.specs.Ordering.{is_lt, nat_cmp, ordering_then}
use Rattle.std.proofs.lemmas.Bool.Decides.{nat_tests}
use Rattle.std.proofs.lemmas.Bool.{cases_lt}
use Rattle.std.proofs.lemmas.Cmp.{nat_cmp_total, on_total, then_total}
use Rattle.std.proofs.lemmas.List.Sorted.{ranks_by}
use Rattle.er_lines.specs.Lines.{Line, lines_of}
use Rattle.er_parts.specs.Merged.{in_order, line_number, line_word, may_precede}
use Rattle.er_print.specs.Printed.{line_text}
use Rattle.er_print.specs.declared.lines.ReportKind.TheVariants.{Lockset}
use Rattle.er_report.specs.Lines.{LineView}
use Rattle.er_trace.specs.Names.{NameTable}
use Rattle.er_merge.specs.Merging.{IsInOrder, place_order}
use Rattle.er_merge.specs.Parts.{EntryView, entry_view}
use Rattle.er_merge.specs.Texts.{AddressesFollow, address_of, entries_of, place_of}
use Rattle.er_merge.specs.declared.lines.Place.{Place}
use Rattle.er_merge.specs.declared.parts.Entry.{Entry}
use Rattle.er_merge.proofs.InOrderLemmas.{Fits, FitsAll, HaveRank, entries_keep, entries_rise}
use Rattle.er_merge.proofs.OrderLemmas.{entries_ordered}
use Rattle.er_merge.proofs.SortLemmas.{NoneBelow, Rises, dropped, kept, rises_sorted, same_lists}

none_map : {X Y : Type 0} (v : X → Y) (lt : Y → Y → Bool) (x : X) (xs : List X) → NoneBelow (λ a b. lt (v a) (v b)) x xs → NoneBelow lt (v x) (map v xs)
none_map v lt x [] none = tt
none_map v lt x (y ∷ ys) none = (none.0, none_map v lt x ys none.1)

rises_map : {X Y : Type 0} (v : X → Y) (lt : Y → Y → Bool) (xs : List X) → Rises (λ a b. lt (v a) (v b)) xs → Rises lt (map v xs)
rises_map v lt [] up = tt
rises_map v lt (x ∷ xs) up = (none_map v lt x xs up.0, rises_map v lt xs up.1)

filter_step : {X Y : Type 0} (v : X → Y) (p : Y → Bool) (x : X) (xs : List X) (b : Bool) → p (v x) ≡ b → filter p (map v xs) ≡ map v (filter (λ x. p (v x)) xs)
    → filter p (map v (x ∷ xs)) ≡ map v (filter (λ x. p (v x)) (x ∷ xs))
filter_step v p x xs true e more = kept p (v x) (map v xs) e ∙ ap (λ ys. v x ∷ ys) more ∙ sym (ap (map v) (kept (λ x. p (v x)) x xs e))
filter_step v p x xs false e more = dropped p (v x) (map v xs) e ∙ more ∙ sym (ap (map v) (dropped (λ x. p (v x)) x xs e))

filter_map_of : {X Y : Type 0} (v : X → Y) (p : Y → Bool) (xs : List X) → filter p (map v xs) ≡ map v (filter (λ x. p (v x)) xs)
filter_map_of v p [] = refl
filter_map_of v p (x ∷ xs) = filter_step v p x xs (p (v x)) refl (filter_map_of v p xs)

-- the order of places
abbrev pub place_lt : Place → Place → Bool
place_lt a b = is_lt (ordering_then (nat_cmp a.line b.line) (nat_cmp a.address b.address))

places_ordered : IsStrictWeakOrder place_lt
places_ordered =
    ranks_by (then_total (on_total (λ (place : Place). place.line) nat_cmp_total) (on_total (λ (place : Place). place.address) nat_cmp_total)) (λ (place : Place). place)

views_ordered : IsStrictWeakOrder (λ (a b : EntryView). place_lt a.place b.place)
views_ordered =
    ranks_by (then_total (on_total (λ (place : Place). place.line) nat_cmp_total) (on_total (λ (place : Place). place.address) nat_cmp_total)) (λ (view : EntryView). view.place)

-- by numbers alone
order_is : (la lb aa ab wa wb : ℕ) → (la ≡ lb → nat_le aa ab ≡ nat_le wa wb)
    → (nat_lt la lb || (la == lb && nat_le wa wb)) ≡ not (is_lt (ordering_then (nat_cmp lb la) (nat_cmp ab aa)))
order_is la lb aa ab wa wb same =
    elim (cases_lt la lb) [
      | inl less ↦ grind (arith, nat_tests, less)
      | inr most ↦ elim (cases_lt lb la) [
        | inl more ↦ grind (arith, nat_tests, more)
        | inr least ↦ let is : la ≡ lb = omega (arith, most, least) in let words = same is in
            subst (λ l. (nat_lt la l || (la == l && nat_le wa wb)) ≡ not (is_lt (ordering_then (nat_cmp l la) (nat_cmp ab aa)))) is (grind (arith, nat_tests, words))
      ]
    ]

fits_one : (names : NameTable) (a b : LineView) → (line_number a ≡ line_number b → nat_le (address_of names a) (address_of names b) ≡ nat_le (line_word a) (line_word b))
    → may_precede a b ≡ not (place_lt (place_of names b) (place_of names a))
unfolding may_precede
fits_one names a b same = order_is (line_number a) (line_number b) (address_of names a) (address_of names b) (line_word a) (line_word b) same

fits_all : (names : NameTable) (a : LineView) (lines : List LineView)
    → ((b : LineView) → Contains lines b → line_number a ≡ line_number b → nat_le (address_of names a) (address_of names b) ≡ nat_le (line_word a) (line_word b))
    → FitsAll place_lt (place_of names) a lines
fits_all names a [] follow = tt
fits_all names a (b ∷ lines) follow =
    (fits_one names a b (follow b (0, omega arith, refl)), fits_all names a lines (λ c there. follow c (suc there.0, omega (arith, there.1), there.2)))

pub fits_lines : (names : NameTable) (lines : List LineView) → AddressesFollow names lines → Fits place_lt (place_of names) lines
fits_lines names [] follow = tt
fits_lines names (line ∷ lines) follow = (
  fits_all names line lines (λ b there. follow line b (0, omega arith, refl) (suc there.0, omega (arith, there.1), there.2)),
  fits_lines names lines (λ a b first second. follow a b (suc first.0, omega (arith, first.1), first.2) (suc second.0, omega (arith, second.1), second.2)),
)

have_place : (place : Place) (lines : List Line) → HaveRank (λ (view : EntryView). view.place) place (map (λ (part : Line). record { place = place; text = part.bytes }) lines)
have_place place [] = tt
have_place place (line ∷ lines) = (refl, have_place place lines)

-- entries of lines, in the order of entries, are the entries of the lines in their order
pub entries_in_order : (names : NameTable) (lines : List LineView) (old new : List Entry) → map entry_view old ≡ flat_map (entries_of names) lines → IsInOrder old new → AddressesFollow names lines
    → map entry_view new ≡ flat_map (entries_of names) (in_order lines)
entries_in_order names lines old new are order follow =
    let fits = fits_lines names lines follow in
    let have : (line : LineView) → HaveRank (λ (view : EntryView). view.place) (place_of names line) (entries_of names line) =
    λ line. have_place (place_of names line) (lines_of (line_text Lockset names line)) in
    let left = rises_map entry_view (λ (a b : EntryView). place_lt a.place b.place) new (rises_sorted (λ (a b : Entry). is_lt (place_order a b)) entries_ordered new order.sorted) in
    let right = entries_rise place_lt places_ordered (λ (view : EntryView). view.place) (place_of names) (entries_of names) have lines fits in
    let classes : (x : EntryView) → filter (ties (λ (a b : EntryView). place_lt a.place b.place) x) (map entry_view new)
    ≡ filter (ties (λ (a b : EntryView). place_lt a.place b.place) x) (flat_map (entries_of names) (in_order lines)) =
    λ x. let c : EntryView → Bool = ties (λ (a b : EntryView). place_lt a.place b.place) x in
    let entry : Entry = record { place = x.place; text = record { ref_ptr = (0, 0); now = [] } } in
    filter_map_of entry_view c new ∙ ap (map entry_view) (order.stable entry) ∙ sym (filter_map_of entry_view c old) ∙ ap (filter c) are
    ∙ sym (entries_keep place_lt places_ordered (λ (view : EntryView). view.place) (place_of names) (entries_of names) have x.place lines fits) in
    same_lists (λ (a b : EntryView). place_lt a.place b.place) views_ordered (map entry_view new) (flat_map (entries_of names) (in_order lines)) left right classes

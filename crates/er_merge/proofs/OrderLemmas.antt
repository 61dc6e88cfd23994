-- Entries that were sorted by a closure that answers by their order.
use Rattle.std.proofs.Common.{◌≡◌, Bool, List, ap}
use Rattle.std.specs.Cmp.{IsStrictWeakOrder}
use Rattle.std.specs.Ordering.{is_lt}
use Rattle.std.specs.Fn.{Called, ComparesAs}
use Rattle.std.specs.List.Sorted.{IsSorted, IsSortedBy, IsStable, IsStableBy}
use Rattle.std.specs.declared.cmp.Ordering.{Ordering}
use Rattle.std.proofs.lemmas.Cmp.{nat_cmp_total, on_total, then_total}
use Rattle.std.proofs.lemmas.Fn.{always_returns_same}
use Rattle.std.proofs.lemmas.List.Sorted.{ranks_by}
use denote.Param.Members.{Mut}
use denote.Ref.{Bor}
use Rattle.er_merge.specs.Merging.{place_order}
use Rattle.er_merge.specs.declared.parts.Entry.{Entry}

-- their order is one
pub entries_ordered : IsStrictWeakOrder (λ (x y : Entry). is_lt (place_order x y))
entries_ordered =
    ranks_by (then_total (on_total (λ (entry : Entry). entry.place.line) nat_cmp_total) (on_total (λ (entry : Entry). entry.place.address) nat_cmp_total)) (λ (entry : Entry). entry)

answers_so : {F : Type 0} {g : Mut F (Bor Entry × (Bor Entry × Unit {0})) Ordering} {f : F}
    → ((a : Bor Entry × (Bor Entry × Unit {0})) (r : Ordering) (f' : F) → Called g f a r f' → (r ≡ place_order a.0.now a.1.0.now) × (f' ≡ f)) → ComparesAs g (λ (x y : Entry). is_lt (place_order x y)) f
answers_so {g = g} {f = f} answers =
    always_returns_same g (λ a r. is_lt r ≡ is_lt (place_order a.0.now a.1.0.now)) f (λ a r f' k. (ap is_lt (answers a r f' k).0, (answers a r f' k).1))

pub entries_sorted : {F : Type 0} {g : Mut F (Bor Entry × (Bor Entry × Unit {0})) Ordering} {f : F} (entries : List Entry)
    → ((lt : Entry → Entry → Bool) → IsStrictWeakOrder lt → ComparesAs g lt f → IsSortedBy lt entries)
    → ((a : Bor Entry × (Bor Entry × Unit {0})) (r : Ordering) (f' : F) → Called g f a r f' → (r ≡ place_order a.0.now a.1.0.now) × (f' ≡ f)) → IsSorted place_order entries
entries_sorted {g = g} {f = f} entries up answers = up (λ (x y : Entry). is_lt (place_order x y)) entries_ordered (answers_so {g = g} {f = f} answers)

pub entries_stable : {F : Type 0} {g : Mut F (Bor Entry × (Bor Entry × Unit {0})) Ordering} {f : F} (old new : List Entry)
    → ((lt : Entry → Entry → Bool) → IsStrictWeakOrder lt → ComparesAs g lt f → IsStableBy lt old new)
    → ((a : Bor Entry × (Bor Entry × Unit {0})) (r : Ordering) (f' : F) → Called g f a r f' → (r ≡ place_order a.0.now a.1.0.now) × (f' ≡ f)) → IsStable place_order old new
entries_stable {g = g} {f = f} old new keeps answers = keeps (λ (x y : Entry). is_lt (place_order x y)) entries_ordered (answers_so {g = g} {f = f} answers)

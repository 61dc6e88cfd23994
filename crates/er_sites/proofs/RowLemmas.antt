-- The rows of the sites so far, with one more site.
use Rattle.std.proofs.Common.{◌≡◌, Bool, ◌≤◌, ◌+◌, ◌∙◌, ℕ, All, cond, nat_lt, nat_eq, List, [], ◌∷◌, ◌++◌, length, slice_index, count_by, ap, append_assoc, arith}
use Rattle.std.specs.List.{sum_by}
use Rattle.std.proofs.lemmas.List.Elements.{All-append, All-cons}
use Rattle.std.proofs.lemmas.List.{get_or_past}
use Rattle.std.proofs.lemmas.List.Sums.{sum_by_push}
use Rattle.std.specs.Cmp.{IsStrictWeakOrder, bool_cmp_total}
use Rattle.std.specs.Ordering.{is_lt}
use Rattle.std.proofs.lemmas.Cmp.{nat_cmp_total, on_total, then_total, back_total}
use Rattle.std.proofs.lemmas.List.Sorted.{ranks_by}
use denote.Ref.{Bor}
use denote.Param.Members.{Mut}
use Rattle.std.specs.declared.cmp.Ordering.{Ordering}
use Rattle.std.specs.Fn.{Called, ComparesAs}
use Rattle.std.specs.List.Sorted.{IsSorted, IsSortedBy}
use Rattle.std.proofs.lemmas.Fn.{always_returns_same}
use Rattle.er_trace.specs.Names.{NameTable}
use Rattle.std.proofs.lemmas.Bool.Decides.{nat_tests}
use Rattle.er_report.specs.declared.report.Line.{Line}
use Rattle.er_sites.specs.declared.counts.Counts.{Counts}
use Rattle.er_sites.specs.declared.row.SiteRow.{SiteRow}
use Rattle.er_sites.specs.Counted.{AreCounts}
use Rattle.er_sites.specs.Inner.Rows.{HasRowsBelow}
use Rattle.er_sites.specs.Table.{races_in, races_of, reads_at, reuses_at, writes_at, races_at, row_order, IsOwnCount}

-- the words of the sites below the next one
below_next : (f : ℕ → ℕ) (w q site : ℕ) → w ≡ f site → cond (nat_lt q site) (f q) 0 + cond (nat_eq site q) w 0 ≡ cond (nat_lt q (site + 1)) (f q) 0
below_next f w q site own = grind (arith, nat_tests)

below_none : (f : ℕ → ℕ) (q site : ℕ) → f site ≡ 0 → cond (nat_lt q site) (f q) 0 ≡ cond (nat_lt q (site + 1)) (f q) 0
below_none f q site none = grind (arith, nat_tests)

-- a row of the next site
pub row_added : (names : NameTable) (lines : List Line) (rows : List SiteRow) (row : SiteRow) (site : ℕ) → HasRowsBelow names lines rows site → row.site ≡ site
    → IsOwnCount names lines row → races_of row ≡ races_at lines site → HasRowsBelow names lines (rows ++ row ∷ []) (site + 1)
row_added names lines rows row site before here own words =
    record {
      own = All-append (IsOwnCount names lines) rows (row ∷ []) before.own (All-one names lines row own);
      each = λ q.
          sum_by_push (races_in q) rows row ∙ ap (λ (n : ℕ). n + races_in q row) (before.each q)
          ∙ rw here (below_next (races_at lines) (races_of row) q site words);
    }
  where
    All-one : (names : NameTable) (lines : List Line) (row : SiteRow) → IsOwnCount names lines row → All (IsOwnCount names lines) (row ∷ [])
    All-one names lines row own = All-cons (IsOwnCount names lines) row [] own (λ k d h. absurd (omega arith))

-- no row, since the next site has no races
pub none_added : (names : NameTable) (lines : List Line) (rows : List SiteRow) (site : ℕ) → HasRowsBelow names lines rows site → races_at lines site ≡ 0 → HasRowsBelow names lines rows (site + 1)
none_added names lines rows site before none =
    record { own = before.own; each = λ q. before.each q ∙ below_none (races_at lines) q site none }

all_below : (f : ℕ → ℕ) (s site : ℕ) → (site ≤ s → f s ≡ 0) → cond (nat_lt s site) (f s) 0 ≡ f s
all_below f s site past = grind (arith, nat_tests, past)

-- the rows below the end of both lists are all rows
pub each_site : (names : NameTable) (lines : List Line) (counts : Counts) (rows : List SiteRow) (site : ℕ) → AreCounts lines counts → HasRowsBelow names lines rows site
    → length counts.reads.items ≤ site → length counts.writes.items ≤ site → length counts.reuses.items ≤ site → (s : ℕ) → sum_by (races_in s) rows ≡ races_at lines s
each_site names lines counts rows site known before reads writes reuses s = before.each s ∙ all_below (races_at lines) s site none
  where
    none : site ≤ s → races_at lines s ≡ 0
    none past =
        let no_reads : slice_index counts.reads.items s ≡ 0 = get_or_past counts.reads.items s 0 (omega arith) in
        let no_writes : slice_index counts.writes.items s ≡ 0 = get_or_past counts.writes.items s 0 (omega arith) in
        let no_reuses : slice_index counts.reuses.items s ≡ 0 = get_or_past counts.reuses.items s 0 (omega arith) in
        let read : slice_index counts.reads.items s ≡ count_by (reads_at s) lines = known.reads s in
        let written : slice_index counts.writes.items s ≡ count_by (writes_at s) lines = known.writes s in
        let reused : slice_index counts.reuses.items s ≡ count_by (reuses_at s) lines = known.reuses s in
        omega arith

-- the order of rows is one
pub rows_ordered : IsStrictWeakOrder (λ (x y : SiteRow). is_lt (row_order x y))
rows_ordered = ranks_by (then_total (on_total (λ (row : SiteRow). row.is_system) bool_cmp_total) (then_total (back_total (on_total races_of nat_cmp_total)) (on_total (λ (row : SiteRow). row.site) nat_cmp_total))) (λ (row : SiteRow). row)

-- rows that were sorted by a closure that answers by this order are in order
pub rows_sorted : {F : Type 0} {g : Mut F (Bor SiteRow × (Bor SiteRow × Unit {0})) Ordering} {f : F} (rows : List SiteRow)
    → ((lt : SiteRow → SiteRow → Bool) → IsStrictWeakOrder lt → ComparesAs g lt f → IsSortedBy lt rows)
    → ((a : Bor SiteRow × (Bor SiteRow × Unit {0})) (r : Ordering) (f' : F) → Called g f a r f' → (r ≡ row_order a.0.now a.1.0.now) × (f' ≡ f)) → IsSorted row_order rows
rows_sorted {g = g} {f = f} rows up answers = up (λ (x y : SiteRow). is_lt (row_order x y)) rows_ordered
    (always_returns_same g (λ a r. is_lt r ≡ is_lt (row_order a.0.now a.1.0.now)) f (λ a r f' k. (ap is_lt (answers a r f' k).0, (answers a r f' k).1)))

-- four texts put one behind another
pub put_four : (old a b c d r s t u : List ℕ) → a ≡ old ++ r → b ≡ a ++ s → c ≡ b ++ t → d ≡ c ++ u → d ≡ old ++ (r ++ s ++ t ++ u)
put_four old a b c d r s t u first second third fourth = rw (fourth, third, second, first) (simp append_assoc)

-- two texts put one behind the other
pub put_two : (old front new first second : List ℕ) → front ≡ old ++ first → new ≡ front ++ second → new ≡ old ++ (first ++ second)
put_two old front new first second one two = two ∙ ap (λ (text : List ℕ). text ++ second) one ∙ append_assoc old first second

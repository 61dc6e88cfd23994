-- A site without an example has no races and no row, and else the row counts the races of its site.
use Rattle.std.proofs.Common.{◌≡◌, ◌+◌, ◌<◌, ◌≤◌, ℕ, List, Option, Some, None, length, slice_index, slice_index_or, count_by, ◌∙◌, ap, sym, subst, arith}
use Rattle.std.specs.List.{position}
use Rattle.er_report.specs.declared.report.Line.{Line}
use Rattle.er_sites.specs.Table.{is_at, races_at, reads_at, reuses_at, writes_at}
use Rattle.er_sites.proofs.ExampleLemmas.{position_none, position_some, races_are}
use Rattle.er_sites.proofs.NameLemmas.{first_named}
use Rattle.er_sites.proofs.RowLemmas.{none_added, row_added}
use Rattle.er_sites.proofs.table.add_site.Goals as goal

pub returns-in_default : goal.returns-in_default
returns-in_default c =
    let lines : List Line = c.args.lines.now in
    let none : position (is_at c.args.site) lines ≡ None =
    sym (c.example_at.ensures ∙ ap (λ (xs : List (Option ℕ)). slice_index_or xs c.args.site None) c.deref.ensures.value ∙ c.requires.examples c.args.site) ∙ c.in_default.is in
    none_added c.args.names.now lines c.args.rows.now.items c.args.site c.requires.below (races_are c.args.site lines ∙ position_none (is_at c.args.site) lines none)

pub is_system_site-requires : goal.is_system_site-requires
is_system_site-requires c =
    let lines : List Line = c.args.lines.now in
    let found : position (is_at c.args.site) lines ≡ Some c.in-Some.example =
    sym (c.example_at.ensures ∙ ap (λ (xs : List (Option ℕ)). slice_index_or xs c.args.site None) c.deref.ensures.value ∙ c.requires.examples c.args.site) ∙ c.in-Some.is in
    subst (λ (s : ℕ). s ≤ length c.args.names.now.sites) (sym c.new-number.ensures) (first_named c.args.names.now lines c.args.site c.in-Some.example c.requires.names found)

pub returns : goal.returns
returns c =
    let lines : List Line = c.args.lines.now in
    let found : position (is_at c.args.site) lines ≡ Some c.in-Some.example =
    sym (c.example_at.ensures ∙ ap (λ (xs : List (Option ℕ)). slice_index_or xs c.args.site None) c.deref.ensures.value ∙ c.requires.examples c.args.site) ∙ c.in-Some.is in
    let site : ℕ = c.new-number.result in
    let read : c.count_at.result ≡ count_by (reads_at site) lines = c.count_at.ensures ∙ ap (λ (xs : List ℕ). slice_index xs site) c.deref-2.ensures.value ∙ c.requires.counts.reads site in
    let written : c.count_at-2.result ≡ count_by (writes_at site) lines = c.count_at-2.ensures ∙ ap (λ (xs : List ℕ). slice_index xs site) c.deref-3.ensures.value ∙ c.requires.counts.writes site in
    let reused : c.count_at-3.result ≡ count_by (reuses_at site) lines = c.count_at-3.ensures ∙ ap (λ (xs : List ℕ). slice_index xs site) c.deref-4.ensures.value ∙ c.requires.counts.reuses site in
    let at : races_at lines site ≡ races_at lines c.args.site = ap (races_at lines) c.new-number.ensures in
    let races : count_by (reads_at c.args.site) lines + count_by (writes_at c.args.site) lines + count_by (reuses_at c.args.site) lines ≡ count_by (is_at c.args.site) lines = races_are c.args.site lines in
    let some : 0 < count_by (is_at c.args.site) lines = position_some (is_at c.args.site) c.in-Some.example lines found in
    rw c.in_ok-push.ensures.items (row_added c.args.names.now lines _ _ c.args.site c.requires.below c.new-number.ensures
    (record {
      reads = read;
      writes = written;
      reuses = reused;
      some = omega arith;
      example = ap (λ (s : ℕ). position (is_at s) lines) c.new-number.ensures ∙ found;
      system = c.is_system_site.ensures;
    })
    (rw (read, written, reused) at))

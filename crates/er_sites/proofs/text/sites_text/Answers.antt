-- The sites of both tables have names.
use Rattle.std.proofs.Common.{◌≤◌, ◌∙◌, All, length, sym, subst}
use Rattle.er_report.specs.Names.{HasNames}
use Rattle.er_sites.proofs.SiteLemmas.{lines_named, others_hold, table_named}
use Rattle.er_sites.specs.declared.row.SiteRow.{SiteRow}
use Rattle.er_sites.proofs.text.sites_text.Goals as goal

pub text_of_rows-requires-clause-first : goal.text_of_rows-requires-clause-first
text_of_rows-requires-clause-first c =
    subst (All (λ (row : SiteRow). row.site ≤ length c.args.legend.now.names.now.sites)) (sym c.deref-2.ensures.value)
    (table_named c.args.legend.now.names.now c.lines_or-unordered.result.now c.in_ok-first.first.items
    (subst (All (HasNames c.args.legend.now.names.now)) (sym c.lines_or-unordered.ensures) (lines_named c.args.legend.now.names.now c.args.reports.now.unordered c.requires.unordered)) c.in_ok-first.ensures)

pub text_of_rows-requires-clause-others : goal.text_of_rows-requires-clause-others
text_of_rows-requires-clause-others c =
    subst (All (λ (row : SiteRow). row.site ≤ length c.args.legend.now.names.now.sites)) (sym (c.deref-3.ensures.value ∙ c.in_ok-others.ensures))
    (others_hold (λ (row : SiteRow). row.site ≤ length c.args.legend.now.names.now.sites) c.lines_or-unordered.result.now c.deref.result.now
    (subst (All (λ (row : SiteRow). row.site ≤ length c.args.legend.now.names.now.sites)) (sym c.deref.ensures.value)
    (table_named c.args.legend.now.names.now c.lines_or.result.now c.in_ok-all.all.items
    (subst (All (HasNames c.args.legend.now.names.now)) (sym c.lines_or.ensures) (lines_named c.args.legend.now.names.now c.args.reports.now.lockset c.requires.lockset)) c.in_ok-all.ensures)))

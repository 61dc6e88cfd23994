-- The heading, the sites and then the reuses, one after another.
use Rattle.std.proofs.Common.{◌≡◌, ◌++◌, ◌∙◌, ℕ, Bool, List, codes, ap}
use Rattle.std.proofs.lemmas.Result.{on_ok_weaker}
use Rattle.er_print.proofs.DigitLemmas.{put_three}
use Rattle.er_report.specs.declared.report.Line.{Line}
use Rattle.er_sites.proofs.SiteLemmas.{none_is}
use Rattle.er_sites.specs.Sites.{are_none, nothing_in, title_of}
use Rattle.er_sites.specs.Text.{rows_text}
use Rattle.er_sites.specs.declared.row.SiteRow.{SiteRow}
use Rattle.er_sites.proofs.text.put_run.Goals as goal

pub returns : goal.returns
returns c =
    let old : List ℕ = c.args.out.now.items in
    let rows : List SiteRow = c.args.rows.now in
    let lines : List Line = c.in-Some.report.lines.items in
    let title : c.put_title.new.out.items ≡ old ++ title_of (codes "races in this run") (nothing_in lines) (are_none rows) =
    c.in_ok-put_title.ensures
    ∙ ap (λ (nothing : List ℕ). old ++ title_of (codes "races in this run") nothing c.is_empty.result) (c.nothing_in-nothing.ensures ∙ ap nothing_in c.deref.ensures.value)
    ∙ ap (λ (none : Bool). old ++ title_of (codes "races in this run") (nothing_in lines) none) (c.is_empty.ensures ∙ none_is rows) in
    let sites : c.put_rows.new.out.items ≡ c.put_title.new.out.items ++ rows_text c.args.legend.now.names.now c.args.legend.now.places.now lines rows = rw c.deref-2.ensures.value at c.in_ok-put_rows.ensures in
    rw c.in-Some.is (on_ok_weaker c.put_reuses.result (put_three old _ _ _ _ _ _ title sites) (rw c.deref-3.ensures.value at c.put_reuses.ensures))

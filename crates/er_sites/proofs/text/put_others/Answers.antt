-- The sites stand behind their heading, if they have one.
use Rattle.std.proofs.Common.{◌≡◌, ◌∙◌, ◌++◌, ℕ, Bool, List, codes, ap, sym}
use Rattle.std.proofs.lemmas.List.{append-nil}
use Rattle.std.proofs.lemmas.Result.{on_ok_weaker}
use Rattle.er_print.proofs.DigitLemmas.{put_two}
use Rattle.er_sites.proofs.SiteLemmas.{none_is}
use Rattle.er_sites.specs.Sites.{are_none, others_title, title_of}
use Rattle.er_sites.specs.declared.row.SiteRow.{SiteRow}
use Rattle.er_sites.proofs.text.put_others.Goals as goal
use Rattle.er_sites.proofs.text.put_others.Goals.{then-below+in_ok-put_title, else-below}

pub returns : goal.returns
returns c =
    let old : List ℕ = c.args.out.now.items in
    let rows : List SiteRow = c.args.rows.now in
    let title : c.if-below.out.items ≡ old ++ others_title c.args.below (are_none rows) =
    elim c.if-below.branch [
      | then-below+in_ok-put_title w ↦
          ap (λ v. v.items) w.out-is ∙ w.in_ok-put_title.ensures
          ∙ ap (λ (none : Bool). old ++ title_of (codes "no common lock") (codes ": no further site\n\n") none) (w.is_empty.ensures ∙ none_is rows)
          ∙ ap (λ (below : Bool). old ++ others_title below (are_none rows)) (sym w.if-below.true)
      | else-below w ↦
          ap (λ v. v.items) w.out-is ∙ sym (append-nil old) ∙ ap (λ (below : Bool). old ++ others_title below (are_none rows)) (sym w.if-below.false)
    ] in
    rw c.in-Some.is (on_ok_weaker c.put_rows.result (put_two old _ _ _ _ title) (rw c.deref.ensures.value at c.put_rows.ensures))

use Rattle.std.proofs.Common.{◌≡◌, ◌≤◌, ℕ, List, ap, get_or, length, subst, sym, ◌∙◌}
use Rattle.std.proofs.lemmas.List.{length-map, length-set}
use Rattle.er_trace.specs.Appended.{renumbered_site}
use Rattle.er_trace.specs.Names.{number_of}
use Rattle.er_trace.specs.Trace.{HasSiteName}
use Rattle.er_trace.proofs.SameLemmas.{sites_stay}
use Rattle.er_trace.proofs.InPlaceLemmas.{same_read, rest_still, front_on}
use Rattle.er_trace.proofs.RenumberingLemmas.{site_at}
use Rattle.er_trace.proofs.appending.NewTable.number_sites.Goals as goal

pub returns-then-are_same : goal.returns-then-are_same
returns-then-are_same c = λ old new are named.
    let same = c.are_same.ensures c.if-are_same.true in
    sites_stay c.args.self.now.sites old.sites new.sites c.args.sites.now same.2 are.sites named

pub site-requires : goal.site-requires
site-requires c =
    let so_far = c.loop-at.invariant in
    let s = c.index-sites-at.result in
    let same : s ≡ get_or c.args.sites.now c.loop-at.at s = c.index-sites-at.is ∙ same_read c.args.sites.now c.loop-at.sites c.loop-at.at so_far.len c.loop-at-test.true so_far.rest s in
    let known : s ≤ length c.requires.0.sites = subst (λ (n : ℕ). HasSiteName c.requires.0 n) (sym same) (c.requires.3 c.loop-at.at s c.loop-at-test.true) in
    let long : length c.args.self.now.sites ≡ length c.requires.0.sites = ap (λ (ns : List ℕ). length ns) c.requires.2.sites ∙ length-map c.requires.0.sites (number_of c.requires.1.sites) in
    subst (λ (n : ℕ). s ≤ n) (sym long) known

pub loop-at-preserved : goal.loop-at-preserved
loop-at-preserved c =
    let so_far = c.loop-at.invariant in
    let xs = c.args.sites.now in
    let ys = c.loop-at.sites in
    let s = c.index-sites-at.result in
    let same : s ≡ get_or xs c.loop-at.at s = c.index-sites-at.is ∙ same_read xs ys c.loop-at.at so_far.len c.loop-at-test.true so_far.rest s in
    record {
      len = length-set ys c.loop-at.at c.site.result ∙ so_far.len;
      done = λ old new are named.
          let here : HasSiteName old s = subst (λ (n : ℕ). HasSiteName old n) (sym same) (named c.loop-at.at s c.loop-at-test.true) in
          front_on xs ys c.loop-at.at so_far.len c.loop-at-test.true so_far.rest (renumbered_site old.sites new.sites) c.site.result s (so_far.done old new are named)
          (c.site.ensures ∙ site_at c.args.self.now.sites old.sites new.sites s are.sites here ∙ ap (renumbered_site old.sites new.sites) same);
      rest = rest_still xs ys c.loop-at.at so_far.len c.loop-at-test.true so_far.rest c.site.result;
    }

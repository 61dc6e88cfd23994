-- A line more asks as the definition says.
use Rattle.std.proofs.Common.{nat_eq, ap, arith}
use Rattle.std.specs.List.{list_any}
use Rattle.er_places.proofs.AskLemmas.{lines-next, none-asked, sites-next}
use Rattle.er_places.specs.Inner.Sites.{has_site, site_key}
use Rattle.er_places.specs.Wanted.{is_wanted}
use Rattle.er_places.proofs.wanted.Wanted.add_report.Goals as goal

pub loop-line-init : goal.loop-line-init
loop-line-init c = record { sites = λ s k. ap (list_any (nat_eq (site_key s k))) c.with_hasher-sites.ensures.empty; lines = λ number. none-asked c.deref-line-items.result.now number (is_wanted c.args.self.now.lines.keys number) }

pub loop-line-preserved : goal.loop-line-preserved
loop-line-preserved c =
    record {
      sites = sites-next c.deref-line-items.result.now c.loop-line.line-index c.line-item.result (omega arith) c.line-item.is (has_site c.loop-line.sites.keys) (has_site c.add_line.new.sites.keys)
          c.loop-line.invariant.sites c.in_ok-add_line.ensures.sites;
      lines = λ number. lines-next c.deref-line-items.result.now c.loop-line.line-index c.line-item.result (omega arith) c.line-item.is (has_site c.loop-line.sites.keys) number (is_wanted c.args.self.now.lines.keys number)
          (is_wanted c.loop-line.self.lines.keys number) (is_wanted c.add_line.new.self.lines.keys number) c.loop-line.invariant.sites (c.loop-line.invariant.lines number) (c.in_ok-add_line.ensures.lines number);
    }

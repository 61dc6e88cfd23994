use Rattle.std.proofs.Common.{◌/◌}
use Rattle.er_text.specs.Events.{Accesses}
use Rattle.er_text.proofs.UsualLemmas.{ends_behind, site_has_name, access_added, access_behind}
use Rattle.er_text.proofs.fast_path.add_usual_access.Goals as goal

pub site_behind-requires : goal.site_behind-requires
site_behind-requires c = ends_behind c.args.whole.now c.args.bytes.now c.in-Some.led.0 c.in-Some.led.1.now c.requires.end c.in-Some.ensures

pub push-requires-clause-step : goal.push-requires-clause-step
push-requires-clause-step c =
    let numbered = rw c.in-Some-2.is at c.in_ok-site.ensures in
    let n = site_has_name c.args.trace.now c.site_behind.new.trace numbered.0 c.args.thread c.in-Some-2.site c.requires.thread numbered.2 numbered.3 in
    record { thread = n.0; event = n.1 }

pub push-requires-clause-site : goal.push-requires-clause-site
push-requires-clause-site c =
    let numbered = rw c.in-Some-2.is at c.in_ok-site.ensures in
    (site_has_name c.args.trace.now c.site_behind.new.trace numbered.0 c.args.thread c.in-Some-2.site c.requires.thread numbered.2 numbered.3).1

pub returns : goal.returns
returns c =
    let numbered = rw c.in-Some-2.is at c.in_ok-site.ensures in
    let led = c.in-Some.led in (
      Accesses c.args.kind (led.0 / 4) numbered.0,
      access_behind c.args.version c.args.kind c.args.bytes.now led.0 led.1.now numbered.0 c.in-Some.ensures numbered.1,
      access_added c.args.trace.now c.site_behind.new.trace c.push.new.self c.args.line c.args.thread c.args.kind (led.0 / 4) numbered.0 c.in-Some-2.site numbered.2 numbered.3 (rw c.new-word.ensures at c.in_ok-push.ensures.ok),
    )

use Rattle.std.proofs.Common.{◌≡◌, Some, slice_get, refl, ap, sym}
use Rattle.std.proofs.lemmas.Option.{slice_get_read}
use Rattle.er_model.proofs.Parts.{in_range}
use Rattle.er_parallel.specs.declared.worker.Worker.{Worker}
use Rattle.er_parallel.proofs.MergingLemmas.{taken-by}
use Rattle.er_parallel.proofs.crew.take_least.Goals as goal

pub returns : goal.returns
returns c =
    let least = c.in_ok-index.ensures.1 in
    let worker : Worker = c.index-workers-index.result in
    let is = c.index-workers-index.is in
    let there : slice_get c.args.workers.now c.in_ok-index.index ≡ Some worker = slice_get_read c.args.workers.now _ c.in_ok-index.index worker refl (in_range c.args.workers.now c.in_ok-index.index least.head.worker least.head.there) is in
    taken-by c.args.workers.now c.in_ok-index.index c.in_ok-index.ensures.0 worker _ c.pop_front.result there least
    (let items = c.pop_front.ensures.items in cc) (let rest = c.pop_front.ensures.rest in cc) (ap (λ (w : Worker). w.machine) (sym is))

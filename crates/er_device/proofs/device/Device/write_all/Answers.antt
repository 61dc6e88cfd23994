-- One more write keeps what was written a prefix.
use Rattle.std.proofs.Common.{◌∙◌, rules}
use Rattle.std.proofs.lemmas.List.{take_rest}
use Rattle.er_device.proofs.WrittenLemmas.{written_more}
use Rattle.er_device.proofs.device.Device.write_all.Goals as goal

pub loop-at-preserved : goal.loop-at-preserved
loop-at-preserved g c = record {
  within = search rules;
  written = written_more _ _ _ c.args.bytes.now _ c.loop-at.at c.in_ok-at.field-0 (take_rest c.args.bytes.now c.loop-at.at) c.loop-at.invariant.written c.in_ok-at.ensures.bytes;
  working = c.in_ok-at.ensures.failed ∙ c.loop-at.invariant.working;
  taken = c.in_ok-at.ensures.taken ∙ c.loop-at.invariant.taken;
}

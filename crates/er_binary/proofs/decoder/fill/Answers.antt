-- One read more.
use Rattle.std.proofs.Common.{◌≡◌, ◌-◌, length, take, arith, rules}
use borrow.Rule.Slice.PartMut.{post_of, put_mid}
use Rattle.er_binary.proofs.FillLemmas.{filled, kept_more}
use Rattle.er_binary.proofs.decoder.fill.Goals as goal

pub loop-held-preserved : goal.loop-held-preserved
loop-held-preserved g c =
    let held = c.loop-held.held in
    let count = c.in_ok-count.count in
    let bytes = c.loop-held.bytes in
    let buf = c.read.new.buf in
    let tail = post_of held (length bytes - held) bytes in
    let bound = c.in_ok-count.ensures.bound in
    let len : length (put_mid held (length bytes - held) bytes buf) ≡ length bytes = search rules in
    let room : length buf ≡ length bytes - held = search rules in record {
      within = omega arith;
      grown = omega arith;
      same = kept_more _ _ _ (take c.args.held.now c.args.bytes.now) (take held bytes) (take count buf) _ c.loop-held.invariant.same c.in_ok-count.ensures.bytes.0
          (filled bytes buf tail held count c.loop-held.invariant.within bound.0);
    }

use Rattle.std.proofs.Common.{codes}
use Rattle.std.proofs.lemmas.Result.{on_ok_weaker}
use Rattle.er_print.proofs.DigitLemmas.{put_two}
use Rattle.er_print.proofs.naming.put_candidates.Goals as goal

pub returns : goal.returns
returns c =
    let out = c.put_locks_in.new.out.items in
    on_ok_weaker c.put_locks_in.result
    (λ put. put_two c.args.out.now.items c.extend_from_slice.new.self.items out c.args.label.now _ c.in_ok-extend_from_slice.ensures.items
    (put_two c.extend_from_slice.new.self.items c.extend_from_slice-2.new.self.items out (codes ", candidates ") _ c.in_ok-extend_from_slice-2.ensures.items put))
    (rw c.as_slice.ensures.locks at c.put_locks_in.ensures)

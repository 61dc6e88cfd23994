-- The next book stays or goes.
use Rattle.std.proofs.Common.{◌≡◌, ◌≤◌, false, length, slice_index_or, arith}
use Rattle.er_explain.proofs.PlaceLemmas.{is_between, between_in, between_low, between_high, kept-none, kept-less, kept-more}
use Rattle.er_explain.proofs.block.remove_between.Goals.{then-place-lo, then-place-lo-via-then-place-lo, then-place-lo-via-else-place-lo+then-hi-place, else-place-lo+else-hi-place}
use Rattle.er_explain.proofs.block.remove_between.Goals as goal

pub loop-number-init : goal.loop-number-init
loop-number-init g c = kept-none c.args.places.now c.args.books.now.items c.args.lo c.args.hi

pub loop-number-preserved : goal.loop-number-preserved
loop-number-preserved g c =
    let room : length c.args.books.now.items ≤ length c.args.places.now = let few = c.requires.few in let long = c.requires.long in omega (arith, few, long) in
    elim c.if-place-lo.branch [
      | then-place-lo w ↦
          let stays : is_between c.args.lo c.args.hi (slice_index_or c.loop-number.places c.loop-number.number 0) ≡ false = elim w.then-place-lo.branch [
            | then-place-lo-via-then-place-lo w' ↦ between_low c.args.lo c.args.hi _ w'.if-place-lo.true
            | then-place-lo-via-else-place-lo+then-hi-place w' ↦ between_high c.args.lo c.args.hi _ w'.if-hi-place.true
          ] in
          rw (w.books-is, w.places-is, w.kept-is)
          (kept-more c.args.places.now c.args.books.now.items c.args.lo c.args.hi room c.loop-number.places c.loop-number.books.items c.loop-number.kept c.loop-number.number c.loop-number.invariant
          (omega (arith, c.loop-number-test.true, c.len-number-end.ensures)) stays w.swap.new.self.items w.swap.ensures.by_index (omega (arith, w.swap.ensures.len)))
      | else-place-lo+else-hi-place w ↦
          rw (w.books-is, w.places-is, w.kept-is)
          (kept-less c.args.places.now c.args.books.now.items c.args.lo c.args.hi room c.loop-number.places c.loop-number.books.items c.loop-number.kept c.loop-number.number c.loop-number.invariant
          (omega (arith, c.loop-number-test.true, c.len-number-end.ensures)) (between_in c.args.lo c.args.hi _ w.if-place-lo.false w.if-hi-place.false))
    ]

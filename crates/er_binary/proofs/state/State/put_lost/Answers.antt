use Rattle.std.proofs.Common.{◌≡◌, ◌==◌, true, false, sym, arith}
use Rattle.std.proofs.lemmas.Bool.Decides.{nat_tests}
use Rattle.std.proofs.lemmas.List.{append-nil}
use Rattle.std.proofs.lemmas.Result.{on_ok_weaker}
use Rattle.er_binary.proofs.TextLemmas.{put_five, put_if_ok}
use Rattle.er_binary.proofs.state.State.put_lost.Goals as goal

pub returns-then-self-eq0 : goal.returns-then-self-eq0
returns-then-self-eq0 c =
    let none : (c.args.self.now.lost == 0) ≡ true = grind (arith, nat_tests, c.if-self-eq0.true) in rw none (sym (append-nil c.args.out.now.items))

pub returns : goal.returns
returns c =
    let some : (c.args.self.now.lost == 0) ≡ false = grind (arith, nat_tests, c.if-self-eq0.false) in
    rw some (on_ok_weaker c.extend_from_slice-3.result
    (λ last. put_five _ _ _ _ _ _ _ _ _ _ _ c.in_ok-extend_from_slice.ensures.items c.in_ok-put_number.ensures c.in_ok-extend_from_slice-2.ensures.items c.in_ok-put_number-2.ensures last)
    (put_if_ok c.extend_from_slice-3.result _ _ _ c.extend_from_slice-3.ensures.items))

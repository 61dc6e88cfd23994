use Rattle.std.proofs.Common.{◌≡◌, ◌*◌, arith}
use Rattle.std.proofs.lemmas.Bool.Decides.{nat_tests}
use Rattle.er_binary.proofs.NotesLaws.{whole_none}
use Rattle.er_binary.proofs.touches.Said.is_whole.Goals as goal

pub returns-then-self-eq0 : goal.returns-then-self-eq0
returns-then-self-eq0 c = λ is.
    let size : c.args.self.size ≡ 4 * c.args.self.words = grind (arith, nat_tests) in
    whole_none c.args.self c.if-self-eq0.true size

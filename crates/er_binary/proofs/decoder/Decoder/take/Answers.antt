-- What is found is given on.
use Rattle.std.proofs.Common.{refl}
use Rattle.er_binary.specs.Inner.Decoders.{GoesOn, still, to_note}
use Rattle.er_binary.proofs.TakingLaws.{none_behind, noted_behind, some_behind}
use Rattle.er_binary.proofs.decoder.Decoder.take.Goals as goal

pub returns-clause-none : goal.returns-clause-none
unfolding still to_note
returns-clause-none c =
    let began : GoesOn c.args.self.now _ = record { same = λ rest. refl; kept = λ kind n some. refl; noted = record { on = refl; same = λ is rest. refl } } in
    none_behind _ _ _ c.find_lines.result began c.find_lines.ensures.none

pub returns-clause-some : goal.returns-clause-some
unfolding still to_note
returns-clause-some c =
    let began : GoesOn c.args.self.now _ = record { same = λ rest. refl; kept = λ kind n some. refl; noted = record { on = refl; same = λ is rest. refl } } in
    some_behind _ _ _ c.find_lines.result began c.find_lines.ensures.takes

pub returns-clause-noted : goal.returns-clause-noted
unfolding still to_note
returns-clause-noted c =
    let began : GoesOn c.args.self.now _ = record { same = λ rest. refl; kept = λ kind n some. refl; noted = record { on = refl; same = λ is rest. refl } } in
    noted_behind _ _ _ c.find_lines.result began c.find_lines.ensures.none c.find_lines.ensures.takes

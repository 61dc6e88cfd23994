use Rattle.std.proofs.Common.{◌++◌, List, ℕ, refl, ap, ◌∙◌, rules, append-nil}
use Rattle.std.proofs.lemmas.List.{append-nil}
use Rattle.er_binary.specs.Inner.Decoders.{still, to_note}
use Rattle.er_binary.specs.Meaning.{last_line}
use Rattle.er_binary.proofs.DecoderLaws.{same_undecoded}
use Rattle.er_binary.proofs.decoder.Decoder.stop.Goals as goal

pub returns-clause-ok : goal.returns-clause-ok
unfolding still
returns-clause-ok c = λ rest. append-nil _ ∙ c.in_default.ensures ∙ ap (λ (t : List ℕ). t ++ last_line c.args.what.now c.args.byte) c.clear.ensures.items

pub returns-in-Err-clause-err : goal.returns-in-Err-clause-err
returns-in-Err-clause-err c = λ rest. same_undecoded _ _ rest c.requires (search rules) refl

pub returns-clause-touches : goal.returns-clause-touches
unfolding to_note
returns-clause-touches c = λ rest. append-nil _

pub returns-in-Err-clause-same : goal.returns-in-Err-clause-same
unfolding to_note
returns-in-Err-clause-same c = record { on = refl; same = λ is rest. refl }

-- What was noted is handed out, and what is left is of later lines.
use Rattle.std.proofs.Common.{refl, sym, ap, ◌∙◌, rules}
use Rattle.er_binary.specs.Inner.Forms.{names_by}
use Rattle.er_binary.specs.Inner.Decoders.{still}
use Rattle.er_binary.proofs.DecodedLaws.{binary_is, binary_noting, handed_by, kept_by, text_handed, unknown_handed}
use Rattle.er_binary.proofs.TextLemmas.{ok_given}
use Rattle.er_binary.proofs.decoded.Decoded.hand_out.Goals as goal

pub returns-in-Binary-clause-handed : goal.returns-in-Binary-clause-handed
returns-in-Binary-clause-handed g c =
    ok_given _ _ c.hand_out.result (handed_by c.args.self.now _ c.in-Binary.decoder _ c.args.touches.now.items c.hand_out.new.touches.items c.hand_out.result c.in-Binary.is refl
    (λ rest. refl) c.hand_out.ensures.same c.hand_out.ensures.line c.hand_out.ensures.handed c.hand_out.ensures.none)

pub returns-in-Binary-clause-noting : goal.returns-in-Binary-clause-noting
returns-in-Binary-clause-noting g c = c.hand_out.ensures.on ∙ sym (binary_noting c.args.self.now c.in-Binary.decoder c.in-Binary.is)

pub returns-in-Binary-clause-same : goal.returns-in-Binary-clause-same
returns-in-Binary-clause-same g c =
    kept_by c.args.self.now _ c.in-Binary.decoder _ c.args.touches.now.items c.hand_out.new.touches.items c.hand_out.result c.in-Binary.is refl
    (λ rest. refl) c.hand_out.ensures.same c.hand_out.ensures.err

pub returns-in-Binary-clause-text : goal.returns-in-Binary-clause-text
unfolding still
returns-in-Binary-clause-text g c = λ bytes. binary_is _ _ bytes refl ∙ sym (binary_is c.args.self.now c.in-Binary.decoder bytes c.in-Binary.is)

pub returns-in-Binary-clause-names : goal.returns-in-Binary-clause-names
returns-in-Binary-clause-names g c = sym (ap names_by c.in-Binary.is)

pub returns-in-Text-clause-handed : goal.returns-in-Text-clause-handed
returns-in-Text-clause-handed g c = λ on. text_handed c.args.self.now _ _ _ c.in-Text.is (search rules)

pub returns-in-Unknown-clause-handed : goal.returns-in-Unknown-clause-handed
returns-in-Unknown-clause-handed g c = λ on. unknown_handed c.args.self.now _ _ c.in-Unknown.is (search rules) (search rules) (search rules)

-- What a write that failed has left is a beginning of the heading and the text.
use Rattle.std.proofs.Common.{◌≡◌, ◌∙◌, ℕ, List, take, subst}
use Rattle.std.specs.Io.KnownBytes.{Appends}
use Rattle.er_device.specs.Device.{inner_of}
use Rattle.eraser.proofs.PrintLemmas.{torn_back, torn_front}
use Rattle.eraser.proofs.replaying.write_headed.Goals as goal

pub returns-in_default-write_all-clause-bytes : goal.returns-in_default-write_all-clause-bytes
returns-in_default-write_all-clause-bytes g c bytes same =
    torn_front (g.O.Write.contents (inner_of c.args.output.now)) (g.O.Write.contents (inner_of c.write_all.new.self)) c.args.heading.now bytes c.in_default-write_all.ensures.bytes

pub returns-in_default-write_all-2-clause-bytes : goal.returns-in_default-write_all-2-clause-bytes
returns-in_default-write_all-2-clause-bytes g c bytes same =
    let is : c.deref.result.now ≡ bytes = c.deref.ensures.value ∙ (rw c.in-Ok.is at same) in
    let middle = g.O.Write.contents (inner_of c.write_all.new.self) in
    let new = g.O.Write.contents (inner_of c.write_all-2.new.self) in
    torn_back (g.O.Write.contents (inner_of c.args.output.now)) middle new c.args.heading.now bytes c.in-Ok-write_all.ensures.bytes
    (subst (λ (text : List ℕ). (n : ℕ) × Appends middle new (take n text)) is c.in_default-write_all-2.ensures.bytes)

-- A record that is taken, one that may not come, and one for which there was no memory.
use Rattle.std.proofs.Common.{true, ◌≡◌, ◌≤◌, ◌<◌, ◌+◌, ◌++◌, List, ℕ, drop, length, vec_items, vec_len, refl, sym, ap, ◌∙◌, arith, rules}
use Rattle.er_binary.specs.Meaning.{past, take_record}
use Rattle.er_binary.specs.States.{names_in}
use Rattle.er_binary.specs.declared.state.State.{State}
use Rattle.er_binary.proofs.DecoderLaws.{emptied, refused_is, taken_is}
use Rattle.er_binary.proofs.MeaningLaws.{none_at, some_at, within_at}
use Rattle.er_binary.proofs.TextLemmas.{either_way}
use Rattle.er_binary.proofs.decoder.Decoder.next_record.Goals as goal
use Rattle.er_binary.specs.Inner.Decoders.{still}
use Rattle.er_binary.proofs.NotesLaws.{followed, gone_on, noted_none, noted_record, notes_trans, says_is, unnoted}

pub returns-in-Ok-Some-clause-same : goal.returns-in-Ok-Some-clause-same
returns-in-Ok-Some-clause-same g c = λ rest.
    let d = c.args.self.now in
    let n = c.in-Ok-Some.len in
    let within = within_at _ n _ c.in-Ok-Some.field-0-is c.in-Ok-Some.ensures.len in
    let h = some_at (take_record d.state c.split_at.result.1.now) _ _ d.state _ _ n c.in-Ok-Some.field-0-is c.in-Ok-Some.ensures.taken in
    let back = c.split_at.ensures.back ∙ ap (λ (t : List ℕ). drop d.next t) c.deref.ensures.value in
    let all : length (vec_items d.bytes) ≡ vec_len d.bytes = search rules in
    let less : d.next < length (vec_items d.bytes) = omega arith in
    let some : 1 ≤ h.0.len = omega (arith, h.2, within.0) in
    taken_is d _ rest h.0 c.requires.given c.requires.phase less (sym (ap (λ (t : List ℕ). take_record d.state t) back) ∙ h.1) some c.requires.phase refl (h.3 ∙ ap (λ (t : List ℕ). t ++ h.0.text) c.clear.ensures.items) h.4
    (c.pass.ensures ∙ ap (λ (k : ℕ). past d.spot k) h.2) refl (ap (λ (k : ℕ). d.next + k) h.2)

pub returns-in-Ok-None-clause-same : goal.returns-in-Ok-None-clause-same
returns-in-Ok-None-clause-same g c = λ rest.
    let d = c.args.self.now in
    let h = none_at (take_record d.state c.split_at.result.1.now) _ _ d.state _ _ c.in-Ok-None.field-0-is c.in-Ok-None.ensures.taken in
    let back = c.split_at.ensures.back ∙ ap (λ (t : List ℕ). drop d.next t) c.deref.ensures.value in
    let all : length (vec_items d.bytes) ≡ vec_len d.bytes = search rules in
    let less : d.next < length (vec_items d.bytes) = omega arith in
    either_way c.stop.result c.stop.ensures.ok c.stop.ensures.err
    (λ ok. refused_is d rest c.requires.given c.requires.phase less (sym (ap (λ (t : List ℕ). take_record d.state t) back) ∙ h.0) ∙ sym (ok rest))
    (λ err. emptied d _ rest c.requires.given (search rules) refl h.2 refl refl refl refl refl refl ∙ err rest)

pub returns-in-Err-clause-same : goal.returns-in-Err-clause-same
returns-in-Err-clause-same g c = λ rest. emptied c.args.self.now _ rest c.requires.given (search rules) refl c.in-Err.ensures.err refl refl refl refl refl refl

pub returns-then-self-len-clause-kept : goal.returns-then-self-len-clause-kept
returns-then-self-len-clause-kept g c = λ kind n some. ap (λ (s : State). names_in s kind n) c.end_block.ensures.state

pub returns-in-Ok-None-clause-kept : goal.returns-in-Ok-None-clause-kept
returns-in-Ok-None-clause-kept g c = λ kind n some. ap (λ (s : State). names_in s kind n) c.stop.ensures.state ∙ c.in-Ok-None.ensures.kept kind n some

pub returns-in_err-make_room-clause-same : goal.returns-in_err-make_room-clause-same
unfolding still
returns-in_err-make_room-clause-same g c = λ rest. refl

pub returns-in_err-make_room-clause-noted : goal.returns-in_err-make_room-clause-noted
returns-in_err-make_room-clause-noted g c = unnoted c.args.self.now _ c.make_room.ensures.on c.make_room.ensures.touches c.make_room.ensures.line refl refl refl refl refl refl refl refl

pub returns-in-Ok-Some-clause-noted : goal.returns-in-Ok-Some-clause-noted
returns-in-Ok-Some-clause-noted g c =
    let d = c.args.self.now in
    let n = c.in-Ok-Some.len in
    let within = within_at _ n _ c.in-Ok-Some.field-0-is c.in-Ok-Some.ensures.len in
    let h = some_at (take_record d.state c.split_at.result.1.now) _ _ d.state _ _ n c.in-Ok-Some.field-0-is c.in-Ok-Some.ensures.taken in
    let back = c.split_at.ensures.back ∙ ap (λ (t : List ℕ). drop d.next t) c.deref.ensures.value in
    let all : length (vec_items d.bytes) ≡ vec_len d.bytes = search rules in
    let less : d.next < length (vec_items d.bytes) = omega arith in
    let some : 1 ≤ h.0.len = omega (arith, h.2, within.0) in
    let says = λ (is : d.notes.is_on ≡ true). says_is d.state c.split_at.result.1.now h.0 c.said_in_front-said.result h.1 (c.said_in_front-said.ensures.said (c.make_room.ensures.on ∙ is)) in
    noted_record d _ h.0 c.requires.phase less (sym (ap (λ (t : List ℕ). take_record d.state t) back) ∙ h.1) some c.requires.phase h.4
    (c.pass.ensures ∙ ap (λ (k : ℕ). past d.spot k) h.2) refl (ap (λ (k : ℕ). d.next + k) h.2) (c.follow.ensures.on ∙ c.make_room.ensures.on)
    (λ is. followed _ _ _ _ _ _ _ c.make_room.ensures.touches c.make_room.ensures.line (says is) (c.follow.ensures.touches (c.make_room.ensures.on ∙ is)))
    (λ is. gone_on _ _ _ _ _ c.make_room.ensures.line (says is) (c.follow.ensures.line (c.make_room.ensures.on ∙ is)))

pub returns-in-Ok-None-clause-noted : goal.returns-in-Ok-None-clause-noted
returns-in-Ok-None-clause-noted g c =
    let d = c.args.self.now in
    let h = none_at (take_record d.state c.split_at.result.1.now) _ _ d.state _ _ c.in-Ok-None.field-0-is c.in-Ok-None.ensures.taken in
    let back = c.split_at.ensures.back ∙ ap (λ (t : List ℕ). drop d.next t) c.deref.ensures.value in
    let all : length (vec_items d.bytes) ≡ vec_len d.bytes = search rules in
    let less : d.next < length (vec_items d.bytes) = omega arith in
    either_way c.stop.result c.stop.ensures.touches c.stop.ensures.same
    (λ ok. record {
      on = c.stop.ensures.on ∙ c.make_room.ensures.on;
      same = λ is rest. noted_none d rest c.requires.phase less (sym (ap (λ (t : List ℕ). take_record d.state t) back) ∙ h.0) ∙ sym (ok rest ∙ c.make_room.ensures.touches);
    })
    (λ err. notes_trans d _ _ (unnoted d _ c.make_room.ensures.on c.make_room.ensures.touches c.make_room.ensures.line refl h.2 refl refl refl refl refl refl) err)

pub returns-in-Err-clause-noted : goal.returns-in-Err-clause-noted
returns-in-Err-clause-noted g c = unnoted c.args.self.now _ c.make_room.ensures.on c.make_room.ensures.touches c.make_room.ensures.line refl c.in-Err.ensures.err refl refl refl refl refl refl

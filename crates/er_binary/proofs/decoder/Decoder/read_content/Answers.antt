-- The bytes of the records that are there, and those that are still to be read, stay the same.
use Rattle.std.proofs.Common.{◌≡◌, ◌≢◌, ◌<◌, ◌+◌, ◌++◌, List, ℕ, length, take, vec_len, refl, sym, ap, ◌∙◌, arith, rules, length-append, append-nil}
use Rattle.std.proofs.lemmas.List.{length-take-le, take_all, with_items_is}
use Rattle.er_binary.specs.Inner.Decoders.{all_content, still, to_note}
use Rattle.er_binary.specs.Meaning.{as_text, checksum, cut_off, as_touches}
use Rattle.er_binary.specs.Numbers.{plus}
use Rattle.er_binary.proofs.DecoderLaws.{at_end, content_done, content_from, content_now, keeps_by}
use Rattle.er_binary.proofs.MeaningLaws.{content_bad, content_cut, content_good}
use Rattle.er_binary.proofs.TextLemmas.{either_way}
use Rattle.er_binary.proofs.decoder.Decoder.read_content.Goals as goal
use Rattle.er_binary.proofs.NotesLaws.{noted_content, noted_done, noted_now, stays_by}

pub returns-in_err-fill-clause-same : goal.returns-in_err-fill-clause-same
returns-in_err-fill-clause-same g c =
    let d = c.args.self.now in
    let h = c.fill.new.bytes in
    let items = with_items_is d.bytes h (search rules) in
    keeps_by (still d) _ (take d.held c.deref_mut.result.now) (take c.fill.new.held h) _ _ c.fill.ensures.same
    (λ before after is same.
    let was = content_from d before _ c.requires.given c.requires.phase (same ∙ ap (λ (t : List ℕ). take d.held t ++ before) c.deref_mut.ensures.value) in
    content_now d _ h after c.requires.given c.requires.phase refl refl refl items ∙ sym was)

pub returns-then-self-len-clause-same : goal.returns-then-self-len-clause-same
returns-then-self-len-clause-same g c =
    let d = c.args.self.now in
    let h = c.fill.new.bytes in
    let b = take c.fill.new.held h in
    let size : length h ≡ vec_len d.bytes = search rules in
    let items = with_items_is d.bytes h size in
    keeps_by (still d) _ (take d.held c.deref_mut.result.now) b _ _ c.fill.ensures.same
    (λ before after is same.
    let was = content_from d before _ c.requires.given c.requires.phase (same ∙ ap (λ (t : List ℕ). take d.held t ++ before) c.deref_mut.ensures.value) in
    let short : c.fill.new.held < length h = omega (arith, size, c.len.ensures, c.if-self-len.true) in
    let none = ap length (at_end _ after is (c.in_ok-fill.ensures.end short)) in
    let front : length b ≡ c.fill.new.held = length-take-le c.fill.new.held h c.fill.ensures.within in
    let len : length (b ++ after) ≡ c.fill.new.held = omega (arith, length-append b after, none, front) in
    let few : length (b ++ after) < vec_len d.bytes = omega (arith, len, short, size) in
    either_way c.stop.result c.stop.ensures.ok c.stop.ensures.err
    (λ ok. ok after ∙ ap (λ (k : ℕ). cut_off k) (ap (λ (k : ℕ). plus d.spot.start (16 + k)) (sym len))
    ∙ sym (was ∙ content_cut as_text d.spot (vec_len d.bytes) d.state (b ++ after) few))
    (λ err. sym (err after) ∙ content_now d _ h after c.requires.given c.requires.phase refl refl refl items ∙ sym was))

pub returns-then-checksum-self-clause-same : goal.returns-then-checksum-self-clause-same
returns-then-checksum-self-clause-same g c =
    let d = c.args.self.now in
    let h = c.fill.new.bytes in
    let b = take c.fill.new.held h in
    let size : length h ≡ vec_len d.bytes = search rules in
    let items = with_items_is d.bytes h size in
    keeps_by (still d) _ (take d.held c.deref_mut.result.now) b _ _ c.fill.ensures.same
    (λ before after is same.
    let was = content_from d before _ c.requires.given c.requires.phase (same ∙ ap (λ (t : List ℕ). take d.held t ++ before) c.deref_mut.ensures.value) in
    let all : b ≡ h = take_all c.fill.new.held h (omega (arith, size, c.len.ensures, c.if-self-len.false)) in
    let whole = ap (λ (t : List ℕ). all_content as_text d.spot (vec_len d.bytes) d.state (t ++ after)) all ∙ ap (λ (k : ℕ). all_content as_text d.spot k d.state (h ++ after)) (sym size) in
    let bytes = c.deref.ensures.value ∙ items in
    let bad : checksum d.spot.block (length h) d.spot.count h ≢ d.spot.sum = λ equal. c.if-checksum-self.true (c.checksum.ensures ∙ ap (λ (t : List ℕ). checksum d.spot.block (length t) d.spot.count t) bytes ∙ equal) in
    either_way c.stop-then-checksum-self.result c.stop-then-checksum-self.ensures.ok c.stop-then-checksum-self.ensures.err
    (λ ok. ok after ∙ sym (was ∙ whole ∙ content_bad as_text d.spot d.state h after bad))
    (λ err. sym (err after) ∙ content_now d _ h after c.requires.given c.requires.phase refl refl refl items ∙ sym was))

pub returns-clause-same : goal.returns-clause-same
returns-clause-same g c =
    let d = c.args.self.now in
    let h = c.fill.new.bytes in
    let b = take c.fill.new.held h in
    let size : length h ≡ vec_len d.bytes = search rules in
    let items = with_items_is d.bytes h size in
    keeps_by (still d) _ (take d.held c.deref_mut.result.now) b _ _ c.fill.ensures.same
    (λ before after is same.
    let was = content_from d before _ c.requires.given c.requires.phase (same ∙ ap (λ (t : List ℕ). take d.held t ++ before) c.deref_mut.ensures.value) in
    let all : b ≡ h = take_all c.fill.new.held h (omega (arith, size, c.len.ensures, c.if-self-len.false)) in
    let whole = ap (λ (t : List ℕ). all_content as_text d.spot (vec_len d.bytes) d.state (t ++ after)) all ∙ ap (λ (k : ℕ). all_content as_text d.spot k d.state (h ++ after)) (sym size) in
    let bytes = c.deref.ensures.value ∙ items in
    let good : checksum d.spot.block (length h) d.spot.count h ≡ d.spot.sum =
    ap (λ (t : List ℕ). checksum d.spot.block (length t) d.spot.count t) (sym bytes) ∙ sym c.checksum.ensures ∙ c.if-checksum-self.false in
    content_done d _ h after c.requires.given refl refl c.begin_block.ensures refl (sym size) items ∙ sym (was ∙ whole ∙ content_good as_text d.spot d.state h after good))

pub returns-in_err-fill-clause-noted : goal.returns-in_err-fill-clause-noted
returns-in_err-fill-clause-noted g c = λ on.
    let d = c.args.self.now in
    let h = c.fill.new.bytes in
    let items = with_items_is d.bytes h (search rules) in
    stays_by (to_note d) _ (take d.held c.deref_mut.result.now) (take c.fill.new.held h) _ _ c.fill.ensures.same
    (λ before after is same.
    noted_now d _ h after c.requires.phase refl refl refl items refl refl
    ∙ sym (noted_content d before _ _ c.requires.phase (same ∙ ap (λ (t : List ℕ). take d.held t ++ before) c.deref_mut.ensures.value) refl))

pub returns-then-self-len-clause-noted : goal.returns-then-self-len-clause-noted
returns-then-self-len-clause-noted g c = λ on.
    let d = c.args.self.now in
    let h = c.fill.new.bytes in
    let b = take c.fill.new.held h in
    let size : length h ≡ vec_len d.bytes = search rules in
    let items = with_items_is d.bytes h size in
    stays_by (to_note d) _ (take d.held c.deref_mut.result.now) b _ _ c.fill.ensures.same
    (λ before after is same.
    let bytes = same ∙ ap (λ (t : List ℕ). take d.held t ++ before) c.deref_mut.ensures.value in
    let short : c.fill.new.held < length h = omega (arith, size, c.len.ensures, c.if-self-len.true) in
    let none = ap length (at_end _ after is (c.in_ok-fill.ensures.end short)) in
    let front : length b ≡ c.fill.new.held = length-take-le c.fill.new.held h c.fill.ensures.within in
    let len : length (b ++ after) ≡ c.fill.new.held = omega (arith, length-append b after, none, front) in
    let few : length (b ++ after) < vec_len d.bytes = omega (arith, len, short, size) in
    either_way c.stop.result c.stop.ensures.touches c.stop.ensures.same
    (λ ok. ok after ∙ sym (noted_content d before (b ++ after) _ c.requires.phase bytes (content_cut as_touches d.spot (vec_len d.bytes) d.state (b ++ after) few) ∙ append-nil _))
    (λ err. sym (err.same on after) ∙ noted_now d _ h after c.requires.phase refl refl refl items refl refl ∙ sym (noted_content d before (b ++ after) _ c.requires.phase bytes refl)))

pub returns-then-checksum-self-clause-noted : goal.returns-then-checksum-self-clause-noted
returns-then-checksum-self-clause-noted g c = λ on.
    let d = c.args.self.now in
    let h = c.fill.new.bytes in
    let b = take c.fill.new.held h in
    let size : length h ≡ vec_len d.bytes = search rules in
    let items = with_items_is d.bytes h size in
    stays_by (to_note d) _ (take d.held c.deref_mut.result.now) b _ _ c.fill.ensures.same
    (λ before after is same.
    let bytes = same ∙ ap (λ (t : List ℕ). take d.held t ++ before) c.deref_mut.ensures.value in
    let all : b ≡ h = take_all c.fill.new.held h (omega (arith, size, c.len.ensures, c.if-self-len.false)) in
    let whole = ap (λ (t : List ℕ). all_content as_touches d.spot (vec_len d.bytes) d.state (t ++ after)) all ∙ ap (λ (k : ℕ). all_content as_touches d.spot k d.state (h ++ after)) (sym size) in
    let there = c.deref.ensures.value ∙ items in
    let bad : checksum d.spot.block (length h) d.spot.count h ≢ d.spot.sum = λ equal. c.if-checksum-self.true (c.checksum.ensures ∙ ap (λ (t : List ℕ). checksum d.spot.block (length t) d.spot.count t) there ∙ equal) in
    either_way c.stop-then-checksum-self.result c.stop-then-checksum-self.ensures.touches c.stop-then-checksum-self.ensures.same
    (λ ok. ok after ∙ sym (noted_content d before (b ++ after) _ c.requires.phase bytes (whole ∙ content_bad as_touches d.spot d.state h after bad) ∙ append-nil _))
    (λ err. sym (err.same on after) ∙ noted_now d _ h after c.requires.phase refl refl refl items refl refl ∙ sym (noted_content d before (b ++ after) _ c.requires.phase bytes refl)))

pub returns-clause-noted : goal.returns-clause-noted
returns-clause-noted g c = λ on.
    let d = c.args.self.now in
    let h = c.fill.new.bytes in
    let b = take c.fill.new.held h in
    let size : length h ≡ vec_len d.bytes = search rules in
    let items = with_items_is d.bytes h size in
    stays_by (to_note d) _ (take d.held c.deref_mut.result.now) b _ _ c.fill.ensures.same
    (λ before after is same.
    let bytes = same ∙ ap (λ (t : List ℕ). take d.held t ++ before) c.deref_mut.ensures.value in
    let all : b ≡ h = take_all c.fill.new.held h (omega (arith, size, c.len.ensures, c.if-self-len.false)) in
    let whole = ap (λ (t : List ℕ). all_content as_touches d.spot (vec_len d.bytes) d.state (t ++ after)) all ∙ ap (λ (k : ℕ). all_content as_touches d.spot k d.state (h ++ after)) (sym size) in
    let there = c.deref.ensures.value ∙ items in
    let good : checksum d.spot.block (length h) d.spot.count h ≡ d.spot.sum =
    ap (λ (t : List ℕ). checksum d.spot.block (length t) d.spot.count t) (sym there) ∙ sym c.checksum.ensures ∙ c.if-checksum-self.false in
    noted_done d _ h after refl refl c.begin_block.ensures refl (sym size) items refl refl
    ∙ sym (noted_content d before (b ++ after) _ c.requires.phase bytes (whole ∙ content_good as_touches d.spot d.state h after good)))

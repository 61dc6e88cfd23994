-- The bytes of the header that are there, and those that are still to be read, stay the same.
use Rattle.std.proofs.Common.{◌≡◌, ◌<◌, ◌≤◌, ◌++◌, List, ℕ, length, take, refl, sym, ap, ◌∙◌, arith, length-append, append-nil}
use Rattle.std.proofs.lemmas.List.{length-take-le, take_all}
use Rattle.er_binary.specs.Inner.Decoders.{all_blocks, still, to_note}
use Rattle.er_binary.specs.Meaning.{as_text, cut_off, is_bad_len, as_touches}
use Rattle.er_binary.specs.Numbers.{number_in, plus}
use Rattle.er_binary.proofs.DecoderLaws.{at_end, content_is, given_is, header_from, header_is, good_parts, keeps_by, number_front}
use Rattle.er_binary.proofs.MeaningLaws.{blocks_bad, blocks_cut, blocks_end, blocks_good, blocks_more}
use Rattle.er_binary.proofs.TextLemmas.{either_way}
use Rattle.er_binary.proofs.decoder.Decoder.read_header.Goals as goal
use Rattle.er_binary.proofs.NotesLaws.{noted_as, noted_header, noted_inside, stays_by}

pub returns-in_err-fill-clause-same : goal.returns-in_err-fill-clause-same
returns-in_err-fill-clause-same g c =
    let d = c.args.self.now in
    keeps_by (still d) _ (take d.header_held d.header) (take c.fill.new.held c.fill.new.bytes) _ _ c.fill.ensures.same
    (λ before after is same. header_is _ after c.requires.given c.requires.phase ∙ ap (λ (t : List ℕ). all_blocks as_text d.spot.block d.spot.start d.state t) same
    ∙ sym (header_is d before c.requires.given c.requires.phase))

pub returns-in_err-resize-clause-same : goal.returns-in_err-resize-clause-same
returns-in_err-resize-clause-same g c =
    let d = c.args.self.now in
    keeps_by (still d) _ (take d.header_held d.header) (take c.fill.new.held c.fill.new.bytes) _ _ c.fill.ensures.same
    (λ before after is same. header_is _ after c.requires.given c.requires.phase ∙ ap (λ (t : List ℕ). all_blocks as_text d.spot.block d.spot.start d.state t) same
    ∙ sym (header_is d before c.requires.given c.requires.phase))

pub returns-then-held-eq0-clause-same : goal.returns-then-held-eq0-clause-same
returns-then-held-eq0-clause-same g c =
    let d = c.args.self.now in
    let b = take c.fill.new.held c.fill.new.bytes in
    keeps_by (still d) _ (take d.header_held d.header) b _ _ c.fill.ensures.same
    (λ before after is same.
    let short : c.fill.new.held < length c.fill.new.bytes = omega arith in
    let none = ap length (at_end _ after is (c.in_ok-fill.ensures.end short)) in
    let front : length b ≡ c.fill.new.held = length-take-le c.fill.new.held c.fill.new.bytes c.fill.ensures.within in
    let empty : length (b ++ after) ≡ 0 = omega (arith, length-append b after, none, front) in
    given_is _ after c.requires.given ∙ sym (header_from d before (b ++ after) c.requires.given c.requires.phase same ∙ blocks_end as_text d.spot.block d.spot.start d.state (b ++ after) c.if-self.true empty))

pub returns-then-self-clause-same : goal.returns-then-self-clause-same
returns-then-self-clause-same g c =
    let d = c.args.self.now in
    let b = take c.fill.new.held c.fill.new.bytes in
    keeps_by (still d) _ (take d.header_held d.header) b _ _ c.fill.ensures.same
    (λ before after is same.
    let front : length b ≡ c.fill.new.held = length-take-le c.fill.new.held c.fill.new.bytes c.fill.ensures.within in
    let some : 0 < length (b ++ after) = omega (arith, length-append b after, front) in
    let was = header_from d before (b ++ after) c.requires.given c.requires.phase same in
    either_way c.stop.result c.stop.ensures.ok c.stop.ensures.err
    (λ ok. ok after ∙ sym (was ∙ blocks_more as_text d.spot.block d.spot.start d.state (b ++ after) c.if-self.true some))
    (λ err. sym (err after) ∙ header_is _ after c.requires.given c.requires.phase ∙ sym was))

pub returns-then-held-lt16-clause-same : goal.returns-then-held-lt16-clause-same
returns-then-held-lt16-clause-same g c =
    let d = c.args.self.now in
    let b = take c.fill.new.held c.fill.new.bytes in
    keeps_by (still d) _ (take d.header_held d.header) b _ _ c.fill.ensures.same
    (λ before after is same.
    let short : c.fill.new.held < length c.fill.new.bytes = omega arith in
    let none = ap length (at_end _ after is (c.in_ok-fill.ensures.end short)) in
    let front : length b ≡ c.fill.new.held = length-take-le c.fill.new.held c.fill.new.bytes c.fill.ensures.within in
    let len : length (b ++ after) ≡ c.fill.new.held = omega (arith, length-append b after, none, front) in
    let few : length (b ++ after) < 16 = omega (arith, len, short) in
    let was = header_from d before (b ++ after) c.requires.given c.requires.phase same in
    either_way c.stop-then-held-lt16.result c.stop-then-held-lt16.ensures.ok c.stop-then-held-lt16.ensures.err
    (λ ok. ok after ∙ ap (λ (k : ℕ). cut_off k) (ap (λ (k : ℕ). plus d.spot.start k) (sym len))
    ∙ sym (was ∙ blocks_cut as_text d.spot.block d.spot.start d.state (b ++ after) c.if-self.false few))
    (λ err. sym (err after) ∙ header_is _ after c.requires.given c.requires.phase ∙ sym was))

pub returns-then-is_bad_len-clause-same : goal.returns-then-is_bad_len-clause-same
returns-then-is_bad_len-clause-same g c =
    let d = c.args.self.now in
    let h = c.fill.new.bytes in
    let b = take c.fill.new.held h in
    keeps_by (still d) _ (take d.header_held d.header) b _ _ c.fill.ensures.same
    (λ before after is same.
    let all : b ≡ h = take_all c.fill.new.held h (omega arith) in
    let long : 4 ≤ length h = omega arith in
    let len = ap (λ (t : List ℕ). number_in (t ++ after) 0 4) all ∙ number_front h after long ∙ sym c.number-len.ensures.value in
    let bad = ap is_bad_len len ∙ sym c.is_bad_len.ensures.value ∙ c.if-is_bad_len.true in
    let whole : 16 ≤ length (b ++ after) = omega (arith, length-append b after, ap length all) in
    let was = header_from d before (b ++ after) c.requires.given c.requires.phase same in
    either_way c.stop-then-is_bad_len.result c.stop-then-is_bad_len.ensures.ok c.stop-then-is_bad_len.ensures.err
    (λ ok. ok after ∙ sym (was ∙ blocks_bad as_text d.spot.block d.spot.start d.state (b ++ after) c.if-self.false whole bad))
    (λ err. sym (err after) ∙ header_is _ after c.requires.given c.requires.phase ∙ sym was))

pub returns-clause-same : goal.returns-clause-same
returns-clause-same g c =
    let d = c.args.self.now in
    let h = c.fill.new.bytes in
    let b = take c.fill.new.held h in
    keeps_by (still d) _ (take d.header_held d.header) b _ _ c.fill.ensures.same
    (λ before after is same.
    let all : b ≡ h = take_all c.fill.new.held h (omega arith) in
    let long : 4 ≤ length h = omega arith in
    let sixteen : length h ≡ 16 = omega arith in
    let same_len = number_front h after long ∙ sym c.number-len.ensures.value in
    let good = ap is_bad_len same_len ∙ sym c.is_bad_len.ensures.value ∙ c.if-is_bad_len.false in
    let whole : 16 ≤ length (h ++ after) = omega (arith, length-append h after) in
    let is_whole = ap (λ (t : List ℕ). t ++ after) (sym all) ∙ same in
    let was = header_from d before (h ++ after) c.requires.given c.requires.phase is_whole ∙ blocks_good as_text d.spot.block d.spot.start d.state (h ++ after) c.if-self.false whole good
    ∙ good_parts as_text d.spot.block d.spot.start d.state h after _ sixteen same_len in
    content_is _ after c.requires.given refl ∙ rw (c.number.ensures.value, c.number-self.ensures.value, c.in_ok-resize.ensures.len) refl ∙ sym was)

pub returns-in_err-fill-clause-noted : goal.returns-in_err-fill-clause-noted
returns-in_err-fill-clause-noted g c = λ on.
    let d = c.args.self.now in
    stays_by (to_note d) _ (take d.header_held d.header) (take c.fill.new.held c.fill.new.bytes) _ _ c.fill.ensures.same
    (λ before after is same. noted_header _ after _ _ c.requires.phase refl refl ∙ sym (noted_header d before _ _ c.requires.phase same refl))

pub returns-in_err-resize-clause-noted : goal.returns-in_err-resize-clause-noted
returns-in_err-resize-clause-noted g c = λ on.
    let d = c.args.self.now in
    stays_by (to_note d) _ (take d.header_held d.header) (take c.fill.new.held c.fill.new.bytes) _ _ c.fill.ensures.same
    (λ before after is same. noted_header _ after _ _ c.requires.phase refl refl ∙ sym (noted_header d before _ _ c.requires.phase same refl))

pub returns-then-held-eq0-clause-noted : goal.returns-then-held-eq0-clause-noted
returns-then-held-eq0-clause-noted g c = λ on.
    let d = c.args.self.now in
    let b = take c.fill.new.held c.fill.new.bytes in
    stays_by (to_note d) _ (take d.header_held d.header) b _ _ c.fill.ensures.same
    (λ before after is same.
    let short : c.fill.new.held < length c.fill.new.bytes = omega arith in
    let none = ap length (at_end _ after is (c.in_ok-fill.ensures.end short)) in
    let front : length b ≡ c.fill.new.held = length-take-le c.fill.new.held c.fill.new.bytes c.fill.ensures.within in
    let empty : length (b ++ after) ≡ 0 = omega (arith, length-append b after, none, front) in
    noted_as _ after _ refl ∙ sym (noted_header d before (b ++ after) _ c.requires.phase same (blocks_end as_touches d.spot.block d.spot.start d.state (b ++ after) c.if-self.true empty)))

pub returns-then-self-clause-noted : goal.returns-then-self-clause-noted
returns-then-self-clause-noted g c = λ on.
    let d = c.args.self.now in
    let b = take c.fill.new.held c.fill.new.bytes in
    stays_by (to_note d) _ (take d.header_held d.header) b _ _ c.fill.ensures.same
    (λ before after is same.
    let front : length b ≡ c.fill.new.held = length-take-le c.fill.new.held c.fill.new.bytes c.fill.ensures.within in
    let some : 0 < length (b ++ after) = omega (arith, length-append b after, front) in
    either_way c.stop.result c.stop.ensures.touches c.stop.ensures.same
    (λ ok. ok after ∙ sym (noted_header d before (b ++ after) _ c.requires.phase same (blocks_more as_touches d.spot.block d.spot.start d.state (b ++ after) c.if-self.true some) ∙ append-nil _))
    (λ err. sym (err.same on after) ∙ noted_header _ after (b ++ after) _ c.requires.phase refl refl ∙ sym (noted_header d before (b ++ after) _ c.requires.phase same refl)))

pub returns-then-held-lt16-clause-noted : goal.returns-then-held-lt16-clause-noted
returns-then-held-lt16-clause-noted g c = λ on.
    let d = c.args.self.now in
    let b = take c.fill.new.held c.fill.new.bytes in
    stays_by (to_note d) _ (take d.header_held d.header) b _ _ c.fill.ensures.same
    (λ before after is same.
    let short : c.fill.new.held < length c.fill.new.bytes = omega arith in
    let none = ap length (at_end _ after is (c.in_ok-fill.ensures.end short)) in
    let front : length b ≡ c.fill.new.held = length-take-le c.fill.new.held c.fill.new.bytes c.fill.ensures.within in
    let len : length (b ++ after) ≡ c.fill.new.held = omega (arith, length-append b after, none, front) in
    let few : length (b ++ after) < 16 = omega (arith, len, short) in
    either_way c.stop-then-held-lt16.result c.stop-then-held-lt16.ensures.touches c.stop-then-held-lt16.ensures.same
    (λ ok. ok after ∙ sym (noted_header d before (b ++ after) _ c.requires.phase same (blocks_cut as_touches d.spot.block d.spot.start d.state (b ++ after) c.if-self.false few) ∙ append-nil _))
    (λ err. sym (err.same on after) ∙ noted_header _ after (b ++ after) _ c.requires.phase refl refl ∙ sym (noted_header d before (b ++ after) _ c.requires.phase same refl)))

pub returns-then-is_bad_len-clause-noted : goal.returns-then-is_bad_len-clause-noted
returns-then-is_bad_len-clause-noted g c = λ on.
    let d = c.args.self.now in
    let h = c.fill.new.bytes in
    let b = take c.fill.new.held h in
    stays_by (to_note d) _ (take d.header_held d.header) b _ _ c.fill.ensures.same
    (λ before after is same.
    let all : b ≡ h = take_all c.fill.new.held h (omega arith) in
    let long : 4 ≤ length h = omega arith in
    let len = ap (λ (t : List ℕ). number_in (t ++ after) 0 4) all ∙ number_front h after long ∙ sym c.number-len.ensures.value in
    let bad = ap is_bad_len len ∙ sym c.is_bad_len.ensures.value ∙ c.if-is_bad_len.true in
    let whole : 16 ≤ length (b ++ after) = omega (arith, length-append b after, ap length all) in
    either_way c.stop-then-is_bad_len.result c.stop-then-is_bad_len.ensures.touches c.stop-then-is_bad_len.ensures.same
    (λ ok. ok after ∙ sym (noted_header d before (b ++ after) _ c.requires.phase same (blocks_bad as_touches d.spot.block d.spot.start d.state (b ++ after) c.if-self.false whole bad) ∙ append-nil _))
    (λ err. sym (err.same on after) ∙ noted_header _ after (b ++ after) _ c.requires.phase refl refl ∙ sym (noted_header d before (b ++ after) _ c.requires.phase same refl)))

pub returns-clause-noted : goal.returns-clause-noted
returns-clause-noted g c = λ on.
    let d = c.args.self.now in
    let h = c.fill.new.bytes in
    let b = take c.fill.new.held h in
    stays_by (to_note d) _ (take d.header_held d.header) b _ _ c.fill.ensures.same
    (λ before after is same.
    let all : b ≡ h = take_all c.fill.new.held h (omega arith) in
    let long : 4 ≤ length h = omega arith in
    let sixteen : length h ≡ 16 = omega arith in
    let same_len = number_front h after long ∙ sym c.number-len.ensures.value in
    let good = ap is_bad_len same_len ∙ sym c.is_bad_len.ensures.value ∙ c.if-is_bad_len.false in
    let whole : 16 ≤ length (h ++ after) = omega (arith, length-append h after) in
    let is_whole = ap (λ (t : List ℕ). t ++ after) (sym all) ∙ same in
    let was = noted_header d before (h ++ after) _ c.requires.phase is_whole (blocks_good as_touches d.spot.block d.spot.start d.state (h ++ after) c.if-self.false whole good
    ∙ good_parts as_touches d.spot.block d.spot.start d.state h after _ sixteen same_len) in
    noted_inside _ after refl ∙ rw (c.number.ensures.value, c.number-self.ensures.value, c.in_ok-resize.ensures.len) refl ∙ sym was)

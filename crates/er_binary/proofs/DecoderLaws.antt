-- What a decoder still gives, where its text is given, and piece by piece.
use Rattle.std.proofs.Common.{◌≡◌, ◌==◌, ℕ, ◌+◌, ◌<◌, ◌≤◌, List, [], ◌++◌, length, take, drop, vec_items, vec_len, Option, Some, None, option_map, if◌then◌else◌, refl, sym, ap, ◌∙◌, append_assoc, rules}
use Rattle.std.proofs.lemmas.List.{drop-drop, drop_all, drop_at, take_at, take-append-drop, take-append-le}
use Rattle.std.specs.Io.KnownBytes.{Consumes, IsAtEnd, Keeps, prepend_known}
use Rattle.er_binary.specs.Meaning.{Making, as_text, Taken, damaged, past, spot_at, take_record}
use Rattle.er_binary.specs.Numbers.{number, number_in, plus}
use Rattle.er_binary.specs.States.{at_block}
use Rattle.er_binary.specs.declared.decoder.Phase.{Phase}
use Rattle.er_binary.proofs.MeaningLaws.{record_end, record_none, record_some}
use Rattle.er_binary.specs.Inner.Decoders.{HasGiven, all_blocks, all_content, all_records, still, undecoded}
use Rattle.er_binary.specs.declared.decoder.Decoder.{Decoder}
use Rattle.er_binary.specs.declared.state.State.{State}
use Rattle.er_binary.specs.declared.decoder.Phase.TheVariants as phase

-- where the text is given, what is undecoded is left
pub given_is : (d : Decoder) (rest : List ℕ) → HasGiven d → still d rest ≡ undecoded as_text d.phase d rest
unfolding still
given_is d rest given =
    let all : length (vec_items d.text) ≤ d.given = search rules in
    ap (λ (t : List ℕ). t ++ undecoded as_text d.phase d rest) (drop_all d.given (vec_items d.text) all)

-- two decoders whose text is given still give the same, if the same is undecoded
pub same_undecoded : (d e : Decoder) (rest : List ℕ) → HasGiven d → HasGiven e → undecoded as_text d.phase d rest ≡ undecoded as_text e.phase e rest → still d rest ≡ still e rest
same_undecoded d e rest given done same = given_is d rest given ∙ same ∙ sym (given_is e rest done)

-- a piece of a text is given, and the rest is left
pub piece_given : (text buffer rest : List ℕ) (given n : ℕ) → take n buffer ≡ take n (drop given text) → drop given text ++ rest ≡ take n buffer ++ (drop (given + n) text ++ rest)
piece_given text buffer rest given n is =
    let left = drop given text in
    let back : drop (given + n) text ≡ drop n left = sym (drop-drop n given text) in
    rw (is, back) (ap (λ (t : List ℕ). t ++ rest) (sym (take-append-drop n left)) ∙ append_assoc (take n left) (drop n left) rest)

-- what is left in each phase
pub header_is : (d : Decoder) (rest : List ℕ) → HasGiven d → d.phase ≡ phase.Header → still d rest ≡ all_blocks as_text d.spot.block d.spot.start d.state (take d.header_held d.header ++ rest)
header_is d rest given at = given_is d rest given ∙ ap (λ (p : Phase). undecoded as_text p d rest) at

pub content_is : (d : Decoder) (rest : List ℕ) → HasGiven d → d.phase ≡ phase.Content → still d rest ≡ all_content as_text d.spot (vec_len d.bytes) d.state (take d.held (vec_items d.bytes) ++ rest)
content_is d rest given at = given_is d rest given ∙ ap (λ (p : Phase). undecoded as_text p d rest) at

pub record_is : (d : Decoder) (rest : List ℕ) → HasGiven d → d.phase ≡ phase.Record
    → still d rest ≡ all_records as_text (plus d.spot.start (16 + vec_len d.bytes)) d.spot d.state (drop d.next (vec_items d.bytes)) rest
record_is d rest given at = given_is d rest given ∙ ap (λ (p : Phase). undecoded as_text p d rest) at

-- behind the last record of a block
pub end_is : (d : Decoder) (rest : List ℕ) → HasGiven d → d.phase ≡ phase.Record → d.next ≡ vec_len d.bytes
    → still d rest ≡ (if d.spot.found == d.spot.count then all_blocks as_text (plus d.spot.block 1) (plus d.spot.start (16 + vec_len d.bytes)) d.state rest else damaged d.spot.start)
end_is d rest given at whole =
    let all : length (vec_items d.bytes) ≤ d.next = search rules in
    record_is d rest given at ∙ record_end as_text (plus d.spot.start (16 + vec_len d.bytes)) d.spot d.state (drop d.next (vec_items d.bytes)) rest (ap length (drop_all d.next (vec_items d.bytes) all))

-- known bytes go on to mean the same, while some are taken from the reader
pub keeps_by : (f g : List ℕ → List ℕ) (a b : List ℕ) (old new : Option (List ℕ)) → Keeps (prepend_known a old) (prepend_known b new)
    → ((before after : List ℕ) → new ≡ Some after → b ++ after ≡ a ++ before → g after ≡ f before) → Keeps (option_map f old) (option_map g new)
keeps_by f g a b None new same means = tt
keeps_by f g a b (Some before) None same means = absurd same
keeps_by f g a b (Some before) (Some after) same means = means before after refl same

pub at_end : (known : Option (List ℕ)) (bytes : List ℕ) → known ≡ Some bytes → IsAtEnd known → bytes ≡ []
at_end known bytes is end = rw is at end

-- a decoder that changed in its text alone, which is given before and after
pub emptied : (d e : Decoder) (rest : List ℕ) → HasGiven d → HasGiven e → e.phase ≡ d.phase → e.state ≡ d.state → e.spot ≡ d.spot → e.header_held ≡ d.header_held → e.header ≡ d.header
    → e.bytes ≡ d.bytes → e.held ≡ d.held → e.next ≡ d.next → still d rest ≡ still e rest
emptied d e rest given done phase state spot header_held header bytes held next =
    same_undecoded d e rest given done (sym (rw (phase, state, spot, header_held, header, bytes, held, next) refl))

-- a decoder that took one record
pub taken_is : (d e : Decoder) (rest : List ℕ) (t : Taken) → HasGiven d → d.phase ≡ phase.Record → d.next < length (vec_items d.bytes)
    → take_record d.state (drop d.next (vec_items d.bytes)) ≡ Some t → 1 ≤ t.len
    → e.phase ≡ phase.Record → e.given ≡ 0 → vec_items e.text ≡ t.text → e.state ≡ t.state → e.spot ≡ past d.spot t.len → e.bytes ≡ d.bytes → e.next ≡ d.next + t.len
    → still d rest ≡ still e rest
unfolding still
taken_is d e rest t given at less some len phase none text state spot bytes next =
    record_is d rest given at
    ∙ record_some as_text (plus d.spot.start (16 + vec_len d.bytes)) d.spot d.state (vec_items d.bytes) rest d.next t less some len
    ∙ sym (rw (phase, none, text, state, spot, bytes, next) refl)

-- or met one that may not come
pub refused_is : (d : Decoder) (rest : List ℕ) → HasGiven d → d.phase ≡ phase.Record → d.next < length (vec_items d.bytes)
    → take_record d.state (drop d.next (vec_items d.bytes)) ≡ None → still d rest ≡ damaged d.spot.at
refused_is d rest given at less none =
    record_is d rest given at ∙ record_none as_text (plus d.spot.start (16 + vec_len d.bytes)) d.spot d.state (vec_items d.bytes) rest d.next less none

-- the blocks that are left, by the bytes that were read since
pub header_from : (d : Decoder) (before bytes : List ℕ) → HasGiven d → d.phase ≡ phase.Header → bytes ≡ take d.header_held d.header ++ before
    → still d before ≡ all_blocks as_text d.spot.block d.spot.start d.state bytes
header_from d before bytes given at same = header_is d before given at ∙ ap (λ (t : List ℕ). all_blocks as_text d.spot.block d.spot.start d.state t) (sym same)

-- and what is left of a block
pub content_from : (d : Decoder) (before bytes : List ℕ) → HasGiven d → d.phase ≡ phase.Content → bytes ≡ take d.held (vec_items d.bytes) ++ before
    → still d before ≡ all_content as_text d.spot (vec_len d.bytes) d.state bytes
content_from d before bytes given at same = content_is d before given at ∙ ap (λ (t : List ℕ). all_content as_text d.spot (vec_len d.bytes) d.state t) (sym same)

-- the first bytes of a block that are all there, before others
pub number_front : (front rest : List ℕ) → 4 ≤ length front → number_in (front ++ rest) 0 4 ≡ number_in front 0 4
number_front front rest long = ap number (take-append-le 4 front rest long)

-- a block with these first bytes, and what is behind them
pub good_parts : {M : Type 0} (made : Making M) (block start : ℕ) (s : State) (header rest : List ℕ) (len : ℕ) → length header ≡ 16 → number_in (header ++ rest) 0 4 ≡ len
    → all_content made (spot_at block start (take 16 (header ++ rest))) (number_in (header ++ rest) 0 4) s (drop 16 (header ++ rest)) ≡ all_content made (spot_at block start header) len s rest
good_parts made block start s header rest len sixteen is =
    ap (λ (h : List ℕ). all_content made (spot_at block start h) (number_in (header ++ rest) 0 4) s (drop 16 (header ++ rest))) (take_at header rest 16 sixteen)
    ∙ ap (λ (k : ℕ). all_content made (spot_at block start header) k s (drop 16 (header ++ rest))) is
    ∙ ap (λ (t : List ℕ). all_content made (spot_at block start header) len s t) (drop_at header rest 16 sixteen)

-- a decoder that read on in a block
pub content_now : (d e : Decoder) (h rest : List ℕ) → HasGiven e → e.phase ≡ phase.Content → e.spot ≡ d.spot → e.state ≡ d.state → vec_len e.bytes ≡ vec_len d.bytes → vec_items e.bytes ≡ h
    → still e rest ≡ all_content as_text d.spot (vec_len d.bytes) d.state (take e.held h ++ rest)
content_now d e h rest given at spot state len items =
    content_is e rest given at
    ∙ ap (λ (k : ℕ). all_content as_text e.spot k e.state (take e.held (vec_items e.bytes) ++ rest)) len
    ∙ ap (λ (xs : List ℕ). all_content as_text e.spot (vec_len d.bytes) e.state (take e.held xs ++ rest)) items ∙ rw (spot, state) refl

-- or began to take its records
pub content_done : (d e : Decoder) (h rest : List ℕ) → HasGiven e → e.phase ≡ phase.Record → e.spot ≡ d.spot → e.state ≡ at_block d.state → e.next ≡ 0 → vec_len e.bytes ≡ length h → vec_items e.bytes ≡ h
    → still e rest ≡ all_records as_text (plus d.spot.start (16 + length h)) d.spot (at_block d.state) h rest
content_done d e h rest given at spot state next len items =
    record_is e rest given at
    ∙ ap (λ (k : ℕ). all_records as_text (plus e.spot.start (16 + k)) e.spot e.state (drop e.next (vec_items e.bytes)) rest) len
    ∙ ap (λ (xs : List ℕ). all_records as_text (plus e.spot.start (16 + length h)) e.spot e.state (drop e.next xs) rest) items ∙ rw (spot, state, next) refl

-- what is given of bytes that went on to mean the same
pub gives_by : (f g h : List ℕ → List ℕ) (old known : Option (List ℕ)) (bytes : List ℕ) → Keeps (option_map f old) (option_map g known)
    → ((rest : List ℕ) → g rest ≡ bytes ++ h rest) → Consumes (option_map f old) (option_map h known) bytes
gives_by f g h None known bytes same gives = tt
gives_by f g h (Some before) None bytes same gives = absurd same
gives_by f g h (Some before) (Some after) bytes same gives = sym same ∙ gives after

-- nothing is left of what means nothing
pub ends_at : (g : List ℕ → List ℕ) (known : Option (List ℕ)) → ((rest : List ℕ) → g rest ≡ []) → IsAtEnd (option_map g known)
ends_at g None none = tt
ends_at g (Some rest) none = none rest

-- What a reader of a trace of any form still gives, before and behind its first bytes.
use Rattle.std.proofs.Common.{All, IfOk, OnErr, OnOk, append-nil, vec_items, ◌≡◌, ℕ, zero, suc, ◌<◌, ◌≤◌, Bool, true, false, not, cond, List, [], ◌∷◌, ◌++◌, length, take, drop, Option, Some, None, IfNone, IfSome, Result, Ok, Err, option_map, refl, sym, ap, ◌∙◌, arith}
use Rattle.std.proofs.lemmas.List.Elements.{All-cons, All-nil, All-same}
use Rattle.er_binary.specs.Decoded.{to_come, is_noting, to_touch}
use Rattle.er_binary.specs.Inner.Forms.{to_come_by, is_binary_by, is_noting_by, to_touch_by}
use Rattle.er_binary.specs.Inner.Decoders.{undecoded, still, to_note}
use Rattle.er_lines.specs.Touches.{HasHanded, StaysKnown}
use Rattle.er_binary.specs.Meaning.{as_touches, magic, meant, text_behind, touches, touches_behind}
use Rattle.er_binary.proofs.LaterLaws.{undecoded_later}
use Rattle.std.proofs.lemmas.List.{drop_all, length-take-le}
use Rattle.std.proofs.lemmas.Slice.Eq.{bytes_eq-Decides}
use Rattle.std.specs.Io.KnownBytes.{Consumes, Keeps, ReadConsumes}
use Rattle.std.specs.Str.{bytes_eq}
use Rattle.er_lines.specs.Ready.{HasTaken}
use Rattle.er_lines.specs.declared.ready.ReadyLine.{ReadyLine}
use Rattle.er_binary.specs.declared.decoded.Decoded.{Decoded}
use Rattle.er_binary.specs.declared.decoder.Decoder.{Decoder}
use Rattle.er_binary.specs.declared.decoded.Form.{Form}
use Rattle.er_binary.specs.declared.decoded.Form.TheVariants as form
use Rattle.er_lines.specs.declared.ready.Touch.{Touch}

take_front : (n : ℕ) (bytes rest : List ℕ) → length bytes ≤ n → (length bytes < n → rest ≡ []) → take n (bytes ++ rest) ≡ bytes
take_front zero [] rest fits end = refl
take_front zero (byte ∷ bytes) rest fits end = absurd (omega arith)
take_front (suc n) [] rest fits end = rw (end (omega arith)) refl
take_front (suc n) (byte ∷ bytes) rest fits end = ap (λ (t : List ℕ). byte ∷ t) (take_front n bytes rest (omega arith) (λ less. end (omega arith)))

pub not_true : (b : Bool) → not b ≡ true → b ≡ false
not_true true is = cc
not_true false is = refl

pub not_false : (b : Bool) → not b ≡ false → b ≡ true
not_false true is = refl
not_false false is = cc

-- what first bytes and those behind them mean
pub meant_text : (bytes rest : List ℕ) → length bytes ≤ 8 → (length bytes < 8 → rest ≡ []) → bytes_eq bytes magic ≡ false → meant (bytes ++ rest) ≡ bytes ++ rest
meant_text bytes rest fits end other =
    let test = ap (λ (t : List ℕ). bytes_eq t magic) (take_front 8 bytes rest fits end) ∙ other in
    ap (λ (b : Bool). cond b (text_behind (drop 8 (bytes ++ rest))) (bytes ++ rest)) test

pub meant_binary : (bytes rest : List ℕ) → bytes_eq bytes magic ≡ true → meant (bytes ++ rest) ≡ text_behind rest
meant_binary bytes rest same = ap (λ (t : List ℕ). meant (t ++ rest)) ((bytes_eq-Decides bytes magic).0 same)

-- what is to come by what the trace was found to be
pub unknown_is : {R : Type 0} (d : Decoded R) (rest : List ℕ) → d.form ≡ form.Unknown → to_come d rest ≡ meant (take d.held d.first ++ rest)
unfolding to_come
unknown_is d rest at = let first = take d.held d.first in ap (λ (f : Form). to_come_by f first (drop d.given first) rest) at

pub text_is : {R : Type 0} (d : Decoded R) (rest : List ℕ) → d.form ≡ form.Text → to_come d rest ≡ drop d.given (take d.held d.first) ++ rest
unfolding to_come
text_is d rest at = let first = take d.held d.first in ap (λ (f : Form). to_come_by f first (drop d.given first) rest) at

pub binary_is : {R : Type 0} (d : Decoded R) (decoder : Decoder) (rest : List ℕ) → d.form ≡ form.Binary decoder → to_come d rest ≡ still decoder rest
unfolding to_come
binary_is d decoder rest at = let first = take d.held d.first in ap (λ (f : Form). to_come_by f first (drop d.given first) rest) at

-- where the first bytes are given, the text is what is read
pub text_read : {R : Type 0} (d : Decoded R) (rest : List ℕ) → d.form ≡ form.Text → d.held ≤ length d.first → d.given ≡ d.held → to_come d rest ≡ rest
text_read d rest at fits all =
    text_is d rest at ∙ ap (λ (t : List ℕ). t ++ rest) (drop_all d.given (take d.held d.first) (omega (arith, all, length-take-le d.held d.first fits)))

known_is : (f g : List ℕ → List ℕ) (known : Option (List ℕ)) → ((rest : List ℕ) → f rest ≡ g rest) → option_map f known ≡ option_map g known
known_is f g None same = refl
known_is f g (Some bytes) same = ap (λ (t : List ℕ). Some t) (same bytes)

same_known : (known : Option (List ℕ)) → option_map (λ bytes. bytes) known ≡ known
same_known None = refl
same_known (Some bytes) = refl

-- a read by what the bytes mean, told in other words
pub read_as : {E : Type 0} (f g h k : List ℕ → List ℕ) (old new : Option (List ℕ)) (r : Result ℕ E) (buffer : List ℕ) → ((rest : List ℕ) → f rest ≡ h rest) → ((rest : List ℕ) → g rest ≡ k rest)
    → ReadConsumes (option_map h old) (option_map k new) r buffer → ReadConsumes (option_map f old) (option_map g new) r buffer
read_as f g h k old new r buffer before after read = rw (known_is f h old before, known_is g k new after) read

-- what is read of bytes that mean themselves
pub read_through : {E : Type 0} (f g : List ℕ → List ℕ) (old new : Option (List ℕ)) (r : Result ℕ E) (buffer : List ℕ) → ((rest : List ℕ) → f rest ≡ rest) → ((rest : List ℕ) → g rest ≡ rest)
    → ReadConsumes old new r buffer → ReadConsumes (option_map f old) (option_map g new) r buffer
read_through f g old new r buffer before after read =
    read_as f g (λ bytes. bytes) (λ bytes. bytes) old new r buffer before after (rw (same_known old, same_known new) read)

consumes_kept : (a b c : Option (List ℕ)) (bytes : List ℕ) → Keeps a b → Consumes b c bytes → Consumes a c bytes
consumes_kept None b c bytes same read = tt
consumes_kept (Some x) None c bytes same read = absurd same
consumes_kept (Some x) (Some y) None bytes same read = absurd read
consumes_kept (Some x) (Some y) (Some z) bytes same read = sym same ∙ read

keeps_kept : (a b c : Option (List ℕ)) → Keeps a b → Keeps b c → Keeps a c
keeps_kept None b c same more = tt
keeps_kept (Some x) None c same more = absurd same
keeps_kept (Some x) (Some y) None same more = absurd more
keeps_kept (Some x) (Some y) (Some z) same more = more ∙ same

-- a read of what went on to mean the same
pub read_kept : {E : Type 0} (a b c : Option (List ℕ)) (r : Result ℕ E) (buffer : List ℕ) → Keeps a b → ReadConsumes b c r buffer → ReadConsumes a c r buffer
read_kept a b c (Ok n) buffer same read = (consumes_kept a b c (take n buffer) same read.0, read.1)
read_kept a b c (Err e) buffer same read = keeps_kept a b c same read

-- a line that was taken of what means the same, or none
pub taken_as : (f g : List ℕ → List ℕ) (text : ReadyLine → List ℕ) (known : Option (List ℕ)) (line : Option ReadyLine) → IfNone line ((rest : List ℕ) → f rest ≡ g rest)
    → IfSome line (λ l. (rest : List ℕ) → f rest ≡ text l ++ g rest) → HasTaken (option_map f known) (option_map g known) text line
taken_as f g text None None none some = tt
taken_as f g text (Some rest) None none some = sym (none rest)
taken_as f g text None (Some line) none some = tt
taken_as f g text (Some rest) (Some line) none some = some rest

-- what first bytes and those behind them say that accesses touch
pub touches_text : (bytes rest : List ℕ) → length bytes ≤ 8 → (length bytes < 8 → rest ≡ []) → bytes_eq bytes magic ≡ false → touches (bytes ++ rest) ≡ []
touches_text bytes rest fits end other =
    let test = ap (λ (t : List ℕ). bytes_eq t magic) (take_front 8 bytes rest fits end) ∙ other in
    ap (λ (b : Bool). cond b (touches_behind (drop 8 (bytes ++ rest))) []) test

pub touches_binary : (bytes rest : List ℕ) → bytes_eq bytes magic ≡ true → touches (bytes ++ rest) ≡ touches_behind rest
touches_binary bytes rest same = ap (λ (t : List ℕ). touches (t ++ rest)) ((bytes_eq-Decides bytes magic).0 same)

-- what is noted and to be noted, by what the trace was found to be
pub unknown_touch : {R : Type 0} (d : Decoded R) (rest : List ℕ) → d.form ≡ form.Unknown → to_touch d rest ≡ touches (take d.held d.first ++ rest)
unfolding to_touch
unknown_touch d rest at = ap (λ (f : Form). to_touch_by f (take d.held d.first) rest) at

pub text_touch : {R : Type 0} (d : Decoded R) (rest : List ℕ) → d.form ≡ form.Text → to_touch d rest ≡ []
unfolding to_touch
text_touch d rest at = ap (λ (f : Form). to_touch_by f (take d.held d.first) rest) at

pub binary_touch : {R : Type 0} (d : Decoded R) (decoder : Decoder) (rest : List ℕ) → d.form ≡ form.Binary decoder → to_touch d rest ≡ to_note decoder rest
unfolding to_touch
binary_touch d decoder rest at = ap (λ (f : Form). to_touch_by f (take d.held d.first) rest) at

-- whether it notes that, in the same way
pub unknown_noting : {R : Type 0} (d : Decoded R) → d.form ≡ form.Unknown → is_noting d ≡ d.is_noting
unknown_noting d at = ap (λ (f : Form). is_noting_by f d.is_noting) at

pub binary_noting : {R : Type 0} (d : Decoded R) (decoder : Decoder) → d.form ≡ form.Binary decoder → is_noting d ≡ decoder.notes.is_on
binary_noting d decoder at = ap (λ (f : Form). is_noting_by f d.is_noting) at

-- one that is asked to note does so, unless a binary trace has begun
pub asked_noting : (f : Form) (asked : Bool) → is_noting_by f true ≡ cond (is_binary_by f) (is_noting_by f asked) true
asked_noting form.Unknown asked = refl
asked_noting form.Text asked = refl
asked_noting (form.Binary decoder) asked = refl

-- a list that stays known, told in other words
pub stays_as : (f g h k : List ℕ → List Touch) (old new : Option (List ℕ)) → ((rest : List ℕ) → f rest ≡ h rest) → ((rest : List ℕ) → g rest ≡ k rest)
    → StaysKnown (option_map h old) (option_map k new) → StaysKnown (option_map f old) (option_map g new)
stays_as f g h k None new before after same = λ xs is. cc
stays_as f g h k (Some x) None before after same = λ xs is. same xs (ap Some (sym (before x)) ∙ is)
stays_as f g h k (Some x) (Some y) before after same = λ xs is. ap Some (after y) ∙ same xs (ap Some (sym (before x)) ∙ is)

-- of a text nothing is known, whatever is read
pub stays_none : {E : Type 0} (f g : List ℕ → List Touch) (old new : Option (List ℕ)) (r : Result ℕ E) (buffer : List ℕ) → ((rest : List ℕ) → f rest ≡ []) → ((rest : List ℕ) → g rest ≡ [])
    → ReadConsumes old new r buffer → StaysKnown (option_map f old) (option_map g new)
stays_none f g None new r buffer before after read = λ xs is. cc
stays_none f g (Some x) None (Ok n) buffer before after read = absurd read.0
stays_none f g (Some x) None (Err e) buffer before after read = absurd read
stays_none f g (Some x) (Some y) r buffer before after read = λ xs is. ap Some (after y ∙ sym (before x)) ∙ is

-- what is handed out of a binary trace, or nothing for want of memory
pub handed_by : {R E : Type 0} (d e : Decoded R) (old new : Decoder) (before after : List Touch) (r : Result ℕ E) → d.form ≡ form.Binary old → e.form ≡ form.Binary new
    → ((rest : List ℕ) → undecoded as_touches new.phase new rest ≡ undecoded as_touches old.phase old rest) → new.notes.line ≡ old.notes.line → IfOk r (λ line. line ≡ old.notes.line)
    → OnOk r (after ≡ before ++ vec_items old.notes.touches) → OnOk r (vec_items new.notes.touches ≡ []) → IfOk r (λ line. (rest : List ℕ) → HasHanded (to_touch d rest) (Some (to_touch e rest)) before after line)
unfolding to_note
handed_by d e old new before after (Ok line) at turned rest_same same is given none =
    let left : (rest : List ℕ) → to_touch e rest ≡ undecoded as_touches old.phase old rest old.notes.line = λ rest.
    binary_touch e new rest turned
    ∙ ap (λ (xs : List Touch). xs ++ undecoded as_touches new.phase new rest new.notes.line) none
    ∙ ap (λ (n : ℕ). undecoded as_touches new.phase new rest n) same
    ∙ ap (λ (f : ℕ → List Touch). f old.notes.line) (rest_same rest) in
    λ rest. record {
      handed = vec_items old.notes.touches;
      left = to_touch e rest;
      given = given;
      parted = binary_touch d old rest at ∙ ap (λ (more : List Touch). vec_items old.notes.touches ++ more) (sym (left rest));
      known = refl;
      later = All-same (λ (touch : Touch). line ≤ touch.line) (to_touch e rest) (undecoded as_touches old.phase old rest old.notes.line) (left rest)
          (rw is (undecoded_later old.phase old rest old.notes.line old.notes.counted).from);
    }
handed_by d e old new before after (Err why) at then rest_same same is given none = tt

pub kept_by : {R E : Type 0} (d e : Decoded R) (old new : Decoder) (before after : List Touch) (r : Result ℕ E) → d.form ≡ form.Binary old → e.form ≡ form.Binary new
    → ((rest : List ℕ) → undecoded as_touches new.phase new rest ≡ undecoded as_touches old.phase old rest) → new.notes.line ≡ old.notes.line
    → OnErr r ((after ≡ before) × (vec_items new.notes.touches ≡ vec_items old.notes.touches)) → OnErr r ((after ≡ before) × ((rest : List ℕ) → to_touch e rest ≡ to_touch d rest))
unfolding to_note
kept_by d e old new before after (Ok line) at then rest_same same err = tt
kept_by d e old new before after (Err why) at turned rest_same same err = (
  err.0,
  λ rest. binary_touch e new rest turned
      ∙ ap (λ (xs : List Touch). xs ++ undecoded as_touches new.phase new rest new.notes.line) err.1
      ∙ ap (λ (n : ℕ). vec_items old.notes.touches ++ undecoded as_touches new.phase new rest n) same
      ∙ ap (λ (f : ℕ → List Touch). vec_items old.notes.touches ++ f old.notes.line) (rest_same rest)
      ∙ sym (binary_touch d old rest at),
)

-- of a text nothing is handed out, and before the first bytes are known nothing either
pub none_handed : {R : Type 0} (d e : Decoded R) (before : List Touch) (line : ℕ) → ((rest : List ℕ) → to_touch d rest ≡ to_touch e rest)
    → ((rest : List ℕ) → All (λ touch. line ≤ touch.line) (to_touch e rest)) → (rest : List ℕ) → HasHanded (to_touch d rest) (Some (to_touch e rest)) before before line
none_handed d e before line same later = λ rest. record { handed = []; left = to_touch e rest; given = sym (append-nil before); parted = same rest; known = refl; later = later rest }

pub text_later : {R : Type 0} (d : Decoded R) (line : ℕ) (rest : List ℕ) → d.form ≡ form.Text → All (λ touch. line ≤ touch.line) (to_touch d rest)
text_later d line rest at = All-same (λ (touch : Touch). line ≤ touch.line) _ _ (text_touch d rest at) (All-nil (λ (touch : Touch). line ≤ touch.line))

pub any_later : (touches : List Touch) → All (λ touch. 0 ≤ touch.line) touches
any_later [] = All-nil (λ (touch : Touch). 0 ≤ touch.line)
any_later (touch ∷ more) = All-cons (λ (t : Touch). 0 ≤ t.line) touch more (omega arith) (any_later more)

pub text_handed : {R : Type 0} (d e : Decoded R) (before : List Touch) (line : ℕ) → d.form ≡ form.Text → e.form ≡ form.Text → (rest : List ℕ) → HasHanded (to_touch d rest) (Some (to_touch e rest)) before before line
text_handed d e before line was is = none_handed d e before line (λ rest. text_touch d rest was ∙ sym (text_touch e rest is)) (λ rest. text_later e line rest is)

pub unknown_handed : {R : Type 0} (d e : Decoded R) (before : List Touch) → d.form ≡ form.Unknown → e.form ≡ form.Unknown → e.held ≡ d.held → e.first ≡ d.first
    → (rest : List ℕ) → HasHanded (to_touch d rest) (Some (to_touch e rest)) before before 0
unknown_handed d e before was is held first =
    none_handed d e before 0 (λ rest. unknown_touch d rest was ∙ sym (unknown_touch e rest is ∙ rw (held, first) refl)) (λ rest. any_later (to_touch e rest))

-- What was read so far was written, so each end leaves a beginning of the text.
use Rattle.std.proofs.Common.{◌≡◌, ◌∙◌, ℕ, ◌≤◌, Bool, List, [], ◌++◌, append-nil, append_assoc, length, take, drop, Option, Some, None, IfSome, IfOk, IfErr, Result, Ok, Err, refl, sym, ap, subst, arith}
use Rattle.std.proofs.Math.Seq.{take-append_seam}
use Rattle.std.proofs.lemmas.List.{take-append-drop}
use Rattle.std.specs.Io.KnownBytes.{Appends, Consumes, IsAtEnd, Keeps}
use Rattle.er_exit.specs.Lines.{fault_line}
use Rattle.er_exit.specs.Statuses.{fault_status}
use Rattle.er_exit.specs.Writes.{GetsLine}
use Rattle.er_exit.specs.declared.faults.Fault.{Fault}
use Rattle.eraser.specs.Printing.{PrintsTo, WritesText}
use Rattle.eraser.specs.Stories.{FailsOutput}

-- the bytes that a reader has lost, and a writer has got
abbrev pub HasPassed : Option (List ℕ) → Option (List ℕ) → Option (List ℕ) → Option (List ℕ) → Type 0
HasPassed text left old new = (bytes : List ℕ) × (Consumes text left bytes × Appends old new bytes)

consumes_nothing : (text : Option (List ℕ)) → Consumes text text []
consumes_nothing None = tt
consumes_nothing (Some bytes) = refl

appends_nothing : (old : Option (List ℕ)) → Appends old old []
appends_nothing None = tt
appends_nothing (Some bytes) = sym (append-nil bytes)

pub passed-none : (text old : Option (List ℕ)) → HasPassed text text old old
passed-none text old = ([], (consumes_nothing text, appends_nothing old))

consumes_more : (text left rest : Option (List ℕ)) (front back : List ℕ) → Consumes text left front → Consumes left rest back → Consumes text rest (front ++ back)
consumes_more None left rest front back first second = tt
consumes_more (Some x) None rest front back first second = absurd first
consumes_more (Some x) (Some y) None front back first second = absurd second
consumes_more (Some x) (Some y) (Some z) front back first second = first ∙ ap (λ l. front ++ l) second ∙ sym (append_assoc front back z)

pub appends_more : (old middle new : Option (List ℕ)) (front back : List ℕ) → Appends old middle front → Appends middle new back → Appends old new (front ++ back)
appends_more None middle new front back first second = tt
appends_more (Some x) None new front back first second = absurd first
appends_more (Some x) (Some y) None front back first second = absurd second
appends_more (Some x) (Some y) (Some z) front back first second = second ∙ ap (λ l. l ++ back) first ∙ append_assoc x front back

pub passed-more : (text left rest old middle new : Option (List ℕ)) (piece : List ℕ) → HasPassed text left old middle → Consumes left rest piece → Appends middle new piece → HasPassed text rest old new
passed-more text left rest old middle new piece (bytes, (consumed, written)) read wrote =
    (bytes ++ piece, (consumes_more text left rest bytes piece consumed read, appends_more old middle new bytes piece written wrote))

-- a beginning of the front is one of the whole
pub torn_front : (old new : Option (List ℕ)) (front back : List ℕ) → (n : ℕ) × Appends old new (take n front) → (x : ℕ) × Appends old new (take x (front ++ back))
torn_front old new front back (n, wrote) =
    (length (take n front), subst (Appends old new) (sym (ap (take (length (take n front))) parts ∙ take-append_seam (take n front) (drop n front ++ back))) wrote)
  where
    parts : front ++ back ≡ take n front ++ (drop n front ++ back)
    parts = ap (λ l. l ++ back) (sym (take-append-drop n front)) ∙ append_assoc (take n front) (drop n front) back

-- and so is the front with a beginning of the rest
pub torn_back : (old middle new : Option (List ℕ)) (front back : List ℕ) → Appends old middle front → (n : ℕ) × Appends middle new (take n back) → (x : ℕ) × Appends old new (take x (front ++ back))
torn_back old middle new front back first (n, wrote) =
    (length (front ++ take n back), subst (Appends old new) (sym (ap (take (length (front ++ take n back))) parts ∙ take-append_seam (front ++ take n back) (drop n back))) (appends_more old middle new front (take n back) first wrote))
  where
    parts : front ++ back ≡ (front ++ take n back) ++ drop n back
    parts = ap (λ l. front ++ l) (sym (take-append-drop n back)) ∙ sym (append_assoc front (take n back) (drop n back))

-- a reader that is at its end gave all of the text
whole : (text left : Option (List ℕ)) (bytes : List ℕ) → Consumes text left bytes → IsAtEnd left → IfSome text (λ all. all ≡ bytes)
whole None left bytes consumed end = tt
whole (Some all) None bytes consumed end = absurd consumed
whole (Some all) (Some rest) bytes consumed end = consumed ∙ ap (λ l. bytes ++ l) end ∙ append-nil bytes

told : {P Q : List ℕ → Type 0} (text : Option (List ℕ)) → ((all : List ℕ) → P all → Q all) → IfSome text P → IfSome text Q
told None f is = tt
told (Some all) f is = f all is

pub passed-all : (text left rest old new : Option (List ℕ)) (count : ℕ) (buffer : List ℕ) → HasPassed text left old new → Consumes left rest (take count buffer) → count ≡ 0 → IsAtEnd rest
    → IfSome text (Appends old new)
passed-all text left rest old new count buffer (bytes, (consumed, written)) read none end =
    let nothing : Consumes left rest [] = subst (λ (n : ℕ). Consumes left rest (take n buffer)) none read in
    told text (λ all same. subst (Appends old new) (sym (same ∙ append-nil bytes)) written) (whole text rest (bytes ++ []) (consumes_more text left rest bytes [] consumed nothing) end)

-- what was written is a beginning of the text
begun : (text left old new : Option (List ℕ)) (bytes : List ℕ) → Consumes text left bytes → Appends old new bytes → IfSome text (λ all. (n : ℕ) × Appends old new (take n all))
begun None left old new bytes consumed written = tt
begun (Some all) None old new bytes consumed written = absurd consumed
begun (Some all) (Some rest) old new bytes consumed written =
    (length bytes, subst (Appends old new) (sym (ap (take (length bytes)) consumed ∙ take-append_seam bytes rest)) written)

pub passed-some : (text left old new : Option (List ℕ)) → HasPassed text left old new → IfSome text (λ all. (n : ℕ) × Appends old new (take n all))
passed-some text left old new (bytes, (consumed, written)) = begun text left old new bytes consumed written

-- and so it is if a write broke off in the next piece
split : (left rest : Option (List ℕ)) (n : ℕ) (piece : List ℕ) → Consumes left rest piece → (middle : Option (List ℕ)) × Consumes left middle (take n piece)
split None rest n piece read = (None, tt)
split (Some all) None n piece read = absurd read
split (Some all) (Some rest) n piece read = (Some (drop n piece ++ rest), read ∙ ap (λ l. l ++ rest) (sym (take-append-drop n piece)) ∙ append_assoc (take n piece) (drop n piece) rest)

pub passed-torn : (text left rest old middle new : Option (List ℕ)) (piece : List ℕ) → HasPassed text left old middle → Consumes left rest piece → (n : ℕ) × Appends middle new (take n piece)
    → IfSome text (λ all. (n : ℕ) × Appends old new (take n all))
passed-torn text left rest old middle new piece passed read (n, wrote) =
    let torn = split left rest n piece read in
    passed-some text torn.0 old new (passed-more text left torn.0 old middle new (take n piece) passed torn.1 wrote)

-- what is left behind a print, by how it ended
pub prints-to : (text : List ℕ) (written : Bool) (old new errors_old errors_new : Option (List ℕ)) (failed : Bool) (status : ℕ) (ended : Result ℕ Fault) → WritesText text old new ended → FailsOutput written ended
    → IfOk ended (λ s. s ≡ 0) → IfOk ended (λ s. status ≡ s) → (status ≤ 1 → Keeps errors_old errors_new)
    → IfErr ended (λ why. (status ≡ fault_status why) × GetsLine errors_old errors_new (fault_line why) failed) → PrintsTo text written old new errors_old errors_new failed status
prints-to text written old new errors_old errors_new failed status (Ok s) output device zero given quiet line =
    record { ended = Ok s; output = output; device = device; ends = (given ∙ zero, quiet (subst (λ (n : ℕ). n ≤ 1) (sym (given ∙ zero)) (omega arith))) }
prints-to text written old new errors_old errors_new failed status (Err why) output device zero given quiet line =
    record { ended = Err why; output = output; device = device; ends = line }

-- none of its faults has the status 2
pub never-two : {P : Type 0} (L : Fault → Type 0) (status : ℕ) (ended : Result ℕ Fault) → IfOk ended (λ s. s ≡ 0) → IfOk ended (λ s. status ≡ s) → IfErr ended (λ why. fault_status why ≡ 4)
    → IfErr ended (λ why. (status ≡ fault_status why) × L why) → status ≡ 2 → P
never-two L status (Ok s) zero given four line two = cc
never-two L status (Err why) zero given four (is, line) two = absurd (omega (arith, is, four, two))

-- What the line in front did to a reading, by its place, its number and its bytes.
use Rattle.std.proofs.Common.{◌≡◌, ℕ, Bool, true, false, not, List, take, Option, Some, None, IfSome, Ok, Err, subst, sym, ap, ◌∙◌}
use Rattle.std.specs.Io.KnownBytes.{Keeps}
use Rattle.er_trace.specs.Trace.{Recording}
use Rattle.er_lines.specs.declared.faults.ReadFault.{ReadFault}
use Rattle.er_lines.specs.declared.faults.ReadFault.TheVariants as fault
use Rattle.er_lines.specs.declared.faults.TextKind.TheVariants.{NoHeader}
use Rattle.er_text.specs.declared.stages.Stage.{Stage}
use Rattle.er_text.specs.declared.stages.Stage.TheVariants.{Front}
use Rattle.er_lines.specs.Lines.{Placed}
use Rattle.er_lines.specs.declared.lines.FrontLine.{FrontLine}
use Rattle.er_lines.specs.Places.{Place}
use Rattle.er_text.specs.Places.{Reached, Tail}
use Rattle.er_text.specs.declared.endings.Lost.{Lost}
use Rattle.er_text.specs.Ending.{comment_past}
use Rattle.er_text.specs.Inner.Endings.{tail_past}
use Rattle.er_lines.specs.Lending.{is_ended, lines_from, lines_left, front_line, limit_fault, LineThen}
use Rattle.er_lines.specs.Reading.{Reads, Turns, Continues}
use Rattle.er_text.specs.Inner.Traces.{Progress, at_front, at_line, progress, plain_at, read_content, finish_as, finish, read_text, IsOutcome}
use Rattle.er_lines.proofs.TurnLemmas.{turn_fails, turn_on}

-- what a line of a trace did to the reading
pub trace_fails : (old : Reached) (at : Place) (front : FrontLine) (left rest new : Option (List Placed)) (told : Recording) (line : ℕ) (bytes : List ℕ) (u v : Progress) (e : ReadFault)
    → LineThen left (front_line at front) rest → limit_fault at.limit (front_line at front) ≡ None → at.limit ≡ old.place.limit → at.number ≡ old.place.number
    → line ≡ at.number → bytes ≡ take front.len at.ahead → Reads {X = Unit {0}} line v (Err e) (plain_at (at_line line old.stage old.idle told) line bytes)
    → Turns old.place.limit read_content left new (progress old told) u (Err e)
trace_fails old at front left rest new told line bytes u v e first within limit number same all gives =
    let G : ℕ → Type 0 = λ n. Reads {X = Unit {0}} n v (Err e) (plain_at (at_line n old.stage old.idle told) n bytes) in
    let H : List ℕ → Type 0 = λ b. Reads {X = Unit {0}} at.number v (Err e) (plain_at (at_line at.number old.stage old.idle told) at.number b) in
    let L : ℕ → Type 0 = λ l. Turns l read_content left new (progress old told) u (Err e) in
    let N : ℕ → Type 0 = λ n. Turns at.limit read_content left new (at_line n old.stage old.idle told) u (Err e) in
    subst L limit (subst N number (turn_fails at.limit read_content left rest new (front_line at front) (at_line at.number old.stage old.idle told) u v e first within (subst H all (subst G same gives))))

-- a line that was read
pub trace_on : (old : Reached) (at : Place) (front : FrontLine) (left rest : Option (List Placed)) (told : Recording) (line : ℕ) (bytes : List ℕ) (u : Progress)
    → LineThen left (front_line at front) rest → limit_fault at.limit (front_line at front) ≡ None → at.limit ≡ old.place.limit → at.number ≡ old.place.number
    → line ≡ at.number → bytes ≡ take front.len at.ahead → plain_at (at_line line old.stage old.idle told) line bytes ≡ Ok u
    → Turns old.place.limit read_content left rest (progress old told) u (Ok true)
trace_on old at front left rest told line bytes u first within limit number same all gives =
    let G : ℕ → Type 0 = λ n. plain_at (at_line n old.stage old.idle told) n bytes ≡ Ok u in
    let H : List ℕ → Type 0 = λ b. plain_at (at_line at.number old.stage old.idle told) at.number b ≡ Ok u in
    let L : ℕ → Type 0 = λ l. Turns l read_content left rest (progress old told) u (Ok true) in
    let N : ℕ → Type 0 = λ n. Turns at.limit read_content left rest (at_line n old.stage old.idle told) u (Ok true) in
    subst L limit (subst N number (turn_on at.limit read_content left rest (front_line at front) (at_line at.number old.stage old.idle told) u first within (subst H all (subst G same gives))))

-- what it makes of how the lines before end
pub trace_tail : (before : Tail) (at : Place) (front : FrontLine) (ended : Bool) (comment : Option Lost) (line : ℕ) (bytes : List ℕ) → ended ≡ is_ended front
    → comment ≡ comment_past before.comment line bytes → line ≡ at.number → bytes ≡ take front.len at.ahead
    → record { cut = not ended; comment = comment } ≡ tail_past before (front_line at front)
trace_tail before at front ended comment line bytes is told same all =
    ap (λ (b : Bool). record { cut = not b; comment = comment }) is
    ∙ ap (λ (c : Option Lost). record { cut = not (is_ended front); comment = c })
    (told ∙ ap (λ (n : ℕ). comment_past before.comment n bytes) same ∙ ap (λ (b : List ℕ). comment_past before.comment at.number b) all)

-- what is left where nothing was taken
pub kept_first : (old at : Place) (before known : Option (List ℕ)) (p : Placed) (rest : Option (List Placed)) → (at ≡ old) × Keeps before known → LineThen (lines_left at known) p rest
    → LineThen (lines_left old before) p rest
kept_first old at None known p rest same first = tt
kept_first old at (Some xs) None p rest same first = absurd same.1
kept_first old at (Some xs) (Some ys) p rest same first =
    let P : Place → Type 0 = λ a. LineThen (lines_left a (Some xs)) p rest in
    let Q : List ℕ → Type 0 = λ zs. LineThen (lines_left at (Some zs)) p rest in
    subst P same.0 (subst Q same.1 first)

-- a fault of the next line is the text's
pub fault_ends : (limit : ℕ) (known : Option (List ℕ)) (left rest : Option (List Placed)) (p q : Progress) (e : ReadFault)
    → Continues limit read_content (lines_from 1 0 known) left at_front p → Turns limit read_content left rest p q (Err e)
    → IfSome known (λ text. IsOutcome (read_text limit text) (Err e))
fault_ends limit None left rest p q e on turn = tt
fault_ends limit (Some text) None rest p q e on turn = absurd on
fault_ends limit (Some text) (Some left) rest p q (fault.Text f) on turn = ap finish (on ∙ turn)
fault_ends limit (Some text) (Some left) rest p q fault.Memory on turn = tt
fault_ends limit (Some text) (Some left) rest p q fault.Read on turn = tt

-- a text that ends before its header has that fault
pub header_missing : (limit : ℕ) (known : Option (List ℕ)) (left rest : Option (List Placed)) (p q : Progress) (e : ReadFault)
    → Continues limit read_content (lines_from 1 0 known) left at_front p → Turns limit read_content left rest p q (Ok false)
    → q.stage ≡ Front → e ≡ fault.Text (record { line = q.number; kind = NoHeader }) → IfSome known (λ text. IsOutcome (read_text limit text) (Err e))
header_missing limit None left rest p q e on turn front is = tt
header_missing limit (Some text) None rest p q e on turn front is = absurd on
header_missing limit (Some text) (Some left) rest p q e on turn front is =
    let told : read_text limit text ≡ Err (record { line = q.number; kind = NoHeader }) = ap finish (on ∙ turn) ∙ ap (λ (x : Stage). finish_as x q) front in
    subst (λ (x : ReadFault). IsOutcome (read_text limit text) (Err x)) (sym is) told

-- What one line does to the reading of all that is left.
use Rattle.std.proofs.Common.{◌≡◌, ℕ, ◌+◌, true, false, cond, Bool, List, length, nat_lt, Option, Some, None, Result, Ok, Err, refl, sym, ap, ◌∙◌}
use Rattle.er_lines.specs.declared.faults.TextKind.{TextKind}
use Rattle.er_lines.specs.declared.faults.TextKind.TheVariants.{LineTooLong, TextTooLong}
use Rattle.er_lines.specs.declared.faults.TextFault.{TextFault}
use Rattle.er_lines.specs.declared.faults.ReadFault.{ReadFault}
use Rattle.er_lines.specs.declared.faults.ReadFault.TheVariants as fault
use Rattle.er_lines.specs.Lines.{Placed, width}
use Rattle.er_lines.specs.Lending.{limit_fault, LineThen}
use Rattle.er_lines.specs.Reading.{read_plain, read_line, go_on, read_lines, Reads, Turns, Continues}

inside : {T : Type 0} (a b : Bool) (r : Result T TextKind) → cond a (Some LineTooLong) (cond b (Some TextTooLong) None) ≡ None → cond a (Err LineTooLong) (cond b (Err TextTooLong) r) ≡ r
inside true b r e = absurd (cc)
inside false true r e = absurd (cc)
inside false false r e = refl

line_inside : {T : Type 0} (limit : ℕ) (content : T → Placed → Result T TextKind) (t : T) (p : Placed) → limit_fault limit p ≡ None → read_line limit content t p ≡ read_plain content t p
line_inside limit content t p e = inside (nat_lt 1024 (length p.line.bytes)) (nat_lt limit (p.start + width p.line)) (read_plain content t p) e

pub turn_on : {T : Type 0} (limit : ℕ) (content : T → Placed → Result T TextKind) (left rest : Option (List Placed)) (p : Placed) (t u : T)
    → LineThen left p rest → limit_fault limit p ≡ None → read_plain content t p ≡ Ok u → Turns limit content left rest t u (Ok true)
turn_on limit content None rest p t u first within reads = tt
turn_on limit content (Some left) None p t u first within reads = first
turn_on limit content (Some left) (Some rest) p t u first within reads =
    ap (λ (ls : List Placed). read_lines limit content ls t) first
    ∙ ap (go_on p (read_lines limit content rest)) (line_inside limit content t p within ∙ reads)

fails : {T : Type 0} (limit : ℕ) (content : T → Placed → Result T TextKind) (left rest new : Option (List Placed)) (p : Placed) (t u : T) (f : TextFault)
    → LineThen left p rest → limit_fault limit p ≡ None → f.line ≡ p.number → read_plain content t p ≡ Err f.kind → Turns limit content left new t u (Err (fault.Text f))
fails limit content None rest new p t u f first within line reads = tt
fails limit content (Some left) None new p t u f first within line reads = absurd first
fails limit content (Some left) (Some rest) new p t u f first within line reads =
    ap (λ (ls : List Placed). read_lines limit content ls t) first
    ∙ ap (go_on p (read_lines limit content rest)) (line_inside limit content t p within ∙ reads)
    ∙ ap (λ (l : ℕ). Err (record { line = l; kind = f.kind })) (sym line)

-- whatever error the line gave
pub turn_fails : {T : Type 0} (limit : ℕ) (content : T → Placed → Result T TextKind) (left rest new : Option (List Placed)) (p : Placed) (t u v : T) (e : ReadFault)
    → LineThen left p rest → limit_fault limit p ≡ None → Reads {X = Unit {0}} p.number v (Err e) (read_plain content t p) → Turns limit content left new t u (Err e)
turn_fails limit content left rest new p t u v (fault.Text f) first within gives = fails limit content left rest new p t u f first within gives.0 gives.1
turn_fails limit content None rest new p t u v fault.Memory first within gives = tt
turn_fails limit content (Some left) rest new p t u v fault.Memory first within gives = tt
turn_fails limit content None rest new p t u v fault.Read first within gives = tt
turn_fails limit content (Some left) rest new p t u v fault.Read first within gives = tt

-- turns, one behind the other
pub at_start : {T : Type 0} (limit : ℕ) (content : T → Placed → Result T TextKind) (all : Option (List Placed)) (t : T) → Continues limit content all all t t
at_start limit content None t = tt
at_start limit content (Some all) t = refl

pub goes_on : {T : Type 0} (limit : ℕ) (content : T → Placed → Result T TextKind) (all left rest : Option (List Placed)) (a t u : T)
    → Continues limit content all left a t → Turns limit content left rest t u (Ok true) → Continues limit content all rest a u
goes_on limit content None left rest a t u on turn = tt
goes_on limit content (Some all) None rest a t u on turn = absurd on
goes_on limit content (Some all) (Some left) None a t u on turn = turn
goes_on limit content (Some all) (Some left) (Some rest) a t u on turn = on ∙ turn

-- What was read so far stands in front of the whole: names keep their numbers, and steps their places.
use Rattle.std.proofs.Common.{◌≡◌, ◌∙◌, ◌+◌, ℕ, Bool, true, false, cond, nat_lt, List, [], ◌∷◌, length, Option, Some, None, Result, Ok, Err, refl, sym, ap, subst}
use Rattle.er_event.specs.declared.steps.Step.{Step}
use Rattle.er_text.proofs.GrowthLemmas.{grows_not, grows_on, line_grows}
use Rattle.er_text.proofs.TraceLaws.{trace_read}
use Rattle.er_text.specs.Batches.{HasRead, joined}
use Rattle.er_lines.specs.Lending.{lines_left}
use Rattle.er_lines.specs.Reading.{Continues, go_on, read_line, read_lines, read_plain}
use Rattle.er_text.specs.Inner.Traces.{Progress, at_front, finish, finish_as, progress, read_content}
use Rattle.er_lines.specs.Lines.{Placed, placed, width}
use Rattle.er_text.specs.Named.{Grows}
use Rattle.er_text.specs.Places.{Reached}
use Rattle.er_text.specs.Trace.{IsTrace}
use Rattle.er_lines.specs.declared.faults.TextFault.{TextFault}
use Rattle.er_lines.specs.declared.faults.TextKind.{TextKind}
use Rattle.er_lines.specs.declared.faults.TextKind.TheVariants.{LineTooLong, TextTooLong}
use Rattle.er_text.specs.declared.stages.Stage.{Stage}
use Rattle.er_text.specs.declared.stages.Stage.TheVariants.{Front, Events, Ended}
use Rattle.er_trace.specs.Trace.{Recording}

within : (long late : Bool) (r : Result Progress TextKind) (q : Progress) → cond long (Err LineTooLong) (cond late (Err TextTooLong) r) ≡ Ok q → r ≡ Ok q
within true late r q e = absurd (cc)
within false true r q e = absurd (cc)
within false false r q e = e

-- a line
line-on : (limit : ℕ) (p q : Progress) (line : Placed) → read_line limit read_content p line ≡ Ok q → Grows p.told q.told
line-on limit p q line e =
    line_grows line.number line.line.bytes p q
    (within (nat_lt 1024 (length line.line.bytes)) (nat_lt limit (line.start + width line.line)) (read_plain read_content p line) q e)

line-by : (limit : ℕ) (line : Placed) (left : List Placed) → ((m q : Progress) → read_lines limit read_content left m ≡ Ok q → Grows m.told q.told)
    → (p q : Progress) (r : Result Progress TextKind) → read_line limit read_content p line ≡ r → go_on line (read_lines limit read_content left) r ≡ Ok q → Grows p.told q.told
line-by limit line left on p q (Ok m) is e = grows_on p.told m.told q.told (line-on limit p m line is) (on m q e)
line-by limit line left on p q (Err kind) is e = absurd (cc)

-- and all lines
lines-on : (limit : ℕ) (left : List Placed) (p q : Progress) → read_lines limit read_content left p ≡ Ok q → Grows p.told q.told
lines-on limit [] p q e = let same : p ≡ q = cc in subst (λ (x : Progress). Grows p.told x.told) same (grows_not p.told)
lines-on limit (line ∷ left) p q e = line-by limit line left (lines-on limit left) p q (read_line limit read_content p line) refl e

ended : (stage : Stage) (q : Progress) (r : Recording) → finish_as stage q ≡ Ok r → q.told ≡ r
ended Front q r e = absurd (cc)
ended (Events version) q r e = cc
ended Ended q r e = cc

finished : (limit : ℕ) (left : List Placed) (p : Progress) (r : Recording) (result : Result Progress TextFault) → read_lines limit read_content left p ≡ result → finish result ≡ Ok r
    → Grows p.told r
finished limit left p r (Ok q) is e = subst (Grows p.told) (ended q.stage q r e) (lines-on limit left p q is)
finished limit left p r (Err fault) is e = absurd (cc)

pub in-front : (text : List ℕ) (past : List Step) (lines sites : List ℕ) (reader : Reached) (known : Option (List ℕ)) (trace r : Recording) → HasRead text past lines sites reader known trace
    → IsTrace text reader.place.limit r → Grows (joined past lines sites trace) r
in-front text past lines sites reader known trace r read is = by (lines_left reader.place known) read.0
  where
    by : (left : Option (List Placed)) → Continues reader.place.limit read_content (Some (placed text)) left at_front (progress reader (joined past lines sites trace)) → Grows (joined past lines sites trace) r
    by None on = absurd on
    by (Some left) on =
        finished reader.place.limit left (progress reader (joined past lines sites trace)) r (read_lines reader.place.limit read_content left (progress reader (joined past lines sites trace))) refl
        (ap finish (sym on) ∙ trace_read reader.place.limit text r is)

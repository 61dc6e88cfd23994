-- Lines that were taken are the next of what is left, and their steps were added.
use Rattle.std.proofs.Common.{◌≡◌, ◌+◌, ◌<◌, ◌≤◌, ℕ, List, true, false, not, Ok, Option, subst, sym, ap, ◌∙◌, arith, rules}
use Rattle.std.proofs.lemmas.Result.{err_from_is_err_and}
use Rattle.er_device.specs.Device.{inner_of}
use Rattle.er_text.specs.declared.stages.Stage.TheVariants.{Events}
use Rattle.er_text.specs.declared.verbs.Version.TheVariants.{Three}
use Rattle.er_text.specs.Places.{Reached, Tail}
use Rattle.er_trace.specs.Names.{number_of}
use Rattle.er_trace.specs.Trace.{Recording}
use Rattle.er_lines.specs.Lending.{front_line, lines_left, LineThen}
use Rattle.er_lines.specs.Lines.{Placed}
use Rattle.er_lines.specs.Places.{Place}
use Rattle.er_lines.specs.Ready.{operand_name, thread_name}
use Rattle.er_lines.specs.declared.ready.ReadyLine.{ReadyLine}
use Rattle.er_lines.specs.Reading.{Turns}
use Rattle.er_text.specs.Inner.Endings.{KeepsTail}
use Rattle.er_text.specs.Inner.Idle.{last_actor, without_idle}
use Rattle.er_text.specs.Inner.Ready.{with_lines}
use Rattle.er_text.specs.Inner.Traces.{at_line, progress, read_content}
use Rattle.er_text.proofs.GrowthLemmas.{grows_not, line_grows}
use Rattle.er_text.proofs.KnownLemmas.{right_kept, right_on}
use Rattle.er_text.proofs.PlaceLemmas.{kept_first, trace_fails, trace_on, trace_tail}
use Rattle.er_text.proofs.RunLemmas.{HasRun, lines_actor, lines_as, run_all}
use Rattle.er_text.proofs.TailLemmas.{tail_on}
use Rattle.er_text.proofs.reading.TraceReader.next_line.Goals as goal

module _ (g : _) (c : goal.After-self-2-1 g) where
  abbrev line : ReadyLine
  line = c.in-Some.ready

  abbrev thread : List ℕ
  thread = thread_name (g.S.Shortcut.names_of (inner_of c.take.new.reader)) line

  abbrev name : List ℕ
  name = operand_name (g.S.Shortcut.names_of (inner_of c.take.new.reader)) line

  abbrev inside : Reached
  inside = record { place = c.self.inside.lines; stage = c.self.inside.header.stage; idle = c.self.inside.header.idle; tail = record { cut = c.self.inside.cut; comment = c.self.inside.header.comment } }

  abbrev known : Option (List ℕ)
  known = g.R.Read.remaining (inner_of c.args.reader.now)

  abbrev rest : Option (List Placed)
  rest = lines_left c.take.new.self (g.R.Read.remaining (inner_of c.take.new.reader))

  abbrev behind : Option (List ℕ)
  behind = g.R.Read.remaining (inner_of c.take.new.reader)

  abbrev ended : Tail
  ended = record { cut = false; comment = c.self.inside.header.comment }

  third : inside.stage ≡ Events Three
  third = search rules

  added : c.add_ready.new.trace ≡ with_lines inside.place.number line.verb line.address thread name line.count c.args.trace.now
  added = lines_as line.verb line.address line.count c.number-line.result inside.place.number (thread_name (g.S.Shortcut.names_of c.inner.result.now) line) thread (operand_name (g.S.Shortcut.names_of c.inner.result.now) line) name
      c.args.trace.now c.add_ready.new.trace c.in_ok-add_ready.ensures.trace c.number-line.ensures.value (ap (λ r. thread_name (g.S.Shortcut.names_of r) line) c.inner.ensures) (ap (λ r. operand_name (g.S.Shortcut.names_of r) line) c.inner.ensures)

  some : 1 ≤ line.count
  some = c.in-Some.ensures.right.some

  acts : c.remove_last.new.self ≡ without_idle inside.idle (number_of c.args.trace.now.names.threads thread)
  acts = c.remove_last.ensures (number_of c.args.trace.now.names.threads thread)
      (ap last_actor c.steps.ensures.value ∙ ap (λ (r : Recording). last_actor r.steps) added ∙ lines_actor line.count line.verb inside.place.number line.address thread name c.args.trace.now some)

  all : HasRun inside.place c.take.new.self known behind inside.stage inside.idle c.remove_last.new.self inside.tail ended c.args.trace.now
      (with_lines inside.place.number line.verb line.address thread name line.count c.args.trace.now) × (inside.place.start < c.take.new.self.start)
  all = run_all line.count inside.place c.take.new.self known behind line.verb line.address thread name inside.stage inside.idle c.remove_last.new.self inside.tail c.args.trace.now third some c.in-Some.ensures.taken acts

  run : HasRun inside.place c.take.new.self known behind inside.stage inside.idle c.remove_last.new.self inside.tail ended c.args.trace.now c.add_ready.new.trace
  run = subst (λ (s : Recording). HasRun inside.place c.take.new.self known behind inside.stage inside.idle c.remove_last.new.self inside.tail ended c.args.trace.now s) (sym added) all.0

pub returns-clause-turn : goal.returns-clause-turn
returns-clause-turn g c =
    let P : Reached → Type 0 = λ r. Turns r.place.limit read_content (lines_left r.place (known g c)) (rest g c) (progress r c.args.trace.now)
    (at_line c.take.new.self.number c.self.inside.header.stage c.remove_last.new.self c.add_ready.new.trace) (Ok true) in
    subst P c.self.view_is (run g c).turn

pub returns-clause-tail : goal.returns-clause-tail
returns-clause-tail g c =
    let P : Reached → Type 0 = λ r. KeepsTail (lines_left r.place (known g c)) (rest g c) r.tail (ended g c) in
    subst P c.self.view_is (run g c).ends

pub returns-clause-grows : goal.returns-clause-grows
returns-clause-grows g c = (run g c).grows

pub returns-clause-more : goal.returns-clause-more
returns-clause-more g c = λ e. let P : Reached → Type 0 = λ r. r.place.start < c.take.new.self.start in subst P c.self.view_is (all g c).1

pub returns-in_default-2-clause-grows : goal.returns-in_default-2-clause-grows
returns-in_default-2-clause-grows g c = grows_not c.args.trace.now

pub returns-in_err-read_plain-clause-turn : goal.returns-in_err-read_plain-clause-turn
returns-in_err-read_plain-clause-turn g c =
    let e = err_from_is_err_and c.from_residual-in_err-read_plain.result c.from_residual-in_err-read_plain.ensures.1 in
    let found = rw c.in-Some-2.is at c.in_ok-front.ensures.found in
    let was : Reached = record { place = c.self.inside.lines; stage = c.self.inside.header.stage; idle = c.self.inside.header.idle; tail = record { cut = c.self.inside.cut; comment = c.self.inside.header.comment } } in
    let new : Reached = record { place = c.find.new.self; stage = c.read_plain.new.self.stage; idle = c.read_plain.new.self.idle; tail = record { cut = c.self.inside.cut; comment = c.self.inside.header.comment } } in
    let kept = c.in_default.ensures.taken in
    let number : c.find.new.self.number ≡ was.place.number = c.in_ok-front.ensures.number ∙ ap (λ (p : Place). p.number) kept.0 in
    let P : Reached → Type 0 = λ r. Turns r.place.limit read_content (lines_left r.place (g.R.Read.remaining (inner_of c.args.reader.now)))
    (lines_left c.find.new.self (g.R.Read.remaining (inner_of c.find.new.reader))) (progress r c.args.trace.now) (progress new c.read_plain.new.trace) c.from_residual-in_err-read_plain.result in
    subst P c.self.view_is (rw (e.1, e.2) (trace_fails was c.find.new.self c.in-Some-2.front _ _ _ c.args.trace.now c.number-line.result c.bytes-bytes.result.now _ (at_line (c.number-line.result + 1) c.read_plain.new.self.stage c.read_plain.new.self.idle c.read_plain.new.trace) c.in_err-read_plain.field-0.0
    (kept_first was.place c.take.new.self _ _ _ _ kept found.0) found.1 (c.in_ok-front.ensures.limit ∙ c.in_default.ensures.limit) number (c.number-line.ensures.value ∙ sym number) c.bytes-bytes.ensures c.in_err-read_plain.ensures.read))

pub returns-in_default-clause-turn : goal.returns-in_default-clause-turn
returns-in_default-clause-turn g c =
    let found = rw c.in-Some-2.is at c.in_ok-front.ensures.found in
    let was : Reached = record { place = c.self.inside.lines; stage = c.self.inside.header.stage; idle = c.self.inside.header.idle; tail = record { cut = c.self.inside.cut; comment = c.self.inside.header.comment } } in
    let kept = c.in_default.ensures.taken in
    let number : c.find.new.self.number ≡ was.place.number = c.in_ok-front.ensures.number ∙ ap (λ (p : Place). p.number) kept.0 in
    let same : c.number-line.result ≡ c.find.new.self.number = c.number-line.ensures.value ∙ sym number in
    let next : c.number-line.result + 1 ≡ c.pass.new.self.number = ap (λ (n : ℕ). n + 1) same ∙ sym (ap (λ (p : Place). p.number) c.pass.ensures) in
    let rest = lines_left c.pass.new.self (g.R.Read.remaining (inner_of c.find.new.reader)) in
    let left = lines_left was.place (g.R.Read.remaining (inner_of c.args.reader.now)) in
    let line = front_line c.find.new.self c.in-Some-2.front in
    let first : LineThen left line rest = subst (λ (p : Place). LineThen left line (lines_left p (g.R.Read.remaining (inner_of c.find.new.reader)))) (sym c.pass.ensures) (kept_first was.place c.take.new.self _ _ _ _ kept found.0) in
    let P : Reached → Type 0 = λ r. Turns r.place.limit read_content (lines_left r.place (g.R.Read.remaining (inner_of c.args.reader.now))) rest (progress r c.args.trace.now)
    (at_line c.pass.new.self.number c.read_plain.new.self.stage c.read_plain.new.self.idle c.read_plain.new.trace) (Ok true) in
    subst P c.self.view_is (trace_on was c.find.new.self c.in-Some-2.front left rest c.args.trace.now c.number-line.result c.bytes-bytes.result.now _ first found.1 (c.in_ok-front.ensures.limit ∙ c.in_default.ensures.limit) number same c.bytes-bytes.ensures
    (c.in_ok-read_plain.ensures.read ∙ ap (λ (n : ℕ). Ok (at_line n c.read_plain.new.self.stage c.read_plain.new.self.idle c.read_plain.new.trace)) next))

pub returns-in_default-clause-tail : goal.returns-in_default-clause-tail
returns-in_default-clause-tail g c =
    let found = rw c.in-Some-2.is at c.in_ok-front.ensures.found in
    let was : Reached = record { place = c.self.inside.lines; stage = c.self.inside.header.stage; idle = c.self.inside.header.idle; tail = record { cut = c.self.inside.cut; comment = c.self.inside.header.comment } } in
    let kept = c.in_default.ensures.taken in
    let number : c.find.new.self.number ≡ was.place.number = c.in_ok-front.ensures.number ∙ ap (λ (p : Place). p.number) kept.0 in
    let rest = lines_left c.pass.new.self (g.R.Read.remaining (inner_of c.find.new.reader)) in
    let left = lines_left was.place (g.R.Read.remaining (inner_of c.args.reader.now)) in
    let line = front_line c.find.new.self c.in-Some-2.front in
    let first : LineThen left line rest = subst (λ (p : Place). LineThen left line (lines_left p (g.R.Read.remaining (inner_of c.find.new.reader)))) (sym c.pass.ensures) (kept_first was.place c.take.new.self _ _ _ _ kept found.0) in
    let P : Reached → Type 0 = λ r. KeepsTail (lines_left r.place (g.R.Read.remaining (inner_of c.args.reader.now))) rest r.tail (record { cut = not c.is_ended.result; comment = c.read_plain.new.self.comment }) in
    subst P c.self.view_is (tail_on left rest line was.tail _ first
    (trace_tail was.tail c.find.new.self c.in-Some-2.front c.is_ended.result c.read_plain.new.self.comment c.number-line.result c.bytes-bytes.result.now c.is_ended.ensures c.in_ok-read_plain.ensures.comment (c.number-line.ensures.value ∙ sym number) c.bytes-bytes.ensures))

pub returns-in_default-clause-grows : goal.returns-in_default-clause-grows
returns-in_default-clause-grows g c =
    line_grows c.number-line.result c.bytes-bytes.result.now (at_line c.number-line.result c.self.inside.header.stage c.self.inside.header.idle c.args.trace.now)
    (at_line (c.number-line.result + 1) c.read_plain.new.self.stage c.read_plain.new.self.idle c.read_plain.new.trace) c.in_ok-read_plain.ensures.read

pub add_ready-requires : goal.add_ready-requires
add_ready-requires g c =
    let of = g.S.Shortcut.names_of in
    let line = c.in-Some.ensures.right in
    let right = right_kept (of (inner_of c.args.reader.now)) (of (inner_of c.take.new.reader)) c.args.trace.now.names c.args.numbers.now c.in-Some.ensures.kept c.requires.right in
    record { line = rw c.inner.ensures line; small = omega (arith, c.number-line.ensures.bound, c.number-line.ensures.most_limit); right = rw c.inner.ensures right }

pub returns-clause-right : goal.returns-clause-right
returns-clause-right g c = rw c.inner.ensures at c.in_ok-add_ready.ensures.right

pub returns-in_default-2-clause-right : goal.returns-in_default-2-clause-right
returns-in_default-2-clause-right g c =
    let of = g.S.Shortcut.names_of in
    let taken = right_kept (of (inner_of c.args.reader.now)) (of (inner_of c.take.new.reader)) c.args.trace.now.names c.args.numbers.now c.in_default.ensures.kept c.requires.right in
    right_kept (of (inner_of c.take.new.reader)) (of (inner_of c.find.new.reader)) c.args.trace.now.names c.args.numbers.now c.in_ok-front.ensures.names taken

pub returns-in_default-clause-right : goal.returns-in_default-clause-right
returns-in_default-clause-right g c =
    let of = g.S.Shortcut.names_of in
    let taken = right_kept (of (inner_of c.args.reader.now)) (of (inner_of c.take.new.reader)) c.args.trace.now.names c.args.numbers.now c.in_default.ensures.kept c.requires.right in
    let found = right_kept (of (inner_of c.take.new.reader)) (of (inner_of c.find.new.reader)) c.args.trace.now.names c.args.numbers.now c.in_ok-front.ensures.names taken in
    let grows = line_grows c.number-line.result c.bytes-bytes.result.now (at_line c.number-line.result c.self.inside.header.stage c.self.inside.header.idle c.args.trace.now)
    (at_line (c.number-line.result + 1) c.read_plain.new.self.stage c.read_plain.new.self.idle c.read_plain.new.trace) c.in_ok-read_plain.ensures.read in
    right_on (of (inner_of c.find.new.reader)) c.args.trace.now.names c.read_plain.new.trace.names c.args.numbers.now grows.names found

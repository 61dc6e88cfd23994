-- The reports of the steps that were answered are those of the text, and a stop of an analysis is a fault at one of its steps.
use Rattle.std.proofs.Common.{◌≡◌, ◌∙◌, ◌&&◌, ◌||◌, ℕ, Bool, true, false, inl, inr, List, Option, Some, None, IfSome, IsNone, is_none, is_some, refl, sym, ap, subst}
use Rattle.std.specs.List.{All}
use Rattle.er_batch.specs.Analysts.{Asked, HasCounted, HasRunFor, IsAnswered, IsFaultOfReading, Ran}
use Rattle.er_batch.specs.Runs.{IsPartOf}
use Rattle.er_batch.specs.declared.options.Options.{Options}
use Rattle.er_damage.specs.Standing.{Inspected}
use Rattle.er_damage.specs.declared.damage.Damage.{Damage}
use Rattle.er_event.specs.declared.refusals.NoRoom.{NoRoom}
use Rattle.er_event.specs.declared.refusals.NoRoom.TheVariants as room
use Rattle.er_journal.specs.declared.answers.Stopped.{Stopped}
use Rattle.er_parts.specs.Parts.{PartView}
use Rattle.er_report.specs.Names.{HasNames}
use Rattle.er_report.specs.Report.{told as summary, report_of, stop_line}
use Rattle.er_report.specs.Reports.{asks_locks, asks_order}
use Rattle.er_report.specs.declared.report.Report.{Report}
use Rattle.er_report.specs.declared.reports.Analysis.{Analysis}
use Rattle.er_report.specs.declared.reports.Analysis.TheVariants.{Lockset, HappensBefore, Both}
use Rattle.er_parallel.specs.Faults.{MayFail}
use Rattle.er_parallel.specs.declared.config.ReplayFault.{ReplayFault}
use Rattle.er_parallel.specs.declared.config.ReplayFault.TheVariants as replaying
use Rattle.er_run.specs.Faults.{IsFaultOfText, MayFill, StopsFor, fault_of, fault_of_room, fault_of_stop, looks_for_damage}
use Rattle.er_run.specs.Inner.Inspected.{HasFound, IsInspected}
use Rattle.er_run.specs.Inner.Outcomes.{AreBuilt, IsRunBuilt}
use Rattle.er_run.specs.Reports.{is_unstopped}
use Rattle.er_run.specs.declared.fault.RunFault.TheVariants.{Read}
use Rattle.er_lines.specs.declared.faults.ReadFault.{ReadFault}
use Rattle.er_lines.specs.declared.faults.ReadFault.TheVariants as reading
use Rattle.er_trace.specs.Names.{NameTable}
use Rattle.er_trace.specs.Trace.{Recording}
use Rattle.er_unordered.specs.Reports.{has_order}
use Rattle.er_unordered.specs.Stops.{IsStopIn}
use Rattle.er_clock.specs.declared.clock.NoTick.{NoTick}
use Rattle.er_clock.specs.declared.clock.NoTick.TheVariants as order

-- of a part, and beside another report, a stop is a fault
or-false : (b : Bool) → (b || false) ≡ true → b ≡ true
or-false true some = refl
or-false false some = some

pub part-unstopped : (part : Option PartView) (analysis : Analysis) → is_some part ≡ true → is_unstopped part analysis ≡ true
part-unstopped part analysis some = ap (λ (b : Bool). b || asks_order analysis) some

pub same-unstopped : (part : Option PartView) (analysis : Analysis) (there beside unstopped : Bool) → there ≡ asks_order analysis → beside ≡ there → unstopped ≡ (is_some part || beside)
    → is_unstopped part analysis ≡ unstopped
same-unstopped part analysis there beside unstopped orders same is = ap (λ (b : Bool). is_some part || b) (sym orders ∙ sym same) ∙ sym is

-- and without them there is neither
pub alone-whole : (part : Option PartView) (analysis : Analysis) → is_unstopped part analysis ≡ false → part ≡ None
alone-whole None analysis none = refl
alone-whole (Some part) analysis none = absurd (cc)

pub alone-unordered : (part : Option PartView) (analysis : Analysis) → is_unstopped part analysis ≡ false → asks_order analysis ≡ false
alone-unordered None analysis none = none
alone-unordered (Some part) analysis none = absurd (cc)

-- damage is looked for in a whole trace alone
only-by : (strict : Bool) (part : Option PartView) → (strict && is_none part) ≡ true → part ≡ None
only-by strict None both = refl
only-by true (Some part) both = absurd (cc)
only-by false (Some part) both = absurd (cc)

pub only-whole : (options : Options) → looks_for_damage options ≡ true → options.part ≡ None
only-whole options looks = only-by options.strict options.part looks

fills : (part : Option PartView) (analysis : Analysis) (told : Option (List ℕ)) (limit : ℕ) → asks_locks analysis ≡ true → is_unstopped part analysis ≡ true
    → IfSome told (λ text. StopsFor part text limit room.TableFull) → MayFill part analysis told limit
fills part Lockset None limit locks unstopped stops = tt
fills part Lockset (Some text) limit locks unstopped stops = inr (or-false (is_some part) unstopped, stops)
fills part HappensBefore told limit locks unstopped stops = absurd (cc)
fills part Both told limit locks unstopped stops = stops

of-room : (part : Option PartView) (analysis : Analysis) (told : Option (List ℕ)) (limit : ℕ) (cause : NoRoom) → asks_locks analysis ≡ true → is_unstopped part analysis ≡ true
    → IfSome told (λ text. StopsFor part text limit cause) → IsFaultOfText part analysis told limit (fault_of_room cause)
of-room part analysis told limit room.TableFull locks unstopped stops = fills part analysis told limit locks unstopped stops
of-room part analysis told limit room.JournalFull locks unstopped stops = tt
of-room part analysis told limit room.OutOfMemory locks unstopped stops = tt

-- a run that has answered the steps
module _ (part : Option PartView) (asked : Asked) (r : Recording) (ran : Ran) (run : HasRunFor ran asked r) where
  -- it has answered all of them if it hasn't stopped
  not-stopped : ran.stop ≡ None → run.run.stopped ≡ None
  not-stopped none = by run.run.stopped refl
    where
      by : (o : Option Stopped) → run.run.stopped ≡ o → run.run.stopped ≡ None
      by None is = is
      by (Some s) is = absurd (let clash = sym none ∙ run.run.line ∙ ap (stop_line r) is in cc)

  -- its report
  pub run-built : (report : Report) → asks_locks asked.analysis ≡ true → (is_unstopped part asked.analysis ≡ true → ran.stop ≡ None)
      → summary report ≡ report_of r asked.rules asked.explain run.run.stopped → All (HasNames r.names) report.lines.items → IsRunBuilt part asked r (Some report)
  run-built report locks whole says named = record {
    there = sym locks;
    says = record { stop = run.run.stopped; within = run.run.within; cause = run.run.cause; whole = λ unstopped. not-stopped (whole unstopped); says = says };
    names = named;
  }

  -- or, if a stop is a fault, the room that it lacks
  stopped-by : (o : Option Stopped) → run.run.stopped ≡ o → (line : ℕ) (cause : NoRoom) → ran.stop ≡ Some (line, cause) → (text : List ℕ) (limit : ℕ) → IsPartOf part text limit r → StopsFor part text limit cause
  stopped-by None is line cause some text limit trace = absurd (let clash = sym some ∙ run.run.line ∙ ap (stop_line r) is in cc)
  stopped-by (Some s) is line cause some text limit trace =
      let same = sym some ∙ run.run.line ∙ ap (stop_line r) is in
      record {
        recording = r;
        stop = s;
        run = record { trace = trace; within = rw is at run.run.within; cause = rw is at run.run.cause };
        cause = sym (ap (λ (o : Option (ℕ × NoRoom)). cause-of o cause) same);
      }
    where
      cause-of : Option (ℕ × NoRoom) → NoRoom → NoRoom
      cause-of None other = other
      cause-of (Some stop) other = stop.1

  stopped : (told : Option (List ℕ)) (limit : ℕ) (line : ℕ) (cause : NoRoom) → ran.stop ≡ Some (line, cause) → IfSome told (λ text. IsPartOf part text limit r) → IfSome told (λ text. StopsFor part text limit cause)
  stopped None limit line cause some trace = tt
  stopped (Some text) limit line cause some trace = stopped-by run.run.stopped refl line cause some text limit trace

  pub run-fault : (told : Option (List ℕ)) (limit : ℕ) (line : ℕ) (cause : NoRoom) → asks_locks asked.analysis ≡ true → is_unstopped part asked.analysis ≡ true → ran.stop ≡ Some (line, cause)
      → IfSome told (λ text. IsPartOf part text limit r) → IsFaultOfText part asked.analysis told limit (fault_of_room cause)
  run-fault told limit line cause locks unstopped some trace = of-room part asked.analysis told limit cause locks unstopped (stopped told limit line cause some trace)

-- happens-before has stopped at a step of the text
pub order-fault : (part : Option PartView) (analysis : Analysis) (told : Option (List ℕ)) (limit : ℕ) (r : Recording) (why : NoTick) → asks_order analysis ≡ true → IfSome told (λ text. IsPartOf part text limit r)
    → IsStopIn r.steps why → IsFaultOfText part analysis told limit (fault_of_stop why)
order-fault part analysis None limit r (order.Beyond beyond) orders trace is = (orders, tt)
order-fault part analysis (Some text) limit r (order.Beyond beyond) orders trace is = (orders, record { recording = r; trace = trace; full = is })
order-fault part analysis told limit r order.OutOfMemory orders trace is = tt

-- the report of several workers is that of the text
pub crew-built : (part : Option PartView) (asked : Asked) (r : Recording) (report : Report) → asked.analysis ≡ Lockset → summary report ≡ report_of r asked.rules asked.explain None → All (HasNames r.names) report.lines.items
    → AreBuilt part asked r (record { lockset = Some report; unordered = None }) false
crew-built part asked r report alone says named = record {
  lockset = record {
    there = sym (ap asks_locks alone);
    says = record { stop = None; within = tt; cause = tt; whole = λ orders. refl; says = says };
    names = named;
  };
  unordered = record {
    there = sym (ap asks_order alone);
    says = tt;
    names = tt;
    order = sym (ap (λ (analysis : Analysis). asks_order analysis && has_order r.steps) alone);
  };
}

-- or they have a fault at a step of the text
pub crew-fault : (part : Option PartView) (told : Option (List ℕ)) (limit : ℕ) (r : Recording) (why : ReplayFault) → IfSome told (λ text. IsPartOf part text limit r) → MayFail r.steps why → IsFaultOfText part Lockset told limit (fault_of why)
crew-fault part told limit r replaying.Memory trace may = tt
crew-fault part None limit r replaying.TableFull trace may = tt
crew-fault part (Some text) limit r replaying.TableFull trace may = inl (record { recording = r; trace = trace; asks = may })
crew-fault part None limit r replaying.WorkerNotStarted trace may = tt
crew-fault part (Some text) limit r replaying.WorkerNotStarted trace may = (trace.whole, trace.trace)
crew-fault part told limit r replaying.WorkerLost trace may = absurd may

-- what looks for damage, which is there only if there is no part, stands for the text too, and what it finds is the text's
none-is : {X : Type 0} (o : Option X) → IsNone o → o ≡ None
none-is None none = refl
none-is (Some x) none = absurd (cc)

pub found-by : (Stand : Recording → Type 0) (part : Option PartView) (of_pages : ℕ) (told : Option (List ℕ)) (limit : ℕ) (strict : Bool) (used : NameTable) (seen : Option Inspected) (result : Option Damage)
    → (strict ≡ true → part ≡ None) → IsAnswered (λ r. (Stand r × IsInspected seen strict r) × HasCounted part of_pages r.steps) part told limit used
    → (IsAnswered (IsInspected seen strict) None told limit used → HasFound told limit strict result) → (is_some seen ≡ false → IsNone result) → HasFound told limit strict result
found-by Stand part of_pages told limit true used seen result only all found lenient =
    found
    (subst (λ (o : Option PartView). IsAnswered (IsInspected seen true) o told limit used) (only refl)
    (record { recording = all.recording; trace = all.trace; names = all.names; stands = all.stands.0.1 }))
found-by Stand part of_pages told limit false used seen result only all found lenient =
    subst (HasFound told limit false) (sym (none-is result (lenient all.stands.0.1.strict))) (λ wanted. absurd (cc))

-- a fault of the pass is one of the replay
pub of-reading : (part : Option PartView) (analysis : Analysis) (told : Option (List ℕ)) (limit : ℕ) (why : ReadFault) → IsFaultOfReading told limit why → IsFaultOfText part analysis told limit (Read why)
of-reading part analysis told limit (reading.Text fault) is = is
of-reading part analysis told limit reading.Memory is = tt
of-reading part analysis told limit reading.Read is = tt

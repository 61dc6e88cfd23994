-- What was delivered is what was asked for.
use Rattle.std.proofs.Common.{IfSome, ◌≡◌, ◌≢◌, ◌≤◌, ◌-◌, ◌∙◌, ◌++◌, ℕ, Bool, true, false, cond, is_some, List, [], length, Option, Some, None, IfOk, IfErr, Result, Ok, Err, inl, inr, refl, sym, subst, ap, arith}
use Rattle.std.specs.Io.KnownBytes.{Appends, Keeps}
use Rattle.er_batch.specs.declared.verdict.Verdict.{Verdict}
use Rattle.er_batch.specs.declared.verdict.Verdict.TheVariants.{Clean, Races, Stopped}
use Rattle.er_exit.specs.Parts.{IsHeading}
use Rattle.er_exit.specs.declared.faults.Fault.{Fault}
use Rattle.er_exit.specs.declared.faults.Fault.TheVariants as fault
use Rattle.er_forms.specs.Forms.{IsForm}
use Rattle.er_forms.specs.declared.excerpts.Excerpt.{Excerpt}
use Rattle.er_parallel.specs.declared.config.ReplayFault.TheVariants as replaying
use Rattle.er_places.specs.Places.{PlaceTable}
use Rattle.er_lines.specs.declared.ready.Touch.{Touch}
use Rattle.er_print.specs.Written.{WritesReport}
use Rattle.er_print.specs.declared.report.WriteFault.{WriteFault}
use Rattle.er_print.specs.declared.report.WriteFault.TheVariants as writing
use Rattle.er_report.specs.Reports.{asks_locks, asks_order}
use Rattle.er_report.specs.declared.report.Report.{Report}
use Rattle.er_report.specs.declared.reports.Reports.{Reports}
use Rattle.er_request.specs.declared.request.Replay.{Replay}
use Rattle.er_rules.specs.Rules.{Target}
use Rattle.er_run.specs.Faults.{FailsBy as RunFailsBy}
use Rattle.er_run.specs.Reports.{AreReportsOfText, IsOrderOfText, is_verdict_of}
use Rattle.er_run.specs.declared.fault.RunFault.{RunFault}
use Rattle.er_run.specs.declared.fault.RunFault.TheVariants as running
use Rattle.er_text.specs.Ending.{IsEndingOf}
use Rattle.er_text.specs.declared.endings.Ending.{Ending}
use Rattle.er_lines.specs.declared.faults.ReadFault.TheVariants as reading
use Rattle.er_trace.specs.Names.{NameTable}
use Rattle.er_triage.specs.Facts.{IsLeftOf}
use Rattle.er_triage.specs.First.{KeepFirst}
use Rattle.er_triage.specs.Known.{lines_of}
use Rattle.er_triage.specs.Notes.{AreNotes, notes_text}
use Rattle.eraser.specs.Faults.{replay_fault}
use Rattle.eraser.specs.Inner.Writes.{WritesSome}
use Rattle.eraser.specs.Replays.{AreCounted, AreShown, EndsAs, FailsBy, FailsFor, IsCountedIf, IsEndOf, IsOutput, MayHavePlaces, MayLack, MayLackRaces, headed_part, races_in, unordered_of, verdict_status}
use Rattle.eraser.specs.declared.replaying.Ended.{Ended}

-- what is known of reports of a text without the races that rules take, and of those of them that are left
pub record AreTriaged (replay : Replay) (text : List ℕ) (touches : Option (List Touch)) (limit : ℕ) (rules : List Target) (names : NameTable) (found left : Reports) : Type 0 where
  pub raced : Reports
  pub reports : AreReportsOfText replay.part replay.analysis text touches limit rules replay.explain names raced
  pub facts : MayLack replay rules raced found
  pub locks : is_some found.lockset ≡ asks_locks replay.analysis
  pub order : is_some found.unordered ≡ asks_order replay.analysis
  pub first : KeepFirst replay.max_races found left

-- there are as many reports as there were
left_some : (table : PlaceTable) (rules : List Target) (report left : Option Report) → IsLeftOf table rules report left → is_some left ≡ is_some report
left_some table rules None left is = ap is_some is
left_some table rules (Some report) None is = absurd is
left_some table rules (Some report) (Some left) is = refl

still-there : (replay : Replay) (rules : List Target) (raced found : Reports) → MayLackRaces replay rules raced found
    → (is_some found.lockset ≡ is_some raced.lockset) × (is_some found.unordered ≡ is_some raced.unordered)
still-there replay rules raced found (inl same) = (sym (ap (λ (r : Reports). is_some r.lockset) same), sym (ap (λ (r : Reports). is_some r.unordered) same))
still-there replay rules raced found (inr (asks, again, (table, left))) =
    (left_some table rules raced.lockset found.lockset left.lockset, left_some table rules raced.unordered found.unordered left.unordered)

counted_one : (counts : Report) (old new : Option Report) → IsCountedIf counts old new → is_some new ≡ is_some old
counted_one counts None new is = ap is_some is
counted_one counts (Some old) None is = absurd is
counted_one counts (Some old) (Some new) is = refl

counted_some : (counts : Option Report) (old new : Reports) → AreCounted counts old new → (is_some new.lockset ≡ is_some old.lockset) × (is_some new.unordered ≡ is_some old.unordered)
counted_some None old new same = (sym (ap (λ (r : Reports). is_some r.lockset) same), sym (ap (λ (r : Reports). is_some r.unordered) same))
counted_some (Some counts) old new (unordered, lockset) = (counted_one counts old.lockset new.lockset lockset, ap is_some unordered)

pub still-asked : (replay : Replay) (rules : List Target) (raced found : Reports) → MayLack replay rules raced found
    → (is_some found.lockset ≡ is_some raced.lockset) × (is_some found.unordered ≡ is_some raced.unordered)
still-asked replay rules raced found (lacking, lacks, counted) =
    let first = still-there replay rules raced lacking lacks in
    let second = counted_some replay.counts lacking found counted in (second.0 ∙ first.0, second.1 ∙ first.1)

abbrev output : {F : Type 0} (remaining : F → Option (List ℕ)) (replay : Replay) (text : List ℕ) (touches : Option (List Touch)) (limit : ℕ) (rules : List Target) (names : NameTable) (found left : Reports) (bytes : List ℕ)
    → AreTriaged replay text touches limit rules names found left → AreShown remaining replay limit names rules left bytes → IsOutput remaining replay text touches limit rules bytes
output remaining replay text touches limit rules names found left bytes triaged shown =
    record { names = names; raced = triaged.raced; found = found; left = left; reports = triaged.reports; facts = triaged.facts; locks = triaged.locks; order = triaged.order; first = triaged.first; shown = shown }

-- behind the whole output
pub ends : {F : Type 0} (remaining : F → Option (List ℕ)) (replay : Replay) (text : List ℕ) (touches : Option (List Touch)) (limit : ℕ) (rules : List Target) (names : NameTable) (found left : Reports) (ending : Ending) (has_order : Bool) (old new : Option (List ℕ))
    (notes : List ℕ) (count : ℕ) (result : Result Ended Fault) → AreTriaged replay text touches limit rules names found left → ((bytes : List ℕ) × AreShown remaining replay limit names rules left bytes × Appends old new bytes)
    → notes ≡ notes_text replay.unused_rules found rules (length (lines_of found) - length (lines_of left)) → count ≡ unordered_of has_order found
    → IfOk result (λ ended. ended.status ≡ verdict_status (is_verdict_of left)) → IfOk result (λ ended. ended.notes.items ≡ notes)
    → IfOk result (λ ended. (ended.ending ≡ ending) × (ended.unordered ≡ count)) → IsEndingOf text ending → IsOrderOfText replay.part replay.analysis text limit has_order
    → IfOk result (EndsAs remaining replay text touches limit rules old new)
ends remaining replay text touches limit rules names found left ending has_order old new notes count (Err why) triaged written noted counted status same_notes same is order = tt
ends remaining replay text touches limit rules names found left ending has_order old new notes count (Ok ended) triaged (bytes, shown, appended) noted counted status same_notes (same, same_count) is order = record {
  bytes = bytes;
  output = output remaining replay text touches limit rules names found left bytes triaged shown;
  written = appended;
  status = status;
  ending = subst (λ (e : Ending). IsEndingOf text e) (sym same) is;
  order = (has_order, (order, same_count ∙ counted));
  notes = same_notes ∙ noted;
}

-- a fault of writing as one of the program
abbrev pub as_fault : {X : Type 0} → Result X WriteFault → Result X Fault
as_fault (Ok x) = Ok x
as_fault (Err writing.Memory) = Err fault.Memory
as_fault (Err writing.Write) = Err fault.Write

-- what was made was written, if it was made
written : {A E X : Type 0} (Are : List ℕ → Type 0) (heading : List ℕ) (old new : Option (List ℕ)) (text : Result A E) (items : A → List ℕ) (result : Result X WriteFault) → IfOk text (λ t. Are (heading ++ items t))
    → ((bytes : List ℕ) → IfOk text (λ t. items t ≡ bytes) → WritesReport old new (heading ++ bytes) result) → IfErr text (λ e. result ≡ Err writing.Memory) → WritesSome Are old new (as_fault result)
written Are heading old new (Ok t) items (Ok x) are wrote memory = (heading ++ items t, are, wrote (items t) refl)
written Are heading old new (Ok t) items (Err writing.Memory) are wrote memory = wrote (items t) refl
written Are heading old new (Ok t) items (Err writing.Write) are wrote memory = (heading ++ items t, are, wrote (items t) refl)
written Are heading old new (Err e) items (Ok x) are wrote memory = cc
written Are heading old new (Err e) items (Err writing.Memory) are wrote memory = wrote [] tt
written Are heading old new (Err e) items (Err writing.Write) are wrote memory = cc

-- a form that was made is what is asked for
shown_if : {F A E : Type 0} (remaining : F → Option (List ℕ)) (replay : Replay) (limit : ℕ) (names : NameTable) (rules : List Target) (reports : Reports) (table : PlaceTable) (excerpts : List Excerpt) (heading : List ℕ)
    (text : Result A E) (items : A → List ℕ) → MayHavePlaces remaining replay limit reports table → (replay.source ≡ None → excerpts ≡ []) → IsHeading (headed_part replay) replay.explain heading
    → IfOk text (λ t. IsForm replay.form names table rules excerpts reports (items t)) → IfOk text (λ t. AreShown remaining replay limit names rules reports (heading ++ items t))
shown_if remaining replay limit names rules reports table excerpts heading (Ok t) items places sources headed form =
    record { table = table; excerpts = excerpts; places = places; sources = sources; heading = heading; body = items t; headed = headed; form = form; says = refl }
shown_if remaining replay limit names rules reports table excerpts heading (Err e) items places sources headed form = tt

pub delivered : {F A E X : Type 0} (remaining : F → Option (List ℕ)) (replay : Replay) (limit : ℕ) (names : NameTable) (rules : List Target) (reports : Reports) (table : PlaceTable) (excerpts : List Excerpt) (heading : List ℕ)
    (old new : Option (List ℕ)) (text : Result A E) (items : A → List ℕ) (result : Result X WriteFault) → MayHavePlaces remaining replay limit reports table → (replay.source ≡ None → excerpts ≡ [])
    → IsHeading (headed_part replay) replay.explain heading → IfOk text (λ t. IsForm replay.form names table rules excerpts reports (items t))
    → ((bytes : List ℕ) → IfOk text (λ t. items t ≡ bytes) → WritesReport old new (heading ++ bytes) result)
    → IfErr text (λ e. result ≡ Err writing.Memory) → WritesSome (AreShown remaining replay limit names rules reports) old new (as_fault result)
delivered remaining replay limit names rules reports table excerpts heading old new text items result places sources headed form wrote memory =
    written (AreShown remaining replay limit names rules reports) heading old new text items result (shown_if remaining replay limit names rules reports table excerpts heading text items places sources headed form) wrote memory

-- nothing was, for want of memory
pub no-memory : {A E X : Type 0} (heading : List ℕ) (old new : Option (List ℕ)) (text : Result A E) (items : A → List ℕ) (result : Result X WriteFault) → result ≡ Err writing.Memory
    → ((bytes : List ℕ) → IfOk text (λ t. items t ≡ bytes) → WritesReport old new (heading ++ bytes) result) → Keeps old new
no-memory heading old new (Ok t) items result is wrote = rw is at (wrote (items t) refl)
no-memory heading old new (Err e) items result is wrote = rw is at (wrote [] tt)

-- nothing is counted without a report by happens-before
uncounted : (has_order : Bool) (o : Option Report) → is_some o ≡ false → cond has_order 0 (races_in o) ≡ 0
uncounted true o none = refl
uncounted false None none = refl
uncounted false (Some report) none = cc

statuses : (verdict : Verdict) → (verdict_status verdict ≤ 4) × (verdict_status verdict ≢ 2)
statuses Clean = (omega arith, λ is. omega (arith, is))
statuses Races = (omega arith, λ is. omega (arith, is))
statuses Stopped = (omega arith, λ is. omega (arith, is))

-- and so ends each replay, whatever its text is
pub ends-so : (replay : Replay) (found left : Reports) (ending : Ending) (has_order : Bool) (notes : List ℕ) (count : ℕ) (result : Result Ended Fault) → IfOk result (λ ended. ended.status ≡ verdict_status (is_verdict_of left))
    → IfOk result (λ ended. ended.notes.items ≡ notes) → IfOk result (λ ended. (ended.ending ≡ ending) × (ended.unordered ≡ count)) → AreNotes notes
    → (replay.unused_rules ≡ false → replay.max_races ≡ None → notes ≡ []) → is_some found.unordered ≡ asks_order replay.analysis → count ≡ unordered_of has_order found → IfOk result (IsEndOf replay)
ends-so replay found left ending has_order notes count (Err why) status same_notes same are silent order counted = tt
ends-so replay found left ending has_order notes count (Ok ended) status same_notes (same, same_count) are silent order counted = record {
  status = subst (λ (n : ℕ). (n ≤ 4) × (n ≢ 2)) (sym status) (statuses (is_verdict_of left));
  notes = subst AreNotes (sym same_notes) are;
  silent = λ unused most. same_notes ∙ silent unused most;
  locks = λ none. same_count ∙ counted ∙ uncounted has_order found.unordered (order ∙ none);
}

-- neither has failed if only the file of rules is missing
pub unfailed-behind : (P : Type 0) (read write : Bool) (result : Result Ended Fault) → (read ≡ false) × (write ≡ false) → IfErr result (λ why. (why ≡ fault.WriteRules) × P) → FailsBy read write result
unfailed-behind P read write (Ok ended) unfailed is = unfailed
unfailed-behind P read write (Err why) unfailed (is, some) = subst (λ (w : Fault). FailsFor read write w) (sym is) unfailed

-- before a byte is written
pub failed-before : (X : Type 0) (read write : Bool) (why : RunFault) → RunFailsBy {X = X} read false (Err why) → write ≡ false → FailsFor read write (replay_fault why)
failed-before X read write why failed unfailed = subst (λ (w : Bool). FailsFor read w (replay_fault why)) (sym unfailed) (by_case why failed)
  where
    by_case : (why : RunFault) → RunFailsBy {X = X} read false (Err why) → FailsFor read false (replay_fault why)
    by_case (running.Read (reading.Text f)) failed = failed
    by_case (running.Read reading.Memory) failed = failed
    by_case (running.Read reading.Read) failed = failed
    by_case (running.Write writing.Memory) failed = failed
    by_case (running.Write writing.Write) (read, none) = cc
    by_case (running.Replay replaying.Memory) failed = failed
    by_case (running.Replay replaying.TableFull) failed = failed
    by_case (running.Replay replaying.WorkerNotStarted) failed = failed
    by_case (running.Replay replaying.WorkerLost) failed = failed
    by_case (running.Beyond limit) failed = failed
    by_case running.Memory failed = failed
    by_case (running.Damaged damage) failed = failed

-- what holds of a text holds of the one that is known, if it is
pub told-ok : (told : Option (List ℕ)) (result : Result Ended Fault) (Are End Order : List ℕ → Type 0) (Ends : List ℕ → Ended → Type 0) → ((text : List ℕ) → Are text → End text → Order text → IfOk result (Ends text))
    → IfSome told Are → IfSome told End → IfSome told Order → IfOk result (λ ended. IfSome told (λ text. Ends text ended))
told-ok None (Ok ended) Are End Order Ends by are end order = tt
told-ok None (Err why) Are End Order Ends by are end order = tt
told-ok (Some text) (Ok ended) Are End Order Ends by are end order = by text are end order
told-ok (Some text) (Err why) Are End Order Ends by are end order = tt

pub told-err : (told : Option (List ℕ)) (result : Result Ended Fault) (Are : List ℕ → Type 0) (Fails : List ℕ → Fault → Type 0) → ((text : List ℕ) → Are text → IfErr result (Fails text))
    → IfSome told Are → IfErr result (λ why. IfSome told (λ text. Fails text why))
told-err None (Ok ended) Are Fails by are = tt
told-err None (Err why) Are Fails by are = tt
told-err (Some text) (Ok ended) Are Fails by are = tt
told-err (Some text) (Err why) Are Fails by are = by text are

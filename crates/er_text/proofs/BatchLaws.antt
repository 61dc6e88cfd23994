-- A reading goes on in the same way whatever steps were taken away before.
use Rattle.std.proofs.Common.{◌≡◌, ℕ, ◌+◌, Bool, true, false, not, cond, List, [], ◌∷◌, ◌++◌, append_assoc, append-nil, length, nat_lt, Option, Some, None, Result, Ok, Err, refl, subst, sym, ap, ◌∙◌}
use Rattle.std.specs.List.{list_all}
use Rattle.er_trace.specs.Names.{NameTable}
use Rattle.er_trace.specs.Trace.{Recording, without_steps}
use Rattle.er_event.specs.declared.steps.Step.{Step}
use Rattle.er_lines.specs.declared.faults.TextKind.{TextKind}
use Rattle.er_lines.specs.declared.faults.TextKind.TheVariants.{LineTooLong, TextTooLong, NotAscii}
use Rattle.er_lines.specs.declared.faults.TextFault.{TextFault}
use Rattle.er_lines.specs.declared.faults.ReadFault.{ReadFault}
use Rattle.er_lines.specs.declared.faults.ReadFault.TheVariants as fault
use Rattle.er_text.specs.declared.reading.Batch.{Batch}
use Rattle.er_text.specs.declared.reading.Batch.TheVariants.{More, End}
use Rattle.er_text.specs.declared.verbs.Version.{Version}
use Rattle.er_text.specs.Places.{Reached, no_tail}
use Rattle.er_text.specs.Batches.{joined, HasRead, GivesBatch}
use Rattle.er_lines.specs.Lines.{Placed, placed, has_content, words, width, is_ascii}
use Rattle.er_text.specs.Events.{EventLine, Operation, Acquires, Releases, Accesses, Reuses, IgnoresOn, IgnoresOff, Shows, Levels, Starts, Joins, Signals, Awaits, with_operation}
use Rattle.er_text.specs.declared.stages.Stage.{Stage}
use Rattle.er_text.specs.declared.stages.Stage.TheVariants.{Front, Events, Ended}
use Rattle.er_text.specs.Trace.{version_in, is_end, IsTrace, IsFault}
use Rattle.er_text.specs.Inner.Parsing.{parsed_of}
use Rattle.er_text.specs.Inner.Idle.{order_fault, idle_past}
use Rattle.er_text.specs.Inner.Endings.{KeepsTail, BatchesTail}
use Rattle.er_lines.specs.Lending.{lines_left}
use Rattle.er_lines.specs.Reading.{read_line, go_on, read_lines, Continues}
use Rattle.er_text.specs.Inner.Traces.{Progress, at_front, progress, skip, add_event, add_parsed, open_with, closed, read_words, read_content, finish_as, finish, Batches}
use Rattle.er_text.proofs.TailLemmas.{tail_goes_on}
use Rattle.er_text.proofs.TraceLaws.{trace_is, fault_is}

abbrev recording : NameTable → List Step → List ℕ → List ℕ → Recording
recording names steps lines sites = record { steps = steps; lines = lines; sites = sites; names = names }

both : (names : NameTable) (a b : List Step) (c d e f : List ℕ) → a ≡ b → c ≡ d → e ≡ f → recording names a c e ≡ recording names b d f
both names a b c d e f x y z = ap (λ (s : List Step). recording names s c e) x ∙ ap (λ (l : List ℕ). recording names b l e) y ∙ ap (recording names b d) z

-- steps that come behind others come behind those that were taken away before
behind : (steps more : List Step) (lines others sites named : List ℕ) (r : Recording) (names : NameTable)
    → recording names ((steps ++ r.steps) ++ more) ((lines ++ r.lines) ++ others) ((sites ++ r.sites) ++ named)
    ≡ recording names (steps ++ (r.steps ++ more)) (lines ++ (r.lines ++ others)) (sites ++ (r.sites ++ named))
behind steps more lines others sites named r names = both names _ _ _ _ _ _ (append_assoc steps r.steps more) (append_assoc lines r.lines others) (append_assoc sites r.sites named)

operation_joined : (steps : List Step) (lines sites : List ℕ) (line thread : ℕ) (d : Operation) (r : Recording) → with_operation line thread d (joined steps lines sites r) ≡ joined steps lines sites (with_operation line thread d r)
operation_joined steps lines sites line thread (Acquires lock m) r = behind steps _ lines _ sites _ r _
operation_joined steps lines sites line thread (Releases lock m) r = behind steps _ lines _ sites _ r _
operation_joined steps lines sites line thread (Accesses k w None) r = behind steps _ lines _ sites _ r _
operation_joined steps lines sites line thread (Accesses k w (Some site)) r = behind steps _ lines _ sites _ r _
operation_joined steps lines sites line thread (Reuses run None) r = behind steps _ lines _ sites _ r _
operation_joined steps lines sites line thread (Reuses run (Some site)) r = behind steps _ lines _ sites _ r _
operation_joined steps lines sites line thread IgnoresOn r = behind steps _ lines _ sites _ r _
operation_joined steps lines sites line thread IgnoresOff r = behind steps _ lines _ sites _ r _
operation_joined steps lines sites line thread (Shows w) r = behind steps _ lines _ sites _ r _
operation_joined steps lines sites line thread (Levels n) r = behind steps _ lines _ sites _ r _
operation_joined steps lines sites line thread (Starts other) r = behind steps _ lines _ sites _ r _
operation_joined steps lines sites line thread (Joins other) r = behind steps _ lines _ sites _ r _
operation_joined steps lines sites line thread (Signals object) r = behind steps _ lines _ sites _ r _
operation_joined steps lines sites line thread (Awaits object) r = behind steps _ lines _ sites _ r _

-- behind the steps that were taken away
abbrev pub after : List Step → List ℕ → List ℕ → Progress → Progress
after steps lines sites p = record p { told = joined steps lines sites p.told }

abbrev pub mapped : {T U E : Type 0} → (T → U) → Result T E → Result U E
mapped f (Ok t) = Ok (f t)
mapped f (Err e) = Err e

event_after : (steps : List Step) (lines sites : List ℕ) (line : ℕ) (p : Progress) (s : EventLine) (fault : Option TextKind)
    → add_event line (after steps lines sites p) s fault ≡ mapped (after steps lines sites) (add_event line p s fault)
event_after steps lines sites line p s (Some k) = refl
event_after steps lines sites line p s None =
    let told = operation_joined steps lines sites line _ s.operation _ in
    ap (λ (t : Recording). Ok (record p { number = p.number + 1; idle = idle_past p.told.names.threads t.names.threads s p.idle; told = t })) told

parsed_after : (steps : List Step) (lines sites : List ℕ) (line : ℕ) (p : Progress) (r : Result EventLine TextKind)
    → add_parsed line (after steps lines sites p) r ≡ mapped (after steps lines sites) (add_parsed line p r)
parsed_after steps lines sites line p (Err k) = refl
parsed_after steps lines sites line p (Ok s) = event_after steps lines sites line p s (order_fault p.told.names.threads p.idle s)

opened_after : (steps : List Step) (lines sites : List ℕ) (p : Progress) (v : Option Version) → open_with (after steps lines sites p) v ≡ mapped (after steps lines sites) (open_with p v)
opened_after steps lines sites p None = refl
opened_after steps lines sites p (Some v) = refl

closed_after : (steps : List Step) (lines sites : List ℕ) (ended : Bool) (line : ℕ) (p : Progress) (r : Result EventLine TextKind)
    → cond ended (Ok (closed (after steps lines sites p))) (add_parsed line (after steps lines sites p) r) ≡ mapped (after steps lines sites) (cond ended (Ok (closed p)) (add_parsed line p r))
closed_after steps lines sites true line p r = refl
closed_after steps lines sites false line p r = parsed_after steps lines sites line p r

words_after : (steps : List Step) (lines sites : List ℕ) (stage : Stage) (line : ℕ) (p : Progress) (ws : List (List ℕ))
    → read_words stage line (after steps lines sites p) ws ≡ mapped (after steps lines sites) (read_words stage line p ws)
words_after steps lines sites Front line p ws = opened_after steps lines sites p (version_in ws)
words_after steps lines sites (Events v) line p ws = closed_after steps lines sites (is_end v ws) line p (parsed_of v ws)
words_after steps lines sites Ended line p ws = refl

chosen : {T : Type 0} (f : T → T) (b : Bool) (r s : Result T TextKind) (t : T) → s ≡ mapped f r → cond b s (Ok (f t)) ≡ mapped f (cond b r (Ok t))
chosen f true r s t e = e
chosen f false r s t e = refl

content_after : (steps : List Step) (lines sites : List ℕ) (p : Progress) (line : Placed) → read_content (after steps lines sites p) line ≡ mapped (after steps lines sites) (read_content p line)
content_after steps lines sites p line =
    chosen (after steps lines sites) (has_content line) (read_words p.stage line.number p (words line.line.bytes)) (read_words p.stage line.number (after steps lines sites p) (words line.line.bytes)) (skip p)
    (words_after steps lines sites p.stage line.number p (words line.line.bytes))

limited : {T : Type 0} (f : T → T) (a b c : Bool) (r s : Result T TextKind) → s ≡ mapped f r
    → cond a (Err LineTooLong) (cond b (Err TextTooLong) (cond (not c) (Err NotAscii) s)) ≡ mapped f (cond a (Err LineTooLong) (cond b (Err TextTooLong) (cond (not c) (Err NotAscii) r)))
limited f true b c r s e = refl
limited f false true c r s e = refl
limited f false false false r s e = refl
limited f false false true r s e = e

line_after : (limit : ℕ) (steps : List Step) (lines sites : List ℕ) (p : Progress) (line : Placed)
    → read_line limit read_content (after steps lines sites p) line ≡ mapped (after steps lines sites) (read_line limit read_content p line)
line_after limit steps lines sites p line =
    limited (after steps lines sites) (nat_lt 1024 (length line.line.bytes)) (nat_lt limit (line.start + width line.line)) (list_all is_ascii line.line.bytes)
    (read_content p line) (read_content (after steps lines sites p) line) (content_after steps lines sites p line)

goes_after : (limit : ℕ) (steps : List Step) (lines sites : List ℕ) (line : Placed) (left : List Placed) (r : Result Progress TextKind)
    → ((p : Progress) → read_lines limit read_content left (after steps lines sites p) ≡ mapped (after steps lines sites) (read_lines limit read_content left p))
    → go_on line (read_lines limit read_content left) (mapped (after steps lines sites) r) ≡ mapped (after steps lines sites) (go_on line (read_lines limit read_content left) r)
goes_after limit steps lines sites line left (Ok p) more = more p
goes_after limit steps lines sites line left (Err k) more = refl

pub lines_after : (limit : ℕ) (steps : List Step) (lines sites : List ℕ) (left : List Placed) (p : Progress)
    → read_lines limit read_content left (after steps lines sites p) ≡ mapped (after steps lines sites) (read_lines limit read_content left p)
lines_after limit steps lines sites [] p = refl
lines_after limit steps lines sites (line ∷ left) p =
    ap (go_on line (read_lines limit read_content left)) (line_after limit steps lines sites p line)
    ∙ goes_after limit steps lines sites line left (read_line limit read_content p line) (λ q. lines_after limit steps lines sites left q)

finished : (steps : List Step) (lines sites : List ℕ) (stage : Stage) (p : Progress) → finish_as stage (after steps lines sites p) ≡ mapped (joined steps lines sites) (finish_as stage p)
finished steps lines sites Front p = refl
finished steps lines sites (Events v) p = refl
finished steps lines sites Ended p = refl

finish_after : (steps : List Step) (lines sites : List ℕ) (r : Result Progress TextFault) → finish (mapped (after steps lines sites) r) ≡ mapped (joined steps lines sites) (finish r)
finish_after steps lines sites (Ok p) = finished steps lines sites p.stage p
finish_after steps lines sites (Err f) = refl

-- what the whole text comes to, by what the lines that were left came to
whole : (limit : ℕ) (text : List ℕ) (steps : List Step) (lines sites : List ℕ) (left : List Placed) (p : Progress) (r : Result Recording TextFault)
    → read_lines limit read_content (placed text) at_front ≡ read_lines limit read_content left (after steps lines sites p)
    → finish (read_lines limit read_content left p) ≡ r → finish (read_lines limit read_content (placed text) at_front) ≡ mapped (joined steps lines sites) r
whole limit text steps lines sites left p r on e =
    ap finish (on ∙ lines_after limit steps lines sites left p) ∙ finish_after steps lines sites (read_lines limit read_content left p) ∙ ap (mapped (joined steps lines sites)) e

-- what was read of the lines, and what a batch gives of them, without how they end
abbrev HasReadLines : List ℕ → List Step → List ℕ → List ℕ → Reached → Option (List ℕ) → Recording → Type 0
HasReadLines text steps lines sites reader known trace =
    Continues reader.place.limit read_content (Some (placed text)) (lines_left reader.place known) at_front (progress reader (joined steps lines sites trace))

abbrev GivesLines : List ℕ → List Step → List ℕ → List ℕ → Reached → Option (List ℕ) → Recording → Result Batch ReadFault → Type 0
GivesLines text steps lines sites reader known trace (Ok More) = HasReadLines text steps lines sites reader known trace
GivesLines text steps lines sites reader known trace (Ok End) = IsTrace text reader.place.limit (joined steps lines sites trace)
GivesLines text steps lines sites reader known trace (Err (fault.Text f)) = IsFault text reader.place.limit f
GivesLines text steps lines sites reader known trace (Err fault.Memory) = Unit {0}
GivesLines text steps lines sites reader known trace (Err fault.Read) = Unit {0}

left_gives : (text : List ℕ) (steps : List Step) (lines sites : List ℕ) (limit : ℕ) (new : Reached) (left : List Placed) (rest known : Option (List Placed)) (p : Progress) (told : Recording)
    (after_it : Option (List ℕ)) (result : Result Batch ReadFault) → new.place.limit ≡ limit → lines_left new.place after_it ≡ rest
    → read_lines limit read_content (placed text) at_front ≡ read_lines limit read_content left (after steps lines sites p)
    → Batches limit (Some left) rest p (progress new told) result → GivesLines text steps lines sites new after_it told result
left_gives text steps lines sites limit new left None known p told after_it (Ok More) same shown on batch = absurd batch
left_gives text steps lines sites limit new left (Some rest) known p told after_it (Ok More) same shown on batch =
    rw (shown, same) (on ∙ lines_after limit steps lines sites left p ∙ ap (mapped (after steps lines sites)) batch ∙ sym (lines_after limit steps lines sites rest (progress new told)))
left_gives text steps lines sites limit new left rest known p told after_it (Ok End) same shown on batch =
    rw same (trace_is limit text (joined steps lines sites told) (whole limit text steps lines sites left p (Ok told) on (ap finish batch.0 ∙ batch.1)))
left_gives text steps lines sites limit new left rest known p told after_it (Err (fault.Text f)) same shown on batch =
    rw same (fault_is limit text f (whole limit text steps lines sites left p (Err f) on batch))
left_gives text steps lines sites limit new left rest known p told after_it (Err fault.Memory) same shown on batch = tt
left_gives text steps lines sites limit new left rest known p told after_it (Err fault.Read) same shown on batch = tt

-- a batch goes on with the text that was read so far
known_gives : (text : List ℕ) (steps : List Step) (lines sites : List ℕ) (old new : Reached) (left : Option (List Placed)) (before after_it : Option (List ℕ)) (t u : Recording)
    (result : Result Batch ReadFault) → lines_left old.place before ≡ left → new.place.limit ≡ old.place.limit
    → HasReadLines text steps lines sites old before t → Batches old.place.limit left (lines_left new.place after_it) (progress old t) (progress new u) result
    → GivesLines text steps lines sites new after_it u result
known_gives text steps lines sites old new None before after_it t u result shown same read batch = absurd (rw shown at read)
known_gives text steps lines sites old new (Some left) before after_it t u result shown same read batch =
    left_gives text steps lines sites old.place.limit new left (lines_left new.place after_it) None (progress old t) u after_it result same refl (rw shown at read) batch

with_tail : (text : List ℕ) (steps : List Step) (lines sites : List ℕ) (old new : Reached) (left rest : Option (List Placed)) (after_it : Option (List ℕ)) (u : Recording)
    (result : Result Batch ReadFault) → lines_left new.place after_it ≡ rest → KeepsTail (Some (placed text)) left no_tail old.tail → BatchesTail left rest old.tail new.tail result
    → GivesLines text steps lines sites new after_it u result → GivesBatch text steps lines sites new after_it u result
with_tail text steps lines sites old new left rest after_it u (Ok More) shown on tail gives =
    (gives, rw shown (tail_goes_on (Some (placed text)) left rest no_tail old.tail new.tail on tail))
with_tail text steps lines sites old new left rest after_it u (Ok End) shown on tail gives = gives
with_tail text steps lines sites old new left rest after_it u (Err (fault.Text f)) shown on tail gives = gives
with_tail text steps lines sites old new left rest after_it u (Err fault.Memory) shown on tail gives = gives
with_tail text steps lines sites old new left rest after_it u (Err fault.Read) shown on tail gives = gives

pub batch_gives : (text : List ℕ) (steps : List Step) (lines sites : List ℕ) (old new : Reached) (before after_it : Option (List ℕ)) (t u : Recording)
    (result : Result Batch ReadFault) → new.place.limit ≡ old.place.limit → HasRead text steps lines sites old before t
    → Batches old.place.limit (lines_left old.place before) (lines_left new.place after_it) (progress old t) (progress new u) result
    → BatchesTail (lines_left old.place before) (lines_left new.place after_it) old.tail new.tail result
    → GivesBatch text steps lines sites new after_it u result
batch_gives text steps lines sites old new before after_it t u result same read batch tail =
    with_tail text steps lines sites old new (lines_left old.place before) (lines_left new.place after_it) after_it u result refl read.1 tail
    (known_gives text steps lines sites old new (lines_left old.place before) before after_it t u result refl same read.0 batch)

-- a trace whose steps are taken away is seen as it was
same_joined : (steps : List Step) (lines sites : List ℕ) (trace : Recording)
    → joined steps lines sites trace ≡ joined (steps ++ trace.steps) (lines ++ trace.lines) (sites ++ trace.sites) (without_steps trace)
same_joined steps lines sites trace =
    both trace.names _ _ _ _ _ _ (sym (append-nil (steps ++ trace.steps))) (sym (append-nil (lines ++ trace.lines))) (sym (append-nil (sites ++ trace.sites)))

pub forgotten : (text : List ℕ) (steps : List Step) (lines sites : List ℕ) (reader : Reached) (known : Option (List ℕ)) (trace : Recording)
    → HasRead text steps lines sites reader known trace → HasRead text (steps ++ trace.steps) (lines ++ trace.lines) (sites ++ trace.sites) reader known (without_steps trace)
forgotten text steps lines sites reader known trace read =
    let P : Recording → Type 0 = λ r. Continues reader.place.limit read_content (Some (placed text)) (lines_left reader.place known) at_front (progress reader r) in
    (subst P (same_joined steps lines sites trace) read.0, read.1)

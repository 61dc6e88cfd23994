-- What is read of a trace's line agrees with the table of its faults.
use Rattle.std.proofs.Common.{◌≡◌, ℕ, ◌+◌, Bool, true, false, not, ◌||◌, cond, List, [], ◌∷◌, ◌++◌, Option, Some, None, Result, Ok, Err, refl, subst, sym, ap, ◌∙◌}
use Rattle.std.specs.Option.{is_some}
use Rattle.std.specs.Str.{bytes_eq}
use Rattle.er_event.specs.declared.steps.Kind.TheVariants as kind
use Rattle.er_event.specs.declared.steps.Mode.TheVariants as mode
use Rattle.er_lines.specs.declared.faults.TextKind.{TextKind}
use Rattle.er_lines.specs.declared.faults.TextKind.TheVariants.{NoHeader}
use Rattle.er_text.specs.declared.verbs.Version.{Version}
use Rattle.er_text.specs.declared.stages.Stage.{Stage}
use Rattle.er_text.specs.declared.stages.Stage.TheVariants.{Front, Events, Ended}
use Rattle.er_lines.specs.Lines.{Placed, has_content, word_at, words}
use Rattle.er_lines.specs.FirstFault.{first_kind}
use Rattle.er_text.specs.Events.{EventLine, Operation, Acquires, Releases, Accesses, Reuses, IgnoresOn, IgnoresOff, Shows, Levels, Starts, Joins, Signals, Awaits}
use Rattle.er_text.specs.Trace.{IsOperation, Says, has_acted, version_in, is_end, event_kinds, order_kinds, Known, nothing_known, word_kinds, content_kinds, opened_by, known_by, known_past}
use Rattle.er_text.specs.Inner.Parsing.{parsed_of}
use Rattle.er_text.specs.Inner.Idle.{has_run, operation_fault, order_fault}
use Rattle.er_text.specs.Inner.Traces.{Progress, at_front, skip, past_event, add_event, add_parsed, open_with, closed, read_words, read_content}
use Rattle.er_lines.proofs.SpelledLemmas.{AreWhole}
use Rattle.er_lines.proofs.SaidLemmas.{fault_of}
use Rattle.er_text.proofs.FaultTables.{event_faults}
use Rattle.er_text.proofs.ParsingLaws.{parsed_says}
use Rattle.er_text.proofs.EventWords.{event_words}
use Rattle.er_text.proofs.IdleLemmas.{runs_past}
use Rattle.er_lines.proofs.ReadingLaws.{whole_words, Agrees}

-- what was read so far is at the stage that is known, and the threads that have run are those that act
pub record Stands (p : Progress) (known : Known) : Type 0 where
  pub stage : p.stage ≡ known.stage
  pub acted : (name : List ℕ) → has_run p.told.names.threads p.idle name ≡ has_acted known.actors name

pub front_stands : Stands at_front nothing_known
front_stands = record { stage = refl; acted = λ name. refl }

-- the faults of a start or a join by the lines before it
order_found : (actors threads : List (List ℕ)) (idle : List Bool) (v : Version) (ws : List (List ℕ)) (t : List ℕ) (d : Operation)
    → ((name : List ℕ) → has_run threads idle name ≡ has_acted actors name) → IsOperation v ws t d → first_kind (order_kinds actors ws) ≡ operation_fault threads idle t d
order_found actors threads idle v ws t (Acquires lock mode.Write) acted is = rw is.0 refl
order_found actors threads idle v ws t (Acquires lock mode.Read) acted is = rw is.0 refl
order_found actors threads idle v ws t (Releases lock mode.Write) acted is = rw is.0 refl
order_found actors threads idle v ws t (Releases lock mode.Read) acted is = rw is.0 refl
order_found actors threads idle v ws t (Accesses kind.Read w site) acted is = rw is.3 refl
order_found actors threads idle v ws t (Accesses kind.Write w site) acted is = rw is.3 refl
order_found actors threads idle v ws t (Reuses run site) acted is = rw is.5 refl
order_found actors threads idle v ws t IgnoresOn acted is = rw is refl
order_found actors threads idle v ws t IgnoresOff acted is = rw is refl
order_found actors threads idle v ws t (Shows w) acted is = rw is.2 refl
order_found actors threads idle v ws t (Levels n) acted is = rw is.1 refl
order_found actors threads idle v ws t (Starts other) acted is = let has = acted other in rw (is.0, has) refl
order_found actors threads idle v ws t (Joins other) acted is = rw is.0 refl
order_found actors threads idle v ws t (Signals object) acted is = rw is.0 refl
order_found actors threads idle v ws t (Awaits object) acted is = rw is.0 refl

abbrev or_else : Option TextKind → Option TextKind → Option TextKind
or_else (Some k) other = Some k
or_else None other = other

more_row : (b : Bool) (k : TextKind) (front back : Option TextKind) (whole : Option TextKind) → whole ≡ or_else front back
    → cond b (Some k) whole ≡ or_else (cond b (Some k) front) back
more_row true k front back whole e = refl
more_row false k front back whole e = e

more_rows : (rows more : List (Bool × TextKind)) → first_kind (rows ++ more) ≡ or_else (first_kind rows) (first_kind more)
more_rows [] more = refl
more_rows (row ∷ rows) more = more_row row.0 row.1 (first_kind rows) (first_kind more) (first_kind (rows ++ more)) (more_rows rows more)

event_fault : (line : ℕ) (p : Progress) (s : EventLine) (fault : Option TextKind) → fault ≡ fault_of (add_event line p s fault)
event_fault line p s None = refl
event_fault line p s (Some k) = refl

told_faults : (line : ℕ) (p : Progress) (known : Known) (v : Version) (ws : List (List ℕ)) (r : Result EventLine TextKind) → parsed_of v ws ≡ r → AreWhole ws → Stands p known
    → first_kind (event_kinds v ws ++ order_kinds known.actors ws) ≡ fault_of (add_parsed line p r)
told_faults line p known v ws (Err k) is whole stands =
    more_rows (event_kinds v ws) (order_kinds known.actors ws)
    ∙ ap (λ (x : Option TextKind). or_else x (first_kind (order_kinds known.actors ws))) (event_faults v ws whole ∙ ap fault_of is)
told_faults line p known v ws (Ok s) is whole stands =
    let says = parsed_says v ws s whole is in
    more_rows (event_kinds v ws) (order_kinds known.actors ws)
    ∙ ap (λ (x : Option TextKind). or_else x (first_kind (order_kinds known.actors ws))) (event_faults v ws whole ∙ ap fault_of is)
    ∙ order_found known.actors p.told.names.threads p.idle v ws s.thread s.operation stands.acted says.1
    ∙ event_fault line p s (order_fault p.told.names.threads p.idle s)

header_faults : (p : Progress) (v : Option Version) → first_kind ((not (is_some v), NoHeader) ∷ []) ≡ fault_of (open_with p v)
header_faults p None = refl
header_faults p (Some v) = refl

ended_faults : (ended : Bool) (p : Progress) (rows : List (Bool × TextKind)) (r : Result Progress TextKind) → first_kind rows ≡ fault_of r
    → first_kind (cond ended [] rows) ≡ fault_of (cond ended (Ok (closed p)) r)
ended_faults true p rows r e = refl
ended_faults false p rows r e = e

word_faults : (stage : Stage) (line : ℕ) (p : Progress) (known : Known) (ws : List (List ℕ)) → AreWhole ws → Stands p known
    → first_kind (word_kinds stage known.actors ws) ≡ fault_of (read_words stage line p ws)
word_faults Front line p known ws whole stands = header_faults p (version_in ws)
word_faults (Events v) line p known ws whole stands =
    ended_faults (is_end v ws) p (event_kinds v ws ++ order_kinds known.actors ws) (add_parsed line p (parsed_of v ws))
    (told_faults line p known v ws (parsed_of v ws) refl whole stands)
word_faults Ended line p known ws whole stands = refl

content_faults : (some : Bool) (kinds : List (Bool × TextKind)) (p : Progress) (r : Result Progress TextKind) → first_kind kinds ≡ fault_of r
    → first_kind (cond some kinds []) ≡ fault_of {X = Progress} (cond some r (Ok p))
content_faults true kinds p r e = e
content_faults false kinds p r e = refl

-- a line was read: what was read stands for what is known, and the next line has the next number
pub record Moves (p q : Progress) (known : Known) : Type 0 where
  pub stands : Stands q known
  pub number : q.number ≡ p.number + 1

event_moves : (line : ℕ) (p q : Progress) (known : Known) (v : Version) (ws : List (List ℕ)) (s : EventLine) (fault : Option TextKind) → p.stage ≡ Events v → Stands p known
    → Says v ws s → order_fault p.told.names.threads p.idle s ≡ fault → add_event line p s fault ≡ Ok q
    → Moves p q (record { stage = Events v; actors = word_at 0 ws ∷ known.actors })
event_moves line p q known v ws s (Some k) at stands says is e = absurd (cc)
event_moves line p q known v ws s None at stands says is e =
    let same : past_event line p s ≡ q = cc in
    let first = (event_words v ws s.thread s.operation says.1).0 in
    let next : Known = record { stage = Events v; actors = word_at 0 ws ∷ known.actors } in
    let acted : (name : List ℕ) → has_run (past_event line p s).told.names.threads (past_event line p s).idle name ≡ has_acted next.actors name = λ name.
    runs_past line p.told p.idle s.thread s.operation name is
    ∙ ap (λ (x : Bool). bytes_eq name s.thread || x) (stands.acted name)
    ∙ ap (λ (t : List ℕ). bytes_eq name t || has_acted known.actors name) (sym first) in
    subst (λ (x : Progress). Moves p x next) same (record { stands = record { stage = at; acted = acted }; number = refl })

told_moves : (line : ℕ) (p q : Progress) (known : Known) (v : Version) (ws : List (List ℕ)) (r : Result EventLine TextKind) → p.stage ≡ Events v → Stands p known → AreWhole ws
    → parsed_of v ws ≡ r → add_parsed line p r ≡ Ok q → Moves p q (record { stage = Events v; actors = word_at 0 ws ∷ known.actors })
told_moves line p q known v ws (Err k) at stands whole is e = absurd (cc)
told_moves line p q known v ws (Ok s) at stands whole is e =
    event_moves line p q known v ws s (order_fault p.told.names.threads p.idle s) at stands (parsed_says v ws s whole is) refl e

header_moves : (p q : Progress) (known : Known) (v : Option Version) → Stands p known → open_with p v ≡ Ok q → Moves p q (record { stage = opened_by v; actors = known.actors })
header_moves p q known None stands e = absurd (cc)
header_moves p q known (Some v) stands e =
    let same : record p { number = p.number + 1; stage = Events v } ≡ q = cc in
    subst (λ (x : Progress). Moves p x (record { stage = Events v; actors = known.actors })) same (record { stands = record { stage = refl; acted = stands.acted }; number = refl })

ended_moves : (ended : Bool) (line : ℕ) (p q : Progress) (known : Known) (v : Version) (ws : List (List ℕ)) → p.stage ≡ Events v → Stands p known → AreWhole ws
    → cond ended (Ok (closed p)) (add_parsed line p (parsed_of v ws)) ≡ Ok q
    → Moves p q (cond ended (record { stage = Ended; actors = known.actors }) (record { stage = Events v; actors = word_at 0 ws ∷ known.actors }))
ended_moves true line p q known v ws at stands whole e =
    let same : closed p ≡ q = cc in
    subst (λ (x : Progress). Moves p x (record { stage = Ended; actors = known.actors })) same (record { stands = record { stage = refl; acted = stands.acted }; number = refl })
ended_moves false line p q known v ws at stands whole e = told_moves line p q known v ws (parsed_of v ws) at stands whole refl e

words_move : (stage : Stage) (line : ℕ) (p q : Progress) (known : Known) (ws : List (List ℕ)) → p.stage ≡ stage → Stands p known → AreWhole ws
    → read_words stage line p ws ≡ Ok q → Moves p q (known_by stage known.actors ws)
words_move Front line p q known ws at stands whole e = header_moves p q known (version_in ws) stands e
words_move (Events v) line p q known ws at stands whole e = ended_moves (is_end v ws) line p q known v ws at stands whole e
words_move Ended line p q known ws at stands whole e = absurd (cc)

content_moves : (some : Bool) (p q : Progress) (known : Known) (line : Placed) → Stands p known
    → cond some (read_words known.stage line.number p (words line.line.bytes)) (Ok (skip p)) ≡ Ok q
    → Moves p q (cond some (known_by known.stage known.actors (words line.line.bytes)) known)
content_moves true p q known line stands e = words_move known.stage line.number p q known (words line.line.bytes) stands.stage stands (whole_words line.line.bytes) e
content_moves false p q known line stands e =
    let same : skip p ≡ q = cc in
    subst (λ (x : Progress). Moves p x known) same (record { stands = record { stage = stands.stage; acted = stands.acted }; number = refl })

-- a line's reading, at the stage that is known
pub read_known : (p : Progress) (known : Known) (line : Placed) → Stands p known
    → read_content p line ≡ cond (has_content line) (read_words known.stage line.number p (words line.line.bytes)) (Ok (skip p))
read_known p known line stands = ap (λ (x : Stage). cond (has_content line) (read_words x line.number p (words line.line.bytes)) (Ok (skip p))) stands.stage

pub line_moves : (p q : Progress) (known : Known) (line : Placed) → Stands p known → read_content p line ≡ Ok q → Moves p q (known_past known line)
line_moves p q known line stands e = content_moves (has_content line) p q known line stands (sym (read_known p known line stands) ∙ e)

pub trace_agrees : Agrees read_content content_kinds known_past Stands
trace_agrees = record {
  faults = λ p known line stands.
      content_faults (has_content line) (word_kinds known.stage known.actors (words line.line.bytes)) (skip p) (read_words known.stage line.number p (words line.line.bytes))
      (word_faults known.stage line.number p known (words line.line.bytes) (whole_words line.line.bytes) stands)
      ∙ ap fault_of (sym (read_known p known line stands));
  moves = λ p q known line stands e. (line_moves p q known line stands e).stands;
}

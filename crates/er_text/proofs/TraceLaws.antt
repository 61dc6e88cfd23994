-- A reading that comes to its end has told a trace, and a trace by the grammar is read as it is.
use Rattle.std.proofs.Common.{◌≡◌, ℕ, suc, ◌+◌, inl, inr, Bool, true, false, not, ◌&&◌, cond, List, [], ◌∷◌, ◌++◌, Option, Some, None, IfSome, Result, Ok, Err, length, filter, codes, refl, subst, sym, ap, ◌∙◌, arith}
use Rattle.std.specs.List.{list_all}
use Rattle.std.specs.Str.{bytes_eq}
use Rattle.std.proofs.lemmas.Bool.{and_parts}
use Rattle.er_trace.specs.Trace.{Recording, no_steps}
use Rattle.er_lines.specs.declared.faults.TextKind.{TextKind}
use Rattle.er_lines.specs.declared.faults.TextKind.TheVariants.{NoHeader, OwnThread, AlreadyRunning}
use Rattle.er_lines.specs.declared.faults.TextFault.{TextFault}
use Rattle.er_lines.specs.declared.faults.ReadFault.{ReadFault}
use Rattle.er_lines.specs.declared.faults.ReadFault.TheVariants as fault
use Rattle.er_text.specs.declared.verbs.Version.{Version}
use Rattle.er_text.specs.declared.stages.Stage.{Stage}
use Rattle.er_text.specs.declared.stages.Stage.TheVariants.{Front, Events, Ended}
use Rattle.er_lines.specs.Lines.{Placed, placed, has_bytes, has_content, words, word_at, lines_of}
use Rattle.er_text.specs.Verbs.{is_third}
use Rattle.er_text.specs.Events.{EventLine, Operation, Acquires, Releases, Accesses, Reuses, IgnoresOn, IgnoresOff, Shows, Levels, Starts, Joins, Signals, Awaits, with_line}
use Rattle.er_text.specs.Trace.{header_words, version_in, is_end, content_kinds, Known, nothing_known, opened_by, known_by, known_past, has_acted, MayDo, AreInOrder, IsClosing, Says, AllSay, with_lines, IsTrace, IsFault, Tells}
use Rattle.er_lines.specs.Words.{and_then}
use Rattle.er_text.specs.Inner.Parsing.{parsed_of}
use Rattle.er_text.specs.Inner.Idle.{has_run, operation_fault, order_fault}
use Rattle.er_lines.specs.Reading.{read_lines, read_contents}
use Rattle.er_text.specs.Inner.Traces.{Progress, at_front, skip, past_event, add_event, add_parsed, open_with, closed, read_words, read_content, finish_as, finish, read_text, IsOutcome}
use Rattle.er_lines.proofs.SpelledLemmas.{AreWhole, equal}
use Rattle.er_text.proofs.SpellingLaws.{header_is, header_again}
use Rattle.er_text.proofs.ParsingLaws.{parsed_says}
use Rattle.er_text.proofs.ParsingAgain.{says_parsed}
use Rattle.er_text.proofs.EventWords.{event_words, not_end}
use Rattle.er_lines.proofs.ReadingLaws.{whole_words, size_of, all_passed, all_again, none_met, free_read, first_found, first_stops}
use Rattle.er_text.proofs.TraceFaults.{Stands, front_stands, read_known, line_moves, trace_agrees}

one_word : (ws : List (List ℕ)) (w : List ℕ) → AreWhole ws → word_at 0 ws ≡ w → has_bytes w ≡ true → not (has_bytes (word_at 1 ws)) ≡ true → ws ≡ w ∷ []
one_word [] w whole first some none = let h = ap has_bytes first in absurd (cc)
one_word (x ∷ []) w whole first some none = ap (λ (y : List ℕ). y ∷ []) first
one_word (x ∷ (y ∷ ys) ∷ ws) w whole first some none = absurd (cc)
one_word (x ∷ [] ∷ ws) w whole first some none =
    let p = and_parts (has_bytes x) (has_bytes [] && list_all has_bytes ws) whole in
    absurd (let q = p.1 in cc)

one_test : (own : Bool) → cond own (Some OwnThread) None ≡ None → own ≡ false
one_test true e = absurd (cc)
one_test false e = refl

two_tests : (own run : Bool) → cond own (Some OwnThread) (cond run (Some AlreadyRunning) None) ≡ None → (own ≡ false) × (run ≡ false)
two_tests true run e = absurd (cc)
two_tests false true e = absurd (cc)
two_tests false false e = (refl, refl)

-- no line tells no step
no_events : (v : Version) (t end : Recording) (events closing : List Placed) (event_lines : List EventLine) → [] ≡ events ++ closing → AllSay v events event_lines
    → end ≡ with_lines events event_lines t → t ≡ end
no_events v t end [] closing [] parts says told = sym told
no_events v t end [] closing (s ∷ ss) parts says told = absurd says
no_events v t end (event ∷ events) closing ss parts says told = absurd (cc)

-- event lines and what may come behind them, whose threads come behind those that act before
pub record TellsEvents (v : Version) (actors : List (List ℕ)) (content : List Placed) (t end : Recording) : Type 0 where
  pub events : List Placed
  pub closing : List Placed
  pub event_lines : List EventLine
  pub parts : content ≡ events ++ closing
  pub closes : IsClosing v closing
  pub says : AllSay v events event_lines
  pub in_order : AreInOrder actors event_lines
  pub told : end ≡ with_lines events event_lines t

-- a header and then event lines
pub record TellsText (actors : List (List ℕ)) (content : List Placed) (t end : Recording) : Type 0 where
  pub header : Placed
  pub rest : List Placed
  pub version : Version
  pub whole : content ≡ header ∷ rest
  pub opens : words header.line.bytes ≡ header_words version
  pub events : TellsEvents version actors rest t end

-- what lines with content tell, by the stage of the text before them
abbrev pub TellsRest : Stage → List (List ℕ) → List Placed → Recording → Recording → Type 0
TellsRest Front actors content t end = TellsText actors content t end
TellsRest (Events v) actors content t end = TellsEvents v actors content t end
TellsRest Ended actors content t end = (content ≡ []) × (end ≡ t)

abbrev Goes : List Placed → Recording → Progress → Known → Type 0
Goes lines end p known = TellsRest known.stage known.actors (filter has_content lines) p.told end

-- one event line more in front
more_events : (v : Version) (actors : List (List ℕ)) (line : Placed) (content : List Placed) (s : EventLine) (t end : Recording) → Says v (words line.line.bytes) s
    → MayDo actors s.thread s.operation → TellsEvents v (s.thread ∷ actors) content (with_line line.number s t) end → TellsEvents v actors (line ∷ content) t end
more_events v actors line content s t end says may rest = record {
  events = line ∷ rest.events;
  closing = rest.closing;
  event_lines = s ∷ rest.event_lines;
  parts = ap (λ (ls : List Placed). line ∷ ls) rest.parts;
  closes = rest.closes;
  says = (says, rest.says);
  in_order = (may, rest.in_order);
  told = rest.told;
}

-- what a thread may do has no fault, and the other way round
may_do : (actors threads : List (List ℕ)) (idle : List Bool) (t : List ℕ) (d : Operation) → ((name : List ℕ) → has_run threads idle name ≡ has_acted actors name)
    → operation_fault threads idle t d ≡ None → MayDo actors t d
may_do actors threads idle t (Starts other) acted e =
    let h = two_tests (bytes_eq other t) (has_run threads idle other) e in
    (h.0, sym (acted other) ∙ h.1)
may_do actors threads idle t (Joins other) acted e = one_test (bytes_eq other t) e
may_do actors threads idle t (Acquires lock m) acted e = tt
may_do actors threads idle t (Releases lock m) acted e = tt
may_do actors threads idle t (Accesses k w site) acted e = tt
may_do actors threads idle t (Reuses run site) acted e = tt
may_do actors threads idle t IgnoresOn acted e = tt
may_do actors threads idle t IgnoresOff acted e = tt
may_do actors threads idle t (Shows w) acted e = tt
may_do actors threads idle t (Levels n) acted e = tt
may_do actors threads idle t (Signals object) acted e = tt
may_do actors threads idle t (Awaits object) acted e = tt

does_well : (actors threads : List (List ℕ)) (idle : List Bool) (t : List ℕ) (d : Operation) → ((name : List ℕ) → has_run threads idle name ≡ has_acted actors name)
    → MayDo actors t d → operation_fault threads idle t d ≡ None
does_well actors threads idle t (Starts other) acted may = let has = acted other ∙ may.1 in rw (may.0, has) refl
does_well actors threads idle t (Joins other) acted may = rw may refl
does_well actors threads idle t (Acquires lock m) acted may = refl
does_well actors threads idle t (Releases lock m) acted may = refl
does_well actors threads idle t (Accesses k w site) acted may = refl
does_well actors threads idle t (Reuses run site) acted may = refl
does_well actors threads idle t IgnoresOn acted may = refl
does_well actors threads idle t IgnoresOff acted may = refl
does_well actors threads idle t (Shows w) acted may = refl
does_well actors threads idle t (Levels n) acted may = refl
does_well actors threads idle t (Signals object) acted may = refl
does_well actors threads idle t (Awaits object) acted may = refl

-- the words of the line `end`
end_is : (v : Version) (ws : List (List ℕ)) → AreWhole ws → is_end v ws ≡ true → (is_third v ≡ true) × (ws ≡ codes "end" ∷ [])
end_is v ws whole e =
    let p = and_parts (is_third v && bytes_eq (word_at 0 ws) (codes "end")) (not (has_bytes (word_at 1 ws))) e in
    let q = and_parts (is_third v) (bytes_eq (word_at 0 ws) (codes "end")) p.0 in
    (q.0, one_word ws (codes "end") whole (equal (word_at 0 ws) (codes "end") q.1) refl p.1)

end_again : (v : Version) (ws : List (List ℕ)) → is_third v ≡ true → ws ≡ codes "end" ∷ [] → is_end v ws ≡ true
end_again v ws third is = rw (is, third) refl

-- an event line tells what it says
event_step : (v : Version) (line : Placed) (content : List Placed) (p q : Progress) (known : Known) (s : EventLine) (fault : Option TextKind) (end : Recording) → Stands p known
    → Says v (words line.line.bytes) s → order_fault p.told.names.threads p.idle s ≡ fault → add_event line.number p s fault ≡ Ok q
    → TellsEvents v (word_at 0 (words line.line.bytes) ∷ known.actors) content q.told end → TellsEvents v known.actors (line ∷ content) p.told end
event_step v line content p q known s (Some k) end stands says is e rest = absurd (cc)
event_step v line content p q known s None end stands says is e rest =
    let same : past_event line.number p s ≡ q = cc in
    let first = (event_words v (words line.line.bytes) s.thread s.operation says.1).0 in
    let told : TellsEvents v (word_at 0 (words line.line.bytes) ∷ known.actors) content (with_line line.number s p.told) end =
    subst (λ (x : Progress). TellsEvents v (word_at 0 (words line.line.bytes) ∷ known.actors) content x.told end) (sym same) rest in
    let next : TellsEvents v (s.thread ∷ known.actors) content (with_line line.number s p.told) end =
    subst (λ (t : List ℕ). TellsEvents v (t ∷ known.actors) content (with_line line.number s p.told) end) first told in
    more_events v known.actors line content s p.told end says (may_do known.actors p.told.names.threads p.idle s.thread s.operation stands.acted is) next

parsed_step : (v : Version) (line : Placed) (content : List Placed) (p q : Progress) (known : Known) (r : Result EventLine TextKind) (end : Recording) → Stands p known
    → parsed_of v (words line.line.bytes) ≡ r → add_parsed line.number p r ≡ Ok q
    → TellsEvents v (word_at 0 (words line.line.bytes) ∷ known.actors) content q.told end → TellsEvents v known.actors (line ∷ content) p.told end
parsed_step v line content p q known (Err k) end stands is e rest = absurd (cc)
parsed_step v line content p q known (Ok s) end stands is e rest =
    event_step v line content p q known s (order_fault p.told.names.threads p.idle s) end stands
    (parsed_says v (words line.line.bytes) s (whole_words line.line.bytes) is) refl e rest

-- the line `end` tells nothing
closing_step : (v : Version) (line : Placed) (content : List Placed) (p q : Progress) (actors : List (List ℕ)) (end : Recording) → is_end v (words line.line.bytes) ≡ true
    → closed p ≡ q → (content ≡ []) × (end ≡ q.told) → TellsEvents v actors (line ∷ content) p.told end
closing_step v line content p q actors end is same rest = record {
  events = [];
  closing = line ∷ [];
  event_lines = [];
  parts = ap (λ (ls : List Placed). line ∷ ls) rest.0;
  closes = end_is v (words line.line.bytes) (whole_words line.line.bytes) is;
  says = tt;
  in_order = tt;
  told = rest.1 ∙ sym (ap (λ (x : Progress). x.told) same);
}

event_or_end : (v : Version) (ended : Bool) (line : Placed) (content : List Placed) (p q : Progress) (known : Known) (end : Recording) → Stands p known
    → is_end v (words line.line.bytes) ≡ ended → cond ended (Ok (closed p)) (add_parsed line.number p (parsed_of v (words line.line.bytes))) ≡ Ok q
    → let next : Known = cond ended (record { stage = Ended; actors = known.actors }) (record { stage = Events v; actors = word_at 0 (words line.line.bytes) ∷ known.actors }) in
    TellsRest next.stage next.actors content q.told end → TellsEvents v known.actors (line ∷ content) p.told end
event_or_end v true line content p q known end stands is e rest = let same : closed p ≡ q = cc in closing_step v line content p q known.actors end is same rest
event_or_end v false line content p q known end stands is e rest = parsed_step v line content p q known (parsed_of v (words line.line.bytes)) end stands refl e rest

-- a header tells its version
header_step : (line : Placed) (content : List Placed) (p q : Progress) (actors : List (List ℕ)) (end : Recording) (r : Option Version) → version_in (words line.line.bytes) ≡ r
    → open_with p r ≡ Ok q → TellsRest (opened_by r) actors content q.told end → TellsText actors (line ∷ content) p.told end
header_step line content p q actors end None is e rest = absurd (cc)
header_step line content p q actors end (Some v) is e rest =
    let same : record p { number = p.number + 1; stage = Events v } ≡ q = cc in
    record {
      header = line;
      rest = content;
      version = v;
      whole = refl;
      opens = header_is (words line.line.bytes) v (whole_words line.line.bytes) is;
      events = subst (λ (x : Progress). TellsEvents v actors content x.told end) (sym same) rest;
    }

words_step : (stage : Stage) (line : Placed) (content : List Placed) (p q : Progress) (known : Known) (end : Recording) → Stands p known
    → read_words stage line.number p (words line.line.bytes) ≡ Ok q
    → let next = known_by stage known.actors (words line.line.bytes) in
    TellsRest next.stage next.actors content q.told end → TellsRest stage known.actors (line ∷ content) p.told end
words_step Front line content p q known end stands e rest = header_step line content p q known.actors end (version_in (words line.line.bytes)) refl e rest
words_step (Events v) line content p q known end stands e rest = event_or_end v (is_end v (words line.line.bytes)) line content p q known end stands refl e rest
words_step Ended line content p q known end stands e rest = absurd (cc)

content_step : (some : Bool) (line : Placed) (lines : List Placed) (p q : Progress) (known : Known) (end : Recording) → has_content line ≡ some → Stands p known
    → cond some (read_words known.stage line.number p (words line.line.bytes)) (Ok (skip p)) ≡ Ok q
    → Goes lines end q (cond some (known_by known.stage known.actors (words line.line.bytes)) known) → Goes (line ∷ lines) end p known
content_step true line lines p q known end is stands e rest = rw is (words_step known.stage line (filter has_content lines) p q known end stands e rest)
content_step false line lines p q known end is stands e rest =
    let same : skip p ≡ q = cc in
    rw is (subst (λ (x : Progress). Goes lines end x known) (sym same) rest)

told_none : (stage : Stage) (actors : List (List ℕ)) (p : Progress) (t : Recording) → finish_as stage p ≡ Ok t → TellsRest stage actors [] p.told t
told_none (Events v) actors p t e =
    record { events = []; closing = []; event_lines = []; parts = refl; closes = tt; says = tt; in_order = tt; told = cc }
told_none Ended actors p t e = (refl, cc)
told_none Front actors p t e = absurd (cc)

tells_step : (line : Placed) (lines : List Placed) (p q : Progress) (known : Known) (end : Recording) (r : Result Progress TextKind) → Stands p known
    → ((x : Progress) (k : Known) → Stands x k → read_contents read_content lines x ≡ Ok q → Goes lines end x k)
    → read_content p line ≡ r → and_then r (read_contents read_content lines) ≡ Ok q → Goes (line ∷ lines) end p known
tells_step line lines p q known end (Err k) stands more is e = absurd (cc)
tells_step line lines p q known end (Ok x) stands more is e =
    let moved = line_moves p x known line stands is in
    content_step (has_content line) line lines p x known end refl stands (sym (read_known p known line stands) ∙ is) (more x (known_past known line) moved.stands e)

-- lines that are read to their end tell what was read
tells_rest : (lines : List Placed) (p q : Progress) (known : Known) (end : Recording) → Stands p known → finish_as q.stage q ≡ Ok end
    → read_contents read_content lines p ≡ Ok q → Goes lines end p known
tells_rest [] p q known end stands last e =
    let same : p ≡ q = cc in
    told_none known.stage known.actors p end (ap (λ (x : Stage). finish_as x p) (sym stands.stage) ∙ ap (λ (x : Progress). finish_as x.stage x) same ∙ last)
tells_rest (line ∷ lines) p q known end stands last e =
    tells_step line lines p q known end (read_content p line) stands (λ x k is h. tells_rest lines x q k end is last h) refl e

-- a line is read as it tells, and what is left then is told
record ReadsLine (line : Placed) (lines : List Placed) (p : Progress) (known : Known) (end : Recording) : Type 0 where
  next : Progress
  read : cond (has_content line) (read_words known.stage line.number p (words line.line.bytes)) (Ok (skip p)) ≡ Ok next
  rest : Goes lines end next (known_past known line)

reads_header : (line : Placed) (content : List Placed) (p : Progress) (actors : List (List ℕ)) (end : Recording) → TellsText actors (line ∷ content) p.told end
    → (q : Progress) × (open_with p (version_in (words line.line.bytes)) ≡ Ok q) × TellsRest (opened_by (version_in (words line.line.bytes))) actors content q.told end
reads_header line content p actors end rest =
    let header : line ≡ rest.header = let e = rest.whole in cc in
    let others : content ≡ rest.rest = let e = rest.whole in cc in
    let version : version_in (words line.line.bytes) ≡ Some rest.version =
    ap version_in (ap (λ (x : Placed). words x.line.bytes) header ∙ rest.opens) ∙ header_again rest.version in
    let events : TellsEvents rest.version actors content p.told end = subst (λ (x : List Placed). TellsEvents rest.version actors x p.told end) (sym others) rest.events in
    (record p { number = p.number + 1; stage = Events rest.version }, ap (open_with p) version, rw version events)

-- an event line, or the line `end`
record ReadsEvent (v : Version) (line : Placed) (content : List Placed) (p : Progress) (known : Known) (end : Recording) : Type 0 where
  next : Progress
  read : cond (is_end v (words line.line.bytes)) (Ok (closed p)) (add_parsed line.number p (parsed_of v (words line.line.bytes))) ≡ Ok next
  rest : let after = known_by (Events v) known.actors (words line.line.bytes) in TellsRest after.stage after.actors content next.told end

reads_event : (v : Version) (line : Placed) (content : List Placed) (p : Progress) (known : Known) (end : Recording) (events closing : List Placed) (event_lines : List EventLine) → Stands p known
    → line ∷ content ≡ events ++ closing → IsClosing v closing → AllSay v events event_lines → AreInOrder known.actors event_lines → end ≡ with_lines events event_lines p.told
    → ReadsEvent v line content p known end
reads_event v line content p known end [] [] ss stands parts closes says in_order told = absurd (cc)
reads_event v line content p known end [] (c ∷ d ∷ closing) ss stands parts closes says in_order told = absurd closes
reads_event v line content p known end [] (c ∷ []) (s ∷ ss) stands parts closes says in_order told = absurd says
reads_event v line content p known end [] (c ∷ []) [] stands parts closes says in_order told =
    let same : line ≡ c = cc in
    let none : content ≡ [] = cc in
    let ended : is_end v (words line.line.bytes) ≡ true = end_again v (words line.line.bytes) closes.0 (ap (λ (x : Placed). words x.line.bytes) same ∙ closes.1) in
    record { next = closed p; read = rw ended refl; rest = rw ended (none, told) }
reads_event v line content p known end (event ∷ events) closing [] stands parts closes says in_order told = absurd says
reads_event v line content p known end (event ∷ events) closing (s ∷ ss) stands parts closes says in_order told =
    let same : event ≡ line = cc in
    let others : content ≡ events ++ closing = cc in
    let say : Says v (words line.line.bytes) s = subst (λ (x : Placed). Says v (words x.line.bytes) s) same says.0 in
    let first = (event_words v (words line.line.bytes) s.thread s.operation say.1).0 in
    let no = not_end v (words line.line.bytes) s.thread s.operation say.1 in
    let well : order_fault p.told.names.threads p.idle s ≡ None = does_well known.actors p.told.names.threads p.idle s.thread s.operation stands.acted in_order.0 in
    let read : add_parsed line.number p (parsed_of v (words line.line.bytes)) ≡ Ok (past_event line.number p s) =
    ap (add_parsed line.number p) (says_parsed v (words line.line.bytes) s say) ∙ ap (add_event line.number p s) well in
    let whole : end ≡ with_lines events ss (with_line line.number s p.told) = told ∙ ap (λ (x : Placed). with_lines events ss (with_line x.number s p.told)) same in
    let rest : TellsEvents v (s.thread ∷ known.actors) content (with_line line.number s p.told) end =
    record { events = events; closing = closing; event_lines = ss; parts = others; closes = closes; says = says.1; in_order = in_order.1; told = whole } in
    record {
      next = past_event line.number p s;
      read = rw no read;
      rest = rw no (subst (λ (t : List ℕ). TellsEvents v (t ∷ known.actors) content (with_line line.number s p.told) end) (sym first) rest);
    }

reads_words : (stage : Stage) (line : Placed) (content : List Placed) (p : Progress) (known : Known) (end : Recording) → Stands p known → TellsRest stage known.actors (line ∷ content) p.told end
    → (q : Progress) × (read_words stage line.number p (words line.line.bytes) ≡ Ok q)
    × (let next = known_by stage known.actors (words line.line.bytes) in TellsRest next.stage next.actors content q.told end)
reads_words Front line content p known end stands rest = reads_header line content p known.actors end rest
reads_words (Events v) line content p known end stands rest =
    let h = reads_event v line content p known end rest.events rest.closing rest.event_lines stands rest.parts rest.closes rest.says rest.in_order rest.told in
    (h.next, h.read, h.rest)
reads_words Ended line content p known end stands rest = absurd (let e = rest.0 in cc)

reads_line : (some : Bool) (line : Placed) (lines : List Placed) (p : Progress) (known : Known) (end : Recording) → has_content line ≡ some → Stands p known
    → Goes (line ∷ lines) end p known → ReadsLine line lines p known end
reads_line true line lines p known end is stands rest =
    let h = reads_words known.stage line (filter has_content lines) p known end stands (rw is at rest) in
    record { next = h.0; read = rw is h.1; rest = rw is h.2 }
reads_line false line lines p known end is stands rest =
    let left : Goes lines end p known = rw is at rest in
    record { next = skip p; read = rw is refl; rest = rw is left }

none_again : (stage : Stage) (actors : List (List ℕ)) (p : Progress) (t : Recording) → TellsRest stage actors [] p.told t → finish_as stage p ≡ Ok t
none_again (Events v) actors p t rest = ap Ok (no_events v p.told t rest.events rest.closing rest.event_lines rest.parts rest.says rest.told)
none_again Ended actors p t rest = ap Ok (sym rest.1)
none_again Front actors p t rest = absurd (let e = rest.whole in cc)

-- lines are read as what they tell
reads_rest : (lines : List Placed) (p : Progress) (known : Known) (end : Recording) → Stands p known → Goes lines end p known
    → (q : Progress) × (read_contents read_content lines p ≡ Ok q) × (finish_as q.stage q ≡ Ok end)
reads_rest [] p known end stands rest = (p, refl, ap (λ (x : Stage). finish_as x p) stands.stage ∙ none_again known.stage known.actors p end rest)
reads_rest (line ∷ lines) p known end stands rest =
    let h = reads_line (has_content line) line lines p known end refl stands rest in
    let read : read_content p line ≡ Ok h.next = read_known p known line stands ∙ h.read in
    let moved = line_moves p h.next known line stands read in
    let more = reads_rest lines h.next (known_past known line) end moved.stands h.rest in
    (more.0, ap (λ (x : Result Progress TextKind). and_then x (read_contents read_content lines)) read ∙ more.1, more.2)

-- each line counts
count_step : (line : Placed) (lines : List Placed) (p q : Progress) (known : Known) (r : Result Progress TextKind) → Stands p known
    → ((x : Progress) (k : Known) → Stands x k → read_contents read_content lines x ≡ Ok q → q.number ≡ x.number + length lines)
    → read_content p line ≡ r → and_then r (read_contents read_content lines) ≡ Ok q → q.number ≡ p.number + suc (length lines)
count_step line lines p q known (Err k) stands more is e = absurd (cc)
count_step line lines p q known (Ok x) stands more is e =
    let moved = line_moves p x known line stands is in
    let one = moved.number in
    let rest = more x (known_past known line) moved.stands e in
    omega (arith, one, rest)

counts : (lines : List Placed) (p q : Progress) (known : Known) → Stands p known → read_contents read_content lines p ≡ Ok q → q.number ≡ p.number + length lines
counts [] p q known stands e = let same : p.number ≡ q.number = let whole : p ≡ q = cc in ap (λ (x : Progress). x.number) whole in omega (arith, same)
counts (line ∷ lines) p q known stands e = count_step line lines p q known (read_content p line) stands (λ x k is h. counts lines x q k is h) refl e

-- what a reading tells is the trace of the text
told_trace : (limit : ℕ) (text : List ℕ) (t : Recording) (r : Result Progress TextFault) → read_lines limit read_content (placed text) at_front ≡ r → finish r ≡ Ok t → IsTrace text limit t
told_trace limit text t (Err f) is e = absurd (cc)
told_trace limit text t (Ok q) is e =
    let end = all_passed limit read_content 1 0 (lines_of text) at_front q (omega arith) is in
    let size = end.size in
    let rest : TellsText [] (filter has_content (placed text)) no_steps t = tells_rest (placed text) at_front q nothing_known t front_stands e end.read in
    let events = rest.events in
    record {
      short = omega (arith, size, size_of text);
      plain = end.plain;
      header = rest.header;
      events = events.events;
      closing = events.closing;
      content = rest.whole ∙ ap (λ (ls : List Placed). rest.header ∷ ls) events.parts;
      version = rest.version;
      opens = rest.opens;
      closes = events.closes;
      event_lines = events.event_lines;
      says = events.says;
      in_order = events.in_order;
      told = events.told;
    }

pub trace_is : (limit : ℕ) (text : List ℕ) (t : Recording) → read_text limit text ≡ Ok t → IsTrace text limit t
trace_is limit text t e = told_trace limit text t (read_lines limit read_content (placed text) at_front) refl e

-- a trace by the grammar is read as it is
pub trace_read : (limit : ℕ) (text : List ℕ) (t : Recording) → IsTrace text limit t → read_text limit text ≡ Ok t
trace_read limit text t is =
    let short = is.short in
    let events : TellsEvents is.version [] (is.events ++ is.closing) no_steps t = record {
      events = is.events;
      closing = is.closing;
      event_lines = is.event_lines;
      parts = refl;
      closes = is.closes;
      says = is.says;
      in_order = is.in_order;
      told = is.told;
    } in
    let rest : TellsText [] (filter has_content (placed text)) no_steps t =
    record { header = is.header; rest = is.events ++ is.closing; version = is.version; whole = is.content; opens = is.opens; events = events } in
    let h = reads_rest (placed text) at_front nothing_known t front_stands rest in
    ap finish (all_again limit read_content 1 0 (lines_of text) at_front h.0 (record { size = omega (arith, short, size_of text); plain = is.plain; read = h.1 })) ∙ h.2

-- the fault that stops a reading is the text's, and so is the want of a header
missing : (stage : Stage) (q : Progress) (f : TextFault) → finish_as stage q ≡ Err f → (stage ≡ Front) × (f ≡ record { line = q.number; kind = NoHeader })
missing (Events v) q f e = absurd (cc)
missing Ended q f e = absurd (cc)
missing Front q f e = (refl, let same : record { line = q.number; kind = NoHeader } ≡ f = cc in sym same)

told_fault : (limit : ℕ) (text : List ℕ) (f : TextFault) (r : Result Progress TextFault) → read_lines limit read_content (placed text) at_front ≡ r → finish r ≡ Err f → IsFault text limit f
told_fault limit text f (Err g) is e =
    let same : g ≡ f = cc in
    inl (first_found limit read_content content_kinds known_past Stands 1 0 (lines_of text) at_front nothing_known f trace_agrees front_stands (omega arith) (is ∙ ap Err same))
told_fault limit text f (Ok q) is e =
    let none = none_met limit read_content content_kinds known_past Stands 1 0 (lines_of text) at_front q nothing_known trace_agrees front_stands (omega arith) is in
    let end = all_passed limit read_content 1 0 (lines_of text) at_front q (omega arith) is in
    let last = missing q.stage q f e in
    inr (none.0, sym none.1.stage ∙ last.0, last.1 ∙ ap (λ n. record { line = n; kind = NoHeader }) (counts (placed text) at_front q nothing_known front_stands end.read))

pub fault_is : (limit : ℕ) (text : List ℕ) (f : TextFault) → read_text limit text ≡ Err f → IsFault text limit f
fault_is limit text f e = told_fault limit text f (read_lines limit read_content (placed text) at_front) refl e

-- a text that has a fault by the grammar is read to that fault
unopened : (stage : Stage) (q : Progress) → stage ≡ Front → finish_as stage q ≡ Err (record { line = q.number; kind = NoHeader })
unopened (Events v) q e = absurd (cc)
unopened Ended q e = absurd (cc)
unopened Front q e = refl

pub fault_read : (limit : ℕ) (text : List ℕ) (f : TextFault) → IsFault text limit f → read_text limit text ≡ Err f
fault_read limit text f (inl h) =
    ap finish (first_stops limit read_content content_kinds known_past Stands 1 0 (lines_of text) at_front nothing_known f trace_agrees front_stands (omega arith) h)
fault_read limit text f (inr h) =
    let read = free_read limit read_content content_kinds known_past Stands 1 0 (lines_of text) at_front nothing_known trace_agrees front_stands (omega arith) h.0 in
    let q = read.0 in
    let none = none_met limit read_content content_kinds known_past Stands 1 0 (lines_of text) at_front q nothing_known trace_agrees front_stands (omega arith) read.1 in
    let end = all_passed limit read_content 1 0 (lines_of text) at_front q (omega arith) read.1 in
    let stage : q.stage ≡ Front = none.1.stage ∙ h.1 in
    ap finish read.1 ∙ unopened q.stage q stage
    ∙ ap Err (ap (λ n. record { line = n; kind = NoHeader }) (counts (placed text) at_front q nothing_known front_stands end.read) ∙ sym h.2)

-- the outcome of a reading is the trace of the text, or its fault
outcome_tells : (text : List ℕ) (limit : ℕ) (r : Result Recording ReadFault) → IsOutcome (read_text limit text) r → Tells text limit r
outcome_tells text limit (Ok trace) e = trace_is limit text trace e
outcome_tells text limit (Err (fault.Text f)) e = fault_is limit text f e
outcome_tells text limit (Err fault.Memory) e = tt
outcome_tells text limit (Err fault.Read) e = tt

pub known_tells : (known : Option (List ℕ)) (limit : ℕ) (r : Result Recording ReadFault) → IfSome known (λ text. IsOutcome (read_text limit text) r) → IfSome known (λ text. Tells text limit r)
known_tells None limit r e = e
known_tells (Some text) limit r e = outcome_tells text limit r e

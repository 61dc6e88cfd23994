-- Lines that are read apart from those before them say the same behind these.
use Rattle.std.proofs.Common.{◌≡◌, ℕ, zero, suc, ◌+◌, ◌<◌, ◌≤◌, Bool, true, false, not, ◌&&◌, cond, List, [], ◌∷◌, ◌++◌, map, length, nat_lt, Option, Some, None, Result, Ok, Err, refl, subst, sym, ap, ◌∙◌, arith}
use Rattle.std.specs.List.{All, list_all}
use Rattle.std.specs.Str.{bytes_eq}
use Rattle.std.proofs.lemmas.Bool.Decides.{nat_tests}
use Rattle.std.proofs.lemmas.List.Elements.{All-nil, All-cons, All-append, All-push}
use Rattle.er_event.specs.declared.addresses.PageRange.{PageRange}
use Rattle.er_trace.specs.Names.{is_known}
use Rattle.er_trace.specs.Trace.{Recording, IsNamed, HasSiteName, with_thread_name}
use Rattle.er_trace.specs.Appended.{with_names, appended}
use Rattle.er_trace.proofs.AppendedLemmas.{there}
use Rattle.er_lines.specs.declared.faults.TextKind.{TextKind}
use Rattle.er_lines.specs.declared.faults.TextKind.TheVariants.{OwnThread, AlreadyRunning, NotAscii}
use Rattle.er_text.specs.declared.stages.Stage.TheVariants.{Events, Ended}
use Rattle.er_text.specs.declared.verbs.Version.{Version}
use Rattle.er_text.specs.Ending.{is_cut_after}
use Rattle.er_text.specs.Events.{EventLine, Operation, Acquires, Releases, Accesses, Reuses, IgnoresOn, IgnoresOff, Shows, Levels, Starts, Joins, Signals, Awaits, run_parts, with_operation, with_line}
use Rattle.er_lines.specs.Lines.{Line, Placed, placed_from, says_something, words, is_ascii, width}
use Rattle.er_text.specs.Trace.{is_end}
use Rattle.er_text.specs.Inner.Idle.{with_idle, other_thread, operation_fault, order_fault, waits_for, is_known_name}
use Rattle.er_text.specs.Inner.Parsing.{parsed_of}
use Rattle.er_text.specs.Inner.Pieces.{AreRead}
use Rattle.er_lines.specs.Reading.{go_on, read_lines}
use Rattle.er_text.specs.Inner.Traces.{Progress, at_line, skip, past_event, add_event, add_parsed, closed, plain_at, read_content}
use Rattle.er_text.proofs.AppendedLemmas.{line_appended, line_named, line_sites_named}
use Rattle.er_lines.proofs.WholeLemmas.{widths}

-- the steps of a recording have names, and so have its sites
pub record Named (q : Recording) : Type 0 where
  pub steps : All (IsNamed q.names) q.steps
  pub sites : All (HasSiteName q.names) q.sites

-- a thread that is idle is one
grown : (n : ℕ) → with_idle [] n ≡ [] → ⊥
grown zero e = absurd (cc)
grown (suc n) e = absurd (cc)

-- a start leaves a thread idle, or has a fault
no_start : (own known : Bool) (n : ℕ) → cond own (Some OwnThread) (cond (known && true) (Some AlreadyRunning) None) ≡ None → cond known [] (with_idle [] n) ≡ [] → ⊥
no_start true known n fault idle = absurd (cc)
no_start false true n fault idle = absurd (cc)
no_start false false n fault idle = grown n idle

-- and a join of a thread that was not known
known_joined : (known : Bool) (n : ℕ) → cond known [] (with_idle [] n) ≡ [] → known ≡ true
known_joined true n idle = refl
known_joined false n idle = absurd (grown n idle)

-- behind other lines an event line has no fault either, and no thread is idle
record StaysOpen (threads new : List (List ℕ)) (t : List ℕ) (d : Operation) : Type 0 where
  fault : operation_fault threads [] t d ≡ None
  idle : waits_for (is_known_name threads (other_thread d)) new (other_thread d) [] ≡ []

stays_open : (a threads new others : List (List ℕ)) (t : List ℕ) (d : Operation) → StaysOpen threads new t d → StaysOpen (with_names a threads) others t d
stays_open a threads new others t (Acquires lock m) here = record { fault = refl; idle = refl }
stays_open a threads new others t (Releases lock m) here = record { fault = refl; idle = refl }
stays_open a threads new others t (Accesses k w site) here = record { fault = refl; idle = refl }
stays_open a threads new others t (Reuses run site) here = record { fault = refl; idle = refl }
stays_open a threads new others t IgnoresOn here = record { fault = refl; idle = refl }
stays_open a threads new others t IgnoresOff here = record { fault = refl; idle = refl }
stays_open a threads new others t (Shows w) here = record { fault = refl; idle = refl }
stays_open a threads new others t (Levels n) here = record { fault = refl; idle = refl }
stays_open a threads new others t (Starts other) here = absurd (no_start (bytes_eq other t) (is_known threads other) _ here.fault here.idle)
stays_open a threads new others t (Joins other) here =
    let known = known_joined (is_known threads other) _ here.idle in
    record { fault = here.fault; idle = rw (there a threads other known) refl }
stays_open a threads new others t (Signals object) here = record { fault = refl; idle = refl }
stays_open a threads new others t (Awaits object) here = record { fault = refl; idle = refl }

-- what a line does behind so many others, whose recording is this
record LineOn (v : Version) (before k : ℕ) (r s : Recording) (reads : Result Progress TextKind) : Type 0 where
  read : reads ≡ Ok (at_line (k + 1) (Events v) [] (appended before r s))
  named : Named s

record PastOn (v : Version) (n : ℕ) (q s : Recording) (e : EventLine) : Type 0 where
  told : with_line n e q ≡ s
  open_past : StaysOpen q.names.threads (with_line n e q).names.threads e.thread e.operation

past_parts : (v : Version) (n : ℕ) (q s : Recording) (e : EventLine) (fault : Option TextKind) → order_fault q.names.threads [] e ≡ fault
    → add_event n (at_line n (Events v) [] q) e fault ≡ Ok (at_line (n + 1) (Events v) [] s) → PastOn v n q s e
past_parts v n q s e (Some kind) is read = absurd (cc)
past_parts v n q s e None is read = record {
  told = let same : past_event n (at_line n (Events v) [] q) e ≡ at_line (n + 1) (Events v) [] s = cc in ap (λ (p : Progress). p.told) same;
  open_past = record {
    fault = is;
    idle = let same : past_event n (at_line n (Events v) [] q) e ≡ at_line (n + 1) (Events v) [] s = cc in ap (λ (p : Progress). p.idle) same;
  };
}

event_on : (v : Version) (before n k : ℕ) (r q s : Recording) (e : EventLine) → k ≡ before + n → Named q
    → add_event n (at_line n (Events v) [] q) e (order_fault q.names.threads [] e) ≡ Ok (at_line (n + 1) (Events v) [] s)
    → LineOn v before k r s (add_event k (at_line k (Events v) [] (appended before r q)) e (order_fault (appended before r q).names.threads [] e))
event_on v before n k r q s e is named read =
    let here = past_parts v n q s e (order_fault q.names.threads [] e) refl read in
    let there = stays_open r.names.threads q.names.threads (with_line n e q).names.threads (with_line k e (appended before r q)).names.threads e.thread e.operation here.open_past in
    let line : with_line k e (appended before r q) ≡ appended before r s =
    ap (λ (j : ℕ). with_line j e (appended before r q)) is ∙ sym (line_appended before r q e n named.steps named.sites) ∙ ap (appended before r) here.told in
    record {
      read = ap (add_event k (at_line k (Events v) [] (appended before r q)) e) there.fault
          ∙ ap (λ (x : List Bool). Ok (at_line (k + 1) (Events v) x (with_line k e (appended before r q)))) there.idle
          ∙ ap (λ (u : Recording). Ok (at_line (k + 1) (Events v) [] u)) line;
      named = subst Named here.told (record { steps = line_named n e q named.steps; sites = line_sites_named n e q named.sites });
    }

parsed_on : (v : Version) (before n k : ℕ) (r q s : Recording) (parsed : Result EventLine TextKind) → k ≡ before + n → Named q
    → add_parsed n (at_line n (Events v) [] q) parsed ≡ Ok (at_line (n + 1) (Events v) [] s)
    → LineOn v before k r s (add_parsed k (at_line k (Events v) [] (appended before r q)) parsed)
parsed_on v before n k r q s (Err kind) is named read = absurd (cc)
parsed_on v before n k r q s (Ok e) is named read = event_on v before n k r q s e is named read

words_on : (v : Version) (before n k : ℕ) (r q s : Recording) (ends : Bool) (parsed : Result EventLine TextKind) → k ≡ before + n → Named q
    → cond ends (Ok (closed (at_line n (Events v) [] q))) (add_parsed n (at_line n (Events v) [] q) parsed) ≡ Ok (at_line (n + 1) (Events v) [] s)
    → LineOn v before k r s (cond ends (Ok (closed (at_line k (Events v) [] (appended before r q)))) (add_parsed k (at_line k (Events v) [] (appended before r q)) parsed))
words_on v before n k r q s true parsed is named read =
    let same : closed (at_line n (Events v) [] q) ≡ at_line (n + 1) (Events v) [] s = cc in
    let ended : Ended ≡ Events v = ap (λ (p : Progress). p.stage) same in
    absurd (let e = ended in cc)
words_on v before n k r q s false parsed is named read = parsed_on v before n k r q s parsed is named read

skipped_on : (v : Version) (before n k : ℕ) (r q s : Recording) → Named q → skip (at_line n (Events v) [] q) ≡ at_line (n + 1) (Events v) [] s
    → LineOn v before k r s (Ok (skip (at_line k (Events v) [] (appended before r q))))
skipped_on v before n k r q s named same =
    let told : q ≡ s = ap (λ (p : Progress). p.told) same in
    record { read = ap (λ (u : Recording). Ok (at_line (k + 1) (Events v) [] (appended before r u))) told; named = subst Named told named }

chosen_on : (v : Version) (before n k : ℕ) (r q s : Recording) (ascii says ends : Bool) (parsed : Result EventLine TextKind) → k ≡ before + n → Named q
    → cond (not ascii) (Err NotAscii) (cond says (cond ends (Ok (closed (at_line n (Events v) [] q))) (add_parsed n (at_line n (Events v) [] q) parsed)) (Ok (skip (at_line n (Events v) [] q))))
    ≡ Ok (at_line (n + 1) (Events v) [] s)
    → LineOn v before k r s (cond (not ascii) (Err NotAscii) (cond says (cond ends (Ok (closed (at_line k (Events v) [] (appended before r q))))
    (add_parsed k (at_line k (Events v) [] (appended before r q)) parsed)) (Ok (skip (at_line k (Events v) [] (appended before r q))))))
chosen_on v before n k r q s false says ends parsed is named read = absurd (cc)
chosen_on v before n k r q s true true ends parsed is named read = words_on v before n k r q s ends parsed is named read
chosen_on v before n k r q s true false ends parsed is named read = skipped_on v before n k r q s named (cc)

-- one line
line_on : (v : Version) (before n k : ℕ) (r q s : Recording) (bytes : List ℕ) → k ≡ before + n → Named q
    → plain_at (at_line n (Events v) [] q) n bytes ≡ Ok (at_line (n + 1) (Events v) [] s)
    → LineOn v before k r s (plain_at (at_line k (Events v) [] (appended before r q)) k bytes)
line_on v before n k r q s bytes is named read =
    chosen_on v before n k r q s (list_all is_ascii bytes) (says_something bytes) (is_end v (words bytes)) (parsed_of v (words bytes)) is named read

-- the line in front of others, in the limits
pub line_inside : (limit : ℕ) (p : Placed) (left : List Placed) (t u : Progress) → length p.line.bytes ≤ 1024 → p.start + width p.line ≤ limit
    → plain_at t p.number p.line.bytes ≡ Ok u → read_lines limit read_content (p ∷ left) t ≡ read_lines limit read_content left u
line_inside limit p left t u short within read =
    let long : nat_lt 1024 (length p.line.bytes) ≡ false = grind (arith, nat_tests, short) in
    let past : nat_lt limit (p.start + width p.line) ≡ false = grind (arith, nat_tests, within) in
    rw (long, past) (ap (go_on p (read_lines limit read_content left)) read)

-- all lines of a piece
pub lines_on : (v : Version) (before limit n m k start : ℕ) (r q t : Recording) (lines more : List Line) → k ≡ before + n → Named q → AreRead v lines n q m t
    → start + widths lines ≤ limit
    → read_lines limit read_content (placed_from k start (lines ++ more)) (at_line k (Events v) [] (appended before r q))
    ≡ read_lines limit read_content (placed_from (before + m) (start + widths lines) more) (at_line (before + m) (Events v) [] (appended before r t))
lines_on v before limit n m k start r q t [] more is named are within =
    let number : k ≡ before + m = is ∙ ap (λ (j : ℕ). before + j) are.0 in
    let none : start ≡ start + 0 = omega arith in
    ap (λ (j : ℕ). read_lines limit read_content (placed_from j start more) (at_line j (Events v) [] (appended before r q))) number
    ∙ ap (λ (j : ℕ). read_lines limit read_content (placed_from (before + m) j more) (at_line (before + m) (Events v) [] (appended before r q))) none
    ∙ ap (λ (u : Recording). read_lines limit read_content (placed_from (before + m) (start + 0) more) (at_line (before + m) (Events v) [] (appended before r u))) are.1
lines_on v before limit n m k start r q t (line ∷ lines) more is named are within =
    let s = are.2 in
    let first = line_on v before n k r q s line.bytes is named are.3 in
    let next : k + 1 ≡ before + (n + 1) = omega (arith, is) in
    let here : start + width line ≤ limit = omega (arith, within) in
    let rest : start + width line + widths lines ≤ limit = omega (arith, within) in
    let behind : start + width line + widths lines ≡ start + (width line + widths lines) = omega arith in
    line_inside limit (record { number = k; start = start; line = line }) (placed_from (k + 1) (start + width line) (lines ++ more))
    (at_line k (Events v) [] (appended before r q)) (at_line (k + 1) (Events v) [] (appended before r s)) are.1 here first.read
    ∙ lines_on v before limit (n + 1) m (k + 1) (start + width line) r s t lines more next first.named are.4 rest
    ∙ ap (λ (j : ℕ). read_lines limit read_content (placed_from (before + m) j more) (at_line (before + m) (Events v) [] (appended before r t))) behind

-- each of the lines has its LF, so the last of them has it
pub same_cut : (k j s t : ℕ) (lines : List Line) (cut : Bool) → is_cut_after cut (placed_from k s lines) ≡ is_cut_after cut (placed_from j t lines)
same_cut k j s t [] cut = refl
same_cut k j s t (line ∷ lines) cut = same_cut (k + 1) (j + 1) (s + width line) (t + width line) lines (not line.ended)

cut_rest : (v : Version) (n m k start : ℕ) (q t : Recording) (lines more : List Line) → AreRead v lines n q m t
    → is_cut_after false (placed_from k start (lines ++ more)) ≡ is_cut_after false (placed_from k start more)
cut_rest v n m k start q t [] more are = refl
cut_rest v n m k start q t (line ∷ lines) more are =
    ap (λ (b : Bool). is_cut_after (not b) (placed_from (k + 1) (start + width line) (lines ++ more))) are.0
    ∙ cut_rest v (n + 1) m (k + 1) (start + width line) are.2 t lines more are.4
    ∙ same_cut (k + 1) k (start + width line) start more false

-- some lines were passed over
pub cut_on : (v : Version) (n m k j start to : ℕ) (q t : Recording) (line : Line) (lines more : List Line) (cut : Bool) → AreRead v (line ∷ lines) n q m t
    → is_cut_after cut (placed_from k start (line ∷ lines ++ more)) ≡ is_cut_after false (placed_from j to more)
cut_on v n m k j start to q t line lines more cut are =
    ap (λ (b : Bool). is_cut_after (not b) (placed_from (k + 1) (start + width line) (lines ++ more))) are.0
    ∙ cut_rest v (n + 1) m (k + 1) (start + width line) are.2 t lines more are.4
    ∙ same_cut (k + 1) j (start + width line) to more false

-- lines whose numbers are below that of the next one
abbrev pub Below : ℕ → Recording → Type 0
Below n q = All (λ line. line < n) q.lines

more_below : (n : ℕ) (xs : List ℕ) → All (λ line. line < n) xs → All (λ line. line < n + 1) xs
more_below n xs below i d h = let x = below i d h in omega (arith, x)

one_below : (n : ℕ) (xs : List ℕ) → All (λ line. line < n) xs → All (λ line. line < n + 1) (xs ++ n ∷ [])
one_below n xs below = All-push (λ line. line < n + 1) xs n (more_below n xs below) (omega arith)

parts_below : (n : ℕ) (parts : List PageRange) → All (λ line. line < n + 1) (map (λ part. n) parts)
parts_below n [] = All-nil (λ line. line < n + 1)
parts_below n (part ∷ parts) = All-cons (λ line. line < n + 1) n (map (λ part. n) parts) (omega arith) (parts_below n parts)

pub operation_below : (n thread : ℕ) (d : Operation) (q : Recording) → Below n q → Below (n + 1) (with_operation n thread d q)
operation_below n thread (Acquires lock m) q below = one_below n q.lines below
operation_below n thread (Releases lock m) q below = one_below n q.lines below
operation_below n thread (Accesses k w None) q below = one_below n q.lines below
operation_below n thread (Accesses k w (Some site)) q below = one_below n q.lines below
operation_below n thread (Reuses run None) q below = All-append (λ line. line < n + 1) q.lines _ (more_below n q.lines below) (parts_below n (run_parts run))
operation_below n thread (Reuses run (Some site)) q below = All-append (λ line. line < n + 1) q.lines _ (more_below n q.lines below) (parts_below n (run_parts run))
operation_below n thread IgnoresOn q below = one_below n q.lines below
operation_below n thread IgnoresOff q below = one_below n q.lines below
operation_below n thread (Shows w) q below = one_below n q.lines below
operation_below n thread (Levels l) q below = one_below n q.lines below
operation_below n thread (Starts other) q below = one_below n q.lines below
operation_below n thread (Joins other) q below = one_below n q.lines below
operation_below n thread (Signals object) q below = one_below n q.lines below
operation_below n thread (Awaits object) q below = one_below n q.lines below

line_below : (v : Version) (n : ℕ) (q s : Recording) (e : EventLine) (fault : Option TextKind) → Below n q
    → add_event n (at_line n (Events v) [] q) e fault ≡ Ok (at_line (n + 1) (Events v) [] s) → Below (n + 1) s
line_below v n q s e (Some kind) below read = absurd (cc)
line_below v n q s e None below read =
    let same : past_event n (at_line n (Events v) [] q) e ≡ at_line (n + 1) (Events v) [] s = cc in
    let told : with_line n e q ≡ s = ap (λ (p : Progress). p.told) same in
    subst (Below (n + 1)) told (operation_below n _ e.operation (with_thread_name q e.thread) below)

parsed_below : (v : Version) (n : ℕ) (q s : Recording) (parsed : Result EventLine TextKind) → Below n q
    → add_parsed n (at_line n (Events v) [] q) parsed ≡ Ok (at_line (n + 1) (Events v) [] s) → Below (n + 1) s
parsed_below v n q s (Err kind) below read = absurd (cc)
parsed_below v n q s (Ok e) below read = line_below v n q s e (order_fault q.names.threads [] e) below read

chosen_below : (v : Version) (n : ℕ) (q s : Recording) (ascii says ends : Bool) (parsed : Result EventLine TextKind) → Below n q
    → cond (not ascii) (Err NotAscii) (cond says (cond ends (Ok (closed (at_line n (Events v) [] q))) (add_parsed n (at_line n (Events v) [] q) parsed)) (Ok (skip (at_line n (Events v) [] q))))
    ≡ Ok (at_line (n + 1) (Events v) [] s) → Below (n + 1) s
chosen_below v n q s false says ends parsed below read = absurd (cc)
chosen_below v n q s true true true parsed below read =
    let same : closed (at_line n (Events v) [] q) ≡ at_line (n + 1) (Events v) [] s = cc in
    let ended : Ended ≡ Events v = ap (λ (p : Progress). p.stage) same in
    absurd (let e = ended in cc)
chosen_below v n q s true true false parsed below read = parsed_below v n q s parsed below read
chosen_below v n q s true false ends parsed below read =
    let same : skip (at_line n (Events v) [] q) ≡ at_line (n + 1) (Events v) [] s = cc in
    let told : q ≡ s = ap (λ (p : Progress). p.told) same in
    subst (Below (n + 1)) told (more_below n q.lines below)

-- the lines of a piece have numbers below that of the line behind them
pub lines_below : (v : Version) (n m : ℕ) (q t : Recording) (lines : List Line) → AreRead v lines n q m t → Below n q → Below m t
lines_below v n m q t [] are below = subst (λ (j : ℕ). Below j t) are.0 (subst (Below n) are.1 below)
lines_below v n m q t (line ∷ lines) are below =
    lines_below v (n + 1) m are.2 t lines are.4
    (chosen_below v n q are.2 (list_all is_ascii line.bytes) (says_something line.bytes) (is_end v (words line.bytes)) (parsed_of v (words line.bytes)) below are.3)

-- and are no more than their bytes
pub few_lines : (v : Version) (n m : ℕ) (q t : Recording) (lines : List Line) → AreRead v lines n q m t → m ≤ n + widths lines
few_lines v n m q t [] are = omega (arith, are.0)
few_lines v n m q t (line ∷ lines) are =
    let more = few_lines v (n + 1) m are.2 t lines are.4 in
    let one : width line ≡ length line.bytes + 1 = ap (λ (b : Bool). length line.bytes + cond b 1 0) are.0 in
    omega (arith, more, one)

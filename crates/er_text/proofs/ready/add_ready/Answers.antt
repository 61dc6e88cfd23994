-- Both names are those of the line, and have their numbers by then.
use Rattle.std.proofs.Common.{◌≡◌, ◌∙◌, ℕ, true, false, OnOk, sym, ap, subst, rules}
use Rattle.er_lines.specs.Ready.{operand_name, thread_name}
use Rattle.er_lines.specs.declared.ready.NameKind.TheVariants as names
use Rattle.er_trace.specs.Trace.{Recording}
use Rattle.er_text.specs.Inner.Ready.{is_access, with_lines}
use Rattle.er_text.proofs.AccessLemmas.{lines_at_none, lines_at_site}
use Rattle.er_text.proofs.AddingLemmas.{thread_named}
use Rattle.er_text.proofs.KnownLemmas.{access_named, at_named, hold_alone, hold_has, hold_line, hold_named, holds_named, operand_printed, thread_printed, thread_some, words_small}
use Rattle.er_text.proofs.ready.add_ready.Goals as goal

pub number-requires-clause-some : goal.number-requires-clause-some
number-requires-clause-some g c = thread_some (g.S.Shortcut.names_of c.args.reader.now) c.args.ready c.requires.line

pub number-requires-clause-printed : goal.number-requires-clause-printed
number-requires-clause-printed g c = thread_printed (g.S.Shortcut.names_of c.args.reader.now) c.args.ready c.requires.line

pub number-requires-then-not-is_access-clause-some : goal.number-requires-then-not-is_access-clause-some
number-requires-then-not-is_access-clause-some g c =
    let is : is_access c.args.ready.verb ≡ false = search rules in
    let named = hold_named (g.S.Shortcut.names_of c.args.reader.now) c.args.ready is c.requires.line in
    rw c.unwrap_or-name.ensures named.0

pub number-requires-then-not-is_access-clause-printed : goal.number-requires-then-not-is_access-clause-printed
number-requires-then-not-is_access-clause-printed g c =
    let is : is_access c.args.ready.verb ≡ false = search rules in
    let of = g.S.Shortcut.names_of c.args.reader.now in
    let named = hold_named of c.args.ready is c.requires.line in
    rw c.unwrap_or-name.ensures (operand_printed of c.args.ready _ c.requires.line named.1)

pub push-requires-clause-step : goal.push-requires-clause-step
push-requires-clause-step g c =
    let of = g.S.Shortcut.names_of c.args.reader.now in
    let lock = c.number-then-not-is_access.new.trace in
    let n = holds_named c.args.trace.now c.number.new.trace lock (thread_name of c.args.ready) (of names.Lock c.unwrap_or-name.result) c.in_ok-thread.thread c.in_ok-lock.lock
    c.in_ok-thread.ensures.number c.in_ok-thread.ensures.trace c.in_ok-lock.ensures.number c.in_ok-lock.ensures.trace in
    record { thread = rw c.new-thread.ensures n.0; event = rw (c.hold_event-event.ensures, c.new.ensures) (hold_has c.args.ready.verb lock.names c.in_ok-lock.lock n.1) }

pub returns-then-not-is_access-clause-trace : goal.returns-then-not-is_access-clause-trace
returns-then-not-is_access-clause-trace g c =
    let is : is_access c.args.ready.verb ≡ false = search rules in
    let of = g.S.Shortcut.names_of c.args.reader.now in
    let named = hold_named of c.args.ready is c.requires.line in
    let P : Recording → Type 0 = λ r. OnOk c.push.result (c.push.new.self ≡ r) in
    let added = hold_line c.args.ready.verb c.args.line c.args.ready.address c.args.trace.now c.number.new.trace c.number-then-not-is_access.new.trace (thread_name of c.args.ready)
    (of names.Lock c.unwrap_or-name.result) c.in_ok-thread.thread c.in_ok-lock.lock is c.in_ok-thread.ensures.number c.in_ok-thread.ensures.trace c.in_ok-lock.ensures.number c.in_ok-lock.ensures.trace in
    let many = ap (λ (n : ℕ). with_lines c.args.line c.args.ready.verb c.args.ready.address (thread_name of c.args.ready) (operand_name of c.args.ready) n c.args.trace.now) (sym (hold_alone of c.args.ready is c.requires.line)) in
    subst P (rw (c.new-thread.ensures, c.hold_event-event.ensures, c.new.ensures, named.1, sym c.unwrap_or-name.ensures) added ∙ many) c.push.ensures.ok

pub number-requires-2-clause-printed : goal.number-requires-2-clause-printed
number-requires-2-clause-printed g c =
    let is : is_access c.args.ready.verb ≡ true = search rules in
    let of = g.S.Shortcut.names_of c.args.reader.now in
    let named = access_named of c.args.ready c.in-Some.place is c.requires.line c.in-Some.is in
    operand_printed of c.args.ready (of names.Site c.in-Some.place) c.requires.line named.1

pub add_accesses-requires-clause-thread : goal.add_accesses-requires-clause-thread
add_accesses-requires-clause-thread g c =
    let of = g.S.Shortcut.names_of c.args.reader.now in
    rw c.new-thread.ensures (thread_named c.args.trace.now c.number.new.trace (thread_name of c.args.ready) c.in_ok-thread.thread c.in_ok-thread.ensures.number c.in_ok-thread.ensures.trace)

pub add_accesses-requires-clause-words : goal.add_accesses-requires-clause-words
add_accesses-requires-clause-words g c =
    let is : is_access c.args.ready.verb ≡ true = search rules in
    words_small (g.S.Shortcut.names_of c.args.reader.now) c.args.ready is c.requires.line

pub returns-in_default-clause-trace : goal.returns-in_default-clause-trace
returns-in_default-clause-trace g c =
    let is : is_access c.args.ready.verb ≡ true = search rules in
    let of = g.S.Shortcut.names_of c.args.reader.now in
    let P : Recording → Type 0 = λ r. OnOk c.add_accesses.result (c.add_accesses.new.trace ≡ r) in
    let added = lines_at_none of c.args.ready c.args.line c.in_ok-thread.thread c.args.trace.now c.number.new.trace is c.requires.line (search rules) c.in_ok-thread.ensures.number c.in_ok-thread.ensures.trace in
    subst P (rw (c.new-thread.ensures, c.access_kind-kind.ensures) added) c.add_accesses.ensures.trace

pub add_accesses-requires-2-clause-thread : goal.add_accesses-requires-2-clause-thread
add_accesses-requires-2-clause-thread g c =
    let of = g.S.Shortcut.names_of c.args.reader.now in
    let n = at_named c.args.trace.now c.number.new.trace c.number-2.new.trace (thread_name of c.args.ready) (of names.Site c.in-Some.place) c.in_ok-thread.thread c.in_ok-number.field-0
    c.in_ok-thread.ensures.number c.in_ok-thread.ensures.trace c.in_ok-number.ensures.number c.in_ok-number.ensures.trace in
    rw c.new-thread.ensures n.0

pub add_accesses-requires-2-clause-site : goal.add_accesses-requires-2-clause-site
add_accesses-requires-2-clause-site g c =
    let of = g.S.Shortcut.names_of c.args.reader.now in
    let n = at_named c.args.trace.now c.number.new.trace c.number-2.new.trace (thread_name of c.args.ready) (of names.Site c.in-Some.place) c.in_ok-thread.thread c.in_ok-number.field-0
    c.in_ok-thread.ensures.number c.in_ok-thread.ensures.trace c.in_ok-number.ensures.number c.in_ok-number.ensures.trace in
    rw c.new-site.ensures n.1

pub add_accesses-requires-2-clause-words : goal.add_accesses-requires-2-clause-words
add_accesses-requires-2-clause-words g c =
    let is : is_access c.args.ready.verb ≡ true = search rules in
    words_small (g.S.Shortcut.names_of c.args.reader.now) c.args.ready is c.requires.line

pub returns-clause-trace : goal.returns-clause-trace
returns-clause-trace g c =
    let is : is_access c.args.ready.verb ≡ true = search rules in
    let of = g.S.Shortcut.names_of c.args.reader.now in
    let P : Recording → Type 0 = λ r. OnOk c.add_accesses-2.result (c.add_accesses-2.new.trace ≡ r) in
    let added = lines_at_site of c.args.ready c.in-Some.place c.args.line c.in_ok-thread.thread c.in_ok-number.field-0 c.args.trace.now c.number.new.trace c.number-2.new.trace is c.requires.line c.in-Some.is
    c.in_ok-thread.ensures.number c.in_ok-thread.ensures.trace c.in_ok-number.ensures.number c.in_ok-number.ensures.trace in
    subst P (rw (c.new-thread.ensures, c.new-site.ensures, c.access_kind-kind.ensures) added) c.add_accesses-2.ensures.trace

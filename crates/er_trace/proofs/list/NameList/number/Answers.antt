use Rattle.std.proofs.Common.{◌≡◌, false, map, sym, ◌∙◌, ap, true≢false}
use Rattle.std.specs.List.{list_any, position_or_len}
use Rattle.std.specs.Str.{bytes_eq}
use Rattle.std.specs.String.{string_bytes}
use Rattle.er_trace.specs.Names.{is_known, number_of, with_name}
use Rattle.er_trace.proofs.NamesLemmas.{known_at, number_at, found_place, with_known, bytes-insert_key}
use Rattle.er_trace.proofs.list.NameList.number.Goals as goal
use Rattle.er_trace.proofs.list.NameList.number.Goals.{In_default, In_ok-number}

pub returns-in-Some-clause-number : goal.returns-in-Some-clause-number
returns-in-Some-clause-number c =
    found_place _ _ _ c.in-Some.ensures.index ∙ number_at c.args.name.now c.self.inside.names.keys
    ∙ ap (λ names. number_of names c.args.name.now) c.self.view_is

pub returns-in-Some-clause-ok : goal.returns-in-Some-clause-ok
returns-in-Some-clause-ok c =
    let known = ap (λ names. is_known names c.args.name.now) (sym c.self.view_is)
    ∙ sym (known_at c.args.name.now c.self.inside.names.keys) ∙ sym c.in-Some.ensures.found in
    sym (with_known c.args.self.now c.args.name.now known)

pub returns-in-Some-clause-full : goal.returns-in-Some-clause-full
returns-in-Some-clause-full c = λ full new.
    let known = ap (λ names. is_known names c.args.name.now) (sym c.self.view_is)
    ∙ sym (known_at c.args.name.now c.self.inside.names.keys) ∙ sym c.in-Some.ensures.found in
    absurd (true≢false (sym known ∙ new))

-- the look-up found no such name
missing : (c : In_default) → list_any (λ k. bytes_eq c.args.name.now (string_bytes k)) c.self.inside.names.keys ≡ false
missing c = sym c.in_default.ensures.found

new : (c : In_default) → is_known c.args.self.now c.args.name.now ≡ false
new c =
    ap (λ names. is_known names c.args.name.now) (sym c.self.view_is)
    ∙ sym (known_at c.args.name.now c.self.inside.names.keys) ∙ missing c

pub returns-then-len-ge-MOST-clause-known : goal.returns-then-len-ge-MOST-clause-known
returns-then-len-ge-MOST-clause-known c known =
    absurd (true≢false (sym known ∙ new (goal.at.returns-then-len-ge-MOST-clause-known c).In_default))

pub returns-in_err-name-clause-known : goal.returns-in_err-name-clause-known
returns-in_err-name-clause-known c known =
    absurd (true≢false (sym known ∙ new (goal.at.returns-in_err-name-clause-known c).In_default))

pub returns-in_err-number-clause-known : goal.returns-in_err-number-clause-known
returns-in_err-number-clause-known c known =
    absurd (true≢false (sym known ∙ new (goal.at.returns-in_err-number-clause-known c).In_default))

pub returns-clause-number : goal.returns-clause-number
returns-clause-number c =
    c.in_ok-number.ensures.index
    ∙ ap (λ name. position_or_len (λ k. bytes_eq name (string_bytes k)) c.self.inside.names.keys) c.in_ok-name.ensures.ok
    ∙ number_at c.args.name.now c.self.inside.names.keys
    ∙ ap (λ names. number_of names c.args.name.now) c.self.view_is

pub returns-clause-ok : goal.returns-clause-ok
returns-clause-ok c =
    let same = c.in_ok-name.ensures.ok in
    let none = ap (λ name. list_any (λ k. bytes_eq name (string_bytes k)) c.self.inside.names.keys) same
    ∙ missing (goal.at.returns-clause-ok c).In_default in
    ap (map string_bytes) c.in_ok-number.ensures.keys
    ∙ bytes-insert_key c.self.inside.names.keys c.in_ok-name.name none
    ∙ ap (with_name (map string_bytes c.self.inside.names.keys)) same
    ∙ ap (λ names. with_name names c.args.name.now) c.self.view_is

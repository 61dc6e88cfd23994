use Rattle.std.proofs.Common.{◌≡◌, ◌+◌, ◌-◌, ℕ, List, true, false, codes, Some, None, refl, subst, length, take, drop, rules}
use Rattle.std.specs.Str.{bytes_eq}
use Rattle.er_trace.specs.Names.{NameTable, is_known, number_of}
use Rattle.er_trace.specs.Trace.{with_site_name}
use Rattle.er_text.specs.Naming.{is_site_word}
use Rattle.er_text.specs.Inner.FastPath.{Named}
use Rattle.er_text.proofs.FastPathLaws.{missing_site, named_site}
use Rattle.er_text.proofs.FastPathLemmas.{space_front}
use Rattle.er_text.proofs.SiteLemmas.{site_parts, dash_named}
use Rattle.er_text.proofs.UsualLemmas.{site_again, site_at_end}
use Rattle.er_text.proofs.fast_path.site_behind.Goals as goal

pub returns-then-eq : goal.returns-then-eq
returns-then-eq c =
    let rest = c.args.rest.now in
    let word = take (length rest - 1) (drop 1 rest) in
    let led = space_front rest c.in-32.len_at_least (search rules) in
    let dash : bytes_eq word (codes "-") ≡ true = search rules in
    let named = dash_named c.args.version word dash in
    (None, Named word led (missing_site c.args.version word c.as_slice.result.now named c.if-eq.ensures c.as_slice.ensures), refl, refl)

pub returns-in-Some : goal.returns-in-Some
returns-in-Some c =
    let rest = c.args.rest.now in
    let word = take (length rest - 1) (drop 1 rest) in
    let led = space_front rest c.in-32.len_at_least (search rules) in
    let other : bytes_eq word (codes "-") ≡ false = search rules in
    site_at_end c.args.version c.args.trace.now c.args.whole.now c.args.rest.now word c.in-Some.site c.requires led c.in-Some.ensures.some (search rules) other

pub returns-in-Some-allowed_site : goal.returns-in-Some-allowed_site
returns-in-Some-allowed_site c =
    let rest = c.args.rest.now in
    let word = take (length rest - 1) (drop 1 rest) in
    let led = space_front rest c.in-32.len_at_least (search rules) in
    let other : bytes_eq word (codes "-") ≡ false = search rules in
    let found = c.in-Some-allowed_site in
    let P : NameTable → Type 0 = λ names. (found.site ≡ number_of names.sites word + 1) × (is_known names.sites word ≡ true) in
    let known = subst P c.names-2.ensures (found.ensures.number, found.ensures.known) in
    site_again c.args.version c.args.trace.now rest word found.site led known.0 known.1 (rw c.is_third.ensures at found.ensures.allowed) other

pub site_text-requires : goal.site_text-requires
site_text-requires c =
    let rest = c.args.rest.now in
    let word = take (length rest - 1) (drop 1 rest) in
    let named : is_site_word c.args.version word ≡ true = search rules in
    (site_parts c.args.version word named).printed

pub returns : goal.returns
returns c =
    let rest = c.args.rest.now in
    let word = take (length rest - 1) (drop 1 rest) in
    let led = space_front rest c.in-32.len_at_least (search rules) in
    let named : is_site_word c.args.version word ≡ true = search rules in
    let old = c.args.trace.now in
    let P : List ℕ → Type 0 = λ name. (c.in_ok-site.field-0 ≡ number_of old.names.sites name + 1) × (c.site.new.self ≡ with_site_name old name) in
    let n = subst P c.site_text.ensures (c.in_ok-site.ensures.number, c.in_ok-site.ensures.ok) in
    (Some word, Named word led (named_site c.args.version word c.as_slice.result.now named c.if-eq.ensures c.as_slice.ensures), n.0, n.1)

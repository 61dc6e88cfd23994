-- The lines of the words.
use Rattle.std.proofs.Common.{◌≡◌, ◌<◌, ◌≤◌, ◌+◌, ◌-◌, ◌^◌, ◌*◌, ◌/◌, ◌%◌, arith}
use Rattle.er_binary.proofs.WordsLaws.{access_right, access_text_is, lines_right, named_site}
use Rattle.er_binary.proofs.state.State.line_of.Goals as goal

pub ready_width-requires : goal.ready_width-requires
ready_width-requires c =
    let words = c.args.words.now in
    let below : words.at / 4 * 4 < 2 ^ 48 = omega arith in
    let even : words.at / 4 * 4 % 4 ≡ 0 = omega arith in
    rw (c.verb-verb.ensures, c.get.ensures, c.site_name-site.ensures)
    (access_right c.args.self.now words.writes words.node (words.at / 4 * 4) _ _ c.requires.named c.in_ok-thread.was even below (c.in_ok-name.ensures.site c.requires.named))

pub returns-clause-text : goal.returns-clause-text
returns-clause-text c =
    let words = c.args.words.now in
    rw c.verb-verb.ensures (access_text_is (words.end - words.at / 4) c.args.self.now words.writes words.node (words.at / 4) _ c.ready_width.result _ c.in_ok-thread.was (c.in_ok-name.ensures.site c.requires.named))

pub returns-clause-right : goal.returns-clause-right
returns-clause-right c =
    let words = c.args.words.now in
    let s = c.args.self.now in
    let some : 1 ≤ words.end - words.at / 4 = omega (arith, c.requires.some) in
    let few : words.end - words.at / 4 ≤ 5 = omega (arith, c.requires.few) in
    let width = rw (c.verb-verb.ensures, c.get.ensures, c.site_name-site.ensures) at c.ready_width.ensures in
    rw c.verb-verb.ensures (lines_right s words.writes _ _ _ c.ready_width.result _ some few
    (λ i less.
    let below : words.at / 4 * 4 + 4 * i < 2 ^ 48 = omega (arith, less, c.requires.end) in
    let even : (words.at / 4 * 4 + 4 * i) % 4 ≡ 0 = omega arith in
    access_right s words.writes words.node (words.at / 4 * 4 + 4 * i) _ _ c.requires.named c.in_ok-thread.was even below (c.in_ok-name.ensures.site c.requires.named))
    width (named_site s c.requires.named _ c.in_ok-name.ensures.within))

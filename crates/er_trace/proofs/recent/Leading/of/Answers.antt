use Rattle.std.proofs.Common.{◌≡◌, ◌<◌, take, arith, rules}
use Rattle.er_trace.specs.Inner.Recent.{unpacked}
use Rattle.er_trace.proofs.LeadingLemmas.{led_again}
use Rattle.er_trace.proofs.recent.Leading.of.Goals as goal

pub returns : goal.returns
returns c names led bytes block long back fits =
    let old = c.args.bytes.now in
    let few : c.args.len < 8 = omega (arith, c.if-len-ge8.false) in
    let front : unpacked 8 c.packed_eight.result ≡ take 8 old = search rules in
    led_again names old bytes c.packed_eight.result block c.args.number c.args.len few front back fits led

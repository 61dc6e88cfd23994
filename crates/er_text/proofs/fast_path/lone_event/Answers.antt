use Rattle.std.proofs.Common.{◌∙◌, sym}
use Rattle.std.proofs.lemmas.Slice.Eq.{bytes_eq-Decides}
use Rattle.er_text.proofs.FastPathLaws.{level_alone, show_alone, on_alone, off_alone}
use Rattle.er_text.proofs.fast_path.lone_event.Goals as goal

pub returns-then-eq : goal.returns-then-eq
returns-then-eq c = on_alone c.args.version c.args.bytes.now ((bytes_eq-Decides c.args.bytes.now c.as_slice.result.now).0 (sym c.if-eq.ensures) ∙ c.as_slice.ensures)

pub returns-then-eq-2 : goal.returns-then-eq-2
returns-then-eq-2 c = off_alone c.args.version c.args.bytes.now ((bytes_eq-Decides c.args.bytes.now c.as_slice-2.result.now).0 (sym c.if-eq-2.ensures) ∙ c.as_slice-2.ensures)

pub returns-in_default-empty : goal.returns-in_default-empty
returns-in_default-empty c =
    let led = c.in_ok-address-in-Show-default in
    rw c.new.ensures (show_alone c.args.version c.args.bytes.now c.in_ok-rest.field-0.1.now led.field-0.0 led.field-0.1.now (rw c.in-Show-default.is-0 at c.in_ok-rest.ensures) led.ensures c.in_default-empty.len_below)

pub returns-in_ok-whole_level-in-Level-default : goal.returns-in_ok-whole_level-in-Level-default
returns-in_ok-whole_level-in-Level-default c =
    level_alone c.args.version c.args.bytes.now c.in_ok-rest.field-0.1.now c.in_ok-whole_level-in-Level-default.field-0 (rw c.in-Level-default.is-0 at c.in_ok-rest.ensures) (sym c.if-has_levels.ensures) c.in_ok-whole_level-in-Level-default.ensures

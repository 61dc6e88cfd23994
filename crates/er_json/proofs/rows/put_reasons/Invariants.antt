use Rattle.std.proofs.Common.{◌≡◌, ◌++◌, take}
use Rattle.er_json.specs.Inner.Sections.{reason_in}
use Rattle.er_print.specs.Values.{values_text}
use Rattle.er_json.proofs.rows.put_reasons.Given as goal

abbrev pub invariant-loop-place : goal.invariant-loop-place
invariant-loop-place l = l.out.items ≡ l.fn.out.items ++ values_text (reason_in l.form l.legend.names.now l.legend.places.now) (take l.place l.reasons)

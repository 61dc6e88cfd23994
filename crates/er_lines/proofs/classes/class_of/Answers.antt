-- By the table.
use Rattle.std.proofs.Common.{arith}
use Rattle.er_lines.proofs.ClassLemmas.{value_right, name_right}
use Rattle.er_lines.proofs.classes.class_of.Goals as goal

pub returns-clause-digit : goal.returns-clause-digit
returns-clause-digit c low = omega (arith, low, value_right c.args.byte c.ranges.byte.fits)

pub returns-clause-value : goal.returns-clause-value
returns-clause-value c = value_right c.args.byte c.ranges.byte.fits

pub returns-clause-name : goal.returns-clause-name
returns-clause-name c = name_right c.args.byte c.ranges.byte.fits

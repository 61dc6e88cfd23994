use Rattle.std.proofs.Common.{length}
use Rattle.er_exit.proofs.plain.+put_fitting.Given as goal

abbrev pub decreases-put_fitting : goal.decreases-put_fitting
decreases-put_fitting l = length l.bytes.now

use Rattle.std.proofs.Common.{◌≡◌, ◌++◌, take}
use Rattle.er_print.specs.Styles.{lock_in}
use Rattle.er_print.specs.Values.{more_text}
use Rattle.er_print.proofs.styles.put_between.Given as goal

-- behind the first lock stand those so far
abbrev pub invariant-loop-lock : goal.invariant-loop-lock
invariant-loop-lock l = l.out.items ≡ l.initial.out.items ++ more_text l.sign (lock_in l.style l.names) (take l.lock-index l.rest)

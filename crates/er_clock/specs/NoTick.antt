-- Why a clock doesn't tick, in words.
use Rattle.std.specs.Prelude.{ℕ, List, codes}
use Rattle.er_clock.specs.declared.clock.Limit.{Limit}
use Rattle.er_clock.specs.declared.clock.Limit.TheVariants.{Count, Threads, Clocks}
use Rattle.er_clock.specs.declared.clock.NoTick.{NoTick}
use Rattle.er_clock.specs.declared.clock.NoTick.TheVariants.{Beyond, OutOfMemory}

-- a limit in words
abbrev pub limit_text : Limit → List ℕ
limit_text Count = codes "count full"
limit_text Threads = codes "too many threads"
limit_text Clocks = codes "clocks too large"

-- why a clock does not tick, as it is displayed
abbrev pub text_of : NoTick → List ℕ
text_of (Beyond limit) = limit_text limit
text_of OutOfMemory = codes "out of memory"

-- A range is what its first word and the number of words behind it say.
use Rattle.std.proofs.Common.{◌≡◌, ◌+◌, ◌-◌, ◌*◌, ◌/◌, ◌%◌, ℕ, arith}
use Rattle.er_event.specs.Span.{part_of}
use Rattle.er_event.specs.declared.addresses.PageRange.{PageRange}
use Rattle.er_event.specs.declared.steps.Event.TheVariants.{Reuse}
use Rattle.er_event.proofs.SpanLemmas.{same_range}
use Rattle.er_journal.specs.Inner.KeptCalls.{reuse_number, run_of}

pub range-kept : (range : PageRange) → part_of (record { first = range.lo; last = range.lo + (range.hi - range.lo) }) 0 ≡ range
unfolding part_of
range-kept range = same_range _ range (omega (arith, range.ordered)) (omega (arith, range.ordered, range.one_page))

pub range-given : (range : PageRange) (lo more : ℕ) → range.lo ≡ lo → range.hi ≡ lo + more → range ≡ part_of (record { first = lo; last = lo + more }) 0
unfolding part_of
range-given range lo more first last = same_range range _ (omega (arith, first)) (omega (arith, first, last, range.one_page))

pub reuse-parts : (r s : PageRange) → Reuse r ≡ Reuse s → r ≡ s
reuse-parts r s same = cc

-- a reuse keeps its range as one number in three parts
pub reset-kept : (range : PageRange) (n high middle low : ℕ) → n ≡ range.lo * 1024 + (range.hi - range.lo) →
    high ≡ n / 281474976710656 → middle ≡ n / 4294967296 % 65536 → low ≡ n % 4294967296 →
    run_of (reuse_number high middle low / 1024) (reuse_number high middle low % 1024) ≡ range
reset-kept range n high middle low whole is-high is-middle is-low =
    let ordered = range.ordered in
    let page = range.one_page in
    let first : reuse_number high middle low / 1024 ≡ range.lo = omega arith in
    let more : reuse_number high middle low % 1024 ≡ range.hi - range.lo = omega arith in
    rw (first, more) (range-kept range)

pub reset-given : (range : PageRange) (n : ℕ) → range ≡ run_of (n / 1024) (n % 1024) → Reuse range ≡ Reuse (run_of (n / 1024) (n % 1024))
reset-given range n is = cc

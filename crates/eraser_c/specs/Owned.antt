-- What a handle owns: what a `Box<Kept>` owns, or nothing.
use base.Fml.{Fml, ftrue}
use base.Stored.{Coded}
use denote.RawPtr.{Ptr}
use Rattle.std.specs.Box.Ownership.{box_owns}
use Rattle.std.specs.Coded.{coded_option}
use Rattle.std.specs.Global.{Global}
use Rattle.std.specs.Prelude.{Option, Some, None}
use Rattle.std_heap.specs.contracts.GlobalAllocator.TheImpl.{ghosts}
use Rattle.eraser_c.specs.contracts.kept.Kept.{the_row}

-- what contracts see of what a handle leads to
abbrev pub Value : Type 0
Value = the_row.Denot

-- the memory behind the pointer
abbrev pub owns_kept : Global → Ptr → Option Value → Fml
owns_kept alloc at None = ftrue
owns_kept alloc at (Some value) = box_owns (ghosts.dealloc_token alloc) the_row at value

-- how a contract stores it
abbrev pub kept_coded : Coded (Option Value)
kept_coded = coded_option the_row.coded

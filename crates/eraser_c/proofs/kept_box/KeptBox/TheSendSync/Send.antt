-- A box of what a handle leads to may go to another thread, since what it leads to may.
use mir.Raw.{raw}
use base.Shift.{Keyless}
use denote.Memory.{lone}
use denote.RawPtr.{Ptr}
use denote.Struct.Struct.{exits_of}
use denote.Struct.Owning.{shape, fields, to}
use denote.Param.Send.{IsSend, AllSend, owning_send, struct_send, sendable}
use Rattle.std.specs.Prelude.{Option, Some, None}
use Rattle.std.specs.Global.{Global}
use Rattle.std.proofs.Crossing as heap
use Rattle.std_alloc.proofs.SendSync.{quiet, lies}
use Rattle.std_heap.proofs.Global.TheSendSync as handle
use Rattle.eraser_c.specs.Owned.{owns_kept}
use Rattle.eraser_c.specs.contracts.kept.Kept as Home
use Rattle.eraser_c.proofs.kept.Kept.TheSendSync.{the_send as home}
use Rattle.eraser_c.specs.contracts.kept_box.KeptBox.{the_row, the_type}

keyless : (a : Global) (p : Ptr) (o : Option Home.the_row.Denot) → Keyless (owns_kept a p o)
keyless a p None = tt
keyless a p (Some x) = (lies Home.the_row home p x, heap.frees.frees a (raw (lone Home.the_row.mir)) p)

pub send : IsSend the_row
send =
    let all : AllSend (fields the_type) = (search sendable, (handle.the_field_send, tt)) in
    owning_send the_type all (λ d. keyless d.alloc d.at d.kept)
    (λ k. quiet (to the_type) (exits_of k (fields the_type)) ((struct_send (shape the_type) all).leaving k))

-- What a handle leads to, as the walks of a box speak of it.
use mir.Syntax.{impl, tnil, dnil}
use mathlib.Core.List.{[]}
use denote.Signature.{Slot, plain}
use Rattle.std_alloc.proofs.BoxSteps.Form.{Bx}
use Rattle.std_heap.specs.contracts.Global as Heap
use Rattle.std_heap.specs.contracts.GlobalAllocator.TheImpl.{ghosts, dict}
use Rattle.std_heap.proofs.Global.TheLaws as heap
use Rattle.eraser_c.specs.contracts.kept.Kept as Home
use Rattle.eraser_c.proofs.kept.Kept.TheLaws as home
use Rattle.eraser_c.specs.contracts.kept_box.KeptBox as KeptBox
use Rattle.eraser_c.specs.contracts.raw.Raw as Raw

abbrev pub E : Bx
E = record { row = Home.the_row; laws = home.the_row_laws; al = record { row = Heap.the_row; laws = heap.the_row_laws; g = ghosts; d = dict; drops = impl [] tnil dnil } }

abbrev pub FromRaw : Slot 0
FromRaw = plain (λ _. Raw.the_row Home.the_row Heap.the_row ghosts)

abbrev pub FromKept : Slot 0
FromKept = plain (λ _. KeptBox.the_row)

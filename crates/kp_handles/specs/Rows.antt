-- What a handle owns (own rule).
use Rattle.std.specs.Prelude.{Option, Some, None}
use base.Fml.{Fml, ftrue}
use denote.RattleType.{RattleType}
use denote.RawPtr.{Ptr}
use mir.Syntax.{Ty}
use Rattle.kp_board.specs.Opening.{BoardId}
use Rattle.core.specs.contracts.marker.Brand as Brand
use Rattle.std_heap.specs.contracts.GlobalAllocator.TheImpl as heap
use Rattle.std_heap.specs.declared.Global.{Global}
use Rattle.std_alloc.specs.Box.Ownership.{box_owns}
use Rattle.kp_handles.specs.Objects.{ObjectView}
use Rattle.kp_handles.specs.contracts.object.Object as Object

abbrev pub the_heap : Global
the_heap = record { memory = record { seal = tt } }

-- what the heap gives with a block, by which the block is freed
abbrev pub chunk : Ty → Ptr → Fml
chunk layout p = heap.ghosts.dealloc_token the_heap layout p

-- an object of a board at these words, whatever type names the board
abbrev pub object_row : RattleType → BoardId → RattleType
object_row R t = Object.the_row R (record { table = t })

abbrev pub object_owns : BoardId → Ptr → Option ObjectView → Fml
object_owns t p None = ftrue
object_owns t p (Some o) = box_owns chunk (object_row Brand.the_row t) p o

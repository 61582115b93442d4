-- What a handle owns says the same to every thread.
use base.Shift.{Keyless}
use denote.RawPtr.{Ptr}
use denote.Param.Send.{IsSend}
use Rattle.kp_board.specs.Opening.{BoardId}
use Rattle.core.specs.contracts.marker.Brand as Brand
use Rattle.std.proofs.Crossing.{frees}
use Rattle.std.specs.Prelude.{Option, None, Some}
use Rattle.std_alloc.proofs.SendSync.{lies}
use Rattle.kp_handles.proofs.object.Object.TheSendSync.{the_send}
use Rattle.kp_handles.specs.Objects.{ObjectView}
use Rattle.kp_handles.specs.Rows.{object_owns, object_row, the_heap}
use Rattle.kp_handles.specs.contracts.handle.Handle.{the_row}

owns_keyless : (t : BoardId) (p : Ptr) (x : Option ObjectView) → Keyless (object_owns t p x)
owns_keyless t p None = tt
owns_keyless t p (Some o) = (lies (object_row Brand.the_row t) (the_send Brand.the_row (record { table = t })) p o, frees.frees the_heap _ p)

pub send : IsSend the_row
send = record { owned = λ h vs. ((λ vss. (tt, (tt, ((tt, tt), tt)))), owns_keyless h.table h.at h.object); leaving = λ k d w. tt }

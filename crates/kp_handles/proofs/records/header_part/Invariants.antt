use Rattle.std.proofs.Common.{◌≡◌}
use Rattle.std.specs.Prelude.{slice_get}
use Rattle.kp_record.specs.Lent.{headers_left}
use Rattle.kp_handles.specs.Records.{parts_in_headers}
use Rattle.kp_handles.proofs.records.header_part.Given as goal

abbrev pub invariant-loop-header : goal.invariant-loop-header
invariant-loop-header l = slice_get (parts_in_headers (headers_left l.fn.headers)) l.part ≡ slice_get (parts_in_headers (headers_left l.header-iterator)) l.left

use Rattle.std.proofs.Common.{arith, length-take}
use Rattle.kp_cli.proofs.telling.show.Goals as goal

pub slice_bounds-show_bytes-end : goal.slice_bounds-show_bytes-end
slice_bounds-show_bytes-end c = omega (arith, length-take 1024 c.as_bytes-bytes.result.now)

pub show_bytes-shown-requires : goal.show_bytes-shown-requires
show_bytes-shown-requires c = omega (arith, length-take 1024 c.as_bytes-bytes.result.now)

use Rattle.std.proofs.Common.{◌≡◌, vec_len, length}
use Rattle.kp_race.proofs.race.nodes_of.Given as goal

abbrev pub invariant-loop-pass : goal.invariant-loop-pass
invariant-loop-pass g l = record { each : vec_len l.nodes ≡ length l.yielded; board : l.board ≡ l.initial.board }

use Rattle.std.proofs.Common.{◌≡◌, drop}
use Rattle.kp_insync.proofs.Least.{least_of_places}
use Rattle.kp_insync.proofs.positions.Positions.least_with.Given as goal

abbrev pub invariant-loop-place : goal.invariant-loop-place
invariant-loop-place l =
    least_of_places l.self-inside.ends l.own 0 l.members l.end
    ≡ least_of_places l.self-inside.ends l.own l.place (drop l.place l.members) l.least

-- How many workers stand where there are so many nodes.
use Rattle.std.proofs.Common.{rules, ℕ, ◌≡◌, ◌+◌, ◌<◌, ◌≤◌}
use Rattle.kp_cluster.specs.Places.{places}

-- one for each node, or fewer, leaves the controller's place, which is the last
pub fewer : (workers nodes : ℕ) → workers ≤ nodes → 0 < nodes → workers < places nodes
fewer workers nodes most some = search rules

-- one for each node, and the controller's
pub with_one : (workers nodes : ℕ) → workers ≡ nodes → 0 < nodes → workers + 1 ≡ places nodes
with_one workers nodes all some = search rules

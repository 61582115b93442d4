-- What is in range of a board's nodes is in range of the most nodes that there may be.
use Rattle.std.proofs.Common.{ℕ, ◌+◌, ◌≤◌, List, [], ◌∷◌, arith}
use Rattle.kp_model.specs.World.{LeaderAndIsr, most_nodes}
use Rattle.kp_model.specs.Step.{Rise, IsInRange}

wider : (low high high' : ℕ) (xs : List ℕ) → high ≤ high' → Rise low high xs → Rise low high' xs
wider low high high' [] h r = tt
wider low high high' (x ∷ xs) h r = (r.0, (let a = r.1 in omega arith), wider (x + 1) high high' xs h r.2)

-- what is in range of fewer nodes is in range of all
pub in_seven : (n : ℕ) (r : LeaderAndIsr) → n ≤ 7 → IsInRange n r → IsInRange most_nodes r
in_seven n r small range = record {
  leader = λ l e. ((let a = (range.leader l e).0 in omega arith), (range.leader l e).1);
  isr = wider 0 n 7 r.isr small range.isr;
  version = range.version;
}

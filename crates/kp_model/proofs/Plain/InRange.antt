-- A record of the code names nodes that there may be, its set in rising order.
use Rattle.std.proofs.Common.{◌≡◌, ℕ, ◌+◌, ◌^◌, ◌<◌, ◌≤◌, Bool, true, false, List, [], ◌∷◌, length, Option, Some, None, refl, ap, subst, arith}
use Rattle.std.specs.Option.{option_map, ForSome}
use Rattle.kp_model.specs.World.{Leader, most_nodes}
use Rattle.kp_model.specs.Controller.{greatest_epoch}
use Rattle.kp_model.specs.Step.{Rise, IsInRange}
use Rattle.kp_model.specs.declared.record.Leader.{Leader as CodeLeader}
use Rattle.kp_model.specs.declared.record.LeaderAndIsr.{LeaderAndIsr as CodeRecord}
use Rattle.kp_model.specs.Set.{numbers_of, leader_of, record_of}

-- the numbers of places rise
pub rise_of : (first : ℕ) (places : List Bool) → Rise first (first + length places) (numbers_of first places)
rise_of first [] = tt
rise_of first (true ∷ bs) =
    let top : first + 1 + length bs ≡ first + length (true ∷ bs) = omega arith in
    (omega arith, omega arith, subst (λ (z : ℕ). Rise (first + 1) z (numbers_of (first + 1) bs)) top (rise_of (first + 1) bs))
rise_of first (false ∷ bs) =
    let top : first + 1 + length bs ≡ first + length (false ∷ bs) = omega arith in
    from_below first (first + length (false ∷ bs)) (numbers_of (first + 1) bs) (subst (λ (z : ℕ). Rise (first + 1) z (numbers_of (first + 1) bs)) top (rise_of (first + 1) bs))
  where
    from_below : (low high : ℕ) (xs : List ℕ) → Rise (low + 1) high xs → Rise low high xs
    from_below low high [] h = tt
    from_below low high (x ∷ xs) h = (omega (arith, h.0), h.1, h.2)

code_leader : (o : Option CodeLeader) → ForSome o (λ l. l.epoch + 1 < 2 ^ 24) → ForSome o (λ l. l.node < 7) → (l : Leader) → option_map leader_of o ≡ Some l → (l.node < most_nodes) × (l.epoch ≤ greatest_epoch)
code_leader None low small l e = absurd cc
code_leader (Some k) low small l e =
    let same : leader_of k ≡ l = cc in
    let node : k.node ≡ l.node = ap (λ (m : Leader). m.node) same in
    let epoch : k.epoch ≡ l.epoch = ap (λ (m : Leader). m.epoch) same in
    ((let s : k.node < 7 = small k refl in omega arith), let a : k.epoch + 1 < 2 ^ 24 = low k refl in omega arith)

pub code_in_range : (r : CodeRecord) → length r.isr.members ≡ 7 → ForSome r.leader (λ l. l.epoch + 1 < 2 ^ 24) → ForSome r.leader (λ l. l.node < 7) → r.version < 2 ^ 28 → IsInRange most_nodes (record_of r)
code_in_range r seven low small version = record {
  leader = code_leader r.leader low small;
  isr = subst (λ (z : ℕ). Rise 0 z (numbers_of 0 r.isr.members)) (let e : 0 + length r.isr.members ≡ most_nodes = omega (arith, seven) in e) (rise_of 0 r.isr.members);
  version = omega arith;
}

use Rattle.std.proofs.Common.{ℕ, List, rules, sym, subst}
use Rattle.std.specs.List.Sorted.{IsPartitionedBy}
use Rattle.std.proofs.lemmas.List.Sorted.{IsPartitionPoint-from_clause}
use Rattle.kp_visible.specs.Searched.{ArePartedAt}
use Rattle.kp_visible.proofs.Keys.{is_less, keys_part}
use Rattle.kp_visible.proofs.by_producer.ByProducer.before.Goals as goal

pub returns : goal.returns
returns c =
    let keys = c.args.self.now.keys.items in
    let other : ℕ × ℕ = c.args.key in
    let parts = subst (IsPartitionedBy (λ (key : ℕ × ℕ). is_less key other)) (sym c.deref.ensures.value) (keys_part keys other c.args.self.now.rising) in
    let point = IsPartitionPoint-from_clause (λ (key : ℕ × ℕ). is_less key other) c.deref.result.now _ c.partition_point.ensures.partitioned parts (λ a r q k. search rules) in
    subst (λ (l : List (ℕ × ℕ)). ArePartedAt other l c.partition_point.result) c.deref.ensures.value (c.partition_point.ensures.bound, point)

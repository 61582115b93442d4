use Rattle.std.proofs.Common.{◌≡◌, ◌++◌, map, string_bytes}
use Rattle.std.specs.List.{flat_map}
use Rattle.std.specs.Map.Iter.{deref_pair}
use Rattle.std.specs.Vec.Iter.{into_iter_items}
use Rattle.kp_inspect.specs.Dump.{producer_line}
use Rattle.kp_inspect.proofs.text.push_producers.Given as goal

abbrev pub invariant-loop-producer : goal.invariant-loop-producer
invariant-loop-producer l =
    string_bytes l.text ++ flat_map producer_line (map deref_pair (into_iter_items l.producer-iterator)) ≡ string_bytes l.fn.text ++ flat_map producer_line l.fn.producers

-- The nodes' logs at the end of a script's run.
use Rattle.std.proofs.Common.{◌≡◌, ◌∙◌, ◌<◌, List, length, map, sym, ap, arith}
use Rattle.std.specs.Prelude.{slice_index_or}
use Rattle.std.specs.List.{range_with_len}
use Rattle.std.proofs.lemmas.List.{get_or-map, length-map, same_lists}
use Rattle.std.proofs.lemmas.List.FromFn.{get_or-map-range_with_len, length-map-range_with_len}
use Rattle.kp_types.specs.declared.limits.Limits.{Limits}
use Rattle.kp_log.specs.Partition.{Partition}
use Rattle.kp_model.specs.World.{Node, World, fresh}
use Rattle.kp_replica.specs.NumberedNode.{NumberedNode}
use Rattle.kp_world.specs.Shown.{IsShown, Stage, log_of}
use Rattle.kp_script.specs.Call.{Header}
use Rattle.kp_script.specs.Ended.{limits_in}

-- some member, whose log is as much as any
some_node : Partition → NumberedNode
some_node p = record { number = 0; limits = p.limits; state = fresh }

-- a node's log, cut by these limits and settled up to the node's watermark
abbrev pub node_log : Limits → Node → Partition
node_log limits x = record { limits = limits; log = x.log; settled = x.watermark }

-- the logs of the header's nodes in this world
abbrev pub logs_in : Header → World → List Partition
logs_in header w = map (λ n. node_log (limits_in header) (w.nodes n)) (range_with_len 0 header.count)

-- what a stage shows of a world has the logs of the world's nodes
pub shown_logs : (header : Header) (stage : Stage) (w : World) → IsShown (limits_in header) stage w → length stage.nodes ≡ header.count → map log_of stage.nodes ≡ logs_in header w
shown_logs header stage w shown count =
    let all = stage.nodes in
    same_lists (map log_of all) (logs_in header w) (length-map all log_of ∙ count ∙ sym (length-map-range_with_len (λ n. node_log (limits_in header) (w.nodes n)) 0 header.count))
    (λ n d inside.
    let within : n < length all = omega (arith, inside, length-map all log_of) in
    let m : NumberedNode = slice_index_or all n (some_node d) in
    let node = shown.nodes_are n (some_node d) within in
    get_or-map log_of all n (some_node d) d within ∙ ap (λ (limits : Limits). node_log limits m.state) node.limits_are
    ∙ ap (λ (x : Node). node_log (limits_in header) x) (sym node.state) ∙ sym (get_or-map-range_with_len (λ n. node_log (limits_in header) (w.nodes n)) 0 header.count n n d (omega (arith, within, count)) (omega arith)))

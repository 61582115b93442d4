use Rattle.std.proofs.Common.{◌∙◌, ap}
use Rattle.kp_log.specs.Partition.{Partition}
use Rattle.kp_model.specs.Epochs.{epoch_cache}
use Rattle.kp_model.specs.Log.{end_of}
use Rattle.kp_replica.specs.Broker.{node_at}
use Rattle.kp_texts.specs.Texts.{state_text}
use Rattle.kp_folder.proofs.KeptNodes.{starts_are}
use Rattle.kp_folder.proofs.writing.text_of_state.Goals as goal

pub returns : goal.returns
returns c =
    let x = (node_at c.args.node.now).state in
    let end = c.end_offset.ensures.value ∙ ap (λ (p : Partition). end_of p.log) c.log.ensures.value in
    let starts = starts_are c.in_ok-starts_in.field-0.items (epoch_cache x.log) (c.in_ok-starts_in.ensures ∙ ap (λ (p : Partition). epoch_cache p.log) c.log-2.ensures.value) in
    (rw c.new-text.ensures.items at c.in_ok-push_state.ensures.told)
    ∙ (λ i. state_text (record { checkpoint = c.checkpoint_offset.ensures i; life = c.life.ensures i; kept = c.kept_epoch.ensures i; end = end i; starts = starts i }))

use Rattle.std.proofs.Common.{◌≡◌, ℕ, ap, ◌∙◌}
use Rattle.std.specs.Prelude.{Option, Some}
use Rattle.std.specs.Option.{option_map}
use Rattle.kp_model.specs.Producers.{Producer, producer_in}
use Rattle.kp_model.specs.Transactions.{open_of}
use Rattle.kp_node.specs.Describes.{told_producer}
use Rattle.kp_node.specs.declared.describing.ProducerInLog.{ProducerInLog}
use Rattle.kp_node.proofs.describing.producer_in.Goals as goal

pub returns : goal.returns
returns c =
    let log = c.args.tables.now.log in
    let producer = c.args.producer in
    let kept = c.in_ok-kept.kept.now in
    let known : Some kept ≡ producer_in log producer = c.in_ok-kept.ensures ∙ c.producers.ensures.each producer in
    let opened : c.open_of-open_from.result ≡ open_of log producer = c.open_of-open_from.ensures log c.args.tables.now.settled c.transactions.ensures in
    ap (λ (p : ProducerInLog). Some p) (c.told.ensures ∙ ap (λ (o : Option ℕ). told_producer o kept) opened)
    ∙ ap (λ (p : Option Producer). option_map (told_producer (open_of log producer)) p) known

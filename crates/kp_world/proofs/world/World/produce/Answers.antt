use Rattle.std.proofs.Common.{◌≡◌, ◌<◌, [], ◌∷◌, length, map, set, sym, ap, ◌∙◌, subst, arith}
use Rattle.std.proofs.lemmas.List.{length-map}
use Rattle.kp_model.specs.Set.{record_of}
use Rattle.kp_model.specs.Event as model
use Rattle.kp_model.specs.Letter.{letter}
use Rattle.kp_replica.specs.Broker.{node_at}
use Rattle.kp_world.specs.Answers.{appended}
use Rattle.kp_world.specs.Plays.{LeadOn}
use Rattle.kp_world.specs.Shown.{Stage}
use Rattle.kp_world.proofs.Handed.{effect_of, handed, sends_none}
use Rattle.kp_world.proofs.Moved.{carried, placed}
use Rattle.kp_world.proofs.world.World.produce.Goals as goal

pub returns-clause-step : goal.returns-clause-step
returns-clause-step c = λ limits e told.
    let inside = c.self.inside in
    let brokers = inside.nodes.items in
    let letters = map letter inside.messages.items in
    let r = record_of inside.controller in
    let first = inside.first in
    let node = c.args.node in
    let i = c.from.result in
    let p = c.index_mut.result.now in
    let q = c.produce.new.self in
    let receipt = c.produce.result in
    let offer = told.1.0 in
    let old : Stage = record { controller = r; nodes = map node_at brokers; first = first; letters = letters } in
    let new : Stage = record { controller = r; nodes = map node_at (set brokers i q); first = first; letters = letters } in
    let event : e ≡ model.Acts node (model.Produce offer) = told.2 ∙ ap (λ (a : model.Act). model.Acts node a) told.1.2 in
    let counted : length (map node_at brokers) ≡ length c.args.self.now.nodes = ap (λ (stage : Stage). length stage.nodes) c.self.view_is in
    let within : node < length (map node_at brokers) = omega (arith, counted, c.requires) in
    let inner : i < length brokers = omega (arith, within, c.from.ensures, length-map brokers node_at) in
    subst (λ (stage : Stage). LeadOn limits stage (e ∷ []) (appended receipt ∷ []) new) c.self.view_is
    (subst (λ (d : model.Event). LeadOn limits old (d ∷ []) (appended receipt ∷ []) new) (sym event)
    (carried limits (model.Acts node (model.Produce offer)) i r brokers q first letters letters (effect_of receipt) (appended receipt) (sends_none letters receipt)
    (handed c.epochs_are_elected.ensures limits node i old (node_at p) (node_at q) c.args.bytes offer receipt c.from.ensures within (placed brokers i p c.index_mut.ensures.value inner)
    told.1.1 c.produce.ensures.receipt c.produce.ensures.spared c.produce.ensures.event)))

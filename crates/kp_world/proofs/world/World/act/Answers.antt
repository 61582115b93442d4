use Rattle.std.proofs.Common.{◌≡◌, ◌<◌, ◌+◌, ℕ, List, [], ◌∷◌, ◌++◌, length, map, set, sym, ap, ◌∙◌, subst, arith}
use Rattle.std.proofs.lemmas.List.{length-map}
use Rattle.kp_types.specs.declared.limits.Limits.{Limits}
use Rattle.kp_model.specs.Set.{record_of}
use Rattle.kp_model.specs.Event.{Acts}
use Rattle.kp_model.specs.Letter.{Letter, letter}
use Rattle.kp_replica.specs.Acts.{IsAct, letters_in}
use Rattle.kp_replica.specs.Broker.{node_at}
use Rattle.kp_replica.proofs.Acting.{receipt_stands}
use Rattle.kp_world.specs.Answers.{IsTold}
use Rattle.kp_world.specs.Plays.{LeadOn}
use Rattle.kp_world.specs.Shown.{Stage}
use Rattle.kp_world.proofs.Moved.{acted, carried, placed}
use Rattle.kp_world.proofs.world.World.act.Goals as goal

pub returns-clause-step : goal.returns-clause-step
returns-clause-step c = λ limits a is.
    let inside = c.self.inside in
    let brokers = inside.nodes.items in
    let bodies = inside.messages.items in
    let letters = map letter bodies in
    let r = record_of inside.controller in
    let first = inside.first in
    let i = c.from.result in
    let p = c.index_mut.result.now in
    let q = c.act-outcome.new.self in
    let outcome = c.act-outcome.result in
    let telling = c.carry_out.result in
    let old : Stage = record { controller = r; nodes = map node_at brokers; first = first; letters = letters } in
    let after = map letter c.carry_out.new.messages.items in
    let new : Stage = record { controller = r; nodes = map node_at (set brokers i q); first = first; letters = after } in
    let grown : after ≡ letters ++ letters_in outcome =
    c.carry_out.ensures.letters ∙ ap (λ (ls : List Letter). ls ++ letters_in outcome) (ap (map letter) c.room.ensures.items) in
    let many : c.in-Ok.next ≡ first + length letters = c.in-Ok.ensures.number ∙ ap (λ (n : ℕ). first + n) (sym (length-map bodies letter)) in
    let counted : length (map node_at brokers) ≡ length c.args.self.now.nodes = ap (λ (stage : Stage). length stage.nodes) c.self.view_is in
    let within : c.args.node < length (map node_at brokers) = omega (arith, counted, c.requires) in
    let inner : i < length brokers = omega (arith, within, c.from.ensures, length-map brokers node_at) in
    subst (λ (stage : Stage). LeadOn limits stage (Acts c.args.node a ∷ []) (telling ∷ []) new) c.self.view_is
    (carried limits (Acts c.args.node a) i r brokers q first letters after outcome telling grown
    (acted c.epochs_are_elected.ensures limits c.args.node i old (node_at p) (node_at q) a outcome telling c.from.ensures within (placed brokers i p c.index_mut.ensures.value inner)
    (c.acts_are_told.ensures.asked limits.max_batch c.args.act a is) (subst (λ (n : ℕ). IsTold n outcome telling) many c.carry_out.ensures.told)
    (receipt_stands c.args.act (node_at p) (node_at q) outcome c.act-outcome.ensures.fits)
    (λ same. c.act-outcome.ensures.spared a (subst (λ (l : Limits). IsAct l.max_batch c.args.act a) (sym same) is))
    (λ same. c.act-outcome.ensures.acts a (subst (λ (l : Limits). IsAct l.max_batch c.args.act a) (sym same) is))))

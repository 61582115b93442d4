use Rattle.std.proofs.Common.{◌≡◌, ◌<◌, ◌≤◌, ◌+◌, ◌-◌, ℕ, List, [], ◌∷◌, ◌++◌, length, map, set, get_or, Some, Err, sym, ap, ◌∙◌, subst, arith}
use Rattle.std.specs.Prelude.{slice_get, IfOk, OnOk}
use Rattle.std.proofs.lemmas.List.{get_or-map, length-map}
use Rattle.std.proofs.lemmas.Option.{slice_get_past, slice_get_read}
use Rattle.kp_types.specs.declared.refusal.Refusal.TheVariants as refusals
use Rattle.kp_model.specs.Set.{record_of}
use Rattle.kp_model.specs.Event.{Deliver}
use Rattle.kp_model.specs.Letter.{Letter, Proposing, Deciding, letter, proposal_of}
use Rattle.kp_model.specs.Step.{decision}
use Rattle.kp_model.specs.World.{Proposal}
use Rattle.kp_model.specs.declared.message.MessageBody.{MessageBody}
use Rattle.kp_replica.specs.Acts.{letters_in}
use Rattle.kp_replica.specs.Broker.{node_at}
use Rattle.kp_world.specs.Answers.{IsTold, TellsOf}
use Rattle.kp_world.specs.Plays.{LeadOn}
use Rattle.kp_world.specs.Shown.{Stage}
use Rattle.kp_world.proofs.Delivered.{decided_so, delivered, goes_nowhere, on_err, undelivered}
use Rattle.kp_world.proofs.Moved.{carried, placed}
use Rattle.kp_world.proofs.world.World.deliver.Goals as goal
use Rattle.kp_world.proofs.world.World.deliver.Goals.{In-Some}

-- the letter of this number, as the definitions read it
letter_there : (c : In-Some) → slice_get (map letter c.self.inside.messages.items) (c.args.number - c.self.inside.first) ≡ Some (letter c.in-Some.body.now)
letter_there c =
    let bodies = c.self.inside.messages.items in
    let body = c.in-Some.body.now in
    let number = c.args.number - c.self.inside.first in
    let same : c.deref.result.now ≡ bodies = c.deref.ensures.value ∙ c.room.ensures.items in
    let within : number < length bodies = subst (λ (bs : List MessageBody). number < length bs) same c.in-Some.ensures.lookup.3.0 in
    let there : body ≡ get_or bodies number body = c.in-Some.ensures.lookup.1 ∙ ap (λ (bs : List MessageBody). get_or bs number body) same in
    slice_get_read (map letter bodies) (length bodies) number (letter body) (sym (length-map bodies letter)) within
    (ap letter there ∙ sym (get_or-map letter bodies number body (letter body) within))

pub returns-in_default-clause-step : goal.returns-in_default-clause-step
returns-in_default-clause-step c = λ limits.
    let inside = c.self.inside in
    let bodies = inside.messages.items in
    let letters = map letter bodies in
    let old : Stage = record { controller = record_of inside.controller; nodes = map node_at inside.nodes.items; first = inside.first; letters = letters } in
    let same : c.deref.result.now ≡ bodies = c.deref.ensures.value ∙ c.room.ensures.items in
    let beyond : length bodies ≤ c.args.number - inside.first = subst (λ (bs : List MessageBody). length bs ≤ c.args.number - inside.first) same c.in_default.ensures.lookup.3 in
    let none = slice_get_past letters (c.args.number - inside.first) (omega (arith, length-map bodies letter, beyond)) in
    let after : map letter c.room.new.messages.items ≡ letters = ap (map letter) c.room.ensures.items in
    subst (λ (s : Stage). LeadOn limits s (Deliver c.args.number ∷ []) (Err refusals.StaleAnswer ∷ [])
    (record { controller = record_of inside.controller; nodes = map node_at inside.nodes.items; first = inside.first; letters = map letter c.room.new.messages.items })) c.self.view_is
    (subst (λ (ls : List Letter). LeadOn limits old (Deliver c.args.number ∷ []) (Err refusals.StaleAnswer ∷ [])
    (record { controller = record_of inside.controller; nodes = map node_at inside.nodes.items; first = inside.first; letters = ls })) (sym after)
    (undelivered limits c.args.number old (subst (λ (s : Stage). s.first ≤ c.args.number) (sym c.self.view_is) c.requires) none))

pub returns-then-node-len-clause-step : goal.returns-then-node-len-clause-step
returns-then-node-len-clause-step c = λ limits.
    let inside = c.self.inside in
    let old : Stage = record { controller = record_of inside.controller; nodes = map node_at inside.nodes.items; first = inside.first; letters = map letter inside.messages.items } in
    let new : Stage = record { controller = record_of inside.controller; nodes = map node_at inside.nodes.items; first = inside.first; letters = map letter c.room.new.messages.items } in
    subst (λ (s : Stage). LeadOn limits s (Deliver c.args.number ∷ []) (Err refusals.StaleAnswer ∷ []) new) c.self.view_is
    (goes_nowhere c.messages_go_to_nodes.ensures c.runs_keep_count.ensures limits c.args.number c.in-Some-addressee.node (letter c.in-Some.body.now) old new (Err refusals.StaleAnswer) (subst (λ (s : Stage). s.first ≤ c.args.number) (sym c.self.view_is) c.requires)
    (letter_there ((goal.at.returns-then-node-len-clause-step c).In-Some)) (sym c.addressee.ensures ∙ c.in-Some-addressee.is)
    (omega (arith, length-map inside.nodes.items node_at, c.from-node.ensures, c.len.ensures)))

pub returns-clause-step : goal.returns-clause-step
returns-clause-step c = λ limits.
    let inside = c.self.inside in
    let brokers = inside.nodes.items in
    let bodies = inside.messages.items in
    let letters = map letter bodies in
    let r = record_of inside.controller in
    let first = inside.first in
    let i = c.from-node.result in
    let p = c.index_mut.result.now in
    let q = c.receive-outcome.new.self in
    let outcome = c.receive-outcome.result in
    let telling = c.carry_out.result in
    let old : Stage = record { controller = r; nodes = map node_at brokers; first = first; letters = letters } in
    let after = map letter c.carry_out.new.messages.items in
    let new : Stage = record { controller = r; nodes = map node_at (set brokers i q); first = first; letters = after } in
    let grown : after ≡ letters ++ letters_in outcome =
    c.carry_out.ensures.letters ∙ ap (λ (ls : List Letter). ls ++ letters_in outcome) (ap (map letter) c.room.ensures.items) in
    let many : c.in_ok-next.next ≡ first + length letters = c.in_ok-next.ensures.number ∙ ap (λ (n : ℕ). first + n) (sym (length-map bodies letter)) in
    let inner : i < length brokers = omega (arith, c.len.ensures) in
    let within : i < length (map node_at brokers) = omega (arith, inner, length-map brokers node_at) in
    subst (λ (stage : Stage). LeadOn limits stage (Deliver c.args.number ∷ []) (telling ∷ []) new) c.self.view_is
    (carried limits (Deliver c.args.number) i r brokers q first letters after outcome telling grown
    (delivered c.runs_keep_logs.ensures c.runs_keep_kin.ensures c.no_cut_below_the_watermark.ensures limits c.args.number (letter c.in-Some.body.now) i old (node_at p) (node_at q) outcome telling (subst (λ (s : Stage). s.first ≤ c.args.number) (sym c.self.view_is) c.requires)
    (letter_there ((goal.at.returns-clause-step c).In-Some)) (sym c.addressee.ensures ∙ c.in-Some-addressee.is ∙ ap Some (sym c.from-node.ensures)) within (placed brokers i p c.index_mut.ensures.value inner)
    (subst (λ (n : ℕ). IsTold n outcome telling) many c.carry_out.ensures.told) c.receive-outcome.ensures.spared c.receive-outcome.ensures.acts))

-- ---- a proposal

pub returns-in-Proposal-clause-step : goal.returns-in-Proposal-clause-step
returns-in-Proposal-clause-step c = λ limits.
    let inside = c.self.inside in
    let bodies = inside.messages.items in
    let letters = map letter bodies in
    let r = record_of inside.controller in
    let first = inside.first in
    let nodes = map node_at inside.nodes.items in
    let old : Stage = record { controller = r; nodes = nodes; first = first; letters = letters } in
    let result = c.decide.result in
    let made = record_of c.decide.new.controller in
    let after = map letter c.decide.new.messages.items in
    let p : Proposal = proposal_of c.in-Proposal.proposal in
    let there : slice_get letters (c.args.number - first) ≡ Some (Proposing p) =
    letter_there ((goal.at.returns-in-Proposal-clause-step c).In-Some) ∙ ap (λ (b : MessageBody). Some (letter b)) c.in-Proposal.is in
    let many : c.in_ok-next.next ≡ first + length letters = c.in_ok-next.ensures.number ∙ ap (λ (n : ℕ). first + n) (sym (length-map bodies letter)) in
    subst (λ (stage : Stage). LeadOn limits stage (Deliver c.args.number ∷ []) (result ∷ []) (record { controller = made; nodes = nodes; first = first; letters = after })) c.self.view_is
    (decided_so limits c.args.number p old made after result (subst (λ (s : Stage). s.first ≤ c.args.number) (sym c.self.view_is) c.requires) there c.decide.ensures.refused
    (subst (λ (n : ℕ). IfOk result (TellsOf n (Deciding (decision r p)))) many c.decide.ensures.told) c.decide.ensures.record
    (subst (λ (bs : List MessageBody). OnOk result (after ≡ map letter bs ++ Deciding (decision r p) ∷ [])) c.room.ensures.items c.decide.ensures.letters)
    (on_err (ap record_of) result c.decide.ensures.stays) (on_err (λ same. ap (map letter) (same ∙ c.room.ensures.items)) result c.decide.ensures.same))

use Rattle.std.proofs.Common.{◌≡◌, true, false, ℕ, List, Option, Some, None, refl, ap, subst, sym, rules}
use Rattle.std.specs.Option.{option_map}
use Rattle.kp_model.specs.Log.{end_of}
use Rattle.kp_model.specs.World.{Leads, Follows}
use Rattle.kp_model.specs.Event.{Adopt, NowLeads, NowFollows}
use Rattle.kp_model.specs.Effect.{is_down}
use Rattle.kp_model.specs.Adopting.{is_news}
use Rattle.kp_model.specs.Set.{record_of, leader_of}
use Rattle.kp_replica.specs.NumberedNode.{NumberedNode, DoesUnder}
use Rattle.kp_replica.specs.Kept.{node_of}
use Rattle.kp_replica.proofs.Calls.{stale, adopted_leads, adopted_follows}
use Rattle.kp_replica.proofs.Ups.{is_up}
use Rattle.kp_replica.proofs.replica.Replica.adopt.Goals as goal

pub returns-in_default-clause-event : goal.returns-in_default-clause-event
returns-in_default-clause-event c = λ within.
    let r = record_of c.args.controller.now in
    let m = c.args.self.now in
    let up = subst (λ (x : NumberedNode). is_down x.state.mode ≡ false) c.self.view_is (is_up c.self.inside.mode) in
    (stale r m.number m.state up c.in_default.ensures, (refl, refl))

pub returns-then-node-self-clause-event : goal.returns-then-node-self-clause-event
returns-then-node-self-clause-event c = λ within.
    let r = record_of c.args.controller.now in
    let m = node_of c.self.inside in
    let l = leader_of c.in-Some.leader in
    let news = subst (λ (x : NumberedNode). is_news r x.number x.state ≡ true) (sym c.self.view_is) c.in-Some.ensures.0 in
    let done = adopted_leads r m.number m.state l (ap (option_map leader_of) c.in-Some.ensures.1) (is_up c.self.inside.mode) news c.if-node-self.true in
    let P : NumberedNode → ℕ → List (Option ℕ) → Type 0 =
    λ x s rs. DoesUnder r x (record m { state = record m.state { kept = Some l.epoch; mode = Leads (record { epoch = l.epoch; isr = r.isr; version = r.version; pending = None; start = s; reported = rs }) } }) Adopt (NowLeads l.epoch s) in
    subst (λ (x : NumberedNode). P x c.end_offset-start.result c.new.result) c.self.view_is
    (subst (λ (s : ℕ). P m s c.new.result) (sym c.end_offset-start.ensures.value)
    (subst (λ (rs : List (Option ℕ)). P m (end_of m.state.log) rs) (sym c.new.ensures) (done, (refl, refl))))

pub returns-clause-event : goal.returns-clause-event
returns-clause-event c = λ within.
    let r = record_of c.args.controller.now in
    let m = node_of c.self.inside in
    let l = leader_of c.in-Some.leader in
    let news = subst (λ (x : NumberedNode). is_news r x.number x.state ≡ true) (sym c.self.view_is) c.in-Some.ensures.0 in
    let done = adopted_follows r m.number m.state l (ap (option_map leader_of) c.in-Some.ensures.1) (is_up c.self.inside.mode) news c.if-node-self.false in
    let P : NumberedNode → Type 0 =
    λ x. DoesUnder r x (record m { state = record m.state { kept = Some l.epoch; mode = Follows (record { leader = l.node; epoch = l.epoch }) } }) Adopt (NowFollows l.node l.epoch) in
    subst P c.self.view_is (done, (refl, refl))

pub returns-then-node-self-clause-adopted : goal.returns-then-node-self-clause-adopted
returns-then-node-self-clause-adopted c = search rules

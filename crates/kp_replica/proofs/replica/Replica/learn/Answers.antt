use Rattle.std.proofs.Common.{◌≡◌, true, false, ltb, None, Some, Err, refl, sym, ap, ◌∙◌, subst, arith}
use Rattle.std.proofs.lemmas.Bool.{le-ltb, lt-ltb}
use Rattle.kp_types.specs.declared.refusal.Refusal.TheVariants as refusals
use Rattle.kp_model.specs.Event.{Receive, Learned}
use Rattle.kp_model.specs.Letter.{decision_of}
use Rattle.kp_model.specs.Controller.{has_epoch}
use Rattle.kp_model.specs.Effect.{unless_leads}
use Rattle.kp_model.specs.InSync.{learn_cause}
use Rattle.kp_model.specs.World.{Decision, Mode, Leads, Decides}
use Rattle.kp_replica.specs.Kept.{node_of}
use Rattle.kp_replica.specs.Modes.{mode_of, leading_of}
use Rattle.kp_replica.specs.NumberedNode.{NumberedNode, Does}
use Rattle.kp_replica.proofs.AlteringFacts.{refused_exit, learn_cause_is, learn_refused, learns, with_decided}
use Rattle.kp_replica.proofs.Ups.{leads_not}
use Rattle.kp_replica.proofs.replica.Replica.learn.Goals as goal

pub returns-in_default : goal.returns-in_default
returns-in_default c =
    let m = c.args.self.now in
    let d : Decision = decision_of c.args.decision.now in
    let mode : mode_of c.self.inside.mode ≡ m.state.mode = ap (λ (x : NumberedNode). x.state.mode) c.self.view_is in
    let is : unless_leads m.state.mode (learn_cause d) ≡ Some refusals.NotLeader =
    subst (λ (k : Mode). unless_leads k (learn_cause d) ≡ Some refusals.NotLeader) mode (leads_not c.self.inside.mode (learn_cause d) c.in_default.not-Leads) in
    record {
      event = λ k. (learn_refused k m d refusals.NotLeader is, (refl, refl));
      refused = refused_exit (unless_leads m.state.mode (learn_cause d)) refusals.NotLeader (Err refusals.NotLeader) is refl;
      spared = λ e. absurd cc;
      same = refl;
      node = (refl, refl);
    }

pub returns-then-not-has_epoch-clause-event : goal.returns-then-not-has_epoch-clause-event
returns-then-not-has_epoch-clause-event c = λ k.
    let m = c.args.self.now in
    let d : Decision = decision_of c.args.decision.now in
    let l = leading_of c.in-Leads.leading in
    let leads : m.state.mode ≡ Leads l = ap (λ (x : NumberedNode). x.state.mode) (sym c.self.view_is) ∙ ap mode_of c.in-Leads.is in
    let other : has_epoch d.decided (Some l.epoch) ≡ false = sym c.has_epoch.ensures ∙ c.if-not-has_epoch.true in
    (learn_refused k m d refusals.StaleRecord (learn_cause_is d l m.state.mode false (ltb l.version d.decided.version) leads other refl), (refl, refl))

pub returns-then-version-leading-clause-event : goal.returns-then-version-leading-clause-event
returns-then-version-leading-clause-event c = λ k.
    let m = c.args.self.now in
    let d : Decision = decision_of c.args.decision.now in
    let l = leading_of c.in-Leads.leading in
    let leads : m.state.mode ≡ Leads l = ap (λ (x : NumberedNode). x.state.mode) (sym c.self.view_is) ∙ ap mode_of c.in-Leads.is in
    let same : has_epoch d.decided (Some l.epoch) ≡ true = sym c.has_epoch.ensures ∙ c.if-not-has_epoch.false in
    let old : ltb l.version d.decided.version ≡ false = le-ltb l.version d.decided.version c.if-version-leading.true in
    (learn_refused k m d refusals.StaleAnswer (learn_cause_is d l m.state.mode true false leads same old), (refl, refl))

pub returns-clause-event : goal.returns-clause-event
returns-clause-event c =
    let m = node_of c.self.inside in
    let d : Decision = decision_of c.args.decision.now in
    let l = leading_of c.in-Leads.leading in
    let same : has_epoch d.decided (Some l.epoch) ≡ true = sym c.has_epoch.ensures ∙ c.if-not-has_epoch.false in
    let newer : ltb l.version d.decided.version ≡ true = lt-ltb l.version d.decided.version (omega (arith, c.if-version-leading.false)) in
    let free : learn_cause d l ≡ None = learn_cause_is d l (Leads l) true true refl same newer in
    subst (λ (x : NumberedNode). Does x (with_decided m l d.decided.isr d.decided.version) (Receive (Decides d)) (Learned d.decided.isr d.decided.version)) c.self.view_is
    (learns m l d (ap mode_of c.in-Leads.is) free)

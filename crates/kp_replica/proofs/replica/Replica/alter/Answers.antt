use Rattle.std.proofs.Common.{◌≡◌, ℕ, List, None, Some, Err, refl, sym, ap, ◌∙◌, subst}
use Rattle.kp_types.specs.declared.refusal.Refusal.TheVariants as refusals
use Rattle.kp_types.proofs.Causes.{only_none, only_cause}
use Rattle.kp_log.proofs.Refusing.{refused_as}
use Rattle.kp_model.specs.Event.{Refused}
use Rattle.kp_model.specs.Letter.{Proposing}
use Rattle.kp_model.specs.Effect.{unless_leads}
use Rattle.kp_model.specs.Local.{cause}
use Rattle.kp_model.specs.Set.{members_of, record_of}
use Rattle.kp_model.specs.World.{LeaderAndIsr, Mode, Leads}
use Rattle.kp_model.specs.declared.record.NodeSet.{NodeSet}
use Rattle.kp_replica.specs.Altering.{change_act, isr_cause}
use Rattle.kp_replica.specs.Kept.{node_of}
use Rattle.kp_replica.specs.Modes.{mode_of, leading_of}
use Rattle.kp_replica.specs.NumberedNode.{NumberedNode, Does}
use Rattle.kp_replica.specs.Sending.{DoesSending}
use Rattle.kp_replica.proofs.AlteringFacts.{cause_is, not_leading, refused_change, refused_exit, proposes, with_pending}
use Rattle.kp_replica.proofs.Ups.{leads_not}
use Rattle.kp_replica.proofs.replica.Replica.alter.Goals as goal

pub returns-in_default : goal.returns-in_default
returns-in_default c =
    let m = c.args.self.now in
    let change = c.args.change in
    let mode : mode_of c.self.inside.mode ≡ m.state.mode = ap (λ (x : NumberedNode). x.state.mode) c.self.view_is in
    let is : (k : LeaderAndIsr) → cause k m.number m.state (change_act change) ≡ Some refusals.NotLeader = λ k.
    not_leading k m.number m.state change (λ why. subst (λ (mode : Mode). unless_leads mode why ≡ Some refusals.NotLeader) mode (leads_not c.self.inside.mode why c.in_default.not-Leads)) in
    record {
      sent = tt;
      proposed = tt;
      event = refused_change m change refusals.NotLeader is;
      refused = λ k. refused_exit (cause k m.number m.state (change_act change)) refusals.NotLeader (Err refusals.NotLeader) (is k) refl;
      spared = λ e. absurd cc;
      same = refl;
      node = (refl, refl);
    }

pub returns-in_err-isr-clause-event : goal.returns-in_err-isr-clause-event
returns-in_err-isr-clause-event c =
    let m = c.args.self.now in
    let l = leading_of c.in-Leads.leading in
    let change = c.args.change in
    let leads : m.state.mode ≡ Leads l = ap (λ (x : NumberedNode). x.state.mode) (sym c.self.view_is) ∙ ap mode_of c.in-Leads.is in
    let r = c.in_err-isr.field-0.0 in
    let own = only_cause NodeSet (isr_cause m.number m.state.watermark l change) r c.in_err-isr.ensures.refused in
    let exit = c.from_residual in
    refused_as (λ f. Does m m (change_act change) (Refused f)) exit.result r exit.ensures.1
    (refused_change m change r (λ k. cause_is k m.number m.state l change leads ∙ own))

pub returns-clause-sent : goal.returns-clause-sent
returns-clause-sent c =
    let m = node_of c.self.inside in
    let l = leading_of c.in-Leads.leading in
    let change = c.args.change in
    let isr : List ℕ = members_of c.in_ok-isr.isr in
    let free : isr_cause m.number m.state.watermark l change ≡ None =
    ap (λ (x : NumberedNode). isr_cause x.number x.state.watermark l change) c.self.view_is
    ∙ only_none NodeSet (isr_cause c.args.self.now.number c.args.self.now.state.watermark l change) c.in_ok-isr.isr c.in_ok-isr.ensures.refused in
    let P : NumberedNode → LeaderAndIsr → Type 0 = λ x k.
    DoesSending x (with_pending m l isr) (change_act change) (Proposing (record { from = m.number; known = k; isr = isr })) in
    subst (λ (x : NumberedNode). P x (record_of c.known.result)) c.self.view_is
    (subst (λ (k : LeaderAndIsr). P m k) (sym c.known.ensures) (proposes m l change isr (ap mode_of c.in-Leads.is) free c.in_ok-isr.ensures.changed))

use Rattle.std.proofs.Common.{◌≡◌, arith, ℕ, List, Option, refl, ap, subst, sym, ◌∙◌}
use Rattle.kp_types.specs.declared.refusal.Refusal.TheVariants as refusals
use Rattle.kp_model.specs.Log.{Batch, IsBoundary, end_of}
use Rattle.kp_model.specs.World.{Mode, Leads}
use Rattle.kp_model.specs.Raising.{counted, raised, least_end}
use Rattle.kp_model.specs.declared.record.NodeSet.{NodeSet}
use Rattle.kp_insync.specs.Reports.{ends_over, members_in}
use Rattle.std.specs.Prelude.{max, unwrap_or}
use Rattle.kp_log.specs.Partition.{Partition}
use Rattle.kp_model.specs.Event.{Raise, Refused, MarkAt}
use Rattle.kp_replica.specs.NumberedNode.{NumberedNode, Does, HasEpochs, HasReports}
use Rattle.kp_replica.specs.Modes.{mode_of, leading_of}
use Rattle.kp_replica.specs.Kept.{node_of}
use Rattle.kp_replica.proofs.Calls.{raises}
use Rattle.kp_replica.proofs.Reports.{raised_boundary}
use Rattle.kp_replica.proofs.Ups.{leads_not}
use Rattle.kp_replica.proofs.replica.Replica.raise.Goals as goal
use Rattle.kp_model.proofs.OneStep.Steps.{was_refused}

pub returns-in_default : goal.returns-in_default
returns-in_default c =
    let m = node_of c.self.inside in
    subst (λ (x : NumberedNode). Does x x Raise (Refused refusals.NotLeader)) c.self.view_is
    (λ r. (was_refused r m.number m.state Raise refusals.NotLeader (leads_not c.self.inside.mode _ c.in_default.not-Leads), (refl, refl)))

pub invariant_of-self : goal.invariant_of-self
invariant_of-self c =
    let m = node_of c.self.inside in
    let l = leading_of c.in-Leads.leading in
    let mark = c.max-watermark.result in
    let same : m.state.log ≡ c.settle.new.log.log = ap (λ (p : Partition). p.log) (sym c.settle.ensures.same_log) in
    let reports : HasReports m.state.log (Leads l) = subst (λ (k : Mode). HasReports m.state.log k) (ap mode_of c.in-Leads.is) c.self.invariant.reports in
    let raised = raised_boundary m.state.log l m.state.watermark mark c.end_offset-end.result c.least_end-least.result c.self.invariant.boundary reports
    c.end_offset-end.ensures.value c.least_end-least.ensures.known
    (c.max-watermark.ensures ∙ ap (λ (o : ℕ). max m.state.watermark o) c.unwrap_or.ensures) in
    record {
      entries = c.settle.ensures.kept;
      epochs = subst (λ (log : List Batch). HasEpochs log m.state.mode) same c.self.invariant.epochs;
      reports = subst (λ (log : List Batch). HasReports log m.state.mode) same c.self.invariant.reports;
      recorded = c.self.invariant.recorded;
      boundary = subst (λ (log : List Batch). IsBoundary log mark) same raised.0;
      settled = c.settle.ensures.reached raised.0 (omega (arith, c.self.invariant.settled, raised.1));
      checkpoint = subst (λ (log : List Batch). IsBoundary log m.state.checkpoint) same c.self.invariant.checkpoint;
      passed = omega (arith, c.self.invariant.passed, raised.1);
    }

pub returns : goal.returns
returns c =
    let m = node_of c.self.inside in
    let l = leading_of c.in-Leads.leading in
    let mark = c.max-watermark.result in
    let over : List ℕ → ℕ → Option ℕ = λ set end. least_end (ends_over set m.number end l.reported) in
    let least : c.least_end-least.result ≡ over (counted l) (end_of m.state.log) =
    c.least_end-least.ensures.least ∙ ap (λ (o : Option NodeSet). over (members_in c.in-Leads.leading.isr o) c.end_offset-end.result) c.as_ref-pending.ensures.value
    ∙ ap (over (counted l)) c.end_offset-end.ensures.value in
    let is : raised m.number m.state l ≡ mark =
    sym (c.max-watermark.ensures
    ∙ ap (λ (o : ℕ). max m.state.watermark o) (c.unwrap_or.ensures ∙ ap (λ (o : Option ℕ). unwrap_or o 0) least)) in
    let P : NumberedNode → Partition → Type 0 =
    λ x p. Does x (record { number = m.number; limits = p.limits; state = record m.state { log = p.log; watermark = mark } }) Raise (MarkAt mark) in
    subst (λ (x : NumberedNode). P x c.settle.new.log) c.self.view_is
    (subst (λ (p : Partition). P m p) (sym c.settle.ensures.same_log)
    (λ r. (raises r m.number m.state l mark (ap mode_of c.in-Leads.is) is, (refl, refl))))

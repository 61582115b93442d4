-- What the record becomes, by what is told of it.
use Rattle.std.proofs.Common.{◌≡◌, ℕ, Option, Some, Result, Ok, Err, IfOk, IfErr, ap, subst, sym}
use Rattle.kp_types.specs.Causes.{IsRefusedOnlyBy}
use Rattle.kp_types.proofs.Causes.{only_cause, only_none}
use Rattle.kp_types.specs.declared.refusal.Refusal.{Refusal}
use Rattle.kp_model.specs.Controller.{elected}
use Rattle.kp_model.specs.Set.{record_of}
use Rattle.kp_model.specs.Letter.{decision_of, proposal_of}
use Rattle.kp_model.specs.Step.{decide_cause, decision, elect_cause}
use Rattle.kp_model.specs.World.{Decision, LeaderAndIsr as ModelRecord, Proposal as ModelProposal}
use Rattle.kp_model.specs.declared.message.Decision.{Decision as SaidDecision}
use Rattle.kp_model.specs.declared.message.Proposal.{Proposal as SaidProposal}
use Rattle.kp_model.specs.declared.record.LeaderAndIsr.{LeaderAndIsr}
use Rattle.kp_handles.specs.Again.{DecidesNext, IsProposal, NextDecided, NextElected}
use Rattle.kp_handles.specs.Objects.{ObjectView, is_open}
use Rattle.kp_handles.specs.declared.misuse.Misuse.{Misuse}
use Rattle.kp_handles.specs.declared.misuse.Misuse.TheVariants.{OtherKind}
use Rattle.kp_handles.specs.Outs.{leadership_out}
use Rattle.kp_handles.specs.declared.outs.LeadershipOut.{LeadershipOut}

module _ (known : LeadershipOut) (node : ℕ) (r : LeaderAndIsr) (is : known ≡ leadership_out r) where
  next_is : (next : LeaderAndIsr) → IsRefusedOnlyBy (elect_cause (record_of r) node) (Ok next) → record_of next ≡ elected (record_of r) node → NextElected known node (Ok (Ok next))
  next_is next free e = (r, is, only_none LeaderAndIsr (elect_cause (record_of r) node) next free, e)

  next_refused : (refusal : Refusal) → IsRefusedOnlyBy {A = LeaderAndIsr} (elect_cause (record_of r) node) (Err refusal) → NextElected known node (Ok (Err refusal))
  next_refused refusal cause = (r, is, only_cause LeaderAndIsr (elect_cause (record_of r) node) refusal cause)

  pub next_of : (answer : Result LeaderAndIsr Refusal) → IsRefusedOnlyBy (elect_cause (record_of r) node) answer → IfOk answer (λ next. record_of next ≡ elected (record_of r) node)
      → NextElected known node (Ok answer)
  next_of (Ok next) free e = next_is next free e
  next_of (Err refusal) cause e = next_refused refusal cause

module _ (c : ModelRecord) (p : ModelProposal) where
  pub decides_next : (made : SaidDecision) → IsRefusedOnlyBy (decide_cause c p) (Ok made) → decision_of made ≡ decision c p → DecidesNext c p (Ok made.decided)
  decides_next made free e = (only_none SaidDecision (decide_cause c p) made free, ap (λ (d : Decision). d.decided) e)

  pub decides_none : (refusal : Refusal) → IsRefusedOnlyBy {A = SaidDecision} (decide_cause c p) (Err refusal) → DecidesNext c p (Err refusal)
  decides_none refusal cause = only_cause SaidDecision (decide_cause c p) refusal cause

module _ (known : LeadershipOut) (old : Option ObjectView) where
  pub next_decided : (r : LeaderAndIsr) (o : ObjectView) (answer : Result (Result LeaderAndIsr Refusal) Misuse) → known ≡ leadership_out r → old ≡ Some o
      → IfOk answer (λ next. (p : SaidProposal) × IsProposal (Some o) p × DecidesNext (record_of r) (proposal_of p) next)
      → IfErr answer (λ why. (why ≡ OtherKind) × ((p : SaidProposal) → IsProposal (Some o) p → ⊥)) → NextDecided known old answer
  next_decided r o (Ok next) is e ok err = (r, ok.0, is, subst (λ (x : Option ObjectView). IsProposal x ok.0) (sym e) ok.1, ok.2)
  next_decided r o (Err why) is e ok err =
      subst (λ (w : Misuse). NextDecided known old (Err w)) (sym err.0) (ap is_open e, λ p h. err.1 p (subst (λ (x : Option ObjectView). IsProposal x p) e h))

-- What a caller's call of the board does to the caller's pass, which was `old` and is `new` then (own rule).
use Rattle.std.specs.Prelude.{◌≡◌, ◌⊎◌, ℕ, ◌<◌, ◌≤◌, Some, None, Result, IfOk, IfErr, OnErr}
use Rattle.kp_types.specs.declared.refusal.Refusal.{Refusal}
use Rattle.kp_types.specs.declared.refusal.Refusal.TheVariants.{StaleRecord}
use Rattle.kp_model.specs.Controller.{elected}
use Rattle.kp_model.specs.Letter.{letter, Proposing, Deciding}
use Rattle.kp_model.specs.Set.{record_of}
use Rattle.kp_model.specs.Step.{decide_cause, decision, elect_cause}
use Rattle.kp_model.specs.World.{LeaderAndIsr as ModelRecord, Proposal, Decision, Decides}
use Rattle.kp_model.specs.declared.record.LeaderAndIsr.{LeaderAndIsr}
use Rattle.kp_board.specs.Decisions.{IsUndecided, ShowsDecision, deciding}
use Rattle.kp_board.specs.Plays.{IsPassedBy, electing}
use Rattle.kp_board.specs.Posts.{Posted}
use Rattle.kp_board.specs.Rule.{ShowsLastRecord, ShowsElection}
use Rattle.kp_board.specs.Views.{CallerView}

-- One try to elect a node: one event of the run elected it under some record, which is not before the one that was shown; or the
-- record shown then forbids it, or another change came first.
pub record Elects (node : ℕ) (old new : CallerView) (result : Result LeaderAndIsr Refusal) : Type 0 where
  pub elected : IfOk result (λ r. (c : ModelRecord) × (old.shown.version ≤ c.version) × (elect_cause c node ≡ None)
      × (record_of r ≡ elected c node) × (new ≡ electing (record_of r) old) × ShowsElection node c new)
  pub refused : IfErr result (λ f. ((f ≡ StaleRecord) × IsPassedBy old.shown new.shown node) ⊎ (elect_cause new.shown node ≡ Some f))
  pub later : old.shown.version ≤ new.shown.version
  pub pass : OnErr result ((new ≡ record old { shown = new.shown }) × ShowsLastRecord new)

-- A look at the record, which is then the one shown: the last one of some run that has all that the pass shows.
pub record Looks (old new : CallerView) (result : LeaderAndIsr) : Type 0 where
  pub shown : new ≡ record old { shown = record_of result }
  pub later : old.shown.version ≤ (record_of result).version
  pub of_run : ShowsLastRecord new

-- The controller's decision on a message, which is a proposal: one event of the run, of which the answer tells; or it isn't decided on.
pub record DecidesOn (message : Posted) (old new : CallerView) (result : Result Posted Refusal) : Type 0 where
  pub decided : IfOk result (λ answer. (p : Proposal) × (c : ModelRecord) × (letter message.body ≡ Proposing p)
      × (answer.pass ≡ Decides (decision c p)) × (letter answer.body ≡ Deciding (decision c p)) × (decide_cause c p ≡ None)
      × (old.shown.version ≤ c.version) × (new ≡ deciding c p old) × ShowsDecision p c new)
  pub newer : IfOk result (λ answer. (d : Decision) × (letter answer.body ≡ Deciding d) × (d.proposal.known.version < d.decided.version))
  pub refused : IfErr result (IsUndecided (letter message.body) old new)
  pub pass : OnErr result (new ≡ record old { sent = new.sent; shown = new.shown })

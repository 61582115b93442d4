use Rattle.std.proofs.Common.{refl, ap, subst}
use Rattle.kp_types.specs.declared.refusal.Refusal.TheVariants as refusals
use Rattle.kp_model.specs.World.{Following}
use Rattle.kp_model.specs.Event.{Ask, Refused}
use Rattle.kp_model.specs.Letter.{Fetching, fetch_request}
use Rattle.kp_model.specs.declared.message.FetchRequest.{FetchRequest}
use Rattle.kp_replica.specs.Kept.{node_of}
use Rattle.kp_replica.specs.NumberedNode.{NumberedNode, Does}
use Rattle.kp_replica.specs.Modes.{mode_of}
use Rattle.kp_replica.specs.Sending.{DoesSending}
use Rattle.kp_replica.proofs.AskingFacts.{asks_leader, asks_not}
use Rattle.kp_replica.proofs.replica.Replica.ask.Goals as goal

pub returns-in_default : goal.returns-in_default
returns-in_default c = record {
  sent = tt;
  refused =
      let m = node_of c.self.inside in
      subst (λ (x : NumberedNode). Does x x Ask (Refused refusals.NotLeader)) c.self.view_is (asks_not m c.self.inside.mode refl c.in_default.not-Follows);
  only = refl;
}

pub returns-clause-sent : goal.returns-clause-sent
returns-clause-sent c =
    let m = node_of c.self.inside in
    let f = c.in-Follows.following in
    let follows : Following = record { leader = f.leader; epoch = f.epoch } in
    let request : FetchRequest =
    record { from = m.number; to = f.leader; life = m.state.life; epoch = f.epoch; offset = c.end_offset.result; last_epoch = c.last_epoch.result } in
    subst (λ (x : NumberedNode). DoesSending x x Ask (Fetching (fetch_request request))) c.self.view_is
    (asks_leader m follows c.end_offset.result c.last_epoch.result (ap mode_of c.in-Follows.is) c.end_offset.ensures.value c.last_epoch.ensures.value)

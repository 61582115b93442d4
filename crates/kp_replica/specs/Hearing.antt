-- What a follower makes of a leader's answer: of its batches, or of where the logs diverge.
use Rattle.std.specs.Prelude.{◌≡◌, ◌≢◌, ◌≤◌, IsFalse, Option, None, Result, Err, IfSome, OnOk}
use Rattle.std.specs.Result.{result_map_both}
use Rattle.kp_types.specs.declared.refusal.Refusal.{Refusal}
use Rattle.kp_types.specs.declared.refusal.Refusal.TheVariants.{Memory}
use Rattle.kp_model.specs.World.{LeaderAndIsr, Message, Answers}
use Rattle.kp_model.specs.Event.{Receive, Refused}
use Rattle.kp_model.specs.Effect.{becomes}
use Rattle.kp_model.specs.Fetching.{is_covered, cut_cause, cut_cause_for}
use Rattle.kp_model.specs.Laws.{place_of}
use Rattle.kp_model.specs.Letter.{Fetching}
use Rattle.kp_model.specs.Calls.{ForAnswer, ForLetter, cut}
use Rattle.kp_model.specs.declared.message.Answered.{Answered}
use Rattle.kp_model.specs.declared.message.Answered.TheVariants.{Batches, Diverging}
use Rattle.kp_model.specs.declared.message.EpochEnd.{EpochEnd}
use Rattle.kp_model.specs.declared.message.FetchRequest.{FetchRequest}
use Rattle.kp_model.specs.declared.message.Fetched.{Fetched}
use Rattle.kp_replica.specs.declared.act.Answer.{Answer}
use Rattle.kp_replica.specs.declared.act.Answer.TheVariants.{Took, Cut}
use Rattle.kp_replica.specs.declared.cutting.CutBack.{CutBack}
use Rattle.kp_replica.specs.declared.taking.Taken.{Taken}
use Rattle.kp_replica.specs.Cutting.{diverging, diverging_cause}
use Rattle.kp_replica.specs.NumberedNode.{NumberedNode, Does, DoesUnder}
use Rattle.kp_replica.specs.Replies.{cut_reply, taken_reply}
use Rattle.kp_replica.specs.Taking.{carrying, fetch_cause, taking, IsCutShort}

-- as in each world of a run, the node wouldn't cut below its watermark
abbrev pub CutsAbove : LeaderAndIsr → NumberedNode → Message → Type 0
CutsAbove c m (Answers a) =
    IsFalse (is_covered a.log a.request) → cut_cause c m.number m.state a ≡ None → m.state.watermark ≤ place_of m.state a
CutsAbove c m _ = Unit {0}

-- What the node did with these batches, which came for this request, whatever the controller's record was. What their letter
-- shows refuses them, of whatever logs; else it did what the definitions say of such an answer in a run.
pub record IsTaken (r : FetchRequest) (f : Fetched) (old new : NumberedNode) (result : Result Taken Refusal) : Type 0 where
  pub refused :
      IfSome (fetch_cause old.state r f) (λ refusal. (result ≡ Err refusal) × ForLetter (Fetching (carrying r f)) (λ m. Does old new (Receive m) (Refused refusal)))
  pub event : ForAnswer (carrying r f) old.state.log (λ m. Does old new (Receive m) (taken_reply result))
  pub done : OnOk result (becomes new.state (taken_reply result) ≡ taking old.state r f)

-- The same of a diverging answer, under the controller's record that it was shown. It takes no memory.
pub record IsCut (shown : LeaderAndIsr) (r : FetchRequest) (end : Option EpochEnd) (old new : NumberedNode) (result : Result CutBack Refusal) : Type 0 where
  pub refused :
      IfSome (cut_cause_for shown old.number old.state r.from r.life r.epoch r.offset r.last_epoch)
      (λ refusal. (result ≡ Err refusal) × ForLetter (Fetching (diverging r end)) (λ m. DoesUnder shown old new (Receive m) (Refused refusal)))
  pub event : ForAnswer (diverging r end) old.state.log (λ m. CutsAbove shown old m → DoesUnder shown old new (Receive m) (cut_reply result))
  pub done : OnOk result (becomes new.state (cut_reply result) ≡ cut shown old.number old.state (diverging r end))
  pub spared : result ≢ Err Memory

-- the two as one
abbrev pub IsHeard : (shown : LeaderAndIsr) → FetchRequest → Answered → NumberedNode → NumberedNode → Result Answer Refusal → Type 0
IsHeard shown r (Batches f) old new result = (taken : Result Taken Refusal) × (result ≡ result_map_both Took (λ refusal. refusal) taken) × IsTaken r f old new taken
IsHeard shown r (Diverging end) old new result = (cut : Result CutBack Refusal) × (result ≡ result_map_both Cut (λ refusal. refusal) cut) × IsCut shown r end old new cut

-- why the node, which is up, refuses the answer, also where it would cut as in no run
abbrev pub answer_cause : LeaderAndIsr → NumberedNode → FetchRequest → Answered → Option Refusal
answer_cause c m r (Batches f) = fetch_cause m.state r f
answer_cause c m r (Diverging end) = diverging_cause c m r end

-- for want of memory it took some of the batches alone, and is down
abbrev pub IsLeftShort : NumberedNode → NumberedNode → FetchRequest → Answered → Type 0
IsLeftShort old new r (Batches f) = IsCutShort old new r f
IsLeftShort old new r (Diverging end) = ⊥

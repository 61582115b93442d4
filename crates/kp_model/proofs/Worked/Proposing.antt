-- An in-sync change, step by step: a leader asks for it twice, counts both sets until it learns of it, and doesn't lead again in
-- the same epoch after a restart. It goes on from the short run. Each effect and each answer is what the definitions compute.
use Rattle.std.proofs.Common.{◌≡◌, ℕ, ◌<◌, List, [], ◌∷◌, Option, Some, None, refl, arith}
use Rattle.kp_types.specs.declared.refusal.Refusal.{Refusal}
use Rattle.kp_types.specs.declared.refusal.Refusal.TheVariants as refusals
use Rattle.kp_model.specs.World.{LeaderAndIsr, Mode, Idle, Down, Leads, Node, Proposal, Decision, Proposes, Decides, World, with_record, with_message, no_reports}
use Rattle.kp_model.specs.Event.{Act, Adopt, Receive, Raise, Join, Leave, Stop, Restart, Elect, Acts, Deliver, Refused, Changed, NowLeads, SentProposal, SentDecision, Learned, MarkAt, Stopped, Restarted}
use Rattle.kp_model.specs.Effect.{Effect, becomes, sends}
use Rattle.kp_model.specs.Local.{cause}
use Rattle.kp_model.specs.Step.{Step, NodeStep, moved, told, IsGiven}
use Rattle.kp_model.specs.Run.{held}
use Rattle.kp_model.proofs.OneStep.Steps.{was_refused}
use Rattle.kp_model.proofs.Worked.ExampleRun.{did, batch, w4}

abbrev did_not : (w : World) (n : ℕ) (act : Act) (refusal : Refusal) → n < w.count → IsGiven w.messages act → cause w.controller n (w.nodes n) act ≡ Some refusal
    → NodeStep w n act (told (Refused refusal)) (moved w n (becomes (w.nodes n) (Refused refusal)))
did_not w n act refusal counted given held =
    record {
      counted = counted;
      given = given;
      effect = becomes (w.nodes n) (Refused refusal);
      local = was_refused w.controller n (w.nodes n) act refusal held;
      outcome_is = refl;
      new_is = refl;
    }

abbrev both : List ℕ
both = 0 ∷ 1 ∷ []

abbrev alone : List ℕ
alone = 0 ∷ []

-- the record: node 0 leads in this epoch, with this set and version
abbrev by : ℕ → List ℕ → ℕ → LeaderAndIsr
by epoch isr version = record { leader = Some (record { node = 0; epoch = epoch }); isr = isr; version = version }

abbrev leads : ℕ → List ℕ → ℕ → Option (List ℕ) → ℕ → Mode
leads epoch isr version pending start =
    Leads (record { epoch = epoch; isr = isr; version = version; pending = pending; start = start; reported = no_reports })

abbrev node : ℕ → ℕ → ℕ → Mode → Node
node watermark life kept mode =
    record { log = batch ∷ []; watermark = watermark; checkpoint = 0; life = life; kept = Some kept; mode = mode }

abbrev asking : Proposal
asking = record { from = 0; known = by 0 both 1; isr = alone }

abbrev made : Decision
made = record { proposal = asking; decided = by 0 alone 2 }

abbrev waiting : Node
waiting = node 0 0 0 (leads 0 both 1 (Some alone) 0)

-- leave 0 1: the set is pending, and the watermark still waits for node 1
abbrev a5 : Effect
a5 = sends waiting (Proposes asking) (SentProposal alone 1)

abbrev w5 : World
w5 = moved w4 0 a5

e5 : Step w4 (Acts 0 (Leave 1)) (record { reply = SentProposal alone 1; number = Some 0 }) w5
e5 = did w4 0 (Leave 1) a5 (omega arith) tt refl refl

abbrev a6 : Effect
a6 = becomes waiting (MarkAt 0)

abbrev w6 : World
w6 = moved w5 0 a6

e6 : Step w5 (Acts 0 Raise) (told (MarkAt 0)) w6
e6 = did w5 0 Raise a6 (omega arith) tt refl refl

-- leave 0 1 again: it is sent again; join 0 1: another one isn't
abbrev w7 : World
w7 = moved w6 0 a5

e7 : Step w6 (Acts 0 (Leave 1)) (record { reply = SentProposal alone 1; number = Some 1 }) w7
e7 = did w6 0 (Leave 1) a5 (omega arith) tt refl refl

e7_join : Step w7 (Acts 0 (Join 1)) (told (Refused refusals.ChangePending)) (moved w7 0 (becomes (w7.nodes 0) (Refused refusals.ChangePending)))
e7_join = did_not w7 0 (Join 1) refusals.ChangePending (omega arith) tt refl

-- a proposal that comes to a node is to no request of it
e7_node : Step w7 (Acts 1 (Receive (Proposes asking))) (told (Refused refusals.StaleAnswer)) (moved w7 1 (becomes (w7.nodes 1) (Refused refusals.StaleAnswer)))
e7_node = did_not w7 1 (Receive (Proposes asking)) refusals.StaleAnswer (omega arith) (0, refl) refl

-- deliver 0: the controller follows it; raise 0: the leader hasn't learned of it
abbrev w8 : World
w8 = with_message (with_record w7 (by 0 alone 2)) (Decides made)

e8 : Step w7 (Deliver 0) (record { reply = SentDecision (by 0 alone 2); number = Some 2 }) w8
e8 = (refl, refl)

abbrev a9 : Effect
a9 = becomes waiting (MarkAt 0)

abbrev w9 : World
w9 = moved w8 0 a9

e9 : Step w8 (Acts 0 Raise) (told (MarkAt 0)) w9
e9 = did w8 0 Raise a9 (omega arith) tt refl refl

-- deliver 1: the record is another one now, and stays
abbrev w10 : World
w10 = with_message w9 (Decides made)

e10 : Step w9 (Deliver 1) (record { reply = SentDecision (by 0 alone 2); number = Some 3 }) w10
e10 = (refl, refl)

-- deliver 3: the leader learns, and is alone in sync; raise 0
abbrev a11 : Effect
a11 = becomes (node 0 0 0 (leads 0 alone 2 None 0)) (Learned alone 2)

abbrev w11 : World
w11 = moved w10 0 a11

e11 : Step w10 (Deliver 3) (told (Learned alone 2)) w11
e11 = did w10 0 (Receive (Decides made)) a11 (omega arith) (3, refl) refl refl

abbrev a12 : Effect
a12 = becomes (node 1 0 0 (leads 0 alone 2 None 0)) (MarkAt 1)

abbrev w12 : World
w12 = moved w11 0 a12

e12 : Step w11 (Acts 0 Raise) (told (MarkAt 1)) w12
e12 = did w11 0 Raise a12 (omega arith) tt refl refl

committed : held (w12.nodes 0) ≡ batch ∷ []
committed = refl

-- deliver 2: that is known
e12_known : Step w12 (Deliver 2) (told (Refused refusals.StaleAnswer)) (moved w12 0 (becomes (w12.nodes 0) (Refused refusals.StaleAnswer)))
e12_known = did_not w12 0 (Receive (Decides made)) refusals.StaleAnswer (omega arith) (2, refl) refl

-- stop 0, restart 0, adopt 0: it led in this epoch; elect 0, adopt 0: it leads in the next one
abbrev a13 : Effect
a13 = becomes (node 1 0 0 Down) Stopped

abbrev w13 : World
w13 = moved w12 0 a13

e13 : Step w12 (Acts 0 Stop) (told Stopped) w13
e13 = did w12 0 Stop a13 (omega arith) tt refl refl

abbrev a14 : Effect
a14 = becomes (node 0 1 0 Idle) (Restarted 1 1 0)

abbrev w14 : World
w14 = moved w13 0 a14

e14 : Step w13 (Acts 0 Restart) (told (Restarted 1 1 0)) w14
e14 = did w13 0 Restart a14 (omega arith) tt refl refl

e14_adopt : Step w14 (Acts 0 Adopt) (told (Refused refusals.StaleRecord)) (moved w14 0 (becomes (w14.nodes 0) (Refused refusals.StaleRecord)))
e14_adopt = did_not w14 0 Adopt refusals.StaleRecord (omega arith) tt refl

abbrev w15 : World
w15 = with_record w14 (by 1 alone 3)

e15 : Step w14 (Elect 0) (told (Changed (by 1 alone 3))) w15
e15 = (refl, refl)

abbrev a16 : Effect
a16 = becomes (node 0 1 1 (leads 1 alone 3 None 1)) (NowLeads 1 1)

e16 : Step w15 (Acts 0 Adopt) (told (NowLeads 1 1)) (moved w15 0 a16)
e16 = did w15 0 Adopt a16 (omega arith) tt refl refl

-- A reconciliation in one round, step by step: a batch that never lay below a watermark is cut, though the leader's watermark
-- stands above it, and the follower joins again. It goes on from the short run. Each effect and each answer is what the
-- definitions compute.
use Rattle.std.proofs.Common.{◌≡◌, ℕ, ◌<◌, ◌≤◌, List, [], ◌∷◌, length, Option, Some, None, Ok, refl, sym, ap, ◌∙◌, arith, inl, inr}
use Rattle.std.specs.Prelude.{◌==◌}
use Rattle.std.proofs.lemmas.Bool.{false≢true}
use Rattle.kp_types.specs.declared.refusal.Refusal.{Refusal}
use Rattle.kp_types.specs.declared.refusal.Refusal.TheVariants as refusals
use Rattle.kp_record.specs.Record.{record_spelling, record_fields, records_spelling}
use Rattle.kp_record.specs.Varint.{varint, varint_within, sized, sized_or_null}
use Rattle.kp_batch.specs.Batch.{Body, Plain, IsBody, size_of, covered}
use Rattle.kp_model.specs.Beginning.{Begins}
use Rattle.kp_model.specs.Log.{Batch}
use Rattle.kp_model.specs.Epochs.{end_for, cut_place}
use Rattle.kp_model.specs.Transactions.{open_in, stable}
use Rattle.kp_model.specs.Visible.{visible}
use Rattle.kp_model.specs.Admission.{admit}
use Rattle.kp_model.specs.World.{LeaderAndIsr, Mode, Leads, Follows, Node, Request, Answer, Proposal, Decision, Asks, Answers, Proposes, Decides, World, with_record, with_message, no_reports}
use Rattle.kp_model.specs.Event.{Act, Adopt, Produce, Ask, Receive, Raise, Join, Leave, Committed, Elect, Acts, Deliver, Line, Refused, NowLeads, NowFollows, At, AsksFrom, SentBatches, SentDiverging, SentProposal, SentDecision, Learned, Took, Cut, MarkAt, Changed, Lines}
use Rattle.kp_model.specs.Effect.{Effect, becomes, sends}
use Rattle.kp_model.specs.Fetching.{Cuts}
use Rattle.kp_model.specs.Local.{cause}
use Rattle.kp_model.specs.Step.{Step, NodeStep, moved, told, IsGiven}
use Rattle.kp_model.specs.Run.{Run, extend, held}
use Rattle.kp_model.proofs.OneStep.Steps.{was_refused}
use Rattle.kp_model.proofs.Worked.ExampleRun.{did, batch, leader, node, w7, taken}

-- an action that is refused leaves the world as it is
abbrev refuses : World → ℕ → Refusal → Effect
refuses w n refusal = becomes (w.nodes n) (Refused refusal)

abbrev did_not : (w : World) (n : ℕ) (act : Act) (refusal : Refusal) → n < w.count → IsGiven w.messages act
    → cause w.controller n (w.nodes n) act ≡ Some refusal → NodeStep w n act (told (Refused refusal)) (moved w n (refuses w n refusal))
did_not w n act refusal counted given held =
    record {
      counted = counted;
      given = given;
      effect = refuses w n refusal;
      local = was_refused w.controller n (w.nodes n) act refusal held;
      outcome_is = refl;
      new_is = refl;
    }

-- the second batch of each leader: node 0's of time 20, with "b", and node 1's of time 30, with "c"
abbrev text : ℕ → ℕ → Body
text time byte =
    record { base_time = time; content = Plain (record { time = time; key = None; value = Some (byte ∷ []); headers = [] } ∷ []) }

abbrev b : Batch
b = record { base = 1; epoch = 0; body = text 20 0x62 }

abbrev c : Batch
c = record { base = 1; epoch = 1; body = text 30 0x63 }

b_lawful : IsBody (text 20 0x62)
unfolding size_of covered record_spelling record_fields records_spelling varint varint_within sized sized_or_null
b_lawful =
    record {
      some = omega arith;
      records = (record { time = omega arith; key = tt; value = (omega arith, tt); headers = tt }, tt);
      base_time = omega arith;
      content = tt;
      length = omega arith;
    }

c_lawful : IsBody (text 30 0x63)
unfolding size_of covered record_spelling record_fields records_spelling varint varint_within sized sized_or_null
c_lawful =
    record {
      some = omega arith;
      records = (record { time = omega arith; key = tt; value = (omega arith, tt); headers = tt }, tt);
      base_time = omega arith;
      content = tt;
      length = omega arith;
    }

abbrev own : List Batch
own = batch ∷ b ∷ []

abbrev theirs : List Batch
theirs = batch ∷ c ∷ []

abbrev by : List ℕ → ℕ → LeaderAndIsr
by isr version = record { leader = Some (record { node = 1; epoch = 1 }); isr = isr; version = version }

-- node 1 leads, with a change that it asked for or with none
abbrev asking : List ℕ → ℕ → Option (List ℕ) → List (Option ℕ) → Mode
asking isr version pending reported =
    Leads (record { epoch = 1; isr = isr; version = version; pending = pending; start = 1; reported = reported })

abbrev leads : List ℕ → ℕ → List (Option ℕ) → Mode
leads isr version reported = asking isr version None reported

-- a node that has taken up epoch 1
abbrev later : List Batch → ℕ → Mode → Node
later log watermark mode = record { log = log; watermark = watermark; checkpoint = 0; life = 0; kept = Some 1; mode = mode }

-- node 1 asks for this set, and the controller follows it
abbrev proposed : LeaderAndIsr → List ℕ → Proposal
proposed known isr = record { from = 1; known = known; isr = isr }

abbrev decided : LeaderAndIsr → List ℕ → LeaderAndIsr → Decision
decided known isr new = record { proposal = proposed known isr; decided = new }

abbrev follows : Mode
follows = Follows (record { leader = 1; epoch = 1 })

abbrev asks : List Batch → Request
asks log = record { from = 0; to = 1; life = 0; epoch = 1; log = log }

abbrev answers : List Batch → Answer
answers log = record { request = asks log; log = theirs; watermark = 2 }

abbrev heard : List (Option ℕ)
heard = None ∷ Some 0 ∷ None ∷ None ∷ None ∷ None ∷ None ∷ []

-- produce at 0, elect 1, adopt 1, leave of 0 at 1, deliver 2 (to the controller), deliver 3 (what it decided), produce at 1,
-- raise 1: node 1 commits alone
abbrev a8 : Effect
a8 = becomes (node own 0 (Leads (leader heard))) (At 1)

abbrev w8 : World
w8 = moved w7 0 a8

e8 : Step w7 (Acts 0 (Produce (Ok (text 20 0x62)))) (told (At 1)) w8
unfolding admit
e8 = did w7 0 (Produce (Ok (text 20 0x62))) a8 (omega arith) tt refl (b_lawful, refl)

abbrev w9 : World
w9 = with_record w8 (by (0 ∷ 1 ∷ []) 2)

e9 : Step w8 (Elect 1) (told (Changed (by (0 ∷ 1 ∷ []) 2))) w9
e9 = (refl, refl)

abbrev a10 : Effect
a10 = becomes (later (batch ∷ []) 0 (leads (0 ∷ 1 ∷ []) 2 no_reports)) (NowLeads 1 1)

abbrev w10 : World
w10 = moved w9 1 a10

e10 : Step w9 (Acts 1 Adopt) (told (NowLeads 1 1)) w10
e10 = did w9 1 Adopt a10 (omega arith) tt refl refl

abbrev a11 : Effect
a11 =
    sends (later (batch ∷ []) 0 (asking (0 ∷ 1 ∷ []) 2 (Some (1 ∷ [])) no_reports))
    (Proposes (proposed (by (0 ∷ 1 ∷ []) 2) (1 ∷ []))) (SentProposal (1 ∷ []) 2)

abbrev w11 : World
w11 = moved w10 1 a11

e11 : Step w10 (Acts 1 (Leave 0)) (record { reply = SentProposal (1 ∷ []) 2; number = Some 2 }) w11
e11 = did w10 1 (Leave 0) a11 (omega arith) tt refl refl

abbrev left : Decision
left = decided (by (0 ∷ 1 ∷ []) 2) (1 ∷ []) (by (1 ∷ []) 3)

abbrev w11_decided : World
w11_decided = with_message (with_record w11 (by (1 ∷ []) 3)) (Decides left)

e11_decided : Step w11 (Deliver 2) (record { reply = SentDecision (by (1 ∷ []) 3); number = Some 3 }) w11_decided
e11_decided = (refl, refl)

abbrev a11_learned : Effect
a11_learned = becomes (later (batch ∷ []) 0 (leads (1 ∷ []) 3 no_reports)) (Learned (1 ∷ []) 3)

abbrev w11_learned : World
w11_learned = moved w11_decided 1 a11_learned

e11_learned : Step w11_decided (Deliver 3) (told (Learned (1 ∷ []) 3)) w11_learned
e11_learned = did w11_decided 1 (Receive (Decides left)) a11_learned (omega arith) (3, refl) refl refl

abbrev a12 : Effect
a12 = becomes (later theirs 0 (leads (1 ∷ []) 3 no_reports)) (At 1)

abbrev w12 : World
w12 = moved w11_learned 1 a12

e12 : Step w11_learned (Acts 1 (Produce (Ok (text 30 0x63)))) (told (At 1)) w12
unfolding admit
e12 = did w11_learned 1 (Produce (Ok (text 30 0x63))) a12 (omega arith) tt refl (c_lawful, refl)

abbrev a13 : Effect
a13 = becomes (later theirs 2 (leads (1 ∷ []) 3 no_reports)) (MarkAt 2)

abbrev w13 : World
w13 = moved w12 1 a13

e13 : Step w12 (Acts 1 Raise) (told (MarkAt 2)) w13
e13 = did w12 1 Raise a13 (omega arith) tt refl refl

-- adopt 0, ask 0, deliver 4: node 1's epoch 0 ends below node 0's log
abbrev a14 : Effect
a14 = becomes (later own 0 follows) (NowFollows 1 1)

abbrev w14 : World
w14 = moved w13 0 a14

e14 : Step w13 (Acts 0 Adopt) (told (NowFollows 1 1)) w14
e14 = did w13 0 Adopt a14 (omega arith) tt refl refl

abbrev a15 : Effect
a15 = sends (later own 0 follows) (Asks (asks own)) (AsksFrom 2 (Some 0))

abbrev w15 : World
w15 = moved w14 0 a15

e15 : Step w14 (Acts 0 Ask) (record { reply = AsksFrom 2 (Some 0); number = Some 4 }) w15
e15 = did w14 0 Ask a15 (omega arith) tt refl refl

apart : (common : List Batch) → Begins common own → Begins common theirs → length common ≤ 1
apart [] p q = omega arith
apart (x ∷ []) p q = omega arith
apart (x ∷ y ∷ ys) p q =
    let first : y ≡ b = (let is = p.is in cc) in
    let second : y ≡ c = (let is = q.is in cc) in
    absurd (false≢true (ap (λ (d : Batch). d.epoch == 1) (sym first ∙ second)))

diverge : Begins own theirs → ⊥
diverge p = let short = apart own (record { rest = []; is = refl }) p in omega arith

abbrev a16 : Effect
a16 = sends (later theirs 2 (leads (1 ∷ []) 3 no_reports)) (Answers (answers own)) (SentDiverging (Some (0, 1)))

abbrev w16 : World
w16 = moved w15 1 a16

e16 : Step w15 (Deliver 4) (record { reply = SentDiverging (Some (0, 1)); number = Some 5 }) w16
unfolding end_for
e16 = did w15 1 (Receive (Asks (asks own))) a16 (omega arith) (4, refl) refl (inr (diverge, refl))

-- deliver 5: node 0 cuts to where its own log and node 1's part
abbrev a17 : Effect
a17 = becomes (later (batch ∷ []) 0 follows) (Cut 1)

abbrev w17 : World
w17 = moved w16 0 a17

place : cut_place own (Some (0, 1)) ≡ 1
unfolding cut_place end_for
place = refl

cut_is : Cuts (w16.nodes 0) (answers own) a17
cut_is =
    record {
      diverges = diverge;
      same = refl;
      left = batch ∷ [];
      common = batch ∷ [];
      begins = record { rest = b ∷ []; is = refl };
      is_common =
          record {
            first = record { rest = b ∷ []; is = refl };
            second = record { rest = c ∷ []; is = refl };
            longest = apart;
          };
      keeps = record { rest = []; is = refl };
      shorter = omega arith;
      effect_is = refl;
    }

e17 : Step w16 (Deliver 5) (told (Cut 1)) w17
unfolding end_for
e17 = did w16 0 (Receive (Answers (answers own))) a17 (omega arith) (5, refl) refl cut_is

-- join of 0 at 1: the diverging request was no report
abbrev w18 : World
w18 = moved w17 1 (refuses w17 1 refusals.NotCaughtUp)

e18 : Step w17 (Acts 1 (Join 0)) (told (Refused refusals.NotCaughtUp)) w18
e18 = did_not w17 1 (Join 0) refusals.NotCaughtUp (omega arith) tt refl

-- ask 0, deliver 6: what is left begins node 1's log; join of 0 at 1: its reported end lies below the watermark
abbrev a19 : Effect
a19 = sends (later (batch ∷ []) 0 follows) (Asks (asks (batch ∷ []))) (AsksFrom 1 (Some 0))

abbrev w19 : World
w19 = moved w18 0 a19

e19 : Step w18 (Acts 0 Ask) (record { reply = AsksFrom 1 (Some 0); number = Some 6 }) w19
e19 = did w18 0 Ask a19 (omega arith) tt refl refl

abbrev at_end : ℕ → List (Option ℕ)
at_end end = Some end ∷ None ∷ None ∷ None ∷ None ∷ None ∷ None ∷ []

abbrev a20 : Effect
a20 = sends (later theirs 2 (leads (1 ∷ []) 3 (at_end 1))) (Answers (answers (batch ∷ []))) (SentBatches 1 2)

abbrev w20 : World
w20 = moved w19 1 a20

e20 : Step w19 (Deliver 6) (record { reply = SentBatches 1 2; number = Some 7 }) w20
unfolding end_for size_of covered record_spelling record_fields records_spelling varint varint_within sized sized_or_null
e20 = did w19 1 (Receive (Asks (asks (batch ∷ [])))) a20 (omega arith) (6, refl) refl (inl (record { rest = c ∷ []; is = refl }, refl))

abbrev w21 : World
w21 = moved w20 1 (refuses w20 1 refusals.NotCaughtUp)

e21 : Step w20 (Acts 1 (Join 0)) (told (Refused refusals.NotCaughtUp)) w21
e21 = did_not w20 1 (Join 0) refusals.NotCaughtUp (omega arith) tt refl

-- deliver 7: node 0 takes the batch in the place of the one that it cut
abbrev a22 : Effect
a22 = becomes (later theirs 2 follows) (Took 2 2)

abbrev w22 : World
w22 = moved w21 0 a22

e22 : Step w21 (Deliver 7) (told (Took 2 2)) w22
unfolding end_for size_of covered record_spelling record_fields records_spelling varint varint_within sized sized_or_null
e22 = did w21 0 (Receive (Answers (answers (batch ∷ [])))) a22 (omega arith) (7, refl) refl
    (record { begins = record { rest = c ∷ []; is = refl }; same = refl }, refl)

-- ask 0, deliver 8, join of 0 at 1, deliver 10 and 11: it is in sync again
abbrev a23 : Effect
a23 = sends (later theirs 2 follows) (Asks (asks theirs)) (AsksFrom 2 (Some 1))

abbrev w23 : World
w23 = moved w22 0 a23

e23 : Step w22 (Acts 0 Ask) (record { reply = AsksFrom 2 (Some 1); number = Some 8 }) w23
e23 = did w22 0 Ask a23 (omega arith) tt refl refl

abbrev a24 : Effect
a24 = sends (later theirs 2 (leads (1 ∷ []) 3 (at_end 2))) (Answers (answers theirs)) (SentBatches 0 2)

abbrev w24 : World
w24 = moved w23 1 a24

e24 : Step w23 (Deliver 8) (record { reply = SentBatches 0 2; number = Some 9 }) w24
unfolding end_for
e24 = did w23 1 (Receive (Asks (asks theirs))) a24 (omega arith) (8, refl) refl (inl (record { rest = []; is = refl }, refl))

abbrev a25 : Effect
a25 =
    sends (later theirs 2 (asking (1 ∷ []) 3 (Some (0 ∷ 1 ∷ [])) (at_end 2)))
    (Proposes (proposed (by (1 ∷ []) 3) (0 ∷ 1 ∷ []))) (SentProposal (0 ∷ 1 ∷ []) 3)

abbrev w25 : World
w25 = moved w24 1 a25

e25 : Step w24 (Acts 1 (Join 0)) (record { reply = SentProposal (0 ∷ 1 ∷ []) 3; number = Some 10 }) w25
e25 = did w24 1 (Join 0) a25 (omega arith) tt refl refl

abbrev joined : Decision
joined = decided (by (1 ∷ []) 3) (0 ∷ 1 ∷ []) (by (0 ∷ 1 ∷ []) 4)

abbrev w25_decided : World
w25_decided = with_message (with_record w25 (by (0 ∷ 1 ∷ []) 4)) (Decides joined)

e25_decided : Step w25 (Deliver 10) (record { reply = SentDecision (by (0 ∷ 1 ∷ []) 4); number = Some 11 }) w25_decided
e25_decided = (refl, refl)

abbrev a25_learned : Effect
a25_learned = becomes (later theirs 2 (leads (0 ∷ 1 ∷ []) 4 (at_end 2))) (Learned (0 ∷ 1 ∷ []) 4)

abbrev w25_learned : World
w25_learned = moved w25_decided 1 a25_learned

e25_learned : Step w25_decided (Deliver 11) (told (Learned (0 ∷ 1 ∷ []) 4)) w25_learned
e25_learned = did w25_decided 1 (Receive (Decides joined)) a25_learned (omega arith) (11, refl) refl refl

-- committed 0 from 0: "a" and "c"
abbrev lines : List Line
lines = record { offset = 0; value = Some (0x61 ∷ []) } ∷ record { offset = 1; value = Some (0x63 ∷ []) } ∷ []

abbrev a26 : Effect
a26 = becomes (later theirs 2 follows) (Lines lines)

abbrev w26 : World
w26 = moved w25_learned 0 a26

e26 : Step w25_learned (Acts 0 (Committed 0)) (told (Lines lines)) w26
unfolding visible stable open_in
e26 = did w25_learned 0 (Committed 0) a26 (omega arith) tt refl refl

-- the run, extended by one step after another
abbrev committed_alone : Run 2
committed_alone =
    extend
    (extend
    (extend
    (extend
    (extend
    (extend
    (extend (extend taken (Acts 0 (Produce (Ok (text 20 0x62)))) (told (At 1)) w8 e8) (Elect 1) (told (Changed (by (0 ∷ 1 ∷ []) 2))) w9 e9)
    (Acts 1 Adopt) (told (NowLeads 1 1)) w10 e10)
    (Acts 1 (Leave 0)) (record { reply = SentProposal (1 ∷ []) 2; number = Some 2 }) w11 e11)
    (Deliver 2) (record { reply = SentDecision (by (1 ∷ []) 3); number = Some 3 }) w11_decided e11_decided)
    (Deliver 3) (told (Learned (1 ∷ []) 3)) w11_learned e11_learned)
    (Acts 1 (Produce (Ok (text 30 0x63)))) (told (At 1)) w12 e12)
    (Acts 1 Raise) (told (MarkAt 2)) w13 e13

abbrev cut : Run 2
cut =
    extend
    (extend
    (extend (extend committed_alone (Acts 0 Adopt) (told (NowFollows 1 1)) w14 e14)
    (Acts 0 Ask) (record { reply = AsksFrom 2 (Some 0); number = Some 4 }) w15 e15)
    (Deliver 4) (record { reply = SentDiverging (Some (0, 1)); number = Some 5 }) w16 e16)
    (Deliver 5) (told (Cut 1)) w17 e17

abbrev caught_up : Run 2
caught_up =
    extend
    (extend
    (extend
    (extend (extend cut (Acts 1 (Join 0)) (told (Refused refusals.NotCaughtUp)) w18 e18)
    (Acts 0 Ask) (record { reply = AsksFrom 1 (Some 0); number = Some 6 }) w19 e19)
    (Deliver 6) (record { reply = SentBatches 1 2; number = Some 7 }) w20 e20)
    (Acts 1 (Join 0)) (told (Refused refusals.NotCaughtUp)) w21 e21)
    (Deliver 7) (told (Took 2 2)) w22 e22

whole : Run 2
whole =
    extend
    (extend
    (extend
    (extend
    (extend (extend caught_up (Acts 0 Ask) (record { reply = AsksFrom 2 (Some 1); number = Some 8 }) w23 e23)
    (Deliver 8) (record { reply = SentBatches 0 2; number = Some 9 }) w24 e24)
    (Acts 1 (Join 0)) (record { reply = SentProposal (0 ∷ 1 ∷ []) 3; number = Some 10 }) w25 e25)
    (Deliver 10) (record { reply = SentDecision (by (0 ∷ 1 ∷ []) 4); number = Some 11 }) w25_decided e25_decided)
    (Deliver 11) (told (Learned (0 ∷ 1 ∷ []) 4)) w25_learned e25_learned)
    (Acts 0 (Committed 0)) (told (Lines lines)) w26 e26

both_hold : (held (w26.nodes 0) ≡ theirs) × (held (w26.nodes 1) ≡ theirs)
both_hold = (refl, refl)

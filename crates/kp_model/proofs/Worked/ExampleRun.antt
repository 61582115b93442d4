-- A short run, step by step: two nodes, one batch, committed. Each effect and each answer is what the
-- definitions compute.
use Rattle.std.proofs.Common.{◌≡◌, ℕ, ◌<◌, List, [], ◌∷◌, Option, Some, None, Ok, Err, refl, arith, inl}
use Rattle.kp_types.specs.declared.refusal.Refusal.TheVariants as refusals
use Rattle.kp_record.specs.Record.{record_spelling, record_fields, records_spelling}
use Rattle.kp_record.specs.Varint.{varint, varint_within, sized, sized_or_null}
use Rattle.kp_batch.specs.Batch.{Body, Plain, IsBody, size_of, covered}
use Rattle.kp_model.specs.Log.{Batch}
use Rattle.kp_model.specs.Epochs.{end_for}
use Rattle.kp_model.specs.Admission.{admit}
use Rattle.kp_model.specs.World.{Leading, Mode, Leads, Follows, Node, Request, Asks, Answers, World, start, no_reports, Idle, Down}
use Rattle.kp_model.specs.Event.{Act, Adopt, Produce, Ask, Receive, Raise, Elect, Acts, Deliver, Refused, NowLeads, NowFollows, At, AsksFrom, SentBatches, Took, MarkAt, Changed, Stop, Restart, Stopped, Restarted}
use Rattle.kp_model.specs.Controller.{elected}
use Rattle.kp_model.specs.Effect.{Effect, becomes, sends}
use Rattle.kp_model.specs.Local.{cause, Happens}
use Rattle.kp_model.specs.Step.{Step, NodeStep, moved, answered, told, IsGiven}
use Rattle.kp_model.specs.Run.{Run, extend, held}
use Rattle.kp_model.proofs.OneStep.Steps.{happened, was_refused}

-- an action that happens, and one that is refused
abbrev pub did : (w : World) (n : ℕ) (act : Act) (e : Effect) → n < w.count → IsGiven w.messages act → cause w.controller n (w.nodes n) act ≡ None → Happens w.controller n (w.nodes n) act e
    → NodeStep w n act (answered w.messages e) (moved w n e)
did w n act e counted given free h =
    record { counted = counted; given = given; effect = e; local = happened w.controller n (w.nodes n) act e free h; outcome_is = refl; new_is = refl }

abbrev pub body : Body
body = record { base_time = 10; content = Plain (record { time = 10; key = None; value = Some (0x61 ∷ []); headers = [] } ∷ []) }

abbrev pub batch : Batch
batch = record { base = 0; epoch = 0; body = body }

abbrev pub leader : List (Option ℕ) → Leading
leader reported = record { epoch = 0; isr = 0 ∷ 1 ∷ []; version = 1; pending = None; start = 0; reported = reported }

abbrev follower : Mode
follower = Follows (record { leader = 0; epoch = 0 })

abbrev pub node : List Batch → ℕ → Mode → Node
node log watermark mode = record { log = log; watermark = watermark; checkpoint = 0; life = 0; kept = Some 0; mode = mode }

abbrev ask : List Batch → Request
ask log = record { from = 1; to = 0; life = 0; epoch = 0; log = log }

-- elect 0
abbrev w1 : World
w1 = record (start 2) { controller = elected (start 2).controller 0 }

pub e1 : Step (start 2) (Elect 0) (told (Changed w1.controller)) w1
e1 = (refl, refl)

-- adopt 0, adopt 1
abbrev a2 : Effect
a2 = becomes (node [] 0 (Leads (leader no_reports))) (NowLeads 0 0)

abbrev w2 : World
w2 = moved w1 0 a2

pub e2 : Step w1 (Acts 0 Adopt) (told (NowLeads 0 0)) w2
e2 = did w1 0 Adopt a2 (omega arith) tt refl refl

abbrev a3 : Effect
a3 = becomes (node [] 0 follower) (NowFollows 0 0)

abbrev w3 : World
w3 = moved w2 1 a3

pub e3 : Step w2 (Acts 1 Adopt) (told (NowFollows 0 0)) w3
e3 = did w2 1 Adopt a3 (omega arith) tt refl refl

-- what no leader does, bytes that are no batch, and a number that no message has
e3_raise : Step w3 (Acts 1 Raise) (told (Refused refusals.NotLeader)) (moved w3 1 (becomes (w3.nodes 1) (Refused refusals.NotLeader)))
e3_raise = record { counted = omega arith; given = tt; effect = _; local = was_refused w3.controller 1 (w3.nodes 1) Raise refusals.NotLeader refl; outcome_is = refl; new_is = refl }

e3_fault : cause w3.controller 0 (w3.nodes 0) (Produce (Err refusals.BadCrc)) ≡ Some refusals.BadCrc
e3_fault = refl

e3_number : Step w3 (Deliver 5) (told (Refused refusals.StaleAnswer)) w3
e3_number = (refl, refl)

-- produce at 0
pub lawful : IsBody body
unfolding size_of covered record_spelling record_fields records_spelling varint varint_within sized sized_or_null
lawful =
    record {
      some = omega arith;
      records = (record { time = omega arith; key = tt; value = (omega arith, tt); headers = tt }, tt);
      base_time = omega arith;
      content = tt;
      length = omega arith;
    }

abbrev a4 : Effect
a4 = becomes (node (batch ∷ []) 0 (Leads (leader no_reports))) (At 0)

abbrev pub w4 : World
w4 = moved w3 0 a4

pub e4 : Step w3 (Acts 0 (Produce (Ok body))) (told (At 0)) w4
unfolding admit
e4 = did w3 0 (Produce (Ok body)) a4 (omega arith) tt refl (lawful, refl)

-- ask 1, deliver 0 (to node 0, whom it asks), deliver 1 (to node 1, which asked)
abbrev a5 : Effect
a5 = sends (node [] 0 follower) (Asks (ask [])) (AsksFrom 0 None)

abbrev w5 : World
w5 = moved w4 1 a5

pub e5 : Step w4 (Acts 1 Ask) (record { reply = AsksFrom 0 None; number = Some 0 }) w5
e5 = did w4 1 Ask a5 (omega arith) tt refl refl

abbrev a6 : Effect
a6 =
    sends (node (batch ∷ []) 0 (Leads (leader (None ∷ Some 0 ∷ None ∷ None ∷ None ∷ None ∷ None ∷ []))))
    (Answers (record { request = ask []; log = batch ∷ []; watermark = 0 })) (SentBatches 1 0)

abbrev w6 : World
w6 = moved w5 0 a6

pub e6 : Step w5 (Deliver 0) (record { reply = SentBatches 1 0; number = Some 1 }) w6
unfolding size_of covered record_spelling record_fields records_spelling varint varint_within sized sized_or_null
e6 = did w5 0 (Receive (Asks (ask []))) a6 (omega arith) (0, refl) refl (inl (record { rest = batch ∷ []; is = refl }, refl))

abbrev a7 : Effect
a7 = becomes (node (batch ∷ []) 0 follower) (Took 1 0)

abbrev pub w7 : World
w7 = moved w6 1 a7

pub e7 : Step w6 (Deliver 1) (told (Took 1 0)) w7
unfolding size_of covered record_spelling record_fields records_spelling varint varint_within sized sized_or_null
e7 = did w6 1 (Receive (Answers (record { request = ask []; log = batch ∷ []; watermark = 0 }))) a7 (omega arith) (1, refl) refl
    (record { begins = record { rest = batch ∷ []; is = refl }; same = refl }, refl)

-- ask 1 again, deliver 2, raise 0: the batch is committed
abbrev a8 : Effect
a8 = sends (node (batch ∷ []) 0 follower) (Asks (ask (batch ∷ []))) (AsksFrom 1 (Some 0))

abbrev w8 : World
w8 = moved w7 1 a8

e8 : Step w7 (Acts 1 Ask) (record { reply = AsksFrom 1 (Some 0); number = Some 2 }) w8
e8 = did w7 1 Ask a8 (omega arith) tt refl refl

abbrev reports : List (Option ℕ)
reports = None ∷ Some 1 ∷ None ∷ None ∷ None ∷ None ∷ None ∷ []

abbrev a9 : Effect
a9 =
    sends (node (batch ∷ []) 0 (Leads (leader reports)))
    (Answers (record { request = ask (batch ∷ []); log = batch ∷ []; watermark = 0 })) (SentBatches 0 0)

abbrev w9 : World
w9 = moved w8 0 a9

e9 : Step w8 (Deliver 2) (record { reply = SentBatches 0 0; number = Some 3 }) w9
unfolding end_for
e9 = did w8 0 (Receive (Asks (ask (batch ∷ [])))) a9 (omega arith) (2, refl) refl (inl (record { rest = []; is = refl }, refl))

abbrev a10 : Effect
a10 = becomes (node (batch ∷ []) 1 (Leads (leader reports))) (MarkAt 1)

abbrev w10 : World
w10 = moved w9 0 a10

e10 : Step w9 (Acts 0 Raise) (told (MarkAt 1)) w10
e10 = did w9 0 Raise a10 (omega arith) tt refl refl

-- the run, extended by one step after another
abbrev none : Run 2
none = record { moments = []; is_run = tt }

abbrev adopted : Run 2
adopted =
    extend (extend (extend none (Elect 0) (told (Changed w1.controller)) w1 e1) (Acts 0 Adopt) (told (NowLeads 0 0)) w2 e2)
    (Acts 1 Adopt) (told (NowFollows 0 0)) w3 e3

abbrev pub taken : Run 2
taken =
    extend
    (extend
    (extend (extend adopted (Acts 0 (Produce (Ok body))) (told (At 0)) w4 e4) (Acts 1 Ask) (record { reply = AsksFrom 0 None; number = Some 0 }) w5 e5)
    (Deliver 0) (record { reply = SentBatches 1 0; number = Some 1 }) w6 e6)
    (Deliver 1) (told (Took 1 0)) w7 e7

whole : Run 2
whole =
    extend
    (extend (extend taken (Acts 1 Ask) (record { reply = AsksFrom 1 (Some 0); number = Some 2 }) w8 e8)
    (Deliver 2) (record { reply = SentBatches 0 0; number = Some 3 }) w9 e9)
    (Acts 0 Raise) (told (MarkAt 1)) w10 e10

committed : held (w10.nodes 0) ≡ batch ∷ []
committed = refl

-- stop 1, restart 1, adopt 1, deliver 3: the answer was asked for in an earlier life, and is taken all the same
abbrev again : Mode → Node
again mode = record { log = batch ∷ []; watermark = 0; checkpoint = 0; life = 1; kept = Some 0; mode = mode }

abbrev a11 : Effect
a11 = becomes (node (batch ∷ []) 0 Down) Stopped

abbrev w11 : World
w11 = moved w10 1 a11

e11 : Step w10 (Acts 1 Stop) (told Stopped) w11
e11 = did w10 1 Stop a11 (omega arith) tt refl refl

abbrev a12 : Effect
a12 = becomes (again Idle) (Restarted 1 1 0)

abbrev w12 : World
w12 = moved w11 1 a12

e12 : Step w11 (Acts 1 Restart) (told (Restarted 1 1 0)) w12
e12 = did w11 1 Restart a12 (omega arith) tt refl refl

abbrev a13 : Effect
a13 = becomes (again follower) (NowFollows 0 0)

abbrev w13 : World
w13 = moved w12 1 a13

e13 : Step w12 (Acts 1 Adopt) (told (NowFollows 0 0)) w13
e13 = did w12 1 Adopt a13 (omega arith) tt refl refl

abbrev a14 : Effect
a14 = becomes (again follower) (Took 1 0)

e14 : Step w13 (Deliver 3) (told (Took 1 0)) (moved w13 1 a14)
unfolding end_for
e14 =
    did w13 1 (Receive (Answers (record { request = ask (batch ∷ []); log = batch ∷ []; watermark = 0 }))) a14 (omega arith) (3, refl) refl
    (record { begins = record { rest = []; is = refl }; same = refl }, refl)

-- deliver 1: it was asked for with another log
e13_stale : Step w13 (Deliver 1) (told (Refused refusals.StaleAnswer)) (moved w13 1 (becomes (w13.nodes 1) (Refused refusals.StaleAnswer)))
e13_stale =
    record {
      counted = omega arith;
      given = (1, refl);
      effect = _;
      local = was_refused w13.controller 1 (w13.nodes 1) (Receive (Answers (record { request = ask []; log = batch ∷ []; watermark = 0 }))) refusals.StaleAnswer refl;
      outcome_is = refl;
      new_is = refl;
    }

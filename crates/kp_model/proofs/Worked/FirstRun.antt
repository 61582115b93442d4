-- A first run, step by step: one node, one record, written, committed and read. Each effect and each answer
-- is what the definitions compute.
use Rattle.std.proofs.Common.{◌≡◌, ℕ, ◌<◌, List, [], ◌∷◌, Some, None, Ok, refl, arith}
use Rattle.kp_types.specs.declared.refusal.Refusal.{Refusal}
use Rattle.kp_types.specs.declared.refusal.Refusal.TheVariants as refusals
use Rattle.kp_record.specs.Record.{Record, record_spelling, record_fields, records_spelling}
use Rattle.kp_record.specs.Varint.{varint, varint_within, sized, sized_or_null}
use Rattle.kp_batch.specs.Batch.{Body, Plain, IsBody, size_of, covered}
use Rattle.kp_model.specs.Log.{Batch}
use Rattle.kp_model.specs.Transactions.{open_in, stable}
use Rattle.kp_model.specs.Visible.{readable}
use Rattle.kp_model.specs.Admission.{admit}
use Rattle.kp_model.specs.World.{LeaderAndIsr, Mode, Leads, Node, World, start, with_record, no_reports}
use Rattle.kp_model.specs.Event.{Act, Adopt, Produce, Raise, Show, Read, Elect, Acts}
use Rattle.kp_model.specs.Event.{Line, Refused, NowLeads, At, MarkAt, Changed, Shown, Lines}
use Rattle.kp_model.specs.Effect.{Effect, becomes}
use Rattle.kp_model.specs.Local.{cause, Happens}
use Rattle.kp_model.specs.Step.{Step, NodeStep, moved, answered, told, IsGiven}
use Rattle.kp_model.specs.Run.{Run, extend, held}
use Rattle.kp_model.proofs.OneStep.Steps.{happened, was_refused}

-- an action that happens, and one that is refused
abbrev did : (w : World) (n : ℕ) (act : Act) (e : Effect) → n < w.count → IsGiven w.messages act
    → cause w.controller n (w.nodes n) act ≡ None → Happens w.controller n (w.nodes n) act e
    → NodeStep w n act (answered w.messages e) (moved w n e)
did w n act e counted given free h =
    record {
      counted = counted;
      given = given;
      effect = e;
      local = happened w.controller n (w.nodes n) act e free h;
      outcome_is = refl;
      new_is = refl;
    }

abbrev refuses : World → ℕ → Refusal → Effect
refuses w n refusal = becomes (w.nodes n) (Refused refusal)

abbrev did_not : (w : World) (n : ℕ) (act : Act) (refusal : Refusal) → n < w.count → IsGiven w.messages act
    → cause w.controller n (w.nodes n) act ≡ Some refusal
    → NodeStep w n act (told (Refused refusal)) (moved w n (refuses w n refusal))
did_not w n act refusal counted given held =
    record {
      counted = counted;
      given = given;
      effect = refuses w n refusal;
      local = was_refused w.controller n (w.nodes n) act refusal held;
      outcome_is = refl;
      new_is = refl;
    }

-- one record, of time 1000, with the value "a"
abbrev letter : Record
letter = record { time = 1000; key = None; value = Some (0x61 ∷ []); headers = [] }

abbrev body : Body
body = record { base_time = 1000; content = Plain (letter ∷ []) }

abbrev batch : Batch
batch = record { base = 0; epoch = 0; body = body }

abbrev leads : Mode
leads = Leads (record { epoch = 0; isr = 0 ∷ []; version = 1; pending = None; start = 0; reported = no_reports })

abbrev node : List Batch → ℕ → Node
node log watermark = record { log = log; watermark = watermark; checkpoint = 0; life = 0; kept = Some 0; mode = leads }

-- elect 0
abbrev chosen : LeaderAndIsr
chosen = record { leader = Some (record { node = 0; epoch = 0 }); isr = 0 ∷ []; version = 1 }

abbrev w1 : World
w1 = with_record (start 1) chosen

e1 : Step (start 1) (Elect 0) (told (Changed chosen)) w1
e1 = (refl, refl)

-- produce at 0, too early: it does not lead yet
e1_produce : Step w1 (Acts 0 (Produce (Ok body))) (told (Refused refusals.NotLeader))
    (moved w1 0 (refuses w1 0 refusals.NotLeader))
e1_produce = did_not w1 0 (Produce (Ok body)) refusals.NotLeader (omega arith) tt refl

-- adopt 0
abbrev a2 : Effect
a2 = becomes (node [] 0) (NowLeads 0 0)

abbrev w2 : World
w2 = moved w1 0 a2

e2 : Step w1 (Acts 0 Adopt) (told (NowLeads 0 0)) w2
e2 = did w1 0 Adopt a2 (omega arith) tt refl refl

-- adopt 0 again: the record is no news
e2_adopt : Step w2 (Acts 0 Adopt) (told (Refused refusals.StaleRecord))
    (moved w2 0 (refuses w2 0 refusals.StaleRecord))
e2_adopt = did_not w2 0 Adopt refusals.StaleRecord (omega arith) tt refl

-- produce at 0
lawful : IsBody body
unfolding size_of covered record_spelling record_fields records_spelling varint varint_within sized sized_or_null
lawful =
    record {
      some = omega arith;
      records = (record { time = omega arith; key = tt; value = (omega arith, tt); headers = tt }, tt);
      base_time = omega arith;
      content = tt;
      length = omega arith;
    }

abbrev a3 : Effect
a3 = becomes (node (batch ∷ []) 0) (At 0)

abbrev w3 : World
w3 = moved w2 0 a3

e3 : Step w2 (Acts 0 (Produce (Ok body))) (told (At 0)) w3
unfolding admit
e3 = did w2 0 (Produce (Ok body)) a3 (omega arith) tt refl (lawful, refl)

-- read 0 from 0: nothing lies below the watermark yet
abbrev a4 : Effect
a4 = becomes (node (batch ∷ []) 0) (Lines [])

abbrev w4 : World
w4 = moved w3 0 a4

e4 : Step w3 (Acts 0 (Read 0)) (told (Lines [])) w4
unfolding readable
e4 = did w3 0 (Read 0) a4 (omega arith) tt refl refl

-- raise 0: it is alone in sync, so its own end is committed
abbrev a5 : Effect
a5 = becomes (node (batch ∷ []) 1) (MarkAt 1)

abbrev w5 : World
w5 = moved w4 0 a5

e5 : Step w4 (Acts 0 Raise) (told (MarkAt 1)) w5
e5 = did w4 0 Raise a5 (omega arith) tt refl refl

-- read 0 from 0: the record
abbrev line : Line
line = record { offset = 0; value = Some (0x61 ∷ []) }

abbrev a6 : Effect
a6 = becomes (node (batch ∷ []) 1) (Lines (line ∷ []))

abbrev w6 : World
w6 = moved w5 0 a6

e6 : Step w5 (Acts 0 (Read 0)) (told (Lines (line ∷ []))) w6
unfolding readable
e6 = did w5 0 (Read 0) a6 (omega arith) tt refl refl

-- show 0: its life, its log's end, its watermark and its stable offset
abbrev a7 : Effect
a7 = becomes (node (batch ∷ []) 1) (Shown 0 1 1 1)

abbrev w7 : World
w7 = moved w6 0 a7

e7 : Step w6 (Acts 0 Show) (told (Shown 0 1 1 1)) w7
unfolding stable open_in
e7 = did w6 0 Show a7 (omega arith) tt refl refl

-- read 0 from 2: that is past the end
e7_read : Step w7 (Acts 0 (Read 2)) (told (Refused refusals.OffsetOutOfRange))
    (moved w7 0 (refuses w7 0 refusals.OffsetOutOfRange))
e7_read = did_not w7 0 (Read 2) refusals.OffsetOutOfRange (omega arith) tt refl

-- the run, extended by one step after another
abbrev none : Run 1
none = record { moments = []; is_run = tt }

abbrev adopted : Run 1
adopted = extend (extend none (Elect 0) (told (Changed chosen)) w1 e1) (Acts 0 Adopt) (told (NowLeads 0 0)) w2 e2

abbrev raised : Run 1
raised =
    extend
    (extend (extend adopted (Acts 0 (Produce (Ok body))) (told (At 0)) w3 e3) (Acts 0 (Read 0)) (told (Lines [])) w4 e4)
    (Acts 0 Raise) (told (MarkAt 1)) w5 e5

whole : Run 1
whole =
    extend (extend raised (Acts 0 (Read 0)) (told (Lines (line ∷ []))) w6 e6)
    (Acts 0 Show) (told (Shown 0 1 1 1)) w7 e7

committed : held (w7.nodes 0) ≡ batch ∷ []
committed = refl

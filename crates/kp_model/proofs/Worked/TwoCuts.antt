-- A reconciliation in two rounds, step by step: a leader's log with epochs 1 from 0, 2 from 3 and 4 from 5, and a follower's with
-- epochs 1 from 0 and 3 from 4. Each answer tells where an epoch ends, the follower cuts to 4, then to 3, and is sent batches
-- from there. Each effect and each answer is what the definitions compute.
use Rattle.std.proofs.Common.{◌≡◌, ℕ, ◌≤◌, List, [], ◌∷◌, ◌++◌, length, append_assoc, Option, Some, None, refl, sym, ap, ◌∙◌, arith, inl, inr}
use Rattle.kp_record.specs.Record.{Record, record_spelling, record_fields, records_spelling}
use Rattle.kp_record.specs.Varint.{varint, varint_within, sized, sized_or_null}
use Rattle.kp_batch.specs.Batch.{Plain, size_of, covered}
use Rattle.kp_model.specs.Beginning.{Begins}
use Rattle.kp_model.specs.Log.{Batch}
use Rattle.kp_model.specs.Epochs.{end_for, cut_place}
use Rattle.kp_model.specs.World.{LeaderAndIsr, Mode, Node, Leads, Follows, Request, Answer, Asks, Answers, World, no_reports}
use Rattle.kp_model.specs.Event.{Ask, Receive, Acts, Deliver, AsksFrom, SentBatches, SentDiverging, Took, Cut}
use Rattle.kp_model.specs.Effect.{Effect, becomes, sends}
use Rattle.kp_model.specs.Fetching.{Cuts}
use Rattle.kp_model.specs.Step.{Step, moved, told}
use Rattle.kp_model.proofs.Worked.ExampleRun.{did}
use Rattle.std.specs.Prelude.{if◌then◌else◌, ◌==◌}

abbrev letter : Record
letter = record { time = 10; key = None; value = Some (0x61 ∷ []); headers = [] }

abbrev at : ℕ → ℕ → List Record → Batch
at base epoch records = record { base = base; epoch = epoch; body = record { base_time = 10; content = Plain records } }

-- both logs begin with the first batch, and with no more
abbrev shared : Batch
shared = at 0 1 (letter ∷ letter ∷ letter ∷ [])

abbrev theirs : List Batch
theirs = shared ∷ at 3 2 (letter ∷ letter ∷ []) ∷ at 5 4 (letter ∷ letter ∷ []) ∷ []

abbrev whole : List Batch
whole = shared ∷ at 3 1 (letter ∷ []) ∷ at 4 3 (letter ∷ letter ∷ []) ∷ []

abbrev cut_once : List Batch
cut_once = shared ∷ at 3 1 (letter ∷ []) ∷ []

abbrev record_is : LeaderAndIsr
record_is = record { leader = Some (record { node = 0; epoch = 4 }); isr = 0 ∷ []; version = 6 }

abbrev leads : List (Option ℕ) → Mode
leads reported = Leads (record { epoch = 4; isr = 0 ∷ []; version = 6; pending = None; start = 5; reported = reported })

abbrev follows : Mode
follows = Follows (record { leader = 0; epoch = 4 })

abbrev node : List Batch → ℕ → Mode → Node
node log watermark mode = record { log = log; watermark = watermark; checkpoint = 0; life = 0; kept = Some 4; mode = mode }

abbrev asks : List Batch → Request
asks log = record { from = 1; to = 0; life = 0; epoch = 4; log = log }

abbrev answers : List Batch → Answer
answers log = record { request = asks log; log = theirs; watermark = 0 }

abbrev w0 : World
w0 =
    record {
      count = 2;
      controller = record_is;
      nodes = λ n. if n == 0 then node theirs 0 (leads no_reports) else node whole 0 follows;
      messages = [];
    }

apart : (common : List Batch) → Begins common whole → Begins common theirs → length common ≤ 1
apart [] p q = omega arith
apart (x ∷ []) p q = omega arith
apart (x ∷ y ∷ ys) p q =
    let first : y ≡ at 3 1 (letter ∷ []) = (let is = p.is in cc) in
    let second : y ≡ at 3 2 (letter ∷ letter ∷ []) = (let is = q.is in cc) in
    absurd (let epochs : 1 ≡ 2 = ap (λ (b : Batch). b.epoch) (sym first ∙ second) in omega arith)

apart_once : (common : List Batch) → Begins common cut_once → Begins common theirs → length common ≤ 1
apart_once common p q =
    let last : Batch = at 4 3 (letter ∷ letter ∷ []) in
    apart common
    (record { rest = p.rest ++ last ∷ []; is = sym (append_assoc common p.rest (last ∷ [])) ∙ ap (λ (l : List Batch). l ++ last ∷ []) p.is }) q

diverge : Begins whole theirs → ⊥
diverge p = let short = apart whole (record { rest = []; is = refl }) p in omega arith

diverge_once : Begins cut_once theirs → ⊥
diverge_once p = let short = apart_once cut_once (record { rest = []; is = refl }) p in omega arith

-- ask 1, deliver 0: the leader has no epoch 3, and its epoch 2 ends at 5
abbrev a1 : Effect
a1 = sends (node whole 0 follows) (Asks (asks whole)) (AsksFrom 6 (Some 3))

abbrev w1 : World
w1 = moved w0 1 a1

e1 : Step w0 (Acts 1 Ask) (record { reply = AsksFrom 6 (Some 3); number = Some 0 }) w1
e1 = did w0 1 Ask a1 (omega arith) tt refl refl

abbrev a2 : Effect
a2 = sends (node theirs 0 (leads no_reports)) (Answers (answers whole)) (SentDiverging (Some (2, 5)))

abbrev w2 : World
w2 = moved w1 0 a2

e2 : Step w1 (Deliver 0) (record { reply = SentDiverging (Some (2, 5)); number = Some 1 }) w2
unfolding end_for
e2 = did w1 0 (Receive (Asks (asks whole))) a2 (omega arith) (0, refl) refl (inr (diverge, refl))

-- deliver 1: the follower has no epoch 2, and cuts at the end of its epoch 1
abbrev a3 : Effect
a3 = becomes (node cut_once 0 follows) (Cut 4)

abbrev w3 : World
w3 = moved w2 1 a3

first_place : cut_place whole (Some (2, 5)) ≡ 4
unfolding cut_place end_for
first_place = refl

first_cut : Cuts (w2.nodes 1) (answers whole) a3
first_cut =
    record {
      diverges = diverge;
      same = refl;
      left = cut_once;
      common = shared ∷ [];
      begins = record { rest = at 4 3 (letter ∷ letter ∷ []) ∷ []; is = refl };
      is_common =
          record {
            first = record { rest = at 3 1 (letter ∷ []) ∷ at 4 3 (letter ∷ letter ∷ []) ∷ []; is = refl };
            second = record { rest = at 3 2 (letter ∷ letter ∷ []) ∷ at 5 4 (letter ∷ letter ∷ []) ∷ []; is = refl };
            longest = apart;
          };
      keeps = record { rest = at 3 1 (letter ∷ []) ∷ []; is = refl };
      shorter = omega arith;
      effect_is = refl;
    }

e3 : Step w2 (Deliver 1) (told (Cut 4)) w3
unfolding end_for
e3 = did w2 1 (Receive (Answers (answers whole))) a3 (omega arith) (1, refl) refl first_cut

-- ask 1, deliver 2, deliver 3: the leader's epoch 1 ends at 3, and there the logs part
abbrev a4 : Effect
a4 = sends (node cut_once 0 follows) (Asks (asks cut_once)) (AsksFrom 4 (Some 1))

abbrev w4 : World
w4 = moved w3 1 a4

e4 : Step w3 (Acts 1 Ask) (record { reply = AsksFrom 4 (Some 1); number = Some 2 }) w4
e4 = did w3 1 Ask a4 (omega arith) tt refl refl

abbrev a5 : Effect
a5 = sends (node theirs 0 (leads no_reports)) (Answers (answers cut_once)) (SentDiverging (Some (1, 3)))

abbrev w5 : World
w5 = moved w4 0 a5

e5 : Step w4 (Deliver 2) (record { reply = SentDiverging (Some (1, 3)); number = Some 3 }) w5
unfolding end_for
e5 = did w4 0 (Receive (Asks (asks cut_once))) a5 (omega arith) (2, refl) refl (inr (diverge_once, refl))

abbrev a6 : Effect
a6 = becomes (node (shared ∷ []) 0 follows) (Cut 3)

abbrev w6 : World
w6 = moved w5 1 a6

second_place : cut_place cut_once (Some (1, 3)) ≡ 3
unfolding cut_place end_for
second_place = refl

second_cut : Cuts (w5.nodes 1) (answers cut_once) a6
second_cut =
    record {
      diverges = diverge_once;
      same = refl;
      left = shared ∷ [];
      common = shared ∷ [];
      begins = record { rest = at 3 1 (letter ∷ []) ∷ []; is = refl };
      is_common =
          record {
            first = record { rest = at 3 1 (letter ∷ []) ∷ []; is = refl };
            second = record { rest = at 3 2 (letter ∷ letter ∷ []) ∷ at 5 4 (letter ∷ letter ∷ []) ∷ []; is = refl };
            longest = apart_once;
          };
      keeps = record { rest = []; is = refl };
      shorter = omega arith;
      effect_is = refl;
    }

e6 : Step w5 (Deliver 3) (told (Cut 3)) w6
unfolding end_for
e6 = did w5 1 (Receive (Answers (answers cut_once))) a6 (omega arith) (3, refl) refl second_cut

-- ask 1, deliver 4, deliver 5: from 3 on the leader's log goes on
abbrev a7 : Effect
a7 = sends (node (shared ∷ []) 0 follows) (Asks (asks (shared ∷ []))) (AsksFrom 3 (Some 1))

abbrev w7 : World
w7 = moved w6 1 a7

e7 : Step w6 (Acts 1 Ask) (record { reply = AsksFrom 3 (Some 1); number = Some 4 }) w7
e7 = did w6 1 Ask a7 (omega arith) tt refl refl

abbrev a8 : Effect
a8 =
    sends (node theirs 0 (leads (None ∷ Some 3 ∷ None ∷ None ∷ None ∷ None ∷ None ∷ [])))
    (Answers (answers (shared ∷ []))) (SentBatches 2 0)

abbrev w8 : World
w8 = moved w7 0 a8

e8 : Step w7 (Deliver 4) (record { reply = SentBatches 2 0; number = Some 5 }) w8
unfolding end_for size_of covered record_spelling record_fields records_spelling varint varint_within sized sized_or_null
e8 =
    did w7 0 (Receive (Asks (asks (shared ∷ [])))) a8 (omega arith) (4, refl) refl
    (inl (record { rest = at 3 2 (letter ∷ letter ∷ []) ∷ at 5 4 (letter ∷ letter ∷ []) ∷ []; is = refl }, refl))

abbrev a9 : Effect
a9 = becomes (node theirs 0 follows) (Took 7 0)

e9 : Step w8 (Deliver 5) (told (Took 7 0)) (moved w8 1 a9)
unfolding end_for size_of covered record_spelling record_fields records_spelling varint varint_within sized sized_or_null
e9 =
    did w8 1 (Receive (Answers (answers (shared ∷ [])))) a9 (omega arith) (5, refl) refl
    (record { begins = record { rest = at 3 2 (letter ∷ letter ∷ []) ∷ at 5 4 (letter ∷ letter ∷ []) ∷ []; is = refl }; same = refl }, refl)

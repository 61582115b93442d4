-- A reconciliation in two rounds, step by step: two nodes lead in turn, each appends what the other one lacks, and the one
-- that leads last has its log taken over by the other. An answer that comes again is refused. It goes on from the short
-- run; all batches have one body. Each effect and each answer is what the definitions compute.
use Rattle.std.proofs.Common.{◌≡◌, ℕ, ◌+◌, ◌≤◌, List, [], ◌∷◌, ◌++◌, length, append_assoc, Option, Some, None, Ok, refl, sym, ap, ◌∙◌, arith, inl, inr}
use Rattle.std.specs.Prelude.{◌==◌}
use Rattle.std.proofs.lemmas.Bool.{false≢true}
use Rattle.kp_types.specs.declared.refusal.Refusal.TheVariants as refusals
use Rattle.kp_record.specs.Record.{record_spelling, record_fields, records_spelling}
use Rattle.kp_record.specs.Varint.{varint, varint_within, sized, sized_or_null}
use Rattle.kp_batch.specs.Batch.{size_of, covered}
use Rattle.kp_model.specs.Beginning.{Begins}
use Rattle.kp_model.specs.Log.{Batch}
use Rattle.kp_model.specs.Epochs.{end_for, cut_place}
use Rattle.kp_model.specs.Admission.{admit}
use Rattle.kp_model.specs.World.{LeaderAndIsr, Mode, Leads, Follows, Request, Answer, Asks, Answers, World, with_record, no_reports, Node}
use Rattle.kp_model.specs.Event.{Adopt, Produce, Ask, Receive, Raise, Elect, Acts, Deliver, Refused, NowLeads, NowFollows, At, AsksFrom, SentBatches, SentDiverging, Took, Cut, MarkAt, Changed}
use Rattle.kp_model.specs.Effect.{Effect, becomes, sends}
use Rattle.kp_model.specs.Fetching.{Cuts}
use Rattle.kp_model.specs.Step.{Step, moved, told}
use Rattle.kp_model.specs.Run.{Run, extend, held}
use Rattle.kp_model.specs.Laws.{IsRound, IsTake, IsReconciled}
use Rattle.kp_model.proofs.OneStep.Steps.{happened, was_refused}
use Rattle.kp_model.proofs.Cuts.Cutting.{rounds_and_a_take_reconcile}
use Rattle.kp_model.proofs.Worked.ExampleRun.{did, body, leader, lawful, w7, taken}

-- the batches by their base offset and leader epoch
abbrev at : ℕ → ℕ → Batch
at base epoch = record { base = base; epoch = epoch; body = body }

-- what node 0 led with, what node 1 leads with
abbrev own : List Batch
own = at 0 0 ∷ at 1 0 ∷ at 2 2 ∷ []

abbrev theirs : List Batch
theirs = at 0 0 ∷ at 1 1 ∷ at 2 3 ∷ []

abbrev node : ℕ → List Batch → ℕ → Mode → Node
node kept log watermark mode = record { log = log; watermark = watermark; checkpoint = 0; life = 0; kept = Some kept; mode = mode }

abbrev by : ℕ → ℕ → LeaderAndIsr
by n epoch = record { leader = Some (record { node = n; epoch = epoch }); isr = 0 ∷ 1 ∷ []; version = epoch + 1 }

abbrev leads : ℕ → ℕ → List (Option ℕ) → Mode
leads epoch start reported = Leads (record { epoch = epoch; isr = 0 ∷ 1 ∷ []; version = epoch + 1; pending = None; start = start; reported = reported })

abbrev follows : Mode
follows = Follows (record { leader = 1; epoch = 3 })

abbrev asks : List Batch → Request
asks log = record { from = 0; to = 1; life = 0; epoch = 3; log = log }

abbrev answers : List Batch → Answer
answers log = record { request = asks log; log = theirs; watermark = 0 }

abbrev heard : List (Option ℕ)
heard = None ∷ Some 0 ∷ None ∷ None ∷ None ∷ None ∷ None ∷ []

-- produce at 0, elect 1, adopt 1, produce at 1
abbrev a8 : Effect
a8 = becomes (node 0 (at 0 0 ∷ at 1 0 ∷ []) 0 (Leads (leader heard))) (At 1)

abbrev w8 : World
w8 = moved w7 0 a8

e8 : Step w7 (Acts 0 (Produce (Ok body))) (told (At 1)) w8
unfolding admit
e8 = did w7 0 (Produce (Ok body)) a8 (omega arith) tt refl (lawful, refl)

abbrev w9 : World
w9 = with_record w8 (by 1 1)

e9 : Step w8 (Elect 1) (told (Changed (by 1 1))) w9
e9 = (refl, refl)

abbrev a10 : Effect
a10 = becomes (node 1 (at 0 0 ∷ []) 0 (leads 1 1 no_reports)) (NowLeads 1 1)

abbrev w10 : World
w10 = moved w9 1 a10

e10 : Step w9 (Acts 1 Adopt) (told (NowLeads 1 1)) w10
e10 = did w9 1 Adopt a10 (omega arith) tt refl refl

abbrev a11 : Effect
a11 = becomes (node 1 (at 0 0 ∷ at 1 1 ∷ []) 0 (leads 1 1 no_reports)) (At 1)

abbrev w11 : World
w11 = moved w10 1 a11

e11 : Step w10 (Acts 1 (Produce (Ok body))) (told (At 1)) w11
unfolding admit
e11 = did w10 1 (Produce (Ok body)) a11 (omega arith) tt refl (lawful, refl)

-- elect 0, adopt 0, produce at 0
abbrev w12 : World
w12 = with_record w11 (by 0 2)

e12 : Step w11 (Elect 0) (told (Changed (by 0 2))) w12
e12 = (refl, refl)

abbrev a13 : Effect
a13 = becomes (node 2 (at 0 0 ∷ at 1 0 ∷ []) 0 (leads 2 2 no_reports)) (NowLeads 2 2)

abbrev w13 : World
w13 = moved w12 0 a13

e13 : Step w12 (Acts 0 Adopt) (told (NowLeads 2 2)) w13
e13 = did w12 0 Adopt a13 (omega arith) tt refl refl

abbrev a14 : Effect
a14 = becomes (node 2 own 0 (leads 2 2 no_reports)) (At 2)

abbrev w14 : World
w14 = moved w13 0 a14

e14 : Step w13 (Acts 0 (Produce (Ok body))) (told (At 2)) w14
unfolding admit
e14 = did w13 0 (Produce (Ok body)) a14 (omega arith) tt refl (lawful, refl)

-- elect 1, adopt 1, produce at 1, adopt 0: node 0 follows
abbrev w15 : World
w15 = with_record w14 (by 1 3)

e15 : Step w14 (Elect 1) (told (Changed (by 1 3))) w15
e15 = (refl, refl)

abbrev a16 : Effect
a16 = becomes (node 3 (at 0 0 ∷ at 1 1 ∷ []) 0 (leads 3 2 no_reports)) (NowLeads 3 2)

abbrev w16 : World
w16 = moved w15 1 a16

e16 : Step w15 (Acts 1 Adopt) (told (NowLeads 3 2)) w16
e16 = did w15 1 Adopt a16 (omega arith) tt refl refl

abbrev a17 : Effect
a17 = becomes (node 3 theirs 0 (leads 3 2 no_reports)) (At 2)

abbrev w17 : World
w17 = moved w16 1 a17

e17 : Step w16 (Acts 1 (Produce (Ok body))) (told (At 2)) w17
unfolding admit
e17 = did w16 1 (Produce (Ok body)) a17 (omega arith) tt refl (lawful, refl)

abbrev a18 : Effect
a18 = becomes (node 3 own 0 follows) (NowFollows 1 3)

abbrev w18 : World
w18 = moved w17 0 a18

e18 : Step w17 (Acts 0 Adopt) (told (NowFollows 1 3)) w18
e18 = did w17 0 Adopt a18 (omega arith) tt refl refl

apart : (common : List Batch) → Begins common own → Begins common theirs → length common ≤ 1
apart [] p q = omega arith
apart (x ∷ []) p q = omega arith
apart (x ∷ y ∷ ys) p q =
    let first : y ≡ at 1 0 = (let is = p.is in cc) in
    let second : y ≡ at 1 1 = (let is = q.is in cc) in
    absurd (false≢true (ap (λ (b : Batch). b.epoch == 1) (sym first ∙ second)))

diverge : Begins own theirs → ⊥
diverge p = let short = apart own (record { rest = []; is = refl }) p in omega arith

-- ask 0, deliver 2: node 1 lacks epoch 2, and answers where its epoch 1 ends. What begins both logs is the first batch at most.
abbrev a19 : Effect
a19 = sends (node 3 own 0 follows) (Asks (asks own)) (AsksFrom 3 (Some 2))

abbrev w19 : World
w19 = moved w18 0 a19

e19 : Step w18 (Acts 0 Ask) (record { reply = AsksFrom 3 (Some 2); number = Some 2 }) w19
e19 = did w18 0 Ask a19 (omega arith) tt refl refl

abbrev a20 : Effect
a20 = sends (node 3 theirs 0 (leads 3 2 no_reports)) (Answers (answers own)) (SentDiverging (Some (1, 2)))

abbrev w20 : World
w20 = moved w19 1 a20

e20 : Step w19 (Deliver 2) (record { reply = SentDiverging (Some (1, 2)); number = Some 3 }) w20
unfolding end_for
e20 = did w19 1 (Receive (Asks (asks own))) a20 (omega arith) (2, refl) refl (inr (diverge, refl))

-- deliver 3: node 0 lacks epoch 1, and cuts at the end of its epoch 0
abbrev a21 : Effect
a21 = becomes (node 3 (at 0 0 ∷ at 1 0 ∷ []) 0 follows) (Cut 2)

abbrev w21 : World
w21 = moved w20 0 a21

first_round : Cuts (w20.nodes 0) (answers own) a21
first_round =
    record {
      diverges = diverge;
      same = refl;
      left = at 0 0 ∷ at 1 0 ∷ [];
      common = at 0 0 ∷ [];
      begins = record { rest = at 2 2 ∷ []; is = refl };
      is_common =
          record {
            first = record { rest = at 1 0 ∷ at 2 2 ∷ []; is = refl };
            second = record { rest = at 1 1 ∷ at 2 3 ∷ []; is = refl };
            longest = apart;
          };
      keeps = record { rest = at 1 0 ∷ []; is = refl };
      shorter = omega arith;
      effect_is = refl;
    }

e21 : Step w20 (Deliver 3) (told (Cut 2)) w21
unfolding end_for
e21 = did w20 0 (Receive (Answers (answers own))) a21 (omega arith) (3, refl) refl first_round

first_place : cut_place own (Some (1, 2)) ≡ 2
unfolding cut_place end_for
first_place = refl

-- ask 0, deliver 4, deliver 5: node 1 has less of epoch 0, and all that is left is common
abbrev cut_once : List Batch
cut_once = at 0 0 ∷ at 1 0 ∷ []

apart_once : (common : List Batch) → Begins common cut_once → Begins common theirs → length common ≤ 1
apart_once common p q = apart common (record { rest = p.rest ++ at 2 2 ∷ []; is = sym (append_assoc common p.rest (at 2 2 ∷ [])) ∙ ap (λ (l : List Batch). l ++ at 2 2 ∷ []) p.is }) q

diverge_once : Begins cut_once theirs → ⊥
diverge_once p = let short = apart_once cut_once (record { rest = []; is = refl }) p in omega arith

abbrev a22 : Effect
a22 = sends (node 3 cut_once 0 follows) (Asks (asks cut_once)) (AsksFrom 2 (Some 0))

abbrev w22 : World
w22 = moved w21 0 a22

e22 : Step w21 (Acts 0 Ask) (record { reply = AsksFrom 2 (Some 0); number = Some 4 }) w22
e22 = did w21 0 Ask a22 (omega arith) tt refl refl

abbrev a23 : Effect
a23 = sends (node 3 theirs 0 (leads 3 2 no_reports)) (Answers (answers cut_once)) (SentDiverging (Some (0, 1)))

abbrev w23 : World
w23 = moved w22 1 a23

e23 : Step w22 (Deliver 4) (record { reply = SentDiverging (Some (0, 1)); number = Some 5 }) w23
unfolding end_for
e23 = did w22 1 (Receive (Asks (asks cut_once))) a23 (omega arith) (4, refl) refl (inr (diverge_once, refl))

abbrev a24 : Effect
a24 = becomes (node 3 (at 0 0 ∷ []) 0 follows) (Cut 1)

abbrev w24 : World
w24 = moved w23 0 a24

second_round : Cuts (w23.nodes 0) (answers cut_once) a24
second_round =
    record {
      diverges = diverge_once;
      same = refl;
      left = at 0 0 ∷ [];
      common = at 0 0 ∷ [];
      begins = record { rest = at 1 0 ∷ []; is = refl };
      is_common =
          record {
            first = record { rest = at 1 0 ∷ []; is = refl };
            second = record { rest = at 1 1 ∷ at 2 3 ∷ []; is = refl };
            longest = apart_once;
          };
      keeps = record { rest = []; is = refl };
      shorter = omega arith;
      effect_is = refl;
    }

e24 : Step w23 (Deliver 5) (told (Cut 1)) w24
unfolding end_for
e24 = did w23 0 (Receive (Answers (answers cut_once))) a24 (omega arith) (5, refl) refl second_round

second_place : cut_place cut_once (Some (0, 1)) ≡ 1
unfolding cut_place end_for
second_place = refl

-- deliver 3 again: the first round's answer is to no request that node 0 would make now
abbrev a25 : Effect
a25 = becomes (w24.nodes 0) (Refused refusals.StaleAnswer)

abbrev w25 : World
w25 = moved w24 0 a25

e25 : Step w24 (Deliver 3) (told (Refused refusals.StaleAnswer)) w25
unfolding end_for
e25 =
    record {
      counted = omega arith;
      given = (3, refl);
      effect = a25;
      local = was_refused (by 1 3) 0 (w24.nodes 0) (Receive (Answers (answers own))) refusals.StaleAnswer refl;
      outcome_is = refl;
      new_is = refl;
    }

-- ask 0, deliver 6, deliver 7: node 0 takes what node 1 has; raise 1: what node 0 has reported is committed
abbrev a26 : Effect
a26 = sends (node 3 (at 0 0 ∷ []) 0 follows) (Asks (asks (at 0 0 ∷ []))) (AsksFrom 1 (Some 0))

abbrev w26 : World
w26 = moved w25 0 a26

e26 : Step w25 (Acts 0 Ask) (record { reply = AsksFrom 1 (Some 0); number = Some 6 }) w26
e26 = did w25 0 Ask a26 (omega arith) tt refl refl

abbrev reports : List (Option ℕ)
reports = Some 1 ∷ None ∷ None ∷ None ∷ None ∷ None ∷ None ∷ []

abbrev a27 : Effect
a27 = sends (node 3 theirs 0 (leads 3 2 reports)) (Answers (answers (at 0 0 ∷ []))) (SentBatches 2 0)

abbrev w27 : World
w27 = moved w26 1 a27

e27 : Step w26 (Deliver 6) (record { reply = SentBatches 2 0; number = Some 7 }) w27
unfolding end_for size_of covered record_spelling record_fields records_spelling varint varint_within sized sized_or_null
e27 = did w26 1 (Receive (Asks (asks (at 0 0 ∷ [])))) a27 (omega arith) (6, refl) refl (inl (record { rest = at 1 1 ∷ at 2 3 ∷ []; is = refl }, refl))

abbrev a28 : Effect
a28 = becomes (node 3 theirs 0 follows) (Took 3 0)

abbrev w28 : World
w28 = moved w27 0 a28

e28 : Step w27 (Deliver 7) (told (Took 3 0)) w28
unfolding end_for size_of covered record_spelling record_fields records_spelling varint varint_within sized sized_or_null
e28 = did w27 0 (Receive (Answers (answers (at 0 0 ∷ [])))) a28 (omega arith) (7, refl) refl
    (record { begins = record { rest = at 1 1 ∷ at 2 3 ∷ []; is = refl }; same = refl }, refl)

abbrev a29 : Effect
a29 = becomes (node 3 theirs 1 (leads 3 2 reports)) (MarkAt 1)

abbrev w29 : World
w29 = moved w28 1 a29

e29 : Step w28 (Acts 1 Raise) (told (MarkAt 1)) w29
e29 = did w28 1 Raise a29 (omega arith) tt refl refl

-- the run, extended by one step after another
abbrev led : Run 2
led =
    extend
    (extend
    (extend
    (extend (extend taken (Acts 0 (Produce (Ok body))) (told (At 1)) w8 e8) (Elect 1) (told (Changed (by 1 1))) w9 e9)
    (Acts 1 Adopt) (told (NowLeads 1 1)) w10 e10)
    (Acts 1 (Produce (Ok body))) (told (At 1)) w11 e11)
    (Elect 0) (told (Changed (by 0 2))) w12 e12

abbrev led_again : Run 2
led_again =
    extend
    (extend
    (extend
    (extend (extend led (Acts 0 Adopt) (told (NowLeads 2 2)) w13 e13) (Acts 0 (Produce (Ok body))) (told (At 2)) w14 e14)
    (Elect 1) (told (Changed (by 1 3))) w15 e15)
    (Acts 1 Adopt) (told (NowLeads 3 2)) w16 e16)
    (Acts 1 (Produce (Ok body))) (told (At 2)) w17 e17

abbrev first_cut : Run 2
first_cut =
    extend
    (extend
    (extend (extend led_again (Acts 0 Adopt) (told (NowFollows 1 3)) w18 e18) (Acts 0 Ask) (record { reply = AsksFrom 3 (Some 2); number = Some 2 }) w19 e19)
    (Deliver 2) (record { reply = SentDiverging (Some (1, 2)); number = Some 3 }) w20 e20)
    (Deliver 3) (told (Cut 2)) w21 e21

abbrev second_cut : Run 2
second_cut =
    extend
    (extend
    (extend (extend first_cut (Acts 0 Ask) (record { reply = AsksFrom 2 (Some 0); number = Some 4 }) w22 e22) (Deliver 4) (record { reply = SentDiverging (Some (0, 1)); number = Some 5 }) w23 e23)
    (Deliver 5) (told (Cut 1)) w24 e24)
    (Deliver 3) (told (Refused refusals.StaleAnswer)) w25 e25

abbrev whole : Run 2
whole =
    extend
    (extend
    (extend (extend second_cut (Acts 0 Ask) (record { reply = AsksFrom 1 (Some 0); number = Some 6 }) w26 e26) (Deliver 6) (record { reply = SentBatches 2 0; number = Some 7 }) w27 e27)
    (Deliver 7) (told (Took 3 0)) w28 e28)
    (Acts 1 Raise) (told (MarkAt 1)) w29 e29

committed : held (w29.nodes 1) ≡ at 0 0 ∷ []
committed = refl

-- ---- the two rounds and the take are what the law of reconciliations speaks of

round_one : IsRound whole 0 3 own cut_once
unfolding end_for
round_one =
    record {
      answer = answers own;
      hears =
          record {
            world = w20;
            is_of = inr (inr (inr (inr (inr (inr (inr (inr (inr (inl refl)))))))));
            sent = (3, refl);
            of_epoch = refl;
            effect = a21;
            local = happened (by 1 3) 0 (w20.nodes 0) (Receive (Answers (answers own))) a21 refl first_round;
            old_is = refl;
            new_is = refl;
          };
      end = 2;
      cut = refl;
    }

round_two : IsRound whole 0 3 cut_once (at 0 0 ∷ [])
unfolding end_for
round_two =
    record {
      answer = answers cut_once;
      hears =
          record {
            world = w23;
            is_of = inr (inr (inr (inr (inr (inr (inl refl))))));
            sent = (5, refl);
            of_epoch = refl;
            effect = a24;
            local = happened (by 1 3) 0 (w23.nodes 0) (Receive (Answers (answers cut_once))) a24 refl second_round;
            old_is = refl;
            new_is = refl;
          };
      end = 1;
      cut = refl;
    }

first_take : IsTake whole 0 3 (answers (at 0 0 ∷ [])) (at 0 0 ∷ []) theirs
unfolding end_for size_of covered record_spelling record_fields records_spelling varint varint_within sized sized_or_null
first_take =
    record {
      hears =
          record {
            world = w27;
            is_of = inr (inr (inl refl));
            sent = (7, refl);
            of_epoch = refl;
            effect = a28;
            local = happened (by 1 3) 0 (w27.nodes 0) (Receive (Answers (answers (at 0 0 ∷ [])))) a28 refl
                (record { begins = record { rest = at 1 1 ∷ at 2 3 ∷ []; is = refl }; same = refl }, refl);
            old_is = refl;
            new_is = refl;
          };
      end = 3;
      mark = 0;
      took = refl;
    }

reconciled : IsReconciled own (at 0 0 ∷ []) theirs theirs
reconciled =
    rounds_and_a_take_reconcile 2 whole w27 0 1 _ (answers (at 0 0 ∷ [])) own (at 0 0 ∷ []) theirs (cut_once ∷ [])
    (inr (inr (inl refl))) refl (round_one, round_two) first_take (7, refl)

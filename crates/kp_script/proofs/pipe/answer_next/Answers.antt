use Rattle.std.proofs.Common.{◌≡◌, ◌∙◌, ◌⊎◌, ◌+◌, None, Some, Ok, Err, inl, inr, refl, ap, rules, tests}
use Rattle.kp_types.specs.Devices.{device_of, faults_of}
use Rattle.kp_types.proofs.Causes.{always}
use Rattle.kp_types.proofs.Fronts.{counted_once}
use Rattle.kp_script.specs.Piped.{fault_line}
use Rattle.kp_script.specs.Piping.{AnswersFront, Unanswered}
use Rattle.kp_script.specs.Reads.{reader_of}
use Rattle.kp_script.specs.declared.reader.Next.TheVariants.{Torn, Whole}
use Rattle.kp_script.proofs.Answering.{stands_torn, wrong_answered}
use Rattle.kp_script.proofs.Played.{by_fault}
use Rattle.kp_script.proofs.pipe.answer_next.Goals as goal

pub returns-in_err-refused-in-Torn-clause-cut : goal.returns-in_err-refused-in-Torn-clause-cut
returns-in_err-refused-in-Torn-clause-cut g c =
    let read : c.next_line.result ≡ Ok Torn = search (rules, tests) in
    let torn = c.next_line.ensures.torn read in
    let r = c.in_err-refused-in-Torn.field-0.0 in
    let left = g.R.Read.remaining (reader_of c.args.reader.now) in
    let left_new = g.R.Read.remaining (reader_of c.next_line.new.self) in
    let known = g.W.Write.contents (device_of c.args.writer.now) in
    let known_new = g.W.Write.contents (device_of c.refuse_line.new.writer) in
    always c.from_residual-in_err-refused-in-Torn.result
    (by_fault r (((c.refuse_line.new.writer ≡ c.args.writer.now) × Unanswered c.args.number left left_new c.args.running.now c.args.running.now)
    ⊎ ((faults_of c.refuse_line.new.writer ≡ faults_of c.args.writer.now + 1) × AnswersFront c.args.number left left_new c.args.running.now c.args.running.now known known_new)) c.in_err-refused-in-Torn.ensures.only
    (λ device. inr (
      counted_once r (faults_of c.args.writer.now) (faults_of c.refuse_line.new.writer) device c.in_err-refused-in-Torn.ensures.counted,
      record {
        line = None;
        read = torn;
        refused = 1;
        answer = fault_line c.args.number;
        stands = stands_torn c.args.number c.args.running.now;
        begun = c.in_err-refused-in-Torn.ensures.begun (ap Err device);
      },
    ))
    (λ memory. inl (c.in_err-refused-in-Torn.ensures.untouched (ap Err memory), inr (None, torn, inl refl))))

pub returns-in_ok-refused-in-Torn-clause-more : goal.returns-in_ok-refused-in-Torn-clause-more
returns-in_ok-refused-in-Torn-clause-more g c =
    let read : c.next_line.result ≡ Ok Torn = search (rules, tests) in
    let known = g.W.Write.contents (device_of c.args.writer.now) in
    let known_new = g.W.Write.contents (device_of c.refuse_line.new.writer) in
    let h = wrong_answered c.args.number None c.args.running.now c.args.running.now (Ok c.in_ok-refused-in-Torn.refused) known known_new
    (stands_torn c.args.number c.args.running.now) c.in_ok-refused-in-Torn.ensures.ok c.in_ok-refused-in-Torn.ensures.one in
    (None, h.0, c.next_line.ensures.torn read, h.1, h.2)

pub returns-in_err-refused-in-Whole-clause-cut : goal.returns-in_err-refused-in-Whole-clause-cut
returns-in_err-refused-in-Whole-clause-cut g c =
    let read : c.next_line.result ≡ Ok Whole = search (rules, tests) in
    let f = c.next_line.ensures.found read in
    let r = c.in_err-refused-in-Whole.field-0.0 in
    let left = g.R.Read.remaining (reader_of c.args.reader.now) in
    let left_new = g.R.Read.remaining (reader_of c.next_line.new.self) in
    let known = g.W.Write.contents (device_of c.args.writer.now) in
    let known_new = g.W.Write.contents (device_of c.answer_line.new.writer) in
    always c.from_residual-in_err-refused-in-Whole.result
    (by_fault r (((c.answer_line.new.writer ≡ c.args.writer.now) × Unanswered c.args.number left left_new c.args.running.now c.answer_line.new.running)
    ⊎ ((faults_of c.answer_line.new.writer ≡ faults_of c.args.writer.now + 1) × AnswersFront c.args.number left left_new c.args.running.now c.answer_line.new.running known known_new)) c.in_err-refused-in-Whole.ensures.only
    (λ device.
    let b = c.in_err-refused-in-Whole.ensures.begun (ap Err device) f.0 (c.line.ensures ∙ f.1) in
    inr (
      counted_once r (faults_of c.args.writer.now) (faults_of c.answer_line.new.writer) device c.in_err-refused-in-Whole.ensures.counted,
      record { line = Some f.0; read = f.2; refused = b.0; answer = b.1; stands = b.2; begun = b.3 },
    ))
    (λ memory. inl (c.in_err-refused-in-Whole.ensures.untouched (ap Err memory), inr (Some f.0, f.2, c.in_err-refused-in-Whole.ensures.stands (ap Err memory) f.0 (c.line.ensures ∙ f.1)))))

pub returns-in_ok-refused-in-Whole-clause-more : goal.returns-in_ok-refused-in-Whole-clause-more
returns-in_ok-refused-in-Whole-clause-more g c =
    let read : c.next_line.result ≡ Ok Whole = search (rules, tests) in
    let f = c.next_line.ensures.found read in
    let h = c.in_ok-refused-in-Whole.ensures.ok f.0 (c.line.ensures ∙ f.1) in
    (Some f.0, h.0, f.2, h.1, h.2)
